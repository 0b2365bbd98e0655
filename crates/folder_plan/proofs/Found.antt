-- What is found of a checked file: its tree, and the modules that its requires mean.
use Rattle.std.proofs.Common.{◌≡◌, ℕ, zero, suc, ◌<◌, Bool, true, false, List, [], ◌∷◌, map, length, refl, ap, sym, ◌∙◌, subst, arith}
use Rattle.std.specs.Prelude.{Option, Some, None, option_map, ◌==◌, slice_get, Contains, if◌then◌else◌}
use Rattle.std.specs.Option.{option_and_then}
use Rattle.std.specs.List.{AllByRecursion, find}
use Rattle.std.proofs.lemmas.Option.{slice_get_within, slice_get-map}
use Rattle.luau_tree.specs.Tree.{Block}
use Rattle.luau_scope.specs.Locals.{requires_of}
use Rattle.luau_scope.specs.declared.reading.RequireSite.{RequireSite}
use Rattle.module_graph.specs.declared.needs.Fate.{Fate}
use Rattle.module_graph.specs.declared.needs.Fate.TheVariants.{Checked}
use Rattle.module_graph.specs.declared.needs.ModuleNeeds.{ModuleNeeds}
use Rattle.module_graph.specs.declared.needs.Need.{Need}
use Rattle.module_graph.specs.declared.node.Call.{Call}
use Rattle.module_graph.specs.declared.node.Node.{Node}
use Rattle.module_graph.specs.Names.{meant_file}
use Rattle.module_graph.specs.Requires.{call_of, node_of, nodes_of, refused_at, calls_at, Requires}
use Rattle.module_graph.specs.Fates.{AreFates, already}
use Rattle.module_graph.proofs.Lists.{Contains-from_get, get-below, calls_at-get}
use Rattle.module_reading.specs.Readings.{required_at}
use Rattle.folder_plan.specs.Files.{File, is_refused, need_of, needs_in, needs_of, all_needs}
use Rattle.folder_plan.specs.Order.{joined, place_of, led_to}

-- an item of lists that are joined is in one of them
pub joined_from : (lists : List (List ℕ)) (k item : ℕ) → slice_get (joined lists) k ≡ Some item
    → (n : ℕ) × (list : List ℕ) × (at : ℕ) × (slice_get lists n ≡ Some list) × (slice_get list at ≡ Some item)
joined_from [] k item e = absurd (cc)
joined_from ([] ∷ lists) k item e = let h = joined_from lists k item e in (suc h.0, h.1, h.2, h.3, h.4)
joined_from ((x ∷ list) ∷ lists) zero item e = (zero, x ∷ list, zero, refl, e)
joined_from ((x ∷ list) ∷ lists) (suc k) item e = pushed (joined_from (list ∷ lists) k item e)
  where
    pushed : ((n : ℕ) × (l : List ℕ) × (at : ℕ) × (slice_get (list ∷ lists) n ≡ Some l) × (slice_get l at ≡ Some item))
        → (n : ℕ) × (l : List ℕ) × (at : ℕ) × (slice_get ((x ∷ list) ∷ lists) n ≡ Some l) × (slice_get l at ≡ Some item)
    pushed (zero, l, at, is, there) = let same : list ≡ l = cc in (zero, x ∷ list, suc at, refl, ap (λ (m : List ℕ). slice_get m at) same ∙ there)
    pushed (suc n, l, at, is, there) = (suc n, l, at, is, there)

-- what holds of all holds of each
pub one_of_all : {X : Type 0} (P : X → Type 0) (xs : List X) (k : ℕ) (x : X) → AllByRecursion P xs → slice_get xs k ≡ Some x → P x
one_of_all P [] k x all e = absurd (cc)
one_of_all P (y ∷ xs) zero x all e = let same : y ≡ x = cc in subst P same all.0
one_of_all P (y ∷ xs) (suc k) x all e = one_of_all P xs k x all.1 e

refused_as : (nodes : List Node) (file : ℕ) (node : Node) → slice_get nodes file ≡ Some node → refused_at nodes file ≡ node.refused
refused_as [] file node e = absurd (cc)
refused_as (n ∷ nodes) zero node e = let same : n ≡ node = cc in ap (λ (k : Node). k.refused) same
refused_as (n ∷ nodes) (suc file) node e = refused_as nodes file node e

length_map : {X Y : Type 0} (f : X → Y) (xs : List X) → length (map f xs) ≡ length xs
length_map f [] = refl
length_map f (x ∷ xs) = ap suc (length_map f xs)

-- a file that isn't refused has a tree
tree_of_unrefused : (tree : Option Block) → (is_refused tree ≡ true → ⊥) → (block : Block) × (tree ≡ Some block)
tree_of_unrefused None n = absurd (n refl)
tree_of_unrefused (Some block) n = (block, refl)

module _ (paths : List (List ℕ)) (files : List File) where
  abbrev nodes : List Node
  nodes = nodes_of (all_needs paths files)

  node_at : (position : ℕ) (file : File) → slice_get files position ≡ Some file → slice_get nodes position ≡ Some (node_of (all_needs paths files) (needs_of paths file))
  node_at position file e =
      slice_get-map (node_of (all_needs paths files)) (all_needs paths files) position
      ∙ ap (λ (o : Option ModuleNeeds). option_map (node_of (all_needs paths files)) o) (slice_get-map (needs_of paths) files position ∙ ap (λ (o : Option File). option_map (needs_of paths) o) e)

  -- a checked file is there and has a tree
  pub checked_tree : (fates : List Fate) → AreFates nodes fates → (position level : ℕ) (needs : List ℕ) → slice_get fates position ≡ Some (Checked level needs)
      → (file : File) × (block : Block) × (slice_get files position ≡ Some file) × (file.tree ≡ Some block)
  checked_tree fates are position level needs e =
      let size : length nodes ≡ length files = length_map (node_of (all_needs paths files)) (all_needs paths files) ∙ length_map (needs_of paths) files in
      let all : length fates ≡ length nodes = are.all in
      let within : position < length fates = slice_get_within fates position (Checked level needs) e in
      let found = get-below files position (omega (arith, size, all, within)) in
      let file : File = found.0 in
      let is = are.each position (Checked level needs) e in
      let tree = tree_of_unrefused file.tree (λ refused. is.0 (already (refused_as nodes position (node_of (all_needs paths files) (needs_of paths file)) (node_at position file found.1) ∙ refused))) in
      (file, tree.0, found.1, tree.1)

  -- a static require of a file with a tree that means a file requires it
  pub site_requires : (position : ℕ) (file : File) (block : Block) → slice_get files position ≡ Some file → file.tree ≡ Some block
      → (k : ℕ) (site : RequireSite) → slice_get (requires_of paths block) k ≡ Some site → (next : ℕ) → meant_file (all_needs paths files) file.path site.text ≡ Some next
      → Requires nodes position next
  site_requires position file block there tree k site is next means =
      let call : Call = call_of (all_needs paths files) file.path (need_of site) in
      let calls : calls_at nodes position ≡ map (call_of (all_needs paths files) file.path) (map need_of (requires_of paths block))
      = calls_at-get nodes position (node_of (all_needs paths files) (needs_of paths file)) (node_at position file there)
      ∙ ap (λ (t : Option Block). if is_refused t then [] else map (call_of (all_needs paths files) file.path) (needs_in paths t)) tree in
      let found : slice_get (map (call_of (all_needs paths files) file.path) (map need_of (requires_of paths block))) k ≡ Some call
      = slice_get-map (call_of (all_needs paths files) file.path) (map need_of (requires_of paths block)) k
      ∙ ap (λ (o : Option Need). option_map (call_of (all_needs paths files) file.path) o) (slice_get-map need_of (requires_of paths block) k ∙ ap (λ (o : Option RequireSite). option_map need_of o) is) in
      (call, subst (λ (cs : List Call). Contains cs call) (sym calls) (Contains-from_get (map (call_of (all_needs paths files) file.path) (map need_of (requires_of paths block))) k call found), means)

-- what a call requires is where the text of one of the requires leads
pub required_from : (sites : List RequireSite) (leads : List ℕ → Option ℕ) (id other : ℕ) → required_at sites leads id ≡ Some other
    → (k : ℕ) × (site : RequireSite) × (slice_get sites k ≡ Some site) × (leads site.text ≡ Some other)
required_from [] leads id other e = absurd (cc)
required_from (site ∷ sites) leads id other e = by_test (site.at.0 == id) e (λ h. required_from sites leads id other h)
  where
    by_test : (b : Bool) → option_and_then (λ (s : RequireSite). leads s.text) (if b then Some site else find (λ (s : RequireSite). s.at.0 == id) sites) ≡ Some other
        → (required_at sites leads id ≡ Some other → (k : ℕ) × (s : RequireSite) × (slice_get sites k ≡ Some s) × (leads s.text ≡ Some other))
        → (k : ℕ) × (s : RequireSite) × (slice_get (site ∷ sites) k ≡ Some s) × (leads s.text ≡ Some other)
    by_test true e later = (zero, site, refl, e)
    by_test false e later = let h = later e in (suc h.0, h.1, h.2, h.3)

-- a way leads to the place of the file that it means
pub led_from : (needs : List ModuleNeeds) (order path way : List ℕ) (other : ℕ) → led_to needs order path way ≡ Some other
    → (file : ℕ) × (meant_file needs path way ≡ Some file) × (place_of file order ≡ Some other)
led_from needs order path way other e = by_option (meant_file needs path way) refl e
  where
    by_option : (o : Option ℕ) → meant_file needs path way ≡ o → option_and_then (λ (file : ℕ). place_of file order) o ≡ Some other
        → (file : ℕ) × (meant_file needs path way ≡ Some file) × (place_of file order ≡ Some other)
    by_option None is e = absurd (cc)
    by_option (Some file) is e = (file, is, e)
