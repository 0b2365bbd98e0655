-- The modules of each level.
use Rattle.std.proofs.Common.{◌≡◌, ◌≢◌, ℕ, zero, suc, ◌+◌, ◌-◌, ◌<◌, ◌≤◌, Bool, true, false, List, [], ◌∷◌, ◌++◌, length, take, drop, get_or, refl, ap, sym, subst, ◌∙◌, arith, inl, inr, add-one, max, eqb, append-nil}
use Rattle.std.specs.Prelude.{Option, Some, None, slice_get, Contains, map, All, ◌⊎◌, if◌then◌else◌, ◌==◌}
use Rattle.std.proofs.lemmas.Bool.{cases_lt, cases_eq, eqb-true, eqb-false}
use Rattle.std.proofs.lemmas.Bool.Decides.{nat_tests}
use Rattle.std.proofs.lemmas.Option.{slice_get_within, slice_get-get_or, get_or_from_slice_get}
use Rattle.module_graph.specs.declared.node.Call.{Call}
use Rattle.module_graph.specs.declared.node.Node.{Node}
use Rattle.module_graph.specs.declared.needs.Fate.{Fate}
use Rattle.module_graph.specs.declared.needs.Fate.TheVariants.{Checked, Refused, Already, Skipped}
use Rattle.module_graph.specs.declared.needs.GraphRefusal.{GraphRefusal}
use Rattle.module_graph.specs.declared.needs.GraphRefusal.TheVariants.{MissingModule, RequireCycle}
use Rattle.module_graph.specs.Requires.{calls_at, refused_at, Requires, HasChain}
use Rattle.module_graph.specs.Fates.{IsRefused, already, misses, cyclic, IsSkipped, by_refused, by_skipped, IsLevel, IsFate, AreFates}
use Rattle.module_graph.specs.Levels.{is_checked_at, level_from, AreDense, AreLevels, IsCount}
use Rattle.module_graph.specs.Search.{IsGraph}
use Rattle.module_graph.proofs.Lists.{get-below, slice_get-take, slice_get-taken, Contains-from_get, get-from_contains}

-- a module is checked at a level exactly where the test says so
at_level : (level own : ℕ) (needs : List ℕ) → level ≡ own → is_checked_at level (Checked own needs) ≡ true
at_level level own needs same = grind (arith, nat_tests)

pub checked-at : (level : ℕ) (fate : Fate) → is_checked_at level fate ≡ true → (needs : List ℕ) × (fate ≡ Checked level needs)
checked-at level (Checked own needs) e = let same : own ≡ level = eqb-true own level e in (needs, ap (λ n. Checked n needs) same)
checked-at level Already e = cc
checked-at level (Refused why at) e = cc
checked-at level (Skipped at needs) e = cc

-- a checked module stands in its level
pub level_from-some : (level start : ℕ) (fates : List Fate) (file : ℕ) (needs : List ℕ) → slice_get fates file ≡ Some (Checked level needs) → level_from level start fates ≡ [] → ⊥
level_from-some level start [] file needs e none = cc
level_from-some level start (fate ∷ fates) zero needs e none =
    let same : fate ≡ Checked level needs = cc in
    let test : is_checked_at level fate ≡ true = ap (λ f. is_checked_at level f) same ∙ at_level level level needs refl in
    let first : level_from level start (fate ∷ fates) ≡ start ∷ level_from level (start + 1) fates = ap (λ b. if b then start ∷ level_from level (start + 1) fates else level_from level (start + 1) fates) test in
    cc
level_from-some level start (fate ∷ fates) (suc file) needs e none = go (is_checked_at level fate) refl (level_from-some level (start + 1) fates file needs e)
  where
    go : (test : Bool) → is_checked_at level fate ≡ test → (level_from level (start + 1) fates ≡ [] → ⊥) → ⊥
    go true t further = let first : level_from level start (fate ∷ fates) ≡ start ∷ level_from level (start + 1) fates = ap (λ b. if b then start ∷ level_from level (start + 1) fates else level_from level (start + 1) fates) t in cc
    go false t further = let rest : level_from level start (fate ∷ fates) ≡ level_from level (start + 1) fates = ap (λ b. if b then start ∷ level_from level (start + 1) fates else level_from level (start + 1) fates) t in further (sym rest ∙ none)

-- a level without a checked module is empty
pub level_from-none : (level start : ℕ) (fates : List Fate) → ((file : ℕ) (needs : List ℕ) → slice_get fates file ≡ Some (Checked level needs) → ⊥) → level_from level start fates ≡ []
level_from-none level start [] none = refl
level_from-none level start (fate ∷ fates) none = go (is_checked_at level fate) refl (level_from-none level (start + 1) fates (λ file needs e. none (suc file) needs e))
  where
    go : (test : Bool) → is_checked_at level fate ≡ test → level_from level (start + 1) fates ≡ [] → level_from level start (fate ∷ fates) ≡ []
    go true t rest = let h = checked-at level fate t in absurd (none 0 h.0 (ap Some h.1))
    go false t rest = ap (λ b. if b then start ∷ level_from level (start + 1) fates else level_from level (start + 1) fates) t ∙ rest

-- what stands in a level is a checked module
pub level_from-found : (level start : ℕ) (fates : List Fate) (module' : ℕ) (rest : List ℕ) → level_from level start fates ≡ module' ∷ rest → (file : ℕ) × (needs : List ℕ) × (slice_get fates file ≡ Some (Checked level needs))
level_from-found level start [] m rest e = cc
level_from-found level start (fate ∷ fates) m rest e = go (is_checked_at level fate) refl (level_from-found level (start + 1) fates m rest)
  where
    go : (test : Bool) → is_checked_at level fate ≡ test → (level_from level (start + 1) fates ≡ m ∷ rest → (file : ℕ) × (needs : List ℕ) × (slice_get fates file ≡ Some (Checked level needs))) → (file : ℕ) × (needs : List ℕ) × (slice_get (fate ∷ fates) file ≡ Some (Checked level needs))
    go true t further = let h = checked-at level fate t in (0, h.0, ap Some h.1)
    go false t further =
        let same : level_from level start (fate ∷ fates) ≡ level_from level (start + 1) fates = ap (λ b. if b then start ∷ level_from level (start + 1) fates else level_from level (start + 1) fates) t in
        let h = further (sym same ∙ e) in
        (suc h.0, h.1, h.2)

-- one more module goes to the end of its level
pub level_from-more : (level start : ℕ) (fates : List Fate) (i : ℕ) (fate : Fate) → slice_get fates i ≡ Some fate → level_from level start (take (suc i) fates) ≡ level_from level start (take i fates) ++ (if is_checked_at level fate then (start + i) ∷ [] else [])
level_from-more level start [] i fate e = cc
level_from-more level start (f ∷ fates) zero fate e =
    let same : f ≡ fate = cc in
    ap (λ g. if is_checked_at level g then start ∷ [] else []) same ∙ ap (λ n. if is_checked_at level fate then n ∷ [] else []) (omega arith)
level_from-more level start (f ∷ fates) (suc i) fate e =
    let rest : level_from level (start + 1) (take (suc i) fates) ≡ level_from level (start + 1) (take i fates) ++ (if is_checked_at level fate then (start + 1 + i) ∷ [] else []) = level_from-more level (start + 1) fates i fate e in
    let place : start + 1 + i ≡ start + suc i = omega arith in
    go (is_checked_at level f) refl (rest ∙ ap (λ n. level_from level (start + 1) (take i fates) ++ (if is_checked_at level fate then n ∷ [] else [])) place)
  where
    go : (test : Bool) → is_checked_at level f ≡ test → level_from level (start + 1) (take (suc i) fates) ≡ level_from level (start + 1) (take i fates) ++ (if is_checked_at level fate then (start + suc i) ∷ [] else []) → level_from level start (take (suc (suc i)) (f ∷ fates)) ≡ level_from level start (take (suc i) (f ∷ fates)) ++ (if is_checked_at level fate then (start + suc i) ∷ [] else [])
    go true t rest =
        ap (λ b. if b then start ∷ level_from level (start + 1) (take (suc i) fates) else level_from level (start + 1) (take (suc i) fates)) t
        ∙ (ap (λ l. start ∷ l) rest
        ∙ ap (λ b. (if b then start ∷ level_from level (start + 1) (take i fates) else level_from level (start + 1) (take i fates)) ++ (if is_checked_at level fate then (start + suc i) ∷ [] else [])) (sym t))
    go false t rest =
        ap (λ b. if b then start ∷ level_from level (start + 1) (take (suc i) fates) else level_from level (start + 1) (take (suc i) fates)) t
        ∙ (rest
        ∙ ap (λ b. (if b then start ∷ level_from level (start + 1) (take i fates) else level_from level (start + 1) (take i fates)) ++ (if is_checked_at level fate then (start + suc i) ∷ [] else [])) (sym t))

-- the number of levels, with one more module
module _ (fates : List Fate) (i : ℕ) (fate : Fate) (here : slice_get fates i ≡ Some fate) (count : ℕ) (counted : IsCount (take i fates) count) where
  front : (file : ℕ) (other : Fate) → slice_get (take (i + 1) fates) file ≡ Some other → (slice_get (take i fates) file ≡ Some other) ⊎ (fate ≡ other)
  front file other e =
      let at = slice_get-take fates (i + 1) file other e in
      let below = at.0 in
      elim (cases_lt file i) [
        | inl before ↦ inl (slice_get-taken fates i file other before at.1)
        | inr last ↦
            (let place : i ≡ file = omega arith in
            let both : Some fate ≡ Some other = sym here ∙ (ap (λ j. slice_get fates j) place ∙ at.1) in
            inr cc)
      ]

  later : (file : ℕ) (other : Fate) → slice_get (take i fates) file ≡ Some other → slice_get (take (i + 1) fates) file ≡ Some other
  later file other e = let at = slice_get-take fates i file other e in let below = at.0 in slice_get-taken fates (i + 1) file other (omega arith) at.1

  pub IsCount-skip : ((level : ℕ) (needs : List ℕ) → fate ≡ Checked level needs → ⊥) → IsCount (take (i + 1) fates) count
  IsCount-skip unchecked = record {
    enough = (λ file level needs e. elim (front file (Checked level needs) e) [
      | inl before ↦ counted.enough file level needs before
      | inr same ↦ absurd (unchecked level needs same)
    ]);
    reached = elim counted.reached [
      | inl none ↦ inl none
      | inr some ↦ inr (some.0, some.1, some.2, later some.0 (Checked some.1 some.2) some.3, some.4)
    ];
  }

  pub IsCount-more : (level : ℕ) (needs : List ℕ) → fate ≡ Checked level needs → (raised : ℕ) → raised ≡ max count (level + 1) → IsCount (take (i + 1) fates) raised
  IsCount-more level needs is raised at = record {
    enough = (λ file own others e. elim (front file (Checked own others) e) [
      | inl before ↦ (let lt = counted.enough file own others before in omega arith)
      | inr same ↦ (let both : Checked level needs ≡ Checked own others = sym is ∙ same in let one : level ≡ own = cc in omega arith)
    ]);
    reached = elim (cases_lt count (level + 1)) [
      | inl lower ↦ inr (i, level, needs, slice_get-taken fates (i + 1) i (Checked level needs) (omega arith) (here ∙ ap Some is), omega arith)
      | inr higher ↦
          (let kept : raised ≡ count = omega arith in
          elim counted.reached [
            | inl none ↦ absurd (omega arith)
            | inr some ↦ inr (some.0, some.1, some.2, later some.0 (Checked some.1 some.2) some.3, kept ∙ some.4)
          ])
    ];
  }

-- the levels that are filled are the levels
pub AreLevels-filled : (fates : List Fate) (levels : List (List ℕ)) → IsCount fates (length levels) → AreDense fates → ((level : ℕ) (modules : List ℕ) → slice_get levels level ≡ Some modules → modules ≡ level_from level 0 fates) → AreLevels fates levels
AreLevels-filled fates levels counted dense each = record {
  each = each;
  inhabited = (λ level d within empty.
      let at : slice_get levels level ≡ Some (get_or levels level d) = slice_get-get_or levels level d within in
      inhabited counted.reached level within (sym (each level (get_or levels level d) at) ∙ empty));
  all = (λ level past. level_from-none level 0 fates (λ file needs e. let lt = counted.enough file level needs e in absurd (omega arith)));
}
  where
    down : (gap level : ℕ) → (level_from (level + gap) 0 fates ≡ [] → ⊥) → level_from level 0 fates ≡ [] → ⊥
    down zero level some none = some (let same : level + 0 ≡ level = omega arith in ap (λ n. level_from n 0 fates) same ∙ none)
    down (suc gap) level some none =
        let same : suc (level + gap) ≡ level + suc gap = omega arith in
        down gap level (dense (level + gap) (λ empty. some (ap (λ n. level_from n 0 fates) (sym same) ∙ empty))) none

    inhabited : (length levels ≡ 0) ⊎ ((file : ℕ) × (level : ℕ) × (needs : List ℕ) × (slice_get fates file ≡ Some (Checked level needs)) × (length levels ≡ level + 1)) → (level : ℕ) → level < length levels → level_from level 0 fates ≡ [] → ⊥
    inhabited (inl none) level within empty = omega arith
    inhabited (inr top) level within empty =
        let high = top.4 in
        let same : top.1 ≡ level + (top.1 - level) = omega arith in
        down (top.1 - level) level (λ nothing. level_from-some top.1 0 fates top.0 top.2 top.3 (ap (λ n. level_from n 0 fates) same ∙ nothing)) empty

module _ (nodes : List Node) (graph : IsGraph nodes) (fates : List Fate) (are : AreFates nodes fates) where
  -- a module that is neither refused nor skipped is checked
  checked_if : (file : ℕ) (fate : Fate) → IsFate nodes file fate → (IsRefused nodes file → ⊥) → (IsSkipped nodes file → ⊥) → (level : ℕ) × (needs : List ℕ) × (fate ≡ Checked level needs)
  checked_if file (Checked level needs) is free unskipped = (level, needs, refl)
  checked_if file Already is free unskipped = absurd (free (already is))
  checked_if file (Refused MissingModule at) is free unskipped = let one = is.1.one in absurd (free (misses (one.0, one.1, one.2)))
  checked_if file (Refused RequireCycle at) is free unskipped = absurd (free (cyclic is.1.1))
  checked_if file (Skipped at needs) is free unskipped = absurd (unskipped is.0)

  -- a checked module requires checked ones, at lower levels
  pub checked-requires : (file level : ℕ) (needs : List ℕ) → slice_get fates file ≡ Some (Checked level needs) → (next : ℕ) → Requires nodes file next → (lower : ℕ) × (others : List ℕ) × (slice_get fates next ≡ Some (Checked lower others)) × (lower < level)
  checked-requires file level needs e next requires =
      let is = are.each file (Checked level needs) e in
      let within : next < length nodes = graph file next requires.0 requires.1 requires.2 in
      let size = are.all in
      let fate = get-below fates next (omega arith) in
      let own = are.each next fate.0 fate.1 in
      let h = checked_if next fate.0 own (λ refused. is.1 (by_refused is.0 requires refused)) (λ skipped. is.1 (by_skipped is.0 requires skipped)) in
      let there : slice_get fates next ≡ Some (Checked h.0 h.1) = fate.1 ∙ ap Some h.2 in
      let stands = are.each next (Checked h.0 h.1) there in
      let longer : suc h.0 ≤ level = is.2.longest (suc h.0) (next, requires, stands.2.chain) in
      (h.0, h.1, there, omega arith)

  -- one of them is at the next lower level, unless it is at the lowest itself
  pub checked-below : (file level : ℕ) (needs : List ℕ) → slice_get fates file ≡ Some (Checked (suc level) needs) → (next : ℕ) × (others : List ℕ) × Requires nodes file next × (slice_get fates next ≡ Some (Checked level others))
  checked-below file level needs e =
      let is = are.each file (Checked (suc level) needs) e in
      let chain = is.2.chain in
      let h = checked-requires file (suc level) needs e chain.0 chain.1 in
      let stands = are.each chain.0 (Checked h.0 h.1) h.2 in
      let low : level ≤ h.0 = stands.2.longest level chain.2 in
      let lt = h.3 in
      let same : h.0 ≡ level = omega arith in
      (chain.0, h.1, chain.1, h.2 ∙ ap (λ n. Some (Checked n h.1)) same)

  pub AreDense-fates : AreDense fates
  AreDense-fates level some = go (level_from (suc level) 0 fates) refl
    where
      go : (modules : List ℕ) → level_from (suc level) 0 fates ≡ modules → level_from level 0 fates ≡ [] → ⊥
      go [] e = absurd (some e)
      go (m ∷ rest) e =
          let h = level_from-found (suc level) 0 fates m rest e in
          let below = checked-below h.0 level h.1 h.2 in
          level_from-some level 0 fates below.0 below.1 below.3

module _ (level : ℕ) (fates : List Fate) (i : ℕ) (fate : Fate) (here : slice_get fates i ≡ Some fate) where
  -- a module that isn't checked at a level leaves it as it is
  pub level_from-same : is_checked_at level fate ≡ false → level_from level 0 (take i fates) ≡ level_from level 0 (take (i + 1) fates)
  level_from-same test =
      let more : level_from level 0 (take (suc i) fates) ≡ level_from level 0 (take i fates) ++ (if is_checked_at level fate then (0 + i) ∷ [] else []) = level_from-more level 0 fates i fate here in
      let same : level_from level 0 (take i fates) ++ (if is_checked_at level fate then (0 + i) ∷ [] else []) ≡ level_from level 0 (take i fates) = ap (λ b. level_from level 0 (take i fates) ++ (if b then (0 + i) ∷ [] else [])) test ∙ append-nil (level_from level 0 (take i fates)) in
      sym (ap (λ n. level_from level 0 (take n fates)) (add-one i) ∙ (more ∙ same))

  -- one that is goes to its end
  pub level_from-added : is_checked_at level fate ≡ true → level_from level 0 (take i fates) ++ i ∷ [] ≡ level_from level 0 (take (i + 1) fates)
  level_from-added test =
      let more : level_from level 0 (take (suc i) fates) ≡ level_from level 0 (take i fates) ++ (if is_checked_at level fate then (0 + i) ∷ [] else []) = level_from-more level 0 fates i fate here in
      let place : 0 + i ≡ i = omega arith in
      let same : level_from level 0 (take i fates) ++ (if is_checked_at level fate then (0 + i) ∷ [] else []) ≡ level_from level 0 (take i fates) ++ i ∷ [] = ap (λ b. level_from level 0 (take i fates) ++ (if b then (0 + i) ∷ [] else [])) test ∙ ap (λ n. level_from level 0 (take i fates) ++ n ∷ []) place in
      sym (ap (λ n. level_from level 0 (take n fates)) (add-one i) ∙ (more ∙ same))

pub other_level : (level own : ℕ) (needs : List ℕ) → (level ≡ own → ⊥) → is_checked_at level (Checked own needs) ≡ false
other_level level own needs differ = grind (arith, nat_tests)

pub own_level : (level : ℕ) (needs : List ℕ) → is_checked_at level (Checked level needs) ≡ true
own_level level needs = at_level level level needs refl

pub unchecked : (level : ℕ) (fate : Fate) → ((own : ℕ) (needs : List ℕ) → fate ≡ Checked own needs → ⊥) → is_checked_at level fate ≡ false
unchecked level (Checked own needs) none = absurd (none own needs refl)
unchecked level Already none = refl
unchecked level (Refused why at) none = refl
unchecked level (Skipped at needs) none = refl

-- a module stands in the list of its level, and nowhere else
pub level_from-has : (level start : ℕ) (fates : List Fate) (file : ℕ) (needs : List ℕ) → slice_get fates file ≡ Some (Checked level needs) → (k : ℕ) × (slice_get (level_from level start fates) k ≡ Some (start + file))
level_from-has level start [] file needs e = cc
level_from-has level start (fate ∷ fates) zero needs e =
    let same : fate ≡ Checked level needs = cc in
    let test : is_checked_at level fate ≡ true = ap (λ f. is_checked_at level f) same ∙ own_level level needs in
    let first : level_from level start (fate ∷ fates) ≡ start ∷ level_from level (start + 1) fates = ap (λ b. if b then start ∷ level_from level (start + 1) fates else level_from level (start + 1) fates) test in
    let place : start ≡ start + 0 = omega arith in
    (0, ap (λ l. slice_get l 0) first ∙ ap Some place)
level_from-has level start (fate ∷ fates) (suc file) needs e =
    let h = level_from-has level (start + 1) fates file needs e in
    let place : start + 1 + file ≡ start + suc file = omega arith in
    go (is_checked_at level fate) refl h.0 (h.1 ∙ ap Some place)
  where
    go : (test : Bool) → is_checked_at level fate ≡ test → (k : ℕ) → slice_get (level_from level (start + 1) fates) k ≡ Some (start + suc file) → (k : ℕ) × (slice_get (level_from level start (fate ∷ fates)) k ≡ Some (start + suc file))
    go true t k at = (suc k, ap (λ b. slice_get (if b then start ∷ level_from level (start + 1) fates else level_from level (start + 1) fates) (suc k)) t ∙ at)
    go false t k at = (k, ap (λ b. slice_get (if b then start ∷ level_from level (start + 1) fates else level_from level (start + 1) fates) k) t ∙ at)

pub level_from-is : (level start : ℕ) (fates : List Fate) (k file : ℕ) → slice_get (level_from level start fates) k ≡ Some file → (i : ℕ) × (needs : List ℕ) × (file ≡ start + i) × (slice_get fates i ≡ Some (Checked level needs))
level_from-is level start [] k file e = cc
level_from-is level start (fate ∷ fates) k file e = go (is_checked_at level fate) refl k e (λ j at. level_from-is level (start + 1) fates j file at)
  where
    go : (test : Bool) → is_checked_at level fate ≡ test → (k : ℕ) → slice_get (level_from level start (fate ∷ fates)) k ≡ Some file → ((j : ℕ) → slice_get (level_from level (start + 1) fates) j ≡ Some file → (i : ℕ) × (needs : List ℕ) × (file ≡ start + 1 + i) × (slice_get fates i ≡ Some (Checked level needs))) → (i : ℕ) × (needs : List ℕ) × (file ≡ start + i) × (slice_get (fate ∷ fates) i ≡ Some (Checked level needs))
    go true t zero at further =
        let first : slice_get (level_from level start (fate ∷ fates)) 0 ≡ Some start = ap (λ b. slice_get (if b then start ∷ level_from level (start + 1) fates else level_from level (start + 1) fates) 0) t in
        let both : Some start ≡ Some file = sym first ∙ at in
        let same : start ≡ file = cc in
        let h = checked-at level fate t in
        (0, h.0, omega arith, ap Some h.1)
    go true t (suc j) at further =
        let next : slice_get (level_from level start (fate ∷ fates)) (suc j) ≡ slice_get (level_from level (start + 1) fates) j = ap (λ b. slice_get (if b then start ∷ level_from level (start + 1) fates else level_from level (start + 1) fates) (suc j)) t in
        let h = further j (sym next ∙ at) in
        let place : file ≡ start + 1 + h.0 = h.2 in
        (suc h.0, h.1, omega arith, h.3)
    go false t k at further =
        let next : slice_get (level_from level start (fate ∷ fates)) k ≡ slice_get (level_from level (start + 1) fates) k = ap (λ b. slice_get (if b then start ∷ level_from level (start + 1) fates else level_from level (start + 1) fates) k) t in
        let h = further k (sym next ∙ at) in
        let place : file ≡ start + 1 + h.0 = h.2 in
        (suc h.0, h.1, omega arith, h.3)

-- a checked module is listed in its level
pub listed-at : (fates : List Fate) (levels : List (List ℕ)) → AreLevels fates levels → (file level : ℕ) (needs : List ℕ) → slice_get fates file ≡ Some (Checked level needs) → (modules : List ℕ) × (slice_get levels level ≡ Some modules) × Contains modules file
listed-at fates levels are file level needs e = elim (cases_lt level (length levels)) [
  | inl within ↦
      (let modules = get-below levels level within in
      let k = level_from-has level 0 fates file needs e in
      let place : 0 + file ≡ file = omega arith in
      (modules.0, modules.1, Contains-from_get modules.0 k.0 file (ap (λ (l : List ℕ). slice_get l k.0) (are.each level modules.0 modules.1) ∙ (k.1 ∙ ap Some place))))
  | inr past ↦ absurd (level_from-some level 0 fates file needs e (are.all level past))
]

-- what is listed in a level is checked there
pub checked-listed : (fates : List Fate) (levels : List (List ℕ)) → AreLevels fates levels → (file level : ℕ) (modules : List ℕ) → slice_get levels level ≡ Some modules → Contains modules file → (needs : List ℕ) × (slice_get fates file ≡ Some (Checked level needs))
checked-listed fates levels are file level modules e has =
    let k = get-from_contains modules file has in
    let h = level_from-is level 0 fates k.0 file (ap (λ (l : List ℕ). slice_get l k.0) (sym (are.each level modules e)) ∙ k.1) in
    let place : h.0 ≡ file = (let at = h.2 in omega arith) in
    (h.1, ap (λ i. slice_get fates i) (sym place) ∙ h.3)
