-- Meets of whole types over arenas, and what is remembered of them.
use Rattle.std.proofs.Common.{◌≡◌, ℕ, zero, suc, ◌<◌, Bool, true, false, List, [], ◌∷◌, ◌++◌, length, get_or, refl, sym, ap, ◌∙◌, subst, arith, inl, inr}
use Rattle.std.specs.Prelude.{◌&&◌, ◌||◌, ◌⊎◌, Some, Result, Ok, Err, IsTrue, All, Contains, slice_set, if◌then◌else◌}
use Rattle.std.specs.List.{insert}
use Rattle.std.specs.HashMap.{get}
use Rattle.std.proofs.lemmas.List.Elements.{All-nil, All-cons, All-head, All-tail, All-contains, All-weaker, Contains-get_or, Contains-append_left, Contains-append_right, Contains-append_cases}
use Rattle.type_arena.specs.Arena.{home_of, below_of, store_of}
use Rattle.type_arena.specs.Homes.{itself, through, by_literal, Given, MayUse, reached, UsesHomes, literal_homes}
use Rattle.type_arena.specs.Meaning.{term_of, term_by, rows_by, fields_by}
use Rattle.type_arena.specs.Store.{Store, node_at, has, refs_of, field_types, row_types, Keeps}
use Rattle.type_arena.specs.Term.{Term, term, Rows, no_rows, more_rows, Fields, free_of}
use Rattle.type_arena.specs.declared.arena.Arena.{Arena}
use Rattle.type_arena.specs.declared.node.Node.{Node}
use Rattle.type_arena.specs.declared.node.Row.{Row}
use Rattle.type_arena.specs.declared.node.TypeRef.{TypeRef}
use Rattle.type_arena.proofs.MeaningLemmas.{term_of-node}
use Rattle.type_normal.specs.Adds.{Adds}
use Rattle.type_normal.specs.Free.{both_free}
use Rattle.type_normal.specs.Operations.{put_field, meet, meet_each, meet_rows, meet_fields}
use Rattle.type_normal.specs.Rows.{put_normal}
use Rattle.type_normal.proofs.AddsFacts.{there_kept, alone}
use Rattle.type_normal.proofs.RowsFacts.{all_fewer}
use Rattle.type_normal.proofs.ShapeFacts.{field_holds_at, field_item_holds}
use Rattle.type_normal.specs.Growing.{given_refs, IsClean}
use Rattle.type_ops.specs.Lists.{append_rows, name_place}
use Rattle.type_ops.specs.Met.{met_each, met_rows, both_node, IsMet, Meets, AreMeets}
use Rattle.type_ops.specs.Normalized.{normal_of}
use Rattle.type_ops.specs.declared.pairs.Pair.{Pair}
use Rattle.type_ops.specs.contracts.pairs.PairPartialEq.TheImpl as PairEq
use Rattle.type_ops.proofs.CompareFacts.{pair_tested}
use Rattle.type_ops.proofs.MeetFacts.{all_given}
use Rattle.type_ops.proofs.NameFacts.{typed_at, with_place, Becomes, placed_means}
use Rattle.type_ops.proofs.GrowFacts.{FromAny, may_reach, home_back, may_on, adds_nothing, adds_more, clean_inner, clean_given, interned_more, interned_clean, fields_kept}
use Rattle.type_ops.proofs.JoinFacts.{first_given, second_given}
use Rattle.type_ops.proofs.SetFacts.{both_strings, both_functions, both_homes}

-- rows that were met, in normal form
each_normal : (b : Bool) (w : Fields → Fields) (o further : Rows) → normal_of (append_rows (met_each b w o) further) ≡ meet_each b w o (normal_of further)
each_normal b w no_rows further = refl
each_normal b w (more_rows c gs o) further = ap (put_normal (b || c) (w gs)) (each_normal b w o further)

met_normal : (r o : Rows) → normal_of (met_rows r o) ≡ meet_rows r o
met_normal no_rows o = refl
met_normal (more_rows b fs r) o = each_normal b (meet_fields fs) o (met_rows r o) ∙ ap (meet_each b (meet_fields fs) o) (met_normal r o)

both_free_of : (n m : Node) (rows : List Row) → free_of (both_node n m rows) ≡ both_free (free_of n) (free_of m)
both_free_of n m rows =
    let s = both_strings n.strings m.strings in
    let f = both_functions n.functions m.functions in
    λ i. record { nil = n.nil && m.nil; truth = n.truth && m.truth; falsity = n.falsity && m.falsity; number = n.number && m.number; other = n.other && m.other; strings = s i; functions = f i }

met_means : (a b c : Arena) (first second met : TypeRef) (n m made : Node) (raw rows : List Row) → node_at (store_of a) first ≡ Some n → node_at (store_of a) second ≡ Some m
    → rows_by (term_of (store_of b)) raw ≡ met_rows (rows_by (term_of (store_of a)) n.rows) (rows_by (term_of (store_of a)) m.rows)
    → rows_by (term_of (store_of b)) rows ≡ normal_of (rows_by (term_of (store_of b)) raw) → made ≡ both_node n m rows
    → term_of (store_of c) met ≡ term_by (term_of (store_of b)) made → term_of (store_of c) met ≡ meet (term_of (store_of a) first) (term_of (store_of a) second)
met_means a b c first second met n m made raw rows e f means normal is meaning =
    meaning ∙ ap (term_by (term_of (store_of b))) is
    ∙ (let x = both_free_of n m rows in let y = normal ∙ ap normal_of means ∙ met_normal (rows_by (term_of (store_of a)) n.rows) (rows_by (term_of (store_of a)) m.rows) in λ i. term (x i) (y i))
    ∙ sym (let x = term_of-node (store_of a) a.sound first n e in let y = term_of-node (store_of a) a.sound second m f in λ i. meet (x i) (y i))

-- what the rows of two nodes may use, the two types may
pair_from : (store : Store) (first second : TypeRef) (n m : Node) (s t : List Row) → node_at store first ≡ Some n → node_at store second ≡ Some m → s ≡ n.rows → t ≡ m.rows
    → (child : TypeRef) → Contains (row_types s ++ row_types t) child → FromAny store (first ∷ second ∷ []) child
pair_from store first second n m s t e f es et child inside = go (Contains-append_cases (row_types s) (row_types t) child inside)
  where
    go : Contains (row_types s) child ⊎ Contains (row_types t) child → FromAny store (first ∷ second ∷ []) child
    go (inl k) = (first, first_given first second, through n e (subst (λ (zs : List Row). Contains (row_types zs) child) es k) itself)
    go (inr k) = (second, second_given first second, through m f (subst (λ (zs : List Row). Contains (row_types zs) child) et k) itself)

pub pair_may : (a : Arena) (first second : TypeRef) (n m : Node) (s t : List Row) → node_at (store_of a) first ≡ Some n → node_at (store_of a) second ≡ Some m → s ≡ n.rows → t ≡ m.rows
    → (home : ℕ) → MayUse (store_of a) (home_of a) (given_refs (row_types s ++ row_types t)) home → MayUse (store_of a) (home_of a) (given_refs (first ∷ second ∷ [])) home
pair_may a first second n m s t e f es et = may_reach (store_of a) (home_of a) (row_types s ++ row_types t) (first ∷ second ∷ []) (pair_from (store_of a) first second n m s t e f es et)

pub pair_adds : (a b : Arena) (first second : TypeRef) (n m p q : Node) (s t : List Row) → node_at (store_of a) first ≡ Some n → node_at (store_of a) second ≡ Some m → p ≡ n → q ≡ m → s ≡ p.rows → t ≡ q.rows
    → Adds a b (given_refs (row_types s ++ row_types t)) [] → Adds a b (given_refs (first ∷ second ∷ [])) []
pair_adds a b first second n m p q s t e f ep eq es et adds =
    adds_more a a b (given_refs (first ∷ second ∷ [])) (given_refs (row_types s ++ row_types t)) [] [] (adds_nothing a (given_refs (first ∷ second ∷ []))) adds
    (pair_may a first second n m s t e f (es ∙ ap (λ (x : Node). x.rows) ep) (et ∙ ap (λ (x : Node). x.rows) eq))

pair_literals : (a : Arena) (first second : TypeRef) (n m : Node) (rows : List Row) → node_at (store_of a) first ≡ Some n → node_at (store_of a) second ≡ Some m
    → All (MayUse (store_of a) (home_of a) (given_refs (first ∷ second ∷ []))) (literal_homes (both_node n m rows).functions)
pair_literals a first second n m rows e f k d l =
    go (get_or (literal_homes (both_node n m rows).functions) k d) (both_homes n.functions m.functions (get_or (literal_homes (both_node n m rows).functions) k d) (Contains-get_or (literal_homes (both_node n m rows).functions) k d l))
  where
    go : (h : ℕ) → Contains (literal_homes n.functions) h ⊎ Contains (literal_homes m.functions) h → MayUse (store_of a) (home_of a) (given_refs (first ∷ second ∷ [])) h
    go h (inl i) = reached first h (first_given first second) (by_literal first n h itself e i)
    go h (inr i) = reached second h (second_given first second) (by_literal second m h itself f i)

pub record TypeMet (a c : Arena) (pair : Pair) (met : TypeRef) : Type 0 where
  pub adds : Adds a c (given_refs (pair.first ∷ pair.second ∷ [])) []
  pub means : term_of (store_of c) met ≡ meet (term_of (store_of a) pair.first) (term_of (store_of a) pair.second)
  pub clean : IsClean a c (given_refs (pair.first ∷ pair.second ∷ [])) met

pub type_met : (a b c : Arena) (pair : Pair) (met : TypeRef) (n m p q made : Node) (s t raw shown rows : List Row) → node_at (store_of a) pair.first ≡ Some n → node_at (store_of a) pair.second ≡ Some m → p ≡ n → q ≡ m → s ≡ p.rows → t ≡ q.rows
    → rows_by (term_of (store_of b)) raw ≡ met_rows (rows_by (term_of (store_of a)) s) (rows_by (term_of (store_of a)) t) → All (λ x. IsTrue (has (store_of b) x)) (row_types raw)
    → All (IsClean a b (given_refs (row_types s ++ row_types t))) (row_types raw) → Adds a b (given_refs (row_types s ++ row_types t)) []
    → shown ≡ raw → rows_by (term_of (store_of b)) rows ≡ normal_of (rows_by (term_of (store_of b)) shown) → ((child : TypeRef) → Contains (row_types rows) child → Contains (row_types shown) child)
    → made ≡ both_node p q rows → node_at (store_of c) met ≡ Some made → term_of (store_of c) met ≡ term_by (term_of (store_of b)) made → met.home ≡ home_of c
    → below_of c ≡ below_of b → home_of c ≡ home_of b → Keeps (store_of b) (store_of c) → ((r : TypeRef) → IsTrue (has (store_of b) r) → term_of (store_of c) r ≡ term_of (store_of b) r)
    → UsesHomes (home_of b) (store_of b) (store_of c) (record { refs = refs_of made; literals = literal_homes made.functions }) (met ∷ []) → TypeMet a c pair met
type_met a b c pair met n m p q made s t raw shown rows e f ep eq es et means there clean adds is normal fewer form found meaning home below own keeps kept uses =
    let g = given_refs (pair.first ∷ pair.second ∷ []) in
    let ws : s ≡ n.rows = es ∙ ap (λ (x : Node). x.rows) ep in
    let wt : t ≡ m.rows = et ∙ ap (λ (x : Node). x.rows) eq in
    let whole : made ≡ both_node n m rows = form ∙ (λ i. both_node (ep i) (eq i) rows) in
    let refs : (child : TypeRef) → Contains (refs_of made) child → Contains (row_types raw) child =
    λ child k. subst (λ (zs : List Row). Contains (row_types zs) child) is (fewer child (subst (λ (x : Node). Contains (refs_of x) child) form k)) in
    let all_there : All (λ x. IsTrue (has (store_of b) x)) (refs_of made) = all_fewer (λ x. IsTrue (has (store_of b) x)) (row_types raw) (refs_of made) refs there in
    let all_clean : All (IsClean a b g) (refs_of made) =
    all_fewer (IsClean a b g) (row_types raw) (refs_of made) refs
    (All-weaker (IsClean a b (given_refs (row_types s ++ row_types t))) (IsClean a b g) (λ r. clean_inner a a b _ _ r (pair_may a pair.first pair.second n m s t e f ws wt)) (row_types raw) clean) in
    let literals : All (MayUse (store_of a) (home_of a) g) (literal_homes made.functions) =
    subst (λ (x : Node). All (MayUse (store_of a) (home_of a) g) (literal_homes x.functions)) (sym whole) (pair_literals a pair.first pair.second n m rows e f) in
    let first : Adds a b g [] = pair_adds a b pair.first pair.second n m p q s t e f ep eq es et adds in
    record {
      adds = interned_more a b c g [] (met ∷ []) made first all_clean literals below own keeps kept uses;
      means = met_means a b c pair.first pair.second met n m made raw rows e f (means ∙ (λ i. met_rows (rows_by (term_of (store_of a)) (ws i)) (rows_by (term_of (store_of a)) (wt i))))
          (normal ∙ ap (λ (zs : List Row). normal_of (rows_by (term_of (store_of b)) zs)) is) whole meaning;
      clean = interned_clean a b c g made met all_clean literals all_there first.home found home own keeps;
    }

-- what is remembered
pub met_on : (a b : Arena) (pair : Pair) (met : TypeRef) (given : Given) (xs : List TypeRef) → Adds a b given xs → IsMet a pair met → IsMet b pair met
met_on a b pair met given xs adds is = record {
  first = there_kept (store_of a) (store_of b) pair.first adds.keeps is.first;
  second = there_kept (store_of a) (store_of b) pair.second adds.keeps is.second;
  made = there_kept (store_of a) (store_of b) met adds.keeps is.made;
  means = adds.kept met is.made ∙ is.means ∙ sym (let x = adds.kept pair.first is.first in let y = adds.kept pair.second is.second in λ i. meet (x i) (y i));
  clean = λ home way.
      subst (λ (own : ℕ). MayUse (store_of b) own (given_refs (pair.first ∷ pair.second ∷ [])) home) (sym adds.home)
      (may_on (store_of a) (store_of b) adds.keeps (home_of a) (given_refs (pair.first ∷ pair.second ∷ [])) home
      (is.clean home (home_back (store_of a) (store_of b) a.sound adds.keeps met home way is.made)));
}

some_is : (a b : TypeRef) → Some a ≡ Some b → b ≡ a
some_is a b e = cc

pub meets_more : (a b : Arena) (given : Given) (xs : List TypeRef) (old new : Meets) (k : Pair) (v : TypeRef) → Adds a b given xs → AreMeets a old → IsMet b k v
    → ((q : Pair) → get PairEq.ghosts.eq new q ≡ (if PairEq.ghosts.eq k q then Some v else get PairEq.ghosts.eq old q)) → AreMeets b new
meets_more a b given xs old new k v adds right is puts q s e = go (PairEq.ghosts.eq k q) refl
  where
    go : (c : Bool) → PairEq.ghosts.eq k q ≡ c → IsMet b q s
    go true m =
        let p : Some v ≡ Some s = sym (puts q ∙ ap (λ (c : Bool). if c then Some v else get PairEq.ghosts.eq old q) m) ∙ e in
        subst (λ (r : TypeRef). IsMet b q r) (sym (some_is v s p)) (subst (λ (r : Pair). IsMet b r v) (pair_tested k q m) is)
    go false m = met_on a b q s given xs adds (right q s (sym (puts q ∙ ap (λ (c : Bool). if c then Some v else get PairEq.ghosts.eq old q) m) ∙ e))

pub made_met : (a c : Arena) (pair : Pair) (met : TypeRef) → TypeMet a c pair met → IsTrue (has (store_of a) pair.first) → IsTrue (has (store_of a) pair.second) → IsTrue (has (store_of c) met) → IsMet c pair met
made_met a c pair met made first second there = record {
  first = there_kept (store_of a) (store_of c) pair.first made.adds.keeps first;
  second = there_kept (store_of a) (store_of c) pair.second made.adds.keeps second;
  made = there;
  means = made.means ∙ sym (let x = made.adds.kept pair.first first in let y = made.adds.kept pair.second second in λ i. meet (x i) (y i));
  clean = λ home way.
      subst (λ (own : ℕ). MayUse (store_of c) own (given_refs (pair.first ∷ pair.second ∷ [])) home) (sym made.adds.home)
      (may_on (store_of a) (store_of c) made.adds.keeps (home_of a) (given_refs (pair.first ∷ pair.second ∷ [])) home (made.clean home way));
}

-- two references that are there
pub both_there : (store : Store) (pair : Pair) → IsTrue (has store pair.first) → IsTrue (has store pair.second) → All (λ at. IsTrue (has store at)) (pair.first ∷ pair.second ∷ [])
both_there store pair first second = All-cons (λ at. IsTrue (has store at)) pair.first (pair.second ∷ []) first (All-cons (λ at. IsTrue (has store at)) pair.second [] second (All-nil (λ at. IsTrue (has store at))))

-- a field that is put into fields, where there is one of its name
same_item : (xs : List (List ℕ × TypeRef)) (k : ℕ) (d e : List ℕ × TypeRef) → k < length xs → get_or xs k d ≡ get_or xs k e
same_item [] k d e l = absurd (omega arith)
same_item (x ∷ xs) zero d e l = refl
same_item (x ∷ xs) (suc k) d e l = same_item xs k d e (omega arith)

pub field_met : (b c : Arena) (given : Given) (field : List ℕ × TypeRef) (met new : List (List ℕ × TypeRef)) (n : ℕ) (d : List ℕ × TypeRef) (both : TypeRef) → Ok n ≡ name_place field.0 met → n < length met → IsTrue (has (store_of b) field.1)
    → All (λ at. IsTrue (has (store_of b) at)) (field_types met) → Adds b c given []
    → term_of (store_of c) both ≡ meet (term_of (store_of b) field.1) (term_of (store_of b) (get_or met n d).1) → new ≡ typed_at met n both
    → fields_by (term_of (store_of c)) new ≡ put_field field.0 (term_of (store_of b) field.1) (meet (term_of (store_of b) field.1)) (fields_by (term_of (store_of b)) met)
field_met b c given field met new n d both place l own there adds means e =
    let t = term_of (store_of b) field.1 in
    let item : term_of (store_of c) (get_or met n d).1 ≡ term_of (store_of b) (get_or met n d).1 = adds.kept (get_or met n d).1 (field_holds_at (λ at. IsTrue (has (store_of b) at)) met n d l there) in
    let becomes : Becomes (term_of (store_of c)) (meet t) (Ok n) both met = λ other.
    means ∙ ap (meet t) (sym item) ∙ ap (λ (x : List ℕ × TypeRef). meet t (term_of (store_of c) x.1)) (same_item met n d other l) in
    ap (fields_by (term_of (store_of c))) (e ∙ ap (λ (p : Result ℕ ℕ). with_place p field.0 field.1 both met) place)
    ∙ placed_means (term_of (store_of c)) (meet t) field.0 field.1 both met (subst (λ (p : Result ℕ ℕ). Becomes (term_of (store_of c)) (meet t) p both met) place becomes)
    ∙ (let x = adds.kept field.1 own in let y = fields_kept b c given [] adds met there in λ i. put_field field.0 (x i) (meet t) (y i))

pub field_goes : (b : Arena) (field : List ℕ × TypeRef) (met new : List (List ℕ × TypeRef)) (n : ℕ) → Err n ≡ name_place field.0 met → new ≡ insert met n field
    → fields_by (term_of (store_of b)) new ≡ put_field field.0 (term_of (store_of b) field.1) (meet (term_of (store_of b) field.1)) (fields_by (term_of (store_of b)) met)
field_goes b field met new n place e =
    ap (fields_by (term_of (store_of b))) (e ∙ ap (λ (p : Result ℕ ℕ). with_place p field.0 field.1 field.1 met) place)
    ∙ placed_means (term_of (store_of b)) (meet (term_of (store_of b) field.1)) field.0 field.1 field.1 met (subst (λ (p : Result ℕ ℕ). Becomes (term_of (store_of b)) (meet (term_of (store_of b) field.1)) p field.1 met) place tt)

-- the references of such fields
typed_refs : (P : TypeRef → Type 0) (fs : List (List ℕ × TypeRef)) (n : ℕ) (at : TypeRef) → All P (field_types fs) → P at → All P (field_types (typed_at fs n at))
typed_refs P [] n at all p = all
typed_refs P (f ∷ fs) zero at all p = All-cons P at (field_types fs) p (All-tail P f.1 (field_types fs) all)
typed_refs P (f ∷ fs) (suc n) at all p = All-cons P f.1 (field_types (typed_at fs n at)) (All-head P f.1 (field_types fs) all) (typed_refs P fs n at (All-tail P f.1 (field_types fs) all) p)

pub all_typed : (P : TypeRef → Type 0) (fs new : List (List ℕ × TypeRef)) (n : ℕ) (at : TypeRef) → new ≡ typed_at fs n at → All P (field_types fs) → P at → All P (field_types new)
all_typed P fs new n at e all p = subst (λ (zs : List (List ℕ × TypeRef)). All P (field_types zs)) (sym e) (typed_refs P fs n at all p)

insert_refs : (P : TypeRef → Type 0) (fs : List (List ℕ × TypeRef)) (n : ℕ) (f : List ℕ × TypeRef) → All P (field_types fs) → P f.1 → All P (field_types (insert fs n f))
insert_refs P [] zero f all p = All-cons P f.1 [] p (All-nil P)
insert_refs P [] (suc n) f all p = All-cons P f.1 [] p (All-nil P)
insert_refs P (g ∷ fs) zero f all p = All-cons P f.1 (field_types (g ∷ fs)) p all
insert_refs P (g ∷ fs) (suc n) f all p = All-cons P g.1 (field_types (insert fs n f)) (All-head P g.1 (field_types fs) all) (insert_refs P fs n f (All-tail P g.1 (field_types fs) all) p)

pub all_inserted : (P : TypeRef → Type 0) (fs new : List (List ℕ × TypeRef)) (n : ℕ) (f : List ℕ × TypeRef) → new ≡ insert fs n f → All P (field_types fs) → P f.1 → All P (field_types new)
all_inserted P fs new n f e all p = subst (λ (zs : List (List ℕ × TypeRef)). All P (field_types zs)) (sym e) (insert_refs P fs n f all p)

-- the type of a field that is put, and that of the field of its name, are given
sub_may : (a : Arena) (refs more : List TypeRef) → ((x : TypeRef) → Contains refs x → Contains more x) → (home : ℕ) → MayUse (store_of a) (home_of a) (given_refs refs) home → MayUse (store_of a) (home_of a) (given_refs more) home
sub_may a refs more sub = may_reach (store_of a) (home_of a) refs more (λ x k. (x, sub x k, itself))

item_inside : (own : TypeRef) (items : List (List ℕ × TypeRef)) (n : ℕ) (item : List ℕ × TypeRef) → n < length items → item ≡ get_or items n item → (x : TypeRef) → Contains (own ∷ item.1 ∷ []) x → Contains (own ∷ field_types items) x
item_inside own items n item l is x inside = go (Contains-append_cases (own ∷ []) (item.1 ∷ []) x inside)
  where
    here : Contains (own ∷ field_types items) item.1
    here = Contains-append_right (own ∷ []) (field_types items) item.1 (field_item_holds (Contains (field_types items)) items n item l is (λ k d m. Contains-get_or (field_types items) k d m))

    go : Contains (own ∷ []) x ⊎ Contains (item.1 ∷ []) x → Contains (own ∷ field_types items) x
    go (inl k) = Contains-append_left (own ∷ []) (field_types items) x k
    go (inr k) = All-contains (Contains (own ∷ field_types items)) (item.1 ∷ []) x (All-cons (Contains (own ∷ field_types items)) item.1 [] here (All-nil (Contains (own ∷ field_types items)))) k

pub item_may : (a : Arena) (own : TypeRef) (items : List (List ℕ × TypeRef)) (n : ℕ) (item : List ℕ × TypeRef) → n < length items → item ≡ get_or items n item
    → (home : ℕ) → MayUse (store_of a) (home_of a) (given_refs (own ∷ item.1 ∷ [])) home → MayUse (store_of a) (home_of a) (given_refs (own ∷ field_types items)) home
item_may a own items n item l is = sub_may a (own ∷ item.1 ∷ []) (own ∷ field_types items) (item_inside own items n item l is)

pub item_adds : (a b : Arena) (own : TypeRef) (items : List (List ℕ × TypeRef)) (n : ℕ) (item : List ℕ × TypeRef) → n < length items → item ≡ get_or items n item
    → Adds a b (given_refs (own ∷ item.1 ∷ [])) [] → Adds a b (given_refs (own ∷ field_types items)) []
item_adds a b own items n item l is adds =
    adds_more a a b (given_refs (own ∷ field_types items)) (given_refs (own ∷ item.1 ∷ [])) [] [] (adds_nothing a (given_refs (own ∷ field_types items))) adds (item_may a own items n item l is)

-- the fields that were given are clean
items_clean : (a b : Arena) (own : TypeRef) (items : List (List ℕ × TypeRef)) → Adds a b (given_refs (own ∷ field_types items)) [] → All (λ at. IsTrue (has (store_of a) at)) (field_types items)
    → All (IsClean a b (given_refs (own ∷ field_types items))) (field_types items)
items_clean a b own items adds there =
    all_given a b (field_types items) (own ∷ field_types items) [] adds there (λ at inside. Contains-append_right (own ∷ []) (field_types items) at inside)

pub typed_clean : (a b : Arena) (own : TypeRef) (items new : List (List ℕ × TypeRef)) (n : ℕ) (item : List ℕ × TypeRef) (both : TypeRef) → n < length items → item ≡ get_or items n item → new ≡ typed_at items n both
    → All (λ at. IsTrue (has (store_of a) at)) (field_types items) → Adds a b (given_refs (own ∷ item.1 ∷ [])) [] → IsClean a b (given_refs (own ∷ item.1 ∷ [])) both
    → All (IsClean a b (given_refs (own ∷ field_types items))) (field_types new)
typed_clean a b own items new n item both l is e there adds clean =
    all_typed (IsClean a b (given_refs (own ∷ field_types items))) items new n both e
    (items_clean a b own items (item_adds a b own items n item l is adds) there)
    (clean_inner a a b _ _ both (item_may a own items n item l is) clean)

pub inserted_clean : (a : Arena) (field : List ℕ × TypeRef) (items new : List (List ℕ × TypeRef)) (n : ℕ) → new ≡ insert items n field → IsTrue (has (store_of a) field.1) → All (λ at. IsTrue (has (store_of a) at)) (field_types items)
    → All (IsClean a a (given_refs (field.1 ∷ field_types items))) (field_types new)
inserted_clean a field items new n e own there =
    all_inserted (IsClean a a (given_refs (field.1 ∷ field_types items))) items new n field e
    (items_clean a a field.1 items (adds_nothing a (given_refs (field.1 ∷ field_types items))) there)
    (clean_given a a (field.1 ∷ field_types items) [] field.1 (adds_nothing a (given_refs (field.1 ∷ field_types items))) own (Contains-append_left (field.1 ∷ []) (field_types items) field.1 (alone field.1)))

-- a type that is set at a place
pub set_typed : (fs : List (List ℕ × TypeRef)) (n : ℕ) (x : List ℕ × TypeRef) (both : TypeRef) → n < length fs → x ≡ get_or fs n x → slice_set fs n (x.0, both) ≡ typed_at fs n both
set_typed [] n x both l is = absurd (omega arith)
set_typed (f ∷ fs) zero x both l is = ap (λ (p : List ℕ × TypeRef). (p.0, both) ∷ fs) is
set_typed (f ∷ fs) (suc n) x both l is = ap (λ zs. f ∷ zs) (set_typed fs n x both (omega arith) is)
