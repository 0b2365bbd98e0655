-- One entry, and entries without those of some locals.
use Rattle.std.proofs.Common.{◌≡◌, ℕ, zero, suc, ◌≤◌, ◌==◌, Bool, true, false, not, List, [], ◌∷◌, map, refl, sym, ap, ◌∙◌, arith}
use Rattle.std.specs.Option.{option_map_or}
use Rattle.type_normal.specs.Cut.{cut_down}
use Rattle.std.specs.Prelude.{◌||◌, Option, Some, None, IfSome, IsTrue, All, Contains, filter, if◌then◌else◌}
use Rattle.std.specs.List.{list_any}
use Rattle.std.proofs.lemmas.Bool.{eq-eqb, eqb-true}
use Rattle.std.proofs.lemmas.List.Elements.{All-nil, All-cons, Contains-get_or}
use Rattle.luau_tree.specs.declared.names.LocalId.{LocalId}
use Rattle.type_arena.specs.Arena.{store_of}
use Rattle.type_arena.specs.Meaning.{term_of}
use Rattle.type_arena.specs.Store.{has}
use Rattle.type_arena.specs.Term.{Term, never}
use Rattle.type_arena.specs.declared.arena.Arena.{Arena}
use Rattle.type_arena.specs.declared.node.TypeRef.{TypeRef}
use Rattle.type_normal.specs.Rows.{is_empty}
use Rattle.error_context.specs.Entries.{Entries, entry_or, context_of, refs_in, locals_in, AscendFrom, is_cut, IsContext, entry_at, entry_of_one, entries_without}
use Rattle.error_context.proofs.PairFacts.{ascend_lower, differs}
use Rattle.error_context.proofs.SideFacts.{from_all}
use Rattle.error_context.proofs.TermFacts.{empty_is_never}

-- ---- one entry

eq_turn : (a b : ℕ) → (a == b) ≡ (b == a)
eq_turn a b = go (a == b) refl
  where
    go : (t : Bool) → (a == b) ≡ t → (a == b) ≡ (b == a)
    go true e = e ∙ sym (eq-eqb b a (sym (eqb-true a b e)))
    go false e = e ∙ sym (differs b a (λ same. let back : (a == b) ≡ true = eq-eqb a b (sym same) in cc))

one_by : (arena : Arena) (local : LocalId) (at : TypeRef) (t : Bool) → is_empty (term_of (store_of arena) at) ≡ t → (other : ℕ)
    → context_of arena (if t then [] else (local, at) ∷ []) other ≡ (if local.0 == other then term_of (store_of arena) at else never)
one_by arena local at false e other = refl
one_by arena local at true e other = sym (go (local.0 == other))
  where
    go : (t : Bool) → (if t then term_of (store_of arena) at else never) ≡ never
    go true = empty_is_never (term_of (store_of arena) at) e
    go false = refl

pub one_entry : (arena : Arena) (local : LocalId) (at : TypeRef) (other : ℕ)
    → context_of arena (entry_of_one arena local at) other ≡ (if other == local.0 then term_of (store_of arena) at else never)
one_entry arena local at other =
    one_by arena local at (is_empty (term_of (store_of arena) at)) refl other
    ∙ ap (λ (t : Bool). if t then term_of (store_of arena) at else never) (eq_turn local.0 other)

context_by : (arena : Arena) (local : LocalId) (at : TypeRef) (t : Bool) → is_empty (term_of (store_of arena) at) ≡ t → IsTrue (has (store_of arena) at) → is_cut (term_of (store_of arena) at) ≡ true
    → IsContext arena (if t then [] else (local, at) ∷ [])
context_by arena local at true e there cut = record {
  sorted = tt;
  there = All-nil (λ r. IsTrue (has (store_of arena) r));
  cut = All-nil (λ r. is_cut (term_of (store_of arena) r) ≡ true);
  full = All-nil (λ r. is_empty (term_of (store_of arena) r) ≡ false);
}
context_by arena local at false e there cut = record {
  sorted = (omega arith, tt);
  there = All-cons (λ r. IsTrue (has (store_of arena) r)) at [] there (All-nil (λ r. IsTrue (has (store_of arena) r)));
  cut = All-cons (λ r. is_cut (term_of (store_of arena) r) ≡ true) at [] cut (All-nil (λ r. is_cut (term_of (store_of arena) r) ≡ true));
  full = All-cons (λ r. is_empty (term_of (store_of arena) r) ≡ false) at [] e (All-nil (λ r. is_empty (term_of (store_of arena) r) ≡ false));
}

pub one_context : (arena : Arena) (local : LocalId) (at : TypeRef) → IsTrue (has (store_of arena) at) → is_cut (term_of (store_of arena) at) ≡ true → IsContext arena (entry_of_one arena local at)
one_context arena local at there cut = context_by arena local at (is_empty (term_of (store_of arena) at)) refl there cut

pub one_refs : (P : TypeRef → Type 0) (arena : Arena) (local : LocalId) (at : TypeRef) → P at → All P (refs_in (entry_of_one arena local at))
one_refs P arena local at p = go (is_empty (term_of (store_of arena) at))
  where
    go : (t : Bool) → All P (refs_in (if t then [] else (local, at) ∷ []))
    go true = All-nil P
    go false = All-cons P at [] p (All-nil P)

-- of a loose local nothing is said, and of another one its set is
pub loose_only : (t loose : Bool) (type : Term) → loose ≡ true → never ≡ (if t then (if loose then never else cut_down type) else never)
loose_only true loose type e = sym (ap (λ (b : Bool). if b then never else cut_down type) e)
loose_only false loose type e = refl

pub firm_only : (t loose : Bool) (made type : Term) → loose ≡ false → made ≡ cut_down type
    → (if t then made else never) ≡ (if t then (if loose then never else cut_down type) else never)
firm_only true loose made type e is = is ∙ sym (ap (λ (b : Bool). if b then never else cut_down type) e)
firm_only false loose made type e is = refl

-- ---- the entry of one local

pub entry_is : (means : TypeRef → Term) (es : Entries) (l : ℕ) → entry_or never means es l ≡ option_map_or means (entry_at es l) never
entry_is means [] l = refl
entry_is means (e ∷ es) l = go (e.0.0 == l) (entry_is means es l)
  where
    go : (t : Bool) → entry_or never means es l ≡ option_map_or means (entry_at es l) never → (if t then means e.1 else entry_or never means es l) ≡ option_map_or means (if t then Some e.1 else entry_at es l) never
    go true rest = refl
    go false rest = rest

inside_rest : {X : Type 0} (x y : X) (xs : List X) → Contains xs y → Contains (x ∷ xs) y
inside_rest x y xs h = (suc h.0, (let k = h.1 in omega (arith, k)), h.2)

if_some_more : (o : Option TypeRef) (P Q : TypeRef → Type 0) → ((at : TypeRef) → P at → Q at) → IfSome o P → IfSome o Q
if_some_more None P Q more p = tt
if_some_more (Some at) P Q more p = more at p

pub entry_among : (es : Entries) (l : ℕ) → IfSome (entry_at es l) (Contains (refs_in es))
entry_among [] l = tt
entry_among (e ∷ es) l = go (e.0.0 == l) (entry_among es l)
  where
    go : (t : Bool) → IfSome (entry_at es l) (Contains (refs_in es)) → IfSome (if t then Some e.1 else entry_at es l) (Contains (e.1 ∷ refs_in es))
    go true rest = (zero, omega arith, refl)
    go false rest = if_some_more (entry_at es l) (Contains (refs_in es)) (Contains (e.1 ∷ refs_in es)) (λ at inside. inside_rest e.1 at (refs_in es) inside) rest

-- ---- without some locals

kept_by : (means : TypeRef → Term) (locals : List LocalId) (e : LocalId × TypeRef) (es rest : Entries) (l : ℕ) (m t : Bool)
    → list_any (λ other. other.0 == e.0.0) locals ≡ m → (e.0.0 == l) ≡ t
    → entry_or never means rest l ≡ (if list_any (λ other. other.0 == l) locals then never else entry_or never means es l)
    → entry_or never means (if not m then e ∷ rest else rest) l ≡ (if list_any (λ other. other.0 == l) locals then never else (if t then means e.1 else entry_or never means es l))
kept_by means locals e es rest l true true d f ih =
    let here : list_any (λ other. other.0 == l) locals ≡ true = ap (λ (n : ℕ). list_any (λ other. other.0 == n) locals) (sym (eqb-true e.0.0 l f)) ∙ d in
    ih ∙ ap (λ (b : Bool). if b then never else entry_or never means es l) here ∙ sym (ap (λ (b : Bool). if b then never else means e.1) here)
kept_by means locals e es rest l false true d f ih =
    let here : list_any (λ other. other.0 == l) locals ≡ false = ap (λ (n : ℕ). list_any (λ other. other.0 == n) locals) (sym (eqb-true e.0.0 l f)) ∙ d in
    ap (λ (b : Bool). if b then means e.1 else entry_or never means rest l) f ∙ sym (ap (λ (b : Bool). if b then never else means e.1) here)
kept_by means locals e es rest l true false d f ih = ih
kept_by means locals e es rest l false false d f ih = ap (λ (b : Bool). if b then means e.1 else entry_or never means rest l) f ∙ ih

kept_entries_by : (means : TypeRef → Term) (locals : List LocalId) (es : Entries) (l : ℕ)
    → entry_or never means (entries_without locals es) l ≡ (if list_any (λ other. other.0 == l) locals then never else entry_or never means es l)
kept_entries_by means locals [] l = go (list_any (λ other. other.0 == l) locals)
  where
    go : (b : Bool) → never ≡ (if b then never else never)
    go true = refl
    go false = refl
kept_entries_by means locals (e ∷ es) l =
    kept_by means locals e es (entries_without locals es) l (list_any (λ other. other.0 == e.0.0) locals) (e.0.0 == l) refl refl (kept_entries_by means locals es l)

any_number : (locals : List LocalId) (l : ℕ) → list_any (λ other. other.0 == l) locals ≡ list_any (λ other. other == l) (map (λ (local : LocalId). local.0) locals)
any_number [] l = refl
any_number (x ∷ xs) l = ap (λ (b : Bool). x.0 == l || b) (any_number xs l)

pub kept_entries : (means : TypeRef → Term) (locals : List LocalId) (es : Entries) (l : ℕ)
    → entry_or never means (entries_without locals es) l
    ≡ (if list_any (λ other. other == l) (map (λ (local : LocalId). local.0) locals) then never else entry_or never means es l)
kept_entries means locals es l = kept_entries_by means locals es l ∙ ap (λ (b : Bool). if b then never else entry_or never means es l) (any_number locals l)

kept_sorted : (p : LocalId × TypeRef → Bool) (n : ℕ) (es : Entries) → AscendFrom n (locals_in es) → AscendFrom n (locals_in (filter p es))
kept_sorted p n [] a = tt
kept_sorted p n (e ∷ es) a = go (p e) (kept_sorted p (suc e.0.0) es a.1)
  where
    go : (t : Bool) → AscendFrom (suc e.0.0) (locals_in (filter p es)) → AscendFrom n (locals_in (if t then e ∷ filter p es else filter p es))
    go true rest = (a.0, rest)
    go false rest = let low : n ≤ e.0.0 = a.0 in ascend_lower (suc e.0.0) n (locals_in (filter p es)) (omega arith) rest

kept_all : (P : TypeRef → Type 0) (p : LocalId × TypeRef → Bool) (es : Entries) → All P (refs_in es) → All P (refs_in (filter p es))
kept_all P p [] all = all
kept_all P p (e ∷ es) all = go (p e) (kept_all P p es (λ k d i. all (suc k) d (omega (arith, i))))
  where
    go : (t : Bool) → All P (refs_in (filter p es)) → All P (refs_in (if t then e ∷ filter p es else filter p es))
    go true rest = All-cons P e.1 (refs_in (filter p es)) (all zero e.1 (omega arith)) rest
    go false rest = rest

pub kept_context : (arena : Arena) (locals : List LocalId) (es : Entries) → IsContext arena es → IsContext arena (entries_without locals es)
kept_context arena locals es c =
    let p : LocalId × TypeRef → Bool = λ e. not (list_any (λ other. other.0 == e.0.0) locals) in
    record {
      sorted = kept_sorted p 0 es c.sorted;
      there = kept_all (λ at. IsTrue (has (store_of arena) at)) p es c.there;
      cut = kept_all (λ at. is_cut (term_of (store_of arena) at) ≡ true) p es c.cut;
      full = kept_all (λ at. is_empty (term_of (store_of arena) at) ≡ false) p es c.full;
    }

pub kept_among : (locals : List LocalId) (es : Entries) (at : TypeRef) → Contains (refs_in (entries_without locals es)) at → Contains (refs_in es) at
kept_among locals es at inside =
    from_all (Contains (refs_in es)) (refs_in (entries_without locals es))
    (kept_all (Contains (refs_in es)) (λ e. not (list_any (λ other. other.0 == e.0.0) locals)) es (λ k d i. Contains-get_or (refs_in es) k d i)) at inside
