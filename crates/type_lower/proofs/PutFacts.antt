-- Names that become visible.
use Rattle.std.proofs.Common.{Result, Ok, Err, ◌≡◌, ℕ, ◌+◌, ◌<◌, List, [], ◌∷◌, ◌++◌, length, get_or, take, refl, sym, ap, ◌∙◌, subst, append_assoc}
use Rattle.std.proofs.Math.Seq.{take-length}
use Rattle.std.proofs.lemmas.List.{take_more, append-nil}
use Rattle.std.proofs.lemmas.List.Elements.{All-append, All-cons, All-nil}
use Rattle.std.specs.Prelude.{All, OnOk, OnErr}
use Rattle.luau_tree.specs.declared.tree as code
use Rattle.luau_tree.specs.declared.tree.ExprKind.TheViews as part
use Rattle.luau_tree.specs.Tree as plain
use Rattle.luau_tree.specs.View.{view_gen, view_gens, view_maybe_type}
use Rattle.luau_tree.proofs.Views.{gen_seen}
use Rattle.type_arena.specs.Arena.{store_of}
use Rattle.type_arena.specs.Meaning.{term_of}
use Rattle.type_arena.specs.Store.{field_types}
use Rattle.type_arena.specs.Term.{Term}
use Rattle.type_arena.specs.declared.arena.Arena.{Arena}
use Rattle.type_arena.specs.declared.node.TypeRef.{TypeRef}
use Rattle.type_normal.specs.Kinds.{unknown}
use Rattle.type_normal.specs.Growing.{given_refs}
use Rattle.annotations.specs.Annotated.{with_generics}
use Rattle.annotations.specs.Lowered.{Known, with_name, lowered, alias_type}
use Rattle.type_lower.specs.Made.{AreThere, Made}
use Rattle.type_lower.specs.Visible.{known_in}
use Rattle.type_lower.proofs.MadeFacts.{known_kept}
use Rattle.type_lower.proofs.VisibleFacts.{known_more}

-- what holds where a call succeeds, from what holds there
pub ok_then : {X E : Type 0} (r : Result X E) (P Q : Type 0) → OnOk r P → (P → Q) → OnOk r Q
ok_then (Ok x) P Q p more = more p
ok_then (Err e) P Q p more = tt

-- the names of some generics, with one reference
abbrev pub all_with : TypeRef → List code.Gen.Gen → List (List ℕ × TypeRef)
all_with at [] = []
all_with at (g ∷ gs) = ((code.Gen.out-Gen g).name, at) ∷ all_with at gs

all_append : (at : TypeRef) (gs hs : List code.Gen.Gen) → all_with at (gs ++ hs) ≡ all_with at gs ++ all_with at hs
all_append at [] hs = refl
all_append at (g ∷ gs) hs = ap (λ (ns : List (List ℕ × TypeRef)). ((code.Gen.out-Gen g).name, at) ∷ ns) (all_append at gs hs)

-- one more generic
pub all_more : (at : TypeRef) (gs : List code.Gen.Gen) (i : ℕ) (g : code.Gen.Gen) (old now new : List (List ℕ × TypeRef)) → i < length gs → g ≡ get_or gs i g → now ≡ old ++ all_with at (take i gs)
    → new ≡ now ++ ((code.Gen.out-Gen g).name, at) ∷ [] → new ≡ old ++ all_with at (take (i + 1) gs)
all_more at gs i g old now new l is so made =
    made ∙ ap (λ (ns : List (List ℕ × TypeRef)). ns ++ ((code.Gen.out-Gen g).name, at) ∷ []) so ∙ append_assoc old (all_with at (take i gs)) (((code.Gen.out-Gen g).name, at) ∷ [])
    ∙ ap (λ (ns : List (List ℕ × TypeRef)). old ++ ns) (sym (all_append at (take i gs) (g ∷ [])) ∙ ap (all_with at) (sym (take_more gs i g l ∙ ap (λ (h : code.Gen.Gen). take i gs ++ h ∷ []) (sym is))))

gen_layer : (x : code.Gen.Gen) → view_gen x ≡ plain.the_gen (code.Gen.out-Gen x).name (code.Gen.out-Gen x).span (code.Gen.out-Gen x).pack (view_maybe_type (code.Gen.out-Gen x).default)
gen_layer x = ap view_gen (sym (part.roll-out-Gen x)) ∙ gen_seen _ _ _ _

one_generic : (g : code.Gen.Gen) (gs : List code.Gen.Gen) (known : List Known) → with_generics (view_gens (g ∷ gs)) known ≡ with_generics (view_gens gs) (with_name (code.Gen.out-Gen g).name unknown known)
one_generic g gs known = ap (λ (x : plain.Gen). with_generics (plain.more_gens x (view_gens gs)) known) (gen_layer g)

generics_known : (arena : Arena) (at : TypeRef) → term_of (store_of arena) at ≡ unknown → (gs : List code.Gen.Gen) (aliases : List (List ℕ × TypeRef))
    → known_in arena (aliases ++ all_with at gs) ≡ with_generics (view_gens gs) (known_in arena aliases)
generics_known arena at e [] aliases = ap (known_in arena) (append-nil aliases)
generics_known arena at e (g ∷ gs) aliases =
    ap (known_in arena) (sym (append_assoc aliases (((code.Gen.out-Gen g).name, at) ∷ []) (all_with at gs)))
    ∙ generics_known arena at e gs (aliases ++ ((code.Gen.out-Gen g).name, at) ∷ [])
    ∙ ap (with_generics (view_gens gs)) (known_more arena aliases (aliases ++ ((code.Gen.out-Gen g).name, at) ∷ []) (code.Gen.out-Gen g).name at refl ∙ ap (λ (t : Term). with_name (code.Gen.out-Gen g).name t (known_in arena aliases)) e)
    ∙ sym (one_generic g gs (known_in arena aliases))

pub all_generics : (a b : Arena) (aliases new : List (List ℕ × TypeRef)) (at : TypeRef) (gs : List code.Gen.Gen) → AreThere a (field_types aliases) → Made a b (field_types aliases) at unknown → new ≡ aliases ++ all_with at gs
    → known_in b new ≡ with_generics (view_gens gs) (known_in a aliases)
all_generics a b aliases new at gs there made e =
    ap (known_in b) e ∙ generics_known b at made.means gs aliases
    ∙ ap (with_generics (view_gens gs)) (known_kept a b (given_refs (field_types aliases)) [] made.adds aliases there)

-- a property of some references, and of one more that comes with names
types_append : (xs ys : List (List ℕ × TypeRef)) → field_types (xs ++ ys) ≡ field_types xs ++ field_types ys
types_append [] ys = refl
types_append (x ∷ xs) ys = ap (λ (rs : List TypeRef). x.1 ∷ rs) (types_append xs ys)

all_at : (P : TypeRef → Type 0) (at : TypeRef) → P at → (gs : List code.Gen.Gen) → All P (field_types (all_with at gs))
all_at P at p [] = All-nil P
all_at P at p (g ∷ gs) = All-cons P at (field_types (all_with at gs)) p (all_at P at p gs)

pub all_named : (P : TypeRef → Type 0) (aliases new others : List (List ℕ × TypeRef)) → new ≡ aliases ++ others → All P (field_types aliases) → All P (field_types others) → All P (field_types new)
all_named P aliases new others e first second =
    subst (λ (ns : List (List ℕ × TypeRef)). All P (field_types ns)) (sym e)
    (subst (λ (rs : List TypeRef). All P rs) (sym (types_append aliases others)) (All-append P (field_types aliases) (field_types others) first second))

pub generics_hold : (P : TypeRef → Type 0) (aliases new : List (List ℕ × TypeRef)) (at : TypeRef) (gs : List code.Gen.Gen) → new ≡ aliases ++ all_with at gs → All P (field_types aliases) → P at → All P (field_types new)
generics_hold P aliases new at gs e first p = all_named P aliases new (all_with at gs) e first (all_at P at p gs)

pub name_holds : (P : TypeRef → Type 0) (aliases new : List (List ℕ × TypeRef)) (name : List ℕ) (at : TypeRef) → new ≡ aliases ++ (name, at) ∷ [] → All P (field_types aliases) → P at → All P (field_types new)
name_holds P aliases new name at e first p = all_named P aliases new ((name, at) ∷ []) e first (All-cons P at [] p (All-nil P))

-- an alias that was made, and put behind the others
pub alias_known : (a b : Arena) (aliases new : List (List ℕ × TypeRef)) (name : List ℕ) (at : TypeRef) (t : Term) → AreThere a (field_types aliases) → Made a b (field_types aliases) at t → new ≡ aliases ++ (name, at) ∷ []
    → known_in b new ≡ with_name name t (known_in a aliases)
alias_known a b aliases new name at t there made e =
    known_more b aliases new name at e ∙ (λ i. with_name name (made.means i) (known_kept a b (given_refs (field_types aliases)) [] made.adds aliases there i))

-- an alias without generics, and one with some
pub alias_bare : (known : List Known) (generics : List code.Gen.Gen) (type : plain.TypeSyntax) → generics ≡ [] → lowered known type ≡ alias_type known (view_gens generics) type
alias_bare known generics type e = sym (ap (λ (gs : List code.Gen.Gen). alias_type known (view_gens gs) type) e)

pub alias_generic : (known : List Known) (generics : List code.Gen.Gen) (type : plain.TypeSyntax) → (generics ≡ [] → ⊥) → unknown ≡ alias_type known (view_gens generics) type
alias_generic known [] type differs = absurd (differs refl)
alias_generic known (g ∷ gs) type differs = refl

-- the first of two lists
take_front : (xs ys : List (List ℕ × TypeRef)) → take (length xs) (xs ++ ys) ≡ xs
take_front [] ys = refl
take_front (x ∷ xs) ys = ap (λ (zs : List (List ℕ × TypeRef)). x ∷ zs) (take_front xs ys)

-- the names that were there stay
pub all_kept : (aliases : List (List ℕ × TypeRef)) → take (length aliases) aliases ≡ aliases
all_kept aliases = take-length aliases

pub more_kept : (aliases new others : List (List ℕ × TypeRef)) → new ≡ aliases ++ others → take (length aliases) new ≡ aliases
more_kept aliases new others e =
    ap (take (length aliases)) e ∙ take_front aliases others

pub put_kept : {X E : Type 0} (r : Result X E) (aliases new : List (List ℕ × TypeRef)) (name : List ℕ) (at : TypeRef) → OnOk r (new ≡ aliases ++ (name, at) ∷ []) → OnErr r (new ≡ aliases) → take (length aliases) new ≡ aliases
put_kept (Ok x) aliases new name at ok err = more_kept aliases new ((name, at) ∷ []) ok
put_kept (Err e) aliases new name at ok err = ap (take (length aliases)) err ∙ all_kept aliases

-- all generics
pub all_done : (at : TypeRef) (gs : List code.Gen.Gen) (i : ℕ) (old new : List (List ℕ × TypeRef)) → i ≡ length gs → new ≡ old ++ all_with at (take i gs) → new ≡ old ++ all_with at gs
all_done at gs i old new e made = made ∙ ap (λ (hs : List code.Gen.Gen). old ++ all_with at hs) (ap (λ (n : ℕ). take n gs) e ∙ take-length gs)
