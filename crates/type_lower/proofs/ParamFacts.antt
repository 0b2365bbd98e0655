-- Types of parameters, one after the other.
use Rattle.std.proofs.Common.{◌≡◌, ℕ, ◌+◌, ◌<◌, List, [], ◌∷◌, ◌++◌, length, get_or, take, map, refl, sym, ap, ◌∙◌, subst}
use Rattle.std.specs.Prelude.{IsTrue, All, Contains}
use Rattle.std.proofs.Math.Seq.{take-length}
use Rattle.std.proofs.lemmas.List.{take_more, map-append}
use Rattle.std.proofs.lemmas.List.Elements.{All-nil, All-cons, All-append, All-contains, Contains-append_left, Contains-append_right}
use Rattle.luau_tree.specs.Tree as plain
use Rattle.luau_tree.specs.View.{view_bind, view_binds, view_block, view_body, view_gens, view_maybe_type, view_varargs}
use Rattle.luau_tree.specs.declared.tree as code
use Rattle.luau_tree.specs.declared.tree.ExprKind.TheViews as part
use Rattle.luau_tree.proofs.Views.{bind_seen, body_seen}
use Rattle.type_arena.specs.Arena.{store_of}
use Rattle.type_arena.specs.Meaning.{term_of}
use Rattle.type_arena.specs.Store.{has, field_types}
use Rattle.type_arena.specs.Term.{Term}
use Rattle.type_arena.specs.declared.arena.Arena.{Arena}
use Rattle.type_arena.specs.declared.node.TypeRef.{TypeRef}
use Rattle.type_normal.specs.Adds.{Adds}
use Rattle.type_normal.specs.Growing.{given_refs, IsClean}
use Rattle.type_normal.proofs.AddsFacts.{alone}
use Rattle.type_ops.proofs.GrowFacts.{adds_nothing, all_clean_on, clean_inner, clean_may}
use Rattle.annotations.specs.Lowered.{Known}
use Rattle.annotations.specs.Annotated.{param_types, written_type, with_generics}
use Rattle.type_lower.specs.Made.{AreThere, Made, MadeTypes}
use Rattle.type_lower.specs.Parameters.{known_inside, types_inside}
use Rattle.type_lower.specs.Visible.{known_in}
use Rattle.type_lower.proofs.MadeFacts.{as_type, made_again, given_there, known_kept}

-- references mean what they meant
means_kept : (f g : TypeRef → Term) (refs : List TypeRef) → ((x : TypeRef) → Contains refs x → f x ≡ g x) → map f refs ≡ map g refs
means_kept f g [] h = refl
means_kept f g (x ∷ xs) h =
    λ i. h x (Contains-append_left (x ∷ []) xs x (alone x)) i ∷ means_kept f g xs (λ y inside. h y (Contains-append_right (x ∷ []) xs y inside)) i

pub all_kept : (a b : Arena) (given : List TypeRef) (refs : List TypeRef) → Adds a b (given_refs given) [] → AreThere a refs → map (term_of (store_of b)) refs ≡ map (term_of (store_of a)) refs
all_kept a b given refs adds there =
    means_kept (term_of (store_of b)) (term_of (store_of a)) refs (λ x inside. adds.kept x (All-contains (λ at. IsTrue (has (store_of a) at)) refs x there inside))

pub types_begun : (a : Arena) (given refs : List TypeRef) → refs ≡ [] → MadeTypes a a given refs []
types_begun a given refs e = record {
  adds = adds_nothing a (given_refs given);
  means = ap (map (term_of (store_of a))) e;
  there = subst (λ (xs : List TypeRef). AreThere a xs) (sym e) (All-nil (λ x. IsTrue (has (store_of a) x)));
  clean = subst (λ (xs : List TypeRef). All (IsClean a a (given_refs given)) xs) (sym e) (All-nil (IsClean a a (given_refs given)));
}

with_last : (P : TypeRef → Type 0) (refs new : List TypeRef) (at : TypeRef) → new ≡ refs ++ at ∷ [] → All P refs → P at → All P new
with_last P refs new at e all last =
    subst (λ (xs : List TypeRef). All P xs) (sym e) (All-append P refs (at ∷ []) all (All-cons P at [] last (All-nil P)))

-- one more
pub type_more : (a b c : Arena) (aliases : List (List ℕ × TypeRef)) (refs new : List TypeRef) (types : List Term) (at : TypeRef) (type : plain.MaybeType) → AreThere a (field_types aliases)
    → MadeTypes a b (field_types aliases) refs types → Made b c (field_types aliases) at (written_type (known_in b aliases) type) → new ≡ refs ++ at ∷ []
    → MadeTypes a c (field_types aliases) new (types ++ written_type (known_in a aliases) type ∷ [])
type_more a b c aliases refs new types at type there so second e =
    let next : Made a c (field_types aliases) at (written_type (known_in a aliases) type) =
    as_type a c (field_types aliases) at _ _ (made_again a b c (field_types aliases) at _ there so.adds second)
    (ap (λ (known : List Known). written_type known type) (known_kept a b (given_refs (field_types aliases)) [] so.adds aliases there)) in
    record {
      adds = next.adds;
      means =
          ap (map (term_of (store_of c))) e ∙ map-append (term_of (store_of c)) refs (at ∷ [])
          ∙ (λ i. (all_kept b c (field_types aliases) refs second.adds so.there ∙ so.means) i ++ next.means i ∷ []);
      there = with_last (λ x. IsTrue (has (store_of c) x)) refs new at e (given_there b c refs (given_refs (field_types aliases)) [] second.adds so.there) next.there;
      clean = with_last (IsClean a c (given_refs (field_types aliases))) refs new at e (all_clean_on a b c (given_refs (field_types aliases)) refs so.clean so.there second.adds.keeps) next.clean;
    }

pub types_as : (a b : Arena) (given refs : List TypeRef) (types others : List Term) → MadeTypes a b given refs types → types ≡ others → MadeTypes a b given refs others
types_as a b given refs types others made e = record { adds = made.adds; means = made.means ∙ e; there = made.there; clean = made.clean }

-- the parameters so far, and one more
bind_layer : (x : code.Bind.Bind) → view_bind x ≡ plain.the_bind (code.Bind.out-Bind x).name (code.Bind.out-Bind x).span (view_maybe_type (code.Bind.out-Bind x).typ)
bind_layer x = ap view_bind (sym (part.roll-out-Bind x)) ∙ bind_seen _ _ _

one_param : (known : List Known) (p : code.Bind.Bind) (rest : plain.Binds) → param_types known (plain.more_binds (view_bind p) rest) ≡ written_type known (view_maybe_type (code.Bind.out-Bind p).typ) ∷ param_types known rest
one_param known p rest = ap (λ (b : plain.Bind). param_types known (plain.more_binds b rest)) (bind_layer p)

params_append : (known : List Known) (ps : List code.Bind.Bind) (p : code.Bind.Bind) → param_types known (view_binds (ps ++ p ∷ [])) ≡ param_types known (view_binds ps) ++ written_type known (view_maybe_type (code.Bind.out-Bind p).typ) ∷ []
params_append known [] p = one_param known p plain.no_binds
params_append known (q ∷ ps) p =
    one_param known q (view_binds (ps ++ p ∷ []))
    ∙ ap (λ (ts : List Term). written_type known (view_maybe_type (code.Bind.out-Bind q).typ) ∷ ts) (params_append known ps p)
    ∙ ap (λ (ts : List Term). ts ++ written_type known (view_maybe_type (code.Bind.out-Bind p).typ) ∷ []) (sym (one_param known q (view_binds ps)))

pub params_taken : (known : List Known) (ps : List code.Bind.Bind) (i : ℕ) (p : code.Bind.Bind) → i < length ps → p ≡ get_or ps i p
    → param_types known (view_binds (take i ps)) ++ written_type known (view_maybe_type (code.Bind.out-Bind p).typ) ∷ [] ≡ param_types known (view_binds (take (i + 1) ps))
params_taken known ps i p l is =
    sym (ap (λ (qs : List code.Bind.Bind). param_types known (view_binds qs)) (take_more ps i p l ∙ ap (λ (q : code.Bind.Bind). take i ps ++ q ∷ []) (sym is)) ∙ params_append known (take i ps) p)

pub params_all : (known : List Known) (ps : List code.Bind.Bind) (i : ℕ) → i ≡ length ps → param_types known (view_binds (take i ps)) ≡ param_types known (view_binds ps)
params_all known ps i e = ap (λ (qs : List code.Bind.Bind). param_types known (view_binds qs)) (ap (λ (n : ℕ). take n ps) e ∙ take-length ps)

-- a body
body_layer : (x : code.Body.Body) → view_body x ≡ plain.the_body (code.Body.out-Body x).id.0 (code.Body.out-Body x).has_self (view_gens (code.Body.out-Body x).generics) (view_binds (code.Body.out-Body x).params) (view_varargs (code.Body.out-Body x).vararg) (view_maybe_type (code.Body.out-Body x).result) (view_block (code.Body.out-Body x).block) (code.Body.out-Body x).span
body_layer x = ap view_body (sym (part.roll-out-Body x)) ∙ body_seen _ _ _ _ _ _ _ _

pub known_within : (known : List Known) (x : code.Body.Body) → with_generics (view_gens (code.Body.out-Body x).generics) known ≡ known_inside known (view_body x)
known_within known x = sym (ap (known_inside known) (body_layer x))

pub types_within : (known : List Known) (x : code.Body.Body) → param_types (with_generics (view_gens (code.Body.out-Body x).generics) known) (view_binds (code.Body.out-Body x).params) ≡ types_inside known (view_body x)
types_within known x = sym (ap (types_inside known) (body_layer x))

-- a body that was entered: its generics came from one arena to the next, then its types were made
pub entered_known : (b c : Arena) (aliases : List (List ℕ × TypeRef)) (known : List Known) (x : code.Body.Body) → AreThere b (field_types aliases) → Adds b c (given_refs (field_types aliases)) []
    → known_in b aliases ≡ with_generics (view_gens (code.Body.out-Body x).generics) known → known_in c aliases ≡ known_inside known (view_body x)
entered_known b c aliases known x there adds e = known_kept b c (given_refs (field_types aliases)) [] adds aliases there ∙ e ∙ known_within known x

pub entered_types : (b c : Arena) (aliases : List (List ℕ × TypeRef)) (refs : List TypeRef) (known : List Known) (x : code.Body.Body) → MadeTypes b c (field_types aliases) refs (param_types (known_in b aliases) (view_binds (code.Body.out-Body x).params))
    → known_in b aliases ≡ with_generics (view_gens (code.Body.out-Body x).generics) known → map (term_of (store_of c)) refs ≡ types_inside known (view_body x)
entered_types b c aliases refs known x made e = made.means ∙ ap (λ (k : List Known). param_types k (view_binds (code.Body.out-Body x).params)) e ∙ types_within known x

pub entered_clean : (a b c : Arena) (given inner : List TypeRef) (refs : List TypeRef) → Adds a b (given_refs given) [] → All (IsClean a b (given_refs given)) inner → All (IsClean b c (given_refs inner)) refs → All (IsClean a c (given_refs given)) refs
entered_clean a b c given inner refs adds clean more k d l =
    clean_inner a b c (given_refs given) (given_refs inner) (get_or refs k d) (clean_may a b (given_refs given) inner clean adds.home) (more k d l)
