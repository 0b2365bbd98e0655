-- Where the field of a name is among fields in order, and what they are with it.
use Rattle.std.proofs.Common.{◌≡◌, ℕ, zero, suc, ◌+◌, ◌<◌, ◌≤◌, List, [], ◌∷◌, ◌++◌, length, get_or, take, drop, refl, sym, ap, ◌∙◌, arith}
use Rattle.std.specs.Prelude.{Result, Ok, Err}
use Rattle.std.specs.List.{insert}
use Rattle.std.specs.declared.cmp.Ordering.{Ordering}
use Rattle.std.specs.declared.cmp.Ordering.TheVariants.{Less, Equal, Greater}
use Rattle.type_arena.specs.Meaning.{fields_by}
use Rattle.type_arena.specs.Term.{Term, Fields, no_fields, more_fields}
use Rattle.type_arena.specs.declared.node.TypeRef.{TypeRef}
use Rattle.type_normal.specs.Free.{name_cmp}
use Rattle.type_normal.specs.Members.{by_order}
use Rattle.type_normal.specs.Operations.{put_field}
use Rattle.type_ops.specs.Lists.{further, name_place}
use Rattle.type_ops.proofs.CompareFacts.{dropped}

-- a place that many fields further on
abbrev pub farther : ℕ → Result ℕ ℕ → Result ℕ ℕ
farther i (Ok n) = Ok (i + n)
farther i (Err n) = Err (i + n)

pub farther_none : (p : Result ℕ ℕ) → p ≡ farther 0 p
farther_none (Ok n) = ap Ok (omega arith)
farther_none (Err n) = ap Err (omega arith)

farther_more : (i : ℕ) (p : Result ℕ ℕ) → farther i (further p) ≡ farther (i + 1) p
farther_more i (Ok n) = ap Ok (omega arith)
farther_more i (Err n) = ap Err (omega arith)

name_step : (name : List ℕ) (fs : List (List ℕ × TypeRef)) (i : ℕ) (f : List ℕ × TypeRef) → i < length fs → f ≡ get_or fs i f
    → name_place name (drop i fs) ≡ by_order (name_cmp name f.0) (Err 0) (Ok 0) (further (name_place name (drop (i + 1) fs)))
name_step name fs i f l is = ap (name_place name) (dropped fs i f l is)

pub name_less : (name : List ℕ) (fs : List (List ℕ × TypeRef)) (i : ℕ) (f : List ℕ × TypeRef) → i < length fs → f ≡ get_or fs i f → name_place name fs ≡ farther i (name_place name (drop i fs))
    → name_cmp name f.0 ≡ Less → Err i ≡ name_place name fs
name_less name fs i f l is so o =
    ap Err (omega arith) ∙ sym (so ∙ ap (farther i) (name_step name fs i f l is ∙ ap (λ (r : Ordering). by_order r (Err 0) (Ok 0) (further (name_place name (drop (i + 1) fs)))) o))

pub name_same : (name : List ℕ) (fs : List (List ℕ × TypeRef)) (i : ℕ) (f : List ℕ × TypeRef) → i < length fs → f ≡ get_or fs i f → name_place name fs ≡ farther i (name_place name (drop i fs))
    → name_cmp name f.0 ≡ Equal → Ok i ≡ name_place name fs
name_same name fs i f l is so o =
    ap Ok (omega arith) ∙ sym (so ∙ ap (farther i) (name_step name fs i f l is ∙ ap (λ (r : Ordering). by_order r (Err 0) (Ok 0) (further (name_place name (drop (i + 1) fs)))) o))

pub name_more : (name : List ℕ) (fs : List (List ℕ × TypeRef)) (i : ℕ) (f : List ℕ × TypeRef) → i < length fs → f ≡ get_or fs i f → name_place name fs ≡ farther i (name_place name (drop i fs))
    → name_cmp name f.0 ≡ Greater → name_place name fs ≡ farther (i + 1) (name_place name (drop (i + 1) fs))
name_more name fs i f l is so o =
    so ∙ ap (farther i) (name_step name fs i f l is ∙ ap (λ (r : Ordering). by_order r (Err 0) (Ok 0) (further (name_place name (drop (i + 1) fs)))) o)
    ∙ farther_more i (name_place name (drop (i + 1) fs))

drop_all : {X : Type 0} (ys : List X) → drop (length ys) ys ≡ []
drop_all [] = refl
drop_all (y ∷ ys) = drop_all ys

pub name_end : (name : List ℕ) (fs : List (List ℕ × TypeRef)) → name_place name fs ≡ farther (length fs) (name_place name (drop (length fs) fs)) → Err (length fs) ≡ name_place name fs
name_end name fs so = ap Err (omega arith) ∙ sym (so ∙ ap (λ zs. farther (length fs) (name_place name zs)) (drop_all fs))

-- the place is within the fields
abbrev Within : Result ℕ ℕ → List (List ℕ × TypeRef) → Type 0
Within (Ok n) fs = n < length fs
Within (Err n) fs = n ≤ length fs

within_further : (p : Result ℕ ℕ) (f : List ℕ × TypeRef) (fs : List (List ℕ × TypeRef)) → Within p fs → Within (further p) (f ∷ fs)
within_further (Ok n) f fs w = omega (arith, w)
within_further (Err n) f fs w = omega (arith, w)

within_by : (name : List ℕ) (f : List ℕ × TypeRef) (fs : List (List ℕ × TypeRef)) (o : Ordering) → Within (name_place name fs) fs → Within (by_order o (Err 0) (Ok 0) (further (name_place name fs))) (f ∷ fs)
within_by name f fs Less w = omega arith
within_by name f fs Equal w = omega arith
within_by name f fs Greater w = within_further (name_place name fs) f fs w

name_within : (name : List ℕ) (fs : List (List ℕ × TypeRef)) → Within (name_place name fs) fs
name_within name [] = omega arith
name_within name (f ∷ fs) = within_by name f fs (name_cmp name f.0) (name_within name fs)

pub found_within : (name : List ℕ) (fs : List (List ℕ × TypeRef)) (n : ℕ) → Ok n ≡ name_place name fs → n < length fs
found_within name fs n e = go (name_place name fs) e (name_within name fs)
  where
    go : (p : Result ℕ ℕ) → Ok n ≡ p → Within p fs → n < length fs
    go (Ok m) e w = let same : n ≡ m = cc in omega (arith, w, same)
    go (Err m) e w = cc

pub goes_within : (name : List ℕ) (fs : List (List ℕ × TypeRef)) (n : ℕ) → Err n ≡ name_place name fs → n ≤ length fs
goes_within name fs n e = go (name_place name fs) e (name_within name fs)
  where
    go : (p : Result ℕ ℕ) → Err n ≡ p → Within p fs → n ≤ length fs
    go (Ok m) e w = cc
    go (Err m) e w = let same : n ≡ m = cc in omega (arith, w, same)

-- fields with another type at a place
abbrev pub typed_at : List (List ℕ × TypeRef) → ℕ → TypeRef → List (List ℕ × TypeRef)
typed_at [] n at = []
typed_at (f ∷ fs) zero at = (f.0, at) ∷ fs
typed_at (f ∷ fs) (suc n) at = f ∷ typed_at fs n at

-- fields with one more, or with another type at a place
abbrev pub with_place : Result ℕ ℕ → List ℕ → TypeRef → TypeRef → List (List ℕ × TypeRef) → List (List ℕ × TypeRef)
with_place (Ok n) name own both fs = typed_at fs n both
with_place (Err n) name own both fs = insert fs n (name, own)

-- what is there at a place becomes another type
abbrev pub Becomes : (TypeRef → Term) → (Term → Term) → Result ℕ ℕ → TypeRef → List (List ℕ × TypeRef) → Type 0
Becomes means with_type (Ok n) both fs = (d : List ℕ × TypeRef) → means both ≡ with_type (means (get_or fs n d).1)
Becomes means with_type (Err n) both fs = Unit {0}

becomes_later : (means : TypeRef → Term) (with_type : Term → Term) (p : Result ℕ ℕ) (both : TypeRef) (f : List ℕ × TypeRef) (fs : List (List ℕ × TypeRef)) → Becomes means with_type (further p) both (f ∷ fs) → Becomes means with_type p both fs
becomes_later means with_type (Ok n) both f fs b = b
becomes_later means with_type (Err n) both f fs b = tt

place_later : (p : Result ℕ ℕ) (name : List ℕ) (own both : TypeRef) (f : List ℕ × TypeRef) (fs : List (List ℕ × TypeRef)) → with_place (further p) name own both (f ∷ fs) ≡ f ∷ with_place p name own both fs
place_later (Ok n) name own both f fs = refl
place_later (Err n) name own both f fs = refl

placed_by : (means : TypeRef → Term) (with_type : Term → Term) (name : List ℕ) (own both : TypeRef) (f : List ℕ × TypeRef) (fs : List (List ℕ × TypeRef)) (o : Ordering)
    → (Becomes means with_type (name_place name fs) both fs → fields_by means (with_place (name_place name fs) name own both fs) ≡ put_field name (means own) with_type (fields_by means fs))
    → Becomes means with_type (by_order o (Err 0) (Ok 0) (further (name_place name fs))) both (f ∷ fs)
    → fields_by means (with_place (by_order o (Err 0) (Ok 0) (further (name_place name fs))) name own both (f ∷ fs))
    ≡ by_order o (more_fields name (means own) (more_fields f.0 (means f.1) (fields_by means fs))) (more_fields f.0 (with_type (means f.1)) (fields_by means fs)) (more_fields f.0 (means f.1) (put_field name (means own) with_type (fields_by means fs)))
placed_by means with_type name own both f fs Less ih b = refl
placed_by means with_type name own both f fs Equal ih b = ap (λ (t : Term). more_fields f.0 t (fields_by means fs)) (b f)
placed_by means with_type name own both f fs Greater ih b =
    ap (fields_by means) (place_later (name_place name fs) name own both f fs) ∙ ap (more_fields f.0 (means f.1)) (ih (becomes_later means with_type (name_place name fs) both f fs b))

pub placed_means : (means : TypeRef → Term) (with_type : Term → Term) (name : List ℕ) (own both : TypeRef) (fs : List (List ℕ × TypeRef)) → Becomes means with_type (name_place name fs) both fs
    → fields_by means (with_place (name_place name fs) name own both fs) ≡ put_field name (means own) with_type (fields_by means fs)
placed_means means with_type name own both [] b = refl
placed_means means with_type name own both (f ∷ fs) b = placed_by means with_type name own both f fs (name_cmp name f.0) (placed_means means with_type name own both fs) b
