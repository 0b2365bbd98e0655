-- The sets by which the left side of `and` or `or` is asked, and lists side by side.
use Rattle.std.proofs.Common.{◌≡◌, Bool, true, false, not, List, [], ◌∷◌, map, refl, sym, ap, ◌∙◌}
use Rattle.std.specs.Prelude.{◌&&◌, if◌then◌else◌}
use Rattle.type_arena.specs.Term.{Members, only, all_but, Free, Term, term, no_rows, more_rows, never}
use Rattle.type_normal.specs.Members.{is_no_set}
use Rattle.type_normal.specs.Free.{no_values, is_no_free}
use Rattle.type_normal.specs.Kinds.{falsy, truthy}
use Rattle.type_normal.specs.Operations.{meet}
use Rattle.type_normal.specs.Rows.{is_empty}
use Rattle.type_normal.proofs.HoldsFacts.{left, right}
use Rattle.report_rules.specs.Context.{Context}
use Rattle.report_work.specs.Moves.{zipped, parts_of, parts_among}

-- a type without values is never
not_true : (b : Bool) → not b ≡ true → b ≡ false
not_true true e = cc
not_true false e = refl

no_set_is : {X : Type 0} (s : Members X) → is_no_set s ≡ true → s ≡ only []
no_set_is (only []) e = refl
no_set_is (only (x ∷ xs)) e = cc
no_set_is (all_but xs) e = cc

no_free_is : (f : Free) → is_no_free f ≡ true → f ≡ no_values
no_free_is f e =
    let e1 = right (not f.nil) _ e in
    let e2 = right (not f.truth) _ e1 in
    let e3 = right (not f.falsity) _ e2 in
    let e4 = right (not f.number) _ e3 in
    let e5 = right (not f.other) _ e4 in
    λ i. record {
      nil = not_true f.nil (left _ _ e) i;
      truth = not_true f.truth (left _ _ e1) i;
      falsity = not_true f.falsity (left _ _ e2) i;
      number = not_true f.number (left _ _ e3) i;
      other = not_true f.other (left _ _ e4) i;
      strings = no_set_is f.strings (left _ _ e5) i;
      functions = no_set_is f.functions (right (is_no_set f.strings) _ e5) i;
    }

empty_is_never : (t : Term) → is_empty t ≡ true → t ≡ never
empty_is_never (term f no_rows) e = λ i. term (no_free_is f e i) no_rows
empty_is_never (term f (more_rows b fs r)) e = cc

-- no part of no value
never_falsy : meet never falsy ≡ never
never_falsy = refl

never_truthy : meet never truthy ≡ never
never_truthy = refl

-- one function of each, behind another
pub map_of_map : {X Y Z : Type 0} (f : Y → Z) (g : X → Y) (xs : List X) → map f (map g xs) ≡ map (λ x. f (g x)) xs
map_of_map f g [] = refl
map_of_map f g (x ∷ xs) = ap (λ (rest : List _). f (g x) ∷ rest) (map_of_map f g xs)

-- two lists made of one
pub zipped_maps : (f : Context → Context → Context) (g h : Term → Context) (sets : List Term) → zipped f (map g sets) (map h sets) ≡ map (λ set. f (g set) (h set)) sets
zipped_maps f g h [] = refl
zipped_maps f g h (set ∷ sets) = ap (λ (rest : List Context). f (g set) (h set) ∷ rest) (zipped_maps f g h sets)

-- the parts of sets that a type has, each beside what was made of the set itself
parts_beside : (f : Context → Context → Context) (g h : Term → Context) (type : Term) (sets : List Term) → meet never type ≡ never
    → zipped f (map g sets) (parts_among sets (map h (parts_of type sets))) ≡ map (λ set. f (g set) (h (meet set type))) sets
parts_beside f g h type [] e = refl
parts_beside f g h type (set ∷ sets) e = by (is_empty set) refl
  where
    rest : zipped f (map g sets) (map h (map (λ s. meet s type) sets)) ≡ map (λ s. f (g s) (h (meet s type))) sets
    rest = ap (zipped f (map g sets)) (map_of_map h (λ s. meet s type) sets) ∙ zipped_maps f g (λ s. h (meet s type)) sets

    by : (b : Bool) → is_empty set ≡ b
        → zipped f (g set ∷ map g sets) (if b then h never ∷ map h (map (λ s. meet s type) (if b then sets else set ∷ sets)) else map h (map (λ s. meet s type) (if b then sets else set ∷ sets)))
        ≡ f (g set) (h (meet set type)) ∷ map (λ s. f (g s) (h (meet s type))) sets
    by true is = ap (λ (t : Term). f (g set) (h t) ∷ zipped f (map g sets) (map h (map (λ s. meet s type) sets))) (sym e ∙ ap (λ (t : Term). meet t type) (sym (empty_is_never set is)))
        ∙ ap (λ (xs : List Context). f (g set) (h (meet set type)) ∷ xs) rest
    by false is = ap (λ (xs : List Context). f (g set) (h (meet set type)) ∷ xs) rest

pub falsy_beside : (f : Context → Context → Context) (g h : Term → Context) (sets : List Term)
    → zipped f (map g sets) (parts_among sets (map h (parts_of falsy sets))) ≡ map (λ set. f (g set) (h (meet set falsy))) sets
falsy_beside f g h sets = parts_beside f g h falsy sets never_falsy

pub truthy_beside : (f : Context → Context → Context) (g h : Term → Context) (sets : List Term)
    → zipped f (map g sets) (parts_among sets (map h (parts_of truthy sets))) ≡ map (λ set. f (g set) (h (meet set truthy))) sets
truthy_beside f g h sets = parts_beside f g h truthy sets never_truthy
