-- Options and their values.
use Rattle.std.proofs.Common.{◌≡◌, Bool, true, false, true≢false, ◌||◌, Option, Some, None, refl, sym, ap, subst, option_map}

pub or_false_parts : (x y : Bool) → (x || y) ≡ false → (x ≡ false) × (y ≡ false)
or_false_parts false y e = (refl, e)
or_false_parts true y e = absurd (true≢false e)

abbrev value_or : {A : Type 0} → A → Option A → A
value_or x None = x
value_or x (Some y) = y

pub some_same : {A : Type 0} {x y : A} → Some x ≡ Some y → x ≡ y
some_same {x = x} e = ap (value_or x) e

abbrev IsThere : {A : Type 0} → Option A → Type 0
IsThere None = ⊥
IsThere (Some x) = Unit {0}

pub none_not_some : {A : Type 0} {y : A} → None ≡ Some y → ⊥
none_not_some {A} {y} e = subst (IsThere {A = A}) (sym e) tt

-- what a mapped option comes from
pub map_some : {A B : Type 0} (f : A → B) (o : Option A) (y : B) → option_map f o ≡ Some y → (x : A) × (o ≡ Some x) × (f x ≡ y)
map_some f None y e = absurd (none_not_some e)
map_some f (Some x) y e = (x, refl, some_same e)
