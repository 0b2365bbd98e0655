-- Types that are cut are small.
use Rattle.std.proofs.Common.{◌≡◌, Bool, true, false, refl, if◌then◌else◌}
use Rattle.type_arena.specs.Term.{Term, term}
use Rattle.type_normal.specs.Cut.{is_small, cut_up, many_values}

by_test : (small : Bool) (type : Term) → is_small type ≡ small → is_small (if small then type else many_values type) ≡ true
by_test true type e = e
by_test false (term free rows) e = refl

pub cut_is_small : (type : Term) → is_small (cut_up type) ≡ true
cut_is_small type = by_test (is_small type) type refl
