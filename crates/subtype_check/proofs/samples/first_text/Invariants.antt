use Rattle.std.proofs.Common.{◌≡◌, drop}
use Rattle.std.specs.Bool.{beq}
use Rattle.type_normal.specs.Free.{name_cmp}
use Rattle.type_normal.specs.Members.{has_member}
use Rattle.subtype_check.specs.Apart.{first_that}
use Rattle.subtype_check.proofs.samples.first_text.Given as goal

abbrev pub invariant-loop-x : goal.invariant-loop-x
invariant-loop-x l = first_that (λ x. beq (has_member name_cmp x l.ys) l.inside) l.xs ≡ first_that (λ x. beq (has_member name_cmp x l.ys) l.inside) (drop l.x-index l.xs)
