use Rattle.std.proofs.Common.{◌≡◌, drop}
use Rattle.std.specs.Bool.{beq}
use Rattle.type_normal.specs.Members.{has_member}
use Rattle.subtype_check.specs.Apart.{first_that, fn_cmp}
use Rattle.subtype_check.proofs.samples.first_name.Given as goal

abbrev pub invariant-loop-x : goal.invariant-loop-x
invariant-loop-x l = first_that (λ x. beq (has_member fn_cmp x l.ys) l.inside) l.xs ≡ first_that (λ x. beq (has_member fn_cmp x l.ys) l.inside) (drop l.x-index l.xs)
