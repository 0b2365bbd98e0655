use Rattle.std.proofs.Common.{◌+◌, ◌*◌, arith, get_or, drop}
use Rattle.std.proofs.lemmas.List.{at_drop_more}
use Rattle.luau_lex.specs.Numbers.{number_behind, digit_number}
use Rattle.luau_lex.proofs.StringLemmas.{number_grows}
use Rattle.luau_lex.proofs.elements.number_in.Goals as goal

-- the number only grows from here
pub returns-then-n-gt-MAX_CODE : goal.returns-then-n-gt-MAX_CODE
returns-then-n-gt-MAX_CODE c =
    let base = c.args.base in
    let digits = c.args.digits.now in
    let step = at_drop_more (number_behind base c.loop-d.n) digits c.loop-d.d-index 0 (omega arith) in
    omega (arith, c.loop-d.invariant.whole, step, number_grows base (base * c.loop-d.n + digit_number (get_or digits c.loop-d.d-index 0)) (drop (c.loop-d.d-index + 1) digits) c.requires.least)
