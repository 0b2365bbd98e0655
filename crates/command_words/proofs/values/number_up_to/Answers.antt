use Rattle.std.proofs.Common.{rules, arith, ap, sym, ◌∙◌, ◌≡◌, refl, true, Some, None}
use Rattle.std.specs.Prelude.{nat_le, option_and_then, if◌then◌else◌}
use Rattle.std.proofs.lemmas.Bool.Decides.{nat_tests}
use Rattle.command_words.proofs.Numbers.{number_is_up_to, read_up_to}
use Rattle.command_words.proofs.values.number_up_to.Goals as goal

pub returns-then-number-most-clause-number : goal.returns-then-number-most-clause-number
returns-then-number-most-clause-number c =
    let read = read_up_to c.args.most c.args.text.now c.parse.result (omega arith) (search rules) c.parse.ensures.value.0 in
    let within : nat_le c.in_ok-number.number c.args.most ≡ true = grind (arith, nat_tests) in
    sym (read ∙ ap (option_and_then (λ n. if nat_le n c.args.most then Some n else None)) (sym c.ok.ensures.value ∙ c.in_ok-number.was) ∙ rw within refl)

pub returns-in_err-number-clause-number : goal.returns-in_err-number-clause-number
returns-in_err-number-clause-number c =
    let read = read_up_to c.args.most c.args.text.now c.parse.result (omega arith) (search rules) c.parse.ensures.value.0 in
    search rules ∙ sym (read ∙ ap (option_and_then (λ n. if nat_le n c.args.most then Some n else None)) (sym c.ok.ensures.value ∙ c.in_err-number.was))

pub returns-then-number-most-clause-limit : goal.returns-then-number-most-clause-limit
returns-then-number-most-clause-limit c = number_is_up_to c.args.most c.args.text.now c.in_ok-number.number (returns-then-number-most-clause-number c)
