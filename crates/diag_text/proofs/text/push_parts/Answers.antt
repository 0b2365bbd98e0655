use Rattle.std.proofs.Common.{rules, arith, ◌≡◌, ◌≤◌, List, ℕ, take, vec_len, ap, sym, ◌∙◌}
use Rattle.std.proofs.lemmas.Grind.{common_steps}
use Rattle.std.proofs.lemmas.List.{take-take}
use Rattle.diag_text.proofs.text.push_parts.Goals as goal

-- what begins with a list that begins with old begins with old
still : (n m : ℕ) (old now new : List ℕ) → n ≤ m → take n now ≡ old → take m new ≡ now → take n new ≡ old
still n m old now new fits before kept = sym (take-take n m new fits) ∙ ap (take n) kept ∙ before

pub returns-in_err-push_printable-2-clause-err : goal.returns-in_err-push_printable-2-clause-err
returns-in_err-push_printable-2-clause-err c =
    let out = c.args.out.now in
    let now = c.extend_from_slice-3.new.self in
    let before : take (vec_len out) now.items ≡ out.items = grind (arith, common_steps) in
    let fits : vec_len out ≤ vec_len now = grind (arith, common_steps) in
    let kept = still (vec_len out) (vec_len now) out.items now.items c.push_printable-2.new.out.items fits before c.in_err-push_printable-2.ensures.err in
    search rules
