use Rattle.std.proofs.Common.{rules, arith, ◌≡◌, ◌∙◌, sym, ap, map, option_map, string_bytes, drop, ◌+◌, None, Option}
use Rattle.std.specs.Prelude.{option_and_then}
use Rattle.command_words.specs.declared.reading.Reading.{Reading}
use Rattle.command_words.specs.Given.{nothing, reading_of, given_of, step, Texts}
use Rattle.command_words.proofs.AllRead.{ended, read_from, next_word, last_word, read_all}
use Rattle.command_words.proofs.reading.read.Goals as goal

pub returns-in_err-reading : goal.returns-in_err-reading
returns-in_err-reading c =
    let words = c.args.words.now in
    let s = reading_of c.loop-word.reading in
    let next = next_word string_bytes words c.loop-word.word-index c.word-item.result s (option_map reading_of c.step.result) (omega arith) c.word-item.is (c.step.ensures ∙ ap (step s) c.as_str.ensures.value) in
    let none : option_map given_of c.from_residual.result ≡ None = search rules in
    let after : Option Reading → Option Texts = λ o. option_and_then (λ n. read_from n (map string_bytes (drop (c.loop-word.word-index + 1) words))) (option_map reading_of o) in
    none ∙ (sym (next ∙ ap after c.in_err-reading.was) ∙ (c.loop-word.invariant ∙ read_all (map string_bytes words) nothing))

pub loop-word-preserved : goal.loop-word-preserved
loop-word-preserved c =
    let words = c.args.words.now in
    let s = reading_of c.loop-word.reading in
    let next = next_word string_bytes words c.loop-word.word-index c.word-item.result s (option_map reading_of c.step.result) (omega arith) c.word-item.is (c.step.ensures ∙ ap (step s) c.as_str.ensures.value) in
    let after : Option Reading → Option Texts = λ o. option_and_then (λ n. read_from n (map string_bytes (drop (c.loop-word.word-index + 1) words))) (option_map reading_of o) in
    sym (next ∙ ap after c.in_ok-reading.was) ∙ c.loop-word.invariant

pub returns-in-Some : goal.returns-in-Some
returns-in-Some c =
    let words = c.args.words.now in
    let s = reading_of c.loop-word.reading in
    let end = last_word string_bytes words c.loop-word.word-index s c.loop-word-test.false in
    sym (end ∙ ap (ended s.given) c.in-Some.is) ∙ (c.loop-word.invariant ∙ read_all (map string_bytes words) nothing)

pub returns-in-None : goal.returns-in-None
returns-in-None c =
    let words = c.args.words.now in
    let s = reading_of c.loop-word.reading in
    let end = last_word string_bytes words c.loop-word.word-index s c.loop-word-test.false in
    sym (end ∙ ap (ended s.given) c.in-None.is) ∙ (c.loop-word.invariant ∙ read_all (map string_bytes words) nothing)
