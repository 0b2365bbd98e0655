use Rattle.std.proofs.Common.{Err, map, string_bytes, ap}
use Rattle.nonstrict_cli.proofs.Ends.{answer_ends_well, ended_bytes, ended_status, stop_ends_well, not_read_fault, not_silent, not_usage, not_write_fault, text_is_written}
use Rattle.nonstrict_cli.proofs.Telling.{written_is_told}
use Rattle.nonstrict_cli.proofs.Rests.{no_rests, rests_of_output}
use Rattle.nonstrict_cli.proofs.nonstrict_call.nonstrict.Goals as goal

pub returns-in-Err-clause-status : goal.returns-in-Err-clause-status
returns-in-Err-clause-status g c =
    rw c.into.ensures (ended_status (map string_bytes c.args.words.now) (g.T.Tree.contents c.args.tree.now) c.in-Err.stop (λ e. c.in-Err.ensures.usage.0 (ap Err e)) (λ limit e. c.in-Err.ensures.too_large limit (ap Err e)))

pub returns-in-Err-clause-written : goal.returns-in-Err-clause-written
returns-in-Err-clause-written g c =
    rw c.into.ensures (ended_bytes (map string_bytes c.args.words.now) (g.T.Tree.contents c.args.tree.now) c.in-Err.stop (g.S.Sink.written c.args.sink.now) (λ e. c.in-Err.ensures.usage.0 (ap Err e)) (λ limit e. c.in-Err.ensures.too_large limit (ap Err e)))

-- words that are no command give no answer to write
pub returns-then-write_whole-clause-usage : goal.returns-then-write_whole-clause-usage
returns-then-write_whole-clause-usage g c = (λ e. absurd (not_usage c.in-Ok.answer.status c.in-Ok.ensures.checked e), λ none. let never = c.in-Ok.ensures.usage.1 none in cc)

pub returns-then-write_whole-clause-read_fault : goal.returns-then-write_whole-clause-read_fault
returns-then-write_whole-clause-read_fault g c = λ e. absurd (not_read_fault c.in-Ok.answer.status c.in-Ok.ensures.checked e)

pub returns-then-write_whole-clause-write_fault : goal.returns-then-write_whole-clause-write_fault
returns-then-write_whole-clause-write_fault g c = λ e. absurd (not_write_fault c.in-Ok.answer.status c.in-Ok.ensures.checked e)

pub returns-then-write_whole-clause-silent : goal.returns-then-write_whole-clause-silent
returns-then-write_whole-clause-silent g c = λ h. absurd (not_silent c.in-Ok.answer.status c.in-Ok.ensures.checked h)

pub returns-in-Err-clause-complete : goal.returns-in-Err-clause-complete
returns-in-Err-clause-complete g c =
    rw c.into.ensures (stop_ends_well g.S.Sink.written (map string_bytes c.args.words.now) (g.T.Tree.contents c.args.tree.now) c.in-Err.stop c.args.sink.now _ _ (λ e. c.in-Err.ensures.usage.0 (ap Err e)) (λ limit e. c.in-Err.ensures.too_large limit (ap Err e)) (λ e. c.in-Err.ensures.read_fault (ap Err e)))

pub returns-then-write_whole-clause-complete : goal.returns-then-write_whole-clause-complete
returns-then-write_whole-clause-complete g c =
    answer_ends_well g.S.Sink.written (map string_bytes c.args.words.now) (g.T.Tree.contents c.args.tree.now) c.in-Ok.answer c.args.sink.now c.write_whole.new.sink _ _ c.in-Ok.ensures.answer (rw (← c.as_slice.ensures.value) c.if-write_whole.ensures.whole)

-- where the text of the output is written, so are lines that tell the reports
pub returns-then-write_whole-clause-certain : goal.returns-then-write_whole-clause-certain
returns-then-write_whole-clause-certain g c = λ answer.
    written_is_told (g.T.Tree.contents c.args.tree.now) (map string_bytes c.args.words.now) (g.S.Sink.written c.args.sink.now) (g.S.Sink.written c.write_whole.new.sink) c.lines_tell_certain_reports.ensures
    (text_is_written (map string_bytes c.args.words.now) (g.T.Tree.contents c.args.tree.now) c.in-Ok.answer (g.S.Sink.written c.args.sink.now) (g.S.Sink.written c.write_whole.new.sink) c.in-Ok.ensures.answer (rw (← c.as_slice.ensures.value) c.if-write_whole.ensures.whole))

pub returns-in-Err-clause-certain : goal.returns-in-Err-clause-certain
returns-in-Err-clause-certain g c =
    rw c.into.ensures (λ answer. written_is_told (g.T.Tree.contents c.args.tree.now) (map string_bytes c.args.words.now) (g.S.Sink.written c.args.sink.now) (g.S.Sink.written c.args.sink.now) c.lines_tell_certain_reports.ensures
    (ended_bytes (map string_bytes c.args.words.now) (g.T.Tree.contents c.args.tree.now) c.in-Err.stop (g.S.Sink.written c.args.sink.now) (λ e. c.in-Err.ensures.usage.0 (ap Err e)) (λ limit e. c.in-Err.ensures.too_large limit (ap Err e)) answer))

-- nothing is given where the run ends early
pub returns-in-Err-clause-rests : goal.returns-in-Err-clause-rests
returns-in-Err-clause-rests g c = no_rests (g.T.Tree.contents c.args.tree.now) (map string_bytes c.args.words.now) (g.S.Sink.chunks c.args.sink.now)

pub returns-then-write_whole-clause-rests : goal.returns-then-write_whole-clause-rests
returns-then-write_whole-clause-rests g c =
    rests_of_output (g.T.Tree.contents c.args.tree.now) (map string_bytes c.args.words.now) c.in-Ok.answer (g.S.Sink.chunks c.args.sink.now) (g.S.Sink.chunks c.write_whole.new.sink) c.in-Ok.ensures.answer (rw (← c.as_slice.ensures.value) c.if-write_whole.ensures.rests)
