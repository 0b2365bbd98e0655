use Rattle.std.proofs.Common.{◌≡◌, ◌-◌, ◌≤◌, ◌<◌, ℕ, List, length, take, drop, arith, subst, ◌∙◌, length-drop, [], ◌∷◌, refl}
use Rattle.std.proofs.lemmas.List.{take_all, drop-drop}
use Rattle.outside.specs.Written.{Appends}
use Rattle.nonstrict_cli.proofs.Ends.{nothing_appended}
use Rattle.nonstrict_cli.proofs.Chunks.{appended}
use Rattle.nonstrict_cli.proofs.Rests.{HasGiven, given_more, gives_rests, last_given, none_given}
use Rattle.nonstrict_cli.proofs.write.write_whole.Goals as goal

-- the front that a write took goes behind what was done
pub loop-done-preserved : goal.loop-done-preserved
loop-done-preserved g c =
    let text = c.args.text.now in
    let done = c.loop-done.done in
    let count = c.in-Ok.count in
    let whole : take (length text - done) (drop done text) ≡ drop done text = take_all (length text - done) (drop done text) (omega (arith, length-drop done text)) in
    let within : count ≤ length (drop done text) = subst (λ (rest : List ℕ). count ≤ length rest) whole c.in-Ok.ensures.within in
    let chunk : Appends (g.S.Sink.written c.loop-done.sink) (g.S.Sink.written c.write.new.self) (take count (drop done text)) =
    subst (λ (rest : List ℕ). Appends (g.S.Sink.written c.loop-done.sink) (g.S.Sink.written c.write.new.self) (take count rest)) whole c.in-Ok.ensures.appends in
    let given : Appends (g.S.Sink.chunks c.loop-done.sink) (g.S.Sink.chunks c.write.new.self) (drop done text ∷ []) =
    subst (λ (rest : List ℕ). Appends (g.S.Sink.chunks c.loop-done.sink) (g.S.Sink.chunks c.write.new.self) (rest ∷ [])) whole c.in-Ok.ensures.given in
    let some : 0 < count = grind (arith, c.if-count-eq0.false) in (
      omega (arith, length-drop done text),
      appended (g.S.Sink.written c.args.sink.now) (g.S.Sink.written c.loop-done.sink) (g.S.Sink.written c.write.new.self) text done count c.loop-done.invariant.1 chunk,
      c.in-Ok.ensures.quiet some ∙ c.loop-done.invariant.2,
      subst (λ (rest : List ℕ). HasGiven (g.S.Sink.chunks c.args.sink.now) (g.S.Sink.chunks c.write.new.self) text rest) (drop-drop count done text)
          (given_more (g.S.Sink.chunks c.args.sink.now) (g.S.Sink.chunks c.loop-done.sink) (g.S.Sink.chunks c.write.new.self) text (drop done text) count some c.loop-done.invariant.3 given),
    )

pub loop-done-init : goal.loop-done-init
loop-done-init g c = (omega arith, nothing_appended (g.S.Sink.written c.args.sink.now), refl, none_given (g.S.Sink.chunks c.args.sink.now) c.args.text.now)

-- a write that fails or takes nothing was given the rest too
pub returns-in_default-clause-rests : goal.returns-in_default-clause-rests
returns-in_default-clause-rests g c =
    let text = c.args.text.now in
    let done = c.loop-done.done in
    let whole : take (length text - done) (drop done text) ≡ drop done text = take_all (length text - done) (drop done text) (omega (arith, length-drop done text)) in
    last_given (g.S.Sink.chunks c.args.sink.now) (g.S.Sink.chunks c.loop-done.sink) (g.S.Sink.chunks c.write.new.self) text (drop done text) c.loop-done.invariant.3
    (subst (λ (rest : List ℕ). Appends (g.S.Sink.chunks c.loop-done.sink) (g.S.Sink.chunks c.write.new.self) (rest ∷ [])) whole c.in_default.ensures.given)

pub returns-then-count-eq0-clause-rests : goal.returns-then-count-eq0-clause-rests
returns-then-count-eq0-clause-rests g c =
    let text = c.args.text.now in
    let done = c.loop-done.done in
    let whole : take (length text - done) (drop done text) ≡ drop done text = take_all (length text - done) (drop done text) (omega (arith, length-drop done text)) in
    last_given (g.S.Sink.chunks c.args.sink.now) (g.S.Sink.chunks c.loop-done.sink) (g.S.Sink.chunks c.write.new.self) text (drop done text) c.loop-done.invariant.3
    (subst (λ (rest : List ℕ). Appends (g.S.Sink.chunks c.loop-done.sink) (g.S.Sink.chunks c.write.new.self) (rest ∷ [])) whole c.in-Ok.ensures.given)

pub returns-clause-rests : goal.returns-clause-rests
returns-clause-rests g c = gives_rests (g.S.Sink.chunks c.args.sink.now) (g.S.Sink.chunks c.loop-done.sink) c.args.text.now (drop c.loop-done.done c.args.text.now) c.loop-done.invariant.3
