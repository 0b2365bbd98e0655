-- A sink in memory whose calls fail as planned.
use Rattle.std.specs.Prelude.{◌≡◌, ◌-◌, ℕ, List, [], Result, Ok, Err, min, length, if◌then◌else◌}
use Rattle.outside.specs.declared.memory_sink.MemorySink.{MemorySink}
use Rattle.outside.specs.declared.sink.SinkFailed.{SinkFailed}
use Rattle.outside.specs.declared.plan.Turn.{Turn}
use Rattle.outside.specs.declared.plan.Turn.TheVariants.{Fails, Idles, Takes}
use Rattle.outside.specs.Plan.{count_after, is_fault, is_listed, turn_of}

-- the bytes written so far
abbrev pub written_to : MemorySink → List ℕ
written_to sink = sink.bytes.items

-- how many calls failed or took nothing, as planned or for want of room
abbrev pub faults_of : MemorySink → ℕ
faults_of sink = sink.plan.faults

-- what the next call does with a chunk of so many bytes
abbrev pub turn_at : MemorySink → ℕ → Turn
turn_at sink len =
    let fails = is_listed sink.plan.failing.items sink.plan.calls in
    let idles = is_listed sink.idle.items sink.plan.calls in
    turn_of fails idles (min len sink.per_call) (sink.room - length sink.bytes.items)

-- a sink with so much room, a limit per call and these numbers of failing and idle calls, which was
-- given nothing
pub record IsFresh (left limit : ℕ) (fails idles : List ℕ) (sink : MemorySink) : Type 0 where
  pub room : sink.room ≡ left
  pub per_call : sink.per_call ≡ limit
  pub failing : sink.plan.failing.items ≡ fails
  pub idle : sink.idle.items ≡ idles
  pub calls : sink.plan.calls ≡ 0
  pub faults : sink.plan.faults ≡ 0
  pub written : sink.bytes.items ≡ []

-- the result of a call that does so
abbrev pub result_of : Turn → Result ℕ SinkFailed
result_of Fails = Err record {}
result_of Idles = Ok 0
result_of (Takes n) = Ok n

-- a call did this: it has its result, it is counted, and so is a fault; the plan stays
pub record Answers (turn : Turn) (old new : MemorySink) (result : Result ℕ SinkFailed) : Type 0 where
  pub answer : result ≡ result_of turn
  pub calls : new.plan.calls ≡ count_after old.plan.calls
  pub faults : new.plan.faults ≡ (if is_fault turn then count_after old.plan.faults else old.plan.faults)
  pub room : new.room ≡ old.room
  pub per_call : new.per_call ≡ old.per_call
  pub failing : new.plan.failing.items ≡ old.plan.failing.items
  pub idle : new.idle.items ≡ old.idle.items
