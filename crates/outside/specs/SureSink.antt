-- What a sink that never fails was given.
use Rattle.std.specs.Prelude.{◌&&◌, ◌++◌, ℕ, Bool, List, Option, Some, None, take, drop, nat_eq, if◌then◌else◌}
use Rattle.std.specs.List.{starts_with}
use Rattle.outside.specs.declared.sure_sink.SureSink.{SureSink}

-- the bytes that the sink expects
abbrev pub expected_of : SureSink → List ℕ
expected_of sink = sink.expected.items

-- the bytes written, as long as they are a front of what is expected
abbrev pub written_to : SureSink → Option (List ℕ)
written_to sink = if sink.matches then Some (take sink.count sink.expected.items) else None

-- it never fails
abbrev pub faults_of : SureSink → ℕ
faults_of sink = 0

-- whether the chunk is what is expected next
abbrev pub is_next : SureSink → List ℕ → Bool
is_next sink chunk = sink.matches && starts_with nat_eq (drop sink.count sink.expected.items) chunk

-- what is told after a chunk: what was told before and then the chunk, as long as that is a front
-- of what is expected
abbrev pub told_after : List ℕ → Option (List ℕ) → List ℕ → Option (List ℕ)
told_after expected None chunk = None
told_after expected (Some before) chunk =
    if starts_with nat_eq expected (before ++ chunk) then Some (before ++ chunk) else None
