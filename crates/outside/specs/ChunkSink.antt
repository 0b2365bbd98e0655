-- A sink in memory that keeps what it is given, chunk by chunk.
use Rattle.std.specs.Prelude.{Bool, ℕ, List, Option, Some, None, if◌then◌else◌}
use Rattle.outside.specs.declared.chunk_sink.ChunkSink.{ChunkSink}

-- whether it tells what it is given: so far there was memory for each chunk
abbrev pub tells : ChunkSink → Bool
tells sink = sink.whole

-- the chunks that it was given, if it tells that
abbrev pub chunks_of : ChunkSink → Option (List (List ℕ))
chunks_of sink = if tells sink then Some sink.chunks.items else None

-- the bytes written, if it tells that
abbrev pub written_to : ChunkSink → Option (List ℕ)
written_to sink = if tells sink then Some sink.bytes.items else None

-- how often memory ran out
abbrev pub faults_of : ChunkSink → ℕ
faults_of sink = sink.faults
