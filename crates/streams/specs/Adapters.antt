-- The parts of a source and of a sink over std's streams.
use Rattle.std.specs.Prelude.{Bool}
use Rattle.streams.specs.declared.reader.Reader.{Reader}
use Rattle.streams.specs.declared.writer.Writer.{Writer}

-- the reader of a source
abbrev pub reader_behind : {R : Type 0} → Reader R → R
reader_behind source = source.inner

-- whether a read of the source has failed
abbrev pub reader_failed : {R : Type 0} → Reader R → Bool
reader_failed source = source.failed

-- the writer of a sink
abbrev pub writer_behind : {W : Type 0} → Writer W → W
writer_behind sink = sink.inner

-- whether a write or a flush of the sink has failed
abbrev pub writer_failed : {W : Type 0} → Writer W → Bool
writer_failed sink = sink.failed
