-- What the forms in memory hold, for the contracts of their own methods. This project's own.
use Rattle.std.specs.Prelude.{ℕ, List, drop, Option}
use Rattle.gc0_io.specs.Held.{content_in}
use Rattle.gc0_io.specs.declared.memory.MemFiles.{MemFiles}
use Rattle.gc0_io.specs.declared.memory.MemSource.{MemSource}
use Rattle.gc0_io.specs.declared.memory.MemSink.{MemSink}

-- the content of each file by its name
abbrev pub held_files : MemFiles → List ℕ → Option (List ℕ)
held_files m name = content_in m.entries.items name

-- the bytes that are left to read
abbrev pub held_left : MemSource → List ℕ
held_left s = drop s.at s.bytes.items

-- the bytes that were taken
abbrev pub held_taken : MemSink → List ℕ
held_taken s = s.bytes.items

-- how many bytes a sink takes in all
abbrev pub held_room : MemSink → ℕ
held_room s = s.capacity

-- the numbers of the calls that are to fail
abbrev pub files_failing : MemFiles → List ℕ
files_failing m = m.script.failing.items

abbrev pub source_failing : MemSource → List ℕ
source_failing s = s.script.failing.items

abbrev pub sink_failing : MemSink → List ℕ
sink_failing s = s.script.failing.items
