-- What a fetch answers for files that may be told. This project's own.
use Rattle.std.specs.Prelude.{◌≡◌, ℕ, ◌<◌, ◌≤◌, List, length, Option, Some, None, if◌then◌else◌}
use Rattle.std.specs.Str.{bytes_eq}
use Rattle.gc0_io.specs.declared.outside.Fetched.{Fetched}
use Rattle.gc0_io.specs.declared.outside.Fetched.TheVariants.{Found, TooLong, Absent, Failed, Memory}
use Rattle.gc0_io.specs.Causes.{Rose}

-- the contents of files by their names
abbrev pub Contents : Type 0
Contents = List ℕ → Option (List ℕ)

-- what is there, or else this
abbrev pub or_else : Option (List ℕ) → Option (List ℕ) → Option (List ℕ)
or_else (Some content) other = Some content
or_else None other = other

-- these files and one more behind them: each other name keeps its file, and so does this one if it has a file
abbrev pub with_file : Contents → (name content : List ℕ) → Contents
with_file files name content asked = or_else (files asked) (if bytes_eq name asked then Some content else None)

-- a fault comes only where the count rose
abbrev pub FetchCause : ℕ → ℕ → Fetched → Type 0
FetchCause before now (Found bytes) = Unit {0}
FetchCause before now TooLong = Unit {0}
FetchCause before now Absent = Unit {0}
FetchCause before now Failed = Rose before now
FetchCause before now Memory = Unit {0}

-- what is found is not longer than was asked for
abbrev pub FetchesAtMost : ℕ → Fetched → Type 0
FetchesAtMost most (Found bytes) = length bytes ≤ most
FetchesAtMost most TooLong = Unit {0}
FetchesAtMost most Absent = Unit {0}
FetchesAtMost most Failed = Unit {0}
FetchesAtMost most Memory = Unit {0}

-- the answer for a file that has these bytes, or that isn't there
abbrev pub Fetches : Option (List ℕ) → ℕ → Fetched → Type 0
Fetches file most (Found bytes) = file ≡ Some bytes
Fetches file most TooLong = (bytes : List ℕ) × (file ≡ Some bytes) × (most < length bytes)
Fetches file most Absent = file ≡ None
Fetches file most Failed = Unit {0}
Fetches file most Memory = Unit {0}
