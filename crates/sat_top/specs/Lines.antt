-- The lines that are written, and the statuses. This project's own, but for those of the SAT competitions.
use Rattle.std.specs.Prelude.{ℕ, Bool, List, ◌++◌, codes}
use Rattle.std.specs.Fmt.{decimal}
use Rattle.sat_text.specs.Values.{value_text}
use Rattle.sat_top.specs.declared.status.Status.{Status}
use Rattle.sat_top.specs.declared.status.Status.TheVariants.{Satisfiable, Unsatisfiable, Unknown, BadLine, Limit, Absent, ReadFault, WriteFault, Memory, Usage}

abbrev pub usage_line : List ℕ
usage_line = codes "usage: sat_cli [--conflicts N] CNF [PROOF]\n"

abbrev pub limit_line : List ℕ
limit_line = codes "limit file\n"

abbrev pub read_fault_line : List ℕ
read_fault_line = codes "read fault\n"

abbrev pub absent_line : List ℕ → List ℕ
absent_line name = codes "absent " ++ (name ++ codes "\n")

-- a line of the file, counted from 1
abbrev pub bad_line : ℕ → List ℕ
bad_line number = codes "bad line " ++ (decimal number ++ codes "\n")

abbrev pub satisfiable_text : List Bool → List ℕ
satisfiable_text values = codes "s SATISFIABLE\n" ++ value_text values

abbrev pub unsatisfiable_line : List ℕ
unsatisfiable_line = codes "s UNSATISFIABLE\n"

abbrev pub unknown_line : List ℕ
unknown_line = codes "s UNKNOWN\n"

-- the exit status of the program
abbrev pub code_of : Status → ℕ
code_of Satisfiable = 10
code_of Unsatisfiable = 20
code_of Unknown = 0
code_of BadLine = 4
code_of Limit = 7
code_of Absent = 8
code_of ReadFault = 9
code_of WriteFault = 11
code_of Memory = 12
code_of Usage = 64
