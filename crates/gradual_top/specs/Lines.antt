-- The lines that are written on the error output, and the statuses. This project's own.
use Rattle.std.specs.Prelude.{ℕ, List, [], ◌++◌, Option, Some, None, codes, slice_get}
use Rattle.std.specs.Fmt.{decimal, signed_decimal}
use Rattle.gc0_base.specs.Words.{signed}
use Rattle.gc0_base.specs.declared.place.Place.{Place}
use Rattle.gc0_base.specs.declared.site.Site.{Site}
use Rattle.gc0_base.specs.declared.site.Kind.{Kind}
use Rattle.gc0_base.specs.declared.site.Kind.TheVariants as kind
use Rattle.gc0_base.specs.declared.site.TrapKind.{TrapKind}
use Rattle.gc0_base.specs.declared.site.TrapKind.TheVariants as trap
use Rattle.gc0_base.specs.declared.site.Ending.{Ending}
use Rattle.gc0_base.specs.declared.site.Ending.TheVariants as ending
use Rattle.gc0_tree.specs.Tree.{Function, Program}
use Rattle.gc0_tree.specs.Sites.{token_place}
use Rattle.c0_lex.specs.declared.fault.LexFault.{LexFault}
use Rattle.c0_lex.specs.declared.fault.LexFault.TheVariants as lex
use Rattle.parse_faults.specs.declared.fault.ParseFault.{ParseFault}
use Rattle.parse_faults.specs.declared.fault.ParseFault.TheVariants as parse
use Rattle.c0_value_rules.specs.declared.violation.TypeFault.{TypeFault}
use Rattle.c0_value_rules.specs.declared.violation.TypeFault.TheVariants as fault
use Rattle.self_framing.specs.declared.fault.FrameFault.{FrameFault}
use Rattle.self_framing.specs.declared.fault.FrameFault.TheVariants as frame
use Rattle.program_limits.specs.declared.passed.Limit.{Limit as CountLimit}
use Rattle.program_limits.specs.declared.passed.Limit.TheVariants as limit
use Rattle.gradual_top.specs.declared.status.Status.{Status}
use Rattle.gradual_top.specs.declared.status.Status.TheVariants.{Returned, Stopped, Fault, StepsUsed, Refused, Limit, Absent, ReadFault, WriteFault, Memory, NotBuilt, Usage}
use Rattle.gradual_top.specs.Words.{word_at}
use Rattle.gradual_top.specs.Source.{Refusal, lexical, parsing, typing, framing}

abbrev pub usage_line : List ℕ
usage_line = codes "usage: run, full, check, explain, code, compare or self\n"

abbrev pub source_line : List ℕ
source_line = codes "limit source\n"

abbrev pub nesting_line : List ℕ
nesting_line = codes "limit nesting\n"

abbrev pub read_fault_line : List ℕ
read_fault_line = codes "read fault\n"

abbrev pub not_built_line : Place → List ℕ
not_built_line p = codes "not built " ++ (decimal p.line ++ (codes ":" ++ (decimal p.column ++ codes "\n")))

abbrev pub absent_line : List ℕ → List ℕ
absent_line name = codes "absent " ++ (name ++ codes "\n")

-- a place and a space
abbrev pub place_text : Place → List ℕ
place_text p = decimal p.line ++ (codes ":" ++ (decimal p.column ++ codes " "))

-- a word, a place, and what there is to say of it
abbrev pub place_line : List ℕ → Place → List ℕ → List ℕ
place_line word place what = word ++ (place_text place ++ (what ++ codes "\n"))

-- where the token of a site stands
abbrev pub or_nowhere : Option Place → Place
or_nowhere None = record { line = 0; column = 0 }
or_nowhere (Some p) = p

abbrev pub stop_place : Program → Site → Place
stop_place p site = or_nowhere (token_place p site)

abbrev pub name_of : Option Function → List ℕ
name_of None = []
name_of (Some f) = f.name

-- the name of the function of a number
abbrev pub function_name : Program → ℕ → List ℕ
function_name p function = name_of (slice_get p.functions function)

-- what stops a run at a site: at a call the callee is the word of the text there
abbrev pub kind_word : Kind → List ℕ
kind_word kind.Start = codes "requires "
kind_word kind.Requires = codes "requires "
kind_word kind.Ensures = codes "ensures "
kind_word kind.Entry = codes "loop_invariant"
kind_word kind.Again = codes "loop_invariant"
kind_word kind.Assert = codes "assert"
kind_word kind.Fold = codes "fold"
kind_word kind.Unfold = codes "unfold"
kind_word kind.Access = codes "access"
kind_word kind.Trap = codes "access"

abbrev pub kind_name : List ℕ → Program → Site → Place → Kind → List ℕ
kind_name text p site place kind.Start = codes "main"
kind_name text p site place kind.Requires = word_at text place
kind_name text p site place kind.Ensures = function_name p site.function
kind_name text p site place k = []

abbrev pub what_of : List ℕ → Program → Site → Place → List ℕ
what_of text p site place = kind_word site.kind ++ kind_name text p site place site.kind

-- C0's own faults; none of them comes in the grammar that is built so far
abbrev pub fault_word : TrapKind → List ℕ
fault_word trap.Null = codes "null"
fault_word trap.Division = codes "division"
fault_word trap.Shift = codes "shift"
fault_word trap.Assertion = codes "assert"
fault_word trap.Raised = codes "error"
fault_word trap.InputEnd = codes "input"

-- the line of an ending of a program with this text
abbrev pub line_of : List ℕ → Program → Ending → List ℕ
line_of text p (ending.Returned w) = codes "result " ++ (signed_decimal (signed w.0) ++ codes "\n")
line_of text p (ending.Stop site) = let place = stop_place p site in place_line (codes "stopped ") place (what_of text p site place)
line_of text p (ending.Fault f site) = place_line (codes "fault ") (stop_place p site) (fault_word f)
line_of text p ending.StepsUsed = codes "steps used\n"

-- a rule of the language is broken at a place
abbrev pub refused_at : Place → List ℕ → List ℕ
refused_at p cause = place_line (codes "refused ") p cause

-- the line of a lexical fault
abbrev pub lexical_line : LexFault → List ℕ
lexical_line (lex.BadByte p) = refused_at p (codes "bad byte")
lexical_line (lex.BadNumber p) = refused_at p (codes "bad number")
lexical_line (lex.BadEscape p) = refused_at p (codes "bad escape")
lexical_line (lex.OpenComment p) = refused_at p (codes "open comment")
lexical_line (lex.OpenString p) = refused_at p (codes "open string")
lexical_line (lex.NestedAnnotation p) = refused_at p (codes "nested annotation")
lexical_line lex.Memory = []

-- the line of a fault of the parser; a text that is too deep passes a limit
abbrev pub parse_line : ParseFault → List ℕ
parse_line (parse.Syntax p) = refused_at p (codes "syntax")
parse_line (parse.TooDeep p) = nesting_line
parse_line (parse.ContractOnPrototype p) = refused_at p (codes "contract on prototype")
parse_line (parse.DeepRead p) = refused_at p (codes "deep read")
parse_line parse.Memory = []

-- the status of a text with a fault of the parser
abbrev pub parse_status : ParseFault → Status
parse_status (parse.Syntax p) = Refused
parse_status (parse.TooDeep p) = Limit
parse_status (parse.ContractOnPrototype p) = Refused
parse_status (parse.DeepRead p) = Refused
parse_status parse.Memory = Memory

-- the line of a violation of the typing rules
abbrev pub type_line : TypeFault → List ℕ
type_line (fault.Unknown p) = refused_at p (codes "unknown")
type_line (fault.Twice p) = refused_at p (codes "twice")
type_line (fault.WrongType p) = refused_at p (codes "wrong type")
type_line (fault.WrongCount p) = refused_at p (codes "wrong count")
type_line (fault.Unassigned p) = refused_at p (codes "unassigned")
type_line (fault.NoReturn p) = refused_at p (codes "no return")
type_line (fault.AssignedInEnsures p) = refused_at p (codes "assigned in ensures")
type_line (fault.NoMain p) = refused_at p (codes "no main")
type_line fault.Memory = []

-- the line of a fault of framing or guards
abbrev pub frame_line : FrameFault → List ℕ
frame_line (frame.NotFramed p) = refused_at p (codes "not framed")
frame_line (frame.Unguarded p) = refused_at p (codes "unguarded")

-- the line of a refusal
abbrev pub refusal_line : Refusal → List ℕ
refusal_line (lexical f) = lexical_line f
refusal_line (parsing f) = parse_line f
refusal_line (typing f) = type_line f
refusal_line (framing f) = frame_line f

-- a word, and a name at the end of its line
abbrev pub name_line : List ℕ → List ℕ → List ℕ
name_line word name = word ++ (name ++ codes "\n")

-- the line of a limit of counts that a program passes; of a function with too much inside the name stands there
abbrev pub limit_line : Program → CountLimit → List ℕ
limit_line p limit.Structs = codes "limit structs\n"
limit_line p limit.Predicates = codes "limit predicates\n"
limit_line p limit.Functions = codes "limit functions\n"
limit_line p (limit.Fields k) = codes "limit fields\n"
limit_line p (limit.Locals f) = name_line (codes "limit locals ") (function_name p f)
limit_line p (limit.Temporaries f) = name_line (codes "limit temporaries ") (function_name p f)

-- the status of an ending
abbrev pub status_of : Ending → Status
status_of (ending.Returned w) = Returned
status_of (ending.Stop site) = Stopped
status_of (ending.Fault f site) = Fault
status_of ending.StepsUsed = StepsUsed

-- the exit status of the program
abbrev pub code_of : Status → ℕ
code_of Returned = 0
code_of Stopped = 1
code_of Fault = 2
code_of StepsUsed = 3
code_of Refused = 4
code_of Limit = 7
code_of Absent = 8
code_of ReadFault = 9
code_of WriteFault = 10
code_of Memory = 12
code_of NotBuilt = 14
code_of Usage = 64
