-- What each answer of the program says: its cause, and what was written. This project's own.
use Rattle.std.specs.Prelude.{◌≡◌, ◌⊎◌, ℕ, ◌<◌, ◌≤◌, List, [], length, Option, Some, None, IfSome}
use Rattle.std.specs.Io.KnownBytes.{append_known}
use Rattle.gc0_io.specs.Causes.{Rose}
use Rattle.gc0_io.specs.Bytes.{TakesFront}
use Rattle.gc0_io.specs.Fetching.{Contents}
use Rattle.gc0_base.specs.declared.place.Place.{Place}
use Rattle.gc0_base.specs.declared.limits.TheConstants.Limits as limits
use Rattle.parsed_tree.specs.Tree.{ProgramTree}
use Rattle.gc0_tree.specs.Tree.{Program}
use Rattle.c0_numbers.specs.Resolved.{resolved}
use Rattle.c0_meaning.specs.Running.{Seen, meaning}
use Rattle.program_limits.specs.declared.passed.Limit.{Limit as CountLimit}
use Rattle.gradual_top.specs.declared.status.Status.{Status}
use Rattle.gradual_top.specs.declared.status.Status.TheVariants.{Returned, Stopped, Fault, StepsUsed, Refused, Limit, Absent, ReadFault, WriteFault, Memory, NotBuilt, Usage}
use Rattle.gradual_top.specs.Requests.{Asked, asked_in}
use Rattle.gradual_top.specs.Source.{HasTree, Refusal, IsRefused, IsTooDeep, IsPast, IsSoundUnbuilt, IsRunnable, Verdict, refused, too_deep, past, unbuilt, runs, IsVerdict}
use Rattle.gradual_top.specs.Lines.{usage_line, source_line, nesting_line, read_fault_line, absent_line, not_built_line, refusal_line, limit_line, line_of, status_of}

-- the outputs before and after a call: their counts of faults, and the bytes that were taken, where they are told
pub record Outputs : Type 0 where
  pub out_before : ℕ
  pub out_after : ℕ
  pub err_before : ℕ
  pub err_after : ℕ
  pub out_old : Option (List ℕ)
  pub out_new : Option (List ℕ)
  pub err_old : Option (List ℕ)
  pub err_new : Option (List ℕ)

-- all that a call was given and what it left
pub record Call : Type 0 where
  pub words : List (List ℕ)
  -- the files by name, where they are told
  pub files : Option Contents
  -- the count of faults of the files
  pub read_before : ℕ
  pub read_after : ℕ
  pub outputs : Outputs

-- nothing but this line was written
pub record Refuses (outputs : Outputs) (line : List ℕ) : Type 0 where
  pub out : outputs.out_new ≡ outputs.out_old
  pub err : outputs.err_new ≡ append_known outputs.err_old line

-- the count of an output rose
abbrev pub OutputFailed : Outputs → Type 0
OutputFailed o = Rose o.out_before o.out_after ⊎ Rose o.err_before o.err_after

-- what a program does with so many steps; the input isn't read yet
abbrev pub run_of : Program → ℕ → Seen
run_of p n = meaning p [] n

-- the program came to an ending, which has this status: its output and the line of its ending were written
pub record Ran (text : List ℕ) (p : Program) (n : ℕ) (outputs : Outputs) (answer : Status) : Type 0 where
  pub out : outputs.out_new ≡ append_known outputs.out_old (run_of p n).0
  pub err : outputs.err_new ≡ append_known outputs.err_old (line_of text p (run_of p n).1)
  pub status : answer ≡ status_of (run_of p n).1

-- what the end of a program's run says of what was written and of the faults
abbrev pub Ends : List ℕ → Program → ℕ → Outputs → Status → Type 0
Ends text p n o Returned = Ran text p n o Returned
Ends text p n o Stopped = Ran text p n o Stopped
Ends text p n o Fault = Ran text p n o Fault
Ends text p n o StepsUsed = Ran text p n o StepsUsed
Ends text p n o WriteFault = TakesFront o.out_old o.out_new (run_of p n).0 × OutputFailed o
Ends text p n o Memory = TakesFront o.out_old o.out_new (run_of p n).0
Ends text p n o status = ⊥

-- the text has a tree whose program was run to an ending of this status
pub record IsRun (text : List ℕ) (n : ℕ) (outputs : Outputs) (answer : Status) : Type 0 where
  pub tree : ProgramTree
  pub runnable : IsRunnable text tree
  pub ran : Ran text (resolved tree) n outputs answer

-- the text has a tree whose program was begun, and `out` took a front of what it writes
pub record IsBegun (text : List ℕ) (n : ℕ) (outputs : Outputs) : Type 0 where
  pub tree : ProgramTree
  pub runnable : IsRunnable text tree
  pub front : TakesFront outputs.out_old outputs.out_new (run_of (resolved tree) n).0

-- the text is refused, and this is its first fault
pub record SaysRefused (text : List ℕ) (outputs : Outputs) : Type 0 where
  pub refusal : Refusal
  pub cause : IsRefused text refusal
  pub says : Refuses outputs (refusal_line refusal)

-- each tree of the text is too deep
pub record SaysTooDeep (text : List ℕ) (outputs : Outputs) : Type 0 where
  pub deep : IsTooDeep text
  pub says : Refuses outputs nesting_line

-- the text has a sound tree that passes a limit of counts
pub record SaysPast (text : List ℕ) (outputs : Outputs) : Type 0 where
  pub tree : ProgramTree
  pub limit : CountLimit
  pub past : IsPast text tree limit
  pub says : Refuses outputs (limit_line (resolved tree) limit)

-- the text has a sound tree within the limits and is none of the grammar that is built so far, as is first seen here
pub record SaysUnbuilt (text : List ℕ) (outputs : Outputs) : Type 0 where
  pub place : Place
  pub unbuilt : IsSoundUnbuilt text place
  pub says : Refuses outputs (not_built_line place)

-- what an answer says of a text that was fetched
abbrev pub TextAnswered : List ℕ → ℕ → Outputs → Status → Type 0
TextAnswered text n o Returned = IsRun text n o Returned
TextAnswered text n o Stopped = IsRun text n o Stopped
TextAnswered text n o Fault = IsRun text n o Fault
TextAnswered text n o StepsUsed = IsRun text n o StepsUsed
TextAnswered text n o Refused = SaysRefused text o
TextAnswered text n o Limit = SaysTooDeep text o ⊎ SaysPast text o
TextAnswered text n o NotBuilt = SaysUnbuilt text o
TextAnswered text n o WriteFault = ((o.out_new ≡ o.out_old) ⊎ IsBegun text n o) × OutputFailed o
TextAnswered text n o Memory = (o.out_new ≡ o.out_old) ⊎ IsBegun text n o
TextAnswered text n o status = ⊥

-- the words name a file that has this text, and a number of steps
pub record Asks (call : Call) (text : List ℕ) (steps : ℕ) : Type 0 where
  pub name : List ℕ
  pub asked : asked_in call.words ≡ Some (record { steps = steps; file = name })
  pub told : IfSome call.files (λ files. files name ≡ Some text)

-- The text of the file was reached: this is what the answer says of it. A text that is longer than a source
-- may be is never reached, whether the files are told or not.
pub record Reaches (call : Call) (status : Status) : Type 0 where
  pub text : List ℕ
  pub steps : ℕ
  pub asks : Asks call text steps
  pub within : length text ≤ limits.SOURCE
  pub answer : TextAnswered text steps call.outputs status

-- the file is not there
pub record IsAbsent (call : Call) : Type 0 where
  pub asks : Asked
  pub asked : asked_in call.words ≡ Some asks
  pub told : IfSome call.files (λ files. files asks.file ≡ None)
  pub says : Refuses call.outputs (absent_line asks.file)

-- the file has more bytes than a source may have
pub record IsTooLong (call : Call) : Type 0 where
  pub asks : Asked
  pub asked : asked_in call.words ≡ Some asks
  pub told : IfSome call.files (λ files. (text : List ℕ) × (files asks.file ≡ Some text) × (limits.SOURCE < length text))
  pub says : Refuses call.outputs source_line

-- What an answer says. After WriteFault and Memory, `out` took nothing, or a front of what is
-- defined; after a refusal or a limit it took nothing.
abbrev pub Answered : Call → Status → Type 0
Answered call Returned = Reaches call Returned
Answered call Stopped = Reaches call Stopped
Answered call Fault = Reaches call Fault
Answered call StepsUsed = Reaches call StepsUsed
Answered call Refused = Reaches call Refused
Answered call NotBuilt = Reaches call NotBuilt
Answered call Limit = IsTooLong call ⊎ Reaches call Limit
Answered call Absent = IsAbsent call
Answered call ReadFault = Rose call.read_before call.read_after × Refuses call.outputs read_fault_line
Answered call WriteFault = ((call.outputs.out_new ≡ call.outputs.out_old) × OutputFailed call.outputs) ⊎ Reaches call WriteFault
Answered call Memory = (call.outputs.out_new ≡ call.outputs.out_old) ⊎ Reaches call Memory
Answered call Usage = (asked_in call.words ≡ None) × Refuses call.outputs usage_line

-- a line was written and the answer is this status, or the write failed
abbrev pub Says : ℕ → ℕ → Option (List ℕ) → Option (List ℕ) → List ℕ → Status → Status → Type 0
Says before after old new line status answer =
    ((answer ≡ status) × (new ≡ append_known old line)) ⊎ ((answer ≡ WriteFault) × Rose before after)

-- the statuses of a run that came to its ending
abbrev pub IsEnding : Status → Type 0
IsEnding Returned = Unit {0}
IsEnding Stopped = Unit {0}
IsEnding Fault = Unit {0}
IsEnding StepsUsed = Unit {0}
IsEnding status = ⊥

-- the words name this file, which is told and has this text
pub record Given (call : Call) (text : List ℕ) (steps : ℕ) : Type 0 where
  pub files : Contents
  pub name : List ℕ
  pub told : call.files ≡ Some files
  pub asked : asked_in call.words ≡ Some (record { steps = steps; file = name })
  pub content : files name ≡ Some text

-- The run theorem: where the run came to its ending, its output and the line of the ending were
-- written, and nothing else, and the status is that of the ending.
abbrev pub IsMeant : Call → Status → Type 0
IsMeant call status =
    (text : List ℕ) (steps : ℕ) (tree : ProgramTree) → Given call text steps → HasTree text tree → IsEnding status → Ran text (resolved tree) steps call.outputs status

-- no count of faults rose
pub record Faultless (call : Call) : Type 0 where
  pub read : Rose call.read_before call.read_after → ⊥
  pub outputs : OutputFailed call.outputs → ⊥

-- what is done for a verdict: the answer, and what is written
abbrev pub Does : List ℕ → Verdict → ℕ → Outputs → Status → Type 0
Does text (refused r) n o answer = (answer ≡ Refused) × Refuses o (refusal_line r)
Does text too_deep n o answer = (answer ≡ Limit) × Refuses o nesting_line
Does text (past tree l) n o answer = (answer ≡ Limit) × Refuses o (limit_line (resolved tree) l)
Does text (unbuilt at) n o answer = (answer ≡ NotBuilt) × Refuses o (not_built_line at)
Does text (runs tree) n o answer = Ran text (resolved tree) n o answer

-- Where no count of faults rose, a text within the limit gets exactly what its verdict says, unless memory runs out.
abbrev pub IsExact : Call → Status → Type 0
IsExact call status =
    (text : List ℕ) (steps : ℕ) (verdict : Verdict) → Given call text steps → length text ≤ limits.SOURCE → IsVerdict text verdict → Faultless call →
    Does text verdict steps call.outputs status ⊎ (status ≡ Memory)
