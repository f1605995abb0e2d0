-- What each answer of the program says: its cause, and what was written. This project's own.
use Rattle.std.specs.Prelude.{◌≡◌, ◌⊎◌, ◌≢◌, ℕ, ◌+◌, ◌^◌, ◌<◌, ◌≤◌, Bool, List, [], ◌++◌, length, Option, Some, None, IfSome}
use Rattle.std.specs.Io.KnownBytes.{append_known}
use Rattle.gc0_io.specs.Causes.{Rose}
use Rattle.gc0_io.specs.Bytes.{TakesFront}
use Rattle.gc0_io.specs.Fetching.{Contents}
use Rattle.sat_check.specs.declared.log.Entry.{Entry}
use Rattle.sat_check.specs.Clauses.{IsUnsatisfiable}
use Rattle.search_base.specs.Searches.{IsSolution, IsSpent, IsRefutedByPropagation}
use Rattle.sat_text.specs.declared.formula.Formula.{Formula}
use Rattle.sat_text.specs.Texts.{rows_of}
use Rattle.sat_text.specs.Formulas.{Denotes, FirstFault}
use Rattle.sat_text.specs.LogTexts.{log_lines, IsProof}
use Rattle.sat_top.specs.declared.limits.TheConstants.Limits as limits
use Rattle.sat_top.specs.declared.status.Status.{Status}
use Rattle.sat_top.specs.declared.status.Status.TheVariants.{Satisfiable, Unsatisfiable, Unknown, BadLine, Limit, Absent, ReadFault, WriteFault, Memory, Usage}
use Rattle.sat_top.specs.Requests.{Asked, asked_in}
use Rattle.sat_top.specs.Told.{Told, kept_as}
use Rattle.sat_top.specs.Lines.{usage_line, limit_line, read_fault_line, absent_line, bad_line, satisfiable_text, unsatisfiable_line, unknown_line}

-- the outputs before and after a call: their counts of faults, and what they took, where it is told
pub record Outputs : Type 0 where
  pub out_before : ℕ
  pub out_after : ℕ
  pub err_before : ℕ
  pub err_after : ℕ
  pub proof_before : ℕ
  pub proof_after : ℕ
  pub out_old : Option (List ℕ)
  pub out_new : Option (List ℕ)
  pub err_old : Option (List ℕ)
  pub err_new : Option (List ℕ)
  -- the file for the proof
  pub file_old : Told
  pub file_new : Told

-- all that a call was given and what it left
pub record Call : Type 0 where
  pub words : List (List ℕ)
  -- the files by name, where they are told
  pub files : Option Contents
  -- the count of faults of the files
  pub read_before : ℕ
  pub read_after : ℕ
  pub outputs : Outputs

-- no answer was written, and no file was made
pub record Untouched (o : Outputs) : Type 0 where
  pub out : o.out_new ≡ o.out_old
  pub file : o.file_new ≡ o.file_old

-- nothing but this line was written
pub record Refuses (o : Outputs) (line : List ℕ) : Type 0 where
  pub untouched : Untouched o
  pub err : o.err_new ≡ append_known o.err_old line

-- the count of an output rose
abbrev pub OutputFailed : Outputs → Type 0
OutputFailed o = Rose o.out_before o.out_after ⊎ Rose o.err_before o.err_after ⊎ Rose o.proof_before o.proof_after

-- ---- what may stand on `out` for a formula
-- values that satisfy it
pub record SaysSatisfiable (f : Formula) (text : List ℕ) : Type 0 where
  pub values : List Bool
  pub solution : IsSolution f.variables f.clauses values
  pub is : text ≡ satisfiable_text values

-- no values satisfy it
pub record SaysUnsatisfiable (f : Formula) (text : List ℕ) : Type 0 where
  pub unsatisfiable : IsUnsatisfiable f.clauses
  pub is : text ≡ unsatisfiable_line

-- As many clauses were learnt as were asked for, which are too few to try everything; and where one was
-- asked for, propagation alone doesn't refute the formula.
pub record SaysUnknown (f : Formula) (conflicts : ℕ) (text : List ℕ) : Type 0 where
  pub entries : List Entry
  pub spent : IsSpent f.variables f.clauses conflicts entries
  pub few : conflicts < 3 ^ f.variables
  pub not_propagated : 0 < conflicts → ¬ IsRefutedByPropagation f.clauses
  pub is : text ≡ unknown_line

abbrev pub IsAnswer : Formula → ℕ → List ℕ → Type 0
IsAnswer f conflicts text = SaysSatisfiable f text ⊎ SaysUnsatisfiable f text ⊎ SaysUnknown f conflicts text

-- ---- what may stand in the file for the proof
abbrev pub proof_text : Formula → List Entry → List ℕ
proof_text f entries = log_lines (length f.clauses + 1) entries

-- the whole text of a proof that the formula has no assignment
pub record HasProof (f : Formula) (name : Option (List ℕ)) (old new : Told) : Type 0 where
  pub entries : List Entry
  pub proof : IsProof f.clauses entries
  pub file : new ≡ kept_as old name (proof_text f entries)

-- a front of such a text
pub record HasFront (f : Formula) (name : Option (List ℕ)) (old new : Told) : Type 0 where
  pub entries : List Entry
  pub front : List ℕ
  pub more : List ℕ
  pub proof : IsProof f.clauses entries
  pub split : proof_text f entries ≡ front ++ more
  pub file : new ≡ kept_as old name front

abbrev pub MayHaveFront : Formula → Option (List ℕ) → Told → Told → Type 0
MayHaveFront f name old new = (new ≡ old) ⊎ HasFront f name old new

-- ---- how a search for a formula ends
pub record IsSatisfied (f : Formula) (o : Outputs) : Type 0 where
  pub answer : List ℕ
  pub says : SaysSatisfiable f answer
  pub out : o.out_new ≡ append_known o.out_old answer
  pub err : o.err_new ≡ o.err_old
  pub file : o.file_new ≡ o.file_old

pub record IsRefuted (f : Formula) (name : Option (List ℕ)) (o : Outputs) : Type 0 where
  pub unsatisfiable : IsUnsatisfiable f.clauses
  pub out : o.out_new ≡ append_known o.out_old unsatisfiable_line
  pub err : o.err_new ≡ o.err_old
  pub file : HasProof f name o.file_old o.file_new

pub record IsUnknown (f : Formula) (conflicts : ℕ) (o : Outputs) : Type 0 where
  pub answer : List ℕ
  pub says : SaysUnknown f conflicts answer
  pub out : o.out_new ≡ append_known o.out_old answer
  pub err : o.err_new ≡ o.err_old
  pub file : o.file_new ≡ o.file_old

-- what was written is a front of an answer
pub record IsCut (f : Formula) (asks : Asked) (o : Outputs) : Type 0 where
  pub answer : List ℕ
  pub is : IsAnswer f asks.conflicts answer
  pub out : TakesFront o.out_old o.out_new answer
  pub file : MayHaveFront f asks.proof o.file_old o.file_new

-- no answer was written
pub record IsUnanswered (f : Formula) (asks : Asked) (o : Outputs) : Type 0 where
  pub out : o.out_new ≡ o.out_old
  pub file : MayHaveFront f asks.proof o.file_old o.file_new

-- what the end of a search says of what was written and of the faults
abbrev pub Ends : Formula → Asked → Outputs → Status → Type 0
Ends f asks o Satisfiable = IsSatisfied f o
Ends f asks o Unsatisfiable = IsRefuted f asks.proof o
Ends f asks o Unknown = IsUnknown f asks.conflicts o
Ends f asks o WriteFault = OutputFailed o × (IsUnanswered f asks o ⊎ IsCut f asks o)
Ends f asks o Memory = IsUnanswered f asks o
Ends f asks o status = ⊥

-- the words name a file that has this text, where files are told, and it isn't too long
pub record Asks (call : Call) (text : List ℕ) (asks : Asked) : Type 0 where
  pub asked : asked_in call.words ≡ Some asks
  pub told : IfSome call.files (λ files. files asks.formula ≡ Some text)
  pub few : length text ≤ limits.BYTES

-- the formula of the file was reached: the end of its search is this
pub record Reaches (call : Call) (status : Status) : Type 0 where
  pub text : List ℕ
  pub asked : Asked
  pub formula : Formula
  pub asks : Asks call text asked
  pub denotes : Denotes (rows_of text) formula
  pub ends : Ends formula asked call.outputs status

-- the file is not there
pub record IsAbsent (call : Call) : Type 0 where
  pub asks : Asked
  pub asked : asked_in call.words ≡ Some asks
  pub told : IfSome call.files (λ files. files asks.formula ≡ None)
  pub says : Refuses call.outputs (absent_line asks.formula)

-- the file has more than 64 MiB
pub record IsTooLong (call : Call) : Type 0 where
  pub asks : Asked
  pub asked : asked_in call.words ≡ Some asks
  pub told : IfSome call.files (λ files. (text : List ℕ) × (files asks.formula ≡ Some text) × (limits.BYTES < length text))
  pub says : Refuses call.outputs limit_line

-- this line of the file is the first that is none of the format
pub record IsBad (call : Call) : Type 0 where
  pub text : List ℕ
  pub asked : Asked
  pub line : ℕ
  pub asks : Asks call text asked
  pub fault : FirstFault (rows_of text) line
  pub says : Refuses call.outputs (bad_line line)

-- What an answer says.
abbrev pub Answered : Call → Status → Type 0
Answered call Satisfiable = Reaches call Satisfiable
Answered call Unsatisfiable = Reaches call Unsatisfiable
Answered call Unknown = Reaches call Unknown
Answered call BadLine = IsBad call
Answered call Limit = IsTooLong call
Answered call Absent = IsAbsent call
Answered call ReadFault = Rose call.read_before call.read_after × Refuses call.outputs read_fault_line
Answered call WriteFault = (Untouched call.outputs × OutputFailed call.outputs) ⊎ Reaches call WriteFault
Answered call Memory = Untouched call.outputs ⊎ Reaches call Memory
Answered call Usage = (asked_in call.words ≡ None) × Refuses call.outputs usage_line

-- the words name this file, which is told and has this text, and the text says this formula
pub record Given (call : Call) (text : List ℕ) (asks : Asked) (f : Formula) : Type 0 where
  pub files : Contents
  pub told : call.files ≡ Some files
  pub asked : asked_in call.words ≡ Some asks
  pub content : files asks.formula ≡ Some text
  pub denotes : Denotes (rows_of text) f

-- the statuses of a search that came to its end
abbrev pub IsEnding : Status → Type 0
IsEnding Satisfiable = Unit {0}
IsEnding Unsatisfiable = Unit {0}
IsEnding Unknown = Unit {0}
IsEnding status = ⊥

-- Each answer is right for the formula of the file.
abbrev pub IsRight : Call → Status → Type 0
IsRight call status = (text : List ℕ) (asks : Asked) (f : Formula) → Given call text asks f → IsEnding status → Ends f asks call.outputs status

-- no count of faults rose
pub record Faultless (call : Call) : Type 0 where
  pub read : Rose call.read_before call.read_after → ⊥
  pub outputs : OutputFailed call.outputs → ⊥

-- A file of at most 64 MiB that says a formula is answered, unless memory runs out.
abbrev pub IsComplete : Call → Status → Type 0
IsComplete call status =
    (text : List ℕ) (asks : Asked) (f : Formula) → Given call text asks f → length text ≤ limits.BYTES → Faultless call → IsEnding status ⊎ (status ≡ Memory)

-- a line was written and the answer is this status, or the write failed
abbrev pub Says : ℕ → ℕ → Option (List ℕ) → Option (List ℕ) → List ℕ → Status → Status → Type 0
Says before after old new line status answer =
    ((answer ≡ status) × (new ≡ append_known old line)) ⊎ ((answer ≡ WriteFault) × Rose before after)

-- an answer was written and the answer is this status, or a write failed, and a front of it was taken
abbrev pub Answers : ℕ → ℕ → (old new err_old err_new : Option (List ℕ)) → List ℕ → Status → Status → Type 0
Answers before after old new err_old err_new text status answer =
    ((answer ≡ status) × (new ≡ append_known old text) × (err_new ≡ err_old)) ⊎ ((answer ≡ WriteFault) × TakesFront old new text × Rose before after)

-- the file for a proof has the whole text, or at a fault a front of it, or nothing was made
abbrev pub IsFrontOf : Told → Told → Option (List ℕ) → List ℕ → Type 0
IsFrontOf old new name text = (new ≡ old) ⊎ ((front : List ℕ) × (more : List ℕ) × (text ≡ front ++ more) × (new ≡ kept_as old name front))
