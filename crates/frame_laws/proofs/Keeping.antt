-- A run only adds visits, however it ends.
use Rattle.std.proofs.Common.{ℕ}
use Rattle.footprint_laws.specs.FootprintLaws.{footprint_law}
use Rattle.core_tree.specs.CoreTree.{CoreStmt, Code, CoreFunction, Core}
use Rattle.core_meaning.specs.CoreRuns.{CoreState, Out, Next, Ends, Run, state_of}
use Rattle.core_meaning.specs.CoreRunning.{Calls, core_exec, core_exec_all, calls_at}
use Rattle.frame_laws.specs.FrameLaws.{StartsWith, code_keeping_law, call_keeping_law}
use Rattle.frame_laws.proofs.Marking.{starts_same, starts_on}
use Rattle.frame_laws.proofs.Obeying.{Anything, Lawful, After, Obeys, CallsObey}
use Rattle.frame_laws.proofs.Executing.{statement_obeys, code_obeys, calls_obey}

-- the second state has the visits of the first and others behind them
abbrev pub Kept : CoreState → CoreState → Type 0
Kept s t = StartsWith s.visits t.visits

pub keeping : footprint_law → Lawful Anything Kept Kept
keeping footprints = record {
  footprints = footprints;
  starts = λ few all h. tt;
  stays = λ s. starts_same s.visits;
  stops = λ s. starts_same s.visits;
  goes_on = λ s t u. starts_on s.visits t.visits u.visits;
  goes_to_stop = λ s t u. starts_on s.visits t.visits u.visits;
  steps = λ s n e. starts_same s.visits;
  turns = λ s n e. starts_same s.visits;
  reads = λ s x xs e. starts_same s.visits;
  writes = λ s bytes. starts_same s.visits;
  puts = λ s to x. starts_same s.visits;
  marks = λ s outcomes visits many starts. starts;
  stores = λ s d x n own. starts_same s.visits;
  makes = λ s k fields. starts_same s.visits;
  level = λ outer start s t within h. h;
  level_stops = λ outer start s t within h. h;
  call = λ start words outcomes s t within h. h;
  call_stops = λ start words outcomes s t within h. h;
}

-- A part of a run only adds visits. The lemmas on parts are those of any law: `bind keeping`, `turns_obey keeping` and so on.
abbrev pub KeptTo : {A : Type 0} → CoreState → Out A → Type 0
KeptTo s o = After Kept Kept s o

abbrev pub Keeps : {A : Type 0} → Run A → Type 0
Keeps m = Obeys Kept Kept m

abbrev pub CallsKeep : Calls → Type 0
CallsKeep go = CallsObey Anything Kept Kept go

pub kept_state : {A : Type 0} (s : CoreState) (o : Out A) → KeptTo s o → StartsWith s.visits (state_of o).visits
kept_state s (Next x t) h = h
kept_state s (Ends e t) h = h

pub code_keeps : footprint_law → (c : Core) (f : CoreFunction) (k : ℕ) (code : Code) → Keeps (core_exec_all c f (calls_at k c) code)
code_keeps footprints c f k code = code_obeys (keeping footprints) (calls_at k c) (calls_obey (keeping footprints) k c) c f code

pub statement_keeps : footprint_law → (c : Core) (f : CoreFunction) (k : ℕ) (stmt : CoreStmt) → Keeps (core_exec c f (calls_at k c) stmt)
statement_keeps footprints c f k stmt = statement_obeys (keeping footprints) (calls_at k c) (calls_obey (keeping footprints) k c) c f stmt

pub calls_keep : footprint_law → (k : ℕ) (c : Core) → CallsKeep (calls_at k c)
calls_keep footprints k c = calls_obey (keeping footprints) k c

pub code_keeping : footprint_law → code_keeping_law
code_keeping footprints c f k code s = kept_state s (core_exec_all c f (calls_at k c) code s) (code_keeps footprints c f k code s)

pub call_keeping : footprint_law → call_keeping_law
call_keeping footprints c k g args start s = kept_state s (calls_at k c g args start s) (calls_keep footprints k c g args start s tt)
