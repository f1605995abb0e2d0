-- Laws of runs of a core: what code does to the heap and to what is owned, and what a run only adds.
use Rattle.std.specs.Prelude.{◌≡◌, ℕ, ◌<◌, ◌≤◌, Bool, false, ◌&&◌, ◌||◌, ltb, List, ◌++◌, length, Some, IsTrue, is_some, slice_get}
use Rattle.core_tree.specs.declared.Phase.TheVariants.{Produce}
use Rattle.core_tree.specs.CoreTree.{Code, CoreFunction, Core}
use Rattle.c0_meaning.specs.Heaps.{Object, Heap, Cell, Cells, owns, cell_value}
use Rattle.footprint_laws.specs.FootprintLaws.{Within, InHeap}
use Rattle.core_meaning.specs.CoreRuns.{Visit, CoreState, Next, Run, ◌>>=◌, ◌>>◌, state_of}
use Rattle.core_meaning.specs.CoreRunning.{mark_over, Flow, Calls, core_exec_all, returned, start_at, calls_at}

-- ---- frames
-- whether a cell is one of an object that was made since there were so many
abbrev pub made : Heap → (before : ℕ) → Cell → Bool
made heap before c = ltb before c.object && is_some (cell_value heap c)

-- each object is still there, of its struct and with as many fields
abbrev pub ObjectsStay : Heap → Heap → Type 0
ObjectsStay before after =
    (k : ℕ) (o : Object) → slice_get before k ≡ Some o →
    (p : Object) × (slice_get after k ≡ Some p) × (p.of_struct ≡ o.of_struct) × (length p.fields ≡ length o.fields)

-- What some code does from one state to another: what is owned at the end is what was owned and what was made since, and a
-- cell that was there and isn't owned at the end has its word. The number 0 is no object, but the heap reads it as the first
-- one: so the clause on words asks for an object.
pub record Moved (s t : CoreState) : Type 0 where
  pub longer : length s.heap ≤ length t.heap
  pub owned : (c : Cell) → owns t.owned c ≡ (owns s.owned c || made t.heap (length s.heap) c)
  pub unchanged : (c : Cell) → 0 < c.object → owns t.owned c ≡ false → IsTrue (is_some (cell_value s.heap c)) →
      cell_value t.heap c ≡ cell_value s.heap c
  pub objects : ObjectsStay s.heap t.heap

-- the law of frames for code, in a call of any depth
abbrev pub code_frame_law : Type 0
code_frame_law =
    (c : Core) (f : CoreFunction) (k : ℕ) (code : Code) (s t : CoreState) (flow : Flow) →
    core_exec_all c f (calls_at k c) code s ≡ Next flow t → Moved s t

-- the same for a call that starts with a part of what the caller owns
abbrev pub call_frame_law : Type 0
call_frame_law =
    (c : Core) (k g : ℕ) (args : List ℕ) (start : Cells) (s t : CoreState) (v : ℕ) →
    Within start s.owned → calls_at k c g args start s ≡ Next v t → Moved s t

-- what a call does between its start and its end, before its set is joined to that of its caller
abbrev pub inner : Core → Calls → ℕ → CoreFunction → List ℕ → Run ℕ
inner c go g f args = mark_over c (start_at g) Produce f.before args >> (core_exec_all c f go f.body >>= returned c f)

-- the same for a call before the sets are joined
abbrev pub inner_frame_law : Type 0
inner_frame_law =
    (c : Core) (k g : ℕ) (f : CoreFunction) (args : List ℕ) (s t : CoreState) (v : ℕ) →
    inner c (calls_at k c) g f args s ≡ Next v t → Moved s t

-- Owned cells stay in the heap.
abbrev pub code_in_heap_law : Type 0
code_in_heap_law =
    (c : Core) (f : CoreFunction) (k : ℕ) (code : Code) (s t : CoreState) (flow : Flow) →
    InHeap s.owned s.heap → core_exec_all c f (calls_at k c) code s ≡ Next flow t → InHeap t.owned t.heap

abbrev pub call_in_heap_law : Type 0
call_in_heap_law =
    (c : Core) (k g : ℕ) (args : List ℕ) (start : Cells) (s t : CoreState) (v : ℕ) →
    Within start s.owned → InHeap s.owned s.heap → calls_at k c g args start s ≡ Next v t → InHeap t.owned t.heap

-- ---- visits
-- the second list is the first with others behind it
abbrev pub StartsWith : List Visit → List Visit → Type 0
StartsWith first all = (others : List Visit) × (all ≡ first ++ others)

-- A run only adds visits, however it ends.
abbrev pub code_keeping_law : Type 0
code_keeping_law =
    (c : Core) (f : CoreFunction) (k : ℕ) (code : Code) (s : CoreState) →
    StartsWith s.visits (state_of (core_exec_all c f (calls_at k c) code s)).visits

abbrev pub call_keeping_law : Type 0
call_keeping_law =
    (c : Core) (k g : ℕ) (args : List ℕ) (start : Cells) (s : CoreState) →
    StartsWith s.visits (state_of (calls_at k c g args start s)).visits

-- ---- words and outcomes
-- Code has as many words and outcomes behind it as before it.
abbrev pub code_size_law : Type 0
code_size_law =
    (c : Core) (f : CoreFunction) (k : ℕ) (code : Code) (s t : CoreState) (flow : Flow) →
    core_exec_all c f (calls_at k c) code s ≡ Next flow t → (length t.words ≡ length s.words) × (length t.outcomes ≡ length s.outcomes)

-- A call leaves the words and the outcomes of its caller.
abbrev pub call_words_law : Type 0
call_words_law =
    (c : Core) (k g : ℕ) (args : List ℕ) (start : Cells) (s t : CoreState) (v : ℕ) →
    calls_at k c g args start s ≡ Next v t → (t.words ≡ s.words) × (t.outcomes ≡ s.outcomes)
