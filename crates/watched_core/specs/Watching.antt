-- What a core does with the checks of a placement in place of its contracts: levels where a function is tracked, marks of the
-- decisions that some guard tests, and each kept part behind its guards. The code of the stack machine does the same, one
-- instruction after another.
use Rattle.std.specs.Prelude.{ℕ, zero, suc, Bool, true, false, not, ◌&&◌, eqb, List, [], ◌∷◌, ◌++◌, length, map, take, replicate, Option, Some, None, if◌then◌else◌, slice_get, slice_index, slice_set}
use Rattle.gc0_base.specs.declared.site.Site.{Site}
use Rattle.gc0_base.specs.declared.site.Decision.{Decision}
use Rattle.gc0_base.specs.declared.site.TrapKind.{TrapKind}
use Rattle.gc0_base.specs.declared.site.TrapKind.TheVariants as trap
use Rattle.gc0_base.specs.declared.site.Ending.TheVariants.{Returned, Stop, Fault, StepsUsed}
use Rattle.gc0_tree.specs.declared.LibraryCall.{LibraryCall}
use Rattle.gc0_tree.specs.declared.LibraryCall.TheVariants as library
use Rattle.gc0_tree.specs.Tree.{Conjuncts, Formula, NoteKind, assert_note, fold_note, unfold_note}
use Rattle.core_tree.specs.declared.Simple.{Simple}
use Rattle.core_tree.specs.declared.Simple.TheVariants as simple
use Rattle.core_tree.specs.declared.Phase.{Phase}
use Rattle.core_tree.specs.declared.Phase.TheVariants.{Produce, Consume}
use Rattle.core_tree.specs.CoreTree.{CoreStmt, do_step, do_set, do_unary, do_binary, do_load, do_store, do_new, do_call, do_library, do_if, do_loop, do_return, do_assert, do_raise, do_note, Code, no_code, code_and, CoreFunction, Core}
use Rattle.core_tree.specs.CoreSites.{choice_decision}
use Rattle.c0_meaning.specs.Operators.{truth_word, unary_word, binary_word, pick, fault_of, number_text, truth_text}
use Rattle.c0_meaning.specs.Heaps.{Cells, Heap, cells_of, cell_value, set_cell}
use Rattle.c0_meaning.specs.Holds.{holds}
use Rattle.c0_meaning.specs.Running.{or_0, fields_of, has_more}
use Rattle.core_meaning.specs.CoreRuns.{Outcomes}
use Rattle.core_meaning.specs.Choices.{ChoiceOf, choices, outcome, instance_body, instance_words}
use Rattle.core_meaning.specs.CoreRunning.{Flow, On, Back, op_of, text_of, before_of, after_of, results_of, first_words, start_at}
use Rattle.core_checks.specs.Subjects.{Subject, of_formula, of_access, subject_says}
use Rattle.core_checks.specs.Entries.{among_last}
use Rattle.core_checks.specs.Placements.{Guarded, Placement, kept_at, is_tracked, is_tested}
use Rattle.watched_core.specs.WatchRuns.{View, WatchState, Out, Next, Ends, Run, ◌>>=◌, ◌>>◌, give, end, get, change, step, turn, write, top_of, closed, added, cells_since, closed_by}

-- ---- marks
-- whether a function marks a decision
abbrev pub is_marked : Placement → (function : ℕ) → Decision → Bool
is_marked p g d = is_tracked p g && is_tested p d

-- the choices of a formula at one point, from a number on: those that are marked get their outcome
abbrev pub with_marks : Core → Placement → (function : ℕ) → Site → Phase → ℕ → Heap → Cells → Option (List ℕ) → List ChoiceOf → Outcomes → Outcomes
with_marks c p g site phase k heap owned words [] marks = marks
with_marks c p g site phase k heap owned words (x ∷ xs) marks =
    with_marks c p g site phase (suc k) heap owned words xs
    (if is_marked p g (choice_decision c site phase k) then slice_set marks (choice_decision c site phase k).number (Some (outcome heap owned words x)) else marks)

unfoldable pub mark : Core → Placement → (function : ℕ) → Site → Phase → Conjuncts → (WatchState → Option (List ℕ)) → Run (Unit {0})
mark c p g site phase parts words =
    change (λ s. record s { marks = with_marks c p g site phase 0 s.heap (top_of s.levels) (words s) (choices parts) s.marks })

abbrev pub mark_over : Core → Placement → (function : ℕ) → Site → Phase → Formula → List ℕ → Run (Unit {0})
mark_over c p g site phase formula words = mark c p g site phase formula.parts (λ s. Some words)

abbrev pub mark_body : Core → Placement → (function : ℕ) → Site → Phase → Formula → List ℕ → Run (Unit {0})
mark_body c p g site phase formula words =
    mark c p g site phase (instance_body c.predicates formula.parts) (λ s. instance_words s.heap (top_of s.levels) words formula.parts)

-- ---- checks
-- a part behind its guards
abbrev pub check_one : Core → Site → Subject → List ℕ → Guarded → Run (Unit {0})
check_one c site x words g s =
    if among_last s.marks g.decisions && not (subject_says c x g.part words s.heap (top_of s.levels))
    then Ends (Stop site) (Some record { site = site; words = words; heap = s.heap; owned = top_of s.levels }) s
    else Next tt s

abbrev pub check_each : Core → Site → Subject → List ℕ → List Guarded → Run (Unit {0})
check_each c site x words [] = give tt
check_each c site x words (g ∷ gs) = check_one c site x words g >> check_each c site x words gs

unfoldable pub check : Core → Placement → Site → Subject → List ℕ → Run (Unit {0})
check c p site x words = check_each c site x words (kept_at p site)

-- a formula is consumed: its choices are marked, and its parts are checked
abbrev pub consume : Core → Placement → (function : ℕ) → Site → Formula → List ℕ → Run (Unit {0})
consume c p g site formula words = mark_over c p g site Consume formula words >> check c p site (of_formula false formula) words

-- ---- levels
abbrev pub found_or_none : Option Cells → Cells
found_or_none None = []
found_or_none (Some foot) = foot

-- what a level starts with: the footprint of a precise formula, and all for an imprecise one
abbrev pub opening : Core → Formula → List ℕ → Heap → Cells → Cells
opening c formula words heap all = if formula.imprecise then all else found_or_none (holds c.predicates formula words heap all)

abbrev pub opened : Core → Formula → List ℕ → WatchState → WatchState
opened c formula words s = record s { levels = opening c formula words s.heap (top_of s.levels) ∷ s.levels }

abbrev pub left : WatchState → WatchState
left s = record s { levels = closed s.levels }

-- where a function is tracked
abbrev pub when : Bool → (WatchState → WatchState) → Run (Unit {0})
when b f = if b then change f else give tt

-- ---- words
abbrev pub word_of : Simple → WatchState → ℕ
word_of (simple.Const w) s = w.0
word_of (simple.Local i) s = slice_index s.words i

abbrev pub word_in : Option Simple → WatchState → ℕ
word_in None s = 0
word_in (Some a) s = word_of a s

abbrev pub locals_of : CoreFunction → WatchState → List ℕ
locals_of f s = take (length f.locals) s.words

abbrev pub put : ℕ → ℕ → Run Flow
put to x = change (λ s. record s { words = slice_set s.words to x }) >> give On

abbrev pub put_if : Option ℕ → ℕ → Run Flow
put_if None x = give On
put_if (Some to) x = put to x

-- ---- cells
-- an access: first the test for `NULL`, then the check of ownership where it is kept
abbrev pub access : Core → Placement → Site → (base field : ℕ) → Run (Unit {0})
access c p site zero field = end (Fault trap.Null site)
access c p site (suc n) field = check c p site of_access (suc n ∷ field ∷ [])

abbrev pub allocate : (of_struct fields : ℕ) → Run ℕ
allocate k fields s = Next (suc (length s.heap)) record s { heap = s.heap ++ record { of_struct = k; fields = replicate fields 0 } ∷ [] }

-- ---- operators and library calls
abbrev pub fault_at : TrapKind → Option Site → Run ℕ
fault_at fault None = end StepsUsed
fault_at fault (Some site) = end (Fault fault site)

abbrev pub or_fault : TrapKind → Option Site → Option ℕ → Run ℕ
or_fault fault site None = fault_at fault site
or_fault fault site (Some x) = give x

abbrev pub next_of : Option Site → List ℕ → Run ℕ
next_of site [] = fault_at trap.InputEnd site
next_of site (x ∷ xs) = change (λ s. record s { input = xs }) >> give x

abbrev pub library_does : Core → Option Site → LibraryCall → ℕ → Option ℕ → Run ℕ
library_does c site library.PrintInt x t = write (number_text x) >> give 0
library_does c site library.PrintBool x t = write (truth_text x) >> give 0
library_does c site library.Print x t = write (text_of c t) >> give 0
library_does c site library.PrintLine x t = write (text_of c t ++ 10 ∷ []) >> give 0
library_does c site library.ReadInt x t = get (λ s. s.input) >>= next_of site
library_does c site library.MoreInt x t = get (λ s. truth_word (has_more s.input))

-- ---- calls
abbrev pub Calls : Type 0
Calls = (function : ℕ) → List ℕ → Run ℕ

-- behind a call: the level of a tracked callee ends, and what a bare callee made is taken over by a tracked caller
abbrev pub behind_call : (caller callee : Bool) → (before : ℕ) → Run (Unit {0})
behind_call caller true before = change left
behind_call true false before = change (λ s. record s { levels = added (cells_since before s.heap) s.levels })
behind_call false false before = give tt

abbrev pub called_at : Core → Placement → Calls → (function : ℕ) → Site → ℕ → Option CoreFunction → List ℕ → Run ℕ
called_at c p go f site g callee xs = do
  turn
  consume c p f site (before_of callee) xs
  when (is_tracked p g) (opened c (before_of callee) xs)
  before ← get (λ s. length s.heap)
  v ← go g xs
  behind_call (is_tracked p f) (is_tracked p g) before
  mark_over c p f site Produce (after_of callee) (xs ++ results_of callee v)
  give v

-- ---- branches and loops
abbrev pub mark_branch : Placement → (function : ℕ) → Decision → ℕ → WatchState → WatchState
mark_branch p g d x s = record s { marks = if is_marked p g d then slice_set s.marks d.number (Some (not (eqb x 0))) else s.marks }

abbrev pub tested : Placement → (function : ℕ) → Decision → Simple → Run ℕ
tested p g d a = do
  x ← get (word_of a)
  change (mark_branch p g d x)
  give x

abbrev pub unless_back : Flow → Run Flow → Run Flow
unless_back On rest = rest
unless_back (Back at v) rest = give (Back at v)

-- A turn of a loop from its head on, behind the check of the invariant, and all further ones, at most so many.
abbrev pub turns : ℕ → Run (Unit {0}) → Run ℕ → Run Flow → Run (Unit {0}) → Run (Unit {0}) → Run Flow
turns zero head test body again close = end StepsUsed
turns (suc n) head test body again close = do
  head
  turn
  x ← test
  pick x (close >> give On) (do
    flow ← body
    unless_back flow (again >> close >> turns n head test body again close))

abbrev pub loop : Core → Placement → (function : ℕ) → CoreFunction → (entry later : Site) → Formula → Run ℕ → Run Flow → Run Flow
loop c p g f entry later inv test body = do
  words ← get (locals_of f)
  consume c p g entry inv words
  n ← get (λ s. s.turns)
  turns (suc n)
      (do
        words ← get (locals_of f)
        when (is_tracked p g) (opened c inv words)
        mark_over c p g entry Produce inv words)
      test body
      (get (locals_of f) >>= consume c p g later inv)
      (when (is_tracked p g) left)

-- ---- annotations
abbrev pub noted : Core → Placement → (function : ℕ) → Site → NoteKind → Formula → List ℕ → Run Flow
noted c p g site assert_note formula words = consume c p g site formula words >> give On
noted c p g site fold_note formula words = mark_body c p g site Consume formula words >> check c p site (of_formula true formula) words >> give On
noted c p g site unfold_note formula words = check c p site (of_formula false formula) words >> mark_body c p g site Produce formula words >> give On

-- ---- statements of a function, inside so many loops; a return ends their levels
abbrev mutual
  pub watch : Core → Placement → (function : ℕ) → CoreFunction → Calls → (loops : ℕ) → CoreStmt → Run Flow
  watch c p g f go n do_step = step >> give On
  watch c p g f go n (do_set to a) = get (word_of a) >>= put to
  watch c p g f go n (do_unary to o a) = do
    x ← get (word_of a)
    put to (unary_word o x)
  watch c p g f go n (do_binary to o a b site) = do
    x ← get (word_of a)
    y ← get (word_of b)
    z ← or_fault (fault_of (op_of o)) site (binary_word (op_of o) x y)
    put to z
  watch c p g f go n (do_load to base k field site) = do
    b ← get (word_of base)
    access c p site b field
    x ← get (λ s. or_0 (cell_value s.heap record { object = b; field = field }))
    put to x
  watch c p g f go n (do_store base k field value site) = do
    b ← get (word_of base)
    x ← get (word_of value)
    access c p site b field
    change (λ s. record s { heap = set_cell s.heap record { object = b; field = field } x })
    give On
  watch c p g f go n (do_new to k) = do
    object ← allocate k (fields_of (slice_get c.structs k))
    when (is_tracked p g) (λ s. record s { levels = added (cells_of object (fields_of (slice_get c.structs k))) s.levels })
    put to object
  watch c p g f go n (do_call to h args site) = do
    xs ← get (λ s. map (slice_index s.words) args)
    v ← called_at c p go g site h (slice_get c.functions h) xs
    put_if to v
  watch c p g f go n (do_library to l a t site) = do
    x ← get (word_in a)
    v ← library_does c site l x t
    put_if to v
  watch c p g f go n (do_if d a these those) = do
    x ← tested p g d a
    pick x (watch_all c p g f go n those) (watch_all c p g f go n these)
  watch c p g f go n (do_loop entry again inv d test a body) =
      loop c p g f entry again inv (watch_all c p g f go (suc n) test >> tested p g d a) (watch_all c p g f go (suc n) body)
  watch c p g f go n (do_return a site) = do
    x ← get (word_in a)
    when (is_tracked p g) (λ s. record s { levels = closed_by n s.levels })
    give (Back site x)
  watch c p g f go n (do_assert a site) = do
    x ← get (word_of a)
    pick x (end (Fault trap.Assertion site)) (give On)
  watch c p g f go n (do_raise t site) = end (Fault trap.Raised site)
  watch c p g f go n (do_note k formula site) = get (locals_of f) >>= noted c p g site k formula

  pub watch_all : Core → Placement → (function : ℕ) → CoreFunction → Calls → (loops : ℕ) → Code → Run Flow
  watch_all c p g f go n no_code = give On
  watch_all c p g f go n (code_and s rest) = do
    flow ← watch c p g f go n s
    unless_back flow (watch_all c p g f go n rest)

-- ---- functions
abbrev pub ensured : CoreFunction → ℕ → WatchState → List ℕ
ensured f v s = take f.params s.words ++ results_of (Some f) v

abbrev pub returned : Core → Placement → (function : ℕ) → CoreFunction → Flow → Run ℕ
returned c p g f On = end StepsUsed
returned c p g f (Back site v) = do
  words ← get (ensured f v)
  consume c p g site f.after words
  give v

-- how many outcomes a frame has: none where no decision is marked
abbrev pub marks_of : Placement → (function : ℕ) → CoreFunction → ℕ
marks_of p g f = if is_tracked p g then length f.decisions else 0

abbrev pub called : Core → Placement → Calls → ℕ → Option CoreFunction → List ℕ → Run ℕ
called c p go g None args = end StepsUsed
called c p go g (Some f) args = do
  caller ← get (λ s. s)
  change (λ s. record s { words = first_words f args; marks = replicate (marks_of p g f) None })
  mark_over c p g (start_at g) Produce f.before args
  flow ← watch_all c p g f go 0 f.body
  v ← returned c p g f flow
  change (λ s. record s { words = caller.words; marks = caller.marks })
  give v

-- calls at most so many deep
abbrev pub calls_at : ℕ → Core → Placement → Calls
calls_at zero c p g args = end StepsUsed
calls_at (suc k) c p g args = called c p (calls_at k c p) g (slice_get c.functions g) args

abbrev pub main_marks : Placement → ℕ → Option CoreFunction → ℕ
main_marks p g None = 0
main_marks p g (Some f) = marks_of p g f

-- a whole run: nothing is owned at the start, and the one level is that of `main`
abbrev pub run : Core → Placement → ℕ → Run ℕ
run c p n = do
  consume c p c.main (start_at c.main) (before_of (slice_get c.functions c.main)) []
  calls_at (suc n) c p c.main []

abbrev pub started : Core → Placement → List ℕ → ℕ → WatchState
started c p input n = record { words = []; heap = []; levels = [] ∷ []; input = input; output = []; steps = n; turns = n; marks = replicate (main_marks p c.main (slice_get c.functions c.main)) None }

-- what is seen of a run: its output, its ending, and the view where it stops
pub record Shown : Type 0 where
  pub output : List ℕ
  pub ending : Rattle.gc0_base.specs.declared.site.Ending.Ending
  pub view : Option View

abbrev pub shown : Out ℕ → Shown
shown (Next x s) = record { output = s.output; ending = Returned record { 0 = x }; view = None }
shown (Ends e v s) = record { output = s.output; ending = e; view = v }

abbrev pub watched : Core → Placement → (input : List ℕ) → (steps : ℕ) → Shown
watched c p input n = shown (run c p n (started c p input n))
