-- What a core does: one recursive function on its statements, and the meaning of a whole run.
-- Source: C0 Reference, with the owned sets of Gradual C0; the core and its decisions are this project's own.
use Rattle.std.specs.Prelude.{ℕ, zero, suc, ◌+◌, ◌-◌, Bool, true, false, not, eqb, List, [], ◌∷◌, ◌++◌, length, map, take, replicate, Option, Some, None, is_some, if◌then◌else◌, slice_get, slice_index, slice_set}
use Rattle.gc0_base.specs.declared.site.Site.{Site}
use Rattle.gc0_base.specs.declared.site.Kind.TheVariants as kind
use Rattle.gc0_base.specs.declared.site.Decision.{Decision}
use Rattle.gc0_base.specs.declared.site.TrapKind.{TrapKind}
use Rattle.gc0_base.specs.declared.site.TrapKind.TheVariants as trap
use Rattle.gc0_base.specs.declared.site.Ending.TheVariants.{Returned, Stop, Fault, StepsUsed}
use Rattle.gc0_tree.specs.declared.ExprOp.{ExprOp}
use Rattle.gc0_tree.specs.declared.ExprOp.TheVariants as op
use Rattle.gc0_tree.specs.declared.LibraryCall.{LibraryCall}
use Rattle.gc0_tree.specs.declared.LibraryCall.TheVariants as library
use Rattle.gc0_tree.specs.Tree.{Conjuncts, Formula, NoteKind, assert_note, fold_note, unfold_note}
use Rattle.core_tree.specs.declared.BinaryOp.{BinaryOp}
use Rattle.core_tree.specs.declared.BinaryOp.TheVariants as binary
use Rattle.core_tree.specs.declared.Simple.{Simple}
use Rattle.core_tree.specs.declared.Simple.TheVariants as simple
use Rattle.core_tree.specs.declared.Phase.{Phase}
use Rattle.core_tree.specs.declared.Phase.TheVariants.{Produce, Consume}
use Rattle.core_tree.specs.CoreTree.{CoreStmt, do_step, do_set, do_unary, do_binary, do_load, do_store, do_new, do_call, do_library, do_if, do_loop, do_return, do_assert, do_raise, do_note, Code, no_code, code_and, CoreFunction, Core}
use Rattle.core_tree.specs.CoreSites.{first_number}
use Rattle.c0_meaning.specs.Operators.{truth_word, unary_word, binary_word, pick, fault_of, number_text, truth_text}
use Rattle.c0_meaning.specs.Heaps.{Cell, Cells, owns, cells_of, cell_value, set_cell}
use Rattle.c0_meaning.specs.Holds.{holds}
use Rattle.c0_meaning.specs.Running.{start_of, or_0, fields_of, has_more, text_at, no_formula, Seen}
use Rattle.core_meaning.specs.CoreRuns.{Outcomes, Visit, CoreState, Out, Next, Run, ◌>>=◌, ◌>>◌, give, end, get, change, step, turn, visit, write, ending, state_of}
use Rattle.core_meaning.specs.Choices.{outcomes_of, with_outcomes, instance_body, instance_words}

-- ---- formulas
-- Marks the choices of a formula that is produced or consumed: each decision gets its outcome.
unfoldable pub mark : Core → Site → Phase → Conjuncts → (CoreState → Option (List ℕ)) → Run (Unit {0})
mark c site phase parts words =
    change (λ s. record s { outcomes = with_outcomes (first_number c site phase) (outcomes_of s.heap s.owned (words s) parts) s.outcomes })

-- the same of a formula over known words
abbrev pub mark_over : Core → Site → Phase → Formula → List ℕ → Run (Unit {0})
mark_over c site phase formula words = mark c site phase formula.parts (λ s. Some words)

-- the same of the body of the one instance of a fold or an unfold, over the arguments
abbrev pub mark_body : Core → Site → Phase → Formula → List ℕ → Run (Unit {0})
mark_body c site phase formula words =
    mark c site phase (instance_body c.predicates formula.parts) (λ s. instance_words s.heap s.owned words formula.parts)

abbrev pub or_stop : Site → Formula → Cells → Option Cells → Run Cells
or_stop site formula all None = end (Stop site)
or_stop site formula all (Some foot) = give (start_of formula foot all)

-- Decides a formula whose choices are marked, and gives what a level owns that starts with it. Outer is what the enclosing
-- level owns besides.
unfoldable pub decide : Core → Site → Formula → (outer : Cells) → List ℕ → Run Cells
decide c site formula outer words = do
  visit site words
  owned ← get (λ s. s.owned)
  found ← get (λ s. holds c.predicates formula words s.heap s.owned)
  or_stop site formula (outer ++ owned) found

-- a formula is consumed: its choices are marked, and it is decided
abbrev pub consume : Core → Site → Formula → (outer : Cells) → List ℕ → Run Cells
consume c site formula outer words = mark_over c site Consume formula words >> decide c site formula outer words

-- ---- words
abbrev pub word_of : Simple → CoreState → ℕ
word_of (simple.Const w) s = w.0
word_of (simple.Local i) s = slice_index s.words i

-- an absent value is 0
abbrev pub word_in : Option Simple → CoreState → ℕ
word_in None s = 0
word_in (Some a) s = word_of a s

-- what the formulas among the statements speak of: the locals, without the temporaries
abbrev pub locals_of : CoreFunction → CoreState → List ℕ
locals_of f s = take (length f.locals) s.words

-- the operator of expressions of the same name
abbrev pub op_of : BinaryOp → ExprOp
op_of binary.Add = op.Add
op_of binary.Sub = op.Sub
op_of binary.Mul = op.Mul
op_of binary.Div = op.Div
op_of binary.Rem = op.Rem
op_of binary.Shl = op.Shl
op_of binary.Shr = op.Shr
op_of binary.And = op.And
op_of binary.Or = op.Or
op_of binary.Xor = op.Xor
op_of binary.Less = op.Less
op_of binary.LessEq = op.LessEq
op_of binary.Equal = op.Equal

-- How a statement ends: the run goes on behind it, or the call returns at a site with a word.
pub data Flow : Type 0 where
  On : Flow
  Back : (at : Site) (word : ℕ) → Flow

abbrev pub put : ℕ → ℕ → Run Flow
put to x = change (λ s. record s { words = slice_set s.words to x }) >> give On

abbrev pub put_if : Option ℕ → ℕ → Run Flow
put_if None x = give On
put_if (Some to) x = put to x

-- ---- cells
abbrev pub owned_or_stop : Site → Bool → Run (Unit {0})
owned_or_stop site true = give tt
owned_or_stop site false = end (Stop site)

-- the cell of an access: first the test for `NULL`, then that of ownership
unfoldable pub access : Site → (base field : ℕ) → Run Cell
access site zero field = end (Fault trap.Null site)
access site (suc n) field = do
  visit site (suc n ∷ field ∷ [])
  owned ← get (λ s. owns s.owned record { object = suc n; field = field })
  owned_or_stop site owned
  give record { object = suc n; field = field }

-- a new object of zeros, whose cells the running level owns
unfoldable pub allocate : (of_struct fields : ℕ) → Run ℕ
allocate k fields s =
    let object : ℕ = suc (length s.heap) in
    Next object record s { heap = s.heap ++ record { of_struct = k; fields = replicate fields 0 } ∷ []; owned = s.owned ++ cells_of object fields }

-- ---- operators and library calls
-- In a stepped core an operator without a site has a value, and a `readint` has a site; so the clauses without a site are
-- never reached.
abbrev pub fault_at : TrapKind → Option Site → Run ℕ
fault_at fault None = end StepsUsed
fault_at fault (Some site) = end (Fault fault site)

abbrev pub or_fault : TrapKind → Option Site → Option ℕ → Run ℕ
or_fault fault site None = fault_at fault site
or_fault fault site (Some x) = give x

-- the next number of the input
abbrev pub next_of : Option Site → List ℕ → Run ℕ
next_of site [] = fault_at trap.InputEnd site
next_of site (x ∷ xs) = change (λ s. record s { input = xs }) >> give x

abbrev pub text_of : Core → Option ℕ → List ℕ
text_of c None = []
text_of c (Some k) = text_at (slice_get c.texts k)

-- what a library call does with its argument or its text
abbrev pub library_does : Core → Option Site → LibraryCall → ℕ → Option ℕ → Run ℕ
library_does c site library.PrintInt x t = write (number_text x) >> give 0
library_does c site library.PrintBool x t = write (truth_text x) >> give 0
library_does c site library.Print x t = write (text_of c t) >> give 0
library_does c site library.PrintLine x t = write (text_of c t ++ 10 ∷ []) >> give 0
library_does c site library.ReadInt x t = get (λ s. s.input) >>= next_of site
library_does c site library.MoreInt x t = get (λ s. truth_word (has_more s.input))

-- ---- contracts
abbrev pub before_of : Option CoreFunction → Formula
before_of None = no_formula
before_of (Some f) = f.before

abbrev pub after_of : Option CoreFunction → Formula
after_of None = no_formula
after_of (Some f) = f.after

abbrev pub results_of : Option CoreFunction → ℕ → List ℕ
results_of None v = []
results_of (Some f) v = if is_some f.result then v ∷ [] else []

-- what a call does with a function, its arguments, and what the callee owns at its start
abbrev pub Calls : Type 0
Calls = (function : ℕ) → List ℕ → Cells → Run ℕ

-- A call. What `requires` chooses is marked before it is decided, and what `ensures` chooses in the joined set, before the
-- result is written.
abbrev pub called_at : Core → Calls → Site → ℕ → Option CoreFunction → List ℕ → Run ℕ
called_at c go site g f xs = do
  turn
  start ← consume c site (before_of f) [] xs
  v ← go g xs start
  mark_over c site Produce (after_of f) (xs ++ results_of f v)
  give v

-- ---- branches and loops
-- what a branch decides: its outcome is kept
abbrev pub tested : Decision → Simple → Run ℕ
tested d a = do
  x ← get (word_of a)
  change (λ s. record s { outcomes = slice_set s.outcomes d.number (Some (not (eqb x 0))) })
  give x

abbrev pub unless_back : Flow → Run Flow → Run Flow
unless_back On rest = rest
unless_back (Back at v) rest = give (Back at v)

-- a level ends: the enclosing one owns its own set and that of the level
abbrev pub joined : Cells → CoreState → CoreState
joined outer s = record s { owned = outer ++ s.owned }

-- behind the body of a loop: a further turn, or the return leaves the level
abbrev pub after_turn : (Cells → Run Flow) → Cells → Flow → Run Flow
after_turn further outer On s = further (outer ++ s.owned) s
after_turn further outer (Back at v) s = Next (Back at v) (joined outer s)

-- A turn of a loop and all further ones, at most so many. Outer is what the enclosing level owns. A head decides the
-- invariant at its site, and then marks what it produces in the set that the level starts with.
abbrev pub turns : ℕ → (Site → Cells → Run Cells) → Run (Unit {0}) → Run ℕ → Run Flow → (later : Site) → Site → Cells → Run Flow
turns zero head produced test body later site outer = end StepsUsed
turns (suc n) head produced test body later site outer = do
  start ← head site outer
  change (λ s. record s { owned = start })
  produced
  turn
  x ← test
  pick x (change (joined outer) >> give On) (body >>= after_turn (turns n head produced test body later later) outer)

abbrev pub loop : Core → CoreFunction → (entry again : Site) → Formula → Run ℕ → Run Flow → Run Flow
loop c f entry again inv test body = do
  all ← get (λ s. s.owned)
  n ← get (λ s. s.turns)
  turns (suc n)
      (λ site outer. get (locals_of f) >>= consume c site inv outer)
      (get (locals_of f) >>= mark_over c entry Produce inv)
      test body again entry all

-- ---- annotations; they change no set
abbrev pub noted : Core → Site → NoteKind → Formula → List ℕ → Run Flow
noted c site assert_note formula words = do
  start ← consume c site formula [] words
  give On
noted c site fold_note formula words = do
  mark_body c site Consume formula words
  start ← decide c site formula [] words
  give On
noted c site unfold_note formula words = do
  start ← decide c site formula [] words
  mark_body c site Produce formula words
  give On

-- ---- statements
abbrev mutual
  pub core_exec : Core → CoreFunction → Calls → CoreStmt → Run Flow
  core_exec c f go do_step = step >> give On
  core_exec c f go (do_set to a) = get (word_of a) >>= put to
  core_exec c f go (do_unary to o a) = do
    x ← get (word_of a)
    put to (unary_word o x)
  core_exec c f go (do_binary to o a b site) = do
    x ← get (word_of a)
    y ← get (word_of b)
    z ← or_fault (fault_of (op_of o)) site (binary_word (op_of o) x y)
    put to z
  core_exec c f go (do_load to base k field site) = do
    b ← get (word_of base)
    d ← access site b field
    x ← get (λ s. or_0 (cell_value s.heap d))
    put to x
  core_exec c f go (do_store base k field value site) = do
    b ← get (word_of base)
    x ← get (word_of value)
    d ← access site b field
    change (λ s. record s { heap = set_cell s.heap d x })
    give On
  core_exec c f go (do_new to k) = do
    object ← allocate k (fields_of (slice_get c.structs k))
    put to object
  core_exec c f go (do_call to g args site) = do
    xs ← get (λ s. map (slice_index s.words) args)
    v ← called_at c go site g (slice_get c.functions g) xs
    put_if to v
  core_exec c f go (do_library to l a t site) = do
    x ← get (word_in a)
    v ← library_does c site l x t
    put_if to v
  core_exec c f go (do_if d a these those) = do
    x ← tested d a
    pick x (core_exec_all c f go those) (core_exec_all c f go these)
  core_exec c f go (do_loop entry again inv d test a body) =
      loop c f entry again inv (core_exec_all c f go test >> tested d a) (core_exec_all c f go body)
  core_exec c f go (do_return a site) = do
    x ← get (word_in a)
    give (Back site x)
  core_exec c f go (do_assert a site) = do
    x ← get (word_of a)
    pick x (end (Fault trap.Assertion site)) (give On)
  core_exec c f go (do_raise t site) = end (Fault trap.Raised site)
  core_exec c f go (do_note k formula site) = get (locals_of f) >>= noted c site k formula

  pub core_exec_all : Core → CoreFunction → Calls → Code → Run Flow
  core_exec_all c f go no_code = give On
  core_exec_all c f go (code_and s rest) = do
    flow ← core_exec c f go s
    unless_back flow (core_exec_all c f go rest)

-- ---- calls
-- what `ensures` speaks of: the parameters, and the result where there is one
abbrev pub ensured : CoreFunction → ℕ → CoreState → List ℕ
ensured f v s = take f.params s.words ++ results_of (Some f) v

-- The end of a call. In a stepped core no path reaches the end of a body without a return.
abbrev pub returned : Core → CoreFunction → Flow → Run ℕ
returned c f On = end StepsUsed
returned c f (Back site v) = do
  words ← get (ensured f v)
  all ← consume c site f.after [] words
  give v

-- the arguments, and 0 for each other local and each temporary
abbrev pub first_words : CoreFunction → List ℕ → List ℕ
first_words f args = args ++ replicate (length f.locals + length f.temps - length args) 0

abbrev pub no_outcomes : Option CoreFunction → Outcomes
no_outcomes None = []
no_outcomes (Some f) = replicate (length f.decisions) None

abbrev pub start_at : ℕ → Site
start_at g = record { function = g; kind = kind.Start; ordinal = 0 }

-- a call: at its end the caller owns what it owned, and what the callee owns then; its words and outcomes are as they were
abbrev pub called : Core → Calls → ℕ → Option CoreFunction → List ℕ → Cells → Run ℕ
called c go g None args start = end StepsUsed
called c go g (Some f) args start = do
  caller ← get (λ s. s)
  change (λ s. record s { owned = start; words = first_words f args; outcomes = no_outcomes (Some f) })
  mark_over c (start_at g) Produce f.before args
  flow ← core_exec_all c f go f.body
  v ← returned c f flow
  change (λ s. record s { owned = caller.owned ++ s.owned; words = caller.words; outcomes = caller.outcomes })
  give v

-- calls at most so many deep
abbrev pub calls_at : ℕ → Core → Calls
calls_at zero c g args start = end StepsUsed
calls_at (suc k) c g args start = called c (calls_at k c) g (slice_get c.functions g) args start

-- The whole run of `main`. Its `requires` is consumed before any call runs, with outcomes before those of `main`, which
-- starts with none. Each further call takes a turn, so none lies deeper than there are turns.
abbrev pub run : Core → ℕ → Run ℕ
run c n = do
  start ← consume c (start_at c.main) (before_of (slice_get c.functions c.main)) [] []
  calls_at (suc n) c c.main [] start

-- at the start nothing is in the heap and nothing is owned
abbrev pub started : Core → List ℕ → ℕ → CoreState
started c input n = record { words = []; heap = []; owned = []; input = input; output = []; steps = n; turns = n; outcomes = no_outcomes (slice_get c.functions c.main); visits = [] }

abbrev pub seen : Out ℕ → Seen
seen o = ((state_of o).output, ending (λ x. Returned record { 0 = x }) o)

abbrev pub core_meaning : Core → (input : List ℕ) → (steps : ℕ) → Seen
core_meaning c input n = seen (run c n (started c input n))

-- what was decided, the earliest first
abbrev pub visits : Core → (input : List ℕ) → (steps : ℕ) → List Visit
visits c input n = (state_of (run c n (started c input n))).visits

abbrev pub core_sites : Core → (input : List ℕ) → (steps : ℕ) → List Site
core_sites c input n = map (λ v. v.site) (visits c input n)
