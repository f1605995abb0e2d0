-- What a program does: one recursive function on its tree, and the meaning of a whole run.
-- Source: C0 Reference (order of evaluation, statements, contracts), with the owned sets of Gradual C0.
-- The points at which a step is due, and loops as levels of ownership, are this project's own.
use Rattle.std.specs.Prelude.{ℕ, zero, suc, ◌-◌, Bool, true, false, List, [], ◌∷◌, ◌++◌, length, take, replicate, Option, Some, None, is_some, if◌then◌else◌, slice_get, slice_index, slice_set}
use Rattle.gc0_base.specs.declared.place.Place.{Place}
use Rattle.gc0_base.specs.declared.site.Site.{Site}
use Rattle.gc0_base.specs.declared.site.Kind.{Kind}
use Rattle.gc0_base.specs.declared.site.Kind.TheVariants as kind
use Rattle.gc0_base.specs.declared.site.TrapKind.{TrapKind}
use Rattle.gc0_base.specs.declared.site.TrapKind.TheVariants as trap
use Rattle.gc0_base.specs.declared.site.Ending.{Ending}
use Rattle.gc0_base.specs.declared.site.Ending.TheVariants.{Returned, Stop, Fault, StepsUsed}
use Rattle.gc0_tree.specs.declared.ExprOp.{ExprOp}
use Rattle.gc0_tree.specs.declared.LibraryCall.{LibraryCall}
use Rattle.gc0_tree.specs.declared.LibraryCall.TheVariants as library
use Rattle.gc0_tree.specs.Tree.{Tree, number_at, truth_at, null_at, local_at, result_at, unary_at, binary_at, both_at, either_at, choose_at, read_at, call_at, library_at, alloc_at, Trees, no_trees, tree_and, no_parts, Formula, NoteKind, assert_note, fold_note, unfold_note, Stmt, declare_at, assign_at, write_at, plain_at, block_at, if_at, while_at, for_at, return_at, assert_at, raise_at, note_at, Stmts, no_stmts, stmt_and, Struct, Function, Program}
use Rattle.gc0_tree.specs.Sites.{Places, sites_of, second}
use Rattle.c0_meaning.specs.Operators.{truth_word, unary_word, binary_word, pick, fault_of, number_text, truth_text}
use Rattle.c0_meaning.specs.Heaps.{Cell, Cells, owns, cells_of, cell_value, set_cell}
use Rattle.c0_meaning.specs.Runs.{State, Out, Next, Run, ◌>>=◌, ◌>>◌, give, end, get, change, step, visit, write, ending, state_of}
use Rattle.c0_meaning.specs.Holds.{holds}

-- How a statement ends: the run goes on behind it, or the call returns at a place with a word.
pub data Flow : Type 0 where
  On : Flow
  Back : (at : Place) (word : ℕ) → Flow

-- what a level owns that starts with a formula: its footprint, or everything where it is imprecise
abbrev pub start_of : Formula → Cells → Cells → Cells
start_of formula foot all = if formula.imprecise then all else foot

abbrev pub or_stop : Site → Formula → Cells → Option Cells → Run Cells
or_stop site formula all None = end (Stop site)
or_stop site formula all (Some foot) = give (start_of formula foot all)

-- Decides a formula over some words, and gives what a level owns that starts with it. Outer is what the enclosing level
-- owns besides.
unfoldable pub decide : Program → Site → Formula → (outer : Cells) → List ℕ → Run Cells
decide p site formula outer words = do
  visit site
  owned ← get (λ s. s.owned)
  found ← get (λ s. holds p.predicates formula words s.heap s.owned)
  or_stop site formula (outer ++ owned) found

abbrev pub owned_or_stop : Site → Bool → Run (Unit {0})
owned_or_stop site true = give tt
owned_or_stop site false = end (Stop site)

-- the cell of an access: first the test for `NULL`, then that of ownership
unfoldable pub access : Site → (base field : ℕ) → Run Cell
access site zero field = end (Fault trap.Null site)
access site (suc n) field = do
  visit site
  owned ← get (λ s. owns s.owned record { object = suc n; field = field })
  owned_or_stop site owned
  give record { object = suc n; field = field }

abbrev pub or_0 : Option ℕ → ℕ
or_0 None = 0
or_0 (Some n) = n

abbrev pub word_in : Cell → Run ℕ
word_in c = get (λ s. or_0 (cell_value s.heap c))

abbrev pub fields_of : Option Struct → ℕ
fields_of None = 0
fields_of (Some s) = length s.fields

-- a new object of zeros, whose cells the running level owns
unfoldable pub allocate : (of_struct fields : ℕ) → Run ℕ
allocate k fields s =
    let object : ℕ = suc (length s.heap) in
    Next object record s { heap = s.heap ++ record { of_struct = k; fields = replicate fields 0 } ∷ []; owned = s.owned ++ cells_of object fields }

abbrev pub or_fault : TrapKind → Site → Option ℕ → Run ℕ
or_fault fault site None = end (Fault fault site)
or_fault fault site (Some x) = give x

abbrev pub apply : Places → Place → ExprOp → ℕ → ℕ → Run ℕ
apply at place o x y = or_fault (fault_of o) (at kind.Trap place) (binary_word o x y)

-- the next number of the input
abbrev pub next_of : Site → List ℕ → Run ℕ
next_of site [] = end (Fault trap.InputEnd site)
next_of site (x ∷ xs) = change (λ s. record s { input = xs }) >> give x

abbrev pub has_more : List ℕ → Bool
has_more [] = false
has_more (x ∷ xs) = true

abbrev pub text_at : Option (List ℕ) → List ℕ
text_at None = []
text_at (Some t) = t

abbrev pub text_of : Program → Option ℕ → List ℕ
text_of p None = []
text_of p (Some k) = text_at (slice_get p.texts k)

abbrev pub first_of : List ℕ → ℕ
first_of xs = slice_index xs 0

-- what a library call does with its argument or its text
abbrev pub library_does : Program → Site → LibraryCall → List ℕ → Option ℕ → Run ℕ
library_does p site library.PrintInt xs t = write (number_text (first_of xs)) >> give 0
library_does p site library.PrintBool xs t = write (truth_text (first_of xs)) >> give 0
library_does p site library.Print xs t = write (text_of p t) >> give 0
library_does p site library.PrintLine xs t = write (text_of p t ++ 10 ∷ []) >> give 0
library_does p site library.ReadInt xs t = get (λ s. s.input) >>= next_of site
library_does p site library.MoreInt xs t = get (λ s. truth_word (has_more s.input))

abbrev pub no_formula : Formula
no_formula = record { imprecise = true; parts = no_parts }

abbrev pub before_of : Option Function → Formula
before_of None = no_formula
before_of (Some f) = f.before

-- what a call does with a function, its arguments, and what the callee owns at its start
abbrev pub Calls : Type 0
Calls = (function : ℕ) → List ℕ → Cells → Run ℕ

-- the value of an expression; operands and arguments from left to right
abbrev mutual
  pub eval : Program → Places → Calls → Tree → Run ℕ
  eval p at go (number_at _ n) = give n
  eval p at go (truth_at _ b) = give (truth_word b)
  eval p at go (null_at _) = give 0
  eval p at go (local_at _ i) = get (λ s. slice_index s.locals i)
  eval p at go (result_at _) = give 0
  eval p at go (unary_at _ o a) = do
    x ← eval p at go a
    give (unary_word o x)
  eval p at go (binary_at place o a b) = do
    x ← eval p at go a
    y ← eval p at go b
    apply at place o x y
  eval p at go (both_at _ a b) = do
    x ← eval p at go a
    pick x (give 0) (eval p at go b)
  eval p at go (either_at _ a b) = do
    x ← eval p at go a
    pick x (eval p at go b) (give x)
  eval p at go (choose_at _ a b c) = do
    x ← eval p at go a
    pick x (eval p at go c) (eval p at go b)
  eval p at go (read_at place a k field) = do
    b ← eval p at go a
    c ← access (at kind.Access place) b field
    word_in c
  eval p at go (call_at place g es) = do
    xs ← eval_all p at go es
    step
    start ← decide p (at kind.Requires place) (before_of (slice_get p.functions g)) [] xs
    go g xs start
  eval p at go (library_at place l es t) = do
    xs ← eval_all p at go es
    step
    library_does p (at kind.Trap place) l xs t
  eval p at go (alloc_at _ k) = do
    step
    allocate k (fields_of (slice_get p.structs k))

  pub eval_all : Program → Places → Calls → Trees → Run (List ℕ)
  eval_all p at go no_trees = give []
  eval_all p at go (tree_and e es) = do
    x ← eval p at go e
    xs ← eval_all p at go es
    give (x ∷ xs)

abbrev pub unless_back : Flow → Run Flow → Run Flow
unless_back On rest = rest
unless_back (Back at v) rest = give (Back at v)

-- a level ends: the enclosing one owns its own set and that of the level
abbrev pub joined : Cells → State → State
joined outer s = record s { owned = outer ++ s.owned }

-- behind the body of a loop: a further turn, or the return leaves the level
abbrev pub after_turn : (Cells → Run Flow) → Cells → Flow → Run Flow
after_turn further outer On s = further (outer ++ s.owned) s
after_turn further outer (Back at v) s = Next (Back at v) (joined outer s)

-- A turn of a loop and all further ones, at most so many. Outer is what the enclosing level owns. The invariant is decided
-- at each head, before the step of the test.
abbrev pub turns : ℕ → (Kind → Cells → Run Cells) → Run ℕ → Run Flow → Kind → Cells → Run Flow
turns zero head test body k outer = end StepsUsed
turns (suc n) head test body k outer = do
  start ← head k outer
  change (λ s. record s { owned = start })
  step
  x ← test
  pick x (change (joined outer) >> give On) (body >>= after_turn (turns n head test body kind.Again) outer)

-- a loop from its first head; each turn takes a step, so there are no more turns than steps
abbrev pub loop : Program → Places → Place → Formula → Run ℕ → Run Flow → Run Flow
loop p at place inv test body = do
  step
  all ← get (λ s. s.owned)
  n ← get (λ s. s.steps)
  turns (suc n) (λ k outer. get (λ s. s.locals) >>= decide p (at k place) inv outer) test body kind.Entry all

abbrev pub set_local : ℕ → ℕ → Run Flow
set_local i x = change (λ s. record s { locals = slice_set s.locals i x }) >> give On

abbrev pub set_word : Cell → ℕ → Run Flow
set_word c x = change (λ s. record s { heap = set_cell s.heap c x }) >> give On

-- a declaration without a value leaves the local as it is; it isn't read before it is assigned
abbrev pub declared : ℕ → List ℕ → Run Flow
declared i [] = give On
declared i (x ∷ xs) = set_local i x

-- the new word of `x = e` or `x op= e`
abbrev pub operated : Places → Place → Option ExprOp → ℕ → ℕ → Run ℕ
operated at place None old x = give x
operated at place (Some o) old x = apply at place o old x

-- `p->f = e`: the value, then the access; `p->f op= e`: the access of the read, the value, the access of the write
abbrev pub written : Places → Place → Option ExprOp → Place → (base field : ℕ) → Run ℕ → Run Flow
written at arrow None op_at b field value = do
  x ← value
  c ← access (at kind.Access arrow) b field
  set_word c x
written at arrow (Some o) op_at b field value = do
  c ← access (at kind.Access arrow) b field
  old ← word_in c
  x ← value
  y ← apply at op_at o old x
  d ← access (second (at kind.Access arrow)) b field
  set_word d y

abbrev pub note_kind : NoteKind → Kind
note_kind assert_note = kind.Assert
note_kind fold_note = kind.Fold
note_kind unfold_note = kind.Unfold

abbrev mutual
  pub exec : Program → Places → Calls → Stmt → Run Flow
  exec p at go (declare_at _ i es) = do
    step
    xs ← eval_all p at go es
    declared i xs
  exec p at go (assign_at _ i o op_at e) = do
    step
    old ← get (λ s. slice_index s.locals i)
    x ← eval p at go e
    y ← operated at op_at o old x
    set_local i y
  exec p at go (write_at _ base k field arrow o op_at e) = do
    step
    b ← eval p at go base
    written at arrow o op_at b field (eval p at go e)
  exec p at go (plain_at _ e) = do
    step
    x ← eval p at go e
    give On
  exec p at go (block_at _ ss) = exec_all p at go ss
  exec p at go (if_at _ c a b) = do
    step
    x ← eval p at go c
    pick x (exec_all p at go b) (exec p at go a)
  exec p at go (while_at place inv c body) = loop p at place inv (eval p at go c) (exec p at go body)
  exec p at go (for_at place first c last inv body) = do
    flow ← exec_all p at go first
    unless_back flow (loop p at place inv (eval p at go c) (exec p at go body >>= λ flow. unless_back flow (exec_all p at go last)))
  exec p at go (return_at place es) = do
    step
    xs ← eval_all p at go es
    give (Back place (first_of xs))
  exec p at go (assert_at place e) = do
    step
    x ← eval p at go e
    pick x (end (Fault trap.Assertion (at kind.Trap place))) (give On)
  exec p at go (raise_at place t) = do
    step
    end (Fault trap.Raised (at kind.Trap place))
  exec p at go (note_at place k formula) = do
    words ← get (λ s. s.locals)
    start ← decide p (at (note_kind k) place) formula [] words
    give On

  pub exec_all : Program → Places → Calls → Stmts → Run Flow
  exec_all p at go no_stmts = give On
  exec_all p at go (stmt_and s ss) = do
    flow ← exec p at go s
    unless_back flow (exec_all p at go ss)

-- where a body returns: at a return, or at its closing brace
abbrev pub return_place : Function → Flow → Place
return_place f On = f.close
return_place f (Back at v) = at

abbrev pub result_of : Flow → ℕ
result_of On = 0
result_of (Back at v) = v

-- what `ensures` speaks of: the parameters, and the result where there is one
abbrev pub ensured : Function → ℕ → List ℕ → List ℕ
ensured f v locals = take f.params locals ++ (if is_some f.result then v ∷ [] else [])

-- a call: at its end the caller owns what it owned, and what the callee owns then
abbrev pub called : Program → Calls → ℕ → Option Function → List ℕ → Cells → Run ℕ
called p go g None args start = end StepsUsed
called p go g (Some f) args start = do
  outer ← get (λ s. s.owned)
  locals ← get (λ s. s.locals)
  change (λ s. record s { owned = start; locals = args ++ replicate (length f.locals - length args) 0 })
  flow ← exec_all p (sites_of g f) go f.body
  words ← get (λ s. ensured f (result_of flow) s.locals)
  all ← decide p (sites_of g f kind.Ensures (return_place f flow)) f.after [] words
  change (λ s. record s { owned = outer ++ s.owned; locals = locals })
  give (result_of flow)

-- calls at most so many deep
abbrev pub calls_at : ℕ → Program → Calls
calls_at zero p g args start = end StepsUsed
calls_at (suc k) p g args start = called p (calls_at k p) g (slice_get p.functions g) args start

abbrev pub start_site : Program → Site
start_site p = record { function = p.main; kind = kind.Start; ordinal = 0 }

-- the whole run of `main`; each further call takes a step, so none lies deeper than there are steps
abbrev pub run : Program → ℕ → Run ℕ
run p n = do
  start ← decide p (start_site p) (before_of (slice_get p.functions p.main)) [] []
  calls_at (suc n) p p.main [] start

-- at the start nothing is in the heap and nothing is owned
abbrev pub started : List ℕ → ℕ → State
started input n = record { locals = []; heap = []; owned = []; input = input; output = []; steps = n; sites = [] }

-- what is seen of a run: its output and how it ends
abbrev pub Seen : Type 0
Seen = List ℕ × Ending

abbrev pub seen : Out ℕ → Seen
seen o = ((state_of o).output, ending (λ x. Returned record { 0 = x }) o)

abbrev pub meaning : Program → (input : List ℕ) → (steps : ℕ) → Seen
meaning p input n = seen (run p n (started input n))

-- what was decided, the earliest first
abbrev pub sites : Program → (input : List ℕ) → (steps : ℕ) → List Site
sites p input n = (state_of (run p n (started input n))).sites
