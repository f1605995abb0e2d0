-- Worked cores: programs in core form, each place where the text of the program has it, and what they mean. They test the
-- definitions.
use Rattle.std.specs.Prelude.{◌≡◌, ℕ, true, false, List, [], ◌∷◌, map, Some, None, codes}
use Rattle.gc0_base.specs.declared.site.Site.{Site}
use Rattle.gc0_base.specs.declared.site.Kind.TheVariants.{Start, Requires, Ensures, Entry, Again, Fold, Unfold, Access, Trap}
use Rattle.gc0_base.specs.declared.site.TrapKind.TheVariants as trap
use Rattle.gc0_base.specs.declared.site.Decision.{Decision}
use Rattle.gc0_base.specs.declared.site.Ending.TheVariants.{Returned, Stop, Fault, StepsUsed}
use Rattle.gc0_tree.specs.declared.Shape.{Shape}
use Rattle.gc0_tree.specs.declared.Shape.TheVariants as shape
use Rattle.gc0_tree.specs.declared.UnaryOp.TheVariants as unary
use Rattle.gc0_tree.specs.declared.ExprOp.TheVariants as op
use Rattle.gc0_tree.specs.declared.LibraryCall.TheVariants as library
use Rattle.gc0_tree.specs.Tree.{Tree, number_at, truth_at, null_at, local_at, result_at, binary_at, read_at, no_parts, value_part, acc_part, instance_part, choice_part, Formula, fold_note, unfold_note, Struct, Predicate, Program}
use Rattle.core_tree.specs.declared.BinaryOp.TheVariants.{Add, Div, Less, Equal}
use Rattle.core_tree.specs.declared.Simple.{Simple}
use Rattle.core_tree.specs.declared.Simple.TheVariants.{Const, Local}
use Rattle.core_tree.specs.declared.Phase.{Phase}
use Rattle.core_tree.specs.declared.Phase.TheVariants.{Produce, Consume}
use Rattle.core_tree.specs.declared.Origin.TheVariants.{Branch, Choice}
use Rattle.core_tree.specs.declared.DecisionAt.{DecisionAt}
use Rattle.core_tree.specs.declared.SiteAt.{SiteAt}
use Rattle.core_tree.specs.declared.SiteTable.{SiteTable}
use Rattle.core_tree.specs.CoreTree.{CoreStmt, do_step, do_set, do_unary, do_binary, do_load, do_store, do_new, do_call, do_library, do_if, do_loop, do_return, do_note, CoreFunction, Core}
use Rattle.core_tree.specs.CoreViews.{code_of}
use Rattle.c0_meaning.specs.Running.{meaning, sites}
use Rattle.c0_meaning.specs.Examples as source
use Rattle.c0_meaning.specs.Examples.{place, site, anything, precisely, one, int}
use Rattle.core_meaning.specs.CoreRuns.{Outcomes, Visit}
use Rattle.core_meaning.specs.CoreRunning.{core_meaning, visits, core_sites}
use Rattle.core_meaning.specs.Stepped.{EachFunction, AreSited, AreDecided, IsStepped}

-- ---- words for cores
abbrev pub word : ℕ → Simple
word n = Const record { 0 = n }

abbrev pub local : ℕ → Simple
local i = Local i

-- a local that points to a struct
abbrev pub pointer : ℕ → List ℕ × Shape
pointer k = ([], shape.Pointer k)

abbrev pub decision : (function number : ℕ) → Decision
decision f n = record { function = f; number = n }

abbrev pub branch_at : (line column : ℕ) → DecisionAt
branch_at l c = record { place = place l c; origin = Branch }

abbrev pub choice_at : (line column : ℕ) → Site → Phase → DecisionAt
choice_at l c at phase = record { place = place l c; origin = Choice at phase 0 }

-- what is kept of a site: its place, and the first numbers of what is consumed and what is produced there
abbrev pub row : (line column : ℕ) → (consumed produced : ℕ) → SiteAt
row l c consumed produced = record { place = place l c; about = None; consumed = consumed; produced = produced }

abbrev pub row_about : ℕ → SiteAt → SiteAt
row_about k r = record r { about = Some k }

abbrev pub sites_from : SiteAt → SiteTable
sites_from start = record { start = start; calls = []; returns = []; entry = []; again = []; asserts = []; folds = []; unfolds = []; accesses = []; traps = [] }

abbrev pub truth : (line column : ℕ) → Formula
truth l c = precisely (value_part (truth_at (place l c) true) no_parts)

-- the head of `main`, without clauses of its own
abbrev pub main_at : (line : ℕ) → List (List ℕ × Shape) → List Shape → List DecisionAt → SiteTable → List CoreStmt → CoreFunction
main_at l locals temps decisions sites body = record {
  name = codes "main";
  place = place l 5;
  params = 0;
  locals = locals;
  temps = temps;
  result = Some shape.Int;
  before = anything;
  after = anything;
  plain = false;
  paths = 1;
  decisions = decisions;
  sites = sites;
  body = code_of body;
}

abbrev pub core : List Struct → List Predicate → List CoreFunction → ℕ → Core
core structs predicates functions main = record { structs = structs; predicates = predicates; functions = functions; main = main; texts = [] }

-- where something was decided, and with which outcomes
abbrev pub decided : Visit → Site × Outcomes
decided v = (v.site, v.outcomes)

-- ---- loops and steps
-- int main() {
--   int i = 0;
--   while (i < 5)
--   //@loop_invariant ? && i < 3;
--   { printint(i); i = i + 1; }
--   return 0;
-- }
abbrev pub counting : Core
counting = core [] [] (main_at 1 (int ∷ []) (shape.Bool ∷ shape.Int ∷ []) (branch_at 3 3 ∷ [])
    (record (sites_from (row 1 5 0 0)) { returns = row 6 3 1 1 ∷ []; entry = row 3 3 0 0 ∷ []; again = row 3 3 1 1 ∷ [] })
    (do_step ∷ do_set 0 (word 0)
    ∷ do_step ∷ do_loop (site 0 Entry 0) (site 0 Again 0)
    (record { imprecise = true; parts = value_part (binary_at (place 4 28) op.Less (local_at (place 4 26) 0) (number_at (place 4 30) 3)) no_parts })
    (decision 0 0)
    (code_of (do_step ∷ do_binary 1 Less (local 0) (word 5) None ∷ []))
    (local 1)
    (code_of (do_step ∷ do_step ∷ do_library None library.PrintInt (Some (local 0)) None None
    ∷ do_step ∷ do_binary 2 Add (local 0) (word 1) None ∷ do_set 0 (local 2) ∷ []))
    ∷ do_step ∷ do_return (Some (word 0)) (site 0 Ensures 0) ∷ []) ∷ []) 0

abbrev pub counting_million : Type 0
counting_million = core_meaning counting [] 1000000 ≡ (codes "012", Stop (site 0 Again 0))

abbrev pub counting_14 : Type 0
counting_14 = core_meaning counting [] 14 ≡ (codes "012", Stop (site 0 Again 0))

abbrev pub counting_13 : Type 0
counting_13 = core_meaning counting [] 13 ≡ (codes "012", StepsUsed)

-- the invariant is decided with 0, 1, 2 and 3; from the second head on the loop's own decision is true
abbrev pub counting_visits : Type 0
counting_visits = map decided (visits counting [] 1000000) ≡
    (site 0 Start 0, None ∷ []) ∷ (site 0 Entry 0, None ∷ [])
    ∷ (site 0 Again 0, Some true ∷ []) ∷ (site 0 Again 0, Some true ∷ []) ∷ (site 0 Again 0, Some true ∷ []) ∷ []

-- struct cell { int a; };
-- int main() {
--   struct cell* c = alloc(struct cell);
--   for (int i = 0; i < 4; i++)
--   //@loop_invariant acc(c->a);
--   { c->a += i; }
--   return c->a;
-- }
abbrev pub adding : Core
adding = core (record { name = codes "cell"; fields = (codes "a", shape.Int) ∷ [] } ∷ []) []
    (main_at 2 (pointer 0 ∷ int ∷ []) (shape.Pointer 0 ∷ shape.Bool ∷ shape.Int ∷ shape.Int ∷ shape.Int ∷ shape.Int ∷ []) (branch_at 4 3 ∷ [])
    (record (sites_from (row 2 5 0 0)) { returns = row 7 3 1 1 ∷ []; entry = row 4 3 0 0 ∷ []; again = row 4 3 1 1 ∷ []; accesses = row 6 6 1 1 ∷ row 6 6 1 1 ∷ row 7 11 1 1 ∷ [] })
    (do_step ∷ do_step ∷ do_new 2 0 ∷ do_set 0 (local 2)
    ∷ do_step ∷ do_set 1 (word 0)
    ∷ do_step ∷ do_loop (site 0 Entry 0) (site 0 Again 0)
    (precisely (acc_part (local_at (place 5 25) 0) 0 no_parts))
    (decision 0 0)
    (code_of (do_step ∷ do_binary 3 Less (local 1) (word 4) None ∷ []))
    (local 3)
    (code_of (do_step ∷ do_load 4 (local 0) 0 0 (site 0 Access 0) ∷ do_binary 5 Add (local 4) (local 1) None ∷ do_store (local 0) 0 0 (local 5) (site 0 Access 1)
    ∷ do_step ∷ do_binary 6 Add (local 1) (word 1) None ∷ do_set 1 (local 6) ∷ []))
    ∷ do_step ∷ do_load 7 (local 0) 0 0 (site 0 Access 2) ∷ do_return (Some (local 7)) (site 0 Ensures 0) ∷ []) ∷ []) 0

-- The declaration and its `alloc`, the first part of the `for`, the loop and the `return` take five steps, five tests one
-- each, and four turns two each.
abbrev pub adding_18 : Type 0
adding_18 = core_meaning adding [] 18 ≡ ([], Returned record { 0 = 6 })

abbrev pub adding_17 : Type 0
adding_17 = core_meaning adding [] 17 ≡ ([], StepsUsed)

-- ---- calls and what they own
abbrev pub cells : List Struct
cells = record { name = codes "cell"; fields = (codes "a", shape.Int) ∷ (codes "b", shape.Int) ∷ [] } ∷ []

-- struct cell { int a; int b; };
-- void touch(struct cell* c) { c->b = 5; }
-- int main() {
--   struct cell* c = alloc(struct cell);
--   int i = 0;
--   while (i < 1)
--   //@loop_invariant acc(c->a);
--   { touch(c); i = i + 1; }
--   return 0;
-- }
abbrev pub touch : CoreFunction
touch = record {
  name = codes "touch";
  place = place 2 6;
  params = 1;
  locals = pointer 0 ∷ [];
  temps = [];
  result = None;
  before = anything;
  after = anything;
  plain = false;
  paths = 1;
  decisions = [];
  sites = record (sites_from (row 2 6 0 0)) { returns = row 2 40 0 0 ∷ []; accesses = row 2 31 0 0 ∷ [] };
  body = code_of (do_step ∷ do_store (local 0) 0 1 (word 5) (site 0 Access 0) ∷ do_return None (site 0 Ensures 0) ∷ []);
}

abbrev pub touching : Core
touching = core cells [] (touch ∷ main_at 3 (pointer 0 ∷ int ∷ []) (shape.Pointer 0 ∷ shape.Bool ∷ shape.Int ∷ []) (branch_at 6 3 ∷ [])
    (record (sites_from (row 3 5 0 0)) { calls = row_about 0 (row 8 5 1 1) ∷ []; returns = row 9 3 1 1 ∷ []; entry = row 6 3 0 0 ∷ []; again = row 6 3 1 1 ∷ [] })
    (do_step ∷ do_step ∷ do_new 2 0 ∷ do_set 0 (local 2)
    ∷ do_step ∷ do_set 1 (word 0)
    ∷ do_step ∷ do_loop (site 1 Entry 0) (site 1 Again 0)
    (precisely (acc_part (local_at (place 7 25) 0) 0 no_parts))
    (decision 1 0)
    (code_of (do_step ∷ do_binary 3 Less (local 1) (word 1) None ∷ []))
    (local 3)
    (code_of (do_step ∷ do_step ∷ do_call None 0 (0 ∷ []) (site 1 Requires 0)
    ∷ do_step ∷ do_binary 4 Add (local 1) (word 1) None ∷ do_set 1 (local 4) ∷ []))
    ∷ do_step ∷ do_return (Some (word 0)) (site 1 Ensures 0) ∷ []) ∷ []) 1

-- the loop owns the field `a` alone, and so does what it calls
abbrev pub touching_stops : Type 0
touching_stops = core_meaning touching [] 1000000 ≡ ([], Stop (site 0 Access 0))

-- struct node { int val; };
-- void touch(struct node* p)
-- //@requires ?;
-- //@ensures true;
-- { p->val = 7; }
-- int main() {
--   struct node* x = alloc(struct node);
--   touch(x);
--   x->val = x->val + 1;
--   printint(x->val);
--   return 0;
-- }
abbrev pub writing : Core
writing = core (record { name = codes "node"; fields = (codes "val", shape.Int) ∷ [] } ∷ []) []
    (record {
      name = codes "touch";
      place = place 2 6;
      params = 1;
      locals = pointer 0 ∷ [];
      temps = [];
      result = None;
      before = anything;
      after = truth 4 12;
      plain = false;
      paths = 1;
      decisions = [];
      sites = record (sites_from (row 2 6 0 0)) { returns = row 5 15 0 0 ∷ []; accesses = row 5 4 0 0 ∷ [] };
      body = code_of (do_step ∷ do_store (local 0) 0 0 (word 7) (site 0 Access 0) ∷ do_return None (site 0 Ensures 0) ∷ []);
    } ∷ main_at 6 (pointer 0 ∷ []) (shape.Pointer 0 ∷ shape.Int ∷ shape.Int ∷ shape.Int ∷ []) []
    (record (sites_from (row 6 5 0 0)) { calls = row_about 0 (row 8 3 0 0) ∷ []; returns = row 11 3 0 0 ∷ []; accesses = row 9 4 0 0 ∷ row 9 13 0 0 ∷ row 10 13 0 0 ∷ [] })
    (do_step ∷ do_step ∷ do_new 1 0 ∷ do_set 0 (local 1)
    ∷ do_step ∷ do_step ∷ do_call None 0 (0 ∷ []) (site 1 Requires 0)
    ∷ do_step ∷ do_load 2 (local 0) 0 0 (site 1 Access 1) ∷ do_binary 3 Add (local 2) (word 1) None ∷ do_store (local 0) 0 0 (local 3) (site 1 Access 0)
    ∷ do_step ∷ do_load 4 (local 0) 0 0 (site 1 Access 2) ∷ do_step ∷ do_library None library.PrintInt (Some (local 4)) None None
    ∷ do_step ∷ do_return (Some (word 0)) (site 1 Ensures 0) ∷ []) ∷ []) 1

abbrev pub writing_prints : Type 0
writing_prints = core_meaning writing [] 1000000 ≡ (codes "8", Returned record { 0 = 0 })

-- struct s { int v; }; int main() { struct s* p = NULL; return p->v; }
abbrev pub following : Core
following = core (record { name = codes "s"; fields = (codes "v", shape.Int) ∷ [] } ∷ []) []
    (main_at 1 (pointer 0 ∷ []) (shape.Int ∷ []) []
    (record (sites_from (row 1 26 0 0)) { returns = row 1 55 0 0 ∷ []; accesses = row 1 63 0 0 ∷ [] })
    (do_step ∷ do_set 0 (word 0) ∷ do_step ∷ do_load 1 (local 0) 0 0 (site 0 Access 0) ∷ do_return (Some (local 1)) (site 0 Ensures 0) ∷ []) ∷ []) 0

abbrev pub following_faults : Type 0
following_faults = core_meaning following [] 1000000 ≡ ([], Fault trap.Null (site 0 Access 0))

-- struct cell { int a; int b; };
-- int get(struct cell* c)
-- //@requires acc(c->a) && acc(c->b);
-- //@ensures acc(c->a) && acc(c->b);
-- {
--   while (true)
--   //@loop_invariant acc(c->a);
--   { if (c->a == 0) { return 1; } c->a = 0; }
--   return 2;
-- }
-- int main()
-- //@requires true;
-- //@ensures true;
-- { struct cell* c = alloc(struct cell); return get(c); }
abbrev pub getting : Core
getting = core cells [] (record {
  name = codes "get";
  place = place 2 5;
  params = 1;
  locals = pointer 0 ∷ [];
  temps = shape.Int ∷ shape.Bool ∷ [];
  result = Some shape.Int;
  before = precisely (acc_part (local_at (place 3 17) 0) 0 (acc_part (local_at (place 3 30) 0) 1 no_parts));
  after = precisely (acc_part (local_at (place 4 16) 0) 0 (acc_part (local_at (place 4 29) 0) 1 no_parts));
  plain = true;
  paths = 3;
  decisions = branch_at 6 3 ∷ branch_at 8 5 ∷ [];
  sites = record (sites_from (row 2 5 0 0)) { returns = row 8 22 2 2 ∷ row 9 3 2 2 ∷ []; entry = row 6 3 0 0 ∷ []; again = row 6 3 2 2 ∷ []; accesses = row 8 10 0 0 ∷ row 8 35 0 0 ∷ [] };
  body = code_of (do_step ∷ do_loop (site 0 Entry 0) (site 0 Again 0)
      (precisely (acc_part (local_at (place 7 25) 0) 0 no_parts))
      (decision 0 0)
      (code_of (do_step ∷ []))
      (word 1)
      (code_of (do_step ∷ do_load 1 (local 0) 0 0 (site 0 Access 0) ∷ do_binary 2 Equal (local 1) (word 0) None
      ∷ do_if (decision 0 1) (local 2) (code_of (do_step ∷ do_return (Some (word 1)) (site 0 Ensures 0) ∷ [])) (code_of [])
      ∷ do_step ∷ do_store (local 0) 0 0 (word 0) (site 0 Access 1) ∷ []))
      ∷ do_step ∷ do_return (Some (word 2)) (site 0 Ensures 1) ∷ []);
} ∷ record (main_at 11 (pointer 0 ∷ []) (shape.Pointer 0 ∷ shape.Int ∷ []) []
    (record (sites_from (row 11 5 0 0)) { calls = row_about 0 (row 14 47 0 0) ∷ []; returns = row 14 40 0 0 ∷ [] })
    (do_step ∷ do_step ∷ do_new 1 0 ∷ do_set 0 (local 1)
    ∷ do_step ∷ do_step ∷ do_call (Some 2) 0 (0 ∷ []) (site 1 Requires 0) ∷ do_return (Some (local 2)) (site 1 Ensures 0) ∷ []))
    { before = truth 12 13; after = truth 13 12; plain = true } ∷ []) 1

-- the return leaves the loop, whose level is joined before `ensures` is decided
abbrev pub getting_returns : Type 0
getting_returns = core_meaning getting [] 1000000 ≡ ([], Returned record { 0 = 1 })

abbrev pub getting_visits : Type 0
getting_visits = map decided (visits getting [] 1000000) ≡
    (site 1 Start 0, []) ∷ (site 1 Requires 0, []) ∷ (site 0 Entry 0, None ∷ None ∷ []) ∷ (site 0 Access 0, Some true ∷ None ∷ [])
    ∷ (site 0 Ensures 0, Some true ∷ Some true ∷ []) ∷ (site 1 Ensures 0, []) ∷ []

-- ---- predicates
abbrev pub nodes : List Struct
nodes = record { name = codes "node"; fields = (codes "val", shape.Int) ∷ (codes "next", shape.Pointer 0) ∷ [] } ∷ []

-- struct node { int val; struct node* next; };
-- //@predicate list(struct node* l) = l == NULL ? true : acc(l->val) && acc(l->next) && list(l->next);
abbrev pub lists : List Predicate
lists = record {
  name = codes "list";
  params = (codes "l", shape.Pointer 0) ∷ [];
  body = choice_part (place 2 47) (binary_at (place 2 39) op.Equal (local_at (place 2 37) 0) (null_at (place 2 42)))
      (value_part (truth_at (place 2 49) true) no_parts)
      (acc_part (local_at (place 2 60) 0) 0 (acc_part (local_at (place 2 75) 0) 1
      (instance_part (place 2 87) 0 (one (read_at (place 2 93) (local_at (place 2 92) 0) 0 1)) no_parts)))
      no_parts;
} ∷ []

abbrev pub is_list : (line column : ℕ) → Tree → Formula
is_list l c e = precisely (instance_part (place l c) 0 (one e) no_parts)

-- struct node* push(struct node* l, int v)
-- //@requires list(l);
-- //@ensures list(\result);
-- {
--   struct node* n = alloc(struct node);
--   n->val = v;
--   n->next = l;
--   //@fold list(n);
--   return n;
-- }
abbrev pub push : CoreFunction
push = record {
  name = codes "push";
  place = place 3 14;
  params = 2;
  locals = pointer 0 ∷ int ∷ pointer 0 ∷ [];
  temps = shape.Pointer 0 ∷ [];
  result = Some (shape.Pointer 0);
  before = is_list 4 13 (local_at (place 4 18) 0);
  after = is_list 5 12 (result_at (place 5 17));
  plain = true;
  paths = 2;
  decisions = choice_at 2 47 (site 0 Fold 0) Consume ∷ [];
  sites = record (sites_from (row 3 14 0 0)) { returns = row 11 3 1 1 ∷ []; folds = row_about 0 (row 10 6 0 0) ∷ []; accesses = row 8 4 0 0 ∷ row 9 4 0 0 ∷ [] };
  body = code_of (do_step ∷ do_step ∷ do_new 3 0 ∷ do_set 2 (local 3)
      ∷ do_step ∷ do_store (local 2) 0 0 (local 1) (site 0 Access 0)
      ∷ do_step ∷ do_store (local 2) 0 1 (local 0) (site 0 Access 1)
      ∷ do_note fold_note (is_list 10 11 (local_at (place 10 16) 2)) (site 0 Fold 0)
      ∷ do_step ∷ do_return (Some (local 2)) (site 0 Ensures 0) ∷ []);
}

-- int main()
-- //@requires true;
-- //@ensures true;
-- {
--   struct node* l = NULL;
--   //@fold list(l);
--   l = push(l, 1);
--   l = push(l, 2);
--   return 0;
-- }
abbrev pub pushing : Core
pushing = core nodes lists (push ∷ record (main_at 13 (pointer 0 ∷ []) (shape.Int ∷ shape.Pointer 0 ∷ shape.Int ∷ shape.Pointer 0 ∷ []) (choice_at 2 47 (site 1 Fold 0) Consume ∷ [])
    (record (sites_from (row 13 5 0 0)) { calls = row_about 0 (row 19 7 1 1) ∷ row_about 0 (row 20 7 1 1) ∷ []; returns = row 21 3 1 1 ∷ []; folds = row_about 0 (row 18 6 0 0) ∷ [] })
    (do_step ∷ do_set 0 (word 0)
    ∷ do_note fold_note (is_list 18 11 (local_at (place 18 16) 0)) (site 1 Fold 0)
    ∷ do_step ∷ do_set 1 (word 1) ∷ do_step ∷ do_call (Some 2) 0 (0 ∷ 1 ∷ []) (site 1 Requires 0) ∷ do_set 0 (local 2)
    ∷ do_step ∷ do_set 3 (word 2) ∷ do_step ∷ do_call (Some 4) 0 (0 ∷ 3 ∷ []) (site 1 Requires 1) ∷ do_set 0 (local 4)
    ∷ do_step ∷ do_return (Some (word 0)) (site 1 Ensures 0) ∷ []))
    { before = truth 14 13; after = truth 15 12; plain = true } ∷ []) 1

abbrev pub pushing_returns : Type 0
pushing_returns = core_meaning pushing [] 1000000 ≡ ([], Returned record { 0 = 0 })

-- the list is `NULL` at the fold of `main`, and an object at those of `push`
abbrev pub pushing_visits : Type 0
pushing_visits = map decided (visits pushing [] 1000000) ≡
    (site 1 Start 0, None ∷ []) ∷ (site 1 Fold 0, Some true ∷ [])
    ∷ (site 1 Requires 0, Some true ∷ []) ∷ (site 0 Access 0, None ∷ []) ∷ (site 0 Access 1, None ∷ []) ∷ (site 0 Fold 0, Some false ∷ []) ∷ (site 0 Ensures 0, Some false ∷ [])
    ∷ (site 1 Requires 1, Some true ∷ []) ∷ (site 0 Access 0, None ∷ []) ∷ (site 0 Access 1, None ∷ []) ∷ (site 0 Fold 0, Some false ∷ []) ∷ (site 0 Ensures 0, Some false ∷ [])
    ∷ (site 1 Ensures 0, Some true ∷ []) ∷ []

-- int main() {
--   struct node* l = alloc(struct node);
--   //@fold list(l);
--   //@unfold list(l);
--   l->val = 5;
--   return l->val;
-- }
abbrev pub unfolding_core : Core
unfolding_core = core nodes lists (main_at 3 (pointer 0 ∷ []) (shape.Pointer 0 ∷ shape.Int ∷ []) (choice_at 2 47 (site 0 Fold 0) Consume ∷ choice_at 2 47 (site 0 Unfold 0) Produce ∷ [])
    (record (sites_from (row 3 5 0 0)) { returns = row 8 3 2 2 ∷ []; folds = row_about 0 (row 5 6 0 1) ∷ []; unfolds = row_about 0 (row 6 6 1 1) ∷ []; accesses = row 7 4 2 2 ∷ row 8 11 2 2 ∷ [] })
    (do_step ∷ do_step ∷ do_new 1 0 ∷ do_set 0 (local 1)
    ∷ do_note fold_note (is_list 5 11 (local_at (place 5 16) 0)) (site 0 Fold 0)
    ∷ do_note unfold_note (is_list 6 13 (local_at (place 6 18) 0)) (site 0 Unfold 0)
    ∷ do_step ∷ do_store (local 0) 0 0 (word 5) (site 0 Access 0)
    ∷ do_step ∷ do_load 2 (local 0) 0 0 (site 0 Access 1) ∷ do_return (Some (local 2)) (site 0 Ensures 0) ∷ []) ∷ []) 0

abbrev pub unfolding_returns : Type 0
unfolding_returns = core_meaning unfolding_core [] 1000000 ≡ ([], Returned record { 0 = 5 })

-- at the unfold itself what it produces isn't yet decided
abbrev pub unfolding_visits : Type 0
unfolding_visits = map decided (visits unfolding_core [] 1000000) ≡
    (site 0 Start 0, None ∷ None ∷ []) ∷ (site 0 Fold 0, Some false ∷ None ∷ []) ∷ (site 0 Unfold 0, Some false ∷ None ∷ [])
    ∷ (site 0 Access 0, Some false ∷ Some false ∷ []) ∷ (site 0 Access 1, Some false ∷ Some false ∷ []) ∷ (site 0 Ensures 0, Some false ∷ Some false ∷ []) ∷ []

-- ---- when choices are decided
-- int main()
-- //@requires 1 < 2 ? true : 2 < 1;
-- { return 3; }
abbrev pub starting : Core
starting = core [] [] (record (main_at 1 [] [] (choice_at 2 19 (site 0 Start 0) Consume ∷ choice_at 2 19 (site 0 Start 0) Produce ∷ [])
    (record (sites_from (row 1 5 0 1)) { returns = row 3 3 2 2 ∷ [] })
    (do_step ∷ do_return (Some (word 3)) (site 0 Ensures 0) ∷ []))
    { before = precisely (choice_part (place 2 19) (binary_at (place 2 15) op.Less (number_at (place 2 13) 1) (number_at (place 2 17) 2)) (value_part (truth_at (place 2 21) true) no_parts) (value_part (binary_at (place 2 30) op.Less (number_at (place 2 28) 2) (number_at (place 2 32) 1)) no_parts) no_parts) } ∷ []) 0

-- what is consumed at the start is decided before `main` runs, which starts with no outcomes and decides what it produces
abbrev pub starting_visits : Type 0
starting_visits = map decided (visits starting [] 1000000) ≡
    (site 0 Start 0, Some true ∷ None ∷ []) ∷ (site 0 Ensures 0, None ∷ Some true ∷ []) ∷ []

-- struct cell { int a; int b; };
-- struct cell* make()
-- //@requires true;
-- //@ensures acc(\result->a) && (\result->a == 0 ? true : false);
-- { return alloc(struct cell); }
-- int main() {
--   struct cell* c = make();
--   return c->a;
-- }
abbrev pub making : Core
making = core cells [] (record {
  name = codes "make";
  place = place 2 14;
  params = 0;
  locals = [];
  temps = shape.Pointer 0 ∷ [];
  result = Some (shape.Pointer 0);
  before = truth 3 13;
  after = precisely (acc_part (result_at (place 4 16)) 0 (choice_part (place 4 48) (binary_at (place 4 43) op.Equal (read_at (place 4 39) (result_at (place 4 32)) 0 0) (number_at (place 4 46) 0)) (value_part (truth_at (place 4 50) true) no_parts) (value_part (truth_at (place 4 57) false) no_parts) no_parts));
  plain = true;
  paths = 2;
  decisions = choice_at 4 48 (site 0 Ensures 0) Consume ∷ [];
  sites = record (sites_from (row 2 14 0 0)) { returns = row 5 3 0 1 ∷ [] };
  body = code_of (do_step ∷ do_step ∷ do_new 0 0 ∷ do_return (Some (local 0)) (site 0 Ensures 0) ∷ []);
} ∷ main_at 6 (pointer 0 ∷ []) (shape.Pointer 0 ∷ shape.Int ∷ []) (choice_at 4 48 (site 1 Requires 0) Produce ∷ [])
    (record (sites_from (row 6 5 0 0)) { calls = row_about 0 (row 7 20 0 0) ∷ []; returns = row 8 3 1 1 ∷ []; accesses = row 8 11 1 1 ∷ [] })
    (do_step ∷ do_step ∷ do_call (Some 1) 0 [] (site 1 Requires 0) ∷ do_set 0 (local 1)
    ∷ do_step ∷ do_load 2 (local 0) 0 0 (site 1 Access 0) ∷ do_return (Some (local 2)) (site 1 Ensures 0) ∷ []) ∷ []) 1

-- what a call produces is decided in the joined set: the new object is among what the caller owns then
abbrev pub making_visits : Type 0
making_visits = map decided (visits making [] 1000000) ≡
    (site 1 Start 0, None ∷ []) ∷ (site 1 Requires 0, None ∷ []) ∷ (site 0 Ensures 0, Some true ∷ [])
    ∷ (site 1 Access 0, Some true ∷ []) ∷ (site 1 Ensures 0, Some true ∷ []) ∷ []

-- the sites alone are those of the visits
abbrev pub making_sites : Type 0
making_sites = core_sites making [] 1000000 ≡ site 1 Start 0 ∷ site 1 Requires 0 ∷ site 0 Ensures 0 ∷ site 1 Access 0 ∷ site 1 Ensures 0 ∷ []

-- int main() {
--   int i = 0;
--   while (i < 2)
--   //@loop_invariant i == 0 ? true : 0 < i;
--   { i = i + 1; }
--   return i;
-- }
abbrev pub choosing : Core
choosing = core [] [] (main_at 1 (int ∷ []) (shape.Bool ∷ shape.Int ∷ [])
    (choice_at 4 28 (site 0 Entry 0) Consume ∷ choice_at 4 28 (site 0 Entry 0) Produce ∷ branch_at 3 3 ∷ choice_at 4 28 (site 0 Again 0) Consume ∷ [])
    (record (sites_from (row 1 5 0 0)) { returns = row 6 3 4 4 ∷ []; entry = row 3 3 0 1 ∷ []; again = row 3 3 3 4 ∷ [] })
    (do_step ∷ do_set 0 (word 0)
    ∷ do_step ∷ do_loop (site 0 Entry 0) (site 0 Again 0)
    (precisely (choice_part (place 4 28) (binary_at (place 4 23) op.Equal (local_at (place 4 21) 0) (number_at (place 4 26) 0)) (value_part (truth_at (place 4 30) true) no_parts) (value_part (binary_at (place 4 39) op.Less (number_at (place 4 37) 0) (local_at (place 4 41) 0)) no_parts) no_parts))
    (decision 0 2)
    (code_of (do_step ∷ do_binary 1 Less (local 0) (word 2) None ∷ []))
    (local 1)
    (code_of (do_step ∷ do_binary 2 Add (local 0) (word 1) None ∷ do_set 0 (local 2) ∷ []))
    ∷ do_step ∷ do_return (Some (local 0)) (site 0 Ensures 0) ∷ []) ∷ []) 0

abbrev pub choosing_returns : Type 0
choosing_returns = core_meaning choosing [] 1000000 ≡ ([], Returned record { 0 = 2 })

-- The four decisions: what the first head consumes, what each head produces, the loop's own, what a later head consumes. A
-- later head is decided before it produces, and the last test is false.
abbrev pub choosing_visits : Type 0
choosing_visits = map decided (visits choosing [] 1000000) ≡
    (site 0 Start 0, None ∷ None ∷ None ∷ None ∷ []) ∷ (site 0 Entry 0, Some true ∷ None ∷ None ∷ None ∷ [])
    ∷ (site 0 Again 0, Some true ∷ Some true ∷ Some true ∷ Some false ∷ []) ∷ (site 0 Again 0, Some true ∷ Some false ∷ Some true ∷ Some false ∷ [])
    ∷ (site 0 Ensures 0, Some true ∷ Some false ∷ Some false ∷ Some false ∷ []) ∷ []

-- ---- faults of C0 itself
-- int main() { return -2147483648 / -1; }
abbrev pub dividing : Core
dividing = core [] [] (main_at 1 [] (shape.Int ∷ shape.Int ∷ shape.Int ∷ []) []
    (record (sites_from (row 1 5 0 0)) { returns = row 1 14 0 0 ∷ []; traps = row 1 33 0 0 ∷ [] })
    (do_step ∷ do_unary 0 unary.Neg (word 2147483648) ∷ do_unary 1 unary.Neg (word 1) ∷ do_binary 2 Div (local 0) (local 1) (Some (site 0 Trap 0))
    ∷ do_return (Some (local 2)) (site 0 Ensures 0) ∷ []) ∷ []) 0

abbrev pub dividing_faults : Type 0
dividing_faults = core_meaning dividing [] 1000000 ≡ ([], Fault trap.Division (site 0 Trap 0))

-- int main() { return readint(); }
abbrev pub reading : Core
reading = core [] [] (main_at 1 [] (shape.Int ∷ []) []
    (record (sites_from (row 1 5 0 0)) { returns = row 1 14 0 0 ∷ []; traps = row 1 21 0 0 ∷ [] })
    (do_step ∷ do_step ∷ do_library (Some 0) library.ReadInt None None (Some (site 0 Trap 0)) ∷ do_return (Some (local 0)) (site 0 Ensures 0) ∷ []) ∷ []) 0

abbrev pub reading_faults : Type 0
reading_faults = core_meaning reading [] 1000000 ≡ ([], Fault trap.InputEnd (site 0 Trap 0))

abbrev pub reading_returns : Type 0
reading_returns = core_meaning reading (2147483648 ∷ []) 1000000 ≡ ([], Returned record { 0 = 2147483648 })

-- ---- beside the meaning of the program
abbrev pub steps_to_40 : List ℕ
steps_to_40 =
    0 ∷ 1 ∷ 2 ∷ 3 ∷ 4 ∷ 5 ∷ 6 ∷ 7 ∷ 8 ∷ 9 ∷ 10 ∷ 11 ∷ 12 ∷ 13 ∷ 14 ∷ 15 ∷ 16 ∷ 17 ∷ 18 ∷ 19 ∷ 20
    ∷ 21 ∷ 22 ∷ 23 ∷ 24 ∷ 25 ∷ 26 ∷ 27 ∷ 28 ∷ 29 ∷ 30 ∷ 31 ∷ 32 ∷ 33 ∷ 34 ∷ 35 ∷ 36 ∷ 37 ∷ 38 ∷ 39 ∷ 40 ∷ []

-- a core shows what a program shows, and decides at the same sites, with few steps of each number
abbrev pub Agree : Core → Program → Type 0
Agree c p =
    (map (core_meaning c []) steps_to_40 ≡ map (meaning p []) steps_to_40) × (map (core_sites c []) steps_to_40 ≡ map (sites p []) steps_to_40)

abbrev pub counting_agrees : Type 0
counting_agrees = Agree counting source.counting

-- int half(int x)
-- //@requires 0 <= x;
-- //@ensures \result <= x;
-- {
--   int h = 0;
--   while (h + h < x)
--   //@loop_invariant h <= x;
--   { h = h + 1; }
--   return h;
-- }
-- int main() {
--   int a = half(7);
--   int b = half(-1);
--   return a;
-- }
abbrev pub halving : Core
halving = core [] [] (record {
  name = codes "half";
  place = place 1 5;
  params = 1;
  locals = int ∷ int ∷ [];
  temps = shape.Int ∷ shape.Bool ∷ shape.Int ∷ [];
  result = Some shape.Int;
  before = source.half.before;
  after = source.half.after;
  plain = true;
  paths = 1;
  decisions = branch_at 6 3 ∷ [];
  sites = record (sites_from (row 1 5 0 0)) { returns = row 9 3 1 1 ∷ []; entry = row 6 3 0 0 ∷ []; again = row 6 3 1 1 ∷ [] };
  body = code_of (do_step ∷ do_set 1 (word 0)
      ∷ do_step ∷ do_loop (site 0 Entry 0) (site 0 Again 0)
      (precisely (value_part (binary_at (place 7 23) op.LessEq (local_at (place 7 21) 1) (local_at (place 7 26) 0)) no_parts))
      (decision 0 0)
      (code_of (do_step ∷ do_binary 2 Add (local 1) (local 1) None ∷ do_binary 3 Less (local 2) (local 0) None ∷ []))
      (local 3)
      (code_of (do_step ∷ do_binary 4 Add (local 1) (word 1) None ∷ do_set 1 (local 4) ∷ []))
      ∷ do_step ∷ do_return (Some (local 1)) (site 0 Ensures 0) ∷ []);
} ∷ main_at 11 (int ∷ int ∷ []) (shape.Int ∷ shape.Int ∷ shape.Int ∷ shape.Int ∷ []) []
    (record (sites_from (row 11 5 0 0)) { calls = row_about 0 (row 12 11 0 0) ∷ row_about 0 (row 13 11 0 0) ∷ []; returns = row 14 3 0 0 ∷ [] })
    (do_step ∷ do_set 2 (word 7) ∷ do_step ∷ do_call (Some 3) 0 (2 ∷ []) (site 1 Requires 0) ∷ do_set 0 (local 3)
    ∷ do_step ∷ do_unary 4 unary.Neg (word 1) ∷ do_step ∷ do_call (Some 5) 0 (4 ∷ []) (site 1 Requires 1) ∷ do_set 1 (local 5)
    ∷ do_step ∷ do_return (Some (local 0)) (site 1 Ensures 0) ∷ []) ∷ []) 1

abbrev pub halving_agrees : Type 0
halving_agrees = Agree halving source.halving

-- ---- stepped cores
abbrev pub counting_stepped : Type 0
counting_stepped = IsStepped counting

abbrev pub pushing_stepped : Type 0
pushing_stepped = IsStepped pushing

-- the decisions alone, and the sites, of those in which choices and branches mix
abbrev pub IsDecided : Core → Type 0
IsDecided c = EachFunction c (AreDecided c)

abbrev pub IsSited : Core → Type 0
IsSited c = EachFunction c (AreSited c)

abbrev pub getting_decided : Type 0
getting_decided = IsDecided getting × IsSited getting

abbrev pub unfolding_decided : Type 0
unfolding_decided = IsDecided unfolding_core × IsSited unfolding_core

abbrev pub starting_decided : Type 0
starting_decided = IsDecided starting × IsSited starting

abbrev pub making_decided : Type 0
making_decided = IsDecided making × IsSited making

abbrev pub choosing_decided : Type 0
choosing_decided = IsDecided choosing × IsSited choosing

abbrev pub dividing_decided : Type 0
dividing_decided = IsDecided dividing × IsSited dividing
