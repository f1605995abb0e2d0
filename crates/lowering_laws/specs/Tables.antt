-- What stands beside the code of a function: its decisions and its sites, in the order of the code.
-- Both are this project's own.
use Rattle.std.specs.Prelude.{ℕ, Bool, true, false, eqb, List, [], ◌∷◌, ◌++◌, Option, Some, None, if◌then◌else◌, slice_get}
use Rattle.gc0_base.specs.declared.place.Place.{Place}
use Rattle.gc0_base.specs.declared.site.Site.{Site}
use Rattle.gc0_base.specs.declared.site.Kind.TheVariants as kind
use Rattle.gc0_tree.specs.declared.Shape.{Shape}
use Rattle.gc0_tree.specs.Tree.{Tree, number_at, truth_at, null_at, local_at, result_at, unary_at, binary_at, both_at, either_at, choose_at, read_at, call_at, library_at, alloc_at, Trees, no_trees, tree_and, Formula, NoteKind, assert_note, fold_note, unfold_note, Stmt, declare_at, assign_at, write_at, plain_at, block_at, if_at, while_at, for_at, return_at, assert_at, raise_at, note_at, Stmts, no_stmts, stmt_and, Function, Program}
use Rattle.gc0_tree.specs.declared.ExprOp.{ExprOp}
use Rattle.gc0_tree.specs.Sites.{Places, sites_of, may_fault, reads_input, second}
use Rattle.core_tree.specs.declared.Phase.{Phase}
use Rattle.core_tree.specs.declared.Phase.TheVariants.{Produce, Consume}
use Rattle.core_tree.specs.declared.Origin.TheVariants.{Branch}
use Rattle.core_tree.specs.declared.DecisionAt.{DecisionAt}
use Rattle.core_tree.specs.declared.SiteAt.{SiteAt}
use Rattle.core_tree.specs.declared.SiteTable.{SiteTable}
use Rattle.core_tree.specs.CoreTree.{Core}
use Rattle.c0_meaning.specs.Running.{note_kind}
use Rattle.core_meaning.specs.Choices.{instance_body}
use Rattle.core_meaning.specs.CoreRunning.{start_at}
use Rattle.core_meaning.specs.CoreSited.{note_about}
use Rattle.formula_choices.specs.ChoicePlaces.{choice_places}
use Rattle.core_tables.specs.declared.PlacedSite.{PlacedSite}
use Rattle.core_tables.specs.SiteTables.{choices_at, table_of}
use Rattle.lowering_laws.specs.Lowering.{lowered}

-- ---- decisions
abbrev pub branch : Place → List DecisionAt
branch place = record { place = place; origin = Branch } ∷ []

-- the choices that are produced or consumed at one point
abbrev pub formula_decisions : Site → Phase → Formula → List DecisionAt
formula_decisions site phase formula = choices_at site phase 0 (choice_places formula.parts)

-- the same of the body of the one instance of a fold or an unfold
abbrev pub body_decisions : Program → Site → Phase → Formula → List DecisionAt
body_decisions p site phase formula = choices_at site phase 0 (choice_places (instance_body p.predicates formula.parts))

-- a call consumes the callee's `requires`, and produces its `ensures`
abbrev pub call_decisions : Site → Option Function → List DecisionAt
call_decisions site None = []
call_decisions site (Some f) = formula_decisions site Consume f.before ++ formula_decisions site Produce f.after

abbrev mutual
  pub tree_decisions : Program → Places → Tree → List DecisionAt
  tree_decisions p at (number_at place n) = []
  tree_decisions p at (truth_at place b) = []
  tree_decisions p at (null_at place) = []
  tree_decisions p at (local_at place i) = []
  tree_decisions p at (result_at place) = []
  tree_decisions p at (unary_at place o a) = tree_decisions p at a
  tree_decisions p at (binary_at place o a b) = tree_decisions p at a ++ tree_decisions p at b
  tree_decisions p at (both_at place a b) = tree_decisions p at a ++ (branch place ++ tree_decisions p at b)
  tree_decisions p at (either_at place a b) = tree_decisions p at a ++ (branch place ++ tree_decisions p at b)
  tree_decisions p at (choose_at place e a b) =
      tree_decisions p at e ++ (branch place ++ (tree_decisions p at a ++ tree_decisions p at b))
  tree_decisions p at (read_at place a k field) = tree_decisions p at a
  tree_decisions p at (call_at place g es) =
      trees_decisions p at es ++ call_decisions (at kind.Requires place) (slice_get p.functions g)
  tree_decisions p at (library_at place l es t) = first_decisions p at es
  tree_decisions p at (alloc_at place k) = []

  pub trees_decisions : Program → Places → Trees → List DecisionAt
  trees_decisions p at no_trees = []
  trees_decisions p at (tree_and e es) = tree_decisions p at e ++ trees_decisions p at es

  -- of a value that may be absent
  pub first_decisions : Program → Places → Trees → List DecisionAt
  first_decisions p at no_trees = []
  first_decisions p at (tree_and e es) = tree_decisions p at e

-- an assert and a fold consume, an unfold produces
abbrev pub note_decisions : Program → Site → NoteKind → Formula → List DecisionAt
note_decisions p site assert_note formula = formula_decisions site Consume formula
note_decisions p site fold_note formula = body_decisions p site Consume formula
note_decisions p site unfold_note formula = body_decisions p site Produce formula

-- a loop: its first head, its test, its branch, its body and its later heads
abbrev pub loop_decisions : Program → Places → Place → Formula → Tree → (body : List DecisionAt) → List DecisionAt
loop_decisions p at place inv e body =
    formula_decisions (at kind.Entry place) Consume inv
    ++ (formula_decisions (at kind.Entry place) Produce inv
    ++ (tree_decisions p at e ++ (branch place ++ (body ++ formula_decisions (at kind.Again place) Consume inv))))

abbrev mutual
  pub stmt_decisions : Program → Function → Places → Stmt → List DecisionAt
  stmt_decisions p f at (declare_at place i es) = first_decisions p at es
  stmt_decisions p f at (assign_at place i o op_at e) = tree_decisions p at e
  stmt_decisions p f at (write_at place base k field arrow o op_at e) = tree_decisions p at base ++ tree_decisions p at e
  stmt_decisions p f at (plain_at place e) = tree_decisions p at e
  stmt_decisions p f at (block_at place ss) = stmts_decisions p f at ss
  stmt_decisions p f at (if_at place e a b) =
      tree_decisions p at e ++ (branch place ++ (stmt_decisions p f at a ++ stmts_decisions p f at b))
  stmt_decisions p f at (while_at place inv e a) = loop_decisions p at place inv e (stmt_decisions p f at a)
  stmt_decisions p f at (for_at place first e last inv a) =
      stmts_decisions p f at first ++ loop_decisions p at place inv e (stmt_decisions p f at a ++ stmts_decisions p f at last)
  stmt_decisions p f at (return_at place es) = first_decisions p at es ++ formula_decisions (at kind.Ensures place) Consume f.after
  stmt_decisions p f at (assert_at place e) = tree_decisions p at e
  stmt_decisions p f at (raise_at place t) = []
  stmt_decisions p f at (note_at place k formula) = note_decisions p (at (note_kind k) place) k formula

  pub stmts_decisions : Program → Function → Places → Stmts → List DecisionAt
  stmts_decisions p f at no_stmts = []
  stmts_decisions p f at (stmt_and s ss) = stmt_decisions p f at s ++ stmts_decisions p f at ss

-- at the start `main` consumes its `requires`, and each function produces its own
abbrev pub start_decisions : Program → ℕ → Function → List DecisionAt
start_decisions p g f =
    (if eqb g p.main then formula_decisions (start_at g) Consume f.before else []) ++ formula_decisions (start_at g) Produce f.before

-- a function without a result returns at its closing brace
abbrev pub close_decisions : ℕ → Function → Option Shape → List DecisionAt
close_decisions g f None = formula_decisions (sites_of g f kind.Ensures f.close) Consume f.after
close_decisions g f (Some s) = []

abbrev pub decisions_of : Program → ℕ → Function → List DecisionAt
decisions_of p g f = start_decisions p g f ++ (stmts_decisions p f (sites_of g f) f.body ++ close_decisions g f f.result)

-- ---- sites
abbrev pub placed : Site → Place → List PlacedSite
placed site place = record { site = site; about = None; place = place } ∷ []

abbrev pub placed_about : Site → (about : ℕ) → Place → List PlacedSite
placed_about site n place = record { site = site; about = Some n; place = place } ∷ []

-- a site that not each operator and not each library call has
abbrev pub placed_if : Bool → Site → Place → List PlacedSite
placed_if true site place = placed site place
placed_if false site place = []

abbrev mutual
  pub tree_placed : Places → Tree → List PlacedSite
  tree_placed at (number_at place n) = []
  tree_placed at (truth_at place b) = []
  tree_placed at (null_at place) = []
  tree_placed at (local_at place i) = []
  tree_placed at (result_at place) = []
  tree_placed at (unary_at place o a) = tree_placed at a
  tree_placed at (binary_at place o a b) = tree_placed at a ++ (tree_placed at b ++ placed_if (may_fault o) (at kind.Trap place) place)
  tree_placed at (both_at place a b) = tree_placed at a ++ tree_placed at b
  tree_placed at (either_at place a b) = tree_placed at a ++ tree_placed at b
  tree_placed at (choose_at place e a b) = tree_placed at e ++ (tree_placed at a ++ tree_placed at b)
  tree_placed at (read_at place a k field) = tree_placed at a ++ placed (at kind.Access place) place
  tree_placed at (call_at place g es) = trees_placed at es ++ placed_about (at kind.Requires place) g place
  tree_placed at (library_at place l es t) = first_placed at es ++ placed_if (reads_input l) (at kind.Trap place) place
  tree_placed at (alloc_at place k) = []

  pub trees_placed : Places → Trees → List PlacedSite
  trees_placed at no_trees = []
  trees_placed at (tree_and e es) = tree_placed at e ++ trees_placed at es

  -- of a value that may be absent
  pub first_placed : Places → Trees → List PlacedSite
  first_placed at no_trees = []
  first_placed at (tree_and e es) = tree_placed at e

-- the operator of an assignment
abbrev pub op_placed : Places → Option ExprOp → Place → List PlacedSite
op_placed at None place = []
op_placed at (Some o) place = placed_if (may_fault o) (at kind.Trap place) place

-- a write by an operator reads before it
abbrev pub write_placed : Places → (base : Tree) → (arrow : Place) → Option ExprOp → Place → Tree → List PlacedSite
write_placed at base arrow None op_place e = tree_placed at base ++ (tree_placed at e ++ placed (at kind.Access arrow) arrow)
write_placed at base arrow (Some o) op_place e =
    tree_placed at base
    ++ (placed (at kind.Access arrow) arrow
    ++ (tree_placed at e ++ (op_placed at (Some o) op_place ++ placed (second (at kind.Access arrow)) arrow)))

abbrev pub loop_placed : Places → Place → Tree → (body : List PlacedSite) → List PlacedSite
loop_placed at place e body = placed (at kind.Entry place) place ++ (placed (at kind.Again place) place ++ (tree_placed at e ++ body))

abbrev mutual
  pub stmt_placed : Places → Stmt → List PlacedSite
  stmt_placed at (declare_at place i es) = first_placed at es
  stmt_placed at (assign_at place i o op_at e) = tree_placed at e ++ op_placed at o op_at
  stmt_placed at (write_at place base k field arrow o op_at e) = write_placed at base arrow o op_at e
  stmt_placed at (plain_at place e) = tree_placed at e
  stmt_placed at (block_at place ss) = stmts_placed at ss
  stmt_placed at (if_at place e a b) = tree_placed at e ++ (stmt_placed at a ++ stmts_placed at b)
  stmt_placed at (while_at place inv e a) = loop_placed at place e (stmt_placed at a)
  stmt_placed at (for_at place first e last inv a) = stmts_placed at first ++ loop_placed at place e (stmt_placed at a ++ stmts_placed at last)
  stmt_placed at (return_at place es) = first_placed at es ++ placed (at kind.Ensures place) place
  stmt_placed at (assert_at place e) = tree_placed at e ++ placed (at kind.Trap place) place
  stmt_placed at (raise_at place t) = placed_about (at kind.Trap place) t place
  stmt_placed at (note_at place k formula) = record { site = at (note_kind k) place; about = note_about k formula; place = place } ∷ []

  pub stmts_placed : Places → Stmts → List PlacedSite
  stmts_placed at no_stmts = []
  stmts_placed at (stmt_and s ss) = stmt_placed at s ++ stmts_placed at ss

abbrev pub close_placed : Places → Function → Option Shape → List PlacedSite
close_placed at f None = placed (at kind.Ensures f.close) f.close
close_placed at f (Some s) = []

abbrev pub placed_of : (function : ℕ) → Function → List PlacedSite
placed_of g f = stmts_placed (sites_of g f) f.body ++ close_placed (sites_of g f) f f.result

-- ---- the whole core
abbrev pub no_row : SiteAt
no_row = record { place = record { line = 0; column = 0 }; about = None; consumed = 0; produced = 0 }

abbrev pub no_table : SiteTable
no_table = record { start = no_row; calls = []; returns = []; entry = []; again = []; asserts = []; folds = []; unfolds = []; accesses = []; traps = [] }

abbrev pub decisions_in : Program → ℕ → Option Function → List DecisionAt
decisions_in p g None = []
decisions_in p g (Some f) = decisions_of p g f

abbrev pub table_in : Program → ℕ → Option Function → SiteTable
table_in p g None = no_table
table_in p g (Some f) = table_of g f.place (placed_of g f) (decisions_of p g f)

-- The core of a program, with its decisions and tables.
abbrev pub core_of : (plain : ℕ → Bool) (paths : ℕ → ℕ) → Program → Core
core_of plain paths p = lowered record { plain = plain; paths = paths; decisions = λ g. decisions_in p g (slice_get p.functions g); sites = λ g. table_in p g (slice_get p.functions g) } p
