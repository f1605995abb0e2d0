-- The code of a program with every check. This project's own.
use Rattle.std.specs.Prelude.{ℕ, suc, ◌+◌, List, [], ◌∷◌, ◌++◌, length, Option, Some, None, slice_get}
use Rattle.gc0_base.specs.declared.place.Place.{Place}
use Rattle.gc0_base.specs.declared.site.Site.{Site}
use Rattle.gc0_base.specs.declared.site.Kind.TheVariants as kind
use Rattle.gc0_tree.specs.declared.UnaryOp.{UnaryOp}
use Rattle.gc0_tree.specs.declared.UnaryOp.TheVariants as unary
use Rattle.gc0_tree.specs.declared.ExprOp.{ExprOp}
use Rattle.gc0_tree.specs.declared.ExprOp.TheVariants as op
use Rattle.gc0_tree.specs.declared.LibraryCall.{LibraryCall}
use Rattle.gc0_tree.specs.declared.LibraryCall.TheVariants as library
use Rattle.gc0_tree.specs.Tree.{Tree, number_at, truth_at, local_at, unary_at, binary_at, call_at, library_at, Trees, no_trees, tree_and, assert_note, Stmt, declare_at, assign_at, plain_at, block_at, if_at, while_at, return_at, note_at, Stmts, no_stmts, stmt_and, Function, Program}
use Rattle.gc0_tree.specs.Sites.{Places, sites_of}
use Rattle.c0_meaning.specs.Operators.{truth_word}
use Rattle.c0_meaning.specs.Running.{start_site}
use Rattle.stack_code.specs.Instrs as instr
use Rattle.stack_code.specs.Instrs.{Instr, Body, Code}

abbrev pub unary_code : UnaryOp → List Instr
unary_code unary.Neg = instr.neg ∷ []
unary_code unary.Flip = instr.flip ∷ []
unary_code unary.Not = []

-- the machine has three comparisons; the others are their opposites
abbrev pub binary_code : ExprOp → List Instr
binary_code op.Add = instr.add ∷ []
binary_code op.Sub = instr.sub ∷ []
binary_code op.Mul = instr.mul ∷ []
binary_code op.Less = instr.less ∷ []
binary_code op.LessEq = instr.lesseq ∷ []
binary_code op.Greater = instr.lesseq ∷ instr.flip ∷ []
binary_code op.GreaterEq = instr.less ∷ instr.flip ∷ []
binary_code op.Equal = instr.equal ∷ []
binary_code op.NotEqual = instr.equal ∷ instr.flip ∷ []
binary_code o = []

-- the check of a callee's precondition over its arguments, where there is such a function
abbrev pub callee_check : Site → Option Function → List Instr
callee_check site None = []
callee_check site (Some f) = instr.checkwhole site f.before (instr.arguments f.params) ∷ []

-- a call behind its arguments: its step, the callee's precondition, the callee
abbrev pub call_code : Program → Places → Place → ℕ → List Instr
call_code p at place g = instr.step ∷ (callee_check (at kind.Requires place) (slice_get p.functions g) ++ instr.call g ∷ [])

-- leaves the value of an expression on the operands; forms that aren't built yet have no code
abbrev mutual
  pub tree_code : Program → Places → Tree → List Instr
  tree_code p at (number_at place n) = instr.push n ∷ []
  tree_code p at (truth_at place b) = instr.push (truth_word b) ∷ []
  tree_code p at (local_at place i) = instr.load i ∷ []
  tree_code p at (unary_at place o a) = tree_code p at a ++ unary_code o
  tree_code p at (binary_at place o a b) = tree_code p at a ++ (tree_code p at b ++ binary_code o)
  tree_code p at (call_at place g es) = trees_code p at es ++ call_code p at place g
  tree_code p at e = []

  pub trees_code : Program → Places → Trees → List Instr
  trees_code p at no_trees = []
  trees_code p at (tree_and e es) = tree_code p at e ++ trees_code p at es

abbrev pub print_code : LibraryCall → List Instr
print_code library.PrintInt = instr.printint ∷ []
print_code library.PrintBool = instr.printbool ∷ []
print_code l = []

-- an expression whose value is dropped; a library call that writes leaves none
abbrev pub plain_code : Program → Places → Tree → List Instr
plain_code p at (library_at place l es t) = trees_code p at es ++ (instr.step ∷ print_code l)
plain_code p at e = tree_code p at e ++ instr.drop ∷ []

-- a choice without `else` from an instruction on: the test, and the code for its truth behind a jump past it
abbrev pub if_code : (from : ℕ) → List Instr → List Instr → List Instr
if_code from test a = test ++ (instr.jumpfalse (from + length test + 1 + length a) ∷ a)

-- a choice with `else`: behind the first side a jump past the second
abbrev pub if_else_code : (from : ℕ) → List Instr → List Instr → List Instr → List Instr
if_else_code from test a b =
    test ++ (instr.jumpfalse (from + length test + 1 + length a + 1) ∷ (a ++ (instr.jump (from + length test + 1 + length a + 1 + length b) ∷ b)))

-- A loop behind the check of its invariant at the first head: the step of the test, the test, the body, the check at the
-- next head, and a jump back.
abbrev pub turn_code : (from : ℕ) → List Instr → List Instr → Instr → List Instr
turn_code from test body again =
    instr.step ∷ (test ++ (instr.jumpfalse (from + 1 + length test + 1 + length body + 2) ∷ (body ++ (again ∷ instr.jump from ∷ []))))

-- a return: behind its value the check of `ensures` over the parameters and the result
abbrev pub return_code : Function → Places → Place → List Instr
return_code f at place = instr.checkwhole (at kind.Ensures place) f.after (instr.with_result f.params) ∷ instr.return ∷ []

-- Statements of a function, the first instruction of which has the number from.
abbrev mutual
  pub stmt_code : Program → Function → Places → (from : ℕ) → Stmt → List Instr
  stmt_code p f at from (declare_at place i es) = instr.step ∷ (trees_code p at es ++ instr.save i ∷ [])
  stmt_code p f at from (assign_at place i o op_at e) = instr.step ∷ (tree_code p at e ++ instr.save i ∷ [])
  stmt_code p f at from (plain_at place e) = instr.step ∷ plain_code p at e
  stmt_code p f at from (block_at place ss) = stmts_code p f at from ss
  stmt_code p f at from (if_at place c a no_stmts) =
      let test = tree_code p at c in
      instr.step ∷ if_code (from + 1) test (stmt_code p f at (from + 1 + length test + 1) a)
  stmt_code p f at from (if_at place c a (stmt_and b bs)) =
      let test = tree_code p at c in
      let yes_code = stmt_code p f at (from + 1 + length test + 1) a in
      instr.step ∷ if_else_code (from + 1) test yes_code (stmts_code p f at (from + 1 + length test + 1 + length yes_code + 1) (stmt_and b bs))
  stmt_code p f at from (while_at place inv c a) =
      let test = tree_code p at c in
      instr.step ∷ instr.checkwhole (at kind.Entry place) inv instr.locals ∷
      turn_code (from + 1 + 1) test (stmt_code p f at (from + 1 + 1 + 1 + length test + 1) a) (instr.checkwhole (at kind.Again place) inv instr.locals)
  stmt_code p f at from (return_at place es) = instr.step ∷ (trees_code p at es ++ return_code f at place)
  stmt_code p f at from (note_at place assert_note formula) = instr.checkwhole (at kind.Assert place) formula instr.locals ∷ []
  stmt_code p f at from s = []

  pub stmts_code : Program → Function → Places → (from : ℕ) → Stmts → List Instr
  stmts_code p f at from no_stmts = []
  stmts_code p f at from (stmt_and s ss) =
      let first = stmt_code p f at from s in
      first ++ stmts_code p f at (from + length first) ss

abbrev pub body_of : Program → ℕ → Function → Body
body_of p g f = record { params = f.params; locals = length f.locals; instrs = stmts_code p f (sites_of g f) 0 f.body }

-- the functions from a number on
abbrev pub bodies_from : Program → ℕ → List Function → List Body
bodies_from p g [] = []
bodies_from p g (f ∷ fs) = body_of p g f ∷ bodies_from p (suc g) fs

-- the check of the precondition of `main`
abbrev pub start_check : Site → Option Function → List Instr
start_check site None = []
start_check site (Some f) = instr.checkwhole site f.before instr.locals ∷ []

-- a run starts with the precondition of `main`, and a call of it that takes no step
abbrev pub start_code : Program → Body
start_code p = record { params = 0; locals = 0; instrs = start_check (start_site p) (slice_get p.functions p.main) ++ (instr.call p.main ∷ instr.return ∷ []) }

abbrev pub code_of : Program → Code
code_of p = record { predicates = p.predicates; functions = bodies_from p 0 p.functions; start = start_code p }
