-- The code of a built program checks built formulas alone.
use Rattle.std.proofs.Common.{◌≡◌, ℕ, zero, suc, ◌+◌, List, [], ◌∷◌, ◌++◌, length, Option, Some, None, slice_get, IfSome}
use Rattle.gc0_base.specs.declared.place.Place.{Place}
use Rattle.gc0_base.specs.declared.site.Site.{Site}
use Rattle.gc0_base.specs.declared.site.Kind.TheVariants as kind
use Rattle.gc0_tree.specs.declared.UnaryOp.{UnaryOp}
use Rattle.gc0_tree.specs.declared.UnaryOp.TheVariants as unary
use Rattle.gc0_tree.specs.declared.ExprOp.{ExprOp}
use Rattle.gc0_tree.specs.declared.ExprOp.TheVariants as op
use Rattle.gc0_tree.specs.declared.LibraryCall.{LibraryCall}
use Rattle.gc0_tree.specs.declared.LibraryCall.TheVariants as library
use Rattle.gc0_tree.specs.Tree.{Tree, number_at, truth_at, local_at, unary_at, binary_at, call_at, library_at, Trees, no_trees, tree_and, assert_note, Stmt, declare_at, assign_at, plain_at, block_at, if_at, while_at, return_at, note_at, Stmts, no_stmts, stmt_and, Function, Program}
use Rattle.gc0_tree.specs.Sites.{Places, sites_of}
use Rattle.c0_meaning.specs.Running.{start_site}
use Rattle.stack_code.specs.Instrs as instr
use Rattle.stack_code.specs.Instrs.{Instr, Body, Code}
use Rattle.stack_code.specs.Coding.{unary_code, binary_code, callee_check, call_code, tree_code, trees_code, print_code, plain_code, if_code, if_else_code, turn_code, return_code, stmt_code, stmts_code, body_of, bodies_from, start_check, code_of}
use Rattle.stack_code.specs.Built.{IsBuiltFormula, IsBuiltStmt, AreBuiltStmts, IsBuiltFunction, AreBuiltFunctions, IsBuilt}
use Rattle.stack_runner.specs.Built.{IsBuiltInstr, AreBuiltInstrs, HasBuiltInstrs, IsBuiltCode}

-- a list of such instructions, as a fact of its own
record Built (is : List Instr) : Type 0 where
  pub each : AreBuiltInstrs is

none : Built []
none = record { each = λ at. tt }

each_more : (i : Instr) (is : List Instr) → IsBuiltInstr i → AreBuiltInstrs is → AreBuiltInstrs (i ∷ is)
each_more i is h k zero = h
each_more i is h k (suc at) = k at

more : (i : Instr) {is : List Instr} → IsBuiltInstr i → Built is → Built (i ∷ is)
more i {is} h k = record { each = each_more i is h k.each }

joined : (is : List Instr) {js : List Instr} → Built is → Built js → Built (is ++ js)
joined [] h k = k
joined (i ∷ is) h k = more i (h.each 0) (joined is record { each = λ at. h.each (suc at) } k)

one : (i : Instr) → IsBuiltInstr i → Built (i ∷ [])
one i h = more i h none

two : (i j : Instr) → IsBuiltInstr i → IsBuiltInstr j → Built (i ∷ j ∷ [])
two i j h k = more i h (one j k)

unary_built : (o : UnaryOp) → Built (unary_code o)
unary_built unary.Neg = one instr.neg tt
unary_built unary.Flip = one instr.flip tt
unary_built unary.Not = none

binary_built : (o : ExprOp) → Built (binary_code o)
binary_built op.Add = one instr.add tt
binary_built op.Sub = one instr.sub tt
binary_built op.Mul = one instr.mul tt
binary_built op.Less = one instr.less tt
binary_built op.LessEq = one instr.lesseq tt
binary_built op.Greater = two instr.lesseq instr.flip tt tt
binary_built op.GreaterEq = two instr.less instr.flip tt tt
binary_built op.Equal = one instr.equal tt
binary_built op.NotEqual = two instr.equal instr.flip tt tt
binary_built o = none

print_built : (l : LibraryCall) → Built (print_code l)
print_built library.PrintInt = one instr.printint tt
print_built library.PrintBool = one instr.printbool tt
print_built l = none

callee_built : (site : Site) (all fs : List Function) (g : ℕ) → AreBuiltFunctions all fs → Built (callee_check site (slice_get fs g))
callee_built site all [] g h = none
callee_built site all (f ∷ fs) zero h = one (instr.checkwhole site f.before (instr.arguments f.params)) h.0.before
callee_built site all (f ∷ fs) (suc g) h = callee_built site all fs g h.1

start_built : (site : Site) (all fs : List Function) (g : ℕ) → AreBuiltFunctions all fs → Built (start_check site (slice_get fs g))
start_built site all [] g h = none
start_built site all (f ∷ fs) zero h = one (instr.checkwhole site f.before instr.locals) h.0.before
start_built site all (f ∷ fs) (suc g) h = start_built site all fs g h.1

module _ (p : Program) (built : IsBuilt p) where
  call_built : (at : Places) (place : Place) (g : ℕ) → Built (call_code p at place g)
  call_built at place g =
      more instr.step tt (joined (callee_check (at kind.Requires place) (slice_get p.functions g)) (callee_built (at kind.Requires place) p.functions p.functions g built.functions) (one (instr.call g) tt))

  mutual
    tree_built : (at : Places) (e : Tree) → Built (tree_code p at e)
    tree_built at (number_at place n) = one (instr.push n) tt
    tree_built at (truth_at place b) = one (instr.push _) tt
    tree_built at (local_at place i) = one (instr.load i) tt
    tree_built at (unary_at place o a) = joined (tree_code p at a) (tree_built at a) (unary_built o)
    tree_built at (binary_at place o a b) =
        joined (tree_code p at a) (tree_built at a) (joined (tree_code p at b) (tree_built at b) (binary_built o))
    tree_built at (call_at place g es) = joined (trees_code p at es) (trees_built at es) (call_built at place g)
    tree_built at e = none

    trees_built : (at : Places) (es : Trees) → Built (trees_code p at es)
    trees_built at no_trees = none
    trees_built at (tree_and e es) = joined (tree_code p at e) (tree_built at e) (trees_built at es)

  plain_built : (at : Places) (e : Tree) → Built (plain_code p at e)
  plain_built at (library_at place l es t) = joined (trees_code p at es) (trees_built at es) (more instr.step tt (print_built l))
  plain_built at e = joined (tree_code p at e) (tree_built at e) (one instr.drop tt)

  module _ (f : Function) (after : IsBuiltFormula f.after) (at : Places) where
    return_built : (place : Place) → Built (return_code f at place)
    return_built place = more (instr.checkwhole (at kind.Ensures place) f.after (instr.with_result f.params)) after (one instr.return tt)

    if_built : (from : ℕ) (test a : List Instr) → Built test → Built a → Built (if_code from test a)
    if_built from test a h k = joined test h (more (instr.jumpfalse (from + length test + 1 + length a)) tt k)

    if_else_built : (from : ℕ) (test a b : List Instr) → Built test → Built a → Built b → Built (if_else_code from test a b)
    if_else_built from test a b h k l =
        joined test h (more (instr.jumpfalse (from + length test + 1 + length a + 1)) tt (joined a k (more (instr.jump (from + length test + 1 + length a + 1 + length b)) tt l)))

    turn_built : (from : ℕ) (test body : List Instr) (again : Instr) → Built test → Built body → IsBuiltInstr again → Built (turn_code from test body again)
    turn_built from test body again h k l =
        more instr.step tt (joined test h (more (instr.jumpfalse (from + 1 + length test + 1 + length body + 2)) tt (joined body k (two again (instr.jump from) l tt))))

    mutual
      stmt_built : (from : ℕ) (s : Stmt) → IsBuiltStmt p.functions s → Built (stmt_code p f at from s)
      stmt_built from (declare_at place i es) h = more instr.step tt (joined (trees_code p at es) (trees_built at es) (one (instr.save i) tt))
      stmt_built from (assign_at place i o op_at e) h = more instr.step tt (joined (tree_code p at e) (tree_built at e) (one (instr.save i) tt))
      stmt_built from (plain_at place e) h = more instr.step tt (plain_built at e)
      stmt_built from (block_at place ss) h = stmts_built from ss h
      stmt_built from (if_at place c a no_stmts) h =
          more instr.step tt (if_built (from + 1) (tree_code p at c) (stmt_code p f at (from + 1 + length (tree_code p at c) + 1) a) (tree_built at c) (stmt_built _ a h.1))
      stmt_built from (if_at place c a (stmt_and b bs)) h =
          let test = tree_code p at c in
          let yes_code = stmt_code p f at (from + 1 + length test + 1) a in
          more instr.step tt (if_else_built (from + 1) test yes_code (stmts_code p f at (from + 1 + length test + 1 + length yes_code + 1) (stmt_and b bs)) (tree_built at c) (stmt_built _ a h.1) (stmts_built _ (stmt_and b bs) h.2))
      stmt_built from (while_at place inv c a) h =
          let test = tree_code p at c in
          more instr.step tt (more (instr.checkwhole (at kind.Entry place) inv instr.locals) h.0
          (turn_built (from + 1 + 1) test (stmt_code p f at (from + 1 + 1 + 1 + length test + 1) a) (instr.checkwhole (at kind.Again place) inv instr.locals) (tree_built at c) (stmt_built _ a h.2) h.0))
      stmt_built from (return_at place es) h = more instr.step tt (joined (trees_code p at es) (trees_built at es) (return_built place))
      stmt_built from (note_at place assert_note formula) h = one (instr.checkwhole (at kind.Assert place) formula instr.locals) h
      stmt_built from s h = none

      stmts_built : (from : ℕ) (ss : Stmts) → AreBuiltStmts p.functions ss → Built (stmts_code p f at from ss)
      stmts_built from no_stmts h = none
      stmts_built from (stmt_and s ss) h = joined (stmt_code p f at from s) (stmt_built from s h.0) (stmts_built _ ss h.1)

  bodies_built : (g : ℕ) (fs : List Function) → AreBuiltFunctions p.functions fs → (number : ℕ) → IfSome (slice_get (bodies_from p g fs) number) HasBuiltInstrs
  bodies_built g [] h number = tt
  bodies_built g (f ∷ fs) h zero = (stmts_built f h.0.after (sites_of g f) 0 f.body h.0.body).each
  bodies_built g (f ∷ fs) h (suc number) = bodies_built (suc g) fs h.1 number

  pub code_built : IsBuiltCode (code_of p)
  code_built = record {
    start = (joined (start_check (start_site p) (slice_get p.functions p.main)) (start_built (start_site p) p.functions p.functions p.main built.functions) (two (instr.call p.main) instr.return tt tt)).each;
    functions = bodies_built 0 p.functions built.functions;
  }
