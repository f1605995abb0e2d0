-- Lost precision is reflexive and transitive, and the first match is the best.
use Rattle.gc0_base.specs.declared.place.Place.{Place}
use Rattle.std.proofs.Common.{ℕ, List, [], ◌∷◌, refl, ◌∙◌}
use Rattle.gc0_tree.specs.Tree.{Tree, Trees, value_part, acc_part, instance_part, choice_part, no_parts, Conjuncts, Formula, NoteKind, assert_note, fold_note, unfold_note, Stmt, declare_at, assign_at, write_at, plain_at, block_at, if_at, while_at, for_at, return_at, assert_at, raise_at, note_at, Stmts, no_stmts, stmt_and, Function, Program}
use Rattle.precision_order.specs.Bare.{bare_program}
use Rattle.precision_order.specs.Precision.{Leaves, leaves_none, keep_value, drop_value, keep_acc, drop_acc, keep_instance, drop_instance, keep_choice, drop_choice, LessFormula, same_formula, opened, LessNote, less_asserted, same_folded, same_unfolded, LessStmt, less_declare, less_assign, less_write, less_plain, less_block, less_if, less_while, less_for, less_return, less_assert, less_raise, less_note, LessStmts, less_end, less_and, LessFunction, LessFunctions, no_functions, function_and, LessProgram, IsOrder, FirstIsBest}

leaves_over : {a b c : Conjuncts} → Leaves a b → Leaves b c → Leaves a c
leaves_over leaves_none k = k
leaves_over (drop_value e h) k = drop_value e (leaves_over h k)
leaves_over (drop_acc base f h) k = drop_acc base f (leaves_over h k)
leaves_over (drop_instance at q es h) k = drop_instance at q es (leaves_over h k)
leaves_over (drop_choice at c us bs h) k = drop_choice at c us bs (leaves_over h k)
leaves_over (keep_value e h) (keep_value d k) = keep_value e (leaves_over h k)
leaves_over (keep_value e h) (drop_value d k) = drop_value e (leaves_over h k)
leaves_over (keep_acc base f h) (keep_acc d g k) = keep_acc base f (leaves_over h k)
leaves_over (keep_acc base f h) (drop_acc d g k) = drop_acc base f (leaves_over h k)
leaves_over (keep_instance at q es h) (keep_instance a r ds k) = keep_instance at q es (leaves_over h k)
leaves_over (keep_instance at q es h) (drop_instance a r ds k) = drop_instance at q es (leaves_over h k)
leaves_over (keep_choice at c u b h) (keep_choice a d v w k) = keep_choice at c (leaves_over u v) (leaves_over b w) (leaves_over h k)
leaves_over (keep_choice at c {us = us} {bs = bs} u b h) (drop_choice a d xs ys k) = drop_choice at c us bs (leaves_over h k)

formula_over : {f g h : Formula} → LessFormula f g → LessFormula g h → LessFormula f h
formula_over (same_formula f) k = k
formula_over (opened o l) (same_formula g) = opened o l
formula_over (opened o l) (opened p m) = opened p (leaves_over l m)

note_same : (k : NoteKind) (f : Formula) → LessNote k f f
note_same assert_note f = less_asserted (same_formula f)
note_same fold_note f = same_folded f
note_same unfold_note f = same_unfolded f

note_over : {k : NoteKind} {f g h : Formula} → LessNote k f g → LessNote k g h → LessNote k f h
note_over (less_asserted a) (less_asserted b) = less_asserted (formula_over a b)
note_over (same_folded f) k = k
note_over (same_unfolded f) k = k

mutual
  stmt_same : (s : Stmt) → LessStmt s s
  stmt_same (declare_at at i es) = less_declare at i es
  stmt_same (assign_at at i op op_at e) = less_assign at i op op_at e
  stmt_same (write_at at base k f arrow op op_at e) = less_write at base k f arrow op op_at e
  stmt_same (plain_at at e) = less_plain at e
  stmt_same (block_at at ss) = less_block at (stmts_same ss)
  stmt_same (if_at at c a b) = less_if at c (stmt_same a) (stmts_same b)
  stmt_same (while_at at f c a) = less_while at c (same_formula f) (stmt_same a)
  stmt_same (for_at at p c r f a) = less_for at c (stmts_same p) (stmts_same r) (same_formula f) (stmt_same a)
  stmt_same (return_at at es) = less_return at es
  stmt_same (assert_at at e) = less_assert at e
  stmt_same (raise_at at text) = less_raise at text
  stmt_same (note_at at k f) = less_note at k (note_same k f)

  stmts_same : (ss : Stmts) → LessStmts ss ss
  stmts_same no_stmts = less_end
  stmts_same (stmt_and s ss) = less_and (stmt_same s) (stmts_same ss)

mutual
  stmt_over : {a b c : Stmt} → LessStmt a b → LessStmt b c → LessStmt a c
  stmt_over (less_declare at i es) k = k
  stmt_over (less_assign at i op op_at e) k = k
  stmt_over (less_write at base n f arrow op op_at e) k = k
  stmt_over (less_plain at e) k = k
  stmt_over (less_block at h) (less_block to k) = less_block at (stmts_over h k)
  stmt_over (less_if at c h i) (less_if to d k l) = less_if at c (stmt_over h k) (stmts_over i l)
  stmt_over (less_while at c f h) (less_while to d g k) = less_while at c (formula_over f g) (stmt_over h k)
  stmt_over (less_for at c p r f h) (less_for to d q s g k) = less_for at c (stmts_over p q) (stmts_over r s) (formula_over f g) (stmt_over h k)
  stmt_over (less_return at es) k = k
  stmt_over (less_assert at e) k = k
  stmt_over (less_raise at text) k = k
  stmt_over (less_note at n h) (less_note to m k) = less_note at n (note_over h k)

  stmts_over : {a b c : Stmts} → LessStmts a b → LessStmts b c → LessStmts a c
  stmts_over less_end k = k
  stmts_over (less_and h i) (less_and k l) = less_and (stmt_over h k) (stmts_over i l)

function_same : (f : Function) → LessFunction f f
function_same f = record {
  name = refl;
  place = refl;
  close = refl;
  params = refl;
  locals = refl;
  result = refl;
  before = same_formula f.before;
  after = same_formula f.after;
  body = stmts_same f.body;
}

function_over : (f g h : Function) → LessFunction f g → LessFunction g h → LessFunction f h
function_over f g h a b = record {
  name = a.name ∙ b.name;
  place = a.place ∙ b.place;
  close = a.close ∙ b.close;
  params = a.params ∙ b.params;
  locals = a.locals ∙ b.locals;
  result = a.result ∙ b.result;
  before = formula_over a.before b.before;
  after = formula_over a.after b.after;
  body = stmts_over a.body b.body;
}

functions_same : (fs : List Function) → LessFunctions fs fs
functions_same [] = no_functions
functions_same (f ∷ fs) = function_and (function_same f) (functions_same fs)

functions_over : {fs gs hs : List Function} → LessFunctions fs gs → LessFunctions gs hs → LessFunctions fs hs
functions_over no_functions k = k
functions_over (function_and {f = f} {g = g} a h) (function_and {g = e} b k) = function_and (function_over f g e a b) (functions_over h k)

program_same : (p : Program) → LessProgram p p
program_same p = record { structs = refl; predicates = refl; functions = functions_same p.functions; main = refl; texts = refl }

program_over : (p q r : Program) → LessProgram p q → LessProgram q r → LessProgram p r
program_over p q r a b = record {
  structs = a.structs ∙ b.structs;
  predicates = a.predicates ∙ b.predicates;
  functions = functions_over a.functions b.functions;
  main = a.main ∙ b.main;
  texts = a.texts ∙ b.texts;
}

pub precision_order : IsOrder
precision_order = record {
  reflexive = λ p. program_same (bare_program p);
  transitive = λ p q r. program_over (bare_program p) (bare_program q) (bare_program r);
}

leaves_same : (cs : Conjuncts) → Leaves cs cs
leaves_same no_parts = leaves_none
leaves_same (value_part e cs) = keep_value e (leaves_same cs)
leaves_same (acc_part base f cs) = keep_acc base f (leaves_same cs)
leaves_same (instance_part at q es cs) = keep_instance at q es (leaves_same cs)
leaves_same (choice_part at c us bs cs) = keep_choice at c (leaves_same us) (leaves_same bs) (leaves_same cs)

value_rest : (e d : Tree) (cs ds : Conjuncts) → Leaves (value_part e cs) (value_part d ds) → Leaves cs ds
value_rest e d cs ds (keep_value x h) = h
value_rest e d cs ds (drop_value x h) = leaves_over h (drop_value d (leaves_same ds))

acc_rest : (a b : Tree) (f g : ℕ) (cs ds : Conjuncts) → Leaves (acc_part a f cs) (acc_part b g ds) → Leaves cs ds
acc_rest a b f g cs ds (keep_acc x n h) = h
acc_rest a b f g cs ds (drop_acc x n h) = leaves_over h (drop_acc b g (leaves_same ds))

instance_rest : (at to : Place) (p q : ℕ) (es ts : Trees) (cs ds : Conjuncts) → Leaves (instance_part at p es cs) (instance_part to q ts ds) → Leaves cs ds
instance_rest at to p q es ts cs ds (keep_instance x n us h) = h
instance_rest at to p q es ts cs ds (drop_instance x n us h) = leaves_over h (drop_instance to q ts (leaves_same ds))

choice_rest : (at to : Place) (c d : Tree) (us bs xs ys cs ds : Conjuncts) → Leaves (choice_part at c us bs cs) (choice_part to d xs ys ds) → Leaves cs ds
choice_rest at to c d us bs xs ys cs ds (keep_choice x e u v h) = h
choice_rest at to c d us bs xs ys cs ds (drop_choice x e zs ws h) = leaves_over h (drop_choice to d xs ys (leaves_same ds))

pub first_best : FirstIsBest
first_best = record { value = value_rest; acc = acc_rest; instance = instance_rest; choice = choice_rest }
