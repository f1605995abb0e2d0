-- The number of the next decision is behind those of the code before.
use Rattle.std.proofs.Common.{◌≡◌, ℕ, suc, ◌+◌, Bool, true, false, eqb, if◌then◌else◌, List, [], ◌∷◌, ◌++◌, length, Option, Some, None, refl, ap, ◌∙◌, arith, length-append}
use Rattle.std.proofs.lemmas.List.{length-map}
use Rattle.std.specs.Prelude.{slice_get}
use Rattle.gc0_base.specs.declared.place.Place.{Place}
use Rattle.gc0_base.specs.declared.site.Site.{Site}
use Rattle.gc0_base.specs.declared.site.Kind.TheVariants as kind
use Rattle.gc0_tree.specs.declared.Shape.{Shape}
use Rattle.gc0_tree.specs.declared.Shape.TheVariants.{Int}
use Rattle.gc0_tree.specs.declared.ExprOp.{ExprOp}
use Rattle.gc0_tree.specs.Tree.{Tree, number_at, truth_at, null_at, local_at, result_at, unary_at, binary_at, both_at, either_at, choose_at, read_at, call_at, library_at, alloc_at, Trees, no_trees, tree_and, Conjuncts, Formula, NoteKind, assert_note, fold_note, unfold_note, Stmt, declare_at, assign_at, write_at, plain_at, block_at, if_at, while_at, for_at, return_at, assert_at, raise_at, note_at, Stmts, no_stmts, stmt_and, Function, Program}
use Rattle.gc0_tree.specs.Fits.{Room, library_gives}
use Rattle.gc0_tree.specs.Sites.{Places}
use Rattle.core_tree.specs.declared.Phase.{Phase}
use Rattle.core_tree.specs.declared.Phase.TheVariants.{Produce, Consume}
use Rattle.core_tree.specs.declared.DecisionAt.{DecisionAt}
use Rattle.c0_meaning.specs.Running.{note_kind}
use Rattle.core_meaning.specs.Choices.{ChoiceOf, choices, instance_body}
use Rattle.core_meaning.specs.CoreRunning.{start_at}
use Rattle.formula_choices.specs.ChoicePlaces.{choice_places}
use Rattle.core_tables.specs.SiteTables.{choices_at}
use Rattle.lowering_laws.specs.Counts.{Counts, fresh, with_temp, with_result, with_constant, decided, counted, args_counted, first_counted, choices_in, call_choices, is_constant, tree_shape, result_of}
use Rattle.lowering_laws.specs.Statements.{room_of, write_counted, note_choices, headed, stmt_next, stmts_next}
use Rattle.lowering_laws.specs.Lowering.{start_choices}
use Rattle.lowering_laws.specs.Tables.{branch, formula_decisions, body_decisions, call_decisions, tree_decisions, trees_decisions, first_decisions, note_decisions, loop_decisions, stmt_decisions, stmts_decisions, start_decisions}

-- behind decisions from a number on
pub record IsNext (n : ℕ) (ds : List DecisionAt) (m : ℕ) : Type 0 where
  pub is : m ≡ n + length ds

pub behind : {n m l : ℕ} {xs ys : List DecisionAt} → IsNext n xs m → IsNext m ys l → IsNext n (xs ++ ys) l
behind {n} {m} {l} {xs} {ys} h k = record { is = (let a = h.is in let b = k.is in omega (arith, length-append xs ys)) }

pub at_once : (n : ℕ) → IsNext n [] n
at_once n = record { is = omega arith }

pub behind_branch : {n m : ℕ} {ds : List DecisionAt} (place : Place) → IsNext (n + 1) ds m → IsNext n (branch place ++ ds) m
behind_branch place h = record { is = (let a = h.is in omega arith) }

choices_length : (site : Site) (phase : Phase) (k : ℕ) (places : List Place) → length (choices_at site phase k places) ≡ length places
choices_length site phase k [] = refl
choices_length site phase k (x ∷ xs) = ap suc (choices_length site phase (suc k) xs)

pub parts_length : (site : Site) (phase : Phase) (parts : Conjuncts) → length (choices_at site phase 0 (choice_places parts)) ≡ length (choices parts)
parts_length site phase parts = choices_length site phase 0 (choice_places parts) ∙ length-map (choices parts) (λ (x : ChoiceOf). x.place)

pub formula_next : (n : ℕ) (site : Site) (phase : Phase) (formula : Formula) → IsNext n (formula_decisions site phase formula) (n + choices_in formula)
formula_next n site phase formula = record { is = (let e = parts_length site phase formula.parts in omega arith) }

body_next : (p : Program) (n : ℕ) (site : Site) (phase : Phase) (formula : Formula) → IsNext n (body_decisions p site phase formula) (n + length (choices (instance_body p.predicates formula.parts)))
body_next p n site phase formula = record { is = (let e = parts_length site phase (instance_body p.predicates formula.parts) in omega arith) }

call_next : (n : ℕ) (site : Site) (o : Option Function) → IsNext n (call_decisions site o) (n + call_choices o)
call_next n site None = record { is = omega arith }
call_next n site (Some f) =
    record {
      is = (
          let a = parts_length site Consume f.before.parts in
          let b = parts_length site Produce f.after.parts in
          omega (arith, length-append (formula_decisions site Consume f.before) (formula_decisions site Produce f.after))
          );
    }

module _ (p : Program) (r : Room) (at : Places) where
  result_next : (n : ℕ) (o : Option Shape) (c : Counts) (ds : List DecisionAt) → IsNext n ds c.next → IsNext n ds (with_result o c).next
  result_next n None c ds h = h
  result_next n (Some s) c ds h = record { is = h.is }

  constant_next : (n : ℕ) (b : Bool) (s : Shape) (c : Counts) (ds : List DecisionAt) → IsNext n ds c.next → IsNext n ds (with_constant b s c).next
  constant_next n true s c ds h = record { is = h.is }
  constant_next n false s c ds h = h

  mutual
    pub tree_next : (c : Counts) (e : Tree) → IsNext c.next (tree_decisions p at e) (counted p r c e).next
    tree_next c (number_at place n) = at_once c.next
    tree_next c (truth_at place b) = at_once c.next
    tree_next c (null_at place) = at_once c.next
    tree_next c (local_at place i) = at_once c.next
    tree_next c (result_at place) = at_once c.next
    tree_next c (unary_at place o a) = tree_next c a
    tree_next c (binary_at place o a b) = behind (tree_next c a) (tree_next (counted p r c a) b)
    tree_next c (both_at place a b) = behind (tree_next c a) (behind_branch place (tree_next (decided 1 (counted p r c a)) b))
    tree_next c (either_at place a b) = behind (tree_next c a) (behind_branch place (tree_next (decided 1 (counted p r c a)) b))
    tree_next c (choose_at place x a b) =
        let c1 : Counts = decided 1 (counted p r c x) in
        behind (tree_next c x) (behind_branch place (behind (tree_next c1 a) (tree_next (counted p r c1 a) b)))
    tree_next c (read_at place a k field) = tree_next c a
    tree_next c (call_at place g es) =
        result_next c.next (result_of (slice_get p.functions g)) (decided (call_choices (slice_get p.functions g)) (args_counted p r c es)) (tree_decisions p at (call_at place g es))
        (behind (args_next c es) (call_next (args_counted p r c es).next (at kind.Requires place) (slice_get p.functions g)))
    tree_next c (library_at place l es t) = result_next c.next (library_gives l) (first_counted p r c es) (first_decisions p at es) (first_next c es)
    tree_next c (alloc_at place k) = at_once c.next

    pub args_next : (c : Counts) (es : Trees) → IsNext c.next (trees_decisions p at es) (args_counted p r c es).next
    args_next c no_trees = at_once c.next
    args_next c (tree_and e es) =
        behind (constant_next c.next (is_constant e) (tree_shape p r e) (counted p r c e) (tree_decisions p at e) (tree_next c e)) (args_next (with_constant (is_constant e) (tree_shape p r e) (counted p r c e)) es)

    pub first_next : (c : Counts) (es : Trees) → IsNext c.next (first_decisions p at es) (first_counted p r c es).next
    first_next c no_trees = at_once c.next
    first_next c (tree_and e es) = tree_next c e

  pub constant_on : (c : Counts) (e : Tree) → IsNext c.next (tree_decisions p at e) (with_constant (is_constant e) (tree_shape p r e) (counted p r c e)).next
  constant_on c e = constant_next c.next (is_constant e) (tree_shape p r e) (counted p r c e) (tree_decisions p at e) (tree_next c e)

  write_next : (c : Counts) (base : Tree) (o : Option ExprOp) (e : Tree) → IsNext c.next (tree_decisions p at base ++ tree_decisions p at e) (write_counted p r c base o e).next
  write_next c base None e = behind (tree_next c base) (tree_next (counted p r c base) e)
  write_next c base (Some o) e = behind (tree_next c base) (tree_next (with_temp Int (counted p r c base)) e)

  pub note_next : (n : ℕ) (site : Site) (k : NoteKind) (formula : Formula) → IsNext n (note_decisions p site k formula) (n + note_choices p k formula)
  note_next n site assert_note formula = formula_next n site Consume formula
  note_next n site fold_note formula = body_next p n site Consume formula
  note_next n site unfold_note formula = body_next p n site Produce formula

  -- behind the first head
  pub head_next : (n : ℕ) (place : Place) (inv : Formula) (ds : List DecisionAt) (m : ℕ) → IsNext (headed n inv) ds m →
      IsNext n (formula_decisions (at kind.Entry place) Consume inv ++ (formula_decisions (at kind.Entry place) Produce inv ++ ds)) m
  head_next n place inv ds m h = behind (formula_next n (at kind.Entry place) Consume inv) (behind (formula_next (n + choices_in inv) (at kind.Entry place) Produce inv) h)

  pub loop_next : (n : ℕ) (place : Place) (inv : Formula) (e : Tree) (body : List DecisionAt) (m : ℕ) → IsNext ((counted p r (fresh (headed n inv)) e).next + 1) body m → IsNext n (loop_decisions p at place inv e body) (m + choices_in inv)
  loop_next n place inv e body m h =
      head_next n place inv _ _ (behind (tree_next (fresh (headed n inv)) e) (behind_branch place (behind h (formula_next m (at kind.Again place) Consume inv))))

module _ (p : Program) (f : Function) (at : Places) where
  abbrev r : Room
  r = room_of f

  mutual
    pub stmt_behind : (n : ℕ) (s : Stmt) → IsNext n (stmt_decisions p f at s) (stmt_next p f n s)
    stmt_behind n (declare_at place i es) = first_next p r at (fresh n) es
    stmt_behind n (assign_at place i o op_at e) = tree_next p r at (fresh n) e
    stmt_behind n (write_at place base k field arrow o op_at e) = write_next p r at (fresh n) base o e
    stmt_behind n (plain_at place e) = tree_next p r at (fresh n) e
    stmt_behind n (block_at place ss) = stmts_behind n ss
    stmt_behind n (if_at place e a b) =
        let n1 : ℕ = (counted p r (fresh n) e).next + 1 in
        behind (tree_next p r at (fresh n) e) (behind_branch place (behind (stmt_behind n1 a) (stmts_behind (stmt_next p f n1 a) b)))
    stmt_behind n (while_at place inv e a) = loop_next p r at n place inv e _ _ (stmt_behind ((counted p r (fresh (headed n inv)) e).next + 1) a)
    stmt_behind n (for_at place first e last inv a) =
        let n1 : ℕ = stmts_next p f n first in
        let n2 : ℕ = (counted p r (fresh (headed n1 inv)) e).next + 1 in
        behind (stmts_behind n first) (loop_next p r at n1 place inv e _ _ (behind (stmt_behind n2 a) (stmts_behind (stmt_next p f n2 a) last)))
    stmt_behind n (return_at place es) = behind (first_next p r at (fresh n) es) (formula_next (first_counted p r (fresh n) es).next (at kind.Ensures place) Consume f.after)
    stmt_behind n (assert_at place e) = tree_next p r at (fresh n) e
    stmt_behind n (raise_at place t) = at_once n
    stmt_behind n (note_at place k formula) = note_next p r at n (at (note_kind k) place) k formula

    pub stmts_behind : (n : ℕ) (ss : Stmts) → IsNext n (stmts_decisions p f at ss) (stmts_next p f n ss)
    stmts_behind n no_stmts = at_once n
    stmts_behind n (stmt_and s ss) = behind (stmt_behind n s) (stmts_behind (stmt_next p f n s) ss)

if_next : (b : Bool) (g : ℕ) (formula : Formula) → IsNext 0 (if b then formula_decisions (start_at g) Consume formula else []) (if b then choices_in formula else 0)
if_next true g formula = record { is = (let e = parts_length (start_at g) Consume formula.parts in omega arith) }
if_next false g formula = record { is = refl }

pub consumed_next : (p : Program) (g : ℕ) (f : Function) → IsNext 0 (if eqb g p.main then formula_decisions (start_at g) Consume f.before else []) (if eqb g p.main then choices_in f.before else 0)
consumed_next p g f = if_next (eqb g p.main) g f.before

pub start_next : (p : Program) (g : ℕ) (f : Function) → IsNext 0 (start_decisions p g f) (start_choices p g f)
start_next p g f = behind (consumed_next p g f) (formula_next (if eqb g p.main then choices_in f.before else 0) (start_at g) Produce f.before)
