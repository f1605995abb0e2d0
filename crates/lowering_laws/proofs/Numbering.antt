-- The decisions of lowered code are kept in its order, each with its number, where the first choice of each point has the
-- number that the table says.
use Rattle.std.proofs.Common.{◌≡◌, ℕ, zero, suc, ◌+◌, Bool, true, false, eqb, if◌then◌else◌, List, [], ◌∷◌, ◌++◌, map, length, Option, Some, None, refl, sym, ap, ◌∙◌, subst, arith, append_assoc}
use Rattle.std.proofs.lemmas.List.{append-nil}
use Rattle.std.specs.Prelude.{slice_get}
use Rattle.std.specs.Option.{option_map}
use Rattle.gc0_base.specs.declared.place.Place.{Place}
use Rattle.gc0_base.specs.declared.site.Site.{Site}
use Rattle.gc0_base.specs.declared.site.Decision.{Decision}
use Rattle.gc0_base.specs.declared.site.Kind.TheVariants as kind
use Rattle.gc0_tree.specs.declared.Shape.{Shape}
use Rattle.gc0_tree.specs.declared.Shape.TheVariants.{Int}
use Rattle.gc0_tree.specs.declared.ExprOp.{ExprOp}
use Rattle.gc0_tree.specs.declared.ExprOp.TheVariants as op
use Rattle.gc0_tree.specs.Tree.{Tree, number_at, truth_at, null_at, local_at, result_at, unary_at, binary_at, both_at, either_at, choose_at, read_at, call_at, library_at, alloc_at, Trees, no_trees, tree_and, Formula, NoteKind, assert_note, fold_note, unfold_note, Stmt, declare_at, assign_at, write_at, plain_at, block_at, if_at, while_at, for_at, return_at, assert_at, raise_at, note_at, Stmts, no_stmts, stmt_and, Function, Program}
use Rattle.gc0_tree.specs.Fits.{Room}
use Rattle.gc0_tree.specs.Sites.{sites_of, second}
use Rattle.c0_meaning.specs.Running.{note_kind}
use Rattle.core_tree.specs.declared.Phase.{Phase}
use Rattle.core_tree.specs.declared.Phase.TheVariants.{Produce, Consume}
use Rattle.core_tree.specs.declared.Origin.{Origin}
use Rattle.core_tree.specs.declared.Origin.TheVariants.{Branch, Choice}
use Rattle.core_tree.specs.declared.DecisionAt.{DecisionAt}
use Rattle.core_tree.specs.declared.Simple.{Simple}
use Rattle.core_tree.specs.declared.Simple.TheVariants as simple
use Rattle.core_tree.specs.CoreTree.{CoreStmt, do_step, do_load, do_store, do_if, Code, no_code, code_and, CoreFunction, Core}
use Rattle.core_tree.specs.CoreSites.{first_number}
use Rattle.core_meaning.specs.Choices.{ChoiceOf, choices, instance_body}
use Rattle.core_meaning.specs.CoreRunning.{before_of, after_of, start_at}
use Rattle.core_meaning.specs.Deciding.{Due, branch_due, choices_due, formula_due, note_due, stmt_due, code_due, start_due, function_due, AreNumbered}
use Rattle.core_tables.specs.SiteTables.{choices_at}
use Rattle.lowering_laws.specs.Counts.{Counts, fresh, with_temp, with_constant, decided, counted, args_counted, first_counted, choices_in, is_constant, tree_shape}
use Rattle.lowering_laws.specs.Trees.{Target, join, one, temp, value_of, argument_code, operator_code, tree_code, args_code, first_code}
use Rattle.lowering_laws.specs.Statements.{room_of, headed, stmt_next, stmts_next, declare_code, assign_code, write_code, loop_code, stmt_code, stmts_code}
use Rattle.lowering_laws.specs.Lowering.{Beside, target, close_code, start_choices, lowered_function, lowered}
use Rattle.lowering_laws.specs.Tables.{branch, formula_decisions, call_decisions, tree_decisions, trees_decisions, first_decisions, note_decisions, loop_decisions, stmt_decisions, stmts_decisions, start_decisions, close_decisions, decisions_of}
use Rattle.lowering_laws.proofs.Each.{function_at}
use Rattle.lowering_laws.proofs.Nexts.{IsNext, behind, at_once, formula_next, tree_next, args_next, first_next, constant_on, stmt_behind, stmts_behind, consumed_next, start_next}

numbered_both : (g n m : ℕ) (xs ys : List Due) (ds es : List DecisionAt) → m ≡ n + length ds → AreNumbered g n xs ds → AreNumbered g m ys es → AreNumbered g n (xs ++ ys) (ds ++ es)
numbered_both g n m [] ys [] es e h k = subst (λ i. AreNumbered g i ys es) (let same : m ≡ n = omega arith in same) k
numbered_both g n m [] ys (d ∷ ds) es e h k = absurd h
numbered_both g n m (x ∷ xs) ys [] es e h k = absurd h
numbered_both g n m (x ∷ xs) ys (d ∷ ds) es e h k = (h.0, h.1, h.2, numbered_both g (suc n) m xs ys ds es (omega arith) h.3 k)

module _ (b : Beside) (p : Program) (g : ℕ) (f : Function) (slot : Shape → ℕ → ℕ) where
  abbrev c : Core
  c = lowered b p

  abbrev here : CoreFunction
  here = lowered_function b p g f

  -- the first choice of each point has the number that the table says
  abbrev pub IsRight : ℕ → Origin → Type 0
  IsRight n Branch = Unit {0}
  IsRight n (Choice site phase zero) = first_number c site phase ≡ n
  IsRight n (Choice site phase (suc k)) = Unit {0}

  abbrev pub AreRight : ℕ → List DecisionAt → Type 0
  AreRight n [] = Unit {0}
  AreRight n (d ∷ ds) = IsRight n d.origin × AreRight (suc n) ds

  right_left : (n : ℕ) (ds es : List DecisionAt) → AreRight n (ds ++ es) → AreRight n ds
  right_left n [] es h = tt
  right_left n (d ∷ ds) es h = (h.0, right_left (suc n) ds es h.1)

  right_right : (n m : ℕ) (ds es : List DecisionAt) → m ≡ n + length ds → AreRight n (ds ++ es) → AreRight m es
  right_right n m [] es e h = subst (λ i. AreRight i es) (let same : n ≡ m = omega arith in same) h
  right_right n m (d ∷ ds) es e h = right_right (suc n) m ds es (omega arith) h.1

  -- what is due is kept from a number on
  pub record Numbered (n : ℕ) (xs : List Due) (ds : List DecisionAt) : Type 0 where
    pub is : AreRight n ds → AreNumbered g n xs ds

  and_then : {n m : ℕ} {xs ys : List Due} {ds es : List DecisionAt} → Numbered n xs ds → IsNext n ds m → Numbered m ys es → Numbered n (xs ++ ys) (ds ++ es)
  and_then {n} {m} {xs} {ys} {ds} {es} h next k =
      record { is = λ right. numbered_both g n m xs ys ds es next.is (h.is (right_left n ds es right)) (k.is (right_right n m ds es next.is right)) }

  choices_numbered : (site : Site) (phase : Phase) (k m : ℕ) (xs : List ChoiceOf) → site.function ≡ g → m ≡ first_number c site phase + k → AreNumbered g m (choices_due c site phase k xs) (choices_at site phase k (map (λ x. x.place) xs))
  choices_numbered site phase k m [] own e = tt
  choices_numbered site phase k m (x ∷ xs) own e = (
    ap (λ (h : ℕ). let d : Decision = record { function = h; number = first_number c site phase + k } in d) own ∙ ap (λ (n : ℕ). let d : Decision = record { function = g; number = n } in d) (sym e),
    refl,
    refl,
    choices_numbered site phase (suc k) (suc m) xs own (omega arith),
  )

  point_numbered : (n : ℕ) (site : Site) (phase : Phase) (xs : List ChoiceOf) → site.function ≡ g → Numbered n (choices_due c site phase 0 xs) (choices_at site phase 0 (map (λ x. x.place) xs))
  point_numbered n site phase [] own = record { is = λ right. tt }
  point_numbered n site phase (x ∷ xs) own = record { is = λ right. (let first : first_number c site phase ≡ n = right.0 in choices_numbered site phase 0 n (x ∷ xs) own (omega arith)) }

  formula_numbered : (n : ℕ) (site : Site) (phase : Phase) (formula : Formula) → site.function ≡ g → Numbered n (formula_due c site phase formula) (formula_decisions site phase formula)
  formula_numbered n site phase formula own = point_numbered n site phase (choices formula.parts) own

  note_numbered : (n : ℕ) (site : Site) (k : NoteKind) (formula : Formula) → site.function ≡ g → Numbered n (note_due c k formula site) (note_decisions p site k formula)
  note_numbered n site assert_note formula own = formula_numbered n site Consume formula own
  note_numbered n site fold_note formula own = point_numbered n site Consume (choices (instance_body p.predicates formula.parts)) own
  note_numbered n site unfold_note formula own = point_numbered n site Produce (choices (instance_body p.predicates formula.parts)) own

  callee_numbered : (n h : ℕ) (site : Site) (o : Option Function) → site.function ≡ g →
      Numbered n (formula_due c site Consume (before_of (option_map (lowered_function b p h) o)) ++ formula_due c site Produce (after_of (option_map (lowered_function b p h) o))) (call_decisions site o)
  callee_numbered n h site None own = record { is = λ right. tt }
  callee_numbered n h site (Some callee) own =
      and_then (formula_numbered n site Consume callee.before own) (formula_next n site Consume callee.before) (formula_numbered (n + choices_in callee.before) site Produce callee.after own)

  call_numbered : (n h : ℕ) (site : Site) → site.function ≡ g →
      Numbered n (formula_due c site Consume (before_of (slice_get c.functions h)) ++ formula_due c site Produce (after_of (slice_get c.functions h))) (call_decisions site (slice_get p.functions h))
  call_numbered n h site own =
      subst (λ o. Numbered n (formula_due c site Consume (before_of o) ++ formula_due c site Produce (after_of o)) (call_decisions site (slice_get p.functions h))) (sym (function_at b p h))
      (callee_numbered n h site (slice_get p.functions h) own)

  branch_numbered : {n : ℕ} {xs : List Due} {ds : List DecisionAt} (place : Place) → Numbered (n + 1) xs ds → Numbered n (branch_due (record { function = g; number = n }) ++ xs) (branch place ++ ds)
  branch_numbered {n} {xs} {ds} place h = record {
    is = λ right. (
      refl,
      refl,
      tt,
      subst (λ i. AreNumbered g i xs ds) (let same : n + 1 ≡ suc n = omega arith in same) (h.is (subst (λ i. AreRight i ds) (let same : suc n ≡ n + 1 = omega arith in same) right.1)),
    );
  }

  -- ---- code
  record Kept (n : ℕ) (a : Code) (ds : List DecisionAt) : Type 0 where
    is : Numbered n (code_due c here a) ds

  due_join : (x y : Code) → code_due c here (join x y) ≡ code_due c here x ++ code_due c here y
  due_join no_code y = refl
  due_join (code_and s x) y = ap (λ l. stmt_due c here s ++ l) (due_join x y) ∙ sym (append_assoc (stmt_due c here s) (code_due c here x) (code_due c here y))

  both : {n m : ℕ} {x y : Code} {ds es : List DecisionAt} → Kept n x ds → IsNext n ds m → Kept m y es → Kept n (join x y) (ds ++ es)
  both {n} {m} {x} {y} {ds} {es} h next k = record { is = subst (λ l. Numbered n l (ds ++ es)) (sym (due_join x y)) (and_then h.is next k.is) }

  before : {n : ℕ} {x : Code} {ds : List DecisionAt} (y : Code) → Kept n x ds → code_due c here y ≡ [] → Kept n (join x y) ds
  before {n} {x} {ds} y h none = record { is = subst (λ l. Numbered n l ds) (sym (append-nil (code_due c here x)) ∙ ap (λ l. code_due c here x ++ l) (sym none) ∙ sym (due_join x y)) h.is }

  after : {n : ℕ} {y : Code} {ds : List DecisionAt} (x : Code) → code_due c here x ≡ [] → Kept n y ds → Kept n (join x y) ds
  after {n} {y} {ds} x none h = record { is = subst (λ l. Numbered n l ds) (ap (λ l. l ++ code_due c here y) (sym none) ∙ sym (due_join x y)) h.is }

  stepped : {n : ℕ} {x : Code} {ds : List DecisionAt} → Kept n x ds → Kept n (code_and do_step x) ds
  stepped h = record { is = h.is }

  -- one statement
  alone : {n : ℕ} {ds : List DecisionAt} (s : CoreStmt) → Numbered n (stmt_due c here s) ds → Kept n (one s) ds
  alone {n} {ds} s h = record { is = subst (λ l. Numbered n l ds) (sym (append-nil (stmt_due c here s))) h }

  quiet : (n : ℕ) (x : Code) → code_due c here x ≡ [] → Kept n x []
  quiet n x none = record { is = subst (λ l. Numbered n l []) (sym none) (record { is = λ right. tt }) }

  branches : {n m : ℕ} {these those : Code} {ds es : List DecisionAt} (v : Simple) (place : Place) → Kept (n + 1) these ds → IsNext (n + 1) ds m → Kept m those es →
      Kept n (one (do_if (record { function = g; number = n }) v these those)) (branch place ++ (ds ++ es))
  branches {n} {m} {these} {those} {ds} {es} v place h next k = alone _ (branch_numbered place (and_then h.is next k.is))

  -- a branch with decisions on one side alone
  these_alone : {n : ℕ} {these : Code} {ds : List DecisionAt} (v : Simple) (those : Code) (place : Place) → Kept (n + 1) these ds → code_due c here those ≡ [] →
      Kept n (one (do_if (record { function = g; number = n }) v these those)) (branch place ++ ds)
  these_alone {n} {these} {ds} v those place h none =
      alone _ (branch_numbered place (subst (λ l. Numbered (n + 1) l ds) (sym (append-nil (code_due c here these)) ∙ ap (λ l. code_due c here these ++ l) (sym none)) h.is))

  operator_quiet : (to : ℕ) (o : ExprOp) (site : Site) (x y : Simple) → code_due c here (operator_code to o site x y) ≡ []
  operator_quiet to op.Add site x y = refl
  operator_quiet to op.Sub site x y = refl
  operator_quiet to op.Mul site x y = refl
  operator_quiet to op.Div site x y = refl
  operator_quiet to op.Rem site x y = refl
  operator_quiet to op.Shl site x y = refl
  operator_quiet to op.Shr site x y = refl
  operator_quiet to op.And site x y = refl
  operator_quiet to op.Or site x y = refl
  operator_quiet to op.Xor site x y = refl
  operator_quiet to op.Less site x y = refl
  operator_quiet to op.LessEq site x y = refl
  operator_quiet to op.Greater site x y = refl
  operator_quiet to op.GreaterEq site x y = refl
  operator_quiet to op.Equal site x y = refl
  operator_quiet to op.NotEqual site x y = refl

  argument_quiet : (t : Bool) (to : ℕ) (v : Simple) → code_due c here (argument_code t to v) ≡ []
  argument_quiet true to v = refl
  argument_quiet false to v = refl

  abbrev w : Target
  w = record { function = g; at = sites_of g f; slot = slot }

  module _ (r : Room) where
    mutual
      tree_kept : (k : Counts) (e : Tree) → Kept k.next (tree_code p r w k e) (tree_decisions p (sites_of g f) e)
      tree_kept k (number_at at n) = quiet k.next no_code refl
      tree_kept k (truth_at at t) = quiet k.next no_code refl
      tree_kept k (null_at at) = quiet k.next no_code refl
      tree_kept k (local_at at i) = quiet k.next no_code refl
      tree_kept k (result_at at) = quiet k.next no_code refl
      tree_kept k (unary_at at o x) = before _ (tree_kept k x) refl
      tree_kept k (binary_at at o x y) =
          both (tree_kept k x) (tree_next p r (sites_of g f) k x) (before _ (tree_kept (counted p r k x) y) (operator_quiet _ o (sites_of g f kind.Trap at) _ _))
      tree_kept k (both_at at x y) =
          both (tree_kept k x) (tree_next p r (sites_of g f) k x) (these_alone _ _ at (before _ (tree_kept (decided 1 (counted p r k x)) y) refl) refl)
      tree_kept k (either_at at x y) =
          let k1 : Counts = counted p r k x in
          both (tree_kept k x) (tree_next p r (sites_of g f) k x)
          (branches _ at (quiet (k1.next + 1) _ refl) (at_once (k1.next + 1)) (before _ (tree_kept (decided 1 k1) y) refl))
      tree_kept k (choose_at at z x y) =
          let k1 : Counts = decided 1 (counted p r k z) in
          both (tree_kept k z) (tree_next p r (sites_of g f) k z)
          (branches _ at (before _ (tree_kept k1 x) refl) (tree_next p r (sites_of g f) k1 x) (before _ (tree_kept (counted p r k1 x) y) refl))
      tree_kept k (read_at at x s field) = before _ (tree_kept k x) refl
      tree_kept k (call_at at h es) =
          both (args_kept k es) (args_next p r (sites_of g f) k es) (stepped (alone _ (call_numbered (args_counted p r k es).next h (sites_of g f kind.Requires at) refl)))
      tree_kept k (library_at at l es t) = before _ (first_kept k es) refl
      tree_kept k (alloc_at at s) = quiet k.next _ refl

      args_kept : (k : Counts) (es : Trees) → Kept k.next (args_code p r w k es) (trees_decisions p (sites_of g f) es)
      args_kept k no_trees = quiet k.next no_code refl
      args_kept k (tree_and e es) =
          let k1 : Counts = counted p r k e in
          both (tree_kept k e) (constant_on p r (sites_of g f) k e)
          (after (argument_code (is_constant e) (temp w (tree_shape p r e) k1) (value_of p r w k e)) (argument_quiet (is_constant e) _ _) (args_kept (with_constant (is_constant e) (tree_shape p r e) k1) es))

      first_kept : (k : Counts) (es : Trees) → Kept k.next (first_code p r w k es) (first_decisions p (sites_of g f) es)
      first_kept k no_trees = quiet k.next no_code refl
      first_kept k (tree_and e es) = tree_kept k e

    declare_kept : (k : Counts) (i : ℕ) (es : Trees) → Kept k.next (declare_code p r w k i es) (first_decisions p (sites_of g f) es)
    declare_kept k i no_trees = quiet k.next no_code refl
    declare_kept k i (tree_and e es) = before _ (tree_kept k e) refl

    assign_kept : (k : Counts) (i : ℕ) (o : Option ExprOp) (op_at : Place) (e : Tree) → Kept k.next (assign_code p r w k i o op_at e) (tree_decisions p (sites_of g f) e)
    assign_kept k i None op_at e = before _ (tree_kept k e) refl
    assign_kept k i (Some o) op_at e = before _ (tree_kept k e) (operator_quiet i o (sites_of g f kind.Trap op_at) _ _)

    write_kept : (k : Counts) (base : Tree) (s field : ℕ) (arrow : Place) (o : Option ExprOp) (op_at : Place) (e : Tree) →
        Kept k.next (write_code p r w k base s field arrow o op_at e) (tree_decisions p (sites_of g f) base ++ tree_decisions p (sites_of g f) e)
    write_kept k base s field arrow None op_at e =
        both (tree_kept k base) (tree_next p r (sites_of g f) k base) (before _ (tree_kept (counted p r k base) e) refl)
    write_kept k base s field arrow (Some o) op_at e =
        let to : ℕ = temp w Int (counted p r k base) in
        let k1 : Counts = with_temp Int (counted p r k base) in
        let operator : Code = operator_code to o (sites_of g f kind.Trap op_at) (simple.Local to) (value_of p r w k1 e) in
        let store : Code = one (do_store (value_of p r w k base) s field (simple.Local to) (second (sites_of g f kind.Access arrow))) in
        both (tree_kept k base) (tree_next p r (sites_of g f) k base)
        (after (one (do_load to (value_of p r w k base) s field (sites_of g f kind.Access arrow))) refl
        (before (join operator store) (tree_kept k1 e) (due_join operator store ∙ ap (λ l. l ++ []) (operator_quiet to o _ _ _))))

    loop_kept : {body : Code} {ds : List DecisionAt} {m : ℕ} (n : ℕ) (place : Place) (inv : Formula) (e : Tree) →
        Kept ((counted p r (fresh (headed n inv)) e).next + 1) body ds → IsNext ((counted p r (fresh (headed n inv)) e).next + 1) ds m → Kept n (loop_code p r w n place inv e body) (loop_decisions p (sites_of g f) place inv e ds)
    loop_kept {body} {ds} {m} n place inv e h next =
        stepped (alone _
        (and_then (formula_numbered n (sites_of g f kind.Entry place) Consume inv refl) (formula_next n (sites_of g f kind.Entry place) Consume inv)
        (and_then (formula_numbered (n + choices_in inv) (sites_of g f kind.Entry place) Produce inv refl) (formula_next (n + choices_in inv) (sites_of g f kind.Entry place) Produce inv)
        (and_then (tree_kept (fresh (headed n inv)) e).is (tree_next p r (sites_of g f) (fresh (headed n inv)) e)
        (branch_numbered place (and_then h.is next (formula_numbered m (sites_of g f kind.Again place) Consume inv refl)))))))

  abbrev room : Room
  room = room_of f

  mutual
    stmt_kept : (n : ℕ) (s : Stmt) → Kept n (stmt_code p f w n s) (stmt_decisions p f (sites_of g f) s)
    stmt_kept n (declare_at at i es) = stepped (declare_kept room (fresh n) i es)
    stmt_kept n (assign_at at i o op_at e) = stepped (assign_kept room (fresh n) i o op_at e)
    stmt_kept n (write_at at base k field arrow o op_at e) = stepped (write_kept room (fresh n) base k field arrow o op_at e)
    stmt_kept n (plain_at at e) = stepped (tree_kept room (fresh n) e)
    stmt_kept n (block_at at ss) = stmts_kept n ss
    stmt_kept n (if_at at e x y) =
        let n1 : ℕ = (counted p room (fresh n) e).next + 1 in
        stepped (both (tree_kept room (fresh n) e) (tree_next p room (sites_of g f) (fresh n) e) (branches _ at (stmt_kept n1 x) (stmt_behind p f (sites_of g f) n1 x) (stmts_kept (stmt_next p f n1 x) y)))
    stmt_kept n (while_at at inv e x) =
        let n1 : ℕ = (counted p room (fresh (headed n inv)) e).next + 1 in
        loop_kept room n at inv e (stmt_kept n1 x) (stmt_behind p f (sites_of g f) n1 x)
    stmt_kept n (for_at at first e last inv x) =
        let n1 : ℕ = stmts_next p f n first in
        let n2 : ℕ = (counted p room (fresh (headed n1 inv)) e).next + 1 in
        let n3 : ℕ = stmt_next p f n2 x in
        both (stmts_kept n first) (stmts_behind p f (sites_of g f) n first)
        (loop_kept room n1 at inv e (both (stmt_kept n2 x) (stmt_behind p f (sites_of g f) n2 x) (stmts_kept n3 last)) (behind (stmt_behind p f (sites_of g f) n2 x) (stmts_behind p f (sites_of g f) n3 last)))
    stmt_kept n (return_at at es) =
        stepped (both (first_kept room (fresh n) es) (first_next p room (sites_of g f) (fresh n) es)
        (alone _ (formula_numbered (first_counted p room (fresh n) es).next (sites_of g f kind.Ensures at) Consume f.after refl)))
    stmt_kept n (assert_at at e) = stepped (before _ (tree_kept room (fresh n) e) refl)
    stmt_kept n (raise_at at t) = quiet n _ refl
    stmt_kept n (note_at at k formula) = alone _ (note_numbered n (sites_of g f (note_kind k) at) k formula refl)

    stmts_kept : (n : ℕ) (ss : Stmts) → Kept n (stmts_code p f w n ss) (stmts_decisions p f (sites_of g f) ss)
    stmts_kept n no_stmts = quiet n no_code refl
    stmts_kept n (stmt_and s ss) = both (stmt_kept n s) (stmt_behind p f (sites_of g f) n s) (stmts_kept (stmt_next p f n s) ss)

  close_kept : (n : ℕ) (o : Option Shape) → Kept n (close_code w f o) (close_decisions g f o)
  close_kept n None = alone _ (formula_numbered n (sites_of g f kind.Ensures f.close) Consume f.after refl)
  close_kept n (Some s) = quiet n no_code refl

  pub code_kept : (o : Option Shape) → let n : ℕ = start_choices p g f in Numbered n (code_due c here (join (stmts_code p f w n f.body) (close_code w f o))) (stmts_decisions p f (sites_of g f) f.body ++ close_decisions g f o)
  code_kept o =
      let n : ℕ = start_choices p g f in
      (both (stmts_kept n f.body) (stmts_behind p f (sites_of g f) n f.body) (close_kept (stmts_next p f n f.body) o)).is

  if_numbered : (t : Bool) → Numbered 0 (if t then formula_due c (start_at g) Consume f.before else []) (if t then formula_decisions (start_at g) Consume f.before else [])
  if_numbered true = formula_numbered 0 (start_at g) Consume f.before refl
  if_numbered false = record { is = λ right. tt }

  pub start_kept : Numbered 0 (start_due c g here) (start_decisions p g f)
  start_kept =
      and_then (if_numbered (eqb g p.main)) (consumed_next p g f) (formula_numbered (if eqb g p.main then choices_in f.before else 0) (start_at g) Produce f.before refl)

  pub with_start : {ys : List Due} {es : List DecisionAt} → Numbered (start_choices p g f) ys es → Numbered 0 (start_due c g here ++ ys) (start_decisions p g f ++ es)
  with_start h = and_then start_kept (start_next p g f) h

-- the decisions of a function are numbered where each point's first choice has the number that the table says
pub function_numbered : (b : Beside) (p : Program) (g : ℕ) (f : Function) → AreRight b p g f (target p g f).slot 0 (decisions_of p g f) → AreNumbered g 0 (function_due (lowered b p) g (lowered_function b p g f)) (decisions_of p g f)
function_numbered b p g f right = (with_start b p g f (target p g f).slot (code_kept b p g f (target p g f).slot f.result)).is right
