-- Statements with parts, from what each of their pieces writes.
use Rattle.std.proofs.Common.{◌≡◌, ℕ, ◌+◌, List, [], ◌++◌, length, refl, sym, ap, subst, ◌∙◌, append_assoc, append-nil}
use Rattle.gc0_base.specs.declared.place.Place.{Place}
use Rattle.gc0_base.specs.declared.site.Decision.{Decision}
use Rattle.gc0_base.specs.declared.site.Kind.TheVariants as kind
use Rattle.gc0_tree.specs.Tree.{Tree, Formula, Stmt, Stmts, no_stmts, stmt_and, if_at, while_at, for_at}
use Rattle.core_tree.specs.declared.CoreStmt as made
use Rattle.core_tree.specs.declared.Simple.{Simple}
use Rattle.core_tree.specs.declared.DecisionAt.{DecisionAt}
use Rattle.core_tree.specs.declared.Phase.TheVariants.{Produce, Consume}
use Rattle.core_tree.specs.CoreTree.{Code, no_code, code_and, do_step, do_if, do_loop}
use Rattle.core_tree.specs.CoreViews.{code_view}
use Rattle.core_tables.specs.declared.PlacedSite.{PlacedSite}
use Rattle.core_tables.specs.SiteTables.{choices_at}
use Rattle.core_meaning.specs.Choices.{choices}
use Rattle.lowering_laws.specs.Counts.{Counts, fresh, counted, choices_in}
use Rattle.lowering_laws.specs.Trees.{join, one, tree_code, value_of, decision}
use Rattle.lowering_laws.specs.Statements.{headed, stmt_next, stmts_next, stmt_code, stmts_code, loop_code}
use Rattle.lowering_laws.specs.Tables.{branch, formula_decisions, tree_decisions, stmt_decisions, stmts_decisions, loop_decisions, placed, tree_placed, stmt_placed, stmts_placed, loop_placed}
use Rattle.core_expressions.specs.declared.within.Within.{Within}
use Rattle.core_expressions.specs.declared.written.Written.{Written}
use Rattle.core_expressions.specs.Writing.{program_of, function_of, places_of, room_in, target_of}
use Rattle.core_lower.specs.declared.loops.Test.{Test}
use Rattle.core_lower.specs.declared.loops.Head.{Head}
use Rattle.core_lower.specs.Parts.{AreWritten, IsStmt, AreStmts}
use Rattle.core_lower.specs.Heads.{IsTest, IsHead}
use Rattle.core_lower.proofs.Choosing.{length_map}
use Rattle.core_lower.proofs.Joining.{join_assoc, join_none, joined, same, nested}

-- ---- statements one after another
-- what is written, and what is left to write
pub record Ahead (w : Within) (a b : Written) (rest all : Stmts) : Type 0 where
  pub next : stmts_next (program_of w) (function_of w) (length b.decisions) rest ≡ stmts_next (program_of w) (function_of w) (length a.decisions) all
  pub code : join (code_view b.code) (stmts_code (program_of w) (function_of w) (target_of w) (length b.decisions) rest) ≡ join (code_view a.code) (stmts_code (program_of w) (function_of w) (target_of w) (length a.decisions) all)
  pub decisions : b.decisions ++ stmts_decisions (program_of w) (function_of w) (places_of w) rest ≡ a.decisions ++ stmts_decisions (program_of w) (function_of w) (places_of w) all
  pub placed : b.placed ++ stmts_placed (places_of w) rest ≡ a.placed ++ stmts_placed (places_of w) all

module _ (w : Within) where
  pub at_first : (a : Written) (all : Stmts) → Ahead w a a all all
  at_first a all = record { next = refl; code = refl; decisions = refl; placed = refl }

  pub one_more : (a b d : Written) (s : Stmt) (rest all : Stmts) → Ahead w a b (stmt_and s rest) all → IsStmt w b d s → Ahead w a d rest all
  one_more a b d s rest all h v =
      let p = program_of w in
      let f = function_of w in
      let cb : Code = code_view b.code in
      let sc : Code = stmt_code p f (target_of w) (length b.decisions) s in
      let more : ℕ → Code = λ n. stmts_code p f (target_of w) n rest in
      record {
        next = ap (λ n. stmts_next p f n rest) v.next ∙ h.next;
        code = ap (λ x. join x (more (length d.decisions))) v.code ∙ ap (λ n. join (join cb sc) (more n)) v.next ∙ join_assoc cb sc (more (stmt_next p f (length b.decisions) s)) ∙ h.code;
        decisions = ap (λ x. x ++ stmts_decisions p f (places_of w) rest) v.decisions ∙ append_assoc b.decisions (stmt_decisions p f (places_of w) s) (stmts_decisions p f (places_of w) rest) ∙ h.decisions;
        placed = ap (λ x. x ++ stmts_placed (places_of w) rest) v.placed ∙ append_assoc b.placed (stmt_placed (places_of w) s) (stmts_placed (places_of w) rest) ∙ h.placed;
      }

  pub at_last : (a b : Written) (all : Stmts) → Ahead w a b no_stmts all → AreStmts w a b all
  at_last a b all h = record { next = h.next; code = sym (join_none (code_view b.code)) ∙ h.code; decisions = sym (append-nil b.decisions) ∙ h.decisions; placed = sym (append-nil b.placed) ∙ h.placed }

  pub none : (a : Written) → AreStmts w a a no_stmts
  none a = record { next = refl; code = sym (join_none (code_view a.code)); decisions = sym (append-nil a.decisions); placed = sym (append-nil a.placed) }

  pub alone : (a b : Written) (s : Stmt) → IsStmt w a b s → AreStmts w a b (stmt_and s no_stmts)
  alone a b s v =
      same refl (sym (join_none (stmt_code (program_of w) (function_of w) (target_of w) (length a.decisions) s))) (sym (append-nil (stmt_decisions (program_of w) (function_of w) (places_of w) s))) (sym (append-nil (stmt_placed (places_of w) s))) v

  -- ---- a branch
  pub if_done : (o o1 o2 o3 o4 : Written) (test : Test) (these those : List made.CoreStmt) (place : Place) (e : Tree) (a : Stmt) (b : Stmts) →
      IsTest w (fresh (length o.decisions)) e test →
      AreWritten o o1 ((counted (program_of w) (room_in w) (fresh (length o.decisions)) e).next + 1) (code_and do_step (tree_code (program_of w) (room_in w) (target_of w) (fresh (length o.decisions)) e)) (tree_decisions (program_of w) (places_of w) e ++ branch place) (tree_placed (places_of w) e) →
      code_view these ≡ stmt_code (program_of w) (function_of w) (target_of w) (length o1.decisions) a →
      AreWritten o1 o2 (stmt_next (program_of w) (function_of w) (length o1.decisions) a) no_code (stmt_decisions (program_of w) (function_of w) (places_of w) a) (stmt_placed (places_of w) a) →
      code_view those ≡ stmts_code (program_of w) (function_of w) (target_of w) (length o2.decisions) b →
      AreWritten o2 o3 (stmts_next (program_of w) (function_of w) (length o2.decisions) b) no_code (stmts_decisions (program_of w) (function_of w) (places_of w) b) (stmts_placed (places_of w) b) →
      AreWritten o3 o4 (length o3.decisions) (one (do_if test.decision test.value (code_view these) (code_view those))) [] [] →
      IsStmt w o o4 (if_at place e a b)
  if_done o o1 o2 o3 o4 test these those place e a b t v1 c1 v2 c2 v3 v4 =
      let p = program_of w in
      let f = function_of w in
      let k : Counts = fresh (length o.decisions) in
      let n1 : ℕ = (counted p (room_in w) k e).next + 1 in
      let n2 : ℕ = stmt_next p f n1 a in
      let e1 : length o1.decisions ≡ n1 = v1.next in
      let e2 : length o2.decisions ≡ n2 = v2.next ∙ ap (λ n. stmt_next p f n a) e1 in
      let e3 : length o3.decisions ≡ stmts_next p f n2 b = v3.next ∙ ap (λ n. stmts_next p f n b) e2 in
      let yes : Code = stmt_code p f (target_of w) n1 a in
      let no : Code = stmts_code p f (target_of w) n2 b in
      let tc : Code = tree_code p (room_in w) (target_of w) k e in
      let d : Decision = decision (target_of w) (counted p (room_in w) k e) in
      let v : Simple = value_of p (room_in w) (target_of w) k e in
      let chosen : Decision → Simple → Code → Code → Code = λ x y z u. code_and do_step (join tc (one (do_if x y z u))) in
      let td = tree_decisions p (places_of w) e in
      let da = stmt_decisions p f (places_of w) a in
      let db = stmts_decisions p f (places_of w) b in
      let tp = tree_placed (places_of w) e in
      let pa = stmt_placed (places_of w) a in
      let pb = stmts_placed (places_of w) b in
      same e3
      (ap (λ x. chosen x test.value (code_view these) (code_view those)) t.decision ∙ ap (λ y. chosen d y (code_view these) (code_view those)) t.value
      ∙ ap (λ z. chosen d v z (code_view those)) (c1 ∙ ap (λ n. stmt_code p f (target_of w) n a) e1) ∙ ap (λ u. chosen d v yes u) (c2 ∙ ap (λ n. stmts_code p f (target_of w) n b) e2))
      (append_assoc td (branch place) (da ++ (db ++ [])) ∙ ap (λ x. td ++ (branch place ++ (da ++ x))) (append-nil db))
      (ap (λ x. tp ++ (pa ++ x)) (append-nil pb))
      (joined v1 (joined v2 (joined v3 v4)))

  -- ---- a loop
  order : (a b t r x : List DecisionAt) → ((a ++ b) ++ (t ++ r)) ++ x ≡ a ++ (b ++ (t ++ (r ++ x)))
  order a b t r x = append_assoc (a ++ b) (t ++ r) x ∙ append_assoc a b ((t ++ r) ++ x) ∙ ap (λ y. a ++ (b ++ y)) (append_assoc t r x)

  pub loop_done : (o o1 o2 o3 : Written) (h : Head) (turn : List made.CoreStmt) (place : Place) (inv : Formula) (e : Tree) (n : ℕ) (body : Code) (ds : List DecisionAt) (ps : List PlacedSite) →
      IsHead w (length o.decisions) inv e h →
      AreWritten o o1 ((counted (program_of w) (room_in w) (fresh (headed (length o.decisions) inv)) e).next + 1) (one do_step)
      ((formula_decisions (places_of w kind.Entry place) Consume inv ++ formula_decisions (places_of w kind.Entry place) Produce inv) ++ (tree_decisions (program_of w) (places_of w) e ++ branch place))
      ((placed (places_of w kind.Entry place) place ++ placed (places_of w kind.Again place) place) ++ tree_placed (places_of w) e) →
      AreWritten o1 o2 n no_code ds ps →
      code_view turn ≡ body →
      AreWritten o2 o3 (length o2.decisions + length h.places) (one (do_loop (places_of w kind.Entry place) (places_of w kind.Again place) inv h.test.truth.decision (code_view h.test.code) h.test.truth.value (code_view turn))) (choices_at (places_of w kind.Again place) Consume 0 h.places) [] →
      AreWritten o o3 (n + choices_in inv) (loop_code (program_of w) (room_in w) (target_of w) (length o.decisions) place inv e body) (loop_decisions (program_of w) (places_of w) place inv e ds) (loop_placed (places_of w) place e ps)
  loop_done o o1 o2 o3 h turn place inv e n body ds ps head v1 v2 cb v3 =
      let p = program_of w in
      let k : Counts = fresh (headed (length o.decisions) inv) in
      let entry = places_of w kind.Entry place in
      let again = places_of w kind.Again place in
      let truth = head.test.truth in
      let d : Decision = decision (target_of w) (counted p (room_in w) k e) in
      let v : Simple = value_of p (room_in w) (target_of w) k e in
      let test : Code = code_and do_step (tree_code p (room_in w) (target_of w) k e) in
      let loop : Decision → Code → Simple → Code → Code = λ x y z u. code_and do_step (one (do_loop entry again inv x y z u)) in
      let A = formula_decisions entry Consume inv in
      let B = formula_decisions entry Produce inv in
      let T = tree_decisions p (places_of w) e in
      let R = branch place in
      let shown : List Place → List DecisionAt = λ l. choices_at again Consume 0 l in
      same (ap (λ m. m + length h.places) v2.next ∙ ap (λ m. n + m) (ap (λ (l : List Place). length l) head.places ∙ length_map (λ x. x.place) (choices inv.parts)))
      (ap (λ x. loop x (code_view h.test.code) h.test.truth.value (code_view turn)) truth.decision ∙ ap (λ y. loop d y h.test.truth.value (code_view turn)) head.test.code
      ∙ ap (λ z. loop d test z (code_view turn)) truth.value ∙ ap (λ u. loop d test v u) cb)
      (order A B T R (ds ++ shown h.places) ∙ ap (λ l. A ++ (B ++ (T ++ (R ++ (ds ++ shown l))))) head.places)
      (ap (λ x. placed entry place ++ (placed again place ++ (tree_placed (places_of w) e ++ x))) (append-nil ps))
      (joined v1 (joined v2 v3))

  pub while_done : (o o1 o2 o3 : Written) (h : Head) (turn : List made.CoreStmt) (place : Place) (inv : Formula) (e : Tree) (a : Stmt) →
      IsHead w (length o.decisions) inv e h →
      AreWritten o o1 ((counted (program_of w) (room_in w) (fresh (headed (length o.decisions) inv)) e).next + 1) (one do_step)
      ((formula_decisions (places_of w kind.Entry place) Consume inv ++ formula_decisions (places_of w kind.Entry place) Produce inv) ++ (tree_decisions (program_of w) (places_of w) e ++ branch place))
      ((placed (places_of w kind.Entry place) place ++ placed (places_of w kind.Again place) place) ++ tree_placed (places_of w) e) →
      code_view turn ≡ stmt_code (program_of w) (function_of w) (target_of w) (length o1.decisions) a →
      AreWritten o1 o2 (stmt_next (program_of w) (function_of w) (length o1.decisions) a) no_code (stmt_decisions (program_of w) (function_of w) (places_of w) a) (stmt_placed (places_of w) a) →
      AreWritten o2 o3 (length o2.decisions + length h.places) (one (do_loop (places_of w kind.Entry place) (places_of w kind.Again place) inv h.test.truth.decision (code_view h.test.code) h.test.truth.value (code_view turn))) (choices_at (places_of w kind.Again place) Consume 0 h.places) [] →
      IsStmt w o o3 (while_at place inv e a)
  while_done o o1 o2 o3 h turn place inv e a head v1 cb v2 v3 =
      let p = program_of w in
      let f = function_of w in
      let n1 : ℕ = (counted p (room_in w) (fresh (headed (length o.decisions) inv)) e).next + 1 in
      loop_done o o1 o2 o3 h turn place inv e (stmt_next p f n1 a) (stmt_code p f (target_of w) n1 a) (stmt_decisions p f (places_of w) a) (stmt_placed (places_of w) a) head v1
      (same (ap (λ n. stmt_next p f n a) v1.next) refl refl refl v2) (cb ∙ ap (λ n. stmt_code p f (target_of w) n a) v1.next) v3

  pub for_done : (o0 o o1 inside o2 o3 o4 o5 : Written) (h : Head) (turn outer : List made.CoreStmt) (place : Place) (first : Stmts) (e : Tree) (last : Stmts) (inv : Formula) (a : Stmt) →
      AreStmts w o0 o first →
      IsHead w (length o.decisions) inv e h →
      AreWritten o o1 ((counted (program_of w) (room_in w) (fresh (headed (length o.decisions) inv)) e).next + 1) (one do_step)
      ((formula_decisions (places_of w kind.Entry place) Consume inv ++ formula_decisions (places_of w kind.Entry place) Produce inv) ++ (tree_decisions (program_of w) (places_of w) e ++ branch place))
      ((placed (places_of w kind.Entry place) place ++ placed (places_of w kind.Again place) place) ++ tree_placed (places_of w) e) →
      outer ≡ o1.code → inside ≡ record o1 { code = [] } →
      IsStmt w inside o2 a → AreStmts w o2 o3 last →
      turn ≡ o3.code → o4 ≡ record o3 { code = outer } →
      AreWritten o4 o5 (length o4.decisions + length h.places) (one (do_loop (places_of w kind.Entry place) (places_of w kind.Again place) inv h.test.truth.decision (code_view h.test.code) h.test.truth.value (code_view turn))) (choices_at (places_of w kind.Again place) Consume 0 h.places) [] →
      IsStmt w o0 o5 (for_at place first e last inv a)
  for_done o0 o o1 inside o2 o3 o4 o5 h turn outer place first e last inv a vf head v1 eo ei va vl et e4 v3 =
      let p = program_of w in
      let f = function_of w in
      let t = target_of w in
      let r = room_in w in
      let n1 : ℕ = (counted p r (fresh (headed (length o.decisions) inv)) e).next + 1 in
      let va' : IsStmt w (record o1 { code = [] }) o2 a = subst (λ (x : Written). IsStmt w x o2 a) ei va in
      let e1 : length o1.decisions ≡ n1 = v1.next in
      let e2 : length o2.decisions ≡ stmt_next p f n1 a = va'.next ∙ ap (λ n. stmt_next p f n a) e1 in
      let body : Code = join (stmt_code p f t n1 a) (stmts_code p f t (stmt_next p f n1 a) last) in
      let ds = stmt_decisions p f (places_of w) a ++ stmts_decisions p f (places_of w) last in
      let ps = stmt_placed (places_of w) a ++ stmts_placed (places_of w) last in
      let n2 : ℕ = stmts_next p f (stmt_next p f n1 a) last in
      let both : AreWritten (record o1 { code = [] }) o3 n2 body ds ps =
      same (ap (λ n. stmts_next p f n last) e2) (ap (λ n. join (stmt_code p f t n a) (stmts_code p f t (length o2.decisions) last)) e1 ∙ ap (λ n. join (stmt_code p f t n1 a) (stmts_code p f t n last)) e2) refl refl
      (joined va' vl) in
      let loop = loop_done o o1 o4 o5 h turn place inv e n2 body ds ps head v1 (nested o1 o3 o4 outer n2 body ds ps both eo e4) (ap (λ (x : List made.CoreStmt). code_view x) et ∙ both.code) v3 in
      let test : ℕ → ℕ = λ m. (counted p r (fresh (headed m inv)) e).next + 1 in
      subst (λ (m : ℕ). AreWritten o0 o5 (stmts_next p f (stmt_next p f (test m) a) last + choices_in inv)
      (join (stmts_code p f t (length o0.decisions) first) (loop_code p r t m place inv e (join (stmt_code p f t (test m) a) (stmts_code p f t (stmt_next p f (test m) a) last))))
      (stmts_decisions p f (places_of w) first ++ loop_decisions p (places_of w) place inv e ds)
      (stmts_placed (places_of w) first ++ loop_placed (places_of w) place e ps)) vf.next
      (joined vf loop)
