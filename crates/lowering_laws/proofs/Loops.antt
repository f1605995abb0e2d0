-- The code of loops, and of statements one after another.
use Rattle.std.proofs.Common.{◌≡◌, ℕ, zero, suc, ◌+◌, ◌<◌, ◌≤◌, [], ◌∷◌, ◌++◌, length, max, refl, sym, subst, arith}
use Rattle.gc0_base.specs.declared.place.Place.{Place}
use Rattle.gc0_base.specs.declared.site.Site.{Site}
use Rattle.gc0_base.specs.declared.site.Decision.{Decision}
use Rattle.gc0_base.specs.declared.site.Kind.{Kind}
use Rattle.gc0_base.specs.declared.site.Kind.TheVariants as kind
use Rattle.gc0_tree.specs.declared.Shape.{Shape}
use Rattle.gc0_tree.specs.declared.Shape.TheVariants.{Bool as Truth}
use Rattle.gc0_tree.specs.Tree.{Tree, Formula, Stmt, declare_at, assign_at, write_at, plain_at, block_at, if_at, while_at, for_at, return_at, assert_at, raise_at, note_at, Stmts, no_stmts, stmt_and, Function, Program}
use Rattle.gc0_tree.specs.Fits.{Room, HasShape, StmtFits, StmtsFit}
use Rattle.c0_meaning.specs.Operators.{pick}
use Rattle.c0_meaning.specs.Heaps.{Cells}
use Rattle.c0_meaning.specs.Runs.{State, Run, go_on, chain, give, get, change, take_step}
use Rattle.c0_meaning.specs.Running as running
use Rattle.c0_meaning.specs.Running.{Calls, decide, eval, exec, exec_all, unless_back, joined, after_turn, turns, loop}
use Rattle.core_tree.specs.declared.Phase.TheVariants.{Produce}
use Rattle.core_tree.specs.declared.Simple.{Simple}
use Rattle.core_tree.specs.CoreTree.{do_step, do_if, do_loop, Code, code_and, CoreFunction, Core}
use Rattle.core_meaning.specs.CoreRuns as core
use Rattle.core_meaning.specs.CoreRuns.{Outcomes, Visit, CoreState}
use Rattle.core_meaning.specs.CoreRunning as cored
use Rattle.core_meaning.specs.CoreRunning.{Flow, On, Back, word_of, consume, mark, mark_over, locals_of, tested}
use Rattle.lowering_laws.specs.Counts.{Counts, fresh, counted}
use Rattle.lowering_laws.specs.Trees.{Target, join, one, value_of, decision, tree_code}
use Rattle.lowering_laws.specs.Statements.{room_of, headed, stmt_next, stmts_next, stmt_uses, stmts_use, loop_code, stmt_code, stmts_code}
use Rattle.lowering_laws.proofs.Agree.{More, beside, sites_in, Agree, agree_bind, agree_then, pick_agree, Fit, good_sites, good_counts}
use Rattle.lowering_laws.proofs.Counting.{Within}
use Rattle.lowering_laws.proofs.Codes.{consume_then, runs, nothing, join_is, step_code, branch_code}
use Rattle.lowering_laws.proofs.Values.{Slots, Has}
use Rattle.lowering_laws.proofs.Expressions.{IsCoreOf, Known, CallsAgree, step_fit, tree_agrees}
use Rattle.lowering_laws.proofs.Statements.{left_within, right_within, calls_less, Ran, Does, in_room_at, step_tree, declare_agrees, assign_agrees, write_agrees, plain_agrees, return_agrees, assert_agrees, raise_agrees, note_agrees}

module _ (p : Program) (c : Core) (is_core : IsCoreOf p c) (fn : Function) (f : CoreFunction) (w : Target) (all : ℕ) (room : Shape → ℕ) (slots : Slots p w (length f.locals) all room) (known : Known p (room_of fn) (length f.locals)) (go : Calls) (go' : cored.Calls) where
  abbrev m : ℕ
  m = length f.locals

  abbrev r : Room
  r = room_of fn

  ran_less : (most most' low low' : ℕ) (flow : running.Flow) (s : State) (fl : Flow) (e : More) → low ≤ most → low' ≤ most' → Ran p c is_core fn f w all room slots known go go' low low' flow s fl e → Ran p c is_core fn f w all room slots known go go' most most' flow s fl e
  ran_less most most' low low' flow s fl e le le' h =
      let a = h.1.few in let b = h.1.few' in (h.0, good_counts m all low low' most most' s.locals s.steps s.steps s.sites e.words e.turns e.turns e.visits h.1 h.1.turns (omega arith) (omega arith))

  -- ---- one after the other
  unless_agrees : (most most' : ℕ) (flow : running.Flow) (fl : Flow) (s : State) (e : More) (a : Run running.Flow) (b : core.Run Flow) → Ran p c is_core fn f w all room slots known go go' most most' flow s fl e → Agree (Ran p c is_core fn f w all room slots known go go' most most') (a s) (b (beside s e)) → Agree (Ran p c is_core fn f w all room slots known go go' most most') (unless_back flow a s) (cored.unless_back fl b (beside s e))
  unfolding give core.give
  unless_agrees most most' running.On On s e a b ran h = h
  unless_agrees most most' (running.Back place v) (Back site y) s e a b ran h = (refl, ran)
  unless_agrees most most' running.On (Back site y) s e a b ran h = absurd ran.0
  unless_agrees most most' (running.Back place v) On s e a b ran h = absurd ran.0

  join_does : (a b : Run running.Flow) (ac bc : Code) → Does p c is_core fn f w all room slots known go go' a (runs c f go' ac) → Does p c is_core fn f w all room slots known go go' b (runs c f go' bc) → Does p c is_core fn f w all room slots known go go' (chain a (λ flow. unless_back flow b)) (runs c f go' (join ac bc))
  unfolding chain
  join_does a b ac bc h k most most' calls s e fit =
      subst (λ q. Agree (Ran p c is_core fn f w all room slots known go go' most most') (go_on (a s) (λ flow. unless_back flow b)) q) (sym (join_is c f go' ac bc (beside s e)))
      (agree_bind (Ran p c is_core fn f w all room slots known go go' most most') (Ran p c is_core fn f w all room slots known go go' most most') (a s) (runs c f go' ac (beside s e)) (λ flow. unless_back flow b) (λ fl. cored.unless_back fl (runs c f go' bc)) (h most most' calls s e fit)
      (λ flow s1 fl e1 g. unless_agrees most most' flow fl s1 e1 b (runs c f go' bc) g (k most most' calls s1 e1 g.1)))

  -- ---- loops
  abbrev head : Place → Formula → Kind → Cells → Run Cells
  head place inv k outer = chain (get (λ s. s.locals)) (decide p (w.at k place) inv outer)

  abbrev core_head : Formula → Site → Cells → core.Run Cells
  core_head inv site outer = core.chain (core.get (locals_of f)) (consume c site inv outer)

  abbrev produced : Place → Formula → core.Run (Unit {0})
  produced place inv = core.chain (core.get (locals_of f)) (mark_over c (w.at kind.Entry place) Produce inv)

  abbrev core_test : Code → Decision → Simple → core.Run ℕ
  core_test code d v = core.chain (runs c f go' (code_and do_step code)) (λ _. tested d v)

  -- the turn and the step of a test
  test_by : (Q : running.Flow → State → Flow → More → Type 0) (n j : ℕ) (s : State) (e : More) (F : Run running.Flow) (code : Code) (d : Decision) (v : Simple) (P : ℕ → core.Run Flow) → n ≤ j → s.sites ≡ sites_in e.visits →
      ((n1 j1 : ℕ) → n ≡ suc n1 → j ≡ suc j1 → Agree Q (F record s { steps = n1 }) (core.go_on (core.go_on (runs c f go' code (beside (record s { steps = n1 }) (record e { turns = j1 }))) (λ _. tested d v)) P)) →
      Agree Q (go_on (take_step n s) (λ _. F)) (core.go_on (core.take_turn j (beside (record s { steps = n }) e)) (λ _ t. core.go_on (core_test code d v t) P))
  unfolding core.chain core.give
  test_by Q zero zero s e F code d v P le sites h = (refl, refl, sites)
  test_by Q zero (suc j) s e F code d v P le sites h = (refl, refl, sites)
  test_by Q (suc n) zero s e F code d v P le sites h = absurd (omega arith)
  test_by Q (suc n) (suc j) s e F code d v P le sites h = h n j refl refl

  after_agrees : (most most' : ℕ) (T : Cells → Run running.Flow) (T' : Cells → core.Run Flow) (outer : Cells) (flow : running.Flow) (fl : Flow) (s : State) (e : More) → Ran p c is_core fn f w all room slots known go go' most most' flow s fl e →
      Agree (Ran p c is_core fn f w all room slots known go go' most most') (T (outer ++ s.owned) s) (T' (outer ++ s.owned) (beside s e)) → Agree (Ran p c is_core fn f w all room slots known go go' most most') (after_turn T outer flow s) (cored.after_turn T' outer fl (beside s e))
  after_agrees most most' T T' outer running.On On s e ran h = h
  after_agrees most most' T T' outer (running.Back place v) (Back site y) s e ran h = (refl, ran)
  after_agrees most most' T T' outer running.On (Back site y) s e ran h = absurd ran.0
  after_agrees most most' T T' outer (running.Back place v) On s e ran h = absurd ran.0

  module _ (place : Place) (inv : Formula) (x : Tree) (has : HasShape p r x Truth) (in_room : Within (counted p r (fresh 0) x).used room) (cn : ℕ) (d : Decision) (body : Run running.Flow) (bodyc : Code) (does : Does p c is_core fn f w all room slots known go go' body (runs c f go' bodyc)) where
    turns_agree : (most most' : ℕ) → CallsAgree p go go' most most' → (k k' : ℕ) (kd : Kind) (outer : Cells) (s : State) (e : More) → Fit (length f.locals) all most most' s e → s.steps < k → e.turns < k' →
        Agree (Ran p c is_core fn f w all room slots known go go' most most') (turns k (head place inv) (eval p w.at go x) body kd outer s)
        (cored.turns k' (core_head inv) (produced place inv) (core_test (tree_code p r w (fresh cn) x) d (value_of p r w (fresh cn) x)) (runs c f go' bodyc) (w.at kind.Again place) (w.at kd place) outer (beside s e))
    unfolding chain give get change core.chain core.give core.get core.change mark
    turns_agree most most' calls zero k' kd outer s e fit lt lt' = absurd (omega arith)
    turns_agree most most' calls (suc k) zero kd outer s e fit lt lt' = absurd (omega arith)
    turns_agree most most' calls (suc k) (suc k') kd outer s e fit lt lt' =
        let site : Site = w.at kd place in
        let code : Code = tree_code p r w (fresh cn) x in
        let v : Simple = value_of p r w (fresh cn) x in
        let T : Cells → Run running.Flow = turns k (head place inv) (eval p w.at go x) body kind.Again in
        let T' : Cells → core.Run Flow = cored.turns k' (core_head inv) (produced place inv) (core_test code d v) (runs c f go' bodyc) (w.at kind.Again place) (w.at kind.Again place) in
        let K : ℕ → Run running.Flow = λ y. pick y (chain (change (joined outer)) (λ _. give running.On)) (chain body (after_turn T outer)) in
        let P : ℕ → core.Run Flow = λ y. pick y (core.chain (core.change (cored.joined outer)) (λ _. core.give On)) (core.chain (runs c f go' bodyc) (cored.after_turn T' outer)) in
        let F : Cells → Run running.Flow = λ start s1. go_on (take_step s1.steps record s1 { owned = start }) (λ _ s2. go_on (eval p w.at go x s2) K) in
        let G : Cells → core.Run Flow = λ start. core.chain (core.change (λ t. record t { owned = start })) (λ _. core.chain (produced place inv) (λ _. core.chain core.turn (λ _. core.chain (core_test code d v) P))) in
        subst (λ words. Agree (Ran p c is_core fn f w all room slots known go go' most most') (go_on (decide p site inv outer s.locals s) F) (core.go_on (consume c site inv outer words (beside s e)) G)) (sym fit.locals)
        (consume_then p c is_core.predicates (Ran p c is_core fn f w all room slots known go go' most most') site inv outer s.locals s e F G fit.sites (λ start os vs seen.
        let s1 : State = record s { sites = s.sites ++ site ∷ []; owned = start } in
        let e1 : More = record e { outcomes = _; visits = vs } in
        let turns1 = fit.turns in let few = fit.few in let few' = fit.few' in
        test_by (Ran p c is_core fn f w all room slots known go go' most most') s.steps e.turns s1 e1 (λ s2. go_on (eval p w.at go x s2) K) code d v P fit.turns seen (λ n j is_n is_j.
        let s2 : State = record s1 { steps = n } in
        let e2 : More = record e1 { turns = j } in
        let less : n ≤ j = omega arith in
        let calls1 : CallsAgree p go go' n j = calls_less p go go' most most' n j (omega arith) (omega arith) calls in
        let fit1 : Fit (length f.locals) all most most' s1 e1 = good_sites m all most most' s.locals s.steps s.sites s1.sites e.words e.turns e.visits vs fit seen in
        let fit2 : Fit (length f.locals) all n j s2 e2 = good_counts m all most most' n j s.locals s.steps n s1.sites e.words e.turns j vs fit1 less (omega arith) (omega arith) in
        let R : ℕ → State → Flow → More → Type 0 = Has p w (length f.locals) all n j room slots (fresh cn).used e.words v in
        let B : ℕ → State → ℕ → More → Type 0 = λ y s3 y' e3. (y ≡ y') × Fit (length f.locals) all n j s3 e3 in
        agree_bind B (Ran p c is_core fn f w all room slots known go go' most most') (eval p w.at go x s2) (core.go_on (runs c f go' code (beside s2 e2)) (λ _. tested d v)) K P
        (agree_then R B (eval p w.at go x s2) (runs c f go' code (beside s2 e2)) (λ _. tested d v)
        (tree_agrees p c is_core f r w (length f.locals) all room slots known go go' n j calls1 x (fresh cn) Truth has (in_room_at p c is_core fn f w all room slots known go go' n j calls1 x cn in_room) s2 e2 fit2)
        (λ y s3 fl e3 g. (refl, (sym g.3, g.1))))
        (λ y s3 y' e3 g. subst (λ y'. Agree (Ran p c is_core fn f w all room slots known go go' most most') (K y s3) (P y' (beside s3 e3))) g.0
        (pick_agree (Ran p c is_core fn f w all room slots known go go' most most') y (chain (change (joined outer)) (λ _. give running.On)) (chain body (after_turn T outer)) (core.chain (core.change (cored.joined outer)) (λ _. core.give On)) (core.chain (runs c f go' bodyc) (cored.after_turn T' outer)) s3 (beside s3 e3)
        (refl, ran_less most most' n j running.On s3 On e3 (omega arith) (omega arith) (tt, g.1))
        (agree_bind (Ran p c is_core fn f w all room slots known go go' n j) (Ran p c is_core fn f w all room slots known go go' most most') (body s3) (runs c f go' bodyc (beside s3 e3)) (after_turn T outer) (cored.after_turn T' outer) (does n j calls1 s3 e3 g.1)
        (λ flow s4 fl e4 h.
        let a = h.1.few in let b = h.1.few' in
        let ran = ran_less most most' n j flow s4 fl e4 (omega arith) (omega arith) h in
        after_agrees most most' T T' outer flow fl s4 e4 ran (turns_agree most most' calls k k' kind.Again (outer ++ s4.owned) s4 e4 ran.1 (omega arith) (omega arith)))))))))

  loop_does : (place : Place) (inv : Formula) (x : Tree) (n : ℕ) (body : Run running.Flow) (bodyc : Code) → HasShape p r x Truth → Within (counted p r (fresh 0) x).used room → Does p c is_core fn f w all room slots known go go' body (runs c f go' bodyc) → Does p c is_core fn f w all room slots known go go' (loop p w.at place inv (eval p w.at go x) body) (runs c f go' (loop_code p r w n place inv x bodyc))
  unfolding chain give get core.chain core.give core.get
  loop_does place inv x n body bodyc has in_room does most most' calls s e fit =
      let cn : ℕ = headed n inv in
      let d : Decision = decision w (counted p r (fresh cn) x) in
      let v : Simple = value_of p r w (fresh cn) x in
      let loops : Code = one (do_loop (w.at kind.Entry place) (w.at kind.Again place) inv d (code_and do_step (tree_code p r w (fresh cn) x)) v bodyc) in
      step_code c f go' (Ran p c is_core fn f w all room slots known go go' most most') s e (λ s0. turns (suc s0.steps) (head place inv) (eval p w.at go x) body kind.Entry s0.owned s0) loops fit.sites (λ i is_suc.
      let s0 : State = record s { steps = i } in
      let fit0 : Fit (length f.locals) all most most' s0 e = step_fit p c is_core f r w (length f.locals) all room slots known go go' most most' calls s e i is_suc fit in
      subst (λ q. Agree (Ran p c is_core fn f w all room slots known go go' most most') (turns (suc i) (head place inv) (eval p w.at go x) body kind.Entry s.owned s0) q)
      (sym (nothing c f go' (cored.turns (suc e.turns) (core_head inv) (produced place inv) (core_test (tree_code p r w (fresh cn) x) d v) (runs c f go' bodyc) (w.at kind.Again place) (w.at kind.Entry place) s.owned (beside s0 e))))
      (turns_agree place inv x has in_room cn d body bodyc does most most' calls (suc i) (suc e.turns) kind.Entry s.owned s0 e fit0 (omega arith) (omega arith)))

  -- ---- statements
  mutual
    unfolding chain give core.chain core.give

    pub stmt_does : (a : Stmt) (n : ℕ) → StmtFits p r fn.result a → Within (stmt_uses p r a) room → Does p c is_core fn f w all room slots known go go' (exec p w.at go a) (runs c f go' (stmt_code p fn w n a))
    stmt_does (declare_at at i es) n fits in_room most most' calls s e fit = declare_agrees p c is_core fn f w all room slots known go go' most most' calls at i es n fits in_room s e fit
    stmt_does (assign_at at i o op_at x) n fits in_room most most' calls s e fit = assign_agrees p c is_core fn f w all room slots known go go' most most' calls at i o op_at x n fits in_room s e fit
    stmt_does (write_at at base k field arrow o op_at x) n fits in_room most most' calls s e fit = write_agrees p c is_core fn f w all room slots known go go' most most' calls at base k field arrow o op_at x n fits in_room s e fit
    stmt_does (plain_at at x) n fits in_room most most' calls s e fit = plain_agrees p c is_core fn f w all room slots known go go' most most' calls at x n fits in_room s e fit
    stmt_does (block_at at ss) n fits in_room most most' calls s e fit = stmts_do ss n fits in_room most most' calls s e fit
    stmt_does (if_at at x a b) n fits in_room most most' calls s e fit =
        let ux : Shape → ℕ = (counted p r (fresh 0) x).used in
        let ua : Shape → ℕ = stmt_uses p r a in
        let ub : Shape → ℕ = stmts_use p r b in
        let uab : Shape → ℕ = λ u. max (ua u) (ub u) in
        let in_ab : Within uab room = right_within ux uab room in_room in
        let c1 : Counts = counted p r (fresh n) x in
        let n1 : ℕ = c1.next + 1 in
        let v : Simple = value_of p r w (fresh n) x in
        let ac : Code = stmt_code p fn w n1 a in
        let bc : Code = stmts_code p fn w (stmt_next p fn n1 a) b in
        step_tree p c is_core fn f w all room slots known go go' most most' calls (Ran p c is_core fn f w all room slots known go go' most most') x Truth n (one (do_if (decision w c1) v ac bc)) (λ s0 y. pick y (exec_all p w.at go b) (exec p w.at go a)) fits.0 (left_within ux uab room in_room) s e fit
        (λ y s0 s1 e1 fit1 is_y same. branch_code c f go' (Ran p c is_core fn f w all room slots known go go' most most') y (exec_all p w.at go b) (exec p w.at go a) (decision w c1) v ac bc s1 e1 is_y
        (λ os. stmts_do b (stmt_next p fn n1 a) fits.2 (right_within ua ub room in_ab) most most' calls s1 (record e1 { outcomes = os }) fit1)
        (λ os. stmt_does a n1 fits.1 (left_within ua ub room in_ab) most most' calls s1 (record e1 { outcomes = os }) fit1))
    stmt_does (while_at at inv x a) n fits in_room most most' calls s e fit =
        let ux : Shape → ℕ = (counted p r (fresh 0) x).used in
        let ua : Shape → ℕ = stmt_uses p r a in
        let n1 : ℕ = (counted p r (fresh (headed n inv)) x).next + 1 in
        loop_does at inv x n (exec p w.at go a) (stmt_code p fn w n1 a) fits.1 (left_within ux ua room in_room) (stmt_does a n1 fits.2 (right_within ux ua room in_room)) most most' calls s e fit
    stmt_does (for_at at first x last inv a) n fits in_room most most' calls s e fit =
        let uf : Shape → ℕ = stmts_use p r first in
        let ux : Shape → ℕ = (counted p r (fresh 0) x).used in
        let ua : Shape → ℕ = stmt_uses p r a in
        let ul : Shape → ℕ = stmts_use p r last in
        let ual : Shape → ℕ = λ u. max (ua u) (ul u) in
        let uxal : Shape → ℕ = λ u. max (ux u) (ual u) in
        let in_xal : Within uxal room = right_within uf uxal room in_room in
        let in_al : Within ual room = right_within ux ual room in_xal in
        let n1 : ℕ = stmts_next p fn n first in
        let n2 : ℕ = (counted p r (fresh (headed n1 inv)) x).next + 1 in
        let n3 : ℕ = stmt_next p fn n2 a in
        let body : Run running.Flow = chain (exec p w.at go a) (λ flow. unless_back flow (exec_all p w.at go last)) in
        let bodyc : Code = join (stmt_code p fn w n2 a) (stmts_code p fn w n3 last) in
        join_does (exec_all p w.at go first) (loop p w.at at inv (eval p w.at go x) body) (stmts_code p fn w n first) (loop_code p r w n1 at inv x bodyc)
        (stmts_do first n fits.0 (left_within uf uxal room in_room))
        (loop_does at inv x n1 body bodyc fits.1 (left_within ux ual room in_xal)
        (join_does (exec p w.at go a) (exec_all p w.at go last) (stmt_code p fn w n2 a) (stmts_code p fn w n3 last) (stmt_does a n2 fits.4 (left_within ua ul room in_al)) (stmts_do last n3 fits.2 (right_within ua ul room in_al))))
        most most' calls s e fit
    stmt_does (return_at at es) n fits in_room most most' calls s e fit = return_agrees p c is_core fn f w all room slots known go go' most most' calls at es n fits in_room s e fit
    stmt_does (assert_at at x) n fits in_room most most' calls s e fit = assert_agrees p c is_core fn f w all room slots known go go' most most' calls at x n fits in_room s e fit
    stmt_does (raise_at at t) n fits in_room most most' calls s e fit = raise_agrees p c is_core fn f w all room slots known go go' most most' calls at t n s e fit
    stmt_does (note_at at k formula) n fits in_room most most' calls s e fit = note_agrees p c is_core fn f w all room slots known go go' most most' calls at k formula n s e fit

    pub stmts_do : (ss : Stmts) (n : ℕ) → StmtsFit p r fn.result ss → Within (stmts_use p r ss) room → Does p c is_core fn f w all room slots known go go' (exec_all p w.at go ss) (runs c f go' (stmts_code p fn w n ss))
    stmts_do no_stmts n fits in_room most most' calls s e fit = (refl, (tt, fit))
    stmts_do (stmt_and a ss) n fits in_room most most' calls s e fit =
        let ua : Shape → ℕ = stmt_uses p r a in
        let us : Shape → ℕ = stmts_use p r ss in
        let n1 : ℕ = stmt_next p fn n a in
        join_does (exec p w.at go a) (exec_all p w.at go ss) (stmt_code p fn w n a) (stmts_code p fn w n1 ss) (stmt_does a n fits.0 (left_within ua us room in_room)) (stmts_do ss n1 fits.1 (right_within ua us room in_room)) most most' calls s e fit
