-- Calls, and whole runs.
use Rattle.std.proofs.Common.{◌≡◌, ℕ, zero, suc, ◌+◌, ◌-◌, ◌<◌, ◌≤◌, Bool, true, false, ◌&&◌, ◌||◌, List, [], ◌∷◌, ◌++◌, length, take, replicate, Option, Some, None, is_some, refl, sym, ap, ◌∙◌, subst, arith, length-append}
use Rattle.std.proofs.lemmas.List.{length-map, length-replicate}
use Rattle.std.specs.Option.{option_map}
use Rattle.std.specs.Prelude.{slice_get, if◌then◌else◌}
use Rattle.gc0_base.specs.declared.site.Site.{Site}
use Rattle.gc0_base.specs.declared.site.Kind.TheVariants as kind
use Rattle.gc0_base.specs.declared.site.Ending.TheVariants.{Returned}
use Rattle.gc0_tree.specs.declared.Shape.{Shape}
use Rattle.gc0_tree.specs.Tree.{Stmt, block_at, if_at, for_at, return_at, raise_at, Stmts, no_stmts, stmt_and, Function, Program}
use Rattle.gc0_tree.specs.Fits.{Fits, FunctionFits}
use Rattle.gc0_tree.specs.Sites.{Places, sites_of}
use Rattle.c0_meaning.specs.Operators.{pick}
use Rattle.c0_meaning.specs.Heaps.{Cells}
use Rattle.c0_meaning.specs.Runs.{State, Out, Next, Ends, Run, go_on, chain, give, end, get, change, take_step, state_of}
use Rattle.c0_meaning.specs.Running as running
use Rattle.c0_meaning.specs.Running.{Calls, decide, before_of, first_of, eval, eval_all, exec, exec_all, unless_back, ensured, result_of, return_place, calls_at, start_site, meaning, sites}
use Rattle.core_tree.specs.declared.Phase.TheVariants.{Produce}
use Rattle.core_tree.specs.CoreTree.{Code, CoreFunction, Core}
use Rattle.core_meaning.specs.CoreRuns as core
use Rattle.core_meaning.specs.CoreRuns.{Outcomes, Visit, CoreState}
use Rattle.core_meaning.specs.CoreRunning as cored
use Rattle.core_meaning.specs.CoreRunning.{Flow, On, Back, consume, mark, results_of, first_words, no_outcomes, start_at, core_meaning, core_sites}
use Rattle.core_meaning.specs.Choices.{with_outcomes, outcomes_of}
use Rattle.core_tree.specs.CoreSites.{first_number}
use Rattle.lowering_laws.specs.Trees.{Target, one}
use Rattle.lowering_laws.specs.Statements.{room_of, stmts_code}
use Rattle.lowering_laws.specs.Lowering.{temps_of, uses, Beside, target, close_code, start_choices, body_code, lowered_function, lowered_from, lowered}
use Rattle.lowering_laws.specs.Ends as ends
use Rattle.lowering_laws.specs.Ends.{stmt_ends, stmts_end, AllEnd}
use Rattle.lowering_laws.specs.Laws.{meaning_law, sites_law}
use Rattle.lowering_laws.proofs.Agree.{More, beside, more_of, sites_in, Agree, agree_bind, agree_to, core_assoc, Fit, Called}
use Rattle.lowering_laws.proofs.Counting.{all_at}
use Rattle.lowering_laws.proofs.Codes.{consume_then, runs, join_is}
use Rattle.lowering_laws.proofs.Values.{Slots}
use Rattle.lowering_laws.proofs.Numbers.{slots_of}
use Rattle.lowering_laws.proofs.Expressions.{IsCoreOf, Known, CallsAgree}
use Rattle.lowering_laws.proofs.Statements.{SameFlow, Ran, calls_less}
use Rattle.lowering_laws.proofs.Loops.{stmts_do}

-- ---- a body that ends never goes on behind its end
abbrev IfNext : {A : Type 0} → (A → Type 0) → Out A → Type 0
IfNext P (Next x s) = P x
IfNext P (Ends e s) = Unit {0}

if_any : {A : Type 0} (o : Out A) → IfNext (λ x. Unit {0}) o
if_any (Next x s) = tt
if_any (Ends e s) = tt

if_bind : {A B : Type 0} (P : A → Type 0) (Q : B → Type 0) (o : Out A) (f : A → Run B) → IfNext P o → ((x : A) (s : State) → P x → IfNext Q (f x s)) → IfNext Q (go_on o f)
if_bind P Q (Next x s) f h k = k x s h
if_bind P Q (Ends e s) f h k = tt

if_pick : {A : Type 0} (Q : A → Type 0) (x : ℕ) (f g : Run A) (s : State) → IfNext Q (f s) → IfNext Q (g s) → IfNext Q (pick x f g s)
if_pick Q zero f g s h k = h
if_pick Q (suc n) f g s h k = k

abbrev IsBack : running.Flow → Type 0
IsBack running.On = ⊥
IsBack (running.Back place v) = Unit {0}

left_true : (a b : Bool) → (a && b) ≡ true → a ≡ true
left_true true b h = refl
left_true false b h = h

right_true : (a b : Bool) → (a && b) ≡ true → b ≡ true
right_true true b h = h
right_true false b h = absurd (let f : false ≡ true = h in cc)

module _ (p : Program) (at : Places) (go : Calls) where
  abbrev Any : {A : Type 0} → A → Type 0
  Any x = Unit {0}

  still_back : (flow : running.Flow) (m : Run running.Flow) (s : State) → IsBack flow → IfNext IsBack (unless_back flow m s)
  unfolding give
  still_back running.On m s h = absurd h
  still_back (running.Back place v) m s h = tt

  later_back : (flow : running.Flow) (m : Run running.Flow) (s : State) → IfNext IsBack (m s) → IfNext IsBack (unless_back flow m s)
  unfolding give
  later_back running.On m s h = h
  later_back (running.Back place v) m s h = tt

  mutual
    unfolding chain give end

    stmt_back : (a : Stmt) → stmt_ends a ≡ true → (s : State) → IfNext IsBack (exec p at go a s)
    stmt_back (block_at place ss) h s = stmts_back ss h s
    stmt_back (if_at place x a b) h s =
        if_bind Any IsBack (take_step s.steps s) (λ _ s0. go_on (eval p at go x s0) (λ y. pick y (exec_all p at go b) (exec p at go a))) (if_any (take_step s.steps s))
        (λ u s0 v. if_bind Any IsBack (eval p at go x s0) (λ y. pick y (exec_all p at go b) (exec p at go a)) (if_any (eval p at go x s0))
        (λ y s1 z. if_pick IsBack y (exec_all p at go b) (exec p at go a) s1 (stmts_back b (right_true (stmt_ends a) (stmts_end b) h) s1) (stmt_back a (left_true (stmt_ends a) (stmts_end b) h) s1)))
    stmt_back (for_at place first x last inv a) h s =
        if_bind IsBack IsBack (exec_all p at go first s) _ (stmts_back first h s) (λ flow s1 back. still_back flow _ s1 back)
    stmt_back (return_at place es) h s =
        if_bind Any IsBack (take_step s.steps s) (λ _ s0. go_on (eval_all p at go es s0) (λ ys s1. Next (running.Back place (first_of ys)) s1)) (if_any (take_step s.steps s))
        (λ u s0 v. if_bind Any IsBack (eval_all p at go es s0) (λ ys s1. Next (running.Back place (first_of ys)) s1) (if_any (eval_all p at go es s0)) (λ ys s1 z. tt))
    stmt_back (raise_at place t) h s = if_bind Any IsBack (take_step s.steps s) _ (if_any (take_step s.steps s)) (λ u s0 v. tt)
    stmt_back a h s = absurd (let f : false ≡ true = h in cc)

    stmts_back : (ss : Stmts) → stmts_end ss ≡ true → (s : State) → IfNext IsBack (exec_all p at go ss s)
    stmts_back no_stmts h s = absurd (let f : false ≡ true = h in cc)
    stmts_back (stmt_and a ss) h s = by_first (λ e. stmt_back a e s) (λ g s1. stmts_back ss g s1) (stmt_ends a) refl h
      where
        by_first : (stmt_ends a ≡ true → IfNext IsBack (exec p at go a s)) → (stmts_end ss ≡ true → (s1 : State) → IfNext IsBack (exec_all p at go ss s1)) → (b : Bool) → stmt_ends a ≡ b → (b || stmts_end ss) ≡ true → IfNext IsBack (exec_all p at go (stmt_and a ss) s)
        by_first one more true e g = if_bind IsBack IsBack (exec p at go a s) (λ flow. unless_back flow (exec_all p at go ss)) (one e) (λ flow s1 back. still_back flow (exec_all p at go ss) s1 back)
        by_first one more false e g = if_bind Any IsBack (exec p at go a s) (λ flow. unless_back flow (exec_all p at go ss)) (if_any (exec p at go a s)) (λ flow s1 u. later_back flow (exec_all p at go ss) s1 (more g s1))

agree_then_if : {A B D : Type 0} (P : A → Type 0) (R : A → State → B → More → Type 0) (Q : A → State → D → More → Type 0) (o : Out A) (o' : core.Out B) (g : B → core.Run D) →
    IfNext P o → Agree R o o' → ((x : A) (s : State) (y : B) (e : More) → P x → R x s y e → Agree Q (Next x s) (g y (beside s e))) → Agree Q o (core.go_on o' g)
agree_then_if P R Q (Next x s) (core.Next y t) g i h k = subst (λ u. Agree Q (Next x s) (g y u)) h.0 (k x s y (more_of t) i h.1)
agree_then_if P R Q (Ends e s) (core.Ends e' t) g i h k = h
agree_then_if P R Q (Next x s) (core.Ends e t) g i h k = absurd h
agree_then_if P R Q (Ends e s) (core.Next y t) g i h k = absurd h

-- ---- words
take_zeros : (xs : List ℕ) (m j i : ℕ) → m ≡ length xs + i → i ≤ j → take m (xs ++ replicate j 0) ≡ xs ++ replicate i 0
take_zeros [] m j i e le = let g : i ≡ m = omega arith in subst (λ m. take {A = ℕ} m (replicate j 0) ≡ replicate i 0) g (zeros i j le)
  where
    zeros : (i j : ℕ) → i ≤ j → take {A = ℕ} i (replicate j 0) ≡ replicate i 0
    zeros zero j le = refl
    zeros (suc i) zero le = absurd (omega arith)
    zeros (suc i) (suc j) le = ap (λ l. 0 ∷ l) (zeros i j (omega arith))
take_zeros (x ∷ xs) zero j i e le = absurd (omega arith)
take_zeros (x ∷ xs) (suc m) j i e le = ap (λ l. x ∷ l) (take_zeros xs m j i (omega arith) le)

take_less : (n m : ℕ) (ws : List ℕ) → n ≤ m → take n (take m ws) ≡ take n ws
take_less zero m ws le = refl
take_less (suc n) zero ws le = absurd (omega arith)
take_less (suc n) (suc m) [] le = refl
take_less (suc n) (suc m) (x ∷ ws) le = ap (λ l. x ∷ l) (take_less n m ws (omega arith))

module _ (b : Beside) (p : Program) (fits : Fits p) (all_end : AllEnd p) where
  abbrev c : Core
  c = lowered b p

  function_from : (fs : List Function) (g n i : ℕ) → i ≡ g + n → slice_get (lowered_from b p g fs) n ≡ option_map (lowered_function b p i) (slice_get fs n)
  function_from [] g n i e = refl
  function_from (f ∷ fs) g zero i e = let h : g ≡ i = omega arith in ap (λ i. Some (lowered_function b p i f)) h
  function_from (f ∷ fs) g (suc n) i e = function_from fs (suc g) n i (omega arith)

  function_at : (g : ℕ) → slice_get c.functions g ≡ option_map (lowered_function b p g) (slice_get p.functions g)
  function_at g = function_from p.functions 0 g g (omega arith)

  before_same : (g : ℕ) (o : Option Function) → cored.before_of (option_map (lowered_function b p g) o) ≡ before_of o
  before_same g None = refl
  before_same g (Some f) = refl

  is_core : IsCoreOf p c
  is_core = record { structs = refl; predicates = refl; texts = refl; befores = λ g. ap cored.before_of (function_at g) ∙ before_same g (slice_get p.functions g) }

  -- a body has returned: at a return, or at its closing brace
  abbrev Closed : ℕ → Function → (most most' : ℕ) → running.Flow → State → Flow → More → Type 0
  Closed g fn most most' flow s fl e = (Back (sites_of g fn kind.Ensures (return_place fn flow)) (result_of flow) ≡ fl) × Fit (length fn.locals) (length fn.locals + length (temps_of (uses p fn) (length p.structs))) most most' s e

  abbrev Left : Option Shape → running.Flow → Type 0
  Left None flow = Unit {0}
  Left (Some s) flow = IsBack flow

  left_by : (o : Option Shape) (flow : Out running.Flow) → (is_some o ≡ true → IfNext IsBack flow) → IfNext (Left o) flow
  left_by None flow h = if_any flow
  left_by (Some s) flow h = h refl

  close_agrees : (g : ℕ) (fn : Function) (go' : cored.Calls) (most most' : ℕ) (o : Option Shape) (flow : running.Flow) (s : State) (fl : Flow) (e : More) → Left o flow → SameFlow (sites_of g fn) flow fl →
      Fit (length fn.locals) (length fn.locals + length (temps_of (uses p fn) (length p.structs))) most most' s e →
      Agree (Closed g fn most most') (Next flow s) (cored.unless_back fl (runs c (lowered_function b p g fn) go' (close_code (target p g fn) fn o)) (beside s e))
  unfolding core.chain core.give core.get
  close_agrees g fn go' most most' None running.On s On e left same fit = (refl, (refl, fit))
  close_agrees g fn go' most most' (Some u) running.On s On e left same fit = absurd left
  close_agrees g fn go' most most' o (running.Back place v) s (Back site y) e left same fit = (refl, ((λ i. Back (same.0 i) (same.1 i)), fit))
  close_agrees g fn go' most most' o running.On s (Back site y) e left same fit = absurd same
  close_agrees g fn go' most most' o (running.Back place v) s On e left same fit = absurd same

  body_agrees : (k k' : ℕ) → CallsAgree p (calls_at k p) (cored.calls_at k' c) k k' → (g : ℕ) (fn : Function) → slice_get p.functions g ≡ Some fn → (s : State) (e : More) → s.steps ≤ k → e.turns ≤ k' →
      Fit (length fn.locals) (length fn.locals + length (temps_of (uses p fn) (length p.structs))) s.steps e.turns s e →
      Agree (Closed g fn s.steps e.turns) (exec_all p (sites_of g fn) (calls_at k p) fn.body s) (runs c (lowered_function b p g fn) (cored.calls_at k' c) (body_code p g fn) (beside s e))
  body_agrees k k' calls g fn there s e le le' fit =
      let go : Calls = calls_at k p in
      let go' : cored.Calls = cored.calls_at k' c in
      let f : CoreFunction = lowered_function b p g fn in
      let w : Target = target p g fn in
      let m : ℕ = length fn.locals in
      let all : ℕ = m + length (temps_of (uses p fn) (length p.structs)) in
      let ff : FunctionFits p fn = all_at (FunctionFits p) p.functions g fn fits.functions there in
      let known : Known p (room_of fn) m = record { structs = fits.structs; functions = fits.functions; locals = ff.locals; outcome = tt; size = omega (arith, length-map fn.locals (λ (q : List ℕ × Shape). q.1)) } in
      let slots : Slots p w m all (uses p fn) = slots_of p g fn in
      let code : Code = stmts_code p fn w (start_choices p g fn) fn.body in
      let close : Code = close_code w fn fn.result in
      let does = stmts_do p c is_core fn f w all (uses p fn) slots known go go' fn.body (start_choices p g fn) ff.body (λ u. omega arith) s.steps e.turns (calls_less p go go' k k' s.steps e.turns le le' calls) s e fit in
      subst (λ q. Agree (Closed g fn s.steps e.turns) (exec_all p (sites_of g fn) go fn.body s) q) (sym (join_is c f go' code close (beside s e)))
      (agree_then_if (Left fn.result) (Ran p c is_core fn f w all (uses p fn) slots known go go' s.steps e.turns) (Closed g fn s.steps e.turns) (exec_all p (sites_of g fn) go fn.body s) (runs c f go' code (beside s e)) (λ fl. cored.unless_back fl (runs c f go' close))
      (left_by fn.result (exec_all p (sites_of g fn) go fn.body s) (λ has. stmts_back p (sites_of g fn) go fn.body (all_at ends.Ends p.functions g fn all_end there has) s))
      does
      (λ flow s1 fl e1 left h. close_agrees g fn go' s.steps e.turns fn.result flow s1 fl e1 left h.0 h.1))

  called_agrees : (k k' : ℕ) → CallsAgree p (calls_at k p) (cored.calls_at k' c) k k' → (g : ℕ) (xs : List ℕ) (start : Cells) (s : State) (e : More) → ((h : Function) → slice_get p.functions g ≡ Some h → length xs ≤ length h.locals) →
      s.steps ≤ e.turns → s.sites ≡ sites_in e.visits → s.steps < suc k → e.turns < suc k' → (o : Option Function) → slice_get p.functions g ≡ o →
      Agree (Called s e) (running.called p (calls_at k p) g o xs start s) (cored.called c (cored.calls_at k' c) g (option_map (lowered_function b p g) o) xs start (beside s e))
  unfolding chain give end get change core.chain core.give core.end core.get core.change mark
  called_agrees k k' calls g xs start s e takes turns seen few few' None there = (refl, refl, seen)
  called_agrees k k' calls g xs start s e takes turns seen few few' (Some fn) there =
      let go : Calls = calls_at k p in
      let go' : cored.Calls = cored.calls_at k' c in
      let f : CoreFunction = lowered_function b p g fn in
      let at : Places = sites_of g fn in
      let m : ℕ = length fn.locals in
      let temps : ℕ = length (temps_of (uses p fn) (length p.structs)) in
      let ff : FunctionFits p fn = all_at (FunctionFits p) p.functions g fn fits.functions there in
      let within : length xs ≤ m = takes fn there in
      let s1 : State = record s { owned = start; locals = xs ++ replicate (m - length xs) 0 } in
      let e1 : More = record e { words = first_words f xs; outcomes = with_outcomes (first_number c (start_at g) Produce) (outcomes_of s.heap start (Some xs) fn.before.parts) (no_outcomes (Some f)) } in
      let fit1 : Fit m (m + temps) s.steps e.turns s1 e1 = record {
        locals = take_zeros xs m (m + temps - length xs) (m - length xs) (omega arith) (omega arith);
        words = omega (arith, length-append xs (replicate (m + temps - length xs) 0), length-replicate {A = ℕ} (m + temps - length xs) 0);
        turns = turns;
        few = omega arith;
        few' = omega arith;
        sites = seen;
      } in
      let F : running.Flow → Run ℕ = λ flow s2. go_on (decide p (at kind.Ensures (return_place fn flow)) fn.after [] (ensured fn (result_of flow) s2.locals) s2) (λ all s3. Next (result_of flow) record s3 { owned = s.owned ++ s3.owned; locals = s.locals }) in
      let H : ℕ → core.Run ℕ = λ v t. core.Next v record t { owned = s.owned ++ t.owned; words = e.words; outcomes = e.outcomes } in
      let G : Flow → core.Run ℕ = λ fl t. core.go_on (cored.returned c f fl t) H in
      agree_bind (Closed g fn s.steps e.turns) (Called s e) (exec_all p at go fn.body s1) (runs c f go' (body_code p g fn) (beside s1 e1)) F G
      (body_agrees k k' calls g fn there s1 e1 (omega arith) (omega arith) fit1)
      (λ flow s2 fl e2 h. subst (λ fl. Agree (Called s e) (F flow s2) (G fl (beside s2 e2))) h.0
      (let site : Site = at kind.Ensures (return_place fn flow) in
      let v : ℕ = result_of flow in
      let tail : List ℕ = if is_some fn.result then v ∷ [] else [] in
      let few2 = h.1.few in let few2' = h.1.few' in
      let locals : take fn.params e2.words ≡ take fn.params s2.locals = sym (take_less fn.params m e2.words ff.params) ∙ ap (take fn.params) h.1.locals in
      subst (λ q. Agree (Called s e) (F flow s2) q) (sym (core_assoc (consume c site fn.after [] (take fn.params e2.words ++ tail) (beside s2 e2)) (λ all. core.give v) H))
      (subst (λ ws. Agree (Called s e) (F flow s2) (core.go_on (consume c site fn.after [] (ws ++ tail) (beside s2 e2)) (λ all t. H v t))) (sym locals)
      (consume_then p c refl (Called s e) site fn.after [] (take fn.params s2.locals ++ tail) s2 e2 (λ all s3. Next v record s3 { owned = s.owned ++ s3.owned; locals = s.locals }) (λ all t. H v t) h.1.sites
      (λ start os vs seen2. (refl, record { value = refl; locals = refl; words = refl; turns = h.1.turns; few = few2; few' = few2'; sites = seen2 }))))))

  calls_agree : (k k' : ℕ) → CallsAgree p (calls_at k p) (cored.calls_at k' c) k k'
  calls_agree zero k' = λ g xs start s e takes turns seen few few'. absurd (omega arith)
  calls_agree (suc k) zero = λ g xs start s e takes turns seen few few'. absurd (omega arith)
  calls_agree (suc k) (suc k') = λ g xs start s e takes turns seen few few'.
      subst (λ o. Agree (Called s e) (running.called p (calls_at k p) g (slice_get p.functions g) xs start s) (cored.called c (cored.calls_at k' c) g o xs start (beside s e))) (sym (function_at g))
      (called_agrees k k' (calls_agree k k') g xs start s e takes turns seen few few' (slice_get p.functions g) refl)

  abbrev Same : ℕ → State → ℕ → More → Type 0
  Same x s y e = (x ≡ y) × (s.sites ≡ sites_in e.visits)

  run_agrees : (input : List ℕ) (n : ℕ) → Agree Same (running.run p n (running.started input n)) (cored.run c n (cored.started c input n))
  unfolding chain core.chain
  run_agrees input n =
      let s : State = running.started input n in
      let e : More = more_of (cored.started c input n) in
      let O : core.Out Cells → core.Out ℕ = λ o. core.go_on o (λ start. cored.calls_at (suc n) c p.main [] start) in
      subst (λ formula. Agree Same (running.run p n s) (core.go_on (consume c (start_site p) formula [] [] (beside s e)) (λ start. cored.calls_at (suc n) c p.main [] start))) (sym (is_core.befores p.main))
      (consume_then p c refl Same (start_site p) (before_of (slice_get p.functions p.main)) [] [] s e (λ start. calls_at (suc n) p p.main [] start) (λ start. cored.calls_at (suc n) c p.main [] start) refl
      (λ start os vs seen.
      let s1 : State = record s { sites = s.sites ++ start_site p ∷ [] } in
      let e1 : More = record e { outcomes = os; visits = vs } in
      agree_to (Called s1 e1) Same (calls_at (suc n) p p.main [] start s1) (cored.calls_at (suc n) c p.main [] start (beside s1 e1))
      (calls_agree (suc n) (suc n) p.main [] start s1 e1 (λ h there. omega arith) (omega arith) seen (omega arith) (omega arith))
      (λ x s2 y e2 h. (h.value, h.sites))))

  seen_same : (o : Out ℕ) (o' : core.Out ℕ) → Agree Same o o' → cored.seen o' ≡ running.seen o
  seen_same (Next x s) (core.Next y t) h = λ i. (sym (ap (λ (t : CoreState). t.output) h.0) i, Returned record { 0 = sym h.1.0 i })
  seen_same (Ends e s) (core.Ends f t) h = λ i. (sym h.1 i, sym h.0 i)
  seen_same (Next x s) (core.Ends f t) h = absurd h
  seen_same (Ends e s) (core.Next y t) h = absurd h

  sites_same : (o : Out ℕ) (o' : core.Out ℕ) → Agree Same o o' → sites_in (core.state_of o').visits ≡ (state_of o).sites
  sites_same (Next x s) (core.Next y t) h = sym h.1.1
  sites_same (Ends e s) (core.Ends f t) h = sym h.2
  sites_same (Next x s) (core.Ends f t) h = absurd h
  sites_same (Ends e s) (core.Next y t) h = absurd h

pub means : meaning_law
means p fits all_end b input n = seen_same b p fits all_end (running.run p n (running.started input n)) (cored.run (lowered b p) n (cored.started (lowered b p) input n)) (run_agrees b p fits all_end input n)

pub decides : sites_law
decides p fits all_end b input n = sites_same b p fits all_end (running.run p n (running.started input n)) (cored.run (lowered b p) n (cored.started (lowered b p) input n)) (run_agrees b p fits all_end input n)
