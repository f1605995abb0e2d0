-- All statements of a function, and functions.
use Rattle.std.proofs.Common.{◌≡◌, ℕ, zero, suc, Bool, true, false, not, ◌&&◌, ◌||◌, eqb, List, [], ◌∷◌, ◌++◌, length, map, Option, Some, refl, sym, ap, subst, arith}
use Rattle.std.specs.Prelude.{slice_get, slice_index, if◌then◌else◌}
use Rattle.gc0_base.specs.declared.site.Site.{Site}
use Rattle.gc0_base.specs.declared.site.Decision.{Decision}
use Rattle.core_tree.specs.declared.Simple.{Simple}
use Rattle.core_tree.specs.declared.Phase.TheVariants.{Produce, Consume}
use Rattle.core_tree.specs.CoreTree.{CoreStmt, do_step, do_set, do_unary, do_binary, do_load, do_store, do_new, do_call, do_library, do_if, do_loop, do_return, do_assert, do_raise, do_note, Code, no_code, code_and, CoreFunction, Core}
use Rattle.c0_meaning.specs.Operators.{pick}
use Rattle.c0_meaning.specs.Heaps.{Cells}
use Rattle.footprint_laws.specs.FootprintLaws.{larger_law, footprint_law}
use Rattle.core_meaning.specs.CoreRuns as core
use Rattle.core_meaning.specs.CoreRuns.{Outcomes, CoreState}
use Rattle.core_meaning.specs.CoreRunning as running
use Rattle.core_meaning.specs.CoreRunning.{Flow, On, Back, core_exec, core_exec_all, before_of, after_of, start_at, no_outcomes, first_words, unless_back}
use Rattle.core_meaning.specs.CorePrecision.{stmt_calls, code_calls}
use Rattle.core_meaning.specs.Deciding.{stmt_due, code_due, formula_due, branch_due}
use Rattle.core_meaning.specs.Stepped.{stmt_returns, code_returns, stmt_tests, code_tests}
use Rattle.core_checks.specs.Subjects.{of_formula, stmt_subjects, code_subjects}
use Rattle.core_checks.specs.Placements.{Placement, is_tracked}
use Rattle.watched_core.specs.WatchRuns as watch
use Rattle.watched_core.specs.WatchRuns.{WatchState, top_of, closed_by}
use Rattle.watched_core.specs.Watching as watching
use Rattle.watched_core.specs.Watching.{is_marked, marks_of}
use Rattle.watched_core.proofs.Fine.{Fine, Keeps, KeepsCalls, keeps_on, k_chain, k_put_if, k_tested, k_code, k_unless, k_pick}
use Rattle.watched_core.proofs.Follow.{false_true, Knows, nested_closes, joins, agree_maybe, At, Post, Follows, follows_on, follows_to, thus}
use Rattle.watched_core.proofs.Deciding.{SiteOk}
use Rattle.watched_core.proofs.Straight.{Each, each_front, each_back, Ok, Its, FlowAt, Flows, word_same, word_in_same, step_follows, put_if_follows, set_follows, unary_follows, binary_follows, library_stmt_follows, load_follows, store_follows, new_follows, assert_follows, raise_follows, note_follows}
use Rattle.watched_core.proofs.Loops.{loop_does}
use Rattle.watched_core.proofs.Calls.{CallsFollow, MovesCalls, called_follows}

or_left : (a b : Bool) → a ≡ true → (a || b) ≡ true
or_left true b e = refl
or_left false b e = false_true e

or_right : (a b : Bool) → b ≡ true → (a || b) ≡ true
or_right true b e = refl
or_right false b e = e

and_first : (a b : Bool) → (a && b) ≡ true → a ≡ true
and_first true b e = refl
and_first false b e = false_true e

and_second : (a b : Bool) → (a && b) ≡ true → b ≡ true
and_second true b e = e
and_second false b e = false_true e

not_true : (a : Bool) → not a ≡ true → a ≡ true → ⊥
not_true true e h = cc
not_true false e h = cc

module _ (c : Core) (p : Placement) (larger : larger_law) (footprints : footprint_law) where
  module _ (g : ℕ) (f : CoreFunction) (base : List Cells) (go : running.Calls) (wgo : watching.Calls) (kc : KeepsCalls c p go) (calls : CallsFollow c p go wgo) (moves : MovesCalls go) where
    flow_le : (r r' : Bool) → (r ≡ true → r' ≡ true) → (os : List Cells) (flow : Flow) (t : CoreState) (u : WatchState) → FlowAt c p g f base r os flow t u → FlowAt c p g f base r' os flow t u
    flow_le r r' h os On t u k = k
    flow_le r r' h os (Back site v) t u k = (h k.0, k.1, k.2)

    flows_le : (r r' : Bool) → (r ≡ true → r' ≡ true) → (os : List Cells) (o : core.Out Flow) (i : watch.Out Flow) → Follows (Flows c p g f base r os) o i → Follows (Flows c p g f base r' os) o i
    flows_le r r' h os o i k = follows_to (Flows c p g f base r os) (Flows c p g f base r' os) o i (λ x y t u q. (q.0, flow_le r r' h os x t u q.1)) k

    -- ---- branches
    abbrev Word : List Cells → Post ℕ ℕ
    Word os x y t u = (y ≡ x) × At p g base (t.owned ∷ os) t u

    tested_follows : (d : Decision) (a : Simple) (os : List Cells) (q : CoreState) (w : WatchState) → d.function ≡ g → At p g base (q.owned ∷ os) q w → Follows (Word os) (running.tested d a q) (watching.tested p g d a w)
    unfolding core.chain core.get core.change core.give watch.chain watch.get watch.change watch.give
    tested_follows d a os q w of at = (
      word_same a q w at.alike,
      record {
        alike = record { words = at.alike.words; heap = at.alike.heap; input = at.alike.input; output = at.alike.output; steps = at.alike.steps; turns = at.alike.turns };
        knows = at.knows;
        agrees = agree_maybe p g (is_marked p g d) w.marks q.outcomes d.number (Some (not (eqb (watching.word_of a w) 0))) (Some (not (eqb (running.word_of a q) 0)))
            (ap (λ h. is_marked p g record { function = h; number = d.number }) (sym of)) (λ e. ap (λ x. Some (not (eqb x 0))) (word_same a q w at.alike)) at.agrees;
      },
    )

    -- ---- a return
    closes : (t : Bool) (os levels : List Cells) (o : Cells) → Knows t base (o ∷ os) levels → Knows t base (joins os o ∷ []) (if t then closed_by (length os) levels else levels)
    closes true os levels o k = nested_closes base os levels o k
    closes false os levels o k = k

    closes_is : (t : Bool) (n : ℕ) (w : WatchState) → watching.when t (λ s. record s { levels = closed_by n s.levels }) w ≡ watch.Next tt record w { levels = if t then closed_by n w.levels else w.levels }
    unfolding watch.change watch.give
    closes_is true n w = refl
    closes_is false n w = refl

    return_follows : (a : Option Simple) (site : Site) (os : List Cells) (q : CoreState) (w : WatchState) → SiteOk c p g site (of_formula false f.after) → At p g base (q.owned ∷ os) q w →
        Follows (Flows c p g f base true os) (core_exec c f go (do_return a site) q) (watching.watch c p g f wgo (length os) (do_return a site) w)
    unfolding core.chain core.get core.give watch.chain watch.get watch.give
    return_follows a site os q w ok at =
        subst (λ o. Follows (Flows c p g f base true os) (core.Next (Back site (running.word_in a q)) q) (watch.go_on o (λ _. watch.give (Back site (watching.word_in a w))))) (sym (closes_is (is_tracked p g) (length os) w)) (
          ap (Back site) (word_in_same a q w at.alike),
          (
            refl,
            ok,
            record {
              alike = record { words = at.alike.words; heap = at.alike.heap; input = at.alike.input; output = at.alike.output; steps = at.alike.steps; turns = at.alike.turns };
              knows = closes (is_tracked p g) os w.levels q.owned at.knows;
              agrees = at.agrees;
            },
          ),
        )

    -- ---- a call
    call_follows : (to : Option ℕ) (h : ℕ) (args : List ℕ) (site : Site) (os : List Cells) (q : CoreState) (w : WatchState) → SiteOk c p g site (of_formula false (before_of (slice_get c.functions h))) → (is_tracked p g ≡ false → is_tracked p h ≡ false) →
        At p g base (q.owned ∷ os) q w → Fine c p (core.state_of (core_exec c f go (do_call to h args site) q)) →
        Follows (Flows c p g f base false os) (core_exec c f go (do_call to h args site) q) (watching.watch c p g f wgo (length os) (do_call to h args site) w)
    unfolding core.chain core.get watch.chain watch.get
    call_follows to h args site os q w ok bare at fine =
        subst (λ ws. Follows (Flows c p g f base false os) (core_exec c f go (do_call to h args site) q) (watch.go_on (watching.called_at c p wgo g site h (slice_get c.functions h) (map (slice_index ws) args) w) (watching.put_if to))) (sym at.alike.words)
        (follows_on c p (Word os) (Flows c p g f base false os) (running.called_at c go site h (slice_get c.functions h) xs q) (watching.called_at c p wgo g site h (slice_get c.functions h) xs w) (running.put_if to) (watching.put_if to)
        (called_follows c p g base os go wgo footprints kc calls moves site h (slice_get c.functions h) ok bare xs q w at (keeps_on c p (running.called_at c go site h (slice_get c.functions h) xs q) (running.put_if to) (k_put_if c p to) fine))
        (λ x y t u ft k. put_if_follows c p g f base false os to x y t u k.0 k.1) fine)
      where
        xs : List ℕ
        xs = map (slice_index q.words) args

    nothing_follows : (os : List Cells) (q : CoreState) (w : WatchState) → At p g base (q.owned ∷ os) q w → Follows (Flows c p g f base false os) (core.give On q) (watch.give On w)
    unfolding core.give watch.give
    nothing_follows os q w at = (refl, at)

    -- a return passes what stands behind it
    passes : (r r' : Bool) (os : List Cells) (site : Site) (v : ℕ) (t : CoreState) (u : WatchState) → FlowAt c p g f base r os (Back site v) t u → Follows (Flows c p g f base (r || r') os) (core.give (Back site v) t) (watch.give (Back site v) u)
    unfolding core.give watch.give
    passes r r' os site v t u k = (refl, (or_left r r' k.0, k.1, k.2))

    -- what a run of statements does
    abbrev Does : (returns : Bool) → List Cells → core.Run Flow → watch.Run Flow → Type 0
    Does r os m n = (t : CoreState) (u : WatchState) → At p g base (t.owned ∷ os) t u → Fine c p (core.state_of (m t)) → Follows (Flows c p g f base r os) (m t) (n u)

    rest_on : (r r' : Bool) (os : List Cells) (m : core.Run Flow) (n : watch.Run Flow) → Does r' os m n → (flow : Flow) (t : CoreState) (u : WatchState) → FlowAt c p g f base r os flow t u → Fine c p (core.state_of (unless_back flow m t)) →
        Follows (Flows c p g f base (r || r') os) (unless_back flow m t) (watching.unless_back flow n u)
    rest_on r r' os m n h On t u k ft = flows_le r' (r || r') (or_right r r') os _ _ (h t u k ft)
    rest_on r r' os m n h (Back site v) t u k ft = passes r r' os site v t u k

    either_on : (r r' : Bool) (os : List Cells) (m m' : core.Run Flow) (n n' : watch.Run Flow) → Does r os m n → Does r' os m' n' → (x : ℕ) → Does (r || r') os (pick x m' m) (pick x n' n)
    either_on r r' os m m' n n' h k zero t u at ft = flows_le r' (r || r') (or_right r r') os _ _ (k t u at ft)
    either_on r r' os m m' n n' h k (suc x) t u at ft = flows_le r (r || r') (or_left r r') os _ _ (h t u at ft)

    goes_on : (r : Bool) → (r ≡ true → ⊥) → (os : List Cells) (flow : Flow) (t : CoreState) (u : WatchState) → FlowAt c p g f base r os flow t u → At p g base (t.owned ∷ os) t u
    goes_on r never os On t u k = k
    goes_on r never os (Back site v) t u k = absurd (never k.0)

    test_on : (r : Bool) (d : Decision) (a : Simple) (os : List Cells) (m : core.Run Flow) (n : watch.Run Flow) → Keeps c p m → Does r os m n → (r ≡ true → ⊥) → d.function ≡ g → (s : CoreState) (w : WatchState) → At p g base (s.owned ∷ os) s w →
        Fine c p (core.state_of (core.chain m (λ _. running.tested d a) s)) → Follows (Word os) (core.chain m (λ _. running.tested d a) s) (watch.chain n (λ _. watching.tested p g d a) w)
    test_on r d a os m n km h never of s w at ft =
        thus c p (Flows c p g f base r os) (Word os) m n (λ _. running.tested d a) (λ _. watching.tested p g d a) s w (λ _. k_tested c p d a) (h s w at) (λ flow y t u fu k. tested_follows d a os t u of (goes_on r never os flow t u k.1)) ft

    -- ---- statements
    mutual
      pub stmt_follows : (s : CoreStmt) (os : List Cells) (q : CoreState) (w : WatchState) → Each (Ok c p g f base) (stmt_subjects c f s) → Each (Its c p g f base) (stmt_due c f s) → ((h : ℕ) → stmt_calls h s ≡ true → is_tracked p g ≡ false → is_tracked p h ≡ false) → stmt_tests s ≡ true →
          At p g base (q.owned ∷ os) q w → Fine c p (core.state_of (core_exec c f go s q)) → Follows (Flows c p g f base (stmt_returns s) os) (core_exec c f go s q) (watching.watch c p g f wgo (length os) s w)
      stmt_follows do_step os q w ok due bare tests at fine = step_follows c p g f base false os q w at
      stmt_follows (do_set to a) os q w ok due bare tests at fine = set_follows c p g f base to a go wgo os q w ok at fine
      stmt_follows (do_unary to o a) os q w ok due bare tests at fine = unary_follows c p g f base to o a go wgo os q w ok at fine
      stmt_follows (do_binary to o a b site) os q w ok due bare tests at fine = binary_follows c p g f base to o a b site go wgo os q w ok at fine
      stmt_follows (do_load to b k field site) os q w ok due bare tests at fine = load_follows c p g f base to b k field site go wgo os q w ok at fine
      stmt_follows (do_store b k field value site) os q w ok due bare tests at fine = store_follows c p g f base b k field value site go wgo os q w ok at fine
      stmt_follows (do_new to k) os q w ok due bare tests at fine = new_follows c p g f base to k go wgo os q w ok at fine
      stmt_follows (do_call to h args site) os q w ok due bare tests at fine = call_follows to h args site os q w ok.0 (bare h (same_is h)) at fine
        where
          same_is : (h : ℕ) → eqb h h ≡ true
          same_is h = grind arith
      stmt_follows (do_library to l a t site) os q w ok due bare tests at fine = library_stmt_follows c p g f base to l a t site go wgo os q w ok at fine
      stmt_follows (do_if d a these those) os q w ok due bare tests at fine =
          thus c p (Word os) (Flows c p g f base (code_returns these || code_returns those) os) (running.tested d a) (watching.tested p g d a)
          (λ x. pick x (core_exec_all c f go those) (core_exec_all c f go these)) (λ x. pick x (watching.watch_all c p g f wgo (length os) those) (watching.watch_all c p g f wgo (length os) these)) q w
          (λ x. k_pick c p x _ _ (k_code c p f go kc those) (k_code c p f go kc these))
          (λ ft. tested_follows d a os q w due.0 at)
          (λ x y t u ft k. subst (λ y. Follows (Flows c p g f base (code_returns these || code_returns those) os) (pick x (core_exec_all c f go those) (core_exec_all c f go these) t) (pick y (watching.watch_all c p g f wgo (length os) those) (watching.watch_all c p g f wgo (length os) these) u)) (sym k.0)
          (either_on (code_returns these) (code_returns those) os (core_exec_all c f go these) (core_exec_all c f go those) (watching.watch_all c p g f wgo (length os) these) (watching.watch_all c p g f wgo (length os) those)
          (λ t u at ft. code_follows these os t u (each_front (Ok c p g f base) (code_subjects c f these) (code_subjects c f those) ok) (each_front (Its c p g f base) (code_due c f these) (code_due c f those) due.1)
          (λ h e. bare h (or_left (code_calls h these) (code_calls h those) e)) (and_first (code_tests these) (code_tests those) tests) at ft)
          (λ t u at ft. code_follows those os t u (each_back (Ok c p g f base) (code_subjects c f these) (code_subjects c f those) ok) (each_back (Its c p g f base) (code_due c f these) (code_due c f those) due.1)
          (λ h e. bare h (or_right (code_calls h these) (code_calls h those) e)) (and_second (code_tests these) (code_tests those) tests) at ft)
          x t u k.1 ft)) fine
      stmt_follows (do_loop entry again inv d test a body) os q w ok due bare tests at fine =
          flows_le (code_returns body) (code_returns test || code_returns body) (or_right (code_returns test) (code_returns body)) os _ _
          (loop_does c p g f base os larger (code_returns body) entry again inv (core.chain (core_exec_all c f go test) (λ _. running.tested d a)) (watch.chain (watching.watch_all c p g f wgo (suc (length os)) test) (λ _. watching.tested p g d a)) (core_exec_all c f go body) (watching.watch_all c p g f wgo (suc (length os)) body)
          ok.0.of ok.1.0 (k_chain c p _ _ (k_code c p f go kc test) (λ _. k_tested c p d a)) (k_code c p f go kc body)
          (λ outer s u at1 ft. test_on (code_returns test) d a (outer ∷ os) (core_exec_all c f go test) (watching.watch_all c p g f wgo (suc (length os)) test) (k_code c p f go kc test)
          (λ t v at2 fv. code_follows test (outer ∷ os) t v
          (each_front (Ok c p g f base) (code_subjects c f test) (code_subjects c f body) ok.1.1)
          (each_front (Its c p g f base) (code_due c f test) _ dues)
          (λ h e. bare h (or_left (code_calls h test) (code_calls h body) e)) (and_first (code_tests test) (code_tests body) (and_second (not (code_returns test)) (code_tests test && code_tests body) tests)) at2 fv)
          (not_true (code_returns test) (and_first (not (code_returns test)) (code_tests test && code_tests body) tests))
          (each_front (Its c p g f base) (branch_due d) _ (each_back (Its c p g f base) (code_due c f test) _ dues)).0 s u at1 ft)
          (λ outer s u at1 ft. code_follows body (outer ∷ os) s u
          (each_back (Ok c p g f base) (code_subjects c f test) (code_subjects c f body) ok.1.1)
          (each_front (Its c p g f base) (code_due c f body) _ (each_back (Its c p g f base) (branch_due d) _ (each_back (Its c p g f base) (code_due c f test) _ dues)))
          (λ h e. bare h (or_right (code_calls h test) (code_calls h body) e)) (and_second (code_tests test) (code_tests body) (and_second (not (code_returns test)) (code_tests test && code_tests body) tests)) at1 ft)
          q w ok.0 at fine)
        where
          dues : Each (Its c p g f base) (code_due c f test ++ (branch_due d ++ (code_due c f body ++ formula_due c again Consume inv)))
          dues = each_back (Its c p g f base) (formula_due c entry Produce inv) _ (each_back (Its c p g f base) (formula_due c entry Consume inv) _ due)
      stmt_follows (do_return a site) os q w ok due bare tests at fine = return_follows a site os q w ok.0 at
      stmt_follows (do_assert a site) os q w ok due bare tests at fine = assert_follows c p g f base a site go wgo os q w ok at fine
      stmt_follows (do_raise t site) os q w ok due bare tests at fine = raise_follows c p g f base t site go wgo os q w ok at fine
      stmt_follows (do_note k formula site) os q w ok due bare tests at fine = note_follows c p g f base k formula site go wgo os q w ok at fine

      pub code_follows : (code : Code) (os : List Cells) (q : CoreState) (w : WatchState) → Each (Ok c p g f base) (code_subjects c f code) → Each (Its c p g f base) (code_due c f code) → ((h : ℕ) → code_calls h code ≡ true → is_tracked p g ≡ false → is_tracked p h ≡ false) → code_tests code ≡ true →
          At p g base (q.owned ∷ os) q w → Fine c p (core.state_of (core_exec_all c f go code q)) → Follows (Flows c p g f base (code_returns code) os) (core_exec_all c f go code q) (watching.watch_all c p g f wgo (length os) code w)
      code_follows no_code os q w ok due bare tests at fine = nothing_follows os q w at
      code_follows (code_and s rest) os q w ok due bare tests at fine =
          thus c p (Flows c p g f base (stmt_returns s) os) (Flows c p g f base (stmt_returns s || code_returns rest) os) (core_exec c f go s) (watching.watch c p g f wgo (length os) s)
          (λ flow. unless_back flow (core_exec_all c f go rest)) (λ flow. watching.unless_back flow (watching.watch_all c p g f wgo (length os) rest)) q w
          (k_unless c p (core_exec_all c f go rest) (k_code c p f go kc rest))
          (stmt_follows s os q w (each_front (Ok c p g f base) (stmt_subjects c f s) (code_subjects c f rest) ok) (each_front (Its c p g f base) (stmt_due c f s) (code_due c f rest) due)
          (λ h e. bare h (or_left (stmt_calls h s) (code_calls h rest) e)) (and_first (stmt_tests s) (code_tests rest) tests) at)
          (λ flow y t u ft k. subst (λ y. Follows (Flows c p g f base (stmt_returns s || code_returns rest) os) (unless_back flow (core_exec_all c f go rest) t) (watching.unless_back y (watching.watch_all c p g f wgo (length os) rest) u)) (sym k.0)
          (rest_on (stmt_returns s) (code_returns rest) os (core_exec_all c f go rest) (watching.watch_all c p g f wgo (length os) rest)
          (λ t u at ft. code_follows rest os t u (each_back (Ok c p g f base) (stmt_subjects c f s) (code_subjects c f rest) ok) (each_back (Its c p g f base) (stmt_due c f s) (code_due c f rest) due)
          (λ h e. bare h (or_right (stmt_calls h s) (code_calls h rest) e)) (and_second (stmt_tests s) (code_tests rest) tests) at ft)
          flow t u k.1 ft)) fine
