-- Whole runs, where each function keeps what its statements ask for.
use Rattle.std.proofs.Common.{◌≡◌, ℕ, zero, suc, Bool, true, false, List, [], ◌∷◌, ◌++◌, length, take, replicate, Option, Some, None, refl, sym, ap, ◌∙◌, subst}
use Rattle.std.specs.Prelude.{slice_get, if◌then◌else◌}
use Rattle.gc0_base.specs.declared.site.Ending.{Ending}
use Rattle.gc0_tree.specs.Tree.{Formula}
use Rattle.core_tree.specs.declared.Phase.TheVariants.{Produce}
use Rattle.core_tree.specs.CoreTree.{CoreFunction, Core}
use Rattle.c0_meaning.specs.Heaps.{Cells, owns}
use Rattle.footprint_laws.specs.FootprintLaws.{Within, larger_law, footprint_law}
use Rattle.frame_laws.specs.FrameLaws.{call_frame_law}
use Rattle.core_meaning.specs.CoreRuns as core
use Rattle.core_meaning.specs.CoreRuns.{CoreState}
use Rattle.core_meaning.specs.CoreRunning as running
use Rattle.core_meaning.specs.CoreRunning.{Flow, On, Back, before_of, start_at, no_outcomes, first_words, results_of}
use Rattle.core_meaning.specs.CorePrecision.{code_calls}
use Rattle.core_meaning.specs.Deciding.{code_due}
use Rattle.core_meaning.specs.Stepped.{code_tests, code_returns}
use Rattle.core_checks.specs.Subjects.{of_formula, code_subjects}
use Rattle.core_checks.specs.Placements.{Placement, is_tracked}
use Rattle.watched_core.specs.WatchRuns as watch
use Rattle.watched_core.specs.WatchRuns.{WatchState, top_of}
use Rattle.watched_core.specs.Watching as watching
use Rattle.watched_core.specs.Watching.{marks_of, main_marks, is_marked}
use Rattle.watched_core.specs.WatchLaws.{Same, Shows}
use Rattle.watched_core.proofs.Fine.{Fine, KeepsCalls, keeps_on, k_chain, k_give, k_change, k_calls, k_returned}
use Rattle.watched_core.proofs.Follow.{false_true, Knows, Nested, knows_set, its, tracked_of, Agree, Alike, At, Post, Follows, follows_on, thus}
use Rattle.watched_core.proofs.Deciding.{SiteOk, marked_state, marked_watch, mark_at, Consumed, consume_follows}
use Rattle.watched_core.proofs.Straight.{Each, FlowAt, Flows}
use Rattle.watched_core.proofs.Calls.{Called, CallsFollow, MovesCalls, start_within}
use Rattle.watched_core.proofs.Codes.{code_follows}

-- what the statements of a function ask for
pub record FunctionOk (c : Core) (p : Placement) (g : ℕ) (f : CoreFunction) : Type 0 where
  pub sites : Each (λ x. SiteOk c p g x.site x.subject) (code_subjects c f f.body)
  pub dues : Each (λ x. x.decision.function ≡ g) (code_due c f f.body)
  pub bare : (h : ℕ) → code_calls h f.body ≡ true → is_tracked p g ≡ false → is_tracked p h ≡ false
  pub tests : code_tests f.body ≡ true

module _ (c : Core) (p : Placement) (larger : larger_law) (footprints : footprint_law) (frames : call_frame_law) (functions : (g : ℕ) (f : CoreFunction) → slice_get c.functions g ≡ Some f → FunctionOk c p g f) where
  abbrev nothing_yet : Option Bool
  nothing_yet = None

  -- a frame begins with no outcomes
  agree_none : (g : ℕ) (f : CoreFunction) → Agree p g (replicate (marks_of p g f) None) (replicate (length f.decisions) None)
  agree_none g f = record { marked = λ n e. ap (λ k. slice_get (replicate k None) n) (counts (is_tracked p g) (tracked_of p g n e)); long = λ t. ap (λ k. length (replicate k (nothing_yet))) (counts (is_tracked p g) t) }
    where
      counts : (b : Bool) → b ≡ true → (if b then length f.decisions else 0) ≡ length f.decisions
      counts true e = refl
      counts false e = false_true e

  module _ (go : running.Calls) (wgo : watching.Calls) (kc : KeepsCalls c p go) (calls : CallsFollow c p go wgo) (moves : MovesCalls go) where
    -- behind the body of a function
    abbrev Ended : (g : ℕ) → List Cells → Post ℕ ℕ
    Ended g base x y t u = (y ≡ x) × At p g base (t.owned ∷ []) t u

    ensured_same : (f : CoreFunction) (v : ℕ) (t : CoreState) (u : WatchState) → Alike t u → watching.ensured f v u ≡ running.ensured f v t
    ensured_same f v t u k = ap (λ ws. take f.params ws ++ results_of (Some f) v) k.words

    returned_follows : (g : ℕ) (f : CoreFunction) (base : List Cells) (r : Bool) (flow : Flow) (t : CoreState) (u : WatchState) → FlowAt c p g f base r [] flow t u → Fine c p (core.state_of (running.returned c f flow t)) →
        Follows (Ended g base) (running.returned c f flow t) (watching.returned c p g f flow u)
    unfolding core.chain core.get core.give core.end watch.chain watch.get watch.give watch.end
    returned_follows g f base r On t u k fine = record { ending = refl; output = k.alike.output; view = refl }
    returned_follows g f base r (Back site v) t u k fine =
        subst (λ ws. Follows (Ended g base) (running.returned c f (Back site v) t) (watch.go_on (watching.consume c p g site f.after ws u) (λ _. watch.give v))) (sym (ensured_same f v t u k.2.alike))
        (follows_on c p (Consumed c p g f.after [] (running.ensured f v t) base [] t u) (Ended g base) (running.consume c site f.after [] (running.ensured f v t) t) (watching.consume c p g site f.after (running.ensured f v t) u) (λ _. core.give v) (λ _. watch.give v)
        (consume_follows c p g site f.after [] (running.ensured f v t) base [] t u k.1 k.2 (keeps_on c p (running.consume c site f.after [] (running.ensured f v t) t) (λ _. core.give v) (λ _. k_give c p v) fine))
        (λ start y z w fz q. (refl, subst (λ o. At p g base (o ∷ []) z w) (sym q.owned_is) q.at)) fine)

    -- a call: its frame, its body, and the caller's frame again
    function_does : (g : ℕ) (f : CoreFunction) → FunctionOk c p g f → (args : List ℕ) (start : Cells) (base : List Cells) (s : CoreState) (w : WatchState) → Alike s w → Knows (is_tracked p g) base (start ∷ []) w.levels →
        Fine c p (core.state_of (running.called c go g (Some f) args start s)) → Follows (Called p g base s w) (running.called c go g (Some f) args start s) (watching.called c p wgo g (Some f) args w)
    unfolding core.chain core.get core.change core.give running.mark watch.chain watch.get watch.change watch.give watching.mark
    function_does g f ok args start base s w alike knows fine =
        thus c p (Flows c p g f base (code_returns f.body) []) (Called p g base s w) (running.core_exec_all c f go f.body) (watching.watch_all c p g f wgo 0 f.body)
        (λ flow. core.chain (running.returned c f flow) (λ v. core.chain (core.change (λ q. record q { owned = s.owned ++ q.owned; words = s.words; outcomes = s.outcomes })) (λ _. core.give v)))
        (λ flow. watch.chain (watching.returned c p g f flow) (λ v. watch.chain (watch.change (λ q. record q { words = w.words; marks = w.marks })) (λ _. watch.give v))) s1 w1
        (λ flow. k_chain c p _ _ (k_returned c p f flow) (λ v. k_chain c p _ _ (k_change c p _ (λ q. refl) (λ q. refl)) (λ _. k_give c p v)))
        (code_follows c p larger footprints g f base go wgo kc calls moves f.body [] s1 w1 ok.sites ok.dues ok.bare ok.tests at1)
        (λ flow y t u ft k. subst (λ y. Follows (Called p g base s w) (core.chain (running.returned c f flow) (λ v. core.chain (core.change (λ q. record q { owned = s.owned ++ q.owned; words = s.words; outcomes = s.outcomes })) (λ _. core.give v)) t)
        (watch.chain (watching.returned c p g f y) (λ v. watch.chain (watch.change (λ q. record q { words = w.words; marks = w.marks })) (λ _. watch.give v)) u)) (sym k.0)
        (follows_on c p (Ended g base) (Called p g base s w) (running.returned c f flow t) (watching.returned c p g f flow u)
        (λ v. core.chain (core.change (λ q. record q { owned = s.owned ++ q.owned; words = s.words; outcomes = s.outcomes })) (λ _. core.give v)) (λ v. watch.chain (watch.change (λ q. record q { words = w.words; marks = w.marks })) (λ _. watch.give v))
        (returned_follows g f base (code_returns f.body) flow t u k.1 (keeps_on c p (running.returned c f flow t) (λ v. core.chain (core.change (λ q. record q { owned = s.owned ++ q.owned; words = s.words; outcomes = s.outcomes })) (λ _. core.give v)) (λ v. k_chain c p _ _ (k_change c p _ (λ q. refl) (λ q. refl)) (λ _. k_give c p v)) ft))
        (λ x y z v fz q. record {
          word = q.0;
          alike = record { words = alike.words; heap = q.1.alike.heap; input = q.1.alike.input; output = q.1.alike.output; steps = q.1.alike.steps; turns = q.1.alike.turns };
          own = z.owned;
          owns_is = refl;
          knows = q.1.knows;
          outcomes_are = refl;
          marks_are = refl;
        }) ft)) fine
      where
        s0 : CoreState
        s0 = record s { owned = start; words = first_words f args; outcomes = no_outcomes (Some f) }

        w0 : WatchState
        w0 = record w { words = first_words f args; marks = replicate (marks_of p g f) None }

        at0 : At p g base (start ∷ []) s0 w0
        at0 = record { alike = record { words = refl; heap = alike.heap; input = alike.input; output = alike.output; steps = alike.steps; turns = alike.turns }; knows = knows; agrees = agree_none g f }

        s1 : CoreState
        s1 = marked_state c p g (start_at g) Produce f.before.parts (Some args) s0

        w1 : WatchState
        w1 = marked_watch c p g (start_at g) Produce f.before.parts (Some args) w0

        at1 : At p g base (s1.owned ∷ []) s1 w1
        at1 = mark_at c p g (start_at g) Produce f.before.parts (Some args) (Some args) base [] s0 w0 refl (λ t. refl) at0

  moves_at : (k : ℕ) → MovesCalls (running.calls_at k c)
  moves_at k h args start s t v inside is = (frames c k h args start s t v inside is).owned

  calls_do : (k : ℕ) → CallsFollow c p (running.calls_at k c) (watching.calls_at k c p)
  unfolding core.end watch.end
  calls_do zero h args start base s w alike knows fine = record { ending = refl; output = alike.output; view = refl }
  calls_do (suc k) h args start base s w alike knows fine = by_function (calls_do k) (slice_get c.functions h) refl fine
    where
      by_function : CallsFollow c p (running.calls_at k c) (watching.calls_at k c p) → (o : Option CoreFunction) → slice_get c.functions h ≡ o → Fine c p (core.state_of (running.called c (running.calls_at k c) h o args start s)) →
          Follows (Called p h base s w) (running.called c (running.calls_at k c) h o args start s) (watching.called c p (watching.calls_at k c p) h o args w)
      by_function more None e ft = record { ending = refl; output = alike.output; view = refl }
      by_function more (Some f) e ft = function_does (running.calls_at k c) (watching.calls_at k c p) (k_calls c p k) more (moves_at k) h f (functions h f e) args start base s w alike knows ft

  -- ---- the whole run
  abbrev base0 : Bool → List Cells
  base0 b = if b then [] else [] ∷ []

  knows0 : (b : Bool) → Knows b (base0 b) ([] ∷ []) ([] ∷ [])
  knows0 true = (λ d. refl, refl)
  knows0 false = refl

  agree0 : (o : Option CoreFunction) → Agree p c.main (replicate (main_marks p c.main o) None) (no_outcomes o)
  agree0 None = record { marked = λ n e. refl; long = λ t. refl }
  agree0 (Some f) = agree_none c.main f

  nothing : (start owned : Cells) → owned ≡ [] → Within start owned → Same owned start
  nothing start owned e h d = ap (λ o. owns o d) e ∙ none (owns start d) (λ t. sym (h d t) ∙ ap (λ o. owns o d) e)
    where
      none : (b : Bool) → (b ≡ true → true ≡ false) → false ≡ b
      none true f = sym (f refl)
      none false f = refl

  pub run_follows : SiteOk c p c.main (start_at c.main) (of_formula false (before_of (slice_get c.functions c.main))) → (input : List ℕ) (n : ℕ) → Fine c p (core.state_of (running.run c n (running.started c input n))) →
      Follows (λ x y t u. (y ≡ x) × Alike t u) (running.run c n (running.started c input n)) (watching.run c p n (watching.started c p input n))
  run_follows ok input n fine =
      thus c p (Consumed c p c.main before [] [] (base0 (is_tracked p c.main)) [] s w) (λ x y t u. (y ≡ x) × Alike t u) (running.consume c (start_at c.main) before [] []) (watching.consume c p c.main (start_at c.main) before []) (running.calls_at (suc n) c c.main []) (λ _. watching.calls_at (suc n) c p c.main []) s w
      (λ start. k_calls c p (suc n) c.main [] start)
      (consume_follows c p c.main (start_at c.main) before [] [] (base0 (is_tracked p c.main)) [] s w ok at)
      (λ start y t u ft k. Rattle.watched_core.proofs.Follow.follows_to (Called p c.main (base0 (is_tracked p c.main)) t u) (λ x y t u. (y ≡ x) × Alike t u) (running.calls_at (suc n) c c.main [] start t) (watching.calls_at (suc n) c p c.main [] u) (λ x y z v q. (q.word, q.alike))
      (calls_do (suc n) c.main [] start (base0 (is_tracked p c.main)) t u k.at.alike
      (knows_set (is_tracked p c.main) (base0 (is_tracked p c.main)) [] u.levels [] start (nothing start [] refl (subst (λ o. Within o []) (sym k.starts) (start_within before k.foot [] (footprints c.predicates before [] [] [] k.foot k.found).0))) k.at.knows) ft)) fine
    where
      before : Formula
      before = before_of (slice_get c.functions c.main)

      s : CoreState
      s = running.started c input n

      w : WatchState
      w = watching.started c p input n

      at : At p c.main (base0 (is_tracked p c.main)) ([] ∷ []) s w
      at = record { alike = record { words = refl; heap = refl; input = refl; output = refl; steps = refl; turns = refl }; knows = knows0 (is_tracked p c.main); agrees = agree0 (slice_get c.functions c.main) }

-- what follows shows the same
pub shows : (o : core.Out ℕ) (i : watch.Out ℕ) → Follows (λ x y t u. (y ≡ x) × Alike t u) o i → Shows o (watching.shown i)
shows (core.Next x s) (watch.Next y w) k = record { output = k.1.output; ending = ap (λ v. Rattle.gc0_base.specs.declared.site.Ending.TheVariants.Returned record { 0 = v }) k.0; view = refl }
shows (core.Ends e s) (watch.Ends i v w) k = record { output = k.output; ending = k.ending; view = k.view }
shows (core.Next x s) (watch.Ends i v w) k = absurd k
shows (core.Ends e s) (watch.Next y w) k = absurd k
