-- Loops: each turn has a level of its own where the function is tracked.
use Rattle.std.proofs.Common.{◌≡◌, ℕ, zero, suc, ◌≤◌, ◌<◌, Bool, true, false, ◌||◌, List, ◌∷◌, ◌++◌, length, take, Option, Some, refl, sym, ap, ◌∙◌, subst, arith, IsTrue}
use Rattle.std.specs.Prelude.{if◌then◌else◌}
use Rattle.gc0_base.specs.declared.site.Site.{Site}
use Rattle.gc0_tree.specs.Tree.{Formula}
use Rattle.core_tree.specs.declared.Phase.TheVariants.{Produce}
use Rattle.core_tree.specs.CoreTree.{CoreFunction, Core}
use Rattle.c0_meaning.specs.Operators.{pick}
use Rattle.c0_meaning.specs.Heaps.{Cells, Heap, owns}
use Rattle.c0_meaning.specs.Holds.{holds}
use Rattle.c0_meaning.specs.Running.{start_of}
use Rattle.footprint_laws.specs.FootprintLaws.{Within, larger_law}
use Rattle.core_meaning.specs.CoreRuns as core
use Rattle.core_meaning.specs.CoreRuns.{CoreState}
use Rattle.core_meaning.specs.CoreRunning as running
use Rattle.core_meaning.specs.CoreRunning.{Flow, On, Back, locals_of, joined, after_turn}
use Rattle.core_checks.specs.Subjects.{of_formula}
use Rattle.core_checks.specs.Placements.{Placement, is_tracked}
use Rattle.watched_core.specs.WatchRuns as watch
use Rattle.watched_core.specs.WatchRuns.{WatchState, top_of, closed}
use Rattle.watched_core.specs.Watching as watching
use Rattle.watched_core.specs.Watching.{opening, found_or_none, opened, left}
use Rattle.watched_core.specs.WatchLaws.{Same}
use Rattle.watched_core.proofs.Sets.{same_trans, owns_join, holds_same}
use Rattle.watched_core.proofs.Fine.{Fine, Keeps, k_chain, k_get, k_give, k_change, k_turn, k_pick, k_turns, k_after, k_consume, k_mark, k_head, k_produced}
use Rattle.watched_core.proofs.Follow.{Knows, top_same, nested_close, Agree, At, Follows, follows_on, assoc, thus_is}
use Rattle.watched_core.proofs.Deciding.{SiteOk, marked_state, marked_watch, mark_at, Consumed, consume_follows}
use Rattle.watched_core.proofs.Straight.{locals_same, FlowAt, Flows}

-- ---- what a level starts with
same_kind : (b : Bool) (o all foot : Cells) (found : Option Cells) → found ≡ Some foot → Same o all → Same (if b then o else found_or_none found) (if b then all else foot)
same_kind true o all foot found e h = h
same_kind false o all foot found e h = λ c. ap (λ x. owns (found_or_none x) c) e

-- the footprint in a set that has the members of another, and all of it
pub opening_same : (c : Core) (formula : Formula) (words : List ℕ) (heap : Heap) (top owned all foot : Cells) → Same top owned → Same top all → holds c.predicates formula words heap owned ≡ Some foot →
    Same (opening c formula words heap top) (start_of formula foot all)
opening_same c formula words heap top owned all foot e f found =
    same_kind formula.imprecise top all foot (holds c.predicates formula words heap top) (holds_same heap top owned e c.predicates formula words ∙ found) f

pub or_self : (a : Bool) → (a || a) ≡ a
or_self true = refl
or_self false = refl

or_within : (a b : Bool) → (IsTrue b → IsTrue a) → (a || b) ≡ a
or_within true b h = refl
or_within false true h = sym (h refl)
or_within false false h = refl

-- ---- turns
module _ (c : Core) (p : Placement) (g : ℕ) (f : CoreFunction) (base os : List Cells) (larger : larger_law) (r : Bool) (entry later : Site) (inv : Formula) (test : core.Run ℕ) (wtest : watch.Run ℕ) (body : core.Run Flow) (wbody : watch.Run Flow)
    (entry_of : entry.function ≡ g) (later_ok : SiteOk c p g later (of_formula false inv)) (kt : Keeps c p test) (kb : Keeps c p body)
    (test_does : (outer : Cells) (s : CoreState) (w : WatchState) → At p g base (s.owned ∷ outer ∷ os) s w → Fine c p (core.state_of (test s)) → Follows (λ x y t u. (y ≡ x) × At p g base (t.owned ∷ outer ∷ os) t u) (test s) (wtest w))
    (body_does : (outer : Cells) (s : CoreState) (w : WatchState) → At p g base (s.owned ∷ outer ∷ os) s w → Fine c p (core.state_of (body s)) → Follows (Flows c p g f base r (outer ∷ os)) (body s) (wbody w)) where
  abbrev head : Site → Cells → core.Run Cells
  head site outer = core.chain (core.get (locals_of f)) (running.consume c site inv outer)

  abbrev produced : core.Run (Unit {0})
  produced = core.chain (core.get (locals_of f)) (running.mark_over c entry Produce inv)

  abbrev turns : ℕ → Site → Cells → core.Run Flow
  turns n site outer = running.turns n head produced test body later site outer

  abbrev behind_test : ℕ → Cells → ℕ → core.Run Flow
  behind_test n outer x = pick x (core.chain (core.change (joined outer)) (λ _. core.give On)) (core.chain body (after_turn (turns n later) outer))

  -- from the start of a level on
  abbrev level : ℕ → Cells → Cells → core.Run Flow
  level n outer start = core.chain (core.change (λ s. record s { owned = start })) (λ _. core.chain produced (λ _. core.chain core.turn (λ _. core.chain test (behind_test n outer))))

  abbrev whead : watch.Run (Unit {0})
  whead = watch.chain (watch.get (watching.locals_of f)) (λ words. watch.chain (watching.when (is_tracked p g) (opened c inv words)) (λ _. watching.mark_over c p g entry Produce inv words))

  abbrev wagain : watch.Run (Unit {0})
  wagain = watch.chain (watch.get (watching.locals_of f)) (watching.consume c p g later inv)

  abbrev wclose : watch.Run (Unit {0})
  wclose = watching.when (is_tracked p g) left

  abbrev wturns : ℕ → watch.Run Flow
  wturns n = watching.turns n whead wtest wbody wagain wclose

  abbrev wflow : ℕ → Flow → watch.Run Flow
  wflow n flow = watching.unless_back flow (watch.chain (watch.chain wagain (λ _. wclose)) (λ _. wturns n))

  abbrev wbehind : ℕ → ℕ → watch.Run Flow
  wbehind n x = pick x (watch.chain wclose (λ _. watch.give On)) (watch.chain wbody (wflow n))

  k_behind : (n : ℕ) (outer : Cells) (x : ℕ) → Keeps c p (behind_test n outer x)
  k_behind n outer x = k_pick c p x _ _ (k_chain c p _ _ (k_change c p (joined outer) (λ s. refl) (λ s. refl)) (λ _. k_give c p On))
      (k_chain c p _ _ kb (k_after c p (turns n later) (k_turns c p head produced test body later (λ site o. k_head c p f site inv o) (k_produced c p f entry inv) kt kb n later) outer))

  k_level : (n : ℕ) (outer start : Cells) → Keeps c p (level n outer start)
  k_level n outer start = k_chain c p _ _ (k_change c p _ (λ s. refl) (λ s. refl)) (λ _. k_chain c p _ _ (k_produced c p f entry inv) (λ _. k_chain c p _ _ (k_turn c p) (λ _. k_chain c p _ _ kt (k_behind n outer))))

  -- ---- a level closes
  close_to : (t : Bool) (levels : List Cells) (a outer : Cells) → Knows t base (a ∷ outer ∷ os) levels → Knows t base ((outer ++ a) ∷ os) (if t then closed levels else levels)
  close_to true levels a outer k = nested_close base os levels a outer k
  close_to false levels a outer k = k

  abbrev levels_after : Bool → List Cells → List Cells
  levels_after t levels = if t then closed levels else levels

  close_is : (t : Bool) (w : WatchState) → watching.when t left w ≡ watch.Next tt record w { levels = levels_after t w.levels }
  unfolding watch.change watch.give
  close_is true w = refl
  close_is false w = refl

  -- with the level closed
  closed_at : (outer : Cells) (s t : CoreState) (w : WatchState) → At p g base (s.owned ∷ outer ∷ os) s w → t.words ≡ s.words → t.heap ≡ s.heap → t.input ≡ s.input → t.output ≡ s.output → t.steps ≡ s.steps → t.turns ≡ s.turns → t.outcomes ≡ s.outcomes →
      At p g base ((outer ++ s.owned) ∷ os) t (record w { levels = levels_after (is_tracked p g) w.levels })
  closed_at outer s t w at ew eh ei eo es et ec = record {
    alike = record { words = at.alike.words ∙ sym ew; heap = at.alike.heap ∙ sym eh; input = at.alike.input ∙ sym ei; output = at.alike.output ∙ sym eo; steps = at.alike.steps ∙ sym es; turns = at.alike.turns ∙ sym et };
    knows = close_to (is_tracked p g) w.levels s.owned outer at.knows;
    agrees = subst (Agree p g w.marks) (sym ec) at.agrees;
  }

  -- ---- a level opens
  open_to : (t : Bool) (w : WatchState) (outer start : Cells) (words : List ℕ) → Knows t base (outer ∷ os) w.levels → (t ≡ true → Same (opening c inv words w.heap (top_of w.levels)) start) →
      Knows t base (start ∷ outer ∷ os) (if t then opening c inv words w.heap (top_of w.levels) ∷ w.levels else w.levels)
  open_to true w outer start words k e = (e refl, k)
  open_to false w outer start words k e = k

  open_is : (t : Bool) (words : List ℕ) (w : WatchState) → watching.when t (opened c inv words) w ≡ watch.Next tt record w { levels = if t then opening c inv words w.heap (top_of w.levels) ∷ w.levels else w.levels }
  unfolding watch.change watch.give
  open_is true words w = refl
  open_is false words w = refl

  -- ---- one turn
  -- what a further head does
  abbrev Further : ℕ → Type 0
  Further n = (outer : Cells) (s : CoreState) (w : WatchState) → s.turns < n → At p g base (s.owned ∷ outer ∷ os) s w → Fine c p (core.state_of (turns n later (outer ++ s.owned) s)) →
      Follows (Flows c p g f base r os) (turns n later (outer ++ s.owned) s) (watch.chain (watch.chain wagain (λ _. wclose)) (λ _. wturns n) w)

  -- the level ends at a false test
  leaves : (outer : Cells) (t : CoreState) (u : WatchState) → At p g base (t.owned ∷ outer ∷ os) t u →
      Follows (Flows c p g f base r os) (core.chain (core.change (joined outer)) (λ _. core.give On) t) (watch.chain wclose (λ _. watch.give On) u)
  unfolding core.chain core.change core.give watch.chain watch.give
  leaves outer t u at =
      subst (λ o. Follows (Flows c p g f base r os) (core.Next On (joined outer t)) (watch.go_on o (λ _. watch.give On))) (sym (close_is (is_tracked p g) u))
      (refl, closed_at outer t (joined outer t) u at refl refl refl refl refl refl refl)

  -- behind the body
  ended : (n : ℕ) → Further n → (outer : Cells) (flow : Flow) (t : CoreState) (u : WatchState) → t.turns < n → FlowAt c p g f base r (outer ∷ os) flow t u → Fine c p (core.state_of (after_turn (turns n later) outer flow t)) →
      Follows (Flows c p g f base r os) (after_turn (turns n later) outer flow t) (wflow n flow u)
  unfolding watch.give
  ended n further outer On t u lt at ft = further outer t u lt at ft
  ended n further outer (Back site v) t u lt k ft = (
    refl,
    (
      k.0,
      k.1,
      record {
        alike = record { words = k.2.alike.words; heap = k.2.alike.heap; input = k.2.alike.input; output = k.2.alike.output; steps = k.2.alike.steps; turns = k.2.alike.turns };
        knows = k.2.knows;
        agrees = k.2.agrees;
      },
    ),
  )

  turned : (n : ℕ) → Further n → (outer : Cells) (x : ℕ) (t : CoreState) (u : WatchState) → t.turns < n → At p g base (t.owned ∷ outer ∷ os) t u → Fine c p (core.state_of (behind_test n outer x t)) →
      Follows (Flows c p g f base r os) (behind_test n outer x t) (wbehind n x u)
  turned n further outer zero t u lt at ft = leaves outer t u at
  turned n further outer (suc x) t u lt at ft =
      thus_is c p (Flows c p g f base r (outer ∷ os)) (Flows c p g f base r os) body wbody (after_turn (turns n later) outer) (wflow n) t u
      (k_after c p (turns n later) (k_turns c p head produced test body later (λ site o. k_head c p f site inv o) (k_produced c p f entry inv) kt kb n later) outer) (body_does outer t u at)
      (λ flow y v z fv is k. subst (λ y. Follows (Flows c p g f base r os) (after_turn (turns n later) outer flow v) (wflow n y z)) (sym k.0) (ended n further outer flow v z (fallen flow v is) k.1 fv)) ft
    where
      fallen : (flow : Flow) (v : CoreState) → body t ≡ core.Next flow v → v.turns < n
      fallen flow v is = let a : v.turns ≤ t.turns = subst (λ o. (core.state_of o).turns ≤ t.turns) is (kb.falls t) in omega (arith, a, lt)

  tested_does : (n : ℕ) → Further n → (outer : Cells) (s : CoreState) (w : WatchState) → s.turns < n → At p g base (s.owned ∷ outer ∷ os) s w → Fine c p (core.state_of (core.chain test (behind_test n outer) s)) →
      Follows (Flows c p g f base r os) (core.chain test (behind_test n outer) s) (watch.chain wtest (wbehind n) w)
  tested_does n further outer s w lt at fine =
      thus_is c p (λ x y t u. (y ≡ x) × At p g base (t.owned ∷ outer ∷ os) t u) (Flows c p g f base r os) test wtest (behind_test n outer) (wbehind n) s w (k_behind n outer) (test_does outer s w at)
      (λ x y t u ft is k. subst (λ y. Follows (Flows c p g f base r os) (behind_test n outer x t) (wbehind n y u)) (sym k.0) (turned n further outer x t u (fallen x t is) k.1 ft)) fine
    where
      fallen : (x : ℕ) (t : CoreState) → test s ≡ core.Next x t → t.turns < n
      fallen x t is = let a : t.turns ≤ s.turns = subst (λ o. (core.state_of o).turns ≤ s.turns) is (kt.falls s) in omega (arith, a, lt)

  -- the turn of a test
  turn_does : (n : ℕ) → Further n → (outer : Cells) (s : CoreState) (w : WatchState) → s.turns ≤ n → At p g base (s.owned ∷ outer ∷ os) s w → Fine c p (core.state_of (core.chain core.turn (λ _. core.chain test (behind_test n outer)) s)) →
      Follows (Flows c p g f base r os) (core.chain core.turn (λ _. core.chain test (behind_test n outer)) s) (watch.chain watch.turn (λ _. watch.chain wtest (wbehind n)) w)
  unfolding core.chain watch.chain
  turn_does n further outer s w le at fine = by_turns s.turns w.turns refl at.alike.turns fine
    where
      by_turns : (m k : ℕ) → s.turns ≡ m → k ≡ m → Fine c p (core.state_of (core.go_on (core.take_turn m s) (λ _. core.chain test (behind_test n outer)))) →
          Follows (Flows c p g f base r os) (core.go_on (core.take_turn m s) (λ _. core.chain test (behind_test n outer))) (watch.go_on (watch.take_turn k w) (λ _. watch.chain wtest (wbehind n)))
      by_turns zero zero e h ft = record { ending = refl; output = at.alike.output; view = refl }
      by_turns zero (suc k) e h ft = absurd cc
      by_turns (suc m) zero e h ft = absurd cc
      by_turns (suc m) (suc k) e h ft = tested_does n further outer (record s { turns = m }) (record w { turns = k }) (omega (arith, e, le))
          record { alike = record { words = at.alike.words; heap = at.alike.heap; input = at.alike.input; output = at.alike.output; steps = at.alike.steps; turns = (let q : k ≡ m = omega (arith, h) in q) }; knows = at.knows; agrees = at.agrees } ft

  -- a level starts: its set is known, and the choices of the invariant are marked in it
  level_does : (n : ℕ) → Further n → (outer start : Cells) (s : CoreState) (w : WatchState) → s.turns ≤ n → At p g base (outer ∷ os) s w → (is_tracked p g ≡ true → Same (opening c inv (locals_of f s) s.heap (top_of w.levels)) start) →
      Fine c p (core.state_of (level n outer start s)) → Follows (Flows c p g f base r os) (level n outer start s) (wturns (suc n) w)
  unfolding core.chain core.change core.get running.mark watch.chain watch.change watch.get watching.mark
  level_does n further outer start s w le at same fine =
      subst (λ o. Follows (Flows c p g f base r os) (level n outer start s) (watch.go_on (watch.go_on o (λ _. watching.mark_over c p g entry Produce inv (watching.locals_of f w))) (λ _. watch.chain watch.turn (λ _. watch.chain wtest (wbehind n))))) (sym (open_is (is_tracked p g) (watching.locals_of f w) w))
      (turn_does n further outer (marked_state c p g entry Produce inv.parts (Some (locals_of f s1)) s1) (marked_watch c p g entry Produce inv.parts (Some (watching.locals_of f w)) w1) le
      (mark_at c p g entry Produce inv.parts (Some (locals_of f s1)) (Some (watching.locals_of f w)) base (outer ∷ os) s1 w1 entry_of (λ t. ap Some words) at1) fine)
    where
      s1 : CoreState
      s1 = record s { owned = start }

      words : watching.locals_of f w ≡ locals_of f s
      words = locals_same f s w at.alike

      w1 : WatchState
      w1 = record w { levels = if is_tracked p g then opening c inv (watching.locals_of f w) w.heap (top_of w.levels) ∷ w.levels else w.levels }

      starts : is_tracked p g ≡ true → Same (opening c inv (watching.locals_of f w) w.heap (top_of w.levels)) start
      starts t = subst (λ ws. Same (opening c inv ws w.heap (top_of w.levels)) start) (sym words) (subst (λ h. Same (opening c inv (locals_of f s) h (top_of w.levels)) start) (sym at.alike.heap) (same t))

      at1 : At p g base (s1.owned ∷ outer ∷ os) s1 w1
      at1 = record {
        alike = record { words = at.alike.words; heap = at.alike.heap; input = at.alike.input; output = at.alike.output; steps = at.alike.steps; turns = at.alike.turns };
        knows = open_to (is_tracked p g) w outer start (watching.locals_of f w) at.knows starts;
        agrees = at.agrees;
      }

  -- ---- all turns
  -- What a level starts with at a head, where the invariant was decided in a set that lies in the enclosing one and has its
  -- footprint there.
  starts_same : (outer inner start foot : Cells) (s t : CoreState) (levels : List Cells) → is_tracked p g ≡ true → Knows (is_tracked p g) base (outer ∷ os) levels → Within inner outer →
      holds c.predicates inv (locals_of f s) s.heap inner ≡ Some foot → start ≡ start_of inv foot (outer ++ inner) → t.words ≡ s.words → t.heap ≡ s.heap → Same (opening c inv (locals_of f t) t.heap (top_of levels)) start
  starts_same outer inner start foot s t levels tr k inside found starts ew eh =
      subst (Same (opening c inv (locals_of f t) t.heap (top_of levels))) (sym starts)
      (subst (λ h. Same (opening c inv (locals_of f t) h (top_of levels)) (start_of inv foot (outer ++ inner))) (sym eh)
      (subst (λ ws. Same (opening c inv (take (length f.locals) ws) s.heap (top_of levels)) (start_of inv foot (outer ++ inner))) (sym ew)
      (opening_same c inv (locals_of f s) s.heap (top_of levels) outer (outer ++ inner) foot top (same_trans (top_of levels) outer (outer ++ inner) top all)
      (larger c.predicates inv (locals_of f s) s.heap inner outer foot inside found))))
    where
      top : Same (top_of levels) outer
      top = top_same (is_tracked p g) base os levels outer tr k

      all : Same outer (outer ++ inner)
      all d = sym (owns_join outer inner d ∙ or_within (owns outer d) (owns inner d) (inside d))

  or_right : (x y : Bool) → y ≡ true → (x || y) ≡ true
  or_right true y e = refl
  or_right false y e = e

  within_join : (a b : Cells) → Within b (a ++ b)
  within_join a b d h = owns_join a b d ∙ or_right (owns a d) (owns b d) h

  -- behind the check of a later head: the level closes, and another one opens
  opens : (n : ℕ) → Further n → (outer start foot : Cells) (s t : CoreState) (u : WatchState) → s.turns ≤ n → holds c.predicates inv (locals_of f s) s.heap s.owned ≡ Some foot → start ≡ start_of inv foot ((outer ++ s.owned) ++ s.owned) → At p g base (s.owned ∷ outer ∷ os) t u →
      t.words ≡ s.words → t.heap ≡ s.heap → t.owned ≡ s.owned → t.turns ≡ s.turns → Fine c p (core.state_of (level n (outer ++ s.owned) start t)) →
      Follows (Flows c p g f base r os) (level n (outer ++ s.owned) start t) (watch.chain wclose (λ _. wturns (suc n)) u)
  unfolding watch.chain
  opens n further outer start foot s t u le found starts at ew eh eo et ft =
      subst (λ o. Follows (Flows c p g f base r os) (level n (outer ++ s.owned) start t) (watch.go_on o (λ _. wturns (suc n)))) (sym (close_is (is_tracked p g) u))
      (level_does n further (outer ++ s.owned) start t u1 (omega (arith, et, le)) at1
      (λ tr. starts_same (outer ++ s.owned) s.owned start foot s t u1.levels tr at1.knows (within_join outer s.owned) found starts ew eh) ft)
    where
      u1 : WatchState
      u1 = record u { levels = levels_after (is_tracked p g) u.levels }

      at1 : At p g base ((outer ++ s.owned) ∷ os) t u1
      at1 = record {
        alike = record { words = at.alike.words; heap = at.alike.heap; input = at.alike.input; output = at.alike.output; steps = at.alike.steps; turns = at.alike.turns };
        knows = close_to (is_tracked p g) u.levels s.owned outer at.knows;
        agrees = at.agrees;
      }

  further_does : (n : ℕ) → Further n
  unfolding core.chain core.get watch.chain watch.get
  further_does zero outer s w lt at fine = absurd (omega (arith, lt))
  further_does (suc n) outer s w lt at fine =
      subst (Follows (Flows c p g f base r os) (turns (suc n) later (outer ++ s.owned) s)) (sym (assoc wagain (λ _. wclose) (λ _. wturns (suc n)) w))
      (subst (λ ws. Follows (Flows c p g f base r os) (turns (suc n) later (outer ++ s.owned) s) (watch.go_on (watching.consume c p g later inv ws w) (λ _. watch.chain wclose (λ _. wturns (suc n))))) (sym (locals_same f s w at.alike))
      (follows_on c p (Consumed c p g inv (outer ++ s.owned) (locals_of f s) base (outer ∷ os) s w) (Flows c p g f base r os) (running.consume c later inv (outer ++ s.owned) (locals_of f s) s) (watching.consume c p g later inv (locals_of f s) w)
      (level n (outer ++ s.owned)) (λ _. watch.chain wclose (λ _. wturns (suc n)))
      (consume_follows c p g later inv (outer ++ s.owned) (locals_of f s) base (outer ∷ os) s w later_ok at (Rattle.watched_core.proofs.Fine.keeps_on c p (running.consume c later inv (outer ++ s.owned) (locals_of f s) s) (level n (outer ++ s.owned)) (k_level n (outer ++ s.owned)) fine))
      (λ start y t u ft k. opens n (further_does n) outer start k.foot s t u (omega (arith, lt)) k.found k.starts k.at k.words_are k.heap_is k.owned_is k.turns_are ft) fine))

  -- the whole loop
  pub loop_does : (s : CoreState) (w : WatchState) → SiteOk c p g entry (of_formula false inv) → At p g base (s.owned ∷ os) s w → Fine c p (core.state_of (running.loop c f entry later inv test body s)) →
      Follows (Flows c p g f base r os) (running.loop c f entry later inv test body s) (watching.loop c p g f entry later inv wtest wbody w)
  unfolding core.chain core.get watch.chain watch.get
  loop_does s w ok at fine =
      subst (λ ws. Follows (Flows c p g f base r os) (running.loop c f entry later inv test body s) (watch.go_on (watching.consume c p g entry inv ws w) (λ _ u. wturns (suc u.turns) u))) (sym (locals_same f s w at.alike))
      (follows_on c p (Consumed c p g inv s.owned (locals_of f s) base os s w) (Flows c p g f base r os) (running.consume c entry inv s.owned (locals_of f s) s) (watching.consume c p g entry inv (locals_of f s) w)
      (level s.turns s.owned) (λ _ u. wturns (suc u.turns) u)
      (consume_follows c p g entry inv s.owned (locals_of f s) base os s w ok at (Rattle.watched_core.proofs.Fine.keeps_on c p (running.consume c entry inv s.owned (locals_of f s) s) (level s.turns s.owned) (k_level s.turns s.owned) fine))
      (λ start y t u ft k. subst (λ n. Follows (Flows c p g f base r os) (level s.turns s.owned start t) (wturns (suc n) u)) (sym (k.at.alike.turns ∙ k.turns_are))
      (level_does s.turns (further_does s.turns) s.owned start t u (omega (arith, k.turns_are)) k.at
      (λ tr. starts_same s.owned s.owned start k.foot s t u.levels tr k.at.knows (λ d h. h) k.found k.starts k.words_are k.heap_is) ft)) fine)
