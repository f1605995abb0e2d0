-- Calls: the level of a tracked callee, and what a bare callee made.
use Rattle.std.proofs.Common.{◌≡◌, ℕ, zero, suc, Bool, true, false, ◌||◌, List, [], ◌∷◌, ◌++◌, length, Option, Some, refl, sym, ap, ◌∙◌, subst, arith}
use Rattle.std.specs.Prelude.{if◌then◌else◌}
use Rattle.gc0_base.specs.declared.site.Site.{Site}
use Rattle.gc0_tree.specs.Tree.{Formula}
use Rattle.core_tree.specs.declared.Phase.TheVariants.{Produce}
use Rattle.core_tree.specs.CoreTree.{CoreFunction, Core}
use Rattle.c0_meaning.specs.Heaps.{Cell, Cells, Heap, owns}
use Rattle.c0_meaning.specs.Holds.{holds}
use Rattle.c0_meaning.specs.Running.{start_of}
use Rattle.footprint_laws.specs.FootprintLaws.{Within, footprint_law}
use Rattle.frame_laws.specs.FrameLaws.{made}
use Rattle.core_meaning.specs.CoreRuns as core
use Rattle.core_meaning.specs.CoreRuns.{CoreState}
use Rattle.core_meaning.specs.CoreRunning as running
use Rattle.core_meaning.specs.CoreRunning.{before_of, after_of, results_of}
use Rattle.core_checks.specs.Subjects.{of_formula}
use Rattle.core_checks.specs.Placements.{Placement, is_tracked}
use Rattle.watched_core.specs.WatchRuns as watch
use Rattle.watched_core.specs.WatchRuns.{WatchState, top_of, closed, added, cells_since}
use Rattle.watched_core.specs.Watching as watching
use Rattle.watched_core.specs.Watching.{opening, opened, left}
use Rattle.watched_core.specs.WatchLaws.{Same}
use Rattle.watched_core.proofs.Sets.{same_refl, owns_join}
use Rattle.watched_core.proofs.Fine.{Fine, KeepsCalls, k_chain, k_give, k_mark}
use Rattle.watched_core.proofs.Follow.{false_true, Knows, Nested, top_same, knows_over, knows_set, nested_close, nested_add, Agree, Alike, At, Post, Follows, thus, thus_is}
use Rattle.watched_core.proofs.Deciding.{SiteOk, mark_at, Consumed, consume_follows}
use Rattle.watched_core.proofs.Loops.{opening_same}
use Rattle.watched_core.proofs.Made.{owns_since}

-- what a call owns at its end beside the caller
pub record Called (p : Placement) (h : ℕ) (base : List Cells) (s : CoreState) (w : WatchState) (x y : ℕ) (t : CoreState) (u : WatchState) : Type 0 where
  pub word : y ≡ x
  pub alike : Alike t u
  pub own : Cells
  pub owns_is : t.owned ≡ s.owned ++ own
  pub knows : Knows (is_tracked p h) base (own ∷ []) u.levels
  pub outcomes_are : t.outcomes ≡ s.outcomes
  pub marks_are : u.marks ≡ w.marks

abbrev pub CallsFollow : Core → Placement → running.Calls → watching.Calls → Type 0
CallsFollow c p go wgo = (h : ℕ) (args : List ℕ) (start : Cells) (base : List Cells) (s : CoreState) (w : WatchState) → Alike s w → Knows (is_tracked p h) base (start ∷ []) w.levels → Fine c p (core.state_of (go h args start s)) →
    Follows (Called p h base s w) (go h args start s) (wgo h args w)

-- a call that starts with a part of what the caller owns owns that and what was made since
abbrev pub MovesCalls : running.Calls → Type 0
MovesCalls go = (h : ℕ) (args : List ℕ) (start : Cells) (s t : CoreState) (v : ℕ) → Within start s.owned → go h args start s ≡ core.Next v t → (d : Cell) → owns t.owned d ≡ (owns s.owned d || made t.heap (length s.heap) d)

pub start_within : (formula : Formula) (foot all : Cells) → Within foot all → Within (start_of formula foot all) all
start_within formula foot all h = by_kind formula.imprecise
  where
    by_kind : (b : Bool) → Within (if b then all else foot) all
    by_kind true d e = e
    by_kind false d e = h d e

module _ (c : Core) (p : Placement) (g : ℕ) (base os : List Cells) (go : running.Calls) (wgo : watching.Calls) (footprints : footprint_law) (kc : KeepsCalls c p go) (calls : CallsFollow c p go wgo) (moves : MovesCalls go)
    (site : Site) (h : ℕ) (callee : Option CoreFunction) (ok : SiteOk c p g site (of_formula false (before_of callee))) (bare : is_tracked p g ≡ false → is_tracked p h ≡ false) where
  abbrev Word : Post ℕ ℕ
  Word x y t u = (y ≡ x) × At p g base (t.owned ∷ os) t u

  -- ---- behind the callee
  abbrev levels_behind : (caller callee : Bool) → ℕ → Heap → List Cells → List Cells
  levels_behind caller true before heap levels = closed levels
  levels_behind true false before heap levels = added (cells_since before heap) levels
  levels_behind false false before heap levels = levels

  behind_is : (a b : Bool) (before : ℕ) (u : WatchState) → watching.behind_call a b before u ≡ watch.Next tt record u { levels = levels_behind a b before u.heap u.levels }
  unfolding watch.change watch.give
  behind_is true true before u = refl
  behind_is false true before u = refl
  behind_is true false before u = refl
  behind_is false false before u = refl

  -- the caller's levels once the callee's has ended, or what it made was taken over
  behind_knows : (a b : Bool) → (a ≡ false → b ≡ false) → (before : ℕ) (heap : Heap) (o own after : Cells) (levels levels' : List Cells) → Knows a base (o ∷ os) levels → Knows b levels (own ∷ []) levels' →
      after ≡ o ++ own → Same after (o ++ cells_since before heap) → Knows a base (after ∷ os) (levels_behind a b before heap levels')
  behind_knows true true sub before heap o own after levels levels' k n e made =
      subst (λ x. Nested base (x ∷ os) (closed levels')) (sym e) (nested_close base os levels' own o (knows_over true base (o ∷ os) levels levels' own n k))
  behind_knows false true sub before heap o own after levels levels' k n e made = false_true (sym (sub refl))
  behind_knows true false sub before heap o own after levels levels' k n e made =
      knows_set true base os (added (cells_since before heap) levels') (o ++ cells_since before heap) after (λ d. sym (made d))
      (nested_add base os levels' o (cells_since before heap) (cells_since before heap) (same_refl (cells_since before heap)) (subst (Nested base (o ∷ os)) (sym n) k))
  behind_knows false false sub before heap o own after levels levels' k n e made = n ∙ k

  -- what `ensures` chooses is marked in the joined set, and the result is given
  marks_last : (xs : List ℕ) (x y : ℕ) (t : CoreState) (u : WatchState) → y ≡ x → At p g base (t.owned ∷ os) t u →
      Follows Word (core.chain (running.mark_over c site Produce (after_of callee) (xs ++ results_of callee x)) (λ _. core.give x) t) (watch.chain (watching.mark_over c p g site Produce (after_of callee) (xs ++ results_of callee y)) (λ _. watch.give y) u)
  unfolding core.chain core.change core.give running.mark watch.chain watch.change watch.give watching.mark
  marks_last xs x y t u e at =
      (e, mark_at c p g site Produce (after_of callee).parts (Some (xs ++ results_of callee x)) (Some (xs ++ results_of callee y)) base os t u ok.of (λ tr. ap (λ v. Some (xs ++ results_of callee v)) e) at)

  -- ---- the call itself, with the callee's level open
  goes : (xs : List ℕ) (start : Cells) (s : CoreState) (w : WatchState) (levels : List Cells) → Within start s.owned → At p g base (s.owned ∷ os) s (record w { levels = levels }) → Knows (is_tracked p h) levels (start ∷ []) w.levels →
      Fine c p (core.state_of (core.chain (go h xs start) (λ v. core.chain (running.mark_over c site Produce (after_of callee) (xs ++ results_of callee v)) (λ _. core.give v)) s)) →
      Follows Word (core.chain (go h xs start) (λ v. core.chain (running.mark_over c site Produce (after_of callee) (xs ++ results_of callee v)) (λ _. core.give v)) s)
      (watch.chain (wgo h xs) (λ v. watch.chain (watching.behind_call (is_tracked p g) (is_tracked p h) (length w.heap)) (λ _. watch.chain (watching.mark_over c p g site Produce (after_of callee) (xs ++ results_of callee v)) (λ _. watch.give v))) w)
  unfolding watch.chain
  goes xs start s w levels inside at kn fine =
      thus_is c p (Called p h levels s w) Word (go h xs start) (wgo h xs) (λ v. core.chain (running.mark_over c site Produce (after_of callee) (xs ++ results_of callee v)) (λ _. core.give v))
      (λ v. watch.chain (watching.behind_call (is_tracked p g) (is_tracked p h) (length w.heap)) (λ _. watch.chain (watching.mark_over c p g site Produce (after_of callee) (xs ++ results_of callee v)) (λ _. watch.give v))) s w
      (λ v. k_chain c p _ _ (k_mark c p _ _ _ _) (λ _. k_give c p v))
      (calls h xs start levels s w record { words = at.alike.words; heap = at.alike.heap; input = at.alike.input; output = at.alike.output; steps = at.alike.steps; turns = at.alike.turns } kn)
      (λ x y t u ft is k. back x y t u k (moves h xs start s t x inside is)) fine
    where
      back : (x y : ℕ) (t : CoreState) (u : WatchState) → Called p h levels s w x y t u → ((d : Cell) → owns t.owned d ≡ (owns s.owned d || made t.heap (length s.heap) d)) →
          Follows Word (core.chain (running.mark_over c site Produce (after_of callee) (xs ++ results_of callee x)) (λ _. core.give x) t)
          (watch.go_on (watching.behind_call (is_tracked p g) (is_tracked p h) (length w.heap) u) (λ _. watch.chain (watching.mark_over c p g site Produce (after_of callee) (xs ++ results_of callee y)) (λ _. watch.give y)))
      back x y t u k grown =
          subst (λ o. Follows Word (core.chain (running.mark_over c site Produce (after_of callee) (xs ++ results_of callee x)) (λ _. core.give x) t) (watch.go_on o (λ _. watch.chain (watching.mark_over c p g site Produce (after_of callee) (xs ++ results_of callee y)) (λ _. watch.give y))))
          (sym (behind_is (is_tracked p g) (is_tracked p h) (length w.heap) u))
          (marks_last xs x y t (record u { levels = levels_behind (is_tracked p g) (is_tracked p h) (length w.heap) u.heap u.levels }) k.word
          record {
            alike = record { words = k.alike.words; heap = k.alike.heap; input = k.alike.input; output = k.alike.output; steps = k.alike.steps; turns = k.alike.turns };
            knows = behind_knows (is_tracked p g) (is_tracked p h) bare (length w.heap) u.heap s.owned k.own t.owned levels u.levels at.knows k.knows k.owns_is all;
            agrees = subst (λ m. Agree p g m t.outcomes) (sym k.marks_are) (subst (Agree p g w.marks) (sym k.outcomes_are) at.agrees);
          })
        where
          all : Same t.owned (s.owned ++ cells_since (length w.heap) u.heap)
          all d = grown d ∙ ap (λ n. owns s.owned d || made t.heap (length n) d) (sym at.alike.heap) ∙ ap (λ hp. owns s.owned d || made hp (length w.heap) d) (sym k.alike.heap)
              ∙ ap (λ x. owns s.owned d || x) (sym (owns_since (length w.heap) u.heap d)) ∙ sym (owns_join s.owned (cells_since (length w.heap) u.heap) d)

  -- ---- the callee's level opens
  open_is : (b : Bool) (words : List ℕ) (u : WatchState) → watching.when b (opened c (before_of callee) words) u ≡ watch.Next tt record u { levels = if b then opening c (before_of callee) words u.heap (top_of u.levels) ∷ u.levels else u.levels }
  unfolding watch.change watch.give
  open_is true words u = refl
  open_is false words u = refl

  open_knows : (b : Bool) (levels : List Cells) (o start : Cells) → (b ≡ true → Same o start) → Knows b levels (start ∷ []) (if b then o ∷ levels else levels)
  open_knows true levels o start e = (e refl, refl)
  open_knows false levels o start e = refl

  both_tracked : (b : Bool) → is_tracked p g ≡ b → is_tracked p h ≡ true → b ≡ true
  both_tracked true e t = refl
  both_tracked false e t = sym (bare e) ∙ t

  abbrev after_consume : List ℕ → Cells → core.Run ℕ
  after_consume xs start = core.chain (go h xs start) (λ v. core.chain (running.mark_over c site Produce (after_of callee) (xs ++ results_of callee v)) (λ _. core.give v))

  abbrev after_check : List ℕ → watch.Run ℕ
  after_check xs =
      watch.chain (watching.when (is_tracked p h) (opened c (before_of callee) xs)) (λ _. watch.chain (watch.get (λ s. length s.heap)) (λ before.
      watch.chain (wgo h xs) (λ v. watch.chain (watching.behind_call (is_tracked p g) (is_tracked p h) before) (λ _. watch.chain (watching.mark_over c p g site Produce (after_of callee) (xs ++ results_of callee v)) (λ _. watch.give v)))))

  opens : (xs : List ℕ) (s : CoreState) (w : WatchState) (start foot : Cells) → At p g base (s.owned ∷ os) s w → holds c.predicates (before_of callee) xs s.heap s.owned ≡ Some foot → start ≡ start_of (before_of callee) foot s.owned →
      Fine c p (core.state_of (after_consume xs start s)) → Follows Word (after_consume xs start s) (after_check xs w)
  unfolding watch.chain watch.get
  opens xs s w start foot at found starts fine =
      subst (λ o. Follows Word (after_consume xs start s) (watch.go_on o (λ _ u. watch.chain (wgo h xs) (λ v. watch.chain (watching.behind_call (is_tracked p g) (is_tracked p h) (length u.heap)) (λ _. watch.chain (watching.mark_over c p g site Produce (after_of callee) (xs ++ results_of callee v)) (λ _. watch.give v))) u)))
      (sym (open_is (is_tracked p h) xs w))
      (goes xs start s w1 w.levels inside record { alike = record { words = at.alike.words; heap = at.alike.heap; input = at.alike.input; output = at.alike.output; steps = at.alike.steps; turns = at.alike.turns }; knows = at.knows; agrees = at.agrees }
      (open_knows (is_tracked p h) w.levels (opening c (before_of callee) xs w.heap (top_of w.levels)) start same) fine)
    where
      w1 : WatchState
      w1 = record w { levels = if is_tracked p h then opening c (before_of callee) xs w.heap (top_of w.levels) ∷ w.levels else w.levels }

      inside : Within start s.owned
      inside = subst (λ o. Within o s.owned) (sym starts) (start_within (before_of callee) foot s.owned (footprints c.predicates (before_of callee) xs s.heap s.owned foot found).0)

      same : is_tracked p h ≡ true → Same (opening c (before_of callee) xs w.heap (top_of w.levels)) start
      same t =
          let top = top_same (is_tracked p g) base os w.levels s.owned (both_tracked (is_tracked p g) refl t) at.knows in
          subst (Same (opening c (before_of callee) xs w.heap (top_of w.levels))) (sym starts)
          (subst (λ hp. Same (opening c (before_of callee) xs hp (top_of w.levels)) (start_of (before_of callee) foot s.owned)) (sym at.alike.heap)
          (opening_same c (before_of callee) xs s.heap (top_of w.levels) s.owned s.owned foot top top found))

  consumes : (xs : List ℕ) (s : CoreState) (w : WatchState) → At p g base (s.owned ∷ os) s w → Fine c p (core.state_of (core.chain (running.consume c site (before_of callee) [] xs) (after_consume xs) s)) →
      Follows Word (core.chain (running.consume c site (before_of callee) [] xs) (after_consume xs) s) (watch.chain (watching.consume c p g site (before_of callee) xs) (λ _. after_check xs) w)
  consumes xs s w at fine =
      thus c p (Consumed c p g (before_of callee) [] xs base os s w) Word (running.consume c site (before_of callee) [] xs) (watching.consume c p g site (before_of callee) xs) (after_consume xs) (λ _. after_check xs) s w
      (λ start. k_chain c p _ _ (kc h xs start) (λ v. k_chain c p _ _ (k_mark c p _ _ _ _) (λ _. k_give c p v)))
      (consume_follows c p g site (before_of callee) [] xs base os s w ok at)
      (λ start y t u ft k. opens xs t u start k.foot (subst (λ o. At p g base (o ∷ os) t u) (sym k.owned_is) k.at)
      (ap (λ hp. holds c.predicates (before_of callee) xs hp t.owned) k.heap_is ∙ ap (holds c.predicates (before_of callee) xs s.heap) k.owned_is ∙ k.found)
      (k.starts ∙ ap (start_of (before_of callee) k.foot) (sym k.owned_is)) ft) fine

  -- the whole call behind its arguments
  pub called_follows : (xs : List ℕ) (s : CoreState) (w : WatchState) → At p g base (s.owned ∷ os) s w → Fine c p (core.state_of (running.called_at c go site h callee xs s)) →
      Follows Word (running.called_at c go site h callee xs s) (watching.called_at c p wgo g site h callee xs w)
  unfolding core.chain watch.chain
  called_follows xs s w at fine = by_turns s.turns w.turns at.alike.turns fine
    where
      by_turns : (m k : ℕ) → k ≡ m → Fine c p (core.state_of (core.go_on (core.take_turn m s) (λ _. core.chain (running.consume c site (before_of callee) [] xs) (after_consume xs)))) →
          Follows Word (core.go_on (core.take_turn m s) (λ _. core.chain (running.consume c site (before_of callee) [] xs) (after_consume xs))) (watch.go_on (watch.take_turn k w) (λ _. watch.chain (watching.consume c p g site (before_of callee) xs) (λ _. after_check xs)))
      by_turns zero zero e ft = record { ending = refl; output = at.alike.output; view = refl }
      by_turns zero (suc k) e ft = absurd cc
      by_turns (suc m) zero e ft = absurd cc
      by_turns (suc m) (suc k) e ft = consumes xs (record s { turns = m }) (record w { turns = k })
          record { alike = record { words = at.alike.words; heap = at.alike.heap; input = at.alike.input; output = at.alike.output; steps = at.alike.steps; turns = (let q : k ≡ m = omega (arith, e) in q) }; knows = at.knows; agrees = at.agrees } ft
