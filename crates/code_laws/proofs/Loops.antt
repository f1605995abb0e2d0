-- Loops: the check at the entry, and then turns, each of which pays for the jump back to the head.
use Rattle.std.proofs.Common.{◌≡◌, ℕ, zero, suc, ◌+◌, ◌-◌, ◌≤◌, ◌<◌, Bool, true, false, List, [], ◌∷◌, ◌++◌, length, Some, None, slice_get, refl, sym, ap, ◌∙◌, subst, arith, length-append}
use Rattle.gc0_base.specs.declared.site.Site.{Site}
use Rattle.gc0_base.specs.declared.site.Decision.{Decision}
use Rattle.gc0_base.specs.declared.site.Ending.TheVariants.{StepsUsed}
use Rattle.gc0_tree.specs.Tree.{Formula}
use Rattle.core_tree.specs.declared.Simple.{Simple}
use Rattle.core_tree.specs.declared.Phase.TheVariants.{Produce}
use Rattle.core_tree.specs.CoreTree.{CoreFunction, Core}
use Rattle.c0_meaning.specs.Operators.{pick}
use Rattle.core_meaning.specs.CoreRunning.{Flow, On, Back}
use Rattle.core_checks.specs.Placements.{Placement, is_tracked}
use Rattle.watched_core.specs.WatchRuns.{WatchState, Ends, Run, go_on, chain, give, get, change, turn, closed}
use Rattle.watched_core.specs.Watching as watching
use Rattle.watched_core.specs.Watching.{locals_of, opened, left, consume, mark_over, tested, unless_back, turns, loop}
use Rattle.code_laws.specs.Instrs as instr
use Rattle.code_laws.specs.Instrs.{Words, Instr, Code}
use Rattle.code_laws.specs.Machine.{Frame, Machine, on}
use Rattle.code_laws.specs.Coding.{when, open_code, marks, consume_code, branch_code, turn_code, loop_code}
use Rattle.code_laws.proofs.Doing.{HasAt, has_front, has_back, has_within, Spot, spot, at, Does, now, one, to, bind, bind_paid, known, from_spot, jumped, turn_step, unused}
use Rattle.code_laws.proofs.Marks.{mark_over_does}
use Rattle.code_laws.proofs.Checks.{consume_does}
use Rattle.code_laws.proofs.Flows.{no_truth, Flows}
use Rattle.code_laws.proofs.Calls.{open_then}
use Rattle.code_laws.proofs.Branches.{Tested, tested_does}

module _ (c : Core) (p : Placement) (code : Code) (preds : code.predicates ≡ c.predicates) (L : ℕ) (g : ℕ) (f : CoreFunction) (is : List Instr) (callers : List Frame) (small : length is ≤ L) where
  abbrev there : Spot → WatchState → Machine
  there x s = at code L is callers x s

  -- the level of a turn ends
  abbrev closing : List Instr
  closing = when (is_tracked p g) (instr.ownclose ∷ [])

  abbrev close : Run (Unit {0})
  close = watching.when (is_tracked p g) left

  close_does : (b : Bool) (pc : ℕ) (operands : List ℕ) (since : ℕ) (s : WatchState) → s.steps ≤ s.turns → HasAt is pc (when b (instr.ownclose ∷ [])) →
      Does code L is callers 0 (spot pc operands since) s (watching.when b left s) (λ u t y. y ≡ spot (pc + length (when b (instr.ownclose ∷ []))) operands since)
  unfolding change give
  close_does true pc operands since s le h =
      one code L is callers {y = spot (pc + 1) operands since} {t = record s { levels = closed s.levels }} instr.ownclose h.0 refl (omega arith) refl (now code L is callers le refl)
  close_does false pc operands since s le h =
      let q : pc ≡ pc + 0 = omega arith in
      now code L is callers le (ap (λ n. spot n operands since) q)

  module _ (entry later : Site) (inv : Formula) (d : Decision) (a : Simple) (rest_code body_code : List Instr) (test_rest body : Run Flow) (test : Run Flow) (returns ends : Bool)
      (none : (t : WatchState) → test record t { steps = zero } ≡ Ends StepsUsed None record t { steps = zero })
      (some : (t : WatchState) (k : ℕ) → test record t { steps = suc k } ≡ test_rest record t { steps = k }) where
    abbrev over_locals : Words
    over_locals = instr.first (length f.locals)

    abbrev level_code : List Instr
    level_code = when (is_tracked p g) (open_code inv over_locals ∷ [])

    abbrev head_marks : List Instr
    head_marks = marks c p g entry Produce inv over_locals

    abbrev test_code : List Instr
    test_code = instr.step ∷ rest_code

    abbrev branch : List Instr
    branch = branch_code p g d a

    abbrev again_code : List Instr
    again_code = consume_code c p g later inv over_locals

    abbrev next_code : List Instr
    next_code = body_code ++ (again_code ++ closing)

    abbrev turn_whole : List Instr
    turn_whole = turn_code c p g f entry later inv d test_code a body_code

    abbrev head : Run (Unit {0})
    head = chain (get (locals_of f)) (λ words. chain (watching.when (is_tracked p g) (opened c inv words)) (λ u. mark_over c p g entry Produce inv words))

    abbrev again : Run (Unit {0})
    again = chain (get (locals_of f)) (consume c p g later inv)

    abbrev testing : Run ℕ
    testing = chain test (λ u. tested p g d a)

    abbrev Behind : ℕ → Flow → WatchState → Spot → Type 0
    Behind q = Flows c p code L g f is callers q false returns false

    head_does : (q since : ℕ) (s : WatchState) → s.steps ≤ s.turns → HasAt is q (level_code ++ head_marks) →
        Does code L is callers 0 (spot q [] since) s (head s) (λ u t y. y ≡ spot (q + length level_code + length head_marks) [] since)
    unfolding chain get
    head_does q since s le h =
        open_then c p code L preds is callers (mark_over c p g entry Produce inv (locals_of f s)) (is_tracked p g) inv over_locals (locals_of f s) q [] since s (has_front is q level_code head_marks h) refl
        (λ levels. to code L is callers (mark_over_does c p code L is callers g entry Produce inv over_locals (locals_of f s) (q + length level_code) [] since (record s { levels = levels }) (has_back is q level_code head_marks h) refl le) (λ u t y x less fewer. x.0))

    -- the check at the next head, and the end of the turn
    again_does : (q since : ℕ) (s : WatchState) → s.steps ≤ s.turns → HasAt is q (again_code ++ closing) →
        Does code L is callers 0 (spot q [] since) s (chain again (λ u. close) s) (λ u t y. y ≡ spot (q + length (again_code ++ closing)) [] since)
    unfolding get chain give
    again_does q since s le h =
        let n : q + length again_code + length closing ≡ q + length (again_code ++ closing) = omega (arith, length-append again_code closing) in
        bind code L is callers (consume c p g later inv (locals_of f s)) (λ u. close)
        (consume_does c p code preds L is callers g later inv over_locals (locals_of f s) q [] since s le refl (has_front is q again_code closing h))
        (λ u t y x less fewer. known code L is callers close (spot (q + length again_code) [] since) y t t x.0 refl
        (to code L is callers (close_does (is_tracked p g) (q + length again_code) [] since t fewer (has_back is q again_code closing h)) (λ u z y e less fewer. e ∙ ap (λ n. spot n [] since) n)))

    module _ (most : ℕ) (q : ℕ) (has : HasAt is q (turn_whole ++ (instr.jumpback (length turn_whole) ∷ closing))) (body_returns body_ends : Bool) (sub : body_returns ≡ true → returns ≡ true)
        (rest_does : (pc since : ℕ) (t : WatchState) → t.turns ≤ most → t.steps ≤ t.turns → HasAt is pc rest_code → Does code L is callers 0 (spot pc [] since) t (test_rest t) (Flows c p code L g f is callers (pc + length rest_code) false false ends))
        (body_does : (pc since : ℕ) (t : WatchState) → t.turns ≤ most → t.steps ≤ t.turns → HasAt is pc body_code → Does code L is callers 0 (spot pc [] since) t (body t) (Flows c p code L g f is callers (pc + length body_code) false body_returns body_ends)) where
      abbrev behind_head : List Instr
      behind_head = test_code ++ (branch ++ (instr.jumpfalse (length next_code + 1) ∷ next_code))

      abbrev behind_test : List Instr
      behind_test = branch ++ (instr.jumpfalse (length next_code + 1) ∷ next_code)

      abbrev at_step : ℕ
      at_step = q + length level_code + length head_marks

      abbrev at_value : ℕ
      at_value = at_step + 1 + length rest_code

      abbrev at_test_end : ℕ
      at_test_end = at_value + length branch

      abbrev last : ℕ
      last = q + length turn_whole + 1 + length closing

      in_turn : HasAt is q turn_whole
      in_turn = has_front is q turn_whole (instr.jumpback (length turn_whole) ∷ closing) has

      behind_turn : HasAt is (q + length turn_whole) (instr.jumpback (length turn_whole) ∷ closing)
      behind_turn = has_back is q turn_whole (instr.jumpback (length turn_whole) ∷ closing) has

      at_test : HasAt is at_step behind_head
      at_test = has_back is (q + length level_code) head_marks behind_head (has_back is q level_code (head_marks ++ behind_head) in_turn)

      at_branch : HasAt is at_value behind_test
      at_branch = has_back is (at_step + 1) rest_code behind_test at_test.1

      at_jump : HasAt is at_test_end (instr.jumpfalse (length next_code + 1) ∷ next_code)
      at_jump = has_back is at_value branch (instr.jumpfalse (length next_code + 1) ∷ next_code) at_branch

      turn_is : at_test_end + 1 + length next_code ≡ q + length turn_whole
      turn_is = omega (arith, length-append level_code (head_marks ++ behind_head), length-append head_marks behind_head, length-append rest_code behind_test, length-append branch (instr.jumpfalse (length next_code + 1) ∷ next_code))

      fits : length turn_whole < L
      fits =
          let first : q + length (turn_whole ++ (instr.jumpback (length turn_whole) ∷ closing)) ≤ length is = within q (turn_whole ++ (instr.jumpback (length turn_whole) ∷ closing)) has (omega (arith, length-append turn_whole (instr.jumpback (length turn_whole) ∷ closing))) in
          omega (arith, first, small, length-append turn_whole (instr.jumpback (length turn_whole) ∷ closing))
        where
          within : (q : ℕ) (is' : List Instr) → HasAt is q is' → 0 < length is' → q + length is' ≤ length is
          within q [] h lt = absurd (omega (arith, lt))
          within q (i ∷ more) h lt = has_within is q i more h

      abbrev Rounds : ℕ → Type 0
      Rounds n = (since : ℕ) (s : WatchState) → s.turns < n → s.turns ≤ most → s.steps ≤ s.turns → Does code L is callers 0 (spot q [] since) s (turns n head testing body again close s) (Behind last)

      -- one turn, where the further ones do what they should
      turn_by : (n : ℕ) → Rounds n → Rounds (suc n)
      unfolding chain give
      turn_by n further since s lt le ready =
          bind code L is callers head (λ u. chain turn (λ u. whole)) (head_does q since s ready (has_front is q (level_code ++ head_marks) behind_head (regroup level_code head_marks behind_head q in_turn)))
          (λ u t y e less fewer. known code L is callers (chain turn (λ u. whole)) (spot at_step [] since) y t t e refl
          (turn_step code L is callers whole rest none' some' at_test.0 fewer (λ v ew below fewer'. test_part since v (omega (arith, below, less, lt)) (omega (arith, below, less, le)) fewer')))
        where
          regroup : (a b c : List Instr) (q : ℕ) → HasAt is q (a ++ (b ++ c)) → HasAt is q ((a ++ b) ++ c)
          regroup [] b c q h = h
          regroup (i ∷ a) b c q h = (h.0, regroup a b c (q + 1) h.1)

          rounds : Run Flow
          rounds = turns n head testing body again close

          on_again : Run Flow
          on_again = chain (chain again (λ u. close)) (λ u. rounds)

          by_value : ℕ → Run Flow
          by_value x = pick x (chain close (λ u. give On)) (chain body (λ flow. unless_back flow on_again))

          whole : Run Flow
          whole = chain testing by_value

          rest : Run Flow
          rest = chain (chain test_rest (λ u. tested p g d a)) by_value

          none' : (t : WatchState) → whole record t { steps = zero } ≡ Ends StepsUsed None record t { steps = zero }
          none' t = ap (λ o. go_on (go_on o (λ u. tested p g d a)) by_value) (none t)

          some' : (t : WatchState) (k : ℕ) → whole record t { steps = suc k } ≡ rest record t { steps = k }
          some' t k = ap (λ o. go_on (go_on o (λ u. tested p g d a)) by_value) (some t k)

          -- behind the body
          after : (flow : Flow) (t : WatchState) (y : Spot) → Flows c p code L g f is callers (at_test_end + 1 + length body_code) false body_returns body_ends flow t y → t.turns < n → t.turns ≤ most → t.steps ≤ t.turns →
              Does code L is callers L y t (unless_back flow on_again t) (Behind last)
          after (Back site v) t y x lt le fewer = unused code L is callers (now code L is callers fewer (x.0, x.1, sub x.2))
          after On t y x lt le fewer =
              let n : at_test_end + 1 + length body_code + length (again_code ++ closing) ≡ q + length turn_whole = omega (arith, turn_is, length-append body_code (again_code ++ closing)) in
              let back : q + length turn_whole - q ≡ length turn_whole = omega arith in
              from_spot code L is callers (at_test_end + 1 + length body_code) [] x.0 x.1
              (bind_paid code L is callers (chain again (λ u. close)) (λ u. rounds)
              (again_does (at_test_end + 1 + length body_code) y.since t fewer (has_back is (at_test_end + 1) body_code (again_code ++ closing) at_jump.1))
              (λ u z y' e less fewer'. known code L is callers rounds (spot (q + length turn_whole) [] y.since) y' z z (e ∙ ap (λ n. spot n [] y.since) n) refl
              (jumped code L is callers q (subst (λ i. slice_get is (q + length turn_whole) ≡ Some (instr.jumpback i)) (sym back) behind_turn.0) (omega arith) (omega (arith, fits))
              (further y.since z (omega (arith, less, lt)) (omega (arith, less, le)) fewer'))))

          by_truth : (x since : ℕ) (t : WatchState) → t.turns < n → t.turns ≤ most → t.steps ≤ t.turns → Does code L is callers L (spot at_test_end (x ∷ []) since) t (by_value x t) (Behind last)
          by_truth zero since t lt le fewer =
              let n : at_test_end + 1 + (length next_code + 1) ≡ q + length turn_whole + 1 = omega (arith, turn_is) in
              one code L is callers {y = spot (q + length turn_whole + 1) [] since} {t = t} (instr.jumpfalse (length next_code + 1)) at_jump.0 (ap (λ i. on (there (spot i [] since) t)) n) (omega (arith, turn_is)) refl
              (unused code L is callers (bind code L is callers close (λ u. give On) (close_does (is_tracked p g) (q + length turn_whole + 1) [] since t fewer behind_turn.1)
              (λ u z y e less fewer. known code L is callers (give On) (spot last [] since) y z z e refl (now code L is callers fewer (refl, refl, λ h. no_truth h, refl)))))
          by_truth (suc x) since t lt le fewer =
              one code L is callers {y = spot (at_test_end + 1) [] since} {t = t} (instr.jumpfalse (length next_code + 1)) at_jump.0 refl (omega arith) refl
              (bind_paid code L is callers body (λ flow. unless_back flow on_again) (body_does (at_test_end + 1) since t le fewer (has_front is (at_test_end + 1) body_code (again_code ++ closing) at_jump.1))
              (λ flow z y x less fewer. after flow z y x (omega (arith, less, lt)) (omega (arith, less, le)) fewer))

          -- the test runs on to its value
          test_flow : (flow : Flow) (t : WatchState) (y : Spot) → Flows c p code L g f is callers at_value false false ends flow t y → t.steps ≤ t.turns → Does code L is callers 0 y t (tested p g d a t) (Tested c p code L g f is callers at_test_end)
          test_flow (Back site v) t y x fewer = no_truth x.2
          test_flow On t y x fewer =
              from_spot code L is callers at_value [] x.0 x.1 (tested_does c p code L g f is callers d a at_value y.since t fewer (has_front is at_value branch (instr.jumpfalse (length next_code + 1) ∷ next_code) at_branch))

          test_part : (since : ℕ) (t : WatchState) → t.turns < n → t.turns ≤ most → t.steps ≤ t.turns → Does code L is callers L (spot (at_step + 1) [] since) t (rest t) (Behind last)
          test_part since t lt le fewer =
              bind_paid code L is callers (chain test_rest (λ u. tested p g d a)) by_value
              (bind code L is callers test_rest (λ u. tested p g d a) (rest_does (at_step + 1) since t le fewer (has_front is (at_step + 1) rest_code behind_test at_test.1))
              (λ flow z y x less fewer. test_flow flow z y x fewer))
              (λ x z y e less fewer. from_spot code L is callers at_test_end (x ∷ []) e.0 e.1 (by_truth x y.since z (omega (arith, less, lt)) (omega (arith, less, le)) fewer))

      turns_do : (n : ℕ) → Rounds n
      turns_do zero since s lt le ready = absurd (omega (arith, lt))
      turns_do (suc n) since s lt le ready = turn_by n (turns_do n) since s lt le ready

    -- the whole loop
    pub loop_does : (most : ℕ) (body_returns body_ends : Bool) → (body_returns ≡ true → returns ≡ true) →
        ((pc since : ℕ) (t : WatchState) → t.turns ≤ most → t.steps ≤ t.turns → HasAt is pc rest_code → Does code L is callers 0 (spot pc [] since) t (test_rest t) (Flows c p code L g f is callers (pc + length rest_code) false false ends)) →
        ((pc since : ℕ) (t : WatchState) → t.turns ≤ most → t.steps ≤ t.turns → HasAt is pc body_code → Does code L is callers 0 (spot pc [] since) t (body t) (Flows c p code L g f is callers (pc + length body_code) false body_returns body_ends)) →
        (pc since : ℕ) (s : WatchState) → s.turns ≤ most → s.steps ≤ s.turns → HasAt is pc (loop_code c p g f entry later inv d test_code a body_code) →
        Does code L is callers 0 (spot pc [] since) s (loop c p g f entry later inv testing body s) (Behind (pc + length (loop_code c p g f entry later inv d test_code a body_code)))
    unfolding chain get
    loop_does most body_returns body_ends sub rest_does body_does pc since s le ready has =
        bind code L is callers (consume c p g entry inv (locals_of f s)) (λ u. chain (get (λ s. s.turns)) (λ n. turns (suc n) head testing body again close))
        (consume_does c p code preds L is callers g entry inv over_locals (locals_of f s) pc [] since s ready refl (has_front is pc entry_code further has))
        (λ u t y x less fewer. known code L is callers (chain (get (λ s. s.turns)) (λ n. turns (suc n) head testing body again close)) (spot q [] since) y t t x.0 refl
        (subst (λ n. Does code L is callers 0 (spot q [] since) t (turns (suc t.turns) head testing body again close t) (Behind n)) end_is
        (turns_do most q (has_back is pc entry_code further has) body_returns body_ends sub rest_does body_does (suc t.turns) since t (omega arith) (omega (arith, less, le)) fewer)))
      where
        entry_code : List Instr
        entry_code = consume_code c p g entry inv over_locals

        further : List Instr
        further = turn_whole ++ (instr.jumpback (length turn_whole) ∷ closing)

        q : ℕ
        q = pc + length entry_code

        end_is : q + length turn_whole + 1 + length closing ≡ pc + length (entry_code ++ further)
        end_is = omega (arith, length-append entry_code further, length-append turn_whole (instr.jumpback (length turn_whole) ∷ closing))
