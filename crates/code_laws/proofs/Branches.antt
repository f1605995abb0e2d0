-- Tests and their marks, and statements with two branches.
use Rattle.std.proofs.Common.{◌≡◌, ℕ, zero, suc, ◌+◌, ◌≤◌, Bool, true, false, not, ◌&&◌, ◌||◌, eqb, List, [], ◌∷◌, ◌++◌, length, Some, if◌then◌else◌, slice_set, refl, ap, ◌∙◌, arith, length-append}
use Rattle.gc0_base.specs.declared.site.Decision.{Decision}
use Rattle.core_tree.specs.declared.Simple.{Simple}
use Rattle.core_tree.specs.CoreTree.{CoreFunction, Core}
use Rattle.c0_meaning.specs.Operators.{pick}
use Rattle.core_meaning.specs.CoreRunning.{Flow, On, Back}
use Rattle.core_checks.specs.Placements.{Placement}
use Rattle.watched_core.specs.WatchRuns.{WatchState, Next, Run, chain, give, get, change}
use Rattle.watched_core.specs.Watching.{is_marked, word_of, tested}
use Rattle.code_laws.specs.Instrs as instr
use Rattle.code_laws.specs.Instrs.{Instr, Code}
use Rattle.code_laws.specs.Machine.{Frame, Machine, on}
use Rattle.code_laws.specs.Coding.{when, branch_code, if_code}
use Rattle.code_laws.proofs.Doing.{HasAt, has_front, has_back, Spot, spot, at, Does, now, one, to, bind, more, from_spot}
use Rattle.code_laws.proofs.Flows.{no_truth, or_left, or_right, and_no, and_not, Flows, simple_then}

module _ (c : Core) (p : Placement) (code : Code) (L : ℕ) (g : ℕ) (f : CoreFunction) (is : List Instr) (callers : List Frame) where
  abbrev there : Spot → WatchState → Machine
  there x s = at code L is callers x s

  -- the value of a test is on the operands
  abbrev pub Tested : ℕ → ℕ → WatchState → Spot → Type 0
  Tested q x t y = (y.next ≡ q) × (y.operands ≡ x ∷ [])

  pub tested_does : (d : Decision) (a : Simple) (pc since : ℕ) (s : WatchState) → s.steps ≤ s.turns → HasAt is pc (branch_code p g d a) →
      Does code L is callers 0 (spot pc [] since) s (tested p g d a s) (Tested (pc + length (branch_code p g d a)))
  unfolding chain get change give
  tested_does d a pc since s le h = simple_then c p code L g f is callers a pc [] since s h.0 (by_mark (is_marked p g d) h.1)
    where
      x : ℕ
      x = word_of a s

      by_mark : (b : Bool) → HasAt is (pc + 1) (when b (instr.markbranch d.number ∷ [])) →
          Does code L is callers 0 (spot (pc + 1) (x ∷ []) since) s (Next x record s { marks = if b then slice_set s.marks d.number (Some (not (eqb x 0))) else s.marks }) (Tested (pc + suc (length (when b (instr.markbranch d.number ∷ [])))))
      by_mark false h = now code L is callers le (refl, refl)
      by_mark true h =
          let n : pc + 1 + 1 ≡ pc + 2 = omega arith in
          one code L is callers {y = spot (pc + 1 + 1) (x ∷ []) since} {t = record s { marks = slice_set s.marks d.number (Some (not (eqb x 0))) }} (instr.markbranch d.number) h.0 refl (omega arith) refl (now code L is callers le (n, refl))

  -- both branches come to what stands behind them
  pub if_does : (d : Decision) (a : Simple) (these_code those_code : List Instr) (these those : Run Flow) (ra ea rb eb : Bool) (pc since : ℕ) (s : WatchState) → s.steps ≤ s.turns → HasAt is pc (if_code p g d a these_code those_code) →
      ((q since : ℕ) (t : WatchState) → t.turns ≤ s.turns → t.steps ≤ t.turns → HasAt is q these_code → Does code L is callers 0 (spot q [] since) t (these t) (Flows c p code L g f is callers (q + length these_code) false ra ea)) →
      ((q since : ℕ) (t : WatchState) → t.turns ≤ s.turns → t.steps ≤ t.turns → HasAt is q those_code → Does code L is callers 0 (spot q [] since) t (those t) (Flows c p code L g f is callers (q + length those_code) false rb eb)) →
      Does code L is callers 0 (spot pc [] since) s (chain (tested p g d a) (λ x. pick x those these) s) (Flows c p code L g f is callers (pc + length (if_code p g d a these_code those_code)) false (ra || rb) (ea && eb))
  unfolding give
  if_does d a these_code those_code these those ra ea rb eb pc since s le h do_these do_those =
      bind code L is callers (tested p g d a) (λ x. pick x those these)
      (tested_does d a pc since s le (has_front is pc test_code (instr.jumpfalse (length these_code + 1) ∷ (these_code ++ tail)) h))
      (λ x t y e less fewer. from_spot code L is callers q (x ∷ []) e.0 e.1 (by_truth x t y.since less fewer))
    where
      test_code : List Instr
      test_code = branch_code p g d a

      tail : List Instr
      tail = instr.jump (length those_code) ∷ those_code

      q : ℕ
      q = pc + length test_code

      whole : ℕ
      whole = length (if_code p g d a these_code those_code)

      has_jump : HasAt is q (instr.jumpfalse (length these_code + 1) ∷ (these_code ++ tail))
      has_jump = has_back is pc test_code (instr.jumpfalse (length these_code + 1) ∷ (these_code ++ tail)) h

      has_tail : HasAt is (q + 1 + length these_code) tail
      has_tail = has_back is (q + 1) these_code tail has_jump.1

      ends_at : q + 1 + length these_code + 1 + length those_code ≡ pc + whole
      ends_at = omega (arith, length-append test_code (instr.jumpfalse (length these_code + 1) ∷ (these_code ++ tail)), length-append these_code tail)

      Q : Flow → WatchState → Spot → Type 0
      Q = Flows c p code L g f is callers (pc + whole) false (ra || rb) (ea && eb)

      -- behind the first branch
      jumps : (flow : Flow) (t : WatchState) (y : Spot) → Flows c p code L g f is callers (q + 1 + length these_code) false ra ea flow t y → t.steps ≤ t.turns → Does code L is callers 0 y t (Next flow t) Q
      jumps (Back site v) t y x le = now code L is callers le (x.0, x.1, or_left ra rb x.2)
      jumps On t y x le =
          let n : q + 1 + length these_code + 1 + length those_code ≡ pc + whole = ends_at in
          from_spot code L is callers (q + 1 + length these_code) [] x.0 x.1
          (one code L is callers {y = spot (q + 1 + length these_code + 1 + length those_code) [] y.since} {t = t} (instr.jump (length those_code)) has_tail.0 refl (omega arith) refl
          (now code L is callers le (n, refl, λ h. no_truth h, and_no ea eb x.3)))

      after : (flow : Flow) (t : WatchState) (y : Spot) → Flows c p code L g f is callers (q + 1 + length these_code + 1 + length those_code) false rb eb flow t y → Q flow t y
      after (Back site v) t y x = (x.0, x.1, or_right ra rb x.2)
      after On t y x = (x.0 ∙ ends_at, x.1, λ h. no_truth h, and_not ea eb x.3)

      by_truth : (x : ℕ) (t : WatchState) (since : ℕ) → t.turns ≤ s.turns → t.steps ≤ t.turns → Does code L is callers 0 (spot q (x ∷ []) since) t (pick x those these t) Q
      by_truth zero t since less fewer =
          let n : q + 1 + (length these_code + 1) ≡ q + 1 + length these_code + 1 = omega arith in
          one code L is callers {y = spot (q + 1 + length these_code + 1) [] since} {t = t} (instr.jumpfalse (length these_code + 1)) has_jump.0 (ap (λ i. on (there (spot i [] since) t)) n) (omega arith) refl
          (to code L is callers (do_those (q + 1 + length these_code + 1) since t less fewer has_tail.1) (λ flow u y x a b. after flow u y x))
      by_truth (suc x) t since less fewer =
          one code L is callers {y = spot (q + 1) [] since} {t = t} (instr.jumpfalse (length these_code + 1)) has_jump.0 refl (omega arith) refl
          (more code L is callers (do_these (q + 1) since t less fewer (has_front is (q + 1) these_code tail has_jump.1)) (λ flow u y x a b. jumps flow u y x b))
