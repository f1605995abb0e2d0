-- Worked programs: their cores do what the programs do, and each branch and choice has its own decision. They test the
-- definitions.
use Rattle.std.specs.Prelude.{◌≡◌, ℕ, ◌+◌, true, false, List, [], ◌∷◌, map, Option, Some, None, codes, slice_get}
use Rattle.gc0_base.specs.declared.site.Kind.TheVariants.{Requires, Again}
use Rattle.gc0_base.specs.declared.site.Ending.TheVariants.{Returned, Stop, StepsUsed}
use Rattle.gc0_tree.specs.declared.Shape.TheVariants as shape
use Rattle.gc0_tree.specs.declared.ExprOp.TheVariants as op
use Rattle.gc0_tree.specs.Tree.{Tree, number_at, truth_at, local_at, binary_at, both_at, choose_at, call_at, no_parts, value_part, choice_part, Formula, assign_at, if_at, while_at, return_at, no_stmts, stmt_and, Function, Program}
use Rattle.core_tree.specs.declared.Origin.{Origin}
use Rattle.core_tree.specs.CoreTree.{CoreFunction, Core}
use Rattle.core_tree.specs.CoreSites.{row_at}
use Rattle.c0_meaning.specs.Running.{sites}
use Rattle.c0_meaning.specs.Examples.{place, site, one, only, int, precisely, main_of, program, counting, halving}
use Rattle.core_meaning.specs.CoreRunning.{core_meaning, core_sites}
use Rattle.core_meaning.specs.Deciding.{Due, function_due}
use Rattle.lowering_laws.specs.Tables.{core_of}

abbrev pub core : Program → Core
core = core_of (λ g. false) (λ g. 1)

-- ---- the programs of the meaning
abbrev pub counting_million : Type 0
counting_million = core_meaning (core counting) [] 1000000 ≡ (codes "012", Stop (site 0 Again 0))

abbrev pub counting_13 : Type 0
counting_13 = core_meaning (core counting) [] 13 ≡ (codes "012", StepsUsed)

abbrev pub counting_14 : Type 0
counting_14 = core_meaning (core counting) [] 14 ≡ (codes "012", Stop (site 0 Again 0))

abbrev pub halving_stops : Type 0
halving_stops = core_meaning (core halving) [] 1000000 ≡ ([], Stop (site 1 Requires 1))

abbrev pub halving_sites : Type 0
halving_sites = core_sites (core halving) [] 1000000 ≡ sites halving [] 1000000

-- ---- branches and choices
-- `x < n`, where `x` stands at a place
abbrev pub below : (line column number : ℕ) → Tree
below l c n = binary_at (place l (c + 2)) op.Less (local_at (place l c) 0) (number_at (place l (c + 4)) n)

-- `x < n ? true : true`
abbrev pub either_way : (line column number : ℕ) → Formula
either_way l c n =
    precisely (choice_part (place l (c + 6)) (below l c n) (value_part (truth_at (place l (c + 8)) true) no_parts) (value_part (truth_at (place l (c + 15)) true) no_parts) no_parts)

-- int pick(int x)
-- //@requires x < 1 ? true : true;
-- //@ensures x < 2 ? true : true;
-- {
--   if (x < 1 && x < 2) return 1;
--   while (x < 3 ? true : false)
--   //@loop_invariant x < 4 ? true : true;
--   x = x + 1;
--   return 2;
-- }
abbrev pub pick : Function
pick = record {
  name = codes "pick";
  place = place 1 5;
  close = place 10 1;
  params = 1;
  locals = int ∷ [];
  result = Some shape.Int;
  before = either_way 2 13 1;
  after = either_way 3 12 2;
  body =
      stmt_and (if_at (place 5 3) (both_at (place 5 13) (below 5 7 1) (below 5 16 2)) (return_at (place 5 23) (one (number_at (place 5 30) 1))) no_stmts)
      (stmt_and (while_at (place 6 3) (either_way 7 21 4) (choose_at (place 6 16) (below 6 10 3) (truth_at (place 6 18) true) (truth_at (place 6 25) false))
      (assign_at (place 8 3) 0 None (place 8 5) (binary_at (place 8 9) op.Add (local_at (place 8 7) 0) (number_at (place 8 11) 1))))
      (only (return_at (place 9 3) (one (number_at (place 9 10) 2)))));
}

-- int main() { return pick(1 + pick(0)); }
abbrev pub choosing : Program
choosing = program (pick ∷ main_of 11 5 []
    (only (return_at (place 11 14) (one (call_at (place 11 21) 0 (one (binary_at (place 11 28) op.Add (number_at (place 11 26) 1) (call_at (place 11 30) 0 (one (number_at (place 11 35) 0))))))))) ∷ []) 1

abbrev pub choosing_returns : Type 0
choosing_returns = core_meaning (core choosing) [] 1000000 ≡ ([], Returned record { 0 = 2 })

abbrev pub due_in : ℕ → Option CoreFunction → List Due
due_in g None = []
due_in g (Some f) = function_due (core choosing) g f

abbrev pub numbers_due : ℕ → List ℕ
numbers_due g = map (λ x. x.decision.number) (due_in g (slice_get (core choosing).functions g))

abbrev pub origins_due : ℕ → List Origin
origins_due g = map (λ x. x.origin) (due_in g (slice_get (core choosing).functions g))

abbrev pub origins_in : Option CoreFunction → List Origin
origins_in None = []
origins_in (Some f) = map (λ d. d.origin) f.decisions

-- the start; `&&`, `if` and the first `ensures`; the invariant twice, `?`, the loop, the invariant again; the last `ensures`
abbrev pub choosing_numbers : Type 0
choosing_numbers = numbers_due 0 ≡ 0 ∷ 1 ∷ 2 ∷ 3 ∷ 4 ∷ 5 ∷ 6 ∷ 7 ∷ 8 ∷ 9 ∷ []

-- the inner call and the outer one, each with `requires` and `ensures`
abbrev pub choosing_main_numbers : Type 0
choosing_main_numbers = numbers_due 1 ≡ 0 ∷ 1 ∷ 2 ∷ 3 ∷ []

abbrev pub choosing_origins : Type 0
choosing_origins = (origins_in (slice_get (core choosing).functions 0) ≡ origins_due 0) × (origins_in (slice_get (core choosing).functions 1) ≡ origins_due 1)

-- the outer call is the first in the text
abbrev pub choosing_row : Type 0
choosing_row = row_at (core choosing) (site 1 Requires 0) ≡ Some (record { place = place 11 21; about = Some 0; consumed = 2; produced = 3 })
