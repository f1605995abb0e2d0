-- The core of a program is stepped: its points, one by one.
use Rattle.std.proofs.Common.{◌≡◌, ℕ, ◌<◌, ◌^◌, Bool, Option, Some, All, length, slice_get, subst}
use Rattle.gc0_tree.specs.Tree.{Function, Program}
use Rattle.lowering_laws.specs.Lowering.{lowered_function}
use Rattle.lowering_laws.specs.Tables.{decisions_in, decisions_of, core_of}
use Rattle.lowering_laws.specs.SteppedLaws.{stepped_law}
use Rattle.lowering_laws.proofs.Counting.{all_at}
use Rattle.lowering_laws.proofs.Each.{beside_of, lowered_at}
use Rattle.lowering_laws.proofs.Steps.{steps}
use Rattle.lowering_laws.proofs.Framed.{framed, guarded}
use Rattle.lowering_laws.proofs.Shaped.{shaped}
use Rattle.lowering_laws.proofs.Marked.{marked}
use Rattle.lowering_laws.proofs.Sited.{all_sited}
use Rattle.lowering_laws.proofs.Decided.{all_decided}
use Rattle.lowering_laws.proofs.Ended.{main, ends, tests}
use Rattle.lowering_laws.proofs.Keeping.{kept}

few_there : (plain : ℕ → Bool) (paths : ℕ → ℕ) (p : Program) → All (λ f. length f.decisions < 2 ^ 32) (core_of plain paths p).functions →
    (g : ℕ) (f : Function) → slice_get p.functions g ≡ Some f → length (decisions_of p g f) < 2 ^ 32
few_there plain paths p few g f there =
    subst (λ (o : Option Function). length (decisions_in p g o) < 2 ^ 32) there
    (all_at (λ k. length k.decisions < 2 ^ 32) (core_of plain paths p).functions g (lowered_function (beside_of plain paths p) p g f) few (lowered_at (beside_of plain paths p) p g f there))

pub stepped : stepped_law
stepped p h plain marks paths few = record {
  steps = steps plain paths p;
  framed = framed plain paths p h.framed;
  guarded = guarded plain paths p h.guarded;
  shapes = shaped p h.fits h.words h.formulas plain paths;
  plain = marked plain paths p h.fits marks;
  sites = all_sited p h plain paths;
  decisions = all_decided p h plain paths (few_there plain paths p few);
  main = main plain paths p h.fits;
  ends = ends plain paths p h.ends;
  tests = tests plain paths p;
  kept = kept plain paths p h.fits h.kept;
}
