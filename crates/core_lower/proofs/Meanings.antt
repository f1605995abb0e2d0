-- The core that is answered means what the program means.
use Rattle.std.proofs.Common.{◌≡◌, ℕ, List, sym, subst}
use Rattle.gc0_tree.specs.Fits.{Fits}
use Rattle.gc0_tree.specs.Tree.{Program}
use Rattle.core_tree.specs.CoreTree.{Core}
use Rattle.c0_meaning.specs.Running.{meaning, sites}
use Rattle.core_meaning.specs.CoreRunning.{core_meaning, core_sites}
use Rattle.lowering_laws.specs.Ends.{AllEnd}
use Rattle.lowering_laws.specs.Laws.{meaning_law, sites_law}
use Rattle.core_lower.specs.Lowered.{IsLowered}
use Rattle.core_lower.specs.Wholes.{beside_of}

pub means : (p : Program) (c : Core) → IsLowered p c → meaning_law → Fits p → AllEnd p → (input : List ℕ) (n : ℕ) → core_meaning c input n ≡ meaning p input n
means p c h law fits ends input n = subst (λ (k : Core). core_meaning k input n ≡ meaning p input n) (sym h.core) (law p fits ends (beside_of p h.marks) input n)

pub decides : (p : Program) (c : Core) → IsLowered p c → sites_law → Fits p → AllEnd p → (input : List ℕ) (n : ℕ) → core_sites c input n ≡ sites p input n
decides p c h law fits ends input n = subst (λ (k : Core). core_sites k input n ≡ sites p input n) (sym h.core) (law p fits ends (beside_of p h.marks) input n)
