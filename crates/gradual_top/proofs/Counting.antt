-- Lines of a text, one after another.
use Rattle.std.proofs.Common.{◌≡◌, ℕ, suc, ◌-◌, ◌+◌, ◌<◌, List, ap, ◌∙◌, sym, arith}
use Rattle.gradual_top.specs.Words.{behind_line, behind_ends}

pub next_line : (line ended : ℕ) (rest next text : List ℕ) → ended < line → next ≡ behind_line rest → behind_ends (line - ended) rest ≡ behind_ends (line - 1) text → behind_ends (line - (ended + 1)) next ≡ behind_ends (line - 1) text
next_line line ended rest next text lt e h =
    let s : line - ended ≡ suc (line - (ended + 1)) = omega (arith, lt) in
    ap (behind_ends (line - (ended + 1))) e ∙ sym (ap (λ n. behind_ends n rest) s) ∙ h
