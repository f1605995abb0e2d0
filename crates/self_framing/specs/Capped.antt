-- The ways as far as they are counted: to one past what a plain function may have.
use Rattle.std.specs.Prelude.{ℕ, ◌+◌, min}
use Rattle.gc0_base.specs.declared.limits.TheConstants.Limits as limits
use Rattle.self_framing.specs.declared.paths_capped.Ways.{Ways}
use Rattle.self_framing.specs.Paths as paths

abbrev pub capped : ℕ → ℕ
capped n = min n (limits.PATHS + 1)

abbrev pub ways_capped : paths.Ways → Ways
ways_capped w = record { on = capped w.on; ended = capped w.ended }
