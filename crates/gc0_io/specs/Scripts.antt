-- Which calls of a form in memory are to fail. This project's own.
use Rattle.std.specs.Prelude.{Bool, ◌==◌}
use Rattle.std.specs.List.{list_any}
use Rattle.gc0_io.specs.declared.script.Script.{Script}

-- the next call is one of those that are to fail
abbrev pub is_planned : Script → Bool
is_planned s = list_any (λ k. k == s.calls) s.failing.items
