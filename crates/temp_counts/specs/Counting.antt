-- What a count does to a tally.
use Rattle.std.specs.Prelude.{◌≡◌, ℕ, ◌≤◌, max}
use Rattle.gc0_tree.specs.declared.Shape.{Shape}
use Rattle.lowering_laws.specs.Counts.{Counts}
use Rattle.temp_counts.specs.Used.{used_in}
use Rattle.temp_counts.specs.Most.{most_in}
use Rattle.temp_counts.specs.declared.tally.Tally.{Tally}

-- a tally is at these counts
abbrev pub IsAt : Tally → Counts → Type 0
IsAt t c = (s : Shape) → used_in t.used s ≡ c.used s

-- what is in use is among the most
abbrev pub IsWithin : Tally → Type 0
IsWithin t = (s : Shape) → used_in t.used s ≤ most_in t.most s

-- a part of a statement takes the counts on, and the most is raised to what is used behind it
pub record Counting (old new : Tally) (step : Counts → Counts) : Type 0 where
  pub used : (c : Counts) → IsAt old c → IsAt new (step c)
  pub grown : (s : Shape) → used_in old.used s ≤ used_in new.used s
  pub most : IsWithin old → (s : Shape) → most_in new.most s ≡ max (most_in old.most s) (used_in new.used s)

-- statements raise the most to what one of them uses
pub record Using (old new : Tally) (uses : Shape → ℕ) : Type 0 where
  pub most : (s : Shape) → most_in new.most s ≡ max (most_in old.most s) (uses s)
