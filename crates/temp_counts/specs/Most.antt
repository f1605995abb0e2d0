-- The most temporaries of each shape that one statement uses.
use Rattle.std.specs.Prelude.{ℕ, max, if◌then◌else◌, slice_get}
use Rattle.gc0_tree.specs.declared.Shape.{Shape}
use Rattle.gc0_tree.specs.declared.Shape.TheVariants.{Int, Bool as Truth, Pointer, Null}
use Rattle.lowering_laws.specs.Counts.{same_shape}
use Rattle.temp_counts.specs.Used.{or_zero}
use Rattle.temp_counts.specs.declared.most.Most.{Most}

abbrev pub most_in : Most → Shape → ℕ
most_in m Int = m.ints
most_in m Truth = m.truths
most_in m Null = m.nulls
most_in m (Pointer k) = or_zero (slice_get m.pointers k)

-- there were so many of a shape
abbrev pub raised : Shape → ℕ → (Shape → ℕ) → Shape → ℕ
raised s n most u = if same_shape s u then max (most u) n else most u
