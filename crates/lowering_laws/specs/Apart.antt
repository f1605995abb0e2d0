-- That no two tokens of one kind stand at one place, so that each site is of one statement. This project's own.
use Rattle.std.specs.Prelude.{ℕ, Bool}
use Rattle.gc0_tree.specs.Tree.{Function}
use Rattle.core_tables.specs.Apart.{are_apart}
use Rattle.lowering_laws.specs.Tables.{placed_of}

abbrev pub is_apart : (function : ℕ) → Function → Bool
is_apart g f = are_apart (placed_of g f)
