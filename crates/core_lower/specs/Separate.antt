-- That no two sites of one function are the same. This project's own.
use Rattle.std.specs.Prelude.{ℕ, suc, Bool, true, ◌&&◌, List, [], ◌∷◌}
use Rattle.gc0_tree.specs.Tree.{Function}
use Rattle.lowering_laws.specs.Apart.{is_apart}

-- for functions from a number on
abbrev pub all_apart : ℕ → List Function → Bool
all_apart g [] = true
all_apart g (f ∷ fs) = is_apart g f && all_apart (suc g) fs
