-- Arguments of which the first stands behind something, and the others behind a comma.
use Rattle.std.specs.Prelude.{◌≡◌, ℕ, List, [], ◌++◌, codes, refl}
use Rattle.c0_grammar.specs.Written.{More, no_more, more_and}
use Rattle.c0_layout.specs.Layout.{expr_text, more_text}

abbrev pub behind : List ℕ → More → List ℕ
behind front no_more = []
behind front (more_and at x xs) = front ++ (expr_text x ++ more_text xs)

pub behind_comma : (xs : More) → behind (codes ", ") xs ≡ more_text xs
behind_comma no_more = refl
behind_comma (more_and at x xs) = refl
