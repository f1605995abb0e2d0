-- What the tests know of terms that they keep with their sorts.
use Rattle.std.specs.Prelude.{◌≡◌, ◌<◌, List, length}
use Rattle.std.specs.List.{All}
use Rattle.word_terms.specs.declared.node.Sort.{Sort}
use Rattle.word_terms.specs.declared.node.Node.{Node}
use Rattle.word_terms.specs.declared.node.TermId.{TermId}
use Rattle.word_terms.specs.Terms.{sort_of}
use Rattle.word_terms.specs.Tables.{term}

-- a term of the table that has this sort
abbrev pub IsPlaced : List Node → Sort × TermId → Type 0
IsPlaced nodes p = (p.1.0 < length nodes) × (sort_of (term nodes p.1.0) ≡ p.0)

abbrev pub ArePlaced : List Node → List (Sort × TermId) → Type 0
ArePlaced nodes ps = All (IsPlaced nodes) ps
