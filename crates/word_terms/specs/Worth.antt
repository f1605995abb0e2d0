-- What the nodes of a table are worth, one after another.
use Rattle.std.specs.Prelude.{ℕ, ◌<◌, List, map, slice_index}
use Rattle.gc0_base.specs.declared.word.Word.{Word}
use Rattle.word_terms.specs.declared.node.Node.{Node}
use Rattle.word_terms.specs.declared.node.Node.TheVariants as node
use Rattle.word_terms.specs.Terms.{Term, value, truth_word, unary_value, binary_value, chosen_value}

-- the word of a number
abbrev pub word_of : ℕ → Word
word_of n = record { 0 = n }

-- the words of terms under a valuation, in the order of the terms
abbrev pub worths : List Word → List Term → List Word
worths words ts = map (λ t. word_of (value words t)) ts

-- the number of the word at a place
abbrev pub number_at : List Word → ℕ → ℕ
number_at ws i = slice_index (map (λ w. w.0) ws) i

-- what a node is worth, where the worth of its parts stands at their places
abbrev pub node_worth : List Word → List Word → Node → ℕ
node_worth words done (node.Symbol i s) = number_at words i
node_worth words done (node.Constant w) = w.0
node_worth words done (node.Truth b) = truth_word b
node_worth words done (node.Unary op a) = unary_value op (number_at done a.0)
node_worth words done (node.Binary op a b) = binary_value op (number_at done a.0) (number_at done b.0)
node_worth words done (node.Choose c a b) = chosen_value (number_at done c.0) (number_at done a.0) (number_at done b.0)

-- the places that a node speaks of are there
abbrev pub HasParts : ℕ → ℕ → Node → Type 0
HasParts words done (node.Symbol i s) = i < words
HasParts words done (node.Constant w) = Unit {0}
HasParts words done (node.Truth b) = Unit {0}
HasParts words done (node.Unary op a) = a.0 < done
HasParts words done (node.Binary op a b) = (a.0 < done) × (b.0 < done)
HasParts words done (node.Choose c a b) = (c.0 < done) × (a.0 < done) × (b.0 < done)
