-- The table of terms: nodes that name their parts by number.
use Rattle.std.specs.Prelude.{◌≡◌, ℕ, ◌<◌, ◌^◌, false, List, [], ◌∷◌, ◌++◌, length, slice_get, Some, ◌⊎◌}
use Rattle.std.specs.List.{slice_index_or}
use Rattle.word_terms.specs.declared.node.Sort.{Sort}
use Rattle.word_terms.specs.declared.node.Node.{Node}
use Rattle.word_terms.specs.declared.node.Node.TheVariants as node
use Rattle.word_terms.specs.Terms.{Term, symbol, constant, truth, unary, binary, choose, sort_of, TakesOne, TakesTwo, TakesThree}

-- the nodes by number, and the sorts of the symbols by number
pub record Table : Type 0 where
  pub nodes : List Node
  pub sorts : List Sort

-- the term with a number in a list of terms
abbrev pub nth : List Term → ℕ → Term
nth ts t = slice_index_or ts t (truth false)

-- the term of a node, whose parts are among these terms
abbrev pub term_of : List Term → Node → Term
term_of ts (node.Symbol i s) = symbol i s
term_of ts (node.Constant w) = constant w.0
term_of ts (node.Truth b) = truth b
term_of ts (node.Unary op a) = unary op (nth ts a.0)
term_of ts (node.Binary op a b) = binary op (nth ts a.0) (nth ts b.0)
term_of ts (node.Choose c a b) = choose (nth ts c.0) (nth ts a.0) (nth ts b.0)

-- the terms of nodes, behind those of the nodes before them
unfoldable pub terms_behind : List Term → List Node → List Term
terms_behind ts [] = ts
terms_behind ts (n ∷ ns) = terms_behind (ts ++ term_of ts n ∷ []) ns

-- the terms of a table, in the order of their numbers
abbrev pub terms_of : List Node → List Term
terms_of nodes = terms_behind [] nodes

abbrev pub term : List Node → ℕ → Term
term nodes t = nth (terms_of nodes) t

-- a part's number is below its whole's, and sorts fit
abbrev pub IsWhole : List Sort → List Term → ℕ → Node → Type 0
IsWhole sorts ts at (node.Symbol i s) = slice_get sorts i ≡ Some s
IsWhole sorts ts at (node.Constant w) = w.0 < 2 ^ 32
IsWhole sorts ts at (node.Truth b) = Unit {0}
IsWhole sorts ts at (node.Unary op a) = (a.0 < at) × TakesOne op (sort_of (nth ts a.0))
IsWhole sorts ts at (node.Binary op a b) = (a.0 < at) × (b.0 < at) × TakesTwo op (sort_of (nth ts a.0)) (sort_of (nth ts b.0))
IsWhole sorts ts at (node.Choose c a b) = (c.0 < at) × (a.0 < at) × (b.0 < at) × TakesThree (sort_of (nth ts c.0)) (sort_of (nth ts a.0)) (sort_of (nth ts b.0))

-- parts stand before wholes, sorts fit, and no node stands at two places
pub record IsTable (t : Table) : Type 0 where
  pub whole : (i : ℕ) (n : Node) → slice_get t.nodes i ≡ Some n → IsWhole t.sorts (terms_of t.nodes) i n
  pub once : (i j : ℕ) (n : Node) → slice_get t.nodes i ≡ Some n → slice_get t.nodes j ≡ Some n → i ≡ j
  pub few_nodes : length t.nodes < 2 ^ 32
  pub few_sorts : length t.sorts < 2 ^ 32

-- a table that has a node at a number: the one before it, or that with the node behind its last
pub record Gives (old new : Table) (n : Node) (at : ℕ) : Type 0 where
  pub stands : slice_get new.nodes at ≡ Some n
  pub nodes : (new.nodes ≡ old.nodes) ⊎ (new.nodes ≡ old.nodes ++ n ∷ [])
  pub sorts : new.sorts ≡ old.sorts
