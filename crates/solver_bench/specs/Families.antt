-- The queries that are measured, as terms. Symbols are numbered from 0, in the order in which they are made.
use Rattle.std.specs.Prelude.{◌≡◌, ℕ, zero, suc, ◌<◌, ◌%◌, eqb, List, [], ◌∷◌, ◌++◌, length, if◌then◌else◌}
use Rattle.word_terms.specs.declared.node.Sort.{Sort}
use Rattle.word_terms.specs.declared.node.Sort.TheVariants.{Word32, Truth}
use Rattle.word_terms.specs.declared.node.Op1.TheVariants as op1
use Rattle.word_terms.specs.declared.node.Op2.{Op2}
use Rattle.word_terms.specs.declared.node.Op2.TheVariants as op2
use Rattle.word_terms.specs.declared.node.Node.{Node}
use Rattle.word_terms.specs.Terms.{Term, symbol, constant, unary, binary, choose, sort_of, sort_of_binary, TakesTwo}
use Rattle.word_terms.specs.Tables.{term}
use Rattle.solver_bench.specs.declared.family.Links.{Links}
use Rattle.solver_bench.specs.declared.family.Links.TheVariants as links
use Rattle.solver_bench.specs.declared.family.Pair.{Pair}
use Rattle.solver_bench.specs.declared.family.Pair.TheVariants as pair
use Rattle.solver_bench.specs.declared.family.Family.{Family}
use Rattle.solver_bench.specs.declared.family.Family.TheVariants as family

-- the operator at a place of a chain
abbrev pub operator : Links → ℕ → Op2
operator (links.Same op) place = op
operator links.Shifts place = if eqb (place % 2) 0 then op2.Shl else op2.Shr

-- so many operators between symbols of a sort, from the left
abbrev pub chain : Links → Sort → ℕ → Term
chain ls s zero = symbol 0 s
chain ls s (suc n) = binary (operator ls n) (chain ls s n) (symbol (suc n) s)

-- x + 1
abbrev pub successor : Term → Term
successor x = binary op2.Add x (constant 1)

-- what a symbol and the next one are asked to be
abbrev pub pair_term : Pair → Term → Term → Term
pair_term pair.Less x y = binary op2.Less x y
pair_term pair.Equal x y = binary op2.Equal x y
pair_term pair.Negated x y = binary op2.Equal (unary op1.Neg x) y
pair_term pair.Least x y = binary op2.Equal (choose (binary op2.Less x y) x y) y
pair_term pair.Fact x y = binary op2.Equal (successor x) (successor y)

-- so many pairs of neighbours
abbrev pub pairs : Pair → ℕ → List Term
pairs p zero = []
pairs p (suc n) = pairs p n ++ pair_term p (symbol n Word32) (symbol (suc n) Word32) ∷ []

-- what a family asks for in a size
abbrev pub roots : Family → ℕ → List Term
roots (family.Words ls) n = binary op2.Equal (chain ls Word32 n) (symbol (suc n) Word32) ∷ []
roots (family.Truths op) n = chain (links.Same op) Truth n ∷ []
roots (family.Pairs p) n = pairs p n

-- operators that make one of a sort of two of it
abbrev pub IsChained : Links → Sort → Type 0
IsChained ls s = (place : ℕ) → TakesTwo (operator ls place) s s × (sort_of_binary (operator ls place) ≡ s)

abbrev pub IsSorted : Family → Type 0
IsSorted (family.Words ls) = IsChained ls Word32
IsSorted (family.Truths op) = IsChained (links.Same op) Truth
IsSorted (family.Pairs p) = Unit {0}

-- a term of a table, of a sort
abbrev pub IsKnown : List Node → Sort → ℕ → Type 0
IsKnown nodes s t = (t < length nodes) × (sort_of (term nodes t) ≡ s)
