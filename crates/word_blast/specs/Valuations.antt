-- What the clauses of a query say: an assignment satisfies them exactly where the valuation of its bits
-- makes the truths true and the falsehoods false.
use Rattle.std.specs.Prelude.{◌≡◌, ℕ, suc, ◌+◌, ◌<◌, ◌↔◌, Bool, List, [], ◌∷◌, length, slice_get, Some, All, if◌then◌else◌, false, ◌%◌, ◌^◌, map, ◌≤◌}
use Rattle.std.specs.List.{slice_index_or}
use Rattle.gc0_base.specs.declared.word.Word.{Word}
use Rattle.sat_check.specs.declared.clause.Lit.{Lit}
use Rattle.sat_check.specs.Clauses.{Satisfies}
use Rattle.word_terms.specs.declared.node.Sort.{Sort}
use Rattle.word_terms.specs.declared.node.Sort.TheVariants.{Truth}
use Rattle.word_terms.specs.declared.node.Node.{Node}
use Rattle.word_terms.specs.declared.node.Node.TheVariants as node
use Rattle.word_terms.specs.Terms.{value, sort_of, IsValuation}
use Rattle.word_terms.specs.Tables.{Table, term}
use Rattle.word_terms.specs.Weights.{is_under}
use Rattle.word_terms.specs.Worth.{number_at}
use Rattle.word_blast.specs.declared.blasted.Input.{Input}
use Rattle.word_blast.specs.Bits.{number}
use Rattle.word_blast.specs.Gates.{bits}
use Rattle.word_blast.specs.Groups.{lits_from}
use Rattle.word_blast.specs.Circuits.{Whole, circuit, width_of}

-- the literals of a symbol's bits
abbrev pub lits_of : Input → List Lit
lits_of input = lits_from input.first input.count

-- each symbol that has variables has the word of their bits
abbrev pub HasBits : (ℕ → Bool) → List Input → List Word → Type 0
HasBits assignment inputs words =
    (i : ℕ) (input : Input) → slice_get inputs i ≡ Some input → 0 < input.count → number_at words i ≡ number (bits assignment (lits_of input))

-- the terms are worth 1, and 0
abbrev pub MakesTrue : List Word → List Node → List ℕ → Type 0
MakesTrue words nodes ts = All (λ t. value words (term nodes t) ≡ 1) ts

abbrev pub MakesFalse : List Word → List Node → List ℕ → Type 0
MakesFalse words nodes ts = All (λ t. value words (term nodes t) ≡ 0) ts

-- the terms are truths of the table
abbrev pub AreTruths : List Node → List ℕ → Type 0
AreTruths nodes ts = All (λ t. (t < length nodes) × (sort_of (term nodes t) ≡ Truth)) ts

-- an assignment with the bits of the words satisfies the clauses
abbrev pub HasSolution : Whole → List Word → Type 0
HasSolution whole words = (assignment : ℕ → Bool) × HasBits assignment whole.inputs words × Satisfies assignment whole.clauses

-- the law of circuits
abbrev pub CircuitIsExact : Table → List ℕ → List ℕ → Type 0
CircuitIsExact table truths falsehoods =
    (words : List Word) → IsValuation table.sorts words
    → (MakesTrue words table.nodes truths × MakesFalse words table.nodes falsehoods) ↔ HasSolution (circuit table truths falsehoods) words

-- symbols and constants
abbrev pub leaf_of : Node → ℕ
leaf_of (node.Symbol i s) = 1
leaf_of (node.Constant w) = 1
leaf_of _ = 0

abbrev pub leaves_from : (ℕ → Bool) → ℕ → List Node → ℕ
leaves_from test at [] = 0
leaves_from test at (n ∷ ns) = (if test at then leaf_of n else 0) + leaves_from test (suc at) ns

-- the symbols and constants under the roots
abbrev pub leaves_of : List Node → List ℕ → ℕ
leaves_of nodes roots = leaves_from (is_under nodes roots) 0 nodes

-- the assignment of a list, false behind its end
abbrev pub assigned : List Bool → ℕ → Bool
assigned values v = slice_index_or values v false

-- the word of a symbol's bits
abbrev pub input_word : (ℕ → Bool) → Input → ℕ
input_word assignment input = number (bits assignment (lits_of input)) % 2 ^ 32

-- no symbol has more bits than its sort
abbrev pub FitSorts : List Sort → List Input → Type 0
FitSorts sorts inputs =
    (length inputs ≡ length sorts) × ((i : ℕ) (s : Sort) (input : Input) → slice_get sorts i ≡ Some s → slice_get inputs i ≡ Some input → input.count ≤ width_of s)

-- the words of a satisfying assignment are a valuation, with its bits
abbrev pub IsReadFrom : (ℕ → Bool) → List Input → List Word → Type 0
IsReadFrom assignment inputs words = (sorts : List Sort) → FitSorts sorts inputs → IsValuation sorts words × HasBits assignment inputs words
