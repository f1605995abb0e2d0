-- The weight of terms, each counted once. The weights of the operators are this project's own.
use Rattle.std.specs.Prelude.{◌≡◌, ℕ, suc, ◌+◌, ◌<◌, Bool, false, ◌||◌, List, [], ◌∷◌, ◌++◌, length, if◌then◌else◌, eqb, slice_get, Some, All}
use Rattle.std.specs.List.{list_any, slice_index_or}
use Rattle.word_terms.specs.declared.node.Op1.{Op1}
use Rattle.word_terms.specs.declared.node.Op1.TheVariants as op1
use Rattle.word_terms.specs.declared.node.Op2.{Op2}
use Rattle.word_terms.specs.declared.node.Op2.TheVariants as op2
use Rattle.word_terms.specs.declared.node.Node.{Node}
use Rattle.word_terms.specs.declared.node.Node.TheVariants as node

abbrev pub unary_weight : Op1 → ℕ
unary_weight op1.Neg = 160
unary_weight op1.Not = 0
unary_weight op1.Flip = 0

abbrev pub binary_weight : Op2 → ℕ
binary_weight op2.Add = 160
binary_weight op2.Sub = 160
binary_weight op2.Mul = 6000
binary_weight op2.Div = 10000
binary_weight op2.Rem = 10000
binary_weight op2.And = 32
binary_weight op2.Or = 32
binary_weight op2.Xor = 32
binary_weight op2.Shl = 500
binary_weight op2.Shr = 500
binary_weight op2.Less = 160
binary_weight op2.Equal = 64
binary_weight op2.Both = 1
binary_weight op2.Either = 1

abbrev pub node_weight : Node → ℕ
node_weight (node.Symbol i s) = 0
node_weight (node.Constant w) = 0
node_weight (node.Truth b) = 0
node_weight (node.Unary op a) = unary_weight op
node_weight (node.Binary op a b) = binary_weight op
node_weight (node.Choose c a b) = 96

-- the numbers of a node's parts
abbrev pub parts : Node → List ℕ
parts (node.Symbol i s) = []
parts (node.Constant w) = []
parts (node.Truth b) = []
parts (node.Unary op a) = a.0 ∷ []
parts (node.Binary op a b) = a.0 ∷ b.0 ∷ []
parts (node.Choose c a b) = c.0 ∷ a.0 ∷ b.0 ∷ []

abbrev pub has : List ℕ → ℕ → Bool
has ts t = list_any (eqb t) ts

-- the roots, with the parts of those of the nodes, numbered from `at`, that are wanted themselves:
-- a whole stands behind its parts
abbrev pub wanted_from : ℕ → List Node → List ℕ → List ℕ
wanted_from at [] roots = roots
wanted_from at (n ∷ ns) roots =
    let later = wanted_from (suc at) ns roots in
    if has later at then parts n ++ later else later

-- whether a term is under the roots: one of them, or a part of a term under them
abbrev pub is_under : List Node → List ℕ → ℕ → Bool
is_under nodes roots t = has (wanted_from 0 nodes roots) t

-- the sum of the weights of the nodes, numbered from `at`, that pass a test
abbrev pub weight_from : (ℕ → Bool) → ℕ → List Node → ℕ
weight_from test at [] = 0
weight_from test at (n ∷ ns) = (if test at then node_weight n else 0) + weight_from test (suc at) ns

-- the weight of the distinct terms under the roots
abbrev pub weight_of : List Node → List ℕ → ℕ
weight_of nodes roots = weight_from (is_under nodes roots) 0 nodes

-- the mark of a term
abbrev pub mark_at : List Bool → ℕ → Bool
mark_at marks t = slice_index_or marks t false

-- marks that say of each of n terms whether it is among the wanted
abbrev pub Marks : List ℕ → ℕ → List Bool → Type 0
Marks wanted n marks = (length marks ≡ n) × ((t : ℕ) → t < n → mark_at marks t ≡ has wanted t)

-- marks that say of each term whether it is under the roots
abbrev pub IsMarked : List Node → List ℕ → List Bool → Type 0
IsMarked nodes roots marks = (length marks ≡ length nodes) × ((t : ℕ) → t < length nodes → mark_at marks t ≡ is_under nodes roots t)

-- marks to which those of some terms are added
abbrev pub Adds : List ℕ → List Bool → List Bool → Type 0
Adds ts old new = (length new ≡ length old) × ((t : ℕ) → t < length old → mark_at new t ≡ (has ts t || mark_at old t))

-- the parts of each node stand before it
abbrev pub HavePartsBefore : List Node → Type 0
HavePartsBefore nodes = (i : ℕ) (n : Node) → slice_get nodes i ≡ Some n → All (λ t. t < i) (parts n)
