-- The circuit of a query: each distinct term under its roots has a group of clauses, in the order of
-- the terms' numbers, and each root a clause that makes it true or false.
use Rattle.std.specs.Prelude.{ℕ, suc, ◌+◌, Bool, List, [], ◌∷◌, ◌++◌, map, length, replicate, if◌then◌else◌}
use Rattle.std.specs.List.{slice_index_or, slice_set}
use Rattle.sat_check.specs.declared.clause.Lit.{Lit}
use Rattle.sat_check.specs.declared.clause.Clause.{Clause}
use Rattle.sat_check.specs.Clauses.{opposite_of}
use Rattle.word_terms.specs.declared.node.Sort.{Sort}
use Rattle.word_terms.specs.declared.node.Sort.TheVariants.{Word32, Truth}
use Rattle.word_terms.specs.declared.node.Op1.{Op1}
use Rattle.word_terms.specs.declared.node.Op1.TheVariants as op1
use Rattle.word_terms.specs.declared.node.Op2.{Op2}
use Rattle.word_terms.specs.declared.node.Op2.TheVariants as op2
use Rattle.word_terms.specs.declared.node.Node.{Node}
use Rattle.word_terms.specs.declared.node.Node.TheVariants as node
use Rattle.word_terms.specs.Tables.{Table}
use Rattle.word_terms.specs.Weights.{is_under}
use Rattle.word_blast.specs.declared.blasted.Input.{Input}
use Rattle.word_blast.specs.Bits.{bits_of, least}
use Rattle.word_blast.specs.Gates.{Circuit, Row, constant_lit, clause_of, first_circuit}
use Rattle.word_blast.specs.Groups.{zero_lit, flips, lits_from, and_of, or_of, xor_of, pick_of, equal_of, sum_of, difference_of, negation_of, less_of, left_of, right_of, product_of, quotient_of, remainder_of}

-- the bits of a sort
abbrev pub width_of : Sort → ℕ
width_of Word32 = 32
width_of Truth = 1

-- the bits of a term's number in the rows so far
abbrev pub row_at : List (List Lit) → ℕ → List Lit
row_at rows t = slice_index_or rows t []

abbrev pub unary_group : Op1 → List Lit → Circuit → Row
unary_group op1.Neg xs k = negation_of xs k
unary_group op1.Not xs k = record { bits = flips xs; circuit = k }
unary_group op1.Flip xs k = record { bits = flips xs; circuit = k }

abbrev pub binary_group : Op2 → List Lit → List Lit → Circuit → Row
binary_group op2.Add xs ys k = sum_of xs ys k
binary_group op2.Sub xs ys k = difference_of xs ys k
binary_group op2.Mul xs ys k = product_of xs ys k
binary_group op2.Div xs ys k = quotient_of xs ys k
binary_group op2.Rem xs ys k = remainder_of xs ys k
binary_group op2.And xs ys k = and_of xs ys k
binary_group op2.Or xs ys k = or_of xs ys k
binary_group op2.Xor xs ys k = xor_of xs ys k
binary_group op2.Shl xs ys k = left_of xs ys k
binary_group op2.Shr xs ys k = right_of xs ys k
binary_group op2.Less xs ys k = less_of xs ys k
binary_group op2.Equal xs ys k = equal_of xs ys k
binary_group op2.Both xs ys k = and_of xs ys k
binary_group op2.Either xs ys k = or_of xs ys k

-- the group of a node, whose parts have rows
abbrev pub node_group : List (List Lit) → Node → Circuit → Row
node_group rows (node.Symbol i s) k = record {
  bits = lits_from k.variables (width_of s);
  circuit = record { variables = k.variables + width_of s; clauses = k.clauses };
}
node_group rows (node.Constant w) k = record { bits = map constant_lit (bits_of 32 w.0); circuit = k }
node_group rows (node.Truth b) k = record { bits = constant_lit b ∷ []; circuit = k }
node_group rows (node.Unary op a) k = unary_group op (row_at rows a.0) k
node_group rows (node.Binary op a b) k = binary_group op (row_at rows a.0) (row_at rows b.0) k
node_group rows (node.Choose c a b) k = pick_of (least zero_lit (row_at rows c.0)) (row_at rows a.0) (row_at rows b.0) k

-- what a circuit has so far: the rows of the terms, the variables of the symbols, and the clauses
pub record Blasted : Type 0 where
  pub rows : List (List Lit)
  pub inputs : List Input
  pub circuit : Circuit

-- a symbol's variables
abbrev pub inputs_of : Node → ℕ → List Input → List Input
inputs_of (node.Symbol i s) v inputs = slice_set inputs i (record { first = v; count = width_of s })
inputs_of _ v inputs = inputs

-- with a term, and with one that isn't under the roots
abbrev pub with_node : Node → Blasted → Blasted
with_node n b =
    let row = node_group b.rows n b.circuit in
    record { rows = b.rows ++ row.bits ∷ []; inputs = inputs_of n b.circuit.variables b.inputs; circuit = row.circuit }

abbrev pub without_node : Blasted → Blasted
without_node b = record { rows = b.rows ++ [] ∷ []; inputs = b.inputs; circuit = b.circuit }

unfoldable pub blasted : (ℕ → Bool) → ℕ → List Node → Blasted → Blasted
blasted test at [] b = b
blasted test at (n ∷ ns) b = blasted test (suc at) ns (if test at then with_node n b else without_node b)

-- a symbol without variables
abbrev pub no_input : Input
no_input = record { first = 0; count = 0 }

abbrev pub nothing_blasted : ℕ → Blasted
nothing_blasted symbols = record { rows = []; inputs = replicate symbols no_input; circuit = first_circuit }

-- the clauses of the roots
abbrev pub true_clauses : List (List Lit) → List ℕ → List Clause
true_clauses rows ts = map (λ t. clause_of (least zero_lit (row_at rows t) ∷ [])) ts

abbrev pub false_clauses : List (List Lit) → List ℕ → List Clause
false_clauses rows ts = map (λ t. clause_of (opposite_of (least zero_lit (row_at rows t)) ∷ [])) ts

-- a query's variables, clauses, and the variables of each symbol
pub record Whole : Type 0 where
  pub variables : ℕ
  pub clauses : List Clause
  pub inputs : List Input

abbrev pub blasted_terms : Table → List ℕ → List ℕ → Blasted
blasted_terms table truths falsehoods = blasted (is_under table.nodes (truths ++ falsehoods)) 0 table.nodes (nothing_blasted (length table.sorts))

unfoldable pub circuit : Table → List ℕ → List ℕ → Whole
circuit table truths falsehoods =
    let b = blasted_terms table truths falsehoods in
    record {
      variables = b.circuit.variables;
      clauses = b.circuit.clauses ++ true_clauses b.rows truths ++ false_clauses b.rows falsehoods;
      inputs = b.inputs;
    }
