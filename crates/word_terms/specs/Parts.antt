-- A law of tables: the parts of each node stand before it.
use Rattle.std.proofs.Common.{ℕ, zero, suc, ◌<◌, length, get_or, arith}
use Rattle.word_terms.specs.declared.node.Node.{Node}
use Rattle.word_terms.specs.declared.node.Node.TheVariants as node
use Rattle.word_terms.specs.Tables.{Table, terms_of, IsTable, IsWhole}
use Rattle.word_terms.specs.Weights.{HavePartsBefore, parts}

pub HavePartsBefore-IsTable : (t : Table) → IsTable t → HavePartsBefore t.nodes
HavePartsBefore-IsTable t ok i n at = by n (ok.whole i n at)
  where
    by : (n : Node) → IsWhole t.sorts (terms_of t.nodes) i n → (k d : ℕ) → k < length (parts n) → get_or (parts n) k d < i
    by (node.Symbol x s) w k d h = absurd (omega arith)
    by (node.Constant x) w k d h = absurd (omega arith)
    by (node.Truth b) w k d h = absurd (omega arith)
    by (node.Unary op a) w zero d h = w.0
    by (node.Unary op a) w (suc k) d h = absurd (omega arith)
    by (node.Binary op a b) w zero d h = w.0
    by (node.Binary op a b) w (suc zero) d h = w.1
    by (node.Binary op a b) w (suc (suc k)) d h = absurd (omega arith)
    by (node.Choose c a b) w zero d h = w.0
    by (node.Choose c a b) w (suc zero) d h = w.1
    by (node.Choose c a b) w (suc (suc zero)) d h = w.2
    by (node.Choose c a b) w (suc (suc (suc k))) d h = absurd (omega arith)
