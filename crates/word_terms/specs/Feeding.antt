-- What a node feeds a hasher: a number for its kind, and those of its parts. This project's own.
use Rattle.std.specs.Prelude.{List, ℕ, ◌++◌}
use Rattle.std.specs.Hash as fed
use Rattle.word_terms.specs.declared.node.Node.{Node}
use Rattle.word_terms.specs.declared.node.Node.TheVariants.{Symbol, Constant, Truth, Unary, Binary, Choose}

abbrev pub fed_node : Node → List (List ℕ)
fed_node (Symbol n s) = fed.u8 0 ++ fed.u32 n
fed_node (Constant w) = fed.u8 1 ++ fed.u32 w.0
fed_node (Truth b) = fed.u8 2 ++ fed.bool b
fed_node (Unary o a) = fed.u8 3 ++ fed.u32 a.0
fed_node (Binary o a b) = fed.u8 4 ++ (fed.u32 a.0 ++ fed.u32 b.0)
fed_node (Choose a b c) = fed.u8 5 ++ (fed.u32 a.0 ++ (fed.u32 b.0 ++ fed.u32 c.0))
