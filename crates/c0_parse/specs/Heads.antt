-- What stands behind the head of a function.
use Rattle.std.specs.Prelude.{map}
use Rattle.parsed_tree.specs.declared.items.Head.{Head}
use Rattle.parsed_tree.specs.Tree.{ItemTree, prototype_item, function_item}
use Rattle.parsed_tree.specs.Views.{contract_view, stmts_view}
use Rattle.c0_parse.specs.declared.items.Tail.{Tail}
use Rattle.c0_parse.specs.declared.items.Tail.TheVariants as tail

-- the item of a head and of what stands behind it
abbrev pub item_behind : Head → Tail → ItemTree
item_behind h (tail.Prototype cs) = prototype_item h (map contract_view cs)
item_behind h (tail.Function cs ss e) = function_item h (map contract_view cs) (stmts_view ss) e
