-- `first_fault`: what is left to show of its clauses.
use Rattle.std.proofs.Common.{rules, ◌≡◌, ◌∙◌, ap, map, fold, None}
use Rattle.parsed_tree.specs.Views.{item_view, program_view}
use Rattle.parse_faults.specs.TreeFaults.{all_of, item_faults, tree_faults}
use Rattle.parse_faults.specs.First.{earlier}
use Rattle.parse_faults.proofs.Firsts.{first_found}
use Rattle.parse_faults.proofs.faults.first_fault.Goals as goal

pub loop-part-init : goal.loop-part-init
loop-part-init c =
    let h : c.as_slice-part-items.result.now ≡ c.args.parsed.now.items = search rules in
    ap (λ is. fold earlier None (all_of item_faults (map item_view is))) h ∙ first_found (tree_faults (program_view c.args.parsed.now))
