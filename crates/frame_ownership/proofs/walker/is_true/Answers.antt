use Rattle.std.proofs.Common.{◌∙◌, ap, sym}
use Rattle.gc0_tree.specs.Views.{expr_view}
use Rattle.owned_heap.specs.Views.{heap_view}
use Rattle.owned_heap.specs.LevelSets.{top_of}
use Rattle.core_meaning.specs.Choices.{is_so}
use Rattle.frame_ownership.specs.Seen.{numbers, mine}
use Rattle.frame_ownership.proofs.Mine.{mine_same}
use Rattle.frame_ownership.proofs.walker.is_true.Goals as goal

pub returns : goal.returns
returns c sets stands =
    c.goes_past.ensures
    ∙ ap is_so (sym (c.sets_by_members.ensures.value (heap_view c.args.heap.now) (top_of sets) (mine c.args.heap.now c.args.levels.now) (numbers c.args.words.now) (expr_view c.args.condition.now) (mine_same c.cells_of_heap.ensures c.args.heap.now c.args.levels.now sets stands)))
