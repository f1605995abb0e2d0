use Rattle.std.proofs.Common.{◌∙◌, ap, sym, map}
use Rattle.std.specs.Prelude.{is_some}
use Rattle.gc0_tree.specs.Views.{conjuncts_view, predicate_view}
use Rattle.owned_heap.specs.Views.{heap_view}
use Rattle.owned_heap.specs.LevelSets.{top_of}
use Rattle.frame_ownership.specs.Seen.{numbers, mine}
use Rattle.frame_ownership.proofs.Mine.{mine_same, found_some}
use Rattle.frame_ownership.proofs.walker.Walker.is_separate.Goals as goal

pub returns : goal.returns
returns c sets stands = sym
    (c.sets_by_members.ensures.separate (map predicate_view c.args.predicates.now) (conjuncts_view c.args.parts.now) (numbers c.args.words.now) (heap_view c.args.heap.now) (top_of sets) (mine c.args.heap.now c.args.levels.now) (mine_same c.cells_of_heap.ensures c.args.heap.now c.args.levels.now sets stands)
    ∙ c.walks_by_mode.ensures.loose (map predicate_view c.args.predicates.now) (conjuncts_view c.args.parts.now) (numbers c.args.words.now) (heap_view c.args.heap.now) (mine c.args.heap.now c.args.levels.now)
    ∙ ap (λ o. is_some o) c.in_ok-found.ensures
    ∙ found_some c.in_ok-found.found _)
