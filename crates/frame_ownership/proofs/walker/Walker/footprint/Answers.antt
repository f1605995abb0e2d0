use Rattle.std.proofs.Common.{◌≡◌, [], ◌∷◌, rules, ap, ◌∙◌, map}
use Rattle.gc0_tree.specs.Views.{formula_view, conjuncts_view, predicate_view}
use Rattle.gc0_tree.specs.Tree.{Conjuncts}
use Rattle.walk_laws.specs.Walks.{resume, strict}
use Rattle.owned_heap.specs.Views.{heap_view}
use Rattle.owned_heap.specs.LevelSets.{top_of}
use Rattle.frame_ownership.specs.Seen.{numbers, mine}
use Rattle.frame_ownership.proofs.Mine.{mine_same}
use Rattle.frame_ownership.proofs.walker.Walker.footprint.Goals as goal

pub returns : goal.returns
returns c sets stands =
    let parts : (formula_view c.args.formula.now).parts ≡ conjuncts_view c.as_slice.result.now = search rules in
    c.sets_by_members.ensures.holds (map predicate_view c.args.predicates.now) (formula_view c.args.formula.now) (numbers c.args.words.now) (heap_view c.args.heap.now) (top_of sets) (mine c.args.heap.now c.args.levels.now) (mine_same c.cells_of_heap.ensures c.args.heap.now c.args.levels.now sets stands)
    ∙ c.walks_by_mode.ensures.strict (map predicate_view c.args.predicates.now) (formula_view c.args.formula.now) (numbers c.args.words.now) (heap_view c.args.heap.now) (mine c.args.heap.now c.args.levels.now)
    ∙ ap (λ (cs : Conjuncts). resume (map predicate_view c.args.predicates.now) strict (heap_view c.args.heap.now) (mine c.args.heap.now c.args.levels.now) ((numbers c.args.words.now, cs) ∷ []) []) parts
    ∙ c.in_ok-found.ensures
