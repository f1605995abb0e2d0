use Rattle.std.proofs.Common.{Option, Some, None}
use Rattle.std.specs.Option.{IfNone}
use Rattle.search_state.proofs.Shelving.{IsCarded-same}
use Rattle.search_state.proofs.shelf.Shelf.within.Goals as goal

weaker : {X P Q : Type 0} (found : Option X) → (P → Q) → IfNone found P → IfNone found Q
weaker None f none = f none
weaker (Some x) f none = none

pub returns-clause-none : goal.returns-clause-none
returns-clause-none c =
    let same = IsCarded-same c.args.self.now c.mark.new.self c.mark.ensures.positive c.mark.ensures.negative in
    weaker c.marked-found.result
    (λ none index clause named aside carded. none index clause named aside (same index clause.lits carded))
    c.marked-found.ensures.none
