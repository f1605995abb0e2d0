-- What is answered by hand of the proof of `push_stars`.
use Rattle.std.proofs.Common.{◌≡◌, ◌+◌, List, [], ◌∷◌, ◌++◌, ap, sym, ◌∙◌, append_assoc, rules}
use Rattle.c0_layout.specs.Lists.{all_text}
use Rattle.c0_layout.specs.Layout.{star_text}
use Rattle.c0_print.specs.Printing.{nowheres}
use Rattle.c0_print.proofs.Joins.{one_more_star}
use Rattle.c0_print.proofs.types.push_stars.Goals as goal

pub loop-preserved : goal.loop-preserved
loop-preserved c =
    let pushed : c.push.new.self.items ≡ c.loop.text.items ++ 42 ∷ [] = search rules in
    pushed ∙ one_more_star c.args.text.now.items c.loop.text.items c.loop.counter c.loop.invariant
