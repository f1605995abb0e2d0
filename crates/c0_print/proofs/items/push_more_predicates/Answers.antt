-- What is answered by hand of the proof of `push_more_predicates`.
use Rattle.std.proofs.Common.{◌≡◌, ◌++◌, rules, arith}
use Rattle.std.specs.Prelude.{codes}
use Rattle.parsed_tree.specs.Views.{predicate_view}
use Rattle.c0_layout.specs.Layout.{predicate_text}
use Rattle.c0_print.specs.Printing.{predicate_of}
use Rattle.c0_print.proofs.Spaced.{spaced_step}
use Rattle.c0_print.proofs.items.push_more_predicates.Goals as goal

pub loop-predicate-preserved : goal.loop-predicate-preserved
loop-predicate-preserved c =
    let spaced : c.push.new.text.items ≡ c.loop-predicate.text.items ++ codes " " = search rules in
    let pushed : c.push_predicate.new.text.items ≡ c.push.new.text.items ++ predicate_text (predicate_of (predicate_view c.predicate-item.result)) = search rules in
    spaced_step predicate_text predicate_of predicate_view c.args.predicates.now c.loop-predicate.predicate-index c.predicate-item.result c.loop-predicate.text.items _ c.push.new.text.items c.push_predicate.new.text.items (omega arith) c.predicate-item.is c.loop-predicate.invariant spaced pushed
