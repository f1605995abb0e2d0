-- What is answered by hand of the proof of `push_more_invariants`.
use Rattle.std.proofs.Common.{◌≡◌, ◌++◌, rules, arith}
use Rattle.std.specs.Prelude.{codes}
use Rattle.parsed_tree.specs.Views.{invariant_view}
use Rattle.c0_layout.specs.Layout.{invariant_text}
use Rattle.c0_print.specs.Printing.{invariant_of}
use Rattle.c0_print.proofs.Spaced.{spaced_step}
use Rattle.c0_print.proofs.statements.push_more_invariants.Goals as goal

pub loop-clause-preserved : goal.loop-clause-preserved
loop-clause-preserved c =
    let spaced : c.push.new.text.items ≡ c.loop-clause.text.items ++ codes " " = search rules in
    let pushed : c.push_invariant.new.text.items ≡ c.push.new.text.items ++ invariant_text (invariant_of (invariant_view c.clause-item.result)) = search rules in
    spaced_step invariant_text invariant_of invariant_view c.args.clauses.now c.loop-clause.clause-index c.clause-item.result c.loop-clause.text.items _ c.push.new.text.items c.push_invariant.new.text.items (omega arith) c.clause-item.is c.loop-clause.invariant spaced pushed
