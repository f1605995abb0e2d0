use Rattle.std.proofs.Common.{◌∙◌, ◌<◌, false, true, get_or, take, length}
use Rattle.std.proofs.lemmas.List.{take_more, take_all, length-set}
use Rattle.sat_check.specs.declared.clause.Lit.{Lit}
use Rattle.search_base.proofs.Replacing.{mark_kept, AllMarked-set}
use Rattle.search_base.proofs.analysis.mark_lits.Goals as goal

pub loop-lit-preserved : goal.loop-lit-preserved
loop-lit-preserved c =
    let lits = c.args.lits.now in
    let i = c.loop-lit.lit-index in
    let none : Lit = record { variable = 0; positive = false } in
    let lit = get_or lits i none in
    let marks = c.loop-lit.marks.items in
    let before = c.loop-lit.invariant in
    let below : lit.variable < length c.args.marks.now.items = c.requires i none c.loop-lit-test.true in
    let within : lit.variable < length marks = rw before.len below in
    record {
      len = length-set marks lit.variable true ∙ before.len;
      kept = λ variable h. mark_kept marks lit.variable variable within (before.kept variable h);
      marked = rw (take_more lits i none c.loop-lit-test.true) (AllMarked-set marks (take i lits) lit within before.marked);
    }

pub returns-clause-marked : goal.returns-clause-marked
returns-clause-marked c = rw (take_all c.loop-lit.lit-index c.args.lits.now c.loop-lit-test.false) at c.loop-lit.invariant.marked
