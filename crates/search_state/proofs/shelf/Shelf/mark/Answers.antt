use Rattle.std.proofs.Common.{◌<◌, false, get_or, take, length, arith}
use Rattle.std.proofs.lemmas.List.{take_more}
use Rattle.sat_check.specs.declared.clause.Lit.{Lit}
use Rattle.search_state.specs.Shelves.{code_of}
use Rattle.search_state.proofs.Shelving.{AreMarked-push, code_within}
use Rattle.search_state.proofs.shelf.Shelf.mark.Goals as goal

pub loop-lit-preserved : goal.loop-lit-preserved
loop-lit-preserved c =
    let lits = c.args.lits.now in
    let i = c.loop-lit.lit-index in
    let none : Lit = record { variable = 0; positive = false } in
    let lit = get_or lits i none in
    let before = c.loop-lit.invariant in
    let marks = c.args.self.now.marks.items in
    let variables = length c.args.self.now.positive.items in
    let within : code_of lit < length marks = omega (arith, code_within variables lit (c.requires.below i none c.loop-lit-test.true), c.requires.len) in
    record {
      positive = before.positive;
      negative = before.negative;
      marked = rw (take_more lits i none c.loop-lit-test.true, c.code_of.ensures) (AreMarked-push marks c.loop-lit.self.marks.items (take i lits) lit c.args.mark within before.marked);
    }
