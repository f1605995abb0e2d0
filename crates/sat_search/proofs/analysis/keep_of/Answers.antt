use Rattle.std.proofs.Common.{◌<◌, get_or, take, false, arith, inl, inr}
use Rattle.std.proofs.lemmas.List.{take_more, take_all}
use Rattle.sat_check.specs.declared.clause.Lit.{Lit}
use Rattle.sat_search.proofs.Gathered.{KeepIs-none, KeepIs-later, KeepIs-sooner}
use Rattle.sat_search.proofs.analysis.keep_of.Goals as goal

pub loop-lit-init : goal.loop-lit-init
loop-lit-init c = KeepIs-none c.args.placed.now.trail.steps.items c.args.start

pub loop-lit-preserved : goal.loop-lit-preserved
loop-lit-preserved c =
    let steps = c.args.placed.now.trail.steps.items in
    let lits = c.args.lits.now in
    let i = c.loop-lit.lit-index in
    let none : Lit = record { variable = 0; positive = false } in
    let lit = get_or lits i none in
    let place = c.in_ok-place.place in
    let keep = c.loop-lit.keep in
    let less : place < c.args.start = omega arith in
    rw (take_more lits i none c.loop-lit-test.true)
    (elim c.later-keep.ensures [
      | inl it ↦ rw it.1 (KeepIs-later steps (take i lits) c.args.start keep place lit c.in_ok-place.ensures less it.0 c.loop-lit.invariant)
      | inr it ↦ rw it.1 (KeepIs-sooner steps (take i lits) c.args.start keep place lit c.in_ok-place.ensures it.0 c.loop-lit.invariant)
    ])

pub returns : goal.returns
returns c = rw (take_all c.loop-lit.lit-index c.args.lits.now c.loop-lit-test.false) at c.loop-lit.invariant
