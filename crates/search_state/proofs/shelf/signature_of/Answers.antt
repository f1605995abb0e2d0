use Rattle.std.proofs.Common.{false, List, get_or, take, subst}
use Rattle.std.proofs.lemmas.List.{take_more, take_all}
use Rattle.sat_check.specs.declared.clause.Lit.{Lit}
use Rattle.search_state.specs.Shelves.{HasBits, IsSignature}
use Rattle.search_state.proofs.Signatures.{IsSignature-none, HasBits-none, IsSignature-push, HasBits-push}
use Rattle.search_state.proofs.shelf.signature_of.Goals as goal

pub loop-lit-init : goal.loop-lit-init
loop-lit-init c = record { within = IsSignature-none; has = HasBits-none }

pub loop-lit-preserved : goal.loop-lit-preserved
loop-lit-preserved c =
    let lits = c.args.lits.now in
    let i = c.loop-lit.lit-index in
    let none : Lit = record { variable = 0; positive = false } in
    let more = take_more lits i none c.loop-lit-test.true in
    let before = c.loop-lit.invariant in
    let lit = get_or lits i none in
    rw (more, c.bit_of-signature.ensures)
    (record {
      within = IsSignature-push c.loop-lit.signature (take i lits) lit before.within;
      has = HasBits-push c.loop-lit.signature (take i lits) lit before.has;
    })

pub returns-clause-within : goal.returns-clause-within
returns-clause-within c =
    subst (λ (lits : List Lit). IsSignature c.loop-lit.signature lits) (take_all c.loop-lit.lit-index c.args.lits.now c.loop-lit-test.false) c.loop-lit.invariant.within

pub returns-clause-has : goal.returns-clause-has
returns-clause-has c =
    subst (λ (lits : List Lit). HasBits c.loop-lit.signature lits) (take_all c.loop-lit.lit-index c.args.lits.now c.loop-lit-test.false) c.loop-lit.invariant.has
