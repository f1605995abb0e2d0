use Rattle.std.proofs.Common.{◌≡◌, ℕ, false, List, get_or, take, sym, subst, inl, inr}
use Rattle.std.specs.Int.Bits.{bit_or}
use Rattle.std.specs.List.{Contains}
use Rattle.std.proofs.lemmas.List.{take_more, take_all}
use Rattle.std.proofs.lemmas.List.Elements.{Contains-push_cases, All-weaker, All-contains}
use Rattle.sat_check.specs.declared.clause.Lit.{Lit}
use Rattle.sat_check.specs.Logs.{known_before}
use Rattle.search_state.specs.Shelves.{IsAside, IsMarked, HasMarked, cards_of}
use Rattle.search_state.proofs.shelf.Shelf.marked.Goals as goal

pub loop-lit-preserved : goal.loop-lit-preserved
loop-lit-preserved c lit stands card listed =
    let lits = c.args.lits.now in
    let i = c.loop-lit.lit-index in
    let none : Lit = record { variable = 0; positive = false } in
    let it = get_or lits i none in
    let more = take_more lits i none c.loop-lit-test.true in
    elim (Contains-push_cases (take i lits) it lit (subst (λ (l : List Lit). Contains l lit) more stands)) [
      | inl before ↦ c.loop-lit.invariant lit before card listed
      | inr same ↦ c.in_default.ensures.none card (subst (λ (l : Lit). Contains (cards_of c.args.self.now l) card) (sym same) listed)
    ]

pub returns-clause-none : goal.returns-clause-none
returns-clause-none c index clause named aside carded all =
    let lits = c.args.lits.now in
    let marks = c.args.self.now.marks.items in
    let known = known_before c.args.clauses.now c.args.entries.now in
    let signature = c.signature_of-whole.result in
    let lit = carded.lit in
    let card = carded.card in
    let among : Contains lits lit = All-contains (Contains lits) clause.lits lit all carded.stands in
    let whole = take_all c.loop-lit.lit-index lits c.loop-lit-test.false in
    let passed : Contains (take c.loop-lit.lit-index lits) lit = subst (λ (l : List Lit). Contains l lit) (sym whole) among in
    let within : bit_or card.signature signature ≡ signature =
    carded.signature signature (λ other stands. c.signature_of-whole.ensures.has other (All-contains (Contains lits) clause.lits other all stands)) in
    let marked : HasMarked marks known index = (clause, named, All-weaker (Contains lits) (IsMarked marks) (λ other h. c.requires.marks other h) clause.lits all) in
    c.loop-lit.invariant lit passed card carded.listed within (subst (λ (n : ℕ). IsAside c.args.pairs.now n) (sym carded.same) aside)
    (subst (λ (n : ℕ). HasMarked marks known n) (sym carded.same) marked)
