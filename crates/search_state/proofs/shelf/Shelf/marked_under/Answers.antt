use Rattle.std.proofs.Common.{◌≡◌, ◌∙◌, List, get_or, take, sym, subst, inl, inr}
use Rattle.std.specs.Int.Bits.{bit_or}
use Rattle.std.specs.List.{Contains}
use Rattle.std.proofs.lemmas.Bool.{false≢true}
use Rattle.std.proofs.lemmas.List.{take_more, take_all}
use Rattle.std.proofs.lemmas.List.Elements.{Contains-push_cases}
use Rattle.sat_check.specs.Logs.{known_before}
use Rattle.search_state.specs.declared.shelf.Card.{Card}
use Rattle.search_state.specs.Shelves.{IsAside, HasMarked}
use Rattle.search_state.proofs.shelf.Shelf.marked_under.Goals as goal
use Rattle.search_state.proofs.shelf.Shelf.marked_under.Goals.{else-may_lie-via-then-may_lie+then-is_aside+else-has_marked, else-may_lie-via-then-may_lie+else-is_aside, else-may_lie-via-else-may_lie}

pub loop-card-preserved : goal.loop-card-preserved
loop-card-preserved c card stands within aside marked =
    let cards = c.of-card-items.result.now in
    let i = c.loop-card.card-index in
    let none : Card = record { index = 0; signature = 0 } in
    let it = get_or cards i none in
    let more = take_more cards i none c.loop-card-test.true in
    elim (Contains-push_cases (take i cards) it card (subst (λ (l : List Card). Contains l card) more stands)) [
      | inl before ↦ c.loop-card.invariant card before within aside marked
      | inr same ↦
          let known = known_before c.args.clauses.now c.args.entries.now in
          let within' : bit_or it.signature c.args.whole ≡ c.args.whole = subst (λ (d : Card). bit_or d.signature c.args.whole ≡ c.args.whole) (sym same) within in
          let aside' : IsAside c.args.pairs.now it.index = subst (λ (d : Card). IsAside c.args.pairs.now d.index) (sym same) aside in
          let marked' : HasMarked c.args.self.now.marks.items known it.index = subst (λ (d : Card). HasMarked c.args.self.now.marks.items known d.index) (sym same) marked in
          elim c.else-may_lie.branch [
            | else-may_lie-via-then-may_lie+then-is_aside+else-has_marked w ↦ false≢true (sym w.if-has_marked.false ∙ w.has_marked.ensures.1 marked')
            | else-may_lie-via-then-may_lie+else-is_aside w ↦ false≢true (sym w.if-is_aside.false ∙ w.is_aside.ensures.1 aside')
            | else-may_lie-via-else-may_lie w ↦ false≢true (sym w.if-may_lie.false ∙ c.may_lie.ensures.1 within')
          ]
    ]

pub returns-clause-none : goal.returns-clause-none
returns-clause-none c card stands =
    let whole = take_all c.loop-card.card-index c.of-card-items.result.now c.loop-card-test.false in
    c.loop-card.invariant card (subst (λ (l : List Card). Contains l card) (sym (whole ∙ c.of-card-items.ensures)) stands)
