use Rattle.std.proofs.Common.{refl}
use Rattle.std.proofs.lemmas.Result.{on_ok_weaker}
use Rattle.search_state.specs.declared.shelf.Card.{Card}
use Rattle.search_state.specs.declared.shelf.Shelf.{Shelf}
use Rattle.search_state.proofs.Shelving.{HasOneMore-positive, HasOneMore-negative, IsCarded-kept, IsCarded-new}
use Rattle.search_state.proofs.shelf.Shelf.add.Goals as goal

pub returns-then-lit-clause-kept : goal.returns-then-lit-clause-kept
returns-then-lit-clause-kept c =
    let old = c.args.self.now in
    let new : Shelf = record { positive = c.push_at.new.lists; negative = old.negative; marks = old.marks } in
    let lit = c.rarest-lit.result in
    let card : Card = record { index = c.args.index; signature = c.signature_of.result } in
    on_ok_weaker c.push_at.result (λ put. IsCarded-kept old new lit card (HasOneMore-positive old new lit card c.if-lit.true refl put)) c.push_at.ensures

pub returns-then-lit-clause-carded : goal.returns-then-lit-clause-carded
returns-then-lit-clause-carded c =
    let old = c.args.self.now in
    let new : Shelf = record { positive = c.push_at.new.lists; negative = old.negative; marks = old.marks } in
    let lit = c.rarest-lit.result in
    let card : Card = record { index = c.args.index; signature = c.signature_of.result } in
    on_ok_weaker c.push_at.result
    (λ put. IsCarded-new old new lit card c.args.lits.now c.rarest-lit.ensures.stands c.signature_of.ensures.within (HasOneMore-positive old new lit card c.if-lit.true refl put)) c.push_at.ensures

pub returns-else-lit-clause-kept : goal.returns-else-lit-clause-kept
returns-else-lit-clause-kept c =
    let old = c.args.self.now in
    let new : Shelf = record { positive = old.positive; negative = c.push_at-else-lit.new.lists; marks = old.marks } in
    let lit = c.rarest-lit.result in
    let card : Card = record { index = c.args.index; signature = c.signature_of.result } in
    on_ok_weaker c.push_at-else-lit.result (λ put. IsCarded-kept old new lit card (HasOneMore-negative old new lit card c.if-lit.false refl put)) c.push_at-else-lit.ensures

pub returns-else-lit-clause-carded : goal.returns-else-lit-clause-carded
returns-else-lit-clause-carded c =
    let old = c.args.self.now in
    let new : Shelf = record { positive = old.positive; negative = c.push_at-else-lit.new.lists; marks = old.marks } in
    let lit = c.rarest-lit.result in
    let card : Card = record { index = c.args.index; signature = c.signature_of.result } in
    on_ok_weaker c.push_at-else-lit.result
    (λ put. IsCarded-new old new lit card c.args.lits.now c.rarest-lit.ensures.stands c.signature_of.ensures.within (HasOneMore-negative old new lit card c.if-lit.false refl put)) c.push_at-else-lit.ensures
