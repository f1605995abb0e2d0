use Rattle.std.proofs.Common.{◌≡◌, ◌∙◌, ℕ, ◌<◌, Bool, false, true, Some, List, get_or, take, length, arith, refl, sym, ap, subst}
use Rattle.std.specs.List.{All}
use Rattle.std.proofs.lemmas.Option.{slice_get-get_or}
use Rattle.std.proofs.lemmas.List.{take_more, take_all}
use Rattle.std.proofs.lemmas.List.Elements.{All-push}
use Rattle.sat_check.specs.declared.clause.Lit.{Lit}
use Rattle.search_state.specs.Shelves.{IsMarked, code_of}
use Rattle.search_state.proofs.Shelving.{code_within}
use Rattle.search_state.proofs.shelf.Shelf.are_marked.Goals as goal

pub loop-lit-preserved : goal.loop-lit-preserved
loop-lit-preserved c =
    let lits = c.args.lits.now in
    let marks = c.args.self.now.marks.items in
    let i = c.loop-lit.lit-index in
    let none : Lit = record { variable = 0; positive = false } in
    let lit = get_or lits i none in
    let variables = length c.args.self.now.positive.items in
    let within : code_of lit < length marks = omega (arith, code_within variables lit (c.requires.below i none c.loop-lit-test.true), c.requires.len) in
    let read = c.index.result.now in
    let is : get_or marks (code_of lit) read ≡ true = sym (c.index.ensures ∙ ap (λ (code : ℕ). get_or marks code read) c.code_of.ensures) ∙ c.if-not-index.false in
    let here : IsMarked marks lit = slice_get-get_or marks (code_of lit) read within ∙ ap (λ (mark : Bool). Some mark) is in
    subst (λ (l : List Lit). All (IsMarked marks) l) (sym (take_more lits i none c.loop-lit-test.true)) (All-push (IsMarked marks) (take i lits) lit c.loop-lit.invariant here)

pub returns : goal.returns
returns c =
    let whole = take_all c.loop-lit.lit-index c.args.lits.now c.loop-lit-test.false in
    (λ _. subst (λ (l : List Lit). All (IsMarked c.args.self.now.marks.items) l) whole c.loop-lit.invariant, λ _. refl)
