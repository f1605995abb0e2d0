use Rattle.std.proofs.Common.{◌≡◌, ◌∙◌, ℕ, List, [], ◌∷◌, ◌++◌, length, sym, ap, subst}
use Rattle.sat_check.specs.declared.clause.Lit.{Lit}
use Rattle.sat_check.specs.Logs.{known_before}
use Rattle.search_base.specs.Replacing.{Walked}
use Rattle.search_base.proofs.Replacing.{Walked-begin}
use Rattle.search_base.proofs.analysis.Analysis.begin.Goals as goal

pub returns-clause-walked : goal.returns-clause-walked
returns-clause-walked c start =
    let known = known_before c.args.clauses.now c.args.entries.now in
    let steps = c.args.trail.now.steps.items in
    let marks = c.mark.new.marks.items in
    let conflict = c.args.conflict in
    let (clause, named, all) = c.requires.conflict in
    let base = Walked-begin known steps start conflict marks clause named all (c.mark.ensures.marked clause named) in
    let hints : c.push.new.self.items ≡ conflict ∷ [] = c.in_ok-push.ensures.items ∙ ap (λ (hs : List ℕ). hs ++ conflict ∷ []) c.new-hints.ensures.items in
    subst (λ (ls : List Lit). Walked known steps start (length steps) marks ls c.push.new.self.items 0) (sym c.new.ensures)
    (subst (λ (hs : List ℕ). Walked known steps start (length steps) marks [] hs 0) (sym hints) base)
