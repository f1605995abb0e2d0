use Rattle.std.proofs.Common.{◌∙◌, ℕ, ◌<◌, ◌++◌, List, length, option_to_list, sym, ap, subst}
use Rattle.sat_check.specs.declared.clause.Lit.{Lit}
use Rattle.sat_check.specs.Logs.{Refutes, known_before}
use Rattle.sat_search.specs.Learning.{Learns, KeepIs}
use Rattle.sat_search.proofs.Gathered.{Learns-of, with_some}
use Rattle.sat_search.proofs.analysis.Analysis.learned.Goals as goal

pub returns-clause-leveled : goal.returns-clause-leveled
returns-clause-leveled c some =
    let steps = c.args.placed.now.trail.steps.items in
    with_some (c.args.levels.base < length steps) c.args.self.now.gathering.asserting some (λ lit e. (c.is_late.ensures c.if-not-is_late.false lit e).1)

pub returns-clause-learns : goal.returns-clause-learns
returns-clause-learns c =
    let known = known_before c.args.clauses.now c.args.entries.now in
    let steps = c.args.placed.now.trail.steps.items in
    let start = c.args.levels.start in
    let kept = c.args.self.now.gathering.kept.items in
    let asserting = c.args.self.now.gathering.asserting in
    let keep = c.in-Some.keep in
    let hints = c.from_vec-hints.result in
    let keeps : KeepIs steps kept start keep = subst (λ (l : List Lit). KeepIs steps l start keep) c.as_slice-kept.ensures.value c.in-Some.ensures in
    let lits = c.in_ok-lits.ensures ∙ ap (λ (l : List Lit). l ++ option_to_list asserting) c.as_slice-kept.ensures.value in
    let refutes = rw c.in-Some-hints.is at c.in_ok-hints.ensures.refutes in
    let all = subst (λ (l : List Lit). Refutes known l c.in-Some-hints.hints.items) (c.as_slice.ensures.value ∙ lits) refutes in
    let learns =
    Learns-of known steps start kept hints asserting keep keeps (λ lit e. (c.is_late.ensures c.if-not-is_late.false lit e).0)
    (subst (λ (h : List ℕ). Refutes known (kept ++ option_to_list asserting) h) (sym c.from_vec-hints.ensures) all) in
    subst (λ (l : List Lit). Learns known steps start l hints asserting keep) (sym (c.from_vec.ensures ∙ lits)) learns
