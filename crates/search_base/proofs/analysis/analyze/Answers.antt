use Rattle.std.proofs.Common.{◌≡◌, ◌∙◌, ℕ, length, arith, sym, subst}
use Rattle.sat_check.specs.Logs.{known_before}
use Rattle.search_base.specs.Replacing.{Walked}
use Rattle.search_base.proofs.Replacing.{Learns-end}
use Rattle.search_base.proofs.analysis.analyze.Goals as goal

pub loop-at-init : goal.loop-at-init
loop-at-init c =
    let known = known_before c.args.clauses.now c.args.entries.now in
    let steps = c.args.trail.now.steps.items in
    let a = c.in_ok-analysis.analysis in
    let all : c.len-at.result ≡ length steps = omega (arith, c.len-at.ensures, c.args.trail.now.steps.ok.0) in
    record {
      within = omega (arith, all);
      len = c.in_ok-analysis.ensures.len;
      walked = subst (λ (n : ℕ). Walked known steps c.args.start n a.marks.items a.lits a.hints.items a.keep) (sym all) (c.in_ok-analysis.ensures.walked c.args.start);
    }

pub returns : goal.returns
returns c =
    let known = known_before c.args.clauses.now c.args.entries.now in
    let steps = c.args.trail.now.steps.items in
    let a = c.loop-at.analysis in
    let done : c.loop-at.at ≡ 0 = omega arith in
    let walked = subst (λ (n : ℕ). Walked known steps c.args.start n a.marks.items a.lits a.hints.items a.keep) done c.loop-at.invariant.walked in
    Learns-end known steps c.args.start a.marks.items a.lits a.hints.items c.from_vec-hints.result a.keep walked (c.from_vec-hints.ensures ∙ c.reverse.ensures.items)
