use Rattle.std.proofs.Common.{Option, append-nil, refl, sym, ap, ◌∙◌}
use Rattle.std.specs.Prelude.{slice_get}
use Rattle.gc0_base.specs.declared.site.Site.{Site}
use Rattle.gc0_tree.specs.declared.Shape.{Shape}
use Rattle.lowering_laws.specs.Counts.{Counts, result_of, with_result, decided, call_choices}
use Rattle.lowering_laws.specs.Trees.{temp_if}
use Rattle.lowering_laws.specs.Tables.{placed_about, call_decisions}
use Rattle.core_expressions.specs.Writing.{program_of, target_of}
use Rattle.core_expressions.proofs.Joins.{alike, counted_alike, followed, after_taken, result_decided}
use Rattle.core_expressions.proofs.calls.begin_call.Goals as goal

pub returns-clause-number : goal.returns-clause-number
returns-clause-number c = λ k s. c.in_ok-to.ensures.number k s ∙ ap (λ (g : Option Shape). temp_if (target_of c.args.within.now) g k) c.result_of.ensures

pub returns-clause-written : goal.returns-clause-written
returns-clause-written c = λ k s.
    let g = c.args.function in
    let f = slice_get (program_of c.args.within.now).functions g in
    let k1 : Counts = with_result c.result_of.result k in
    let v = c.in_ok-to.ensures.written k s in
    let d = c.in_ok-decide_call.ensures k1 v.counts in
    let p = c.in_ok-place.ensures (decided (call_choices f) k1) d.counts in
    counted_alike (alike (after_taken v (followed d p)) refl
    (append-nil (call_decisions c.site-site.result f) ∙ ap (λ (x : Site). call_decisions x f) c.site-site.ensures)
    (ap (λ (x : Site). placed_about x g c.args.place) c.site-site.ensures))
    (ap (λ (r : Option Shape). decided (call_choices f) (with_result r k)) c.result_of.ensures ∙ sym (result_decided (result_of f) (call_choices f) k))
