use Rattle.std.proofs.Common.{ℕ, Option, refl, ap, ◌∙◌}
use Rattle.gc0_base.specs.declared.site.Site.{Site}
use Rattle.gc0_base.specs.declared.site.Kind.TheVariants as kind
use Rattle.gc0_tree.specs.declared.Shape.{Shape}
use Rattle.std.specs.Prelude.{slice_get}
use Rattle.core_tree.specs.CoreTree.{do_step, do_call, Code, code_and}
use Rattle.lowering_laws.specs.Counts.{or_int, result_of, with_result, decided, call_choices}
use Rattle.lowering_laws.specs.Trees.{one, held}
use Rattle.core_expressions.specs.Writing.{program_of, places_of}
use Rattle.core_expressions.proofs.Joins.{alike, after_prepared}
use Rattle.core_expressions.proofs.calls.finish_call.Goals as goal

pub returns : goal.returns
returns c = λ k s.
    let g = c.args.function in
    let f = slice_get (program_of c.args.within.now).functions g in
    let v = c.in_ok-to.ensures.written k s in
    let to = c.in_ok-to.ensures.number k s in
    let p = c.in_ok-push_call.ensures (with_result (result_of f) (decided (call_choices f) k)) v.counts in
    let code : Option ℕ → Site → Code = λ n x. code_and do_step (one (do_call n g c.args.arguments x)) in
    record {
      value = c.held.ensures ∙ ap (λ (n : Option ℕ). held n) to;
      shape = c.or_int.ensures ∙ ap (λ (r : Option Shape). or_int r) c.result_of.ensures;
      written = alike (after_prepared v p) (ap (λ (x : Site). code c.in_ok-to.to x) c.site-site.ensures ∙ ap (λ (n : Option ℕ). code n (places_of c.args.within.now kind.Requires c.args.place)) to) refl refl;
    }
