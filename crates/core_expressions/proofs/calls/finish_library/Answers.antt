use Rattle.std.proofs.Common.{ℕ, Option, refl, ap, ◌∙◌}
use Rattle.gc0_base.specs.declared.site.Site.{Site}
use Rattle.gc0_base.specs.declared.site.Kind.TheVariants as kind
use Rattle.gc0_tree.specs.declared.Shape.{Shape}
use Rattle.gc0_tree.specs.Fits.{library_gives}
use Rattle.gc0_tree.specs.Sites.{reads_input}
use Rattle.core_tree.specs.CoreTree.{do_step, do_library, Code, code_and}
use Rattle.lowering_laws.specs.Counts.{or_int, with_result}
use Rattle.lowering_laws.specs.Trees.{one, held, temp_if, site_if}
use Rattle.lowering_laws.specs.Tables.{placed_if}
use Rattle.core_expressions.specs.Writing.{target_of, places_of}
use Rattle.core_expressions.proofs.Joins.{alike, counted_alike, followed, after_prepared}
use Rattle.core_expressions.proofs.calls.finish_library.Goals as goal

pub returns : goal.returns
returns c = λ k s.
    let l = c.args.call in
    let k1 = with_result c.library_gives.result k in
    let v = c.in_ok-to.ensures.written k s in
    let u = c.in_ok-site.ensures.written k1 v.counts in
    let p = c.in_ok-push_library.ensures k1 u.counts in
    let at = places_of c.args.within.now kind.Trap c.args.place in
    let code : Option ℕ → Option Site → Code = λ n x. code_and do_step (one (do_library n l c.args.value c.args.text x)) in
    let to = c.in_ok-to.ensures.number k s ∙ ap (λ (g : Option Shape). temp_if (target_of c.args.within.now) g k) c.library_gives.ensures in
    let site = c.in_ok-site.ensures.site ∙ ap (λ (x : Site). site_if (reads_input l) x) c.site.ensures in
    record {
      value = c.held.ensures ∙ ap (λ (n : Option ℕ). held n) to;
      shape = c.or_int.ensures ∙ ap (λ (r : Option Shape). or_int r) c.library_gives-2.ensures;
      written = counted_alike (alike (followed v (after_prepared u p))
          (ap (λ (n : Option ℕ). code n c.in_ok-site.site) to ∙ ap (λ (x : Option Site). code (temp_if (target_of c.args.within.now) (library_gives l) k) x) site)
          refl
          (ap (λ (x : Site). placed_if (reads_input l) x c.args.place) c.site.ensures))
          (ap (λ (g : Option Shape). with_result g k) c.library_gives.ensures);
    }
