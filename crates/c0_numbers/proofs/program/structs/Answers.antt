-- What the search leaves of the proof of `structs`.
use Rattle.std.proofs.Common.{◌≡◌, ◌∙◌, ◌∷◌, [], ◌++◌, ap, sym, ◌+◌, drop, map}
use Rattle.std.proofs.lemmas.List.{drop_more}
use Rattle.gc0_tree.specs.Views.{struct_view}
use Rattle.c0_numbers.specs.Resolved.{struct_tree}
use Rattle.c0_numbers.proofs.Zips.{zip_step, map_pushed}
use Rattle.c0_numbers.proofs.program.structs.Goals as goal

pub loop-place-preserved : goal.loop-place-preserved
loop-place-preserved c =
    let made = c.loop-place.made in
    let all = c.as_slice-all.result.now in
    let i = c.loop-place.place in
    let first = drop_more all i c.index-all-place.result c.loop-place-test.true ∙ ap (λ x. x ∷ drop (i + 1) all) (sym c.index-all-place.is) in
    zip_step struct_tree (map struct_view made) _ _ c.args.tables.now.structs all i c.in-Some.name.now c.index-all-place.result c.in-Some.ensures first
    (ap (map struct_view) c.in_ok-push-in-Some.ensures.ok ∙ map_pushed struct_view made c.in_ok-part-in-Some.part ∙ ap (λ s. map struct_view made ++ s ∷ []) c.in_ok-part-in-Some.ensures)
    c.loop-place.invariant
