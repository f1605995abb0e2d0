-- What the search leaves of the proof of `shapes_of`.
use Rattle.std.proofs.Common.{◌≡◌, ◌∙◌, ◌∷◌, [], ◌++◌, ap, ◌+◌, drop}
use Rattle.std.proofs.lemmas.List.{drop_more}
use Rattle.c0_numbers.specs.Resolved.{named_shape}
use Rattle.c0_numbers.proofs.Zips.{zip_step}
use Rattle.c0_numbers.proofs.program.shapes_of.Goals as goal

pub loop-place-preserved : goal.loop-place-preserved
loop-place-preserved c =
    let made = c.loop-place.made in
    let s = c.in_ok-shape_of-in-Some.field-0 in
    let name = c.in-Some.name.now in
    zip_step named_shape made _ _ c.args.names.now.names c.as_slice-types.result.now c.loop-place.place name _ c.in-Some.ensures (drop_more c.as_slice-types.result.now c.loop-place.place _ c.loop-place-test.true)
    (c.in_ok-push-in-Some.ensures.ok ∙ ap (λ n. made ++ (n, s) ∷ []) c.in_ok-name-in-Some.ensures ∙ ap (λ z. made ++ (name, z) ∷ []) c.in_ok-shape_of-in-Some.ensures)
    c.loop-place.invariant
