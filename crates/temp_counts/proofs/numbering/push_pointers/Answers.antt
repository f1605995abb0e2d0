-- Behind the table there are no temporaries of pointers.
use Rattle.std.proofs.Common.{◌≡◌, ◌++◌, List, length, min, arith, sym, ap, ◌∙◌}
use Rattle.gc0_tree.specs.declared.Shape.{Shape}
use Rattle.lowering_laws.specs.Lowering.{pointer_temps}
use Rattle.temp_counts.specs.Most.{most_in}
use Rattle.temp_counts.proofs.Numbers.{cut}
use Rattle.temp_counts.proofs.numbering.push_pointers.Goals as goal

pub returns : goal.returns
returns c =
    let at : c.loop-k.k ≡ min c.args.structs (length c.args.most.now.pointers) = omega (arith, c.in_ok-end.ensures, c.min.ensures, c.len.ensures) in
    c.loop-k.invariant
    ∙ ap (λ (xs : List Shape). c.args.shapes.now ++ xs) (ap (pointer_temps (most_in c.args.most.now)) at ∙ sym (cut c.args.most.now c.args.structs))
