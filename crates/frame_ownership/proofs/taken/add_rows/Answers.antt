use Rattle.std.proofs.Common.{ap, ◌∙◌}
use Rattle.std.specs.Prelude.{slice_index}
use Rattle.frame_ownership.specs.Placed.{place_in}
use Rattle.frame_ownership.proofs.Rows.{row_push}
use Rattle.frame_ownership.proofs.taken.add_rows.Goals as goal

pub loop-alloc-preserved : goal.loop-alloc-preserved
loop-alloc-preserved c = λ object f.
    ap (λ rows. place_in rows object f) c.in_ok-push.ensures.items
    ∙ ap (λ row. slice_index row object) (row_push c.loop-alloc.places.items c.new.result f c.new.ensures.items)
    ∙ c.loop-alloc.invariant object f
