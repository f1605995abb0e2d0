use Rattle.std.proofs.Common.{◌≡◌, Bool, true, false, refl, sym, ap, ◌∙◌}
use Rattle.gc0_tree.specs.Sites.{reads_input}
use Rattle.lowering_laws.specs.Tables.{placed_if}
use Rattle.core_expressions.proofs.Joins.{nothing, alike}
use Rattle.core_expressions.proofs.calls.place_library.Goals as goal

pub returns-then-reads_input-clause-written : goal.returns-then-reads_input-clause-written
returns-then-reads_input-clause-written c = λ k s.
    let e : true ≡ reads_input c.args.call = sym c.if-reads_input.true ∙ c.reads_input.ensures in
    alike (c.in_ok-place.ensures k s) refl refl (ap (λ (b : Bool). placed_if b c.args.site c.args.place) e)

pub returns-clause-written : goal.returns-clause-written
returns-clause-written c = λ k s.
    let e : false ≡ reads_input c.args.call = sym c.if-reads_input.false ∙ c.reads_input.ensures in
    alike (nothing c.args.out.now k s) refl refl (ap (λ (b : Bool). placed_if b c.args.site c.args.place) e)
