use Rattle.std.proofs.Common.{◌∙◌, ◌≡◌, ◌≤◌, [], ◌∷◌, ◌++◌, map, List, ℕ, length, get_or, subst, sym, ap, refl, arith, rules}
use Rattle.std.proofs.lemmas.List.{length-map}
use Rattle.std.proofs.lemmas.Bool.{ltb-false}
use Rattle.gc0_tree.specs.Views.{function_view, program_view}
use Rattle.plain_functions.specs.Callers.{AreCallers, IsStart, MarksMore}
use Rattle.plain_functions.proofs.Backward.{at_start, one_more, waiting_within, at_end}
use Rattle.plain_functions.proofs.plain_functions.Goals as goal

pub loop-open-init : goal.loop-open-init
loop-open-init c = at_start (program_view c.args.program.now) c.in_ok-marks.marks (subst (λ l. IsStart (map function_view l) c.in_ok-marks.marks) c.as_slice-2.ensures c.in_ok-marks.ensures)

pub loop-open-preserved-in-Continue-branch-3 : goal.loop-open-preserved-in-Continue-branch-3
loop-open-preserved-in-Continue-branch-3 c =
    let p = program_view c.args.program.now in
    let items = c.in_ok-callers.callers.items in
    let old = c.loop-open.marks in
    let waits = c.pop.new.self in
    let who = subst (λ l. AreCallers (map function_view l) items) c.as_slice.ensures c.in_ok-callers.ensures in
    let those : c.as_slice-in-Some-get.result.now ≡ get_or items c.in-Some.open [] = search rules in
    let more = subst (λ l. MarksMore (record { plain = old.plain; waiting = waits }) l c.mark_all.new.self) those c.in_ok-mark_all.ensures in
    one_more p old waits c.in-Some.open items c.mark_all.new.self who c.in-Some.ensures more c.loop-open.invariant

pub loop-open-preserved : goal.loop-open-preserved
loop-open-preserved c =
    let p = program_view c.args.program.now in
    let items = c.in_ok-callers.callers.items in
    let who : AreCallers (map function_view c.args.program.now.functions) items = subst (λ l. AreCallers (map function_view l) items) c.as_slice.ensures c.in_ok-callers.ensures in
    let low = waiting_within p c.loop-open.marks c.pop.new.self c.in-Some.open c.in-Some.ensures c.loop-open.invariant in
    let count : length c.deref.result.now ≡ length p.functions = ap length c.deref.ensures.value ∙ who.count in
    let past = ltb-false c.in-Some.open (length c.deref.result.now) (sym c.in_default-get.ensures.lookup.0) in
    absurd (omega (arith, past, count, low))

pub returns : goal.returns
returns c = at_end (program_view c.args.program.now) c.loop-open.marks c.loop-open.invariant c.in_default.ensures.0
