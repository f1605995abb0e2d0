-- What the search leaves of the proof of `pass`.
use Rattle.std.proofs.Common.{◌≡◌, ◌+◌, ◌&&◌, not, true, Bool, List, Some, length, set, refl, sym, ap, subst, ◌∙◌}
use Rattle.std.specs.Prelude.{slice_get}
use Rattle.std.specs.Option.{option_map}
use Rattle.std.proofs.lemmas.List.{length-map}
use Rattle.std.proofs.lemmas.Option.{slice_get-map, slice_get_read}
use Rattle.core_tree.specs.CoreViews.{core_view, core_function_view}
use Rattle.check_placement.specs.Tracked.{marked, code_reaches}
use Rattle.check_placement.proofs.Marks.{Walked, walk_mark, walk_skip}
use Rattle.check_placement.proofs.tracking.pass.Goals.{then-gets_mark, else-gets_mark}
use Rattle.check_placement.proofs.tracking.pass.Goals as goal

pub loop-number-preserved : goal.loop-number-preserved
loop-number-preserved c =
    let p = core_view c.args.core.now in
    let fs = c.as_slice-function-items.result.now in
    let n = c.loop-number.number in
    let f = core_function_view c.function-item.result in
    let old = c.args.marks.now in
    let marks = c.loop-number.marks in
    let here : slice_get fs n ≡ Some c.function-item.result = slice_get_read fs (length fs) n c.function-item.result refl c.loop-number-test.true c.function-item.is in
    let there : slice_get c.args.core.now.functions n ≡ Some c.function-item.result = subst (λ l. slice_get l n ≡ Some c.function-item.result) c.as_slice-function-items.ensures here in
    let at : slice_get p.functions n ≡ Some f = slice_get-map core_function_view c.args.core.now.functions n ∙ ap (option_map core_function_view) there in
    let same : length old ≡ length p.functions = c.requires ∙ sym (length-map c.args.core.now.functions core_function_view) in
    let told : c.gets_mark.result ≡ (not (marked marks n) && code_reaches marks f.body) =
    subst (λ (m : List Bool). c.gets_mark.result ≡ (not (marked m n) && code_reaches m f.body)) c.as_slice.ensures c.gets_mark.ensures in
    elim c.if-gets_mark.branch [
      | then-gets_mark w ↦
          let new : c.if-gets_mark.marks ≡ set marks n true = w.marks-is ∙ w.set.ensures in
          subst (λ (b : Bool). Walked p old (n + 1) b c.if-gets_mark.marks) (sym w.changed-is)
          (subst (λ (m : List Bool). Walked p old (n + 1) true m) (sym new)
          (walk_mark p old n c.loop-number.changed marks f same at (sym told ∙ w.if-gets_mark.true) c.loop-number.invariant))
      | else-gets_mark w ↦
          subst (λ (b : Bool). Walked p old (n + 1) b c.if-gets_mark.marks) (sym w.changed-is)
          (subst (λ (m : List Bool). Walked p old (n + 1) c.loop-number.changed m) (sym w.marks-is)
          (walk_skip p old n c.loop-number.changed marks f at (sym told ∙ w.if-gets_mark.false) c.loop-number.invariant))
    ]
