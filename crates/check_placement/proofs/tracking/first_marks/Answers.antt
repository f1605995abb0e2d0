-- What the search leaves of the proof of `first_marks`.
use Rattle.std.proofs.Common.{◌≡◌, ℕ, ◌+◌, ◌∷◌, ◌||◌, ◌&&◌, eqb, true, List, Bool, drop, length, map, set, sym, ap, subst, ◌∙◌, arith}
use Rattle.std.specs.Prelude.{is_some, slice_get}
use Rattle.std.proofs.lemmas.List.{drop_more}
use Rattle.core_tree.specs.CoreViews.{core_view}
use Rattle.assumption_log.specs.Records.{kept_view}
use Rattle.check_placement.specs.Tracked.{marked, has_entry, starts}
use Rattle.check_placement.proofs.Marks.{mark_count, entry_marks, entry_past}
use Rattle.check_placement.proofs.tracking.first_marks.Goals.{then-index-len, else-index-len}
use Rattle.check_placement.proofs.tracking.first_marks.Goals as goal

pub loop-entry-preserved : goal.loop-entry-preserved
loop-entry-preserved c =
    let es = c.args.entries.now in
    let fs = c.args.core.now.functions in
    let i = c.loop-entry.entry-index in
    let e = c.entry-item.result in
    let old = c.loop-entry.marks in
    let rest = map kept_view (drop (i + 1) es) in
    let first : drop i es ≡ e ∷ drop (i + 1) es = drop_more es i e c.loop-entry-test.true ∙ ap (λ x. x ∷ drop (i + 1) es) (sym c.entry-item.is) in
    let before : (g : ℕ) → (marked old g || (is_some (slice_get fs g) && (eqb e.site.function g || has_entry g rest))) ≡ starts (core_view c.args.core.now) (map kept_view es) g =
    λ g. subst (λ l. (marked old g || (is_some (slice_get fs g) && has_entry g (map kept_view l))) ≡ starts (core_view c.args.core.now) (map kept_view es) g) first (c.loop-entry.invariant.right g) in
    elim c.if-index-len.branch [
      | then-index-len w ↦
          let new : c.if-index-len.marks ≡ set old e.site.function true = w.marks-is ∙ w.set.ensures in
          record {
            count = ap length new ∙ mark_count old e.site.function ∙ c.loop-entry.invariant.count;
            right = λ g. ap (λ (m : List Bool). marked m g || (is_some (slice_get fs g) && has_entry g rest)) new
                ∙ entry_marks fs old e.site.function g (has_entry g rest) c.loop-entry.invariant.count (omega (arith, w.if-index-len, c.len.ensures)) ∙ before g;
          }
      | else-index-len w ↦ record {
        count = ap length w.marks-is ∙ c.loop-entry.invariant.count;
        right = λ g. ap (λ (m : List Bool). marked m g || (is_some (slice_get fs g) && has_entry g rest)) w.marks-is
            ∙ entry_past fs old e.site.function g (has_entry g rest) c.loop-entry.invariant.count (omega (arith, w.if-index-len, c.len.ensures)) ∙ before g;
      }
    ]
