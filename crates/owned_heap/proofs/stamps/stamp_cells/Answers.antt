use Rattle.std.proofs.Common.{◌≡◌, ℕ, ◌+◌, ◌<◌, ◌≤◌, ◌++◌, ◌∷◌, [], List, Vec, length, length-set, get_or, set, map, take, arith, sym, ap, subst, ◌∙◌}
use Rattle.std.proofs.lemmas.List.{map_more, take_all}
use Rattle.std.specs.declared.alloc.Global.{Global}
use Rattle.owned_heap.specs.declared.heap.Cell.{Cell}
use Rattle.owned_heap.specs.Views.{cell_view}
use Rattle.owned_heap.proofs.Stamping.{AreStampedAs, none_more, one_more, past_more}
use Rattle.owned_heap.proofs.stamps.stamp_cells.Goals as goal
use Rattle.owned_heap.proofs.stamps.stamp_cells.Goals.{in-Some, in_default}

pub loop-cell-preserved : goal.loop-cell-preserved
loop-cell-preserved c =
    let h = c.args.heap.now in
    let clock = c.args.clock in
    let old = c.args.stamps.now.items in
    let stamps = c.loop-cell.stamps.items in
    let i = c.loop-cell.cell-index in
    let none : Cell = record { object = 0; field = 0 } in
    let it = cell_view (get_or c.args.cells.now i none) in
    let before = map cell_view (take i c.args.cells.now) in
    let more : before ++ it ∷ [] ≡ map cell_view (take (i + 1) c.args.cells.now) = sym (map_more cell_view c.args.cells.now i none c.loop-cell-test.true) in
    elim c.match-at.branch [
      | in-Some w ↦
          let at = w.in-Some.at in
          let e : c.match-at.stamps.items ≡ set stamps at clock = ap (λ (v : Vec ℕ Global). v.items) w.stamps-is in
          let within : at < length stamps = omega (arith, c.loop-cell.invariant.len, w.in-Some.ensures.within) in
          record {
            len = ap length e ∙ length-set stamps at clock ∙ c.loop-cell.invariant.len;
            stamped =
                subst (AreStampedAs h clock old c.match-at.stamps.items) more
                (subst (λ (l : List ℕ). AreStampedAs h clock old l (before ++ it ∷ [])) (sym e) (one_more h clock old stamps before it at (sym w.in-Some.ensures.is) within c.loop-cell.invariant.stamped));
            past = λ k less. subst (λ (l : List ℕ). get_or l k 0 ≤ clock) (sym e) (past_more stamps at clock k (c.loop-cell.invariant.past k less));
          }
      | in_default w ↦
          let e : c.match-at.stamps.items ≡ stamps = ap (λ (v : Vec ℕ Global). v.items) w.stamps-is in
          record {
            len = ap length e ∙ c.loop-cell.invariant.len;
            stamped =
                subst (AreStampedAs h clock old c.match-at.stamps.items) more
                (subst (λ (l : List ℕ). AreStampedAs h clock old l (before ++ it ∷ [])) (sym e) (none_more h clock old stamps before it (sym w.in_default.ensures.is) c.loop-cell.invariant.stamped));
            past = λ k less. subst (λ (l : List ℕ). get_or l k 0 ≤ clock) (sym e) (c.loop-cell.invariant.past k less);
          }
    ]

pub returns-clause-stamped : goal.returns-clause-stamped
returns-clause-stamped c =
    let all = take_all c.loop-cell.cell-index c.args.cells.now (omega arith) in
    subst (λ (cells : List Cell). AreStampedAs c.args.heap.now c.args.clock c.args.stamps.now.items c.loop-cell.stamps.items (map cell_view cells)) all c.loop-cell.invariant.stamped
