use Rattle.std.proofs.Common.{◌≡◌, ◌+◌, ◌≤◌, ◌++◌, ◌∷◌, [], length, arith, ap, ◌∙◌}
use Rattle.owned_heap.specs.declared.heap.Stretch.{Stretch}
use Rattle.owned_heap.specs.Views.{heap_view}
use Rattle.owned_heap.proofs.Viewed.{length_seen, made_laid, made_seen}
use Rattle.owned_heap.proofs.Kept.{stands_kept, stands_pushed}
use Rattle.owned_heap.proofs.heap.Heap.new_object.Goals as goal

pub returns-in_err-reserve-clause-levels : goal.returns-in_err-reserve-clause-levels
returns-in_err-reserve-clause-levels c levels sets = stands_kept levels c.args.self.now _ sets c.in_err-reserve.ensures.items (omega arith)

pub returns-in_err-resize-clause-levels : goal.returns-in_err-resize-clause-levels
returns-in_err-resize-clause-levels c levels sets =
    stands_kept levels c.args.self.now _ sets c.in_ok-reserve.ensures.items (omega (arith, ap length c.in_err-resize.ensures.items))

pub invariant_of-self-2-clause-laid : goal.invariant_of-self-2-clause-laid
invariant_of-self-2-clause-laid c =
    let h = c.args.self.now in
    let o : Stretch = record { of_struct = c.args.of_struct; fields = c.args.fields; start = c.len-start.result } in
    let long : length c.resize.new.self.items ≡ length h.words.items + c.args.fields = omega (arith, c.in_ok-resize.ensures.len, c.resize.new.self.ok.0, h.words.ok.0) in
    made_laid h o c.reserve.new.self.items c.push_reserved.new.self.items c.resize.new.self.items c.in_ok-reserve.ensures.items c.push_reserved.ensures.items (omega arith) long

pub returns-clause-number : goal.returns-clause-number
returns-clause-number c =
    let h = c.args.self.now in
    omega (arith, length_seen h)

pub returns-clause-made : goal.returns-clause-made
unfolding heap_view
returns-clause-made c =
    let h = c.args.self.now in
    let o : Stretch = record { of_struct = c.args.of_struct; fields = c.args.fields; start = c.len-start.result } in
    made_seen h o c.reserve.new.self.items c.push_reserved.new.self.items c.resize.new.self.items h.words.len (record { 0 = 0 })
    c.in_ok-reserve.ensures.items c.push_reserved.ensures.items (omega arith) h.words.ok.0 c.in_ok-resize.ensures.items

pub returns-clause-levels : goal.returns-clause-levels
returns-clause-levels c levels sets =
    let h = c.args.self.now in
    let o : Stretch = record { of_struct = c.args.of_struct; fields = c.args.fields; start = c.len-start.result } in
    let long : length h.words.items ≤ length c.resize.new.self.items = omega (arith, c.in_ok-resize.ensures.len, c.resize.new.self.ok.0, h.words.ok.0) in
    stands_pushed levels h _ o sets (c.push_reserved.ensures.items ∙ ap (λ l. l ++ o ∷ []) c.in_ok-reserve.ensures.items) (omega arith) long
