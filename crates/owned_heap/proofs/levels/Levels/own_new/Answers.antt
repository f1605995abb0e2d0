use Rattle.std.proofs.Common.{◌≡◌, ◌+◌, [], ◌∷◌, reverse, arith, refl, sym, ap, subst, ◌∙◌}
use Rattle.c0_meaning.specs.Heaps.{cells_of}
use Rattle.owned_heap.specs.Views.{heap_view, object_at, fields_in}
use Rattle.owned_heap.specs.LevelSets.{with_object}
use Rattle.owned_heap.specs.Stands.{offset_of, stamp_at, AreStamped, Stands}
use Rattle.owned_heap.proofs.Viewed.{object_there, object_nowhere, many_fields}
use Rattle.owned_heap.proofs.Ranges.{covers_object, words_anew}
use Rattle.owned_heap.proofs.Owning.{on_err, stands_covered, with_stamped}
use Rattle.owned_heap.proofs.levels.Levels.own_new.Goals as goal

pub returns-in_default-clause-owned : goal.returns-in_default-clause-owned
returns-in_default-clause-owned c sets h =
    let levels = c.args.self.now in
    let heap = c.args.heap.now in
    let none : fields_in (object_at (heap_view heap) c.args.object) ≡ 0 = ap fields_in (object_nowhere heap c.args.object c.in_default.ensures.is) in
    subst (λ n. Stands levels heap (with_object c.args.object n sets)) (sym none)
    (record { within = h.within; stamped = with_stamped levels heap [] levels.stamps.items sets (λ c. refl) h })

pub returns-in_err-cover-clause-err : goal.returns-in_err-cover-clause-err
returns-in_err-cover-clause-err c = on_err c.from_residual.result (λ sets. stands_covered c.args.self.now _ c.args.heap.now sets refl refl c.in_err-cover.ensures.same (omega (arith, c.in_err-cover.ensures.bound, c.word_count.ensures)))

pub returns-clause-owned : goal.returns-clause-owned
returns-clause-owned c sets h =
    let levels = c.args.self.now in
    let heap = c.args.heap.now in
    let s = c.in-Some.stretch in
    let new = c.stamp_words.new.stamps.items in
    let cells = cells_of c.args.object s.fields in
    let many : fields_in (object_at (heap_view heap) c.args.object) ≡ s.fields = ap fields_in (object_there heap c.args.object s c.in-Some.ensures.is) ∙ many_fields heap c.args.object s c.in-Some.ensures.is in
    let anew = words_anew heap cells levels.clock s.start (s.start + s.fields) levels.stamps.items c.cover.new.stamps.items new (covers_object heap c.args.object s c.in-Some.ensures.is) c.in_ok-cover.ensures.same c.stamp_words.ensures.inside c.stamp_words.ensures.outside in
    record {
      within = omega (arith, h.within, c.stamp_words.ensures.len, c.in_ok-cover.ensures.bound, c.word_count.ensures);
      stamped = subst (λ n. AreStamped (λ c. stamp_at new (offset_of heap c)) [] (levels.top ∷ reverse levels.outer.items) (with_object c.args.object n sets)) (sym many) (with_stamped levels heap cells new sets anew h);
    }
