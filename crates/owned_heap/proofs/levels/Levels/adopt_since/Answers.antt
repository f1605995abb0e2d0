use Rattle.std.proofs.Common.{length, arith, refl, sym, subst}
use Rattle.std.specs.List.{slice_get}
use Rattle.owned_heap.specs.Views.{heap_view}
use Rattle.owned_heap.specs.LevelSets.{made_since}
use Rattle.owned_heap.specs.Stands.{start_of}
use Rattle.owned_heap.proofs.Ranges.{Covers, covers_made, words_anew}
use Rattle.owned_heap.proofs.Owning.{on_err, stands_covered, with_stamped}
use Rattle.owned_heap.proofs.levels.Levels.adopt_since.Goals as goal

pub returns-in_err-cover-clause-err : goal.returns-in_err-cover-clause-err
returns-in_err-cover-clause-err c = on_err c.from_residual.result (λ sets. stands_covered c.args.self.now _ c.args.heap.now sets refl refl c.in_err-cover.ensures.same (omega (arith, c.in_err-cover.ensures.bound, c.word_count-count.ensures)))

pub returns-clause-adopted : goal.returns-clause-adopted
returns-clause-adopted c sets h =
    let levels = c.args.self.now in
    let heap = c.args.heap.now in
    let new = c.stamp_words.new.stamps.items in
    let count = c.word_count-count.result in
    let from = c.words_of.result in
    let cells = made_since c.args.first (heap_view heap) in
    let covers : Covers heap cells from count =
    subst (λ n. Covers heap cells n count) (sym c.words_of.ensures.is)
    (subst (λ n. Covers heap cells (start_of (slice_get heap.objects.items c.args.first) (length heap.words.items)) n) (sym c.word_count-count.ensures) (covers_made heap c.args.first)) in
    let anew = words_anew heap cells levels.clock from count levels.stamps.items c.cover.new.stamps.items new covers c.in_ok-cover.ensures.same c.stamp_words.ensures.inside c.stamp_words.ensures.outside in
    record {
      within = omega (arith, h.within, c.stamp_words.ensures.len, c.in_ok-cover.ensures.bound, c.word_count-count.ensures);
      stamped = with_stamped levels heap cells new sets anew h;
    }
