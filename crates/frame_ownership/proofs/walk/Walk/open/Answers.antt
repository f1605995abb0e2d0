use Rattle.std.proofs.Common.{◌≡◌, length, drop, map, refl, sym, ap, ◌∙◌, arith}
use Rattle.std.specs.Option.{option_map}
use Rattle.std.proofs.lemmas.Bool.{ltb-true, ltb-false}
use Rattle.std.proofs.lemmas.Option.{slice_get-map, slice_get_past, slice_get_read}
use Rattle.gc0_tree.specs.Views.{exprs_view, conjuncts_view, predicate_view}
use Rattle.owned_heap.specs.Views.{heap_view}
use Rattle.frame_ownership.specs.Seen.{numbers, mode_of, mine}
use Rattle.frame_ownership.specs.Frames.{words_of, stack_of, waiting, if_found}
use Rattle.frame_ownership.proofs.Stacking.{rises_wait}
use Rattle.frame_ownership.proofs.Stepping.{no_predicate, opened}
use Rattle.frame_ownership.proofs.walk.Walk.open.Goals as goal

pub returns-in_default-clause-walked : goal.returns-in_default-clause-walked
returns-in_default-clause-walked c =
    let s = c.args.sight in
    let w = c.args.self.now in
    let f = c.args.rest in
    let ps = c.args.predicates.now in
    let values = c.in_ok-found.ensures.values ∙ ap (λ b. if_found b (numbers (drop f.end c.push_values.new.words.items))) c.if-not-found.false in
    let past = ltb-false c.args.number (length ps) (sym c.in_default.ensures.lookup.0) in
    let none = slice_get-map predicate_view ps c.args.number ∙ ap (option_map predicate_view) (slice_get_past ps c.args.number past) in
    no_predicate (map predicate_view ps) (mode_of s.mode) (heap_view s.heap.now) (mine s.heap.now s.levels.now) c.stack_walks.ensures c.requires.guarded
    (words_of w.words.items f) c.args.place c.args.number (exprs_view c.args.arguments.now) (conjuncts_view f.parts.now) (stack_of w.words.items w.frames.items) w.taken
    (numbers (drop f.end c.push_values.new.words.items)) values none

pub returns-clause-walked : goal.returns-clause-walked
returns-clause-walked c =
    let s = c.args.sight in
    let w = c.args.self.now in
    let f = c.args.rest in
    let ps = c.args.predicates.now in
    let vs = c.push_values.new.words.items in
    let values = c.in_ok-found.ensures.values ∙ ap (λ b. if_found b (numbers (drop f.end vs))) c.if-not-found.false in
    let within = ltb-true c.args.number (length ps) (sym c.in-Some.ensures.lookup.0) in
    let there = slice_get-map predicate_view ps c.args.number ∙ ap (option_map predicate_view) (slice_get_read ps (length ps) c.args.number c.in-Some.predicate.now refl within c.in-Some.ensures.lookup.1) in
    let many : c.len-end.result ≡ length vs = omega (arith, c.len-end.ensures) in
    rw (c.in_ok-wait_both.ensures.frames, c.in_ok-wait_both.ensures.words, c.in_ok-wait_both.ensures.taken)
    (opened (map predicate_view ps) (mode_of s.mode) (heap_view s.heap.now) (mine s.heap.now s.levels.now) c.stack_walks.ensures c.requires.guarded
    w.words.items vs w.frames.items f (record { parts = c.as_slice.result; start = f.end; end = c.len-end.result }) c.args.place c.args.number (exprs_view c.args.arguments.now) w.taken
    (predicate_view c.in-Some.predicate.now) c.in_ok-found.ensures.kept c.requires.rises values there (ap conjuncts_view (sym c.as_slice.ensures)) refl many)

pub returns-clause-rises : goal.returns-clause-rises
returns-clause-rises c = λ _.
    let w = c.args.self.now in
    let f = c.args.rest in
    let vs = c.push_values.new.words.items in
    let many : c.len-end.result ≡ length vs = omega (arith, c.len-end.ensures) in
    let long = c.in_ok-found.ensures.long in
    rw (c.in_ok-wait_both.ensures.frames, c.in_ok-wait_both.ensures.words)
    (rises_wait 0 (waiting w.frames.items f) f.end (record { parts = c.as_slice.result; start = f.end; end = c.len-end.result }) (length vs) c.as_slice.result.now
    (rises_wait 0 w.frames.items f.end f f.end f.parts.now c.requires.rises (omega arith) c.requires.start (omega arith)) (omega (arith, many, long)) (omega (arith, many, long)) (omega (arith, many)))
