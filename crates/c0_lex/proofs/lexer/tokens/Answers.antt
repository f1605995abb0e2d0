-- What is answered by hand of the proof of `tokens`.
use Rattle.std.proofs.Common.{map, ap, ◌∙◌, inl}
use Rattle.std.proofs.lemmas.List.{map-append}
use Rattle.c0_lex.specs.Texts.{lexeme_of}
use Rattle.c0_lex.proofs.Scanning.{rest_is}
use Rattle.c0_lex.proofs.Cuts.{one_list, one_fault, never_both}
use Rattle.c0_lex.proofs.Steps.{gap_turn, found_turn, fault_turn, finish_turn, cause_of, slice_within, counted, measure_found}
use Rattle.c0_lex.proofs.lexer.tokens.Goals as goal

pub loop-size-preserved-in-Gap : goal.loop-size-preserved-in-Gap
loop-size-preserved-in-Gap c =
    let i = c.loop-size.invariant in
    let r = rest_is c.args.source.now c.loop-size.at in
    let m = c.place_behind-place.ensures in
    let w = c.in-Gap.ensures {u = tt} in
    record {
      within = slice_within c.args.source.now _ c.loop-size.at _ r i.within w.within.1;
      lines = counted _ _ c.loop-size.at _ _ i.lines m.lines;
      columns = counted _ _ c.loop-size.at _ _ i.columns m.columns;
      so_far = gap_turn c.args.source.now _ c.loop-size.at _ _ _ _ _ r i.so_far w.exact m.moved;
    }

pub loop-size-smaller : goal.loop-size-smaller
loop-size-smaller c =
    let w = c.in-Found.ensures {u = tt} in
    measure_found c.args.source.now _ c.loop-size.at _ _ _ _ _ (rest_is c.args.source.now c.loop-size.at) c.loop-size.invariant.within w.within w.exact c.mode_behind-mode.ensures

pub loop-size-preserved : goal.loop-size-preserved
loop-size-preserved c =
    let i = c.loop-size.invariant in
    let r = rest_is c.args.source.now c.loop-size.at in
    let m = c.place_behind-place-in-Found.ensures in
    let w = c.in-Found.ensures {u = tt} in
    let p = c.in_ok-push-in-Found.ensures {u = tt} in
    record {
      within = slice_within c.args.source.now _ c.loop-size.at _ r i.within w.within;
      lines = counted _ _ c.loop-size.at _ _ i.lines m.lines;
      columns = counted _ _ c.loop-size.at _ _ i.columns m.columns;
      so_far = found_turn c.args.source.now _ c.loop-size.at _ _ _ _ _ _ _ _ r i.so_far w.exact c.mode_behind-mode.ensures m.moved (ap (map lexeme_of) p.items ∙ map-append lexeme_of _ _);
    }

pub returns-in-Fault-clause-fault : goal.returns-in-Fault-clause-fault
returns-in-Fault-clause-fault c =
    let w = c.in-Fault.ensures {u = tt} in
    cause_of c.args.source.now c.in-Fault.fault (fault_turn c.args.source.now _ c.loop-size.at _ _ _ _ (rest_is c.args.source.now c.loop-size.at) c.loop-size.invariant.so_far w.exact)

pub returns-in-Fault-clause-only : goal.returns-in-Fault-clause-only
returns-in-Fault-clause-only c = λ ts h.
    let w = c.in-Fault.ensures {u = tt} in
    absurd (never_both c.args.source.now ts c.in-Fault.fault h (fault_turn c.args.source.now _ c.loop-size.at _ _ _ _ (rest_is c.args.source.now c.loop-size.at) c.loop-size.invariant.so_far w.exact))

pub returns-in-Fault-clause-only_fault : goal.returns-in-Fault-clause-only_fault
returns-in-Fault-clause-only_fault c = λ e h.
    let w = c.in-Fault.ensures {u = tt} in
    inl (one_fault c.args.source.now c.in-Fault.fault e (fault_turn c.args.source.now _ c.loop-size.at _ _ _ _ (rest_is c.args.source.now c.loop-size.at) c.loop-size.invariant.so_far w.exact) h)

pub returns-in-Finish-clause-tokens : goal.returns-in-Finish-clause-tokens
returns-in-Finish-clause-tokens c =
    let w = c.in-Finish.ensures {u = tt} in
    let p = c.in_ok-push-in-Finish.ensures {u = tt} in
    finish_turn c.args.source.now _ c.loop-size.at _ _ _ _ (rest_is c.args.source.now c.loop-size.at) c.loop-size.invariant.so_far w.exact (ap (map lexeme_of) p.items ∙ map-append lexeme_of _ _)

pub returns-in-Finish-clause-only : goal.returns-in-Finish-clause-only
returns-in-Finish-clause-only c = λ ts h.
    let w = c.in-Finish.ensures {u = tt} in
    let p = c.in_ok-push-in-Finish.ensures {u = tt} in
    one_list c.args.source.now _ ts (finish_turn c.args.source.now _ c.loop-size.at _ _ _ _ (rest_is c.args.source.now c.loop-size.at) c.loop-size.invariant.so_far w.exact (ap (map lexeme_of) p.items ∙ map-append lexeme_of _ _)) h

pub returns-in-Finish-clause-only_fault : goal.returns-in-Finish-clause-only_fault
returns-in-Finish-clause-only_fault c = λ e h.
    let w = c.in-Finish.ensures {u = tt} in
    let p = c.in_ok-push-in-Finish.ensures {u = tt} in
    never_both c.args.source.now _ e (finish_turn c.args.source.now _ c.loop-size.at _ _ _ _ (rest_is c.args.source.now c.loop-size.at) c.loop-size.invariant.so_far w.exact (ap (map lexeme_of) p.items ∙ map-append lexeme_of _ _)) h
