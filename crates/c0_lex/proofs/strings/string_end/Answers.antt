-- What is answered by hand of the proof of `string_end`.
use Rattle.std.proofs.Common.{◌+◌, sym, ◌∙◌, arith}
use Rattle.c0_lex.proofs.Scanning.{further_none, string_closed, string_bad, string_escape, string_plain, string_wild, rest_is}
use Rattle.c0_lex.proofs.strings.string_end.Goals as goal

pub loop-at-init : goal.loop-at-init
loop-at-init c = record { within = omega arith; so_far = sym (further_none _) }

pub returns-then-text-at-eq34-clause-exact : goal.returns-then-text-at-eq34-clause-exact
returns-then-text-at-eq34-clause-exact c = string_closed _ _ c.loop-at-test.true c.loop-at.invariant.so_far c.if-text-at-eq34.true

pub loop-at-preserved-then-text-at-eq92 : goal.loop-at-preserved-then-text-at-eq92
loop-at-preserved-then-text-at-eq92 c =
    let some = c.begins_escape.ensures.some c.if-not-begins_escape.false in
    record {
      within = omega (arith, some);
      so_far = string_escape _ _ c.loop-at-test.true c.loop-at.invariant.so_far _ c.if-text-at-eq34.false c.if-text-at-eq92.true (rest_is c.args.text.now (c.loop-at.at + 1)) (sym c.begins_escape.ensures.exact ∙ c.if-not-begins_escape.false);
    }

pub returns-then-not-begins_escape-clause-exact : goal.returns-then-not-begins_escape-clause-exact
returns-then-not-begins_escape-clause-exact c = string_bad _ _ c.loop-at-test.true c.loop-at.invariant.so_far _ c.if-text-at-eq34.false c.if-text-at-eq92.true (rest_is c.args.text.now (c.loop-at.at + 1)) (sym c.begins_escape.ensures.exact ∙ c.if-not-begins_escape.true)

pub loop-at-preserved : goal.loop-at-preserved
loop-at-preserved c = record { within = omega arith; so_far = string_plain _ _ c.loop-at-test.true c.loop-at.invariant.so_far c.if-text-at-eq34.false c.if-text-at-eq92.false (sym c.is_printable.ensures ∙ c.if-is_printable.true) }

pub returns-else-is_printable-clause-exact : goal.returns-else-is_printable-clause-exact
returns-else-is_printable-clause-exact c = string_wild _ _ c.loop-at-test.true c.loop-at.invariant.so_far c.if-text-at-eq34.false c.if-text-at-eq92.false (sym c.is_printable.ensures ∙ c.if-is_printable.false)
