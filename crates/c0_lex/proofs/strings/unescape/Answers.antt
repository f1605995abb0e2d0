-- What is answered by hand of the proof of `unescape`.
use Rattle.std.proofs.Common.{◌-◌, ◌<◌, length, take, drop, sym, ap, ◌∙◌, arith, length-drop}
use Rattle.c0_lex.proofs.Scanning.{rest_is}
use Rattle.c0_lex.proofs.Quotes.{contents_escape, contents_plain}
use Rattle.c0_lex.proofs.strings.unescape.Goals as goal

pub loop-at-preserved-then-has_escape : goal.loop-at-preserved-then-has_escape
loop-at-preserved-then-has_escape c =
    let text = c.args.text.now in
    let at = c.loop-at.at in
    let rest = take (length text - at) (drop at text) in
    let r = rest_is text at in
    let left = ap length r ∙ length-drop at text in
    let some : 0 < length rest = omega (arith, c.loop-at-test.true, left) in
    let p = c.in_ok-push.ensures {u = tt} in
    contents_escape text rest _ _ at c.escape_byte.result r some c.loop-at.invariant c.if-rest-eq34.false (sym c.has_escape.ensures.exact ∙ c.if-has_escape.true) c.escape_byte.ensures p.ok

pub loop-at-preserved : goal.loop-at-preserved
loop-at-preserved c =
    let text = c.args.text.now in
    let at = c.loop-at.at in
    let rest = take (length text - at) (drop at text) in
    let r = rest_is text at in
    let left = ap length r ∙ length-drop at text in
    let some : 0 < length rest = omega (arith, c.loop-at-test.true, left) in
    let p = c.in_ok-push-2.ensures {u = tt} in
    contents_plain text rest _ _ at r some c.loop-at.invariant c.if-rest-eq34.false (sym c.has_escape.ensures.exact ∙ c.if-has_escape.false) p.ok
