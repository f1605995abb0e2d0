-- What is answered by hand of the proof of `comment_length`.
use Rattle.std.proofs.Common.{◌-◌, [], ◌∷◌, length, take, drop, sym, arith}
use Rattle.c0_lex.proofs.Scanning.{longer_none, comment_opens, comment_closes, comment_goes_on, told, rest_is, two_within}
use Rattle.c0_lex.proofs.comments.comment_length.Goals as goal

pub loop-at-init : goal.loop-at-init
loop-at-init c = record { within = omega arith; depth = omega arith; so_far = sym (longer_none _) }

pub loop-at-preserved-then-begins : goal.loop-at-preserved-then-begins
loop-at-preserved-then-begins c =
    let i = c.loop-at.invariant in
    let rest = take (length c.args.text.now - c.loop-at.at) (drop c.loop-at.at c.args.text.now) in
    let opens = told rest _ (47 ∷ 42 ∷ []) _ _ c.begins.ensures.exact c.as_slice.ensures c.if-begins.true in
    record {
      within = two_within c.args.text.now rest _ c.loop-at.at _ _ (rest_is c.args.text.now c.loop-at.at) c.as_slice.ensures i.within (c.begins.ensures.within c.if-begins.true);
      depth = omega arith;
      so_far = comment_opens c.args.text.now _ c.loop-at.at c.loop-at.depth c.loop-at-test.true (rest_is c.args.text.now c.loop-at.at) i.so_far opens;
    }

pub loop-at-preserved-then-begins-2 : goal.loop-at-preserved-then-begins-2
loop-at-preserved-then-begins-2 c =
    let i = c.loop-at.invariant in
    let rest = take (length c.args.text.now - c.loop-at.at) (drop c.loop-at.at c.args.text.now) in
    let opens = told rest _ (47 ∷ 42 ∷ []) _ _ c.begins.ensures.exact c.as_slice.ensures c.if-begins.false in
    let closes = told rest _ (42 ∷ 47 ∷ []) _ _ c.begins-else-begins.ensures.exact c.as_slice-else-begins.ensures c.if-begins-2.true in
    record {
      within = two_within c.args.text.now rest _ c.loop-at.at _ _ (rest_is c.args.text.now c.loop-at.at) c.as_slice-else-begins.ensures i.within (c.begins-else-begins.ensures.within c.if-begins-2.true);
      depth = omega arith;
      so_far = comment_closes c.args.text.now _ c.loop-at.at c.loop-at.depth c.loop-at-test.true (rest_is c.args.text.now c.loop-at.at) i.so_far opens closes c.if-depth-eq0.false;
    }

pub loop-at-preserved : goal.loop-at-preserved
loop-at-preserved c =
    let i = c.loop-at.invariant in
    let rest = take (length c.args.text.now - c.loop-at.at) (drop c.loop-at.at c.args.text.now) in
    let opens = told rest _ (47 ∷ 42 ∷ []) _ _ c.begins.ensures.exact c.as_slice.ensures c.if-begins.false in
    let closes = told rest _ (42 ∷ 47 ∷ []) _ _ c.begins-else-begins.ensures.exact c.as_slice-else-begins.ensures c.if-begins-2.false in
    record {
      within = omega arith;
      depth = omega arith;
      so_far = comment_goes_on c.args.text.now _ c.loop-at.at c.loop-at.depth c.loop-at-test.true (rest_is c.args.text.now c.loop-at.at) i.so_far opens closes;
    }
