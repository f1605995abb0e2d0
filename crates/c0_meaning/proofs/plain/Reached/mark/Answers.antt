use Rattle.std.proofs.Common.{arith}
use Rattle.c0_meaning.proofs.Marked.{free_at, follows_pushed, follows_full}
use Rattle.c0_meaning.proofs.plain.Reached.mark.Goals as goal

pub returns-then-self-lt512-clause-follows : goal.returns-then-self-lt512-clause-follows
returns-then-self-lt512-clause-follows c =
    let r = c.args.self.now in
    follows_pushed r c.args.function c.if-index-lt512.true (free_at r.marked c.args.function (omega arith) c.if-not-self-index.true)

pub returns-else-self-lt512-clause-follows : goal.returns-else-self-lt512-clause-follows
returns-else-self-lt512-clause-follows c =
    let r = c.args.self.now in
    follows_full r c.args.function c.if-index-lt512.true (free_at r.marked c.args.function (omega arith) c.if-not-self-index.true) c.if-self-lt512.false
