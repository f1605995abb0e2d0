use Rattle.std.proofs.Common.{◌≡◌, sym, ◌∙◌, rules}
use Rattle.plain_functions.proofs.Lists.{mark_new, mark_old, unmarked_within}
use Rattle.plain_functions.proofs.marks.Marks.mark.Goals as goal

pub set-requires : goal.set-requires
set-requires c = unmarked_within c.args.self.now.plain c.args.function (sym c.lacks_mark.ensures ∙ c.if-lacks_mark.true)

pub returns-in_ok-push : goal.returns-in_ok-push
returns-in_ok-push c = mark_new c.args.self.now c.args.function c.set.new.self c.push.new.self (sym c.lacks_mark.ensures ∙ c.if-lacks_mark.true) c.set.ensures c.in_ok-push.ensures.ok

pub returns-else-lacks_mark : goal.returns-else-lacks_mark
returns-else-lacks_mark c = mark_old c.args.self.now c.args.function (sym c.lacks_mark.ensures ∙ c.if-lacks_mark.false)
