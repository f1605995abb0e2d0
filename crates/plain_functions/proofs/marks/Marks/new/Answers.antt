use Rattle.std.proofs.Common.{◌∙◌, ◌≡◌, ◌++◌, ◌∷◌, [], not, List, Bool, ap, arith, length, length-append, sym, rules}
use Rattle.plain_functions.proofs.Lists.{opens_more, waits_open, waits_shut}
use Rattle.plain_functions.proofs.marks.Marks.new.Goals as goal
use Rattle.plain_functions.proofs.marks.Marks.new.Goals.{then-open+in_ok-push-2, else-open}

pub loop-number-preserved : goal.loop-number-preserved
loop-number-preserved c =
    let before = c.loop-number.invariant in
    let n = c.loop-number.number in
    let xs = c.loop-number.plain in
    let ys = c.push.new.self in
    let b = c.is_open-open.result in
    let e : ys ≡ xs ++ not b ∷ [] = c.in_ok-push.ensures.ok in
    record {
      count = ap length e ∙ omega (arith, length-append xs (not b ∷ []), before.count);
      plain = opens_more c.args.functions.now n c.index-functions-number.result xs ys b (omega arith) c.index-functions-number.is c.is_open-open.ensures e before.plain;
      waiting = λ f. elim c.if-open.branch [
        | then-open+in_ok-push-2 w ↦ waits_open n f xs ys c.loop-number.waiting c.if-open.waiting b before.count e w.if-open.true (w.waiting-is ∙ w.in_ok-push-2.ensures.ok) (before.waiting f)
        | else-open w ↦ waits_shut f xs ys c.loop-number.waiting c.if-open.waiting b e w.if-open.false w.waiting-is (before.waiting f)
      ];
    }
