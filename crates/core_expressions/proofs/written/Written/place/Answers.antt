use Rattle.std.proofs.Common.{sym, append-nil}
use Rattle.core_tree.specs.CoreViews.{code_view}
use Rattle.core_expressions.proofs.Joins.{join_none, on_ok}
use Rattle.core_expressions.proofs.written.Written.place.Goals as goal

pub returns : goal.returns
returns c = λ k s. on_ok c.push.result (λ e. record {
  counts = record { used = s.used; next = s.next };
  code = sym (join_none (code_view c.args.self.now.code));
  decisions = sym (append-nil c.args.self.now.decisions);
  placed = e;
}) c.push.ensures.ok
