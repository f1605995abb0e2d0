use Rattle.std.proofs.Common.{[], ◌∷◌, ap, sym, ◌∙◌, append-nil}
use Rattle.core_tree.specs.CoreViews.{code_view}
use Rattle.core_expressions.proofs.Joins.{code_behind, on_ok}
use Rattle.core_expressions.proofs.written.Written.push.Goals as goal

pub returns : goal.returns
returns c = λ k s. on_ok c.push.result (λ e. record {
  counts = record { used = s.used; next = s.next };
  code = ap code_view e ∙ code_behind c.args.self.now.code (c.args.statement ∷ []);
  decisions = sym (append-nil c.args.self.now.decisions);
  placed = sym (append-nil c.args.self.now.placed);
}) c.push.ensures.ok
