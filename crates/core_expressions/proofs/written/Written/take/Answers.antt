use Rattle.std.proofs.Common.{◌∙◌, sym, append-nil}
use Rattle.core_tree.specs.CoreViews.{code_view}
use Rattle.temp_counts.specs.Used.{used_in}
use Rattle.core_expressions.proofs.Joins.{join_none, one_more_alike, if_then}
use Rattle.core_expressions.proofs.written.Written.take.Goals as goal

pub returns-clause-written : goal.returns-clause-written
returns-clause-written c = λ k s. if_then c.slot.result record {
  counts = record {
    used = λ u. c.in_ok-k.ensures.used u ∙ one_more_alike c.args.shape u (used_in c.args.self.now.temps) k.used s.used;
    next = s.next;
  };
  code = sym (join_none (code_view c.args.self.now.code));
  decisions = sym (append-nil c.args.self.now.decisions);
  placed = sym (append-nil c.args.self.now.placed);
}
