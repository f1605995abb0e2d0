use Rattle.std.proofs.Common.{◌+◌, length, ap, ◌∙◌, sym, append-nil, length-append}
use Rattle.core_tree.specs.CoreViews.{code_view}
use Rattle.core_tables.specs.SiteTables.{choices_at}
use Rattle.core_expressions.proofs.Joins.{join_none, on_ok, length_choices}
use Rattle.core_expressions.proofs.written.Written.decide.Goals as goal

pub returns : goal.returns
returns c = λ k s. on_ok c.append_choices.result (λ e. record {
  counts = record {
    used = s.used;
    next = ap (λ l. length l) e
        ∙ length-append c.args.self.now.decisions (choices_at c.args.site c.args.phase 0 c.args.places.now)
        ∙ ap (λ n. n + length (choices_at c.args.site c.args.phase 0 c.args.places.now)) s.next
        ∙ ap (λ n. k.next + n) (length_choices c.args.site c.args.phase 0 c.args.places.now);
  };
  code = sym (join_none (code_view c.args.self.now.code));
  decisions = e;
  placed = sym (append-nil c.args.self.now.placed);
}) c.append_choices.ensures
