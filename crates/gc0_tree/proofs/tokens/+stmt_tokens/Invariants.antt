use Rattle.std.proofs.Common.{◌≡◌, ◌++◌, drop}
use Rattle.gc0_tree.specs.Sites.{stmts_tokens}
use Rattle.gc0_tree.specs.Views.{stmts_view}
use Rattle.gc0_tree.proofs.tokens.+stmt_tokens.Given as goal

abbrev pub invariant-push_stmts-loop-s : goal.invariant-push_stmts-loop-s
invariant-push_stmts-loop-s l = l.places.items ++ stmts_tokens l.kind (stmts_view (drop l.s-index l.ss)) ≡ l.initial.places.items ++ stmts_tokens l.kind (stmts_view l.ss)
