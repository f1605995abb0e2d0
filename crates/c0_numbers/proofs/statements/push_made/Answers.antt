-- What the search leaves of the proof of `push_made`.
use Rattle.std.proofs.Common.{◌≡◌, ◌∙◌, ap}
use Rattle.c0_numbers.specs.Rows.{stmts_before}
use Rattle.c0_numbers.proofs.Blocks.{stmt_pushed}
use Rattle.c0_numbers.proofs.statements.push_made.Goals as goal

pub returns : goal.returns
returns c rest = ap (λ ss. stmts_before ss rest) c.in_ok-push.ensures.ok ∙ stmt_pushed c.args.made.now c.args.part rest
