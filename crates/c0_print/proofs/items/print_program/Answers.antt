-- What is answered by hand of the proof of `print_program`.
use Rattle.parsed_tree.specs.Views.{program_view}
use Rattle.c0_print.proofs.ReadBack.{bytes_read_back}
use Rattle.c0_print.proofs.items.print_program.Goals as goal

pub returns-clause-again : goal.returns-clause-again
returns-clause-again c = bytes_read_back (λ b. b.items) _ (program_view c.args.parsed.now) c.program_bytes.ensures c.reads_back.ensures
