-- A text that was resolved has no violation, so that its program fits.
use Rattle.parsed_tree.specs.Views as read
use Rattle.c0_types.proofs.resolve.Goals as goal
use Rattle.c0_types.proofs.Programs.{if_resolved}

pub returns-clause-fits : goal.returns-clause-fits
returns-clause-fits c = if_resolved (read.program_view c.args.parsed.now) c.resolve_by.result c.resolve_by.ensures.kept c.resolve_by.ensures.program
