use Rattle.std.proofs.Common.{sym}
use Rattle.word_blast.specs.Groups.{zero_lit}
use Rattle.word_blast.proofs.Loops.{greatest-last}
use Rattle.word_blast.proofs.groups.greatest.Goals as goal

pub returns-in-Some : goal.returns-in-Some
returns-in-Some c = greatest-last zero_lit c.in-Some.bit.now c.args.xs.now (sym c.in-Some.ensures.value)
