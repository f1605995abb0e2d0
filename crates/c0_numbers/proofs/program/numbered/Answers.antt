-- What the search leaves of the proof of `numbered`.
use Rattle.c0_numbers.proofs.program.numbered.Goals as goal

pub returns : goal.returns
returns c = rw c.in_ok-tables.ensures at c.numbered_by.ensures
