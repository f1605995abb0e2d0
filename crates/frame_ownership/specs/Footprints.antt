-- The footprint that a walker has.
use Rattle.c0_meaning.specs.Heaps.{Cells}
use Rattle.frame_ownership.specs.declared.walker.Walker.{Walker}

-- the cells of the last formula that held
abbrev pub cells_of : Walker → Cells
cells_of w = w.walk.taken
