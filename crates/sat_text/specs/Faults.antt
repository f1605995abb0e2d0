-- At which line reading stops.
use Rattle.std.specs.Prelude.{◌≡◌, ℕ, ◌-◌, ◌<◌, ◌≤◌, List, length, take, Some, None}
use Rattle.sat_text.specs.declared.reader.Reader.{Reader}
use Rattle.sat_text.specs.Reading.{start, rows_step, formula_in}

-- the lines before it were taken; with it they aren't, or it is the last and no formula came
pub record IsFaultAt (rows : List (List (List ℕ))) (line : ℕ) : Type 0 where
  pub first : 1 ≤ line
  pub within : line ≤ length rows
  pub reader : Reader
  pub before : rows_step start (take (line - 1) rows) ≡ Some reader
  pub fault : line < length rows → rows_step start (take line rows) ≡ None
  pub none : formula_in rows ≡ None
