-- The first fault of a list of tokens, at its place.
use Rattle.gc0_base.specs.declared.place.Place.{Place}

-- with the token here the tokens begin no program, or each program that begins so is too deep
pub data Fault : Type 0 where
  syntax_at : Place → Fault
  deep_at : Place → Fault
