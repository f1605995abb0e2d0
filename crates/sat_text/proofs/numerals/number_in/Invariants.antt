use Rattle.std.proofs.Common.{◌≡◌, ◌^◌, ◌-◌, min, take, true}
use Rattle.std.specs.List.{list_all}
use Rattle.sat_text.specs.Reading.{is_digit, decimal_value}
use Rattle.sat_text.proofs.numerals.number_in.Given as goal

abbrev pub invariant-loop-digit : goal.invariant-loop-digit
invariant-loop-digit l = record {
  value : l.value ≡ min (decimal_value (take l.digit-index l.word)) (2 ^ 64 - 1);
  digits : list_all is_digit (take l.digit-index l.word) ≡ true;
}
