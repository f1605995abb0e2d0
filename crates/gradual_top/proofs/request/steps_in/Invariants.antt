-- What the loop over the digits keeps.
use Rattle.std.proofs.Common.{◌≡◌, ◌^◌, ◌-◌, min, take, true}
use Rattle.std.specs.List.{list_all}
use Rattle.gradual_top.specs.Requests.{is_digit, decimal_value}
use Rattle.gradual_top.proofs.request.steps_in.Given as goal

abbrev pub invariant-loop-digit : goal.invariant-loop-digit
invariant-loop-digit l = record {
  value : l.value ≡ min (decimal_value (take l.digit-index l.digits)) (2 ^ 64 - 1);
  digits : list_all is_digit (take l.digit-index l.digits) ≡ true;
}
