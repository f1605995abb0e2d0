-- What holds at the loop of `decimal`.
use Rattle.std.proofs.Common.{◌≡◌, ◌^◌, ◌-◌, min, take, true}
use Rattle.std.specs.List.{list_all}
use Rattle.c0_lex.specs.Bytes.{is_digit}
use Rattle.c0_lex.specs.Words.{decimal_value}
use Rattle.c0_lex.proofs.words.decimal.Given as goal

abbrev pub invariant-loop-b : goal.invariant-loop-b
invariant-loop-b l = record {
  value : l.value ≡ min (decimal_value (take l.b-index l.text)) (2 ^ 64 - 1);
  digits : list_all is_digit (take l.b-index l.text) ≡ true;
}
