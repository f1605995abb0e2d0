-- What holds at the loop of `hexadecimal_digits`.
use Rattle.std.proofs.Common.{◌≡◌, ◌<◌, ◌^◌, take, true}
use Rattle.std.specs.List.{list_all}
use Rattle.c0_lex.specs.Bytes.{is_hexadecimal_digit}
use Rattle.c0_lex.specs.Words.{hexadecimal_value}
use Rattle.c0_lex.proofs.words.hexadecimal_digits.Given as goal

abbrev pub invariant-loop-b : goal.invariant-loop-b
invariant-loop-b l = record {
  value : l.value ≡ hexadecimal_value (take l.b-index l.text);
  bound : l.value < 16 ^ l.b-index;
  digits : list_all is_hexadecimal_digit (take l.b-index l.text) ≡ true;
}
