use Rattle.std.proofs.Common.{◌≡◌, ◌<◌, ◌^◌, true, take, drop}
use Rattle.std.specs.List.{list_all}
use Rattle.std.specs.Char.{is_ascii_digit}
use Rattle.pure_rows.specs.Numbers.{value_behind}
use Rattle.pure_rows.proofs.row.number_of.Given as goal

abbrev pub invariant-loop-digit : goal.invariant-loop-digit
invariant-loop-digit l = record {
  value : value_behind l.number (drop l.digit-index l.digits) ≡ value_behind 0 l.digits;
  digits : list_all is_ascii_digit (take l.digit-index l.digits) ≡ true;
  bound : l.number < 10 ^ l.digit-index;
}
