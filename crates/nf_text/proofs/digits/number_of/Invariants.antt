use Rattle.std.proofs.Common.{◌≡◌, ◌<◌, ◌^◌, drop}
use Rattle.std.specs.List.{list_all}
use Rattle.std.specs.Char.{is_ascii_digit}
use Rattle.std.specs.Str.Parse.{digits_value, digits_value_after}
use Rattle.nf_text.proofs.digits.number_of.Given as goal

-- the digits so far count, and those that are left go on from there
abbrev pub invariant-loop-byte : goal.invariant-loop-byte
invariant-loop-byte l = record {
  digits : list_all is_ascii_digit (drop l.byte-index l.bytes) ≡ list_all is_ascii_digit l.bytes;
  number : digits_value_after 10 l.number (drop l.byte-index l.bytes) ≡ digits_value 10 l.bytes;
  below : l.number < 10 ^ l.byte-index;
}
