use Rattle.std.proofs.Common.{◌≡◌, ℕ, ◌<◌, ◌^◌, get_or, take, true}
use Rattle.std.specs.Char.{is_ascii_digit}
use Rattle.std.specs.Str.Parse.{digits_value}
use Rattle.crn_token.proofs.short_number.Given as goal

-- the digits so far and their number
abbrev pub invariant-loop-i : goal.invariant-loop-i
invariant-loop-i l = record {
  passes : (k : ℕ) → k < l.i → is_ascii_digit (get_or l.bytes k 0) ≡ true;
  value : l.value ≡ digits_value 10 (take l.i l.bytes);
  small : l.value < 10 ^ l.i;
}
