-- What reading an address answers: its number, or the first refusal in this order. A text without
-- '-' is NoDash. Then comes the ISD: BadDigit before IsdRange. Then comes the AS number: BadDigit
-- before AsRange if it has no ':', and BadGroups before BadDigit if it has one.
use Rattle.std.specs.Prelude.{ℕ, ◌+◌, ◌*◌, ◌^◌, Bool, ◌&&◌, nat_lt, ◌==◌, if◌then◌else◌, List, length, Result, Ok, Err}
use Rattle.std.specs.Char.{digit_value}
use Rattle.std.specs.List.{list_all, list_any}
use Rattle.std.specs.Str.{chars}
use Rattle.std.specs.Str.Parse.{digits_value}
use Rattle.std.specs.Option.{ok_or}
use Rattle.refusal.specs.Refusal.{◌>>=◌}
use Rattle.separators.specs.Signs.{cut_at}
use Rattle.isd_as.specs.declared.fault.AddrFault.{AddrFault}
use Rattle.isd_as.specs.declared.fault.AddrFault.TheVariants as fault
use Rattle.isd_as.specs.Address.{address_of, dash, colon}

-- whether each byte is a digit of the radix
abbrev pub all_digits : ℕ → List ℕ → Bool
all_digits radix text = list_all (λ b. nat_lt (digit_value b) radix) text

-- the value of a text of digits: BadDigit is checked first, and then whether the value is below the
-- limit
unfoldable pub number_at : (radix limit : ℕ) (too_large : AddrFault) (text : List ℕ)
    → Result ℕ AddrFault
number_at radix limit too_large text = if nat_lt 0 (length text) && all_digits radix text
    then (if nat_lt (digits_value radix text) limit then Ok (digits_value radix text)
    else Err too_large) else Err fault.BadDigit

-- the number of an ISD, a decimal number of 16 bits
unfoldable pub isd_at : List ℕ → Result ℕ AddrFault
isd_at text = number_at 10 (2 ^ 16) fault.IsdRange text

-- whether the text has 1 to 4 characters
abbrev pub is_group : List ℕ → Bool
is_group text = nat_lt 0 (length (chars text)) && nat_lt (length (chars text)) 5

-- the number of three groups: their count and their lengths are checked before their digits; four
-- digits always fit into 16 bits
unfoldable pub groups_at : List ℕ → Result ℕ AddrFault
groups_at text = do
  first ← ok_or (cut_at colon text) fault.BadGroups
  second ← ok_or (cut_at colon first.1) fault.BadGroups
  if list_any (λ b. b == colon) second.1 then Err fault.BadGroups else (
      if is_group first.0 && is_group second.0 && is_group second.1 then (do
        high ← number_at 16 (2 ^ 16) fault.BadGroups first.0
        middle ← number_at 16 (2 ^ 16) fault.BadGroups second.0
        low ← number_at 16 (2 ^ 16) fault.BadGroups second.1
        Ok (high * 2 ^ 32 + middle * 2 ^ 16 + low))
      else Err fault.BadGroups)

-- the number of an AS, as three groups if the text has a ':' and else in decimal
unfoldable pub as_number_at : List ℕ → Result ℕ AddrFault
as_number_at text = if list_any (λ b. b == colon) text then groups_at text
    else number_at 10 (2 ^ 32) fault.AsRange text

-- the number of an address: NoDash first, then the refusals of its ISD, then those of its AS number
unfoldable pub address_at : List ℕ → Result ℕ AddrFault
address_at text = do
  parts ← ok_or (cut_at dash text) fault.NoDash
  isd ← isd_at parts.0
  as_number ← as_number_at parts.1
  Ok (address_of isd as_number)
