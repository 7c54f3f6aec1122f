-- How long the numbers of an address are.
use Rattle.std.proofs.Common.{ℕ, ◌^◌, ◌<◌, ◌≤◌, false, length, arith}
use Rattle.std.specs.Fmt.{digits, decimal}
use Rattle.std.proofs.lemmas.Fmt.{length-decimal-le}
use Rattle.isd_as.proofs.Printed.{length-digits-le}

-- a number of 16 bits, in a group
pub of_group : (n : ℕ) → n < 2 ^ 16 → length (digits 16 false n) ≤ 4
of_group n fits = length-digits-le 3 16 n (omega arith) fits (omega arith)

pub of_isd : (n : ℕ) → n < 2 ^ 16 → length (decimal n) ≤ 5
of_isd n fits = length-decimal-le 5 n (omega arith) (omega arith) (omega arith)

pub of_decimal_as : (n : ℕ) → n < 2 ^ 32 → length (decimal n) ≤ 10
of_decimal_as n fits = length-decimal-le 10 n (omega arith) (omega arith) (omega arith)
