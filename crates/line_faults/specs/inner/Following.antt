-- Lines that are refused because a line before them was.
use Rattle.std.specs.Prelude.{ℕ, ◌+◌, ◌&&◌, if◌then◌else◌, nat_le, nat_lt, Option, Some, None}

-- this many packets, or beacons, were made, and this many lines that were to make one were refused,
-- the first of them at a line: that line, if the packet of this number would be there had none been
abbrev pub cause_of_lack : (made refused first number : ℕ) → Option ℕ
cause_of_lack made refused first number =
    if nat_le made number && nat_lt number (made + refused) then Some first else None
