-- The check because of which a packet is refused.
use Rattle.std.specs.Prelude.{ℕ, if◌then◌else◌, List, [], ◌∷◌, Option, Some, None, is_ok}
use Rattle.packet_view.specs.Checks.{CheckValue}

-- the two sides of the first check that fails; none if all of them succeed
unfoldable pub failed_sides : List CheckValue → Option (List ℕ)
failed_sides [] = None
failed_sides (one ∷ later) = if is_ok one.verdict then failed_sides later else Some one.sides
