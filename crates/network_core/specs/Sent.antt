-- The way of a shipment that was sent by a path of an answer.
use Rattle.std.specs.Prelude.{ℕ, [], slice_get}
use Rattle.std.specs.Option.{option_map_or}
use Rattle.path_verifier.specs.Header.{header_of}
use Rattle.network_core.specs.Value.{Way, way_with, KeptAnswer, way_on}

-- the way of the path of this number; if the answer has no such path, a way without pieces
abbrev pub way_numbered : KeptAnswer → ℕ → Way
way_numbered one path =
    option_map_or (way_on one) (slice_get one.answer.paths path)
    (way_with one.source one.destination [] (header_of []) one.rules)
