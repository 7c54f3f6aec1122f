-- The text so far has the pieces of the front.
use Rattle.std.proofs.Common.{◌≡◌, ◌++◌, take}
use Rattle.std.specs.Prelude.{codes, flat_map}
use Rattle.std.specs.String.{string_bytes}
use Rattle.path_requests.specs.Text.{piece_json}
use Rattle.path_requests.proofs.text.push_pieces.Given as goal

abbrev pub invariant-loop-one : goal.invariant-loop-one
invariant-loop-one l =
    string_bytes l.text
    ≡ string_bytes l.initial.text ++ flat_map (λ it. codes "," ++ piece_json l.segments it) (take l.one-index l.later)
