-- A turn on a path that the network lets through.
use Rattle.std.proofs.Common.{ℕ, ◌⊎◌, List}
use Rattle.scion_topology.specs.Network.{Network}
use Rattle.path_verifier.specs.Piece.{PieceValue}
use Rattle.forwarding.specs.Turn.{Packet}
use Rattle.forwarding.specs.Forwardable.{MayForward}
use Rattle.forwarding.specs.OnPath.{OnPath, ComesNearer, Arrives}
use Rattle.forwarding.proofs.Travel.{turn_leads_on}
use Rattle.forwarding.proofs.Routes.{route_of}

pub one_turn : (n : Network) (now source destination : ℕ) (payload : List ℕ)
    (pieces : List PieceValue) (left : ℕ) (packet : Packet)
    → MayForward n now source destination pieces
    → OnPath n source destination payload pieces left packet
    → ComesNearer n now source destination payload pieces left packet
    ⊎ Arrives n now source destination payload pieces left packet
one_turn n now source destination payload pieces left packet lets stands =
    turn_leads_on n now source destination payload pieces
    (route_of n now source destination pieces lets) stands.frame left packet stands
