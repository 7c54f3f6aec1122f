-- Which pieces a network forwards packets on: each AS accepts its hop, and the links between them
-- are up.
use Rattle.std.specs.Prelude.{◌≡◌, ℕ, ◌+◌, true, List, All, Any, Some, Ok, slice_get}
use Rattle.hop_mac.specs.Hop.{authenticator}
use Rattle.scion_topology.specs.declared.entry.IfEntry.{IfEntry}
use Rattle.scion_topology.specs.declared.entry.LinkKind.{LinkKind}
use Rattle.scion_topology.specs.declared.entry.LinkKind.TheVariants as links
use Rattle.scion_topology.specs.declared.network.AsEntry.{AsEntry}
use Rattle.scion_topology.specs.Network.{Network, as_named}
use Rattle.scion_topology.specs.Rules.{IsNetwork}
use Rattle.scion_topology.specs.Topology.{interface_at, far_end_in, owner_in}
use Rattle.path_segment.specs.declared.entry.Entry.{Entry}
use Rattle.path_verifier.specs.declared.kind.PieceKind.{PieceKind}
use Rattle.path_verifier.specs.declared.kind.PieceKind.TheVariants.{Up, Core, Down}
use Rattle.path_verifier.specs.Piece.{PieceValue, kind_of, travelled_entries}
use Rattle.path_verifier.specs.Accepted.{AreLive, MakesPath}
use Rattle.forwarding.specs.PathPosition.{beta_at, in_by, out_by}

-- the kind of the link to the next AS of a piece, and of the link to the AS before
abbrev pub ahead : PieceKind → LinkKind
ahead Up = links.Parent
ahead Core = links.Core
ahead Down = links.Child

abbrev pub behind : PieceKind → LinkKind
behind Up = links.Child
behind Core = links.Core
behind Down = links.Parent

-- the entry's AS is in the network and accepts the hop under one of its keys
pub record IsAuthenticHop (n : Network) (piece : PieceValue) (i : ℕ) (entry : Entry) : Type 0 where
  pub one : AsEntry
  pub named : as_named n.ases entry.ia ≡ Some one
  pub mac : Any (λ key. entry.mac ≡ authenticator key (beta_at piece i) piece.segment.timestamp
      entry.exp_time entry.cons_ingress entry.cons_egress) one.keys

-- a link that is up leads from the way out of an entry to the way in of the next entry
pub record IsLinked (n : Network) (piece : PieceValue) (entry next : Entry) : Type 0 where
  pub near : IfEntry
  pub near_there : interface_at n entry.ia (out_by piece entry) ≡ Ok near
  pub near_kind : near.kind ≡ ahead (kind_of piece)
  pub up : near.up ≡ true
  pub near_owner : owner_in n entry.ia (out_by piece entry) ≡ Ok near.router
  pub far : IfEntry
  pub far_there : interface_at n next.ia (in_by piece next) ≡ Ok far
  pub far_kind : far.kind ≡ behind (kind_of piece)
  pub far_owner : owner_in n next.ia (in_by piece next) ≡ Ok far.router
  pub leads : far_end_in n entry.ia (out_by piece entry) ≡ Ok (next.ia, in_by piece next)

-- the network forwards packets on this piece: all its hops are authentic, and all its links are up
pub record IsForwardable (n : Network) (piece : PieceValue) : Type 0 where
  pub hops : (i : ℕ) (entry : Entry) → slice_get (travelled_entries piece) i ≡ Some entry
      → IsAuthenticHop n piece i entry
  pub links : (i : ℕ) (entry next : Entry) → slice_get (travelled_entries piece) i ≡ Some entry
      → slice_get (travelled_entries piece) (i + 1) ≡ Some next → IsLinked n piece entry next

-- the network forwards packets on these pieces now: they are a path from `source` to `destination`,
-- all their hops are live, and each piece is forwardable
pub record MayForward (n : Network) (now source destination : ℕ)
    (pieces : List PieceValue) : Type 0 where
  pub network : IsNetwork n
  pub moment : ℕ
  pub path : MakesPath pieces source destination moment
  pub pieces_open : All (IsForwardable n) pieces
  pub live : AreLive now pieces
