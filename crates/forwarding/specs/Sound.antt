-- Pieces that a network has issued and forwards packets on, and the changes that do not affect
-- them.
use Rattle.std.specs.Prelude.{◌≡◌, ◌≢◌, ℕ, ◌+◌, ◌≤◌, true, List, Contains, Some, slice_get}
use Rattle.scion_topology.specs.declared.network.AsEntry.{AsEntry}
use Rattle.scion_topology.specs.Network.{Network, as_named}
use Rattle.scion_topology.specs.Rules.{IsNetwork}
use Rattle.scion_topology.specs.Ends.{IsUp}
use Rattle.path_segment.specs.declared.entry.Entry.{Entry}
use Rattle.path_segment.specs.Chain.{Chain}
use Rattle.path_verifier.specs.Piece.{PieceValue, HasRange}
use Rattle.beaconing.specs.Entry.{key_in}
use Rattle.beaconing.specs.Issued.{IsIssued}

-- from `from` to `to`, the AS of each entry still accepts the key of the entry, and each link from
-- an entry to the next is up
pub record KeysAndLinksHold (n : Network) (keys : List (List ℕ)) (chain : Chain)
    (from to : ℕ) : Type 0 where
  pub keys_held : (i : ℕ) (entry : Entry) (key : List ℕ) (one : AsEntry) → from ≤ i → i ≤ to
      → slice_get chain.entries i ≡ Some entry → slice_get keys i ≡ Some key
      → as_named n.ases entry.ia ≡ Some one → Contains one.keys key
  pub links_up : (i : ℕ) (entry next : Entry) → from ≤ i → i + 1 ≤ to
      → slice_get chain.entries i ≡ Some entry → slice_get chain.entries (i + 1) ≡ Some next
      → IsUp n entry.ia entry.cons_egress true

-- from `from` to `to`, each entry of this AS was made under the key that the AS has in use
abbrev pub KeyIsInUse : (n : Network) (keys : List (List ℕ)) (chain : Chain) (from to ia : ℕ)
    → Type 0
KeyIsInUse n keys chain from to ia = (i : ℕ) (entry : Entry) (key : List ℕ) → from ≤ i → i ≤ to
    → slice_get chain.entries i ≡ Some entry → slice_get keys i ≡ Some key → entry.ia ≡ ia
    → key ≡ key_in n ia

-- the piece is of a segment that the network issued under these keys; the keys of the piece are
-- accepted now, and its links are up
pub record IsIssuedAndAccepted (n : Network) (keys : List (List ℕ))
    (piece : PieceValue) : Type 0 where
  pub network : IsNetwork n
  pub range : HasRange piece
  pub issued : IsIssued n keys piece.segment
  pub holds : KeysAndLinksHold n keys piece.segment piece.from piece.to

-- from `from` to `to`, no entry is of this AS
abbrev pub AvoidsAs : (chain : Chain) (from to ia : ℕ) → Type 0
AvoidsAs chain from to ia = (i : ℕ) (entry : Entry) → from ≤ i → i ≤ to
    → slice_get chain.entries i ≡ Some entry → ia ≢ entry.ia

-- from `from` to `to`, no link from an entry to the next ends at this interface
abbrev pub AvoidsLink : (chain : Chain) (from to ia number : ℕ) → Type 0
AvoidsLink chain from to ia number = (i : ℕ) (entry next : Entry) → from ≤ i → i + 1 ≤ to
    → slice_get chain.entries i ≡ Some entry → slice_get chain.entries (i + 1) ≡ Some next
    → ¬ ((entry.ia ≡ ia) × (entry.cons_egress ≡ number))
    × ¬ ((next.ia ≡ ia) × (next.cons_ingress ≡ number))
