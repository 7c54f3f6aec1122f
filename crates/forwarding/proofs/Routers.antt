-- What a router of a network sees of a hop of an open piece.
use Rattle.std.proofs.Common.{◌≡◌, ◌≢◌, ℕ, ◌+◌, ◌<◌, Bool, true, false, Ok, Some, refl, ap, ◌∙◌}
use Rattle.std.proofs.lemmas.Bool.{eq-eqb, ne_eqb, and_from, le-leb, lt-ltb}
use Rattle.hop_mac.specs.Lifetime.{IsLive}
use Rattle.scion_topology.specs.declared.entry.IfEntry.{IfEntry}
use Rattle.scion_topology.specs.declared.entry.LinkKind.{LinkKind}
use Rattle.scion_topology.specs.declared.network.AsEntry.{AsEntry}
use Rattle.scion_topology.specs.View.{View}
use Rattle.scion_topology.specs.Network.{Network, as_named, table_of, interface_in}
use Rattle.scion_topology.specs.declared.fault.TopologyFault.TheVariants as faults
use Rattle.scion_topology.specs.Topology.{known_as, interface_at, view_in}
use Rattle.refusal.proofs.Steps.{bind_ok, ok_or_ok}
use Rattle.scion_topology.proofs.AuthenticHops.{Decides-is_authentic}
use Rattle.path_segment.specs.declared.entry.Entry.{Entry}
use Rattle.path_verifier.specs.declared.kind.PieceKind.{PieceKind}
use Rattle.path_verifier.specs.declared.kind.PieceKind.TheVariants.{Up, Core, Down}
use Rattle.path_verifier.specs.Piece.{PieceValue, kind_of}
use Rattle.path_verifier.specs.Header.{total_hops}
use Rattle.router_step.specs.declared.arrival.Arrival.TheVariants.{FromHost, Inside, Link}
use Rattle.router_step.specs.Checks.{may_follow, kinds_fit}
use Rattle.forwarding.specs.PathPosition.{PathPosition, beta_at, in_by, out_by}
use Rattle.forwarding.specs.Forwardable.{ahead, behind, IsAuthenticHop, IsLinked}
use Rattle.forwarding.proofs.AtSpot.{Comes, IsOwn}
use Rattle.forwarding.proofs.Stepping.{Opens}

-- a router of this AS
abbrev pub view_for : Network → AsEntry → ℕ → ℕ → View
view_for n one ia router =
    record { ia = ia; router = router; keys = one.keys; table = table_of ia n.links }

pub view_is : (n : Network) (ia router : ℕ) (one : AsEntry) → as_named n.ases ia ≡ Some one
    → router < one.routers → view_in n ia router ≡ Ok (view_for n one ia router)
unfolding view_in
view_is n ia router one named below = rw (named, lt-ltb router one.routers below) refl

-- the AS accepts its hop while that is live
pub own : (n : Network) (now router : ℕ) (piece : PieceValue) (i : ℕ) (entry : Entry)
    (accepted : IsAuthenticHop n piece i entry) → IsLive piece.segment.timestamp entry.exp_time now
    → IsOwn (view_for n accepted.one entry.ia router) now piece i entry
own n now router piece i entry accepted live = record {
  live = le-leb _ _ live;
  mac = (Decides-is_authentic (view_for n accepted.one entry.ia router) entry.mac
      (beta_at piece i) piece.segment.timestamp entry.exp_time entry.cons_ingress
      entry.cons_egress).1 accepted.mac;
}

-- an interface of the network is one of its AS's table
pub shown_in : (n : Network) (ia number : ℕ) (entry : IfEntry) → interface_at n ia number ≡ Ok entry
    → interface_in (table_of ia n.links) number ≡ Some entry
shown_in n ia number entry there =
    let step = bind_ok (known_as n ia) _ entry there in
    ok_or_ok (interface_in (table_of ia n.links) number) faults.NoLink entry step.2

-- ---- kinds

on_one : (kind : PieceKind) → may_follow false (behind kind) (ahead kind) ≡ true
on_one Up = refl
on_one Core = refl
on_one Down = refl

abbrev pub MayFollow : PieceKind → PieceKind → Type 0
MayFollow one other = may_follow true (behind one) (ahead other) ≡ true

known_kinds : (n : Network) (one : AsEntry) (ia router interface : ℕ) (has_switched : Bool)
    (far : IfEntry) (kind out : LinkKind) → interface_in (table_of ia n.links) interface ≡ Some far
    → far.kind ≡ kind
    → may_follow has_switched kind out ≡ true
    → kinds_fit (view_for n one ia router) (Link interface) has_switched out ≡ true
known_kinds n one ia router interface has_switched far kind out there is joins =
    rw there (ap (λ k. may_follow has_switched k out) is ∙ joins)

-- the way from an entry to the next is open to a packet that came over a link on the same piece
pub opens_over : (n : Network) (one : AsEntry) (router : ℕ) (piece : PieceValue)
    (before entry next : Entry) (came_in_by : IsLinked n piece before entry)
    (goes : IsLinked n piece entry next)
    → Opens (view_for n one entry.ia router) (Link (in_by piece entry)) false piece entry goes.near
opens_over n one router piece before entry next came_in_by goes = record {
  known = shown_in n entry.ia (out_by piece entry) goes.near goes.near_there;
  kinds = known_kinds n one entry.ia router (in_by piece entry) false came_in_by.far
      (behind (kind_of piece)) goes.near.kind
      (shown_in n entry.ia (in_by piece entry) came_in_by.far came_in_by.far_there) came_in_by.far_kind
      (ap (may_follow false (behind (kind_of piece))) goes.near_kind ∙ on_one (kind_of piece));
  up = goes.up;
}

-- and to one that comes from inside the AS, or from a host
pub opens_inside : (n : Network) (one : AsEntry) (router : ℕ) (piece : PieceValue)
    (entry next : Entry) (goes : IsLinked n piece entry next)
    → Opens (view_for n one entry.ia router) Inside false piece entry goes.near
opens_inside n one router piece entry next goes =
    record {
      known = shown_in n entry.ia (out_by piece entry) goes.near goes.near_there;
      kinds =
          refl;
      up = goes.up;
    }

pub opens_first : (n : Network) (one : AsEntry) (router : ℕ) (piece : PieceValue)
    (entry next : Entry) (goes : IsLinked n piece entry next)
    → Opens (view_for n one entry.ia router) FromHost false piece entry goes.near
opens_first n one router piece entry next goes =
    record {
      known = shown_in n entry.ia (out_by piece entry) goes.near goes.near_there;
      kinds =
          refl;
      up = goes.up;
    }

-- and to one that came over a link of the piece before
pub opens_beyond : (n : Network) (one : AsEntry) (router : ℕ) (piece next_piece : PieceValue)
    (before entry first second : Entry) (came_in_by : IsLinked n piece before entry)
    (goes : IsLinked n next_piece first second)
    → entry.ia ≡ first.ia → MayFollow (kind_of piece) (kind_of next_piece)
    → Opens (view_for n one entry.ia router)
    (Link (in_by piece entry)) true next_piece first goes.near
opens_beyond n one router piece next_piece before entry first second came_in_by goes same follows =
    record {
      known = ap (λ ia. interface_in (table_of ia n.links) (out_by next_piece first)) same
          ∙ shown_in n first.ia (out_by next_piece first) goes.near goes.near_there;
      kinds = known_kinds n one entry.ia router (in_by piece entry) true came_in_by.far
          (behind (kind_of piece)) goes.near.kind
          (shown_in n entry.ia (in_by piece entry) came_in_by.far came_in_by.far_there) came_in_by.far_kind
          (ap (may_follow true (behind (kind_of piece))) goes.near_kind ∙ follows);
      up = goes.up;
    }

-- ---- arrivals

pub comes_over : (n : Network) (one : AsEntry) (router source : ℕ) (spot : PathPosition)
    (before entry : Entry) (came_in_by : IsLinked n spot.piece before entry) → came_in_by.far.router ≡ router
    → source ≢ entry.ia
    → Comes (view_for n one entry.ia router) (Link (in_by spot.piece entry)) source spot entry
comes_over n one router source spot before entry came_in_by owned other = record {
  start = refl;
  way = and_from _ _
      (rw (shown_in n entry.ia (in_by spot.piece entry) came_in_by.far came_in_by.far_there) (eq-eqb _ _ owned))
      (eq-eqb (in_by spot.piece entry) (in_by spot.piece entry) refl);
  from = rw (ne_eqb source entry.ia other) refl;
}

pub comes_inside : (n : Network) (one : AsEntry) (router source : ℕ) (spot : PathPosition) (entry : Entry)
    → Comes (view_for n one entry.ia router) Inside source spot entry
comes_inside n one router source spot entry = record { start = refl; way = refl; from = refl }

pub comes_first : (n : Network) (one : AsEntry) (router source : ℕ) (spot : PathPosition) (entry : Entry)
    → total_hops spot.past + spot.reached ≡ 0 → source ≡ entry.ia
    → Comes (view_for n one entry.ia router) FromHost source spot entry
comes_first n one router source spot entry start same =
    record { start = eq-eqb _ _ start; way = refl; from = eq-eqb source entry.ia same }
