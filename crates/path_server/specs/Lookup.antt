-- Looking up the segments for a source and a destination (draft-dekater-scion-controlplane, path
-- lookup).
use Rattle.std.specs.Prelude.{◌≡◌, ◌⊎◌, ℕ, ◌==◌, ◌&&◌, ◌||◌, Bool, List, filter, Any, Contains}
use Rattle.std.specs.List.{list_any}
use Rattle.path_segment.specs.declared.kind.SegKind.TheVariants.{Core, Intra}
use Rattle.path_segment.specs.Chain.{Chain, IsChainLive, first_as, last_as}
use Rattle.path_segment.specs.Tests.{is_live, same_kind}

-- the segments that a lookup found, and the second for which it was made
pub record Selection : Type 0 where
  pub ups : List Chain
  pub cores : List Chain
  pub downs : List Chain
  pub moment : ℕ

-- a live intra segment that ends in this AS
unfoldable pub is_intra_to : (ia now : ℕ) (segment : Chain) → Bool
is_intra_to ia now segment = same_kind segment.kind Intra
    && (is_live now segment && (last_as segment == ia))

-- whether the AS is `ia` or one of these segments begins in it
unfoldable pub is_reached : (ia : ℕ) (segments : List Chain) (other : ℕ) → Bool
is_reached ia segments other = (other == ia) || list_any (λ one. first_as one == other) segments

-- a live core segment with one end on the near side and the other end on the far side, in either
-- direction
unfoldable pub leads_between : (ℕ → Bool) → (ℕ → Bool) → ℕ → Chain → Bool
leads_between near far now segment = same_kind segment.kind Core
    && (is_live now segment && ((near (first_as segment) && far (last_as segment))
    || (near (last_as segment) && far (first_as segment))))

-- the live segments for a source and a destination, each list in the order of registration
unfoldable pub segments_for : (segments : List Chain) (src dst now : ℕ) → Selection
segments_for segments src dst now =
    let ups = filter (is_intra_to src now) segments in
    let downs = filter (is_intra_to dst now) segments in
    let cores = filter (leads_between (is_reached src ups) (is_reached dst downs) now) segments in
    record { ups = ups; cores = cores; downs = downs; moment = now }

-- `is_intra_to` without tests: a segment of the list that is intra, live, and ends in this AS
pub record LeadsTo (segments : List Chain) (ia now : ℕ) (segment : Chain) : Type 0 where
  pub there : Contains segments segment
  pub kind : segment.kind ≡ Intra
  pub live : IsChainLive segment now
  pub last : last_as segment ≡ ia

-- `is_reached` as a type: the AS is `ia`, or one of these segments begins in it
abbrev pub IsReached : (ia : ℕ) (segments : List Chain) (other : ℕ) → Type 0
IsReached ia segments other = (other ≡ ia) ⊎ Any (λ segment. first_as segment ≡ other) segments

-- `leads_between` without tests: a live core segment of the list between the near side and the far
-- side, in either direction
pub record LeadsBetween (segments : List Chain) (near far : ℕ → Type 0) (now : ℕ)
    (segment : Chain) : Type 0 where
  pub there : Contains segments segment
  pub kind : segment.kind ≡ Core
  pub live : IsChainLive segment now
  pub ends : (near (first_as segment) × far (last_as segment))
      ⊎ (near (last_as segment) × far (first_as segment))
