-- A path store: a list of segments in the order of registration (draft-dekater-scion-controlplane,
-- registration of path segments).
use Rattle.std.specs.Prelude.{◌≡◌, ℕ, ◌<◌, ◌≤◌, Bool, true, false, not, nat_le, if◌then◌else◌, List, [], ◌∷◌, ◌++◌, filter, count_by, fold, Contains, Result, Ok, Err}
use Rattle.std.specs.List.{list_any}
use Rattle.path_segment.specs.Chain.{Chain, IsChainLive}
use Rattle.path_server.specs.declared.fault.StoreFault.{StoreFault}
use Rattle.path_server.specs.declared.fault.StoreFault.TheVariants.{Full, Expired}
use Rattle.path_server.specs.declared.op.StoreOp.{StoreOp}
use Rattle.path_server.specs.declared.op.StoreOp.TheVariants.{Register, Sweep}
use Rattle.path_segment.specs.Tests.{is_live, is_same}
use Rattle.path_server.specs.Segment.{is_alike}

-- what registering a segment at this second answers: whether it is new, or the first refusal:
-- Expired, then Full
unfoldable pub answer_to : List Chain → Chain → ℕ → Result Bool StoreFault
answer_to segments segment now = if not (is_live now segment) then Err Expired
    else if list_any (is_same segment) segments then Ok false
    else if nat_le 32 (count_by (is_alike segment) segments) then Err Full else Ok true

-- `answer_to` without tests: which facts each answer means; no two of them hold at once
abbrev pub IsRegisterAnswer : List Chain → Chain → ℕ → Result Bool StoreFault → Type 0
IsRegisterAnswer segments segment now (Err Expired) = ¬ (IsChainLive segment now)
IsRegisterAnswer segments segment now (Ok false) = IsChainLive segment now
    × Contains segments segment
IsRegisterAnswer segments segment now (Err Full) = IsChainLive segment now
    × ¬ (Contains segments segment)
    × (32 ≤ count_by (is_alike segment) segments)
IsRegisterAnswer segments segment now (Ok true) = IsChainLive segment now
    × ¬ (Contains segments segment)
    × (count_by (is_alike segment) segments < 32)

-- the list with this segment at its end if it is new, and else the list as it was
abbrev pub with_new : Result Bool StoreFault → List Chain → Chain → List Chain
with_new (Ok true) segments segment = segments ++ segment ∷ []
with_new answer segments segment = segments

-- the list after this segment was registered at this second
unfoldable pub with_registered : List Chain → Chain → ℕ → List Chain
with_registered segments segment now = with_new (answer_to segments segment now) segments segment

-- the list without the segments that are not live at this second
unfoldable pub live_segments : List Chain → ℕ → List Chain
live_segments segments now = filter (is_live now) segments

-- the number of segments that are not live at this second
abbrev pub expired_count : List Chain → ℕ → ℕ
expired_count segments now = count_by (λ segment. not (is_live now segment)) segments

-- an operation on a store, with the second at which it happens
abbrev pub Operation : Type 0
Operation = StoreOp

-- the list after one operation
abbrev pub after_operation : List Chain → Operation → List Chain
after_operation segments (Register segment now) = with_registered segments segment now
after_operation segments (Sweep now) = live_segments segments now

-- the operation stores a new segment
abbrev pub TakesIn : Operation → List Chain → Type 0
TakesIn (Register segment now) segments = answer_to segments segment now ≡ Ok true
TakesIn (Sweep now) segments = ⊥

-- the store after these operations, one after another, from an empty one
abbrev pub store_of : List Operation → List Chain
store_of operations = fold after_operation [] operations
