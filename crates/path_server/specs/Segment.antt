-- Which segments count towards the same limit of a path store (draft-dekater-scion-controlplane,
-- path segments).
use Rattle.std.specs.Prelude.{◌==◌, ◌&&◌, Bool}
use Rattle.path_segment.specs.Chain.{Chain, first_as, last_as}
use Rattle.path_segment.specs.Tests.{same_kind}

-- the segments have the same kind, the same first AS and the same last AS
unfoldable pub is_alike : (a b : Chain) → Bool
is_alike a b = same_kind a.kind b.kind && ((first_as a == first_as b) && (last_as a == last_as b))
