-- The walk of a path: its ASes, each with the interface by which the path enters and the one by
-- which it leaves (draft-dekater-scion-dataplane, path construction). It has no indices and no
-- bytes.
use Rattle.std.specs.Prelude.{ℕ, Bool, if◌then◌else◌, List, [], ◌∷◌, ◌++◌, map}
use Rattle.std.specs.List.{fold}
use Rattle.path_segment.specs.declared.entry.Entry.{Entry}
use Rattle.policy_expr.specs.declared.hop.WalkHop.{WalkHop}
use Rattle.path_verifier.specs.Piece.{PieceValue, travelled_entries}

-- the hop of an entry: in construction direction it is entered by ConsIngress and left by
-- ConsEgress, against it the other way round
unfoldable pub hop_of : Bool → Entry → WalkHop
hop_of along entry =
    let ingress = if along then entry.cons_ingress else entry.cons_egress in
    let egress = if along then entry.cons_egress else entry.cons_ingress in
    record { ia = entry.ia; ingress = ingress; egress = egress }

-- the hops of a piece, in order of travel
unfoldable pub hops_of : PieceValue → List WalkHop
hops_of piece = map (hop_of piece.along) (travelled_entries piece)

-- these hops, with the first entered by this interface
abbrev pub entered_by : ℕ → List WalkHop → List WalkHop
entered_by way [] = []
entered_by way (hop ∷ later) = record hop { ingress = way } ∷ later

-- these hops, with the last left by this interface
abbrev pub left_by : ℕ → List WalkHop → List WalkHop
left_by way [] = []
left_by way (hop ∷ []) = record hop { egress = way } ∷ []
left_by way (hop ∷ next ∷ later) = hop ∷ left_by way (next ∷ later)

-- a walk that continues in its last AS: the way out of `hop` becomes the walk's last way out
abbrev pub with_meeting_hop : List WalkHop → WalkHop → List WalkHop
with_meeting_hop [] hop = hop ∷ []
with_meeting_hop (first ∷ later) hop = left_by hop.egress (first ∷ later)

-- a walk that continues with these hops: the AS in which they meet becomes one hop, with the way in
-- of the walk and the way out of the first hop
abbrev pub walk_with : (walk later : List WalkHop) → List WalkHop
walk_with walk [] = walk
walk_with walk (hop ∷ later) = with_meeting_hop walk hop ++ later

-- the walk of these pieces: their hops, joined where the pieces meet; its first way in and its last
-- way out are 0
unfoldable pub walk_of : List PieceValue → List WalkHop
walk_of pieces = left_by 0 (entered_by 0 (fold walk_with [] (map hops_of pieces)))
