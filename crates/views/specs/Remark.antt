-- What else there is to say of what was shown.
use Rattle.std.specs.Prelude.{ℕ, ◌==◌, nat_le, codes, if◌then◌else◌, List, ◌++◌, count_by, Bool, true, false, Option, Some, None}
use Rattle.event_lines.specs.Run.{line_end}
use Rattle.views.specs.declared.remark.Remark.{Remark}
use Rattle.views.specs.declared.remark.Remark.TheVariants.{NoSegment, NoBeacon, Found}

-- the line in place of a report of a network without segments, without its end
abbrev pub bare_text : List ℕ
bare_text = codes "no segment is stored: 'scionet_view beacons' prints the lines that make some"

-- a remark as a sentence
abbrev pub remark_text : Remark → List ℕ
remark_text NoSegment = bare_text
remark_text NoBeacon =
    codes "no segment is made: core ASes begin beacons over their links, and no core AS of "
    ++ codes "the topology has one"
remark_text Found = codes "something was found"

-- whether the lines of a beaconing have no event but the first, which sets the second
abbrev pub is_beaconless : List ℕ → Bool
is_beaconless lines = nat_le (count_by (λ byte. byte == line_end) lines) 2

-- the remark, if this is so
abbrev pub if_so : Bool → Remark → Option Remark
if_so true remark = Some remark
if_so false remark = None
