-- Which member is meant in a line after the first that has its form and is refused: by the line's
-- word and the number of a refusal that an event passes on from below.
use Rattle.std.specs.Prelude.{◌==◌, ◌&&◌, ◌||◌, nat_le, ℕ, codes, if◌then◌else◌, Bool, true, false, List, Option, Some, None}
use Rattle.std.specs.Str.{bytes_eq}
use Rattle.serde_json.specs.Data.{Data}
use Rattle.refusal.specs.Optional.{◌>>=◌}
use Rattle.json_fields.specs.Fields.{document_in, text_at}

-- a refusal of the verifier
abbrev pub is_of_verifier : ℕ → Bool
is_of_verifier number = nat_le 70 number && nat_le number 82

-- a refusal of a `send` for its path: it is one of the verifier, or the topology lacks the AS or
-- the link by which the path leaves
abbrev pub is_of_path : ℕ → Bool
is_of_path number = is_of_verifier number || (number == 14 || number == 17)

-- the member that is meant in a line of any other word
unfoldable pub plain_subject : ℕ → Option (List ℕ)
plain_subject number =
    if number == 11 then Some (codes "key")
    else if number == 14 then Some (codes "ia")
    else if number == 17 then Some (codes "if")
    else if number == 31 then Some (codes "beacon")
    else if number == 33 then Some (codes "ia")
    else if number == 40 then Some (codes "ia")
    else if number == 41 then Some (codes "egress")
    else if number == 42 then Some (codes "beacon")
    else if number == 43 then Some (codes "egress")
    else if number == 44 then Some (codes "ia")
    else if number == 50 then Some (codes "beacon")
    else if number == 51 then Some (codes "beacon")
    else if number == 67 then Some (codes "options")
    else if number == 85 then Some (codes "dst")
    else None

-- the member that is meant in a line of this word
unfoldable pub subject_of : (word : List ℕ) → ℕ → Option (List ℕ)
subject_of word number =
    if is_of_path number && bytes_eq word (codes "send") then Some (codes "path")
    else if number == 42 && bytes_eq word (codes "originate") then Some (codes "egress")
    else if is_of_verifier number then Some (codes "packet")
    else plain_subject number

-- the member that is meant in a line
abbrev pub event_subject : ℕ → Data → Option (List ℕ)
event_subject number d = do
  word ← text_at (codes "do") d
  subject_of word number

-- the first line is a topology
abbrev pub refused_subject : (first : Bool) → ℕ → Data → Option (List ℕ)
refused_subject true refusal d = None
refused_subject false refusal d = event_subject refusal d

-- the member that is meant in the line of this number, if it is JSON
abbrev pub subject_in : (number : ℕ) (line : List ℕ) (refusal : ℕ) → Option (List ℕ)
subject_in number line refusal = do
  d ← document_in line
  refused_subject (number == 1) refusal d
