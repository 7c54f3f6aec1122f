-- Requests: JSON objects with members of a line `ask`, and with `now` and the list `segments`, each
-- in the form in which segments are printed.
use Rattle.std.specs.Prelude.{ℕ, ◌≤◌, codes, List, [], ◌∷◌, length, nat_le, Option, Some, None, Result, Ok, Err, IsTrue}
use Rattle.std.specs.Str.{is_utf8}
use Rattle.refusal.specs.Refusal.{◌>>=◌, check, refused_as}
use Rattle.serde_json.specs.Data.{Data, Items, no_items, item}
use Rattle.json_fields.specs.Fields.{document_in, list_at}
use Rattle.path_segment.specs.Chain.{Chain}
use Rattle.path_segment.specs.Reading.{chain_at, chain_or_fault}
use Rattle.policy_expr.specs.Options.{OptionTexts}
use Rattle.event_lines.specs.Line.{ia_in, long_at, options_in}
use Rattle.path_requests.specs.declared.fault.RequestFault.{RequestFault}
use Rattle.path_requests.specs.declared.fault.RequestFault.TheVariants.{BadRequest}
use Rattle.path_requests.specs.Fault.{of_segment}

-- the value, or BadRequest if nothing was found
abbrev pub found_or_bad_request : {A : Type 0} → Option A → Result A RequestFault
found_or_bad_request None = Err BadRequest
found_or_bad_request (Some found) = Ok found

-- the largest number of bytes in a request
abbrev pub most_request : ℕ
most_request = 4194304

-- the JSON value in the bytes of a request; too many bytes are in no form
unfoldable pub value_asked : List ℕ → Result Data RequestFault
value_asked bytes = do
  _ ← check (nat_le (length bytes) most_request) BadRequest
  found_or_bad_request (document_in bytes)

-- memory may be wanted for a request in these bytes: they are not too many, and they are UTF-8
abbrev pub MayWantMemory : List ℕ → Type 0
MayWantMemory bytes = (length bytes ≤ most_request) × IsTrue (is_utf8 bytes)

-- the segment of a JSON value, or why it is refused
abbrev pub segment_asked : Data → Result Chain RequestFault
segment_asked d = refused_as of_segment (chain_or_fault (chain_at d))

-- the results of `one` for the items of a list, or the first refusal
abbrev pub each_item : {A F : Type 0} → (Data → Result A F) → Items → Result (List A) F
each_item one no_items = Ok []
each_item one (item d later) = do
  x ← one d
  xs ← each_item one later
  Ok (x ∷ xs)

-- the common part of requests: the ends, the texts of the policy options, the second, and the known
-- segments
pub record Asked : Type 0 where
  pub src : ℕ
  pub dst : ℕ
  pub options : List OptionTexts
  pub moment : ℕ
  pub segments : List Chain

-- the common part of a request, from its object
unfoldable pub asked_in : Data → Result Asked RequestFault
asked_in d = do
  options ← found_or_bad_request (options_in d)
  src ← found_or_bad_request (ia_in (codes "src") d)
  dst ← found_or_bad_request (ia_in (codes "dst") d)
  moment ← found_or_bad_request (long_at (codes "now") d)
  items ← found_or_bad_request (list_at (codes "segments") d)
  segments ← each_item segment_asked items
  Ok (record { src = src; dst = dst; options = options; moment = moment; segments = segments })

-- a request for paths: also with the largest number of paths
pub record PathsAsked : Type 0 where
  pub asked : Asked
  pub limit : ℕ

-- the request for paths in these bytes
unfoldable pub paths_asked_in : List ℕ → Result PathsAsked RequestFault
paths_asked_in bytes = do
  d ← value_asked bytes
  asked ← asked_in d
  limit ← found_or_bad_request (long_at (codes "limit") d)
  Ok (record { asked = asked; limit = limit })
