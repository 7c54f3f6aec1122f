-- The header with which bytes begin, and the tests for one.
use Rattle.std.specs.Prelude.{ℕ, Bool, is_ok, List, [], Result, Ok, Err}
use Rattle.path_header.specs.declared.fault.HeaderFault.{HeaderFault}
use Rattle.refusal.specs.Refusal.{◌>>=◌}
use Rattle.path_header.specs.Value.{HeaderValue, header_len, lens_from}
use Rattle.path_header.specs.Reading.{header_at}

-- the same result without its value
abbrev pub without_value : {A F : Type 0} → Result A F → Result (Unit {0}) F
without_value (Ok x) = Ok tt
without_value (Err fault) = Err fault

-- whether the bytes begin with a header
abbrev pub has_header : List ℕ → Bool
has_header bytes = is_ok (header_at bytes)

-- the header that was read, or a header without fields if none was
abbrev pub read_or_none : Result HeaderValue HeaderFault → HeaderValue
read_or_none (Ok v) = v
read_or_none (Err fault) =
    record { curr_inf = 0; curr_hf = 0; lens = lens_from []; infos = []; hops = [] }

-- the header with which these bytes begin, or a header without fields if they begin with none
abbrev pub header_at_front : List ℕ → HeaderValue
header_at_front bytes = read_or_none (header_at bytes)

-- the length of the header with which these bytes begin, or why they begin with none
abbrev pub len_at : List ℕ → Result ℕ HeaderFault
len_at bytes = do
  header ← header_at bytes
  Ok (header_len header)
