-- Headers read and written in place, in borrowed bytes.
use Rattle.std.specs.Prelude.{ℕ, List, drop}
use Rattle.path_header.specs.Value.{HeaderValue, header_len}
use Rattle.path_header.specs.Shown.{header_at_front}
use Rattle.path_header.specs.declared.borrowed.HeaderMut.{HeaderMut}

-- the borrowed bytes, which begin with the header
abbrev pub bytes_of : HeaderMut → List ℕ
bytes_of h = h.bytes.now

-- the header with which these bytes begin
abbrev pub value_of : HeaderMut → HeaderValue
value_of h = header_at_front (bytes_of h)

-- the bytes after the header
abbrev pub rest_of : HeaderMut → List ℕ
rest_of h = drop (header_len (value_of h)) (bytes_of h)
