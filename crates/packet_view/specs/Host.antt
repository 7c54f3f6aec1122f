-- The address of a host, as text.
use Rattle.std.specs.Prelude.{ℕ, ◌+◌, ◌*◌, if◌then◌else◌, codes, List, ◌++◌, length, slice_index, nat_eq}
use Rattle.std.specs.Fmt.{decimal}
use Rattle.std.specs.Net.Addr.{segments_of}
use Rattle.std.specs.Net.Text.{ipv4_text, ipv6_text}
use Rattle.hex.specs.Hex.{encode_lower}
use Rattle.scion_packet.specs.Value.{HostAddressValue}

-- an address of type 0: that of IPv4 with 4 bytes, that of IPv6 with 16, and other bytes in
-- hexadecimal
abbrev pub ip_host_text : List ℕ → List ℕ
ip_host_text bytes = if nat_eq (length bytes) 4 then ipv4_text bytes
    else if nat_eq (length bytes) 16 then ipv6_text (segments_of bytes)
    else encode_lower bytes

-- a host's address in its usual text; that of a service by its number, in the first two bytes; one
-- of another type in hexadecimal
unfoldable pub host_text : HostAddressValue → List ℕ
host_text host = if nat_eq host.kind 0 then ip_host_text host.bytes
    else if nat_eq host.kind 1
    then codes "service " ++ decimal (256 * slice_index host.bytes 0 + slice_index host.bytes 1)
    else encode_lower host.bytes

-- the type of a host's address, and the number of its bytes
unfoldable pub host_kind_text : (kind len : ℕ) → List ℕ
host_kind_text kind len =
    codes "type " ++ (decimal kind ++ (codes ", " ++ (decimal len ++ codes " bytes")))
