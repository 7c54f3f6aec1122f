-- The parts of a line, as text (words of private functions' contracts).
use Rattle.std.specs.Prelude.{ℕ, codes, List, ◌++◌, flat_map}
use Rattle.std.specs.Fmt.{decimal}
use Rattle.hex.specs.Hex.{encode_lower}
use Rattle.isd_as.specs.Address.{canonical}
use Rattle.packet_view.specs.Fields.{lens_text}
use Rattle.packet_view.specs.Host.{host_kind_text, host_text}
use Rattle.packet_view.specs.declared.part.Part.{Part}
use Rattle.packet_view.specs.declared.part.Part.TheVariants.{Words, Number, Address, Mac, MacBefore, Place, Lens, Interface, Router, Host, HostKind}

-- what a part of a line says
abbrev pub part_text : Part → List ℕ
part_text (Words words) = words.now
part_text (Number number) = decimal number
part_text (Address address) = canonical address
part_text (Mac mac) = encode_lower mac
part_text (MacBefore mac) = codes ", under the one before: " ++ encode_lower mac
part_text (Place info hop) =
    codes "at info field " ++ (decimal info ++ (codes ", hop field " ++ decimal hop))
part_text (Lens first second third) =
    lens_text (record { first = first; second = second; third = third })
part_text (Interface interface) = codes "interface " ++ decimal interface
part_text (Router router) = codes "router " ++ decimal router
part_text (Host host) = host_text host.now
part_text (HostKind kind len) = host_kind_text kind len

-- parts one after the other
abbrev pub parts_text : List Part → List ℕ
parts_text parts = flat_map part_text parts
