-- The text of an address is read as that address alone, and so is the name of its box.
use Rattle.std.proofs.Common.{◌≡◌, ℕ, ◌<◌, ◌^◌, ◌∙◌, sym, ap, List, ◌++◌, codes}
use Rattle.std.specs.Prelude.{Result, Ok, Err}
use Rattle.std.proofs.lemmas.List.{append_cancel_left, append_cancel_right}
use Rattle.isd_as.specs.declared.fault.AddrFault.{AddrFault}
use Rattle.isd_as.specs.Address.{canonical}
use Rattle.isd_as.specs.Reading.{address_at}
use Rattle.isd_as.proofs.Canonical.{Spells-canonical}
use Rattle.isd_as.proofs.Spelled.{address_at-Spells}
use Rattle.network_view.specs.Names.{box_name}

abbrev the_value : Result ℕ AddrFault → ℕ
the_value (Ok n) = n
the_value (Err fault) = 0

read_back : (ia : ℕ) → ia < 2 ^ 64 → the_value (address_at (canonical ia)) ≡ ia
read_back ia fits = ap the_value (address_at-Spells (canonical ia) ia (Spells-canonical ia fits))

-- no two addresses have a box of one name
pub box_name-one : (one other : ℕ) → one < 2 ^ 64 → other < 2 ^ 64 → box_name one ≡ box_name other → one ≡ other
unfolding box_name
box_name-one one other one_fits other_fits same =
    let behind =
    append_cancel_left (codes "\"cluster_") (canonical one ++ codes "\"") (canonical other ++ codes "\"") same in
    let text = append_cancel_right (canonical one) (canonical other) (codes "\"") behind in
    sym (read_back one one_fits) ∙ ap (λ (t : List ℕ). the_value (address_at t)) text ∙ read_back other other_fits
