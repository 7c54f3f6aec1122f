-- What is meant by a place, by a misfit, and by what is said of a line.
use Rattle.std.specs.Prelude.{◌≡◌, ℕ, List, Option, Some, None, option_map}
use denote.Ref.{Bor}
use Rattle.std.specs.String.{string_bytes}
use Rattle.event_lines.specs.declared.members.MemberForm.TheVariants.{Object}
use Rattle.event_lines.specs.declared.members.Member.{Member}
use Rattle.event_lines.specs.Members.{form_text, member_value}
use Rattle.line_faults.specs.declared.misfit.Misfit.{Misfit}
use Rattle.line_faults.specs.declared.place.Place.{Place}
use Rattle.line_faults.specs.declared.said.Said.{Said}
use Rattle.line_faults.specs.Misfits.{Meant, Site, entry_meant, item_site, line_site, member_meant, part_site}

-- the object of a place: an item, or the object of a name in it; or the line itself
abbrev pub site_in : Site → Option (Bor (List ℕ)) → Site
site_in site None = site
site_in site (Some name) = part_site site name.now

abbrev pub site_at : Option (Bor (List ℕ) × ℕ) → (part : Option (Bor (List ℕ))) → Site
site_at None part = line_site
site_at (Some item) part = site_in (item_site item.0.now item.1) part

abbrev pub site_of : Place → Site
site_of place = site_at place.item place.part

-- an object that is none; or its member; or an entry of its access list
abbrev pub misfit_at : Site → Option Member → (entry : Option ℕ) → Meant
misfit_at site None entry = record { member = site.name; wanted = form_text Object }
misfit_at site (Some member) None = member_meant site (member_value member)
misfit_at site (Some member) (Some entry) = entry_meant site (member_value member) entry

abbrev pub misfit_meant : Misfit → Meant
misfit_meant misfit = misfit_at (site_of misfit.place) misfit.member misfit.entry

-- the member of which something is said, and what is wanted there, if both are said
abbrev pub both_said : (member wanted : Option (List ℕ)) → Option Meant
both_said (Some member) (Some wanted) = Some (record { member = member; wanted = wanted })
both_said member wanted = None

abbrev pub member_said : Said → Option (List ℕ)
member_said said = option_map string_bytes said.member

abbrev pub wanted_said : Said → Option (List ℕ)
wanted_said said = option_map string_bytes said.wanted

abbrev pub meant_by : Said → Option Meant
meant_by said = both_said (member_said said) (wanted_said said)

-- neither is said anew
abbrev pub IsStill : (old new : Said) → Type 0
IsStill old new = (member_said new ≡ member_said old) × (wanted_said new ≡ wanted_said old)
