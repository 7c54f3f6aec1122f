-- The links of the front are added.
use Rattle.std.proofs.Common.{◌≡◌, ◌++◌, take, codes}
use Rattle.std.specs.Prelude.{flat_map}
use Rattle.std.specs.String.{string_bytes}
use Rattle.path_report.specs.Json.{link_json}
use Rattle.path_report.proofs.json.add_more_links.Given as goal

abbrev pub invariant-loop-link : goal.invariant-loop-link
invariant-loop-link l =
    string_bytes l.text ≡ string_bytes l.initial.text ++ flat_map (λ link. codes "," ++ link_json link)
    (take l.link-index l.links)
