-- The lines of the links so far that are cut.
use Rattle.std.proofs.Common.{◌≡◌, ◌++◌, take}
use Rattle.std.specs.String.{string_bytes}
use Rattle.path_report.specs.Cut.{cut_lines}
use Rattle.path_report.proofs.cut.add_cut_links.Given as goal

abbrev pub invariant-loop-link : goal.invariant-loop-link
invariant-loop-link l =
    string_bytes l.text ≡ string_bytes l.initial.text ++ cut_lines l.json (take l.link-index l.links)
