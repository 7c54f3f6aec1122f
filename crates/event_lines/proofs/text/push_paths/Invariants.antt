-- The text so far has the paths of the front.
use Rattle.std.proofs.Common.{◌≡◌, ◌++◌, take}
use Rattle.std.specs.Prelude.{flat_map}
use Rattle.std.specs.String.{string_bytes}
use Rattle.event_lines.specs.Text.{path_text}
use Rattle.event_lines.proofs.text.push_paths.Given as goal

abbrev pub invariant-loop-path : goal.invariant-loop-path
invariant-loop-path l =
    string_bytes l.text
    ≡ string_bytes l.initial.text ++ flat_map path_text (take l.path-index l.paths)
