use Rattle.std.proofs.Common.{rules, ◌≡◌, ◌%◌, length}
use Rattle.event_lines.proofs.Formed.{even_digits}
use Rattle.event_lines.proofs.members.is_hexadecimal.Goals as goal

pub returns-then-text-eq0 : goal.returns-then-text-eq0
returns-then-text-eq0 c =
    let even : length c.args.text.now % 2 ≡ 0 = search (rules) in
    even_digits c.args.text.now c.are_digits.result even c.are_digits.ensures
