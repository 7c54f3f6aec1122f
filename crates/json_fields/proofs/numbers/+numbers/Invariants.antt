use Rattle.std.proofs.Common.{◌≡◌, drop}
use Rattle.json.specs.Value.{items_view, members_view}
use Rattle.json_fields.specs.inner.Numbers.{items_readable, members_readable}
use Rattle.json_fields.proofs.numbers.+numbers.Given as goal

abbrev pub invariant-are_items_in_range-loop-item : goal.invariant-are_items_in_range-loop-item
invariant-are_items_in_range-loop-item l = items_readable (items_view (drop l.item-index l.item-items)) ≡ items_readable (items_view l.item-items)

abbrev pub invariant-are_members_in_range-loop-member :
    goal.invariant-are_members_in_range-loop-member
invariant-are_members_in_range-loop-member l = members_readable (members_view (drop l.member-index l.member-items)) ≡ members_readable (members_view l.member-items)
