-- Whether each number of a JSON value can be read.
use Rattle.std.specs.Prelude.{ℕ, Bool, true, ◌&&◌, nat_lt, List, length, is_some}
use Rattle.std.specs.Char.{is_ascii_digit}
use Rattle.std.specs.List.{list_all}
use Rattle.json.specs.Json.{Json, null, boolean, number, string, array, object, Items, no_items, item, Members, no_members, member}
use Rattle.serde_json.specs.Read.{number_of}

abbrev mutual
  pub readable : Json → Bool
  readable null = true
  readable (boolean b) = true
  readable (number s) = is_some (number_of s)
  readable (string s) = true
  readable (array js) = items_readable js
  readable (object ms) = members_readable ms

  pub items_readable : Items → Bool
  items_readable no_items = true
  items_readable (item j js) = readable j && items_readable js

  pub members_readable : Members → Bool
  members_readable no_members = true
  members_readable (member k j ms) = readable j && members_readable ms

-- whether the text is 1 to 19 digits
abbrev pub is_short_digits : List ℕ → Bool
is_short_digits text =
    nat_lt 0 (length text) && nat_lt (length text) 20 && list_all is_ascii_digit text
