-- The rule of a list of keys, as a test.
use Rattle.std.specs.Prelude.{ℕ, ◌&&◌, nat_le, Bool, List, length}
use Rattle.std.specs.List.{list_all}
use Rattle.scion_topology.specs.Keys.{is_key}

abbrev pub are_keys : List (List ℕ) → Bool
are_keys keys = nat_le 1 (length keys) && (nat_le (length keys) 2 && list_all is_key keys)
