-- The keys of an AS: the key in use and at most the one before it; authenticators under either are
-- accepted.
use Rattle.std.specs.Prelude.{ℕ, ◌≤◌, ◌&&◌, nat_le, Bool, if◌then◌else◌, List, [], ◌∷◌, All, length, slice_get, Option, Some, None, Result, Ok, Err}
use Rattle.std.specs.List.{list_all}
use Rattle.std.specs.Option.{unwrap_or}
use Rattle.scion_topology.specs.declared.fault.TopologyFault.{TopologyFault}
use Rattle.scion_topology.specs.declared.fault.TopologyFault.TheVariants as faults

-- a key has 1 to 64 bytes
abbrev pub IsKey : List ℕ → Type 0
IsKey key = (1 ≤ length key) × (length key ≤ 64)

-- the keys that an AS accepts: the key in use comes first, and at most the one before it follows
pub record AreKeys (keys : List (List ℕ)) : Type 0 where
  pub some : 1 ≤ length keys
  pub few : length keys ≤ 2
  pub each : All IsKey keys

-- the key in use, under which the AS makes authenticators
abbrev pub key_in_use : List (List ℕ) → List ℕ
key_in_use keys = unwrap_or (slice_get keys 0) []

-- `IsKey` and `AreKeys` as Booleans
abbrev pub is_key : List ℕ → Bool
is_key key = nat_le 1 (length key) && nat_le (length key) 64

-- the key of these bytes, or BadField
unfoldable pub key_from : List ℕ → Result (List ℕ) TopologyFault
key_from bytes = if is_key bytes then Ok bytes else Err faults.BadField

-- the key in use, and the one before it if there is one
abbrev pub accepted_keys : List ℕ → Option (List ℕ) → List (List ℕ)
accepted_keys key None = key ∷ []
accepted_keys key (Some previous) = key ∷ previous ∷ []

-- the accepted keys from the key in use and the one before it, or BadField
unfoldable pub keys_of : List ℕ → Option (List ℕ) → Result (List (List ℕ)) TopologyFault
keys_of key previous =
    if list_all is_key (accepted_keys key previous) then Ok (accepted_keys key previous)
    else Err faults.BadField

-- the keys after another key was taken into use: the key that was in use is now the one before
abbrev pub renewed_keys : List ℕ → List (List ℕ) → List (List ℕ)
renewed_keys key [] = key ∷ []
renewed_keys key (current ∷ older) = key ∷ current ∷ []
