-- What the tests of keys tell.
use Rattle.std.proofs.Common.{◌≡◌, ℕ, Bool, true, false, cond, List, [], ◌∷◌, length, Option, Some, None, Ok, Err, refl, sym, subst}
use Rattle.std.specs.Prelude.{nat_le}
use Rattle.std.specs.List.{list_all}
use Rattle.std.proofs.lemmas.Bool.{and_parts, and_from, leb-true, le-leb, true≢false}
use Rattle.scion_topology.specs.Keys.{IsKey, AreKeys, is_key, accepted_keys, key_from, keys_of, renewed_keys}
use Rattle.scion_topology.specs.inner.Keys.{are_keys}
use Rattle.scion_topology.specs.declared.fault.TopologyFault.{TopologyFault}
use Rattle.scion_topology.proofs.Deciding.{All-from_list_all, list_all-from_All}

pub IsKey-is_key : (key : List ℕ) → is_key key ≡ true → IsKey key
IsKey-is_key key passed =
    let parts = and_parts (nat_le 1 (length key)) (nat_le (length key) 64) passed in
    (leb-true 1 (length key) parts.0, leb-true (length key) 64 parts.1)

pub is_key-IsKey : (key : List ℕ) → IsKey key → is_key key ≡ true
is_key-IsKey key is = and_from _ _ (le-leb 1 (length key) is.0) (le-leb (length key) 64 is.1)

pub AreKeys-are_keys : (keys : List (List ℕ)) → are_keys keys ≡ true → AreKeys keys
AreKeys-are_keys keys passed =
    let first = and_parts (nat_le 1 (length keys)) _ passed in
    let rest = and_parts (nat_le (length keys) 2) (list_all is_key keys) first.1 in
    record {
      some = leb-true 1 (length keys) first.0;
      few = leb-true (length keys) 2 rest.0;
      each = All-from_list_all is_key IsKey IsKey-is_key keys rest.1;
    }

pub are_keys-AreKeys : (keys : List (List ℕ)) → AreKeys keys → are_keys keys ≡ true
are_keys-AreKeys keys are =
    and_from _ _ (le-leb 1 (length keys) are.some)
    (and_from _ _ (le-leb (length keys) 2 are.few) (list_all-from_All is_key IsKey is_key-IsKey keys are.each))

-- a key with the one before it
pub are_keys_renewed : (key : List ℕ) (keys : List (List ℕ)) → is_key key ≡ true → are_keys keys ≡ true → are_keys (renewed_keys key keys) ≡ true
are_keys_renewed key [] fits are = absurd (true≢false (sym are))
are_keys_renewed key (current ∷ older) fits are =
    let first = and_parts (nat_le 1 (length (current ∷ older))) _ are in
    let rest = and_parts (nat_le (length (current ∷ older)) 2) (list_all is_key (current ∷ older)) first.1 in
    let own = and_parts (is_key current) (list_all is_key older) rest.1 in
    and_from (is_key key) _ fits (and_from (is_key current) true own.0 refl)

-- the keys that are accepted of these are right
pub AreKeys-accepted : (key : List ℕ) (previous : Option (List ℕ)) → list_all is_key (accepted_keys key previous) ≡ true → AreKeys (accepted_keys key previous)
AreKeys-accepted key None all = AreKeys-are_keys (key ∷ []) all
AreKeys-accepted key (Some before) all = AreKeys-are_keys (key ∷ before ∷ []) all

guard : (b : Bool) (f : TopologyFault) (new key : List ℕ) → cond b (Ok new) (Err f) ≡ Ok key → (b ≡ true) × (new ≡ key)
guard true f new key e = (refl, cc)
guard false f new key e = absurd cc

-- a key that was made
pub made_key : (bytes key : List ℕ) → key_from bytes ≡ Ok key → (is_key bytes ≡ true) × (bytes ≡ key)
unfolding key_from
made_key bytes key made = guard (is_key bytes) _ bytes key made

guards : (b : Bool) (f : TopologyFault) (new keys : List (List ℕ)) → cond b (Ok new) (Err f) ≡ Ok keys → (b ≡ true) × (new ≡ keys)
guards true f new keys e = (refl, cc)
guards false f new keys e = absurd cc

-- keys that were made are right
pub AreKeys-keys_of : (key : List ℕ) (previous : Option (List ℕ)) (keys : List (List ℕ)) → keys_of key previous ≡ Ok keys → AreKeys keys
unfolding keys_of
AreKeys-keys_of key previous keys made =
    let is = guards (list_all is_key (accepted_keys key previous)) _ (accepted_keys key previous) keys made in
    subst AreKeys is.1 (AreKeys-accepted key previous is.0)
