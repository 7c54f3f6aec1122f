-- A router's view of its AS: address, keys and interfaces (draft-dekater-scion-dataplane).
use Rattle.std.specs.Prelude.{◌≡◌, ◌≢◌, ℕ, Bool, List, All, AllPairs, Any, Option}
use Rattle.std.specs.List.{list_any}
use Rattle.std.specs.Str.{bytes_eq}
use Rattle.hop_mac.specs.Hop.{authenticator}
use Rattle.scion_topology.specs.declared.entry.IfEntry.{IfEntry}
use Rattle.scion_topology.specs.Keys.{AreKeys}
use Rattle.scion_topology.specs.Network.{IsPlain, interface_in}

-- the view of a router: the address of its AS, its number, the keys that the AS accepts, and the
-- interfaces of the AS
pub record View : Type 0 where
  pub ia : ℕ
  pub router : ℕ
  pub keys : List (List ℕ)
  pub table : List IfEntry

-- the rules of a view: no wildcard in its address, one or two keys, and each interface once, with a
-- number other than 0
pub record IsRight (view : View) : Type 0 where
  pub plain : IsPlain view.ia
  pub keys : AreKeys view.keys
  pub numbered : All (λ entry. entry.number ≢ 0) view.table
  pub once : AllPairs (λ one other. one.number ≢ other.number) view.table

-- the interface of this number
abbrev pub entry_of : View → ℕ → Option IfEntry
entry_of view number = interface_in view.table number

-- the bytes are the authenticator of a hop with these values under one of the accepted keys
abbrev pub IsAuthentic : (view : View) (mac : List ℕ)
    (beta timestamp exp_time cons_ingress cons_egress : ℕ) → Type 0
IsAuthentic view mac beta timestamp exp_time cons_ingress cons_egress =
    Any (λ key. mac ≡ authenticator key beta timestamp exp_time cons_ingress cons_egress) view.keys

-- `IsAuthentic` as a Boolean
abbrev pub is_authentic : (view : View) (mac : List ℕ)
    (beta timestamp exp_time cons_ingress cons_egress : ℕ) → Bool
is_authentic view mac beta timestamp exp_time cons_ingress cons_egress =
    list_any (λ key.
    bytes_eq mac (authenticator key beta timestamp exp_time cons_ingress cons_egress)) view.keys
