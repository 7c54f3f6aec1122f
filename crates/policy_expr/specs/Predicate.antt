-- Reading a hop predicate (path policy language): `ISD`, `ISD-AS`, `ISD-AS#IF` or `ISD-AS#IN,OUT`.
-- `SpellsPredicate` says which texts are a spelling of a predicate, and `predicate_at` what reading
-- answers.
use Rattle.std.specs.Prelude.{ℕ, ◌==◌, ◌&&◌, if◌then◌else◌, List, ◌∷◌, ◌++◌, Result, Ok}
use Rattle.std.specs.List.{list_any, before_first, after_first}
use Rattle.refusal.specs.Refusal.{◌>>=◌, or_else}
use Rattle.isd_as.specs.Address.{Spells, SpellsIsd, address_of, dash}
use Rattle.isd_as.specs.Reading.{isd_at, address_at}
use Rattle.policy_expr.specs.declared.fault.PolicyFault.{PolicyFault}
use Rattle.policy_expr.specs.declared.fault.PolicyFault.TheVariants as faults
use Rattle.policy_expr.specs.declared.hop.HopPred.{HopPred}
use Rattle.policy_expr.specs.declared.hop.Interfaces.{Interfaces}
use Rattle.policy_expr.specs.declared.hop.Interfaces.TheVariants.{Any, Either, Both}

-- the sign before the interfaces, '#', and the sign between two interfaces, ','
abbrev pub hash : ℕ
hash = 35

abbrev pub comma : ℕ
comma = 44

-- one interface; 0 is the wildcard
abbrev pub one_interface : ℕ → Interfaces
one_interface n = if n == 0 then Any else Either n

-- two interfaces; 0 and 0 are the wildcard
abbrev pub two_interfaces : (ingress egress : ℕ) → Interfaces
two_interfaces ingress egress = if (ingress == 0) && (egress == 0) then Any else Both ingress egress

-- the text of interfaces: one decimal number of 16 bits, or two with ',' between them
pub data SpellsInterfaces : List ℕ → Interfaces → Type 0 where
  one : (text : List ℕ) (n : ℕ) → SpellsIsd text n → SpellsInterfaces text (one_interface n)
  two : (front back : List ℕ) (m n : ℕ) → SpellsIsd front m → SpellsIsd back n
      → SpellsInterfaces (front ++ (comma ∷ back)) (two_interfaces m n)

-- the text of a predicate: an ISD alone, an address, or an address, '#' and interfaces
pub data SpellsPredicate : List ℕ → HopPred → Type 0 where
  isd_alone : (text : List ℕ) (n : ℕ) → SpellsIsd text n
      → SpellsPredicate text (record { ia = address_of n 0; interfaces = Any })
  address : (text : List ℕ) (n : ℕ) → Spells text n
      → SpellsPredicate text (record { ia = n; interfaces = Any })
  with_interfaces : (front back : List ℕ) (n : ℕ) (ways : Interfaces) → Spells front n
      → SpellsInterfaces back ways
      → SpellsPredicate (front ++ (hash ∷ back)) (record { ia = n; interfaces = ways })

-- the number of an interface, read as that of an ISD: decimal digits up to 65535
abbrev pub interface_number_at : List ℕ → Result ℕ PolicyFault
interface_number_at text = or_else faults.BadPredicate (isd_at text)

-- the interfaces of a text: two if it has a ',', else one
unfoldable pub interfaces_at : List ℕ → Result Interfaces PolicyFault
interfaces_at text = if list_any (λ b. b == comma) text then (do
  ingress ← interface_number_at (before_first (λ b. b == comma) text)
  egress ← interface_number_at (after_first (λ b. b == comma) text)
  Ok (two_interfaces ingress egress))
    else (do
      n ← interface_number_at text
      Ok (one_interface n))

-- the address of a text: ISD and AS if it has a '-', else an ISD alone
unfoldable pub ia_at : List ℕ → Result ℕ PolicyFault
ia_at text =
    or_else faults.BadPredicate (if list_any (λ b. b == dash) text then address_at text else (do
      isd ← isd_at text
      Ok (address_of isd 0)))

-- the predicate of a text, or BadPredicate: an address and interfaces if it has a '#', else an
-- address
unfoldable pub predicate_at : List ℕ → Result HopPred PolicyFault
predicate_at text = if list_any (λ b. b == hash) text then (do
  ia ← or_else faults.BadPredicate (address_at (before_first (λ b. b == hash) text))
  interfaces ← interfaces_at (after_first (λ b. b == hash) text)
  Ok (record { ia = ia; interfaces = interfaces }))
    else (do
      ia ← ia_at text
      Ok (record { ia = ia; interfaces = Any }))
