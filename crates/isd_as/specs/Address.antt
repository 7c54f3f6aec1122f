-- Addresses of autonomous systems as text (draft-dekater-scion-controlplane, the text form of
-- ISD-AS numbers). The relations say which texts mean a number: leading zeros and letters of either
-- case are allowed. `canonical` is the one text among them that is printed.
use Rattle.std.specs.Prelude.{◌≡◌, ℕ, ◌+◌, ◌*◌, ◌/◌, ◌%◌, ◌^◌, ◌<◌, ◌≤◌, ◌⊎◌, false, nat_lt, if◌then◌else◌, List, ◌∷◌, ◌++◌, length}
use Rattle.std.specs.Fmt.{decimal, digits}
use Rattle.std.specs.Str.Parse.{IsNumeral, digits_value}

-- the ISD of an address, its high 16 bits
abbrev pub isd_of : ℕ → ℕ
isd_of address = address / 2 ^ 48

-- the AS number of an address, its low 48 bits
abbrev pub as_number_of : ℕ → ℕ
as_number_of address = address % 2 ^ 48

-- the address of an AS number in an ISD
abbrev pub address_of : (isd as_number : ℕ) → ℕ
address_of isd as_number = isd * 2 ^ 48 + as_number

-- the ISD or the AS number of the address is the wildcard 0
abbrev pub IsWildcard : ℕ → Type 0
IsWildcard address = (isd_of address ≡ 0) ⊎ (as_number_of address ≡ 0)

-- the number is the wanted one, or the wildcard 0 is wanted
abbrev pub Fits : (wanted number : ℕ) → Type 0
Fits wanted number = (wanted ≡ 0) ⊎ (wanted ≡ number)

-- the sign between the ISD and the AS number, '-'
abbrev pub dash : ℕ
dash = 45

-- the sign between the groups of an AS number, ':'
abbrev pub colon : ℕ
colon = 58

-- the text is one or more digits of the radix, and their value is the number
pub record IsNumeralOf (radix : ℕ) (text : List ℕ) (n : ℕ) : Type 0 where
  pub numeral : IsNumeral radix text
  pub value : digits_value radix text ≡ n

-- the text is 1 to 4 hexadecimal digits, and their value is the number
pub record WritesGroup (text : List ℕ) (n : ℕ) : Type 0 where
  pub written : IsNumeralOf 16 text n
  pub short : length text ≤ 4

-- the text is three groups joined by ':'; each group gives 16 bits of the number, the highest first
pub record SpellsGroups (text : List ℕ) (n : ℕ) : Type 0 where
  pub high : ℕ
  pub middle : ℕ
  pub low : ℕ
  pub first : List ℕ
  pub second : List ℕ
  pub third : List ℕ
  pub parts : text ≡ first ++ (colon ∷ (second ++ (colon ∷ third)))
  pub of : n ≡ high * 2 ^ 32 + middle * 2 ^ 16 + low
  pub high_written : WritesGroup first high
  pub middle_written : WritesGroup second middle
  pub low_written : WritesGroup third low

-- the text is a decimal number of 16 bits: the ISD
pub record SpellsIsd (text : List ℕ) (n : ℕ) : Type 0 where
  pub written : IsNumeralOf 10 text n
  pub small : n < 2 ^ 16

-- the text is a decimal number of 32 bits
pub record SpellsDecimal (text : List ℕ) (n : ℕ) : Type 0 where
  pub written : IsNumeralOf 10 text n
  pub small : n < 2 ^ 32

-- the text is an AS number: a decimal number of 32 bits, or three groups
abbrev pub SpellsAs : List ℕ → ℕ → Type 0
SpellsAs text n = SpellsDecimal text n ⊎ SpellsGroups text n

-- the text is an address: an ISD (its high 16 bits), '-' and an AS number (its low 48 bits)
pub record Spells (text : List ℕ) (address : ℕ) : Type 0 where
  pub isd : ℕ
  pub as_number : ℕ
  pub front : List ℕ
  pub back : List ℕ
  pub parts : text ≡ front ++ (dash ∷ back)
  pub of : address ≡ address_of isd as_number
  pub isd_spelled : SpellsIsd front isd
  pub as_spelled : SpellsAs back as_number

-- the printed text of an AS number: decimal up to 4294967295, and above that three groups of
-- lower-case hexadecimal digits without leading zeros
abbrev pub canonical_as : ℕ → List ℕ
canonical_as n = if nat_lt n (2 ^ 32) then decimal n
    else digits 16 false (n / 2 ^ 32)
    ++ (colon ∷ (digits 16 false (n / 2 ^ 16 % 2 ^ 16)
    ++ (colon ∷ digits 16 false (n % 2 ^ 16))))

-- the printed text of an address: its ISD in decimal, '-' and its AS number
abbrev pub canonical : ℕ → List ℕ
canonical address = decimal (isd_of address) ++ (dash ∷ canonical_as (as_number_of address))
