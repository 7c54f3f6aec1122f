-- Members of JSON objects, each with the form of its value; and those of a policy, of a policy
-- option, and of a topology's objects.
use Rattle.std.specs.Prelude.{ℕ, suc, ◌&&◌, ◌||◌, nat_le, not, Bool, true, false, if◌then◌else◌, codes, List, [], ◌∷◌, ◌++◌, length, Option, Some, None, is_some, is_ok, option_and_then, Result, Ok, Err}
use Rattle.std.specs.Fmt.{decimal}
use Rattle.std.specs.Option.{is_none}
use Rattle.std.specs.Str.{bytes_eq}
use Rattle.serde_json.specs.Data.{Data, no_items, item}
use Rattle.serde_json.specs.Data as values
use Rattle.serde_json.specs.Find.{get, as_array, as_bool, as_number, as_object, as_str, as_u64}
use Rattle.hex.specs.Hex.{decode_of}
use Rattle.isd_as.specs.Reading.{address_at}
use Rattle.scion_topology.specs.Network.{is_wildcard}
use Rattle.event_lines.specs.declared.members.Member.{Member}
use Rattle.event_lines.specs.declared.members.MemberForm.{MemberForm}
use Rattle.event_lines.specs.declared.members.MemberForm.TheVariants.{Address, AsAddress, Items, Object, Truth, Whole, Limit, Key, Bytes, LinkKind, Text, Texts, Absent}

-- ---- forms

-- there is a text, and it passes a test
abbrev pub text_passes : (List ℕ → Bool) → Option (List ℕ) → Bool
text_passes test None = false
text_passes test (Some text) = test text

-- there is a number in a range, both ends included
abbrev pub number_within : (low high : ℕ) → Option ℕ → Bool
number_within low high None = false
number_within low high (Some n) = nat_le low n && nat_le n high

-- a text that was read is the address of an AS, without a wildcard
abbrev pub is_plain : {F : Type 0} → Result ℕ F → Bool
is_plain (Ok ia) = not (is_wildcard ia)
is_plain (Err fault) = false

-- the first of two, if there is one
abbrev pub first_of : {A : Type 0} → Option A → Option A → Option A
first_of (Some x) later = Some x
first_of None later = later

-- what the first of the items gives that gives anything, by its number and its value
abbrev pub first_given : {A : Type 0} → (ℕ → Data → Option A) → values.Items → Option A
first_given give no_items = None
first_given give (item d ds) = first_of (give 0 d) (first_given (λ number. give (suc number)) ds)

-- the number of an item that is no text
abbrev pub no_text : ℕ → Data → Option ℕ
no_text number d = if is_some (as_str d) then None else Some number

-- there is a list, and its items are texts
abbrev pub are_texts : Option values.Items → Bool
are_texts None = false
are_texts (Some items) = is_none (first_given no_text items)

-- whether a value has a form; none is of the form of a member that is to be absent
abbrev pub has_form : MemberForm → Data → Bool
has_form Address d = text_passes (λ text. is_ok (address_at text)) (as_str d)
has_form AsAddress d = text_passes (λ text. is_plain (address_at text)) (as_str d)
has_form Items d = is_some (as_array d)
has_form Object d = is_some (as_object d)
has_form Truth d = is_some (as_bool d)
has_form (Whole low high) d = number_within low high (option_and_then as_u64 (as_number d))
has_form Limit d = number_within 0 4294967295 (option_and_then as_u64 (as_number d))
has_form Key d = text_passes (λ text. nat_le 2 (length text)
    && (nat_le (length text) 128 && is_ok (decode_of text))) (as_str d)
has_form Bytes d = text_passes (λ text. is_ok (decode_of text)) (as_str d)
has_form LinkKind d =
    text_passes (λ text. bytes_eq text (codes "core") || bytes_eq text (codes "child")) (as_str d)
has_form Text d = is_some (as_str d)
has_form Texts d = are_texts (as_array d)
has_form Absent d = false

-- how a form is told
abbrev pub form_text : MemberForm → List ℕ
form_text Address = codes "an address such as \"1-ff00:0:110\" or \"1-64512\""
form_text AsAddress =
    codes "an address such as \"1-ff00:0:110\", without a 0 for ISD or AS"
form_text Items = codes "a list"
form_text Object = codes "an object"
form_text Truth = codes "true or false"
form_text (Whole low high) =
    codes "a whole number from " ++ (decimal low ++ (codes " to " ++ decimal high))
form_text Limit = codes "a whole number from 1 to 64"
form_text Key = codes "an even number of hexadecimal digits for 1 to 64 bytes"
form_text Bytes = codes "an even number of hexadecimal digits"
form_text LinkKind = codes "\"core\" or \"child\""
form_text Text = codes "a text"
form_text Texts = codes "a list of texts"
form_text Absent = codes "none beside options"

-- ---- members

-- a member that an object is to have: its name, and the form of its value
pub record MemberValue : Type 0 where
  pub name : List ℕ
  pub form : MemberForm

abbrev pub named : List ℕ → MemberForm → MemberValue
named name form = record { name = name; form = form }

abbrev pub member_value : Member → MemberValue
member_value member = named member.0.now member.1

-- there is a value, and it has a form
abbrev pub is_of_form : MemberForm → Option Data → Bool
is_of_form form None = false
is_of_form form (Some d) = has_form form d

-- whether an object has a member in its form
abbrev pub has_member : MemberValue → Data → Bool
has_member member d = is_of_form member.form (get member.name d)

-- whether an object has all of these members in their forms
abbrev pub has_members : List MemberValue → Data → Bool
has_members [] d = true
has_members (member ∷ members) d = has_member member d && has_members members d

-- ---- forms of numbers, and policies

-- a number of 32 bits, of 16 bits, and of 8 bits
abbrev pub long_form : MemberForm
long_form = Whole 0 4294967295

abbrev pub short_form : MemberForm
short_form = Whole 0 65535

abbrev pub byte_form : MemberForm
byte_form = Whole 0 255

-- the word of a request and the members with its policy, which may be absent
abbrev pub policy_members : List MemberValue
policy_members = named (codes "do") Text ∷ named (codes "acl") Texts
    ∷ named (codes "sequence") Text ∷ named (codes "options") Items ∷ []

-- the members of a policy option, of which all but the weight may be absent
abbrev pub option_members : List MemberValue
option_members = named (codes "weight") long_form ∷ named (codes "acl") Texts
    ∷ named (codes "sequence") Text ∷ []

-- the first of these members that an object does not have in its form
abbrev pub first_misfit : List MemberValue → Data → Option MemberValue
first_misfit [] d = None
first_misfit (member ∷ members) d =
    if has_member member d then first_misfit members d else Some member

-- ---- topologies

-- the members of a topology
abbrev pub topology_members : List MemberValue
topology_members = named (codes "ases") Items ∷ named (codes "links") Items ∷ []

-- the members of an AS
abbrev pub as_members : List MemberValue
as_members = named (codes "ia") AsAddress ∷ named (codes "core") Truth
    ∷ named (codes "exp") byte_form ∷ named (codes "key") Key
    ∷ named (codes "routers") (Whole 1 64) ∷ []

-- the members of a link; the objects `a` and `b` are its ends
abbrev pub link_members : List MemberValue
link_members = named (codes "kind") LinkKind ∷ named (codes "a") Object
    ∷ named (codes "b") Object ∷ []

-- the members of an end of a link
abbrev pub end_members : List MemberValue
end_members = named (codes "ia") AsAddress ∷ named (codes "if") (Whole 1 65535)
    ∷ named (codes "router") (Whole 0 63) ∷ []

-- there is a value that has the members of an end
abbrev pub has_end : Option Data → Bool
has_end None = false
has_end (Some d) = has_members end_members d

-- whether an object has the members of a link, and each of its ends those of an end
abbrev pub has_link : Data → Bool
has_link d = has_members link_members d
    && (has_end (get (codes "a") d) && has_end (get (codes "b") d))
