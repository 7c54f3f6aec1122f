-- The value of a line: it is a JSON object with the member `do`, and with others that depend on its
-- word. Addresses are texts; payloads and keys are hexadecimal; numbers are whole numbers up to the
-- largest of their type. Other members are ignored.
use Rattle.std.specs.Prelude.{ℕ, ◌&&◌, if◌then◌else◌, codes, Bool, true, false, List, [], ◌∷◌, Option, Some, None, is_some, option_map}
use Rattle.std.specs.Option.{is_none}
use Rattle.std.specs.Str.{bytes_eq}
use Rattle.serde_json.specs.Data.{Data}
use Rattle.serde_json.specs.Find.{get, as_str}
use Rattle.hex.specs.Hex.{decode_of}
use Rattle.std.specs.Result.{result_ok}
use Rattle.refusal.specs.Optional.{◌>>=◌}
use Rattle.json_fields.specs.Fields.{document_in, text_at, whole_at, list_at, items_at}
use Rattle.isd_as.specs.Reading.{address_at}
use Rattle.policy_expr.specs.Options.{OptionTexts, options_at}
use Rattle.network_core.specs.Event.{EventValue, Tick, Originate, Extend, Terminate, Sweep, Ask, ByAnswer, BackOf, Send, Turn, Lose, Alter, CutLink, MendLink, RotateKey}
use Rattle.event_lines.specs.declared.members.MemberForm.{MemberForm}
use Rattle.event_lines.specs.declared.members.MemberForm.TheVariants.{Address, Bytes, Limit, Whole}
use Rattle.event_lines.specs.Members.{MemberValue, byte_form, has_members, long_form, named, short_form}

-- the value of a line: an event that happens, or a packet whose place is shown
pub data LineValue : Type 0 where
  Happens : EventValue → LineValue
  Shows : ℕ → LineValue

-- ---- members

-- a number of 32 bits, of 16 bits, and of 8 bits
abbrev pub long_at : List ℕ → Data → Option ℕ
long_at name d = whole_at 0 4294967295 name d

abbrev pub short_at : List ℕ → Data → Option ℕ
short_at name d = whole_at 0 65535 name d

abbrev pub byte_at : List ℕ → Data → Option ℕ
byte_at name d = whole_at 0 255 name d

-- the address in a member
unfoldable pub ia_in : List ℕ → Data → Option ℕ
ia_in name d = do
  text ← text_at name d
  result_ok (address_at text)

-- the bytes in a member, in hexadecimal digits of either case
unfoldable pub bytes_at : List ℕ → Data → Option (List ℕ)
bytes_at name d = do
  text ← text_at name d
  result_ok (decode_of text)

-- ---- policy options

-- a list of texts; it may be absent
unfoldable pub texts_at : List ℕ → Data → Option (Option (List (List ℕ)))
texts_at name d = if is_none (get name d) then Some None else (do
  items ← list_at name d
  texts ← items_at as_str items
  Some (Some texts))

-- a text; it may be absent
unfoldable pub maybe_text_at : List ℕ → Data → Option (Option (List ℕ))
maybe_text_at name d = if is_none (get name d) then Some None else (do
  text ← text_at name d
  Some (Some text))

-- an option of this weight from the members `acl` and `sequence`; each may be absent
unfoldable pub option_with : ℕ → Data → Option OptionTexts
option_with weight d = do
  acl ← texts_at (codes "acl") d
  sequence ← maybe_text_at (codes "sequence") d
  Some (record { acl = acl; sequence = sequence; weight = weight })

-- an option with its weight in the member `weight`
unfoldable pub option_in : Data → Option OptionTexts
option_in d = do
  weight ← long_at (codes "weight") d
  option_with weight d

-- the options of an `ask`: the list `options`, with which neither `acl` nor `sequence` may occur;
-- without the list, one option of weight 0
unfoldable pub listed_options : Data → Option (List OptionTexts)
listed_options d =
    if is_none (get (codes "acl") d) then
    (if is_none (get (codes "sequence") d) then (do
      items ← list_at (codes "options") d
      items_at option_in items) else None)
    else None

unfoldable pub one_option : Data → Option (List OptionTexts)
one_option d = do
  option ← option_with 0 d
  Some (option ∷ [])

abbrev pub options_in : Data → Option (List OptionTexts)
options_in d = if is_none (get (codes "options") d) then one_option d else listed_options d

-- ---- members, by their forms

-- what is read of a member of each form that lines have: bytes, or a number, as an address is one
abbrev pub Read : MemberForm → Type 0
Read Bytes = List ℕ
Read form = ℕ

-- the value of a member that has this form; lines have none of any other form
abbrev pub value_at : (form : MemberForm) → List ℕ → Data → Option (Read form)
value_at Address name d = ia_in name d
value_at (Whole low high) name d = whole_at low high name d
value_at Limit name d = long_at name d
value_at Bytes name d = bytes_at name d
value_at form name d = None

-- what makes a value of these members, which are read one after another
abbrev pub OfMembers : List MemberValue → Type 0 → Type 0
OfMembers [] A = A
OfMembers (member ∷ members) A = Read member.form → OfMembers members A

-- the value that is made of an object's members
abbrev pub made_of : {A : Type 0} → (members : List MemberValue) → OfMembers members A → Data
    → Option A
made_of [] made d = Some made
made_of (member ∷ members) make d = do
  value ← value_at member.form member.name d
  made_of members (make value) d

-- what makes a value, if need be of a policy's options first
abbrev pub OfPolicy : (policy : Bool) → Type 0 → Type 0
OfPolicy false A = A
OfPolicy true A = List OptionTexts → A

abbrev pub made_of_policy : {A : Type 0} → (policy : Bool) → OfPolicy policy A → Data → Option A
made_of_policy false made d = Some made
made_of_policy true make d = do
  options ← options_in d
  Some (make options)

-- ---- the table of lines

-- the lines with a word: whether they have a policy; their members, in the order in which they are
-- looked for; and the value that is made of these
pub record LineForm : Type 0 where
  pub word : List ℕ
  pub policy : Bool
  pub members : List MemberValue
  pub value : OfPolicy policy (OfMembers members LineValue)

-- lines without a policy
abbrev pub line : (word : List ℕ) (members : List MemberValue) → OfMembers members LineValue
    → LineForm
line word members value =
    record { word = word; policy = false; members = members; value = value }

abbrev pub address : List ℕ → MemberValue
address name = named name Address

abbrev pub bytes : List ℕ → MemberValue
bytes name = named name Bytes

-- numbers of 32 bits, of 16 bits, and of 8 bits
abbrev pub long : List ℕ → MemberValue
long name = named name long_form

abbrev pub short : List ℕ → MemberValue
short name = named name short_form

abbrev pub byte : List ℕ → MemberValue
byte name = named name byte_form

abbrev pub ask_line : LineForm
ask_line =
    record {
      word = codes "ask";
      policy = true;
      members = address (codes "src") ∷ address (codes "dst") ∷ named (codes "limit") Limit ∷ [];
      value = λ options src dst limit. Happens (Ask src dst (options_at options) limit);
    }

abbrev pub send_line : LineForm
send_line =
    line (codes "send") (bytes (codes "payload") ∷ long (codes "ask") ∷ long (codes "path") ∷ [])
    (λ payload ask path. Happens (Send (ByAnswer ask path) payload))

abbrev pub back_line : LineForm
back_line =
    line (codes "back") (bytes (codes "payload") ∷ long (codes "packet") ∷ [])
    (λ payload packet. Happens (Send (BackOf packet) payload))

abbrev pub rotate_line : LineForm
rotate_line =
    line (codes "rotate") (bytes (codes "key") ∷ address (codes "ia") ∷ [])
    (λ key ia. Happens (RotateKey ia key))

-- the lines about packets and links that have neither bytes nor texts
unfoldable pub traffic_lines : List LineForm
traffic_lines =
    line (codes "turn") (long (codes "packet") ∷ []) (λ packet. Happens (Turn packet))
    ∷ line (codes "lose") (long (codes "packet") ∷ []) (λ packet. Happens (Lose packet))
    ∷ line (codes "alter") (long (codes "packet") ∷ long (codes "at") ∷ byte (codes "xor") ∷ [])
    (λ packet at xor. Happens (Alter packet at xor))
    ∷ line (codes "cut") (address (codes "ia") ∷ short (codes "if") ∷ [])
    (λ ia interface. Happens (CutLink ia interface))
    ∷ line (codes "mend") (address (codes "ia") ∷ short (codes "if") ∷ [])
    (λ ia interface. Happens (MendLink ia interface))
    ∷ line (codes "show") (long (codes "packet") ∷ []) (λ packet. Shows packet)
    ∷ []

-- all lines that have neither bytes nor texts
unfoldable pub plain_lines : List LineForm
plain_lines =
    line (codes "tick") (long (codes "now") ∷ []) (λ now. Happens (Tick now))
    ∷ line (codes "originate")
    (address (codes "ia") ∷ short (codes "egress") ∷ short (codes "beta0") ∷ [])
    (λ ia egress beta0. Happens (Originate ia egress beta0))
    ∷ line (codes "extend")
    (long (codes "beacon") ∷ address (codes "ia") ∷ short (codes "egress") ∷ [])
    (λ beacon ia egress. Happens (Extend beacon ia egress))
    ∷ line (codes "terminate") (long (codes "beacon") ∷ address (codes "ia") ∷ [])
    (λ beacon ia. Happens (Terminate beacon ia))
    ∷ line (codes "sweep") [] (Happens Sweep)
    ∷ traffic_lines

-- all lines
abbrev pub lines : List LineForm
lines = ask_line ∷ send_line ∷ back_line ∷ rotate_line ∷ plain_lines

-- the words of lines, in the order in which they are told
abbrev pub line_words : List (List ℕ)
line_words = codes "tick" ∷ codes "originate" ∷ codes "extend" ∷ codes "terminate"
    ∷ codes "sweep" ∷ codes "ask" ∷ codes "send" ∷ codes "back" ∷ codes "turn" ∷ codes "lose"
    ∷ codes "alter" ∷ codes "cut" ∷ codes "mend" ∷ codes "rotate" ∷ codes "show" ∷ []

-- the first of these forms that has this word
abbrev pub form_with : (word : List ℕ) → List LineForm → Option LineForm
form_with word [] = None
form_with word (form ∷ forms) =
    if bytes_eq word form.word then Some form else form_with word forms

-- the members of the lines with a word, without the policy; none if no line has the word
unfoldable pub members_of : (word : List ℕ) → Option (List MemberValue)
members_of word = option_map (λ form. form.members) (form_with word lines)

-- ---- lines

-- the value of an object by this form
abbrev pub read_by : LineForm → Data → Option LineValue
read_by form d = do
  value ← made_of_policy form.policy form.value d
  made_of form.members value d

-- the value of an object by the first of these forms that has its word
abbrev pub read_among : List LineForm → (word : List ℕ) → Data → Option LineValue
read_among forms word d = do
  form ← form_with word forms
  read_by form d

-- the value of an object with this word
unfoldable pub line_with_word : (word : List ℕ) → Data → Option LineValue
line_with_word word d = read_among lines word d

-- the value of an object
unfoldable pub said_by : Data → Option LineValue
said_by d = do
  word ← text_at (codes "do") d
  line_with_word word d

-- the value of a line's bytes, if they are such an object
unfoldable pub line_in : List ℕ → Option LineValue
line_in bytes = do
  d ← document_in bytes
  said_by d

-- whether an object has a policy, if it needs one
abbrev pub has_policy : (policy : Bool) → Data → Bool
has_policy false d = true
has_policy true d = is_some (options_in d)

-- whether an object has the policy and the members of a form, if there is one
abbrev pub fits : Option LineForm → Data → Bool
fits None d = false
fits (Some form) d = has_policy form.policy d && has_members form.members d

-- whether an object has the members of the lines with a word, and with `ask` a policy
abbrev pub is_formed : (word : List ℕ) → Data → Bool
is_formed word d = fits (form_with word lines) d
