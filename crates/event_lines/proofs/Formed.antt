-- An object is a line exactly if it has each member of its word in its form.
use Rattle.std.proofs.Common.{◌≡◌, ℕ, ◌%◌, ◌&&◌, Bool, true, false, if◌then◌else◌, codes, List, [], ◌∷◌, length, Option, Some, None, Result, Ok, Err, is_some, is_ok, refl, sym, ap, ◌∙◌, true≢false, arith}
use Rattle.std.specs.Prelude.{◌↔◌, ◌≤◌, ◌||◌, IsTrue, nat_le, not, option_and_then}
use Rattle.std.specs.List.{AllPass, list_all, list_any}
use Rattle.std.specs.Result.{result_ok}
use Rattle.std.specs.Str.{bytes_eq}
use Rattle.std.proofs.lemmas.Bool.{le-leb, leb-true}
use Rattle.serde_json.specs.Data.{Data, null, boolean, number, string, array, object}
use Rattle.serde_json.specs.Find.{get, as_bool, as_number, as_str, as_u64}
use Rattle.hex.specs.Hex.{decode_of, is_hex_digit}
use Rattle.hex.proofs.HexLemmas.{decode_of-digits, decode_of-ok}
use Rattle.isd_as.specs.Reading.{address_at}
use Rattle.refusal.specs.Optional.{◌>>=◌}
use Rattle.json_fields.specs.Fields.{text_at, truth_at, whole_at}
use Rattle.scion_topology.specs.declared.network.End.{End}
use Rattle.scion_topology.specs.declared.network.LinkClass.{LinkClass}
use Rattle.scion_topology.specs.declared.network.LinkClass.TheVariants.{Core, Child}
use Rattle.scion_topology.specs.Keys.{key_from}
use Rattle.scion_topology.specs.Network.{is_wildcard}
use Rattle.scion_topology.specs.Reading.{address_in, as_entry_at, class_at, end_at, key_at, link_at}
use Rattle.event_lines.specs.declared.members.MemberForm.{MemberForm}
use Rattle.event_lines.specs.declared.members.MemberForm.TheVariants.{Address, AsAddress, Bytes, Key, Limit, LinkKind, Object, Truth, Whole}
use Rattle.event_lines.specs.Line.{LineForm, LineValue, OfMembers, OfPolicy, bytes_at, fits, form_with, has_policy, ia_in, is_formed, line_with_word, line_words, lines, made_of, made_of_policy, members_of, options_in, plain_lines, read_among, read_by, traffic_lines, value_at}
use Rattle.policy_expr.specs.Options.{OptionTexts}
use Rattle.event_lines.specs.Members.{MemberValue, as_members, first_misfit, has_end, has_form, has_link, has_member, has_members, is_of_form, is_plain, named, number_within, text_passes}

-- ---- values by their form

some_ok : {A F : Type 0} (r : Result A F) → is_some (result_ok r) ≡ is_ok r
some_ok (Ok x) = refl
some_ok (Err e) = refl

read_text : {A F : Type 0} (read : (List ℕ → Result A F)) (text : Option (List ℕ))
    → is_some (text >>= (λ t. result_ok (read t))) ≡ text_passes (λ t. is_ok (read t)) text
read_text read None = refl
read_text read (Some text) = some_ok (read text)

-- a reader of texts finds the value of a member exactly if it is of a form, since it reads exactly
-- the texts of that form
text_there : {A : Type 0} (form : MemberForm) (read : (List ℕ → Option A)) (v : Option Data)
    → ((x : Data) → is_some (as_str x >>= read) ≡ has_form form x)
    → is_some ((v >>= (λ x. as_str x)) >>= read) ≡ is_of_form form v
text_there form read None each = refl
text_there form read (Some x) each = each x

address_there : (name : List ℕ) (d : Data)
    → is_some (ia_in name d) ≡ is_of_form Address (get name d)
unfolding ia_in text_at
address_there name d =
    text_there Address (λ text. result_ok (address_at text)) (get name d)
    (λ x. read_text address_at (as_str x))

bytes_there : (name : List ℕ) (d : Data)
    → is_some (bytes_at name d) ≡ is_of_form Bytes (get name d)
unfolding bytes_at text_at
bytes_there name d =
    text_there Bytes (λ text. result_ok (decode_of text)) (get name d)
    (λ x. read_text decode_of (as_str x))

if_some : (b : Bool) (n : ℕ) → is_some (if b then Some n else None) ≡ b
if_some true n = refl
if_some false n = refl

within : (low high : ℕ) (number : Option ℕ)
    → is_some (number >>= (λ n. if nat_le low n && nat_le n high then Some n else None))
    ≡ number_within low high number
within low high None = refl
within low high (Some n) = if_some (nat_le low n && nat_le n high) n

pub whole_there : (low high : ℕ) (name : List ℕ) (d : Data)
    → is_some (whole_at low high name d) ≡ is_of_form (Whole low high) (get name d)
unfolding whole_at
whole_there low high name d = of (get name d)
  where
    of : (v : Option Data) → is_some (v >>= (λ x. option_and_then as_u64 (as_number x)
        >>= (λ n. if nat_le low n && nat_le n high then Some n else None)))
        ≡ is_of_form (Whole low high) v
    of None = refl
    of (Some x) = within low high (option_and_then as_u64 (as_number x))

limit_there : (name : List ℕ) (d : Data)
    → is_some (whole_at 0 4294967295 name d) ≡ is_of_form Limit (get name d)
limit_there name d = whole_there 0 4294967295 name d ∙ same (get name d)
  where
    same : (v : Option Data) → is_of_form (Whole 0 4294967295) v ≡ is_of_form Limit v
    same None = refl
    same (Some x) = refl

-- ---- one member after another

goes_on : {A B : Type 0} (a : Option A) (f : A → Option B) (p q : Bool) → is_some a ≡ p
    → ((x : A) → is_some (f x) ≡ q) → is_some (a >>= f) ≡ (p && q)
goes_on None f p q there behind = ap (λ b. b && q) there
goes_on (Some x) f p q there behind = behind x ∙ ap (λ b. b && q) there

-- ---- lines

-- lines have a member of this form
abbrev is_read : MemberValue → Bool
is_read member = of member.form
  where
    of : MemberForm → Bool
    of Address = true
    of (Whole low high) = true
    of Limit = true
    of Bytes = true
    of form = false

value_there : (form : MemberForm) (name : List ℕ) (d : Data)
    → is_read (named name form) ≡ true → is_some (value_at form name d) ≡ is_of_form form (get name d)
value_there Address name d is = address_there name d
value_there (Whole low high) name d is = whole_there low high name d
value_there Limit name d is = limit_there name d
value_there Bytes name d is = bytes_there name d
value_there form name d is = absurd (true≢false (sym is))

both : (a b : Bool) → (a && b) ≡ true → (a ≡ true) × (b ≡ true)
both true true is = (refl, refl)
both true false is = absurd (true≢false (sym is))
both false b is = absurd (true≢false (sym is))

made_there : (A : Type 0) (members : List MemberValue) (make : OfMembers members A) (d : Data)
    → list_all is_read members ≡ true → is_some (made_of members make d) ≡ has_members members d
made_there A [] made d are = refl
made_there A (member ∷ members) make d are =
    let each = both (is_read member) (list_all is_read members) are in
    goes_on _ _ _ _ (value_there member.form member.name d each.0)
    (λ value. made_there A members (make value) d each.1)

policy_there : (A : Type 0) (policy : Bool) (make : OfPolicy policy A) (d : Data)
    → is_some (made_of_policy policy make d) ≡ has_policy policy d
policy_there A false made d = refl
policy_there A true make d = of (options_in d)
  where
    of : (options : Option (List OptionTexts))
        → is_some (options >>= (λ o. Some (make o))) ≡ is_some options
    of None = refl
    of (Some options) = refl

line_there : (form : LineForm) (d : Data) → list_all is_read form.members ≡ true
    → is_some (read_by form d) ≡ fits (Some form) d
line_there form d are =
    goes_on _ _ _ _ (policy_there (OfMembers form.members LineValue) form.policy form.value d)
    (λ value. made_there LineValue form.members value d are)

-- the table's next form has the word, or a later one
either : (b : Bool) (form : LineForm) (later : Option LineForm) (d : Data)
    → list_all is_read form.members ≡ true
    → is_some (later >>= (λ found. read_by found d)) ≡ fits later d
    → is_some ((if b then Some form else later) >>= (λ found. read_by found d))
    ≡ fits (if b then Some form else later) d
either true form later d are behind = line_there form d are
either false form later d are behind = behind

abbrev are_read : LineForm → Bool
are_read form = list_all is_read form.members

among : (forms : List LineForm) (word : List ℕ) (d : Data) → list_all are_read forms ≡ true
    → is_some (read_among forms word d) ≡ fits (form_with word forms) d
among [] word d are = refl
among (form ∷ forms) word d are =
    let each = both (are_read form) (list_all are_read forms) are in
    either (bytes_eq word form.word) form (form_with word forms) d each.0 (among forms word d each.1)

pub lines_are_formed : (word : List ℕ) (d : Data)
    → is_some (line_with_word word d) ≡ is_formed word d
unfolding line_with_word plain_lines traffic_lines
lines_are_formed word d = among lines word d refl

-- ---- topologies

-- the reader of addresses of ASes
abbrev plain_at : List ℕ → Option ℕ
plain_at text = result_ok (address_at text) >>= (λ ia. if is_wildcard ia then None else Some ia)

plain_there : (name : List ℕ) (d : Data)
    → is_some (address_in name d) ≡ is_of_form AsAddress (get name d)
unfolding address_in text_at
plain_there name d = text_there AsAddress plain_at (get name d) (λ x. text_of (as_str x))
  where
    unless : (b : Bool) (ia : ℕ) → is_some (if b then None else Some ia) ≡ not b
    unless true ia = refl
    unless false ia = refl

    address : {F : Type 0} (read : Result ℕ F)
        → is_some (result_ok read >>= (λ ia. if is_wildcard ia then None else Some ia))
        ≡ is_plain read
    address (Ok ia) = unless (is_wildcard ia) ia
    address (Err fault) = refl

    text_of : (text : Option (List ℕ))
        → is_some (text >>= plain_at) ≡ text_passes (λ t. is_plain (address_at t)) text
    text_of None = refl
    text_of (Some text) = address (address_at text)

truth_there : (name : List ℕ) (d : Data)
    → is_some (truth_at name d) ≡ is_of_form Truth (get name d)
unfolding truth_at
truth_there name d = of (get name d)
  where
    of : (v : Option Data) → is_some (v >>= (λ x. as_bool x)) ≡ is_of_form Truth v
    of None = refl
    of (Some x) = refl

-- the reader of kinds of links
abbrev kind_at : List ℕ → Option LinkClass
kind_at text = if bytes_eq text (codes "core") then Some Core
    else if bytes_eq text (codes "child") then Some Child else None

kind_there : (name : List ℕ) (d : Data)
    → is_some (class_at name d) ≡ is_of_form LinkKind (get name d)
unfolding class_at text_at
kind_there name d = text_there LinkKind kind_at (get name d) (λ x. text_of (as_str x))
  where
    either : (core child : Bool)
        → is_some (if core then Some Core else if child then Some Child else None)
        ≡ (core || child)
    either true child = refl
    either false true = refl
    either false false = refl

    text_of : (text : Option (List ℕ)) → is_some (text >>= kind_at)
        ≡ text_passes (λ t. bytes_eq t (codes "core") || bytes_eq t (codes "child")) text
    text_of None = refl
    text_of (Some text) = either (bytes_eq text (codes "core")) (bytes_eq text (codes "child"))

-- bytes of which there are 1 to 64 are a key
is_a_key : (bytes : List ℕ) → 1 ≤ length bytes → length bytes ≤ 64
    → is_some (result_ok (key_from bytes)) ≡ true
unfolding key_from
is_a_key bytes some few = rw (le-leb _ _ some, le-leb _ _ few) refl

-- the reader of keys
abbrev key_of : List ℕ → Option (List ℕ)
key_of text = (if nat_le 2 (length text) && nat_le (length text) 128
    then result_ok (decode_of text) else None) >>= (λ bytes. result_ok (key_from bytes))

key_there : (name : List ℕ) (d : Data)
    → is_some (key_at name d) ≡ is_of_form Key (get name d)
unfolding key_at text_at
key_there name d = text_there Key key_of (get name d) (λ x. text_of (as_str x))
  where
    sized : (text : List ℕ) (least most : Bool) → (least ≡ true → 2 ≤ length text)
        → (most ≡ true → length text ≤ 128) → (read : Result (List ℕ) _) → decode_of text ≡ read
        → is_some ((if least && most then result_ok read else None)
        >>= (λ bytes. result_ok (key_from bytes))) ≡ (least && (most && is_ok read))
    sized text false most long short read is = refl
    sized text true false long short read is = refl
    sized text true true long short (Err fault) is = refl
    sized text true true long short (Ok bytes) is =
        let count = (decode_of-ok text bytes is).2 in
        let two = long refl in
        let few = short refl in
        is_a_key bytes (omega (arith, count, two)) (omega (arith, count, few))

    text_of : (text : Option (List ℕ)) → is_some (text >>= key_of)
        ≡ text_passes (λ t. nat_le 2 (length t)
        && (nat_le (length t) 128 && is_ok (decode_of t))) text
    text_of None = refl
    text_of (Some text) =
        sized text (nat_le 2 (length text)) (nat_le (length text) 128)
        (leb-true 2 (length text)) (leb-true (length text) 128) (decode_of text) refl

pub ases_are_formed : (d : Data) → is_some (as_entry_at d) ≡ has_members as_members d
unfolding as_entry_at
ases_are_formed d =
    goes_on _ _ _ _ (plain_there (codes "ia") d)
    (λ _. goes_on _ _ _ _ (truth_there (codes "core") d)
    (λ _. goes_on _ _ _ _ (whole_there 0 255 (codes "exp") d)
    (λ _. goes_on _ _ _ _ (key_there (codes "key") d)
    (λ _. goes_on _ _ _ _ (whole_there 1 64 (codes "routers") d) (λ _. refl)))))

end_there : (name : List ℕ) (d : Data) → is_some (end_at name d) ≡ has_end (get name d)
unfolding end_at
end_there name d = of (get name d)
  where
    of : (v : Option Data) → is_some {T = End} (v >>= (λ x. address_in (codes "ia") x
        >>= (λ ia. whole_at 1 65535 (codes "if") x
        >>= (λ number. whole_at 0 63 (codes "router") x
        >>= (λ router. Some (record { ia = ia; number = number; router = router })))))) ≡ has_end v
    of None = refl
    of (Some x) =
        goes_on _ _ _ _ (plain_there (codes "ia") x)
        (λ _. goes_on _ _ _ _ (whole_there 1 65535 (codes "if") x)
        (λ _. goes_on _ _ _ _ (whole_there 0 63 (codes "router") x) (λ _. refl)))

-- an end is an object
is_object : (v : Option Data) → has_end v ≡ (is_of_form Object v && has_end v)
is_object None = refl
is_object (Some null) = refl
is_object (Some (boolean _)) = refl
is_object (Some (number _)) = refl
is_object (Some (string _)) = refl
is_object (Some (array _)) = refl
is_object (Some (object _)) = refl

in_turn : (kind object_a object_b a b : Bool)
    → (kind && ((object_a && a) && ((object_b && b) && true)))
    ≡ ((kind && (object_a && (object_b && true))) && ((object_a && a) && (object_b && b)))
in_turn false object_a object_b a b = refl
in_turn true false object_b a b = refl
in_turn true true false true b = refl
in_turn true true false false b = refl
in_turn true true true true true = refl
in_turn true true true true false = refl
in_turn true true true false b = refl

all_there : (kind : Bool) (a b : Option Data)
    → (kind && (has_end a && (has_end b && true)))
    ≡ ((kind && (is_of_form Object a && (is_of_form Object b && true))) && (has_end a && has_end b))
all_there kind a b =
    let one = is_of_form Object a in
    let other = is_of_form Object b in
    ap (λ x. kind && (x && (has_end b && true))) (is_object a)
    ∙ ap (λ y. kind && ((one && has_end a) && (y && true))) (is_object b)
    ∙ in_turn kind one other (has_end a) (has_end b)
    ∙ ap (λ x. (kind && (one && (other && true))) && (x && (other && has_end b)))
    (sym (is_object a))
    ∙ ap (λ y. (kind && (one && (other && true))) && (has_end a && y)) (sym (is_object b))

pub links_are_formed : (d : Data) → is_some (link_at d) ≡ has_link d
unfolding link_at
links_are_formed d =
    goes_on _ _ _ _ (kind_there (codes "kind") d)
    (λ _. goes_on _ _ _ _ (end_there (codes "a") d)
    (λ _. goes_on _ _ _ _ (end_there (codes "b") d) (λ _. refl)))
    ∙ all_there (is_of_form LinkKind (get (codes "kind") d)) (get (codes "a") d) (get (codes "b") d)

-- ---- hexadecimal

not_ok : {E : Type 0} (read : Result (List ℕ) E) → ((bytes : List ℕ) → read ≡ Ok bytes → ⊥)
    → false ≡ is_ok read
not_ok (Ok bytes) never = absurd (never bytes refl)
not_ok (Err fault) never = refl

-- a text of an even number of digits is bytes, and no other is
pub even_digits : (text : List ℕ) (digits : Bool) → length text % 2 ≡ 0
    → (IsTrue digits ↔ AllPass is_hex_digit text) → digits ≡ is_ok (decode_of text)
even_digits text true even are =
    let read = decode_of-digits text even (are.0 refl) in
    sym (ap (λ r. is_ok r) read.1)
even_digits text false even are =
    not_ok (decode_of text) (λ bytes is. true≢false (sym (are.1 (decode_of-ok text bytes is).1)))

pub odd_length : (text : List ℕ) → (length text % 2 ≡ 0 → ⊥) → false ≡ is_ok (decode_of text)
odd_length text odd = not_ok (decode_of text) (λ bytes is. odd (decode_of-ok text bytes is).0)

-- ---- the first misfit

pub goes_past : (member : MemberValue) (members : List MemberValue) (d : Data)
    → has_member member d ≡ true → first_misfit (member ∷ members) d ≡ first_misfit members d
goes_past member members d has =
    ap (λ b. if b then first_misfit members d else Some member) has

pub stops_at : (member : MemberValue) (members : List MemberValue) (d : Data)
    → has_member member d ≡ false → first_misfit (member ∷ members) d ≡ Some member
stops_at member members d lacks =
    ap (λ b. if b then first_misfit members d else Some member) lacks

-- an object has all members if there is no first one that it does not have
pub none_misfits : (members : List MemberValue) (d : Data)
    → is_some (first_misfit members d) ≡ not (has_members members d)
none_misfits [] d = refl
none_misfits (member ∷ members) d = either (has_member member d) (none_misfits members d)
  where
    either : (b : Bool) → is_some (first_misfit members d) ≡ not (has_members members d)
        → is_some (if b then first_misfit members d else Some member)
        ≡ not (b && has_members members d)
    either true later = later
    either false later = refl

-- ---- words

pub words_have_members : list_all (λ word. is_some (members_of word)) line_words ≡ true
unfolding members_of plain_lines traffic_lines
words_have_members = refl

pub lines_have_words :
    list_all (λ form. list_any (bytes_eq form.word) line_words) lines ≡ true
unfolding plain_lines traffic_lines
lines_have_words = refl
