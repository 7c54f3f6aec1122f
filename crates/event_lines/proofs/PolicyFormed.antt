-- A request has a policy exactly if no part of it has not its form.
use Rattle.std.proofs.Common.{◌≡◌, ℕ, zero, suc, ◌<◌, Bool, true, false, if◌then◌else◌, codes, List, [], ◌∷◌, length, Option, Some, None, is_some, refl, sym, ap, ◌∙◌, ◌+◌, ◌⊎◌, inl, inr, arith, slice_get}
use Rattle.std.specs.Option.{is_none}
use Rattle.std.proofs.lemmas.Bool.{cases_lt}
use Rattle.std.proofs.lemmas.Option.{same_Some}
use Rattle.serde_json.specs.Data.{Data, Items, no_items, item}
use Rattle.serde_json.specs.Find.{get, as_array, as_str}
use Rattle.serde_json.specs.View.{items_view, view}
use Rattle.serde_json.specs.declared.value.Value.{Value}
use Rattle.refusal.specs.Optional.{◌>>=◌}
use Rattle.json_fields.specs.Fields.{items_at, list_at, text_at}
use Rattle.policy_expr.specs.Options.{OptionTexts}
use Rattle.event_lines.specs.Line.{listed_options, long_at, maybe_text_at, one_option, option_in, option_with, options_in, texts_at}
use Rattle.event_lines.specs.declared.members.MemberForm.TheVariants.{Absent, Text}
use Rattle.event_lines.specs.Members.{first_given, first_of, has_member, is_of_form, long_form, named, no_text}
use Rattle.event_lines.specs.PolicyForm.{MisfitValue, acl_misfit, entry_misfit, list_misfit, misfit, option_misfit, policy_misfit, sequence_misfit, texts_misfit}
use Rattle.event_lines.proofs.Formed.{whole_there}

-- ---- the first item that gives something

-- none before it gives anything
pub first_there : (A : Type 0) (give : (ℕ → Data → Option A)) (values : List Value) (n : ℕ)
    (value : Value) (x : A)
    → ((k : ℕ) (one : Value) → k < n → slice_get values k ≡ Some one → give k (view one) ≡ None)
    → slice_get values n ≡ Some value → give n (view value) ≡ Some x
    → first_given give (items_view values) ≡ Some x
first_there A give [] n value x before there gives = absurd cc
first_there A give (first ∷ values) zero value x before there gives =
    let same : first ≡ value = cc in
    ap (λ o. first_of o (first_given (λ number. give (suc number)) (items_view values)))
    (ap (λ one. give 0 (view one)) same ∙ gives)
first_there A give (first ∷ values) (suc n) value x before there gives =
    ap (λ o. first_of o (first_given (λ number. give (suc number)) (items_view values)))
    (before 0 first (omega arith) refl)
    ∙ first_there A (λ number. give (suc number)) values n value x
    (λ k one less is. before (suc k) one (omega (arith, less)) is) there gives

-- none gives anything
pub none_there : (A : Type 0) (give : (ℕ → Data → Option A)) (values : List Value)
    → ((k : ℕ) (one : Value) → k < length values → slice_get values k ≡ Some one
    → give k (view one) ≡ None)
    → first_given give (items_view values) ≡ None
none_there A give [] before = refl
none_there A give (first ∷ values) before =
    ap (λ o. first_of o (first_given (λ number. give (suc number)) (items_view values)))
    (before 0 first (omega arith) refl)
    ∙ none_there A (λ number. give (suc number)) values
    (λ k one less is. before (suc k) one (omega (arith, less)) is)

-- none up to here gives anything
pub none_so_far : (A : Type 0) (give : (ℕ → Data → Option A)) (values : List Value) (n : ℕ)
    (value : Value) → slice_get values n ≡ Some value → give n (view value) ≡ None
    → ((k : ℕ) (one : Value) → k < n → slice_get values k ≡ Some one → give k (view one) ≡ None)
    → (k : ℕ) (one : Value) → k < n + 1 → slice_get values k ≡ Some one → give k (view one) ≡ None
none_so_far A give values n value here none before k one within there = elim (cases_lt k n) [
  | inl less ↦ before k one less there
  | inr past ↦ (
      let same : k ≡ n = omega (arith, within, past) in
      let is = same_Some one value (sym there ∙ ap (λ i. slice_get values i) same ∙ here) in
      ap (λ i. give i (view one)) same ∙ ap (λ v. give n (view v)) is ∙ none)
]

pub no_text_is : (number : ℕ) (d : Data) (text : Bool) → text ≡ is_some (as_str d) → text ≡ false
    → no_text number d ≡ Some number
no_text_is number d text is none = ap (λ b. if b then None else Some number) (sym is ∙ none)

-- ---- texts

-- two steps are done exactly if neither has a misfit
both_fit : {A B : Type 0} (a : Option A) (f : (A → Option B)) (one other : Option MisfitValue)
    → is_some a ≡ is_none one → ((x : A) → is_some (f x) ≡ is_none other)
    → is_some (a >>= f) ≡ is_none (first_of one other)
both_fit None f None other is behind = absurd cc
both_fit None f (Some misfit) other is behind = refl
both_fit (Some x) f None other is behind = behind x
both_fit (Some x) f (Some misfit) other is behind = absurd cc

more : {A M : Type 0} (x : A) (xs : Option (List A)) (misfit : Option M)
    → is_some xs ≡ is_none misfit → is_some (xs >>= (λ later. Some (x ∷ later))) ≡ is_none misfit
more x None misfit is = is
more x (Some xs) misfit is = is

one_more : (A M : Type 0) (one : Option A) (xs : Option (List A)) (misfit later : Option M)
    → is_some one ≡ is_none misfit → is_some xs ≡ is_none later
    → is_some (one >>= (λ x. xs >>= (λ others. Some (x ∷ others)))) ≡ is_none (first_of misfit later)
one_more A M None xs None later is rest = absurd cc
one_more A M None xs (Some misfit) later is rest = refl
one_more A M (Some x) xs (Some misfit) later is rest = absurd cc
one_more A M (Some x) xs None later is rest = more x xs later rest

-- each item is read exactly if none gives a misfit
items_fit : (A M : Type 0) (read : (Data → Option A)) (give : (ℕ → Data → Option M)) (items : Items)
    → ((number : ℕ) (d : Data) → is_some (read d) ≡ is_none (give number d))
    → is_some (items_at read items) ≡ is_none (first_given give items)
items_fit A M read give no_items each = refl
items_fit A M read give (item d ds) each =
    one_more A M (read d) (items_at read ds) (give 0 d)
    (first_given (λ number. give (suc number)) ds) (each 0 d)
    (items_fit A M read (λ number. give (suc number)) ds (λ number. each (suc number)))

made : {A B : Type 0} (o : Option A) (f : (A → B)) → is_some (o >>= (λ x. Some (f x))) ≡ is_some o
made None f = refl
made (Some x) f = refl

text_fits : (number : ℕ) (text : Option (List ℕ))
    → is_some text ≡ is_none (if is_some text then None else Some number)
text_fits number None = refl
text_fits number (Some text) = refl

entry_fits : {B : Type 0} (found : Option ℕ) (f : (ℕ → B))
    → is_none found ≡ is_none (found >>= (λ x. Some (f x)))
entry_fits None f = refl
entry_fits (Some x) f = refl

acl_fits : (option : Option ℕ) (d : Data)
    → is_some (texts_at (codes "acl") d) ≡ is_none (acl_misfit option d)
unfolding texts_at list_at
acl_fits option d = of (get (codes "acl") d)
  where
    entries : (v : Option Items)
        → is_some (v >>= (λ items. items_at as_str items >>= (λ texts. Some (Some texts))))
        ≡ is_none (entry_misfit option v)
    entries None = refl
    entries (Some items) =
        made (items_at as_str items) (λ texts. Some texts)
        ∙ items_fit (List ℕ) ℕ as_str no_text items (λ number one. text_fits number (as_str one))
        ∙ entry_fits (first_given no_text items) _

    of : (v : Option Data)
        → is_some (if is_none v then Some None else ((v >>= (λ x. as_array x))
        >>= (λ items. items_at as_str items >>= (λ texts. Some (Some texts)))))
        ≡ is_none (v >>= (λ acl. entry_misfit option (as_array acl)))
    of None = refl
    of (Some x) = entries (as_array x)

sequence_fits : (option : Option ℕ) (d : Data)
    → is_some (maybe_text_at (codes "sequence") d) ≡ is_none (sequence_misfit option d)
unfolding maybe_text_at text_at
sequence_fits option d = of (get (codes "sequence") d)
  where
    text : (t : Option (List ℕ)) → is_some (t >>= (λ read. Some (Some read)))
        ≡ is_none (if is_some t then None else misfit option None (named (codes "sequence") Text))
    text None = refl
    text (Some read) = refl

    of : (v : Option Data)
        → is_some (if is_none v then Some None
        else ((v >>= (λ x. as_str x)) >>= (λ read. Some (Some read))))
        ≡ is_none (v >>= (λ sequence. if is_some (as_str sequence) then None
        else misfit option None (named (codes "sequence") Text)))
    of None = refl
    of (Some x) = text (as_str x)

texts_fit : (option : Option ℕ) (weight : ℕ) (d : Data)
    → is_some (option_with weight d) ≡ is_none (texts_misfit option d)
unfolding option_with
texts_fit option weight d =
    both_fit (texts_at (codes "acl") d) _ (acl_misfit option d) (sequence_misfit option d)
    (acl_fits option d)
    (λ acl. made (maybe_text_at (codes "sequence") d) _ ∙ sequence_fits option d)

-- ---- options

weighed : (w : Option ℕ) (has : Bool) (read : (ℕ → Option OptionTexts))
    (texts lacks : Option MisfitValue) → is_some w ≡ has
    → ((weight : ℕ) → is_some (read weight) ≡ is_none texts) → is_some lacks ≡ true
    → is_some (w >>= read) ≡ is_none (if has then texts else lacks)
weighed None true read texts lacks is behind there = absurd cc
weighed None false read texts None is behind there = absurd cc
weighed None false read texts (Some misfit) is behind there = refl
weighed (Some weight) true read texts lacks is behind there = behind weight
weighed (Some weight) false read texts lacks is behind there = absurd cc

option_fits : (number : ℕ) (d : Data) → is_some (option_in d) ≡ is_none (option_misfit number d)
unfolding option_in
option_fits number d =
    weighed (long_at (codes "weight") d) (has_member (named (codes "weight") long_form) d)
    (λ weight. option_with weight d) (texts_misfit (Some number) d)
    (misfit (Some number) None (named (codes "weight") long_form))
    (whole_there 0 4294967295 (codes "weight") d) (λ weight. texts_fit (Some number) weight d) refl

pub policies_are_formed : (d : Data) → is_some (options_in d) ≡ is_none (policy_misfit d)
unfolding policy_misfit one_option listed_options list_at
policies_are_formed d =
    of (get (codes "options") d) (get (codes "acl") d) (get (codes "sequence") d)
  where
    listed : (items : Option Items)
        → is_some (items >>= (λ found. items_at option_in found)) ≡ is_none (list_misfit items)
    listed None = refl
    listed (Some items) = items_fit OptionTexts MisfitValue option_in option_misfit items option_fits

    of : (options acl sequence : Option Data)
        → is_some (if is_none options then (option_with 0 d >>= (λ option. Some (option ∷ [])))
        else if is_none acl then (if is_none sequence then ((options >>= (λ x. as_array x))
        >>= (λ items. items_at option_in items)) else None) else None)
        ≡ is_none (if is_none options then texts_misfit None d
        else if is_some acl then misfit None None (named (codes "acl") Absent)
        else if is_some sequence then misfit None None (named (codes "sequence") Absent)
        else (options >>= (λ found. list_misfit (as_array found))))
    of None acl sequence = made (option_with 0 d) _ ∙ texts_fit None 0 d
    of (Some x) (Some one) sequence = refl
    of (Some x) None (Some one) = refl
    of (Some x) None None = listed (as_array x)
