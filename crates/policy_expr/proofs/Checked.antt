-- Judging the texts of a list finds what reading it answers.
use Rattle.std.proofs.Common.{is_none, slice_get, subst, ◌≡◌, ℕ, zero, suc, ◌+◌, ◌<◌, ◌≤◌, Bool, true, false, not, ◌||◌, cond, List, [], ◌∷◌, ◌++◌, length, Option, None, Some, Result, Ok, Err, refl, sym, ◌∙◌, ap, arith, length-append, map, get_or, drop, drop-cons}
use Rattle.std.specs.Prelude.{nat_lt, reverse, if◌then◌else◌, IsOk, IsSome}
use Rattle.std.specs.Result.{result_map_both}
use Rattle.std.specs.List.{list_any}
use Rattle.std.proofs.lemmas.List.{append-nil, length-map, at_drop_all, reverse-append}
use Rattle.std.proofs.lemmas.List.Folds.{list_any-append}
use Rattle.std.proofs.lemmas.Bool.{ltb-false, lt-ltb, le-ltb, not-false}
use Rattle.refusal.specs.Refusal.{◌>>=◌, each, unless, Judges}
use Rattle.policy_expr.specs.declared.hop.HopPred.{HopPred}
use Rattle.policy_expr.specs.declared.acl.AclEntry.{AclEntry}
use Rattle.policy_expr.specs.declared.fault.PolicyFault.{PolicyFault}
use Rattle.policy_expr.specs.Acl.{entry_at, is_bare, default_fault, acl_fault, acl_at, IsAcl}
use Rattle.policy_expr.specs.declared.fault.PolicyFault.TheVariants as faults
use Rattle.policy_expr.proofs.Front.{with_front, front_none, front_later}

-- ---- judging as the loop does

-- whether the entry of a text is bare
abbrev bare_at : List ℕ → Result Bool PolicyFault
bare_at text = result_map_both is_bare (λ (fault : PolicyFault). fault) (entry_at text)

-- the first refusal of a list of so many entries, of which these texts are left: whether the last
-- one so far is bare, and whether one before it is
abbrev pub check_on : ℕ → Bool → Bool → List (List ℕ) → Result (Unit {0}) PolicyFault
check_on count last other [] =
    if nat_lt 256 count then Err faults.TooLarge
    else if not last then Err faults.NoDefault
    else if other then Err faults.AfterDefault
    else Ok tt
check_on count last other (text ∷ texts) = do
  bare ← bare_at text
  check_on count bare (other || last) texts

-- ---- the entries of a list, the last one first

abbrev last_is_bare : List AclEntry → Bool
last_is_bare [] = false
last_is_bare (last ∷ others) = is_bare last

abbrev another_is_bare : List AclEntry → Bool
another_is_bare [] = false
another_is_bare (last ∷ others) = list_any is_bare others

-- one is bare, the last or another
one_is_bare : (turned : List AclEntry) → list_any is_bare turned ≡ (another_is_bare turned || last_is_bare turned)
one_is_bare [] = refl
one_is_bare (last ∷ others) = by (is_bare last) (list_any is_bare others)
  where
    by : (x p : Bool) → (x || p) ≡ (p || x)
    by true true = refl
    by true false = refl
    by false true = refl
    by false false = refl

-- ---- the same of a list from the first entry on, and of one with an entry more at its end

abbrev ends_bare : List AclEntry → Bool
ends_bare entries = last_is_bare (reverse entries)

abbrev is_bare_before_last : List AclEntry → Bool
is_bare_before_last entries = another_is_bare (reverse entries)

ends_pushed : (front : List AclEntry) (e : AclEntry) → ends_bare (front ++ e ∷ []) ≡ is_bare e
ends_pushed front e = ap last_is_bare (reverse-append front (e ∷ []))

others_pushed : (front : List AclEntry) (e : AclEntry) → is_bare_before_last (front ++ e ∷ []) ≡ list_any is_bare (reverse front)
others_pushed front e = ap another_is_bare (reverse-append front (e ∷ []))

before_pushed : (front : List AclEntry) (e : AclEntry) → is_bare_before_last (front ++ e ∷ []) ≡ (is_bare_before_last front || ends_bare front)
before_pushed front e = others_pushed front e ∙ one_is_bare (reverse front)

-- ---- the rules, by both

abbrev by_flags : Bool → Bool → Option PolicyFault
by_flags last other = if not last then Some faults.NoDefault else if other then Some faults.AfterDefault else None

default_is : (turned : List AclEntry) → default_fault turned ≡ by_flags (last_is_bare turned) (another_is_bare turned)
default_is [] = refl
default_is (last ∷ others) = refl

abbrev fault_by : List AclEntry → Option PolicyFault
fault_by entries = if nat_lt 256 (length entries) then Some faults.TooLarge else by_flags (ends_bare entries) (is_bare_before_last entries)

fault_is : (entries : List AclEntry) → acl_fault entries ≡ fault_by entries
unfolding acl_fault
fault_is entries = rw (default_is (reverse entries)) refl

-- ---- what is answered, without its value

abbrev forgotten : {A : Type 0} → Result A PolicyFault → Result (Unit {0}) PolicyFault
forgotten (Ok x) = Ok tt
forgotten (Err fault) = Err fault

abbrev judged : List AclEntry → Result (List AclEntry) PolicyFault
judged entries = unless (acl_fault entries) entries

by_rules : (big last other : Bool) (entries : List AclEntry) (n : ℕ) → nat_lt 256 n ≡ big → ends_bare entries ≡ last → is_bare_before_last entries ≡ other → n ≡ length entries
    → check_on n last other [] ≡ forgotten (judged entries)
by_rules true last other entries n b l o e = rw (fault_is entries, b, (ap (nat_lt 256) (sym e) ∙ b)) refl
by_rules false false other entries n b l o e = rw (fault_is entries, b, (ap (nat_lt 256) (sym e) ∙ b), l) refl
by_rules false true true entries n b l o e = rw (fault_is entries, b, (ap (nat_lt 256) (sym e) ∙ b), l, o) refl
by_rules false true false entries n b l o e = rw (fault_is entries, b, (ap (nat_lt 256) (sym e) ∙ b), l, o) refl

check_step : (front : List AclEntry) (n : ℕ) (text : List ℕ) (texts : List (List ℕ)) (read : Result AclEntry PolicyFault) → entry_at text ≡ read
    → ((e : AclEntry) → check_on n (ends_bare (front ++ e ∷ [])) (is_bare_before_last (front ++ e ∷ [])) texts ≡ forgotten (with_front (front ++ e ∷ []) (each entry_at texts) >>= judged))
    → check_on n (ends_bare front) (is_bare_before_last front) (text ∷ texts) ≡ forgotten (with_front front (each entry_at (text ∷ texts)) >>= judged)
check_step front n text texts (Err fault) is rest = rw is refl
check_step front n text texts (Ok e) is rest =
    rw (is, ← front_later front e (each entry_at texts), ← ends_pushed front e, ← before_pushed front e) (rest e)

check_from : (texts : List (List ℕ)) (front : List AclEntry) (n : ℕ) → n ≡ length front + length texts
    → check_on n (ends_bare front) (is_bare_before_last front) texts ≡ forgotten (with_front front (each entry_at texts) >>= judged)
check_from [] front n count =
    rw (append-nil front) (by_rules (nat_lt 256 n) (ends_bare front) (is_bare_before_last front) front n refl refl refl (omega arith))
check_from (text ∷ texts) front n count = check_step front n text texts (entry_at text) refl
    (λ e. check_from texts (front ++ e ∷ []) n (let l = length-append front (e ∷ []) in omega (arith, count, l)))

pub check_is_acl : (texts : List (List ℕ)) → check_on (length texts) false false texts ≡ forgotten (acl_at texts)
check_is_acl texts = check_from texts [] (length texts) (omega arith) ∙ ap (λ (r : Result (List AclEntry) PolicyFault). forgotten (r >>= judged)) (front_none (each entry_at texts))

judges_forgotten : {A : Type 0} (r : Result A PolicyFault) (told : Result (Unit {0}) PolicyFault) → told ≡ forgotten r → Judges told r
judges_forgotten (Ok x) told e = rw e refl
judges_forgotten (Err fault) told e = rw e refl

-- what the loop has judged so far, of so many texts of which these are left
abbrev pub Stands : List (List ℕ) → Bool → Bool → List (List ℕ) → Type 0
Stands texts last other rest = check_on (length texts) false false texts ≡ check_on (length texts) last other rest

-- what is told is what is judged of the list
pub judged_as : (texts rest : List (List ℕ)) (last other : Bool) (told : Result (Unit {0}) PolicyFault)
    → Stands texts last other rest → told ≡ check_on (length texts) last other rest → Judges told (acl_at texts)
judged_as texts rest last other told stands e =
    judges_forgotten (acl_at texts) told (e ∙ sym stands ∙ check_is_acl texts)

module _ {X : Type 0} (text_of : X → List ℕ) (items : List X) (i : ℕ) (last other : Bool) (stands : Stands (map text_of items) last other (map text_of (drop i items))) where
  -- the next text can't be read
  pub judged_refused : (item : X) (fault : PolicyFault) → i < length items → item ≡ get_or items i item
      → result_map_both is_bare (λ (fault : PolicyFault). fault) (entry_at (text_of item)) ≡ Err fault → Judges (Err fault) (acl_at (map text_of items))
  judged_refused item fault within is read =
      let rest : drop i items ≡ item ∷ drop (suc i) items = drop-cons items i item within ∙ ap (λ (x : X). x ∷ drop (suc i) items) (sym is) in
      let next : check_on (length (map text_of items)) last other (text_of item ∷ map text_of (drop (suc i) items)) ≡ Err fault = rw read refl in
      judged_as (map text_of items) _ last other (Err fault) stands
      (sym (ap (λ (xs : List X). check_on (length (map text_of items)) last other (map text_of xs)) rest ∙ next))

  -- no text is left
  pub judged_end : (told : Result (Unit {0}) PolicyFault) → length items ≤ i
      → ((n : ℕ) → n ≡ length items → check_on n last other [] ≡ told) → Judges told (acl_at (map text_of items))
  judged_end told past ends =
      judged_as (map text_of items) _ last other told stands
      (sym (at_drop_all (λ rest. check_on (length (map text_of items)) last other (map text_of rest)) items i past
      ∙ ends (length (map text_of items)) (length-map items text_of)))

pub too_large : (n : ℕ) (last other : Bool) → 256 < n → check_on n last other [] ≡ Err faults.TooLarge
too_large n last other many = rw (lt-ltb 256 n many) refl

pub no_default : (n : ℕ) (last other : Bool) → n ≤ 256 → last ≡ false → check_on n last other [] ≡ Err faults.NoDefault
no_default n last other few none = rw (le-ltb 256 n few, none) refl

pub after_default : (n : ℕ) (last other : Bool) → n ≤ 256 → last ≡ true → other ≡ true → check_on n last other [] ≡ Err faults.AfterDefault
after_default n last other few one two = rw (le-ltb 256 n few, one, two) refl

pub no_fault : (n : ℕ) (last other : Bool) → n ≤ 256 → last ≡ true → other ≡ false → check_on n last other [] ≡ Ok tt
no_fault n last other few one two = rw (le-ltb 256 n few, one, two) refl

-- ---- the rules of a list in plain facts

guard : (b : Bool) (f : PolicyFault) (r : Option PolicyFault) → cond b (Some f) r ≡ None → (b ≡ false) × (r ≡ None)
guard true f r e = absurd cc
guard false f r e = (refl, e)

none_of : (pred : Option HopPred) → is_none pred ≡ true → pred ≡ None
none_of None e = refl
none_of (Some p) e = absurd (let f : false ≡ true = e in cc)

some_of : (pred : Option HopPred) → is_none pred ≡ false → IsSome pred
some_of None e = absurd (let f : true ≡ false = e in cc)
some_of (Some p) e = refl

or_neither : (a b : Bool) → (a || b) ≡ false → (a ≡ false) × (b ≡ false)
or_neither true b e = absurd (let f : true ≡ false = e in cc)
or_neither false b e = (refl, e)

-- the entries before the last, and the last
record Parted (entries : List AclEntry) : Type 0 where
  front : List AclEntry
  last : AclEntry
  parts : entries ≡ front ++ last ∷ []
  bare : last.pred ≡ None
  others : (k : ℕ) (entry : AclEntry) → slice_get front k ≡ Some entry → IsSome entry.pred

-- it matters not from which end a list is looked through
any_turned : (xs : List AclEntry) → list_any is_bare (reverse xs) ≡ list_any is_bare xs
any_turned [] = refl
any_turned (x ∷ xs) =
    ap (list_any is_bare) (reverse-append (x ∷ []) xs) ∙ list_any-append is_bare (reverse xs) (x ∷ [])
    ∙ ap (λ (b : Bool). b || (is_bare x || false)) (any_turned xs) ∙ by (list_any is_bare xs) (is_bare x)
  where
    by : (p x : Bool) → (p || (x || false)) ≡ (x || p)
    by true true = refl
    by true false = refl
    by false true = refl
    by false false = refl

none_bare : (xs : List AclEntry) → list_any is_bare xs ≡ false → (k : ℕ) (entry : AclEntry) → slice_get xs k ≡ Some entry → IsSome entry.pred
none_bare [] none k entry is = absurd (let f : None ≡ Some entry = is in cc)
none_bare (x ∷ xs) none zero entry is =
    let both = or_neither (is_bare x) (list_any is_bare xs) none in
    let same : x ≡ entry = cc in
    subst (λ (y : AclEntry). IsSome y.pred) same (some_of x.pred both.0)
none_bare (x ∷ xs) none (suc k) entry is = none_bare xs (or_neither (is_bare x) (list_any is_bare xs) none).1 k entry is

-- the entries before the last, and the last
last_of : (x : AclEntry) (later : List AclEntry) → (front : List AclEntry) × (e : AclEntry) × (x ∷ later ≡ front ++ e ∷ [])
last_of x [] = ([], x, refl)
last_of x (y ∷ later) = let rest = last_of y later in (x ∷ rest.0, rest.1, ap (λ (xs : List AclEntry). x ∷ xs) rest.2)

parted : (entries : List AclEntry) → ends_bare entries ≡ true → is_bare_before_last entries ≡ false → Parted entries
parted [] ends before = absurd (let f : false ≡ true = ends in cc)
parted (x ∷ later) ends before =
    let is = last_of x later in
    let ends' : is_bare is.1 ≡ true = sym (ends_pushed is.0 is.1) ∙ sym (ap ends_bare is.2) ∙ ends in
    let before' : list_any is_bare is.0 ≡ false =
    sym (any_turned is.0) ∙ sym (others_pushed is.0 is.1) ∙ sym (ap is_bare_before_last is.2) ∙ before in
    record { front = is.0; last = is.1; parts = is.2; bare = none_of is.1.pred ends'; others = none_bare is.0 before' }

pub plain_of : (entries : List AclEntry) → acl_fault entries ≡ None → IsAcl entries
plain_of entries none =
    let a = guard (nat_lt 256 (length entries)) _ _ (sym (fault_is entries) ∙ none) in
    let b = guard (not (ends_bare entries)) _ _ a.1 in
    let c = guard (is_bare_before_last entries) _ _ b.1 in
    let p = parted entries (not-false _ b.0) c.0 in
    record { few = ltb-false 256 (length entries) a.0; front = p.front; last = p.last; parts = p.parts; bare = p.bare; others = p.others }

bare_of : (pred : Option HopPred) → IsSome pred → is_none pred ≡ false
bare_of None some = absurd (let f : false ≡ true = some in cc)
bare_of (Some p) some = refl

none_before : (front : List AclEntry) → ((k : ℕ) (entry : AclEntry) → slice_get front k ≡ Some entry → IsSome entry.pred)
    → list_any is_bare front ≡ false
none_before [] others = refl
none_before (x ∷ later) others = rw (bare_of x.pred (others zero x refl)) (none_before later (λ k entry there. others (suc k) entry there))

pub fault_of_plain : (entries : List AclEntry) → IsAcl entries → acl_fault entries ≡ None
fault_of_plain entries acl =
    let few : nat_lt 256 (length entries) ≡ false = le-ltb 256 (length entries) acl.few in
    let ends : ends_bare entries ≡ true = ap ends_bare acl.parts ∙ ends_pushed acl.front acl.last ∙ ap is_none acl.bare in
    let before : is_bare_before_last entries ≡ false = ap is_bare_before_last acl.parts ∙ others_pushed acl.front acl.last ∙ any_turned acl.front ∙ none_before acl.front acl.others in
    fault_is entries ∙ rw (few, ends, before) refl

-- what was judged to be a list is one once it is read
passed : (fault : Option PolicyFault) (entries : List AclEntry) → IsOk (unless fault entries) → fault ≡ None
passed None entries ok = refl
passed (Some fault) entries ok = absurd (let f : false ≡ true = ok in cc)

pub read_judged : (texts : List (List ℕ)) (entries : List AclEntry) → IsOk (acl_at texts) → each entry_at texts ≡ Ok entries → IsAcl entries × (acl_at texts ≡ Ok entries)
read_judged texts entries ok read =
    let ok' : IsOk (judged entries) = rw read at ok in
    let none = passed (acl_fault entries) entries ok' in
    (plain_of entries none, rw (read, none) refl)
