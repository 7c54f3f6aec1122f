-- What is read as an entry of an access control list is spelled so, and what is spelled so is read.
use Rattle.std.proofs.Common.{◌≡◌, ℕ, ◌<◌, Bool, true, false, eqb, List, [], ◌∷◌, ◌++◌, length, None, Ok, refl, sym, ◌∙◌, ap, subst, arith, append_assoc, length-append, inl, inr}
use Rattle.std.specs.Prelude.{reverse}
use Rattle.std.specs.List.{All, AllPass, AllZip, AllByRecursion}
use Rattle.std.proofs.lemmas.Bool.{cases_Bool, eqb-true}
use Rattle.std.proofs.lemmas.List.{append-nil, reverse-append, reverse-reverse, length-reverse}
use Rattle.std.proofs.lemmas.List.Elements.{All-nil, All-cons, All-head, All-tail, All-same, All-append, All-push, All-from_recursion}
use Rattle.isd_as.specs.Address.{dash}
use Rattle.separators.specs.Blanks.{is_blank, after_blanks, trimmed_text}
use Rattle.refusal.specs.Refusal.{◌>>=◌, each, unless}
use Rattle.refusal.proofs.Steps.{bind_ok, ok_is, unless_ok}
use Rattle.policy_expr.specs.declared.hop.HopPred.{HopPred}
use Rattle.policy_expr.specs.declared.hop.Interfaces.{Interfaces}
use Rattle.policy_expr.specs.declared.acl.AclEntry.{AclEntry}
use Rattle.policy_expr.specs.Predicate.{hash, comma, predicate_at, SpellsInterfaces, one, two, SpellsPredicate, isd_alone, address, with_interfaces}
use Rattle.policy_expr.specs.Acl.{signed_entry, signed_at, trimmed_at, entry_at, acl_fault, acl_at, IsAcl}
use Rattle.policy_expr.specs.Entries.{sign_of, SpellsEntry, bare, with_predicate}
use Rattle.policy_expr.proofs.Cutting.{mark_is_no_blank}
use Rattle.policy_expr.proofs.Texts.{IsMark, all_append, marks_of_plain}
use Rattle.policy_expr.proofs.Spelling.{plain_isd, plain_address, predicate_spelled, predicate_read}
use Rattle.policy_expr.proofs.Checked.{plain_of, fault_of_plain}

abbrev AreBlank : List ℕ → Type 0
AreBlank text = AllPass is_blank text

-- ---- blanks at the ends of a text

all_turned : (P : ℕ → Type 0) (xs : List ℕ) → All P xs → All P (reverse xs)
all_turned P [] all = all
all_turned P (x ∷ xs) all =
    All-same P (reverse (x ∷ xs)) (reverse xs ++ x ∷ []) (reverse-append (x ∷ []) xs)
    (All-push P (reverse xs) x (all_turned P xs (All-tail P x xs all)) (All-head P x xs all))

-- the blanks in front play no part
behind_blanks : (blanks rest : List ℕ) → AreBlank blanks → after_blanks (blanks ++ rest) ≡ after_blanks rest
unfolding after_blanks
behind_blanks [] rest all = refl
behind_blanks (b ∷ blanks) rest all =
    rw (All-head (λ c. is_blank c ≡ true) b blanks all)
    (behind_blanks blanks rest (All-tail (λ c. is_blank c ≡ true) b blanks all))

none_in_front : (b : ℕ) (rest : List ℕ) → is_blank b ≡ false → after_blanks (b ∷ rest) ≡ b ∷ rest
unfolding after_blanks
none_in_front b rest other = rw other refl

-- the blanks in front of a text
record Fronted (text : List ℕ) : Type 0 where
  blanks : List ℕ
  all : AreBlank blanks
  parts : text ≡ blanks ++ after_blanks text

fronted_step : (b : ℕ) (rest : List ℕ) (test : Bool) → is_blank b ≡ test → Fronted rest → Fronted (b ∷ rest)
unfolding after_blanks
fronted_step b rest true blank later = record {
  blanks = b ∷ later.blanks;
  all = All-cons (λ c. is_blank c ≡ true) b later.blanks blank later.all;
  parts = rw blank (ap (λ (t : List ℕ). b ∷ t) later.parts);
}
fronted_step b rest false other later =
    record { blanks = []; all = All-nil (λ c. is_blank c ≡ true); parts = sym (none_in_front b rest other) }

fronted : (text : List ℕ) → Fronted text
unfolding after_blanks
fronted [] = record { blanks = []; all = All-nil (λ c. is_blank c ≡ true); parts = refl }
fronted (b ∷ rest) = fronted_step b rest (is_blank b) refl (fronted rest)

-- the blanks at both ends of a text
record Ended (text : List ℕ) : Type 0 where
  before : List ℕ
  behind : List ℕ
  blank_before : AreBlank before
  blank_behind : AreBlank behind
  parts : text ≡ before ++ (trimmed_text text ++ behind)

ended : (text : List ℕ) → Ended text
ended text =
    let front = fronted text in
    let back = fronted (reverse (after_blanks text)) in
    record {
      before = front.blanks;
      behind = reverse back.blanks;
      blank_before = front.all;
      blank_behind = all_turned (λ c. is_blank c ≡ true) back.blanks back.all;
      parts = front.parts ∙ ap (λ (t : List ℕ). front.blanks ++ t)
          (sym (reverse-reverse (after_blanks text)) ∙ ap reverse back.parts
          ∙ reverse-append back.blanks (after_blanks (reverse (after_blanks text))));
    }

-- a text that neither begins nor ends with a blank is what trimming leaves of it with blanks round it
trimmed_is : (before behind more : List ℕ) (c : ℕ) → AreBlank before → AreBlank behind → is_blank c ≡ false
    → after_blanks (reverse (c ∷ more)) ≡ reverse (c ∷ more) → trimmed_text (before ++ (c ∷ (more ++ behind))) ≡ c ∷ more
trimmed_is before behind more c blank_before blank_behind first last =
    ap (λ (t : List ℕ). reverse (after_blanks (reverse t)))
    (behind_blanks before (c ∷ (more ++ behind)) blank_before ∙ none_in_front c (more ++ behind) first)
    ∙ ap (λ (t : List ℕ). reverse (after_blanks t)) (reverse-append (c ∷ more) behind)
    ∙ ap reverse (behind_blanks (reverse behind) (reverse (c ∷ more)) (all_turned (λ b. is_blank b ≡ true) behind blank_behind) ∙ last)
    ∙ reverse-reverse (c ∷ more)

-- ---- what is read is spelled

signed_spelled : (allows : Bool) (before rest behind core : List ℕ) (entry : AclEntry) → AreBlank before → AreBlank behind
    → after_blanks rest ≡ core → signed_at allows core ≡ Ok entry → SpellsEntry (before ++ (sign_of allows ∷ (rest ++ behind))) entry
signed_spelled allows before rest behind [] entry blank_before blank_behind is read =
    let front = fronted rest in
    let all : rest ≡ front.blanks = front.parts ∙ ap (λ (t : List ℕ). front.blanks ++ t) is ∙ append-nil front.blanks in
    let blank_rest : AreBlank rest = All-same (λ c. is_blank c ≡ true) rest front.blanks all front.all in
    let blank_behind' : AreBlank (rest ++ behind) = All-append (λ c. is_blank c ≡ true) rest behind blank_rest blank_behind in
    subst (SpellsEntry (before ++ (sign_of allows ∷ (rest ++ behind)))) (ok_is (record { allows = allows; pred = None }) entry read)
    (bare allows before (rest ++ behind) blank_before blank_behind')
signed_spelled allows before rest behind (b ∷ more) entry blank_before blank_behind is read =
    let front = fronted rest in
    let pred = bind_ok (predicate_at (b ∷ more)) (λ (p : HopPred). Ok (signed_entry allows p)) entry read in
    let parts : rest ++ behind ≡ front.blanks ++ ((b ∷ more) ++ behind) =
    ap (λ (t : List ℕ). t ++ behind) (front.parts ∙ ap (λ (t : List ℕ). front.blanks ++ t) is) ∙ append_assoc front.blanks (b ∷ more) behind in
    let spelled = with_predicate allows before front.blanks (b ∷ more) behind pred.0 blank_before front.all blank_behind (predicate_spelled (b ∷ more) pred.0 pred.1) in
    subst (λ (t : List ℕ). SpellsEntry (before ++ (sign_of allows ∷ t)) entry) (sym parts)
    (subst (SpellsEntry (before ++ (sign_of allows ∷ (front.blanks ++ ((b ∷ more) ++ behind))))) (ok_is (signed_entry allows pred.0) entry pred.2) spelled)

core_spelled : (before core behind : List ℕ) (entry : AclEntry) → AreBlank before → AreBlank behind
    → trimmed_at core ≡ Ok entry → SpellsEntry (before ++ (core ++ behind)) entry
core_spelled before [] behind entry blank_before blank_behind read = absurd cc
core_spelled before (sign ∷ rest) behind entry blank_before blank_behind read = elim (cases_Bool (eqb sign 43)) [
  | inl plus ↦ subst (λ (s : ℕ). SpellsEntry (before ++ (s ∷ (rest ++ behind))) entry) (sym (eqb-true sign 43 plus))
      (signed_spelled true before rest behind (after_blanks rest) entry blank_before blank_behind refl (rw plus at read))
  | inr no_plus ↦ elim (cases_Bool (eqb sign 45)) [
    | inl minus ↦ subst (λ (s : ℕ). SpellsEntry (before ++ (s ∷ (rest ++ behind))) entry) (sym (eqb-true sign 45 minus))
        (signed_spelled false before rest behind (after_blanks rest) entry blank_before blank_behind refl (rw (no_plus, minus) at read))
    | inr no_minus ↦ absurd (let refused = rw (no_plus, no_minus) at read in cc)
  ]
]

pub entry_spelled : (text : List ℕ) (entry : AclEntry) → entry_at text ≡ Ok entry → SpellsEntry text entry
unfolding entry_at
entry_spelled text entry read =
    let ends = ended text in
    subst (λ (t : List ℕ). SpellsEntry t entry) (sym ends.parts)
    (core_spelled ends.before (trimmed_text text) ends.behind entry ends.blank_before ends.blank_behind read)

-- ---- what is spelled is read

sign_is_no_blank : (allows : Bool) → is_blank (sign_of allows) ≡ false
sign_is_no_blank true = refl
sign_is_no_blank false = refl

-- behind its sign
read_behind_sign : (allows : Bool) (rest : List ℕ) → trimmed_at (sign_of allows ∷ rest) ≡ signed_at allows (after_blanks rest)
read_behind_sign true rest = refl
read_behind_sign false rest = refl

-- the text of a predicate is marks
interfaces_marks : (text : List ℕ) (i : Interfaces) → SpellsInterfaces text i → AllByRecursion IsMark text
interfaces_marks _ _ (one text n s) = marks_of_plain text (plain_isd text n s)
interfaces_marks _ _ (two front back m n s t) =
    all_append IsMark front (comma ∷ back) (marks_of_plain front (plain_isd front m s)) (refl, marks_of_plain back (plain_isd back n t))

predicate_marks : (text : List ℕ) (pred : HopPred) → SpellsPredicate text pred → AllByRecursion IsMark text
predicate_marks _ _ (isd_alone text n s) = marks_of_plain text (plain_isd text n s)
predicate_marks _ _ (address text n s) = marks_of_plain text (plain_address text n s)
predicate_marks _ _ (with_interfaces front back n ways s t) =
    all_append IsMark front (hash ∷ back) (marks_of_plain front (plain_address front n s)) (refl, interfaces_marks back ways t)

-- which is not empty
predicate_some : (text : List ℕ) (pred : HopPred) → SpellsPredicate text pred → 0 < length text
predicate_some _ _ (isd_alone text n s) = s.written.numeral.0
predicate_some _ _ (address text n s) = (let l = ap length s.parts in omega (arith, l, length-append s.front (dash ∷ s.back)))
predicate_some _ _ (with_interfaces front back n ways s t) = omega (arith, length-append front (hash ∷ back))

marks_in_front : (marks rest : List ℕ) → All IsMark marks → 0 < length marks → after_blanks (marks ++ rest) ≡ marks ++ rest
marks_in_front [] rest all some = absurd (omega arith)
marks_in_front (b ∷ marks) rest all some = none_in_front b (marks ++ rest) (mark_is_no_blank b (All-head IsMark b marks all))

read_predicate : (allows : Bool) (text : List ℕ) (pred : HopPred) → SpellsPredicate text pred → 0 < length text
    → signed_at allows text ≡ Ok (signed_entry allows pred)
read_predicate allows [] pred s some = absurd (omega arith)
read_predicate allows (b ∷ more) pred s some = rw (predicate_read (b ∷ more) pred s) refl

read_signed : (allows : Bool) (before between text behind : List ℕ) (pred : HopPred) → AreBlank before → AreBlank between → AreBlank behind
    → SpellsPredicate text pred → All IsMark text → 0 < length text
    → trimmed_at (trimmed_text (before ++ (sign_of allows ∷ (between ++ (text ++ behind))))) ≡ Ok (signed_entry allows pred)
read_signed allows before between text behind pred blank_before blank_between blank_behind s marks some =
    let sign = sign_of allows in
    let turned_marks = all_turned IsMark text marks in
    let turned_some : 0 < length (reverse text) = (let l = length-reverse text in omega (arith, some)) in
    let last : after_blanks (reverse (sign ∷ (between ++ text))) ≡ reverse (sign ∷ (between ++ text)) =
    subst (λ (t : List ℕ). after_blanks t ≡ t) (sym (reverse-append (sign ∷ between) text))
    (marks_in_front (reverse text) (reverse (sign ∷ between)) turned_marks turned_some) in
    let alone : after_blanks text ≡ text = subst (λ (t : List ℕ). after_blanks t ≡ t) (append-nil text) (marks_in_front text [] marks some) in
    ap (λ (t : List ℕ). trimmed_at (trimmed_text (before ++ (sign ∷ t)))) (sym (append_assoc between text behind))
    ∙ ap trimmed_at (trimmed_is before behind (between ++ text) sign blank_before blank_behind (sign_is_no_blank allows) last)
    ∙ read_behind_sign allows (between ++ text)
    ∙ ap (signed_at allows) (behind_blanks between text blank_between ∙ alone)
    ∙ read_predicate allows text pred s some

pub entry_read : (text : List ℕ) (entry : AclEntry) → SpellsEntry text entry → entry_at text ≡ Ok entry
unfolding entry_at after_blanks
entry_read _ _ (bare allows before behind blank_before blank_behind) =
    let other = sign_is_no_blank allows in
    ap trimmed_at (trimmed_is before behind [] (sign_of allows) blank_before blank_behind other (none_in_front (sign_of allows) [] other))
    ∙ read_behind_sign allows []
entry_read _ _ (with_predicate allows before between text behind pred blank_before blank_between blank_behind s) =
    read_signed allows before between text behind pred blank_before blank_between blank_behind s
    (All-from_recursion IsMark text (predicate_marks text pred s)) (predicate_some text pred s)

-- ---- the same of a list

each_spelled : (texts : List (List ℕ)) (entries : List AclEntry) → each entry_at texts ≡ Ok entries → AllZip SpellsEntry texts entries
each_spelled [] [] read = tt
each_spelled [] (entry ∷ entries) read = absurd cc
each_spelled (text ∷ texts) entries read =
    let first = bind_ok (entry_at text) (λ (e : AclEntry). each entry_at texts >>= λ es. Ok (e ∷ es)) entries read in
    let later = bind_ok (each entry_at texts) (λ (es : List AclEntry). Ok (first.0 ∷ es)) entries first.2 in
    subst (AllZip SpellsEntry (text ∷ texts)) (ok_is (first.0 ∷ later.0) entries later.2)
    (entry_spelled text first.0 first.1, each_spelled texts later.0 later.1)

each_read : (texts : List (List ℕ)) (entries : List AclEntry) → AllZip SpellsEntry texts entries → each entry_at texts ≡ Ok entries
each_read [] [] all = refl
each_read [] (entry ∷ entries) all = absurd all
each_read (text ∷ texts) [] all = absurd all
each_read (text ∷ texts) (entry ∷ entries) all = rw (entry_read text entry all.0, each_read texts entries all.1) refl

pub list_spelled : (texts : List (List ℕ)) (entries : List AclEntry) → acl_at texts ≡ Ok entries → AllZip SpellsEntry texts entries × IsAcl entries
list_spelled texts entries read =
    let found = bind_ok (each entry_at texts) (λ (es : List AclEntry). unless (acl_fault es) es) entries read in
    let kept = unless_ok (acl_fault found.0) found.0 entries found.2 in
    subst (λ (es : List AclEntry). AllZip SpellsEntry texts es × IsAcl es) kept.1 (each_spelled texts found.0 found.1, plain_of found.0 kept.0)

pub list_read : (texts : List (List ℕ)) (entries : List AclEntry) → AllZip SpellsEntry texts entries → IsAcl entries → acl_at texts ≡ Ok entries
list_read texts entries all acl = rw (each_read texts entries all, fault_of_plain entries acl) refl
