-- What is found in one line.
use Rattle.std.proofs.Common.{rules, ◌≡◌, ℕ, ◌+◌, ◌==◌, ◌||◌, not, Bool, true, false, List, [], ◌∷◌, ◌++◌, length, map, Option, Some, None, Result, Ok, Err, is_some, refl, sym, ap, subst, ◌∙◌, append_assoc, append-nil}
use Rattle.std.proofs.Math.Dec.{eqb-suc-zero}
use denote.Ref.{Bor}
use Rattle.std.specs.Prelude.{All, IfOk, IfSome, OnOk, codes, flat_map, if◌then◌else◌}
use Rattle.std.specs.String.{string_bytes}
use Rattle.std.proofs.lemmas.Option.{same_Some}
use Rattle.std.proofs.lemmas.Grind.{flat_map-append}
use Rattle.std.proofs.lemmas.List.Elements.{All-cons, All-nil}
use Rattle.std.proofs.lemmas.List.Folds.{flat_map-map}
use Rattle.serde_json.specs.Data.{Data}
use Rattle.refusal.specs.Optional.{◌>>=◌}
use Rattle.json_fields.specs.Fields.{document_in}
use Rattle.event_lines.specs.Refusals.{Tells, coded, is_refusal}
use Rattle.event_lines.specs.Run.{has_line_end}
use Rattle.line_faults.specs.declared.finding.FindingForm.{FindingForm}
use Rattle.line_faults.specs.declared.said.Said.{Said}
use Rattle.line_faults.specs.Finding.{FindingValue, all_written, has_any, written}
use Rattle.line_faults.specs.Explanation.{AreReasons, IsAbout, IsReason, IsTold, IsWarning, Names}
use Rattle.line_faults.specs.Misfits.{Meant, meant_in, refused_misfit}
use Rattle.line_faults.specs.Subjects.{plain_subject, refused_subject, subject_in, subject_of}
use Rattle.line_faults.specs.inner.Adding.{Adds, AddsOne, AreFound, one_line, warning_of}
use Rattle.line_faults.specs.inner.Meaning.{IsStill, both_said, meant_by, member_said, wanted_said}
use Rattle.line_faults.specs.inner.Telling.{Tally, TellsReply}

-- findings behind findings
two_texts : (form : FindingForm) (one other : List FindingValue)
    → all_written form (one ++ other) ≡ all_written form one ++ all_written form other
two_texts form one other = flat_map-append (λ finding. written form finding) one other

-- ---- reasons

-- a refusal is told exactly where the reply is one
pub told_if_refused : (reply : List ℕ) (refusal : Option (ℕ × Bor (List ℕ))) → Tells reply (coded refusal)
    → is_some refusal ≡ is_refusal reply
told_if_refused reply None tells = sym tells
told_if_refused reply (Some one) tells = sym tells.0

pub no_reason : (form : FindingForm) (refused : Bool) (number : ℕ) (line reply text : List ℕ) → refused ≡ false
    → Adds form (AreReasons refused number line reply) text text
no_reason form true number line reply text is = absurd (search (rules, is))
no_reason form false number line reply text is = ([], (refl, sym (append-nil text)))

pub one_reason : (form : FindingForm) (refused : Bool) (number : ℕ) (line reply before after : List ℕ) → refused ≡ true
    → AddsOne form (IsReason number line reply) before after
    → Adds form (AreReasons refused number line reply) before after
one_reason form false number line reply before after is one = absurd (search (rules, is))
one_reason form true number line reply before after is one = (
  one.0 ∷ [],
  (
    (one.0, (one.1.0, refl)),
    one.1.1 ∙ ap (λ t. before ++ t) (sym (append-nil (written form one.0))),
  ),
)

-- what is meant is what is said
both_are : (member wanted : Option (List ℕ)) (meant : Meant) → both_said member wanted ≡ Some meant
    → (member ≡ Some meant.member) × (wanted ≡ Some meant.wanted)
both_are None wanted meant is = absurd cc
both_are (Some member) None meant is = absurd cc
both_are (Some member) (Some wanted) meant is =
    let same = same_Some (record { member = member; wanted = wanted }) meant is in
    (ap (λ (m : Meant). Some m.member) same, ap (λ (m : Meant). Some m.wanted) same)

-- a finding names what is meant, if it is that of what is said
pub names_meant : (meant : Option Meant) (said : Said) (finding : FindingValue)
    → IfSome meant (λ one. meant_by said ≡ Some one) → finding.member ≡ member_said said
    → finding.wanted ≡ wanted_said said → IfSome meant (Names finding)
names_meant None said finding is member wanted = tt
names_meant (Some one) said finding is member wanted =
    let both = both_are (member_said said) (wanted_said said) one is in
    (member ∙ both.0, wanted ∙ both.1)

-- what is meant stays so where neither the member nor what is wanted is said anew
meant_still : (meant : Option Meant) (old told : Said) → IsStill old told
    → IfSome meant (λ one. meant_by old ≡ Some one) → IfSome meant (λ one. meant_by told ≡ Some one)
meant_still None old told still is = tt
meant_still (Some one) old told still is =
    ap (λ o. both_said o (wanted_said told)) still.0 ∙ ap (λ o. both_said (member_said old) o) still.1 ∙ is

pub meant_on : {E : Type 0} (result : Result Said E) (meant : Option Meant) (old : Said)
    → IfOk result (IsStill old) → IfSome meant (λ one. meant_by old ≡ Some one)
    → IfOk result (λ told. IfSome meant (λ one. meant_by told ≡ Some one))
meant_on (Ok told) meant old still is = meant_still meant old told still is
meant_on (Err error) meant old still is = tt

-- what is meant in a line is what is meant in its value
meant_of_value : (number : ℕ) (refusal : ℕ) (value : Option Data) (said : Said)
    → IfSome value (λ d. IfSome (refused_misfit (number == 1) refusal d) (λ one. meant_by said ≡ Some one))
    → IfSome (value >>= refused_misfit (number == 1) refusal) (λ one. meant_by said ≡ Some one)
meant_of_value number refusal None said there = tt
meant_of_value number refusal (Some d) said there = there

pub meant_there : (number : ℕ) (line : List ℕ) (refusal : ℕ) (value : Option Data) (said : Said)
    → value ≡ document_in line
    → IfSome value (λ d. IfSome (refused_misfit (number == 1) refusal d) (λ one. meant_by said ≡ Some one))
    → IfSome (meant_in number line refusal) (λ one. meant_by said ≡ Some one)
meant_there number line refusal value said is there =
    subst (λ (v : Option Data). IfSome (v >>= refused_misfit (number == 1) refusal) (λ one. meant_by said ≡ Some one))
    is (meant_of_value number refusal value said there)

-- and so is the member
subject_still : (name : Option (List ℕ)) (old told : Said) → IsStill old told
    → IfSome name (λ one. member_said old ≡ Some one) → IfSome name (λ one. member_said told ≡ Some one)
subject_still None old told still is = tt
subject_still (Some one) old told still is = still.0 ∙ is

pub subject_on : {E : Type 0} (result : Result Said E) (name : Option (List ℕ)) (old : Said)
    → IfOk result (IsStill old) → IfSome name (λ one. member_said old ≡ Some one)
    → IfOk result (λ told. IfSome name (λ one. member_said told ≡ Some one))
subject_on (Ok told) name old still is = subject_still name old told still is
subject_on (Err error) name old still is = tt

subject_of_value : (number : ℕ) (refusal : ℕ) (value : Option Data) (said : Said)
    → IfSome value (λ d. IfSome (refused_subject (number == 1) refusal d) (λ one. member_said said ≡ Some one))
    → IfSome (value >>= refused_subject (number == 1) refusal) (λ one. member_said said ≡ Some one)
subject_of_value number refusal None said there = tt
subject_of_value number refusal (Some d) said there = there

pub subject_there : (number : ℕ) (line : List ℕ) (refusal : ℕ) (value : Option Data) (said : Said)
    → value ≡ document_in line
    → IfSome value (λ d. IfSome (refused_subject (number == 1) refusal d) (λ one. member_said said ≡ Some one))
    → IfSome (subject_in number line refusal) (λ one. member_said said ≡ Some one)
subject_there number line refusal value said is there =
    subst (λ (v : Option Data). IfSome (v >>= refused_subject (number == 1) refusal) (λ one. member_said said ≡ Some one))
    is (subject_of_value number refusal value said there)

-- a finding is about it, if it is that of what is said
pub about_subject : (name : Option (List ℕ)) (said : Said) (finding : FindingValue)
    → IfSome name (λ one. member_said said ≡ Some one) → finding.member ≡ member_said said → IfSome name (IsAbout finding)
about_subject None said finding is member = tt
about_subject (Some one) said finding is member = member ∙ is

-- a line that has not the form of one has no such member
no_subject : (word : Option (List ℕ)) (number : ℕ) (said : Said) → number ≡ 140
    → IfSome (word >>= λ w. subject_of w number) (λ one. member_said said ≡ Some one)
unfolding subject_of plain_subject
no_subject None number said is = tt
no_subject (Some word) number said is =
    subst (λ (n : ℕ). IfSome (subject_of word n) (λ one. member_said said ≡ Some one)) (sym is) tt

pub no_subject_on : {A E : Type 0} (result : Result A E) (word : Option (List ℕ)) (number : ℕ) (said : Said) → number ≡ 140
    → OnOk result (IfSome (word >>= λ w. subject_of w number) (λ one. member_said said ≡ Some one))
no_subject_on (Ok done) word number said is = no_subject word number said is
no_subject_on (Err error) word number said is = tt

-- ---- warnings

-- a text on one line is on one line
one_by_end : (text : List ℕ) (ends : Bool) → has_line_end text ≡ ends
    → has_line_end (if ends then codes "..." else text) ≡ false
one_by_end text true is = refl
one_by_end text false is = is

one_line_is_one : (text : List ℕ) → has_line_end (one_line text) ≡ false
one_line_is_one text = one_by_end text (has_line_end text) refl

is_warning : (number : ℕ) (said : Said) → IsWarning number (warning_of number said)
is_warning number said =
    record { line = refl; replied = refl; one = one_line_is_one (string_bytes said.text) }

are_warnings : (number : ℕ) (warnings : List Said)
    → All (IsWarning number) (map (warning_of number) warnings)
are_warnings number [] = All-nil (IsWarning number)
are_warnings number (one ∷ warnings) =
    All-cons (IsWarning number) (warning_of number one) (map (warning_of number) warnings)
    (is_warning number one) (are_warnings number warnings)

-- whether there are any
any_warning : (number : ℕ) (warnings : List Said)
    → not (length warnings == 0) ≡ has_any (map (warning_of number) warnings)
any_warning number [] = refl
any_warning number (one ∷ warnings) = ap not (eqb-suc-zero (length warnings))

-- ---- both

any_of : (refused : Bool) (number : ℕ) (line reply : List ℕ) (reasons warnings : List FindingValue) (none : Bool)
    → AreReasons refused number line reply reasons → none ≡ has_any warnings
    → (refused || none) ≡ has_any (reasons ++ warnings)
any_of true number line reply reasons warnings none are is = rw are.1.1 refl
any_of false number line reply reasons warnings none are is = rw are is

-- the reason, if there is one, and then the warnings
pub told : (form : FindingForm) (number : ℕ) (warnings : List Said) (line reply before text after : List ℕ)
    → Adds form (AreReasons (is_refusal reply) number line reply) before text
    → after ≡ text ++ flat_map (λ warning. written form (warning_of number warning)) warnings
    → Adds form (AreFound (is_refusal reply || not (length warnings == 0)) (IsTold number line reply)) before after
told form number warnings line reply before text after reasons warned =
    let strange = map (warning_of number) warnings in (
      reasons.0 ++ strange,
      (
        record {
          are = record {
            reasons = reasons.0;
            warnings = strange;
            refused = reasons.1.0;
            strange = are_warnings number warnings;
            are = refl;
          };
          any = any_of (is_refusal reply) number line reply reasons.0 strange (not (length warnings == 0)) reasons.1.0
              (any_warning number warnings);
        },
        warned ∙ ap (λ t. text ++ t) (sym (flat_map-map (written form) (warning_of number) warnings))
            ∙ ap (λ t. t ++ all_written form strange) reasons.1.1
            ∙ append_assoc before (all_written form reasons.0) (all_written form strange)
            ∙ ap (λ t. before ++ t) (sym (two_texts form reasons.0 strange)),
      ),
    )

-- ---- what is kept of it

pub noted : (old new : Tally) (line reply before text after : List ℕ) (found : Bool)
    → Adds old.form (AreFound found (IsTold (old.number + 1) line reply)) [] text → after ≡ before ++ text
    → new ≡ record { number = old.number + 1; found = old.found || found; form = old.form }
    → TellsReply (Ok tt) line reply old new (Some before) (Some after)
noted old new line reply before text after found adds kept is = (
  adds.0,
  (
    adds.1.0.are,
    (
      kept ∙ ap (λ t. before ++ t) adds.1.1,
      is ∙ ap (λ b. record { number = old.number + 1; found = old.found || b; form = old.form }) adds.1.0.any,
    ),
  ),
)
