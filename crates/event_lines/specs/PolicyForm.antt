-- The form of a request's policy: its first part that has not its form.
use Rattle.std.specs.Prelude.{ℕ, if◌then◌else◌, codes, Option, Some, None, is_some}
use Rattle.std.specs.Option.{is_none}
use Rattle.serde_json.specs.Data.{Data, Items}
use Rattle.serde_json.specs.Find.{get, as_array, as_str}
use Rattle.refusal.specs.Optional.{◌>>=◌}
use Rattle.event_lines.specs.declared.members.MemberForm.TheVariants.{Absent, Text, Texts}
use Rattle.event_lines.specs.declared.members.MemberForm.TheVariants as forms
use Rattle.event_lines.specs.declared.policy_misfit.PolicyMisfit.{PolicyMisfit}
use Rattle.event_lines.specs.Members.{MemberValue, first_given, first_of, has_member, long_form, member_value, named, no_text}

-- a part of a policy that has not its form: the numbers of its option and of its entry of `acl`, if
-- it is of one; and the member, with the form that it, or the entry, is to have
pub record MisfitValue : Type 0 where
  pub option : Option ℕ
  pub entry : Option ℕ
  pub member : MemberValue

abbrev pub misfit_value : PolicyMisfit → MisfitValue
misfit_value part =
    record { option = part.option; entry = part.entry; member = member_value part.member }

abbrev pub misfit : (option entry : Option ℕ) → MemberValue → Option MisfitValue
misfit option entry member = Some (record { option = option; entry = entry; member = member })

-- in an access list, which is a list of texts
abbrev pub entry_misfit : (option : Option ℕ) → Option Items → Option MisfitValue
entry_misfit option None = misfit option None (named (codes "acl") Texts)
entry_misfit option (Some entries) = do
  entry ← first_given no_text entries
  misfit option (Some entry) (named (codes "acl") Text)

abbrev pub acl_misfit : (option : Option ℕ) → Data → Option MisfitValue
acl_misfit option d = do
  acl ← get (codes "acl") d
  entry_misfit option (as_array acl)

abbrev pub sequence_misfit : (option : Option ℕ) → Data → Option MisfitValue
sequence_misfit option d = do
  sequence ← get (codes "sequence") d
  if is_some (as_str sequence) then None else misfit option None (named (codes "sequence") Text)

-- in the texts of a policy, each of which may be absent
abbrev pub texts_misfit : (option : Option ℕ) → Data → Option MisfitValue
texts_misfit option d = first_of (acl_misfit option d) (sequence_misfit option d)

-- in the option of this number, which has a weight
abbrev pub option_misfit : (number : ℕ) → Data → Option MisfitValue
option_misfit number d =
    if has_member (named (codes "weight") long_form) d then texts_misfit (Some number) d
    else misfit (Some number) None (named (codes "weight") long_form)

-- in a list of options
abbrev pub list_misfit : Option Items → Option MisfitValue
list_misfit None = misfit None None (named (codes "options") forms.Items)
list_misfit (Some options) = first_given option_misfit options

-- in the policy of a request: its texts; or its list of options, beside which there is no text
unfoldable pub policy_misfit : Data → Option MisfitValue
policy_misfit d =
    if is_none (get (codes "options") d) then texts_misfit None d
    else if is_some (get (codes "acl") d) then misfit None None (named (codes "acl") Absent)
    else if is_some (get (codes "sequence") d)
    then misfit None None (named (codes "sequence") Absent)
    else (do
      options ← get (codes "options") d
      list_misfit (as_array options))
