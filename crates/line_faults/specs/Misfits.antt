-- Which member is meant in a line that has not the form of one: the first that is missing or not of
-- its form, and what is wanted there.
use Rattle.std.specs.Prelude.{ℕ, ◌==◌, codes, if◌then◌else◌, Bool, true, false, List, [], ◌∷◌, ◌++◌, Option, Some, None, is_some, option_map}
use Rattle.std.specs.Fmt.{decimal}
use Rattle.std.specs.Str.{bytes_eq}
use Rattle.serde_json.specs.Data.{Data}
use Rattle.serde_json.specs.Find.{as_object, at, get}
use Rattle.refusal.specs.Optional.{◌>>=◌}
use Rattle.json_fields.specs.Fields.{document_in, list_at, text_at}
use Rattle.event_lines.specs.declared.members.MemberForm.TheVariants.{Object}
use Rattle.event_lines.specs.Line.{line_words, members_of}
use Rattle.event_lines.specs.Members.{MemberValue, as_members, end_members, first_given, first_misfit, first_of, form_text, link_members, topology_members}
use Rattle.event_lines.specs.PolicyForm.{policy_misfit}

-- a member, by the way to it from its line, and what is wanted there
pub record Meant : Type 0 where
  pub member : List ℕ
  pub wanted : List ℕ

-- ---- objects

-- an object of a line: its name, and what stands before the names of its members
pub record Site : Type 0 where
  pub name : List ℕ
  pub front : List ℕ

-- the line itself
abbrev pub line_site : Site
line_site = record { name = codes "the line"; front = [] }

-- an object within the line
abbrev pub site_named : (name : List ℕ) → Site
site_named name = record { name = name; front = name ++ codes "." }

-- the item of this number in a list of the line
abbrev pub item_site : (list : List ℕ) (number : ℕ) → Site
item_site list number = site_named (list ++ (codes "[" ++ (decimal number ++ codes "]")))

-- the object of this name in another one
abbrev pub part_site : Site → (name : List ℕ) → Site
part_site site name = site_named (site.front ++ name)

-- a member of an object, with the form that it is to have
abbrev pub member_meant : Site → MemberValue → Meant
member_meant site member = record {
  member = site.front ++ member.name;
  wanted = form_text member.form;
}

-- the first of these members that an object does not have in its form, or that it is no object
abbrev pub object_misfit : Site → List MemberValue → Data → Option Meant
object_misfit site members d =
    if is_some (as_object d) then option_map (member_meant site) (first_misfit members d)
    else Some (record { member = site.name; wanted = form_text Object })

-- ---- lines after the first

-- the policy of a request that is meant: that of the option of a number, or its own
abbrev pub policy_site : Option ℕ → Site
policy_site None = line_site
policy_site (Some number) = item_site (codes "options") number

abbrev pub policy_of : Option ℕ → Data → Option Data
policy_of None d = Some d
policy_of (Some number) d = do
  options ← get (codes "options") d
  at number options

-- an entry of its access list, which is to have the form of a member
abbrev pub entry_meant : Site → MemberValue → (entry : ℕ) → Meant
entry_meant site member entry = record {
  member = site.front ++ (codes "acl[" ++ (decimal entry ++ codes "]"));
  wanted = form_text member.form;
}

-- a part of it: an entry, or a member
abbrev pub part_meant : Site → MemberValue → (entry : Option ℕ) → Data → Option Meant
part_meant site member (Some entry) d = Some (entry_meant site member entry)
part_meant site member None d = object_misfit site (member ∷ []) d

-- the first part of a request's policy that has not its form
abbrev pub policy_meant : Data → Option Meant
policy_meant d = do
  part ← policy_misfit d
  policy ← policy_of part.option d
  part_meant (policy_site part.option) part.member part.entry policy

-- words, one after another: `A, B and C`
abbrev pub words_behind : List (List ℕ) → List ℕ
words_behind [] = []
words_behind (word ∷ []) = codes " and " ++ word
words_behind (word ∷ next ∷ words) = codes ", " ++ (word ++ words_behind (next ∷ words))

abbrev pub words_text : List (List ℕ) → List ℕ
words_text [] = []
words_text (word ∷ words) = codes "one of " ++ (word ++ words_behind words)

-- a line without a word of lines
abbrev pub word_misfit : Data → Option Meant
word_misfit d =
    if is_some (as_object d)
    then Some (record { member = codes "do"; wanted = words_text line_words })
    else Some (record { member = line_site.name; wanted = form_text Object })

-- the policy of a line with this word, if it is a request
abbrev pub asked_misfit : (word : List ℕ) → Data → Option Meant
asked_misfit word d = if bytes_eq word (codes "ask") then policy_meant d else None

-- a line with this word, and the members that it is to have, if there is such a line
abbrev pub misfit_of_word : (word : List ℕ) → Option (List MemberValue) → Data → Option Meant
misfit_of_word word None d = word_misfit d
misfit_of_word word (Some members) d =
    first_of (asked_misfit word d) (object_misfit line_site members d)

-- a line with this word, if it has one
abbrev pub misfit_with : Option (List ℕ) → Data → Option Meant
misfit_with None d = word_misfit d
misfit_with (Some word) d = misfit_of_word word (members_of word) d

abbrev pub line_misfit : Data → Option Meant
line_misfit d = misfit_with (text_at (codes "do") d) d

-- ---- topologies

-- what the first item of a list of a topology has that has something
abbrev pub items_misfit : (list : List ℕ) → (Site → Data → Option Meant) → Data → Option Meant
items_misfit list misfit d = do
  items ← list_at list d
  first_given (λ number one. misfit (item_site list number) one) items

-- an AS
abbrev pub as_misfit : Site → Data → Option Meant
as_misfit site d = object_misfit site as_members d

-- an end of a link, `a` or `b`
abbrev pub end_misfit : Site → (name : List ℕ) → Data → Option Meant
end_misfit site name d = do
  one ← get name d
  object_misfit (part_site site name) end_members one

-- a link, and then its ends
abbrev pub link_misfit : Site → Data → Option Meant
link_misfit site d = first_of (object_misfit site link_members d)
    (first_of (end_misfit site (codes "a") d) (end_misfit site (codes "b") d))

-- a topology, then its ASes, and then its links
abbrev pub topology_misfit : Data → Option Meant
topology_misfit d = first_of (object_misfit line_site topology_members d)
    (first_of (items_misfit (codes "ases") as_misfit d)
    (items_misfit (codes "links") link_misfit d))

-- ---- refused lines

-- what is meant in a topology that is refused with this number, or in another line: 11 and 140 are
-- the refusals of those that have not their form
abbrev pub refused_misfit : (first : Bool) (refusal : ℕ) → Data → Option Meant
refused_misfit true refusal d = if refusal == 11 then topology_misfit d else None
refused_misfit false refusal d = if refusal == 140 then line_misfit d else None

-- what is meant in the line of this number, if it is JSON
abbrev pub meant_in : (number : ℕ) (line : List ℕ) (refusal : ℕ) → Option Meant
meant_in number line refusal = do
  d ← document_in line
  refused_misfit (number == 1) refusal d
