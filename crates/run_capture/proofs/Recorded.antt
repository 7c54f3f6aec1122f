-- What was recorded of the lines so far, and how a capture ends.
use Rattle.std.proofs.Common.{◌≡◌, ℕ, List, [], ◌∷◌, ◌++◌, false, Option, Some, None, Result, Ok, Err, refl, sym, ap, ◌∙◌, append_assoc, append-nil, subst, inl, inr}
use Rattle.std.specs.Prelude.{flat_map}
use Rattle.std.proofs.lemmas.Grind.{flat_map-append}
use Rattle.scion_topology.specs.declared.fault.TopologyFault.{TopologyFault}
use Rattle.scion_topology.specs.Network.{Network}
use Rattle.scion_topology.specs.Topology.{network_in}
use Rattle.network_core.specs.Value.{NetValue}
use Rattle.event_lines.specs.declared.accepted.AcceptedLines.TheVariants.{All}
use Rattle.event_lines.specs.Answers.{Stage, Unbegun, Open, Closed}
use Rattle.event_lines.specs.Replies.{Opens, RepliesTo, stage_of}
use Rattle.event_lines.specs.Run.{AreLines, IsLineCut, all_lines, has_line_end, line_end}
use Rattle.event_lines.proofs.Lines.{grown, none_read}
use Rattle.event_lines.proofs.Heard.{front_more, line_read}
use Rattle.scion_packet.specs.Value.{PacketInfoValue}
use Rattle.wire_packets.specs.Datagram.{Datagram}
use Rattle.wire_packets.specs.File.{datagram_record, file_head, file_of}
use Rattle.run_capture.specs.Lines.{HasNoTopology, HaveDatagrams, IsCapture, IsFirstLine, line_datagrams}

-- the lines before `left` were answered, and their datagrams are in the file
pub record SoFar (info : PacketInfoValue) (input left : List ℕ) (stage : Stage) (file : List ℕ)
    : Type 0 where
  pub front : List ℕ
  pub lines : List (List ℕ)
  pub datagrams : List Datagram
  pub whole : input ≡ front ++ left
  pub are : AreLines front lines []
  pub have : HaveDatagrams info Unbegun lines stage datagrams
  pub says : file ≡ file_of datagrams

pub begun : (info : PacketInfoValue) (input : List ℕ) (stage : Stage) (file : List ℕ)
    → stage ≡ Unbegun → file ≡ file_head → SoFar info input input stage file
begun info input stage file unbegun head = record {
  front = [];
  lines = [];
  datagrams = [];
  whole = refl;
  are = none_read [] refl;
  have = (unbegun, refl);
  says = head;
}

-- ---- one line more

have_more : (info : PacketInfoValue) (old : Stage) (lines : List (List ℕ)) (stage next : Stage)
    (datagrams : List Datagram) (line text : List ℕ)
    → HaveDatagrams info old lines stage datagrams → RepliesTo All stage line text next
    → HaveDatagrams info old (lines ++ line ∷ []) next
    (datagrams ++ line_datagrams info stage line next)
have_more info old [] stage next datagrams line text (same, none) replies = (
  text,
  next,
  [],
  (
    subst (λ s. RepliesTo All s line text next) same replies,
    (
      ap (λ d. d ++ line_datagrams info stage line next) none
          ∙ ap (λ s. line_datagrams info s line next) same
          ∙ sym (append-nil (line_datagrams info old line next)),
      (refl, refl),
    ),
  ),
)
have_more info old (first ∷ lines) stage next datagrams line text (said, mid, later, (says, (are, rest))) replies = (
  said,
  mid,
  later ++ line_datagrams info stage line next,
  (
    says,
    (
      ap (λ d. d ++ line_datagrams info stage line next) are
          ∙ append_assoc (line_datagrams info old first mid) later
          (line_datagrams info stage line next),
      have_more info mid lines stage next later line text rest replies,
    ),
  ),
)

file_grows : (one other : List Datagram)
    → file_of one ++ flat_map datagram_record other ≡ file_of (one ++ other)
file_grows one other =
    append_assoc file_head (flat_map datagram_record one) (flat_map datagram_record other)
    ∙ ap (λ l. file_head ++ l) (sym (flat_map-append datagram_record one other))

pub more : (info : PacketInfoValue) (input left line behind text : List ℕ) (stage next : Stage)
    (file after : List ℕ) → SoFar info input left stage file → IsLineCut left line behind
    → RepliesTo All stage line text next
    → after ≡ file ++ flat_map datagram_record (line_datagrams info stage line next)
    → SoFar info input behind next after
more info input left line behind text stage next file after far cut replies grows = record {
  front = far.front ++ (line ++ line_end ∷ []);
  lines = far.lines ++ line ∷ [];
  datagrams = far.datagrams ++ line_datagrams info stage line next;
  whole = far.whole ∙ ap (λ l. far.front ++ l) cut.whole ∙ front_more far.front line behind;
  are = line_read line far.are cut.one;
  have = have_more info Unbegun far.lines stage next far.datagrams line text far.have replies;
  says = grows
      ∙ ap (λ f. f ++ flat_map datagram_record (line_datagrams info stage line next)) far.says
      ∙ file_grows far.datagrams (line_datagrams info stage line next);
}

-- ---- the end

abbrev IsOpen : Stage → Type 0
IsOpen (Open net) = Unit {0}
IsOpen stage = ⊥

whole_lines : (info : PacketInfoValue) (lines : List (List ℕ)) (stage : Stage) (net : NetValue)
    (datagrams : List Datagram) → HaveDatagrams info Unbegun lines stage datagrams
    → stage ≡ Open net → all_lines lines [] ≡ lines
whole_lines info [] stage net datagrams (same, none) is =
    absurd (subst IsOpen (sym is ∙ same) tt)
whole_lines info (line ∷ lines) stage net datagrams have is = refl

-- no bytes follow the last end of a line
pub done : (info : PacketInfoValue) (input left : List ℕ) (stage : Stage) (file : List ℕ)
    → SoFar info input left stage file → left ≡ [] → (net : NetValue) × (stage ≡ Open net)
    → IsCapture info input file
done info input left stage file far none (net, is) = record {
  lines = far.lines;
  rest = [];
  net = net;
  datagrams = far.datagrams;
  are = subst (λ l. AreLines l far.lines [])
      (sym (far.whole ∙ ap (λ l. far.front ++ l) none ∙ append-nil far.front)) far.are;
  have = subst (λ ls. HaveDatagrams info Unbegun ls (Open net) far.datagrams)
      (sym (whole_lines info far.lines stage net far.datagrams far.have is))
      (subst (λ s. HaveDatagrams info Unbegun far.lines s far.datagrams) is far.have);
  says = far.says;
}

-- a run that has begun does not go back
abbrev pub IsBegun : Stage → Type 0
IsBegun Unbegun = ⊥
IsBegun stage = Unit {0}

opened : (topology : Result Network TopologyFault) (text : List ℕ) (stage : Stage)
    → Opens topology text stage → IsBegun stage
opened (Ok network) text stage (said, (is, same)) = subst IsBegun (sym same) tt
opened (Err fault) text stage (said, same) = subst IsBegun (sym same) tt

pub begun_after : (old : Stage) (line text : List ℕ) (next : Stage) → RepliesTo All old line text next
    → IsBegun next
begun_after Unbegun line text next says = opened (network_in line) text next says
begun_after (Open net) line text next (new, (says, same)) = subst IsBegun (sym same) tt
begun_after Closed line text next says = absurd says

stays : (info : PacketInfoValue) (old : Stage) (lines : List (List ℕ)) (datagrams : List Datagram)
    → HaveDatagrams info old lines Unbegun datagrams → IsBegun old → ⊥
stays info old [] datagrams (same, none) is = subst IsBegun (sym same) is
stays info old (line ∷ lines) datagrams (text, mid, later, (says, (are, rest))) is =
    stays info mid lines later rest (begun_after old line text mid says)

none_so_far : (info : PacketInfoValue) (lines : List (List ℕ)) (datagrams : List Datagram)
    → HaveDatagrams info Unbegun lines Unbegun datagrams → lines ≡ []
none_so_far info [] datagrams have = refl
none_so_far info (line ∷ lines) datagrams (text, mid, later, (says, (are, rest))) =
    absurd (stays info mid lines later rest (begun_after Unbegun line text mid says))

lines_with : (lines : List (List ℕ)) (left : List ℕ) → (left ≡ [] → lines ≡ [])
    → all_lines lines left ≡ lines ++ left ∷ []
lines_with [] left last = refl
lines_with (line ∷ lines) [] last = ap (λ ls. all_lines ls []) (last refl)
    ∙ ap (λ ls. ls ++ [] ∷ []) (sym (last refl))
lines_with (line ∷ lines) (b ∷ left) last = refl

-- the last line has no end
pub ended : (info : PacketInfoValue) (input left text : List ℕ) (stage next : Stage)
    (file after : List ℕ) → SoFar info input left stage file → has_line_end left ≡ false
    → (left ≡ [] → stage ≡ Unbegun) → RepliesTo All stage left text next
    → (net : NetValue) × (next ≡ Open net)
    → after ≡ file ++ flat_map datagram_record (line_datagrams info stage left next)
    → IsCapture info input after
ended info input left text stage next file after far one last replies (net, is) grows =
    let none : left ≡ [] → far.lines ≡ [] = λ empty. none_so_far info far.lines far.datagrams
    (subst (λ s. HaveDatagrams info Unbegun far.lines s far.datagrams) (last empty) far.have) in
    let have = have_more info Unbegun far.lines stage next far.datagrams left text far.have replies in
    record {
      lines = far.lines;
      rest = left;
      net = net;
      datagrams = far.datagrams ++ line_datagrams info stage left next;
      are = subst (λ l. AreLines l far.lines left) (sym far.whole) (grown left far.are one);
      have = subst (λ ls. HaveDatagrams info Unbegun ls (Open net) (far.datagrams ++ line_datagrams info stage left next))
          (sym (lines_with far.lines left none))
          (subst (λ s. HaveDatagrams info Unbegun (far.lines ++ left ∷ []) s (far.datagrams ++ line_datagrams info stage left next)) is have);
      says = grows
          ∙ ap (λ f. f ++ flat_map datagram_record (line_datagrams info stage left next)) far.says
          ∙ file_grows far.datagrams (line_datagrams info stage left next);
    }

-- ---- no topology

refused : (topology : Result Network TopologyFault) (text : List ℕ) → Opens topology text Closed
    → (fault : TopologyFault) × (topology ≡ Err fault)
refused (Ok network) text (said, (is, same)) = absurd (subst IsOpen (sym same) tt)
refused (Err fault) text (said, same) = (fault, refl)

first_of : (info : PacketInfoValue) (input left : List ℕ) (file : List ℕ)
    → SoFar info input left Unbegun file → input ≡ left
first_of info input left file far =
    let none = none_so_far info far.lines far.datagrams far.have in
    let empty : far.front ≡ [] = (subst (λ ls. AreLines far.front ls []) none far.are).whole in
    far.whole ∙ ap (λ l. l ++ left) empty

pub no_topology : (info : PacketInfoValue) (input left line text : List ℕ) (stage : Stage)
    (file : List ℕ) → SoFar info input left stage file → IsFirstLine left line
    → RepliesTo All stage line text Closed → HasNoTopology input
no_topology info input left line text Unbegun file far first says =
    let (fault, is) = refused (network_in line) text says in
    (line, fault, (subst (λ l. IsFirstLine l line) (sym (first_of info input left file far)) first, is))
no_topology info input left line text (Open net) file far first (new, (says, same)) =
    absurd (subst IsOpen (sym same) tt)
no_topology info input left line text Closed file far first says = absurd says

-- a line that is cut off is the first of what is left; and so are bytes without an end
pub cut_first : (left line behind : List ℕ) → IsLineCut left line behind → IsFirstLine left line
cut_first left line behind cut = (cut.one, inr (behind, cut.whole))

pub rest_first : (left : List ℕ) → has_line_end left ≡ false → IsFirstLine left left
rest_first left one = (one, inl refl)

-- a run that has begun, and whose first line was no refused topology, has a network
pub is_open : (net : Option NetValue) → IsBegun (stage_of net)
    → (one : NetValue) × (stage_of net ≡ Open one)
is_open None is = absurd is
is_open (Some one) is = (one, refl)
