-- The texts of replies: to an event, to a question about a packet, and to a line without a value.
use Rattle.std.specs.Prelude.{ℕ, codes, List, [], ◌∷◌, ◌++◌, length, flat_map, Bool, true, false, Option, Some, None, option_map, slice_get}
use Rattle.std.specs.List.{join_by}
use Rattle.std.specs.Fmt.{decimal}
use Rattle.isd_as.specs.Address.{canonical}
use Rattle.policy_expr.specs.declared.hop.WalkHop.{WalkHop}
use Rattle.refusal.specs.Fault.{code_text}
use Rattle.path_verifier.specs.declared.kind.PieceKind.{PieceKind}
use Rattle.path_verifier.specs.declared.kind.PieceKind.TheVariants.{Up, Core, Down}
use Rattle.path_verifier.specs.Piece.{PieceValue, kind_of}
use Rattle.path_verifier.specs.Walk.{walk_of}
use Rattle.combinator.specs.Candidate.{PathValue}
use Rattle.combinator.specs.Answer.{AnswerValue}
use Rattle.router_step.specs.declared.outcome.Outcome.{Outcome}
use Rattle.router_step.specs.declared.outcome.Outcome.TheVariants.{ToLink, ToRouter, Deliver}
use Rattle.router_step.specs.Fault.{refusal_text}
use Rattle.forwarding.specs.declared.location.PacketLocation.{PacketLocation}
use Rattle.forwarding.specs.declared.location.PacketLocation.TheVariants as places
use Rattle.forwarding.specs.declared.reply.TurnReply.{TurnReply}
use Rattle.forwarding.specs.declared.reply.TurnReply.TheVariants as turns
use Rattle.network_core.specs.declared.fault.EventFault.{EventFault}
use Rattle.network_core.specs.declared.reply.Reply.{Reply}
use Rattle.network_core.specs.declared.reply.Reply.TheVariants.{Done, Begun, Registered, Swept, Answered, Sent, Turned, Refused}
use Rattle.network_core.specs.declared.fault.EventFault.TheVariants.{NoPacket}
use Rattle.network_core.specs.Fault.{code_and_name}
use Rattle.network_core.specs.Value.{NetValue, PacketValue}

-- a word and a number: `WORD N`
abbrev pub word_and_number : List ℕ → ℕ → List ℕ
word_and_number word number = word ++ (codes " " ++ decimal number)

-- ---- walks

-- a hop: `ISD-AS#IN,OUT`
abbrev pub hop_text : WalkHop → List ℕ
hop_text hop =
    canonical hop.ia ++ (codes "#" ++ (decimal hop.ingress ++ (codes "," ++ decimal hop.egress)))

-- the hops of a walk, separated by spaces
abbrev pub hops_text : List WalkHop → List ℕ
hops_text hops = join_by hop_text (codes " ") hops

-- the letter for a kind of piece
abbrev pub letter : PieceKind → List ℕ
letter Up = codes "U"
letter Core = codes "C"
letter Down = codes "D"

-- the kind of a path, as `UCD`: the letters for its pieces in order of travel
abbrev pub kinds_text : List PieceValue → List ℕ
kinds_text pieces = flat_map (λ piece. letter (kind_of piece)) pieces

-- the hops that a packet has passed, after a semicolon; nothing if there are none
abbrev pub passed_text : List WalkHop → List ℕ
passed_text [] = []
passed_text (hop ∷ hops) = codes "; " ++ hops_text (hop ∷ hops)

-- ---- routers

-- the outcome of a router's step
abbrev pub outcome_text : Outcome → List ℕ
outcome_text (ToLink interface) = word_and_number (codes "link") interface
outcome_text (ToRouter router) = word_and_number (codes "router") router
outcome_text Deliver = codes "delivered"

-- the reply of a turn
abbrev pub turn_text : TurnReply → List ℕ
turn_text (turns.Went outcome) = outcome_text outcome
turn_text (turns.Refused refusal) = codes "refused " ++ refusal_text refusal
turn_text turns.Still = codes "ok"

-- the place of a packet
abbrev pub place_text : PacketLocation → List ℕ
place_text (places.AtRouter stop) =
    codes "at " ++ (canonical stop.ia ++ (codes " " ++ decimal stop.router))
place_text places.Delivered = codes "delivered"
place_text (places.Refused ia router refusal) =
    codes "refused " ++ (canonical ia
    ++ (codes " " ++ (decimal router ++ (codes " " ++ refusal_text refusal))))
place_text places.Lost = codes "lost"

-- ---- events

-- the refusal of an event: `no CODE Name`
abbrev pub fault_text : EventFault → List ℕ
fault_text fault = codes "no " ++ code_text (code_and_name fault)

-- the walk of a path of an answer, after a semicolon
abbrev pub path_text : PathValue → List ℕ
path_text path = codes "; " ++ hops_text (walk_of path.pieces)

-- the paths of an answer, and the answer of this number
abbrev pub paths_of : Option AnswerValue → List PathValue
paths_of None = []
paths_of (Some answer) = answer.paths

abbrev pub answer_in : NetValue → ℕ → Option AnswerValue
answer_in net number = option_map (λ one. one.answer) (slice_get net.answers number)

-- the reply with an answer: `ask K N`, and its N paths
abbrev pub answer_text : ℕ → List PathValue → List ℕ
answer_text number paths =
    word_and_number (codes "ask") number
    ++ (codes " " ++ (decimal (length paths) ++ flat_map path_text paths))

-- whether the segment is new to the store
abbrev pub registration_text : Bool → List ℕ
registration_text true = codes "segment new"
registration_text false = codes "segment known"

-- the reply to an event, in the network after it
abbrev pub reply_text : NetValue → Reply → List ℕ
reply_text net Done = codes "ok"
reply_text net (Begun beacon) = word_and_number (codes "beacon") beacon
reply_text net (Registered is_new) = registration_text is_new
reply_text net (Swept count) = word_and_number (codes "swept") count
reply_text net (Answered number) = answer_text number (paths_of (answer_in net number))
reply_text net (Sent packet) = word_and_number (codes "packet") packet
reply_text net (Turned reply) = turn_text reply
reply_text net (Refused fault) = fault_text fault

-- the reply about a packet: its place and the hops that it has passed, if there is such a packet
abbrev pub packet_text : Option PacketValue → List ℕ
packet_text None = fault_text NoPacket
packet_text (Some one) = place_text one.packet.place ++ passed_text one.packet.passed

-- the reply to a line without a value
abbrev pub bad_line : List ℕ
bad_line = codes "no 140 BadLine"
