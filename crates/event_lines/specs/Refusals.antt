-- The refusals that replies tell: that of a line, that of an event, or that of a packet at its
-- turn.
use Rattle.std.specs.Prelude.{◌≡◌, ◌⊎◌, ℕ, ◌||◌, ◌&&◌, ◌==◌, if◌then◌else◌, not, codes, Bool, true, false, List, ◌++◌, nat_eq, Option, Some, None, option_map}
use denote.Ref.{Bor}
use Rattle.std.specs.List.{after_first, list_any, starts_with}
use Rattle.refusal.specs.Fault.{code_text, is_space, is_word}
use Rattle.router_step.specs.Fault as router
use Rattle.forwarding.specs.declared.reply.TurnReply.TheVariants as turns
use Rattle.network_core.specs.declared.fault.EventFault.TheVariants.{NoPacket}
use Rattle.network_core.specs.declared.reply.Reply.{Reply}
use Rattle.network_core.specs.declared.reply.Reply.TheVariants.{Refused, Turned}
use Rattle.network_core.specs.Fault as events
use Rattle.network_core.specs.Value.{PacketValue}

-- ---- in a reply

-- a hyphen, as in an address
abbrev pub hyphen : ℕ
hyphen = 45

-- whether a reply says that a router refused a packet at its turn; a reply to `show` names the
-- router's AS too
abbrev pub is_refused_turn : (reply : List ℕ) → Bool
is_refused_turn reply =
    starts_with nat_eq reply (codes "refused ") && not (list_any (λ b. b == hyphen) reply)

-- whether a reply says that its line is refused, or the packet whose turn it is
abbrev pub is_refusal : (reply : List ℕ) → Bool
is_refusal reply =
    starts_with nat_eq reply (codes "no ")
    || (starts_with nat_eq reply (codes "topology no ") || is_refused_turn reply)

-- the number and the name of the refusal in a reply, and what stands behind them: all behind the
-- first word, or behind two if the first is `topology`
abbrev pub refusal_text : (reply : List ℕ) → List ℕ
refusal_text reply =
    if starts_with nat_eq reply (codes "topology ")
    then after_first is_space (after_first is_space reply)
    else after_first is_space reply

-- the text is a number and a name, and may go on behind a blank
abbrev pub BeginsWith : (text : List ℕ) (coded : ℕ × List ℕ) → Type 0
BeginsWith text coded = (text ≡ code_text coded)
    ⊎ ((more : List ℕ) × (text ≡ code_text coded ++ (codes " " ++ more)))

-- the reply tells the refusal of this number and name, which is a word, or none
abbrev pub Tells : (reply : List ℕ) → Option (ℕ × List ℕ) → Type 0
Tells reply None = is_refusal reply ≡ false
Tells reply (Some coded) = (is_refusal reply ≡ true)
    × ((is_word coded.1 ≡ true) × BeginsWith (refusal_text reply) coded)

-- ---- of a value

-- the number and the name that code keeps of a refusal
abbrev pub coded : Option (ℕ × Bor (List ℕ)) → Option (ℕ × List ℕ)
coded refusal = option_map (λ one. (one.0, one.1.now)) refusal

-- the refusal of an event or of a packet's turn, if it was refused
abbrev pub refusal_of : Reply → Option (ℕ × List ℕ)
refusal_of (Refused fault) = Some (events.code_and_name fault)
refusal_of (Turned (turns.Refused refusal)) = Some (router.code_and_name refusal)
refusal_of reply = None

-- the refusal of a question about a packet, which is not there
abbrev pub refusal_shown : Option PacketValue → Option (ℕ × List ℕ)
refusal_shown None = Some (events.code_and_name NoPacket)
refusal_shown (Some packet) = None

-- the refusal of a line without a value
abbrev pub bad_line_refusal : Option (ℕ × List ℕ)
bad_line_refusal = Some (140, codes "BadLine")
