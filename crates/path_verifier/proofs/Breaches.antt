-- Rules and the faults that are their breaches, in the order of the faults' numbers.
use Rattle.std.proofs.Common.{◌≡◌, ℕ, suc, ◌<◌, ◌==◌, cond, List, Option, Some, None, refl, sym, ap, ◌∙◌, subst, inl, inr, arith}
use Rattle.std.specs.Prelude.{◌↔◌, nat_lt}
use Rattle.std.proofs.lemmas.Bool.{cases_Bool, eqb-true, eqb-false, ltb-true, ltb-false}
use Rattle.policy_expr.specs.declared.hop.WalkHop.{WalkHop}
use Rattle.policy_expr.specs.declared.acl.AclEntry.{AclEntry}
use Rattle.policy_expr.specs.declared.acl.Denied.{Denied}
use Rattle.policy_expr.specs.Policy.{AllowsHops, DeniesHop, HasWord}
use Rattle.policy_expr.proofs.Deciding.{denial_denies, one_denial}
use Rattle.path_verifier.specs.declared.fault.VerifyFault.{VerifyFault}
use Rattle.path_verifier.specs.declared.fault.VerifyFault.TheVariants.{PieceCount, Range, Kinds, CutAtCore, NotJoined, Source, Destination, TooManyHops, Loop, Expired, HeaderDiffers, AclDenied, SequenceMismatch}
use Rattle.path_verifier.specs.Fault.{code_of}
use Rattle.path_verifier.specs.Walk.{walk_of}
use Rattle.path_verifier.specs.Header.{header_of}
use Rattle.path_verifier.specs.Accepted.{NamesOnce, AreLive, MakesPath, Request, IsAccepted, Keeps, Breaks, IsRefused}

-- ---- rules by their numbers

-- a fault of this number
abbrev fault_of : ℕ → VerifyFault
fault_of code =
    cond (code == 70) PieceCount (cond (code == 71) Range (cond (code == 72) Kinds
    (cond (code == 73) CutAtCore (cond (code == 74) NotJoined (cond (code == 75) Source
    (cond (code == 76) Destination (cond (code == 77) TooManyHops (cond (code == 78) Loop
    (cond (code == 79) Expired (cond (code == 80) HeaderDiffers
    (cond (code == 81) (AclDenied (record { hop = 0; entry = 0 })) SequenceMismatch)))))))))))

rule_of : (request : Request) (fault : VerifyFault)
    → Keeps request fault ≡ Keeps request (fault_of (code_of fault))
rule_of request PieceCount = refl
rule_of request Range = refl
rule_of request Kinds = refl
rule_of request CutAtCore = refl
rule_of request NotJoined = refl
rule_of request Source = refl
rule_of request Destination = refl
rule_of request TooManyHops = refl
rule_of request Loop = refl
rule_of request Expired = refl
rule_of request HeaderDiffers = refl
rule_of request (AclDenied denied) = refl
rule_of request SequenceMismatch = refl

determined : (fault : VerifyFault) → (code_of fault ≡ 81 → ⊥) → fault ≡ fault_of (code_of fault)
determined PieceCount other = refl
determined Range other = refl
determined Kinds other = refl
determined CutAtCore other = refl
determined NotJoined other = refl
determined Source other = refl
determined Destination other = refl
determined TooManyHops other = refl
determined Loop other = refl
determined Expired other = refl
determined HeaderDiffers other = refl
determined (AclDenied denied) other = absurd (other refl)
determined SequenceMismatch other = refl

-- a fault is known by its number, but for what it says of an access control list
by_code : (fault other : VerifyFault) → code_of fault ≡ code_of other
    → (code_of other ≡ 81 → ⊥) → fault ≡ other
by_code fault other same apart =
    determined fault (λ is. apart (sym same ∙ is)) ∙ ap fault_of same ∙ sym (determined other apart)

-- faults of one number are breaches of one rule
same_rule : (request : Request) (one other : VerifyFault) → code_of one ≡ code_of other
    → Keeps request one → Keeps request other
same_rule request one other same kept =
    subst (λ (T : Type 0). T)
    (rule_of request one ∙ ap (λ code. Keeps request (fault_of code)) same
    ∙ sym (rule_of request other)) kept

-- the rules of lower numbers are kept
abbrev pub KeepsBelow : Request → ℕ → Type 0
KeepsBelow request code = (fault : VerifyFault) → code_of fault < code → Keeps request fault

-- with one rule more
pub further : (request : Request) (fault : VerifyFault) → KeepsBelow request (code_of fault)
    → Keeps request fault → KeepsBelow request (suc (code_of fault))
further request fault below kept earlier less = elim (cases_Bool (code_of fault == code_of earlier)) [
  | inl same ↦ same_rule request fault earlier (eqb-true _ _ same) kept
  | inr other ↦ below earlier (let apart = eqb-false _ _ other in grind arith)
]

-- ---- refusals

-- a path that keeps the rules below that of a fault, and not that rule, is refused by it
pub refused : (request : Request) (fault : VerifyFault) → KeepsBelow request (code_of fault)
    → Breaks request fault → IsRefused request fault
refused request fault below broken = record { broken = broken; before = below }

-- the rules that a path keeps at any second
pub keeps_but_time : (request : Request) (now : ℕ)
    → MakesPath request.pieces request.src request.dst now → KeepsBelow request 79
keeps_but_time request now path PieceCount less = path.some
keeps_but_time request now path Range less = path.ranges
keeps_but_time request now path Kinds less = path.kinds
keeps_but_time request now path CutAtCore less = path.cuts
keeps_but_time request now path NotJoined less = path.meet
keeps_but_time request now path Source less = path.source
keeps_but_time request now path Destination less = path.destination
keeps_but_time request now path TooManyHops less = path.few
keeps_but_time request now path Loop less = path.once
keeps_but_time request now path Expired less = absurd (omega arith)
keeps_but_time request now path HeaderDiffers less = absurd (omega arith)
keeps_but_time request now path (AclDenied denied) less = absurd (omega arith)
keeps_but_time request now path SequenceMismatch less = absurd (omega arith)

-- the rules of a path, and that on its header
pub path_keeps : (request : Request)
    → MakesPath request.pieces request.src request.dst request.moment → KeepsBelow request 80
path_keeps request path =
    further request Expired (keeps_but_time request request.moment path) path.live

pub header_keeps : (request : Request)
    → MakesPath request.pieces request.src request.dst request.moment
    → request.header ≡ header_of request.pieces → KeepsBelow request 81
header_keeps request path header = further request HeaderDiffers (path_keeps request path) header

keeps_path : (request : Request) → KeepsBelow request 80
    → MakesPath request.pieces request.src request.dst request.moment
keeps_path request below = record {
  some = below PieceCount (omega arith);
  ranges = below Range (omega arith);
  kinds = below Kinds (omega arith);
  cuts = below CutAtCore (omega arith);
  meet = below NotJoined (omega arith);
  source = below Source (omega arith);
  destination = below Destination (omega arith);
  few = below TooManyHops (omega arith);
  once = below Loop (omega arith);
  live = below Expired (omega arith);
}

-- pieces that keep the rules on their shape, and those on the walk and its hops, make a path
pub path_of_shape : (request : Request) → KeepsBelow request 78 → NamesOnce (walk_of request.pieces)
    → AreLive request.moment request.pieces
    → MakesPath request.pieces request.src request.dst request.moment
path_of_shape request shape once live =
    keeps_path request (further request Expired (further request Loop shape once) live)

-- what a path that may be sent keeps: the rules on its pieces, on its header, and of the policy
pub path_kept : {request : Request} → IsAccepted request
    → MakesPath request.pieces request.src request.dst request.moment
path_kept {request} accepted = keeps_path request (λ fault less. accepted.keeps fault)

pub header_kept : {request : Request} → IsAccepted request
    → request.header ≡ header_of request.pieces
header_kept accepted = accepted.keeps HeaderDiffers

pub hops_kept : {request : Request} → IsAccepted request
    → AllowsHops request.rules.acl (walk_of request.pieces)
hops_kept accepted = accepted.keeps (AclDenied (record { hop = 0; entry = 0 }))

pub word_kept : {request : Request} → IsAccepted request
    → HasWord request.rules.sequence (walk_of request.pieces)
word_kept accepted = accepted.keeps SequenceMismatch

-- and with all of these it may be sent
each_kept : (request : Request) → MakesPath request.pieces request.src request.dst request.moment
    → request.header ≡ header_of request.pieces
    → AllowsHops request.rules.acl (walk_of request.pieces)
    → HasWord request.rules.sequence (walk_of request.pieces)
    → (fault : VerifyFault) → Keeps request fault
each_kept request path header hops word HeaderDiffers = header
each_kept request path header hops word (AclDenied denied) = hops
each_kept request path header hops word SequenceMismatch = word
each_kept request path header hops word PieceCount = path.some
each_kept request path header hops word Range = path.ranges
each_kept request path header hops word Kinds = path.kinds
each_kept request path header hops word CutAtCore = path.cuts
each_kept request path header hops word NotJoined = path.meet
each_kept request path header hops word Source = path.source
each_kept request path header hops word Destination = path.destination
each_kept request path header hops word TooManyHops = path.few
each_kept request path header hops word Loop = path.once
each_kept request path header hops word Expired = path.live

pub accepts : (request : Request) → MakesPath request.pieces request.src request.dst request.moment
    → request.header ≡ header_of request.pieces
    → AllowsHops request.rules.acl (walk_of request.pieces)
    → HasWord request.rules.sequence (walk_of request.pieces) → IsAccepted request
accepts request path header hops word =
    record { keeps = each_kept request path header hops word }

pub accepted_in_parts : (request : Request) → IsAccepted request
    ↔ (MakesPath request.pieces request.src request.dst request.moment
    × ((request.header ≡ header_of request.pieces)
    × (AllowsHops request.rules.acl (walk_of request.pieces)
    × HasWord request.rules.sequence (walk_of request.pieces))))
accepted_in_parts request = (
  λ accepted. (path_kept accepted, (header_kept accepted, (hops_kept accepted, word_kept accepted))),
  λ parts. accepts request parts.0 parts.1.0 parts.1.1.0 parts.1.1.1,
)

denied_is_not_allowed : (acl : Option (List AclEntry)) (walk : List WalkHop) (denied : Denied)
    → DeniesHop acl walk denied → AllowsHops acl walk → ⊥
denied_is_not_allowed None walk denied denies allows = denies
denied_is_not_allowed (Some entries) walk denied denies allows =
    denial_denies entries walk denied denies allows

-- a rule that is broken is not kept
not_both : (request : Request) (fault : VerifyFault) → Breaks request fault → Keeps request fault → ⊥
not_both request (AclDenied denied) broken kept =
    denied_is_not_allowed request.rules.acl (walk_of request.pieces) denied broken kept
not_both request PieceCount broken kept = broken kept
not_both request Range broken kept = broken kept
not_both request Kinds broken kept = broken kept
not_both request CutAtCore broken kept = broken kept
not_both request NotJoined broken kept = broken kept
not_both request Source broken kept = broken kept
not_both request Destination broken kept = broken kept
not_both request TooManyHops broken kept = broken kept
not_both request Loop broken kept = broken kept
not_both request Expired broken kept = broken kept
not_both request HeaderDiffers broken kept = broken kept
not_both request SequenceMismatch broken kept = broken kept

pub refused_is_not_accepted : (request : Request) (fault : VerifyFault) → IsRefused request fault
    → IsAccepted request → ⊥
refused_is_not_accepted request fault refused accepted =
    not_both request fault refused.broken (accepted.keeps fault)

-- there is one refusal: by its number
one_code : (request : Request) (fault other : VerifyFault) → IsRefused request fault
    → IsRefused request other → code_of fault ≡ code_of other
one_code request fault other one two =
    elim (cases_Bool (nat_lt (code_of fault) (code_of other))) [
      | inl less ↦ absurd (not_both request fault one.broken (two.before fault (ltb-true _ _ less)))
      | inr least ↦ elim (cases_Bool (nat_lt (code_of other) (code_of fault))) [
        | inl less ↦ absurd (not_both request other two.broken (one.before other (ltb-true _ _ less)))
        | inr most ↦ (let a = ltb-false _ _ least in let b = ltb-false _ _ most in omega arith)
      ]
    ]

one_breach : (acl : Option (List AclEntry)) (walk : List WalkHop) (one other : Denied)
    → DeniesHop acl walk one → DeniesHop acl walk other → one ≡ other
one_breach None walk one other a b = absurd a
one_breach (Some entries) walk one other a b = one_denial entries walk one other a b

denied_of : (fault : VerifyFault) → code_of fault ≡ 81 → (denied : Denied) × (fault ≡ AclDenied denied)
denied_of (AclDenied denied) is = (denied, refl)
denied_of PieceCount is = absurd (omega arith)
denied_of Range is = absurd (omega arith)
denied_of Kinds is = absurd (omega arith)
denied_of CutAtCore is = absurd (omega arith)
denied_of NotJoined is = absurd (omega arith)
denied_of Source is = absurd (omega arith)
denied_of Destination is = absurd (omega arith)
denied_of TooManyHops is = absurd (omega arith)
denied_of Loop is = absurd (omega arith)
denied_of Expired is = absurd (omega arith)
denied_of HeaderDiffers is = absurd (omega arith)
denied_of SequenceMismatch is = absurd (omega arith)

-- also in what it says of an access control list
pub refusal_is_one : (request : Request) (fault other : VerifyFault) → IsRefused request fault
    → IsRefused request other → fault ≡ other
refusal_is_one request fault other one two =
    let same = one_code request fault other one two in
    elim (cases_Bool (code_of other == 81)) [
      | inl is ↦
          (let a = denied_of fault (same ∙ eqb-true _ _ is) in
          let b = denied_of other (eqb-true _ _ is) in
          a.1
          ∙ ap AclDenied (one_breach request.rules.acl (walk_of request.pieces) a.0 b.0
          (subst (Breaks request) a.1 one.broken) (subst (Breaks request) b.1 two.broken))
          ∙ sym b.1)
      | inr apart ↦ by_code fault other same (eqb-false _ _ apart)
    ]
