-- Which paths may be sent (draft-dekater-scion-dataplane, segment combinations, without peering).
-- Any other path is refused by the fault of the first rule that it breaks, in the order of the
-- faults' numbers.
use Rattle.std.specs.Prelude.{◌≡◌, ◌⊎◌, ℕ, ◌+◌, ◌*◌, ◌<◌, ◌≤◌, List, [], ◌∷◌, length, map, All, Any, Some, slice_get}
use Rattle.hop_mac.specs.Lifetime.{expiry_of}
use Rattle.path_header.specs.Value.{HeaderValue}
use Rattle.policy_expr.specs.declared.hop.WalkHop.{WalkHop}
use Rattle.policy_expr.specs.Policy.{Rules, AllowsHops, DeniesHop, HasWord}
use Rattle.path_verifier.specs.declared.kind.PieceKind.{PieceKind}
use Rattle.path_verifier.specs.declared.kind.PieceKind.TheVariants.{Up, Core, Down}
use Rattle.path_verifier.specs.declared.fault.VerifyFault.{VerifyFault}
use Rattle.path_verifier.specs.declared.fault.VerifyFault.TheVariants.{PieceCount, Range, Kinds, CutAtCore, NotJoined, Source, Destination, TooManyHops, Loop, Expired, HeaderDiffers, AclDenied, SequenceMismatch}
use Rattle.path_verifier.specs.Fault.{code_of}
use Rattle.path_verifier.specs.Piece.{PieceValue, HasRange, kind_of, entries_of, begins_in, ends_in}
use Rattle.path_verifier.specs.Walk.{walk_of}
use Rattle.path_verifier.specs.Header.{total_hops, header_of}

-- the piece is a core piece
abbrev pub IsCore : PieceValue → Type 0
IsCore piece = kind_of piece ≡ Core

-- a piece of the kind `next` may follow one of the kind `one`
abbrev pub MayAdjoin : (one next : PieceKind) → Type 0
MayAdjoin Up Core = Unit {0}
MayAdjoin Up Down = Unit {0}
MayAdjoin Core Down = Unit {0}
MayAdjoin one next = ⊥

-- each piece may follow the piece before it
abbrev pub DoAdjoin : List PieceKind → Type 0
DoAdjoin [] = Unit {0}
DoAdjoin (kind ∷ []) = Unit {0}
DoAdjoin (kind ∷ next ∷ later) = MayAdjoin kind next × DoAdjoin (next ∷ later)

-- with a core piece: that piece is whole, and every other piece begins at the first entry of its
-- segment; without one: all pieces begin at the first entry, or none does
pub record AreCutWell (pieces : List PieceValue) : Type 0 where
  pub with_core : Any IsCore pieces → All (λ piece. (piece.from ≡ 0)
      × (IsCore piece → piece.to + 1 ≡ length piece.segment.entries)) pieces
  pub without : ¬ (Any IsCore pieces)
      → All (λ piece. piece.from ≡ 0) pieces ⊎ All (λ piece. 0 < piece.from) pieces

-- each piece ends in the AS in which the next begins
abbrev pub DoMeet : List PieceValue → Type 0
DoMeet [] = Unit {0}
DoMeet (piece ∷ []) = Unit {0}
DoMeet (piece ∷ next ∷ later) = (ends_in piece ≡ begins_in next) × DoMeet (next ∷ later)

-- the first piece begins in this AS
abbrev pub DoBeginIn : ℕ → List PieceValue → Type 0
DoBeginIn src [] = ⊥
DoBeginIn src (piece ∷ later) = begins_in piece ≡ src

-- the last piece ends in this AS
abbrev pub DoEndIn : ℕ → List PieceValue → Type 0
DoEndIn dst [] = ⊥
DoEndIn dst (piece ∷ []) = ends_in piece ≡ dst
DoEndIn dst (piece ∷ next ∷ later) = DoEndIn dst (next ∷ later)

-- no two hops are of one AS
abbrev pub NamesOnce : List WalkHop → Type 0
NamesOnce walk = (j k : ℕ) (one other : WalkHop) → slice_get walk j ≡ Some one
    → slice_get walk k ≡ Some other → one.ia ≡ other.ia → j ≡ k

-- no hop of the pieces expires before this half second
abbrev pub LastTo : ℕ → List PieceValue → Type 0
LastTo half pieces = All (λ piece. All
    (λ entry. half ≤ expiry_of piece.segment.timestamp entry.exp_time) (entries_of piece)) pieces

-- each hop of the pieces is live at this second
abbrev pub AreLive : ℕ → List PieceValue → Type 0
AreLive now pieces = LastTo (2 * now) pieces

-- `least` is the earliest expiry of the pieces' hops, in half seconds: one hop expires then, and
-- none before
pub record IsExpiry (pieces : List PieceValue) (least : ℕ) : Type 0 where
  pub reached : Any (λ piece. Any (λ entry. least
      ≡ expiry_of piece.segment.timestamp entry.exp_time) (entries_of piece)) pieces
  pub lower : LastTo least pieces

-- a request to the verifier: the pieces and the header, and the ends, the second and the policy to
-- check them against
pub record Request : Type 0 where
  pub pieces : List PieceValue
  pub header : HeaderValue
  pub src : ℕ
  pub dst : ℕ
  pub moment : ℕ
  pub rules : Rules

abbrev pub request_of : List PieceValue → HeaderValue → (src dst now : ℕ) → Rules → Request
request_of pieces header src dst now rules =
    record { pieces = pieces; header = header; src = src; dst = dst; moment = now; rules = rules }

-- the rule whose breach this fault reports
abbrev pub Keeps : Request → VerifyFault → Type 0
Keeps request PieceCount = 0 < length request.pieces
Keeps request Range = All HasRange request.pieces
Keeps request Kinds = DoAdjoin (map kind_of request.pieces)
Keeps request CutAtCore = AreCutWell request.pieces
Keeps request NotJoined = DoMeet request.pieces
Keeps request Source = DoBeginIn request.src request.pieces
Keeps request Destination = DoEndIn request.dst request.pieces
Keeps request TooManyHops = total_hops request.pieces ≤ 64
Keeps request Loop = NamesOnce (walk_of request.pieces)
Keeps request Expired = AreLive request.moment request.pieces
Keeps request HeaderDiffers = request.header ≡ header_of request.pieces
Keeps request (AclDenied denied) = AllowsHops request.rules.acl (walk_of request.pieces)
Keeps request SequenceMismatch = HasWord request.rules.sequence (walk_of request.pieces)

-- the path may be sent: it keeps every rule
pub record IsAccepted (request : Request) : Type 0 where
  pub keeps : (fault : VerifyFault) → Keeps request fault

-- the path breaks the fault's rule; AclDenied also names the denied hop and the entry that denies
-- it
abbrev pub Breaks : Request → VerifyFault → Type 0
Breaks request (AclDenied denied) = DeniesHop request.rules.acl (walk_of request.pieces) denied
Breaks request fault = ¬ Keeps request fault

-- the path is refused by this fault: it breaks the fault's rule, and keeps every rule of a lower
-- number
pub record IsRefused (request : Request) (fault : VerifyFault) : Type 0 where
  pub broken : Breaks request fault
  pub before : (earlier : VerifyFault) → code_of earlier < code_of fault → Keeps request earlier

-- the rules on the pieces alone: they are a path from `src` to `dst` that is live at this second
pub record MakesPath (pieces : List PieceValue) (src dst now : ℕ) : Type 0 where
  pub some : 0 < length pieces
  pub ranges : All HasRange pieces
  pub kinds : DoAdjoin (map kind_of pieces)
  pub cuts : AreCutWell pieces
  pub meet : DoMeet pieces
  pub source : DoBeginIn src pieces
  pub destination : DoEndIn dst pieces
  pub few : total_hops pieces ≤ 64
  pub once : NamesOnce (walk_of pieces)
  pub live : AreLive now pieces
