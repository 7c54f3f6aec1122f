-- Tests whether chains are live and whether two of them are equal.
use Rattle.std.specs.Prelude.{ℕ, ◌==◌, ◌&&◌, Bool, true, false}
use Rattle.std.specs.Cmp.Lexicographic.{pointwise}
use Rattle.std.specs.List.{list_all}
use Rattle.std.specs.Str.{bytes_eq}
use Rattle.hop_mac.specs.Lifetime.{is_live_at}
use Rattle.path_segment.specs.declared.entry.Entry.{Entry}
use Rattle.path_segment.specs.declared.kind.SegKind.{SegKind}
use Rattle.path_segment.specs.declared.kind.SegKind.TheVariants.{Core, Intra}
use Rattle.path_segment.specs.Chain.{Chain}

-- `IsChainLive` as a Boolean: every hop is live at this second
unfoldable pub is_live : ℕ → Chain → Bool
is_live now chain = list_all (λ entry. is_live_at chain.timestamp entry.exp_time now) chain.entries

-- the kinds are equal
abbrev pub same_kind : (one other : SegKind) → Bool
same_kind Core Core = true
same_kind Intra Intra = true
same_kind one other = false

-- the entries are equal in each part
abbrev pub same_entry : (a b : Entry) → Bool
same_entry a b = (a.ia == b.ia) && ((a.cons_ingress == b.cons_ingress)
    && ((a.cons_egress == b.cons_egress) && ((a.exp_time == b.exp_time) && bytes_eq a.mac b.mac)))

-- the chains are equal in each part, with equal entries in the same order
unfoldable pub is_same : (a b : Chain) → Bool
is_same a b = same_kind a.kind b.kind && ((a.timestamp == b.timestamp)
    && ((a.beta0 == b.beta0) && pointwise same_entry a.entries b.entries))
