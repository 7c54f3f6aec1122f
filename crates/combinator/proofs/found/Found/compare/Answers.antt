use Rattle.std.proofs.Common.{sym, ◌∙◌}
use Rattle.combinator.specs.inner.Front.{pieces_in}
use Rattle.combinator.proofs.Parts.{counts_decide, headers_decide, walks_decide}
use Rattle.combinator.proofs.found.Found.compare.Goals as goal

pub returns-in-Equal-compare_headers : goal.returns-in-Equal-compare_headers
returns-in-Equal-compare_headers c =
    c.compare_walks.ensures
    ∙ walks_decide c.args.self.now c.args.other.now (pieces_in c.self.inside.chosen) (pieces_in c.other.inside.chosen)
    c.self.inside.hop_count c.other.inside.hop_count c.self.view_is c.other.view_is c.self.invariant.0 c.other.invariant.0
    (sym c.cmp.ensures ∙ c.in-Equal.is) (sym c.compare_headers.ensures ∙ c.in-Equal-compare_headers.is)

pub returns-in_default-compare_headers : goal.returns-in_default-compare_headers
returns-in_default-compare_headers c =
    c.compare_headers.ensures
    ∙ headers_decide c.args.self.now c.args.other.now (pieces_in c.self.inside.chosen) (pieces_in c.other.inside.chosen)
    c.self.inside.hop_count c.other.inside.hop_count c.self.view_is c.other.view_is c.self.invariant.0 c.other.invariant.0
    (sym c.cmp.ensures ∙ c.in-Equal.is) (λ equal. c.in_default-compare_headers.not-Equal (c.compare_headers.ensures ∙ equal))

pub returns-in_default : goal.returns-in_default
returns-in_default c =
    c.cmp.ensures
    ∙ counts_decide c.args.self.now c.args.other.now (pieces_in c.self.inside.chosen) (pieces_in c.other.inside.chosen)
    c.self.inside.hop_count c.other.inside.hop_count c.self.view_is c.other.view_is c.self.invariant.0 c.other.invariant.0
    (λ equal. c.in_default.not-Equal (c.cmp.ensures ∙ equal))
