use Rattle.std.proofs.Common.{◌≡◌, sym, subst, ◌∙◌, arith, ltb-true, ltb-false}
use Rattle.combinator.specs.Candidate.{PathValue}
use Rattle.combinator.specs.inner.Search.{IsNoWorse}
use Rattle.combinator.proofs.Lasting.{later_wins, never_worse_later, never_worse_header}
use Rattle.combinator.proofs.found.Found.is_worse.Goals as goal

-- what is known of paths that are seen by their pieces
seen : (P : PathValue → PathValue → Type 0) (one other mine theirs : PathValue) → one ≡ mine → other ≡ theirs → P one other → P mine theirs
seen P one other mine theirs is also holds =
    subst (λ (path : PathValue). P path theirs) is (subst (P one) also holds)

pub returns-then-other-self-clause-worse : goal.returns-then-other-self-clause-worse
returns-then-other-self-clause-worse c = λ later.
    let less = ltb-true c.self.inside.expiry c.other.inside.expiry later in
    seen (λ one other. ¬ (IsNoWorse one other)) _ _ _ _ c.self.view_is c.other.view_is
    (never_worse_later _ _ c.self.inside.expiry c.other.inside.expiry c.self.invariant.2 c.other.invariant.2 less)

pub returns-then-other-self-clause-no_worse : goal.returns-then-other-self-clause-no_worse
returns-then-other-self-clause-no_worse c = λ earlier.
    let upto = ltb-false c.self.inside.expiry c.other.inside.expiry earlier in
    let apart = c.if-other-self.true in
    seen IsNoWorse _ _ _ _ c.self.view_is c.other.view_is
    (later_wins _ _ c.self.inside.expiry c.other.inside.expiry c.self.invariant.2 c.other.invariant.2 (omega (arith, upto, apart)))

pub returns-in-Less-clause-worse : goal.returns-in-Less-clause-worse
returns-in-Less-clause-worse c = λ _.
    let same : c.self.inside.expiry ≡ c.other.inside.expiry = sym c.if-other-self.false in
    seen (λ one other. ¬ (IsNoWorse one other)) _ _ _ _ c.self.view_is c.other.view_is
    (never_worse_header _ _ c.self.inside.expiry c.other.inside.expiry c.self.invariant.2 c.other.invariant.2 same
    (sym c.compare_headers.ensures ∙ c.in-Less.is))
