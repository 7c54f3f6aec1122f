use Rattle.std.proofs.Common.{sym, ap, subst, ◌∙◌}
use Rattle.combinator.specs.inner.Front.{pieces_in}
use Rattle.combinator.specs.inner.Words.{AreSmall, lens_cmp, lens_of_pieces}
use Rattle.combinator.proofs.Numbers.{lens_decide, infos_decide, hops_decide}
use Rattle.combinator.proofs.chosen.Chosen.compare_headers.Goals as goal

pub returns-in-Equal-compare_infos : goal.returns-in-Equal-compare_infos
returns-in-Equal-compare_infos c =
    let mine = pieces_in c.args.self.now in
    let theirs = pieces_in c.args.other.now in
    c.compare_hop_fields.ensures
    ∙ hops_decide mine theirs c.known.ensures.few c.known-2.ensures.few c.known.ensures.ranges c.known-2.ensures.ranges
    (subst AreSmall c.lens.ensures.value c.lens.ensures.small) (subst AreSmall c.lens-2.ensures.value c.lens-2.ensures.small)
    (sym (c.compare_lens.ensures ∙ ap (λ l. lens_cmp l c.lens-2.result) c.lens.ensures.value ∙ ap (lens_cmp (lens_of_pieces mine)) c.lens-2.ensures.value) ∙ c.in-Equal.is)
    (sym c.compare_infos.ensures ∙ c.in-Equal-compare_infos.is)

pub returns-in_default-compare_infos : goal.returns-in_default-compare_infos
returns-in_default-compare_infos c =
    let mine = pieces_in c.args.self.now in
    let theirs = pieces_in c.args.other.now in
    c.compare_infos.ensures
    ∙ infos_decide mine theirs c.known.ensures.few c.known-2.ensures.few c.known.ensures.ranges c.known-2.ensures.ranges
    (subst AreSmall c.lens.ensures.value c.lens.ensures.small) (subst AreSmall c.lens-2.ensures.value c.lens-2.ensures.small)
    (sym (c.compare_lens.ensures ∙ ap (λ l. lens_cmp l c.lens-2.result) c.lens.ensures.value ∙ ap (lens_cmp (lens_of_pieces mine)) c.lens-2.ensures.value) ∙ c.in-Equal.is)
    (λ equal. c.in_default-compare_infos.not-Equal (c.compare_infos.ensures ∙ equal))

pub returns-in_default : goal.returns-in_default
returns-in_default c =
    let mine = pieces_in c.args.self.now in
    let theirs = pieces_in c.args.other.now in
    let is = c.compare_lens.ensures ∙ ap (λ l. lens_cmp l c.lens-2.result) c.lens.ensures.value ∙ ap (lens_cmp (lens_of_pieces mine)) c.lens-2.ensures.value in
    is
    ∙ lens_decide mine theirs c.known.ensures.few c.known-2.ensures.few c.known.ensures.ranges c.known-2.ensures.ranges
    (subst AreSmall c.lens.ensures.value c.lens.ensures.small) (subst AreSmall c.lens-2.ensures.value c.lens-2.ensures.small)
    (λ equal. c.in_default.not-Equal (is ∙ equal))
