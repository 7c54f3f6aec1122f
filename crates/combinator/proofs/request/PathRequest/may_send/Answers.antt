use Rattle.std.proofs.Common.{◌≡◌, true, false, refl, sym, ap, subst}
use Rattle.policy_expr.specs.Policy.{Rules}
use Rattle.path_verifier.specs.Accepted.{AreLive, MakesPath, NamesOnce, request_of}
use Rattle.path_verifier.specs.Header.{header_of}
use Rattle.path_verifier.proofs.Breaches.{path_kept, path_of_shape}
use Rattle.combinator.specs.Candidate.{Question, path_with, question_of}
use Rattle.combinator.specs.inner.Choice.{Allows}
use Rattle.combinator.proofs.Asked.{allowed_hops, allowed_word, candidate_of_parts, path_seen, refused_is_no_path}
use Rattle.combinator.proofs.request.PathRequest.may_send.Goals as goal

pub returns-in-Ok : goal.returns-in-Ok
returns-in-Ok g c =
    let question = c.args.self.now in
    let own = c.self.inside.policy.now in
    let seen = question_of c.self.inside.set.now c.self.inside.src c.self.inside.dst own in
    let rules : own ≡ question.rules = ap (λ (q : Question). q.rules) c.self.view_is in
    let pieces = c.args.pieces.now in
    let walk = c.args.walk.now in
    let found = path_with pieces (header_of pieces) in (
      λ yes. (
          let both = subst (λ (r : Rules). Allows r walk) rules (subst (Allows own) c.as_slice.ensures.value (c.allows.ensures.0 yes)) in
          let live = subst (λ (q : Question). AreLive q.set.moment pieces) (sym c.self.view_is) c.requires.live in
          let path = path_of_shape (request_of pieces (header_of pieces) seen.src seen.dst seen.set.moment seen.rules)
          (c.in-Ok.ensures.kept (header_of pieces) seen.set.moment seen.rules)
          (subst NamesOnce c.requires.walk c.requires.once) live in
          candidate_of_parts question found c.requires.own refl
          (subst (λ (q : Question). MakesPath pieces q.src q.dst q.set.moment) c.self.view_is path)
          walk c.requires.walk question.rules refl both.0 both.1),
      λ candidate. c.allows.ensures.1 (subst (Allows own) (sym c.as_slice.ensures.value)
          (subst (λ (r : Rules). Allows r walk) (sym rules) (
            allowed_hops question found walk question.rules c.requires.walk refl candidate,
            allowed_word question found walk question.rules c.requires.walk refl candidate,
          ))),
    )

pub returns-in-Err : goal.returns-in-Err
returns-in-Err g c =
    let seen = question_of c.self.inside.set.now c.self.inside.src c.self.inside.dst c.self.inside.policy.now in
    let pieces = c.args.pieces.now in (
      λ never. (let clash : false ≡ true = never in cc),
      λ candidate. absurd (refused_is_no_path pieces seen.src seen.dst seen.set.moment c.in-Err.field-0
          (λ header rules. c.in-Err.ensures.fault header seen.set.moment rules)
          (path_seen c.args.self.now seen pieces pieces seen.set.moment refl c.self.view_is refl (path_kept candidate.accepted))),
    )
