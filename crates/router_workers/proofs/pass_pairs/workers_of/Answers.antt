use Rattle.std.proofs.Common.{◌≡◌, ◌+◌, ℕ, List, [], ◌∷◌, ◌++◌, length, map, Some, sym, ap, subst, ◌∙◌, arith}
use Rattle.std.specs.Prelude.{slice_get}
use Rattle.std.specs.List.{range_with_len}
use Rattle.std.proofs.lemmas.Iterator.Adapters.{YieldsList-from_vec}
use Rattle.std.proofs.lemmas.Iterator.Consumers.{YieldsList-turn, YieldsList-end}
use Rattle.std.proofs.lemmas.List.{length_push, map-append}
use Rattle.std.proofs.lemmas.Option.{slice_get-get_or}
use Rattle.inbox.specs.Inbox.{Opened}
use Rattle.router_workers.specs.inner.PassPairs.{AreInboxes, inboxes_of}
use Rattle.router_workers.proofs.Inboxes.{inbox_at, as_long, as_many, range_more}
use Rattle.router_workers.proofs.Pairs.{pushed}
use Rattle.router_workers.proofs.pass_pairs.workers_of.Goals as goal

pub invariant_of-push : goal.invariant_of-push
invariant_of-push g c =
    let kept = c.loop-receiver.invariant in
    let gives = c.into_iter-receiver-iterator.ensures.into_iter_gives in
    let list = YieldsList-from_vec c.args.receivers.items gives.0 (gives.1 ∙ c.args.receivers.ok.0) in
    let turn =
    YieldsList-turn list c.loop-receiver.yielded c.loop-receiver.receiver-iterator c.loop-receiver.yielded_by c.next.result c.next.new.self c.in-Some.receiver c.in-Some.is c.next.ensures.steps in
    let there = inbox_at c.args.receivers.items (length c.loop-receiver.yielded) c.in-Some.receiver
    (slice_get-get_or c.args.receivers.items (length c.loop-receiver.yielded) c.in-Some.receiver turn.0
    ∙ ap (λ w. Some w) (sym turn.1)) in
    let same = c.in_ok-senders.ensures.further ∙ kept.0 in
    let own = c.len-number.result in
    let number : length c.loop-receiver.yielded ≡ own =
    omega (arith, c.len-number.ensures, kept.1.0) in
    record {
      inboxes = subst (AreInboxes g.J.RunFacts.workers g.J.RunFacts.slots) (sym same) c.requires.inboxes;
      own = subst (λ (inboxes : List Opened). slice_get inboxes own ≡ Some c.in-Some.receiver.of)
          (c.requires.own ∙ sym same)
          (subst (λ (k : ℕ). slice_get (inboxes_of c.args.receivers.items) k ≡ Some c.in-Some.receiver.of) number there);
    }

pub loop-receiver-preserved : goal.loop-receiver-preserved
loop-receiver-preserved g c =
    let kept = c.loop-receiver.invariant in
    let one = pushed _ _ _ _ _ c.push.ensures.items c.in_ok-push.was in
    let more = length_push c.loop-receiver.yielded c.in-Some.receiver in
    let long = ap length one ∙ length_push c.loop-receiver.worker_list.items _ in
    let number : c.len-number.result ≡ 0 + length c.loop-receiver.yielded =
    omega (arith, c.len-number.ensures, kept.1.0) in (
      c.in_ok-senders.ensures.kept ∙ kept.0,
      (
        omega (arith, long, more, kept.1.0),
        ap (λ ws. map (λ worker. worker.number) ws) one
            ∙ map-append (λ worker. worker.number) c.loop-receiver.worker_list.items _
            ∙ ap (λ (ks : List ℕ). ks ++ c.len-number.result ∷ []) kept.1.1
            ∙ ap (λ (k : ℕ). range_with_len 0 (length c.loop-receiver.yielded) ++ k ∷ []) number
            ∙ sym (range_more 0 (length c.loop-receiver.yielded))
            ∙ ap (λ (k : ℕ). range_with_len 0 k) (omega (arith, more)),
      ),
    )

pub returns : goal.returns
returns g c =
    let kept = c.loop-receiver.invariant in
    let gives = c.into_iter-receiver-iterator.ensures.into_iter_gives in
    let list = YieldsList-from_vec c.args.receivers.items gives.0 (gives.1 ∙ c.args.receivers.ok.0) in
    let end =
    YieldsList-end list c.loop-receiver.yielded c.loop-receiver.receiver-iterator c.loop-receiver.yielded_by c.next.result c.next.new.self c.in-None.is c.next.ensures.steps in
    let count = as_long c.args.receivers.items c.args.first_senders.items c.requires.own
    ∙ as_many g.J.RunFacts.workers g.J.RunFacts.slots c.args.first_senders.items c.requires.inboxes in
    kept.1.1 ∙ ap (λ (k : ℕ). range_with_len 0 k) (end.1 ∙ count)
