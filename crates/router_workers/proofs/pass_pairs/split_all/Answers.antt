use Rattle.std.proofs.Common.{◌≡◌, Some, sym, ap, subst, ◌∙◌, arith}
use Rattle.std.specs.Prelude.{List, slice_get}
use Rattle.std.proofs.lemmas.Option.{slice_get-get_or}
use Rattle.inbox.specs.Inbox.{Opened}
use Rattle.router_workers.specs.inner.PassPairs.{inboxes_of}
use Rattle.router_workers.proofs.Inboxes.{inbox_at, inboxes_kept, way_more, as_long, written_back}
use Rattle.router_workers.proofs.Pairs.{pushed}
use Rattle.router_workers.proofs.pass_pairs.split_all.Goals as goal

pub returns-in_err-push-clause-kept : goal.returns-in_err-push-clause-kept
returns-in_err-push-clause-kept g c =
    let ways = c.args.first_senders.now.items in
    let items = c.loop-first_sender.first_sender-items in
    let index = c.loop-first_sender.first_sender-index in
    let kept = c.loop-first_sender.invariant in
    let long = as_long items ways kept.0 in
    let before = c.loop-first_sender-test.true in
    let there = slice_get-get_or items index c.first_sender-item.result (omega (arith, before, long)) in
    written_back c.args.first_senders.now.len _ ways (omega (arith, c.args.first_senders.now.ok))
    (inboxes_kept items index _ c.split.new.self there c.split.ensures.of.0 ∙ kept.0)

pub loop-first_sender-preserved : goal.loop-first_sender-preserved
loop-first_sender-preserved g c =
    let ways = c.args.first_senders.now.items in
    let items = c.loop-first_sender.first_sender-items in
    let index = c.loop-first_sender.first_sender-index in
    let kept = c.loop-first_sender.invariant in
    let long = as_long items ways kept.0 in
    let before = c.loop-first_sender-test.true in
    let there = slice_get-get_or items index c.first_sender-item.result (omega (arith, before, long)) in
    let one = pushed _ _ _ _ _ c.push.ensures.items c.in_ok-push.was in
    let at = subst (λ (inboxes : List Opened). slice_get inboxes index ≡ Some c.split.result.of) kept.0
    (inbox_at items index _ there ∙ ap (λ o. Some o) (sym c.split.ensures.of.1)) in (
      inboxes_kept items index _ c.split.new.self there c.split.ensures.of.0 ∙ kept.0,
      ap inboxes_of one ∙ way_more index (inboxes_of ways) _ c.split.result kept.1 at,
    )
