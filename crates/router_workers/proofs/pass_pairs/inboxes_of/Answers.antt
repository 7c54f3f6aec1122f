use Rattle.std.proofs.Common.{◌≡◌, sym, ◌∙◌, arith}
use Rattle.std.proofs.lemmas.List.{length_push}
use Rattle.std.proofs.lemmas.List.Elements.{All-push}
use Rattle.inbox.specs.Inbox.{Opened}
use Rattle.router_workers.proofs.Pairs.{pushed, one_more}
use Rattle.router_workers.proofs.pass_pairs.inboxes_of.Goals as goal

pub loop-preserved : goal.loop-preserved
loop-preserved g c =
    let kept = c.loop.invariant in
    let made = c.in_ok-inbox.ensures in
    let one = pushed _ _ _ _ _ c.push.ensures.items c.in_ok-push.was in
    let two = pushed _ _ _ _ _ c.push-in-loop.ensures.items c.in_ok-push-2.was in
    let more = length_push c.loop.inboxes.items c.in_ok-inbox.inbox in
    rw (one, two) (
      more ∙ (let count = kept.0 in omega (arith, count)),
      (
        length_push c.loop.pairs.items _ ∙ (let count = kept.1.0 in omega (arith, count)),
        (
          All-push (λ (inbox : Opened). inbox.slots ≡ c.args.slots) c.loop.inboxes.items c.in_ok-inbox.inbox kept.1.1.0 made.slots,
          one_more c.loop.inboxes.items c.loop.pairs.items _ _ (kept.0 ∙ sym kept.1.0)
              kept.1.1.1 made.sender.0 made.receiver.0,
        ),
      ),
    )
