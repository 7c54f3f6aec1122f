use Rattle.std.proofs.Common.{ℕ, refl, sym, ap, ◌∙◌, arith}
use Rattle.std.specs.Prelude.{slice_get, slice_set}
use Rattle.std.proofs.lemmas.Option.{slice_get-get_or}
use Rattle.router_workers.proofs.Inboxes.{as_many, slots_at, inboxes_passed}
use Rattle.router_workers.proofs.worker.pass_on.Goals as goal

pub push_or_drop-requires-after_bounds : goal.push_or_drop-requires-after_bounds
push_or_drop-requires-after_bounds g c κs within =
    let worker = c.worker-worker.result in
    let ways = c.args.senders.now in
    let count = as_many g.J.RunFacts.workers g.J.RunFacts.slots ways c.requires in
    let below = c.worker-worker.ensures.within in
    slots_at g.J.RunFacts.workers g.J.RunFacts.slots worker ways _ c.requires
    (slice_get-get_or ways worker c.index-senders-worker.result (omega (arith, count, below)))

pub returns-clause-passed : goal.returns-clause-passed
returns-clause-passed g c =
    let worker = c.worker-worker.result in
    let ways = c.args.senders.now in
    let count = as_many g.J.RunFacts.workers g.J.RunFacts.slots ways c.requires in
    let below = c.worker-worker.ensures.within in
    let there = slice_get-get_or ways worker c.index-senders-worker.result (omega (arith, count, below)) in
    let same = c.worker-worker.ensures.value in (
      _,
      c.push_or_drop.new.sender,
      ap (slice_get ways) (sym same) ∙ there,
      c.push_or_drop.ensures,
      ap (λ (k : ℕ). slice_set ways k c.push_or_drop.new.sender) same,
    )

pub returns-clause-inboxes : goal.returns-clause-inboxes
returns-clause-inboxes g c =
    let worker = c.worker-worker.result in
    let ways = c.args.senders.now in
    let count = as_many g.J.RunFacts.workers g.J.RunFacts.slots ways c.requires in
    let below = c.worker-worker.ensures.within in
    let there = slice_get-get_or ways worker c.index-senders-worker.result (omega (arith, count, below)) in
    inboxes_passed c.args.state.now.crowded c.args.posted worker ways _
    (_, c.push_or_drop.new.sender, there, c.push_or_drop.ensures, refl)
