use Rattle.std.proofs.Common.{◌≡◌, length, sym, ap, ◌∙◌, subst, arith, Ok, ◌<◌, ◌^◌, ℕ}
use Rattle.path_header.specs.Value.{HeaderValue, IsHeader}
use Rattle.path_header.specs.Spelling.{FitsBits}
use Rattle.path_verifier.specs.Walk.{walk_of}
use Rattle.path_verifier.proofs.Breaches.{header_kept}
use Rattle.scion_topology.specs.Topology.{owner_in}
use Rattle.forwarding.specs.declared.location.PacketLocation.TheVariants.{AtRouter}
use Rattle.forwarding.specs.Frame.{frame_of}
use Rattle.forwarding.specs.Journey.{first_out}
use Rattle.forwarding.specs.Turn.{packet_with, put_at}
use Rattle.router_workers.specs.Flight.{sent_packet_of}
use Rattle.router_workers.proofs.Flying.{begins, framed_with}
use Rattle.router_workers.proofs.flight.Flight.new.Goals as goal

pub invariant_of-result : goal.invariant_of-result
invariant_of-result c =
    let n = c.args.fabric.now in
    let sent = sent_packet_of c.args.sent.now in
    let passed = c.in_ok-passed.passed in
    let hops : length sent.header.hops ≡ c.hop_count.result =
    ap (λ (h : HeaderValue). length h.hops) (sym c.header-3.ensures) ∙ sym c.hop_count.ensures.value in
    let owned : owner_in n sent.source (first_out (walk_of sent.pieces)) ≡ Ok c.in_ok-router.router =
    ap (λ (s : ℕ). owner_in n s (first_out (walk_of sent.pieces))) (sym c.source.ensures)
    ∙ ap (λ out. owner_in n c.source.result out) (sym c.way_out.ensures)
    ∙ sym c.owner.ensures ∙ c.in_ok-router.was in
    let bytes : c.in_ok-bytes.bytes.items ≡ frame_of sent.source sent.destination sent.header sent.payload =
    c.in_ok-bytes.ensures.value ∙ (λ i. frame_of (c.source-2.ensures i) (c.destination.ensures i) (c.header-2.ensures i) (c.payload.ensures.value i)) in
    let stop = c.of_host.ensures in
    let at : packet_with c.in_ok-bytes.bytes.items (AtRouter c.of_host.result) passed.items
    ≡ put_at (frame_of sent.source sent.destination sent.header sent.payload) sent.source c.in_ok-router.router =
    (λ i. packet_with (bytes i) (AtRouter (stop i)) (c.in_ok-passed.ensures.items i))
    ∙ ap (λ (s : ℕ). put_at (frame_of sent.source sent.destination sent.header sent.payload) s c.in_ok-router.router) c.source-3.ensures in
    let frame = framed_with sent.source sent.destination sent.pieces sent.header
    (header_kept c.known-2.ensures.1)
    (subst IsHeader c.header.ensures c.known-3.ensures)
    (subst FitsBits c.header-2.ensures c.in_ok-bytes.ensures.fits)
    (subst (λ k. k < 2 ^ 64) c.source-2.ensures c.in_ok-bytes.ensures.addresses.0)
    (subst (λ k. k < 2 ^ 64) c.destination.ensures c.in_ok-bytes.ensures.addresses.1) in
    let none = ap length c.in_ok-passed.ensures.items in
    let room = c.in_ok-passed.ensures.capacity in (
      begins n sent _ c.in_ok-router.router c.known-2.ensures.0 _ c.known.ensures c.known-2.ensures.1
          frame owned at,
      omega (arith, none),
      λ _. omega (arith, hops, room),
    )
