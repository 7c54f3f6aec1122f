-- The reply has the parts of the packet that was read, the other way round, and its room.
use Rattle.std.proofs.Common.{◌-◌, length, drop, sym, subst, ap, ◌∙◌}
use Rattle.path_header.specs.Reversal.{reversed_header}
use Rattle.scion_packet.specs.Value.{WholePacketValue}
use Rattle.scion_packet.specs.Reply.{reply_info}
use Rattle.scion_packet.specs.Spelling.{SpellsPacket}
use Rattle.scion_packet.proofs.Replied.{IsReply, room_is, replied, replied_exactly}
use Rattle.scion_packet.proofs.replying.reply.Goals as goal

pub put_headers-requires-clause-room : goal.put_headers-requires-clause-room
put_headers-requires-clause-room c =
    let packet = c.args.packet.now in
    let read = c.received.inside in
    let v : WholePacketValue = record {
      info = read.info;
      destination = read.destination;
      source = read.source;
      header = read.header;
      payload = read.payload.now;
    } in
    let w : WholePacketValue = record {
      info = c.into_reply.result;
      destination = read.source;
      source = read.destination;
      header = c.reverse.new.self;
      payload = c.split_at_mut-headers.result.1.now;
    } in
    let spelled : SpellsPacket packet v =
    subst (SpellsPacket packet) (sym c.received.view_is) c.in-Ok.ensures.found in
    let is : IsReply v w = record { info = c.into_reply.ensures; header = c.reverse.ensures } in
    room_is packet c.split_at_mut-headers.result.0.now v w spelled is
    c.split_at_mut-headers.ensures.front_len

pub returns : goal.returns
returns c =
    let packet = c.args.packet.now in
    let read = c.received.inside in
    let v = c.in-Ok.received in
    let w : WholePacketValue = record {
      info = c.into_reply.result;
      destination = read.source;
      source = read.destination;
      header = c.reverse.new.self;
      payload = c.split_at_mut-headers.result.1.now;
    } in
    let same = c.received.view_is in
    let is : IsReply v w = record {
      info = c.into_reply.ensures ∙ ap (λ (x : WholePacketValue). reply_info x.info) same;
      header = c.reverse.ensures ∙ ap (λ (x : WholePacketValue). reversed_header x.header) same;
    } in
    record {
      exact = replied_exactly packet _ v (sym c.read.ensures.exact ∙ c.in-Ok.is)
          (replied packet _ v w c.in-Ok.ensures.found is
          (ap (λ (x : WholePacketValue). x.source) same)
          (ap (λ (x : WholePacketValue). x.destination) same)
          (c.split_at_mut-headers.ensures.back
          ∙ ap (λ (x : WholePacketValue). drop (length packet - length x.payload) packet) same)
          c.put_headers.ensures);
    }
