-- What was read are the packet's parts, and they spell it.
use Rattle.std.proofs.Common.{◌∙◌, ◌≡◌, ◌+◌, sym, subst, ap, length, take, drop, Ok, arith}
use Rattle.std.specs.Int.{w64, from_be_bytes}
use Rattle.std.proofs.lemmas.List.{drop-drop}
use Rattle.std.proofs.lemmas.Result.{err_from_is_err_and}
use Rattle.path_header.specs.Value.{HeaderValue, header_len}
use Rattle.path_header.specs.Spelling.{SpellsHeader}
use Rattle.path_header.specs.Shown.{header_at_front}
use Rattle.path_header.proofs.Answered.{AreBytes-drop}
use Rattle.path_header.proofs.Seen.{begins}
use Rattle.scion_packet.specs.Value.{WholePacketValue}
use Rattle.scion_packet.specs.Layout.{path_place, announced_len, announced_payload}
use Rattle.scion_packet.specs.Reading.{path_header_in}
use Rattle.scion_packet.specs.Spelling.{SpellsPacket}
use Rattle.scion_packet.proofs.ReadWhole.{IsRead, read_is, value_is, not_read}
use Rattle.scion_packet.proofs.Spelled.{spelled_is_read}
use Rattle.scion_packet.proofs.Found.{found}
use Rattle.scion_packet.proofs.reading.read.Goals as goal

pub returns-in_err-place : goal.returns-in_err-place
returns-in_err-place c =
    let packet = c.args.packet.now in
    let p = err_from_is_err_and c.from_residual.result c.from_residual.ensures.1 in
    let exact = not_read packet c.in_err-place.field-0.0 c.in_err-place.ensures.exact in
    rw (p.1, p.2) (record {
      found = tt;
      only = λ v s. exact ∙ spelled_is_read v packet s;
      exact = exact;
      place = tt;
    })

pub returns : goal.returns
returns c =
    let packet = c.args.packet.now in
    let at = c.in_ok-place.place in
    let place = c.in_ok-place.ensures in
    let header = c.checked-header.result in
    let header_is : header ≡ header_at_front (drop at packet) =
    c.checked-header.ensures ∙ ap header_at_front c.split_at.ensures.back in
    let behind = c.split_at-3.ensures.back in
    let end : at + c.encoded_len.result ≡ path_place packet + header_len header =
    omega (arith, place.place, c.encoded_len.ensures.value) in
    let v : WholePacketValue = record {
      info = c.info_in-info.result;
      destination = c.destination_in.result;
      source = c.source_in.result;
      header = header;
      payload = c.split_at-2.result.1.now;
    } in
    let is : IsRead packet v = record {
      info = c.info_in-info.ensures;
      destination = c.destination_in.ensures ∙ ap (λ t. from_be_bytes w64 (take 8 t)) behind;
      source = c.source_in.ensures ∙ ap (λ t. from_be_bytes w64 (take 8 (drop 8 t))) behind
          ∙ ap (λ t. from_be_bytes w64 (take 8 t)) (drop-drop 8 12 packet);
      payload = c.split_at-2.ensures.back
          ∙ ap (drop c.encoded_len.result) c.split_at.ensures.back
          ∙ drop-drop c.encoded_len.result at packet ∙ ap (λ n. drop n packet) end;
    } in
    let read : path_header_in packet ≡ Ok header =
    place.exact ∙ ap (λ (h : HeaderValue). Ok h) (sym header_is) in
    let headers : announced_len packet ≡ path_place packet + header_len header =
    place.headers ∙ ap (λ h. at + header_len h) (sym header_is)
    ∙ ap (λ n. n + header_len header) place.place in
    let all : path_place packet + header_len header + announced_payload packet ≡ length packet =
    ap (λ n. n + announced_payload packet) (sym headers) ∙ place.rest in
    let front = begins (drop at packet)
    (AreBytes-drop at packet (λ k. omega (arith, c.type_inv.packet k))) place.begins in
    let spells : SpellsHeader (take (header_len header) (drop at packet)) header =
    subst (λ h. SpellsHeader (take (header_len h) (drop at packet)) h) (sym header_is) front.spells in
    let exact = read_is packet v read is in
    record {
      found = subst (SpellsPacket packet) (sym (value_is packet v is))
          (found packet header (record {
            bytes = λ k. omega (arith, c.type_inv.packet k);
            version = place.version;
            path_type = place.path_type;
            within = omega (arith, all);
            headers = headers;
            rest = all;
            spells = subst (λ n. SpellsHeader (take (header_len header) (drop n packet)) header)
                place.place spells;
          }));
      only = λ w s. exact ∙ spelled_is_read w packet s;
      exact = exact;
      place = omega (arith, place.place, place.within);
    }
