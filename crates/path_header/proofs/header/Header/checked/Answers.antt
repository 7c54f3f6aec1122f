use Rattle.std.proofs.Common.{sym, subst, arith}
use Rattle.path_header.specs.Value.{IsHeader}
use Rattle.path_header.specs.Shown.{header_at_front}
use Rattle.path_header.proofs.Seen.{meta_read, header_from, room_for}
use Rattle.path_header.proofs.header.Header.checked.Goals as goal

pub add_hops-requires-clause-few : goal.add_hops-requires-clause-few
add_hops-requires-clause-few c =
    let bytes = c.args.bytes.now in
    let m = c.meta_in-meta.result in
    let same = meta_read bytes c.word_of.result m c.requires c.meta_in-meta.ensures c.word_of.ensures in
    let room = room_for bytes m (header_at_front bytes) same c.begins.ensures.header c.begins.ensures.long in
    omega (arith, room.few, c.hop_count.ensures.value)

pub add_hops-requires-clause-long : goal.add_hops-requires-clause-long
add_hops-requires-clause-long c =
    let bytes = c.args.bytes.now in
    let m = c.meta_in-meta.result in
    let same = meta_read bytes c.word_of.result m c.requires c.meta_in-meta.ensures c.word_of.ensures in
    let room = room_for bytes m (header_at_front bytes) same c.begins.ensures.header c.begins.ensures.long in
    omega (arith, room.long, c.hop_count.ensures.value, c.info_count-info_count.ensures.value, c.split_at-2.ensures.back_len)

pub invariant_of-result : goal.invariant_of-result
invariant_of-result c =
    let bytes = c.args.bytes.now in
    let m = c.meta_in-meta.result in
    let made = header_from bytes m c.infos_in-infos.result.items c.add_hops.new.hops.items c.requires
    (meta_read bytes c.word_of.result m c.requires c.meta_in-meta.ensures c.word_of.ensures)
    (λ all e. c.infos_in-infos.ensures.read all (rw (c.info_count-info_count.ensures.value, c.split_at.ensures.back) e))
    (λ all e. c.add_hops.ensures.read all (rw (c.hop_count.ensures.value, c.split_at-2.ensures.back, c.info_count-info_count.ensures.value) e)) in
    subst IsHeader (sym made) c.begins.ensures.header

pub returns : goal.returns
returns c =
    let bytes = c.args.bytes.now in
    let m = c.meta_in-meta.result in
    header_from bytes m c.infos_in-infos.result.items c.add_hops.new.hops.items c.requires
    (meta_read bytes c.word_of.result m c.requires c.meta_in-meta.ensures c.word_of.ensures)
    (λ all e. c.infos_in-infos.ensures.read all (rw (c.info_count-info_count.ensures.value, c.split_at.ensures.back) e))
    (λ all e. c.add_hops.ensures.read all (rw (c.hop_count.ensures.value, c.split_at-2.ensures.back, c.info_count-info_count.ensures.value) e))
