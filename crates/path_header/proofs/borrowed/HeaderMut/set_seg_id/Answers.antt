use Rattle.std.proofs.Common.{◌≡◌, ◌<◌, ◌^◌, ◌+◌, ◌*◌, ◌++◌, take, drop, arith, slice_index_or, false}
use Rattle.std.specs.Int.{w16, to_be_bytes}
use Rattle.std.proofs.lemmas.Option.{slice_get-get_or}
use Rattle.path_header.specs.declared.fields.InfoField.{InfoField}
use Rattle.path_header.specs.Borrowed.{bytes_of, value_of}
use Rattle.path_header.proofs.Changed.{seg_id_changed}
use Rattle.path_header.proofs.borrowed.HeaderMut.set_seg_id.Goals as goal

pub invariant_of-self : goal.invariant_of-self
invariant_of-self c =
    let v = value_of c.args.self.now in
    let none : InfoField = record { construction = false; seg_id = 0; timestamp = 0 } in
    let small : c.args.seg_id < 2 ^ 16 = omega (arith, c.ranges.seg_id.fits) in
    let written : c.put.new.room ≡ take (6 + 8 * c.args.info) (bytes_of c.args.self.now) ++ (to_be_bytes w16 c.args.seg_id ++ drop (6 + 8 * c.args.info + 2) (bytes_of c.args.self.now)) = cc (c.put.ensures, c.to_be_bytes.ensures) in
    let changed = seg_id_changed v (bytes_of c.args.self.now) c.put.new.room c.args.info c.args.seg_id (slice_index_or v.infos c.args.info none) c.known.ensures.header c.known.ensures.spelled small (slice_get-get_or v.infos c.args.info none c.requires) written in
    record { begins = changed.has }

pub returns-clause-value : goal.returns-clause-value
returns-clause-value c x found =
    let small : c.args.seg_id < 2 ^ 16 = omega (arith, c.ranges.seg_id.fits) in
    let written : c.put.new.room ≡ take (6 + 8 * c.args.info) (bytes_of c.args.self.now) ++ (to_be_bytes w16 c.args.seg_id ++ drop (6 + 8 * c.args.info + 2) (bytes_of c.args.self.now)) = cc (c.put.ensures, c.to_be_bytes.ensures) in
    (seg_id_changed (value_of c.args.self.now) (bytes_of c.args.self.now) c.put.new.room c.args.info c.args.seg_id x c.known.ensures.header c.known.ensures.spelled small found written).value

pub returns-clause-rest : goal.returns-clause-rest
returns-clause-rest c =
    let v = value_of c.args.self.now in
    let none : InfoField = record { construction = false; seg_id = 0; timestamp = 0 } in
    let small : c.args.seg_id < 2 ^ 16 = omega (arith, c.ranges.seg_id.fits) in
    let written : c.put.new.room ≡ take (6 + 8 * c.args.info) (bytes_of c.args.self.now) ++ (to_be_bytes w16 c.args.seg_id ++ drop (6 + 8 * c.args.info + 2) (bytes_of c.args.self.now)) = cc (c.put.ensures, c.to_be_bytes.ensures) in
    let changed = seg_id_changed v (bytes_of c.args.self.now) c.put.new.room c.args.info c.args.seg_id (slice_index_or v.infos c.args.info none) c.known.ensures.header c.known.ensures.spelled small (slice_get-get_or v.infos c.args.info none c.requires) written in
    changed.rest_is
