use Rattle.std.proofs.Common.{refl}
use Rattle.path_header.specs.Borrowed.{bytes_of, value_of}
use Rattle.path_header.proofs.Changed.{indices_changed}
use Rattle.path_header.proofs.borrowed.HeaderMut.set_indices.Goals as goal

pub invariant_of-self : goal.invariant_of-self
invariant_of-self c =
    let changed = indices_changed (value_of c.args.self.now) (bytes_of c.args.self.now) _ c.args.info c.args.hop c.known.ensures.header c.known.ensures.spelled c.requires.info_below c.requires.hop_below refl in
    record { begins = changed.has }

pub returns-clause-value : goal.returns-clause-value
returns-clause-value c =
    (indices_changed (value_of c.args.self.now) (bytes_of c.args.self.now) _ c.args.info c.args.hop c.known.ensures.header c.known.ensures.spelled c.requires.info_below c.requires.hop_below refl).value

pub returns-clause-rest : goal.returns-clause-rest
returns-clause-rest c =
    (indices_changed (value_of c.args.self.now) (bytes_of c.args.self.now) _ c.args.info c.args.hop c.known.ensures.header c.known.ensures.spelled c.requires.info_below c.requires.hop_below refl).rest_is
