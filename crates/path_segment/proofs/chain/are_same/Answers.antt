use Rattle.std.proofs.lemmas.Slice.Eq.{slice_eq-Decides}
use Rattle.path_segment.specs.declared.entry.Entry.{Entry}
use Rattle.path_segment.specs.Tests.{same_entry}
use Rattle.path_segment.proofs.Same.{same_entry-Decides}
use Rattle.path_segment.proofs.chain.are_same.Goals as goal

pub returns : goal.returns
returns c = slice_eq-Decides {A = Entry} {E = same_entry} same_entry-Decides _ _ _ c.eq.ensures
