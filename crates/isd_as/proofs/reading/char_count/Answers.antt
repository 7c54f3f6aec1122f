-- The characters that the iterator gives are those that the text spells.
use Rattle.std.proofs.Common.{rules}
use Rattle.std.proofs.lemmas.Str.{chars_from_encodes}
use Rattle.isd_as.proofs.reading.char_count.Goals as goal

pub returns : goal.returns
returns c = search (rules, chars_from_encodes)
