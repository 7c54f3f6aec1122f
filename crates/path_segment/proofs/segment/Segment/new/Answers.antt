use Rattle.std.proofs.Common.{◌∙◌, rules}
use Rattle.path_segment.proofs.Plain.{segment_in_words}
use Rattle.path_segment.proofs.segment.Segment.new.Goals as goal

pub returns-clause-found : goal.returns-clause-found
returns-clause-found c = (segment_in_words c.args.entries.items).0 (search rules)

pub returns-in-Some-clause-only : goal.returns-in-Some-clause-only
returns-in-Some-clause-only c = λ of. (
    let some = rw c.deref.ensures.value at c.in-Some.ensures in
    let none = some ∙ (segment_in_words c.args.entries.items).1 of in
    absurd cc)
