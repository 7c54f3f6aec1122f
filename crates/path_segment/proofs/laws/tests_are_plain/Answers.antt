use Rattle.path_segment.proofs.Decided.{is_live-Decides, same_kind-Decides, is_same-Decides}
use Rattle.path_segment.proofs.laws.tests_are_plain.Goals as goal

pub returns : goal.returns
returns c = record { live = is_live-Decides; kind = same_kind-Decides; same = is_same-Decides }
