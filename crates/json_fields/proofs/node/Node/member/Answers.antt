use Rattle.std.proofs.Common.{option_map, sym, ap, ◌∙◌}
use Rattle.json.specs.Value.{value_view}
use Rattle.json_fields.specs.Data.{data_of}
use Rattle.json_fields.proofs.Members.{get-data_of}
use Rattle.json_fields.proofs.node.Node.member.Goals as goal

pub returns-in-Some : goal.returns-in-Some
returns-in-Some c = ap (option_map data_of) c.in-Some.ensures ∙ sym (get-data_of c.args.name.now (value_view c.args.self.now.value.now))

pub returns-in-None : goal.returns-in-None
returns-in-None c = ap (option_map data_of) c.in-None.ensures ∙ sym (get-data_of c.args.name.now (value_view c.args.self.now.value.now))
