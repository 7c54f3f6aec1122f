-- Lines are read by computing.
use Rattle.std.proofs.Common.{◌≡◌, Ok, refl}
use Rattle.std.specs.Str.{is_utf8, chars}
use Rattle.std.specs.Char.{encode_utf8}
use Rattle.json.specs.Json.{value, items, members}
use Rattle.json.specs.Lex.{punctuate, lex}
use Rattle.json.specs.Text.{content}
use Rattle.json.specs.Word.{word, after_number}
use Rattle.hex.specs.Hex.{decode_pairs}
use Rattle.scion_topology.specs.Causes.{cause_of, lists_twice, joins_twice}
use Rattle.fast_float.specs.Text.{scan}
use Rattle.serde_json.specs.Read.{number_of}
use Rattle.json_fields.specs.Fields.{document_in, text_at, truth_at, whole_at, list_at}
use Rattle.isd_as.specs.Reading.{number_at, isd_at, groups_at, as_number_at, address_at}
use Rattle.scion_topology.specs.Keys.{key_from}
use Rattle.scion_topology.specs.Reading.{address_in, key_at, as_entry_at, class_at, end_at, link_at}
use Rattle.scion_topology.specs.Topology.{network_in, network_of}
use Rattle.policy_expr.specs.Options.{option_at, options_at}
use Rattle.policy_expr.specs.Policy.{policy_at}
use Rattle.event_lines.specs.declared.accepted.AcceptedLines.TheVariants.{All}
use Rattle.event_lines.specs.Answers.{events_of}
use Rattle.event_lines.specs.Line.{line_in, said_by, line_with_word, plain_lines, traffic_lines, ia_in, bytes_at, texts_at, maybe_text_at, option_with, one_option}
use Rattle.row_history.specs.Row.{row, row_events}
use Rattle.row_lines.specs.Lines.{topology_line, later_lines}

pub topology_read : network_in topology_line ≡ Ok row
unfolding network_of document_in is_utf8 text_at truth_at whole_at list_at number_of chars encode_utf8 value items members punctuate lex content word after_number scan number_at isd_at groups_at as_number_at address_at key_from address_in key_at as_entry_at class_at end_at link_at decode_pairs cause_of lists_twice joins_twice
topology_read = refl

pub later_read : events_of All later_lines ≡ row_events
unfolding line_in document_in is_utf8 said_by text_at whole_at list_at line_with_word plain_lines traffic_lines ia_in bytes_at texts_at maybe_text_at option_with one_option number_of chars encode_utf8 value items members punctuate lex content word after_number scan number_at isd_at groups_at as_number_at address_at option_at options_at policy_at decode_pairs
later_read = refl
