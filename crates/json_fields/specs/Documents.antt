-- The data that a document, and a value and a list in it, stand for.
use Rattle.json.specs.Value.{value_view, items_view}
use Rattle.serde_json.specs.Data.{Data, Items}
use Rattle.json_fields.specs.Data.{data_of, items_of}
use Rattle.json_fields.specs.declared.document.Document.{Document}
use Rattle.json_fields.specs.declared.node.Node.{Node}
use Rattle.json_fields.specs.declared.node_list.NodeList.{NodeList}

abbrev pub document_data : Document → Data
document_data d = data_of (value_view d.value)

abbrev pub node_data : Node → Data
node_data n = data_of (value_view n.value.now)

abbrev pub list_items : NodeList → Items
list_items l = items_of (items_view l.values.now)
