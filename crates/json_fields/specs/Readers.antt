-- What a caller's reader of single values says of them.
use Rattle.std.specs.Prelude.{◌≡◌, Bool, IfSome, IsTrue, Option}
use Rattle.std.specs.Fn.{FnReturnsAt}
use denote.Ref.{Bor}
use denote.Param.Members.{Shared}
use Rattle.serde_json.specs.Data.{Data}
use Rattle.json_fields.specs.Documents.{node_data}
use Rattle.json_fields.specs.declared.node.Node.{Node}

-- each call of `one` returns what `reader` says about the value
abbrev pub IsReader : {F A : Type 0} → Shared F (Bor Node × Unit {0}) (Option A) → F
    → (Data → Option A) → Type 0
IsReader {F} {A} calls one reader =
    (node : Node) (found : Option A) → FnReturnsAt calls one node found
    → found ≡ reader (node_data node)

-- if a call of `one` returns something, it passes this test
abbrev pub GivesPassing : {F A : Type 0} → Shared F (Bor Node × Unit {0}) (Option A) → F
    → (A → Bool) → Type 0
GivesPassing {F} {A} calls one test =
    (node : Node) (found : Option A) → FnReturnsAt calls one node found
    → IfSome found (λ x. IsTrue (test x))
