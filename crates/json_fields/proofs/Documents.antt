-- The document of a text, by what is known of its bytes.
use Rattle.std.proofs.Common.{◌≡◌, ℕ, List, Bool, true, false, cond, Option, Some, None, refl, ◌∙◌}
use Rattle.std.specs.Str.{IsUtf8, is_utf8}
use Rattle.std.proofs.lemmas.Str.{IsUtf8-from_is_utf8, is_utf8-from_IsUtf8}
use Rattle.serde_json.specs.Data.{Data}
use Rattle.serde_json.specs.Read.{read}
use Rattle.json_fields.specs.Fields.{document_in}

-- a value behind a test that passes, and no value behind a test
behind : {A : Type 0} (test : Bool) (o : Option A) → test ≡ true → cond test o None ≡ o
behind true o e = refl
behind false o e = absurd cc

none_behind : {A : Type 0} (test : Bool) (o : Option A) → (test ≡ true → o ≡ None) → cond test o None ≡ None
none_behind true o none = none refl
none_behind false o none = refl

-- bytes that are UTF-8 say what is read of them
pub is_document : (bytes : List ℕ) (d : Data) → IsUtf8 bytes → read bytes ≡ Some d → document_in bytes ≡ Some d
unfolding document_in
is_document bytes d text is = behind (is_utf8 bytes) (read bytes) (is_utf8-from_IsUtf8 bytes text) ∙ is

-- bytes of which nothing is read where they are UTF-8 say nothing
pub no_document : (bytes : List ℕ) → (IsUtf8 bytes → read bytes ≡ None) → document_in bytes ≡ None
unfolding document_in
no_document bytes none = none_behind (is_utf8 bytes) (read bytes) (λ e. none (IsUtf8-from_is_utf8 bytes e))
