-- Writing an answer into a host's room.
use Rattle.std.specs.Prelude.{◌≡◌, ℕ, nat_le, if◌then◌else◌, List, ◌++◌, drop, length, Option, Some, None, IfSome}
use Rattle.scion_ffi_paths.specs.declared.room.ScionText.{ScionText}

abbrev pub text_answer : (status len : ℕ) → ScionText
text_answer status len = record { status = status; len = len }

-- the text is at the front of the room, and the bytes after it are as before; or the room is too
-- small, and the answer has the needed length; or memory ran out. In both of these cases the room
-- is as it was.
abbrev pub IsPut : (text : Option (List ℕ)) (old new : List ℕ) (result : ScionText) → Type 0
IsPut None old new result = (result ≡ text_answer 2 0) × (new ≡ old)
IsPut (Some text) old new result =
    (result ≡ text_answer (if nat_le (length text) (length old) then 0 else 1) (length text))
    × (new ≡ (if nat_le (length text) (length old) then text ++ drop (length text) old else old))

-- `IsPut` for some text that is an answer
abbrev pub IsAnsweredInRoom : (answers : (List ℕ → Type 0)) (old new : List ℕ) (result : ScionText)
    → Type 0
IsAnsweredInRoom answers old new result =
    (text : Option (List ℕ)) × (IfSome text answers × IsPut text old new result)
