use Rattle.std.specs.Prelude.{ℕ, List, Option, Some, None, Result, Ok, Err}
use Rattle.std.specs.Int.{w128, from_be_bytes, to_be_bytes}
use Rattle.uuid.specs.Text.{parsed, hyphenated_text, lower}
use Rattle.board_record.specs.declared.id.BadId.{BadId}

abbrev pub id_of_bytes : Option (List ℕ) → Result ℕ BadId
id_of_bytes None = Err (record {})
id_of_bytes (Some bytes) = Ok (from_be_bytes w128 bytes)

-- what the bytes are as an identifier: the number of the 16 bytes that they spell as a UUID, or
-- no identifier
abbrev pub read_id : List ℕ → Result ℕ BadId
read_id bytes = id_of_bytes (parsed bytes)

-- an id's 36 characters: hyphenated, in lower case
unfoldable pub id_text : ℕ → List ℕ
id_text number = hyphenated_text lower (to_be_bytes w128 number)
