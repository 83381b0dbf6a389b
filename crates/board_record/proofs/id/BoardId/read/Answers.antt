use Rattle.std.proofs.Common.{◌≡◌, ℕ, List, Option, Some, None, Err, false, true, refl}
use Rattle.board_record.specs.BoardId.{id_of_bytes}
use Rattle.board_record.proofs.id.BoardId.read.Goals as goal

-- what spells no 16 bytes is no identifier
not_parsed : (bytes : Option (List ℕ)) → ((x : List ℕ) × (bytes ≡ Some x) → false ≡ true) → Err (record {}) ≡ id_of_bytes bytes
not_parsed None never = refl
not_parsed (Some bytes) never = let h : false ≡ true = never (bytes, refl) in cc

pub returns-in-Err : goal.returns-in-Err
returns-in-Err c = not_parsed _ c.in-Err.ensures.ok.1
