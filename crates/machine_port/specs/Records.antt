-- A RECORD AS IT IS SEEN: which there are, and their fields as texts.
use Rattle.std.specs.Prelude.{ℕ, ◌==◌, List, [], ◌∷◌, Option, None, Some, is_some, option_map, slice_get, if◌then◌else◌}
use Rattle.line_base.specs.Decimal.{decimal_text}
use Rattle.board_record.specs.declared.record.Record.{Record}
use Rattle.handover_out.specs.State as outlet
use Rattle.handover_in.specs.State as intake
use Rattle.node_core.specs.Node.{NodeState}
use Rattle.machine_port.specs.Numbers.{flag, flip_number, id_bytes, quality_number}
use Rattle.machine_port.specs.declared.board.HermesBoard.{HermesBoard}

-- ---- which record

abbrev pub first_alone : ℕ → Option Record → Option Record
first_alone index board = if index == 0 then board else None

-- the record of this number at a place: the kept ones, the front first, the one that the outlet
-- holds, and the one that the intake holds
abbrev pub record_at : ℕ → ℕ → NodeState → Option Record
record_at place index s =
    if place == 0 then slice_get s.lane.body.kept index else
    (if place == 1 then first_alone index (outlet.held s.lane.body.outlet) else
    (if place == 2 then first_alone index (intake.held s.lane.body.intake) else None))

-- ---- and what it has

abbrev pub has : {A : Type 0} → Option A → ℕ
has field = flag (is_some field)

-- 1 for each field that it has, by the field's number
abbrev pub fields_of : Record → List ℕ
fields_of r =
    1 ∷ has r.product ∷ has r.top ∷ has r.bottom ∷ has r.length ∷ has r.width
    ∷ has r.thickness ∷ has r.speed ∷ has r.top_clearance ∷ has r.bottom_clearance
    ∷ has r.weight ∷ has r.order ∷ has r.batch ∷ []

-- HOW A RECORD IS SEEN
abbrev pub board_seen : Record → HermesBoard
board_seen r = record {
  size = 80;
  quality = quality_number r.quality;
  flip = flip_number r.flip;
  has = fields_of r;
  id = id_bytes r.id;
}

-- ---- the text of a field, by its number

abbrev pub text_field : ℕ → Record → Option (List ℕ)
text_field field r =
    if field == 0 then Some r.created_by else
    (if field == 1 then r.product else
    (if field == 2 then r.top else
    (if field == 3 then r.bottom else
    (if field == 11 then r.order else
    (if field == 12 then r.batch else None)))))

-- the millionths of a length, a speed or a weight
abbrev pub decimal_field : ℕ → Record → Option ℕ
decimal_field field r =
    if field == 4 then r.length else
    (if field == 5 then r.width else
    (if field == 6 then r.thickness else
    (if field == 7 then r.speed else
    (if field == 8 then r.top_clearance else
    (if field == 9 then r.bottom_clearance else
    (if field == 10 then r.weight else None))))))

abbrev pub either_text : Option ℕ → Option (List ℕ) → Option (List ℕ)
either_text (Some millionths) text = Some (decimal_text millionths)
either_text None text = text

-- none where the record doesn't have it
abbrev pub field_text : ℕ → Record → Option (List ℕ)
field_text field r = either_text (decimal_field field r) (text_field field r)
