use Rattle.std.specs.Prelude.{ℕ, List, [], Option, None}
use Rattle.line_base.specs.declared.states.Quality.TheVariants as qualities
use Rattle.line_base.specs.declared.states.Flip.TheVariants as flips
use Rattle.board_record.specs.declared.record.Record.{Record}

-- the record of a board of which only its id, who made it and maybe its top barcode are known
abbrev pub plain_record : ℕ → List ℕ → Option (List ℕ) → Record
plain_record id created_by top = record {
  id = id;
  created_by = created_by;
  quality = qualities.Unknown;
  flip = flips.Unknown;
  product = None;
  top = top;
  bottom = None;
  length = None;
  width = None;
  thickness = None;
  speed = None;
  top_clearance = None;
  bottom_clearance = None;
  weight = None;
  order = None;
  batch = None;
  subs = [];
}
