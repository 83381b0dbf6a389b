-- What is told of a board.
use Rattle.std.specs.Prelude.{Some}
use Rattle.board_record.specs.declared.record.Record.{Record}
use Rattle.hermes_horizontal.specs.declared.message.Info.{Info}
use Rattle.hermes_horizontal.specs.Parts.{no_info}

-- each field of a record
abbrev pub info_of : Record → Info
info_of board = record {
  id = Some board.id;
  created_by = Some board.created_by;
  quality = Some board.quality;
  flip = Some board.flip;
  product = board.product;
  top = board.top;
  bottom = board.bottom;
  length = board.length;
  width = board.width;
  thickness = board.thickness;
  speed = board.speed;
  top_clearance = board.top_clearance;
  bottom_clearance = board.bottom_clearance;
  weight = board.weight;
  order = board.order;
  batch = board.batch;
  subs = board.subs;
}

-- quality, flip, product and barcodes of a board that is to come, and no id
abbrev pub forecast_of : Record → Info
forecast_of board =
    record no_info {
      quality = Some board.quality;
      flip = Some board.flip;
      product = board.product;
      top = board.top;
      bottom = board.bottom;
    }
