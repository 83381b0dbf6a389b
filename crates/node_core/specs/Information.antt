-- What is told of boards beside their handovers: the next one is told of ahead, a board is asked
-- for by its barcode, and such a question is answered.
use Rattle.std.specs.Prelude.{ℕ, List, [], Option, Some, None, slice_get}
use Rattle.line_base.specs.declared.states.Side.TheVariants.{Entry, Exit}
use Rattle.board_record.specs.declared.record.Record.{Record}
use Rattle.hermes_horizontal.specs.Parts.{no_info}
use Rattle.hermes_horizontal.specs.declared.message.Info.{Info}
use Rattle.hermes_horizontal.specs.declared.message.Horizontal.TheVariants as bodies
use Rattle.forecast_query.specs.Find.{first_match}
use Rattle.forecast_query.specs.Info.{forecast_of, info_of}
use Rattle.node_core.specs.declared.act.Act.{Act}
use Rattle.node_core.specs.Desk.{Desk}
use Rattle.node_core.specs.declared.lane.Body.{Body}
use Rattle.node_core.specs.Done.{Done, done}
use Rattle.node_core.specs.Told.{sends}

-- the record at a place, if there is one
abbrev pub board_at : List Record → Option ℕ → Option Record
board_at kept None = None
board_at kept (Some place) = slice_get kept place

-- each field of a record, and nothing of none
abbrev pub info_if : Option Record → Info
info_if None = no_info
info_if (Some board) = info_of board

-- what is told of the first kept board with the barcodes that are asked for
abbrev pub answer_to : List Record → Option (List ℕ) → Option (List ℕ) → Info
answer_to kept top bottom = info_if (board_at kept (first_match kept top bottom))

abbrev pub forecasts : Desk → Option Record → List Act
forecasts desk None = []
forecasts desk (Some board) = sends desk Exit (bodies.BoardForecast (forecast_of board))

-- THE MICRO EVENT: the downstream neighbour is told what board comes next: the front one, if one
-- is kept
abbrev pub forecasts_front : Desk → Body → Done
forecasts_front desk body = done body (forecasts desk (slice_get body.kept 0))

-- THE MICRO EVENT: the upstream neighbour is asked for the board with this barcode on its top side
abbrev pub asks_for : Desk → List ℕ → Body → Done
asks_for desk barcode body =
    done body (sends desk Entry (bodies.QueryBoardInfo (Some barcode) None))
