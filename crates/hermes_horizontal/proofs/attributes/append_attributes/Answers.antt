use Rattle.std.proofs.Common.{◌∙◌, true, false, ap, sym}
use Rattle.std.proofs.lemmas.Result.{on_ok_weaker}
use Rattle.hermes_horizontal.specs.Canonical.{assigned}
use Rattle.hermes_horizontal.specs.Parts.{kind_of, parts}
use Rattle.hermes_horizontal.specs.Rows.{columns_of, board_columns}
use Rattle.hermes_horizontal.proofs.attributes.append_attributes.Goals as goal

pub returns-in-BoardAvailable-clause-written : goal.returns-in-BoardAvailable-clause-written
returns-in-BoardAvailable-clause-written c = on_ok_weaker c.append_board.result
    (λ e. e ∙ ap (assigned c.args.to.now.items (board_columns true)) c.of_record.ensures ∙ ap (λ body. assigned c.args.to.now.items (columns_of (kind_of body)) (parts body)) (sym c.in-BoardAvailable.is))
    (c.append_board.ensures.written true)

pub returns-in-BoardForecast-clause-written : goal.returns-in-BoardForecast-clause-written
returns-in-BoardForecast-clause-written c = on_ok_weaker c.append_board-in-BoardForecast.result
    (λ e. e ∙ ap (assigned c.args.to.now.items (board_columns false)) c.of_info.ensures ∙ ap (λ body. assigned c.args.to.now.items (columns_of (kind_of body)) (parts body)) (sym c.in-BoardForecast.is))
    (c.append_board-in-BoardForecast.ensures.written false)

pub returns-in-SendBoardInfo-clause-written : goal.returns-in-SendBoardInfo-clause-written
returns-in-SendBoardInfo-clause-written c = on_ok_weaker c.append_board-in-SendBoardInfo.result
    (λ e. e ∙ ap (assigned c.args.to.now.items (board_columns false)) c.of_info-in-SendBoardInfo.ensures ∙ ap (λ body. assigned c.args.to.now.items (columns_of (kind_of body)) (parts body)) (sym c.in-SendBoardInfo.is))
    (c.append_board-in-SendBoardInfo.ensures.written false)
