-- A LOG OF TWO MACHINES, written out: of two new ones the upstream one keeps a board, and they connect.
use Rattle.std.specs.Prelude.{ℕ, List, [], ◌∷◌, codes, ◌++◌}
use Rattle.board_record.specs.Maker.{made_id}
use Rattle.line_base.specs.declared.states.Side.TheVariants.{Entry}
use Rattle.line_report.specs.Texts.{at_side}
use Rattle.node_core.specs.declared.act.Act.TheVariants as acts
use Rattle.law_running_line.specs.Reading.{Strictly}
use Rattle.law_running_logs.specs.Merged.{merged_line, text_of}
use Rattle.law_running_logs.specs.Right.{IsOfRunning}

abbrev pub two_begin : List (List ℕ)
two_begin =
    merged_line 1 1 (text_of 1 (acts.Inserts (made_id 1 1)))
    ∷ merged_line 1 2 (codes "no: same")
    ∷ merged_line 2 1 (text_of 2 acts.Connects)
    ∷ merged_line 2 1 (at_side (codes "sends") 2 Entry ++ codes " " ++ codes "ServiceDescription")
    ∷ []

-- such a log is one of running machines
abbrev pub HasALog : Type 0
HasALog = IsOfRunning Strictly two_begin
