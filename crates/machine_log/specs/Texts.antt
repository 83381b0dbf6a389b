-- The log of a machine: its acts as the report of a line tells them, but that the gap of a deed is
-- the word of its side, and that each act has its line.
use Rattle.std.specs.Prelude.{ℕ, ◌++◌, Bool, true, false, List, [], Option, None, Some, codes, decimal, flat_map, if◌then◌else◌}
use Rattle.line_base.specs.declared.states.Side.{Side}
use Rattle.line_base.specs.declared.states.Side.TheVariants.{Entry, Exit}
use Rattle.board_record.specs.BoardId.{id_text}
use Rattle.board_record.specs.declared.record.Record.{Record}
use Rattle.line_script.specs.Words.{why_text}
use Rattle.line_script.specs.declared.line.LineWhy.{LineWhy}
use Rattle.line_report.specs.Texts.{act_text, of_board, quality_text, reason_text, side_text, switched}
use Rattle.line_report.specs.declared.happening.Reason.{Reason}
use Rattle.node_core.specs.declared.act.Act.{Act}
use Rattle.node_core.specs.declared.act.Act.TheVariants as acts
use Rattle.node_core.specs.declared.act.Deed.{Deed}
use Rattle.node_core.specs.declared.act.Deed.TheVariants as deeds
use Rattle.machine_log.specs.declared.drives.Drives.{Drives}

-- a line of the log: a text, with the turn's number in front
abbrev pub log_line : ℕ → List ℕ → List ℕ
log_line turn text = decimal turn ++ codes " " ++ text ++ codes "\n"

-- a word, a side and an id
abbrev pub at_gap : List ℕ → Side → ℕ → List ℕ
at_gap word side id = word ++ codes " " ++ side_text side ++ codes " " ++ id_text id

abbrev pub deed_text : Deed → List ℕ
deed_text (deeds.Opens id) = at_gap (codes "opens") Exit id
deed_text (deeds.Refuses id) = at_gap (codes "refuses") Exit id
deed_text (deeds.Leaves id) = at_gap (codes "leaves") Exit id
deed_text (deeds.Returns id) = at_gap (codes "returns") Exit id
deed_text (deeds.Loses id) = at_gap (codes "loses") Exit id
deed_text (deeds.Starts id) = at_gap (codes "starts") Entry id
deed_text (deeds.Settles id) = at_gap (codes "settles") Entry id
deed_text (deeds.Drops id) = at_gap (codes "drops") Entry id

-- the line of a drive
abbrev pub drive_text : ℕ → Side → Bool → List ℕ
drive_text machine side on = switched (codes "drive") machine (side_text side) on

abbrev pub drive_line : ℕ → ℕ → Side → Bool → List ℕ
drive_line turn machine side on = log_line turn (drive_text machine side on)

-- a board goes to another lane of the machine, or comes from one: the report tells both as one shift
abbrev pub gives_text : ℕ → ℕ → List ℕ
gives_text machine id = of_board (codes "gives") machine id

abbrev pub gets_text : ℕ → ℕ → List ℕ
gets_text machine id = of_board (codes "gets") machine id

-- THE TEXT OF AN ACT, its line without the turn's number in front: the report's text of it, but
-- that the gap of a deed is the word of its side, and that a drive has a text, and each half of a
-- shift
abbrev pub log_text : ℕ → Act → List ℕ
log_text machine (acts.Drive side on) = drive_text machine side on
log_text machine (acts.Deed deed) = deed_text deed
log_text machine (acts.Gives id to) = gives_text machine id
log_text machine (acts.Gets id) = gets_text machine id
log_text machine act = act_text machine act

-- the line of an act: a drive has one where the drives are told
abbrev pub line_of : Bool → ℕ → ℕ → Act → List ℕ
line_of told turn machine (acts.Drive side on) =
    if told then drive_line turn machine side on else []
line_of told turn machine (acts.Deed deed) = log_line turn (deed_text deed)
line_of told turn machine (acts.Gives id to) = log_line turn (gives_text machine id)
line_of told turn machine (acts.Gets id) = log_line turn (gets_text machine id)
line_of told turn machine act = log_line turn (act_text machine act)

-- THE LINES OF A STEP
abbrev pub lines_of : Bool → ℕ → ℕ → List Act → List ℕ
lines_of told turn machine acts = flat_map (line_of told turn machine) acts

-- and what is news of it: its drives, and its connections that were made, noticed or closed
abbrev pub news_line : ℕ → ℕ → Act → List ℕ
news_line turn machine (acts.Drive side on) = line_of true turn machine (acts.Drive side on)
news_line turn machine acts.Connects = line_of true turn machine acts.Connects
news_line turn machine (acts.Notices side) = line_of true turn machine (acts.Notices side)
news_line turn machine (acts.Closes side) = line_of true turn machine (acts.Closes side)
news_line turn machine act = []

abbrev pub news_lines : Bool → ℕ → ℕ → List Act → List ℕ
news_lines true turn machine acts = flat_map (news_line turn machine) acts
news_lines false turn machine acts = []

-- what each drive is, where the drives are told
abbrev pub drives_lines : Bool → ℕ → ℕ → Drives → List ℕ
drives_lines true turn machine drives =
    drive_line turn machine Entry drives.entry ++ drive_line turn machine Exit drives.exit
drives_lines false turn machine drives = []

-- a panel line that was refused, and one that can't be done
abbrev pub refused_line : ℕ → LineWhy → List ℕ
refused_line turn why = log_line turn (codes "refused: " ++ why_text why)

abbrev pub no_line : ℕ → Reason → List ℕ
no_line turn reason = log_line turn (codes "no: " ++ reason_text reason)

-- what `show` tells: the kept records, and then those that the outlet and the intake hold
abbrev pub kept_line : ℕ → ℕ → Record → List ℕ
kept_line turn machine record' =
    log_line turn (of_board (codes "show") machine record'.id ++ codes " "
    ++ quality_text record'.quality)

abbrev pub held_line : ℕ → Side → Option Record → List ℕ
held_line turn side None = []
held_line turn side (Some record') = log_line turn (at_gap (codes "show") side record'.id)

abbrev pub show_lines : ℕ → ℕ → List Record → Option Record → Option Record → List ℕ
show_lines turn machine kept out taking =
    flat_map (kept_line turn machine) kept
    ++ (held_line turn Exit out ++ held_line turn Entry taking)
