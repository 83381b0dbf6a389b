-- No text of a happening has an end of a line in it, on whatever lane.
use Rattle.std.proofs.Common.{◌∙◌, refl, sym, ℕ, ◌+◌, ◌-◌, Bool, true, false, List, ◌++◌, codes, decimal}
use Rattle.std.proofs.lemmas.Bool.{and_parts}
use Rattle.std.proofs.lemmas.List.Folds.{list_all-append}
use Rattle.std.specs.List.{list_all}
use Rattle.board_record.specs.BoardId.{id_text}
use Rattle.line_base.specs.declared.states.SensorEvent.{SensorEvent}
use Rattle.line_base.specs.declared.states.SensorEvent.TheVariants as sensors
use Rattle.line_base.specs.declared.states.Side.{Side}
use Rattle.line_base.specs.declared.states.Side.TheVariants.{Entry, Exit}
use Rattle.smema_bridge.specs.declared.line.SegmentLine.{SegmentLine}
use Rattle.smema_bridge.specs.declared.line.SegmentLine.TheVariants as segments
use Rattle.line_report.specs.Texts.{act_on, at_side, between_on, board_on, event_text, happening_on, in_line, line_word, numbered, place_text, placed, quality_text, reason_text, side_on, side_text, signal_word, switch_word, switched_on, what_text, will_word}
use Rattle.line_report.specs.declared.happening.Happening.{Happening}
use Rattle.line_report.specs.declared.happening.Happening.TheVariants as happenings
use Rattle.line_world.specs.Moves.{move_word}
use Rattle.line_world.specs.declared.moves.Move.{Move}
use Rattle.line_world.specs.declared.moves.Move.TheVariants as moves
use Rattle.machine_log.specs.Account.{IsProperAct}
use Rattle.machine_log.proofs.Inner.{inner, inner_act, inner_quality, inner_reason, spaced}
use Rattle.machine_log.proofs.Solid.{inner_decimal, inner_from, inner_id, is_inner, join}
use Rattle.node_core.specs.declared.act.Act.{Act}
use Rattle.node_core.specs.declared.act.Act.TheVariants as acts
use Rattle.node_core.specs.declared.act.Deed.{Deed}
use Rattle.node_core.specs.declared.act.Deed.TheVariants as deeds
use Rattle.node_core.specs.declared.act.Setting.{Setting}
use Rattle.node_core.specs.declared.act.Setting.TheVariants as settings
use Rattle.node_core.specs.declared.act.Signal.{Signal}
use Rattle.node_core.specs.declared.act.Signal.TheVariants as signals
use Rattle.law_report_lines.specs.Proper.{IsProperHappening}
use Rattle.law_report_ledger.proofs.Words.{solid_place}

-- ---- words

inner_side : (side : Side) → inner (side_text side)
inner_side Entry = refl
inner_side Exit = refl

inner_event : (event : SensorEvent) → inner (event_text event)
inner_event sensors.Begun = refl
inner_event sensors.Left = refl
inner_event sensors.Full = refl
inner_event sensors.Back = refl
inner_event sensors.Taken = refl

inner_move : (step : Move) → inner (move_word step)
inner_move moves.Begin = refl
inner_move moves.Left = refl
inner_move moves.Back = refl
inner_move moves.Enter = refl
inner_move moves.Take = refl
inner_move moves.HandIn = refl

inner_will : (on : Bool) → inner (will_word on)
inner_will true = refl
inner_will false = refl

inner_switch : (on : Bool) → inner (switch_word on)
inner_switch true = refl
inner_switch false = refl

inner_line : (line : SegmentLine) → inner (line_word line)
inner_line segments.Ready = refl
inner_line segments.Available = refl
inner_line segments.Failed = refl

inner_signal : (signal : Signal) → inner (signal_word signal)
inner_signal signals.EntryAvailable = refl
inner_signal signals.EntryFailed = refl
inner_signal signals.ExitReady = refl

-- what stands behind a blank
tail_of : (a b : List ℕ) → inner (a ++ codes " " ++ b) → inner b
tail_of a b whole =
    (and_parts (list_all is_inner (a ++ codes " ")) (list_all is_inner b)
    (sym (list_all-append is_inner (a ++ codes " ") b) ∙ whole)).1

-- ---- places

inner_place : (lane number : ℕ) → inner (place_text lane number)
inner_place lane number = inner_from (place_text lane number) (solid_place lane number)

inner_placed : (word : List ℕ) (lane number : ℕ) → inner word → inner (placed word lane number)
inner_placed word lane number w = spaced word (place_text lane number) w (inner_place lane number)

inner_board : (word : List ℕ) (lane number id : ℕ) → inner word
    → inner (board_on word lane number id)
inner_board word lane number id w =
    spaced (placed word lane number) (id_text id) (inner_placed word lane number w) (inner_id id)

inner_at_side : (word : List ℕ) (lane machine : ℕ) (side : Side) → inner word
    → inner (side_on word lane machine side)
inner_at_side word lane machine side w =
    spaced (placed word lane machine) (side_text side) (inner_placed word lane machine w)
    (inner_side side)

inner_numbered : (word : List ℕ) (number : ℕ) → inner word → inner (numbered word number)
inner_numbered word number w = spaced word (decimal number) w (inner_decimal number)

inner_switched : (word : List ℕ) (lane machine : ℕ) (signal : List ℕ) (on : Bool) → inner word
    → inner signal → inner (switched_on word lane machine signal on)
inner_switched word lane machine signal on w s =
    spaced (placed word lane machine ++ codes " " ++ signal) (switch_word on)
    (spaced (placed word lane machine) signal (inner_placed word lane machine w) s)
    (inner_switch on)

inner_between : (lane gap : ℕ) → inner (between_on lane gap)
inner_between lane gap =
    join is_inner (place_text lane gap ++ codes "-") (place_text lane (gap + 1))
    (join is_inner (place_text lane gap) (codes "-") (inner_place lane gap) refl)
    (inner_place lane (gap + 1))

-- ---- acts

inner_deed : (lane machine : ℕ) (deed : Deed) → inner (act_on lane machine (acts.Deed deed))
inner_deed lane machine (deeds.Opens id) = inner_board (codes "opens") lane machine id refl
inner_deed lane machine (deeds.Refuses id) = inner_board (codes "refuses") lane machine id refl
inner_deed lane machine (deeds.Leaves id) = inner_board (codes "leaves") lane machine id refl
inner_deed lane machine (deeds.Returns id) = inner_board (codes "returns") lane machine id refl
inner_deed lane machine (deeds.Loses id) = inner_board (codes "loses") lane machine id refl
inner_deed lane machine (deeds.Starts id) = inner_board (codes "starts") lane (machine - 1) id refl
inner_deed lane machine (deeds.Settles id) = inner_board (codes "settles") lane (machine - 1) id refl
inner_deed lane machine (deeds.Drops id) = inner_board (codes "drops") lane (machine - 1) id refl

inner_setting : (lane machine : ℕ) (setting : Setting)
    → inner (act_on lane machine (acts.Sets setting))
inner_setting lane machine (settings.Will side on) =
    inner_at_side (will_word on) lane machine side (inner_will on)
inner_setting lane machine (settings.Level line on) =
    inner_switched (codes "level") lane machine (line_word line) on refl (inner_line line)
inner_setting lane machine (settings.Supervise on) =
    spaced (numbered (codes "supervise") machine) (switch_word on)
    (inner_numbered (codes "supervise") machine refl) (inner_switch on)

-- what stands behind a machine's place is the same on each lane
inner_on : (lane machine : ℕ) (act : Act) → IsProperAct act → inner (act_on lane machine act)
inner_on lane machine (acts.Reads side event) proper =
    spaced (side_on (codes "reads") lane machine side) (event_text event)
    (inner_at_side (codes "reads") lane machine side refl) (inner_event event)
inner_on lane machine (acts.Hears side message) proper =
    spaced (side_on (codes "hears") lane machine side) (what_text message.body)
    (inner_at_side (codes "hears") lane machine side refl)
    (tail_of (at_side (codes "hears") machine side) (what_text message.body)
    (inner_act machine (acts.Hears side message) proper))
inner_on lane machine (acts.Breaches side text) proper =
    spaced (side_on (codes "breach") lane machine side) (in_line text)
    (inner_at_side (codes "breach") lane machine side refl)
    (tail_of (at_side (codes "breach") machine side) (in_line text)
    (inner_act machine (acts.Breaches side text) proper))
inner_on lane machine (acts.Sends side message) proper =
    spaced (side_on (codes "sends") lane machine side) (what_text message.body)
    (inner_at_side (codes "sends") lane machine side refl)
    (tail_of (at_side (codes "sends") machine side) (what_text message.body)
    (inner_act machine (acts.Sends side message) proper))
inner_on lane machine (acts.Closes side) proper =
    inner_at_side (codes "closes") lane machine side refl
inner_on lane machine (acts.Notices side) proper =
    inner_at_side (codes "notices") lane machine side refl
inner_on lane machine acts.Connects proper = inner_placed (codes "connects") lane machine refl
inner_on lane machine (acts.Deed deed) proper = inner_deed lane machine deed
inner_on lane machine (acts.Drive side on) proper = refl
inner_on lane machine (acts.Signals signal on) proper =
    inner_switched (codes "signals") lane machine (signal_word signal) on refl (inner_signal signal)
inner_on lane machine (acts.Marks id quality) proper =
    spaced (board_on (codes "mark") lane machine id) (quality_text quality)
    (inner_board (codes "mark") lane machine id refl) (inner_quality quality)
inner_on lane machine (acts.Subs id place) proper =
    inner_numbered (board_on (codes "sub") lane machine id) place
    (inner_board (codes "sub") lane machine id refl)
inner_on lane machine (acts.Inserts id) proper = inner_board (codes "insert") lane machine id refl
inner_on lane machine (acts.Removes id) proper = inner_board (codes "remove") lane machine id refl
inner_on lane machine (acts.Replaces old new) proper =
    spaced (board_on (codes "replace") lane machine old) (id_text new)
    (inner_board (codes "replace") lane machine old refl) (inner_id new)
inner_on lane machine (acts.Tells message) proper = inner_act machine (acts.Tells message) proper
inner_on lane machine (acts.Answered query order) proper =
    inner_act machine (acts.Answered query order) proper
inner_on lane machine (acts.Sets setting) proper = inner_setting lane machine setting
inner_on lane machine (acts.Gives id to) proper =
    spaced (placed (codes "shift") lane machine ++ codes " " ++ place_text to machine) (id_text id)
    (spaced (placed (codes "shift") lane machine) (place_text to machine)
    (inner_placed (codes "shift") lane machine refl) (inner_place to machine)) (inner_id id)
inner_on lane machine (acts.Gets id) proper = refl

-- ---- all that happens

pub inner_happening : (lane : ℕ) (happening : Happening) → IsProperHappening happening
    → inner (happening_on lane happening)
inner_happening lane (happenings.Lanes count) proper = inner_numbered (codes "lanes") count refl
inner_happening lane (happenings.Machine number capacity) proper =
    inner_numbered (numbered (codes "machine") number) capacity
    (inner_numbered (codes "machine") number refl)
inner_happening lane (happenings.Bridge number capacity) proper =
    inner_numbered (numbered (codes "bridge") number) capacity
    (inner_numbered (codes "bridge") number refl)
inner_happening lane (happenings.Done machine act) proper = inner_on lane machine act proper.1
inner_happening lane (happenings.Cut gap) proper = inner_placed (codes "cut") lane gap refl
inner_happening lane (happenings.Stop machine) proper = inner_numbered (codes "stop") machine refl
inner_happening lane (happenings.Spoils machine side) proper =
    inner_at_side (codes "spoils") lane machine side refl
inner_happening lane (happenings.Moved gap step) proper =
    spaced (placed (codes "move") lane gap) (move_word step)
    (inner_placed (codes "move") lane gap refl) (inner_move step)
inner_happening lane (happenings.Lie machine sensed) proper =
    spaced (side_on (codes "lie") lane machine sensed.side) (event_text sensed.event)
    (inner_at_side (codes "lie") lane machine sensed.side refl) (inner_event sensed.event)
inner_happening lane (happenings.Unseen machine side) proper =
    spaced (codes "unseen " ++ side_text side) (place_text lane machine)
    (join is_inner (codes "unseen ") (side_text side) refl (inner_side side))
    (inner_place lane machine)
inner_happening lane happenings.Unvouched proper = refl
inner_happening lane (happenings.No reason) proper =
    join is_inner (codes "no: ") (reason_text reason) refl (inner_reason reason)
inner_happening lane (happenings.Shown machine id quality) proper =
    spaced (board_on (codes "show") lane machine id) (quality_text quality)
    (inner_board (codes "show") lane machine id refl) (inner_quality quality)
inner_happening lane (happenings.ShownBetween gap id) proper =
    spaced (codes "show " ++ between_on lane gap) (id_text id)
    (join is_inner (codes "show ") (between_on lane gap) refl (inner_between lane gap))
    (inner_id id)
inner_happening lane (happenings.With machine id) proper =
    inner_board (codes "with") lane machine id refl
inner_happening lane (happenings.Between gap id) proper =
    inner_board (codes "between") lane gap id refl
inner_happening lane (happenings.Gone id) proper =
    join is_inner (codes "gone ") (id_text id) refl (inner_id id)
