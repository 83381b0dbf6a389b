-- AN ACT AS NUMBERS: what kind it is, at which side, what it says, and which boards it names.
use Rattle.std.specs.Prelude.{ℕ}
use Rattle.line_base.specs.declared.states.Side.{Side}
use Rattle.hermes_horizontal.specs.Parts.{kind_of}
use Rattle.hermes_horizontal.specs.declared.message.Message.{Message}
use Rattle.hermes_vertical.specs.declared.message.Vertical.{Vertical}
use Rattle.hermes_vertical.specs.declared.message.Vertical.TheVariants as vertical
use Rattle.node_core.specs.declared.act.Act.{Act}
use Rattle.node_core.specs.declared.act.Act.TheVariants as acts
use Rattle.node_core.specs.declared.act.Deed.{Deed}
use Rattle.node_core.specs.declared.act.Deed.TheVariants as deeds
use Rattle.machine_port.specs.Numbers.{
  event_number,
  flag,
  id_bytes,
  message_number,
  quality_number,
  side_number,
  signal_number,
}
use Rattle.machine_port.specs.declared.act.HermesAct.{HermesAct}

-- an act of this kind, with two numbers: what it doesn't name is 0
abbrev pub numbered : ℕ → ℕ → ℕ → HermesAct
numbered kind side what = record {
  size = 56;
  kind = kind;
  side = side;
  what = what;
  query = 0;
  id = id_bytes 0;
  other = id_bytes 0;
}

abbrev pub at_side : ℕ → Side → ℕ → HermesAct
at_side kind side what = numbered kind (side_number side) what

-- of a board
abbrev pub of_board : ℕ → ℕ → ℕ → ℕ → HermesAct
of_board kind side what id = record (numbered kind side what) { id = id_bytes id }

-- of a message
abbrev pub of_message : ℕ → Side → Message → HermesAct
of_message kind side message = at_side kind side (message_number (kind_of message.body))

abbrev pub deed_seen : Deed → HermesAct
deed_seen (deeds.Opens id) = of_board 7 1 0 id
deed_seen (deeds.Refuses id) = of_board 8 1 0 id
deed_seen (deeds.Leaves id) = of_board 9 1 0 id
deed_seen (deeds.Returns id) = of_board 10 1 0 id
deed_seen (deeds.Loses id) = of_board 11 1 0 id
deed_seen (deeds.Starts id) = of_board 12 0 0 id
deed_seen (deeds.Settles id) = of_board 13 0 0 id
deed_seen (deeds.Drops id) = of_board 14 0 0 id

-- what a supervisor is told or asked
abbrev pub told_seen : Vertical → HermesAct
told_seen (vertical.BoardArrived passage) = of_board 21 0 16 passage.id
told_seen (vertical.BoardDeparted passage) = of_board 21 0 17 passage.id
told_seen (vertical.QueryWorkOrderInfo query question) =
    record (numbered 21 0 18) { query = query }
told_seen body = numbered 21 0 31

-- HOW AN ACT IS SEEN
abbrev pub act_seen : Act → HermesAct
act_seen (acts.Reads side event) = at_side 0 side (event_number event)
act_seen (acts.Hears side message) = of_message 1 side message
act_seen (acts.Breaches side text) = at_side 2 side 0
act_seen (acts.Sends side message) = of_message 3 side message
act_seen (acts.Closes side) = at_side 4 side 0
act_seen (acts.Notices side) = at_side 5 side 0
act_seen acts.Connects = numbered 6 0 0
act_seen (acts.Deed deed) = deed_seen deed
act_seen (acts.Drive side on) = at_side 15 side (flag on)
act_seen (acts.Signals signal on) = numbered 16 (signal_number signal) (flag on)
act_seen (acts.Marks id quality) = of_board 17 0 (quality_number quality) id
act_seen (acts.Inserts id) = of_board 18 0 0 id
act_seen (acts.Removes id) = of_board 19 0 0 id
act_seen (acts.Replaces old new) = record (of_board 20 0 0 old) { other = id_bytes new }
act_seen (acts.Tells message) = told_seen message.body
act_seen (acts.Answered query order) = record (numbered 22 0 0) { query = query }
act_seen (acts.Sets setting) = numbered 23 0 0
act_seen (acts.Subs id place) = of_board 24 0 place id
-- of a machine of several lanes alone
act_seen (acts.Gives id to) = of_board 25 0 to id
act_seen (acts.Gets id) = of_board 26 0 0 id
