-- A step of the machine in a run: its messages wait on the ways of their sides, a side that it
-- closes is to end, and the panel is told of it.
use Rattle.std.specs.Prelude.{◌≡◌, ◌++◌, ℕ, ℤ, Bool, true, false, List, [], ◌∷◌, Some, Result, Ok, Err, flat_map, if◌then◌else◌}
use Rattle.std.specs.List.{list_any}
use Rattle.line_base.specs.declared.states.Side.{Side}
use Rattle.line_base.specs.declared.states.Side.TheVariants.{Entry, Exit}
use Rattle.line_outside.specs.declared.way.Way.TheVariants as ways
use Rattle.board_record.specs.declared.sensed.Sensed.{Sensed}
use Rattle.book_entry.specs.declared.entry.Entry.{Entry as BookEntry}
use Rattle.book_entry.specs.Given.{entry_of}
use Rattle.hermes_horizontal.specs.Canonical.{canonical}
use Rattle.node_core.specs.Node.{NodeState}
use Rattle.node_core.specs.Step.{Steps}
use Rattle.node_core.specs.declared.act.Act.{Act}
use Rattle.node_core.specs.declared.act.Act.TheVariants as acts
use Rattle.node_core.specs.declared.input.Input.{Input}
use Rattle.node_core.specs.declared.input.No.{No}
use Rattle.supervised_end.specs.Said.{all_told_for}
use Rattle.node_run.specs.declared.rules.Rules.{Rules}
use Rattle.machine_log.specs.Account.{AreProper}
use Rattle.machine_log.specs.Drives.{drives_after}
use Rattle.node_run.specs.State.{WayValue, RunState, echoed, one_more}
use Rattle.machine_log.specs.Texts.{lines_of, news_lines}
use Rattle.node_run.specs.declared.way_state.Wire.{Wire}
use Rattle.node_run.specs.declared.way_state.Wire.TheVariants as wires

-- the text of an act that sends on a side
abbrev pub message_for : Side → Act → List ℕ
message_for Entry (acts.Sends Entry message) = canonical message
message_for Exit (acts.Sends Exit message) = canonical message
message_for side act = []

abbrev pub messages_for : Side → List Act → List ℕ
messages_for side told = flat_map (message_for side) told

abbrev pub closes_side : Side → Act → Bool
closes_side Entry (acts.Closes Entry) = true
closes_side Exit (acts.Closes Exit) = true
closes_side side act = false

abbrev pub wire_after : Side → List Act → Wire → Wire
wire_after side told wire = if list_any (closes_side side) told then wires.Ends else wire

abbrev pub put : Side → List Act → WayValue → WayValue
put side told way =
    record { wire = wire_after side told way.wire; unsent = way.unsent ++ messages_for side told }

abbrev pub put_told : Bool → List Act → WayValue → WayValue
put_told stands told way = record way { unsent = way.unsent ++ all_told_for stands told }

abbrev pub routed : List Act → RunState → RunState
routed told s = record s {
  upstream = put Entry told s.upstream;
  downstream = put Exit told s.downstream;
  supervisory = put_told s.channel.stands told s.supervisory;
}

-- what a step does to its machine. ITS ENTRY IS THE LAST from then on
abbrev pub with_node : BookEntry → NodeState → List Act → RunState → RunState
with_node entry node told s =
    record s {
      node = node;
      drives = drives_after s.drives told;
      step = one_more entry s.step;
    }

-- what the panel is told of a step: all its lines, where it asked for the step, and else its news
-- alone, where it has a connection
abbrev pub panel_lines : Bool → Rules → ℕ → Wire → List Act → List ℕ
panel_lines true rules turn wire told = lines_of rules.panel.drives turn rules.number told
panel_lines false rules turn wires.Stands told =
    news_lines rules.panel.drives turn rules.number told
panel_lines false rules turn wire told = []

abbrev pub panel_told : Bool → Rules → List Act → RunState → RunState
panel_told asked rules told s = echoed (panel_lines asked rules s.turn s.panel.wire told) s

-- the run after a step of its machine, that did these acts
abbrev pub stepped : Bool → Rules → BookEntry → NodeState → List Act → RunState → RunState
stepped asked rules entry node told s =
    panel_told asked rules told (with_node entry node told (routed told s))

-- ONE STEP, that the panel asked for or not, with its lines in the log
pub record TakesStep (asked : Bool) (rules : Rules) (moment : ℤ) (sensed : List Sensed)
    (input : Input) (s t : RunState) (log : List ℕ) : Type 0 where
  pub node : NodeState
  pub told : List Act
  pub steps : Steps s.node sensed input moment node told
  pub proper : AreProper told
  pub after : t ≡ stepped asked rules (entry_of sensed input moment) node told s
  pub lines : log ≡ lines_of rules.panel.drives s.turn rules.number told

-- one step from this state that no line of the panel asked for, where the machine can take the
-- input, and else nothing from that one
abbrev pub Takes : Result (Unit {0}) No → Rules → ℤ → Input → RunState → RunState → RunState
    → List ℕ → Type 0
Takes (Ok done) rules moment input from s t log = TakesStep false rules moment [] input from t log
Takes (Err why) rules moment input from s t log = (t ≡ s) × (log ≡ [])

-- of the acts at a second connection, the first is for that
abbrev pub text_of_first : List Act → List ℕ
text_of_first [] = []
text_of_first (first ∷ others) = message_for Exit first

abbrev pub others : List Act → List Act
others [] = []
others (first ∷ told) = told

abbrev pub refusing_with : List Act → RunState → RunState
refusing_with told s =
    record (routed (others told) s) {
      refusal = Some
          (record { way = ways.Downstream; text = text_of_first told });
    }

abbrev pub refusing : Rules → BookEntry → NodeState → List Act → RunState → RunState
refusing rules entry node told s =
    panel_told false rules told (with_node entry node told (refusing_with told s))

pub record TakesSecond (rules : Rules) (moment : ℤ) (input : Input) (s t : RunState)
    (log : List ℕ) : Type 0 where
  pub node : NodeState
  pub told : List Act
  pub steps : Steps s.node [] input moment node told
  pub proper : AreProper told
  pub after : t ≡ refusing rules (entry_of [] input moment) node told s
  pub lines : log ≡ lines_of rules.panel.drives s.turn rules.number told

abbrev pub MeetsSecond : Result (Unit {0}) No → Rules → ℤ → Input → RunState → RunState → List ℕ
    → Type 0
MeetsSecond (Ok done) rules moment input s t log = TakesSecond rules moment input s t log
MeetsSecond (Err why) rules moment input s t log = (t ≡ s) × (log ≡ [])

-- ---- what the code does first: the machine's step and its lines

pub record HasStepped (rules : Rules) (moment : ℤ) (sensed : List Sensed) (input : Input)
    (told : List Act) (s t : RunState) (log : List ℕ) : Type 0 where
  pub steps : Steps s.node sensed input moment t.node told
  pub proper : AreProper told
  pub after : t ≡ with_node (entry_of sensed input moment) t.node told s
  pub lines : log ≡ lines_of rules.panel.drives s.turn rules.number told
