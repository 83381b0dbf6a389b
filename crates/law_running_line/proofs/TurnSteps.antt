-- The machine's step in a turn keeps the relation of both its links. A machine reads a front of the events of each side: only the events
-- of each side by themselves count.
use Rattle.std.proofs.Common.{List, subst, sym, ℕ, ◌++◌, ◌+◌, ◌∙◌, ◌≡◌}
use Rattle.line_base.specs.declared.states.SensorEvent.{SensorEvent}
use Rattle.line_base.specs.declared.states.Side.TheVariants.{Entry, Exit}
use Rattle.board_record.specs.declared.record.Record.{Record}
use Rattle.board_record.specs.declared.sensed.Sensed.{Sensed}
use Rattle.node_core.specs.Desk.{Desk}
use Rattle.node_core.specs.Event.{Event, Nothing}
use Rattle.node_core.specs.Step.{machine_step}
use Rattle.node_core.specs.declared.lane.Body.{Body as Machine}
use Rattle.law_custody.specs.Floor.{EntryFloor, ExitFloor}
use Rattle.law_custody.specs.Pair.{Ghost}
use Rattle.law_custody.specs.Words.{events_at}
use Rattle.law_custody.proofs.Lists.{entry-append, exit-append}
use Rattle.law_machine_custody.specs.Ahead.{IsFreeRead}
use Rattle.law_machine_custody.specs.Flight.{IsPlain}
use Rattle.law_machine_custody.specs.Good.{Afar, Good}
use Rattle.law_machine_custody.specs.InTime.{IsMetInTime, IsReadEnough}
use Rattle.law_machine_custody.specs.Scene.{Scene}
use Rattle.law_machine_custody.proofs.Fronts.{fronts_go}
use Rattle.law_machine_custody.proofs.FrontRead.{Reads, reads_front}
use Rattle.law_machine_custody.proofs.Step.{plain_front}
use Rattle.law_one_standing.specs.Carried.{Trace, stand_of}
use Rattle.law_one_standing.proofs.Elsewhere.{afar_at, elsewhere_of, good_at}
use Rattle.law_running_line.specs.Reading.{ReadsFront}
use Rattle.law_running_line.specs.Running.{Running, unread_by}
use Rattle.law_running_line.specs.Stands.{Stands, between_of, line_of, node_in}
use Rattle.law_running_line.specs.Steady.{IsSteady, scene_of}

-- ---- the relation looks at the events of each side by themselves

pub good_events : {afar : Afar} {above : List Record} {ga gb : Ghost} {body : Machine} {c : Scene} (unread other : List Sensed) → events_at Exit other ≡ events_at Exit unread → events_at Entry other ≡ events_at Entry unread
    → Good afar above unread ga gb body c → Good afar above other ga gb body c
good_events {ga = ga} {gb = gb} {body = body} {c = c} unread other exit entry g = record {
  above_pair = record {
    out = g.above_pair.out;
    «in» = subst (λ (es : List SensorEvent). EntryFloor body.intake.phase es c.above.gap.entry_drive ga.place ga.board) (sym entry) g.above_pair.in;
    gap = g.above_pair.gap;
    talk = g.above_pair.talk;
  };
  below_pair = record {
    out = subst (λ (es : List SensorEvent). ExitFloor body.outlet.phase es c.below.gap.exit_drive gb.place gb.board) (sym exit) g.below_pair.out;
    «in» = g.below_pair.in;
    gap = g.below_pair.gap;
    talk = g.below_pair.talk;
  };
  boards = g.boards;
  above_contents = g.above_contents;
  below_contents = g.below_contents;
  above_holds = g.above_holds;
  below_holds = g.below_holds;
  entry_role = g.entry_role;
  exit_role = g.exit_role;
  away = g.away;
  here = g.here;
  recent = g.recent;
}

-- what is read, and what stays unread behind it, as one list
front_exit : {unread : List Sensed} (read rest : List Sensed) → ReadsFront unread read rest → events_at Exit (read ++ rest) ≡ events_at Exit unread
front_exit read rest front = exit-append read rest ∙ sym front.exit

front_entry : {unread : List Sensed} (read rest : List Sensed) → ReadsFront unread read rest → events_at Entry (read ++ rest) ≡ events_at Entry unread
front_entry read rest front = entry-append read rest ∙ sym front.entry

abbrev pub GoodBefore : Trace → Running → ℕ → List Sensed → Type 0
GoodBefore t s j unread = Good (afar_at (stand_of (line_of s)) (between_of t s) j) (node_in s j).lane.body.kept unread (t.ghost j) (t.ghost (j + 1)) (node_in s (j + 1)).lane.body (scene_of t s j)

front_before : {t : Trace} {s : Running} (j : ℕ) (read rest : List Sensed) → Stands t s → ReadsFront (unread_by (j + 1) s) read rest → GoodBefore t s j (read ++ rest)
front_before {t} {s} j read rest st front = good_events (unread_by (j + 1) s) (read ++ rest) (front_exit read rest front) (front_entry read rest front) (good_at (stand_of (line_of s)) (between_of t s) j st.keeps)

free_before : {t : Trace} {s : Running} (j : ℕ) (read rest : List Sensed) → Stands t s → ReadsFront (unread_by (j + 1) s) read rest → IsFreeRead (read ++ rest) (node_in s (j + 1)).lane.body
free_before j read rest st front = record { read = λ stands idle. front_entry read rest front ∙ (st.waits j).free.read stands idle }

-- ---- it reads a front, and takes nothing

pub reads_free : (t : Trace) (s : Running) (j : ℕ) (desk : Desk) (read rest : List Sensed) → Stands t s → ReadsFront (unread_by (j + 1) s) read rest → IsFreeRead rest (machine_step desk read Nothing (node_in s (j + 1)).lane.body).body
reads_free t s j desk read rest st front =
    (fronts_go desk read rest (node_in s (j + 1)).lane.body (scene_of t s j) (front_before j read rest st front) (free_before j read rest st front)).read

pub reads_steady : (t : Trace) (s : Running) (j : ℕ) (desk : Desk) (read rest : List Sensed) → Stands t s → ReadsFront (unread_by (j + 1) s) read rest → IsSteady t s j rest (machine_step desk read Nothing (node_in s (j + 1)).lane.body)
reads_steady t s j desk read rest st front = record {
  elsewhere = elsewhere_of (stand_of (line_of s) (j + 1)).place.boards;
  free = reads_free t s j desk read rest st front;
  goes = (fronts_go desk read rest (node_in s (j + 1)).lane.body (scene_of t s j) (front_before j read rest st front) (free_before j read rest st front)).goes;
}

-- ---- it takes an input, with the rest unread

pub reads_before : {t : Trace} {s : Running} (j : ℕ) (desk : Desk) (read rest : List Sensed) → Stands t s → ReadsFront (unread_by (j + 1) s) read rest
    → Reads (afar_at (stand_of (line_of s)) (between_of t s) j) (node_in s j).lane.body.kept (read ++ rest) rest (t.ghost j) (t.ghost (j + 1)) desk read (node_in s (j + 1)).lane.body (scene_of t s j)
reads_before {t} {s} j desk read rest st front = reads_front desk read rest (node_in s (j + 1)).lane.body (scene_of t s j) (front_before j read rest st front) (free_before j read rest st front)

pub takes_steady : (t : Trace) (s : Running) (j : ℕ) (desk : Desk) (read rest : List Sensed) (event : Event) → Stands t s → ReadsFront (unread_by (j + 1) s) read rest → IsPlain event (scene_of t s j) → IsMetInTime event rest → IsReadEnough rest (t.ghost j)
    → IsSteady t s j rest (machine_step desk read event (node_in s (j + 1)).lane.body)
takes_steady t s j desk read rest event st front plain in_time enough =
    let goes = plain_front desk read rest event (node_in s (j + 1)).lane.body (scene_of t s j) plain in_time (st.keeps.machines.at j).offers (front_before j read rest st front) (free_before j read rest st front) enough in
    record { elsewhere = elsewhere_of (stand_of (line_of s) (j + 1)).place.boards; free = goes.read; goes = goes.goes }
