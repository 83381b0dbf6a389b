-- A machine that reads its sensor events in its own time.
use Rattle.std.specs.Prelude.{List, [], ◌≡◌}
use Rattle.line_base.specs.declared.states.Side.TheVariants.{Entry}
use Rattle.board_record.specs.declared.record.Record.{Record}
use Rattle.board_record.specs.declared.sensed.Sensed.{Sensed}
use Rattle.session_core.specs.declared.state.SessionState.TheVariants.{Standing}
use Rattle.handover_in.specs.declared.phase.Phase.TheVariants as inn
use Rattle.node_core.specs.Done.{Done}
use Rattle.node_core.specs.declared.lane.Body.{Body as Machine}
use Rattle.law_custody.specs.Pair.{Ghost}
use Rattle.law_custody.specs.Words.{events_at}
use Rattle.law_machine_custody.specs.Good.{Afar, Goes}
use Rattle.law_machine_custody.specs.Scene.{Scene, all_met}

-- of the events that a machine has not read, none is of its entry while its intake is free in a
-- session that stands: what may be announced there is announced behind all that was seen
pub record IsFreeRead (unread : List Sensed) (body : Machine) : Type 0 where
  pub read : body.entry.session.state ≡ Standing → body.intake.phase ≡ inn.Idle
      → events_at Entry unread ≡ []

-- the relation goes on to this scene, and so does that
pub record GoesTo (afar : Afar) (above : List Record) (unread : List Sensed) (ga gb : Ghost)
    (c : Scene) (after : Machine) (d : Scene) : Type 0 where
  pub goes : Goes afar above unread ga gb c after d
  pub read : IsFreeRead unread after

abbrev pub GoesAhead : Afar → List Record → List Sensed → Ghost → Ghost → Scene → Done → Type 0
GoesAhead afar above unread ga gb c d =
    GoesTo afar above unread ga gb c d.body (all_met d.acts c)
