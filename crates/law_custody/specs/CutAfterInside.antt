-- The states of a link in the run 'cut after the board is in': the connection is cut as the board
-- has come inside, and before either machine has read so.
use Rattle.std.specs.Prelude.{Bool, List, None, Some, [], false, true, ◌∷◌}
use Rattle.line_base.specs.declared.states.Seen.TheVariants as seen
use Rattle.line_base.specs.declared.states.SensorEvent.TheVariants as event
use Rattle.board_record.specs.declared.record.Record.{Record}
use Rattle.board_record.specs.declared.sensed.Sensed.{Sensed}
use Rattle.hermes_horizontal.specs.declared.message.Horizontal.{Horizontal}
use Rattle.hermes_horizontal.specs.declared.message.Horizontal.TheVariants as message
use Rattle.hermes_horizontal.specs.declared.message.Service.{Service}
use Rattle.session_core.specs.declared.state.SessionState.{SessionState}
use Rattle.session_core.specs.declared.state.SessionState.TheVariants.{Handshake, NotConnected, Standing}
use Rattle.line_world.specs.Moves.{entry_sees, exit_sees}
use Rattle.line_world.specs.declared.gap.Gap.{Gap}
use Rattle.line_world.specs.declared.gap.Gap.TheVariants as gaps
use Rattle.handover_out.specs.declared.phase.Phase.{Phase as Out}
use Rattle.handover_out.specs.declared.phase.Phase.TheVariants as out
use Rattle.handover_in.specs.declared.phase.Phase.{Phase as In}
use Rattle.handover_in.specs.declared.phase.Phase.TheVariants as inn
use Rattle.law_custody.specs.Pair.{Ghost, LinkState, board_of}
use Rattle.law_custody.specs.Place.{Place}

-- a link of this outlet and this intake, on which this board was offered last and nothing is now:
-- the machines' unread events and drives, what lies in the gap, and what is in flight
abbrev pub link_of : Record → Out → List Sensed → Bool → In → List Sensed → Bool → Gap → Bool → SessionState
    → SessionState → List Horizontal → List Horizontal → LinkState
link_of a o uu xd i du ed lies stands x y up down = record {
  exit = x;
  outlet = record { phase = o; offered = None; touched = None; ready = false };
  last_offer = Some a.id;
  entry = y;
  intake = record { phase = i; offer = None; ready = false };
  stands = stands;
  around = record {
    up = record { boards = []; unread = uu };
    between = record { lies = lies; exit_drive = xd; entry_drive = ed };
    down =
        record { boards = []; unread = du };
  };
  up = up;
  down = down;
}

-- the start opened the outlet
abbrev pub link_opened : Record → LinkState
link_opened a =
    link_of a (out.Moving a false) [] true
    (inn.Taking a seen.NotStarted false) [] true gaps.Free true Standing Standing [] []

-- the board begins, leaves and comes inside
abbrev pub link_begun : Record → LinkState
link_begun a =
    link_of a (out.Moving a false) (exit_sees event.Begun ∷ []) true
    (inn.Taking a seen.NotStarted false) (entry_sees event.Begun ∷ []) true
    (gaps.Begun (board_of a)) true Standing Standing [] []

abbrev pub link_across : Record → LinkState
link_across a =
    link_of a (out.Moving a false) (exit_sees event.Begun ∷ exit_sees event.Left ∷ []) false
    (inn.Taking a seen.NotStarted false) (entry_sees event.Begun ∷ []) true
    (gaps.Left (board_of a)) true Standing Standing [] []

abbrev pub link_inside : Record → LinkState
link_inside a =
    link_of a (out.Moving a false) (exit_sees event.Begun ∷ exit_sees event.Left ∷ []) false
    (inn.Taking a seen.NotStarted false)
    (entry_sees event.Begun ∷ entry_sees event.Full ∷ []) false gaps.Free true Standing Standing []
    []

-- the link is cut, and then the downstream machine notices it, and the upstream one
abbrev pub link_cut_off : Record → LinkState
link_cut_off a =
    link_of a (out.Moving a false) (exit_sees event.Begun ∷ exit_sees event.Left ∷ []) false
    (inn.Taking a seen.NotStarted false)
    (entry_sees event.Begun ∷ entry_sees event.Full ∷ []) false gaps.Free false Standing Standing
    [] []

abbrev pub link_noticed_downstream : Record → LinkState
link_noticed_downstream a =
    link_of a (out.Moving a false) (exit_sees event.Begun ∷ exit_sees event.Left ∷ []) false
    (inn.Waiting a seen.Complete false) [] false gaps.Free false Standing NotConnected [] []

abbrev pub link_noticed_upstream : Record → LinkState
link_noticed_upstream a =
    link_of a out.Idle [] false
    (inn.Waiting a seen.Complete false) [] false gaps.Free false NotConnected NotConnected [] []

-- a new connection: each machine describes itself, and then the board settles
abbrev pub link_connected : Record → Service → LinkState
link_connected a service =
    link_of a out.Idle [] false
    (inn.Waiting a seen.Complete false) [] false gaps.Free true Handshake Handshake
    (message.ServiceDescription service ∷ []) []

abbrev pub link_answered : Record → Service → LinkState
link_answered a service =
    link_of a out.Idle [] false
    (inn.Waiting a seen.Complete false) [] false gaps.Free true Standing Handshake []
    (message.ServiceDescription service ∷ [])

abbrev pub link_settled : Record → LinkState
link_settled a = link_of a out.Idle [] false inn.Idle [] false gaps.Free true Standing Standing [] []

abbrev pub ghost_at : Place → Record → Ghost
ghost_at place a = record { place = place; board = a }
