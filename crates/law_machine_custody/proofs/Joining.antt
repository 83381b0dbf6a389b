-- A LINK IS CONNECTED, both steps as a line meets them: whatever lay on the link before is cut off by the connection.
use Rattle.std.proofs.Common.{List, [], refl, true, ◌∷◌, ◌≡◌}
use Rattle.line_base.specs.declared.states.Side.TheVariants.{Entry, Exit}
use Rattle.board_record.specs.declared.record.Record.{Record}
use Rattle.board_record.specs.declared.sensed.Sensed.{Sensed}
use Rattle.hermes_horizontal.specs.declared.message.Horizontal.TheVariants as message
use Rattle.hermes_horizontal.specs.declared.message.Service.{Service}
use Rattle.session_core.specs.declared.state.SessionState.TheVariants.{Handshake, NotConnected}
use Rattle.handover_in.specs.State.{may_connect}
use Rattle.node_core.specs.Desk.{Desk}
use Rattle.node_core.specs.Event.{Accepted, Connect}
use Rattle.node_core.specs.Step.{machine_step}
use Rattle.node_core.specs.declared.lane.Body.{Body as Machine}
use Rattle.law_custody.specs.Pair.{Ghost}
use Rattle.law_machine_custody.specs.Scene.{Scene, all_met}
use Rattle.law_machine_custody.specs.Good.{Afar, Goes, GoesBy, Good}
use Rattle.law_machine_custody.specs.Joined.{described_by, with_link}
use Rattle.law_machine_custody.proofs.Accepting.{accepts_go}
use Rattle.law_machine_custody.proofs.Called.{LeavesAbove, connect_leaves, connect_met, connect_shakes}
use Rattle.law_machine_custody.proofs.Connecting.{connects_go}
use Rattle.law_machine_custody.proofs.Cutting.{cut_at, cut_good}

-- the first step of a first connection: in the scene of the relation the link doesn't stand yet, and in the real one it
-- does, with the description on its way
pub record Calls (afar : Afar) (above : List Record) (ga gb : Ghost) (desk : Desk) (unread : List Sensed) (body : Machine) (c : Scene) : Type 0 where
  pub goes : GoesBy afar above [] ga gb (cut_at Entry c) (machine_step desk unread Connect body)
  pub real : all_met (machine_step desk unread Connect body).acts (with_link Entry true [] [] c)
      ≡ with_link Entry true (message.ServiceDescription (described_by desk) ∷ []) [] (all_met (machine_step desk unread Connect body).acts (cut_at Entry c))
  pub leaves : LeavesAbove (cut_at Entry c) (all_met (machine_step desk unread Connect body).acts (cut_at Entry c))
  pub shakes : (machine_step desk unread Connect body).body.entry.session.state ≡ Handshake

pub first_calls : {afar : Afar} {above : List Record} {ga gb : Ghost} (desk : Desk) (unread : List Sensed) (body : Machine) (c : Scene) → Good afar above unread ga gb body c
    → body.entry.session.state ≡ NotConnected → may_connect body.intake.phase ≡ true → Calls afar above ga gb desk unread body c
first_calls desk unread body c g away m =
    let h = cut_good Entry g in
    record {
      goes = connects_go desk unread body (cut_at Entry c) h away m refl;
      real = connect_met desk unread body (cut_at Entry c) true [] [] h away;
      leaves = connect_leaves desk unread body (cut_at Entry c) h away refl;
      shakes = connect_shakes desk unread body (cut_at Entry c) h away;
    }

-- the second step: the exit takes the connection
pub first_accepts : {afar : Afar} {above : List Record} {ga gb : Ghost} (desk : Desk) (unread : List Sensed) (body : Machine) (c : Scene) (service : Service) → Good afar above unread ga gb body c
    → body.exit.session.state ≡ NotConnected → c.below.entry ≡ Handshake
    → Goes afar above [] ga gb c (machine_step desk unread Accepted body).body
    (all_met (machine_step desk unread Accepted body).acts (with_link Exit true (message.ServiceDescription service ∷ []) [] c))
first_accepts desk unread body c service g away shakes = accepts_go desk unread body c service (cut_good Exit g) away shakes
