-- What is as before when a machine has read its sensor events.
use Rattle.std.proofs.Common.{Bool, List, None, Option, Some, [], ap, refl, subst, sym, ℕ, ◌∙◌, ◌∷◌, ◌≡◌}
use Rattle.line_base.specs.declared.states.SensorEvent.{SensorEvent}
use Rattle.line_base.specs.declared.states.Side.{Side}
use Rattle.line_base.specs.declared.states.Side.TheVariants.{Entry, Exit}
use Rattle.board_record.specs.declared.record.Record.{Record}
use Rattle.board_record.specs.declared.sensed.Sensed.{Sensed}
use Rattle.handover_out.specs.Row.{OutRow, last_after, outlet_row}
use Rattle.handover_out.specs.State.{OutState}
use Rattle.handover_out.specs.Table.{IsOutletRow, back_again, back_ended, back_idle, back_moving, back_stopped, back_stuck, back_unlinked, begun_again, begun_ended, begun_idle, begun_moving, begun_stuck, full_ended, full_idle, full_moving, full_stuck, left_ended, left_idle, left_moving, left_stopped, left_stuck, left_unlinked, taken_ended, taken_home, taken_idle, taken_moving, taken_stopped, taken_stuck, taken_unlinked}
use Rattle.handover_out.specs.declared.act.OutDeed.{OutDeed}
use Rattle.handover_out.specs.declared.act.OutSend.{OutSend}
use Rattle.handover_out.specs.declared.act.OutSend.TheVariants as out_sends
use Rattle.handover_out.specs.declared.input.OutInput.TheVariants as out_input
use Rattle.handover_out.proofs.Rows.{row_is}
use Rattle.handover_in.specs.Row.{InRow, intake_row}
use Rattle.handover_in.specs.State.{InState}
use Rattle.handover_in.specs.Table.{IsIntakeRow, sensed_idle}
use Rattle.handover_in.specs.declared.act.InDeed.{InDeed}
use Rattle.handover_in.specs.declared.act.InSend.{InSend}
use Rattle.handover_in.specs.declared.input.InInput.TheVariants as in_input
use Rattle.handover_in.specs.declared.phase.Phase.TheVariants as inn
use Rattle.handover_in.proofs.Rows.{row_is as in_row_is}
use Rattle.node_core.specs.Desk.{Desk}
use Rattle.node_core.specs.Done.{Done}
use Rattle.node_core.specs.Halves.{intake_row_did, outlet_row_did}
use Rattle.node_core.specs.Reads.{all_read, saw}
use Rattle.node_core.specs.Told.{in_told, out_told}
use Rattle.node_core.specs.declared.lane.Body.{Body as Machine}
use Rattle.law_machine_custody.specs.Flight.{unheard}
use Rattle.law_machine_custody.specs.Scene.{Scene, all_met}
use Rattle.law_machine_custody.proofs.Goes.{met_append}
use Rattle.law_machine_custody.proofs.Listening.{in_leaves, out_leaves}

-- ---- the messages to either side

pub outlet_leaves : (side : Side) (desk : Desk) (body : Machine) (row : Option OutRow) (c : Scene) → unheard side (all_met (outlet_row_did desk body row).acts c) ≡ unheard side c
outlet_leaves side desk body None c = refl
outlet_leaves side desk body (Some row) c = out_leaves side desk body.kept row.act.deed row.act.send row.act.drive row.act.back c

pub intake_leaves : (side : Side) (desk : Desk) (body : Machine) (row : Option InRow) (c : Scene) → unheard side (all_met (intake_row_did desk body row).acts c) ≡ unheard side c
intake_leaves side desk body None c = refl
intake_leaves side desk body (Some row) c = in_leaves side desk row.act.deed row.act.send row.act.drive row.act.keep row.act.taken c

saw_leaves : (side : Side) (desk : Desk) (at : Side) (event : SensorEvent) (body : Machine) (c : Scene) → unheard side (all_met (saw desk at event body).acts c) ≡ unheard side c
saw_leaves side desk Entry event body c = intake_leaves side desk body (intake_row body.intake (in_input.Sensed event)) c
saw_leaves side desk Exit event body c = outlet_leaves side desk body (outlet_row body.outlet (out_input.Sensed event)) c

-- a fact that each event keeps is kept by all
all_keep : (P : Machine → Scene → Type 0) (desk : Desk) → ((side : Side) (event : SensorEvent) (body : Machine) (c : Scene) → P body c → P (saw desk side event body).body (all_met (saw desk side event body).acts c))
    → (unread : List Sensed) (body : Machine) (c : Scene) → P body c → P (all_read desk unread body).body (all_met (all_read desk unread body).acts c)
all_keep P desk keep [] body c p = p
all_keep P desk keep (sensed ∷ others) body c p =
    let first : Done = saw desk sensed.side sensed.event body in
    subst (λ s. P (all_read desk others first.body).body s) (sym (met_append first.acts (all_read desk others first.body).acts c))
    (all_keep P desk keep others first.body (all_met first.acts c) (keep sensed.side sensed.event body c p))

pub read_leaves : (side : Side) (desk : Desk) (unread : List Sensed) (body : Machine) (c : Scene) → unheard side (all_met (all_read desk unread body).acts c) ≡ unheard side c
read_leaves side desk unread body c = all_keep (λ b d. unheard side d ≡ unheard side c) desk (λ at event b d is. saw_leaves side desk at event b d ∙ is) unread body c refl

-- ---- the boards of the machine

out_lists : (desk : Desk) (kept : List Record) (deed : Option OutDeed) (send : Option OutSend) (drive : Option Bool) (back : Option Record) (c : Scene)
    → (all_met (out_told desk kept (record { deed = deed; send = send; drive = drive; back = back })) c).boards ≡ c.boards
out_lists desk kept None None None back c = refl
out_lists desk kept None None (Some on) back c = refl
out_lists desk [] None (Some out_sends.BoardAvailable) None back c = refl
out_lists desk [] None (Some out_sends.BoardAvailable) (Some on) back c = refl
out_lists desk (r ∷ rs) None (Some out_sends.BoardAvailable) None back c = refl
out_lists desk (r ∷ rs) None (Some out_sends.BoardAvailable) (Some on) back c = refl
out_lists desk kept None (Some out_sends.RevokeBoardAvailable) None back c = refl
out_lists desk kept None (Some out_sends.RevokeBoardAvailable) (Some on) back c = refl
out_lists desk kept None (Some (out_sends.Finished state id)) None back c = refl
out_lists desk kept None (Some (out_sends.Finished state id)) (Some on) back c = refl
out_lists desk kept (Some deed) None None back c = refl
out_lists desk kept (Some deed) None (Some on) back c = refl
out_lists desk [] (Some deed) (Some out_sends.BoardAvailable) None back c = refl
out_lists desk [] (Some deed) (Some out_sends.BoardAvailable) (Some on) back c = refl
out_lists desk (r ∷ rs) (Some deed) (Some out_sends.BoardAvailable) None back c = refl
out_lists desk (r ∷ rs) (Some deed) (Some out_sends.BoardAvailable) (Some on) back c = refl
out_lists desk kept (Some deed) (Some out_sends.RevokeBoardAvailable) None back c = refl
out_lists desk kept (Some deed) (Some out_sends.RevokeBoardAvailable) (Some on) back c = refl
out_lists desk kept (Some deed) (Some (out_sends.Finished state id)) None back c = refl
out_lists desk kept (Some deed) (Some (out_sends.Finished state id)) (Some on) back c = refl

in_lists : (desk : Desk) (deed : Option InDeed) (send : Option InSend) (drive : Option Bool) (keep : Option Record) (gone : Bool) (c : Scene)
    → (all_met (in_told desk (record { deed = deed; send = send; drive = drive; keep = keep; taken = gone })) c).boards ≡ c.boards
in_lists desk None None None keep gone c = refl
in_lists desk None None (Some on) keep gone c = refl
in_lists desk None (Some send) None keep gone c = refl
in_lists desk None (Some send) (Some on) keep gone c = refl
in_lists desk (Some deed) None None keep gone c = refl
in_lists desk (Some deed) None (Some on) keep gone c = refl
in_lists desk (Some deed) (Some send) None keep gone c = refl
in_lists desk (Some deed) (Some send) (Some on) keep gone c = refl

outlet_lists : (desk : Desk) (body : Machine) (row : Option OutRow) (c : Scene) → (all_met (outlet_row_did desk body row).acts c).boards ≡ c.boards
outlet_lists desk body None c = refl
outlet_lists desk body (Some row) c = out_lists desk body.kept row.act.deed row.act.send row.act.drive row.act.back c

intake_lists : (desk : Desk) (body : Machine) (row : Option InRow) (c : Scene) → (all_met (intake_row_did desk body row).acts c).boards ≡ c.boards
intake_lists desk body None c = refl
intake_lists desk body (Some row) c = in_lists desk row.act.deed row.act.send row.act.drive row.act.keep row.act.taken c

pub saw_lists : (desk : Desk) (at : Side) (event : SensorEvent) (body : Machine) (c : Scene) → (all_met (saw desk at event body).acts c).boards ≡ c.boards
saw_lists desk Entry event body c = intake_lists desk body (intake_row body.intake (in_input.Sensed event)) c
saw_lists desk Exit event body c = outlet_lists desk body (outlet_row body.outlet (out_input.Sensed event)) c

pub read_lists : (desk : Desk) (unread : List Sensed) (body : Machine) (c : Scene) → (all_met (all_read desk unread body).acts c).boards ≡ c.boards
read_lists desk unread body c = all_keep (λ b d. d.boards ≡ c.boards) desk (λ at event b d is. saw_lists desk at event b d ∙ is) unread body c refl

-- ---- an idle intake

idle_row : (s : InState) (event : SensorEvent) (row : InRow) → IsIntakeRow s (in_input.Sensed event) row → s.phase ≡ inn.Idle → row.after.phase ≡ inn.Idle
idle_row _ _ _ sensed_idle is = is
idle_row _ _ _ _ is = cc

idle_took : (desk : Desk) (body : Machine) (event : SensorEvent) (row : Option InRow) → intake_row body.intake (in_input.Sensed event) ≡ row → body.intake.phase ≡ inn.Idle → (intake_row_did desk body row).body.intake.phase ≡ inn.Idle
idle_took desk body event None found is = is
idle_took desk body event (Some row) found is = idle_row body.intake event row (in_row_is body.intake (in_input.Sensed event) row found) is

pub outlet_apart : (desk : Desk) (body : Machine) (row : Option OutRow) → (outlet_row_did desk body row).body.intake ≡ body.intake
outlet_apart desk body None = refl
outlet_apart desk body (Some row) = refl

saw_idle : (desk : Desk) (at : Side) (event : SensorEvent) (body : Machine) → body.intake.phase ≡ inn.Idle → (saw desk at event body).body.intake.phase ≡ inn.Idle
saw_idle desk Entry event body is = idle_took desk body event (intake_row body.intake (in_input.Sensed event)) refl is
saw_idle desk Exit event body is = ap (λ (s : InState). s.phase) (outlet_apart desk body (outlet_row body.outlet (out_input.Sensed event))) ∙ is

pub read_idle : (desk : Desk) (unread : List Sensed) (body : Machine) (c : Scene) → body.intake.phase ≡ inn.Idle → (all_read desk unread body).body.intake.phase ≡ inn.Idle
read_idle desk unread body c is = all_keep (λ b d. b.intake.phase ≡ inn.Idle) desk (λ at event b d is. saw_idle desk at event b is) unread body c is

-- ---- what was offered last: no sensor event offers

last_row : (s : OutState) (event : SensorEvent) (row : OutRow) (last : Option ℕ) → IsOutletRow s (out_input.Sensed event) row → last_after row last ≡ last
last_row _ _ _ last begun_moving = refl
last_row _ _ _ last _ = refl

last_took : (desk : Desk) (body : Machine) (event : SensorEvent) (row : Option OutRow) → outlet_row body.outlet (out_input.Sensed event) ≡ row → (outlet_row_did desk body row).body.last_offer ≡ body.last_offer
last_took desk body event None found = refl
last_took desk body event (Some row) found = last_row body.outlet event row body.last_offer (row_is body.outlet (out_input.Sensed event) row found)

last_apart : (desk : Desk) (body : Machine) (row : Option InRow) → (intake_row_did desk body row).body.last_offer ≡ body.last_offer
last_apart desk body None = refl
last_apart desk body (Some row) = refl

saw_last : (desk : Desk) (at : Side) (event : SensorEvent) (body : Machine) → (saw desk at event body).body.last_offer ≡ body.last_offer
saw_last desk Entry event body = last_apart desk body (intake_row body.intake (in_input.Sensed event))
saw_last desk Exit event body = last_took desk body event (outlet_row body.outlet (out_input.Sensed event)) refl

pub read_last : (desk : Desk) (unread : List Sensed) (body : Machine) (c : Scene) → (all_read desk unread body).body.last_offer ≡ body.last_offer
read_last desk unread body c = all_keep (λ b d. b.last_offer ≡ body.last_offer) desk (λ at event b d is. saw_last desk at event b ∙ is) unread body c refl

-- ---- a board that was never offered

untouched_row : (s : OutState) (event : SensorEvent) (row : OutRow) (id : ℕ) → IsOutletRow s (out_input.Sensed event) row → (s.touched ≡ Some id → ⊥) → row.after.touched ≡ Some id → ⊥
untouched_row _ _ _ id begun_moving plain is = plain is
untouched_row _ _ _ id begun_again plain is = plain is
untouched_row _ _ _ id begun_stuck plain is = plain is
untouched_row _ _ _ id begun_idle plain is = plain is
untouched_row _ _ _ id begun_ended plain is = plain is
untouched_row _ _ _ id left_moving plain is = plain is
untouched_row _ _ _ id left_stuck plain is = plain is
untouched_row _ _ _ id left_stopped plain is = cc
untouched_row _ _ _ id left_unlinked plain is = cc
untouched_row _ _ _ id left_idle plain is = plain is
untouched_row _ _ _ id left_ended plain is = plain is
untouched_row _ _ _ id full_moving plain is = plain is
untouched_row _ _ _ id full_stuck plain is = plain is
untouched_row _ _ _ id full_idle plain is = plain is
untouched_row _ _ _ id full_ended plain is = plain is
untouched_row _ _ _ id back_moving plain is = plain is
untouched_row _ _ _ id back_again plain is = plain is
untouched_row _ _ _ id back_stuck plain is = plain is
untouched_row _ _ _ id back_stopped plain is = cc
untouched_row _ _ _ id back_unlinked plain is = cc
untouched_row _ _ _ id back_idle plain is = plain is
untouched_row _ _ _ id back_ended plain is = plain is
untouched_row _ _ _ id taken_moving plain is = plain is
untouched_row _ _ _ id taken_home plain is = plain is
untouched_row _ _ _ id taken_stuck plain is = plain is
untouched_row _ _ _ id taken_stopped plain is = cc
untouched_row _ _ _ id taken_unlinked plain is = cc
untouched_row _ _ _ id taken_idle plain is = plain is
untouched_row _ _ _ id taken_ended plain is = plain is

untouched_took : (desk : Desk) (body : Machine) (event : SensorEvent) (id : ℕ) (row : Option OutRow) → outlet_row body.outlet (out_input.Sensed event) ≡ row → (body.outlet.touched ≡ Some id → ⊥)
    → (outlet_row_did desk body row).body.outlet.touched ≡ Some id → ⊥
untouched_took desk body event id None found plain is = plain is
untouched_took desk body event id (Some row) found plain is = untouched_row body.outlet event row id (row_is body.outlet (out_input.Sensed event) row found) plain is

pub intake_apart : (desk : Desk) (body : Machine) (row : Option InRow) → (intake_row_did desk body row).body.outlet ≡ body.outlet
intake_apart desk body None = refl
intake_apart desk body (Some row) = refl

saw_untouched : (desk : Desk) (at : Side) (event : SensorEvent) (body : Machine) (id : ℕ) → (body.outlet.touched ≡ Some id → ⊥) → (saw desk at event body).body.outlet.touched ≡ Some id → ⊥
saw_untouched desk Entry event body id plain is = plain (ap (λ (s : OutState). s.touched) (sym (intake_apart desk body (intake_row body.intake (in_input.Sensed event)))) ∙ is)
saw_untouched desk Exit event body id plain is = untouched_took desk body event id (outlet_row body.outlet (out_input.Sensed event)) refl plain is

pub read_untouched : (desk : Desk) (unread : List Sensed) (body : Machine) (c : Scene) (id : ℕ) → (body.outlet.touched ≡ Some id → ⊥) → (all_read desk unread body).body.outlet.touched ≡ Some id → ⊥
read_untouched desk unread body c id plain = all_keep (λ b d. b.outlet.touched ≡ Some id → ⊥) desk (λ at event b d plain. saw_untouched desk at event b id plain) unread body c plain
