-- A machine reads its sensor events: which acts it tells, and that a half without a connection says nothing.
use Rattle.std.proofs.Common.{Bool, List, None, Option, Some, [], ap, false, refl, subst, sym, true, unwrap_or, ◌++◌, ◌∙◌, ◌∷◌, ◌≡◌}
use Rattle.line_base.specs.declared.states.SensorEvent.{SensorEvent}
use Rattle.line_base.specs.declared.states.Side.{Side}
use Rattle.line_base.specs.declared.states.Side.TheVariants.{Entry, Exit}
use Rattle.board_record.specs.declared.record.Record.{Record}
use Rattle.board_record.specs.declared.sensed.Sensed.{Sensed}
use Rattle.hermes_horizontal.specs.declared.message.Horizontal.{Horizontal}
use Rattle.hermes_horizontal.specs.declared.message.Horizontal.TheVariants as message
use Rattle.hermes_vertical.specs.declared.message.VerticalMessage.{VerticalMessage}
use Rattle.handover_out.specs.Links.{is_unlinked_phase as out_unlinked}
use Rattle.handover_out.specs.Row.{OutRow, outlet_row}
use Rattle.handover_out.specs.Run.{stay as out_stay}
use Rattle.handover_out.specs.State.{OutState}
use Rattle.handover_out.specs.declared.act.OutDeed.{OutDeed}
use Rattle.handover_out.specs.declared.act.OutSend.{OutSend}
use Rattle.handover_out.specs.declared.act.OutSend.TheVariants as out_sending
use Rattle.handover_out.specs.declared.input.OutInput.TheVariants as out_input
use Rattle.handover_out.proofs.Deeds.{unlinked_silent as out_silent}
use Rattle.handover_in.specs.Links.{is_unlinked_phase as in_unlinked}
use Rattle.handover_in.specs.Row.{InRow, intake_row}
use Rattle.handover_in.specs.Run.{stay as in_stay}
use Rattle.handover_in.specs.State.{InState}
use Rattle.handover_in.specs.declared.act.InDeed.{InDeed}
use Rattle.handover_in.specs.declared.act.InSend.{InSend}
use Rattle.handover_in.specs.declared.input.InInput.TheVariants as in_input
use Rattle.handover_in.proofs.Deeds.{unlinked_silent as in_silent}
use Rattle.node_core.specs.Desk.{Desk}
use Rattle.node_core.specs.Halves.{intake_row_did, outlet_row_did}
use Rattle.node_core.specs.Reads.{all_read, saw}
use Rattle.node_core.specs.Supervising.{with_tells}
use Rattle.node_core.specs.Told.{drives, in_does, in_says, in_sends, out_does, out_sends, sends}
use Rattle.node_core.specs.declared.act.Act.{Act}
use Rattle.node_core.specs.declared.act.Act.TheVariants as acts
use Rattle.node_core.specs.declared.act.Deed.{Deed}
use Rattle.node_core.specs.declared.lane.Body.{Body as Machine}
use Rattle.node_core.specs.declared.supervising.Watch.{Watch}
use Rattle.node_core.proofs.Telling.{tells_all}
use Rattle.law_machine_custody.specs.Scene.{Scene, all_met, met}
use Rattle.law_machine_custody.specs.Joined.{is_answer, with_link}

-- ---- acts that all have a property

pub data AllActs (P : Act → Type 0) : List Act → Type 0 where
  acts_none : AllActs P []
  acts_more : {act : Act} {others : List Act} → P act → AllActs P others → AllActs P (act ∷ others)

first_has : {P : Act → Type 0} {act : Act} {others : List Act} → AllActs P (act ∷ others) → P act
first_has (acts_more one more) = one

others_have : {P : Act → Type 0} (act : Act) (others : List Act)
    → AllActs P (act ∷ others) → AllActs P others
others_have act others (acts_more one more) = more

pub all_append : {P : Act → Type 0} {xs ys : List Act} → AllActs P xs → AllActs P ys → AllActs P (xs ++ ys)
all_append acts_none ys = ys
all_append (acts_more x xs) ys = acts_more x (all_append xs ys)

-- what each message to the supervisor has, too, the acts have with what it is told
pub all_tells : {P : Act → Type 0} (desk : Desk) (watch : Watch) {made : List Act}
    → ((message : VerticalMessage) → P (acts.Tells message)) → AllActs P made
    → AllActs P (with_tells desk watch made)
all_tells {P = P} desk watch {made = made} tells all =
    tells_all (AllActs P) others_have (λ act told others is more. acts_more (first_has is) more)
    (λ message told more. acts_more (tells message) more) acts_none desk watch made all

-- what is no message and closes nothing has it
pub record IsPlain (P : Act → Type 0) : Type 0 where
  pub reads : (side : Side) (event : SensorEvent) → P (acts.Reads side event)
  pub deeds : (deed : Deed) → P (acts.Deed deed)
  pub drives : (side : Side) (on : Bool) → P (acts.Drive side on)

drives_all : {P : Act → Type 0} → IsPlain P → (side : Side) (drive : Option Bool) → AllActs P (drives side drive)
drives_all plain side None = acts_none
drives_all plain side (Some on) = acts_more (plain.drives side on) acts_none

out_deeds : {P : Act → Type 0} → IsPlain P → (deed : Option OutDeed) → AllActs P (out_does deed)
out_deeds plain None = acts_none
out_deeds plain (Some deed) = acts_more (plain.deeds _) acts_none

in_deeds : {P : Act → Type 0} → IsPlain P → (deed : Option InDeed) → AllActs P (in_does deed)
in_deeds plain None = acts_none
in_deeds plain (Some deed) = acts_more (plain.deeds _) acts_none

pub outlet_all : {P : Act → Type 0} → IsPlain P → (desk : Desk) (body : Machine) (row : Option OutRow) → ((r : OutRow) → row ≡ Some r → AllActs P (out_sends desk body.kept r.act.send))
    → AllActs P (outlet_row_did desk body row).acts
outlet_all plain desk body None says = acts_none
outlet_all plain desk body (Some row) says = all_append (out_deeds plain row.act.deed) (all_append (says row refl) (drives_all plain Exit row.act.drive))

pub intake_all : {P : Act → Type 0} → IsPlain P → (desk : Desk) (body : Machine) (row : Option InRow) → ((r : InRow) → row ≡ Some r → AllActs P (in_sends desk r.act.send))
    → AllActs P (intake_row_did desk body row).acts
intake_all plain desk body None says = acts_none
intake_all plain desk body (Some row) says = all_append (in_deeds plain row.act.deed) (all_append (says row refl) (drives_all plain Entry row.act.drive))

-- what an outlet says is no answer to a second connection; an intake says what it says at the entry
pub outlet_says : {P : Act → Type 0} (desk : Desk) (kept : List Record) (send : Option OutSend) → ((what : Horizontal) → is_answer what ≡ false → AllActs P (sends desk Exit what)) → AllActs P (out_sends desk kept send)
outlet_says desk kept None says = acts_none
outlet_says desk [] (Some out_sending.BoardAvailable) says = acts_none
outlet_says desk (board ∷ boards) (Some out_sending.BoardAvailable) says = says (message.BoardAvailable board) refl
outlet_says desk kept (Some out_sending.RevokeBoardAvailable) says = says message.RevokeBoardAvailable refl
outlet_says desk kept (Some (out_sending.Finished state id)) says = says (message.TransportFinished state id) refl

pub intake_says : {P : Act → Type 0} (desk : Desk) (send : Option InSend) → ((what : Horizontal) → AllActs P (sends desk Entry what)) → AllActs P (in_sends desk send)
intake_says desk None says = acts_none
intake_says desk (Some send) says = says (in_says send)

outlet_silent : {P : Act → Type 0} (desk : Desk) (kept : List Record) (send : Option OutSend) → send ≡ None → AllActs P (out_sends desk kept send)
outlet_silent {P = P} desk kept send none = subst (λ s. AllActs P (out_sends desk kept s)) (sym none) acts_none

intake_silent : {P : Act → Type 0} (desk : Desk) (send : Option InSend) → send ≡ None → AllActs P (in_sends desk send)
intake_silent {P = P} desk send none = subst (λ s. AllActs P (in_sends desk s)) (sym none) acts_none

-- the acts of each event have it, where what holds of the machine before holds after: all have it
pub read_all : {P : Act → Type 0} (I : Machine → Type 0) → IsPlain P → (desk : Desk)
    → ((side : Side) (event : SensorEvent) (body : Machine) → I body → AllActs P (saw desk side event body).acts)
    → ((side : Side) (event : SensorEvent) (body : Machine) → I body → I (saw desk side event body).body)
    → (unread : List Sensed) (body : Machine) → I body → AllActs P (all_read desk unread body).acts
read_all I plain desk have keep [] body i = acts_none
read_all I plain desk have keep (sensed ∷ others) body i =
    acts_more (plain.reads sensed.side sensed.event)
    (all_append (have sensed.side sensed.event body i) (read_all I plain desk have keep others (saw desk sensed.side sensed.event body).body (keep sensed.side sensed.event body i)))

-- a fact of the machine that each event keeps is kept by all
pub read_keeps : (I : Machine → Type 0) (desk : Desk) → ((side : Side) (event : SensorEvent) (body : Machine) → I body → I (saw desk side event body).body)
    → (unread : List Sensed) (body : Machine) → I body → I (all_read desk unread body).body
read_keeps I desk keep [] body i = i
read_keeps I desk keep (sensed ∷ others) body i = read_keeps I desk keep others (saw desk sensed.side sensed.event body).body (keep sensed.side sensed.event body i)

-- ---- acts that leave the link at a side as it is

abbrev pub IsQuiet : Side → Act → Type 0
IsQuiet Entry (acts.Hears Entry message) = ⊥
IsQuiet Exit (acts.Hears Exit message) = ⊥
IsQuiet Entry (acts.Sends Entry message) = ⊥
IsQuiet Exit (acts.Sends Exit message) = ⊥
IsQuiet Entry (acts.Closes Entry) = ⊥
IsQuiet Exit (acts.Closes Exit) = ⊥
IsQuiet Entry (acts.Notices Entry) = ⊥
IsQuiet Exit (acts.Notices Exit) = ⊥
IsQuiet _ _ = Unit {0}

quiet_met : (side : Side) (act : Act) (stands : Bool) (up down : List Horizontal) (c : Scene) → IsQuiet side act → met act (with_link side stands up down c) ≡ with_link side stands up down (met act c)
quiet_met Entry (acts.Hears Entry message) stands up down c quiet = absurd quiet
quiet_met Exit (acts.Hears Exit message) stands up down c quiet = absurd quiet
quiet_met Entry (acts.Sends Entry message) stands up down c quiet = absurd quiet
quiet_met Exit (acts.Sends Exit message) stands up down c quiet = absurd quiet
quiet_met Entry (acts.Closes Entry) stands up down c quiet = absurd quiet
quiet_met Exit (acts.Closes Exit) stands up down c quiet = absurd quiet
quiet_met Entry (acts.Notices Entry) stands up down c quiet = absurd quiet
quiet_met Exit (acts.Notices Exit) stands up down c quiet = absurd quiet
quiet_met Entry (acts.Drive Entry on) stands up down c quiet = refl
quiet_met Exit (acts.Drive Entry on) stands up down c quiet = refl
quiet_met _ _ stands up down c quiet = refl

pub quiet_all : (side : Side) (stands : Bool) (up down : List Horizontal) (done : List Act) (c : Scene) → AllActs (IsQuiet side) done
    → all_met done (with_link side stands up down c) ≡ with_link side stands up down (all_met done c)
quiet_all side stands up down _ c acts_none = refl
quiet_all side stands up down _ c (acts_more {act = act} {others = others} q qs) = ap (all_met others) (quiet_met side act stands up down c q) ∙ quiet_all side stands up down others (met act c) qs

pub quiet_is_plain : (side : Side) → IsPlain (IsQuiet side)
quiet_is_plain Entry = record { reads = λ side event. tt; deeds = λ deed. tt; drives = λ side on. tt }
quiet_is_plain Exit = record { reads = λ side event. tt; deeds = λ deed. tt; drives = λ side on. tt }

-- ---- a half without a connection is silent when it reads

in_found : (s : InState) (event : SensorEvent) (row : InRow) → intake_row s (in_input.Sensed event) ≡ Some row → in_unlinked s.phase ≡ true → (row.act.send ≡ None) × (in_unlinked row.after.phase ≡ true)
in_found s event row found unlinked = subst (λ (r : Option InRow). ((unwrap_or r (in_stay s)).act.send ≡ None) × (in_unlinked (unwrap_or r (in_stay s)).after.phase ≡ true)) found (in_silent s (in_input.Sensed event) unlinked refl)

out_found : (s : OutState) (event : SensorEvent) (row : OutRow) → outlet_row s (out_input.Sensed event) ≡ Some row → out_unlinked s.phase ≡ true → (row.act.send ≡ None) × (out_unlinked row.after.phase ≡ true)
out_found s event row found unlinked = subst (λ (r : Option OutRow). ((unwrap_or r (out_stay s)).act.send ≡ None) × (out_unlinked (unwrap_or r (out_stay s)).after.phase ≡ true)) found (out_silent s (out_input.Sensed event) unlinked refl)

abbrev pub IsApart : Side → Machine → Type 0
IsApart Entry body = in_unlinked body.intake.phase ≡ true
IsApart Exit body = out_unlinked body.outlet.phase ≡ true

intake_apart : (desk : Desk) (body : Machine) (event : SensorEvent) (row : Option InRow) → intake_row body.intake (in_input.Sensed event) ≡ row → IsApart Entry body → IsApart Entry (intake_row_did desk body row).body
intake_apart desk body event None found apart = apart
intake_apart desk body event (Some row) found apart = (in_found body.intake event row found apart).1

outlet_apart : (desk : Desk) (body : Machine) (event : SensorEvent) (row : Option OutRow) → outlet_row body.outlet (out_input.Sensed event) ≡ row → IsApart Exit body → IsApart Exit (outlet_row_did desk body row).body
outlet_apart desk body event None found apart = apart
outlet_apart desk body event (Some row) found apart = (out_found body.outlet event row found apart).1

outlet_beside : (desk : Desk) (body : Machine) (row : Option OutRow) → IsApart Entry body → IsApart Entry (outlet_row_did desk body row).body
outlet_beside desk body None apart = apart
outlet_beside desk body (Some row) apart = apart

intake_beside : (desk : Desk) (body : Machine) (row : Option InRow) → IsApart Exit body → IsApart Exit (intake_row_did desk body row).body
intake_beside desk body None apart = apart
intake_beside desk body (Some row) apart = apart

saw_apart : (desk : Desk) (at side : Side) (event : SensorEvent) (body : Machine) → IsApart at body → IsApart at (saw desk side event body).body
saw_apart desk Entry Entry event body apart = intake_apart desk body event (intake_row body.intake (in_input.Sensed event)) refl apart
saw_apart desk Entry Exit event body apart = outlet_beside desk body (outlet_row body.outlet (out_input.Sensed event)) apart
saw_apart desk Exit Entry event body apart = intake_beside desk body (intake_row body.intake (in_input.Sensed event)) apart
saw_apart desk Exit Exit event body apart = outlet_apart desk body event (outlet_row body.outlet (out_input.Sensed event)) refl apart

saw_quiet : (desk : Desk) (at side : Side) (event : SensorEvent) (body : Machine) → IsApart at body → AllActs (IsQuiet at) (saw desk side event body).acts
saw_quiet desk Entry Entry event body apart =
    intake_all (quiet_is_plain Entry) desk body (intake_row body.intake (in_input.Sensed event)) (λ row found. intake_silent desk row.act.send (in_found body.intake event row found apart).0)
saw_quiet desk Entry Exit event body apart =
    outlet_all (quiet_is_plain Entry) desk body (outlet_row body.outlet (out_input.Sensed event)) (λ row found. outlet_says desk body.kept row.act.send (λ what plain. acts_more tt acts_none))
saw_quiet desk Exit Entry event body apart =
    intake_all (quiet_is_plain Exit) desk body (intake_row body.intake (in_input.Sensed event)) (λ row found. intake_says desk row.act.send (λ what. acts_more tt acts_none))
saw_quiet desk Exit Exit event body apart =
    outlet_all (quiet_is_plain Exit) desk body (outlet_row body.outlet (out_input.Sensed event)) (λ row found. outlet_silent desk body.kept row.act.send (out_found body.outlet event row found apart).0)

pub read_quiet : (desk : Desk) (at : Side) (unread : List Sensed) (body : Machine) → IsApart at body → AllActs (IsQuiet at) (all_read desk unread body).acts
read_quiet desk at unread body apart = read_all (λ (b : Machine). IsApart at b) (quiet_is_plain at) desk (λ side event b i. saw_quiet desk at side event b i) (λ side event b i. saw_apart desk at side event b i) unread body apart
