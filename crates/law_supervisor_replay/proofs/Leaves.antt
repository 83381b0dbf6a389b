-- A board of which a machine tells that it has left was at its outlet before the step: nothing but
-- a sensor event that is read says so, and what is read comes first.
use Rattle.std.proofs.Common.{Bool, List, None, Option, Some, [], ap, false, refl, subst, sym, true, ℕ, ◌++◌, ◌==◌, ◌||◌, ◌∙◌, ◌∷◌, ◌≡◌}
use Rattle.std.specs.List.{list_any}
use Rattle.std.proofs.lemmas.Bool.{false≢true, or_from}
use Rattle.std.proofs.lemmas.List.Folds.{list_any-append}
use Rattle.law_one_standing.proofs.MirroringEnds.{vacuous}
use Rattle.line_base.specs.declared.states.Seen.{Seen}
use Rattle.line_base.specs.declared.states.SensorEvent.{SensorEvent}
use Rattle.line_base.specs.declared.states.Side.{Side}
use Rattle.line_base.specs.declared.states.Side.TheVariants.{Entry, Exit}
use Rattle.board_record.specs.declared.record.Record.{Record}
use Rattle.board_record.specs.declared.sensed.Sensed.{Sensed}
use Rattle.handover_out.specs.State.{OutState, board_of_phase as held_out}
use Rattle.handover_out.specs.Row.{OutRow, outlet_row}
use Rattle.handover_out.specs.declared.act.OutSend.{OutSend}
use Rattle.handover_out.specs.declared.act.OutSend.TheVariants as out_sends
use Rattle.handover_out.specs.declared.input.OutInput.TheVariants as out_input
use Rattle.handover_in.specs.Row.{InRow, intake_row}
use Rattle.handover_in.specs.declared.act.InDeed.{InDeed}
use Rattle.handover_in.specs.declared.act.InDeed.TheVariants as in_deeds
use Rattle.handover_in.specs.declared.act.InSend.{InSend}
use Rattle.handover_in.specs.declared.input.InInput.TheVariants as in_input
use Rattle.node_core.specs.Announces.{announces}
use Rattle.node_core.specs.Desk.{Desk}
use Rattle.node_core.specs.Done.{Done}
use Rattle.node_core.specs.Event.{Event, event_did}
use Rattle.node_core.specs.Halves.{intake_row_did, outlet_row_did}
use Rattle.node_core.specs.Own.{Own, id_of}
use Rattle.node_core.specs.Reads.{all_read, saw}
use Rattle.node_core.specs.Step.{plain_step}
use Rattle.node_core.specs.Supervising.{Supervise, Ask, Answer}
use Rattle.node_core.specs.Told.{drives, in_does, in_sends, out_sends as out_sent}
use Rattle.node_core.specs.declared.act.Act.{Act}
use Rattle.node_core.specs.declared.act.Act.TheVariants as acts
use Rattle.node_core.specs.declared.act.Deed.TheVariants as deeds
use Rattle.node_core.specs.declared.lane.Body.{Body}
use Rattle.standings.specs.Marks.{is_held}
use Rattle.law_supervisor_replay.proofs.Bodies.{holds_it}
use Rattle.law_supervisor_replay.proofs.Course.{Calm, Hands, announced, calm_asks, calm_goes, course_none, event_meets, hands_calm, hands_get, hands_give, hands_insert, hands_remove, hands_replace, said_none}
use Rattle.law_supervisor_replay.proofs.Events.{
  ExitTurn,
  exit_leaves,
  exit_loses,
  exit_none,
  exit_returns,
  exit_stays,
  exit_turn,
}
use Rattle.law_supervisor_replay.proofs.Tells.{PassesNoQuiet, is_quiet}

abbrev pub leaves_act : ℕ → Act → Bool
leaves_act id (acts.Deed (deeds.Leaves other)) = other == id
leaves_act id _ = false

abbrev leaves_in : ℕ → List Act → Bool
leaves_in id made = list_any (leaves_act id) made

neither : (id : ℕ) (a b : List Act) → leaves_in id a ≡ false → leaves_in id b ≡ false
    → leaves_in id (a ++ b) ≡ false
neither id a b one two =
    list_any-append (leaves_act id) a b ∙ or_from (leaves_in id a) (leaves_in id b) one two

-- ---- the event and the announcements say it of none

quiet_act : (id : ℕ) (act : Act) → is_quiet act ≡ true → leaves_act id act ≡ false
quiet_act id (acts.Deed (deeds.Leaves other)) is = absurd (false≢true is)
quiet_act id _ is = refl

quiet_leaves : (id : ℕ) → PassesNoQuiet (leaves_act id)
quiet_leaves id = record {
  quiet = quiet_act id;
  starts = λ x. refl;
  settles = λ x. refl;
  drops = λ x. refl;
}

calm_none : {seen : Option Seen} {own end : Own} {made : List Act} (id : ℕ)
    → Calm seen own made end → leaves_in id made ≡ false
calm_none id (calm_goes course) = course_none (quiet_leaves id) course
calm_none id (calm_asks desk (Supervise on)) = refl
calm_none id (calm_asks desk (Ask question)) = refl
calm_none id (calm_asks desk (Answer query order)) = refl

hands_none : {seen : Option Seen} {own end : Own} {made : List Act} (id : ℕ)
    → Hands seen own made end → leaves_in id made ≡ false
hands_none id (hands_calm calm) = calm_none id calm
hands_none id hands_insert = refl
hands_none id (hands_remove has) = refl
hands_none id (hands_give has) = refl
hands_none id hands_get = refl
hands_none id (hands_replace has) = refl

-- ---- what is read

-- it says so of a board that the outlet held, and what the outlet holds then it held before
record Leaving (id : ℕ) (body : Body) (d : Done) : Type 0 where
  held : leaves_in id d.acts ≡ true → holds_it id body ≡ true
  still : holds_it id d.body ≡ true → holds_it id body ≡ true

sends_none : (id : ℕ) (desk : Desk) (kept : List Record) (send : Option OutSend)
    (drive : Option Bool)
    → leaves_in id (out_sent desk kept send ++ drives Exit drive) ≡ false
sends_none id desk kept None None = refl
sends_none id desk kept None (Some on) = refl
sends_none id desk [] (Some out_sends.BoardAvailable) None = refl
sends_none id desk [] (Some out_sends.BoardAvailable) (Some on) = refl
sends_none id desk (board ∷ kept) (Some out_sends.BoardAvailable) None = refl
sends_none id desk (board ∷ kept) (Some out_sends.BoardAvailable) (Some on) = refl
sends_none id desk kept (Some out_sends.RevokeBoardAvailable) None = refl
sends_none id desk kept (Some out_sends.RevokeBoardAvailable) (Some on) = refl
sends_none id desk kept (Some (out_sends.Finished state other)) None = refl
sends_none id desk kept (Some (out_sends.Finished state other)) (Some on) = refl

in_none : (id : ℕ) (desk : Desk) (deed : Option InDeed) (send : Option InSend)
    (drive : Option Bool)
    → leaves_in id (in_does deed ++ (in_sends desk send ++ drives Entry drive)) ≡ false
in_none id desk None None None = refl
in_none id desk None None (Some on) = refl
in_none id desk None (Some what) None = refl
in_none id desk None (Some what) (Some on) = refl
in_none id desk (Some (in_deeds.Starts other)) None None = refl
in_none id desk (Some (in_deeds.Starts other)) None (Some on) = refl
in_none id desk (Some (in_deeds.Starts other)) (Some what) None = refl
in_none id desk (Some (in_deeds.Starts other)) (Some what) (Some on) = refl
in_none id desk (Some (in_deeds.Settles other)) None None = refl
in_none id desk (Some (in_deeds.Settles other)) None (Some on) = refl
in_none id desk (Some (in_deeds.Settles other)) (Some what) None = refl
in_none id desk (Some (in_deeds.Settles other)) (Some what) (Some on) = refl
in_none id desk (Some (in_deeds.Drops other)) None None = refl
in_none id desk (Some (in_deeds.Drops other)) None (Some on) = refl
in_none id desk (Some (in_deeds.Drops other)) (Some what) None = refl
in_none id desk (Some (in_deeds.Drops other)) (Some what) (Some on) = refl

entry_leaving : (id : ℕ) (desk : Desk) (body : Body) (found : Option InRow)
    → Leaving id body (intake_row_did desk body found)
entry_leaving id desk body None = record { held = λ is. vacuous refl is; still = λ is. is }
entry_leaving id desk body (Some row) = record {
  held = λ is. vacuous (in_none id desk row.act.deed row.act.send row.act.drive) is;
  still = λ is. is;
}

is_held_by : (id : ℕ) (mine : Record) (body : Body) → held_out body.outlet.phase ≡ Some mine
    → (mine.id == id) ≡ true → holds_it id body ≡ true
is_held_by id mine body held is = rw held is

not_held : {X : Type 0} (id : ℕ) (body : Body) → held_out body.outlet.phase ≡ None
    → holds_it id body ≡ true → X
not_held id body none is = vacuous (rw none refl) is

exit_leaving : {e : SensorEvent} {s : OutState} {found : Option OutRow} (id : ℕ) (desk : Desk)
    (body : Body)
    → ExitTurn e s found → body.outlet ≡ s → Leaving id body (outlet_row_did desk body found)
exit_leaving id desk body exit_none is =
    record { held = λ told. vacuous refl told; still = λ has. has }
exit_leaving {s = s} id desk body (exit_stays {after = after} same) is = record {
  held = λ told. vacuous refl told;
  still = λ has. by_same (same ∙ sym (ap held_of is)) has;
} where
  held_of : OutState → Option Record
  held_of o = held_out o.phase

  by_same : held_out after.phase ≡ held_out body.outlet.phase
      → holds_it id (record body { outlet = after }) ≡ true → holds_it id body ≡ true
  by_same same has = subst (λ (o : Option Record). is_held id (id_of o) ≡ true) same has
exit_leaving id desk body
    (exit_leaves {after = after} {mine = mine} {send = send} {drive = drive} held none _) is =
    record {
      held = λ told. is_held_by id mine body (ap held_of is ∙ held) (first told);
      still = λ has. not_held id (record body { outlet = after }) none has;
    } where
      held_of : OutState → Option Record
      held_of o = held_out o.phase

      first : ((mine.id == id) || leaves_in id (out_sent desk body.kept send ++ drives Exit drive))
          ≡ true
          → (mine.id == id) ≡ true
      first told = by_one (mine.id == id) told where
        by_one : (one : Bool)
            → (one || leaves_in id (out_sent desk body.kept send ++ drives Exit drive)) ≡ true
            → one ≡ true
        by_one true told = refl
        by_one false told = vacuous (sends_none id desk body.kept send drive) told
exit_leaving id desk body
    (exit_returns {after = after} {mine = mine} {send = send} {drive = drive} held none _) is =
    record {
      held = λ told. vacuous (sends_none id desk body.kept send drive) told;
      still = λ has. not_held id (record body { outlet = after }) none has;
    }
exit_leaving id desk body
    (exit_loses {after = after} {mine = mine} {send = send} {drive = drive} held none _) is =
    record {
      held = λ told. vacuous (sends_none id desk body.kept send drive) told;
      still = λ has. not_held id (record body { outlet = after }) none has;
    }

saw_leaving : (id : ℕ) (desk : Desk) (side : Side) (event : SensorEvent) (body : Body)
    → Leaving id body (saw desk side event body)
saw_leaving id desk Entry event body =
    entry_leaving id desk body (intake_row body.intake (in_input.Sensed event))
saw_leaving id desk Exit event body =
    exit_leaving id desk body
    (exit_turn event body.outlet (outlet_row body.outlet (out_input.Sensed event)) refl) refl

read_leaving : (id : ℕ) (desk : Desk) (unread : List Sensed) (body : Body)
    → Leaving id body (all_read desk unread body)
read_leaving id desk [] body = record { held = λ is. vacuous refl is; still = λ is. is }
read_leaving id desk (sensed ∷ others) body =
    let first : Done = saw desk sensed.side sensed.event body in
    let one : Leaving id body first = saw_leaving id desk sensed.side sensed.event body in
    let rest : Leaving id first.body (all_read desk others first.body) =
    read_leaving id desk others first.body in
    record {
      held = λ is. either first.acts (all_read desk others first.body).acts one.held
          (λ told. one.still (rest.held told)) is;
      still = λ is. one.still (rest.still is);
    } where
      by_one : {X : Type 0} (a b : Bool) → (a ≡ true → X) → (b ≡ true → X) → (a || b) ≡ true → X
      by_one true b left right is = left refl
      by_one false b left right is = right is

      either : {X : Type 0} (a b : List Act) → (leaves_in id a ≡ true → X)
          → (leaves_in id b ≡ true → X)
          → leaves_in id (a ++ b) ≡ true → X
      either a b left right is =
          by_one (leaves_in id a) (leaves_in id b) left right
          (sym (list_any-append (leaves_act id) a b) ∙ is)

-- ---- the step

pub leaves_held : (id : ℕ) (desk : Desk) (unread : List Sensed) (event : Event) (body : Body)
    → list_any (leaves_act id) (plain_step desk unread event body).acts ≡ true
    → holds_it id body ≡ true
leaves_held id desk unread event body is =
    let read : Done = all_read desk unread body in
    let met : Done = event_did desk event read.body in
    let said : Done = announces desk met.body in
    (read_leaving id desk unread body).held
    (first (leaves_in id read.acts) (leaves_in id (met.acts ++ said.acts))
    (neither id met.acts said.acts (hands_none id (event_meets desk event read.body).hands)
    (said_none (quiet_leaves id) (announced desk met.body)))
    (sym (list_any-append (leaves_act id) read.acts (met.acts ++ said.acts)) ∙ is)) where
      first : (a b : Bool) → b ≡ false → (a || b) ≡ true → a ≡ true
      first true b none is = refl
      first false b none is = vacuous none is
