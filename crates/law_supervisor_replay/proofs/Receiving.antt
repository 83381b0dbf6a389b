-- What a machine's step makes of the offers of a board that are on their way to its entry: where
-- none will be taken up, none is, and the machine doesn't start the board.
use Rattle.std.proofs.Common.{Bool, List, None, Option, Some, [], false, length, ne_eqb, refl, subst, sym, true, ℕ, ℤ, ◌++◌, ◌∙◌, ◌∷◌, ◌==◌, ◌≡◌}
use Rattle.std.specs.Prelude.{drop, is_some, slice_get}
use Rattle.std.specs.List.{list_any}
use Rattle.std.proofs.lemmas.Bool.{false≢true, or_from}
use Rattle.std.proofs.lemmas.List.Folds.{list_any-append}
use Rattle.line_base.specs.declared.states.Quality.TheVariants as qualities
use Rattle.line_base.specs.declared.states.Severity.TheVariants.{Fatal}
use Rattle.line_base.specs.declared.states.SensorEvent.{SensorEvent}
use Rattle.line_base.specs.declared.states.Side.{Side}
use Rattle.line_base.specs.declared.states.Side.TheVariants.{Entry, Exit}
use Rattle.line_base.specs.declared.states.Transfer.{Transfer}
use Rattle.board_record.specs.declared.record.Record.{Record}
use Rattle.board_record.specs.declared.sensed.Sensed.{Sensed}
use Rattle.smema_bridge.specs.declared.line.SegmentLine.{SegmentLine}
use Rattle.smema_bridge.specs.declared.line.SegmentLine.TheVariants as segment
use Rattle.hermes_horizontal.specs.declared.message.Horizontal.{Horizontal}
use Rattle.hermes_horizontal.specs.declared.message.Message.{Message}
use Rattle.hermes_horizontal.specs.Parts.{kind_of}
use Rattle.session_core.specs.declared.actions.Action.{Action}
use Rattle.session_core.specs.declared.actions.Action.TheVariants.{Close, Pass, Ping, Pong, SendService, Stand, Tell}
use Rattle.session_core.specs.declared.actions.Actions.{Actions}
use Rattle.session_core.specs.Breach.{unexpected}
use Rattle.session_core.specs.End.{SessionEnd, at_rest, is_connected_state}
use Rattle.session_core.specs.Input.{Input as Given, heard, opened, second, shutdown, tick}
use Rattle.session_core.specs.Row.{SessionRow, session_row}
use Rattle.session_core.specs.Table.{IsSessionRow, answers, gives_up_handshake, gives_up_standing, is_alive, is_answered, is_notified, is_unsettled, passes_available, passes_finished, passes_forecast, passes_info, passes_over, passes_query, passes_ready, passes_revoked, passes_start, passes_stop, passes_unready, shuts_down as row_shuts, stands_downstream, stands_upstream}
use Rattle.session_core.proofs.Rows.{row_is as session_row_is}
use Rattle.handover_out.specs.declared.act.OutAct.{OutAct}
use Rattle.handover_out.specs.declared.act.OutDeed.{OutDeed}
use Rattle.handover_out.specs.declared.act.OutDeed.TheVariants as out_deeds
use Rattle.handover_out.specs.declared.act.OutSend.{OutSend}
use Rattle.handover_out.specs.declared.act.OutSend.TheVariants as out_saying
use Rattle.handover_out.specs.declared.input.OutInput.TheVariants as out_input
use Rattle.handover_out.specs.Row.{OutRow, outlet_row}
use Rattle.handover_out.specs.State.{held, would_open}
use Rattle.handover_in.specs.declared.input.InInput.{InInput}
use Rattle.handover_in.specs.declared.input.InInput.TheVariants as in_input
use Rattle.handover_in.specs.Row.{InRow, intake_row}
use Rattle.handover_in.specs.State.{InState, passes_offers_over}
use Rattle.handover_in.specs.Table.{IsIntakeRow, available_heard, available_idle, available_stopped, closed_between, closed_gone, closed_home, closed_idle, closed_inside, closed_stopped_between, closed_stopped_gone, closed_stopped_home, closed_stopped_inside, closed_waiting, fault_taking, hears_drop, hears_keep, hears_left, hears_wait, passed_revoked_taking, passed_revoked_unheard, passed_taking, passed_unheard, revoked_heard, revoked_idle, revoked_stopped, running_drop, running_keep, running_wait, starts_transport}
use Rattle.handover_in.proofs.Rows.{row_is as in_row_is}
use Rattle.node_core.specs.Announces.{announces, offer, offer_by, offers_now, readies_now, ready, ready_by, revoke, revoke_by, revokes_now, start, start_by, starts_now, unreadies_now, unready, unready_by}
use Rattle.node_core.specs.Boards.{if_kept, is_kept, wills, with_kept, takes_sub}
use Rattle.node_core.specs.Bridge.{failed_front, fails, sets_level, tells_level}
use Rattle.node_core.specs.Connect.{if_open, opens, shuts_down, ticks}
use Rattle.node_core.specs.Desk.{Desk}
use Rattle.node_core.specs.Done.{Done, and_then, behind, done, stays}
use Rattle.node_core.specs.Event.{Accepted, Connect, Event, Fault, Forecast, Gives, Level, Mark, Sub, Nothing, Notice, Query, Remove, Replace, Second, Shutdown, Supervised, Tick, Will, Words, event_did}
use Rattle.node_core.specs.Halves.{behind_opening, ended, half_closed, intake_row_did, opening_board, outlet_row_did}
use Rattle.node_core.specs.Hears.{exit_took, exit_word, hears, intake_took, outlet_took, passed, rowed, taken}
use Rattle.node_core.specs.Information.{forecasts}
use Rattle.node_core.specs.Reads.{all_read, reads, saw}
use Rattle.node_core.specs.Session.{action_did, actions_did, breaches, maybe_did, session_did}
use Rattle.node_core.specs.Sides.{is_open, session_at, with_session}
use Rattle.node_core.specs.Step.{plain_step}
use Rattle.node_core.specs.Supervising.{Answer, Ask, Supervise, Supervision, supervises}
use Rattle.node_core.specs.Told.{drives, in_told, notification, offers, out_does, out_sends, out_told, sends}
use Rattle.node_core.specs.Words.{all_heard, word_did}
use Rattle.node_core.specs.declared.act.Act.{Act}
use Rattle.node_core.specs.declared.act.Act.TheVariants as acts
use Rattle.node_core.specs.declared.lane.Body.{Body}
use Rattle.node_core.specs.declared.word.ExitWord.{ExitWord}
use Rattle.node_core.specs.declared.word.ExitWord.TheVariants as exits
use Rattle.node_core.specs.declared.word.Word.{Word}
use Rattle.node_core.specs.declared.word.Word.TheVariants.{Says, Wrong}
use Rattle.law_custody.specs.Contents.{OfferIs, OpenAll, no_offer, offer_is, open_back, open_end, open_new, open_none, open_passed, open_service}
use Rattle.law_custody.specs.Words.{BoardAvailable, DownWord, RevokeBoardAvailable, TransportFinished, UpstreamService, before_down, down_words}
use Rattle.law_machine_custody.specs.Flight.{AreOldest, oldest_says, oldest_wrong}
use Rattle.law_machine_custody.proofs.HearingAll.{deaf}
use Rattle.law_machine_custody.proofs.Listening.{breach_shuts}
use Rattle.law_supervisor_replay.proofs.Free.{IsOther, entry_words, starts_it}

pub record Receives (id : ℕ) (words : List Word) (messages : List Horizontal)
    (d : Done) : Type 0 where
  pub offer : OfferIs (IsOther id) d.body.intake.offer
  pub flight : is_open Entry d.body ≡ true
      → OpenAll (IsOther id) (passes_offers_over d.body.intake.phase)
      (down_words (drop (length words) messages))
  pub starts : list_any (starts_it id) d.acts ≡ false

-- ---- acts that start nothing

pub none_both : (id : ℕ) (a b : List Act) → list_any (starts_it id) a ≡ false
    → list_any (starts_it id) b ≡ false → list_any (starts_it id) (a ++ b) ≡ false
none_both id a b one two =
    list_any-append (starts_it id) a b ∙ or_from (list_any (starts_it id) a)
    (list_any (starts_it id) b) one two

deeds_none : (id : ℕ) (deed : Option OutDeed) → list_any (starts_it id) (out_does deed) ≡ false
deeds_none id None = refl
deeds_none id (Some (out_deeds.Opens other)) = refl
deeds_none id (Some (out_deeds.Refuses other)) = refl
deeds_none id (Some (out_deeds.Leaves other)) = refl
deeds_none id (Some (out_deeds.Returns other)) = refl
deeds_none id (Some (out_deeds.Loses other)) = refl

offers_none : (id : ℕ) (desk : Desk) (front : Option Record)
    → list_any (starts_it id) (offers desk front) ≡ false
offers_none id desk None = refl
offers_none id desk (Some board) = refl

sends_none : (id : ℕ) (desk : Desk) (kept : List Record) (send : Option OutSend)
    → list_any (starts_it id) (out_sends desk kept send) ≡ false
sends_none id desk kept None = refl
sends_none id desk kept (Some out_saying.BoardAvailable) = offers_none id desk (slice_get kept 0)
sends_none id desk kept (Some out_saying.RevokeBoardAvailable) = refl
sends_none id desk kept (Some (out_saying.Finished state other)) = refl

drives_none : (id : ℕ) (side : Side) (on : Option Bool)
    → list_any (starts_it id) (drives side on) ≡ false
drives_none id side None = refl
drives_none id side (Some on) = refl

out_none : (id : ℕ) (desk : Desk) (kept : List Record) (act : OutAct)
    → list_any (starts_it id) (out_told desk kept act) ≡ false
out_none id desk kept act =
    none_both id (out_does act.deed) (out_sends desk kept act.send ++ drives Exit act.drive)
    (deeds_none id act.deed)
    (none_both id (out_sends desk kept act.send) (drives Exit act.drive)
    (sends_none id desk kept act.send) (drives_none id Exit act.drive))

-- ---- the rows of the intake

-- an input that brings no offer
abbrev BringsNone : InInput → Type 0
BringsNone (in_input.BoardAvailable board) = ⊥
BringsNone _ = Unit {0}

-- and by which no end is heard of a transfer or of the connection
abbrev IsCalmInput : InInput → Type 0
IsCalmInput (in_input.BoardAvailable board) = ⊥
IsCalmInput (in_input.Finished state id) = ⊥
IsCalmInput in_input.Closed = ⊥
IsCalmInput _ = Unit {0}

calm_brings : (w : InInput) → IsCalmInput w → BringsNone w
calm_brings (in_input.BoardAvailable board) calm = calm
calm_brings (in_input.Finished state id) calm = tt
calm_brings in_input.Closed calm = tt
calm_brings in_input.Ready calm = tt
calm_brings in_input.Unready calm = tt
calm_brings in_input.Start calm = tt
calm_brings in_input.RevokeBoardAvailable calm = tt
calm_brings (in_input.Sensed e) calm = tt
calm_brings in_input.Fault calm = tt
calm_brings in_input.Stand calm = tt

row_offer : {Q : Record → Type 0} {s : InState} {w : InInput} {row : InRow} → IsIntakeRow s w row
    → BringsNone w → OfferIs Q s.offer → OfferIs Q row.after.offer
row_offer starts_transport plain o = no_offer
row_offer available_idle plain o = absurd plain
row_offer available_heard plain o = absurd plain
row_offer available_stopped plain o = absurd plain
row_offer revoked_idle plain o = no_offer
row_offer revoked_heard plain o = no_offer
row_offer revoked_stopped plain o = no_offer
row_offer closed_idle plain o = no_offer
row_offer closed_home plain o = no_offer
row_offer closed_between plain o = no_offer
row_offer closed_inside plain o = no_offer
row_offer closed_gone plain o = no_offer
row_offer closed_stopped_home plain o = no_offer
row_offer closed_stopped_gone plain o = no_offer
row_offer closed_stopped_between plain o = no_offer
row_offer closed_stopped_inside plain o = no_offer
row_offer closed_waiting plain o = no_offer
row_offer _ plain o = o

row_passes : {s : InState} {w : InInput} {row : InRow} → IsIntakeRow s w row → IsCalmInput w
    → passes_offers_over s.phase ≡ true → passes_offers_over row.after.phase ≡ true
row_passes (fault_taking {heard = true}) calm is = is
row_passes (fault_taking {heard = false}) calm is = refl
row_passes (hears_left _) calm is = absurd calm
row_passes (running_drop _ _ _) calm is = absurd calm
row_passes (running_wait _ _ _) calm is = absurd calm
row_passes (running_keep _ _ _) calm is = absurd calm
row_passes (hears_keep _ _) calm is = absurd calm
row_passes (hears_drop _ _) calm is = absurd calm
row_passes (hears_wait _ _) calm is = absurd calm
row_passes closed_idle calm is = absurd calm
row_passes closed_home calm is = absurd calm
row_passes closed_between calm is = absurd calm
row_passes closed_inside calm is = absurd calm
row_passes closed_gone calm is = absurd calm
row_passes closed_stopped_home calm is = absurd calm
row_passes closed_stopped_gone calm is = absurd calm
row_passes closed_stopped_between calm is = absurd calm
row_passes closed_stopped_inside calm is = absurd calm
row_passes closed_waiting calm is = absurd calm
row_passes _ calm is = cc

row_none : {s : InState} {w : InInput} {row : InRow} (id : ℕ) (desk : Desk) → IsIntakeRow s w row
    → OfferIs (IsOther id) s.offer → list_any (starts_it id) (in_told desk row.act) ≡ false
row_none id desk (starts_transport {board = board}) (offer_is other) =
    or_from (board.id == id) false (ne_eqb board.id id other) refl
row_none id desk (closed_between {heard = true}) o = refl
row_none id desk (closed_between {heard = false}) o = refl
row_none id desk (closed_inside {heard = true}) o = refl
row_none id desk (closed_inside {heard = false}) o = refl
row_none id desk (closed_gone {heard = true}) o = refl
row_none id desk (closed_gone {heard = false}) o = refl
row_none id desk _ o = refl

-- ---- offers that were taken up are passed over

now_passed : {Q : Record → Type 0} {ws : List DownWord} → OpenAll Q false ws → OpenAll Q true ws
now_passed open_none = open_none
now_passed (open_new q rest) = open_passed (now_passed rest)
now_passed (open_back rest) = open_back (now_passed rest)
now_passed (open_end rest) = open_end rest
now_passed (open_service rest) = open_service (now_passed rest)

open_any : {Q : Record → Type 0} {ws : List DownWord} (b : Bool) → OpenAll Q false ws
    → OpenAll Q b ws
open_any false all = all
open_any true all = now_passed all

open_wider : {Q : Record → Type 0} {ws : List DownWord} (a b : Bool) → (a ≡ true → b ≡ true)
    → OpenAll Q a ws → OpenAll Q b ws
open_wider false b wider all = open_any b all
open_wider {Q = Q} {ws = ws} true b wider all =
    subst (λ (c : Bool). OpenAll Q c ws) (sym (wider refl)) all

-- what an intake becomes by a word that was on its way
record Takes (Q : Record → Type 0) (ws : List DownWord) (row : InRow) : Type 0 where
  offer : OfferIs Q row.after.offer
  flight : OpenAll Q (passes_offers_over row.after.phase) ws

available_takes : {Q : Record
    → Type 0} {s : InState} {row : InRow} {board : Record} {ws : List DownWord}
    → IsIntakeRow s (in_input.BoardAvailable board) row → OfferIs Q s.offer
    → OpenAll Q (passes_offers_over s.phase) (BoardAvailable board ∷ ws) → Takes Q ws row
available_takes available_idle o (open_new q rest) = record { offer = offer_is q; flight = rest }
available_takes available_heard o (open_new q rest) = record { offer = offer_is q; flight = rest }
available_takes available_stopped o (open_new q rest) =
    record { offer = offer_is q; flight = rest }
available_takes passed_taking o (open_passed rest) = record { offer = o; flight = rest }
available_takes passed_unheard o (open_passed rest) = record { offer = o; flight = rest }

revoked_takes : {Q : Record → Type 0} {s : InState} {row : InRow} {ws : List DownWord}
    → IsIntakeRow s in_input.RevokeBoardAvailable row → OfferIs Q s.offer
    → OpenAll Q (passes_offers_over s.phase) (RevokeBoardAvailable ∷ ws) → Takes Q ws row
revoked_takes revoked_idle o (open_back rest) = record { offer = no_offer; flight = rest }
revoked_takes revoked_heard o (open_back rest) = record { offer = no_offer; flight = rest }
revoked_takes revoked_stopped o (open_back rest) = record { offer = no_offer; flight = rest }
revoked_takes passed_revoked_taking o (open_back rest) = record { offer = o; flight = rest }
revoked_takes passed_revoked_unheard o (open_back rest) = record { offer = o; flight = rest }

end_off : {Q : Record → Type 0} {b : Bool} {state : Transfer} {id : ℕ} {ws : List DownWord}
    → OpenAll Q b (TransportFinished state id ∷ ws) → OpenAll Q false ws
end_off (open_end rest) = rest

finished_takes : {Q : Record
    → Type 0} {s : InState} {row : InRow} {state : Transfer} {id : ℕ} {ws : List DownWord}
    → IsIntakeRow s (in_input.Finished state id) row → OfferIs Q s.offer
    → OpenAll Q (passes_offers_over s.phase) (TransportFinished state id ∷ ws) → Takes Q ws row
finished_takes {row = row} shape o all =
    record {
      offer = row_offer shape tt o;
      flight = open_any (passes_offers_over row.after.phase) (end_off all);
    }

-- ---- a micro event that leaves the entry's session: what is on its way is as good as before, where C holds

record Calm (C : Type 0) (id : ℕ) (body : Body) (d : Done) : Type 0 where
  offer : OfferIs (IsOther id) body.intake.offer → OfferIs (IsOther id) d.body.intake.offer
  flight : C → (ws : List DownWord)
      → OpenAll (IsOther id) (passes_offers_over body.intake.phase) ws
      → OpenAll (IsOther id) (passes_offers_over d.body.intake.phase) ws
  same : d.body.entry.session ≡ body.entry.session
  starts : OfferIs (IsOther id) body.intake.offer → list_any (starts_it id) d.acts ≡ false

calm_still : {C : Type 0} {id : ℕ} (body : Body) → Calm C id body (stays body)
calm_still body =
    record { offer = λ o. o; flight = λ c ws all. all; same = refl; starts = λ o. refl }

-- the intake is as it was
calm_aside : {C : Type 0} {id : ℕ} (body : Body) (d : Done) → d.body.intake ≡ body.intake
    → d.body.entry.session ≡ body.entry.session → list_any (starts_it id) d.acts ≡ false
    → Calm C id body d
calm_aside {id = id} body d same session none = record {
  offer = λ o. subst (λ (i : InState). OfferIs (IsOther id) i.offer) (sym same) o;
  flight = λ c ws all.
      subst (λ (i : InState). OpenAll (IsOther id) (passes_offers_over i.phase) ws) (sym same) all;
  same = session;
  starts = λ o. none;
}

calm_behind : {C : Type 0} {id : ℕ} (body : Body) (told : List Act) (d : Done)
    → list_any (starts_it id) told ≡ false → Calm C id body d → Calm C id body (behind told d)
calm_behind {id = id} body told d none k =
    record {
      offer = k.offer;
      flight = k.flight;
      same = k.same;
      starts = λ o.
          none_both id told d.acts none (k.starts o);
    }

calm_both : {C : Type 0} {id : ℕ} (body : Body) (first : Done) (next : Body → Done)
    → Calm C id body first → Calm C id first.body (next first.body)
    → Calm C id body (and_then first next)
calm_both {id = id} body first next a b = record {
  offer = λ o. b.offer (a.offer o);
  flight = λ c ws all. b.flight c ws (a.flight c ws all);
  same = b.same ∙ a.same;
  starts = λ o. none_both id first.acts (next first.body).acts (a.starts o) (b.starts (a.offer o));
}

-- the exit's session changes first
calm_session : {C : Type 0} {id : ℕ} (s : SessionEnd) (body : Body) (d : Done)
    → Calm C id (with_session Exit s body) d → Calm C id body d
calm_session s body d k =
    record { offer = k.offer; flight = k.flight; same = k.same; starts = k.starts }

intake_calm : {C : Type 0} {id : ℕ} (desk : Desk) (body : Body) (w : InInput)
    (found : Option InRow) → intake_row body.intake w ≡ found → IsCalmInput w
    → Calm C id body (intake_row_did desk body found)
intake_calm desk body w None is calm = calm_still body
intake_calm {id = id} desk body w (Some row) is calm =
    let shape = in_row_is body.intake w row is in
    record {
      offer = row_offer shape (calm_brings w calm);
      flight = λ c ws all.
          open_wider (passes_offers_over body.intake.phase) (passes_offers_over row.after.phase)
          (row_passes shape calm) all;
      same = refl;
      starts = row_none id desk shape;
    }

-- a connection is closed that stands no more
intake_closed : {C : Type 0} {id : ℕ} (desk : Desk) (body : Body) (found : Option InRow)
    → intake_row body.intake in_input.Closed ≡ found → (C → ⊥)
    → Calm C id body (intake_row_did desk body found)
intake_closed desk body None is none = calm_still body
intake_closed {id = id} desk body (Some row) is none =
    let shape = in_row_is body.intake in_input.Closed row is in
    record {
      offer = row_offer shape tt;
      flight = λ c ws all. absurd (none c);
      same = refl;
      starts = row_none id desk shape;
    }

outlet_calm : {C : Type 0} {id : ℕ} (desk : Desk) (body : Body) (found : Option OutRow)
    → Calm C id body (outlet_row_did desk body found)
outlet_calm desk body None = calm_still body
outlet_calm {id = id} desk body (Some row) =
    calm_aside body (outlet_row_did desk body (Some row)) refl refl
    (out_none id desk body.kept row.act)

-- ---- sessions

-- an end of the entry's connection is heard where C doesn't hold
abbrev Bar : Side → Type 0 → Option Action → Type 0
Bar Entry C (Some Close) = C → ⊥
Bar _ C _ = Unit {0}

abbrev Bars : Side → Type 0 → Actions → Type 0
Bars side C actions =
    Bar side C actions.first × (Bar side C actions.second × Bar side C actions.third)

closes_calm : {C : Type 0} {id : ℕ} (desk : Desk) (side : Side) (body : Body)
    → Bar side C (Some Close) → Calm C id body (half_closed desk side body)
closes_calm desk Entry body bar =
    intake_closed desk body (intake_row body.intake in_input.Closed) refl bar
closes_calm desk Exit body bar = outlet_calm desk body (outlet_row body.outlet out_input.Closed)

action_calm : {C : Type 0} {id : ℕ} (desk : Desk) (side : Side) (action : Action) (body : Body)
    → Bar side C (Some action) → Calm C id body (action_did desk side action body)
action_calm desk side SendService body bar = calm_aside body _ refl refl refl
action_calm desk side (Pong name) body bar = calm_aside body _ refl refl refl
action_calm desk side (Ping n) body bar = calm_aside body _ refl refl refl
action_calm desk side (Tell what) body bar = calm_aside body _ refl refl refl
action_calm desk side Close body bar =
    calm_behind body (acts.Closes side ∷ []) (half_closed desk side body) refl
    (closes_calm desk side body bar)
action_calm desk side Stand body bar =
    intake_calm desk body in_input.Stand (intake_row body.intake in_input.Stand) refl tt
action_calm desk side (Pass what) body bar = calm_still body

maybe_calm : {C : Type 0} {id : ℕ} (desk : Desk) (side : Side) (action : Option Action)
    (body : Body) → Bar side C action → Calm C id body (maybe_did desk side action body)
maybe_calm desk side None body bar = calm_still body
maybe_calm desk side (Some action) body bar = action_calm desk side action body bar

actions_calm : {C : Type 0} {id : ℕ} (desk : Desk) (side : Side) (actions : Actions)
    (body : Body) → Bars side C actions → Calm C id body (actions_did desk side actions body)
actions_calm desk side actions body bars =
    let one = maybe_did desk side actions.first body in
    let two = maybe_did desk side actions.second one.body in
    calm_both body one (λ (b : Body). and_then (maybe_did desk side actions.second b)
    (maybe_did desk side actions.third)) (maybe_calm desk side actions.first body bars.0)
    (calm_both one.body two (maybe_did desk side actions.third)
    (maybe_calm desk side actions.second one.body bars.1.0)
    (maybe_calm desk side actions.third two.body bars.1.1))

bars_exit : (C : Type 0) (actions : Actions) → Bars Exit C actions
bars_exit C actions = (tt, (tt, tt))

-- a session that has its machine close has no connection
abbrev IsOn : SessionEnd → Type 0
IsOn s = is_connected_state s.state ≡ true

row_bars : {s : SessionEnd} {input : Given} {row : SessionRow} → IsSessionRow s input row
    → Bars Entry (IsOn row.after) row.actions
row_bars is_unsettled = (tt, (λ on. false≢true on, tt))
row_bars (gives_up_handshake _) = (λ on. false≢true on, (tt, tt))
row_bars (gives_up_standing _ _) = (λ on. false≢true on, (tt, tt))
row_bars (row_shuts _) = (tt, (λ on. false≢true on, tt))
row_bars _ = (tt, (tt, tt))

exit_session : {C : Type 0} {id : ℕ} (desk : Desk) (found : Option SessionRow) (body : Body)
    → Calm C id body (session_did desk Exit found body)
exit_session desk None body = calm_still body
exit_session {C = C} desk (Some row) body =
    calm_session row.after body (session_did desk Exit (Some row) body)
    (actions_calm desk Exit row.actions (with_session Exit row.after body)
    (bars_exit C row.actions))

exit_ended : {C : Type 0} {id : ℕ} (desk : Desk) (body : Body)
    → Calm C id body (ended desk Exit body)
exit_ended desk body =
    let b = with_session Exit (at_rest body.exit.session.role) body in
    calm_session (at_rest body.exit.session.role) body (ended desk Exit body)
    (outlet_calm desk b (outlet_row b.outlet out_input.Closed))

exit_breaches : {C : Type 0} {id : ℕ} (desk : Desk) (text : List ℕ) (body : Body)
    → Calm C id body (breaches desk Exit text body)
exit_breaches desk text body =
    calm_behind body (acts.Breaches Exit text ∷ (sends desk Exit (notification 1 Fatal text)
    ++ acts.Closes Exit ∷ [])) (ended desk Exit body) refl (exit_ended desk body)

-- ---- what is heard at the exit

-- what a half took, if it has a row
data CalmAny (C : Type 0) (id : ℕ) (body : Body) : Option Done → Type 0 where
  calm_none : CalmAny C id body None
  calm_some : {d : Done} → Calm C id body d → CalmAny C id body (Some d)

exit_half : {C : Type 0} {id : ℕ} (desk : Desk) (body : Body) (found : Option OutRow)
    → CalmAny C id body (outlet_took desk body found)
exit_half desk body None = calm_none
exit_half desk body (Some row) = calm_some (outlet_calm desk body (Some row))

start_half : {C : Type 0} {id : ℕ} (desk : Desk) (body : Body) (kept : List Record)
    (found : Option OutRow)
    → CalmAny C id body (outlet_took desk (record body { kept = kept }) found)
start_half desk body kept None = calm_none
start_half {id = id} desk body kept (Some row) =
    calm_some
    (calm_aside body (outlet_row_did desk (record body { kept = kept }) (Some row)) refl refl
    (out_none id desk kept row.act))

exit_calm : {C : Type 0} {id : ℕ} (desk : Desk) (word : ExitWord) (body : Body)
    → CalmAny C id body (exit_took desk word body)
exit_calm desk exits.Ready body =
    exit_half desk body (outlet_row body.outlet out_input.MachineReady)
exit_calm desk exits.Unready body =
    exit_half desk body (outlet_row body.outlet out_input.RevokeMachineReady)
exit_calm desk (exits.Start named) body =
    let test = would_open body.outlet named in
    start_half desk body (behind_opening test body.kept)
    (outlet_row body.outlet (out_input.Start named (opening_board test body.kept)))
exit_calm desk (exits.Stop state named) body =
    exit_half desk body (outlet_row body.outlet (out_input.Stop state named))
exit_calm desk (exits.Query top bottom) body = calm_some (calm_aside body _ refl refl refl)
exit_calm desk exits.Nothing body = calm_some (calm_still body)

exit_passed : {C : Type 0} {id : ℕ} (desk : Desk) (message : Message) (body : Body)
    (found : Option Done) → CalmAny C id body found
    → Calm C id body (passed desk Exit message body found)
exit_passed desk message body None any =
    exit_breaches desk (unexpected (kind_of message.body)) body
exit_passed desk message body (Some d) (calm_some k) =
    calm_behind body (acts.Hears Exit message ∷ []) d refl k

exit_by : {C : Type 0} {id : ℕ} (desk : Desk) (message : Message) (actions : Actions)
    (body : Body)
    → Calm C id body (behind (acts.Hears Exit message ∷ []) (actions_did desk Exit actions body))
exit_by {C = C} desk message actions body =
    calm_behind body (acts.Hears Exit message ∷ []) (actions_did desk Exit actions body) refl
    (actions_calm desk Exit actions body (bars_exit C actions))

exit_taken : {C : Type 0} {id : ℕ} (desk : Desk) (message : Message) (first : Option Action)
    (actions : Actions) (body : Body)
    → Calm C id body (taken desk Exit message first actions body)
exit_taken desk message (Some (Pass what)) actions body =
    exit_passed desk message body (exit_took desk (exit_word what) body)
    (exit_calm desk (exit_word what) body)
exit_taken desk message None actions body = exit_by desk message actions body
exit_taken desk message (Some SendService) actions body = exit_by desk message actions body
exit_taken desk message (Some (Pong name)) actions body = exit_by desk message actions body
exit_taken desk message (Some (Ping n)) actions body = exit_by desk message actions body
exit_taken desk message (Some (Tell what)) actions body = exit_by desk message actions body
exit_taken desk message (Some Close) actions body = exit_by desk message actions body
exit_taken desk message (Some Stand) actions body = exit_by desk message actions body

exit_rowed : {C : Type 0} {id : ℕ} (desk : Desk) (message : Message) (body : Body)
    (found : Option SessionRow) → Calm C id body (rowed desk Exit message body found)
exit_rowed desk message body None = exit_breaches desk (unexpected (kind_of message.body)) body
exit_rowed desk message body (Some row) =
    calm_session row.after body (rowed desk Exit message body (Some row))
    (exit_taken desk message row.actions.first row.actions (with_session Exit row.after body))

exit_hears : {C : Type 0} {id : ℕ} (desk : Desk) (word : Word) (body : Body)
    → Calm C id body (word_did desk Exit word body)
exit_hears desk (Says message) body =
    exit_rowed desk message body
    (session_row (session_at Exit body) (heard message.body (is_some (held body.outlet))))
exit_hears desk (Wrong text) body = exit_breaches desk text body

calm_if : {C : Type 0} {id : ℕ} (test : Bool) (d : Done) (body : Body) → Calm C id body d
    → Calm C id body (if_open test d body)
calm_if true d body k = k
calm_if false d body k = calm_still body

exit_heard : {C : Type 0} {id : ℕ} (desk : Desk) (words : List Word) (body : Body)
    → Calm C id body (all_heard desk Exit words body)
exit_heard desk [] body = calm_still body
exit_heard desk (word ∷ others) body =
    calm_if (is_open Exit body)
    (and_then (word_did desk Exit word body) (all_heard desk Exit others)) body
    (calm_both body (word_did desk Exit word body) (all_heard desk Exit others)
    (exit_hears desk word body) (exit_heard desk others (word_did desk Exit word body).body))

-- ---- sensor events

saw_calm : {C : Type 0} {id : ℕ} (desk : Desk) (side : Side) (event : SensorEvent) (body : Body)
    → Calm C id body (behind (acts.Reads side event ∷ []) (saw desk side event body))
saw_calm desk Entry event body =
    calm_behind body (acts.Reads Entry event ∷ []) (saw desk Entry event body) refl
    (intake_calm desk body (in_input.Sensed event)
    (intake_row body.intake (in_input.Sensed event)) refl tt)
saw_calm desk Exit event body =
    calm_behind body (acts.Reads Exit event ∷ []) (saw desk Exit event body) refl
    (outlet_calm desk body (outlet_row body.outlet (out_input.Sensed event)))

all_read_calm : {C : Type 0} {id : ℕ} (desk : Desk) (unread : List Sensed) (body : Body)
    → Calm C id body (all_read desk unread body)
all_read_calm desk [] body = calm_still body
all_read_calm desk (sensed ∷ others) body =
    calm_both body (reads desk sensed body) (all_read desk others)
    (saw_calm desk sensed.side sensed.event body)
    (all_read_calm desk others (reads desk sensed body).body)

-- ---- the announcements

revoke_calm : {C : Type 0} {id : ℕ} (desk : Desk) (test : Bool) (body : Body)
    → Calm C id body (revoke_by desk test body)
revoke_calm desk true body = outlet_calm desk body (outlet_row body.outlet out_input.Revoke)
revoke_calm desk false body = calm_still body

unready_calm : {C : Type 0} {id : ℕ} (desk : Desk) (test : Bool) (body : Body)
    → Calm C id body (unready_by desk test body)
unready_calm desk true body =
    intake_calm desk body in_input.Unready (intake_row body.intake in_input.Unready) refl tt
unready_calm desk false body = calm_still body

offer_calm : {C : Type 0} {id : ℕ} (desk : Desk) (test : Bool) (front : Option Record)
    (body : Body) → Calm C id body (offer_by desk test front body)
offer_calm desk true (Some front) body =
    outlet_calm desk body (outlet_row body.outlet (out_input.Offer front.id))
offer_calm desk true None body = calm_still body
offer_calm desk false front body = calm_still body

ready_calm : {C : Type 0} {id : ℕ} (desk : Desk) (test : Bool) (body : Body)
    → Calm C id body (ready_by desk test body)
ready_calm desk true body =
    intake_calm desk body in_input.Ready (intake_row body.intake in_input.Ready) refl tt
ready_calm desk false body = calm_still body

start_calm : {C : Type 0} {id : ℕ} (desk : Desk) (test : Bool) (body : Body)
    → Calm C id body (start_by desk test body)
start_calm desk true body =
    intake_calm desk body in_input.Start (intake_row body.intake in_input.Start) refl tt
start_calm desk false body = calm_still body

announces_calm : {C : Type 0} {id : ℕ} (desk : Desk) (body : Body)
    → Calm C id body (announces desk body)
announces_calm desk body =
    let one = (revoke desk body).body in
    let two = (unready desk one).body in
    let three = (offer desk two).body in
    let four = (ready desk three).body in
    calm_both body (revoke desk body) (λ (b : Body). and_then (unready desk b) (λ c.
    and_then (offer desk c) (λ d. and_then (ready desk d) (start desk))))
    (revoke_calm desk (revokes_now body) body)
    (calm_both one (unready desk one) (λ (c : Body). and_then (offer desk c) (λ d.
    and_then (ready desk d) (start desk))) (unready_calm desk (unreadies_now desk one) one)
    (calm_both two (offer desk two) (λ (d : Body). and_then (ready desk d) (start desk))
    (offer_calm desk (offers_now two) (slice_get two.kept 0) two)
    (calm_both three (ready desk three) (start desk)
    (ready_calm desk (readies_now desk three) three)
    (start_calm desk (starts_now four) four))))

-- ---- behind a micro event: these words are on their way yet

record Goes (id : ℕ) (ws : List DownWord) (d : Done) : Type 0 where
  offer : OfferIs (IsOther id) d.body.intake.offer
  flight : is_open Entry d.body ≡ true
      → OpenAll (IsOther id) (passes_offers_over d.body.intake.phase) ws
  starts : list_any (starts_it id) d.acts ≡ false

goes_calm : {id : ℕ} {ws : List DownWord} (body : Body) (d : Done) → Calm (Unit {0}) id body d
    → OfferIs (IsOther id) body.intake.offer
    → OpenAll (IsOther id) (passes_offers_over body.intake.phase) ws → Goes id ws d
goes_calm {ws = ws} body d k o all =
    record { offer = k.offer o; flight = λ on. k.flight tt ws all; starts = k.starts o }

goes_behind : {id : ℕ} {ws : List DownWord} (told : List Act) (d : Done)
    → list_any (starts_it id) told ≡ false → Goes id ws d → Goes id ws (behind told d)
goes_behind {id = id} told d none g =
    record { offer = g.offer; flight = g.flight; starts = none_both id told d.acts none g.starts }

-- the entry's session changes first
goes_session : {id : ℕ} {ws : List DownWord} (s : SessionEnd) (body : Body) (d : Done)
    → Calm (IsOn s) id (with_session Entry s body) d → OfferIs (IsOther id) body.intake.offer
    → OpenAll (IsOther id) (passes_offers_over body.intake.phase) ws → Goes id ws d
goes_session {ws = ws} s body d k o all =
    record {
      offer = k.offer o;
      flight = λ on.
          k.flight (subst (λ (e : SessionEnd). IsOn e) k.same on) ws all;
      starts = k.starts o;
    }

-- it has no connection then, whatever comes
goes_off : {id : ℕ} {ws : List DownWord} (s : SessionEnd) (body : Body) (d : Done)
    → is_connected_state s.state ≡ false → Calm (IsOn s) id (with_session Entry s body) d
    → OfferIs (IsOther id) body.intake.offer → Goes id ws d
goes_off s body d off k o =
    record {
      offer = k.offer o;
      flight = λ on.
          absurd (false≢true (sym off ∙ subst (λ (e : SessionEnd). IsOn e) k.same on));
      starts =
          k.starts o;
    }

goes_then : {id : ℕ} {ws : List DownWord} (first : Done) (next : Body → Done) → Goes id ws first
    → Calm (Unit {0}) id first.body (next first.body) → Goes id ws (and_then first next)
goes_then {id = id} {ws = ws} first next g k = record {
  offer = k.offer g.offer;
  flight = λ on. k.flight tt ws (g.flight (subst (λ (e : SessionEnd). IsOn e) k.same on));
  starts = none_both id first.acts (next first.body).acts g.starts (k.starts g.offer);
}

goes_after : {id : ℕ} {ws : List DownWord} (first : Done) (next : Body → Done)
    → list_any (starts_it id) first.acts ≡ false → Goes id ws (next first.body)
    → Goes id ws (and_then first next)
goes_after {id = id} first next none g =
    record {
      offer = g.offer;
      flight = g.flight;
      starts = none_both id first.acts (next first.body).acts none g.starts;
    }

entry_session : {id : ℕ} {ws : List DownWord} (desk : Desk) (input : Given)
    (found : Option SessionRow) (body : Body)
    → session_row (session_at Entry body) input ≡ found
    → OfferIs (IsOther id) body.intake.offer
    → OpenAll (IsOther id) (passes_offers_over body.intake.phase) ws
    → Goes id ws (session_did desk Entry found body)
entry_session desk input None body is o all = goes_calm body (stays body) (calm_still body) o all
entry_session desk input (Some row) body is o all =
    goes_session row.after body (session_did desk Entry (Some row) body)
    (actions_calm desk Entry row.actions (with_session Entry row.after body)
    (row_bars (session_row_is (session_at Entry body) input row is))) o all

entry_ended : {id : ℕ} {ws : List DownWord} (desk : Desk) (body : Body)
    → OfferIs (IsOther id) body.intake.offer → Goes id ws (ended desk Entry body)
entry_ended desk body o =
    let s = at_rest body.entry.session.role in
    let b = with_session Entry s body in
    goes_off s body (ended desk Entry body) refl
    (intake_closed desk b (intake_row b.intake in_input.Closed) refl (λ on. false≢true on)) o

entry_breaches : {id : ℕ} {ws : List DownWord} (desk : Desk) (text : List ℕ) (body : Body)
    → OfferIs (IsOther id) body.intake.offer → Goes id ws (breaches desk Entry text body)
entry_breaches desk text body o =
    goes_behind (acts.Breaches Entry text ∷ (sends desk Entry (notification 1 Fatal text)
    ++ acts.Closes Entry ∷ [])) (ended desk Entry body) refl (entry_ended desk body o)

-- ---- what is heard at the entry

-- by the intake: a word is taken off
took_goes : {id : ℕ} {ws : List DownWord} (desk : Desk) (message : Message) (body : Body)
    (w : InInput) (found : Option InRow) → intake_row body.intake w ≡ found
    → OfferIs (IsOther id) body.intake.offer
    → ((row : InRow) → IsIntakeRow body.intake w row → Takes (IsOther id) ws row)
    → Goes id ws (passed desk Entry message body (intake_took desk body found))
took_goes desk message body w None is o takes =
    entry_breaches desk (unexpected (kind_of message.body)) body o
took_goes {id = id} desk message body w (Some row) is o takes =
    let shape = in_row_is body.intake w row is in
    let t = takes row shape in
    goes_behind (acts.Hears Entry message ∷ []) (intake_row_did desk body (Some row)) refl
    (record { offer = t.offer; flight = λ on. t.flight; starts = row_none id desk shape o })

-- by the session alone
by_session : {id : ℕ} {ws : List DownWord} (desk : Desk) (message : Message) (row : SessionRow)
    (body : Body) → Bars Entry (IsOn row.after) row.actions
    → OfferIs (IsOther id) body.intake.offer
    → OpenAll (IsOther id) (passes_offers_over body.intake.phase) ws
    → Goes id ws
    (behind (acts.Hears Entry message ∷ [])
    (actions_did desk Entry row.actions (with_session Entry row.after body)))
by_session desk message row body bars o all =
    goes_behind (acts.Hears Entry message ∷ [])
    (actions_did desk Entry row.actions (with_session Entry row.after body)) refl
    (goes_session row.after body
    (actions_did desk Entry row.actions (with_session Entry row.after body))
    (actions_calm desk Entry row.actions (with_session Entry row.after body) bars) o all)

-- by nobody
by_none : {id : ℕ} {ws : List DownWord} (message : Message) (body : Body)
    → OfferIs (IsOther id) body.intake.offer
    → OpenAll (IsOther id) (passes_offers_over body.intake.phase) ws
    → Goes id ws (behind (acts.Hears Entry message ∷ []) (stays body))
by_none message body o all =
    goes_behind (acts.Hears Entry message ∷ []) (stays body) refl
    (goes_calm body (stays body) (calm_still body) o all)

service_off : {Q : Record → Type 0} {b : Bool} {ws : List DownWord}
    → OpenAll Q b (UpstreamService ∷ ws) → OpenAll Q b ws
service_off (open_service rest) = rest

entry_taken : (id : ℕ) (desk : Desk) (stamp : Option ℤ) (what : Horizontal)
    (ws : List DownWord) {unsettled : Bool} {s : SessionEnd} (row : SessionRow) (body : Body)
    → IsSessionRow s (heard what unsettled) row
    → OfferIs (IsOther id) body.intake.offer
    → OpenAll (IsOther id) (passes_offers_over body.intake.phase) (before_down what ws)
    → Goes id ws
    (taken desk Entry (record { stamp = stamp; body = what }) row.actions.first row.actions
    (with_session Entry row.after body))
entry_taken id desk stamp what ws row body stands_upstream o all =
    by_session desk (record { stamp = stamp; body = what }) row body (
      tt,
      (tt, tt),
    ) o (service_off all)
entry_taken id desk stamp what ws row body is_unsettled o all =
    by_session desk (record { stamp = stamp; body = what }) row body (
      tt,
      (λ on. false≢true on, tt),
    ) o (service_off all)
entry_taken id desk stamp what ws row body stands_downstream o all =
    by_session desk (record { stamp = stamp; body = what }) row body (
      tt,
      (tt, tt),
    ) o (service_off all)
entry_taken id desk stamp what ws row body (answers on) o all =
    by_session desk (record { stamp = stamp; body = what }) row body (tt, (tt, tt)) o all
entry_taken id desk stamp what ws row body (is_answered on) o all =
    by_session desk (record { stamp = stamp; body = what }) row body (tt, (tt, tt)) o all
entry_taken id desk stamp what ws row body (is_alive on) o all =
    by_session desk (record { stamp = stamp; body = what }) row body (tt, (tt, tt)) o all
entry_taken id desk stamp what ws row body (is_notified on) o all =
    by_session desk (record { stamp = stamp; body = what }) row body (tt, (tt, tt)) o all
entry_taken id desk stamp what ws row body (passes_over on) o all =
    by_session desk (record { stamp = stamp; body = what }) row body (tt, (tt, tt)) o all
entry_taken id desk stamp what ws row body (passes_available {board = board}) o all =
    took_goes desk (record { stamp = stamp; body = what }) (with_session Entry row.after body)
    (in_input.BoardAvailable board)
    (intake_row body.intake (in_input.BoardAvailable board)) refl o (λ r shape.
    available_takes shape o all)
entry_taken id desk stamp what ws row body passes_revoked o all =
    took_goes desk (record { stamp = stamp; body = what })
    (with_session Entry row.after body) in_input.RevokeBoardAvailable
    (intake_row body.intake in_input.RevokeBoardAvailable) refl o (λ r shape.
    revoked_takes shape o all)
entry_taken id desk stamp what ws row body (passes_finished {said = said} {id = named}) o all =
    took_goes desk (record { stamp = stamp; body = what }) (with_session Entry row.after body)
    (in_input.Finished said named)
    (intake_row body.intake (in_input.Finished said named)) refl o (λ r shape.
    finished_takes shape o all)
entry_taken id desk stamp what ws row body passes_ready o all =
    by_none (record { stamp = stamp; body = what }) (with_session Entry row.after body) o all
entry_taken id desk stamp what ws row body passes_unready o all =
    by_none (record { stamp = stamp; body = what }) (with_session Entry row.after body) o all
entry_taken id desk stamp what ws row body passes_start o all =
    by_none (record { stamp = stamp; body = what }) (with_session Entry row.after body) o all
entry_taken id desk stamp what ws row body passes_stop o all =
    by_none (record { stamp = stamp; body = what }) (with_session Entry row.after body) o all
entry_taken id desk stamp what ws row body passes_query o all =
    by_none (record { stamp = stamp; body = what }) (with_session Entry row.after body) o all
entry_taken id desk stamp what ws row body passes_forecast o all =
    by_none (record { stamp = stamp; body = what }) (with_session Entry row.after body) o all
entry_taken id desk stamp what ws row body passes_info o all =
    by_none (record { stamp = stamp; body = what }) (with_session Entry row.after body) o all

entry_rowed : (id : ℕ) (desk : Desk) (message : Message) (ws : List DownWord) (unsettled : Bool)
    (body : Body) (found : Option SessionRow)
    → session_row (session_at Entry body) (heard message.body unsettled) ≡ found
    → OfferIs (IsOther id) body.intake.offer
    → OpenAll (IsOther id) (passes_offers_over body.intake.phase) (before_down message.body ws)
    → Goes id ws (rowed desk Entry message body found)
entry_rowed id desk message ws unsettled body None is o all =
    entry_breaches desk (unexpected (kind_of message.body)) body o
entry_rowed id desk message ws unsettled body (Some row) is o all =
    entry_taken id desk message.stamp message.body ws row body
    (session_row_is (session_at Entry body) (heard message.body unsettled) row is) o all

entry_hears : (id : ℕ) (desk : Desk) (message : Message) (ws : List DownWord) (body : Body)
    → OfferIs (IsOther id) body.intake.offer
    → OpenAll (IsOther id) (passes_offers_over body.intake.phase) (before_down message.body ws)
    → Goes id ws (hears desk Entry message body)
entry_hears id desk message ws body o all =
    entry_rowed id desk message ws (is_some (held body.outlet)) body
    (session_row (session_at Entry body) (heard message.body (is_some (held body.outlet)))) refl o
    all

-- only where there is a connection
goes_if : {id : ℕ} {ws : List DownWord} (test : Bool) (d : Done) (body : Body)
    → is_open Entry body ≡ test → OfferIs (IsOther id) body.intake.offer
    → (is_open Entry body ≡ true → Goes id ws d) → Goes id ws (if_open test d body)
goes_if true d body is o g = g is
goes_if false d body is o g =
    record { offer = o; flight = λ on. absurd (false≢true (sym is ∙ on)); starts = refl }

entry_heard : (id : ℕ) (desk : Desk) (words : List Word) (messages : List Horizontal)
    (body : Body) → AreOldest words messages → OfferIs (IsOther id) body.intake.offer
    → (is_open Entry body ≡ true
    → OpenAll (IsOther id) (passes_offers_over body.intake.phase) (down_words messages))
    → Goes id (down_words (drop (length words) messages)) (all_heard desk Entry words body)
entry_heard id desk [] messages body oldest o all =
    record { offer = o; flight = all; starts = refl }
entry_heard id desk (Says message ∷ others) _ body (oldest_says {messages = rest} oldest) o all =
    goes_if (is_open Entry body)
    (and_then (hears desk Entry message body) (all_heard desk Entry others)) body refl o (λ on.
    let one = hears desk Entry message body in
    let g = entry_hears id desk message (down_words rest) body o (all on) in
    goes_after one (all_heard desk Entry others) g.starts
    (entry_heard id desk others rest one.body oldest g.offer g.flight))
entry_heard id desk (Wrong text ∷ others) messages body oldest_wrong o all =
    goes_if (is_open Entry body)
    (and_then (breaches desk Entry text body) (all_heard desk Entry others)) body refl o (λ on.
    let one = breaches desk Entry text body in
    goes_then one (all_heard desk Entry others) (entry_breaches desk text body o)
    (subst (λ (d : Done). Calm (Unit {0}) id one.body d)
    (sym (deaf desk Entry others one.body (breach_shuts desk Entry text body)))
    (calm_still one.body)))

-- ---- what befalls the machine

levels_calm : {C : Type 0} {id : ℕ} (line : SegmentLine) (on : Bool) (body : Body)
    → Calm C id body (tells_level line on body)
levels_calm segment.Ready on body =
    calm_aside body (tells_level segment.Ready on body) refl refl refl
levels_calm segment.Available on body =
    calm_aside body (tells_level segment.Available on body) refl refl refl
levels_calm segment.Failed on body =
    calm_aside body (tells_level segment.Failed on body) refl refl refl

hand_calm : {C : Type 0} {id : ℕ} (test : Bool) (body : Body) (kept : List Record) (act : Act)
    → list_any (starts_it id) (act ∷ []) ≡ false
    → Calm C id body (if_kept test (with_kept kept body) act body)
hand_calm true body kept act none = calm_aside body _ refl refl none
hand_calm false body kept act none = calm_still body

fails_calm : {C : Type 0} {id : ℕ} (front : Option ℕ) (body : Body)
    → Calm C id body (fails front body)
fails_calm None body = calm_still body
fails_calm (Some named) body =
    hand_calm (is_kept named body.kept) body _ (acts.Marks named qualities.Failed) refl

sets_calm : {C : Type 0} {id : ℕ} (desk : Desk) (line : SegmentLine) (on : Bool) (body : Body)
    → Calm C id body (sets_level desk line on body)
sets_calm desk line on body =
    let one : Body = (tells_level line on body).body in
    calm_both body (tells_level line on body)
    (λ (b : Body). fails (failed_front desk.bridge line on b) b) (levels_calm line on body)
    (fails_calm (failed_front desk.bridge line on one) one)

forecasts_calm : {C : Type 0} {id : ℕ} (desk : Desk) (front : Option Record) (body : Body)
    → Calm C id body (done body (forecasts desk front))
forecasts_calm desk None body = calm_still body
forecasts_calm desk (Some board) body =
    calm_aside body (done body (forecasts desk (Some board))) refl refl refl

supervised_calm : {C : Type 0} {id : ℕ} (desk : Desk) (what : Supervision) (body : Body)
    → Calm C id body (supervises desk what body)
supervised_calm desk (Supervise on) body =
    calm_aside body (supervises desk (Supervise on) body) refl refl refl
supervised_calm desk (Ask question) body =
    calm_aside body (supervises desk (Ask question) body) refl refl refl
supervised_calm desk (Answer query order) body =
    calm_aside body (supervises desk (Answer query order) body) refl refl refl

event_goes : (id : ℕ) (desk : Desk) (event : Event) (body : Body) (messages : List Horizontal)
    → AreOldest (entry_words event) messages → OfferIs (IsOther id) body.intake.offer
    → OpenAll (IsOther id) (passes_offers_over body.intake.phase) (down_words messages)
    → Goes id (down_words (drop (length (entry_words event)) messages))
    (event_did desk event body)
event_goes id desk Nothing body messages oldest o all =
    goes_calm body (stays body) (calm_still body) o all
event_goes id desk Connect body messages oldest o all =
    goes_behind (acts.Connects ∷ []) (opens desk Entry body) refl
    (entry_session desk opened (session_row (session_at Entry body) opened) body refl o all)
event_goes id desk Accepted body messages oldest o all =
    goes_calm body (event_did desk Accepted body)
    (exit_session desk (session_row (session_at Exit body) opened) body) o all
event_goes id desk Second body messages oldest o all =
    goes_calm body (event_did desk Second body)
    (exit_session desk (session_row (session_at Exit body) second) body) o all
event_goes id desk (Words Entry words) body messages oldest o all =
    entry_heard id desk words messages body oldest o (λ on. all)
event_goes id desk (Words Exit words) body messages oldest o all =
    goes_calm body (all_heard desk Exit words body) (exit_heard desk words body) o all
event_goes id desk (Notice Entry) body messages oldest o all =
    goes_if (is_open Entry body)
    (behind (acts.Notices Entry ∷ []) (ended desk Entry body)) body refl o (λ on.
    goes_behind (acts.Notices Entry ∷ []) (ended desk Entry body) refl
    (entry_ended desk body o))
event_goes id desk (Notice Exit) body messages oldest o all =
    goes_calm body (event_did desk (Notice Exit) body)
    (calm_if (is_open Exit body) (behind (acts.Notices Exit ∷ []) (ended desk Exit body)) body
    (calm_behind body (acts.Notices Exit ∷ []) (ended desk Exit body) refl
    (exit_ended desk body))) o all
event_goes id desk Tick body messages oldest o all =
    goes_then (ticks desk Entry body) (ticks desk Exit)
    (entry_session desk tick (session_row (session_at Entry body) tick) body refl o all)
    (exit_session desk (session_row (session_at Exit (ticks desk Entry body).body) tick)
    (ticks desk Entry body).body)
event_goes id desk Shutdown body messages oldest o all =
    goes_then (shuts_down desk Entry body) (shuts_down desk Exit)
    (entry_session desk shutdown
    (session_row (session_at Entry body) shutdown) body refl o all)
    (exit_session desk (session_row (session_at Exit (shuts_down desk Entry body).body) shutdown)
    (shuts_down desk Entry body).body)
event_goes id desk (Fault Entry) body messages oldest o all =
    goes_calm body (event_did desk (Fault Entry) body)
    (intake_calm desk body in_input.Fault (intake_row body.intake in_input.Fault) refl tt) o all
event_goes id desk (Fault Exit) body messages oldest o all =
    goes_calm body (event_did desk (Fault Exit) body)
    (outlet_calm desk body (outlet_row body.outlet out_input.Fault)) o all
event_goes id desk (Will Entry on) body messages oldest o all =
    goes_calm body (wills Entry on body)
    (calm_aside body (wills Entry on body) refl refl refl) o all
event_goes id desk (Will Exit on) body messages oldest o all =
    goes_calm body (wills Exit on body) (calm_aside body (wills Exit on body) refl refl refl) o all
event_goes id desk (Level line on) body messages oldest o all =
    goes_calm body (sets_level desk line on body) (sets_calm desk line on body) o all
event_goes id desk (Remove old) body messages oldest o all =
    goes_calm body (event_did desk (Remove old) body)
    (hand_calm (is_kept old body.kept) body _ (acts.Removes old) refl) o all
event_goes id desk (Gives old to) body messages oldest o all =
    goes_calm body (event_did desk (Gives old to) body)
    (hand_calm (is_kept old body.kept) body _ (acts.Gives old to) refl) o all
event_goes id desk (Replace old new) body messages oldest o all =
    goes_calm body (event_did desk (Replace old new) body)
    (hand_calm (is_kept old body.kept) body _ (acts.Replaces old new) refl) o all
event_goes id desk (Mark old quality) body messages oldest o all =
    goes_calm body (event_did desk (Mark old quality) body)
    (hand_calm (is_kept old body.kept) body _ (acts.Marks old quality) refl) o all
event_goes id desk (Sub old sub) body messages oldest o all =
    goes_calm body (event_did desk (Sub old sub) body)
    (hand_calm (takes_sub old sub body.kept) body _ (acts.Subs old sub.pos) refl) o all
event_goes id desk Forecast body messages oldest o all =
    goes_calm body (event_did desk Forecast body)
    (forecasts_calm desk (slice_get body.kept 0) body) o all
event_goes id desk (Supervised what) body messages oldest o all =
    goes_calm body (supervises desk what body) (supervised_calm desk what body) o all
event_goes id desk event body messages oldest o all =
    goes_calm body (event_did desk event body)
    (calm_aside body (event_did desk event body) refl refl refl) o all

-- ---- THE STEP

-- `messages` are on their way to the entry; the oldest of them are heard
pub step_receives : (id : ℕ) (desk : Desk) (unread : List Sensed) (event : Event) (body : Body)
    (messages : List Horizontal)
    → AreOldest (entry_words event) messages → OfferIs (IsOther id) body.intake.offer
    → OpenAll (IsOther id) (passes_offers_over body.intake.phase) (down_words messages)
    → Receives id (entry_words event) messages (plain_step desk unread event body)
step_receives id desk unread event body messages oldest o all =
    let read : Done = all_read desk unread body in
    let one : Calm (Unit {0}) id body read = all_read_calm desk unread body in
    let met : Done = event_did desk event read.body in
    let two =
    event_goes id desk event read.body messages oldest (one.offer o)
    (one.flight tt (down_words messages) all) in
    let three =
    goes_after read (λ (b : Body). and_then (event_did desk event b) (announces desk))
    (one.starts o) (goes_then met (announces desk) two (announces_calm desk met.body)) in
    record { offer = three.offer; flight = three.flight; starts = three.starts }
