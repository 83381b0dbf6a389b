-- All that a machine tells is proper, and the ids of its records stay such: whatever comes to it.
use Rattle.std.proofs.Common.{◌≡◌, ◌++◌, ◌<◌, ◌≤◌, ◌^◌, ◌+◌, ◌-◌, ◌==◌, ℕ, ℤ, Bool, true, false, List, [], ◌∷◌, Option, Some, None, Result, Ok, Err, if◌then◌else◌, drop, refl, sym, subst, arith, eqb-true}
use Rattle.std.specs.Prelude.{nat_le, slice_get}
use Rattle.std.specs.List.{AllByRecursion}
use Rattle.std.proofs.lemmas.Bool.Decides.{nat_tests}
use Rattle.std.proofs.lemmas.List.Elements.{All-from_recursion}
use Rattle.line_base.specs.declared.states.Seen.{Seen}
use Rattle.line_base.specs.declared.states.Side.{Side}
use Rattle.line_base.specs.declared.states.Side.TheVariants.{Entry, Exit}
use Rattle.board_record.specs.Maker.{Maker, after_next, made_id, next_id}
use Rattle.board_record.specs.Record.{plain_record}
use Rattle.board_record.specs.declared.maker.IdsUsedUp.{IdsUsedUp}
use Rattle.board_record.specs.declared.record.Record.{Record}
use Rattle.board_record.specs.declared.sensed.Sensed.{Sensed}
use Rattle.hermes_horizontal.specs.declared.message.Horizontal.{Horizontal}
use Rattle.hermes_horizontal.specs.declared.message.Horizontal.TheVariants as bodies
use Rattle.session_core.specs.End.{SessionEnd, at_rest}
use Rattle.handover_out.specs.declared.act.OutDeed.{OutDeed}
use Rattle.handover_out.specs.declared.act.OutSend.{OutSend}
use Rattle.handover_out.specs.declared.act.OutSend.TheVariants as out_send
use Rattle.handover_out.specs.declared.input.OutInput.{OutInput}
use Rattle.handover_out.specs.declared.input.OutInput.TheVariants as out_input
use Rattle.handover_out.specs.Row.{OutRow}
use Rattle.handover_out.specs.State as outlet
use Rattle.handover_out.specs.State.{OutState, would_open}
use Rattle.handover_out.specs.Table.{IsOutletRow, opens, refuses}
use Rattle.handover_in.specs.declared.act.InDeed.{InDeed}
use Rattle.handover_in.specs.declared.act.InSend.{InSend}
use Rattle.handover_in.specs.declared.act.InSend.TheVariants as in_send
use Rattle.handover_in.specs.declared.input.InInput.{InInput}
use Rattle.handover_in.specs.declared.input.InInput.TheVariants as in_input
use Rattle.handover_in.specs.Row.{InRow}
use Rattle.handover_in.specs.State as intake
use Rattle.handover_in.specs.State.{InState}
use Rattle.handover_in.specs.Table.{IsIntakeRow, available_heard, available_idle, available_stopped, starts_transport}
use Rattle.book_entry.specs.Given.{IsOfOneLane}
use Rattle.machine_log.specs.Account.{AreProper, IsProperAct, id_of_deed}
use Rattle.node_core.specs.Announces.{announces}
use Rattle.node_core.specs.Boards.{is_kept, with_changed, without}
use Rattle.node_core.specs.Desk.{Desk}
use Rattle.node_core.specs.Done.{Done}
use Rattle.node_core.specs.Event.{Event, Gets, Insert, Replace, Words, event_did, event_of, maker_after, with_new}
use Rattle.node_core.specs.Halves.{behind_opening, given_back, opening_board, settled}
use Rattle.node_core.specs.Node.{NodeState, desk_of, new_node}
use Rattle.node_core.specs.Reads.{all_read}
use Rattle.node_core.specs.Sides.{session_at, with_session, with_will}
use Rattle.node_core.specs.Signals.{signalled}
use Rattle.node_core.specs.Step.{Brings, Steps, plain_step}
use Rattle.node_core.specs.Supervising.{cause_of, saw_taken, tells_behind, tells_cause, tells_deed, tells_of, watch_after, watch_of, with_tells}
use Rattle.node_core.specs.Told.{deed_of_in, deed_of_out, drives, in_does, in_sends, offers, out_does, out_sends}
use Rattle.node_core.specs.Words.{AreFirst, Means, first_more, first_none, first_too_long}
use Rattle.node_core.specs.declared.act.Act.{Act}
use Rattle.node_core.specs.declared.act.Deed.{Deed}
use Rattle.node_core.specs.declared.act.Deed.TheVariants as deeds
use Rattle.node_core.specs.declared.input.Input.{Input}
use Rattle.node_core.specs.declared.input.Input.TheVariants as inputs
use Rattle.node_core.specs.declared.lane.Body.{Body}
use Rattle.node_core.specs.declared.lane.Lane.{Lane}
use Rattle.node_core.specs.declared.profile.NodeProfile.{NodeProfile}
use Rattle.node_core.specs.declared.supervising.Cause.{Cause as Told}
use Rattle.node_core.specs.declared.supervising.Cause.TheVariants as causes
use Rattle.node_core.specs.declared.supervising.Watch.{Watch}
use Rattle.node_core.specs.declared.word.Word.{Word}
use Rattle.node_core.specs.declared.word.Word.TheVariants as words
use Rattle.node_core.proofs.Signalling.{signals_all}
use Rattle.smema_bridge.specs.Levels.{BridgeLevels}
use Rattle.step_rules.specs.Causes.{
  Announcing,
  ByHand,
  Cause,
  Hearing,
  IsWordOf,
  Meeting,
  Reading,
  Tells,
  ToIntake,
  ToOutlet,
  changes_circuits,
  changes_front,
  changes_quality,
  hand_changes,
  hand_gets,
  hand_gives,
  hand_inserts,
  hand_removes,
  hand_replaces,
  in_available,
  in_sensed,
  out_sensed,
  tells_answer,
  tells_hearing,
  tells_question,
  tells_reading,
  tells_supervise,
  tells_connecting,
  tells_failed,
  tells_service,
  tells_alive,
  tells_notice,
  tells_info,
  tells_forecast,
  tells_query,
  word_first,
  word_later,
}
use Rattle.step_rules.specs.Made.{
  Made,
  made_act,
  made_both,
  made_breach,
  made_by_hand,
  made_close,
  made_intake,
  made_none,
  made_notice,
  made_outlet,
  made_passed,
  made_row,
  made_start,
  made_will,
  made_word,
}
use Rattle.step_rules.proofs.Acts.{join_all}
use Rattle.step_rules.proofs.Steps.{step_made}
use Rattle.law_node_runs.proofs.Ids.{IsSmall, IsSmallHeard, IsSmallMessage, spelled_small}

abbrev All : List Act → Type 0
All told = AllByRecursion IsProperAct told

-- ---- records

abbrev pub IsSmallIf : Option Record → Type 0
IsSmallIf None = Unit {0}
IsSmallIf (Some board) = IsSmall board.id

pub data AreSmall : List Record → Type 0 where
  none_kept : AreSmall []
  more_kept : {board : Record} {others : List Record} → IsSmall board.id → AreSmall others → AreSmall (board ∷ others)

pub record IsSmallBody (body : Body) : Type 0 where
  pub kept : AreSmall body.kept
  pub outlet : IsSmallIf (outlet.held body.outlet)
  pub intake : IsSmallIf (intake.held body.intake)
  pub offer : IsSmallIf body.intake.offer

given_back_small : (back : Option Record) (kept : List Record) → IsSmallIf back → AreSmall kept → AreSmall (given_back back kept)
given_back_small None kept small k = k
given_back_small (Some board) kept small k = more_kept small k

behind_small : {kept : List Record} (board : Record) → AreSmall kept → IsSmall board.id → AreSmall (kept ++ board ∷ [])
behind_small board none_kept small = more_kept small none_kept
behind_small board (more_kept one others) small = more_kept one (behind_small board others small)

settled_small : (keep : Option Record) (kept : List Record) → IsSmallIf keep → AreSmall kept → AreSmall (settled keep kept)
settled_small None kept small k = k
settled_small (Some board) kept small k = behind_small board k small

front_small : (kept : List Record) → AreSmall kept → IsSmallIf (slice_get kept 0)
front_small [] k = tt
front_small (board ∷ others) (more_kept one rest) = one

opening_small : (opening : Bool) (kept : List Record) → AreSmall kept → IsSmallIf (opening_board opening kept)
opening_small true kept k = front_small kept k
opening_small false kept k = tt

others_small : (kept : List Record) → AreSmall kept → AreSmall (drop 1 kept)
others_small [] k = k
others_small (board ∷ boards) (more_kept one others) = others

behind_opening_small : (opening : Bool) (kept : List Record) → AreSmall kept → AreSmall (behind_opening opening kept)
behind_opening_small true kept k = others_small kept k
behind_opening_small false kept k = k

-- a record that is kept, taken out or changed
kept_by : (test : Bool) (id : ℕ) (board : Record) (rest : Bool) → (board.id == id) ≡ test → IsSmall board.id → (if test then true else rest) ≡ true → (rest ≡ true → IsSmall id) → IsSmall id
kept_by true id board rest same small is later = subst IsSmall (eqb-true board.id id same) small
kept_by false id board rest same small is later = later is

kept_small : (id : ℕ) (kept : List Record) → is_kept id kept ≡ true → AreSmall kept → IsSmall id
kept_small id [] is k = absurd cc
kept_small id (board ∷ others) is (more_kept one rest) = kept_by (board.id == id) id board (is_kept id others) refl one is (λ there. kept_small id others there rest)

without_by : (test : Bool) (board : Record) (others less : List Record) → IsSmall board.id → AreSmall others → AreSmall less → AreSmall (if test then others else board ∷ less)
without_by true board others less one rest fewer = rest
without_by false board others less one rest fewer = more_kept one fewer

without_small : (id : ℕ) (kept : List Record) → AreSmall kept → AreSmall (without id kept)
without_small id [] k = k
without_small id (board ∷ others) (more_kept one rest) = without_by (board.id == id) board others (without id others) one rest (without_small id others rest)

changed_by : (test : Bool) (board changed : Record) (others more : List Record) → IsSmall board.id → IsSmall changed.id → AreSmall others → AreSmall more → AreSmall (if test then changed ∷ others else board ∷ more)
changed_by true board changed others more one new rest later = more_kept new rest
changed_by false board changed others more one new rest later = more_kept one later

changed_small : (id : ℕ) (change : Record → Record) (kept : List Record) → ((board : Record) → IsSmall board.id → IsSmall (change board).id) → AreSmall kept → AreSmall (with_changed id change kept)
changed_small id change [] stays k = k
changed_small id change (board ∷ others) stays (more_kept one rest) =
    changed_by (board.id == id) board (change board) others (with_changed id change others) one (stays board one) rest (changed_small id change others stays rest)

with_session_small : (side : Side) (s : SessionEnd) (body : Body) → IsSmallBody body → IsSmallBody (with_session side s body)
with_session_small Entry s body b = record { kept = b.kept; outlet = b.outlet; intake = b.intake; offer = b.offer }
with_session_small Exit s body b = record { kept = b.kept; outlet = b.outlet; intake = b.intake; offer = b.offer }

with_will_small : (side : Side) (on : Bool) (body : Body) → IsSmallBody body → IsSmallBody (with_will side on body)
with_will_small Entry on body b = record { kept = b.kept; outlet = b.outlet; intake = b.intake; offer = b.offer }
with_will_small Exit on body b = record { kept = b.kept; outlet = b.outlet; intake = b.intake; offer = b.offer }

-- ---- the rows of both halves

abbrev IsSmallOutInput : OutInput → Type 0
IsSmallOutInput (out_input.Start id board) = IsSmall id × IsSmallIf board
IsSmallOutInput input = Unit {0}

abbrev IsSmallOutDeed : Option OutDeed → Type 0
IsSmallOutDeed None = Unit {0}
IsSmallOutDeed (Some deed) = IsSmall (id_of_deed (deed_of_out deed))

record IsSmallOutRow (r : OutRow) : Type 0 where
  held : IsSmallIf (outlet.held r.after)
  back : IsSmallIf r.act.back
  deed : IsSmallOutDeed r.act.deed

out_row : {s : OutState} {input : OutInput} {r : OutRow} → IsOutletRow s input r → IsSmallIf (outlet.held s) → IsSmallOutInput input → IsSmallOutRow r
out_row (opens e) small given = record { held = given.1; back = tt; deed = given.1 }
out_row (refuses other) small given = record { held = tt; back = tt; deed = given.0 }
out_row _ small given = record { held = assumption small; back = assumption small; deed = assumption small }

abbrev IsSmallInInput : InInput → Type 0
IsSmallInInput (in_input.BoardAvailable board) = IsSmall board.id
IsSmallInInput input = Unit {0}

abbrev IsSmallInDeed : Option InDeed → Type 0
IsSmallInDeed None = Unit {0}
IsSmallInDeed (Some deed) = IsSmall (id_of_deed (deed_of_in deed))

record IsSmallInRow (r : InRow) : Type 0 where
  held : IsSmallIf (intake.held r.after)
  offer : IsSmallIf r.after.offer
  keep : IsSmallIf r.act.keep
  deed : IsSmallInDeed r.act.deed

in_row : {s : InState} {input : InInput} {r : InRow} → IsIntakeRow s input r → IsSmallIf (intake.held s) → IsSmallIf s.offer → IsSmallInInput input → IsSmallInRow r
in_row starts_transport small offer given = record { held = offer; offer = tt; keep = tt; deed = offer }
in_row available_idle small offer given = record { held = tt; offer = given; keep = tt; deed = tt }
in_row available_heard small offer given = record { held = small; offer = given; keep = tt; deed = tt }
in_row available_stopped small offer given = record { held = small; offer = given; keep = tt; deed = tt }
in_row _ small offer given = record { held = assumption small; offer = assumption offer; keep = assumption small; deed = assumption small }

-- what is told of a row
drives_proper : (side : Side) (on : Option Bool) → All (drives side on)
drives_proper side None = tt
drives_proper side (Some on) = (tt, tt)

out_does_proper : (deed : Option OutDeed) → IsSmallOutDeed deed → All (out_does deed)
out_does_proper None small = tt
out_does_proper (Some deed) small = (small, tt)

offers_proper : (desk : Desk) (board : Option Record) → All (offers desk board)
offers_proper desk None = tt
offers_proper desk (Some board) = (refl, tt)

out_sends_proper : (desk : Desk) (kept : List Record) (send : Option OutSend) → All (out_sends desk kept send)
out_sends_proper desk kept None = tt
out_sends_proper desk kept (Some out_send.BoardAvailable) = offers_proper desk (slice_get kept 0)
out_sends_proper desk kept (Some out_send.RevokeBoardAvailable) = (refl, tt)
out_sends_proper desk kept (Some (out_send.Finished state id)) = (refl, tt)

in_does_proper : (deed : Option InDeed) → IsSmallInDeed deed → All (in_does deed)
in_does_proper None small = tt
in_does_proper (Some deed) small = (small, tt)

in_sends_proper : (desk : Desk) (send : Option InSend) → All (in_sends desk send)
in_sends_proper desk None = tt
in_sends_proper desk (Some in_send.MachineReady) = (refl, tt)
in_sends_proper desk (Some in_send.RevokeMachineReady) = (refl, tt)
in_sends_proper desk (Some (in_send.Start id)) = (refl, tt)
in_sends_proper desk (Some (in_send.Stop state id)) = (refl, tt)

-- ---- what a piece comes of

abbrev IsSmallWord : Word → Type 0
IsSmallWord (words.Says message) = IsSmallMessage message.body
IsSmallWord (words.Wrong text) = Unit {0}

data AreSmallWords : List Word → Type 0 where
  no_words : AreSmallWords []
  more_words : {word : Word} {others : List Word} → IsSmallWord word → AreSmallWords others → AreSmallWords (word ∷ others)

word_small : {word : Word} {spoken : List Word} → IsWordOf word spoken → AreSmallWords spoken → IsSmallWord word
word_small word_first (more_words one others) = one
word_small (word_later is) (more_words one others) = word_small is others

abbrev IsSmallEvent : Event → Type 0
IsSmallEvent (Words side spoken) = AreSmallWords spoken
IsSmallEvent (Insert id barcode) = IsSmall id
IsSmallEvent (Replace old new) = IsSmall new
IsSmallEvent (Gets board) = IsSmall board.id
IsSmallEvent event = Unit {0}

abbrev IsSmallCause : Cause → Type 0
IsSmallCause Reading = Unit {0}
IsSmallCause (Hearing side word) = IsSmallWord word
IsSmallCause (Meeting event) = IsSmallEvent event
IsSmallCause (Announcing starting) = Unit {0}

out_given : {cause : Cause} {body : Body} {input : OutInput} → ToOutlet cause body input → IsSmallOutInput input
out_given out_sensed = tt
out_given _ = tt

heard_of : (body other : Horizontal) → body ≡ other → IsSmallMessage body → IsSmallHeard other
heard_of body other is small = subst IsSmallHeard is small.ids

in_given : {desk : Desk} {cause : Cause} {body : Body} {input : InInput} → ToIntake desk cause body input → IsSmallCause cause → IsSmallInInput input
in_given (in_available {message = message} {board = board} says on) small = heard_of message.body (bodies.BoardAvailable board) says small
in_given in_sensed small = tt
in_given _ small = tt

tells_proper : {desk : Desk} {cause : Cause} {body : Body} {act : Act} → Tells desk cause body act → IsSmallCause cause → IsProperAct act
tells_proper tells_reading small = tt
tells_proper tells_hearing small = small.name
tells_proper (tells_service talk) small = refl
tells_proper (tells_alive talk) small = refl
tells_proper (tells_notice talk) small = refl
tells_proper (tells_info says on) small = refl
tells_proper (tells_forecast is) small = refl
tells_proper tells_query small = refl
tells_proper tells_connecting small = tt
tells_proper tells_failed small = tt
tells_proper tells_supervise small = tt
tells_proper tells_question small = refl
tells_proper tells_answer small = tt

-- ---- the pieces

record StaysSmall (d : Done) : Type 0 where
  body : IsSmallBody d.body
  acts : All d.acts

by_hand : {desk : Desk} {event : Event} {body : Body} {kept : List Record} {act : Act} → ByHand desk event body kept act → IsSmallEvent event → IsSmallBody body → AreSmall kept × IsProperAct act
by_hand {desk = desk} (hand_inserts {id = id} {barcode = barcode}) small b = (behind_small (plain_record id desk.name barcode) b.kept small, small)
by_hand (hand_removes {id = id} {body = body} is) small b = (without_small id body.kept b.kept, kept_small id body.kept is b.kept)
by_hand (hand_gives {id = id} {body = body} is) small b = (without_small id body.kept b.kept, kept_small id body.kept is b.kept)
by_hand (hand_gets {board = board} {body = body}) small b = (behind_small board b.kept small, small)
by_hand {desk = desk} (hand_replaces {old = old} {new = new} {body = body} is) small b =
    (changed_small old (λ board. plain_record new desk.name None) body.kept (λ board one. small) b.kept, (kept_small old body.kept is b.kept, small))
by_hand (hand_changes (changes_quality {id = id} {body = body} is)) small b = (changed_small id _ body.kept (λ board one. one) b.kept, tt)
by_hand (hand_changes (changes_circuits {id = id} {body = body} is)) small b = (changed_small id _ body.kept (λ board one. one) b.kept, tt)
by_hand (hand_changes (changes_front {id = id} {body = body} front is)) small b = (changed_small id _ body.kept (λ board one. one) b.kept, tt)

piece_small : {desk : Desk} {cause : Cause} {body : Body} {d : Done} → Made desk cause body d → IsSmallCause cause → IsSmallBody body → StaysSmall d
piece_small made_none small b = record { body = b; acts = tt }
piece_small (made_both {one = one} {two = two} first second) small b =
    let a = piece_small first small b in
    let z = piece_small second small a.body in
    record { body = z.body; acts = join_all IsProperAct one.acts two.acts a.acts z.acts }
piece_small (made_word is on made) small b = piece_small made (word_small is small) b
piece_small (made_act tells) small b = record { body = b; acts = (tells_proper tells small, tt) }
piece_small (made_row {side = side} {row = row} {body = body} to shape made) small b = piece_small made small (with_session_small side row.after body b)
piece_small (made_passed {side = side} {row = row} {body = body} shape first on made) small b = piece_small made small (with_session_small side row.after body b)
piece_small (made_close talk made) small b =
    let k = piece_small made small b in record { body = k.body; acts = (tt, k.acts) }
piece_small (made_notice {side = side} {body = body} on made) small b =
    let k = piece_small made small (with_session_small side (at_rest (session_at side body).role) body b) in record { body = k.body; acts = (tt, k.acts) }
piece_small (made_breach {side = side} {body = body} made) small b =
    let k = piece_small made small (with_session_small side (at_rest (session_at side body).role) body b) in record { body = k.body; acts = (tt, (refl, (tt, k.acts))) }
piece_small {desk = desk} (made_start {message = message} {id = id} {row = row} {body = body} says on shape) small b =
    let opening = would_open body.outlet id in
    let r = out_row shape b.outlet (heard_of message.body (bodies.StartTransport id) says small, opening_small opening body.kept b.kept) in
    let kept = behind_opening opening body.kept in
    record {
      body = record { kept = given_back_small row.act.back kept r.back (behind_opening_small opening body.kept b.kept); outlet = r.held; intake = b.intake; offer = b.offer };
      acts = join_all IsProperAct (out_does row.act.deed) (out_sends desk kept row.act.send ++ drives Exit row.act.drive) (out_does_proper row.act.deed r.deed)
          (join_all IsProperAct (out_sends desk kept row.act.send) (drives Exit row.act.drive) (out_sends_proper desk kept row.act.send) (drives_proper Exit row.act.drive));
    }
piece_small {desk = desk} (made_outlet {row = row} {body = body} to shape) small b =
    let r = out_row shape b.outlet (out_given to) in
    record {
      body = record { kept = given_back_small row.act.back body.kept r.back b.kept; outlet = r.held; intake = b.intake; offer = b.offer };
      acts = join_all IsProperAct (out_does row.act.deed) (out_sends desk body.kept row.act.send ++ drives Exit row.act.drive) (out_does_proper row.act.deed r.deed)
          (join_all IsProperAct (out_sends desk body.kept row.act.send) (drives Exit row.act.drive) (out_sends_proper desk body.kept row.act.send) (drives_proper Exit row.act.drive));
    }
piece_small {desk = desk} (made_intake {row = row} {body = body} to shape) small b =
    let r = in_row shape b.intake b.offer (in_given to small) in
    record {
      body = record { kept = settled_small row.act.keep body.kept r.keep b.kept; outlet = b.outlet; intake = r.held; offer = r.offer };
      acts = join_all IsProperAct (in_does row.act.deed) (in_sends desk row.act.send ++ drives Entry row.act.drive) (in_does_proper row.act.deed r.deed)
          (join_all IsProperAct (in_sends desk row.act.send) (drives Entry row.act.drive) (in_sends_proper desk row.act.send) (drives_proper Entry row.act.drive));
    }
piece_small (made_by_hand hand) small b =
    let k = by_hand hand small b in
    record { body = record { kept = k.0; outlet = b.outlet; intake = b.intake; offer = b.offer }; acts = (k.1, tt) }
piece_small (made_will {side = side} {on = on} {body = body} sets) small b = record { body = with_will_small side on body b; acts = (tt, tt) }

-- ---- a step

plain_small : (desk : Desk) (unread : List Sensed) (event : Event) (body : Body) → IsSmallEvent event → IsSmallBody body → StaysSmall (plain_step desk unread event body)
plain_small desk unread event body small b =
    let step = step_made desk unread event body in
    let read = all_read desk unread body in
    let met = event_did desk event read.body in
    let last = announces desk met.body in
    let one = piece_small step.read tt b in
    let two = piece_small step.met small one.body in
    let three = piece_small step.announced tt two.body in
    record {
      body = three.body;
      acts = join_all IsProperAct read.acts (met.acts ++ last.acts) one.acts (join_all IsProperAct met.acts last.acts two.acts three.acts);
    }

-- what the supervisor is told behind an act
told_if : (test : Bool) (told : List Act) → All told → All (if test then told else [])
told_if true told all = all
told_if false told all = tt

deed_told : (desk : Desk) (seen : Option Seen) (deed : Deed) → All (tells_deed desk seen deed)
deed_told desk seen (deeds.Settles id) = (refl, tt)
deed_told desk seen (deeds.Leaves id) = (refl, tt)
deed_told desk seen (deeds.Loses id) = (refl, tt)
deed_told desk seen (deeds.Drops id) = told_if (saw_taken seen) _ (refl, tt)
deed_told desk seen _ = tt

cause_told : (desk : Desk) (seen : Option Seen) (cause : Told) → All (tells_cause desk seen cause)
cause_told desk seen (causes.Inserts id) = (refl, tt)
cause_told desk seen (causes.Removes id) = (refl, tt)
cause_told desk seen (causes.Replaces old new) = (refl, (refl, tt))
cause_told desk seen (causes.Deed deed) = deed_told desk seen deed
cause_told desk seen causes.None = tt

with_tells_proper : (desk : Desk) (watch : Watch) (told : List Act) → All told → All (with_tells desk watch told)
with_tells_proper desk watch [] all = tt
with_tells_proper desk watch (act ∷ others) all =
    let rest = with_tells_proper desk (watch_after watch act) others all.1 in (
      all.0,
      join_all IsProperAct (tells_behind desk watch act) (with_tells desk (watch_after watch act) others)
          (told_if watch.supervised (tells_of desk watch.seen act) (cause_told desk watch.seen (cause_of act))) rest,
    )

signals_proper : (bridge : Option BridgeLevels) (body : Body) → All (signalled bridge body)
signals_proper bridge body = signals_all All tt (λ signal on. (tt, tt)) (join_all IsProperAct) bridge body

-- ---- an event

pub record IsSmallMaker (maker : Maker) : Type 0 where
  pub small : maker.machine < 2 ^ 32

abbrev IsSmallNew : Result ℕ IdsUsedUp → Type 0
IsSmallNew (Ok id) = IsSmall id
IsSmallNew (Err why) = Unit {0}

below_all : (used : ℕ) → nat_le (2 ^ 48 - 1) used ≡ false → used + 1 ≤ 2 ^ 48
below_all used is = grind (arith, nat_tests)

made_small : (machine count : ℕ) → machine < 2 ^ 32 → count ≤ 2 ^ 48 → made_id machine count < 2 ^ 128
made_small machine count small few = omega arith

new_at : (test : Bool) (maker : Maker) → IsSmallMaker maker → nat_le (2 ^ 48 - 1) maker.used ≡ test → IsSmallNew (next_id maker)
new_at true maker small is = rw is tt
new_at false maker small is = rw is (made_small maker.machine (maker.used + 1) small.small (below_all maker.used is))

new_small : (maker : Maker) → IsSmallMaker maker → IsSmallNew (next_id maker)
new_small maker small = new_at (nat_le (2 ^ 48 - 1) maker.used) maker small refl

insert_small : (found : Result ℕ IdsUsedUp) (barcode : Option (List ℕ)) → IsSmallNew found → IsSmallEvent (with_new found (λ id. Insert id barcode))
insert_small (Ok id) barcode new = new
insert_small (Err why) barcode new = tt

replace_small : (found : Result ℕ IdsUsedUp) (old : ℕ) → IsSmallNew found → IsSmallEvent (with_new found (Replace old))
replace_small (Ok id) old new = new
replace_small (Err why) old new = tt

means_small : (frame : List ℕ) (word : Word) → Means frame word → IsSmallWord word
means_small frame (words.Says message) spells = spelled_small frame message spells
means_small frame (words.Wrong text) means = tt

first_small : {frames : List (List ℕ)} {rest : Option (List ℕ)} {spoken : List Word} → AreFirst frames rest spoken → AreSmallWords spoken
first_small first_none = no_words
first_small (first_more {frame = frame} {word = word} means others) = more_words (means_small frame word means) (first_small others)
first_small first_too_long = more_words tt no_words

event_small : (maker : Maker) (input : Input) (old new : Lane) (spoken : List Word) → IsOfOneLane input → IsSmallMaker maker → Brings input old new spoken → IsSmallEvent (event_of maker input spoken)
event_small maker (inputs.Bytes Entry piece) old new spoken alone m brings = first_small brings.0.first
event_small maker (inputs.Bytes Exit piece) old new spoken alone m brings = first_small brings.0.first
event_small maker (inputs.Insert barcode) old new spoken alone m brings = insert_small (next_id maker) barcode (new_small maker m)
event_small maker (inputs.Replace id) old new spoken alone m brings = replace_small (next_id maker) id (new_small maker m)
event_small maker (inputs.Gives id to) old new spoken alone m brings = absurd alone
event_small maker (inputs.Gets board) old new spoken alone m brings = absurd alone
event_small maker _ old new spoken alone m brings = tt

after_at : (test : Bool) (maker : Maker) → nat_le (2 ^ 48 - 1) maker.used ≡ test → IsSmallMaker maker → IsSmallMaker (after_next maker)
after_at true maker is m = rw is m
after_at false maker is m = rw is (record { small = m.small })

maker_stays : (input : Input) (maker : Maker) → IsSmallMaker maker → IsSmallMaker (maker_after input maker)
maker_stays (inputs.Insert barcode) maker m = after_at (nat_le (2 ^ 48 - 1) maker.used) maker refl m
maker_stays (inputs.Replace id) maker m = after_at (nat_le (2 ^ 48 - 1) maker.used) maker refl m
maker_stays _ maker m = m

-- ---- a machine

-- the ids of its records have 128 bits, and its number has 32
pub record IsSmallNode (s : NodeState) : Type 0 where
  pub maker : IsSmallMaker s.maker
  pub body : IsSmallBody s.lane.body

pub record StepsProperly (t : NodeState) (told : List Act) : Type 0 where
  pub node : IsSmallNode t
  pub proper : AreProper told

pub steps_small : (s t : NodeState) (unread : List Sensed) (input : Input) (moment : ℤ) (told : List Act) → IsOfOneLane input → Steps s unread input moment t told → IsSmallNode s → StepsProperly t told
steps_small s t unread input moment told alone steps small =
    let desk = desk_of s moment in
    let event = event_of s.maker input steps.lane.words in
    let body = s.lane.body in
    let plain = plain_small desk unread event body (event_small s.maker input s.lane t.lane steps.lane.words alone small.maker steps.lane.brings) small.body in
    let made : All steps.made = subst All (sym steps.lane.told) (with_tells_proper desk (watch_of desk body) (plain_step desk unread event body).acts plain.acts) in
    let all : All told = subst All (sym steps.told) (join_all IsProperAct steps.made (signalled s.bridge t.lane.body) made (signals_proper s.bridge t.lane.body)) in
    record {
      node = record { maker = subst IsSmallMaker (sym steps.lane.made) (maker_stays input s.maker small.maker); body = subst IsSmallBody (sym steps.lane.body) plain.body };
      proper = record { each = All-from_recursion IsProperAct told all };
    }

pub new_small_node : (profile : NodeProfile) → profile.number < 2 ^ 32 → IsSmallNode (new_node profile)
new_small_node profile small = record { maker = record { small = small }; body = record { kept = none_kept; outlet = tt; intake = tt; offer = tt } }
