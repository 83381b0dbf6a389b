-- A whole step of a machine: what its outlet holds was offered before it opened, and what settles is kept behind all others.
use Rattle.std.proofs.Common.{Bool, List, Some, [], refl, subst, sym, ℕ, ◌++◌, ◌∷◌}
use Rattle.line_base.specs.declared.states.Side.{Side}
use Rattle.line_base.specs.declared.states.Side.TheVariants.{Entry, Exit}
use Rattle.line_base.specs.declared.states.Severity.TheVariants.{Fatal}
use Rattle.board_record.specs.declared.record.Record.{Record}
use Rattle.board_record.specs.declared.sensed.Sensed.{Sensed as Seen}
use Rattle.smema_bridge.specs.declared.line.SegmentLine.{SegmentLine}
use Rattle.smema_bridge.specs.declared.line.SegmentLine.TheVariants as segment
use Rattle.session_core.specs.End.{at_rest}
use Rattle.handover_out.specs.declared.input.OutInput.{OutInput}
use Rattle.handover_out.specs.declared.input.OutInput.TheVariants as out_input
use Rattle.handover_out.specs.State.{would_open}
use Rattle.handover_out.specs.Row.{OutRow}
use Rattle.handover_in.specs.declared.input.InInput.{InInput}
use Rattle.node_core.specs.Desk.{Desk}
use Rattle.node_core.specs.declared.act.Act.{Act}
use Rattle.node_core.specs.declared.act.Act.TheVariants as acts
use Rattle.node_core.specs.declared.lane.Body.{Body}
use Rattle.node_core.specs.Done.{Done}
use Rattle.node_core.specs.Told.{notification, out_told, sends}
use Rattle.node_core.specs.Sides.{session_at}
use Rattle.node_core.specs.Halves.{behind_opening, opening_board, outlet_did}
use Rattle.node_core.specs.Reads.{all_read}
use Rattle.node_core.specs.Bridge.{tells_level}
use Rattle.node_core.specs.Event.{Event, Level, Insert, Remove, Replace, Mark, Sub, Gives, Gets, event_did}
use Rattle.node_core.proofs.HalfRows.{IsNoStart, IsPlain}
use Rattle.law_history.proofs.Offering.{
  Holds,
  offers_acts,
  Quiet,
  Walks,
  intake_walks,
  outlet_walks,
  settling_by,
  start_behind,
  start_offers,
  start_quiet,
  walks_behind,
  walks_both,
  walks_session,
  walks_still,
  walks_told,
}
use Rattle.handover_out.specs.Table.{IsOutletRow}
use Rattle.handover_out.proofs.Rows.{is_computed as out_computed}
use Rattle.handover_in.proofs.Rows.{is_computed as in_computed}
use Rattle.step_rules.specs.Causes.{
  Announcing,
  ByHand,
  Cause,
  Hearing,
  Meeting,
  Reading,
  Tells,
  ToIntake,
  ToOutlet,
  hand_gets,
  hand_gives,
  hand_inserts,
  hand_removes,
  hand_replaces,
  in_start,
  out_offer,
  tells_alive,
  tells_notice,
  tells_service,
  hand_changes,
  changes_quality,
  changes_circuits,
  changes_front,
}
use Rattle.step_rules.specs.Made.{
  Made,
  made_act,
  made_both,
  made_breach,
  made_by_hand,
  made_close,
  made_intake,
  made_none,
  made_notice,
  made_outlet,
  made_passed,
  made_row,
  made_start,
  made_will,
  made_word,
}
use Rattle.step_rules.proofs.Steps.{all_read_made, event_made}

-- ---- acts that say nothing of an offer

breach_quiet : (desk : Desk) (side : Side) (text : List ℕ) → Quiet (acts.Breaches side text ∷ (sends desk side (notification 1 Fatal text) ++ acts.Closes side ∷ []))
breach_quiet desk Entry text = record { offers = λ o. refl; settles = λ ids. refl; hands = refl }
breach_quiet desk Exit text = record { offers = λ o. refl; settles = λ ids. refl; hands = refl }

-- an event that is no change by hand. A level may be one, where it says that the front board is a failed one
abbrev pub IsNoHand : Event → Type 0
IsNoHand (Level line on) = ⊥
IsNoHand (Insert id barcode) = ⊥
IsNoHand (Remove id) = ⊥
IsNoHand (Replace old new) = ⊥
IsNoHand (Mark id quality) = ⊥
IsNoHand (Sub id sub) = ⊥
IsNoHand (Gives id to) = ⊥
IsNoHand (Gets board) = ⊥
IsNoHand _ = Unit {0}

-- a level of a bridge's segment is set
pub level_walks : (line : SegmentLine) (on : Bool) (body : Body) → Walks body (tells_level line on body)
level_walks segment.Ready on body = record { each = λ first ids o h. record { offers = h.offers; settles = h.settles }; hands = refl }
level_walks segment.Available on body = record { each = λ first ids o h. record { offers = h.offers; settles = h.settles }; hands = refl }
level_walks segment.Failed on body = record { each = λ first ids o h. record { offers = h.offers; settles = h.settles }; hands = refl }

-- ---- the pieces of a step, but by hand and as it announces

abbrev IsCalm : Cause → Type 0
IsCalm Reading = Unit {0}
IsCalm (Hearing side word) = Unit {0}
IsCalm (Meeting event) = IsNoHand event
IsCalm (Announcing starting) = ⊥

act_quiet : {desk : Desk} {cause : Cause} {body : Body} {act : Act} → Tells desk cause body act
    → Quiet (act ∷ [])
act_quiet (tells_service {side = Entry} talk) =
    record { offers = λ o. refl; settles = λ ids. refl; hands = refl }
act_quiet (tells_service {side = Exit} talk) =
    record { offers = λ o. refl; settles = λ ids. refl; hands = refl }
act_quiet (tells_alive {side = Entry} talk) =
    record { offers = λ o. refl; settles = λ ids. refl; hands = refl }
act_quiet (tells_alive {side = Exit} talk) =
    record { offers = λ o. refl; settles = λ ids. refl; hands = refl }
act_quiet (tells_notice {side = Entry} talk) =
    record { offers = λ o. refl; settles = λ ids. refl; hands = refl }
act_quiet (tells_notice {side = Exit} talk) =
    record { offers = λ o. refl; settles = λ ids. refl; hands = refl }
act_quiet _ = record { offers = λ o. refl; settles = λ ids. refl; hands = refl }

plain_out : {cause : Cause} {body : Body} {input : OutInput} → ToOutlet cause body input
    → IsCalm cause → IsPlain input
plain_out (out_offer now is) calm = absurd calm
plain_out _ calm = tt

plain_in : {desk : Desk} {cause : Cause} {body : Body} {input : InInput}
    → ToIntake desk cause body input → IsCalm cause → IsNoStart input
plain_in (in_start now) calm = absurd calm
plain_in _ calm = tt

no_hand : {desk : Desk} {event : Event} {body : Body} {kept : List Record} {act : Act}
    → ByHand desk event body kept act → IsNoHand event → ⊥
no_hand hand_inserts calm = calm
no_hand (hand_removes is) calm = calm
no_hand (hand_replaces is) calm = calm
no_hand (hand_gives is) calm = calm
no_hand hand_gets calm = calm
no_hand (hand_changes (changes_quality is)) calm = calm
no_hand (hand_changes (changes_circuits is)) calm = calm
no_hand (hand_changes (changes_front front is)) calm = calm

-- a start that is heard
start_holds : (desk : Desk) (body : Body) (named : ℕ) (opening : Bool) (row : OutRow)
    → IsOutletRow body.outlet (out_input.Start named (opening_board opening body.kept)) row
    → Walks body
    (outlet_did desk (record body { kept = behind_opening opening body.kept }) row)
start_holds desk body named opening row shape =
    let told : List Act = out_told desk (behind_opening opening body.kept) row.act in
    let now : Body =
    (outlet_did desk (record body { kept = behind_opening opening body.kept }) row).body in
    let quiet = start_quiet desk opening body.kept shape in
    record {
      each = λ first ids o h.
          subst (λ (xs : List ℕ). Holds first xs (offers_acts told o) now) (sym (quiet.0 ids))
          (record {
            offers = start_offers desk opening body.kept shape h.offers;
            settles =
                settling_by (λ r b. start_behind opening body.kept shape b) h.settles;
          });
      hands = quiet.1;
    }

walks : {desk : Desk} {cause : Cause} {body : Body} {d : Done} → Made desk cause body d
    → IsCalm cause → Walks body d
walks (made_none {body = body}) calm = walks_still body
walks (made_both {body = body} {one = one} {two = two} first next) calm =
    walks_both body one (λ (b : Body). two) (walks first calm) (walks next calm)
walks (made_word is on made) calm = walks made tt
walks (made_act {body = body} {act = act} tells) calm =
    walks_told body (act ∷ []) (act_quiet tells)
walks (made_row {side = side} {row = row} {body = body} to shape made) calm =
    walks_session side row.after body _ (walks made calm)
walks (made_passed {side = side} {row = row} {body = body} shape first on made) calm =
    walks_session side row.after body _ (walks made calm)
walks (made_close {side = side} {body = body} talk made) calm =
    walks_behind body (acts.Closes side ∷ []) _
    (record { offers = λ o. refl; settles = λ ids. refl; hands = refl }) (walks made calm)
walks (made_notice {side = side} {body = body} on made) calm =
    walks_behind body (acts.Notices side ∷ []) _
    (record { offers = λ o. refl; settles = λ ids. refl; hands = refl })
    (walks_session side (at_rest (session_at side body).role) body _ (walks made calm))
walks {desk = desk} (made_breach {side = side} {text = text} {body = body} made) calm =
    walks_behind body (acts.Breaches side text ∷ (sends desk side (notification 1 Fatal text)
    ++ acts.Closes side ∷ [])) _ (breach_quiet desk side text)
    (walks_session side (at_rest (session_at side body).role) body _ (walks made calm))
walks {desk = desk} (made_start {id = id} {row = row} {body = body} says on shape) calm =
    start_holds desk body id (would_open body.outlet id) row shape
walks {desk = desk} (made_outlet {input = input} {row = row} {body = body} to shape) calm =
    outlet_walks desk body input (Some row) (plain_out to calm)
    (out_computed body.outlet input row shape)
walks {desk = desk} (made_intake {input = input} {row = row} {body = body} to shape) calm =
    intake_walks desk body input (Some row) (plain_in to calm)
    (in_computed body.intake input row shape)
walks (made_by_hand hand) calm = absurd (no_hand hand calm)
walks (made_will {side = Entry} sets) calm =
    record { each = λ first ids o h. record { offers = h.offers; settles = h.settles }; hands = refl }
walks (made_will {side = Exit} sets) calm =
    record { each = λ first ids o h. record { offers = h.offers; settles = h.settles }; hands = refl }

pub all_read_walks : (desk : Desk) (unread : List Seen) (body : Body)
    → Walks body (all_read desk unread body)
all_read_walks desk unread body = walks (all_read_made desk unread body) tt

pub event_walks : (desk : Desk) (event : Event) (body : Body) → IsNoHand event
    → Walks body (event_did desk event body)
event_walks desk event body calm = walks (event_made desk event body) calm
