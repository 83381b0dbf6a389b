-- What a micro event keeps: the offer of the front record, the parts of the two sides, the places, and that what the
-- body owns follows from the acts. One lemma for each definition, in the order of the definitions.
use Rattle.std.proofs.Common.{◌≡◌, ◌∙◌, ◌+◌, ◌≤◌, ◌++◌, ℕ, Bool, true, false, List, [], ◌∷◌, Option, Some, None, refl, ap, arith}
use Rattle.std.specs.Prelude.{is_some}
use Rattle.line_base.specs.declared.states.Side.{Side}
use Rattle.line_base.specs.declared.states.Side.TheVariants.{Entry, Exit}
use Rattle.line_base.specs.declared.states.Severity.TheVariants.{Fatal}
use Rattle.hermes_horizontal.specs.declared.message.Message.{Message}
use Rattle.hermes_horizontal.specs.Parts.{kind_of}
use Rattle.session_core.specs.declared.actions.Action.{Action}
use Rattle.session_core.specs.declared.actions.Actions.{Actions}
use Rattle.session_core.specs.declared.actions.Action.TheVariants.{SendService, Pong, Ping, Tell, Close, Stand, Pass}
use Rattle.session_core.specs.Breach.{unexpected}
use Rattle.session_core.specs.End.{SessionEnd, at_rest}
use Rattle.session_core.specs.Input.{Input, heard}
use Rattle.session_core.specs.Row.{SessionRow, session_row}
use Rattle.session_core.proofs.RowLaws.{part_stays}
use Rattle.handover_out.specs.declared.input.OutInput.{OutInput}
use Rattle.handover_out.specs.declared.input.OutInput.TheVariants.{Start, Closed, MachineReady, RevokeMachineReady, Stop}
use Rattle.handover_out.specs.State.{would_open, held}
use Rattle.handover_out.specs.Row.{OutRow, outlet_row}
use Rattle.handover_out.specs.Table.{IsOutletRow}
use Rattle.handover_out.proofs.Rows.{row_is}
use Rattle.handover_in.specs.declared.input.InInput.{InInput}
use Rattle.handover_in.specs.declared.input.InInput.TheVariants as in_input
use Rattle.handover_in.specs.State.{held as in_held}
use Rattle.handover_in.specs.Row.{InRow, intake_row}
use Rattle.handover_in.specs.Table.{IsIntakeRow}
use Rattle.handover_in.proofs.Rows.{row_is as in_row_is}
use Rattle.node_core.specs.Desk.{Desk}
use Rattle.node_core.specs.declared.act.Act.{Act}
use Rattle.node_core.specs.declared.act.Act.TheVariants as acts
use Rattle.node_core.specs.declared.lane.Body.{Body}
use Rattle.node_core.specs.declared.word.Word.{Word}
use Rattle.node_core.specs.declared.word.Word.TheVariants.{Says, Wrong}
use Rattle.node_core.specs.declared.word.ExitWord.{ExitWord}
use Rattle.node_core.specs.declared.word.ExitWord.TheVariants as exits
use Rattle.node_core.specs.declared.word.EntryWord.{EntryWord}
use Rattle.node_core.specs.declared.word.EntryWord.TheVariants as entries
use Rattle.node_core.specs.Done.{Done, done, stays, behind, and_then}
use Rattle.node_core.specs.Told.{sends, notification}
use Rattle.node_core.specs.Sides.{session_at, with_session, is_open}
use Rattle.node_core.specs.Halves.{given_back, outlet_row_did, intake_row_did, half_closed, ended, opening_board, behind_opening}
use Rattle.node_core.specs.Session.{action_did, maybe_did, actions_did, session_did, breaches}
use Rattle.node_core.specs.Hears.{hears, rowed, taken, passed, exit_took, entry_took, outlet_took, intake_took, exit_word, entry_word}
use Rattle.node_core.specs.Words.{word_did, all_heard}
use Rattle.node_core.specs.Connect.{if_open}
use Rattle.node_core.specs.Places.{used, place_for}
use Rattle.node_core.specs.Own.{Own, own_act, own_after, own_of}
use Rattle.node_core.proofs.Offers.{OffersOf, settled_offers}
use Rattle.node_core.proofs.HalfRows.{IsPlain, IsNoStart, row_offers, row_places, row_owns, start_offers, start_places, start_owns, in_row_places, in_row_owns}

-- ---- what is kept

pub record SameParts (before after : Body) : Type 0 where
  pub entry : after.entry.session.role ≡ before.entry.session.role
  pub exit : after.exit.session.role ≡ before.exit.session.role

-- the machine is as willing as before
pub record SameWills (before after : Body) : Type 0 where
  pub entry : after.entry.willing ≡ before.entry.willing
  pub exit : after.exit.willing ≡ before.exit.willing

pub record Keeps (most : ℕ) (body : Body) (d : Done) : Type 0 where
  pub offers : OffersOf body → OffersOf d.body
  pub parts : SameParts body d.body
  pub wills : SameWills body d.body
  pub places : used body ≤ most → used d.body ≤ most
  pub owns : own_after (own_of body) d.acts ≡ own_of d.body

pub own_append : (own : Own) (a b : List Act) → own_after own (a ++ b) ≡ own_after (own_after own a) b
own_append own [] b = refl
own_append own (x ∷ xs) b = own_append (own_act own x) xs b

pub keeps_still : (most : ℕ) (body : Body) → Keeps most body (stays body)
keeps_still most body = record { offers = λ h. h; parts = record { entry = refl; exit = refl }; wills = record { entry = refl; exit = refl }; places = λ h. h; owns = refl }

-- acts that are no deeds
abbrev pub IsSilent : List Act → Type 0
IsSilent acts = (own : Own) → own_after own acts ≡ own

pub keeps_told : (most : ℕ) (body : Body) (told : List Act) → IsSilent told → Keeps most body (done body told)
keeps_told most body told silent = record { offers = λ h. h; parts = record { entry = refl; exit = refl }; wills = record { entry = refl; exit = refl }; places = λ h. h; owns = silent (own_of body) }

-- acts first
pub keeps_behind : (most : ℕ) (body : Body) (told : List Act) (d : Done) → IsSilent told → Keeps most body d → Keeps most body (behind told d)
keeps_behind most body told d silent k = record { offers = k.offers; parts = k.parts; wills = k.wills; places = k.places; owns = own_append (own_of body) told d.acts ∙ ap (λ (own : Own). own_after own d.acts) (silent (own_of body)) ∙ k.owns }

-- one after the other
pub keeps_both : (most : ℕ) (body : Body) (first : Done) (next : Body → Done) → Keeps most body first → Keeps most first.body (next first.body) → Keeps most body (and_then first next)
keeps_both most body first next a b = record {
  offers = λ h. b.offers (a.offers h);
  parts = record { entry = b.parts.entry ∙ a.parts.entry; exit = b.parts.exit ∙ a.parts.exit };
  wills = record { entry = b.wills.entry ∙ a.wills.entry; exit = b.wills.exit ∙ a.wills.exit };
  places = λ h. b.places (a.places h);
  owns = own_append (own_of body) first.acts (next first.body).acts ∙ ap (λ (own : Own). own_after own (next first.body).acts) a.owns ∙ b.owns;
}

-- a session changes first
pub keeps_session : (most : ℕ) (side : Side) (s : SessionEnd) (body : Body) (d : Done) → s.role ≡ (session_at side body).role → Keeps most (with_session side s body) d → Keeps most body d
keeps_session most Entry s body d same k = record { offers = k.offers; parts = record { entry = k.parts.entry ∙ same; exit = k.parts.exit }; wills = record { entry = k.wills.entry; exit = k.wills.exit }; places = k.places; owns = k.owns }
keeps_session most Exit s body d same k = record { offers = k.offers; parts = record { entry = k.parts.entry; exit = k.parts.exit ∙ same }; wills = record { entry = k.wills.entry; exit = k.wills.exit }; places = k.places; owns = k.owns }

-- ---- the halves

pub fewer_out : (kept others a b more most : ℕ) → kept + a ≤ others + b → others + b + more ≤ most → kept + a + more ≤ most
fewer_out kept others a b more most fewer fits = omega (arith, fewer, fits)

outlet_keeps : (most : ℕ) (desk : Desk) (body : Body) (input : OutInput) (found : Option OutRow) → IsPlain input → outlet_row body.outlet input ≡ found → Keeps most body (outlet_row_did desk body found)
outlet_keeps most desk body input None plain is = keeps_still most body
outlet_keeps most desk body input (Some r) plain is =
    let shape : IsOutletRow body.outlet input r = row_is body.outlet input r is in
    record {
      offers = λ h. row_offers h shape plain;
      parts = record { entry = refl; exit = refl };
      wills = record { entry = refl; exit = refl };
      places = λ fits. fewer_out _ _ _ _ (place_for (in_held body.intake)) most (row_places body.kept shape plain) fits;
      owns = row_owns desk body.intake body.kept shape plain;
    }

fewer_in : (kept others out a b most : ℕ) → kept + a ≤ others + b → others + out + b ≤ most → kept + out + a ≤ most
fewer_in kept others out a b most fewer fits = omega (arith, fewer, fits)

intake_keeps : (most : ℕ) (desk : Desk) (body : Body) (input : InInput) (found : Option InRow) → IsNoStart input → intake_row body.intake input ≡ found → Keeps most body (intake_row_did desk body found)
intake_keeps most desk body input None plain is = keeps_still most body
intake_keeps most desk body input (Some r) plain is =
    let shape : IsIntakeRow body.intake input r = in_row_is body.intake input r is in
    record {
      offers = λ h. settled_offers body.outlet.phase body.outlet.offered body.kept r.act.keep h;
      parts = record { entry = refl; exit = refl };
      wills = record { entry = refl; exit = refl };
      places = λ fits. fewer_in _ _ (place_for (held body.outlet)) _ _ most (in_row_places body.kept shape plain) fits;
      owns = in_row_owns desk body.outlet body.kept shape;
    }

pub at_outlet_keeps : (most : ℕ) (desk : Desk) (input : OutInput) (body : Body) → IsPlain input → Keeps most body (outlet_row_did desk body (outlet_row body.outlet input))
at_outlet_keeps most desk input body plain = outlet_keeps most desk body input (outlet_row body.outlet input) plain refl

pub at_intake_keeps : (most : ℕ) (desk : Desk) (input : InInput) (body : Body) → IsNoStart input → Keeps most body (intake_row_did desk body (intake_row body.intake input))
at_intake_keeps most desk input body plain = intake_keeps most desk body input (intake_row body.intake input) plain refl

half_closed_keeps : (most : ℕ) (desk : Desk) (side : Side) (body : Body) → Keeps most body (half_closed desk side body)
half_closed_keeps most desk Entry body = at_intake_keeps most desk in_input.Closed body tt
half_closed_keeps most desk Exit body = at_outlet_keeps most desk Closed body tt

pub ended_keeps : (most : ℕ) (desk : Desk) (side : Side) (body : Body) → Keeps most body (ended desk side body)
ended_keeps most desk side body = keeps_session most side (at_rest (session_at side body).role) body (ended desk side body) refl (half_closed_keeps most desk side (with_session side (at_rest (session_at side body).role) body))

-- ---- sessions

action_keeps : (most : ℕ) (desk : Desk) (side : Side) (action : Action) (body : Body) → Keeps most body (action_did desk side action body)
action_keeps most desk side SendService body = keeps_told most body _ (λ own. refl)
action_keeps most desk side (Pong id) body = keeps_told most body _ (λ own. refl)
action_keeps most desk side (Ping n) body = keeps_told most body _ (λ own. refl)
action_keeps most desk side (Tell what) body = keeps_told most body _ (λ own. refl)
action_keeps most desk side Close body = keeps_behind most body (acts.Closes side ∷ []) (half_closed desk side body) (λ own. refl) (half_closed_keeps most desk side body)
action_keeps most desk side Stand body = at_intake_keeps most desk in_input.Stand body tt
action_keeps most desk side (Pass what) body = keeps_still most body

maybe_keeps : (most : ℕ) (desk : Desk) (side : Side) (action : Option Action) (body : Body) → Keeps most body (maybe_did desk side action body)
maybe_keeps most desk side None body = keeps_still most body
maybe_keeps most desk side (Some action) body = action_keeps most desk side action body

pub actions_keep : (most : ℕ) (desk : Desk) (side : Side) (actions : Actions) (body : Body) → Keeps most body (actions_did desk side actions body)
actions_keep most desk side actions body =
    let one = maybe_did desk side actions.first body in
    keeps_both most body one (λ (b : Body). and_then (maybe_did desk side actions.second b) (maybe_did desk side actions.third)) (maybe_keeps most desk side actions.first body)
    (keeps_both most one.body (maybe_did desk side actions.second one.body) (maybe_did desk side actions.third) (maybe_keeps most desk side actions.second one.body) (maybe_keeps most desk side actions.third (maybe_did desk side actions.second one.body).body))

pub session_keeps : (most : ℕ) (desk : Desk) (side : Side) (input : Input) (body : Body) (found : Option SessionRow) → session_row (session_at side body) input ≡ found → Keeps most body (session_did desk side found body)
session_keeps most desk side input body None is = keeps_still most body
session_keeps most desk side input body (Some r) is = keeps_session most side r.after body (session_did desk side (Some r) body) (part_stays (session_at side body) input r is) (actions_keep most desk side r.actions (with_session side r.after body))

pub breaches_keeps : (most : ℕ) (desk : Desk) (side : Side) (text : List ℕ) (body : Body) → Keeps most body (breaches desk side text body)
breaches_keeps most desk side text body = keeps_behind most body (acts.Breaches side text ∷ (sends desk side (notification 1 Fatal text) ++ acts.Closes side ∷ [])) (ended desk side body) (λ own. refl) (ended_keeps most desk side body)

-- ---- messages

-- a half that has a row keeps it
pub data KeepsAny (most : ℕ) (body : Body) : Option Done → Type 0 where
  keeps_none : KeepsAny most body None
  keeps_some : {d : Done} → Keeps most body d → KeepsAny most body (Some d)

outlet_took_keeps : (most : ℕ) (desk : Desk) (body : Body) (input : OutInput) (found : Option OutRow) → IsPlain input → outlet_row body.outlet input ≡ found → KeepsAny most body (outlet_took desk body found)
outlet_took_keeps most desk body input None plain is = keeps_none
outlet_took_keeps most desk body input (Some r) plain is = keeps_some (outlet_keeps most desk body input (Some r) plain is)

start_took_keeps : (most : ℕ) (desk : Desk) (body : Body) (id : ℕ) (opening : Bool) (found : Option OutRow) → outlet_row body.outlet (Start id (opening_board opening body.kept)) ≡ found
    → KeepsAny most body (outlet_took desk (record body { kept = behind_opening opening body.kept }) found)
start_took_keeps most desk body id opening None is = keeps_none
start_took_keeps most desk body id opening (Some r) is =
    let shape : IsOutletRow body.outlet (Start id (opening_board opening body.kept)) r = row_is body.outlet (Start id (opening_board opening body.kept)) r is in
    keeps_some (record {
      offers = λ h. start_offers (given_back r.act.back (behind_opening opening body.kept)) shape;
      parts = record { entry = refl; exit = refl };
      wills = record { entry = refl; exit = refl };
      places = λ fits. fewer_out _ _ _ _ (place_for (in_held body.intake)) most (start_places opening body.kept shape) fits;
      owns = start_owns desk body.intake opening body.kept shape;
    })

exit_keeps : (most : ℕ) (desk : Desk) (word : ExitWord) (body : Body) → KeepsAny most body (exit_took desk word body)
exit_keeps most desk exits.Ready body = outlet_took_keeps most desk body MachineReady (outlet_row body.outlet MachineReady) tt refl
exit_keeps most desk exits.Unready body = outlet_took_keeps most desk body RevokeMachineReady (outlet_row body.outlet RevokeMachineReady) tt refl
exit_keeps most desk (exits.Start id) body = start_took_keeps most desk body id (would_open body.outlet id) (outlet_row body.outlet (Start id (opening_board (would_open body.outlet id) body.kept))) refl
exit_keeps most desk (exits.Stop state id) body = outlet_took_keeps most desk body (Stop state id) (outlet_row body.outlet (Stop state id)) tt refl
exit_keeps most desk (exits.Query top bottom) body = keeps_some (keeps_told most body _ (λ own. refl))
exit_keeps most desk exits.Nothing body = keeps_some (keeps_still most body)

intake_took_keeps : (most : ℕ) (desk : Desk) (body : Body) (input : InInput) (found : Option InRow) → IsNoStart input → intake_row body.intake input ≡ found → KeepsAny most body (intake_took desk body found)
intake_took_keeps most desk body input None plain is = keeps_none
intake_took_keeps most desk body input (Some r) plain is = keeps_some (intake_keeps most desk body input (Some r) plain is)

entry_keeps : (most : ℕ) (desk : Desk) (word : EntryWord) (body : Body) → KeepsAny most body (entry_took desk word body)
entry_keeps most desk (entries.Available board) body = intake_took_keeps most desk body (in_input.BoardAvailable board) (intake_row body.intake (in_input.BoardAvailable board)) tt refl
entry_keeps most desk entries.Revoked body = intake_took_keeps most desk body in_input.RevokeBoardAvailable (intake_row body.intake in_input.RevokeBoardAvailable) tt refl
entry_keeps most desk (entries.Finished state id) body = intake_took_keeps most desk body (in_input.Finished state id) (intake_row body.intake (in_input.Finished state id)) tt refl
entry_keeps most desk entries.Nothing body = keeps_some (keeps_still most body)

passed_keeps : (most : ℕ) (desk : Desk) (side : Side) (message : Message) (body : Body) (found : Option Done) → KeepsAny most body found → Keeps most body (passed desk side message body found)
passed_keeps most desk side message body None k = breaches_keeps most desk side (unexpected (kind_of message.body)) body
passed_keeps most desk side message body (Some d) (keeps_some k) = keeps_behind most body (acts.Hears side message ∷ []) d (λ own. refl) k

heard_by_session : (most : ℕ) (desk : Desk) (side : Side) (message : Message) (actions : Actions) (body : Body) → Keeps most body (behind (acts.Hears side message ∷ []) (actions_did desk side actions body))
heard_by_session most desk side message actions body = keeps_behind most body (acts.Hears side message ∷ []) (actions_did desk side actions body) (λ own. refl) (actions_keep most desk side actions body)

taken_keeps : (most : ℕ) (desk : Desk) (side : Side) (message : Message) (first : Option Action) (actions : Actions) (body : Body) → Keeps most body (taken desk side message first actions body)
taken_keeps most desk Entry message (Some (Pass what)) actions body = passed_keeps most desk Entry message body (entry_took desk (entry_word what) body) (entry_keeps most desk (entry_word what) body)
taken_keeps most desk Exit message (Some (Pass what)) actions body = passed_keeps most desk Exit message body (exit_took desk (exit_word what) body) (exit_keeps most desk (exit_word what) body)
taken_keeps most desk side message None actions body = heard_by_session most desk side message actions body
taken_keeps most desk side message (Some SendService) actions body = heard_by_session most desk side message actions body
taken_keeps most desk side message (Some (Pong _)) actions body = heard_by_session most desk side message actions body
taken_keeps most desk side message (Some (Ping _)) actions body = heard_by_session most desk side message actions body
taken_keeps most desk side message (Some (Tell _)) actions body = heard_by_session most desk side message actions body
taken_keeps most desk side message (Some Close) actions body = heard_by_session most desk side message actions body
taken_keeps most desk side message (Some Stand) actions body = heard_by_session most desk side message actions body

rowed_keeps : (most : ℕ) (desk : Desk) (side : Side) (message : Message) (input : Input) (body : Body) (found : Option SessionRow) → session_row (session_at side body) input ≡ found → Keeps most body (rowed desk side message body found)
rowed_keeps most desk side message input body None is = breaches_keeps most desk side (unexpected (kind_of message.body)) body
rowed_keeps most desk side message input body (Some r) is = keeps_session most side r.after body (rowed desk side message body (Some r)) (part_stays (session_at side body) input r is) (taken_keeps most desk side message r.actions.first r.actions (with_session side r.after body))

pub hears_keeps : (most : ℕ) (desk : Desk) (side : Side) (message : Message) (body : Body) → Keeps most body (hears desk side message body)
hears_keeps most desk side message body = rowed_keeps most desk side message (heard message.body (is_some (held body.outlet))) body (session_row (session_at side body) (heard message.body (is_some (held body.outlet)))) refl

pub word_keeps : (most : ℕ) (desk : Desk) (side : Side) (word : Word) (body : Body) → Keeps most body (word_did desk side word body)
word_keeps most desk side (Says message) body = hears_keeps most desk side message body
word_keeps most desk side (Wrong text) body = breaches_keeps most desk side text body

pub if_keeps : (most : ℕ) (test : Bool) (d : Done) (body : Body) → Keeps most body d → Keeps most body (if_open test d body)
if_keeps most true d body k = k
if_keeps most false d body k = keeps_still most body

pub heard_keeps : (most : ℕ) (desk : Desk) (side : Side) (words : List Word) (body : Body) → Keeps most body (all_heard desk side words body)
heard_keeps most desk side [] body = keeps_still most body
heard_keeps most desk side (w ∷ ws) body = if_keeps most (is_open side body) (and_then (word_did desk side w body) (all_heard desk side ws)) body
    (keeps_both most body (word_did desk side w body) (all_heard desk side ws) (word_keeps most desk side w body) (heard_keeps most desk side ws (word_did desk side w body).body))
