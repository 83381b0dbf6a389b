-- What sessions have their machine say is fit, and what a breach tells.
use Rattle.std.proofs.Common.{Bool, List, None, Option, Some, [], arith, false, refl, true, ℕ, ◌++◌, ◌<◌, ◌^◌, ◌∷◌, ◌≡◌}
use Rattle.std.specs.Prelude.{nat_lt}
use Rattle.std.proofs.lemmas.Bool.Decides.{nat_tests}
use Rattle.line_base.specs.Text.{IsText}
use Rattle.line_base.specs.declared.states.Severity.TheVariants.{Fatal}
use Rattle.line_base.specs.declared.states.Side.{Side}
use Rattle.session_core.specs.End.{SessionEnd, grown}
use Rattle.session_core.specs.Input.{Input, heard}
use Rattle.session_core.specs.Row.{SessionRow, session_row}
use Rattle.session_core.specs.Table.{IsSessionRow, asks}
use Rattle.session_core.specs.declared.actions.Action.{Action}
use Rattle.session_core.specs.declared.actions.Action.TheVariants.{Close, Pass, Ping, Pong, SendService, Stand, Tell}
use Rattle.session_core.specs.declared.actions.Actions.{Actions}
use Rattle.session_core.proofs.Rows.{row_is}
use Rattle.handover_in.specs.declared.input.InInput.TheVariants as in_input
use Rattle.node_core.specs.Desk.{Desk}
use Rattle.node_core.specs.Done.{and_then}
use Rattle.node_core.specs.Halves.{ended, half_closed}
use Rattle.node_core.specs.Session.{action_did, actions_did, breaches, maybe_did, session_did}
use Rattle.node_core.specs.Sides.{session_at, with_session}
use Rattle.node_core.specs.Told.{notification, sends, service_of, tells}
use Rattle.node_core.specs.declared.act.Act.TheVariants as acts
use Rattle.node_core.specs.declared.lane.Body.{Body}
use Rattle.law_link_messages.specs.Fit.{Fits, IsFitBody, IsFitDesk, IsFitHeard, IsTextIf, more_said, none_said}
use Rattle.law_link_messages.proofs.SayingHalves.{at_intake_fits, ended_fits, fits_behind, fits_both, fits_still, fits_told, half_closed_fits, with_session_fits}
use Rattle.law_link_messages.proofs.SayingWhat.{both_said, notification_fits, ping_fits, pong_fits, sent, service_fits, tells_fit}

-- ---- the rows

-- what comes to a session
abbrev pub IsFitInput : Input → Type 0
IsFitInput (heard what unsettled) = IsFitHeard what
IsFitInput _ = Unit {0}

-- what a session has its machine do: the text of a ping comes back, and the number of a ping has 64 bits
abbrev pub IsFitAction : Action → Type 0
IsFitAction (Pong id) = IsTextIf id
IsFitAction (Ping number) = number < 2 ^ 64
IsFitAction (Pass what) = IsFitHeard what
IsFitAction _ = Unit {0}

abbrev pub IsFitActionIf : Option Action → Type 0
IsFitActionIf None = Unit {0}
IsFitActionIf (Some action) = IsFitAction action

pub record AreFitActions (actions : Actions) : Type 0 where
  pub first : IsFitActionIf actions.first
  pub second : IsFitActionIf actions.second
  pub third : IsFitActionIf actions.third

small_at : (test : Bool) (n : ℕ) → nat_lt n 18446744073709551615 ≡ test → grown n < 2 ^ 64
small_at true n is = rw is (grind (arith, nat_tests))
small_at false n is = rw is (omega arith)

small : (n : ℕ) → grown n < 2 ^ 64
small n = small_at (nat_lt n 18446744073709551615) n refl

session_row_fits : {s : SessionEnd} {input : Input} {r : SessionRow} → IsSessionRow s input r → IsFitInput input → AreFitActions r.actions
session_row_fits (asks {n = n} connected two) given = record { first = small n; second = tt; third = tt }
session_row_fits _ given = record { first = assumption given; second = assumption given; third = tt }

-- ---- actions

pub action_fits : (desk : Desk) (side : Side) (action : Action) (body : Body) → IsFitAction action → IsFitDesk desk → IsFitBody body → Fits (action_did desk side action body)
action_fits desk side SendService body given d b = fits_told body _ b (sent desk side (service_of desk) d (service_fits desk d))
action_fits desk side (Pong id) body given d b = fits_told body _ b (sent desk side _ d (pong_fits id given))
action_fits desk side (Ping n) body given d b = fits_told body _ b (sent desk side _ d (ping_fits n given))
action_fits desk side (Tell what) body given d b = fits_told body _ b (sent desk side (tells what) d (tells_fit what))
action_fits desk side Close body given d b = fits_behind (acts.Closes side ∷ []) (half_closed desk side body) (more_said tt none_said) (half_closed_fits desk side body d b)
action_fits desk side Stand body given d b = at_intake_fits desk in_input.Stand body tt d b
action_fits desk side (Pass what) body given d b = fits_still body b

maybe_fits : (desk : Desk) (side : Side) (action : Option Action) (body : Body) → IsFitActionIf action → IsFitDesk desk → IsFitBody body → Fits (maybe_did desk side action body)
maybe_fits desk side None body given d b = fits_still body b
maybe_fits desk side (Some action) body given d b = action_fits desk side action body given d b

pub actions_fit : (desk : Desk) (side : Side) (actions : Actions) (body : Body) → AreFitActions actions → IsFitDesk desk → IsFitBody body → Fits (actions_did desk side actions body)
actions_fit desk side actions body given d b =
    let one = maybe_did desk side actions.first body in
    let first : Fits one = maybe_fits desk side actions.first body given.first d b in
    let two = maybe_did desk side actions.second one.body in
    let second : Fits two = maybe_fits desk side actions.second one.body given.second d first.body in
    fits_both one (λ (x : Body). and_then (maybe_did desk side actions.second x) (maybe_did desk side actions.third)) first
    (fits_both two (maybe_did desk side actions.third) second (maybe_fits desk side actions.third two.body given.third d second.body))

pub row_actions : (s : SessionEnd) (input : Input) (r : SessionRow) → session_row s input ≡ Some r → IsFitInput input → AreFitActions r.actions
row_actions s input r is given = session_row_fits (row_is s input r is) given

pub session_fits : (desk : Desk) (side : Side) (input : Input) (body : Body) (found : Option SessionRow) → session_row (session_at side body) input ≡ found → IsFitInput input → IsFitDesk desk → IsFitBody body → Fits (session_did desk side found body)
session_fits desk side input body None is given d b = fits_still body b
session_fits desk side input body (Some r) is given d b = actions_fit desk side r.actions (with_session side r.after body) (row_actions (session_at side body) input r is given) d (with_session_fits side r.after body b)

pub breaches_fit : (desk : Desk) (side : Side) (text : List ℕ) (body : Body) → IsText text → IsFitDesk desk → IsFitBody body → Fits (breaches desk side text body)
breaches_fit desk side text body is d b =
    fits_behind (acts.Breaches side text ∷ (sends desk side (notification 1 Fatal text) ++ acts.Closes side ∷ [])) (ended desk side body)
    (more_said tt (both_said (sent desk side (notification 1 Fatal text) d (notification_fits 1 Fatal text (omega arith) is)) (more_said tt none_said)))
    (ended_fits desk side body d b)
