-- A LINE AS THE MACHINES SEE IT: each is as it was and tells nothing, one is added, or one or two make a step.
use Rattle.std.proofs.Common.{◌≡◌, ℕ, Bool, List, Option, refl, sym, ap, subst, ◌∙◌}
use Rattle.line_base.specs.declared.states.Side.{Side}
use Rattle.node_core.specs.declared.input.Input.{Input}
use Rattle.line_report.specs.declared.happening.Happening.{Happening}
use Rattle.line_step.specs.State.{LineState, one_more}
use Rattle.line_step.specs.Steps.{MachineSteps}
use Rattle.line_step.specs.Reasons.{may_add, may_connect, may_do, may_flow}
use Rattle.line_step.specs.Lines.{Becomes, Connects, Flows, LineDoes, spoil_told, unvouched_told}
use Rattle.line_step.proofs.Remarks.{AreNoActs, no_acts, unvouched_remarks}
use Rattle.line_step.specs.Requests.{Request, added_told, may_get}
use Rattle.line_step.specs.Requests as requests
use Rattle.line_step.proofs.Giving.{IsGiven}
use Rattle.line_step.proofs.Effects.{Effect, line_effect, spoil_remarks}
use Rattle.line_step.proofs.Effects as effects

pub data LineTurns (number : ℕ) (before after : LineState) (told : List Happening) : Request → Type 0 where
  stays : (request : Request) → after.machines ≡ before.machines → AreNoActs told → LineTurns number before after told request
  adds : (lane : ℕ) (is_bridge : Bool) (capacity used : ℕ) → may_add before ≡ may_do
      → Becomes (one_more lane is_bridge capacity used before) (added_told is_bridge capacity before) after told
      → LineTurns number before after told (requests.adds lane is_bridge capacity used)
  steps : (machine : ℕ) (input : Input) → IsGiven input → may_get machine input before ≡ may_do → MachineSteps number machine input before after told
      → LineTurns number before after told (requests.gives machine input)
  connects : (machine : ℕ) → may_connect machine before ≡ may_do → Connects number machine before after told
      → LineTurns number before after told (requests.connects machine)
  flows : (machine : ℕ) (side : Side) (count : Option ℕ) → may_flow machine side before ≡ may_do → Flows number machine side count before after told
      → LineTurns number before after told (requests.flows machine side count)

still_turn : {number : ℕ} {before next after : LineState} {what told : List Happening} (request : Request) → next.machines ≡ before.machines → AreNoActs what → Becomes next what after told → LineTurns number before after told request
still_turn request same none b = stays request (ap (λ (s : LineState). s.machines) b.after_is ∙ same) (subst (λ (ts : List Happening). AreNoActs ts) (sym b.told_is) none)

pub turns_of : {number : ℕ} {request : Request} {before after : LineState} {told : List Happening} → Effect number before after told request → LineTurns number before after told request
turns_of (effects.rests request what remarks b) = still_turn request refl (no_acts what remarks) b
turns_of (effects.adds lane is_bridge capacity used may b) = adds lane is_bridge capacity used may b
turns_of (effects.steps machine input given may did) = steps machine input given may did
turns_of (effects.connects machine may did) = connects machine may did
turns_of (effects.flows machine side count may did) = flows machine side count may did
turns_of (effects.cuts gap may b) = still_turn (requests.cuts gap) refl (tt, tt) b
turns_of {before = before} (effects.spoils machine side may b) = still_turn (requests.spoils machine side) refl (no_acts (spoil_told machine side before) (spoil_remarks machine side before)) b
turns_of (effects.moves gap step floor is b) = still_turn (requests.moves_on gap step) refl (tt, tt) b
turns_of {before = before} (effects.lies machine sensed may b) = still_turn (requests.lies machine sensed) refl (tt, no_acts (unvouched_told before.unvouched) (unvouched_remarks before.unvouched)) b
turns_of {before = before} (effects.unsees machine side may b) = still_turn (requests.unsees machine side) refl (tt, no_acts (unvouched_told before.unvouched) (unvouched_remarks before.unvouched)) b

pub line_turns : (number : ℕ) (request : Request) (before after : LineState) (told : List Happening) → LineDoes number request before after told → LineTurns number before after told request
line_turns number request before after told does = turns_of (line_effect number request before after told does)
