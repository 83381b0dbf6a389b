-- A turn of each input, as its machine's scene has it.
use Rattle.std.proofs.Common.{Bool, Err, List, [], refl, subst, sym, ℕ, ℤ, ◌+◌, ◌∙◌, ◌≡◌, ◌≤◌}
use Rattle.law_one_standing.proofs.LineMoves.{same_gone}
use Rattle.line_step.proofs.FloorLaws.{IsHandless}
use Rattle.hermes_horizontal.specs.declared.message.Message.{Message}
use Rattle.line_world.specs.declared.board.Board.{Board}
use Rattle.node_core.specs.declared.act.Act.{Act}
use Rattle.node_core.specs.declared.input.Input.{Input}
use Rattle.node_core.specs.declared.input.Input.TheVariants as inputs
use Rattle.node_core.specs.declared.input.No.TheVariants as no
use Rattle.node_core.specs.declared.word.Word.{Word}
use Rattle.node_core.specs.May.{may_do}
use Rattle.law_machine_custody.specs.Flight.{plain_fault, plain_forecast, plain_level, plain_notice, plain_query, plain_shutdown, plain_supervised, plain_tick, plain_will, plain_words}
use Rattle.law_machine_custody.specs.Scene.{Scene}
use Rattle.line_step.proofs.Numbers.{same_or_not}
use Rattle.law_one_standing.specs.Carried.{Trace}
use Rattle.law_one_standing.specs.Mirrors.{AreHeard}
use Rattle.law_one_standing.proofs.ApartFloor.{counted}
use Rattle.law_running_line.specs.Reading.{Reading}
use Rattle.law_running_line.specs.Running.{Running}
use Rattle.law_running_line.specs.Stands.{Stands}
use Rattle.law_running_line.specs.Steady.{scene_of}
use Rattle.law_running_line.specs.Turned.{scene_met}
use Rattle.law_running_line.specs.Turns.{Meets, Turns}
use Rattle.law_running_line.specs.Waits.{Says}
use Rattle.law_running_line.specs.Wire.{Wire, asked_for}
use Rattle.law_running_line.proofs.TurnByHand.{insert_by_hand, remove_by_hand, replace_by_hand}
use Rattle.law_running_line.proofs.TurnInto.{HasRead, accepted_into, found_into, mark_into, nothing_into, plain_into, refused_into, sub_into}
use Rattle.law_running_line.proofs.TurnLeaves.{AreHeardFit, IsHeard, boards_stay, differ_then, fit_then, gone_then, rests_then}
use Rattle.law_running_line.proofs.TurnShape.{made_then}
use Rattle.law_running_line.proofs.TurnStands.{LeavesAll, TurnsInto, trace_then}

-- ---- the scene that each turn comes to

-- the connection is the one that the input meets, and these messages were said on it
abbrev pub IsMet : (j : ℕ) (input : Input) (place : ℕ) (s : Running) → Meets (j + 1) input place s → Wire → List Message → Type 0
IsMet j inputs.Accepted place s meets wire said = (wire ≡ meets.0.wire) × Says wire.up said
IsMet j inputs.Connect place s meets wire said = (wire ≡ meets.wire) × Says wire.down said
IsMet j inputs.Second place s meets wire said = wire ≡ meets.wire
IsMet j input place s meets wire said = Unit {0}

-- the connection that it meets, if it meets one that the machine has not, and what was said on it
pub record TurnOf (j : ℕ) {reading : Reading} {input : Input} {moment : ℤ} {before after : Running} {told : List Act} (t : Trace) (turn : Turns reading (j + 1) input moment before after told) : Type 0 where
  pub wire : Wire
  pub said : List Message
  pub is_met : IsMet j input turn.place before turn.meets wire said
  pub into : TurnsInto j t wire (scene_met input wire said t before j) (t.gone (j + 1)) turn

-- what is plain of inputs: nothing is connected, and no board is marked or changed by hand
pub turn_of : (j : ℕ) (input : Input) {reading : Reading} {moment : ℤ} {before after : Running} {told : List Act} (t : Trace) → Stands t before → (turn : Turns reading (j + 1) input moment before after told) → IsHandless input
    → HasRead j input t turn → AreHeard input turn.steps.lane.words (scene_of t before j) → TurnOf j t turn
turn_of j inputs.Nothing t st turn handless has heard = record { wire = asked_for; said = []; is_met = tt; into = nothing_into t st turn }
turn_of j inputs.Connect t st turn handless has heard = (let found = found_into t st turn in record { wire = turn.meets.wire; said = found.said; is_met = (refl, found.says); into = found.into })
turn_of j inputs.Accepted t st turn handless has heard = (let accepted = accepted_into t st turn in record { wire = turn.meets.0.wire; said = accepted.said; is_met = (refl, accepted.says); into = accepted.into })
turn_of j inputs.Second t st turn handless has heard = record { wire = turn.meets.wire; said = []; is_met = refl; into = refused_into t st turn }
turn_of j (inputs.Bytes side piece) t st turn handless has heard = record { wire = asked_for; said = []; is_met = tt; into = plain_into t st turn (has tt) (has tt).in_time tt (plain_words heard) }
turn_of j (inputs.Notice side) t st turn handless has heard = record { wire = asked_for; said = []; is_met = tt; into = plain_into t st turn (has tt) tt tt plain_notice }
turn_of j inputs.Tick t st turn handless has heard = record { wire = asked_for; said = []; is_met = tt; into = plain_into t st turn (has tt) tt tt plain_tick }
turn_of j inputs.Shutdown t st turn handless has heard = record { wire = asked_for; said = []; is_met = tt; into = plain_into t st turn (has tt) tt tt plain_shutdown }
turn_of j (inputs.Fault side) t st turn handless has heard = record { wire = asked_for; said = []; is_met = tt; into = plain_into t st turn (has tt) tt tt plain_fault }
turn_of j (inputs.Will side on) t st turn handless has heard = record { wire = asked_for; said = []; is_met = tt; into = plain_into t st turn (has tt) tt tt plain_will }
turn_of j (inputs.Level line on) t st turn handless has heard = record { wire = asked_for; said = []; is_met = tt; into = plain_into t st turn (has tt) tt tt plain_level }
turn_of j (inputs.Insert barcode) t st turn handless has heard = absurd handless
turn_of j (inputs.Remove id) t st turn handless has heard = absurd handless
turn_of j (inputs.Replace id) t st turn handless has heard = absurd handless
turn_of j (inputs.Mark id quality) t st turn handless has heard = record { wire = asked_for; said = []; is_met = tt; into = mark_into t st turn }
turn_of j (inputs.Sub id place barcode) t st turn handless has heard = record { wire = asked_for; said = []; is_met = tt; into = sub_into t st turn }
turn_of j (inputs.Gives id to) t st turn handless has heard = absurd handless
turn_of j (inputs.Gets board) t st turn handless has heard = absurd handless
turn_of j inputs.Forecast t st turn handless has heard = record { wire = asked_for; said = []; is_met = tt; into = plain_into t st turn (has tt) tt tt plain_forecast }
turn_of j (inputs.Query barcode) t st turn handless has heard = record { wire = asked_for; said = []; is_met = tt; into = plain_into t st turn (has tt) tt tt plain_query }
turn_of j _ t st turn handless has heard = record { wire = asked_for; said = []; is_met = tt; into = plain_into t st turn (has tt) tt tt plain_supervised }

-- ---- and what it leaves

pub leaves_of : (j : ℕ) (input : Input) {reading : Reading} {moment : ℤ} {before after : Running} {told : List Act} (t : Trace) → Stands t before → (turn : Turns reading (j + 1) input moment before after told) → IsHandless input
    → AreHeardFit input turn.steps.lane.words → (of : TurnOf j t turn) → LeavesAll after (trace_then of.into)
leaves_of j input {before = before} t st turn handless fit of = record {
  differ = differ_then turn handless st.differ;
  gone = gone_then turn handless t (trace_then of.into) st (λ k x. same_gone (j + 1) t k x (same_or_not k (j + 1)));
  fit = fit_then turn t st fit;
  rest = rests_then turn t st;
  made = λ id some. made_then turn id (st.made id (subst (λ (boards : List Board). 1 ≤ counted id boards) (boards_stay turn handless) some));
  olds = λ link id gone. made_then turn id (st.olds link id (sym (same_gone (j + 1) t link id (same_or_not link (j + 1))) ∙ gone));
}

-- ---- each turn with what it leaves

pub oldest_of : (input : Input) (words : List Word) (c : Scene) → IsHeard input words c → AreHeard input words c
oldest_of (inputs.Bytes side piece) words c heard = heard.0
oldest_of input words c heard = tt

pub fit_of : (input : Input) (words : List Word) (c : Scene) → IsHeard input words c → AreHeardFit input words
fit_of (inputs.Bytes side piece) words c heard = heard.1
fit_of input words c heard = tt

pub record TurnAll (j : ℕ) {reading : Reading} {input : Input} {moment : ℤ} {before after : Running} {told : List Act} (t : Trace) (turn : Turns reading (j + 1) input moment before after told) : Type 0 where
  pub wire : Wire
  pub said : List Message
  pub is_met : IsMet j input turn.place before turn.meets wire said
  pub gone : ℕ → Bool
  pub into : TurnsInto j t wire (scene_met input wire said t before j) gone turn
  pub leaves : LeavesAll after (trace_then into)

handless_all : (j : ℕ) (input : Input) {reading : Reading} {moment : ℤ} {before after : Running} {told : List Act} (t : Trace) → Stands t before → (turn : Turns reading (j + 1) input moment before after told) → IsHandless input
    → HasRead j input t turn → IsHeard input turn.steps.lane.words (scene_of t before j) → TurnAll j t turn
handless_all j input {before = before} t st turn handless has heard =
    let c : Scene = scene_of t before j in
    let of : TurnOf j t turn = turn_of j input t st turn handless has (oldest_of input turn.steps.lane.words c heard) in
    record { wire = of.wire; said = of.said; is_met = of.is_met; gone = t.gone (j + 1); into = of.into; leaves = leaves_of j input t st turn handless (fit_of input turn.steps.lane.words c heard) of }

-- a machine of one lane gives no board to another one, and gets none from there
no_lane : Err no.NoLane ≡ may_do → ⊥
no_lane may = cc

pub turn_all : (j : ℕ) (input : Input) {reading : Reading} {moment : ℤ} {before after : Running} {told : List Act} (t : Trace) → Stands t before → (turn : Turns reading (j + 1) input moment before after told) → HasRead j input t turn
    → IsHeard input turn.steps.lane.words (scene_of t before j) → TurnAll j t turn
turn_all j (inputs.Insert barcode) t st turn has heard = (let hand = insert_by_hand t st turn in record { wire = asked_for; said = []; is_met = tt; gone = hand.gone; into = hand.into; leaves = hand.leaves })
turn_all j (inputs.Remove id) t st turn has heard = (let hand = remove_by_hand t st turn in record { wire = asked_for; said = []; is_met = tt; gone = hand.gone; into = hand.into; leaves = hand.leaves })
turn_all j (inputs.Replace id) t st turn has heard = (let hand = replace_by_hand t st turn in record { wire = asked_for; said = []; is_met = tt; gone = hand.gone; into = hand.into; leaves = hand.leaves })
turn_all j (inputs.Gives id to) t st turn has heard = absurd (no_lane turn.may)
turn_all j (inputs.Gets board) t st turn has heard = absurd (no_lane turn.may)
turn_all j input t st turn has heard = handless_all j input t st turn tt has heard
