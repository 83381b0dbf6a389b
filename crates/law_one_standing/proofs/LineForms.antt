-- Each form of a script line keeps the relation of the line.
use Rattle.std.proofs.Common.{List, Option, Some, ap, false, inl, not, refl, subst, sym, true, ℕ, ◌+◌, ◌-◌, ◌∙◌, ◌∷◌, ◌≡◌, ◌≤◌}
use Rattle.std.proofs.lemmas.Bool.{false≢true}
use Rattle.line_base.specs.declared.states.Side.{Side}
use Rattle.board_record.specs.declared.sensed.Sensed.{Sensed}
use Rattle.board_record.specs.declared.record.Record.{Record}
use Rattle.law_link_messages.specs.Fit.{IsFitInput, IsFitRecord, IsTextIf}
use Rattle.node_core.specs.May as own
use Rattle.node_core.specs.Node.{NodeState}
use Rattle.node_core.specs.declared.input.Input.{Input}
use Rattle.node_core.specs.declared.input.Input.TheVariants as inputs
use Rattle.line_report.specs.declared.happening.Happening.{Happening}
use Rattle.line_report.specs.declared.happening.Happening.TheVariants as happenings
use Rattle.line_step.specs.Lies.{tells_lie}
use Rattle.line_step.specs.Lines.{Connects, Flows, LineDoes, unvouched_told}
use Rattle.line_step.specs.Reasons.{has_neighbour, is_here, may_connect, may_do, may_flow}
use Rattle.line_step.specs.State.{LineState, machine_in, one_more}
use Rattle.line_step.specs.Steps.{MachineSteps}
use Rattle.line_step.proofs.Numbers.{machine_within}
use Rattle.law_one_standing.specs.Carried.{Trace}
use Rattle.law_one_standing.specs.Stands.{Stands}
use Rattle.law_one_standing.specs.Standing.{IsFitRequest}
use Rattle.law_one_standing.specs.Waits.{AreWaiting}
use Rattle.law_one_standing.specs.Told.{IsTold}
use Rattle.law_one_standing.proofs.ApartStep.{LayOn, LeftBy}
use Rattle.law_one_standing.proofs.Behind.{Bears}
use Rattle.law_one_standing.proofs.Carrying.{SaysAlone}
use Rattle.law_one_standing.proofs.HandSteps.{Around, Bearing, IsPlainInput, flow_bears, insert_bears, is_fault, is_notice, is_nothing, is_shutdown, is_tick, is_will, is_level, is_forecast, is_query, is_supervise, is_ask, is_answer, other_bears, remove_bears, replace_bears, ChangesOne, change_bears, marks_one, subs_one}
use Rattle.law_one_standing.proofs.LaneSteps.{get_bears, give_bears}
use Rattle.law_one_standing.proofs.LineMoves.{moves_bear, less_one}
use Rattle.law_one_standing.proofs.MirroringFlow.{mirrors_flow}
use Rattle.law_one_standing.proofs.MirroringPlain.{is_plain_input, mirrors_plain}
use Rattle.law_one_standing.proofs.RestMore.{more_stands}
use Rattle.law_one_standing.proofs.SpoilingLine.{cut_bears, cut_trace, spoil_bears}
use Rattle.line_step.specs.Requests.{Request, gives, may_get}
use Rattle.line_step.proofs.Giving.{IsGiven}
use Rattle.line_step.proofs.Effects.{Effect, becomes_by, done_move, line_effect}
use Rattle.law_one_standing.proofs.GivenPlain.{given_plain}
use Rattle.line_step.proofs.Getting.{get_may, reach_may, removes_here, replaces_here}
use Rattle.line_step.proofs.Effects as effects

-- nothing goes
pub still_bears : {Left : ℕ → Type 0} (t : Trace) (s : LineState) → Stands t s → Bears Left t t s
still_bears t s st = record { keeps = st.keeps; carried = st.carried; rest = st.rest; fit = st.fit; sound = st.sound; olds = st.olds; was = λ link id gone. inl gone }

-- ---- machines by their number

-- what is shown of each machine j + 1 holds of a machine that is there
pub numbered : (Q : ℕ → Type 0) (machine : ℕ) (s : LineState) (node : NodeState) → machine_in machine s ≡ Some node → ((j : ℕ) → Q (j + 1)) → Q machine
numbered Q machine s node there all = subst Q (less_one machine (machine_within machine s node there).0) (all (machine - 1))

-- ---- what is had of a line

pub record Setting (number : ℕ) (t : Trace) (before after : LineState) (told all : List Happening) : Type 0 where
  pub alone : SaysAlone
  pub few : number ≤ 1000000
  pub waits : AreWaiting before
  pub around : Around t before after all
  pub within : (h : Happening) → IsTold h told → IsTold h all

-- an input that is neither bytes nor a connection, and no hand
input_bears : {Left : ℕ → Type 0} (number machine : ℕ) (input : Input) (t : Trace) (before after : LineState) (told all : List Happening) → is_plain_input input ≡ true → IsFitInput input → IsPlainInput input → Setting number t before after told all
    → (steps : MachineSteps number machine input before after told) → own.may_on_lane steps.node input ≡ own.may_do → Bearing Left t after
input_bears {Left} number machine input t before after told all plain fit is s steps may =
    numbered (λ m. (steps : MachineSteps number m input before after told) → own.may_on_lane steps.node input ≡ own.may_do → Bearing Left t after) machine before steps.node steps.there
    (λ j steps may. other_bears number j input t before after told all is s.around steps may (mirrors_plain s.alone t number j input before after told plain fit s.few s.around.st s.around.st.links steps))
    steps may

-- ---- hands

insert_line : {Left : ℕ → Type 0} (number machine : ℕ) (barcode : Option (List ℕ)) (t : Trace) (before after : LineState) (told all : List Happening) → IsTextIf barcode → Setting number t before after told all → may_get machine (inputs.Insert barcode) before ≡ may_do
    → MachineSteps number machine (inputs.Insert barcode) before after told → Bearing Left t after
insert_line {Left} number machine barcode t before after told all fit s may steps =
    numbered (λ m. (steps : MachineSteps number m (inputs.Insert barcode) before after told) → own.may_on_lane steps.node (inputs.Insert barcode) ≡ own.may_do → Bearing Left t after) machine before steps.node steps.there
    (λ j steps may. insert_bears number j barcode t before after told all s.around s.within steps may (mirrors_plain s.alone t number j (inputs.Insert barcode) before after told refl fit s.few s.around.st s.around.st.links steps))
    steps (get_may machine (inputs.Insert barcode) before steps.node steps.there may)

remove_line : (number machine id : ℕ) (t : Trace) (before after : LineState) (told all : List Happening) → Setting number t before after told all → may_get machine (inputs.Remove id) before ≡ may_do → MachineSteps number machine (inputs.Remove id) before after told → Bearing (LayOn before) t after
remove_line number machine id t before after told all s may steps =
    numbered (λ m. (steps : MachineSteps number m (inputs.Remove id) before after told) → own.may_on_lane steps.node (inputs.Remove id) ≡ own.may_do → is_here m id before.world ≡ true → Bearing (LayOn before) t after) machine before steps.node steps.there
    (λ j steps may here. remove_bears number j id t before after told all s.around s.within steps may here (mirrors_plain s.alone t number j (inputs.Remove id) before after told refl tt s.few s.around.st s.around.st.links steps))
    steps (get_may machine (inputs.Remove id) before steps.node steps.there may)
    (removes_here machine id before steps.node steps.there may)

replace_line : (number machine id : ℕ) (t : Trace) (before after : LineState) (told all : List Happening) → Setting number t before after told all → may_get machine (inputs.Replace id) before ≡ may_do → MachineSteps number machine (inputs.Replace id) before after told → Bearing (LayOn before) t after
replace_line number machine id t before after told all s may steps =
    numbered (λ m. (steps : MachineSteps number m (inputs.Replace id) before after told) → own.may_on_lane steps.node (inputs.Replace id) ≡ own.may_do → is_here m id before.world ≡ true → Bearing (LayOn before) t after) machine before steps.node steps.there
    (λ j steps may here. replace_bears number j id t before after told all s.around s.within steps may here (mirrors_plain s.alone t number j (inputs.Replace id) before after told refl tt s.few s.around.st s.around.st.links steps))
    steps (get_may machine (inputs.Replace id) before steps.node steps.there may)
    (replaces_here machine id before steps.node steps.there may)

changing_plain : {id : ℕ} {input : Input} → ChangesOne id input → is_plain_input input ≡ true
changing_plain marks_one = refl
changing_plain subs_one = refl

change_line : {Left : ℕ → Type 0} {id : ℕ} {input : Input} (number machine : ℕ) (t : Trace) (before after : LineState) (told all : List Happening) → ChangesOne id input → IsFitInput input → Setting number t before after told all → may_get machine input before ≡ may_do
    → MachineSteps number machine input before after told → Bearing Left t after
change_line {Left} {input = input} number machine t before after told all c fit s may steps =
    numbered (λ m. (steps : MachineSteps number m input before after told) → own.may_on_lane steps.node input ≡ own.may_do → Bearing Left t after) machine before steps.node steps.there
    (λ j steps may. change_bears number j t before after told all c s.around steps may (mirrors_plain s.alone t number j input before after told (changing_plain c) fit s.few s.around.st s.around.st.links steps))
    steps (get_may machine input before steps.node steps.there may)

-- ---- lanes

give_line : {Left : ℕ → Type 0} (number machine id to : ℕ) (t : Trace) (before after : LineState) (told all : List Happening) → Setting number t before after told all → may_get machine (inputs.Gives id to) before ≡ may_do → MachineSteps number machine (inputs.Gives id to) before after told → Bearing Left t after
give_line {Left} number machine id to t before after told all s may steps =
    numbered (λ m. (steps : MachineSteps number m (inputs.Gives id to) before after told) → own.may_on_lane steps.node (inputs.Gives id to) ≡ own.may_do → Bearing Left t after) machine before steps.node steps.there
    (λ j steps may. give_bears number j id to t before after told all s.around steps may (mirrors_plain s.alone t number j (inputs.Gives id to) before after told refl tt s.few s.around.st s.around.st.links steps))
    steps (get_may machine (inputs.Gives id to) before steps.node steps.there may)

get_line : {Left : ℕ → Type 0} (number machine : ℕ) (board : Record) (t : Trace) (before after : LineState) (told all : List Happening) → IsFitRecord board → Setting number t before after told all → may_get machine (inputs.Gets board) before ≡ may_do → MachineSteps number machine (inputs.Gets board) before after told → Bearing Left t after
get_line {Left} number machine board t before after told all fit s may steps =
    numbered (λ m. (steps : MachineSteps number m (inputs.Gets board) before after told) → own.may_on_lane steps.node (inputs.Gets board) ≡ own.may_do → Bearing Left t after) machine before steps.node steps.there
    (λ j steps may. get_bears number j board t before after told all s.around s.within steps may (mirrors_plain s.alone t number j (inputs.Gets board) before after told refl fit s.few s.around.st s.around.st.links steps))
    steps (get_may machine (inputs.Gets board) before steps.node steps.there may)

-- ---- bytes

flow_line : {Left : ℕ → Type 0} (number machine : ℕ) (side : Side) (count : Option ℕ) (t : Trace) (before after : LineState) (told all : List Happening) → Setting number t before after told all → may_flow machine side before ≡ may_do → Flows number machine side count before after told → Bearing Left t after
flow_line {Left} number machine side count t before after told all s may flows =
    numbered (λ m. may_flow m side before ≡ may_do → (flows : Flows number m side count before after told) → own.may_on_lane flows.steps.node (inputs.Bytes side flows.piece) ≡ own.may_do → Bearing Left t after) machine before flows.steps.node flows.steps.there
    (λ j may flows can. flow_bears number j side count t before after told all s.around flows can (mirrors_flow s.alone t number j side count before after told may s.few s.around.st s.around.st.links flows))
    may flows (reach_may machine side before flows.steps.node (not (has_neighbour machine side before)) _ flows.steps.there may)

-- ---- the links

-- what a connection asks
abbrev pub ConnectsBear : Type 0
ConnectsBear = (number machine : ℕ) (t : Trace) (before after : LineState) (told all : List Happening) → Setting number t before after told all → may_connect machine before ≡ may_do → Connects number machine before after told → Bearing (LayOn before) t after

-- ---- THE LINE STEP

no_lie : (told : List Happening) → tells_lie told ≡ false → (machine : ℕ) (sensed : Sensed) (more : List Happening) → told ≡ happenings.Lie machine sensed ∷ more → ⊥
no_lie told none machine sensed more is = false≢true (sym none ∙ ap tells_lie is)

none_unseen : (told : List Happening) → tells_lie told ≡ false → (machine : ℕ) (side : Side) (more : List Happening) → told ≡ happenings.Unseen machine side ∷ more → ⊥
none_unseen told none machine side more is = false≢true (sym none ∙ ap tells_lie is)

-- an input that is none of a hand, of bytes or of a connection
abbrev IsUnhanded : Input → Type 0
IsUnhanded (inputs.Insert barcode) = ⊥
IsUnhanded (inputs.Remove id) = ⊥
IsUnhanded (inputs.Replace id) = ⊥
IsUnhanded (inputs.Mark id quality) = ⊥
IsUnhanded (inputs.Sub id place barcode) = ⊥
IsUnhanded (inputs.Gives id to) = ⊥
IsUnhanded (inputs.Gets board) = ⊥
IsUnhanded input = IsGiven input

unhanded : (input : Input) → IsUnhanded input → IsPlainInput input
unhanded inputs.Nothing given = is_nothing
unhanded (inputs.Notice side) given = is_notice
unhanded inputs.Tick given = is_tick
unhanded inputs.Shutdown given = is_shutdown
unhanded (inputs.Fault side) given = is_fault
unhanded (inputs.Will side on) given = is_will
unhanded (inputs.Level line on) given = is_level
unhanded inputs.Forecast given = is_forecast
unhanded (inputs.Query barcode) given = is_query
unhanded (inputs.Supervise on) given = is_supervise
unhanded (inputs.Ask question) given = is_ask
unhanded (inputs.Answer query order) given = is_answer
unhanded _ given = absurd given

given_bears : (number machine : ℕ) (input : Input) (t : Trace) (before next : LineState) (told all : List Happening) → IsGiven input → IsFitInput input → Setting number t before next told all → may_get machine input before ≡ may_do → MachineSteps number machine input before next told → Bearing (LeftBy (gives machine input) before) t next
given_bears number machine (inputs.Insert barcode) t before next told all given fit s may did = insert_line number machine barcode t before next told all fit s may did
given_bears number machine (inputs.Remove id) t before next told all given fit s may did = remove_line number machine id t before next told all s may did
given_bears number machine (inputs.Replace id) t before next told all given fit s may did = replace_line number machine id t before next told all s may did
given_bears number machine (inputs.Mark id quality) t before next told all given fit s may did = change_line number machine t before next told all marks_one fit s may did
given_bears number machine (inputs.Sub id place barcode) t before next told all given fit s may did = change_line number machine t before next told all subs_one fit s may did
given_bears number machine (inputs.Gives id to) t before next told all given fit s may did = give_line number machine id to t before next told all s may did
given_bears number machine (inputs.Gets board) t before next told all given fit s may did = get_line number machine board t before next told all fit s may did
given_bears number machine input t before next told all given fit s may did =
    input_bears number machine input t before next told all (given_plain input given) fit (unhanded input given) s did (get_may machine input before did.node did.there may)

effect_bears : ConnectsBear → (number : ℕ) (request : Request) (t : Trace) (before next : LineState) (told all : List Happening) → Setting number t before next told all → tells_lie told ≡ false → IsFitRequest request → Effect number before next told request → Bearing (LeftBy request before) t next
effect_bears connects number request t before next told all s honest fit (effects.rests _ what remarks b) = becomes_by (λ l ts. Bearing (LeftBy request before) t l) b (t, still_bears t before s.around.st)
effect_bears connects number request t before next told all s honest fit (effects.adds lane is_bridge capacity used may b) =
    becomes_by (λ l ts. Bearing (LayOn before) t l) b (t, still_bears t (one_more lane is_bridge capacity used before) (more_stands t lane is_bridge capacity used before fit s.around.st may))
effect_bears connects number request t before next told all s honest fit (effects.steps machine input given may did) = given_bears number machine input t before next told all given fit s may did
effect_bears connects number request t before next told all s honest fit (effects.connects machine may did) = connects number machine t before next told all s may did
effect_bears connects number request t before next told all s honest fit (effects.flows machine side count may did) = flow_line number machine side count t before next told all s may did
effect_bears connects number request t before next told all s honest fit (effects.cuts gap may b) = becomes_by (λ l ts. Bearing (LayOn before) t l) b (cut_trace gap t, cut_bears gap t before s.around.st)
effect_bears connects number request t before next told all s honest fit (effects.spoils machine side may b) = becomes_by (λ l ts. Bearing (LayOn before) t l) b (spoil_bears s.alone machine side t before s.around.st s.waits may)
effect_bears connects number request t before next told all s honest fit (effects.moves gap step floor is b) = moves_bear gap step t before next told all s.around (still_bears t before) (done_move before is b)
effect_bears connects number request t before next told all s honest fit (effects.lies machine sensed may b) = absurd (no_lie told honest machine sensed (unvouched_told before.unvouched) b.told_is)
effect_bears connects number request t before next told all s honest fit (effects.unsees machine side may b) = absurd (none_unseen told honest machine side (unvouched_told before.unvouched) b.told_is)

pub line_bears : ConnectsBear → (number : ℕ) (request : Request) (t : Trace) (before next : LineState) (told all : List Happening) → Setting number t before next told all → tells_lie told ≡ false → IsFitRequest request → LineDoes number request before next told → Bearing (LeftBy request before) t next
line_bears connects number request t before next told all s honest fit does =
    effect_bears connects number request t before next told all s honest fit (line_effect number request before next told does)
