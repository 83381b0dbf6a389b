-- What each input's turn comes to in the machine's scene: its step keeps the relation of both links, and a link stands where the
-- scene says so.
use Rattle.std.proofs.Common.{Bool, List, Option, Some, [], ap, false, length, refl, slice_get, subst, sym, ℕ, ℤ, ◌++◌, ◌+◌, ◌∙◌, ◌∷◌, ◌≡◌}
use Rattle.std.specs.Prelude.{not}
use Rattle.std.specs.List.{list_any}
use Rattle.line_base.specs.declared.states.Quality.{Quality}
use Rattle.line_base.specs.declared.states.Side.TheVariants.{Entry, Exit}
use Rattle.board_record.specs.declared.sensed.Sensed.{Sensed}
use Rattle.board_record.specs.SubBoards.{unknown_sub}
use Rattle.hermes_horizontal.specs.declared.message.Message.{Message}
use Rattle.smema_bridge.specs.Levels.{BridgeLevels}
use Rattle.node_core.specs.Desk.{Desk}
use Rattle.node_core.specs.Done.{Done}
use Rattle.node_core.specs.Event.{Accepted, Connect, Nothing, Second}
use Rattle.node_core.specs.Node.{NodeState, desk_of}
use Rattle.node_core.specs.Signals.{signalled}
use Rattle.node_core.specs.Step.{machine_step}
use Rattle.node_core.specs.declared.act.Act.{Act}
use Rattle.node_core.specs.declared.act.Act.TheVariants as acts
use Rattle.node_core.specs.declared.input.Input.{Input}
use Rattle.node_core.specs.declared.input.Input.TheVariants as inputs
use Rattle.node_core.specs.declared.lane.Body.{Body}
use Rattle.node_core.specs.declared.word.Word.{Word}
use Rattle.node_core.proofs.Signalling.{signals_pass}
use Rattle.law_custody.specs.Words.{events_at}
use Rattle.law_link_messages.specs.Heard.{bodies}
use Rattle.law_machine_custody.specs.Ahead.{IsFreeRead}
use Rattle.law_machine_custody.specs.Flight.{IsPlain}
use Rattle.law_machine_custody.specs.Good.{Goes}
use Rattle.law_machine_custody.specs.InTime.{AreInTime, IsMetInTime, IsReadEnough}
use Rattle.law_machine_custody.specs.Joined.{all_met_left, met_left}
use Rattle.law_machine_custody.specs.Scene.{Scene, all_met}
use Rattle.law_machine_custody.proofs.FrontRead.{Reads}
use Rattle.law_machine_custody.proofs.Step.{mark_ahead, sub_ahead}
use Rattle.law_one_standing.specs.Carried.{Trace, stand_of}
use Rattle.law_one_standing.proofs.Elsewhere.{afar_at, elsewhere_of}
use Rattle.law_one_standing.proofs.HandSteps.{changed_untouched, marks_one, subs_one}
use Rattle.law_one_standing.proofs.MirroringEnds.{before_one}
use Rattle.law_one_standing.proofs.Signalled.{signals_passed, signals_passed_second}
use Rattle.law_one_standing.proofs.Steps.{afar_of}
use Rattle.law_running_line.specs.Reading.{Reading}
use Rattle.law_running_line.specs.Running.{Running, with_node, with_reading}
use Rattle.law_running_line.specs.Stands.{Stands, between_of, is_joined, line_of, node_in}
use Rattle.law_running_line.specs.Steady.{FindsIt, IsSteady, RefusesIt, TakesIt, scene_of, unless_joined}
use Rattle.law_running_line.specs.Turned.{acts_met, answer_met, scene_met}
use Rattle.law_running_line.specs.Turns.{IsAt, Turns, met}
use Rattle.law_running_line.specs.Waits.{Says, had_above, had_below}
use Rattle.law_running_line.specs.Wire.{Awaits, Has, Hold, Left, Wire, asked_for, has, read_at}
use Rattle.law_running_line.proofs.TurnJoined.{StandsAs, accept_joins, any_map, bytes_joins, connect_joins, entry_read, exit_read, got_map, joins_then, read_joined, read_joins, second_joins}
use Rattle.law_running_line.proofs.TurnLeaves.{done_in, event_in}
use Rattle.law_running_line.proofs.TurnLinks.{accepted_steady, alone_below, and_first, and_second, any_weaker, found_steady, none_had, refused_steady}
use Rattle.law_running_line.proofs.TurnShape.{own_node}
use Rattle.law_running_line.proofs.TurnStands.{IsOwn, TurnsInto, own_scene}
use Rattle.law_running_line.proofs.TurnSteps.{reads_before, reads_steady, takes_steady}

-- ---- a bridge's own signals are no business of a scene

left_last : (front : List Act) (last : Act) (c : Scene) → ((e : Scene) → met_left last e ≡ e) → all_met_left (front ++ last ∷ []) c ≡ all_met_left front c
left_last [] last c none = none c
left_last (act ∷ front) last c none = left_last front last (met_left act c) none

signals_passed_left : (c : Scene) (made : List Act) (bridge : Option BridgeLevels) (body : Body) → all_met_left (made ++ signalled bridge body) c ≡ all_met_left made c
signals_passed_left c made bridge body = signals_pass (λ (told : List Act). all_met_left told c) (λ front signal on. left_last front (acts.Signals signal on) c (λ e. refl)) made bridge body

answer_passed : (hold : Hold) (c : Scene) (made : List Act) (bridge : Option BridgeLevels) (body : Body) → answer_met hold (made ++ signalled bridge body) c ≡ answer_met hold made c
answer_passed Has c made bridge body = signals_passed_second c made bridge body
answer_passed Awaits c made bridge body = signals_passed_left c made bridge body
answer_passed Left c made bridge body = signals_passed_left c made bridge body

acts_passed : (input : Input) (wire : Wire) (c : Scene) (made : List Act) (bridge : Option BridgeLevels) (body : Body) → acts_met input wire (made ++ signalled bridge body) c ≡ acts_met input wire made c
acts_passed inputs.Second wire c made bridge body = answer_passed wire.below c made bridge body
acts_passed input wire c made bridge body = signals_passed c made bridge body

-- ---- from the machine's step to its turn

told_as : {reading : Reading} {machine : ℕ} {input : Input} {moment : ℤ} {before after : Running} {told : List Act} (turn : Turns reading machine input moment before after told) (wire : Wire) (c : Scene) → acts_met input wire told c ≡ acts_met input wire (done_in turn).acts c
told_as {input = input} turn wire c =
    ap (λ (done : List Act). acts_met input wire done c) turn.steps.told
    ∙ acts_passed input wire c turn.steps.made turn.node.bridge turn.next.lane.body
    ∙ ap (λ (done : List Act). acts_met input wire done c) turn.steps.lane.told

pub into_by : {elsewhere gone : ℕ → Bool} {reading : Reading} {j : ℕ} {input : Input} {moment : ℤ} {before after : Running} {told : List Act} (t : Trace) (wire : Wire) (c : Scene) (turn : Turns reading (j + 1) input moment before after told) → IsOwn t before j c
    → Goes (afar_of elsewhere (between_of t before j) gone) (node_in before j).lane.body.kept turn.rest (t.ghost j) (t.ghost (j + 1)) (scene_of t before j) (done_in turn).body (acts_met input wire (done_in turn).acts c)
    → IsFreeRead turn.rest (done_in turn).body → StandsAs j after (acts_met input wire told c) → TurnsInto j t wire c gone turn
into_by {elsewhere} {gone} {j = j} {input = input} {before = before} {told = told} t wire c turn own goes free joins =
    let P : Body → Scene → Type 0 = λ (body : Body) (d : Scene). Goes (afar_of elsewhere (between_of t before j) gone) (node_in before j).lane.body.kept turn.rest (t.ghost j) (t.ghost (j + 1)) (scene_of t before j) body d in
    record {
      elsewhere = elsewhere;
      own = own;
      goes = subst (λ (body : Body). P body (acts_met input wire told c)) (sym turn.steps.lane.body) (subst (λ (d : Scene). P (done_in turn).body d) (sym (told_as turn wire c)) goes);
      joins = joins;
      free = subst (λ (body : Body). IsFreeRead turn.rest body) (sym turn.steps.lane.body) free;
    }

-- ---- which links stand

starts : (t : Trace) (s : Running) (j : ℕ) → StandsAs j s (scene_of t s j)
starts t s j = record { above = refl; below = refl }

reads_as : {reading : Reading} {j : ℕ} {input : Input} {moment : ℤ} {before after : Running} {told : List Act} (t : Trace) (turn : Turns reading (j + 1) input moment before after told)
    → StandsAs j (with_node (j + 1) turn.next (with_reading (j + 1) turn.read turn.rest before)) (scene_of t before j)
reads_as {j = j} {before = before} t turn = read_joins j turn.read turn.rest turn.next before (starts t before j)

-- an input that changes no connection but for what was on its way
abbrev pub IsNoJoint : Input → Type 0
IsNoJoint inputs.Connect = ⊥
IsNoJoint inputs.Accepted = ⊥
IsNoJoint inputs.Second = ⊥
IsNoJoint _ = Unit {0}

met_joins : {c : Scene} (j place : ℕ) (input : Input) (s : Running) → IsNoJoint input → StandsAs j s c → StandsAs j (met (j + 1) input place s) c
met_joins j place (inputs.Bytes side piece) s plain k = bytes_joins j place side _ s k
met_joins j place inputs.Connect s plain k = absurd plain
met_joins j place inputs.Accepted s plain k = absurd plain
met_joins j place inputs.Second s plain k = absurd plain
met_joins j place input s plain k = k

pub plain_joins : {reading : Reading} {j : ℕ} {input : Input} {moment : ℤ} {before after : Running} {told : List Act} (t : Trace) (wire : Wire) (turn : Turns reading (j + 1) input moment before after told) → IsNoJoint input
    → StandsAs j after (acts_met input wire told (scene_of t before j))
plain_joins {j = j} {input = input} {before = before} t wire turn plain =
    joins_then j wire turn (met_joins j turn.place input (with_node (j + 1) turn.next (with_reading (j + 1) turn.read turn.rest before)) plain (reads_as t turn))

-- ---- how much is read

-- all but nothing waits for the reading
abbrev pub IsTaken : Input → Type 0
IsTaken inputs.Nothing = ⊥
IsTaken _ = Unit {0}

-- the words that bytes bring are heard in time
abbrev pub IsTakenInTime : Input → List Word → List Sensed → Type 0
IsTakenInTime (inputs.Bytes side piece) words rest = AreInTime side rest words
IsTakenInTime input words rest = Unit {0}

-- the machine has read what its boards did at either gap before it takes what the turn brings, and each word in time
pub record ReadsEnough (j : ℕ) {reading : Reading} {input : Input} {moment : ℤ} {before after : Running} {told : List Act} (t : Trace) (turn : Turns reading (j + 1) input moment before after told) : Type 0 where
  pub enough : IsReadEnough turn.rest (t.ghost j)
  pub in_time : IsTakenInTime input turn.steps.lane.words turn.rest

-- what all inputs but nothing wait for
abbrev pub HasRead : (j : ℕ) (input : Input) {reading : Reading} {moment : ℤ} {before after : Running} {told : List Act} (t : Trace) → Turns reading (j + 1) input moment before after told → Type 0
HasRead j input t turn = IsTaken input → ReadsEnough j t turn

-- ---- IT READS A FRONT, AND TAKES NOTHING

pub nothing_into : {reading : Reading} {j : ℕ} {moment : ℤ} {before after : Running} {told : List Act} (t : Trace) → Stands t before → (turn : Turns reading (j + 1) inputs.Nothing moment before after told)
    → TurnsInto j t asked_for (scene_of t before j) (t.gone (j + 1)) turn
nothing_into {j = j} {moment = moment} {before = before} t st turn =
    let desk : Desk = desk_of turn.node moment in
    let steady : IsSteady t before j turn.rest (machine_step desk turn.read Nothing turn.node.lane.body) =
    subst (λ (n : NodeState). IsSteady t before j turn.rest (machine_step desk turn.read Nothing n.lane.body)) (own_node turn) (reads_steady t before j desk turn.read turn.rest st turn.front) in
    into_by t asked_for (scene_of t before j) turn (own_scene t before j) steady.goes steady.free (plain_joins t asked_for turn tt)

-- ---- IT TAKES WHAT MAKES NO CONNECTION AND CHANGES NO BOARD BY HAND

pub plain_acts : (input : Input) (wire : Wire) (told : List Act) (c : Scene) → IsNoJoint input → all_met told c ≡ acts_met input wire told c
plain_acts inputs.Second wire told c plain = absurd plain
plain_acts input wire told c plain = refl

abbrev pub GoesAs : Trace → Running → ℕ → (ℕ → Bool) → List Sensed → Body → Scene → (ℕ → Bool) → Type 0
GoesAs t s j elsewhere rest body d gone = Goes (afar_of elsewhere (between_of t s j) gone) (node_in s j).lane.body.kept rest (t.ghost j) (t.ghost (j + 1)) (scene_of t s j) body d

-- the machine behind its reading, as the relation has it
pub reads_in : {j : ℕ} {reading : Reading} {input : Input} {moment : ℤ} {before after : Running} {told : List Act} (t : Trace) → Stands t before → (turn : Turns reading (j + 1) input moment before after told)
    → Reads (afar_at (stand_of (line_of before)) (between_of t before) j) (node_in before j).lane.body.kept (turn.read ++ turn.rest) turn.rest (t.ghost j) (t.ghost (j + 1)) (desk_of turn.node moment) turn.read turn.node.lane.body (scene_of t before j)
reads_in {j = j} {moment = moment} {before = before} t st turn =
    let desk : Desk = desk_of turn.node moment in
    subst (λ (n : NodeState). Reads (afar_at (stand_of (line_of before)) (between_of t before) j) (node_in before j).lane.body.kept (turn.read ++ turn.rest) turn.rest (t.ghost j) (t.ghost (j + 1)) desk turn.read n.lane.body (scene_of t before j)) (own_node turn)
    (reads_before j desk turn.read turn.rest st turn.front)

steady_into : {j : ℕ} {reading : Reading} {input : Input} {moment : ℤ} {before after : Running} {told : List Act} (t : Trace) (turn : Turns reading (j + 1) input moment before after told) → IsNoJoint input
    → IsSteady t before j turn.rest (done_in turn) → TurnsInto j t asked_for (scene_of t before j) (t.gone (j + 1)) turn
steady_into {j = j} {input = input} {before = before} t turn plain steady =
    into_by t asked_for (scene_of t before j) turn (own_scene t before j)
    (subst (λ (d : Scene). GoesAs t before j steady.elsewhere turn.rest (done_in turn).body d (t.gone (j + 1))) (plain_acts input asked_for (done_in turn).acts (scene_of t before j) plain) steady.goes)
    steady.free (plain_joins t asked_for turn plain)

pub plain_into : {j : ℕ} {reading : Reading} {input : Input} {moment : ℤ} {before after : Running} {told : List Act} (t : Trace) → Stands t before → (turn : Turns reading (j + 1) input moment before after told) → ReadsEnough j t turn → IsMetInTime (event_in turn) turn.rest → IsNoJoint input
    → IsPlain (event_in turn) (scene_of t before j) → TurnsInto j t asked_for (scene_of t before j) (t.gone (j + 1)) turn
plain_into {j = j} {moment = moment} {before = before} t st turn enough in_time joint plain =
    let desk : Desk = desk_of turn.node moment in
    steady_into t turn joint
    (subst (λ (n : NodeState). IsSteady t before j turn.rest (machine_step desk turn.read (event_in turn) n.lane.body)) (own_node turn) (takes_steady t before j desk turn.read turn.rest (event_in turn) st turn.front plain in_time enough.enough))

-- its board is marked, that was not offered
pub mark_into : {j id : ℕ} {quality : Quality} {reading : Reading} {moment : ℤ} {before after : Running} {told : List Act} (t : Trace) → Stands t before → (turn : Turns reading (j + 1) (inputs.Mark id quality) moment before after told)
    → TurnsInto j t asked_for (scene_of t before j) (t.gone (j + 1)) turn
mark_into {j} {id} {quality} {moment = moment} {before = before} t st turn =
    let free : turn.node.lane.body.outlet.touched ≡ Some id → ⊥ = changed_untouched turn.node (marks_one {quality = quality}) turn.may in
    let marked = mark_ahead (desk_of turn.node moment) turn.read id quality turn.node.lane.body (scene_of t before j) (reads_in t st turn) free in
    steady_into t turn tt (record { elsewhere = elsewhere_of (stand_of (line_of before) (j + 1)).place.boards; free = marked.read; goes = marked.goes })

-- its board gets a circuit more, that was not offered
pub sub_into : {j id place : ℕ} {barcode : Option (List ℕ)} {reading : Reading} {moment : ℤ} {before after : Running} {told : List Act} (t : Trace) → Stands t before → (turn : Turns reading (j + 1) (inputs.Sub id place barcode) moment before after told)
    → TurnsInto j t asked_for (scene_of t before j) (t.gone (j + 1)) turn
sub_into {j} {id} {place} {barcode} {moment = moment} {before = before} t st turn =
    let free : turn.node.lane.body.outlet.touched ≡ Some id → ⊥ = changed_untouched turn.node (subs_one {place = place} {barcode = barcode}) turn.may in
    let subbed = sub_ahead (desk_of turn.node moment) turn.read id (unknown_sub place barcode) turn.node.lane.body (scene_of t before j) (reads_in t st turn) free in
    steady_into t turn tt (record { elsewhere = elsewhere_of (stand_of (line_of before) (j + 1)).place.boards; free = subbed.read; goes = subbed.goes })

-- ---- A CONNECTION IS TAKEN

-- the connections as they are when it is taken
taken_wires : (j : ℕ) {reading : Reading} {input : Input} {moment : ℤ} {before after : Running} {told : List Act} (turn : Turns reading (j + 1) input moment before after told) (place : ℕ) (wire : Wire) → slice_get (before.wires (j + 1)) place ≡ Some wire
    → slice_get ((with_node (j + 1) turn.next (with_reading (j + 1) turn.read turn.rest before)).wires (j + 1)) place ≡ Some (read_at Exit (length (events_at Exit turn.read)) wire)
taken_wires j {before = before} turn place wire there =
    ap (λ (ws : List Wire). slice_get ws place) (exit_read j turn.read turn.rest before) ∙ got_map (read_at Exit (length (events_at Exit turn.read))) (before.wires (j + 1)) place wire there

exit_unjoined : (j : ℕ) {reading : Reading} {input : Input} {moment : ℤ} {before after : Running} {told : List Act} (turn : Turns reading (j + 1) input moment before after told) → list_any is_joined (before.wires (j + 1)) ≡ false
    → list_any is_joined ((with_node (j + 1) turn.next (with_reading (j + 1) turn.read turn.rest before)).wires (j + 1)) ≡ false
exit_unjoined j {before = before} turn none =
    ap (list_any is_joined) (exit_read j turn.read turn.rest before) ∙ any_map is_joined (read_at Exit (length (events_at Exit turn.read))) (read_joined Exit (length (events_at Exit turn.read))) (before.wires (j + 1)) ∙ none

pub record IsAccepted (j : ℕ) {reading : Reading} {moment : ℤ} {before after : Running} {told : List Act} (t : Trace) (turn : Turns reading (j + 1) inputs.Accepted moment before after told) : Type 0 where
  pub said : List Message
  pub says : Says turn.meets.0.wire.up said
  pub into : TurnsInto j t turn.meets.0.wire (scene_met inputs.Accepted turn.meets.0.wire said t before j) (t.gone (j + 1)) turn

pub accepted_into : {j : ℕ} {reading : Reading} {moment : ℤ} {before after : Running} {told : List Act} (t : Trace) → Stands t before → (turn : Turns reading (j + 1) inputs.Accepted moment before after told) → IsAccepted j t turn
accepted_into {j = j} {moment = moment} {before = before} t st turn =
    let desk : Desk = desk_of turn.node moment in
    let wire : Wire = turn.meets.0.wire in
    let takes : TakesIt t before j turn.rest wire (machine_step desk turn.read Accepted turn.node.lane.body) =
    subst (λ (n : NodeState). TakesIt t before j turn.rest wire (machine_step desk turn.read Accepted n.lane.body)) (own_node turn) (accepted_steady t before j desk turn.read turn.rest turn.place st turn.front turn.meets.0 turn.meets.1) in
    let c : Scene = scene_met inputs.Accepted wire takes.said t before j in
    let unjoined : list_any is_joined (before.wires (j + 1)) ≡ false = any_weaker had_above is_joined (λ other not. and_first (has other.above) (has other.below) not) (before.wires (j + 1)) (none_had (before.wires (j + 1)) turn.meets.1) in
    record {
      said = takes.said;
      says = takes.says;
      into = into_by t wire c turn (record { boards = refl; gap_above = refl; gap_below = refl; exit = refl; outlet = refl; last = refl; far_above = refl; entry = refl; intake = refl; far_below = refl })
          takes.goes takes.free
          (joins_then j wire turn (accept_joins j turn.place (bodies takes.said) (unless_joined wire.below (t.down (j + 1))) (read_at Exit (length (events_at Exit turn.read)) wire) (with_node (j + 1) turn.next (with_reading (j + 1) turn.read turn.rest before))
          (taken_wires j turn turn.place wire turn.meets.0.there) (exit_unjoined j turn unjoined) (reads_as t turn)));
    }

-- ---- ONE IS FOUND MADE

-- the connection that is found
pub found_at : (j : ℕ) {place : ℕ} {before : Running} (at : IsAt (j + 1) Entry place Awaits before) → slice_get (before.wires j) place ≡ Some at.wire
found_at j {place = place} {before = before} at = subst (λ (n : ℕ). slice_get (before.wires n) place ≡ Some at.wire) (before_one j) at.there

found_wires : (j : ℕ) {reading : Reading} {input : Input} {moment : ℤ} {before after : Running} {told : List Act} (turn : Turns reading (j + 1) input moment before after told) (place : ℕ) (wire : Wire) → slice_get (before.wires j) place ≡ Some wire
    → slice_get ((with_node (j + 1) turn.next (with_reading (j + 1) turn.read turn.rest before)).wires j) place ≡ Some (read_at Entry (length (events_at Entry turn.read)) wire)
found_wires j {before = before} turn place wire there =
    ap (λ (ws : List Wire). slice_get ws place) (entry_read j turn.read turn.rest before) ∙ got_map (read_at Entry (length (events_at Entry turn.read))) (before.wires j) place wire there

entry_unjoined : (j : ℕ) {reading : Reading} {input : Input} {moment : ℤ} {before after : Running} {told : List Act} (turn : Turns reading (j + 1) input moment before after told) → list_any is_joined (before.wires j) ≡ false
    → list_any is_joined ((with_node (j + 1) turn.next (with_reading (j + 1) turn.read turn.rest before)).wires j) ≡ false
entry_unjoined j {before = before} turn none =
    ap (list_any is_joined) (entry_read j turn.read turn.rest before) ∙ any_map is_joined (read_at Entry (length (events_at Entry turn.read))) (read_joined Entry (length (events_at Entry turn.read))) (before.wires j) ∙ none

pub record IsFound (j : ℕ) {reading : Reading} {moment : ℤ} {before after : Running} {told : List Act} (t : Trace) (turn : Turns reading (j + 1) inputs.Connect moment before after told) : Type 0 where
  pub said : List Message
  pub says : Says turn.meets.wire.down said
  pub into : TurnsInto j t turn.meets.wire (scene_met inputs.Connect turn.meets.wire said t before j) (t.gone (j + 1)) turn

pub found_into : {j : ℕ} {reading : Reading} {moment : ℤ} {before after : Running} {told : List Act} (t : Trace) → Stands t before → (turn : Turns reading (j + 1) inputs.Connect moment before after told) → IsFound j t turn
found_into {j = j} {moment = moment} {before = before} t st turn =
    let desk : Desk = desk_of turn.node moment in
    let wire : Wire = turn.meets.wire in
    let finds : FindsIt t before j turn.rest wire (machine_step desk turn.read Connect turn.node.lane.body) =
    subst (λ (n : NodeState). FindsIt t before j turn.rest wire (machine_step desk turn.read Connect n.lane.body)) (own_node turn) (found_steady t before j desk turn.read turn.rest turn.place st turn.front turn.meets) in
    let c : Scene = scene_met inputs.Connect wire finds.said t before j in
    let there : slice_get (before.wires j) turn.place ≡ Some wire = found_at j turn.meets in
    let unjoined : list_any is_joined (before.wires j) ≡ false = any_weaker had_below is_joined (λ other not. and_second (has other.above) (has other.below) not) (before.wires j) (alone_below (st.waits j).one_below turn.place wire there turn.meets.held) in
    record {
      said = finds.said;
      says = finds.says;
      into = into_by t wire c turn (record { boards = refl; gap_above = refl; gap_below = refl; exit = refl; outlet = refl; last = refl; far_above = refl; entry = refl; intake = refl; far_below = refl })
          finds.goes finds.free
          (joins_then j wire turn (connect_joins j turn.place (unless_joined wire.above (t.up j)) (bodies finds.said) (read_at Entry (length (events_at Entry turn.read)) wire) (with_node (j + 1) turn.next (with_reading (j + 1) turn.read turn.rest before))
          (found_wires j turn turn.place wire there) (entry_unjoined j turn unjoined) (reads_as t turn)));
    }

-- ---- A SECOND ONE IS REFUSED

refused_by : (t : Trace) (s : Running) (j : ℕ) (rest : List Sensed) (done : Done) (hold : Hold) (r : RefusesIt t s j rest done) → GoesAs t s j r.elsewhere rest done.body (answer_met hold done.acts (scene_of t s j)) (t.gone (j + 1))
refused_by t s j rest done Has r = r.answered
refused_by t s j rest done Awaits r = r.unanswered
refused_by t s j rest done Left r = r.unanswered

pub refused_into : {j : ℕ} {reading : Reading} {moment : ℤ} {before after : Running} {told : List Act} (t : Trace) → Stands t before → (turn : Turns reading (j + 1) inputs.Second moment before after told)
    → TurnsInto j t turn.meets.wire (scene_of t before j) (t.gone (j + 1)) turn
refused_into {j = j} {moment = moment} {before = before} t st turn =
    let desk : Desk = desk_of turn.node moment in
    let wire : Wire = turn.meets.wire in
    let refuses : RefusesIt t before j turn.rest (machine_step desk turn.read Second turn.node.lane.body) =
    subst (λ (n : NodeState). RefusesIt t before j turn.rest (machine_step desk turn.read Second n.lane.body)) (own_node turn) (refused_steady t before j desk turn.read turn.rest st turn.front) in
    into_by t wire (scene_of t before j) turn (own_scene t before j)
    (refused_by t before j turn.rest (done_in turn) wire.below refuses) refuses.free
    (joins_then j wire turn (second_joins j turn.place (read_at Exit (length (events_at Exit turn.read)) wire) (with_node (j + 1) turn.next (with_reading (j + 1) turn.read turn.rest before)) (taken_wires j turn turn.place wire turn.meets.there) turn.meets.held (reads_as t turn)))
