-- WHAT COMES TO A SIDE GOES ON in a machine's turn: to each side, unless the turn's input is a connection of that side or brings it bytes.
use Rattle.std.proofs.Common.{Bool, List, [], arith, false, length, subst, sym, true, ℕ, ◌∷◌, ◌≡◌, ◌≢◌, ◌≤◌}
use Rattle.line_base.specs.declared.states.Side.{Side}
use Rattle.line_base.specs.declared.states.Side.TheVariants.{Entry, Exit}
use Rattle.hermes_horizontal.specs.Canonical.{canonical}
use Rattle.hermes_horizontal.specs.declared.message.Message.{Message}
use Rattle.board_record.specs.declared.sensed.Sensed.{Sensed}
use Rattle.line_world.specs.FloorPlan.{with_unread}
use Rattle.node_core.specs.Node.{NodeState}
use Rattle.node_core.specs.declared.act.Act.{Act}
use Rattle.node_core.specs.declared.act.Act.TheVariants as acts
use Rattle.node_core.specs.declared.input.Input.{Input}
use Rattle.node_core.specs.declared.input.Input.TheVariants as inputs
use Rattle.law_custody.specs.Words.{events_at}
use Rattle.line_step.specs.Acts.{answers}
use Rattle.line_step.specs.World.{link_of}
use Rattle.line_outside.specs.Given.{Given}
use Rattle.law_running_line.specs.Running.{Running, at_place, at_side, count_beyond, with_floor, with_node, with_reading, with_wires}
use Rattle.law_running_line.specs.Turns.{act_did, answered, did, met, sent_by}
use Rattle.law_running_line.specs.Wire.{Has, Left, Wire, given, left, read_at, said, text_behind, with_end}
use Rattle.law_running_line.proofs.WiresWalk.{wires_other}
use Rattle.law_joined_nodes.specs.Does.{IsBeside}
use Rattle.law_joined_nodes.proofs.Further.{Further, Keeps, further_self, further_then, keeps_answered, keeps_end_entry, keeps_end_exit, keeps_given_entry, keeps_given_exit, keeps_gone, keeps_left, keeps_read, keeps_said, link_further, mapped_further, placed_further}

-- all connections of a side are changed, or one
pub side_further : {side : Side} (l machine : ℕ) (at : Side) (change : Wire → Wire) (s : Running) → Keeps side change → Further side (s.wires l) ((at_side machine at change s).wires l)
side_further l machine at change s keeps = link_further l (link_of machine at) _ s (λ wires. mapped_further keeps wires)

pub place_further : {side : Side} (l link place : ℕ) (change : Wire → Wire) (s : Running) → Keeps side change → Further side (s.wires l) ((with_wires link (at_place place change) s).wires l)
place_further l link place change s keeps = link_further l link _ s (λ wires. placed_further keeps place wires)

-- ---- acts

sent_further : (side : Side) (l : ℕ) (second : Bool) (machine place : ℕ) (at : Side) (message : Message) (s : Running) → Further side (s.wires l) ((sent_by second machine place at message s).wires l)
sent_further side l true machine place at message s = place_further l machine place (answered (text_behind (count_beyond machine Exit s) (canonical message))) s (keeps_answered side _)
sent_further side l false machine place at message s = side_further l machine at (said at (text_behind (count_beyond machine at s) (canonical message))) s (keeps_said side at _)

act_further : (side : Side) (l : ℕ) (second : Bool) (machine place : ℕ) (act : Act) (s : Running) → Further side (s.wires l) ((act_did second machine place act s).wires l)
act_further side l second machine place (acts.Sends at message) s = sent_further side l (answers second at message) machine place at message s
act_further side l second machine place (acts.Closes at) s = side_further l machine at (left at) s (keeps_left side at)
act_further side l second machine place (acts.Notices at) s = side_further l machine at (left at) s (keeps_left side at)
act_further side l second machine place act s = further_self

pub did_further : (side : Side) (l : ℕ) (second : Bool) (machine place : ℕ) (told : List Act) (s : Running) → Further side (s.wires l) ((did second machine place told s).wires l)
did_further side l second machine place [] s = further_self
did_further side l second machine place (act ∷ others) s =
    further_then (act_further side l second machine place act s) (did_further side l second machine place others (act_did second machine place act s))

-- ---- what is read

pub read_further : (side : Side) (l machine : ℕ) (read rest : List Sensed) (s : Running) → Further side (s.wires l) ((with_reading machine read rest s).wires l)
read_further side l machine read rest s =
    let now : Running = with_floor (with_unread s.floor machine rest) s in
    let one : Running = at_side machine Entry (read_at Entry (length (events_at Entry read))) now in
    further_then (side_further l machine Entry (read_at Entry (length (events_at Entry read))) now (keeps_read side Entry _))
    (side_further l machine Exit (read_at Exit (length (events_at Exit read))) one (keeps_read side Exit _))

-- ---- the input

pub beside_further : (side : Side) (l machine : ℕ) (given : List Given) (input : Input) (place : ℕ) (s : Running) → IsBeside given input → Further side (s.wires l) ((met machine input place s).wires l)
beside_further side l machine given (inputs.Bytes at piece) place s beside = absurd beside
beside_further side l machine given inputs.Connect place s beside = absurd beside
beside_further side l machine given inputs.Accepted place s beside = absurd beside
beside_further side l machine given inputs.Second place s beside = place_further l (link_of machine Exit) place (with_end Exit Left) s (keeps_gone side)
beside_further side l machine given input place s beside = further_self

-- of another machine, whose links at the same side are others
apart_links : (machine other : ℕ) (side : Side) → 1 ≤ machine → 1 ≤ other → other ≢ machine → link_of other side ≡ link_of machine side → ⊥
apart_links machine other Entry some more apart is = apart (omega (arith, some, more, is))
apart_links machine other Exit some more apart is = apart is

elsewhere : {side : Side} (l link : ℕ) (change : List Wire → List Wire) (s : Running) → (l ≡ link → ⊥) → Further side (s.wires l) ((with_wires link change s).wires l)
elsewhere {side} l link change s apart = subst (λ (ws : List Wire). Further side (s.wires l) ws) (sym (wires_other link l change s apart)) further_self

pub other_further : (side : Side) (machine other : ℕ) (input : Input) (place : ℕ) (s : Running) → 1 ≤ machine → 1 ≤ other → other ≢ machine → Further side (s.wires (link_of other side)) ((met machine input place s).wires (link_of other side))
other_further Entry machine other (inputs.Bytes Entry piece) place s some more apart = elsewhere (link_of other Entry) (link_of machine Entry) (at_place place (given Entry (length piece.now))) s (apart_links machine other Entry some more apart)
other_further Exit machine other (inputs.Bytes Exit piece) place s some more apart = elsewhere (link_of other Exit) (link_of machine Exit) (at_place place (given Exit (length piece.now))) s (apart_links machine other Exit some more apart)
other_further Entry machine other (inputs.Bytes Exit piece) place s some more apart = place_further (link_of other Entry) (link_of machine Exit) place (given Exit (length piece.now)) s (keeps_given_exit _)
other_further Exit machine other (inputs.Bytes Entry piece) place s some more apart = place_further (link_of other Exit) (link_of machine Entry) place (given Entry (length piece.now)) s (keeps_given_entry _)
other_further Entry machine other inputs.Connect place s some more apart = elsewhere (link_of other Entry) (link_of machine Entry) (at_place place (with_end Entry Has)) s (apart_links machine other Entry some more apart)
other_further Exit machine other inputs.Connect place s some more apart = place_further (link_of other Exit) (link_of machine Entry) place (with_end Entry Has) s (keeps_end_entry Has)
other_further Exit machine other inputs.Accepted place s some more apart = elsewhere (link_of other Exit) (link_of machine Exit) (at_place place (with_end Exit Has)) s (apart_links machine other Exit some more apart)
other_further Entry machine other inputs.Accepted place s some more apart = place_further (link_of other Entry) (link_of machine Exit) place (with_end Exit Has) s (keeps_end_exit Has)
other_further side machine other inputs.Second place s some more apart = place_further (link_of other side) (link_of machine Exit) place (with_end Exit Left) s (keeps_gone side)
other_further side machine other input place s some more apart = further_self

-- ---- THE TURN

pub turn_beside : (side : Side) (l machine : ℕ) (given : List Given) (input : Input) (place : ℕ) (second : Bool) (next : NodeState) (read rest : List Sensed) (told : List Act) (s : Running) → IsBeside given input
    → Further side (s.wires l) ((did second machine place told (met machine input place (with_node machine next (with_reading machine read rest s)))).wires l)
turn_beside side l machine given input place second next read rest told s beside =
    let one : Running = with_node machine next (with_reading machine read rest s) in
    further_then (read_further side l machine read rest s)
    (further_then (beside_further side l machine given input place one beside) (did_further side l second machine place told (met machine input place one)))

pub turn_other : (side : Side) (machine other : ℕ) (input : Input) (place : ℕ) (second : Bool) (next : NodeState) (read rest : List Sensed) (told : List Act) (s : Running) → 1 ≤ machine → 1 ≤ other → other ≢ machine
    → Further side (s.wires (link_of other side)) ((did second machine place told (met machine input place (with_node machine next (with_reading machine read rest s)))).wires (link_of other side))
turn_other side machine other input place second next read rest told s some more apart =
    let one : Running = with_node machine next (with_reading machine read rest s) in
    let l : ℕ = link_of other side in
    further_then (read_further side l machine read rest s)
    (further_then (other_further side machine other input place one some more apart) (did_further side l second machine place told (met machine input place one)))
