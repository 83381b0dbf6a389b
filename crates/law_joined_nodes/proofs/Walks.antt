-- A MACHINE'S TURN leaves the connections of other links as they are, and takes none away.
use Rattle.std.proofs.Common.{Bool, List, None, [], false, length, map, refl, true, ℕ, ◌∙◌, ◌∷◌, ◌≡◌, ◌≢◌, slice_get}
use Rattle.std.specs.Prelude.{cond, nat_eq}
use Rattle.line_base.specs.declared.states.Side.{Side}
use Rattle.line_base.specs.declared.states.Side.TheVariants.{Entry, Exit}
use Rattle.board_record.specs.declared.sensed.Sensed.{Sensed}
use Rattle.hermes_horizontal.specs.Canonical.{canonical}
use Rattle.hermes_horizontal.specs.declared.message.Message.{Message}
use Rattle.line_world.specs.FloorPlan.{with_unread}
use Rattle.node_core.specs.Node.{NodeState}
use Rattle.node_core.specs.declared.act.Act.{Act}
use Rattle.node_core.specs.declared.act.Act.TheVariants as acts
use Rattle.node_core.specs.declared.input.Input.{Input}
use Rattle.node_core.specs.declared.input.Input.TheVariants as inputs
use Rattle.law_custody.specs.Words.{events_at}
use Rattle.line_step.specs.Acts.{answers}
use Rattle.line_step.specs.World.{link_of}
use Rattle.law_running_line.specs.Running.{Running, at_place, at_side, count_beyond, with_floor, with_node, with_reading, with_wires}
use Rattle.law_running_line.specs.Turns.{act_did, answered, did, met, sent_by}
use Rattle.law_running_line.specs.Wire.{Has, Left, Wire, given, left, read_at, said, text_behind, with_end}
use Rattle.law_running_line.proofs.WiresWalk.{wires_other}
use Rattle.law_joined_nodes.proofs.Books.{none_all, none_placed}

pub record Walks (m l : ℕ) (s t : Running) : Type 0 where
  pub none : (n : ℕ) → slice_get (t.wires l) n ≡ None → slice_get (s.wires l) n ≡ None
  pub else : ((at : Side) → l ≢ link_of m at) → t.wires l ≡ s.wires l

walks_self : {m l : ℕ} {s : Running} → Walks m l s s
walks_self = record { none = λ n is. is; else = λ apart. refl }

walks_then : {m l : ℕ} {a b c : Running} → Walks m l a b → Walks m l b c → Walks m l a c
walks_then one two =
    record {
      none = λ n is. one.none n (two.none n is);
      else = λ apart.
          two.else apart ∙ one.else apart;
    }

none_by : (test : Bool) (new old : List Wire) (n : ℕ)
    → (slice_get new n ≡ None → slice_get old n ≡ None) → slice_get (cond test new old) n ≡ None
    → slice_get old n ≡ None
none_by true new old n back is = back is
none_by false new old n back is = is

walks_at : {m l : ℕ} (at : Side) (change : List Wire → List Wire) (s : Running)
    → ((n : ℕ) → slice_get (change (s.wires l)) n ≡ None → slice_get (s.wires l) n ≡ None)
    → Walks m l s (with_wires (link_of m at) change s)
walks_at {m} {l} at change s back = record {
  none = λ n is. none_by (nat_eq l (link_of m at)) (change (s.wires l)) (s.wires l) n (back n) is;
  else = λ apart. wires_other (link_of m at) l change s (apart at);
}

walks_side : {m l : ℕ} (at : Side) (change : Wire → Wire) (s : Running)
    → Walks m l s (at_side m at change s)
walks_side {l = l} at change s = walks_at at (map change) s (none_all change (s.wires l))

walks_place : {m l : ℕ} (at : Side) (place : ℕ) (change : Wire → Wire) (s : Running)
    → Walks m l s (with_wires (link_of m at) (at_place place change) s)
walks_place {l = l} at place change s =
    walks_at at (at_place place change) s (none_placed place change (s.wires l))

sent_walks : {m l : ℕ} (second : Bool) (place : ℕ) (at : Side) (message : Message) (s : Running)
    → Walks m l s (sent_by second m place at message s)
sent_walks {m} true place at message s =
    walks_place Exit place (answered (text_behind (count_beyond m Exit s) (canonical message))) s
sent_walks {m} false place at message s =
    walks_side at (said at (text_behind (count_beyond m at s) (canonical message))) s

act_walks : {m l : ℕ} (second : Bool) (place : ℕ) (act : Act) (s : Running)
    → Walks m l s (act_did second m place act s)
act_walks second place (acts.Sends at message) s =
    sent_walks (answers second at message) place at message s
act_walks second place (acts.Closes at) s = walks_side at (left at) s
act_walks second place (acts.Notices at) s = walks_side at (left at) s
act_walks second place act s = record { none = λ n is. is; else = λ apart. refl }

did_walks : {m l : ℕ} (second : Bool) (place : ℕ) (told : List Act) (s : Running)
    → Walks m l s (did second m place told s)
did_walks second place [] s = walks_self
did_walks {m} second place (act ∷ others) s =
    walks_then (act_walks second place act s)
    (did_walks second place others (act_did second m place act s))

read_walks : {m l : ℕ} (read rest : List Sensed) (s : Running)
    → Walks m l s (with_reading m read rest s)
read_walks {m} {l} read rest s =
    let now : Running = with_floor (with_unread s.floor m rest) s in
    let one : Running = at_side m Entry (read_at Entry (length (events_at Entry read))) now in
    let floors : Walks m l s now = record { none = λ n is. is; else = λ apart. refl } in
    walks_then floors
    (walks_then (walks_side Entry (read_at Entry (length (events_at Entry read))) now)
    (walks_side Exit (read_at Exit (length (events_at Exit read))) one))

met_walks : {m l : ℕ} (input : Input) (place : ℕ) (s : Running) → Walks m l s (met m input place s)
met_walks (inputs.Bytes at piece) place s = walks_place at place (given at (length piece.now)) s
met_walks inputs.Connect place s = walks_place Entry place (with_end Entry Has) s
met_walks inputs.Accepted place s = walks_place Exit place (with_end Exit Has) s
met_walks inputs.Second place s = walks_place Exit place (with_end Exit Left) s
met_walks input place s = walks_self

pub turn_walks : {m l : ℕ} (second : Bool) (input : Input) (place : ℕ) (next : NodeState)
    (read rest : List Sensed) (told : List Act) (s : Running)
    → Walks m l s
    (did second m place told (met m input place (with_node m next (with_reading m read rest s))))
turn_walks {m} {l} second input place next read rest told s =
    let one : Running = with_node m next (with_reading m read rest s) in
    let reads : Walks m l s (with_reading m read rest s) = read_walks read rest s in
    let nodes : Walks m l (with_reading m read rest s) one =
    record { none = λ n is. is; else = λ apart. refl } in
    walks_then reads
    (walks_then nodes
    (walks_then (met_walks input place one)
    (did_walks second place told (met m input place one))))
