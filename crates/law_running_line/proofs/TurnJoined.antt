-- WHICH LINKS STAND BEHIND A TURN: those that the machine's scene says, and the connections of all other links are as they were.
use Rattle.std.proofs.Common.{Bool, List, None, Option, Some, [], ap, arith, false, length, map, refl, slice_get, slice_set, subst, suc, sym, true, zero, ℕ, ℤ, ◌&&◌, ◌+◌, ◌-◌, ◌∙◌, ◌∷◌, ◌≡◌, ◌≢◌, ◌||◌}
use Rattle.std.specs.Prelude.{cond}
use Rattle.std.specs.List.{list_any}
use Rattle.std.proofs.lemmas.Bool.{eq-eqb, ne_eqb, or_from, or_parts}
use Rattle.line_base.specs.declared.states.Side.{Side}
use Rattle.line_base.specs.declared.states.Side.TheVariants.{Entry, Exit}
use Rattle.board_record.specs.declared.sensed.Sensed.{Sensed}
use Rattle.hermes_horizontal.specs.Canonical.{canonical}
use Rattle.hermes_horizontal.specs.declared.message.Horizontal.{Horizontal}
use Rattle.hermes_horizontal.specs.declared.message.Message.{Message}
use Rattle.line_world.specs.FloorPlan.{with_unread}
use Rattle.node_core.specs.Node.{NodeState}
use Rattle.node_core.specs.declared.act.Act.{Act}
use Rattle.node_core.specs.declared.act.Act.TheVariants as acts
use Rattle.node_core.specs.declared.input.Input.{Input}
use Rattle.node_core.specs.declared.input.Input.TheVariants as inputs
use Rattle.law_custody.specs.Words.{events_at}
use Rattle.law_machine_custody.specs.Joined.{with_link}
use Rattle.law_machine_custody.specs.Scene.{Above, Below, Scene, all_met, met, shut}
use Rattle.line_step.specs.Acts.{answers}
use Rattle.line_step.specs.Steps.{is_second}
use Rattle.line_step.specs.World.{link_of}
use Rattle.law_one_standing.proofs.MirroringEnds.{before_one}
use Rattle.law_running_line.specs.Reading.{Reading}
use Rattle.law_running_line.specs.Running.{Running, at_place, at_side, count_beyond, with_floor, with_node, with_reading, with_wires}
use Rattle.law_running_line.specs.Stands.{is_joined}
use Rattle.law_running_line.specs.Turned.{acts_met}
use Rattle.law_running_line.specs.Turns.{Turns, act_did, answered, did, met as met_by, sent_by}
use Rattle.law_running_line.specs.Wire.{Awaits, Coming, Has, Hold, Left, Wire, end_at, end_beyond, given, has, if_has, if_reached, left, read_at, said, text_behind, with_end, with_said_by}
use Rattle.law_running_line.proofs.Waiting.{any_set, wire_of}
use Rattle.law_running_line.proofs.TurnFloor.{SameSides, acts_sides}
use Rattle.law_running_line.proofs.TurnLinks.{and_second}

-- ---- a connection that both ends have, or not

has_keeps : (hold : Hold) (new old : Wire) → is_joined new ≡ is_joined old → is_joined (if_has hold new old) ≡ is_joined old
has_keeps Awaits new old same = refl
has_keeps Has new old same = same
has_keeps Left new old same = refl

reached_keeps : (hold : Hold) (new old : Wire) → is_joined new ≡ is_joined old → is_joined (if_reached hold new old) ≡ is_joined old
reached_keeps Awaits new old same = same
reached_keeps Has new old same = same
reached_keeps Left new old same = refl

said_keeps : (side : Side) (coming : List Coming) (wire : Wire) → is_joined (with_said_by side coming wire) ≡ is_joined wire
said_keeps Entry coming wire = refl
said_keeps Exit coming wire = refl

pub said_joined : (side : Side) (coming : List Coming) (wire : Wire) → is_joined (said side coming wire) ≡ is_joined wire
said_joined side coming wire =
    has_keeps (end_at side wire) (if_reached (end_beyond side wire) (with_said_by side coming wire) wire) wire (reached_keeps (end_beyond side wire) (with_said_by side coming wire) wire (said_keeps side coming wire))

pub answered_joined : (coming : List Coming) (wire : Wire) → is_joined (answered coming wire) ≡ is_joined wire
answered_joined coming wire = reached_keeps wire.below (with_said_by Exit coming wire) wire (said_keeps Exit coming wire)

pub given_joined : (side : Side) (count : ℕ) (wire : Wire) → is_joined (given side count wire) ≡ is_joined wire
given_joined Entry count wire = has_keeps wire.below _ wire refl
given_joined Exit count wire = has_keeps wire.above _ wire refl

pub read_joined : (side : Side) (count : ℕ) (wire : Wire) → is_joined (read_at side count wire) ≡ is_joined wire
read_joined Entry count wire = refl
read_joined Exit count wire = refl

-- a side that leaves one has it no more
left_above : (above below : Hold) (up down : List Coming) → is_joined (left Exit (wire_of above below up down)) ≡ false
left_above Awaits below up down = refl
left_above Has below up down = refl
left_above Left below up down = refl

left_below : (above below : Hold) (up down : List Coming) → is_joined (left Entry (wire_of above below up down)) ≡ false
left_below above Awaits up down = and_second (has above) false refl
left_below above Has up down = and_second (has above) false refl
left_below above Left up down = and_second (has above) false refl

pub left_joined : (side : Side) (wire : Wire) → is_joined (left side wire) ≡ false
left_joined Exit wire = left_above wire.above wire.below wire.up wire.down
left_joined Entry wire = left_below wire.above wire.below wire.up wire.down

-- ---- among the connections of a link

pub any_map : (test : Wire → Bool) (change : Wire → Wire) → ((wire : Wire) → test (change wire) ≡ test wire) → (wires : List Wire) → list_any test (map change wires) ≡ list_any test wires
any_map test change same [] = refl
any_map test change same (wire ∷ wires) = rw (same wire, any_map test change same wires) refl

pub none_map : (test : Wire → Bool) (change : Wire → Wire) → ((wire : Wire) → test (change wire) ≡ false) → (wires : List Wire) → list_any test (map change wires) ≡ false
none_map test change none [] = refl
none_map test change none (wire ∷ wires) = or_from _ _ (none wire) (none_map test change none wires)

at_by : (test : Wire → Bool) (change : Wire → Wire) → ((wire : Wire) → test (change wire) ≡ test wire) → (wires : List Wire) (place : ℕ) (found : Option Wire) → slice_get wires place ≡ found
    → list_any test (elim found [ None ↦ wires | Some wire ↦ slice_set wires place (change wire) ]) ≡ list_any test wires
at_by test change same wires place None is = refl
at_by test change same wires place (Some wire) is = any_set test wire (change wire) (same wire) wires place is

pub any_at : (test : Wire → Bool) (change : Wire → Wire) → ((wire : Wire) → test (change wire) ≡ test wire) → (place : ℕ) (wires : List Wire) → list_any test (at_place place change wires) ≡ list_any test wires
any_at test change same place wires = at_by test change same wires place (slice_get wires place) refl

or_none : (a : Bool) → (a || false) ≡ a
or_none true = refl
or_none false = refl

-- where none passes, one that is changed passes alone
any_alone : (test : Wire → Bool) (old new : Wire) (wires : List Wire) (place : ℕ) → slice_get wires place ≡ Some old → list_any test wires ≡ false → list_any test (slice_set wires place new) ≡ test new
any_alone test old new [] place is none = cc
any_alone test old new (wire ∷ wires) zero is none = ap (λ (b : Bool). test new || b) (or_parts _ _ none).1 ∙ or_none (test new)
any_alone test old new (wire ∷ wires) (suc place) is none = ap (λ (b : Bool). b || list_any test (slice_set wires place new)) (or_parts _ _ none).0 ∙ any_alone test old new wires place is (or_parts _ _ none).1

pub placed : (place : ℕ) (change : Wire → Wire) (wires : List Wire) (wire : Wire) → slice_get wires place ≡ Some wire → at_place place change wires ≡ slice_set wires place (change wire)
placed place change wires wire there = rw (there, at_place) refl

pub any_made : (test : Wire → Bool) (change : Wire → Wire) (wires : List Wire) (place : ℕ) (wire : Wire) → slice_get wires place ≡ Some wire → list_any test wires ≡ false → list_any test (at_place place change wires) ≡ test (change wire)
any_made test change wires place wire there none = ap (list_any test) (placed place change wires wire there) ∙ any_alone test wire (change wire) wires place there none

abbrev mapped : (Wire → Wire) → Option Wire → Option Wire
mapped change None = None
mapped change (Some wire) = Some (change wire)

pub got_map : (change : Wire → Wire) (wires : List Wire) (place : ℕ) (wire : Wire) → slice_get wires place ≡ Some wire → slice_get (map change wires) place ≡ Some (change wire)
got_map change [] place wire is = cc
got_map change (first ∷ wires) zero wire is = ap (mapped change) is
got_map change (first ∷ wires) (suc place) wire is = got_map change wires place wire is

-- ---- the connections of a machine's two links

-- the number of the link at a side of machine j + 1
abbrev pub link_at_side : ℕ → Side → ℕ
link_at_side j Entry = j
link_at_side j Exit = j + 1

pub side_link : (j : ℕ) (side : Side) → link_of (j + 1) side ≡ link_at_side j side
side_link j Entry = before_one j
side_link j Exit = refl

pub own_wires : (link k : ℕ) (change : List Wire → List Wire) (s : Running) → link ≡ k → (with_wires link change s).wires k ≡ change (s.wires k)
own_wires link k change s is = ap (λ (b : Bool). cond b (change (s.wires k)) (s.wires k)) (eq-eqb k link (sym is))

pub other_wires : (link k : ℕ) (change : List Wire → List Wire) (s : Running) → k ≢ link → (with_wires link change s).wires k ≡ s.wires k
other_wires link k change s apart = ap (λ (b : Bool). cond b (change (s.wires k)) (s.wires k)) (ne_eqb k link apart)

-- those of one link alone are changed
pub side_wires : (j : ℕ) (side : Side) (change : List Wire → List Wire) (s : Running) → (with_wires (link_of (j + 1) side) change s).wires (link_at_side j side) ≡ change (s.wires (link_at_side j side))
side_wires j side change s = own_wires (link_of (j + 1) side) (link_at_side j side) change s (side_link j side)

pub exit_beside : (j : ℕ) (change : List Wire → List Wire) (s : Running) → (with_wires (link_of (j + 1) Exit) change s).wires j ≡ s.wires j
exit_beside j change s = (let apart : j ≢ j + 1 = omega arith in other_wires (j + 1) j change s apart)

pub entry_beside : (j : ℕ) (change : List Wire → List Wire) (s : Running) → (with_wires (link_of (j + 1) Entry) change s).wires (j + 1) ≡ s.wires (j + 1)
entry_beside j change s = (let apart : j + 1 ≢ j + 1 - 1 = omega arith in other_wires (j + 1 - 1) (j + 1) change s apart)

-- those of a link of another machine are not
pub far_wires : (j k : ℕ) (side : Side) (change : List Wire → List Wire) (s : Running) → k ≢ j → k ≢ j + 1 → (with_wires (link_of (j + 1) side) change s).wires k ≡ s.wires k
far_wires j k Entry change s above below = (let apart : k ≢ j + 1 - 1 = omega (arith, above) in other_wires (j + 1 - 1) k change s apart)
far_wires j k Exit change s above below = other_wires (j + 1) k change s below

-- ---- a link stands where the scene says so

pub record StandsAs (j : ℕ) (s : Running) (c : Scene) : Type 0 where
  pub above : list_any is_joined (s.wires j) ≡ c.above.stands
  pub below : list_any is_joined (s.wires (j + 1)) ≡ c.below.stands

-- connections of a link change, and none comes to be joined or parted
pub joins_stay : {c : Scene} (j : ℕ) (side : Side) (change : List Wire → List Wire) (s : Running) → ((wires : List Wire) → list_any is_joined (change wires) ≡ list_any is_joined wires) → StandsAs j s c → StandsAs j (with_wires (link_of (j + 1) side) change s) c
joins_stay j Entry change s same k = record {
  above = ap (list_any is_joined) (side_wires j Entry change s) ∙ same (s.wires j) ∙ k.above;
  below = ap (list_any is_joined) (entry_beside j change s) ∙ k.below;
}
joins_stay j Exit change s same k = record {
  above = ap (list_any is_joined) (exit_beside j change s) ∙ k.above;
  below = ap (list_any is_joined) (side_wires j Exit change s) ∙ same (s.wires (j + 1)) ∙ k.below;
}

shut_joins : {c : Scene} (j : ℕ) (side : Side) (s : Running) → StandsAs j s c → StandsAs j (at_side (j + 1) side (left side) s) (shut side c)
shut_joins j Entry s k = record {
  above = ap (list_any is_joined) (side_wires j Entry (map (left Entry)) s) ∙ none_map is_joined (left Entry) (left_joined Entry) (s.wires j);
  below = ap (list_any is_joined) (entry_beside j (map (left Entry)) s) ∙ k.below;
}
shut_joins j Exit s k = record {
  above = ap (list_any is_joined) (exit_beside j (map (left Exit)) s) ∙ k.above;
  below = ap (list_any is_joined) (side_wires j Exit (map (left Exit)) s) ∙ none_map is_joined (left Exit) (left_joined Exit) (s.wires (j + 1));
}

said_as : {c : Scene} (j : ℕ) (side : Side) (message : Message) (s : Running) → StandsAs j s c → StandsAs j s (met (acts.Sends side message) c)
said_as j Entry message s k = record { above = k.above; below = k.below }
said_as j Exit message s k = record { above = k.above; below = k.below }

sent_joins : {c : Scene} (j : ℕ) (answer : Bool) (place : ℕ) (side : Side) (message : Message) (s : Running) → StandsAs j s c → StandsAs j (sent_by answer (j + 1) place side message s) c
sent_joins j true place side message s k =
    joins_stay j Exit (at_place place (answered (text_behind (count_beyond (j + 1) Exit s) (canonical message)))) s (any_at is_joined (answered (text_behind (count_beyond (j + 1) Exit s) (canonical message))) (answered_joined (text_behind (count_beyond (j + 1) Exit s) (canonical message))) place) k
sent_joins j false place side message s k =
    joins_stay j side (map (said side (text_behind (count_beyond (j + 1) side s) (canonical message)))) s (any_map is_joined (said side (text_behind (count_beyond (j + 1) side s) (canonical message))) (said_joined side (text_behind (count_beyond (j + 1) side s) (canonical message)))) k

-- what an act leaves where neither connections nor what stands are looked at
same_as : {s s2 : Running} {c d : Scene} (j : ℕ) → s2.wires j ≡ s.wires j → s2.wires (j + 1) ≡ s.wires (j + 1) → d.above.stands ≡ c.above.stands → d.below.stands ≡ c.below.stands → StandsAs j s c → StandsAs j s2 d
same_as j up down above below k = record { above = ap (list_any is_joined) up ∙ k.above ∙ sym above; below = ap (list_any is_joined) down ∙ k.below ∙ sym below }

act_joins : {c : Scene} (j : ℕ) (second : Bool) (place : ℕ) (act : Act) (s : Running) → StandsAs j s c → StandsAs j (act_did second (j + 1) place act s) (met act c)
act_joins j second place (acts.Sends side message) s k = said_as j side message (act_did second (j + 1) place (acts.Sends side message) s) (sent_joins j (answers second side message) place side message s k)
act_joins j second place (acts.Closes side) s k = shut_joins j side s k
act_joins j second place (acts.Notices side) s k = shut_joins j side s k
act_joins j second place (acts.Hears Entry message) s k = same_as j refl refl refl refl k
act_joins j second place (acts.Drive Entry on) s k = same_as j refl refl refl refl k
act_joins j second place act s k = same_as j refl refl refl refl k

pub acts_joins : (j : ℕ) (second : Bool) (place : ℕ) (told : List Act) (s : Running) {c : Scene} → StandsAs j s c → StandsAs j (did second (j + 1) place told s) (all_met told c)
acts_joins j second place [] s k = k
acts_joins j second place (act ∷ others) s k = acts_joins j second place others (act_did second (j + 1) place act s) (act_joins j second place act s k)

-- ---- and the connections of other links are as they were

sent_far : (j k : ℕ) (answer : Bool) (place : ℕ) (side : Side) (message : Message) (s : Running) → k ≢ j → k ≢ j + 1 → (sent_by answer (j + 1) place side message s).wires k ≡ s.wires k
sent_far j k true place side message s above below = far_wires j k Exit (at_place place (answered (text_behind (count_beyond (j + 1) Exit s) (canonical message)))) s above below
sent_far j k false place side message s above below = far_wires j k side (map (said side (text_behind (count_beyond (j + 1) side s) (canonical message)))) s above below

act_far : (j k : ℕ) (second : Bool) (place : ℕ) (act : Act) (s : Running) → k ≢ j → k ≢ j + 1 → (act_did second (j + 1) place act s).wires k ≡ s.wires k
act_far j k second place (acts.Sends side message) s above below = sent_far j k (answers second side message) place side message s above below
act_far j k second place (acts.Closes side) s above below = far_wires j k side (map (left side)) s above below
act_far j k second place (acts.Notices side) s above below = far_wires j k side (map (left side)) s above below
act_far j k second place act s above below = refl

pub acts_far : (j k : ℕ) (second : Bool) (place : ℕ) (told : List Act) (s : Running) → k ≢ j → k ≢ j + 1 → (did second (j + 1) place told s).wires k ≡ s.wires k
acts_far j k second place [] s above below = refl
acts_far j k second place (act ∷ others) s above below = acts_far j k second place others (act_did second (j + 1) place act s) above below ∙ act_far j k second place act s above below

-- ---- before the acts: what is read, and what the input meets

pub entry_read : (j : ℕ) (read rest : List Sensed) (s : Running) → (with_reading (j + 1) read rest s).wires j ≡ map (read_at Entry (length (events_at Entry read))) (s.wires j)
entry_read j read rest s =
    let first : Running = with_floor (with_unread s.floor (j + 1) rest) s in
    let then : Running = at_side (j + 1) Entry (read_at Entry (length (events_at Entry read))) first in
    exit_beside j (map (read_at Exit (length (events_at Exit read)))) then ∙ side_wires j Entry (map (read_at Entry (length (events_at Entry read)))) first

pub exit_read : (j : ℕ) (read rest : List Sensed) (s : Running) → (with_reading (j + 1) read rest s).wires (j + 1) ≡ map (read_at Exit (length (events_at Exit read))) (s.wires (j + 1))
exit_read j read rest s =
    let first : Running = with_floor (with_unread s.floor (j + 1) rest) s in
    let then : Running = at_side (j + 1) Entry (read_at Entry (length (events_at Entry read))) first in
    side_wires j Exit (map (read_at Exit (length (events_at Exit read)))) then ∙ ap (λ (ws : List Wire). map (read_at Exit (length (events_at Exit read))) ws) (entry_beside j (map (read_at Entry (length (events_at Entry read)))) first)

pub far_read : (j k : ℕ) (read rest : List Sensed) (s : Running) → k ≢ j → k ≢ j + 1 → (with_reading (j + 1) read rest s).wires k ≡ s.wires k
far_read j k read rest s above below =
    let first : Running = with_floor (with_unread s.floor (j + 1) rest) s in
    let then : Running = at_side (j + 1) Entry (read_at Entry (length (events_at Entry read))) first in
    far_wires j k Exit (map (read_at Exit (length (events_at Exit read)))) then above below ∙ far_wires j k Entry (map (read_at Entry (length (events_at Entry read)))) first above below

pub read_joins : {c : Scene} (j : ℕ) (read rest : List Sensed) (next : NodeState) (s : Running) → StandsAs j s c → StandsAs j (with_node (j + 1) next (with_reading (j + 1) read rest s)) c
read_joins j read rest next s k = record {
  above = ap (list_any is_joined) (entry_read j read rest s) ∙ any_map is_joined (read_at Entry (length (events_at Entry read))) (read_joined Entry (length (events_at Entry read))) (s.wires j) ∙ k.above;
  below = ap (list_any is_joined) (exit_read j read rest s) ∙ any_map is_joined (read_at Exit (length (events_at Exit read))) (read_joined Exit (length (events_at Exit read))) (s.wires (j + 1)) ∙ k.below;
}

and_true : (a : Bool) → (a && true) ≡ a
and_true true = refl
and_true false = refl

-- a connection is found made
pub connect_joins : {c : Scene} (j place : ℕ) (up down : List Horizontal) (wire : Wire) (s : Running) → slice_get (s.wires j) place ≡ Some wire → list_any is_joined (s.wires j) ≡ false → StandsAs j s c
    → StandsAs j (with_wires (link_of (j + 1) Entry) (at_place place (with_end Entry Has)) s) (with_link Entry (has wire.above) up down c)
connect_joins j place up down wire s there none k = record {
  above = ap (list_any is_joined) (side_wires j Entry (at_place place (with_end Entry Has)) s) ∙ any_made is_joined (with_end Entry Has) (s.wires j) place wire there none ∙ and_true (has wire.above);
  below = ap (list_any is_joined) (entry_beside j (at_place place (with_end Entry Has)) s) ∙ k.below;
}

-- and taken
pub accept_joins : {c : Scene} (j place : ℕ) (up down : List Horizontal) (wire : Wire) (s : Running) → slice_get (s.wires (j + 1)) place ≡ Some wire → list_any is_joined (s.wires (j + 1)) ≡ false → StandsAs j s c
    → StandsAs j (with_wires (link_of (j + 1) Exit) (at_place place (with_end Exit Has)) s) (with_link Exit (has wire.below) up down c)
accept_joins j place up down wire s there none k = record {
  above = ap (list_any is_joined) (exit_beside j (at_place place (with_end Exit Has)) s) ∙ k.above;
  below = ap (list_any is_joined) (side_wires j Exit (at_place place (with_end Exit Has)) s) ∙ any_made is_joined (with_end Exit Has) (s.wires (j + 1)) place wire there none;
}

-- and refused
pub second_joins : {c : Scene} (j place : ℕ) (wire : Wire) (s : Running) → slice_get (s.wires (j + 1)) place ≡ Some wire → wire.above ≡ Awaits → StandsAs j s c
    → StandsAs j (with_wires (link_of (j + 1) Exit) (at_place place (with_end Exit Left)) s) c
second_joins j place wire s there awaits k = record {
  above = ap (list_any is_joined) (exit_beside j (at_place place (with_end Exit Left)) s) ∙ k.above;
  below = ap (list_any is_joined) (side_wires j Exit (at_place place (with_end Exit Left)) s) ∙ ap (list_any is_joined) (placed place (with_end Exit Left) (s.wires (j + 1)) wire there)
      ∙ any_set is_joined wire (with_end Exit Left wire) (ap (λ (h : Hold). has h && has wire.below) (sym awaits)) (s.wires (j + 1)) place there ∙ k.below;
}

-- bytes of a side come
pub bytes_joins : {c : Scene} (j place : ℕ) (side : Side) (count : ℕ) (s : Running) → StandsAs j s c → StandsAs j (with_wires (link_of (j + 1) side) (at_place place (given side count)) s) c
bytes_joins j place side count s k = joins_stay j side (at_place place (given side count)) s (any_at is_joined (given side count) (given_joined side count) place) k

met_far : (j k : ℕ) (input : Input) (place : ℕ) (s : Running) → k ≢ j → k ≢ j + 1 → (met_by (j + 1) input place s).wires k ≡ s.wires k
met_far j k (inputs.Bytes side piece) place s above below = far_wires j k side (at_place place (given side (length piece.now))) s above below
met_far j k inputs.Connect place s above below = far_wires j k Entry (at_place place (with_end Entry Has)) s above below
met_far j k inputs.Accepted place s above below = far_wires j k Exit (at_place place (with_end Exit Has)) s above below
met_far j k inputs.Second place s above below = far_wires j k Exit (at_place place (with_end Exit Left)) s above below
met_far j k input place s above below = refl

-- ---- BEHIND THE TURN

pub far_then : {reading : Reading} {input : Input} {moment : ℤ} {before after : Running} {told : List Act} (j k : ℕ) → Turns reading (j + 1) input moment before after told → k ≢ j → k ≢ j + 1 → after.wires k ≡ before.wires k
far_then {input = input} {before = before} {told = told} j k turn above below =
    ap (λ (s : Running). s.wires k) turn.after_is
    ∙ acts_far j k (is_second input) turn.place told (met_by (j + 1) input turn.place (with_node (j + 1) turn.next (with_reading (j + 1) turn.read turn.rest before))) above below
    ∙ met_far j k input turn.place (with_node (j + 1) turn.next (with_reading (j + 1) turn.read turn.rest before)) above below
    ∙ far_read j k turn.read turn.rest before above below

-- a link stands where the scene behind the acts says so, if it does so before them
pub joins_then : {reading : Reading} {input : Input} {moment : ℤ} {before after : Running} {told : List Act} {c : Scene} (j : ℕ) (wire : Wire) (turn : Turns reading (j + 1) input moment before after told)
    → StandsAs j (met_by (j + 1) input turn.place (with_node (j + 1) turn.next (with_reading (j + 1) turn.read turn.rest before))) c → StandsAs j after (acts_met input wire told c)
joins_then {input = input} {before = before} {told = told} {c = c} j wire turn k =
    let start : Running = met_by (j + 1) input turn.place (with_node (j + 1) turn.next (with_reading (j + 1) turn.read turn.rest before)) in
    let end : StandsAs j (did (is_second input) (j + 1) turn.place told start) (all_met told c) = acts_joins j (is_second input) turn.place told start k in
    let same : SameSides (acts_met input wire told c) (all_met told c) = acts_sides input wire told c in
    subst (λ (s : Running). StandsAs j s (acts_met input wire told c)) (sym turn.after_is)
    (same_as j refl refl (ap (λ (u : Above). u.stands) same.above) (ap (λ (u : Below). u.stands) same.below) end)
