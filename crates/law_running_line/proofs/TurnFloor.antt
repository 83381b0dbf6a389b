-- THE FLOOR BEHIND A TURN is what the acts say in the machine's scene: its own boards, and the gaps on both its sides.
use Rattle.std.proofs.Common.{Bool, List, [], ap, arith, false, length, refl, subst, sym, true, ℕ, ◌&&◌, ◌++◌, ◌+◌, ◌-◌, ◌∙◌, ◌∷◌, ◌≡◌, ◌≢◌, ◌≤◌}
use Rattle.std.specs.Prelude.{Some, drop, nat_le}
use Rattle.std.proofs.lemmas.Bool.{false≢true}
use Rattle.line_base.specs.declared.states.Side.{Side}
use Rattle.line_base.specs.declared.states.Side.TheVariants.{Entry, Exit}
use Rattle.board_record.specs.declared.sensed.Sensed.{Sensed}
use Rattle.hermes_horizontal.specs.Canonical.{canonical}
use Rattle.hermes_horizontal.specs.declared.message.Horizontal.{Horizontal}
use Rattle.hermes_horizontal.specs.declared.message.Message.{Message}
use Rattle.line_world.specs.FloorPlan.{AtMachine, FloorPlan, gap_at, machine_at, with_drive, with_new_id, with_unread, without_board}
use Rattle.line_world.specs.declared.board.Board.{Board}
use Rattle.line_world.specs.declared.gap.AtGap.{AtGap}
use Rattle.node_core.specs.declared.act.Act.{Act}
use Rattle.node_core.specs.declared.act.Act.TheVariants as acts
use Rattle.node_core.specs.declared.act.Deed.{Deed}
use Rattle.node_core.specs.declared.act.Deed.TheVariants as deeds
use Rattle.node_core.specs.declared.input.Input.{Input}
use Rattle.node_core.specs.declared.input.Input.TheVariants as inputs
use Rattle.law_custody.specs.Words.{sent}
use Rattle.law_machine_custody.specs.Joined.{all_met_left, all_met_second, is_answer, met_left, met_second, answered as answered_there, unanswered}
use Rattle.law_machine_custody.specs.Scene.{Above, Below, Scene, all_met, met}
use Rattle.line_step.specs.Acts.{answers, changes, counted, drives_on, lays, takes_off}
use Rattle.line_step.specs.Acts.{act_did as line_act, acts_did as line_acts}
use Rattle.line_step.specs.Near.{HasPlace, Near, has_gap_at, near_at, near_did, near_driven, near_sent, nears_did}
use Rattle.line_step.specs.World.{WorldParts, link_of, no_world}
use Rattle.line_world.proofs.Keeping.{as_many_machines}
use Rattle.line_step.proofs.Changing.{SameBut, acts_same_but}
use Rattle.line_step.proofs.Counting.{SameWorld, acts_same_world}
use Rattle.line_step.proofs.Floors.{gaps_counted_beside, gaps_stay, place_own, place_other}
use Rattle.line_step.proofs.Nearby.{acts_near}
use Rattle.line_step.proofs.Numbers.{floor_stays}
use Rattle.line_step.proofs.OnFloor.{sent-floor}
use Rattle.law_one_standing.proofs.MirroringEnds.{before_one}
use Rattle.law_running_line.specs.Running.{Running}
use Rattle.law_running_line.specs.Turned.{acts_met, answer_met}
use Rattle.law_running_line.specs.Turns.{act_did, did, met as met_by, sent_by}
use Rattle.law_running_line.specs.Wire.{Awaits, Has, Hold, Left, Wire}

-- ---- the floor and the machines behind the acts

-- a floor alone
abbrev pub floor_world : FloorPlan → WorldParts
floor_world plan = record no_world { floor = plan }

pub sent_still : (answer : Bool) (machine place : ℕ) (side : Side) (message : Message) (s : Running) → (sent_by answer machine place side message s).floor ≡ s.floor
sent_still true machine place side message s = refl
sent_still false machine place side message s = refl

deed_still : (deed : Deed) (w : WorldParts) → (counted deed w).floor ≡ w.floor
deed_still (deeds.Opens id) w = refl
deed_still (deeds.Settles id) w = refl
deed_still _ w = refl

-- an act does to the floor what it does in a line
act_floor : (second : Bool) (machine place : ℕ) (act : Act) (s : Running) (w : WorldParts) → s.floor ≡ w.floor → (act_did second machine place act s).floor ≡ (line_act second machine act w).world.floor
act_floor second machine place (acts.Sends side message) s w is = sent_still (answers second side message) machine place side message s ∙ is ∙ sym (sent-floor (answers second side message) machine side message w)
act_floor second machine place (acts.Closes side) s w is = is ∙ sym (floor_stays (link_of machine side) _ w)
act_floor second machine place (acts.Notices side) s w is = is ∙ sym (floor_stays (link_of machine side) _ w)
act_floor second machine place (acts.Deed deed) s w is = is ∙ sym (deed_still deed w)
act_floor second machine place (acts.Drive side on) s w is = ap (drives_on machine side on) is
act_floor second machine place (acts.Inserts id) s w is = ap (lays machine id) is
act_floor second machine place (acts.Removes id) s w is = ap (takes_off machine id) is
act_floor second machine place (acts.Replaces old new) s w is = ap (changes machine old new) is
act_floor second machine place (acts.Gives id to) s w is = ap (takes_off machine id) is
act_floor second machine place (acts.Gets id) s w is = ap (lays machine id) is
act_floor second machine place act s w is = is

pub did_floor : (second : Bool) (machine place : ℕ) (told : List Act) (s : Running) (w : WorldParts) → s.floor ≡ w.floor → (did second machine place told s).floor ≡ (line_acts second machine told w).world.floor
did_floor second machine place [] s w is = is
did_floor second machine place (act ∷ others) s w is = did_floor second machine place others (act_did second machine place act s) (line_act second machine act w).world (act_floor second machine place act s w is)

sent_nodes : (answer : Bool) (machine place : ℕ) (side : Side) (message : Message) (s : Running) → (sent_by answer machine place side message s).machines ≡ s.machines
sent_nodes true machine place side message s = refl
sent_nodes false machine place side message s = refl

act_nodes : (second : Bool) (machine place : ℕ) (act : Act) (s : Running) → (act_did second machine place act s).machines ≡ s.machines
act_nodes second machine place (acts.Sends side message) s = sent_nodes (answers second side message) machine place side message s
act_nodes second machine place act s = refl

pub did_nodes : (second : Bool) (machine place : ℕ) (told : List Act) (s : Running) → (did second machine place told s).machines ≡ s.machines
did_nodes second machine place [] s = refl
did_nodes second machine place (act ∷ others) s = did_nodes second machine place others (act_did second machine place act s) ∙ act_nodes second machine place act s

pub met_floor : (machine : ℕ) (input : Input) (place : ℕ) (s : Running) → (met_by machine input place s).floor ≡ s.floor
met_floor machine (inputs.Bytes side piece) place s = refl
met_floor machine input place s = refl

pub met_nodes : (machine : ℕ) (input : Input) (place : ℕ) (s : Running) → (met_by machine input place s).machines ≡ s.machines
met_nodes machine (inputs.Bytes side piece) place s = refl
met_nodes machine input place s = refl

-- ---- what the acts leave in the scene, but for what is said below

abbrev pub under : Below → Below
under b = record b { up = []; down = [] }

-- the same boards, the same above the machine, and below it the same but for what is said there
pub record SameSides (c e : Scene) : Type 0 where
  pub boards : c.boards ≡ e.boards
  pub above : c.above ≡ e.above
  pub below : under c.below ≡ under e.below

answered_sides : (test : Bool) (what : Horizontal) (c e : Scene) → SameSides c e → SameSides (answered_there test what c) e
answered_sides true what c e k = record { boards = k.boards; above = k.above; below = k.below }
answered_sides false what c e k = record { boards = k.boards; above = k.above; below = k.below }

unanswered_sides : (test : Bool) (what : Horizontal) (c e : Scene) → SameSides c e → SameSides (unanswered test what c) e
unanswered_sides true what c e k = k
unanswered_sides false what c e k = record { boards = k.boards; above = k.above; below = k.below }

second_sides : (act : Act) (c e : Scene) → SameSides c e → SameSides (met_second act c) (met act e)
second_sides (acts.Sends Entry message) c e k = record { boards = k.boards; above = ap (λ (u : Above). record u { up = sent (message.body ∷ []) u.stands u.up }) k.above; below = k.below }
second_sides (acts.Sends Exit message) c e k = (let one = answered_sides (is_answer message.body) message.body c e k in record { boards = one.boards; above = one.above; below = one.below })
second_sides (acts.Hears Entry message) c e k = record { boards = k.boards; above = ap (λ (u : Above). record u { down = drop 1 u.down }) k.above; below = k.below }
second_sides (acts.Hears Exit message) c e k = record { boards = k.boards; above = k.above; below = k.below }
second_sides (acts.Closes Entry) c e k = record { boards = k.boards; above = ap (λ (u : Above). record u { stands = false; down = [] }) k.above; below = k.below }
second_sides (acts.Closes Exit) c e k = record { boards = k.boards; above = k.above; below = ap (λ (u : Below). record u { stands = false }) k.below }
second_sides (acts.Notices Entry) c e k = record { boards = k.boards; above = ap (λ (u : Above). record u { stands = false; down = [] }) k.above; below = k.below }
second_sides (acts.Notices Exit) c e k = record { boards = k.boards; above = k.above; below = ap (λ (u : Below). record u { stands = false }) k.below }
second_sides (acts.Drive Entry on) c e k = record { boards = k.boards; above = ap (λ (u : Above). record u { gap = with_drive u.gap Entry on }) k.above; below = k.below }
second_sides (acts.Drive Exit on) c e k = record { boards = k.boards; above = k.above; below = ap (λ (u : Below). record u { gap = with_drive u.gap Exit on }) k.below }
second_sides (acts.Inserts id) c e k = record { boards = ap (λ (bs : List Board). bs ++ record { id = Some id } ∷ []) k.boards; above = k.above; below = k.below }
second_sides (acts.Removes id) c e k = record { boards = ap (without_board id) k.boards; above = k.above; below = k.below }
second_sides (acts.Replaces old new) c e k = record { boards = ap (with_new_id old new) k.boards; above = k.above; below = k.below }
second_sides (acts.Gives id to) c e k = record { boards = ap (without_board id) k.boards; above = k.above; below = k.below }
second_sides (acts.Gets id) c e k = record { boards = ap (λ (bs : List Board). bs ++ record { id = Some id } ∷ []) k.boards; above = k.above; below = k.below }
second_sides act c e k = k

all_second_sides : (told : List Act) (c e : Scene) → SameSides c e → SameSides (all_met_second told c) (all_met told e)
all_second_sides [] c e k = k
all_second_sides (act ∷ others) c e k = all_second_sides others (met_second act c) (met act e) (second_sides act c e k)

left_sides : (act : Act) (c e : Scene) → SameSides c e → SameSides (met_left act c) (met act e)
left_sides (acts.Sends Entry message) c e k = record { boards = k.boards; above = ap (λ (u : Above). record u { up = sent (message.body ∷ []) u.stands u.up }) k.above; below = k.below }
left_sides (acts.Sends Exit message) c e k = (let one = unanswered_sides (is_answer message.body) message.body c e k in record { boards = one.boards; above = one.above; below = one.below })
left_sides (acts.Hears Entry message) c e k = record { boards = k.boards; above = ap (λ (u : Above). record u { down = drop 1 u.down }) k.above; below = k.below }
left_sides (acts.Hears Exit message) c e k = record { boards = k.boards; above = k.above; below = k.below }
left_sides (acts.Closes Entry) c e k = record { boards = k.boards; above = ap (λ (u : Above). record u { stands = false; down = [] }) k.above; below = k.below }
left_sides (acts.Closes Exit) c e k = record { boards = k.boards; above = k.above; below = ap (λ (u : Below). record u { stands = false }) k.below }
left_sides (acts.Notices Entry) c e k = record { boards = k.boards; above = ap (λ (u : Above). record u { stands = false; down = [] }) k.above; below = k.below }
left_sides (acts.Notices Exit) c e k = record { boards = k.boards; above = k.above; below = ap (λ (u : Below). record u { stands = false }) k.below }
left_sides (acts.Drive Entry on) c e k = record { boards = k.boards; above = ap (λ (u : Above). record u { gap = with_drive u.gap Entry on }) k.above; below = k.below }
left_sides (acts.Drive Exit on) c e k = record { boards = k.boards; above = k.above; below = ap (λ (u : Below). record u { gap = with_drive u.gap Exit on }) k.below }
left_sides (acts.Inserts id) c e k = record { boards = ap (λ (bs : List Board). bs ++ record { id = Some id } ∷ []) k.boards; above = k.above; below = k.below }
left_sides (acts.Removes id) c e k = record { boards = ap (without_board id) k.boards; above = k.above; below = k.below }
left_sides (acts.Replaces old new) c e k = record { boards = ap (with_new_id old new) k.boards; above = k.above; below = k.below }
left_sides (acts.Gives id to) c e k = record { boards = ap (without_board id) k.boards; above = k.above; below = k.below }
left_sides (acts.Gets id) c e k = record { boards = ap (λ (bs : List Board). bs ++ record { id = Some id } ∷ []) k.boards; above = k.above; below = k.below }
left_sides act c e k = k

all_left_sides : (told : List Act) (c e : Scene) → SameSides c e → SameSides (all_met_left told c) (all_met told e)
all_left_sides [] c e k = k
all_left_sides (act ∷ others) c e k = all_left_sides others (met_left act c) (met act e) (left_sides act c e k)

same_sides : (c : Scene) → SameSides c c
same_sides c = record { boards = refl; above = refl; below = refl }

answer_sides : (hold : Hold) (told : List Act) (c : Scene) → SameSides (answer_met hold told c) (all_met told c)
answer_sides Has told c = all_second_sides told c c (same_sides c)
answer_sides Awaits told c = all_left_sides told c c (same_sides c)
answer_sides Left told c = all_left_sides told c c (same_sides c)

pub acts_sides : (input : Input) (wire : Wire) (told : List Act) (c : Scene) → SameSides (acts_met input wire told c) (all_met told c)
acts_sides inputs.Second wire told c = answer_sides wire.below told c
acts_sides input wire told c = same_sides (all_met told c)

-- ---- what is near a machine is as its scene has it

pub record IsLike (has : Side → Bool) (rest : List Sensed) (near : Near) (c : Scene) : Type 0 where
  pub place : near.place ≡ record { boards = c.boards; unread = rest }
  pub above : has Entry ≡ true → near.above.gap ≡ c.above.gap
  pub below : has Exit ≡ true → near.below.gap ≡ c.below.gap

boards_then : (place : AtMachine) (boards : List Board) (rest : List Sensed) (change : List Board → List Board) → place ≡ record { boards = boards; unread = rest } → ◌≡◌ {A = AtMachine} (record place { boards = change place.boards }) (record { boards = change boards; unread = rest })
boards_then place boards rest change is = ap (λ (p : AtMachine). record p { boards = change p.boards }) is

sent_like : {has : Side → Bool} {rest : List Sensed} {near : Near} {c : Scene} (answer : Bool) (side : Side) (text : List ℕ) (message : Message) → IsLike has rest near c → IsLike has rest (near_sent answer side text near) (met (acts.Sends side message) c)
sent_like true Entry text message k = record { place = k.place; above = k.above; below = k.below }
sent_like true Exit text message k = record { place = k.place; above = k.above; below = k.below }
sent_like false Entry text message k = record { place = k.place; above = k.above; below = k.below }
sent_like false Exit text message k = record { place = k.place; above = k.above; below = k.below }

drive_entry : {has : Side → Bool} {rest : List Sensed} {near : Near} {c : Scene} (test on : Bool) → has Entry ≡ test → IsLike has rest near c → IsLike has rest (near_driven test Entry on near) (met (acts.Drive Entry on) c)
drive_entry true on is k = record { place = k.place; above = λ there. ap (λ (g : AtGap). with_drive g Entry on) (k.above is); below = k.below }
drive_entry false on is k = record { place = k.place; above = λ there. absurd (false≢true (sym is ∙ there)); below = k.below }

drive_exit : {has : Side → Bool} {rest : List Sensed} {near : Near} {c : Scene} (test on : Bool) → has Exit ≡ test → IsLike has rest near c → IsLike has rest (near_driven test Exit on near) (met (acts.Drive Exit on) c)
drive_exit true on is k = record { place = k.place; above = k.above; below = λ there. ap (λ (g : AtGap). with_drive g Exit on) (k.below is) }
drive_exit false on is k = record { place = k.place; above = k.above; below = λ there. absurd (false≢true (sym is ∙ there)) }

act_like : {has : Side → Bool} {rest : List Sensed} {near : Near} {c : Scene} (second : Bool) (act : Act) → IsLike has rest near c → IsLike has rest (near_did has second act near) (met act c)
act_like second (acts.Sends side message) k = sent_like (answers second side message) side (canonical message) message k
act_like second (acts.Hears Entry message) k = record { place = k.place; above = k.above; below = k.below }
act_like second (acts.Hears Exit message) k = record { place = k.place; above = k.above; below = k.below }
act_like second (acts.Closes Entry) k = record { place = k.place; above = k.above; below = k.below }
act_like second (acts.Closes Exit) k = record { place = k.place; above = k.above; below = k.below }
act_like second (acts.Notices Entry) k = record { place = k.place; above = k.above; below = k.below }
act_like second (acts.Notices Exit) k = record { place = k.place; above = k.above; below = k.below }
act_like {has = has} second (acts.Drive Entry on) k = drive_entry (has Entry) on refl k
act_like {has = has} second (acts.Drive Exit on) k = drive_exit (has Exit) on refl k
act_like {rest = rest} {near = near} {c = c} second (acts.Inserts id) k = record { place = boards_then near.place c.boards rest (λ bs. bs ++ record { id = Some id } ∷ []) k.place; above = k.above; below = k.below }
act_like {rest = rest} {near = near} {c = c} second (acts.Removes id) k = record { place = boards_then near.place c.boards rest (without_board id) k.place; above = k.above; below = k.below }
act_like {rest = rest} {near = near} {c = c} second (acts.Replaces old id) k = record { place = boards_then near.place c.boards rest (with_new_id old id) k.place; above = k.above; below = k.below }
act_like {rest = rest} {near = near} {c = c} second (acts.Gives id to) k = record { place = boards_then near.place c.boards rest (without_board id) k.place; above = k.above; below = k.below }
act_like {rest = rest} {near = near} {c = c} second (acts.Gets id) k = record { place = boards_then near.place c.boards rest (λ bs. bs ++ record { id = Some id } ∷ []) k.place; above = k.above; below = k.below }
act_like second act k = k

acts_like : {has : Side → Bool} {rest : List Sensed} (second : Bool) (told : List Act) {near : Near} {c : Scene} → IsLike has rest near c → IsLike has rest (nears_did has second told near) (all_met told c)
acts_like second [] k = k
acts_like second (act ∷ others) k = acts_like second others (act_like second act k)

-- ---- THE FLOOR

-- there is a machine of this number, on the floor too
pub record IsPlaced (j : ℕ) (plan : FloorPlan) : Type 0 where
  pub within : j + 1 ≤ length plan.machines

-- there is a gap at each side
abbrev pub gap_there : ℕ → FloorPlan → Side → Bool
gap_there j plan side = has_gap_at (j + 1) plan side

-- what the floor is behind the acts of machine j + 1, which has read and left these events unread
pub record FloorThen (j : ℕ) (rest : List Sensed) (old new : FloorPlan) (d : Scene) : Type 0 where
  pub machines : length new.machines ≡ length old.machines
  pub gaps : length new.gaps ≡ length old.gaps
  pub place : machine_at new (j + 1) ≡ record { boards = d.boards; unread = rest }
  pub above : gap_there j old Entry ≡ true → gap_at new j ≡ d.above.gap
  pub below : gap_there j old Exit ≡ true → gap_at new (j + 1) ≡ d.below.gap
  pub other_places : (k : ℕ) → k ≢ j + 1 → machine_at new k ≡ machine_at old k
  pub other_gaps : (k : ℕ) → k ≢ j + 1 → k ≢ j → gap_at new k ≡ gap_at old k

gaps_beside : (j : ℕ) (old new : FloorPlan) → length new.gaps ≡ length old.gaps → (side : Side) → has_gap_at (j + 1) new side ≡ gap_there j old side
gaps_beside j old new same side = ap (λ (count : ℕ). nat_le 1 (link_of (j + 1) side) && nat_le (link_of (j + 1) side) count) same

-- before the acts
read_like : (j : ℕ) (rest : List Sensed) (old : FloorPlan) (c : Scene) → IsPlaced j old → (machine_at old (j + 1)).boards ≡ c.boards → (gap_there j old Entry ≡ true → gap_at old j ≡ c.above.gap) → (gap_there j old Exit ≡ true → gap_at old (j + 1) ≡ c.below.gap)
    → IsLike (gap_there j old) rest (near_at (j + 1) (floor_world (with_unread old (j + 1) rest))) c
read_like j rest old c placed boards above below =
    let within = placed.within in
    let now : AtMachine = record (machine_at old (j + 1)) { unread = rest } in
    record {
      place = place_own old (j + 1) now (omega arith) within ∙ ap (λ (bs : List Board). record { boards = bs; unread = rest }) boards;
      above = λ there. gaps_stay old (j + 1) (j + 1 - 1) now ∙ ap (λ (k : ℕ). gap_at old k) (before_one j) ∙ above there;
      below = λ there. gaps_stay old (j + 1) (j + 1) now ∙ below there;
    }

pub floor_behind : (j : ℕ) (second : Bool) (told : List Act) (rest : List Sensed) (old new : FloorPlan) (c : Scene) → IsPlaced j old → (machine_at old (j + 1)).boards ≡ c.boards
    → (gap_there j old Entry ≡ true → gap_at old j ≡ c.above.gap) → (gap_there j old Exit ≡ true → gap_at old (j + 1) ≡ c.below.gap)
    → new ≡ (line_acts second (j + 1) told (floor_world (with_unread old (j + 1) rest))).world.floor → FloorThen j rest old new (all_met told c)
floor_behind j second told rest old new c placed boards above below is =
    let within = placed.within in
    let now : AtMachine = record (machine_at old (j + 1)) { unread = rest } in
    let read : FloorPlan = with_unread old (j + 1) rest in
    let start : WorldParts = floor_world read in
    let end : WorldParts = (line_acts second (j + 1) told start).world in
    let counts : length read.machines ≡ length old.machines = as_many_machines old (j + 1) now in
    let same : SameWorld start end = acts_same_world second (j + 1) told start in
    let but : SameBut (j + 1) start end = acts_same_but second (j + 1) told start in
    let at : HasPlace (j + 1) (gap_there j old) start = record { counted = omega arith; within = omega (arith, counts, within); gaps = gaps_beside j old read (gaps_counted_beside old (j + 1) now) } in
    let near : near_at (j + 1) end ≡ nears_did (gap_there j old) second told (near_at (j + 1) start) = acts_near (gap_there j old) second (j + 1) told start at in
    let like : IsLike (gap_there j old) rest (near_at (j + 1) end) (all_met told c) =
    subst (λ (n : Near). IsLike (gap_there j old) rest n (all_met told c)) (sym near) (acts_like second told (read_like j rest old c placed boards above below)) in
    subst (λ (plan : FloorPlan). FloorThen j rest old plan (all_met told c)) (sym is) (record {
      machines = same.floor ∙ counts;
      gaps = same.gaps ∙ gaps_counted_beside old (j + 1) now;
      place = like.place;
      above = λ there. ap (λ (k : ℕ). gap_at end.floor k) (sym (before_one j)) ∙ like.above there;
      below = λ there. like.below there;
      other_places = λ k apart. but.places k apart ∙ place_other old (j + 1) k now apart;
      other_gaps = λ k apart other. (let before : k + 1 ≢ j + 1 = omega (arith, other) in but.gaps k apart before ∙ gaps_stay old (j + 1) k now);
    })
