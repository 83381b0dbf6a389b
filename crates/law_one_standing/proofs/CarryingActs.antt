-- ACTS IN LOCKSTEP: what the acts of a machine do to its two links and to the floor, they do to its scene.
use Rattle.std.proofs.Common.{Bool, List, [], ap, false, refl, subst, sym, true, ℕ, ◌++◌, ◌∷◌, ◌≡◌}
use Rattle.std.specs.Prelude.{Some, cond}
use Rattle.line_base.specs.declared.states.Side.{Side}
use Rattle.line_base.specs.declared.states.Side.TheVariants.{Entry, Exit}
use Rattle.line_world.specs.FloorPlan.{AtMachine, with_new_id, without_board}
use Rattle.line_world.specs.declared.board.Board.{Board}
use Rattle.node_core.specs.declared.act.Act.{Act}
use Rattle.node_core.specs.declared.act.Act.TheVariants as acts
use Rattle.law_link_messages.specs.Fit.{AreFitActs, IsFitAct, more_said, none_said}
use Rattle.line_step.specs.Near.{Near, near_did, near_driven, nears_did}
use Rattle.law_machine_custody.specs.Scene.{Scene, all_met, met}
use Rattle.law_one_standing.proofs.Carrying.{SaysAlone}
use Rattle.law_one_standing.proofs.CarryingSides.{Joint, joint_closed, joint_driven, joint_heard, joint_on, joint_sent}

-- what is near a machine is as its scene has it, before these acts: the bytes at its own two ends behind them, and those at
-- the two far ends
pub record IsLike (has : Side → Bool) (rest : List Act) (new_entry new_exit far_above far_below : List ℕ) (near : Near) (c : Scene) : Type 0 where
  pub place : near.place ≡ record { boards = c.boards; unread = [] }
  pub above : Joint Entry (has Entry) rest new_entry far_above near.above.link near.above.gap c.above.stands c.above.gap c.above.down c.above.up
  pub below : Joint Exit (has Exit) rest new_exit far_below near.below.link near.below.gap c.below.stands c.below.gap c.below.up c.below.down

-- an act that neither link meets
like_on : {has : Side → Bool} {new_entry new_exit far_above far_below : List ℕ} {near : Near} {c : Scene} (act : Act) (rest : List Act) → IsLike has (act ∷ rest) new_entry new_exit far_above far_below near c
    → Joint Entry (has Entry) rest new_entry far_above near.above.link near.above.gap c.above.stands c.above.gap c.above.down c.above.up
    → Joint Exit (has Exit) rest new_exit far_below near.below.link near.below.gap c.below.stands c.below.gap c.below.up c.below.down
    → IsLike has rest new_entry new_exit far_above far_below near c
like_on act rest k above below = record { place = k.place; above = above; below = below }

pub boards_now : (place : AtMachine) (boards : List Board) (change : List Board → List Board) → place ≡ record { boards = boards; unread = [] } → ◌≡◌ {A = AtMachine} (record place { boards = change place.boards }) (record { boards = change boards; unread = [] })
boards_now place boards change is = ap (λ (p : AtMachine). record p { boards = change p.boards }) is

pub driven_entry : (test on : Bool) (near : Near) → near_driven test Entry on near ≡ record near { above = record near.above { gap = cond test (record near.above.gap { entry_drive = on }) near.above.gap } }
driven_entry true on near = refl
driven_entry false on near = refl

pub driven_exit : (test on : Bool) (near : Near) → near_driven test Exit on near ≡ record near { below = record near.below { gap = cond test (record near.below.gap { exit_drive = on }) near.below.gap } }
driven_exit true on near = refl
driven_exit false on near = refl

act_like : {has : Side → Bool} {new_entry new_exit far_above far_below : List ℕ} {near : Near} {c : Scene} → SaysAlone → (act : Act) (rest : List Act) → IsFitAct act
    → IsLike has (act ∷ rest) new_entry new_exit far_above far_below near c → IsLike has rest new_entry new_exit far_above far_below (near_did has false act near) (met act c)
act_like alone (acts.Hears Entry message) rest fit k = record { place = k.place; above = joint_heard Entry (acts.Hears Entry message) rest refl refl k.above; below = joint_on Exit (acts.Hears Entry message) rest refl refl k.below }
act_like alone (acts.Hears Exit message) rest fit k = record { place = k.place; above = joint_on Entry (acts.Hears Exit message) rest refl refl k.above; below = joint_heard Exit (acts.Hears Exit message) rest refl refl k.below }
act_like alone (acts.Sends Entry message) rest fit k = record { place = k.place; above = joint_sent alone Entry (acts.Sends Entry message) message rest refl refl fit k.above; below = joint_on Exit (acts.Sends Entry message) rest refl refl k.below }
act_like alone (acts.Sends Exit message) rest fit k = record { place = k.place; above = joint_on Entry (acts.Sends Exit message) rest refl refl k.above; below = joint_sent alone Exit (acts.Sends Exit message) message rest refl refl fit k.below }
act_like alone (acts.Closes Entry) rest fit k = record { place = k.place; above = joint_closed Entry (acts.Closes Entry) rest k.above; below = joint_on Exit (acts.Closes Entry) rest refl refl k.below }
act_like alone (acts.Closes Exit) rest fit k = record { place = k.place; above = joint_on Entry (acts.Closes Exit) rest refl refl k.above; below = joint_closed Exit (acts.Closes Exit) rest k.below }
act_like alone (acts.Notices Entry) rest fit k = record { place = k.place; above = joint_closed Entry (acts.Notices Entry) rest k.above; below = joint_on Exit (acts.Notices Entry) rest refl refl k.below }
act_like alone (acts.Notices Exit) rest fit k = record { place = k.place; above = joint_on Entry (acts.Notices Exit) rest refl refl k.above; below = joint_closed Exit (acts.Notices Exit) rest k.below }
act_like {has = has} {new_entry = ne} {new_exit = nx} {far_above = fa} {far_below = fb} {near = near} {c = c} alone (acts.Drive Entry on) rest fit k =
    subst (λ (n : Near). IsLike has rest ne nx fa fb n (met (acts.Drive Entry on) c)) (sym (driven_entry (has Entry) on near))
    (record { place = k.place; above = joint_driven Entry (acts.Drive Entry on) rest Entry on refl refl k.above; below = joint_on Exit (acts.Drive Entry on) rest refl refl k.below })
act_like {has = has} {new_entry = ne} {new_exit = nx} {far_above = fa} {far_below = fb} {near = near} {c = c} alone (acts.Drive Exit on) rest fit k =
    subst (λ (n : Near). IsLike has rest ne nx fa fb n (met (acts.Drive Exit on) c)) (sym (driven_exit (has Exit) on near))
    (record { place = k.place; above = joint_on Entry (acts.Drive Exit on) rest refl refl k.above; below = joint_driven Exit (acts.Drive Exit on) rest Exit on refl refl k.below })
act_like {near = near} {c = c} alone (acts.Inserts id) rest fit k =
    record { place = boards_now near.place c.boards (λ bs. bs ++ record { id = Some id } ∷ []) k.place; above = joint_on Entry (acts.Inserts id) rest refl refl k.above; below = joint_on Exit (acts.Inserts id) rest refl refl k.below }
act_like {near = near} {c = c} alone (acts.Removes id) rest fit k =
    record { place = boards_now near.place c.boards (without_board id) k.place; above = joint_on Entry (acts.Removes id) rest refl refl k.above; below = joint_on Exit (acts.Removes id) rest refl refl k.below }
act_like {near = near} {c = c} alone (acts.Gives id to) rest fit k =
    record { place = boards_now near.place c.boards (without_board id) k.place; above = joint_on Entry (acts.Gives id to) rest refl refl k.above; below = joint_on Exit (acts.Gives id to) rest refl refl k.below }
act_like {near = near} {c = c} alone (acts.Gets id) rest fit k =
    record { place = boards_now near.place c.boards (λ bs. bs ++ record { id = Some id } ∷ []) k.place; above = joint_on Entry (acts.Gets id) rest refl refl k.above; below = joint_on Exit (acts.Gets id) rest refl refl k.below }
act_like {near = near} {c = c} alone (acts.Replaces old id) rest fit k =
    record { place = boards_now near.place c.boards (with_new_id old id) k.place; above = joint_on Entry (acts.Replaces old id) rest refl refl k.above; below = joint_on Exit (acts.Replaces old id) rest refl refl k.below }
act_like alone act rest fit k = like_on act rest k (joint_on Entry act rest refl refl k.above) (joint_on Exit act rest refl refl k.below)

pub acts_like : {has : Side → Bool} {new_entry new_exit far_above far_below : List ℕ} → SaysAlone → (told : List Act) → AreFitActs told → {near : Near} {c : Scene}
    → IsLike has told new_entry new_exit far_above far_below near c → IsLike has [] new_entry new_exit far_above far_below (nears_did has false told near) (all_met told c)
acts_like alone [] none_said k = k
acts_like alone (act ∷ rest) (more_said fit others) k = acts_like alone rest others (act_like alone act rest fit k)
