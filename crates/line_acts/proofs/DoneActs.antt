-- What acts do one after the other.
use Rattle.std.proofs.Common.{◌≡◌, ◌∙◌, ℕ, ◌++◌, ◌∷◌, [], Bool, List, length, refl, sym, ap, subst, append_assoc, append-nil}
use Rattle.std.specs.Prelude.{◌≤◌, Err, Ok, OnErr, Result}
use Rattle.line_world.specs.FloorPlan.{FloorPlan, IsMachine}
use Rattle.node_core.specs.declared.act.Act.{Act}
use Rattle.line_step.specs.World.{WorldParts}
use Rattle.line_step.specs.Acts.{act_did, acts_did}
use Rattle.line_step.proofs.Nearby.{acts_append, acts_told_append}
use Rattle.line_report.specs.declared.happening.Happening.{Happening}
use Rattle.line_acts.specs.Broken.{AreBrokenOff, IsBrokenOff, IsTold}

-- a machine that is there goes on being there while there are as many
pub machine_stays : (old new : FloorPlan) (machine : ℕ) → length new.machines ≡ length old.machines → IsMachine old machine → IsMachine new machine
machine_stays old new machine same there = record { counted = there.counted; within = subst (λ count. machine ≤ count) (sym same) there.within }

-- so far some of the acts are done, and what they tell is told
pub record IsDoing (second : Bool) (machine : ℕ) (all rest : List Act) (first now : WorldParts) (old new : List Happening) : Type 0 where
  pub done : List Act
  pub acts : all ≡ done ++ rest
  pub machines : length now.floor.machines ≡ length first.floor.machines
  pub world : now ≡ (acts_did second machine done first).world
  pub told : new ≡ old ++ (acts_did second machine done first).told

pub begins_doing : (second : Bool) (machine : ℕ) (all : List Act) (first : WorldParts) (old : List Happening) → IsDoing second machine all all first first old old
begins_doing second machine all first old = record { done = []; acts = refl; machines = refl; world = refl; told = sym (append-nil old) }

pub goes_on_doing : (second : Bool) (machine : ℕ) (all : List Act) (act : Act) (rest : List Act) (first now next : WorldParts) (old new newer : List Happening)
    → IsDoing second machine all (act ∷ rest) first now old new
    → next ≡ (act_did second machine act now).world → newer ≡ new ++ (act_did second machine act now).told → length next.floor.machines ≡ length now.floor.machines
    → IsDoing second machine all rest first next old newer
goes_on_doing second machine all act rest first now next old new newer doing next_is newer_is same =
    let done = doing.done in
    let told : (w : WorldParts) → List Happening = λ w. (act_did second machine act w).told in
    record {
      done = done ++ act ∷ [];
      acts = doing.acts ∙ sym (append_assoc done (act ∷ []) rest);
      machines = same ∙ doing.machines;
      world = next_is ∙ ap (λ w. (act_did second machine act w).world) doing.world ∙ sym (acts_append second machine done (act ∷ []) first);
      told = newer_is ∙ ap (λ w. new ++ told w) doing.world
          ∙ ap (λ what. what ++ told (acts_did second machine done first).world) doing.told
          ∙ append_assoc old (acts_did second machine done first).told (told (acts_did second machine done first).world)
          ∙ ap (λ what. old ++ ((acts_did second machine done first).told ++ what)) (sym (append-nil (told (acts_did second machine done first).world)))
          ∙ ap (λ what. old ++ what) (sym (acts_told_append second machine done (act ∷ []) first));
    }

pub ends_doing : (second : Bool) (machine : ℕ) (all : List Act) (first now : WorldParts) (old new : List Happening) → IsDoing second machine all [] first now old new
    → (now ≡ (acts_did second machine all first).world) × (new ≡ old ++ (acts_did second machine all first).told)
ends_doing second machine all first now old new doing =
    let all_done = sym (append-nil doing.done) ∙ sym doing.acts in
    (doing.world ∙ ap (λ (a : List Act). (acts_did second machine a first).world) all_done, doing.told ∙ ap (λ (a : List Act). old ++ (acts_did second machine a first).told) all_done)

-- the next one is broken off
pub is_broken_off : (second : Bool) (machine : ℕ) (all : List Act) (act : Act) (rest : List Act) (first now next : WorldParts) (old new newer : List Happening)
    → IsDoing second machine all (act ∷ rest) first now old new
    → IsBrokenOff second machine act now next new newer
    → AreBrokenOff second machine all first next old newer
is_broken_off second machine all act rest first now next old new newer doing broken = record {
  done = doing.done;
  act = act;
  rest = rest;
  parts = doing.acts;
  broken = subst (λ w. IsBrokenOff second machine act w next (old ++ (acts_did second machine doing.done first).told) newer) doing.world
      (subst (λ what. IsBrokenOff second machine act now next what newer) doing.told broken);
}

-- an act of which nothing is told
pub told_nothing : (before whole now : List Happening) → now ≡ before → IsTold before whole now
told_nothing before whole now same = record { left = whole; is = ap (λ (l : List Happening). l ++ whole) (sym same) }

-- what holds anyhow holds where there is an error
pub on_any_err : {T E P : Type 0} (result : Result T E) → P → OnErr result P
on_any_err (Ok value) holds = tt
on_any_err (Err error) holds = holds
