-- The parts of a machine's step: what it reads, what it meets, and what becomes of a board in each of them.
use Rattle.std.proofs.Common.{◌≡◌, ◌+◌, ◌⊎◌, ℕ, Bool, true, false, List}
use Rattle.std.specs.List.{list_any}
use Rattle.board_record.specs.declared.sensed.Sensed.{Sensed}
use Rattle.hermes_vertical.specs.declared.message.Passing.TheVariants.{ByHand, Transferred}
use Rattle.node_core.specs.declared.act.Act.{Act}
use Rattle.node_core.specs.declared.lane.Body.{Body}
use Rattle.law_custody.specs.Place.{Place, is_away, is_upstream}
use Rattle.law_supervisor_replay.specs.Replay.{At, Told, departs}
use Rattle.law_supervisor_replay.proofs.Bodies.{brings_in, holds_it, keeps_it, left_acts, takes_it, takes_out, told_acts, will_leave}

-- the machine keeps the board or its outlet holds it
abbrev pub HasIt : ℕ → Body → Type 0
HasIt id body = (keeps_it id body ≡ true) ⊎ (holds_it id body ≡ true)

pub record HasNot (id : ℕ) (body : Body) : Type 0 where
  pub kept : keeps_it id body ≡ false
  pub held : holds_it id body ≡ false

pub data HasStill (id : ℕ) (body now : Body) : Type 0 where
  has_not : HasNot id body → HasNot id now → HasStill id body now
  has_still : HasIt id body → HasIt id now → HasStill id body now

-- acts change what is told of the board so, and say of no gap that it left or was started
pub record Says (id j : ℕ) (all : List Act) (f : Told → Told) : Type 0 where
  pub told : (told : Told) → told_acts id (j + 1) all told ≡ f told
  pub left : (gap : ℕ) (left : Bool) → left_acts gap id (j + 1) all left ≡ left

-- they say that it left machine j + 1
pub record SaysLeft (id j : ℕ) (all : List Act) : Type 0 where
  pub told : (told : Told) → told_acts id (j + 1) all told ≡ departs (j + 1) Transferred told
  pub left : (left : Bool) → left_acts (j + 1) id (j + 1) all left ≡ true
  pub others : (gap : ℕ) (left : Bool) → (gap ≡ j + 1 → ⊥) → left_acts gap id (j + 1) all left ≡ left

-- as it reads its events: `all` are the acts with what is told behind them; `place` that of the handover above
pub data ReadFares (id j : ℕ) (unread : List Sensed) (place : Place) (body now : Body) (all : List Act) : Type 0 where
  read_so : HasStill id body now → takes_it id now ≡ takes_it id body → Says id j all (λ told. told)
      → ReadFares id j unread place body now all
  read_leaves : holds_it id body ≡ true → will_leave unread ≡ true → HasNot id now
      → takes_it id now ≡ takes_it id body → SaysLeft id j all → ReadFares id j unread place body now all
  read_lost : holds_it id body ≡ true → HasNot id now → takes_it id now ≡ takes_it id body
      → Says id j all (departs (j + 1) ByHand) → ReadFares id j unread place body now all
  read_settles : takes_it id body ≡ true → takes_it id now ≡ false → HasIt id now
      → Says id j all (λ told. record told { place = At (j + 1) }) → ReadFares id j unread place body now all
  read_missing : takes_it id body ≡ true → takes_it id now ≡ false → is_away place ≡ true
      → HasStill id body now → Says id j all (departs (j + 1) ByHand) → ReadFares id j unread place body now all
  read_upstream : takes_it id body ≡ true → takes_it id now ≡ false → is_upstream place ≡ true
      → HasStill id body now → Says id j all (λ told. told) → ReadFares id j unread place body now all

-- as it meets an event
pub data MetFares (id j : ℕ) (place : Place) (body now : Body) (made all : List Act) : Type 0 where
  met_so : HasStill id body now → takes_it id now ≡ takes_it id body → Says id j all (λ told. told)
      → list_any (takes_out id) made ≡ false → list_any (brings_in id) made ≡ false
      → MetFares id j place body now made all
  met_settles : takes_it id body ≡ true → takes_it id now ≡ false → HasIt id now
      → Says id j all (λ told. record told { place = At (j + 1) })
      → list_any (takes_out id) made ≡ false → list_any (brings_in id) made ≡ false
      → MetFares id j place body now made all
  met_missing : takes_it id body ≡ true → takes_it id now ≡ false → is_away place ≡ true
      → HasStill id body now → Says id j all (departs (j + 1) ByHand)
      → list_any (takes_out id) made ≡ false → list_any (brings_in id) made ≡ false
      → MetFares id j place body now made all
  met_upstream : takes_it id body ≡ true → takes_it id now ≡ false → is_upstream place ≡ true
      → HasStill id body now → Says id j all (λ told. told)
      → list_any (takes_out id) made ≡ false → list_any (brings_in id) made ≡ false
      → MetFares id j place body now made all
  met_new : list_any (brings_in id) made ≡ true → keeps_it id now ≡ true → takes_it id now ≡ takes_it id body
      → Says id j all (λ told. record told { place = At (j + 1) }) → MetFares id j place body now made all
  met_removed : list_any (takes_out id) made ≡ true → keeps_it id body ≡ true → HasNot id now
      → takes_it id now ≡ takes_it id body
      → Says id j all (departs (j + 1) ByHand) → MetFares id j place body now made all
