-- What the marks of one id along a line have to do with what a supervisor was told of it: of functions of the machines'
-- numbers, with no line in it.
use Rattle.std.proofs.Common.{◌≡◌, ◌+◌, ◌≢◌, ◌≤◌, ◌⊎◌, ◌==◌, if◌then◌else◌, ℕ, Bool, true, false}
use Rattle.hermes_vertical.specs.declared.message.Passing.TheVariants.{ByHand, Transferred}
use Rattle.law_supervisor_replay.specs.Replay.{At, Told, Way, departs, nothing_told}

-- an id: which machines keep it, hold it at their outlet and at their intake; whose exit has not read that a board has left;
-- whose entry has read that its board was taken out, or will read it; and whether no board of this id is on the floor
pub record View : Type 0 where
  pub kept : ℕ → Bool
  pub held : ℕ → Bool
  pub taken : ℕ → Bool
  pub leaving : ℕ → Bool
  pub missing : ℕ → Bool
  pub off : Bool

-- what holds between them
pub record Holds (v : View) (told : Told) (left : ℕ → Bool) : Type 0 where
  pub kept_at : (j : ℕ) → v.kept j ≡ true → told.place ≡ At j
  pub held_at : (j : ℕ) → v.held j ≡ true → told.place ≡ At j
  pub at : (j : ℕ) → told.place ≡ At j → v.kept j ≡ false → v.held j ≡ true
  pub way : (j : ℕ) → told.place ≡ Way j → (left j ≡ true) × (v.taken (j + 1) ≡ true)
  pub on_way : (j : ℕ) → left j ≡ true → v.taken (j + 1) ≡ true → ((i : ℕ) → v.kept i ≡ false)
      → ((i : ℕ) → v.held i ≡ false) → told.place ≡ Way j
  -- a board that is lost is nowhere, and no machine starts it while the one above has it
  pub off : told.lost ≡ true → v.off ≡ true
  pub lost : (j : ℕ) → told.lost ≡ true → (v.kept j ≡ true) ⊎ (v.held j ≡ true)
      → v.taken (j + 1) ≡ false
  -- a board that has left is taken below, unless it is lost
  pub leaves : (j : ℕ) → v.held j ≡ true → v.leaving j ≡ true → told.lost ≡ false
      → v.taken (j + 1) ≡ true
  -- of a board that is on its way and nowhere the entry knows that it was taken out, or will
  pub on_floor : (j : ℕ) → told.place ≡ Way j → v.off ≡ true → v.missing (j + 1) ≡ true
  -- what has left is with the machine above no more
  pub over : (j : ℕ) → left j ≡ true → v.taken (j + 1) ≡ true
      → (v.kept j ≡ false) × (v.held j ≡ false)
  -- a board that has left is at no machine above the gap, and taken by none of their intakes, but
  -- where it is off the floor
  pub behind : (k : ℕ) → left k ≡ true → (i : ℕ) → i ≤ k
      → (v.kept i ≡ false) × ((v.held i ≡ false) × (v.taken i ≡ true → v.off ≡ true))

-- the marks of the id have one standing
pub record IsSole (v : View) : Type 0 where
  pub one_taken : (i j : ℕ) → v.taken i ≡ true → v.taken j ≡ true → i ≡ j
  pub kept_above : (i j : ℕ) → v.kept i ≡ true → v.taken j ≡ true → j ≡ i + 1
  pub held_above : (i j : ℕ) → v.held i ≡ true → v.taken j ≡ true → j ≡ i + 1
  pub apart : (j : ℕ) → v.kept j ≡ true → v.held j ≡ false

-- where its board is
pub record IsPlaced (v : View) : Type 0 where
  pub beyond : (j : ℕ) → v.held j ≡ true → v.leaving j ≡ true → v.off ≡ false
      → v.taken (j + 1) ≡ true
  pub nowhere : (j : ℕ) → v.taken (j + 1) ≡ true → v.missing (j + 1) ≡ true → v.off ≡ true
  pub will_see : (j : ℕ) → v.held j ≡ true → v.leaving j ≡ true → v.taken (j + 1) ≡ true
      → v.off ≡ true → v.missing (j + 1) ≡ true

-- ---- what one machine does: machine j + 1, below machine j

-- nothing changes at the other machines
pub record IsApart (j : ℕ) (v w : View) : Type 0 where
  pub kept : (i : ℕ) → i ≢ j + 1 → w.kept i ≡ v.kept i
  pub held : (i : ℕ) → i ≢ j + 1 → w.held i ≡ v.held i
  pub taken : (i : ℕ) → i ≢ j + 1 → w.taken i ≡ v.taken i
  pub leaving : (i : ℕ) → i ≢ j + 1 → w.leaving i ≡ v.leaving i
  pub missing : (i : ℕ) → i ≢ j + 1 → w.missing i ≡ v.missing i
  -- and the machine has read all events
  pub read : w.leaving (j + 1) ≡ false

-- the machine has the board as before, in its list or at its outlet
pub data HasAsBefore (j : ℕ) (v w : View) : Type 0 where
  has_none : v.kept (j + 1) ≡ false → v.held (j + 1) ≡ false → w.kept (j + 1) ≡ false
      → w.held (j + 1) ≡ false → HasAsBefore j v w
  kept_or_held : (v.kept (j + 1) ≡ true) ⊎ (v.held (j + 1) ≡ true)
      → (w.kept (j + 1) ≡ true) ⊎ (w.held (j + 1) ≡ true) → HasAsBefore j v w

-- and its intake as before; and if it holds a board that was taken out, it knows it now
pub record TakesAsBefore (j : ℕ) (v w : View) : Type 0 where
  pub taken : w.taken (j + 1) ≡ v.taken (j + 1)
  pub missing : v.taken (j + 1) ≡ true → w.missing (j + 1) ≡ v.missing (j + 1)

pub record HasNone (j : ℕ) (w : View) : Type 0 where
  pub kept : w.kept (j + 1) ≡ false
  pub held : w.held (j + 1) ≡ false

-- a gap's flag is set, or cleared
pub record SetAt (j : ℕ) (on : Bool) (left left2 : ℕ → Bool) : Type 0 where
  pub here : left2 j ≡ on
  pub there : (i : ℕ) → i ≢ j → left2 i ≡ left i

abbrev pub Same : (ℕ → Bool) → (ℕ → Bool) → Type 0
Same left left2 = (i : ℕ) → left2 i ≡ left i

-- what becomes of the board in a step, but for a start at its end
pub data Fares (j : ℕ) (v w : View) (told told2 : Told) (left left2 : ℕ → Bool) : Type 0 where
  fares_so : HasAsBefore j v w → TakesAsBefore j v w → w.off ≡ v.off → told2 ≡ told
      → Same left left2 → Fares j v w told told2 left left2
  fares_leaves : v.held (j + 1) ≡ true → v.leaving (j + 1) ≡ true → HasNone j w
      → TakesAsBefore j v w → w.off ≡ v.off → told2 ≡ departs (j + 1) Transferred told
      → SetAt (j + 1) true left left2 → Fares j v w told told2 left left2
  fares_lost : v.held (j + 1) ≡ true → HasNone j w → TakesAsBefore j v w → w.off ≡ v.off
      → told2 ≡ departs (j + 1) ByHand told → Same left left2 → Fares j v w told told2 left left2
  -- it settles: it is on the floor, and the machine above has nothing of it
  fares_settles : v.taken (j + 1) ≡ true → v.kept j ≡ false → v.held j ≡ false
      → v.off ≡ false → w.taken (j + 1) ≡ false → (w.kept (j + 1) ≡ true) ⊎ (w.held (j + 1) ≡ true)
      → w.off ≡ v.off → told2 ≡ record told { place = At (j + 1) } → Same left left2
      → Fares j v w told told2 left left2
  -- it is dropped, since it was taken out
  fares_missing : v.taken (j + 1) ≡ true → v.missing (j + 1) ≡ true → HasAsBefore j v w
      → w.taken (j + 1) ≡ false → w.off ≡ v.off → told2 ≡ departs (j + 1) ByHand told
      → Same left left2 → Fares j v w told told2 left left2
  -- it is dropped, since it is upstream: then it has not left, and is kept there, held there or nowhere
  fares_upstream : v.taken (j + 1) ≡ true → v.missing (j + 1) ≡ false
      → (v.held j ≡ true → v.leaving j ≡ false)
      → (v.held j ≡ false → v.off ≡ false → v.kept j ≡ true) → HasAsBefore j v w
      → w.taken (j + 1) ≡ false → w.off ≡ v.off → told2 ≡ told → Same left left2
      → Fares j v w told told2 left left2
  -- it comes by hand: nothing was known of it
  fares_new : told ≡ nothing_told → ((i : ℕ) → left i ≡ false) → ((i : ℕ) → v.kept i ≡ false)
      → ((i : ℕ) → v.held i ≡ false) → ((i : ℕ) → v.taken i ≡ false)
      → w.kept (j + 1) ≡ true → w.taken (j + 1) ≡ false
      → told2 ≡ record told { place = At (j + 1) } → Same left left2
      → Fares j v w told told2 left left2
  -- it goes by hand
  fares_removed : v.kept (j + 1) ≡ true → HasNone j w → TakesAsBefore j v w → w.off ≡ true
      → told2 ≡ departs (j + 1) ByHand told → Same left left2 → Fares j v w told told2 left left2

-- a view with what one machine has: it has read all events
abbrev pub put : ℕ → Bool → (ℕ → Bool) → ℕ → Bool
put machine here others i = if i == machine then here else others i

abbrev pub with_here : ℕ → Bool → Bool → Bool → Bool → Bool → View → View
with_here machine kept held taken missing off v = record {
  kept = put machine kept v.kept;
  held = put machine held v.held;
  taken = put machine taken v.taken;
  leaving = put machine false v.leaving;
  missing = put machine missing v.missing;
  off = off;
}

-- two views are one, machine by machine
pub record IsSame (v w : View) : Type 0 where
  pub kept : (i : ℕ) → w.kept i ≡ v.kept i
  pub held : (i : ℕ) → w.held i ≡ v.held i
  pub taken : (i : ℕ) → w.taken i ≡ v.taken i
  pub leaving : (i : ℕ) → w.leaving i ≡ v.leaving i
  pub missing : (i : ℕ) → w.missing i ≡ v.missing i
  pub off : w.off ≡ v.off

-- the machine above has the board, or it is off the floor
abbrev pub IsFrom : ℕ → View → Bool → Type 0
IsFrom j v off = (v.kept j ≡ true) ⊎ ((v.held j ≡ true) ⊎ (off ≡ true))

-- a start at the end of the step, of a board that is on the floor where the outlet above holds it
pub record IsStarted (j : ℕ) (v w : View) (left left2 : ℕ → Bool) : Type 0 where
  pub none : v.taken (j + 1) ≡ false
  pub taken : w.taken (j + 1) ≡ true
  pub others : (i : ℕ) → i ≢ j + 1 → w.taken i ≡ v.taken i
  pub kept : (i : ℕ) → w.kept i ≡ v.kept i
  pub held : (i : ℕ) → w.held i ≡ v.held i
  pub leaving : (i : ℕ) → w.leaving i ≡ v.leaving i
  pub missing : (i : ℕ) → i ≢ j + 1 → w.missing i ≡ v.missing i
  pub off : w.off ≡ v.off
  pub there : v.held j ≡ true → v.off ≡ false
  pub from : IsFrom j v v.off
  pub cleared : SetAt j false left left2

-- ---- what a move on the floor does

pub record IsMoved (v w : View) : Type 0 where
  pub kept : (i : ℕ) → w.kept i ≡ v.kept i
  pub held : (i : ℕ) → w.held i ≡ v.held i
  pub taken : (i : ℕ) → w.taken i ≡ v.taken i
  pub off : v.off ≡ true → w.off ≡ true
  -- the board that leaves is that of the outlet there
  pub leaving : (i : ℕ) → w.held i ≡ true → w.leaving i ≡ true
      → (v.leaving i ≡ true) ⊎ (w.off ≡ false)
  pub missing : (i : ℕ) → v.missing i ≡ true → w.missing i ≡ true
  -- a board that is taken out of a gap is that of the outlet there, or the entry below it sees it
  pub taken_out : v.off ≡ false → w.off ≡ true
      → (i : ℕ) × ((v.held i ≡ true) ⊎ ((v.taken (i + 1) ≡ true) × (w.missing (i + 1) ≡ true)))
