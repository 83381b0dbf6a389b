-- A machine's body beside the view of an id, and what the machine's acts tell of the id.
use Rattle.std.proofs.Common.{◌≡◌, ◌+◌, ◌==◌, ◌||◌, ◌⊎◌, ℕ, Bool, true, false, List, [], ◌∷◌, Option, Some, None}
use Rattle.std.specs.List.{list_any}
use Rattle.line_base.specs.declared.states.Seen.{Seen}
use Rattle.line_base.specs.declared.states.SensorEvent.{SensorEvent}
use Rattle.line_base.specs.declared.states.SensorEvent.TheVariants as event
use Rattle.line_base.specs.declared.states.Side.TheVariants.{Entry, Exit}
use Rattle.board_record.specs.declared.sensed.Sensed.{Sensed}
use Rattle.handover_in.specs.Own.{is_taken}
use Rattle.handover_in.specs.State.{own_of_phase}
use Rattle.node_core.specs.Own.{own_of}
use Rattle.node_core.specs.declared.act.Act.{Act}
use Rattle.node_core.specs.declared.act.Act.TheVariants as acts
use Rattle.node_core.specs.declared.lane.Body.{Body}
use Rattle.law_custody.specs.Place.{Place, is_away, is_upstream}
use Rattle.law_custody.specs.Words.{events_at}
use Rattle.standings.specs.Marks.{has_id, is_held}
use Rattle.line_report.specs.declared.happening.Happening.TheVariants as happenings
use Rattle.law_history.proofs.Stepping.{IsJustStarted}
use Rattle.law_supervisor_replay.specs.Replay.{Told, nothing_told, with_happening}
use Rattle.law_supervisor_replay.proofs.Since.{since_with}
use Rattle.law_supervisor_replay.proofs.Views.{IsFrom, View}

-- ---- what a machine's acts tell of an id

abbrev pub told_acts : ℕ → ℕ → List Act → Told → Told
told_acts id machine [] told = told
told_acts id machine (act ∷ others) told =
    told_acts id machine others (with_happening id (happenings.Done machine act) told)

abbrev pub left_acts : ℕ → ℕ → ℕ → List Act → Bool → Bool
left_acts gap id machine [] left = left
left_acts gap id machine (act ∷ others) left =
    left_acts gap id machine others (since_with gap id (happenings.Done machine act) left)

-- ---- a machine, as a view has it

abbrev pub keeps_it : ℕ → Body → Bool
keeps_it id body = has_id id (own_of body).kept

abbrev pub holds_it : ℕ → Body → Bool
holds_it id body = is_held id (own_of body).held

abbrev pub takes_it : ℕ → Body → Bool
takes_it id body = is_held id (own_of body).taking

abbrev pub is_gone_own : Option Seen → Bool
is_gone_own None = false
is_gone_own (Some own) = is_taken own

abbrev pub is_taking_out : SensorEvent → Bool
is_taking_out event.Taken = true
is_taking_out _ = false

abbrev pub is_leaving_event : SensorEvent → Bool
is_leaving_event event.Left = true
is_leaving_event _ = false

-- its entry knows that the board of its handover was taken out, or will read it
abbrev pub misses_it : Body → List Sensed → Bool
misses_it body unread = is_gone_own (own_of_phase body.intake.phase) || list_any is_taking_out (events_at Entry unread)

-- its exit will read that a board has left
abbrev pub will_leave : List Sensed → Bool
will_leave unread = list_any is_leaving_event (events_at Exit unread)

-- machine j + 1 of a view is this one
pub record IsHere (id j : ℕ) (body : Body) (unread : List Sensed) (v : View) : Type 0 where
  pub kept : v.kept (j + 1) ≡ keeps_it id body
  pub held : v.held (j + 1) ≡ holds_it id body
  pub taken : v.taken (j + 1) ≡ takes_it id body
  pub leaving : v.leaving (j + 1) ≡ will_leave unread
  pub missing : v.missing (j + 1) ≡ misses_it body unread

-- ---- by hand

abbrev pub takes_out : ℕ → Act → Bool
takes_out id (acts.Removes other) = other == id
takes_out id (acts.Replaces old new) = old == id
takes_out id (acts.Gives other to) = other == id
takes_out id _ = false

abbrev pub brings_in : ℕ → Act → Bool
brings_in id (acts.Inserts other) = other == id
brings_in id (acts.Replaces old new) = new == id
brings_in id (acts.Gets other) = other == id
brings_in id _ = false

-- ---- what is asked of the line around the machine, of a place of the board of the handover above it

pub record IsBeside (id j : ℕ) (place : Place) (v : View) (told : Told) (left : ℕ → Bool) (body now : Body) (made : List Act) (off : Bool) : Type 0 where
  -- what goes by hand was kept
  pub hand : list_any (takes_out id) made ≡ true → keeps_it id body ≡ true
  -- a board that is upstream was not taken out, has not left, and is kept or held above, or nowhere
  pub upstream : is_upstream place ≡ true → v.taken (j + 1) ≡ true
      → (v.missing (j + 1) ≡ false) × ((v.held j ≡ true → v.leaving j ≡ false) × (v.held j ≡ false → v.off ≡ false → v.kept j ≡ true))
  pub away : is_away place ≡ true → v.taken (j + 1) ≡ true → v.missing (j + 1) ≡ true
  -- what settled, so that the intake holds it no more or holds it anew, the one above has not, and
  -- it is on the floor
  pub alone : v.taken (j + 1) ≡ true → (takes_it id now ≡ false) ⊎ IsJustStarted now.intake.phase
      → (keeps_it id now ≡ true) ⊎ (holds_it id now ≡ true)
      → (v.kept j ≡ false) × ((v.held j ≡ false) × (off ≡ false))
  -- nothing is known of an id that comes by hand
  pub new : list_any (brings_in id) made ≡ true
      → (told ≡ nothing_told) × (((i : ℕ) → left i ≡ false) × (((i : ℕ) → v.kept i ≡ false) × (((i : ℕ) → v.held i ≡ false) × ((i : ℕ) → v.taken i ≡ false))))
  pub out : list_any (takes_out id) made ≡ true → off ≡ true
  pub still : list_any (takes_out id) made ≡ false → list_any (brings_in id) made ≡ false → off ≡ v.off
  -- a start is of a board that is on the floor where the outlet above holds it
  pub there : takes_it id now ≡ true → IsJustStarted now.intake.phase → v.held j ≡ true → off ≡ false
  -- and of one that the machine above keeps or holds, or that is off the floor
  pub from : takes_it id now ≡ true → IsJustStarted now.intake.phase → IsFrom j v off
