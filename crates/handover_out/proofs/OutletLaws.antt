use Rattle.std.proofs.Common.{◌≡◌, ◌++◌, ◌∷◌, [], ◌∙◌, ap, sym, ℕ, Bool, true, false, List, Option, Some, None, IfSome, refl, append_assoc, unwrap_or, is_some, ◌&&◌, eq-eqb, ◌↔◌, IsSome}
use Rattle.line_base.specs.declared.states.Transfer.{Transfer}
use Rattle.line_base.specs.declared.states.SensorEvent.{SensorEvent}
use Rattle.line_base.specs.declared.states.SensorEvent.TheVariants as event
use Rattle.board_record.specs.declared.record.Record.{Record}
use Rattle.transfer_state.specs.Outlet.{out_ends}
use Rattle.handover_out.specs.declared.act.OutAct.{OutAct}
use Rattle.handover_out.specs.declared.act.OutDeed.TheVariants.{Returns}
use Rattle.handover_out.specs.declared.input.OutInput.{OutInput}
use Rattle.handover_out.specs.declared.input.OutInput.TheVariants as input
use Rattle.handover_out.specs.declared.act.OutSend.{OutSend}
use Rattle.handover_out.specs.declared.phase.Phase.{Phase}
use Rattle.handover_out.specs.declared.phase.Phase.TheVariants as phase
use Rattle.handover_out.specs.State.{OutState, at_rest, held, would_open}
use Rattle.handover_out.specs.Act.{drive_off, returns}
use Rattle.handover_out.specs.Row.{OutRow, outlet_row, row_if, sensed_row}
use Rattle.handover_out.specs.Given.{IsGiven, breach_of}
use Rattle.handover_out.specs.Run.{stay, step, after_all}
use Rattle.handover_out.specs.Records.{list_of, goes_in, comes_out, all_in, all_out, held_by, held_by_all, id_of}
use Rattle.handover_out.specs.Offers.{is_opening, opens_at, offered_after, ready_after, touched_after}
use Rattle.handover_out.specs.Sensors.{between_after, between_after_all, IsSensed, own_of, deed_of_end, is_moving, drive_after_all}
use Rattle.handover_out.specs.Table.{state_of, IsOutletRow, offers, opens, left_moving, left_stuck, left_stopped, left_unlinked, taken_moving, taken_stuck, taken_stopped, taken_unlinked, back_stuck, back_stopped, back_unlinked, stop_home, fault_home, closed_home}
use Rattle.handover_out.proofs.Rows.{row_is, rows_of, each_step, by_row, met_row}

-- Records: what was held and what goes in is what comes out and what is held after it

abbrev Balances : OutState → OutInput → OutRow → Type 0
Balances s input row =
    list_of (held s) ++ goes_in row.act.deed input ≡ comes_out row.act.deed s row.act ++ list_of (held row.after)

stay_balances : (board : Option Record) → list_of board ++ [] ≡ list_of board
stay_balances None = refl
stay_balances (Some _) = refl

row_balances : (s : OutState) (input : OutInput) (row : OutRow) → IsOutletRow s input row → Balances s input row
row_balances _ _ _ offers = refl
row_balances _ _ _ _ = refl

step_balances : (s : OutState) (input : OutInput) → Balances s input (step s input)
step_balances = each_step Balances row_balances (λ s input. stay_balances (held s))

joined : (a b c d e f g : List Record) → a ++ b ≡ c ++ d → d ++ e ≡ f ++ g → a ++ (b ++ e) ≡ (c ++ f) ++ g
joined a b c d e f g first rest =
    sym (append_assoc a b e) ∙ ap (λ x. x ++ e) first ∙ append_assoc c d e ∙ ap (λ x. c ++ x) rest ∙ sym (append_assoc c f g)

pub records_balance : (s : OutState) (inputs : List OutInput)
    → list_of (held s) ++ all_in s inputs ≡ all_out s inputs ++ list_of (held (after_all s inputs))
records_balance s [] = stay_balances (held s)
records_balance s (input ∷ inputs) =
    joined (list_of (held s)) _ _ _ _ _ _ (step_balances s input) (records_balance (step s input).after inputs)

-- Holding: what is held follows from the deeds alone

abbrev Holds : OutState → OutInput → OutRow → Type 0
Holds s input row = id_of (held row.after) ≡ held_by (id_of (held s)) row.act.deed

row_holds : (s : OutState) (input : OutInput) (row : OutRow) → IsOutletRow s input row → Holds s input row
row_holds _ _ _ offers = refl
row_holds _ _ _ _ = refl

step_holds : (s : OutState) (input : OutInput) → Holds s input (step s input)
step_holds = each_step Holds row_holds (λ s input. refl)

pub holds_by_deeds : (s : OutState) (inputs : List OutInput)
    → id_of (held (after_all s inputs)) ≡ held_by_all (id_of (held s)) s inputs
holds_by_deeds s [] = refl
holds_by_deeds s (input ∷ inputs) =
    holds_by_deeds (step s input).after inputs ∙ ap (λ id. held_by_all id (step s input).after inputs) (step_holds s input)

-- Openings

abbrev Opens : OutState → OutInput → OutRow → Type 0
Opens s input row = is_opening row.act.deed ≡ opens_at s input

row_opens : (s : OutState) (input : OutInput) (row : OutRow) → IsOutletRow s input row → Opens s input row
row_opens _ _ _ (opens {mine = mine} {id = id} same) = sym (eq-eqb mine id same)
row_opens _ _ _ _ = refl

opening_test : (test : Bool) (s after : OutState) (act : OutAct) → is_opening act.deed ≡ true
    → is_opening (unwrap_or (row_if test after act) (stay s)).act.deed ≡ test
opening_test true s after act opening = opening
opening_test false s after act _ = refl

opens_start : (phase : Phase) (o t : Option ℕ) (r : Bool) (id : ℕ) (board : Record)
    → is_opening (step (state_of phase o t r) (input.Start id (Some board))).act.deed ≡ would_open (state_of phase o t r) id
opens_start phase.Idle o t r id board = opening_test (would_open (state_of phase.Idle o t r) id) _ _ _ refl
opens_start _ _ _ _ _ _ = refl

pub opens_exactly : (s : OutState) (input : OutInput) → is_opening (step s input).act.deed ≡ opens_at s input
opens_exactly s (input.Start id (Some board)) = opens_start s.phase s.offered s.touched s.ready id board
opens_exactly s input = by_row Opens s input (outlet_row s input) (row_opens s input) refl (rows_of s input)

-- Offers and readiness

abbrev pub Clears : OutState → OutInput → OutRow → Type 0
Clears s input row = (row.after.offered ≡ offered_after s.offered input) × (row.after.ready ≡ ready_after s.ready input) × (row.after.touched ≡ touched_after s input row.after)

pub row_clears : (s : OutState) (input : OutInput) (row : OutRow) → IsOutletRow s input row → Clears s input row
row_clears _ _ _ offers = (refl, refl, refl)
row_clears _ _ _ _ = (refl, refl, refl)

pub clears_exactly : (s : OutState) (input : OutInput) (row : OutRow) → outlet_row s input ≡ Some row → Clears s input row
clears_exactly s input row same = row_clears s input row (row_is s input row same)

-- The drive

abbrev Drives : OutState → OutInput → OutRow → Type 0
Drives s input row = is_moving row.after.phase ≡ unwrap_or row.act.drive (is_moving s.phase)

row_drives : (s : OutState) (input : OutInput) (row : OutRow) → IsOutletRow s input row → Drives s input row
row_drives _ _ _ offers = refl
row_drives _ _ _ _ = refl

step_drives : (s : OutState) (input : OutInput) → Drives s input (step s input)
step_drives = each_step Drives row_drives (λ s input. refl)

pub drive_runs : (s : OutState) (inputs : List OutInput)
    → is_moving (after_all s inputs).phase ≡ drive_after_all (is_moving s.phase) s inputs
drive_runs s [] = refl
drive_runs s (input ∷ inputs) =
    drive_runs (step s input).after inputs ∙ ap (λ on. drive_after_all on (step s input).after inputs) (step_drives s input)

-- What the sensors say

-- the board that is held lies between the machines
abbrev lies_between : Phase → Bool
lies_between (phase.Moving _ begun) = begun
lies_between (phase.Stuck _ _ _) = true
lies_between _ = false

abbrev holding : OutState → Bool
holding s = is_some (held s)

abbrev Tracks : OutState → OutInput → OutRow → Type 0
Tracks s input row = lies_between row.after.phase ≡ holding row.after && between_after (lies_between s.phase) input row.act.deed

row_tracks : (s : OutState) (input : OutInput) (row : OutRow) → IsOutletRow s input row → Tracks s input row
row_tracks _ _ _ offers = refl
row_tracks _ _ _ _ = refl

-- what the events told is where the board lies, while one is held
abbrev Agrees : Bool → OutState → Type 0
Agrees between s = lies_between s.phase ≡ holding s && between

-- an event tells the same, whether or not what was told before counts
abbrev Forgets : Bool → OutState → OutInput → OutRow → Type 0
Forgets between s input row = holding row.after && between_after (holding s && between) input row.act.deed ≡ holding row.after && between_after between input row.act.deed

row_forgets : (between : Bool) (s : OutState) (input : OutInput) (row : OutRow) → IsOutletRow s input row → Forgets between s input row
row_forgets _ _ _ _ offers = refl
row_forgets _ _ _ _ _ = refl

has_row : (phase : Phase) (o t : Option ℕ) (r : Bool) (event : SensorEvent) → is_some (sensed_row event (state_of phase o t r)) ≡ true
has_row (phase.Moving _ true) o t r event.Begun = refl
has_row (phase.Moving _ false) o t r event.Begun = refl
has_row phase.Idle o t r event.Begun = refl
has_row (phase.Moving _ _) o t r event.Left = refl
has_row phase.Idle o t r event.Left = refl
has_row _ o t r event.Full = refl
has_row (phase.Moving _ true) o t r event.Back = refl
has_row (phase.Moving _ false) o t r event.Back = refl
has_row phase.Idle o t r event.Back = refl
has_row (phase.Moving _ true) o t r event.Taken = refl
has_row (phase.Moving _ false) o t r event.Taken = refl
has_row phase.Idle o t r event.Taken = refl
has_row _ _ _ _ _ = refl

abbrev Follows : Bool → OutState → OutInput → OutRow → Type 0
Follows between s input row = Agrees between s → Agrees (between_after between input row.act.deed) row.after

row_follows : (between : Bool) (s : OutState) (input : OutInput) (row : OutRow) → IsOutletRow s input row → Follows between s input row
row_follows between s input row shape agrees =
    let tracks = row_tracks s input row shape in
    (rw agrees at tracks) ∙ row_forgets between s input row shape

step_follows : (between : Bool) (s : OutState) (input : OutInput) → Follows between s input (step s input)
step_follows between s (input.Sensed event) =
    met_row (Follows between) s (input.Sensed event) (sensed_row event s) (row_follows between s (input.Sensed event))
    (has_row s.phase s.offered s.touched s.ready event) (rows_of s (input.Sensed event))
step_follows between s input =
    by_row (Follows between) s input (outlet_row s input) (row_follows between s input) (λ agrees. agrees) (rows_of s input)

pub agrees_after_all : (between : Bool) (s : OutState) (inputs : List OutInput) → Agrees between s
    → Agrees (between_after_all between s inputs) (after_all s inputs)
agrees_after_all between s [] agrees = agrees
agrees_after_all between s (input ∷ inputs) agrees =
    agrees_after_all (between_after between input (step s input).act.deed) (step s input).after inputs (step_follows between s input agrees)

-- a deed is as the sensors have it

abbrev SensedAt : Bool → OutState → OutInput → OutRow → Type 0
SensedAt between s input row = IsSensed (holding s && between) input row.act.deed → IsSensed between input row.act.deed

row_sensed_at : (between : Bool) (s : OutState) (input : OutInput) (row : OutRow) → IsOutletRow s input row → SensedAt between s input row
row_sensed_at _ _ _ _ offers sensed = sensed
row_sensed_at _ _ _ _ _ sensed = sensed

abbrev IsRight : OutState → OutInput → OutRow → Type 0
IsRight s input row = IsSensed (lies_between s.phase) input row.act.deed

row_right : (s : OutState) (input : OutInput) (row : OutRow) → IsOutletRow s input row → IsRight s input row
row_right _ _ _ left_moving = refl
row_right _ _ _ left_stuck = refl
row_right _ _ _ left_stopped = refl
row_right _ _ _ left_unlinked = refl
row_right _ _ _ taken_moving = (refl, refl)
row_right _ _ _ taken_stuck = (refl, refl)
row_right _ _ _ taken_stopped = (refl, refl)
row_right _ _ _ taken_unlinked = (refl, refl)
row_right _ _ _ back_stuck = refl
row_right _ _ _ back_stopped = refl
row_right _ _ _ back_unlinked = refl
row_right _ _ _ (stop_home _) = refl
row_right _ _ _ fault_home = refl
row_right _ _ _ closed_home = refl
row_right _ _ _ _ = tt

abbrev Senses : Bool → OutState → OutInput → OutRow → Type 0
Senses between s input row = Agrees between s → IsSensed between input row.act.deed

row_senses : (between : Bool) (s : OutState) (input : OutInput) (row : OutRow) → IsOutletRow s input row → Senses between s input row
row_senses between s input row shape agrees =
    row_sensed_at between s input row shape (let right = row_right s input row shape in rw agrees at right)

step_senses : (between : Bool) (s : OutState) (input : OutInput) → Senses between s input (step s input)
step_senses between = each_step (Senses between) (row_senses between) (λ s input agrees. tt)

pub deeds_are_sensed : (inputs : List OutInput) (input : OutInput)
    → IsSensed (between_after_all false at_rest inputs) input (step (after_all at_rest inputs) input).act.deed
deeds_are_sensed inputs input =
    step_senses (between_after_all false at_rest inputs) (after_all at_rest inputs) input (agrees_after_all false at_rest inputs refl)

-- a close keeps the record of a board between the machines

closes_between : (phase : Phase) (o t : Option ℕ) (r between : Bool) → Agrees between (state_of phase o t r) → between ≡ true
    → ((step (state_of phase o t r) input.Closed).act.deed ≡ None) × (held (step (state_of phase o t r) input.Closed).after ≡ held (state_of phase o t r))
closes_between (phase.Moving board false) o t r between agrees lies = cc
closes_between (phase.Moving board true) o t r between agrees lies = (refl, refl)
closes_between (phase.Stuck board l p) o t r between agrees lies = (refl, refl)
closes_between phase.Idle o t r between agrees lies = (refl, refl)
closes_between (phase.Ended mine) o t r between agrees lies = (refl, refl)

pub close_keeps : (inputs : List OutInput) → between_after_all false at_rest inputs ≡ true
    → ((step (after_all at_rest inputs) input.Closed).act.deed ≡ None) × (held (step (after_all at_rest inputs) input.Closed).after ≡ held (after_all at_rest inputs))
close_keeps inputs lies =
    let s = after_all at_rest inputs in
    closes_between s.phase s.offered s.touched s.ready _ (agrees_after_all false at_rest inputs refl) lies

-- the end of a handover follows from the outlet's own sensors

home_deed : (test : Bool) (s after : OutState) (board : Record) (send : Option OutSend) (drive : Option Bool) → test ≡ true
    → (unwrap_or (row_if test after (returns board send drive)) (stay s)).act.deed ≡ Some (Returns board.id)
home_deed true _ _ _ _ _ _ = refl
home_deed false _ _ _ _ _ h = cc

between_deed : (test : Bool) (s after : OutState) → (unwrap_or (row_if test after drive_off) (stay s)).act.deed ≡ None
between_deed true _ _ = refl
between_deed false _ _ = refl

pub stop_ends : (board : Record) (begun : Bool) (o t : Option ℕ) (r : Bool) (said : Transfer)
    → (step (state_of (phase.Moving board begun) o t r) (input.Stop said board.id)).act.deed ≡ deed_of_end (out_ends (own_of begun) said) board.id
stop_ends board false o t r said = home_deed _ _ _ _ _ _ (eq-eqb board.id board.id refl)
stop_ends board true o t r said = between_deed _ _ _

pub fault_ends : (board : Record) (begun : Bool) (o t : Option ℕ) (r : Bool) (said : Transfer)
    → (step (state_of (phase.Moving board begun) o t r) input.Fault).act.deed ≡ deed_of_end (out_ends (own_of begun) said) board.id
fault_ends board false o t r said = refl
fault_ends board true o t r said = refl

pub close_ends : (board : Record) (begun : Bool) (o t : Option ℕ) (r : Bool) (said : Transfer)
    → (step (state_of (phase.Moving board begun) o t r) input.Closed).act.deed ≡ deed_of_end (out_ends (own_of begun) said) board.id
close_ends board false o t r said = refl
close_ends board true o t r said = refl

-- what is given is what has a row

given_of : (phase : Phase) (o t : Option ℕ) (r : Bool) (input : OutInput) → breach_of input ≡ None
    → IsSome (outlet_row (state_of phase o t r) input) ↔ IsGiven (state_of phase o t r) input
given_of phase.Idle None t r (input.Offer id) _ = (λ _. (refl, refl), λ _. refl)
given_of phase.Idle (Some _) t r (input.Offer id) _ = (λ found. cc, λ given. cc)
given_of phase.Idle None t r input.Revoke _ = (λ found. cc, λ given. cc)
given_of phase.Idle (Some _) t r input.Revoke _ = (λ _. (refl, refl), λ _. refl)
given_of (phase.Moving _ _) o t r (input.Offer id) _ = (λ found. cc, λ given. cc)
given_of (phase.Moving _ _) o t r input.Revoke _ = (λ found. cc, λ given. cc)
given_of (phase.Stuck _ _ _) o t r (input.Offer id) _ = (λ found. cc, λ given. cc)
given_of (phase.Stuck _ _ _) o t r input.Revoke _ = (λ found. cc, λ given. cc)
given_of (phase.Ended _) o t r (input.Offer id) _ = (λ found. cc, λ given. cc)
given_of (phase.Ended _) o t r input.Revoke _ = (λ found. cc, λ given. cc)
given_of phase o t r input.MachineReady breach = cc
given_of phase o t r input.RevokeMachineReady breach = cc
given_of phase o t r (input.Start _ _) breach = cc
given_of phase o t r (input.Stop _ _) breach = cc
given_of phase o t r (input.Sensed event) _ = (λ _. tt, λ _. has_row phase o t r event)
given_of (phase.Moving _ false) o t r input.Fault _ = (λ _. tt, λ _. refl)
given_of (phase.Moving _ true) o t r input.Fault _ = (λ _. tt, λ _. refl)
given_of _ o t r input.Fault _ = (λ _. tt, λ _. refl)
given_of (phase.Moving _ false) o t r input.Closed _ = (λ _. tt, λ _. refl)
given_of (phase.Moving _ true) o t r input.Closed _ = (λ _. tt, λ _. refl)
given_of _ o t r input.Closed _ = (λ _. tt, λ _. refl)

pub given_exactly : (s : OutState) (input : OutInput) → breach_of input ≡ None → IsSome (outlet_row s input) ↔ IsGiven s input
given_exactly s input = given_of s.phase s.offered s.touched s.ready input
