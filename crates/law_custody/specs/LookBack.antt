-- What was told, looking back: the record that an outlet let go last, what an intake has heard of
-- its board, and the last start.
use Rattle.std.specs.Prelude.{Bool, List, None, Option, Some, [], false, not, true, ℕ, ◌||◌, ◌∷◌, ◌≡◌}
use Rattle.line_base.specs.declared.states.Transfer.TheVariants as transfer
use Rattle.board_record.specs.declared.record.Record.{Record}
use Rattle.handover_out.specs.State.{board_of_phase as held_out}
use Rattle.handover_out.specs.declared.act.OutDeed.{OutDeed}
use Rattle.handover_out.specs.declared.act.OutDeed.TheVariants as out_deeds
use Rattle.handover_out.specs.declared.phase.Phase.{Phase as Out}
use Rattle.handover_out.specs.declared.phase.Phase.TheVariants as out
use Rattle.handover_in.specs.declared.act.InDeed.{InDeed}
use Rattle.handover_in.specs.declared.act.InDeed.TheVariants as in_deeds
use Rattle.handover_in.specs.declared.input.InInput.{InInput}
use Rattle.handover_in.specs.declared.input.InInput.TheVariants as in_input
use Rattle.handover_in.specs.declared.phase.Phase.{Phase as In}
use Rattle.handover_in.specs.declared.phase.Phase.TheVariants as inn
use Rattle.law_custody.specs.Place.{Fresh, Home, InGap, Inside, Lost, Place, Stolen}

-- a phase in which the outlet holds a board
pub data Holding : Out → Type 0 where
  still_moving : {r : Record} {c : Bool} → Holding (out.Moving r c)
  still_stuck : {r : Record} {l s : Bool} → Holding (out.Stuck r l s)

pub data NotBeyond : Place → Type 0 where
  not_beyond_fresh : NotBeyond Fresh
  not_beyond_home : NotBeyond Home
  not_beyond_gap : NotBeyond InGap
  not_beyond_lost : NotBeyond Lost
  not_beyond_stolen : NotBeyond Stolen

-- the place, the outlet, the board, and the record that the outlet let go last: it is the board's,
-- unless the outlet holds it still or it hasn't left
pub data LetGo : Place → Out → Record → Option Record → Type 0 where
  lets_not : {p : Place} {o : Out} {r : Record} {l : Option Record} → Holding o → LetGo p o r l
  let_go : {p : Place} {o : Out} {r : Record} → LetGo p o r (Some r)
  is_not_beyond : {p : Place} {o : Out} {r : Record} {l : Option Record} → NotBeyond p
      → LetGo p o r l

-- the record let go last, after a deed of an outlet that held this one
abbrev pub let_after : Option OutDeed → Option Record → Option Record → Option Record
let_after (Some (out_deeds.Leaves _)) held l = held
let_after (Some (out_deeds.Opens _)) held l = l
let_after (Some (out_deeds.Refuses _)) held l = l
let_after (Some (out_deeds.Returns _)) held l = l
let_after (Some (out_deeds.Loses _)) held l = l
let_after None held l = l

-- what an intake has heard since its transport started: that its board has left, in the connection
-- of the handover; that this connection was closed; and a description of the upstream machine in a
-- later one
pub record Since : Type 0 where
  pub ended : Bool
  pub closed : Bool
  pub described : Bool

abbrev pub just_started : Since
just_started = record { ended = false; closed = false; described = false }

abbrev pub since_after : InInput → Since → Since
since_after in_input.Start s = just_started
since_after (in_input.Finished transfer.Complete _) s =
    record s { ended = not s.closed || s.ended }
since_after in_input.Closed s = record s { closed = true }
since_after in_input.Stand s = record s { described = s.closed }
since_after _ s = s

-- the phase says that the end was heard; that the handover's connection stands; that it was closed
abbrev pub has_heard_left : In → Bool
has_heard_left inn.Idle = false
has_heard_left (inn.Taking _ _ heard) = heard
has_heard_left (inn.Stopped _ _ None) = false
has_heard_left (inn.Stopped _ _ (Some transfer.NotStarted)) = false
has_heard_left (inn.Stopped _ _ (Some transfer.Incomplete)) = false
has_heard_left (inn.Stopped _ _ (Some transfer.Complete)) = true
has_heard_left (inn.Waiting _ _ heard) = heard

abbrev pub is_linked : In → Bool
is_linked inn.Idle = false
is_linked (inn.Taking _ _ _) = true
is_linked (inn.Stopped _ _ _) = true
is_linked (inn.Waiting _ _ _) = false

abbrev pub is_waiting : In → Bool
is_waiting inn.Idle = false
is_waiting (inn.Taking _ _ _) = false
is_waiting (inn.Stopped _ _ _) = false
is_waiting (inn.Waiting _ _ _) = true

-- and so it was
abbrev pub Recalls : In → Since → Type 0
Recalls i s = (has_heard_left i ≡ true → s.ended ≡ true) × (is_linked i ≡ true → s.closed ≡ false)
    × (is_waiting i ≡ true → s.closed ≡ true)

-- the upstream machine said that the board is the downstream machine's
pub data IsSaid : Since → Type 0 where
  by_end : {s : Since} → s.ended ≡ true → IsSaid s
  by_description : {s : Since} → s.described ≡ true → IsSaid s

-- what settles is the board of the handover: it is inside, the outlet holds nothing, and the
-- upstream machine said so
pub record Settles (o : Out) (p : Place) (r q : Record) (w : InInput) (i : In) : Type 0 where
  pub same : q ≡ r
  pub inside : p ≡ Inside
  pub free : held_out o ≡ None
  pub said : (s : Since) → Recalls i s → IsSaid (since_after w s)

-- the last start that an entry said, while the exit above it has neither opened nor refused it and
-- it has settled nothing; and whether the board was dropped since
abbrev pub asked_after : Option InDeed → Option ℕ → Option ℕ
asked_after (Some (in_deeds.Starts id)) last = Some id
asked_after (Some (in_deeds.Settles id)) last = None
asked_after (Some (in_deeds.Drops id)) last = last
asked_after None last = last

abbrev pub dropped_after : Option InDeed → Bool → Bool
dropped_after (Some (in_deeds.Starts id)) dropped = false
dropped_after (Some (in_deeds.Settles id)) dropped = dropped
dropped_after (Some (in_deeds.Drops id)) dropped = true
dropped_after None dropped = dropped

abbrev pub answered_after : Option OutDeed → Option ℕ → Option ℕ
answered_after (Some (out_deeds.Opens _)) last = None
answered_after (Some (out_deeds.Refuses _)) last = None
answered_after (Some (out_deeds.Leaves _)) last = last
answered_after (Some (out_deeds.Returns _)) last = last
answered_after (Some (out_deeds.Loses _)) last = last
answered_after None last = last

-- the starts on their way, the last start, whether its board was dropped since, and whether the
-- intake holds a board: a start on its way is that one, and its board is held unless it was
-- dropped
pub data Asked : List ℕ → Option ℕ → Bool → Bool → Type 0 where
  asks_nothing : {ids : List ℕ} {last : Option ℕ} {dropped holds : Bool} → ids ≡ []
      → Asked ids last dropped holds
  asked_held : {ids : List ℕ} {z : ℕ} → ids ≡ z ∷ [] → Asked ids (Some z) false true
  asked_dropped : {ids : List ℕ} {z : ℕ} → ids ≡ z ∷ [] → Asked ids (Some z) true false
