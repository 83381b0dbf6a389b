-- What an event does to a link: the row that stands for it, and what holds then.
use Rattle.std.specs.Prelude.{Bool, List, None, Option, Some, [], false, is_some, unwrap_or, ℕ, ◌≡◌, ◌⊎◌}
use Rattle.line_base.specs.declared.states.Seen.{Seen}
use Rattle.line_base.specs.declared.states.SensorEvent.{SensorEvent}
use Rattle.line_base.specs.declared.states.Transfer.{Transfer}
use Rattle.board_record.specs.declared.record.Record.{Record}
use Rattle.session_core.specs.declared.state.SessionState.{SessionState}
use Rattle.session_core.specs.declared.state.SessionState.TheVariants.{NotConnected}
use Rattle.line_world.specs.declared.gap.Gap.{Gap}
use Rattle.handover_out.specs.Row.{OutRow, last_after, outlet_row}
use Rattle.handover_out.specs.State.{OutState, board_of_phase as held_out, is_id}
use Rattle.handover_out.specs.declared.input.OutInput.{OutInput}
use Rattle.handover_out.specs.declared.input.OutInput.TheVariants as out_input
use Rattle.handover_out.specs.declared.phase.Phase.{Phase as Out}
use Rattle.handover_in.specs.Row.{InRow, intake_row}
use Rattle.handover_in.specs.State.{InState, board_of_phase as held_in, passes_offers_over}
use Rattle.handover_in.specs.declared.input.InInput.{InInput}
use Rattle.handover_in.specs.declared.input.InInput.TheVariants as in_input
use Rattle.handover_in.specs.declared.phase.Phase.{Phase as In}
use Rattle.handover_in.specs.declared.phase.Phase.TheVariants as inn
use Rattle.law_custody.specs.Contents.{Contents, OfferIs, OpenAll}
use Rattle.law_custody.specs.Floor.{EntryFloor, ExitFloor, GapAt}
use Rattle.law_custody.specs.LookBack.{Asked, LetGo, Recalls, Settles, Since, answered_after, asked_after, dropped_after, just_started, let_after, since_after}
use Rattle.law_custody.specs.Pair.{back_to, keep_at, listed, listed_last}
use Rattle.law_custody.specs.Place.{Fresh, Place}
use Rattle.law_custody.specs.Talks.{Talks}
use Rattle.law_custody.specs.Words.{DownWord, UpWord, in_says, out_says, sent, starts_in}

abbrev pub outlet : Out → Option ℕ → Option ℕ → Bool → OutState
outlet o of t rd = record { phase = o; offered = of; touched = t; ready = rd }

abbrev pub intake : In → Option Record → Bool → InState
intake i f ri = record { phase = i; offer = f; ready = ri }

-- an event of the exit: there is a row for it; the floor and the other end are as the relation has
-- them; the machine's boards, what is offered and the record let go last go on. `before` are the
-- words to the outlet with the one that is heard, `ue` the events that are still unread
pub record ExitDid (Gone : ℕ → Type 0) (w : OutInput) (s : OutState) (ue : List SensorEvent)
    (xd b : Bool) (x y : SessionState) (i : In) (f : Option Record) (ri : Bool) (p : Place)
    (r : Record) (before up : List UpWord) (down : List DownWord) : Type 0 where
  pub row : OutRow
  pub is : outlet_row s w ≡ Some row
  pub out : ExitFloor row.after.phase ue (unwrap_or row.act.drive xd) p r
  pub talk : Talks b x row.after.phase row.after.offered row.after.ready y i f ri p up
      (sent (out_says row.act.send None) b down)
  pub body : (ks : List Record)
      → listed s.phase p ks ≡ listed row.after.phase p (back_to row.act.back ks)
  pub contents : (ks : List Record) (last : Option ℕ)
      → Contents Gone b ks s.touched last i f before down
      → Contents Gone b (back_to row.act.back ks) row.after.touched (last_after row last) i f up
      (sent (out_says row.act.send None) b down)
  pub lets : (l : Option Record) → LetGo p s.phase r l
      → LetGo p row.after.phase r (let_after row.act.deed (held_out s.phase) l)
  pub starts : starts_in before ≡ starts_in up
  pub answers : (l : Option ℕ) → answered_after row.act.deed l ≡ l

-- an event of the entry. `before` are the words to the intake with the one that is heard; Q is any
-- property of records
pub record EntryDid (Q : Record → Type 0) (w : InInput) (s : InState) (un : List SensorEvent)
    (ed b : Bool) (x : SessionState) (o : Out) (of : Option ℕ) (rd : Bool) (y : SessionState)
    (p : Place) (r : Record) (up : List UpWord) (before down : List DownWord) : Type 0 where
  pub row : InRow
  pub is : intake_row s w ≡ Some row
  pub «in» : EntryFloor row.after.phase un (unwrap_or row.act.drive ed) p r
  pub talk : Talks b x o of rd y row.after.phase row.after.offer row.after.ready p
      (sent (in_says row.act.send) b up) down
  pub body : (ks : List Record)
      → listed_last s.phase p ks ≡ listed_last row.after.phase p (keep_at row.act.keep ks)
  pub opened : OpenAll Q (passes_offers_over s.phase) before → OfferIs Q s.offer
      → OpenAll Q (passes_offers_over row.after.phase) down × OfferIs Q row.after.offer
  pub holds : (q : Record) → held_in row.after.phase ≡ Some q → held_in s.phase ≡ Some q
  pub quiet : starts_in (in_says row.act.send) ≡ []
  pub settles : (q : Record) → row.act.keep ≡ Some q → Settles o p r q w s.phase
  pub recalls : (s2 : Since) → Recalls s.phase s2 → Recalls row.after.phase (since_after w s2)
  pub asked : (l : Option ℕ) (d : Bool) → Asked (starts_in up) l d (is_some (held_in s.phase))
      → Asked (starts_in up) (asked_after row.act.deed l) (dropped_after row.act.deed d)
      (is_some (held_in row.after.phase))

-- a start that is heard: the machine brought the front of its boards, or none. Where the intake
-- has gone since, a handover of its own begins, and the ghost is aimed at its board. Nothing is
-- open then, so the kept boards and what is touched may be any
pub record ExitBegan (Gone : ℕ → Type 0) (w : OutInput) (s : OutState) (brought : Option Record)
    (xd b : Bool) (x y : SessionState) (i : In) (f : Option Record) (ri : Bool)
    (un : List SensorEvent) (ed : Bool) (g : Gap) (p : Place) (r : Record) (up : List UpWord)
    (down : List DownWord) : Type 0 where
  pub row : OutRow
  pub is : outlet_row s w ≡ Some row
  pub place : Place
  pub board : Record
  pub fresh : (place ≡ p) ⊎ (place ≡ Fresh)
  pub out : ExitFloor row.after.phase [] (unwrap_or row.act.drive xd) place board
  pub «in» : EntryFloor i un ed place board
  pub gap : GapAt g place board
  pub talk : Talks b x row.after.phase row.after.offered row.after.ready y i f ri place up
      (sent (out_says row.act.send None) b down)
  pub body : (ks : List Record)
      → listed s.phase p (back_to brought ks) ≡ listed row.after.phase place ks
  pub below : (ks : List Record) → listed_last i p ks ≡ listed_last i place ks
  pub contents : (ks : List Record) (t last : Option ℕ)
      → Contents Gone b ks t last i f up (sent (out_says row.act.send None) b down)
  pub lets : (l : Option Record) → LetGo p s.phase r l
      → LetGo place row.after.phase board (let_after row.act.deed (held_out s.phase) l)
  pub only : starts_in up ≡ []

-- a start that an entry says: the ghost is aimed at the offered board
pub record EntryBegan (Gone : ℕ
    → Type 0) (w : InInput) (s : InState) (ed b : Bool) (x : SessionState) (o : Out)
    (of : Option ℕ) (rd : Bool) (y : SessionState) (ue : List SensorEvent) (xd : Bool) (g : Gap)
    (p : Place) (up : List UpWord) (down : List DownWord) : Type 0 where
  pub row : InRow
  pub is : intake_row s w ≡ Some row
  pub place : Place
  pub board : Record
  pub out : ExitFloor o ue xd place board
  pub «in» : EntryFloor row.after.phase [] (unwrap_or row.act.drive ed) place board
  pub gap : GapAt g place board
  pub talk : Talks b x o of rd y row.after.phase row.after.offer row.after.ready place
      (sent (in_says row.act.send) b up) down
  pub above : (ks : List Record) → listed o p ks ≡ listed o place ks
  pub body : (ks : List Record)
      → listed_last s.phase p ks ≡ listed_last row.after.phase place (keep_at row.act.keep ks)
  pub contents : (ks : List Record) (t last : Option ℕ)
      → Contents Gone b ks t last s.phase s.offer up down
      → Contents Gone b ks t last row.after.phase row.after.offer
      (sent (in_says row.act.send) b up) down
  pub lets : (l : Option Record) → LetGo place o board l
  pub recalls : Recalls row.after.phase just_started
  pub asked : (l : Option ℕ) (d : Bool)
      → Asked (starts_in (sent (in_says row.act.send) b up)) (asked_after row.act.deed l)
      (dropped_after row.act.deed d) (is_some (held_in row.after.phase))

-- an exit whose connection is closed: the link stands no more, and what flowed to it is gone
pub record ExitClosed (Gone : ℕ
    → Type 0) (s : OutState) (ue : List SensorEvent) (xd b : Bool) (y : SessionState) (i : In)
    (f : Option Record) (ri : Bool) (p : Place) (r : Record) (before : List UpWord)
    (down : List DownWord) : Type 0 where
  pub row : OutRow
  pub is : outlet_row s out_input.Closed ≡ Some row
  pub silent : row.act.send ≡ None
  pub out : ExitFloor row.after.phase ue (unwrap_or row.act.drive xd) p r
  pub talk : Talks false NotConnected row.after.phase row.after.offered row.after.ready y i f ri p
      [] down
  pub body : (ks : List Record)
      → listed s.phase p ks ≡ listed row.after.phase p (back_to row.act.back ks)
  pub contents : (ks : List Record) (last : Option ℕ)
      → Contents Gone b ks s.touched last i f before down
      → Contents Gone false (back_to row.act.back ks) row.after.touched (last_after row last) i f
      [] down
  pub lets : (l : Option Record) → LetGo p s.phase r l
      → LetGo p row.after.phase r (let_after row.act.deed (held_out s.phase) l)

-- an entry whose connection is closed
pub record EntryClosed (s : InState) (un : List SensorEvent) (ed : Bool) (x : SessionState) (o : Out)
    (of : Option ℕ) (rd : Bool) (p : Place) (r : Record) (up : List UpWord) : Type 0 where
  pub row : InRow
  pub is : intake_row s in_input.Closed ≡ Some row
  pub silent : row.act.send ≡ None
  pub settles_not : row.act.keep ≡ None
  pub offerless : row.after.offer ≡ None
  pub «in» : EntryFloor row.after.phase un (unwrap_or row.act.drive ed) p r
  pub talk : Talks false x o of rd NotConnected row.after.phase row.after.offer row.after.ready p
      up []
  pub body : (ks : List Record) → listed_last s.phase p ks ≡ listed_last row.after.phase p ks
  pub recalls : (s2 : Since) → Recalls s.phase s2
      → Recalls row.after.phase (since_after in_input.Closed s2)
  pub asked : (l : Option ℕ) (d : Bool) → Asked (starts_in up) l d (is_some (held_in s.phase))
      → Asked (starts_in up) (asked_after row.act.deed l) (dropped_after row.act.deed d)
      (is_some (held_in row.after.phase))

-- the record that the machine brings to a start of the intake's board: that board's own, where it
-- is offered
pub data BringsOf : Option ℕ → In → Option Record → Type 0 where
  brings_taking : {r : Record} {own : Seen} {h : Bool}
      → BringsOf (Some r.id) (inn.Taking r own h) (Some r)
  brings_stopped : {r : Record} {own : Seen} {h : Option Transfer}
      → BringsOf (Some r.id) (inn.Stopped r own h) (Some r)
  brings_none : {o : Option ℕ} {r : Record} {own : Seen} {h : Bool} → is_id o r.id ≡ false
      → BringsOf o (inn.Taking r own h) None
  brings_none_stopped : {o : Option ℕ} {r : Record} {own : Seen} {h : Option Transfer}
      → is_id o r.id ≡ false → BringsOf o (inn.Stopped r own h) None

-- and to one whose intake has gone
pub data Brings : Option ℕ → ℕ → Option Record → Type 0 where
  brings_own : {r : Record} → Brings (Some r.id) r.id (Some r)
  brings_nothing : {o : Option ℕ} {x : ℕ} → is_id o x ≡ false → Brings o x None
