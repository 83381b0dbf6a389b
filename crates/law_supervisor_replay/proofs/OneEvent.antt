-- What becomes of a board as a machine reads one event.
use Rattle.std.proofs.Common.{
  ap,
  inl,
  inr,
  refl,
  subst,
  sym,
  if◌then◌else◌,
  ◌≡◌,
  ◌∙◌,
  ◌++◌,
  ◌+◌,
  ◌==◌,
  ◌&&◌,
  ◌||◌,
  ℕ,
  Bool,
  true,
  false,
  List,
  [],
  ◌∷◌,
  Option,
  Some,
  None,
  eq-eqb,
  ne_eqb,
}
use Rattle.std.specs.Prelude.{option_map}
use Rattle.std.specs.List.{list_all, list_any}
use Rattle.std.proofs.lemmas.Bool.{false≢true}
use Rattle.std.proofs.lemmas.List.{map-append}
use mathlib.Core.Bool.{or-false, or-true}
use Rattle.line_base.specs.declared.states.Seen.{Seen}
use Rattle.line_base.specs.declared.states.SensorEvent.{SensorEvent}
use Rattle.line_base.specs.declared.states.SensorEvent.TheVariants as event
use Rattle.line_base.specs.declared.states.Side.{Side}
use Rattle.line_base.specs.declared.states.Side.TheVariants.{Entry, Exit}
use Rattle.board_record.specs.declared.record.Record.{Record}
use Rattle.board_record.specs.declared.sensed.Sensed.{Sensed}
use Rattle.handover_out.specs.declared.act.OutSend.{OutSend}
use Rattle.handover_out.specs.declared.input.OutInput.TheVariants as out_input
use Rattle.handover_out.specs.Row.{OutRow, outlet_row}
use Rattle.handover_out.specs.State.{OutState, held as held_out}
use Rattle.handover_in.specs.declared.act.InSend.{InSend}
use Rattle.handover_in.specs.declared.phase.Phase.{Phase}
use Rattle.handover_in.specs.declared.phase.Phase.TheVariants.{Idle}
use Rattle.handover_in.specs.Row.{InRow}
use Rattle.handover_in.specs.State.{InState, board_of_phase as held_in, own_of_phase}
use Rattle.handover_in.specs.Table.{state_of}
use Rattle.node_core.specs.Desk.{Desk}
use Rattle.node_core.specs.Done.{Done, behind, done}
use Rattle.node_core.specs.Halves.{intake_row_did, outlet_row_did}
use Rattle.node_core.specs.Own.{id_of, ids_of, one_of, own_by, own_of}
use Rattle.node_core.specs.Reads.{reads}
use Rattle.node_core.specs.Supervising.{seen_with, watch_after, watch_behind, with_tells}
use Rattle.node_core.specs.Told.{drives, in_sends, out_sends}
use Rattle.node_core.specs.declared.act.Act.{Act}
use Rattle.node_core.specs.declared.act.Act.TheVariants as acts
use Rattle.node_core.specs.declared.act.Deed.{Deed}
use Rattle.node_core.specs.declared.act.Deed.TheVariants as deeds
use Rattle.node_core.specs.declared.lane.Body.{Body}
use Rattle.node_core.specs.declared.supervising.Watch.{Watch}
use Rattle.law_custody.specs.Place.{Place}
use Rattle.law_custody.specs.Words.{before_event}
use Rattle.standings.specs.Ledger.{are_different}
use Rattle.standings.specs.Marks.{is_held}
use Rattle.law_one_standing.proofs.LedgerSteps.{all_of, dropped_ids, settled_ids}
use Rattle.law_one_standing.proofs.LedgerTurns.{different_rest}
use Rattle.law_supervisor_replay.specs.Replay.{Told}
use Rattle.law_supervisor_replay.proofs.Since.{since_by_deed}
use Rattle.law_supervisor_replay.proofs.Bodies.{brings_in, holds_it, keeps_it, takes_out}
use Rattle.law_supervisor_replay.proofs.Events.{
  EntryTurn,
  ExitTurn,
  Later,
  WasSeen,
  entry_turn,
  exit_leaves,
  exit_loses,
  exit_none,
  exit_returns,
  exit_stays,
  exit_turn,
  turn_drops,
  turn_settles,
  turn_stays,
  was_home,
  was_taken,
}
use Rattle.law_supervisor_replay.proofs.Parts.{
  HasStill,
  ReadFares,
  Says,
  has_still,
  read_leaves,
  read_lost,
  read_missing,
  read_settles,
  read_so,
  read_upstream,
}
use Rattle.law_supervisor_replay.proofs.Places.{Apart, apart, has_back, still_same}
use Rattle.law_supervisor_replay.proofs.Tells.{
  deed_left,
  deed_says,
  deed_told,
  deed_watch,
  entry_quiet,
  exit_quiet,
  is_quiet,
  none_quiet,
  quiet_in,
  quiet_out,
  quiet_watch,
  says_none,
  says_reads,
  says_tells,
  told_deed,
  watching,
}

-- ---- some events are read: with those that are unread at the entry then

pub record Went (id j : ℕ) (desk : Desk) (unread : List Sensed) (es : List SensorEvent)
    (place : Place) (board : Record) (body : Body) (d : Done) : Type 0 where
  pub fares : ReadFares id j unread place body d.body
      (with_tells desk (watching (own_of_phase body.intake.phase)) d.acts)
  pub floor : Later d.body.intake.phase es place board
  pub watch : watch_behind (watching (own_of_phase body.intake.phase)) d.acts
      ≡ watching (own_of_phase d.body.intake.phase)
  pub different : are_different (all_of (own_of d.body)) ≡ true
  pub hand_out : list_any (takes_out id) d.acts ≡ false
  pub hand_in : list_any (brings_in id) d.acts ≡ false
  pub held : holds_it id d.body ≡ true → holds_it id body ≡ true

-- ---- a deed, and what is said behind it

-- an event is read, and a deed done: with what is told of it
abbrev with_deed : Desk → Option Seen → Side → SensorEvent → Deed → List Act → List Act
with_deed desk sees side e deed more =
    acts.Reads side e ∷ with_tells desk (watching sees) (acts.Deed deed ∷ more)

deed_is : {f : Told → Told} (id j : ℕ) (desk : Desk) (sees : Option Seen) (side : Side)
    (e : SensorEvent) (deed : Deed) (more : List Act) → list_all is_quiet more ≡ true
    → ((told : Told) → told_deed id (j + 1) sees deed told ≡ f told)
    → ((gap : ℕ) (left : Bool) → since_by_deed gap id (j + 1) deed left ≡ left)
    → Says id j (with_deed desk sees side e deed more) f
deed_is id j desk sees side e deed more quiet tells keeps =
    says_reads id j side e (with_tells desk (watching sees) (acts.Deed deed ∷ more))
    (deed_says id j desk sees deed more quiet tells keeps)

-- of a board that the machine held or not
if_so : {A : Type 0} {test : Bool} (a b : A) → test ≡ true → (if test then a else b) ≡ a
if_so a b is = rw is refl

if_not : {A : Type 0} {test : Bool} (a b : A) → test ≡ false → (if test then a else b) ≡ b
if_not a b is = rw is refl

is_this : (id : ℕ) {held : Option Record} {mine : Record} → held ≡ Some mine
    → is_held id (id_of held) ≡ (mine.id == id)
is_this id same = ap (λ (r : Option Record). is_held id (id_of r)) same

is_none_of : (id : ℕ) {held : Option Record} → held ≡ None → is_held id (id_of held) ≡ false
is_none_of id none = ap (λ (r : Option Record). is_held id (id_of r)) none

none_held : {X : Type 0} (id : ℕ) {held : Option Record} → held ≡ None
    → is_held id (id_of held) ≡ true → X
none_held id none is = absurd (false≢true (sym (is_none_of id none) ∙ is))

or_both : (a b c : Bool) → b ≡ c → (a || b) ≡ (a || c)
or_both a b c is = ap (λ (x : Bool). a || x) is

-- ---- the entry

-- what the entry's half says behind a deed
abbrev entry_more : Desk → Option InSend → Option Bool → List Act
entry_more desk send drive = in_sends desk send ++ drives Entry drive

-- the machine with this intake, and with a record at the back
abbrev pub with_intake : Body → InState → Body
with_intake body s = record body { intake = s }

abbrev with_settled : Body → InState → Record → Body
with_settled body s mine = record body { intake = s; kept = body.kept ++ mine ∷ [] }

-- its board settles
settles_fares : {unread : List Sensed} {place : Place} {phase : Phase} {mine : Record} (id j : ℕ)
    (desk : Desk) (sees : Option Seen) (e : SensorEvent) (body : Body) (o : Option Record)
    (rd : Bool) (more : List Act) (test : Bool) → list_all is_quiet more ≡ true
    → held_in phase ≡ Some mine → (mine.id == id) ≡ test
    → ReadFares id j unread place (with_intake body (state_of phase o rd))
    (with_settled body (state_of Idle o rd) mine)
    (with_deed desk sees Entry e (deeds.Settles mine.id) more)
settles_fares {mine = mine} id j desk sees e body o rd more true quiet same is =
    read_settles (is_this id same ∙ is) refl
    (inl (has_back id body.kept mine ∙ or_both _ _ true is ∙ or-true _))
    (deed_is id j desk sees Entry e (deeds.Settles mine.id) more quiet (λ told. if_so _ _ is)
    (λ gap left. refl))
settles_fares {phase = phase} {mine = mine} id j desk sees e body o rd more false quiet same is =
    read_so
    (still_same id (with_intake body (state_of phase o rd))
    (with_settled body (state_of Idle o rd) mine)
    (has_back id body.kept mine ∙ or_both _ _ false is ∙ or-false _) refl)
    (sym (is_this id same ∙ is))
    (deed_is id j desk sees Entry e (deeds.Settles mine.id) more quiet (λ told. if_not _ _ is)
    (λ gap left. refl))

-- the intake holds nothing then
intake_still : {phase : Phase} (id : ℕ) (body : Body) (o : Option Record) (rd : Bool)
    → HasStill id (with_intake body (state_of phase o rd)) (with_intake body (state_of Idle o rd))
intake_still {phase = phase} id body o rd =
    still_same id (with_intake body (state_of phase o rd)) (with_intake body (state_of Idle o rd))
    refl refl

-- its board is dropped
drops_fares : {unread : List Sensed} {place : Place} {phase : Phase} {mine : Record} {own : Seen}
    (id j : ℕ) (desk : Desk) (e : SensorEvent) (body : Body) (o : Option Record) (rd : Bool)
    (more : List Act) (test : Bool) → list_all is_quiet more ≡ true → held_in phase ≡ Some mine
    → WasSeen own place → (mine.id == id) ≡ test
    → ReadFares id j unread place (with_intake body (state_of phase o rd))
    (with_intake body (state_of Idle o rd))
    (with_deed desk (Some own) Entry e (deeds.Drops mine.id) more)
drops_fares {phase = phase} {mine = mine} {own = own} id j desk e body o rd more true quiet same
    (was_taken away) is =
    read_missing (is_this id same ∙ is) refl away (intake_still {phase = phase} id body o rd)
    (deed_is id j desk (Some own) Entry e (deeds.Drops mine.id) more quiet (λ told. if_so _ _ is)
    (λ gap left. refl))
drops_fares {phase = phase} {mine = mine} {own = own} id j desk e body o rd more true quiet same
    (was_home above) is =
    read_upstream (is_this id same ∙ is) refl above (intake_still {phase = phase} id body o rd)
    (deed_is id j desk (Some own) Entry e (deeds.Drops mine.id) more quiet (λ told. refl)
    (λ gap left. refl))
drops_fares {phase = phase} {mine = mine} {own = own} id j desk e body o rd more false quiet same
    (was_taken away) is =
    read_so (intake_still {phase = phase} id body o rd) (sym (is_this id same ∙ is))
    (deed_is id j desk (Some own) Entry e (deeds.Drops mine.id) more quiet (λ told. if_not _ _ is)
    (λ gap left. refl))
drops_fares {phase = phase} {mine = mine} {own = own} id j desk e body o rd more false quiet same
    (was_home above) is =
    read_so (intake_still {phase = phase} id body o rd) (sym (is_this id same ∙ is))
    (deed_is id j desk (Some own) Entry e (deeds.Drops mine.id) more quiet (λ told. refl)
    (λ gap left. refl))

-- the ids differ still
abbrev ids_by : Option ℕ → List ℕ → Option Record → List ℕ
ids_by held kept taking = one_of held ++ (kept ++ one_of (id_of taking))

settled_different : {taking : Option Record} (kept : List Record) (mine : Record)
    (held : Option ℕ) → taking ≡ Some mine → are_different (ids_by held (ids_of kept) taking) ≡ true
    → are_different (ids_by held (ids_of (kept ++ mine ∷ [])) None) ≡ true
settled_different kept mine held same different =
    ap (λ (ids : List ℕ). are_different (ids_by held ids None))
    (map-append (λ (board : Record). board.id) kept (mine ∷ []))
    ∙ ap are_different (sym (settled_ids held (ids_of kept) mine.id))
    ∙ ap (λ (r : Option Record). are_different (ids_by held (ids_of kept) r)) (sym same)
    ∙ different

dropped_different : {taking : Option Record} (kept : List Record) (mine : Record)
    (held : Option ℕ) → taking ≡ Some mine → are_different (ids_by held (ids_of kept) taking) ≡ true
    → are_different (ids_by held (ids_of kept) None) ≡ true
dropped_different kept mine held same different =
    dropped_ids held (ids_of kept) mine.id
    (ap (λ (r : Option Record). are_different (ids_by held (ids_of kept) r)) (sym same) ∙ different)

-- the intake holds what it held
stays_went : {phase after : Phase} {e : SensorEvent} {es : List SensorEvent} {place : Place}
    {board : Record} (id j : ℕ) (desk : Desk) (unread : List Sensed) (body : Body)
    (o : Option Record) (rd : Bool) (more : List Act) → list_all is_quiet more ≡ true
    → held_in after ≡ held_in phase
    → option_map (seen_with e) (own_of_phase phase) ≡ own_of_phase after
    → Later after es place board
    → are_different (all_of (own_of (with_intake body (state_of phase o rd)))) ≡ true
    → Went id j desk unread es place board (with_intake body (state_of phase o rd))
    (done (with_intake body (state_of after o rd)) (acts.Reads Entry e ∷ more))
stays_went {phase = phase} {after = after} {e = e} id j desk unread body o rd more quiet same sees
    later different =
    let w : Watch = watching (option_map (seen_with e) (own_of_phase phase)) in
    let held : Option ℕ = id_of (held_out body.outlet) in
    record {
      fares = read_so
          (still_same id (with_intake body (state_of phase o rd))
          (with_intake body (state_of after o rd)) refl refl)
          (ap (λ (r : Option Record). is_held id (id_of r)) same)
          (says_reads id j Entry e (with_tells desk w more) (says_tells id j desk w more quiet));
      floor = later;
      watch = quiet_watch w more quiet ∙ ap watching sees;
      different = ap (λ (r : Option Record). are_different (ids_by held (ids_of body.kept) r)) same
          ∙ different;
      hand_out = none_quiet (quiet_out id) more quiet;
      hand_in = none_quiet (quiet_in id) more quiet;
      held = λ h. h;
    }

-- it holds nothing then
over_went : {phase : Phase} {e : SensorEvent} {es : List SensorEvent} {place : Place}
    {board : Record} (id j : ℕ) (desk : Desk) (unread : List Sensed) (body : Body)
    (o : Option Record) (rd : Bool) (kept : List Record) (deed : Deed) (more : List Act)
    → list_all is_quiet more ≡ true
    → ((w : Watch) → watch_after w (acts.Deed deed) ≡ record w { seen = None })
    → are_different (ids_by (id_of (held_out body.outlet)) (ids_of kept) None) ≡ true
    → ReadFares id j unread place (with_intake body (state_of phase o rd))
    (record body { intake = state_of Idle o rd; kept = kept })
    (with_deed desk (option_map (seen_with e) (own_of_phase phase)) Entry e deed more)
    → Went id j desk unread es place board (with_intake body (state_of phase o rd))
    (done (record body { intake = state_of Idle o rd; kept = kept })
    (acts.Reads Entry e ∷ acts.Deed deed ∷ more))
over_went {phase = phase} {e = e} id j desk unread body o rd kept deed more quiet over different
    fares =
    let w : Watch = watching (option_map (seen_with e) (own_of_phase phase)) in
    record {
      fares = fares;
      floor = λ is. absurd (false≢true is);
      watch = deed_watch w deed more quiet ∙ over w;
      different = different;
      hand_out = none_quiet (quiet_out id) more quiet;
      hand_in = none_quiet (quiet_in id) more quiet;
      held = λ h. h;
    }

entry_went : {s : InState} {found : Option InRow} {e : SensorEvent} {es : List SensorEvent}
    {place : Place} {board : Record} (id j : ℕ) (desk : Desk) (unread : List Sensed)
    (body : Body) → EntryTurn e es place board s found
    → are_different (all_of (own_by body.kept body.outlet s)) ≡ true
    → Went id j desk unread es place board (with_intake body s)
    (behind (acts.Reads Entry e ∷ []) (intake_row_did desk (with_intake body s) found))
entry_went id j desk unread body
    (turn_stays {o = o} {rd = rd} {send = send} {drive = drive} same sees later) different =
    stays_went id j desk unread body o rd (entry_more desk send drive) (entry_quiet desk send drive)
    same sees later different
entry_went {e = e} id j desk unread body
    (turn_settles {phase = phase} {o = o} {rd = rd} {send = send} {drive = drive} {mine = mine}
    same) different =
    let more : List Act = entry_more desk send drive in
    let quiet : list_all is_quiet more ≡ true = entry_quiet desk send drive in
    let sees : Option Seen = option_map (seen_with e) (own_of_phase phase) in
    over_went {phase = phase} id j desk unread body o rd (body.kept ++ mine ∷ [])
    (deeds.Settles mine.id) more quiet (λ w. refl)
    (settled_different body.kept mine (id_of (held_out body.outlet)) same different)
    (settles_fares id j desk sees e body o rd more (mine.id == id) quiet same refl)
entry_went {e = e} {place = place} id j desk unread body
    (turn_drops {phase = phase} {o = o} {rd = rd} {send = send} {drive = drive} {mine = mine}
    same sees was) different =
    let more : List Act = entry_more desk send drive in
    let quiet : list_all is_quiet more ≡ true = entry_quiet desk send drive in
    over_went {phase = phase} id j desk unread body o rd body.kept (deeds.Drops mine.id) more quiet
    (λ w. refl) (dropped_different body.kept mine (id_of (held_out body.outlet)) same different)
    (subst (λ (s : Option Seen). ReadFares id j unread place
    (with_intake body (state_of phase o rd)) (with_intake body (state_of Idle o rd))
    (with_deed desk s Entry e (deeds.Drops mine.id) more))
    (sym sees) (drops_fares id j desk e body o rd more (mine.id == id) quiet same was refl))

-- ---- the exit

-- what the exit's half says behind a deed
abbrev exit_more : Desk → List Record → Option OutSend → Option Bool → List Act
exit_more desk kept send drive = out_sends desk kept send ++ drives Exit drive

-- the machine with this outlet, and with a record in front
abbrev with_outlet : Body → OutState → Body
with_outlet body s = record body { outlet = s }

abbrev with_returned : Body → OutState → Record → Body
with_returned body s mine = record body { outlet = s; kept = mine ∷ body.kept }

leaves_on : (n : ℕ) (left : Bool) {test : Bool} → test ≡ true → (((n == n) && test) || left) ≡ true
leaves_on n left is = rw (eq-eqb n n refl, is) refl

leaves_there : (n gap : ℕ) (test left : Bool) → (gap ≡ n → ⊥)
    → (((n == gap) && test) || left) ≡ left
leaves_there n gap test left apart = rw (ne_eqb n gap (λ (same : n ≡ gap). apart (sym same))) refl

leaves_off : (a left : Bool) {test : Bool} → test ≡ false → ((a && test) || left) ≡ left
leaves_off true left is = rw is refl
leaves_off false left is = refl

-- the outlet holds nothing then, and the board is another
outlet_still : {s after : OutState} {mine : Record} (id : ℕ) (body : Body)
    → held_out s ≡ Some mine → held_out after ≡ None → (mine.id == id) ≡ false
    → HasStill id (with_outlet body s) (with_outlet body after)
outlet_still {s = s} {after = after} id body same none is =
    still_same id (with_outlet body s) (with_outlet body after) refl
    (is_none_of id none ∙ sym (is_this id same ∙ is))

-- its board leaves
leaves_fares : {place : Place} {s after : OutState} {mine : Record} (id j : ℕ) (desk : Desk)
    (sees : Option Seen) (body : Body) (more : List Act) (test : Bool)
    → list_all is_quiet more ≡ true → held_out s ≡ Some mine → held_out after ≡ None
    → Apart id (with_outlet body s) → (mine.id == id) ≡ test
    → ReadFares id j (record { side = Exit; event = event.Left } ∷ []) place (with_outlet body s)
    (with_outlet body after) (with_deed desk sees Exit event.Left (deeds.Leaves mine.id) more)
leaves_fares {s = s} {mine = mine} id j desk sees body more true quiet same none alone is =
    let deed : Deed = deeds.Leaves mine.id in
    let held : holds_it id (with_outlet body s) ≡ true = is_this id same ∙ is in
    read_leaves held refl (record { kept = alone.held held; held = is_none_of id none }) refl
    (record {
      told = λ told. deed_told id (j + 1) desk sees deed more told quiet ∙ if_so _ _ is;
      left = λ left. deed_left (j + 1) id (j + 1) desk sees deed more left quiet
          ∙ leaves_on (j + 1) left is;
      others = λ gap left other. deed_left gap id (j + 1) desk sees deed more left quiet
          ∙ leaves_there (j + 1) gap (mine.id == id) left other;
    })
leaves_fares {s = s} {after = after} {mine = mine} id j desk sees body more false quiet same none
    alone is =
    read_so (outlet_still {s = s} {after = after} id body same none is) refl
    (deed_is id j desk sees Exit event.Left (deeds.Leaves mine.id) more quiet
    (λ told. if_not _ _ is) (λ gap left. leaves_off (j + 1 == gap) left is))

-- its board is lost
loses_fares : {place : Place} {s after : OutState} {mine : Record} (id j : ℕ) (desk : Desk)
    (sees : Option Seen) (body : Body) (more : List Act) (unread : List Sensed) (e : SensorEvent)
    (test : Bool) → list_all is_quiet more ≡ true → held_out s ≡ Some mine
    → held_out after ≡ None → Apart id (with_outlet body s) → (mine.id == id) ≡ test
    → ReadFares id j unread place (with_outlet body s) (with_outlet body after)
    (with_deed desk sees Exit e (deeds.Loses mine.id) more)
loses_fares {s = s} {mine = mine} id j desk sees body more unread e true quiet same none alone is =
    let held : holds_it id (with_outlet body s) ≡ true = is_this id same ∙ is in
    read_lost held (record { kept = alone.held held; held = is_none_of id none }) refl
    (deed_is id j desk sees Exit e (deeds.Loses mine.id) more quiet (λ told. if_so _ _ is)
    (λ gap left. refl))
loses_fares {s = s} {after = after} {mine = mine} id j desk sees body more unread e false quiet same
    none alone is =
    read_so (outlet_still {s = s} {after = after} id body same none is) refl
    (deed_is id j desk sees Exit e (deeds.Loses mine.id) more quiet (λ told. if_not _ _ is)
    (λ gap left. refl))

-- its board is given back
returns_fares : {place : Place} {s after : OutState} {mine : Record} (id j : ℕ) (desk : Desk)
    (sees : Option Seen) (body : Body) (more : List Act) (unread : List Sensed) (e : SensorEvent)
    (test : Bool) → list_all is_quiet more ≡ true → held_out s ≡ Some mine
    → held_out after ≡ None → (mine.id == id) ≡ test
    → ReadFares id j unread place (with_outlet body s) (with_returned body after mine)
    (with_deed desk sees Exit e (deeds.Returns mine.id) more)
returns_fares {mine = mine} id j desk sees body more unread e true quiet same none is =
    read_so
    (has_still (inr (is_this id same ∙ is)) (inl (ap (λ (b : Bool). b || keeps_it id body) is)))
    refl
    (deed_is id j desk sees Exit e (deeds.Returns mine.id) more quiet (λ told. refl)
    (λ gap left. refl))
returns_fares {s = s} {after = after} {mine = mine} id j desk sees body more unread e false quiet
    same none is =
    read_so
    (still_same id (with_outlet body s) (with_returned body after mine)
    (ap (λ (b : Bool). b || keeps_it id body) is)
    (is_none_of id none ∙ sym (is_this id same ∙ is))) refl
    (deed_is id j desk sees Exit e (deeds.Returns mine.id) more quiet (λ told. refl)
    (λ gap left. refl))

gone_different : {held now : Option Record} {mine : Record} (rest : List ℕ) → held ≡ Some mine
    → now ≡ None → are_different (one_of (id_of held) ++ rest) ≡ true
    → are_different (one_of (id_of now) ++ rest) ≡ true
gone_different {mine = mine} rest same none different =
    let here : Option Record → Bool = λ r. are_different (one_of (id_of r) ++ rest) in
    ap here none ∙ different_rest mine.id rest (ap here (sym same) ∙ different)

back_different : {held now : Option Record} {mine : Record} (rest : List ℕ) → held ≡ Some mine
    → now ≡ None → are_different (one_of (id_of held) ++ rest) ≡ true
    → are_different (one_of (id_of now) ++ (mine.id ∷ rest)) ≡ true
back_different {mine = mine} rest same none different =
    ap (λ (r : Option Record). are_different (one_of (id_of r) ++ (mine.id ∷ rest))) none
    ∙ ap (λ (r : Option Record). are_different (one_of (id_of r) ++ rest)) (sym same)
    ∙ different

-- the ids behind that at the outlet
abbrev ids_behind : Body → List ℕ
ids_behind body = ids_of body.kept ++ one_of (id_of (held_in body.intake.phase))

-- the outlet holds what it held
same_went : {s after : OutState} {e : SensorEvent} {es : List SensorEvent} {place : Place}
    {board : Record} (id j : ℕ) (desk : Desk) (unread : List Sensed) (body : Body)
    → held_out after ≡ held_out s → Later body.intake.phase es place board
    → are_different (all_of (own_of (with_outlet body s))) ≡ true
    → Went id j desk unread es place board (with_outlet body s)
    (done (with_outlet body after) (acts.Reads Exit e ∷ []))
same_went {s = s} {after = after} {e = e} id j desk unread body same later different = record {
  fares = read_so
      (still_same id (with_outlet body s) (with_outlet body after) refl
      (ap (λ (r : Option Record). is_held id (id_of r)) same)) refl
      (says_reads id j Exit e [] (says_none id j));
  floor = later;
  watch = refl;
  different = ap (λ (r : Option Record). are_different (one_of (id_of r) ++ ids_behind body)) same
      ∙ different;
  hand_out = refl;
  hand_in = refl;
  held = λ h. sym (ap (λ (r : Option Record). is_held id (id_of r)) same) ∙ h;
}

-- it holds nothing then
gone_went : {s after : OutState} {e : SensorEvent} {es : List SensorEvent} {place : Place}
    {board : Record} (id j : ℕ) (desk : Desk) (unread : List Sensed) (body : Body)
    (kept : List Record) (deed : Deed) (more : List Act) → list_all is_quiet more ≡ true
    → ((w : Watch) → watch_after w (acts.Deed deed) ≡ w) → held_out after ≡ None
    → Later body.intake.phase es place board
    → are_different (all_of (own_by kept after body.intake)) ≡ true
    → ReadFares id j unread place (with_outlet body s) (record body { outlet = after; kept = kept })
    (with_deed desk (own_of_phase body.intake.phase) Exit e deed more)
    → Went id j desk unread es place board (with_outlet body s)
    (done (record body { outlet = after; kept = kept }) (acts.Reads Exit e ∷ acts.Deed deed ∷ more))
gone_went id j desk unread body kept deed more quiet same none later different fares =
    let w : Watch = watching (own_of_phase body.intake.phase) in
    record {
      fares = fares;
      floor = later;
      watch = deed_watch w deed more quiet ∙ same w;
      different = different;
      hand_out = none_quiet (quiet_out id) more quiet;
      hand_in = none_quiet (quiet_in id) more quiet;
      held = λ h. none_held id none h;
    }

-- and nothing was offered
still_went : {s after : OutState} {e : SensorEvent} {es : List SensorEvent} {place : Place}
    {board : Record} {last : Option ℕ} (id j : ℕ) (desk : Desk) (body : Body)
    (kept : List Record) (told : List Act) → last ≡ body.last_offer
    → Went id j desk (record { side = Exit; event = e } ∷ []) es place board (with_outlet body s)
    (done (record body { outlet = after; kept = kept }) told)
    → Went id j desk (record { side = Exit; event = e } ∷ []) es place board (with_outlet body s)
    (done (record body { outlet = after; kept = kept; last_offer = last }) told)
still_went {s = s} {after = after} {e = e} {es = es} {place = place} {board = board} id j desk body
    kept told same went =
    subst (λ (z : Option ℕ). Went id j desk (record { side = Exit; event = e } ∷ []) es place board
    (with_outlet body s) (done (record body { outlet = after; kept = kept; last_offer = z }) told))
    (sym same) went

exit_went : {s : OutState} {found : Option OutRow} {e : SensorEvent} {es : List SensorEvent}
    {place : Place} {board : Record} (id j : ℕ) (desk : Desk) (body : Body) → ExitTurn e s found
    → are_different (all_of (own_by body.kept s body.intake)) ≡ true
    → Later body.intake.phase es place board
    → Went id j desk (record { side = Exit; event = e } ∷ []) es place board (with_outlet body s)
    (behind (acts.Reads Exit e ∷ []) (outlet_row_did desk (with_outlet body s) found))
exit_went id j desk body (exit_none {s = s}) different later =
    same_went {s = s} id j desk _ body refl later different
exit_went id j desk body (exit_stays {s = s} {after = after} same) different later =
    same_went {s = s} {after = after} id j desk _ body same later different
exit_went id j desk body
    (exit_leaves {s = s} {after = after} {mine = mine} {send = send} {drive = drive} same none still)
    different later =
    let more : List Act = exit_more desk body.kept send drive in
    let quiet : list_all is_quiet more ≡ true = exit_quiet desk body.kept send drive in
    still_went {s = s} {after = after} id j desk body body.kept _
    (still after.offered body.last_offer)
    (gone_went {s = s} {after = after} id j desk _ body body.kept (deeds.Leaves mine.id) more quiet
    (λ w. refl) none later (gone_different (ids_behind body) same none different)
    (leaves_fares {s = s} {after = after} id j desk (own_of_phase body.intake.phase) body more
    (mine.id == id) quiet same none (apart id (with_outlet body s) different) refl))
exit_went {e = e} id j desk body
    (exit_returns {s = s} {after = after} {mine = mine} {send = send} {drive = drive} same none still)
    different later =
    let more : List Act = exit_more desk body.kept send drive in
    let quiet : list_all is_quiet more ≡ true = exit_quiet desk body.kept send drive in
    still_went {s = s} {after = after} id j desk body (mine ∷ body.kept) _
    (still after.offered body.last_offer)
    (gone_went {s = s} {after = after} id j desk _ body (mine ∷ body.kept) (deeds.Returns mine.id)
    more quiet (λ w. refl) none later (back_different (ids_behind body) same none different)
    (returns_fares {s = s} {after = after} id j desk (own_of_phase body.intake.phase) body more _ e
    (mine.id == id) quiet same none refl))
exit_went {e = e} id j desk body
    (exit_loses {s = s} {after = after} {mine = mine} {send = send} {drive = drive} same none still)
    different later =
    let more : List Act = exit_more desk body.kept send drive in
    let quiet : list_all is_quiet more ≡ true = exit_quiet desk body.kept send drive in
    still_went {s = s} {after = after} id j desk body body.kept _
    (still after.offered body.last_offer)
    (gone_went {s = s} {after = after} id j desk _ body body.kept (deeds.Loses mine.id) more quiet
    (λ w. refl) none later (gone_different (ids_behind body) same none different)
    (loses_fares {s = s} {after = after} id j desk (own_of_phase body.intake.phase) body more _ e
    (mine.id == id) quiet same none (apart id (with_outlet body s) different) refl))

-- ---- one event, at either side

pub one_went : {es : List SensorEvent} {place : Place} {board : Record} (id j : ℕ) (desk : Desk)
    (side : Side) (e : SensorEvent) (body : Body)
    → Later body.intake.phase (before_event Entry side e es) place board
    → are_different (all_of (own_of body)) ≡ true
    → Went id j desk (record { side = side; event = e } ∷ []) es place board body
    (reads desk (record { side = side; event = e }) body)
one_went {es = es} {place = place} {board = board} id j desk Entry e body later different =
    entry_went id j desk (record { side = Entry; event = e } ∷ []) body
    (entry_turn {o = body.intake.offer} {rd = body.intake.ready} body.intake.phase e es place board
    later)
    different
one_went id j desk Exit e body later different =
    exit_went id j desk body
    (exit_turn e body.outlet (outlet_row body.outlet (out_input.Sensed e)) refl) different later
