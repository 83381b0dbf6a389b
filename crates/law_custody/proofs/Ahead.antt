-- A machine that has events of its sensors still to read: what a free intake in a standing session has read, and that its events are no matter to what it announces.
use Rattle.std.proofs.Common.{Bool, List, None, Ok, Option, Some, [], ap, false, inl, inr, refl, subst, sym, true, unwrap_or, ℕ, ◌∙◌, ◌∷◌, ◌≡◌, ◌⊎◌}
use Rattle.line_base.specs.declared.states.Seen.TheVariants as seen
use Rattle.line_base.specs.declared.states.SensorEvent.{SensorEvent}
use Rattle.line_base.specs.declared.states.SensorEvent.TheVariants as event
use Rattle.line_base.specs.declared.states.Side.TheVariants as sides
use Rattle.board_record.specs.declared.record.Record.{Record}
use Rattle.board_record.specs.declared.sensed.Sensed.{Sensed}
use Rattle.session_core.specs.declared.state.SessionState.{SessionState}
use Rattle.session_core.specs.declared.state.SessionState.TheVariants.{Standing}
use Rattle.line_world.specs.Moves.{Around, around_move, entry_sees}
use Rattle.line_world.specs.declared.gap.Gap.{Gap}
use Rattle.line_world.specs.declared.gap.Gap.TheVariants as gaps
use Rattle.line_world.specs.declared.moves.Move.{Move}
use Rattle.line_world.specs.declared.moves.Move.TheVariants as moves
use Rattle.line_world.specs.FloorPlan.{AtMachine}
use Rattle.handover_out.specs.declared.phase.Phase.{Phase as Out}
use Rattle.handover_out.specs.declared.phase.Phase.TheVariants as out
use Rattle.handover_in.specs.Row.{InRow, intake_row}
use Rattle.handover_in.specs.declared.input.InInput.{InInput}
use Rattle.handover_in.specs.declared.input.InInput.TheVariants as in_input
use Rattle.handover_in.specs.declared.phase.Phase.{Phase as In}
use Rattle.handover_in.specs.declared.phase.Phase.TheVariants as inn
use Rattle.law_custody.specs.Apart.{Exit, entry_idle, exit_called, exit_described, exit_finished, exit_finished_stop_sent, exit_idle, exit_none, exit_shaking}
use Rattle.law_custody.specs.Events.{EntryStep, with_unread_down}
use Rattle.law_custody.specs.Floor.{EntryFloor, ExitFloor, GapAt, gap_begun, gap_fresh, gap_home, gap_inside, gap_left, gap_lost, gap_stolen, in_free, in_stopped, in_taken_in, in_taking, in_waiting, on_back, on_full, on_gone, on_stolen, out_ended, out_idle, sees_across, sees_back, sees_begun, sees_full, sees_gone, sees_stolen}
use Rattle.law_custody.specs.Pair.{Ghost, LinkState, Pair}
use Rattle.law_custody.specs.Place.{NotAcross, Place}
use Rattle.law_custody.specs.Shape.{intake_done, no_handover}
use Rattle.law_custody.specs.Steps.{intake}
use Rattle.law_custody.specs.Talks.{Talks, apart, apart_start, apart_start_stop, live}
use Rattle.law_custody.specs.Words.{DownWord, UpWord, events_at}
use Rattle.law_custody.proofs.ReadEntry.{begun_taking_is}
use Rattle.law_custody.proofs.TurnsEntry.{never_begun, waits_begun}

-- ---- what is unread at the entry is no matter to a side without it

pub none_later : (g : Ghost) (l : LinkState) (us : List Sensed) → events_at sides.Entry us ≡ [] → Pair g (with_unread_down l us) → Pair g (with_unread_down l [])
none_later g l us e k = record {
  out = k.out;
  «in» = subst (λ es. EntryFloor l.intake.phase es l.around.between.entry_drive g.place g.board) e k.in;
  gap = k.gap;
  talk = k.talk;
}

pub still_later : (g : Ghost) (l : LinkState) (us : List Sensed) → events_at sides.Entry us ≡ [] → Pair g (with_unread_down l []) → Pair g (with_unread_down l us)
still_later g l us e k = record {
  out = k.out;
  «in» = subst (λ es. EntryFloor l.intake.phase es l.around.between.entry_drive g.place g.board) (sym e) k.in;
  gap = k.gap;
  talk = k.talk;
}

-- so an event of the entry that reads none goes as if nothing were unread
pub steps_ahead : {Gone : ℕ → Type 0} {above : List Record} (g : Ghost) (l : LinkState) (w : InInput) (us : List Sensed) → events_at sides.Entry us ≡ []
    → EntryStep Gone above g (with_unread_down l []) w [] l.down → EntryStep Gone above g (with_unread_down l us) w us l.down
steps_ahead g l w us e step = record {
  row = step.row;
  is = step.is;
  pair = λ ms said. let k = step.pair ms said in record {
    out = k.out;
    «in» = subst (λ es. EntryFloor step.row.after.phase es (unwrap_or step.row.act.drive l.around.between.entry_drive) g.place g.board) (sym e) k.in;
    gap = k.gap;
    talk = k.talk;
  };
  body = step.body;
  contents = step.contents;
  settles = step.settles;
  recalls = step.recalls;
  asked = step.asked;
}

-- ---- an intake that becomes free by what it reads has read all

-- where more is unread behind it, it reads that the board of its handover begins
data Begins : In → SensorEvent → Type 0 where
  begins_taking : {r : Record} {h : Bool} → Begins (inn.Taking r seen.NotStarted h) event.Begun
  begins_stopped : {r : Record} → Begins (inn.Stopped r seen.NotStarted None) event.Begun

reads_last : {b : Bool} {x y : SessionState} {o : Out} {of : Option ℕ} {rd : Bool} {i : In} {f : Option Record} {ri : Bool} {p : Place} {r : Record} {up : List UpWord} {down : List DownWord} {e : SensorEvent} {es : List SensorEvent} {ed : Bool}
    → EntryFloor i (e ∷ es) ed p r → Talks b x o of rd y i f ri p up down → (i ≡ inn.Idle) ⊎ ((es ≡ []) ⊎ Begins i e)
reads_last (in_free _ _) k = inl refl
reads_last (in_taking sees_begun) k = inr (inl refl)
reads_last (in_taking sees_across) k = inr (inl refl)
reads_last (in_taking sees_back) k = inr (inr begins_taking)
reads_last (in_taking sees_gone) k = inr (inr begins_taking)
reads_last (in_taking on_back) k = inr (inl refl)
reads_last (in_taking on_gone) k = inr (inl refl)
reads_last (in_taken_in sees_full) k = inr (inr begins_taking)
reads_last (in_taken_in on_full) k = inr (inl refl)
reads_last (in_stopped sees_begun) k = inr (inl refl)
reads_last (in_stopped sees_across) k = inr (inl refl)
reads_last (in_stopped {h = None} sees_back) k = inr (inr begins_stopped)
reads_last (in_stopped {h = None} sees_full) k = inr (inr begins_stopped)
reads_last (in_stopped {h = None} sees_gone) k = inr (inr begins_stopped)
reads_last (in_stopped {h = None} sees_stolen) k = inr (inr begins_stopped)
reads_last (in_stopped {h = Some _} sees_back) k = absurd (never_begun k)
reads_last (in_stopped {h = Some _} sees_full) k = absurd (never_begun k)
reads_last (in_stopped {h = Some _} sees_gone) k = absurd (never_begun k)
reads_last (in_stopped {h = Some _} sees_stolen) k = absurd (never_begun k)
reads_last (in_stopped on_back) k = inr (inl refl)
reads_last (in_stopped on_full) k = inr (inl refl)
reads_last (in_stopped on_gone) k = inr (inl refl)
reads_last (in_stopped on_stolen) k = inr (inl refl)
reads_last (in_waiting sees_begun) k = inr (inl refl)
reads_last (in_waiting sees_across) k = inr (inl refl)
reads_last (in_waiting sees_back) k = absurd (waits_begun k)
reads_last (in_waiting sees_full) k = absurd (waits_begun k)
reads_last (in_waiting sees_gone) k = absurd (waits_begun k)
reads_last (in_waiting sees_stolen) k = absurd (waits_begun k)
reads_last (in_waiting on_back) k = inr (inl refl)
reads_last (in_waiting on_full) k = inr (inl refl)
reads_last (in_waiting on_gone) k = inr (inl refl)
reads_last (in_waiting on_stolen) k = inr (inl refl)

-- and an intake that reads so holds its board still
abbrev phase_after : Option InRow → In
phase_after None = inn.Idle
phase_after (Some row) = row.after.phase

holds_still : {i : In} {e : SensorEvent} (f : Option Record) (ri : Bool) (row : InRow) → Begins i e → intake_row (intake i f ri) (in_input.Sensed e) ≡ Some row → row.after.phase ≡ inn.Idle → ⊥
holds_still f ri row (begins_taking {r = r} {h = h}) is free = let never : inn.Taking r seen.Incomplete h ≡ inn.Idle = ap phase_after (sym (begun_taking_is h r f ri) ∙ is) ∙ free in cc
holds_still f ri row (begins_stopped {r = r}) is free = let never : inn.Stopped r seen.Incomplete None ≡ inn.Idle = ap phase_after is ∙ free in cc

has_read : {i : In} {e : SensorEvent} {es : List SensorEvent} (f : Option Record) (ri : Bool) (row : InRow) → intake_row (intake i f ri) (in_input.Sensed e) ≡ Some row → row.after.phase ≡ inn.Idle
    → (i ≡ inn.Idle) ⊎ ((es ≡ []) ⊎ Begins i e) → (i ≡ inn.Idle) ⊎ (es ≡ [])
has_read f ri row is free (inl idle) = inl idle
has_read f ri row is free (inr (inl none)) = inr none
has_read f ri row is free (inr (inr begins)) = absurd (holds_still f ri row begins is free)

pub frees_read : (g : Ghost) (l : LinkState) (e : SensorEvent) (rest : List Sensed) (row : InRow) → Pair g (with_unread_down l (entry_sees e ∷ rest))
    → intake_row l.intake (in_input.Sensed e) ≡ Some row → row.after.phase ≡ inn.Idle → (l.intake.phase ≡ inn.Idle) ⊎ (events_at sides.Entry rest ≡ [])
frees_read g l e rest row k is free = has_read l.intake.offer l.intake.ready row is free (reads_last k.in k.talk)

-- ---- no board moves at the gap of a free intake whose session stands

-- an outlet that holds no board
pub data HoldsNone : Out → Type 0 where
  holds_idle : HoldsNone out.Idle
  holds_ended : {x : ℕ} → HoldsNone (out.Ended x)

exit_holds_none : {x : SessionState} {o : Out} {of : Option ℕ} {rd : Bool} {up : List UpWord} → Exit true x o of rd up → HoldsNone o
exit_holds_none exit_none = holds_idle
exit_holds_none exit_called = holds_idle
exit_holds_none exit_shaking = holds_idle
exit_holds_none exit_described = holds_idle
exit_holds_none (exit_idle _) = holds_idle
exit_holds_none exit_finished = holds_ended
exit_holds_none (exit_finished_stop_sent _) = holds_ended

-- beside a free intake whose session stands the outlet holds none
free_beside : {b : Bool} {x : SessionState} {o : Out} {of : Option ℕ} {rd : Bool} {f : Option Record} {ri : Bool} {p : Place} {up : List UpWord} {down : List DownWord}
    → Talks b x o of rd Standing inn.Idle f ri p up down → HoldsNone o
free_beside (live (no_handover _ _)) = holds_idle
free_beside (live (intake_done _)) = holds_ended
free_beside (apart_start _ a) = elim a [ ]
free_beside (apart_start_stop _ a) = elim a [ ]
free_beside (apart a (entry_idle _)) = exit_holds_none a

-- nothing lies in the gap, and the drive of the exit is off
pub record Rests (g : Gap) (xd : Bool) : Type 0 where
  pub free : g ≡ gaps.Free
  pub off : xd ≡ false

pub rests : {o : Out} {ue : List SensorEvent} {xd : Bool} {p : Place} {r : Record} {g : Gap} → HoldsNone o → ExitFloor o ue xd p r → NotAcross p → GapAt g p r → Rests g xd
rests holds_idle (out_idle _ n) m gap_fresh = record { free = refl; off = refl }
rests holds_idle (out_idle _ n) m gap_home = record { free = refl; off = refl }
rests holds_idle (out_idle _ n) m gap_begun = elim n [ ]
rests holds_idle (out_idle _ n) m gap_left = elim m [ ]
rests holds_idle (out_idle _ n) m gap_inside = record { free = refl; off = refl }
rests holds_idle (out_idle _ n) m gap_lost = record { free = refl; off = refl }
rests holds_idle (out_idle _ n) m gap_stolen = record { free = refl; off = refl }
rests holds_ended (out_ended _ n) m gap_fresh = record { free = refl; off = refl }
rests holds_ended (out_ended _ n) m gap_home = record { free = refl; off = refl }
rests holds_ended (out_ended _ n) m gap_begun = elim n [ ]
rests holds_ended (out_ended _ n) m gap_left = elim m [ ]
rests holds_ended (out_ended _ n) m gap_inside = record { free = refl; off = refl }
rests holds_ended (out_ended _ n) m gap_lost = record { free = refl; off = refl }
rests holds_ended (out_ended _ n) m gap_stolen = record { free = refl; off = refl }

pub free_near : {un : List SensorEvent} {ed : Bool} {p : Place} {r : Record} → EntryFloor inn.Idle un ed p r → NotAcross p
free_near (in_free _ m) = m

none_moves : (step : Move) (up down : AtMachine) (ed : Bool) (c : Around) → around_move step (record { up = up; between = record { lies = gaps.Free; exit_drive = false; entry_drive = ed }; down = down }) ≡ Ok c → ⊥
none_moves moves.Begin up down ed c e = cc
none_moves moves.Left up down ed c e = cc
none_moves moves.Enter up down ed c e = cc
none_moves moves.Back up down ed c e = cc
none_moves moves.HandIn up down ed c e = cc
none_moves moves.Take up down ed c e = cc

-- so no board moves there
pub rests_still : (step : Move) (l : LinkState) (c : Around) → Rests l.around.between.lies l.around.between.exit_drive → around_move step l.around ≡ Ok c → ⊥
rests_still step l c n e =
    let P : Gap → Bool → Type 0 = λ lies drive. around_move step (record { up = l.around.up; between = record { lies = lies; exit_drive = drive; entry_drive = l.around.between.entry_drive }; down = l.around.down }) ≡ Ok c in
    none_moves step l.around.up l.around.down l.around.between.entry_drive c (subst (λ drive. P gaps.Free drive) n.off (subst (λ lies. P lies l.around.between.exit_drive) n.free e))

pub moves_not : (step : Move) (l : LinkState) (g : Ghost) (c : Around) → Pair g l → l.entry ≡ Standing → l.intake.phase ≡ inn.Idle → around_move step l.around ≡ Ok c → ⊥
moves_not step l g c k y i e = rests_still step l c (rests (free_beside (rw (y, i) at k.talk)) k.out (free_near (rw i at k.in)) k.gap) e
