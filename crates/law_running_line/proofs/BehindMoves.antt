-- A BOARD THAT IS LET GO BEHIND THE READING MOVES: what goes on beside the relation goes on.
use Rattle.std.proofs.Common.{List, Ok, [], ap, false, inl, inr, refl, subst, sym, ℕ, ◌+◌, ◌∙◌, ◌∷◌, ◌≡◌, ◌≢◌, ◌⊎◌}
use Rattle.std.specs.List.{AllByRecursion}
use Rattle.line_base.specs.declared.states.SensorEvent.{SensorEvent}
use Rattle.line_base.specs.declared.states.SensorEvent.TheVariants as events
use Rattle.line_base.specs.declared.states.Side.TheVariants.{Entry, Exit}
use Rattle.line_base.specs.declared.states.Transfer.TheVariants as transfer
use Rattle.board_record.specs.declared.sensed.Sensed.{Sensed}
use Rattle.hermes_horizontal.specs.declared.message.Horizontal.{Horizontal}
use Rattle.hermes_horizontal.specs.declared.message.Horizontal.TheVariants as message
use Rattle.hermes_horizontal.specs.declared.message.Message.{Message}
use Rattle.line_world.specs.FloorPlan.{AtMachine, FloorPlan, IsGap, machine_at}
use Rattle.line_world.specs.Moved.{IsMove, begins, begun_is_taken, enters, goes_back, is_handed_in, leaves, left_is_taken}
use Rattle.line_world.specs.Moves.{around_of, floor_move}
use Rattle.line_world.specs.Moves as world
use Rattle.line_world.specs.declared.moves.Move.{Move}
use Rattle.line_world.specs.declared.moves.Move.TheVariants as moves
use Rattle.line_world.proofs.Inverting.{move_is}
use Rattle.line_world.proofs.Keeping.{Done, done_of, down_after, is_gap_of, other_machine_after, up_after}
use Rattle.node_core.specs.Node.{NodeState}
use Rattle.law_custody.specs.Facts.{Has as HasEvent, HasDown, HasUp, down_first, down_later, up_first, up_later}
use Rattle.law_custody.specs.Pair.{Ghost, LinkState}
use Rattle.law_custody.specs.Place as places
use Rattle.law_custody.specs.Place.{MovesPlace, Place}
use Rattle.law_custody.specs.Unread.{IsAwaited, IsBehind, NotOver, awaits_description, awaits_end, not_over_in_gap}
use Rattle.law_custody.specs.Words.{DownWord, StartTransport, TransportFinished, UpstreamService, down_words, events_at, up_words}
use Rattle.law_custody.proofs.Awaited.{still_down, still_up}
use Rattle.law_custody.proofs.Lists.{exit_other}
use Rattle.law_custody.proofs.UnreadMoves.{moves_behind}
use Rattle.law_link_messages.specs.Heard.{bodies}
use Rattle.line_step.proofs.Numbers.{same_or_not}
use Rattle.law_one_standing.specs.Carried.{Trace, stand_of}
use Rattle.law_one_standing.specs.Relation.{link_between}
use Rattle.law_running_line.specs.Reading.{Behind as LetBehind, MayMove}
use Rattle.law_running_line.specs.Running.{Running, count_unread, unread_by, with_floor}
use Rattle.law_running_line.specs.RunSteps.{Moves}
use Rattle.law_running_line.specs.Stands.{Stands, between_of, line_of}
use Rattle.law_running_line.specs.Timed.{OnTime, Times, awaits_reading}
use Rattle.law_running_line.proofs.BehindTurn.{TurnsBehind, timed_as, lift_apart}
use Rattle.law_running_line.proofs.FloorMoves.{MovedTo, moved_to, entry_stays}
use Rattle.law_running_line.proofs.TimedBytes.{timed_free}
use Rattle.law_running_line.proofs.WiresLink.{all_from, at_amid}

-- ---- what each machine has unread behind a move

down_stays : {step : Move} {old new : world.Around} → IsMove step old new → events_at Exit new.down.unread ≡ events_at Exit old.down.unread
down_stays (begins {heard = heard}) = exit_other heard _
down_stays leaves = refl
down_stays (enters {heard = heard}) = exit_other heard _
down_stays (goes_back {heard = heard}) = exit_other heard _
down_stays (is_handed_in {heard = heard}) = exit_other heard _
down_stays (begun_is_taken {heard = heard}) = exit_other heard _
down_stays (left_is_taken {heard = heard}) = exit_other heard _

exit_kept : (gap : ℕ) (step : Move) (s : Running) (plan : FloorPlan) → Done gap step s.floor plan → (k : ℕ) → k ≢ gap → (k ≡ gap + 1) ⊎ (k ≢ gap + 1) → events_at Exit (unread_by k (with_floor plan s)) ≡ events_at Exit (unread_by k s)
exit_kept gap step s plan done k apart (inl is) =
    let there : IsGap s.floor gap = is_gap_of s.floor gap done.there in
    let down : machine_at plan (gap + 1) ≡ done.around.down = ap (λ (f : FloorPlan). machine_at f (gap + 1)) done.after ∙ down_after s.floor gap done.around there in
    subst (λ (n : ℕ). events_at Exit (machine_at plan n).unread ≡ events_at Exit (machine_at s.floor n).unread) (sym is)
    (ap (λ (m : AtMachine). events_at Exit m.unread) down ∙ down_stays (move_is step (around_of s.floor gap) done.around done.row))
exit_kept gap step s plan done k apart (inr other) =
    let there : IsGap s.floor gap = is_gap_of s.floor gap done.there in
    ap (λ (m : AtMachine). events_at Exit m.unread) (ap (λ (f : FloorPlan). machine_at f k) done.after ∙ other_machine_after s.floor gap k done.around there.counted apart other)

entry_kept : (gap : ℕ) (step : Move) (s : Running) (plan : FloorPlan) → Done gap step s.floor plan → (k : ℕ) → k ≢ gap + 1 → (k ≡ gap) ⊎ (k ≢ gap) → events_at Entry (unread_by k (with_floor plan s)) ≡ events_at Entry (unread_by k s)
entry_kept gap step s plan done k other (inl is) =
    let there : IsGap s.floor gap = is_gap_of s.floor gap done.there in
    let up : machine_at plan gap ≡ done.around.up = ap (λ (f : FloorPlan). machine_at f gap) done.after ∙ up_after s.floor gap done.around there in
    subst (λ (n : ℕ). events_at Entry (machine_at plan n).unread ≡ events_at Entry (machine_at s.floor n).unread) (sym is)
    (ap (λ (m : AtMachine). events_at Entry m.unread) up ∙ entry_stays (move_is step (around_of s.floor gap) done.around done.row))
entry_kept gap step s plan done k other (inr apart) =
    let there : IsGap s.floor gap = is_gap_of s.floor gap done.there in
    ap (λ (m : AtMachine). events_at Entry m.unread) (ap (λ (f : FloorPlan). machine_at f k) done.after ∙ other_machine_after s.floor gap k done.around there.counted apart other)

-- ---- what comes on the gap's link waits for no reading

first_up : (what : Horizontal) (rest : List Horizontal) → ((z : ℕ) → HasUp (StartTransport z) (up_words (what ∷ rest)) → ⊥) → (awaits_reading Exit what ≡ false) × ((z : ℕ) → HasUp (StartTransport z) (up_words rest) → ⊥)
first_up (message.StartTransport id) rest none = absurd (none id up_first)
first_up (message.StopTransport state id) rest none = (refl, λ z h. none z (up_later h))
first_up (message.MachineReady quality) rest none = (refl, λ z h. none z (up_later h))
first_up message.RevokeMachineReady rest none = (refl, λ z h. none z (up_later h))
first_up (message.ServiceDescription service) rest none = (refl, λ z h. none z (up_later h))
first_up _ rest none = (refl, none)

ups_free : (said : List Message) → ((z : ℕ) → HasUp (StartTransport z) (up_words (bodies said)) → ⊥) → AllByRecursion (λ (one : Message). awaits_reading Exit one.body ≡ false) said
ups_free [] none = tt
ups_free (one ∷ said) none = let parts = first_up one.body (bodies said) none in (parts.0, ups_free said parts.1)

not_complete : {z : ℕ} → IsAwaited (TransportFinished transfer.NotStarted z)
not_complete = awaits_end (λ is. wrong is)
  where
    wrong : transfer.NotStarted ≡ transfer.Complete → ⊥
    wrong is = cc

half_complete : {z : ℕ} → IsAwaited (TransportFinished transfer.Incomplete z)
half_complete = awaits_end (λ is. wrong is)
  where
    wrong : transfer.Incomplete ≡ transfer.Complete → ⊥
    wrong is = cc

first_down : (what : Horizontal) (rest : List Horizontal) → ((w : DownWord) → IsAwaited w → HasDown w (down_words (what ∷ rest)) → ⊥) → (awaits_reading Entry what ≡ false) × ((w : DownWord) → IsAwaited w → HasDown w (down_words rest) → ⊥)
first_down (message.ServiceDescription service) rest none = absurd (none UpstreamService awaits_description down_first)
first_down (message.TransportFinished transfer.NotStarted id) rest none = absurd (none (TransportFinished transfer.NotStarted id) not_complete down_first)
first_down (message.TransportFinished transfer.Incomplete id) rest none = absurd (none (TransportFinished transfer.Incomplete id) half_complete down_first)
first_down (message.TransportFinished transfer.Complete id) rest none = (refl, λ w a h. none w a (down_later h))
first_down (message.BoardAvailable board) rest none = (refl, λ w a h. none w a (down_later h))
first_down message.RevokeBoardAvailable rest none = (refl, λ w a h. none w a (down_later h))
first_down _ rest none = (refl, none)

downs_free : (said : List Message) → ((w : DownWord) → IsAwaited w → HasDown w (down_words (bodies said)) → ⊥) → AllByRecursion (λ (one : Message). awaits_reading Entry one.body ≡ false) said
downs_free [] none = tt
downs_free (one ∷ said) none = let parts = first_down one.body (bodies said) none in (parts.0, downs_free said parts.1)

-- the link of a gap, as the relation has it
abbrev link_of_gap : Trace → Running → ℕ → LinkState
link_of_gap t s gap = link_between (stand_of (line_of s) gap) (between_of t s gap) (stand_of (line_of s) (gap + 1))

gap_on_time : (gap : ℕ) (step : Move) (t : Trace) (s : Running) (plan : FloorPlan) → Stands t s → Done gap step s.floor plan → OnTime (with_floor plan s) gap
gap_on_time gap step t s plan st done =
    let now : Running = with_floor plan s in
    let l : LinkState = link_of_gap t s gap in
    let pair = (st.keeps.neighbours.at gap).pair in
    let none_up : (z : ℕ) → HasUp (StartTransport z) (up_words (t.up gap)) → ⊥ = λ z h. still_up step (t.ghost gap) l done.around z pair h done.row in
    let none_down : (w : DownWord) → IsAwaited w → HasDown w (down_words (t.down gap)) → ⊥ = λ w a h. still_down step (t.ghost gap) l done.around w pair a h done.row in
    record {
      up = all_from _ (s.wires gap) (λ wire amid has_it. let k = at_amid _ amid (st.carried gap).up has_it in
          timed_free (count_unread gap Exit now) k.said k.fit k.flows (ups_free k.said (subst (λ (ms : List Horizontal). (z : ℕ) → HasUp (StartTransport z) (up_words ms) → ⊥) k.are none_up)));
      down = all_from _ (s.wires gap) (λ wire amid has_it. let k = at_amid _ amid (st.carried gap).down has_it in
          timed_free (count_unread (gap + 1) Entry now) k.said k.fit k.flows (downs_free k.said (subst (λ (ms : List Horizontal). (w : DownWord) → IsAwaited w → HasDown w (down_words ms) → ⊥) k.are none_down)));
    }

moved_on_time : (gap : ℕ) (step : Move) (t : Trace) (s : Running) (plan : FloorPlan) → Stands t s → Done gap step s.floor plan → ((link : ℕ) → OnTime s link) → (k : ℕ) → (k ≡ gap) ⊎ (k ≢ gap) → OnTime (with_floor plan s) k
moved_on_time gap step t s plan st done on_time k (inl is) = subst (λ (n : ℕ). OnTime (with_floor plan s) n) (sym is) (gap_on_time gap step t s plan st done)
moved_on_time gap step t s plan st done on_time k (inr apart) =
    timed_as {s = s} {s2 = with_floor plan s} k refl refl (exit_kept gap step s plan done k apart (same_or_not k (gap + 1))) (entry_kept gap step s plan done (k + 1) (lift_apart k gap apart) (same_or_not (k + 1) gap)) refl (on_time k)

-- ---- which boards have begun, and gone across

-- at the gap itself
gap_behind : (gap : ℕ) (step : Move) (t : Trace) (s : Running) (plan : FloorPlan) → Stands t s → (done : Done gap step s.floor plan) → (to : MovedTo gap step t s plan) → Times t s gap → (step ≡ moves.Begin → ⊥)
    → (step ≡ moves.Left → HasEvent events.Begun (events_at Entry (unread_by (gap + 1) s)) → ⊥)
    → IsBehind (record { place = (to.trace.ghost gap).place; board = (t.ghost gap).board }) (record (link_of_gap t s gap) { around = done.around })
gap_behind gap step t s plan st done to times begin left =
    moves_behind step (t.ghost gap) (link_of_gap t s gap) (to.trace.ghost gap).place done.around done.row to.moved begin left (record { exit = times.begun; entry = times.over })

moved_begun : (gap : ℕ) (step : Move) (t : Trace) (s : Running) (plan : FloorPlan) → Stands t s → Done gap step s.floor plan → MovedTo gap step t s plan → ((link : ℕ) → Times t s link) → (step ≡ moves.Begin → ⊥)
    → (step ≡ moves.Left → HasEvent events.Begun (events_at Entry (unread_by (gap + 1) s)) → ⊥) → (k : ℕ) → (k ≡ gap) ⊎ (k ≢ gap) → HasEvent events.Begun (events_at Exit (unread_by k (with_floor plan s))) → ⊥
moved_begun gap step t s plan st done to times begin left k (inl is) has_it =
    let there : IsGap s.floor gap = is_gap_of s.floor gap done.there in
    let up : machine_at plan gap ≡ done.around.up = ap (λ (f : FloorPlan). machine_at f gap) done.after ∙ up_after s.floor gap done.around there in
    let own : HasEvent events.Begun (events_at Exit (machine_at plan gap).unread) = subst (λ (n : ℕ). HasEvent events.Begun (events_at Exit (machine_at plan n).unread)) is has_it in
    (gap_behind gap step t s plan st done to (times gap) begin left).exit (subst (λ (m : AtMachine). HasEvent events.Begun (events_at Exit m.unread)) up own)
moved_begun gap step t s plan st done to times begin left k (inr apart) has_it =
    (times k).begun (subst (λ (es : List SensorEvent). HasEvent events.Begun es) (exit_kept gap step s plan done k apart (same_or_not k (gap + 1))) has_it)

-- of the other links
other_over : (gap : ℕ) (step : Move) (t : Trace) (s : Running) (plan : FloorPlan) → Done gap step s.floor plan → (to : MovedTo gap step t s plan) → ((link : ℕ) → Times t s link) → (k : ℕ) → k ≢ gap
    → HasEvent events.Begun (events_at Entry (unread_by (k + 1) (with_floor plan s))) → NotOver (to.trace.ghost k).place
other_over gap step t s plan done to times k apart has_it =
    subst (λ (g : Ghost). NotOver g.place) (sym (to.others k apart))
    ((times k).over (subst (λ (es : List SensorEvent). HasEvent events.Begun es) (entry_kept gap step s plan done (k + 1) (lift_apart k gap apart) (same_or_not (k + 1) gap)) has_it))

moved_over : (gap : ℕ) (step : Move) (t : Trace) (s : Running) (plan : FloorPlan) → Stands t s → Done gap step s.floor plan → (to : MovedTo gap step t s plan) → ((link : ℕ) → Times t s link) → (step ≡ moves.Begin → ⊥)
    → (step ≡ moves.Left → HasEvent events.Begun (events_at Entry (unread_by (gap + 1) s)) → ⊥) → (k : ℕ) → (k ≡ gap) ⊎ (k ≢ gap) → HasEvent events.Begun (events_at Entry (unread_by (k + 1) (with_floor plan s))) → NotOver (to.trace.ghost k).place
moved_over gap step t s plan st done to times begin left k (inl is) has_it =
    let there : IsGap s.floor gap = is_gap_of s.floor gap done.there in
    let down : machine_at plan (gap + 1) ≡ done.around.down = ap (λ (f : FloorPlan). machine_at f (gap + 1)) done.after ∙ down_after s.floor gap done.around there in
    let own : HasEvent events.Begun (events_at Entry (machine_at plan (gap + 1)).unread) = subst (λ (n : ℕ). HasEvent events.Begun (events_at Entry (machine_at plan (n + 1)).unread)) is has_it in
    subst (λ (n : ℕ). NotOver (to.trace.ghost n).place) (sym is)
    ((gap_behind gap step t s plan st done to (times gap) begin left).entry (subst (λ (m : AtMachine). HasEvent events.Begun (events_at Entry m.unread)) down own))
moved_over gap step t s plan st done to times begin left k (inr apart) has_it = other_over gap step t s plan done to times k apart has_it

-- ---- A MOVE

move_behind : (gap : ℕ) (step : Move) (t : Trace) (s : Running) (plan : FloorPlan) → Stands t s → ((link : ℕ) → Times t s link) → floor_move gap step s.floor ≡ Ok plan → (step ≡ moves.Begin → ⊥)
    → (step ≡ moves.Left → HasEvent events.Begun (events_at Entry (unread_by (gap + 1) s)) → ⊥) → TurnsBehind gap t (with_floor plan s)
move_behind gap step t s plan st times is_done begin left =
    let done : Done gap step s.floor plan = done_of gap step s.floor plan is_done in
    let to : MovedTo gap step t s plan = moved_to gap step t s plan st is_done in
    record {
      trace = to.trace;
      stands = to.stands;
      times = λ k. record {
        begun = moved_begun gap step t s plan st done to times begin left k (same_or_not k gap);
        over = moved_over gap step t s plan st done to times begin left k (same_or_not k gap);
        on_time = moved_on_time gap step t s plan st done (λ link. (times link).on_time) k (same_or_not k gap);
      };
    }

may_begin : (step : Move) (below : NodeState) (unread : List Sensed) → MayMove LetBehind step below unread → step ≡ moves.Begin → ⊥
may_begin moves.Begin below unread may is = may
may_begin moves.Left below unread may is = cc
may_begin moves.Enter below unread may is = cc
may_begin moves.Back below unread may is = cc
may_begin moves.HandIn below unread may is = cc
may_begin moves.Take below unread may is = cc

may_leave : (step : Move) (below : NodeState) (unread : List Sensed) → MayMove LetBehind step below unread → step ≡ moves.Left → HasEvent events.Begun (events_at Entry unread) → ⊥
may_leave moves.Left below unread may is = may.read
may_leave moves.Begin below unread may is = cc
may_leave moves.Enter below unread may is = cc
may_leave moves.Back below unread may is = cc
may_leave moves.HandIn below unread may is = cc
may_leave moves.Take below unread may is = cc

pub moves_stand_behind : {gap : ℕ} {step : Move} {before after : Running} (t : Trace) → Stands t before → ((link : ℕ) → Times t before link) → Moves LetBehind gap step before after → TurnsBehind gap t after
moves_stand_behind {gap} {step} {before} {after} t st times m =
    subst (λ (s : Running). TurnsBehind gap t s) (sym m.after_is)
    (move_behind gap step t before m.floor st times m.moved (may_begin step m.below (unread_by (gap + 1) before) m.may) (may_leave step m.below (unread_by (gap + 1) before) m.may))

-- ---- A BOARD BEGINS: all goes on but what is unread at the exit that it begins at

pub record HasBegun (gap : ℕ) (t : Trace) (s : Running) (plan : FloorPlan) : Type 0 where
  pub trace : Trace
  pub stands : Stands trace (with_floor plan s)
  pub over : (link : ℕ) → HasEvent events.Begun (events_at Entry (unread_by (link + 1) (with_floor plan s))) → NotOver (trace.ghost link).place
  pub others : (link : ℕ) → link ≢ gap → HasEvent events.Begun (events_at Exit (unread_by link (with_floor plan s))) → ⊥
  pub on_time : (link : ℕ) → OnTime (with_floor plan s) link

in_gap : {p q : Place} → MovesPlace moves.Begin p q → NotOver q
in_gap places.begins = not_over_in_gap

pub board_begins : (gap : ℕ) (t : Trace) (s : Running) (plan : FloorPlan) → Stands t s → ((link : ℕ) → Times t s link) → floor_move gap moves.Begin s.floor ≡ Ok plan → HasBegun gap t s plan
board_begins gap t s plan st times is_done =
    let done : Done gap moves.Begin s.floor plan = done_of gap moves.Begin s.floor plan is_done in
    let to : MovedTo gap moves.Begin t s plan = moved_to gap moves.Begin t s plan st is_done in
    record {
      trace = to.trace;
      stands = to.stands;
      over = λ k has_it. elim (same_or_not k gap) [
        | inl is ↦ subst (λ (n : ℕ). NotOver (to.trace.ghost n).place) (sym is) (in_gap to.moved)
        | inr apart ↦ other_over gap moves.Begin t s plan done to times k apart has_it
      ];
      others = λ k apart has_it. (times k).begun (subst (λ (es : List SensorEvent). HasEvent events.Begun es) (exit_kept gap moves.Begin s plan done k apart (same_or_not k (gap + 1))) has_it);
      on_time = λ k. moved_on_time gap moves.Begin t s plan st done (λ link. (times link).on_time) k (same_or_not k gap);
    }
