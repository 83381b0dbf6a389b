-- Lines that don't reach the handover at a gap, and the moves of its board.
use Rattle.std.proofs.Common.{Bool, List, Result, Ok, [], ap, arith, false, refl, subst, sym, true, ℕ, ◌++◌, ◌+◌, ◌∙◌, ◌∷◌, ◌≡◌, ◌≢◌, ◌≤◌, ◌⊎◌, inl, inr}
use Rattle.std.proofs.lemmas.Bool.{false≢true}
use Rattle.line_base.specs.declared.states.SensorEvent.{SensorEvent}
use Rattle.line_base.specs.declared.states.SensorEvent.TheVariants as sensors
use Rattle.line_base.specs.declared.states.Side.TheVariants.{Entry, Exit}
use Rattle.board_record.specs.declared.record.Record.{Record}
use Rattle.board_record.specs.declared.sensed.Sensed.{Sensed}
use Rattle.hermes_horizontal.specs.declared.message.Horizontal.{Horizontal}
use Rattle.line_world.specs.FloorPlan.{AtMachine, FloorPlan, IsWhole, gap_at, machine_at}
use Rattle.line_world.specs.Moved.{IsFloorMove, IsMove, begins, begun_is_taken, enters, goes_back, is_handed_in, leaves, left_is_taken}
use Rattle.line_world.specs.Moves.{Around, entry_sees, exit_sees, floor_move}
use Rattle.line_world.specs.declared.board.Board.{Board}
use Rattle.line_world.specs.declared.gap.AtGap.{AtGap}
use Rattle.line_world.specs.declared.gap.Gap.{Gap}
use Rattle.line_world.specs.declared.gap.Gap.TheVariants as gaps
use Rattle.line_world.specs.declared.moves.Move.{Move}
use Rattle.line_world.specs.declared.moves.Move.TheVariants as moves
use Rattle.line_world.specs.declared.moves.MoveNo.{MoveNo}
use Rattle.line_world.proofs.Inverting.{floor_move_is}
use Rattle.line_world.proofs.Keeping.{between_after, down_after, up_after}
use Rattle.law_custody.specs.Words.{events_at}
use Rattle.law_custody.proofs.Lists.{entry-append, entry_other, exit-append, exit_other}
use Rattle.node_core.specs.Node.{NodeState}
use Rattle.law_link_messages.specs.Heard.{bodies}
use Rattle.line_step.specs.Lines.{moved}
use Rattle.line_step.specs.Numbered.{Between, ChangesGap, ChangesLink, ChangesMachine, Stand, between_in, node_at, stand_at}
use Rattle.line_step.specs.Reasons.{has_link}
use Rattle.line_step.specs.State.{LineState, with_world}
use Rattle.line_step.specs.World.{link_at, with_floor}
use Rattle.line_step.proofs.Changing.{moved_changes}
use Rattle.line_step.proofs.Numbers.{same_or_not}
use Rattle.law_twelve_steps.proofs.Going.{Forth, IsGap as IsGapOf, LiesAs, Stage, lies_across, lies_begun, lies_fresh, lies_inside}
use Rattle.law_twelve_steps.proofs.Lower.{IsLower, Lower, readies, asked, takes, stopped, settled}
use Rattle.law_twelve_steps.proofs.Stage.{Joint, Way, across, begun, entry_on, exit_on, fresh, inside, left_of}
use Rattle.law_twelve_steps.proofs.Stage as stage
use Rattle.law_twelve_steps.proofs.Texts.{Carrying}
use Rattle.law_twelve_steps.proofs.Upper.{IsUpper, Upper, offers, moves as moves_out, ended, over}

-- ---- what the handover sees is as it was

pub record Untouched (k : ℕ) (s next : LineState) : Type 0 where
  pub above : node_at next k ≡ node_at s k
  pub below : node_at next (k + 1) ≡ node_at s (k + 1)
  pub up_seen : events_at Exit (machine_at next.world.floor k).unread ≡ events_at Exit (machine_at s.world.floor k).unread
  pub down_seen : events_at Entry (machine_at next.world.floor (k + 1)).unread ≡ events_at Entry (machine_at s.world.floor (k + 1)).unread
  pub between : between_in k next.world ≡ between_in k s.world
  pub linked : has_link k s ≡ true → has_link k next ≡ true

pub stage_untouched : {k : ℕ} {id : Record} {left : ℕ} {told told_now : Bool} {s next : LineState} → Untouched k s next → (told ≡ true → told_now ≡ true) → Stage k id left told s → Stage k id left told_now next
stage_untouched {k = k} {s = s} {next = next} same later st = record {
  a = st.a;
  b = st.b;
  named = st.named;
  taken = st.taken;
  same = st.same;
  short = st.short;
  w = st.w;
  u = st.u;
  l = st.l;
  up_seen = st.up_seen;
  down_seen = st.down_seen;
  up = st.up;
  down = st.down;
  linked = same.linked st.linked;
  upper = subst (λ (n : NodeState). IsUpper st.a st.u n.lane.body) (sym same.above) st.upper;
  lower = subst (λ (n : NodeState). IsLower n.capacity st.b st.l n.lane.body) (sym same.below) st.lower;
  up_unread = same.up_seen ∙ st.up_unread;
  down_unread = same.down_seen ∙ st.down_unread;
  link = subst (λ (b : Between). Carrying (node_at next k).lane.exit_bytes (node_at next (k + 1)).lane.entry_bytes b.link st.up st.down) (sym same.between)
      (subst (λ (n : NodeState). Carrying n.lane.exit_bytes (node_at next (k + 1)).lane.entry_bytes (link_at k s.world) st.up st.down) (sym same.above)
      (subst (λ (n : NodeState). Carrying (node_at s k).lane.exit_bytes n.lane.entry_bytes (link_at k s.world) st.up st.down) (sym same.below) st.link));
  gap = subst (λ (b : Between). IsGapOf st.w st.u st.l b.gap) (sym same.between) st.gap;
  joint = st.joint;
  few = st.few;
  settles = λ is. later (st.settles is);
}

pub forth_untouched : {k : ℕ} {id : Record} {left : ℕ} {told told_now : Bool} {s next : LineState} → Untouched k s next → (told ≡ true → told_now ≡ true) → Stage k id left told s → Forth k id left 0 told_now next
forth_untouched {left = left} same later st = record { now = left; fewer = omega arith; stage = stage_untouched same later st }

-- behind one line that doesn't reach it, another may
pub untouched_then : {k : ℕ} {s one next : LineState} → Untouched k s one → Untouched k one next → Untouched k s next
untouched_then x y = record { above = y.above ∙ x.above; below = y.below ∙ x.below; up_seen = y.up_seen ∙ x.up_seen; down_seen = y.down_seen ∙ x.down_seen; between = y.between ∙ x.between; linked = λ is. y.linked (x.linked is) }

pub untouched_self : (k : ℕ) (s : LineState) → Untouched k s s
untouched_self k s = record { above = refl; below = refl; up_seen = refl; down_seen = refl; between = refl; linked = λ is. is }

stands_same : (k : ℕ) (s next : LineState) → stand_at next k ≡ stand_at s k → stand_at next (k + 1) ≡ stand_at s (k + 1) → between_in k next.world ≡ between_in k s.world → (has_link k s ≡ true → has_link k next ≡ true) → Untouched k s next
stands_same k s next above below between linked = record {
  above = ap (λ (x : Stand). x.node) above;
  below = ap (λ (x : Stand). x.node) below;
  up_seen = ap (λ (x : Stand). events_at Exit x.place.unread) above;
  down_seen = ap (λ (x : Stand). events_at Entry x.place.unread) below;
  between = between;
  linked = linked;
}

-- a machine that is neither of the two changes nothing there
pub machine_beyond : (k m : ℕ) (s next : LineState) → m ≢ k → m ≢ k + 1 → ChangesMachine m s next → (has_link k s ≡ true → has_link k next ≡ true) → Untouched k s next
machine_beyond k m s next above below changes linked =
    let up : k ≢ m = omega (arith, above) in
    let down : k + 1 ≢ m = omega (arith, below) in
    stands_same k s next (changes.machines k up) (changes.machines (k + 1) down) (changes.links k up down) linked

pub link_beyond : (k link : ℕ) (s next : LineState) → link ≢ k → ChangesLink link s next → (has_link k s ≡ true → has_link k next ≡ true) → Untouched k s next
link_beyond k link s next apart changes linked =
    let other : k ≢ link = omega (arith, apart) in
    stands_same k s next (changes.machines k) (changes.machines (k + 1)) (changes.links k other) linked

-- ---- a move at another gap: each machine's sensor of this gap sees nothing

entry_stays : {step : Move} {old new : Around} → IsMove step old new → events_at Entry new.up.unread ≡ events_at Entry old.up.unread
entry_stays (begins {seen = seen}) = entry_other seen _
entry_stays (leaves {seen = seen}) = entry_other seen _
entry_stays enters = refl
entry_stays (goes_back {seen = seen}) = entry_other seen _
entry_stays is_handed_in = refl
entry_stays (begun_is_taken {seen = seen}) = entry_other seen _
entry_stays (left_is_taken {seen = seen}) = entry_other seen _

exit_stays : {step : Move} {old new : Around} → IsMove step old new → events_at Exit new.down.unread ≡ events_at Exit old.down.unread
exit_stays (begins {heard = heard}) = exit_other heard _
exit_stays leaves = refl
exit_stays (enters {heard = heard}) = exit_other heard _
exit_stays (goes_back {heard = heard}) = exit_other heard _
exit_stays (is_handed_in {heard = heard}) = exit_other heard _
exit_stays (begun_is_taken {heard = heard}) = exit_other heard _
exit_stays (left_is_taken {heard = heard}) = exit_other heard _

up_elsewhere : (k gap : ℕ) (step : Move) (s : LineState) (plan : FloorPlan) → gap ≢ k → IsFloorMove gap step s.world.floor plan → ChangesGap gap s (with_world (with_floor plan s.world) s) → (k ≡ gap + 1) ⊎ (k ≢ gap + 1) → events_at Exit (machine_at plan k).unread ≡ events_at Exit (machine_at s.world.floor k).unread
up_elsewhere k gap step s plan apart m changes (inl is) =
    let down : machine_at plan (gap + 1) ≡ m.around.down = ap (λ (f : FloorPlan). machine_at f (gap + 1)) m.after ∙ down_after s.world.floor gap m.around m.there in
    ap (λ (n : ℕ). events_at Exit (machine_at plan n).unread) is ∙ (ap (λ (x : AtMachine). events_at Exit x.unread) down ∙ (exit_stays m.done ∙ ap (λ (n : ℕ). events_at Exit (machine_at s.world.floor n).unread) (sym is)))
up_elsewhere k gap step s plan apart m changes (inr other) =
    let here : k ≢ gap = omega (arith, apart) in
    ap (λ (x : Stand). events_at Exit x.place.unread) (changes.machines k here other)

down_elsewhere : (k gap : ℕ) (step : Move) (s : LineState) (plan : FloorPlan) → gap ≢ k → IsFloorMove gap step s.world.floor plan → ChangesGap gap s (with_world (with_floor plan s.world) s) → (k + 1 ≡ gap) ⊎ (k + 1 ≢ gap) → events_at Entry (machine_at plan (k + 1)).unread ≡ events_at Entry (machine_at s.world.floor (k + 1)).unread
down_elsewhere k gap step s plan apart m changes (inl is) =
    let up : machine_at plan gap ≡ m.around.up = ap (λ (f : FloorPlan). machine_at f gap) m.after ∙ up_after s.world.floor gap m.around m.there in
    ap (λ (n : ℕ). events_at Entry (machine_at plan n).unread) is ∙ (ap (λ (x : AtMachine). events_at Entry x.unread) up ∙ (entry_stays m.done ∙ ap (λ (n : ℕ). events_at Entry (machine_at s.world.floor n).unread) (sym is)))
down_elsewhere k gap step s plan apart m changes (inr other) =
    let last : k + 1 ≢ gap + 1 = omega (arith, apart) in
    ap (λ (x : Stand). events_at Entry x.place.unread) (changes.machines (k + 1) other last)

pub move_beyond : (k gap : ℕ) (step : Move) (s : LineState) (plan : FloorPlan) → gap ≢ k → floor_move gap step s.world.floor ≡ Ok plan → Untouched k s (with_world (with_floor plan s.world) s)
move_beyond k gap step s plan apart is =
    let m = floor_move_is gap step s.world.floor plan is in
    let changes : ChangesGap gap s (with_world (with_floor plan s.world) s) = subst (λ (answer : Result FloorPlan MoveNo). ChangesGap gap s (moved answer s)) is (moved_changes gap step s) in
    let other : k ≢ gap = omega (arith, apart) in
    record {
      above = refl;
      below = refl;
      up_seen = up_elsewhere k gap step s plan apart m changes (same_or_not k (gap + 1));
      down_seen = down_elsewhere k gap step s plan apart m changes (same_or_not (k + 1) gap);
      between = changes.links k other;
      linked = λ there. there;
    }

-- ---- the board moves forth at this gap

-- what a move that is done at this gap tells of what was there, and of what is there then
pub record Begins (old new : Around) : Type 0 where
  pub free : old.between.lies ≡ gaps.Free
  pub on : old.between.exit_drive ≡ true
  pub up : new.up.unread ≡ old.up.unread ++ exit_sees sensors.Begun ∷ []
  pub down : new.down.unread ≡ old.down.unread ++ entry_sees sensors.Begun ∷ []
  pub board : Board
  pub lies : new.between ≡ record old.between { lies = gaps.Begun board }

begin_is : {old new : Around} → IsMove moves.Begin old new → Begins old new
begin_is (begins {board = board}) = record { free = refl; on = refl; up = refl; down = refl; board = board; lies = refl }

pub record Leaves (old new : Around) : Type 0 where
  pub was : Board
  pub begun : old.between.lies ≡ gaps.Begun was
  pub up : new.up.unread ≡ old.up.unread ++ exit_sees sensors.Left ∷ []
  pub down : new.down.unread ≡ old.down.unread
  pub board : Board
  pub lies : new.between ≡ record old.between { lies = gaps.Left board; exit_drive = false }

left_is : {old new : Around} → IsMove moves.Left old new → Leaves old new
left_is (leaves {board = board}) = record { was = board; begun = refl; up = refl; down = refl; board = board; lies = refl }

pub record Enters (old new : Around) : Type 0 where
  pub was : Board
  pub left : old.between.lies ≡ gaps.Left was
  pub up : new.up.unread ≡ old.up.unread
  pub down : new.down.unread ≡ old.down.unread ++ entry_sees sensors.Full ∷ []
  pub lies : new.between ≡ record old.between { lies = gaps.Free; entry_drive = false }

enter_is : {old new : Around} → IsMove moves.Enter old new → Enters old new
enter_is (enters {board = board}) = record { was = board; left = refl; up = refl; down = refl; lies = refl }

inside_off : (u : Upper) → exit_on inside u ≡ false
inside_off (offers ready) = refl
inside_off (moves_out read) = refl
inside_off ended = refl
inside_off (over next) = refl

-- where the board is, by what lies in the gap
data IsFresh : Way → Type 0 where
  is_fresh : IsFresh fresh

data IsBegun : Way → Type 0 where
  is_begun : IsBegun begun

data IsAcross : Way → Type 0 where
  is_across : IsAcross across

fresh_by : {lies : Gap} (w : Way) (u : Upper) → LiesAs w lies → lies ≡ gaps.Free → exit_on w u ≡ true → IsFresh w
fresh_by fresh u lies_fresh is on = is_fresh
fresh_by begun u lies_begun is on = absurd (cc)
fresh_by across u lies_across is on = absurd (cc)
fresh_by inside u lies_inside is on = absurd (false≢true (sym (inside_off u) ∙ on))

begun_by : {lies : Gap} {board : Board} (w : Way) → LiesAs w lies → lies ≡ gaps.Begun board → IsBegun w
begun_by begun lies_begun is = is_begun
begun_by fresh lies_fresh is = absurd (cc)
begun_by inside lies_inside is = absurd (cc)
begun_by across lies_across is = absurd (cc)

across_by : {lies : Gap} {board : Board} (w : Way) → LiesAs w lies → lies ≡ gaps.Left board → IsAcross w
across_by across lies_across is = is_across
across_by fresh lies_fresh is = absurd (cc)
across_by inside lies_inside is = absurd (cc)
across_by begun lies_begun is = absurd (cc)

-- the stage behind such a move
moved_stage : {k : ℕ} {id : Record} {left : ℕ} {told told_now : Bool} {s : LineState} (plan : FloorPlan) (st : Stage k id left told s) → (told ≡ true → told_now ≡ true) → (w : Way) (up_seen down_seen : List SensorEvent) → events_at Exit (machine_at plan k).unread ≡ up_seen → events_at Entry (machine_at plan (k + 1)).unread ≡ down_seen
    → IsGapOf w st.u st.l (gap_at plan k) → Joint st.a st.b w st.u up_seen st.l down_seen (bodies st.up) (bodies st.down) → left_of w st.u st.l + 1 ≤ left_of st.w st.u st.l → Forth k id left 1 told_now (with_world (with_floor plan s.world) s)
moved_stage {left = left} plan st later w up_seen down_seen up down gap joint fewer = record {
  now = left_of w st.u st.l;
  fewer = (let most = st.few in omega (arith, fewer, most));
  stage = record {
    a = st.a;
    b = st.b;
    named = st.named;
    taken = st.taken;
    same = st.same;
    short = st.short;
    w = w;
    u = st.u;
    l = st.l;
    up_seen = up_seen;
    down_seen = down_seen;
    up = st.up;
    down = st.down;
    linked = st.linked;
    upper = st.upper;
    lower = st.lower;
    up_unread = up;
    down_unread = down;
    link = record { stands = st.link.stands; upward = st.link.upward; downward = st.link.downward };
    gap = gap;
    joint = joint;
    few = (let n : ℕ = left_of w st.u st.l in omega arith);
    settles = λ is. later (st.settles is);
  };
}

-- ---- each of the three moves

same_exit : (u : Upper) → exit_on fresh u ≡ exit_on begun u
same_exit (offers ready) = refl
same_exit (moves_out read) = refl
same_exit ended = refl
same_exit (over next) = refl

across_off : (u : Upper) → exit_on across u ≡ false
across_off (offers ready) = refl
across_off (moves_out read) = refl
across_off ended = refl
across_off (over next) = refl

same_entry : (l : Lower) → entry_on fresh l ≡ entry_on begun l
same_entry readies = refl
same_entry asked = refl
same_entry (takes read heard) = refl
same_entry stopped = refl
same_entry (settled again) = refl

same_entry_across : (l : Lower) → entry_on begun l ≡ entry_on across l
same_entry_across readies = refl
same_entry_across asked = refl
same_entry_across (takes read heard) = refl
same_entry_across stopped = refl
same_entry_across (settled again) = refl

-- the parts of the stage behind a move
pub record Moved (a b : Record) (w : Way) (u : Upper) (up_seen : List SensorEvent) (l : Lower) (down_seen : List SensorEvent) (up down : List Horizontal) (gap : AtGap) (from : Way) : Type 0 where
  pub joint : Joint a b w u up_seen l down_seen up down
  pub gap_is : IsGapOf w u l gap
  pub fewer : left_of w u l + 1 ≤ left_of from u l

begin_parts : {a b : Record} {u : Upper} {l : Lower} {up_seen down_seen : List SensorEvent} {up down : List Horizontal} (w : Way) (board : Board) (gap : AtGap) → IsFresh w → exit_on w u ≡ true → IsGapOf w u l gap → Joint a b w u up_seen l down_seen up down
    → Moved a b begun u (up_seen ++ sensors.Begun ∷ []) l (down_seen ++ sensors.Begun ∷ []) up down (record gap { lies = gaps.Begun board }) w
begin_parts {u = u} {l = l} _ board gap is_fresh on g j = record { joint = stage.begins j on; gap_is = record { lies = lies_begun; exit = g.exit ∙ same_exit u; entry = g.entry ∙ same_entry l }; fewer = omega arith }

leave_parts : {a b : Record} {u : Upper} {l : Lower} {up_seen down_seen : List SensorEvent} {up down : List Horizontal} (w : Way) (board : Board) (gap : AtGap) → IsBegun w → IsGapOf w u l gap → Joint a b w u up_seen l down_seen up down
    → Moved a b across u (up_seen ++ sensors.Left ∷ []) l down_seen up down (record gap { lies = gaps.Left board; exit_drive = false }) w
leave_parts {u = u} {l = l} _ board gap is_begun g j = record { joint = stage.leaves j; gap_is = record { lies = lies_across; exit = sym (across_off u); entry = g.entry ∙ same_entry_across l }; fewer = omega arith }

enter_parts : {a b : Record} {u : Upper} {l : Lower} {up_seen down_seen : List SensorEvent} {up down : List Horizontal} (w : Way) (gap : AtGap) → IsAcross w → IsGapOf w u l gap → Joint a b w u up_seen l down_seen up down
    → Moved a b inside u up_seen l (down_seen ++ sensors.Full ∷ []) up down (record gap { lies = gaps.Free; entry_drive = false }) w
enter_parts {u = u} {l = l} _ gap is_across g j = record { joint = stage.enters j; gap_is = record { lies = lies_inside; exit = g.exit ∙ (across_off u ∙ sym (inside_off u)); entry = refl }; fewer = omega arith }

pub begins_forth : {k : ℕ} {id : Record} {left : ℕ} {told told_now : Bool} {s : LineState} (plan : FloorPlan) (st : Stage k id left told s) → IsWhole s.world.floor → (told ≡ true → told_now ≡ true) → floor_move k moves.Begin s.world.floor ≡ Ok plan → Forth k id left 1 told_now (with_world (with_floor plan s.world) s)
begins_forth {k = k} {s = s} plan st whole later is =
    let m = floor_move_is k moves.Begin s.world.floor plan is in
    let b = begin_is m.done in
    let on : exit_on st.w st.u ≡ true = sym st.gap.exit ∙ b.on in
    let parts = begin_parts st.w b.board (gap_at s.world.floor k) (fresh_by st.w st.u st.gap.lies b.free on) on st.gap st.joint in
    let up : machine_at plan k ≡ m.around.up = ap (λ (f : FloorPlan). machine_at f k) m.after ∙ up_after s.world.floor k m.around m.there in
    let down : machine_at plan (k + 1) ≡ m.around.down = ap (λ (f : FloorPlan). machine_at f (k + 1)) m.after ∙ down_after s.world.floor k m.around m.there in
    let between : gap_at plan k ≡ m.around.between = ap (λ (f : FloorPlan). gap_at f k) m.after ∙ between_after s.world.floor k m.around whole m.there in
    moved_stage plan st later begun (st.up_seen ++ sensors.Begun ∷ []) (st.down_seen ++ sensors.Begun ∷ [])
    (ap (λ (x : AtMachine). events_at Exit x.unread) up ∙ (ap (λ (ss : List Sensed). events_at Exit ss) b.up ∙ (exit-append (machine_at s.world.floor k).unread (exit_sees sensors.Begun ∷ []) ∙ ap (λ (es : List SensorEvent). es ++ sensors.Begun ∷ []) st.up_unread)))
    (ap (λ (x : AtMachine). events_at Entry x.unread) down ∙ (ap (λ (ss : List Sensed). events_at Entry ss) b.down ∙ (entry-append (machine_at s.world.floor (k + 1)).unread (entry_sees sensors.Begun ∷ []) ∙ ap (λ (es : List SensorEvent). es ++ sensors.Begun ∷ []) st.down_unread)))
    (subst (λ (g : AtGap). IsGapOf begun st.u st.l g) (sym (between ∙ b.lies)) parts.gap_is) parts.joint parts.fewer

pub leaves_forth : {k : ℕ} {id : Record} {left : ℕ} {told told_now : Bool} {s : LineState} (plan : FloorPlan) (st : Stage k id left told s) → IsWhole s.world.floor → (told ≡ true → told_now ≡ true) → floor_move k moves.Left s.world.floor ≡ Ok plan → Forth k id left 1 told_now (with_world (with_floor plan s.world) s)
leaves_forth {k = k} {s = s} plan st whole later is =
    let m = floor_move_is k moves.Left s.world.floor plan is in
    let b = left_is m.done in
    let parts = leave_parts st.w b.board (gap_at s.world.floor k) (begun_by st.w st.gap.lies b.begun) st.gap st.joint in
    let up : machine_at plan k ≡ m.around.up = ap (λ (f : FloorPlan). machine_at f k) m.after ∙ up_after s.world.floor k m.around m.there in
    let down : machine_at plan (k + 1) ≡ m.around.down = ap (λ (f : FloorPlan). machine_at f (k + 1)) m.after ∙ down_after s.world.floor k m.around m.there in
    let between : gap_at plan k ≡ m.around.between = ap (λ (f : FloorPlan). gap_at f k) m.after ∙ between_after s.world.floor k m.around whole m.there in
    moved_stage plan st later across (st.up_seen ++ sensors.Left ∷ []) st.down_seen
    (ap (λ (x : AtMachine). events_at Exit x.unread) up ∙ (ap (λ (ss : List Sensed). events_at Exit ss) b.up ∙ (exit-append (machine_at s.world.floor k).unread (exit_sees sensors.Left ∷ []) ∙ ap (λ (es : List SensorEvent). es ++ sensors.Left ∷ []) st.up_unread)))
    (ap (λ (x : AtMachine). events_at Entry x.unread) down ∙ (ap (λ (ss : List Sensed). events_at Entry ss) b.down ∙ st.down_unread))
    (subst (λ (g : AtGap). IsGapOf across st.u st.l g) (sym (between ∙ b.lies)) parts.gap_is) parts.joint parts.fewer

pub enters_forth : {k : ℕ} {id : Record} {left : ℕ} {told told_now : Bool} {s : LineState} (plan : FloorPlan) (st : Stage k id left told s) → IsWhole s.world.floor → (told ≡ true → told_now ≡ true) → floor_move k moves.Enter s.world.floor ≡ Ok plan → Forth k id left 1 told_now (with_world (with_floor plan s.world) s)
enters_forth {k = k} {s = s} plan st whole later is =
    let m = floor_move_is k moves.Enter s.world.floor plan is in
    let b = enter_is m.done in
    let parts = enter_parts st.w (gap_at s.world.floor k) (across_by st.w st.gap.lies b.left) st.gap st.joint in
    let up : machine_at plan k ≡ m.around.up = ap (λ (f : FloorPlan). machine_at f k) m.after ∙ up_after s.world.floor k m.around m.there in
    let down : machine_at plan (k + 1) ≡ m.around.down = ap (λ (f : FloorPlan). machine_at f (k + 1)) m.after ∙ down_after s.world.floor k m.around m.there in
    let between : gap_at plan k ≡ m.around.between = ap (λ (f : FloorPlan). gap_at f k) m.after ∙ between_after s.world.floor k m.around whole m.there in
    moved_stage plan st later inside st.up_seen (st.down_seen ++ sensors.Full ∷ [])
    (ap (λ (x : AtMachine). events_at Exit x.unread) up ∙ (ap (λ (ss : List Sensed). events_at Exit ss) b.up ∙ st.up_unread))
    (ap (λ (x : AtMachine). events_at Entry x.unread) down ∙ (ap (λ (ss : List Sensed). events_at Entry ss) b.down ∙ (entry-append (machine_at s.world.floor (k + 1)).unread (entry_sees sensors.Full ∷ []) ∙ ap (λ (es : List SensorEvent). es ++ sensors.Full ∷ []) st.down_unread)))
    (subst (λ (g : AtGap). IsGapOf inside st.u st.l g) (sym (between ∙ b.lies)) parts.gap_is) parts.joint parts.fewer
