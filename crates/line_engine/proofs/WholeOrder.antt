-- The order of each machine over what a whole line of a script tells of a lane.
use Rattle.std.proofs.Common.{◌≡◌, ◌∙◌, ◌+◌, ◌-◌, ◌≤◌, ◌==◌, ◌++◌, ◌⊎◌, inl, inr, ℕ, zero, suc, Bool, true, false, List, [], ◌∷◌, None, Some, Ok, Err, ap, append-nil, refl, subst, sym}
use Rattle.std.specs.Prelude.{Option, if◌then◌else◌, length, slice_get}
use Rattle.std.specs.List.{AllByRecursion}
use Rattle.line_base.specs.declared.states.Side.TheVariants.{Entry, Exit}
use Rattle.line_script.specs.declared.line.LaneLine.{LaneLine}
use Rattle.line_script.specs.declared.line.LaneLine.TheVariants as lane_lines
use Rattle.line_script.specs.declared.line.ScriptLine.{ScriptLine}
use Rattle.line_script.specs.declared.line.ScriptLine.TheVariants as lines
use Rattle.line_world.specs.declared.moves.Move.{Move}
use Rattle.line_world.specs.declared.moves.Move.TheVariants as moves
use Rattle.node_core.specs.Own.{one_of}
use Rattle.node_core.specs.declared.lane.Lane.{Lane}
use Rattle.node_core.specs.declared.act.Act.TheVariants as acts
use Rattle.line_report.specs.Lanes.{told_on}
use Rattle.line_report.specs.declared.happening.Happening.{Happening}
use Rattle.line_report.specs.declared.happening.Happening.TheVariants as happenings
use Rattle.line_report.specs.declared.happening.LaneHappening.{LaneHappening}
use Rattle.line_step.specs.Lines.{LineDoes}
use Rattle.line_step.specs.Numbered.{node_at}
use Rattle.line_step.specs.Parts.{where_may}
use Rattle.line_step.specs.Reasons.{May, may_cut, may_notice, may_stop}
use Rattle.line_step.specs.Requests.{Request, request_of}
use Rattle.line_step.specs.Requests as requests
use Rattle.line_step.specs.Runs.{Point, all_told, state_behind}
use Rattle.line_step.specs.State.{LineState, owned_by}
use Rattle.line_step.specs.Steps.{is_second, read_by}
use Rattle.line_step.specs.Tracks.{IsBeside, other_line, own_line}
use Rattle.line_step.proofs.Beside.{beside-lane}
use Rattle.line_step.proofs.Effects.{Effect, becomes_by, line_effect}
use Rattle.line_step.proofs.Effects as effects
use Rattle.line_step.proofs.Remarks.{IsRemark, Passes, acts_pass, all_pass}
use Rattle.law_one_standing.specs.Told.{IsTold, told_first, told_later}
use Rattle.law_sentences.specs.Along.{GoInOrder, OrderAlong}
use Rattle.law_sentences.specs.Order.{GoesInOrder, MovesTheFirst, held_and_kept, leaves, order_behind, order_by}
use Rattle.law_lanes.specs.Along.{ArePointsOn, EachLaneIsATrack, all_done, happening_for, is_done, told_for}
use Rattle.law_lanes.specs.Lanes.{Lanes, track, unvouched_of}
use Rattle.law_lanes.specs.Once.{EachRunRemembers}
use Rattle.law_lanes.specs.Parts.{IsLanePlay, LanePart, LanePoint, stop_parts, stops_from, stops_on}
use Rattle.law_lanes.specs.Parts as lanes
use Rattle.law_lanes.specs.Reasons.{first_track, may_on}
use Rattle.law_lanes.specs.Shown.{standings_on}
use Rattle.law_lanes.specs.Steps.{Becomes, LanesStep, OnTrack, RequestDoes, Unless, told_once}
use Rattle.law_lanes.proofs.Points.{told_beside}
use Rattle.law_lanes.proofs.Telling.{AreNoDeeds, done_append, standings_none}
use Rattle.line_engine.specs.Each.{AreVouchedAlike, stopped}
use Rattle.line_engine.specs.Whole.{OverLanes}
use Rattle.line_engine.proofs.Nexts.{Known, some_points}
use Rattle.line_engine.proofs.OnTracks.{EachAlong, OfEachStep, OnTrackAlong, on_track, so_reached}
use Rattle.line_engine.proofs.Played.{parts_stopped, parts_whole}

-- ---- a line of another lane

some_told : {h : Happening} {told : List Happening} → IsTold h told → told ≡ [] → ⊥
some_told told_first none = cc
some_told (told_later is) none = cc

not_in : {h : Happening} → IsTold h [] → ⊥
not_in is = some_told is refl

nothing_before : (earlier later : List Happening) (h : Happening) → [] ≡ earlier ++ h ∷ later → ⊥
nothing_before [] later h is = cc
nothing_before (first ∷ earlier) later h is = cc

beside_order : (s t : LineState) → IsBeside s t → GoInOrder s t []
beside_order s t is = record {
  each = λ machine least. record {
    records = ap (λ (l : Lane). one_of (owned_by (record (node_at s machine) { lane = l })).held ++ (owned_by (record (node_at s machine) { lane = l })).kept) (beside-lane s t machine is);
    leaves_first = λ earlier later id same. absurd (nothing_before earlier later (leaves machine id) same);
    moves_first = λ told. absurd (not_in told);
  };
}

pub order_step : OrderAlong → OfEachStep GoInOrder
order_step law s asked points (own_line request) point so steps few fit new none = law request s point.after point.told (so_reached s asked points few so) steps.1 steps.0 none
order_step law s asked points other_line point so steps few fit new none = subst (λ (told : List Happening). GoInOrder s point.after told) (sym steps.1) (beside_order s point.after steps.0)

-- ---- one behind the other

behind_both : (machine : ℕ) (order : List ℕ) (a b : List Happening) → order_behind machine order (a ++ b) ≡ order_behind machine (order_behind machine order a) b
behind_both machine order [] b = refl
behind_both machine order (h ∷ a) b = behind_both machine (order_by machine order h) a b

-- what stands in a list of two stands in the first, or behind it in the second
record InFirst (a earlier : List Happening) (h : Happening) : Type 0 where
  later : List Happening
  is : a ≡ earlier ++ h ∷ later

record InSecond (a b earlier later : List Happening) (h : Happening) : Type 0 where
  between : List Happening
  front : earlier ≡ a ++ between
  is : b ≡ between ++ h ∷ later

tail_is : {x y : Happening} {xs ys : List Happening} → x ∷ xs ≡ y ∷ ys → xs ≡ ys
tail_is same = cc

head_is : {x y : Happening} {xs ys : List Happening} → x ∷ xs ≡ y ∷ ys → x ≡ y
head_is same = cc

split_at : (a b earlier later : List Happening) (h : Happening) → a ++ b ≡ earlier ++ h ∷ later → InFirst a earlier h ⊎ InSecond a b earlier later h
split_at [] b earlier later h same = inr (record { between = earlier; front = refl; is = same })
split_at (x ∷ a) b [] later h same = inl (record { later = a; is = ap (λ (y : Happening). y ∷ a) (head_is same) })
split_at (x ∷ a) b (y ∷ earlier) later h same = behind (split_at a b earlier later h (tail_is same)) where
  behind : InFirst a earlier h ⊎ InSecond a b earlier later h → InFirst (x ∷ a) (y ∷ earlier) h ⊎ InSecond (x ∷ a) b (y ∷ earlier) later h
  behind (inl one) = inl (record { later = one.later; is = ap (λ (z : Happening). z ∷ a) (head_is same) ∙ ap (λ (zs : List Happening). y ∷ zs) one.is })
  behind (inr two) = inr (record { between = two.between; front = ap (λ (zs : List Happening). y ∷ zs) two.front ∙ ap (λ (z : Happening). z ∷ (a ++ two.between)) (sym (head_is same)); is = two.is })

-- all of an order but what it says of boards that move
record Orders (machine : ℕ) (before after : LineState) (told : List Happening) : Type 0 where
  records : held_and_kept after machine ≡ order_behind machine (held_and_kept before machine) told
  leaves_first : (earlier later : List Happening) (id : ℕ) → told ≡ earlier ++ leaves machine id ∷ later → slice_get (order_behind machine (held_and_kept before machine) earlier) 0 ≡ Some id

orders_of : {machine : ℕ} {before after : LineState} {told : List Happening} → GoesInOrder machine (held_and_kept before machine) before after told → Orders machine before after told
orders_of goes = record { records = goes.records; leaves_first = goes.leaves_first }

orders_both : {machine : ℕ} {before between after : LineState} (a b : List Happening) → Orders machine before between a → Orders machine between after b → Orders machine before after (a ++ b)
orders_both {machine = machine} {before = before} {between = between} a b one two =
    let order : List ℕ = held_and_kept before machine in record {
      records = two.records ∙ ap (λ (o : List ℕ). order_behind machine o b) one.records ∙ sym (behind_both machine order a b);
      leaves_first = λ earlier later id same. at earlier later id (split_at a b earlier later (leaves machine id) same);
    } where
      at : (earlier later : List Happening) (id : ℕ) → InFirst a earlier (leaves machine id) ⊎ InSecond a b earlier later (leaves machine id) → slice_get (order_behind machine (held_and_kept before machine) earlier) 0 ≡ Some id
      at earlier later id (inl first) = one.leaves_first earlier first.later id first.is
      at earlier later id (inr second) =
          let there = two.leaves_first second.between later id second.is in
          let same : order_behind machine (held_and_kept between machine) second.between ≡ order_behind machine (held_and_kept before machine) earlier =
          ap (λ (o : List ℕ). order_behind machine o second.between) one.records
          ∙ sym (behind_both machine (held_and_kept before machine) a second.between)
          ∙ ap (λ (hs : List Happening). order_behind machine (held_and_kept before machine) hs) (sym second.front) in
          subst (λ (o : List ℕ). slice_get o 0 ≡ Some id) same there

orders_all : (machine : ℕ) → 1 ≤ machine → (s : LineState) (point : Point) (points : List Point) → EachAlong GoInOrder s (point ∷ points) → Orders machine s (state_behind point.after points) (all_told (point ∷ points))
orders_all machine counted s point [] each = subst (λ (told : List Happening). Orders machine s point.after told) (sym (append-nil point.told)) (orders_of (each.0.each machine counted))
orders_all machine counted s point (next ∷ points) each =
    orders_both point.told (all_told (next ∷ points)) (orders_of (each.0.each machine counted)) (orders_all machine counted point.after next points each.1)

-- ---- the order goes by what is done alone

order_stays : (machine : ℕ) (order : List ℕ) (h : Happening) → is_done h ≡ false → order_by machine order h ≡ order
order_stays machine order (happenings.Done other act) is = absurd (cc)
order_stays machine order _ is = refl

order_more : (machine : ℕ) (h : Happening) (told : List Happening) (done : Bool) → is_done h ≡ done → ((order : List ℕ) → order_behind machine order told ≡ order_behind machine order (all_done told))
    → (order : List ℕ) → order_behind machine order (h ∷ told) ≡ order_behind machine order (if done then h ∷ all_done told else all_done told)
order_more machine h told true is same order = same (order_by machine order h)
order_more machine h told false is same order = ap (λ (o : List ℕ). order_behind machine o told) (order_stays machine order h is) ∙ same order

order_done : (machine : ℕ) (told : List Happening) (order : List ℕ) → order_behind machine order told ≡ order_behind machine order (all_done told)
order_done machine [] order = refl
order_done machine (h ∷ told) order = order_more machine h told (is_done h) refl (order_done machine told) order

-- what is done stands among all that is told
record IsAmong (told front back : List Happening) (h : Happening) : Type 0 where
  earlier : List Happening
  later : List Happening
  is : told ≡ earlier ++ h ∷ later
  done : all_done earlier ≡ front

among_first : (g h : Happening) (told front back : List Happening) → is_done g ≡ true → ((xs : List Happening) → all_done told ≡ xs ++ h ∷ back → IsAmong told xs back h) → g ∷ all_done told ≡ front ++ h ∷ back → IsAmong (g ∷ told) front back h
among_first g h told [] back test rest same = record { earlier = []; later = told; is = ap (λ (x : Happening). x ∷ told) (head_is same); done = refl }
among_first g h told (x ∷ front) back test rest same =
    let r = rest front (tail_is same) in
    record {
      earlier = g ∷ r.earlier;
      later = r.later;
      is = ap (λ (xs : List Happening). g ∷ xs) r.is;
      done = ap (λ (b : Bool). if b then g ∷ all_done r.earlier else all_done r.earlier) test ∙ ap (λ (xs : List Happening). g ∷ xs) r.done ∙ ap (λ (y : Happening). y ∷ front) (head_is same);
    }

among_by : (g h : Happening) (told front back : List Happening) (test : Bool) → is_done g ≡ test → ((xs : List Happening) → all_done told ≡ xs ++ h ∷ back → IsAmong told xs back h) → (if test then g ∷ all_done told else all_done told) ≡ front ++ h ∷ back → IsAmong (g ∷ told) front back h
among_by g h told front back true test rest same = among_first g h told front back test rest same
among_by g h told front back false test rest same =
    let r = rest front same in
    record {
      earlier = g ∷ r.earlier;
      later = r.later;
      is = ap (λ (xs : List Happening). g ∷ xs) r.is;
      done = ap (λ (b : Bool). if b then g ∷ all_done r.earlier else all_done r.earlier) test ∙ r.done;
    }

among : (told front back : List Happening) (h : Happening) → all_done told ≡ front ++ h ∷ back → IsAmong told front back h
among [] front back h same = absurd (nothing_before front back h same)
among (g ∷ told) front back h same = among_by g h told front back (is_done g) refl (λ xs is. among told xs back h is) same

orders_as : (machine : ℕ) (before after : LineState) (a b : List Happening) → all_done a ≡ all_done b → Orders machine before after a → Orders machine before after b
orders_as machine before after a b same o =
    let order : List ℕ = held_and_kept before machine in
    record {
      records = o.records ∙ order_done machine a order ∙ ap (λ (hs : List Happening). order_behind machine order hs) same ∙ sym (order_done machine b order);
      leaves_first = λ earlier later id is. (
          let there : all_done a ≡ all_done earlier ++ leaves machine id ∷ all_done later =
          same ∙ ap all_done is ∙ done_append earlier (leaves machine id ∷ later) in
          let r = among a (all_done earlier) (all_done later) (leaves machine id) there in
          subst (λ (l : List ℕ). slice_get l 0 ≡ Some id)
          (order_done machine r.earlier order ∙ ap (λ (hs : List Happening). order_behind machine order hs) r.done ∙ sym (order_done machine earlier order))
          (o.leaves_first r.earlier r.later id r.is));
    }

-- so does what is told of moves
kept_by : (g h : Happening) (told : List Happening) (test : Bool) → IsTold h (all_done told) → IsTold h (if test then g ∷ all_done told else all_done told)
kept_by g h told true is = told_later is
kept_by g h told false is = is

told_done : (h : Happening) (told : List Happening) → is_done h ≡ true → IsTold h told → IsTold h (all_done told)
told_done h [] done is = absurd (not_in is)
told_done h (g ∷ told) done told_first = subst (λ (b : Bool). IsTold h (if b then h ∷ all_done told else all_done told)) (sym done) told_first
told_done h (g ∷ told) done (told_later is) = kept_by g h told (is_done g) (told_done h told done is)

back_by : (g h : Happening) (told : List Happening) (test : Bool) → (IsTold h (all_done told) → IsTold h told) → IsTold h (if test then g ∷ all_done told else all_done told) → IsTold h (g ∷ told)
back_by g h told true rest told_first = told_first
back_by g h told true rest (told_later is) = told_later (rest is)
back_by g h told false rest is = told_later (rest is)

told_back : (h : Happening) (told : List Happening) → IsTold h (all_done told) → IsTold h told
told_back h [] is = absurd (not_in is)
told_back h (g ∷ told) is = back_by g h told (is_done g) (told_back h told) is

told_as : {h : Happening} (a b : List Happening) → all_done a ≡ all_done b → is_done h ≡ true → IsTold h b → IsTold h a
told_as {h} a b same done is = told_back h a (subst (λ (hs : List Happening). IsTold h hs) (sym same) (told_done h b done is))

-- ---- a stop tells of no move

abbrev IsUnmoved : Happening → Type 0
IsUnmoved (happenings.Moved gap step) = ⊥
IsUnmoved _ = Unit {0}

abbrev AreUnmoved : List Happening → Type 0
AreUnmoved told = AllByRecursion IsUnmoved told

abbrev AreUnmovedOn : List LaneHappening → Type 0
AreUnmovedOn told = AllByRecursion (λ (h : LaneHappening). IsUnmoved h.what) told

both_unmoved : (a b : List Happening) → AreUnmoved a → AreUnmoved b → AreUnmoved (a ++ b)
both_unmoved [] b one two = two
both_unmoved (h ∷ a) b one two = (one.0, both_unmoved a b one.1 two)

both_unmoved_on : (a b : List LaneHappening) → AreUnmovedOn a → AreUnmovedOn b → AreUnmovedOn (a ++ b)
both_unmoved_on [] b one two = two
both_unmoved_on (h ∷ a) b one two = (one.0, both_unmoved_on a b one.1 two)

remark_unmoved : (h : Happening) → IsRemark h → AreUnmoved (h ∷ [])
remark_unmoved (happenings.Moved gap step) is = absurd is
remark_unmoved _ is = (tt, tt)

remarks_unmoved : Passes IsRemark AreUnmoved
remarks_unmoved = record { none = tt; both = both_unmoved; one = remark_unmoved }

none_moved : {gap : ℕ} {step : Move} {told : List Happening} → IsTold (happenings.Moved gap step) told → AreUnmoved told → ⊥
none_moved told_first all = all.0
none_moved (told_later later) all = none_moved later all.1

-- what a stop asks for
abbrev IsStill : Request → Type 0
IsStill requests.nothing = Unit {0}
IsStill (requests.gives machine input) = Unit {0}
IsStill (requests.cuts gap) = Unit {0}
IsStill (requests.stops machine) = Unit {0}
IsStill _ = ⊥

still_effect : (number : ℕ) (request : Request) (before next : LineState) (told : List Happening) → IsStill request → Effect number before next told request → AreUnmoved told
still_effect number request before next told still (effects.rests _ what remarks b) = becomes_by (λ s ts. AreUnmoved ts) b (all_pass what remarks_unmoved remarks)
still_effect number request before next told still (effects.adds lane is_bridge capacity used may b) = absurd still
still_effect number request before next told still (effects.steps m input given may did) =
    subst AreUnmoved (sym did.told_is) (acts_pass AreUnmoved (is_second input) m did.acts (read_by m before.world) remarks_unmoved (λ act. (tt, tt)))
still_effect number request before next told still (effects.connects m may did) = absurd still
still_effect number request before next told still (effects.flows m side count may did) = absurd still
still_effect number request before next told still (effects.cuts gap may b) = becomes_by (λ s ts. AreUnmoved ts) b (tt, tt)
still_effect number request before next told still (effects.spoils m side may b) = absurd still
still_effect number request before next told still (effects.moves gap step floor is b) = absurd still
still_effect number request before next told still (effects.lies m sensed may b) = absurd still
still_effect number request before next told still (effects.unsees m side may b) = absurd still

line_unmoved : (number : ℕ) (request : Request) (before next : LineState) (told : List Happening) → IsStill request → LineDoes number request before next told → AreUnmoved told
line_unmoved number request before next told still does = still_effect number request before next told still (line_effect number request before next told does)

on_unmoved : (lane : ℕ) (told : List Happening) → AreUnmoved told → AreUnmovedOn (told_on lane told)
on_unmoved lane [] all = tt
on_unmoved lane (h ∷ told) all = (all.0, on_unmoved lane told all.1)

becomes_unmoved : (before after : Lanes) (what told : List LaneHappening) → AreUnmovedOn what → Becomes before what after told → AreUnmovedOn told
becomes_unmoved before after what told all b = subst AreUnmovedOn (sym b.told_is) all

unless_unmoved : (may : May) (before after : Lanes) (told : List LaneHappening) (Done : Type 0) → (Done → AreUnmovedOn told) → Unless may before after told Done → AreUnmovedOn told
unless_unmoved (Err reason) before after told Done done u = subst AreUnmovedOn (sym u.told_is) (tt, tt)
unless_unmoved (Ok _) before after told Done done u = done u

track_unmoved : (number lane : ℕ) (request : Request) (before after : Lanes) (told : List LaneHappening) → IsStill request → OnTrack lane (LineDoes number request) before after told → AreUnmovedOn told
track_unmoved number lane request before after told still on =
    subst AreUnmovedOn (sym on.told_is) (on_unmoved lane on.done (line_unmoved number request (track lane before) on.next on.done still on.does))

does_unmoved : (number lane : ℕ) (request : Request) (before after : Lanes) (told : List LaneHappening) → IsStill request → RequestDoes number lane request before after told → AreUnmovedOn told
does_unmoved number lane requests.nothing before after told still does = becomes_unmoved before after [] told tt does
does_unmoved number lane requests.shows before after told still does = absurd still
does_unmoved number lane (requests.adds own is_bridge capacity used) before after told still does = absurd still
does_unmoved number lane (requests.gives machine input) before after told still does =
    unless_unmoved (may_on lane (requests.gives machine input) before) before after told (OnTrack lane (LineDoes number (requests.gives machine input)) before after told) (track_unmoved number lane (requests.gives machine input) before after told still) does
does_unmoved number lane (requests.connects machine) before after told still does = absurd still
does_unmoved number lane (requests.flows machine side count) before after told still does = absurd still
does_unmoved number lane (requests.cuts gap) before after told still does =
    unless_unmoved (may_on lane (requests.cuts gap) before) before after told (OnTrack lane (LineDoes number (requests.cuts gap)) before after told) (track_unmoved number lane (requests.cuts gap) before after told still) does
does_unmoved number lane (requests.stops machine) before after told still does =
    unless_unmoved (may_stop machine (first_track before)) before after told (Becomes before (told_once (happenings.Stop machine)) after told) (λ b. subst AreUnmovedOn (sym b.told_is) (tt, tt)) does
does_unmoved number lane (requests.spoils machine side) before after told still does = absurd still
does_unmoved number lane (requests.moves_on gap step) before after told still does = absurd still
does_unmoved number lane (requests.lies machine sensed) before after told still does = absurd still
does_unmoved number lane (requests.unsees machine side) before after told still does = absurd still

not_done_unmoved : (h : Happening) → is_done h ≡ false → IsUnmoved h
not_done_unmoved (happenings.Moved gap step) is = absurd (cc)
not_done_unmoved _ is = tt

deeds_unmoved : (told : List LaneHappening) → AreNoDeeds told → AreUnmovedOn told
deeds_unmoved [] none = tt
deeds_unmoved (h ∷ told) none = (not_done_unmoved h.what none.0, deeds_unmoved told none.1)

abbrev IsStillLine : LaneLine → Type 0
IsStillLine (lane_lines.On lane line) = IsStill (request_of line)
IsStillLine _ = ⊥

step_unmoved : (number : ℕ) (line : LaneLine) (before after : Lanes) (told : List LaneHappening) → IsStillLine line → LanesStep number line before after told → AreUnmovedOn told
step_unmoved number (lane_lines.On lane line) before after told still steps =
    subst AreUnmovedOn (sym steps.told_is)
    (both_unmoved_on steps.done (standings_on before steps.next) (does_unmoved number lane (request_of line) before steps.next steps.done still steps.does)
    (deeds_unmoved (standings_on before steps.next) (standings_none before steps.next)))
step_unmoved number (lane_lines.Lanes count) before after told still steps = absurd still
step_unmoved number (lane_lines.Shift machine from to id) before after told still steps = absurd still

record IsStillPart (part : LanePart) : Type 0 where
  each : (s : Lanes) → IsStillLine (part.line s)

still_where : (may : May) (line : ScriptLine) → IsStill (request_of line) → IsStill (request_of (where_may may line))
still_where (Ok _) line still = still
still_where (Err reason) line still = tt

stops_still : (lane machine : ℕ) (ends : Bool) → AllByRecursion IsStillPart (stops_on lane machine ends)
stops_still lane machine ends = (
  record { each = λ s. still_where (may_cut (machine - 1) (track lane s)) (lines.Cut (machine - 1)) tt },
  (
    record { each = λ s. still_where (may_cut machine (track lane s)) (lines.Cut machine) tt },
    (
      record { each = λ s. still_where (may_notice machine Entry (track lane s)) (lines.Notice machine Entry) tt },
      (record { each = λ s. still_where (may_notice machine Exit (track lane s)) (lines.Notice machine Exit) tt }, tt),
    ),
  ),
)

all_join : (parts others : List LanePart) → AllByRecursion IsStillPart parts → AllByRecursion IsStillPart others → AllByRecursion IsStillPart (parts ++ others)
all_join [] others one two = two
all_join (part ∷ parts) others one two = (one.0, all_join parts others one.1 two)

from_still : (lane more machine : ℕ) → AllByRecursion IsStillPart (stops_from lane more machine)
from_still lane zero machine = stops_still lane machine true
from_still lane (suc more) machine = all_join (stops_on lane machine false) (stops_from (lane + 1) more machine) (stops_still lane machine false) (from_still (lane + 1) more machine)

play_unmoved : (s : Lanes) (parts : List LanePart) (points : List LanePoint) → AllByRecursion IsStillPart parts → IsLanePlay s parts points → AreUnmovedOn (lanes.all_told points)
play_unmoved s [] [] still play = tt
play_unmoved s [] (point ∷ points) still play = absurd play
play_unmoved s (part ∷ parts) [] still play = absurd play
play_unmoved s (part ∷ parts) (point ∷ points) still play =
    both_unmoved_on point.told (lanes.all_told points) (step_unmoved _ (part.line s) s point.after point.told (still.0.each s) play.0.steps)
    (play_unmoved point.after parts points still.1 play.1)

if_unmoved : (test : Bool) (h : Happening) → IsUnmoved h → AreUnmoved (if test then h ∷ [] else [])
if_unmoved true h is = (is, tt)
if_unmoved false h is = tt

one_for : (lane own : ℕ) (h : Happening) → IsUnmoved h → AreUnmoved (happening_for lane (record { lane = own; what = h }))
one_for lane own (happenings.Done machine (acts.Gives id to)) is =
    both_unmoved (if own == lane then happenings.Done machine (acts.Gives id to) ∷ [] else []) (if to == lane then happenings.Done machine (acts.Gets id) ∷ [] else [])
    (if_unmoved (own == lane) (happenings.Done machine (acts.Gives id to)) tt) (if_unmoved (to == lane) (happenings.Done machine (acts.Gets id)) tt)
one_for lane own h is = if_unmoved (own == lane) h is

for_unmoved : (lane : ℕ) (told : List LaneHappening) → AreUnmovedOn told → AreUnmoved (told_for lane told)
for_unmoved lane [] all = tt
for_unmoved lane (h ∷ told) all = both_unmoved (happening_for lane h) (told_for lane told) (one_for lane h.lane h.what all.0) (for_unmoved lane told all.1)

-- ---- A WHOLE LINE

-- what is left of an order: where a board makes a move
abbrev MovesFirst : LineState → LineState → List Happening → Type 0
MovesFirst before after told = (machine : ℕ) → 1 ≤ machine → IsTold (happenings.Moved machine moves.Left) told → MovesTheFirst machine (held_and_kept before machine) before after

goes_whole : (before after : LineState) (told : List Happening) → ((machine : ℕ) → 1 ≤ machine → Orders machine before after told) → MovesFirst before after told → GoInOrder before after told
goes_whole before after told orders firsts = record {
  each = λ machine least. (let o = orders machine least in record { records = o.records; leaves_first = o.leaves_first; moves_first = firsts machine least });
}

-- of a line that is its own part
one_moves : (s after : LineState) (own : List Point) (told : List Happening) → (point : Point) → own ≡ point ∷ [] → EachAlong GoInOrder s own → state_behind s own ≡ after → all_done (all_told own) ≡ all_done told → MovesFirst s after told
one_moves s after own told point one each behind same =
    let each_one : EachAlong GoInOrder s (point ∷ []) = subst (λ (ps : List Point). EachAlong GoInOrder s ps) one each in
    let after_is : point.after ≡ after = ap (state_behind s) (sym one) ∙ behind in
    let same_one : all_done point.told ≡ all_done told = ap all_done (sym (append-nil point.told)) ∙ ap (λ (ps : List Point). all_done (all_told ps)) (sym one) ∙ same in
    λ machine least is.
    subst (λ (t : LineState). MovesTheFirst machine (held_and_kept s machine) s t) after_is
    ((each_one.0.each machine least).moves_first (told_as point.told told same_one refl is))

record IsOne (own : List Point) : Type 0 where
  point : Point
  is : own ≡ point ∷ []

one_own : (lane : ℕ) (point : LanePoint) (own : List Point) → ArePointsOn lane (point ∷ []) own → IsOne own
one_own lane point [] beside = absurd beside
one_own lane point (x ∷ []) beside = record { point = x; is = refl }
one_own lane point (x ∷ y ∷ own) beside = absurd beside.1

record IsOneOn (points : List LanePoint) : Type 0 where
  point : LanePoint
  is : points ≡ point ∷ []

one_on : (s : Lanes) (part : LanePart) (points : List LanePoint) → IsLanePlay s (part ∷ []) points → IsOneOn points
one_on s part [] play = absurd play
one_on s part (point ∷ []) play = record { point = point; is = refl }
one_on s part (point ∷ other ∷ points) play = absurd play.1

whole_moves : (line : LaneLine) (before after : Lanes) (told : List LaneHappening) → stopped line ≡ None → (k : Known line before after told) → (lane : ℕ) → (t : OnTrackAlong GoInOrder lane before after k.steps.points)
    → MovesFirst (track lane before) (track lane after) (told_for lane (lanes.all_told k.steps.points))
whole_moves line before after told whole k lane t =
    let o : IsOneOn k.steps.points = one_on before (record { line = λ (s : Lanes). line; ends = true }) k.steps.points
    (subst (λ (parts : List LanePart). IsLanePlay before parts k.steps.points) (parts_whole (length before.tracks) line whole) k.steps.plays) in
    let one : IsOne t.own = one_own lane o.point t.own (subst (λ (ps : List LanePoint). ArePointsOn lane ps t.own) o.is t.beside) in
    one_moves (track lane before) (track lane after) t.own (told_for lane (lanes.all_told k.steps.points)) one.point one.is t.each t.behind (told_beside lane k.steps.points t.own t.beside)

line_moves : (line : LaneLine) (before after : Lanes) (told : List LaneHappening) → (k : Known line before after told) → (lane : ℕ) → (t : OnTrackAlong GoInOrder lane before after k.steps.points)
    → MovesFirst (track lane before) (track lane after) (told_for lane (lanes.all_told k.steps.points))
line_moves line before after told k lane t = by (stopped line) refl
  where
    by : (found : Option ℕ) → stopped line ≡ found → MovesFirst (track lane before) (track lane after) (told_for lane (lanes.all_told k.steps.points))
    by None is = whole_moves line before after told is k lane t
    by (Some machine) is =
        let still : AllByRecursion IsStillPart (stop_parts (length before.tracks) machine) = (record { each = λ s. tt }, from_still 1 (length before.tracks - 1) machine) in
        let unmoved : AreUnmovedOn (lanes.all_told k.steps.points) =
        play_unmoved before (stop_parts (length before.tracks) machine) k.steps.points still
        (subst (λ (parts : List LanePart). IsLanePlay before parts k.steps.points) (parts_stopped (length before.tracks) line machine is) k.steps.plays) in
        λ other least moved. absurd (none_moved moved (for_unmoved lane (lanes.all_told k.steps.points) unmoved))

-- one point at least
orders_on : (machine : ℕ) → 1 ≤ machine → (s after : LineState) (own : List Point) → (own ≡ [] → ⊥) → EachAlong GoInOrder s own → state_behind s own ≡ after → Orders machine s after (all_told own)
orders_on machine least s after [] some each behind = absurd (some refl)
orders_on machine least s after (x ∷ own) some each behind = subst (λ (t : LineState). Orders machine s t (all_told (x ∷ own))) behind (orders_all machine least s x own each)

some_own : (lane : ℕ) (points : List LanePoint) (own : List Point) → (points ≡ [] → ⊥) → ArePointsOn lane points own → own ≡ [] → ⊥
some_own lane [] own some beside none = some refl
some_own lane (point ∷ points) [] some beside none = beside
some_own lane (point ∷ points) (x ∷ own) some beside none = cc

pub order_whole : EachLaneIsATrack → EachRunRemembers → OrderAlong → (line : LaneLine) (before after : Lanes) (told : List LaneHappening) → Known line before after told → AreVouchedAlike after → unvouched_of after ≡ None → OverLanes GoInOrder before after told
order_whole tracks remembers law line before after told k alike none =
    λ lane least.
    (let t : OnTrackAlong GoInOrder lane before after k.steps.points = on_track GoInOrder (order_step law) tracks remembers line before after told k alike none lane least in
    let all : List Happening = told_for lane (lanes.all_told k.steps.points) in
    subst (λ (hs : List LaneHappening). GoInOrder (track lane before) (track lane after) (told_for lane hs)) (sym k.steps.told_is)
    (goes_whole (track lane before) (track lane after) all
    (λ machine counted. orders_as machine (track lane before) (track lane after) (all_told t.own) all (told_beside lane k.steps.points t.own t.beside)
    (orders_on machine counted (track lane before) (track lane after) t.own (some_own lane k.steps.points t.own (some_points line before after told k) t.beside) t.each t.behind))
    (line_moves line before after told k lane t)))
