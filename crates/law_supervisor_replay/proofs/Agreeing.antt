-- THE SUPERVISOR'S REPLAY AGREES, line after line.
use Rattle.std.proofs.Common.{
  ◌≡◌,
  ◌≤◌,
  ◌∙◌,
  ◌++◌,
  ◌+◌,
  ◌==◌,
  ◌||◌,
  ℕ,
  zero,
  suc,
  Bool,
  true,
  false,
  List,
  [],
  ◌∷◌,
  None,
  Option,
  is_some,
  inl,
  inr,
  length,
  refl,
  sym,
  ap,
  subst,
  arith,
  append-nil,
  append_assoc,
  eqb-true,
  eq-eqb,
}
use Rattle.std.specs.Prelude.{if◌then◌else◌, take}
use Rattle.std.specs.List.{AllByRecursion, list_any}
use Rattle.std.proofs.lemmas.Bool.{false≢true, or_cases, false_from_ne_true, or_left, or_parts}
use Rattle.std.proofs.lemmas.List.Folds.{list_any-append}
use Rattle.line_step.proofs.Running.{short-behind}
use Rattle.law_one_standing.proofs.Reaching.{run_more, behind_more}
use Rattle.law_one_standing.proofs.MirroringEnds.{vacuous}
use Rattle.standings.specs.Marks.{has_mark, intake, kept, outlet}
use Rattle.standings.specs.declared.mark.Mark.TheVariants.{Kept, Outlet, Intake}
use Rattle.line_report.specs.declared.happening.Happening.{Happening}
use Rattle.line_report.specs.declared.happening.Happening.TheVariants as happenings
use Rattle.node_core.specs.declared.act.Act.TheVariants as acts
use Rattle.standings.specs.declared.mark.Mark.{Mark}
use Rattle.law_one_standing.specs.Carried.{stand_of}
use Rattle.law_one_standing.proofs.MarksOf.{HasMark}
use Rattle.line_step.specs.Lies.{has_lie, tells_lie}
use Rattle.line_step.specs.Lines.{LineSteps}
use Rattle.line_step.specs.Numbered.{node_at}
use Rattle.line_step.specs.Tracks.{ComesFromElsewhere, IsBeside, TrackLine, TrackSteps, other_line, own_line}
use Rattle.line_step.specs.World.{WorldParts}
use Rattle.line_step.proofs.Beside.{beside-lane, beside-old}
use Rattle.node_core.specs.declared.lane.Lane.{Lane}
use Rattle.line_world.specs.Boards.{boards_on}
use Rattle.line_world.specs.FloorPlan.{machine_at}
use Rattle.line_step.specs.Runs.{IsRun, Point, all_told, state_behind, IsShort}
use Rattle.line_step.specs.Shown.{standings_told}
use Rattle.line_step.specs.State.{LineState, marks_in, no_line}
use Rattle.line_step.specs.Requests.{Request, gives}
use Rattle.law_one_standing.specs.Carried.{Trace}
use Rattle.law_one_standing.specs.Stands.{Stands}
use Rattle.law_one_standing.specs.Waits.{AreWaiting}
use Rattle.law_one_standing.specs.Standing.{HasOneStanding, IsFitRequest, IsFitTrack}
use Rattle.law_one_standing.proofs.ApartStep.{does_goes}
use Rattle.law_one_standing.proofs.Carrying.{SaysAlone}
use Rattle.law_one_standing.proofs.FactsOf.{facts_of}
use Rattle.law_one_standing.proofs.LedgerMarks.{mark_at_machine}
use Rattle.law_one_standing.proofs.LineForms.{ConnectsBear}
use Rattle.law_one_standing.proofs.LineRun.{AreStoodBy, Stood, StoodBy, none_stood, run_by, honest_front, track_stood}
use Rattle.law_one_standing.proofs.ApartStep.{AreNews}
use Rattle.law_one_standing.proofs.Comings.{away_has_none, track_news}
use Rattle.node_core.specs.declared.input.Input.TheVariants as inputs
use Rattle.line_step.specs.Homes.{AreNewcomers, IsNewcomer, is_home}
use Rattle.line_step.proofs.Shifted.{AreAskedFor, AsksFor, IsAskedFor, asks_to_get, steps_asked}
use Rattle.line_step.proofs.Vouching.{none_lied}
use Rattle.law_one_standing.proofs.OneStand.{one_standing_of}
use Rattle.law_one_standing.proofs.RestMore.{counted_stands}
use Rattle.law_supervisor_replay.specs.Along.{AgreesAlong, told_since}
use Rattle.handover_in.specs.State.{board_of_phase as held_in}
use Rattle.handover_in.specs.declared.phase.Phase.{Phase as InPhase}
use Rattle.node_core.specs.Own.{id_of}
use Rattle.standings.specs.Marks.{is_held}
use Rattle.law_supervisor_replay.specs.Replay.{has_left, Agrees, AreWatched, At, IsOnlyMark, IsWatched, KeepAgreeing, Nowhere, ReplayAgrees, Way, came_in, is_marked_at, since_came, told_of}
use Rattle.law_one_standing.proofs.ApartFloor.{counted}
use Rattle.law_supervisor_replay.proofs.Bodies.{holds_it, keeps_it, misses_it, takes_it, will_leave}
use Rattle.law_supervisor_replay.proofs.DownForms.{free_beside}
use Rattle.law_supervisor_replay.proofs.Views.{IsSame}
use Rattle.law_supervisor_replay.proofs.Since.{left_since}
use Rattle.law_supervisor_replay.proofs.Lines.{Agreed, Comes, IsUnknown, still_agrees}
use Rattle.law_supervisor_replay.proofs.Turns.{none_marked as marked_none}
use Rattle.law_supervisor_replay.proofs.Never.{Never, left_was, never_step}
use Rattle.law_supervisor_replay.proofs.Running.{does_agree}
use Rattle.law_supervisor_replay.proofs.Sights.{sole_of, view_of}
use Rattle.law_supervisor_replay.proofs.Silent.{none_silent, remarks_silent}
use Rattle.line_step.proofs.Remarks.{standings_remarks}

-- ---- what the marks say

or_right : (a b : Bool) → (a ≡ false → b ≡ true) → (a || b) ≡ true
or_right true b next = refl
or_right false b next = next refl

same_tests : (a b : Bool) → (a ≡ true → b ≡ true) → (b ≡ true → a ≡ true) → a ≡ b
same_tests true b one two = sym (one refl)
same_tests false true one two = two refl
same_tests false false one two = refl

at_not_way : {X : Type 0} (machine gap : ℕ) → At machine ≡ Way gap → X
at_not_way machine gap is = cc

-- what has left was not started since, where the intake below holds it: above machine 1 there is
-- none
since_then : (t : Trace) (id gap : ℕ) (s : LineState) (past : List Happening) → Stands t s
    → (view_of id s).taken (gap + 1) ≡ true → ((j : ℕ) → Never id j s past)
    → has_left gap id past ≡ true
    → left_since gap id past ≡ true
since_then t id zero s past st taken never left =
    absurd (false≢true
    (sym (ap (λ (i : InPhase). is_held id (id_of (held_in i))) (st.rest 0 refl).intake) ∙
    taken))
since_then t id (suc j) s past st taken never left =
    let same : j + 1 ≡ suc j = omega arith in
    subst (λ (gap : ℕ). has_left gap id past ≡ true
    → left_since gap id past ≡ true) same (never j).still left

-- in terms of the view
agrees_of : (t : Trace) (id : ℕ) (s : LineState) (past : List Happening) → Stands t s
    → HasOneStanding s
    → Agreed id s past → ((j : ℕ) → Never id j s past) → Agrees past s id
agrees_of t id s past st one was never =
    let h = was.holds in
    let kept_is : (m : ℕ) → has_mark (Kept m) (marks_in s id) ≡ (view_of id s).kept m =
    λ m. mark_at_machine s kept m id in
    let held_is : (m : ℕ) → has_mark (Outlet m) (marks_in s id) ≡ (view_of id s).held m =
    λ m. mark_at_machine s outlet m id in
    let taken_is : (m : ℕ) → has_mark (Intake m) (marks_in s id) ≡ (view_of id s).taken m =
    λ m. mark_at_machine s intake m id in
    record {
      at = λ machine place.
          or_right (has_mark (Kept machine) (marks_in s id))
          (has_mark (Outlet machine) (marks_in s id)) (λ none.
          held_is machine ∙ h.at machine place (sym (kept_is machine) ∙ none));
      is_at = λ machine has.
          elim (or_cases (has_mark (Kept machine) (marks_in s id))
          (has_mark (Outlet machine) (marks_in s id)) has) [
            | inl mine ↦ h.kept_at machine (sym (kept_is machine) ∙ mine)
            | inr mine ↦ h.held_at machine (sym (held_is machine) ∙ mine)
          ];
      way = λ gap place. (
        left_was gap id past (h.way gap place).0,
        only gap place (h.way gap place).1 kept_is held_is taken_is,
      );
      is_on_way = λ gap left alone.
          (let taken : (view_of id s).taken (gap + 1) ≡ true =
          sym (taken_is (gap + 1)) ∙ alone (Intake (gap + 1)) ∙ eq-eqb (gap + 1) (gap + 1) refl in
          h.on_way gap (since_then t id gap s past st taken never left) taken
          (λ i. sym (kept_is i) ∙ alone (Kept i)) (λ i. sym (held_is i) ∙ alone (Outlet i)));
    } where
      only : (gap : ℕ) → (told_of id past).place ≡ Way gap → (view_of id s).taken (gap + 1) ≡ true
          → ((m : ℕ) → has_mark (Kept m) (marks_in s id) ≡ (view_of id s).kept m)
          → ((m : ℕ) → has_mark (Outlet m) (marks_in s id) ≡ (view_of id s).held m)
          → ((m : ℕ) → has_mark (Intake m) (marks_in s id) ≡ (view_of id s).taken m)
          → IsOnlyMark (Intake (gap + 1)) (marks_in s id)
      only gap place taken kept_is held_is taken_is (Kept m) =
          kept_is m ∙ false_from_ne_true ((view_of id s).kept m) (λ has.
          at_not_way m gap (sym (was.holds.kept_at m has) ∙ place))
      only gap place taken kept_is held_is taken_is (Outlet m) =
          held_is m ∙ false_from_ne_true ((view_of id s).held m) (λ has.
          at_not_way m gap (sym (was.holds.held_at m has) ∙ place))
      only gap place taken kept_is held_is taken_is (Intake m) =
          taken_is m
          ∙ same_tests ((view_of id s).taken m) (m == gap + 1)
          (λ has. eq-eqb m (gap + 1) ((sole_of t s id st one).one_taken m (gap + 1) has taken))
          (λ same. ap (view_of id s).taken (eqb-true m (gap + 1) same) ∙ taken)

-- ---- a line

-- a state but for the count of its lines
abbrev counted_to : ℕ → LineState → LineState
counted_to lines s = record s { lines = lines }

stood_uncounted : (t : Trace) (next : LineState) (lines : ℕ) → next.lines ≤ 1000000
    → Stands t (counted_to lines next)
    → Stands t next
stood_uncounted t next lines few st = counted_stands t (counted_to lines next) next.lines few st

-- the count is none of what is looked at
counted_agrees : (id : ℕ) (next : LineState) (lines : ℕ) (past done told : List Happening)
    (before : LineState)
    → told ≡ done ++ standings_told before next → Agreed id next (past ++ done)
    → Agreed id (counted_to lines next) (past ++ told)
counted_agrees id next lines past done told before is was =
    subst (λ (ts : List Happening). Agreed id (counted_to lines next) ts)
    (append_assoc past done (standings_told before next) ∙ ap (λ (ts : List Happening). past
    ++ ts) (sym is))
    (still_agrees id next (counted_to lines next) (past ++ done) (standings_told before next)
    (remarks_silent (standings_told before next) (standings_remarks before next))
    (record {
      kept = λ i. refl;
      held = λ i. refl;
      taken = λ i. refl;
      leaving = λ i. refl;
      missing = λ i. refl;
      off = refl;
    }) (λ x old. old) was)

steps_agree : (alone : SaysAlone) (id number : ℕ) (request : Request) (before after : LineState)
    (told past : List Happening)
    → (was : Stood before) → Stood after → after.lines ≤ 1000000 → tells_lie told ≡ false
    → IsWatched before → IsWatched after → AreNews was.trace before told
    → ComesFromElsewhere request before
    → (steps : LineSteps number request before after told) → Comes id past before steps.done request
    → Agreed id before past
    → Agreed id after (past ++ told)
steps_agree alone id number request before after told past was now few honest watched watched2 news from steps comes
    agreed =
    let next : LineState = steps.next in
    let done : List Happening = steps.done in
    let t : Trace = was.trace in
    let t2 : Trace = now.trace in
    let counted : Stands t2 (counted_to steps.lines next) =
    subst (λ (s : LineState). Stands t2 s) steps.after_is now.stands in
    let within : steps.lines ≤ 1000000 =
    subst (λ (s : LineState). s.lines ≤ 1000000) steps.after_is few in
    let st2 : Stands t2 next =
    stood_uncounted t2 next steps.lines (omega (arith, within, steps.counts.least)) counted in
    let waits : AreWaiting (counted_to steps.lines next) =
    subst (λ (s : LineState). AreWaiting s) steps.after_is now.waits in
    let seen : IsWatched (counted_to steps.lines next) =
    subst (λ (s : LineState). IsWatched s) steps.after_is watched2 in
    let front : tells_lie done ≡ false =
    honest_front done (standings_told before next) (ap tells_lie (sym steps.told_is) ∙ honest) in
    subst (λ (s : LineState). Agreed id s (past ++ told)) (sym steps.after_is)
    (counted_agrees id next steps.lines past done told before steps.told_is
    (does_agree id t t2 number request before next done past comes front steps.does (record {
      st = was.stands;
      one = one_standing_of t before was.stands;
      facts = facts_of alone t before was.stands was.waits;
      st2 = st2;
      one2 = one_standing_of t2 next st2;
      facts2 = facts_of alone t2 next st2 (λ machine. waits machine);
      goes = does_goes number request before next done was.stands.ids from steps.does;
      news = subst (λ (ts : List Happening). AreNews t before ts) steps.told_is news;
      was = agreed;
      watched = watched;
      watched2 = λ machine x marked. seen machine x marked;
    })))

-- ---- a run

-- a line without a machine: nothing was told, and no machine has a mark
none_marked : (id : ℕ) (machine : ℕ) → ((view_of id no_line).kept machine ≡ false)
    × (((view_of id no_line).held machine ≡ false) × ((view_of id no_line).taken machine ≡ false))
none_marked id zero = (refl, (refl, refl))
none_marked id (suc place) = (refl, (refl, refl))

nowhere_at : {X : Type 0} (machine : ℕ) → Nowhere ≡ At machine → X
nowhere_at machine is = cc

nowhere_way : {X : Type 0} (gap : ℕ) → Nowhere ≡ Way gap → X
nowhere_way gap is = cc

pub none_agreed : (id : ℕ) → Agreed id no_line []
none_agreed id = record {
  holds = record {
    kept_at = λ j has. vacuous (none_marked id j).0 has;
    held_at = λ j has. vacuous (none_marked id j).1.0 has;
    at = λ j place none. nowhere_at j place;
    way = λ j place. nowhere_way j place;
    on_way = λ j left taken kept held. absurd (false≢true left);
    off = λ lost. absurd (false≢true lost);
    lost = λ j lost has. absurd (false≢true lost);
    leaves = λ j held leaving lost. vacuous (none_marked id j).1.0 held;
    on_floor = λ j place off. nowhere_way j place;
    over = λ j left taken. absurd (false≢true left);
    behind = λ k left i above. absurd (false≢true left);
  };
  known = inr (record { told = refl; left = λ gap. refl });
}

none_watched : IsWatched no_line
none_watched machine id marked = vacuous (none_by machine id) marked where
  none_by : (machine id : ℕ) → is_marked_at no_line machine id ≡ false
  none_by zero id = refl
  none_by (suc place) id = refl

lines_few : (s : LineState) → Stood s → s.lines ≤ 1000000
lines_few s stood = stood.stands.together.short

-- that what has left is not started again, behind the next line
next_never : SaysAlone
    → (id j number : ℕ) (request : Request) (before after : LineState) (told past : List Happening)
    → number ≤ 1000000 → IsFitRequest request → Stood before → LineSteps number request before after told
    → Agreed id after (past ++ told) → Never id j before past → Never id j after (past ++ told)
next_never alone id j number request before after told past few fit was steps agreed never =
    never_step alone id j number request before after told past few fit was steps
    (λ left. (agreed.holds.behind (j + 1) left (j + 1) (omega arith)).0) never

none_never : (id j : ℕ) → Never id j no_line []
none_never id j = record {
  still = λ left. absurd (false≢true left);
  free = λ left. absurd (false≢true left);
}

-- ---- a line of another track

beside_seen : (id : ℕ) (s t : LineState) → IsBeside s t → IsSame (view_of id s) (view_of id t)
beside_seen id s t is = record {
  kept = λ i. ap (λ (l : Lane). keeps_it id l.body) (beside-lane s t i is);
  held = λ i. ap (λ (l : Lane). holds_it id l.body) (beside-lane s t i is);
  taken = λ i. ap (λ (l : Lane). takes_it id l.body) (beside-lane s t i is);
  leaving = λ i. ap (λ (w : WorldParts). will_leave (machine_at w.floor i).unread) is.world;
  missing = λ i.
      ap (λ (l : Lane). misses_it l.body (machine_at t.world.floor i).unread) (beside-lane s t i is)
      ∙ ap (λ (w : WorldParts). misses_it (node_at s i).lane.body (machine_at w.floor i).unread) is.world;
  off = ap (λ (w : WorldParts). counted id (boards_on w.floor) == 0) is.world;
}

beside_agrees : (id : ℕ) (s t : LineState) (told past : List Happening) → IsBeside s t → told ≡ []
    → Agreed id s past → Agreed id t (since_came id past told)
beside_agrees id s t told past is none was =
    subst (λ (ts : List Happening). Agreed id t (since_came id past ts)) (sym none)
    (still_agrees id s t past [] none_silent (beside_seen id s t is)
    (beside-old 1 s.machines t.machines is.machines) was)

beside_never : (id j : ℕ) (s t : LineState) (told past : List Happening) → IsBeside s t → told ≡ []
    → Never id j s past → Never id j t (since_came id past told)
beside_never id j s t told past is none was =
    subst (λ (ts : List Happening). Never id j t (since_came id past ts)) (sym none)
    (subst (λ (ts : List Happening). Never id j t ts) (sym (append-nil past))
    (record { still = was.still; free = λ left. free_beside s t is (was.free left) }))

-- ---- what is told to come

either_way : {X : Type 0} (a b : Bool) → (a || b) ≡ true → (a ≡ true → X) → (b ≡ true → X) → X
either_way true b is one two = one refl
either_way false b is one two = two is

-- so it is in the whole line
came_told : (id : ℕ) (told done standings : List Happening) → told ≡ done ++ standings
    → list_any (came_in id) done ≡ true → list_any (came_in id) told ≡ true
came_told id told done standings is came =
    ap (list_any (came_in id)) is ∙ list_any-append (came_in id) done standings
    ∙ or_left (list_any (came_in id) done) (list_any (came_in id) standings) came

new_never : (id j : ℕ) (s : LineState) → Never id j s []
new_never id j s = record {
  still = λ left. absurd (false≢true left);
  free = λ left. absurd (false≢true left);
}

-- ---- a board that comes from another lane

-- no machine has a mark of it, so the marks agree with nothing at all
away_agreed : (id : ℕ) (s : LineState) → ((mark : Mark) → HasMark (stand_of s) id mark → ⊥) → Agreed id s []
away_agreed id s none = record {
  holds = record {
    kept_at = λ j has. absurd (marked_none id j s none (inl has));
    held_at = λ j has. absurd (marked_none id j s none (inr (inl has)));
    at = λ j place here. nowhere_at j place;
    way = λ j place. nowhere_way j place;
    on_way = λ j left taken kept held. absurd (false≢true left);
    off = λ lost. absurd (false≢true lost);
    lost = λ j lost has. absurd (false≢true lost);
    leaves = λ j held leaving lost. absurd (marked_none id j s none (inr (inl held)));
    on_floor = λ j place off. nowhere_way j place;
    over = λ j left taken. absurd (false≢true left);
    behind = λ k left i above. absurd (false≢true left);
  };
  known = inr (record { told = refl; left = λ gap. refl });
}

away_unmarked : (id : ℕ) (past : List Happening) (s : LineState) → StoodBy past s → is_home id past ≡ false
    → (mark : Mark) → HasMark (stand_of s) id mark → ⊥
away_unmarked id past s by away mark marked = away_has_none by.stood.stands (by.away id away) marked

-- what is told to come is what was asked for
came_asked : {request : Request} {machine other : ℕ} (id : ℕ) (past : List Happening)
    → AsksFor request machine (acts.Gets other) → IsNewcomer past (own_line request) → other ≡ id
    → is_home id past ≡ false
came_asked id past asks_to_get new same = subst (λ (x : ℕ). is_home x past ≡ false) same new

came_one : (id : ℕ) (past : List Happening) (request : Request) (h : Happening) → IsAskedFor request h
    → IsNewcomer past (own_line request) → came_in id h ≡ true → is_home id past ≡ false
came_one id past request (happenings.Done machine (acts.Gets other)) asks new is =
    came_asked id past asks new (eqb-true other id is)
came_one id past request _ asks new is = absurd (false≢true is)

came_away : (id : ℕ) (past : List Happening) (request : Request) (told : List Happening) → AreAskedFor request told
    → IsNewcomer past (own_line request) → list_any (came_in id) told ≡ true → is_home id past ≡ false
came_away id past request [] all new is = absurd (false≢true is)
came_away id past request (h ∷ told) all new is =
    either_way (came_in id h) (list_any (came_in id) told) is
    (λ here. came_one id past request h all.0 new here)
    (λ later. came_away id past request told all.1 new later)

-- what a board that comes has to do with the track: `mine` is what a supervisor has of an id
comes_of : (id : ℕ) (past mine : List Happening) (request : Request) (s : LineState) (done : List Happening)
    → StoodBy past s
    → IsNewcomer past (own_line request) → (list_any (came_in id) done ≡ true → IsUnknown id mine)
    → Comes id mine s done request
comes_of id past mine (gives machine (inputs.Gets board)) s done by new unknown =
    (λ same came. unknown came, λ mark marked. away_unmarked board.id past s by new mark marked)
comes_of id past mine (gives machine _) s done by new unknown = tt
comes_of id past mine _ s done by new unknown = tt

-- ---- a line of a track

own_agrees : (alone : SaysAlone) (id number : ℕ) (request : Request) (before after : LineState)
    (told past mine : List Happening)
    → StoodBy past before → Stood after → after.lines ≤ 1000000 → tells_lie told ≡ false
    → IsWatched before → IsWatched after → IsNewcomer past (own_line request)
    → TrackSteps number (own_line request) before after told → Agreed id before mine
    → (came : Bool) → list_any (came_in id) told ≡ came
    → Agreed id after (if came then told else mine ++ told)
own_agrees alone id number request before after told past mine was now few honest watched watched2 new steps agreed
    true is =
    let away : is_home id past ≡ false =
    came_away id past request told (steps_asked number request before after told steps.0) new is in
    steps_agree alone id number request before after told [] was.stood now few honest watched watched2
    (track_news number past (own_line request) before after told was new steps) steps.1 steps.0
    (comes_of id past [] request before steps.0.done was new (λ came. record { told = refl; left = λ gap. refl }))
    (away_agreed id before (away_unmarked id past before was away))
own_agrees alone id number request before after told past mine was now few honest watched watched2 new steps agreed
    false is =
    steps_agree alone id number request before after told mine was.stood now few honest watched watched2
    (track_news number past (own_line request) before after told was new steps) steps.1 steps.0
    (comes_of id past mine request before steps.0.done was new (λ came.
    absurd (false≢true (sym is ∙ came_told id told steps.0.done (standings_told before steps.0.next) steps.0.told_is came))))
    agreed

track_agrees : (alone : SaysAlone) (id number : ℕ) (line : TrackLine) (before after : LineState)
    (told past mine : List Happening)
    → StoodBy past before → Stood after → after.lines ≤ 1000000 → tells_lie told ≡ false
    → IsWatched before → IsWatched after → IsNewcomer past line
    → TrackSteps number line before after told → Agreed id before mine
    → Agreed id after (since_came id mine told)
track_agrees alone id number (own_line request) before after told past mine was now few honest watched watched2 new steps
    agreed =
    own_agrees alone id number request before after told past mine was now few honest watched watched2 new steps agreed
    (list_any (came_in id) told) refl
track_agrees alone id number other_line before after told past mine was now few honest watched watched2 new steps
    agreed =
    beside_agrees id before after told mine steps.0 steps.1 agreed

own_never : SaysAlone
    → (id j number : ℕ) (request : Request) (before after : LineState) (told mine : List Happening)
    → number ≤ 1000000 → IsFitRequest request → Stood before → LineSteps number request before after told
    → Never id j before mine → (came : Bool)
    → Agreed id after (if came then told else mine ++ told)
    → Never id j after (if came then told else mine ++ told)
own_never alone id j number request before after told mine few fit was steps never true agreed =
    next_never alone id j number request before after told [] few fit was steps agreed (new_never id j before)
own_never alone id j number request before after told mine few fit was steps never false agreed =
    next_never alone id j number request before after told mine few fit was steps agreed never

track_never : SaysAlone
    → (id j number : ℕ) (line : TrackLine) (before after : LineState) (told mine : List Happening)
    → number ≤ 1000000 → IsFitTrack line → Stood before → TrackSteps number line before after told
    → Agreed id after (since_came id mine told) → Never id j before mine → Never id j after (since_came id mine told)
track_never alone id j number (own_line request) before after told mine few fit was steps agreed never =
    own_never alone id j number request before after told mine few fit was steps.0 never (list_any (came_in id) told)
    agreed
track_never alone id j number other_line before after told mine few fit was steps agreed never =
    beside_never id j before after told mine steps.0 steps.1 never

-- ---- along a run

run_agrees : (alone : SaysAlone) (id : ℕ) (s : LineState) (asked : List TrackLine) (points : List Point)
    (n : ℕ)
    (past mine : List Happening) → AllByRecursion IsFitTrack asked → IsShort s points
    → StoodBy past s
    → IsRun s asked points → AreStoodBy past (take n points) → has_lie (take n points) ≡ false
    → AreNewcomers past (take n asked) (take n points)
    → IsWatched s
    → AreWatched (take n points) → Agreed id s mine → ((j : ℕ) → Never id j s mine)
    → KeepAgreeing id mine (take n points)
run_agrees alone id s asked points zero past mine fit few was run all honest new watched seen agreed never = tt
run_agrees alone id s [] [] (suc n) past mine fit few was run all honest new watched seen agreed never = tt
run_agrees alone id s [] (point ∷ points)
    (suc n) past mine fit few was run all honest new watched seen agreed never = absurd run
run_agrees alone id s (line ∷ asked) []
    (suc n) past mine fit few was run all honest new watched seen agreed never = absurd run
run_agrees alone id s (line ∷ asked) (point ∷ points)
    (suc n) past mine fit few was run all honest new watched seen agreed never =
    let here : s.lines + 1 ≤ 1000000 = few.0 in
    let left : IsShort point.after points = few.1 in
    let first : tells_lie point.told ≡ false =
    (or_parts (tells_lie point.told) (has_lie (take n points)) honest).0 in
    let rest : has_lie (take n points) ≡ false =
    (or_parts (tells_lie point.told) (has_lie (take n points)) honest).1 in
    let now : List Happening = since_came id mine point.told in
    let next : Agreed id point.after now =
    track_agrees alone id (s.lines + 1) line s point.after point.told past mine was all.0.stood
    (lines_few point.after all.0.stood)
    first watched seen.0 new.0 run.0 agreed in
    let later : (j : ℕ) → Never id j point.after now =
    λ j. track_never alone id j
    (s.lines + 1) line s point.after point.told mine here fit.0 was.stood run.0 next
    (never j) in (
      agrees_of all.0.stood.trace id point.after now all.0.stood.stands
          (one_standing_of all.0.stood.trace point.after all.0.stood.stands) next later,
      run_agrees alone id point.after asked points n (past
          ++ point.told) now fit.1 left all.0 run.1 all.1 rest new.1 seen.0 seen.1 next later,
    )

-- THE LAW
pub replay_agrees : SaysAlone → ConnectsBear → ReplayAgrees
replay_agrees alone connects asked points n fit few run honest watched id =
    run_agrees alone id no_line asked points n [] [] fit few none_stood run
    (run_by alone connects [] no_line asked points n fit few none_stood run honest.told honest.newcomers)
    honest.told honest.newcomers none_watched watched (none_agreed id) (none_never id)

-- ---- the next line behind a run

-- behind a whole run
behind_run : (alone : SaysAlone) (id : ℕ) (s : LineState) (asked : List TrackLine) (points : List Point)
    (past mine : List Happening)
    → ConnectsBear → AllByRecursion IsFitTrack asked → IsShort s points → StoodBy past s
    → IsRun s asked points
    → AreNewcomers past asked points
    → has_lie points ≡ false → IsWatched s → AreWatched points → Agreed id s mine
    → ((j : ℕ) → Never id j s mine)
    → StoodBy (past ++ all_told points) (state_behind s points) × (IsWatched (state_behind s points)
    × (Agreed id (state_behind s points) (told_since id mine points)
    × ((j : ℕ) → Never id j (state_behind s points) (told_since id mine points))))
behind_run alone id s [] [] past mine connects fit few was run new honest watched seen agreed never =
    (subst (λ (ts : List Happening). StoodBy ts s) (sym (append-nil past)) was, (watched, (agreed, never)))
behind_run alone id s []
    (point ∷ points) past mine connects fit few was run new honest watched seen agreed never = absurd run
behind_run alone id s (line ∷ asked) [] past mine connects fit few was run new honest watched seen agreed never
    = absurd run
behind_run alone id s (line ∷ asked)
    (point ∷ points) past mine connects fit few was run new honest watched seen agreed never =
    let first : tells_lie point.told ≡ false =
    (or_parts (tells_lie point.told) (has_lie points) honest).0 in
    let rest : has_lie points ≡ false = (or_parts (tells_lie point.told) (has_lie points) honest).1 in
    let here : s.lines + 1 ≤ 1000000 = few.0 in
    let stood : StoodBy (past ++ point.told) point.after =
    track_stood alone connects
    (s.lines + 1) past line s point.after point.told refl here fit.0 new.0 first was run.0 in
    let left : IsShort point.after points = few.1 in
    let now : List Happening = since_came id mine point.told in
    let next : Agreed id point.after now =
    track_agrees alone id (s.lines + 1) line s point.after point.told past mine was stood.stood
    (lines_few point.after stood.stood)
    first watched seen.0 new.0 run.0 agreed in
    let once : (j : ℕ) → Never id j point.after now =
    λ j. track_never alone id j
    (s.lines + 1) line s point.after point.told mine here fit.0 was.stood run.0 next
    (never j) in
    let later =
    behind_run alone id point.after asked points (past
    ++ point.told) now connects fit.1 left stood run.1 new.1 rest seen.0 seen.1 next
    once in (
      subst (λ (ts : List Happening). StoodBy ts (state_behind point.after points))
          (append_assoc past point.told (all_told points)) later.0,
      later.1,
    )

-- a run whose last line remembers no lie told none
honest_run : (asked : List TrackLine) (points : List Point) (s : LineState)
    → IsRun no_line asked points
    → state_behind no_line points ≡ s → s.unvouched ≡ None → has_lie points ≡ false
honest_run asked points s run behind none =
    none_lied asked points run (ap (λ (u : LineState). u.unvouched) behind ∙ none)

lies_first : (points : List Point) (point : Point) → has_lie (points ++ point ∷ []) ≡ false
    → (has_lie points ≡ false) × (tells_lie point.told ≡ false)
lies_first [] point is = (refl, (or_parts (tells_lie point.told) false is).0)
lies_first (first ∷ points) point is =
    let here = (or_parts (tells_lie first.told) (has_lie (points ++ point ∷ [])) is).0 in
    let rest =
    lies_first points point
    (or_parts (tells_lie first.told) (has_lie (points ++ point ∷ [])) is).1 in
    (none_both (tells_lie first.told) (has_lie points) here rest.0, rest.1) where
      none_both : (a b : Bool) → a ≡ false → b ≡ false → (a || b) ≡ false
      none_both false b one two = two
      none_both true b one two = one

next_agrees : (alone : SaysAlone) → ConnectsBear
    → (after : LineState) (told : List Happening)
    (asked : List TrackLine) (points : List Point) (line : TrackLine) → AllByRecursion IsFitTrack asked
    → IsFitTrack line → AreNewcomers [] asked points → IsNewcomer (all_told points) line
    → (state_behind no_line points).lines + 1 ≤ 1000000 → IsRun no_line asked points
    → TrackSteps ((state_behind no_line points).lines + 1) line
    (state_behind no_line points) after told
    → after.unvouched ≡ None → AreWatched points → IsWatched after → (id : ℕ)
    → Agrees (since_came id (told_since id [] points) told) after id
next_agrees alone connects after told asked points line fit fits new newcomer few run steps none seen watched id
    =
    let point : Point = record { told = told; after = after } in
    let whole : IsRun no_line (asked ++ line ∷ []) (points ++ point ∷ []) =
    run_more no_line asked points line point run steps in
    let honest : has_lie (points ++ point ∷ []) ≡ false =
    honest_run (asked ++ line ∷ []) (points ++ point ∷ []) after whole
    (behind_more no_line points point) none in
    let parts = lies_first points point honest in
    let within : IsShort no_line points = short-behind no_line asked points run few in
    let mine : List Happening = told_since id [] points in
    let before =
    behind_run alone id no_line asked points [] [] connects fit within none_stood run new parts.0
    none_watched seen (none_agreed id)
    (none_never id) in
    let by : StoodBy (all_told points ++ told) after =
    track_stood alone connects ((state_behind no_line points).lines + 1) (all_told points) line
    (state_behind no_line points) after told refl
    few fits newcomer parts.1 before.0 steps in
    let stood : Stood after = by.stood in
    let next : Agreed id after (since_came id mine told) =
    track_agrees alone id ((state_behind no_line points).lines + 1) line
    (state_behind no_line points) after told
    (all_told points) mine before.0 stood (lines_few after stood) parts.1 before.1.0 watched newcomer steps
    before.1.1.0 in
    agrees_of stood.trace id after (since_came id mine told) stood.stands
    (one_standing_of stood.trace after stood.stands)
    next
    (λ j.
    track_never alone id j ((state_behind no_line points).lines + 1) line
    (state_behind no_line points) after told
    mine few fits before.0.stood steps next (before.1.1.1 j))

-- THE LAW of a line
pub agrees_along : SaysAlone → ConnectsBear → AgreesAlong
agrees_along alone connects before after told few none = record {
  behind = λ asked points line fit fits run new newcomer behind steps seen watched id.
      (let at : TrackSteps ((state_behind no_line points).lines + 1) line
      (state_behind no_line points) after told =
      subst (λ (s : LineState). TrackSteps (s.lines + 1) line s after told) (sym behind) steps in
      let within : (state_behind no_line points).lines + 1 ≤ 1000000 =
      subst (λ (s : LineState). s.lines + 1 ≤ 1000000) (sym behind) few in
      next_agrees alone connects after told asked points line fit fits new newcomer within run at none seen watched id);
}
