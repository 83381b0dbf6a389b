-- An id that was made before isn't made again, on any lane; and no two boards share one: THE LAW.
use Rattle.std.proofs.Common.{◌≡◌, ◌≢◌, ◌∙◌, ◌+◌, ◌≤◌, ◌==◌, ◌++◌, ◌||◌, ◌⊎◌, inl, inr, ℕ, Bool, true, false, List, [], ◌∷◌, refl, sym, ap, subst, arith, append-nil, eq-eqb}
use Rattle.std.specs.List.{AllByRecursion, list_any}
use Rattle.node_core.specs.declared.act.Act.{Act}
use Rattle.node_core.specs.declared.act.Act.TheVariants as acts
use Rattle.line_script.specs.declared.line.LaneLine.{LaneLine}
use Rattle.line_world.specs.FloorPlan.{has_id}
use Rattle.line_world.specs.declared.board.Board.{Board}
use Rattle.line_report.specs.declared.happening.Happening.{Happening}
use Rattle.line_report.specs.declared.happening.Happening.TheVariants as happenings
use Rattle.line_report.specs.declared.happening.LaneHappening.{LaneHappening}
use Rattle.step_rules.specs.Makers.{IsOld}
use Rattle.line_step.specs.FloorIds.{IsNoneOf, boards_of, handled_by, made_by, made_in}
use Rattle.line_step.specs.State.{LineState}
use Rattle.line_step.proofs.OnFloor.{made-join}
use Rattle.law_lanes.specs.Along.{all_done, told_for}
use Rattle.law_lanes.specs.Lanes.{Lanes, lines_of, no_lanes, track}
use Rattle.law_lanes.specs.Parts.{LanePoint, all_points}
use Rattle.law_lanes.specs.Shown.{standings_on}
use Rattle.law_lanes.proofs.Along.{each_lane_is, none_along}
use Rattle.law_lanes.proofs.Apart.{ShiftOn, shift_on}
use Rattle.law_lanes.proofs.Floors.{count}
use Rattle.law_lanes.proofs.Moving.{IsShifted, SeenShift}
use Rattle.law_lanes.proofs.Seen.{Seen, same_or_not}
use Rattle.law_lanes.proofs.Shifting.{AreCalm, IsCalm, TellsOne}
use Rattle.law_lanes.proofs.Telling.{came, came_in, done_append, for_append, join_all, none_for, one_if, standings_none}
use Rattle.law_lanes.proofs.Together.{IsThere, Whether, is_past, is_there, whether}
use Rattle.law_lanes.proofs.Walk.{Along, HonestTrack, line_seen}
use Rattle.law_lane_ids.specs.Played.{lines_done}
use Rattle.law_lane_ids.specs.OwnIds.{AreNew, HasOwnIds, IdsOfAllLanes, MakesNew}
use Rattle.law_lane_ids.proofs.Aging.{AreOlds, EachOld, each_so, same_made, track_ages}
use Rattle.law_lane_ids.proofs.Steps.{EachStep, StepsAlong, run_steps}

-- ---- what doesn't come isn't made

apart_of : (new id : ℕ) → one_if (new == id) ≡ 0 → id ≢ new
apart_of new id none same =
    let own : one_if (new == id) ≡ 1 = ap one_if (eq-eqb new id (sym same)) in
    omega (arith, none, own)

none_in : (id : ℕ) (h : Happening) → came_in id h ≡ 0
    → AllByRecursion (λ (new : ℕ). id ≢ new) (made_in h)
none_in id (happenings.Done machine (acts.Inserts new)) none = (apart_of new id none, tt)
none_in id (happenings.Done machine (acts.Replaces old new)) none = (apart_of new id none, tt)
none_in id h none = tt

none_made : (id : ℕ) (told : List Happening) → came id told ≡ 0
    → AllByRecursion (λ (new : ℕ). id ≢ new) (made_by told)
none_made id [] none = tt
none_made id (h ∷ told) none =
    join_all (λ (new : ℕ). id ≢ new) (made_in h) (made_by told)
    (none_in id h (omega (arith, none))) (none_made id told (omega (arith, none)))

-- ---- a shift makes none

calm_one : (h : Happening) → IsCalm h → made_in h ≡ []
calm_one (happenings.Done machine (acts.Inserts new)) calm = absurd calm
calm_one (happenings.Done machine (acts.Replaces old new)) calm = absurd calm
calm_one h calm = refl

calm_made : (told : List Happening) → AreCalm told → made_by told ≡ []
calm_made [] calm = refl
calm_made (h ∷ told) calm = λ i. calm_one h calm.0 i ++ calm_made told calm.1 i

one_made : (machine : ℕ) (act : Act) (told : List Happening) → TellsOne machine act told
    → made_in (happenings.Done machine act) ≡ [] → made_by told ≡ []
one_made machine act told t none =
    ap made_by t.is ∙ made-join t.front (happenings.Done machine act ∷ t.back)
    ∙ (λ i. calm_made t.front t.first i ++ (none i ++ calm_made t.back t.last i))

shift_makes : (number : ℕ) (before next : Lanes) (done : List LaneHappening)
    (shift : IsShifted number before next done) (lane : ℕ) → made_by (told_for lane done) ≡ []
shift_makes number before next done shift lane =
    by (same_or_not lane shift.from) (same_or_not lane shift.to) where
      on : ShiftOn number before next done shift
      on = shift_on number before next done shift

      by : (lane ≡ shift.from) ⊎ (lane ≢ shift.from) → (lane ≡ shift.to) ⊎ (lane ≢ shift.to)
          → made_by (told_for lane done) ≡ []
      by (inl here) to =
          ap (λ (l : ℕ). made_by (told_for l done)) here ∙ ap made_by on.giver
          ∙ one_made shift.machine (acts.Gives shift.id shift.to) shift.given shift.tells.gives refl
      by (inr apart) (inl here) =
          ap (λ (l : ℕ). made_by (told_for l done)) here ∙ ap made_by on.taker
          ∙ one_made shift.machine (acts.Gets shift.id) shift.taken shift.tells.gets refl
      by (inr apart) (inr other) = ap made_by (on.third lane apart other)

-- ---- a line makes none that was made before

old_there : (s : Lanes) (id lane : ℕ) → 1 ≤ lane → IsOld 1 (track lane s).machines id
    → IsThere lane s
old_there s id lane some old = by (whether lane s some) where
  by : Whether lane s → IsThere lane s
  by (is_there there) = there
  by (is_past past empty) =
      absurd (subst (λ (t : LineState). IsOld 1 t.machines id) empty old)

not_made : (number : ℕ) (before next : Lanes) (done : List LaneHappening)
    → Seen number before next done ⊎ SeenShift number before next done
    → (id lane other : ℕ) → 1 ≤ lane → 1 ≤ other → IsOld 1 (track other before).machines id
    → AllByRecursion (λ (new : ℕ). id ≢ new) (made_by (told_for lane done))
not_made number before next done (inl seen) id lane other some more old =
    none_made id (told_for lane done) (by (same_or_not lane seen.plainly.active)) where
      by : (lane ≡ seen.plainly.active) ⊎ (lane ≢ seen.plainly.active)
          → came id (told_for lane done) ≡ 0
      by (inl here) =
          ap (λ (l : ℕ). came id (told_for l done)) here
          ∙ seen.plainly.new id other (old_there before id other more old) old
      by (inr apart) = seen.plainly.others lane id some apart
not_made number before next done (inr seen) id lane other some more old =
    subst (λ (ids : List ℕ). AllByRecursion (λ (new : ℕ). id ≢ new) ids)
    (sym (shift_makes number before next done seen.shifted lane)) tt

-- what is told of standings makes none
standings_for : (lane : ℕ) (before next : Lanes) (done : List LaneHappening)
    → all_done (told_for lane (done ++ standings_on before next)) ≡ all_done (told_for lane done)
standings_for lane before next done =
    let standings = standings_on before next in
    ap all_done (for_append lane done standings)
    ∙ done_append (told_for lane done) (told_for lane standings)
    ∙ ap (λ (t : List Happening). all_done (told_for lane done) ++ t)
    (none_for lane standings (standings_none before next))
    ∙ append-nil (all_done (told_for lane done))

-- what is done on a lane at a point is what the line did there
pub point_done : (past : List LanePoint) (s : Lanes) (line : LaneLine) (point : LanePoint)
    → (along : StepsAlong past s line point) → (lane : ℕ)
    → all_done (told_for lane point.told) ≡ all_done (told_for lane along.step.done)
point_done past s line point along lane =
    ap (λ (t : List LaneHappening). all_done (told_for lane t)) along.step.told_is
    ∙ standings_for lane s along.step.next along.step.done

none_of : (P : ℕ → Type 0) (seen made : List ℕ) → AllByRecursion P seen
    → ((old : ℕ) → P old → AllByRecursion (λ (new : ℕ). old ≢ new) made)
    → AllByRecursion (IsNoneOf seen) made
none_of P seen [] olds apart = tt
none_of P seen (new ∷ made) olds apart = (
  each_so P (λ (old : ℕ). old ≢ new) seen (λ old is. (apart old is).0) olds,
  none_of P seen made olds (λ old is. (apart old is).1),
)

point_new : (past : List LanePoint) (s : Lanes) (line : LaneLine) (point : LanePoint)
    (told : List LaneHappening) → StepsAlong past s line point → ((lane : ℕ) → 1 ≤ lane → AreOlds lane told s)
    → MakesNew told point.told
point_new past s line point told along olds lane other some more =
    let step = along.step in
    let number = lines_of s + 1 in
    let seen = line_seen number line s step.next step.done along.was.together along.was.holds
    along.fit step.does in
    let same : made_by (told_for lane point.told) ≡ made_by (told_for lane step.done) =
    same_made (told_for lane point.told) (told_for lane step.done)
    (point_done past s line point along lane) in
    none_of (IsOld 1 (track other s).machines) (handled_by (told_for other told))
    (made_by (told_for lane point.told)) (olds other more)
    (λ old is. subst (λ (ids : List ℕ). AllByRecursion (λ (new : ℕ). old ≢ new) ids) (sym same)
    (not_made number s step.next step.done seen old lane other some more is))

each_new : (past : List LanePoint) (told : List LaneHappening) (s : Lanes) (lines : List LaneLine)
    (points : List LanePoint) → EachStep past s lines points
    → ((lane : ℕ) → 1 ≤ lane → EachOld lane told s points) → AreNew told points
each_new past told s [] [] each olds = tt
each_new past told s [] (point ∷ points) each olds = absurd each
each_new past told s (line ∷ lines) [] each olds = absurd each
each_new past told s (line ∷ lines) (point ∷ points) each olds = (
  point_new past s line point told each.0 (λ lane some. (olds lane some).0),
  each_new (past ++ point ∷ []) (told ++ point.told) point.after lines points each.1
      (λ lane some. (olds lane some).1),
)

-- ---- no two boards share one

any_by : (has : Bool) (more : ℕ) (others : Bool) → (has || others) ≡ true
    → (others ≡ true → 1 ≤ more) → 1 ≤ one_if has + more
any_by true more others is later = omega arith
any_by false more others is later =
    let some = later is in
    omega (arith, some)

any_count : (id : ℕ) (boards : List Board) → list_any (has_id id) boards ≡ true
    → 1 ≤ count id boards
any_count id [] is = cc
any_count id (board ∷ boards) is =
    any_by (has_id id board) (count id boards) (list_any (has_id id) boards) is
    (any_count id boards)

own_ids : (past : List LanePoint) (s : Lanes) → Along past s → HasOwnIds s
own_ids past s all =
    record {
      differ = λ lane some. (all.holds lane some).differ;
      apart = λ id lane other some more one two.
          all.apart id lane other some more (any_count id (boards_of (track lane s)) one)
          (any_count id (boards_of (track other s)) two);
    }

each_own : (past : List LanePoint) (s : Lanes) (lines : List LaneLine) (points : List LanePoint)
    → EachStep past s lines points
    → AllByRecursion (λ (point : LanePoint). HasOwnIds point.after) points
each_own past s [] [] each = tt
each_own past s [] (point ∷ points) each = absurd each
each_own past s (line ∷ lines) [] each = absurd each
each_own past s (line ∷ lines) (point ∷ points) each = (
  own_ids (past ++ point ∷ []) point.after each.0.now,
  each_own (past ++ point ∷ []) point.after lines points each.1,
)

-- THE LAW
pub ids_of_lanes : HonestTrack → IdsOfAllLanes
ids_of_lanes says asked done fit short run =
    let each = run_steps says [] no_lanes asked done none_along fit run short in
    let lines = lines_done no_lanes asked done in
    let points = all_points done in
    record {
      differ = each_own [] no_lanes lines points each;
      new = each_new [] [] no_lanes lines points each
          (λ lane some. track_ages lane points some
          (each_lane_is says asked done lane some fit short run));
    }
