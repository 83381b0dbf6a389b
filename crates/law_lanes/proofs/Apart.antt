-- No id lies on two tracks, and none is at home on two.
use Rattle.std.proofs.Common.{◌≡◌, ◌≢◌, ◌∙◌, ◌+◌, ◌≤◌, ◌==◌, ◌++◌, ◌⊎◌, inl, inr, ℕ, zero, suc, Bool, true, false, List, [], ◌∷◌, refl, sym, ap, subst, arith, append-nil, eq-eqb, eqb-true}
use Rattle.std.specs.List.{AllByRecursion}
use Rattle.node_core.specs.declared.act.Act.TheVariants as acts
use Rattle.line_report.specs.declared.happening.Happening.{Happening}
use Rattle.line_report.specs.declared.happening.Happening.TheVariants as happenings
use Rattle.line_report.specs.declared.happening.LaneHappening.{LaneHappening}
use Rattle.line_step.specs.FloorIds.{boards_of, handled_by, handled_in}
use Rattle.line_step.specs.Homes.{home_after, is_home}
use Rattle.step_rules.specs.Makers.{IsOld}
use Rattle.line_step.specs.Shown.{standings_told}
use Rattle.line_step.specs.State.{LineState}
use Rattle.line_step.specs.Tracks.{TrackLine, other_line, own_line}
use Rattle.line_step.proofs.FloorLaws.{Goes, Holds, beside-goes, steps-goes}
use Rattle.law_lanes.specs.Along.{all_done, told_for}
use Rattle.law_lanes.specs.Lanes.{Lanes, track}
use Rattle.law_lanes.proofs.Floors.{all_count, count, front_all, once_there}
use Rattle.law_lanes.proofs.Moving.{IsShifted, lies_old}
use Rattle.law_lanes.proofs.Seen.{IsPlainly, Sees, SeesLine, as_steps, same_or_not}
use Rattle.law_lanes.proofs.Sharing.{left_counted}
use Rattle.law_lanes.proofs.Shifting.{AreCalm, IsCalm, ShiftTold, shift_gave, shift_got, shift_none}
use Rattle.law_lanes.proofs.Telling.{came, came_in, done_append, for_append, gave, home_append, home_came, home_gave, one_if, same_came, same_gave, track_none}
use Rattle.law_lanes.proofs.Together.{IsThere, Whether, is_past, is_there, whether}

-- ---- once in all, before and behind

-- what is of one lane at most is so behind a line that brings it to one lane alone, where no other
-- one has it
pub once_kept : (had has : ℕ → Type 0) (new : Type 0) (active : ℕ)
    → ((l : ℕ) → 1 ≤ l → l ≢ active → has l → had l)
    → (has active → had active ⊎ new)
    → (new → (l : ℕ) → 1 ≤ l → l ≢ active → has l → ⊥)
    → ((l o : ℕ) → 1 ≤ l → 1 ≤ o → had l → had o → l ≡ o)
    → (l o : ℕ) → 1 ≤ l → 1 ≤ o → has l → has o → l ≡ o
once_kept had has new active stays comes alone once l o some more one two =
    by (same_or_not l active) (same_or_not o active) where
      mixed : (k : ℕ) → 1 ≤ k → k ≢ active → 1 ≤ active → has k → has active → k ≡ active
      mixed k counts apart there mine own = elim (comes own) [
        | inl was ↦ once k active counts there (stays k counts apart mine) was
        | inr fresh ↦ absurd (alone fresh k counts apart mine)
      ]

      by : (l ≡ active) ⊎ (l ≢ active) → (o ≡ active) ⊎ (o ≢ active) → l ≡ o
      by (inl here) (inl there) = here ∙ sym there
      by (inr apart) (inr other) = once l o some more (stays l some apart one) (stays o more other two)
      by (inr apart) (inl there) =
          mixed l some apart (subst (λ (n : ℕ). 1 ≤ n) there more) one (subst has there two)
          ∙ sym there
      by (inl here) (inr other) =
          here
          ∙ sym (mixed o more other (subst (λ (n : ℕ). 1 ≤ n) here some) two (subst has here one))

-- ---- what a line does to the floor of a lane

pub record GoesOn (lane : ℕ) (before next : Lanes) (done : List LaneHappening) : Type 0 where
  pub told : List Happening
  pub goes : Goes (track lane before) (track lane next) told
  pub same : all_done told ≡ all_done (told_for lane done)

sees_goes : (number lane : ℕ) (before next : Lanes) (done : List LaneHappening) (line : TrackLine)
    (told : List Happening) → Holds (track lane before)
    → Sees number line (track lane before) (track lane next) told
    → all_done told ≡ all_done (told_for lane done) → GoesOn lane before next done
sees_goes number lane before next done (own_line request) told holds sees same =
    let standings = standings_told (track lane before) (track lane next) in
    record {
      told = told ++ standings;
      goes = steps-goes number request (track lane before) (track lane next) (told ++ standings)
          holds sees.1 (as_steps number request (track lane before) (track lane next) told sees.0);
      same =
          done_append told standings
          ∙ ap (λ (t : List Happening). all_done told ++ t)
          (track_none (track lane before) (track lane next))
          ∙ append-nil (all_done told) ∙ same;
    }
sees_goes number lane before next done other_line told holds sees same =
    record {
      told = [];
      goes = beside-goes (track lane before) (track lane next) [] holds
          (left_counted (track lane before) (track lane next) (track lane next).lines sees.0
          (record { least = omega arith; most = omega arith })) refl;
      same = ap all_done (sym sees.1) ∙ same;
    }

pub line_goes : (number lane : ℕ) (before next : Lanes) (done : List LaneHappening)
    → Holds (track lane before) → SeesLine number lane before next done
    → GoesOn lane before next done
line_goes number lane before next done holds sees =
    sees_goes number lane before next done sees.line sees.told holds sees.sees sees.same

pub goes_count : (lane id : ℕ) (before next : Lanes) (done : List LaneHappening)
    → GoesOn lane before next done
    → count id (boards_of (track lane next)) + gave id (told_for lane done)
    ≤ count id (boards_of (track lane before)) + came id (told_for lane done)
goes_count lane id before next done on =
    let most = all_count id on.told (boards_of (track lane before)) (boards_of (track lane next))
    on.goes.change in
    let in_is = same_came id on.told (told_for lane done) on.same in
    let out_is = same_gave id on.told (told_for lane done) on.same in
    omega (arith, most, in_is, out_is)

-- whoever comes was made by one of the machines
one_is : (new id : ℕ) → 1 ≤ one_if (new == id) → new ≡ id
one_is new id some = by (new == id) refl some where
  by : (test : Bool) → (new == id) ≡ test → 1 ≤ one_if test → new ≡ id
  by true is more = eqb-true new id is
  by false is more = absurd (let never : ⊥ = omega (arith, more) in never)

came_old_in : (P : ℕ → Type 0) (id : ℕ) (h : Happening) → AllByRecursion P (handled_in h)
    → 1 ≤ came_in id h → P id
came_old_in P id (happenings.Done machine (acts.Inserts new)) all some =
    subst P (one_is new id some) all.0
came_old_in P id (happenings.Done machine (acts.Replaces old new)) all some =
    subst P (one_is new id some) all.1.0
came_old_in P id (happenings.Done machine (acts.Gets new)) all some =
    subst P (one_is new id some) all.0
came_old_in P id h all some = absurd (let never : ⊥ = omega (arith, some) in never)

one_or_more : (n : ℕ) → (n ≡ 0) ⊎ (1 ≤ n)
one_or_more zero = inl refl
one_or_more (suc n) = inr (omega arith)

came_old_all : (P : ℕ → Type 0) (id : ℕ) (told : List Happening)
    → AllByRecursion P (handled_by told) → 1 ≤ came id told → P id
came_old_all P id [] all some = absurd (let never : ⊥ = omega (arith, some) in never)
came_old_all P id (h ∷ told) all some =
    let parts = front_all P (handled_in h) (handled_by told) all in
    elim (one_or_more (came_in id h)) [
      | inr here ↦ came_old_in P id h parts.0 here
      | inl none ↦ came_old_all P id told parts.1 (omega (arith, some, none))
    ]

pub came_old : (lane id : ℕ) (before next : Lanes) (done : List LaneHappening)
    → GoesOn lane before next done → 1 ≤ came id (told_for lane done)
    → IsOld 1 (track lane next).machines id
came_old lane id before next done on some =
    let is = same_came id on.told (told_for lane done) on.same in
    came_old_all (IsOld 1 (track lane next).machines) id on.told on.goes.handled
    (omega (arith, some, is))

-- ---- no id lies on two tracks

abbrev pub Lies : Lanes → ℕ → ℕ → Type 0
Lies s id lane = 1 ≤ count id (boards_of (track lane s))

abbrev pub AreApart : Lanes → Type 0
AreApart s =
    (id lane other : ℕ) → 1 ≤ lane → 1 ≤ other → Lies s id lane → Lies s id other → lane ≡ other

lies_there : (s : Lanes) (id lane : ℕ) → 1 ≤ lane → Lies s id lane → IsThere lane s
lies_there s id lane some lies = by (whether lane s some) where
  by : Whether lane s → IsThere lane s
  by (is_there there) = there
  by (is_past past empty) =
      absurd (let never : ⊥ = omega (
        arith,
        lies,
        ap (λ (t : LineState). count id (boards_of t)) empty,
      ) in never)

lay_before : (id lane : ℕ) (before next : Lanes) (done : List LaneHappening)
    → GoesOn lane before next done → came id (told_for lane done) ≡ 0 → Lies next id lane
    → Lies before id lane
lay_before id lane before next done on none lies =
    let most = goes_count lane id before next done on in
    omega (arith, most, none, lies)

lay_or_came : (id lane : ℕ) (before next : Lanes) (done : List LaneHappening)
    → GoesOn lane before next done → Lies next id lane
    → Lies before id lane ⊎ (1 ≤ came id (told_for lane done))
lay_or_came id lane before next done on lies =
    elim (one_or_more (came id (told_for lane done))) [
      | inl none ↦ inl (lay_before id lane before next done on none lies)
      | inr some ↦ inr some
    ]

pub apart_plainly : (number : ℕ) (before next : Lanes) (done : List LaneHappening)
    → IsPlainly number before next done → ((l : ℕ) → 1 ≤ l → Holds (track l before))
    → ((l : ℕ) → 1 ≤ l → GoesOn l before next done) → AreApart before → AreApart next
apart_plainly number before next done plain holds goes apart id lane other some more one two =
    once_kept (Lies before id) (Lies next id) (1 ≤ came id (told_for plain.active done)) plain.active
    (λ l counts away lies. lay_before id l before next done (goes l counts)
    (plain.others l id counts away) lies)
    (λ lies. lay_or_came id plain.active before next done (goes plain.active plain.counts) lies)
    (λ new l counts away lies.
    let lay = lay_before id l before next done (goes l counts) (plain.others l id counts away) lies in
    let there = lies_there before id l counts lay in
    let none = plain.new id l there (lies_old (track l before) id (holds l counts) lay) in
    let never : ⊥ = omega (arith, new, none) in never)
    (apart id) lane other some more one two

-- ---- a shift

calm_came : (id : ℕ) (told : List Happening) → AreCalm told → came id told ≡ 0
calm_came id [] calm = refl
calm_came id (h ∷ told) calm =
    let one = calm_one id h calm.0 in
    let more = calm_came id told calm.1 in
    omega (arith, one, more)
  where
    calm_one : (id : ℕ) (h : Happening) → IsCalm h → came_in id h ≡ 0
    calm_one id (happenings.Done machine (acts.Inserts new)) calm = absurd calm
    calm_one id (happenings.Done machine (acts.Replaces old new)) calm = absurd calm
    calm_one id (happenings.Done machine (acts.Gets new)) calm = absurd calm
    calm_one id h calm = refl

came_join : (id : ℕ) (front back : List Happening)
    → came id (front ++ back) ≡ came id front + came id back
came_join id [] back = omega arith
came_join id (h ∷ front) back =
    let more = came_join id front back in
    omega (arith, more)

gave_join : (id : ℕ) (front back : List Happening)
    → gave id (front ++ back) ≡ gave id front + gave id back
gave_join id [] back = omega arith
gave_join id (h ∷ front) back =
    let more = gave_join id front back in
    omega (arith, more)

given_came : (machine from to id other : ℕ) (given taken : List Happening)
    → ShiftTold machine from to id given taken → came other given ≡ 0
given_came machine from to id other given taken t =
    let h = happenings.Done machine (acts.Gives id to) in
    let whole = ap (λ (l : List Happening). came other l) t.gives.is in
    let parts = came_join other t.gives.front (h ∷ t.gives.back) in
    let one = calm_came other t.gives.front t.gives.first in
    let two = calm_came other t.gives.back t.gives.last in
    omega (arith, whole, parts, one, two)

given_gave : (machine from to id : ℕ) (given taken : List Happening)
    → ShiftTold machine from to id given taken → 1 ≤ gave id given
given_gave machine from to id given taken t =
    let h = happenings.Done machine (acts.Gives id to) in
    let whole = ap (λ (l : List Happening). gave id l) t.gives.is in
    let parts = gave_join id t.gives.front (h ∷ t.gives.back) in
    let own : one_if (id == id) ≡ 1 = ap one_if (eq-eqb id id refl) in
    omega (arith, whole, parts, own)

taken_came : (machine from to id other : ℕ) (given taken : List Happening)
    → ShiftTold machine from to id given taken → came other taken ≡ one_if (id == other)
taken_came machine from to id other given taken t =
    let h = happenings.Done machine (acts.Gets id) in
    let whole = ap (λ (l : List Happening). came other l) t.gets.is in
    let parts = came_join other t.gets.front (h ∷ t.gets.back) in
    let one = calm_came other t.gets.front t.gets.first in
    let two = calm_came other t.gets.back t.gets.last in
    omega (arith, whole, parts, one, two)

-- what is told of each lane of a shift
pub record ShiftOn (number : ℕ) (before next : Lanes) (done : List LaneHappening)
    (shift : IsShifted number before next done) : Type 0 where
  pub giver : told_for shift.from done ≡ shift.given
  pub taker : told_for shift.to done ≡ shift.taken
  pub third : (lane : ℕ) → lane ≢ shift.from → lane ≢ shift.to → told_for lane done ≡ []

pub shift_on : (number : ℕ) (before next : Lanes) (done : List LaneHappening)
    (shift : IsShifted number before next done) → ShiftOn number before next done shift
shift_on number before next done shift =
    record {
      giver =
          ap (told_for shift.from) shift.told
          ∙ shift_gave shift.machine shift.from shift.to shift.id shift.given shift.taken
          shift.may.apart shift.tells;
      taker =
          ap (told_for shift.to) shift.told
          ∙ shift_got shift.machine shift.from shift.to shift.id shift.given shift.taken
          shift.may.apart shift.tells;
      third = λ lane one two.
          ap (told_for lane) shift.told
          ∙ shift_none shift.machine shift.from shift.to shift.id lane shift.given shift.taken
          (λ (same : shift.from ≡ lane). one (sym same)) (λ (same : shift.to ≡ lane). two (sym same))
          shift.tells;
    }

-- nothing comes to a lane but the one that gets the board, and to that one this board alone
pub shift_quiet : (number : ℕ) (before next : Lanes) (done : List LaneHappening)
    (shift : IsShifted number before next done) (lane id : ℕ) → lane ≢ shift.to
    → came id (told_for lane done) ≡ 0
shift_quiet number before next done shift lane id apart = by (same_or_not lane shift.from) where
  on : ShiftOn number before next done shift
  on = shift_on number before next done shift

  by : (lane ≡ shift.from) ⊎ (lane ≢ shift.from) → came id (told_for lane done) ≡ 0
  by (inl here) =
      ap (λ (l : ℕ). came id (told_for l done)) here
      ∙ ap (λ (t : List Happening). came id t) on.giver
      ∙ given_came shift.machine shift.from shift.to shift.id id shift.given shift.taken shift.tells
  by (inr other) = ap (λ (t : List Happening). came id t) (on.third lane other apart)

pub shift_new : (number : ℕ) (before next : Lanes) (done : List LaneHappening)
    (shift : IsShifted number before next done) (id : ℕ) → 1 ≤ came id (told_for shift.to done)
    → shift.id ≡ id
shift_new number before next done shift id some =
    let on = shift_on number before next done shift in
    let told = ap (λ (t : List Happening). came id t) on.taker in
    let one = taken_came shift.machine shift.from shift.to shift.id id shift.given shift.taken
    shift.tells in
    one_is shift.id id (omega (arith, some, told, one))

pub shift_out : (number : ℕ) (before next : Lanes) (done : List LaneHappening)
    (shift : IsShifted number before next done) → 1 ≤ gave shift.id (told_for shift.from done)
shift_out number before next done shift =
    let on = shift_on number before next done shift in
    let told = ap (λ (t : List Happening). gave shift.id t) on.giver in
    let one = given_gave shift.machine shift.from shift.to shift.id shift.given shift.taken
    shift.tells in
    omega (arith, told, one)

-- the board lay on the track that it goes from
pub shift_lay : (number : ℕ) (before next : Lanes) (done : List LaneHappening)
    (shift : IsShifted number before next done) → GoesOn shift.from before next done
    → Lies before shift.id shift.from
shift_lay number before next done shift on =
    let most = goes_count shift.from shift.id before next done on in
    let out = shift_out number before next done shift in
    let none = shift_quiet number before next done shift shift.from shift.id shift.may.apart in
    omega (arith, most, out, none)

-- and lies there no more
pub shift_gone : (number : ℕ) (before next : Lanes) (done : List LaneHappening)
    (shift : IsShifted number before next done) → Holds (track shift.from before)
    → GoesOn shift.from before next done → count shift.id (boards_of (track shift.from next)) ≡ 0
shift_gone number before next done shift holds on =
    let most = goes_count shift.from shift.id before next done on in
    let out = shift_out number before next done shift in
    let none = shift_quiet number before next done shift shift.from shift.id shift.may.apart in
    let once = once_there shift.id (track shift.from before) holds.differ in
    omega (arith, most, out, none, once)

pub apart_shifted : (number : ℕ) (before next : Lanes) (done : List LaneHappening)
    → (shift : IsShifted number before next done) → ((l : ℕ) → 1 ≤ l → Holds (track l before))
    → ((l : ℕ) → 1 ≤ l → GoesOn l before next done) → AreApart before → AreApart next
apart_shifted number before next done shift holds goes apart id lane other some more one two =
    once_kept (Lies before id) (Lies next id) (1 ≤ came id (told_for shift.to done)) shift.to
    (λ l counts away lies. lay_before id l before next done (goes l counts)
    (shift_quiet number before next done shift l id away) lies)
    (λ lies. lay_or_came id shift.to before next done (goes shift.to shift.may.taker.0) lies)
    (λ new l counts away lies. by l counts away (same_or_not l shift.from)
    (shift_new number before next done shift id new) lies)
    (apart id) lane other some more one two where
      from_goes : GoesOn shift.from before next done
      from_goes = goes shift.from shift.may.giver.0

      by : (l : ℕ) → 1 ≤ l → l ≢ shift.to → (l ≡ shift.from) ⊎ (l ≢ shift.from)
          → shift.id ≡ id → Lies next id l → ⊥
      by l counts away (inl here) own lies =
          let gone = shift_gone number before next done shift (holds shift.from shift.may.giver.0)
          from_goes in
          let there : Lies next shift.id shift.from =
          subst (λ (k : ℕ). Lies next shift.id k) here
          (subst (λ (x : ℕ). Lies next x l) (sym own) lies) in
          omega (arith, gone, there)
      by l counts away (inr aside) own lies =
          let lay : Lies before id l =
          lay_before id l before next done (goes l counts)
          (shift_quiet number before next done shift l id away) lies in
          aside (apart id l shift.from counts shift.may.giver.0 lay
          (subst (λ (x : ℕ). Lies before x shift.from) own
          (shift_lay number before next done shift from_goes)))

-- ---- homes

abbrev pub IsHomeOn : List LaneHappening → ℕ → ℕ → Type 0
IsHomeOn past id lane = is_home id (told_for lane past) ≡ true

-- whoever is at home was made by one of the machines, and is at home on one lane alone
pub record HaveHomes (past : List LaneHappening) (s : Lanes) : Type 0 where
  pub old : (lane id : ℕ) → 1 ≤ lane → IsHomeOn past id lane → IsOld 1 (track lane s).machines id
  pub once : (id lane other : ℕ) → 1 ≤ lane → 1 ≤ other → IsHomeOn past id lane
      → IsHomeOn past id other → lane ≡ other

home_more : (id lane : ℕ) (past told : List LaneHappening)
    → is_home id (told_for lane (past ++ told))
    ≡ home_after id (told_for lane told) (is_home id (told_for lane past))
home_more id lane past told =
    ap (λ (t : List Happening). is_home id t) (for_append lane past told)
    ∙ home_append id (told_for lane past) (told_for lane told) false

-- at home before, or it came
home_or_came : (id lane : ℕ) (past told : List LaneHappening) → IsHomeOn (past ++ told) id lane
    → IsHomeOn past id lane ⊎ (1 ≤ came id (told_for lane told))
home_or_came id lane past told is =
    home_came id (told_for lane told) (is_home id (told_for lane past))
    (sym (home_more id lane past told) ∙ is)

home_before : (id lane : ℕ) (past told : List LaneHappening) → came id (told_for lane told) ≡ 0
    → IsHomeOn (past ++ told) id lane → IsHomeOn past id lane
home_before id lane past told none is =
    elim (home_or_came id lane past told is) [
      | inl was ↦ was
      | inr some ↦ absurd (let never : ⊥ = omega (arith, some, none) in never)
    ]

homes_old : (before next : Lanes) (past told : List LaneHappening)
    → ((l : ℕ) → 1 ≤ l → GoesOn l before next told) → HaveHomes past before
    → (lane id : ℕ) → 1 ≤ lane → IsHomeOn (past ++ told) id lane
    → IsOld 1 (track lane next).machines id
homes_old before next past told goes homes lane id some is =
    elim (home_or_came id lane past told is) [
      | inl was ↦ (goes lane some).goes.olds id (homes.old lane id some was)
      | inr new ↦ came_old lane id before next told (goes lane some) new
    ]

old_there : (s : Lanes) (id lane : ℕ) → 1 ≤ lane → IsOld 1 (track lane s).machines id
    → IsThere lane s
old_there s id lane some old = by (whether lane s some) where
  by : Whether lane s → IsThere lane s
  by (is_there there) = there
  by (is_past past empty) =
      absurd (subst (λ (t : LineState). IsOld 1 t.machines id) empty old)

pub homes_plainly : (number : ℕ) (before next : Lanes) (past done : List LaneHappening)
    → IsPlainly number before next done → ((l : ℕ) → 1 ≤ l → GoesOn l before next done)
    → HaveHomes past before → HaveHomes (past ++ done) next
homes_plainly number before next past done plain goes homes =
    record {
      old = homes_old before next past done goes homes;
      once = λ id lane other some more one two.
          once_kept (IsHomeOn past id) (IsHomeOn (past ++ done) id)
          (1 ≤ came id (told_for plain.active done)) plain.active
          (λ l counts away is. home_before id l past done (plain.others l id counts away) is)
          (λ is. home_or_came id plain.active past done is)
          (λ new l counts away is.
          let was = home_before id l past done (plain.others l id counts away) is in
          let old = homes.old l id counts was in
          let none = plain.new id l (old_there before id l counts old) old in
          let never : ⊥ = omega (arith, new, none) in never)
          (homes.once id) lane other some more one two;
    }

pub homes_shifted : (number : ℕ) (before next : Lanes) (past done : List LaneHappening)
    → (shift : IsShifted number before next done)
    → ((l : ℕ) → 1 ≤ l → GoesOn l before next done) → HaveHomes past before
    → IsHomeOn past shift.id shift.from → HaveHomes (past ++ done) next
homes_shifted number before next past done shift goes homes own =
    record {
      old = homes_old before next past done goes homes;
      once = λ id lane other some more one two.
          once_kept (IsHomeOn past id) (IsHomeOn (past ++ done) id)
          (1 ≤ came id (told_for shift.to done)) shift.to
          (λ l counts away is. home_before id l past done
          (shift_quiet number before next done shift l id away) is)
          (λ is. home_or_came id shift.to past done is)
          (λ new l counts away is. alone l id counts away (same_or_not l shift.from)
          (shift_new number before next done shift id new) is)
          (homes.once id) lane other some more one two;
    } where
      alone : (l id : ℕ) → 1 ≤ l → l ≢ shift.to → (l ≡ shift.from) ⊎ (l ≢ shift.from)
          → shift.id ≡ id → IsHomeOn (past ++ done) id l → ⊥
      alone l id counts away (inl here) same is =
          let left : is_home shift.id (told_for shift.from (past ++ done)) ≡ false =
          home_more shift.id shift.from past done
          ∙ home_gave shift.id (told_for shift.from done) _
          (shift_quiet number before next done shift shift.from shift.id shift.may.apart)
          (shift_out number before next done shift) in
          let there : IsHomeOn (past ++ done) shift.id shift.from =
          subst (λ (k : ℕ). IsHomeOn (past ++ done) shift.id k) here
          (subst (λ (x : ℕ). IsHomeOn (past ++ done) x l) (sym same) is) in
          cc
      alone l id counts away (inr aside) same is =
          aside (homes.once id l shift.from counts shift.may.giver.0
          (home_before id l past done (shift_quiet number before next done shift l id away) is)
          (subst (λ (x : ℕ). IsHomeOn past x shift.from) same own))
