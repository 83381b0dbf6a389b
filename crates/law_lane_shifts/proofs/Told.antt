-- Where a shift is told, the line moved this board of this machine from the one lane to the other.
use Rattle.std.proofs.Common.{◌≡◌, ◌≢◌, ◌∙◌, ◌≤◌, ◌==◌, ◌++◌, ◌⊎◌, inl, inr, ℕ, Bool, true, false, List, [], ◌∷◌, refl, sym, ap, subst, eq-eqb}
use Rattle.std.specs.Prelude.{if◌then◌else◌}
use Rattle.std.specs.List.{AllByRecursion}
use Rattle.node_core.specs.declared.act.Act.{Act}
use Rattle.node_core.specs.declared.act.Act.TheVariants as acts
use Rattle.line_report.specs.declared.happening.Happening.{Happening}
use Rattle.line_report.specs.declared.happening.Happening.TheVariants as happenings
use Rattle.line_report.specs.declared.happening.LaneHappening.{LaneHappening}
use Rattle.line_step.specs.Requests.{Request}
use Rattle.line_step.specs.State.{LineState}
use Rattle.line_step.specs.Tracks.{TrackLine, other_line, own_line}
use Rattle.line_step.proofs.Shifted.{AsksFor, IsAskedFor, asks_to_get, asks_to_give, does_asked}
use Rattle.law_one_standing.specs.Told.{IsTold, told_first, told_later}
use Rattle.law_one_standing.proofs.ApartStep.{told_before, told_behind}
use Rattle.law_lanes.specs.Along.{all_done, happening_for, is_done, told_for}
use Rattle.law_lanes.specs.Lanes.{Lanes, track}
use Rattle.law_lanes.proofs.Apart.{ShiftOn, shift_on}
use Rattle.law_lanes.proofs.Moving.{IsShifted}
use Rattle.law_lanes.proofs.Seen.{IsPlainLine, IsPlainly, Sees, SeesPlainly, same_or_not}
use Rattle.law_lanes.proofs.Shifting.{IsCalm, TellsOne}
use Rattle.law_lane_shifts.specs.Shifted.{IsToldOn, on_first, on_later, shift_of}

-- ---- of one lane

here_if : (test : Bool) (h : Happening) → test ≡ true → IsTold h (if test then h ∷ [] else [])
here_if true h is = told_first
here_if false h is = cc

-- what is told of the lane from which the board goes
pub of_giver : (machine from to id : ℕ) {told : List LaneHappening}
    → IsToldOn (shift_of machine from to id) told
    → IsTold (happenings.Done machine (acts.Gives id to)) (told_for from told)
of_giver machine from to id (on_first {told = told}) =
    let h = happenings.Done machine (acts.Gives id to) in
    told_before (told_for from told)
    (told_before (if to == from then happenings.Done machine (acts.Gets id) ∷ [] else [])
    (here_if (from == from) h (eq-eqb from from refl)))
of_giver machine from to id (on_later {other = other} later) =
    told_behind (happening_for from other) (of_giver machine from to id later)

-- and of that to which it goes
pub of_taker : (machine from to id : ℕ) {told : List LaneHappening}
    → IsToldOn (shift_of machine from to id) told
    → IsTold (happenings.Done machine (acts.Gets id)) (told_for to told)
of_taker machine from to id (on_first {told = told}) =
    let h = happenings.Done machine (acts.Gets id) in
    told_before (told_for to told)
    (told_behind (if from == to then happenings.Done machine (acts.Gives id to) ∷ [] else [])
    (here_if (to == to) h (eq-eqb to to refl)))
of_taker machine from to id (on_later {other = other} later) =
    told_behind (happening_for to other) (of_taker machine from to id later)

-- ---- a deed is among what is done

later_by : (test : Bool) (h other : Happening) (told : List Happening) → IsTold h told
    → IsTold h (if test then other ∷ told else told)
later_by true h other told is = told_later is
later_by false h other told is = is

in_done : (machine : ℕ) (act : Act) {told : List Happening}
    → IsTold (happenings.Done machine act) told
    → IsTold (happenings.Done machine act) (all_done told)
in_done machine act told_first = told_first
in_done machine act (told_later {other = other} {told = told} later) =
    later_by (is_done other) (happenings.Done machine act) other (all_done told)
    (in_done machine act later)

of_by : (test : Bool) (h x : Happening) (told : List Happening)
    → (IsTold h (all_done told) → IsTold h told)
    → IsTold h (if test then x ∷ all_done told else all_done told) → IsTold h (x ∷ told)
of_by true h x told later told_first = told_first
of_by true h x told later (told_later is) = told_later (later is)
of_by false h x told later is = told_later (later is)

of_done : (h : Happening) (told : List Happening) → IsTold h (all_done told) → IsTold h told
of_done h [] is = elim is [ ]
of_done h (x ∷ told) is = of_by (is_done x) h x told (of_done h told) is

-- of two that did the same
pub same_deed : (machine : ℕ) (act : Act) (a b : List Happening) → all_done a ≡ all_done b
    → IsTold (happenings.Done machine act) a → IsTold (happenings.Done machine act) b
same_deed machine act a b same is =
    of_done (happenings.Done machine act) b
    (subst (λ (told : List Happening). IsTold (happenings.Done machine act) told) same
    (in_done machine act is))

-- ---- a line that moves no board between lanes tells of none

among : (P : Happening → Type 0) {h : Happening} {told : List Happening} → IsTold h told
    → AllByRecursion P told → P h
among P told_first all = all.0
among P (told_later later) all = among P later all.1

abbrev IsGets : Act → Type 0
IsGets (acts.Gets id) = Unit {0}
IsGets _ = ⊥

asks_gets : {request : Request} {machine : ℕ} {act : Act} → IsPlainLine (own_line request)
    → AsksFor request machine act → IsGets act → ⊥
asks_gets plain asks_to_give gets = gets
asks_gets plain asks_to_get gets = plain

no_gets : (number : ℕ) (line : TrackLine) (before next : LineState) (told : List Happening)
    (machine id : ℕ) → IsPlainLine line → Sees number line before next told
    → IsTold (happenings.Done machine (acts.Gets id)) told → ⊥
no_gets number (own_line request) before next told machine id plain sees is =
    asks_gets plain
    (among (IsAskedFor request) is (does_asked number request before next told sees.0)) tt
no_gets number other_line before next told machine id plain sees is =
    elim
    (subst (λ (all : List Happening). IsTold (happenings.Done machine (acts.Gets id)) all) sees.1 is)
    [ ]

pub plainly_none : (number machine from to id : ℕ) (before next : Lanes)
    (done : List LaneHappening) → IsPlainly number before next done → 1 ≤ to
    → IsTold (happenings.Done machine (acts.Gets id)) (told_for to done) → ⊥
plainly_none number machine from to id before next done plain more is =
    let sees : SeesPlainly number to before next done = plain.each to more in
    no_gets number sees.line (track to before) (track to next) sees.told machine id sees.plain
    sees.sees (same_deed machine (acts.Gets id) (told_for to done) sees.told (sym sees.same) is)

-- ---- a shift tells of its own alone

split_told : {h : Happening} (front back : List Happening) → IsTold h (front ++ back)
    → IsTold h front ⊎ IsTold h back
split_told [] back is = inr is
split_told (x ∷ front) back told_first = inl told_first
split_told (x ∷ front) back (told_later is) =
    elim (split_told front back is) [
      | inl one ↦ inl (told_later one)
      | inr two ↦ inr two
    ]

first_or : {h x : Happening} {told : List Happening} → IsTold h (x ∷ told)
    → (h ≡ x) ⊎ IsTold h told
first_or told_first = inl refl
first_or (told_later is) = inr is

-- of what is told beside calm things a board that goes is the one
one_given : (machine id to own : ℕ) (act : Act) (told : List Happening) → TellsOne own act told
    → IsTold (happenings.Done machine (acts.Gives id to)) told
    → happenings.Done machine (acts.Gives id to) ≡ happenings.Done own act
one_given machine id to own act told t is =
    by (split_told t.front (happenings.Done own act ∷ t.back)
    (subst (λ (all : List Happening). IsTold (happenings.Done machine (acts.Gives id to)) all) t.is is))
  where
    last : (happenings.Done machine (acts.Gives id to) ≡ happenings.Done own act)
        ⊎ IsTold (happenings.Done machine (acts.Gives id to)) t.back
        → happenings.Done machine (acts.Gives id to) ≡ happenings.Done own act
    last (inl same) = same
    last (inr behind) = absurd (among IsCalm behind t.last)

    by : IsTold (happenings.Done machine (acts.Gives id to)) t.front
        ⊎ IsTold (happenings.Done machine (acts.Gives id to)) (happenings.Done own act ∷ t.back)
        → happenings.Done machine (acts.Gives id to) ≡ happenings.Done own act
    by (inl before) = absurd (among IsCalm before t.first)
    by (inr here) = last (first_or here)

-- so a shift that is told is the one that the line did
pub record IsThatShift (number machine from to id : ℕ) (before next : Lanes)
    (done : List LaneHappening) (shift : IsShifted number before next done) : Type 0 where
  pub by : shift.machine ≡ machine
  pub giver : shift.from ≡ from
  pub taker : shift.to ≡ to
  pub board : shift.id ≡ id

gives_no_get : (machine id to own x : ℕ)
    → happenings.Done machine (acts.Gives id to) ≡ happenings.Done own (acts.Gets x) → ⊥
gives_no_get machine id to own x same = cc

that_given : (machine id to own x t : ℕ)
    → happenings.Done machine (acts.Gives id to) ≡ happenings.Done own (acts.Gives x t)
    → (own ≡ machine) × ((x ≡ id) × (t ≡ to))
that_given machine id to own x t same =
    let one : own ≡ machine = cc in
    let two : x ≡ id = cc in
    let three : t ≡ to = cc in
    (one, (two, three))

pub that_shift : (number machine from to id : ℕ) (before next : Lanes)
    (done : List LaneHappening) (shift : IsShifted number before next done)
    → IsTold (happenings.Done machine (acts.Gives id to)) (told_for from done)
    → IsThatShift number machine from to id before next done shift
that_shift number machine from to id before next done shift is =
    by (same_or_not from shift.from) (same_or_not from shift.to) where
      on : ShiftOn number before next done shift
      on = shift_on number before next done shift

      told_on : (l : ℕ) (told : List Happening) → from ≡ l → told_for l done ≡ told
          → IsTold (happenings.Done machine (acts.Gives id to)) told
      told_on l told same here =
          subst (λ (all : List Happening). IsTold (happenings.Done machine (acts.Gives id to)) all)
          (ap (λ (k : ℕ). told_for k done) same ∙ here) is

      by : (from ≡ shift.from) ⊎ (from ≢ shift.from) → (from ≡ shift.to) ⊎ (from ≢ shift.to)
          → IsThatShift number machine from to id before next done shift
      by (inl same) other =
          let all =
          that_given machine id to shift.machine shift.id shift.to
          (one_given machine id to shift.machine (acts.Gives shift.id shift.to) shift.given
          shift.tells.gives (told_on shift.from shift.given same on.giver)) in
          record { by = all.0; giver = sym same; taker = all.1.1; board = all.1.0 }
      by (inr apart) (inl same) =
          absurd (gives_no_get machine id to shift.machine shift.id
          (one_given machine id to shift.machine (acts.Gets shift.id) shift.taken shift.tells.gets
          (told_on shift.to shift.taken same on.taker)))
      by (inr apart) (inr other) =
          elim (told_on from [] refl (on.third from apart other)) [ ]
