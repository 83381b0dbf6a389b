-- What is told of a lane, of all that is told.
use Rattle.std.proofs.Common.{◌≡◌, ◌≢◌, ◌∙◌, ◌+◌, ◌≤◌, ◌==◌, ◌++◌, ◌||◌, ◌⊎◌, inl, inr, ℕ, zero, suc, Bool, true, false, List, [], ◌∷◌, Option, Some, None, refl, sym, ap, arith, append_assoc, eq-eqb, ne_eqb}
use Rattle.std.specs.Prelude.{if◌then◌else◌, ◌&&◌, not}
use Rattle.std.specs.List.{AllByRecursion, flat_map}
use Rattle.std.proofs.lemmas.Bool.{or_from, or_parts}
use Rattle.node_core.specs.declared.act.Act.TheVariants as acts
use Rattle.standings.specs.Told.{told_of}
use Rattle.standings.specs.declared.standing.Standing.{Standing}
use Rattle.standings.specs.declared.standing.Standing.TheVariants as standings
use Rattle.standings.specs.declared.told.Told.{Told}
use Rattle.standings.specs.declared.told.Told.TheVariants as tolds
use Rattle.line_report.specs.Lanes.{on_lane, told_on}
use Rattle.line_report.specs.declared.happening.Happening.{Happening}
use Rattle.line_report.specs.declared.happening.Happening.TheVariants as happenings
use Rattle.line_report.specs.declared.happening.LaneHappening.{LaneHappening}
use Rattle.line_step.specs.Homes.{home_after, home_by}
use Rattle.line_step.specs.Lies.{is_lie, tells_lie}
use Rattle.line_step.specs.Shown.{ascending, ids_marked, standing_told, standings_told}
use Rattle.line_step.specs.State.{LineState, marks_in}
use Rattle.law_lanes.specs.Along.{all_done, happening_for, is_done, told_for}
use Rattle.law_lanes.specs.Lanes.{Lanes}
use Rattle.law_lanes.specs.Shown.{LaneMarks, LanePlace, is_same_place, marked_on, marks_told, place_told, standing_happens, standing_on, standings_on}
use Rattle.law_lanes.specs.Views.{tells_lie_on}

-- ---- lists

pub join_all : {A : Type 0} (P : A → Type 0) (front back : List A) → AllByRecursion P front
    → AllByRecursion P back → AllByRecursion P (front ++ back)
join_all P [] back one two = two
join_all P (x ∷ xs) back one two = (one.0, join_all P xs back one.1 two)

pub flat_all : {A : Type 0} (P : A → Type 0) (f : ℕ → List A) (ids : List ℕ)
    → ((id : ℕ) → AllByRecursion P (f id)) → AllByRecursion P (flat_map f ids)
flat_all P f [] each = tt
flat_all P f (id ∷ ids) each = join_all P (f id) (flat_map f ids) (each id) (flat_all P f ids each)

pub for_append : (lane : ℕ) (front back : List LaneHappening)
    → told_for lane (front ++ back) ≡ told_for lane front ++ told_for lane back
for_append lane [] back = refl
for_append lane (h ∷ front) back =
    ap (λ (t : List Happening). happening_for lane h ++ t) (for_append lane front back)
    ∙ sym (append_assoc (happening_for lane h) (told_for lane front) (told_for lane back))

done_by : (test : Bool) (h : Happening) (front back all : List Happening) → all ≡ front ++ back
    → (if test then h ∷ all else all) ≡ (if test then h ∷ front else front) ++ back
done_by true h front back all same = ap (λ (t : List Happening). h ∷ t) same
done_by false h front back all same = same

pub done_append : (front back : List Happening)
    → all_done (front ++ back) ≡ all_done front ++ all_done back
done_append [] back = refl
done_append (h ∷ front) back =
    done_by (is_done h) h (all_done front) (all_done back) (all_done (front ++ back))
    (done_append front back)

-- ---- what is told of one lane

-- it moves no board between lanes
abbrev pub IsUnmoved : Happening → Type 0
IsUnmoved (happenings.Done machine (acts.Gives id to)) = ⊥
IsUnmoved (happenings.Done machine (acts.Gets id)) = ⊥
IsUnmoved _ = Unit {0}

abbrev pub AreUnmoved : List Happening → Type 0
AreUnmoved told = AllByRecursion IsUnmoved told

own_here : (lane : ℕ) (h : Happening)
    → (if lane == lane then h ∷ [] else []) ≡ h ∷ []
own_here lane h =
    ap (λ (b : Bool). if b then h ∷ [] else []) (eq-eqb lane lane refl)

own_for : (lane : ℕ) (h : Happening) → IsUnmoved h → happening_for lane (on_lane lane h) ≡ h ∷ []
own_for lane (happenings.Done machine (acts.Gives id to)) still = absurd still
own_for lane h still = own_here lane h

pub for_own : (lane : ℕ) (told : List Happening) → AreUnmoved told
    → told_for lane (told_on lane told) ≡ told
for_own lane [] still = refl
for_own lane (h ∷ told) still =
    λ i. own_for lane h still.0 i ++ for_own lane told still.1 i

other_here : (lane other : ℕ) (h : Happening) → lane ≢ other
    → (if lane == other then h ∷ [] else []) ≡ []
other_here lane other h apart =
    ap (λ (b : Bool). if b then h ∷ [] else []) (ne_eqb lane other apart)

other_for : (lane other : ℕ) (h : Happening) → lane ≢ other → IsUnmoved h
    → happening_for other (on_lane lane h) ≡ []
other_for lane other (happenings.Done machine (acts.Gives id to)) apart still = absurd still
other_for lane other h apart still = other_here lane other h apart

pub for_other : (lane other : ℕ) (told : List Happening) → lane ≢ other → AreUnmoved told
    → told_for other (told_on lane told) ≡ []
for_other lane other [] apart still = refl
for_other lane other (h ∷ told) apart still =
    λ i. other_for lane other h apart still.0 i ++ for_other lane other told apart still.1 i

-- ---- what isn't done by a machine

abbrev pub IsNoDeed : LaneHappening → Type 0
IsNoDeed h = is_done h.what ≡ false

abbrev pub AreNoDeeds : List LaneHappening → Type 0
AreNoDeeds told = AllByRecursion IsNoDeed told

none_if : (here : Bool) (h : Happening) → is_done h ≡ false
    → all_done (if here then h ∷ [] else []) ≡ []
none_if true h none = ap (λ (b : Bool). if b then h ∷ [] else []) none
none_if false h none = refl

none_in : (lane own : ℕ) (h : Happening) → is_done h ≡ false
    → all_done (happening_for lane (record { lane = own; what = h })) ≡ []
none_in lane own (happenings.Done machine act) none = cc
none_in lane own h none = none_if (own == lane) h none

pub none_for : (lane : ℕ) (told : List LaneHappening) → AreNoDeeds told
    → all_done (told_for lane told) ≡ []
none_for lane [] none = refl
none_for lane (h ∷ told) none =
    done_append (happening_for lane h) (told_for lane told)
    ∙ (λ i. none_in lane h.lane h.what none.0 i ++ none_for lane told none.1 i)

-- ---- standings

stands_none : (id : ℕ) (standing : Standing) → is_done (standing_happens id standing) ≡ false
stands_none id (standings.With machine) = refl
stands_none id (standings.Between gap) = refl

place_none : (id : ℕ) (place : Option LanePlace) → AreNoDeeds (place_told id place)
place_none id None = tt
place_none id (Some place) = (stands_none id place.standing, tt)

if_none : (same : Bool) (told : List LaneHappening) → AreNoDeeds told
    → AreNoDeeds (if same then [] else told)
if_none true told none = tt
if_none false told none = none

marks_none : (id : ℕ) (before after : List LaneMarks) → AreNoDeeds (marks_told id before after)
marks_none id [] [] = tt
marks_none id (own ∷ others) [] = (refl, tt)
marks_none id before (own ∷ others) =
    if_none (is_same_place (standing_on (own ∷ others)) (standing_on before)) _
    (place_none id (standing_on (own ∷ others)))

pub standings_none : (before after : Lanes) → AreNoDeeds (standings_on before after)
standings_none before after =
    flat_all IsNoDeed (λ (id : ℕ). marks_told id (marked_on before id) (marked_on after id)) _
    (λ id. marks_none id (marked_on before id) (marked_on after id))

-- and those of a track
abbrev IsNotDone : Happening → Type 0
IsNotDone h = is_done h ≡ false

standing_none : (id : ℕ) (told : Option Told) → AllByRecursion IsNotDone (standing_told id told)
standing_none id None = tt
standing_none id (Some (tolds.With machine)) = (refl, tt)
standing_none id (Some (tolds.Between gap)) = (refl, tt)
standing_none id (Some tolds.Gone) = (refl, tt)

not_done : (told : List Happening) → AllByRecursion IsNotDone told → all_done told ≡ []
not_done [] none = refl
not_done (h ∷ told) none =
    ap (λ (b : Bool). if b then h ∷ all_done told else all_done told) none.0
    ∙ not_done told none.1

pub track_none : (before after : LineState) → all_done (standings_told before after) ≡ []
track_none before after =
    not_done (standings_told before after)
    (flat_all IsNotDone
    (λ (id : ℕ). standing_told id (told_of (marks_in before id) (marks_in after id)))
    (ascending (ids_marked before ++ ids_marked after))
    (λ id. standing_none id (told_of (marks_in before id) (marks_in after id))))

-- ---- ids that come and go, and homes

abbrev pub one_if : Bool → ℕ
one_if true = 1
one_if false = 0

-- how often a board comes to the floor under this id
abbrev pub came_in : ℕ → Happening → ℕ
came_in id (happenings.Done machine (acts.Inserts new)) = one_if (new == id)
came_in id (happenings.Done machine (acts.Replaces old new)) = one_if (new == id)
came_in id (happenings.Done machine (acts.Gets new)) = one_if (new == id)
came_in id _ = 0

abbrev pub came : ℕ → List Happening → ℕ
came id [] = 0
came id (h ∷ told) = came_in id h + came id told

-- and how often one goes to another lane
abbrev pub gave_in : ℕ → Happening → ℕ
gave_in id (happenings.Done machine (acts.Gives old to)) = one_if (old == id)
gave_in id _ = 0

abbrev pub gave : ℕ → List Happening → ℕ
gave id [] = 0
gave id (h ∷ told) = gave_in id h + gave id told

undone_came : (id : ℕ) (h : Happening) → is_done h ≡ false → came_in id h ≡ 0
undone_came id (happenings.Done machine act) none = cc
undone_came id h none = refl

undone_home : (id : ℕ) (h : Happening) (home : Bool) → is_done h ≡ false → home_by id h home ≡ home
undone_home id (happenings.Done machine act) home none = cc
undone_home id h home none = refl

undone_lie : (h : Happening) → is_done h ≡ false → is_lie h ≡ false
undone_lie (happenings.Lie machine sensed) none = cc
undone_lie (happenings.Unseen machine side) none = cc
undone_lie h none = refl

came_by : (test : Bool) (id : ℕ) (h : Happening) (told : List Happening) → is_done h ≡ test
    → came id told ≡ came id (all_done told)
    → came_in id h + came id told ≡ came id (if test then h ∷ all_done told else all_done told)
came_by true id h told is same = ap (λ (n : ℕ). came_in id h + n) same
came_by false id h told is same =
    let none = undone_came id h is in
    omega (arith, none, same)

pub came_done : (id : ℕ) (told : List Happening) → came id told ≡ came id (all_done told)
came_done id [] = refl
came_done id (h ∷ told) =
    came_by (is_done h) id h told refl (came_done id told)
    ∙ refl

home_done_by : (test : Bool) (id : ℕ) (h : Happening) (told : List Happening) (home : Bool)
    → is_done h ≡ test
    → ((was : Bool) → home_after id told was ≡ home_after id (all_done told) was)
    → home_after id told (home_by id h home)
    ≡ home_after id (if test then h ∷ all_done told else all_done told) home
home_done_by true id h told home is same = same (home_by id h home)
home_done_by false id h told home is same =
    ap (λ (b : Bool). home_after id told b) (undone_home id h home is) ∙ same home

pub home_done : (id : ℕ) (told : List Happening) (home : Bool)
    → home_after id told home ≡ home_after id (all_done told) home
home_done id [] home = refl
home_done id (h ∷ told) home =
    home_done_by (is_done h) id h told home refl (λ was. home_done id told was)

lie_done_by : (test : Bool) (h : Happening) (told : List Happening) → is_done h ≡ test
    → tells_lie told ≡ tells_lie (all_done told)
    → (is_lie h || tells_lie told) ≡ tells_lie (if test then h ∷ all_done told else all_done told)
lie_done_by true h told is same = ap (λ (b : Bool). is_lie h || b) same
lie_done_by false h told is same =
    ap (λ (b : Bool). b || tells_lie told) (undone_lie h is) ∙ same

pub lie_done : (told : List Happening) → tells_lie told ≡ tells_lie (all_done told)
lie_done [] = refl
lie_done (h ∷ told) = lie_done_by (is_done h) h told refl (lie_done told)

-- of two that did the same
pub same_came : (id : ℕ) (a b : List Happening) → all_done a ≡ all_done b → came id a ≡ came id b
same_came id a b same =
    came_done id a ∙ ap (λ (t : List Happening). came id t) same ∙ sym (came_done id b)

undone_gave : (id : ℕ) (h : Happening) → is_done h ≡ false → gave_in id h ≡ 0
undone_gave id (happenings.Done machine act) none = cc
undone_gave id h none = refl

gave_by_done : (test : Bool) (id : ℕ) (h : Happening) (told : List Happening) → is_done h ≡ test
    → gave id told ≡ gave id (all_done told)
    → gave_in id h + gave id told ≡ gave id (if test then h ∷ all_done told else all_done told)
gave_by_done true id h told is same = ap (λ (n : ℕ). gave_in id h + n) same
gave_by_done false id h told is same =
    let none = undone_gave id h is in
    omega (arith, none, same)

gave_done : (id : ℕ) (told : List Happening) → gave id told ≡ gave id (all_done told)
gave_done id [] = refl
gave_done id (h ∷ told) = gave_by_done (is_done h) id h told refl (gave_done id told)

pub same_gave : (id : ℕ) (a b : List Happening) → all_done a ≡ all_done b → gave id a ≡ gave id b
same_gave id a b same =
    gave_done id a ∙ ap (λ (t : List Happening). gave id t) same ∙ sym (gave_done id b)

pub same_home : (id : ℕ) (a b : List Happening) (home : Bool) → all_done a ≡ all_done b
    → home_after id a home ≡ home_after id b home
same_home id a b home same =
    home_done id a home ∙ ap (λ (t : List Happening). home_after id t home) same
    ∙ sym (home_done id b home)

pub same_lie : (a b : List Happening) → all_done a ≡ all_done b → tells_lie a ≡ tells_lie b
same_lie a b same =
    lie_done a ∙ ap (λ (t : List Happening). tells_lie t) same ∙ sym (lie_done b)

pub home_append : (id : ℕ) (front back : List Happening) (home : Bool)
    → home_after id (front ++ back) home ≡ home_after id back (home_after id front home)
home_append id [] back home = refl
home_append id (h ∷ front) back home = home_append id front back (home_by id h home)

-- ---- who is at home came, or was before

or_home : (new home : Bool) → (new || home) ≡ true → (home ≡ true) ⊎ (1 ≤ one_if new)
or_home true home is = inr (omega arith)
or_home false home is = inl is

and_home : (out home : Bool) → (not out && home) ≡ true → home ≡ true
and_home true home is = cc
and_home false home is = is

home_in : (id : ℕ) (h : Happening) (home : Bool) → home_by id h home ≡ true
    → (home ≡ true) ⊎ (1 ≤ came_in id h)
home_in id (happenings.Done machine (acts.Inserts new)) home is = or_home (new == id) home is
home_in id (happenings.Done machine (acts.Replaces old new)) home is = or_home (new == id) home is
home_in id (happenings.Done machine (acts.Gets new)) home is = or_home (new == id) home is
home_in id (happenings.Done machine (acts.Gives old to)) home is =
    inl (and_home (old == id) home is)
home_in id h home is = inl is

pub home_came : (id : ℕ) (told : List Happening) (home : Bool) → home_after id told home ≡ true
    → (home ≡ true) ⊎ (1 ≤ came id told)
home_came id [] home is = inl is
home_came id (h ∷ told) home is =
    elim (home_came id told (home_by id h home) is) [
      | inr more ↦ inr (omega (arith, more))
      | inl there ↦ elim (home_in id h home there) [
        | inl was ↦ inl was
        | inr new ↦ inr (omega (arith, new))
      ]
    ]

-- who went to another lane, and didn't come again, is at home no more
out_by : (out home : Bool) → 1 ≤ one_if out → (not out && home) ≡ false
out_by true home is = refl
out_by false home is = absurd (let never : ⊥ = omega (arith, is) in never)

stays_out : (id : ℕ) (told : List Happening) → came id told ≡ 0 → home_after id told false ≡ false
stays_out id told none = by (home_after id told false) refl where
  by : (home : Bool) → home_after id told false ≡ home → home ≡ false
  by false is = refl
  by true is =
      elim (home_came id told false is) [
        | inl was ↦ cc
        | inr some ↦ absurd (let never : ⊥ = omega (arith, some, none) in never)
      ]

gave_by : (id : ℕ) (h : Happening) (home : Bool) → 1 ≤ gave_in id h → home_by id h home ≡ false
gave_by id (happenings.Done machine (acts.Gives old to)) home is = out_by (old == id) home is
gave_by id h home is = absurd (let never : ⊥ = omega (arith, is) in never)

none_or_some : (n : ℕ) → (n ≡ 0) ⊎ (1 ≤ n)
none_or_some zero = inl refl
none_or_some (suc n) = inr (omega arith)

pub home_gave : (id : ℕ) (told : List Happening) (home : Bool) → came id told ≡ 0
    → 1 ≤ gave id told → home_after id told home ≡ false
home_gave id [] home none some = absurd (let never : ⊥ = omega (arith, some) in never)
home_gave id (h ∷ told) home none some =
    elim (none_or_some (gave_in id h)) [
      | inr here ↦
          ap (λ (b : Bool). home_after id told b) (gave_by id h home here)
          ∙ stays_out id told (omega (arith, none))
      | inl quiet ↦
          home_gave id told (home_by id h home) (omega (arith, none)) (omega (arith, some, quiet))
    ]

-- ---- lies

lie_on_in : (lane : ℕ) (told : List Happening) → tells_lie_on (told_on lane told) ≡ tells_lie told
lie_on_in lane [] = refl
lie_on_in lane (h ∷ told) = ap (λ (b : Bool). is_lie h || b) (lie_on_in lane told)

pub lie_on : (lane : ℕ) (told : List Happening) → tells_lie_on (told_on lane told) ≡ tells_lie told
lie_on lane told = lie_on_in lane told

pub lie_on_join : (front back : List LaneHappening) → tells_lie_on front ≡ false
    → tells_lie_on back ≡ false → tells_lie_on (front ++ back) ≡ false
lie_on_join [] back one two = two
lie_on_join (h ∷ front) back one two =
    let parts = or_parts (is_lie h.what) (tells_lie_on front) one in
    or_from (is_lie h.what) (tells_lie_on (front ++ back)) parts.0
    (lie_on_join front back parts.1 two)

pub no_deed_lies : (told : List LaneHappening) → AreNoDeeds told → tells_lie_on told ≡ false
no_deed_lies [] none = refl
no_deed_lies (h ∷ told) none =
    or_from (is_lie h.what) (tells_lie_on told) (undone_lie h.what none.0)
    (no_deed_lies told none.1)

pub lie_join : (front back : List Happening) → tells_lie front ≡ false → tells_lie back ≡ false
    → tells_lie (front ++ back) ≡ false
lie_join [] back one two = two
lie_join (h ∷ front) back one two =
    let parts = or_parts (is_lie h) (tells_lie front) one in
    or_from (is_lie h) (tells_lie (front ++ back)) parts.0 (lie_join front back parts.1 two)

lie_if : (here : Bool) (h : Happening) → is_lie h ≡ false
    → tells_lie (if here then h ∷ [] else []) ≡ false
lie_if true h none = or_from (is_lie h) false none refl
lie_if false h none = refl

lie_in : (lane own : ℕ) (h : Happening) → is_lie h ≡ false
    → tells_lie (happening_for lane (record { lane = own; what = h })) ≡ false
lie_in lane own (happenings.Done machine (acts.Gives id to)) none =
    lie_join (if own == lane then happenings.Done machine (acts.Gives id to) ∷ [] else [])
    (if to == lane then happenings.Done machine (acts.Gets id) ∷ [] else [])
    (lie_if (own == lane) (happenings.Done machine (acts.Gives id to)) refl)
    (lie_if (to == lane) (happenings.Done machine (acts.Gets id)) refl)
lie_in lane own h none = lie_if (own == lane) h none

-- of a lane nothing is told that was not so where of none is
pub lie_for : (lane : ℕ) (told : List LaneHappening) → tells_lie_on told ≡ false
    → tells_lie (told_for lane told) ≡ false
lie_for lane [] none = refl
lie_for lane (h ∷ told) none =
    let parts = or_parts (is_lie h.what) (tells_lie_on told) none in
    lie_join (happening_for lane h) (told_for lane told) (lie_in lane h.lane h.what parts.0)
    (lie_for lane told parts.1)
