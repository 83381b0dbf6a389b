-- That each board is in one place, after a line: what is gone stays gone, and what a hand takes from the floor lies nowhere.
use Rattle.std.proofs.Common.{Bool, List, Some, Ok, [], ap, arith, eqb-true, false, refl, subst, sym, true, ℕ, ◌+◌, ◌++◌, ◌&&◌, ◌||◌, ◌∙◌, ◌∷◌, ◌≡◌, ◌≢◌, ◌≤◌, ◌⊎◌, inl, inr, ne_eqb, None}
use Rattle.std.specs.Prelude.{nat_eq, cond}
use Rattle.std.specs.List.{AllByRecursion}
use Rattle.line_world.specs.declared.board.Board.{Board}
use Rattle.line_world.specs.declared.moves.Move.TheVariants as moves
use Rattle.line_world.specs.FloorPlan.{gap_at, has_id}
use Rattle.line_world.specs.Boards.{ChangesId, LosesBoard, boards_in}
use Rattle.line_world.specs.Moves.{floor_move}
use Rattle.line_world.proofs.Keeping.{keeps_boards}
use Rattle.line_world.proofs.Placing.{changed_with, lost_with}
use Rattle.line_report.specs.declared.happening.Happening.{Happening}
use Rattle.line_report.specs.declared.happening.Happening.TheVariants as happenings
use Rattle.node_core.specs.declared.act.Act.TheVariants as acts
use Rattle.node_core.specs.declared.input.Input.TheVariants as inputs
use Rattle.node_core.specs.Node.{NodeState}
use Rattle.line_step.specs.FloorIds.{AllChange, ChangesBoards, boards_of}
use Rattle.line_step.specs.Lines.{LineDoes, LineSteps}
use Rattle.line_step.specs.Shown.{standings_told}
use Rattle.line_step.specs.State.{LineState}
use Rattle.line_step.specs.Requests.{Request, gives}
use Rattle.line_step.specs.Tracks.{ComesFromElsewhere}
use Rattle.line_step.proofs.Counted.{rises}
use Rattle.line_step.proofs.FloorLaws.{Goes, Holds, steps-goes}
use Rattle.step_rules.specs.Makers.{IsOld}
use Rattle.line_step.proofs.Numbers.{none_or_one}
use Rattle.law_one_standing.specs.Carried.{Trace, between_of, stand_of}
use Rattle.law_one_standing.specs.Places.{AreApart, LiesAt, LiesIn, Spot}
use Rattle.law_one_standing.specs.Told.{IsTold, told_first, told_later}
use Rattle.law_one_standing.proofs.ApartFloor.{counted, floor_lies, lies_counted, lies_in_gap, lies_on_floor, list_once, one_place_of}
use Rattle.line_base.specs.declared.states.Side.TheVariants.{Entry, Exit}

-- ---- what a line does, before it is counted

pub does_goes : (number : ℕ) (request : Request) (s next : LineState) (done : List Happening) → Holds s → ComesFromElsewhere request s → LineDoes number request s next done → Goes s next (done ++ standings_told s next)
does_goes number request s next done h from does =
    let after : LineState = record next { lines = next.lines + 1 } in
    let told = done ++ standings_told s next in
    let steps : LineSteps number request s after told = record { next = next; done = done; does = does; lines = next.lines + 1; counts = rises next.lines; after_is = refl; told_is = refl } in
    let goes = steps-goes number request s after told h from steps in
    record {
      holds = record { own = goes.holds.own; many = goes.holds.many; whole = goes.holds.whole; old = goes.holds.old; differ = record { once = goes.holds.differ.once } };
      change = goes.change;
      fresh = goes.fresh;
      handled = goes.handled;
      olds = goes.olds;
    }

-- ---- boards with an id that doesn't come, counted

-- the ids of boards that come onto the floor
abbrev pub come_in : Happening → List ℕ
come_in (happenings.Done machine (acts.Inserts id)) = id ∷ []
come_in (happenings.Done machine (acts.Replaces was now)) = now ∷ []
come_in (happenings.Done machine (acts.Gets id)) = id ∷ []
come_in _ = []

abbrev pub come_by : List Happening → List ℕ
come_by [] = []
come_by (happening ∷ told) = come_in happening ++ come_by told

abbrev pub IsNot : ℕ → List ℕ → Type 0
IsNot x ids = AllByRecursion (λ (id : ℕ). x ≢ id) ids

pub same_count : (x : ℕ) (old new : List Board) → new ≡ old → counted x new ≤ counted x old
same_count x old new same = rw same (omega arith)

pub gained_count : (x id : ℕ) (old new : List Board) → LosesBoard new old (record { id = Some id }) → x ≢ id → counted x new ≤ counted x old
gained_count x id old new gain apart =
    let other : has_id x (record { id = Some id }) ≡ false = ne_eqb id x (λ is. apart (sym is)) in
    let more = lost_with x gain.front gain.back (record { id = Some id }) false other in
    rw (gain.before, gain.after) (omega (arith, more))

-- a board without an id has none of the ids
pub bare_count : (x : ℕ) (old new : List Board) → LosesBoard new old (record { id = None }) → counted x new ≤ counted x old
bare_count x old new gain =
    let more = lost_with x gain.front gain.back (record { id = None }) false refl in
    rw (gain.before, gain.after) (omega (arith, more))

pub lost_count : (x : ℕ) (old new : List Board) (board : Board) → LosesBoard old new board → counted x new ≤ counted x old
lost_count x old new board loss =
    let less = lost_with x loss.front loss.back board (has_id x board) refl in
    rw (loss.before, loss.after) (omega (arith, less))

pub own_lost_count : (x : ℕ) (old new : List Board) (board : Board) → has_id x board ≡ true → LosesBoard old new board → counted x new + 1 ≤ counted x old
own_lost_count x old new board has loss =
    let less = lost_with x loss.front loss.back board true has in
    rw (loss.before, loss.after) (omega (arith, less))

pub changed_count : (x was now : ℕ) (old new : List Board) → ChangesId was now old new → x ≢ now → counted x new ≤ counted x old
changed_count x was now old new change apart =
    let there = change.2 in
    let other : has_id x (record { id = Some now }) ≡ false = ne_eqb now x (λ is. apart (sym is)) in
    let same = changed_with x there.front there.back change.0 (record { id = Some now }) (has_id x change.0) false refl other in
    rw (there.before, there.after) (omega (arith, same))

pub own_changed_count : (was now : ℕ) (old new : List Board) → ChangesId was now old new → was ≢ now → counted was new + 1 ≤ counted was old
own_changed_count was now old new change apart =
    let there = change.2 in
    let other : has_id was (record { id = Some now }) ≡ false = ne_eqb now was (λ is. apart (sym is)) in
    let same = changed_with was there.front there.back change.0 (record { id = Some now }) true false change.1 other in
    rw (there.before, there.after) (omega (arith, same))

happening_count : (h : Happening) (x : ℕ) (old new : List Board) → ChangesBoards h old new → IsNot x (come_in h) → counted x new ≤ counted x old
happening_count (happenings.Done machine (acts.Inserts id)) x old new gain apart = gained_count x id old new gain apart.0
happening_count (happenings.Done machine (acts.Removes id)) x old new loss apart = lost_count x old new loss.0 loss.2
happening_count (happenings.Done machine (acts.Replaces was now)) x old new change apart = changed_count x was now old new change apart.0
happening_count (happenings.Done machine (acts.Gives id to)) x old new loss apart = lost_count x old new loss.0 loss.2
happening_count (happenings.Done machine (acts.Gets id)) x old new gain apart = gained_count x id old new gain apart.0
happening_count (happenings.Moved gap moves.Take) x old new loss apart = lost_count x old new loss.0 loss.1
happening_count (happenings.Unseen machine Entry) x old new gain apart = bare_count x old new gain
happening_count (happenings.Unseen machine Exit) x old new loss apart = lost_count x old new loss.0 loss.1
happening_count _ x old new same apart = same_count x old new same

pub not_front : (x : ℕ) (front back : List ℕ) → IsNot x (front ++ back) → IsNot x front
not_front x [] back apart = tt
not_front x (id ∷ front) back apart = (apart.0, not_front x front back apart.1)

pub not_back : (x : ℕ) (front back : List ℕ) → IsNot x (front ++ back) → IsNot x back
not_back x [] back apart = apart
not_back x (id ∷ front) back apart = not_back x front back apart.1

pub all_count : (told : List Happening) (x : ℕ) (old new : List Board) → AllChange told old new → IsNot x (come_by told) → counted x new ≤ counted x old
all_count [] x old new same apart = same_count x old new same
all_count (h ∷ told) x old new change apart =
    let first = happening_count h x old change.0 change.1 (not_front x (come_in h) (come_by told) apart) in
    let then = all_count told x change.0 new change.2 (not_back x (come_in h) (come_by told) apart) in
    omega (arith, first, then)

pub told_before : {h : Happening} {told : List Happening} (more : List Happening) → IsTold h told → IsTold h (told ++ more)
told_before more told_first = told_first
told_before more (told_later later) = told_later (told_before more later)

pub told_behind : {h : Happening} (earlier : List Happening) {told : List Happening} → IsTold h told → IsTold h (earlier ++ told)
told_behind [] is = is
told_behind (other ∷ earlier) is = told_later (told_behind earlier is)

-- what takes a board with this id from the floor, if all that comes is another
abbrev pub Loses : ℕ → Happening → Type 0
Loses x h = (old new : List Board) → ChangesBoards h old new → IsNot x (come_in h) → counted x new + 1 ≤ counted x old

pub all_lost_count : {h : Happening} {told : List Happening} → IsTold h told → (x : ℕ) (old new : List Board) → Loses x h → AllChange told old new → IsNot x (come_by told) → counted x new + 1 ≤ counted x old
all_lost_count {h} (told_first {told}) x old new loses change apart =
    let first = loses old change.0 change.1 (not_front x (come_in h) (come_by told) apart) in
    let then = all_count told x change.0 new change.2 (not_back x (come_in h) (come_by told) apart) in
    omega (arith, first, then)
all_lost_count (told_later {other} {told} later) x old new loses change apart =
    let first = happening_count other x old change.0 change.1 (not_front x (come_in other) (come_by told) apart) in
    let then = all_lost_count later x change.0 new loses change.2 (not_back x (come_in other) (come_by told) apart) in
    omega (arith, first, then)

removes_loses : (machine x : ℕ) → Loses x (happenings.Done machine (acts.Removes x))
removes_loses machine x old new loss apart = own_lost_count x old new loss.0 loss.1 loss.2

replaces_loses : (machine x now : ℕ) → Loses x (happenings.Done machine (acts.Replaces x now))
replaces_loses machine x now old new change apart = own_changed_count x now old new change apart.0

pub gives_loses : (machine x to : ℕ) → Loses x (happenings.Done machine (acts.Gives x to))
gives_loses machine x to old new loss apart = own_lost_count x old new loss.0 loss.1 loss.2

pub old_count : (s after : LineState) (told : List Happening) (x : ℕ) → Goes s after told → IsNot x (come_by told) → counted x (boards_of after) ≤ counted x (boards_of s)
old_count s after told x goes apart = all_count told x (boards_of s) (boards_of after) goes.change apart

-- the boards on the floor have old ids
counted_old_by : (has : Bool) (nodes : List NodeState) (x : ℕ) (board : Board) (boards : List Board) → has_id x board ≡ has → (has_id x board ≡ true → IsOld 1 nodes x) → (1 ≤ counted x boards → IsOld 1 nodes x) → 1 ≤ counted x (board ∷ boards) → IsOld 1 nodes x
counted_old_by true nodes x board boards is own rest some = own is
counted_old_by false nodes x board boards is own rest some = rest (rw is at some)

counted_old : (nodes : List NodeState) (x : ℕ) (boards : List Board) → AllByRecursion (λ (board : Board). (id : ℕ) → has_id id board ≡ true → IsOld 1 nodes id) boards → 1 ≤ counted x boards → IsOld 1 nodes x
counted_old nodes x [] old some = absurd (omega (arith, some))
counted_old nodes x (board ∷ boards) old some = counted_old_by (has_id x board) nodes x board boards refl (old.0 x) (counted_old nodes x boards old.1) some

pub floor_old : (s : LineState) (x : ℕ) → Holds s → 1 ≤ counted x (boards_of s) → IsOld 1 s.machines x
floor_old s x h some = counted_old s.machines x (boards_of s) h.old some

-- ---- each board is in one place, and what is gone was made

pub record Parted (t : Trace) (s : LineState) : Type 0 where
  pub apart : AreApart (stand_of s) (between_of t s)
  pub olds : (link id : ℕ) → t.gone link id ≡ true → IsOld 1 s.machines id

-- what comes onto the floor is not gone, nor does it lie there
pub record AreNews (t : Trace) (s : LineState) (told : List Happening) : Type 0 where
  pub gone : (k x : ℕ) → t.gone k x ≡ true → IsNot x (come_by told)
  pub lies : (x : ℕ) → 1 ≤ counted x (boards_of s) → IsNot x (come_by told)

-- so it is behind a line; and what is gone then was gone, or is one of those that left
pub record PartedThen (Left : ℕ → Type 0) (t t2 : Trace) (after : LineState) : Type 0 where
  pub apart : AreApart (stand_of after) (between_of t2 after)
  pub olds : (link id : ℕ) → t2.gone link id ≡ true → IsOld 1 after.machines id
  pub was : (link id : ℕ) → t2.gone link id ≡ true → (t.gone link id ≡ true) ⊎ Left id

-- what is gone is not on the floor
pub gone_count : (t : Trace) (s : LineState) (k x : ℕ) → Parted t s → t.gone k x ≡ true → counted x (boards_of s) ≡ 0
gone_count t s k x parted gone = elim (none_or_one (counted x (boards_of s))) [
  | inl none ↦ none
  | inr some ↦ (let there = floor_lies t s x some in absurd (parted.apart.nowhere k x there.0 gone there.1))
]

-- where it is so after a line
pub parted_by : (t2 : Trace) (after : LineState) → Holds after → ((k x : ℕ) → t2.gone k x ≡ true → counted x (boards_of after) ≡ 0) → ((j k x : ℕ) → t2.gone j x ≡ true → t2.gone k x ≡ true → j ≡ k) → ((k x : ℕ) → t2.gone k x ≡ true → IsOld 1 after.machines x) → Parted t2 after
parted_by t2 after h none once olds = record {
  apart = record {
    once = λ m. list_once after.world.floor m h.differ h.whole;
    one_place = λ x p q. one_place_of t2 after x p q h.differ h.whole;
    nowhere = λ k x p gone lies. omega (arith, none k x gone, lies_on_floor t2 after x p h.whole lies);
    gone_once = once;
  };
  olds = olds;
}

-- what was gone lies nowhere then
still_none : (t : Trace) (s after : LineState) (told : List Happening) (k x : ℕ) → Goes s after told → AreNews t s told → Parted t s → t.gone k x ≡ true → counted x (boards_of after) ≡ 0
still_none t s after told k x goes news parted gone = omega (arith, gone_count t s k x parted gone, old_count s after told x goes (news.gone k x gone))

parted_then : {Left : ℕ → Type 0} (t t2 : Trace) (after : LineState) → ((link id : ℕ) → t2.gone link id ≡ true → (t.gone link id ≡ true) ⊎ Left id) → Parted t2 after → PartedThen Left t t2 after
parted_then t t2 after was parted = record { apart = parted.apart; olds = parted.olds; was = was }

-- nothing more is gone
pub apart_stays : {Left : ℕ → Type 0} (t t2 : Trace) (s after : LineState) (told : List Happening) → Goes s after told → AreNews t s told → ((k y : ℕ) → t2.gone k y ≡ t.gone k y) → Parted t s → PartedThen Left t t2 after
apart_stays t t2 s after told goes news same parted =
    parted_then t t2 after (λ k x gone. inl (sym (same k x) ∙ gone))
    (parted_by t2 after goes.holds
    (λ k x gone. still_none t s after told k x goes news parted (sym (same k x) ∙ gone))
    (λ j k x one two. parted.apart.gone_once j k x (sym (same j x) ∙ one) (sym (same k x) ∙ two))
    (λ k x gone. goes.olds x (parted.olds k x (sym (same k x) ∙ gone))))

-- ---- a board goes from the floor

-- that lay on it
abbrev pub LayOn : LineState → ℕ → Type 0
LayOn s id = 1 ≤ counted id (boards_of s)

-- one that goes to another lane is not gone; each other one may be
abbrev pub LeftBy : Request → LineState → ℕ → Type 0
LeftBy (gives machine (inputs.Gives id to)) s = λ x. ⊥
LeftBy request s = LayOn s

abbrev pub grown : ℕ → ℕ → (ℕ → ℕ → Bool) → ℕ → ℕ → Bool
grown m x gone k y = gone k y || (nat_eq k m && nat_eq y x)

grown_by : (was at own : Bool) (k m y x : ℕ) → nat_eq k m ≡ at → nat_eq y x ≡ own → (was || (at && own)) ≡ true → (was ≡ true) ⊎ ((k ≡ m) × (y ≡ x))
grown_by true at own k m y x is same gone = inl refl
grown_by false true true k m y x is same gone = inr (eqb-true k m is, eqb-true y x same)
grown_by false true false k m y x is same gone = cc
grown_by false false own k m y x is same gone = cc

grown_or_not : (m x : ℕ) (gone : ℕ → ℕ → Bool) (k y : ℕ) → grown m x gone k y ≡ true → (gone k y ≡ true) ⊎ ((k ≡ m) × (y ≡ x))
grown_or_not m x gone k y is = grown_by (gone k y) (nat_eq k m) (nat_eq y x) k m y x refl refl is

-- one board that lay on the floor, and lies nowhere now, went at this gap or machine
gone_of : (t t2 : Trace) (m x : ℕ) → ((k y : ℕ) → t2.gone k y ≡ grown m x t.gone k y) → (k y : ℕ) → t2.gone k y ≡ true → (t.gone k y ≡ true) ⊎ ((k ≡ m) × (y ≡ x))
gone_of t t2 m x more k y gone = grown_or_not m x t.gone k y (sym (more k y) ∙ gone)

not_gone : (t : Trace) (s : LineState) (k y x : ℕ) → Parted t s → 1 ≤ counted x (boards_of s) → y ≡ x → t.gone k y ≡ true → ⊥
not_gone t s k y x parted some same gone =
    let own : t.gone k x ≡ true = sym (ap (t.gone k) same) ∙ gone in
    omega (arith, some, gone_count t s k x parted own)

pub apart_gone : (t t2 : Trace) (s after : LineState) (told : List Happening) (m x : ℕ) → Holds s → Goes s after told → AreNews t s told → 1 ≤ counted x (boards_of s) → counted x (boards_of after) ≡ 0 → ((k y : ℕ) → t2.gone k y ≡ grown m x t.gone k y) → Parted t s → PartedThen (LayOn s) t t2 after
apart_gone t t2 s after told m x h goes news some none more parted =
    parted_then t t2 after
    (λ k y gone. elim (gone_of t t2 m x more k y gone) [
      | inl was ↦ inl was
      | inr own ↦ inr (subst (LayOn s) (sym own.1) some)
    ])
    (parted_by t2 after goes.holds
    (λ k y gone. elim (gone_of t t2 m x more k y gone) [
      | inl was ↦ still_none t s after told k y goes news parted was
      | inr own ↦ ap (λ id. counted id (boards_of after)) own.1 ∙ none
    ])
    (λ j k y one two. elim (gone_of t t2 m x more j y one) [
      | inl was ↦ elim (gone_of t t2 m x more k y two) [ inl also ↦ parted.apart.gone_once j k y was also | inr own ↦ absurd (not_gone t s j y x parted some own.1 was) ]
      | inr own ↦ elim (gone_of t t2 m x more k y two) [ inl was ↦ absurd (not_gone t s k y x parted some own.1 was) | inr also ↦ own.0 ∙ sym also.0 ]
    ])
    (λ k y gone. elim (gone_of t t2 m x more k y gone) [
      | inl was ↦ goes.olds y (parted.olds k y was)
      | inr own ↦ goes.olds y (subst (IsOld 1 s.machines) (sym own.1) (floor_old s x h some))
    ]))

told_gone : {h : Happening} (t t2 : Trace) (s after : LineState) (told : List Happening) (m x : ℕ) (p : Spot) → Holds s → Goes s after told → AreNews t s told → IsTold h told → Loses x h → LiesAt (stand_of s) (between_of t s) x p → ((k y : ℕ) → t2.gone k y ≡ grown m x t.gone k y) → Parted t s → PartedThen (LayOn s) t t2 after
told_gone t t2 s after told m x p h goes news is loses lies more parted =
    let some = lies_on_floor t s x p h.whole lies in
    let fewer = all_lost_count is x (boards_of s) (boards_of after) loses goes.change (news.lies x some) in
    let most = h.differ.once x in
    apart_gone t t2 s after told m x h goes news some (omega (arith, fewer, most)) more parted

-- a board is removed
pub apart_removed : (t t2 : Trace) (s after : LineState) (told : List Happening) (m x : ℕ) (p : Spot) → Holds s → Goes s after told → AreNews t s told → IsTold (happenings.Done m (acts.Removes x)) told → LiesAt (stand_of s) (between_of t s) x p → ((k y : ℕ) → t2.gone k y ≡ grown m x t.gone k y) → Parted t s → PartedThen (LayOn s) t t2 after
apart_removed t t2 s after told m x p h goes news is lies more parted = told_gone t t2 s after told m x p h goes news is (removes_loses m x) lies more parted

-- or gets another id
pub apart_replaced : (t t2 : Trace) (s after : LineState) (told : List Happening) (m x now : ℕ) (p : Spot) → Holds s → Goes s after told → AreNews t s told → IsTold (happenings.Done m (acts.Replaces x now)) told → LiesAt (stand_of s) (between_of t s) x p → ((k y : ℕ) → t2.gone k y ≡ grown m x t.gone k y) → Parted t s → PartedThen (LayOn s) t t2 after
apart_replaced t t2 s after told m x now p h goes news is lies more parted = told_gone t t2 s after told m x p h goes news is (replaces_loses m x now) lies more parted

-- or is taken out of a gap
pub single_by : (has : Bool) (x : ℕ) (board : Board) → has_id x board ≡ has → 1 ≤ counted x (board ∷ []) → 1 ≤ cond has 1 0
single_by true x board is some = omega arith
single_by false x board is some =
    let none : 1 ≤ 0 = rw is at some in
    absurd (omega (arith, none))

pub taken_count : (x : ℕ) (lies old new : List Board) (board : Board) → lies ≡ board ∷ [] → 1 ≤ counted x lies → LosesBoard old new board → counted x new + 1 ≤ counted x old
taken_count x lies old new board is some loss =
    let own : 1 ≤ counted x (board ∷ []) = rw is at some in
    let less = lost_with x loss.front loss.back board (has_id x board) refl in
    rw (loss.before, loss.after) (omega (arith, less, single_by (has_id x board) x board refl own))

pub apart_taken : (t t2 : Trace) (s after : LineState) (told : List Happening) (gap x : ℕ) → Holds s → Goes s after told → AreNews t s told → floor_move gap moves.Take s.world.floor ≡ Ok after.world.floor → LiesIn x (gap_at s.world.floor gap).lies → ((k y : ℕ) → t2.gone k y ≡ grown gap x t.gone k y) → Parted t s → PartedThen (LayOn s) t t2 after
apart_taken t t2 s after told gap x h goes news done lies more parted =
    let taken = keeps_boards gap moves.Take s.world.floor after.world.floor h.whole done in
    let fewer = taken_count x (boards_in (gap_at s.world.floor gap).lies) (boards_of s) (boards_of after) taken.0 taken.1 (lies_counted (lies_in_gap lies)) taken.2 in
    let most = h.differ.once x in
    apart_gone t t2 s after told gap x h goes news (omega (arith, fewer)) (omega (arith, fewer, most)) more parted
