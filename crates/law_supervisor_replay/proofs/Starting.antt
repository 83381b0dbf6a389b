-- What the announcements at the end of a machine's step say of a board: nothing, but that the
-- machine may start it.
use Rattle.std.proofs.Common.{
  ap,
  eq-eqb,
  false,
  if◌then◌else◌,
  inl,
  inr,
  ne_eqb,
  refl,
  sym,
  true,
  Bool,
  List,
  Option,
  [],
  arith,
  ℕ,
  ◌&&◌,
  ◌+◌,
  ◌++◌,
  ◌==◌,
  ◌∙◌,
  ◌∷◌,
  ◌≡◌,
  ◌≢◌,
  ◌⊎◌,
}
use Rattle.line_step.proofs.WithTells.{tells_append}
use Rattle.law_one_standing.proofs.Behind.{before_apart}
use Rattle.line_base.specs.declared.states.Seen.{Seen}
use Rattle.line_base.specs.declared.states.Seen.TheVariants as sees
use Rattle.handover_in.specs.State.{own_of_phase}
use Rattle.handover_in.specs.declared.phase.Phase.{Phase as InPhase}
use Rattle.handover_in.specs.declared.phase.Phase.TheVariants as inn
use Rattle.node_core.specs.Desk.{Desk}
use Rattle.node_core.specs.Own.{Own, own_of}
use Rattle.node_core.specs.Supervising.{watch_after, watch_behind, with_tells}
use Rattle.node_core.specs.declared.act.Act.{Act}
use Rattle.node_core.specs.declared.act.Act.TheVariants as acts
use Rattle.node_core.specs.declared.act.Deed.TheVariants as deeds
use Rattle.node_core.specs.declared.lane.Body.{Body}
use Rattle.node_core.specs.declared.supervising.Watch.{Watch}
use Rattle.standings.specs.Marks.{has_id, is_held}
use Rattle.law_history.proofs.Stepping.{IsJustStarted}
use Rattle.law_supervisor_replay.specs.Replay.{Told}
use Rattle.law_supervisor_replay.proofs.Since.{since_by_deed}
use Rattle.law_supervisor_replay.proofs.Bodies.{
  holds_it,
  is_gone_own,
  keeps_it,
  left_acts,
  takes_it,
  told_acts,
}
use Rattle.law_supervisor_replay.proofs.Course.{
  Announced,
  Started,
  are_aside,
  aside_quiet,
  seen_of,
  starts_none,
  starts_one,
}
use Rattle.law_supervisor_replay.proofs.Tells.{
  left_append,
  quiet_left,
  quiet_tells,
  quiet_told,
  told_append,
}
use Rattle.law_supervisor_replay.proofs.Views.{
  IsApart,
  IsFrom,
  IsSame,
  IsStarted,
  View,
  put,
  with_here,
}

-- ---- the acts

pub none_said : (test : Bool) → ◌≡◌ {A = List Act} (if test then [] else []) []
none_said true = refl
none_said false = refl

start_tells : (desk : Desk) (watch : Watch) (id : ℕ) (more : List Act) → are_aside more ≡ true
    → with_tells desk watch (acts.Deed (deeds.Starts id) ∷ more)
    ≡ acts.Deed (deeds.Starts id) ∷ more
start_tells desk watch id more aside =
    let start : Act = acts.Deed (deeds.Starts id) in
    let next : Watch = watch_after watch start in
    ap (λ (xs : List Act). start ∷ (xs ++ with_tells desk next more)) (none_said watch.supervised)
    ∙ ap (λ (xs : List Act). start ∷ xs) (quiet_tells desk next more (aside_quiet more aside))

-- the supervisor is told nothing
pub said_as : {own end : Own} {was now : Option Seen} {i : InPhase} {made : List Act} (desk : Desk)
    (watch : Watch) → Announced own end was now i made → with_tells desk watch made ≡ made
said_as {made = made} desk watch (starts_none aside same seen) =
    quiet_tells desk watch made (aside_quiet made aside)
said_as {made = made} desk watch (starts_one s) =
    let start : List Act = acts.Deed (deeds.Starts s.id) ∷ s.after in
    ap (with_tells desk watch) s.made_is
    ∙ tells_append desk watch s.before start
    ∙ ap (λ (xs : List Act). xs ++ with_tells desk (watch_behind watch s.before) start)
    (quiet_tells desk watch s.before (aside_quiet s.before s.quiet))
    ∙ ap (λ (xs : List Act). s.before ++ xs)
    (start_tells desk (watch_behind watch s.before) s.id s.after s.silent)
    ∙ sym s.made_is

pub said_told : {own end : Own} {was now : Option Seen} {i : InPhase} {made : List Act}
    (id machine : ℕ) (told : Told) → Announced own end was now i made
    → told_acts id machine made told ≡ told
said_told {made = made} id machine told (starts_none aside same seen) =
    quiet_told id machine made told (aside_quiet made aside)
said_told id machine told (starts_one s) =
    let start : List Act = acts.Deed (deeds.Starts s.id) ∷ s.after in
    ap (λ (xs : List Act). told_acts id machine xs told) s.made_is
    ∙ told_append id machine s.before start told
    ∙ ap (told_acts id machine start)
    (quiet_told id machine s.before told (aside_quiet s.before s.quiet))
    ∙ quiet_told id machine s.after told (aside_quiet s.after s.silent)

start_left : {own end : Own} {was : Option Seen} {i : InPhase} {made : List Act}
    (gap id machine : ℕ) (left : Bool) (s : Started own end was i made)
    → left_acts gap id machine made left ≡ since_by_deed gap id machine (deeds.Starts s.id) left
start_left gap id machine left s =
    let start : List Act = acts.Deed (deeds.Starts s.id) ∷ s.after in
    ap (λ (xs : List Act). left_acts gap id machine xs left) s.made_is
    ∙ left_append gap id machine s.before start left
    ∙ ap (left_acts gap id machine start)
    (quiet_left gap id machine s.before left (aside_quiet s.before s.quiet))
    ∙ quiet_left gap id machine s.after (since_by_deed gap id machine (deeds.Starts s.id) left)
    (aside_quiet s.after s.silent)

-- no record moves but what a start takes
pub said_kept : {own end : Own} {was now : Option Seen} {i : InPhase} {made : List Act}
    → Announced own end was now i made → end.kept ≡ own.kept
said_kept (starts_none aside same seen) = ap (λ (o : Own). o.kept) same
said_kept (starts_one s) = s.kept

pub said_held : {own end : Own} {was now : Option Seen} {i : InPhase} {made : List Act}
    → Announced own end was now i made → end.held ≡ own.held
said_held (starts_none aside same seen) = ap (λ (o : Own). o.held) same
said_held (starts_one s) = s.held

-- what the intake holds behind them, where it held nothing of it before
pub said_free : {own end : Own} {was now : Option Seen} {i : InPhase} {made : List Act} (id : ℕ)
    → Announced own end was now i made → is_held id own.taking ≡ false
    → (is_held id end.taking ≡ false) ⊎ IsJustStarted i
said_free id (starts_none aside same seen) free =
    inl (ap (λ (o : Own). is_held id o.taking) same ∙ free)
said_free id (starts_one s) free = inr s.just

-- ---- the views

-- the view with what this machine has behind the step, which has read all events
abbrev pub view_then : ℕ → ℕ → Body → Bool → View → View
view_then id j now off v =
    with_here (j + 1) (keeps_it id now) (holds_it id now) (takes_it id now)
    (is_gone_own (own_of_phase now.intake.phase)) off v

pub put_here : (machine : ℕ) (here : Bool) (others : ℕ → Bool)
    → put machine here others machine ≡ here
put_here machine here others =
    ap (λ (b : Bool). if b then here else others machine) (eq-eqb machine machine refl)

pub put_there : (machine : ℕ) (here : Bool) (others : ℕ → Bool) (i : ℕ) → i ≢ machine
    → put machine here others i ≡ others i
put_there machine here others i other =
    ap (λ (b : Bool). if b then here else others i) (ne_eqb i machine other)

pub then_apart : (id j : ℕ) (now : Body) (off : Bool) (v : View)
    → IsApart j v (view_then id j now off v)
then_apart id j now off v = record {
  kept = put_there (j + 1) (keeps_it id now) v.kept;
  held = put_there (j + 1) (holds_it id now) v.held;
  taken = put_there (j + 1) (takes_it id now) v.taken;
  leaving = put_there (j + 1) false v.leaving;
  missing = put_there (j + 1) (is_gone_own (own_of_phase now.intake.phase)) v.missing;
  read = put_here (j + 1) false v.leaving;
}

-- ---- THE END OF A STEP

abbrev pub Ends : ℕ → ℕ → View → Bool → Body → Body → (ℕ → Bool) → (ℕ → Bool) → Type 0
Ends id j v off two now front last =
    (IsSame (view_then id j two off v) (view_then id j now off v)
    × ((gap : ℕ) → last gap ≡ front gap))
    ⊎ (IsStarted j (view_then id j two off v) (view_then id j now off v) front last
    × IsJustStarted now.intake.phase)

just_stays : (i : InPhase) → IsJustStarted i → is_gone_own (own_of_phase i) ≡ false
just_stays inn.Idle just = absurd just
just_stays (inn.Taking _ sees.NotStarted _) just = refl
just_stays (inn.Taking _ sees.Incomplete _) just = absurd just
just_stays (inn.Taking _ sees.Complete _) just = absurd just
just_stays (inn.Taking _ sees.Taken _) just = absurd just
just_stays (inn.Stopped _ _ _) just = absurd just
just_stays (inn.Waiting _ _ _) just = absurd just

same_then : (id j : ℕ) (v : View) (off : Bool) (two now : Body)
    → keeps_it id now ≡ keeps_it id two
    → holds_it id now ≡ holds_it id two → takes_it id now ≡ takes_it id two
    → is_gone_own (seen_of now) ≡ is_gone_own (seen_of two)
    → IsSame (view_then id j two off v) (view_then id j now off v)
same_then id j v off two now kept held taken gone = record {
  kept = λ i. ap (λ (b : Bool). put (j + 1) b v.kept i) kept;
  held = λ i. ap (λ (b : Bool). put (j + 1) b v.held i) held;
  taken = λ i. ap (λ (b : Bool). put (j + 1) b v.taken i) taken;
  leaving = λ i. refl;
  missing = λ i. ap (λ (b : Bool). put (j + 1) b v.missing i) gone;
  off = refl;
}

next_gap : (i j : ℕ) → i ≢ j → j + 1 ≢ i + 1
next_gap i j other same = other (omega (arith, same))

-- the machine above is as it was
from_then : (id j : ℕ) (v : View) (off : Bool) (two : Body) → IsFrom j v off
    → IsFrom j (view_then id j two off v) off
from_then id j v off two (inl kept) =
    inl (put_there (j + 1) (keeps_it id two) v.kept j (before_apart j) ∙ kept)
from_then id j v off two (inr (inl held)) =
    inr (inl (put_there (j + 1) (holds_it id two) v.held j (before_apart j) ∙ held))
from_then id j v off two (inr (inr gone)) = inr (inr gone)

cleared : (a b left : Bool) → a ≡ true → b ≡ true → (if a && b then false else left) ≡ false
cleared true true left one two = refl
cleared true false left one two = absurd (let h : false ≡ true = two in cc)
cleared false b left one two = absurd (let h : false ≡ true = one in cc)

not_first : (a b left : Bool) → a ≡ false → (if a && b then false else left) ≡ left
not_first false b left is = refl
not_first true b left is = absurd (let h : true ≡ false = is in cc)

not_second : (a b left : Bool) → b ≡ false → (if a && b then false else left) ≡ left
not_second a true left is = absurd (let h : true ≡ false = is in cc)
not_second true false left is = refl
not_second false false left is = refl

-- the machine starts this board
start_ends : {made : List Act} (id j : ℕ) (v : View) (off : Bool) (two now : Body)
    (front last : ℕ
    → Bool) (s : Started (own_of two) (own_of now) (seen_of two) now.intake.phase made)
    → (takes_it id now ≡ true → IsJustStarted now.intake.phase → v.held j ≡ true → off ≡ false)
    → (takes_it id now ≡ true → IsJustStarted now.intake.phase → IsFrom j v off)
    → ((gap : ℕ) → last gap ≡ left_acts gap id (j + 1) made (front gap)) → (s.id == id) ≡ true
    → IsStarted j (view_then id j two off v) (view_then id j now off v) front last
start_ends id j v off two now front last s there from left is =
    let taken : takes_it id now ≡ true = ap (is_held id) s.takes ∙ is in record {
      none = put_here (j + 1) (takes_it id two) v.taken ∙ ap (is_held id) s.free;
      taken = put_here (j + 1) (takes_it id now) v.taken ∙ taken;
      others = λ i other. put_there (j + 1) (takes_it id now) v.taken i other
          ∙ sym (put_there (j + 1) (takes_it id two) v.taken i other);
      kept = λ i. ap (λ (ids : List ℕ). put (j + 1) (has_id id ids) v.kept i) s.kept;
      held = λ i. ap (λ (one : Option ℕ). put (j + 1) (is_held id one) v.held i) s.held;
      leaving = λ i. refl;
      missing = λ i other. put_there (j + 1) (is_gone_own (seen_of now)) v.missing i other
          ∙ sym (put_there (j + 1) (is_gone_own (seen_of two)) v.missing i other);
      off = refl;
      there = λ held.
          there taken s.just
          (sym (put_there (j + 1) (holds_it id two) v.held j (before_apart j)) ∙ held);
      from = from_then id j v off two (from taken s.just);
      cleared = record {
        here = left j ∙ start_left j id (j + 1) (front j) s
            ∙ cleared (j + 1 == j + 1) (s.id == id) (front j) (eq-eqb (j + 1) (j + 1) refl) is;
        there = λ i other. left i ∙ start_left i id (j + 1) (front i) s
            ∙ not_first (j + 1 == i + 1) (s.id == id) (front i)
            (ne_eqb (j + 1) (i + 1) (next_gap i j other));
      };
    }

-- another
other_ends : {made : List Act} (id j : ℕ) (v : View) (off : Bool) (two now : Body)
    (front last : ℕ
    → Bool) (s : Started (own_of two) (own_of now) (seen_of two) now.intake.phase made)
    → ((gap : ℕ) → last gap ≡ left_acts gap id (j + 1) made (front gap)) → (s.id == id) ≡ false
    → IsSame (view_then id j two off v) (view_then id j now off v)
    × ((gap : ℕ) → last gap ≡ front gap)
other_ends id j v off two now front last s left is = (
  same_then id j v off two now (ap (has_id id) s.kept) (ap (is_held id) s.held)
      (ap (is_held id) s.takes ∙ is ∙ sym (ap (is_held id) s.free))
      (just_stays now.intake.phase s.just ∙ sym (ap is_gone_own s.none)),
  λ gap. left gap ∙ start_left gap id (j + 1) (front gap) s
      ∙ not_second (j + 1 == gap + 1) (s.id == id) (front gap) is,
)

pub said_ends : {made : List Act} (id j : ℕ) (v : View) (off : Bool) (two now : Body)
    (front last : ℕ → Bool)
    → Announced (own_of two) (own_of now) (seen_of two) (seen_of now) now.intake.phase made
    → (takes_it id now ≡ true → IsJustStarted now.intake.phase → v.held j ≡ true → off ≡ false)
    → (takes_it id now ≡ true → IsJustStarted now.intake.phase → IsFrom j v off)
    → ((gap : ℕ) → last gap ≡ left_acts gap id (j + 1) made (front gap))
    → Ends id j v off two now front last
said_ends {made = made} id j v off two now front last (starts_none aside same seen) there from
    left =
    inl (
      same_then id j v off two now (ap (λ (o : Own). has_id id o.kept) same)
          (ap (λ (o : Own). is_held id o.held) same) (ap (λ (o : Own). is_held id o.taking) same)
          (ap is_gone_own seen),
      λ gap. left gap ∙ quiet_left gap id (j + 1) made (front gap) (aside_quiet made aside),
    )
said_ends id j v off two now front last (starts_one s) there from left =
    by_test (s.id == id) refl where
      by_test : (test : Bool) → (s.id == id) ≡ test → Ends id j v off two now front last
      by_test true is = inr (start_ends id j v off two now front last s there from left is, s.just)
      by_test false is = inl (other_ends id j v off two now front last s left is)
