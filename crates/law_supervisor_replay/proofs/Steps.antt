-- What becomes of a board in a machine's step, and what is told of it.
use Rattle.std.proofs.Common.{
  ap,
  append_assoc,
  false,
  inl,
  inr,
  is_some,
  refl,
  subst,
  sym,
  true,
  Bool,
  List,
  None,
  Option,
  Some,
  [],
  ℕ,
  ◌+◌,
  ◌++◌,
  ◌||◌,
  ◌∙◌,
  ◌≡◌,
  ◌⊎◌,
}
use Rattle.std.specs.List.{list_any}
use Rattle.std.proofs.lemmas.Bool.{false≢true}
use Rattle.std.proofs.lemmas.List.Folds.{list_any-append}
use Rattle.line_step.proofs.WithTells.{tells_append}
use Rattle.law_supervisor_replay.proofs.Hands.{middle}
use mathlib.Core.Bool.{or-false}
use Rattle.line_base.specs.declared.states.Seen.{Seen}
use Rattle.line_base.specs.declared.states.Side.TheVariants.{Entry}
use Rattle.board_record.specs.declared.record.Record.{Record}
use Rattle.board_record.specs.declared.sensed.Sensed.{Sensed}
use Rattle.handover_in.specs.State.{board_of_phase as held_in, own_of_phase}
use Rattle.handover_in.specs.declared.phase.Phase.{Phase as InPhase}
use Rattle.handover_in.specs.declared.phase.Phase.TheVariants as inn
use Rattle.node_core.specs.Announces.{announces}
use Rattle.node_core.specs.Desk.{Desk}
use Rattle.node_core.specs.Done.{Done, and_then, done}
use Rattle.node_core.specs.Event.{Event, event_did}
use Rattle.node_core.specs.Own.{Own, id_of, own_of}
use Rattle.node_core.specs.Reads.{all_read}
use Rattle.node_core.specs.Step.{plain_step}
use Rattle.node_core.specs.Supervising.{watch_behind, watch_of, with_tells}
use Rattle.node_core.specs.declared.act.Act.{Act}
use Rattle.node_core.specs.declared.lane.Body.{Body}
use Rattle.node_core.specs.declared.supervising.Watch.{Watch}
use Rattle.law_custody.specs.Floor.{
  EntryFloor,
}
use Rattle.law_custody.specs.Place.{Place, is_away, is_upstream}
use Rattle.law_custody.specs.Words.{events_at}
use Rattle.standings.specs.Ledger.{are_different}
use Rattle.standings.specs.Marks.{has_id, is_held}
use Rattle.law_history.proofs.OfferingStep.{IsNoHand}
use Rattle.law_history.proofs.Stepping.{IsJustStarted}
use Rattle.law_one_standing.proofs.LedgerSteps.{all_of}
use Rattle.law_supervisor_replay.specs.Replay.{Told, nothing_told}
use Rattle.law_supervisor_replay.proofs.Bodies.{
  IsBeside,
  IsHere,
  brings_in,
  holds_it,
  is_gone_own,
  keeps_it,
  left_acts,
  misses_it,
  takes_it,
  takes_out,
  told_acts,
}
use Rattle.law_supervisor_replay.proofs.Course.{
  Announced,
  IsSeen,
  announced,
  event_meets,
  said_none,
  seen_none,
  seen_of,
  seen_same,
}
use Rattle.law_supervisor_replay.proofs.Meeting.{floor_sees, met_fares}
use Rattle.law_supervisor_replay.proofs.Parts.{
  HasIt,
  HasNot,
  HasStill,
  MetFares,
  ReadFares,
  Says,
  has_not,
  has_still,
  met_missing,
  met_new,
  met_removed,
  met_settles,
  met_so,
  met_upstream,
  read_leaves,
  read_lost,
  read_missing,
  read_settles,
  read_so,
  read_upstream,
}
use Rattle.law_supervisor_replay.proofs.Places.{Apart, apart, still_both, still_it, still_not, held_untaken}
use Rattle.law_supervisor_replay.proofs.Reading.{Read, read_fares}
use Rattle.law_supervisor_replay.proofs.Silence.{
  Silent,
  met_nothing,
  read_nothing,
  reading,
  reading_left,
  reading_tells,
  reading_told,
}
pub use Rattle.law_supervisor_replay.proofs.Starting.{view_then}
use Rattle.law_supervisor_replay.proofs.Starting.{
  put_here,
  said_as,
  said_ends,
  said_free,
  said_held,
  said_kept,
  said_told,
  then_apart,
}
use Rattle.law_supervisor_replay.proofs.Tells.{
  quiet_in,
  quiet_out,
  left_append,
  left_then,
  says_both,
  told_append,
}
use Rattle.law_supervisor_replay.proofs.Views.{
  Fares,
  HasAsBefore,
  HasNone,
  IsApart,
  IsFrom,
  IsSame,
  IsStarted,
  TakesAsBefore,
  View,
  fares_leaves,
  fares_lost,
  fares_missing,
  fares_new,
  fares_removed,
  fares_settles,
  fares_so,
  fares_upstream,
  has_none,
  kept_or_held,
}

-- ---- THE STEP

-- the board fares so; and the step may start it at its end
pub record StepFares (id j : ℕ) (v : View) (told : Told) (left : ℕ
    → Bool) (all : List Act) (now : Body) (off : Bool) : Type 0 where
  pub one : View
  pub told2 : Told
  pub left2 : ℕ → Bool
  pub apart : IsApart j v one
  pub fares : Fares j v one told told2 left left2
  pub told_is : told_acts id (j + 1) all told ≡ told2
  pub ends : (IsSame one (view_then id j now off v)
      × ((gap : ℕ) → left_acts gap id (j + 1) all (left gap) ≡ left2 gap))
      ⊎ (IsStarted j one (view_then id j now off v) left2 (λ gap.
      left_acts gap id (j + 1) all (left gap)) × IsJustStarted now.intake.phase)

-- ---- what is known around it, before the announcements

-- between the body before the step and that behind the event
record Around (id j : ℕ) (unread : List Sensed) (place : Place) (v : View) (told : Told) (left : ℕ
    → Bool) (body two : Body) (met : List Act) (off : Bool) : Type 0 where
  ids : Apart id body
  here : IsHere id j body unread v
  missing : takes_it id body ≡ true → takes_it id two ≡ true
      → is_gone_own (seen_of two) ≡ misses_it body unread
  hand : list_any (takes_out id) met ≡ true → keeps_it id body ≡ true
  upstream : is_upstream place ≡ true → v.taken (j + 1) ≡ true
      → (v.missing (j + 1) ≡ false)
      × ((v.held j ≡ true → v.leaving j ≡ false)
      × (v.held j ≡ false → v.off ≡ false → v.kept j ≡ true))
  away : is_away place ≡ true → v.taken (j + 1) ≡ true → v.missing (j + 1) ≡ true
  alone : v.taken (j + 1) ≡ true → takes_it id two ≡ false → HasIt id two
      → (v.kept j ≡ false) × ((v.held j ≡ false) × (off ≡ false))
  new : list_any (brings_in id) met ≡ true
      → (told ≡ nothing_told)
      × (((i : ℕ) → left i ≡ false)
      × (((i : ℕ) → v.kept i ≡ false)
      × (((i : ℕ) → v.held i ≡ false) × ((i : ℕ) → v.taken i ≡ false))))
  out : list_any (takes_out id) met ≡ true → off ≡ true
  still : list_any (takes_out id) met ≡ false → list_any (brings_in id) met ≡ false → off ≡ v.off

then_it : (id j : ℕ) (two : Body) (off : Bool) (v : View) → HasIt id two
    → ((view_then id j two off v).kept (j + 1) ≡ true) ⊎ ((view_then id j two off v).held (j + 1)
    ≡ true)
then_it id j two off v (inl kept) = inl (put_here (j + 1) (keeps_it id two) v.kept ∙ kept)
then_it id j two off v (inr held) = inr (put_here (j + 1) (holds_it id two) v.held ∙ held)

then_none : (id j : ℕ) (two : Body) (off : Bool) (v : View) → HasNot id two
    → HasNone j (view_then id j two off v)
then_none id j two off v none = record {
  kept = put_here (j + 1) (keeps_it id two) v.kept ∙ none.kept;
  held = put_here (j + 1) (holds_it id two) v.held ∙ none.held;
}

then_taken : (id j : ℕ) (two : Body) (off : Bool) (v : View) {is : Bool} → takes_it id two ≡ is
    → (view_then id j two off v).taken (j + 1) ≡ is
then_taken id j two off v is = put_here (j + 1) (takes_it id two) v.taken ∙ is

here_it : {id j : ℕ} {unread : List Sensed} {body : Body} {v : View} → IsHere id j body unread v
    → HasIt id body → (v.kept (j + 1) ≡ true) ⊎ (v.held (j + 1) ≡ true)
here_it here (inl kept) = inl (here.kept ∙ kept)
here_it here (inr held) = inr (here.held ∙ held)

has_then : {id j : ℕ} {unread : List Sensed} {body : Body} {v : View} (two : Body)
    (off : Bool)
    → IsHere id j body unread v → HasStill id body two → HasAsBefore j v (view_then id j two off v)
has_then {id = id} {j = j} {v = v} two off here (has_not a b) =
    let none : HasNone j (view_then id j two off v) = then_none id j two off v b in
    has_none (here.kept ∙ a.kept) (here.held ∙ a.held) none.kept none.held
has_then {id = id} {j = j} {v = v} two off here (has_still a b) =
    kept_or_held (here_it here a) (then_it id j two off v b)

takes_then : {id j : ℕ} {unread : List Sensed} {place : Place} {v : View} {told : Told}
    {left : ℕ → Bool} {body two : Body} {met : List Act} {off : Bool}
    → Around id j unread place v told left body two met off → takes_it id two ≡ takes_it id body
    → TakesAsBefore j v (view_then id j two off v)
takes_then {id = id} {j = j} {v = v} {two = two} {off = off} a same = record {
  taken = then_taken id j two off v (same ∙ sym a.here.taken);
  missing = λ is. put_here (j + 1) (is_gone_own (seen_of two)) v.missing
      ∙ a.missing (sym a.here.taken ∙ is) (same ∙ sym a.here.taken ∙ is) ∙ sym a.here.missing;
}

-- ---- what is read and what is met, together

-- the board fares so behind both
abbrev Both : ℕ → ℕ → View → Body → Bool → Told → (ℕ → Bool) → List Act → Type 0
Both id j v two off told left all =
    Fares j v (view_then id j two off v) told (told_acts id (j + 1) all told) left
    (λ gap. left_acts gap id (j + 1) all (left gap))

-- nothing of it is read
read_so_fares : {id j : ℕ} {unread : List Sensed} {place : Place} {v : View} {told : Told}
    {left : ℕ → Bool} {body one two : Body} {met first second : List Act} {off : Bool}
    → Around id j unread place v told left body two met off
    → HasStill id body one → takes_it id one ≡ takes_it id body → Says id j first (λ told. told)
    → MetFares id j place one two met second → Both id j v two off told left (first ++ second)
read_so_fares {id = id} {j = j} {told = told} {left = left} {two = two} {first = first}
    {second = second} {off = off} a hs ts sa (met_so h t s out in_hand) =
    let both = says_both id j first second sa s in
    fares_so (has_then two off a.here (still_both hs h)) (takes_then a (t ∙ ts))
    (a.still out in_hand)
    (both.told told) (λ gap. both.left gap (left gap))
read_so_fares {id = id} {j = j} {v = v} {told = told} {left = left} {two = two} {first = first}
    {second = second} {off = off} a hs ts sa (met_settles t u it s out in_hand) =
    let both = says_both id j first second sa s in
    let taken : v.taken (j + 1) ≡ true = a.here.taken ∙ sym ts ∙ t in
    let alone = a.alone taken u it in
    let same = a.still out in_hand in
    fares_settles taken alone.0 alone.1.0 (sym same ∙ alone.1.1) (then_taken id j two off v u)
    (then_it id j two off v it) same (both.told told) (λ gap. both.left gap (left gap))
read_so_fares {id = id} {j = j} {v = v} {told = told} {left = left} {two = two} {first = first}
    {second = second} {off = off} a hs ts sa (met_missing t u away h s out in_hand) =
    let both = says_both id j first second sa s in
    let taken : v.taken (j + 1) ≡ true = a.here.taken ∙ sym ts ∙ t in
    fares_missing taken (a.away away taken) (has_then two off a.here (still_both hs h))
    (then_taken id j two off v u) (a.still out in_hand) (both.told told) (λ gap.
    both.left gap (left gap))
read_so_fares {id = id} {j = j} {v = v} {told = told} {left = left} {two = two} {first = first}
    {second = second} {off = off} a hs ts sa (met_upstream t u up h s out in_hand) =
    let both = says_both id j first second sa s in
    let taken : v.taken (j + 1) ≡ true = a.here.taken ∙ sym ts ∙ t in
    let above = a.upstream up taken in
    fares_upstream taken above.0 above.1.0 above.1.1 (has_then two off a.here (still_both hs h))
    (then_taken id j two off v u) (a.still out in_hand) (both.told told) (λ gap.
    both.left gap (left gap))
read_so_fares {id = id} {j = j} {v = v} {told = told} {left = left} {two = two} {first = first}
    {second = second} {off = off} a hs ts sa (met_new brings kept same s) =
    let both = says_both id j first second sa s in
    let new = a.new brings in
    fares_new new.0 new.1.0 new.1.1.0 new.1.1.1.0 new.1.1.1.1
    (put_here (j + 1) (keeps_it id two) v.kept ∙ kept)
    (then_taken id j two off v (same ∙ ts ∙ sym a.here.taken ∙ new.1.1.1.1 (j + 1)))
    (both.told told) (λ gap. both.left gap (left gap))
read_so_fares {id = id} {j = j} {v = v} {told = told} {left = left} {two = two} {first = first}
    {second = second} {off = off} a hs ts sa (met_removed goes kept none same s) =
    let both = says_both id j first second sa s in
    fares_removed (a.here.kept ∙ a.hand goes) (then_none id j two off v none)
    (takes_then a (same ∙ ts))
    (a.out goes) (both.told told) (λ gap. both.left gap (left gap))

-- behind anything else that was read nothing of it is met
record MetSo (id j : ℕ) (one two : Body) (met all : List Act) : Type 0 where
  still : HasStill id one two
  taken : takes_it id two ≡ takes_it id one
  says : Says id j all (λ told. told)
  out : list_any (takes_out id) met ≡ false
  coming : list_any (brings_in id) met ≡ false

must_so : {id j : ℕ} {place : Place} {one two : Body} {met all : List Act}
    → takes_it id one ≡ false → (list_any (takes_out id) met ≡ true → ⊥)
    → (list_any (brings_in id) met ≡ true → ⊥) → MetFares id j place one two met all
    → MetSo id j one two met all
must_so free no_out no_in (met_so h t s out in_hand) =
    record { still = h; taken = t; says = s; out = out; coming = in_hand }
must_so free no_out no_in (met_settles t _ _ _ _ _) = absurd (false≢true (sym free ∙ t))
must_so free no_out no_in (met_missing t _ _ _ _ _ _) = absurd (false≢true (sym free ∙ t))
must_so free no_out no_in (met_upstream t _ _ _ _ _ _) = absurd (false≢true (sym free ∙ t))
must_so free no_out no_in (met_new brings _ _ _) = absurd (no_in brings)
must_so free no_out no_in (met_removed goes _ _ _ _) = absurd (no_out goes)

-- its outlet held it, or its intake
held_so : {id j : ℕ} {unread : List Sensed} {place : Place} {v : View} {told : Told}
    {left : ℕ → Bool} {body one two : Body} {met all : List Act} {off : Bool}
    → Around id j unread place v told left body two met off → holds_it id body ≡ true
    → takes_it id one ≡ takes_it id body → MetFares id j place one two met all
    → MetSo id j one two met all
held_so {j = j} a held same =
    must_so (same ∙ held_untaken a.ids held)
    (λ goes. false≢true (sym (a.ids.held held) ∙ a.hand goes))
    (λ brings. false≢true (sym ((a.new brings).1.1.1.0 (j + 1)) ∙ a.here.held ∙ held))

taken_so : {id j : ℕ} {unread : List Sensed} {place : Place} {v : View} {told : Told}
    {left : ℕ → Bool} {body one two : Body} {met all : List Act} {off : Bool}
    → Around id j unread place v told left body two met off → takes_it id body ≡ true
    → takes_it id one ≡ false → MetFares id j place one two met all → MetSo id j one two met all
taken_so {j = j} a taken free =
    must_so free
    (λ goes. false≢true (sym (a.ids.taking taken).kept ∙ a.hand goes))
    (λ brings. false≢true (sym ((a.new brings).1.1.1.1 (j + 1)) ∙ a.here.taken ∙ taken))

both_fare : {id j : ℕ} {unread : List Sensed} {place : Place} {v : View} {told : Told}
    {left : ℕ → Bool} {body one two : Body} {met first second : List Act} {off : Bool}
    → Around id j unread place v told left body two met off
    → ReadFares id j unread place body one first → MetFares id j place one two met second
    → Both id j v two off told left (first ++ second)
both_fare a (read_so h t s) m = read_so_fares a h t s m
both_fare {id = id} {j = j} {v = v} {told = told} {left = left} {two = two} {first = first}
    {second = second} {off = off} a (read_leaves held will none t s) m =
    let so = held_so a held t m in
    let both = left_then id j first second s so.says in
    fares_leaves (a.here.held ∙ held) (a.here.leaving ∙ will)
    (then_none id j two off v (still_not none so.still)) (takes_then a (so.taken ∙ t))
    (a.still so.out so.coming)
    (both.told told)
    (record {
      here = both.left (left (j + 1));
      there = λ gap other.
          both.others gap (left gap) other;
    })
both_fare {id = id} {j = j} {v = v} {told = told} {left = left} {two = two} {first = first}
    {second = second} {off = off} a (read_lost held none t s) m =
    let so = held_so a held t m in
    let both = says_both id j first second s so.says in
    fares_lost (a.here.held ∙ held) (then_none id j two off v (still_not none so.still))
    (takes_then a (so.taken ∙ t)) (a.still so.out so.coming) (both.told told) (λ gap.
    both.left gap (left gap))
both_fare {id = id} {j = j} {v = v} {told = told} {left = left} {two = two} {first = first}
    {second = second} {off = off} a (read_settles t u it s) m =
    let so = taken_so a t u m in
    let both = says_both id j first second s so.says in
    let taken : v.taken (j + 1) ≡ true = a.here.taken ∙ t in
    let has = still_it it so.still in
    let alone = a.alone taken (so.taken ∙ u) has in
    let same = a.still so.out so.coming in
    fares_settles taken alone.0 alone.1.0 (sym same ∙ alone.1.1)
    (then_taken id j two off v (so.taken ∙ u)) (then_it id j two off v has) same
    (both.told told) (λ gap. both.left gap (left gap))
both_fare {id = id} {j = j} {v = v} {told = told} {left = left} {two = two} {first = first}
    {second = second} {off = off} a (read_missing t u away h s) m =
    let so = taken_so a t u m in
    let both = says_both id j first second s so.says in
    let taken : v.taken (j + 1) ≡ true = a.here.taken ∙ t in
    fares_missing taken (a.away away taken) (has_then two off a.here (still_both h so.still))
    (then_taken id j two off v (so.taken ∙ u)) (a.still so.out so.coming) (both.told told) (λ gap.
    both.left gap (left gap))
both_fare {id = id} {j = j} {v = v} {told = told} {left = left} {two = two} {first = first}
    {second = second} {off = off} a (read_upstream t u up h s) m =
    let so = taken_so a t u m in
    let both = says_both id j first second s so.says in
    let taken : v.taken (j + 1) ≡ true = a.here.taken ∙ t in
    let above = a.upstream up taken in
    fares_upstream taken above.0 above.1.0 above.1.1
    (has_then two off a.here (still_both h so.still))
    (then_taken id j two off v (so.taken ∙ u)) (a.still so.out so.coming) (both.told told) (λ gap.
    both.left gap (left gap))

-- ---- what the entry knows of a board that was taken out

id_some : (id : ℕ) (one : Option Record) → is_held id (id_of one) ≡ true → is_some one ≡ true
id_some id None is = is
id_some id (Some board) is = refl

-- an intake of whose board nothing is seen holds none
none_seen : (id : ℕ) (i : InPhase) → own_of_phase i ≡ None → is_held id (id_of (held_in i)) ≡ false
none_seen id inn.Idle none = refl
none_seen id (inn.Taking _ own _) none = absurd (let h : Some own ≡ None = none in cc)
none_seen id (inn.Stopped _ own _) none = absurd (let h : Some own ≡ None = none in cc)
none_seen id (inn.Waiting _ own _) none = absurd (let h : Some own ≡ None = none in cc)

-- an event changes nothing of it, where the intake holds the board still
seen_by : {a b : Option Seen} → IsSeen a b → (b ≡ None → ⊥) → b ≡ a
seen_by seen_same some = refl
seen_by seen_none some = absurd (some refl)

held_seen : (id : ℕ) (one two : Body) → IsSeen (seen_of one) (seen_of two)
    → takes_it id two ≡ true → seen_of two ≡ seen_of one
held_seen id one two seen taken =
    seen_by seen (λ none. false≢true (sym (none_seen id two.intake.phase none) ∙ taken))

-- an intake that holds nothing takes nothing
taken_one : (id : ℕ) (one two : Body) → IsSeen (seen_of one) (seen_of two)
    → takes_it id two ≡ true → is_some (held_in one.intake.phase) ≡ true
taken_one id one two seen taken = by_phase one.intake.phase (held_seen id one two seen taken) where
  by_phase : (i : InPhase) → seen_of two ≡ own_of_phase i → is_some (held_in i) ≡ true
  by_phase inn.Idle same = absurd (false≢true (sym (none_seen id two.intake.phase same) ∙ taken))
  by_phase (inn.Taking _ _ _) same = refl
  by_phase (inn.Stopped _ _ _) same = refl
  by_phase (inn.Waiting _ _ _) same = refl

missing_is : {place : Place} {board : Record} {drive : Bool} (id : ℕ) (unread : List Sensed)
    (body one two : Body)
    → EntryFloor body.intake.phase (events_at Entry unread) drive place board
    → (is_some (held_in one.intake.phase) ≡ true → (on : Bool)
    × EntryFloor one.intake.phase [] on place board)
    → IsSeen (seen_of one) (seen_of two) → takes_it id body ≡ true → takes_it id two ≡ true
    → is_gone_own (seen_of two) ≡ misses_it body unread
missing_is id unread body one two before floor seen was taken =
    let holds : is_some (held_in one.intake.phase) ≡ true = taken_one id one two seen taken in
    ap is_gone_own (held_seen id one two seen taken)
    ∙ sym (or-false (is_gone_own (seen_of one)))
    ∙ floor_sees (floor holds).1 holds
    ∙ sym (floor_sees before (id_some id (held_in body.intake.phase) was))

-- ---- what goes by hand in the whole step goes in the event

middle_any : (p : Act → Bool) (read met said : List Act) → list_any p read ≡ false
    → list_any p said ≡ false → list_any p (read ++ (met ++ said)) ≡ list_any p met
middle_any p read met said one two =
    list_any-append p read (met ++ said)
    ∙ ap (λ (b : Bool). list_any p read || b) (list_any-append p met said)
    ∙ middle (list_any p read) (list_any p met) (list_any p said) one two

-- ---- the acts of the step, with what is told

step_tells : (desk : Desk) (watch next : Watch) (read met said : List Act)
    → watch_behind watch read ≡ next
    → ((w : Watch) → with_tells desk w said ≡ said)
    → with_tells desk watch (read ++ (met ++ said))
    ≡ (with_tells desk watch read ++ with_tells desk next met) ++ said
step_tells desk watch next read met said same last =
    let front : List Act = with_tells desk watch read in
    tells_append desk watch read (met ++ said)
    ∙ ap (λ (w : Watch). front ++ with_tells desk w (met ++ said)) same
    ∙ ap (λ (xs : List Act). front ++ xs) (tells_append desk next met said)
    ∙ ap (λ (xs : List Act). front ++ (with_tells desk next met ++ xs))
    (last (watch_behind next met))
    ∙ sym (append_assoc front (with_tells desk next met) said)

-- what becomes of it before the announcements, and then with them
step_ends : {id j : ℕ} {v : View} {told : Told} {left : ℕ → Bool} {off : Bool} (two now : Body)
    (front said all : List Act)
    → Both id j v two off told left front
    → Announced (own_of two) (own_of now) (seen_of two) (seen_of now) now.intake.phase said
    → all ≡ front ++ said
    → (takes_it id now ≡ true → IsJustStarted now.intake.phase → v.held j ≡ true → off ≡ false)
    → (takes_it id now ≡ true → IsJustStarted now.intake.phase → IsFrom j v off)
    → StepFares id j v told left all now off
step_ends {id = id} {j = j} {v = v} {told = told} {left = left} {off = off} two now front said all
    fares says is there from =
    let left2 : ℕ → Bool = λ gap. left_acts gap id (j + 1) front (left gap) in record {
      one = view_then id j two off v;
      told2 = told_acts id (j + 1) front told;
      left2 = left2;
      apart = then_apart id j two off v;
      fares = fares;
      told_is = ap (λ (xs : List Act). told_acts id (j + 1) xs told) is
          ∙ told_append id (j + 1) front said told
          ∙ said_told id (j + 1) (told_acts id (j + 1) front told) says;
      ends = said_ends id j v off two now left2 (λ gap.
          left_acts gap id (j + 1) all (left gap)) says there from
          (λ gap. ap (λ (xs : List Act). left_acts gap id (j + 1) xs (left gap)) is
          ∙ left_append gap id (j + 1) front said (left gap));
    }

-- ---- a machine that is supervised

around : {v : View} {told : Told} {left : ℕ
    → Bool} {drive off : Bool} {place : Place} {board : Record}
    (id j : ℕ) (desk : Desk) (unread : List Sensed) (event : Event) (body : Body)
    → are_different (all_of (own_of body)) ≡ true
    → EntryFloor body.intake.phase (events_at Entry unread) drive place board
    → IsHere id j body unread v
    → IsBeside id j place v told left body (plain_step desk unread event body).body
    (plain_step desk unread event body).acts off
    → Read id j desk unread place board body
    → Around id j unread place v told left body
    (event_did desk event (all_read desk unread body).body).body
    (event_did desk event (all_read desk unread body).body).acts off
around id j desk unread event body different floor here beside read =
    let one : Body = (all_read desk unread body).body in
    let met : Done = event_did desk event one in
    let said : Done = announces desk met.body in
    let says = announced desk met.body in
    let first : List Act = (all_read desk unread body).acts in
    let goes : list_any (takes_out id) (first ++ (met.acts ++ said.acts))
    ≡ list_any (takes_out id) met.acts =
    middle_any (takes_out id) first met.acts said.acts read.out (said_none (quiet_out id) says) in
    let comes : list_any (brings_in id) (first ++ (met.acts ++ said.acts))
    ≡ list_any (brings_in id) met.acts =
    middle_any (brings_in id) first met.acts said.acts read.in (said_none (quiet_in id) says) in record {
      ids = apart id body different;
      here = here;
      missing =
          missing_is id unread body one met.body floor read.floor
          (event_meets desk event one).keeps;
      hand = λ is. beside.hand (goes ∙ is);
      upstream = beside.upstream;
      away = beside.away;
      alone = λ taken free has. beside.alone taken (said_free id says free)
          (it_now (ap (has_id id) (said_kept says)) (ap (is_held id) (said_held says)) has);
      new = λ is. beside.new (comes ∙ is);
      out = λ is. beside.out (goes ∙ is);
      still = λ no_out no_in. beside.still (goes ∙ no_out) (comes ∙ no_in);
    } where
      it_now : {a b c d : Bool} → a ≡ c → b ≡ d → (c ≡ true) ⊎ (d ≡ true) → (a ≡ true) ⊎ (b ≡ true)
      it_now kept held (inl is) = inl (kept ∙ is)
      it_now kept held (inr is) = inr (held ∙ is)

-- what comes by hand doesn't go by hand
comes_alone : {id j : ℕ} {unread : List Sensed} {place : Place} {v : View} {told : Told}
    {left : ℕ → Bool} {body two : Body} {met : List Act} {off : Bool}
    → Around id j unread place v told left body two met off
    → list_any (brings_in id) met ≡ true → list_any (takes_out id) met ≡ false
comes_alone {id = id} {j = j} {met = met} a brings =
    by_test (list_any (takes_out id) met) refl where
      by_test : (test : Bool) → list_any (takes_out id) met ≡ test → test ≡ false
      by_test false is = refl
      by_test true is =
          absurd (false≢true (sym ((a.new brings).1.1.0 (j + 1)) ∙ a.here.kept ∙ a.hand is))

pub step_fares : (id j : ℕ) (desk : Desk) (unread : List Sensed) (event : Event) (body : Body)
    (v : View) (told : Told) (left : ℕ → Bool)
    (drive off : Bool) (place : Place) (board : Record)
    → desk.supervised ≡ true
    → are_different (all_of (own_of body)) ≡ true
    → EntryFloor body.intake.phase (events_at Entry unread) drive place board
    → IsHere id j body unread v
    → IsBeside id j place v told left body (plain_step desk unread event body).body
    (plain_step desk unread event body).acts off
    → StepFares id j v told left
    (with_tells desk (watch_of desk body) (plain_step desk unread event body).acts)
    (plain_step desk unread event body).body off
step_fares id j desk unread event body v told left drive off place board watched different floor
    here beside =
    let read : Read id j desk unread place board body =
    read_fares id j desk unread place board body drive watched different floor in
    let one : Body = (all_read desk unread body).body in
    let met : Done = event_did desk event one in
    let said : Done = announces desk met.body in
    let a : Around id j unread place v told left body met.body met.acts off =
    around id j desk unread event body different floor here beside read in
    let first : List Act = with_tells desk (watch_of desk body) (all_read desk unread body).acts in
    let second : List Act = with_tells desk (watch_of desk one) met.acts in
    let meets : MetFares id j place one met.body met.acts second =
    met_fares id j desk event place board one watched read.different read.floor (comes_alone a) in
    step_ends met.body said.body (first ++ second) said.acts
    (with_tells desk (watch_of desk body) (plain_step desk unread event body).acts)
    (both_fare a read.fares meets) (announced desk met.body)
    (step_tells desk (watch_of desk body) (watch_of desk one)
    (all_read desk unread body).acts met.acts said.acts read.watch
    (λ w. said_as desk w (announced desk met.body)))
    beside.there beside.from

-- ---- a machine that is not supervised

-- the step, behind what was read
abbrev behind_read : Desk → Event → Done → Done
behind_read desk event read =
    and_then read (λ one. and_then (event_did desk event one) (announces desk))

abbrev FaresBehind : ℕ → ℕ → Desk → Event → Body → View → Told → (ℕ → Bool) → Bool → Done
    → Type 0
FaresBehind id j desk event body v told left off read =
    ((x : ℕ) → keeps_it x (behind_read desk event read).body ≡ false) ⊎ IsNoHand event
    → (takes_it id (behind_read desk event read).body ≡ true
    → IsJustStarted (behind_read desk event read).body.intake.phase → v.held j ≡ true
    → off ≡ false)
    → (takes_it id (behind_read desk event read).body ≡ true
    → IsJustStarted (behind_read desk event read).body.intake.phase → IsFrom j v off)
    → StepFares id j v told left
    (with_tells desk (watch_of desk body) (behind_read desk event read).acts)
    (behind_read desk event read).body off

-- it has nothing, and has nothing behind the event
nothing_fares : (id j : ℕ) (unread : List Sensed) (body two : Body) (met : List Act) (v : View)
    (told : Told) (left : ℕ → Bool) (off : Bool)
    → (keeps_it id body ≡ false) × ((holds_it id body ≡ false) × (takes_it id body ≡ false))
    → IsHere id j body unread v → off ≡ v.off → Silent met → own_of two ≡ own_of body
    → Both id j v two off told left (reading unread ++ met)
nothing_fares id j unread body two met v told left off none here same silent own =
    fares_so
    (has_none (here.kept ∙ none.0) (here.held ∙ none.1.0)
    (put_here (j + 1) (keeps_it id two) v.kept ∙ ap (λ (o : Own). has_id id o.kept) own ∙ none.0)
    (put_here (j + 1) (holds_it id two) v.held ∙ ap
    (λ (o : Own). is_held id o.held) own ∙ none.1.0))
    (record {
      taken = put_here (j + 1) (takes_it id two) v.taken ∙ ap
          (λ (o : Own). is_held id o.taking) own ∙ sym here.taken;
      missing = λ is. absurd (false≢true (sym none.1.1 ∙ sym here.taken ∙ is));
    })
    same
    (told_append id (j + 1) (reading unread) met told
    ∙ ap (told_acts id (j + 1) met) (reading_told id (j + 1) unread told) ∙ silent.told id
    (j + 1) told)
    (λ gap. left_append gap id (j + 1) (reading unread) met (left gap)
    ∙ ap (left_acts gap id (j + 1) met)
    (reading_left gap id (j + 1) unread (left gap)) ∙ silent.left gap id (j + 1) (left gap))

unkept : (two now : Body) (event : Event) → (own_of now).kept ≡ (own_of two).kept
    → ((x : ℕ) → keeps_it x now ≡ false) ⊎ IsNoHand event
    → ((x : ℕ) → keeps_it x two ≡ false) ⊎ IsNoHand event
unkept two now event same (inl none) = inl (λ x. ap (has_id x) (sym same) ∙ none x)
unkept two now event same (inr plain) = inr plain

silent_by : (id j : ℕ) (desk : Desk) (unread : List Sensed) (event : Event) (body : Body)
    (v : View) (told : Told) (left : ℕ → Bool) (off : Bool)
    → ((x : ℕ) → (keeps_it x body ≡ false)
    × ((holds_it x body ≡ false) × (takes_it x body ≡ false)))
    → IsHere id j body unread v → off ≡ v.off
    → FaresBehind id j desk event body v told left off (done body (reading unread))
silent_by id j desk unread event body v told left off none here same kept there from =
    let met : Done = event_did desk event body in
    let said : Done = announces desk met.body in
    let says = announced desk met.body in
    let watch : Watch = watch_of desk body in
    let next : Watch = watch_behind watch (reading unread) in
    let silent =
    met_nothing desk event body none (unkept met.body said.body event (said_kept says) kept) in
    step_ends met.body said.body (reading unread ++ met.acts) said.acts
    (with_tells desk watch (reading unread ++ (met.acts ++ said.acts)))
    (nothing_fares id j unread body met.body met.acts v told left off
    (none id) here same silent.0 silent.1) says
    (step_tells desk watch next (reading unread) met.acts said.acts refl (λ w. said_as desk w says)
    ∙ ap (λ (xs : List Act). (xs ++ with_tells desk next met.acts)
    ++ said.acts) (reading_tells desk watch unread)
    ∙ ap (λ (xs : List Act). (reading unread ++ xs) ++ said.acts) (silent.0.tells desk next))
    there from

-- a machine that is not supervised and has no mark before the step, to which nothing comes by
-- hand, tells nothing of the id; it may start it at its end
pub step_silent : (id j : ℕ) (desk : Desk) (unread : List Sensed) (event : Event) (body : Body)
    (v : View) (told : Told) (left : ℕ → Bool) (off : Bool)
    → desk.supervised ≡ false
    → ((x : ℕ) → (keeps_it x body ≡ false)
    × ((holds_it x body ≡ false) × (takes_it x body ≡ false)))
    → ((x : ℕ) → keeps_it x (plain_step desk unread event body).body ≡ false) ⊎ IsNoHand event
    → IsHere id j body unread v → off ≡ v.off
    → (takes_it id (plain_step desk unread event body).body ≡ true
    → IsJustStarted (plain_step desk unread event body).body.intake.phase → v.held j ≡ true
    → off ≡ false)
    → (takes_it id (plain_step desk unread event body).body ≡ true
    → IsJustStarted (plain_step desk unread event body).body.intake.phase → IsFrom j v off)
    → StepFares id j v told left
    (with_tells desk (watch_of desk body) (plain_step desk unread event body).acts)
    (plain_step desk unread event body).body off
step_silent id j desk unread event body v told left off unwatched none kept here same there from =
    subst (FaresBehind id j desk event body v told left off)
    (sym (read_nothing desk unread body none))
    (silent_by id j desk unread event body v told left off none here same) kept there from
