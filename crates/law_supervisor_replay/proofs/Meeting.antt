-- What becomes of a board as a machine meets an event.
use Rattle.std.proofs.Common.{
  ap,
  eq-eqb,
  eqb-true,
  false,
  if◌then◌else◌,
  inl,
  inr,
  is_some,
  refl,
  subst,
  sym,
  true,
  Bool,
  List,
  None,
  Option,
  Some,
  [],
  ℕ,
  ◌&&◌,
  ◌+◌,
  ◌++◌,
  ◌==◌,
  ◌||◌,
  ◌∙◌,
  ◌∷◌,
  ◌≡◌,
  ◌⊎◌,
}
use Rattle.std.specs.List.{list_all, list_any}
use Rattle.std.proofs.lemmas.Bool.{false≢true, or_cases, or_parts, or_from, or_left, or_right, and_parts}
use Rattle.std.proofs.lemmas.List.Folds.{list_any-append}
use Rattle.line_step.proofs.WithTells.{tells_append}
use Rattle.line_step.proofs.Unnamed.{apart_ids}
use Rattle.line_base.specs.declared.states.Seen.{Seen}
use Rattle.line_base.specs.declared.states.Seen.TheVariants as sees
use Rattle.line_base.specs.declared.states.SensorEvent.{SensorEvent}
use Rattle.board_record.specs.declared.record.Record.{Record}
use Rattle.hermes_vertical.specs.declared.message.Passing.TheVariants.{ByHand, Transferred}
use Rattle.handover_in.specs.declared.phase.Phase.{Phase as InPhase}
use Rattle.handover_in.specs.declared.phase.Phase.TheVariants as inn
use Rattle.handover_in.specs.State.{board_of_phase as held_in, own_of_phase}
use Rattle.node_core.specs.Desk.{Desk}
use Rattle.node_core.specs.Done.{Done}
use Rattle.node_core.specs.Event.{Event, event_did}
use Rattle.node_core.specs.Own.{Own, one_of, own_of, with_id_instead, without_id}
use Rattle.node_core.specs.Supervising.{
  Answer,
  Ask,
  Supervise,
  Supervision,
  arrives,
  departs as departing,
  supervision_act,
  watch_of,
  with_tells,
}
use Rattle.node_core.specs.declared.act.Act.{Act}
use Rattle.node_core.specs.declared.act.Act.TheVariants as acts
use Rattle.node_core.specs.declared.act.Deed.TheVariants as deeds
use Rattle.node_core.specs.declared.lane.Body.{Body}
use Rattle.law_custody.specs.Floor.{
  EntryFloor,
  Run,
  Sees,
  in_free,
  in_stopped,
  in_taken_in,
  in_taking,
  in_waiting,
  in_waiting_on,
  is_gone,
  is_in,
  is_stolen,
  on_across,
  on_back,
  on_begun,
  on_full,
  on_gone,
  on_stolen,
  sees_across,
  sees_back,
  sees_begun,
  sees_fresh,
  sees_full,
  sees_gone,
  sees_home,
  sees_stolen,
}
use Rattle.law_custody.specs.Place.{Place, is_away, is_upstream}
use Rattle.standings.specs.Ledger.{are_different}
use Rattle.standings.specs.Marks.{has_id, is_held}
use Rattle.law_one_standing.proofs.LedgerSteps.{all_of, different_front}
use Rattle.law_one_standing.proofs.LedgerTurns.{different_first, different_rest}
use Rattle.law_one_standing.proofs.LedgerWalk.{is_silent, own_parts}
use Rattle.law_supervisor_replay.specs.Replay.{At, Told, departs}
use Rattle.law_supervisor_replay.proofs.Bodies.{brings_in, holds_it, is_gone_own, is_taking_out, keeps_it, takes_out}
use Rattle.law_supervisor_replay.proofs.Course.{
  Course,
  Hands,
  IsOver,
  calm_asks,
  calm_goes,
  course_drops,
  course_end,
  course_on,
  course_none,
  course_opens,
  course_returns,
  course_settles,
  event_meets,
  hands_calm,
  hands_get,
  hands_give,
  hands_insert,
  hands_remove,
  hands_replace,
  seen_of,
}
use Rattle.law_supervisor_replay.proofs.Parts.{
  HasNot,
  HasStill,
  MetFares,
  Says,
  has_not,
  has_still,
  met_missing,
  met_new,
  met_removed,
  met_settles,
  met_so,
  met_upstream,
}
use Rattle.law_supervisor_replay.proofs.Tells.{
  is_quiet,
  quiet_in,
  quiet_out,
  quiet_tells,
  quiet_watch,
  says_both,
  says_none,
  says_quiet,
  watching,
}

-- ---- what a machine has of an id

abbrev pub has : ℕ → Own → Bool
has id own = has_id id own.kept || is_held id own.held

abbrev pub takes : ℕ → Own → Bool
takes id own = is_held id own.taking

-- an id that comes to the back
last_id : (id other : ℕ) (ids : List ℕ)
    → has_id id (ids ++ other ∷ []) ≡ (has_id id ids || ((other == id) || false))
last_id id other ids = list_any-append (λ (one : ℕ). one == id) ids (other ∷ [])

pub last_is : (id other : ℕ) (ids : List ℕ) → (other == id) ≡ true
    → has_id id (ids ++ other ∷ []) ≡ true
last_is id other ids is =
    last_id id other ids
    ∙ or_right (has_id id ids) ((other == id) || false) (or_left (other == id) false is)

back_none : (a b : Bool) → b ≡ false → (a || (b || false)) ≡ a
back_none true b is = refl
back_none false b is = or_from b false is refl

last_not : (id other : ℕ) (ids : List ℕ) → (other == id) ≡ false
    → has_id id (ids ++ other ∷ []) ≡ has_id id ids
last_not id other ids is = last_id id other ids ∙ back_none (has_id id ids) (other == id) is

-- ---- what becomes of an id in a course of acts

pub data Fare (id j : ℕ) (seen : Option Seen) (own end : Own) (all : List Act) : Type 0 where
  fare_so : has id end ≡ has id own → takes id end ≡ takes id own → Says id j all (λ told. told)
      → Fare id j seen own end all
  fare_settles : takes id own ≡ true → takes id end ≡ false → has id end ≡ true
      → Says id j all (λ told. record told { place = At (j + 1) }) → Fare id j seen own end all
  fare_missing : takes id own ≡ true → takes id end ≡ false → has id end ≡ has id own
      → seen ≡ Some sees.Taken → Says id j all (departs (j + 1) ByHand)
      → Fare id j seen own end all
  fare_upstream : takes id own ≡ true → takes id end ≡ false → has id end ≡ has id own
      → seen ≡ Some sees.NotStarted → Says id j all (λ told. told) → Fare id j seen own end all

-- an act before, that leaves what the machine has of it
fare_first : {id j : ℕ} {seen : Option Seen} {own one end : Own} {first all : List Act}
    → has id one ≡ has id own → takes id one ≡ takes id own → Says id j first (λ told. told)
    → Fare id j seen one end all → Fare id j seen own end (first ++ all)
fare_first {id = id} {j = j} {first = first} {all = all} same taken says (fare_so h t s) =
    fare_so (h ∙ same) (t ∙ taken) (says_both id j first all says s)
fare_first {id = id} {j = j} {first = first} {all = all} same taken says (fare_settles t u h s) =
    fare_settles (sym taken ∙ t) u h (says_both id j first all says s)
fare_first {id = id} {j = j} {first = first} {all = all} same taken says (fare_missing t u h o s) =
    fare_missing (sym taken ∙ t) u (h ∙ same) o (says_both id j first all says s)
fare_first {id = id} {j = j} {first = first} {all = all} same taken says
    (fare_upstream t u h o s) =
    fare_upstream (sym taken ∙ t) u (h ∙ same) o (says_both id j first all says s)

quiet_one : (act : Act) → is_quiet act ≡ true → list_all is_quiet (act ∷ []) ≡ true
quiet_one act is = by_test (is_quiet act) is where
  by_test : (test : Bool) → test ≡ true → (test && true) ≡ true
  by_test true is = refl
  by_test false is = is

-- behind a quiet act
tells_first : (desk : Desk) (looked : Option Seen) (act : Act) (others : List Act)
    → is_quiet act ≡ true
    → with_tells desk (watching looked) (act ∷ others)
    ≡ (act ∷ []) ++ with_tells desk (watching looked) others
tells_first desk looked act others is =
    let all : list_all is_quiet (act ∷ []) ≡ true = quiet_one act is in
    tells_append desk (watching looked) (act ∷ []) others
    ∙ ap (λ w. with_tells desk (watching looked) (act ∷ []) ++ with_tells desk w others)
    (quiet_watch (watching looked) (act ∷ []) all)
    ∙ ap (λ (xs : List Act). xs ++ with_tells desk (watching looked) others)
    (quiet_tells desk (watching looked) (act ∷ []) all)

fare_quiet : {id j : ℕ} {seen : Option Seen} {own one end : Own} (desk : Desk)
    (looked : Option Seen) (act : Act) (others : List Act) → is_quiet act ≡ true
    → has id one ≡ has id own → takes id one ≡ takes id own
    → Fare id j seen one end (with_tells desk (watching looked) others)
    → Fare id j seen own end (with_tells desk (watching looked) (act ∷ others))
fare_quiet {id = id} {j = j} {seen = seen} {own = own} {end = end} desk looked act others is same
    taken fare =
    subst (λ (all : List Act). Fare id j seen own end all)
    (sym (tells_first desk looked act others is))
    (fare_first same taken (says_quiet id j (act ∷ []) (quiet_one act is)) fare)

-- it settles, or another does
settles_says : (id j other : ℕ) (desk : Desk)
    → Says id j (acts.Deed (deeds.Settles other) ∷ arrives desk Transferred other ∷ [])
    (λ told. if other == id then record told { place = At (j + 1) } else told)
settles_says id j other desk = record { told = λ told. refl; left = λ gap left. refl }

says_as : {id j : ℕ} {all : List Act} {f g : Told → Told} → ((told : Told) → f told ≡ g told)
    → Says id j all f → Says id j all g
says_as same says = record { told = λ told. says.told told ∙ same told; left = says.left }

-- by a test
says_true : {id j : ℕ} {all : List Act} (f : Told → Told) {test : Bool} → test ≡ true
    → Says id j all (λ told. if test then f told else told) → Says id j all f
says_true f is says =
    says_as (λ told. ap (λ (b : Bool). if b then f told else told) is) says

says_false : {id j : ℕ} {all : List Act} (f : Told → Told) {test : Bool} → test ≡ false
    → Says id j all (λ told. if test then f told else told) → Says id j all (λ told. told)
says_false f is says =
    says_as (λ told. ap (λ (b : Bool). if b then f told else told) is) says

settles_by : {id j : ℕ} {seen : Option Seen} {end : Own} {all : List Act} (desk : Desk) (other : ℕ)
    (ids : List ℕ) (mine : Option ℕ) (test : Bool) → (other == id) ≡ test
    → Fare id j seen (own_parts (ids ++ other ∷ []) mine None) end all
    → Fare id j seen (own_parts ids mine (Some other)) end
    ((acts.Deed (deeds.Settles other) ∷ arrives desk Transferred other ∷ []) ++ all)
settles_by {id = id} {j = j} {all = all} desk other ids mine true is (fare_so h t s) =
    fare_settles is t (h ∙ or_left (has_id id (ids ++ other ∷ [])) (is_held id mine)
    (last_is id other ids is))
    (says_both id j _ all
    (says_true (λ told. record told { place = At (j + 1) }) is (settles_says id j other desk))
    s)
settles_by {id = id} {j = j} {all = all} desk other ids mine false is (fare_so h t s) =
    fare_so (h ∙ ap (λ (b : Bool). b || is_held id mine) (last_not id other ids is)) (t ∙ sym is)
    (says_both id j _ all
    (says_false (λ told. record told { place = At (j + 1) }) is (settles_says id j other desk))
    s)
settles_by desk other ids mine test is (fare_settles t _ _ _) = absurd (false≢true t)
settles_by desk other ids mine test is (fare_missing t _ _ _ _) = absurd (false≢true t)
settles_by desk other ids mine test is (fare_upstream t _ _ _ _) = absurd (false≢true t)

-- it is dropped, or another is
gone_says : (id j other : ℕ) (desk : Desk)
    → Says id j (acts.Deed (deeds.Drops other) ∷ departing desk ByHand other ∷ [])
    (λ told. if other == id then departs (j + 1) ByHand told else told)
gone_says id j other desk = record { told = λ told. refl; left = λ gap left. refl }

gone_by : {id j : ℕ} {end : Own} {all : List Act} (desk : Desk) (other : ℕ) (ids : List ℕ)
    (mine : Option ℕ) (test : Bool) → (other == id) ≡ test
    → Fare id j (Some sees.Taken) (own_parts ids mine None) end all
    → Fare id j (Some sees.Taken) (own_parts ids mine (Some other)) end
    ((acts.Deed (deeds.Drops other) ∷ departing desk ByHand other ∷ []) ++ all)
gone_by {id = id} {j = j} {all = all} desk other ids mine true is (fare_so h t s) =
    fare_missing is t h refl
    (says_both id j _ all (says_true (departs (j + 1) ByHand) is (gone_says id j other desk)) s)
gone_by {id = id} {j = j} {all = all} desk other ids mine false is (fare_so h t s) =
    fare_so h (t ∙ sym is)
    (says_both id j _ all (says_false (departs (j + 1) ByHand) is (gone_says id j other desk)) s)
gone_by desk other ids mine test is (fare_settles t _ _ _) = absurd (false≢true t)
gone_by desk other ids mine test is (fare_missing t _ _ _ _) = absurd (false≢true t)
gone_by desk other ids mine test is (fare_upstream t _ _ _ _) = absurd (false≢true t)

home_says : (id j other : ℕ) → Says id j (acts.Deed (deeds.Drops other) ∷ []) (λ told. told)
home_says id j other = record { told = λ told. refl; left = λ gap left. refl }

home_by : {id j : ℕ} {end : Own} {all : List Act} (other : ℕ) (ids : List ℕ) (mine : Option ℕ)
    (test : Bool) → (other == id) ≡ test
    → Fare id j (Some sees.NotStarted) (own_parts ids mine None) end all
    → Fare id j (Some sees.NotStarted) (own_parts ids mine (Some other)) end
    ((acts.Deed (deeds.Drops other) ∷ []) ++ all)
home_by {id = id} {j = j} {all = all} other ids mine true is (fare_so h t s) =
    fare_upstream is t h refl (says_both id j _ all (home_says id j other) s)
home_by {id = id} {j = j} {all = all} other ids mine false is (fare_so h t s) =
    fare_so h (t ∙ sym is) (says_both id j _ all (home_says id j other) s)
home_by other ids mine test is (fare_settles t _ _ _) = absurd (false≢true t)
home_by other ids mine test is (fare_missing t _ _ _ _) = absurd (false≢true t)
home_by other ids mine test is (fare_upstream t _ _ _ _) = absurd (false≢true t)

-- as its sensor saw it
drops_by : {id j : ℕ} {end : Own} (desk : Desk) (seen looked : Option Seen) (other : ℕ)
    (ids : List ℕ) (mine : Option ℕ) (others : List Act) → IsOver seen → looked ≡ seen
    → Fare id j seen (own_parts ids mine None) end (with_tells desk (watching None) others)
    → Fare id j seen (own_parts ids mine (Some other)) end
    (with_tells desk (watching looked) (acts.Deed (deeds.Drops other) ∷ others))
drops_by {id = id} {j = j} {end = end} desk seen looked other ids mine others over same fare =
    subst (λ (s : Option Seen). Fare id j seen (own_parts ids mine (Some other)) end
    (with_tells desk (watching s) (acts.Deed (deeds.Drops other) ∷ others))) (sym same)
    (by_seen seen over fare) where
      by_seen : (s : Option Seen) → IsOver s
          → Fare id j s (own_parts ids mine None) end (with_tells desk (watching None) others)
          → Fare id j s (own_parts ids mine (Some other)) end
          (with_tells desk (watching s) (acts.Deed (deeds.Drops other) ∷ others))
      by_seen None over fare = absurd over
      by_seen (Some sees.Incomplete) over fare = absurd over
      by_seen (Some sees.Complete) over fare = absurd over
      by_seen (Some sees.NotStarted) over fare = home_by other ids mine (other == id) refl fare
      by_seen (Some sees.Taken) over fare = gone_by desk other ids mine (other == id) refl fare

opened : (a b : Bool) → (a || b) ≡ ((b || a) || false)
opened true true = refl
opened true false = refl
opened false true = refl
opened false false = refl

-- the intake holds nothing, or what is looked at is what the sensor saw of it
course_fares : {seen : Option Seen} {own end : Own} {made : List Act} (id j : ℕ) (desk : Desk)
    (looked : Option Seen) → (own.taking ≡ None) ⊎ (looked ≡ seen) → Course seen own made end
    → Fare id j seen own end (with_tells desk (watching looked) made)
course_fares id j desk looked free course_end = fare_so refl refl (says_none id j)
course_fares id j desk looked free (course_on {act = act} {others = others} aside more) =
    fare_quiet desk looked act others (and_parts (is_silent act) (is_quiet act) aside).1 refl refl
    (course_fares id j desk looked free more)
course_fares id j desk looked free (course_opens {id = other} {ids = ids} {others = others} more) =
    fare_quiet desk looked (acts.Deed (deeds.Opens other)) others refl
    (opened (has_id id ids) (other == id)) refl (course_fares id j desk looked free more)
course_fares id j desk looked free
    (course_returns {id = other} {ids = ids} {others = others} more) =
    fare_quiet desk looked (acts.Deed (deeds.Returns other)) others refl
    (sym (opened (has_id id ids) (other == id))) refl (course_fares id j desk looked free more)
course_fares id j desk looked free (course_settles {id = other} {ids = ids} {held = mine} more) =
    settles_by desk other ids mine (other == id) refl
    (course_fares id j desk None (inl refl) more)
course_fares id j desk looked (inl free) (course_drops {id = other} over more) =
    absurd (let h : Some other ≡ None = free in cc)
course_fares {seen = seen} id j desk looked (inr same)
    (course_drops {id = other} {ids = ids} {held = mine} {others = others} over more) =
    drops_by desk seen looked other ids mine others over same
    (course_fares id j desk None (inl refl) more)

-- ---- by hand

pub data Met (id j : ℕ) (seen : Option Seen) (own end : Own) (made all : List Act) : Type 0 where
  goes_so : Fare id j seen own end all → list_any (takes_out id) made ≡ false
      → list_any (brings_in id) made ≡ false → Met id j seen own end made all
  comes_in : list_any (brings_in id) made ≡ true → has_id id end.kept ≡ true
      → takes id end ≡ takes id own → Says id j all (λ told. record told { place = At (j + 1) })
      → Met id j seen own end made all
  goes_out : list_any (takes_out id) made ≡ true → has_id id own.kept ≡ true → has id end ≡ false
      → takes id end ≡ takes id own → Says id j all (departs (j + 1) ByHand)
      → Met id j seen own end made all

-- two ids of a machine differ
same_ids : (x y : ℕ) (ids : List ℕ) → (x == y) ≡ true → has_id x ids ≡ false → has_id y ids ≡ false
same_ids x y ids is none = subst (λ (z : ℕ). has_id z ids ≡ false) (eqb-true x y is) none

-- what the outlet holds is neither kept nor taken
pub held_alone : (id : ℕ) (mine : Option ℕ) (ids more : List ℕ)
    → are_different (one_of mine ++ (ids ++ more)) ≡ true → is_held id mine ≡ true
    → (has_id id ids ≡ false) × (has_id id more ≡ false)
held_alone id None ids more different is = absurd (false≢true is)
held_alone id (Some other) ids more different is =
    apart_ids id ids more
    (same_ids other id (ids ++ more) is (different_first other (ids ++ more) different))

kept_alone : (id : ℕ) (mine : Option ℕ) (ids more : List ℕ)
    → are_different (one_of mine ++ (ids ++ more)) ≡ true → has_id id ids ≡ true
    → is_held id mine ≡ false
kept_alone id mine ids more different there = by_test (is_held id mine) refl where
  by_test : (test : Bool) → is_held id mine ≡ test → test ≡ false
  by_test false is = refl
  by_test true is = absurd (false≢true (sym (held_alone id mine ids more different is).0 ∙ there))

different_kept : (mine : Option ℕ) (ids more : List ℕ)
    → are_different (one_of mine ++ (ids ++ more)) ≡ true → are_different ids ≡ true
different_kept None ids more different = different_front ids more different
different_kept (Some other) ids more different =
    different_front ids more (different_rest other (ids ++ more) different)

-- the first of an id goes
gone_id : (id other : ℕ) (ids : List ℕ) → (other == id) ≡ true → are_different ids ≡ true
    → has_id id (without_id other ids) ≡ false
gone_id id other [] is different = refl
gone_id id other (mine ∷ ids) is different =
    by_test (mine == other) refl
    (gone_id id other ids is (different_rest mine ids different)) where
      by_test : (test : Bool) → (mine == other) ≡ test → has_id id (without_id other ids) ≡ false
          → has_id id (if test then ids else mine ∷ without_id other ids) ≡ false
      by_test true at rest =
          same_ids mine id ids (eq-eqb mine id (eqb-true mine other at ∙ eqb-true other id is))
          (different_first mine ids different)
      by_test false at rest =
          or_from (mine == id) (has_id id (without_id other ids))
          (ap (λ (n : ℕ). mine == n) (sym (eqb-true other id is)) ∙ at) rest

-- another stays
stays_id : (id other : ℕ) (ids : List ℕ) → (other == id) ≡ false
    → has_id id (without_id other ids) ≡ has_id id ids
stays_id id other [] is = refl
stays_id id other (mine ∷ ids) is =
    by_test (mine == other) refl (stays_id id other ids is) where
      by_test : (test : Bool) → (mine == other) ≡ test
          → has_id id (without_id other ids) ≡ has_id id ids
          → has_id id (if test then ids else mine ∷ without_id other ids)
          ≡ ((mine == id) || has_id id ids)
      by_test true at rest =
          ap (λ (b : Bool). b || has_id id ids)
          (sym (ap (λ (n : ℕ). n == id) (eqb-true mine other at) ∙ is))
      by_test false at rest = ap (λ (b : Bool). (mine == id) || b) rest

-- and where another comes into its place
replaced_in : (id old new : ℕ) (ids : List ℕ) → (new == id) ≡ true → has_id old ids ≡ true
    → has_id id (with_id_instead old new ids) ≡ true
replaced_in id old new [] is there = there
replaced_in id old new (mine ∷ ids) is there =
    by_test (mine == old) refl there (replaced_in id old new ids is) where
      by_test : (test : Bool) → (mine == old) ≡ test → (test || has_id old ids) ≡ true
          → (has_id old ids ≡ true → has_id id (with_id_instead old new ids) ≡ true)
          → has_id id (if test then new ∷ ids else mine ∷ with_id_instead old new ids) ≡ true
      by_test true at found rest = or_left (new == id) (has_id id ids) is
      by_test false at found rest =
          or_right (mine == id) (has_id id (with_id_instead old new ids)) (rest found)

replaced_out : (id old new : ℕ) (ids : List ℕ) → (old == id) ≡ true → (new == id) ≡ false
    → are_different ids ≡ true → has_id id (with_id_instead old new ids) ≡ false
replaced_out id old new [] is other different = refl
replaced_out id old new (mine ∷ ids) is other different =
    by_test (mine == old) refl
    (replaced_out id old new ids is other (different_rest mine ids different)) where
      by_test : (test : Bool) → (mine == old) ≡ test
          → has_id id (with_id_instead old new ids) ≡ false
          → has_id id (if test then new ∷ ids else mine ∷ with_id_instead old new ids) ≡ false
      by_test true at rest =
          or_from (new == id) (has_id id ids) other
          (same_ids mine id ids (eq-eqb mine id (eqb-true mine old at ∙ eqb-true old id is))
          (different_first mine ids different))
      by_test false at rest =
          or_from (mine == id) (has_id id (with_id_instead old new ids))
          (ap (λ (n : ℕ). mine == n) (sym (eqb-true old id is)) ∙ at) rest

replaced_not : (id old new : ℕ) (ids : List ℕ) → (old == id) ≡ false → (new == id) ≡ false
    → has_id id (with_id_instead old new ids) ≡ has_id id ids
replaced_not id old new [] is other = refl
replaced_not id old new (mine ∷ ids) is other =
    by_test (mine == old) refl (replaced_not id old new ids is other) where
      by_test : (test : Bool) → (mine == old) ≡ test
          → has_id id (with_id_instead old new ids) ≡ has_id id ids
          → has_id id (if test then new ∷ ids else mine ∷ with_id_instead old new ids)
          ≡ ((mine == id) || has_id id ids)
      by_test true at rest =
          ap (λ (b : Bool). b || has_id id ids)
          (other ∙ sym (ap (λ (n : ℕ). n == id) (eqb-true mine old at) ∙ is))
      by_test false at rest = ap (λ (b : Bool). (mine == id) || b) rest

-- a board is put in
insert_says : (id j other : ℕ) (desk : Desk)
    → Says id j (acts.Inserts other ∷ arrives desk ByHand other ∷ [])
    (λ told. if other == id then record told { place = At (j + 1) } else told)
insert_says id j other desk = record { told = λ told. refl; left = λ gap left. refl }

insert_met : {seen : Option Seen} (id j : ℕ) (desk : Desk) (other : ℕ) (ids : List ℕ)
    (mine taking : Option ℕ) (test : Bool) → (other == id) ≡ test
    → Met id j seen (own_parts ids mine taking) (own_parts (ids ++ other ∷ []) mine taking)
    (acts.Inserts other ∷ []) (acts.Inserts other ∷ arrives desk ByHand other ∷ [])
insert_met id j desk other ids mine taking true is =
    comes_in (or_left (other == id) false is) (last_is id other ids is) refl
    (says_true (λ told. record told { place = At (j + 1) }) is (insert_says id j other desk))
insert_met id j desk other ids mine taking false is =
    goes_so (fare_so (ap (λ (b : Bool). b || is_held id mine) (last_not id other ids is)) refl
    (says_false (λ told. record told { place = At (j + 1) }) is (insert_says id j other desk)))
    refl (or_from (other == id) false is refl)

-- one is taken out
remove_says : (id j other : ℕ) (desk : Desk)
    → Says id j (acts.Removes other ∷ departing desk ByHand other ∷ [])
    (λ told. if other == id then departs (j + 1) ByHand told else told)
remove_says id j other desk = record { told = λ told. refl; left = λ gap left. refl }

same_has : (x y : ℕ) (ids : List ℕ) → (x == y) ≡ true → has_id x ids ≡ true → has_id y ids ≡ true
same_has x y ids is there = subst (λ (z : ℕ). has_id z ids ≡ true) (eqb-true x y is) there

remove_met : {seen : Option Seen} (id j : ℕ) (desk : Desk) (other : ℕ) (ids : List ℕ)
    (mine taking : Option ℕ) → has_id other ids ≡ true
    → are_different (all_of (own_parts ids mine taking)) ≡ true → (test : Bool)
    → (other == id) ≡ test
    → Met id j seen (own_parts ids mine taking) (own_parts (without_id other ids) mine taking)
    (acts.Removes other ∷ []) (acts.Removes other ∷ departing desk ByHand other ∷ [])
remove_met id j desk other ids mine taking there different true is =
    let kept : has_id id ids ≡ true = same_has other id ids is there in
    goes_out (or_left (other == id) false is) kept
    (or_from (has_id id (without_id other ids)) (is_held id mine)
    (gone_id id other ids is (different_kept mine ids (one_of taking) different))
    (kept_alone id mine ids (one_of taking) different kept)) refl
    (says_true (departs (j + 1) ByHand) is (remove_says id j other desk))
remove_met id j desk other ids mine taking there different false is =
    goes_so (fare_so (ap (λ (b : Bool). b || is_held id mine) (stays_id id other ids is)) refl
    (says_false (departs (j + 1) ByHand) is (remove_says id j other desk)))
    (or_from (other == id) false is refl) refl

-- one goes to another lane, or comes from one: of that nothing is told
give_says : (id j other to : ℕ)
    → Says id j (acts.Gives other to ∷ [])
    (λ told. if other == id then departs (j + 1) ByHand told else told)
give_says id j other to = record { told = λ told. refl; left = λ gap left. refl }

give_met : {seen : Option Seen} (id j other to : ℕ) (ids : List ℕ)
    (mine taking : Option ℕ) → has_id other ids ≡ true
    → are_different (all_of (own_parts ids mine taking)) ≡ true → (test : Bool)
    → (other == id) ≡ test
    → Met id j seen (own_parts ids mine taking) (own_parts (without_id other ids) mine taking)
    (acts.Gives other to ∷ []) (acts.Gives other to ∷ [])
give_met id j other to ids mine taking there different true is =
    let kept : has_id id ids ≡ true = same_has other id ids is there in
    goes_out (or_left (other == id) false is) kept
    (or_from (has_id id (without_id other ids)) (is_held id mine)
    (gone_id id other ids is (different_kept mine ids (one_of taking) different))
    (kept_alone id mine ids (one_of taking) different kept)) refl
    (says_true (departs (j + 1) ByHand) is (give_says id j other to))
give_met id j other to ids mine taking there different false is =
    goes_so (fare_so (ap (λ (b : Bool). b || is_held id mine) (stays_id id other ids is)) refl
    (says_false (departs (j + 1) ByHand) is (give_says id j other to)))
    (or_from (other == id) false is refl) refl

get_says : (id j other : ℕ)
    → Says id j (acts.Gets other ∷ [])
    (λ told. if other == id then record told { place = At (j + 1) } else told)
get_says id j other = record { told = λ told. refl; left = λ gap left. refl }

get_met : {seen : Option Seen} (id j other : ℕ) (ids : List ℕ)
    (mine taking : Option ℕ) (test : Bool) → (other == id) ≡ test
    → Met id j seen (own_parts ids mine taking) (own_parts (ids ++ other ∷ []) mine taking)
    (acts.Gets other ∷ []) (acts.Gets other ∷ [])
get_met id j other ids mine taking true is =
    comes_in (or_left (other == id) false is) (last_is id other ids is) refl
    (says_true (λ told. record told { place = At (j + 1) }) is (get_says id j other))
get_met id j other ids mine taking false is =
    goes_so (fare_so (ap (λ (b : Bool). b || is_held id mine) (last_not id other ids is)) refl
    (says_false (λ told. record told { place = At (j + 1) }) is (get_says id j other)))
    refl (or_from (other == id) false is refl)

-- one is replaced by another
abbrev replacing : Desk → ℕ → ℕ → List Act
replacing desk old new =
    acts.Replaces old new ∷ departing desk ByHand old ∷ arrives desk ByHand new ∷ []

replace_says : (id j old new : ℕ) (desk : Desk)
    → Says id j (replacing desk old new) (λ told.
    if new == id then record (if old == id then departs (j + 1) ByHand told else told) {
      place = At
          (j + 1);
    }
    else (if old == id then departs (j + 1) ByHand told else told))
replace_says id j old new desk = record { told = λ told. refl; left = λ gap left. refl }

replace_met : {seen : Option Seen} (id j : ℕ) (desk : Desk) (old new : ℕ) (ids : List ℕ)
    (mine taking : Option ℕ) → has_id old ids ≡ true
    → are_different (all_of (own_parts ids mine taking)) ≡ true → (one two : Bool)
    → (old == id) ≡ one → (new == id) ≡ two → (two ≡ true → one ≡ false)
    → Met id j seen (own_parts ids mine taking)
    (own_parts (with_id_instead old new ids) mine taking)
    (acts.Replaces old new ∷ []) (replacing desk old new)
replace_met id j desk old new ids mine taking there different true true is other apart =
    absurd (false≢true (sym (apart refl)))
replace_met id j desk old new ids mine taking there different true false is other apart =
    let kept : has_id id ids ≡ true = same_has old id ids is there in
    goes_out (or_left (old == id) false is) kept
    (or_from (has_id id (with_id_instead old new ids)) (is_held id mine)
    (replaced_out id old new ids is other (different_kept mine ids (one_of taking) different))
    (kept_alone id mine ids (one_of taking) different kept)) refl
    (says_as (λ told. rw (other, is) refl) (replace_says id j old new desk))
replace_met id j desk old new ids mine taking there different false true is other apart =
    comes_in (or_left (new == id) false other) (replaced_in id old new ids other there) refl
    (says_as (λ told. rw (other, is) refl) (replace_says id j old new desk))
replace_met id j desk old new ids mine taking there different false false is other apart =
    goes_so (fare_so
    (ap (λ (b : Bool). b || is_held id mine) (replaced_not id old new ids is other)) refl
    (says_as (λ told. rw (other, is) refl) (replace_says id j old new desk)))
    (or_from (old == id) false is refl) (or_from (new == id) false other refl)

-- the supervisor says or is asked something
ask_met : {seen : Option Seen} {own : Own} (id j : ℕ) (desk asked : Desk)
    (looked : Option Seen) (what : Supervision)
    → Met id j seen own own (supervision_act asked what ∷ [])
    (with_tells desk (watching looked) (supervision_act asked what ∷ []))
ask_met id j desk asked looked (Supervise on) =
    goes_so (fare_so refl refl (record { told = λ told. refl; left = λ gap left. refl })) refl refl
ask_met id j desk asked looked (Ask question) =
    goes_so (fare_so refl refl (record { told = λ told. refl; left = λ gap left. refl })) refl refl
ask_met id j desk asked looked (Answer query order) =
    goes_so (fare_so refl refl (record { told = λ told. refl; left = λ gap left. refl })) refl refl

back_is : (a b : Bool) → ((a || false) ≡ true → (b || false) ≡ false) → a ≡ true → b ≡ false
back_is true b apart is = (or_parts b false (apart refl)).0
back_is false b apart is = absurd (false≢true is)

hands_met : {seen : Option Seen} {own end : Own} {made : List Act} (id j : ℕ) (desk : Desk)
    → are_different (all_of own) ≡ true
    → (list_any (brings_in id) made ≡ true → list_any (takes_out id) made ≡ false)
    → Hands seen own made end
    → Met id j seen own end made (with_tells desk (watching seen) made)
hands_met {seen = seen} id j desk different apart (hands_calm (calm_goes course)) =
    goes_so (course_fares id j desk seen (inr refl) course) (course_none (quiet_out id) course)
    (course_none (quiet_in id) course)
hands_met {seen = seen} id j desk different apart (hands_calm (calm_asks asked what)) =
    ask_met id j desk asked seen what
hands_met id j desk different apart
    (hands_insert {id = other} {ids = ids} {held = mine} {taking = taking}) =
    insert_met id j desk other ids mine taking (other == id) refl
hands_met id j desk different apart
    (hands_remove {id = other} {ids = ids} {held = mine} {taking = taking} there) =
    remove_met id j desk other ids mine taking there different (other == id) refl
hands_met id j desk different apart
    (hands_give {id = other} {to = to} {ids = ids} {held = mine} {taking = taking} there) =
    give_met id j other to ids mine taking there different (other == id) refl
hands_met id j desk different apart
    (hands_get {id = other} {ids = ids} {held = mine} {taking = taking}) =
    get_met id j other ids mine taking (other == id) refl
hands_met id j desk different apart
    (hands_replace {old = old} {new = new} {ids = ids} {held = mine} {taking = taking} there) =
    replace_met id j desk old new ids mine taking there different (old == id) (new == id) refl refl
    (back_is (new == id) (old == id) apart)

-- ---- where the board of the handover above is, by what the sensor saw

-- by the place, with what is unread
sees_away : {own : Seen} {es : List SensorEvent} {p : Place} {n : Run} → Sees own es p n
    → (is_gone_own (Some own) || list_any is_taking_out es) ≡ is_away p
sees_away sees_fresh = refl
sees_away sees_home = refl
sees_away sees_begun = refl
sees_away sees_across = refl
sees_away sees_back = refl
sees_away sees_full = refl
sees_away sees_gone = refl
sees_away sees_stolen = refl
sees_away on_begun = refl
sees_away on_across = refl
sees_away on_back = refl
sees_away on_full = refl
sees_away on_gone = refl
sees_away on_stolen = refl
sees_away is_in = refl
sees_away is_gone = refl
sees_away is_stolen = refl

pub floor_sees : {i : InPhase} {es : List SensorEvent} {drive : Bool} {p : Place} {b : Record}
    → EntryFloor i es drive p b → is_some (held_in i) ≡ true
    → (is_gone_own (own_of_phase i) || list_any is_taking_out es) ≡ is_away p
floor_sees (in_free _ _) holds = absurd (false≢true holds)
floor_sees (in_taking saw) holds = sees_away saw
floor_sees (in_taken_in saw) holds = sees_away saw
floor_sees (in_stopped saw) holds = sees_away saw
floor_sees (in_waiting saw) holds = sees_away saw
floor_sees in_waiting_on holds = refl

seen_home : {own : Seen} {p : Place} {n : Run} → Sees own [] p n → own ≡ sees.NotStarted
    → is_upstream p ≡ true
seen_home sees_fresh is = refl
seen_home sees_home is = refl
seen_home on_begun is = absurd (let h : sees.Incomplete ≡ sees.NotStarted = is in cc)
seen_home on_across is = absurd (let h : sees.Incomplete ≡ sees.NotStarted = is in cc)
seen_home is_in is = absurd (let h : sees.Complete ≡ sees.NotStarted = is in cc)
seen_home is_gone is = absurd (let h : sees.Taken ≡ sees.NotStarted = is in cc)
seen_home is_stolen is = absurd (let h : sees.Taken ≡ sees.NotStarted = is in cc)

some_seen : (a b : Seen) → ◌≡◌ {A = Option Seen} (Some a) (Some b) → a ≡ b
some_seen a b is = cc

floor_away : {i : InPhase} {drive : Bool} {p : Place} {b : Record} → EntryFloor i [] drive p b
    → is_some (held_in i) ≡ true → own_of_phase i ≡ Some sees.Taken → is_away p ≡ true
floor_away floor holds is =
    sym (floor_sees floor holds) ∙ ap (λ (seen : Option Seen). is_gone_own seen || false) is

floor_home : {i : InPhase} {drive : Bool} {p : Place} {b : Record} → EntryFloor i [] drive p b
    → own_of_phase i ≡ Some sees.NotStarted → is_upstream p ≡ true
floor_home (in_free _ _) is = absurd (let h : None ≡ Some sees.NotStarted = is in cc)
floor_home (in_taking saw) is = seen_home saw (some_seen _ _ is)
floor_home (in_taken_in saw) is = seen_home saw (some_seen _ _ is)
floor_home (in_stopped saw) is = seen_home saw (some_seen _ _ is)
floor_home (in_waiting saw) is = seen_home saw (some_seen _ _ is)
floor_home in_waiting_on is =
    absurd (let h : Some sees.Incomplete ≡ Some sees.NotStarted = is in cc)

-- an intake of whose board something was seen holds one
seen_held : (i : InPhase) (own : Seen) → own_of_phase i ≡ Some own → is_some (held_in i) ≡ true
seen_held inn.Idle own is = absurd (let h : None ≡ Some own = is in cc)
seen_held (inn.Taking _ _ _) own is = refl
seen_held (inn.Stopped _ _ _) own is = refl
seen_held (inn.Waiting _ _ _) own is = refl

-- ---- MEETING AN EVENT

pub not_of : (id : ℕ) (body : Body) → has id (own_of body) ≡ false → HasNot id body
not_of id body none =
    let two = or_parts (keeps_it id body) (holds_it id body) none in
    record { kept = two.0; held = two.1 }

pub still_of : (id : ℕ) (body now : Body) → has id (own_of now) ≡ has id (own_of body)
    → HasStill id body now
still_of id body now same = by_test (has id (own_of body)) refl where
  by_test : (test : Bool) → has id (own_of body) ≡ test → HasStill id body now
  by_test true is =
      has_still (or_cases (keeps_it id body) (holds_it id body) is)
      (or_cases (keeps_it id now) (holds_it id now) (same ∙ is))
  by_test false is = has_not (not_of id body is) (not_of id now (same ∙ is))

fare_met : {id j : ℕ} {place : Place} {body now : Body} {made all : List Act}
    → (seen_of body ≡ Some sees.Taken → is_away place ≡ true)
    → (seen_of body ≡ Some sees.NotStarted → is_upstream place ≡ true)
    → list_any (takes_out id) made ≡ false → list_any (brings_in id) made ≡ false
    → Fare id j (seen_of body) (own_of body) (own_of now) all
    → MetFares id j place body now made all
fare_met {id = id} {body = body} {now = now} away home out in_hand (fare_so h t s) =
    met_so (still_of id body now h) t s out in_hand
fare_met {id = id} {now = now} away home out in_hand (fare_settles t u h s) =
    met_settles t u (or_cases (keeps_it id now) (holds_it id now) h) s out in_hand
fare_met {id = id} {body = body} {now = now} away home out in_hand (fare_missing t u h o s) =
    met_missing t u (away o) (still_of id body now h) s out in_hand
fare_met {id = id} {body = body} {now = now} away home out in_hand (fare_upstream t u h o s) =
    met_upstream t u (home o) (still_of id body now h) s out in_hand

met_of : {id j : ℕ} {place : Place} {body now : Body} {made all : List Act}
    → (seen_of body ≡ Some sees.Taken → is_away place ≡ true)
    → (seen_of body ≡ Some sees.NotStarted → is_upstream place ≡ true)
    → Met id j (seen_of body) (own_of body) (own_of now) made all
    → MetFares id j place body now made all
met_of away home (goes_so fare out in_hand) = fare_met away home out in_hand fare
met_of away home (comes_in brings kept same says) = met_new brings kept same says
met_of {id = id} {now = now} away home (goes_out takes_it_out kept none same says) =
    met_removed takes_it_out kept (not_of id now none) same says

-- all events are read. What goes by hand is kept, and what comes by hand is nowhere in the machine
pub met_fares : (id j : ℕ) (desk : Desk) (event : Event) (place : Place) (board : Record)
    (body : Body)
    → desk.supervised ≡ true → are_different (all_of (own_of body)) ≡ true
    → (is_some (held_in body.intake.phase) ≡ true → (drive : Bool)
    × EntryFloor body.intake.phase [] drive place board)
    → (list_any (brings_in id) (event_did desk event body).acts ≡ true
    → list_any (takes_out id) (event_did desk event body).acts ≡ false)
    → MetFares id j place body (event_did desk event body).body (event_did desk event body).acts
    (with_tells desk (watch_of desk body) (event_did desk event body).acts)
met_fares id j desk event place board body watched different floor apart =
    let d : Done = event_did desk event body in
    let away : seen_of body ≡ Some sees.Taken → is_away place ≡ true =
    λ is. (let holds = seen_held body.intake.phase sees.Taken is in
    floor_away (floor holds).1 holds is) in
    let home : seen_of body ≡ Some sees.NotStarted → is_upstream place ≡ true =
    λ is. floor_home (floor (seen_held body.intake.phase sees.NotStarted is)).1 is in
    subst (λ (on : Bool). MetFares id j place body d.body d.acts
    (with_tells desk (record { supervised = on; seen = seen_of body }) d.acts)) (sym watched)
    (met_of away home (hands_met id j desk different apart (event_meets desk event body).hands))
