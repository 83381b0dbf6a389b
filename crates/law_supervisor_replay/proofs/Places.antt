-- A machine has an id in one place at most; and what becomes of it as events are read one by one.
use Rattle.std.proofs.Common.{
  ap,
  append_assoc,
  eqb-true,
  inl,
  inr,
  refl,
  subst,
  sym,
  ◌≡◌,
  ◌∙◌,
  ◌++◌,
  ◌==◌,
  ◌||◌,
  ℕ,
  Bool,
  true,
  false,
  List,
  [],
  ◌∷◌,
  Option,
  Some,
  None,
}
use Rattle.std.specs.List.{list_any}
use Rattle.std.proofs.lemmas.Bool.{false≢true, or_right, false_from_ne_true}
use Rattle.std.proofs.lemmas.List.Folds.{list_any-append}
use Rattle.line_step.proofs.Unnamed.{apart_ids}
use Rattle.law_one_standing.proofs.MirroringEnds.{vacuous}
use mathlib.Core.Bool.{or-false}
use Rattle.line_base.specs.declared.states.SensorEvent.{SensorEvent}
use Rattle.line_base.specs.declared.states.Side.{Side}
use Rattle.line_base.specs.declared.states.Side.TheVariants.{Entry, Exit}
use Rattle.board_record.specs.declared.record.Record.{Record}
use Rattle.board_record.specs.declared.sensed.Sensed.{Sensed}
use Rattle.node_core.specs.Own.{Own, ids_of, one_of, own_of}
use Rattle.node_core.specs.declared.act.Act.{Act}
use Rattle.node_core.specs.declared.lane.Body.{Body}
use Rattle.law_custody.specs.Place.{Place}
use Rattle.law_custody.specs.Words.{events_at}
use Rattle.standings.specs.Ledger.{are_different}
use Rattle.standings.specs.Marks.{has_id, is_held}
use Rattle.law_one_standing.proofs.LedgerSteps.{all_of}
use Rattle.law_one_standing.proofs.LedgerTurns.{different_first, different_rest}
use Rattle.law_supervisor_replay.proofs.Bodies.{
  holds_it,
  is_leaving_event,
  keeps_it,
  takes_it,
  will_leave,
}
use Rattle.law_supervisor_replay.proofs.Parts.{
  HasIt,
  HasNot,
  HasStill,
  ReadFares,
  Says,
  has_not,
  has_still,
  read_leaves,
  read_lost,
  read_missing,
  read_settles,
  read_so,
  read_upstream,
}
use Rattle.law_supervisor_replay.proofs.Tells.{left_then, says_both, then_left}

-- ---- ids that differ

not_front : (x : ℕ) (xs ys : List ℕ) → are_different (xs ++ ys) ≡ true → has_id x ys ≡ true
    → has_id x xs ≡ false
not_front x [] ys different has = refl
not_front x (y ∷ xs) ys different has =
    front_by (y == x) refl (not_front x xs ys (different_rest y (xs ++ ys) different) has)
  where
    front_by : (b : Bool) → (y == x) ≡ b → has_id x xs ≡ false → (b || has_id x xs) ≡ false
    front_by false is later = later
    front_by true is later =
        let none : has_id y ys ≡ false =
        (apart_ids y xs ys (different_first y (xs ++ ys) different)).1 in
        let no : has_id x ys ≡ false =
        subst (λ (z : ℕ). has_id z ys ≡ false) (eqb-true y x is) none in
        absurd (false≢true (sym no ∙ has))

one_held : (id : ℕ) (one : Option ℕ) → has_id id (one_of one) ≡ is_held id one
one_held id None = refl
one_held id (Some other) = or-false (other == id)

-- what is taken is not kept, and not held
taken_apart : (id : ℕ) (own : Own) → are_different (all_of own) ≡ true
    → is_held id own.taking ≡ true
    → (has_id id own.kept ≡ false) × (is_held id own.held ≡ false)
taken_apart id own different is =
    let front : List ℕ = one_of own.held ++ own.kept in
    let all : are_different (front ++ one_of own.taking) ≡ true =
    ap are_different (append_assoc (one_of own.held) own.kept (one_of own.taking)) ∙ different in
    let none : has_id id front ≡ false =
    not_front id front (one_of own.taking) all (one_held id own.taking ∙ is) in
    let parts = apart_ids id (one_of own.held) own.kept none in
    (parts.1, sym (one_held id own.held) ∙ parts.0)

-- what is held is not kept
held_apart : (id : ℕ) (own : Own) → are_different (all_of own) ≡ true
    → is_held id own.held ≡ true → has_id id own.kept ≡ false
held_apart id own different is = held_by (has_id id own.kept) refl where
  held_by : (b : Bool) → has_id id own.kept ≡ b → b ≡ false
  held_by false kept = refl
  held_by true kept =
      let behind : List ℕ = own.kept ++ one_of own.taking in
      let has : has_id id behind ≡ true =
      list_any-append (λ (other : ℕ). other == id) own.kept (one_of own.taking)
      ∙ ap (λ (b : Bool). b || has_id id (one_of own.taking)) kept in
      let none : has_id id (one_of own.held) ≡ false =
      not_front id (one_of own.held) behind different has in
      absurd (false≢true (sym none ∙ one_held id own.held ∙ is))

pub record Apart (id : ℕ) (body : Body) : Type 0 where
  pub held : holds_it id body ≡ true → keeps_it id body ≡ false
  pub taking : takes_it id body ≡ true → HasNot id body

pub apart : (id : ℕ) (body : Body) → are_different (all_of (own_of body)) ≡ true → Apart id body
apart id body different = record {
  held = held_apart id (own_of body) different;
  taking = λ is. let parts = taken_apart id (own_of body) different is in
      record { kept = parts.0; held = parts.1 };
}

-- a record more at the back
back_by : (a b c d : Bool) → d ≡ (b || c) → (a || d) ≡ ((a || b) || c)
back_by true b c d is = refl
back_by false b c d is = is

pub has_back : (id : ℕ) (kept : List Record) (board : Record)
    → has_id id (ids_of (kept ++ board ∷ [])) ≡ (has_id id (ids_of kept) || (board.id == id))
has_back id [] board = or-false (board.id == id)
has_back id (one ∷ kept) board =
    back_by (one.id == id) (has_id id (ids_of kept)) (board.id == id)
    (has_id id (ids_of (kept ++ board ∷ []))) (has_back id kept board)

-- ---- what the machine has

pub it_not : {X : Type 0} {id : ℕ} {body : Body} → HasIt id body → HasNot id body → X
it_not (inl kept) none = absurd (false≢true (sym none.kept ∙ kept))
it_not (inr held) none = absurd (false≢true (sym none.held ∙ held))

still_by : {id : ℕ} {body now : Body} (k h : Bool) → keeps_it id body ≡ k → holds_it id body ≡ h
    → keeps_it id now ≡ k → holds_it id now ≡ h → HasStill id body now
still_by true h k1 h1 k2 h2 = has_still (inl k1) (inl k2)
still_by false true k1 h1 k2 h2 = has_still (inr h1) (inr h2)
still_by false false k1 h1 k2 h2 =
    has_not (record { kept = k1; held = h1 }) (record { kept = k2; held = h2 })

pub still_same : (id : ℕ) (body now : Body) → keeps_it id now ≡ keeps_it id body
    → holds_it id now ≡ holds_it id body → HasStill id body now
still_same id body now kept held =
    still_by (keeps_it id body) (holds_it id body) refl refl kept held

pub still_both : {id : ℕ} {body one now : Body} → HasStill id body one → HasStill id one now
    → HasStill id body now
still_both (has_not a b) (has_not c d) = has_not a d
still_both (has_not a b) (has_still c d) = it_not c b
still_both (has_still a b) (has_not c d) = it_not b c
still_both (has_still a b) (has_still c d) = has_still a d

pub still_not : {id : ℕ} {one now : Body} → HasNot id one → HasStill id one now → HasNot id now
still_not none (has_not a b) = b
still_not none (has_still a b) = it_not a none

pub still_it : {id : ℕ} {one now : Body} → HasIt id one → HasStill id one now → HasIt id now
still_it has (has_not a b) = it_not has a
still_it has (has_still a b) = b

-- ---- one event, and the others behind it

or_first : (a b : Bool) → (a || false) ≡ true → (a || b) ≡ true
or_first true b is = refl
or_first false b is = absurd (false≢true is)

first_leaves : (side : Side) (event : SensorEvent) (others : List Sensed)
    → will_leave (record { side = side; event = event } ∷ []) ≡ true
    → will_leave (record { side = side; event = event } ∷ others) ≡ true
first_leaves Entry event others is = absurd (false≢true is)
first_leaves Exit event others is =
    or_first (is_leaving_event event) (list_any is_leaving_event (events_at Exit others)) is

later_leaves : (side : Side) (event : SensorEvent) (others : List Sensed) → will_leave others ≡ true
    → will_leave (record { side = side; event = event } ∷ others) ≡ true
later_leaves Entry event others is = is
later_leaves Exit event others is =
    or_right (is_leaving_event event) (list_any is_leaving_event (events_at Exit others)) is

-- where the machine neither holds nor takes it, nothing becomes of it
record Nothing (id j : ℕ) (one now : Body) (all : List Act) : Type 0 where
  still : HasStill id one now
  takes : takes_it id now ≡ false
  says : Says id j all (λ told. told)

nothing_more : {id j : ℕ} {unread : List Sensed} {place : Place} {one now : Body}
    {all : List Act} → holds_it id one ≡ false → takes_it id one ≡ false
    → ReadFares id j unread place one now all → Nothing id j one now all
nothing_more held takes (read_so still same says) =
    record { still = still; takes = same ∙ takes; says = says }
nothing_more held takes (read_leaves is leaves none same says) = vacuous held is
nothing_more held takes (read_lost is none same says) = vacuous held is
nothing_more held takes (read_settles is over has says) = vacuous takes is
nothing_more held takes (read_missing is over away still says) = vacuous takes is
nothing_more held takes (read_upstream is over above still says) = vacuous takes is

-- nothing became of it at first
behind_so : {id j : ℕ} {place : Place} {body one now : Body} {first second : List Act}
    (sensed : Sensed) (others : List Sensed)
    → (holds_it id one ≡ true → holds_it id body ≡ true)
    → HasStill id body one → takes_it id one ≡ takes_it id body → Says id j first (λ told. told)
    → ReadFares id j others place one now second
    → ReadFares id j (sensed ∷ others) place body now (first ++ second)
behind_so {id = id} {j = j} {first = first} {second = second} sensed others mine still takes says
    (read_so still2 takes2 says2) =
    read_so (still_both still still2) (takes2 ∙ takes) (says_both id j first second says says2)
behind_so {id = id} {j = j} {first = first} {second = second} sensed others mine still takes says
    (read_leaves held leaves none takes2 says2) =
    read_leaves (mine held) (later_leaves sensed.side sensed.event others leaves) none
    (takes2 ∙ takes) (then_left id j first second says says2)
behind_so {id = id} {j = j} {first = first} {second = second} sensed others mine still takes says
    (read_lost held none takes2 says2) =
    read_lost (mine held) none (takes2 ∙ takes) (says_both id j first second says says2)
behind_so {id = id} {j = j} {first = first} {second = second} sensed others mine still takes says
    (read_settles is over has says2) =
    read_settles (sym takes ∙ is) over has (says_both id j first second says says2)
behind_so {id = id} {j = j} {first = first} {second = second} sensed others mine still takes says
    (read_missing is over away still2 says2) =
    read_missing (sym takes ∙ is) over away (still_both still still2)
    (says_both id j first second says says2)
behind_so {id = id} {j = j} {first = first} {second = second} sensed others mine still takes says
    (read_upstream is over above still2 says2) =
    read_upstream (sym takes ∙ is) over above (still_both still still2)
    (says_both id j first second says says2)

-- an outlet's board is not taken, and a board that is taken is not held
pub held_untaken : {id : ℕ} {body : Body} → Apart id body → holds_it id body ≡ true
    → takes_it id body ≡ false
held_untaken {id = id} {body = body} alone held =
    false_from_ne_true (takes_it id body) (λ is. it_not (inr held) (alone.taking is))

taken_unheld : {id : ℕ} {body : Body} (one : Body) → Apart id body
    → (holds_it id one ≡ true → holds_it id body ≡ true) → takes_it id body ≡ true
    → holds_it id one ≡ false
taken_unheld {id = id} one alone mine is =
    false_from_ne_true (holds_it id one) (λ held. it_not (inr (mine held)) (alone.taking is))

-- what becomes of a board as one event is read, and then the others
pub behind_one : {id j : ℕ} {place : Place} {body one now : Body} {first second : List Act}
    (sensed : Sensed) (others : List Sensed) → Apart id body
    → (holds_it id one ≡ true → holds_it id body ≡ true)
    → ReadFares id j (sensed ∷ []) place body one first
    → ReadFares id j others place one now second
    → ReadFares id j (sensed ∷ others) place body now (first ++ second)
behind_one sensed others alone mine (read_so still takes says) later =
    behind_so sensed others mine still takes says later
behind_one {id = id} {j = j} {first = first} {second = second} sensed others alone mine
    (read_leaves held leaves none takes says) later =
    let untaken = held_untaken alone held in
    let rest = nothing_more none.held (takes ∙ untaken) later in
    read_leaves held (first_leaves sensed.side sensed.event others leaves)
    (still_not none rest.still) (rest.takes ∙ sym untaken)
    (left_then id j first second says rest.says)
behind_one {id = id} {j = j} {first = first} {second = second} sensed others alone mine
    (read_lost held none takes says) later =
    let untaken = held_untaken alone held in
    let rest = nothing_more none.held (takes ∙ untaken) later in
    read_lost held (still_not none rest.still) (rest.takes ∙ sym untaken)
    (says_both id j first second says rest.says)
behind_one {id = id} {j = j} {one = one} {first = first} {second = second} sensed others alone mine
    (read_settles is over has says) later =
    let rest = nothing_more (taken_unheld one alone mine is) over later in
    read_settles is rest.takes (still_it has rest.still)
    (says_both id j first second says rest.says)
behind_one {id = id} {j = j} {one = one} {first = first} {second = second} sensed others alone mine
    (read_missing is over away still says) later =
    let rest = nothing_more (taken_unheld one alone mine is) over later in
    read_missing is rest.takes away (still_both still rest.still)
    (says_both id j first second says rest.says)
behind_one {id = id} {j = j} {one = one} {first = first} {second = second} sensed others alone mine
    (read_upstream is over above still says) later =
    let rest = nothing_more (taken_unheld one alone mine is) over later in
    read_upstream is rest.takes above (still_both still rest.still)
    (says_both id j first second says rest.says)
