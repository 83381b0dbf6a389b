-- A step does one thing: what it is told of, and what becomes of its machine but for the undelivered bytes of a side that
-- has no connection, which nothing depends on.
use Rattle.std.proofs.Common.{◌≡◌, ◌++◌, ℕ, ℤ, Bool, true, false, List, [], ◌∷◌, Option, Some, None, refl, sym, ap, subst, ◌∙◌}
use Rattle.std.specs.Borrow.{Bor}
use Rattle.line_base.specs.declared.states.Side.{Side}
use Rattle.line_base.specs.declared.states.Side.TheVariants.{Entry, Exit}
use Rattle.board_record.specs.declared.sensed.Sensed.{Sensed}
use Rattle.board_record.specs.Maker.{Maker}
use Rattle.node_core.specs.declared.act.Act.{Act}
use Rattle.node_core.specs.declared.act.Act.TheVariants as acts
use Rattle.node_core.specs.declared.input.Input.{Input}
use Rattle.node_core.specs.declared.input.Input.TheVariants as inputs
use Rattle.node_core.specs.declared.lane.Body.{Body}
use Rattle.node_core.specs.declared.lane.Lane.{Lane}
use Rattle.node_core.specs.declared.word.Word.{Word}
use Rattle.node_core.specs.Desk.{Desk}
use Rattle.node_core.specs.Done.{Done, stays, and_then}
use Rattle.node_core.specs.Sides.{is_open}
use Rattle.node_core.specs.Event.{Words, event_of, maker_after}
use Rattle.node_core.specs.Reads.{all_read}
use Rattle.node_core.specs.Announces.{announces}
use Rattle.node_core.specs.Node.{NodeState, desk_of}
use Rattle.node_core.specs.Step.{Brings, Steps, machine_step, entry_after, exit_after}
use Rattle.node_core.specs.Words.{AreAll, AreFirst, Means, all_heard, all_more, all_none, first_more, first_none, first_too_long, word_did, too_long}
use Rattle.node_core.specs.Signals.{signalled, levels_after}
use Rattle.node_core.specs.Forecasts.{forecasts_after}
use Rattle.node_core.specs.Supervising.{orders_after, supervised_after, telling}
use Rattle.smema_bridge.specs.Levels.{BridgeLevels}
use Rattle.hermes_stream.specs.Frames.{frames_of}
use Rattle.step_rules.specs.Opened.{open_after, open_act, closed_at, opened_by}
use Rattle.step_rules.proofs.Opening.{steps_open}
use Rattle.step_rules.proofs.Quiet.{all_read_leaves, announces_leave}

-- ---- the words of a piece

-- a frame means one thing
abbrev pub OneMeaning : Type 0
OneMeaning = (frame : List ℕ) (a b : Word) → Means frame a → Means frame b → a ≡ b

record HeardOnce (desk : Desk) (side : Side) (body : Body) (one other : List Word) (left right : List ℕ) : Type 0 where
  done : all_heard desk side other body ≡ all_heard desk side one body
  bytes : is_open side (all_heard desk side one body).body ≡ true → right ≡ left

none-once : (frames : List (List ℕ)) (rest : Option (List ℕ)) (left right : List ℕ) → AreAll frames rest [] left → AreAll frames rest [] right → right ≡ left
none-once frames rest left right all_none all_none = refl

none-of-some : (frame : List ℕ) (frames : List (List ℕ)) (rest : Option (List ℕ)) (left : List ℕ) → AreAll (frame ∷ frames) rest [] left → ⊥
none-of-some frame frames rest left all = elim all [ ]

none-of-too_long : (left : List ℕ) → AreAll [] None [] left → ⊥
none-of-too_long left all = elim all [ ]

some-of-none : (rest : Option (List ℕ)) (word : Word) (others : List Word) (left : List ℕ) → AreAll [] rest (word ∷ others) left → ⊥
some-of-none rest word others left all = elim all [ ]

tail-all : (frame : List ℕ) (frames : List (List ℕ)) (rest : Option (List ℕ)) (word : Word) (others : List Word) (left : List ℕ) → AreAll (frame ∷ frames) rest (word ∷ others) left → AreAll frames rest others left
tail-all frame frames rest word others left (all_more means more) = more

-- where nothing is left to hear on one hand, the side is closed on the other
empty-first : (t : Bool) (desk : Desk) (side : Side) (body : Body) (word : Word) (others : List Word) (left right : List ℕ) → is_open side body ≡ t → (is_open side body ≡ true → ⊥) → HeardOnce desk side body [] (word ∷ others) left right
empty-first true desk side body word others left right is never = absurd (never is)
empty-first false desk side body word others left right is never = record { done = rw is refl; bytes = λ opened. absurd (never opened) }

first-empty : (t : Bool) (desk : Desk) (side : Side) (body : Body) (word : Word) (others : List Word) (left right : List ℕ) → is_open side body ≡ t → (is_open side body ≡ true → ⊥) → HeardOnce desk side body (word ∷ others) [] left right
first-empty true desk side body word others left right is never = absurd (never is)
first-empty false desk side body word others left right is never =
    let closed : all_heard desk side (word ∷ others) body ≡ stays body = rw is refl in
    let P : Done → Type 0 = λ d. is_open side d.body ≡ true in
    record { done = sym closed; bytes = λ opened. absurd (never (subst P closed opened)) }

both-first : (t : Bool) (desk : Desk) (side : Side) (body : Body) (word : Word) (one other : List Word) (left right : List ℕ) → is_open side body ≡ t → (is_open side body ≡ true → HeardOnce desk side (word_did desk side word body).body one other left right) → HeardOnce desk side body (word ∷ one) (word ∷ other) left right
both-first true desk side body word one other left right is inner =
    let first = word_did desk side word body in
    let behind_first : Done → Done = λ d. record { body = d.body; acts = first.acts ++ d.acts } in
    let once = inner is in
    let mine : all_heard desk side (word ∷ one) body ≡ behind_first (all_heard desk side one first.body) = rw is refl in
    let yours : all_heard desk side (word ∷ other) body ≡ behind_first (all_heard desk side other first.body) = rw is refl in
    let P : Done → Type 0 = λ d. is_open side d.body ≡ true in
    record { done = yours ∙ ap behind_first once.done ∙ sym mine; bytes = λ opened. once.bytes (subst P mine opened) }
both-first false desk side body word one other left right is inner =
    let mine : all_heard desk side (word ∷ one) body ≡ stays body = rw is refl in
    let yours : all_heard desk side (word ∷ other) body ≡ stays body = rw is refl in
    let P : Done → Type 0 = λ d. is_open side d.body ≡ true in
    record { done = yours ∙ sym mine; bytes = λ opened. (let never = subst P mine opened in absurd (cc)) }

open-behind : (desk : Desk) (side : Side) (body : Body) (word : Word) (others : List Word) → is_open side body ≡ true → is_open side (all_heard desk side others (word_did desk side word body).body).body ≡ true → is_open side (all_heard desk side (word ∷ others) body).body ≡ true
open-behind desk side body word others is opened = rw is opened

heard-once : OneMeaning → (desk : Desk) (side : Side) (body : Body) (frames : List (List ℕ)) (rest : Option (List ℕ)) (one other : List Word) (left right : List ℕ)
    → AreFirst frames rest one → AreFirst frames rest other
    → (is_open side (all_heard desk side one body).body ≡ true → AreAll frames rest one left)
    → (is_open side (all_heard desk side other body).body ≡ true → AreAll frames rest other right)
    → HeardOnce desk side body one other left right
heard-once law desk side body frames rest [] [] left right first_none first_none mine yours = record { done = refl; bytes = λ opened. none-once frames rest left right (mine opened) (yours opened) }
heard-once law desk side body (frame ∷ frames) rest [] (word ∷ others) left right first_none (first_more means more) mine yours =
    empty-first (is_open side body) desk side body word others left right refl (λ opened. none-of-some frame frames rest left (mine opened))
heard-once law desk side body [] None [] (word ∷ others) left right first_none first_too_long mine yours =
    empty-first (is_open side body) desk side body too_long [] left right refl (λ opened. none-of-too_long left (mine opened))
heard-once law desk side body (frame ∷ frames) rest (word ∷ others) [] left right (first_more means more) first_none mine yours =
    first-empty (is_open side body) desk side body word others left right refl (λ opened. none-of-some frame frames rest right (yours opened))
heard-once law desk side body [] None (word ∷ others) [] left right first_too_long first_none mine yours =
    first-empty (is_open side body) desk side body too_long [] left right refl (λ opened. none-of-too_long right (yours opened))
heard-once law desk side body (frame ∷ frames) rest (word ∷ one) (other_word ∷ other) left right (first_more means more) (first_more other_means other_more) mine yours =
    let same : word ≡ other_word = law frame word other_word means other_means in
    let P : Word → Type 0 = λ w. (is_open side (all_heard desk side (w ∷ other) body).body ≡ true → AreAll (frame ∷ frames) rest (w ∷ other) right) → HeardOnce desk side body (word ∷ one) (w ∷ other) left right in
    let inner : (is_open side (all_heard desk side (word ∷ other) body).body ≡ true → AreAll (frame ∷ frames) rest (word ∷ other) right) → HeardOnce desk side body (word ∷ one) (word ∷ other) left right = λ his.
    both-first (is_open side body) desk side body word one other left right refl (λ is.
    heard-once law desk side (word_did desk side word body).body frames rest one other left right more other_more
    (λ opened. tail-all frame frames rest word one left (mine (open-behind desk side body word one is opened)))
    (λ opened. tail-all frame frames rest word other right (his (open-behind desk side body word other is opened)))) in
    subst P same inner yours
heard-once law desk side body [] None (word ∷ one) (other_word ∷ other) left right first_too_long first_too_long mine yours =
    let mine_open : is_open side (all_heard desk side (too_long ∷ []) body).body ≡ true → ⊥ = λ opened. some-of-none None too_long [] left (mine opened) in
    record { done = refl; bytes = λ opened. absurd (mine_open opened) }
heard-once law desk side body [] (Some rest) [] (word ∷ others) left right first more mine yours = elim more [ ]
heard-once law desk side body [] (Some rest) (word ∷ others) other left right first more mine yours = elim first [ ]

-- ---- machines that are alike but for the bytes of a side without a connection

pub record AreAlike (a b : NodeState) : Type 0 where
  pub spent : b.spent ≡ a.spent
  pub name : b.name ≡ a.name
  pub number : b.number ≡ a.number
  pub capacity : b.capacity ≡ a.capacity
  pub maker : b.maker ≡ a.maker
  pub bridge : b.bridge ≡ a.bridge
  pub forecasts : b.forecasts ≡ a.forecasts
  pub supervised : b.supervised ≡ a.supervised
  pub orders : b.orders ≡ a.orders
  pub body : b.lane.body ≡ a.lane.body
  pub entry : is_open Entry a.lane.body ≡ true → b.lane.entry_bytes ≡ a.lane.entry_bytes
  pub exit : is_open Exit a.lane.body ≡ true → b.lane.exit_bytes ≡ a.lane.exit_bytes

-- a side that is closed stays closed
pub closed-at : (side at : Side) → closed_at side at false ≡ false
closed-at Entry Entry = refl
closed-at Entry Exit = refl
closed-at Exit Entry = refl
closed-at Exit Exit = refl

pub closed-act : (side : Side) (act : Act) → open_act side false act ≡ false
closed-act side (acts.Closes at) = closed-at side at
closed-act side (acts.Notices at) = closed-at side at
closed-act side _ = refl

pub closed-stays : (side : Side) (told : List Act) → open_after side false told ≡ false
closed-stays side [] = refl
closed-stays side (act ∷ others) = rw (closed-act side act) (closed-stays side others)

was_by : (t : Bool) (side : Side) (told : List Act) → open_after side t told ≡ true → t ≡ true
was_by true side told is = refl
was_by false side told is = let none = closed-stays side told in absurd (cc)

-- where the input opens no connection of a side, one that is open then was open before
was-open : (s t : NodeState) (unread : List Sensed) (input : Input) (moment : ℤ) (told : List Act) (side : Side) → Steps s unread input moment t told → opened_by input side (is_open side s.lane.body) ≡ is_open side s.lane.body → is_open side t.lane.body ≡ true → is_open side s.lane.body ≡ true
was-open s t unread input moment told side steps same opened =
    was_by (is_open side s.lane.body) side told (ap (λ was. open_after side was told) (sym same) ∙ sym (steps_open s unread input moment t told side steps) ∙ opened)

-- ---- a step of machines that are alike

pub record StepsOnce (a b : NodeState) (told other : List Act) : Type 0 where
  pub alike : AreAlike a b
  pub same : other ≡ told

pub desk-same : (a b : NodeState) (moment : ℤ) → AreAlike a b → desk_of b moment ≡ desk_of a moment
desk-same a b moment alike = rw (alike.name, alike.number, alike.capacity, alike.bridge, alike.supervised, alike.orders) refl

-- an input that is no bytes
abbrev pub IsDry : Input → Type 0
IsDry (inputs.Bytes side piece) = ⊥
IsDry _ = Unit {0}

event-dry : (maker : Maker) (input : Input) (one other : List Word) → IsDry input → event_of maker input other ≡ event_of maker input one
event-dry maker (inputs.Bytes side piece) one other dry = absurd dry
event-dry maker _ one other dry = refl

brings-dry : (input : Input) (old new : Lane) (words : List Word) → IsDry input → Brings input old new words → (new.entry_bytes ≡ entry_after input old.entry_bytes) × (new.exit_bytes ≡ exit_after input old.exit_bytes)
brings-dry (inputs.Bytes side piece) old new words dry brings = absurd dry
brings-dry _ old new words dry brings = brings

entry-same : (input : Input) (was : Bool) (x y : List ℕ) → (opened_by input Entry was ≡ was → y ≡ x) → entry_after input y ≡ entry_after input x
entry-same inputs.Connect was x y kept = refl
entry-same _ was x y kept = kept refl

exit-same : (input : Input) (was : Bool) (x y : List ℕ) → (opened_by input Exit was ≡ was → y ≡ x) → exit_after input y ≡ exit_after input x
exit-same inputs.Accepted was x y kept = refl
exit-same _ was x y kept = kept refl

-- what a step leaves behind its lane, where the lanes end alike
record EndsOnce (a' b' : NodeState) (told other : List Act) : Type 0 where
  same : other ≡ told
  bridge : b'.bridge ≡ a'.bridge
  forecasts : b'.forecasts ≡ a'.forecasts

ends-once : (a b a' b' : NodeState) (unread : List Sensed) (input input' : Input) (moment : ℤ) (told other : List Act) → AreAlike a b
    → ((body : Body) (bridge : Option BridgeLevels) → levels_after input' body bridge ≡ levels_after input body bridge)
    → (one : Steps a unread input moment a' told) (two : Steps b unread input' moment b' other)
    → two.made ≡ one.made → b'.lane.body ≡ a'.lane.body → EndsOnce a' b' told other
ends-once a b a' b' unread input input' moment told other alike levels one two made body =
    let tells : List Act → Option BridgeLevels → Body → List Act = λ acts bridge at. acts ++ signalled bridge at in
    let same : other ≡ told =
    two.told ∙ ap (λ acts. tells acts b.bridge b'.lane.body) made ∙ ap (λ bridge. tells one.made bridge b'.lane.body) alike.bridge
    ∙ ap (tells one.made a.bridge) body ∙ sym one.told in
    record {
      same = same;
      bridge =
          two.bridge ∙ levels b'.lane.body b.bridge ∙ ap (λ (at : Body). levels_after input at b.bridge) body
          ∙ ap (levels_after input a'.lane.body) alike.bridge ∙ sym one.bridge;
      forecasts = two.forecasts ∙ ap (λ kept. forecasts_after kept other) alike.forecasts ∙ ap (forecasts_after a.forecasts) same ∙ sym one.forecasts;
    }

-- bytes are no level
bytes-levels : (side : Side) (piece other : Bor (List ℕ)) (body : Body) (bridge : Option BridgeLevels)
    → levels_after (inputs.Bytes side other) body bridge ≡ levels_after (inputs.Bytes side piece) body bridge
bytes-levels side piece other body None = refl
bytes-levels side piece other body (Some before) = refl

pub steps-dry : (a b a' b' : NodeState) (unread : List Sensed) (input : Input) (moment : ℤ) (told other : List Act) → AreAlike a b → IsDry input → Steps a unread input moment a' told → Steps b unread input moment b' other → a'.spent ≡ a.spent → b'.spent ≡ b.spent → StepsOnce a' b' told other
steps-dry a b a' b' unread input moment told other alike dry one two fine good =
    let desk = desk-same a b moment alike in
    let event : event_of b.maker input two.lane.words ≡ event_of a.maker input one.lane.words = ap (λ maker. event_of maker input two.lane.words) alike.maker ∙ event-dry a.maker input one.lane.words two.lane.words dry in
    let same : machine_step (desk_of b moment) unread (event_of b.maker input two.lane.words) b.lane.body ≡ machine_step (desk_of a moment) unread (event_of a.maker input one.lane.words) a.lane.body =
    ap (λ d. machine_step d unread (event_of b.maker input two.lane.words) b.lane.body) desk
    ∙ ap (λ e. machine_step (desk_of a moment) unread e b.lane.body) event
    ∙ ap (machine_step (desk_of a moment) unread (event_of a.maker input one.lane.words)) alike.body in
    let mine = brings-dry input a.lane a'.lane one.lane.words dry one.lane.brings in
    let yours = brings-dry input b.lane b'.lane two.lane.words dry two.lane.brings in
    let body : b'.lane.body ≡ a'.lane.body = two.lane.body ∙ ap (λ (d : Done). d.body) same ∙ sym one.lane.body in
    let made : two.made ≡ one.made = two.lane.told ∙ ap (λ (d : Done). d.acts) same ∙ sym one.lane.told in
    let ends = ends-once a b a' b' unread input input moment told other alike (λ at bridge. refl) one two made body in
    record {
      alike = record {
        spent = good ∙ alike.spent ∙ sym fine;
        name = two.name ∙ alike.name ∙ sym one.name;
        number = two.number ∙ alike.number ∙ sym one.number;
        capacity = two.capacity ∙ alike.capacity ∙ sym one.capacity;
        maker = two.lane.made ∙ ap (maker_after input) alike.maker ∙ sym one.lane.made;
        bridge = ends.bridge;
        forecasts = ends.forecasts;
        supervised =
            two.supervised ∙ ap (supervised_after input) alike.supervised ∙ sym one.supervised;
        orders = two.orders ∙ ap (orders_after input) alike.orders ∙ sym one.orders;
        body = body;
        entry = λ opened. yours.0 ∙ entry-same input (is_open Entry a.lane.body) a.lane.entry_bytes b.lane.entry_bytes (λ stays_so. alike.entry (was-open a a' unread input moment told Entry one stays_so opened)) ∙ sym mine.0;
        exit = λ opened. yours.1 ∙ exit-same input (is_open Exit a.lane.body) a.lane.exit_bytes b.lane.exit_bytes (λ stays_so. alike.exit (was-open a a' unread input moment told Exit one stays_so opened)) ∙ sym mine.1;
      };
      same = ends.same;
    }

-- bytes

closed-heard : (desk : Desk) (side : Side) (body : Body) (words : List Word) → is_open side body ≡ false → all_heard desk side words body ≡ stays body
closed-heard desk side body [] closed = refl
closed-heard desk side body (word ∷ others) closed = rw closed refl

words-once : OneMeaning → (t : Bool) (desk : Desk) (side : Side) (body : Body) (mine yours : List ℕ) (one other : List Word) (left right : List ℕ) → is_open side body ≡ t
    → (is_open side body ≡ true → yours ≡ mine)
    → AreFirst (frames_of mine).messages (frames_of mine).rest one → AreFirst (frames_of yours).messages (frames_of yours).rest other
    → (is_open side (all_heard desk side one body).body ≡ true → AreAll (frames_of mine).messages (frames_of mine).rest one left)
    → (is_open side (all_heard desk side other body).body ≡ true → AreAll (frames_of yours).messages (frames_of yours).rest other right)
    → HeardOnce desk side body one other left right
words-once law true desk side body mine yours one other left right is same first second all every =
    let P : List ℕ → Type 0 = λ bytes. AreFirst (frames_of bytes).messages (frames_of bytes).rest other in
    let Q : List ℕ → Type 0 = λ bytes. is_open side (all_heard desk side other body).body ≡ true → AreAll (frames_of bytes).messages (frames_of bytes).rest other right in
    heard-once law desk side body (frames_of mine).messages (frames_of mine).rest one other left right first (subst P (same is) second) all (subst Q (same is) every)
words-once law false desk side body mine yours one other left right is same first second all every =
    let here = closed-heard desk side body one is in
    let there = closed-heard desk side body other is in
    let P : Done → Type 0 = λ d. is_open side d.body ≡ true in
    record { done = there ∙ sym here; bytes = λ opened. (let never = subst P here opened in absurd (cc)) }

-- what is heard of a piece, between what is read before and what is announced behind
record Hears (side : Side) (a b a' b' : NodeState) (told other : List Act) (left right : List ℕ) : Type 0 where
  body : b'.lane.body ≡ a'.lane.body
  same : other ≡ told
  bytes : is_open side a'.lane.body ≡ true → right ≡ left

hears-once : OneMeaning → (side : Side) (a b a' b' : NodeState) (unread : List Sensed) (moment : ℤ) (told other : List Act) (one two : List Word) (mine yours left right : List ℕ) → AreAlike a b
    → (is_open side a.lane.body ≡ true → yours ≡ mine)
    → AreFirst (frames_of mine).messages (frames_of mine).rest one → AreFirst (frames_of yours).messages (frames_of yours).rest two
    → (is_open side a'.lane.body ≡ true → AreAll (frames_of mine).messages (frames_of mine).rest one left)
    → (is_open side b'.lane.body ≡ true → AreAll (frames_of yours).messages (frames_of yours).rest two right)
    → a'.lane.body ≡ (machine_step (desk_of a moment) unread (Words side one) a.lane.body).body → told ≡ (machine_step (desk_of a moment) unread (Words side one) a.lane.body).acts
    → b'.lane.body ≡ (machine_step (desk_of b moment) unread (Words side two) b.lane.body).body → other ≡ (machine_step (desk_of b moment) unread (Words side two) b.lane.body).acts
    → Hears side a b a' b' told other left right
hears-once law side a b a' b' unread moment told other one two mine yours left right alike from first second all every body acts body' acts' =
    let desk = desk_of a moment in
    let read = all_read desk unread a.lane.body in
    let heard = all_heard desk side one read.body in
    let same : machine_step (desk_of b moment) unread (Words side two) b.lane.body ≡ machine_step desk unread (Words side two) a.lane.body =
    ap (λ d. machine_step d unread (Words side two) b.lane.body) (desk-same a b moment alike) ∙ ap (machine_step desk unread (Words side two)) alike.body in
    let f : Done → Done =
    λ d. telling desk a.lane.body (and_then read (λ _. and_then d (announces desk))) in
    let opened_read = (all_read_leaves side desk unread a.lane.body).same in
    let opened_end : (words : List Word) → is_open side (machine_step desk unread (Words side words) a.lane.body).body ≡ is_open side (all_heard desk side words read.body).body =
    λ words. (announces_leave side desk (all_heard desk side words read.body).body).same in
    let once = words-once law (is_open side read.body) desk side read.body mine yours one two left right refl (λ opened. from (sym opened_read ∙ opened)) first second
    (λ opened. all (ap (is_open side) body ∙ opened_end one ∙ opened))
    (λ opened. every (ap (is_open side) (body' ∙ ap (λ (d : Done). d.body) same) ∙ opened_end two ∙ opened)) in
    let steps : machine_step desk unread (Words side two) a.lane.body ≡ machine_step desk unread (Words side one) a.lane.body = ap f once.done in
    record {
      body = body' ∙ ap (λ (d : Done). d.body) (same ∙ steps) ∙ sym body;
      same = acts' ∙ ap (λ (d : Done). d.acts) (same ∙ steps) ∙ sym acts;
      bytes = λ opened. once.bytes (sym (opened_end one) ∙ sym (ap (is_open side) body) ∙ opened);
    }

pub steps-bytes : OneMeaning → (side : Side) (a b a' b' : NodeState) (unread : List Sensed) (piece other_piece : Bor (List ℕ)) (moment : ℤ) (told other : List Act) → AreAlike a b → other_piece.now ≡ piece.now → Steps a unread (inputs.Bytes side piece) moment a' told → Steps b unread (inputs.Bytes side other_piece) moment b' other → a'.spent ≡ a.spent → b'.spent ≡ b.spent → StepsOnce a' b' told other
steps-bytes law Entry a b a' b' unread piece other_piece moment told other alike same one two fine good =
    let mine = one.lane.brings in
    let yours = two.lane.brings in
    let heard = hears-once law Entry a b a' b' unread moment one.made two.made one.lane.words two.lane.words (a.lane.entry_bytes ++ piece.now) (b.lane.entry_bytes ++ other_piece.now) a'.lane.entry_bytes b'.lane.entry_bytes alike
    (λ opened. ap (λ old. old ++ other_piece.now) (alike.entry opened) ∙ ap (λ p. a.lane.entry_bytes ++ p) same)
    mine.0.first yours.0.first mine.0.all yours.0.all one.lane.body one.lane.told two.lane.body two.lane.told in
    let ends = ends-once a b a' b' unread (inputs.Bytes Entry piece) (inputs.Bytes Entry other_piece) moment told other alike
    (bytes-levels Entry piece other_piece) one two heard.same heard.body in
    record {
      alike = record {
        spent = good ∙ alike.spent ∙ sym fine;
        name = two.name ∙ alike.name ∙ sym one.name;
        number = two.number ∙ alike.number ∙ sym one.number;
        capacity = two.capacity ∙ alike.capacity ∙ sym one.capacity;
        maker = two.lane.made ∙ alike.maker ∙ sym one.lane.made;
        bridge = ends.bridge;
        forecasts = ends.forecasts;
        supervised = two.supervised ∙ alike.supervised ∙ sym one.supervised;
        orders = two.orders ∙ alike.orders ∙ sym one.orders;
        body = heard.body;
        entry = heard.bytes;
        exit = λ opened. yours.1 ∙ alike.exit (was-open a a' unread (inputs.Bytes Entry piece) moment told Exit one refl opened) ∙ sym mine.1;
      };
      same = ends.same;
    }
steps-bytes law Exit a b a' b' unread piece other_piece moment told other alike same one two fine good =
    let mine = one.lane.brings in
    let yours = two.lane.brings in
    let heard = hears-once law Exit a b a' b' unread moment one.made two.made one.lane.words two.lane.words (a.lane.exit_bytes ++ piece.now) (b.lane.exit_bytes ++ other_piece.now) a'.lane.exit_bytes b'.lane.exit_bytes alike
    (λ opened. ap (λ old. old ++ other_piece.now) (alike.exit opened) ∙ ap (λ p. a.lane.exit_bytes ++ p) same)
    mine.0.first yours.0.first mine.0.all yours.0.all one.lane.body one.lane.told two.lane.body two.lane.told in
    let ends = ends-once a b a' b' unread (inputs.Bytes Exit piece) (inputs.Bytes Exit other_piece) moment told other alike
    (bytes-levels Exit piece other_piece) one two heard.same heard.body in
    record {
      alike = record {
        spent = good ∙ alike.spent ∙ sym fine;
        name = two.name ∙ alike.name ∙ sym one.name;
        number = two.number ∙ alike.number ∙ sym one.number;
        capacity = two.capacity ∙ alike.capacity ∙ sym one.capacity;
        maker = two.lane.made ∙ alike.maker ∙ sym one.lane.made;
        bridge = ends.bridge;
        forecasts = ends.forecasts;
        supervised = two.supervised ∙ alike.supervised ∙ sym one.supervised;
        orders = two.orders ∙ alike.orders ∙ sym one.orders;
        body = heard.body;
        entry = λ opened. yours.1 ∙ alike.entry (was-open a a' unread (inputs.Bytes Exit piece) moment told Entry one refl opened) ∙ sym mine.1;
        exit = heard.bytes;
      };
      same = ends.same;
    }
