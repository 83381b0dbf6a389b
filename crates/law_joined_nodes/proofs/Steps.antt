-- A MOVE THAT MAKES A STEP OF ITS MACHINE keeps the books.
use Rattle.std.proofs.Common.{Bool, List, None, Option, Some, [], ap, arith, false, inl, inr, length, refl, slice_get, subst, sym, true, ℕ, ℤ, ◌++◌, ◌+◌, ◌-◌, ◌∙◌, ◌∷◌, ◌≡◌, ◌≢◌, ◌≤◌, ◌⊎◌}
use Rattle.std.specs.Borrow.{Bor}
use Rattle.std.specs.Prelude.{drop}
use Rattle.std.proofs.lemmas.Bool.{false≢true, true≢false}
use Rattle.line_base.specs.declared.states.Side.{Side}
use Rattle.line_base.specs.declared.states.Side.TheVariants.{Entry, Exit}
use Rattle.line_outside.specs.Given.{Closes, Given, Polls, is_same_way}
use Rattle.line_outside.specs.declared.answer.GotBytes.{GotBytes}
use Rattle.line_outside.specs.declared.answer.GotBytes.TheVariants as founds
use Rattle.line_outside.specs.declared.way.Way.{Way}
use Rattle.line_outside.specs.declared.way.Way.TheVariants as ways
use Rattle.board_record.specs.declared.sensed.Sensed.{Sensed}
use Rattle.node_core.specs.Node.{NodeState}
use Rattle.node_core.specs.Sides.{is_open}
use Rattle.node_core.specs.declared.act.Act.{Act}
use Rattle.node_core.specs.declared.act.Act.TheVariants as acts
use Rattle.node_core.specs.declared.input.Input.{Input}
use Rattle.node_core.specs.declared.input.Input.TheVariants as inputs
use Rattle.law_custody.specs.Words.{events_at}
use Rattle.step_rules.specs.Opened.{open_after, opened_by}
use Rattle.line_step.specs.Steps.{is_second}
use Rattle.line_step.specs.World.{link_of}
use Rattle.line_step.proofs.Numbers.{same_or_not}
use Rattle.step_rules.proofs.Once.{closed-stays}
use Rattle.law_node_runs.specs.Connections.{IsFront, acts_for}
use Rattle.node_run.specs.After.{way_of}
use Rattle.node_run.specs.Held.{Finding, seen_finding}
use Rattle.node_run.specs.Next.{next_of}
use Rattle.node_run.specs.Runs.{room_bytes}
use Rattle.node_run.specs.State.{RunState}
use Rattle.node_run.specs.Steps.{messages_for, others, text_of_first}
use Rattle.node_run.specs.declared.place.Next.TheVariants as nexts
use Rattle.node_run.specs.declared.rules.Rules.{Rules}
use Rattle.law_running_line.specs.Reading.{Reading}
use Rattle.law_running_line.specs.Running.{Running, with_node, with_reading}
use Rattle.law_running_line.specs.Turns.{IsAt, answered, did, met}
use Rattle.law_running_line.specs.Wire.{Awaits, Coming, Has, Hold, Left, Wire, asked_for, bytes_of, coming_to, end_at, end_beyond, given, has, read_at, said, with_end}
use Rattle.law_running_line.proofs.Waiting.{wire_of}
use Rattle.law_running_line.proofs.WiresParts.{has_awaits, left_awaits, left_has}
use Rattle.law_joined_nodes.specs.Does.{Does, Holds, IsBeside, Taken, does_accept, does_connect, does_hear, does_step}
use Rattle.law_joined_nodes.specs.Joined.{Joined, NodeRun, run_of, unspent, with_state}
use Rattle.law_joined_nodes.specs.Ways.{IsOther, ReadsBy, Stays, Ways, found_for, notices, stays_found, stays_heard, stays_on, stays_shut, waits_at, way_closes, way_resets, way_says, way_sends}
use Rattle.law_joined_nodes.specs.Woven.{ComeTo, IsOf, TakesTurn}
use Rattle.law_joined_nodes.proofs.Weaving.{Held, run_behind}
use Rattle.step_rules.specs.Spoken.{AreSaidOpen, IsSpoken, NoticesFirst, NoticesIf}
use Rattle.law_joined_nodes.specs.Pipes.{Flows, Pipes, beyond, comes_by, other}
use Rattle.law_joined_nodes.proofs.Answers.{AnswersFirst, AnswersIf}
use Rattle.law_joined_nodes.proofs.Books.{Book, Books, Known, SomeHas, some_place}
use Rattle.law_joined_nodes.proofs.Core.{Away, Home, away_hears, away_home, away_opens, away_read, away_refused, away_turned, given_is, home_away, home_hears, home_opens, home_read, home_refused, home_turned, with_gives}
use Rattle.law_joined_nodes.proofs.Ends.{Far, IsQuietAt, Own, beyond_else, far_link, far_refuses, far_same, far_takes, flows_at_else, flows_far, flows_gave_else, flows_own, flows_took_else, own_closes, own_comes, own_gives, own_same}
use Rattle.law_joined_nodes.proofs.Tracks.{Turned, silent_then, told_if, turned_read}
use Rattle.law_joined_nodes.proofs.Turning.{StartIs, TurnedAt, change_at, start_answered, start_else, start_here, turned_at}

-- ---- the move, with what is known of it

pub record Turn (reading : Reading) (m : ℕ) (i j : Joined) (p q : Pipes) : Type 0 where
  pub run : NodeRun
  pub there : run_of m i ≡ Some run
  pub next : RunState
  pub moment : ℤ
  pub given : List Given
  pub taken : Taken
  pub does : Does moment run.state next given (Some taken)
  pub ways : (side : Side) → Ways run.rules moment side run.state next (Some taken) given
  pub stays : (side : Side) → Stays side run.state next given (Some taken)
  pub reads : ReadsBy taken.input taken.read
  pub unreset : (side : Side) → next_of run.rules run.state ≡ nexts.Reset side
      → is_open side run.state.node.lane.body ≡ false
  pub takes : TakesTurn reading m moment run.state next taken i.line j.line
  pub after_is : j.runs ≡ with_state m run next i.runs
  pub flows : Flows m takes.place given (Some taken) p q
  pub some : 1 ≤ m
  pub spoken : IsSpoken run.state.node next.node taken.read taken.input taken.told
  pub behind : (side : Side)
      → is_open side next.node.lane.body
      ≡ open_after side
      (opened_by taken.input side (is_open side run.state.node.lane.body)) taken.told
  pub first : AnswersIf taken.input taken.told
  pub before : Known m run i.line
  pub after : Known m (record { rules = run.rules; state = next }) j.line

-- ---- what an input is to a side

data Kind (side : Side) (input : Input) : Type 0 where
  kind_opens : input ≡ comes_by side → Kind side input
  kind_hears : (piece : Bor (List ℕ)) → input ≡ inputs.Bytes side piece → Kind side input
  kind_refuses : side ≡ Exit → input ≡ inputs.Second → Kind side input
  kind_plain : ((w : Wire) → change_at side input w ≡ w) → (input ≡ comes_by side → ⊥)
      → ((piece : Bor (List ℕ)) → input ≡ inputs.Bytes side piece → ⊥)
      → (side ≡ Exit → input ≡ inputs.Second → ⊥) → Kind side input

no_second_entry : Entry ≡ Exit → ⊥
no_second_entry is = cc

kind_of : (side : Side) (input : Input) → Kind side input
kind_of Entry (inputs.Bytes Entry piece) = kind_hears piece refl
kind_of Exit (inputs.Bytes Exit piece) = kind_hears piece refl
kind_of Entry (inputs.Bytes Exit piece) =
    kind_plain (λ w. refl) (λ is. cc) (λ other is. cc) (λ is same. no_second_entry is)
kind_of Exit (inputs.Bytes Entry piece) =
    kind_plain (λ w. refl) (λ is. cc) (λ other is. cc) (λ is same. cc)
kind_of Entry inputs.Connect = kind_opens refl
kind_of Exit inputs.Connect = kind_plain (λ w. refl) (λ is. cc) (λ other is. cc) (λ is same. cc)
kind_of Exit inputs.Accepted = kind_opens refl
kind_of Entry inputs.Accepted = kind_plain (λ w. refl) (λ is. cc) (λ other is. cc) (λ is same. cc)
kind_of Exit inputs.Second = kind_refuses refl refl
kind_of Entry inputs.Second =
    kind_plain (λ w. refl) (λ is. cc) (λ other is. cc) (λ is same. no_second_entry is)
kind_of Entry inputs.Nothing = kind_plain (λ w. refl) (λ is. cc) (λ other is. cc) (λ is same. cc)
kind_of Exit inputs.Nothing = kind_plain (λ w. refl) (λ is. cc) (λ other is. cc) (λ is same. cc)
kind_of Entry (inputs.Notice side) =
    kind_plain (λ w. refl) (λ is. cc) (λ other is. cc) (λ is same. cc)
kind_of Exit (inputs.Notice side) =
    kind_plain (λ w. refl) (λ is. cc) (λ other is. cc) (λ is same. cc)
kind_of Entry inputs.Tick = kind_plain (λ w. refl) (λ is. cc) (λ other is. cc) (λ is same. cc)
kind_of Exit inputs.Tick = kind_plain (λ w. refl) (λ is. cc) (λ other is. cc) (λ is same. cc)
kind_of Entry inputs.Shutdown = kind_plain (λ w. refl) (λ is. cc) (λ other is. cc) (λ is same. cc)
kind_of Exit inputs.Shutdown = kind_plain (λ w. refl) (λ is. cc) (λ other is. cc) (λ is same. cc)
kind_of Entry (inputs.Fault side) =
    kind_plain (λ w. refl) (λ is. cc) (λ other is. cc) (λ is same. cc)
kind_of Exit (inputs.Fault side) =
    kind_plain (λ w. refl) (λ is. cc) (λ other is. cc) (λ is same. cc)
kind_of Entry (inputs.Will side on) =
    kind_plain (λ w. refl) (λ is. cc) (λ other is. cc) (λ is same. cc)
kind_of Exit (inputs.Will side on) =
    kind_plain (λ w. refl) (λ is. cc) (λ other is. cc) (λ is same. cc)
kind_of Entry (inputs.Level line on) =
    kind_plain (λ w. refl) (λ is. cc) (λ other is. cc) (λ is same. cc)
kind_of Exit (inputs.Level line on) =
    kind_plain (λ w. refl) (λ is. cc) (λ other is. cc) (λ is same. cc)
kind_of Entry (inputs.Insert barcode) =
    kind_plain (λ w. refl) (λ is. cc) (λ other is. cc) (λ is same. cc)
kind_of Exit (inputs.Insert barcode) =
    kind_plain (λ w. refl) (λ is. cc) (λ other is. cc) (λ is same. cc)
kind_of Entry (inputs.Remove id) =
    kind_plain (λ w. refl) (λ is. cc) (λ other is. cc) (λ is same. cc)
kind_of Exit (inputs.Remove id) =
    kind_plain (λ w. refl) (λ is. cc) (λ other is. cc) (λ is same. cc)
kind_of Entry (inputs.Replace id) =
    kind_plain (λ w. refl) (λ is. cc) (λ other is. cc) (λ is same. cc)
kind_of Exit (inputs.Replace id) =
    kind_plain (λ w. refl) (λ is. cc) (λ other is. cc) (λ is same. cc)
kind_of Entry (inputs.Mark id quality) =
    kind_plain (λ w. refl) (λ is. cc) (λ other is. cc) (λ is same. cc)
kind_of Exit (inputs.Mark id quality) =
    kind_plain (λ w. refl) (λ is. cc) (λ other is. cc) (λ is same. cc)
kind_of Entry (inputs.Sub id place barcode) =
    kind_plain (λ w. refl) (λ is. cc) (λ other is. cc) (λ is same. cc)
kind_of Exit (inputs.Sub id place barcode) =
    kind_plain (λ w. refl) (λ is. cc) (λ other is. cc) (λ is same. cc)
kind_of Entry inputs.Forecast = kind_plain (λ w. refl) (λ is. cc) (λ other is. cc) (λ is same. cc)
kind_of Exit inputs.Forecast = kind_plain (λ w. refl) (λ is. cc) (λ other is. cc) (λ is same. cc)
kind_of Entry (inputs.Query barcode) =
    kind_plain (λ w. refl) (λ is. cc) (λ other is. cc) (λ is same. cc)
kind_of Exit (inputs.Query barcode) =
    kind_plain (λ w. refl) (λ is. cc) (λ other is. cc) (λ is same. cc)
kind_of Entry (inputs.Supervise on) =
    kind_plain (λ w. refl) (λ is. cc) (λ other is. cc) (λ is same. cc)
kind_of Exit (inputs.Supervise on) =
    kind_plain (λ w. refl) (λ is. cc) (λ other is. cc) (λ is same. cc)
kind_of Entry (inputs.Ask question) =
    kind_plain (λ w. refl) (λ is. cc) (λ other is. cc) (λ is same. cc)
kind_of Exit (inputs.Ask question) =
    kind_plain (λ w. refl) (λ is. cc) (λ other is. cc) (λ is same. cc)
kind_of Entry (inputs.Answer query order) =
    kind_plain (λ w. refl) (λ is. cc) (λ other is. cc) (λ is same. cc)
kind_of Exit (inputs.Answer query order) =
    kind_plain (λ w. refl) (λ is. cc) (λ other is. cc) (λ is same. cc)
kind_of Entry (inputs.Gives id to) =
    kind_plain (λ w. refl) (λ is. cc) (λ other is. cc) (λ is same. cc)
kind_of Exit (inputs.Gives id to) =
    kind_plain (λ w. refl) (λ is. cc) (λ other is. cc) (λ is same. cc)
kind_of Entry (inputs.Gets board) =
    kind_plain (λ w. refl) (λ is. cc) (λ other is. cc) (λ is same. cc)
kind_of Exit (inputs.Gets board) =
    kind_plain (λ w. refl) (λ is. cc) (λ other is. cc) (λ is same. cc)

-- ---- one connection as the acts begin

pub data MidIs (side : Side) (input : Input) (place n : ℕ) (text : List ℕ)
    (r mid : Wire) : Type 0 where
  mid_same : r ≡ mid → (n ≡ place → input ≡ comes_by side → ⊥)
      → ((piece : Bor (List ℕ)) → n ≡ place → input ≡ inputs.Bytes side piece → ⊥)
      → (n ≡ place → side ≡ Exit → input ≡ inputs.Second → ⊥) → MidIs side input place n text r mid
  mid_opens : n ≡ place → input ≡ comes_by side → with_end side Has r ≡ mid
      → MidIs side input place n text r mid
  mid_hears : (piece : Bor (List ℕ)) → n ≡ place → input ≡ inputs.Bytes side piece
      → given side (length piece.now) r ≡ mid → MidIs side input place n text r mid
  mid_refused : n ≡ place → side ≡ Exit → input ≡ inputs.Second → (c : List Coming)
      → bytes_of c ≡ text → answered c (with_end Exit Left r) ≡ mid
      → MidIs side input place n text r mid

opens_change : (side : Side) (w : Wire) → change_at side (comes_by side) w ≡ with_end side Has w
opens_change Entry w = refl
opens_change Exit w = refl

hears_change : (side : Side) (piece : Bor (List ℕ)) (w : Wire)
    → change_at side (inputs.Bytes side piece) w ≡ given side (length piece.now) w
hears_change Entry piece w = refl
hears_change Exit piece w = refl

never_opens : (side : Side) → with_end side Has asked_for ≡ asked_for → ⊥
never_opens Entry is = has_awaits (ap (end_at Entry) is)
never_opens Exit is = has_awaits (ap (end_at Exit) is)

opens_plain : (side : Side) → is_second (comes_by side) ≡ false
opens_plain Entry = refl
opens_plain Exit = refl

apart_same : {side : Side} {input : Input} {place n : ℕ} {text : List ℕ} {r mid : Wire} → n ≢ place
    → r ≡ mid → MidIs side input place n text r mid
apart_same apart is =
    mid_same is (λ at same. apart at) (λ piece at same. apart at) (λ at exit same. apart at)

mid_apart : {side : Side} {input : Input} {place n : ℕ} {text : List ℕ} {r mid : Wire} → n ≢ place
    → StartIs side input place n text r mid → MidIs side input place n text r mid
mid_apart apart (start_else same leaves) = apart_same apart same
mid_apart apart (start_here plain at change) = absurd (apart at)
mid_apart apart (start_answered second at exit c text is) = absurd (apart at)

refuses_left : (side : Side) (input : Input) (w : Wire) → side ≡ Exit → input ≡ inputs.Second
    → end_at side (change_at side input w) ≡ Left
refuses_left side input w exit is =
    ap (λ (x : Input). end_at side (change_at side x w)) is ∙ at_exit side exit where
      at_exit : (s : Side) → s ≡ Exit → end_at s (change_at s inputs.Second w) ≡ Left
      at_exit Exit same = refl
      at_exit Entry same = absurd (no_second_entry same)

asked_end : (side : Side) → end_at side asked_for ≡ Awaits
asked_end Entry = refl
asked_end Exit = refl

second_input : (input : Input) → is_second input ≡ true → input ≡ inputs.Second
second_input inputs.Second is = refl
second_input inputs.Nothing is = absurd (false≢true is)
second_input input is = absurd (false≢true is)

mid_here : (side : Side) (input : Input) (place n : ℕ) (text : List ℕ) (r mid : Wire) → n ≡ place
    → Kind side input → StartIs side input place n text r mid → MidIs side input place n text r mid
mid_here side input place n text r mid at (kind_plain quiet opens hears seconds)
    (start_else same leaves) =
    mid_same same (λ here is. opens is) (λ piece here is. hears piece is) (λ here exit is.
    seconds exit is)
mid_here side input place n text r mid at (kind_plain quiet opens hears seconds)
    (start_here plain here change) =
    mid_same (sym (quiet r) ∙ change) (λ here is. opens is) (λ piece here is.
    hears piece is) (λ here exit is. seconds exit is)
mid_here side input place n text r mid at (kind_plain quiet opens hears seconds)
    (start_answered second here exit c are is) = absurd (seconds exit (second_input input second))
mid_here side input place n text r mid at (kind_opens is) (start_else same (inl apart)) =
    absurd (apart at)
mid_here side input place n text r mid at (kind_opens is) (start_else same (inr quiet)) =
    absurd (never_opens side
    (sym (opens_change side asked_for) ∙ ap (λ (x : Input). change_at side x asked_for)
    (sym is) ∙ quiet asked_for))
mid_here side input place n text r mid at (kind_opens is) (start_here plain here change) =
    mid_opens at is (sym (opens_change side r) ∙ ap (λ (x : Input). change_at side x r)
    (sym is) ∙ change)
mid_here side input place n text r mid at (kind_opens is)
    (start_answered second here exit c are change) =
    absurd (false≢true (sym (opens_plain side) ∙ ap is_second (sym is) ∙ second))
mid_here side input place n text r mid at (kind_hears piece is) (start_else same (inl apart)) =
    absurd (apart at)
mid_here side input place n text r mid at (kind_hears piece is) (start_else same (inr quiet)) =
    mid_hears piece at is (sym (hears_change side piece r) ∙ ap (λ (x : Input). change_at side x r)
    (sym is) ∙ quiet r ∙ same)
mid_here side input place n text r mid at (kind_hears piece is) (start_here plain here change) =
    mid_hears piece at is (sym (hears_change side piece r) ∙ ap (λ (x : Input). change_at side x r)
    (sym is) ∙ change)
mid_here side input place n text r mid at (kind_hears piece is)
    (start_answered second here exit c are change) =
    absurd (false≢true (ap is_second (sym is) ∙ second))
mid_here side input place n text r mid at (kind_refuses exit is) (start_else same (inl apart)) =
    absurd (apart at)
mid_here side input place n text r mid at (kind_refuses exit is) (start_else same (inr quiet)) =
    absurd (left_awaits (sym (refuses_left side input asked_for exit is) ∙ ap (end_at side)
    (quiet asked_for) ∙ asked_end side))
mid_here side input place n text r mid at (kind_refuses exit is) (start_here plain here change) =
    absurd (false≢true (sym plain ∙ ap is_second is))
mid_here side input place n text r mid at (kind_refuses exit is)
    (start_answered second here again c are change) = mid_refused at exit is c are change

mid_is : (side : Side) (input : Input) (place n : ℕ) (text : List ℕ) (r mid : Wire)
    → StartIs side input place n text r mid → MidIs side input place n text r mid
mid_is side input place n text r mid start = by (same_or_not n place) where
  by : (n ≡ place) ⊎ (n ≢ place) → MidIs side input place n text r mid
  by (inl at) = mid_here side input place n text r mid at (kind_of side input) start
  by (inr apart) = mid_apart apart start

-- ---- one connection, from before the move to behind it

read_end : (side : Side) (count : ℕ) (w : Wire)
    → end_at side (read_at side count w) ≡ end_at side w
read_end Entry count w = refl
read_end Exit count w = refl

read_beyond : (side : Side) (count : ℕ) (w : Wire)
    → end_beyond side (read_at side count w) ≡ end_beyond side w
read_beyond Entry count w = refl
read_beyond Exit count w = refl

opens_end : (side : Side) (w : Wire) → end_at side (with_end side Has w) ≡ Has
opens_end Entry w = refl
opens_end Exit w = refl

opens_beyond : (side : Side) (w : Wire) → end_beyond side (with_end side Has w) ≡ end_beyond side w
opens_beyond Entry w = refl
opens_beyond Exit w = refl

refused_end : (c : List Coming) (w : Wire) → end_at Exit (answered c (with_end Exit Left w)) ≡ Left
refused_end c w = by w.below where
  by : (below : Hold) → end_at Exit (answered c (wire_of Left below w.up w.down)) ≡ Left
  by Awaits = refl
  by Has = refl
  by Left = refl

refused_beyond : (c : List Coming) (w : Wire)
    → end_beyond Exit (answered c (with_end Exit Left w)) ≡ end_beyond Exit w
refused_beyond c w = by w.below where
  by : (below : Hold) → end_beyond Exit (answered c (wire_of Left below w.up w.down)) ≡ below
  by Awaits = refl
  by Has = refl
  by Left = refl

pub record Passed (side : Side) (input : Input) (place n : ℕ) (text first : List ℕ)
    (ws : List Wire) (v : Wire) : Type 0 where
  pub w : Wire
  pub there : slice_get ws n ≡ Some w
  pub count : ℕ
  pub mid : Wire
  pub is : MidIs side input place n first (read_at side count w) mid
  pub turned : Turned side text mid v

-- what the move's own connection is
pub its_awaits : (machine place : ℕ) (side : Side) (input : Input) (line : Running)
    → input ≡ comes_by side → IsOf machine input place line → IsAt machine side place Awaits line
its_awaits machine place Entry input line is of_it =
    subst (λ (x : Input). IsOf machine x place line) is of_it
its_awaits machine place Exit input line is of_it =
    subst (λ (x : Input). IsOf machine x place line) is of_it

its_has : (machine place : ℕ) (side : Side) (piece : Bor (List ℕ)) (input : Input) (line : Running)
    → input ≡ inputs.Bytes side piece → IsOf machine input place line
    → IsAt machine side place Has line
its_has machine place side piece input line is of_it =
    subst (λ (x : Input). IsOf machine x place line) is of_it

pub its_second : (machine place : ℕ) (input : Input) (line : Running) → input ≡ inputs.Second
    → IsOf machine input place line → IsAt machine Exit place Awaits line
its_second machine place input line is of_it =
    subst (λ (x : Input). IsOf machine x place line) is of_it

some_wire : {a b : Wire} → Some a ≡ Some b → a ≡ b
some_wire is = cc

-- the connection at that place stands so
its_end : {machine place n : ℕ} {side : Side} {hold : Hold} {line : Running} {w : Wire}
    → IsAt machine side place hold line → n ≡ place
    → slice_get (line.wires (link_of machine side)) n ≡ Some w → end_at side w ≡ hold
its_end {machine} {place} {n} {side} {hold} {line} {w} at is there =
    (let same : at.wire
    ≡ w = some_wire (sym at.there ∙ ap (slice_get (line.wires (link_of machine side)))
    (sym is) ∙ there) in ap (end_at side) (sym same) ∙ at.held)

given_end : (side : Side) (k : ℕ) (w : Wire) → end_at side (given side k w) ≡ end_at side w
given_end Entry k w = by w.above w.below w.up w.down where
  by : (above below : Hold) (up down : List Coming)
      → end_at Entry (given Entry k (wire_of above below up down)) ≡ below
  by above Awaits up down = refl
  by above Has up down = refl
  by above Left up down = refl
given_end Exit k w = by w.above w.below w.up w.down where
  by : (above below : Hold) (up down : List Coming)
      → end_at Exit (given Exit k (wire_of above below up down)) ≡ above
  by Awaits below up down = refl
  by Has below up down = refl
  by Left below up down = refl

given_beyond : (side : Side) (k : ℕ) (w : Wire)
    → end_beyond side (given side k w) ≡ end_beyond side w
given_beyond Entry k w = by w.above w.below w.up w.down where
  by : (above below : Hold) (up down : List Coming)
      → end_beyond Entry (given Entry k (wire_of above below up down)) ≡ above
  by above Awaits up down = refl
  by above Has up down = refl
  by above Left up down = refl
given_beyond Exit k w = by w.above w.below w.up w.down where
  by : (above below : Hold) (up down : List Coming)
      → end_beyond Exit (given Exit k (wire_of above below up down)) ≡ below
  by Awaits below up down = refl
  by Has below up down = refl
  by Left below up down = refl

-- how its own end stands as the acts begin
pub data MidEnd (side : Side) (input : Input) (place n : ℕ) (w mid : Wire) : Type 0 where
  end_same : end_at side mid ≡ end_at side w → (n ≡ place → input ≡ comes_by side → ⊥)
      → MidEnd side input place n w mid
  end_opens : n ≡ place → input ≡ comes_by side → end_at side mid ≡ Has
      → MidEnd side input place n w mid
  end_left : end_at side mid ≡ Left → n ≡ place → side ≡ Exit → input ≡ inputs.Second
      → MidEnd side input place n w mid

bytes_opens : (side : Side) (piece : Bor (List ℕ)) (input : Input)
    → input ≡ inputs.Bytes side piece → input ≡ comes_by side → ⊥
bytes_opens Entry piece input is same =
    (let never : inputs.Bytes Entry piece ≡ inputs.Connect = sym is ∙ same in cc)
bytes_opens Exit piece input is same =
    (let never : inputs.Bytes Exit piece ≡ inputs.Accepted = sym is ∙ same in cc)

refused_at : {side : Side} (c : List Coming) (r mid : Wire) → side ≡ Exit
    → answered c (with_end Exit Left r) ≡ mid → end_at side mid ≡ Left
refused_at c r mid exit is =
    ap (λ (x : Side). end_at x mid) exit ∙ ap (end_at Exit) (sym is) ∙ refused_end c r

refused_far : {side : Side} (c : List Coming) (r mid : Wire) → side ≡ Exit
    → answered c (with_end Exit Left r) ≡ mid → end_beyond side mid ≡ end_beyond side r
refused_far c r mid exit is =
    ap (λ (x : Side). end_beyond x mid) exit ∙ ap (end_beyond Exit)
    (sym is) ∙ refused_beyond c r ∙ ap (λ (x : Side). end_beyond x r) (sym exit)

mid_end : {side : Side} {input : Input} {place n : ℕ} {first : List ℕ} {w mid : Wire} (count : ℕ)
    → MidIs side input place n first (read_at side count w) mid → MidEnd side input place n w mid
mid_end {side} {w = w} count (mid_same is opens hears seconds) =
    end_same (ap (end_at side) (sym is) ∙ read_end side count w) opens
mid_end {side} {w = w} count (mid_opens at is change) =
    end_opens at is (ap (end_at side) (sym change) ∙ opens_end side (read_at side count w))
mid_end {side} {input} {w = w} count (mid_hears piece at is change) =
    end_same (ap (end_at side) (sym change) ∙ given_end side (length piece.now)
    (read_at side count w) ∙ read_end side count w) (λ here opens.
    bytes_opens side piece input is opens)
mid_end {w = w} {mid} count (mid_refused at exit second c are change) =
    end_left (refused_at c (read_at _ count w) mid exit change) at exit second

pub mid_far : {side : Side} {input : Input} {place n : ℕ} {first : List ℕ} {mid : Wire} (w : Wire)
    (count : ℕ) → MidIs side input place n first (read_at side count w) mid
    → end_beyond side mid ≡ end_beyond side w
mid_far {side} w count (mid_same is opens hears seconds) =
    ap (end_beyond side) (sym is) ∙ read_beyond side count w
mid_far {side} w count (mid_opens at is change) =
    ap (end_beyond side) (sym change) ∙ opens_beyond side
    (read_at side count w) ∙ read_beyond side count w
mid_far {side} w count (mid_hears piece at is change) =
    ap (end_beyond side) (sym change) ∙ given_beyond side (length piece.now)
    (read_at side count w) ∙ read_beyond side count w
mid_far {side} {mid = mid} w count (mid_refused at exit second c are change) =
    refused_far c (read_at side count w) mid exit change ∙ read_beyond side count w

-- ---- whether the machine's side has a connection as the acts begin

opened_still : (input : Input) (side : Side) (o : Bool) → o ≡ true → opened_by input side o ≡ true
opened_still inputs.Connect Entry o is = refl
opened_still inputs.Accepted Exit o is = refl
opened_still inputs.Connect Exit o is = is
opened_still inputs.Accepted Entry o is = is
opened_still input side o is = is

opened_new : (input : Input) (side : Side) (o : Bool) → input ≡ comes_by side
    → opened_by input side o ≡ true
opened_new input Entry o is = ap (λ (x : Input). opened_by x Entry o) is
opened_new input Exit o is = ap (λ (x : Input). opened_by x Exit o) is

opened_not : (input : Input) (side : Side) (o : Bool) → (input ≡ comes_by side → ⊥)
    → opened_by input side o ≡ o
opened_not inputs.Connect Entry o not = absurd (not refl)
opened_not inputs.Accepted Exit o not = absurd (not refl)
opened_not inputs.Connect Exit o not = refl
opened_not inputs.Accepted Entry o not = refl
opened_not input side o not = refl

is_so : (test : Bool) → (test ≡ false → ⊥) → test ≡ true
is_so true not = refl
is_so false not = absurd (not refl)

opened_at : {reading : Reading} {m : ℕ} {i j : Joined} {p q : Pipes} (t : Turn reading m i j p q)
    (side : Side) {n : ℕ} {w mid : Wire} → slice_get (i.line.wires (link_of m side)) n ≡ Some w
    → MidEnd side t.taken.input t.takes.place n w mid → has (end_at side mid) ≡ true
    → opened_by t.taken.input side (is_open side t.run.state.node.lane.body) ≡ true
opened_at {m = m} {i} t side {n} {w} there (end_same same not) held =
    opened_still t.taken.input side (is_open side t.run.state.node.lane.body)
    (is_so (is_open side t.run.state.node.lane.body) (λ shut.
    t.before.shut side shut n w there (has_so (end_at side w) (ap has (sym same) ∙ held))))
  where
    has_so : (hold : Hold) → has hold ≡ true → hold ≡ Has
    has_so Has is = refl
    has_so Awaits is = absurd (false≢true is)
    has_so Left is = absurd (false≢true is)
opened_at t side there (end_opens at is same) held =
    opened_new t.taken.input side (is_open side t.run.state.node.lane.body) is
opened_at t side there (end_left same at exit second) held =
    absurd (false≢true (ap has (sym same) ∙ held))

-- ---- what was said

others_open : (side : Side) (o : Bool) (told : List Act) (first : AnswersFirst told)
    → AreSaidOpen side o told → AreSaidOpen side o (others told)
others_open side o told first said =
    (let all : AreSaidOpen side o (acts.Sends Exit first.message ∷ first.rest) = subst
    (AreSaidOpen side o) first.is said in subst
    (λ (list : List Act). AreSaidOpen side o (others list)) (sym first.is) all.1)

said_for : (input : Input) (side : Side) (o : Bool) (told : List Act) → AnswersIf input told
    → AreSaidOpen side o told → AreSaidOpen side o (acts_for input told)
said_for inputs.Second side o told first said = others_open side o told first said
said_for inputs.Nothing side o told first said = said
said_for input side o told first said = said

-- a machine that is one more than another
turned_any : (m : ℕ) → 1 ≤ m
    → (side : Side) (input : Input) (place : ℕ) (next : NodeState) (read rest : List Sensed)
    (told : List Act) (before after : Running) (opened : Bool) → AnswersIf input told
    → AreSaidOpen side opened (acts_for input told)
    → after ≡ did (is_second input) m place told
    (met m input place (with_node m next (with_reading m read rest before)))
    → (n : ℕ) (v : Wire) → slice_get (after.wires (link_of m side)) n ≡ Some v
    → TurnedAt side input place (length (events_at side read)) opened told
    (before.wires (link_of m side)) n v
turned_any m some side input place next read rest told before after opened first said is n v there
    =
    let same : m - 1 + 1 ≡ m = omega (arith, some) in
    let P : ℕ → Type 0 =
    λ k. after
    ≡ did (is_second input) k place told
    (met k input place (with_node k next (with_reading k read rest before)))
    → slice_get (after.wires (link_of k side)) n ≡ Some v
    → TurnedAt side input place (length (events_at side read)) opened told
    (before.wires (link_of k side)) n v in
    subst P same (λ are got.
    turned_at (m - 1) side input place next read rest told before after opened first said are n
    v got) is there

pub passed : {reading : Reading} {m : ℕ} {i j : Joined} {p q : Pipes} (t : Turn reading m i j p q)
    (side : Side) (n : ℕ) (v : Wire) → slice_get (j.line.wires (link_of m side)) n ≡ Some v
    → Passed side t.taken.input t.takes.place n
    (messages_for side (acts_for t.taken.input t.taken.told)) (text_of_first t.taken.told)
    (i.line.wires (link_of m side)) v
passed {m = m} {i} {j} t side n v there =
    let opened : Bool = opened_by t.taken.input side (is_open side t.run.state.node.lane.body) in
    let at : TurnedAt side t.taken.input t.takes.place
    (length (events_at side t.taken.read)) opened t.taken.told
    (i.line.wires (link_of m side)) n v =
    turned_any m t.some side t.taken.input t.takes.place
    (unspent t.next.node) t.taken.read t.takes.rest t.taken.told i.line j.line opened t.first
    (said_for t.taken.input side opened t.taken.told t.first (t.spoken.says side))
    t.takes.after_is n v there in
    let count : ℕ = length (events_at side t.taken.read) in
    let mid : MidIs side t.taken.input t.takes.place n (text_of_first t.taken.told)
    (read_at side count at.start.w) at.mid =
    mid_is side t.taken.input t.takes.place n (text_of_first t.taken.told)
    (read_at side count at.start.w) at.mid at.start.is in
    record {
      w = at.start.w;
      there = at.start.there;
      count = count;
      mid = at.mid;
      is = mid;
      turned = at.turned (opened_at t side at.start.there (mid_end count mid));
    }

-- ---- what the calls of its sides are

-- a connection comes, and is taken
record Comes (side : Side) (given : List Given) (taken : Taken) (next : RunState) : Type 0 where
  told : List Act
  is : taken ≡ record { read = []; input = comes_by side; told = told }
  call : given ≡ Polls (way_of side) room_bytes founds.Arrived ∷ []
  none : next.held.finding ≡ None

beside_comes : {X : Type 0} (side : Side) (given : List Given) (input : Input)
    → IsBeside given input → input ≡ comes_by side → X
beside_comes Entry given input beside is = absurd (subst (IsBeside given) is beside)
beside_comes Exit given input beside is = absurd (subst (IsBeside given) is beside)

does_comes : {moment : ℤ} {s next : RunState} {given : List Given} {taken : Taken} (side : Side)
    → Does moment s next given (Some taken) → taken.input ≡ comes_by side
    → Comes side given taken next
does_comes Entry (does_connect {told} makes none) is =
    record { told = told; is = refl; call = refl; none = none }
does_comes Exit (does_accept {told} makes none) is =
    record { told = told; is = refl; call = refl; none = none }
does_comes Exit (does_connect makes none) is = cc
does_comes Entry (does_accept makes none) is = cc
does_comes Entry (does_hear holds makes none) is = cc
does_comes Exit (does_hear holds makes none) is = cc
does_comes side (does_step beside makes found) is = beside_comes side _ _ beside is

-- bytes are heard
record Hears (side : Side) (piece : Bor (List ℕ)) (s next : RunState) : Type 0 where
  held : Holds s side piece.now
  none : next.held.finding ≡ None

beside_hears : {X : Type 0} (side : Side) (piece : Bor (List ℕ)) (given : List Given)
    (input : Input) → IsBeside given input → input ≡ inputs.Bytes side piece → X
beside_hears side piece given input beside is = absurd (subst (IsBeside given) is beside)

heard_same : {side at : Side} {piece other : Bor (List ℕ)} (s : RunState)
    → inputs.Bytes at other ≡ inputs.Bytes side piece → Holds s at other.now
    → Holds s side piece.now
heard_same {side} {at} {piece} {other} s is held =
    let same_side : at ≡ side = cc in
    let same_piece : other ≡ piece = cc in
    subst (λ (x : Side). Holds s x piece.now) same_side
    (subst (λ (b : Bor (List ℕ)). Holds s at b.now) same_piece held)

does_hears : {moment : ℤ} {s next : RunState} {given : List Given} {taken : Taken} (side : Side)
    (piece : Bor (List ℕ)) → Does moment s next given (Some taken)
    → taken.input ≡ inputs.Bytes side piece → Hears side piece s next
does_hears {s = s} side piece (does_hear holds makes none) is =
    record { held = heard_same s is holds; none = none }
does_hears side piece (does_connect makes none) is = cc
does_hears side piece (does_accept makes none) is = cc
does_hears side piece (does_step beside makes found) is = beside_hears side piece _ _ beside is

-- a second connection is met where a poll says so, and nothing is read
does_second : {moment : ℤ} {s next : RunState} {given : List Given} {taken : Taken}
    → Does moment s next given (Some taken) → taken.input ≡ inputs.Second
    → given ≡ Polls ways.Downstream room_bytes founds.Second ∷ []
does_second (does_hear holds makes none) is = cc
does_second (does_connect makes none) is = cc
does_second (does_accept makes none) is = cc
does_second {given = given} (does_step {taken = taken} beside makes found) is =
    subst (IsBeside given) is beside

-- what waits on its way
said_way : {rules : Rules} {moment : ℤ} {side : Side} {s next : RunState} {given : List Given}
    {taken : Taken} → Ways rules moment side s next (Some taken) given
    → (given ≡ Closes (way_of side) ∷ [] → ⊥)
    → (next_of rules s ≡ nexts.Reset side → is_open side s.node.lane.body ≡ false)
    → waits_at side next ≡ waits_at side s ++ messages_for side (acts_for taken.input taken.told)
said_way (way_sends none is) open_still unreset = (let never : Some _ ≡ None = none in cc)
said_way (way_closes seen is) open_still unreset = absurd (open_still refl)
said_way (way_says aside is) open_still unreset = is
said_way (way_resets reset held seen is) open_still unreset =
    absurd (true≢false (sym held ∙ unreset reset))

-- ---- the books of a side of the machine itself

-- what its ports gave it before stays given
gave_same : {m place : ℕ} {side : Side} {given : List Given} {taken : Taken} {p q : Pipes}
    → Own m place side given (Some taken) p q → (n : ℕ) → q.gave m side n ≡ p.gave m side n
gave_same (own_same at gave quiet) n = gave n
gave_same (own_comes call is none at gave all) n = all n
gave_same (own_gives call none here at gave all) n = (let never : Some _ ≡ None = none in cc)
gave_same (own_closes call at gave) n = gave n

no_arrival : {side : Side} {given : List Given} {taken : Taken}
    → (c : IsQuietAt side given (Some taken)) → (told : List Act)
    → taken ≡ record { read = []; input = comes_by side; told = told }
    → given ≡ Polls (way_of side) room_bytes founds.Arrived ∷ [] → ⊥
no_arrival c told is call = c.no_come told (ap (λ (x : Taken). Some x) is) call

-- it makes no connection, where its call brings none
plain_input : {reading : Reading} {m : ℕ} {i j : Joined} {p q : Pipes} (t : Turn reading m i j p q)
    (side : Side) → IsQuietAt side t.given (Some t.taken) → t.taken.input ≡ comes_by side → ⊥
plain_input t side quiet is =
    (let c : Comes side t.given t.taken t.next = does_comes side t.does is in no_arrival quiet
    c.told c.is c.call)

polls_closes : {way other : Way} {room : ℕ} {found : GotBytes}
    → Closes way ∷ [] ≡ Polls other room found ∷ [] → ⊥
polls_closes is = cc

-- where it does, a connection comes at the place of the step
comes_own : {reading : Reading} {m : ℕ} {i j : Joined} {p q : Pipes} (t : Turn reading m i j p q)
    (side : Side) → t.taken.input ≡ comes_by side → (p.at m side ≡ None)
    × (q.at m side ≡ Some t.takes.place) × (p.gave m side t.takes.place ≡ [])
comes_own {m = m} {p = p} {q} t side is = by (flows_own t.flows side) where
  c : Comes side t.given t.taken t.next
  c = does_comes side t.does is

  by : Own m t.takes.place side t.given (Some t.taken) p q → (p.at m side ≡ None)
      × (q.at m side ≡ Some t.takes.place) × (p.gave m side t.takes.place ≡ [])
  by (own_same at gave quiet) = absurd (plain_input t side quiet is)
  by (own_comes call some none at gave all) = (none, at, gave)
  by (own_gives call none here at gave all) = (let never : Some _ ≡ None = none in cc)
  by (own_closes call at gave) = absurd (polls_closes (sym call ∙ c.call))

-- what was found at a side waits on, where the side has a connection behind the move and hears
-- nothing
found_stays : {reading : Reading} {m : ℕ} {i j : Joined} {p q : Pipes} (t : Turn reading m i j p q)
    (side : Side) → ((piece : Bor (List ℕ)) → t.taken.input ≡ inputs.Bytes side piece → ⊥)
    → (is_open side t.next.node.lane.body ≡ false → ⊥)
    → found_for side t.next.held.finding ≡ found_for side t.run.state.held.finding
found_stays {m = m} {p = p} {q} t side deaf open_still = by (t.stays side) where
  no_bytes : (bytes : List ℕ) → t.given ≡ Polls (way_of side) room_bytes (founds.Bytes bytes) ∷ []
      → Own m t.takes.place side t.given (Some t.taken) p q → ⊥
  no_bytes bytes is (own_same at gave quiet) = quiet.no_bytes bytes is
  no_bytes bytes is (own_comes call some none at gave all) =
      (let never : Polls (way_of side) room_bytes (founds.Bytes bytes) ∷ []
      ≡ Polls (way_of side) room_bytes founds.Arrived ∷ [] = sym is ∙ call in cc)
  no_bytes bytes is (own_gives call none here at gave all) =
      (let never : Some t.taken ≡ None = none in cc)
  no_bytes bytes is (own_closes call at gave) = polls_closes (sym call ∙ is)

  by : Stays side t.run.state t.next t.given (Some t.taken)
      → found_for side t.next.held.finding ≡ found_for side t.run.state.held.finding
  by (stays_on is) = is
  by (stays_shut shut) = absurd (open_still shut)
  by (stays_found {bytes} is) = absurd (no_bytes bytes is (flows_own t.flows side))
  by (stays_heard some {piece} is input) =
      (let same : t.taken
      ≡ some = cc in absurd (deaf piece (ap (λ (x : Taken). x.input) same ∙ input)))

pub found_own : (side : Side) (bytes : List ℕ)
    → found_for side (Some (seen_finding side (Some bytes))) ≡ bytes
found_own Entry bytes = refl
found_own Exit bytes = refl

-- its machine has no connection there behind it, where no end has
open_behind : {reading : Reading} {m : ℕ} {i j : Joined} {p q : Pipes} (t : Turn reading m i j p q)
    (side : Side) (n : ℕ) (v : Wire) → slice_get (j.line.wires (link_of m side)) n ≡ Some v
    → end_at side v ≡ Has → is_open side t.next.node.lane.body ≡ false → ⊥
open_behind t side n v there is shut = t.after.shut side shut n v there is

record HomeBehind (m : ℕ) (side : Side) (n : ℕ) (v : Wire)
    (took waits gave held : List ℕ) : Type 0 where
  heard : List ℕ
  core : Home side v took waits heard gave held

-- one by one
home_same : {reading : Reading} {m : ℕ} {i j : Joined} {p q : Pipes} (t : Turn reading m i j p q)
    (books : Books i p) (side : Side) (n : ℕ) (v : Wire)
    → slice_get (j.line.wires (link_of m side)) n ≡ Some v
    → (ps : Passed side t.taken.input t.takes.place n
    (messages_for side (acts_for t.taken.input t.taken.told)) (text_of_first t.taken.told)
    (i.line.wires (link_of m side)) v) → read_at side ps.count ps.w ≡ ps.mid
    → ((piece : Bor (List ℕ)) → n ≡ t.takes.place → t.taken.input ≡ inputs.Bytes side piece → ⊥)
    → (b : Book i p m side n ps.w t.run)
    → HomeBehind m side n v (p.took m side n) b.waits (q.gave m side n)
    (found_for side t.next.held.finding)
home_same {m = m} {i} {j} {p} {q} t books side n v there ps same hears b =
    let one : Home side (read_at side ps.count ps.w) (p.took m side n) b.waits b.heard
    (p.gave m side n) (found_for side t.run.state.held.finding) =
    home_read side ps.count ps.w b.core in
    let two : Home side ps.mid (p.took m side n) b.waits b.heard (p.gave m side n)
    (found_for side t.run.state.held.finding) =
    subst (λ (u : Wire). Home side u (p.took m side n) b.waits b.heard (p.gave m side n)
    (found_for side t.run.state.held.finding)) same one in
    let three : Home side v (p.took m side n) b.waits b.heard (p.gave m side n)
    (found_for side t.run.state.held.finding) = home_turned ps.turned two in
    let held_w : end_at side v ≡ Has → end_at side ps.w ≡ Has =
    λ is. sym (read_end side ps.count ps.w) ∙ ap (end_at side) same ∙ ps.turned.had is in
    let deaf : end_at side v ≡ Has → (piece : Bor (List ℕ))
    → t.taken.input ≡ inputs.Bytes side piece → ⊥ =
    λ is piece input. hears piece (own_place is piece input) input in
    record {
      heard = b.heard;
      core = with_gives (q.gave m side n) (found_for side t.next.held.finding)
          (λ is. gave_same (flows_own t.flows side) n ∙ three.gives is ∙ ap
          (λ (f : List ℕ). b.heard
          ++ f) (sym
          (found_stays t side (deaf is) (λ shut. open_behind t side n v there is shut))))
          three;
    }
  where
    own_place : end_at side v ≡ Has → (piece : Bor (List ℕ))
        → t.taken.input ≡ inputs.Bytes side piece → n ≡ t.takes.place
    own_place is piece input =
        let at : IsAt m side t.takes.place Has i.line =
        its_has m t.takes.place side piece t.taken.input i.line input t.takes.of_it in
        let held_now : end_at side ps.w ≡ Has =
        sym (read_end side ps.count ps.w) ∙ ap (end_at side) same ∙ ps.turned.had is in
        some_place
        (sym (books.had m side t.run n ps.w t.there ps.there held_now) ∙ books.had m side t.run
        t.takes.place at.wire t.there at.there at.held)

home_new : {reading : Reading} {m : ℕ} {i j : Joined} {p q : Pipes} (t : Turn reading m i j p q)
    (side : Side) (n : ℕ) (v : Wire)
    → (ps : Passed side t.taken.input t.takes.place n
    (messages_for side (acts_for t.taken.input t.taken.told)) (text_of_first t.taken.told)
    (i.line.wires (link_of m side)) v) → n ≡ t.takes.place → t.taken.input ≡ comes_by side
    → with_end side Has (read_at side ps.count ps.w) ≡ ps.mid
    → (b : Book i p m side n ps.w t.run)
    → HomeBehind m side n v (p.took m side n) b.waits (q.gave m side n)
    (found_for side t.next.held.finding)
home_new {m = m} {i} {j} {p} {q} t side n v ps at is change b =
    let r : Wire = read_at side ps.count ps.w in
    let own : end_at side r ≡ Awaits =
    read_end side ps.count ps.w ∙ its_end
    (its_awaits m t.takes.place side t.taken.input i.line is t.takes.of_it) at ps.there in
    let one : Home side r (p.took m side n) b.waits b.heard (p.gave m side n)
    (found_for side t.run.state.held.finding) = home_read side ps.count ps.w b.core in
    let two : Home side ps.mid (p.took m side n) b.waits b.heard [] [] =
    subst (λ (u : Wire). Home side u (p.took m side n) b.waits b.heard [] []) change
    (home_opens side r own one) in
    let three : Home side v (p.took m side n) b.waits b.heard [] [] = home_turned ps.turned two in
    let c : Comes side t.given t.taken t.next = does_comes side t.does is in
    let facts : (p.at m side ≡ None) × (q.at m side ≡ Some t.takes.place)
    × (p.gave m side t.takes.place ≡ []) = comes_own t side is in
    let gave : q.gave m side n ≡ [] =
    gave_same (flows_own t.flows side) n ∙ ap (p.gave m side) at ∙ facts.2 in
    record {
      heard = b.heard;
      core = with_gives (q.gave m side n) (found_for side t.next.held.finding) (λ has_one.
          gave ∙ three.gives has_one ∙ ap (λ (f : List ℕ). b.heard
          ++ f) (sym (ap (found_for side) c.none))) three;
    }

home_hearing : {reading : Reading} {m : ℕ} {i j : Joined} {p q : Pipes}
    (t : Turn reading m i j p q) (side : Side) (n : ℕ) (v : Wire)
    → (ps : Passed side t.taken.input t.takes.place n
    (messages_for side (acts_for t.taken.input t.taken.told)) (text_of_first t.taken.told)
    (i.line.wires (link_of m side)) v) → (piece : Bor (List ℕ)) → n ≡ t.takes.place
    → t.taken.input ≡ inputs.Bytes side piece
    → given side (length piece.now) (read_at side ps.count ps.w) ≡ ps.mid
    → (b : Book i p m side n ps.w t.run)
    → HomeBehind m side n v (p.took m side n) b.waits (q.gave m side n)
    (found_for side t.next.held.finding)
home_hearing {m = m} {i} {j} {p} {q} t side n v ps piece at is change b =
    let r : Wire = read_at side ps.count ps.w in
    let held_w : end_at side ps.w ≡ Has =
    its_end (its_has m t.takes.place side piece t.taken.input i.line is t.takes.of_it) at
    ps.there in
    let own : end_at side r ≡ Has = read_end side ps.count ps.w ∙ held_w in
    let h : Hears side piece t.run.state t.next = does_hears side piece t.does is in
    let come : ComeTo m side piece.now i.line =
    subst (λ (f : Option Finding). Held m f i.line) h.held t.before.found in
    let front : IsFront piece.now (bytes_of (coming_to side ps.w)) =
    come.front n ps.w ps.there held_w in
    let not : end_at side r ≡ Left → ⊥ = λ left. left_has (sym left ∙ own) in
    let all : bytes_of (coming_to side r) ≡ piece.now ++ front.rest =
    (turned_read side ps.count ps.w).comes not ∙ front.parts in
    let held_is : found_for side t.run.state.held.finding ≡ piece.now =
    ap (found_for side) h.held ∙ found_own side piece.now in
    let one : Home side r (p.took m side n) b.waits b.heard (p.gave m side n)
    (found_for side t.run.state.held.finding) = home_read side ps.count ps.w b.core in
    let two : Home side ps.mid (p.took m side n) b.waits (b.heard
    ++ piece.now) (p.gave m side n) [] =
    subst (λ (u : Wire). Home side u (p.took m side n) b.waits (b.heard
    ++ piece.now) (p.gave m side n) []) (sym (given_is side (length piece.now) r own) ∙ change)
    (home_hears side r piece.now front.rest own all held_is one) in
    let three : Home side v (p.took m side n) b.waits (b.heard ++ piece.now) (p.gave m side n) [] =
    home_turned ps.turned two in
    record {
      heard = b.heard ++ piece.now;
      core = with_gives (q.gave m side n) (found_for side t.next.held.finding) (λ has_one.
          gave_same (flows_own t.flows side) n ∙ three.gives has_one ∙ ap
          (λ (f : List ℕ). (b.heard ++ piece.now) ++ f) (sym (ap (found_for side) h.none))) three;
    }

home_refusing : {reading : Reading} {m : ℕ} {i j : Joined} {p q : Pipes}
    (t : Turn reading m i j p q) (n : ℕ) (v : Wire) (place : ℕ) (text first : List ℕ)
    → (ps : Passed Exit t.taken.input place n text first (i.line.wires (link_of m Exit)) v)
    → (c : List Coming) → answered c (with_end Exit Left (read_at Exit ps.count ps.w)) ≡ ps.mid
    → (b : Book i p m Exit n ps.w t.run)
    → HomeBehind m Exit n v (p.took m Exit n) b.waits (q.gave m Exit n)
    (found_for Exit t.next.held.finding)
home_refusing {m = m} {i} {j} {p} {q} t n v place text first ps c change b =
    let r : Wire = read_at Exit ps.count ps.w in
    let one : Home Exit r (p.took m Exit n) b.waits b.heard (p.gave m Exit n)
    (found_for Exit t.run.state.held.finding) = home_read Exit ps.count ps.w b.core in
    let two : Home Exit ps.mid (p.took m Exit n) b.waits b.heard (q.gave m Exit n)
    (found_for Exit t.next.held.finding) =
    subst (λ (u : Wire). Home Exit u (p.took m Exit n) b.waits b.heard (q.gave m Exit n)
    (found_for Exit t.next.held.finding)) change
    (home_refused c r (q.gave m Exit n) (found_for Exit t.next.held.finding) one) in
    record { heard = b.heard; core = home_turned ps.turned two }

home_at : {reading : Reading} {m : ℕ} {i j : Joined} {p q : Pipes} (t : Turn reading m i j p q)
    (books : Books i p) (side : Side) (n : ℕ) (v : Wire)
    → slice_get (j.line.wires (link_of m side)) n ≡ Some v
    → (ps : Passed side t.taken.input t.takes.place n
    (messages_for side (acts_for t.taken.input t.taken.told)) (text_of_first t.taken.told)
    (i.line.wires (link_of m side)) v)
    → MidIs side t.taken.input t.takes.place n (text_of_first t.taken.told)
    (read_at side ps.count ps.w) ps.mid → (b : Book i p m side n ps.w t.run)
    → HomeBehind m side n v (p.took m side n) b.waits (q.gave m side n)
    (found_for side t.next.held.finding)
home_at t books side n v there ps (mid_same same opens hears seconds) b =
    home_same t books side n v there ps same hears b
home_at t books side n v there ps (mid_opens at is change) b =
    home_new t side n v ps at is change b
home_at t books side n v there ps (mid_hears piece at is change) b =
    home_hearing t side n v ps piece at is change b
home_at t books Exit n v there ps (mid_refused at exit is c are change) b =
    home_refusing t n v t.takes.place (messages_for Exit (acts_for t.taken.input t.taken.told))
    (text_of_first t.taken.told) ps c change b
home_at t books Entry n v there ps (mid_refused at exit is c are change) b =
    absurd (no_second_entry exit)

-- ---- the runs behind it

pub own_state : {m : ℕ} (i j : Joined) (run : NodeRun) (next : RunState) → 1 ≤ m
    → j.runs ≡ with_state m run next i.runs → (far : NodeRun) → run_of m j ≡ Some far
    → far.state ≡ next
own_state {m} i j run next some is far there =
    by (run_behind m run next i j some is m far there) where
      by : ((m ≡ m) × (next ≡ far.state)) ⊎ ((m ≢ m) × (run_of m i ≡ Some far)) → far.state ≡ next
      by (inl own) = sym own.1
      by (inr past) = absurd (past.0 refl)

pub else_run : {m : ℕ} (i j : Joined) (run : NodeRun) (next : RunState) → 1 ≤ m
    → j.runs ≡ with_state m run next i.runs → (k : ℕ) → k ≢ m → (far : NodeRun)
    → run_of k j ≡ Some far → run_of k i ≡ Some far
else_run {m} i j run next some is k apart far there =
    by (run_behind m run next i j some is k far there) where
      by : ((k ≡ m) × (next ≡ far.state)) ⊎ ((k ≢ m) × (run_of k i ≡ Some far))
          → run_of k i ≡ Some far
      by (inl own) = absurd (apart own.0)
      by (inr past) = past.1

pub own_book : {reading : Reading} {m : ℕ} {i j : Joined} {p q : Pipes}
    (t : Turn reading m i j p q) (books : Books i p) (side : Side) (n : ℕ) (v : Wire)
    → slice_get (j.line.wires (link_of m side)) n ≡ Some v → (run : NodeRun) → run.state ≡ t.next
    → Book j q m side n v run
own_book {m = m} {i} {j} {p} {q} t books side n v there run is =
    let ps : Passed side t.taken.input t.takes.place n
    (messages_for side (acts_for t.taken.input t.taken.told)) (text_of_first t.taken.told)
    (i.line.wires (link_of m side)) v = passed t side n v there in
    let b : Book i p m side n ps.w t.run = books.book m side t.run n ps.w t.there ps.there in
    let h : HomeBehind m side n v (p.took m side n) b.waits (q.gave m side n)
    (found_for side t.next.held.finding) = home_at t books side n v there ps ps.is b in
    let took : q.took m side n ≡ p.took m side n =
    flows_took_else t.flows m side n (λ at same other. beyond_else m at t.some (sym same)) in
    let one : Home side v (q.took m side n) b.waits h.heard (q.gave m side n)
    (found_for side t.next.held.finding) =
    subst (λ (x : List ℕ). Home side v x b.waits h.heard (q.gave m side n)
    (found_for side t.next.held.finding)) (sym took) h.core in
    record {
      heard = h.heard;
      waits = b.waits;
      core = subst (λ (s : RunState). Home side v (q.took m side n) b.waits h.heard
          (q.gave m side n) (found_for side s.held.finding)) (sym is) one;
      now = λ at far so.
          b.now (sym
          (flows_at_else t.flows (beyond m side) (other side) (beyond_else m side t.some)) ∙ at)
          far
          (else_run i j t.run t.next t.some t.after_is (beyond m side)
          (beyond_else m side t.some) far so);
    }

-- ---- the books of an end beyond it

-- nothing is said where the machine has no connection
silent_closed : {reading : Reading} {m : ℕ} {i j : Joined} {p q : Pipes}
    (t : Turn reading m i j p q) (side : Side)
    → opened_by t.taken.input side (is_open side t.run.state.node.lane.body) ≡ false
    → messages_for side (acts_for t.taken.input t.taken.told) ≡ []
silent_closed t side shut =
    silent_then side (acts_for t.taken.input t.taken.told)
    (subst (λ (o : Bool). AreSaidOpen side o (acts_for t.taken.input t.taken.told)) shut
    (said_for t.taken.input side
    (opened_by t.taken.input side (is_open side t.run.state.node.lane.body)) t.taken.told
    t.first (t.spoken.says side)))

-- one that is refused was awaited
second_awaits : {reading : Reading} {m : ℕ} {i j : Joined} {p q : Pipes}
    (t : Turn reading m i j p q) (side : Side) {n : ℕ} {w : Wire}
    → slice_get (i.line.wires (link_of m side)) n ≡ Some w → n ≡ t.takes.place → side ≡ Exit
    → t.taken.input ≡ inputs.Second → end_at side w ≡ Awaits
second_awaits {m = m} {i} t Exit there here exit second =
    its_end (its_second m t.takes.place t.taken.input i.line second t.takes.of_it) here there
second_awaits t Entry there here exit second = absurd (no_second_entry exit)

-- a connection whose place the ports have carries all that the machine says
text_told : {reading : Reading} {m : ℕ} {i j : Joined} {p q : Pipes} (t : Turn reading m i j p q)
    (books : Books i p) (side : Side) {n : ℕ} {w mid : Wire}
    → slice_get (i.line.wires (link_of m side)) n ≡ Some w → p.at m side ≡ Some n
    → (t.taken.input ≡ comes_by side → ⊥)
    → MidEnd side t.taken.input t.takes.place n w mid → (test : Bool)
    → has (end_at side mid) ≡ test
    → told_if test (messages_for side (acts_for t.taken.input t.taken.told))
    ≡ messages_for side (acts_for t.taken.input t.taken.told)
text_told t books side there at plain mids true is = refl
text_told {m = m} {i} {p = p} t books side {n} {w} {mid} there at plain mids false is =
    by (is_open side t.run.state.node.lane.body) refl where
      text : List ℕ
      text = messages_for side (acts_for t.taken.input t.taken.told)

      held_now : SomeHas m side i.line → end_at side w ≡ Has
      held_now some =
          (let same : some.place
          ≡ n = some_place
          (sym (books.had m side t.run some.place some.wire t.there some.there some.held) ∙ at) in
          let one : some.wire ≡ w =
          some_wire
          (sym some.there ∙ ap (slice_get (i.line.wires (link_of m side))) same ∙ there) in
          ap (end_at side) (sym one) ∙ some.held)

      never : MidEnd side t.taken.input t.takes.place n w mid → end_at side w ≡ Has → ⊥
      never (end_same same opens) held = false≢true (sym is ∙ ap has (same ∙ held))
      never (end_opens here opens same) held = plain opens
      never (end_left same here exit second) held =
          has_awaits (sym held ∙ second_awaits t side there here exit second)

      by : (test : Bool) → is_open side t.run.state.node.lane.body ≡ test → [] ≡ text
      by false shut =
          sym (silent_closed t side
          (opened_not t.taken.input side (is_open side t.run.state.node.lane.body) plain ∙ shut))
      by true open_now = absurd (never mids (held_now (t.before.had side open_now)))

pub back_number : (m : ℕ) (side : Side) → 1 ≤ m → beyond (beyond m side) (other side) ≡ m
back_number m Entry some = omega (arith, some)
back_number m Exit some = omega arith

pub back_side : (side : Side) → other (other side) ≡ side
back_side Entry = refl
back_side Exit = refl

pub back_at : (p : Pipes) (m : ℕ) (side : Side) → 1 ≤ m
    → p.at (beyond (beyond m side) (other side)) (other (other side)) ≡ p.at m side
back_at p m side some =
    ap (λ (k : ℕ). p.at k (other (other side))) (back_number m side some) ∙ ap (p.at m)
    (back_side side)

pub back_run : (j : Joined) (m : ℕ) (side : Side) → 1 ≤ m
    → run_of (beyond (beyond m side) (other side)) j ≡ run_of m j
back_run j m side some = ap (λ (k : ℕ). run_of k j) (back_number m side some)

record AwayBehind (side : Side) (v : Wire) (took heard gave held : List ℕ) : Type 0 where
  waits : List ℕ
  core : Away side v took waits heard gave held

second_comes : {X : Type 0} (side : Side) → inputs.Second ≡ comes_by side → X
second_comes Entry is = cc
second_comes Exit is = cc

pub closes_polls : {X : Type 0} {given : List Given} {way other : Way} {room : ℕ}
    {found : GotBytes} → given ≡ Polls other room found ∷ [] → given ≡ Closes way ∷ [] → X
closes_polls call is =
    (let never : Polls _ _ _ ∷ [] ≡ Closes _ ∷ [] = sym call ∙ is in absurd
    (polls_closes (sym never)))

pub some_taken : {a b : Taken} → Some a ≡ Some b → a ≡ b
some_taken is = cc

-- what the ports took for it is as it was, but at a second connection
took_same : {reading : Reading} {m : ℕ} {i j : Joined} {p q : Pipes} (t : Turn reading m i j p q)
    (side : Side) (n : ℕ) → (n ≡ t.takes.place → side ≡ Exit → t.taken.input ≡ inputs.Second → ⊥)
    → q.took (beyond m side) (other side) n ≡ p.took (beyond m side) (other side) n
took_same {m = m} {p = p} {q} t side n not = by (flows_far t.flows side) where
  by : Far m t.takes.place side t.given (Some t.taken) p q
      → q.took (beyond m side) (other side) n ≡ p.took (beyond m side) (other side) n
  by (far_same same quiet seconds) = same n
  by (far_takes call none here took all) = (let never : Some t.taken ≡ None = none in cc)
  by (far_refuses exit call is took all) = which (same_or_not n t.takes.place) where
    which : (n ≡ t.takes.place) ⊎ (n ≢ t.takes.place)
        → q.took (beyond m side) (other side) n ≡ p.took (beyond m side) (other side) n
    which (inl at) = absurd (not at exit (ap (λ (x : Taken). x.input) (some_taken is)))
    which (inr apart) = all n apart

-- the text waits behind what waited
now_said : {reading : Reading} {m : ℕ} {i j : Joined} {p q : Pipes} (t : Turn reading m i j p q)
    (books : Books i p) (side : Side) (n : ℕ) (w mid : Wire)
    → slice_get (i.line.wires (link_of m side)) n ≡ Some w
    → MidEnd side t.taken.input t.takes.place n w mid → (waits : List ℕ)
    → (p.at m side ≡ Some n → waits ≡ waits_at side t.run.state)
    → (end_at side w ≡ Awaits → waits ≡ []) → q.at m side ≡ Some n
    → waits ++ told_if (has (end_at side mid))
    (messages_for side (acts_for t.taken.input t.taken.told)) ≡ waits_at side t.next
now_said {m = m} {i} {p = p} {q} t books side n w mid there mids waits now fresh at =
    by (flows_own t.flows side) where
      text : List ℕ
      text = messages_for side (acts_for t.taken.input t.taken.told)

      said_so : (t.given ≡ Closes (way_of side) ∷ [] → ⊥)
          → waits_at side t.next ≡ waits_at side t.run.state ++ text
      said_so open_still = said_way (t.ways side) open_still (t.unreset side)

      all_told : t.taken.input ≡ comes_by side → n ≡ t.takes.place
          → MidEnd side t.taken.input t.takes.place n w mid
          → told_if (has (end_at side mid)) text ≡ text
      all_told is here (end_same same not) = absurd (not here is)
      all_told is here (end_opens now_here opens same) = ap (λ (h : Hold). told_if (has h) text) same
      all_told is here (end_left same now_here exit second) = second_comes side (sym second ∙ is)

      by : Own m t.takes.place side t.given (Some t.taken) p q
          → waits ++ told_if (has (end_at side mid)) text ≡ waits_at side t.next
      by (own_same same gave quiet) =
          (let was : p.at m side ≡ Some n = sym same ∙ at in
          ap (λ (x : List ℕ). waits
          ++ x) (text_told t books side there was (plain_input t side quiet) mids
          (has (end_at side mid)) refl)
          ∙ ap (λ (x : List ℕ). x ++ text) (now was) ∙ sym (said_so quiet.no_close))
      by (own_comes call is none now_at gave all) =
          (let here : n ≡ t.takes.place = some_place (sym at ∙ now_at) in
          let input : t.taken.input ≡ comes_by side = ap (λ (x : Taken). x.input) (some_taken is) in
          let awaits : end_at side w ≡ Awaits =
          its_end (its_awaits m t.takes.place side t.taken.input i.line input t.takes.of_it) here
          there in
          ap (λ (x : List ℕ). x ++ told_if (has (end_at side mid)) text)
          (fresh awaits) ∙ all_told input here mids
          ∙ sym (said_so (λ closes. closes_polls call closes) ∙ ap (λ (x : List ℕ). x
          ++ text) (books.rest m side t.run t.there none)))
      by (own_gives call none here now_at gave all) = (let never : Some t.taken ≡ None = none in cc)
      by (own_closes call now_at gave) = (let never : None ≡ Some n = sym now_at ∙ at in cc)

-- a connection of which no answer is
away_plain : {reading : Reading} {m : ℕ} {i j : Joined} {p q : Pipes} (t : Turn reading m i j p q)
    (books : Books i p) (side : Side) (n : ℕ) (v : Wire)
    → (ps : Passed side t.taken.input t.takes.place n
    (messages_for side (acts_for t.taken.input t.taken.told)) (text_of_first t.taken.told)
    (i.line.wires (link_of m side)) v) → (run : NodeRun) → run_of (beyond m side) j ≡ Some run
    → (b : Book i p (beyond m side) (other side) n ps.w run)
    → Away side ps.mid (p.took (beyond m side) (other side) n) b.waits b.heard
    (p.gave (beyond m side) (other side) n) (found_for (other side) run.state.held.finding)
    → (n ≡ t.takes.place → side ≡ Exit → t.taken.input ≡ inputs.Second → ⊥)
    → Book j q (beyond m side) (other side) n v run
away_plain {m = m} {i} {j} {p} {q} t books side n v ps run there b core not =
    let k : ℕ = beyond m side in
    let at : Side = other side in
    let text : List ℕ = messages_for side (acts_for t.taken.input t.taken.told) in
    let waits : List ℕ = b.waits ++ told_if (has (end_at side ps.mid)) text in
    let one : Away side v (p.took k at n) waits b.heard (p.gave k at n)
    (found_for at run.state.held.finding) = away_turned ps.turned core in
    let took : q.took k at n ≡ p.took k at n = took_same t side n not in
    let gave : q.gave k at n ≡ p.gave k at n =
    flows_gave_else t.flows k at n (beyond_else m side t.some) in
    let two : Away side v (q.took k at n) waits b.heard (q.gave k at n)
    (found_for at run.state.held.finding) =
    subst (λ (x : List ℕ). Away side v x waits b.heard (q.gave k at n)
    (found_for at run.state.held.finding)) (sym took)
    (subst (λ (x : List ℕ). Away side v (p.took k at n) waits b.heard x
    (found_for at run.state.held.finding)) (sym gave) one) in
    let before : p.at m side ≡ Some n → b.waits ≡ waits_at side t.run.state = λ was.
    b.now (back_at p m side t.some ∙ was) t.run (back_run i m side t.some ∙ t.there) ∙ ap
    (λ (x : Side). waits_at x t.run.state) (back_side side) in
    let fresh : end_at side ps.w ≡ Awaits → b.waits ≡ [] =
    λ awaits. ((home_away side ps.w b.core).fresh awaits).1 in
    record {
      heard = b.heard;
      waits = waits;
      core = away_home side v two;
      now = λ is far so.
          now_said t books side n ps.w ps.mid ps.there
          (mid_end ps.count ps.is) b.waits before fresh (sym (back_at q m side t.some) ∙ is)
          ∙ ap (waits_at side)
          (sym (own_state i j t.run t.next t.some t.after_is far
          (sym (back_run j m side t.some) ∙ so)))
          ∙ ap (λ (x : Side). waits_at x far.state) (sym (back_side side));
    }

-- the one that is refused
taken_second : {reading : Reading} {m : ℕ} {i j : Joined} {p q : Pipes}
    (t : Turn reading m i j p q) → t.taken.input ≡ inputs.Second
    → t.taken ≡ record { read = []; input = inputs.Second; told = t.taken.told }
taken_second t is =
    let none : t.taken.read ≡ [] = subst (λ (x : Input). ReadsBy x t.taken.read) is t.reads in
    ap (λ (x : List Sensed). record {
      read = x;
      input = t.taken.input;
      told = t.taken.told;
    }) none ∙ ap (λ (x : Input). record {
      read = [];
      input = x;
      told =
          t.taken.told;
    }) is

took_first : {reading : Reading} {m : ℕ} {i j : Joined} {p q : Pipes} (t : Turn reading m i j p q)
    → t.taken.input ≡ inputs.Second
    → q.took (beyond m Exit) Entry t.takes.place ≡ p.took (beyond m Exit) Entry t.takes.place
    ++ text_of_first t.taken.told
took_first {m = m} {p = p} {q} t is = by (flows_far t.flows Exit) where
  by : Far m t.takes.place Exit t.given (Some t.taken) p q
      → q.took (beyond m Exit) Entry t.takes.place ≡ p.took (beyond m Exit) Entry t.takes.place
      ++ text_of_first t.taken.told
  by (far_same same quiet seconds) =
      absurd (seconds t.taken.told refl (ap (λ (x : Taken). Some x) (taken_second t is))
      (does_second t.does is))
  by (far_takes call none here took all) = (let never : Some t.taken ≡ None = none in cc)
  by (far_refuses exit call some took all) =
      took ∙ ap (λ (x : Taken). p.took (beyond m Exit) Entry t.takes.place ++ text_of_first x.told)
      (sym (some_taken some))

away_second : {reading : Reading} {m : ℕ} {i j : Joined} {p q : Pipes} (t : Turn reading m i j p q)
    (books : Books i p) (n : ℕ) (v : Wire)
    → (ps : Passed Exit t.taken.input t.takes.place n
    (messages_for Exit (acts_for t.taken.input t.taken.told)) (text_of_first t.taken.told)
    (i.line.wires (link_of m Exit)) v) → (run : NodeRun) → run_of (beyond m Exit) j ≡ Some run
    → (b : Book i p (beyond m Exit) Entry n ps.w run) → n ≡ t.takes.place
    → t.taken.input ≡ inputs.Second → (c : List Coming)
    → bytes_of c ≡ text_of_first t.taken.told
    → answered c (with_end Exit Left (read_at Exit ps.count ps.w)) ≡ ps.mid
    → Book j q (beyond m Exit) Entry n v run
away_second {m = m} {i} {j} {p} {q} t books n v ps run there b at is c are change =
    let k : ℕ = beyond m Exit in
    let r : Wire = read_at Exit ps.count ps.w in
    let first : List ℕ = text_of_first t.taken.told in
    let awaits : end_at Exit ps.w ≡ Awaits = second_awaits t Exit ps.there at refl is in
    let held : List ℕ = found_for Entry run.state.held.finding in
    let zero_core : Away Exit ps.w (p.took k Entry n) b.waits b.heard (p.gave k Entry n) held =
    home_away Exit ps.w b.core in
    let none : (p.took k Entry n ≡ []) × (b.waits ≡ []) = zero_core.fresh awaits in
    let one : Away Exit r (p.took k Entry n) b.waits b.heard (p.gave k Entry n) held =
    away_read Exit ps.count ps.w zero_core in
    let two : Away Exit ps.mid (p.took k Entry n ++ first) [] b.heard (p.gave k Entry n) held =
    subst (λ (u : Wire). Away Exit u (p.took k Entry n ++ first) [] b.heard
    (p.gave k Entry n) held) change (away_refused c r first are none one) in
    let text : List ℕ = messages_for Exit (acts_for t.taken.input t.taken.told) in
    let waits : List ℕ = [] ++ told_if (has (end_at Exit ps.mid)) text in
    let three : Away Exit v (p.took k Entry n ++ first) waits b.heard (p.gave k Entry n) held =
    away_turned ps.turned two in
    let took : q.took k Entry n ≡ p.took k Entry n ++ first =
    ap (q.took k Entry) at ∙ took_first t is ∙ ap (λ (x : ℕ). p.took k Entry x
    ++ first) (sym at) in
    let gave : q.gave k Entry n ≡ p.gave k Entry n =
    flows_gave_else t.flows k Entry n (beyond_else m Exit t.some) in
    let four : Away Exit v (q.took k Entry n) waits b.heard (q.gave k Entry n) held =
    subst (λ (x : List ℕ). Away Exit v x waits b.heard (q.gave k Entry n) held) (sym took)
    (subst (λ (x : List ℕ). Away Exit v (p.took k Entry n ++ first) waits b.heard x held)
    (sym gave) three) in
    record {
      heard = b.heard;
      waits = waits;
      core = away_home Exit v four;
      now = λ now far so.
          absurd (never awaits (sym (back_at q m Exit t.some) ∙ now));
    }
  where
    never : end_at Exit ps.w ≡ Awaits → q.at m Exit ≡ Some n → ⊥
    never awaits now = by (flows_own t.flows Exit) where
      by : Own m t.takes.place Exit t.given (Some t.taken) p q → ⊥
      by (own_same same gave quiet) =
          books.awaited m Exit t.run n ps.w t.there ps.there awaits (sym same ∙ now)
      by (own_comes call some none now_at gave all) =
          second_comes Exit (sym is ∙ ap (λ (x : Taken). x.input) (some_taken some))
      by (own_gives call none here now_at gave all) = (let no : Some t.taken ≡ None = none in cc)
      by (own_closes call now_at gave) = (let no : None ≡ Some n = sym now_at ∙ now in cc)

far_by : {reading : Reading} {m : ℕ} {i j : Joined} {p q : Pipes} (t : Turn reading m i j p q)
    (books : Books i p) (side : Side) (n : ℕ) (v : Wire)
    → (ps : Passed side t.taken.input t.takes.place n
    (messages_for side (acts_for t.taken.input t.taken.told)) (text_of_first t.taken.told)
    (i.line.wires (link_of m side)) v) → (run : NodeRun) → run_of (beyond m side) j ≡ Some run
    → (b : Book i p (beyond m side) (other side) n ps.w run)
    → MidIs side t.taken.input t.takes.place n (text_of_first t.taken.told)
    (read_at side ps.count ps.w) ps.mid → Book j q (beyond m side) (other side) n v run
far_by {m = m} {p = p} t books side n v ps run there b (mid_same same opens hears seconds) =
    away_plain t books side n v ps run there b
    (subst (λ (u : Wire). Away side u (p.took (beyond m side) (other side) n) b.waits b.heard
    (p.gave (beyond m side) (other side) n) (found_for (other side) run.state.held.finding))
    same (away_read side ps.count ps.w (home_away side ps.w b.core))) seconds
far_by {m = m} {p = p} t books side n v ps run there b (mid_opens at is change) =
    away_plain t books side n v ps run there b
    (subst (λ (u : Wire). Away side u (p.took (beyond m side) (other side) n) b.waits b.heard
    (p.gave (beyond m side) (other side) n) (found_for (other side) run.state.held.finding))
    change (away_opens side (read_at side ps.count ps.w)
    (away_read side ps.count ps.w (home_away side ps.w b.core))))
    (λ here exit second. second_comes side (sym second ∙ is))
far_by {m = m} {i} {p = p} t books side n v ps run there b (mid_hears piece at is change) =
    let r : Wire = read_at side ps.count ps.w in
    let own : end_at side r ≡ Has =
    read_end side ps.count ps.w ∙ its_end
    (its_has m t.takes.place side piece t.taken.input i.line is t.takes.of_it) at ps.there in
    away_plain t books side n v ps run there b
    (subst (λ (u : Wire). Away side u (p.took (beyond m side) (other side) n) b.waits b.heard
    (p.gave (beyond m side) (other side) n) (found_for (other side) run.state.held.finding))
    (sym (given_is side (length piece.now) r own) ∙ change)
    (away_hears side (drop (length piece.now) (coming_to side r)) r
    (away_read side ps.count ps.w (home_away side ps.w b.core))))
    (λ here exit second. bytes_second is second)
  where
    bytes_second : t.taken.input ≡ inputs.Bytes side piece → t.taken.input ≡ inputs.Second → ⊥
    bytes_second is second =
        (let no : inputs.Bytes side piece ≡ inputs.Second = sym is ∙ second in cc)
far_by t books Exit n v ps run there b (mid_refused at exit is c are change) =
    away_second t books n v ps run there b at is c are change
far_by t books Entry n v ps run there b (mid_refused at exit is c are change) =
    absurd (no_second_entry exit)

pub far_book : {reading : Reading} {m : ℕ} {i j : Joined} {p q : Pipes}
    (t : Turn reading m i j p q) (books : Books i p) (side : Side) (n : ℕ) (v : Wire)
    → slice_get (j.line.wires (link_of m side)) n ≡ Some v → (run : NodeRun)
    → run_of (beyond m side) j ≡ Some run
    → Book j q (beyond m side) (other side) n v run
far_book {m = m} {i} {j} {p} {q} t books side n v there run so =
    let ps : Passed side t.taken.input t.takes.place n
    (messages_for side (acts_for t.taken.input t.taken.told)) (text_of_first t.taken.told)
    (i.line.wires (link_of m side)) v = passed t side n v there in
    let was : run_of (beyond m side) i ≡ Some run =
    else_run i j t.run t.next t.some t.after_is (beyond m side)
    (beyond_else m side t.some) run so in
    far_by t books side n v ps run so
    (books.book (beyond m side) (other side) run n ps.w was
    (ap (λ (l : ℕ). slice_get (i.line.wires l) n) (far_link m side) ∙ ps.there)) ps.is

-- ---- what else is kept, of the machine's own sides

-- a close of its way: the machine notices it first
pub own_way : (side : Side) {X : Type 0} → is_same_way (way_of side) (way_of side) ≡ false → X
own_way Entry is = absurd (true≢false is)
own_way Exit is = absurd (true≢false is)

record Closing (side : Side) (s next : RunState) (taken : Taken) : Type 0 where
  read : taken.read ≡ []
  input : taken.input ≡ inputs.Notice side
  waits : waits_at side next ≡ messages_for side (acts_for taken.input taken.told)

closing_of : {rules : Rules} {moment : ℤ} {side : Side} {s next : RunState} {taken : Taken}
    {given : List Given} → Ways rules moment side s next (Some taken) given
    → given ≡ Closes (way_of side) ∷ [] → Closing side s next taken
closing_of (way_sends none is) call = (let no : Some _ ≡ None = none in cc)
closing_of (way_closes notices is) call = record { read = refl; input = refl; waits = is }
closing_of {side = side} (way_says aside is) call = own_way side (subst (IsOther side) call aside)
closing_of (way_resets reset held seen is) call = (let no : [] ≡ Closes _ ∷ [] = call in cc)

-- where a close is told first nothing is said, and no connection is left
notice_silent : (side : Side) (o : Bool) (rest : List Act)
    → AreSaidOpen side o (acts.Notices side ∷ rest)
    → messages_for side (acts.Notices side ∷ rest) ≡ []
notice_silent Entry o rest said = silent_then Entry rest said.1
notice_silent Exit o rest said = silent_then Exit rest said.1

notice_shuts : (side : Side) (o : Bool) (rest : List Act)
    → open_after side o (acts.Notices side ∷ rest) ≡ false
notice_shuts Entry o rest = closed-stays Entry rest
notice_shuts Exit o rest = closed-stays Exit rest

notices_first : {reading : Reading} {m : ℕ} {i j : Joined} {p q : Pipes}
    (t : Turn reading m i j p q) (side : Side) → t.taken.read ≡ []
    → t.taken.input ≡ inputs.Notice side → NoticesFirst side t.taken.told
notices_first t side none is =
    subst (λ (x : Input). NoticesIf [] x t.taken.told) is
    (subst (λ (x : List Sensed). NoticesIf x t.taken.input t.taken.told) none t.spoken.notices)

closed_none : {reading : Reading} {m : ℕ} {i j : Joined} {p q : Pipes} (t : Turn reading m i j p q)
    (side : Side) (n : ℕ) (v : Wire) → slice_get (j.line.wires (link_of m side)) n ≡ Some v
    → end_at side v ≡ Has → t.given ≡ Closes (way_of side) ∷ [] → ⊥
closed_none t side n v there held call =
    let c : Closing side t.run.state t.next t.taken = closing_of (t.ways side) call in
    let f : NoticesFirst side t.taken.told = notices_first t side c.read c.input in
    let o : Bool = opened_by t.taken.input side (is_open side t.run.state.node.lane.body) in
    open_behind t side n v there held
    (t.behind side ∙ ap (open_after side o) f.is ∙ notice_shuts side o f.rest)

closed_waits : {reading : Reading} {m : ℕ} {i j : Joined} {p q : Pipes}
    (t : Turn reading m i j p q) (side : Side) → t.given ≡ Closes (way_of side) ∷ []
    → waits_at side t.next ≡ []
closed_waits t side call =
    let c : Closing side t.run.state t.next t.taken = closing_of (t.ways side) call in
    let f : NoticesFirst side t.taken.told = notices_first t side c.read c.input in
    let o : Bool = opened_by t.taken.input side (is_open side t.run.state.node.lane.body) in
    let said : AreSaidOpen side o (acts.Notices side ∷ f.rest) =
    subst (AreSaidOpen side o) f.is (t.spoken.says side) in
    c.waits ∙ ap (λ (x : Input). messages_for side (acts_for x t.taken.told)) c.input ∙ ap
    (messages_for side) f.is ∙ notice_silent side o f.rest said

pub own_had : {reading : Reading} {m : ℕ} {i j : Joined} {p q : Pipes} (t : Turn reading m i j p q)
    (books : Books i p) (side : Side) (n : ℕ) (v : Wire)
    → slice_get (j.line.wires (link_of m side)) n ≡ Some v → end_at side v ≡ Has
    → q.at m side ≡ Some n
own_had {m = m} {i} {j} {p} {q} t books side n v there held =
    by (flows_own t.flows side) (mid_end ps.count ps.is) where
      ps : Passed side t.taken.input t.takes.place n
          (messages_for side (acts_for t.taken.input t.taken.told)) (text_of_first t.taken.told)
          (i.line.wires (link_of m side)) v
      ps = passed t side n v there

      mid_held : end_at side ps.mid ≡ Has
      mid_held = ps.turned.had held

      was : end_at side ps.mid ≡ end_at side ps.w → p.at m side ≡ Some n
      was same = books.had m side t.run n ps.w t.there ps.there (sym same ∙ mid_held)

      by : Own m t.takes.place side t.given (Some t.taken) p q
          → MidEnd side t.taken.input t.takes.place n ps.w ps.mid → q.at m side ≡ Some n
      by (own_same at gave quiet) (end_same same not) = at ∙ was same
      by (own_same at gave quiet) (end_opens here is same) = absurd (plain_input t side quiet is)
      by (own_comes call is none at gave all) (end_same same not) =
          (let no : None ≡ Some n = sym none ∙ was same in cc)
      by (own_comes call is none at gave all) (end_opens here opens same) =
          at ∙ ap (λ (x : ℕ). Some x) (sym here)
      by (own_gives call none here at gave all) ends = (let no : Some t.taken ≡ None = none in cc)
      by (own_closes call at gave) ends = absurd (closed_none t side n v there held call)
      by own (end_left same here exit second) = absurd (left_has (sym same ∙ mid_held))

pub own_awaited : {reading : Reading} {m : ℕ} {i j : Joined} {p q : Pipes}
    (t : Turn reading m i j p q) (books : Books i p) (side : Side) (n : ℕ) (v : Wire)
    → slice_get (j.line.wires (link_of m side)) n ≡ Some v → end_at side v ≡ Awaits
    → q.at m side ≡ Some n → ⊥
own_awaited {m = m} {i} {j} {p} {q} t books side n v there awaits now =
    by (flows_own t.flows side) (mid_end ps.count ps.is) where
      ps : Passed side t.taken.input t.takes.place n
          (messages_for side (acts_for t.taken.input t.taken.told)) (text_of_first t.taken.told)
          (i.line.wires (link_of m side)) v
      ps = passed t side n v there

      mid_waits : end_at side ps.mid ≡ Awaits
      mid_waits = ps.turned.awaits awaits

      by : Own m t.takes.place side t.given (Some t.taken) p q
          → MidEnd side t.taken.input t.takes.place n ps.w ps.mid → ⊥
      by own (end_opens here is same) = has_awaits (sym same ∙ mid_waits)
      by own (end_left same here exit second) = left_awaits (sym same ∙ mid_waits)
      by (own_same at gave quiet) (end_same same not) =
          books.awaited m side t.run n ps.w t.there ps.there (sym same ∙ mid_waits) (sym at ∙ now)
      by (own_comes call is none at gave all) (end_same same not) =
          not (some_place (sym now ∙ at)) (ap (λ (x : Taken). x.input) (some_taken is))
      by (own_gives call none here at gave all) (end_same same not) =
          (let no : Some t.taken ≡ None = none in cc)
      by (own_closes call at gave) (end_same same not) =
          (let no : None ≡ Some n = sym at ∙ now in cc)

pub own_rest : {reading : Reading} {m : ℕ} {i j : Joined} {p q : Pipes}
    (t : Turn reading m i j p q) (books : Books i p) (side : Side) → q.at m side ≡ None
    → waits_at side t.next ≡ []
own_rest {m = m} {i} {j} {p} {q} t books side none = by (flows_own t.flows side) where
  silent : (test : Bool) → is_open side t.run.state.node.lane.body ≡ test → p.at m side ≡ None
      → (t.taken.input ≡ comes_by side → ⊥)
      → messages_for side (acts_for t.taken.input t.taken.told) ≡ []
  silent false shut was plain =
      silent_closed t side
      (opened_not t.taken.input side (is_open side t.run.state.node.lane.body) plain ∙ shut)
  silent true open_now was plain =
      (let some : SomeHas m side i.line = t.before.had side open_now in
      let no : None ≡ Some some.place =
      sym was ∙ books.had m side t.run some.place some.wire t.there some.there some.held in cc)

  by : Own m t.takes.place side t.given (Some t.taken) p q → waits_at side t.next ≡ []
  by (own_same at gave quiet) =
      (let was : p.at m side ≡ None = sym at ∙ none in
      said_way (t.ways side) quiet.no_close (t.unreset side) ∙ ap (λ (x : List ℕ). x
      ++ messages_for side (acts_for t.taken.input t.taken.told))
      (books.rest m side t.run t.there was)
      ∙ silent (is_open side t.run.state.node.lane.body) refl was (plain_input t side quiet))
  by (own_comes call is was at gave all) =
      (let no : None ≡ Some t.takes.place = sym none ∙ at in cc)
  by (own_gives call some here at gave all) = (let no : Some t.taken ≡ None = some in cc)
  by (own_closes call at gave) = closed_waits t side call

-- ---- and of the ends beyond it

far_before : {reading : Reading} {m : ℕ} {i j : Joined} {p q : Pipes} (t : Turn reading m i j p q)
    (side : Side) (n : ℕ) (v : Wire)
    → (ps : Passed side t.taken.input t.takes.place n
    (messages_for side (acts_for t.taken.input t.taken.told)) (text_of_first t.taken.told)
    (i.line.wires (link_of m side)) v)
    → end_at (other side) v ≡ end_at (other side) ps.w
far_before t side n v ps =
    other_end side v ∙ ps.turned.far ∙ mid_far ps.w ps.count ps.is ∙ sym
    (other_end side ps.w) where
      other_end : (side : Side) (w : Wire) → end_at (other side) w ≡ end_beyond side w
      other_end Entry w = refl
      other_end Exit w = refl

pub far_had : {reading : Reading} {m : ℕ} {i j : Joined} {p q : Pipes} (t : Turn reading m i j p q)
    (books : Books i p) (side : Side) (n : ℕ) (v : Wire)
    → slice_get (j.line.wires (link_of m side)) n ≡ Some v → (run : NodeRun)
    → run_of (beyond m side) j ≡ Some run → end_at (other side) v ≡ Has
    → q.at (beyond m side) (other side) ≡ Some n
far_had {m = m} {i} {j} {p} {q} t books side n v there run so held =
    let ps : Passed side t.taken.input t.takes.place n
    (messages_for side (acts_for t.taken.input t.taken.told)) (text_of_first t.taken.told)
    (i.line.wires (link_of m side)) v = passed t side n v there in
    let was : run_of (beyond m side) i ≡ Some run =
    else_run i j t.run t.next t.some t.after_is (beyond m side)
    (beyond_else m side t.some) run so in
    flows_at_else t.flows (beyond m side) (other side) (beyond_else m side t.some)
    ∙ books.had (beyond m side) (other side) run n ps.w was
    (ap (λ (l : ℕ). slice_get (i.line.wires l) n) (far_link m side) ∙ ps.there)
    (sym (far_before t side n v ps) ∙ held)

pub far_awaited : {reading : Reading} {m : ℕ} {i j : Joined} {p q : Pipes}
    (t : Turn reading m i j p q) (books : Books i p) (side : Side) (n : ℕ) (v : Wire)
    → slice_get (j.line.wires (link_of m side)) n ≡ Some v → (run : NodeRun)
    → run_of (beyond m side) j ≡ Some run → end_at (other side) v ≡ Awaits
    → q.at (beyond m side) (other side) ≡ Some n → ⊥
far_awaited {m = m} {i} {j} {p} {q} t books side n v there run so awaits now =
    let ps : Passed side t.taken.input t.takes.place n
    (messages_for side (acts_for t.taken.input t.taken.told)) (text_of_first t.taken.told)
    (i.line.wires (link_of m side)) v = passed t side n v there in
    let was : run_of (beyond m side) i ≡ Some run =
    else_run i j t.run t.next t.some t.after_is (beyond m side)
    (beyond_else m side t.some) run so in
    books.awaited (beyond m side) (other side) run n ps.w was
    (ap (λ (l : ℕ). slice_get (i.line.wires l) n) (far_link m side) ∙ ps.there)
    (sym (far_before t side n v ps) ∙ awaits)
    (sym (flows_at_else t.flows (beyond m side) (other side) (beyond_else m side t.some)) ∙ now)
