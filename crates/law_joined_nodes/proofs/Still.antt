-- A MOVE WITHOUT A STEP OF ITS MACHINE keeps the books: its ports may take what waits, or give
-- bytes that are held.
use Rattle.std.proofs.Common.{List, None, Some, [], ap, append_assoc, append-nil, false, inl, inr, refl, slice_get, subst, sym, ℕ, ℤ, ◌++◌, ◌∙◌, ◌∷◌, ◌≡◌, ◌≢◌, ◌≤◌, ◌⊎◌}
use Rattle.std.proofs.lemmas.Bool.{true≢false}
use Rattle.line_base.specs.declared.states.Side.{Side}
use Rattle.line_base.specs.declared.states.Side.TheVariants.{Entry, Exit}
use Rattle.line_outside.specs.Given.{Closes, Given, Polls, Sends, taken_of}
use Rattle.line_outside.specs.declared.answer.GotBytes.TheVariants as founds
use Rattle.line_outside.specs.declared.ports.Sent.{Sent}
use Rattle.line_outside.specs.declared.way.Way.{Way}
use Rattle.node_core.specs.Node.{NodeState}
use Rattle.node_core.specs.Sides.{is_open}
use Rattle.line_step.specs.World.{link_of}
use Rattle.line_step.proofs.Numbers.{same_or_not}
use Rattle.node_run.specs.After.{way_of}
use Rattle.node_run.specs.Held.{seen_finding}
use Rattle.node_run.specs.Next.{next_of}
use Rattle.node_run.specs.Runs.{Moves, polls, room_bytes}
use Rattle.node_run.specs.State.{RunState}
use Rattle.node_run.specs.declared.place.Next.TheVariants as nexts
use Rattle.node_run.specs.declared.rules.Rules.{Rules}
use Rattle.law_running_line.specs.Running.{Running}
use Rattle.law_running_line.specs.Wire.{Awaits, Has, Wire, end_at}
use Rattle.law_joined_nodes.specs.Does.{Does}
use Rattle.law_joined_nodes.specs.Joined.{Joined, NodeRun, run_of, with_state}
use Rattle.law_joined_nodes.specs.Ways.{IsOther, Notices, Stays, Ways, found_for, notices_none, stays_found, stays_heard, stays_on, stays_shut, waits_at, way_closes, way_resets, way_says, way_sends}
use Rattle.law_joined_nodes.proofs.Weaving.{some_machine, still_node}
use Rattle.step_rules.specs.Spoken.{IsOffClosed}
use Rattle.law_joined_nodes.specs.Pipes.{Flows, Pipes, beyond, other}
use Rattle.law_joined_nodes.proofs.Books.{Book, Books, NoneHas, poll_quiet, some_place}
use Rattle.law_joined_nodes.proofs.Core.{Away, Home, away_home, home_away, with_gives}
use Rattle.law_joined_nodes.proofs.Ends.{Far, IsQuietAt, Own, Where, beyond_else, far_link, far_refuses, far_same, far_takes, flows_at_else, flows_far, flows_gave_else, flows_own, flows_took_else, own_closes, own_comes, own_gives, own_same, where_else, where_far, where_is, where_own}
use Rattle.law_joined_nodes.proofs.Steps.{back_at, back_number, back_run, back_side, closes_polls, else_run, found_own, own_state, own_way}

pub record Still (m : ℕ) (i j : Joined) (p q : Pipes) : Type 0 where
  pub run : NodeRun
  pub there : run_of m i ≡ Some run
  pub next : RunState
  pub moment : ℤ
  pub given : List Given
  pub log : List ℕ
  pub moves : Moves run.rules moment run.state given next log
  pub does : Does moment run.state next given None
  pub ways : (side : Side) → Ways run.rules moment side run.state next None given
  pub stays : (side : Side) → Stays side run.state next given None
  pub unreset : (side : Side) → next_of run.rules run.state ≡ nexts.Reset side
      → is_open side run.state.node.lane.body ≡ false
  pub after_is : j.runs ≡ with_state m run next i.runs
  pub place : ℕ
  pub flows : Flows m place given None p q
  pub some : 1 ≤ m
  pub shut : (side : Side) → is_open side run.state.node.lane.body ≡ false → NoneHas m side i.line
  pub line : j.line ≡ i.line

-- ---- its calls at its own side

data OwnStill (m : ℕ) (side : Side) (given : List Given) (p q : Pipes) : Type 0 where
  still_same : q.at m side ≡ p.at m side → ((n : ℕ) → q.gave m side n ≡ p.gave m side n)
      → IsQuietAt side given None → OwnStill m side given p q
  still_gives : (bytes : List ℕ) (here : ℕ)
      → given ≡ Polls (way_of side) room_bytes (founds.Bytes bytes) ∷ [] → p.at m side ≡ Some here
      → q.at m side ≡ Some here → q.gave m side here ≡ p.gave m side here ++ bytes
      → ((n : ℕ) → n ≢ here → q.gave m side n ≡ p.gave m side n) → OwnStill m side given p q
  still_closes : given ≡ Closes (way_of side) ∷ [] → q.at m side ≡ None
      → ((n : ℕ) → q.gave m side n ≡ p.gave m side n) → OwnStill m side given p q

own_still : {m place : ℕ} {side : Side} {given : List Given} {p q : Pipes}
    → Own m place side given None p q → OwnStill m side given p q
own_still (own_same at gave quiet) = still_same at gave quiet
own_still (own_comes call is none at gave all) = (let no : None ≡ Some _ = is in cc)
own_still (own_gives {bytes} {here} call none there at gave all) =
    still_gives bytes here call there at gave all
own_still (own_closes call at gave) = still_closes call at gave

-- bytes that are found are held, where nothing was
poll_finds : {rules : Rules} {moment : ℤ} {s t : RunState} {bytes : List ℕ} {log : List ℕ}
    (side : Side)
    → Moves rules moment s (Polls (way_of side) room_bytes (founds.Bytes bytes) ∷ []) t log
    → t.held.finding ≡ Some (seen_finding side (Some bytes))
poll_finds Entry (polls next done) = ap (λ (r : RunState). r.held.finding) done.0
poll_finds Exit (polls next done) = ap (λ (r : RunState). r.held.finding) done.0

found_given : {m : ℕ} {i j : Joined} {p q : Pipes} (t : Still m i j p q) (side : Side)
    (bytes : List ℕ) → t.given ≡ Polls (way_of side) room_bytes (founds.Bytes bytes) ∷ []
    → (found_for side t.run.state.held.finding ≡ []) × (found_for side t.next.held.finding ≡ bytes)
found_given t side bytes call =
    let moves : Moves t.run.rules t.moment t.run.state
    (Polls (way_of side) room_bytes (founds.Bytes bytes) ∷ []) t.next t.log =
    subst (λ (g : List Given). Moves t.run.rules t.moment t.run.state g t.next t.log) call
    t.moves in (
      ap (found_for side) (poll_quiet side moves),
      ap (found_for side) (poll_finds side moves) ∙ found_own side bytes,
    )

same_open : {m : ℕ} {i j : Joined} {p q : Pipes} (t : Still m i j p q) (side : Side)
    → is_open side t.next.node.lane.body ≡ false → is_open side t.run.state.node.lane.body ≡ false
same_open t side shut =
    sym (ap (λ (n : NodeState). is_open side n.lane.body) (still_node t.does)) ∙ shut

-- ---- what waits on its way

-- where the way isn't closed: its ports took a front of it
data Waited (side : Side) (s next : RunState) (given : List Given) : Type 0 where
  waited_on : waits_at side next ≡ waits_at side s → Waited side s next given
  waited_sent : (sent : Sent) → given ≡ Sends (way_of side) (waits_at side s) sent ∷ []
      → waits_at side s ≡ taken_of sent (waits_at side s) ++ waits_at side next
      → Waited side s next given

waited : {rules : Rules} {moment : ℤ} {side : Side} {s next : RunState} {given : List Given}
    → Ways rules moment side s next None given → (given ≡ Closes (way_of side) ∷ [] → ⊥)
    → (next_of rules s ≡ nexts.Reset side → is_open side s.node.lane.body ≡ false)
    → Waited side s next given
waited (way_sends {sent = sent} none is) open_still unreset = waited_sent sent refl is
waited (way_closes seen is) open_still unreset = absurd (open_still refl)
waited {side = side} {s = s} (way_says aside is) open_still unreset =
    waited_on (is ∙ append-nil (waits_at side s))
waited (way_resets reset held seen is) open_still unreset =
    absurd (true≢false (sym held ∙ unreset reset))

closed_still : {rules : Rules} {moment : ℤ} {side : Side} {s next : RunState} {given : List Given}
    → Ways rules moment side s next None given → given ≡ Closes (way_of side) ∷ []
    → (is_open side s.node.lane.body ≡ false) × (waits_at side next ≡ [])
closed_still (way_sends none is) call = (let no : Sends _ _ _ ∷ [] ≡ Closes _ ∷ [] = call in cc)
closed_still {side = side} (way_closes seen is) call = (none_noticed seen, is) where
  none_noticed : {side : Side} {s : RunState} → Notices side s None
      → is_open side s.node.lane.body ≡ false
  none_noticed (notices_none shut) = shut
closed_still {side = side} (way_says aside is) call =
    own_way side (subst (IsOther side) call aside)
closed_still (way_resets reset held seen is) call = (let no : [] ≡ Closes _ ∷ [] = call in cc)

-- ---- ITS OWN SIDES

same_wire : (i j : Joined) (l n : ℕ) {v : Wire} → j.line ≡ i.line
    → slice_get (j.line.wires l) n ≡ Some v → slice_get (i.line.wires l) n ≡ Some v
same_wire i j l n is there = sym (ap (λ (s : Running). slice_get (s.wires l) n) is) ∙ there

same_none : (i j : Joined) (l n : ℕ) → j.line ≡ i.line → slice_get (j.line.wires l) n ≡ None
    → slice_get (i.line.wires l) n ≡ None
same_none i j l n is none = sym (ap (λ (s : Running). slice_get (s.wires l) n) is) ∙ none

still_had : {m : ℕ} {i j : Joined} {p q : Pipes} (t : Still m i j p q) (books : Books i p)
    (side : Side) (n : ℕ) (v : Wire) → slice_get (i.line.wires (link_of m side)) n ≡ Some v
    → end_at side v ≡ Has → q.at m side ≡ Some n
still_had {m = m} {p = p} {q} t books side n v there held =
    by (own_still (flows_own t.flows side)) where
      was : p.at m side ≡ Some n
      was = books.had m side t.run n v t.there there held

      by : OwnStill m side t.given p q → q.at m side ≡ Some n
      by (still_same at gave quiet) = at ∙ was
      by (still_gives bytes here call some at gave all) = at ∙ sym some ∙ was
      by (still_closes call at gave) =
          absurd (t.shut side (closed_still (t.ways side) call).0 n v there held)

still_at : {m : ℕ} {i j : Joined} {p q : Pipes} (t : Still m i j p q) (side : Side) (n : ℕ)
    → q.at m side ≡ Some n → p.at m side ≡ Some n
still_at {m = m} {p = p} {q} t side n now = by (own_still (flows_own t.flows side)) where
  by : OwnStill m side t.given p q → p.at m side ≡ Some n
  by (still_same at gave quiet) = sym at ∙ now
  by (still_gives bytes here call some at gave all) = some ∙ sym at ∙ now
  by (still_closes call at gave) = (let no : None ≡ Some n = sym at ∙ now in cc)

no_front : (front rest : List ℕ) → [] ≡ front ++ rest → rest ≡ []
no_front [] rest is = sym is
no_front (x ∷ front) rest is = cc

still_rest : {m : ℕ} {i j : Joined} {p q : Pipes} (t : Still m i j p q) (books : Books i p)
    (side : Side) → q.at m side ≡ None → waits_at side t.next ≡ []
still_rest {m = m} {p = p} {q} t books side none = by (own_still (flows_own t.flows side)) where
  rested : p.at m side ≡ None → Waited side t.run.state t.next t.given → waits_at side t.next ≡ []
  rested was (waited_on is) = is ∙ books.rest m side t.run t.there was
  rested was (waited_sent sent call is) =
      no_front (taken_of sent (waits_at side t.run.state)) (waits_at side t.next)
      (sym (books.rest m side t.run t.there was) ∙ is)

  by : OwnStill m side t.given p q → waits_at side t.next ≡ []
  by (still_same at gave quiet) =
      rested (sym at ∙ none) (waited (t.ways side) quiet.no_close (t.unreset side))
  by (still_gives bytes here call some at gave all) =
      (let no : None ≡ Some here = sym none ∙ at in cc)
  by (still_closes call at gave) = (closed_still (t.ways side) call).1

-- what was found waits on, where the side has a connection
found_on : {m : ℕ} {i j : Joined} {p q : Pipes} (t : Still m i j p q) (side : Side) (n : ℕ)
    (v : Wire) → slice_get (i.line.wires (link_of m side)) n ≡ Some v → end_at side v ≡ Has
    → ((bytes : List ℕ) → t.given ≡ Polls (way_of side) room_bytes (founds.Bytes bytes) ∷ [] → ⊥)
    → found_for side t.next.held.finding ≡ found_for side t.run.state.held.finding
found_on t side n v there held no_bytes = by (t.stays side) where
  by : Stays side t.run.state t.next t.given None
      → found_for side t.next.held.finding ≡ found_for side t.run.state.held.finding
  by (stays_on is) = is
  by (stays_shut shut) = absurd (t.shut side (same_open t side shut) n v there held)
  by (stays_found {bytes} call) = absurd (no_bytes bytes call)
  by (stays_heard some is input) = (let no : None ≡ Some some = is in cc)

still_gives_core : {m : ℕ} {i j : Joined} {p q : Pipes} (t : Still m i j p q) (books : Books i p)
    (side : Side) (n : ℕ) (v : Wire) → slice_get (i.line.wires (link_of m side)) n ≡ Some v
    → (heard : List ℕ)
    → (end_at side v ≡ Has → p.gave m side n ≡ heard ++ found_for side t.run.state.held.finding)
    → end_at side v ≡ Has → q.gave m side n ≡ heard ++ found_for side t.next.held.finding
still_gives_core {m = m} {p = p} {q} t books side n v there heard gives held =
    by (own_still (flows_own t.flows side)) where
      on : ((bytes : List ℕ)
          → t.given ≡ Polls (way_of side) room_bytes (founds.Bytes bytes) ∷ [] → ⊥)
          → p.gave m side n ≡ heard ++ found_for side t.next.held.finding
      on no_bytes =
          gives held
          ∙ ap (λ (f : List ℕ). heard ++ f) (sym (found_on t side n v there held no_bytes))

      by : OwnStill m side t.given p q
          → q.gave m side n ≡ heard ++ found_for side t.next.held.finding
      by (still_same at gave quiet) = gave n ∙ on quiet.no_bytes
      by (still_closes call at gave) = gave n ∙ on (λ bytes is. closes_polls is call)
      by (still_gives bytes here call some at gave all) =
          (let is : n
          ≡ here = some_place (sym (books.had m side t.run n v t.there there held) ∙ some) in
          let f : (found_for side t.run.state.held.finding ≡ [])
          × (found_for side t.next.held.finding ≡ bytes) = found_given t side bytes call in
          ap (q.gave m side) is ∙ gave ∙ ap (λ (x : ℕ). p.gave m side x ++ bytes) (sym is) ∙ ap
          (λ (x : List ℕ). x
          ++ bytes) (gives held ∙ ap (λ (x : List ℕ). heard ++ x) f.0 ∙ append-nil heard)
          ∙ ap (λ (x : List ℕ). heard ++ x) (sym f.1))

-- ---- THE ENDS BEYOND

data FarStill (m : ℕ) (side : Side) (given : List Given) (p q : Pipes) : Type 0 where
  far_still : ((n : ℕ)
      → q.took (beyond m side) (other side) n ≡ p.took (beyond m side) (other side) n)
      → ((piece : List ℕ) (sent : Sent) → given ≡ Sends (way_of side) piece sent ∷ []
      → taken_of sent piece ≡ []) → FarStill m side given p q
  far_taken : (piece : List ℕ) (sent : Sent) (here : ℕ)
      → given ≡ Sends (way_of side) piece sent ∷ [] → p.at m side ≡ Some here
      → q.took (beyond m side) (other side) here ≡ p.took (beyond m side) (other side) here
      ++ taken_of sent piece
      → ((n : ℕ) → n ≢ here
      → q.took (beyond m side) (other side) n ≡ p.took (beyond m side) (other side) n)
      → FarStill m side given p q

far_by : {m place : ℕ} {side : Side} {given : List Given} {p q : Pipes}
    → Far m place side given None p q → FarStill m side given p q
far_by (far_same all quiet seconds) = far_still all quiet
far_by (far_takes {piece} {sent} {here} call none some took all) =
    far_taken piece sent here call some took all
far_by (far_refuses exit call is took all) = (let no : None ≡ Some _ = is in cc)

-- how the books of an end beyond go on, with this text there and so much taken
record AwayGoes (m : ℕ) (side : Side) (n : ℕ) (v : Wire) (took_now waits took : List ℕ)
    (next : RunState) (q : Pipes) : Type 0 where
  later : List ℕ
  same : took_now ++ later ≡ took ++ waits
  fresh : end_at side v ≡ Awaits → (took ≡ []) × (waits ≡ []) → (took_now ≡ []) × (later ≡ [])
  now : q.at m side ≡ Some n → later ≡ waits_at side next

same_call : {way : Way} {a b : List ℕ} {x y : Sent} → Sends way a x ∷ [] ≡ Sends way b y ∷ []
    → (a ≡ b) × (x ≡ y)
same_call is = (cc, cc)

sent_parts : {rules : Rules} {moment : ℤ} {side : Side} {s next : RunState} {given : List Given}
    {piece : List ℕ} {sent : Sent} → Ways rules moment side s next None given
    → given ≡ Sends (way_of side) piece sent ∷ []
    → waits_at side s ≡ taken_of sent piece ++ waits_at side next
sent_parts {side = side} {s} {next} {piece = piece} (way_sends {sent = own} none is) call =
    let both : (waits_at side s ≡ piece) × (own ≡ _) = same_call call in
    is ∙ ap (λ (x : List ℕ). taken_of own x ++ waits_at side next) both.0 ∙ ap
    (λ (x : Sent). taken_of x piece ++ waits_at side next) both.1
sent_parts (way_closes seen is) call = (let no : Closes _ ∷ [] ≡ Sends _ _ _ ∷ [] = call in cc)
sent_parts {side = side} (way_says aside is) call = own_way side (subst (IsOther side) call aside)
sent_parts (way_resets reset held seen is) call = (let no : [] ≡ Sends _ _ _ ∷ [] = call in cc)

away_goes : {m : ℕ} {i j : Joined} {p q : Pipes} (t : Still m i j p q) (books : Books i p)
    (side : Side) (n : ℕ) (v : Wire) → slice_get (i.line.wires (link_of m side)) n ≡ Some v
    → (waits : List ℕ) → (p.at m side ≡ Some n → waits ≡ waits_at side t.run.state)
    → AwayGoes m side n v (q.took (beyond m side) (other side) n) waits
    (p.took (beyond m side) (other side) n) t.next q
away_goes {m = m} {i} {j} {p} {q} t books side n v there waits now =
    by (far_by (flows_far t.flows side)) where
      k : ℕ
      k = beyond m side

      at : Side
      at = other side

      not_closed : q.at m side ≡ Some n → t.given ≡ Closes (way_of side) ∷ [] → ⊥
      not_closed is call = closed_at (own_still (flows_own t.flows side)) where
        closed_at : OwnStill m side t.given p q → ⊥
        closed_at (still_same at gave quiet) = quiet.no_close call
        closed_at (still_gives bytes here polled some at gave all) = closes_polls polled call
        closed_at (still_closes closes at gave) = (let no : None ≡ Some n = sym at ∙ is in cc)

      on : ((sent : Sent) → t.given ≡ Sends (way_of side) (waits_at side t.run.state) sent ∷ []
          → taken_of sent (waits_at side t.run.state) ≡ []) → Waited side t.run.state t.next t.given
          → waits_at side t.next ≡ waits_at side t.run.state
      on none (waited_on is) = is
      on none (waited_sent sent call is) =
          sym (is ∙ ap (λ (x : List ℕ). x ++ waits_at side t.next) (none sent call))

      plain : q.took k at n ≡ p.took k at n
          → (q.at m side ≡ Some n → (sent : Sent)
          → t.given ≡ Sends (way_of side) (waits_at side t.run.state) sent ∷ []
          → taken_of sent (waits_at side t.run.state) ≡ [])
          → AwayGoes m side n v (q.took k at n) waits (p.took k at n) t.next q
      plain same none = record {
        later = waits;
        same = ap (λ (x : List ℕ). x ++ waits) same;
        fresh = λ awaits both. (same ∙ both.0, both.1);
        now = λ is.
            now (still_at t side n is) ∙ sym
            (on (none is) (waited (t.ways side) (not_closed is) (t.unreset side)));
      }

      by : FarStill m side t.given p q
          → AwayGoes m side n v (q.took k at n) waits (p.took k at n) t.next q
      by (far_still all quiet) =
          plain (all n) (λ is sent call. quiet (waits_at side t.run.state) sent call)
      by (far_taken piece sent here call some took all) = which (same_or_not n here) where
        parts : n ≡ here → waits ≡ taken_of sent piece ++ waits_at side t.next
        parts is = now (some ∙ ap (λ (x : ℕ). Some x) (sym is)) ∙ sent_parts (t.ways side) call

        which : (n ≡ here) ⊎ (n ≢ here)
            → AwayGoes m side n v (q.took k at n) waits (p.took k at n) t.next q
        which (inr apart) =
            plain (all n apart) (λ is other_sent other_call.
            absurd (apart (some_place (sym (still_at t side n is) ∙ some))))
        which (inl is) = record {
          later = waits_at side t.next;
          same = ap (λ (x : List ℕ). x ++ waits_at side t.next)
              (ap (q.took k at) is ∙ took ∙ ap (λ (x : ℕ). p.took k at x ++ taken_of sent piece)
              (sym is)) ∙ append_assoc (p.took k at n) (taken_of sent piece) (waits_at side t.next)
              ∙ ap (λ (x : List ℕ). p.took k at n ++ x) (sym (parts is));
          fresh = λ awaits both.
              absurd (books.awaited m side t.run n v t.there there awaits
              (some ∙ ap (λ (x : ℕ). Some x) (sym is)));
          now = λ at_now. refl;
        }

-- ---- THE BOOKS

own_there : {m k : ℕ} (n : ℕ) (side : Side) (i : Joined) {v : Wire} → k ≡ m
    → slice_get (i.line.wires (link_of k side)) n ≡ Some v
    → slice_get (i.line.wires (link_of m side)) n ≡ Some v
own_there n side i is there =
    ap (λ (x : ℕ). slice_get (i.line.wires (link_of x side)) n) (sym is) ∙ there

far_there : (m : ℕ) {k : ℕ} (n : ℕ) {side : Side} (at : Side) (i : Joined) {v : Wire}
    → k ≡ beyond m at → side ≡ other at → slice_get (i.line.wires (link_of k side)) n ≡ Some v
    → slice_get (i.line.wires (link_of m at)) n ≡ Some v
far_there m n {side} at i is same there =
    ap (λ (l : ℕ). slice_get (i.line.wires l) n) (sym (far_link m at)) ∙ ap
    (λ (x : Side). slice_get (i.line.wires (link_of (beyond m at) x)) n) (sym same) ∙ ap
    (λ (x : ℕ). slice_get (i.line.wires (link_of x side)) n) (sym is) ∙ there

pub still_books : {m : ℕ} {i j : Joined} {p q : Pipes} (t : Still m i j p q) → Books i p
    → Books j q
still_books {m} {i} {j} {p} {q} t books = record {
  had = λ k side run n v there got held.
      had_by k side run n v there (same_wire i j (link_of k side) n t.line got) held
      (same_or_not k m);
  awaited =
      λ k side run n v there got held at.
      awaited_by k side run n v there (same_wire i j (link_of k side) n t.line got) held at
      (same_or_not k m);
  rest = λ k side run there none. rest_by k side run there none (same_or_not k m);
  virgin = λ k side n some none.
      virgin_by k side n some (same_none i j (link_of k side) n t.line none)
      (where_is m k side t.some some);
  placed = λ k side n some none at.
      placed_by k side n some (same_none i j (link_of k side) n t.line none) at (same_or_not k m);
  off = λ k run there side. off_by k run side there (same_or_not k m);
  book = λ k side run n v there got.
      book_by k side run n v there (same_wire i j (link_of k side) n t.line got)
      (where_is m k side t.some (some_machine k j run there));
} where
  was : (k : ℕ) → k ≢ m → (run : NodeRun) → run_of k j ≡ Some run → run_of k i ≡ Some run
  was k apart run there = else_run i j t.run t.next t.some t.after_is k apart run there

  own_now : (k : ℕ) (run : NodeRun) → k ≡ m → run_of k j ≡ Some run → run.state ≡ t.next
  own_now k run is there =
      own_state i j t.run t.next t.some t.after_is run
      (sym (ap (λ (x : ℕ). run_of x j) is) ∙ there)

  had_by : (k : ℕ) (side : Side) (run : NodeRun) (n : ℕ) (v : Wire) → run_of k j ≡ Some run
      → slice_get (i.line.wires (link_of k side)) n ≡ Some v → end_at side v ≡ Has
      → (k ≡ m) ⊎ (k ≢ m) → q.at k side ≡ Some n
  had_by k side run n v there got held (inl is) =
      ap (λ (x : ℕ). q.at x side) is ∙ still_had t books side n v (own_there n side i is got) held
  had_by k side run n v there got held (inr apart) =
      flows_at_else t.flows k side apart ∙ books.had k side run n v
      (was k apart run there) got held

  awaited_by : (k : ℕ) (side : Side) (run : NodeRun) (n : ℕ) (v : Wire) → run_of k j ≡ Some run
      → slice_get (i.line.wires (link_of k side)) n ≡ Some v → end_at side v ≡ Awaits
      → q.at k side ≡ Some n → (k ≡ m) ⊎ (k ≢ m) → ⊥
  awaited_by k side run n v there got held now (inl is) =
      books.awaited m side t.run n v t.there (own_there n side i is got) held
      (still_at t side n (ap (λ (x : ℕ). q.at x side) (sym is) ∙ now))
  awaited_by k side run n v there got held now (inr apart) =
      books.awaited k side run n v (was k apart run there) got held
      (sym (flows_at_else t.flows k side apart) ∙ now)

  rest_by : (k : ℕ) (side : Side) (run : NodeRun) → run_of k j ≡ Some run → q.at k side ≡ None
      → (k ≡ m) ⊎ (k ≢ m) → waits_at side run.state ≡ []
  rest_by k side run there none (inl is) =
      ap (waits_at side) (own_now k run is there) ∙ still_rest t books side
      (ap (λ (x : ℕ). q.at x side) (sym is) ∙ none)
  rest_by k side run there none (inr apart) =
      books.rest k side run (was k apart run there)
      (sym (flows_at_else t.flows k side apart) ∙ none)

  placed_by : (k : ℕ) (side : Side) (n : ℕ) → 1 ≤ k
      → slice_get (i.line.wires (link_of k side)) n ≡ None → q.at k side ≡ Some n
      → (k ≡ m) ⊎ (k ≢ m) → ⊥
  placed_by k side n more none now (inl is) =
      books.placed m side n t.some (ap (λ (x : ℕ). slice_get (i.line.wires (link_of x side)) n)
      (sym is) ∙ none) (still_at t side n (ap (λ (x : ℕ). q.at x side) (sym is) ∙ now))
  placed_by k side n more none now (inr apart) =
      books.placed k side n more none (sym (flows_at_else t.flows k side apart) ∙ now)

  virgin_by : (k : ℕ) (side : Side) (n : ℕ) → 1 ≤ k
      → slice_get (i.line.wires (link_of k side)) n ≡ None → Where m k side → q.took k side n ≡ []
  virgin_by k side n more none (where_own is) =
      flows_took_else t.flows k side n (λ at same sides.
      beyond_else m at t.some (sym same ∙ is)) ∙ books.virgin k side n more none
  virgin_by k side n more none (where_else apart links never) =
      flows_took_else t.flows k side n never ∙ books.virgin k side n more none
  virgin_by k side n more none (where_far at is same) =
      ap (λ (x : ℕ). q.took x side n) is ∙ ap (λ (x : Side). q.took (beyond m at) x n) same ∙ by
      (far_by (flows_far t.flows at)) ∙ sym
      (ap (λ (x : ℕ). p.took x side n) is ∙ ap (λ (x : Side). p.took (beyond m at) x n) same) ∙
      books.virgin k side n more none where
        none_here : slice_get (i.line.wires (link_of m at)) n ≡ None
        none_here =
            ap (λ (l : ℕ). slice_get (i.line.wires l) n) (sym (far_link m at)) ∙ ap
            (λ (x : Side). slice_get (i.line.wires (link_of (beyond m at) x)) n) (sym same) ∙ ap
            (λ (x : ℕ). slice_get (i.line.wires (link_of x side)) n) (sym is) ∙ none

        by : FarStill m at t.given p q
            → q.took (beyond m at) (other at) n ≡ p.took (beyond m at) (other at) n
        by (far_still all quiet) = all n
        by (far_taken piece sent here call some took all) =
            all n (λ is_here.
            books.placed m at n t.some none_here (some ∙ ap (λ (x : ℕ). Some x) (sym is_here)))

  off_by : (k : ℕ) (run : NodeRun) (side : Side) → run_of k j ≡ Some run → (k ≡ m) ⊎ (k ≢ m)
      → IsOffClosed side run.state.node.lane.body
  off_by k run side there (inr apart) = books.off k run (was k apart run there) side
  off_by k run side there (inl is) =
      subst (λ (n : NodeState). IsOffClosed side n.lane.body)
      (sym (ap (λ (s : RunState). s.node) (own_now k run is there) ∙ still_node t.does))
      (books.off m t.run t.there side)

  -- what is there of an end that is this machine's
  own_book : (side : Side) (run : NodeRun) (n : ℕ) (v : Wire)
      → slice_get (i.line.wires (link_of m side)) n ≡ Some v → run.state ≡ t.next
      → Book i p m side n v t.run → Book j q m side n v run
  own_book side run n v there is b =
      (let one : Home side v (p.took m side n) b.waits b.heard (q.gave m side n)
      (found_for side t.next.held.finding) =
      with_gives (q.gave m side n) (found_for side t.next.held.finding)
      (still_gives_core t books side n v there b.heard b.core.gives) b.core in
      let two : Home side v (q.took m side n) b.waits b.heard (q.gave m side n)
      (found_for side t.next.held.finding) =
      subst (λ (x : List ℕ). Home side v x b.waits b.heard (q.gave m side n)
      (found_for side t.next.held.finding))
      (sym (flows_took_else t.flows m side n (λ at same sides.
      beyond_else m at t.some (sym same)))) one in
      record {
        heard = b.heard;
        waits = b.waits;
        core = subst (λ (s : RunState). Home side v (q.took m side n) b.waits b.heard
            (q.gave m side n) (found_for side s.held.finding)) (sym is) two;
        now = λ now far so.
            b.now (sym
            (flows_at_else t.flows (beyond m side) (other side) (beyond_else m side t.some)) ∙ now)
            far (was (beyond m side) (beyond_else m side t.some) far so);
      })

  far_book : (side : Side) (run : NodeRun) (n : ℕ) (v : Wire)
      → slice_get (i.line.wires (link_of m side)) n ≡ Some v → run_of (beyond m side) j ≡ Some run
      → Book i p (beyond m side) (other side) n v run
      → Book j q (beyond m side) (other side) n v run
  far_book side run n v there so b =
      (let k : ℕ = beyond m side in
      let at : Side = other side in
      let g : AwayGoes m side n v (q.took k at n) b.waits (p.took k at n) t.next q =
      away_goes t books side n v there b.waits (λ is.
      b.now (back_at p m side t.some ∙ is) t.run (back_run i m side t.some ∙ t.there) ∙ ap
      (λ (x : Side). waits_at x t.run.state) (back_side side)) in
      let one : Away side v (p.took k at n) b.waits b.heard (p.gave k at n)
      (found_for at run.state.held.finding) = home_away side v b.core in
      let two : Away side v (q.took k at n) g.later b.heard (p.gave k at n)
      (found_for at run.state.held.finding) = record {
        sum = λ not. one.sum not ∙ sym g.same;
        gives = one.gives;
        uncome = one.uncome;
        fresh = λ awaits. g.fresh awaits (one.fresh awaits);
      } in
      let three : Away side v (q.took k at n) g.later b.heard (q.gave k at n)
      (found_for at run.state.held.finding) =
      subst (λ (x : List ℕ). Away side v (q.took k at n) g.later b.heard x
      (found_for at run.state.held.finding))
      (sym (flows_gave_else t.flows k at n (beyond_else m side t.some))) two in
      record {
        heard = b.heard;
        waits = g.later;
        core = away_home side v three;
        now = λ now far so_far.
            g.now (sym (back_at q m side t.some) ∙ now) ∙ ap (waits_at side)
            (sym (own_state i j t.run t.next t.some t.after_is far
            (sym (back_run j m side t.some) ∙ so_far))) ∙ ap
            (λ (x : Side). waits_at x far.state) (sym (back_side side));
      })

  else_book : (k : ℕ) (side : Side) (run : NodeRun) (n : ℕ) (v : Wire) → Book i p k side n v run
      → 1 ≤ k → k ≢ m → ((at : Side) → k ≡ beyond m at → side ≡ other at → ⊥)
      → Book j q k side n v run
  else_book k side run n v b more apart never = record {
    heard = b.heard;
    waits = b.waits;
    core = subst (λ (x : List ℕ). Home side v x b.waits b.heard (q.gave k side n)
        (found_for side run.state.held.finding)) (sym (flows_took_else t.flows k side n never))
        (subst (λ (x : List ℕ). Home side v (p.took k side n) b.waits b.heard x
        (found_for side run.state.held.finding))
        (sym (flows_gave_else t.flows k side n apart)) b.core);
    now = λ now far so. now_by far now so (same_or_not (beyond k side) m);
  } where
    back_beyond : beyond k side ≡ m → k ≡ beyond m (other side)
    back_beyond is = sym (back_number k side more) ∙ ap (λ (x : ℕ). beyond x (other side)) is

    now_by : (far : NodeRun) → q.at (beyond k side) (other side) ≡ Some n
        → run_of (beyond k side) j ≡ Some far → (beyond k side ≡ m) ⊎ (beyond k side ≢ m)
        → b.waits ≡ waits_at (other side) far.state
    now_by far now so (inl is) =
        absurd (never (other side) (back_beyond is) (sym (back_side side)))
    now_by far now so (inr far_apart) =
        b.now (sym (flows_at_else t.flows (beyond k side) (other side) far_apart) ∙ now) far
        (was (beyond k side) far_apart far so)

  book_by : (k : ℕ) (side : Side) (run : NodeRun) (n : ℕ) (v : Wire) → run_of k j ≡ Some run
      → slice_get (i.line.wires (link_of k side)) n ≡ Some v → Where m k side
      → Book j q k side n v run
  book_by k side run n v there got (where_own is) =
      (let here : slice_get (i.line.wires (link_of m side)) n
      ≡ Some v = own_there n side i is got in
      subst (λ (x : ℕ). Book j q x side n v run) (sym is)
      (own_book side run n v here (own_now k run is there)
      (books.book m side t.run n v t.there here)))
  book_by k side run n v there got (where_far at is same) =
      (let so : run_of (beyond m at) j ≡ Some run = sym (ap (λ (x : ℕ). run_of x j) is) ∙ there in
      let here : slice_get (i.line.wires (link_of m at)) n ≡ Some v =
      far_there m n at i is same got in
      let b : Book i p (beyond m at) (other at) n v run =
      books.book (beyond m at) (other at) run n v
      (was (beyond m at) (beyond_else m at t.some) run so)
      (ap (λ (l : ℕ). slice_get (i.line.wires l) n) (far_link m at) ∙ here) in
      subst (λ (x : ℕ). Book j q x side n v run) (sym is)
      (subst (λ (x : Side). Book j q (beyond m at) x n v run) (sym same)
      (far_book at run n v here so b)))
  book_by k side run n v there got (where_else apart links never) =
      else_book k side run n v (books.book k side run n v (was k apart run there) got)
      (some_machine k j run there) apart never
