-- EACH CONNECTION AT A SIDE OF A MACHINE, behind its turn.
use Rattle.std.proofs.Common.{Bool, List, None, Option, Some, [], ap, arith, false, inl, inr, length, map, refl, slice_get, slice_set, subst, sym, true, ℕ, ◌+◌, ◌-◌, ◌∙◌, ◌∷◌, ◌≡◌, ◌≢◌, ◌⊎◌}
use Rattle.line_base.specs.declared.states.Side.{Side}
use Rattle.line_base.specs.declared.states.Side.TheVariants.{Entry, Exit}
use Rattle.board_record.specs.declared.sensed.Sensed.{Sensed}
use Rattle.hermes_horizontal.specs.Canonical.{canonical}
use Rattle.node_core.specs.Node.{NodeState}
use Rattle.node_core.specs.declared.act.Act.{Act}
use Rattle.node_core.specs.declared.act.Act.TheVariants as acts
use Rattle.node_core.specs.declared.input.Input.{Input}
use Rattle.node_core.specs.declared.input.Input.TheVariants as inputs
use Rattle.law_custody.specs.Words.{events_at}
use Rattle.line_step.specs.Steps.{is_second}
use Rattle.line_step.specs.World.{link_of}
use Rattle.law_node_runs.specs.Connections.{acts_for}
use Rattle.node_run.specs.Steps.{messages_for, text_of_first}
use Rattle.law_running_line.specs.Running.{Running, at_place, count_beyond, with_node, with_reading, with_wires}
use Rattle.law_running_line.specs.Turns.{act_did, answered, did, met, sent_by}
use Rattle.law_running_line.specs.Wire.{Awaits, Coming, Has, Left, Wire, asked_for, bytes_of, end_at, given, has, read_at, text_behind, with_end}
use Rattle.law_running_line.proofs.WiresParts.{text_bytes}
use Rattle.law_running_line.proofs.WiresActs.{Wired}
use Rattle.law_running_line.proofs.WiresWalk.{did_wired, read_wires, wires_other, wires_own}
use Rattle.law_joined_nodes.proofs.Further.{set_or_not}
use Rattle.step_rules.specs.Spoken.{AreSaidOpen}
use Rattle.law_joined_nodes.proofs.Answers.{AnswersFirst, AnswersIf, AreNoAnswers, IsNoAnswer}
use Rattle.law_joined_nodes.proofs.Tracks.{GotMapped, GotTurned, Turned, got_mapped, got_wired}

-- ---- what the input makes of the connection at its place

abbrev pub change_at : Side → Input → Wire → Wire
change_at Entry (inputs.Bytes Entry piece) w = given Entry (length piece.now) w
change_at Exit (inputs.Bytes Exit piece) w = given Exit (length piece.now) w
change_at Entry inputs.Connect w = with_end Entry Has w
change_at Exit inputs.Accepted w = with_end Exit Has w
change_at Exit inputs.Second w = with_end Exit Left w
change_at side input w = w

data MetAt (side : Side) (input : Input) (place : ℕ) (ws later : List Wire) : Type 0 where
  met_here : later ≡ at_place place (change_at side input) ws → MetAt side input place ws later
  met_not : later ≡ ws → ((w : Wire) → change_at side input w ≡ w)
      → MetAt side input place ws later

below_other : (j : ℕ) → j + 1 ≡ j + 1 - 1 → ⊥
below_other j is = omega (arith, is)

above_other : (j : ℕ) → j + 1 - 1 ≡ j + 1 → ⊥
above_other j is = omega (arith, is)

met_at : (j : ℕ) (side : Side) (input : Input) (place : ℕ) (s : Running)
    → MetAt side input place (s.wires (link_of (j + 1) side))
    ((met (j + 1) input place s).wires (link_of (j + 1) side))
met_at j Entry (inputs.Bytes Entry piece) place s =
    met_here (wires_own (j + 1 - 1) (at_place place (given Entry (length piece.now))) s)
met_at j Exit (inputs.Bytes Exit piece) place s =
    met_here (wires_own (j + 1) (at_place place (given Exit (length piece.now))) s)
met_at j Entry (inputs.Bytes Exit piece) place s =
    met_not (wires_other (j + 1) (j + 1 - 1) (at_place place (given Exit (length piece.now))) s
    (above_other j)) (λ w. refl)
met_at j Exit (inputs.Bytes Entry piece) place s =
    met_not (wires_other (j + 1 - 1) (j + 1) (at_place place (given Entry (length piece.now))) s
    (below_other j)) (λ w. refl)
met_at j Entry inputs.Connect place s =
    met_here (wires_own (j + 1 - 1) (at_place place (with_end Entry Has)) s)
met_at j Exit inputs.Connect place s =
    met_not (wires_other (j + 1 - 1) (j + 1) (at_place place (with_end Entry Has)) s
    (below_other j)) (λ w. refl)
met_at j Exit inputs.Accepted place s =
    met_here (wires_own (j + 1) (at_place place (with_end Exit Has)) s)
met_at j Entry inputs.Accepted place s =
    met_not (wires_other (j + 1) (j + 1 - 1) (at_place place (with_end Exit Has)) s
    (above_other j)) (λ w. refl)
met_at j Exit inputs.Second place s =
    met_here (wires_own (j + 1) (at_place place (with_end Exit Left)) s)
met_at j Entry inputs.Second place s =
    met_not (wires_other (j + 1) (j + 1 - 1) (at_place place (with_end Exit Left)) s
    (above_other j)) (λ w. refl)
met_at j Entry input place s = met_not refl (λ w. refl)
met_at j Exit input place s = met_not refl (λ w. refl)

-- ---- one connection, as the acts begin, behind the reading

pub data PlainIs (side : Side) (input : Input) (place n : ℕ) (r v : Wire) : Type 0 where
  plain_else : r ≡ v → (n ≢ place) ⊎ ((w : Wire) → change_at side input w ≡ w)
      → PlainIs side input place n r v
  plain_here : n ≡ place → change_at side input r ≡ v → PlainIs side input place n r v

pub record Plain (side : Side) (input : Input) (place count : ℕ) (ws : List Wire) (n : ℕ)
    (v : Wire) : Type 0 where
  pub w : Wire
  pub there : slice_get ws n ≡ Some w
  pub is : PlainIs side input place n (read_at side count w) v

-- an input that leaves each connection of a side as it is, or not the one at that place
abbrev pub LeavesIt : Side → Input → ℕ → ℕ → Type 0
LeavesIt side input place n = (n ≢ place) ⊎ ((w : Wire) → change_at side input w ≡ w)

pub data StartIs (side : Side) (input : Input) (place n : ℕ) (text : List ℕ)
    (r v : Wire) : Type 0 where
  start_else : r ≡ v → LeavesIt side input place n → StartIs side input place n text r v
  start_here : is_second input ≡ false → n ≡ place → change_at side input r ≡ v
      → StartIs side input place n text r v
  start_answered : is_second input ≡ true → n ≡ place → side ≡ Exit → (c : List Coming)
      → bytes_of c ≡ text → answered c (with_end Exit Left r) ≡ v
      → StartIs side input place n text r v

pub record Starts (side : Side) (input : Input) (place count : ℕ) (text : List ℕ) (ws : List Wire)
    (n : ℕ) (v : Wire) : Type 0 where
  pub w : Wire
  pub there : slice_get ws n ≡ Some w
  pub is : StartIs side input place n text (read_at side count w) v

pub data PlacedAt (change : Wire
    → Wire) (place : ℕ) (ws : List Wire) (n : ℕ) (v : Wire) : Type 0 where
  placed_here : n ≡ place → GotMapped change ws n v → PlacedAt change place ws n v
  placed_else : n ≢ place → slice_get ws n ≡ Some v → PlacedAt change place ws n v
  placed_none : slice_get ws place ≡ None → slice_get ws n ≡ Some v → PlacedAt change place ws n v

placed_got : (change : Wire → Wire) (place : ℕ) (ws : List Wire) (found : Option Wire)
    → slice_get ws place ≡ found → (n : ℕ) (v : Wire)
    → slice_get (elim found [ None ↦ ws | Some wire ↦ slice_set ws place (change wire) ]) n
    ≡ Some v
    → PlacedAt change place ws n v
placed_got change place ws None is n v there = placed_none is there
placed_got change place ws (Some old) is n v there =
    by (set_or_not ws place (change old) n v there) where
      by : ((n ≡ place) × (change old ≡ v)) ⊎ ((n ≢ place) × (slice_get ws n ≡ Some v))
          → PlacedAt change place ws n v
      by (inl set) =
          placed_here set.0 (record { w = old; there = ap (slice_get ws) set.0 ∙ is; is = set.1 })
      by (inr was) = placed_else was.0 was.1

-- where there is none at that place, this is another
none_there : (ws : List Wire) (place n : ℕ) (v : Wire) → slice_get ws place ≡ None
    → slice_get ws n ≡ Some v → n ≢ place
none_there ws place n v none there is =
    (let never : None ≡ Some v = sym none ∙ ap (slice_get ws) (sym is) ∙ there in cc)

starts : (side : Side) (input : Input) (place count : ℕ) (ws later : List Wire)
    → MetAt side input place (map (read_at side count) ws) later → (n : ℕ) (v : Wire)
    → slice_get later n ≡ Some v → Plain side input place count ws n v
starts side input place count ws later (met_not is same) n v there =
    let g : GotMapped (read_at side count) ws n v =
    got_mapped (read_at side count) ws n v
    (ap (λ (us : List Wire). slice_get us n) (sym is) ∙ there) in
    record { w = g.w; there = g.there; is = plain_else g.is (inr same) }
starts side input place count ws later (met_here is) n v there =
    by (placed_got (change_at side input) place read (slice_get read place) refl n v
    (ap (λ (us : List Wire). slice_get us n) (sym is) ∙ there)) where
      read : List Wire
      read = map (read_at side count) ws

      apart : n ≢ place → slice_get read n ≡ Some v → Plain side input place count ws n v
      apart else was =
          (let g : GotMapped (read_at side count) ws n v = got_mapped
          (read_at side count) ws n v was in record {
            w = g.w;
            there = g.there;
            is = plain_else g.is (inl else);
          })

      by : PlacedAt (change_at side input) place read n v → Plain side input place count ws n v
      by (placed_here at m) =
          (let g : GotMapped (read_at side count) ws n m.w = got_mapped
          (read_at side count) ws n m.w m.there in record {
            w = g.w;
            there = g.there;
            is = plain_here at (ap (change_at side input) g.is ∙ m.is);
          })
      by (placed_else else was) = apart else was
      by (placed_none none was) = apart (none_there read place n v none was) was

plain_is : {side : Side} {input : Input} {place n : ℕ} {r v : Wire} (text : List ℕ)
    → is_second input ≡ false → PlainIs side input place n r v
    → StartIs side input place n text r v
plain_is text plain (plain_else same leaves) = start_else same leaves
plain_is text plain (plain_here at change) = start_here plain at change

plain_starts : {side : Side} {input : Input} {place count : ℕ} {ws : List Wire} {n : ℕ} {v : Wire}
    (text : List ℕ) → is_second input ≡ false → Plain side input place count ws n v
    → Starts side input place count text ws n v
plain_starts text plain p = record { w = p.w; there = p.there; is = plain_is text plain p.is }

-- ---- and behind the acts

pub record TurnedAt (side : Side) (input : Input) (place count : ℕ) (opened : Bool)
    (told : List Act) (ws : List Wire) (n : ℕ) (v : Wire) : Type 0 where
  pub mid : Wire
  pub start : Starts side input place count (text_of_first told) ws n mid
  pub turned : (has (end_at side mid) ≡ true → opened ≡ true)
      → Turned side (messages_for side (acts_for input told)) mid v

whole : (input : Input) (told : List Act) → is_second input ≡ false → acts_for input told ≡ told
whole inputs.Second told plain = cc
whole inputs.Nothing told plain = refl
whole input told plain = refl

plain_at : (j : ℕ) (side : Side) (input : Input) (place : ℕ) (next : NodeState)
    (read rest : List Sensed) (told : List Act) (before after : Running) (opened : Bool)
    → is_second input ≡ false → AreSaidOpen side opened (acts_for input told)
    → after ≡ did (is_second input) (j + 1) place told
    (met (j + 1) input place (with_node (j + 1) next (with_reading (j + 1) read rest before)))
    → (n : ℕ) (v : Wire) → slice_get (after.wires (link_of (j + 1) side)) n ≡ Some v
    → TurnedAt side input place (length (events_at side read)) opened told
    (before.wires (link_of (j + 1) side)) n v
plain_at j side input place next read rest told before after opened plain said is n v there =
    let k : ℕ = link_of (j + 1) side in
    let count : ℕ = length (events_at side read) in
    let one : Running = with_node (j + 1) next (with_reading (j + 1) read rest before) in
    let two : Running = met (j + 1) input place one in
    let last : after ≡ did false (j + 1) place told two =
    is ∙ ap (λ (second : Bool). did second (j + 1) place told two) plain in
    let wired : Wired side told (two.wires k) (after.wires k) =
    subst (λ (s : Running). Wired side told (two.wires k) (s.wires k)) (sym last)
    (did_wired j place side told two) in
    let all : acts_for input told ≡ told = whole input told plain in
    let g : GotTurned side opened told (two.wires k) n v =
    got_wired side told wired opened
    (subst (λ (acts : List Act). AreSaidOpen side opened acts) all said) n v there in
    let m : MetAt side input place (map (read_at side count) (before.wires k)) (two.wires k) =
    subst (λ (ws : List Wire). MetAt side input place ws (two.wires k))
    (read_wires j side next read rest before) (met_at j side input place one) in
    record {
      mid = g.w;
      start = plain_starts (text_of_first told) plain
          (starts side input place count (before.wires k) (two.wires k) m n g.w g.there);
      turned = λ if_has.
          subst (λ (acts : List Act). Turned side (messages_for side acts) g.w v) (sym all)
          (g.turned if_has);
    }

-- the answer to a second connection is for that one, and all else is as in other steps
act_plain : (machine place : ℕ) (act : Act) (s : Running) → IsNoAnswer act
    → act_did true machine place act s ≡ act_did false machine place act s
act_plain machine place (acts.Sends Exit message) s none =
    ap (λ (second : Bool). sent_by second machine place Exit message s) none
act_plain machine place (acts.Sends Entry message) s none = refl
act_plain machine place act s none = refl

did_plain : (machine place : ℕ) (rest : List Act) (s : Running) → AreNoAnswers rest
    → did true machine place rest s ≡ did false machine place rest s
did_plain machine place [] s none = refl
did_plain machine place (act ∷ others) s none =
    ap (did true machine place others)
    (act_plain machine place act s none.0) ∙ did_plain machine place others
    (act_did false machine place act s) none.1

answered_starts : (j : ℕ) (side : Side) (place count : ℕ) (text : List ℕ) (c : List Coming)
    (ws : List Wire) (two : Running) → bytes_of c ≡ text
    → MetAt side inputs.Second place (map (read_at side count) ws)
    (two.wires (link_of (j + 1) side)) → (n : ℕ) (v : Wire)
    → slice_get ((with_wires (j + 1) (at_place place (answered c)) two).wires
    (link_of (j + 1) side)) n ≡ Some v → Starts side inputs.Second place count text ws n v
answered_starts j Entry place count text c ws two is m n v there =
    at_entry (starts Entry inputs.Second place count ws (two.wires (j + 1 - 1)) m n v
    (ap (λ (us : List Wire). slice_get us n)
    (sym (wires_other (j + 1) (j + 1 - 1) (at_place place (answered c)) two (above_other j))) ∙
    there))
  where
    entry_is : {r u : Wire} → PlainIs Entry inputs.Second place n r u
        → StartIs Entry inputs.Second place n text r u
    entry_is (plain_else same leaves) = start_else same leaves
    entry_is (plain_here at change) = start_else change (inr (λ w. refl))

    at_entry : Plain Entry inputs.Second place count ws n v
        → Starts Entry inputs.Second place count text ws n v
    at_entry p = record { w = p.w; there = p.there; is = entry_is p.is }
answered_starts j Exit place count text c ws two is m n v there =
    by (placed_got (answered c) place (two.wires (j + 1))
    (slice_get (two.wires (j + 1)) place) refl n v
    (ap (λ (us : List Wire). slice_get us n)
    (sym (wires_own (j + 1) (at_place place (answered c)) two)) ∙ there)) where
      was_at : (u : Wire) → slice_get (two.wires (j + 1)) n ≡ Some u
          → Plain Exit inputs.Second place count ws n u
      was_at u got = starts Exit inputs.Second place count ws (two.wires (j + 1)) m n u got

      never : with_end Exit Left asked_for ≡ asked_for → ⊥
      never same = (let left : Left ≡ Awaits = ap (λ (x : Wire). x.above) same in cc)

      again : (r u : Wire) → n ≡ place → answered c u ≡ v → PlainIs Exit inputs.Second place n r u
          → StartIs Exit inputs.Second place n text r v
      again r u at last (plain_here same change) =
          start_answered refl at refl c is (ap (answered c) change ∙ last)
      again r u at last (plain_else same (inl apart)) = absurd (apart at)
      again r u at last (plain_else same (inr quiet)) = absurd (never (quiet asked_for))

      elsewhere : {r : Wire} → n ≢ place → PlainIs Exit inputs.Second place n r v
          → StartIs Exit inputs.Second place n text r v
      elsewhere apart (plain_else same leaves) = start_else same leaves
      elsewhere apart (plain_here at change) = absurd (apart at)

      here : (u : Wire) → n ≡ place → answered c u ≡ v
          → Plain Exit inputs.Second place count ws n u
          → Starts Exit inputs.Second place count text ws n v
      here u at last p =
          record { w = p.w; there = p.there; is = again (read_at Exit count p.w) u at last p.is }

      by : PlacedAt (answered c) place (two.wires (j + 1)) n v
          → Starts Exit inputs.Second place count text ws n v
      by (placed_here at g) = here g.w at g.is (was_at g.w g.there)
      by (placed_else else was) =
          (let p = was_at v was in record { w = p.w; there = p.there; is = elsewhere else p.is })
      by (placed_none none was) =
          (let p = was_at v was in record {
            w = p.w;
            there = p.there;
            is = elsewhere (none_there (two.wires (j + 1)) place n v none was) p.is;
          })

second_at : (j : ℕ) (side : Side) (place : ℕ) (next : NodeState) (read rest : List Sensed)
    (told : List Act) (before after : Running) (opened : Bool) → AnswersFirst told
    → AreSaidOpen side opened (acts_for inputs.Second told)
    → after ≡ did true (j + 1) place told
    (met (j + 1) inputs.Second place
    (with_node (j + 1) next (with_reading (j + 1) read rest before))) → (n : ℕ) (v : Wire)
    → slice_get (after.wires (link_of (j + 1) side)) n ≡ Some v
    → TurnedAt side inputs.Second place (length (events_at side read)) opened told
    (before.wires (link_of (j + 1) side)) n v
second_at j side place next read rest told before after opened first said is n v there =
    let k : ℕ = link_of (j + 1) side in
    let count : ℕ = length (events_at side read) in
    let one : Running = with_node (j + 1) next (with_reading (j + 1) read rest before) in
    let two : Running = met (j + 1) inputs.Second place one in
    let c : List Coming = text_behind (count_beyond (j + 1) Exit two) (canonical first.message) in
    let three : Running = with_wires (j + 1) (at_place place (answered c)) two in
    let answer : did true (j + 1) place (acts.Sends Exit first.message ∷ first.rest) two
    ≡ did true (j + 1) place first.rest three =
    ap (λ (test : Bool). did true (j + 1) place first.rest
    (sent_by test (j + 1) place Exit first.message two)) first.answer in
    let last : after ≡ did false (j + 1) place first.rest three =
    is ∙ ap (λ (acts : List Act). did true (j + 1) place acts two) first.is ∙ answer ∙
    did_plain (j + 1) place first.rest three first.none in
    let wired : Wired side first.rest (three.wires k) (after.wires k) =
    subst (λ (s : Running). Wired side first.rest (three.wires k) (s.wires k)) (sym last)
    (did_wired j place side first.rest three) in
    let all : acts_for inputs.Second told ≡ first.rest = ap (acts_for inputs.Second) first.is in
    let g : GotTurned side opened first.rest (three.wires k) n v =
    got_wired side first.rest wired opened
    (subst (λ (acts : List Act). AreSaidOpen side opened acts) all said) n v there in
    let m : MetAt side inputs.Second place (map (read_at side count) (before.wires k))
    (two.wires k) =
    subst (λ (ws : List Wire). MetAt side inputs.Second place ws (two.wires k))
    (read_wires j side next read rest before) (met_at j side inputs.Second place one) in
    let text : bytes_of c ≡ text_of_first told =
    text_bytes (count_beyond (j + 1) Exit two) (canonical first.message) ∙ sym
    (ap text_of_first first.is) in
    record {
      mid = g.w;
      start = answered_starts j side place count (text_of_first told) c
          (before.wires k) two text m n g.w g.there;
      turned = λ if_has.
          subst (λ (acts : List Act). Turned side (messages_for side acts) g.w v) (sym all)
          (g.turned if_has);
    }

-- ALL TURNS
pub turned_at : (j : ℕ) (side : Side) (input : Input) (place : ℕ) (next : NodeState)
    (read rest : List Sensed) (told : List Act) (before after : Running) (opened : Bool)
    → AnswersIf input told → AreSaidOpen side opened (acts_for input told)
    → after ≡ did (is_second input) (j + 1) place told
    (met (j + 1) input place (with_node (j + 1) next (with_reading (j + 1) read rest before)))
    → (n : ℕ) (v : Wire) → slice_get (after.wires (link_of (j + 1) side)) n ≡ Some v
    → TurnedAt side input place (length (events_at side read)) opened told
    (before.wires (link_of (j + 1) side)) n v
turned_at j side inputs.Second place next read rest told before after opened first said is n v
    there = second_at j side place next read rest told before after opened first said is n v there
turned_at j side inputs.Nothing place next read rest told before after opened first said is n v
    there = plain_at j side inputs.Nothing place next read rest told before after opened refl said
    is n v there
turned_at j side input place next read rest told before after opened first said is n v there =
    plain_at j side input place next read rest told before after opened refl said is n v there
