-- THE CONNECTIONS OF A MACHINE'S TWO LINKS behind its acts, as the acts at each side have them.
use Rattle.std.proofs.Common.{Bool, List, [], ap, arith, eq-eqb, false, map, ne_eqb, refl, subst, ℕ, ◌+◌, ◌-◌, ◌∙◌, ◌∷◌, ◌≡◌}
use Rattle.std.specs.Prelude.{cond, length}
use Rattle.law_one_standing.proofs.LedgerMarks.{in_own_gap}
use Rattle.line_base.specs.declared.states.Side.{Side}
use Rattle.line_base.specs.declared.states.Side.TheVariants.{Entry, Exit}
use Rattle.hermes_horizontal.specs.Canonical.{canonical}
use Rattle.board_record.specs.declared.sensed.Sensed.{Sensed}
use Rattle.node_core.specs.Node.{NodeState}
use Rattle.node_core.specs.declared.act.Act.{Act}
use Rattle.node_core.specs.declared.act.Act.TheVariants as acts
use Rattle.law_custody.specs.Words.{events_at}
use Rattle.line_step.specs.World.{link_of}
use Rattle.line_world.specs.FloorPlan.{with_unread}
use Rattle.law_running_line.specs.Running.{Running, at_side, count_beyond, with_floor, with_node, with_reading, with_wires}
use Rattle.law_running_line.specs.Turns.{act_did, did}
use Rattle.law_running_line.specs.Wire.{Wire, left, read_at, said, text_behind}
use Rattle.law_running_line.proofs.WiresActs.{Wired, act_wires, sided, wired_more, wired_none}

-- ---- one link, changed

pub wires_own : (link : ℕ) (change : List Wire → List Wire) (s : Running) → (with_wires link change s).wires link ≡ change (s.wires link)
wires_own link change s = ap (λ (test : Bool). cond test (change (s.wires link)) (s.wires link)) (eq-eqb link link refl)

pub wires_other : (link k : ℕ) (change : List Wire → List Wire) (s : Running) → (k ≡ link → ⊥) → (with_wires link change s).wires k ≡ s.wires k
wires_other link k change s apart = ap (λ (test : Bool). cond test (change (s.wires k)) (s.wires k)) (ne_eqb k link apart)

pub apart_above : (j : ℕ) → j + 1 - 1 ≡ j + 1 → ⊥
apart_above j is = omega (arith, is)

-- each connection of one side of machine j + 1, as a side has it
pub wires_sided : (j : ℕ) (side at : Side) (change : Wire → Wire) (s : Running) → (at_side (j + 1) at change s).wires (link_of (j + 1) side) ≡ sided side at change (s.wires (link_of (j + 1) side))
wires_sided j Entry Entry change s = wires_own (j + 1 - 1) (map change) s
wires_sided j Exit Exit change s = wires_own (j + 1) (map change) s
wires_sided j Entry Exit change s = wires_other (j + 1) (j + 1 - 1) (map change) s (apart_above j)
wires_sided j Exit Entry change s = wires_other (j + 1 - 1) (j + 1) (map change) s (in_own_gap j)

-- ---- the acts

-- behind how many events a text of an act is said
abbrev pub count_for : ℕ → Act → Running → ℕ
count_for j (acts.Sends at message) s = count_beyond (j + 1) at s
count_for j act s = 0

act_wired : (j place : ℕ) (side : Side) (act : Act) (s : Running) → (act_did false (j + 1) place act s).wires (link_of (j + 1) side) ≡ act_wires side (count_for j act s) act (s.wires (link_of (j + 1) side))
act_wired j place side (acts.Sends at message) s = wires_sided j side at (said at (text_behind (count_beyond (j + 1) at s) (canonical message))) s
act_wired j place side (acts.Closes at) s = wires_sided j side at (left at) s
act_wired j place side (acts.Notices at) s = wires_sided j side at (left at) s
act_wired j place side _ s = refl

pub did_wired : (j place : ℕ) (side : Side) (told : List Act) (s : Running) → Wired side told (s.wires (link_of (j + 1) side)) ((did false (j + 1) place told s).wires (link_of (j + 1) side))
did_wired j place side [] s = wired_none
did_wired j place side (act ∷ others) s =
    wired_more (count_for j act s)
    (subst (λ (ws : List Wire). Wired side others ws ((did false (j + 1) place others (act_did false (j + 1) place act s)).wires (link_of (j + 1) side))) (act_wired j place side act s)
    (did_wired j place side others (act_did false (j + 1) place act s)))

-- ---- what was read

abbrev unread_now : ℕ → List Sensed → Running → Running
unread_now j rest s = with_floor (with_unread s.floor (j + 1) rest) s

pub read_wires : (j : ℕ) (side : Side) (node : NodeState) (read rest : List Sensed) (s : Running) → (with_node (j + 1) node (with_reading (j + 1) read rest s)).wires (link_of (j + 1) side) ≡ map (read_at side (length (events_at side read))) (s.wires (link_of (j + 1) side))
read_wires j Entry node read rest s =
    let now : Running = unread_now j rest s in
    let one : Running = at_side (j + 1) Entry (read_at Entry (length (events_at Entry read))) now in
    wires_sided j Entry Exit (read_at Exit (length (events_at Exit read))) one ∙ wires_sided j Entry Entry (read_at Entry (length (events_at Entry read))) now
read_wires j Exit node read rest s =
    let now : Running = unread_now j rest s in
    let one : Running = at_side (j + 1) Entry (read_at Entry (length (events_at Entry read))) now in
    wires_sided j Exit Exit (read_at Exit (length (events_at Exit read))) one ∙ ap (map (read_at Exit (length (events_at Exit read)))) (wires_sided j Exit Entry (read_at Entry (length (events_at Entry read))) now)
