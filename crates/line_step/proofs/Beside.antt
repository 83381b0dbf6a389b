-- A track behind a line of another one: what holds of it still does.
use Rattle.std.proofs.Common.{◌≡◌, ◌-◌, ◌≤◌, ◌+◌, ◌⊎◌, inl, inr, ℕ, zero, suc, List, [], ◌∷◌, Some, length, refl, subst, sym, ap, ◌∙◌, arith, slice_get}
use Rattle.std.specs.Prelude.{map, slice_index_or}
use Rattle.line_base.specs.declared.states.Side.{Side}
use Rattle.node_core.specs.Node.{NodeState}
use Rattle.node_core.specs.Sides.{is_open}
use Rattle.standings.specs.Marks.{Owned, marks_of}
use Rattle.node_core.specs.declared.lane.Lane.{Lane}
use Rattle.line_step.specs.Numbered.{no_node, node_at}
use Rattle.line_step.specs.State.{LineState, machine_in, marks_in, owned, owned_by}
use Rattle.line_step.specs.Together.{IsLineTogether, is_linked}
use Rattle.line_step.specs.Tracks.{AreBesideNodes, IsBeside, IsBesideNode}
use Rattle.line_step.specs.World.{WorldParts}
use Rattle.step_rules.specs.Makers.{IsOld}
use Rattle.step_rules.proofs.Makers.{AreNumbered, IsNumbered, made-more}

-- ---- its machines

pub beside-itself : (node : NodeState) → IsBesideNode node node
beside-itself node = record { spent = refl; name = refl; number = refl; capacity = refl; machine = refl; used = omega arith; lane = refl; bridge = refl; forecasts = refl; orders = refl }

beside-there : (nodes others : List NodeState) (place : ℕ) → AreBesideNodes nodes others → IsBesideNode (slice_index_or nodes place no_node) (slice_index_or others place no_node)
beside-there [] [] place are = beside-itself no_node
beside-there [] (other ∷ others) place are = absurd are
beside-there (node ∷ nodes) [] place are = absurd are
beside-there (node ∷ nodes) (other ∷ others) zero are = are.0
beside-there (node ∷ nodes) (other ∷ others) (suc place) are = beside-there nodes others place are.1

pub beside-node : (s t : LineState) (machine : ℕ) → IsBeside s t → IsBesideNode (node_at s machine) (node_at t machine)
beside-node s t zero is = beside-itself no_node
beside-node s t (suc place) is = beside-there s.machines t.machines place is.machines

-- the lane of each is as it was
pub beside-lane : (s t : LineState) (machine : ℕ) → IsBeside s t → (node_at t machine).lane ≡ (node_at s machine).lane
beside-lane s t machine is = (beside-node s t machine is).lane

pub beside-length : (nodes others : List NodeState) → AreBesideNodes nodes others → length others ≡ length nodes
beside-length [] [] are = refl
beside-length [] (other ∷ others) are = absurd are
beside-length (node ∷ nodes) [] are = absurd are
beside-length (node ∷ nodes) (other ∷ others) are = ap suc (beside-length nodes others are.1)

-- the machine that is there now is beside the one that was
pub record WasThere (nodes : List NodeState) (place : ℕ) (now : NodeState) : Type 0 where
  pub node : NodeState
  pub there : slice_get nodes place ≡ Some node
  pub beside : IsBesideNode node now

pub beside-was : (nodes others : List NodeState) (place : ℕ) (now : NodeState) → AreBesideNodes nodes others → slice_get others place ≡ Some now → WasThere nodes place now
beside-was [] [] place now are there = cc
beside-was [] (other ∷ others) place now are there = absurd are
beside-was (node ∷ nodes) [] place now are there = absurd are
beside-was (node ∷ nodes) (other ∷ others) zero now are there =
    let same : other ≡ now = cc in
    record { node = node; there = refl; beside = subst (λ (n : NodeState). IsBesideNode node n) same are.0 }
beside-was (node ∷ nodes) (other ∷ others) (suc place) now are there =
    let was = beside-was nodes others place now are.1 there in
    record { node = was.node; there = was.there; beside = was.beside }

-- ---- the ids that they made

pub beside-numbered : (number : ℕ) (nodes others : List NodeState) → AreBesideNodes nodes others → AreNumbered number nodes → AreNumbered number others
beside-numbered number [] [] are own = tt
beside-numbered number [] (other ∷ others) are own = absurd are
beside-numbered number (node ∷ nodes) [] are own = absurd are
beside-numbered number (node ∷ nodes) (other ∷ others) are own =
    let one : IsNumbered number other = record { machine = are.0.machine ∙ own.0.machine } in
    (one, beside-numbered (number + 1) nodes others are.1 own.1)

pub beside-old : (number : ℕ) (nodes others : List NodeState) → AreBesideNodes nodes others → (id : ℕ) → IsOld number nodes id → IsOld number others id
beside-old number [] [] are id old = absurd old
beside-old number [] (other ∷ others) are id old = absurd are
beside-old number (node ∷ nodes) [] are id old = absurd are
beside-old number (node ∷ nodes) (other ∷ others) are id old =
    elim old [
      | inl made ↦ inl (made-more number node.maker.used other.maker.used id are.0.used made)
      | inr later ↦ inr (beside-old (number + 1) nodes others are.1 id later)
    ]

-- ---- their records

beside-owned-by : (node other : NodeState) → IsBesideNode node other → owned_by other ≡ owned_by node
beside-owned-by node other are = ap (λ (l : Lane). owned_by (record node { lane = l })) are.lane

beside-owned-all : (nodes others : List NodeState) → AreBesideNodes nodes others → map owned_by others ≡ map owned_by nodes
beside-owned-all [] [] are = refl
beside-owned-all [] (other ∷ others) are = absurd are
beside-owned-all (node ∷ nodes) [] are = absurd are
beside-owned-all (node ∷ nodes) (other ∷ others) are = λ i. beside-owned-by node other are.0 i ∷ beside-owned-all nodes others are.1 i

pub beside-owned : (s t : LineState) → IsBeside s t → owned t ≡ owned s
beside-owned s t is = beside-owned-all s.machines t.machines is.machines

pub beside-marks : (s t : LineState) (id : ℕ) → IsBeside s t → marks_in t id ≡ marks_in s id
beside-marks s t id is = ap (λ (own : List Owned). marks_of own id) (beside-owned s t is)

-- ---- what stands together in it

beside-joined : (s t : LineState) → IsBeside s t → IsLineTogether s → (machine : ℕ) (side : Side) (node : NodeState) → machine_in machine t ≡ Some node → is_linked machine side t.world ≡ is_open side node.lane.body
beside-joined s t is together zero side node there = cc
beside-joined s t is together (suc place) side node there =
    let was = beside-was s.machines t.machines place node is.machines there in
    ap (λ (w : WorldParts). is_linked (suc place) side w) is.world ∙ together.joined (suc place) side was.node was.there ∙ ap (λ (l : Lane). is_open side l.body) (sym was.beside.lane)

pub beside-together : (s t : LineState) → t.lines ≤ 1000000 → IsBeside s t → IsLineTogether s → IsLineTogether t
beside-together s t few is together =
    let many : length t.machines ≡ length s.machines = beside-length s.machines t.machines is.machines in
    record {
      few = omega (arith, many, together.few);
      short = few;
      floor = ap (λ (w : WorldParts). length w.floor.machines) is.world ∙ together.floor ∙ sym many;
      links = ap (λ (w : WorldParts). length w.links) is.world ∙ together.links ∙ ap (λ n. n - 1) (sym many);
      joined = beside-joined s t is together;
    }
