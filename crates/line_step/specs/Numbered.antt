-- A line by numbers: its machines and links as functions of their number, with nothing beyond its
-- ends, and relations of neighbours.
use Rattle.std.specs.Prelude.{◌≡◌, ◌≢◌, ℕ, ◌+◌, zero, suc, false, slice_index_or}
use Rattle.line_link.specs.Link.{LinkParts}
use Rattle.line_world.specs.FloorPlan.{AtMachine, gap_at, machine_at}
use Rattle.line_world.specs.declared.gap.AtGap.{AtGap}
use Rattle.node_core.specs.Node.{NodeState, new_node}
use Rattle.line_step.specs.World.{WorldParts, link_at}
use Rattle.line_step.specs.State.{LineState, profile_of}

-- a machine with what is at it on the floor
pub record Stand : Type 0 where
  pub node : NodeState
  pub place : AtMachine

-- what is between two machines
pub record Between : Type 0 where
  pub link : LinkParts
  pub gap : AtGap

-- beyond the ends of a line: a machine without boards and connections
abbrev pub no_node : NodeState
no_node = new_node (profile_of 1 false 0 1 0)

abbrev pub node_at : LineState → ℕ → NodeState
node_at s zero = no_node
node_at s (suc place) = slice_index_or s.machines place no_node

abbrev pub stand_at : LineState → ℕ → Stand
stand_at s machine = record { node = node_at s machine; place = machine_at s.world.floor machine }

abbrev pub between_in : ℕ → WorldParts → Between
between_in link world = record { link = link_at link world; gap = gap_at world.floor link }

abbrev pub between_at : LineState → ℕ → Between
between_at s link = between_in link s.world

-- ---- relations of neighbours

-- a relation of each two neighbours and what is between them
pub record Each {M B : Type 0} (P : M → B → M → Type 0) (ms : ℕ → M) (bs : ℕ → B) : Type 0 where
  pub at : (k : ℕ) → P (ms k) (bs k) (ms (k + 1))

-- a relation of each machine and what is above and below it
pub record EachBody {M B : Type 0} (Q : B → M → B → Type 0) (ms : ℕ → M) (bs : ℕ
    → B) : Type 0 where
  pub at : (k : ℕ) → Q (bs k) (ms (k + 1)) (bs (k + 1))

-- nothing changes but a machine and what is above and below it
pub record Changes {M B : Type 0} (m : ℕ) (ms : ℕ → M) (bs : ℕ → B) (ms2 : ℕ → M) (bs2 : ℕ
    → B) : Type 0 where
  pub machines : (k : ℕ) → k ≢ m → ms2 k ≡ ms k
  pub links : (k : ℕ) → k ≢ m → k + 1 ≢ m → bs2 k ≡ bs k

-- nothing changes but what is between two machines
pub record ChangesBetween {M B : Type 0} (link : ℕ) (ms : ℕ → M) (bs : ℕ → B) (ms2 : ℕ
    → M) (bs2 : ℕ → B) : Type 0 where
  pub machines : (k : ℕ) → ms2 k ≡ ms k
  pub links : (k : ℕ) → k ≢ link → bs2 k ≡ bs k

-- and nothing but the two machines and what is between them
pub record ChangesAround {M B : Type 0} (link : ℕ) (ms : ℕ → M) (bs : ℕ → B) (ms2 : ℕ → M) (bs2 : ℕ
    → B) : Type 0 where
  pub machines : (k : ℕ) → k ≢ link → k ≢ link + 1 → ms2 k ≡ ms k
  pub links : (k : ℕ) → k ≢ link → bs2 k ≡ bs k

-- ---- of a line

abbrev pub ChangesMachine : ℕ → LineState → LineState → Type 0
ChangesMachine machine before after =
    Changes machine (stand_at before) (between_at before) (stand_at after) (between_at after)

abbrev pub ChangesLink : ℕ → LineState → LineState → Type 0
ChangesLink link before after =
    ChangesBetween link (stand_at before) (between_at before) (stand_at after) (between_at after)

abbrev pub ChangesGap : ℕ → LineState → LineState → Type 0
ChangesGap gap before after =
    ChangesAround gap (stand_at before) (between_at before) (stand_at after) (between_at after)
