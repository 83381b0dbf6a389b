-- An end of a link has a connection where the session of its machine is open: what a step, and a new connection, do to it.
use Rattle.std.proofs.Common.{◌≡◌, ◌≢◌, ◌∙◌, ℕ, ◌-◌, ◌≤◌, Bool, true, List, Option, Some, None, length, refl, sym, ap, arith}
use Rattle.std.specs.Prelude.{is_some}
use Rattle.line_base.specs.declared.states.Side.{Side}
use Rattle.line_base.specs.declared.states.Side.TheVariants.{Entry, Exit}
use Rattle.line_link.specs.Link.{LinkParts, after_connect, connected, connected_of, next_number}
use Rattle.node_core.specs.declared.input.Input.{Input}
use Rattle.node_core.specs.declared.input.Input.TheVariants as inputs
use Rattle.node_core.specs.Node.{NodeState}
use Rattle.node_core.specs.Sides.{is_open}
use Rattle.line_step.specs.World.{link_at, with_link}
use Rattle.line_step.specs.State.{LineState, machine_in}
use Rattle.line_step.specs.Steps.{MachineSteps, is_second, moment_of, read_by, unread_by}
use Rattle.line_step.specs.Lines.{connecting, met}
use Rattle.step_rules.specs.Opened.{open_after, opened_by}
use Rattle.line_step.specs.Together.{is_linked}
use Rattle.line_step.proofs.Numbers.{link_set_own, link_set_other, machine_set_own, machine_set_other, machine_within}
use Rattle.step_rules.proofs.Opening.{steps_open}
use Rattle.line_step.proofs.Ends.{own_end, other_end}
use Rattle.line_report.specs.declared.happening.Happening.{Happening}

-- the ends of a machine's links are connected where its sessions are open, or will be after an input
pub record IsJoined (s : LineState) (machine : ℕ) (opened : Side → Bool → Bool) : Type 0 where
  pub sides : (side : Side) (node : NodeState) → machine_in machine s ≡ Some node → is_linked machine side s.world ≡ opened side (is_open side node.lane.body)

abbrev pub as_open : Side → Bool → Bool
as_open side opened = opened

-- ---- a step of a machine

same_node : (a b : NodeState) (found : Option NodeState) → found ≡ Some a → found ≡ Some b → a ≡ b
same_node a b found x y = cc

pub step_joins_own : (number machine : ℕ) (input : Input) (before after : LineState) (told : List Happening) → MachineSteps number machine input before after told
    → IsJoined before machine (opened_by input) → IsJoined after machine as_open
step_joins_own number machine input before after told steps joined =
    let read = read_by machine before.world in
    let next : machine_in machine after ≡ Some steps.next = ap (machine_in machine) steps.after_is ∙ machine_set_own machine before steps.node steps.next steps.there in
    let ends : (side : Side) → is_linked machine side after.world ≡ is_open side steps.next.lane.body = λ side.
    ap (λ (s : LineState). is_linked machine side s.world) steps.after_is ∙ own_end (is_second input) machine steps.acts read side
    ∙ ap (λ (o : Bool). open_after side o steps.acts) (joined.sides side steps.node steps.there)
    ∙ sym (steps_open steps.node (unread_by machine before.world) input (moment_of number) steps.next steps.acts side steps.steps) in
    record { sides = λ side node is. ends side ∙ ap (λ (n : NodeState). is_open side n.lane.body) (same_node steps.next node (machine_in machine after) next is) }

pub step_keeps_other : (number machine : ℕ) (input : Input) (before after : LineState) (told : List Happening) → MachineSteps number machine input before after told → (other : ℕ) → other ≢ machine
    → machine_in other after ≡ machine_in other before
step_keeps_other number machine input before after told steps other apart =
    ap (machine_in other) steps.after_is ∙ machine_set_other machine other before steps.next (machine_within machine before steps.node steps.there).0 apart

pub step_joins_other : (number machine : ℕ) (input : Input) (before after : LineState) (told : List Happening) → MachineSteps number machine input before after told → (other : ℕ) → other ≢ machine
    → (opened : Side → Bool → Bool) → IsJoined before other opened → IsJoined after other opened
step_joins_other number machine input before after told steps other apart opened joined =
    let same = step_keeps_other number machine input before after told steps other apart in
    record {
      sides = λ side node is.
          ap (λ (s : LineState). is_linked other side s.world) steps.after_is ∙ other_end (is_second input) machine steps.acts (read_by machine before.world) other side apart ∙ joined.sides side node (sym same ∙ is);
    }

-- ---- a connection is made

pub made_down : (upstream : Option ℕ) (number : ℕ) (link : LinkParts) → is_some (connected upstream number link).downstream ≡ true
made_down None number link = refl
made_down (Some other) number link = refl

-- the upstream end has a connection in either case
made_up : (upstream : Option ℕ) (number : ℕ) (link : LinkParts) → link.upstream ≡ upstream → is_some (connected upstream number link).upstream ≡ true
made_up None number link is = refl
made_up (Some other) number link is = ap (λ (n : Option ℕ). is_some n) is

abbrev pub IsLinkOf : ℕ → LineState → Type 0
IsLinkOf link s = (1 ≤ link) × (link ≤ length s.world.links)

made_at : (link : ℕ) (s : LineState) → IsLinkOf link s → link_at link (with_link link (after_connect (link_at link s.world)) s.world) ≡ after_connect (link_at link s.world)
made_at link s there = link_set_own link (after_connect (link_at link s.world)) s.world there.0 there.1

-- the machine that connects is joined once its session is open
below_ends : (machine : ℕ) (s : LineState) → IsLinkOf (machine - 1) s → IsJoined s machine as_open → (side : Side) (node : NodeState) → machine_in machine s ≡ Some node
    → is_linked machine side (connecting machine s).world ≡ opened_by inputs.Connect side (is_open side node.lane.body)
below_ends machine s there joined Entry node is =
    let link = link_at (machine - 1) s.world in
    ap (λ (l : LinkParts). is_some l.downstream) (made_at (machine - 1) s there) ∙ made_down link.upstream (next_number link.made) link
below_ends machine s there joined Exit node is =
    let counted = there.0 in
    let apart : machine ≢ machine - 1 = omega arith in
    ap (λ (l : LinkParts). is_some l.upstream) (link_set_other (machine - 1) machine (after_connect (link_at (machine - 1) s.world)) s.world apart) ∙ joined.sides Exit node is

pub connecting_below : (machine : ℕ) (s : LineState) → IsLinkOf (machine - 1) s → IsJoined s machine as_open → IsJoined (connecting machine s) machine (opened_by inputs.Connect)
connecting_below machine s there joined = record { sides = below_ends machine s there joined }

-- and the machine above it once it has met the connection
met_exit : (upstream : Option ℕ) (opened : Bool) → is_some upstream ≡ opened → opened_by (met (connected_of upstream)) Exit opened ≡ true
met_exit None opened is = refl
met_exit (Some number) opened is = sym is

met_entry : (upstream : Option ℕ) (opened : Bool) → opened_by (met (connected_of upstream)) Entry opened ≡ opened
met_entry None opened = refl
met_entry (Some number) opened = refl

above_ends : (machine : ℕ) (s : LineState) → IsLinkOf (machine - 1) s → IsJoined s (machine - 1) as_open → (side : Side) (node : NodeState) → machine_in (machine - 1) s ≡ Some node
    → is_linked (machine - 1) side (connecting machine s).world ≡ opened_by (met (connected_of (link_at (machine - 1) s.world).upstream)) side (is_open side node.lane.body)
above_ends machine s there joined Exit node is =
    let link = link_at (machine - 1) s.world in
    ap (λ (l : LinkParts). is_some l.upstream) (made_at (machine - 1) s there) ∙ made_up link.upstream (next_number link.made) link refl ∙ sym (met_exit link.upstream (is_open Exit node.lane.body) (joined.sides Exit node is))
above_ends machine s there joined Entry node is =
    let counted = there.0 in
    let apart : machine - 1 - 1 ≢ machine - 1 = omega arith in
    ap (λ (l : LinkParts). is_some l.downstream) (link_set_other (machine - 1) (machine - 1 - 1) (after_connect (link_at (machine - 1) s.world)) s.world apart) ∙ joined.sides Entry node is
    ∙ sym (met_entry (link_at (machine - 1) s.world).upstream (is_open Entry node.lane.body))

pub connecting_above : (machine : ℕ) (s : LineState) → IsLinkOf (machine - 1) s → IsJoined s (machine - 1) as_open → IsJoined (connecting machine s) (machine - 1) (opened_by (met (connected_of (link_at (machine - 1) s.world).upstream)))
connecting_above machine s there joined = record { sides = above_ends machine s there joined }

-- all others stay joined
other_ends : (machine : ℕ) (s : LineState) → IsLinkOf (machine - 1) s → (other : ℕ) → other ≢ machine → other ≢ machine - 1 → (side : Side) → is_linked other side (connecting machine s).world ≡ is_linked other side s.world
other_ends machine s there other below above Entry =
    let counted = there.0 in
    let apart : other - 1 ≢ machine - 1 = omega arith in
    ap (λ (l : LinkParts). is_some l.downstream) (link_set_other (machine - 1) (other - 1) (after_connect (link_at (machine - 1) s.world)) s.world apart)
other_ends machine s there other below above Exit = ap (λ (l : LinkParts). is_some l.upstream) (link_set_other (machine - 1) other (after_connect (link_at (machine - 1) s.world)) s.world above)

pub connecting_other : (machine : ℕ) (s : LineState) → IsLinkOf (machine - 1) s → (other : ℕ) → other ≢ machine → other ≢ machine - 1 → IsJoined s other as_open → IsJoined (connecting machine s) other as_open
connecting_other machine s there other below above joined = record { sides = λ side node is. other_ends machine s there other below above side ∙ joined.sides side node is }
