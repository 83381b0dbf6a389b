-- WHEN A MACHINE SAYS A TEXT: only while its side has a connection.
use Rattle.std.specs.Prelude.{ℤ, Bool, true, false, List, [], ◌∷◌, ◌≡◌, None}
use Rattle.line_base.specs.declared.states.Side.{Side}
use Rattle.line_base.specs.declared.states.Side.TheVariants.{Entry, Exit}
use Rattle.board_record.specs.declared.sensed.Sensed.{Sensed}
use Rattle.handover_out.specs.Links.{is_unlinked_phase as out_unlinked}
use Rattle.handover_in.specs.Links.{is_unlinked_phase as in_unlinked}
use Rattle.node_core.specs.May.{may_do, may_of}
use Rattle.node_core.specs.Node.{NodeState}
use Rattle.node_core.specs.Sides.{is_open}
use Rattle.node_core.specs.Step.{Steps}
use Rattle.node_core.specs.declared.act.Act.{Act}
use Rattle.node_core.specs.declared.act.Act.TheVariants as acts
use Rattle.node_core.specs.declared.input.Input.{Input}
use Rattle.node_core.specs.declared.input.Input.TheVariants as inputs
use Rattle.node_core.specs.declared.lane.Body.{Body}
use Rattle.step_rules.specs.Opened.{open_act, opened_by}

-- ---- acts in their order

-- a text at a side is said while that side has a connection
abbrev pub SaidAt : Side → Side → Bool → Type 0
SaidAt Entry Entry opened = opened ≡ true
SaidAt Exit Exit opened = opened ≡ true
SaidAt Entry Exit opened = Unit {0}
SaidAt Exit Entry opened = Unit {0}

abbrev pub SaysOpen : Side → Bool → Act → Type 0
SaysOpen side opened (acts.Sends at message) = SaidAt side at opened
SaysOpen side opened _ = Unit {0}

-- from a side that has a connection, or none: what its acts make of it is `open_act`
abbrev pub AreSaidOpen : Side → Bool → List Act → Type 0
AreSaidOpen side opened [] = Unit {0}
AreSaidOpen side opened (act ∷ others) =
    SaysOpen side opened act × AreSaidOpen side (open_act side opened act) others

-- ---- a side without a connection: no handover is under way on one, and nothing was announced

pub record IsOutletOff (body : Body) : Type 0 where
  pub apart : out_unlinked body.outlet.phase ≡ true
  pub unsaid : body.outlet.offered ≡ None

pub record IsIntakeOff (body : Body) : Type 0 where
  pub apart : in_unlinked body.intake.phase ≡ true
  pub unsaid : body.intake.ready ≡ false

abbrev pub IsOff : Side → Body → Type 0
IsOff Entry body = IsIntakeOff body
IsOff Exit body = IsOutletOff body

abbrev pub IsOffClosed : Side → Body → Type 0
IsOffClosed side body = is_open side body ≡ false → IsOff side body

-- ---- THE LAW

-- a close that is found is told first
pub record NoticesFirst (side : Side) (told : List Act) : Type 0 where
  pub rest : List Act
  pub is : told ≡ acts.Notices side ∷ rest

abbrev pub NoticesIf : List Sensed → Input → List Act → Type 0
NoticesIf [] (inputs.Notice side) told = NoticesFirst side told
NoticesIf read input told = Unit {0}

pub record IsSpoken (s t : NodeState) (read : List Sensed) (input : Input)
    (told : List Act) : Type 0 where
  pub says : (side : Side)
      → AreSaidOpen side (opened_by input side (is_open side s.lane.body)) told
  pub notices : NoticesIf read input told
  pub off : (side : Side) → IsOffClosed side t.lane.body

abbrev pub EachStepIsSpoken : Type 0
EachStepIsSpoken =
    (s t : NodeState) (read : List Sensed) (input : Input) (moment : ℤ) (told : List Act)
    → may_of s input ≡ may_do → Steps s read input moment t told
    → ((side : Side) → IsOffClosed side s.lane.body) → IsSpoken s t read input told
