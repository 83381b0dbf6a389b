-- A SIDE THAT IS OFF: its session doesn't stand, no handover is under way on a connection of it,
-- and nothing was announced there.
use Rattle.std.specs.Prelude.{List, None, [], false, true, ◌∷◌, ◌≡◌}
use Rattle.line_base.specs.declared.states.Role.TheVariants.{Downstream, Upstream}
use Rattle.line_base.specs.declared.states.Side.{Side}
use Rattle.line_base.specs.declared.states.Side.TheVariants.{Entry, Exit}
use Rattle.session_core.specs.declared.state.SessionState.TheVariants.{Standing}
use Rattle.handover_out.specs.Links.{is_unlinked_phase as out_unlinked}
use Rattle.handover_out.specs.State.{OutState}
use Rattle.handover_in.specs.Links.{is_unlinked_phase as in_unlinked}
use Rattle.handover_in.specs.State.{InState, may_connect}
use Rattle.node_core.specs.Done.{Done}
use Rattle.node_core.specs.Event.{Connect, Event, Words}
use Rattle.node_core.specs.Sides.{session_at}
use Rattle.node_core.specs.declared.act.Act.{Act}
use Rattle.node_core.specs.declared.act.Act.TheVariants as acts
use Rattle.node_core.specs.declared.lane.Body.{Body as Machine}
use Rattle.law_custody.specs.Words.{down_words, up_words}

-- an act by which a side says nothing that a half of a handover hears
abbrev pub IsMute : Side → Act → Type 0
IsMute Entry (acts.Sends Entry message) = up_words (message.body ∷ []) ≡ []
IsMute Exit (acts.Sends Exit message) = down_words (message.body ∷ []) ≡ []
IsMute _ _ = Unit {0}

pub data AreMute (side : Side) : List Act → Type 0 where
  none_mute : AreMute side []
  more_mute : {act : Act} {others : List Act} → IsMute side act → AreMute side others
      → AreMute side (act ∷ others)

-- ---- the side

pub record IsOutOff (o : OutState) : Type 0 where
  pub apart : out_unlinked o.phase ≡ true
  pub unsaid : o.offered ≡ None

pub record IsInOff (i : InState) : Type 0 where
  pub apart : in_unlinked i.phase ≡ true
  pub unsaid : i.ready ≡ false

abbrev pub HalfOff : Side → Machine → Type 0
HalfOff Entry body = IsInOff body.intake
HalfOff Exit body = IsOutOff body.outlet

pub record Off (side : Side) (body : Machine) : Type 0 where
  pub state : (session_at side body).state ≡ Standing → ⊥
  pub entry_role : body.entry.session.role ≡ Downstream
  pub exit_role : body.exit.session.role ≡ Upstream
  pub half : HalfOff side body

-- ---- what a step leaves of it

-- an entry that may connect still may
abbrev pub StillMay : Side → Machine → Machine → Type 0
StillMay Entry before after =
    may_connect before.intake.phase ≡ true → may_connect after.intake.phase ≡ true
StillMay Exit before after = Unit {0}

pub record Mutes (side : Side) (before : Machine) (d : Done) : Type 0 where
  pub mute : AreMute side d.acts
  pub off : Off side d.body
  pub may : StillMay side before d.body

-- whatever befalls the machine, but words to that side and a connection of its entry
abbrev pub StaysOff : Side → Event → Type 0
StaysOff Entry Connect = ⊥
StaysOff Entry (Words Entry spoken) = ⊥
StaysOff Exit (Words Exit spoken) = ⊥
StaysOff side event = Unit {0}
