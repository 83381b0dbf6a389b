-- A step of any input but bytes and connections is one in its machine's scene.
use Rattle.std.proofs.Common.{Bool, List, [], ap, false, refl, subst, sym, true, ℕ, ◌+◌, ◌∙◌, ◌≡◌, ◌≤◌}
use Rattle.std.specs.Prelude.{drop}
use Rattle.std.proofs.lemmas.Bool.{false≢true}
use Rattle.law_one_standing.proofs.RestLine.{node_there}
use Rattle.line_base.specs.declared.states.Side.{Side}
use Rattle.line_base.specs.declared.states.Side.TheVariants.{Entry, Exit}
use Rattle.board_record.specs.Maker.{Maker}
use Rattle.hermes_horizontal.specs.declared.message.Horizontal.{Horizontal}
use Rattle.line_link.specs.Flow.{Stream}
use Rattle.line_link.specs.Link.{AreBegun, LinkParts}
use Rattle.line_report.specs.declared.happening.Happening.{Happening}
use Rattle.line_world.specs.FloorPlan.{gap_at}
use Rattle.line_world.specs.declared.gap.AtGap.{AtGap}
use Rattle.node_core.specs.Event.{Event, event_of}
use Rattle.node_core.specs.Node.{NodeState, desk_of}
use Rattle.node_core.specs.Step.{Brings}
use Rattle.node_core.specs.declared.act.Act.{Act}
use Rattle.node_core.specs.declared.input.Input.{Input}
use Rattle.node_core.specs.declared.input.Input.TheVariants as inputs
use Rattle.node_core.specs.declared.lane.Lane.{Lane}
use Rattle.node_core.specs.declared.word.Word.{Word}
use Rattle.law_link_messages.specs.Fit.{IsFitEvent, IsFitInput, IsFitMaker, none_heard}
use Rattle.law_link_messages.proofs.Eventing.{event_of_fits}
use Rattle.law_machine_custody.specs.Scene.{Scene}
use Rattle.line_step.specs.Numbered.{node_at}
use Rattle.line_step.specs.Reasons.{has_link}
use Rattle.line_step.specs.State.{LineState}
use Rattle.line_step.specs.Steps.{MachineSteps, is_second, moment_of, unread_by}
use Rattle.line_step.specs.World.{link_at}
use Rattle.law_one_standing.specs.Carried.{Carries, Trace}
use Rattle.law_one_standing.specs.Links.{AreWholeLinks}
use Rattle.law_one_standing.specs.Mirrors.{AreHeard, Mirrors, scene_at}
use Rattle.law_one_standing.specs.Stands.{Stands}
use Rattle.law_one_standing.proofs.Carrying.{SaysAlone}
use Rattle.law_one_standing.proofs.CarryingSides.{Home, IsSide, Joint, heard_in, home_hears, joint_as, joint_none}
use Rattle.law_one_standing.proofs.Counting.{input_words, is_bytes_to, step_hears_none}
use Rattle.law_one_standing.proofs.Mirroring.{mirrors_by}
use Rattle.law_one_standing.proofs.Signalled.{signals_unheard}

-- ---- the inputs

-- neither bytes nor a connection
abbrev pub is_plain_input : Input → Bool
is_plain_input (inputs.Bytes side piece) = false
is_plain_input inputs.Connect = false
is_plain_input inputs.Accepted = false
is_plain_input inputs.Second = false
is_plain_input _ = true

pub no_second : (input : Input) → is_plain_input input ≡ true → is_second input ≡ false
no_second inputs.Second plain = absurd (false≢true plain)
no_second _ plain = refl

no_bytes : (at : Side) (input : Input) → is_plain_input input ≡ true → is_bytes_to at input ≡ false
no_bytes at (inputs.Bytes side piece) plain = absurd (false≢true plain)
no_bytes Entry _ plain = refl
no_bytes Exit _ plain = refl

heard_plain : (input : Input) (words : List Word) (c : Scene) → is_plain_input input ≡ true → AreHeard input words c
heard_plain (inputs.Bytes side piece) words c plain = absurd (false≢true plain)
heard_plain _ words c plain = tt

pub brings_plain : (input : Input) (old new : Lane) (words : List Word) → is_plain_input input ≡ true → Brings input old new words → (new.entry_bytes ≡ old.entry_bytes) × (new.exit_bytes ≡ old.exit_bytes)
brings_plain (inputs.Bytes side piece) old new words plain brings = absurd (false≢true plain)
brings_plain inputs.Connect old new words plain brings = absurd (false≢true plain)
brings_plain inputs.Accepted old new words plain brings = absurd (false≢true plain)
brings_plain _ old new words plain brings = brings

no_words : (maker : Maker) (input : Input) (words : List Word) → is_plain_input input ≡ true → event_of maker input words ≡ event_of maker input []
no_words maker (inputs.Bytes side piece) words plain = absurd (false≢true plain)
no_words maker _ words plain = refl

pub event_fits : (maker : Maker) (input : Input) (words : List Word) → is_plain_input input ≡ true → IsFitMaker maker → IsFitInput input → IsFitEvent (event_of maker input words)
event_fits maker input words plain m i = subst (λ (e : Event). IsFitEvent e) (sym (no_words maker input words plain)) (event_of_fits maker input [] m i none_heard)

-- ---- a side that hears nothing

pub home_quiet : {stands : Bool} {old new : List ℕ} {stream : Stream} {messages : List Horizontal} (side : Side) (told : List Act) → heard_in side told ≡ 0 → new ≡ old → Carries stands old stream messages → Home side told stands new stream messages
home_quiet {stands = stands} {new = new} {stream = stream} {messages = messages} side told none same k =
    home_hears (subst (λ (n : ℕ). Carries stands new stream (drop n messages)) (sym none) (subst (λ (bytes : List ℕ). Carries stands bytes stream messages) (sym same) k))

-- what is asked of a link where there is one
pub joint_when : {new far : List ℕ} {link : LinkParts} {gap now : AtGap} {stands : Bool} {home away : List Horizontal} (side : Side) (has : Bool) (told : List Act)
    → (has ≡ true → IsSide side told new far link gap stands now home away) → Joint side has told new far link gap stands now home away
joint_when side true told k = joint_as refl (k refl)
joint_when side false told k = joint_none refl

pub above_quiet : {old new far : List ℕ} {stands : Bool} {up down : List Horizontal} (has : Bool) (told : List Act) (link : LinkParts) (gap : AtGap) → link.stands ≡ stands → (has ≡ true → Carries stands far link.flows.to_upstream up) → (has ≡ true → Carries stands old link.flows.to_downstream down)
    → AreBegun link.flows → heard_in Entry told ≡ 0 → new ≡ old → Joint Entry has told new far link gap stands gap down up
above_quiet has told link gap is up down begun none same =
    joint_when Entry has told (λ there. record { is_on = is; same = refl; comes = home_quiet Entry told none same (down there); goes = up there; begun = begun.upstream; begun_home = begun.downstream })

pub below_quiet : {old new far : List ℕ} {stands : Bool} {up down : List Horizontal} (has : Bool) (told : List Act) (link : LinkParts) (gap : AtGap) → link.stands ≡ stands → (has ≡ true → Carries stands old link.flows.to_upstream up) → (has ≡ true → Carries stands far link.flows.to_downstream down)
    → AreBegun link.flows → heard_in Exit told ≡ 0 → new ≡ old → Joint Exit has told new far link gap stands gap up down
below_quiet has told link gap is up down begun none same =
    joint_when Exit has told (λ there. record { is_on = is; same = refl; comes = home_quiet Exit told none same (up there); goes = down there; begun = begun.downstream; begun_home = begun.upstream })

-- its acts hear nothing
pub quiet_side : (number j : ℕ) (input : Input) (start after : LineState) (told : List Happening) (side : Side) → is_bytes_to side input ≡ false → (steps : MachineSteps number (j + 1) input start after told) → heard_in side steps.acts ≡ 0
quiet_side number j input start after told side plain steps =
    let node : NodeState = steps.node in
    ap (heard_in side) steps.steps.told ∙ signals_unheard side steps.steps.made node.bridge steps.next.lane.body ∙ ap (heard_in side) steps.steps.lane.told
    ∙ step_hears_none side (desk_of node (moment_of number)) (unread_by (j + 1) start.world) (event_of node.maker input steps.steps.lane.words) node.lane.body (input_words side node.maker input steps.steps.lane.words plain)

pub maker_of : (s : LineState) (machine : ℕ) (node : NodeState) → node_at s machine ≡ node → IsFitMaker (node_at s machine).maker → IsFitMaker node.maker
maker_of s machine node is fit = subst (λ (n : NodeState). IsFitMaker n.maker) is fit

-- THE STEP
pub mirrors_plain : SaysAlone → (t : Trace) (number j : ℕ) (input : Input) (before after : LineState) (told : List Happening) → is_plain_input input ≡ true → IsFitInput input → number ≤ 1000000 → Stands t before → AreWholeLinks before
    → MachineSteps number (j + 1) input before after told → Mirrors number j input t before after
mirrors_plain alone t number j input before after told plain fit few holds links steps =
    let node : NodeState = steps.node in
    let node_is : node_at before (j + 1) ≡ node = node_there (j + 1) before node steps.there in
    let brings = brings_plain input node.lane steps.next.lane steps.steps.lane.words plain steps.steps.lane.brings in
    let entry : steps.next.lane.entry_bytes ≡ (node_at before (j + 1)).lane.entry_bytes = brings.0 ∙ sym (ap (λ (n : NodeState). n.lane.entry_bytes) node_is) in
    let exit : steps.next.lane.exit_bytes ≡ (node_at before (j + 1)).lane.exit_bytes = brings.1 ∙ sym (ap (λ (n : NodeState). n.lane.exit_bytes) node_is) in
    mirrors_by alone t number j input before before.world after told refl (no_second input plain) few holds steps
    (event_fits node.maker input steps.steps.lane.words plain (maker_of before (j + 1) node node_is (holds.fit (j + 1)).maker) fit) (heard_plain input steps.steps.lane.words (scene_at t before j) plain)
    (above_quiet (has_link j before) steps.acts (link_at j before.world) (gap_at before.world.floor j) refl (λ there. (holds.carried j there).up) (λ there. (holds.carried j there).down) (links j).begun (quiet_side number j input before after told Entry (no_bytes Entry input plain) steps) entry)
    (below_quiet (has_link (j + 1) before) steps.acts (link_at (j + 1) before.world) (gap_at before.world.floor (j + 1)) refl (λ there. (holds.carried (j + 1) there).up) (λ there. (holds.carried (j + 1) there).down) (links (j + 1)).begun (quiet_side number j input before after told Exit (no_bytes Exit input plain) steps) exit)
