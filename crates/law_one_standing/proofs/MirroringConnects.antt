-- A CONNECTION IS MADE: both its steps, each in its machine's scene.
use Rattle.std.proofs.Common.{Bool, List, None, Option, Some, [], false, refl, subst, true, ℕ, ◌+◌, ◌-◌, ◌≡◌, ◌≤◌}
use Rattle.line_base.specs.declared.states.Side.TheVariants.{Entry}
use Rattle.board_record.specs.declared.record.Record.{Record}
use Rattle.board_record.specs.declared.sensed.Sensed.{Sensed}
use Rattle.session_core.specs.declared.state.SessionState.{SessionState}
use Rattle.session_core.specs.declared.state.SessionState.TheVariants.{NotConnected}
use Rattle.handover_out.specs.declared.phase.Phase.{Phase as Out}
use Rattle.handover_in.specs.declared.phase.Phase.{Phase as In}
use Rattle.line_link.specs.Link.{connected_of}
use Rattle.line_report.specs.declared.happening.Happening.{Happening}
use Rattle.node_core.specs.Event.{Accepted, Second}
use Rattle.node_core.specs.declared.input.Input.TheVariants as inputs
use Rattle.node_core.specs.declared.lane.Body.{Body as Machine}
use Rattle.law_custody.specs.Apart.{Entry as EntryApart, entry_none, entry_waits, entry_waits_heard, entry_waits_in}
use Rattle.law_custody.specs.Contents.{Contents}
use Rattle.law_custody.specs.Events.{gone_by}
use Rattle.law_custody.specs.Pair.{Ghost}
use Rattle.law_custody.specs.Place.{Place}
use Rattle.law_custody.specs.Talks.{Talks, apart, apart_start, apart_start_stop}
use Rattle.law_custody.specs.Words.{DownWord, UpWord, down_words, up_words}
use Rattle.law_machine_custody.specs.Good.{Afar, Good}
use Rattle.law_machine_custody.specs.Joined.{all_met_second, with_link}
use Rattle.law_machine_custody.specs.Scene.{Scene, all_met}
use Rattle.line_step.specs.Lines.{Connects, connecting, met}
use Rattle.line_step.specs.Numbered.{node_at}
use Rattle.line_step.specs.Reasons.{may_connect, may_do}
use Rattle.line_step.specs.State.{LineState}
use Rattle.line_step.specs.Steps.{MachineSteps}
use Rattle.line_step.specs.World.{link_at}
use Rattle.law_one_standing.specs.Carried.{Trace}
use Rattle.law_one_standing.specs.Links.{AreWholeLinks}
use Rattle.law_one_standing.specs.Stands.{Stands}
use Rattle.law_one_standing.proofs.Carrying.{SaysAlone}
use Rattle.law_one_standing.proofs.MirroringCall.{MirrorsCall, first_call, second_call}
use Rattle.law_one_standing.proofs.MirroringEnds.{before_one}
use Rattle.law_one_standing.proofs.MirroringMeet.{MirrorsMeet, accepts, called_scene}
use Rattle.law_one_standing.proofs.MirroringSecond.{answers}

-- machine j + 1 + 1 connects, and machine j + 1 above it takes the connection: the link stands from the first step on
pub record MirrorsFirst (number j : ℕ) (t : Trace) (before after : LineState) : Type 0 where
  pub between : LineState
  pub earlier : List Happening
  pub later : List Happening
  pub first : MachineSteps number (j + 1 + 1) inputs.Connect (connecting (j + 1 + 1) before) between earlier
  pub second : MachineSteps number (j + 1) inputs.Accepted between after later
  pub call : MirrorsCall number j t before between true [] []
  pub meet : MirrorsMeet number j t between after Accepted (λ acts scene. all_met acts scene) (called_scene call).above.stands (called_scene call).above.up (called_scene call).above.down

-- and where it has a connection already, it answers, and the link doesn't stand
pub record MirrorsSecond (number j : ℕ) (t : Trace) (before after : LineState) : Type 0 where
  pub between : LineState
  pub earlier : List Happening
  pub later : List Happening
  pub first : MachineSteps number (j + 1 + 1) inputs.Connect (connecting (j + 1 + 1) before) between earlier
  pub second : MachineSteps number (j + 1) inputs.Second between after later
  pub call : MirrorsCall number j t before between false (t.up (j + 1)) (node_at before (j + 1)).lane.exit_bytes
  pub meet : MirrorsMeet number j t between after Second (λ acts scene. all_met_second acts scene) (called_scene call).above.stands (called_scene call).above.up (called_scene call).above.down

-- the second step is that of machine j + 1
second_of : {between after : LineState} {told : List Happening} {upstream : Option ℕ} (number j : ℕ) (before : LineState) → (link_at (j + 1) before.world).upstream ≡ upstream
    → MachineSteps number (j + 1 + 1 - 1) (met (connected_of (link_at (j + 1 + 1 - 1) before.world).upstream)) between after told → MachineSteps number (j + 1) (met (connected_of upstream)) between after told
second_of {between = between} {after = after} {told = told} number j before is steps =
    subst (λ (o : Option ℕ). MachineSteps number (j + 1) (met (connected_of o)) between after told) is
    (subst (λ (k : ℕ). MachineSteps number k (met (connected_of (link_at k before.world).upstream)) between after told) (before_one (j + 1)) steps)

pub connects_first : SaysAlone → (t : Trace) (number j : ℕ) (before after : LineState) (told : List Happening) → may_connect (j + 1 + 1) before ≡ may_do → number ≤ 1000000 → Stands t before → AreWholeLinks before
    → (link_at (j + 1) before.world).upstream ≡ None → Connects number (j + 1 + 1) before after told → MirrorsFirst number j t before after
connects_first alone t number j before after told may few holds links none steps =
    let call = first_call alone t number j before steps.between steps.earlier may few holds links none steps.first in
    let second = second_of number j before none steps.second in
    record { between = steps.between; earlier = steps.earlier; later = steps.later; first = steps.first; second = second; call = call; meet = accepts alone t number j before steps.between after steps.earlier steps.later few holds links steps.first call second }

pub connects_second : SaysAlone → (t : Trace) (number j : ℕ) (before after : LineState) (told : List Happening) (other : ℕ) → may_connect (j + 1 + 1) before ≡ may_do → number ≤ 1000000 → Stands t before → AreWholeLinks before
    → (link_at (j + 1) before.world).upstream ≡ Some other → Connects number (j + 1 + 1) before after told → MirrorsSecond number j t before after
connects_second alone t number j before after told other may few holds links some steps =
    let call = second_call alone t number j before steps.between steps.earlier other may few holds links some steps.first in
    let second = second_of number j before some steps.second in
    record { between = steps.between; earlier = steps.earlier; later = steps.later; first = steps.first; second = second; call = call; meet = answers alone t number j before steps.between after steps.earlier steps.later few holds links steps.first call second }

-- ---- an entry without a connection has nothing to hear

nothing_down : {b : Bool} {y : SessionState} {i : In} {f : Option Record} {ri : Bool} {p : Place} {down : List DownWord} → EntryApart b y i f ri p down → y ≡ NotConnected → down ≡ []
nothing_down entry_none is = refl
nothing_down entry_waits is = refl
nothing_down entry_waits_in is = refl
nothing_down (entry_waits_heard fits) is = refl
nothing_down _ is = absurd (cc)

silent_down : {b : Bool} {x : SessionState} {o : Out} {of : Option ℕ} {rd : Bool} {y : SessionState} {i : In} {f : Option Record} {ri : Bool} {p : Place} {up : List UpWord} {down : List DownWord} → Talks b x o of rd y i f ri p up down → y ≡ NotConnected → down ≡ []
silent_down (apart_start starts away) is = refl
silent_down (apart_start_stop starts away) is = refl
silent_down (apart exit entry) is = nothing_down entry is
silent_down _ is = absurd (cc)

-- so what lies on its link may be forgotten
pub forget_down : {afar : Afar} {above : List Record} {us : List Sensed} {ga gb : Ghost} (body : Machine) (c : Scene) → Good afar above us ga gb body c → body.entry.session.state ≡ NotConnected → Good afar above us ga gb body (with_link Entry c.above.stands c.above.up [] c)
forget_down {afar = afar} {above = above} {ga = ga} body c g away =
    let none : down_words c.above.down ≡ [] = silent_down g.above_pair.talk away in
    record {
      above_pair = record {
        out = g.above_pair.out;
        «in» = g.above_pair.in;
        gap = g.above_pair.gap;
        talk = subst (λ (ws : List DownWord). Talks c.above.stands c.above.exit c.above.outlet.phase c.above.outlet.offered c.above.outlet.ready body.entry.session.state body.intake.phase body.intake.offer body.intake.ready ga.place (up_words c.above.up) ws) none g.above_pair.talk;
      };
      below_pair = g.below_pair;
      boards = g.boards;
      above_contents = subst (λ (ws : List DownWord). Contents (gone_by afar.gone_above) c.above.stands above c.above.outlet.touched c.above.last_offer body.intake.phase body.intake.offer (up_words c.above.up) ws) none g.above_contents;
      below_contents = g.below_contents;
      above_holds = g.above_holds;
      below_holds = g.below_holds;
      entry_role = g.entry_role;
      exit_role = g.exit_role;
      away = g.away;
      here = g.here;
      recent = g.recent;
    }
