-- What the acts of a machine do at a side of its scene where no link stands and nothing is on its way: nothing, but that
-- they switch the drive there. Where its half has no handover behind them, the drive is off.
use Rattle.std.proofs.Common.{Bool, List, [], ap, drop, false, refl, sym, true, ◌∙◌, ◌∷◌, ◌≡◌}
use Rattle.line_base.specs.declared.states.SensorEvent.{SensorEvent}
use Rattle.line_base.specs.declared.states.Side.TheVariants.{Entry, Exit}
use Rattle.board_record.specs.declared.record.Record.{Record}
use Rattle.board_record.specs.declared.sensed.Sensed.{Sensed}
use Rattle.hermes_horizontal.specs.declared.message.Horizontal.{Horizontal}
use Rattle.line_world.specs.FloorPlan.{with_drive}
use Rattle.line_world.specs.declared.gap.AtGap.{AtGap}
use Rattle.line_world.specs.declared.gap.Gap.{Gap}
use Rattle.handover_out.specs.declared.phase.Phase.{Phase as Out}
use Rattle.handover_out.specs.declared.phase.Phase.TheVariants as out
use Rattle.handover_in.specs.declared.phase.Phase.{Phase as In}
use Rattle.handover_in.specs.declared.phase.Phase.TheVariants as inn
use Rattle.node_core.specs.declared.act.Act.{Act}
use Rattle.node_core.specs.declared.act.Act.TheVariants as acts
use Rattle.node_core.specs.declared.lane.Body.{Body as Machine}
use Rattle.law_custody.specs.Floor.{EntryFloor, ExitFloor, in_free, out_idle}
use Rattle.law_custody.specs.Pair.{Ghost, Pair}
use Rattle.law_custody.specs.Place.{Place}
use Rattle.law_custody.specs.Words.{sent}
use Rattle.law_machine_custody.specs.Joined.{all_met_second, answered, is_answer, met_second}
use Rattle.law_machine_custody.specs.Scene.{Above, Scene, all_met, link_above, link_below, met}
use Rattle.law_machine_custody.proofs.Far.{all_gap_above, all_gap_below}
use Rattle.law_one_standing.specs.Mirrors.{cut_above, cut_below}

-- below a machine, and above it, no link stands, and nothing is on its way
pub record IsStillBelow (c : Scene) : Type 0 where
  pub stands : c.below.stands ≡ false
  pub up : c.below.up ≡ []
  pub down : c.below.down ≡ []

pub record IsStillAbove (c : Scene) : Type 0 where
  pub stands : c.above.stands ≡ false
  pub up : c.above.up ≡ []
  pub down : c.above.down ≡ []

-- what is sent vanishes
vanishes : (what : Horizontal) (stands : Bool) (flow : List Horizontal) → stands ≡ false → flow ≡ [] → sent (what ∷ []) stands flow ≡ []
vanishes what stands flow off none = ap (λ (on : Bool). sent (what ∷ []) on flow) off ∙ none

met_below : (act : Act) (c : Scene) → IsStillBelow c → IsStillBelow (met act c)
met_below (acts.Reads Entry event) c k = record { stands = k.stands; up = k.up; down = k.down }
met_below (acts.Hears Exit message) c k = record { stands = k.stands; up = ap (λ (ms : List Horizontal). drop 1 ms) k.up; down = k.down }
met_below (acts.Breaches Entry text) c k = record { stands = k.stands; up = k.up; down = k.down }
met_below (acts.Sends Exit message) c k = record { stands = k.stands; up = k.up; down = vanishes message.body c.below.stands c.below.down k.stands k.down }
met_below (acts.Closes Exit) c k = record { stands = refl; up = refl; down = k.down }
met_below (acts.Notices Exit) c k = record { stands = refl; up = refl; down = k.down }
met_below (acts.Drive Entry on) c k = record { stands = k.stands; up = k.up; down = k.down }
met_below _ c k = record { stands = k.stands; up = k.up; down = k.down }

pub all_below : (done : List Act) (c : Scene) → IsStillBelow c → IsStillBelow (all_met done c)
all_below [] c k = k
all_below (act ∷ others) c k = all_below others (met act c) (met_below act c k)

met_above : (act : Act) (c : Scene) → IsStillAbove c → IsStillAbove (met act c)
met_above (acts.Reads Entry event) c k = record { stands = k.stands; up = k.up; down = k.down }
met_above (acts.Hears Entry message) c k = record { stands = k.stands; up = k.up; down = ap (λ (ms : List Horizontal). drop 1 ms) k.down }
met_above (acts.Breaches Entry text) c k = record { stands = k.stands; up = k.up; down = k.down }
met_above (acts.Sends Entry message) c k = record { stands = k.stands; up = vanishes message.body c.above.stands c.above.up k.stands k.up; down = k.down }
met_above (acts.Closes Entry) c k = record { stands = refl; up = k.up; down = refl }
met_above (acts.Notices Entry) c k = record { stands = refl; up = k.up; down = refl }
met_above (acts.Drive Entry on) c k = record { stands = k.stands; up = k.up; down = k.down }
met_above _ c k = record { stands = k.stands; up = k.up; down = k.down }

pub all_above : (done : List Act) (c : Scene) → IsStillAbove c → IsStillAbove (all_met done c)
all_above [] c k = k
all_above (act ∷ others) c k = all_above others (met act c) (met_above act c k)

-- ---- the far drive of a gap is the other machine's

met_far_drive_below : (act : Act) (c : Scene) → (met act c).below.gap.entry_drive ≡ c.below.gap.entry_drive
met_far_drive_below (acts.Reads Entry event) c = refl
met_far_drive_below (acts.Hears Entry message) c = refl
met_far_drive_below (acts.Breaches Entry text) c = refl
met_far_drive_below (acts.Sends Entry message) c = refl
met_far_drive_below (acts.Closes Entry) c = refl
met_far_drive_below (acts.Notices Entry) c = refl
met_far_drive_below (acts.Drive Entry on) c = refl
met_far_drive_below _ c = refl

pub all_far_drive_below : (done : List Act) (c : Scene) → (all_met done c).below.gap.entry_drive ≡ c.below.gap.entry_drive
all_far_drive_below [] c = refl
all_far_drive_below (act ∷ others) c = all_far_drive_below others (met act c) ∙ met_far_drive_below act c

met_far_drive_above : (act : Act) (c : Scene) → (met act c).above.gap.exit_drive ≡ c.above.gap.exit_drive
met_far_drive_above (acts.Reads Entry event) c = refl
met_far_drive_above (acts.Hears Entry message) c = refl
met_far_drive_above (acts.Breaches Entry text) c = refl
met_far_drive_above (acts.Sends Entry message) c = refl
met_far_drive_above (acts.Closes Entry) c = refl
met_far_drive_above (acts.Notices Entry) c = refl
met_far_drive_above (acts.Drive Entry on) c = refl
met_far_drive_above _ c = refl

pub all_far_drive_above : (done : List Act) (c : Scene) → (all_met done c).above.gap.exit_drive ≡ c.above.gap.exit_drive
all_far_drive_above [] c = refl
all_far_drive_above (act ∷ others) c = all_far_drive_above others (met act c) ∙ met_far_drive_above act c

-- ---- the drive of a half without a handover is off

exit_off : {o : Out} {es : List SensorEvent} {on : Bool} {p : Place} {r : Record} → ExitFloor o es on p r → o ≡ out.Idle → on ≡ false
exit_off (out_idle _ _) is = refl
exit_off _ is = cc

entry_off : {i : In} {es : List SensorEvent} {on : Bool} {p : Place} {r : Record} → EntryFloor i es on p r → i ≡ inn.Idle → on ≡ false
entry_off (in_free _ _) is = refl
entry_off _ is = cc

pub exit_drive_off : (g : Ghost) (unread : List Sensed) (body : Machine) (d : Scene) → Pair g (link_below unread body d) → body.outlet.phase ≡ out.Idle → d.below.gap.exit_drive ≡ false
exit_drive_off g unread body d pair idle = exit_off pair.out idle

pub entry_drive_off : (g : Ghost) (unread : List Sensed) (body : Machine) (d : Scene) → Pair g (link_above unread body d) → body.intake.phase ≡ inn.Idle → d.above.gap.entry_drive ≡ false
entry_drive_off g unread body d pair idle = entry_off pair.in idle

abbrev pub gap_of : Gap → Bool → Bool → AtGap
gap_of lies exit entry = record { lies = lies; exit_drive = exit; entry_drive = entry }

pub same_parts : (a b : Gap) (c d e f : Bool) → a ≡ b → c ≡ d → e ≡ f → gap_of a c e ≡ gap_of b d f
same_parts a b c d e f x y z = cc

pub same_gap : (x y : AtGap) → x.lies ≡ y.lies → x.exit_drive ≡ y.exit_drive → x.entry_drive ≡ y.entry_drive → x ≡ y
same_gap x y lies exit entry = same_parts x.lies y.lies x.exit_drive y.exit_drive x.entry_drive y.entry_drive lies exit entry

-- ---- so the gap behind the acts is the gap before them: links may be cut in their midst

abbrev pub scene_behind : Bool → Bool → List Act → Scene → Scene
scene_behind above below done c = cut_below below (cut_above above (all_met done c))

cuts_below : (above below : Bool) (d : Scene) → (cut_below below (cut_above above d)).below.gap ≡ d.below.gap
cuts_below false false d = refl
cuts_below false true d = refl
cuts_below true false d = refl
cuts_below true true d = refl

cuts_above : (above below : Bool) (d : Scene) → (cut_below below (cut_above above d)).above.gap ≡ d.above.gap
cuts_above false false d = refl
cuts_above false true d = refl
cuts_above true false d = refl
cuts_above true true d = refl

pub gap_below_rests : (above below : Bool) (done : List Act) (g : Ghost) (unread : List Sensed) (body : Machine) (c : Scene) → Pair g (link_below unread body (scene_behind above below done c)) → body.outlet.phase ≡ out.Idle
    → c.below.gap.exit_drive ≡ false → (scene_behind above below done c).below.gap ≡ c.below.gap
gap_below_rests above below done g unread body c pair idle was =
    let d : Scene = all_met done c in
    let off : (scene_behind above below done c).below.gap.exit_drive ≡ false = exit_drive_off g unread body (scene_behind above below done c) pair idle in
    let same : (scene_behind above below done c).below.gap ≡ d.below.gap = cuts_below above below d in
    let drive : d.below.gap.exit_drive ≡ c.below.gap.exit_drive = ap (λ (gap : AtGap). gap.exit_drive) (sym same) ∙ off ∙ sym was in
    same ∙ same_gap d.below.gap c.below.gap (all_gap_below done c) drive (all_far_drive_below done c)

pub gap_above_rests : (above below : Bool) (done : List Act) (g : Ghost) (unread : List Sensed) (body : Machine) (c : Scene) → Pair g (link_above unread body (scene_behind above below done c)) → body.intake.phase ≡ inn.Idle
    → c.above.gap.entry_drive ≡ false → (scene_behind above below done c).above.gap ≡ c.above.gap
gap_above_rests above below done g unread body c pair idle was =
    let d : Scene = all_met done c in
    let off : (scene_behind above below done c).above.gap.entry_drive ≡ false = entry_drive_off g unread body (scene_behind above below done c) pair idle in
    let same : (scene_behind above below done c).above.gap ≡ d.above.gap = cuts_above above below d in
    let drive : d.above.gap.entry_drive ≡ c.above.gap.entry_drive = ap (λ (gap : AtGap). gap.entry_drive) (sym same) ∙ off ∙ sym was in
    same ∙ same_gap d.above.gap c.above.gap (all_gap_above done c) (all_far_drive_above done c) drive

-- and neither side has anything then
pub still_below : (above below : Bool) (done : List Act) (c : Scene) → IsStillBelow c → IsStillBelow (scene_behind above below done c)
still_below false false done c k = let l = all_below done c k in record { stands = l.stands; up = l.up; down = l.down }
still_below true false done c k = let l = all_below done c k in record { stands = l.stands; up = l.up; down = l.down }
still_below false true done c k = record { stands = refl; up = refl; down = refl }
still_below true true done c k = record { stands = refl; up = refl; down = refl }

pub still_above : (above below : Bool) (done : List Act) (c : Scene) → IsStillAbove c → IsStillAbove (scene_behind above below done c)
still_above false false done c k = let l = all_above done c k in record { stands = l.stands; up = l.up; down = l.down }
still_above false true done c k = let l = all_above done c k in record { stands = l.stands; up = l.up; down = l.down }
still_above true false done c k = record { stands = refl; up = refl; down = refl }
still_above true true done c k = record { stands = refl; up = refl; down = refl }

-- ---- what a second connection's step does above the machine is what its acts do there

answered_above : (test : Bool) (what : Horizontal) (c : Scene) → (answered test what c).above ≡ c.above
answered_above true what c = refl
answered_above false what c = refl

second_met : (act : Act) (c e : Scene) → c.above ≡ e.above → (met_second act c).above ≡ (met act e).above
second_met (acts.Reads Entry event) c e is = is
second_met (acts.Hears Entry message) c e is = ap (λ (u : Above). record u { down = drop 1 u.down }) is
second_met (acts.Breaches Entry text) c e is = is
second_met (acts.Sends Entry message) c e is = ap (λ (u : Above). record u { up = sent (message.body ∷ []) u.stands u.up }) is
second_met (acts.Sends Exit message) c e is = answered_above (is_answer message.body) message.body c ∙ is
second_met (acts.Closes Entry) c e is = ap (λ (u : Above). record u { stands = false; down = [] }) is
second_met (acts.Notices Entry) c e is = ap (λ (u : Above). record u { stands = false; down = [] }) is
second_met (acts.Drive Entry on) c e is = ap (λ (u : Above). record u { gap = with_drive u.gap Entry on }) is
second_met _ c e is = is

second_by : (done : List Act) (c e : Scene) → c.above ≡ e.above → (all_met_second done c).above ≡ (all_met done e).above
second_by [] c e is = is
second_by (act ∷ others) c e is = second_by others (met_second act c) (met act e) (second_met act c e is)

pub second_above : (done : List Act) (c : Scene) → (all_met_second done c).above ≡ (all_met done c).above
second_above done c = second_by done c c refl
