-- A machine reads its sensor events, and a drive fails.
use Rattle.std.proofs.Common.{List, [], subst, sym, ◌∷◌}
use Rattle.line_base.specs.declared.states.SensorEvent.{SensorEvent}
use Rattle.line_base.specs.declared.states.Side.{Side}
use Rattle.line_base.specs.declared.states.Side.TheVariants.{Entry, Exit}
use Rattle.board_record.specs.declared.record.Record.{Record}
use Rattle.board_record.specs.declared.sensed.Sensed.{Sensed}
use Rattle.handover_out.specs.declared.input.OutInput.TheVariants as out_input
use Rattle.handover_in.specs.declared.input.InInput.TheVariants as in_input
use Rattle.node_core.specs.Boards.{faults}
use Rattle.node_core.specs.Desk.{Desk}
use Rattle.node_core.specs.Done.{Done}
use Rattle.node_core.specs.Reads.{all_read, saw}
use Rattle.node_core.specs.declared.lane.Body.{Body as Machine}
use Rattle.law_custody.specs.Pair.{Ghost}
use Rattle.law_custody.proofs.EntryEvents.{fails_unread as entry_fails, reads_entry, skips_entry}
use Rattle.law_custody.proofs.ExitEvents.{fails_unread as exit_fails, reads_exit, skips_exit}
use Rattle.law_machine_custody.specs.Scene.{Scene, all_met, link_above, link_below}
use Rattle.law_machine_custody.specs.Good.{Afar, GoesBy, Good}
use Rattle.law_machine_custody.proofs.Closing.{MayFollow}
use Rattle.law_machine_custody.proofs.Goes.{met_append}
use Rattle.law_machine_custody.proofs.Rows.{at_entry_goes, at_entry_good, at_exit_goes, at_exit_good}

pub read_at : {afar : Afar} {above : List Record} {rest : List Sensed} {ga gb : Ghost} {body : Machine} {c : Scene} (desk : Desk) (side : Side) (event : SensorEvent)
    → Good afar above (record { side = side; event = event } ∷ rest) ga gb body c → Good afar above rest ga gb (saw desk side event body).body (all_met (saw desk side event body).acts c)
read_at {rest = rest} {ga = ga} {gb = gb} {body = body} {c = c} desk Entry event g =
    at_entry_good desk (in_input.Sensed event) tt g (reads_entry ga (link_above rest body c) event rest g.above_pair) (skips_entry gb (link_below rest body c) event rest g.below_pair)
read_at {rest = rest} {ga = ga} {gb = gb} {body = body} {c = c} desk Exit event g =
    at_exit_good desk (out_input.Sensed event) tt tt g (reads_exit gb (link_below rest body c) event rest g.below_pair) (skips_exit ga (link_above rest body c) event rest g.above_pair)

-- all events in order: the ghosts stay
pub all_read_good : {afar : Afar} {above : List Record} {ga gb : Ghost} (desk : Desk) (unread : List Sensed) (body : Machine) (c : Scene)
    → Good afar above unread ga gb body c → Good afar above [] ga gb (all_read desk unread body).body (all_met (all_read desk unread body).acts c)
all_read_good desk [] body c g = g
all_read_good {afar = afar} {above = above} {ga = ga} {gb = gb} desk (sensed ∷ others) body c g =
    let first : Done = saw desk sensed.side sensed.event body in
    let now : Scene = all_met first.acts c in
    subst (λ s. Good afar above [] ga gb (all_read desk others first.body).body s) (sym (met_append first.acts (all_read desk others first.body).acts c))
    (all_read_good desk others first.body now (read_at desk sensed.side sensed.event g))

pub faults_unread : {afar : Afar} {above : List Record} {us : List Sensed} {ga gb : Ghost} {body : Machine} {c : Scene} (desk : Desk) (side : Side) → MayFollow side us ga
    → Good afar above us ga gb body c → GoesBy afar above us ga gb c (faults desk side body)
faults_unread {us = us} {ga = ga} {body = body} {c = c} desk Entry n g = at_entry_goes desk in_input.Fault tt g (entry_fails ga (link_above us body c) g.above_pair n) g.below_pair
faults_unread {us = us} {gb = gb} {body = body} {c = c} desk Exit n g = at_exit_goes desk out_input.Fault tt tt g (exit_fails gb (link_below us body c) g.below_pair n) g.above_pair
