-- A row of a half, as an event of the link beyond it: the relation of both links goes on.
use Rattle.std.proofs.Common.{List, subst, sym, ◌≡◌}
use Rattle.board_record.specs.declared.record.Record.{Record}
use Rattle.board_record.specs.declared.sensed.Sensed.{Sensed}
use Rattle.hermes_horizontal.specs.declared.message.Horizontal.{Horizontal}
use Rattle.handover_out.specs.Row.{OutRow, last_after}
use Rattle.handover_out.specs.State.{OutState}
use Rattle.handover_out.specs.Table.{IsOutletRow, offers}
use Rattle.handover_out.specs.declared.act.OutAct.{OutAct}
use Rattle.handover_out.specs.declared.input.OutInput.{OutInput}
use Rattle.handover_out.specs.declared.input.OutInput.TheVariants as out_input
use Rattle.handover_out.proofs.Rows.{row_is}
use Rattle.handover_in.specs.State.{InState}
use Rattle.handover_in.specs.declared.act.InAct.{InAct}
use Rattle.handover_in.specs.declared.input.InInput.{InInput}
use Rattle.node_core.specs.Desk.{Desk}
use Rattle.node_core.specs.Halves.{at_intake, at_outlet, given_back, intake_did, intake_row_did, outlet_did, outlet_row_did, settled}
use Rattle.node_core.specs.declared.lane.Body.{Body as Machine}
use Rattle.law_custody.specs.Events.{EntryStep, ExitStep, IsContent, gone_by}
use Rattle.law_custody.specs.Pair.{Body, Ghost, Pair}
use Rattle.law_custody.proofs.HandsContents.{contents_settled}
use Rattle.law_machine_custody.specs.Scene.{Scene, all_met, link_above, link_below}
use Rattle.law_machine_custody.specs.Good.{Afar, Goes, GoesBy, Good, Holds, ListsAbove, ListsBelow}
use Rattle.law_machine_custody.proofs.Far.{all_intake, all_outlet}
use Rattle.law_machine_custody.proofs.Holding.{IsNoStart, IsNotOffer, StartsNot, holds_at_entry, holds_at_exit, holds_settled, row_holds_less, row_recent}
use Rattle.law_machine_custody.proofs.Told.{IsNoOffer, back_is, in_messages, in_met, in_scene, in_words, keep_is, out_messages, out_met, out_scene, out_words}

row_no_offer : (s : OutState) (w : OutInput) (row : OutRow) → IsOutletRow s w row → IsNotOffer w → IsNoOffer row.act.send
row_no_offer _ _ _ offers plain = plain
row_no_offer _ _ _ _ plain = tt

-- these messages are still unheard at the exit, or at the entry
abbrev pub unheard_below : List Horizontal → Scene → Scene
unheard_below rest c = record c { below = record c.below { up = rest } }

abbrev pub unheard_above : List Horizontal → Scene → Scene
unheard_above rest c = record c { above = record c.above { down = rest } }

-- what a row of the outlet does to all
exit_good : {afar : Afar} {above : List Record} {us ws : List Sensed} {ga gb : Ghost} {body : Machine} {c : Scene} (w : OutInput) (rest : List Horizontal)
    → IsNotOffer w → IsNoStart w → Good afar above us ga gb body c → (step : ExitStep (gone_by afar.gone_below) gb (link_below us body c) w ws rest)
    → Pair ga (link_above ws body c)
    → Good afar above ws ga gb (record body { outlet = step.row.after; kept = given_back step.row.act.back body.kept; last_offer = last_after step.row body.last_offer }) (out_scene step.row.act.send step.row.act.drive (unheard_below rest c))
exit_good {afar = afar} {ws = ws} {ga = ga} {gb = gb} {body = body} {c = c} w rest plain begun g step skipped =
    let ms = out_messages step.row.act.send in
    let e = out_words step.row.act.send in
    let back = back_is step.row.act.back body.kept in
    record {
      above_pair = skipped;
      below_pair = step.pair ms e;
      boards = subst (λ kept. Body step.row.after.phase gb.place kept body.intake.phase ga.place c.boards) back (step.body body.kept body.intake.phase ga.place c.boards g.boards);
      above_contents = g.above_contents;
      below_contents = subst (λ kept. IsContent (gone_by afar.gone_below) (link_below ws (record body { outlet = step.row.after; last_offer = last_after step.row body.last_offer }) (out_scene step.row.act.send step.row.act.drive (unheard_below rest c))) kept) back (step.contents body.kept ms e g.below_contents);
      above_holds = g.above_holds;
      below_holds = subst (λ kept. Holds afar.gone_below kept (last_after step.row body.last_offer) gb.place step.row.after.phase c.below.intake.phase) back (holds_at_exit w step.row g.below_pair plain begun g.recent step.is step.body g.below_holds);
      entry_role = g.entry_role;
      exit_role = g.exit_role;
      away = λ r held up. g.away r (row_holds_less body.outlet w step.row r step.is begun held) up;
      here = g.here;
      recent = row_recent body.outlet w step.row step.is plain begun g.recent;
    }

-- the relation as it stands, where the other machines' halves are as before
pub goes_good : {afar : Afar} {above : List Record} {ws : List Sensed} {ga gb : Ghost} {body : Machine} {c d : Scene}
    → d.above.outlet ≡ c.above.outlet → d.below.intake ≡ c.below.intake → Good afar above ws ga gb body d → Goes afar above ws ga gb c body d
goes_good {ga = ga} {gb = gb} {c = c} {d = d} outlet intake g = record {
  a = ga;
  b = gb;
  good = g;
  lists_above = subst (λ (o : OutState). ListsAbove c.above.outlet.phase ga o.phase ga) (sym outlet) (λ kept i q boards h. h);
  lists_below = subst (λ (i : InState). ListsBelow c.below.intake.phase gb i.phase gb) (sym intake) (λ o p kept boards h. h);
  still_first = λ n. n;
  still_over = λ n. n;
}

-- the row's acts do that
pub row_good_exit : {afar : Afar} {above : List Record} {us ws : List Sensed} {ga gb : Ghost} {body : Machine} {c : Scene} (desk : Desk) (w : OutInput) (rest : List Horizontal)
    → IsNotOffer w → IsNoStart w → Good afar above us ga gb body c → (step : ExitStep (gone_by afar.gone_below) gb (link_below us body c) w ws rest)
    → Pair ga (link_above ws body c)
    → Good afar above ws ga gb (outlet_did desk body step.row).body (all_met (outlet_did desk body step.row).acts (unheard_below rest c))
row_good_exit {afar = afar} {above = above} {ws = ws} {ga = ga} {gb = gb} {body = body} {c = c} desk w rest plain begun g step skipped =
    let act : OutAct = step.row.act in
    subst (λ s. Good afar above ws ga gb (outlet_did desk body step.row).body s)
    (sym (out_met desk body.kept act.deed act.send act.drive act.back (unheard_below rest c) (row_no_offer _ w step.row (row_is body.outlet w step.row step.is) plain)))
    (exit_good w rest plain begun g step skipped)

pub row_at_exit : {afar : Afar} {above : List Record} {us ws : List Sensed} {ga gb : Ghost} {body : Machine} {c : Scene} (desk : Desk) (w : OutInput) (rest : List Horizontal)
    → IsNotOffer w → IsNoStart w → Good afar above us ga gb body c → (step : ExitStep (gone_by afar.gone_below) gb (link_below us body c) w ws rest)
    → Pair ga (link_above ws body c)
    → Goes afar above ws ga gb c (outlet_did desk body step.row).body (all_met (outlet_did desk body step.row).acts (unheard_below rest c))
row_at_exit {body = body} {c = c} desk w rest plain begun g step skipped =
    goes_good (all_outlet (outlet_did desk body step.row).acts (unheard_below rest c)) (all_intake (outlet_did desk body step.row).acts (unheard_below rest c)) (row_good_exit desk w rest plain begun g step skipped)

-- the input to the outlet has this row
pub at_exit_good : {afar : Afar} {above : List Record} {us ws : List Sensed} {ga gb : Ghost} {body : Machine} {c : Scene} (desk : Desk) (w : OutInput)
    → IsNotOffer w → IsNoStart w → Good afar above us ga gb body c → ExitStep (gone_by afar.gone_below) gb (link_below us body c) w ws c.below.up
    → Pair ga (link_above ws body c)
    → Good afar above ws ga gb (at_outlet desk w body).body (all_met (at_outlet desk w body).acts c)
at_exit_good {afar = afar} {above = above} {ws = ws} {ga = ga} {gb = gb} {body = body} {c = c} desk w plain begun g step skipped =
    subst (λ row. Good afar above ws ga gb (outlet_row_did desk body row).body (all_met (outlet_row_did desk body row).acts c)) (sym step.is) (row_good_exit desk w c.below.up plain begun g step skipped)

pub at_exit_goes : {afar : Afar} {above : List Record} {us ws : List Sensed} {ga gb : Ghost} {body : Machine} {c : Scene} (desk : Desk) (w : OutInput)
    → IsNotOffer w → IsNoStart w → Good afar above us ga gb body c → ExitStep (gone_by afar.gone_below) gb (link_below us body c) w ws c.below.up
    → Pair ga (link_above ws body c)
    → GoesBy afar above ws ga gb c (at_outlet desk w body)
at_exit_goes {afar = afar} {above = above} {ws = ws} {ga = ga} {gb = gb} {body = body} {c = c} desk w plain begun g step skipped =
    subst (λ row. GoesBy afar above ws ga gb c (outlet_row_did desk body row)) (sym step.is) (row_at_exit desk w c.below.up plain begun g step skipped)

-- what a row of the intake does to all
entry_good : {afar : Afar} {above : List Record} {us ws : List Sensed} {ga gb : Ghost} {body : Machine} {c : Scene} (w : InInput) (rest : List Horizontal)
    → StartsNot w → Good afar above us ga gb body c → (step : EntryStep (gone_by afar.gone_above) above ga (link_above us body c) w ws rest)
    → Pair gb (link_below ws body c)
    → Good afar above ws ga gb (record body { intake = step.row.after; kept = settled step.row.act.keep body.kept }) (in_scene step.row.act.send step.row.act.drive (unheard_above rest c))
entry_good {afar = afar} {ws = ws} {ga = ga} {gb = gb} {body = body} {c = c} w rest plain g step skipped =
    let ms = in_messages step.row.act.send in
    let e = in_words step.row.act.send in
    let keep = keep_is step.row.act.keep body.kept in
    record {
      above_pair = step.pair ms e;
      below_pair = skipped;
      boards = subst (λ kept. Body body.outlet.phase gb.place kept step.row.after.phase ga.place c.boards) keep (step.body body.outlet.phase gb.place body.kept c.boards g.boards);
      above_contents = step.contents ms e g.above_contents;
      below_contents = subst (λ kept. IsContent (gone_by afar.gone_below) (link_below ws body c) kept) keep (contents_settled step.row.act.keep g.below_contents);
      above_holds = holds_at_entry body.intake w step.row plain step.is (λ r keeps. (step.settles r keeps).free) step.body g.above_holds;
      below_holds = subst (λ kept. Holds afar.gone_below kept body.last_offer gb.place body.outlet.phase c.below.intake.phase) keep (holds_settled step.row.act.keep g.below_holds);
      entry_role = g.entry_role;
      exit_role = g.exit_role;
      away = g.away;
      here = g.here;
      recent = g.recent;
    }

pub row_good_entry : {afar : Afar} {above : List Record} {us ws : List Sensed} {ga gb : Ghost} {body : Machine} {c : Scene} (desk : Desk) (w : InInput) (rest : List Horizontal)
    → StartsNot w → Good afar above us ga gb body c → (step : EntryStep (gone_by afar.gone_above) above ga (link_above us body c) w ws rest)
    → Pair gb (link_below ws body c)
    → Good afar above ws ga gb (intake_did desk body step.row).body (all_met (intake_did desk body step.row).acts (unheard_above rest c))
row_good_entry {afar = afar} {above = above} {ws = ws} {ga = ga} {gb = gb} {body = body} {c = c} desk w rest plain g step skipped =
    let act : InAct = step.row.act in
    subst (λ s. Good afar above ws ga gb (intake_did desk body step.row).body s)
    (sym (in_met desk act.deed act.send act.drive act.keep act.taken (unheard_above rest c)))
    (entry_good w rest plain g step skipped)

pub row_at_entry : {afar : Afar} {above : List Record} {us ws : List Sensed} {ga gb : Ghost} {body : Machine} {c : Scene} (desk : Desk) (w : InInput) (rest : List Horizontal)
    → StartsNot w → Good afar above us ga gb body c → (step : EntryStep (gone_by afar.gone_above) above ga (link_above us body c) w ws rest)
    → Pair gb (link_below ws body c)
    → Goes afar above ws ga gb c (intake_did desk body step.row).body (all_met (intake_did desk body step.row).acts (unheard_above rest c))
row_at_entry {body = body} {c = c} desk w rest plain g step skipped =
    goes_good (all_outlet (intake_did desk body step.row).acts (unheard_above rest c)) (all_intake (intake_did desk body step.row).acts (unheard_above rest c)) (row_good_entry desk w rest plain g step skipped)

pub at_entry_good : {afar : Afar} {above : List Record} {us ws : List Sensed} {ga gb : Ghost} {body : Machine} {c : Scene} (desk : Desk) (w : InInput)
    → StartsNot w → Good afar above us ga gb body c → EntryStep (gone_by afar.gone_above) above ga (link_above us body c) w ws c.above.down
    → Pair gb (link_below ws body c)
    → Good afar above ws ga gb (at_intake desk w body).body (all_met (at_intake desk w body).acts c)
at_entry_good {afar = afar} {above = above} {ws = ws} {ga = ga} {gb = gb} {body = body} {c = c} desk w plain g step skipped =
    subst (λ row. Good afar above ws ga gb (intake_row_did desk body row).body (all_met (intake_row_did desk body row).acts c)) (sym step.is) (row_good_entry desk w c.above.down plain g step skipped)

pub at_entry_goes : {afar : Afar} {above : List Record} {us ws : List Sensed} {ga gb : Ghost} {body : Machine} {c : Scene} (desk : Desk) (w : InInput)
    → StartsNot w → Good afar above us ga gb body c → EntryStep (gone_by afar.gone_above) above ga (link_above us body c) w ws c.above.down
    → Pair gb (link_below ws body c)
    → GoesBy afar above ws ga gb c (at_intake desk w body)
at_entry_goes {afar = afar} {above = above} {ws = ws} {ga = ga} {gb = gb} {body = body} {c = c} desk w plain g step skipped =
    subst (λ row. GoesBy afar above ws ga gb c (intake_row_did desk body row)) (sym step.is) (row_at_entry desk w c.above.down plain g step skipped)
