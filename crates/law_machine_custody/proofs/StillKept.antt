-- What a machine keeps is kept when it has read its sensor events: a board that comes back stands before it, and one that
-- settles behind it.
use Rattle.std.proofs.Common.{Bool, List, None, Option, Some, [], false, refl, true, ℕ, ◌++◌, ◌==◌, ◌∷◌, ◌≡◌, if◌then◌else◌}
use Rattle.line_base.specs.declared.states.SensorEvent.{SensorEvent}
use Rattle.line_base.specs.declared.states.Side.{Side}
use Rattle.line_base.specs.declared.states.Side.TheVariants.{Entry, Exit}
use Rattle.board_record.specs.declared.record.Record.{Record}
use Rattle.board_record.specs.declared.sensed.Sensed.{Sensed}
use Rattle.handover_out.specs.Row.{OutRow, outlet_row}
use Rattle.handover_out.specs.declared.input.OutInput.TheVariants as out_input
use Rattle.handover_in.specs.Row.{InRow, intake_row}
use Rattle.handover_in.specs.declared.input.InInput.TheVariants as in_input
use Rattle.node_core.specs.Boards.{is_kept}
use Rattle.node_core.specs.Desk.{Desk}
use Rattle.node_core.specs.Halves.{given_back, intake_row_did, outlet_row_did, settled}
use Rattle.node_core.specs.Reads.{all_read, saw}
use Rattle.node_core.specs.declared.lane.Body.{Body as Machine}
use Rattle.law_machine_custody.proofs.Quiet.{read_keeps}

either_way : (test b : Bool) → b ≡ true → (if test then true else b) ≡ true
either_way true b there = refl
either_way false b there = there

kept_back : (id : ℕ) (back : Option Record) (kept : List Record) → is_kept id kept ≡ true → is_kept id (given_back back kept) ≡ true
kept_back id None kept there = there
kept_back id (Some board) kept there = either_way (board.id == id) (is_kept id kept) there

more_kept : (id : ℕ) (test : Bool) (boards more : List Record) → (if test then true else is_kept id boards) ≡ true → (is_kept id boards ≡ true → is_kept id (boards ++ more) ≡ true)
    → (if test then true else is_kept id (boards ++ more)) ≡ true
more_kept id true boards more there later = refl
more_kept id false boards more there later = later there

kept_before : (id : ℕ) (kept more : List Record) → is_kept id kept ≡ true → is_kept id (kept ++ more) ≡ true
kept_before id [] more there = cc
kept_before id (board ∷ boards) more there = more_kept id (board.id == id) boards more there (kept_before id boards more)

kept_settled : (id : ℕ) (keep : Option Record) (kept : List Record) → is_kept id kept ≡ true → is_kept id (settled keep kept) ≡ true
kept_settled id None kept there = there
kept_settled id (Some board) kept there = kept_before id kept (board ∷ []) there

outlet_kept : (id : ℕ) (desk : Desk) (body : Machine) (row : Option OutRow) → is_kept id body.kept ≡ true → is_kept id (outlet_row_did desk body row).body.kept ≡ true
outlet_kept id desk body None there = there
outlet_kept id desk body (Some row) there = kept_back id row.act.back body.kept there

intake_kept : (id : ℕ) (desk : Desk) (body : Machine) (row : Option InRow) → is_kept id body.kept ≡ true → is_kept id (intake_row_did desk body row).body.kept ≡ true
intake_kept id desk body None there = there
intake_kept id desk body (Some row) there = kept_settled id row.act.keep body.kept there

saw_kept : (id : ℕ) (desk : Desk) (at : Side) (event : SensorEvent) (body : Machine) → is_kept id body.kept ≡ true → is_kept id (saw desk at event body).body.kept ≡ true
saw_kept id desk Entry event body there = intake_kept id desk body (intake_row body.intake (in_input.Sensed event)) there
saw_kept id desk Exit event body there = outlet_kept id desk body (outlet_row body.outlet (out_input.Sensed event)) there

pub read_kept : (id : ℕ) (desk : Desk) (unread : List Sensed) (body : Machine) → is_kept id body.kept ≡ true → is_kept id (all_read desk unread body).body.kept ≡ true
read_kept id desk unread body there = read_keeps (λ (b : Machine). is_kept id b.kept ≡ true) desk (λ at event b is. saw_kept id desk at event b is) unread body there
