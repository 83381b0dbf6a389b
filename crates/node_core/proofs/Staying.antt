-- What a machine keeps it keeps as it reads its sensor events: so a board that may go to another
-- lane goes there.
use Rattle.std.proofs.Common.{◌≡◌, ◌∙◌, ◌++◌, ◌==◌, ℕ, ℤ, Bool, true, false, List, [], ◌∷◌, Option, Some, None, refl, sym, ap, not, if◌then◌else◌}
use Rattle.std.proofs.lemmas.Bool.{false≢true}
use Rattle.line_base.specs.declared.states.Side.{Side}
use Rattle.line_base.specs.declared.states.Side.TheVariants.{Entry, Exit}
use Rattle.line_base.specs.declared.states.SensorEvent.{SensorEvent}
use Rattle.board_record.specs.declared.record.Record.{Record}
use Rattle.board_record.specs.declared.sensed.Sensed.{Sensed}
use Rattle.handover_out.specs.Row.{OutRow, outlet_row}
use Rattle.handover_out.specs.declared.input.OutInput.TheVariants as out_input
use Rattle.handover_in.specs.Row.{InRow, intake_row}
use Rattle.handover_in.specs.declared.input.InInput.TheVariants as in_input
use Rattle.node_core.specs.Boards.{first_kept, is_kept}
use Rattle.node_core.specs.Desk.{Desk}
use Rattle.node_core.specs.Halves.{given_back, intake_row_did, outlet_row_did, settled}
use Rattle.node_core.specs.May.{may_do, may_give, no_if}
use Rattle.node_core.specs.Node.{NodeState, desk_of}
use Rattle.node_core.specs.Reads.{all_read, reads, saw}
use Rattle.node_core.specs.Shifts.{board_given}
use Rattle.node_core.specs.declared.input.No.{No}
use Rattle.node_core.specs.declared.lane.Body.{Body}
use Rattle.node_core.proofs.First.{found_none}

abbrev Keeps : ℕ → Body → Type 0
Keeps id body = is_kept id body.kept ≡ true

kept_before : (id : ℕ) (board : Record) (kept : List Record) → is_kept id kept ≡ true
    → is_kept id (board ∷ kept) ≡ true
kept_before id board kept is = by (board.id == id) where
  by : (same : Bool) → (if same then true else is_kept id kept) ≡ true
  by true = refl
  by false = is

kept_behind : (id : ℕ) (kept : List Record) (board : Record) → is_kept id kept ≡ true
    → is_kept id (kept ++ board ∷ []) ≡ true
kept_behind id [] board is = absurd (false≢true is)
kept_behind id (first ∷ kept) board is = by (first.id == id) (kept_behind id kept board) is where
  by : (same : Bool) → (is_kept id kept ≡ true → is_kept id (kept ++ board ∷ []) ≡ true)
      → (if same then true else is_kept id kept) ≡ true
      → (if same then true else is_kept id (kept ++ board ∷ [])) ≡ true
  by true later is = refl
  by false later is = later is

back_keeps : (id : ℕ) (back : Option Record) (kept : List Record) → is_kept id kept ≡ true
    → is_kept id (given_back back kept) ≡ true
back_keeps id None kept is = is
back_keeps id (Some board) kept is = kept_before id board kept is

settled_keeps : (id : ℕ) (keep : Option Record) (kept : List Record) → is_kept id kept ≡ true
    → is_kept id (settled keep kept) ≡ true
settled_keeps id None kept is = is
settled_keeps id (Some board) kept is = kept_behind id kept board is

outlet_keeps : (id : ℕ) (desk : Desk) (body : Body) (found : Option OutRow) → Keeps id body
    → Keeps id (outlet_row_did desk body found).body
outlet_keeps id desk body None is = is
outlet_keeps id desk body (Some row) is = back_keeps id row.act.back body.kept is

intake_keeps : (id : ℕ) (desk : Desk) (body : Body) (found : Option InRow) → Keeps id body
    → Keeps id (intake_row_did desk body found).body
intake_keeps id desk body None is = is
intake_keeps id desk body (Some row) is = settled_keeps id row.act.keep body.kept is

saw_keeps : (id : ℕ) (desk : Desk) (side : Side) (event : SensorEvent) (body : Body) → Keeps id body
    → Keeps id (saw desk side event body).body
saw_keeps id desk Entry event body is =
    intake_keeps id desk body (intake_row body.intake (in_input.Sensed event)) is
saw_keeps id desk Exit event body is =
    outlet_keeps id desk body (outlet_row body.outlet (out_input.Sensed event)) is

pub read_keeps : (id : ℕ) (desk : Desk) (unread : List Sensed) (body : Body) → Keeps id body
    → Keeps id (all_read desk unread body).body
read_keeps id desk [] body is = is
read_keeps id desk (sensed ∷ unread) body is =
    read_keeps id desk unread (reads desk sensed body).body
    (saw_keeps id desk sensed.side sensed.event body is)

-- ---- the record that goes

give_keeps : (bridge kept last : Bool) (one two three : No)
    → no_if bridge one (no_if (not kept) two (no_if last three may_do)) ≡ may_do → kept ≡ true
give_keeps true kept last one two three may = cc
give_keeps false true last one two three may = refl
give_keeps false false last one two three may = cc

pub record IsThere (found : Option Record) : Type 0 where
  pub board : Record
  pub is : found ≡ Some board

there : (id : ℕ) (kept : List Record) (found : Option Record) → first_kept id kept ≡ found
    → is_kept id kept ≡ true → IsThere found
there id kept (Some board) same is = record { board = board; is = refl }
there id kept None same is = absurd (false≢true (sym (found_none id kept same) ∙ is))

-- THE BOARD IS THERE
pub board_there : (s : NodeState) (unread : List Sensed) (moment : ℤ) (id : ℕ)
    → may_give id s ≡ may_do → IsThere (board_given s unread moment id)
board_there s unread moment id may =
    let kept = (all_read (desk_of s moment) unread s.lane.body).body.kept in
    there id kept (first_kept id kept) refl
    (read_keeps id (desk_of s moment) unread s.lane.body (give_keeps _ _ _ _ _ _ may))

pub board_missing : (s : NodeState) (unread : List Sensed) (moment : ℤ) (id : ℕ)
    → may_give id s ≡ may_do → board_given s unread moment id ≡ None → ⊥
board_missing s unread moment id may none =
    let is = board_there s unread moment id may in cc
