-- What the two halves of handovers do to a body.
use Rattle.std.specs.Prelude.{◌≡◌, ℕ, Bool, true, false, List, [], ◌∷◌, ◌++◌, Option, Some, None, IfSome, slice_get, drop}
use Rattle.line_base.specs.declared.states.Side.{Side}
use Rattle.line_base.specs.declared.states.Side.TheVariants.{Entry, Exit}
use Rattle.board_record.specs.declared.record.Record.{Record}
use Rattle.session_core.specs.End.{at_rest}
use Rattle.handover_out.specs.declared.input.OutInput.{OutInput}
use Rattle.handover_out.specs.declared.input.OutInput.TheVariants as out_input
use Rattle.handover_out.specs.Row.{OutRow, last_after, outlet_row}
use Rattle.handover_out.specs.State.{is_idle_phase}
use Rattle.handover_in.specs.declared.input.InInput.{InInput}
use Rattle.handover_in.specs.declared.input.InInput.TheVariants as in_input
use Rattle.handover_in.specs.Row.{InRow, intake_row}
use Rattle.node_core.specs.Desk.{Desk}
use Rattle.node_core.specs.declared.lane.Body.{Body}
use Rattle.node_core.specs.Done.{Done, done, stays}
use Rattle.node_core.specs.Sides.{session_at, with_session}
use Rattle.node_core.specs.Told.{out_told, in_told}

-- a record that is given back stands in front
abbrev pub given_back : Option Record → List Record → List Record
given_back None kept = kept
given_back (Some board) kept = board ∷ kept

-- a record that is the machine's stands at the back
abbrev pub settled : Option Record → List Record → List Record
settled None kept = kept
settled (Some board) kept = kept ++ board ∷ []

-- what a row of the outlet table does
abbrev pub outlet_did : Desk → Body → OutRow → Done
outlet_did desk body row =
    done
    (record body {
      outlet = row.after;
      kept = given_back row.act.back body.kept;
      last_offer = last_after row body.last_offer;
    })
    (out_told desk body.kept row.act)

-- what a row of the intake table does
abbrev pub intake_did : Desk → Body → InRow → Done
intake_did desk body row =
    done (record body { intake = row.after; kept = settled row.act.keep body.kept })
    (in_told desk row.act)

abbrev pub outlet_row_did : Desk → Body → Option OutRow → Done
outlet_row_did desk body None = stays body
outlet_row_did desk body (Some row) = outlet_did desk body row

abbrev pub intake_row_did : Desk → Body → Option InRow → Done
intake_row_did desk body None = stays body
intake_row_did desk body (Some row) = intake_did desk body row

-- an input to the outlet that is no message
abbrev pub at_outlet : Desk → OutInput → Body → Done
at_outlet desk input body = outlet_row_did desk body (outlet_row body.outlet input)

-- an input to the intake that is no message
abbrev pub at_intake : Desk → InInput → Body → Done
at_intake desk input body = intake_row_did desk body (intake_row body.intake input)

-- the half of a side hears that its connection is closed
abbrev pub half_closed : Desk → Side → Body → Done
half_closed desk Entry body = at_intake desk in_input.Closed body
half_closed desk Exit body = at_outlet desk out_input.Closed body

-- a side's connection is at an end: its session has none, and its half hears of it
abbrev pub ended : Desk → Side → Body → Done
ended desk side body =
    half_closed desk side (with_session side (at_rest (session_at side body).role) body)

-- the front record, where a start opens the outlet, and the records without it
abbrev pub opening_board : Bool → List Record → Option Record
opening_board true kept = slice_get kept 0
opening_board false kept = None

abbrev pub behind_opening : Bool → List Record → List Record
behind_opening true kept = drop 1 kept
behind_opening false kept = kept

-- the id of the front record
abbrev pub front_id : List Record → Option ℕ
front_id [] = None
front_id (board ∷ boards) = Some board.id

-- what is offered is the front record, and no handover is open then
abbrev pub OffersFront : Body → Type 0
OffersFront body =
    IfSome body.outlet.offered (λ id. (is_idle_phase body.outlet.phase ≡ true)
    × (front_id body.kept ≡ Some id))
