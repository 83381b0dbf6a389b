-- What the halves do at an input: all that is said is fit, and so are the records behind it.
use Rattle.std.proofs.Common.{Bool, List, None, Option, Some, [], drop, false, refl, true, ℕ, ◌++◌, ◌∷◌, ◌≡◌}
use Rattle.line_base.specs.declared.states.Side.{Side}
use Rattle.line_base.specs.declared.states.Side.TheVariants.{Entry, Exit}
use Rattle.board_record.specs.declared.record.Record.{Record}
use Rattle.session_core.specs.End.{SessionEnd, at_rest}
use Rattle.handover_out.specs.declared.input.OutInput.{OutInput}
use Rattle.handover_out.specs.declared.input.OutInput.TheVariants as out_input
use Rattle.handover_out.specs.Row.{OutRow, outlet_row}
use Rattle.handover_out.proofs.Rows.{row_is}
use Rattle.handover_in.specs.declared.input.InInput.{InInput}
use Rattle.handover_in.specs.declared.input.InInput.TheVariants as in_input
use Rattle.handover_in.specs.Row.{InRow, intake_row}
use Rattle.handover_in.proofs.Rows.{row_is as in_row_is}
use Rattle.node_core.specs.Desk.{Desk}
use Rattle.node_core.specs.Done.{Done, and_then, behind, done, stays}
use Rattle.node_core.specs.Halves.{behind_opening, ended, given_back, half_closed, intake_row_did, opening_board, outlet_row_did, settled}
use Rattle.node_core.specs.Hears.{intake_took, outlet_took, start_took}
use Rattle.node_core.specs.Sides.{session_at, with_session}
use Rattle.node_core.specs.declared.act.Act.{Act}
use Rattle.node_core.specs.declared.lane.Body.{Body}
use Rattle.law_link_messages.specs.Fit.{AreFitActs, AreFitRecords, Fits, IsFitBody, IsFitDesk, IsFitId, IsFitIf, IsFitRecord, more_kept, none_kept, none_said}
use Rattle.law_link_messages.proofs.SayingRows.{IsFitInInput, IsFitInRow, IsFitOutInput, IsFitOutRow, intake_row_fits, outlet_row_fits}
use Rattle.law_link_messages.proofs.SayingWhat.{both_said, front_fits, in_told_fits, out_told_fits}

-- ---- what is done

pub fits_still : (body : Body) → IsFitBody body → Fits (stays body)
fits_still body b = record { body = b; acts = none_said }

pub fits_told : (body : Body) (told : List Act) → IsFitBody body → AreFitActs told → Fits (done body told)
fits_told body told b t = record { body = b; acts = t }

pub fits_behind : (told : List Act) (d : Done) → AreFitActs told → Fits d → Fits (behind told d)
fits_behind told d t f = record { body = f.body; acts = both_said t f.acts }

pub fits_both : (first : Done) (next : Body → Done) → Fits first → Fits (next first.body) → Fits (and_then first next)
fits_both first next a b = record { body = b.body; acts = both_said a.acts b.acts }

-- another session at a side
pub with_session_fits : (side : Side) (s : SessionEnd) (body : Body) → IsFitBody body → IsFitBody (with_session side s body)
with_session_fits Entry s body b = record { kept = b.kept; outlet = b.outlet; intake = b.intake; offer = b.offer }
with_session_fits Exit s body b = record { kept = b.kept; outlet = b.outlet; intake = b.intake; offer = b.offer }

-- ---- records

given_back_fits : (back : Option Record) (kept : List Record) → IsFitIf back → AreFitRecords kept → AreFitRecords (given_back back kept)
given_back_fits None kept fit k = k
given_back_fits (Some board) kept fit k = more_kept fit k

pub behind_fits : {kept : List Record} {board : Record} → AreFitRecords kept → IsFitRecord board → AreFitRecords (kept ++ board ∷ [])
behind_fits none_kept fit = more_kept fit none_kept
behind_fits (more_kept one others) fit = more_kept one (behind_fits others fit)

settled_fits : (keep : Option Record) (kept : List Record) → IsFitIf keep → AreFitRecords kept → AreFitRecords (settled keep kept)
settled_fits None kept fit k = k
settled_fits (Some board) kept fit k = behind_fits k fit

opening_fits : (opening : Bool) (kept : List Record) → AreFitRecords kept → IsFitIf (opening_board opening kept)
opening_fits true kept k = front_fits kept k
opening_fits false kept k = tt

others_fit : (kept : List Record) → AreFitRecords kept → AreFitRecords (drop 1 kept)
others_fit [] k = k
others_fit (board ∷ boards) (more_kept one others) = others

behind_opening_fits : (opening : Bool) (kept : List Record) → AreFitRecords kept → AreFitRecords (behind_opening opening kept)
behind_opening_fits true kept k = others_fit kept k
behind_opening_fits false kept k = k

-- ---- the halves

pub outlet_fits : (desk : Desk) (body : Body) (input : OutInput) (found : Option OutRow) → IsFitOutInput input → outlet_row body.outlet input ≡ found → IsFitDesk desk → IsFitBody body → Fits (outlet_row_did desk body found)
outlet_fits desk body input None given is d b = fits_still body b
outlet_fits desk body input (Some r) given is d b =
    let row : IsFitOutRow r = outlet_row_fits (row_is body.outlet input r is) b.outlet given in
    record {
      body = record { kept = given_back_fits r.act.back body.kept row.back b.kept; outlet = row.held; intake = b.intake; offer = b.offer };
      acts = out_told_fits desk body.kept r.act d b.kept row.send;
    }

pub intake_fits : (desk : Desk) (body : Body) (input : InInput) (found : Option InRow) → IsFitInInput input → intake_row body.intake input ≡ found → IsFitDesk desk → IsFitBody body → Fits (intake_row_did desk body found)
intake_fits desk body input None given is d b = fits_still body b
intake_fits desk body input (Some r) given is d b =
    let row : IsFitInRow r = intake_row_fits (in_row_is body.intake input r is) b.intake b.offer given in
    record {
      body = record { kept = settled_fits r.act.keep body.kept row.keep b.kept; outlet = b.outlet; intake = row.held; offer = row.offer };
      acts = in_told_fits desk r.act d row.send;
    }

pub at_outlet_fits : (desk : Desk) (input : OutInput) (body : Body) → IsFitOutInput input → IsFitDesk desk → IsFitBody body → Fits (outlet_row_did desk body (outlet_row body.outlet input))
at_outlet_fits desk input body given d b = outlet_fits desk body input (outlet_row body.outlet input) given refl d b

pub at_intake_fits : (desk : Desk) (input : InInput) (body : Body) → IsFitInInput input → IsFitDesk desk → IsFitBody body → Fits (intake_row_did desk body (intake_row body.intake input))
at_intake_fits desk input body given d b = intake_fits desk body input (intake_row body.intake input) given refl d b

pub half_closed_fits : (desk : Desk) (side : Side) (body : Body) → IsFitDesk desk → IsFitBody body → Fits (half_closed desk side body)
half_closed_fits desk Entry body d b = at_intake_fits desk in_input.Closed body tt d b
half_closed_fits desk Exit body d b = at_outlet_fits desk out_input.Closed body tt d b

pub ended_fits : (desk : Desk) (side : Side) (body : Body) → IsFitDesk desk → IsFitBody body → Fits (ended desk side body)
ended_fits desk side body d b = half_closed_fits desk side (with_session side (at_rest (session_at side body).role) body) d (with_session_fits side (at_rest (session_at side body).role) body b)

-- ---- messages to them

-- a half that has a row for a message
pub data FitsAny : Option Done → Type 0 where
  fits_none : FitsAny None
  fits_some : {d : Done} → Fits d → FitsAny (Some d)

pub outlet_took_fits : (desk : Desk) (body : Body) (input : OutInput) (found : Option OutRow) → IsFitOutInput input → outlet_row body.outlet input ≡ found → IsFitDesk desk → IsFitBody body → FitsAny (outlet_took desk body found)
outlet_took_fits desk body input None given is d b = fits_none
outlet_took_fits desk body input (Some r) given is d b = fits_some (outlet_fits desk body input (Some r) given is d b)

pub intake_took_fits : (desk : Desk) (body : Body) (input : InInput) (found : Option InRow) → IsFitInInput input → intake_row body.intake input ≡ found → IsFitDesk desk → IsFitBody body → FitsAny (intake_took desk body found)
intake_took_fits desk body input None given is d b = fits_none
intake_took_fits desk body input (Some r) given is d b = fits_some (intake_fits desk body input (Some r) given is d b)

-- a start takes the front record along, where it opens
pub start_took_fits : (desk : Desk) (body : Body) (id : ℕ) (opening : Bool) → IsFitId id → IsFitDesk desk → IsFitBody body → FitsAny (start_took desk id opening body)
start_took_fits desk body id opening given d b =
    outlet_took_fits desk (record body { kept = behind_opening opening body.kept }) (out_input.Start id (opening_board opening body.kept)) (outlet_row body.outlet (out_input.Start id (opening_board opening body.kept)))
    (given, opening_fits opening body.kept b.kept) refl d
    (record { kept = behind_opening_fits opening body.kept b.kept; outlet = b.outlet; intake = b.intake; offer = b.offer })
