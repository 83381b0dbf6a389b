-- What the rows of both halves have their machine say, and the records that they leave, are fit.
use Rattle.std.proofs.Common.{None, Option, Some, subst, ℕ, ◌≡◌}
use Rattle.board_record.specs.declared.record.Record.{Record}
use Rattle.handover_out.specs.declared.act.OutSend.{OutSend}
use Rattle.handover_out.specs.declared.act.OutSend.TheVariants as out_send
use Rattle.handover_out.specs.declared.input.OutInput.{OutInput}
use Rattle.handover_out.specs.declared.input.OutInput.TheVariants as out_input
use Rattle.handover_out.specs.State as outlet
use Rattle.handover_out.specs.State.{OutState}
use Rattle.handover_out.specs.Row.{OutRow}
use Rattle.handover_out.specs.Table.{IsOutletRow, opens, refuses, stop_home}
use Rattle.handover_in.specs.declared.act.InSend.{InSend}
use Rattle.handover_in.specs.declared.act.InSend.TheVariants as in_send
use Rattle.handover_in.specs.declared.input.InInput.{InInput}
use Rattle.handover_in.specs.declared.input.InInput.TheVariants as in_input
use Rattle.handover_in.specs.State as intake
use Rattle.handover_in.specs.State.{InState}
use Rattle.handover_in.specs.Row.{InRow}
use Rattle.handover_in.specs.Table.{IsIntakeRow, available_idle, available_heard, available_stopped, starts_transport}
use Rattle.law_link_messages.specs.Fit.{IsFitId, IsFitIf, IsFitRecord}

-- ---- the outlet

-- what comes to the outlet: the board of a start, and the id of one that is refused
abbrev pub IsFitOutInput : OutInput → Type 0
IsFitOutInput (out_input.Start id board) = IsFitId id × IsFitIf board
IsFitOutInput _ = Unit {0}

abbrev pub IsFitOutSend : Option OutSend → Type 0
IsFitOutSend (Some (out_send.Finished state id)) = IsFitId id
IsFitOutSend _ = Unit {0}

pub record IsFitOutRow (r : OutRow) : Type 0 where
  pub held : IsFitIf (outlet.held r.after)
  pub back : IsFitIf r.act.back
  pub send : IsFitOutSend r.act.send

-- the id of a record that is held
abbrev pub IsFitIdIf : Option Record → Type 0
IsFitIdIf None = Unit {0}
IsFitIdIf (Some board) = IsFitId board.id

id_if : (board : Option Record) → IsFitIf board → IsFitIdIf board
id_if None fit = tt
id_if (Some board) fit = fit.values.0

other_id : {a b : ℕ} → a ≡ b → IsFitId a → IsFitId b
other_id e fit = subst (λ (n : ℕ). IsFitId n) e fit

out_row : {s : OutState} {input : OutInput} {r : OutRow} → IsOutletRow s input r → IsFitIf (outlet.held s) → IsFitIdIf (outlet.held s) → IsFitOutInput input → IsFitOutRow r
out_row (opens e) fit id given = record { held = given.1; back = tt; send = tt }
out_row (refuses not_it) fit id given = record { held = tt; back = tt; send = given.0 }
out_row (stop_home e) fit id given = record { held = tt; back = fit; send = other_id e id }
out_row _ fit id given = record { held = assumption fit; back = assumption fit; send = assumption id }

pub outlet_row_fits : {s : OutState} {input : OutInput} {r : OutRow} → IsOutletRow s input r → IsFitIf (outlet.held s) → IsFitOutInput input → IsFitOutRow r
outlet_row_fits {s = s} row fit given = out_row row fit (id_if (outlet.held s) fit) given

-- ---- the intake

-- what comes to the intake: the record of a board that is offered
abbrev pub IsFitInInput : InInput → Type 0
IsFitInInput (in_input.BoardAvailable board) = IsFitRecord board
IsFitInInput _ = Unit {0}

abbrev pub IsFitInSend : Option InSend → Type 0
IsFitInSend (Some (in_send.Start id)) = IsFitId id
IsFitInSend (Some (in_send.Stop state id)) = IsFitId id
IsFitInSend _ = Unit {0}

pub record IsFitInRow (r : InRow) : Type 0 where
  pub held : IsFitIf (intake.held r.after)
  pub offer : IsFitIf r.after.offer
  pub keep : IsFitIf r.act.keep
  pub send : IsFitInSend r.act.send

in_row : {s : InState} {input : InInput} {r : InRow} → IsIntakeRow s input r → IsFitIf (intake.held s) → IsFitIdIf (intake.held s) → IsFitIf s.offer → IsFitInInput input → IsFitInRow r
in_row starts_transport fit id offer given = record { held = offer; offer = tt; keep = tt; send = offer.values.0 }
in_row available_idle fit id offer given = record { held = tt; offer = given; keep = tt; send = tt }
in_row available_heard fit id offer given = record { held = fit; offer = given; keep = tt; send = tt }
in_row available_stopped fit id offer given = record { held = fit; offer = given; keep = tt; send = tt }
in_row _ fit id offer given = record { held = assumption fit; offer = assumption offer; keep = assumption fit; send = assumption id }

pub intake_row_fits : {s : InState} {input : InInput} {r : InRow} → IsIntakeRow s input r → IsFitIf (intake.held s) → IsFitIf s.offer → IsFitInInput input → IsFitInRow r
intake_row_fits {s = s} row fit offer given = in_row row fit (id_if (intake.held s) fit) offer given
