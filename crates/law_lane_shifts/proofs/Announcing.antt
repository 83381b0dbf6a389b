-- What a machine keeps is the same behind its announcements; so a board that comes from another lane
-- is the last that it keeps there.
use Rattle.std.proofs.Common.{◌≡◌, ◌∙◌, ℕ, Bool, List, refl, ap}
use Rattle.board_record.specs.declared.record.Record.{Record}
use Rattle.board_record.specs.declared.sensed.Sensed.{Sensed}
use Rattle.handover_out.specs.State.{OutState}
use Rattle.handover_out.specs.Row.{OutRow}
use Rattle.handover_out.specs.Table.{IsOutletRow, offers, revokes}
use Rattle.handover_out.specs.declared.input.OutInput.{OutInput}
use Rattle.handover_out.specs.declared.input.OutInput.TheVariants as out_input
use Rattle.handover_in.specs.State.{InState}
use Rattle.handover_in.specs.Row.{InRow}
use Rattle.handover_in.specs.Table.{IsIntakeRow, gets_ready, gets_unready, starts_transport}
use Rattle.handover_in.specs.declared.input.InInput.{InInput}
use Rattle.handover_in.specs.declared.input.InInput.TheVariants as in_input
use Rattle.node_core.specs.Desk.{Desk}
use Rattle.node_core.specs.Done.{Done}
use Rattle.node_core.specs.Event.{Gets, event_did}
use Rattle.node_core.specs.Halves.{given_back, settled}
use Rattle.node_core.specs.Node.{NodeState, desk_of}
use Rattle.node_core.specs.Reads.{all_read}
use Rattle.node_core.specs.declared.input.Input.TheVariants as inputs
use Rattle.node_core.specs.declared.lane.Body.{Body}
use Rattle.step_rules.specs.Causes.{
  Announcing,
  ToIntake,
  ToOutlet,
  in_closed,
  in_ready,
  in_stand,
  in_start,
  in_unready,
  out_closed,
  out_offer,
  out_revoke,
}
use Rattle.step_rules.specs.Made.{
  Made,
  made_act,
  made_both,
  made_close,
  made_intake,
  made_none,
  made_outlet,
  made_row,
}
use Rattle.step_rules.proofs.Steps.{announces_made}
use Rattle.line_report.specs.declared.happening.Happening.{Happening}
use Rattle.line_step.specs.Numbered.{node_at}
use Rattle.line_step.specs.State.{LineState, machine_in}
use Rattle.line_step.specs.Steps.{MachineSteps, moment_of, unread_by}
use Rattle.line_step.proofs.Numbers.{machine_set_own}
use Rattle.law_one_standing.proofs.RestLine.{node_there}
use Rattle.law_lane_shifts.specs.Shifted.{KeepsLast}

-- ---- the announcements

abbrev IsAnnounced : OutInput → Type 0
IsAnnounced out_input.Revoke = Unit {0}
IsAnnounced (out_input.Offer id) = Unit {0}
IsAnnounced _ = ⊥

announced_input : {starting : Bool} {body : Body} {input : OutInput}
    → ToOutlet (Announcing starting) body input → IsAnnounced input
announced_input (out_closed talk) = absurd talk
announced_input (out_revoke now) = tt
announced_input (out_offer now front) = tt

back_row : {s : OutState} {input : OutInput} {r : OutRow} (kept : List Record)
    → IsOutletRow s input r → IsAnnounced input → given_back r.act.back kept ≡ kept
back_row kept offers plain = refl
back_row kept revokes plain = refl
back_row kept _ plain = absurd plain

abbrev IsSaid : InInput → Type 0
IsSaid in_input.Ready = Unit {0}
IsSaid in_input.Unready = Unit {0}
IsSaid in_input.Start = Unit {0}
IsSaid _ = ⊥

said_input : {desk : Desk} {starting : Bool} {body : Body} {input : InInput}
    → ToIntake desk (Announcing starting) body input → IsSaid input
said_input (in_closed talk) = absurd talk
said_input (in_stand talk) = absurd talk
said_input (in_unready now) = tt
said_input (in_ready now) = tt
said_input (in_start now) = tt

said_row : {s : InState} {input : InInput} {r : InRow} (kept : List Record)
    → IsIntakeRow s input r → IsSaid input → settled r.act.keep kept ≡ kept
said_row kept gets_ready plain = refl
said_row kept gets_unready plain = refl
said_row kept starts_transport plain = refl
said_row kept _ plain = absurd plain

announced_kept : {desk : Desk} {starting : Bool} {body : Body} {d : Done}
    → Made desk (Announcing starting) body d → d.body.kept ≡ body.kept
announced_kept made_none = refl
announced_kept (made_both one two) = announced_kept two ∙ announced_kept one
announced_kept (made_act tells) = refl
announced_kept (made_row to shape made) = elim to [ ]
announced_kept (made_close talk made) = absurd talk
announced_kept (made_outlet {body = body} to shape) = back_row body.kept shape (announced_input to)
announced_kept (made_intake {body = body} to shape) = said_row body.kept shape (said_input to)

-- ---- the lane that gets a board

pub gets_last : (number machine : ℕ) (board : Record) (before after : LineState)
    (told : List Happening) → MachineSteps number machine (inputs.Gets board) before after told
    → KeepsLast after machine board
gets_last number machine board before after told steps =
    let desk : Desk = desk_of steps.node (moment_of number) in
    let unread : List Sensed = unread_by machine before.world in
    let read : Body = (all_read desk unread steps.node.lane.body).body in
    let two : Body = (event_did desk (Gets board) read).body in
    let next_is : node_at after machine ≡ steps.next =
    node_there machine after steps.next
    (ap (machine_in machine) steps.after_is
    ∙ machine_set_own machine before steps.node steps.next steps.there) in
    record {
      others = read.kept;
      is =
          ap (λ (n : NodeState). n.lane.body.kept) next_is
          ∙ ap (λ (b : Body). b.kept) steps.steps.lane.body
          ∙ announced_kept (announces_made desk two);
    }
