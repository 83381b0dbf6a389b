use Rattle.std.proofs.Common.{subst}
use Rattle.std.proofs.lemmas.Result.{err_from_is_err_and}
use Rattle.board_record.specs.declared.sub_board.SubBoard.{SubBoard}
use Rattle.hermes_element.specs.Element.{Tree}
use Rattle.hermes_horizontal.specs.Reading.{ReadsPart}
use Rattle.hermes_horizontal.specs.Said.{sub_said}
use Rattle.hermes_horizontal.proofs.SubsRead.{state_refused, said_refused}
use Rattle.hermes_horizontal.proofs.subs.sub_said.Goals as goal

pub returns-in_err-state : goal.returns-in_err-state
returns-in_err-state c =
    let inside : Tree = record { name = c.sb.inside.name; at = c.sb.inside.at; attributes = c.sb.inside.attributes; children = c.sb.inside.children } in
    let p = err_from_is_err_and c.from_residual-in_err-state.result c.from_residual-in_err-state.ensures.1 in
    let pos = rw c.list-attributes.ensures at c.in_ok-pos.ensures in
    let state = rw c.list-attributes.ensures at c.in_err-state.ensures in
    subst (λ (tree : Tree). ReadsPart (λ (sub : SubBoard). sub) c.from_residual-in_err-state.result (sub_said tree)) c.sb.view_is
    (said_refused (sub_said inside) c.in_err-state.field-0.0 p.0 c.from_residual-in_err-state.result p.1 p.2
    (state_refused inside c.in_ok-pos.pos c.in_err-state.field-0.0 pos state))
