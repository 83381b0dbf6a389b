use Rattle.std.proofs.Common.{◌≡◌, ◌∙◌, ◌+◌, ◌∷◌, Vec, Global, drop, sym, ap, subst, List}
use Rattle.std.proofs.lemmas.List.{drop_more}
use Rattle.std.proofs.lemmas.Result.{err_from_is_err_and}
use Rattle.board_record.specs.declared.sub_board.SubBoard.{SubBoard}
use Rattle.hermes_element.specs.Element.{Tree}
use Rattle.hermes_horizontal.specs.Said.{each_said, sbs_among}
use Rattle.hermes_horizontal.proofs.SubsRead.{IsTold, each_refused}
use Rattle.hermes_horizontal.proofs.subs.each_said.Goals as goal

pub returns-in_err-sub : goal.returns-in_err-sub
returns-in_err-sub c =
    let i = c.loop-child.child-index in
    let all = c.args.children.now in
    let rest = drop (i + 1) all in
    let child = c.child-item.result in
    let said = each_said (sbs_among all) in
    let first : drop i all ≡ child ∷ rest = drop_more all i child c.loop-child-test.true ∙ ap (λ tree. tree ∷ rest) (sym c.child-item.is) in
    let told = subst (λ (trees : List Tree). IsTold c.loop-child.subs.items trees said) first c.loop-child.invariant in
    let p = err_from_is_err_and c.from_residual.result c.from_residual.ensures.1 in
    each_refused (λ (subs : Vec SubBoard Global). subs.items) c.from_residual.result c.loop-child.subs.items child rest said p.0 c.in_err-sub.field-0.0
    p.1 p.2 (sym c.is_sb.ensures ∙ c.if-is_sb.true) c.in_err-sub.ensures told
