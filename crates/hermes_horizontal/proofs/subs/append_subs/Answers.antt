use Rattle.std.proofs.Common.{List, ◌++◌, sym, ap, ◌∙◌}
use Rattle.std.proofs.lemmas.Result.{on_ok_weaker}
use Rattle.board_record.specs.declared.sub_board.SubBoard.{SubBoard}
use Rattle.hermes_element.specs.Canonical.{canonical_forest}
use Rattle.hermes_horizontal.specs.Canonical.{sub_children}
use Rattle.hermes_horizontal.proofs.SubsSpelled.{subs_written}
use Rattle.hermes_horizontal.proofs.subs.append_subs.Goals as goal

pub returns-clause-written : goal.returns-clause-written
returns-clause-written c = on_ok_weaker c.append-5.result
    (λ e. subs_written c.args.name.now c.args.subs.now
    c.args.to.now.items c.append-2.new.to.items c.append_each.new.to.items c.append-3.new.to.items c.append-4.new.to.items c.append-5.new.to.items
    (sym c.is_empty.ensures ∙ c.if-is_empty.false) c.in_ok-append.ensures.written
    (c.in_ok-append_each.ensures.written ∙ ap (λ (subs : List SubBoard). c.append-2.new.to.items ++ canonical_forest (sub_children subs)) c.list.ensures.list)
    c.in_ok-append-2.ensures.written c.in_ok-append-3.ensures.written e)
    c.append-5.ensures.written
