use Rattle.std.proofs.Common.{◌∙◌, sym}
use Rattle.std.proofs.lemmas.Result.{on_ok_weaker}
use Rattle.hermes_element.proofs.Standings.{stands-then}
use Rattle.hermes_horizontal.proofs.Writing.{features_written}
use Rattle.hermes_horizontal.proofs.children.put_features.Goals as goal

pub returns-clause-written : goal.returns-clause-written
returns-clause-written c = on_ok_weaker c.append-3.result
    (λ e. features_written c.args.features c.args.to.now.items c.append-2.new.to.items
    c.append_if.new.to.items c.append_if-2.new.to.items c.append_if-3.new.to.items
    c.append_if-4.new.to.items c.append-3.new.to.items
    (sym c.has_any.ensures ∙ c.if-not-has_any.false)
    c.in_ok-append.ensures.written c.in_ok-append_if.ensures.written
    c.in_ok-append_if-2.ensures.written c.in_ok-append_if-3.ensures.written
    c.in_ok-append_if-4.ensures.written e)
    c.append-3.ensures.written

pub returns-clause-kept : goal.returns-clause-kept
returns-clause-kept c =
    stands-then
    (stands-then
    (stands-then
    (stands-then
    (stands-then c.append-2.ensures.kept c.append_if.ensures.kept) c.append_if-2.ensures.kept)
    c.append_if-3.ensures.kept) c.append_if-4.ensures.kept) c.append-3.ensures.kept

pub returns-in_err-append_if-2-clause-kept : goal.returns-in_err-append_if-2-clause-kept
returns-in_err-append_if-2-clause-kept c =
    stands-then
    (stands-then c.append-2.ensures.kept c.append_if.ensures.kept) c.append_if-2.ensures.kept

pub returns-in_err-append_if-3-clause-kept : goal.returns-in_err-append_if-3-clause-kept
returns-in_err-append_if-3-clause-kept c =
    stands-then
    (stands-then
    (stands-then c.append-2.ensures.kept c.append_if.ensures.kept) c.append_if-2.ensures.kept)
    c.append_if-3.ensures.kept

pub returns-in_err-append_if-4-clause-kept : goal.returns-in_err-append_if-4-clause-kept
returns-in_err-append_if-4-clause-kept c =
    stands-then
    (stands-then
    (stands-then
    (stands-then c.append-2.ensures.kept c.append_if.ensures.kept) c.append_if-2.ensures.kept)
    c.append_if-3.ensures.kept) c.append_if-4.ensures.kept
