use Rattle.std.proofs.Common.{◌≡◌, ◌++◌, subst}
use Rattle.std.proofs.lemmas.Result.{on_ok_weaker}
use Rattle.hermes_element.proofs.Standings.{stands-then}
use Rattle.hermes_horizontal.specs.Canonical.{body_spelling}
use Rattle.hermes_horizontal.proofs.Writing.{message_written}
use Rattle.hermes_horizontal.proofs.write.append_message.Goals as goal

pub returns-clause-written : goal.returns-clause-written
returns-clause-written c =
    let written =
    subst (λ body. c.append_body.new.to.items ≡ c.append-2.new.to.items
    ++ body_spelling body) c.what.ensures c.in_ok-append_body.ensures.written in
    on_ok_weaker c.append-3.result
    (λ e. message_written c.args.message.now c.args.to.now.items c.append.new.to.items
    c.append_optional_moment.new.to.items c.append-2.new.to.items c.append_body.new.to.items
    c.append-3.new.to.items
    c.in_ok-append.ensures.written c.in_ok-append_optional_moment.ensures.written
    c.in_ok-append-2.ensures.written written e)
    c.append-3.ensures.written

pub returns-in_err-append-2-clause-kept : goal.returns-in_err-append-2-clause-kept
returns-in_err-append-2-clause-kept c =
    stands-then
    (stands-then c.append.ensures.kept c.append_optional_moment.ensures.kept)
    c.append-2.ensures.kept

pub returns-in_err-append_body-clause-kept : goal.returns-in_err-append_body-clause-kept
returns-in_err-append_body-clause-kept c =
    stands-then
    (stands-then
    (stands-then c.append.ensures.kept c.append_optional_moment.ensures.kept)
    c.append-2.ensures.kept) c.append_body.ensures.kept

pub returns-clause-kept : goal.returns-clause-kept
returns-clause-kept c =
    stands-then
    (stands-then
    (stands-then
    (stands-then c.append.ensures.kept c.append_optional_moment.ensures.kept)
    c.append-2.ensures.kept) c.append_body.ensures.kept) c.append-3.ensures.kept
