use Rattle.hermes_element.proofs.Standings.{stands-then}
use Rattle.hermes_vertical.proofs.attributes.append_passage.Goals as goal

pub returns-in_err-append_number-2-clause-kept : goal.returns-in_err-append_number-2-clause-kept
returns-in_err-append_number-2-clause-kept c =
    stands-then
    (stands-then c.append_text.ensures.kept c.append_number.ensures.kept)
    c.append_number-2.ensures.kept

pub returns-clause-kept : goal.returns-clause-kept
returns-clause-kept c =
    stands-then
    (stands-then
    (stands-then c.append_text.ensures.kept c.append_number.ensures.kept)
    c.append_number-2.ensures.kept) c.append_id.ensures.kept
