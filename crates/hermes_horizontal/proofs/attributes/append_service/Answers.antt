use Rattle.hermes_element.proofs.Standings.{stands-then}
use Rattle.hermes_horizontal.proofs.attributes.append_service.Goals as goal

pub returns-clause-kept : goal.returns-clause-kept
returns-clause-kept c =
    stands-then
    (stands-then
    (stands-then c.append_text.ensures.kept c.append_number.ensures.kept)
    c.append_optional_text.ensures.kept) c.append_text-2.ensures.kept

pub returns-in_err-append_optional_text-clause-kept : goal.returns-in_err-append_optional_text-clause-kept
returns-in_err-append_optional_text-clause-kept c =
    stands-then
    (stands-then c.append_text.ensures.kept c.append_number.ensures.kept)
    c.append_optional_text.ensures.kept
