use Rattle.hermes_element.proofs.Standings.{stands-then}
use Rattle.hermes_horizontal.proofs.alike.put_notice.Goals as goal

pub returns-clause-kept : goal.returns-clause-kept
returns-clause-kept c = stands-then (stands-then c.append_number.ensures.kept c.append_number-2.ensures.kept) c.append_text.ensures.kept
