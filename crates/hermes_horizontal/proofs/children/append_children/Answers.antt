use Rattle.hermes_element.proofs.Standings.{stands-then}
use Rattle.hermes_horizontal.proofs.children.append_children.Goals as goal

pub returns-in_err-append_features-in-ServiceDescription-clause-kept
    : goal.returns-in_err-append_features-in-ServiceDescription-clause-kept
returns-in_err-append_features-in-ServiceDescription-clause-kept c =
    stands-then c.append.ensures.kept c.append_features.ensures.kept

pub returns-in_ok-append_features-in-ServiceDescription-clause-kept
    : goal.returns-in_ok-append_features-in-ServiceDescription-clause-kept
returns-in_ok-append_features-in-ServiceDescription-clause-kept c =
    stands-then
    (stands-then c.append.ensures.kept c.append_features.ensures.kept)
    c.append-in-ServiceDescription.ensures.kept
