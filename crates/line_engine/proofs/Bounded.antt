-- A line that a run has led to is within its bounds.
use Rattle.std.proofs.Common.{subst}
use Rattle.line_step.specs.State.{LineState}
use Rattle.law_one_standing.specs.Reached.{IsReached}
use Rattle.law_sentences.specs.Within.{AreLinksWithin, EachLinkStaysWithin, EachMachineStaysWithin, IsBounded, StaysWithin}

pub bounded_behind : EachMachineStaysWithin → EachLinkStaysWithin → (s : LineState) → IsReached s → IsBounded s
bounded_behind machines links s reached = record {
  machines = subst StaysWithin reached.behind (machines reached.asked reached.points reached.run);
  links = subst AreLinksWithin reached.behind (links reached.asked reached.points reached.run);
}
