use Rattle.law_report_ledger.proofs.Asked.{report_tells_starts}
use Rattle.law_report_ledger.proofs.laws.a_report_tells_the_starts_of_each_lane.Goals as goal

pub returns : goal.returns
returns c =
    report_tells_starts c.each_lane_is_a_track.ensures.fronts c.what_opens_was_started_last.ensures
