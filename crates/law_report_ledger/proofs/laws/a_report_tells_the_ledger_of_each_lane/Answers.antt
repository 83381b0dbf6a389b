use Rattle.law_report_ledger.proofs.Ledgered.{report_tells_ledger}
use Rattle.law_report_ledger.proofs.laws.a_report_tells_the_ledger_of_each_lane.Goals as goal

pub returns : goal.returns
returns c =
    report_tells_ledger c.each_lane_is_a_track.ensures.fronts c.the_ledger_follows_the_report.ensures
