use Rattle.law_report_ledger.proofs.Standings.{report_tells_standings}
use Rattle.law_report_ledger.proofs.laws.a_report_tells_the_standings_of_each_lane.Goals as goal

pub returns : goal.returns
returns c =
    report_tells_standings c.each_lane_is_a_track.ensures.standing
    c.a_report_tells_the_ledger_of_each_lane.ensures
