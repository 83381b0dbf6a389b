use Rattle.law_report_ledger.proofs.Fronts.{fronts_tell}
use Rattle.law_report_ledger.proofs.laws.a_front_tells_the_ledger_of_each_lane.Goals as goal

pub returns : goal.returns
returns c =
    fronts_tell c.a_report_tells_the_ledger_of_each_lane.ensures
    c.a_report_tells_the_standings_of_each_lane.ensures
