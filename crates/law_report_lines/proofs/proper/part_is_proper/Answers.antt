use Rattle.std.proofs.Common.{subst}
use Rattle.law_report_lines.specs.Proper.{AreProper, AreShiftsProper}
use Rattle.law_report_lines.proofs.ProperOn.{proper_on}
use Rattle.law_report_lines.proofs.proper.part_is_proper.Goals as goal

pub returns : goal.returns
returns c =
    proper_on c.args.part.now.lane c.args.part.now.told c.number_is_proper.ensures
    (subst AreProper c.list-told.ensures c.happenings_are_proper.ensures)
    (subst AreShiftsProper c.list-told.ensures c.shifts_are_proper.ensures)
