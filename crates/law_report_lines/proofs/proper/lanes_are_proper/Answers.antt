use Rattle.line_report.specs.Lanes.{part_told, parts_told}
use Rattle.law_report_lines.proofs.ProperOn.{proper_whole}
use Rattle.law_report_lines.proofs.proper.lanes_are_proper.Goals as goal

pub returns : goal.returns
returns c = proper_whole (parts_told c.parts.result.earlier.now) (part_told c.parts.result.last.now) c.args.told.now c.parts.ensures c.parts_are_proper.ensures c.part_is_proper.ensures
