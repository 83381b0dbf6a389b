use Rattle.law_one_report.proofs.Frames.{each_frame}
use Rattle.law_one_report.proofs.laws.each_frame_is_spelled_or_refused.Goals as goal

pub returns : goal.returns
returns c = each_frame
