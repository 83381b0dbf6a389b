use Rattle.std.proofs.Common.{[], subst}
use Rattle.std.proofs.lemmas.List.Elements.{All-head}
use Rattle.machine_log.specs.Account.{AreProper, IsProperAct}
use Rattle.law_report_lines.proofs.proper.act_is_proper.Goals as goal

pub returns : goal.returns
returns c = All-head IsProperAct c.args.act.now [] (subst AreProper c.from_ref.ensures.value c.acts_are_proper.ensures).each
