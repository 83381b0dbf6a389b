use Rattle.std.proofs.Common.{sym, subst}
use Rattle.hermes_element.specs.Steps.{Meets}
use Rattle.hermes_element.proofs.document.read_start_tag.Goals as goal

pub returns-clause-reads : goal.returns-clause-reads
returns-clause-reads c = λ roots stack many.
    subst (λ o. Meets o c.in-Err-read_tag_end.stop) (sym (c.in-Ok.ensures.reads roots stack many)) (c.in-Err-read_tag_end.ensures.reads c.args.open_count roots stack c.in-Ok.read.0)
