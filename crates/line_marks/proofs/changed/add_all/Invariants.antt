use Rattle.std.proofs.Common.{◌≡◌, drop}
use Rattle.line_step.specs.Named.{ids_named}
use Rattle.line_marks.specs.Stepped.{with_ids}
use Rattle.line_marks.proofs.changed.add_all.Given as goal

abbrev pub invariant-loop-happening : goal.invariant-loop-happening
invariant-loop-happening l = with_ids (ids_named (drop l.happening-index l.told)) l.ids.items ≡ with_ids (ids_named l.told) l.initial.ids.items
