use Rattle.std.proofs.Common.{◌≡◌, ◌++◌, drop}
use Rattle.machine_log.specs.Texts.{lines_of}
use Rattle.machine_log.proofs.texts.write_lines.Given as goal

-- what is written and what is left to write are the whole
abbrev pub invariant-loop-act : goal.invariant-loop-act
invariant-loop-act l = l.to.items ++ lines_of l.told l.turn l.machine (drop l.act-index l.acts) ≡ l.initial.to.items ++ lines_of l.told l.turn l.machine l.acts
