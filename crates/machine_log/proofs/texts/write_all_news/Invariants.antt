use Rattle.std.proofs.Common.{◌≡◌, ◌++◌, true, drop}
use Rattle.machine_log.specs.Texts.{news_lines}
use Rattle.machine_log.proofs.texts.write_all_news.Given as goal

-- what is written and what is left to write are the whole
abbrev pub invariant-loop-act : goal.invariant-loop-act
invariant-loop-act l = l.to.items ++ news_lines true l.turn l.machine (drop l.act-index l.acts) ≡ l.initial.to.items ++ news_lines true l.turn l.machine l.acts
