use Rattle.std.proofs.Common.{◌≡◌, take}
use Rattle.line_outside.specs.Store.{answers_of}
use Rattle.line_outside.proofs.poll_list.own_answers.Given as goal

-- those of the answers before this place
abbrev pub invariant-loop-answer : goal.invariant-loop-answer
invariant-loop-answer l = l.own.items ≡ answers_of l.way (take l.answer-index l.answers)
