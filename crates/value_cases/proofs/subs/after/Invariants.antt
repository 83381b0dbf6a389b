use denote.Text.{Utf8}
use denote.Shadow.{shadow}
use Rattle.value_cases.proofs.subs.after.Given as goal

-- what is said is text
abbrev pub invariant-loop-word : goal.invariant-loop-word
invariant-loop-word l = shadow (Utf8 l.said)
