-- CONTENTS ARE KEPT, a line at a time.
use Rattle.std.specs.Prelude.{List}
use Rattle.law_sentences.specs.Records.{IsChanged, KeepsContents}
use Rattle.line_report.specs.declared.happening.Happening.{Happening}
use Rattle.line_step.specs.State.{LineState}

-- over a line, by what it told of marks and circuits
abbrev pub KeepsContentsNext : LineState → LineState → List Happening → Type 0
KeepsContentsNext before after told = KeepsContents (IsChanged told) before after
