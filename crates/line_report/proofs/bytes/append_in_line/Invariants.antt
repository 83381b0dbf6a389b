use Rattle.std.proofs.Common.{◌≡◌, ◌++◌, take}
use Rattle.line_report.specs.Texts.{in_line}
use Rattle.line_report.proofs.bytes.append_in_line.Given as goal

abbrev pub invariant-loop-byte : goal.invariant-loop-byte
invariant-loop-byte l = l.to.items ≡ l.initial.to.items ++ in_line (take l.byte-index l.text)
