use Rattle.std.proofs.Common.{◌≡◌, true, take}
use Rattle.std.specs.List.{list_all}
use Rattle.line_base.specs.PlainText.{is_plain_byte}
use Rattle.hermes_element.specs.Canonical.{is_unescaped}
use Rattle.canonical_frames.proofs.text.behind_text.Given as goal

abbrev pub invariant-loop-i : goal.invariant-loop-i
invariant-loop-i l = record {
  plain : list_all is_plain_byte (take l.i l.bytes) ≡ true;
  unescaped : list_all is_unescaped (take l.i l.bytes) ≡ true;
}
