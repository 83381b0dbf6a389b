use Rattle.std.proofs.Common.{◌+◌, ◌-◌, take, drop, length}
use Rattle.line_base.specs.PlainText.{is_plain_byte}
use Rattle.hermes_element.specs.Canonical.{is_unescaped}
use Rattle.canonical_frames.proofs.Lists.{all_more, text_parted, front_short}
use Rattle.canonical_frames.proofs.Values.{text_value}
use Rattle.canonical_frames.proofs.text.behind_text.Goals as goal

pub loop-i-preserved : goal.loop-i-preserved
loop-i-preserved c =
    let clean = c.is_clean.ensures c.if-not-is_clean.false in
    record {
      plain = all_more is_plain_byte c.args.bytes.now c.loop-i.i c.loop-i-test.true c.loop-i.invariant.plain clean.plain;
      unescaped = all_more is_unescaped c.args.bytes.now c.loop-i.i c.loop-i-test.true c.loop-i.invariant.unescaped clean.unescaped;
    }

pub returns-then-i-le-MOST_TEXT_BYTES : goal.returns-then-i-le-MOST_TEXT_BYTES
returns-then-i-le-MOST_TEXT_BYTES c =
    text_value (take c.loop-i.i c.args.bytes.now) c.args.bytes.now (take (length c.args.bytes.now - (c.loop-i.i + 1)) (drop (c.loop-i.i + 1) c.args.bytes.now))
    c.loop-i.invariant.plain c.loop-i.invariant.unescaped
    (front_short c.args.bytes.now c.loop-i.i 1024 c.if-i-le-MOST_TEXT_BYTES.true)
    (text_parted c.args.bytes.now c.loop-i.i 34 c.loop-i-test.true c.if-byte-eq34.true)
