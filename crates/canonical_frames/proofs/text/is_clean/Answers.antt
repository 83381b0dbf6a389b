use Rattle.canonical_frames.proofs.Values.{clean_byte}
use Rattle.canonical_frames.proofs.text.is_clean.Goals as goal

pub returns-then-byte-ne62 : goal.returns-then-byte-ne62
returns-then-byte-ne62 c =
    let tests = c.if-byte-ne62.true in
    clean_byte c.args.byte tests.0 tests.1 tests.2 tests.3 tests.4
