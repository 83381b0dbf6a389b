use Rattle.std.proofs.Common.{◌≡◌, ◌+◌, Some, None, sym, arith}
use Rattle.std.specs.Prelude.{slice_range}
use Rattle.hermes_element.specs.Plain.{named}
use Rattle.hermes_element.specs.Checks.{character_of}
use Rattle.hermes_element.specs.Steps.{IsGood}
use Rattle.hermes_element.proofs.Escapes.{reads_named, faults_named, breaks_named}
use Rattle.hermes_element.proofs.reference.read_reference.Goals as goal
use Rattle.hermes_element.proofs.reference.read_reference.Goals.{else-start-bytes-via-then-start-bytes+else-bytes-start-eq35, else-start-bytes-via-else-start-bytes}

pub returns-then-not-is_escape_end-clause-reads : goal.returns-then-not-is_escape_end-clause-reads
returns-then-not-is_escape_end-clause-reads c =
    let bad : IsGood c.args.bytes.now (c.args.at + 1) c.letters_end-end.result → ⊥ = λ good. let yes = c.is_escape_end.ensures.1 good in cc (yes, c.if-not-is_escape_end.true) in
    breaks_named c.args.bytes.now c.args.at c.letters_end-end.result c.requires.here c.requires.escape c.letters_end-end.ensures
    (λ here e. elim c.else-start-bytes.branch [ else-start-bytes-via-then-start-bytes+else-bytes-start-eq35 w ↦ w.if-bytes-start-eq35.false e | else-start-bytes-via-else-start-bytes w ↦ omega arith ]) bad

pub returns-in-Some-clause-reads : goal.returns-in-Some-clause-reads
returns-in-Some-clause-reads c =
    let good : IsGood c.args.bytes.now (c.args.at + 1) c.letters_end-end.result = c.is_escape_end.ensures.0 c.if-not-is_escape_end.false in
    let char : character_of (named (slice_range c.args.bytes.now (c.args.at + 1) c.letters_end-end.result)) ≡ Some c.in-Some.found = sym c.in-Some.ensures in
    reads_named c.args.bytes.now c.args.at c.letters_end-end.result c.in-Some.found c.requires.here c.requires.escape c.letters_end-end.ensures good char

pub returns-in-None-clause-reads : goal.returns-in-None-clause-reads
returns-in-None-clause-reads c =
    let good : IsGood c.args.bytes.now (c.args.at + 1) c.letters_end-end.result = c.is_escape_end.ensures.0 c.if-not-is_escape_end.false in
    let char : character_of (named (slice_range c.args.bytes.now (c.args.at + 1) c.letters_end-end.result)) ≡ None = sym c.in-None.ensures in
    faults_named c.args.bytes.now c.args.at c.letters_end-end.result c.requires.here c.requires.escape c.letters_end-end.ensures good char
