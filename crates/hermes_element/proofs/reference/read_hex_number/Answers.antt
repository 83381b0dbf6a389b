use Rattle.std.proofs.Common.{◌≡◌, ◌+◌, Some, None, ap, sym, ◌∙◌, arith}
use Rattle.std.specs.Prelude.{slice_range}
use Rattle.hermes_element.specs.Plain.{hexadecimal}
use Rattle.hermes_element.specs.Checks.{allowed, number_of, digit_of, character_of}
use Rattle.hermes_element.specs.Steps.{IsGood}
use Rattle.hermes_element.proofs.Numbers.{allowed-min}
use Rattle.hermes_element.proofs.Escapes.{reads_hex, faults_hex, breaks_hex}
use Rattle.hermes_element.proofs.reference.read_hex_number.Goals as goal

pub returns-then-not-is_escape_end-clause-reads : goal.returns-then-not-is_escape_end-clause-reads
returns-then-not-is_escape_end-clause-reads c =
    let bad : IsGood c.args.bytes.now (c.args.at + 3) c.hex_digits_end-end.result → ⊥ = λ good. let yes = c.is_escape_end.ensures.1 good in cc (yes, c.if-not-is_escape_end.true) in
    breaks_hex c.args.bytes.now c.args.at c.hex_digits_end-end.result c.requires.here c.requires.escape c.requires.number c.requires.hexadecimal c.hex_digits_end-end.ensures bad (λ k. omega (arith, c.type_inv.bytes k))

pub returns-in-Some-clause-reads : goal.returns-in-Some-clause-reads
returns-in-Some-clause-reads c =
    let good : IsGood c.args.bytes.now (c.args.at + 3) c.hex_digits_end-end.result = c.is_escape_end.ensures.0 c.if-not-is_escape_end.false in
    let char : character_of (hexadecimal (slice_range c.args.bytes.now (c.args.at + 3) c.hex_digits_end-end.result)) ≡ Some c.in-Some.found = sym (ap allowed c.capped_number.ensures ∙ allowed-min (number_of 16 digit_of 0 (slice_range c.args.bytes.now (c.args.at + 3) c.hex_digits_end-end.result))) ∙ sym c.in-Some.ensures in
    reads_hex c.args.bytes.now c.args.at c.hex_digits_end-end.result c.in-Some.found c.requires.here c.requires.escape c.requires.number c.requires.hexadecimal c.hex_digits_end-end.ensures good char

pub returns-in-None-clause-reads : goal.returns-in-None-clause-reads
returns-in-None-clause-reads c =
    let good : IsGood c.args.bytes.now (c.args.at + 3) c.hex_digits_end-end.result = c.is_escape_end.ensures.0 c.if-not-is_escape_end.false in
    let char : character_of (hexadecimal (slice_range c.args.bytes.now (c.args.at + 3) c.hex_digits_end-end.result)) ≡ None = sym (ap allowed c.capped_number.ensures ∙ allowed-min (number_of 16 digit_of 0 (slice_range c.args.bytes.now (c.args.at + 3) c.hex_digits_end-end.result))) ∙ sym c.in-None.ensures in
    faults_hex c.args.bytes.now c.args.at c.hex_digits_end-end.result c.requires.here c.requires.escape c.requires.number c.requires.hexadecimal c.hex_digits_end-end.ensures good char
