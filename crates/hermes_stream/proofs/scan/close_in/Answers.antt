use Rattle.std.proofs.Common.{◌≡◌, ◌+◌, ◌-◌, ◌≤◌, drop, length, take, sym, ap, subst, ◌∙◌, arith}
use Rattle.std.proofs.lemmas.List.{take_rest, length-drop}
use Rattle.hermes_stream.specs.Scan.{HasNoClose}
use Rattle.hermes_stream.proofs.Parts.{no_close-read}
use Rattle.hermes_stream.proofs.scan.close_in.Goals as goal

pub returns-in-Some : goal.returns-in-Some
returns-in-Some c =
    let bytes = c.args.bytes.now in
    let from = c.args.from in
    let first = c.in-Some.ensures in
    let high = first.0.high in
    record {
      behind = omega arith;
      within = omega (arith, ap length (take_rest bytes from), length-drop from bytes, high);
      passed = no_close-read bytes from c.in-Some.count first.0.before;
    }

pub returns-in-None : goal.returns-in-None
returns-in-None c =
    let bytes = c.args.bytes.now in
    let from = c.args.from in
    let rest : length (take (length bytes - from) (drop from bytes)) ≡ length bytes - from = ap length (take_rest bytes from) ∙ length-drop from bytes in
    let all : from + length (take (length bytes - from) (drop from bytes)) ≡ length bytes = omega (arith, c.requires) in
    subst (HasNoClose bytes from) all (no_close-read bytes from (length (take (length bytes - from) (drop from bytes))) c.in-None.ensures)
