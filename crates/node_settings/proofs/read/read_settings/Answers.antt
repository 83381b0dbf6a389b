use Rattle.std.proofs.Common.{◌∙◌, ◌≤◌, length, arith, sym}
use Rattle.std.proofs.lemmas.Bool.{false≢true}
use Rattle.node_settings.proofs.Documents.{read_of-document, read_of-none}
use Rattle.node_settings.proofs.read.read_settings.Goals as goal

pub returns-in-Ok : goal.returns-in-Ok
returns-in-Ok c =
    let short : length c.args.bytes.now ≤ 65536 = omega arith in
    rw (read_of-document c.args.bytes.now _ short c.in-Ok.ensures.ok.0 c.in-Ok.ensures.ok.1) c.settings_of.ensures

pub returns-else-is_memory : goal.returns-else-is_memory
returns-else-is_memory c =
    let short : length c.args.bytes.now ≤ 65536 = omega arith in
    read_of-none c.args.bytes.now short (c.in-Err.ensures.refused (λ memory. false≢true (sym c.if-is_memory.false ∙ c.is_memory.ensures.1 memory)))
