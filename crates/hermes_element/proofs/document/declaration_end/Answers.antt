use Rattle.std.proofs.Common.{◌+◌, ap, sym, ◌∙◌, arith}
use Rattle.hermes_element.proofs.Roots.{declared, declaration_breaks, declaration_question, declaration_end_breaks, declaration_over}
use Rattle.hermes_element.proofs.document.declaration_end.Goals as goal
use Rattle.hermes_element.proofs.document.declaration_end.Goals.{then-end-bytes-via-then-end-bytes, then-end-bytes-via-else-end-bytes+then-bytes-end-ne63, then-end-bytes-2-via-then-end-bytes-2, then-end-bytes-2-via-else-end-bytes-2+then-bytes-end-ne62}

pub returns-then-end-bytes-clause-reads : goal.returns-then-end-bytes-clause-reads
returns-then-end-bytes-clause-reads c =
    ap (λ o. o.stop) (declared c.args.bytes.now c.declared_end-end.result c.if-bytes-lt6.false c.requires.first c.requires.second c.if-bytes-ne120.false c.if-bytes-ne109.false c.if-bytes-ne108.false (sym c.is_blank.ensures ∙ c.if-not-is_blank.false) c.declared_end-end.ensures)
    ∙ declaration_breaks c.args.bytes.now c.declared_end-end.result c.declared_end-end.ensures (λ inside e. elim c.then-end-bytes.branch [ then-end-bytes-via-then-end-bytes w ↦ omega (arith, w.if-end-bytes.true) | then-end-bytes-via-else-end-bytes+then-bytes-end-ne63 w ↦ w.if-bytes-end-ne63.true e ])

pub returns-then-end-bytes-2-clause-reads : goal.returns-then-end-bytes-2-clause-reads
returns-then-end-bytes-2-clause-reads c =
    ap (λ o. o.stop) (declared c.args.bytes.now c.declared_end-end.result c.if-bytes-lt6.false c.requires.first c.requires.second c.if-bytes-ne120.false c.if-bytes-ne109.false c.if-bytes-ne108.false (sym c.is_blank.ensures ∙ c.if-not-is_blank.false) c.declared_end-end.ensures ∙ declaration_question c.args.bytes.now c.declared_end-end.result (omega (arith, c.declared_end-end.ensures.high, c.if-end-bytes.false)) c.if-bytes-end-ne63.false)
    ∙ declaration_end_breaks c.args.bytes.now (c.declared_end-end.result + 1) (λ inside e. elim c.then-end-bytes-2.branch [ then-end-bytes-2-via-then-end-bytes-2 w ↦ omega (arith, w.if-end-bytes-2.true) | then-end-bytes-2-via-else-end-bytes-2+then-bytes-end-ne62 w ↦ w.if-bytes-end-ne62.true e ])

pub returns-clause-reads : goal.returns-clause-reads
returns-clause-reads c =
    declared c.args.bytes.now c.declared_end-end.result c.if-bytes-lt6.false c.requires.first c.requires.second c.if-bytes-ne120.false c.if-bytes-ne109.false c.if-bytes-ne108.false (sym c.is_blank.ensures ∙ c.if-not-is_blank.false) c.declared_end-end.ensures
    ∙ declaration_over c.args.bytes.now c.declared_end-end.result (omega (arith, c.declared_end-end.ensures.high, c.if-end-bytes.false)) c.if-bytes-end-ne63.false (omega (arith, c.declared_end-end.ensures.high, c.if-end-bytes.false, c.if-end-bytes-2.false)) c.if-bytes-end-ne62.false
