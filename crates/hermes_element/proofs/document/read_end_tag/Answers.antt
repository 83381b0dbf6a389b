use Rattle.std.proofs.Common.{◌≡◌, ◌+◌, ◌-◌, ◌++◌, ◌∷◌, [], true, false, ap, sym, ◌∙◌, arith}
use Rattle.std.specs.Prelude.{slice_range}
use Rattle.std.specs.Str.{bytes_eq}
use Rattle.std.proofs.lemmas.Bool.{not-true, not-false}
use Rattle.hermes_element.specs.Element.{Tree}
use Rattle.hermes_element.specs.Machine.{between, after_element, ended, innermost, outer}
use Rattle.hermes_element.specs.Steps.{run_at}
use Rattle.hermes_element.proofs.Roots.{end_breaks, end_differs, end_same, innermost-push, outer-push}
use Rattle.hermes_element.proofs.document.read_end_tag.Goals as goal
use Rattle.hermes_element.proofs.document.read_end_tag.Goals.{then-end-bytes-via-then-end-bytes, then-end-bytes-via-else-end-bytes+then-bytes-end-ne62}

pub returns-then-end-bytes-clause-reads : goal.returns-then-end-bytes-clause-reads
returns-then-end-bytes-clause-reads c = λ depth roots stack.
    end_breaks c.args.bytes.now c.args.at c.name_end-name_end.result c.blanks_end-end.result (depth + 1) (between roots (stack ++ c.args.element.now ∷ [])) (omega (arith, c.requires.here, c.if-at-bytes.false)) (sym c.is_name_start.ensures ∙ c.if-not-is_name_start.false) c.name_end-name_end.ensures c.blanks_end-end.ensures
    (λ inside e. elim c.then-end-bytes.branch [ then-end-bytes-via-then-end-bytes w ↦ omega (arith, w.if-end-bytes.true) | then-end-bytes-via-else-end-bytes+then-bytes-end-ne62 w ↦ w.if-bytes-end-ne62.true e ])

pub returns-then-ne-clause-reads : goal.returns-then-ne-clause-reads
returns-then-ne-clause-reads c = λ depth roots stack.
    let differs : bytes_eq (slice_range c.args.bytes.now c.args.at c.name_end-name_end.result) c.bytes.result.now ≡ false = not-true _ (sym c.ne.ensures ∙ c.if-ne.true) in
    end_differs c.args.bytes.now c.args.at c.name_end-name_end.result (omega (arith, c.requires.here, c.if-at-bytes.false)) (sym c.is_name_start.ensures ∙ c.if-not-is_name_start.false) c.name_end-name_end.ensures (depth + 1) roots (stack ++ c.args.element.now ∷ []) c.blanks_end-end.result c.blanks_end-end.ensures (omega (arith, c.blanks_end-end.ensures.high, c.if-end-bytes.false)) c.if-bytes-end-ne62.false (ap (λ n. bytes_eq (slice_range c.args.bytes.now c.args.at c.name_end-name_end.result) n) (ap (λ (t : Tree). t.name) (innermost-push stack c.args.element.now) ∙ sym (c.bytes.ensures.bytes ∙ ap (λ (e : Tree). e.name) c.element.view_is)) ∙ differs)

pub returns-clause-reads : goal.returns-clause-reads
returns-clause-reads c = λ depth roots stack.
    let same : bytes_eq (slice_range c.args.bytes.now c.args.at c.name_end-name_end.result) c.bytes.result.now ≡ true = not-false _ (sym c.ne.ensures ∙ c.if-ne.false) in
    let e : (depth + 1) - 1 ≡ depth = omega arith in
    end_same c.args.bytes.now c.args.at c.name_end-name_end.result (omega (arith, c.requires.here, c.if-at-bytes.false)) (sym c.is_name_start.ensures ∙ c.if-not-is_name_start.false) c.name_end-name_end.ensures (depth + 1) roots (stack ++ c.args.element.now ∷ []) c.blanks_end-end.result c.blanks_end-end.ensures (omega (arith, c.blanks_end-end.ensures.high, c.if-end-bytes.false)) c.if-bytes-end-ne62.false (ap (λ n. bytes_eq (slice_range c.args.bytes.now c.args.at c.name_end-name_end.result) n) (ap (λ (t : Tree). t.name) (innermost-push stack c.args.element.now) ∙ sym (c.bytes.ensures.bytes ∙ ap (λ (e : Tree). e.name) c.element.view_is)) ∙ same)
    ∙ ap (λ d. run_at (after_element d) d (ended roots (outer (stack ++ c.args.element.now ∷ [])) (innermost (stack ++ c.args.element.now ∷ []))) (c.blanks_end-end.result + 1) c.args.bytes.now) e
    ∙ ap (λ s. run_at (after_element depth) depth (ended roots s (innermost (stack ++ c.args.element.now ∷ []))) (c.blanks_end-end.result + 1) c.args.bytes.now) (outer-push stack c.args.element.now)
    ∙ ap (λ t. run_at (after_element depth) depth (ended roots stack t) (c.blanks_end-end.result + 1) c.args.bytes.now) (innermost-push stack c.args.element.now)
