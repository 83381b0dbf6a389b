use Rattle.std.proofs.Common.{◌≡◌, ◌+◌, ◌++◌, ◌∷◌, [], List, length, ap, sym, ◌∙◌, arith, subst}
use Rattle.hermes_element.specs.Element.{none, Tree}
use Rattle.hermes_element.specs.Machine.{between, after_element, ended}
use Rattle.hermes_element.specs.Steps.{run_at, Meets, in_content, tag_ended, ReadsMarkup}
use Rattle.hermes_element.specs.declared.place.Place.TheVariants as places
use Rattle.hermes_element.proofs.Roots.{content_breaks, content_open, content_close, markup_close, again, opened}
use Rattle.hermes_element.proofs.document.read_markup.Goals as goal
use Rattle.hermes_element.proofs.document.read_markup.Goals.{then-open_at-bytes-via-then-open_at-bytes, then-open_at-bytes-via-else-open_at-bytes+then-bytes-open_at-ne60, in-Ok-push, in-Err-push}

counted : (root : Tree) (stack items : List Tree) → items ≡ stack → length (root ∷ stack) ≡ length items + 1
counted root stack items same = let e = ap length same in omega (arith, e)

pub returns-then-open_at-bytes-clause-reads : goal.returns-then-open_at-bytes-clause-reads
returns-then-open_at-bytes-clause-reads c =
    let before = c.args.root.now ∷ c.args.stack.now.items in
    content_breaks (length before) c.args.at c.blanks_end-open_at.result (between none before) c.args.bytes.now c.blanks_end-open_at.ensures
    (λ inside e. elim c.then-open_at-bytes.branch [ then-open_at-bytes-via-then-open_at-bytes w ↦ omega (arith, w.if-open_at-bytes.true) | then-open_at-bytes-via-else-open_at-bytes+then-bytes-open_at-ne60 w ↦ w.if-bytes-open_at-ne60.true e ])

pub returns-then-bytes-open_at-eq47-clause-reads : goal.returns-then-bytes-open_at-eq47-clause-reads
returns-then-bytes-open_at-eq47-clause-reads c =
    let before = c.args.root.now ∷ c.args.stack.now.items in
    markup_close c.args.bytes.now c.args.at (c.blanks_end-open_at.result + 2) before c.read_close.new.root c.read_close.new.stack.items c.read_close.result
    (content_close (length before) c.args.at c.blanks_end-open_at.result (between none before) c.args.bytes.now (omega arith) c.blanks_end-open_at.ensures (omega (arith, c.if-open_at-bytes-2.true)) c.if-bytes-open_at-ne60.false c.if-bytes-open_at-eq47.true)
    c.read_close.ensures.reads

pub returns-in-Err-clause-reads : goal.returns-in-Err-clause-reads
returns-in-Err-clause-reads c =
    let before = c.args.root.now ∷ c.args.stack.now.items in
    let many : length before ≡ length c.as_slice.result.now + 1 = counted c.args.root.now c.args.stack.now.items c.as_slice.result.now c.as_slice.ensures.value in
    subst (λ o. Meets o c.in-Err.stop) (sym (content_open (length before) c.args.at c.blanks_end-open_at.result (between none before) c.args.bytes.now c.blanks_end-open_at.ensures (omega (arith, c.blanks_end-open_at.ensures.high, c.if-open_at-bytes.false)) c.if-bytes-open_at-ne60.false ∙ ap (λ d. run_at places.Open d (between none before) (c.blanks_end-open_at.result + 1) c.args.bytes.now) many)) (c.in-Err.ensures.reads none before many)

pub returns-in-Ok-add_last-clause-reads : goal.returns-in-Ok-add_last-clause-reads
returns-in-Ok-add_last-clause-reads c =
    let before = c.args.root.now ∷ c.args.stack.now.items in
    let many : length before ≡ length c.as_slice.result.now + 1 = counted c.args.root.now c.args.stack.now.items c.as_slice.result.now c.as_slice.ensures.value in
    let element = c.in-Ok.read.0 in
    let to = c.in-Ok.read.2 in
    (content_open (length before) c.args.at c.blanks_end-open_at.result (between none before) c.args.bytes.now c.blanks_end-open_at.ensures (omega (arith, c.blanks_end-open_at.ensures.high, c.if-open_at-bytes.false)) c.if-bytes-open_at-ne60.false)
    ∙ ap (λ d. run_at places.Open d (between none before) (c.blanks_end-open_at.result + 1) c.args.bytes.now) many
    ∙ c.in-Ok.ensures.reads none before many
    ∙ ap (λ b. tag_ended b none before element (length c.as_slice.result.now + 1) to c.args.bytes.now) c.if-is_empty.true
    ∙ ap (λ d. run_at (after_element d) d (ended none before element) to c.args.bytes.now) (sym many)
    ∙ again before element to c.args.bytes.now (omega arith)
    ∙ ap (λ s. in_content s to c.args.bytes.now) (sym c.in-Ok-add_last.ensures)

pub returns-clause-reads : goal.returns-clause-reads
returns-clause-reads c =
    let before = c.args.root.now ∷ c.args.stack.now.items in
    let many : length before ≡ length c.as_slice.result.now + 1 = counted c.args.root.now c.args.stack.now.items c.as_slice.result.now c.as_slice.ensures.value in
    let element = c.in-Ok.read.0 in
    let to = c.in-Ok.read.2 in
    elim c.match-push.branch [
      | in-Ok-push w ↦ subst (λ r. ReadsMarkup c.args.bytes.now c.args.at before c.args.root.now c.push.new.self.items r) (sym w.result-is) (
          (content_open (length before) c.args.at c.blanks_end-open_at.result (between none before) c.args.bytes.now c.blanks_end-open_at.ensures (omega (arith, c.blanks_end-open_at.ensures.high, c.if-open_at-bytes.false)) c.if-bytes-open_at-ne60.false)
          ∙ ap (λ d. run_at places.Open d (between none before) (c.blanks_end-open_at.result + 1) c.args.bytes.now) many
          ∙ c.in-Ok.ensures.reads none before many
          ∙ ap (λ b. tag_ended b none before element (length c.as_slice.result.now + 1) to c.args.bytes.now) c.if-is_empty.false
          ∙ ap (λ d. run_at places.Content (d + 1) (between none (before ++ element ∷ [])) to c.args.bytes.now) (sym many)
          ∙ opened before element to c.args.bytes.now (c.args.root.now ∷ c.push.new.self.items) (ap (λ l. c.args.root.now ∷ l) w.in-Ok-push.ensures.items)
          )
      | in-Err-push w ↦ subst (λ r. ReadsMarkup c.args.bytes.now c.args.at before c.args.root.now c.push.new.self.items r) (sym w.result-is) tt
    ]
