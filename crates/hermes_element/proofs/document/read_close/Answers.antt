use Rattle.std.proofs.Common.{◌≡◌, ◌∷◌, ◌++◌, [], length, ap, sym, ◌∙◌, arith, subst, refl}
use Rattle.std.proofs.lemmas.List.{nil_from_length}
use Rattle.hermes_element.specs.Element.{none}
use Rattle.hermes_element.specs.Steps.{Meets, in_close, in_content}
use Rattle.hermes_element.proofs.Roots.{closing, again, last_closed}
use Rattle.hermes_element.proofs.document.read_close.Goals as goal

pub returns-in-Ok-clause-reads : goal.returns-in-Ok-clause-reads
returns-in-Ok-clause-reads c =
    ap (λ s. in_close (c.args.root.now ∷ s) c.args.at c.args.bytes.now) (nil_from_length c.args.stack.now.items (search (c.in-None.ensures.cases.0)))
    ∙ c.in-Ok.ensures.reads 0 none []
    ∙ last_closed [] c.args.root.now c.in-Ok.end c.args.bytes.now refl

pub returns-in-Err-clause-reads : goal.returns-in-Err-clause-reads
returns-in-Err-clause-reads c =
    subst (λ s. Meets (in_close (c.args.root.now ∷ s) c.args.at c.args.bytes.now) c.in-Err.stop) (sym (nil_from_length c.args.stack.now.items (search (c.in-None.ensures.cases.0)))) (c.in-Err.ensures.reads 0 none [])

pub returns-in-Err-read_end_tag-clause-reads : goal.returns-in-Err-read_end_tag-clause-reads
returns-in-Err-read_end_tag-clause-reads c =
    let below = c.args.root.now ∷ c.pop.new.self.items in
    let open_is : c.args.root.now ∷ c.args.stack.now.items ≡ below ++ c.in-Some.top ∷ [] = ap (λ l. c.args.root.now ∷ l) c.in-Some.ensures.items in
    subst (λ o. Meets o c.in-Err-read_end_tag.stop) (sym (closing (c.args.root.now ∷ c.args.stack.now.items) below c.in-Some.top c.args.at c.args.bytes.now open_is)) (c.in-Err-read_end_tag.ensures.reads (length below) none below)

pub returns-in-Ok-add_last-clause-reads : goal.returns-in-Ok-add_last-clause-reads
returns-in-Ok-add_last-clause-reads c =
    let below = c.args.root.now ∷ c.pop.new.self.items in
    let open_is : c.args.root.now ∷ c.args.stack.now.items ≡ below ++ c.in-Some.top ∷ [] = ap (λ l. c.args.root.now ∷ l) c.in-Some.ensures.items in
    closing (c.args.root.now ∷ c.args.stack.now.items) below c.in-Some.top c.args.at c.args.bytes.now open_is
    ∙ c.in-Ok-read_end_tag.ensures.reads (length below) none below
    ∙ again below c.in-Some.top c.in-Ok-read_end_tag.end c.args.bytes.now (omega arith)
    ∙ ap (λ s. in_content s c.in-Ok-read_end_tag.end c.args.bytes.now) (sym c.in-Ok-add_last.ensures)
