use Rattle.std.proofs.Common.{ℕ, List, Option, option_map, ◌++◌, ap, ◌∙◌}
use Rattle.std.proofs.lemmas.Result.{on_ok_weaker}
use Rattle.hermes_horizontal.specs.Canonical.{assignment, assignment_if}
use Rattle.hermes_horizontal.specs.Values.{Value, worded, numbered}
use Rattle.hermes_horizontal.specs.declared.attr.Attr.TheVariants as attrs
use Rattle.hermes_horizontal.proofs.SubsSpelled.{lent_text, sub_written}
use Rattle.hermes_horizontal.proofs.subs.append_sub.Goals as goal

pub returns-clause-written : goal.returns-clause-written
returns-clause-written c =
    let barcode = lent_text c.as_ref.result ∙ ap (λ (text : Option (List ℕ)). option_map worded text) c.as_ref.ensures.value in
    on_ok_weaker c.append-2.result
    (λ e. sub_written c.args.sub.now
    c.args.to.now.items c.append.new.to.items c.append_number.new.to.items c.append_optional_text.new.to.items c.append_number-2.new.to.items c.append-2.new.to.items
    c.in_ok-append.ensures.written c.in_ok-append_number.ensures.written (c.in_ok-append_optional_text.ensures.written ∙ ap (λ (value : Option Value). c.append_number.new.to.items ++ assignment_if attrs.Bc value) barcode)
    (c.in_ok-append_number-2.ensures.written ∙ ap (λ (n : ℕ). c.append_optional_text.new.to.items ++ assignment attrs.St (numbered n)) c.quality_number.ensures) e)
    c.append-2.ensures.written
