use Rattle.std.proofs.Common.{false, sym, ap, ◌∙◌, subst}
use Rattle.std.proofs.lemmas.Bool.{false≢true}
use Rattle.line_base.specs.Text.{IsAllowed}
use Rattle.hermes_element.specs.Plain.{is_quote}
use Rattle.hermes_element.proofs.Texts.{allowed_char}
use Rattle.hermes_element.proofs.Puts.{puts_allowed}
use Rattle.hermes_element.proofs.value.read_escape.Goals as goal

pub returns-in-Ok-clause-allowed : goal.returns-in-Ok-clause-allowed
returns-in-Ok-clause-allowed c =
    let text = c.as_bytes.ensures.value ∙ c.encode_utf8.ensures.value in
    puts_allowed c.args.value.now.items c.as_bytes.result.now c.put.new.value.items c.in-Ok.next false c.put.result c.put.ensures
    (subst IsAllowed (sym text) (allowed_char c.in-Ok.found c.in-Ok.ensures.allowed))

pub returns-in-Err-clause-reads : goal.returns-in-Err-clause-reads
returns-in-Err-clause-reads c =
    λ after_cr depth start key b. c.in-Err.ensures.reads c.args.quote depth start key c.args.value.now.items after_cr b (λ e. false≢true (ap is_quote e ∙ c.requires.quote))
