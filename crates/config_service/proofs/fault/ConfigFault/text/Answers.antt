use Rattle.std.proofs.Common.{◌≡◌, ◌∙◌, ◌<◌, ◌^◌, sym, subst, append_assoc, List, ℕ, rules}
use Rattle.std.specs.Prelude.{codes}
use Rattle.std.specs.Fmt.{decimal}
use Rattle.line_base.specs.Text.{IsText}
use Rattle.config_service.specs.Texts.{refusal_text, fault_text}
use Rattle.config_service.proofs.Refusals.{IsText_refusal}
use Rattle.config_service.proofs.fault.ConfigFault.text.Goals as goal

pub of-requires : goal.of-requires
of-requires c =
    let text : c.as_slice.result.now ≡ refusal_text c.args.self c.args.at = rw c.new-bytes.ensures.items at (c.as_slice.ensures.value ∙ c.in-Ok.ensures.bytes) ∙ sym (append_assoc (fault_text c.args.self) (codes " at ") (decimal c.args.at)) in
    let small : c.args.at < 2 ^ 64 = search rules in
    let P : List ℕ → Type 0 = IsText in
    subst P (sym text) (IsText_refusal c.args.self c.args.at small)
