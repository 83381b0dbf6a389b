use Rattle.std.proofs.Common.{◌++◌, ℕ, List, ap, ◌∙◌}
use Rattle.canonical_frames.specs.Pieces.{kind_of_form}
use Rattle.canonical_frames.proofs.Values.{assigned_value, assigned_none}
use Rattle.canonical_frames.proofs.Lists.{more}
use Rattle.canonical_frames.proofs.row.behind_attribute.Goals as goal

pub returns-in-Some : goal.returns-in-Some
returns-in-Some c = more c.behind_value.result _ _ (λ rest h. assigned_value (record { attr = c.args.attr; required = c.args.required; kind = kind_of_form c.args.form }) c.args.bytes.now c.in-Some.value.now rest.now (c.in-Some.ensures ∙ ap (λ (t : List ℕ). t ++ c.in-Some.value.now) (c.as_bytes.ensures.value ∙ c.opening.ensures)) h) c.behind_value.ensures

pub returns-else-required : goal.returns-else-required
returns-else-required c = assigned_none (record { attr = c.args.attr; required = c.args.required; kind = kind_of_form c.args.form }) c.args.bytes.now c.if-required.false
