use Rattle.std.proofs.Common.{IfSome, subst, sym}
use Rattle.canonical_frames.specs.Pieces.{IsValue, kind_of_form}
use Rattle.canonical_frames.specs.declared.form.Form.{Form}
use Rattle.canonical_frames.proofs.form.behind_value.Goals as goal

pub returns-in-Text : goal.returns-in-Text
returns-in-Text c = subst (λ (form : Form). IfSome c.behind_text.result (λ rest. IsValue (kind_of_form form) c.args.bytes.now rest.now)) (sym c.in-Text.is) c.behind_text.ensures

pub returns-in-Number : goal.returns-in-Number
returns-in-Number c = subst (λ (form : Form). IfSome c.behind_number.result (λ rest. IsValue (kind_of_form form) c.args.bytes.now rest.now)) (sym c.in-Number.is) c.behind_number.ensures

pub returns-in-Choice : goal.returns-in-Choice
returns-in-Choice c = subst (λ (form : Form). IfSome c.behind_choice.result (λ rest. IsValue (kind_of_form form) c.args.bytes.now rest.now)) (sym c.in-Choice.is) c.behind_choice.ensures

pub returns-in-Id : goal.returns-in-Id
returns-in-Id c = subst (λ (form : Form). IfSome c.behind_id.result (λ rest. IsValue (kind_of_form form) c.args.bytes.now rest.now)) (sym c.in-Id.is) c.behind_id.ensures

pub returns-in-Decimal : goal.returns-in-Decimal
returns-in-Decimal c = subst (λ (form : Form). IfSome c.behind_decimal.result (λ rest. IsValue (kind_of_form form) c.args.bytes.now rest.now)) (sym c.in-Decimal.is) c.behind_decimal.ensures

pub returns-in-Moment : goal.returns-in-Moment
returns-in-Moment c = subst (λ (form : Form). IfSome c.behind_moment.result (λ rest. IsValue (kind_of_form form) c.args.bytes.now rest.now)) (sym c.in-Moment.is) c.behind_moment.ensures
