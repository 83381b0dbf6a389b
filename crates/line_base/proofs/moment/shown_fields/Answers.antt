use Rattle.std.proofs.Common.{refl}
use Rattle.line_base.proofs.Forms.{seconds_digits}
use Rattle.line_base.proofs.moment.shown_fields.Goals as goal

pub number_at-requires-clause-digits : goal.number_at-requires-clause-digits
number_at-requires-clause-digits c = seconds_digits 0 4 c.args.seconds.now c.requires.form refl

pub number_at-requires-2-clause-digits : goal.number_at-requires-2-clause-digits
number_at-requires-2-clause-digits c = seconds_digits 5 2 c.args.seconds.now c.requires.form refl

pub number_at-requires-3-clause-digits : goal.number_at-requires-3-clause-digits
number_at-requires-3-clause-digits c = seconds_digits 8 2 c.args.seconds.now c.requires.form refl

pub number_at-requires-4-clause-digits : goal.number_at-requires-4-clause-digits
number_at-requires-4-clause-digits c = seconds_digits 11 2 c.args.seconds.now c.requires.form refl

pub number_at-requires-5-clause-digits : goal.number_at-requires-5-clause-digits
number_at-requires-5-clause-digits c = seconds_digits 14 2 c.args.seconds.now c.requires.form refl

pub number_at-requires-6-clause-digits : goal.number_at-requires-6-clause-digits
number_at-requires-6-clause-digits c = seconds_digits 17 2 c.args.seconds.now c.requires.form refl
