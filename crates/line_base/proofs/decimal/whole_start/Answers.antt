use Rattle.std.proofs.Common.{sym, arith}
use Rattle.line_base.proofs.Written.{decimal_of_1, decimal_of_2, decimal_of_3, decimal_of_4, decimal_of_5, decimal_of_6}
use Rattle.line_base.proofs.decimal.whole_start.Goals as goal

pub returns-in-0-to-9-clause-text : goal.returns-in-0-to-9-clause-text
returns-in-0-to-9-clause-text c = sym (decimal_of_1 c.args.whole (omega arith))

pub returns-in-10-to-99-clause-text : goal.returns-in-10-to-99-clause-text
returns-in-10-to-99-clause-text c = sym (decimal_of_2 c.args.whole (omega arith) (omega arith))

pub returns-in-100-to-999-clause-text : goal.returns-in-100-to-999-clause-text
returns-in-100-to-999-clause-text c = sym (decimal_of_3 c.args.whole (omega arith) (omega arith))

pub returns-in-1000-to-9999-clause-text : goal.returns-in-1000-to-9999-clause-text
returns-in-1000-to-9999-clause-text c = sym (decimal_of_4 c.args.whole (omega arith) (omega arith))

pub returns-in-10000-to-99999-clause-text : goal.returns-in-10000-to-99999-clause-text
returns-in-10000-to-99999-clause-text c = sym (decimal_of_5 c.args.whole (omega arith) (omega arith))

pub returns-in_default-clause-text : goal.returns-in_default-clause-text
returns-in_default-clause-text c = sym (decimal_of_6 c.args.whole (omega arith) (omega arith))
