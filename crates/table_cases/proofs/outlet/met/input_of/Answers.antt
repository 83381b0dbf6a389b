use Rattle.table_cases.proofs.outlet.met.input_of.Goals as goal

pub returns : goal.returns
returns c = c.plain_input.ensures c.args.outlet.now
