use Rattle.book_entry.proofs.Numbers.{number_is, number_least, number_most, start_fits}
use Rattle.book_entry.proofs.number.number_in.Goals as goal

pub front_value-least-requires : goal.front_value-least-requires
front_value-least-requires c = start_fits c.args.width c.requires

pub front_value-greatest-requires : goal.front_value-greatest-requires
front_value-greatest-requires c = start_fits c.args.width c.requires

pub returns : goal.returns
returns c =
    let is = number_is c.args.width c.args.lowest c.args.highest c.args.bytes.now c.front_value-least.result c.front_value-greatest.result c.meets-passes.result c.judged.result c.front_value-least.ensures c.front_value-greatest.ensures c.meets-passes.ensures c.judged.ensures in
    record {
      found = is;
      least = number_least c.args.width c.args.lowest c.args.highest c.args.bytes.now c.judged.result is;
      most = number_most c.args.width c.args.lowest c.args.highest c.args.bytes.now c.judged.result is;
    }
