use Rattle.book_entry.proofs.Numbers.{millis_is, millis_moment, millis_within}
use Rattle.book_entry.proofs.number.millis_in.Goals as goal

pub returns : goal.returns
returns c =
    let is = millis_is c.args.bytes.now c.front_value-least.result c.front_value-greatest.result c.meets_moments.result c.judged.result c.front_value-least.ensures c.front_value-greatest.ensures c.meets_moments.ensures c.judged.ensures in
    record {
      found = is;
      within = millis_within c.args.bytes.now c.judged.result c.slice_is_proper.ensures is;
      moment = millis_moment c.args.bytes.now c.judged.result c.slice_is_proper.ensures is;
    }
