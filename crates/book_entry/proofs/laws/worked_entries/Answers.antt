use Rattle.std.proofs.Common.{refl}
use Rattle.book_entry.specs.Numbers.{front_value, millis_in, number_in}
use Rattle.book_entry.specs.Reading.{body_in, counted_in, entry_in, events_in, input_in, listed_in}
use Rattle.book_entry.proofs.laws.worked_entries.Goals as goal

pub returns-clause-accepted_is_read : goal.returns-clause-accepted_is_read
unfolding front_value millis_in number_in body_in counted_in entry_in events_in listed_in input_in
returns-clause-accepted_is_read c = refl

pub returns-clause-notice_is_read : goal.returns-clause-notice_is_read
unfolding front_value millis_in number_in body_in counted_in entry_in events_in listed_in input_in
returns-clause-notice_is_read c = refl
