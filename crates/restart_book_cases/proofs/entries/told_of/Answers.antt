use Rattle.restart_book_cases.proofs.entries.told_of.Goals as goal

pub told_again-requires : goal.told_again-requires
told_again-requires c =
    let is = c.in-Ok.ensures.answer.entry_is in
    record { events = is.events; short = is.short }
