use Rattle.book_entry.proofs.number.+front_value.Given as goal

abbrev pub decreases-front_value : goal.decreases-front_value
decreases-front_value l = l.width
