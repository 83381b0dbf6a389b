-- WHERE THE RECORD OF A BOARD STANDS, by its marks on some lanes: nowhere, where it has no mark; with
-- marks that give no standing; or at a standing, with its lane.
use Rattle.std.specs.Prelude.{ℕ, List, [], ◌∷◌, Option, Some, None}
use Rattle.standings.specs.Standing.{standing_of}
use Rattle.standings.specs.declared.mark.Mark.{Mark}
use Rattle.standings.specs.declared.standing.Standing.{Standing}
use Rattle.line_marks.specs.declared.seat.Seat.{Seat}
use Rattle.line_marks.specs.declared.seat.Seat.TheVariants.{Nowhere, Unclear, At}

abbrev pub seat_at : ℕ → Option Standing → Seat
seat_at lane None = Unclear
seat_at lane (Some standing) = At (record { lane = lane; standing = standing })

-- what marks on one lane give
abbrev pub own_seat : ℕ → List Mark → Seat
own_seat lane [] = Nowhere
own_seat lane (mark ∷ marks) = seat_at lane (standing_of (mark ∷ marks))

-- what there is on some lanes and on others: marks here and there give no standing
abbrev pub both : Seat → Seat → Seat
both Nowhere other = other
both one Nowhere = one
both one other = Unclear
