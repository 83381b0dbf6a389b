-- What the report shows of all machines, and the standings that a line changed.
use Rattle.std.specs.Prelude.{ℕ, ◌+◌, ◌==◌, ◌++◌, List, [], ◌∷◌, Option, Some, None, nat_lt, if◌then◌else◌}
use Rattle.std.specs.List.{flat_map}
use Rattle.board_record.specs.declared.record.Record.{Record}
use Rattle.node_core.specs.Node.{NodeState}
use Rattle.node_core.specs.Own.{own_of}
use Rattle.standings.specs.Marks.{Owned}
use Rattle.standings.specs.Told.{told_of}
use Rattle.standings.specs.declared.told.Told.{Told}
use Rattle.standings.specs.declared.told.Told.TheVariants as tolds
use Rattle.line_step.specs.State.{LineState, marks_in, owned}
use Rattle.line_report.specs.declared.happening.Happening.{Happening}
use Rattle.line_report.specs.declared.happening.Happening.TheVariants as happenings

-- ---- show

abbrev pub kept_shown : ℕ → List Record → List Happening
kept_shown machine [] = []
kept_shown machine (board ∷ boards) =
    happenings.Shown machine board.id board.quality ∷ kept_shown machine boards

-- the board between two machines: the one that the upper outlet holds, and the one that the lower
-- intake holds where it is another
abbrev pub between_shown : ℕ → Option ℕ → Option ℕ → List Happening
between_shown gap None None = []
between_shown gap None (Some below) = happenings.ShownBetween gap below ∷ []
between_shown gap (Some above) None = happenings.ShownBetween gap above ∷ []
between_shown gap (Some above) (Some below) =
    happenings.ShownBetween gap above ∷
    (if above == below then [] else happenings.ShownBetween gap below ∷ [])

-- the board that the next machine's intake holds
abbrev pub taken_below : List NodeState → Option ℕ
taken_below [] = None
taken_below (node ∷ nodes) = (own_of node.lane.body).taking

abbrev pub shown_from : ℕ → List NodeState → List Happening
shown_from machine [] = []
shown_from machine (node ∷ nodes) =
    kept_shown machine node.lane.body.kept
    ++ (between_shown machine (own_of node.lane.body).held (taken_below nodes)
    ++ shown_from (machine + 1) nodes)

abbrev pub shown : LineState → List Happening
shown s = shown_from 1 s.machines

-- ---- standings

-- all ids in ascending order, each once
abbrev pub with_id : ℕ → List ℕ → List ℕ
with_id id [] = id ∷ []
with_id id (first ∷ ids) =
    if nat_lt id first then id ∷ first ∷ ids else
    (if id == first then first ∷ ids else first ∷ with_id id ids)

abbrev pub ascending : List ℕ → List ℕ
ascending [] = []
ascending (id ∷ ids) = with_id id (ascending ids)

abbrev pub one_id : Option ℕ → List ℕ
one_id None = []
one_id (Some id) = id ∷ []

abbrev pub ids_owned : Owned → List ℕ
ids_owned own = own.kept ++ (one_id own.held ++ one_id own.taking)

-- the ids that have a mark
abbrev pub ids_marked : LineState → List ℕ
ids_marked s = flat_map ids_owned (owned s)

abbrev pub standing_told : ℕ → Option Told → List Happening
standing_told id None = []
standing_told id (Some (tolds.With machine)) = happenings.With machine id ∷ []
standing_told id (Some (tolds.Between gap)) = happenings.Between gap id ∷ []
standing_told id (Some tolds.Gone) = happenings.Gone id ∷ []

-- the standings that changed from a state to another, in ascending order of id
abbrev pub standings_told : LineState → LineState → List Happening
standings_told before after =
    flat_map (λ id. standing_told id (told_of (marks_in before id) (marks_in after id)))
    (ascending (ids_marked before ++ ids_marked after))
