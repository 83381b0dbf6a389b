-- What is done by hand: boards are put in, taken out, replaced and marked, get circuits of a panel,
-- drives fail, and the will changes.
use Rattle.std.specs.Prelude.{◌≡◌, ◌<◌, ℕ, Bool, true, false, List, [], ◌∷◌, ◌++◌, ◌==◌, Option, None, Some, length, not, remove, slice_get, slice_set, if◌then◌else◌}
use Rattle.line_base.specs.declared.states.Side.{Side}
use Rattle.line_base.specs.declared.states.Side.TheVariants.{Entry, Exit}
use Rattle.line_base.specs.declared.states.Quality.{Quality}
use Rattle.board_record.specs.declared.record.Record.{Record}
use Rattle.board_record.specs.Record.{plain_record}
use Rattle.board_record.specs.Kept.{is_full_at, with_quality, with_sub as with_sub_at}
use Rattle.board_record.specs.SubBoards.{is_full}
use Rattle.board_record.specs.declared.sub_board.SubBoard.{SubBoard}
use Rattle.handover_out.specs.declared.input.OutInput.TheVariants as out_input
use Rattle.handover_in.specs.declared.input.InInput.TheVariants as in_input
use Rattle.node_core.specs.declared.act.Act.{Act}
use Rattle.node_core.specs.declared.act.Act.TheVariants as acts
use Rattle.node_core.specs.declared.act.Setting.TheVariants as settings
use Rattle.node_core.specs.Desk.{Desk}
use Rattle.node_core.specs.declared.lane.Body.{Body}
use Rattle.node_core.specs.Done.{Done, done, stays}
use Rattle.node_core.specs.Sides.{with_will}
use Rattle.node_core.specs.Halves.{at_outlet, at_intake}

-- ---- the first record of an id

-- there is one, and it passes a test
abbrev pub first_passes : ℕ → (Record → Bool) → List Record → Bool
first_passes id test [] = false
first_passes id test (board ∷ boards) =
    if board.id == id then test board else first_passes id test boards

abbrev pub is_kept : ℕ → List Record → Bool
is_kept id kept = first_passes id (λ _. true) kept

-- it has room for a circuit more
abbrev pub takes_sub : ℕ → SubBoard → List Record → Bool
takes_sub id sub kept = first_passes id (λ board. not (is_full board.subs sub)) kept

-- and that record
abbrev pub first_kept : ℕ → List Record → Option Record
first_kept id [] = None
first_kept id (board ∷ boards) =
    if board.id == id then Some board else first_kept id boards

-- the records without it
abbrev pub without : ℕ → List Record → List Record
without id [] = []
without id (board ∷ boards) = if board.id == id then boards else board ∷ without id boards

-- the records with the first of an id changed so
abbrev pub with_changed : ℕ → (Record → Record) → List Record → List Record
with_changed id change [] = []
with_changed id change (board ∷ boards) =
    if board.id == id then change board ∷ boards else board ∷ with_changed id change boards

-- the records with another in its place
abbrev pub with_instead : ℕ → Record → List Record → List Record
with_instead id other kept = with_changed id (λ _. other) kept

-- the records with its quality changed
abbrev pub with_mark : ℕ → Quality → List Record → List Record
with_mark id quality kept = with_changed id (λ board. record board { quality = quality }) kept

-- the records with one circuit more of it, behind those that it has
abbrev pub with_sub : ℕ → SubBoard → List Record → List Record
with_sub id sub kept = with_changed id (λ board. record board { subs = board.subs ++ sub ∷ [] }) kept

-- the first record of an id stands at this place
pub record IsFirstAt (id : ℕ) (kept : List Record) (place : ℕ) : Type 0 where
  pub within : place < length kept
  pub is_kept : is_kept id kept ≡ true
  pub found : slice_get kept place ≡ first_kept id kept
  pub removed : remove kept place ≡ without id kept
  pub replaced : (other : Record) → slice_set kept place other ≡ with_instead id other kept
  pub marked : (quality : Quality) → with_quality kept place quality ≡ with_mark id quality kept
  pub subbed : (sub : SubBoard) → with_sub_at kept place sub ≡ with_sub id sub kept
  pub roomy : (sub : SubBoard) → takes_sub id sub kept ≡ not (is_full_at kept place sub)

abbrev pub with_kept : List Record → Body → Body
with_kept kept body = record body { kept = kept }

-- only where the test passes: that a record of this id is kept, or has room
abbrev pub if_kept : Bool → Body → Act → Body → Done
if_kept true after act body = done after (act ∷ [])
if_kept false after act body = stays body

-- ---- the micro events

-- THE MICRO EVENT: a board is put in at the back
abbrev pub inserts : Desk → ℕ → Option (List ℕ) → Body → Done
inserts desk id barcode body =
    done (with_kept (body.kept ++ plain_record id desk.name barcode ∷ []) body)
    (acts.Inserts id ∷ [])

-- THE MICRO EVENT: a board is taken out
abbrev pub removes : ℕ → Body → Done
removes id body =
    if_kept (is_kept id body.kept) (with_kept (without id body.kept) body) (acts.Removes id) body

-- THE MICRO EVENT: another board, with a new id and no barcode, comes into the place of a board
abbrev pub replaces : Desk → ℕ → ℕ → Body → Done
replaces desk old new body =
    if_kept (is_kept old body.kept)
    (with_kept (with_instead old (plain_record new desk.name None) body.kept) body)
    (acts.Replaces old new) body

-- THE MICRO EVENT: a board is known to be good or failed
abbrev pub marks : ℕ → Quality → Body → Done
marks id quality body =
    if_kept (is_kept id body.kept) (with_kept (with_mark id quality body.kept) body)
    (acts.Marks id quality) body

-- THE MICRO EVENT: a board has a circuit more, where its record has room for it
abbrev pub adds_sub : ℕ → SubBoard → Body → Done
adds_sub id sub body =
    if_kept (takes_sub id sub body.kept) (with_kept (with_sub id sub body.kept) body)
    (acts.Subs id sub.pos) body

-- THE MICRO EVENT: the drive of a side fails
abbrev pub faults : Desk → Side → Body → Done
faults desk Entry body = at_intake desk in_input.Fault body
faults desk Exit body = at_outlet desk out_input.Fault body

-- THE MICRO EVENT: the machine's will at a side changes
abbrev pub wills : Side → Bool → Body → Done
wills side on body = done (with_will side on body) (acts.Sets (settings.Will side on) ∷ [])

-- THE MICRO EVENT: a board goes to another lane
abbrev pub gives : ℕ → ℕ → Body → Done
gives id to body =
    if_kept (is_kept id body.kept) (with_kept (without id body.kept) body) (acts.Gives id to) body

-- THE MICRO EVENT: a board comes from another lane, to the back
abbrev pub gets : Record → Body → Done
gets board body = done (with_kept (body.kept ++ board ∷ []) body) (acts.Gets board.id ∷ [])
