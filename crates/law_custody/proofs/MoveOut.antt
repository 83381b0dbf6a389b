-- A board begins and leaves.
use Rattle.std.proofs.Common.{Bool, List, Option, Some, [], false, true, ℕ, ◌++◌, ◌∷◌}
use Rattle.line_base.specs.declared.states.SensorEvent.{SensorEvent}
use Rattle.line_base.specs.declared.states.SensorEvent.TheVariants as event
use Rattle.board_record.specs.declared.record.Record.{Record}
use Rattle.session_core.specs.declared.state.SessionState.{SessionState}
use Rattle.line_world.specs.declared.board.Board.{Board}
use Rattle.line_world.specs.declared.gap.Gap.{Gap}
use Rattle.line_world.specs.declared.gap.Gap.TheVariants as gaps
use Rattle.handover_out.specs.declared.phase.Phase.{Phase as Out}
use Rattle.handover_out.specs.declared.phase.Phase.TheVariants as out
use Rattle.handover_in.specs.declared.phase.Phase.{Phase as In}
use Rattle.law_custody.specs.Apart.{exit_called_stuck, exit_described_stuck, exit_none_stuck, exit_shaking_stuck, exit_stop_sent, exit_stuck, exit_stuck_stop_sent, exit_transporting}
use Rattle.law_custody.specs.Floor.{AllTaken, EntryFloor, ExitFloor, GapAt, NoFull, at_start, begun_read, begun_unread, both_unread, gap_begun, gap_left, in_free, in_stopped, in_taken_in, in_taking, in_waiting, left_unread, more_taken, no_full_back, no_full_begun, no_full_none, no_full_taken, none_taken, on_across, on_begun, sees_across, sees_begun, sees_fresh}
use Rattle.law_custody.specs.Place.{Across, Fresh, InGap, Place, beyond_across, not_across_in_gap}
use Rattle.law_custody.specs.Shape.{stop_sent, stuck_stop_heard, stuck_stop_sent, stuck_transporting, transporting}
use Rattle.law_custody.specs.Talks.{Talks, apart, live, shaking_stuck, shaking_stuck_waiting}
use Rattle.law_custody.specs.Words.{DownWord, UpWord}
use Rattle.law_custody.proofs.Sides.{replaced}

-- the floor and the link after a move
pub record Moved (b : Bool) (x : SessionState) (o : Out) (of : Option ℕ) (rd : Bool) (y : SessionState) (i : In) (f : Option Record) (ri : Bool) (r : Record) (up : List UpWord) (down : List DownWord) (ue un : List SensorEvent) (xd ed : Bool) (g : Gap) (place : Place) : Type 0 where
  pub out : ExitFloor o ue xd place r
  pub «in» : EntryFloor i un ed place r
  pub gap : GapAt g place r
  pub talk : Talks b x o of rd y i f ri place up down

-- while the outlet holds a board, nothing that is in flight speaks of its place
pub moving_place : {b : Bool} {x y : SessionState} {of : Option ℕ} {rd : Bool} {i : In} {f : Option Record} {ri : Bool} {p : Place} {up : List UpWord} {down : List DownWord} {q : Record} {c : Bool} {p2 : Place}
    → Talks b x (out.Moving q c) of rd y i f ri p up down → Talks b x (out.Moving q c) of rd y i f ri p2 up down
moving_place (live (transporting c)) = live (transporting c)
moving_place (live (stop_sent c)) = live (stop_sent c)
moving_place (apart exit_transporting c) = apart exit_transporting (replaced c)
moving_place (apart exit_stop_sent c) = apart exit_stop_sent (replaced c)

pub stuck_place : {b : Bool} {x y : SessionState} {of : Option ℕ} {rd : Bool} {i : In} {f : Option Record} {ri : Bool} {p : Place} {up : List UpWord} {down : List DownWord} {q : Record} {l s : Bool} {p2 : Place}
    → Talks b x (out.Stuck q l s) of rd y i f ri p up down → Talks b x (out.Stuck q l s) of rd y i f ri p2 up down
stuck_place (live (stuck_transporting c)) = live (stuck_transporting c)
stuck_place (live (stuck_stop_sent c)) = live (stuck_stop_sent c)
stuck_place (live (stuck_stop_heard c)) = live (stuck_stop_heard c)
stuck_place shaking_stuck = shaking_stuck
stuck_place shaking_stuck_waiting = shaking_stuck_waiting
stuck_place (apart exit_none_stuck c) = apart exit_none_stuck (replaced c)
stuck_place (apart exit_called_stuck c) = apart exit_called_stuck (replaced c)
stuck_place (apart exit_shaking_stuck c) = apart exit_shaking_stuck (replaced c)
stuck_place (apart exit_described_stuck c) = apart exit_described_stuck (replaced c)
stuck_place (apart exit_stuck c) = apart exit_stuck (replaced c)
stuck_place (apart exit_stuck_stop_sent c) = apart exit_stuck_stop_sent (replaced c)

-- events that come behind others
pub not_full_begun : {es : List SensorEvent} → NoFull es → NoFull (es ++ (event.Begun ∷ []))
not_full_begun no_full_none = no_full_begun no_full_none
not_full_begun (no_full_begun n) = no_full_begun (not_full_begun n)
not_full_begun (no_full_back n) = no_full_back (not_full_begun n)
not_full_begun (no_full_taken n) = no_full_taken (not_full_begun n)

pub not_full_back : {es : List SensorEvent} → NoFull es → NoFull (es ++ (event.Back ∷ []))
not_full_back no_full_none = no_full_back no_full_none
not_full_back (no_full_begun n) = no_full_begun (not_full_back n)
not_full_back (no_full_back n) = no_full_back (not_full_back n)
not_full_back (no_full_taken n) = no_full_taken (not_full_back n)

pub not_full_taken : {es : List SensorEvent} → NoFull es → NoFull (es ++ (event.Taken ∷ []))
not_full_taken no_full_none = no_full_taken no_full_none
not_full_taken (no_full_begun n) = no_full_begun (not_full_taken n)
not_full_taken (no_full_back n) = no_full_back (not_full_taken n)
not_full_taken (no_full_taken n) = no_full_taken (not_full_taken n)

pub all_taken_more : {es : List SensorEvent} → AllTaken es → AllTaken (es ++ (event.Taken ∷ []))
all_taken_more none_taken = more_taken none_taken
all_taken_more (more_taken n) = more_taken (all_taken_more n)

pub in_begins : {i : In} {un : List SensorEvent} {ed : Bool} {r : Record} → EntryFloor i un ed Fresh r → EntryFloor i (un ++ (event.Begun ∷ [])) ed InGap r
in_begins (in_free a n) = in_free (not_full_begun a) not_across_in_gap
in_begins (in_taking sees_fresh) = in_taking sees_begun
in_begins (in_taken_in s) = elim s [ ]
in_begins (in_stopped sees_fresh) = in_stopped sees_begun
in_begins (in_waiting sees_fresh) = in_waiting sees_begun

pub move_begin : {b : Bool} {x y : SessionState} {o : Out} {of : Option ℕ} {rd : Bool} {i : In} {f : Option Record} {ri : Bool} {p : Place} {r : Record} {up : List UpWord} {down : List DownWord} {ue un : List SensorEvent} {ed : Bool}
    → ExitFloor o ue true p r → EntryFloor i un ed p r → GapAt gaps.Free p r → Talks b x o of rd y i f ri p up down
    → Moved b x o of rd y i f ri r up down (ue ++ (event.Begun ∷ [])) (un ++ (event.Begun ∷ [])) true ed (gaps.Begun (record { id = Some r.id })) InGap
move_begin at_start n g k = record { out = begun_unread; «in» = in_begins n; gap = gap_begun; talk = moving_place k }
move_begin begun_unread n g k = elim g [ ]
move_begin begun_read n g k = elim g [ ]

pub in_leaves : {i : In} {un : List SensorEvent} {r : Record} → EntryFloor i un true InGap r → EntryFloor i un true Across r
in_leaves (in_taking sees_begun) = in_taking sees_across
in_leaves (in_taking on_begun) = in_taking on_across

pub move_left : {b : Bool} {x y : SessionState} {o : Out} {of : Option ℕ} {rd : Bool} {i : In} {f : Option Record} {ri : Bool} {p : Place} {r : Record} {up : List UpWord} {down : List DownWord} {ue un : List SensorEvent} {g : Board}
    → ExitFloor o ue true p r → EntryFloor i un true p r → GapAt (gaps.Begun g) p r → Talks b x o of rd y i f ri p up down
    → Moved b x o of rd y i f ri r up down (ue ++ (event.Left ∷ [])) un false true (gaps.Left (record { id = Some r.id })) Across
move_left at_start n g k = elim g [ ]
move_left begun_unread n _ k = record { out = both_unread beyond_across; «in» = in_leaves n; gap = gap_left; talk = moving_place k }
move_left begun_read n _ k = record { out = left_unread beyond_across; «in» = in_leaves n; gap = gap_left; talk = moving_place k }
