-- HOW FAR AN UNDISTURBED HANDOVER IS: the machines on both sides, where the board is, what is unread, and what is in flight; and
-- how many link steps are left at most.
use Rattle.std.proofs.Common.{Bool, List, None, Option, Some, [], arith, false, refl, subst, sym, true, ℕ, ℤ, append-nil, ◌++◌, ◌+◌, ◌∷◌, ◌≡◌, ◌≤◌}
use Rattle.line_base.specs.declared.states.Quality.{Quality}
use Rattle.line_base.specs.declared.states.Quality.TheVariants as quality
use Rattle.line_base.specs.declared.states.SensorEvent.{SensorEvent}
use Rattle.line_base.specs.declared.states.SensorEvent.TheVariants as sensor
use Rattle.line_base.specs.declared.states.Side.{Side}
use Rattle.line_base.specs.declared.states.Side.TheVariants.{Entry, Exit}
use Rattle.line_base.specs.declared.states.Transfer.TheVariants as transfer
use Rattle.board_record.specs.declared.record.Record.{Record}
use Rattle.hermes_horizontal.specs.declared.message.Horizontal.{Horizontal}
use Rattle.hermes_horizontal.specs.declared.message.Horizontal.TheVariants as message
use Rattle.node_core.specs.Desk.{Desk}
use Rattle.node_core.specs.declared.act.Act.{Act}
use Rattle.node_core.specs.declared.act.Act.TheVariants as acts
use Rattle.node_core.specs.declared.act.Deed.TheVariants as deeds
use Rattle.law_link_messages.specs.Fit.{sent_on}
use Rattle.law_link_messages.specs.Heard.{bodies}
use Rattle.law_twelve_steps.specs.Twelve.{one_if}
use Rattle.law_twelve_steps.specs.Undisturbed.{are_some}
use Rattle.law_twelve_steps.proofs.Lower.{Lower, asked, readies, settled, stopped, takes}
use Rattle.law_twelve_steps.proofs.Lower as lower
use Rattle.law_twelve_steps.proofs.Upper.{Upper, ended, moves, offers, over}
use Rattle.law_twelve_steps.proofs.Upper as upper

-- ---- where the board is: above the gap, begun, across, below

pub data Way : Type 0 where
  fresh : Way
  begun : Way
  across : Way
  inside : Way

pub data IsPast : Way → Type 0 where
  past_across : IsPast across
  past_inside : IsPast inside

pub data IsOn : Way → Type 0 where
  on_begun : IsOn begun
  on_across : IsOn across

-- ---- what is unread at the exit of a machine that moves the board out, and at the entry of one that takes it

pub data Above : Way → Upper → List SensorEvent → Type 0 where
  above_fresh : Above fresh (moves false) []
  above_begun : Above begun (moves false) (sensor.Begun ∷ [])
  above_begun_read : Above begun (moves true) []
  above_left : {w : Way} → IsPast w → Above w (moves false) (sensor.Begun ∷ sensor.Left ∷ [])
  above_left_only : {w : Way} → IsPast w → Above w (moves true) (sensor.Left ∷ [])

pub data Below : Way → Bool → List SensorEvent → Type 0 where
  below_fresh : Below fresh false []
  below_begun : {w : Way} → IsOn w → Below w false (sensor.Begun ∷ [])
  below_begun_read : {w : Way} → IsOn w → Below w true []
  below_full : Below inside false (sensor.Begun ∷ sensor.Full ∷ [])
  below_full_only : Below inside true (sensor.Full ∷ [])

-- ---- both together, with what is in flight up and down

abbrev pub starts : Record → Horizontal
starts b = message.StartTransport b.id

abbrev pub stops : Record → Horizontal
stops b = message.StopTransport transfer.Complete b.id

abbrev pub ends : Record → Horizontal
ends a = message.TransportFinished transfer.Complete a.id

abbrev pub ready_if : Bool → List Horizontal
ready_if true = message.MachineReady quality.Unknown ∷ []
ready_if false = []

abbrev pub next_if : Option Record → List Horizontal
next_if (Some next) = message.BoardAvailable next ∷ []
next_if None = []

pub data Joint (a b : Record) : Way → Upper → List SensorEvent → Lower → List SensorEvent → List Horizontal → List Horizontal → Type 0 where
  offered : {q : Quality} → Joint a b fresh (offers false) [] readies [] (message.MachineReady q ∷ []) (message.BoardAvailable b ∷ [])
  offered_ready : Joint a b fresh (offers true) [] readies [] [] (message.BoardAvailable b ∷ [])
  started : {q : Quality} → Joint a b fresh (offers false) [] (takes false false) [] (message.MachineReady q ∷ starts b ∷ []) []
  started_ready : Joint a b fresh (offers true) [] (takes false false) [] (starts b ∷ []) []
  moving : {w : Way} {u : Upper} {up_seen down_seen : List SensorEvent} {read : Bool} → Above w u up_seen → Below w read down_seen → Joint a b w u up_seen (takes read false) down_seen [] []
  inside_first : {u : Upper} {up_seen : List SensorEvent} → Above inside u up_seen → Joint a b inside u up_seen stopped [] (stops b ∷ []) []
  left : {w : Way} {down_seen : List SensorEvent} {read : Bool} → IsPast w → Below w read down_seen → Joint a b w ended [] (takes read false) down_seen [] (ends a ∷ [])
  left_heard : {w : Way} {down_seen : List SensorEvent} {read : Bool} → IsPast w → Below w read down_seen → Joint a b w ended [] (takes read true) down_seen [] []
  crossed : Joint a b inside ended [] stopped [] (stops b ∷ []) (ends a ∷ [])
  done_below : {again : Bool} → Joint a b inside ended [] (settled again) [] (stops b ∷ ready_if again) []
  done_above : {next : Option Record} → Joint a b inside (over next) [] stopped [] [] (ends a ∷ next_if next)

-- ---- how many link steps are left at most

abbrev pub way_left : Way → ℕ
way_left fresh = 3
way_left begun = 2
way_left across = 1
way_left inside = 0

abbrev pub upper_left : Upper → ℕ
upper_left (offers false) = 5
upper_left (offers true) = 4
upper_left (moves false) = 3
upper_left (moves true) = 2
upper_left ended = 1
upper_left (over next) = 0

abbrev pub lower_left : Lower → ℕ
lower_left readies = 4
lower_left asked = 4
lower_left (takes false false) = 3
lower_left (takes false true) = 2
lower_left (takes true false) = 2
lower_left (takes true true) = 1
lower_left stopped = 1
lower_left (settled again) = 0

abbrev pub left_of : Way → Upper → Lower → ℕ
left_of w u l = way_left w + (upper_left u + lower_left l)

-- ---- the drives

abbrev pub exit_on : Way → Upper → Bool
exit_on fresh (moves read) = true
exit_on begun (moves read) = true
exit_on _ _ = false

abbrev pub entry_on : Way → Lower → Bool
entry_on inside _ = false
entry_on _ (takes read heard) = true
entry_on _ _ = false

abbrev pub drive_by : Act → Bool → Bool
drive_by (acts.Drive side on) was = on
drive_by _ was = was

abbrev pub drive_after : List Act → Bool → Bool
drive_after [] was = was
drive_after (act ∷ others) was = drive_after others (drive_by act was)

-- acts that reach a side and close nothing
abbrev pub IsSaid : Side → Act → Type 0
IsSaid Entry (acts.Sends Entry message) = Unit {0}
IsSaid Exit (acts.Sends Exit message) = Unit {0}
IsSaid Entry (acts.Drive Entry on) = Unit {0}
IsSaid Exit (acts.Drive Exit on) = Unit {0}
IsSaid Entry (acts.Deed (deeds.Settles id)) = Unit {0}
IsSaid _ _ = ⊥

pub data AreSaid (side : Side) : List Act → Type 0 where
  none_said : AreSaid side []
  more_said : {act : Act} {others : List Act} → IsSaid side act → AreSaid side others → AreSaid side (act ∷ others)

-- ---- the machine above reads what is unread at its exit

pub record AboveReads (desk : Desk) (a b : Record) (w : Way) (u : Upper) (up_seen : List SensorEvent) (l : Lower) (down_seen : List SensorEvent) (up down : List Horizontal) : Type 0 where
  pub next : Upper
  pub told : List Act
  pub reads : upper.Reads desk a u up_seen next told
  pub joint : Joint a b w next [] l down_seen up (down ++ bodies (sent_on Exit told))
  pub fewer : left_of w next l + one_if (are_some up_seen) ≤ left_of w u l
  pub drive : drive_after told (exit_on w u) ≡ exit_on w next
  pub said : AreSaid Exit told

nothing_read : {a b : Record} {desk : Desk} {w : Way} {u : Upper} {l : Lower} {down_seen : List SensorEvent} {up down : List Horizontal} → Joint a b w u [] l down_seen up (down ++ []) → AboveReads desk a b w u [] l down_seen up down
nothing_read {w = w} {u = u} {l = l} j = record { next = u; told = []; reads = upper.reads_none; joint = j; fewer = omega arith; drive = refl; said = none_said }

both_said : {stamp : Option ℤ} {what : Horizontal} {on : Bool} → AreSaid Exit (acts.Sends Exit (record { stamp = stamp; body = what }) ∷ acts.Drive Exit on ∷ [])
both_said = more_said tt (more_said tt none_said)

left_read : {a b : Record} {desk : Desk} {w : Way} {down_seen : List SensorEvent} {l : Lower} {up : List Horizontal} → IsPast w → (n : ℕ) → lower_left l ≡ n → Joint a b w ended [] l down_seen up (ends a ∷ []) → AboveReads desk a b w (moves false) (sensor.Begun ∷ sensor.Left ∷ []) l down_seen up []
left_read past_across n count j = record { next = ended; told = _; reads = upper.reads_begun (upper.reads_left upper.reads_none); joint = j; fewer = omega arith; drive = refl; said = both_said }
left_read past_inside n count j = record { next = ended; told = _; reads = upper.reads_begun (upper.reads_left upper.reads_none); joint = j; fewer = omega arith; drive = refl; said = both_said }

left_read_only : {a b : Record} {desk : Desk} {w : Way} {down_seen : List SensorEvent} {l : Lower} {up : List Horizontal} → IsPast w → (n : ℕ) → lower_left l ≡ n → Joint a b w ended [] l down_seen up (ends a ∷ []) → AboveReads desk a b w (moves true) (sensor.Left ∷ []) l down_seen up []
left_read_only past_across n count j = record { next = ended; told = _; reads = upper.reads_left upper.reads_none; joint = j; fewer = omega arith; drive = refl; said = both_said }
left_read_only past_inside n count j = record { next = ended; told = _; reads = upper.reads_left upper.reads_none; joint = j; fewer = omega arith; drive = refl; said = both_said }

moving_reads : {a b : Record} {desk : Desk} {w : Way} {u : Upper} {up_seen down_seen : List SensorEvent} {read : Bool} → Above w u up_seen → Below w read down_seen → AboveReads desk a b w u up_seen (takes read false) down_seen [] []
moving_reads above_fresh below = nothing_read (moving above_fresh below)
moving_reads above_begun_read below = nothing_read (moving above_begun_read below)
moving_reads above_begun below = record { next = moves true; told = []; reads = upper.reads_begun upper.reads_none; joint = moving above_begun_read below; fewer = omega arith; drive = refl; said = none_said }
moving_reads (above_left past) below = left_read past _ refl (left past below)
moving_reads (above_left_only past) below = left_read_only past _ refl (left past below)

inside_reads : {a b : Record} {desk : Desk} {u : Upper} {up_seen : List SensorEvent} → Above inside u up_seen → AboveReads desk a b inside u up_seen stopped [] (stops b ∷ []) []
inside_reads (above_left past) = left_read past _ refl crossed
inside_reads (above_left_only past) = left_read_only past _ refl crossed

pub above_reads : {a b : Record} {w : Way} {u : Upper} {up_seen down_seen : List SensorEvent} {l : Lower} {up down : List Horizontal} (desk : Desk) → Joint a b w u up_seen l down_seen up down → AboveReads desk a b w u up_seen l down_seen up down
above_reads desk offered = nothing_read offered
above_reads desk offered_ready = nothing_read offered_ready
above_reads desk started = nothing_read started
above_reads desk started_ready = nothing_read started_ready
above_reads desk (moving above below) = moving_reads above below
above_reads desk (inside_first above) = inside_reads above
above_reads desk (left past below) = nothing_read (left past below)
above_reads desk (left_heard past below) = nothing_read (left_heard past below)
above_reads desk crossed = nothing_read crossed
above_reads desk done_below = nothing_read done_below
above_reads desk (done_above {next = None}) = nothing_read done_above
above_reads desk (done_above {next = Some next}) = nothing_read done_above

-- ---- and announces

pub record AboveFollows (a b : Record) (w : Way) (u : Upper) (l : Lower) (down_seen : List SensorEvent) (up down : List Horizontal) (next : Upper) (told : List Act) : Type 0 where
  pub joint : Joint a b w next [] l down_seen up (down ++ bodies (sent_on Exit told))
  pub fewer : left_of w next l ≤ left_of w u l
  pub drive : drive_after told (exit_on w u) ≡ exit_on w next
  pub said : AreSaid Exit told

same_count : (n : ℕ) → n ≤ n
same_count n = omega arith

same_list : {A : Type 0} (xs : List A) → xs ++ [] ≡ xs
same_list xs = append-nil xs

pub above_follows : {a b : Record} {w : Way} {u next : Upper} {down_seen : List SensorEvent} {l : Lower} {up down : List Horizontal} {told : List Act} (desk : Desk) → Joint a b w u [] l down_seen up down → upper.Follows desk u next told → AboveFollows a b w u l down_seen up down next told
above_follows {a = a} {b = b} {w = w} {u = u} {down_seen = down_seen} {l = l} {up = up} {down = down} desk j upper.follows_none =
    record { joint = subst (λ (d : List Horizontal). Joint a b w u [] l down_seen up d) (sym (same_list down)) j; fewer = same_count (left_of w u l); drive = refl; said = none_said }
above_follows desk (moving above below) upper.follows_offer = elim above [ ]
above_follows desk (inside_first above) upper.follows_offer = elim above [ ]
above_follows desk done_above upper.follows_offer = record { joint = done_above; fewer = omega arith; drive = refl; said = more_said tt none_said }

-- ---- and hears the oldest message

pub data AboveHears (a b : Record) (w : Way) (u : Upper) (l : Lower) (down_seen : List SensorEvent) (what : Horizontal) (up down : List Horizontal) : Type 0 where
  goes_on : {next : Upper} {told : List Act} → upper.Hears a u what next told → Joint a b w next [] l down_seen up down → left_of w next l + 1 ≤ left_of w u l → drive_after told (exit_on w u) ≡ exit_on w next → AreSaid Exit told → sent_on Exit told ≡ []
      → AboveHears a b w u l down_seen what up down
  is_over : {again : Bool} → upper.Hears a u what (over None) [] → l ≡ settled again → w ≡ inside → left_of w (over None) l + 1 ≤ left_of w u l → AboveHears a b w u l down_seen what up down

hears_start_as : {a : Record} (b : Record) → b.id ≡ a.id → upper.Hears a (offers true) (starts b) (moves false) (acts.Drive Exit true ∷ [])
hears_start_as {a = a} b same = subst (λ (n : ℕ). upper.Hears a (offers true) (message.StartTransport n) (moves false) (acts.Drive Exit true ∷ [])) (sym same) upper.hears_start

hears_stop_as : {a : Record} (b : Record) → b.id ≡ a.id → upper.Hears a ended (stops b) (over None) []
hears_stop_as {a = a} b same = subst (λ (n : ℕ). upper.Hears a ended (message.StopTransport transfer.Complete n) (over None) []) (sym same) upper.hears_stop

pub above_hears : {a b : Record} {w : Way} {u : Upper} {down_seen : List SensorEvent} {l : Lower} {what : Horizontal} {up down : List Horizontal} → b.id ≡ a.id → Joint a b w u [] l down_seen (what ∷ up) down → AboveHears a b w u l down_seen what up down
above_hears same offered = goes_on upper.hears_ready offered_ready (omega arith) refl none_said refl
above_hears same started = goes_on upper.hears_ready started_ready (omega arith) refl none_said refl
above_hears {b = b} same started_ready = goes_on (hears_start_as b same) (moving above_fresh below_fresh) (omega arith) refl (more_said tt none_said) refl
above_hears same (inside_first above) = elim above [ ]
above_hears {b = b} same crossed = goes_on (hears_stop_as b same) done_above (omega arith) refl none_said refl
above_hears {b = b} same (done_below {again = again}) = is_over {again = again} (hears_stop_as b same) refl refl (omega arith)

-- ---- the machine below reads what is unread at its entry

pub record BelowReads (desk : Desk) (a b : Record) (w : Way) (u : Upper) (up_seen : List SensorEvent) (l : Lower) (down_seen : List SensorEvent) (up down : List Horizontal) : Type 0 where
  pub next : Lower
  pub told : List Act
  pub reads : lower.Reads desk b l down_seen next told
  pub joint : Joint a b w u up_seen next [] (up ++ bodies (sent_on Entry told)) down
  pub fewer : left_of w u next + one_if (are_some down_seen) ≤ left_of w u l
  pub drive : drive_after told (entry_on w l) ≡ entry_on w next
  pub said : AreSaid Entry told

below_nothing : {a b : Record} {desk : Desk} {w : Way} {u : Upper} {l : Lower} {up_seen : List SensorEvent} {up down : List Horizontal} → Joint a b w u up_seen l [] (up ++ []) down → BelowReads desk a b w u up_seen l [] up down
below_nothing {l = l} j = record { next = l; told = []; reads = lower.reads_none; joint = j; fewer = omega arith; drive = refl; said = none_said }

stop_said : {stamp : Option ℤ} {what : Horizontal} {on : Bool} → AreSaid Entry (acts.Sends Entry (record { stamp = stamp; body = what }) ∷ acts.Drive Entry on ∷ [])
stop_said = more_said tt (more_said tt none_said)

begun_fewer : (n m : ℕ) → n + (m + 2) + 1 ≤ n + (m + 3)
begun_fewer n m = omega arith

begun_fewer_heard : (n m : ℕ) → n + (m + 1) + 1 ≤ n + (m + 2)
begun_fewer_heard n m = omega arith

full_fewer : (m : ℕ) → 0 + (m + 1) + 1 ≤ 0 + (m + 3)
full_fewer m = omega arith

below_moving : {a b : Record} {desk : Desk} {w : Way} {u : Upper} {up_seen down_seen : List SensorEvent} {read : Bool} → Above w u up_seen → Below w read down_seen → BelowReads desk a b w u up_seen (takes read false) down_seen [] []
below_moving above below_fresh = below_nothing (moving above below_fresh)
below_moving above (below_begun_read on) = below_nothing (moving above (below_begun_read on))
below_moving {w = w} {u = u} above (below_begun on_begun) = record { next = takes true false; told = []; reads = lower.reads_begun lower.reads_none; joint = moving above (below_begun_read on_begun); fewer = begun_fewer (way_left w) (upper_left u); drive = refl; said = none_said }
below_moving {w = w} {u = u} above (below_begun on_across) = record { next = takes true false; told = []; reads = lower.reads_begun lower.reads_none; joint = moving above (below_begun_read on_across); fewer = begun_fewer (way_left w) (upper_left u); drive = refl; said = none_said }
below_moving {u = u} above below_full = record { next = stopped; told = _; reads = lower.reads_begun (lower.reads_full lower.reads_none); joint = inside_first above; fewer = full_fewer (upper_left u); drive = refl; said = stop_said }
below_moving {u = u} above below_full_only = record { next = stopped; told = _; reads = lower.reads_full lower.reads_none; joint = inside_first above; fewer = begun_fewer_heard 0 (upper_left u); drive = refl; said = stop_said }

below_left : {a b : Record} {desk : Desk} {w : Way} {down_seen : List SensorEvent} {read : Bool} → IsPast w → Below w read down_seen → BelowReads desk a b w ended [] (takes read false) down_seen [] (ends a ∷ [])
below_left past (below_begun_read on) = below_nothing (left past (below_begun_read on))
below_left past_across (below_begun on) = record { next = takes true false; told = []; reads = lower.reads_begun lower.reads_none; joint = left past_across (below_begun_read on); fewer = omega arith; drive = refl; said = none_said }
below_left past_inside (below_begun on) = elim on [ ]
below_left past below_full = record { next = stopped; told = _; reads = lower.reads_begun (lower.reads_full lower.reads_none); joint = crossed; fewer = omega arith; drive = refl; said = stop_said }
below_left past below_full_only = record { next = stopped; told = _; reads = lower.reads_full lower.reads_none; joint = crossed; fewer = omega arith; drive = refl; said = stop_said }
below_left past below_fresh = elim past [ ]

settle_said : {id : ℕ} {stamp : Option ℤ} {what : Horizontal} {on : Bool} → AreSaid Entry (acts.Deed (deeds.Settles id) ∷ acts.Sends Entry (record { stamp = stamp; body = what }) ∷ acts.Drive Entry on ∷ [])
settle_said = more_said tt stop_said

below_heard : {a b : Record} {desk : Desk} {w : Way} {down_seen : List SensorEvent} {read : Bool} → IsPast w → Below w read down_seen → BelowReads desk a b w ended [] (takes read true) down_seen [] []
below_heard past (below_begun_read on) = below_nothing (left_heard past (below_begun_read on))
below_heard past_across (below_begun on) = record { next = takes true true; told = []; reads = lower.reads_begun lower.reads_none; joint = left_heard past_across (below_begun_read on); fewer = omega arith; drive = refl; said = none_said }
below_heard past_inside (below_begun on) = elim on [ ]
below_heard past below_full = record { next = settled false; told = _; reads = lower.reads_begun (lower.reads_full_heard lower.reads_none); joint = done_below {again = false}; fewer = omega arith; drive = refl; said = settle_said }
below_heard past below_full_only = record { next = settled false; told = _; reads = lower.reads_full_heard lower.reads_none; joint = done_below {again = false}; fewer = omega arith; drive = refl; said = settle_said }
below_heard past below_fresh = elim past [ ]

pub below_reads : {a b : Record} {w : Way} {u : Upper} {up_seen down_seen : List SensorEvent} {l : Lower} {up down : List Horizontal} (desk : Desk) → Joint a b w u up_seen l down_seen up down → BelowReads desk a b w u up_seen l down_seen up down
below_reads desk offered = below_nothing offered
below_reads desk offered_ready = below_nothing offered_ready
below_reads desk started = below_nothing started
below_reads desk started_ready = below_nothing started_ready
below_reads desk (moving above below) = below_moving above below
below_reads desk (inside_first above) = below_nothing (inside_first above)
below_reads desk (left past below) = below_left past below
below_reads desk (left_heard past below) = below_heard past below
below_reads desk crossed = below_nothing crossed
below_reads desk (done_below {again = false}) = below_nothing (done_below {again = false})
below_reads desk (done_below {again = true}) = below_nothing (done_below {again = true})
below_reads desk done_above = below_nothing done_above

-- ---- and announces

pub record BelowFollows (a b : Record) (w : Way) (u : Upper) (up_seen : List SensorEvent) (l : Lower) (up down : List Horizontal) (next : Lower) (told : List Act) : Type 0 where
  pub joint : Joint a b w u up_seen next [] (up ++ bodies (sent_on Entry told)) down
  pub fewer : left_of w u next ≤ left_of w u l
  pub drive : drive_after told (entry_on w l) ≡ entry_on w next
  pub said : AreSaid Entry told

pub below_follows : {a b : Record} {w : Way} {u : Upper} {up_seen : List SensorEvent} {l next : Lower} {up down : List Horizontal} {told : List Act} (desk : Desk) → Joint a b w u up_seen l [] up down → lower.Follows desk b l next told → BelowFollows a b w u up_seen l up down next told
below_follows {a = a} {b = b} {w = w} {u = u} {up_seen = up_seen} {l = l} {up = up} {down = down} desk j lower.follows_none =
    record { joint = subst (λ (x : List Horizontal). Joint a b w u up_seen l [] x down) (sym (same_list up)) j; fewer = same_count (left_of w u l); drive = refl; said = none_said }
below_follows desk j lower.follows_start = elim j [ ]
below_follows desk (done_below {again = false}) lower.follows_ready = record { joint = done_below {again = true}; fewer = omega arith; drive = refl; said = more_said tt none_said }

-- ---- and hears the oldest message

pub data BelowHears (a b : Record) (w : Way) (u : Upper) (up_seen : List SensorEvent) (l : Lower) (what : Horizontal) (up down : List Horizontal) : Type 0 where
  goes_on : {next : Lower} {told : List Act} → lower.Hears b l what next told → Joint a b w u up_seen next [] up down → left_of w u next + 1 ≤ left_of w u l → drive_after told (entry_on w l) ≡ entry_on w next → AreSaid Entry told → sent_on Entry told ≡ []
      → BelowHears a b w u up_seen l what up down
  asks : lower.Hears b readies what asked [] → l ≡ readies → w ≡ fresh → Joint a b fresh u up_seen (takes false false) [] (up ++ starts b ∷ []) down → left_of fresh u (takes false false) + 1 ≤ left_of fresh u readies → BelowHears a b w u up_seen l what up down
  is_over : {next : Option Record} → lower.Hears b stopped what (settled false) (acts.Deed (deeds.Settles b.id) ∷ []) → l ≡ stopped → w ≡ inside → u ≡ over next → BelowHears a b w u up_seen l what up down

end_as : (a : Record) {b : Record} {l m : Lower} {told : List Act} → b.id ≡ a.id → lower.Hears b l (message.TransportFinished transfer.Complete b.id) m told → lower.Hears b l (ends a) m told
end_as a {b = b} {l = l} {m = m} {told = told} same h = subst (λ (n : ℕ). lower.Hears b l (message.TransportFinished transfer.Complete n) m told) same h

left_hears : {a b : Record} {w : Way} {read : Bool} → b.id ≡ a.id → IsPast w → Below w read [] → BelowHears a b w ended [] (takes read false) (ends a) [] []
left_hears {a = a} same past_across (below_begun_read on) = goes_on (end_as a same lower.hears_end) (left_heard past_across (below_begun_read on)) (omega arith) refl none_said refl
left_hears same past_inside (below_begun_read on) = elim on [ ]
left_hears same past below_fresh = elim past [ ]

pub below_hears : {a b : Record} {w : Way} {u : Upper} {up_seen : List SensorEvent} {l : Lower} {what : Horizontal} {up down : List Horizontal} → b.id ≡ a.id → Joint a b w u up_seen l [] up (what ∷ down) → BelowHears a b w u up_seen l what up down
below_hears same offered = asks lower.hears_offer refl refl started (omega arith)
below_hears same offered_ready = asks lower.hears_offer refl refl started_ready (omega arith)
below_hears same (left past below) = left_hears same past below
below_hears {a = a} same crossed = goes_on (end_as a same lower.hears_end_inside) (done_below {again = false}) (omega arith) refl (more_said tt none_said) refl
below_hears {a = a} same (done_above {next = next}) = is_over {next = next} (end_as a same lower.hears_end_inside) refl refl refl

-- ---- the board moves forth

pub begins : {a b : Record} {u : Upper} {up_seen down_seen : List SensorEvent} {l : Lower} {up down : List Horizontal} → Joint a b fresh u up_seen l down_seen up down → exit_on fresh u ≡ true
    → Joint a b begun u (up_seen ++ sensor.Begun ∷ []) l (down_seen ++ sensor.Begun ∷ []) up down
begins (moving above_fresh below_fresh) on = moving above_begun (below_begun on_begun)
begins offered on = absurd (cc)
begins offered_ready on = absurd (cc)
begins started on = absurd (cc)
begins started_ready on = absurd (cc)
begins (moving (above_left past) below) on = elim past [ ]
begins (moving (above_left_only past) below) on = elim past [ ]
begins (moving above_fresh (below_begun x)) on = elim x [ ]
begins (moving above_fresh (below_begun_read x)) on = elim x [ ]
begins (left past below) on = elim past [ ]
begins (left_heard past below) on = elim past [ ]

above_leaves : {u : Upper} {up_seen : List SensorEvent} → Above begun u up_seen → Above across u (up_seen ++ sensor.Left ∷ [])
above_leaves above_begun = above_left past_across
above_leaves above_begun_read = above_left_only past_across
above_leaves (above_left past) = elim past [ ]
above_leaves (above_left_only past) = elim past [ ]

below_leaves : {read : Bool} {seen : List SensorEvent} → Below begun read seen → Below across read seen
below_leaves (below_begun on) = below_begun on_across
below_leaves (below_begun_read on) = below_begun_read on_across

pub leaves : {a b : Record} {u : Upper} {up_seen down_seen : List SensorEvent} {l : Lower} {up down : List Horizontal} → Joint a b begun u up_seen l down_seen up down → Joint a b across u (up_seen ++ sensor.Left ∷ []) l down_seen up down
leaves (moving above below) = moving (above_leaves above) (below_leaves below)
leaves (left past below) = elim past [ ]
leaves (left_heard past below) = elim past [ ]

above_enters : {u : Upper} {up_seen : List SensorEvent} → Above across u up_seen → Above inside u up_seen
above_enters (above_left past) = above_left past_inside
above_enters (above_left_only past) = above_left_only past_inside

below_enters : {read : Bool} {seen : List SensorEvent} → Below across read seen → Below inside read (seen ++ sensor.Full ∷ [])
below_enters (below_begun on) = below_full
below_enters (below_begun_read on) = below_full_only

pub enters : {a b : Record} {u : Upper} {up_seen down_seen : List SensorEvent} {l : Lower} {up down : List Horizontal} → Joint a b across u up_seen l down_seen up down → Joint a b inside u up_seen l (down_seen ++ sensor.Full ∷ []) up down
enters (moving above below) = moving (above_enters above) (below_enters below)
enters (left past below) = left past_inside (below_enters below)
enters (left_heard past below) = left_heard past_inside (below_enters below)
