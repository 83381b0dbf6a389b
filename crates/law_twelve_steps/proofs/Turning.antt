-- A whole step of the machine above or below: it reads, maybe hears the oldest message, and announces.
use Rattle.std.proofs.Common.{Bool, List, None, Option, Some, [], ap, append-nil, append_assoc, arith, false, refl, subst, sym, true, ℕ, ◌++◌, ◌+◌, ◌∙◌, ◌∷◌, ◌≡◌, ◌≤◌, ◌⊎◌, inl, inr}
use Rattle.line_base.specs.declared.states.Quality.TheVariants as quality
use Rattle.line_base.specs.declared.states.SensorEvent.{SensorEvent}
use Rattle.line_base.specs.declared.states.Side.TheVariants.{Entry, Exit}
use Rattle.line_base.specs.declared.states.Transfer.TheVariants as transfer
use Rattle.board_record.specs.declared.record.Record.{Record}
use Rattle.hermes_horizontal.specs.declared.message.Horizontal.{Horizontal}
use Rattle.hermes_horizontal.specs.declared.message.Horizontal.TheVariants as message
use Rattle.hermes_horizontal.specs.declared.message.Message.{Message}
use Rattle.node_core.specs.Desk.{Desk}
use Rattle.node_core.specs.declared.act.Act.{Act}
use Rattle.node_core.specs.declared.act.Act.TheVariants as acts
use Rattle.node_core.specs.declared.act.Deed.TheVariants as deeds
use Rattle.law_link_messages.specs.Fit.{AreFitActs, IsFitDesk, IsFitId, IsFitRecord, more_said as more_fit_said, none_said as none_fit_said, sent_on}
use Rattle.law_link_messages.specs.Heard.{bodies}
use Rattle.law_link_messages.proofs.SayingWhat.{available_fits, both_said as both_fit_said, sent}
use Rattle.law_twelve_steps.specs.Twelve.{one_if}
use Rattle.law_twelve_steps.specs.Undisturbed.{are_some}
use Rattle.law_twelve_steps.proofs.Lower.{Lower, asked, readies, settled, stopped, takes}
use Rattle.law_twelve_steps.proofs.Lower as lower
use Rattle.law_twelve_steps.proofs.Saying.{bodies_both, drive_both, said_both, sent_both}
use Rattle.law_twelve_steps.proofs.Stage.{AboveFollows, AboveHears, AboveReads, AreSaid, BelowFollows, BelowHears, BelowReads, Joint, Way, above_follows, above_hears, above_reads, asks, below_follows, below_hears, below_reads, drive_after, entry_on, exit_on, fresh, goes_on, is_over, left_of, more_said, none_said, starts}
use Rattle.law_twelve_steps.proofs.Upper.{Upper, over}
use Rattle.law_twelve_steps.proofs.Upper as upper

-- ---- the machine above

pub record AboveEnds (a b : Record) (w : Way) (u : Upper) (l : Lower) (down_seen : List SensorEvent) (up down : List Horizontal) (spare : ℕ) (next : Upper) (told : List Act) : Type 0 where
  pub joint : Joint a b w next [] l down_seen up (down ++ bodies (sent_on Exit told))
  pub fewer : left_of w next l + spare ≤ left_of w u l
  pub drive : drive_after told (exit_on w u) ≡ exit_on w next
  pub said : AreSaid Exit told

-- one part of a step behind another
above_then : {a b : Record} {w : Way} {l : Lower} {down_seen : List SensorEvent} {up down : List Horizontal} (x y n m : ℕ) (u v next : Upper) (one two : List Act) → AreSaid Exit one → left_of w v l + x ≤ left_of w u l → drive_after one (exit_on w u) ≡ exit_on w v
    → AboveEnds a b w v l down_seen up (down ++ bodies (sent_on Exit one)) y next two → AboveEnds a b w u l down_seen up down (x + y) next (one ++ two)
above_then {a = a} {b = b} {w = w} {l = l} {down_seen = down_seen} {up = up} {down = down} x y n m u v next one two said fewer drive e =
    let first = e.fewer in
    record {
      joint = subst (λ (d : List Horizontal). Joint a b w next [] l down_seen up d)
          (append_assoc down (bodies (sent_on Exit one)) (bodies (sent_on Exit two)) ∙ ap (λ (d : List Horizontal). down ++ d) (sym (bodies_both (sent_on Exit one) (sent_on Exit two)) ∙ ap (λ (ms : List Message). bodies ms) (sym (sent_both Exit one two said)))) e.joint;
      fewer = omega (arith, fewer, first);
      drive = drive_both one two (exit_on w u) ∙ ap (λ (d : Bool). drive_after two d) drive ∙ e.drive;
      said = said_both said e.said;
    }

above_last : {a b : Record} {w : Way} {u next : Upper} {l : Lower} {down_seen : List SensorEvent} {up down : List Horizontal} {told : List Act} → AboveFollows a b w u l down_seen up down next told → AboveEnds a b w u l down_seen up down 0 next told
above_last f =
    let fewer = f.fewer in
    record { joint = f.joint; fewer = omega (arith, fewer); drive = f.drive; said = f.said }

-- it hears nothing on this link
pub record AboveBeside (desk : Desk) (a b : Record) (w : Way) (u : Upper) (up_seen : List SensorEvent) (l : Lower) (down_seen : List SensorEvent) (up down : List Horizontal) : Type 0 where
  pub read : Upper
  pub first : List Act
  pub reads : upper.Reads desk a u up_seen read first
  pub ends : (next : Upper) (told : List Act) → upper.Follows desk read next told → AboveEnds a b w u l down_seen up down (one_if (are_some up_seen) + 0) next (first ++ told)

pub above_beside : {a b : Record} {w : Way} {u : Upper} {up_seen down_seen : List SensorEvent} {l : Lower} {up down : List Horizontal} (desk : Desk) → Joint a b w u up_seen l down_seen up down → AboveBeside desk a b w u up_seen l down_seen up down
above_beside {w = w} {u = u} {up_seen = up_seen} desk j =
    let r = above_reads desk j in
    record { read = r.next; first = r.told; reads = r.reads; ends = λ next told follows. above_then (one_if (are_some up_seen)) 0 0 0 u r.next next r.told told r.said r.fewer r.drive (above_last (above_follows desk r.joint follows)) }

-- it hears the oldest message: the handover goes on, or is over
pub data AboveHearing (desk : Desk) (a b : Record) (w : Way) (u : Upper) (up_seen : List SensorEvent) (l : Lower) (down_seen : List SensorEvent) (what : Horizontal) (up down : List Horizontal) : Type 0 where
  hearing : {read mid : Upper} {first heard : List Act} → upper.Reads desk a u up_seen read first → upper.Hears a read what mid heard → AreFitActs heard
      → ((next : Upper) (told : List Act) → upper.Follows desk mid next told → AboveEnds a b w u l down_seen up down (one_if (are_some up_seen) + (1 + 0)) next (first ++ (heard ++ told))) → AboveHearing desk a b w u up_seen l down_seen what up down
  last : {read : Upper} {first : List Act} {again : Bool} → upper.Reads desk a u up_seen read first → upper.Hears a read what (over None) [] → l ≡ settled again → left_of w (over None) l + 1 ≤ left_of w u l → AboveHearing desk a b w u up_seen l down_seen what up down

heard_fits : {told : List Act} {r : Record} {u v : Upper} {what : Horizontal} → upper.Hears r u what v told → AreFitActs told
heard_fits upper.hears_ready = none_fit_said
heard_fits upper.hears_start = more_fit_said tt none_fit_said
heard_fits upper.hears_stop = none_fit_said

no_more : {a b : Record} {w : Way} {next : Upper} {l : Lower} {down_seen : List SensorEvent} {up down : List Horizontal} (told : List Act) → sent_on Exit told ≡ [] → Joint a b w next [] l down_seen up down → Joint a b w next [] l down_seen up (down ++ bodies (sent_on Exit told))
no_more {a = a} {b = b} {w = w} {next = next} {l = l} {down_seen = down_seen} {up = up} {down = down} told none j =
    subst (λ (d : List Horizontal). Joint a b w next [] l down_seen up d) (sym (ap (λ (ms : List Message). down ++ bodies ms) none ∙ append-nil down)) j

above_by : {a b : Record} {w : Way} {u : Upper} {up_seen down_seen : List SensorEvent} {l : Lower} {what : Horizontal} {up down : List Horizontal} (desk : Desk) (r : AboveReads desk a b w u up_seen l down_seen (what ∷ up) down)
    → AboveHears a b w r.next l down_seen what up (down ++ bodies (sent_on Exit r.told)) → AboveHearing desk a b w u up_seen l down_seen what up down
above_by {w = w} {u = u} {up_seen = up_seen} desk r (goes_on {next = mid} {told = heard} hears j fewer drive said none) =
    hearing r.reads hears (heard_fits hears) (λ next told follows.
    above_then (one_if (are_some up_seen)) (1 + 0) 0 0 u r.next next r.told (heard ++ told) r.said r.fewer r.drive
    (above_then 1 0 0 0 r.next mid next heard told said fewer drive (above_last (above_follows desk (no_more heard none j) follows))))
above_by {w = w} {u = u} {up_seen = up_seen} {l = l} desk r (is_over {again = again} hears settles way fewer) =
    let first = r.fewer in
    last {again = again} r.reads hears settles (omega (arith, first, fewer))

pub above_hearing : {a b : Record} {w : Way} {u : Upper} {up_seen down_seen : List SensorEvent} {l : Lower} {what : Horizontal} {up down : List Horizontal} (desk : Desk) → b.id ≡ a.id → Joint a b w u up_seen l down_seen (what ∷ up) down → AboveHearing desk a b w u up_seen l down_seen what up down
above_hearing desk same j =
    let r = above_reads desk j in
    above_by desk r (above_hears same r.joint)

-- what it says is fit
pub above_read_fits : (desk : Desk) {r : Record} {u v : Upper} {seen : List SensorEvent} {told : List Act} → IsFitDesk desk → IsFitId r.id → upper.Reads desk r u seen v told → AreFitActs told
above_read_fits desk fit id upper.reads_none = none_fit_said
above_read_fits desk fit id (upper.reads_begun rs) = above_read_fits desk fit id rs
above_read_fits desk {r = r} fit id (upper.reads_left rs) =
    both_fit_said (sent desk Exit (message.TransportFinished transfer.Complete r.id) fit (record { name = refl; values = (tt, (id, tt)); numbers = tt; named = refl; short = tt; subs = tt; barcodes = tt })) (more_fit_said tt (above_read_fits desk fit id rs))

pub above_said_fits : {u next : Upper} {told : List Act} (desk : Desk) → IsFitDesk desk → ((board : Record) → next ≡ over (Some board) → IsFitRecord board) → upper.Follows desk u next told → AreFitActs told
above_said_fits desk fit board upper.follows_none = none_fit_said
above_said_fits desk fit board (upper.follows_offer {next = next}) = sent desk Exit (message.BoardAvailable next) fit (available_fits next (board next refl))

-- ---- the machine below

-- it is told that the board has settled
pub data HasSettled (id : ℕ) : List Act → Type 0 where
  has_first : {others : List Act} → HasSettled id (acts.Deed (deeds.Settles id) ∷ others)
  has_later : {act : Act} {others : List Act} → HasSettled id others → HasSettled id (act ∷ others)

pub record BelowEnds (a b : Record) (w : Way) (u : Upper) (up_seen : List SensorEvent) (l : Lower) (up down : List Horizontal) (spare : ℕ) (next : Lower) (told : List Act) : Type 0 where
  pub joint : Joint a b w u up_seen next [] (up ++ bodies (sent_on Entry told)) down
  pub fewer : left_of w u next + spare ≤ left_of w u l
  pub drive : drive_after told (entry_on w l) ≡ entry_on w next
  pub said : AreSaid Entry told

below_then : {a b : Record} {w : Way} {u : Upper} {up_seen : List SensorEvent} {up down : List Horizontal} (x y : ℕ) (l m next : Lower) (one two : List Act) → AreSaid Entry one → left_of w u m + x ≤ left_of w u l → drive_after one (entry_on w l) ≡ entry_on w m
    → BelowEnds a b w u up_seen m (up ++ bodies (sent_on Entry one)) down y next two → BelowEnds a b w u up_seen l up down (x + y) next (one ++ two)
below_then {a = a} {b = b} {w = w} {u = u} {up_seen = up_seen} {up = up} {down = down} x y l m next one two said fewer drive e =
    let first = e.fewer in
    record {
      joint = subst (λ (d : List Horizontal). Joint a b w u up_seen next [] d down)
          (append_assoc up (bodies (sent_on Entry one)) (bodies (sent_on Entry two)) ∙ ap (λ (d : List Horizontal). up ++ d) (sym (bodies_both (sent_on Entry one) (sent_on Entry two)) ∙ ap (λ (ms : List Message). bodies ms) (sym (sent_both Entry one two said)))) e.joint;
      fewer = omega (arith, fewer, first);
      drive = drive_both one two (entry_on w l) ∙ ap (λ (d : Bool). drive_after two d) drive ∙ e.drive;
      said = said_both said e.said;
    }

below_last : {a b : Record} {w : Way} {u : Upper} {up_seen : List SensorEvent} {l next : Lower} {up down : List Horizontal} {told : List Act} → BelowFollows a b w u up_seen l up down next told → BelowEnds a b w u up_seen l up down 0 next told
below_last f =
    let fewer = f.fewer in
    record { joint = f.joint; fewer = omega (arith, fewer); drive = f.drive; said = f.said }

pub record BelowBeside (desk : Desk) (a b : Record) (w : Way) (u : Upper) (up_seen : List SensorEvent) (l : Lower) (down_seen : List SensorEvent) (up down : List Horizontal) : Type 0 where
  pub read : Lower
  pub first : List Act
  pub reads : lower.Reads desk b l down_seen read first
  pub ends : (next : Lower) (told : List Act) → lower.Follows desk b read next told → BelowEnds a b w u up_seen l up down (one_if (are_some down_seen) + 0) next (first ++ told)

pub below_beside : {a b : Record} {w : Way} {u : Upper} {up_seen down_seen : List SensorEvent} {l : Lower} {up down : List Horizontal} (desk : Desk) → Joint a b w u up_seen l down_seen up down → BelowBeside desk a b w u up_seen l down_seen up down
below_beside {down_seen = down_seen} {l = l} desk j =
    let r = below_reads desk j in
    record { read = r.next; first = r.told; reads = r.reads; ends = λ next told follows. below_then (one_if (are_some down_seen)) 0 l r.next next r.told told r.said r.fewer r.drive (below_last (below_follows desk r.joint follows)) }

no_more_up : {a b : Record} {w : Way} {u : Upper} {next : Lower} {up_seen : List SensorEvent} {up down : List Horizontal} (told : List Act) → sent_on Entry told ≡ [] → Joint a b w u up_seen next [] up down → Joint a b w u up_seen next [] (up ++ bodies (sent_on Entry told)) down
no_more_up {a = a} {b = b} {w = w} {u = u} {next = next} {up_seen = up_seen} {up = up} {down = down} told none j =
    subst (λ (x : List Horizontal). Joint a b w u up_seen next [] x down) (sym (ap (λ (ms : List Message). up ++ bodies ms) none ∙ append-nil up)) j

pub data BelowHearing (desk : Desk) (a b : Record) (w : Way) (u : Upper) (up_seen : List SensorEvent) (l : Lower) (down_seen : List SensorEvent) (what : Horizontal) (up down : List Horizontal) : Type 0 where
  hearing : {read mid : Lower} {first heard : List Act} → lower.Reads desk b l down_seen read first → lower.Hears b read what mid heard → AreFitActs heard
      → ((next : Lower) (told : List Act) → lower.IsRest next → lower.Follows desk b mid next told → BelowEnds a b w u up_seen l up down (one_if (are_some down_seen) + (1 + 0)) next (first ++ (heard ++ told))) → BelowHearing desk a b w u up_seen l down_seen what up down
  last : {read : Lower} {first heard : List Act} {next : Option Record} → lower.Reads desk b l down_seen read first → lower.Hears b read what (settled false) heard → u ≡ over next → HasSettled b.id heard → left_of w u (settled false) + 1 ≤ left_of w u l → BelowHearing desk a b w u up_seen l down_seen what up down

below_heard_fits : {told : List Act} {r : Record} {l m : Lower} {what : Horizontal} → lower.Hears r l what m told → AreFitActs told
below_heard_fits lower.hears_offer = none_fit_said
below_heard_fits lower.hears_end = none_fit_said
below_heard_fits lower.hears_end_inside = more_fit_said tt none_fit_said

asked_ends : {a b : Record} {u : Upper} {up_seen : List SensorEvent} {up down : List Horizontal} (desk : Desk) (next : Lower) (told : List Act) → Joint a b fresh u up_seen (takes false false) [] (up ++ starts b ∷ []) down → left_of fresh u (takes false false) + 1 ≤ left_of fresh u readies
    → lower.IsRest next → lower.Follows desk b asked next told → BelowEnds a b fresh u up_seen readies up down 1 next told
asked_ends desk _ _ j fewer rest lower.follows_none = absurd rest
asked_ends desk _ _ j fewer rest lower.follows_start = record { joint = j; fewer = fewer; drive = refl; said = more_said tt (more_said tt none_said) }

asked_as : {a b : Record} {w : Way} {u : Upper} {up_seen : List SensorEvent} {l : Lower} {up down : List Horizontal} (spare : ℕ) (next : Lower) (told : List Act) → l ≡ readies → w ≡ fresh → BelowEnds a b fresh u up_seen readies up down spare next told → BelowEnds a b w u up_seen l up down spare next told
asked_as {a = a} {b = b} {u = u} {up_seen = up_seen} {l = l} {up = up} {down = down} spare next told is way e =
    subst (λ (w : Way). BelowEnds a b w u up_seen l up down spare next told) (sym way) (subst (λ (x : Lower). BelowEnds a b fresh u up_seen x up down spare next told) (sym is) e)

below_by : {a b : Record} {w : Way} {u : Upper} {up_seen down_seen : List SensorEvent} {l : Lower} {what : Horizontal} {up down : List Horizontal} (desk : Desk) (r : BelowReads desk a b w u up_seen l down_seen up (what ∷ down))
    → BelowHears a b w u up_seen r.next what (up ++ bodies (sent_on Entry r.told)) down → BelowHearing desk a b w u up_seen l down_seen what up down
below_by {down_seen = down_seen} {l = l} desk r (goes_on {next = mid} {told = heard} hears j fewer drive said none) =
    hearing r.reads hears (below_heard_fits hears) (λ next told rest follows.
    below_then (one_if (are_some down_seen)) (1 + 0) l r.next next r.told (heard ++ told) r.said r.fewer r.drive
    (below_then 1 0 r.next mid next heard told said fewer drive (below_last (below_follows desk (no_more_up heard none j) follows))))
below_by {b = b} {down_seen = down_seen} {l = l} {what = what} desk r (asks hears is way j fewer) =
    hearing {mid = asked} r.reads (subst (λ (x : Lower). lower.Hears b x what asked []) (sym is) hears) none_fit_said (λ next told rest follows.
    below_then (one_if (are_some down_seen)) 1 l r.next next r.told told r.said r.fewer r.drive (asked_as 1 next told is way (asked_ends desk next told j fewer rest follows)))
below_by {b = b} {w = w} {u = u} {l = l} {what = what} desk r (is_over {next = next} hears is way above) =
    let first = r.fewer in
    let stopped_left : left_of w u r.next ≡ left_of w u stopped = ap (λ (x : Lower). left_of w u x) is in
    last {next = next} r.reads (subst (λ (x : Lower). lower.Hears b x what (settled false) (acts.Deed (deeds.Settles b.id) ∷ [])) (sym is) hears) above has_first (omega (arith, first, stopped_left))

pub below_hearing : {a b : Record} {w : Way} {u : Upper} {up_seen down_seen : List SensorEvent} {l : Lower} {what : Horizontal} {up down : List Horizontal} (desk : Desk) → b.id ≡ a.id → Joint a b w u up_seen l down_seen up (what ∷ down) → BelowHearing desk a b w u up_seen l down_seen what up down
below_hearing desk same j =
    let r = below_reads desk j in
    below_by desk r (below_hears same r.joint)

-- what it says is fit
stop_fits : (desk : Desk) (id : ℕ) → IsFitDesk desk → IsFitId id → AreFitActs (acts.Sends Entry (record { stamp = Some desk.moment; body = message.StopTransport transfer.Complete id }) ∷ [])
stop_fits desk id fit short = sent desk Entry (message.StopTransport transfer.Complete id) fit (record { name = refl; values = (tt, (short, tt)); numbers = tt; named = refl; short = tt; subs = tt; barcodes = tt })

pub below_read_fits : (desk : Desk) {r : Record} {l m : Lower} {seen : List SensorEvent} {told : List Act} → IsFitDesk desk → IsFitId r.id → lower.Reads desk r l seen m told → AreFitActs told
below_read_fits desk fit id lower.reads_none = none_fit_said
below_read_fits desk fit id (lower.reads_begun rs) = below_read_fits desk fit id rs
below_read_fits desk {r = r} fit id (lower.reads_full rs) = both_fit_said (stop_fits desk r.id fit id) (more_fit_said tt (below_read_fits desk fit id rs))
below_read_fits desk {r = r} fit id (lower.reads_full_heard rs) = more_fit_said tt (both_fit_said (stop_fits desk r.id fit id) (more_fit_said tt (below_read_fits desk fit id rs)))

pub below_said_fits : (desk : Desk) {r : Record} {l next : Lower} {told : List Act} → IsFitDesk desk → IsFitId r.id → lower.Follows desk r l next told → AreFitActs told
below_said_fits desk fit id lower.follows_none = none_fit_said
below_said_fits desk {r = r} fit id lower.follows_start = both_fit_said (sent desk Entry (message.StartTransport r.id) fit (record { name = refl; values = (id, tt); numbers = tt; named = refl; short = tt; subs = tt; barcodes = tt })) (more_fit_said tt none_fit_said)
below_said_fits desk fit id lower.follows_ready = sent desk Entry (message.MachineReady quality.Unknown) fit (record { name = refl; values = (tt, tt); numbers = tt; named = refl; short = tt; subs = tt; barcodes = tt })

-- ---- where the board settles it is told

pub has_both : {id : ℕ} (one : List Act) {two : List Act} → HasSettled id two → HasSettled id (one ++ two)
has_both [] h = h
has_both (act ∷ one) h = has_later (has_both one h)

pub has_before : {id : ℕ} {one : List Act} (two : List Act) → HasSettled id one → HasSettled id (one ++ two)
has_before two has_first = has_first
has_before two (has_later h) = has_later (has_before two h)

abbrev pub is_settled : Lower → Bool
is_settled (settled again) = true
is_settled _ = false

-- it was settled before, or it is told now
abbrev pub Tells : ℕ → Lower → Lower → List Act → Type 0
Tells id l m told = is_settled m ≡ true → (is_settled l ≡ true) ⊎ HasSettled id told

pub tells_both : {id : ℕ} (l m n : Lower) (one two : List Act) → Tells id l m one → Tells id m n two → Tells id l n (one ++ two)
tells_both {id = id} l m n one two first next is = elim (next is) [ inl before ↦ elim (first before) [ inl earlier ↦ inl earlier | inr now ↦ inr (has_before two now) ] | inr later ↦ inr (has_both one later) ]

pub reads_tell : (desk : Desk) {r : Record} {l m : Lower} {seen : List SensorEvent} {told : List Act} → lower.Reads desk r l seen m told → Tells r.id l m told
reads_tell desk lower.reads_none is = inl is
reads_tell desk (lower.reads_begun {heard = heard} rs) is = elim (reads_tell desk rs is) [ inl before ↦ absurd (cc) | inr now ↦ inr now ]
reads_tell desk (lower.reads_full rs) is = elim (reads_tell desk rs is) [ inl before ↦ absurd (cc) | inr now ↦ inr (has_later (has_later now)) ]
reads_tell desk (lower.reads_full_heard rs) is = inr has_first

pub hears_tell : {r : Record} {l m : Lower} {what : Horizontal} {told : List Act} → lower.Hears r l what m told → Tells r.id l m told
hears_tell lower.hears_offer is = absurd (cc)
hears_tell lower.hears_end is = absurd (cc)
hears_tell lower.hears_end_inside is = inr has_first

pub follows_tell : (desk : Desk) {r : Record} {l next : Lower} {told : List Act} → lower.Follows desk r l next told → Tells r.id l next told
follows_tell desk lower.follows_none is = inl is
follows_tell desk lower.follows_start is = absurd (cc)
follows_tell desk lower.follows_ready is = inl refl
