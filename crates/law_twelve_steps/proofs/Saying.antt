-- What acts that close nothing do to the link and the gap at their side.
use Rattle.std.proofs.Common.{Bool, List, None, Some, [], ap, append-nil, append_assoc, arith, false, length, refl, suc, subst, sym, true, ℕ, ◌++◌, ◌∷◌, ◌≡◌, ◌≤◌}
use Rattle.std.proofs.lemmas.List.{length-append}
use Rattle.line_base.specs.declared.states.SensorEvent.{SensorEvent}
use Rattle.line_base.specs.declared.states.Role.TheVariants.{Downstream, Upstream}
use Rattle.line_base.specs.declared.states.Side.{Side}
use Rattle.line_base.specs.declared.states.Side.TheVariants.{Entry, Exit}
use Rattle.board_record.specs.declared.record.Record.{Record}
use Rattle.hermes_horizontal.specs.Canonical.{canonical}
use Rattle.hermes_horizontal.specs.declared.message.Horizontal.{Horizontal}
use Rattle.hermes_horizontal.specs.declared.message.Message.{Message}
use Rattle.line_link.specs.Link.{after_send}
use Rattle.line_world.specs.FloorPlan.{with_drive}
use Rattle.node_core.specs.declared.act.Act.{Act}
use Rattle.node_core.specs.declared.act.Act.TheVariants as acts
use Rattle.node_core.specs.declared.act.Deed.TheVariants as deeds
use Rattle.law_link_messages.specs.Fit.{AreFitActs, more_said as more_fit_said, sent_on}
use Rattle.law_link_messages.specs.Heard.{bodies}
use Rattle.line_step.specs.Numbered.{Between}
use Rattle.law_one_standing.proofs.Carrying.{SaysAlone}
use Rattle.law_twelve_steps.proofs.Lower.{Lower}
use Rattle.law_twelve_steps.proofs.Reaching.{all_between}
use Rattle.law_twelve_steps.proofs.Stage.{AreSaid, Way, Joint, crossed, done_above, done_below, drive_after, inside_first, left, left_heard, more_said, moving, none_said, offered, offered_ready, started, started_ready}
use Rattle.law_twelve_steps.proofs.Texts.{Carrying, sends_down, sends_up}
use Rattle.law_twelve_steps.proofs.Upper.{Upper}

longer : (down : List Message) (message : Message) (others : List Message) → length (down ++ message ∷ others) ≤ 15 → length (down ++ message ∷ []) ≤ 15
longer down message others few =
    let more = length-append down (message ∷ others) in
    let one = length-append down (message ∷ []) in
    omega (arith, few, more, one)

further : (down : List Message) (message : Message) (others : List Message) → down ++ message ∷ others ≡ (down ++ message ∷ []) ++ others
further down message others = sym (append_assoc down (message ∷ []) others)

-- ---- at the exit

pub exit_says : {u d : List ℕ} {up : List Message} → SaysAlone → (told : List Act) (down : List Message) (b : Between) → AreSaid Exit told → AreFitActs told → length (down ++ sent_on Exit told) ≤ 15 → Carrying u d b.link up down → Carrying u d (all_between Exit told b).link up (down ++ sent_on Exit told)
exit_says {u = u} {d = d} {up = up} alone [] down b said fit few c = subst (λ (ms : List Message). Carrying u d b.link up ms) (sym (append-nil down)) c
exit_says {u = u} {d = d} {up = up} alone (acts.Sends Exit message ∷ told) down b (more_said is said) (more_fit_said fit others) few c =
    let next : Between = record b { link = after_send Upstream (canonical message) b.link } in
    let one = sends_down alone b.link message fit (longer down message (sent_on Exit told) few) c in
    let less : length ((down ++ message ∷ []) ++ sent_on Exit told) ≤ 15 = subst (λ (ms : List Message). length ms ≤ 15) (further down message (sent_on Exit told)) few in
    subst (λ (ms : List Message). Carrying u d (all_between Exit told next).link up ms) (sym (further down message (sent_on Exit told))) (exit_says alone told (down ++ message ∷ []) next said others less one)
exit_says alone (acts.Drive Exit on ∷ told) down b (more_said is said) (more_fit_said fit others) few c = exit_says alone told down (record b { gap = with_drive b.gap Exit on }) said others few c
exit_says alone (acts.Sends Entry message ∷ told) down b (more_said is said) fit few c = absurd is
exit_says alone (acts.Drive Entry on ∷ told) down b (more_said is said) fit few c = absurd is
exit_says alone (act ∷ told) down b (more_said is said) fit few c = absurd is

pub exit_drives : (told : List Act) (b : Between) → AreSaid Exit told → (all_between Exit told b).gap ≡ with_drive b.gap Exit (drive_after told b.gap.exit_drive)
exit_drives [] b none_said = refl
exit_drives (acts.Sends Exit message ∷ told) b (more_said is said) = exit_drives told (record b { link = after_send Upstream (canonical message) b.link }) said
exit_drives (acts.Drive Exit on ∷ told) b (more_said is said) = exit_drives told (record b { gap = with_drive b.gap Exit on }) said
exit_drives (acts.Sends Entry message ∷ told) b (more_said is said) = absurd is
exit_drives (acts.Drive Entry on ∷ told) b (more_said is said) = absurd is
exit_drives (act ∷ told) b (more_said is said) = absurd is

-- ---- at the entry

pub entry_says : {u d : List ℕ} {down : List Message} → SaysAlone → (told : List Act) (up : List Message) (b : Between) → AreSaid Entry told → AreFitActs told → length (up ++ sent_on Entry told) ≤ 15 → Carrying u d b.link up down → Carrying u d (all_between Entry told b).link (up ++ sent_on Entry told) down
entry_says {u = u} {d = d} {down = down} alone [] up b said fit few c = subst (λ (ms : List Message). Carrying u d b.link ms down) (sym (append-nil up)) c
entry_says {u = u} {d = d} {down = down} alone (acts.Sends Entry message ∷ told) up b (more_said is said) (more_fit_said fit others) few c =
    let next : Between = record b { link = after_send Downstream (canonical message) b.link } in
    let one = sends_up alone b.link message fit (longer up message (sent_on Entry told) few) c in
    let less : length ((up ++ message ∷ []) ++ sent_on Entry told) ≤ 15 = subst (λ (ms : List Message). length ms ≤ 15) (further up message (sent_on Entry told)) few in
    subst (λ (ms : List Message). Carrying u d (all_between Entry told next).link ms down) (sym (further up message (sent_on Entry told))) (entry_says alone told (up ++ message ∷ []) next said others less one)
entry_says alone (acts.Drive Entry on ∷ told) up b (more_said is said) (more_fit_said fit others) few c = entry_says alone told up (record b { gap = with_drive b.gap Entry on }) said others few c
entry_says alone (acts.Deed (deeds.Settles id) ∷ told) up b (more_said is said) (more_fit_said fit others) few c = entry_says alone told up b said others few c
entry_says alone (acts.Sends Exit message ∷ told) up b (more_said is said) fit few c = absurd is
entry_says alone (acts.Drive Exit on ∷ told) up b (more_said is said) fit few c = absurd is
entry_says alone (acts.Deed deed ∷ told) up b (more_said is said) fit few c = absurd is
entry_says alone (act ∷ told) up b (more_said is said) fit few c = absurd is

pub entry_drives : (told : List Act) (b : Between) → AreSaid Entry told → (all_between Entry told b).gap ≡ with_drive b.gap Entry (drive_after told b.gap.entry_drive)
entry_drives [] b none_said = refl
entry_drives (acts.Sends Entry message ∷ told) b (more_said is said) = entry_drives told (record b { link = after_send Downstream (canonical message) b.link }) said
entry_drives (acts.Drive Entry on ∷ told) b (more_said is said) = entry_drives told (record b { gap = with_drive b.gap Entry on }) said
entry_drives (acts.Deed (deeds.Settles id) ∷ told) b (more_said is said) = entry_drives told b said
entry_drives (acts.Sends Exit message ∷ told) b (more_said is said) = absurd is
entry_drives (acts.Drive Exit on ∷ told) b (more_said is said) = absurd is
entry_drives (acts.Deed deed ∷ told) b (more_said is said) = absurd is
entry_drives (act ∷ told) b (more_said is said) = absurd is

-- ---- acts one behind the other

pub said_both : {side : Side} {one two : List Act} → AreSaid side one → AreSaid side two → AreSaid side (one ++ two)
said_both none_said two = two
said_both (more_said is one) two = more_said is (said_both one two)

pub drive_both : (one two : List Act) (was : Bool) → drive_after (one ++ two) was ≡ drive_after two (drive_after one was)
drive_both [] two was = refl
drive_both (act ∷ one) two was = drive_both one two _

pub sent_both : (side : Side) (one two : List Act) → AreSaid side one → sent_on side (one ++ two) ≡ sent_on side one ++ sent_on side two
sent_both side [] two said = refl
sent_both Exit (acts.Sends Exit message ∷ one) two (more_said is said) = ap (λ (ms : List Message). message ∷ ms) (sent_both Exit one two said)
sent_both Exit (acts.Drive Exit on ∷ one) two (more_said is said) = sent_both Exit one two said
sent_both Exit (acts.Sends Entry message ∷ one) two (more_said is said) = absurd is
sent_both Exit (acts.Drive Entry on ∷ one) two (more_said is said) = absurd is
sent_both Exit (act ∷ one) two (more_said is said) = absurd is
sent_both Entry (acts.Sends Entry message ∷ one) two (more_said is said) = ap (λ (ms : List Message). message ∷ ms) (sent_both Entry one two said)
sent_both Entry (acts.Drive Entry on ∷ one) two (more_said is said) = sent_both Entry one two said
sent_both Entry (acts.Deed (deeds.Settles id) ∷ one) two (more_said is said) = sent_both Entry one two said
sent_both Entry (acts.Sends Exit message ∷ one) two (more_said is said) = absurd is
sent_both Entry (acts.Drive Exit on ∷ one) two (more_said is said) = absurd is
sent_both Entry (acts.Deed deed ∷ one) two (more_said is said) = absurd is
sent_both Entry (act ∷ one) two (more_said is said) = absurd is

pub bodies_both : (one two : List Message) → bodies (one ++ two) ≡ bodies one ++ bodies two
bodies_both [] two = refl
bodies_both (message ∷ one) two = ap (λ (bs : List Horizontal). message.body ∷ bs) (bodies_both one two)

-- ---- few messages are in flight

pub bodies_count : (ms : List Message) → length (bodies ms) ≡ length ms
bodies_count [] = refl
bodies_count (m ∷ ms) = ap (λ (n : ℕ). suc n) (bodies_count ms)

-- few are in flight while a handover goes on
pub few_up : {a b : Record} {w : Way} {u : Upper} {l : Lower} {up_seen down_seen : List SensorEvent} {up down : List Horizontal} → Joint a b w u up_seen l down_seen up down → length up ≤ 15
few_up offered = omega arith
few_up offered_ready = omega arith
few_up started = omega arith
few_up started_ready = omega arith
few_up (moving above below) = omega arith
few_up (inside_first above) = omega arith
few_up (left past below) = omega arith
few_up (left_heard past below) = omega arith
few_up crossed = omega arith
few_up (done_below {again = true}) = omega arith
few_up (done_below {again = false}) = omega arith
few_up done_above = omega arith

pub few_down : {a b : Record} {w : Way} {u : Upper} {l : Lower} {up_seen down_seen : List SensorEvent} {up down : List Horizontal} → Joint a b w u up_seen l down_seen up down → length down ≤ 15
few_down offered = omega arith
few_down offered_ready = omega arith
few_down started = omega arith
few_down started_ready = omega arith
few_down (moving above below) = omega arith
few_down (inside_first above) = omega arith
few_down (left past below) = omega arith
few_down (left_heard past below) = omega arith
few_down crossed = omega arith
few_down done_below = omega arith
few_down (done_above {next = Some next}) = omega arith
few_down (done_above {next = None}) = omega arith
