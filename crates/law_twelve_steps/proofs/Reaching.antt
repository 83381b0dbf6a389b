-- What a machine's acts do to the link and the gap at one side: what those acts do that reach that side.
use Rattle.std.proofs.Common.{Bool, List, [], ap, false, refl, sym, true, ℕ, ◌++◌, ◌∙◌, ◌∷◌, ◌≡◌}
use Rattle.line_base.specs.declared.states.Side.{Side}
use Rattle.line_base.specs.declared.states.Side.TheVariants.{Entry, Exit}
use Rattle.hermes_horizontal.specs.Canonical.{canonical}
use Rattle.hermes_horizontal.specs.declared.message.Message.{Message}
use Rattle.line_link.specs.Link.{after_close, after_send}
use Rattle.line_world.specs.FloorPlan.{with_drive}
use Rattle.node_core.specs.declared.act.Act.{Act}
use Rattle.node_core.specs.declared.act.Act.TheVariants as acts
use Rattle.node_core.specs.declared.act.Deed.{Deed}
use Rattle.node_core.specs.declared.act.Deed.TheVariants as deeds
use Rattle.line_step.specs.Acts.{answers}
use Rattle.line_step.specs.Near.{Near, near_did, near_driven, near_sent, nears_did}
use Rattle.line_step.specs.Numbered.{Between}
use Rattle.line_step.specs.World.{end_of}
use Rattle.law_twelve_steps.proofs.Beside.{reach, reaches}

-- one act that reaches the link and the gap of a side
abbrev pub did_between : Side → Act → Between → Between
did_between side (acts.Sends at message) b = record b { link = after_send (end_of side) (canonical message) b.link }
did_between side (acts.Closes at) b = record b { link = after_close (end_of side) b.link }
did_between side (acts.Notices at) b = record b { link = after_close (end_of side) b.link }
did_between side (acts.Drive at on) b = record b { gap = with_drive b.gap side on }
did_between side _ b = b

abbrev pub all_between : Side → List Act → Between → Between
all_between side [] b = b
all_between side (act ∷ others) b = all_between side others (did_between side act b)

pub between_append : (side : Side) (a c : List Act) (b : Between) → all_between side (a ++ c) b ≡ all_between side c (all_between side a b)
between_append side [] c b = refl
between_append side (act ∷ a) c b = between_append side a c (did_between side act b)

-- ---- at the exit, where no second connection is answered

driven_exit : (test on : Bool) (near : Near) → test ≡ true → (near_driven test Exit on near).below ≡ record near.below { gap = with_drive near.below.gap Exit on }
driven_exit true on near there = refl
driven_exit false on near there = absurd (cc)

driven_below : (test on : Bool) (near : Near) → (near_driven test Entry on near).below ≡ near.below
driven_below true on near = refl
driven_below false on near = refl

exit_act : (has : Side → Bool) (act : Act) (near : Near) → has Exit ≡ true → (near_did has false act near).below ≡ all_between Exit (reach Exit act) near.below
exit_act has (acts.Sends Entry message) near there = refl
exit_act has (acts.Closes Entry) near there = refl
exit_act has (acts.Notices Entry) near there = refl
exit_act has (acts.Drive Entry on) near there = driven_below (has Entry) on near
exit_act has (acts.Drive Exit on) near there = driven_exit (has Exit) on near there
exit_act has _ near there = refl

pub below_of : (has : Side → Bool) (told : List Act) (near : Near) → has Exit ≡ true → (nears_did has false told near).below ≡ all_between Exit (reaches Exit told) near.below
below_of has [] near there = refl
below_of has (act ∷ told) near there =
    below_of has told (near_did has false act near) there ∙ ap (λ (b : Between). all_between Exit (reaches Exit told) b) (exit_act has act near there) ∙ sym (between_append Exit (reach Exit act) (reaches Exit told) near.below)

-- ---- at the entry, whatever is answered at the exit

sent_above : (test : Bool) (text : List ℕ) (near : Near) → (near_sent test Exit text near).above ≡ near.above
sent_above true text near = refl
sent_above false text near = refl

sent_entry : (second : Bool) (message : Message) (near : Near) → (near_sent (answers second Entry message) Entry (canonical message) near).above ≡ record near.above { link = after_send (end_of Entry) (canonical message) near.above.link }
sent_entry true message near = refl
sent_entry false message near = refl

driven_entry : (test on : Bool) (near : Near) → test ≡ true → (near_driven test Entry on near).above ≡ record near.above { gap = with_drive near.above.gap Entry on }
driven_entry true on near there = refl
driven_entry false on near there = absurd (cc)

driven_above : (test on : Bool) (near : Near) → (near_driven test Exit on near).above ≡ near.above
driven_above true on near = refl
driven_above false on near = refl

deed_act : (has : Side → Bool) (second : Bool) (deed : Deed) (near : Near) → near.above ≡ all_between Entry (reach Entry (acts.Deed deed)) near.above
deed_act has second (deeds.Settles id) near = refl
deed_act has second _ near = refl

entry_act : (has : Side → Bool) (second : Bool) (act : Act) (near : Near) → has Entry ≡ true → (near_did has second act near).above ≡ all_between Entry (reach Entry act) near.above
entry_act has second (acts.Sends Entry message) near there = sent_entry second message near
entry_act has second (acts.Sends Exit message) near there = sent_above (answers second Exit message) (canonical message) near
entry_act has second (acts.Closes Entry) near there = refl
entry_act has second (acts.Notices Entry) near there = refl
entry_act has second (acts.Drive Entry on) near there = driven_entry (has Entry) on near there
entry_act has second (acts.Drive Exit on) near there = driven_above (has Exit) on near
entry_act has second (acts.Deed deed) near there = deed_act has second deed near
entry_act has second _ near there = refl

pub above_of : (has : Side → Bool) (second : Bool) (told : List Act) (near : Near) → has Entry ≡ true → (nears_did has second told near).above ≡ all_between Entry (reaches Entry told) near.above
above_of has second [] near there = refl
above_of has second (act ∷ told) near there =
    above_of has second told (near_did has second act near) there ∙ ap (λ (b : Between). all_between Entry (reaches Entry told) b) (entry_act has second act near there) ∙ sym (between_append Entry (reach Entry act) (reaches Entry told) near.above)

-- ---- no act of a machine leaves it an event unread

sent_unread : (test : Bool) (side : Side) (text : List ℕ) (near : Near) → (near_sent test side text near).place.unread ≡ near.place.unread
sent_unread true side text near = refl
sent_unread false Entry text near = refl
sent_unread false Exit text near = refl

driven_unread : (test on : Bool) (side : Side) (near : Near) → (near_driven test side on near).place.unread ≡ near.place.unread
driven_unread true on Entry near = refl
driven_unread true on Exit near = refl
driven_unread false on side near = refl

unread_act : (has : Side → Bool) (second : Bool) (act : Act) (near : Near) → (near_did has second act near).place.unread ≡ near.place.unread
unread_act has second (acts.Sends side message) near = sent_unread (answers second side message) side (canonical message) near
unread_act has second (acts.Closes Entry) near = refl
unread_act has second (acts.Notices Entry) near = refl
unread_act has second (acts.Drive side on) near = driven_unread (has side) on side near
unread_act has second _ near = refl

pub unread_of : (has : Side → Bool) (second : Bool) (told : List Act) (near : Near) → (nears_did has second told near).place.unread ≡ near.place.unread
unread_of has second [] near = refl
unread_of has second (act ∷ told) near = unread_of has second told (near_did has second act near) ∙ unread_act has second act near
