-- A machine's one list of events, side by side, and the words of the messages of a link.
use Rattle.std.proofs.Common.{Bool, List, [], ap, append-nil, false, refl, sym, true, ◌++◌, ◌∙◌, ◌∷◌, ◌≡◌}
use Rattle.line_base.specs.declared.states.SensorEvent.{SensorEvent}
use Rattle.line_base.specs.declared.states.Side.{Side}
use Rattle.line_base.specs.declared.states.Side.TheVariants as sides
use Rattle.board_record.specs.declared.sensed.Sensed.{Sensed}
use Rattle.hermes_horizontal.specs.declared.message.Horizontal.{Horizontal}
use Rattle.hermes_horizontal.specs.declared.message.Horizontal.TheVariants as message
use Rattle.line_world.specs.Moves.{entry_sees, exit_sees}
use Rattle.law_custody.specs.Words.{DownWord, UpWord, before_down, before_event, before_up, down_words, events_at, sent, up_words}

before_exit : (d : Side) (e : SensorEvent) (xs ys : List SensorEvent) → before_event sides.Exit d e (xs ++ ys) ≡ before_event sides.Exit d e xs ++ ys
before_exit sides.Exit e xs ys = refl
before_exit sides.Entry e xs ys = refl

before_entry : (d : Side) (e : SensorEvent) (xs ys : List SensorEvent) → before_event sides.Entry d e (xs ++ ys) ≡ before_event sides.Entry d e xs ++ ys
before_entry sides.Exit e xs ys = refl
before_entry sides.Entry e xs ys = refl

pub exit-append : (ss ts : List Sensed) → events_at sides.Exit (ss ++ ts) ≡ events_at sides.Exit ss ++ events_at sides.Exit ts
exit-append [] ts = refl
exit-append (s ∷ ss) ts = ap (before_event sides.Exit s.side s.event) (exit-append ss ts) ∙ before_exit s.side s.event (events_at sides.Exit ss) (events_at sides.Exit ts)

pub entry-append : (ss ts : List Sensed) → events_at sides.Entry (ss ++ ts) ≡ events_at sides.Entry ss ++ events_at sides.Entry ts
entry-append [] ts = refl
entry-append (s ∷ ss) ts = ap (before_event sides.Entry s.side s.event) (entry-append ss ts) ∙ before_entry s.side s.event (events_at sides.Entry ss) (events_at sides.Entry ts)

-- an event of the other side is not in the list of this one
pub exit_other : (ss : List Sensed) (e : SensorEvent) → events_at sides.Exit (ss ++ (entry_sees e ∷ [])) ≡ events_at sides.Exit ss
exit_other ss e = exit-append ss _ ∙ append-nil _

pub entry_other : (ss : List Sensed) (e : SensorEvent) → events_at sides.Entry (ss ++ (exit_sees e ∷ [])) ≡ events_at sides.Entry ss
entry_other ss e = entry-append ss _ ∙ append-nil _

-- the words of messages that are said at the end
before_up-append : (m : Horizontal) (xs ys : List UpWord) → before_up m (xs ++ ys) ≡ before_up m xs ++ ys
before_up-append (message.MachineReady _) xs ys = refl
before_up-append _ xs ys = refl

before_down-append : (m : Horizontal) (xs ys : List DownWord) → before_down m (xs ++ ys) ≡ before_down m xs ++ ys
before_down-append (message.BoardAvailable _) xs ys = refl
before_down-append _ xs ys = refl

pub up_words-append : (ms ns : List Horizontal) → up_words (ms ++ ns) ≡ up_words ms ++ up_words ns
up_words-append [] ns = refl
up_words-append (m ∷ ms) ns = ap (before_up m) (up_words-append ms ns) ∙ before_up-append m (up_words ms) (up_words ns)

pub down_words-append : (ms ns : List Horizontal) → down_words (ms ++ ns) ≡ down_words ms ++ down_words ns
down_words-append [] ns = refl
down_words-append (m ∷ ms) ns = ap (before_down m) (down_words-append ms ns) ∙ before_down-append m (down_words ms) (down_words ns)

sent_standing : {A : Type 0} (ws xs : List A) → sent ws true xs ≡ xs ++ ws
sent_standing [] xs = sym (append-nil xs)
sent_standing (w ∷ ws) xs = refl

sent_apart : {A : Type 0} (ws xs : List A) → xs ≡ sent ws false xs
sent_apart [] xs = refl
sent_apart (w ∷ ws) xs = refl

pub sent_down : (b : Bool) (ms ds : List Horizontal) → down_words (sent ms b ds) ≡ sent (down_words ms) b (down_words ds)
sent_down true ms ds = ap down_words (sent_standing ms ds) ∙ down_words-append ds ms ∙ sym (sent_standing (down_words ms) (down_words ds))
sent_down false [] ds = refl
sent_down false (m ∷ ms) ds = sent_apart (down_words (m ∷ ms)) (down_words ds)

pub sent_up : (b : Bool) (ms us : List Horizontal) → up_words (sent ms b us) ≡ sent (up_words ms) b (up_words us)
sent_up true ms us = ap up_words (sent_standing ms us) ∙ up_words-append us ms ∙ sym (sent_standing (up_words ms) (up_words us))
sent_up false [] us = refl
sent_up false (m ∷ ms) us = sent_apart (up_words (m ∷ ms)) (up_words us)
