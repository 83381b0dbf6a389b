-- What is read in time before a message is heard, where all is read; and that what is unread at the exit is no matter to a side that has read all.
use Rattle.std.proofs.Common.{List, [], refl, subst, sym, ◌∷◌, ◌≡◌}
use Rattle.line_base.specs.declared.states.Side.{Side}
use Rattle.line_base.specs.declared.states.Side.TheVariants.{Entry, Exit}
use Rattle.board_record.specs.declared.sensed.Sensed.{Sensed}
use Rattle.hermes_horizontal.specs.declared.message.Horizontal.{Horizontal}
use Rattle.hermes_horizontal.specs.declared.message.Horizontal.TheVariants as message
use Rattle.node_core.specs.Event.{Event, Words}
use Rattle.node_core.specs.declared.word.Word.{Word}
use Rattle.node_core.specs.declared.word.Word.TheVariants.{Says, Wrong}
use Rattle.law_custody.specs.Events.{with_unread_up}
use Rattle.law_custody.specs.Floor.{ExitFloor}
use Rattle.law_custody.specs.Pair.{Ghost, LinkState, Pair}
use Rattle.law_custody.specs.Unread.{all_is_read}
use Rattle.law_custody.specs.Words.{events_at}
use Rattle.law_machine_custody.specs.InTime.{AreInTime, IsInTime, IsMetInTime, none_in_time, says_in_time, wrong_in_time}

pub now_in_time : (side : Side) (what : Horizontal) → IsInTime side what []
now_in_time Entry (message.ServiceDescription service) = refl
now_in_time Entry (message.TransportFinished state id) = all_is_read
now_in_time Exit (message.StartTransport id) = refl
now_in_time _ _ = tt

pub all_in_time : (side : Side) (words : List Word) → AreInTime side [] words
all_in_time side [] = none_in_time
all_in_time side (Says message ∷ others) = says_in_time (now_in_time side message.body) (all_in_time side others)
all_in_time side (Wrong text ∷ others) = wrong_in_time

pub met_in_time : (event : Event) → IsMetInTime event []
met_in_time (Words side words) = all_in_time side words
met_in_time _ = tt

-- ---- what is unread at the exit

pub none_later_up : (g : Ghost) (l : LinkState) (us : List Sensed) → events_at Exit us ≡ [] → Pair g (with_unread_up l us) → Pair g (with_unread_up l [])
none_later_up g l us e k = record {
  out = subst (λ es. ExitFloor l.outlet.phase es l.around.between.exit_drive g.place g.board) e k.out;
  «in» = k.in;
  gap = k.gap;
  talk = k.talk;
}

pub still_later_up : (g : Ghost) (l : LinkState) (us : List Sensed) → events_at Exit us ≡ [] → Pair g (with_unread_up l []) → Pair g (with_unread_up l us)
still_later_up g l us e k = record {
  out = subst (λ es. ExitFloor l.outlet.phase es l.around.between.exit_drive g.place g.board) (sym e) k.out;
  «in» = k.in;
  gap = k.gap;
  talk = k.talk;
}
