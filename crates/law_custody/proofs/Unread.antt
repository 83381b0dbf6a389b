-- What a machine has read before an input, where it has not read all.
use Rattle.std.proofs.Common.{List, []}
use Rattle.line_base.specs.declared.states.SensorEvent.{SensorEvent}
use Rattle.line_base.specs.declared.states.SensorEvent.TheVariants as event
use Rattle.law_custody.specs.Facts.{Has}
use Rattle.law_custody.specs.Place.{Place}
use Rattle.law_custody.specs.Unread.{NotOver}

-- an exit has read that its board has begun, where it did
pub record HasRead (ue : List SensorEvent) : Type 0 where
  pub begun : Has event.Begun ue → ⊥

pub all_read : HasRead []
all_read = record { begun = λ h. elim h [ ] }

-- an entry has read that its board begins, where it went across
abbrev pub ReadFirst : List SensorEvent → Place → Type 0
ReadFirst un p = Has event.Begun un → NotOver p

pub none_unread : {p : Place} → ReadFirst [] p
none_unread h = elim h [ ]
