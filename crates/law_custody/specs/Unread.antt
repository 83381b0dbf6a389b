-- What may be unread where a machine takes an input before it has read all that its sensors saw.
use Rattle.std.specs.Prelude.{List, [], ℕ, ◌≡◌}
use Rattle.line_base.specs.declared.states.SensorEvent.{SensorEvent}
use Rattle.line_base.specs.declared.states.SensorEvent.TheVariants as event
use Rattle.line_base.specs.declared.states.Side.TheVariants as sides
use Rattle.line_base.specs.declared.states.Transfer.{Transfer}
use Rattle.line_base.specs.declared.states.Transfer.TheVariants as transfer
use Rattle.law_custody.specs.Facts.{Has}
use Rattle.law_custody.specs.Pair.{Ghost, LinkState}
use Rattle.law_custody.specs.Place.{Fresh, Home, InGap, Lost, Place}
use Rattle.law_custody.specs.Words.{DownWord, TransportFinished, UpstreamService, events_at}

-- the board has not gone across the gap
pub data NotOver : Place → Type 0 where
  not_over_fresh : NotOver Fresh
  not_over_home : NotOver Home
  not_over_in_gap : NotOver InGap
  not_over_lost : NotOver Lost

-- each board was let go behind the reading: none began but as the exit read so, and none went
-- across before the entry had read that it begins
pub record IsBehind (g : Ghost) (l : LinkState) : Type 0 where
  pub exit : Has event.Begun (events_at sides.Exit l.around.up.unread) → ⊥
  pub entry : Has event.Begun (events_at sides.Entry l.around.down.unread) → NotOver g.place

-- before the end of a transfer is heard all is read, unless it is one that is complete: a board
-- that has left may have come in, or have been taken out, since that was said
pub data IsEndRead : Transfer → List SensorEvent → Type 0 where
  all_is_read : {e : Transfer} → IsEndRead e []
  is_complete : {es : List SensorEvent} → IsEndRead transfer.Complete es

-- a word that tells the entry where the board is: the upstream machine's description, and the end of
-- a transfer that isn't complete
pub data IsAwaited : DownWord → Type 0 where
  awaits_description : IsAwaited UpstreamService
  awaits_end : {e : Transfer} {z : ℕ} → (e ≡ transfer.Complete → ⊥)
      → IsAwaited (TransportFinished e z)
