-- EACH FRAME IS SPELLED OR REFUSED: there are no other bytes.
use Rattle.std.specs.Prelude.{ℕ, List}
use Rattle.hermes_horizontal.specs.Spelling.{IsRefused, Spells}
use Rattle.hermes_horizontal.specs.declared.fault.Fault.{Fault}
use Rattle.hermes_horizontal.specs.declared.message.Message.{Message}

-- bytes spell a message, or are refused at a place and for a reason
pub data IsSpelledOrRefused (bytes : List ℕ) : Type 0 where
  spelled : (message : Message) → Spells bytes message → IsSpelledOrRefused bytes
  refused : (at : ℕ) (why : Fault) → IsRefused bytes at why → IsSpelledOrRefused bytes

abbrev pub EachIsSpelledOrRefused : Type 0
EachIsSpelledOrRefused = (bytes : List ℕ) → IsSpelledOrRefused bytes
