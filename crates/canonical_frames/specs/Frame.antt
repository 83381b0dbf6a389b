-- Frames that are spelled as the writer spells their message.
use Rattle.std.specs.Prelude.{◌≡◌, ◌≢◌, ℕ, List}
use Rattle.hermes_horizontal.specs.Canonical.{canonical, IsWritable, IsProperMessage}
use Rattle.hermes_horizontal.specs.Parts.{kind_of}
use Rattle.hermes_horizontal.specs.Spelling.{Spells}
use Rattle.hermes_horizontal.specs.declared.kind.Kind.TheVariants as kinds
use Rattle.hermes_horizontal.specs.declared.message.Message.{Message}

-- THE FRAME IS CANONICAL: what is written of some message of a known name is this frame, byte for
-- byte, and it is read as that message
pub record IsCanonical (frame : List ℕ) : Type 0 where
  pub message : Message
  pub named : kind_of message.body ≢ kinds.Other
  pub writable : IsWritable message
  pub proper : IsProperMessage message
  pub written : canonical message ≡ frame
  pub spelled : Spells frame message
