-- The messages whose text a stream carries whole.
use Rattle.std.specs.Prelude.{◌≤◌, length}
use Rattle.hermes_horizontal.specs.declared.message.Horizontal.{Horizontal}
use Rattle.hermes_horizontal.specs.declared.message.Horizontal.TheVariants as bodies

-- An unknown name is of at most 65,480 bytes: the text of a message of a longer one, with its
-- Timestamp, has more bytes than a message of a stream may have. The texts of the thirteen known
-- messages are all short enough.
abbrev pub HasShortName : Horizontal → Type 0
HasShortName (bodies.Other name) = length name ≤ 65_480
HasShortName _ = Unit {0}
