-- What flows in one direction of a link.
use Rattle.std.specs.Prelude.{ℕ, ◌+◌, ◌-◌, ◌==◌, Bool, List, [], ◌∷◌, ◌++◌, Option, None, Some, drop, length, min, nat_lt, if◌then◌else◌}
use Rattle.line_base.specs.declared.states.Role.{Role}
use Rattle.line_base.specs.declared.states.Role.TheVariants.{Upstream, Downstream}
use Rattle.line_link.specs.Texts.{bytes_of, with_byte_in_first}

-- the texts that were sent and have not wholly arrived, the oldest first, and how many bytes of
-- the oldest have arrived
pub record Stream : Type 0 where
  pub texts : List (List ℕ)
  pub arrived : ℕ

-- nothing is on its way
abbrev pub dry : Stream
dry = record { texts = []; arrived = 0 }

-- the bytes that have not arrived
abbrev pub coming : Stream → List ℕ
coming stream = drop stream.arrived (bytes_of stream.texts)

-- a text is sent; an empty one is nothing
abbrev pub with_text : List ℕ → Stream → Stream
with_text [] stream = stream
with_text (byte ∷ bytes) stream = record stream { texts = stream.texts ++ (byte ∷ bytes) ∷ [] }

-- so many bytes of some texts have arrived, counted from the front of the oldest: the texts that
-- have wholly arrived go
abbrev pub reached : ℕ → List (List ℕ) → Stream
reached count [] = dry
reached count (text ∷ texts) =
    if nat_lt count (length text) then record {
      texts = text ∷ texts;
      arrived = count;
    } else reached (count - length text) texts

-- so many more bytes arrive, or what there is
abbrev pub with_arrival : ℕ → Stream → Stream
with_arrival count stream = reached (stream.arrived + count) stream.texts

-- how many bytes of the oldest text have not arrived
abbrev pub rest_of : List (List ℕ) → ℕ → ℕ
rest_of [] arrived = 0
rest_of (text ∷ texts) arrived = length text - arrived

-- how many bytes a flow delivers: so many or what there is, or the rest of the oldest text
abbrev pub flowing : Option ℕ → Stream → ℕ
flowing None stream = rest_of stream.texts stream.arrived
flowing (Some count) stream = min count (length (coming stream))

-- a NUL byte is put before the next byte to arrive: into the oldest text, or as a text of its own
-- where there is none
abbrev pub nul_put : List (List ℕ) → ℕ → Stream
nul_put [] arrived = record { texts = (0 ∷ []) ∷ []; arrived = 0 }
nul_put (text ∷ texts) arrived =
    record { texts = with_byte_in_first arrived 0 (text ∷ texts); arrived = arrived }

abbrev pub with_nul : Stream → Stream
with_nul stream = nul_put stream.texts stream.arrived

-- of the oldest text not all has arrived, and where there is no text nothing has
abbrev pub is_begun : List (List ℕ) → ℕ → Bool
is_begun [] arrived = arrived == 0
is_begun (text ∷ texts) arrived = nat_lt arrived (length text)

-- what flows to each end of a link
pub record Streams : Type 0 where
  pub to_upstream : Stream
  pub to_downstream : Stream

-- nothing flows
abbrev pub both_dry : Streams
both_dry = record { to_upstream = dry; to_downstream = dry }

-- what flows to the end of this role
abbrev pub stream_to : Role → Streams → Stream
stream_to Upstream streams = streams.to_upstream
stream_to Downstream streams = streams.to_downstream

abbrev pub with_stream_to : Role → Stream → Streams → Streams
with_stream_to Upstream stream streams = record streams { to_upstream = stream }
with_stream_to Downstream stream streams = record streams { to_downstream = stream }
