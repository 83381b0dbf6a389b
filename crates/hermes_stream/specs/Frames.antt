-- The messages of a stream, and what follows them: on the whole list of its bytes.
use Rattle.std.specs.Prelude.{◌≡◌, ◌≤◌, ℕ, zero, suc, ◌+◌, ◌==◌, ◌||◌, Bool, List, [], ◌∷◌, ◌++◌, Option, None, Some, length, take, drop, nat_lt, nat_eq, codes, if◌then◌else◌, unwrap_or, option_map}
use Rattle.std.specs.List.{starts_with}

-- the most bytes that a message has, its end included
abbrev pub most_bytes : ℕ
most_bytes = 65536

-- what ends every message
abbrev pub end_tag : List ℕ
end_tag = codes "</Hermes>"

-- a space, a tab, a line feed or a carriage return
abbrev pub is_blank : ℕ → Bool
is_blank b = b == 32 || b == 9 || b == 10 || b == 13

-- the bytes from the first that is no blank on
abbrev pub without_blanks : List ℕ → List ℕ
without_blanks [] = []
without_blanks (b ∷ bytes) = if is_blank b then without_blanks bytes else b ∷ bytes

-- the end of a message stands at the front of the bytes
abbrev pub begins_with_end : List ℕ → Bool
begins_with_end bytes = starts_with nat_eq bytes end_tag

-- how many bytes there are through the first end of a message
abbrev pub first_end : List ℕ → Option ℕ
first_end [] = None
first_end (b ∷ bytes) =
    if begins_with_end (b ∷ bytes) then Some 9 else option_map (λ n. n + 1) (first_end bytes)

-- what stands at the front of a stream: a message, a rest that may go on to one, or too many bytes
-- without an end
pub data Answer : Type 0 where
  Frame : List ℕ → Answer
  NeedMore : Answer
  TooLong : Answer

-- where a message ends, counted from its first byte: no later than after the most bytes
abbrev pub end_within : List ℕ → Option ℕ
end_within message = first_end (take most_bytes message)

-- the answer for bytes without blanks before them, and where the message ends
abbrev pub answer_at : List ℕ → Option ℕ → Answer
answer_at message (Some n) = Frame (take n message)
answer_at message None = if nat_lt (length message) most_bytes then NeedMore else TooLong

-- what stands at the front of the bytes, once the blanks before it are dropped
unfoldable pub answer_of : List ℕ → Answer
answer_of bytes = answer_at (without_blanks bytes) (end_within (without_blanks bytes))

-- the bytes behind that message; without one, the bytes without the blanks before them
unfoldable pub left_of : List ℕ → List ℕ
left_of bytes = drop (unwrap_or (end_within (without_blanks bytes)) 0) (without_blanks bytes)

-- the messages of a stream in order, and the rest behind them: fewer bytes than the most without
-- an end, or None, too long, where the most bytes stand without one
pub record Frames : Type 0 where
  pub messages : List (List ℕ)
  pub rest : Option (List ℕ)

-- the frames of a stream behind some messages more
abbrev pub behind : List (List ℕ) → Frames → Frames
behind messages frames = record { messages = messages ++ frames.messages; rest = frames.rest }

-- the frames of a stream: of what stands at its front, of what is left then, and of what is behind
-- that
abbrev pub joined : Answer → List ℕ → Frames → Frames
joined (Frame message) left later = behind (message ∷ []) later
joined NeedMore left later = record { messages = []; rest = Some left }
joined TooLong left later = record { messages = []; rest = None }

-- the frames of a stream of fewer than so many messages
unfoldable pub frames_within : ℕ → List ℕ → Frames
frames_within zero bytes = record { messages = []; rest = None }
frames_within (suc more) bytes =
    joined (answer_of bytes) (left_of bytes) (frames_within more (left_of bytes))

-- the frames of a stream. Each message has nine bytes at least, so there are fewer than bytes and
-- one
unfoldable pub frames_of : List ℕ → Frames
frames_of bytes = frames_within (length bytes + 1) bytes

-- the bytes are one message of a stream with nothing behind it, and few enough
pub record IsOneFrame (bytes : List ℕ) : Type 0 where
  pub frames : frames_of bytes ≡ record { messages = bytes ∷ []; rest = Some [] }
  pub short : length bytes ≤ most_bytes
