-- The connections of a link: how the two ends stand to each, and what is on its way on it.
use Rattle.std.specs.Prelude.{ℕ, Bool, true, false, List, [], ◌∷◌, ◌++◌, ◌-◌, drop, map, max}
use Rattle.line_base.specs.declared.states.Side.{Side}
use Rattle.line_base.specs.declared.states.Side.TheVariants.{Entry, Exit}

-- how an end stands to a connection: it has not come there (below, it was asked for; above, it was
-- not taken); the end has it; or the end has left it: closed, refused, given up or lost
pub data Hold : Type 0 where
  Awaits : Hold
  Has : Hold
  Left : Hold

-- a byte on its way, and how many of the sensor events that its receiver's side had not read when
-- it was said are unread still. No machine knows that number: it says which came first
pub record Coming : Type 0 where
  pub byte : ℕ
  pub behind : ℕ

-- one connection: how the exit of the machine above stands to it, how the entry of the machine
-- below does, and what is on its way to each
pub record Wire : Type 0 where
  pub above : Hold
  pub below : Hold
  pub up : List Coming
  pub down : List Coming

-- one that the machine below has asked for
abbrev pub asked_for : Wire
asked_for = record { above = Awaits; below = Awaits; up = []; down = [] }

-- ---- what is on its way

abbrev pub bytes_of : List Coming → List ℕ
bytes_of coming = map (λ (c : Coming). c.byte) coming

-- a text, said when its receiver had so many events unread
abbrev pub text_behind : ℕ → List ℕ → List Coming
text_behind unread text = map (λ (byte : ℕ). record { byte = byte; behind = unread }) text

-- the receiver's side has read so many more
abbrev pub with_read : ℕ → List Coming → List Coming
with_read count coming = map (λ (c : Coming). record c { behind = c.behind - count }) coming

-- behind how many unread events the last of these was said
abbrev pub most_behind : List Coming → ℕ
most_behind [] = 0
most_behind (c ∷ others) = max c.behind (most_behind others)

-- ---- the end of a machine's side, and the end beyond

abbrev pub end_at : Side → Wire → Hold
end_at Exit wire = wire.above
end_at Entry wire = wire.below

abbrev pub end_beyond : Side → Wire → Hold
end_beyond Exit wire = wire.below
end_beyond Entry wire = wire.above

abbrev pub coming_to : Side → Wire → List Coming
coming_to Exit wire = wire.up
coming_to Entry wire = wire.down

abbrev pub with_end : Side → Hold → Wire → Wire
with_end Exit hold wire = record wire { above = hold }
with_end Entry hold wire = record wire { below = hold }

abbrev pub with_coming_to : Side → List Coming → Wire → Wire
with_coming_to Exit coming wire = record wire { up = coming }
with_coming_to Entry coming wire = record wire { down = coming }

abbrev pub with_said_by : Side → List Coming → Wire → Wire
with_said_by Exit coming wire = record wire { down = wire.down ++ coming }
with_said_by Entry coming wire = record wire { up = wire.up ++ coming }

-- the first where an end has it, and else the second
abbrev pub if_has : Hold → Wire → Wire → Wire
if_has Has new old = new
if_has Awaits new old = old
if_has Left new old = old

-- the first where an end can still be given what is said to it
abbrev pub if_reached : Hold → Wire → Wire → Wire
if_reached Awaits new old = new
if_reached Has new old = new
if_reached Left new old = old

abbrev pub has : Hold → Bool
has Has = true
has Awaits = false
has Left = false

-- ---- what a side does to a connection

-- it says this, where it has the connection: to an end that hasn't left it
abbrev pub said : Side → List Coming → Wire → Wire
said side coming wire =
    if_has (end_at side wire)
    (if_reached (end_beyond side wire) (with_said_by side coming wire) wire) wire

-- it is given so many bytes, where it has the connection
abbrev pub given : Side → ℕ → Wire → Wire
given side count wire =
    if_has (end_at side wire) (with_coming_to side (drop count (coming_to side wire)) wire) wire

-- it leaves the connection, if it has it: what was on its way to it is gone
abbrev pub left : Side → Wire → Wire
left side wire =
    if_has (end_at side wire) (with_end side Left (with_coming_to side [] wire)) wire

-- it has read so many more events
abbrev pub read_at : Side → ℕ → Wire → Wire
read_at side count wire = with_coming_to side (with_read count (coming_to side wire)) wire
