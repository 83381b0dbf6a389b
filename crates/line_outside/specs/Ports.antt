-- What ports may answer.
use Rattle.std.specs.Prelude.{◌≡◌, ◌≤◌, ◌++◌, ℕ, Bool, true, List, [], ◌∷◌, Option, None, Some, length}
use Rattle.line_outside.specs.Faults.{Rose}
use Rattle.line_outside.specs.Given.{Given}
use Rattle.line_outside.specs.declared.ports.Got.{Got}
use Rattle.line_outside.specs.declared.ports.Got.TheVariants as gots
use Rattle.line_outside.specs.declared.ports.Opened.{Opened}
use Rattle.line_outside.specs.declared.ports.Opened.TheVariants as opens
use Rattle.line_outside.specs.declared.ports.Sent.{Sent}
use Rattle.line_outside.specs.declared.ports.Sent.TheVariants as sents

-- these calls came behind those before, where they are told; what is untold stays untold
abbrev pub Gains : Option (List Given) → Option (List Given) → List Given → Type 0
Gains None None calls = Unit {0}
Gains (Some old) None calls = Unit {0}
Gains None (Some new) calls = ⊥
Gains (Some old) (Some new) calls = new ≡ old ++ calls

-- a count of faults never falls, and a failure comes only where it rose
abbrev pub HasOpenCause : ℕ → ℕ → Opened → Type 0
HasOpenCause before now opens.Done = before ≤ now
HasOpenCause before now opens.Failed = (before ≤ now) × Rose before now

abbrev pub HasGotCause : ℕ → ℕ → Got → Type 0
HasGotCause before now gots.Failed = (before ≤ now) × Rose before now
HasGotCause before now gots.Arrived = before ≤ now
HasGotCause before now gots.Second = before ≤ now
HasGotCause before now (gots.Bytes n) = before ≤ now
HasGotCause before now gots.NotYet = before ≤ now
HasGotCause before now gots.Closed = before ≤ now

abbrev pub HasSentCause : ℕ → ℕ → Sent → Type 0
HasSentCause before now sents.Failed = (before ≤ now) × Rose before now
HasSentCause before now (sents.Took n) = before ≤ now
HasSentCause before now sents.NotYet = before ≤ now
HasSentCause before now sents.Closed = before ≤ now

-- bytes are at least one, and fit the room
abbrev pub IsGotWithin : ℕ → Got → Type 0
IsGotWithin room (gots.Bytes n) = (1 ≤ n) × (n ≤ room)
IsGotWithin room gots.Arrived = Unit {0}
IsGotWithin room gots.Second = Unit {0}
IsGotWithin room gots.NotYet = Unit {0}
IsGotWithin room gots.Closed = Unit {0}
IsGotWithin room gots.Failed = Unit {0}

-- no bytes, whatever the room
abbrev pub IsGotBare : Got → Type 0
IsGotBare got = (room : ℕ) → IsGotWithin room got

-- what is taken is at least one byte of the piece
abbrev pub IsSentWithin : List ℕ → Sent → Type 0
IsSentWithin piece (sents.Took n) = (1 ≤ n) × (n ≤ length piece)
IsSentWithin piece sents.NotYet = Unit {0}
IsSentWithin piece sents.Closed = Unit {0}
IsSentWithin piece sents.Failed = Unit {0}

-- no bytes were taken, whatever the piece
abbrev pub IsSentBare : Sent → Type 0
IsSentBare sent = (piece : List ℕ) → IsSentWithin piece sent

-- of an empty piece nothing is taken, unless the call fails
abbrev pub IsNoneTaken : Sent → Type 0
IsNoneTaken (sents.Took n) = n ≡ 0
IsNoneTaken sents.NotYet = ⊥
IsNoneTaken sents.Closed = ⊥
IsNoneTaken sents.Failed = Unit {0}

abbrev pub IsRefusedWithin : List ℕ → Sent → Type 0
IsRefusedWithin [] sent = IsNoneTaken sent
IsRefusedWithin (byte ∷ bytes) sent = IsSentWithin (byte ∷ bytes) sent

-- a poll finds nothing only where nothing was there, where that is told
abbrev pub IsQuiet : Option Bool → Got → Type 0
IsQuiet None got = Unit {0}
IsQuiet (Some quiet) gots.NotYet = quiet ≡ true
IsQuiet (Some quiet) _ = Unit {0}

-- no byte is taken only where none could be, where that is told
abbrev pub IsStuck : Option Bool → Sent → Type 0
IsStuck None sent = Unit {0}
IsStuck (Some stuck) sents.NotYet = stuck ≡ true
IsStuck (Some stuck) _ = Unit {0}
