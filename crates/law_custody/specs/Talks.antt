-- How the two ends of a link stand to one another.
use Rattle.std.specs.Prelude.{Bool, List, None, Option, [], false, true, ℕ, ◌∷◌}
use Rattle.line_base.specs.declared.states.Seen.TheVariants as seen
use Rattle.board_record.specs.declared.record.Record.{Record}
use Rattle.session_core.specs.declared.state.SessionState.{SessionState}
use Rattle.session_core.specs.declared.state.SessionState.TheVariants.{Handshake, Standing}
use Rattle.handover_out.specs.declared.phase.Phase.{Phase as Out}
use Rattle.handover_out.specs.declared.phase.Phase.TheVariants as out
use Rattle.handover_in.specs.declared.phase.Phase.{Phase as In}
use Rattle.handover_in.specs.declared.phase.Phase.TheVariants as inn
use Rattle.law_custody.specs.Apart.{Away, Entry, Exit}
use Rattle.law_custody.specs.Flight.{Offers, Starts}
use Rattle.law_custody.specs.Place.{Place}
use Rattle.law_custody.specs.Shape.{Shape}
use Rattle.law_custody.specs.Words.{DownWord, DownstreamService, StopTransport, UpWord, UpstreamService}

-- the link stands; the exit's session, outlet, offered, ready; the entry's session, intake, offer,
-- ready; the place; the words to the outlet, and those to the intake
pub data Talks : Bool → SessionState → Out → Option ℕ → Bool → SessionState → In → Option Record
    → Bool → Place → List UpWord → List DownWord → Type 0 where
  -- both sessions stand
  live : {o : Out} {of : Option ℕ} {rd : Bool} {i : In} {f : Option Record} {ri : Bool} {p : Place}
      {up : List UpWord} {down : List DownWord}
      → Shape o of rd i f ri p up down → Talks true Standing o of rd Standing i f ri p up down
  -- the connection is new: the downstream machine's description is on its way. A board that is
  -- stuck upstream is held beside a free intake only, and one that waits inside beside a free
  -- outlet only
  shaking_idle : {p : Place}
      → Talks true Handshake out.Idle None false Handshake inn.Idle None false p
      (DownstreamService ∷ []) []
  shaking_waiting : {w : Record} {p : Place}
      → Talks true Handshake out.Idle None false Handshake
      (inn.Waiting w seen.Complete false) None false p (DownstreamService ∷ []) []
  shaking_stuck : {q : Record} {p : Place}
      → Talks true Handshake (out.Stuck q false false) None false Handshake inn.Idle None false p
      (DownstreamService ∷ []) []
  -- or beside one that waits inside, where the exit has still to read that the board has left
  shaking_stuck_waiting : {q w : Record} {p : Place}
      → Talks true Handshake (out.Stuck q false false) None false Handshake
      (inn.Waiting w seen.Complete false) None false p (DownstreamService ∷ []) []
  -- the upstream machine answered with its own, and may offer behind it
  described : {of : Option ℕ} {p : Place} {rest : List DownWord} → Offers None rest of
      → Talks true Standing out.Idle of false Handshake inn.Idle None false p []
      (UpstreamService ∷ rest)
  described_waiting : {of : Option ℕ} {w : Record} {p : Place} {rest : List DownWord}
      → Offers None rest of
      → Talks true Standing out.Idle of false Handshake
      (inn.Waiting w seen.Complete false) None false p [] (UpstreamService ∷ rest)
  -- a start, with or without its stop, is still to be heard, and its intake has dropped the board
  apart_start : {of : Option ℕ} {rd : Bool} {y : SessionState} {p : Place} {up : List UpWord}
      {x : ℕ}
      → Starts rd up x [] → Away y
      → Talks false Standing out.Idle of rd y inn.Idle None false p up []
  apart_start_stop : {of : Option ℕ} {rd : Bool} {y : SessionState} {p : Place} {up : List UpWord}
      {x : ℕ}
      → Starts rd up x (StopTransport x ∷ []) → Away y
      → Talks false Standing out.Idle of rd y inn.Idle None false p up []
  -- each end by itself
  apart : {b : Bool} {x : SessionState} {o : Out} {of : Option ℕ} {rd : Bool} {y : SessionState}
      {i : In} {f : Option Record} {ri : Bool} {p : Place} {up : List UpWord}
      {down : List DownWord}
      → Exit b x o of rd up → Entry b y i f ri p down → Talks false x o of rd y i f ri p up down

-- what may have been said up on a connection that the exit has not taken: nothing, while it has not
-- come to the entry, or else the description of the downstream machine alone
pub data IsCall : List UpWord → Type 0 where
  call_awaited : IsCall []
  call_described : IsCall (DownstreamService ∷ [])
