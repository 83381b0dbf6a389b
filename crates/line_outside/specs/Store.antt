-- What ports in memory have in store, and what they tell.
use Rattle.std.specs.Prelude.{◌≡◌, ◌+◌, ◌-◌, ◌^◌, ◌++◌, ◌&&◌, ℕ, Bool, true, false, List, [], ◌∷◌, Option, None, Some, length, take, drop, min, nat_eq, nat_lt, nat_le, if◌then◌else◌}
use Rattle.std.specs.List.{flat_map, list_any}
use Rattle.line_outside.specs.Faults.{one_more}
use Rattle.line_outside.specs.Given.{Given, Listens, Connects, Polls, Sends, Refuses, Closes, got_bytes, is_same_way}
use Rattle.line_outside.specs.declared.answer.GotBytes.{GotBytes}
use Rattle.line_outside.specs.declared.answer.GotBytes.TheVariants as founds
use Rattle.line_outside.specs.declared.answer.PortAnswer.{PortAnswer}
use Rattle.line_outside.specs.declared.port_call.PortCall.{PortCall}
use Rattle.line_outside.specs.declared.port_call.PortCall.TheVariants as calls
use Rattle.line_outside.specs.declared.ports.Got.{Got}
use Rattle.line_outside.specs.declared.ports.Got.TheVariants as gots
use Rattle.line_outside.specs.declared.ports.Opened.{Opened}
use Rattle.line_outside.specs.declared.ports.Opened.TheVariants as opens
use Rattle.line_outside.specs.declared.ports.Sent.{Sent}
use Rattle.line_outside.specs.declared.ports.Sent.TheVariants as sents
use Rattle.line_outside.specs.declared.way.Way.{Way}
use Rattle.line_outside.specs.declared.way.Way.TheVariants as ways

-- ---- what polls of one way will find

-- of some answers, those of one way
abbrev pub own_answer : Way → PortAnswer → List GotBytes
own_answer way answer = if is_same_way way answer.way then answer.got ∷ [] else []

abbrev pub answers_of : Way → List PortAnswer → List GotBytes
answers_of way answers = flat_map (own_answer way) answers

-- no bytes at all are passed over
abbrev pub passed : List GotBytes → List GotBytes
passed [] = []
passed (founds.Bytes [] ∷ others) = passed others
passed (found ∷ others) = found ∷ others

abbrev pub found_first : List GotBytes → ℕ → GotBytes
found_first [] room = founds.NotYet
found_first (founds.Bytes bytes ∷ others) room = founds.Bytes (take room bytes)
found_first (found ∷ others) room = found

abbrev pub left_first : List GotBytes → ℕ → List GotBytes
left_first [] room = []
left_first (founds.Bytes bytes ∷ others) room = founds.Bytes (drop room bytes) ∷ others
left_first (found ∷ others) room = others

-- WHAT THE NEXT POLL FINDS, with a room of so many bytes; a way whose answers are used up has
-- nothing
abbrev pub found_next : List GotBytes → ℕ → GotBytes
found_next answers room = found_first (passed answers) room

-- and the answers that are left then
abbrev pub left_next : List GotBytes → ℕ → List GotBytes
left_next answers room = left_first (passed answers) room

-- whether there is nothing for the way: its answers are used up, or nothing is the next of them
abbrev pub is_nothing : List GotBytes → Bool
is_nothing [] = true
is_nothing (founds.NotYet ∷ others) = true
is_nothing (found ∷ others) = false

abbrev pub is_quiet : List GotBytes → Bool
is_quiet answers = is_nothing (passed answers)

-- ---- what is told

-- how many bytes go with a call: those that a poll gave, and those of a piece
abbrev pub weight_of_got : Got → ℕ
weight_of_got (gots.Bytes n) = n
weight_of_got _ = 0

abbrev pub weight_of : PortCall → ℕ
weight_of (calls.Listens way address opened) = 0
weight_of (calls.Connects way address opened) = 0
weight_of (calls.Polls way room got) = weight_of_got got
weight_of (calls.Sends way piece sent) = piece
weight_of (calls.Refuses way piece sent) = piece
weight_of (calls.Closes way) = 0

-- a call with its bytes
abbrev pub given_as : PortCall → List ℕ → Given
given_as (calls.Listens way address opened) bytes = Listens way address opened
given_as (calls.Connects way address opened) bytes = Connects way address opened
given_as (calls.Polls way room got) bytes = Polls way room (got_bytes got bytes)
given_as (calls.Sends way piece sent) bytes = Sends way bytes sent
given_as (calls.Refuses way piece sent) bytes = Refuses way bytes sent
given_as (calls.Closes way) bytes = Closes way

-- the calls, each with its part of the bytes
abbrev pub given_of : List PortCall → List ℕ → List Given
given_of [] bytes = []
given_of (call ∷ others) bytes =
    given_as call (take (weight_of call) bytes) ∷ given_of others (drop (weight_of call) bytes)

-- how many bytes go with some calls
abbrev pub weights_of : List PortCall → ℕ
weights_of [] = 0
weights_of (call ∷ others) = weight_of call + weights_of others

-- what is told, and the room that is left for more: so many calls, and so many bytes
pub record Account : Type 0 where
  pub given : Option (List Given)
  pub calls : ℕ
  pub bytes : ℕ

abbrev pub told : Bool → List Given → Option (List Given)
told false given = Some given
told true given = None

abbrev pub account_with : Option (List Given) → ℕ → ℕ → Given → ℕ → Account
account_with None calls bytes call weight = record { given = None; calls = calls; bytes = bytes }
account_with (Some given) calls bytes call weight =
    if nat_lt 0 calls && nat_le weight bytes then record {
      given = Some (given ++ call ∷ []);
      calls = calls - 1;
      bytes = bytes - weight;
    } else record {
      given = None;
      calls = calls;
      bytes =
          bytes;
    }

-- the account after one call more: it is told where there is room for it, and else no call is told
-- from then on
abbrev pub noted : Account → Given → ℕ → Account
noted account call weight = account_with account.given account.calls account.bytes call weight

-- ---- ports in memory

pub record Store : Type 0 where
  pub panel : List GotBytes
  pub upstream : List GotBytes
  pub downstream : List GotBytes
  pub supervisory : List GotBytes
  pub configuration : List GotBytes
  pub account : Account
  pub failing : List ℕ
  pub calls : ℕ
  pub faults : ℕ

-- what polls of a way will find
abbrev pub answers_at : Way → Store → List GotBytes
answers_at ways.Panel store = store.panel
answers_at ways.Upstream store = store.upstream
answers_at ways.Downstream store = store.downstream
answers_at ways.Supervisory store = store.supervisory
answers_at ways.Configuration store = store.configuration

-- the store with other answers of a way
abbrev pub with_answers : Way → List GotBytes → Store → Store
with_answers ways.Panel answers store = record store { panel = answers }
with_answers ways.Upstream answers store = record store { upstream = answers }
with_answers ways.Downstream answers store = record store { downstream = answers }
with_answers ways.Supervisory answers store = record store { supervisory = answers }
with_answers ways.Configuration answers store = record store { configuration = answers }

-- a store of these answers that tells so much, of which the listed calls fail
abbrev pub new_store : List PortAnswer → ℕ → ℕ → List ℕ → Store
new_store answers calls bytes failing = record {
  panel = answers_of ways.Panel answers;
  upstream = answers_of ways.Upstream answers;
  downstream = answers_of ways.Downstream answers;
  supervisory = answers_of ways.Supervisory answers;
  configuration = answers_of ways.Configuration answers;
  account = record { given = Some []; calls = calls; bytes = bytes };
  failing = failing;
  calls = 0;
  faults = 0;
}

-- the number of the next call of those that may be listed as failing
abbrev pub next_call : Store → ℕ
next_call store = min (store.calls + 1) (2 ^ 64 - 1)

-- whether it is listed
abbrev pub fails_next : Store → Bool
fails_next store = list_any (λ number. nat_eq number (next_call store)) store.failing

-- the store after such a call: it is counted, and where it fails as a fault too
abbrev pub counted : Store → Store
counted store =
    record store {
      calls = next_call store;
      faults = if fails_next store then one_more store.faults else store.faults;
    }

abbrev pub opened_next : Store → Opened
opened_next store = if fails_next store then opens.Failed else opens.Done

-- the whole piece is taken, unless the call fails
abbrev pub sent_next : Store → List ℕ → Sent
sent_next store piece = if fails_next store then sents.Failed else sents.Took (length piece)

-- the store after a call with its bytes was told
abbrev pub with_call : Store → Given → ℕ → Store
with_call store call weight = record store { account = noted store.account call weight }

-- a fault is counted where a poll finds that the way failed
abbrev pub faults_after : ℕ → GotBytes → ℕ
faults_after before founds.Failed = one_more before
faults_after before _ = before

abbrev pub weight_of_found : GotBytes → ℕ
weight_of_found (founds.Bytes bytes) = length bytes
weight_of_found _ = 0

-- the store after a poll of a way with a room of so many bytes
abbrev pub polled : Way → ℕ → Store → Store
polled way room store =
    let found = found_next (answers_at way store) room in
    let left = with_answers way (left_next (answers_at way store) room) store in
    with_call (record left { faults = faults_after store.faults found }) (Polls way room found)
    (weight_of_found found)

-- the bytes that a poll put at the front of the room
abbrev pub bytes_of_got : Got → List ℕ → List ℕ
bytes_of_got (gots.Bytes n) room = take n room
bytes_of_got _ room = []
