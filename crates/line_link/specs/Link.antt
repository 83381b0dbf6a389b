-- A link and its events.
use Rattle.std.specs.Prelude.{◌≡◌, ◌≤◌, ℕ, ◌+◌, ◌==◌, Bool, true, false, List, [], ◌∷◌, Option, None, Some, length, min, nat_lt, if◌then◌else◌}
use Rattle.line_base.specs.declared.states.Role.{Role}
use Rattle.line_base.specs.declared.states.Role.TheVariants.{Upstream, Downstream}
use Rattle.line_link.specs.declared.link.Sent.{Sent}
use Rattle.line_link.specs.declared.link.Sent.TheVariants.{Vanishes, Flows, Cuts}
use Rattle.line_link.specs.declared.link.Connected.{Connected}
use Rattle.line_link.specs.declared.link.Connected.TheVariants.{Accepted, Second}
use Rattle.line_link.specs.Flow.{Stream, Streams, both_dry, coming, dry, flowing, is_begun, stream_to, with_arrival, with_nul, with_stream_to, with_text}

-- a link: for each end the number of its connection, or none; whether it stands; what flows to
-- each end; and how many connections were made on it
pub record LinkParts : Type 0 where
  pub upstream : Option ℕ
  pub downstream : Option ℕ
  pub stands : Bool
  pub flows : Streams
  pub made : ℕ

-- nothing is connected
abbrev pub no_link : LinkParts
no_link = record { upstream = None; downstream = None; stands = false; flows = both_dry; made = 0 }

-- the end of this role, and the other
abbrev pub across : Role → Role
across Upstream = Downstream
across Downstream = Upstream

abbrev pub number_of : Role → LinkParts → Option ℕ
number_of Upstream link = link.upstream
number_of Downstream link = link.downstream

-- what flows to an end
abbrev pub flow_to : Role → LinkParts → Stream
flow_to to link = stream_to to link.flows

abbrev pub with_flow_to : Role → Stream → LinkParts → LinkParts
with_flow_to to stream link = record link { flows = with_stream_to to stream link.flows }

-- the most bytes that may be on their way in a direction
abbrev pub most_in_flight : ℕ
most_in_flight = 1048576

-- a cut: the link stands no more, and what flowed is lost
abbrev pub cut : LinkParts → LinkParts
cut link = record link { stands = false; flows = both_dry }

-- more bytes are on their way to an end than may be
abbrev pub is_too_much : Role → LinkParts → Bool
is_too_much to link = nat_lt most_in_flight (length (coming (flow_to to link)))

-- the link is cut where too much is on its way to an end
abbrev pub within_limit : Role → LinkParts → LinkParts
within_limit to link = if is_too_much to link then cut link else link

-- a text is on its way to an end
abbrev pub texted : Role → List ℕ → LinkParts → LinkParts
texted to text link = with_flow_to to (with_text text (flow_to to link)) link

-- what becomes of a text that is on its way
abbrev pub fate : Role → LinkParts → Sent
fate to link = if is_too_much to link then Cuts else Flows

-- an end sends a text: it vanishes where the link doesn't stand
abbrev pub after_send : Role → List ℕ → LinkParts → LinkParts
after_send from text link =
    if link.stands then within_limit (across from) (texted (across from) text link) else link

abbrev pub sent_of : Role → List ℕ → LinkParts → Sent
sent_of from text link =
    if link.stands then fate (across from) (texted (across from) text link) else Vanishes

-- the upstream end answers a second connection: the text flows to the downstream end though the
-- link doesn't stand, where that end has a connection
abbrev pub answer_of : Option ℕ → List ℕ → LinkParts → LinkParts
answer_of None text link = link
answer_of (Some _) text link = within_limit Downstream (texted Downstream text link)

abbrev pub fate_of_answer : Option ℕ → List ℕ → LinkParts → Sent
fate_of_answer None text link = Vanishes
fate_of_answer (Some _) text link = fate Downstream (texted Downstream text link)

abbrev pub after_answer : List ℕ → LinkParts → LinkParts
after_answer text link = answer_of link.downstream text link

abbrev pub answer_sent : List ℕ → LinkParts → Sent
answer_sent text link = fate_of_answer link.downstream text link

-- bytes arrive at an end: so many or what there is, or the rest of the oldest text
abbrev pub after_flow : Role → Option ℕ → LinkParts → LinkParts
after_flow to count link =
    with_flow_to to (with_arrival (flowing count (flow_to to link)) (flow_to to link)) link

-- a NUL byte is put before the next byte to arrive at an end
abbrev pub nulled : Role → LinkParts → LinkParts
nulled to link = with_flow_to to (with_nul (flow_to to link)) link

abbrev pub after_spoil : Role → LinkParts → LinkParts
after_spoil to link = within_limit to (nulled to link)

abbrev pub spoil_sent : Role → LinkParts → Sent
spoil_sent to link = fate to (nulled to link)

-- an end closes: it has no connection, the link stands no more, and what flowed to the end is lost
abbrev pub without_number : Role → LinkParts → LinkParts
without_number Upstream link = record link { upstream = None }
without_number Downstream link = record link { downstream = None }

abbrev pub after_close : Role → LinkParts → LinkParts
after_close end link =
    record (without_number end link) { stands = false; flows = with_stream_to end dry link.flows }

-- the number of the next connection. The count stands still at its type's end
abbrev pub next_number : ℕ → ℕ
next_number made = min (made + 1) 18446744073709551615

-- the downstream end connects: it gets a new number. Where the upstream end has none it gets the
-- same one and the link stands; else the connection is a second one, and the link doesn't stand
abbrev pub connected : Option ℕ → ℕ → LinkParts → LinkParts
connected None number link =
    record link { upstream = Some number; downstream = Some number; stands = true; made = number }
connected (Some other) number link =
    record link { downstream = Some number; stands = false; made = number }

abbrev pub after_connect : LinkParts → LinkParts
after_connect link = connected link.upstream (next_number link.made) link

abbrev pub connected_of : Option ℕ → Connected
connected_of None = Accepted
connected_of (Some _) = Second

-- the two ends of a link that stands have one connection
abbrev pub are_joined : Bool → Option ℕ → Option ℕ → Bool
are_joined false upstream downstream = true
are_joined true None downstream = false
are_joined true (Some number) None = false
are_joined true (Some number) (Some other) = number == other

-- where an end has no connection nothing flows to it
abbrev pub is_dry_without : Option ℕ → List (List ℕ) → Bool
is_dry_without None [] = true
is_dry_without None (text ∷ texts) = false
is_dry_without (Some number) texts = true

-- what can stand together in a link
pub record IsLinkTogether (link : LinkParts) : Type 0 where
  pub joined : are_joined link.stands link.upstream link.downstream ≡ true
  pub dry_upstream : is_dry_without link.upstream link.flows.to_upstream.texts ≡ true
  pub dry_downstream : is_dry_without link.downstream link.flows.to_downstream.texts ≡ true
  pub upstream_within : length (coming link.flows.to_upstream) ≤ most_in_flight
  pub downstream_within : length (coming link.flows.to_downstream) ≤ most_in_flight

-- and of the oldest text in each direction not all has arrived
pub record AreBegun (streams : Streams) : Type 0 where
  pub upstream : is_begun streams.to_upstream.texts streams.to_upstream.arrived ≡ true
  pub downstream : is_begun streams.to_downstream.texts streams.to_downstream.arrived ≡ true
