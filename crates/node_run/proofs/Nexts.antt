-- What is known of a state by what comes next.
use Rattle.std.proofs.Common.{◌≡◌, ◌∙◌, sym, subst, ap, refl, ℕ, Bool, true, false, Option, None, Some, is_some, if◌then◌else◌, nat_lt, ◌<◌, List, [], ◌∷◌, length, drop, ◌⊎◌, inl, inr, arith}
use Rattle.std.proofs.lemmas.Bool.{false≢true}
use Rattle.std.proofs.lemmas.Bool.Decides.{nat_tests}
use Rattle.std.proofs.lemmas.List.{length-drop}
use Rattle.line_base.specs.declared.states.Side.TheVariants.{Entry, Exit}
use Rattle.config_service.specs.declared.message.Settings.{Settings}
use Rattle.line_outside.specs.declared.way.Address.{Address}
use Rattle.line_outside.specs.declared.way.Way.{Way}
use Rattle.line_outside.specs.declared.way.Way.TheVariants as ways
use Rattle.node_run.specs.declared.rules.Rules.{Rules}
use Rattle.node_run.specs.State.{Refusal, RunState, way_at}
use Rattle.supervised_end.specs.Channel.{is_empty}
use Rattle.node_run.specs.Next.{next_of, ends_next, refuses_next, tries_next, asks_next, lines_next, hears_next, configures_next, is_to_reset, held_next, takes_next, at_place, listens_if, is_polled, is_due, IsTurnLeft}
use Rattle.node_run.specs.Moving.{is_end}
use Rattle.node_run.specs.declared.place.Next.{Next}
use Rattle.node_run.specs.declared.place.Next.TheVariants as nexts
use Rattle.node_run.specs.declared.place.Place.{Place}
use Rattle.node_run.specs.declared.place.Place.TheVariants as places
use Rattle.node_run.specs.declared.status.NodeStatus.{NodeStatus}
use Rattle.node_run.specs.declared.status.NodeStatus.TheVariants as statuses

-- where a run goes on, it has no end

going : (ended : Option NodeStatus) (next found : Next) → ends_next ended next ≡ found → is_end found ≡ false → ended ≡ None
going None next found e g = refl
going (Some status) next found e g = absurd (false≢true (sym (ap is_end e ∙ g)))

pub not_ended : (rules : Rules) (s : RunState) (found : Next) → next_of rules s ≡ found → is_end found ≡ false → s.ended ≡ None
not_ended rules s found e g = going s.ended _ found e g

some_of : (bytes : List ℕ) → 0 < length bytes → is_empty bytes ≡ false
some_of [] some = absurd (omega (arith, some))
some_of (byte ∷ bytes) some = refl

-- what a state has where this comes next

abbrev pub IsFrom : Rules → RunState → Next → Type 0
IsFrom rules s (nexts.End status) = (s.ended ≡ Some status) ⊎ (status ≡ statuses.TurnsUsed)
IsFrom rules s (nexts.Refuse way) = (refusal : Refusal) × (s.refusal ≡ Some refusal) × (refusal.way ≡ way)
IsFrom rules s (nexts.Close way) = is_due (way_at way s) ≡ true
IsFrom rules s (nexts.Reset side) = is_to_reset side s.resets ≡ true
IsFrom rules s (nexts.Try settings) = s.tries ≡ Some settings
IsFrom rules s (nexts.Connect address) = s.asks ≡ true
IsFrom rules s nexts.Line = is_empty s.rest ≡ false
IsFrom rules s nexts.Hear = s.channel.hears ≡ true
IsFrom rules s nexts.HearConfig = s.config.hears ≡ true
IsFrom rules s nexts.Look = (is_some s.held.finding ≡ true) × (nat_lt 0 s.held.looks ≡ true)
IsFrom rules s nexts.Take = is_some s.held.finding ≡ true
IsFrom rules s nexts.Skip = at_place rules s s.place ≡ nexts.Skip
IsFrom rules s (nexts.Listen way address) = at_place rules s s.place ≡ nexts.Listen way address
IsFrom rules s (nexts.Poll way) = at_place rules s s.place ≡ nexts.Poll way
IsFrom rules s (nexts.Send way) = at_place rules s s.place ≡ nexts.Send way

-- what may be done at a place
abbrev IsPlaced : Next → Type 0
IsPlaced (nexts.End status) = status ≡ statuses.TurnsUsed
IsPlaced nexts.Line = ⊥
IsPlaced nexts.Hear = ⊥
IsPlaced nexts.HearConfig = ⊥
IsPlaced (nexts.Try settings) = ⊥
IsPlaced (nexts.Reset side) = ⊥
IsPlaced nexts.Look = ⊥
IsPlaced nexts.Take = ⊥
IsPlaced (nexts.Refuse way) = ⊥
IsPlaced (nexts.Close way) = ⊥
IsPlaced (nexts.Connect address) = ⊥
IsPlaced nexts.Skip = Unit {0}
IsPlaced (nexts.Listen way address) = Unit {0}
IsPlaced (nexts.Poll way) = Unit {0}
IsPlaced (nexts.Send way) = Unit {0}

polls_is : (test : Bool) (way : Way) → IsPlaced (if test then nexts.Poll way else nexts.Skip)
polls_is true way = tt
polls_is false way = tt

sends_is : (test : Bool) (way : Way) → IsPlaced (if test then nexts.Skip else nexts.Send way)
sends_is true way = tt
sends_is false way = tt

turn_is : (test : Bool) → IsPlaced (if test then nexts.Skip else nexts.End statuses.TurnsUsed)
turn_is true = tt
turn_is false = refl

listens_is : (way : Way) (port : Option ℕ) → IsPlaced (listens_if way port)
listens_is way None = tt
listens_is way (Some port) = tt

at_place_is : (rules : Rules) (s : RunState) (place : Place) → IsPlaced (at_place rules s place)
at_place_is rules s places.ListenPanel = tt
at_place_is rules s places.ListenDownstream = tt
at_place_is rules s places.ListenSupervisory = listens_is ways.Supervisory rules.connections.supervisory_port
at_place_is rules s places.ListenConfiguration = listens_is ways.Configuration rules.connections.config_port
at_place_is rules s places.PollPanel = tt
at_place_is rules s places.PollUpstream = polls_is (is_polled rules s ways.Upstream) ways.Upstream
at_place_is rules s places.PollDownstream = polls_is (is_polled rules s ways.Downstream) ways.Downstream
at_place_is rules s places.PollSupervisory = polls_is (is_polled rules s ways.Supervisory) ways.Supervisory
at_place_is rules s places.PollConfiguration = polls_is (is_polled rules s ways.Configuration) ways.Configuration
at_place_is rules s places.SendPanel = sends_is (is_empty s.panel.unsent) ways.Panel
at_place_is rules s places.SendUpstream = sends_is (is_empty s.upstream.unsent) ways.Upstream
at_place_is rules s places.SendDownstream = sends_is (is_empty s.downstream.unsent) ways.Downstream
at_place_is rules s places.SendSupervisory = sends_is (is_empty s.supervisory.unsent) ways.Supervisory
at_place_is rules s places.SendConfiguration = sends_is (is_empty s.configuration.unsent) ways.Configuration
at_place_is rules s places.TurnDone = turn_is (nat_lt s.turn rules.turns)

place_from : (rules : Rules) (s : RunState) (next : Next) → at_place rules s s.place ≡ next → IsPlaced next → IsFrom rules s next
place_from rules s (nexts.End status) e placed = inr placed
place_from rules s (nexts.Refuse way) e placed = absurd placed
place_from rules s (nexts.Close way) e placed = absurd placed
place_from rules s (nexts.Connect address) e placed = absurd placed
place_from rules s nexts.Line e placed = absurd placed
place_from rules s nexts.Hear e placed = absurd placed
place_from rules s nexts.HearConfig e placed = absurd placed
place_from rules s (nexts.Try settings) e placed = absurd placed
place_from rules s (nexts.Reset side) e placed = absurd placed
place_from rules s nexts.Look e placed = absurd placed
place_from rules s nexts.Take e placed = absurd placed
place_from rules s nexts.Skip e placed = e
place_from rules s (nexts.Listen way address) e placed = e
place_from rules s (nexts.Poll way) e placed = e
place_from rules s (nexts.Send way) e placed = e

takes_from : (rules : Rules) (s : RunState) (looks : Bool) → is_some s.held.finding ≡ true → nat_lt 0 s.held.looks ≡ looks → IsFrom rules s (if looks then nexts.Look else nexts.Take)
takes_from rules s true some e = (some, e)
takes_from rules s false some e = some

held_from : (rules : Rules) (s : RunState) (some : Bool) → is_some s.held.finding ≡ some → IsFrom rules s (if some then takes_next s.held.looks else at_place rules s s.place)
held_from rules s true e = takes_from rules s (nat_lt 0 s.held.looks) e refl
held_from rules s false e = place_from rules s (at_place rules s s.place) refl (at_place_is rules s s.place)

configures_from : (rules : Rules) (s : RunState) (hears : Bool) → s.config.hears ≡ hears → IsFrom rules s (if hears then nexts.HearConfig else held_next rules s)
configures_from rules s true e = e
configures_from rules s false e = held_from rules s (is_some s.held.finding) refl

hears_from : (rules : Rules) (s : RunState) (hears : Bool) → s.channel.hears ≡ hears → IsFrom rules s (if hears then nexts.Hear else configures_next rules s)
hears_from rules s true e = e
hears_from rules s false e = configures_from rules s s.config.hears refl

lines_from : (rules : Rules) (s : RunState) (empty : Bool) → is_empty s.rest ≡ empty → IsFrom rules s (if empty then hears_next rules s else nexts.Line)
lines_from rules s true e = hears_from rules s s.channel.hears refl
lines_from rules s false e = e

asks_from : (rules : Rules) (s : RunState) (asks : Bool) (upstream : Option Address) (next : Next) → s.asks ≡ asks → IsFrom rules s next → IsFrom rules s (if asks then asks_next upstream next else next)
asks_from rules s true None next e from = from
asks_from rules s true (Some address) next e from = e
asks_from rules s false upstream next e from = from

tries_from : (rules : Rules) (s : RunState) (tries : Option Settings) (next : Next) → s.tries ≡ tries → IsFrom rules s next → IsFrom rules s (tries_next tries next)
tries_from rules s None next e from = from
tries_from rules s (Some settings) next e from = e

resets_from : (rules : Rules) (s : RunState) (up down : Bool) (next : Next) → s.resets.upstream ≡ up → s.resets.downstream ≡ down → IsFrom rules s next
    → IsFrom rules s (if up then nexts.Reset Entry else (if down then nexts.Reset Exit else next))
resets_from rules s true down next entry exit from = entry
resets_from rules s false true next entry exit from = exit
resets_from rules s false false next entry exit from = from

closes_from : (rules : Rules) (s : RunState) (test : Bool) (way : Way) (next : Next) → is_due (way_at way s) ≡ test → IsFrom rules s next → IsFrom rules s (if test then nexts.Close way else next)
closes_from rules s true way next e from = e
closes_from rules s false way next e from = from

refuses_from : (rules : Rules) (s : RunState) (refusal : Option Refusal) (next : Next) → s.refusal ≡ refusal → IsFrom rules s next → IsFrom rules s (refuses_next refusal next)
refuses_from rules s None next e from = from
refuses_from rules s (Some refusal) next e from = (refusal, e, refl)

ends_from : (rules : Rules) (s : RunState) (ended : Option NodeStatus) (next : Next) → s.ended ≡ ended → IsFrom rules s next → IsFrom rules s (ends_next ended next)
ends_from rules s None next e from = from
ends_from rules s (Some status) next e from = inl e

from : (rules : Rules) (s : RunState) → IsFrom rules s (next_of rules s)
from rules s =
    ends_from rules s s.ended _ refl (refuses_from rules s s.refusal _ refl (resets_from rules s s.resets.upstream s.resets.downstream _ refl refl
    (closes_from rules s (is_due s.panel) ways.Panel _ refl (closes_from rules s (is_due s.upstream) ways.Upstream _ refl (closes_from rules s (is_due s.downstream) ways.Downstream _ refl
    (closes_from rules s (is_due s.supervisory) ways.Supervisory _ refl (closes_from rules s (is_due s.configuration) ways.Configuration _ refl
    (tries_from rules s s.tries _ refl (asks_from rules s s.asks s.settings.upstream (lines_next rules s) refl (lines_from rules s (is_empty s.rest) refl))))))))))

pub is_from : (rules : Rules) (s : RunState) (found : Next) → next_of rules s ≡ found → IsFrom rules s found
is_from rules s found e = let P : Next → Type 0 = IsFrom rules s in subst P e (from rules s)

-- a turn goes on only where it isn't the last
pub turn_goes : (more : Bool) (turn turns : ℕ) → nat_lt turn turns ≡ more → is_end (if more then nexts.Skip else nexts.End statuses.TurnsUsed) ≡ false → turn < turns
turn_goes true turn turns e g = grind (arith, nat_tests)
turn_goes false turn turns e g = absurd (false≢true (sym g))

-- a move that goes on to the next place has a turn left for it

left_at : (rules : Rules) (s : RunState) (place : Place) → is_end (at_place rules s place) ≡ false → IsTurnLeft place s.turn rules.turns
left_at rules s places.TurnDone goes = turn_goes (nat_lt s.turn rules.turns) s.turn rules.turns refl goes
left_at rules s places.ListenPanel goes = tt
left_at rules s places.ListenDownstream goes = tt
left_at rules s places.ListenSupervisory goes = tt
left_at rules s places.ListenConfiguration goes = tt
left_at rules s places.PollPanel goes = tt
left_at rules s places.PollUpstream goes = tt
left_at rules s places.PollDownstream goes = tt
left_at rules s places.PollSupervisory goes = tt
left_at rules s places.PollConfiguration goes = tt
left_at rules s places.SendPanel goes = tt
left_at rules s places.SendUpstream goes = tt
left_at rules s places.SendDownstream goes = tt
left_at rules s places.SendSupervisory goes = tt
left_at rules s places.SendConfiguration goes = tt

left_for : (rules : Rules) (s : RunState) (found : Next) → at_place rules s s.place ≡ found → is_end found ≡ false → IsTurnLeft s.place s.turn rules.turns
left_for rules s found e goes = left_at rules s s.place (ap is_end e ∙ goes)

pub left_to_skip : (rules : Rules) (s : RunState) → next_of rules s ≡ nexts.Skip → IsTurnLeft s.place s.turn rules.turns
left_to_skip rules s next = left_for rules s nexts.Skip (is_from rules s nexts.Skip next) refl

pub left_to_listen : (rules : Rules) (s : RunState) (way : Way) (address : Address) → next_of rules s ≡ nexts.Listen way address → IsTurnLeft s.place s.turn rules.turns
left_to_listen rules s way address next = left_for rules s (nexts.Listen way address) (is_from rules s (nexts.Listen way address) next) refl

pub left_to_poll : (rules : Rules) (s : RunState) (way : Way) → next_of rules s ≡ nexts.Poll way → IsTurnLeft s.place s.turn rules.turns
left_to_poll rules s way next = left_for rules s (nexts.Poll way) (is_from rules s (nexts.Poll way) next) refl

pub left_to_send : (rules : Rules) (s : RunState) (way : Way) → next_of rules s ≡ nexts.Send way → IsTurnLeft s.place s.turn rules.turns
left_to_send rules s way next = left_for rules s (nexts.Send way) (is_from rules s (nexts.Send way) next) refl

-- what is sent is something

polls_no_send : (test : Bool) (polled way : Way) → (if test then nexts.Poll polled else nexts.Skip) ≡ nexts.Send way → ⊥
polls_no_send true polled way e = cc
polls_no_send false polled way e = cc

listens_no_send : (at : Way) (port : Option ℕ) (way : Way) → listens_if at port ≡ nexts.Send way → ⊥
listens_no_send at None way e = cc
listens_no_send at (Some port) way e = cc

abbrev sent_way : Way → Next → Way
sent_way way (nexts.Send sent) = sent
sent_way way next = way

sends_some : (s : RunState) (at way : Way) (empty : Bool) → is_empty (way_at at s).unsent ≡ empty → (if empty then nexts.Skip else nexts.Send at) ≡ nexts.Send way → is_empty (way_at way s).unsent ≡ false
sends_some s at way true e next = cc
sends_some s at way false e next = let P : Way → Type 0 = λ w. is_empty (way_at w s).unsent ≡ false in subst P (ap (sent_way at) next) e

turn_no_send : (more : Bool) (way : Way) → (if more then nexts.Skip else nexts.End statuses.TurnsUsed) ≡ nexts.Send way → ⊥
turn_no_send true way e = cc
turn_no_send false way e = cc

some_at : (rules : Rules) (s : RunState) (place : Place) (way : Way) → at_place rules s place ≡ nexts.Send way → is_empty (way_at way s).unsent ≡ false
some_at rules s places.ListenPanel way e = cc
some_at rules s places.ListenDownstream way e = cc
some_at rules s places.ListenSupervisory way e = absurd (listens_no_send ways.Supervisory rules.connections.supervisory_port way e)
some_at rules s places.ListenConfiguration way e = absurd (listens_no_send ways.Configuration rules.connections.config_port way e)
some_at rules s places.PollPanel way e = absurd (polls_no_send true ways.Panel way e)
some_at rules s places.PollUpstream way e = absurd (polls_no_send (is_polled rules s ways.Upstream) ways.Upstream way e)
some_at rules s places.PollDownstream way e = absurd (polls_no_send (is_polled rules s ways.Downstream) ways.Downstream way e)
some_at rules s places.PollSupervisory way e = absurd (polls_no_send (is_polled rules s ways.Supervisory) ways.Supervisory way e)
some_at rules s places.PollConfiguration way e = absurd (polls_no_send (is_polled rules s ways.Configuration) ways.Configuration way e)
some_at rules s places.SendPanel way e = sends_some s ways.Panel way (is_empty s.panel.unsent) refl e
some_at rules s places.SendUpstream way e = sends_some s ways.Upstream way (is_empty s.upstream.unsent) refl e
some_at rules s places.SendDownstream way e = sends_some s ways.Downstream way (is_empty s.downstream.unsent) refl e
some_at rules s places.SendSupervisory way e = sends_some s ways.Supervisory way (is_empty s.supervisory.unsent) refl e
some_at rules s places.SendConfiguration way e = sends_some s ways.Configuration way (is_empty s.configuration.unsent) refl e
some_at rules s places.TurnDone way e = absurd (turn_no_send (nat_lt s.turn rules.turns) way e)

pub some_to_send : (rules : Rules) (s : RunState) (way : Way) → next_of rules s ≡ nexts.Send way → is_empty (way_at way s).unsent ≡ false
some_to_send rules s way next = some_at rules s s.place way (is_from rules s (nexts.Send way) next)

-- what is left of a text is something
pub some_left : (bytes : List ℕ) (done : ℕ) → done < length bytes → is_empty (drop done bytes) ≡ false
some_left bytes done inside = some_of (drop done bytes) (omega (arith, length-drop done bytes, inside))
