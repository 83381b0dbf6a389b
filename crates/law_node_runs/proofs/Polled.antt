-- Where a way is polled, what was found of a neighbour was taken.
use Rattle.std.proofs.Common.{◌≡◌, refl, subst, Bool, true, false, Option, None, Some, is_some, if◌then◌else◌, nat_lt}
use Rattle.std.proofs.lemmas.Bool.{true≢false}
use Rattle.line_base.specs.declared.states.Side.TheVariants.{Entry, Exit}
use Rattle.config_service.specs.declared.message.Settings.{Settings}
use Rattle.line_outside.specs.declared.way.Address.{Address}
use Rattle.line_outside.specs.declared.way.Way.{Way}
use Rattle.line_outside.specs.declared.way.Way.TheVariants as ways
use Rattle.node_run.specs.declared.rules.Rules.{Rules}
use Rattle.supervised_end.specs.Channel.{is_empty}
use Rattle.node_run.specs.Held.{Finding}
use Rattle.node_run.specs.Next.{asks_next, at_place, configures_next, ends_next, hears_next, held_next, is_due, lines_next, next_of, refuses_next, takes_next, tries_next}
use Rattle.node_run.specs.State.{Refusal, RunState}
use Rattle.node_run.specs.declared.place.Next.{Next}
use Rattle.node_run.specs.declared.place.Next.TheVariants as nexts
use Rattle.node_run.specs.declared.status.NodeStatus.{NodeStatus}

-- what is known of a poll
abbrev HasTaken : RunState → Next → Type 0
HasTaken s (nexts.Poll way) = is_some s.held.finding ≡ false
HasTaken s next = Unit {0}

taken_at : (s : RunState) (next : Next) → is_some s.held.finding ≡ false → HasTaken s next
taken_at s (nexts.Poll way) none = none
taken_at s (nexts.End status) none = tt
taken_at s (nexts.Refuse way) none = tt
taken_at s (nexts.Close way) none = tt
taken_at s (nexts.Connect address) none = tt
taken_at s nexts.Line none = tt
taken_at s nexts.Hear none = tt
taken_at s nexts.HearConfig none = tt
taken_at s (nexts.Reset side) none = tt
taken_at s (nexts.Try settings) none = tt
taken_at s nexts.Look none = tt
taken_at s nexts.Take none = tt
taken_at s nexts.Skip none = tt
taken_at s (nexts.Listen way address) none = tt
taken_at s (nexts.Send way) none = tt

takes_taken : (s : RunState) (looks : Bool) → HasTaken s (if looks then nexts.Look else nexts.Take)
takes_taken s true = tt
takes_taken s false = tt

held_taken : (rules : Rules) (s : RunState) (some : Bool) → is_some s.held.finding ≡ some → HasTaken s (if some then takes_next s.held.looks else at_place rules s s.place)
held_taken rules s true e = takes_taken s (nat_lt 0 s.held.looks)
held_taken rules s false e = taken_at s (at_place rules s s.place) e

configures_taken : (rules : Rules) (s : RunState) (hears : Bool) → HasTaken s (if hears then nexts.HearConfig else held_next rules s)
configures_taken rules s true = tt
configures_taken rules s false = held_taken rules s (is_some s.held.finding) refl

hears_taken : (rules : Rules) (s : RunState) (hears : Bool) → HasTaken s (if hears then nexts.Hear else configures_next rules s)
hears_taken rules s true = tt
hears_taken rules s false = configures_taken rules s s.config.hears

lines_taken : (rules : Rules) (s : RunState) (empty : Bool) → HasTaken s (if empty then hears_next rules s else nexts.Line)
lines_taken rules s true = hears_taken rules s s.channel.hears
lines_taken rules s false = tt

asks_taken : (s : RunState) (asks : Bool) (upstream : Option Address) (next : Next) → HasTaken s next → HasTaken s (if asks then asks_next upstream next else next)
asks_taken s true None next taken = taken
asks_taken s true (Some address) next taken = tt
asks_taken s false upstream next taken = taken

tries_taken : (s : RunState) (tries : Option Settings) (next : Next) → HasTaken s next → HasTaken s (tries_next tries next)
tries_taken s None next taken = taken
tries_taken s (Some settings) next taken = tt

closes_taken : (s : RunState) (test : Bool) (way : Way) (next : Next) → HasTaken s next → HasTaken s (if test then nexts.Close way else next)
closes_taken s true way next taken = tt
closes_taken s false way next taken = taken

resets_taken : (s : RunState) (upstream downstream : Bool) (next : Next) → HasTaken s next → HasTaken s (if upstream then nexts.Reset Entry else (if downstream then nexts.Reset Exit else next))
resets_taken s true downstream next taken = tt
resets_taken s false true next taken = tt
resets_taken s false false next taken = taken

refuses_taken : (s : RunState) (refusal : Option Refusal) (next : Next) → HasTaken s next → HasTaken s (refuses_next refusal next)
refuses_taken s None next taken = taken
refuses_taken s (Some refusal) next taken = tt

ends_taken : (s : RunState) (ended : Option NodeStatus) (next : Next) → HasTaken s next → HasTaken s (ends_next ended next)
ends_taken s None next taken = taken
ends_taken s (Some status) next taken = tt

next_taken : (rules : Rules) (s : RunState) → HasTaken s (next_of rules s)
next_taken rules s =
    ends_taken s s.ended _ (refuses_taken s s.refusal _ (resets_taken s s.resets.upstream s.resets.downstream _ (closes_taken s (is_due s.panel) ways.Panel _ (closes_taken s (is_due s.upstream) ways.Upstream _
    (closes_taken s (is_due s.downstream) ways.Downstream _ (closes_taken s (is_due s.supervisory) ways.Supervisory _ (closes_taken s (is_due s.configuration) ways.Configuration _
    (tries_taken s s.tries _ (asks_taken s s.asks s.settings.upstream (lines_next rules s) (lines_taken rules s (is_empty s.rest)))))))))))

none_by : (finding : Option Finding) → is_some finding ≡ false → finding ≡ None
none_by None is = refl
none_by (Some finding) is = absurd (true≢false is)

pub none_held : (rules : Rules) (s : RunState) (way : Way) → next_of rules s ≡ nexts.Poll way → s.held.finding ≡ None
none_held rules s way next = none_by s.held.finding (let P : Next → Type 0 = HasTaken s in subst P next (next_taken rules s))
