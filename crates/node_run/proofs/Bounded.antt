-- No more text waits than may where a run goes on.
use Rattle.std.proofs.Common.{◌≡◌, refl, sym, ℕ, Bool, true, false, List, Option, None, Some, length, ◌≤◌, ◌⊎◌, inl, inr, nat_lt, if◌then◌else◌, arith}
use Rattle.std.proofs.lemmas.Bool.{false≢true, or_parts}
use Rattle.std.proofs.lemmas.Bool.Decides.{nat_tests}
use Rattle.line_base.specs.declared.states.Side.TheVariants.{Entry, Exit}
use Rattle.line_outside.specs.declared.way.Way.{Way}
use Rattle.line_outside.specs.declared.way.Way.TheVariants as ways
use Rattle.node_run.specs.declared.rules.Rules.{Rules}
use Rattle.node_run.specs.State.{Refusal, RunState, way_at}
use Rattle.supervised_end.specs.Channel.{is_empty}
use Rattle.node_run.specs.Next.{next_of, ends_next, refuses_next, connects_next, tries_next, is_due, is_due_by, goes_on, HasBoundedText, most_unsent}
use Rattle.node_run.specs.declared.place.Next.{Next}
use Rattle.node_run.specs.declared.place.Next.TheVariants as nexts
use Rattle.node_run.specs.declared.status.NodeStatus.{NodeStatus}
use Rattle.node_run.specs.declared.way_state.Wire.{Wire}
use Rattle.node_run.specs.declared.way_state.Wire.TheVariants as wires

none_due : (ended : Option NodeStatus) (refusal : Option Refusal) (entry exit p u d v c : Bool) (next : Next)
    → goes_on (ends_next ended (refuses_next refusal (if entry then nexts.Reset Entry else (if exit then nexts.Reset Exit else (if p then nexts.Close ways.Panel else (if u then nexts.Close ways.Upstream else (if d then nexts.Close ways.Downstream else (if v then nexts.Close ways.Supervisory else (if c then nexts.Close ways.Configuration else next))))))))) ≡ true
    → (p ≡ false) × (u ≡ false) × (d ≡ false) × (v ≡ false) × (c ≡ false)
none_due (Some status) refusal entry exit p u d v c next goes = absurd (false≢true goes)
none_due None (Some refusal) entry exit p u d v c next goes = absurd (false≢true goes)
none_due None None true exit p u d v c next goes = absurd (false≢true goes)
none_due None None false true p u d v c next goes = absurd (false≢true goes)
none_due None None false false true u d v c next goes = absurd (false≢true goes)
none_due None None false false false true d v c next goes = absurd (false≢true goes)
none_due None None false false false false true v c next goes = absurd (false≢true goes)
none_due None None false false false false false true c next goes = absurd (false≢true goes)
none_due None None false false false false false false true next goes = absurd (false≢true goes)
none_due None None false false false false false false false next goes = (refl, refl, refl, refl, refl)

few_bytes : (unsent : List ℕ) → nat_lt most_unsent (length unsent) ≡ false → length unsent ≤ most_unsent
few_bytes unsent few = grind (arith, nat_tests)

bounded_by : (wire : Wire) (unsent : List ℕ) → is_due_by wire unsent ≡ false → (wire ≡ wires.Rests) ⊎ (length unsent ≤ most_unsent)
bounded_by wires.Rests unsent due = inl refl
bounded_by wires.Stands unsent due = inr (few_bytes unsent due)
bounded_by wires.Ends unsent due = inr (few_bytes unsent (or_parts (is_empty unsent) (nat_lt most_unsent (length unsent)) due).1)
bounded_by wires.Breaks unsent due = absurd (false≢true (sym due))

all_few : (rules : Rules) (s : RunState) → goes_on (next_of rules s) ≡ true
    → (is_due s.panel ≡ false) × (is_due s.upstream ≡ false) × (is_due s.downstream ≡ false) × (is_due s.supervisory ≡ false) × (is_due s.configuration ≡ false)
all_few rules s goes =
    none_due s.ended s.refusal s.resets.upstream s.resets.downstream (is_due s.panel) (is_due s.upstream) (is_due s.downstream) (is_due s.supervisory) (is_due s.configuration) (tries_next s.tries (connects_next rules s)) goes

pub bounded : (rules : Rules) (s : RunState) (way : Way) → goes_on (next_of rules s) ≡ true → HasBoundedText (way_at way s)
bounded rules s ways.Panel goes = bounded_by s.panel.wire s.panel.unsent (all_few rules s goes).0
bounded rules s ways.Upstream goes = bounded_by s.upstream.wire s.upstream.unsent (all_few rules s goes).1
bounded rules s ways.Downstream goes = bounded_by s.downstream.wire s.downstream.unsent (all_few rules s goes).2
bounded rules s ways.Supervisory goes = bounded_by s.supervisory.wire s.supervisory.unsent (all_few rules s goes).3
bounded rules s ways.Configuration goes = bounded_by s.configuration.wire s.configuration.unsent (all_few rules s goes).4
