-- The call of a move comes before its step.
use Rattle.std.proofs.Common.{◌≡◌, ◌∙◌, ℕ, ℤ, Bool, true, false, List, refl, ap, subst}
use Rattle.line_outside.specs.Given.{Given}
use Rattle.line_outside.specs.declared.ports.Opened.{Opened}
use Rattle.line_outside.specs.declared.ports.Opened.TheVariants as opens
use Rattle.line_outside.specs.declared.ports.Sent.{Sent}
use Rattle.line_outside.specs.declared.ports.Sent.TheVariants as sents
use Rattle.line_outside.specs.declared.way.Address.{Address}
use Rattle.line_outside.specs.declared.way.Way.{Way}
use Rattle.line_outside.specs.declared.way.Way.TheVariants as ways
use Rattle.node_run.specs.After.{after_listen, after_send}
use Rattle.node_run.specs.Booked.{CallsAgain, MovesAgain, calls_as_ever, calls_none, differ, hears_gone, makes_step, moves_as_ever}
use Rattle.node_run.specs.Gone.{begins_again}
use Rattle.node_run.specs.Runs.{Moves, closed, closes, connects, does_config, does_hear, does_line, listens, looks_again, polled, polled_again, polls, refuses, resets_side, sends, skips, takes_held, tried, tries_port}
use Rattle.node_run.specs.State.{LastStepValue, RunState, WayValue, way_at, with_way}
use Rattle.node_run.specs.Next.{moved_on}
use Rattle.node_run.specs.declared.rules.Rules.{Rules}
use Rattle.law_node_runs.specs.First.{CallsComeFirst}

-- ---- a state whose last step is the same made none

alike : (odd : Bool) → differ odd odd ≡ true → ⊥
alike true e = cc
alike false e = cc

same_step : (s t : RunState) (A : Type 0) → t.step ≡ s.step → makes_step s t ≡ true → A
same_step s t A same made =
    let P : LastStepValue → Type 0 = λ step. differ s.step.odd step.odd ≡ true in
    absurd (alike s.step.odd (subst P same made))

step_of_way : (way : Way) (value : WayValue) (s : RunState) → (with_way way value s).step ≡ s.step
step_of_way ways.Panel value s = refl
step_of_way ways.Upstream value s = refl
step_of_way ways.Downstream value s = refl
step_of_way ways.Supervisory value s = refl
step_of_way ways.Configuration value s = refl

pub step_of_send : (way : Way) (sent : Sent) (s : RunState) → (after_send way sent s).step ≡ s.step
step_of_send way (sents.Took n) s = step_of_way way _ s
step_of_send way sents.NotYet s = refl
step_of_send way sents.Closed s = step_of_way way _ s
step_of_send way sents.Failed s = step_of_way way _ s

step_of_listen : (address : Address) (opened : Opened) (s : RunState) → (after_listen address opened s).step ≡ s.step
step_of_listen address opens.Done s = refl
step_of_listen address opens.Failed s = refl

-- ---- by the move

by_move : (rules : Rules) (moment : ℤ) (s t : RunState) (calls : List Given) (lines : List ℕ) → begins_again s ≡ false → Moves rules moment s calls t lines → makes_step s t ≡ true → CallsAgain rules s calls
by_move rules moment s t calls lines begun (listens {address = address} {opened = opened} next) made = same_step s t (CallsAgain rules s calls) (step_of_listen address opened s) made
by_move rules moment s t calls lines begun (connects next) made = same_step s t (CallsAgain rules s calls) refl made
by_move rules moment s t calls lines begun (polls next after) made = calls_as_ever begun (polled next)
by_move rules moment s t calls lines begun (sends {way = way} {sent = sent} next) made = same_step s t (CallsAgain rules s calls) (step_of_send way sent (moved_on s)) made
by_move rules moment s t calls lines begun (refuses next is) made = same_step s t (CallsAgain rules s calls) refl made
by_move rules moment s t calls lines begun (closes next after) made = calls_as_ever begun (closed next)
by_move rules moment s t calls lines begun (skips next) made = calls_none
by_move rules moment s t calls lines begun (looks_again next after) made = calls_as_ever begun (polled_again next)
by_move rules moment s t calls lines begun (takes_held next takes) made = calls_none
by_move rules moment s t calls lines begun (does_line next does) made = calls_none
by_move rules moment s t calls lines begun (does_hear next does) made = calls_none
by_move rules moment s t calls lines begun (does_config next does quiet) made = calls_none
by_move rules moment s t calls lines begun (tries_port next after quiet) made = calls_as_ever begun (tried next)
by_move rules moment s t calls lines begun (resets_side next resets) made = calls_none

pub calls_first : CallsComeFirst
calls_first rules moment s t calls lines (moves_as_ever begun move) made = by_move rules moment s t calls lines begun move made
calls_first rules moment s t calls lines (hears_gone begun hears) made = calls_none
