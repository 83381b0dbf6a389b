-- Turn 0 of a machine that begins again.
use Rattle.std.proofs.Common.{◌≡◌, ◌∙◌, sym, subst, ap, refl, ℕ, ℤ, Bool, true, false, Option, None, Some, List, length, ◌≤◌, ◌<◌, ◌+◌, ◌&&◌, nat_lt, arith}
use Rattle.std.proofs.lemmas.Bool.{false≢true}
use Rattle.std.proofs.lemmas.Bool.Decides.{nat_tests}
use Rattle.line_outside.specs.Given.{Given}
use Rattle.node_run.specs.Booked.{MovesAgain, hears_gone, moves_as_ever}
use Rattle.node_run.specs.Gone.{HearsGone, begins_again, begins_by, gone_at, is_behind_listens}
use Rattle.node_run.specs.Held.{HasFewLooks}
use Rattle.node_run.specs.Next.{IsTurnLeft, moved_on, place_behind, turn_behind}
use Rattle.node_run.specs.State.{RunState}
use Rattle.node_run.specs.Work.{far_at, far_of, work_at}
use Rattle.node_run.specs.declared.place.Place.{Place}
use Rattle.node_run.specs.declared.place.Place.TheVariants as places
use Rattle.node_run.specs.declared.rules.Rules.{Rules}
use Rattle.node_run.specs.declared.status.NodeStatus.{NodeStatus}
use Rattle.supervised_end.specs.Channel.{IsShort}
use Rattle.node_run.proofs.Far.{further, hear_most, moves_nearer, others_most}
use Rattle.node_run.proofs.Frames.{hears_same}
use Rattle.node_run.proofs.Holding.{few_work}

-- what turn 0 is

pub record IsAgain (ended : Option NodeStatus) (turn : ℕ) (place : Place) : Type 0 where
  pub none : ended ≡ None
  pub first : turn ≡ 0
  pub behind : is_behind_listens place ≡ true

less_than : (turn : ℕ) → nat_lt turn 1 ≡ true → turn < 1
less_than turn e = grind (arith, nat_tests)

first_turn : (first : Bool) (turn : ℕ) → nat_lt turn 1 ≡ first → first ≡ true → turn ≡ 0
first_turn true turn e is = omega (arith, less_than turn e)
first_turn false turn e is = absurd (false≢true is)

again_by : (first behind : Bool) (turn : ℕ) (place : Place) → nat_lt turn 1 ≡ first → is_behind_listens place ≡ behind → first && behind ≡ true → IsAgain None turn place
again_by true true turn place e f is = record { none = refl; first = first_turn true turn e refl; behind = f }
again_by true false turn place e f is = absurd (false≢true is)
again_by false behind turn place e f is = absurd (false≢true is)

is_again : (ended : Option NodeStatus) (turn : ℕ) (place : Place) → begins_by ended turn place ≡ true → IsAgain ended turn place
is_again None turn place is = again_by (nat_lt turn 1) (is_behind_listens place) turn place refl refl is
is_again (Some status) turn place is = absurd (false≢true is)

pub again_ended : (s : RunState) → begins_again s ≡ true → s.ended ≡ None
again_ended s is = (is_again s.ended s.turn s.place is).none

-- a turn is left behind it

left_first : (turns : ℕ) (place : Place) → 1 ≤ turns → IsTurnLeft place 0 turns
left_first turns places.TurnDone some = omega (arith, some)
left_first turns places.ListenPanel some = tt
left_first turns places.ListenDownstream some = tt
left_first turns places.ListenSupervisory some = tt
left_first turns places.ListenConfiguration some = tt
left_first turns places.PollPanel some = tt
left_first turns places.PollUpstream some = tt
left_first turns places.PollDownstream some = tt
left_first turns places.PollSupervisory some = tt
left_first turns places.PollConfiguration some = tt
left_first turns places.SendPanel some = tt
left_first turns places.SendUpstream some = tt
left_first turns places.SendDownstream some = tt
left_first turns places.SendSupervisory some = tt
left_first turns places.SendConfiguration some = tt

pub left_again : (s : RunState) (turns : ℕ) → begins_again s ≡ true → 1 ≤ turns → IsTurnLeft s.place s.turn turns
left_again s turns is some =
    let P : ℕ → Type 0 = λ turn. IsTurnLeft s.place turn turns in
    subst P (sym (is_again s.ended s.turn s.place is).first) (left_first turns s.place some)

-- and the run is nearer to its end

far_first : (turns : ℕ) (place : Place) → 1 ≤ turns → is_behind_listens place ≡ true → far_at turns (turn_behind place 0) (place_behind place) + 1 ≤ far_at turns 0 place
far_first turns places.ListenPanel some behind = absurd (false≢true behind)
far_first turns places.ListenDownstream some behind = absurd (false≢true behind)
far_first turns places.ListenSupervisory some behind = absurd (false≢true behind)
far_first turns places.ListenConfiguration some behind = absurd (false≢true behind)
far_first turns places.PollPanel some behind = omega arith
far_first turns places.PollUpstream some behind = omega arith
far_first turns places.PollDownstream some behind = omega arith
far_first turns places.PollSupervisory some behind = omega arith
far_first turns places.PollConfiguration some behind = omega arith
far_first turns places.SendPanel some behind = omega arith
far_first turns places.SendUpstream some behind = omega arith
far_first turns places.SendDownstream some behind = omega arith
far_first turns places.SendSupervisory some behind = omega arith
far_first turns places.SendConfiguration some behind = omega arith
far_first turns places.TurnDone some behind = omega (arith, some)

far_again : (s : RunState) (turns : ℕ) → begins_again s ≡ true → 1 ≤ turns → far_at turns (moved_on s).turn (moved_on s).place + 1 ≤ far_at turns s.turn s.place
far_again s turns is some =
    let again = is_again s.ended s.turn s.place is in
    let P : ℕ → Type 0 = λ turn. far_at turns (turn_behind s.place turn) (place_behind s.place) + 1 ≤ far_at turns turn s.place in
    subst P (sym again.first) (far_first turns s.place some again.behind)

hears_nearer : (rules : Rules) (moment : ℤ) (s t : RunState) (log : List ℕ) → begins_again s ≡ true → 1 ≤ rules.turns → HearsGone rules moment s t log → length t.rest ≤ 4096 → IsShort t.channel → IsShort t.config → HasFewLooks t.held → far_of rules t < far_of rules s
hears_nearer rules moment s t log is some hears rest short heard few =
    let there = hears_same 4096 (gone_at s.place) rules moment (moved_on s) t log hears in
    let turn : far_at rules.turns t.turn t.place ≡ far_at rules.turns (moved_on s).turn (moved_on s).place =
    ap (λ n. far_at rules.turns n t.place) there.turn ∙ ap (λ p. far_at rules.turns (moved_on s).turn p) there.place in
    further (far_at rules.turns s.turn s.place) (far_at rules.turns t.turn t.place) (work_at s) (work_at t) (rw turn (far_again s rules.turns is some))
    (omega (arith, others_most t, hear_most t.channel short, hear_most t.config heard, few_work t.held.finding t.held.looks few.looks, rest))

pub again_nearer : (rules : Rules) (moment : ℤ) {s t : RunState} {calls : List Given} {log : List ℕ} → 1 ≤ rules.turns → MovesAgain rules moment s calls t log → length s.rest ≤ 4096 → length t.rest ≤ 4096 → IsShort t.channel → IsShort t.config → HasFewLooks t.held
    → far_of rules t < far_of rules s
again_nearer rules moment some (moves_as_ever again move) before after short heard few = moves_nearer rules moment move before after short heard few
again_nearer rules moment some (hears_gone {s} {t} {log} again hears) before after short heard few = hears_nearer rules moment s t log again some hears after short heard few
