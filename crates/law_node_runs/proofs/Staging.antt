-- A new machine runs over a book as without one.
use Rattle.std.proofs.Common.{◌≡◌, ◌∙◌, ◌++◌, ◌≤◌, ◌<◌, ◌&&◌, ℕ, ℤ, Bool, true, false, nat_lt, List, [], ◌∷◌, Option, Some, None, refl, sym, ap, subst, append-nil, if◌then◌else◌, arith}
use Rattle.std.specs.List.{All}
use Rattle.std.proofs.lemmas.Bool.Decides.{nat_tests}
use Rattle.std.proofs.lemmas.List.Elements.{All-nil, All-pop, All-push}
use Rattle.book_entry.specs.declared.entry.Entry.{Entry}
use Rattle.config_service.specs.declared.message.Settings.{Settings}
use Rattle.line_outside.specs.Given.{Given, Listens}
use Rattle.line_outside.specs.Listening.{at_all}
use Rattle.line_outside.specs.declared.ports.Opened.{Opened}
use Rattle.line_outside.specs.declared.ports.Opened.TheVariants as opens
use Rattle.line_outside.specs.declared.way.Address.{Address}
use Rattle.line_outside.specs.declared.way.Way.{Way}
use Rattle.line_outside.specs.declared.way.Way.TheVariants as ways
use Rattle.machine_log.specs.Drives.{all_off}
use Rattle.node_core.specs.Node.{new_node}
use Rattle.node_core.specs.declared.profile.NodeProfile.{NodeProfile}
use Rattle.node_run.specs.After.{after_listen}
use Rattle.node_run.specs.Booked.{MovesAgain, RunsKept, begins_kept, goes_on_kept, hears_gone, moves_as_ever}
use Rattle.node_run.specs.Gone.{HearsGone, begins_again, is_behind_listens}
use Rattle.node_run.specs.Next.{listens_if, moved_on, next_of, panel_address}
use Rattle.node_run.specs.Runs.{IsMoment, Moves, Runs, begins, goes_on, listens, skips}
use Rattle.node_run.specs.State.{RunState, resumed, started}
use Rattle.node_run.specs.declared.place.Next.{Next}
use Rattle.node_run.specs.declared.place.Next.TheVariants as nexts
use Rattle.node_run.specs.declared.place.Place.{Place}
use Rattle.node_run.specs.declared.place.Place.TheVariants as places
use Rattle.node_run.specs.declared.rules.Rules.{Rules}
use Rattle.node_run.specs.declared.status.NodeStatus.TheVariants as statuses
use Rattle.law_node_runs.proofs.Moving.{MovesAt, moves_at, none_ends}
use Rattle.law_node_runs.proofs.Turning.{never_again, turns_rise}
use Rattle.law_node_runs.specs.Anew.{NewMachinesRunAsEver, RunsAsEver, as_ever, as_ever_by, place_as_ever}

-- ---- turn 0 of a new machine, and the run without a book

abbrev at_none : Settings → NodeProfile → Place → RunState
at_none settings profile place = record (resumed settings (new_node profile) all_off) { place = place }

abbrev at_first : Settings → NodeProfile → Place → RunState
at_first settings profile place = record (started settings (new_node profile)) { place = place }

abbrev failing : Address → RunState → RunState
failing address s = record s { ended = Some (statuses.ListenFault address) }

data Stage (settings : Settings) (profile : NodeProfile) : RunState → RunState → Type 0 where
  listening : (place : Place) → is_behind_listens place ≡ false → Stage settings profile (at_none settings profile place) (at_first settings profile place)
  hearing : (place : Place) → is_behind_listens place ≡ true → Stage settings profile (at_none settings profile place) (at_first settings profile places.PollPanel)
  failed : (place : Place) (address : Address) → Stage settings profile (failing address (at_none settings profile place)) (failing address (at_first settings profile (place_as_ever place)))
  beyond : {t : RunState} → 1 ≤ t.turn → Stage settings profile t t

data NextStage (rules : Rules) (settings : Settings) (profile : NodeProfile) (moment : ℤ) (r u : RunState) (calls : List Given) (lines : List ℕ) : Type 0 where
  moves_too : {v : RunState} → Moves rules moment r calls v lines → Stage settings profile u v → NextStage rules settings profile moment r u calls lines
  stays_there : calls ≡ [] → lines ≡ [] → Stage settings profile u r → NextStage rules settings profile moment r u calls lines

-- ---- the listens

by_listen : (rules : Rules) (settings : Settings) (profile : NodeProfile) (moment : ℤ) (place : Place) (way : Way) (address : Address) (done : Opened) (u : RunState) → next_of rules (at_first settings profile place) ≡ nexts.Listen way address
    → u ≡ after_listen address done (at_none settings profile place) → Stage settings profile (moved_on (at_none settings profile place)) (moved_on (at_first settings profile place))
    → Stage settings profile (failing address (moved_on (at_none settings profile place))) (failing address (moved_on (at_first settings profile place)))
    → NextStage rules settings profile moment (at_first settings profile place) u (Listens way address done ∷ []) []
by_listen rules settings profile moment place way address opens.Done u next is behind fails =
    let P : RunState → Type 0 = λ x. Stage settings profile x (moved_on (at_first settings profile place)) in
    moves_too (listens {opened = opens.Done} next) (subst P (sym is) behind)
by_listen rules settings profile moment place way address opens.Failed u next is behind fails =
    let P : RunState → Type 0 = λ x. Stage settings profile x (failing address (moved_on (at_first settings profile place))) in
    moves_too (listens {opened = opens.Failed} next) (subst P (sym is) fails)

listen_stage : (rules : Rules) (settings : Settings) (profile : NodeProfile) (moment : ℤ) (place : Place) (way : Way) (address : Address) (u : RunState) (calls : List Given) (lines : List ℕ) → next_of rules (at_none settings profile place) ≡ nexts.Listen way address
    → next_of rules (at_first settings profile place) ≡ nexts.Listen way address → Stage settings profile (moved_on (at_none settings profile place)) (moved_on (at_first settings profile place))
    → Stage settings profile (failing address (moved_on (at_none settings profile place))) (failing address (moved_on (at_first settings profile place)))
    → Moves rules moment (at_none settings profile place) calls u lines → NextStage rules settings profile moment (at_first settings profile place) u calls lines
listen_stage rules settings profile moment place way address u calls lines next next' behind fails move =
    let P : Next → Type 0 = λ n. MovesAt n rules moment (at_none settings profile place) calls u lines in
    let did = subst P next (moves_at rules moment (at_none settings profile place) calls u lines move) in
    let Q : List Given → Type 0 = λ cs. NextStage rules settings profile moment (at_first settings profile place) u cs lines in
    let R : List ℕ → Type 0 = λ l. NextStage rules settings profile moment (at_first settings profile place) u (Listens way address did.done ∷ []) l in
    subst Q (sym did.called) (subst R (sym did.after.1) (by_listen rules settings profile moment place way address did.done u next' did.after.0 behind fails))

skip_stage : (rules : Rules) (settings : Settings) (profile : NodeProfile) (moment : ℤ) (place : Place) (u : RunState) (calls : List Given) (lines : List ℕ) → next_of rules (at_none settings profile place) ≡ nexts.Skip → next_of rules (at_first settings profile place) ≡ nexts.Skip
    → Stage settings profile (moved_on (at_none settings profile place)) (moved_on (at_first settings profile place))
    → Moves rules moment (at_none settings profile place) calls u lines → NextStage rules settings profile moment (at_first settings profile place) u calls lines
skip_stage rules settings profile moment place u calls lines next next' behind move =
    let P : Next → Type 0 = λ n. MovesAt n rules moment (at_none settings profile place) calls u lines in
    let did = subst P next (moves_at rules moment (at_none settings profile place) calls u lines move) in
    let Q : List Given → Type 0 = λ cs. NextStage rules settings profile moment (at_first settings profile place) u cs lines in
    let R : List ℕ → Type 0 = λ l. NextStage rules settings profile moment (at_first settings profile place) u [] l in
    let S : RunState → Type 0 = λ x. Stage settings profile x (moved_on (at_first settings profile place)) in
    subst Q (sym did.0) (subst R (sym did.2) (moves_too (skips next') (subst S (sym did.1) behind)))

port_stage : (found : Option ℕ) (rules : Rules) (settings : Settings) (profile : NodeProfile) (moment : ℤ) (place : Place) (way : Way) (u : RunState) (calls : List Given) (lines : List ℕ) → next_of rules (at_none settings profile place) ≡ listens_if way found
    → next_of rules (at_first settings profile place) ≡ listens_if way found → Stage settings profile (moved_on (at_none settings profile place)) (moved_on (at_first settings profile place))
    → ((address : Address) → Stage settings profile (failing address (moved_on (at_none settings profile place))) (failing address (moved_on (at_first settings profile place))))
    → Moves rules moment (at_none settings profile place) calls u lines → NextStage rules settings profile moment (at_first settings profile place) u calls lines
port_stage None rules settings profile moment place way u calls lines next next' behind fails move = skip_stage rules settings profile moment place u calls lines next next' behind move
port_stage (Some port) rules settings profile moment place way u calls lines next next' behind fails move = listen_stage rules settings profile moment place way (at_all port) u calls lines next next' behind (fails (at_all port)) move

listens_on : (rules : Rules) (settings : Settings) (profile : NodeProfile) (moment : ℤ) (place : Place) (u : RunState) (calls : List Given) (lines : List ℕ) → is_behind_listens place ≡ false
    → Moves rules moment (at_none settings profile place) calls u lines → NextStage rules settings profile moment (at_first settings profile place) u calls lines
listens_on rules settings profile moment places.ListenPanel u calls lines is move =
    let address = panel_address rules.panel.anywhere rules.connections.panel_port in
    listen_stage rules settings profile moment places.ListenPanel ways.Panel address u calls lines refl refl (listening places.ListenDownstream refl) (failed places.ListenDownstream address) move
listens_on rules settings profile moment places.ListenDownstream u calls lines is move =
    listen_stage rules settings profile moment places.ListenDownstream ways.Downstream (at_all settings.port) u calls lines refl refl (listening places.ListenSupervisory refl) (failed places.ListenSupervisory (at_all settings.port)) move
listens_on rules settings profile moment places.ListenSupervisory u calls lines is move =
    port_stage rules.connections.supervisory_port rules settings profile moment places.ListenSupervisory ways.Supervisory u calls lines refl refl (listening places.ListenConfiguration refl) (failed places.ListenConfiguration) move
listens_on rules settings profile moment places.ListenConfiguration u calls lines is move =
    port_stage rules.connections.config_port rules settings profile moment places.ListenConfiguration ways.Configuration u calls lines refl refl (hearing places.PollPanel refl) (failed places.PollPanel) move
listens_on rules settings profile moment _ u calls lines is move = cc

-- ---- nothing is gone

there : (settings : Settings) (profile : NodeProfile) (r u w : RunState) → u ≡ w → Stage settings profile w r → Stage settings profile u r
there settings profile r u w is stage = let P : RunState → Type 0 = λ x. Stage settings profile x r in subst P (sym is) stage

heard : (place : Place) (rules : Rules) (settings : Settings) (profile : NodeProfile) (moment : ℤ) (u : RunState) (lines : List ℕ) → is_behind_listens place ≡ true → HearsGone rules moment (at_none settings profile place) u lines
    → NextStage rules settings profile moment (at_first settings profile places.PollPanel) u [] lines
heard places.PollPanel rules settings profile moment u lines is hears = stays_there refl hears.1 (there settings profile _ u _ hears.0 (hearing places.PollUpstream refl))
heard places.PollUpstream rules settings profile moment u lines is hears = stays_there refl hears.1 (there settings profile _ u _ hears.0 (hearing places.PollDownstream refl))
heard places.PollDownstream rules settings profile moment u lines is hears = stays_there refl hears.1 (there settings profile _ u _ hears.0 (hearing places.PollSupervisory refl))
heard places.PollSupervisory rules settings profile moment u lines is hears = stays_there refl hears.1 (there settings profile _ u _ hears.0 (hearing places.PollConfiguration refl))
heard places.PollConfiguration rules settings profile moment u lines is hears = stays_there refl hears.1 (there settings profile _ u _ hears.0 (hearing places.SendPanel refl))
heard places.SendPanel rules settings profile moment u lines is hears = stays_there refl hears.1 (there settings profile _ u _ hears.0 (hearing places.SendUpstream refl))
heard places.SendUpstream rules settings profile moment u lines is hears = stays_there refl hears.1 (there settings profile _ u _ hears.0 (hearing places.SendDownstream refl))
heard places.SendDownstream rules settings profile moment u lines is hears = stays_there refl hears.1 (there settings profile _ u _ hears.0 (hearing places.SendSupervisory refl))
heard places.SendSupervisory rules settings profile moment u lines is hears = stays_there refl hears.1 (there settings profile _ u _ hears.0 (hearing places.SendConfiguration refl))
heard places.SendConfiguration rules settings profile moment u lines is hears = stays_there refl hears.1 (there settings profile _ u _ hears.0 (hearing places.TurnDone refl))
heard places.TurnDone rules settings profile moment u lines is hears = stays_there refl hears.1 (there settings profile _ u _ hears.0 (beyond (omega arith)))
heard places.ListenPanel rules settings profile moment u lines is hears = cc
heard places.ListenDownstream rules settings profile moment u lines is hears = cc
heard places.ListenSupervisory rules settings profile moment u lines is hears = cc
heard places.ListenConfiguration rules settings profile moment u lines is hears = cc

-- ---- one move more

stage_on : (rules : Rules) (settings : Settings) (profile : NodeProfile) (moment : ℤ) (t r u : RunState) (calls : List Given) (lines : List ℕ) → Stage settings profile t r → MovesAgain rules moment t calls u lines → NextStage rules settings profile moment r u calls lines
stage_on rules settings profile moment t r u calls lines (listening place is) (moves_as_ever begun move) = listens_on rules settings profile moment place u calls lines is move
stage_on rules settings profile moment t r u calls lines (listening place is) (hears_gone begun hears) = let wrong : true ≡ false = sym begun ∙ is in cc
stage_on rules settings profile moment t r u calls lines (hearing place is) (moves_as_ever begun move) = let wrong : false ≡ true = sym begun ∙ is in cc
stage_on rules settings profile moment t r u calls lines (hearing place is) (hears_gone begun hears) = heard place rules settings profile moment u lines is hears
stage_on rules settings profile moment t r u calls lines (failed place address) (moves_as_ever begun move) =
    absurd (none_ends (statuses.ListenFault address) rules moment (failing address (at_none settings profile place)) calls u lines refl move)
stage_on rules settings profile moment t r u calls lines (failed place address) (hears_gone begun hears) = cc
stage_on rules settings profile moment t r u calls lines (beyond some) (moves_as_ever begun move) = moves_too move (beyond (omega (arith, some, turns_rise rules moment move)))
stage_on rules settings profile moment t r u calls lines (beyond some) (hears_gone begun hears) = absurd (never_again t some begun)

-- ---- a run

record HasStage (rules : Rules) (settings : Settings) (profile : NodeProfile) (moments : List ℤ) (calls : List Given) (t : RunState) (log : List ℕ) : Type 0 where
  own : List ℤ
  at : (told : Option ℤ) → All (IsMoment told) moments → All (IsMoment told) own
  reached : RunState
  run : Runs rules (started settings (new_node profile)) own calls reached log
  stage : Stage settings profile t reached

one_more : (rules : Rules) (settings : Settings) (profile : NodeProfile) (moment : ℤ) (moments : List ℤ) (done calls : List Given) (t u : RunState) (log lines : List ℕ) → (has : HasStage rules settings profile moments done t log)
    → NextStage rules settings profile moment has.reached u calls lines → HasStage rules settings profile (moments ++ moment ∷ []) (done ++ calls) u (log ++ lines)
one_more rules settings profile moment moments done calls t u log lines has (moves_too {v} move stage) = record {
  own = has.own ++ moment ∷ [];
  at = λ told all.
      let parts = All-pop (IsMoment told) (moments ++ moment ∷ []) moments (Some moment) refl all in
      All-push (IsMoment told) has.own moment (has.at told parts.0) parts.1;
  reached = v;
  run = goes_on has.run move;
  stage = stage;
}
one_more rules settings profile moment moments done calls t u log lines has (stays_there none quiet stage) =
    let P : List Given → Type 0 = λ cs. Runs rules (started settings (new_node profile)) has.own cs has.reached (log ++ lines) in
    let Q : List ℕ → Type 0 = λ l. Runs rules (started settings (new_node profile)) has.own done has.reached l in
    record {
      own = has.own;
      at = λ told all. has.at told (All-pop (IsMoment told) (moments ++ moment ∷ []) moments (Some moment) refl all).0;
      reached = has.reached;
      run = subst P (sym (ap (λ (cs : List Given). done ++ cs) none ∙ append-nil done)) (subst Q (sym (ap (λ (l : List ℕ). log ++ l) quiet ∙ append-nil log)) has.run);
      stage = stage;
    }

abbrev first_state : Settings → NodeProfile → RunState
first_state settings profile = resumed settings (new_node profile) all_off

staged : (rules : Rules) (settings : Settings) (profile : NodeProfile) (s t : RunState) {moments : List ℤ} {calls : List Given} {log : List ℕ} {entries : List Entry} → s ≡ first_state settings profile → RunsKept rules s moments calls t log entries → HasStage rules settings profile moments calls t log
staged rules settings profile s t is begins_kept = record {
  own = [];
  at = λ told all. all;
  reached = started settings (new_node profile);
  run = begins;
  stage = there settings profile (started settings (new_node profile)) t (first_state settings profile) is (listening places.ListenPanel refl);
}
staged rules settings profile s u is (goes_on_kept {t = t} {moments = moments} {moment = moment} {calls = done} {more = calls} {log = log} {lines = lines} run move) =
    let has = staged rules settings profile s t is run in
    one_more rules settings profile moment moments done calls t u log lines has (stage_on rules settings profile moment t has.reached u calls lines has.stage move)

-- ---- where it is

abbrev put_at : Bool → Place → Place
put_at behind place = if behind then places.PollPanel else place

stage_is : (settings : Settings) (profile : NodeProfile) (t r : RunState) → Stage settings profile t r → as_ever t ≡ r
stage_is settings profile t r (listening place is) = ap (λ (b : Bool). at_first settings profile (put_at b place)) is
stage_is settings profile t r (hearing place is) = ap (λ (b : Bool). at_first settings profile (put_at b place)) is
stage_is settings profile t r (failed place address) = refl
stage_is settings profile t r (beyond some) = ap (λ (b : Bool). as_ever_by b t) (let big : nat_lt t.turn 1 ≡ false = grind (arith, nat_tests) in big)

stage_next : (rules : Rules) (settings : Settings) (profile : NodeProfile) (t r : RunState) → Stage settings profile t r → begins_again t ≡ false → next_of rules r ≡ next_of rules t
stage_next rules settings profile t r (listening places.ListenPanel is) begun = refl
stage_next rules settings profile t r (listening places.ListenDownstream is) begun = refl
stage_next rules settings profile t r (listening places.ListenSupervisory is) begun = refl
stage_next rules settings profile t r (listening places.ListenConfiguration is) begun = refl
stage_next rules settings profile t r (listening _ is) begun = cc
stage_next rules settings profile t r (hearing place is) begun = let wrong : false ≡ true = sym begun ∙ is in cc
stage_next rules settings profile t r (failed place address) begun = refl
stage_next rules settings profile t r (beyond some) begun = refl

pub new_as_ever : NewMachinesRunAsEver
new_as_ever rules settings profile moments calls t log entries run =
    let has = staged rules settings profile (first_state settings profile) t refl run in
    let is = stage_is settings profile t has.reached has.stage in
    let P : RunState → Type 0 = λ x. Runs rules (started settings (new_node profile)) has.own calls x log in
    record {
      own = has.own;
      at = has.at;
      run = subst P (sym is) has.run;
      ends = λ begun. ap (next_of rules) is ∙ stage_next rules settings profile t has.reached has.stage begun;
    }
