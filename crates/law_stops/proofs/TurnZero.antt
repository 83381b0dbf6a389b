-- Turn 0 of a node that begins again, place by place.
use Rattle.std.proofs.Common.{◌≡◌, ◌∙◌, ◌≤◌, ◌<◌, ◌+◌, ◌&&◌, ℕ, ℤ, Bool, true, false, nat_lt, List, [], ◌∷◌, Option, None, Some, Result, Ok, Err, refl, sym, ap, subst, arith}
use Rattle.std.proofs.lemmas.Bool.{true≢false}
use Rattle.book_entry.specs.declared.entry.Entry.{Entry}
use Rattle.config_service.specs.declared.message.Settings.{Settings}
use Rattle.line_base.specs.declared.states.Side.{Side}
use Rattle.line_base.specs.declared.states.Side.TheVariants.{Entry as In, Exit as Out}
use Rattle.line_outside.specs.Given.{Given, Listens}
use Rattle.line_outside.specs.Listening.{at_all}
use Rattle.line_outside.specs.declared.ports.Opened.{Opened}
use Rattle.line_outside.specs.declared.ports.Opened.TheVariants as opens
use Rattle.line_outside.specs.declared.way.Address.{Address}
use Rattle.line_outside.specs.declared.way.Way.{Way}
use Rattle.line_outside.specs.declared.way.Way.TheVariants as ways
use Rattle.machine_log.specs.declared.drives.Drives.{Drives}
use Rattle.node_core.specs.May.{may_of}
use Rattle.node_core.specs.Node.{NodeState}
use Rattle.node_core.specs.Step.{Steps}
use Rattle.node_core.specs.declared.input.Input.{Input}
use Rattle.node_core.specs.declared.input.Input.TheVariants as inputs
use Rattle.node_core.specs.declared.input.No.{No}
use Rattle.node_run.specs.After.{after_listen}
use Rattle.node_run.specs.Booked.{MovesAgain, RunsKept, begins_kept, goes_on_kept, hears_gone, moves_as_ever}
use Rattle.node_run.specs.Gone.{HearsIf, StepsIf, begins_again, begins_by, gone_at, is_behind_listens}
use Rattle.node_run.specs.Next.{closes_next, ends_next, listens_if, moved_on, next_of, panel_address, place_behind, refuses_next, resets_next, turn_behind}
use Rattle.node_run.specs.Runs.{Moves}
use Rattle.node_run.specs.State.{RunState, resumed}
use Rattle.node_run.specs.declared.place.Next.{Next}
use Rattle.node_run.specs.declared.place.Next.TheVariants as nexts
use Rattle.node_run.specs.declared.place.Place.{Place}
use Rattle.node_run.specs.declared.place.Place.TheVariants as places
use Rattle.node_run.specs.declared.rules.Rules.{Rules}
use Rattle.node_run.specs.declared.status.NodeStatus.{NodeStatus}
use Rattle.node_run.specs.declared.status.NodeStatus.TheVariants as statuses
use Rattle.law_node_runs.proofs.Moving.{MovesAt, moves_at, none_ends}
use Rattle.law_node_runs.proofs.Turning.{never_again, turns_rise}
use Rattle.law_stops.specs.Stops.{IsGoneBehind, LosesPower, NoticesIf, TurnZeroLosesPower, UnsupervisedIf}

-- ---- what the machine has done by a place

abbrev pub Heard : Place → NodeState → NodeState → Type 0
Heard places.ListenPanel n m = m ≡ n
Heard places.ListenDownstream n m = m ≡ n
Heard places.ListenSupervisory n m = m ≡ n
Heard places.ListenConfiguration n m = m ≡ n
Heard places.PollPanel n m = m ≡ n
Heard places.PollUpstream n m = m ≡ n
Heard places.PollDownstream n m = NoticesIf (may_of n (inputs.Notice In)) In n m
Heard places.PollSupervisory n m = LosesPower n m
Heard places.PollConfiguration n m = IsGoneBehind n m
Heard places.SendPanel n m = IsGoneBehind n m
Heard places.SendUpstream n m = IsGoneBehind n m
Heard places.SendDownstream n m = IsGoneBehind n m
Heard places.SendSupervisory n m = IsGoneBehind n m
Heard places.SendConfiguration n m = IsGoneBehind n m
Heard places.TurnDone n m = IsGoneBehind n m

abbrev pub at_listen : Settings → NodeState → Drives → Place → RunState
at_listen settings n drives place = record (resumed settings n drives) { place = place }

pub data Stage (settings : Settings) (n : NodeState) (drives : Drives) : RunState → Type 0 where
  listening : (place : Place) → is_behind_listens place ≡ false → Stage settings n drives (at_listen settings n drives place)
  ended_there : {t : RunState} (status : NodeStatus) → t.ended ≡ Some status → (t.place ≡ places.TurnDone → ⊥) → Stage settings n drives t
  hearing : {t : RunState} → t.ended ≡ None → t.turn ≡ 0 → is_behind_listens t.place ≡ true → Heard t.place n t.node → Stage settings n drives t
  beyond : {t : RunState} → 1 ≤ t.turn → Stage settings n drives t

stage_at : {settings : Settings} {n : NodeState} {drives : Drives} {t : RunState} (place : Place) → t.ended ≡ None → t.turn ≡ 0 → t.place ≡ place → is_behind_listens place ≡ true → Heard place n t.node → Stage settings n drives t
stage_at {n = n} {t = t} place ended turn is behind heard = hearing ended turn (ap is_behind_listens is ∙ behind) (subst (λ (p : Place). Heard p n t.node) (sym is) heard)

-- ---- the listens

listened : {settings : Settings} {n : NodeState} {drives : Drives} (place : Place) (address : Address) (done : Opened) (u : RunState) → u ≡ after_listen address done (at_listen settings n drives place) → Stage settings n drives (moved_on (at_listen settings n drives place))
    → (place_behind place ≡ places.TurnDone → ⊥) → Stage settings n drives u
listened {settings} {n} {drives} place address opens.Done u is behind early = subst (λ (r : RunState). Stage settings n drives r) (sym is) behind
listened {settings} {n} {drives} place address opens.Failed u is behind early =
    ended_there (statuses.ListenFault address) (ap (λ (r : RunState). r.ended) is) (λ (at : u.place ≡ places.TurnDone). early (sym (ap (λ (r : RunState). r.place) is) ∙ at))

listen_stage : {settings : Settings} {n : NodeState} {drives : Drives} (rules : Rules) (moment : ℤ) (place : Place) (way : Way) (address : Address) (u : RunState) (calls : List Given) (lines : List ℕ) → next_of rules (at_listen settings n drives place) ≡ nexts.Listen way address
    → Stage settings n drives (moved_on (at_listen settings n drives place)) → (place_behind place ≡ places.TurnDone → ⊥) → Moves rules moment (at_listen settings n drives place) calls u lines → Stage settings n drives u
listen_stage {settings} {n} {drives} rules moment place way address u calls lines next behind early move =
    let P : Next → Type 0 = λ x. MovesAt x rules moment (at_listen settings n drives place) calls u lines in
    let did = subst P next (moves_at rules moment (at_listen settings n drives place) calls u lines move) in
    listened place address did.done u did.after.0 behind early

port_stage : {settings : Settings} {n : NodeState} {drives : Drives} (found : Option ℕ) (rules : Rules) (moment : ℤ) (place : Place) (way : Way) (u : RunState) (calls : List Given) (lines : List ℕ) → next_of rules (at_listen settings n drives place) ≡ listens_if way found
    → Stage settings n drives (moved_on (at_listen settings n drives place)) → (place_behind place ≡ places.TurnDone → ⊥) → Moves rules moment (at_listen settings n drives place) calls u lines → Stage settings n drives u
port_stage {settings} {n} {drives} None rules moment place way u calls lines next behind early move =
    let P : Next → Type 0 = λ x. MovesAt x rules moment (at_listen settings n drives place) calls u lines in
    let did = subst P next (moves_at rules moment (at_listen settings n drives place) calls u lines move) in
    subst (λ (r : RunState). Stage settings n drives r) (sym did.1) behind
port_stage (Some port) rules moment place way u calls lines next behind early move = listen_stage rules moment place way (at_all port) u calls lines next behind early move

listens_on : {settings : Settings} {n : NodeState} {drives : Drives} (rules : Rules) (moment : ℤ) (place : Place) (u : RunState) (calls : List Given) (lines : List ℕ) → is_behind_listens place ≡ false
    → Moves rules moment (at_listen settings n drives place) calls u lines → Stage settings n drives u
listens_on rules moment places.ListenPanel u calls lines is move =
    listen_stage rules moment places.ListenPanel ways.Panel (panel_address rules.panel.anywhere rules.connections.panel_port) u calls lines refl (listening places.ListenDownstream refl) (λ (e : places.ListenDownstream ≡ places.TurnDone). cc) move
listens_on {settings} rules moment places.ListenDownstream u calls lines is move =
    listen_stage rules moment places.ListenDownstream ways.Downstream (at_all settings.port) u calls lines refl (listening places.ListenSupervisory refl) (λ (e : places.ListenSupervisory ≡ places.TurnDone). cc) move
listens_on rules moment places.ListenSupervisory u calls lines is move =
    port_stage rules.connections.supervisory_port rules moment places.ListenSupervisory ways.Supervisory u calls lines refl (listening places.ListenConfiguration refl) (λ (e : places.ListenConfiguration ≡ places.TurnDone). cc) move
listens_on rules moment places.ListenConfiguration u calls lines is move =
    port_stage rules.connections.config_port rules moment places.ListenConfiguration ways.Configuration u calls lines refl (hearing refl refl refl refl) (λ (e : places.PollPanel ≡ places.TurnDone). cc) move
listens_on rules moment _ u calls lines is move = cc

-- ---- what is gone

pub notices_from : (may : Result (Unit {0}) No) (side : Side) (rules : Rules) (moment : ℤ) (v u : RunState) (lines : List ℕ) → StepsIf may rules moment (inputs.Notice side) v u lines → NoticesIf may side v.node u.node
notices_from (Ok done) side rules moment v u lines steps =
    (moment, steps.told, subst (λ (m : NodeState). Steps v.node [] (inputs.Notice side) moment m steps.told) (sym (ap (λ (r : RunState). r.node) steps.after)) steps.steps)
notices_from (Err why) side rules moment v u lines steps = ap (λ (r : RunState). r.node) steps.0

unsupervised_from : (may : Result (Unit {0}) No) (rules : Rules) (moment : ℤ) (v u : RunState) (lines : List ℕ) → StepsIf may rules moment (inputs.Supervise false) v u lines → UnsupervisedIf may v.node u.node
unsupervised_from (Ok done) rules moment v u lines steps =
    (moment, steps.told, subst (λ (m : NodeState). Steps v.node [] (inputs.Supervise false) moment m steps.told) (sym (ap (λ (r : RunState). r.node) steps.after)) steps.steps)
unsupervised_from (Err why) rules moment v u lines steps = ap (λ (r : RunState). r.node) steps.0

record SameBut (v u : RunState) : Type 0 where
  ended : u.ended ≡ v.ended
  turn : u.turn ≡ v.turn
  place : u.place ≡ v.place

same_is : {v u : RunState} → u ≡ v → SameBut v u
same_is is = record { ended = ap (λ (r : RunState). r.ended) is; turn = ap (λ (r : RunState). r.turn) is; place = ap (λ (r : RunState). r.place) is }

steps_same : (may : Result (Unit {0}) No) (input : Input) (rules : Rules) (moment : ℤ) (v u : RunState) (lines : List ℕ) → StepsIf may rules moment input v u lines → SameBut v u
steps_same (Ok done) input rules moment v u lines steps =
    record { ended = ap (λ (r : RunState). r.ended) steps.after; turn = ap (λ (r : RunState). r.turn) steps.after; place = ap (λ (r : RunState). r.place) steps.after }
steps_same (Err why) input rules moment v u lines steps = same_is steps.0

abbrev pub moved_from : Place → RunState → RunState
moved_from place s = record s { place = place_behind place; turn = turn_behind place s.turn }

abbrev HearsAt : Place → Rules → ℤ → RunState → RunState → List ℕ → Type 0
HearsAt place rules moment s u lines = HearsIf (gone_at place) rules moment (moved_from place s) u lines

-- a place at which nothing is heard, and the turn goes on
still_there : {settings : Settings} {n : NodeState} {drives : Drives} (s u v : RunState) (place : Place) → s.ended ≡ None → s.turn ≡ 0 → SameBut v u → u.node ≡ s.node → v.ended ≡ s.ended → v.turn ≡ s.turn → v.place ≡ place → is_behind_listens place ≡ true → Heard place n s.node
    → Stage settings n drives u
still_there {n = n} s u v place ended turn same node ended_is turn_is place_is behind heard =
    stage_at place (same.ended ∙ ended_is ∙ ended) (same.turn ∙ turn_is ∙ turn) (same.place ∙ place_is) behind (subst (λ (m : NodeState). Heard place n m) (sym node) heard)

hears_stage : {settings : Settings} {n : NodeState} {drives : Drives} (place : Place) (rules : Rules) (moment : ℤ) (s u : RunState) (lines : List ℕ) → s.ended ≡ None → s.turn ≡ 0 → is_behind_listens place ≡ true → Heard place n s.node → HearsAt place rules moment s u lines
    → Stage settings n drives u
hears_stage places.PollPanel rules moment s u lines ended turn is heard hears = still_there s u (moved_from places.PollPanel s) places.PollUpstream ended turn (same_is hears.0) (ap (λ (r : RunState). r.node) hears.0) refl refl refl refl heard
hears_stage {n = n} places.PollUpstream rules moment s u lines ended turn is heard hears =
    let same = steps_same (may_of s.node (inputs.Notice In)) (inputs.Notice In) rules moment (moved_from places.PollUpstream s) u lines hears in
    let did : NoticesIf (may_of s.node (inputs.Notice In)) In s.node u.node = notices_from (may_of s.node (inputs.Notice In)) In rules moment (moved_from places.PollUpstream s) u lines hears in
    stage_at places.PollDownstream (same.ended ∙ ended) (same.turn ∙ turn) same.place refl (subst (λ (m : NodeState). NoticesIf (may_of m (inputs.Notice In)) In m u.node) heard did)
hears_stage {n = n} places.PollDownstream rules moment s u lines ended turn is heard hears =
    let same = steps_same (may_of s.node (inputs.Notice Out)) (inputs.Notice Out) rules moment (moved_from places.PollDownstream s) u lines hears in
    let did : NoticesIf (may_of s.node (inputs.Notice Out)) Out s.node u.node = notices_from (may_of s.node (inputs.Notice Out)) Out rules moment (moved_from places.PollDownstream s) u lines hears in
    let loses : LosesPower n u.node = record { between = s.node; entry = heard; exit = did } in
    stage_at places.PollSupervisory (same.ended ∙ ended) (same.turn ∙ turn) same.place refl loses
hears_stage {n = n} places.PollSupervisory rules moment s u lines ended turn is heard hears =
    let same = steps_same (may_of s.node (inputs.Supervise false)) (inputs.Supervise false) rules moment (moved_from places.PollSupervisory s) u lines hears in
    let did : UnsupervisedIf (may_of s.node (inputs.Supervise false)) s.node u.node = unsupervised_from (may_of s.node (inputs.Supervise false)) rules moment (moved_from places.PollSupervisory s) u lines hears in
    let gone : IsGoneBehind n u.node = record { after = s.node; loses = heard; unsupervised = did } in
    stage_at places.PollConfiguration (same.ended ∙ ended) (same.turn ∙ turn) same.place refl gone
hears_stage places.PollConfiguration rules moment s u lines ended turn is heard hears = still_there s u (moved_from places.PollConfiguration s) places.SendPanel ended turn (same_is hears.0) (ap (λ (r : RunState). r.node) hears.0) refl refl refl refl heard
hears_stage places.SendPanel rules moment s u lines ended turn is heard hears = still_there s u (moved_from places.SendPanel s) places.SendUpstream ended turn (same_is hears.0) (ap (λ (r : RunState). r.node) hears.0) refl refl refl refl heard
hears_stage places.SendUpstream rules moment s u lines ended turn is heard hears = still_there s u (moved_from places.SendUpstream s) places.SendDownstream ended turn (same_is hears.0) (ap (λ (r : RunState). r.node) hears.0) refl refl refl refl heard
hears_stage places.SendDownstream rules moment s u lines ended turn is heard hears = still_there s u (moved_from places.SendDownstream s) places.SendSupervisory ended turn (same_is hears.0) (ap (λ (r : RunState). r.node) hears.0) refl refl refl refl heard
hears_stage places.SendSupervisory rules moment s u lines ended turn is heard hears = still_there s u (moved_from places.SendSupervisory s) places.SendConfiguration ended turn (same_is hears.0) (ap (λ (r : RunState). r.node) hears.0) refl refl refl refl heard
hears_stage places.SendConfiguration rules moment s u lines ended turn is heard hears = still_there s u (moved_from places.SendConfiguration s) places.TurnDone ended turn (same_is hears.0) (ap (λ (r : RunState). r.node) hears.0) refl refl refl refl heard
hears_stage places.TurnDone rules moment s u lines ended turn is heard hears = (let next : u.turn ≡ s.turn + 1 = ap (λ (r : RunState). r.turn) hears.0 in beyond (omega (arith, next)))
hears_stage places.ListenPanel rules moment s u lines ended turn is heard hears = cc
hears_stage places.ListenDownstream rules moment s u lines ended turn is heard hears = cc
hears_stage places.ListenSupervisory rules moment s u lines ended turn is heard hears = cc
hears_stage places.ListenConfiguration rules moment s u lines ended turn is heard hears = cc

-- ---- one move more

listening_begins : (settings : Settings) (n : NodeState) (drives : Drives) (place : Place) → is_behind_listens place ≡ false → begins_again (at_listen settings n drives place) ≡ true → ⊥
listening_begins settings n drives places.ListenPanel is begun = cc
listening_begins settings n drives places.ListenDownstream is begun = cc
listening_begins settings n drives places.ListenSupervisory is begun = cc
listening_begins settings n drives places.ListenConfiguration is begun = cc
listening_begins settings n drives _ is begun = cc

ended_next : (rules : Rules) (t : RunState) (status : NodeStatus) → t.ended ≡ Some status → next_of rules t ≡ nexts.End status
ended_next rules t status is = ap (λ (e : Option NodeStatus). ends_next e (refuses_next t.refusal (resets_next t.resets (closes_next rules t)))) is

ended_begins : (t : RunState) (status : NodeStatus) → t.ended ≡ Some status → begins_again t ≡ true → ⊥
ended_begins t status is begun = true≢false (sym begun ∙ ap (λ (e : Option NodeStatus). begins_by e t.turn t.place) is)

hearing_begins : (t : RunState) → t.ended ≡ None → t.turn ≡ 0 → is_behind_listens t.place ≡ true → begins_again t ≡ true
hearing_begins t ended turn behind =
    ap (λ (e : Option NodeStatus). begins_by e t.turn t.place) ended ∙ ap (λ (n : ℕ). nat_lt n 1 && is_behind_listens t.place) turn ∙ behind

stage_on : {settings : Settings} {n : NodeState} {drives : Drives} (rules : Rules) (moment : ℤ) (t u : RunState) (calls : List Given) (lines : List ℕ) → Stage settings n drives t → MovesAgain rules moment t calls u lines → Stage settings n drives u
stage_on rules moment t u calls lines (listening place is) (moves_as_ever begun move) = listens_on rules moment place u calls lines is move
stage_on {settings} {n} {drives} rules moment t u calls lines (listening place is) (hears_gone begun hears) = absurd (listening_begins settings n drives place is begun)
stage_on rules moment t u calls lines (ended_there status is early) (moves_as_ever begun move) = absurd (none_ends status rules moment t calls u lines (ended_next rules t status is) move)
stage_on rules moment t u calls lines (ended_there status is early) (hears_gone begun hears) = absurd (ended_begins t status is begun)
stage_on rules moment t u calls lines (hearing ended turn behind heard) (moves_as_ever begun move) = absurd (true≢false (sym (hearing_begins t ended turn behind) ∙ begun))
stage_on rules moment t u calls lines (hearing ended turn behind heard) (hears_gone begun hears) = hears_stage t.place rules moment t u lines ended turn behind heard hears
stage_on rules moment t u calls lines (beyond some) (moves_as_ever begun move) = beyond (omega (arith, some, turns_rise rules moment move))
stage_on rules moment t u calls lines (beyond some) (hears_gone begun hears) = absurd (never_again t some begun)

staged : {settings : Settings} {n : NodeState} {drives : Drives} {rules : Rules} {s t : RunState} {moments : List ℤ} {calls : List Given} {log : List ℕ} {entries : List Entry} → s ≡ resumed settings n drives → RunsKept rules s moments calls t log entries → Stage settings n drives t
staged {settings} {n} {drives} is begins_kept = subst (λ (r : RunState). Stage settings n drives r) (sym is) (listening places.ListenPanel refl)
staged {rules = rules} is (goes_on_kept {s} {t} {u} {moments} {moment} {calls} {more} {log} {lines} {entries} run move) = stage_on rules moment t u more lines (staged is run) move

-- ---- at its last place

at_last : {settings : Settings} {n : NodeState} {drives : Drives} (t : RunState) → Stage settings n drives t → t.turn ≡ 0 → t.place ≡ places.TurnDone → IsGoneBehind n t.node
at_last t (listening place is) turn at = absurd (true≢false (sym (ap is_behind_listens at) ∙ is))
at_last t (ended_there status is early) turn at = absurd (early at)
at_last {n = n} t (hearing ended none behind heard) turn at = subst (λ (p : Place). Heard p n t.node) at heard
at_last t (beyond some) turn at = absurd (omega (arith, some, turn))

pub turn_0_loses : TurnZeroLosesPower
turn_0_loses rules settings node drives moments t calls log entries run turn at = at_last t (staged refl run) turn at
