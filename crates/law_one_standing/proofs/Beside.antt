-- A track behind a line of another one: it is in its relation as before.
use Rattle.std.proofs.Common.{List, [], ap, refl, subst, sym, ℕ, ◌+◌, ◌<◌, ◌^◌, ◌∙◌, ◌≡◌, ◌≤◌}
use Rattle.std.specs.Prelude.{nat_le, nat_lt, ◌&&◌}
use Rattle.line_base.specs.Text.{IsText}
use Rattle.line_world.specs.FloorPlan.{machine_at}
use Rattle.line_report.specs.declared.happening.Happening.{Happening}
use Rattle.node_core.specs.Sound.{IsSound}
use Rattle.node_core.specs.declared.lane.Lane.{Lane}
use Rattle.law_link_messages.specs.Fit.{IsFitBody}
use Rattle.standings.specs.Ledger.{Ledger}
use Rattle.line_step.specs.Numbered.{node_at}
use Rattle.line_step.specs.Reasons.{has_link}
use Rattle.line_step.specs.State.{LineState, owned_by}
use Rattle.line_step.specs.Tracks.{IsBeside, IsBesideNode}
use Rattle.line_step.specs.World.{WorldParts, link_at}
use Rattle.line_step.proofs.Beside.{beside-lane, beside-length, beside-node, beside-old, beside-together}
use Rattle.line_step.proofs.FloorLaws.{beside-goes}
use Rattle.step_rules.specs.Makers.{IsOld}
use Rattle.law_one_standing.specs.Carried.{Carried, Carries, IsFitMachine, Trace, between_of, stand_of}
use Rattle.law_one_standing.specs.Stands.{IsAtRest, Stands}
use Rattle.law_one_standing.specs.Waits.{AreWaiting, Waits}
use Rattle.law_one_standing.specs.Replay.{deeds_of}
use Rattle.law_one_standing.proofs.LedgerLine.{Led, still_led}
use Rattle.law_one_standing.proofs.LedgerMarks.{FitsLine}
use Rattle.law_one_standing.proofs.RestMore.{same_keeps}

-- ---- where its links and its floor are those from before

abbrev aside : LineState → LineState → LineState
aside s t = record t { world = s.world }

aside_beside : (s t : LineState) → IsBeside s t → IsBeside s (aside s t)
aside_beside s t is = record { machines = is.machines; world = refl; counts = is.counts; vouched = is.vouched }

has_as_many : (s t : LineState) (link : ℕ) → IsBeside s t → has_link link t ≡ has_link link s
has_as_many s t link is = ap (λ (n : ℕ). nat_le 1 link && nat_lt link n) (beside-length s.machines t.machines is.machines)

carried_beside : (tr : Trace) (s t : LineState) (link : ℕ) → IsBeside s (aside s t) → Carried tr s link → Carried tr (aside s t) link
carried_beside tr s t link is c =
    let at = link_at link s.world in
    record {
      up = subst (λ (l : Lane). Carries at.stands l.exit_bytes at.flows.to_upstream (tr.up link)) (sym (beside-lane s (aside s t) link is)) c.up;
      down = subst (λ (l : Lane). Carries at.stands l.entry_bytes at.flows.to_downstream (tr.down link)) (sym (beside-lane s (aside s t) (link + 1) is)) c.down;
    }

rest_beside : (tr : Trace) (s t : LineState) (link : ℕ) → IsBeside s t → IsAtRest tr s link → IsAtRest tr t link
rest_beside tr s t link is r =
    let above : (node_at t link).lane ≡ (node_at s link).lane = beside-lane s t link is in
    let below : (node_at t (link + 1)).lane ≡ (node_at s (link + 1)).lane = beside-lane s t (link + 1) is in
    record {
      outlet = ap (λ (l : Lane). l.body.outlet.phase) above ∙ r.outlet;
      intake = ap (λ (l : Lane). l.body.intake.phase) below ∙ r.intake;
      exit = ap (λ (l : Lane). l.body.exit.session.state) above ∙ r.exit;
      entry = ap (λ (l : Lane). l.body.entry.session.state) below ∙ r.entry;
      up = r.up;
      down = r.down;
    }

fit_beside : (s t : LineState) (machine : ℕ) → IsBeside s t → IsFitMachine s machine → IsFitMachine t machine
fit_beside s t machine is f =
    let beside : IsBesideNode (node_at s machine) (node_at t machine) = beside-node s t machine is in
    record {
      body = subst (λ (l : Lane). IsFitBody l.body) (sym beside.lane) f.body;
      maker = record { small = subst (λ (n : ℕ). n < 2 ^ 32) (sym beside.machine) f.maker.small };
      name = subst (λ (name : List ℕ). IsText name) (sym beside.name) f.name;
      lane = subst (λ (n : ℕ). n ≤ 999_999_999) (sym beside.number) f.lane;
    }

sound_beside : (s t : LineState) (machine : ℕ) → IsBeside s t → IsSound (node_at s machine).capacity (node_at s machine).lane.body → IsSound (node_at t machine).capacity (node_at t machine).lane.body
sound_beside s t machine is sound =
    let beside : IsBesideNode (node_at s machine) (node_at t machine) = beside-node s t machine is in
    subst (λ (n : ℕ). IsSound n (node_at t machine).lane.body) (sym beside.capacity) (subst (λ (l : Lane). IsSound (node_at s machine).capacity l.body) (sym beside.lane) sound)

stands_still : (tr : Trace) (s t : LineState) → t.lines ≤ 1000000 → IsBeside s t → Stands tr s → Stands tr (aside s t)
stands_still tr s t few is st =
    let u : LineState = aside s t in
    let beside : IsBeside s u = aside_beside s t is in
    record {
      keeps = same_keeps (stand_of s) (stand_of u) (between_of tr s) (between_of tr u)
          (λ k. ap (λ (l : Lane). record { body = l.body; place = machine_at s.world.floor k }) (beside-lane s u k beside)) (λ k. refl) st.keeps;
      carried = λ link there. carried_beside tr s t link beside (st.carried link (sym (has_as_many s u link beside) ∙ there));
      rest = λ link none. rest_beside tr s u link beside (st.rest link (sym (has_as_many s u link beside) ∙ none));
      fit = λ machine. fit_beside s u machine beside (st.fit machine);
      sound = λ machine. sound_beside s u machine beside (st.sound machine);
      links = st.links;
      together = beside-together s u few beside st.together;
      ids = (beside-goes s u [] st.ids beside refl).holds;
      olds = λ link id gone. beside-old 1 s.machines t.machines is.machines id (st.olds link id gone);
    }

-- THE RELATION
pub beside_stands : (tr : Trace) (s t : LineState) → t.lines ≤ 1000000 → IsBeside s t → Stands tr s → Stands tr t
beside_stands tr s t few is st = subst (λ (w : WorldParts). Stands tr (record t { world = w })) (sym is.world) (stands_still tr s t few is st)

pub beside_waits : (s t : LineState) → IsBeside s t → AreWaiting s → AreWaiting t
beside_waits s t is waits machine = subst (λ (l : Lane). Waits l) (sym (beside-lane s t machine is)) (waits machine)

-- THE LEDGER
pub beside_led : (s t : LineState) (told : List Happening) (ledger : Ledger) → IsBeside s t → told ≡ [] → FitsLine (IsOld 1 s.machines) s ledger → Led (IsOld 1 t.machines) t ledger told
beside_led s t told ledger is none fits =
    still_led s t ledger told (λ machine. ap (λ (l : Lane). owned_by (record (node_at s machine) { lane = l })) (beside-lane s t machine is)) (ap deeds_of none) (beside-old 1 s.machines t.machines is.machines) fits
