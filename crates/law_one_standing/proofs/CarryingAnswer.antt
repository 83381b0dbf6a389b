-- The acts of a step of a second connection, whose answer flows down though the link doesn't stand.
use Rattle.std.proofs.Common.{Bool, List, None, Option, Some, [], ap, false, refl, subst, suc, sym, true, ℕ, ◌++◌, ◌∙◌, ◌∷◌, ◌≡◌, append_assoc}
use Rattle.std.specs.Prelude.{cond, drop, if◌then◌else◌, is_some}
use Rattle.std.proofs.lemmas.Bool.{false≢true}
use Rattle.law_machine_custody.proofs.Connecting.{vanishes as off_said}
use Rattle.line_base.specs.declared.states.Role.TheVariants.{Downstream, Upstream}
use Rattle.line_base.specs.declared.states.Side.{Side}
use Rattle.line_base.specs.declared.states.Side.TheVariants.{Entry, Exit}
use Rattle.board_record.specs.declared.sensed.Sensed.{Sensed}
use Rattle.hermes_horizontal.specs.Canonical.{canonical}
use Rattle.hermes_horizontal.specs.declared.message.Horizontal.{Horizontal}
use Rattle.hermes_horizontal.specs.declared.message.Horizontal.TheVariants as message
use Rattle.hermes_horizontal.specs.declared.message.Message.{Message}
use Rattle.session_core.specs.End.{SessionEnd}
use Rattle.session_core.specs.Input.{second}
use Rattle.session_core.specs.Row.{SessionRow, session_row}
use Rattle.session_core.specs.Table.{IsSessionRow, refuses_second}
use Rattle.session_core.proofs.Rows.{row_is as session_row_is}
use Rattle.line_link.specs.Flow.{Stream, is_begun}
use Rattle.line_link.specs.Link.{LinkParts, after_answer, after_close, after_send, answer_of, flow_to, is_too_much, texted, within_limit}
use Rattle.line_world.specs.FloorPlan.{with_drive, with_new_id, without_board}
use Rattle.line_world.specs.declared.gap.AtGap.{AtGap}
use Rattle.node_core.specs.Announces.{announces}
use Rattle.node_core.specs.Desk.{Desk}
use Rattle.node_core.specs.Done.{Done}
use Rattle.node_core.specs.Event.{Second, event_did}
use Rattle.node_core.specs.Reads.{all_read}
use Rattle.node_core.specs.Session.{actions_did, session_did}
use Rattle.node_core.specs.Sides.{with_session}
use Rattle.node_core.specs.Step.{machine_step}
use Rattle.node_core.specs.declared.act.Act.{Act}
use Rattle.node_core.specs.declared.act.Act.TheVariants as acts
use Rattle.node_core.specs.declared.lane.Body.{Body}
use Rattle.law_link_messages.specs.Fit.{AreFitActs, IsFit, IsFitAct, more_said, none_said}
use Rattle.law_machine_custody.specs.Joined.{all_met_second, answered, is_answer, met_second}
use Rattle.law_machine_custody.specs.Scene.{Scene, all_met, met}
use Rattle.law_machine_custody.proofs.Answering.{IsNoAnswer, announces_plain, plain_met, read_plain, second_append}
use Rattle.law_machine_custody.proofs.Quiet.{AllActs, acts_more, acts_none, all_append, all_tells}
use Rattle.node_core.specs.Supervising.{watch_behind, watch_of, with_tells}
use Rattle.node_core.specs.declared.supervising.Watch.{Watch}
use Rattle.line_step.proofs.WithTells.{tells_append}
use Rattle.line_step.specs.Acts.{is_answer as is_told_answer}
use Rattle.line_step.specs.Near.{Near, near_did, near_sent, nears_did}
use Rattle.step_rules.specs.Opened.{open_act}
use Rattle.line_step.specs.World.{end_of}
use Rattle.line_step.proofs.Ends.{same_send}
use Rattle.law_one_standing.specs.Carried.{Carries}
use Rattle.law_one_standing.proofs.Carrying.{SaysAlone, carries_off}
use Rattle.law_one_standing.proofs.CarryingTexts.{carries_answer}
use Rattle.law_one_standing.proofs.CarryingActs.{IsLike, acts_like, boards_now, driven_entry, driven_exit}
use Rattle.law_one_standing.proofs.CarryingSides.{IsSide, Joint, begun_text, closed_away, closed_begun, closed_home, closed_stands, heard_by, heard_in, home_heard, home_on, home_over, joint_as, joint_closed, joint_driven, joint_heard, joint_on, joint_sent, limited}

-- ---- a side whose link doesn't stand: what is sent there vanishes, and nothing cuts it

side_on : {stands : Bool} {new far : List ℕ} {link : LinkParts} {gap now : AtGap} {home away : List Horizontal} (side : Side) (act : Act) (rest : List Act) → heard_by side act (heard_in side rest) ≡ heard_in side rest → open_act side true act ≡ true
    → IsSide side (act ∷ rest) new far link gap stands now home away → IsSide side rest new far link gap stands now home away
side_on side act rest quiet still k = record { is_on = k.is_on; same = k.same; comes = home_on side act rest quiet still k.comes; goes = k.goes; begun = k.begun; begun_home = k.begun_home }

side_heard : {stands : Bool} {new far : List ℕ} {link : LinkParts} {gap now : AtGap} {home away : List Horizontal} (side : Side) (act : Act) (rest : List Act) → heard_by side act (heard_in side rest) ≡ suc (heard_in side rest) → open_act side true act ≡ true
    → IsSide side (act ∷ rest) new far link gap stands now home away → IsSide side rest new far link gap stands now (drop 1 home) away
side_heard side act rest one still k = record { is_on = k.is_on; same = k.same; comes = home_heard side act rest one still k.comes; goes = k.goes; begun = k.begun; begun_home = k.begun_home }

side_closed : {stands : Bool} {new far : List ℕ} {link : LinkParts} {gap now : AtGap} {home away : List Horizontal} (side : Side) (act : Act) (rest : List Act)
    → IsSide side (act ∷ rest) new far link gap stands now home away → IsSide side rest new far (after_close (end_of side) link) gap false now [] away
side_closed {far = far} {link = link} {away = away} side act rest k = record {
  is_on = closed_stands side link;
  same = k.same;
  comes = home_over side rest (flow_to (end_of side) (after_close (end_of side) link)) (closed_home side link);
  goes = subst (λ (s : Stream). Carries false far s away) (sym (closed_away side link)) (carries_off k.goes);
  begun = ap (λ (s : Stream). is_begun s.texts s.arrived) (closed_away side link) ∙ k.begun;
  begun_home = closed_begun side link;
}

-- what is near a machine whose link below doesn't stand, and has a connection at its other end, where nothing waits
pub record IsLikeOff (has : Side → Bool) (rest : List Act) (new_entry new_exit far_above : List ℕ) (near : Near) (c : Scene) : Type 0 where
  pub place : near.place ≡ record { boards = c.boards; unread = [] }
  pub above : Joint Entry (has Entry) rest new_entry far_above near.above.link near.above.gap c.above.stands c.above.gap c.above.down c.above.up
  pub there : has Exit ≡ true
  pub off : c.below.stands ≡ false
  pub below : IsSide Exit rest new_exit [] near.below.link near.below.gap c.below.stands c.below.gap c.below.up c.below.down
  pub linked : is_some near.below.link.downstream ≡ true

-- a message that is no answer vanishes there
off_sent : (stands : Bool) (text : List ℕ) (link : LinkParts) → link.stands ≡ stands → stands ≡ false → after_send Upstream text link ≡ link
off_sent stands text link is off = ap (λ (test : Bool). cond test (within_limit Downstream (texted Downstream text link)) link) (is ∙ off)

act_off : {has : Side → Bool} {new_entry new_exit far_above : List ℕ} {near : Near} {c : Scene} → SaysAlone → (act : Act) (rest : List Act) → IsFitAct act
    → IsLikeOff has (act ∷ rest) new_entry new_exit far_above near c → IsLikeOff has rest new_entry new_exit far_above (near_did has false act near) (met act c)
act_off alone (acts.Hears Entry message) rest fit k = record { place = k.place; above = joint_heard Entry (acts.Hears Entry message) rest refl refl k.above; there = k.there; off = k.off; below = side_on Exit (acts.Hears Entry message) rest refl refl k.below; linked = k.linked }
act_off alone (acts.Hears Exit message) rest fit k = record { place = k.place; above = joint_on Entry (acts.Hears Exit message) rest refl refl k.above; there = k.there; off = k.off; below = side_heard Exit (acts.Hears Exit message) rest refl refl k.below; linked = k.linked }
act_off alone (acts.Sends Entry message) rest fit k = record { place = k.place; above = joint_sent alone Entry (acts.Sends Entry message) message rest refl refl fit k.above; there = k.there; off = k.off; below = side_on Exit (acts.Sends Entry message) rest refl refl k.below; linked = k.linked }
act_off {new_exit = nx} {near = near} {c = c} alone (acts.Sends Exit message) rest fit k = record {
  place = k.place;
  above = joint_on Entry (acts.Sends Exit message) rest refl refl k.above;
  there = k.there;
  off = k.off;
  below =
      subst (λ (ms : List Horizontal). IsSide Exit rest nx [] (after_send Upstream (canonical message) near.below.link) near.below.gap c.below.stands c.below.gap c.below.up ms) (sym (off_said c.below.stands message.body c.below.down k.off))
      (subst (λ (l : LinkParts). IsSide Exit rest nx [] l near.below.gap c.below.stands c.below.gap c.below.up c.below.down) (sym (off_sent c.below.stands (canonical message) near.below.link k.below.is_on k.off)) (side_on Exit (acts.Sends Exit message) rest refl refl k.below));
  linked = ap (λ number. is_some number) (same_send Upstream (canonical message) near.below.link Downstream) ∙ k.linked;
}
act_off alone (acts.Closes Entry) rest fit k = record { place = k.place; above = joint_closed Entry (acts.Closes Entry) rest k.above; there = k.there; off = k.off; below = side_on Exit (acts.Closes Entry) rest refl refl k.below; linked = k.linked }
act_off alone (acts.Closes Exit) rest fit k = record { place = k.place; above = joint_on Entry (acts.Closes Exit) rest refl refl k.above; there = k.there; off = refl; below = side_closed Exit (acts.Closes Exit) rest k.below; linked = k.linked }
act_off alone (acts.Notices Entry) rest fit k = record { place = k.place; above = joint_closed Entry (acts.Notices Entry) rest k.above; there = k.there; off = k.off; below = side_on Exit (acts.Notices Entry) rest refl refl k.below; linked = k.linked }
act_off alone (acts.Notices Exit) rest fit k = record { place = k.place; above = joint_on Entry (acts.Notices Exit) rest refl refl k.above; there = k.there; off = refl; below = side_closed Exit (acts.Notices Exit) rest k.below; linked = k.linked }
act_off {has = has} {new_entry = ne} {new_exit = nx} {far_above = fa} {near = near} {c = c} alone (acts.Drive Entry on) rest fit k =
    subst (λ (n : Near). IsLikeOff has rest ne nx fa n (met (acts.Drive Entry on) c)) (sym (driven_entry (has Entry) on near))
    (record { place = k.place; above = joint_driven Entry (acts.Drive Entry on) rest Entry on refl refl k.above; there = k.there; off = k.off; below = side_on Exit (acts.Drive Entry on) rest refl refl k.below; linked = k.linked })
act_off {has = has} {new_entry = ne} {new_exit = nx} {far_above = fa} {near = near} {c = c} alone (acts.Drive Exit on) rest fit k =
    let b = side_on Exit (acts.Drive Exit on) rest refl refl k.below in
    let gap : cond (has Exit) (with_drive near.below.gap Exit on) near.below.gap ≡ with_drive c.below.gap Exit on = ap (λ (test : Bool). cond test (with_drive near.below.gap Exit on) near.below.gap) k.there ∙ ap (λ (g : AtGap). with_drive g Exit on) b.same in
    subst (λ (n : Near). IsLikeOff has rest ne nx fa n (met (acts.Drive Exit on) c)) (sym (driven_exit (has Exit) on near))
    (record { place = k.place; above = joint_on Entry (acts.Drive Exit on) rest refl refl k.above; there = k.there; off = k.off; below = record { is_on = b.is_on; same = gap; comes = b.comes; goes = b.goes; begun = b.begun; begun_home = b.begun_home }; linked = k.linked })
act_off {near = near} {c = c} alone (acts.Inserts id) rest fit k =
    record { place = boards_now near.place c.boards (λ bs. bs ++ record { id = Some id } ∷ []) k.place; above = joint_on Entry (acts.Inserts id) rest refl refl k.above; there = k.there; off = k.off; below = side_on Exit (acts.Inserts id) rest refl refl k.below; linked = k.linked }
act_off {near = near} {c = c} alone (acts.Removes id) rest fit k =
    record { place = boards_now near.place c.boards (without_board id) k.place; above = joint_on Entry (acts.Removes id) rest refl refl k.above; there = k.there; off = k.off; below = side_on Exit (acts.Removes id) rest refl refl k.below; linked = k.linked }
act_off {near = near} {c = c} alone (acts.Gives id to) rest fit k =
    record { place = boards_now near.place c.boards (without_board id) k.place; above = joint_on Entry (acts.Gives id to) rest refl refl k.above; there = k.there; off = k.off; below = side_on Exit (acts.Gives id to) rest refl refl k.below; linked = k.linked }
act_off {near = near} {c = c} alone (acts.Gets id) rest fit k =
    record { place = boards_now near.place c.boards (λ bs. bs ++ record { id = Some id } ∷ []) k.place; above = joint_on Entry (acts.Gets id) rest refl refl k.above; there = k.there; off = k.off; below = side_on Exit (acts.Gets id) rest refl refl k.below; linked = k.linked }
act_off {near = near} {c = c} alone (acts.Replaces old id) rest fit k =
    record { place = boards_now near.place c.boards (with_new_id old id) k.place; above = joint_on Entry (acts.Replaces old id) rest refl refl k.above; there = k.there; off = k.off; below = side_on Exit (acts.Replaces old id) rest refl refl k.below; linked = k.linked }
act_off alone (acts.Reads at event) rest fit k = record { place = k.place; above = joint_on Entry (acts.Reads at event) rest refl refl k.above; there = k.there; off = k.off; below = side_on Exit (acts.Reads at event) rest refl refl k.below; linked = k.linked }
act_off alone (acts.Breaches at text) rest fit k = record { place = k.place; above = joint_on Entry (acts.Breaches at text) rest refl refl k.above; there = k.there; off = k.off; below = side_on Exit (acts.Breaches at text) rest refl refl k.below; linked = k.linked }
act_off alone acts.Connects rest fit k = record { place = k.place; above = joint_on Entry acts.Connects rest refl refl k.above; there = k.there; off = k.off; below = side_on Exit acts.Connects rest refl refl k.below; linked = k.linked }
act_off alone (acts.Deed deed) rest fit k = record { place = k.place; above = joint_on Entry (acts.Deed deed) rest refl refl k.above; there = k.there; off = k.off; below = side_on Exit (acts.Deed deed) rest refl refl k.below; linked = k.linked }
act_off alone (acts.Marks id quality) rest fit k = record { place = k.place; above = joint_on Entry (acts.Marks id quality) rest refl refl k.above; there = k.there; off = k.off; below = side_on Exit (acts.Marks id quality) rest refl refl k.below; linked = k.linked }
act_off alone (acts.Subs id place) rest fit k = record { place = k.place; above = joint_on Entry (acts.Subs id place) rest refl refl k.above; there = k.there; off = k.off; below = side_on Exit (acts.Subs id place) rest refl refl k.below; linked = k.linked }
act_off alone (acts.Signals signal on) rest fit k = record { place = k.place; above = joint_on Entry (acts.Signals signal on) rest refl refl k.above; there = k.there; off = k.off; below = side_on Exit (acts.Signals signal on) rest refl refl k.below; linked = k.linked }
act_off alone (acts.Tells message) rest fit k = record { place = k.place; above = joint_on Entry (acts.Tells message) rest refl refl k.above; there = k.there; off = k.off; below = side_on Exit (acts.Tells message) rest refl refl k.below; linked = k.linked }
act_off alone (acts.Answered query order) rest fit k = record { place = k.place; above = joint_on Entry (acts.Answered query order) rest refl refl k.above; there = k.there; off = k.off; below = side_on Exit (acts.Answered query order) rest refl refl k.below; linked = k.linked }
act_off alone (acts.Sets setting) rest fit k = record { place = k.place; above = joint_on Entry (acts.Sets setting) rest refl refl k.above; there = k.there; off = k.off; below = side_on Exit (acts.Sets setting) rest refl refl k.below; linked = k.linked }

acts_off : {has : Side → Bool} {new_entry new_exit far_above : List ℕ} → SaysAlone → (told rest : List Act) → AreFitActs told → {near : Near} {c : Scene}
    → IsLikeOff has (told ++ rest) new_entry new_exit far_above near c → IsLikeOff has rest new_entry new_exit far_above (nears_did has false told near) (all_met told c)
acts_off alone [] rest none_said k = k
acts_off alone (act ∷ others) rest (more_said fit more) k = acts_off alone others rest more (act_off alone act (others ++ rest) fit k)

like_of : {has : Side → Bool} {rest : List Act} {new_entry new_exit far_above : List ℕ} {near : Near} {c : Scene} → IsLikeOff has rest new_entry new_exit far_above near c → IsLike has rest new_entry new_exit far_above [] near c
like_of k = record { place = k.place; above = k.above; below = joint_as k.there k.below }

-- ---- the answer

texted_side : {stands : Bool} {new : List ℕ} {link : LinkParts} {gap now : AtGap} {home away : List Horizontal} → SaysAlone → (act : Act) (message : Message) (rest : List Act) → heard_by Exit act (heard_in Exit rest) ≡ heard_in Exit rest → open_act Exit true act ≡ true
    → IsFit message → IsSide Exit (act ∷ rest) new [] link gap stands now home away → IsSide Exit rest new [] (texted Downstream (canonical message) link) gap stands now home (away ++ message.body ∷ [])
texted_side {link = link} alone act message rest quiet still fit k = record {
  is_on = k.is_on;
  same = k.same;
  comes = home_on Exit act rest quiet still k.comes;
  goes = carries_answer alone message fit k.begun k.goes;
  begun = begun_text (canonical message) link.flows.to_downstream k.begun;
  begun_home = k.begun_home;
}

answered_by : {has : Bool} {stands : Bool} {rest : List Act} {new : List ℕ} {gap now : AtGap} {home away : List Horizontal} (link : LinkParts) (number : Option ℕ) (text : List ℕ) → is_some number ≡ true → has ≡ true
    → IsSide Exit rest new [] (texted Downstream text link) gap stands now home away → Joint Exit has rest new [] (answer_of number text link) gap stands now home away
answered_by link None text linked there k = absurd (false≢true linked)
answered_by link (Some n) text linked there k = limited Exit (is_too_much Downstream (texted Downstream text link)) (texted Downstream text link) there k

pub same_answer : (what : Horizontal) → is_told_answer what ≡ is_answer what
same_answer (message.Notification code severity text) = refl
same_answer _ = refl

answer_like : {has : Side → Bool} {new_entry new_exit far_above : List ℕ} {near : Near} {c : Scene} → SaysAlone → (said : Message) (rest : List Act) → IsFit said → is_answer said.body ≡ true
    → IsLikeOff has (acts.Sends Exit said ∷ rest) new_entry new_exit far_above near c → IsLike has rest new_entry new_exit far_above [] (near_did has true (acts.Sends Exit said) near) (met_second (acts.Sends Exit said) c)
answer_like {has = has} {new_entry = ne} {new_exit = nx} {far_above = fa} {near = near} {c = c} alone said rest fit is k =
    let link : LinkParts = near.below.link in
    let b : Joint Exit (has Exit) rest nx [] (after_answer (canonical said) link) near.below.gap c.below.stands c.below.gap c.below.up (c.below.down ++ said.body ∷ []) =
    answered_by link link.downstream (canonical said) k.linked k.there (texted_side alone (acts.Sends Exit said) said rest refl refl fit k.below) in
    let whole : IsLike has rest ne nx fa [] (near_sent true Exit (canonical said) near) (answered true said.body c) = record { place = k.place; above = joint_on Entry (acts.Sends Exit said) rest refl refl k.above; below = b } in
    subst (λ (test : Bool). IsLike has rest ne nx fa [] (near_sent test Exit (canonical said) near) (answered (is_answer said.body) said.body c)) (sym (same_answer said.body ∙ is))
    (subst (λ (test : Bool). IsLike has rest ne nx fa [] (near_sent true Exit (canonical said) near) (answered test said.body c)) (sym is) whole)

-- ---- all other acts of the step

near_plain : (has : Side → Bool) (act : Act) (near : Near) → IsNoAnswer act → near_did has true act near ≡ near_did has false act near
near_plain has (acts.Sends Exit message) near plain = ap (λ (test : Bool). near_sent test Exit (canonical message) near) (same_answer message.body ∙ plain)
near_plain has _ near plain = refl

nears_plain : (has : Side → Bool) (told : List Act) (near : Near) → AllActs IsNoAnswer told → nears_did has true told near ≡ nears_did has false told near
nears_plain has _ near acts_none = refl
nears_plain has _ near (acts_more {act = act} {others = others} one more) = ap (nears_did has true others) (near_plain has act near one) ∙ nears_plain has others (near_did has false act near) more

nears_append : (has : Side → Bool) (twice : Bool) (xs ys : List Act) (near : Near) → nears_did has twice (xs ++ ys) near ≡ nears_did has twice ys (nears_did has twice xs near)
nears_append has twice [] ys near = refl
nears_append has twice (x ∷ xs) ys near = nears_append has twice xs ys (near_did has twice x near)

fit_front : (xs ys : List Act) → AreFitActs (xs ++ ys) → AreFitActs xs × AreFitActs ys
fit_front [] ys fit = (none_said, fit)
fit_front (x ∷ xs) ys (more_said one more) = let both = fit_front xs ys more in (more_said one both.0, both.1)

-- ---- the step answers once at most

data IsAnswering : List Act → Type 0 where
  answers_none : IsAnswering []
  answers_one : (said : Message) (more : List Act) → is_answer said.body ≡ true
      → AllActs IsNoAnswer more → IsAnswering (acts.Sends Exit said ∷ more)

answering_row : (desk : Desk) (body : Body) (s : SessionEnd) (row : SessionRow) → IsSessionRow s second row → IsAnswering (actions_did desk Exit row.actions (with_session Exit row.after body)).acts
answering_row desk body _ _ (refuses_second is) = answers_one _ [] refl acts_none

answering : (desk : Desk) (body : Body) (row : Option SessionRow) → session_row body.exit.session second ≡ row → IsAnswering (session_did desk Exit row body).acts
answering desk body None is = answers_none
answering desk body (Some row) is = answering_row desk body body.exit.session row (session_row_is body.exit.session second row is)

tells_none : (test : Bool) → AllActs IsNoAnswer (if test then [] else [])
tells_none true = acts_none
tells_none false = acts_none

-- and so it does with what the supervisor is told
answering_tells : (desk : Desk) (watch : Watch) (made : List Act) → IsAnswering made
    → IsAnswering (with_tells desk watch made)
answering_tells desk watch _ answers_none = answers_none
answering_tells desk watch _ (answers_one said more is plain) =
    answers_one said _ is
    (all_append (tells_none watch.supervised) (all_tells desk watch (λ message. tt) plain))

-- behind the reading: perhaps an answer, and then what is announced
mid_like : {has : Side → Bool} {new_entry new_exit far_above : List ℕ} {near : Near} {c : Scene} → SaysAlone → (mid says : List Act) → IsAnswering mid → AllActs IsNoAnswer says → AreFitActs (mid ++ says)
    → IsLikeOff has (mid ++ says) new_entry new_exit far_above near c → IsLike has [] new_entry new_exit far_above [] (nears_did has true (mid ++ says) near) (all_met_second (mid ++ says) c)
mid_like {has = has} {new_entry = ne} {new_exit = nx} {far_above = fa} {near = near} {c = c} alone _ says answers_none plain fit k =
    subst (λ (n : Near). IsLike has [] ne nx fa [] n (all_met_second says c)) (sym (nears_plain has says near plain)) (subst (λ (d : Scene). IsLike has [] ne nx fa [] (nears_did has false says near) d) (sym (plain_met says c plain)) (acts_like alone says fit (like_of k)))
mid_like {has = has} {new_entry = ne} {new_exit = nx} {far_above = fa} {near = near} {c = c} alone
    _ says (answers_one said more is others) plain (more_said one fit) k =
    let act : Act = acts.Sends Exit said in
    let rest : List Act = more ++ says in
    let quiet : AllActs IsNoAnswer rest = all_append others plain in
    let next : IsLike has rest ne nx fa [] (near_did has true act near) (met_second act c) =
    answer_like alone said rest one is k in
    let last = acts_like alone rest fit next in
    subst (λ (n : Near). IsLike has [] ne nx fa [] n (all_met_second rest (met_second act c)))
    (sym (nears_plain has rest (near_did has true act near) quiet))
    (subst (λ (d : Scene). IsLike has [] ne nx fa []
    (nears_did has false rest (near_did has true act near)) d)
    (sym (plain_met rest (met_second act c) quiet)) last)

-- the acts of the step, with what the supervisor is told, and a bridge's own signals behind them
abbrev pub second_acts : Desk → List Sensed → Body → List Act → List Act
second_acts desk unread body own =
    let watch : Watch = watch_of desk body in
    let read : Done = all_read desk unread body in
    let did : Done = event_did desk Second read.body in
    let now : Watch = watch_behind watch read.acts in
    with_tells desk watch read.acts
    ++ (with_tells desk now did.acts
    ++ (with_tells desk (watch_behind now did.acts) (announces desk did.body).acts ++ own))

pub second_acts_are : (desk : Desk) (unread : List Sensed) (body : Body) (own : List Act) → (machine_step desk unread Second body).acts ++ own ≡ second_acts desk unread body own
second_acts_are desk unread body own =
    let watch : Watch = watch_of desk body in
    let read : Done = all_read desk unread body in
    let did : Done = event_did desk Second read.body in
    let says : Done = announces desk did.body in
    let now : Watch = watch_behind watch read.acts in
    let first : List Act = with_tells desk watch read.acts in
    let mid : List Act = with_tells desk now did.acts in
    let last : List Act = with_tells desk (watch_behind now did.acts) says.acts in
    let are : with_tells desk watch (read.acts ++ (did.acts ++ says.acts)) ≡ first ++ (mid ++ last) =
    tells_append desk watch read.acts (did.acts ++ says.acts)
    ∙ ap (λ (rest : List Act). first ++ rest) (tells_append desk now did.acts says.acts) in
    ap (λ (told : List Act). told ++ own) are ∙ append_assoc first (mid ++ last) own
    ∙ ap (λ (rest : List Act). first ++ rest) (append_assoc mid last own)

-- THE ACTS OF THE STEP in lockstep
pub second_like : {has : Side → Bool} {new_entry new_exit far_above : List ℕ} {near : Near} {c : Scene} → SaysAlone → (desk : Desk) (unread : List Sensed) (body : Body) (own : List Act) → AllActs IsNoAnswer own
    → AreFitActs (second_acts desk unread body own)
    → IsLikeOff has (second_acts desk unread body own) new_entry new_exit far_above near c
    → IsLike has [] new_entry new_exit far_above [] (nears_did has true (second_acts desk unread body own) near) (all_met_second (second_acts desk unread body own) c)
second_like {has = has} {new_entry = ne} {new_exit = nx} {far_above = fa} {near = near} {c = c} alone desk unread body own none fit k =
    let read : Done = all_read desk unread body in
    let did : Done = event_did desk Second read.body in
    let says : Done = announces desk did.body in
    let watch : Watch = watch_of desk body in
    let now : Watch = watch_behind watch read.acts in
    let first : List Act = with_tells desk watch read.acts in
    let mid : List Act = with_tells desk now did.acts in
    let announced : List Act = with_tells desk (watch_behind now did.acts) says.acts in
    let last : List Act = announced ++ own in
    let rest : List Act = mid ++ last in
    let quiet : AllActs IsNoAnswer first =
    all_tells desk watch (λ message. tt) (read_plain desk unread body) in
    let says_none : AllActs IsNoAnswer announced =
    all_tells desk (watch_behind now did.acts) (λ message. tt)
    (announces_plain desk did.body) in
    let fits = fit_front first rest fit in
    let front : IsLikeOff has rest ne nx fa (nears_did has false first near) (all_met first c) =
    acts_off alone first rest fits.0 k in
    let back : IsLike has [] ne nx fa [] (nears_did has true rest (nears_did has false first near))
    (all_met_second rest (all_met first c)) =
    mid_like alone mid last
    (answering_tells desk now did.acts
    (answering desk read.body (session_row read.body.exit.session second) refl))
    (all_append says_none none) fits.1 front in
    let near_is : nears_did has true (first ++ rest) near
    ≡ nears_did has true rest (nears_did has false first near) =
    nears_append has true first rest near ∙ ap (nears_did has true rest)
    (nears_plain has first near quiet) in
    let scene_is : all_met_second (first ++ rest) c ≡ all_met_second rest (all_met first c) =
    second_append first rest c ∙ ap (all_met_second rest) (plain_met first c quiet) in
    subst (λ (n : Near). IsLike has [] ne nx fa [] n (all_met_second (first ++ rest) c))
    (sym near_is)
    (subst (λ (d : Scene). IsLike has [] ne nx fa []
    (nears_did has true rest (nears_did has false first near)) d) (sym scene_is) back)
