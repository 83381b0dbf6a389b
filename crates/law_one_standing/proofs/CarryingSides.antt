-- A machine's acts at one side: what the link there carries goes along with the messages of its scene.
use Rattle.std.proofs.Common.{Bool, List, [], ap, arith, eqb-true, false, refl, subst, suc, sym, true, zero, ℕ, ◌++◌, ◌∙◌, ◌∷◌, ◌≡◌}
use Rattle.std.specs.Prelude.{cond, drop, length, nat_lt}
use Rattle.line_base.specs.declared.states.Side.{Side}
use Rattle.line_base.specs.declared.states.Side.TheVariants.{Entry, Exit}
use Rattle.hermes_horizontal.specs.Canonical.{canonical}
use Rattle.hermes_horizontal.specs.declared.message.Horizontal.{Horizontal}
use Rattle.hermes_horizontal.specs.declared.message.Message.{Message}
use Rattle.line_link.specs.Flow.{Stream, coming, is_begun, with_text}
use Rattle.line_link.specs.Link.{LinkParts, across, after_close, after_send, cut, flow_to, is_too_much, texted, within_limit}
use Rattle.line_world.specs.FloorPlan.{with_drive}
use Rattle.line_world.specs.declared.gap.AtGap.{AtGap}
use Rattle.node_core.specs.declared.act.Act.{Act}
use Rattle.node_core.specs.declared.act.Act.TheVariants as acts
use Rattle.law_custody.specs.Words.{sent}
use Rattle.law_link_messages.specs.Fit.{IsFit}
use Rattle.step_rules.specs.Opened.{open_act, open_after}
use Rattle.line_step.specs.World.{end_of}
use Rattle.law_one_standing.specs.Carried.{Carries, carries_over}
use Rattle.law_one_standing.proofs.Carrying.{SaysAlone, carries_off}
use Rattle.law_one_standing.proofs.CarryingTexts.{carries_said}

-- ---- how many messages a side hears in some acts

abbrev pub heard_at : Side → Side → ℕ → ℕ
heard_at Entry Entry n = suc n
heard_at Entry Exit n = n
heard_at Exit Entry n = n
heard_at Exit Exit n = suc n

abbrev pub heard_by : Side → Act → ℕ → ℕ
heard_by side (acts.Hears at message) n = heard_at side at n
heard_by side _ n = n

abbrev pub heard_in : Side → List Act → ℕ
heard_in side [] = 0
heard_in side (act ∷ others) = heard_by side act (heard_in side others)

-- ---- what flows to a machine, before some acts of its: what it carries once they have been done, or the side closes in them

pub data Home (side : Side) (rest : List Act) (stands : Bool) (new : List ℕ) (stream : Stream) (messages : List Horizontal) : Type 0 where
  home_hears : Carries stands new stream (drop (heard_in side rest) messages) → Home side rest stands new stream messages
  home_closes : open_after side true rest ≡ false → Home side rest stands new stream messages

-- an act that the side neither hears nor closes by
pub home_on : {stands : Bool} {new : List ℕ} {stream : Stream} {messages : List Horizontal} (side : Side) (act : Act) (rest : List Act) → heard_by side act (heard_in side rest) ≡ heard_in side rest → open_act side true act ≡ true
    → Home side (act ∷ rest) stands new stream messages → Home side rest stands new stream messages
home_on {stands = stands} {new = new} {stream = stream} {messages = messages} side act rest quiet still (home_hears k) = home_hears (subst (λ (n : ℕ). Carries stands new stream (drop n messages)) quiet k)
home_on side act rest quiet still (home_closes closes) = home_closes (sym (ap (λ (o : Bool). open_after side o rest) still) ∙ closes)

pub drop_one : {X : Type 0} (n : ℕ) (xs : List X) → drop (suc n) xs ≡ drop n (drop 1 xs)
drop_one zero [] = refl
drop_one (suc n) [] = refl
drop_one n (x ∷ xs) = refl

pub drop_none : {X : Type 0} (n : ℕ) → ◌≡◌ {A = List X} (drop n []) []
drop_none zero = refl
drop_none (suc n) = refl

-- a message is heard
pub home_heard : {stands : Bool} {new : List ℕ} {stream : Stream} {messages : List Horizontal} (side : Side) (act : Act) (rest : List Act) → heard_by side act (heard_in side rest) ≡ suc (heard_in side rest) → open_act side true act ≡ true
    → Home side (act ∷ rest) stands new stream messages → Home side rest stands new stream (drop 1 messages)
home_heard {stands = stands} {new = new} {stream = stream} {messages = messages} side act rest one still (home_hears k) =
    home_hears (subst (λ (ms : List Horizontal). Carries stands new stream ms) (ap (λ (n : ℕ). drop n messages) one ∙ drop_one (heard_in side rest) messages) k)
home_heard side act rest one still (home_closes closes) = home_closes (sym (ap (λ (o : Bool). open_after side o rest) still) ∙ closes)

-- nothing comes any more
pub home_over : {new : List ℕ} (side : Side) (rest : List Act) (stream : Stream) → coming stream ≡ [] → Home side rest false new stream []
home_over {new = new} side rest stream none = home_hears (subst (λ (ms : List Horizontal). Carries false new stream ms) (sym (drop_none (heard_in side rest))) (carries_over refl none))

-- ---- a side of a machine, with its link and its gap, and that of its scene

pub record IsSide (side : Side) (rest : List Act) (new far : List ℕ) (link : LinkParts) (gap : AtGap) (stands : Bool) (now : AtGap) (home away : List Horizontal) : Type 0 where
  pub is_on : link.stands ≡ stands
  pub same : gap ≡ now
  pub comes : Home side rest stands new (flow_to (end_of side) link) home
  pub goes : Carries stands far (flow_to (across (end_of side)) link) away
  pub begun : is_begun (flow_to (across (end_of side)) link).texts (flow_to (across (end_of side)) link).arrived ≡ true
  pub begun_home : is_begun (flow_to (end_of side) link).texts (flow_to (end_of side) link).arrived ≡ true

-- the link was cut in the midst of the step
pub record IsCut (side : Side) (link : LinkParts) (gap now : AtGap) : Type 0 where
  pub is_off : link.stands ≡ false
  pub same : gap ≡ now
  pub comes : coming (flow_to (end_of side) link) ≡ []
  pub goes : coming (flow_to (across (end_of side)) link) ≡ []
  pub begun : is_begun (flow_to (across (end_of side)) link).texts (flow_to (across (end_of side)) link).arrived ≡ true
  pub begun_home : is_begun (flow_to (end_of side) link).texts (flow_to (end_of side) link).arrived ≡ true

-- a side without a link may be any; the others are as the scene has them, or as it has them cut
pub data Joint (side : Side) (has : Bool) (rest : List Act) (new far : List ℕ) (link : LinkParts) (gap : AtGap) (stands : Bool) (now : AtGap) (home away : List Horizontal) : Type 0 where
  joint_none : has ≡ false → Joint side has rest new far link gap stands now home away
  joint_as : has ≡ true → IsSide side rest new far link gap stands now home away → Joint side has rest new far link gap stands now home away
  joint_cut : has ≡ true → IsCut side link gap now → Joint side has rest new far link gap stands now home away

-- ---- an act at the other side, or one that leaves the link as it is

pub joint_on : {has stands : Bool} {new far : List ℕ} {link : LinkParts} {gap now : AtGap} {home away : List Horizontal} (side : Side) (act : Act) (rest : List Act) → heard_by side act (heard_in side rest) ≡ heard_in side rest → open_act side true act ≡ true
    → Joint side has (act ∷ rest) new far link gap stands now home away → Joint side has rest new far link gap stands now home away
joint_on side act rest quiet still (joint_none none) = joint_none none
joint_on side act rest quiet still (joint_as has k) = joint_as has (record { is_on = k.is_on; same = k.same; comes = home_on side act rest quiet still k.comes; goes = k.goes; begun = k.begun; begun_home = k.begun_home })
joint_on side act rest quiet still (joint_cut has k) = joint_cut has k

-- ---- a message is heard

pub joint_heard : {has stands : Bool} {new far : List ℕ} {link : LinkParts} {gap now : AtGap} {home away : List Horizontal} (side : Side) (act : Act) (rest : List Act) → heard_by side act (heard_in side rest) ≡ suc (heard_in side rest) → open_act side true act ≡ true
    → Joint side has (act ∷ rest) new far link gap stands now home away → Joint side has rest new far link gap stands now (drop 1 home) away
joint_heard side act rest one still (joint_none none) = joint_none none
joint_heard side act rest one still (joint_as has k) = joint_as has (record { is_on = k.is_on; same = k.same; comes = home_heard side act rest one still k.comes; goes = k.goes; begun = k.begun; begun_home = k.begun_home })
joint_heard side act rest one still (joint_cut has k) = joint_cut has (record { is_off = k.is_off; same = k.same; comes = k.comes; goes = k.goes; begun = k.begun; begun_home = k.begun_home })

-- ---- a message is sent

pub texted_home : (side : Side) (text : List ℕ) (link : LinkParts) → flow_to (end_of side) (texted (across (end_of side)) text link) ≡ flow_to (end_of side) link
texted_home Entry text link = refl
texted_home Exit text link = refl

pub texted_away : (side : Side) (text : List ℕ) (link : LinkParts) → flow_to (across (end_of side)) (texted (across (end_of side)) text link) ≡ with_text text (flow_to (across (end_of side)) link)
texted_away Entry text link = refl
texted_away Exit text link = refl

pub texted_stands : (side : Side) (text : List ℕ) (link : LinkParts) → (texted (across (end_of side)) text link).stands ≡ link.stands
texted_stands Entry text link = refl
texted_stands Exit text link = refl

begun_first : (arrived byte : ℕ) (bytes : List ℕ) → arrived ≡ 0 → nat_lt arrived (length (byte ∷ bytes)) ≡ true
begun_first arrived byte bytes none = grind (arith, none)

begun_behind : (texts : List (List ℕ)) (arrived byte : ℕ) (bytes : List ℕ) → is_begun texts arrived ≡ true → is_begun (texts ++ (byte ∷ bytes) ∷ []) arrived ≡ true
begun_behind [] arrived byte bytes begun = begun_first arrived byte bytes (eqb-true arrived 0 begun)
begun_behind (text ∷ texts) arrived byte bytes begun = begun

pub begun_text : (text : List ℕ) (stream : Stream) → is_begun stream.texts stream.arrived ≡ true → is_begun (with_text text stream).texts (with_text text stream).arrived ≡ true
begun_text [] stream begun = begun
begun_text (byte ∷ bytes) stream begun = begun_behind stream.texts stream.arrived byte bytes begun

side_texted : {new far : List ℕ} {link : LinkParts} {gap now : AtGap} {home away : List Horizontal} → SaysAlone → (side : Side) (act : Act) (message : Message) (rest : List Act) → heard_by side act (heard_in side rest) ≡ heard_in side rest → open_act side true act ≡ true
    → IsFit message → IsSide side (act ∷ rest) new far link gap true now home away → IsSide side rest new far (texted (across (end_of side)) (canonical message) link) gap true now home (away ++ message.body ∷ [])
side_texted {new = new} {far = far} {link = link} {home = home} {away = away} alone side act message rest quiet still fit k =
    let text : List ℕ = canonical message in
    let before : Stream = flow_to (across (end_of side)) link in
    let more : Carries true far (with_text text before) (away ++ message.body ∷ []) = carries_said alone message fit refl k.begun k.goes in
    record {
      is_on = texted_stands side text link ∙ k.is_on;
      same = k.same;
      comes = subst (λ (s : Stream). Home side rest true new s home) (sym (texted_home side text link)) (home_on side act rest quiet still k.comes);
      goes = subst (λ (s : Stream). Carries true far s (away ++ message.body ∷ [])) (sym (texted_away side text link)) more;
      begun = ap (λ (s : Stream). is_begun s.texts s.arrived) (texted_away side text link) ∙ begun_text text before k.begun;
      begun_home = ap (λ (s : Stream). is_begun s.texts s.arrived) (texted_home side text link) ∙ k.begun_home;
    }

cut_home : (side : Side) (link : LinkParts) → coming (flow_to (end_of side) (cut link)) ≡ []
cut_home Entry link = refl
cut_home Exit link = refl

cut_away : (side : Side) (link : LinkParts) → coming (flow_to (across (end_of side)) (cut link)) ≡ []
cut_away Entry link = refl
cut_away Exit link = refl

cut_begun : (side : Side) (link : LinkParts) → is_begun (flow_to (across (end_of side)) (cut link)).texts (flow_to (across (end_of side)) (cut link)).arrived ≡ true
cut_begun Entry link = refl
cut_begun Exit link = refl

cut_begun_home : (side : Side) (link : LinkParts) → is_begun (flow_to (end_of side) (cut link)).texts (flow_to (end_of side) (cut link)).arrived ≡ true
cut_begun_home Entry link = refl
cut_begun_home Exit link = refl

pub is_cut_off : {gap now : AtGap} (side : Side) (link : LinkParts) → gap ≡ now → IsCut side (cut link) gap now
is_cut_off side link same = record { is_off = refl; same = same; comes = cut_home side link; goes = cut_away side link; begun = cut_begun side link; begun_home = cut_begun_home side link }

pub limited : {has stands : Bool} {rest : List Act} {new far : List ℕ} {gap now : AtGap} {home away : List Horizontal} (side : Side) (test : Bool) (link : LinkParts) → has ≡ true → IsSide side rest new far link gap stands now home away
    → Joint side has rest new far (cond test (cut link) link) gap stands now home away
limited side true link has k = joint_cut has (is_cut_off side link k.same)
limited side false link has k = joint_as has k

sent_as : {has stands : Bool} {new far : List ℕ} {link : LinkParts} {gap now : AtGap} {home away : List Horizontal} → SaysAlone → (side : Side) (act : Act) (message : Message) (rest : List Act) → heard_by side act (heard_in side rest) ≡ heard_in side rest → open_act side true act ≡ true
    → IsFit message → has ≡ true → (test : Bool) → link.stands ≡ test → stands ≡ test → IsSide side (act ∷ rest) new far link gap stands now home away
    → Joint side has rest new far (cond test (within_limit (across (end_of side)) (texted (across (end_of side)) (canonical message) link)) link) gap stands now home (sent (message.body ∷ []) stands away)
sent_as {has = has} {new = new} {far = far} {link = link} {gap = gap} {now = now} {home = home} {away = away} alone side act message rest quiet still fit there true is same k =
    let P : Bool → Type 0 = λ (s : Bool). Joint side has rest new far (within_limit (across (end_of side)) (texted (across (end_of side)) (canonical message) link)) gap s now home (sent (message.body ∷ []) s away) in
    let on : IsSide side (act ∷ rest) new far link gap true now home away = subst (λ (s : Bool). IsSide side (act ∷ rest) new far link gap s now home away) same k in
    let t : LinkParts = texted (across (end_of side)) (canonical message) link in
    subst P (sym same) (limited side (is_too_much (across (end_of side)) t) t there (side_texted alone side act message rest quiet still fit on))
sent_as {has = has} {new = new} {far = far} {link = link} {gap = gap} {now = now} {home = home} {away = away} alone side act message rest quiet still fit there false is same k =
    let P : Bool → Type 0 = λ (s : Bool). Joint side has rest new far link gap s now home (sent (message.body ∷ []) s away) in
    let off : IsSide side (act ∷ rest) new far link gap false now home away = subst (λ (s : Bool). IsSide side (act ∷ rest) new far link gap s now home away) same k in
    subst P (sym same) (joint_on side act rest quiet still (joint_as there off))

pub joint_sent : {has stands : Bool} {new far : List ℕ} {link : LinkParts} {gap now : AtGap} {home away : List Horizontal} → SaysAlone → (side : Side) (act : Act) (message : Message) (rest : List Act) → heard_by side act (heard_in side rest) ≡ heard_in side rest → open_act side true act ≡ true
    → IsFit message → Joint side has (act ∷ rest) new far link gap stands now home away
    → Joint side has rest new far (after_send (end_of side) (canonical message) link) gap stands now home (sent (message.body ∷ []) stands away)
joint_sent alone side act message rest quiet still fit (joint_none none) = joint_none none
joint_sent {link = link} alone side act message rest quiet still fit (joint_as has k) = sent_as alone side act message rest quiet still fit has link.stands refl (sym k.is_on) k
joint_sent {has = has} {stands = stands} {new = new} {far = far} {link = link} {gap = gap} {now = now} {home = home} {away = away} alone side act message rest quiet still fit (joint_cut there k) =
    let L : Bool → LinkParts = λ (test : Bool). cond test (within_limit (across (end_of side)) (texted (across (end_of side)) (canonical message) link)) link in
    subst (λ (test : Bool). Joint side has rest new far (L test) gap stands now home (sent (message.body ∷ []) stands away)) (sym k.is_off) (joint_cut there (record { is_off = k.is_off; same = k.same; comes = k.comes; goes = k.goes; begun = k.begun; begun_home = k.begun_home }))

-- ---- the side closes

pub closed_home : (side : Side) (link : LinkParts) → coming (flow_to (end_of side) (after_close (end_of side) link)) ≡ []
closed_home Entry link = refl
closed_home Exit link = refl

pub closed_away : (side : Side) (link : LinkParts) → flow_to (across (end_of side)) (after_close (end_of side) link) ≡ flow_to (across (end_of side)) link
closed_away Entry link = refl
closed_away Exit link = refl

pub closed_stands : (side : Side) (link : LinkParts) → (after_close (end_of side) link).stands ≡ false
closed_stands Entry link = refl
closed_stands Exit link = refl

pub closed_begun : (side : Side) (link : LinkParts) → is_begun (flow_to (end_of side) (after_close (end_of side) link)).texts (flow_to (end_of side) (after_close (end_of side) link)).arrived ≡ true
closed_begun Entry link = refl
closed_begun Exit link = refl

pub joint_closed : {has stands : Bool} {new far : List ℕ} {link : LinkParts} {gap now : AtGap} {home away : List Horizontal} (side : Side) (act : Act) (rest : List Act)
    → Joint side has (act ∷ rest) new far link gap stands now home away → Joint side has rest new far (after_close (end_of side) link) gap false now [] away
joint_closed side act rest (joint_none none) = joint_none none
joint_closed {far = far} {link = link} {away = away} side act rest (joint_as has k) = joint_as has (record {
  is_on = closed_stands side link;
  same = k.same;
  comes = home_over side rest (flow_to (end_of side) (after_close (end_of side) link)) (closed_home side link);
  goes = subst (λ (s : Stream). Carries false far s away) (sym (closed_away side link)) (carries_off k.goes);
  begun = ap (λ (s : Stream). is_begun s.texts s.arrived) (closed_away side link) ∙ k.begun;
  begun_home = closed_begun side link;
})
joint_closed {link = link} side act rest (joint_cut has k) = joint_cut has (record { is_off = closed_stands side link; same = k.same; comes = closed_home side link; goes = ap coming (closed_away side link) ∙ k.goes; begun = ap (λ (s : Stream). is_begun s.texts s.arrived) (closed_away side link) ∙ k.begun; begun_home = closed_begun side link })

-- ---- a drive is switched

pub joint_driven : {has stands : Bool} {new far : List ℕ} {link : LinkParts} {gap now : AtGap} {home away : List Horizontal} (side : Side) (act : Act) (rest : List Act) (at : Side) (on : Bool) → heard_by side act (heard_in side rest) ≡ heard_in side rest → open_act side true act ≡ true
    → Joint side has (act ∷ rest) new far link gap stands now home away → Joint side has rest new far link (cond has (with_drive gap at on) gap) stands (with_drive now at on) home away
joint_driven side act rest at on quiet still (joint_none none) = joint_none none
joint_driven {has = has} {stands = stands} {new = new} {far = far} {link = link} {gap = gap} {now = now} {home = home} {away = away} side act rest at on quiet still (joint_as there k) =
    subst (λ (test : Bool). Joint side has rest new far link (cond test (with_drive gap at on) gap) stands (with_drive now at on) home away) (sym there)
    (joint_as there (record { is_on = k.is_on; same = ap (λ (g : AtGap). with_drive g at on) k.same; comes = home_on side act rest quiet still k.comes; goes = k.goes; begun = k.begun; begun_home = k.begun_home }))
joint_driven {has = has} {stands = stands} {new = new} {far = far} {link = link} {gap = gap} {now = now} {home = home} {away = away} side act rest at on quiet still (joint_cut there k) =
    subst (λ (test : Bool). Joint side has rest new far link (cond test (with_drive gap at on) gap) stands (with_drive now at on) home away) (sym there)
    (joint_cut there (record { is_off = k.is_off; same = ap (λ (g : AtGap). with_drive g at on) k.same; comes = k.comes; goes = k.goes; begun = k.begun; begun_home = k.begun_home }))
