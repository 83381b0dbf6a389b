-- A link that is cut or spoiled: the relation of the line goes on.
use Rattle.std.proofs.Common.{Bool, List, [], ap, arith, false, inl, inr, refl, subst, sym, true, ℕ, ◌++◌, ◌+◌, ◌∷◌, ◌<◌, ◌==◌, ◌∙◌, ◌≡◌, ◌≢◌, ◌≤◌, ◌⊎◌}
use Rattle.std.specs.Prelude.{cond, is_some}
use Rattle.std.proofs.lemmas.Bool.{false≢true, ltb-true}
use Rattle.line_base.specs.Text.{IsText}
use Rattle.line_base.specs.declared.states.Role.{Role}
use Rattle.line_base.specs.declared.states.Role.TheVariants.{Downstream, Upstream}
use Rattle.line_base.specs.declared.states.Side.{Side}
use Rattle.line_base.specs.declared.states.Side.TheVariants.{Entry, Exit}
use Rattle.hermes_horizontal.specs.declared.message.Horizontal.{Horizontal}
use Rattle.hermes_stream.specs.Frames.{NeedMore, answer_of}
use Rattle.line_link.specs.Flow.{Stream, coming, is_begun, with_nul}
use Rattle.line_link.specs.Link.{LinkParts, after_spoil, cut, is_too_much, no_link, nulled, number_of}
use Rattle.line_link.proofs.Coming.{coming_of_nul}
use Rattle.line_world.specs.FloorPlan.{gap_at}
use Rattle.line_world.specs.declared.gap.AtGap.{AtGap}
use Rattle.node_core.specs.Node.{NodeState}
use Rattle.node_core.specs.Sides.{is_open}
use Rattle.node_core.specs.Sound.{IsSound}
use Rattle.law_custody.specs.Bytes.{Spoiled}
use Rattle.law_custody.specs.Pair.{Ghost}
use Rattle.law_custody.proofs.LinkEvents.{cut_contents, is_cut}
use Rattle.law_custody.proofs.Spoils.{puts_a_nul}
use Rattle.law_link_messages.specs.Fit.{IsFitBody, IsFitMaker}
use Rattle.law_machine_custody.specs.Good.{Lies}
use Rattle.line_step.specs.Lines.{cut_in, spoiled}
use Rattle.line_step.specs.Numbered.{ChangesBetween, ChangesLink, node_at}
use Rattle.line_step.specs.Reasons.{has_link, has_neighbour, may_do, may_spoil}
use Rattle.line_step.specs.State.{LineState, with_world}
use Rattle.line_step.specs.World.{end_of, link_at, link_of, with_link}
use Rattle.line_step.proofs.Changing.{each_between, link_changes}
use Rattle.line_step.proofs.Numbers.{Written, floor_stays, link_set, link_set_other, nowhere, same_or_not, written}
use Rattle.law_one_standing.specs.Carried.{Carried, Carries, Hides, IsFitMachine, Trace, between_of, carries_over, carries_spoiled, carries_whole, stand_of}
use Rattle.law_one_standing.specs.Kept.{Keeps}
use Rattle.law_one_standing.specs.Links.{IsWholeLink}
use Rattle.law_one_standing.specs.Places.{AreApart, LiesAt, LiesIn, Spot, lies_at, lies_in}
use Rattle.law_one_standing.specs.Relation.{Between, Neighbours, Owns, Stand, link_between}
use Rattle.law_one_standing.specs.Standing.{AreOnce}
use Rattle.law_one_standing.specs.Stands.{IsAtRest, Stands}
use Rattle.law_one_standing.specs.Waits.{AreWaiting, waiting_at}
use Rattle.law_one_standing.proofs.Behind.{Bears}
use Rattle.law_one_standing.proofs.Carrying.{SaysAlone}
use Rattle.law_one_standing.proofs.Cleared.{hides_nul, hides_whole}
use Rattle.law_one_standing.proofs.RestLine.{node_there}
use Rattle.law_one_standing.proofs.SpoilingWaits.{same_node}
use Rattle.law_one_standing.proofs.Traces.{SameTrace, link_changes_of, put, put_other, put_same}
use Rattle.law_one_standing.proofs.WholeLinks.{CanSpoil, can_spoil, numbered}

-- ---- where one link changes alone

-- each board lies where it lay
apart_same : (ms ms2 : ℕ → Stand) (bs bs2 : ℕ → Between) → ((m : ℕ) → ms2 m ≡ ms m) → ((k : ℕ) → (bs2 k).gap ≡ (bs k).gap) → ((k : ℕ) → (bs2 k).gone ≡ (bs k).gone) → AreApart ms bs → AreApart ms2 bs2
apart_same ms ms2 bs bs2 stands gaps gones a = record {
  once = λ m. subst (λ (x : Stand). AreOnce x.place.boards) (sym (stands m)) (a.once m);
  one_place = λ x p q first second. a.one_place x p q (lay first) (lay second);
  nowhere = λ k x p gone lies. a.nowhere k x p (was k x gone) (lay lies);
  gone_once = λ j k x one two. a.gone_once j k x (was j x one) (was k x two);
}
  where
    was : (k x : ℕ) → (bs2 k).gone x ≡ true → (bs k).gone x ≡ true
    was k x gone = subst (λ (g : ℕ → Bool). g x ≡ true) (gones k) gone

    lay : {x : ℕ} {p : Spot} → LiesAt ms2 bs2 x p → LiesAt ms bs x p
    lay {x} (lies_at {m} lies) = lies_at (subst (λ (s : Stand). Lies x s.place.boards) (stands m) lies)
    lay {x} (lies_in {k} lies) = lies_in (subst (λ (g : AtGap). LiesIn x g.lies) (gaps k) lies)

-- and each machine has its boards
owns_same : {above above2 below below2 : Between} {me me2 : Stand} → me2 ≡ me → above2.ghost ≡ above.ghost → below2.ghost ≡ below.ghost → Owns above me below → Owns above2 me2 below2
owns_same {above} {above2} {below} {below2} {me} same up down o =
    subst (λ (m : Stand). Owns above2 m below2) (sym same) (record { boards = rw (up, down) o.boards; entry_role = o.entry_role; exit_role = o.exit_role; offers = o.offers; recent = o.recent })

-- the relation goes on where it does at that link
keeps_between : (link : ℕ) (t t2 : Trace) (s s2 : LineState) → ChangesLink link s s2 → ((k : ℕ) → k ≢ link → SameTrace t t2 k) → ((k : ℕ) → t2.ghost k ≡ t.ghost k) → ((k : ℕ) → t2.gone k ≡ t.gone k)
    → ((k : ℕ) → gap_at s2.world.floor k ≡ gap_at s.world.floor k) → Neighbours (stand_of s link) (between_of t2 s2 link) (stand_of s (link + 1)) → Keeps (stand_of s) (between_of t s) → Keeps (stand_of s2) (between_of t2 s2)
keeps_between link t t2 s s2 changes same ghosts gones gaps here k =
    let c : ChangesBetween link (stand_of s) (between_of t s) (stand_of s2) (between_of t2 s2) = link_changes_of link t t2 s s2 changes same in
    record {
      neighbours = each_between Neighbours link (stand_of s) (between_of t s) (stand_of s2) (between_of t2 s2) c k.neighbours here;
      machines = record { at = λ n. owns_same (c.machines (n + 1)) (ghosts n) (ghosts (n + 1)) (k.machines.at n) };
      apart = apart_same (stand_of s) (stand_of s2) (between_of t s) (between_of t2 s2) c.machines gaps gones k.apart;
    }

-- ---- the links of a line

carries_same : {on on2 : Bool} {waiting waiting2 : List ℕ} {stream stream2 : Stream} {messages messages2 : List Horizontal} → on2 ≡ on → waiting2 ≡ waiting → stream2 ≡ stream → messages2 ≡ messages
    → Carries on waiting stream messages → Carries on2 waiting2 stream2 messages2
carries_same ons waits streams are c = rw (ons, waits, streams, are) c

-- what is as it was carries what it did
carried_same : (t t2 : Trace) (s s2 : LineState) (k : ℕ) → link_at k s2.world ≡ link_at k s.world → s2.machines ≡ s.machines → t2.up k ≡ t.up k → t2.down k ≡ t.down k → Carried t s k → Carried t2 s2 k
carried_same t t2 s s2 k links machines ups downs c = record {
  up = carries_same (ap (λ (l : LinkParts). l.stands) links) (ap (λ (n : NodeState). n.lane.exit_bytes) (same_node s s2 machines k)) (ap (λ (l : LinkParts). l.flows.to_upstream) links) ups c.up;
  down = carries_same (ap (λ (l : LinkParts). l.stands) links) (ap (λ (n : NodeState). n.lane.entry_bytes) (same_node s s2 machines (k + 1))) (ap (λ (l : LinkParts). l.flows.to_downstream) links) downs c.down;
}

fit_same : (s s2 : LineState) (machine : ℕ) → s2.machines ≡ s.machines → IsFitMachine s machine → IsFitMachine s2 machine
fit_same s s2 machine same fit =
    let is : node_at s2 machine ≡ node_at s machine = same_node s s2 same machine in
    record {
      body = subst (λ (n : NodeState). IsFitBody n.lane.body) (sym is) fit.body;
      maker = subst (λ (n : NodeState). IsFitMaker n.maker) (sym is) fit.maker;
      name = subst (λ (n : NodeState). IsText n.name) (sym is) fit.name;
      lane = subst (λ (n : NodeState). n.number ≤ 999_999_999) (sym is) fit.lane;
    }

rest_same : (t t2 : Trace) (s s2 : LineState) (link : ℕ) → s2.machines ≡ s.machines → (t.up link ≡ [] → t2.up link ≡ []) → (t.down link ≡ [] → t2.down link ≡ []) → IsAtRest t s link → IsAtRest t2 s2 link
rest_same t t2 s s2 link same ups downs r =
    let above : node_at s2 link ≡ node_at s link = same_node s s2 same link in
    let below : node_at s2 (link + 1) ≡ node_at s (link + 1) = same_node s s2 same (link + 1) in
    record {
      outlet = ap (λ (n : NodeState). n.lane.body.outlet.phase) above ∙ r.outlet;
      intake = ap (λ (n : NodeState). n.lane.body.intake.phase) below ∙ r.intake;
      exit = ap (λ (n : NodeState). n.lane.body.exit.session.state) above ∙ r.exit;
      entry = ap (λ (n : NodeState). n.lane.body.entry.session.state) below ∙ r.entry;
      up = ups r.up;
      down = downs r.down;
    }

-- a link becomes these parts: what the line bears goes on where it does at that link
abbrev linked : ℕ → LinkParts → LineState → LineState
linked link parts s = with_world (with_link link parts s.world) s

gap_stays : (link : ℕ) (parts : LinkParts) (s : LineState) (k : ℕ) → gap_at (linked link parts s).world.floor k ≡ gap_at s.world.floor k
gap_stays link parts s k = ap (λ f. gap_at f k) (floor_stays link parts s.world)

bears_by : {Left : ℕ → Type 0} (link : ℕ) (parts : LinkParts) (t t2 : Trace) (s : LineState) → Stands t s → ((k : ℕ) → k ≢ link → SameTrace t t2 k) → ((k : ℕ) → t2.ghost k ≡ t.ghost k) → ((k : ℕ) → t2.gone k ≡ t.gone k)
    → ((k : ℕ) → t.up k ≡ [] → t2.up k ≡ []) → ((k : ℕ) → t.down k ≡ [] → t2.down k ≡ [])
    → Neighbours (stand_of s link) (between_of t2 (linked link parts s) link) (stand_of s (link + 1)) → (has_link link s ≡ true → Carried t2 (linked link parts s) link) → Bears Left t t2 (linked link parts s)
bears_by link parts t t2 s st same ghosts gones ups downs here carried =
    let s2 : LineState = linked link parts s in
    record {
      keeps = keeps_between link t t2 s s2 (link_changes link parts s) same ghosts gones (gap_stays link parts s) here st.keeps;
      carried = λ k has. by k has (same_or_not k link);
      rest = λ k none. rest_same t t2 s s2 k refl (ups k) (downs k) (st.rest k none);
      fit = λ machine. fit_same s s2 machine refl (st.fit machine);
      sound = λ machine. subst (λ (n : NodeState). IsSound n.capacity n.lane.body) (sym (same_node s s2 refl machine)) (st.sound machine);
      olds = λ k id gone. st.olds k id (subst (λ (g : ℕ → Bool). g id ≡ true) (gones k) gone);
      was = λ k id gone. inl (subst (λ (g : ℕ → Bool). g id ≡ true) (gones k) gone);
    }
  where
    by : (k : ℕ) → has_link k s ≡ true → (k ≡ link) ⊎ (k ≢ link) → Carried t2 (linked link parts s) k
    by k has (inl is) = subst (λ (n : ℕ). Carried t2 (linked link parts s) n) (sym is) (carried (subst (λ (n : ℕ). has_link n s ≡ true) is has))
    by k has (inr apart) = carried_same t t2 s (linked link parts s) k (link_set_other link k parts s.world apart) refl (same k apart).up (same k apart).down (st.carried k has)

-- ---- a link is cut

-- nothing is on its way there
abbrev pub cut_trace : ℕ → Trace → Trace
cut_trace gap t = record t { up = put gap [] t.up; down = put gap [] t.down }

put_none : {A : Type 0} (gap k : ℕ) (f : ℕ → List A) → f k ≡ [] → put gap [] f k ≡ []
put_none {A} gap k f none = by (k == gap)
  where
    by : (test : Bool) → cond test [] (f k) ≡ []
    by true = refl
    by false = none

cut_same : (gap : ℕ) (t : Trace) (k : ℕ) → k ≢ gap → SameTrace t (cut_trace gap t) k
cut_same gap t k apart = record { ghost = refl; up = put_other gap k [] t.up apart; down = put_other gap k [] t.down apart; gone = refl }

-- the link doesn't stand, and nothing is on its way on it
record IsOff (link : LinkParts) : Type 0 where
  stands : link.stands ≡ false
  up : coming link.flows.to_upstream ≡ []
  down : coming link.flows.to_downstream ≡ []

cut_off : (gap : ℕ) (s : LineState) → IsOff (link_at gap (cut_in gap s).world)
cut_off gap s = by (link_set gap (cut (link_at gap s.world)) s.world)
  where
    by : Written gap (cut (link_at gap s.world)) s.world → IsOff (link_at gap (cut_in gap s).world)
    by (written is) = subst IsOff (sym is) (record { stands = refl; up = refl; down = refl })
    by (nowhere is was) = subst IsOff (sym is) (record { stands = refl; up = refl; down = refl })

off_carries : {waiting : List ℕ} {stream : Stream} {stands : Bool} {messages : List Horizontal} → stands ≡ false → coming stream ≡ [] → messages ≡ [] → Carries stands waiting stream messages
off_carries {waiting} {stream} {stands} off none are = subst (λ (ms : List Horizontal). Carries stands waiting stream ms) (sym are) (carries_over off none)

pub cut_carries : (gap : ℕ) (t : Trace) (s : LineState) → Carried (cut_trace gap t) (cut_in gap s) gap
cut_carries gap t s =
    let off : IsOff (link_at gap (cut_in gap s).world) = cut_off gap s in
    record { up = off_carries off.stands off.up (put_same gap [] t.up); down = off_carries off.stands off.down (put_same gap [] t.down) }

between_by : {g : Ghost} {on on2 : Bool} {gap gap2 : AtGap} {up up2 down down2 : List Horizontal} {gone : ℕ → Bool} → on2 ≡ on → gap2 ≡ gap → up2 ≡ up → down2 ≡ down
    → ◌≡◌ {A = Between} (record { ghost = g; stands = on2; gap = gap2; up = up2; down = down2; gone = gone }) (record { ghost = g; stands = on; gap = gap; up = up; down = down; gone = gone })
between_by ons gaps ups downs = rw (ons, gaps, ups, downs) refl

abbrev cut_between : Between → Between
cut_between b = record b { stands = false; up = []; down = [] }

neighbours_cut : (above : Stand) (b : Between) (below : Stand) → Neighbours above b below → Neighbours above (cut_between b) below
neighbours_cut above b below n = record { pair = is_cut b.ghost (link_between above b below) n.pair; contents = cut_contents (link_between above b below) above.body.kept n.contents; holds = n.holds }

pub cut_bears : {Left : ℕ → Type 0} (gap : ℕ) (t : Trace) (s : LineState) → Stands t s → Bears Left t (cut_trace gap t) (cut_in gap s)
cut_bears gap t s st =
    let parts : LinkParts = cut (link_at gap s.world) in
    let off : IsOff (link_at gap (cut_in gap s).world) = cut_off gap s in
    let is : between_of (cut_trace gap t) (cut_in gap s) gap ≡ cut_between (between_of t s gap) =
    between_by off.stands (gap_stays gap parts s gap) (put_same gap [] t.up) (put_same gap [] t.down) in
    bears_by gap parts t (cut_trace gap t) s st (cut_same gap t) (λ k. refl) (λ k. refl) (λ k none. put_none gap k t.up none) (λ k none. put_none gap k t.down none)
    (subst (λ (b : Between). Neighbours (stand_of s gap) b (stand_of s (gap + 1))) (sym is) (neighbours_cut (stand_of s gap) (between_of t s gap) (stand_of s (gap + 1)) (st.keeps.neighbours.at gap)))
    (λ has. cut_carries gap t s)

-- ---- a link is spoiled

hides_carried : {stands : Bool} {waiting : List ℕ} {stream : Stream} {messages : List Horizontal} → SaysAlone → stands ≡ true → Carries stands waiting stream messages → Hides (waiting ++ coming stream) messages
hides_carried alone on (carries_whole said fit flows) = hides_whole alone said fit flows
hides_carried alone on (carries_spoiled spoiled hides) = hides
hides_carried alone on (carries_over off none) = absurd (false≢true (sym off ∙ on))

nul_carries : {stands : Bool} {waiting : List ℕ} {messages : List Horizontal} → SaysAlone → (stream : Stream) → is_begun stream.texts stream.arrived ≡ true → answer_of waiting ≡ NeedMore → stands ≡ true → Carries stands waiting stream messages
    → Carries stands waiting (with_nul stream) messages
nul_carries {waiting = waiting} {messages = messages} alone stream begun needs on carries =
    let put_in : 0 ∷ coming stream ≡ coming (with_nul stream) = sym (coming_of_nul stream begun) in
    carries_spoiled (subst (λ (bytes : List ℕ). Spoiled waiting bytes) put_in (puts_a_nul waiting (coming stream) needs))
    (subst (λ (bytes : List ℕ). Hides (waiting ++ bytes) messages) put_in (hides_nul waiting (coming stream) (hides_carried alone on carries)))

-- a side of a link that stands is open, and what waits there comes to no message
pub spoil_needs : (machine : ℕ) (side : Side) (t : Trace) (s : LineState) → Stands t s → AreWaiting s → CanSpoil machine side s → answer_of (waiting_at side (node_at s machine).lane) ≡ NeedMore
spoil_needs machine side t s st waits can =
    let link : LinkParts = link_at (link_of machine side) s.world in
    let open_end : is_some (number_of (end_of side) link) ≡ true = numbered (end_of side) link (st.links (link_of machine side)) can.stands in
    let is : node_at s machine ≡ can.node = node_there machine s can.node can.there in
    waits machine side (ap (λ (n : NodeState). is_open side n.lane.body) is ∙ sym (st.together.joined machine side can.node can.there) ∙ open_end)

nulled_stands : (to : Role) (link : LinkParts) → (nulled to link).stands ≡ link.stands
nulled_stands Upstream link = refl
nulled_stands Downstream link = refl

cut_nulled : (to : Role) (link : LinkParts) → cut (nulled to link) ≡ cut link
cut_nulled Upstream link = refl
cut_nulled Downstream link = refl

spoil_parts : (to : Role) (link : LinkParts) (test : Bool) → is_too_much to (nulled to link) ≡ test → after_spoil to link ≡ cond test (cut link) (nulled to link)
spoil_parts to link true is = ap (λ (test : Bool). cond test (cut (nulled to link)) (nulled to link)) is ∙ cut_nulled to link
spoil_parts to link false is = ap (λ (test : Bool). cond test (cut (nulled to link)) (nulled to link)) is

nulled_keeps : (to : Role) (link : ℕ) (s : LineState) → (link_at link (linked link (nulled to (link_at link s.world)) s).world).stands ≡ (link_at link s.world).stands
nulled_keeps to link s = by (link_set link (nulled to (link_at link s.world)) s.world)
  where
    by : Written link (nulled to (link_at link s.world)) s.world → (link_at link (linked link (nulled to (link_at link s.world)) s).world).stands ≡ (link_at link s.world).stands
    by (written is) = ap (λ (l : LinkParts). l.stands) is ∙ nulled_stands to (link_at link s.world)
    by (nowhere is was) = ap (λ (l : LinkParts). l.stands) is ∙ sym (ap (λ (l : LinkParts). l.stands) was)

off_nowhere : {X : Type 0} (link : LinkParts) → link ≡ no_link → link.stands ≡ true → X
off_nowhere link is stands = absurd (false≢true (sym (ap (λ (l : LinkParts). l.stands) is) ∙ stands))

-- a link that stands is where it is written
written_where : (link : ℕ) (parts : LinkParts) (s : LineState) → (link_at link s.world).stands ≡ true → link_at link (linked link parts s).world ≡ parts
written_where link parts s stands = by (link_set link parts s.world)
  where
    by : Written link parts s.world → link_at link (linked link parts s).world ≡ parts
    by (written is) = is
    by (nowhere is was) = off_nowhere (link_at link s.world) was stands

abbrev machine_of : Side → ℕ → ℕ
machine_of Exit link = link
machine_of Entry link = link + 1

-- what flows to a side of it is spoiled, and what flows the other way is as it was
nulled_carries : SaysAlone → (side : Side) (link : ℕ) (t : Trace) (s : LineState) → Carried t s link → IsWholeLink (link_at link s.world) → (link_at link s.world).stands ≡ true → answer_of (waiting_at side (node_at s (machine_of side link)).lane) ≡ NeedMore
    → Carried t (linked link (nulled (end_of side) (link_at link s.world)) s) link
nulled_carries alone Exit link t s c whole stands needs =
    let parts : LinkParts = nulled Upstream (link_at link s.world) in
    let s2 : LineState = linked link parts s in
    let is : link_at link s2.world ≡ parts = written_where link parts s stands in
    let bytes : (node_at s2 link).lane.exit_bytes ≡ (node_at s link).lane.exit_bytes = ap (λ (n : NodeState). n.lane.exit_bytes) (same_node s s2 refl link) in
    record {
      up = carries_same (ap (λ (l : LinkParts). l.stands) is) bytes (ap (λ (l : LinkParts). l.flows.to_upstream) is) refl (nul_carries alone (link_at link s.world).flows.to_upstream whole.begun.upstream needs stands c.up);
      down = carries_same (ap (λ (l : LinkParts). l.stands) is) (ap (λ (n : NodeState). n.lane.entry_bytes) (same_node s s2 refl (link + 1))) (ap (λ (l : LinkParts). l.flows.to_downstream) is) refl c.down;
    }
nulled_carries alone Entry link t s c whole stands needs =
    let parts : LinkParts = nulled Downstream (link_at link s.world) in
    let s2 : LineState = linked link parts s in
    let is : link_at link s2.world ≡ parts = written_where link parts s stands in
    let bytes : (node_at s2 (link + 1)).lane.entry_bytes ≡ (node_at s (link + 1)).lane.entry_bytes = ap (λ (n : NodeState). n.lane.entry_bytes) (same_node s s2 refl (link + 1)) in
    record {
      up = carries_same (ap (λ (l : LinkParts). l.stands) is) (ap (λ (n : NodeState). n.lane.exit_bytes) (same_node s s2 refl link)) (ap (λ (l : LinkParts). l.flows.to_upstream) is) refl c.up;
      down = carries_same (ap (λ (l : LinkParts). l.stands) is) bytes (ap (λ (l : LinkParts). l.flows.to_downstream) is) refl (nul_carries alone (link_at link s.world).flows.to_downstream whole.begun.downstream needs stands c.down);
    }

-- the machine at that side of the link
at_side : (machine : ℕ) (side : Side) (s : LineState) → has_neighbour machine side s ≡ true → machine_of side (link_of machine side) ≡ machine
at_side machine Exit s there = refl
at_side machine Entry s there = let behind : 1 < machine = ltb-true 1 machine there in omega arith

nulled_bears : {Left : ℕ → Type 0} → SaysAlone → (machine : ℕ) (side : Side) (t : Trace) (s : LineState) → Stands t s → AreWaiting s → CanSpoil machine side s → Bears Left t t (linked (link_of machine side) (nulled (end_of side) (link_at (link_of machine side) s.world)) s)
nulled_bears alone machine side t s st waits can =
    let link : ℕ = link_of machine side in
    let parts : LinkParts = nulled (end_of side) (link_at link s.world) in
    let s2 : LineState = linked link parts s in
    let is : between_of t s2 link ≡ between_of t s link = between_by (nulled_keeps (end_of side) link s) (gap_stays link parts s link) refl refl in
    let needs : answer_of (waiting_at side (node_at s (machine_of side link)).lane) ≡ NeedMore =
    subst (λ (n : ℕ). answer_of (waiting_at side (node_at s n).lane) ≡ NeedMore) (sym (at_side machine side s can.neighbour)) (spoil_needs machine side t s st waits can) in
    bears_by link parts t t s st (λ k apart. record { ghost = refl; up = refl; down = refl; gone = refl }) (λ k. refl) (λ k. refl) (λ k none. none) (λ k none. none)
    (subst (λ (b : Between). Neighbours (stand_of s link) b (stand_of s (link + 1))) (sym is) (st.keeps.neighbours.at link))
    (λ has. nulled_carries alone side link t s (st.carried link has) (st.links link) can.stands needs)

-- its trace is the same, or that of the link cut, where too much was on its way
pub spoil_goes_on : {Left : ℕ → Type 0} → SaysAlone → (machine : ℕ) (side : Side) (t : Trace) (s : LineState) → Stands t s → AreWaiting s → may_spoil machine side s ≡ may_do
    → (t2 : Trace) × ((t2 ≡ t) ⊎ (t2 ≡ cut_trace (link_of machine side) t)) × Bears Left t t2 (spoiled machine side s)
spoil_goes_on {Left} alone machine side t s st waits may = by (is_too_much (end_of side) (nulled (end_of side) parts)) refl
  where
    link : ℕ
    link = link_of machine side

    parts : LinkParts
    parts = link_at link s.world

    by : (test : Bool) → is_too_much (end_of side) (nulled (end_of side) parts) ≡ test → (t2 : Trace) × ((t2 ≡ t) ⊎ (t2 ≡ cut_trace (link_of machine side) t)) × Bears Left t t2 (spoiled machine side s)
    by true is =
        let same : spoiled machine side s ≡ cut_in link s = ap (λ (l : LinkParts). linked link l s) (spoil_parts (end_of side) parts true is) in
        (cut_trace link t, inr refl, subst (λ (s2 : LineState). Bears Left t (cut_trace link t) s2) (sym same) (cut_bears link t s st))
    by false is =
        let same : spoiled machine side s ≡ linked link (nulled (end_of side) parts) s = ap (λ (l : LinkParts). linked link l s) (spoil_parts (end_of side) parts false is) in
        (t, inl refl, subst (λ (s2 : LineState). Bears Left t t s2) (sym same) (nulled_bears alone machine side t s st waits (can_spoil machine side s may)))

pub spoil_bears : {Left : ℕ → Type 0} → SaysAlone → (machine : ℕ) (side : Side) (t : Trace) (s : LineState) → Stands t s → AreWaiting s → may_spoil machine side s ≡ may_do → (t2 : Trace) × Bears Left t t2 (spoiled machine side s)
spoil_bears alone machine side t s st waits may = let then = spoil_goes_on alone machine side t s st waits may in (then.0, then.2)
