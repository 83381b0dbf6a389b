-- One machine more at the end of a line: the relation of the line goes on. It holds by numbers beyond the ends too, where a
-- machine has nothing, and a new machine has nothing; so machines, places, links and gaps are what they were.
use Rattle.std.proofs.Common.{Bool, List, [], ap, arith, codes, decimal, false, length, length-append, refl, subst, suc, sym, true, zero, ℕ, ◌&&◌, ◌++◌, ◌+◌, ◌-◌, ◌<◌, ◌^◌, ◌∙◌, ◌∷◌, ◌≡◌, ◌≤◌, ◌⊎◌}
use Rattle.std.specs.Prelude.{nat_le, nat_lt, slice_index_or}
use Rattle.std.proofs.lemmas.Bool.Decides.{nat_tests}
use Rattle.line_step.proofs.Counted.{rises}
use Rattle.line_step.proofs.Changing.{more_gaps}
use Rattle.law_one_standing.proofs.WholeLinks.{more_whole}
use Rattle.law_one_standing.proofs.Ends.{no_link_at as loose_link}
use Rattle.line_base.specs.Text.{IsText}
use Rattle.line_base.proofs.Printable.{IsText-from_printable, length-decimal, plain-append, plain-decimal}
use Rattle.line_link.specs.Flow.{coming}
use Rattle.line_link.specs.Link.{LinkParts, no_link}
use Rattle.line_world.specs.FloorPlan.{AtMachine, empty_machine, gap_at, machine_at}
use Rattle.line_world.specs.declared.gap.AtGap.{AtGap}
use Rattle.node_core.specs.Node.{NodeState, new_node}
use Rattle.node_core.specs.declared.lane.Lane.{Lane}
use Rattle.node_core.specs.Sound.{IsSound}
use Rattle.line_report.specs.declared.happening.Happening.{Happening}
use Rattle.line_step.specs.Requests.{added_told}
use Rattle.line_step.specs.Requests as requests
use Rattle.line_step.specs.Lines.{Becomes, LineDoes, LineSteps, Unless}
use Rattle.line_step.specs.Numbered.{no_node, node_at}
use Rattle.line_step.specs.Reasons.{May, has_link, may_add, may_do}
use Rattle.line_step.specs.State.{LineState, machine_text, one_more, profile_of}
use Rattle.line_step.specs.Together.{IsLineTogether}
use Rattle.line_step.specs.World.{link_at}
use Rattle.line_step.proofs.FloorLaws.{Holds, steps-goes}
use Rattle.line_step.proofs.Keeps.{more_at, more_together}
use Rattle.step_rules.proofs.Makers.{old-last}
use Rattle.line_step.proofs.Numbers.{number_more}
use Rattle.law_link_messages.specs.Fit.{IsFitBody, IsFitMaker}
use Rattle.law_link_messages.proofs.Eventing.{first_body_fits}
use Rattle.law_one_standing.specs.Carried.{Carried, Carries, IsFitMachine, Trace, between_of, carries_over, stand_of}
use Rattle.law_one_standing.specs.Kept.{Keeps}
use Rattle.law_one_standing.specs.Relation.{Between, Stand, Neighbours, Owns}
use Rattle.law_one_standing.specs.Stands.{IsAtRest, Stands}
use Rattle.node_core.specs.declared.lane.Body.{Body as Machine}
use Rattle.law_one_standing.specs.Places.{LiesAt, Spot, lies_at, lies_in}

-- ---- what a new machine has, but for what it is willing to do, is what there was beyond the end

-- a body, a lane and a machine whose will is left out of sight: no relation of a line looks at it
abbrev pub will_aside : Machine → Machine
will_aside body = record body { entry = record body.entry { willing = true }; exit = record body.exit { willing = true } }

abbrev pub lane_aside : Lane → Lane
lane_aside lane = record lane { body = will_aside lane.body }

abbrev pub stand_aside : Stand → Stand
stand_aside stand = record stand { body = will_aside stand.body }

lane_more : (nodes : List NodeState) (new : NodeState) (place : ℕ) → lane_aside new.lane ≡ lane_aside no_node.lane → lane_aside (slice_index_or (nodes ++ new ∷ []) place no_node).lane ≡ lane_aside (slice_index_or nodes place no_node).lane
lane_more [] new zero is = is
lane_more [] new (suc place) is = refl
lane_more (n ∷ nodes) new zero is = refl
lane_more (n ∷ nodes) new (suc place) is = lane_more nodes new place is

lane_at : (lane : ℕ) (is_bridge : Bool) (capacity used : ℕ) (s : LineState) (machine : ℕ) → lane_aside (node_at (one_more lane is_bridge capacity used s) machine).lane ≡ lane_aside (node_at s machine).lane
lane_at lane is_bridge capacity used s zero = refl
lane_at lane is_bridge capacity used s (suc place) = lane_more s.machines (new_node (profile_of lane is_bridge (length s.machines + 1) capacity used)) place refl

stand_parts : (a b : Lane) (p q : AtMachine) → lane_aside a ≡ lane_aside b → p ≡ q → ◌≡◌ {A = Stand} (record { body = will_aside a.body; place = p }) (record { body = will_aside b.body; place = q })
stand_parts a b p q x y = ap (λ (lane : Lane). record { body = lane.body; place = p }) x ∙ ap (λ (place : AtMachine). record { body = will_aside b.body; place = place }) y

stand_more : (lane : ℕ) (is_bridge : Bool) (capacity used : ℕ) (s : LineState) (machine : ℕ) → stand_aside (stand_of (one_more lane is_bridge capacity used s) machine) ≡ stand_aside (stand_of s machine)
stand_more lane is_bridge capacity used s machine =
    stand_parts (node_at (one_more lane is_bridge capacity used s) machine).lane (node_at s machine).lane (machine_at (one_more lane is_bridge capacity used s).world.floor machine) (machine_at s.world.floor machine) (lane_at lane is_bridge capacity used s machine)
    (number_more s.world.floor.machines machine empty_machine)

between_parts : (t : Trace) (link : ℕ) (a b : LinkParts) (g h : AtGap) → a ≡ b → g ≡ h
    → ◌≡◌ {A = Between} (record { ghost = t.ghost link; stands = a.stands; gap = g; up = t.up link; down = t.down link; gone = t.gone link }) (record { ghost = t.ghost link; stands = b.stands; gap = h; up = t.up link; down = t.down link; gone = t.gone link })
between_parts t link a b g h x y = cc

between_more : (lane : ℕ) (is_bridge : Bool) (capacity used : ℕ) (t : Trace) (s : LineState) (link : ℕ) → between_of t (one_more lane is_bridge capacity used s) link ≡ between_of t s link
between_more lane is_bridge capacity used t s link =
    between_parts t link (link_at link (one_more lane is_bridge capacity used s).world) (link_at link s.world) (gap_at (one_more lane is_bridge capacity used s).world.floor link) (gap_at s.world.floor link) (more_at lane is_bridge capacity used s link)
    (more_gaps s.world.floor.machines s.world.floor.gaps link)

-- ---- what holds by numbers

pub same_keeps : (ms ms2 : ℕ → Stand) (bs bs2 : ℕ → Between) → ((k : ℕ) → ms2 k ≡ ms k) → ((k : ℕ) → bs2 k ≡ bs k) → Keeps ms bs → Keeps ms2 bs2
same_keeps ms ms2 bs bs2 stands betweens keeps =
    let m : ms2 ≡ ms = λ i k. stands k i in
    let b : bs2 ≡ bs = λ i k. betweens k i in
    subst (λ (n : ℕ → Stand). Keeps n bs2) (sym m) (subst (λ (c : ℕ → Between). Keeps ms c) (sym b) keeps)

-- the will doesn't count
pub neighbours_aside : {a c : Stand} {b : Between} → Neighbours a b c → Neighbours (stand_aside a) b (stand_aside c)
neighbours_aside n = record { pair = n.pair; contents = n.contents; holds = n.holds }

pub neighbours_seen : (a c : Stand) (b : Between) → Neighbours (stand_aside a) b (stand_aside c) → Neighbours a b c
neighbours_seen a c b n = record { pair = n.pair; contents = n.contents; holds = n.holds }

pub owns_aside : {a b : Between} {m : Stand} → Owns a m b → Owns a (stand_aside m) b
owns_aside o = record { boards = o.boards; entry_role = o.entry_role; exit_role = o.exit_role; offers = o.offers; recent = o.recent }

pub owns_seen : (a b : Between) (m : Stand) → Owns a (stand_aside m) b → Owns a m b
owns_seen a b m o = record { boards = o.boards; entry_role = o.entry_role; exit_role = o.exit_role; offers = o.offers; recent = o.recent }

pub lies_aside : (ms : ℕ → Stand) (bs : ℕ → Between) {x : ℕ} {p : Spot} → LiesAt ms bs x p → LiesAt (λ k. stand_aside (ms k)) bs x p
lies_aside ms bs (lies_at is) = lies_at is
lies_aside ms bs (lies_in is) = lies_in is

pub lies_seen : (ms : ℕ → Stand) (bs : ℕ → Between) {x : ℕ} {p : Spot} → LiesAt (λ k. stand_aside (ms k)) bs x p → LiesAt ms bs x p
lies_seen ms bs (lies_at is) = lies_at is
lies_seen ms bs (lies_in is) = lies_in is

pub keeps_aside : (ms : ℕ → Stand) (bs : ℕ → Between) → Keeps ms bs → Keeps (λ k. stand_aside (ms k)) bs
keeps_aside ms bs keeps = record {
  neighbours = record { at = λ k. neighbours_aside (keeps.neighbours.at k) };
  machines = record { at = λ k. owns_aside (keeps.machines.at k) };
  apart = record {
    once = keeps.apart.once;
    one_place = λ x p q one other. keeps.apart.one_place x p q (lies_seen ms bs one) (lies_seen ms bs other);
    nowhere = λ k x p gone lies. keeps.apart.nowhere k x p gone (lies_seen ms bs lies);
    gone_once = keeps.apart.gone_once;
  };
}

pub keeps_seen : (ms : ℕ → Stand) (bs : ℕ → Between) → Keeps (λ k. stand_aside (ms k)) bs → Keeps ms bs
keeps_seen ms bs keeps = record {
  neighbours = record { at = λ k. neighbours_seen (ms k) (ms (k + 1)) (bs k) (keeps.neighbours.at k) };
  machines = record { at = λ k. owns_seen (bs k) (bs (k + 1)) (ms (k + 1)) (keeps.machines.at k) };
  apart = record {
    once = keeps.apart.once;
    one_place = λ x p q one other. keeps.apart.one_place x p q (lies_aside ms bs one) (lies_aside ms bs other);
    nowhere = λ k x p gone lies. keeps.apart.nowhere k x p gone (lies_aside ms bs lies);
    gone_once = keeps.apart.gone_once;
  };
}

-- ---- where there is no link nothing flows

pub no_link_at : (s : LineState) (link : ℕ) → IsLineTogether s → has_link link s ≡ false → link_at link s.world ≡ no_link
no_link_at s link together none = loose_link s link together.links none

-- ---- the bytes of the links

same_carried : (lane : ℕ) (is_bridge : Bool) (capacity used : ℕ) (t : Trace) (s : LineState) (link : ℕ) → Carried t s link → Carried t (one_more lane is_bridge capacity used s) link
same_carried lane is_bridge capacity used t s link k =
    let parts = more_at lane is_bridge capacity used s link in
    let upper = lane_at lane is_bridge capacity used s link in
    let lower = lane_at lane is_bridge capacity used s (link + 1) in
    record {
      up = subst (λ (l : LinkParts). Carries l.stands (node_at (one_more lane is_bridge capacity used s) link).lane.exit_bytes l.flows.to_upstream (t.up link)) (sym parts)
          (subst (λ (lane : Lane). Carries (link_at link s.world).stands lane.exit_bytes (link_at link s.world).flows.to_upstream (t.up link)) (sym upper) k.up);
      down = subst (λ (l : LinkParts). Carries l.stands (node_at (one_more lane is_bridge capacity used s) (link + 1)).lane.entry_bytes l.flows.to_downstream (t.down link)) (sym parts)
          (subst (λ (lane : Lane). Carries (link_at link s.world).stands lane.entry_bytes (link_at link s.world).flows.to_downstream (t.down link)) (sym lower) k.down);
    }

-- a link on which nothing is connected carries nothing
pub loose_carries : (t : Trace) (s : LineState) (link : ℕ) → link_at link s.world ≡ no_link → t.up link ≡ [] → t.down link ≡ [] → Carried t s link
loose_carries t s link loose up down =
    let off : (link_at link s.world).stands ≡ false = ap (λ (l : LinkParts). l.stands) loose in
    let no_up : coming (link_at link s.world).flows.to_upstream ≡ [] = ap (λ (l : LinkParts). coming l.flows.to_upstream) loose in
    let no_down : coming (link_at link s.world).flows.to_downstream ≡ [] = ap (λ (l : LinkParts). coming l.flows.to_downstream) loose in
    record { up = rw up (carries_over off no_up); down = rw down (carries_over off no_down) }

carried_by : (lane : ℕ) (is_bridge : Bool) (capacity used : ℕ) (t : Trace) (s : LineState) (link : ℕ) (test : Bool) → Stands t s → has_link link s ≡ test → Carried t (one_more lane is_bridge capacity used s) link
carried_by lane is_bridge capacity used t s link true stands is = same_carried lane is_bridge capacity used t s link (stands.carried link is)
carried_by lane is_bridge capacity used t s link false stands is =
    let rest : IsAtRest t s link = stands.rest link is in
    loose_carries t (one_more lane is_bridge capacity used s) link (more_at lane is_bridge capacity used s link ∙ no_link_at s link stands.together is) rest.up rest.down

-- ---- the end

fewer_links : (link machines : ℕ) → (nat_le 1 link && nat_lt link (machines + 1)) ≡ false → (nat_le 1 link && nat_lt link machines) ≡ false
fewer_links link machines none = grind (arith, nat_tests)

counted_more : (lane : ℕ) (is_bridge : Bool) (capacity used : ℕ) (s : LineState) → length (one_more lane is_bridge capacity used s).machines ≡ length s.machines + 1
counted_more lane is_bridge capacity used s = length-append s.machines (new_node (profile_of lane is_bridge (length s.machines + 1) capacity used) ∷ [])

no_link_before : (lane : ℕ) (is_bridge : Bool) (capacity used : ℕ) (s : LineState) (link : ℕ) → has_link link (one_more lane is_bridge capacity used s) ≡ false → has_link link s ≡ false
no_link_before lane is_bridge capacity used s link none = fewer_links link (length s.machines) (ap (λ (count : ℕ). nat_le 1 link && nat_lt link count) (sym (counted_more lane is_bridge capacity used s)) ∙ none)

same_rest : (lane : ℕ) (is_bridge : Bool) (capacity used : ℕ) (t : Trace) (s : LineState) (link : ℕ) → IsAtRest t s link → IsAtRest t (one_more lane is_bridge capacity used s) link
same_rest lane is_bridge capacity used t s link k =
    let upper = lane_at lane is_bridge capacity used s link in
    let lower = lane_at lane is_bridge capacity used s (link + 1) in
    record {
      outlet = ap (λ (lane : Lane). lane.body.outlet.phase) upper ∙ k.outlet;
      intake = ap (λ (lane : Lane). lane.body.intake.phase) lower ∙ k.intake;
      exit = ap (λ (lane : Lane). lane.body.exit.session.state) upper ∙ k.exit;
      entry = ap (λ (lane : Lane). lane.body.entry.session.state) lower ∙ k.entry;
      up = k.up;
      down = k.down;
    }

-- ---- a line of the script that adds a machine

adds : (lane : ℕ) (is_bridge : Bool) (capacity used : ℕ) (s : LineState) → may_add s ≡ may_do
    → LineDoes 0 (requests.adds lane is_bridge capacity used) s (one_more lane is_bridge capacity used s) (added_told is_bridge capacity s)
adds lane is_bridge capacity used s may =
    let told = added_told is_bridge capacity s in
    let done : Becomes (one_more lane is_bridge capacity used s) told (one_more lane is_bridge capacity used s) told = record { after_is = refl; told_is = refl } in
    subst (λ (m : May). Unless m s (one_more lane is_bridge capacity used s) told (Becomes (one_more lane is_bridge capacity used s) told (one_more lane is_bridge capacity used s) told)) (sym may) done

more_holds : (lane : ℕ) (is_bridge : Bool) (capacity used : ℕ) (s : LineState) → may_add s ≡ may_do → Holds s → Holds (one_more lane is_bridge capacity used s)
more_holds lane is_bridge capacity used s may holds =
    let next : LineState = one_more lane is_bridge capacity used s in
    let told : List Happening = added_told is_bridge capacity s in
    let steps : LineSteps 0 (requests.adds lane is_bridge capacity used) s (record next { lines = next.lines + 1 }) _ = record { next = next; done = told; does = adds lane is_bridge capacity used s may; lines = next.lines + 1; counts = rises next.lines; after_is = refl; told_is = refl } in
    let goes = steps-goes 0 (requests.adds lane is_bridge capacity used) s (record next { lines = next.lines + 1 }) _ holds tt steps in
    record { own = goes.holds.own; many = goes.holds.many; whole = goes.holds.whole; old = goes.holds.old; differ = goes.holds.differ }

-- ---- a new machine's records, its name and its number are fit

pub machine_is_text : (number : ℕ) → number ≤ 65 → IsText (machine_text number)
machine_is_text number few =
    let fits : number < 2 ^ 64 = omega arith in
    let digits = length-decimal number fits in
    let all = length-append (codes "M") (decimal number) in
    IsText-from_printable (machine_text number) (plain-append (codes "M") (decimal number) refl (plain-decimal number fits)) (omega (arith, digits, all))

new_fits : (nodes : List NodeState) (new : NodeState) (place : ℕ) (P : NodeState → Type 0) → P new → ((other : ℕ) → P (slice_index_or nodes other no_node)) → P (slice_index_or (nodes ++ new ∷ []) place no_node)
new_fits [] new zero P fit fits = fit
new_fits [] new (suc place) P fit fits = fits zero
new_fits (n ∷ nodes) new zero P fit fits = fits zero
new_fits (n ∷ nodes) new (suc place) P fit fits = new_fits nodes new place P fit (λ other. fits (suc other))

pub record IsFitNode (node : NodeState) : Type 0 where
  pub body : IsFitBody node.lane.body
  pub maker : IsFitMaker node.maker
  pub name : IsText node.name
  pub lane : node.number ≤ 999_999_999

few_numbers : (machines count : ℕ) → machines ≡ count + 1 → machines ≤ 64 → (count + 1 ≤ 65) × (count + 1 < 2 ^ 32)
few_numbers machines count is few = (omega arith, omega arith)

new_node_fits : (lane : ℕ) (is_bridge : Bool) (capacity used number : ℕ) → lane ≤ 4 → number ≤ 65 → number < 2 ^ 32 → IsFitNode (new_node (profile_of lane is_bridge number capacity used))
new_node_fits lane is_bridge capacity used number early few small = record { body = first_body_fits is_bridge; maker = record { small = small }; name = machine_is_text number few; lane = omega (arith, early) }

pub as_node : (s : LineState) (machine : ℕ) → IsFitMachine s machine → IsFitNode (node_at s machine)
as_node s machine k = record { body = k.body; maker = k.maker; name = k.name; lane = k.lane }

pub as_machine : (s : LineState) (machine : ℕ) → IsFitNode (node_at s machine) → IsFitMachine s machine
as_machine s machine k = record { body = k.body; maker = k.maker; name = k.name; lane = k.lane }

more_fit : (lane : ℕ) (is_bridge : Bool) (capacity used : ℕ) (s : LineState) → lane ≤ 4 → IsLineTogether (one_more lane is_bridge capacity used s) → ((machine : ℕ) → IsFitMachine s machine) → (machine : ℕ) → IsFitMachine (one_more lane is_bridge capacity used s) machine
more_fit lane is_bridge capacity used s early together fit zero = as_machine (one_more lane is_bridge capacity used s) zero (as_node s zero (fit zero))
more_fit lane is_bridge capacity used s early together fit (suc place) =
    let small = few_numbers (length (one_more lane is_bridge capacity used s).machines) (length s.machines) (counted_more lane is_bridge capacity used s) together.few in
    let new : NodeState = new_node (profile_of lane is_bridge (length s.machines + 1) capacity used) in
    as_machine (one_more lane is_bridge capacity used s) (suc place)
    (new_fits s.machines new place IsFitNode (new_node_fits lane is_bridge capacity used (length s.machines + 1) early small.0 small.1) (λ other. as_node s (suc other) (fit (suc other))))

-- ---- what stands together in each machine and each link

new_is_sound : (lane : ℕ) (is_bridge : Bool) (capacity used number : ℕ) → IsSound capacity (new_node (profile_of lane is_bridge number capacity used)).lane.body
new_is_sound lane is_bridge capacity used number = record { offers = tt; entry = refl; exit = refl; places = omega arith }

more_sound : (lane : ℕ) (is_bridge : Bool) (capacity used : ℕ) (s : LineState) → ((machine : ℕ) → IsSound (node_at s machine).capacity (node_at s machine).lane.body) → (machine : ℕ)
    → IsSound (node_at (one_more lane is_bridge capacity used s) machine).capacity (node_at (one_more lane is_bridge capacity used s) machine).lane.body
more_sound lane is_bridge capacity used s sound zero = sound zero
more_sound lane is_bridge capacity used s sound (suc place) =
    new_fits s.machines (new_node (profile_of lane is_bridge (length s.machines + 1) capacity used)) place (λ (node : NodeState). IsSound node.capacity node.lane.body) (new_is_sound lane is_bridge capacity used (length s.machines + 1)) (λ other. sound (suc other))

-- ONE MACHINE MORE, which takes part in the relation as what was beyond the end did
pub more_stands : (t : Trace) (lane : ℕ) (is_bridge : Bool) (capacity used : ℕ) (s : LineState) → lane ≤ 4 → Stands t s → may_add s ≡ may_do → Stands t (one_more lane is_bridge capacity used s)
more_stands t lane is_bridge capacity used s early stands may =
    let next : LineState = one_more lane is_bridge capacity used s in
    let together : IsLineTogether next = more_together lane is_bridge capacity used s may stands.together in
    record {
      keeps = keeps_seen (stand_of next) (between_of t next)
          (same_keeps (λ k. stand_aside (stand_of s k)) (λ k. stand_aside (stand_of next k)) (between_of t s) (between_of t next) (stand_more lane is_bridge capacity used s) (between_more lane is_bridge capacity used t s)
          (keeps_aside (stand_of s) (between_of t s) stands.keeps));
      carried = λ link there. carried_by lane is_bridge capacity used t s link (has_link link s) stands refl;
      rest = λ link none. same_rest lane is_bridge capacity used t s link (stands.rest link (no_link_before lane is_bridge capacity used s link none));
      fit = more_fit lane is_bridge capacity used s early together stands.fit;
      sound = more_sound lane is_bridge capacity used s stands.sound;
      links = more_whole lane is_bridge capacity used s stands.links;
      together = together;
      ids = more_holds lane is_bridge capacity used s may stands.ids;
      olds = λ link id gone. old-last 1 s.machines (new_node (profile_of lane is_bridge (length s.machines + 1) capacity used)) id (stands.olds link id gone);
    }

-- the relation doesn't count the lines
pub counted_stands : (t : Trace) (s : LineState) (lines : ℕ) → lines ≤ 1000000 → Stands t s → Stands t (record s { lines = lines })
counted_stands t s lines few k =
    let together = k.together in
    let ids = k.ids in
    record {
      keeps = k.keeps;
      carried = λ link there. (let c = k.carried link there in record { up = c.up; down = c.down });
      rest = λ link none. (let r = k.rest link none in record { outlet = r.outlet; intake = r.intake; exit = r.exit; entry = r.entry; up = r.up; down = r.down });
      fit = λ machine. (let f = k.fit machine in record { body = f.body; maker = f.maker; name = f.name; lane = f.lane });
      sound = k.sound;
      links = k.links;
      together = record { few = together.few; short = few; floor = together.floor; links = together.links; joined = together.joined };
      ids = record { own = ids.own; many = ids.many; whole = ids.whole; old = ids.old; differ = ids.differ };
      olds = k.olds;
    }
