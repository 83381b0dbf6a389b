-- A machine of the line makes a step.
use Rattle.std.proofs.Common.{Bool, List, Option, [], arith, refl, subst, sym, ℕ, ◌+◌, ◌≡◌}
use Rattle.board_record.specs.declared.record.Record.{Record}
use Rattle.session_core.specs.declared.state.SessionState.{SessionState}
use Rattle.line_world.specs.FloorPlan.{AtMachine}
use Rattle.handover_out.specs.State.{OutState}
use Rattle.handover_in.specs.State.{InState}
use Rattle.node_core.specs.Halves.{OffersFront}
use Rattle.node_core.specs.declared.act.Act.{Act}
use Rattle.node_core.specs.declared.lane.Body.{Body as Machine}
use Rattle.law_custody.specs.Events.{IsContent, gone_by}
use Rattle.law_custody.specs.Pair.{Body, Ghost, Pair}
use Rattle.law_machine_custody.specs.Good.{Afar, Goes, Good, Holds, ListsAbove, ListsBelow}
use Rattle.law_machine_custody.specs.Scene.{Scene, all_met, link_above, link_below}
use Rattle.law_machine_custody.proofs.Far.{all_entry_below, all_exit_above, all_far_above, all_far_below, all_intake, all_last, all_outlet}
use Rattle.line_step.specs.Numbered.{Changes}
use Rattle.line_step.proofs.Changing.{body_step, each_step}
use Rattle.law_one_standing.specs.Relation.{Between, Neighbours, Owns, Stand, scene_between}
use Rattle.law_one_standing.specs.Kept.{Keeps}
use Rattle.law_one_standing.specs.Places.{AreApart}

-- ---- what a machine's step leaves as it is

abbrev pub afar_of : (ℕ → Bool) → Between → (ℕ → Bool) → Afar
afar_of elsewhere ba gone = record { gone_above = ba.gone; gone_below = gone; elsewhere = elsewhere }

-- ---- what is there behind the step

abbrev pub me_then : Machine → Scene → Stand
me_then body d = record { body = body; place = record { boards = d.boards; unread = [] } }

abbrev pub above_then : Ghost → Between → Scene → Between
above_then a ba d = record { ghost = a; stands = d.above.stands; gap = d.above.gap; up = d.above.up; down = d.above.down; gone = ba.gone }

abbrev pub below_then : Ghost → (ℕ → Bool) → Scene → Between
below_then b gone d = record { ghost = b; stands = d.below.stands; gap = d.below.gap; up = d.below.up; down = d.below.down; gone = gone }

-- the machine above is as it was
pub record SameAbove (above : Stand) (d : Scene) : Type 0 where
  pub exit : d.above.exit ≡ above.body.exit.session.state
  pub outlet : d.above.outlet ≡ above.body.outlet
  pub last : d.above.last_offer ≡ above.body.last_offer
  pub far : d.above.far ≡ above.place

pub record SameBelow (below : Stand) (d : Scene) : Type 0 where
  pub entry : d.below.entry ≡ below.body.entry.session.state
  pub intake : d.below.intake ≡ below.body.intake
  pub far : d.below.far ≡ below.place

pub acts_same_above : (above : Stand) (ba : Between) (me : Stand) (bb : Between) (below : Stand) (done : List Act) → SameAbove above (all_met done (scene_between above ba me bb below))
acts_same_above above ba me bb below done = record {
  exit = all_exit_above done (scene_between above ba me bb below);
  outlet = all_outlet done (scene_between above ba me bb below);
  last = all_last done (scene_between above ba me bb below);
  far = all_far_above done (scene_between above ba me bb below);
}

pub acts_same_below : (above : Stand) (ba : Between) (me : Stand) (bb : Between) (below : Stand) (done : List Act) → SameBelow below (all_met done (scene_between above ba me bb below))
acts_same_below above ba me bb below done = record {
  entry = all_entry_below done (scene_between above ba me bb below);
  intake = all_intake done (scene_between above ba me bb below);
  far = all_far_below done (scene_between above ba me bb below);
}

pub above_after : {elsewhere gone : ℕ → Bool} (above : Stand) (ba : Between) (a b : Ghost) (body : Machine) (d : Scene) → SameAbove above d → Good (afar_of elsewhere ba gone) above.body.kept [] a b body d
    → Neighbours above (above_then a ba d) (me_then body d)
above_after above ba a b body d same g =
    record {
      pair = subst (λ (x : AtMachine). Pair a (link_above [] body (record d { above = record d.above { exit = above.body.exit.session.state; outlet = above.body.outlet; last_offer = above.body.last_offer; far = x } }))) same.far
          (subst (λ (z : Option ℕ). Pair a (link_above [] body (record d { above = record d.above { exit = above.body.exit.session.state; outlet = above.body.outlet; last_offer = z } }))) same.last
          (subst (λ (o : OutState). Pair a (link_above [] body (record d { above = record d.above { exit = above.body.exit.session.state; outlet = o } }))) same.outlet
          (subst (λ (s : SessionState). Pair a (link_above [] body (record d { above = record d.above { exit = s } }))) same.exit g.above_pair)));
      contents = subst (λ (z : Option ℕ). IsContent (gone_by ba.gone) (link_above [] body (record d { above = record d.above { outlet = above.body.outlet; last_offer = z } })) above.body.kept) same.last
          (subst (λ (o : OutState). IsContent (gone_by ba.gone) (link_above [] body (record d { above = record d.above { outlet = o } })) above.body.kept) same.outlet g.above_contents);
      holds = subst (λ (z : Option ℕ). Holds ba.gone above.body.kept z a.place above.body.outlet.phase body.intake.phase) same.last
          (subst (λ (o : OutState). Holds ba.gone above.body.kept d.above.last_offer a.place o.phase body.intake.phase) same.outlet g.above_holds);
    }

pub below_after : {elsewhere gone : ℕ → Bool} {kept : List Record} (below : Stand) (ba : Between) (a b : Ghost) (body : Machine) (d : Scene) → SameBelow below d → Good (afar_of elsewhere ba gone) kept [] a b body d
    → Neighbours (me_then body d) (below_then b gone d) below
below_after {gone = gone} below ba a b body d same g = record {
  pair = subst (λ (x : AtMachine). Pair b (link_below [] body (record d { below = record d.below { entry = below.body.entry.session.state; intake = below.body.intake; far = x } }))) same.far
      (subst (λ (i : InState). Pair b (link_below [] body (record d { below = record d.below { entry = below.body.entry.session.state; intake = i } }))) same.intake
      (subst (λ (s : SessionState). Pair b (link_below [] body (record d { below = record d.below { entry = s } }))) same.entry g.below_pair));
  contents = subst (λ (i : InState). IsContent (gone_by gone) (link_below [] body (record d { below = record d.below { intake = i } })) body.kept) same.intake g.below_contents;
  holds = subst (λ (i : InState). Holds gone body.kept body.last_offer b.place body.outlet.phase i.phase) same.intake g.below_holds;
}

-- the machine's own boards
pub owns_after : {elsewhere gone : ℕ → Bool} {kept : List Record} (ba : Between) (a b : Ghost) (body : Machine) (d : Scene) → Good (afar_of elsewhere ba gone) kept [] a b body d → OffersFront body
    → Owns (above_then a ba d) (me_then body d) (below_then b gone d)
owns_after ba a b body d g offers = record { boards = g.boards; entry_role = g.entry_role; exit_role = g.exit_role; offers = offers; recent = g.recent }

-- the boards of the machines on both sides are listed as the ghosts say
pub lists_above : (over : Between) (above : Stand) (ba : Between) (a : Ghost) (d : Scene) → SameAbove above d → ListsAbove above.body.outlet.phase ba.ghost d.above.outlet.phase a → Owns over above ba
    → Owns over above (above_then a ba d)
lists_above over above ba a d same lists own = record {
  boards = subst (λ (o : OutState). Body o.phase a.place above.body.kept above.body.intake.phase over.ghost.place above.place.boards) same.outlet
      (lists above.body.kept above.body.intake.phase over.ghost.place above.place.boards own.boards);
  entry_role = own.entry_role;
  exit_role = own.exit_role;
  offers = own.offers;
  recent = own.recent;
}

pub lists_below : {gone : ℕ → Bool} (below : Stand) (bb : Between) (under : Between) (b : Ghost) (d : Scene) → SameBelow below d → ListsBelow below.body.intake.phase bb.ghost d.below.intake.phase b → Owns bb below under
    → Owns (below_then b gone d) below under
lists_below below bb under b d same lists own = record {
  boards = subst (λ (i : InState). Body below.body.outlet.phase under.ghost.place below.body.kept i.phase b.place below.place.boards) same.intake
      (lists below.body.outlet.phase under.ghost.place below.body.kept below.place.boards own.boards);
  entry_role = own.entry_role;
  exit_role = own.exit_role;
  offers = own.offers;
  recent = own.recent;
}

-- ---- along the line

-- the machine of this number is as the step leaves it, and what is above and below it; nothing else changes
pub record Steps (j : ℕ) (ms : ℕ → Stand) (bs : ℕ → Between) (ms2 : ℕ → Stand) (bs2 : ℕ → Between) (a b : Ghost) (gone : ℕ → Bool) (body : Machine) (d : Scene) : Type 0 where
  pub changes : Changes (j + 1) ms bs ms2 bs2
  pub me : ms2 (j + 1) ≡ me_then body d
  pub above : bs2 j ≡ above_then a (bs j) d
  pub below : bs2 (j + 1) ≡ below_then b gone d

pub same_number : (i j : ℕ) → i + 1 ≡ j + 1 → j ≡ i
same_number i j is = omega (arith, is)

pub next_number : (i j : ℕ) → i + 2 ≡ j + 1 → i + 1 ≡ j
next_number i j is = omega (arith, is)

-- a machine makes a step in a scene with the outlet above it and the intake below it: the relation of the line goes on
pub step_keeps_in : {elsewhere gone : ℕ → Bool} (j : ℕ) (ms : ℕ → Stand) (bs : ℕ → Between) (ms2 : ℕ → Stand) (bs2 : ℕ → Between) (body : Machine) (c d : Scene)
    → c.above.outlet ≡ (ms j).body.outlet → c.below.intake ≡ (ms (j + 1 + 1)).body.intake
    → Keeps ms bs → SameAbove (ms j) d → SameBelow (ms (j + 1 + 1)) d
    → (g : Goes (afar_of elsewhere (bs j) gone) (ms j).body.kept [] (bs j).ghost (bs (j + 1)).ghost c body d)
    → OffersFront body → AreApart ms2 bs2
    → Steps j ms bs ms2 bs2 g.a g.b gone body d → Keeps ms2 bs2
step_keeps_in {gone = gone} j ms bs ms2 bs2 body c d outlet intake k up down g offers apart s =
    let above_lists : ListsAbove (ms j).body.outlet.phase (bs j).ghost d.above.outlet.phase g.a = subst (λ (o : OutState). ListsAbove o.phase (bs j).ghost d.above.outlet.phase g.a) outlet g.lists_above in
    let below_lists : ListsBelow (ms (j + 1 + 1)).body.intake.phase (bs (j + 1)).ghost d.below.intake.phase g.b = subst (λ (i : InState). ListsBelow i.phase (bs (j + 1)).ghost d.below.intake.phase g.b) intake g.lists_below in
    let near_above : Neighbours (ms j) (above_then g.a (bs j) d) (me_then body d) = above_after (ms j) (bs j) g.a g.b body d up g.good in
    let near_below : Neighbours (me_then body d) (below_then g.b gone d) (ms (j + 1 + 1)) = below_after (ms (j + 1 + 1)) (bs j) g.a g.b body d down g.good in
    let own : Owns (above_then g.a (bs j) d) (me_then body d) (below_then g.b gone d) = owns_after (bs j) g.a g.b body d g.good offers in
    record {
      neighbours = each_step Neighbours (j + 1) ms bs ms2 bs2 s.changes k.neighbours
          (subst (λ (m : Stand). Neighbours m (bs2 (j + 1)) (ms (j + 1 + 1))) (sym s.me) (subst (λ (x : Between). Neighbours (me_then body d) x (ms (j + 1 + 1))) (sym s.below) near_below))
          (λ i is. subst (λ (n : ℕ). Neighbours (ms n) (bs2 n) (ms2 (j + 1))) (same_number i j is) (subst (λ (m : Stand). Neighbours (ms j) (bs2 j) m) (sym s.me) (subst (λ (x : Between). Neighbours (ms j) x (me_then body d)) (sym s.above) near_above)));
      machines = body_step Owns (j + 1) ms bs ms2 bs2 s.changes k.machines
          (λ i is. subst (λ (n : ℕ). Owns (bs2 n) (ms2 (j + 1)) (bs2 (j + 1))) (same_number i j is)
          (subst (λ (m : Stand). Owns (bs2 j) m (bs2 (j + 1))) (sym s.me) (subst (λ (x : Between). Owns x (me_then body d) (bs2 (j + 1))) (sym s.above) (subst (λ (x : Between). Owns (above_then g.a (bs j) d) (me_then body d) x) (sym s.below) own))))
          (subst (λ (x : Between). Owns x (ms (j + 1 + 1)) (bs (j + 1 + 1))) (sym s.below) (lists_below (ms (j + 1 + 1)) (bs (j + 1)) (bs (j + 1 + 1)) g.b d down below_lists (k.machines.at (j + 1))))
          (λ i is. subst (λ (n : ℕ). Owns (bs i) (ms n) (bs2 n)) (sym (next_number i j is))
          (subst (λ (x : Between). Owns (bs i) (ms j) x) (sym s.above)
          (lists_above (bs i) (ms j) (bs j) g.a d up above_lists (subst (λ (n : ℕ). Owns (bs i) (ms n) (bs n)) (next_number i j is) (k.machines.at i)))));
      apart = apart;
    }

pub step_keeps : {elsewhere gone : ℕ → Bool} (j : ℕ) (ms : ℕ → Stand) (bs : ℕ → Between) (ms2 : ℕ → Stand) (bs2 : ℕ → Between) (body : Machine) (d : Scene)
    → Keeps ms bs → SameAbove (ms j) d → SameBelow (ms (j + 1 + 1)) d
    → (g : Goes (afar_of elsewhere (bs j) gone) (ms j).body.kept [] (bs j).ghost (bs (j + 1)).ghost (scene_between (ms j) (bs j) (ms (j + 1)) (bs (j + 1)) (ms (j + 1 + 1))) body d)
    → OffersFront body → AreApart ms2 bs2
    → Steps j ms bs ms2 bs2 g.a g.b gone body d → Keeps ms2 bs2
step_keeps j ms bs ms2 bs2 body d k up down g offers apart s = step_keeps_in j ms bs ms2 bs2 body (scene_between (ms j) (bs j) (ms (j + 1)) (bs (j + 1)) (ms (j + 1 + 1))) d refl refl k up down g offers apart s
