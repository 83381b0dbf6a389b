-- The two steps in which a link is connected, along the line.
use Rattle.std.proofs.Common.{Bool, [], ap, arith, refl, subst, sym, ℕ, ◌+◌, ◌∙◌, ◌≡◌, ◌≢◌}
use Rattle.line_world.specs.FloorPlan.{gap_at, machine_at}
use Rattle.line_world.specs.declared.gap.AtGap.{AtGap}
use Rattle.node_core.specs.Halves.{OffersFront}
use Rattle.node_core.specs.declared.lane.Body.{Body as Machine}
use Rattle.law_custody.specs.Pair.{Ghost}
use Rattle.law_machine_custody.specs.Good.{Goes}
use Rattle.law_machine_custody.specs.Scene.{Scene}
use Rattle.line_step.specs.Numbered.{ChangesMachine, node_at}
use Rattle.line_step.specs.State.{LineState}
use Rattle.line_step.specs.World.{link_at}
use Rattle.law_one_standing.specs.Carried.{Trace, between_of, stand_of}
use Rattle.law_one_standing.specs.Kept.{Keeps}
use Rattle.law_one_standing.specs.Places.{AreApart, LiesAt, LiesIn, Spot, lies_at, lies_in}
use Rattle.law_one_standing.specs.Relation.{Between, Stand}
use Rattle.law_one_standing.proofs.Behind.{AreReal, put_first, put_second, stepped, stepped_same, me_by, between_by}
use Rattle.law_one_standing.proofs.Steps.{SameAbove, SameBelow, Steps, afar_of, step_keeps_in}
use Rattle.law_one_standing.proofs.Traces.{between_same, put, put_other, put_same, stand_same}

-- ---- between the two steps: in the relation the link doesn't stand yet

-- what is between two machines, but that this link stands or not as is said
abbrev pub between_on : ℕ → Bool → Trace → LineState → ℕ → Between
between_on link on t s k = record (between_of t s k) { stands = put link on (λ (n : ℕ). (link_at n s.world).stands) k }

on_other : (link : ℕ) (on : Bool) (t : Trace) (s : LineState) (k : ℕ) → k ≢ link → between_on link on t s k ≡ between_of t s k
on_other link on t s k apart = ap (λ (b : Bool). record (between_of t s k) { stands = b }) (put_other link k on (λ (n : ℕ). (link_at n s.world).stands) apart)

-- that each board is in one place doesn't hang on links
lies_same : {ms : ℕ → Stand} {bs bs2 : ℕ → Between} {x : ℕ} {p : Spot} → ((k : ℕ) → (bs2 k).gap ≡ (bs k).gap) → LiesAt ms bs2 x p → LiesAt ms bs x p
lies_same same (lies_at lies) = lies_at lies
lies_same {x = x} same (lies_in {k = k} lies) = lies_in (subst (λ (g : AtGap). LiesIn x g.lies) (same k) lies)

apart_same : {ms : ℕ → Stand} {bs bs2 : ℕ → Between} → ((k : ℕ) → (bs2 k).gap ≡ (bs k).gap) → ((k : ℕ) → (bs2 k).gone ≡ (bs k).gone) → AreApart ms bs → AreApart ms bs2
apart_same gaps gones a = record {
  once = a.once;
  one_place = λ x p q one two. a.one_place x p q (lies_same gaps one) (lies_same gaps two);
  nowhere = λ k x p gone lies. a.nowhere k x p (ap (λ (f : ℕ → Bool). f x) (sym (gones k)) ∙ gone) (lies_same gaps lies);
  gone_once = λ j k x one two. a.gone_once j k x (ap (λ (f : ℕ → Bool). f x) (sym (gones j)) ∙ one) (ap (λ (f : ℕ → Bool). f x) (sym (gones k)) ∙ two);
}

pub apart_on : (link : ℕ) (on : Bool) (t : Trace) (s : LineState) → AreApart (stand_of s) (between_of t s) → AreApart (stand_of s) (between_on link on t s)
apart_on link on t s a = apart_same {bs = between_of t s} {bs2 = between_on link on t s} (λ k. refl) (λ k. refl) a

-- ---- the first step: machine j + 2 calls

-- what is there behind the first step, as the relation has it
pub record IsCalled (j : ℕ) (between : LineState) (own : Machine) (d : Scene) : Type 0 where
  pub body : (node_at between (j + 1 + 1)).lane.body ≡ own
  pub place : machine_at between.world.floor (j + 1 + 1) ≡ record { boards = d.boards; unread = [] }
  pub gap_above : gap_at between.world.floor (j + 1) ≡ d.above.gap
  pub stands_below : (link_at (j + 1 + 1) between.world).stands ≡ d.below.stands
  pub gap_below : gap_at between.world.floor (j + 1 + 1) ≡ d.below.gap

far_apart : (j k : ℕ) → k + 1 ≢ j + 1 + 1 → k ≢ j + 1
far_apart j k apart is = apart (ap (λ (n : ℕ). n + 1) is)

call_steps : (j : ℕ) (t : Trace) (before between : LineState) (a b : Ghost) (gone : ℕ → Bool) (body : Machine) (d : Scene) → ChangesMachine (j + 1 + 1) before between → IsCalled j between body d
    → Steps (j + 1) (stand_of before) (between_of t before) (stand_of between) (between_on (j + 1) d.above.stands (stepped t (j + 1) a b gone d) between) a b gone body d
call_steps j t before between a b gone body d changes called = record {
  changes = record {
    machines = λ k apart. stand_same before between k (changes.machines k apart);
    links = λ k here above. on_other (j + 1) d.above.stands (stepped t (j + 1) a b gone d) between k (far_apart j k above)
        ∙ between_same t (stepped t (j + 1) a b gone d) before between k (changes.links k here above) (stepped_same t (j + 1) k a b gone d (far_apart j k above) here);
  };
  me = me_by called.body called.place;
  above = between_by (put_first (j + 1) a b t.ghost) (put_same (j + 1) d.above.stands (λ (n : ℕ). (link_at n between.world).stands)) called.gap_above (put_first (j + 1) d.above.up d.below.up t.up) (put_first (j + 1) d.above.down d.below.down t.down)
      (put_other (j + 1 + 1) (j + 1) gone t.gone (omega arith));
  below = between_by (put_second (j + 1) a b t.ghost) (put_other (j + 1) (j + 1 + 1) d.above.stands (λ (n : ℕ). (link_at n between.world).stands) (omega arith) ∙ called.stands_below) called.gap_below (put_second (j + 1) d.above.up d.below.up t.up)
      (put_second (j + 1) d.above.down d.below.down t.down) (put_same (j + 1 + 1) gone t.gone);
}

-- ---- the second step: machine j + 1 meets it

meet_steps : (j : ℕ) (on : Bool) (t1 : Trace) (between after : LineState) (a b : Ghost) (gone : ℕ → Bool) (body : Machine) (d : Scene) → ChangesMachine (j + 1) between after
    → (node_at after (j + 1)).lane.body ≡ body → machine_at after.world.floor (j + 1) ≡ record { boards = d.boards; unread = [] } → AreReal j after d
    → Steps j (stand_of between) (between_on (j + 1) on t1 between) (stand_of after) (between_of (stepped t1 j a b gone d) after) a b gone body d
meet_steps j on t1 between after a b gone body d changes is place real = record {
  changes = record {
    machines = λ k apart. stand_same between after k (changes.machines k apart);
    links = λ k here above. between_same t1 (stepped t1 j a b gone d) between after k (changes.links k here above) (stepped_same t1 j k a b gone d (λ is. above (ap (λ (n : ℕ). n + 1) is)) here) ∙ sym (on_other (j + 1) on t1 between k here);
  };
  me = me_by is place;
  above = between_by (put_first j a b t1.ghost) real.stands_above real.gap_above (put_first j d.above.up d.below.up t1.up) (put_first j d.above.down d.below.down t1.down) (put_other (j + 1) j gone t1.gone (omega arith));
  below = between_by (put_second j a b t1.ghost) real.stands_below real.gap_below (put_second j d.above.up d.below.up t1.up) (put_second j d.above.down d.below.down t1.down) (put_same (j + 1) gone t1.gone);
}

-- the relation behind the first step
pub call_keeps : {elsewhere gone : ℕ → Bool} (j : ℕ) (t : Trace) (before between : LineState) (c d : Scene) (body : Machine) → Keeps (stand_of before) (between_of t before)
    → c.above.outlet ≡ (stand_of before (j + 1)).body.outlet → c.below.intake ≡ (stand_of before (j + 1 + 1 + 1)).body.intake → SameAbove (stand_of before (j + 1)) d → SameBelow (stand_of before (j + 1 + 1 + 1)) d
    → (g : Goes (afar_of elsewhere (between_of t before (j + 1)) gone) (stand_of before (j + 1)).body.kept [] (t.ghost (j + 1)) (t.ghost (j + 1 + 1)) c body d)
    → OffersFront body → ChangesMachine (j + 1 + 1) before between → IsCalled j between body d
    → AreApart (stand_of between) (between_of (stepped t (j + 1) g.a g.b gone d) between)
    → Keeps (stand_of between) (between_on (j + 1) d.above.stands (stepped t (j + 1) g.a g.b gone d) between)
call_keeps {gone = gone} j t before between c d body k outlet intake above below g offers changes called apart =
    step_keeps_in (j + 1) (stand_of before) (between_of t before) (stand_of between) (between_on (j + 1) d.above.stands (stepped t (j + 1) g.a g.b gone d) between) body c d outlet intake k above below g offers
    (apart_on (j + 1) d.above.stands (stepped t (j + 1) g.a g.b gone d) between apart) (call_steps j t before between g.a g.b gone body d changes called)

-- and behind the second
pub meet_keeps : {elsewhere gone : ℕ → Bool} (j : ℕ) (on : Bool) (t1 : Trace) (between after : LineState) (c d : Scene) (body : Machine) → Keeps (stand_of between) (between_on (j + 1) on t1 between)
    → c.above.outlet ≡ (stand_of between j).body.outlet → c.below.intake ≡ (stand_of between (j + 1 + 1)).body.intake → SameAbove (stand_of between j) d → SameBelow (stand_of between (j + 1 + 1)) d
    → (g : Goes (afar_of elsewhere (between_on (j + 1) on t1 between j) gone) (stand_of between j).body.kept [] (t1.ghost j) (t1.ghost (j + 1)) c body d)
    → OffersFront body → ChangesMachine (j + 1) between after
    → (node_at after (j + 1)).lane.body ≡ body → machine_at after.world.floor (j + 1) ≡ record { boards = d.boards; unread = [] } → AreReal j after d
    → AreApart (stand_of after) (between_of (stepped t1 j g.a g.b gone d) after) → Keeps (stand_of after) (between_of (stepped t1 j g.a g.b gone d) after)
meet_keeps {gone = gone} j on t1 between after c d body k outlet intake above below g offers changes is place real apart =
    step_keeps_in j (stand_of between) (between_on (j + 1) on t1 between) (stand_of after) (between_of (stepped t1 j g.a g.b gone d) after) body c d outlet intake k above below g offers apart
    (meet_steps j on t1 between after g.a g.b gone body d changes is place real)
