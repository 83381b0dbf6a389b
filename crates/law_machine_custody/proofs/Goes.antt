-- What micro events that keep the relation do one after another.
use Rattle.std.proofs.Common.{List, [], refl, subst, sym, ◌++◌, ◌∷◌, ◌≡◌}
use Rattle.board_record.specs.declared.record.Record.{Record}
use Rattle.board_record.specs.declared.sensed.Sensed.{Sensed}
use Rattle.handover_out.specs.State.{OutState}
use Rattle.handover_in.specs.State.{InState}
use Rattle.node_core.specs.Desk.{Desk}
use Rattle.node_core.specs.Done.{Done, and_then, behind}
use Rattle.node_core.specs.Event.{Event}
use Rattle.node_core.specs.Step.{machine_step, plain_step}
use Rattle.node_core.specs.Supervising.{watch_of, with_tells}
use Rattle.node_core.specs.declared.act.Act.{Act}
use Rattle.node_core.specs.declared.lane.Body.{Body as Machine}
use Rattle.node_core.specs.declared.supervising.Watch.{Watch}
use Rattle.node_core.proofs.Telling.{beside}
use Rattle.law_custody.specs.Pair.{Ghost}
use Rattle.law_machine_custody.specs.Scene.{Scene, all_met, met}
use Rattle.law_machine_custody.specs.Good.{Afar, Goes, GoesBy, Good, ListsAbove, ListsBelow}

pub met_append : (xs ys : List Act) (c : Scene) → all_met (xs ++ ys) c ≡ all_met ys (all_met xs c)
met_append [] ys c = refl
met_append (x ∷ xs) ys c = met_append xs ys (met x c)

-- what the supervisor is told does nothing there
pub met_tells : (desk : Desk) (watch : Watch) (made : List Act) (c : Scene)
    → all_met (with_tells desk watch made) c ≡ all_met made c
met_tells desk watch made =
    beside (λ told plain. (c : Scene) → all_met told c ≡ all_met plain c) (λ c. refl)
    (λ act told plain same c. same (met act c)) (λ message told plain same c. same c)
    desk watch made

-- so a whole step does there what it does without it
pub step_met : (desk : Desk) (unread : List Sensed) (event : Event) (body : Machine) (c : Scene)
    → all_met (machine_step desk unread event body).acts c
    ≡ all_met (plain_step desk unread event body).acts c
step_met desk unread event body c =
    met_tells desk (watch_of desk body) (plain_step desk unread event body).acts c

-- nothing happens
pub goes_not : {afar : Afar} {above : List Record} {us : List Sensed} {ga gb : Ghost} {body : Machine} {c : Scene}
    → Good afar above us ga gb body c → Goes afar above us ga gb c body c
goes_not {ga = ga} {gb = gb} g = record { a = ga; b = gb; good = g; lists_above = λ kept i q boards h. h; lists_below = λ o p kept boards h. h; still_first = λ n. n; still_over = λ n. n }

-- one change, and then another
pub goes_both : {afar : Afar} {above : List Record} {us : List Sensed} {ga gb : Ghost} {c d e : Scene} {one two : Machine}
    → (g : Goes afar above us ga gb c one d) → Goes afar above us g.a g.b d two e → Goes afar above us ga gb c two e
goes_both g t = record {
  a = t.a;
  b = t.b;
  good = t.good;
  lists_above = λ kept i q boards h. t.lists_above kept i q boards (g.lists_above kept i q boards h);
  lists_below = λ o p kept boards h. t.lists_below o p kept boards (g.lists_below o p kept boards h);
  still_first = λ n. t.still_first (g.still_first n);
  still_over = λ n. t.still_over (g.still_over n);
}

pub goes_on : {afar : Afar} {above : List Record} {us : List Sensed} {ga gb : Ghost} {c d e : Scene} {one two : Machine}
    → Goes afar above us ga gb c one d → ((a b : Ghost) → Good afar above us a b one d → Goes afar above us a b d two e)
    → Goes afar above us ga gb c two e
goes_on g next = goes_both g (next g.a g.b g.good)

pub goes_then : {afar : Afar} {above : List Record} {us : List Sensed} {ga gb : Ghost} {c : Scene} (d : Done) (next : Machine → Done)
    → GoesBy afar above us ga gb c d → ((a b : Ghost) → Good afar above us a b d.body (all_met d.acts c) → GoesBy afar above us a b (all_met d.acts c) (next d.body))
    → GoesBy afar above us ga gb c (and_then d next)
goes_then {afar = afar} {above = above} {us = us} {ga = ga} {gb = gb} {c = c} d next g h =
    subst (λ s. Goes afar above us ga gb c (next d.body).body s) (sym (met_append d.acts (next d.body).acts c)) (goes_on g h)

-- these acts first, after which the scene is this one
pub goes_behind : {afar : Afar} {above : List Record} {us : List Sensed} {ga gb : Ghost} {c : Scene} (acts : List Act) (d : Done)
    → Goes afar above us ga gb c d.body (all_met d.acts (all_met acts c)) → GoesBy afar above us ga gb c (behind acts d)
goes_behind {afar = afar} {above = above} {us = us} {ga = ga} {gb = gb} {c = c} acts d g =
    subst (λ s. Goes afar above us ga gb c d.body s) (sym (met_append acts d.acts c)) g

-- the lists of another scene with the same halves beyond
pub goes_since : {afar : Afar} {above : List Record} {us : List Sensed} {ga gb : Ghost} {c d e : Scene} {after : Machine} → d.above.outlet ≡ c.above.outlet → d.below.intake ≡ c.below.intake
    → Goes afar above us ga gb d after e → Goes afar above us ga gb c after e
goes_since {ga = ga} {gb = gb} {e = e} outlet intake t = record {
  a = t.a;
  b = t.b;
  good = t.good;
  lists_above = subst (λ (o : OutState). ListsAbove o.phase ga e.above.outlet.phase t.a) outlet t.lists_above;
  lists_below = subst (λ (i : InState). ListsBelow i.phase gb e.below.intake.phase t.b) intake t.lists_below;
  still_first = t.still_first;
  still_over = t.still_over;
}
