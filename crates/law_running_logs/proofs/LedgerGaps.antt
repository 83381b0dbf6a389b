-- A deed at a machine's entry is done at a gap: machine 1 has none before it, and its intake nothing.
use Rattle.std.proofs.Common.{List, None, Option, [], ap, append-nil, arith, inl, inr, map, refl, subst, sym, true, ℕ, ℤ, ◌++◌, ◌-◌, ◌∙◌, ◌∷◌, ◌≡◌, ◌≢◌, ◌≤◌}
use Rattle.std.specs.List.{AllByRecursion}
use Rattle.std.proofs.lemmas.Bool.{and_from, and_parts}
use Rattle.std.proofs.lemmas.Option.{none-some}
use Rattle.board_record.specs.declared.record.Record.{Record}
use Rattle.handover_in.specs.State.{board_of_phase as held_in}
use Rattle.line_report.specs.declared.happening.Happening.TheVariants as happenings
use Rattle.node_core.specs.Node.{NodeState}
use Rattle.node_core.specs.Own.{Own, id_of, own_of}
use Rattle.node_core.specs.declared.act.Act.{Act}
use Rattle.node_core.specs.declared.act.Act.TheVariants as acts
use Rattle.node_core.specs.declared.act.Deed.TheVariants as own_deeds
use Rattle.node_core.specs.declared.input.Input.{Input}
use Rattle.standings.specs.declared.deed.Deed.{Deed}
use Rattle.line_step.proofs.Numbers.{machine_within, same_or_not}
use Rattle.law_one_standing.specs.Carried.{Trace}
use Rattle.law_one_standing.specs.Replay.{deeds_at as deeds_of_act, deeds_of}
use Rattle.law_one_standing.proofs.LedgerSteps.{IsMadeNow, deeds_by, silent_behind}
use Rattle.law_one_standing.proofs.LedgerWalk.{Announces, Did, Hand, Walk, are_silent, did, hand_gets, hand_gives, hand_inserts, hand_removes, hand_replaces, hand_walks, is_silent, says_last, says_more, says_start, walk_drops, walk_end, walk_leaves, walk_loses, walk_on, walk_opens, walk_returns, walk_settles}
use Rattle.law_running_line.specs.Reading.{Reading}
use Rattle.law_running_line.specs.Running.{Running}
use Rattle.law_running_line.specs.Stands.{AreInRelation, IsMade, Stands, line_of, node_in}
use Rattle.law_running_line.specs.Turns.{Turns}
use Rattle.law_running_line.proofs.TurnShape.{next_there, own_node}
use Rattle.law_running_logs.specs.Told.{IsAtGap}
use Rattle.law_running_logs.proofs.LedgerTurn.{input_new, plain_of, step_deeds, step_own, told_deeds}

-- ---- acts

abbrev AtGap : ℕ → Act → Type 0
AtGap machine act = AllByRecursion IsAtGap (deeds_of_act machine act)

abbrev AtGaps : ℕ → List Act → Type 0
AtGaps machine told = AllByRecursion (AtGap machine) told

gaps_both : (machine : ℕ) (a b : List Act) → AtGaps machine a → AtGaps machine b → AtGaps machine (a ++ b)
gaps_both machine [] b one two = two
gaps_both machine (act ∷ a) b one two = (one.0, gaps_both machine a b one.1 two)

all_both : (xs ys : List Deed) → AllByRecursion IsAtGap xs → AllByRecursion IsAtGap ys → AllByRecursion IsAtGap (xs ++ ys)
all_both [] ys one two = two
all_both (x ∷ xs) ys one two = (one.0, all_both xs ys one.1 two)

-- and so their deeds
deeds_gaps : (machine : ℕ) (told : List Act) → AtGaps machine told → AllByRecursion IsAtGap (deeds_by machine told)
deeds_gaps machine [] gaps = tt
deeds_gaps machine (act ∷ told) gaps = all_both (deeds_of_act machine act) (deeds_by machine told) gaps.0 (deeds_gaps machine told gaps.1)

-- an act that moves no record is no deed
silent_gap : (machine : ℕ) (act : Act) → is_silent act ≡ true → AtGap machine act
silent_gap machine act silent =
    let none : deeds_of_act machine act ≡ [] = sym (append-nil (deeds_of_act machine act)) ∙ silent_behind machine [] (act ∷ []) (and_from (is_silent act) true silent refl) in
    subst (λ (ds : List Deed). AllByRecursion IsAtGap ds) (sym none) tt

silent_gaps : (machine : ℕ) (told : List Act) → are_silent told ≡ true → AtGaps machine told
silent_gaps machine [] silent = tt
silent_gaps machine (act ∷ told) silent = (let parts = and_parts (is_silent act) (are_silent told) silent in (silent_gap machine act parts.0, silent_gaps machine told parts.1))

-- ---- the first machine: its intake has nothing, before and behind

record Walked (machine : ℕ) (told : List Act) (end : Own) : Type 0 where
  gaps : AtGaps machine told
  none : end.taking ≡ None

more_walked : {machine : ℕ} {act : Act} {told : List Act} {end : Own} → AtGap machine act → Walked machine told end → Walked machine (act ∷ told) end
more_walked gap later = record { gaps = (gap, later.gaps); none = later.none }

walk_gaps : {own end : Own} {told : List Act} (machine : ℕ) → Walk own told end → own.taking ≡ None → Walked machine told end
walk_gaps machine walk_end none = record { gaps = tt; none = none }
walk_gaps machine (walk_on {act = act} silent walk) none = more_walked (silent_gap machine act silent) (walk_gaps machine walk none)
walk_gaps machine (walk_opens walk) none = more_walked (tt, tt) (walk_gaps machine walk none)
walk_gaps machine (walk_returns walk) none = more_walked (tt, tt) (walk_gaps machine walk none)
walk_gaps machine (walk_leaves walk) none = more_walked (tt, tt) (walk_gaps machine walk none)
walk_gaps machine (walk_loses walk) none = more_walked (tt, tt) (walk_gaps machine walk none)
walk_gaps machine (walk_settles {id = id} walk) none = absurd (none-some id (sym none))
walk_gaps machine (walk_drops {id = id} walk) none = absurd (none-some id (sym none))

hand_gaps : {New : ℕ → Type 0} {own end : Own} {told : List Act} (machine : ℕ) → Hand New own told end → own.taking ≡ None → Walked machine told end
hand_gaps machine (hand_walks walk) none = walk_gaps machine walk none
hand_gaps machine (hand_inserts new) none = record { gaps = ((tt, tt), tt); none = none }
hand_gaps machine (hand_removes has) none = record { gaps = ((tt, tt), tt); none = none }
hand_gaps machine (hand_gives has) none = record { gaps = ((tt, tt), tt); none = none }
hand_gaps machine hand_gets none = record { gaps = ((tt, tt), tt); none = none }
hand_gaps machine (hand_replaces has new) none = record { gaps = ((tt, tt), tt); none = none }

says_gaps : {own end : Own} {told : List Act} (machine : ℕ) → Announces own told end → end.taking ≡ None → AtGaps machine told
says_gaps machine (says_more told others silent says) none = gaps_both machine told others (silent_gaps machine told silent) (says_gaps machine says none)
says_gaps machine (says_last {told = told} silent) none = silent_gaps machine told silent
says_gaps machine (says_start {id = id} silent) none = absurd (none-some id (sym none))

did_gaps : {New : ℕ → Type 0} {own end : Own} {told : List Act} (machine : ℕ) → Did New own told end → own.taking ≡ None → end.taking ≡ None → AtGaps machine told
did_gaps machine (did read met told walk hand says) before behind =
    let one = walk_gaps machine walk before in
    let two = hand_gaps machine hand one.none in
    gaps_both machine read (met ++ told) one.gaps (gaps_both machine met told two.gaps (says_gaps machine says behind))

taking_none : (t : Trace) (s : Running) → Stands t s → (own_of (node_in s 1).lane.body).taking ≡ None
taking_none t s st = ap (λ (h : Option Record). id_of h) (ap held_in (st.rest 0 refl).intake)

-- ---- all others

less : (machine : ℕ) → 1 ≤ machine → machine ≢ 1 → 1 ≤ machine - 1
less machine some apart = omega arith

far_gap : (machine : ℕ) (act : Act) → 1 ≤ machine - 1 → AtGap machine act
far_gap machine (acts.Deed (own_deeds.Opens id)) far = (tt, tt)
far_gap machine (acts.Deed (own_deeds.Leaves id)) far = (tt, tt)
far_gap machine (acts.Deed (own_deeds.Returns id)) far = (tt, tt)
far_gap machine (acts.Deed (own_deeds.Loses id)) far = (tt, tt)
far_gap machine (acts.Deed (own_deeds.Starts id)) far = (far, tt)
far_gap machine (acts.Deed (own_deeds.Settles id)) far = (far, tt)
far_gap machine (acts.Deed (own_deeds.Drops id)) far = (far, tt)
far_gap machine (acts.Inserts id) far = (tt, tt)
far_gap machine (acts.Removes id) far = (tt, tt)
far_gap machine (acts.Replaces old new) far = (tt, tt)
far_gap machine (acts.Gives id to) far = (tt, tt)
far_gap machine (acts.Gets id) far = (tt, tt)
far_gap machine _ far = tt

far_gaps : (machine : ℕ) (told : List Act) → 1 ≤ machine - 1 → AtGaps machine told
far_gaps machine [] far = tt
far_gaps machine (act ∷ told) far = (far_gap machine act far, far_gaps machine told far)

-- ---- THE TURN

first_gaps : {reading : Reading} {machine : ℕ} {input : Input} {moment : ℤ} {before after : Running} {told : List Act} (turn : Turns reading machine input moment before after told) → AreInRelation before → AreInRelation after → machine ≡ 1 → AtGaps machine (plain_of turn)
first_gaps {machine = machine} {input = input} {before = before} {after = after} turn was now is =
    let one : (own_of turn.node.lane.body).taking ≡ None =
    subst (λ (n : NodeState). (own_of n.lane.body).taking ≡ None) (ap (node_in before) (sym is) ∙ own_node turn) (taking_none was.trace before was.stands) in
    let two : (own_of turn.next.lane.body).taking ≡ None =
    subst (λ (n : NodeState). (own_of n.lane.body).taking ≡ None) (ap (node_in after) (sym is) ∙ next_there turn) (taking_none now.trace after now.stands) in
    did_gaps machine (step_own {New = IsMadeNow (IsMade before) (IsMade after)} turn (input_new input turn was.stands)) one two

plain_gaps : {reading : Reading} {machine : ℕ} {input : Input} {moment : ℤ} {before after : Running} {told : List Act} (turn : Turns reading machine input moment before after told) → AreInRelation before → AreInRelation after → AtGaps machine (plain_of turn)
plain_gaps {machine = machine} {before = before} turn was now =
    elim (same_or_not machine 1) [
      | inl is ↦ first_gaps turn was now is
      | inr apart ↦ far_gaps machine (plain_of turn) (less machine (machine_within machine (line_of before) turn.node turn.there).0 apart)
    ]

pub turn_gaps : {reading : Reading} {machine : ℕ} {input : Input} {moment : ℤ} {before after : Running} {told : List Act} → Turns reading machine input moment before after told → AreInRelation before → AreInRelation after → AllByRecursion IsAtGap (deeds_of (map (happenings.Done machine) told))
turn_gaps {machine = machine} {told = told} turn was now =
    subst (λ (ds : List Deed). AllByRecursion IsAtGap ds) (sym (told_deeds machine told ∙ step_deeds turn)) (deeds_gaps machine (plain_of turn) (plain_gaps turn was now))
