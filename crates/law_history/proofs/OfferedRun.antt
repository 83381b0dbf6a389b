-- Along a run: what each outlet holds was offered before its opening, and so what settles is as it was offered.
use Rattle.std.proofs.Common.{Bool, List, None, Option, Some, [], ap, arith, eq-eqb, eqb-true, false, refl, suc, subst, sym, take, true, zero, ℕ, ◌&&◌, ◌++◌, ◌+◌, ◌==◌, ◌||◌, ◌∙◌, ◌∷◌, ◌≡◌, ◌≤◌}
use Rattle.std.specs.Prelude.{if◌then◌else◌}
use Rattle.std.specs.List.{list_any}
use Rattle.law_custody.proofs.AnnounceEntry.{same_board}
use Rattle.law_one_standing.proofs.HandSteps.{own_gone}
use mathlib.Core.Bool.{or-false}
use Rattle.board_record.specs.declared.record.Record.{Record}
use Rattle.handover_out.specs.State.{OutState, board_of_phase as held_out}
use Rattle.handover_out.specs.declared.phase.Phase.{Phase as Out}
use Rattle.handover_in.specs.State.{board_of_phase as held_in}
use Rattle.node_core.specs.Done.{Done}
use Rattle.node_core.specs.Event.{Event, Gives, Mark, Sub}
use Rattle.node_core.specs.Step.{plain_step}
use Rattle.node_core.specs.declared.act.Act.{Act}
use Rattle.node_core.specs.declared.act.Act.TheVariants as acts
use Rattle.node_core.specs.declared.act.Deed.TheVariants as deeds
use Rattle.node_core.specs.declared.lane.Body.{Body}
use Rattle.line_report.specs.declared.happening.Happening.{Happening}
use Rattle.line_report.specs.declared.happening.Happening.TheVariants as happenings
use Rattle.law_custody.specs.Contents.{IsRecent, Kept, kept_first}
use Rattle.law_machine_custody.proofs.Keeping.{kept_lies}
use Rattle.line_step.specs.FloorIds.{boards_of}
use Rattle.line_step.specs.Lines.{LineSteps}
use Rattle.line_step.specs.Tracks.{TrackLine, TrackSteps, asked_on}
use Rattle.line_step.specs.Numbered.{node_at}
use Rattle.line_step.specs.Runs.{IsRun, Point}
use Rattle.line_step.specs.State.{LineState, no_line}
use Rattle.line_step.specs.Steps.{unread_by}
use Rattle.line_step.specs.Requests.{Request}
use Rattle.line_step.proofs.FloorLaws.{Goes, track-goes}
use Rattle.law_one_standing.specs.Carried.{Trace, between_of, stand_of}
use Rattle.law_one_standing.specs.Mirrors.{scene_at}
use Rattle.law_one_standing.specs.Places.{LiesAt, at_machine, lies_at}
use Rattle.law_one_standing.specs.Relation.{Owns}
use Rattle.law_one_standing.specs.Stands.{Stands}
use Rattle.law_one_standing.specs.Told.{IsTold, told_first as told_now, told_later as told_then}
use Rattle.law_one_standing.proofs.ApartFloor.{counted, lies_on_floor}
use Rattle.law_one_standing.proofs.ApartStep.{AreNews, LayOn, PartedThen, apart_removed, apart_replaced, gone_count, grown}
use Rattle.law_one_standing.proofs.Carrying.{SaysAlone}
use Rattle.law_one_standing.proofs.LineForms.{ConnectsBear}
use Rattle.law_one_standing.proofs.LineRun.{AreStoodBy, Stood, StoodBy, none_stood, run_by}
use Rattle.law_one_standing.proofs.Comings.{track_news}
use Rattle.line_step.specs.Homes.{AreNewcomers}
use Rattle.law_history.specs.LetGo.{IsWhatLeft, KeepsWhatLeft, held_above, is_leaving, let_go, settles_at}
use Rattle.law_history.specs.Offered.{IsAsOffered, IsLast, KeepsAsOffered, Offering, WhatSettlesWasOffered, is_hand, is_hand_at, none_offered, offered_gone, offers_act, offers_happening, offers_told, tells_hand}
use Rattle.law_history.proofs.Courses.{Acted, Befalls, Course, IsByHand, by_hand, line_course, plainly, track_course}
use Rattle.law_history.proofs.LetGoRun.{what_settles_left}
use Rattle.law_history.proofs.Offering.{AsOffered, are_hand, hand_append, offers_acts, offers_append, says_ended, says_idle, says_moving, says_offered, says_stuck, settles_act, settles_acts, settles_append}
use Rattle.law_history.proofs.OfferingStep.{IsNoHand}
use Rattle.law_history.proofs.OfferingWhole.{HasAct, IsAmong, IsMarkable, StepSettles, TakesOut, among_first, among_later, offers_lost, offers_so, step_hands, step_offers, step_settles, takes_instead, takes_out, told_first, told_later, IsAsOf}
use Rattle.law_history.proofs.View.{done_act, done_append, done_by, has_stepped, is_still, told_of_act, undriven}

-- ---- what is told of a machine is read off its acts

undriven_act : (act : Act) (o : Offering) → offers_acts (told_of_act act) o ≡ offers_act act o
undriven_act (acts.Drive side on) o = refl
undriven_act act o = refl

offers_happening_is : (m : ℕ) (h : Happening) (o : Offering) → offers_happening m h o ≡ offers_acts (done_act m h) o
offers_happening_is m (happenings.Done machine act) o = by (machine == m) where
  by : (test : Bool) → (if test then offers_act act o else o) ≡ offers_acts (if test then told_of_act act else []) o
  by true = sym (undriven_act act o)
  by false = refl
offers_happening_is m _ o = refl

offers_told_is : (m : ℕ) (told : List Happening) (o : Offering) → offers_told m told o ≡ offers_acts (done_by m told) o
offers_told_is m [] o = refl
offers_told_is m (h ∷ told) o =
    offers_told_is m told (offers_happening m h o) ∙ (ap (λ (x : Offering). offers_acts (done_by m told) x) (offers_happening_is m h o) ∙ sym (offers_append (done_act m h) (done_by m told) o))

undriven_offers : (told : List Act) (o : Offering) → offers_acts (undriven told) o ≡ offers_acts told o
undriven_offers [] o = refl
undriven_offers (act ∷ told) o =
    offers_append (told_of_act act) (undriven told) o ∙ (undriven_offers told (offers_acts (told_of_act act) o) ∙ ap (λ (x : Offering). offers_acts told x) (undriven_act act o))

hand_act : (act : Act) → are_hand (told_of_act act) ≡ is_hand act
hand_act (acts.Drive side on) = refl
hand_act (acts.Signals signal on) = refl
hand_act (acts.Tells message) = refl
hand_act act = or-false (is_hand act)

hand_happening : (m : ℕ) (h : Happening) → is_hand_at m h ≡ are_hand (done_act m h)
hand_happening m (happenings.Done machine act) = by (machine == m) where
  by : (test : Bool) → (test && is_hand act) ≡ are_hand (if test then told_of_act act else [])
  by true = sym (hand_act act)
  by false = refl
hand_happening m _ = refl

hand_told : (m : ℕ) (told : List Happening) → tells_hand m told ≡ are_hand (done_by m told)
hand_told m [] = refl
hand_told m (h ∷ told) =
    ap (λ (b : Bool). b || tells_hand m told) (hand_happening m h) ∙ (ap (λ (b : Bool). are_hand (done_act m h) || b) (hand_told m told) ∙ sym (hand_append (done_act m h) (done_by m told)))

undriven_hand : (told : List Act) → are_hand (undriven told) ≡ are_hand told
undriven_hand [] = refl
undriven_hand (act ∷ told) = hand_append (told_of_act act) (undriven told) ∙ (ap (λ (b : Bool). b || are_hand (undriven told)) (hand_act act) ∙ ap (λ (b : Bool). is_hand act || b) (undriven_hand told))

settle_one : (act : Act) (ids : List ℕ) → settles_acts (told_of_act act) ids ≡ settles_act act ids
settle_one (acts.Drive side on) ids = refl
settle_one act ids = refl

undriven_settles : (told : List Act) (ids : List ℕ) → settles_acts (undriven told) ids ≡ settles_acts told ids
undriven_settles [] ids = refl
undriven_settles (act ∷ told) ids =
    settles_append (told_of_act act) (undriven told) ids ∙ (undriven_settles told (settles_acts (told_of_act act) ids) ∙ ap (λ (x : List ℕ). settles_acts told x) (settle_one act ids))

-- a board that was told to settle is among those that did
still_act : {id : ℕ} (act : Act) (ids : List ℕ) → IsAmong id ids → IsAmong id (settles_act act ids)
still_act (acts.Deed (deeds.Settles other)) ids is = among_later is
still_act _ ids is = is

pub still_among : {id : ℕ} (told : List Act) (ids : List ℕ) → IsAmong id ids → IsAmong id (settles_acts told ids)
still_among [] ids is = is
still_among (act ∷ told) ids is = still_among told (settles_act act ids) (still_act act ids is)

own_settles : (machine id : ℕ) → done_act machine (happenings.Done machine (acts.Deed (deeds.Settles id))) ≡ acts.Deed (deeds.Settles id) ∷ []
own_settles machine id = rw (eq-eqb machine machine refl) refl

among_told : (machine id : ℕ) (earlier later : List Happening) → IsAmong id (settles_acts (done_by machine (earlier ++ happenings.Done machine (acts.Deed (deeds.Settles id)) ∷ later)) [])
among_told machine id earlier later =
    let front : List Act = done_by machine earlier in
    let rest : List Act = done_by machine later in
    let is : done_by machine (earlier ++ happenings.Done machine (acts.Deed (deeds.Settles id)) ∷ later) ≡ front ++ (acts.Deed (deeds.Settles id) ∷ rest) =
    done_append machine earlier (happenings.Done machine (acts.Deed (deeds.Settles id)) ∷ later) ∙ ap (λ (x : List Act). front ++ (x ++ rest)) (own_settles machine id) in
    subst (λ (x : List Act). IsAmong id (settles_acts x [])) (sym is)
    (subst (λ (x : List ℕ). IsAmong id x) (sym (settles_append front (acts.Deed (deeds.Settles id) ∷ rest) [])) (still_among rest (id ∷ settles_acts front []) among_first))

-- ---- a board that is taken out by hand is nowhere behind the line

undriven_takes : {x : ℕ} (told : List Act) → HasAct (TakesOut x) told → HasAct (TakesOut x) (undriven told)
undriven_takes [] has = elim has [ ]
undriven_takes (act ∷ told) (told_first takes_out) = told_first takes_out
undriven_takes (act ∷ told) (told_first takes_instead) = told_first takes_instead
undriven_takes (acts.Drive side on ∷ told) (told_later later) = undriven_takes told later
undriven_takes (acts.Signals signal on ∷ told) (told_later later) = undriven_takes told later
undriven_takes (acts.Tells message ∷ told) (told_later later) = undriven_takes told later
undriven_takes (act ∷ told) (told_later later) = more (told_of_act act) (undriven_takes told later) where
  more : {P : Act → Type 0} (a : List Act) {b : List Act} → HasAct P b → HasAct P (a ++ b)
  more [] is = is
  more (other ∷ a) is = told_later (more a is)

-- an act of a machine is told
record IsToldBy (machine x : ℕ) (told : List Happening) : Type 0 where
  act : Act
  takes : TakesOut x act
  told_is : IsTold (happenings.Done machine act) told

later_by : {machine x : ℕ} (h : Happening) {told : List Happening} → IsToldBy machine x told → IsToldBy machine x (h ∷ told)
later_by h t = record { act = t.act; takes = t.takes; told_is = told_then t.told_is }

-- an act that is looked at is told
looked_at : {P : Act → Type 0} (act : Act) (rest : List Act) → HasAct P (told_of_act act ++ rest) → HasAct P (act ∷ rest)
looked_at (acts.Drive side on) rest has = told_later has
looked_at (acts.Signals signal on) rest has = told_later has
looked_at (acts.Tells message) rest has = told_later has
looked_at act rest has = has

takes_told : {x : ℕ} (machine : ℕ) (told : List Happening) → HasAct (TakesOut x) (done_by machine told) → IsToldBy machine x told
takes_told machine [] has = elim has [ ]
takes_told {x = x} machine (happenings.Done other act ∷ told) has = by (other == machine) refl has (λ later. takes_told machine told later) where
  own : (other == machine) ≡ true → HasAct (TakesOut x) (act ∷ done_by machine told) → (HasAct (TakesOut x) (done_by machine told) → IsToldBy machine x told) → IsToldBy machine x (happenings.Done other act ∷ told)
  own same (told_first takes) more = record { act = act; takes = takes; told_is = subst (λ (m : ℕ). IsTold (happenings.Done machine act) (happenings.Done m act ∷ told)) (sym (eqb-true other machine same)) told_now }
  own same (told_later later) more = later_by (happenings.Done other act) (more later)

  by : (test : Bool) → (other == machine) ≡ test → HasAct (TakesOut x) ((if test then told_of_act act else []) ++ done_by machine told) → (HasAct (TakesOut x) (done_by machine told) → IsToldBy machine x told) → IsToldBy machine x (happenings.Done other act ∷ told)
  by true same has more = own same (looked_at act (done_by machine told) has) more
  by false same has more = later_by (happenings.Done other act) (more has)
takes_told machine (h ∷ told) has = later_by h (takes_told machine told has)

kept_there : (t : Trace) (s : LineState) (j x : ℕ) → Stands t s → Kept x (node_at s (j + 1)).lane.body.kept → LiesAt (stand_of s) (between_of t s) x (at_machine (j + 1))
kept_there t s j x st kept =
    let own : Owns (between_of t s j) (stand_of s (j + 1)) (between_of t s (j + 1)) = st.keeps.machines.at j in
    lies_at (kept_lies kept own.boards)

taken_by : (t t2 : Trace) (before after : LineState) (told : List Happening) (m x : ℕ) (act : Act) → Stands t before → Goes before after told → AreNews t before told → LiesAt (stand_of before) (between_of t before) x (at_machine m) → ((k y : ℕ) → t2.gone k y ≡ grown m x t.gone k y) → TakesOut x act → IsTold (happenings.Done m act) told → PartedThen (LayOn before) t t2 after
taken_by t t2 before after told m x _ st goes news lies more takes_out is =
    apart_removed t t2 before after told m x (at_machine m) st.ids goes news is lies more (record { apart = st.keeps.apart; olds = st.olds })
taken_by t t2 before after told m x _ st goes news lies more (takes_instead {now = now}) is =
    apart_replaced t t2 before after told m x now (at_machine m) st.ids goes news is lies more (record { apart = st.keeps.apart; olds = st.olds })

-- so the machine keeps none of its id
lost_not : {X : Type 0} (t t2 : Trace) (before after : LineState) (told : List Happening) (j x : ℕ) → Stands t before → Stands t2 after → Goes before after told → AreNews t before told → Kept x (node_at before (j + 1)).lane.body.kept → IsToldBy (j + 1) x told → Kept x (node_at after (j + 1)).lane.body.kept → X
lost_not t t2 before after told j x st st2 goes news was is now =
    let grows : Trace = record t { gone = grown (j + 1) x t.gone } in
    let parted : PartedThen (LayOn before) t grows after = taken_by t grows before after told (j + 1) x is.act st goes news (kept_there t before j x st was) (λ k y. refl) is.takes is.told_is in
    let none : counted x (boards_of after) ≡ 0 = gone_count grows after (j + 1) x (record { apart = parted.apart; olds = parted.olds }) (own_gone (j + 1) x t.gone) in
    let some : 1 ≤ counted x (boards_of after) = lies_on_floor t2 after x (at_machine (j + 1)) st2.ids.whole (kept_there t2 after j x st2 now) in
    absurd (omega (arith, none, some))

-- ---- a line

-- the outlet of each machine
abbrev AllOffered : LineState → (ℕ → Offering) → Type 0
AllOffered s o = (m : ℕ) → IsAsOf (node_at s m).lane.body (o m)

offered_kept : {phase : Out} {offered touched : Option ℕ} {kept : List Record} {o : Offering} (x : ℕ) → AsOffered phase offered touched kept o → offered ≡ Some x → Kept x kept
offered_kept x (says_offered {board = board} {boards = boards} is) same = (let named : board.id ≡ x = cc in subst (λ (n : ℕ). Kept n (board ∷ boards)) named kept_first)
offered_kept x says_idle same = absurd (let no : ◌≡◌ {A = Option ℕ} None (Some x) = same in cc)
offered_kept x (says_moving is) same = absurd (let no : ◌≡◌ {A = Option ℕ} None (Some x) = same in cc)
offered_kept x (says_stuck is) same = absurd (let no : ◌≡◌ {A = Option ℕ} None (Some x) = same in cc)
offered_kept x says_ended same = absurd (let no : ◌≡◌ {A = Option ℕ} None (Some x) = same in cc)

plain_markable : (event : Event) (outlet : OutState) → IsNoHand event → IsMarkable event outlet
plain_markable (Mark id quality) outlet plain = absurd plain
plain_markable (Sub id sub) outlet plain = absurd plain
plain_markable (Gives id to) outlet plain = absurd plain
plain_markable _ outlet plain = tt

markable : {m : ℕ} {request : Request} {last : Option ℕ} {outlet : OutState} {event : Event} → Befalls m request last outlet event → IsRecent last outlet → IsMarkable event outlet
markable {outlet = outlet} {event = event} (plainly plain) recent = plain_markable event outlet plain
markable (by_hand here free) recent = free recent

recent_at : (t : Trace) (s : LineState) (j : ℕ) → Stands t s → IsRecent (node_at s (j + 1)).lane.body.last_offer (node_at s (j + 1)).lane.body.outlet
recent_at t s j st =
    let own : Owns (between_of t s j) (stand_of s (j + 1)) (between_of t s (j + 1)) = st.keeps.machines.at j in
    own.recent

acted_offers : (t t2 : Trace) (j : ℕ) (request : Request) (before after : LineState) (told : List Happening) (o : Offering) → Stands t before → Stands t2 after → Goes before after told → AreNews t before told → IsAsOf (node_at before (j + 1)).lane.body o → Acted j request before after told → IsAsOf (node_at after (j + 1)).lane.body (offers_told (j + 1) told o)
acted_offers t t2 j request before after told o st st2 goes news h a =
    let d : Done = plain_step a.desk (unread_by (j + 1) before.world) a.event (node_at before (j + 1)).lane.body in
    let told_is : offers_told (j + 1) told o ≡ offers_acts d.acts o = offers_told_is (j + 1) told o ∙ (ap (λ (x : List Act). offers_acts x o) a.acts ∙ undriven_offers d.acts o) in
    elim (step_offers a.desk (unread_by (j + 1) before.world) a.event (node_at before (j + 1)).lane.body (scene_at t before j) o (markable a.known (recent_at t before j st)) h) [
      | offers_so so ↦ subst (λ (b : Body). IsAsOf b (offers_told (j + 1) told o)) (sym a.body) (subst (λ (x : Offering). IsAsOf d.body x) (sym told_is) so)
      | offers_lost x offered takes kept ↦
          lost_not t t2 before after told j x st st2 goes news (offered_kept x h offered) (takes_told (j + 1) told (subst (λ (xs : List Act). HasAct (TakesOut x) xs) (sym a.acts) (undriven_takes d.acts takes)))
          (subst (λ (b : Body). Kept x b.kept) (sym a.body) kept)
    ]

course_offers : (t t2 : Trace) (j : ℕ) (request : Request) (before after : LineState) (told : List Happening) (o : Offering) → Stands t before → Stands t2 after → Goes before after told → AreNews t before told → IsAsOf (node_at before (j + 1)).lane.body o → Course j request before after told → IsAsOf (node_at after (j + 1)).lane.body (offers_told (j + 1) told o)
course_offers t t2 j request before after told o st st2 goes news h (has_stepped a) = acted_offers t t2 j request before after told o st st2 goes news h a
course_offers t t2 j request before after told o st st2 goes news h (is_still same none) =
    let told_is : offers_told (j + 1) told o ≡ o = offers_told_is (j + 1) told o ∙ ap (λ (x : List Act). offers_acts x o) none in
    subst (λ (b : Body). IsAsOf b (offers_told (j + 1) told o)) (sym same) (subst (λ (x : Offering). IsAsOf (node_at before (j + 1)).lane.body x) (sym told_is) h)

line_offers : (number : ℕ) (line : TrackLine) (before after : LineState) (told : List Happening) (o : ℕ → Offering) → (was : Stood before) → Stood after → AreNews was.trace before told → TrackSteps number line before after told → AllOffered before o → AllOffered after (λ (m : ℕ). offers_told m told (o m))
line_offers number line before after told o was now news steps all zero = says_idle
line_offers number line before after told o was now news steps all (suc j) =
    let same : j + 1 ≡ suc j = omega arith in
    subst (λ (m : ℕ). IsAsOf (node_at before m).lane.body (o m) → IsAsOf (node_at after m).lane.body (offers_told m told (o m))) same
    (λ h. course_offers was.trace now.trace j (asked_on line) before after told (o (j + 1)) was.stands now.stands (track-goes number line before after told was.stands.ids steps) news h (track_course number line before after told steps j)) (all (suc j))

-- ---- what was let go was offered

held_opened : {phase : Out} {offered touched : Option ℕ} {kept : List Record} {o : Offering} (b : Record) → AsOffered phase offered touched kept o → held_out phase ≡ Some b → o.opened ≡ Some b
held_opened b (says_moving is) held = is ∙ held
held_opened b (says_stuck is) held = is ∙ held
held_opened b says_idle held = absurd (let no : ◌≡◌ {A = Option Record} None (Some b) = held in cc)
held_opened b (says_offered is) held = absurd (let no : ◌≡◌ {A = Option Record} None (Some b) = held in cc)
held_opened b says_ended held = absurd (let no : ◌≡◌ {A = Option Record} None (Some b) = held in cc)

abbrev GoneIsOffered : Option Record → Option Record → Type 0
GoneIsOffered last off = (b : Record) → last ≡ Some b → off ≡ Some b

line_gone : (gap : ℕ) (last off : Option Record) (o : Offering) (before : LineState) (told : List Happening) (test : Bool) → list_any (is_leaving gap) told ≡ test → IsAsOf (node_at before gap).lane.body o → GoneIsOffered last off
    → GoneIsOffered (if test then held_above before gap else last) (if test then o.opened else off)
line_gone gap last off o before told true is h so b found = held_opened b h found
line_gone gap last off o before told false is h so b found = so b found

-- ---- what settles is kept

acted_kept : (j id : ℕ) (request : Request) (before after : LineState) (told : List Happening) (o : Offering) (board : Record) → IsAsOf (node_at before (j + 1)).lane.body o → held_in (node_at before (j + 1)).lane.body.intake.phase ≡ Some board
    → IsAmong id (settles_acts (done_by (j + 1) told) []) → tells_hand (j + 1) told ≡ false → Course j request before after told → IsLast board (node_at after (j + 1)).lane.body.kept
acted_kept j id request before after told o board h taken among none (is_still same nothing) = elim (subst (λ (x : List Act). IsAmong id (settles_acts x [])) nothing among) [ ]
acted_kept j id request before after told o board h taken among none (has_stepped a) =
    let d : Done = plain_step a.desk (unread_by (j + 1) before.world) a.event (node_at before (j + 1)).lane.body in
    let hands : are_hand d.acts ≡ false = sym (undriven_hand d.acts) ∙ (ap are_hand (sym a.acts) ∙ (sym (hand_told (j + 1) told) ∙ none)) in
    let found : IsAmong id (settles_acts d.acts []) = subst (λ (x : List ℕ). IsAmong id x) (ap (λ (x : List Act). settles_acts x []) a.acts ∙ undriven_settles d.acts []) among in
    let settles : StepSettles id (node_at before (j + 1)).lane.body d = step_settles a.desk (unread_by (j + 1) before.world) a.event (node_at before (j + 1)).lane.body o id h hands found in
    let same : settles.board ≡ board = same_board (sym settles.held ∙ taken) in
    subst (λ (b : Body). IsLast board b.kept) (sym a.body) (subst (λ (r : Record). IsLast r d.body.kept) same settles.kept)

line_arrives : (gap number id : ℕ) (line : TrackLine) (last off : Option Record) (o : ℕ → Offering) (before : LineState) (point : Point) (earlier later : List Happening) → AllOffered before o → TrackSteps number line before point.after point.told → GoneIsOffered last off → IsWhatLeft gap id last before → point.told ≡ earlier ++ settles_at gap id ∷ later
    → IsAsOffered gap id off before point
line_arrives gap number id line last off o before point earlier later all steps gone left is = record {
  board = left.board;
  named = left.named;
  taken = left.taken;
  offered = gone left.board left.left;
  kept = λ none. acted_kept gap id (asked_on line) before point.after point.told (o (gap + 1)) left.board (all (gap + 1)) left.taken
      (subst (λ (told : List Happening). IsAmong id (settles_acts (done_by (gap + 1) told) [])) (sym is) (among_told (gap + 1) id earlier later)) none (track_course number line before point.after point.told steps gap);
}

none_all_offered : (m : ℕ) → IsAsOf (node_at no_line m).lane.body none_offered
none_all_offered zero = says_idle
none_all_offered (suc place) = says_idle

-- ---- for those above: what is offered at all machines of a state, by some look back

pub record AreOffered (s : LineState) : Type 0 where
  pub said : ℕ → Offering
  pub all : (m : ℕ) → AsOffered (node_at s m).lane.body.outlet.phase (node_at s m).lane.body.outlet.offered (node_at s m).lane.body.outlet.touched (node_at s m).lane.body.kept (said m)

pub none_are_offered : AreOffered no_line
none_are_offered = record { said = λ m. none_offered; all = none_all_offered }

pub line_are_offered : (number : ℕ) (line : TrackLine) (before after : LineState) (told : List Happening) → (was : Stood before) → Stood after → AreNews was.trace before told → TrackSteps number line before after told → AreOffered before → AreOffered after
line_are_offered number line before after told was now news steps o = record { said = λ m. offers_told m told (o.said m); all = line_offers number line before after told o.said was now news steps o.all }

-- a board that settles at a machine in a line which isn't of a hand at it
pub line_keeps_last : (number j id : ℕ) (request : Request) (before after : LineState) (told : List Happening) → AreOffered before → LineSteps number request before after told → (IsByHand (j + 1) request → ⊥) → IsAmong id (settles_acts (done_by (j + 1) told) [])
    → (r : Record) × (r.id ≡ id) × (held_in (node_at before (j + 1)).lane.body.intake.phase ≡ Some r) × IsLast r (node_at after (j + 1)).lane.body.kept
line_keeps_last number j id request before after told o steps no_hand among = by (line_course number request before after told steps j) where
  by : Course j request before after told → (r : Record) × (r.id ≡ id) × (held_in (node_at before (j + 1)).lane.body.intake.phase ≡ Some r) × IsLast r (node_at after (j + 1)).lane.body.kept
  by (is_still same nothing) = elim (subst (λ (x : List Act). IsAmong id (settles_acts x [])) nothing among) [ ]
  by (has_stepped a) =
      let d : Done = plain_step a.desk (unread_by (j + 1) before.world) a.event (node_at before (j + 1)).lane.body in
      let plain : IsNoHand a.event = elim a.known [ plainly p ↦ p | by_hand here free ↦ absurd (no_hand here) ] in
      let found : IsAmong id (settles_acts d.acts []) = subst (λ (x : List ℕ). IsAmong id x) (ap (λ (x : List Act). settles_acts x []) a.acts ∙ undriven_settles d.acts []) among in
      let settles : StepSettles id (node_at before (j + 1)).lane.body d =
      step_settles a.desk (unread_by (j + 1) before.world) a.event (node_at before (j + 1)).lane.body (o.said (j + 1)) id (o.all (j + 1)) (step_hands a.desk (unread_by (j + 1) before.world) a.event (node_at before (j + 1)).lane.body plain) found in
      (settles.board, settles.named, settles.held, subst (λ (b : Body). IsLast settles.board b.kept) (sym a.body) settles.kept)

-- ---- along a run

run_arrives : (gap : ℕ) (last off : Option Record) (o : ℕ → Offering) (past : List Happening) (s : LineState) (asked : List TrackLine) (points : List Point) (n : ℕ) → StoodBy past s → IsRun s asked points → AreStoodBy past (take n points) → AreNewcomers past (take n asked) (take n points) → AllOffered s o → GoneIsOffered last off → KeepsWhatLeft gap last s (take n points)
    → KeepsAsOffered gap off (o gap) s (take n points)
run_arrives gap last off o past s asked points zero was run stood new all gone left = tt
run_arrives gap last off o past s [] [] (suc n) was run stood new all gone left = tt
run_arrives gap last off o past s [] (point ∷ points) (suc n) was run stood new all gone left = absurd run
run_arrives gap last off o past s (line ∷ asked) [] (suc n) was run stood new all gone left = absurd run
run_arrives gap last off o past s (line ∷ asked) (point ∷ points) (suc n) was run stood new all gone left =
    let now : ℕ → Offering = λ (m : ℕ). offers_told m point.told (o m) in (
      λ earlier later id is. line_arrives gap (s.lines + 1) id line last off o s point earlier later all run.0 gone (left.0 earlier later id is) is,
      run_arrives gap (let_go gap last s point.told) (offered_gone gap off (o gap) point.told) now (past ++ point.told) point.after asked points n stood.0 run.1 stood.1 new.1
          (line_offers (s.lines + 1) line s point.after point.told o was.stood stood.0.stood (track_news (s.lines + 1) past line s point.after point.told was new.0 run.0) run.0 all)
          (line_gone gap last off (o gap) s point.told (list_any (is_leaving gap) point.told) refl (all gap) gone) left.1,
    )

-- THE LAW
pub what_settles_was_offered : SaysAlone → ConnectsBear → WhatSettlesWasOffered
what_settles_was_offered alone connects asked points n gap fit few run honest =
    run_arrives gap None None (λ (m : ℕ). none_offered) [] no_line asked points n none_stood run (run_by alone connects [] no_line asked points n fit few none_stood run honest.told honest.newcomers) honest.newcomers none_all_offered
    (λ b found. absurd (let no : ◌≡◌ {A = Option Record} None (Some b) = found in cc)) (what_settles_left alone connects asked points n gap fit few run honest)
