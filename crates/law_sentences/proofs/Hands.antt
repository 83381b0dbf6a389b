-- Over the step of a machine: what it has of a board behind it is what it had before, or the same with another quality or a
-- circuit more, where the step tells that.
use Rattle.std.proofs.Common.{Bool, Err, List, Ok, Option, Result, Some, [], ap, arith, false, inl, inr, refl, subst, suc, sym, true, zero, ℕ, ◌+◌, ◌++◌, ◌-◌, ◌∙◌, ◌∷◌, ◌≡◌, ◌⊎◌}
use Rattle.std.specs.Prelude.{slice_get}
use Rattle.std.proofs.lemmas.Option.{none-some}
use Rattle.line_base.specs.declared.states.Quality.{Quality}
use Rattle.line_base.specs.declared.states.Quality.TheVariants as qualities
use Rattle.board_record.specs.Maker.{Maker, after_next, next_id}
use Rattle.board_record.specs.declared.maker.IdsUsedUp.{IdsUsedUp}
use Rattle.board_record.specs.declared.record.Record.{Record}
use Rattle.board_record.specs.SubBoards.{unknown_sub}
use Rattle.handover_out.specs.State.{OutState, held}
use Rattle.handover_out.specs.declared.phase.Phase.TheVariants as phases
use Rattle.handover_in.specs.State.{held as in_held}
use Rattle.standings.specs.Ledger.{are_different}
use Rattle.standings.specs.declared.mark.Mark.TheVariants as marks
use Rattle.smema_bridge.specs.Levels.{BridgeLevels}
use Rattle.line_link.specs.declared.link.Connected.{Connected}
use Rattle.line_link.specs.declared.link.Connected.TheVariants as connections
use Rattle.line_report.specs.declared.happening.Happening.{Happening}
use Rattle.line_report.specs.declared.happening.Happening.TheVariants as happenings
use Rattle.node_core.specs.Event.{Level, Event, Insert, Replace, event_of, maker_after, with_new}
use Rattle.smema_bridge.specs.declared.line.SegmentLine.{SegmentLine}
use Rattle.node_core.specs.Reads.{all_read}
use Rattle.node_core.specs.Node.{NodeState, desk_of}
use Rattle.node_core.specs.Own.{ids_of, own_of}
use Rattle.node_core.specs.Step.{machine_step}
use Rattle.node_core.specs.declared.act.Act.TheVariants as acts
use Rattle.node_core.specs.declared.input.Input.{Input}
use Rattle.node_core.specs.declared.input.Input.TheVariants as inputs
use Rattle.node_core.specs.declared.lane.Body.{Body}
use Rattle.node_core.proofs.KeptIds.{LeavesId}
use Rattle.node_core.specs.Bridge.{tells_level}
use Rattle.law_custody.specs.Contents.{Kept, kept_first, kept_later}
use Rattle.line_step.specs.Lines.{met as met_on}
use Rattle.line_step.specs.Numbered.{no_node, node_at}
use Rattle.line_step.specs.Homes.{IsNewcomer}
use Rattle.line_step.specs.Tracks.{own_line}
use Rattle.line_step.specs.Requests.{Request}
use Rattle.line_step.specs.Requests as requests
use Rattle.line_step.specs.State.{LineState, machine_in}
use Rattle.line_step.specs.Steps.{MachineSteps, moment_of, unread_by}
use Rattle.step_rules.specs.Makers.{IsOld}
use Rattle.step_rules.proofs.Makers.{AreNumbered}
use Rattle.line_step.proofs.Numbers.{machine_set_own}
use Rattle.law_one_standing.specs.Carried.{Trace, stand_of}
use Rattle.standings.specs.declared.mark.Mark.{Mark}
use Rattle.law_one_standing.proofs.LineRun.{StoodBy}
use Rattle.law_one_standing.proofs.Comings.{away_has_none}
use Rattle.law_sentences.specs.Records.{In, in_first, in_later}
use Rattle.law_one_standing.specs.Stands.{Stands}
use Rattle.law_one_standing.specs.Told.{IsTold}
use Rattle.law_one_standing.proofs.ApartHands.{body_then, fails_told, marks_told, subs_told}
use Rattle.law_one_standing.proofs.LedgerLine.{made_here}
use Rattle.law_one_standing.proofs.LedgerMarks.{differ_of, kept_alone, mark_old, in_own_gap}
use Rattle.law_one_standing.proofs.LedgerSteps.{kept_different}
use Rattle.law_one_standing.proofs.LedgerTurns.{different_first, different_rest}
use Rattle.law_one_standing.proofs.MarksOf.{HasMark, has_intake as has_intake_mark, has_outlet as has_outlet_mark, kept_id, has_kept as has_kept_mark}
use Rattle.law_one_standing.proofs.MarksPlace.{kept_unheld}
use Rattle.law_one_standing.proofs.OneStand.{has_end, same_link, by_numbers}
use Rattle.law_one_standing.proofs.RestLine.{node_there}
use Rattle.law_sentences.specs.Contents.{IsChangeOf, IsFailedFront, IsMarkOf, IsSubOf}
use Rattle.law_sentences.proofs.Pieces.{IsByHand, MarksFront, level_has, level_outlet, level_untouched, read_has, reads_rest, step_front, step_held, step_kept, Has, HasIn, IsChangedIn, has_held, has_kept, has_taking}

-- ---- a machine has one record of an id

pub in_kept : {q : Record} {x : ℕ} {rs : List Record} → In q rs → q.id ≡ x → Kept x rs
in_kept {x = x} (in_first {r = r} {others = others} is) same = subst (λ (y : ℕ). Kept y (r ∷ others)) (ap (λ (r : Record). r.id) (sym is) ∙ same) kept_first
in_kept (in_later i) same = kept_later (in_kept i same)

not_twice : (r q : Record) (rs : List Record) → are_different (r.id ∷ ids_of rs) ≡ true → In q rs → q.id ≡ r.id → ⊥
not_twice r q rs different i same =
    let h : true ≡ false = sym (kept_id (in_kept i same)) ∙ different_first r.id (ids_of rs) different in
    cc

one_kept : (q p : Record) (rs : List Record) → are_different (ids_of rs) ≡ true → In q rs → In p rs → q.id ≡ p.id → p ≡ q
one_kept q p [] different i j same = elim i [ ]
one_kept q p (r ∷ rs) different (in_first is) (in_first also) same = also ∙ sym is
one_kept q p (r ∷ rs) different (in_first is) (in_later j) same = absurd (not_twice r p rs different j (sym same ∙ ap (λ (r : Record). r.id) is))
one_kept q p (r ∷ rs) different (in_later i) (in_first also) same = absurd (not_twice r q rs different i (same ∙ ap (λ (r : Record). r.id) also))
one_kept q p (r ∷ rs) different (in_later i) (in_later j) same = one_kept q p rs (different_rest r.id (ids_of rs) different) i j same

-- where a record is, in equations
data Sits (body : Body) (q : Record) : Type 0 where
  sits_kept : In q body.kept → Sits body q
  sits_held : held body.outlet ≡ Some q → Sits body q
  sits_taking : in_held body.intake ≡ Some q → Sits body q

sits_by : {q : Record} {kept : List Record} {mine taking : Option Record} (P : Type 0) → (In q kept → P) → (mine ≡ Some q → P) → (taking ≡ Some q → P) → Has q kept mine taking → P
sits_by P k h t (has_kept i) = k i
sits_by P k h t has_held = h refl
sits_by P k h t has_taking = t refl

sits_of : (body : Body) (q : Record) → HasIn q body → Sits body q
sits_of body q h = sits_by (Sits body q) sits_kept sits_held sits_taking h

abbrev pub IsOneRecord : Body → Type 0
IsOneRecord body = (q p : Record) → HasIn q body → HasIn p body → q.id ≡ p.id → p ≡ q

one_some : {a : Option Record} {q p : Record} → a ≡ Some q → a ≡ Some p → p ≡ q
one_some is also = cc

one_record_at : {t : Trace} {s : LineState} (j : ℕ) → Stands t s → IsOneRecord (node_at s (j + 1)).lane.body
one_record_at {t} {s} j st = λ q p has also same. by q p (sits_of body q has) (sits_of body p also) same where
  body : Body
  body = (node_at s (j + 1)).lane.body

  both : {x : ℕ} {q p : Record} → held body.outlet ≡ Some q → q.id ≡ x → in_held body.intake ≡ Some p → p.id ≡ x → ⊥
  both {x} out one into two = in_own_gap j (same_link {x = x} {mark = marks.Outlet (j + 1)} {other = marks.Intake (j + 1)} (by_numbers st) (has_outlet_mark out one) (has_intake_mark into two))

  by : (q p : Record) → Sits body q → Sits body p → q.id ≡ p.id → p ≡ q
  by q p (sits_kept i) (sits_kept k) same = one_kept q p body.kept (kept_different (own_of body) (differ_of (j + 1) st)) i k same
  by q p (sits_kept i) (sits_held out) same = absurd (kept_unheld (j + 1) (j + 1) (has_end t s st) st.keeps (in_kept i same) out refl)
  by q p (sits_kept i) (sits_taking into) same = absurd (kept_alone j (by_numbers st) (in_kept i same) into refl)
  by q p (sits_held out) (sits_kept i) same = absurd (kept_unheld (j + 1) (j + 1) (has_end t s st) st.keeps (in_kept i (sym same)) out refl)
  by q p (sits_held out) (sits_held also) same = one_some out also
  by q p (sits_held out) (sits_taking into) same = absurd (both out same into refl)
  by q p (sits_taking into) (sits_kept i) same = absurd (kept_alone j (by_numbers st) (in_kept i (sym same)) into refl)
  by q p (sits_taking into) (sits_held out) same = absurd (both out (sym same) into refl)
  by q p (sits_taking into) (sits_taking also) same = one_some into also

-- beyond the ends of a line there is none
none_sits : {P : Type 0} (q : Record) → Sits no_node.lane.body q → P
none_sits q (sits_kept i) = elim i [ ]
none_sits q (sits_held out) = absurd (none-some q out)
none_sits q (sits_taking into) = absurd (none-some q into)

pub has_none : {P : Type 0} (q : Record) → HasIn q no_node.lane.body → P
has_none q has = none_sits q (sits_of no_node.lane.body q has)

pub one_record_of : {t : Trace} {s : LineState} (machine : ℕ) → Stands t s → IsOneRecord (node_at s machine).lane.body
one_record_of zero st = λ q p has also same. has_none q has
one_record_of {s = s} (suc j) st = let next : j + 1 ≡ suc j = omega arith in subst (λ (m : ℕ). IsOneRecord (node_at s m).lane.body) next (one_record_at j st)

-- ---- a machine before a line and behind it

pub record Whole (told : List Happening) (machine : ℕ) (was now : Body) : Type 0 where
  pub kept : (q p : Record) → HasIn q was → In p now.kept → q.id ≡ p.id → (p ≡ q) ⊎ IsChangeOf told machine q p
  pub out : (q p : Record) → HasIn q was → held now.outlet ≡ Some p → q.id ≡ p.id → p ≡ q

pub held_has : (body : Body) (q : Record) → held body.outlet ≡ Some q → HasIn q body
held_has body q is = subst (λ (mine : Option Record). Has q body.kept mine (in_held body.intake)) (sym is) has_held

pub taking_has : (body : Body) (q : Record) → in_held body.intake ≡ Some q → HasIn q body
taking_has body q is = subst (λ (taking : Option Record). Has q body.kept (held body.outlet) taking) (sym is) has_taking

pub whole_itself : {told : List Happening} {machine : ℕ} {body : Body} → IsOneRecord body → Whole told machine body body
whole_itself {body = body} one = record {
  kept = λ q p has i same. inl (one q p has (has_kept i) same);
  out = λ q p has is same. one q p has (held_has body p is) same;
}

-- ---- what hands do

-- a record that is changed is the one that was there before
record IsThatChanged (id : ℕ) (change : Record → Record) (q p : Record) : Type 0 where
  named : p.id ≡ id
  is : p ≡ change q

changed_of : {id : ℕ} {change : Record → Record} (was now : Body) (q p : Record) → IsOneRecord was → ((r : Record) → HasIn r now → HasIn r was) → HasIn q was → q.id ≡ p.id → LeavesId change
    → IsChangedIn id change now.kept p → IsThatChanged id change q p
changed_of {change = change} was now q p one before has same leaves m =
    let own : p.id ≡ m.was.id = ap (λ (r : Record). r.id) m.is ∙ leaves m.was in
    record {
      named = own ∙ m.named;
      is = m.is ∙ ap change (one q m.was has (before m.was (has_kept m.there)) (same ∙ own));
    }

-- and it is told
mark_of : {told : List Happening} {machine id : ℕ} {q p : Record} (quality : Quality) → IsTold (happenings.Done machine (acts.Marks id quality)) told → IsThatChanged id (λ r. record r { quality = quality }) q p → IsMarkOf told machine q p
mark_of {told} {machine} quality tells m = record {
  quality = quality;
  marks = subst (λ (x : ℕ). IsTold (happenings.Done machine (acts.Marks x quality)) told) (sym m.named) tells;
  is = m.is;
}

sub_of : {told : List Happening} {machine id : ℕ} {q p : Record} (place : ℕ) (barcode : Option (List ℕ)) → IsTold (happenings.Done machine (acts.Subs id place)) told → IsThatChanged id (λ r. record r { subs = r.subs ++ unknown_sub place barcode ∷ [] }) q p → IsSubOf told machine q p
sub_of {told} {machine} place barcode tells m = record {
  place = place;
  barcode = barcode;
  tells = subst (λ (x : ℕ). IsTold (happenings.Done machine (acts.Subs x place)) told) (sym m.named) tells;
  is = m.is;
}

new_by : (bridge : Option BridgeLevels) (maker : Maker) (body : Body) (found : Result ℕ IdsUsedUp) (event : ℕ → Event) (p : Record) → next_id maker ≡ found → ((id : ℕ) → IsByHand bridge body (event id) p → p.id ≡ id) → IsByHand bridge body (with_new found event) p
    → (id : ℕ) × (next_id maker ≡ Ok id) × (p.id ≡ id)
new_by bridge maker body (Ok id) event p is each hand = (id, is, each id hand)
new_by bridge maker body (Err why) event p is each hand = elim hand [ ]

-- what holds before a line
pub record Starting (before : LineState) : Type 0 where
  pub one : (machine : ℕ) → IsOneRecord (node_at before machine).lane.body
  pub own : AreNumbered 1 before.machines
  pub olds : (machine : ℕ) (q : Record) → HasIn q (node_at before machine).lane.body → IsOld 1 before.machines q.id

olds_of : {t : Trace} {s : LineState} (machine : ℕ) (q : Record) → Stands t s → Sits (node_at s machine).lane.body q → IsOld 1 s.machines q.id
olds_of machine q st (sits_kept i) = mark_old {mark = marks.Kept machine} st (has_kept_mark (in_kept i refl))
olds_of machine q st (sits_held out) = mark_old {mark = marks.Outlet machine} st (has_outlet_mark out refl)
olds_of machine q st (sits_taking into) = mark_old {mark = marks.Intake machine} st (has_intake_mark into refl)

pub starting_of : {t : Trace} {s : LineState} → Stands t s → Starting s
starting_of {s = s} st = record {
  one = λ machine. one_record_of machine st;
  own = st.ids.own;
  olds = λ machine q has. olds_of machine q st (sits_of (node_at s machine).lane.body q has);
}

-- a board that comes from another lane has no record before
abbrev pub BringsNew : Request → LineState → Type 0
BringsNew (requests.gives m (inputs.Gets board)) s = (machine : ℕ) (q : Record) → HasIn q (node_at s machine).lane.body → q.id ≡ board.id → ⊥
BringsNew request s = Unit {0}

-- so it is of one that isn't at home on the track
sits_marked : {X : Type 0} (s : LineState) (machine : ℕ) (q : Record) (x : ℕ) → Sits (node_at s machine).lane.body q → q.id ≡ x → ((mark : Mark) → HasMark (stand_of s) x mark → X) → X
sits_marked s machine q x (sits_kept i) same each = each (marks.Kept machine) (has_kept_mark (in_kept i same))
sits_marked s machine q x (sits_held out) same each = each (marks.Outlet machine) (has_outlet_mark out same)
sits_marked s machine q x (sits_taking into) same each = each (marks.Intake machine) (has_intake_mark into same)

pub brings_new : (past : List Happening) (request : Request) (s : LineState) → StoodBy past s → IsNewcomer past (own_line request) → BringsNew request s
brings_new past (requests.gives m (inputs.Gets board)) s by new =
    λ machine q has same. sits_marked s machine q board.id (sits_of (node_at s machine).lane.body q has) same (λ mark marked. away_has_none by.stood.stands (by.away board.id new) marked)
brings_new past (requests.gives m _) s by new = tt
brings_new past _ s by new = tt

-- a board that is put in has no record before
new_not : (number m : ℕ) (input : Input) (before after : LineState) (told : List Happening) → Starting before → (steps : MachineSteps number m input before after told) → maker_after input steps.node.maker ≡ after_next steps.node.maker
    → (q p : Record) → HasIn q (node_at before m).lane.body → q.id ≡ p.id → (id : ℕ) × (next_id steps.node.maker ≡ Ok id) × (p.id ≡ id) → ⊥
new_not number m input before after told a steps makes q p has same hand =
    (made_here number m input before after told steps a.own makes hand.0 hand.1).apart q.id (a.olds m q has) (same ∙ hand.2)

hand_whole : (number m : ℕ) (input : Input) (before after : LineState) (told : List Happening) (steps : MachineSteps number m input before after told) → Starting before → BringsNew (requests.gives m input) before → IsOneRecord steps.node.lane.body
    → (q p : Record) → HasIn q (node_at before m).lane.body → HasIn q steps.node.lane.body → q.id ≡ p.id
    → IsByHand steps.node.bridge (body_then number m input before after told steps) (event_of steps.node.maker input steps.steps.lane.words) p → IsChangeOf told m q p
hand_whole number m (inputs.Gets board) before after told steps a new one q p there has same hand = absurd (new m q there (same ∙ hand))
hand_whole number m (inputs.Insert barcode) before after told steps a new one q p there has same hand =
    let body : Body = body_then number m (inputs.Insert barcode) before after told steps in
    absurd (new_not number m (inputs.Insert barcode) before after told a steps refl q p there same
    (new_by steps.node.bridge steps.node.maker body (next_id steps.node.maker) (λ id. Insert id barcode) p refl (λ id is. is) hand))
hand_whole number m (inputs.Replace old) before after told steps a new one q p there has same hand =
    let body : Body = body_then number m (inputs.Replace old) before after told steps in
    absurd (new_not number m (inputs.Replace old) before after told a steps refl q p there same
    (new_by steps.node.bridge steps.node.maker body (next_id steps.node.maker) (Replace old) p refl (λ id is. is) hand))
hand_whole number m (inputs.Mark id quality) before after told steps a new one q p there has same hand =
    inl (mark_of quality (marks_told number m id quality before after told steps hand.0)
    (changed_of steps.node.lane.body (body_then number m (inputs.Mark id quality) before after told steps) q p one (λ r h. read_has (desk_of steps.node (moment_of number)) (unread_by m before.world) steps.node.lane.body r h) has same (λ _. refl) hand.1))
hand_whole number m (inputs.Sub id place barcode) before after told steps a new one q p there has same hand =
    inr (sub_of place barcode (subs_told number m id place barcode before after told steps hand.0)
    (changed_of steps.node.lane.body (body_then number m (inputs.Sub id place barcode) before after told steps) q p one (λ r h. read_has (desk_of steps.node (moment_of number)) (unread_by m before.world) steps.node.lane.body r h) has same (λ _. refl) hand.1))
hand_whole number m (inputs.Level line on) before after told steps a new one q p there has same hand =
    let body : Body = body_then number m (inputs.Level line on) before after told steps in
    inl (mark_of qualities.Failed (fails_told number m hand.0 line on before after told steps hand.1 hand.2)
    (changed_of steps.node.lane.body (tells_level line on body).body q p one (λ r h. read_has (desk_of steps.node (moment_of number)) (unread_by m before.world) steps.node.lane.body r (level_has line on body r h)) has same (λ _. refl) hand.3))
hand_whole number m _ before after told steps a new one q p there has same hand = absurd hand

-- the step of a machine, whose hands do only this
pub machine_by : (number m : ℕ) (input : Input) (before after : LineState) (told : List Happening) → IsOneRecord (node_at before m).lane.body → (steps : MachineSteps number m input before after told)
    → ((q p : Record) → HasIn q (node_at before m).lane.body → HasIn q steps.node.lane.body → q.id ≡ p.id → IsByHand steps.node.bridge (body_then number m input before after told steps) (event_of steps.node.maker input steps.steps.lane.words) p → IsChangeOf told m q p)
    → Whole told m (node_at before m).lane.body (node_at after m).lane.body
machine_by number m input before after told single steps hands =
    let node_is : node_at before m ≡ steps.node = node_there m before steps.node steps.there in
    let next_is : node_at after m ≡ steps.next = node_there m after steps.next (ap (machine_in m) steps.after_is ∙ machine_set_own m before steps.node steps.next steps.there) in
    let desk = desk_of steps.node (moment_of number) in
    let event : Event = event_of steps.node.maker input steps.steps.lane.words in
    let was : Body = steps.node.lane.body in
    let now : Body = (machine_step desk (unread_by m before.world) event was).body in
    let body_is : (node_at after m).lane.body ≡ now = ap (λ (n : NodeState). n.lane.body) next_is ∙ steps.steps.lane.body in
    let one : IsOneRecord was = subst (λ (n : NodeState). IsOneRecord n.lane.body) node_is single in
    let here : (q : Record) → HasIn q (node_at before m).lane.body → HasIn q was = λ q has. subst (λ (n : NodeState). HasIn q n.lane.body) node_is has in
    record {
      kept = λ q p has i same. elim (step_kept desk (unread_by m before.world) event was p (subst (λ (b : Body). In p b.kept) body_is i)) [
        | inl then ↦ inl (one q p (here q has) then same)
        | inr hand ↦ inr (hands q p has (here q has) same hand)
      ];
      out = λ q p has is same. one q p (here q has) (step_held desk (unread_by m before.world) event was p (subst (λ (b : Body). held b.outlet ≡ Some p) body_is is)) same;
    }

-- the step of a machine
pub machine_whole : (number m : ℕ) (input : Input) (before after : LineState) (told : List Happening) → Starting before → BringsNew (requests.gives m input) before → MachineSteps number m input before after told → Whole told m (node_at before m).lane.body (node_at after m).lane.body
machine_whole number m input before after told a new steps =
    let one : IsOneRecord steps.node.lane.body = subst (λ (n : NodeState). IsOneRecord n.lane.body) (node_there m before steps.node steps.there) (a.one m) in
    machine_by number m input before after told (a.one m) steps (λ q p there has same hand. hand_whole number m input before after told steps a new one q p there has same hand)

-- and where it is met by a connection
pub met_whole : (number m : ℕ) (on : Connected) (before after : LineState) (told : List Happening) → IsOneRecord (node_at before m).lane.body → MachineSteps number m (met_on on) before after told → Whole told m (node_at before m).lane.body (node_at after m).lane.body
met_whole number m connections.Accepted before after told one steps = machine_by number m inputs.Accepted before after told one steps (λ q p there has same hand. absurd hand)
met_whole number m connections.Second before after told one steps = machine_by number m inputs.Second before after told one steps (λ q p there has same hand. absurd hand)

-- the step in which a level is set
pub front_whole : (number m : ℕ) (line : SegmentLine) (on : Bool) (before after : LineState) (told : List Happening) → IsOneRecord (node_at before m).lane.body → MachineSteps number m (inputs.Level line on) before after told
    → (q p : Record) → HasIn q (node_at before m).lane.body → In p (node_at after m).lane.body.kept → q.id ≡ p.id → (p ≡ q) ⊎ IsFailedFront before after m q p
front_whole number m line on before after told single steps q p there i same =
    let node_is : node_at before m ≡ steps.node = node_there m before steps.node steps.there in
    let next_is : node_at after m ≡ steps.next = node_there m after steps.next (ap (machine_in m) steps.after_is ∙ machine_set_own m before steps.node steps.next steps.there) in
    let desk = desk_of steps.node (moment_of number) in
    let unread = unread_by m before.world in
    let was : Body = steps.node.lane.body in
    let now : Body = (machine_step desk unread (Level line on) was).body in
    let body_is : (node_at after m).lane.body ≡ now = ap (λ (n : NodeState). n.lane.body) next_is ∙ steps.steps.lane.body in
    let one : IsOneRecord was = subst (λ (n : NodeState). IsOneRecord n.lane.body) node_is single in
    let has : HasIn q was = subst (λ (n : NodeState). HasIn q n.lane.body) node_is there in
    let found = step_kept desk unread (Level line on) was p (subst (λ (b : Body). In p b.kept) body_is i) in
    elim found [
      | inl then ↦ inl (one q p has then same)
      | inr hand ↦
          let read : Body = (all_read desk unread was).body in
          let f : MarksFront read hand.0 now.kept = step_front desk unread line on was hand.0 hand.1 hand.2 in
          let c : IsThatChanged hand.0 (λ r. record r { quality = qualities.Failed }) q p = changed_of was (tells_level line on read).body q p one (λ r h. read_has desk unread was r (level_has line on read r h)) has same (λ _. refl) hand.3 in
          let front : f.front ≡ q = one q f.front has (read_has desk unread was f.front (has_kept f.there)) (same ∙ c.named ∙ sym f.named) in
          inr (record {
            first = ap (λ (b : Body). slice_get b.kept 0) body_is ∙ f.first ∙ ap (λ (r : Record). Some (record r { quality = qualities.Failed })) front ∙ ap (λ (r : Record). Some r) (sym c.is);
            is = c.is;
            untouched = λ offered.
                let body_was : (node_at before m).lane.body ≡ was = ap (λ (n : NodeState). n.lane.body) node_is in
                let rest : was.outlet.phase ≡ phases.Idle = subst (λ (b : Body). b.outlet.phase ≡ phases.Idle) body_was offered.rest in
                let touched : was.outlet.touched ≡ Some q.id = subst (λ (b : Body). b.outlet.touched ≡ Some q.id) body_was offered.touched in
                let stays : (tells_level line on read).body.outlet ≡ was.outlet = level_outlet line on read ∙ reads_rest desk unread was rest in
                level_untouched desk.bridge line on (tells_level line on read).body hand.0 hand.1 (ap (λ (o : OutState). o.touched) stays ∙ touched ∙ ap (λ (id : ℕ). Some id) (same ∙ c.named));
          })
    ]
