-- A machine opens exactly when board and place are announced, over each line of a script and over its run.
use Rattle.std.proofs.Common.{◌≡◌, ◌≢◌, ◌⊎◌, inl, inr, ◌∙◌, ◌+◌, ◌-◌, ◌++◌, ℕ, zero, suc, Bool, false, List, ◌∷◌, Option, Some, None, length, refl, sym, ap, subst, []}
use Rattle.std.specs.Prelude.{slice_get}
use Rattle.line_base.specs.declared.states.Side.{Side}
use Rattle.board_record.specs.Maker.{Maker, next_id}
use Rattle.smema_bridge.specs.Levels.{BridgeLevels}
use Rattle.line_link.specs.Link.{connected_of}
use Rattle.line_link.specs.declared.link.Connected.{Connected}
use Rattle.line_link.specs.declared.link.Connected.TheVariants as connections
use Rattle.node_core.specs.declared.act.Act.{Act}
use Rattle.node_core.specs.declared.input.Input.{Input}
use Rattle.node_core.specs.declared.input.Input.TheVariants as inputs
use Rattle.node_core.specs.declared.lane.Body.{Body}
use Rattle.node_core.specs.declared.word.Word.{Word}
use Rattle.node_core.specs.Event.{Replace, event_of}
use Rattle.node_core.specs.declared.lane.Lane.{Lane}
use Rattle.node_core.specs.Node.{NodeState, desk_of, new_node}
use Rattle.node_core.specs.Signals.{signalled}
use Rattle.node_core.specs.Sound.{IsSound}
use Rattle.node_core.specs.Step.{machine_step}
use Rattle.node_core.proofs.Sound.{HasPlaceFor, step_sound}
use Rattle.node_core.proofs.Lasting.{first_sound, may_fits, other_fits}
use Rattle.node_core.proofs.Signalling.{signals_all}
use Rattle.line_report.specs.declared.happening.Happening.{Happening}
use Rattle.line_step.specs.World.{link_at}
use Rattle.line_step.specs.State.{LineState, machine_in, no_line, one_more, profile_of}
use Rattle.line_step.specs.Acts.{acts_did}
use Rattle.line_step.specs.Steps.{MachineSteps, is_second, moment_of, read_by, unread_by}
use Rattle.line_step.specs.Shown.{standings_told}
use Rattle.line_step.specs.Lines.{Connects, Flows, LineSteps, arrived, connecting, met}
use Rattle.line_step.specs.Tracks.{AreBesideNodes, IsBeside, IsBesideNode, TrackLine, TrackSteps, other_line, own_line}
use Rattle.line_step.specs.Runs.{Point, IsRun, all_told}
use Rattle.line_step.proofs.Numbers.{machine_set_other, machine_set_own, machine_within, same_or_not}
use Rattle.law_sentences.specs.Announced.{OpensWhenAnnounced, exit_acts}
use Rattle.law_sentences.proofs.Folds.{exit_append, offered_append, offered_from, ready_append, ready_from}
use Rattle.law_sentences.proofs.Happenings.{Told, opens_as_announced, told_apart, told_both}
use Rattle.law_sentences.proofs.Orderly.{AreSilent, Orderly, orderly_both, plain_orderly, silent_both, silent_none}
use Rattle.law_sentences.proofs.Halves.{Tells}
use Rattle.step_rules.proofs.Linked.{Linked, step_linked}
use Rattle.law_sentences.proofs.WrongWords.{good_event}
use Rattle.law_sentences.proofs.Telling.{step_tells}
use Rattle.law_sentences.proofs.OpeningSteps.{acts_offered, acts_ready, acts_told, no_acts_none, other_acts, remarks_none}
use Rattle.line_step.proofs.Remarks.{all_pass, standings_remarks}
use Rattle.line_step.specs.Requests.{Request, added_told}
use Rattle.line_step.proofs.Effects.{added_remarks, becomes_by}
use Rattle.line_step.proofs.Turns.{LineTurns, line_turns}
use Rattle.line_step.proofs.Getting.{get_may}
use Rattle.line_step.proofs.Turns as turns

-- ---- machine k between two lines: what its outlet has is what was told

pub record Has (o : Option ℕ) (r : Bool) (node : NodeState) : Type 0 where
  pub offered : node.lane.body.outlet.offered ≡ o
  pub ready : node.lane.body.outlet.ready ≡ r
  pub sound : IsSound node.capacity node.lane.body
  pub linked : Linked node.lane.body

-- and of a machine that isn't there nothing was told
pub data Holds : Option ℕ → Bool → Option NodeState → Type 0 where
  not_there : Holds None false None
  is_there : {o : Option ℕ} {r : Bool} {node : NodeState} → Has o r node → Holds o r (Some node)

-- what goes on from a state to another, as it is told
pub record Goes (k : ℕ) (o : Option ℕ) (r : Bool) (after : LineState) (told : List Happening) : Type 0 where
  pub tells : Told k o r told
  pub holds : Holds (offered_from o (exit_acts k told)) (ready_from r (exit_acts k told)) (machine_in k after)

goes_both : (k : ℕ) (o : Option ℕ) (r : Bool) (between after : LineState) (a b : List Happening) → Goes k o r between a → (Holds (offered_from o (exit_acts k a)) (ready_from r (exit_acts k a)) (machine_in k between) → Goes k (offered_from o (exit_acts k a)) (ready_from r (exit_acts k a)) after b) → Goes k o r after (a ++ b)
goes_both k o r between after a b one next =
    let two = next one.holds in
    let more : exit_acts k (a ++ b) ≡ exit_acts k a ++ exit_acts k b = exit_append k a b in
    let offered : offered_from o (exit_acts k (a ++ b)) ≡ offered_from (offered_from o (exit_acts k a)) (exit_acts k b) = ap (λ (x : List Act). offered_from o x) more ∙ offered_append o (exit_acts k a) (exit_acts k b) in
    let ready : ready_from r (exit_acts k (a ++ b)) ≡ ready_from (ready_from r (exit_acts k a)) (exit_acts k b) = ap (λ (x : List Act). ready_from r x) more ∙ ready_append r (exit_acts k a) (exit_acts k b) in
    record {
      tells = told_both b one.tells two.tells;
      holds = subst (λ (x : Option ℕ). Holds x (ready_from r (exit_acts k (a ++ b))) (machine_in k after)) (sym offered) (subst (λ (x : Bool). Holds (offered_from (offered_from o (exit_acts k a)) (exit_acts k b)) x (machine_in k after)) (sym ready) two.holds);
    }

-- nothing of machine k is told, and it is as it was
still : (k : ℕ) (o : Option ℕ) (r : Bool) (before after : LineState) (told : List Happening) → exit_acts k told ≡ [] → machine_in k after ≡ machine_in k before → Holds o r (machine_in k before) → Goes k o r after told
still k o r before after told none same h = record {
  tells = told_apart k o r told none;
  holds = subst (λ (a : List Act). Holds (offered_from o a) (ready_from r a) (machine_in k after)) (sym none) (subst (λ (n : Option NodeState). Holds o r n) (sym same) h);
}

-- ---- a step of a machine

holds_there : (o : Option ℕ) (r : Bool) (found : Option NodeState) (node : NodeState) → found ≡ Some node → Holds o r found → Has o r node
holds_there o r found node there not_there = cc
holds_there o r found node there (is_there {node = other} has) = let same : other ≡ node = cc in subst (λ (n : NodeState). Has o r n) same has

-- a bridge's own signals say nothing of its exit
own_silent : (bridge : Option BridgeLevels) (body : Body) → AreSilent (signalled bridge body)
own_silent bridge body = signals_all (λ (told : List Act). AreSilent told) silent_none (λ signal on. record { plain = refl; offered = λ o. refl; ready = λ r. refl }) silent_both bridge body

-- the machine's own step
own_goes : (number k : ℕ) (input : Input) (o : Option ℕ) (r : Bool) (before after : LineState) (told : List Happening) → (steps : MachineSteps number k input before after told)
    → ((words : List Word) → HasPlaceFor steps.node.capacity (event_of steps.node.maker input words) steps.node.lane.body) → Has o r steps.node → Goes k o r after told
own_goes number k input o r before after told steps fits has =
    let node : NodeState = steps.node in
    let lane = steps.steps.lane in
    let own : List Act = signalled node.bridge steps.next.lane.body in
    let silent : AreSilent own = own_silent node.bridge steps.next.lane.body in
    let desk = desk_of node (moment_of number) in
    let event = event_of node.maker input lane.words in
    let did = machine_step desk (unread_by k before.world) event node.lane.body in
    let t : Tells node.lane.body did = step_tells desk (unread_by k before.world) event node.lane.body (good_event input node.maker node.lane steps.next.lane lane.words lane.brings) (record { front = has.sound.offers; linked = has.linked; role = has.sound.exit }) in
    let read = read_by k before.world in
    let list = (acts_did (is_second input) k steps.acts read).told in
    let offered : offered_from o (exit_acts k told) ≡ steps.next.lane.body.outlet.offered =
    ap (λ (x : List Happening). offered_from o (exit_acts k x)) steps.told_is ∙ acts_offered (is_second input) k steps.acts read o
    ∙ ap (λ (x : List Act). offered_from o x) steps.steps.told ∙ offered_append o steps.steps.made own ∙ silent.offered (offered_from o steps.steps.made)
    ∙ ap (λ (x : List Act). offered_from o x) lane.told ∙ ap (λ (x : Option ℕ). offered_from x did.acts) (sym has.offered) ∙ sym t.offered ∙ ap (λ (b : Body). b.outlet.offered) (sym lane.body) in
    let ready : ready_from r (exit_acts k told) ≡ steps.next.lane.body.outlet.ready =
    ap (λ (x : List Happening). ready_from r (exit_acts k x)) steps.told_is ∙ acts_ready (is_second input) k steps.acts read r
    ∙ ap (λ (x : List Act). ready_from r x) steps.steps.told ∙ ready_append r steps.steps.made own ∙ silent.ready (ready_from r steps.steps.made)
    ∙ ap (λ (x : List Act). ready_from r x) lane.told ∙ ap (λ (x : Bool). ready_from x did.acts) (sym has.ready) ∙ sym t.ready ∙ ap (λ (b : Body). b.outlet.ready) (sym lane.body) in
    let made : Orderly o r steps.steps.made = subst (λ (x : List Act). Orderly o r x) (sym lane.told) (subst (λ (x : Option ℕ). Orderly x r did.acts) has.offered (subst (λ (x : Bool). Orderly node.lane.body.outlet.offered x did.acts) has.ready t.orderly)) in
    let behind : Orderly (offered_from o steps.steps.made) (ready_from r steps.steps.made) own = plain_orderly (offered_from o steps.steps.made) (ready_from r steps.steps.made) own silent.plain in
    let orderly : Orderly o r steps.acts = subst (λ (x : List Act). Orderly o r x) (sym steps.steps.told) (orderly_both own made behind) in
    let sound : IsSound node.capacity steps.next.lane.body = subst (λ (b : Body). IsSound node.capacity b) (sym lane.body) (step_sound desk (unread_by k before.world) event node.lane.body (fits lane.words) has.sound) in
    let linked : Linked steps.next.lane.body = subst (λ (b : Body). Linked b) (sym lane.body) (step_linked desk (unread_by k before.world) event node.lane.body has.linked) in
    let there : machine_in k after ≡ Some steps.next = ap (λ (s : LineState). machine_in k s) steps.after_is ∙ machine_set_own k before node steps.next steps.there in
    record {
      tells = subst (λ (x : List Happening). Told k o r x) (sym steps.told_is) (acts_told (is_second input) k read orderly);
      holds = subst (λ (n : Option NodeState). Holds (offered_from o (exit_acts k told)) (ready_from r (exit_acts k told)) n) (sym there)
          (is_there (record { offered = sym offered; ready = sym ready; sound = subst (λ (most : ℕ). IsSound most steps.next.lane.body) (sym steps.steps.capacity) sound; linked = linked }));
    }

-- that of another one
other_goes : (number k machine : ℕ) (input : Input) (o : Option ℕ) (r : Bool) (before after : LineState) (told : List Happening) → MachineSteps number machine input before after told → k ≢ machine → Holds o r (machine_in k before) → Goes k o r after told
other_goes number k machine input o r before after told steps apart h =
    let counted = (machine_within machine before steps.node steps.there).0 in
    still k o r before after told (ap (λ (x : List Happening). exit_acts k x) steps.told_is ∙ other_acts (is_second input) k machine steps.acts (read_by machine before.world) apart)
    (ap (λ (s : LineState). machine_in k s) steps.after_is ∙ machine_set_other machine k before steps.next counted apart) h

abbrev Fits : (number machine : ℕ) (input : Input) (before after : LineState) (told : List Happening) → MachineSteps number machine input before after told → Type 0
Fits number machine input before after told steps = (words : List Word) → HasPlaceFor steps.node.capacity (event_of steps.node.maker input words) steps.node.lane.body

step_goes : (number k machine : ℕ) (input : Input) (o : Option ℕ) (r : Bool) (before after : LineState) (told : List Happening) → (k ≡ machine) ⊎ (k ≢ machine) → (steps : MachineSteps number machine input before after told)
    → Fits number machine input before after told steps → Holds o r (machine_in k before) → Goes k o r after told
step_goes number k machine input o r before after told (inl same) steps fits h =
    subst (λ (m : ℕ). Goes m o r after told) (sym same) (own_goes number machine input o r before after told steps fits (holds_there o r (machine_in machine before) steps.node steps.there (subst (λ (m : ℕ). Holds o r (machine_in m before)) same h)))
step_goes number k machine input o r before after told (inr apart) steps fits h = other_goes number k machine input o r before after told steps apart h

-- ---- one step, where its input brings no board

abbrev IsNoInsert : Input → Type 0
IsNoInsert (inputs.Insert barcode) = ⊥
IsNoInsert (inputs.Gets board) = ⊥
IsNoInsert _ = Unit {0}

plain_fits : (most : ℕ) (maker : Maker) (input : Input) (words : List Word) (body : Body) → IsNoInsert input → HasPlaceFor most (event_of maker input words) body
plain_fits most maker (inputs.Insert barcode) words body none = absurd none
plain_fits most maker (inputs.Gets board) words body none = absurd none
plain_fits most maker (inputs.Replace id) words body none = other_fits most (next_id maker) id body
plain_fits most maker _ words body none = tt

plain_goes : (number k machine : ℕ) (input : Input) (o : Option ℕ) (r : Bool) (before after : LineState) (told : List Happening) → IsNoInsert input → MachineSteps number machine input before after told → Holds o r (machine_in k before) → Goes k o r after told
plain_goes number k machine input o r before after told none steps h =
    step_goes number k machine input o r before after told (same_or_not k machine) steps (λ words. plain_fits steps.node.capacity steps.node.maker input words steps.node.lane.body none) h

-- one machine more
data Added (old new : Option NodeState) (node : NodeState) : Type 0 where
  added_none : new ≡ old → Added old new node
  added_here : old ≡ None → new ≡ Some node → Added old new node

added_at : (nodes : List NodeState) (node : NodeState) (place : ℕ) → Added (slice_get nodes place) (slice_get (nodes ++ node ∷ []) place) node
added_at [] node zero = added_here refl refl
added_at [] node (suc place) = added_none refl
added_at (n ∷ nodes) node zero = added_none refl
added_at (n ∷ nodes) node (suc place) = added_at nodes node place

added : (k : ℕ) (lane : ℕ) (is_bridge : Bool) (capacity used : ℕ) (s : LineState) → Added (machine_in k s) (machine_in k (one_more lane is_bridge capacity used s)) (new_node (profile_of lane is_bridge (length s.machines + 1) capacity used))
added zero lane is_bridge capacity used s = added_none refl
added (suc place) lane is_bridge capacity used s = added_at s.machines (new_node (profile_of lane is_bridge (length s.machines + 1) capacity used)) place

new_has : (number : ℕ) (lane : ℕ) (is_bridge : Bool) (capacity used : ℕ) → Has None false (new_node (profile_of lane is_bridge number capacity used))
new_has number lane is_bridge capacity used = record { offered = refl; ready = refl; sound = first_sound capacity is_bridge; linked = record { idle = refl; stands = refl } }

holds_more : (o : Option ℕ) (r : Bool) (old new : Option NodeState) (node : NodeState) → Has None false node → Added old new node → Holds o r old → Holds o r new
holds_more o r old new node has (added_none same) h = subst (λ (n : Option NodeState). Holds o r n) (sym same) h
holds_more o r old new node has (added_here none here) not_there = subst (λ (n : Option NodeState). Holds None false n) (sym here) (is_there has)
holds_more o r old new node has (added_here none here) (is_there other) = cc

more_holds : (k : ℕ) (lane : ℕ) (is_bridge : Bool) (capacity used : ℕ) (o : Option ℕ) (r : Bool) (s : LineState) → Holds o r (machine_in k s) → Holds o r (machine_in k (one_more lane is_bridge capacity used s))
more_holds k lane is_bridge capacity used o r s h =
    holds_more o r (machine_in k s) (machine_in k (one_more lane is_bridge capacity used s)) (new_node (profile_of lane is_bridge (length s.machines + 1) capacity used)) (new_has (length s.machines + 1) lane is_bridge capacity used) (added k lane is_bridge capacity used s) h

-- ---- each turn

no_board : (on : Connected) → IsNoInsert (met on)
no_board connections.Accepted = tt
no_board connections.Second = tt

same_in : (k : ℕ) (s t : LineState) → t.machines ≡ s.machines → machine_in k t ≡ machine_in k s
same_in zero s t same = refl
same_in (suc place) s t same = ap (λ (nodes : List NodeState). slice_get nodes place) same

connects_goes : (number k machine : ℕ) (o : Option ℕ) (r : Bool) (before after : LineState) (told : List Happening) → Holds o r (machine_in k before) → Connects number machine before after told → Goes k o r after told
connects_goes number k machine o r before after told h steps =
    let begin : Holds o r (machine_in k (connecting machine before)) = subst (λ (n : Option NodeState). Holds o r n) (sym (same_in k before (connecting machine before) refl)) h in
    let first = plain_goes number k machine inputs.Connect o r (connecting machine before) steps.between steps.earlier tt steps.first begin in
    let on = connected_of (link_at (machine - 1) before.world).upstream in
    subst (λ (x : List Happening). Goes k o r after x) (sym steps.told_is)
    (goes_both k o r steps.between after steps.earlier steps.later first (λ held. plain_goes number k (machine - 1) (met on) _ _ steps.between after steps.later (no_board on) steps.second held))

flows_goes : (number k machine : ℕ) (side : Side) (count : Option ℕ) (o : Option ℕ) (r : Bool) (before after : LineState) (told : List Happening) → Holds o r (machine_in k before) → Flows number machine side count before after told → Goes k o r after told
flows_goes number k machine side count o r before after told h flows =
    let begin : Holds o r (machine_in k (arrived machine side count before)) = subst (λ (n : Option NodeState). Holds o r n) (sym (same_in k before (arrived machine side count before) refl)) h in
    plain_goes number k machine (inputs.Bytes side flows.piece) o r (arrived machine side count before) after told tt flows.steps begin

turn_goes : (number k : ℕ) (request : Request) (o : Option ℕ) (r : Bool) (before after : LineState) (told : List Happening) → Holds o r (machine_in k before) → LineTurns number before after told request → Goes k o r after told
turn_goes number k request o r before after told h (turns.stays _ same none) = still k o r before after told (all_pass told (no_acts_none k) none) (same_in k before after same) h
turn_goes number k request o r before after told h (turns.adds lane is_bridge capacity used may b) =
    let now : LineState = one_more lane is_bridge capacity used before in
    let what : List Happening = added_told is_bridge capacity before in
    let none : exit_acts k what ≡ [] = remarks_none k what (added_remarks is_bridge capacity before) in
    becomes_by (Goes k o r) b (record {
      tells = told_apart k o r what none;
      holds = subst (λ (a : List Act). Holds (offered_from o a) (ready_from r a) (machine_in k now)) (sym none) (more_holds k lane is_bridge capacity used o r before h);
    })
turn_goes number k request o r before after told h (turns.steps machine input given may did) =
    step_goes number k machine input o r before after told (same_or_not k machine) did (λ words. may_fits did.node input words (get_may machine input before did.node did.there may)) h
turn_goes number k request o r before after told h (turns.connects machine may did) = connects_goes number k machine o r before after told h did
turn_goes number k request o r before after told h (turns.flows machine side count may did) = flows_goes number k machine side count o r before after told h did

-- EACH LINE STEP
steps_goes : (number k : ℕ) (request : Request) (o : Option ℕ) (r : Bool) (before after : LineState) (told : List Happening) → Holds o r (machine_in k before) → LineSteps number request before after told → Goes k o r after told
steps_goes number k request o r before after told h steps =
    let next = steps.next in
    let count : LineState = record next { lines = steps.lines } in
    let one = turn_goes number k request o r before next steps.done h (line_turns number request before next steps.done steps.does) in
    subst (λ (s : LineState). Goes k o r s told) (sym steps.after_is) (subst (λ (x : List Happening). Goes k o r count x) (sym steps.told_is)
    (goes_both k o r next count steps.done (standings_told before next) one (λ held. still k _ _ next count (standings_told before next) (remarks_none k (standings_told before next) (standings_remarks before next)) (same_in k next count refl) held)))

-- a line of another track
beside_has : {o : Option ℕ} {r : Bool} {node now : NodeState} → IsBesideNode node now → Has o r node → Has o r now
beside_has {o} {r} {node} {now} beside has = record {
  offered = ap (λ (l : Lane). l.body.outlet.offered) beside.lane ∙ has.offered;
  ready = ap (λ (l : Lane). l.body.outlet.ready) beside.lane ∙ has.ready;
  sound = subst (λ (most : ℕ). IsSound most now.lane.body) (sym beside.capacity) (subst (λ (l : Lane). IsSound node.capacity l.body) (sym beside.lane) has.sound);
  linked = subst (λ (l : Lane). Linked l.body) (sym beside.lane) has.linked;
}

beside_hold : (o : Option ℕ) (r : Bool) (nodes others : List NodeState) (place : ℕ) → AreBesideNodes nodes others → Holds o r (slice_get nodes place) → Holds o r (slice_get others place)
beside_hold o r [] [] place are held = held
beside_hold o r [] (other ∷ others) place are held = absurd are
beside_hold o r (node ∷ nodes) [] place are held = absurd are
beside_hold o r (node ∷ nodes) (other ∷ others) zero are held = is_there (beside_has are.0 (holds_there o r (Some node) node refl held))
beside_hold o r (node ∷ nodes) (other ∷ others) (suc place) are held = beside_hold o r nodes others place are.1 held

beside_holds : (o : Option ℕ) (r : Bool) (k : ℕ) (before after : LineState) → IsBeside before after → Holds o r (machine_in k before) → Holds o r (machine_in k after)
beside_holds o r zero before after is held = held
beside_holds o r (suc place) before after is held = beside_hold o r before.machines after.machines place is.machines held

track_goes : (number k : ℕ) (line : TrackLine) (o : Option ℕ) (r : Bool) (before after : LineState) (told : List Happening) → Holds o r (machine_in k before) → TrackSteps number line before after told → Goes k o r after told
track_goes number k (own_line request) o r before after told h steps = steps_goes number k request o r before after told h steps.0
track_goes number k other_line o r before after told h steps =
    let none : exit_acts k told ≡ [] = ap (exit_acts k) steps.1 in
    record {
      tells = told_apart k o r told none;
      holds = subst (λ (a : List Act). Holds (offered_from o a) (ready_from r a) (machine_in k after)) (sym none) (beside_holds o r k before after steps.0 h);
    }

-- ---- over a run

run_told : (k : ℕ) (o : Option ℕ) (r : Bool) (s : LineState) (asked : List TrackLine) (points : List Point) → Holds o r (machine_in k s) → IsRun s asked points → Told k o r (all_told points)
run_told k o r s [] [] h run = told_apart k o r [] refl
run_told k o r s [] (point ∷ points) h run = absurd run
run_told k o r s (line ∷ asked) [] h run = absurd run
run_told k o r s (line ∷ asked) (point ∷ points) h run =
    let one = track_goes (s.lines + 1) k line o r s point.after point.told h run.0 in
    told_both (all_told points) one.tells (run_told k (offered_from o (exit_acts k point.told)) (ready_from r (exit_acts k point.told)) point.after asked points one.holds run.1)

none_holds : (k : ℕ) → Holds None false (machine_in k no_line)
none_holds zero = not_there
none_holds (suc place) = not_there

-- OPENINGS EXACTLY WHEN ANNOUNCED
pub opens_when_announced : OpensWhenAnnounced
opens_when_announced asked points k run = opens_as_announced k (all_told points) (run_told k None false no_line asked points (none_holds k) run)
