-- A run of the six lines leads to the state that is written out.
use Rattle.std.proofs.Common.{Bool, List, None, Some, [], ap, append-nil, arith, false, length, refl, subst, sym, take, true, ℕ, ◌++◌, ◌+◌, ◌-◌, ◌∙◌, ◌∷◌, ◌≡◌}
use Rattle.std.specs.Prelude.{nat_lt}
use Rattle.std.proofs.lemmas.Bool.{le-ltb}
use Rattle.std.proofs.lemmas.List.{take_all}
use Rattle.std.specs.Borrow.{Bor}
use Rattle.line_base.specs.declared.states.Role.{Role}
use Rattle.line_base.specs.declared.states.Role.TheVariants.{Downstream, Upstream}
use Rattle.line_base.specs.declared.states.Side.TheVariants.{Entry, Exit}
use Rattle.hermes_horizontal.specs.Canonical.{canonical}
use Rattle.hermes_horizontal.specs.declared.message.Message.{Message}
use Rattle.hermes_stream.specs.Frames.{Frames, frames_of}
use Rattle.line_link.specs.Flow.{Stream, coming, dry, reached}
use Rattle.line_link.specs.Link.{LinkParts, across, after_flow, after_send, cut, fate, flow_to, is_too_much, sent_of, texted, within_limit}
use Rattle.line_link.specs.declared.link.Sent.{Sent}
use Rattle.line_link.specs.declared.link.Sent.TheVariants as sent
use Rattle.line_world.specs.FloorPlan.{FloorPlan}
use Rattle.line_report.specs.declared.happening.Happening.{Happening}
use Rattle.line_report.specs.declared.happening.Happening.TheVariants as happenings
use Rattle.node_core.specs.Desk.{Desk}
use Rattle.node_core.specs.Done.{Done}
use Rattle.node_core.specs.Event.{event_of, maker_after}
use Rattle.node_core.specs.Forecasts.{forecasts_after}
use Rattle.node_core.specs.Node.{NodeState, desk_of}
use Rattle.node_core.specs.Signals.{levels_after, signalled}
use Rattle.node_core.specs.Step.{Brings, machine_step}
use Rattle.node_core.specs.Supervising.{orders_after, supervised_after}
use Rattle.node_core.specs.Told.{service_of}
use Rattle.node_core.specs.Words.{AreAll, AreFirst, AreWords, all_more, all_none, first_more, first_none}
use Rattle.node_core.specs.declared.act.Act.{Act}
use Rattle.node_core.specs.declared.act.Act.TheVariants as acts
use Rattle.node_core.specs.declared.input.Input.{Input}
use Rattle.node_core.specs.declared.input.Input.TheVariants as inputs
use Rattle.node_core.specs.declared.word.Word.{Word}
use Rattle.node_core.specs.declared.word.Word.TheVariants.{Says}
use Rattle.law_link_messages.specs.Fit.{IsFit, IsFitDesk}
use Rattle.law_link_messages.proofs.SayingWhat.{service_fits}
use Rattle.line_step.specs.Acts.{acts_did, cut_told}
use Rattle.line_step.specs.Lines.{LineSteps, arrived, connecting}
use Rattle.line_step.specs.Numbered.{node_at}
use Rattle.line_step.specs.State.{LineState, machine_in, no_line, one_more, with_machine, with_world}
use Rattle.line_step.specs.Steps.{MachineSteps, is_second, moment_of, read_by, unread_by}
use Rattle.line_step.specs.World.{link_at}
use Rattle.line_step.specs.Requests as requests
use Rattle.law_one_standing.proofs.Carrying.{SaysAlone}
use Rattle.law_one_standing.proofs.RestMore.{machine_is_text}
use Rattle.law_twelve_steps.specs.Example.{IsReachedAnnounced, announced_line, board_offered, first_board, machine_above, machine_below, place_told}
use Rattle.law_twelve_steps.proofs.Example.{is_announced, offer_one, place_one, said_fits}
use Rattle.law_one_standing.proofs.Mirroring.{moment_fits}
use Rattle.law_twelve_steps.proofs.Texts.{sayable_one}
use Rattle.line_step.proofs.Counted.{rises}
use Rattle.line_step.proofs.Ascending.{choose_true, choose_false, not_itself}

-- ---- the step of a machine, computed: no bytes wait behind it

abbrev did_of : ℕ → ℕ → Input → List Word → LineState → Done
did_of number machine input words s =
    machine_step (desk_of (node_at s machine) (moment_of number)) (unread_by machine s.world) (event_of (node_at s machine).maker input words) (node_at s machine).lane.body

abbrev acts_of : ℕ → ℕ → Input → List Word → LineState → List Act
acts_of number machine input words s = (did_of number machine input words s).acts ++ signalled (node_at s machine).bridge (did_of number machine input words s).body

abbrev next_of : ℕ → ℕ → Input → List Word → LineState → NodeState
next_of number machine input words s = record (node_at s machine) {
  maker = maker_after input (node_at s machine).maker;
  lane = record {
    body = (did_of number machine input words s).body;
    entry_bytes = [];
    exit_bytes = [];
  };
  bridge = levels_after input (did_of number machine input words s).body (node_at s machine).bridge;
  forecasts = forecasts_after (node_at s machine).forecasts (acts_of number machine input words s);
  supervised = supervised_after input (node_at s machine).supervised;
  orders = orders_after input (node_at s machine).orders;
}

abbrev after_of : ℕ → ℕ → Input → List Word → LineState → LineState
after_of number machine input words s = with_world (acts_did (is_second input) machine (acts_of number machine input words s) (read_by machine s.world)).world (with_machine machine (next_of number machine input words s) s)

abbrev told_of : ℕ → ℕ → Input → List Word → LineState → List Happening
told_of number machine input words s = (acts_did (is_second input) machine (acts_of number machine input words s) (read_by machine s.world)).told

steps_by : (number machine : ℕ) (input : Input) (words : List Word) (s : LineState) → machine_in machine s ≡ Some (node_at s machine) → Brings input (node_at s machine).lane (next_of number machine input words s).lane words
    → MachineSteps number machine input s (after_of number machine input words s) (told_of number machine input words s)
steps_by number machine input words s there brings = record {
  node = node_at s machine;
  next = next_of number machine input words s;
  acts = acts_of number machine input words s;
  there = there;
  steps = record {
    made = (did_of number machine input words s).acts;
    lane = record { words = words; brings = brings; body = refl; told = refl; made = refl };
    told = refl;
    bridge = refl;
    forecasts = refl;
    supervised = refl;
    orders = refl;
    name = refl;
    number = refl;
    capacity = refl;
  };
  unspent = refl;
  after_is = refl;
  told_is = refl;
}

-- the text of a message is heard as that message
hears_one : SaysAlone → (message : Message) → IsFit message → (piece : List ℕ) → piece ≡ canonical message → (still : Bool) → AreWords [] piece [] still (Says message ∷ [])
hears_one alone message fit piece is still =
    let sayable = sayable_one alone message fit in
    let frames : frames_of piece ≡ record { messages = canonical message ∷ []; rest = Some [] } = ap frames_of is ∙ sayable.one.frames in
    record {
      first = subst (λ (x : Frames). AreFirst x.messages x.rest (Says message ∷ [])) (sym frames) (first_more sayable.spells first_none);
      all = λ on. subst (λ (x : Frames). AreAll x.messages x.rest (Says message ∷ []) []) (sym frames) (all_more sayable.spells all_none);
    }

-- ---- what a link makes of a text

-- a text that is alone on its way is not too much
record IsSent (from : Role) (text : List ℕ) (link : LinkParts) : Type 0 where
  link_is : after_send from text link ≡ texted (across from) text link
  sent_is : sent_of from text link ≡ sent.Flows

sends_alone : SaysAlone → (from : Role) (link : LinkParts) (message : Message) → IsFit message → link.stands ≡ true → coming (flow_to (across from) (texted (across from) (canonical message) link)) ≡ canonical message ++ [] → IsSent from (canonical message) link
sends_alone alone from link message fit stands alone_there =
    let now : LinkParts = texted (across from) (canonical message) link in
    let short = (sayable_one alone message fit).one.short in
    let size : length (coming (flow_to (across from) now)) ≡ length (canonical message) = ap (λ (bs : List ℕ). length bs) (alone_there ∙ append-nil (canonical message)) in
    let few : is_too_much (across from) now ≡ false = le-ltb 1048576 (length (coming (flow_to (across from) now))) (omega (arith, size, short)) in
    record {
      link_is = choose_true link.stands (within_limit (across from) now) link stands ∙ choose_false (is_too_much (across from) now) (cut now) now few;
      sent_is = choose_true link.stands (fate (across from) now) sent.Vanishes stands ∙ choose_false (is_too_much (across from) now) sent.Cuts sent.Flows few;
    }

arrives_whole : (text : List ℕ) → reached (0 + (length text - 0)) (text ∷ []) ≡ dry
arrives_whole text =
    let count : 0 + (length text - 0) ≡ length text = omega arith in
    ap (λ (n : ℕ). reached n (text ∷ [])) count ∙ choose_false (nat_lt (length text) (length text)) (record { texts = text ∷ []; arrived = length text }) (reached (length text - length text) []) (not_itself (length text))

piece_whole : (text : List ℕ) → text ≡ take (length text - 0) (text ++ [])
piece_whole text =
    let count : length text - 0 ≡ length text = omega arith in
    sym (ap (λ (n : ℕ). take n (text ++ [])) count ∙ (ap (λ (bs : List ℕ). take (length text) bs) (append-nil text) ∙ take_all (length text) text (omega arith)))

-- ---- the states

abbrev shape : NodeState → NodeState → LinkParts → FloorPlan → ℕ → LineState
shape above below link floor lines = record {
  spent = false;
  machines = above ∷ below ∷ [];
  world = record { links = link ∷ []; floor = floor; opened = 0; settled = 0 };
  lines = lines;
  unvouched = None;
}

abbrev counted : LineState → LineState
counted s = record s { lines = s.lines + 1 }

abbrev line_1 : LineState
line_1 = counted (one_more 1 false 4 0 no_line)

abbrev line_2 : LineState
line_2 = counted (one_more 1 false 4 0 line_1)

abbrev start_3 : LineState
start_3 = connecting 2 line_2

abbrev met_3 : LineState
met_3 = after_of 3 2 inputs.Connect [] start_3

abbrev next_3 : LineState
next_3 = after_of 3 1 inputs.Accepted [] met_3

abbrev told_3 : List Happening
told_3 = told_of 3 2 inputs.Connect [] start_3 ++ told_of 3 1 inputs.Accepted [] met_3

abbrev below : Message
below = record { stamp = Some (moment_of 3); body = service_of (desk_of (node_at line_2 2) (moment_of 3)) }

abbrev joined : LinkParts
joined = link_at 1 start_3.world

abbrev line_3 : LineState
line_3 = shape (node_at next_3 1) (node_at next_3 2) (texted Upstream (canonical below) joined) line_2.world.floor 3

abbrev piece_4 : Bor (List ℕ)
piece_4 = record { ref_ptr = (0, 0); now = canonical below }

abbrev start_4 : LineState
start_4 = arrived 1 Exit None line_3

abbrev next_4 : LineState
next_4 = after_of 4 1 (inputs.Bytes Exit piece_4) (Says below ∷ []) start_4

abbrev told_4 : List Happening
told_4 = told_of 4 1 (inputs.Bytes Exit piece_4) (Says below ∷ []) start_4

abbrev above : Message
above = record { stamp = Some (moment_of 4); body = service_of (desk_of (node_at line_3 1) (moment_of 4)) }

abbrev line_4 : LineState
line_4 = shape (node_at next_4 1) (node_at next_4 2) (texted Downstream (canonical above) joined) line_2.world.floor 4

abbrev piece_5 : Bor (List ℕ)
piece_5 = record { ref_ptr = (0, 0); now = canonical above }

abbrev start_5 : LineState
start_5 = arrived 2 Entry None line_4

abbrev next_5 : LineState
next_5 = after_of 5 2 (inputs.Bytes Entry piece_5) (Says above ∷ []) start_5

abbrev told_5 : List Happening
told_5 = told_of 5 2 (inputs.Bytes Entry piece_5) (Says above ∷ []) start_5

abbrev line_5 : LineState
line_5 = shape (node_at next_5 1) (node_at next_5 2) (texted Upstream (canonical place_told) joined) line_2.world.floor 5

abbrev next_6 : LineState
next_6 = after_of 6 1 (inputs.Insert None) [] line_5

abbrev told_6 : List Happening
told_6 = told_of 6 1 (inputs.Insert None) [] line_5

-- ---- what they say is fit

below_fits : IsFit below
below_fits =
    let desk : Desk = desk_of (node_at line_2 2) (moment_of 3) in
    let fit : IsFitDesk desk = record { name = machine_is_text 2 (omega arith); lane = omega arith; moment = moment_fits 3 (omega arith) } in
    said_fits desk (service_of desk) fit (service_fits desk fit)

above_fits : IsFit above
above_fits =
    let desk : Desk = desk_of (node_at line_3 1) (moment_of 4) in
    let fit : IsFitDesk desk = record { name = machine_is_text 1 (omega arith); lane = omega arith; moment = moment_fits 4 (omega arith) } in
    said_fits desk (service_of desk) fit (service_fits desk fit)

-- ---- the run

run_3 : SaysAlone → LineSteps 3 (requests.connects 2) line_2 line_3 (happenings.Done 2 acts.Connects ∷ happenings.Done 2 (acts.Sends Entry below) ∷ [])
run_3 alone =
    let sends : IsSent Downstream (canonical below) joined = sends_alone alone Downstream joined below below_fits refl refl in
    record {
      next = next_3;
      done = told_3;
      does = record {
        between = met_3;
        earlier = told_of 3 2 inputs.Connect [] start_3;
        later = told_of 3 1 inputs.Accepted [] met_3;
        first = steps_by 3 2 inputs.Connect [] start_3 refl (refl, refl);
        second = steps_by 3 1 inputs.Accepted [] met_3 refl (refl, refl);
        told_is = refl;
      };
      lines = 3;
      counts = rises 2;
      after_is = ap (λ (l : LinkParts). shape (node_at next_3 1) (node_at next_3 2) l line_2.world.floor 3) (sym sends.link_is);
      told_is = ap (λ (s : Sent). happenings.Done 2 acts.Connects ∷ happenings.Done 2 (acts.Sends Entry below) ∷ (((cut_told 1 s ++ []) ++ []) ++ [])) (sym sends.sent_is);
    }

run_4 : SaysAlone → LineSteps 4 (requests.flows 1 Exit None) line_3 line_4 (happenings.Done 1 (acts.Hears Exit below) ∷ happenings.Done 1 (acts.Sends Exit above) ∷ [])
run_4 alone =
    let sends : IsSent Upstream (canonical above) joined = sends_alone alone Upstream joined above above_fits refl refl in
    let flows : after_flow Upstream None (texted Upstream (canonical below) joined) ≡ joined = ap (λ (s : Stream). record joined { flows = record { to_upstream = s; to_downstream = dry } }) (arrives_whole (canonical below)) in
    record {
      next = next_4;
      done = told_4;
      does = record { piece = piece_4; bytes = piece_whole (canonical below); steps = steps_by 4 1 (inputs.Bytes Exit piece_4) (Says below ∷ []) start_4 refl (hears_one alone below below_fits (canonical below) refl _, refl) };
      lines = 4;
      counts = rises 3;
      after_is = ap (λ (l : LinkParts). shape (node_at next_4 1) (node_at next_4 2) l line_2.world.floor 4) (sym (ap (λ (l : LinkParts). after_send Upstream (canonical above) l) flows ∙ sends.link_is));
      told_is = ap (λ (s : Sent). happenings.Done 1 (acts.Hears Exit below) ∷ happenings.Done 1 (acts.Sends Exit above) ∷ ((cut_told 1 s ++ []) ++ [])) (sym (ap (λ (l : LinkParts). sent_of Upstream (canonical above) l) flows ∙ sends.sent_is));
    }

run_5 : SaysAlone → LineSteps 5 (requests.flows 2 Entry None) line_4 line_5 (happenings.Done 2 (acts.Hears Entry above) ∷ happenings.Done 2 (acts.Sends Entry place_told) ∷ [])
run_5 alone =
    let sends : IsSent Downstream (canonical place_told) joined = sends_alone alone Downstream joined place_told place_one refl refl in
    let flows : after_flow Downstream None (texted Downstream (canonical above) joined) ≡ joined = ap (λ (s : Stream). record joined { flows = record { to_upstream = dry; to_downstream = s } }) (arrives_whole (canonical above)) in
    record {
      next = next_5;
      done = told_5;
      does = record { piece = piece_5; bytes = piece_whole (canonical above); steps = steps_by 5 2 (inputs.Bytes Entry piece_5) (Says above ∷ []) start_5 refl (hears_one alone above above_fits (canonical above) refl _, refl) };
      lines = 5;
      counts = rises 4;
      after_is = ap (λ (l : LinkParts). shape (node_at next_5 1) (node_at next_5 2) l line_2.world.floor 5) (sym (ap (λ (l : LinkParts). after_send Downstream (canonical place_told) l) flows ∙ sends.link_is));
      told_is = ap (λ (s : Sent). happenings.Done 2 (acts.Hears Entry above) ∷ happenings.Done 2 (acts.Sends Entry place_told) ∷ ((cut_told 1 s ++ []) ++ [])) (sym (ap (λ (l : LinkParts). sent_of Downstream (canonical place_told) l) flows ∙ sends.sent_is));
    }

run_6 : SaysAlone → LineSteps 6 (requests.gives 1 (inputs.Insert None)) line_5 announced_line (happenings.Done 1 (acts.Inserts first_board) ∷ happenings.Done 1 (acts.Sends Exit board_offered) ∷ happenings.With 1 first_board ∷ [])
run_6 alone =
    let sends : IsSent Upstream (canonical board_offered) (link_at 1 line_5.world) = sends_alone alone Upstream (link_at 1 line_5.world) board_offered offer_one refl refl in
    record {
      next = next_6;
      done = told_6;
      does = steps_by 6 1 (inputs.Insert None) [] line_5 refl (refl, refl);
      lines = 6;
      counts = rises 5;
      after_is = ap (λ (l : LinkParts). shape machine_above machine_below l announced_line.world.floor 6) (sym sends.link_is);
      told_is = ap (λ (s : Sent). happenings.Done 1 (acts.Inserts first_board) ∷ happenings.Done 1 (acts.Sends Exit board_offered) ∷ ((cut_told 1 s ++ []) ++ happenings.With 1 first_board ∷ [])) (sym sends.sent_is);
    }

pub is_reached_announced : SaysAlone → IsReachedAnnounced
is_reached_announced alone = record {
  points =
      record { told = happenings.Machine 1 4 ∷ []; after = line_1 }
      ∷ record { told = happenings.Machine 2 4 ∷ []; after = line_2 }
      ∷ record { told = happenings.Done 2 acts.Connects ∷ happenings.Done 2 (acts.Sends Entry below) ∷ []; after = line_3 }
      ∷ record { told = happenings.Done 1 (acts.Hears Exit below) ∷ happenings.Done 1 (acts.Sends Exit above) ∷ []; after = line_4 }
      ∷ record { told = happenings.Done 2 (acts.Hears Entry above) ∷ happenings.Done 2 (acts.Sends Entry place_told) ∷ []; after = line_5 }
      ∷ record { told = happenings.Done 1 (acts.Inserts first_board) ∷ happenings.Done 1 (acts.Sends Exit board_offered) ∷ happenings.With 1 first_board ∷ []; after = announced_line }
      ∷ [];
  run = (
    (record { next = one_more 1 false 4 0 no_line; done = happenings.Machine 1 4 ∷ []; does = record { after_is = refl; told_is = refl }; lines = 1; counts = rises 0; after_is = refl; told_is = refl }, tt),
    (
      (record { next = one_more 1 false 4 0 line_1; done = happenings.Machine 2 4 ∷ []; does = record { after_is = refl; told_is = refl }; lines = 2; counts = rises 1; after_is = refl; told_is = refl }, tt),
      ((run_3 alone, tt), ((run_4 alone, tt), ((run_5 alone, tt), ((run_6 alone, tt), tt)))),
    ),
  );
  honest = refl;
  leads = refl;
  announced = is_announced alone;
}
