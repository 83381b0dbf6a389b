-- What the acts of a machine do to the links and to the floor, and which of them the report tells.
use Rattle.std.specs.Prelude.{ℕ, ◌+◌, ◌==◌, ◌&&◌, Bool, true, false, List, [], ◌∷◌, ◌++◌, Some}
use Rattle.line_base.specs.declared.states.Side.{Side}
use Rattle.line_base.specs.declared.states.Side.TheVariants.{Entry, Exit}
use Rattle.hermes_horizontal.specs.Canonical.{canonical}
use Rattle.hermes_horizontal.specs.declared.message.Message.{Message}
use Rattle.hermes_horizontal.specs.declared.message.Horizontal.{Horizontal}
use Rattle.hermes_horizontal.specs.declared.message.Horizontal.TheVariants as bodies
use Rattle.line_world.specs.FloorPlan.{FloorPlan, gap_at, machine_at, with_boards, with_drive, with_gap, with_new_id, without_board}
use Rattle.line_link.specs.Link.{after_answer, after_close, after_send, answer_sent, sent_of}
use Rattle.line_link.specs.declared.link.Sent.{Sent}
use Rattle.line_link.specs.declared.link.Sent.TheVariants as sent
use Rattle.node_core.specs.declared.act.Act.{Act}
use Rattle.node_core.specs.declared.act.Act.TheVariants as acts
use Rattle.node_core.specs.declared.act.Deed.{Deed}
use Rattle.node_core.specs.declared.act.Deed.TheVariants as deeds
use Rattle.line_step.specs.World.{WorldParts, end_of, link_at, link_of, with_floor, with_link}
use Rattle.line_report.specs.declared.happening.Happening.{Happening}
use Rattle.line_report.specs.declared.happening.Happening.TheVariants as happenings

-- the world after an event, and what is told of it
pub record Effect : Type 0 where
  pub world : WorldParts
  pub told : List Happening

abbrev pub told_of_act : ℕ → Act → List Happening
told_of_act machine act = happenings.Done machine act ∷ []

-- ---- texts on a link

-- too much on its way cuts the link, which is told just after what caused it
abbrev pub cut_told : ℕ → Sent → List Happening
cut_told link sent.Cuts = happenings.Cut link ∷ []
cut_told link sent.Flows = []
cut_told link sent.Vanishes = []

-- the text that a machine answers a second connection with
abbrev pub is_answer : Horizontal → Bool
is_answer (bodies.Notification code severity text) = code.number == 2
is_answer _ = false

abbrev pub is_exit : Side → Bool
is_exit Exit = true
is_exit Entry = false

-- a message is that answer, in the step of a second connection
abbrev pub answers : Bool → Side → Message → Bool
answers second side message = second && (is_exit side && is_answer message.body)

abbrev pub sends_on : ℕ → Side → List ℕ → WorldParts → WorldParts
sends_on machine side text world =
    with_link (link_of machine side)
    (after_send (end_of side) text (link_at (link_of machine side) world)) world

abbrev pub closes_on : ℕ → Side → WorldParts → WorldParts
closes_on machine side world =
    with_link (link_of machine side)
    (after_close (end_of side) (link_at (link_of machine side) world)) world

abbrev pub answers_on : ℕ → List ℕ → WorldParts → WorldParts
answers_on machine text world = with_link machine (after_answer text (link_at machine world)) world

-- a machine sends a message. In the step of a second connection the answer to it flows to the
-- downstream end, though the link doesn't stand
abbrev pub sent_by : Bool → ℕ → Side → Message → WorldParts → Effect
sent_by true machine side message world = record {
  world = answers_on machine (canonical message) world;
  told = happenings.Done machine (acts.Sends side message) ∷ cut_told machine
      (answer_sent (canonical message) (link_at machine world));
}
sent_by false machine side message world = record {
  world = sends_on machine side (canonical message) world;
  told = happenings.Done machine (acts.Sends side message) ∷ cut_told (link_of machine side)
      (sent_of (end_of side) (canonical message) (link_at (link_of machine side) world));
}

-- ---- the floor

abbrev pub drives_on : ℕ → Side → Bool → FloorPlan → FloorPlan
drives_on machine side on floor =
    with_gap floor (link_of machine side)
    (with_drive (gap_at floor (link_of machine side)) side on)

abbrev pub lays : ℕ → ℕ → FloorPlan → FloorPlan
lays machine id floor =
    with_boards floor machine ((machine_at floor machine).boards ++ record { id = Some id } ∷ [])

abbrev pub takes_off : ℕ → ℕ → FloorPlan → FloorPlan
takes_off machine id floor =
    with_boards floor machine (without_board id (machine_at floor machine).boards)

abbrev pub changes : ℕ → ℕ → ℕ → FloorPlan → FloorPlan
changes machine old new floor =
    with_boards floor machine (with_new_id old new (machine_at floor machine).boards)

-- ---- deeds are counted

abbrev pub counted : Deed → WorldParts → WorldParts
counted (deeds.Opens id) world = record world { opened = world.opened + 1 }
counted (deeds.Settles id) world = record world { settled = world.settled + 1 }
counted _ world = world

-- ---- an act

-- an act of a machine in a step, which is that of a second connection or not. A drive is not told
abbrev pub act_did : Bool → ℕ → Act → WorldParts → Effect
act_did second machine (acts.Sends side message) world =
    sent_by (answers second side message) machine side message world
act_did second machine (acts.Closes side) world =
    record { world = closes_on machine side world; told = told_of_act machine (acts.Closes side) }
act_did second machine (acts.Notices side) world =
    record { world = closes_on machine side world; told = told_of_act machine (acts.Notices side) }
act_did second machine (acts.Drive side on) world =
    record { world = with_floor (drives_on machine side on world.floor) world; told = [] }
act_did second machine (acts.Deed deed) world =
    record { world = counted deed world; told = told_of_act machine (acts.Deed deed) }
act_did second machine (acts.Inserts id) world =
    record {
      world = with_floor (lays machine id world.floor) world;
      told = told_of_act machine (acts.Inserts id);
    }
act_did second machine (acts.Removes id) world =
    record {
      world = with_floor (takes_off machine id world.floor) world;
      told = told_of_act machine (acts.Removes id);
    }
act_did second machine (acts.Replaces old new) world =
    record {
      world = with_floor (changes machine old new world.floor) world;
      told = told_of_act machine (acts.Replaces old new);
    }
act_did second machine (acts.Gives id to) world =
    record {
      world = with_floor (takes_off machine id world.floor) world;
      told = told_of_act machine (acts.Gives id to);
    }
act_did second machine (acts.Gets id) world =
    record {
      world = with_floor (lays machine id world.floor) world;
      told = told_of_act machine (acts.Gets id);
    }
act_did second machine act world = record { world = world; told = told_of_act machine act }

-- the acts of a step in their order
abbrev pub acts_did : Bool → ℕ → List Act → WorldParts → Effect
acts_did second machine [] world = record { world = world; told = [] }
acts_did second machine (act ∷ acts) world = record {
  world = (acts_did second machine acts (act_did second machine act world).world).world;
  told = (act_did second machine act world).told
      ++ (acts_did second machine acts (act_did second machine act world).world).told;
}
