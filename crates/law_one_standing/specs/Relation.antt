-- THE RELATION OF A LINE, by numbers: machines, and what is between them, as functions of their
-- number.
use Rattle.std.specs.Prelude.{Bool, List, ℕ, ◌≡◌}
use Rattle.line_base.specs.declared.states.Role.TheVariants.{Downstream, Upstream}
use Rattle.hermes_horizontal.specs.declared.message.Horizontal.{Horizontal}
use Rattle.line_world.specs.FloorPlan.{AtMachine}
use Rattle.line_world.specs.declared.gap.AtGap.{AtGap}
use Rattle.node_core.specs.Halves.{OffersFront}
use Rattle.node_core.specs.declared.lane.Body.{Body as Machine}
use Rattle.law_custody.specs.Contents.{IsRecent}
use Rattle.law_custody.specs.Events.{IsContent, gone_by}
use Rattle.law_custody.specs.Pair.{Body, Ghost, LinkState, Pair}
use Rattle.law_machine_custody.specs.Good.{Holds}
use Rattle.law_machine_custody.specs.Scene.{Scene}

-- a machine, and what is at it on the floor
pub record Stand : Type 0 where
  pub body : Machine
  pub place : AtMachine

-- what is between two machines: the ghost of their handover, whether the link stands, the gap, the
-- messages that are sent and not heard, and the ids that went from the floor here: by a hand at
-- the machine above, or out of the gap
pub record Between : Type 0 where
  pub ghost : Ghost
  pub stands : Bool
  pub gap : AtGap
  pub up : List Horizontal
  pub down : List Horizontal
  pub gone : ℕ → Bool

abbrev pub link_between : Stand → Between → Stand → LinkState
link_between above b below = record {
  exit = above.body.exit.session.state;
  outlet = above.body.outlet;
  last_offer = above.body.last_offer;
  entry = below.body.entry.session.state;
  intake = below.body.intake;
  stands = b.stands;
  around = record { up = above.place; between = b.gap; down = below.place };
  up = b.up;
  down = b.down;
}

-- what a machine has around it
abbrev pub scene_between : Stand → Between → Stand → Between → Stand → Scene
scene_between above ba me bb below = record {
  boards = me.place.boards;
  above = record {
    exit = above.body.exit.session.state;
    outlet = above.body.outlet;
    last_offer = above.body.last_offer;
    stands = ba.stands;
    gap = ba.gap;
    far = above.place;
    up = ba.up;
    down = ba.down;
  };
  below = record {
    entry = below.body.entry.session.state;
    intake = below.body.intake;
    stands = bb.stands;
    gap = bb.gap;
    far = below.place;
    up = bb.up;
    down = bb.down;
  };
}

-- two neighbours: the relation of their link, what is offered on it, and what its halves hold
pub record Neighbours (above : Stand) (b : Between) (below : Stand) : Type 0 where
  pub pair : Pair b.ghost (link_between above b below)
  pub contents : IsContent (gone_by b.gone) (link_between above b below) above.body.kept
  pub holds : Holds b.gone above.body.kept above.body.last_offer b.ghost.place
      above.body.outlet.phase below.body.intake.phase

-- a machine: its boards are those of its outlet, those that it keeps and that of its intake, it
-- offers the front one, and what it offers and what its outlet holds was offered last
pub record Owns (above : Between) (me : Stand) (below : Between) : Type 0 where
  pub boards : Body me.body.outlet.phase below.ghost.place me.body.kept me.body.intake.phase
      above.ghost.place me.place.boards
  pub entry_role : me.body.entry.session.role ≡ Downstream
  pub exit_role : me.body.exit.session.role ≡ Upstream
  pub offers : OffersFront me.body
  pub recent : IsRecent me.body.last_offer me.body.outlet
