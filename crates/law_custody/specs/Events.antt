-- The events of a machine and of a link, over the values of a link.
use Rattle.std.specs.Prelude.{Bool, List, None, Option, Some, [], false, is_some, true, unwrap_or, ℕ, ◌∷◌, ◌≡◌, ◌⊎◌}
use Rattle.board_record.specs.declared.record.Record.{Record}
use Rattle.board_record.specs.declared.sensed.Sensed.{Sensed}
use Rattle.hermes_horizontal.specs.declared.message.Horizontal.{Horizontal}
use Rattle.hermes_horizontal.specs.declared.message.Horizontal.TheVariants as message
use Rattle.hermes_horizontal.specs.declared.message.Service.{Service}
use Rattle.session_core.specs.declared.state.SessionState.TheVariants.{Handshake, NotConnected, Standing}
use Rattle.line_world.specs.declared.board.Board.{Board}
use Rattle.handover_out.specs.Row.{OutRow, last_after, outlet_row}
use Rattle.handover_out.specs.State.{board_of_phase as held_out}
use Rattle.handover_out.specs.declared.input.OutInput.{OutInput}
use Rattle.handover_out.specs.declared.input.OutInput.TheVariants as out_input
use Rattle.handover_out.specs.declared.phase.Phase.{Phase as Out}
use Rattle.handover_in.specs.Row.{InRow, intake_row}
use Rattle.handover_in.specs.State.{board_of_phase as held_in}
use Rattle.handover_in.specs.declared.input.InInput.{InInput}
use Rattle.handover_in.specs.declared.input.InInput.TheVariants as in_input
use Rattle.handover_in.specs.declared.phase.Phase.{Phase as In}
use Rattle.law_custody.specs.Contents.{Contents}
use Rattle.law_custody.specs.LookBack.{Asked, LetGo, Recalls, Settles, Since, answered_after, asked_after, dropped_after, just_started, let_after, since_after}
use Rattle.law_custody.specs.Pair.{Body, Ghost, LinkState, Pair, back_to, keep_at}
use Rattle.law_custody.specs.Place.{Fresh, Place}
use Rattle.law_custody.specs.Words.{down_words, in_says, out_says, sent, starts_in, up_words}

-- a link after a row of its outlet: what is still unread and unheard, and the messages that are
-- said
abbrev pub exit_after : LinkState → OutRow → List Sensed → List Horizontal → List Horizontal
    → LinkState
exit_after l row unread up ms = record l {
  outlet = row.after;
  last_offer = last_after row l.last_offer;
  up = up;
  down = sent ms l.stands l.down;
  around = record l.around {
    up = record l.around.up { unread = unread };
    between =
        record l.around.between { exit_drive = unwrap_or row.act.drive l.around.between.exit_drive };
  };
}

-- and after a row of its intake
abbrev pub entry_after : LinkState → InRow → List Sensed → List Horizontal → List Horizontal
    → LinkState
entry_after l row unread down ms = record l {
  intake = row.after;
  up = sent ms l.stands l.up;
  down = down;
  around = record l.around {
    down = record l.around.down { unread = unread };
    between =
        record l.around.between {
          entry_drive = unwrap_or row.act.drive l.around.between.entry_drive;
        };
  };
}

abbrev pub with_unread_up : LinkState → List Sensed → LinkState
with_unread_up l ss =
    record l { around = record l.around { up = record l.around.up { unread = ss } } }

abbrev pub with_unread_down : LinkState → List Sensed → LinkState
with_unread_down l ss =
    record l { around = record l.around { down = record l.around.down { unread = ss } } }

-- a link whose upstream machine has read all events and hears this message, and one whose
-- downstream machine does
abbrev pub hearing_up : LinkState → Horizontal → List Horizontal → LinkState
hearing_up l m rest = record (with_unread_up l []) { up = m ∷ rest }

abbrev pub hearing_down : LinkState → Horizontal → List Horizontal → LinkState
hearing_down l m rest = record (with_unread_down l []) { down = m ∷ rest }

-- a link after the close of its exit, whose outlet has this row: it stands no more, and what flows
-- to the exit is gone. What was said before the close can still arrive
abbrev pub exit_shut : LinkState → OutRow → List Horizontal → LinkState
exit_shut l row ms = record l {
  exit = NotConnected;
  outlet = row.after;
  last_offer = last_after row l.last_offer;
  stands = false;
  up = [];
  down = sent ms l.stands l.down;
  around = record l.around {
    between = record l.around.between
        { exit_drive = unwrap_or row.act.drive l.around.between.exit_drive };
  };
}

-- and after the close of its entry
abbrev pub entry_shut : LinkState → InRow → List Horizontal → LinkState
entry_shut l row ms = record l {
  entry = NotConnected;
  intake = row.after;
  stands = false;
  up = sent ms l.stands l.up;
  down = [];
  around = record l.around {
    between = record l.around.between
        { entry_drive = unwrap_or row.act.drive l.around.between.entry_drive };
  };
}

-- the ids that a test says are gone from the floor
abbrev pub gone_by : (ℕ → Bool) → ℕ → Type 0
gone_by gone id = gone id ≡ true

-- what was offered and what is on its way, as the relation of a link's contents has it
abbrev pub IsContent : (Gone : ℕ → Type 0) → LinkState → List Record → Type 0
IsContent Gone l kept =
    Contents Gone l.stands kept l.outlet.touched l.last_offer l.intake.phase l.intake.offer
    (up_words l.up) (down_words l.down)

-- and the last start that the entry said
abbrev pub IsAsked : LinkState → Option ℕ → Bool → Type 0
IsAsked l last dropped =
    Asked (starts_in (up_words l.up)) last dropped (is_some (held_in l.intake.phase))

-- an event of the exit that has a row: the relation of the link, that of the machine, what is
-- offered, and the record let go last go on. The link before is l with the events that are read
-- and the message that is heard still there
pub record ExitStep (Gone : ℕ
    → Type 0) (g : Ghost) (l : LinkState) (w : OutInput) (unread : List Sensed)
    (rest : List Horizontal) : Type 0 where
  pub row : OutRow
  pub is : outlet_row l.outlet w ≡ Some row
  pub pair : (ms : List Horizontal) → down_words ms ≡ out_says row.act.send None
      → Pair g (exit_after l row unread rest ms)
  pub body : (kept : List Record) (i : In) (q : Place) (boards : List Board)
      → Body l.outlet.phase g.place kept i q boards
      → Body row.after.phase g.place (back_to row.act.back kept) i q boards
  pub contents : (kept : List Record) (ms : List Horizontal)
      → down_words ms ≡ out_says row.act.send None → IsContent Gone l kept
      → IsContent Gone (exit_after l row unread rest ms) (back_to row.act.back kept)
  pub lets : (last : Option Record) → LetGo g.place l.outlet.phase g.board last
      → LetGo g.place row.after.phase g.board
      (let_after row.act.deed (held_out l.outlet.phase) last)
  pub asked : (ms : List Horizontal) (last : Option ℕ) (dropped : Bool) → IsAsked l last dropped
      → IsAsked (exit_after l row unread rest ms) (answered_after row.act.deed last) dropped

-- an event of the entry that has a row. `above` are the boards that the machine above keeps, of
-- which it offers; what settles goes behind those of the entry's own machine
pub record EntryStep (Gone : ℕ
    → Type 0) (above : List Record) (g : Ghost) (l : LinkState) (w : InInput)
    (unread : List Sensed) (rest : List Horizontal) : Type 0 where
  pub row : InRow
  pub is : intake_row l.intake w ≡ Some row
  pub pair : (ms : List Horizontal) → up_words ms ≡ in_says row.act.send
      → Pair g (entry_after l row unread rest ms)
  pub body : (o : Out) (p : Place) (kept : List Record) (boards : List Board)
      → Body o p kept l.intake.phase g.place boards
      → Body o p (keep_at row.act.keep kept) row.after.phase g.place boards
  pub contents : (ms : List Horizontal) → up_words ms ≡ in_says row.act.send
      → IsContent Gone l above → IsContent Gone (entry_after l row unread rest ms) above
  pub settles : (q : Record) → row.act.keep ≡ Some q
      → Settles l.outlet.phase g.place g.board q w l.intake.phase
  pub recalls : (s : Since) → Recalls l.intake.phase s → Recalls row.after.phase (since_after w s)
  pub asked : (ms : List Horizontal) → up_words ms ≡ in_says row.act.send
      → (last : Option ℕ) (dropped : Bool) → IsAsked l last dropped
      → IsAsked (entry_after l row unread rest ms) (asked_after row.act.deed last)
      (dropped_after row.act.deed dropped)

-- a start that is heard: the machine took this record from the front of its boards, or none. The
-- ghost may be aimed at another board, which has not begun
pub record StartStep (Gone : ℕ
    → Type 0) (g : Ghost) (l : LinkState) (z : ℕ) (brought : Option Record)
    (rest : List Horizontal) : Type 0 where
  pub row : OutRow
  pub is : outlet_row l.outlet (out_input.Start z brought) ≡ Some row
  pub after : Ghost
  pub fresh : (after.place ≡ g.place) ⊎ (after.place ≡ Fresh)
  pub pair : (ms : List Horizontal) → down_words ms ≡ out_says row.act.send None
      → Pair after (exit_after l row [] rest ms)
  pub body : (kept : List Record) (i : In) (q : Place) (boards : List Board)
      → Body l.outlet.phase g.place (back_to brought kept) i q boards
      → Body row.after.phase after.place kept i q boards
  pub below : (o : Out) (p : Place) (kept : List Record) (boards : List Board)
      → Body o p kept l.intake.phase g.place boards
      → Body o p kept l.intake.phase after.place boards
  pub contents : (kept : List Record) (ms : List Horizontal)
      → down_words ms ≡ out_says row.act.send None
      → IsContent Gone (exit_after l row [] rest ms) kept
  pub lets : (last : Option Record) → LetGo g.place l.outlet.phase g.board last
      → LetGo after.place row.after.phase after.board
      (let_after row.act.deed (held_out l.outlet.phase) last)
  pub asked : (ms : List Horizontal) (last : Option ℕ) (dropped : Bool)
      → IsAsked (exit_after l row [] rest ms) last dropped

-- a start that an entry says: the ghost is aimed at the offered board
pub record StartSaid (Gone : ℕ
    → Type 0) (above : List Record) (g : Ghost) (l : LinkState) : Type 0 where
  pub row : InRow
  pub is : intake_row l.intake in_input.Start ≡ Some row
  pub after : Ghost
  pub pair : (ms : List Horizontal) → up_words ms ≡ in_says row.act.send
      → Pair after (entry_after l row [] l.down ms)
  pub body : (o : Out) (p : Place) (kept : List Record) (boards : List Board)
      → Body o p kept l.intake.phase g.place boards
      → Body o p (keep_at row.act.keep kept) row.after.phase after.place boards
  pub above_body : (kept : List Record) (i : In) (q : Place) (boards : List Board)
      → Body l.outlet.phase g.place kept i q boards
      → Body l.outlet.phase after.place kept i q boards
  pub contents : (ms : List Horizontal) → up_words ms ≡ in_says row.act.send
      → IsContent Gone l above → IsContent Gone (entry_after l row [] l.down ms) above
  pub lets : (last : Option Record) → LetGo after.place l.outlet.phase after.board last
  pub recalls : Recalls row.after.phase just_started
  pub asked : (ms : List Horizontal) → up_words ms ≡ in_says row.act.send
      → (last : Option ℕ) (dropped : Bool)
      → IsAsked (entry_after l row [] l.down ms) (asked_after row.act.deed last)
      (dropped_after row.act.deed dropped)

-- the close of an exit, and that of an entry
pub record ExitShut (Gone : ℕ → Type 0) (g : Ghost) (l : LinkState) : Type 0 where
  pub row : OutRow
  pub is : outlet_row l.outlet out_input.Closed ≡ Some row
  pub silent : row.act.send ≡ None
  pub pair : (ms : List Horizontal) → down_words ms ≡ [] → Pair g (exit_shut l row ms)
  pub body : (kept : List Record) (i : In) (q : Place) (boards : List Board)
      → Body l.outlet.phase g.place kept i q boards
      → Body row.after.phase g.place (back_to row.act.back kept) i q boards
  pub contents : (kept : List Record) (ms : List Horizontal) → down_words ms ≡ []
      → IsContent Gone l kept → IsContent Gone (exit_shut l row ms) (back_to row.act.back kept)
  pub lets : (last : Option Record) → LetGo g.place l.outlet.phase g.board last
      → LetGo g.place row.after.phase g.board
      (let_after row.act.deed (held_out l.outlet.phase) last)

pub record EntryShut (Gone : ℕ
    → Type 0) (above : List Record) (g : Ghost) (l : LinkState) : Type 0 where
  pub row : InRow
  pub is : intake_row l.intake in_input.Closed ≡ Some row
  pub silent : row.act.send ≡ None
  pub settles_not : row.act.keep ≡ None
  pub pair : (ms : List Horizontal) → up_words ms ≡ [] → Pair g (entry_shut l row ms)
  pub body : (o : Out) (p : Place) (kept : List Record) (boards : List Board)
      → Body o p kept l.intake.phase g.place boards → Body o p kept row.after.phase g.place boards
  pub contents : (ms : List Horizontal) → up_words ms ≡ []
      → IsContent Gone (entry_shut l row ms) above
  pub recalls : (s : Since) → Recalls l.intake.phase s
      → Recalls row.after.phase (since_after in_input.Closed s)
  pub asked : (ms : List Horizontal) → up_words ms ≡ [] → (last : Option ℕ) (dropped : Bool)
      → IsAsked l last dropped
      → IsAsked (entry_shut l row ms) (asked_after row.act.deed last)
      (dropped_after row.act.deed dropped)

-- a link whose exit offers this record, and one whose exit takes its offer back
abbrev pub offered_on : LinkState → Record → LinkState
offered_on l q =
    record l {
      outlet = record l.outlet { offered = Some q.id; touched = Some q.id };
      last_offer = Some q.id;
      down = sent (message.BoardAvailable q ∷ []) l.stands l.down;
    }

abbrev pub revoked_on : LinkState → LinkState
revoked_on l =
    record l {
      outlet = record l.outlet { offered = None };
      down = sent (message.RevokeBoardAvailable ∷ []) l.stands l.down;
    }

-- an exit that heard a description has answered it
abbrev pub described_on : LinkState → Service → Service → List Horizontal → LinkState
described_on l service answer rest =
    record (hearing_up l (message.ServiceDescription service) rest) {
      exit = Standing;
      up = rest;
      down = sent (message.ServiceDescription answer ∷ []) l.stands l.down;
    }

-- the downstream machine has called, and its description is on its way
abbrev pub called_on : LinkState → Service → LinkState
called_on l service = record l { entry = Handshake; up = message.ServiceDescription service ∷ [] }

-- a link that is cut
abbrev pub cut_on : LinkState → LinkState
cut_on l = record l { stands = false; up = []; down = [] }
