-- THE RELATION OF A MACHINE AND ITS TWO LINKS, and what a micro event does to it.
use Rattle.std.specs.Prelude.{Bool, List, None, Option, Some, false, true, ℕ, ◌∷◌, ◌≡◌, ◌⊎◌}
use Rattle.line_base.specs.declared.states.Role.TheVariants.{Downstream, Upstream}
use Rattle.line_base.specs.declared.states.SensorEvent.TheVariants as event
use Rattle.line_base.specs.declared.states.Side.TheVariants.{Entry}
use Rattle.board_record.specs.declared.record.Record.{Record}
use Rattle.board_record.specs.declared.sensed.Sensed.{Sensed}
use Rattle.line_world.specs.declared.board.Board.{Board}
use Rattle.handover_out.specs.State.{board_of_phase as held_out}
use Rattle.handover_out.specs.declared.phase.Phase.{Phase as Out}
use Rattle.handover_in.specs.State.{board_of_phase as held_in}
use Rattle.handover_in.specs.declared.phase.Phase.{Phase as In}
use Rattle.node_core.specs.Done.{Done}
use Rattle.node_core.specs.declared.lane.Body.{Body as Machine}
use Rattle.law_custody.specs.Contents.{Foremost, IsRecent}
use Rattle.law_custody.specs.Events.{IsContent, gone_by}
use Rattle.law_custody.specs.Facts.{Has}
use Rattle.law_custody.specs.Pair.{Body, Ghost, Pair}
use Rattle.law_custody.specs.Place.{Place, is_away, is_inside, is_upstream}
use Rattle.law_custody.specs.Unread.{NotOver}
use Rattle.law_custody.specs.Words.{events_at}
use Rattle.law_machine_custody.specs.Scene.{Scene, all_met, link_above, link_below}

-- a board with this id is among these
pub data Lies : ℕ → List Board → Type 0 where
  lies_first : {x : ℕ} {bs : List Board} → Lies x (record { id = Some x } ∷ bs)
  lies_later : {x : ℕ} {b : Board} {bs : List Board} → Lies x bs → Lies x (b ∷ bs)

-- what a machine's step leaves as it is: the ids that went from the floor by its entry's gap or by
-- the hands at the machine above, those that went by its exit's gap or by the hands at the machine
-- itself, and the ids of boards that don't lie at it
pub record Afar : Type 0 where
  pub gone_above : ℕ → Bool
  pub gone_below : ℕ → Bool
  pub elsewhere : ℕ → Bool

-- what the halves of a handover hold, by the place of its board: what the outlet holds of a board
-- that is inside, the intake holds too; a board that was taken out by hand is gone; and while the
-- intake alone holds a board that is upstream, it is the front there and was offered last, or gone
pub record Holds (gone : ℕ → Bool) (kept : List Record) (last : Option ℕ) (p : Place) (o : Out)
    (i : In) : Type 0 where
  pub inside : (q : Record) → held_out o ≡ Some q → is_inside p ≡ true → held_in i ≡ Some q
  pub away_out : (q : Record) → held_out o ≡ Some q → is_away p ≡ true → gone q.id ≡ true
  pub away_in : (q : Record) → held_in i ≡ Some q → is_away p ≡ true → gone q.id ≡ true
  pub upstream : (q : Record) → held_in i ≡ Some q → held_out o ≡ None → is_upstream p ≡ true
      → Foremost q.id last kept ⊎ (gone q.id ≡ true)

-- a machine that has not read these sensor events stands in the relation of both its links: the
-- ghosts name place and board of each. `above` are the records that the machine above keeps. What
-- each handover's halves hold is where the ghost says. What it offers and what its outlet holds was
-- offered last. No board that lies here is gone by this
-- machine, and what its outlet holds lies elsewhere once it isn't upstream
pub record Good (afar : Afar) (above : List Record) (unread : List Sensed) (ga gb : Ghost)
    (body : Machine) (c : Scene) : Type 0 where
  pub above_pair : Pair ga (link_above unread body c)
  pub below_pair : Pair gb (link_below unread body c)
  pub boards : Body body.outlet.phase gb.place body.kept body.intake.phase ga.place c.boards
  pub above_contents : IsContent (gone_by afar.gone_above) (link_above unread body c) above
  pub below_contents : IsContent (gone_by afar.gone_below) (link_below unread body c) body.kept
  pub above_holds : Holds afar.gone_above above c.above.last_offer ga.place c.above.outlet.phase
      body.intake.phase
  pub below_holds : Holds afar.gone_below body.kept body.last_offer gb.place body.outlet.phase
      c.below.intake.phase
  pub recent : IsRecent body.last_offer body.outlet
  pub entry_role : body.entry.session.role ≡ Downstream
  pub exit_role : body.exit.session.role ≡ Upstream
  pub away : (r : Record) → held_out body.outlet.phase ≡ Some r → is_upstream gb.place ≡ false
      → afar.elsewhere r.id ≡ true
  pub here : (x : ℕ) → Lies x c.boards → afar.gone_below x ≡ true → ⊥

-- the boards of the machine above are listed from one ghost to another, and those of the machine
-- below
abbrev pub ListsAbove : Out → Ghost → Out → Ghost → Type 0
ListsAbove o g o2 g2 =
    (kept : List Record) (i : In) (q : Place) (boards : List Board)
    → Body o g.place kept i q boards → Body o2 g2.place kept i q boards

abbrev pub ListsBelow : In → Ghost → In → Ghost → Type 0
ListsBelow i g i2 g2 =
    (o : Out) (p : Place) (kept : List Record) (boards : List Board)
    → Body o p kept i g.place boards → Body o p kept i2 g2.place boards

-- a machine that has these events unread has read that the board at its entry begins, where that
-- has gone across
abbrev pub ReadsFirst : List Sensed → Ghost → Type 0
ReadsFirst unread g = Has event.Begun (events_at Entry unread) → NotOver g.place

-- what holds behind a micro event that left these sensor events unread. What was read first is so
-- still, and a board below that has not gone across is none that has
pub record Goes (afar : Afar) (above : List Record) (unread : List Sensed) (ga gb : Ghost)
    (c : Scene) (after : Machine) (d : Scene) : Type 0 where
  pub a : Ghost
  pub b : Ghost
  pub good : Good afar above unread a b after d
  pub lists_above : ListsAbove c.above.outlet.phase ga d.above.outlet.phase a
  pub lists_below : ListsBelow c.below.intake.phase gb d.below.intake.phase b
  pub still_first : ReadsFirst unread ga → ReadsFirst unread a
  pub still_over : NotOver gb.place → NotOver b.place

-- a micro event that keeps it
abbrev pub GoesBy : Afar → List Record → List Sensed → Ghost → Ghost → Scene → Done → Type 0
GoesBy afar above unread ga gb c d = Goes afar above unread ga gb c d.body (all_met d.acts c)
