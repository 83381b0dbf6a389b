-- What a done move does around its gap: the laws of the move table.
use Rattle.std.proofs.Common.{◌≡◌, ◌++◌, ◌∷◌, [], List, Bool, true, false, refl, sym, subst, append_assoc, append-nil}
use Rattle.std.specs.Prelude.{Result, Ok}
use Rattle.line_base.specs.declared.states.Side.TheVariants as sides
use Rattle.board_record.specs.declared.sensed.Sensed.{Sensed}
use Rattle.line_world.specs.declared.board.Board.{Board}
use Rattle.line_world.specs.declared.gap.Gap.{Gap}
use Rattle.line_world.specs.declared.gap.Gap.TheVariants as gaps
use Rattle.line_world.specs.declared.moves.Move.{Move}
use Rattle.line_world.specs.declared.moves.Move.TheVariants as moves
use Rattle.line_world.specs.declared.moves.MoveNo.{MoveNo}
use Rattle.line_world.specs.Moves.{Around, around_move}
use Rattle.line_world.specs.Boards.{KeepsBoards}
use Rattle.line_world.specs.Events.{event_of, seen_at}
use Rattle.line_world.proofs.Along.{boards_around}

pub record Moved (step : Move) (old new : Around) : Type 0 where
  pub boards : KeepsBoards step old.between.lies (boards_around old) (boards_around new)
  pub exit : new.up.unread ≡ old.up.unread ++ seen_at sides.Exit (event_of step)
  pub entry : new.down.unread ≡ old.down.unread ++ seen_at sides.Entry (event_of step)

same_ok : (a b : Around) → ◌≡◌ {A = Result Around MoveNo} (Ok a) (Ok b) → a ≡ b
same_ok a b h = cc

abbrev around_with : Gap → Bool → Bool → List Board → List Sensed → List Board → List Sensed → Around
around_with lies exit entry boards seen below heard = record {
  up = record { boards = boards; unread = seen };
  between = record { lies = lies; exit_drive = exit; entry_drive = entry };
  down = record { boards = below; unread = heard };
}

module _ (seen : List Sensed) (below : List Board) (heard : List Sensed) (new : Around) where
  begun : (lies : Gap) (exit entry : Bool) (boards : List Board) → around_move moves.Begin (around_with lies exit entry boards seen below heard) ≡ Ok new → Moved moves.Begin (around_with lies exit entry boards seen below heard) new
  begun lies false entry boards h = absurd (cc)
  begun (gaps.Begun b) true entry boards h = absurd (cc)
  begun (gaps.Left b) true entry boards h = absurd (cc)
  begun gaps.Free true entry [] h = absurd (cc)
  begun gaps.Free true entry (b ∷ boards) h = subst (λ a. Moved moves.Begin (around_with gaps.Free true entry (b ∷ boards) seen below heard) a) (same_ok _ new h) (record { boards = refl; exit = refl; entry = refl })

  gone : (lies : Gap) (exit entry : Bool) (boards : List Board) → around_move moves.Left (around_with lies exit entry boards seen below heard) ≡ Ok new → Moved moves.Left (around_with lies exit entry boards seen below heard) new
  gone gaps.Free exit entry boards h = absurd (cc)
  gone (gaps.Left b) exit entry boards h = absurd (cc)
  gone (gaps.Begun b) false entry boards h = absurd (cc)
  gone (gaps.Begun b) true false boards h = absurd (cc)
  gone (gaps.Begun b) true true boards h = subst (λ a. Moved moves.Left (around_with (gaps.Begun b) true true boards seen below heard) a) (same_ok _ new h) (record { boards = refl; exit = refl; entry = sym (append-nil heard) })

  entered : (lies : Gap) (exit entry : Bool) (boards : List Board) → around_move moves.Enter (around_with lies exit entry boards seen below heard) ≡ Ok new → Moved moves.Enter (around_with lies exit entry boards seen below heard) new
  entered gaps.Free exit entry boards h = absurd (cc)
  entered (gaps.Begun b) exit entry boards h = absurd (cc)
  entered (gaps.Left b) exit false boards h = absurd (cc)
  entered (gaps.Left b) exit true boards h = subst (λ a. Moved moves.Enter (around_with (gaps.Left b) exit true boards seen below heard) a) (same_ok _ new h) (record { boards = append_assoc below (b ∷ []) boards; exit = sym (append-nil seen); entry = refl })

  back : (lies : Gap) (exit entry : Bool) (boards : List Board) → around_move moves.Back (around_with lies exit entry boards seen below heard) ≡ Ok new → Moved moves.Back (around_with lies exit entry boards seen below heard) new
  back gaps.Free exit entry boards h = absurd (cc)
  back (gaps.Left b) exit entry boards h = absurd (cc)
  back (gaps.Begun b) true entry boards h = absurd (cc)
  back (gaps.Begun b) false entry boards h = subst (λ a. Moved moves.Back (around_with (gaps.Begun b) false entry boards seen below heard) a) (same_ok _ new h) (record { boards = refl; exit = refl; entry = refl })

  handed_in : (lies : Gap) (exit entry : Bool) (boards : List Board) → around_move moves.HandIn (around_with lies exit entry boards seen below heard) ≡ Ok new → Moved moves.HandIn (around_with lies exit entry boards seen below heard) new
  handed_in gaps.Free exit entry boards h = absurd (cc)
  handed_in (gaps.Begun b) exit entry boards h = absurd (cc)
  handed_in (gaps.Left b) exit true boards h = absurd (cc)
  handed_in (gaps.Left b) exit false boards h = subst (λ a. Moved moves.HandIn (around_with (gaps.Left b) exit false boards seen below heard) a) (same_ok _ new h) (record { boards = append_assoc below (b ∷ []) boards; exit = sym (append-nil seen); entry = refl })

  taken : (lies : Gap) (exit entry : Bool) (boards : List Board) → around_move moves.Take (around_with lies exit entry boards seen below heard) ≡ Ok new → Moved moves.Take (around_with lies exit entry boards seen below heard) new
  taken gaps.Free exit entry boards h = absurd (cc)
  taken (gaps.Begun b) true entry boards h = absurd (cc)
  taken (gaps.Left b) exit true boards h = absurd (cc)
  taken (gaps.Begun b) false entry boards h = subst (λ a. Moved moves.Take (around_with (gaps.Begun b) false entry boards seen below heard) a) (same_ok _ new h) (record { boards = (b, refl, record { front = below; back = boards; before = refl; after = refl }); exit = refl; entry = refl })
  taken (gaps.Left b) exit false boards h = subst (λ a. Moved moves.Take (around_with (gaps.Left b) exit false boards seen below heard) a) (same_ok _ new h) (record { boards = (b, refl, record { front = below; back = boards; before = refl; after = refl }); exit = refl; entry = refl })

pub moved : (step : Move) (old new : Around) → around_move step old ≡ Ok new → Moved step old new
moved moves.Begin old new h = begun old.up.unread old.down.boards old.down.unread new old.between.lies old.between.exit_drive old.between.entry_drive old.up.boards h
moved moves.Left old new h = gone old.up.unread old.down.boards old.down.unread new old.between.lies old.between.exit_drive old.between.entry_drive old.up.boards h
moved moves.Enter old new h = entered old.up.unread old.down.boards old.down.unread new old.between.lies old.between.exit_drive old.between.entry_drive old.up.boards h
moved moves.Back old new h = back old.up.unread old.down.boards old.down.unread new old.between.lies old.between.exit_drive old.between.entry_drive old.up.boards h
moved moves.HandIn old new h = handed_in old.up.unread old.down.boards old.down.unread new old.between.lies old.between.exit_drive old.between.entry_drive old.up.boards h
moved moves.Take old new h = taken old.up.unread old.down.boards old.down.unread new old.between.lies old.between.exit_drive old.between.entry_drive old.up.boards h
