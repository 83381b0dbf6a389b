-- A bridge: what it does where a level of its segment changes, and what it is willing to do.
use Rattle.std.specs.Prelude.{◌≡◌, ℕ, Bool, [], ◌∷◌, Option, Some, None, slice_get}
use Rattle.line_base.specs.declared.states.Side.TheVariants.{Entry, Exit}
use Rattle.line_base.specs.declared.states.Quality.TheVariants as qualities
use Rattle.smema_bridge.specs.declared.line.SegmentLine.{SegmentLine}
use Rattle.smema_bridge.specs.declared.line.SegmentLine.TheVariants.{Ready, Available, Failed}
use Rattle.smema_bridge.specs.Levels.{BridgeLevels}
use Rattle.smema_bridge.specs.Segment.{failed_board}
use Rattle.node_core.specs.declared.act.Act.TheVariants as acts
use Rattle.node_core.specs.declared.act.Setting.TheVariants as settings
use Rattle.node_core.specs.Desk.{Desk}
use Rattle.node_core.specs.declared.lane.Body.{Body}
use Rattle.node_core.specs.Done.{Done, done, stays, and_then}
use Rattle.node_core.specs.Sides.{with_will}
use Rattle.node_core.specs.Halves.{front_id}
use Rattle.node_core.specs.Boards.{marks}
use Rattle.node_core.specs.Announces.{is_front}

-- the segment's Machine Ready is the bridge's will at its entry, its Board Available the will at
-- its exit
abbrev pub with_level_will : SegmentLine → Bool → Body → Body
with_level_will Ready on body = with_will Entry on body
with_level_will Available on body = with_will Exit on body
with_level_will Failed on body = body

-- the front board, where a level of the segment says that it is a failed one: Board Available goes
-- on while Failed Board Available is on, and the board isn't known downstream
abbrev pub failed_front : Option BridgeLevels → SegmentLine → Bool → Body → Option ℕ
failed_front None line on body = None
failed_front (Some levels) line on body =
    failed_board line on levels.segment (front_id body.kept)
    (is_front body.outlet.touched (slice_get body.kept 0))

-- a level is told of
abbrev pub tells_level : SegmentLine → Bool → Body → Done
tells_level line on body =
    done (with_level_will line on body) (acts.Sets (settings.Level line on) ∷ [])

-- a board, if there is one, is known to be failed; it is told also where it was so already
abbrev pub fails : Option ℕ → Body → Done
fails None body = stays body
fails (Some id) body = marks id qualities.Failed body

-- THE MICRO EVENT: a level of the segment is set
abbrev pub sets_level : Desk → SegmentLine → Bool → Body → Done
sets_level desk line on body =
    and_then (tells_level line on body) (λ one. fails (failed_front desk.bridge line on one) one)

-- ---- what holds between steps

pub record IsWillingBy (levels : BridgeLevels) (body : Body) : Type 0 where
  pub entry : body.entry.willing ≡ levels.segment.ready
  pub exit : body.exit.willing ≡ levels.segment.available

-- A BRIDGE IS WILLING BY THE LEVELS OF ITS SEGMENT
abbrev pub IsWilling : Option BridgeLevels → Body → Type 0
IsWilling None body = Unit {0}
IsWilling (Some levels) body = IsWillingBy levels body
