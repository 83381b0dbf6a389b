-- What a machine does beside its handovers: it tells the next board ahead, asks for a board, takes a level of its segment,
-- sets its own signals, and talks to its supervisor.
use Rattle.std.proofs.Common.{Bool, List, None, Option, Some, [], false, refl, true, ℕ, ◌++◌, ◌&&◌, ◌==◌, ◌∙◌, ◌∷◌, ◌≡◌, if◌then◌else◌, not}
use Rattle.std.specs.Prelude.{slice_get}
use Rattle.std.proofs.lemmas.Bool.{eq-eqb}
use Rattle.line_base.specs.declared.states.Quality.TheVariants as qualities
use Rattle.line_base.specs.declared.states.Side.TheVariants.{Entry, Exit}
use Rattle.board_record.specs.declared.record.Record.{Record}
use Rattle.board_record.specs.declared.sensed.Sensed.{Sensed}
use Rattle.hermes_horizontal.specs.declared.message.Horizontal.TheVariants as message
use Rattle.smema_bridge.specs.Levels.{BridgeLevels}
use Rattle.smema_bridge.specs.Segment.{becomes_available}
use Rattle.smema_bridge.specs.declared.line.SegmentLine.{SegmentLine}
use Rattle.smema_bridge.specs.declared.line.SegmentLine.TheVariants.{Available, Failed, Ready}
use Rattle.forecast_query.specs.Info.{forecast_of}
use Rattle.node_core.specs.Announces.{is_front}
use Rattle.node_core.specs.Boards.{marks}
use Rattle.node_core.specs.Bridge.{failed_front, fails, sets_level, tells_level}
use Rattle.node_core.specs.Desk.{Desk}
use Rattle.node_core.specs.Halves.{front_id}
use Rattle.node_core.specs.Information.{asks_for, forecasts, forecasts_front}
use Rattle.node_core.specs.Supervising.{Answer, Ask, Supervise, Supervision, supervises}
use Rattle.node_core.specs.declared.act.Signal.TheVariants as signals
use Rattle.node_core.specs.declared.lane.Body.{Body as Machine}
use Rattle.law_custody.specs.Pair.{Ghost}
use Rattle.law_machine_custody.specs.Scene.{Scene, all_met}
use Rattle.law_machine_custody.specs.Good.{Afar, Goes, GoesBy, Good}
use Rattle.law_machine_custody.proofs.Clock.{entry_says, exit_says, wills_go}
use Rattle.law_machine_custody.proofs.Far.{all_intake, all_outlet}
use Rattle.law_machine_custody.proofs.Goes.{goes_not, goes_then}
use Rattle.law_machine_custody.proofs.Handing.{marks_good}
use Rattle.law_machine_custody.proofs.Rows.{goes_good}

-- ---- the next board is told of ahead, and a board is asked for

front_told : {afar : Afar} {above : List Record} {us : List Sensed} {ga gb : Ghost} (desk : Desk) (front : Option Record) {body : Machine} {c : Scene}
    → Good afar above us ga gb body c → Goes afar above us ga gb c body (all_met (forecasts desk front) c)
front_told desk None g = goes_not g
front_told desk (Some board) {body = body} {c = c} g = exit_says body c (message.BoardForecast (forecast_of board) ∷ []) refl g

pub forecasts_go : {afar : Afar} {above : List Record} {us : List Sensed} {ga gb : Ghost} {body : Machine} {c : Scene} (desk : Desk)
    → Good afar above us ga gb body c → GoesBy afar above us ga gb c (forecasts_front desk body)
forecasts_go {body = body} desk g = front_told desk (slice_get body.kept 0) g

pub asks_go : {afar : Afar} {above : List Record} {us : List Sensed} {ga gb : Ghost} {body : Machine} {c : Scene} (desk : Desk) (barcode : List ℕ)
    → Good afar above us ga gb body c → GoesBy afar above us ga gb c (asks_for desk barcode body)
asks_go {body = body} {c = c} desk barcode g = entry_says body c (message.QueryBoardInfo (Some barcode) None ∷ []) refl g

-- ---- the supervisor is no business of links and floor

pub supervises_go : {afar : Afar} {above : List Record} {us : List Sensed} {ga gb : Ghost} {body : Machine} {c : Scene}
    (desk : Desk) (what : Supervision)
    → Good afar above us ga gb body c → GoesBy afar above us ga gb c (supervises desk what body)
supervises_go desk (Supervise on) g = goes_not g
supervises_go desk (Ask question) g = goes_not g
supervises_go desk (Answer query order) g = goes_not g

-- ---- a level of the segment is set

tells_go : {afar : Afar} {above : List Record} {us : List Sensed} {ga gb : Ghost} {body : Machine} {c : Scene} (line : SegmentLine) (on : Bool)
    → Good afar above us ga gb body c → GoesBy afar above us ga gb c (tells_level line on body)
tells_go Ready on g = wills_go Entry on g
tells_go Available on g = wills_go Exit on g
tells_go Failed on g = goes_not g

other_front : (touched front id : ℕ) (same : Bool) → (touched == front) ≡ same
    → (if not same then Some front else None) ≡ Some id → Some touched ≡ Some id → ⊥
other_front touched front id true is found untouched = cc
other_front touched front id false is found untouched =
    let both : touched ≡ front = cc in
    let really : (touched == front) ≡ true = eq-eqb touched front both in
    cc

-- the board that is marked isn't touched
failing : (rises failed : Bool) (kept : List Record) (touched : Option ℕ) (id : ℕ)
    → (if rises && failed && not (is_front touched (slice_get kept 0)) then front_id kept else None) ≡ Some id → touched ≡ Some id → ⊥
failing false failed kept touched id found same = cc
failing true false kept touched id found same = cc
failing true true [] touched id found same = cc
failing true true (board ∷ boards) None id found same = cc
failing true true (board ∷ boards) (Some other) id found same = other_front other board.id id (other == board.id) refl found same

pub marked_untouched : (bridge : Option BridgeLevels) (line : SegmentLine) (on : Bool) (body : Machine) (id : ℕ)
    → failed_front bridge line on body ≡ Some id → body.outlet.touched ≡ Some id → ⊥
marked_untouched None line on body id found same = cc
marked_untouched (Some levels) line on body id found same =
    failing (becomes_available line on levels.segment) levels.segment.failed body.kept body.outlet.touched id found same

fails_go : {afar : Afar} {above : List Record} {us : List Sensed} {ga gb : Ghost} {body : Machine} {c : Scene} (found : Option ℕ)
    → ((id : ℕ) → found ≡ Some id → body.outlet.touched ≡ Some id → ⊥)
    → Good afar above us ga gb body c → GoesBy afar above us ga gb c (fails found body)
fails_go None plain g = goes_not g
fails_go {body = body} {c = c} (Some id) plain g =
    goes_good (all_outlet (marks id qualities.Failed body).acts c) (all_intake (marks id qualities.Failed body).acts c)
    (marks_good id qualities.Failed g (plain id refl))

pub levels_go : {afar : Afar} {above : List Record} {us : List Sensed} {ga gb : Ghost} {body : Machine} {c : Scene} (desk : Desk) (line : SegmentLine) (on : Bool)
    → Good afar above us ga gb body c → GoesBy afar above us ga gb c (sets_level desk line on body)
levels_go {body = body} desk line on g =
    let one : Machine = (tells_level line on body).body in
    goes_then (tells_level line on body) (λ (x : Machine). fails (failed_front desk.bridge line on x) x) (tells_go line on g)
    (λ a b next. fails_go (failed_front desk.bridge line on one) (marked_untouched desk.bridge line on one) next)
