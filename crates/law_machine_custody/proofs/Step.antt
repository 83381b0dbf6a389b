-- A MACHINE'S STEP keeps the relation of both its links: the events that it reads, what befalls it, its announcements.
use Rattle.std.proofs.Common.{Bool, List, None, Option, Some, [], subst, sym, true, ℕ, ◌++◌, ◌∙◌, ◌∷◌, ◌≡◌}
use Rattle.line_base.specs.declared.states.Quality.{Quality}
use Rattle.board_record.specs.Record.{plain_record}
use Rattle.board_record.specs.declared.record.Record.{Record}
use Rattle.board_record.specs.declared.sensed.Sensed.{Sensed}
use Rattle.board_record.specs.declared.sub_board.SubBoard.{SubBoard}
use Rattle.handover_in.specs.declared.phase.Phase.TheVariants as inn
use Rattle.line_world.specs.FloorPlan.{with_new_id, without_board}
use Rattle.line_world.specs.declared.board.Board.{Board}
use Rattle.node_core.specs.Boards.{adds_sub, gets, gives, inserts, is_kept, marks, removes, replaces, takes_sub, with_instead, with_mark, with_sub, without}
use Rattle.node_core.specs.Desk.{Desk}
use Rattle.node_core.specs.Event.{Event, Gets, Gives, Insert, Mark, Remove, Replace, Sub}
use Rattle.node_core.specs.Halves.{OffersFront}
use Rattle.node_core.specs.Step.{machine_step}
use Rattle.node_core.specs.declared.act.Act.TheVariants as acts
use Rattle.node_core.specs.declared.lane.Body.{Body as Machine}
use Rattle.node_core.proofs.Offers.{to_offers}
use Rattle.law_custody.specs.Pair.{Ghost}
use Rattle.law_machine_custody.specs.Scene.{Scene}
use Rattle.law_machine_custody.specs.Good.{Afar, GoesBy, Good, Lies}
use Rattle.law_machine_custody.specs.Ahead.{GoesAhead, IsFreeRead}
use Rattle.law_machine_custody.specs.Flight.{IsPlain}
use Rattle.law_machine_custody.specs.ByHand.{AreHere, Grows, IsNotLast, body_read, scene_read}
use Rattle.law_machine_custody.specs.InTime.{IsMetInTime, IsReadEnough}
use Rattle.law_machine_custody.specs.Unique.{IsFrontOnce, IsApart}
use Rattle.law_machine_custody.proofs.BehindReading.{read_idle, read_last, read_lists, read_untouched}
use Rattle.law_machine_custody.proofs.Handing.{gets_good, goes_to_lane, inserts_good, marks_good, removes_good, replaces_good, subs_good}
use Rattle.law_machine_custody.proofs.Elsewhere.{is_elsewhere}
use Rattle.law_machine_custody.proofs.Far.{all_intake, all_outlet}
use Rattle.law_machine_custody.proofs.Fronts.{step_ahead}
use Rattle.law_machine_custody.proofs.InTime.{met_in_time}
use Rattle.law_machine_custody.proofs.FrontRead.{Reads, reads_all, reads_front}
use Rattle.law_machine_custody.proofs.Rows.{goes_good}
use Rattle.law_machine_custody.proofs.Timely.{kept_free, plain_ahead, read_enough}

-- ---- the events that change no board by hand, and make no connection, from what holds of a machine between its steps

pub plain_keeps : {afar : Afar} {above : List Record} {ga gb : Ghost} (desk : Desk) (unread : List Sensed) (event : Event) (body : Machine) (c : Scene) → IsPlain event c → OffersFront body
    → Good afar above unread ga gb body c → GoesBy afar above [] ga gb c (machine_step desk unread event body)
plain_keeps desk unread event body c plain offers g = (plain_ahead desk unread event body c plain (met_in_time event) (to_offers body offers) read_enough (reads_all desk unread body c g)).goes

-- and where it leaves events unread
pub plain_front : {afar : Afar} {above : List Record} {ga gb : Ghost} (desk : Desk) (read rest : List Sensed) (event : Event) (body : Machine) (c : Scene) → IsPlain event c → IsMetInTime event rest → OffersFront body
    → Good afar above (read ++ rest) ga gb body c → IsFreeRead (read ++ rest) body → IsReadEnough rest ga → GoesAhead afar above rest ga gb c (machine_step desk read event body)
plain_front desk read rest event body c plain in_time offers g r n = plain_ahead desk read event body c plain in_time (to_offers body offers) n (reads_front desk read rest body c g r)

-- ---- changes by hand: what is gone grows

-- the machine's boards are as they were behind the reading
unique_behind : {afar : Afar} (desk : Desk) (unread : List Sensed) (body : Machine) (c : Scene) → IsApart afar c → IsApart afar (scene_read desk unread body c)
unique_behind {afar = afar} desk unread body c u =
    let lists = read_lists desk unread body c in
    record {
      distinct = subst (λ (bs : List Board). IsFrontOnce bs) (sym lists) u.distinct;
      apart = subst (λ (bs : List Board). (x : ℕ) → afar.elsewhere x ≡ true → Lies x bs → ⊥) (sym lists) u.apart;
    }

pub insert_ahead : {afar : Afar} {above : List Record} {seen rest : List Sensed} {ga gb : Ghost} (gone2 : ℕ → Bool) (desk : Desk) (read : List Sensed) (id : ℕ) (barcode : Option (List ℕ)) (body : Machine) (c : Scene)
    → Reads afar above seen rest ga gb desk read body c → body.intake.phase ≡ inn.Idle → Grows afar.gone_below gone2 → AreHere gone2 (c.boards ++ record { id = Some id } ∷ [])
    → GoesAhead (record afar { gone_below = gone2 }) above rest ga gb c (machine_step desk read (Insert id barcode) body)
insert_ahead gone2 desk read id barcode body c reads idle grows here =
    let one : Machine = body_read desk read body in
    let now : Scene = scene_read desk read body c in
    step_ahead desk read (Insert id barcode) body c (record {
      goes = goes_good (all_outlet (inserts desk id barcode one).acts now) (all_intake (inserts desk id barcode one).acts now)
          (inserts_good gone2 desk id barcode reads.after (read_idle desk read body c idle) grows
          (subst (λ (bs : List Board). AreHere gone2 (bs ++ record { id = Some id } ∷ [])) (sym (read_lists desk read body c)) here));
      read = record { read = reads.free.read };
    })

-- the record is kept still when the events are read
pub remove_ahead : {afar : Afar} {above : List Record} {seen rest : List Sensed} {ga gb : Ghost} (gone2 : ℕ → Bool) (desk : Desk) (read : List Sensed) (id : ℕ) (body : Machine) (c : Scene)
    → Reads afar above seen rest ga gb desk read body c → IsApart afar c → is_kept id (body_read desk read body).kept ≡ true → Grows afar.gone_below gone2 → gone2 id ≡ true → AreHere gone2 (without_board id c.boards)
    → GoesAhead (record afar { gone_below = gone2 }) above rest ga gb c (machine_step desk read (Remove id) body)
remove_ahead gone2 desk read id body c reads u there grows is_gone here =
    let one : Machine = body_read desk read body in
    let now : Scene = scene_read desk read body c in
    step_ahead desk read (Remove id) body c (record {
      goes = goes_good (all_outlet (removes id one).acts now) (all_intake (removes id one).acts now)
          (removes_good gone2 id there reads.after (is_elsewhere id there reads.after (unique_behind desk read body c u)) grows is_gone
          (subst (λ (bs : List Board). AreHere gone2 (without_board id bs)) (sym (read_lists desk read body c)) here));
      read = kept_free (is_kept id one.kept) (without id one.kept) (acts.Removes id) one reads.free;
    })

pub replace_ahead : {afar : Afar} {above : List Record} {seen rest : List Sensed} {ga gb : Ghost} (gone2 : ℕ → Bool) (desk : Desk) (read : List Sensed) (old new : ℕ) (body : Machine) (c : Scene)
    → Reads afar above seen rest ga gb desk read body c → IsApart afar c → is_kept old (body_read desk read body).kept ≡ true → Grows afar.gone_below gone2 → gone2 old ≡ true → AreHere gone2 (with_new_id old new c.boards)
    → GoesAhead (record afar { gone_below = gone2 }) above rest ga gb c (machine_step desk read (Replace old new) body)
replace_ahead gone2 desk read old new body c reads u there grows is_gone here =
    let one : Machine = body_read desk read body in
    let now : Scene = scene_read desk read body c in
    step_ahead desk read (Replace old new) body c (record {
      goes = goes_good (all_outlet (replaces desk old new one).acts now) (all_intake (replaces desk old new one).acts now)
          (replaces_good gone2 desk old new there reads.after (is_elsewhere old there reads.after (unique_behind desk read body c u)) grows is_gone
          (subst (λ (bs : List Board). AreHere gone2 (with_new_id old new bs)) (sym (read_lists desk read body c)) here));
      read = kept_free (is_kept old one.kept) (with_instead old (plain_record new desk.name None) one.kept) (acts.Replaces old new) one reads.free;
    })

pub mark_ahead : {afar : Afar} {above : List Record} {seen rest : List Sensed} {ga gb : Ghost} (desk : Desk) (read : List Sensed) (id : ℕ) (quality : Quality) (body : Machine) (c : Scene)
    → Reads afar above seen rest ga gb desk read body c → (body.outlet.touched ≡ Some id → ⊥)
    → GoesAhead afar above rest ga gb c (machine_step desk read (Mark id quality) body)
mark_ahead desk read id quality body c reads plain =
    let one : Machine = body_read desk read body in
    let now : Scene = scene_read desk read body c in
    step_ahead desk read (Mark id quality) body c (record {
      goes = goes_good (all_outlet (marks id quality one).acts now) (all_intake (marks id quality one).acts now)
          (marks_good id quality reads.after (read_untouched desk read body c id plain));
      read = kept_free (is_kept id one.kept) (with_mark id quality one.kept) (acts.Marks id quality) one reads.free;
    })

pub sub_ahead : {afar : Afar} {above : List Record} {seen rest : List Sensed} {ga gb : Ghost} (desk : Desk) (read : List Sensed) (id : ℕ) (sub : SubBoard) (body : Machine) (c : Scene)
    → Reads afar above seen rest ga gb desk read body c → (body.outlet.touched ≡ Some id → ⊥)
    → GoesAhead afar above rest ga gb c (machine_step desk read (Sub id sub) body)
sub_ahead desk read id sub body c reads plain =
    let one : Machine = body_read desk read body in
    let now : Scene = scene_read desk read body c in
    step_ahead desk read (Sub id sub) body c (record {
      goes = goes_good (all_outlet (adds_sub id sub one).acts now) (all_intake (adds_sub id sub one).acts now)
          (subs_good id sub reads.after (read_untouched desk read body c id plain));
      read = kept_free (takes_sub id sub one.kept) (with_sub id sub one.kept) (acts.Subs id sub.pos) one reads.free;
    })

-- a board that was not offered last goes to another lane, and nothing is gone
gives_ahead : {afar : Afar} {above : List Record} {seen rest : List Sensed} {ga gb : Ghost} (desk : Desk) (read : List Sensed) (id to : ℕ) (body : Machine) (c : Scene)
    → Reads afar above seen rest ga gb desk read body c → IsNotLast id body
    → GoesAhead afar above rest ga gb c (machine_step desk read (Gives id to) body)
gives_ahead desk read id to body c reads other =
    let one : Machine = body_read desk read body in
    let now : Scene = scene_read desk read body c in
    step_ahead desk read (Gives id to) body c (record {
      goes = goes_good (all_outlet (gives id to one).acts now) (all_intake (gives id to one).acts now)
          (goes_to_lane id to (λ is. other (sym (read_last desk read body c) ∙ is)) reads.after);
      read = kept_free (is_kept id one.kept) (without id one.kept) (acts.Gives id to) one reads.free;
    })

-- and one comes from there, which is not gone here
gets_ahead : {afar : Afar} {above : List Record} {seen rest : List Sensed} {ga gb : Ghost} (desk : Desk) (read : List Sensed) (board : Record) (body : Machine) (c : Scene)
    → Reads afar above seen rest ga gb desk read body c → body.intake.phase ≡ inn.Idle → AreHere afar.gone_below (c.boards ++ record { id = Some board.id } ∷ [])
    → GoesAhead afar above rest ga gb c (machine_step desk read (Gets board) body)
gets_ahead {afar = afar} desk read board body c reads idle here =
    let one : Machine = body_read desk read body in
    let now : Scene = scene_read desk read body c in
    step_ahead desk read (Gets board) body c (record {
      goes = goes_good (all_outlet (gets board one).acts now) (all_intake (gets board one).acts now)
          (gets_good board (read_idle desk read body c idle) reads.after
          (subst (λ (bs : List Board). AreHere afar.gone_below (bs ++ record { id = Some board.id } ∷ [])) (sym (read_lists desk read body c)) here));
      read = record { read = reads.free.read };
    })

-- and where all is read

pub insert_goes : {afar : Afar} {above : List Record} {ga gb : Ghost} (gone2 : ℕ → Bool) (desk : Desk) (unread : List Sensed) (id : ℕ) (barcode : Option (List ℕ)) (body : Machine) (c : Scene)
    → Good afar above unread ga gb body c → body.intake.phase ≡ inn.Idle → Grows afar.gone_below gone2 → AreHere gone2 (c.boards ++ record { id = Some id } ∷ []) → GoesBy (record afar { gone_below = gone2 }) above [] ga gb c (machine_step desk unread (Insert id barcode) body)
insert_goes gone2 desk unread id barcode body c g idle grows here = (insert_ahead gone2 desk unread id barcode body c (reads_all desk unread body c g) idle grows here).goes

pub remove_goes : {afar : Afar} {above : List Record} {ga gb : Ghost} (gone2 : ℕ → Bool) (desk : Desk) (unread : List Sensed) (id : ℕ) (body : Machine) (c : Scene)
    → Good afar above unread ga gb body c → IsApart afar c → is_kept id (body_read desk unread body).kept ≡ true → Grows afar.gone_below gone2 → gone2 id ≡ true → AreHere gone2 (without_board id c.boards) → GoesBy (record afar { gone_below = gone2 }) above [] ga gb c (machine_step desk unread (Remove id) body)
remove_goes gone2 desk unread id body c g u there grows is_gone here = (remove_ahead gone2 desk unread id body c (reads_all desk unread body c g) u there grows is_gone here).goes

pub replace_goes : {afar : Afar} {above : List Record} {ga gb : Ghost} (gone2 : ℕ → Bool) (desk : Desk) (unread : List Sensed) (old new : ℕ) (body : Machine) (c : Scene)
    → Good afar above unread ga gb body c → IsApart afar c → is_kept old (body_read desk unread body).kept ≡ true → Grows afar.gone_below gone2 → gone2 old ≡ true → AreHere gone2 (with_new_id old new c.boards) → GoesBy (record afar { gone_below = gone2 }) above [] ga gb c (machine_step desk unread (Replace old new) body)
replace_goes gone2 desk unread old new body c g u there grows is_gone here = (replace_ahead gone2 desk unread old new body c (reads_all desk unread body c g) u there grows is_gone here).goes

pub mark_goes : {afar : Afar} {above : List Record} {ga gb : Ghost} (desk : Desk) (unread : List Sensed) (id : ℕ) (quality : Quality) (body : Machine) (c : Scene)
    → Good afar above unread ga gb body c → (body.outlet.touched ≡ Some id → ⊥) → GoesBy afar above [] ga gb c (machine_step desk unread (Mark id quality) body)
mark_goes desk unread id quality body c g plain = (mark_ahead desk unread id quality body c (reads_all desk unread body c g) plain).goes

pub sub_goes : {afar : Afar} {above : List Record} {ga gb : Ghost} (desk : Desk) (unread : List Sensed) (id : ℕ) (sub : SubBoard) (body : Machine) (c : Scene)
    → Good afar above unread ga gb body c → (body.outlet.touched ≡ Some id → ⊥) → GoesBy afar above [] ga gb c (machine_step desk unread (Sub id sub) body)
sub_goes desk unread id sub body c g plain = (sub_ahead desk unread id sub body c (reads_all desk unread body c g) plain).goes

pub gives_goes : {afar : Afar} {above : List Record} {ga gb : Ghost} (desk : Desk) (unread : List Sensed) (id to : ℕ) (body : Machine) (c : Scene)
    → Good afar above unread ga gb body c → IsNotLast id body → GoesBy afar above [] ga gb c (machine_step desk unread (Gives id to) body)
gives_goes desk unread id to body c g other = (gives_ahead desk unread id to body c (reads_all desk unread body c g) other).goes

pub gets_goes : {afar : Afar} {above : List Record} {ga gb : Ghost} (desk : Desk) (unread : List Sensed) (board : Record) (body : Machine) (c : Scene)
    → Good afar above unread ga gb body c → body.intake.phase ≡ inn.Idle → AreHere afar.gone_below (c.boards ++ record { id = Some board.id } ∷ []) → GoesBy afar above [] ga gb c (machine_step desk unread (Gets board) body)
gets_goes desk unread board body c g idle here = (gets_ahead desk unread board body c (reads_all desk unread body c g) idle here).goes
