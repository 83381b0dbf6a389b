-- What becomes of a board as a machine reads its events.
use Rattle.std.proofs.Common.{
  ap,
  refl,
  subst,
  sym,
  ◌≡◌,
  ◌∙◌,
  ◌++◌,
  ◌||◌,
  ℕ,
  Bool,
  true,
  false,
  List,
  [],
  ◌∷◌,
  is_some,
}
use Rattle.std.specs.List.{list_any}
use Rattle.std.proofs.lemmas.List.Folds.{list_any-append}
use Rattle.std.proofs.lemmas.Bool.{or_from}
use Rattle.line_step.proofs.WithTells.{tells_append}
use Rattle.line_base.specs.declared.states.SensorEvent.{SensorEvent}
use Rattle.line_base.specs.declared.states.Side.TheVariants.{Entry}
use Rattle.board_record.specs.declared.record.Record.{Record}
use Rattle.board_record.specs.declared.sensed.Sensed.{Sensed}
use Rattle.handover_in.specs.State.{board_of_phase as held_in, own_of_phase}
use Rattle.node_core.specs.Desk.{Desk}
use Rattle.node_core.specs.Done.{Done}
use Rattle.node_core.specs.Own.{own_of}
use Rattle.node_core.specs.Reads.{all_read, reads}
use Rattle.node_core.specs.Supervising.{watch_behind, watch_of, with_tells}
use Rattle.node_core.specs.declared.act.Act.{Act}
use Rattle.node_core.specs.declared.lane.Body.{Body}
use Rattle.node_core.specs.declared.supervising.Watch.{Watch}
use Rattle.law_custody.specs.Floor.{EntryFloor}
use Rattle.law_custody.specs.Place.{Place}
use Rattle.law_custody.specs.Words.{events_at}
use Rattle.standings.specs.Ledger.{are_different}
use Rattle.law_one_standing.proofs.LedgerSteps.{all_of}
use Rattle.law_supervisor_replay.proofs.Bodies.{brings_in, takes_out}
use Rattle.law_supervisor_replay.proofs.Events.{Later}
use Rattle.law_supervisor_replay.proofs.OneEvent.{Went, one_went}
use Rattle.law_supervisor_replay.proofs.Parts.{ReadFares, read_so}
use Rattle.law_supervisor_replay.proofs.Places.{apart, behind_one, still_same}
use Rattle.law_supervisor_replay.proofs.Tells.{says_none, watch_append, watching}

-- ---- the events one behind the other

-- an event, and then the others
then_went : {es : List SensorEvent} {place : Place} {board : Record} (id j : ℕ) (desk : Desk)
    (sensed : Sensed) (others : List Sensed) (body : Body) (one next : Done)
    → are_different (all_of (own_of body)) ≡ true
    → Went id j desk (sensed ∷ []) es place board body one
    → Went id j desk others [] place board one.body next
    → Went id j desk (sensed ∷ others) [] place board body
    (record { body = next.body; acts = one.acts ++ next.acts })
then_went {place = place} id j desk sensed others body one next different a b =
    let w : Watch = watching (own_of_phase body.intake.phase) in
    let first : List Act = with_tells desk w one.acts in
    record {
      fares = subst (λ (all : List Act). ReadFares id j (sensed ∷ others) place body next.body all)
          (sym (tells_append desk w one.acts next.acts
          ∙ ap (λ (v : Watch). first ++ with_tells desk v next.acts) a.watch))
          (behind_one sensed others (apart id body different) a.held a.fares b.fares);
      floor = b.floor;
      watch = watch_append w one.acts next.acts
          ∙ ap (λ (v : Watch). watch_behind v next.acts) a.watch ∙ b.watch;
      different = b.different;
      hand_out = list_any-append (takes_out id) one.acts next.acts
          ∙ or_from _ _ a.hand_out b.hand_out;
      hand_in = list_any-append (brings_in id) one.acts next.acts
          ∙ or_from _ _ a.hand_in b.hand_in;
      held = λ h. a.held (b.held h);
    }

all_went : {place : Place} {board : Record} (id j : ℕ) (desk : Desk) (unread : List Sensed)
    (body : Body) → Later body.intake.phase (events_at Entry unread) place board
    → are_different (all_of (own_of body)) ≡ true
    → Went id j desk unread [] place board body (all_read desk unread body)
all_went id j desk [] body later different = record {
  fares = read_so (still_same id body body refl refl) refl (says_none id j);
  floor = later;
  watch = refl;
  different = different;
  hand_out = refl;
  hand_in = refl;
  held = λ h. h;
}
all_went id j desk (sensed ∷ others) body later different =
    let one : Done = reads desk sensed body in
    let a = one_went id j desk sensed.side sensed.event body later different in
    then_went id j desk sensed others body one (all_read desk others one.body) different a
    (all_went id j desk others one.body a.floor a.different)

-- ---- READING

-- what was read is known then; the place of the handover stays; ids differ still; and nothing is
-- done by hand
pub record Read (id j : ℕ) (desk : Desk) (unread : List Sensed) (place : Place) (board : Record)
    (body : Body) : Type 0 where
  pub fares : ReadFares id j unread place body (all_read desk unread body).body
      (with_tells desk (watch_of desk body) (all_read desk unread body).acts)
  pub floor : is_some (held_in (all_read desk unread body).body.intake.phase) ≡ true
      → (drive : Bool)
      × EntryFloor (all_read desk unread body).body.intake.phase [] drive place board
  pub watch : watch_behind (watch_of desk body) (all_read desk unread body).acts
      ≡ watch_of desk (all_read desk unread body).body
  pub different : are_different (all_of (own_of (all_read desk unread body).body)) ≡ true
  pub out : list_any (takes_out id) (all_read desk unread body).acts ≡ false
  pub «in» : list_any (brings_in id) (all_read desk unread body).acts ≡ false

watched_is : (desk : Desk) (body : Body) → desk.supervised ≡ true
    → watching (own_of_phase body.intake.phase) ≡ watch_of desk body
watched_is desk body watched =
    ap (λ (on : Bool). record { supervised = on; seen = own_of_phase body.intake.phase })
    (sym watched)

pub read_fares : (id j : ℕ) (desk : Desk) (unread : List Sensed) (place : Place) (board : Record)
    (body : Body) (drive : Bool) → desk.supervised ≡ true
    → are_different (all_of (own_of body)) ≡ true
    → EntryFloor body.intake.phase (events_at Entry unread) drive place board
    → Read id j desk unread place board body
read_fares id j desk unread place board body drive watched different floor =
    let d : Done = all_read desk unread body in
    let went : Went id j desk unread [] place board body d =
    all_went id j desk unread body (λ is. (drive, floor)) different in
    let same : watching (own_of_phase body.intake.phase) ≡ watch_of desk body =
    watched_is desk body watched in
    record {
      fares = subst (λ (w : Watch). ReadFares id j unread place body d.body
          (with_tells desk w d.acts)) same went.fares;
      floor = went.floor;
      watch = ap (λ (w : Watch). watch_behind w d.acts) (sym same) ∙ went.watch
          ∙ watched_is desk d.body watched;
      different = went.different;
      out = went.hand_out;
      «in» = went.hand_in;
    }
