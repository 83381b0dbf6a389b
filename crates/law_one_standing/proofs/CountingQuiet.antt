-- Which acts of a machine's step hear a message: none but those of the words that it hears.
use Rattle.std.proofs.Common.{List, Option, Some, [], ap, arith, refl, ℕ, ◌++◌, ◌+◌, ◌∙◌, ◌∷◌, ◌≡◌}
use Rattle.line_base.specs.declared.states.Side.{Side}
use Rattle.line_base.specs.declared.states.Side.TheVariants.{Entry, Exit}
use Rattle.board_record.specs.declared.record.Record.{Record}
use Rattle.board_record.specs.declared.sensed.Sensed.{Sensed}
use Rattle.session_core.specs.declared.actions.Actions.{Actions}
use Rattle.handover_out.specs.Row.{OutRow}
use Rattle.handover_in.specs.Row.{InRow}
use Rattle.node_core.specs.Announces.{announces}
use Rattle.node_core.specs.Desk.{Desk}
use Rattle.node_core.specs.Done.{Done}
use Rattle.node_core.specs.Halves.{intake_row_did, outlet_row_did}
use Rattle.node_core.specs.Reads.{all_read}
use Rattle.node_core.specs.Session.{actions_did, breaches}
use Rattle.node_core.specs.declared.act.Act.{Act}
use Rattle.node_core.specs.declared.supervising.Watch.{Watch}
use Rattle.node_core.specs.Supervising.{with_tells}
use Rattle.node_core.proofs.Telling.{tells_pass}
use Rattle.node_core.specs.declared.act.Act.TheVariants as acts
use Rattle.node_core.specs.declared.lane.Body.{Body}
use Rattle.law_machine_custody.proofs.Quiet.{
  AllActs,
  IsPlain,
  acts_more,
  acts_none,
  all_append,
  intake_all,
  intake_says,
  outlet_all,
  outlet_says,
}
use Rattle.law_one_standing.proofs.CarryingSides.{heard_at, heard_by, heard_in}
use Rattle.node_core.specs.Event.{Event, Nothing, Words}
use Rattle.node_core.specs.declared.word.Word.TheVariants.{Says, Wrong}
use Rattle.step_rules.specs.Causes.{
  ByHand,
  Cause,
  Hearing,
  Meeting,
  Tells,
  hand_inserts,
  tells_hearing,
  hand_changes,
  changes_quality,
}
use Rattle.step_rules.specs.Made.{
  Made,
  made_act,
  made_both,
  made_breach,
  made_by_hand,
  made_close,
  made_intake,
  made_none,
  made_notice,
  made_outlet,
  made_passed,
  made_row,
  made_start,
  made_will,
  made_word,
}
use Rattle.step_rules.proofs.Steps.{actions_made, all_read_made, announces_made, breach_made}

-- ---- counts

counted_plus : (side at : Side) (m n : ℕ) → heard_at side at (m + n) ≡ heard_at side at m + n
counted_plus Entry Entry m n = omega arith
counted_plus Entry Exit m n = refl
counted_plus Exit Entry m n = refl
counted_plus Exit Exit m n = omega arith

plus_by : (side : Side) (act : Act) (m n : ℕ) → heard_by side act (m + n) ≡ heard_by side act m + n
plus_by side (acts.Hears at message) m n = counted_plus side at m n
plus_by side _ m n = refl

pub heard_append : (side : Side) (xs ys : List Act) → heard_in side (xs ++ ys) ≡ heard_in side xs + heard_in side ys
heard_append side [] ys = omega arith
heard_append side (x ∷ xs) ys = ap (heard_by side x) (heard_append side xs ys) ∙ plus_by side x (heard_in side xs) (heard_in side ys)

-- what the supervisor is told is heard by no side
pub tells_unheard : (side : Side) (desk : Desk) (watch : Watch) (made : List Act)
    → heard_in side (with_tells desk watch made) ≡ heard_in side made
tells_unheard side desk watch made =
    tells_pass (heard_in side) (λ act told plain same. ap (heard_by side act) same)
    (λ message told. refl) desk watch made

-- ---- acts that hear nothing

abbrev pub IsDeaf : Act → Type 0
IsDeaf (acts.Hears side message) = ⊥
IsDeaf _ = Unit {0}

deaf_by : (side : Side) (act : Act) (n : ℕ) → IsDeaf act → heard_by side act n ≡ n
deaf_by side (acts.Hears at message) n deaf = absurd deaf
deaf_by side _ n deaf = refl

pub deaf_count : (side : Side) {told : List Act} → AllActs IsDeaf told → heard_in side told ≡ 0
deaf_count side acts_none = refl
deaf_count side (acts_more {act = act} {others = others} one more) = deaf_by side act (heard_in side others) one ∙ deaf_count side more

plain_deaf : IsPlain IsDeaf
plain_deaf = record { reads = λ side event. tt; deeds = λ deed. tt; drives = λ side on. tt }

-- ---- the halves

pub outlet_deaf : (desk : Desk) (body : Body) (row : Option OutRow) → AllActs IsDeaf (outlet_row_did desk body row).acts
outlet_deaf desk body row = outlet_all plain_deaf desk body row (λ r found. outlet_says desk body.kept r.act.send (λ what plain. acts_more tt acts_none))

pub intake_deaf : (desk : Desk) (body : Body) (row : Option InRow) → AllActs IsDeaf (intake_row_did desk body row).acts
intake_deaf desk body row = intake_all plain_deaf desk body row (λ r found. intake_says desk r.act.send (λ what. acts_more tt acts_none))

-- ---- the pieces of a step, but for a message that is heard

abbrev IsDeafCause : Cause → Type 0
IsDeafCause (Hearing side (Says message)) = ⊥
IsDeafCause (Meeting (Words side words)) = ⊥
IsDeafCause _ = Unit {0}

act_deaf : {desk : Desk} {cause : Cause} {body : Body} {act : Act} → Tells desk cause body act
    → IsDeafCause cause → IsDeaf act
act_deaf tells_hearing own = absurd own
act_deaf _ own = tt

hand_deaf : {desk : Desk} {event : Event} {body : Body} {kept : List Record} {act : Act}
    → ByHand desk event body kept act → IsDeaf act
hand_deaf hand_inserts = tt
hand_deaf (hand_changes (changes_quality is)) = tt
hand_deaf _ = tt

pub deaf_by_pieces : {desk : Desk} {cause : Cause} {body : Body} {d : Done}
    → Made desk cause body d → IsDeafCause cause → AllActs IsDeaf d.acts
deaf_by_pieces made_none own = acts_none
deaf_by_pieces (made_both first next) own =
    all_append (deaf_by_pieces first own) (deaf_by_pieces next own)
deaf_by_pieces (made_word is on made) own = absurd own
deaf_by_pieces (made_act tells) own = acts_more (act_deaf tells own) acts_none
deaf_by_pieces (made_row to shape made) own = deaf_by_pieces made own
deaf_by_pieces (made_passed shape first on made) own = absurd own
deaf_by_pieces (made_close talk made) own = acts_more tt (deaf_by_pieces made own)
deaf_by_pieces (made_notice on made) own = acts_more tt (deaf_by_pieces made own)
deaf_by_pieces (made_breach made) own =
    acts_more tt (acts_more tt (acts_more tt (deaf_by_pieces made own)))
deaf_by_pieces (made_start says on shape) own = absurd own
deaf_by_pieces {desk = desk} (made_outlet {row = row} {body = body} to shape) own =
    outlet_deaf desk body (Some row)
deaf_by_pieces {desk = desk} (made_intake {row = row} {body = body} to shape) own =
    intake_deaf desk body (Some row)
deaf_by_pieces (made_by_hand hand) own = acts_more (hand_deaf hand) acts_none
deaf_by_pieces (made_will sets) own = acts_more tt acts_none

pub read_deaf : (desk : Desk) (unread : List Sensed) (body : Body)
    → AllActs IsDeaf (all_read desk unread body).acts
read_deaf desk unread body = deaf_by_pieces (all_read_made desk unread body) tt

pub breaches_deaf : (desk : Desk) (side : Side) (text : List ℕ) (body : Body)
    → AllActs IsDeaf (breaches desk side text body).acts
breaches_deaf desk side text body =
    deaf_by_pieces (breach_made desk side (Wrong text) text body) tt

pub actions_deaf : (desk : Desk) (side : Side) (actions : Actions) (body : Body)
    → AllActs IsDeaf (actions_did desk side actions body).acts
actions_deaf desk side actions body =
    deaf_by_pieces (actions_made desk (Meeting Nothing) side actions body tt) tt

pub announces_deaf : (desk : Desk) (body : Body) → AllActs IsDeaf (announces desk body).acts
announces_deaf desk body = deaf_by_pieces (announces_made desk body) tt
