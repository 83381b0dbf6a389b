-- HOW MANY MESSAGES A STEP HEARS: as many as the words that arrived, where the side is open behind it, and none else.
use Rattle.std.proofs.Common.{Bool, List, None, Option, Result, Ok, Err, Some, [], ap, arith, false, refl, suc, sym, true, ℕ, ◌++◌, ◌+◌, ◌∙◌, ◌∷◌, ◌≡◌}
use Rattle.std.specs.Prelude.{is_some, length}
use Rattle.std.proofs.lemmas.Bool.{false≢true}
use Rattle.node_core.proofs.Opened.{breach_closes}
use Rattle.line_base.specs.declared.states.Side.{Side}
use Rattle.line_base.specs.declared.states.Side.TheVariants.{Entry, Exit}
use Rattle.board_record.specs.Maker.{Maker, next_id}
use Rattle.board_record.specs.declared.maker.IdsUsedUp.{IdsUsedUp}
use Rattle.board_record.specs.declared.sensed.Sensed.{Sensed}
use Rattle.hermes_horizontal.specs.Parts.{kind_of}
use Rattle.hermes_horizontal.specs.declared.message.Horizontal.{Horizontal}
use Rattle.hermes_horizontal.specs.declared.message.Message.{Message}
use Rattle.session_core.specs.Breach.{unexpected}
use Rattle.session_core.specs.Input.{heard}
use Rattle.session_core.specs.Row.{SessionRow, session_row}
use Rattle.session_core.specs.declared.actions.Action.{Action}
use Rattle.session_core.specs.declared.actions.Action.TheVariants.{Close, Pass, Ping, Pong, SendService, Stand, Tell}
use Rattle.session_core.specs.declared.actions.Actions.{Actions}
use Rattle.handover_out.specs.State.{held, would_open}
use Rattle.handover_out.specs.Row.{OutRow, outlet_row}
use Rattle.handover_out.specs.declared.input.OutInput.TheVariants as out_input
use Rattle.handover_in.specs.Row.{InRow, intake_row}
use Rattle.handover_in.specs.declared.input.InInput.TheVariants as in_input
use Rattle.node_core.specs.Announces.{announces}
use Rattle.node_core.specs.Connect.{if_open}
use Rattle.node_core.specs.Desk.{Desk}
use Rattle.node_core.specs.Done.{Done, and_then, behind}
use Rattle.node_core.specs.Event.{Event, Insert, Nothing, Replace, Words, event_did, event_of, with_new, Query}
use Rattle.node_core.specs.Halves.{behind_opening, opening_board}
use Rattle.node_core.specs.Hears.{entry_took, entry_word, exit_took, exit_word, hears, intake_took, outlet_took, passed, rowed, side_took, taken}
use Rattle.node_core.specs.Reads.{all_read}
use Rattle.node_core.specs.Session.{actions_did, breaches}
use Rattle.node_core.specs.Sides.{is_open, session_at, with_session}
use Rattle.node_core.specs.Step.{machine_step, plain_step}
use Rattle.node_core.specs.Supervising.{watch_of}
use Rattle.node_core.specs.Words.{all_heard, word_did}
use Rattle.node_core.specs.declared.act.Act.{Act}
use Rattle.node_core.specs.declared.act.Act.TheVariants as acts
use Rattle.node_core.specs.declared.input.Input.{Input}
use Rattle.node_core.specs.declared.input.Input.TheVariants as inputs
use Rattle.node_core.specs.declared.lane.Body.{Body}
use Rattle.node_core.specs.declared.word.EntryWord.{EntryWord}
use Rattle.node_core.specs.declared.word.EntryWord.TheVariants as entries
use Rattle.node_core.specs.declared.word.ExitWord.{ExitWord}
use Rattle.node_core.specs.declared.word.ExitWord.TheVariants as exits
use Rattle.node_core.specs.declared.word.Word.{Word}
use Rattle.node_core.specs.declared.word.Word.TheVariants.{Says, Wrong}
use Rattle.law_machine_custody.proofs.HearingAll.{deaf}
use Rattle.law_machine_custody.proofs.Quiet.{AllActs, acts_more, acts_none}
use Rattle.step_rules.proofs.Quiet.{announces_leave}
use Rattle.law_one_standing.proofs.CarryingSides.{heard_at, heard_in}
use Rattle.law_one_standing.proofs.CountingQuiet.{
  IsDeaf,
  actions_deaf,
  announces_deaf,
  breaches_deaf,
  deaf_by_pieces,
  deaf_count,
  heard_append,
  intake_deaf,
  outlet_deaf,
  read_deaf,
  tells_unheard,
}
use Rattle.step_rules.proofs.Steps.{event_made}

-- ---- a message

-- one message is heard and nothing more, or the side is closed behind it
pub data IsOne (side : Side) (message : Message) (d : Done) : Type 0 where
  one_heard : (others : List Act) → d.acts ≡ acts.Hears side message ∷ others → AllActs IsDeaf others → IsOne side message d
  one_breach : AllActs IsDeaf d.acts → is_open side d.body ≡ false → IsOne side message d

data IsDeafAny : Option Done → Type 0 where
  deaf_any_none : IsDeafAny None
  deaf_any_some : {d : Done} → AllActs IsDeaf d.acts → IsDeafAny (Some d)

outlet_any : (desk : Desk) (body : Body) (row : Option OutRow) → IsDeafAny (outlet_took desk body row)
outlet_any desk body None = deaf_any_none
outlet_any desk body (Some r) = deaf_any_some (outlet_deaf desk body (Some r))

intake_any : (desk : Desk) (body : Body) (row : Option InRow) → IsDeafAny (intake_took desk body row)
intake_any desk body None = deaf_any_none
intake_any desk body (Some r) = deaf_any_some (intake_deaf desk body (Some r))

exit_any : (desk : Desk) (word : ExitWord) (body : Body) → IsDeafAny (exit_took desk word body)
exit_any desk exits.Ready body = outlet_any desk body (outlet_row body.outlet out_input.MachineReady)
exit_any desk exits.Unready body = outlet_any desk body (outlet_row body.outlet out_input.RevokeMachineReady)
exit_any desk (exits.Start id) body =
    let opens : Bool = would_open body.outlet id in
    outlet_any desk (record body { kept = behind_opening opens body.kept }) (outlet_row body.outlet (out_input.Start id (opening_board opens body.kept)))
exit_any desk (exits.Stop state id) body = outlet_any desk body (outlet_row body.outlet (out_input.Stop state id))
exit_any desk (exits.Query top bottom) body = deaf_any_some (acts_more tt acts_none)
exit_any desk exits.Nothing body = deaf_any_some acts_none

entry_any : (desk : Desk) (word : EntryWord) (body : Body) → IsDeafAny (entry_took desk word body)
entry_any desk (entries.Available board) body = intake_any desk body (intake_row body.intake (in_input.BoardAvailable board))
entry_any desk entries.Revoked body = intake_any desk body (intake_row body.intake in_input.RevokeBoardAvailable)
entry_any desk (entries.Finished state id) body = intake_any desk body (intake_row body.intake (in_input.Finished state id))
entry_any desk entries.Nothing body = deaf_any_some acts_none

side_any : (desk : Desk) (side : Side) (what : Horizontal) (body : Body) → IsDeafAny (side_took desk side what body)
side_any desk Entry what body = entry_any desk (entry_word what) body
side_any desk Exit what body = exit_any desk (exit_word what) body

breach_one : (desk : Desk) (side : Side) (message : Message) (text : List ℕ) (body : Body) → IsOne side message (breaches desk side text body)
breach_one desk side message text body = one_breach (breaches_deaf desk side text body) (breach_closes desk side text body)

passed_one : (desk : Desk) (side : Side) (message : Message) (body : Body) (found : Option Done) → IsDeafAny found → IsOne side message (passed desk side message body found)
passed_one desk side message body None any = breach_one desk side message (unexpected (kind_of message.body)) body
passed_one desk side message body (Some d) (deaf_any_some k) = one_heard d.acts refl k

by_session : (desk : Desk) (side : Side) (message : Message) (actions : Actions) (body : Body) → IsOne side message (behind (acts.Hears side message ∷ []) (actions_did desk side actions body))
by_session desk side message actions body = one_heard (actions_did desk side actions body).acts refl (actions_deaf desk side actions body)

taken_one : (desk : Desk) (side : Side) (message : Message) (first : Option Action) (actions : Actions) (body : Body) → IsOne side message (taken desk side message first actions body)
taken_one desk side message (Some (Pass what)) actions body = passed_one desk side message body (side_took desk side what body) (side_any desk side what body)
taken_one desk side message None actions body = by_session desk side message actions body
taken_one desk side message (Some SendService) actions body = by_session desk side message actions body
taken_one desk side message (Some (Pong _)) actions body = by_session desk side message actions body
taken_one desk side message (Some (Ping _)) actions body = by_session desk side message actions body
taken_one desk side message (Some (Tell _)) actions body = by_session desk side message actions body
taken_one desk side message (Some Close) actions body = by_session desk side message actions body
taken_one desk side message (Some Stand) actions body = by_session desk side message actions body

rowed_one : (desk : Desk) (side : Side) (message : Message) (body : Body) (row : Option SessionRow) → IsOne side message (rowed desk side message body row)
rowed_one desk side message body None = breach_one desk side message (unexpected (kind_of message.body)) body
rowed_one desk side message body (Some row) = taken_one desk side message row.actions.first row.actions (with_session side row.after body)

pub hears_one : (desk : Desk) (side : Side) (message : Message) (body : Body) → IsOne side message (hears desk side message body)
hears_one desk side message body = rowed_one desk side message body (session_row (session_at side body) (heard message.body (is_some (held body.outlet))))

-- ---- words

-- the first word is refused
abbrev pub is_wrong_first : List Word → Bool
is_wrong_first [] = false
is_wrong_first (Says message ∷ others) = false
is_wrong_first (Wrong text ∷ others) = true

-- what is heard, where the side is open behind it: all words, and none is refused
pub record HearsAll (side : Side) (words : List Word) (told : List Act) : Type 0 where
  pub count : heard_in side told ≡ length words
  pub good : is_wrong_first words ≡ false

closed_on : {X : Type 0} (desk : Desk) (side : Side) (words : List Word) (body : Body) → is_open side body ≡ false → is_open side (all_heard desk side words body).body ≡ true → X
closed_on desk side words body off on = absurd (false≢true (sym off ∙ sym (ap (λ (d : Done). is_open side d.body) (deaf desk side words body off)) ∙ on))

own_heard : (side : Side) (n : ℕ) → heard_at side side n ≡ suc n
own_heard Entry n = refl
own_heard Exit n = refl

one_count : (side : Side) (message : Message) (d : Done) (others : List Act) → d.acts ≡ acts.Hears side message ∷ others → AllActs IsDeaf others → heard_in side d.acts ≡ 1
one_count side message d others are deaf_others = ap (heard_in side) are ∙ own_heard side (heard_in side others) ∙ ap (λ n. suc n) (deaf_count side deaf_others)

says_count : (desk : Desk) (side : Side) (message : Message) (others : List Word) (d : Done) → IsOne side message d → (is_open side (all_heard desk side others d.body).body ≡ true → HearsAll side others (all_heard desk side others d.body).acts)
    → is_open side (all_heard desk side others d.body).body ≡ true → HearsAll side (Says message ∷ others) (d.acts ++ (all_heard desk side others d.body).acts)
says_count desk side message others d (one_heard more are quiet) next on =
    let k = next on in
    let one : heard_in side d.acts ≡ 1 = one_count side message d more are quiet in
    record { count = heard_append side d.acts (all_heard desk side others d.body).acts ∙ omega (arith, one, k.count); good = refl }
says_count desk side message others d (one_breach quiet off) next on = closed_on desk side others d.body off on

if_heard : (desk : Desk) (side : Side) (words : List Word) (test : Bool) (did : Done) (body : Body) → is_open side body ≡ test → is_open side (if_open test did body).body ≡ true → (is_open side did.body ≡ true → HearsAll side words did.acts) → HearsAll side words (if_open test did body).acts
if_heard desk side words true did body is on next = next on
if_heard desk side words false did body is on next = absurd (false≢true (sym is ∙ on))

pub words_count : (desk : Desk) (side : Side) (words : List Word) (body : Body) → is_open side (all_heard desk side words body).body ≡ true → HearsAll side words (all_heard desk side words body).acts
words_count desk side [] body on = record { count = refl; good = refl }
words_count desk side (Says message ∷ others) body on =
    let did : Done = hears desk side message body in
    if_heard desk side (Says message ∷ others) (is_open side body) (and_then did (all_heard desk side others)) body refl on
    (λ now. says_count desk side message others did (hears_one desk side message body) (words_count desk side others did.body) now)
words_count desk side (Wrong text ∷ others) body on =
    let did : Done = breaches desk side text body in
    if_heard desk side (Wrong text ∷ others) (is_open side body) (and_then did (all_heard desk side others)) body refl on
    (λ now. closed_on desk side others did.body (breach_closes desk side text body) now)

-- the other side hears nothing
abbrev pub across : Side → Side
across Entry = Exit
across Exit = Entry

other_heard : (side : Side) (n : ℕ) → heard_at (across side) side n ≡ n
other_heard Entry n = refl
other_heard Exit n = refl

other_one : (side : Side) (message : Message) (d : Done) → IsOne side message d → heard_in (across side) d.acts ≡ 0
other_one side message d (one_heard others are quiet) = ap (heard_in (across side)) are ∙ other_heard side (heard_in (across side) others) ∙ deaf_count (across side) quiet
other_one side message d (one_breach quiet off) = deaf_count (across side) quiet

word_other : (desk : Desk) (side : Side) (word : Word) (body : Body) → heard_in (across side) (word_did desk side word body).acts ≡ 0
word_other desk side (Says message) body = other_one side message (hears desk side message body) (hears_one desk side message body)
word_other desk side (Wrong text) body = deaf_count (across side) (breaches_deaf desk side text body)

none_if : (at : Side) (test : Bool) (did : Done) (body : Body) → heard_in at did.acts ≡ 0 → heard_in at (if_open test did body).acts ≡ 0
none_if at true did body none = none
none_if at false did body none = refl

none_both : (at : Side) (xs ys : List Act) → heard_in at xs ≡ 0 → heard_in at ys ≡ 0 → heard_in at (xs ++ ys) ≡ 0
none_both at xs ys one two = heard_append at xs ys ∙ omega (arith, one, two)

words_other : (desk : Desk) (side : Side) (words : List Word) (body : Body) → heard_in (across side) (all_heard desk side words body).acts ≡ 0
words_other desk side [] body = refl
words_other desk side (w ∷ ws) body =
    let did : Done = word_did desk side w body in
    none_if (across side) (is_open side body) (and_then did (all_heard desk side ws)) body
    (none_both (across side) did.acts (all_heard desk side ws did.body).acts (word_other desk side w body) (words_other desk side ws did.body))

-- ---- events

-- words to this side
abbrev pub is_words_to : Side → Event → Bool
is_words_to Entry (Words Entry words) = true
is_words_to Exit (Words Exit words) = true
is_words_to _ _ = false

event_none : (at : Side) (desk : Desk) (event : Event) (body : Body)
    → is_words_to at event ≡ false → heard_in at (event_did desk event body).acts ≡ 0
event_none Entry desk (Words Entry words) body is = absurd (false≢true (sym is))
event_none Exit desk (Words Exit words) body is = absurd (false≢true (sym is))
event_none Entry desk (Words Exit words) body is = words_other desk Exit words body
event_none Exit desk (Words Entry words) body is = words_other desk Entry words body
event_none at desk event body is = deaf_count at (deaf_by_pieces (event_made desk event body) tt)

-- ---- the step

step_heard : (at : Side) (desk : Desk) (unread : List Sensed) (event : Event) (body : Body) → heard_in at (machine_step desk unread event body).acts ≡ heard_in at (event_did desk event (all_read desk unread body).body).acts
step_heard at desk unread event body =
    let read : Done = all_read desk unread body in
    let did : Done = event_did desk event read.body in
    let says : Done = announces desk did.body in
    let one : heard_in at read.acts ≡ 0 = deaf_count at (read_deaf desk unread body) in
    let two : heard_in at says.acts ≡ 0 = deaf_count at (announces_deaf desk did.body) in
    let both : heard_in at (did.acts ++ says.acts) ≡ heard_in at did.acts + heard_in at says.acts = heard_append at did.acts says.acts in
    tells_unheard at desk (watch_of desk body) (plain_step desk unread event body).acts
    ∙ heard_append at read.acts (did.acts ++ says.acts) ∙ omega (arith, one, two, both)

-- a side to which no words come hears nothing
pub step_hears_none : (at : Side) (desk : Desk) (unread : List Sensed) (event : Event) (body : Body) → is_words_to at event ≡ false → heard_in at (machine_step desk unread event body).acts ≡ 0
step_hears_none at desk unread event body is = step_heard at desk unread event body ∙ event_none at desk event (all_read desk unread body).body is

-- and one to which they come, and that is open behind the step, hears them all
pub step_hears_all : (side : Side) (desk : Desk) (unread : List Sensed) (words : List Word) (body : Body) → is_open side (machine_step desk unread (Words side words) body).body ≡ true
    → HearsAll side words (machine_step desk unread (Words side words) body).acts
step_hears_all side desk unread words body on =
    let read : Done = all_read desk unread body in
    let did : Done = all_heard desk side words read.body in
    let still : is_open side did.body ≡ true = sym (announces_leave side desk did.body).same ∙ on in
    let k = words_count desk side words read.body still in
    record { count = step_heard side desk unread (Words side words) body ∙ k.count; good = k.good }

-- ---- inputs that are no bytes

none_new : (found : Result ℕ IdsUsedUp) (event : ℕ → Event) (at : Side) → ((id : ℕ) → is_words_to at (event id) ≡ false) → is_words_to at (with_new found event) ≡ false
none_new (Ok id) event at none = none id
none_new (Err why) event Entry none = refl
none_new (Err why) event Exit none = refl

abbrev pub is_bytes_to : Side → Input → Bool
is_bytes_to Entry (inputs.Bytes Entry piece) = true
is_bytes_to Exit (inputs.Bytes Exit piece) = true
is_bytes_to _ _ = false

pub input_words : (at : Side) (maker : Maker) (input : Input) (words : List Word) → is_bytes_to at input ≡ false → is_words_to at (event_of maker input words) ≡ false
input_words Entry maker (inputs.Bytes Entry piece) words is = absurd (false≢true (sym is))
input_words Exit maker (inputs.Bytes Exit piece) words is = absurd (false≢true (sym is))
input_words Entry maker (inputs.Bytes Exit piece) words is = refl
input_words Entry maker (inputs.Insert barcode) words is = none_new (next_id maker) (λ id. Insert id barcode) Entry (λ id. refl)
input_words Exit maker (inputs.Insert barcode) words is = none_new (next_id maker) (λ id. Insert id barcode) Exit (λ id. refl)
input_words Entry maker (inputs.Replace old) words is = none_new (next_id maker) (Replace old) Entry (λ id. refl)
input_words Exit maker (inputs.Replace old) words is = none_new (next_id maker) (Replace old) Exit (λ id. refl)
input_words Entry maker _ words is = refl
input_words Exit maker _ words is = refl
