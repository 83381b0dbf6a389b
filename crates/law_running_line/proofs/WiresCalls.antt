-- What the entry says as it finds its connection made: it describes itself, and says nothing more that an outlet hears.
use Rattle.std.proofs.Common.{List, [], ap, refl, subst, sym, ◌++◌, ◌∙◌, ◌∷◌, ◌≡◌}
use Rattle.line_base.specs.declared.states.Side.{Side}
use Rattle.line_base.specs.declared.states.Side.TheVariants.{Entry, Exit}
use Rattle.board_record.specs.declared.sensed.Sensed.{Sensed}
use Rattle.hermes_horizontal.specs.declared.message.Horizontal.{Horizontal}
use Rattle.hermes_horizontal.specs.declared.message.Message.{Message}
use Rattle.session_core.specs.declared.state.SessionState.TheVariants.{NotConnected}
use Rattle.node_core.specs.Announces.{announces}
use Rattle.node_core.specs.Desk.{Desk}
use Rattle.node_core.specs.Done.{Done}
use Rattle.node_core.specs.Event.{Connect, event_did}
use Rattle.node_core.specs.Reads.{all_read}
use Rattle.node_core.specs.Sides.{with_session}
use Rattle.node_core.specs.Step.{machine_step, plain_step}
use Rattle.node_core.specs.Supervising.{watch_of}
use Rattle.node_core.specs.Told.{sends, service_of}
use Rattle.node_core.specs.declared.act.Act.{Act}
use Rattle.node_core.specs.declared.act.Act.TheVariants as acts
use Rattle.node_core.specs.declared.lane.Body.{Body as Machine}
use Rattle.node_core.specs.declared.lane.End.{End}
use Rattle.law_custody.specs.Words.{DownstreamService, UpWord, up_words}
use Rattle.law_custody.proofs.Lists.{up_words-append}
use Rattle.law_link_messages.specs.Fit.{sent_on}
use Rattle.law_link_messages.specs.Heard.{bodies}
use Rattle.law_link_messages.proofs.Fitting.{sent_tells}
use Rattle.law_machine_custody.proofs.Connecting.{calling, connect_did, read_entry}
use Rattle.law_running_line.specs.Off.{Off}
use Rattle.law_running_line.proofs.WiresLink.{mute_up}
use Rattle.law_running_line.proofs.WiresStep.{all_mute, announces_mute, calling_off, read_mutes}

sent_append : (side : Side) (xs ys : List Act) → sent_on side (xs ++ ys) ≡ sent_on side xs ++ sent_on side ys
sent_append side [] ys = refl
sent_append Entry (acts.Sends Entry message ∷ xs) ys = ap (λ (ms : List Message). message ∷ ms) (sent_append Entry xs ys)
sent_append Exit (acts.Sends Exit message ∷ xs) ys = ap (λ (ms : List Message). message ∷ ms) (sent_append Exit xs ys)
sent_append side (act ∷ xs) ys = sent_append side xs ys

bodies_both : (xs ys : List Message) → bodies (xs ++ ys) ≡ bodies xs ++ bodies ys
bodies_both [] ys = refl
bodies_both (message ∷ xs) ys = ap (λ (ms : List Horizontal). message.body ∷ ms) (bodies_both xs ys)

abbrev pub ups : List Act → List UpWord
ups told = up_words (bodies (sent_on Entry told))

pub ups_append : (xs ys : List Act) → ups (xs ++ ys) ≡ ups xs ++ ups ys
ups_append xs ys = ap (λ (ms : List Message). up_words (bodies ms)) (sent_append Entry xs ys) ∙ ap up_words (bodies_both (sent_on Entry xs) (sent_on Entry ys)) ∙ up_words-append (bodies (sent_on Entry xs)) (bodies (sent_on Entry ys))

pub record Calls (desk : Desk) (read : List Sensed) (body : Machine) : Type 0 where
  pub says : ups (machine_step desk read Connect body).acts ≡ DownstreamService ∷ []
  pub off : Off Entry (machine_step desk read Connect body).body

abbrev calls_after : Desk → List Sensed → Machine → Done → Type 0
calls_after desk read body did =
    (ups ((all_read desk read body).acts ++ (did.acts ++ (announces desk did.body).acts)) ≡ DownstreamService ∷ []) × Off Entry (announces desk did.body).body

pub connect_calls : (desk : Desk) (read : List Sensed) (body : Machine) → Off Entry body → body.entry.session.state ≡ NotConnected → Calls desk read body
connect_calls desk read body off away =
    let m = read_mutes Entry desk read body off in
    let one : Machine = (all_read desk read body).body in
    let still : one.entry.session.state ≡ NotConnected = ap (λ (e : End). e.session.state) (read_entry desk read body) ∙ away in
    let now : Machine = with_session Entry calling one in
    let last = announces_mute Entry desk now (calling_off one m.off) in
    let reads : List Act = (all_read desk read body).acts in
    let says : List Act = (announces desk now).acts in
    let middle : List Act = acts.Connects ∷ sends desk Entry (service_of desk) in
    let words : ups (reads ++ (middle ++ says)) ≡ DownstreamService ∷ [] =
    ups_append reads (middle ++ says) ∙ ap (λ (ws : List UpWord). ws ++ ups (middle ++ says)) (mute_up reads (all_mute m.mute)) ∙ ap (λ (ws : List UpWord). DownstreamService ∷ ws) (mute_up says (all_mute last.mute)) in
    let both : calls_after desk read body (event_did desk Connect one) = subst (calls_after desk read body) (sym (connect_did desk one still m.off.entry_role)) (words, last.off) in
    record { says = ap (λ (ms : List Message). up_words (bodies ms)) (sent_tells Entry desk (watch_of desk body) (plain_step desk read Connect body).acts) ∙ both.0; off = both.1 }
