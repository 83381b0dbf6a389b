-- A side that hears fit words says what is fit.
use Rattle.std.proofs.Common.{Bool, List, None, Option, Some, [], false, refl, sym, true, ◌∙◌, ◌∷◌, ◌≡◌}
use Rattle.std.specs.Prelude.{is_some}
use Rattle.std.proofs.lemmas.Bool.{false≢true}
use Rattle.node_core.proofs.Opened.{breach_closes}
use Rattle.line_base.specs.declared.states.Side.{Side}
use Rattle.line_base.specs.declared.states.Side.TheVariants.{Entry, Exit}
use Rattle.hermes_horizontal.specs.Parts.{kind_of}
use Rattle.hermes_horizontal.specs.declared.message.Horizontal.{Horizontal}
use Rattle.hermes_horizontal.specs.declared.message.Horizontal.TheVariants as bodies
use Rattle.hermes_horizontal.specs.declared.message.Message.{Message}
use Rattle.session_core.specs.Breach.{unexpected}
use Rattle.session_core.specs.Input.{heard}
use Rattle.session_core.specs.Row.{SessionRow, session_row}
use Rattle.session_core.specs.declared.actions.Action.{Action}
use Rattle.session_core.specs.declared.actions.Action.TheVariants.{Close, Pass, Ping, Pong, SendService, Stand, Tell}
use Rattle.session_core.specs.declared.actions.Actions.{Actions}
use Rattle.handover_out.specs.State.{held, would_open}
use Rattle.handover_out.specs.Row.{outlet_row}
use Rattle.handover_out.specs.declared.input.OutInput.TheVariants as out_input
use Rattle.handover_in.specs.Row.{intake_row}
use Rattle.handover_in.specs.declared.input.InInput.TheVariants as in_input
use Rattle.node_core.specs.Connect.{if_open}
use Rattle.node_core.specs.Desk.{Desk}
use Rattle.node_core.specs.Done.{Done, and_then, behind}
use Rattle.node_core.specs.Hears.{entry_took, entry_word, exit_took, exit_word, hears, passed, rowed, side_took, taken}
use Rattle.node_core.specs.Information.{answer_to}
use Rattle.node_core.specs.Session.{actions_did, breaches}
use Rattle.node_core.specs.Sides.{is_open, session_at, with_session}
use Rattle.node_core.specs.Words.{all_heard, word_did}
use Rattle.node_core.specs.declared.act.Act.TheVariants as acts
use Rattle.node_core.specs.declared.lane.Body.{Body}
use Rattle.node_core.specs.declared.word.EntryWord.{EntryWord}
use Rattle.node_core.specs.declared.word.EntryWord.TheVariants as entries
use Rattle.node_core.specs.declared.word.ExitWord.{ExitWord}
use Rattle.node_core.specs.declared.word.ExitWord.TheVariants as exits
use Rattle.node_core.specs.declared.word.Word.{Word}
use Rattle.node_core.specs.declared.word.Word.TheVariants.{Says, Wrong}
use Rattle.law_link_messages.specs.Fit.{AreFitWords, Fits, IsFitBody, IsFitDesk, IsFitHeard, IsFitId, IsFitRecord, more_heard, more_said, none_said, wrong_heard}
use Rattle.law_link_messages.proofs.SayingHalves.{FitsAny, fits_behind, fits_both, fits_some, fits_still, fits_told, intake_took_fits, outlet_took_fits, start_took_fits, with_session_fits}
use Rattle.law_link_messages.proofs.SayingSessions.{AreFitActions, IsFitActionIf, actions_fit, breaches_fit, row_actions}
use Rattle.law_link_messages.proofs.SayingWhat.{answer_fits, sent, unexpected_is_text}

-- ---- the halves

abbrev IsFitExitWord : ExitWord → Type 0
IsFitExitWord (exits.Start id) = IsFitId id
IsFitExitWord _ = Unit {0}

exit_word_fits : (what : Horizontal) → IsFitHeard what → IsFitExitWord (exit_word what)
exit_word_fits (bodies.StartTransport id) given = given
exit_word_fits _ given = tt

exit_fits : (desk : Desk) (word : ExitWord) (body : Body) → IsFitExitWord word → IsFitDesk desk → IsFitBody body → FitsAny (exit_took desk word body)
exit_fits desk exits.Ready body given d b = outlet_took_fits desk body out_input.MachineReady (outlet_row body.outlet out_input.MachineReady) tt refl d b
exit_fits desk exits.Unready body given d b = outlet_took_fits desk body out_input.RevokeMachineReady (outlet_row body.outlet out_input.RevokeMachineReady) tt refl d b
exit_fits desk (exits.Start id) body given d b = start_took_fits desk body id (would_open body.outlet id) given d b
exit_fits desk (exits.Stop state id) body given d b = outlet_took_fits desk body (out_input.Stop state id) (outlet_row body.outlet (out_input.Stop state id)) tt refl d b
exit_fits desk (exits.Query top bottom) body given d b =
    fits_some (fits_told body _ b (sent desk Exit (bodies.SendBoardInfo (answer_to body.kept top bottom)) d (answer_fits body.kept top bottom b.kept)))
exit_fits desk exits.Nothing body given d b = fits_some (fits_still body b)

abbrev IsFitEntryWord : EntryWord → Type 0
IsFitEntryWord (entries.Available board) = IsFitRecord board
IsFitEntryWord _ = Unit {0}

entry_word_fits : (what : Horizontal) → IsFitHeard what → IsFitEntryWord (entry_word what)
entry_word_fits (bodies.BoardAvailable board) given = given
entry_word_fits _ given = tt

entry_fits : (desk : Desk) (word : EntryWord) (body : Body) → IsFitEntryWord word → IsFitDesk desk → IsFitBody body → FitsAny (entry_took desk word body)
entry_fits desk (entries.Available board) body given d b = intake_took_fits desk body (in_input.BoardAvailable board) (intake_row body.intake (in_input.BoardAvailable board)) given refl d b
entry_fits desk entries.Revoked body given d b = intake_took_fits desk body in_input.RevokeBoardAvailable (intake_row body.intake in_input.RevokeBoardAvailable) tt refl d b
entry_fits desk (entries.Finished state id) body given d b = intake_took_fits desk body (in_input.Finished state id) (intake_row body.intake (in_input.Finished state id)) tt refl d b
entry_fits desk entries.Nothing body given d b = fits_some (fits_still body b)

side_fits : (desk : Desk) (side : Side) (what : Horizontal) (body : Body) → IsFitHeard what → IsFitDesk desk → IsFitBody body → FitsAny (side_took desk side what body)
side_fits desk Entry what body given d b = entry_fits desk (entry_word what) body (entry_word_fits what given) d b
side_fits desk Exit what body given d b = exit_fits desk (exit_word what) body (exit_word_fits what given) d b

-- ---- messages

passed_fits : (desk : Desk) (side : Side) (message : Message) (body : Body) (found : Option Done) → FitsAny found → IsFitDesk desk → IsFitBody body → Fits (passed desk side message body found)
passed_fits desk side message body None any d b = breaches_fit desk side (unexpected (kind_of message.body)) body (unexpected_is_text (kind_of message.body)) d b
passed_fits desk side message body (Some did) (fits_some f) d b = fits_behind (acts.Hears side message ∷ []) did (more_said tt none_said) f

by_session : (desk : Desk) (side : Side) (message : Message) (actions : Actions) (body : Body) → AreFitActions actions → IsFitDesk desk → IsFitBody body → Fits (behind (acts.Hears side message ∷ []) (actions_did desk side actions body))
by_session desk side message actions body given d b = fits_behind (acts.Hears side message ∷ []) (actions_did desk side actions body) (more_said tt none_said) (actions_fit desk side actions body given d b)

taken_fits : (desk : Desk) (side : Side) (message : Message) (first : Option Action) (actions : Actions) (body : Body) → IsFitActionIf first → AreFitActions actions → IsFitDesk desk → IsFitBody body → Fits (taken desk side message first actions body)
taken_fits desk side message (Some (Pass what)) actions body one given d b = passed_fits desk side message body (side_took desk side what body) (side_fits desk side what body one d b) d b
taken_fits desk side message None actions body one given d b = by_session desk side message actions body given d b
taken_fits desk side message (Some SendService) actions body one given d b = by_session desk side message actions body given d b
taken_fits desk side message (Some (Pong _)) actions body one given d b = by_session desk side message actions body given d b
taken_fits desk side message (Some (Ping _)) actions body one given d b = by_session desk side message actions body given d b
taken_fits desk side message (Some (Tell _)) actions body one given d b = by_session desk side message actions body given d b
taken_fits desk side message (Some Close) actions body one given d b = by_session desk side message actions body given d b
taken_fits desk side message (Some Stand) actions body one given d b = by_session desk side message actions body given d b

rowed_fits : (desk : Desk) (side : Side) (message : Message) (unsettled : Bool) (body : Body) (found : Option SessionRow) → session_row (session_at side body) (heard message.body unsettled) ≡ found → IsFitHeard message.body → IsFitDesk desk → IsFitBody body → Fits (rowed desk side message body found)
rowed_fits desk side message unsettled body None is given d b = breaches_fit desk side (unexpected (kind_of message.body)) body (unexpected_is_text (kind_of message.body)) d b
rowed_fits desk side message unsettled body (Some r) is given d b =
    let actions : AreFitActions r.actions = row_actions (session_at side body) (heard message.body unsettled) r is given in
    taken_fits desk side message r.actions.first r.actions (with_session side r.after body) actions.first actions d (with_session_fits side r.after body b)

pub hears_fit : (desk : Desk) (side : Side) (message : Message) (body : Body) → IsFitHeard message.body → IsFitDesk desk → IsFitBody body → Fits (hears desk side message body)
hears_fit desk side message body given d b = rowed_fits desk side message (is_some (held body.outlet)) body (session_row (session_at side body) (heard message.body (is_some (held body.outlet)))) refl given d b

-- ---- words

pub if_fits : (test : Bool) (did : Done) (body : Body) → IsFitBody body → Fits did → Fits (if_open test did body)
if_fits true did body b f = f
if_fits false did body b f = fits_still body b

not_heard : (test : Bool) (did : Done) (body : Body) → test ≡ false → IsFitBody body → Fits (if_open test did body)
not_heard false did body is b = fits_still body b
not_heard true did body is b = absurd (false≢true (sym is))

-- so nothing more is heard
silent_behind : (desk : Desk) (side : Side) (open_still : Bool) (words : List Word) (body : Body) → is_open side body ≡ open_still → open_still ≡ false → IsFitBody body → Fits (all_heard desk side words body)
silent_behind desk side _ [] body is shut b = fits_still body b
silent_behind desk side open_still (w ∷ ws) body is shut b = not_heard (is_open side body) (and_then (word_did desk side w body) (all_heard desk side ws)) body (is ∙ shut) b

pub words_fit : (desk : Desk) (side : Side) (words : List Word) (body : Body) → AreFitWords words → IsFitDesk desk → IsFitBody body → Fits (all_heard desk side words body)
words_fit desk side [] body given d b = fits_still body b
words_fit desk side (Says message ∷ ws) body (more_heard one others) d b =
    let first : Fits (hears desk side message body) = hears_fit desk side message body one d b in
    if_fits (is_open side body) (and_then (hears desk side message body) (all_heard desk side ws)) body b
    (fits_both (hears desk side message body) (all_heard desk side ws) first (words_fit desk side ws (hears desk side message body).body others d first.body))
words_fit desk side (Wrong text ∷ ws) body (wrong_heard is) d b =
    let first : Fits (breaches desk side text body) = breaches_fit desk side text body is d b in
    if_fits (is_open side body) (and_then (breaches desk side text body) (all_heard desk side ws)) body b
    (fits_both (breaches desk side text body) (all_heard desk side ws) first
    (silent_behind desk side (is_open side (breaches desk side text body).body) ws (breaches desk side text body).body refl (breach_closes desk side text body) first.body))
