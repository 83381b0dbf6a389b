-- What the program answers is the one answer, or a fault with its cause, or want of memory.
use Rattle.std.proofs.Common.{◌≡◌, ◌∙◌, sym, subst, refl, ℕ, ℤ, Bool, true, false, List, [], Option, None, Some, Result, Ok, Err, append-nil}
use Rattle.std.proofs.lemmas.List.Elements.{All-nil}
use Rattle.line_outside.specs.Given.{Given}
use Rattle.line_outside.specs.Ports.{Gains}
use Rattle.line_outside.specs.Sink.{Grows}
use Rattle.node_core.specs.Node.{new_node}
use Rattle.node_run.specs.Next.{next_of}
use Rattle.node_run.specs.Runs.{HasRun, IsMoment}
use Rattle.node_run.specs.State.{RunState, started}
use Rattle.node_run.specs.Told.{neighbours_of, profile_of, rules_of}
use Rattle.node_run.specs.declared.place.Next.TheVariants as nexts
use Rattle.node_run.specs.declared.status.NodeStatus.{NodeStatus}
use Rattle.node_run.specs.declared.status.NodeStatus.TheVariants as statuses
use Rattle.node_settings.specs.Settings.{Refusal, read_of}
use Rattle.node_settings.specs.declared.settings.Settings.{Settings}
use Rattle.law_node_runs.specs.One.{Agree, EachRunIsOne, IsWhole, answers_of}
use Rattle.law_node_runs.specs.Each.{EachOutsideHasOneRun, Fits, HasOneRun, Outside, begun_by}
use Rattle.node_cli.specs.Answered.{Answers, EachInputHasOneAnswer, EachOutsideHasOneAnswer, HasOneAnswer, IsAnswer, IsAnswered, IsSettingsAnswer, IsStatusAlone, answered, file_failed, log_failed, memory_wanted}
use Rattle.node_commands.proofs.Bounds.{read_bounded}
use Rattle.node_commands.specs.Command.{DoesFile, DoesNode, DoesSettings, HasCauses, IsQuiet}

-- ---- the program's answer

gains_none : (given : Option (List Given)) → Gains given given []
gains_none None = tt
gains_none (Some calls) = sym (append-nil calls)

grows_none : (log : Option (List ℕ)) → Grows log log []
grows_none None = tt
grows_none (Some bytes) = sym (append-nil bytes)

quiet_answer : {Answer : List ℤ → List Given → List ℕ → NodeStatus → Type 0} (told : Option ℤ) (given_old given_new : Option (List Given)) (log_old log_new : Option (List ℕ)) {fb fn lb ln : ℕ} {status : NodeStatus}
    → IsQuiet given_old given_new log_old log_new → Answer [] [] [] status → Answers Answer told given_old given_new log_old log_new fb fn lb ln status
quiet_answer {Answer} told given_old given_new log_old log_new quiet is =
    let given : Gains given_old given_new [] = subst (λ (g : Option (List Given)). Gains given_old g []) (sym quiet.given) (gains_none given_old) in
    let log : Grows log_old log_new [] = subst (λ (l : Option (List ℕ)). Grows log_old l []) (sym quiet.log) (grows_none log_old) in
    answered {moments = []} {calls = []} {log = []} (All-nil (IsMoment told)) is given log

ran : (settings : Settings) (told : Option ℤ) (given_old given_new : Option (List Given)) (log_old log_new : Option (List ℕ)) {fb fn lb ln : ℕ} {status : NodeStatus} (t : RunState)
    → HasRun told (rules_of settings) (started (neighbours_of settings) (new_node (profile_of settings))) t given_old given_new log_old log_new → next_of (rules_of settings) t ≡ nexts.End status
    → Answers (IsSettingsAnswer (Ok settings)) told given_old given_new log_old log_new fb fn lb ln status
ran settings told given_old given_new log_old log_new {status = status} t run ends =
    let whole : IsWhole (rules_of settings) (started (neighbours_of settings) (new_node (profile_of settings))) run.moments run.calls run.log status = record { reached = t; run = run.run; ends = ends } in
    answered {moments = run.moments} {calls = run.calls} {log = run.log} run.at whole run.told run.logged

settings_answered : (settings : Settings) (told : Option ℤ) (given_old given_new : Option (List Given)) (log_old log_new : Option (List ℕ)) (fb fn pb pn lb ln : ℕ) (status : NodeStatus)
    → DoesSettings (Ok settings) told given_old given_new log_old log_new status → HasCauses status fb fn pb pn lb ln
    → Answers (IsSettingsAnswer (Ok settings)) told given_old given_new log_old log_new fb fn lb ln status
settings_answered settings told given_old given_new log_old log_new fb fn pb pn lb ln statuses.LogFault does causes = log_failed refl (causes.log, causes.log_fault refl)
settings_answered settings told given_old given_new log_old log_new fb fn pb pn lb ln statuses.Memory does causes = memory_wanted refl
settings_answered settings told given_old given_new log_old log_new fb fn pb pn lb ln statuses.Done does causes = ran settings told given_old given_new log_old log_new does.0 does.1 does.2
settings_answered settings told given_old given_new log_old log_new fb fn pb pn lb ln statuses.Usage does causes = ran settings told given_old given_new log_old log_new does.0 does.1 does.2
settings_answered settings told given_old given_new log_old log_new fb fn pb pn lb ln (statuses.ConfigRefused key why) does causes = ran settings told given_old given_new log_old log_new does.0 does.1 does.2
settings_answered settings told given_old given_new log_old log_new fb fn pb pn lb ln statuses.ReadFault does causes = ran settings told given_old given_new log_old log_new does.0 does.1 does.2
settings_answered settings told given_old given_new log_old log_new fb fn pb pn lb ln (statuses.ListenFault address) does causes = ran settings told given_old given_new log_old log_new does.0 does.1 does.2
settings_answered settings told given_old given_new log_old log_new fb fn pb pn lb ln statuses.TurnsUsed does causes = ran settings told given_old given_new log_old log_new does.0 does.1 does.2

file_answered : (read : Result Settings Refusal) (told : Option ℤ) (given_old given_new : Option (List Given)) (log_old log_new : Option (List ℕ)) (fb fn pb pn lb ln : ℕ) (status : NodeStatus)
    → DoesSettings read told given_old given_new log_old log_new status → HasCauses status fb fn pb pn lb ln
    → Answers (IsSettingsAnswer read) told given_old given_new log_old log_new fb fn lb ln status
file_answered (Ok settings) told given_old given_new log_old log_new fb fn pb pn lb ln status does causes = settings_answered settings told given_old given_new log_old log_new fb fn pb pn lb ln status does causes
file_answered (Err refusal) told given_old given_new log_old log_new fb fn pb pn lb ln status does causes = quiet_answer told given_old given_new log_old log_new does.1 (does.0, refl, refl)

one_word : (bytes : List ℕ) (told : Option ℤ) (given_old given_new : Option (List Given)) (log_old log_new : Option (List ℕ)) (fb fn pb pn lb ln : ℕ) (status : NodeStatus)
    → DoesFile bytes told given_old given_new log_old log_new status → HasCauses status fb fn pb pn lb ln
    → Answers (IsAnswer true bytes) told given_old given_new log_old log_new fb fn lb ln status
one_word bytes told given_old given_new log_old log_new fb fn pb pn lb ln statuses.ReadFault does causes = file_failed refl (causes.file, causes.read_fault refl)
one_word bytes told given_old given_new log_old log_new fb fn pb pn lb ln statuses.Memory does causes = memory_wanted refl
one_word bytes told given_old given_new log_old log_new fb fn pb pn lb ln statuses.LogFault does causes = file_answered (read_of bytes) told given_old given_new log_old log_new fb fn pb pn lb ln statuses.LogFault does causes
one_word bytes told given_old given_new log_old log_new fb fn pb pn lb ln statuses.Done does causes = file_answered (read_of bytes) told given_old given_new log_old log_new fb fn pb pn lb ln statuses.Done does causes
one_word bytes told given_old given_new log_old log_new fb fn pb pn lb ln statuses.Usage does causes = file_answered (read_of bytes) told given_old given_new log_old log_new fb fn pb pn lb ln statuses.Usage does causes
one_word bytes told given_old given_new log_old log_new fb fn pb pn lb ln (statuses.ConfigRefused key why) does causes = file_answered (read_of bytes) told given_old given_new log_old log_new fb fn pb pn lb ln (statuses.ConfigRefused key why) does causes
one_word bytes told given_old given_new log_old log_new fb fn pb pn lb ln (statuses.ListenFault address) does causes = file_answered (read_of bytes) told given_old given_new log_old log_new fb fn pb pn lb ln (statuses.ListenFault address) does causes
one_word bytes told given_old given_new log_old log_new fb fn pb pn lb ln statuses.TurnsUsed does causes = file_answered (read_of bytes) told given_old given_new log_old log_new fb fn pb pn lb ln statuses.TurnsUsed does causes

pub answers_so : (one : Bool) (left : Option (List ℕ)) (told : Option ℤ) (given_old given_new : Option (List Given)) (log_old log_new : Option (List ℕ)) (fb fn pb pn lb ln : ℕ) (status : NodeStatus)
    → DoesNode one left told given_old given_new log_old log_new status → HasCauses status fb fn pb pn lb ln
    → IsAnswered one left told given_old given_new log_old log_new fb fn lb ln status
answers_so one None told given_old given_new log_old log_new fb fn pb pn lb ln status does causes = tt
answers_so false (Some bytes) told given_old given_new log_old log_new fb fn pb pn lb ln status does causes = quiet_answer told given_old given_new log_old log_new does.1 (does.0, refl, refl)
answers_so true (Some bytes) told given_old given_new log_old log_new fb fn pb pn lb ln status does causes = one_word bytes told given_old given_new log_old log_new fb fn pb pn lb ln status does causes

-- ---- the one answer

alone_once : {wanted : NodeStatus} {calls more : List Given} {log text : List ℕ} {status end : NodeStatus}
    → IsStatusAlone wanted calls log status → IsStatusAlone wanted more text end → (more ≡ calls) × (text ≡ log) × (end ≡ status)
alone_once one other = (other.1 ∙ sym one.1, other.2 ∙ sym one.2, other.0 ∙ sym one.0)

settings_once : EachRunIsOne → (read : Result Settings Refusal) (moments others : List ℤ) (calls more : List Given) (log text : List ℕ) (status end : NodeStatus)
    → IsSettingsAnswer read moments calls log status → IsSettingsAnswer read others more text end
    → Agree moments others → Agree (answers_of calls) (answers_of more) → (more ≡ calls) × (text ≡ log) × (end ≡ status)
settings_once law (Ok settings) moments others calls more log text status end one other times answers =
    let once = law (rules_of settings) (started (neighbours_of settings) (new_node (profile_of settings))) moments others calls more log text status end one other times answers in
    (once.1, once.2, once.3)
settings_once law (Err refusal) moments others calls more log text status end one other times answers = alone_once one other

pub one_answer : EachRunIsOne → EachInputHasOneAnswer
one_answer law false bytes moments others calls more log text status end one other times answers = alone_once one other
one_answer law true bytes moments others calls more log text status end one other times answers = settings_once law (read_of bytes) moments others calls more log text status end one other times answers

-- ---- the answer that there is

alone_has : (outside : Outside) (one : Bool) (bytes : List ℕ) (wanted : NodeStatus)
    → ((moments : List ℤ) → IsAnswer one bytes moments [] [] wanted)
    → ((moments : List ℤ) (calls : List Given) (log : List ℕ) (status : NodeStatus) → IsAnswer one bytes moments calls log status → IsStatusAlone wanted calls log status)
    → HasOneAnswer outside one bytes
alone_has outside one bytes wanted is only = record {
  moments = [];
  calls = [];
  log = [];
  status = wanted;
  is = record { answer = is []; at = tt; answered = tt };
  alone = λ others more text end other. let a = only others more text end other.answer in (a.1, a.2, a.0);
}

run_has : (outside : Outside) (bytes : List ℕ) (settings : Settings) → read_of bytes ≡ Ok settings → HasOneRun outside (rules_of settings) (begun_by settings) → HasOneAnswer outside true bytes
run_has outside bytes settings is has =
    let P : Result Settings Refusal → Type 0 = λ read. IsSettingsAnswer read has.moments has.calls has.log has.status in
    record {
      moments = has.moments;
      calls = has.calls;
      log = has.log;
      status = has.status;
      is = record { answer = subst P (sym is) has.run.whole; at = has.run.at; answered = has.run.answered };
      alone = λ others more text end other.
          let Q : Result Settings Refusal → Type 0 = λ read. IsSettingsAnswer read others more text end in
          let one = has.alone others more text end (record { whole = subst Q is other.answer; at = other.at; answered = other.answered }) in
          (one.1, one.2, one.3);
    }

refused_has : (outside : Outside) (bytes : List ℕ) (refusal : Refusal) → read_of bytes ≡ Err refusal → HasOneAnswer outside true bytes
refused_has outside bytes refusal is =
    let P : List ℤ → Result Settings Refusal → Type 0 = λ moments read. IsSettingsAnswer read moments [] [] (statuses.ConfigRefused refusal.key refusal.why) in
    alone_has outside true bytes (statuses.ConfigRefused refusal.key refusal.why) (λ moments. subst (P moments) (sym is) (refl, refl, refl))
    (λ moments calls log status answer. let Q : Result Settings Refusal → Type 0 = λ read. IsSettingsAnswer read moments calls log status in subst Q is answer)

settings_have : EachOutsideHasOneRun → (outside : Outside) (bytes : List ℕ) → Fits outside → (read : Result Settings Refusal) → read_of bytes ≡ read → HasOneAnswer outside true bytes
settings_have law outside bytes fits (Ok settings) is = run_has outside bytes settings is (law settings outside (read_bounded bytes settings is).number fits)
settings_have law outside bytes fits (Err refusal) is = refused_has outside bytes refusal is

pub outside_answers : EachOutsideHasOneRun → EachOutsideHasOneAnswer
outside_answers law false bytes outside fits = alone_has outside false bytes statuses.Usage (λ moments. (refl, refl, refl)) (λ moments calls log status answer. answer)
outside_answers law true bytes outside fits = settings_have law outside bytes fits (read_of bytes) refl
