-- What the program answers over a book is the one answer, or a fault with its cause, or want of memory.
use Rattle.std.proofs.Common.{◌≡◌, ◌∙◌, sym, subst, refl, ap, ℕ, ℤ, ◌≤◌, ◌<◌, Bool, true, false, List, [], ◌∷◌, ◌++◌, Option, None, Some, Result, Ok, Err, inl, inr, length, append-nil, arith}
use Rattle.std.proofs.lemmas.List.Elements.{All-nil, All-push}
use Rattle.law_node_runs.specs.Kept.{BeginAsOne, EachKeptRunIsOne, EndsKept, IsFullKept, IsWholeKept}
use Rattle.line_outside.specs.Given.{Given}
use Rattle.line_outside.specs.Ports.{Gains}
use Rattle.line_outside.specs.Sink.{Grows}
use Rattle.machine_log.specs.Drives.{all_off, drives_after}
use Rattle.machine_log.specs.declared.drives.Drives.{Drives}
use Rattle.node_core.specs.Node.{NodeState, new_node}
use Rattle.node_run.specs.Booked.{HasRunKept, StopsFull, most_book}
use Rattle.node_run.specs.Gone.{begins_again}
use Rattle.node_run.specs.Next.{next_of}
use Rattle.node_run.specs.Runs.{IsMoment}
use Rattle.node_run.specs.State.{RunState, resumed as begun}
use Rattle.node_run.specs.Told.{neighbours_of, profile_of, rules_of}
use Rattle.node_run.specs.declared.booked.BookedStatus.TheVariants as booked
use Rattle.node_run.specs.declared.place.Next.TheVariants as nexts
use Rattle.node_run.specs.declared.status.NodeStatus.{NodeStatus}
use Rattle.node_run.specs.declared.status.NodeStatus.TheVariants as statuses
use Rattle.node_settings.specs.Settings.{Refusal, read_of}
use Rattle.node_settings.specs.declared.settings.Settings.{Settings}
use Rattle.law_node_runs.specs.One.{Agree, answers_of}
use Rattle.restart_book.specs.Exactly.{EachBookHasOneAnswer}
use Rattle.restart_book.specs.Replay.{IsResumedAs}
use Rattle.node_cli.specs.BookAnswered.{BookAnswers, Change, Counts, EachBookInputHasOneAnswer, GoesOn, IsBookAnswer, IsBookAnswered, IsBookRun, IsEndAlone, IsReadAnswer, IsTakingAnswer, answered, book_failed, counts, file_failed, goes_on, is_bad, is_too_long, kept_on, log_failed, memory_wanted, stays}
use Rattle.node_commands.specs.Books.{DoesBook, DoesBookFile, DoesNodeBook, DoesRead, DoesTaking, HasBookCauses, IsUntouched, Outside, RunsOn, book_status}
use Rattle.node_commands.specs.Taking.{IsHeld}
use Rattle.node_commands.specs.declared.book_status.BookStatus.{BookStatus}
use Rattle.node_commands.specs.declared.book_status.BookStatus.TheVariants as ends

-- ---- the program's answer

gains_none : (given : Option (List Given)) → Gains given given []
gains_none None = tt
gains_none (Some calls) = sym (append-nil calls)

grows_none : (log : Option (List ℕ)) → Grows log log []
grows_none None = tt
grows_none (Some bytes) = sym (append-nil bytes)

-- some is as it is told
as_told : Option Bool → Bool
as_told None = false
as_told (Some held) = held

held_as_told : (busy : Option Bool) → IsHeld busy (as_told busy)
unfolding as_told
held_as_told None = tt
held_as_told (Some held) = refl

quiet_answer : {Answer : Bool → List ℤ → List Given → List ℕ → Change → BookStatus → Type 0} (busy : Option Bool) (held : Bool) (told : Option ℤ) (old new : Outside) (before now : Counts) (status : BookStatus) → IsHeld busy held → IsUntouched old new → Answer held [] [] [] stays status
    → BookAnswers Answer busy told old new before now status
quiet_answer {Answer} busy held told old new before now status is_held quiet is =
    let given : Gains old.given new.given [] = subst (λ (g : Option (List Given)). Gains old.given g []) (sym quiet.given) (gains_none old.given) in
    let log : Grows old.log new.log [] = subst (λ (l : Option (List ℕ)). Grows old.log l []) (sym quiet.log) (grows_none old.log) in
    answered {held = held} {moments = []} {calls = []} {log = []} {change = stays} is_held (All-nil (IsMoment told)) is given log quiet.book

whole_run : (busy : Option Bool) (told : Option ℤ) (settings : Settings) (book : List ℕ) (old new : Outside) (before now : Counts) (status : NodeStatus) → IsHeld busy false → (on : RunsOn told settings book old new (booked.Node status)) → (t : RunState)
    → HasRunKept told (rules_of settings) (begun (neighbours_of settings) on.node on.drives) t on.whole old.given new.given old.log new.log on.mended new.book → begins_again t ≡ false → next_of (rules_of settings) t ≡ nexts.End status
    → BookAnswers (λ held. IsTakingAnswer held settings book) busy told old new before now (ends.Node status)
whole_run busy told settings book old new before now status free on t run begun_is ends_is =
    let is : IsWholeKept (rules_of settings) (begun (neighbours_of settings) on.node on.drives) on.whole run.moments run.calls run.log run.entries status = record { reached = t; run = run.run; fits = run.kept.fits; begun = begun_is; ends = ends_is } in
    let goes : GoesOn settings book run.moments run.calls run.log (kept_on (length book) on.whole run.entries) (ends.Node status) =
    record { short = on.short; node = on.node; drives = on.drives; whole = on.whole; resumed = on.resumed; entries = run.entries; end = booked.Node status; ends = is; change_is = refl; status_is = refl } in
    answered {held = false} {moments = run.moments} {calls = run.calls} {log = run.log} {change = kept_on (length book) on.whole run.entries} free run.at (goes_on goes) run.told run.logged (record { mended = on.mended; is_mended = on.is_mended; grows = run.kept.grows })

full_run : (busy : Option Bool) (told : Option ℤ) (settings : Settings) (book : List ℕ) (old new : Outside) (before now : Counts) → IsHeld busy false → (on : RunsOn told settings book old new booked.BookFull)
    → StopsFull told (rules_of settings) (begun (neighbours_of settings) on.node on.drives) on.whole old.given new.given old.log new.log on.mended new.book → BookAnswers (λ held. IsTakingAnswer held settings book) busy told old new before now ends.BookFull
full_run busy told settings book old new before now free on stop =
    let stops = stop.stops in
    let moments = stops.moments ++ stops.moment ∷ [] in
    let calls = stops.calls ++ stops.last in
    let is : IsFullKept (rules_of settings) (begun (neighbours_of settings) on.node on.drives) on.whole moments calls stops.log stops.entries =
    record { before = stops.moments; moment = stops.moment; moments_are = refl; done = stops.calls; last = stops.last; calls_are = refl; reached = stops.reached; after = stops.after; lines = stops.lines; run = stops.run; fits = stops.kept.fits; move = stops.move; made = stops.made; full = stop.full } in
    let goes : GoesOn settings book moments calls stops.log (kept_on (length book) on.whole stops.entries) ends.BookFull =
    record { short = on.short; node = on.node; drives = on.drives; whole = on.whole; resumed = on.resumed; entries = stops.entries; end = booked.BookFull; ends = is; change_is = refl; status_is = refl } in
    answered {held = false} {moments = moments} {calls = calls} {log = stops.log} {change = kept_on (length book) on.whole stops.entries} free (All-push (IsMoment told) stops.moments stops.moment stops.at stops.now) (goes_on goes) stops.told stops.logged
    (record { mended = on.mended; is_mended = on.is_mended; grows = stops.kept.grows })

whole_of : (busy : Option Bool) (told : Option ℤ) (settings : Settings) (book : List ℕ) (old new : Outside) (before now : Counts) (status : NodeStatus) → IsHeld busy false → (on : RunsOn told settings book old new (booked.Node status))
    → (t : RunState) × HasRunKept told (rules_of settings) (begun (neighbours_of settings) on.node on.drives) t on.whole old.given new.given old.log new.log on.mended new.book × (begins_again t ≡ false) × (next_of (rules_of settings) t ≡ nexts.End status)
    → BookAnswers (λ held. IsTakingAnswer held settings book) busy told old new before now (ends.Node status)
whole_of busy told settings book old new before now status free on ended = whole_run busy told settings book old new before now status free on ended.0 ended.1 ended.2 ended.3

full_or : (busy : Option Bool) (told : Option ℤ) (settings : Settings) (book : List ℕ) (old new : Outside) (before now : Counts) → IsHeld busy false → DoesBook told settings book old new ends.BookFull → BookAnswers (λ held. IsTakingAnswer held settings book) busy told old new before now ends.BookFull
full_or busy told settings book old new before now free (inl large) = quiet_answer busy false told old new before now ends.BookFull free large.1 (is_too_long large.0 (refl, refl, refl, refl))
full_or busy told settings book old new before now free (inr on) = full_run busy told settings book old new before now free on on.runs

ran : (busy : Option Bool) (told : Option ℤ) (settings : Settings) (book : List ℕ) (old new : Outside) (before now : Counts) (fb fn pb pn lb ln bb bn : ℕ) (status : BookStatus) → before ≡ counts fb lb bb → now ≡ counts fn ln bn
    → DoesTaking busy told settings (Some book) old new status → HasBookCauses status fb fn pb pn lb ln bb bn → BookAnswers (λ held. IsTakingAnswer held settings book) busy told old new before now status
ran busy told settings book old new before now fb fn pb pn lb ln bb bn ends.BookBusy then after does causes = quiet_answer busy true told old new before now ends.BookBusy does.0 does.1 (refl, refl, refl, refl)
ran busy told settings book old new before now fb fn pb pn lb ln bb bn (ends.BookRefused at why) then after on causes = quiet_answer busy false told old new before now (ends.BookRefused at why) on.free on.does.untouched (is_bad on.does.short on.does.bad (refl, refl, refl, refl))
ran busy told settings book old new before now fb fn pb pn lb ln bb bn ends.BookFull then after on causes = full_or busy told settings book old new before now on.free on.does
ran busy told settings book old new before now fb fn pb pn lb ln bb bn ends.BookFault then after does causes =
    let P : Counts → Type 0 = λ c. BookAnswers (λ held. IsTakingAnswer held settings book) busy told old new c now ends.BookFault in
    let Q : Counts → Type 0 = λ c. BookAnswers (λ held. IsTakingAnswer held settings book) busy told old new (counts fb lb bb) c ends.BookFault in
    subst P (sym then) (subst Q (sym after) (book_failed refl (causes.book, causes.book_fault refl)))
ran busy told settings book old new before now fb fn pb pn lb ln bb bn (ends.Node statuses.Memory) then after does causes = memory_wanted refl
ran busy told settings book old new before now fb fn pb pn lb ln bb bn (ends.Node statuses.LogFault) then after does causes =
    let P : Counts → Type 0 = λ c. BookAnswers (λ held. IsTakingAnswer held settings book) busy told old new c now (ends.Node statuses.LogFault) in
    let Q : Counts → Type 0 = λ c. BookAnswers (λ held. IsTakingAnswer held settings book) busy told old new (counts fb lb bb) c (ends.Node statuses.LogFault) in
    subst P (sym then) (subst Q (sym after) (log_failed refl (causes.log, causes.log_fault refl)))
ran busy told settings book old new before now fb fn pb pn lb ln bb bn (ends.Node statuses.Done) then after on causes = whole_of busy told settings book old new before now statuses.Done on.free on.does on.does.runs
ran busy told settings book old new before now fb fn pb pn lb ln bb bn (ends.Node statuses.Usage) then after on causes = whole_of busy told settings book old new before now statuses.Usage on.free on.does on.does.runs
ran busy told settings book old new before now fb fn pb pn lb ln bb bn (ends.Node (statuses.ConfigRefused key why)) then after on causes = whole_of busy told settings book old new before now (statuses.ConfigRefused key why) on.free on.does on.does.runs
ran busy told settings book old new before now fb fn pb pn lb ln bb bn (ends.Node statuses.ReadFault) then after on causes = whole_of busy told settings book old new before now statuses.ReadFault on.free on.does on.does.runs
ran busy told settings book old new before now fb fn pb pn lb ln bb bn (ends.Node (statuses.ListenFault address)) then after on causes = whole_of busy told settings book old new before now (statuses.ListenFault address) on.free on.does on.does.runs
ran busy told settings book old new before now fb fn pb pn lb ln bb bn (ends.Node statuses.TurnsUsed) then after on causes = whole_of busy told settings book old new before now statuses.TurnsUsed on.free on.does on.does.runs

read_answered : (read : Result Settings Refusal) (busy : Option Bool) (told : Option ℤ) (book : List ℕ) (old new : Outside) (fb fn pb pn lb ln bb bn : ℕ) (status : BookStatus) → DoesRead read busy told (Some book) old new status → HasBookCauses status fb fn pb pn lb ln bb bn
    → BookAnswers (λ held. IsReadAnswer read held book) busy told old new (counts fb lb bb) (counts fn ln bn) status
read_answered (Ok settings) busy told book old new fb fn pb pn lb ln bb bn status does causes = ran busy told settings book old new (counts fb lb bb) (counts fn ln bn) fb fn pb pn lb ln bb bn status refl refl does causes
read_answered (Err refusal) busy told book old new fb fn pb pn lb ln bb bn status does causes = quiet_answer busy (as_told busy) told old new (counts fb lb bb) (counts fn ln bn) status (held_as_told busy) does.1 (does.0, refl, refl, refl)

one_word : (file book : List ℕ) (busy : Option Bool) (told : Option ℤ) (old new : Outside) (fb fn pb pn lb ln bb bn : ℕ) (status : BookStatus) → DoesBookFile file busy told (Some book) old new status → HasBookCauses status fb fn pb pn lb ln bb bn
    → BookAnswers (λ held. IsBookAnswer true file held book) busy told old new (counts fb lb bb) (counts fn ln bn) status
one_word file book busy told old new fb fn pb pn lb ln bb bn (ends.Node statuses.ReadFault) does causes = file_failed refl (causes.file, causes.read_fault refl)
one_word file book busy told old new fb fn pb pn lb ln bb bn (ends.Node statuses.Memory) does causes = memory_wanted refl
one_word file book busy told old new fb fn pb pn lb ln bb bn (ends.Node statuses.Done) does causes = read_answered (read_of file) busy told book old new fb fn pb pn lb ln bb bn (ends.Node statuses.Done) does causes
one_word file book busy told old new fb fn pb pn lb ln bb bn (ends.Node statuses.Usage) does causes = read_answered (read_of file) busy told book old new fb fn pb pn lb ln bb bn (ends.Node statuses.Usage) does causes
one_word file book busy told old new fb fn pb pn lb ln bb bn (ends.Node (statuses.ConfigRefused key why)) does causes = read_answered (read_of file) busy told book old new fb fn pb pn lb ln bb bn (ends.Node (statuses.ConfigRefused key why)) does causes
one_word file book busy told old new fb fn pb pn lb ln bb bn (ends.Node statuses.LogFault) does causes = read_answered (read_of file) busy told book old new fb fn pb pn lb ln bb bn (ends.Node statuses.LogFault) does causes
one_word file book busy told old new fb fn pb pn lb ln bb bn (ends.Node (statuses.ListenFault address)) does causes = read_answered (read_of file) busy told book old new fb fn pb pn lb ln bb bn (ends.Node (statuses.ListenFault address)) does causes
one_word file book busy told old new fb fn pb pn lb ln bb bn (ends.Node statuses.TurnsUsed) does causes = read_answered (read_of file) busy told book old new fb fn pb pn lb ln bb bn (ends.Node statuses.TurnsUsed) does causes
one_word file book busy told old new fb fn pb pn lb ln bb bn ends.BookFault does causes = read_answered (read_of file) busy told book old new fb fn pb pn lb ln bb bn ends.BookFault does causes
one_word file book busy told old new fb fn pb pn lb ln bb bn (ends.BookRefused at why) does causes = read_answered (read_of file) busy told book old new fb fn pb pn lb ln bb bn (ends.BookRefused at why) does causes
one_word file book busy told old new fb fn pb pn lb ln bb bn ends.BookFull does causes = read_answered (read_of file) busy told book old new fb fn pb pn lb ln bb bn ends.BookFull does causes
one_word file book busy told old new fb fn pb pn lb ln bb bn ends.BookBusy does causes = read_answered (read_of file) busy told book old new fb fn pb pn lb ln bb bn ends.BookBusy does causes

pub answers_so : (one : Bool) (file : Option (List ℕ)) (busy : Option Bool) (left : Option (List ℕ)) (told : Option ℤ) (old new : Outside) (fb fn pb pn lb ln bb bn : ℕ) (status : BookStatus) → DoesNodeBook one file busy left told old new status → HasBookCauses status fb fn pb pn lb ln bb bn
    → IsBookAnswered one file busy left told old new (counts fb lb bb) (counts fn ln bn) status
answers_so one None busy left told old new fb fn pb pn lb ln bb bn status does causes = tt
answers_so one (Some file) busy None told old new fb fn pb pn lb ln bb bn status does causes = tt
answers_so false (Some file) busy (Some book) told old new fb fn pb pn lb ln bb bn status does causes = quiet_answer busy (as_told busy) told old new (counts fb lb bb) (counts fn ln bn) status (held_as_told busy) does.1 (does.0, refl, refl, refl)
answers_so true (Some file) busy (Some book) told old new fb fn pb pn lb ln bb bn status does causes = one_word file book busy told old new fb fn pb pn lb ln bb bn status does causes

-- ---- the one answer

record AnswersOnce (calls more : List Given) (log text : List ℕ) (change other : Change) (status end : BookStatus) : Type 0 where
  calls_same : more ≡ calls
  log_same : text ≡ log
  change_same : other ≡ change
  end_same : end ≡ status

alone_once : {wanted also : BookStatus} {calls more : List Given} {log text : List ℕ} {change other : Change} {status end : BookStatus} → also ≡ wanted → IsEndAlone wanted calls log change status → IsEndAlone also more text other end → AnswersOnce calls more log text change other status end
alone_once same one two = record { calls_same = two.1 ∙ sym one.1; log_same = two.2 ∙ sym one.2; change_same = two.3 ∙ sym one.3; end_same = two.0 ∙ same ∙ sym one.0 }

both_lengths : (book : List ℕ) (A : Type 0) → most_book < length book → length book ≤ most_book → A
both_lengths book A large short = let wrong : most_book < most_book = omega (arith, large, short) in absurd (omega (arith, wrong))

same_drives : (start : NodeState) (book : List ℕ) (one other : ℕ) (a b : NodeState) (x y : Drives) → EachBookHasOneAnswer → (u : IsResumedAs start all_off book one a x) → (v : IsResumedAs start all_off book other b y) → y ≡ x
same_drives start book one other a b x y law u v =
    let once = (law start book).whole one other a b u.acts v.acts u.resumed v.resumed in
    v.drives_are ∙ ap (drives_after all_off) once.2 ∙ sym u.drives_are

on_once : EachBookHasOneAnswer → EachKeptRunIsOne → (settings : Settings) (book : List ℕ) (moments others : List ℤ) (calls more : List Given) (log text : List ℕ) (change other : Change) (status end : BookStatus) → Agree moments others → Agree (answers_of calls) (answers_of more)
    → GoesOn settings book moments calls log change status → GoesOn settings book others more text other end → AnswersOnce calls more log text change other status end
on_once books runs settings book moments others calls more log text change other status end times answers one two =
    let start = new_node (profile_of settings) in
    let at = neighbours_of settings in
    let led = (books start book).whole one.whole two.whole one.node two.node one.resumed.acts two.resumed.acts one.resumed.resumed two.resumed.resumed in
    let drives = same_drives start book one.whole two.whole one.node two.node one.drives two.drives books one.resumed two.resumed in
    let P : ℕ → Type 0 = λ n. EndsKept (rules_of settings) (begun at two.node two.drives) n others more text two.entries two.end in
    let Q : Drives → Type 0 = λ d. EndsKept (rules_of settings) (begun at two.node d) one.whole others more text two.entries two.end in
    let again : EndsKept (rules_of settings) (begun at two.node one.drives) one.whole others more text two.entries two.end = subst Q drives (subst P led.0 two.ends) in
    let begin : BeginAsOne (begun at one.node one.drives) (begun at two.node one.drives) = record { node = led.1; others = refl } in
    let once = runs (rules_of settings) one.whole (begun at one.node one.drives) (begun at two.node one.drives) moments others calls more log text one.entries two.entries one.end two.end begin one.ends again times answers in
    record {
      calls_same = once.0;
      log_same = once.1;
      change_same = two.change_is ∙ ap (λ (n : ℕ). kept_on (length book) n two.entries) led.0 ∙ ap (kept_on (length book) one.whole) once.2 ∙ sym one.change_is;
      end_same = two.status_is ∙ ap book_status once.3 ∙ sym one.status_is;
    }

run_once : EachBookHasOneAnswer → EachKeptRunIsOne → (settings : Settings) (book : List ℕ) (moments others : List ℤ) (calls more : List Given) (log text : List ℕ) (change other : Change) (status end : BookStatus) → Agree moments others → Agree (answers_of calls) (answers_of more)
    → IsBookRun settings book moments calls log change status → IsBookRun settings book others more text other end → AnswersOnce calls more log text change other status end
run_once books runs settings book moments others calls more log text change other status end times answers (is_too_long large alone) (is_too_long large' alone') = alone_once refl alone alone'
run_once books runs settings book moments others calls more log text change other status end times answers (is_too_long large alone) (is_bad short bad alone') = both_lengths book (AnswersOnce calls more log text change other status end) large short
run_once books runs settings book moments others calls more log text change other status end times answers (is_too_long large alone) (goes_on two) = both_lengths book (AnswersOnce calls more log text change other status end) large two.short
run_once books runs settings book moments others calls more log text change other status end times answers (is_bad short bad alone) (is_too_long large alone') = both_lengths book (AnswersOnce calls more log text change other status end) large short
run_once books runs settings book moments others calls more log text change other status end times answers (is_bad {at = at} {why = why} short bad alone) (is_bad {at = place} {why = reason} short' bad' alone') =
    let once = (books (new_node (profile_of settings)) book).bad at place why reason bad bad' in
    alone_once (ap (λ (n : ℕ). ends.BookRefused n reason) once.0 ∙ ap (ends.BookRefused at) once.1) alone alone'
run_once books runs settings book moments others calls more log text change other status end times answers (is_bad {at = at} {why = why} short bad alone) (goes_on two) =
    absurd ((books (new_node (profile_of settings)) book).never_both two.whole at two.node two.resumed.acts why two.resumed.resumed bad)
run_once books runs settings book moments others calls more log text change other status end times answers (goes_on one) (is_too_long large alone') = both_lengths book (AnswersOnce calls more log text change other status end) large one.short
run_once books runs settings book moments others calls more log text change other status end times answers (goes_on one) (is_bad {at = at} {why = why} short bad alone') =
    absurd ((books (new_node (profile_of settings)) book).never_both one.whole at one.node one.resumed.acts why one.resumed.resumed bad)
run_once books runs settings book moments others calls more log text change other status end times answers (goes_on one) (goes_on two) = on_once books runs settings book moments others calls more log text change other status end times answers one two

taking_once : EachBookHasOneAnswer → EachKeptRunIsOne → (held : Bool) (settings : Settings) (book : List ℕ) (moments others : List ℤ) (calls more : List Given) (log text : List ℕ) (change other : Change) (status end : BookStatus) → Agree moments others → Agree (answers_of calls) (answers_of more)
    → IsTakingAnswer held settings book moments calls log change status → IsTakingAnswer held settings book others more text other end → AnswersOnce calls more log text change other status end
taking_once books runs true settings book moments others calls more log text change other status end times answers one two = alone_once refl one two
taking_once books runs false settings book moments others calls more log text change other status end times answers one two = run_once books runs settings book moments others calls more log text change other status end times answers one two

read_once : EachBookHasOneAnswer → EachKeptRunIsOne → (read : Result Settings Refusal) (held : Bool) (book : List ℕ) (moments others : List ℤ) (calls more : List Given) (log text : List ℕ) (change other : Change) (status end : BookStatus) → Agree moments others → Agree (answers_of calls) (answers_of more)
    → IsReadAnswer read held book moments calls log change status → IsReadAnswer read held book others more text other end → AnswersOnce calls more log text change other status end
read_once books runs (Ok settings) held book moments others calls more log text change other status end times answers one two = taking_once books runs held settings book moments others calls more log text change other status end times answers one two
read_once books runs (Err refusal) held book moments others calls more log text change other status end times answers one two = alone_once refl one two

said : {calls more : List Given} {log text : List ℕ} {change other : Change} {status end : BookStatus} → AnswersOnce calls more log text change other status end → (more ≡ calls) × (text ≡ log) × (other ≡ change) × (end ≡ status)
said once = (once.calls_same, once.log_same, once.change_same, once.end_same)

pub one_book_answer : EachBookHasOneAnswer → EachKeptRunIsOne → EachBookInputHasOneAnswer
one_book_answer books runs false file held book moments others calls more log text change other status end one two times answers = said (alone_once refl one two)
one_book_answer books runs true file held book moments others calls more log text change other status end one two times answers = said (read_once books runs (read_of file) held book moments others calls more log text change other status end times answers one two)
