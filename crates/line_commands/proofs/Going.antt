-- How a run goes on, and how it ends.
use Rattle.std.proofs.Common.{◌≡◌, ◌≤◌, ◌+◌, ℕ, Bool, List, [], ◌++◌, Option, None, Some, Ok, Err, is_some, length, option_map, refl, sym, ap, subst, ◌∙◌, append_assoc, append-nil, arith}
use Rattle.line_outside.specs.Sink.{Grows, GrowsInPart, PushesAll}
use Rattle.line_outside.specs.declared.pushing.Pushed.{Pushed}
use Rattle.line_outside.specs.declared.pushing.Pushed.TheVariants as pushes
use Rattle.line_outside.proofs.Growing.{grows_none, grows_more, rose_after}
use Rattle.line_script.specs.declared.line.LineWhy.{LineWhy}
use Rattle.line_script.specs.declared.line.LaneLine.{LaneLine}
use Rattle.line_report.specs.Texts.{summary_text}
use Rattle.law_lanes.specs.Lanes.{Lanes, lines_of, no_lanes, unvouched_of}
use Rattle.law_lanes.specs.Parts.{IsLaneRun, LanePoint, all_points, state_behind}
use Rattle.law_lanes.specs.Views.{has_lie_on, lanes_text, summary_on}
use Rattle.law_lanes.proofs.ScriptRuns.{RunsOn, behind-append, points-append, run-append, runs-on, runs-told}
use Rattle.line_commands.specs.Texts.{refused_text}
use Rattle.line_commands.specs.Script.{Script, Refusal, script_of, behind_lines}
use Rattle.law_report_lines.specs.Proper.{ArePointsProper}
use Rattle.line_commands.specs.Report.{ending, report_text}
use Rattle.line_commands.specs.LineEnds.{HasNoEnd}
use Rattle.line_commands.specs.Reader.{Place, Advances, Takes, Refuses, RefusesIn, SumsUp, Finishes, script_behind}
use Rattle.line_commands.specs.Stops.{AreAccepted, StopsIn, at_its_end, in_a_piece}
use Rattle.line_commands.specs.Command.{Runs, RunsScript, WritesReport, WritesFront, status_of}
use Rattle.line_status.specs.Status.{HasCauses}
use Rattle.line_commands.specs.Ending.{IsGoing, GoesOn, EndsWhole, EndsRefused}
use Rattle.line_status.specs.Pieces.{HasPushed}
use Rattle.line_commands.specs.declared.script_run.RunError.{RunError}
use Rattle.line_commands.specs.declared.script_run.RunError.TheVariants as errors
use Rattle.line_status.specs.declared.status.Status.{Status}
use Rattle.line_status.specs.declared.status.Status.TheVariants as statuses
use Rattle.line_commands.proofs.Fronts.{ScriptsRun, first_begins, script_sets}
use Rattle.line_commands.proofs.LastLine.{ending_unnumbered}
use Rattle.line_commands.proofs.Steps.{behind-behind, proper-done}

abbrev pub start : Place
start = record { state = no_lanes; pending = [] }

-- at first nothing was pushed and nothing waits
pub goes-first : (left old : Option (List ℕ)) → GoesOn left left old old start []
goes-first None old = tt
goes-first (Some script) old = record { asked = []; done = []; run = tt; proper = tt; after = refl; shown = []; grows = grows_none old; told = refl; taken = []; parts = refl; ever = λ other. refl }

-- a piece is taken
pub goes-piece : (first left left' old now : Option (List ℕ)) (place place' : Place) (piece text text' : List ℕ) → GoesOn first left old now place text → left ≡ option_map (λ rest. piece ++ rest) left' → Advances place place' piece text text' → GoesOn first left' old now place' text'
goes-piece None left left' old now place place' piece text text' going gives takes = tt
goes-piece (Some script) None left' old now place place' piece text text' going gives takes = absurd going
goes-piece (Some script) (Some rest) None old now place place' piece text text' going gives takes = cc
goes-piece (Some script) (Some rest) (Some rest') old now place place' piece text text' going gives takes =
    let same : rest ≡ piece ++ rest' = cc in
    let head : RunsOn no_lanes going.asked going.done place.state = record { run = going.run; after = going.after } in
    let on = runs-on no_lanes place.state place'.state going.asked takes.asked going.done takes.done head (record { run = takes.run; after = takes.after }) in
    let more = lanes_text (lines_of place.state + 1) (all_points takes.done) in
    record {
      asked = going.asked ++ takes.asked;
      done = going.done ++ takes.done;
      run = on.run;
      proper = proper-done going.done takes.done going.proper takes.proper;
      after = on.after;
      shown = going.shown;
      grows = going.grows;
      told = ap (λ t. going.shown ++ t) takes.text ∙ sym (append_assoc going.shown text more) ∙ ap (λ t. t ++ more) going.told ∙ sym (runs-told no_lanes place.state going.asked going.done takes.done head);
      taken = going.taken ++ piece;
      parts = append_assoc going.taken piece rest' ∙ ap (λ r. going.taken ++ r) (sym same) ∙ going.parts;
      ever = λ other. ap script_of (append_assoc going.taken piece other) ∙ going.ever (piece ++ other) ∙ ap (behind_lines going.asked) (takes.script other) ∙ behind-behind going.asked takes.asked (script_behind place' other);
    }

-- so the script is what was done, and what follows here
pub going-all : {script rest : List ℕ} {old now : Option (List ℕ)} {place : Place} {text : List ℕ} (going : IsGoing script rest old now place text) → script_of script ≡ behind_lines going.asked (script_behind place rest)
going-all {rest = rest} going = ap script_of (sym going.parts) ∙ going.ever rest

-- some of what waits is pushed
pub goes-pushed : (first left old now now' : Option (List ℕ)) (place : Place) (text text' : List ℕ) → GoesOn first left old now place text → HasPushed now now' text text' → GoesOn first left old now' place text'
goes-pushed None left old now now' place text text' going pushed = tt
goes-pushed (Some script) None old now now' place text text' going pushed = absurd going
goes-pushed (Some script) (Some rest) old now now' place text text' going pushed = record {
  asked = going.asked;
  done = going.done;
  run = going.run;
  proper = going.proper;
  after = going.after;
  shown = going.shown ++ pushed.pushed;
  grows = grows_more old now now' going.shown pushed.pushed going.grows pushed.grows;
  told = append_assoc going.shown pushed.pushed text' ∙ ap (λ t. going.shown ++ t) pushed.parts ∙ going.told;
  taken = going.taken;
  parts = going.parts;
  ever = going.ever;
}

-- all is a front, and nothing is one
pub part-whole : (old now : Option (List ℕ)) (text : List ℕ) → Grows old now text → GrowsInPart old now text
part-whole old now text grows = record { front = text; back = []; parts = append-nil text; grows = grows }

part-none : (old now : Option (List ℕ)) (text : List ℕ) → now ≡ old → GrowsInPart old now text
part-none old now text same =
    let P : Option (List ℕ) → Type 0 = λ n. Grows old n [] in
    record { front = []; back = text; parts = refl; grows = subst P (sym same) (grows_none old) }

-- a front of what the lines so far are told of was written
going-front : ScriptsRun → (script rest : List ℕ) (old now now' : Option (List ℕ)) (place : Place) (text : List ℕ) → IsGoing script rest old now place text → GrowsInPart now now' text → WritesFront script old now'
going-front law script rest old now now' place text going part = record {
  text = going.shown ++ part.front;
  begins = first_begins law script (going.shown ++ part.front) (record {
    lines = going.asked;
    others = (script_behind place rest).lines;
    all = ap (λ (s : Script). s.lines) (going-all going);
    done = going.done;
    run = going.run;
    rest = part.back;
    front = append_assoc going.shown part.front part.back ∙ ap (λ t. going.shown ++ t) part.parts ∙ going.told;
  });
  first = record {
    lines = going.asked;
    others = (script_behind place rest).lines;
    all = ap (λ (s : Script). s.lines) (going-all going);
    done = going.done;
    run = going.run;
    proper = going.proper;
    ending = [];
    last = tt;
    rest = part.back;
    front = append_assoc going.shown part.front part.back ∙ ap (λ t. going.shown ++ t) part.parts ∙ going.told ∙ sym (append-nil (lanes_text 1 (all_points going.done)));
  };
  grows = grows_more old now now' going.shown part.front going.grows part.grows;
}

-- where memory is wanting before the first piece, nothing was written
pub runs-memory : ScriptsRun → (first left old : Option (List ℕ)) → Runs first left old old statuses.Memory
runs-memory law None left old = tt
runs-memory law (Some script) left old = going-front law script script old old old start [] (goes-first (Some script) old) (part-none old old [] refl)

-- a fault ends the run with a front of the report
pub runs-part : ScriptsRun → (first left left' old now now' : Option (List ℕ)) (place : Place) (text : List ℕ) → GoesOn first left old now place text → GrowsInPart now now' text → Runs first left' old now' statuses.WriteFault
runs-part law None left left' old now now' place text going part = tt
runs-part law (Some script) None left' old now now' place text going part = absurd going
runs-part law (Some script) (Some rest) left' old now now' place text going part = going-front law script rest old now now' place text going part

pub runs-read_fault : ScriptsRun → (pushed : Pushed) (first left left' old now now' : Option (List ℕ)) (before after : ℕ) (place : Place) (text : List ℕ) → GoesOn first left old now place text → PushesAll now now' before after text pushed → Runs first left' old now' statuses.ReadFault
runs-read_fault law pushed None left left' old now now' before after place text going pushes = tt
runs-read_fault law pushed (Some script) None left' old now now' before after place text going pushes = absurd going
runs-read_fault law pushes.Whole (Some script) (Some rest) left' old now now' before after place text going pushed = going-front law script rest old now now' place text going (part-whole now now' text pushed.1)
runs-read_fault law pushes.Failed (Some script) (Some rest) left' old now now' before after place text going pushed = going-front law script rest old now now' place text going pushed.2

-- THE WHOLE REPORT

-- the points of a script's run, and its report
record Reports (script text : List ℕ) (refusal : Option Refusal) (end : Lanes) : Type 0 where
  done : List (List LanePoint)
  run : IsLaneRun no_lanes (script_of script).lines done
  proper : ArePointsProper (all_points done)
  ends : (script_of script).refusal ≡ refusal
  after : state_behind no_lanes (all_points done) ≡ end
  written : text ≡ lanes_text 1 (all_points done) ++ ending end refusal

reports-text : (script text : List ℕ) (refusal : Option Refusal) (end : Lanes) (reports : Reports script text refusal end) → text ≡ report_text (all_points reports.done) (script_of script).refusal
reports-text script text refusal end reports = rw (reports.ends, reports.after) reports.written

whole-report : ScriptsRun → (script text : List ℕ) (refusal : Option Refusal) (end : Lanes) (old new : Option (List ℕ)) (status : Status) → Reports script text refusal end → Grows old new text → status ≡ status_of refusal (is_some (unvouched_of end)) → WritesReport script old new status
whole-report law script text refusal end old new status reports grows is =
    let P : List ℕ → Type 0 = λ t. Grows old new t in
    let lied : has_lie_on (all_points reports.done) ≡ is_some (unvouched_of end) = sym (law.remembers (script_of script).lines reports.done (script_sets script) reports.run) ∙ ap (λ (s : Lanes). is_some (unvouched_of s)) reports.after in
    record {
      done = reports.done;
      run = reports.run;
      proper = reports.proper;
      ends = rw (reports.ends, lied) is;
      grows = subst P (reports-text script text refusal end reports) grows;
    }

front-report : (script text shown : List ℕ) (refusal : Option Refusal) (end : Lanes) (old now now' : Option (List ℕ)) → Reports script (shown ++ text) refusal end → Grows old now shown → GrowsInPart now now' text → WritesFront script old now'
front-report script text shown refusal end old now now' reports grows part =
    let whole : (shown ++ part.front) ++ part.back ≡ shown ++ text = append_assoc shown part.front part.back ∙ ap (λ t. shown ++ t) part.parts in
    record {
      text = shown ++ part.front;
      begins = record {
        rest = part.back;
        whole = record { done = reports.done; run = reports.run; written = whole ∙ reports-text script (shown ++ text) refusal end reports };
      };
      first = record {
        lines = (script_of script).lines;
        others = [];
        all = sym (append-nil (script_of script).lines);
        done = reports.done;
        run = reports.run;
        proper = reports.proper;
        ending = ending (state_behind no_lanes (all_points reports.done)) (script_of script).refusal;
        last = ending_unnumbered (state_behind no_lanes (all_points reports.done)) (script_of script).refusal;
        rest = part.back;
        front = whole ∙ reports-text script (shown ++ text) refusal end reports;
      };
      grows = grows_more old now now' shown part.front grows part.grows;
    }

-- THE RUN ENDS INSIDE ITS SCRIPT

refused-reports : (script rest : List ℕ) (old now : Option (List ℕ)) (place : Place) (text text' : List ℕ) (number : ℕ) (why : LineWhy) (going : IsGoing script rest old now place text) (refuses : RefusesIn place.state (script_behind place rest) text text' number why) → Reports script (going.shown ++ text') (Some (record { line = number; why = why })) (state_behind place.state (all_points refuses.done))
refused-reports script rest old now place text text' number why going refuses =
    let head : RunsOn no_lanes going.asked going.done place.state = record { run = going.run; after = going.after } in
    let whole = going-all going ∙ ap (behind_lines going.asked) refuses.script_is in
    let P : Lanes → Type 0 = λ s. IsLaneRun s refuses.asked refuses.done in
    let Q : List LaneLine → Type 0 = λ asked. IsLaneRun no_lanes asked (going.done ++ refuses.done) in
    let more = lanes_text (lines_of place.state + 1) (all_points refuses.done) in
    let last = refused_text number why in
    record {
      done = going.done ++ refuses.done;
      run = subst Q (sym (ap (λ (s : Script). s.lines) whole)) (run-append no_lanes going.asked refuses.asked going.done refuses.done going.run (subst P (sym going.after) refuses.run));
      proper = proper-done going.done refuses.done going.proper refuses.proper;
      ends = ap (λ (s : Script). s.refusal) whole;
      after = ap (state_behind no_lanes) (points-append going.done refuses.done) ∙ behind-append no_lanes (all_points going.done) (all_points refuses.done) ∙ ap (λ (s : Lanes). state_behind s (all_points refuses.done)) going.after;
      written =
          ap (λ t. going.shown ++ t) refuses.text
          ∙ sym (append_assoc going.shown text (more ++ last))
          ∙ ap (λ t. t ++ (more ++ last)) going.told
          ∙ sym (append_assoc (lanes_text 1 (all_points going.done)) more last)
          ∙ ap (λ t. t ++ last) (sym (runs-told no_lanes place.state going.asked going.done refuses.done head));
    }

ended : ScriptsRun → (number : ℕ) (why : LineWhy) (script : List ℕ) (left old now now' : Option (List ℕ)) (before after : ℕ) (shown text : List ℕ) (end : Lanes) (status : Status) → StopsIn script left → Reports script (shown ++ text) (Some (record { line = number; why = why })) end → Grows old now shown → EndsRefused (errors.Refused number why) now now' before after text status → RunsScript script left old now' status
ended law number why script left old now now' before after shown text end statuses.Done stops reports grows ends = absurd ends
ended law number why script left old now now' before after shown text end statuses.Usage stops reports grows ends = absurd ends
ended law number why script left old now now' before after shown text end (statuses.Refuted refuted because) stops reports grows ends = absurd ends
ended law number why script left old now now' before after shown text end (statuses.ScriptRefused line reason) stops reports grows ends =
    (whole-report law script (shown ++ text) (Some (record { line = number; why = why })) end old now' (statuses.ScriptRefused line reason) reports (grows_more old now now' shown text grows ends.3) (rw (ends.0, ends.1) refl), stops)
ended law number why script left old now now' before after shown text end statuses.ReadFault stops reports grows ends = absurd ends
ended law number why script left old now now' before after shown text end statuses.WriteFault stops reports grows ends =
    front-report script text shown (Some (record { line = number; why = why })) end old now now' reports grows ends.2
ended law number why script left old now now' before after shown text end statuses.Memory stops reports grows ends = absurd ends
ended law number why script left old now now' before after shown text end statuses.Unvouched stops reports grows ends = absurd ends

ended-memory : ScriptsRun → (script rest : List ℕ) (left old now now' : Option (List ℕ)) (before after : ℕ) (place : Place) (text other : List ℕ) (status : Status) → IsGoing script rest old now place text → EndsRefused errors.Memory now now' before after other status → RunsScript script left old now' status
ended-memory law script rest left old now now' before after place text other statuses.Done going ends = absurd ends
ended-memory law script rest left old now now' before after place text other statuses.Usage going ends = absurd ends
ended-memory law script rest left old now now' before after place text other (statuses.Refuted refuted because) going ends = absurd ends
ended-memory law script rest left old now now' before after place text other (statuses.ScriptRefused line reason) going ends = absurd ends
ended-memory law script rest left old now now' before after place text other statuses.ReadFault going ends = absurd ends
ended-memory law script rest left old now now' before after place text other statuses.WriteFault going ends = absurd ends
ended-memory law script rest left old now now' before after place text other statuses.Memory going ends = going-front law script rest old now now' place text going (part-none now now' text ends.1)
ended-memory law script rest left old now now' before after place text other statuses.Unvouched going ends = absurd ends

-- the same going, over the bytes that were pulled
going-over : (script rest rest' : List ℕ) (old now : Option (List ℕ)) (place : Place) (text : List ℕ) → rest ≡ rest' → IsGoing script rest old now place text → IsGoing script rest' old now place text
going-over script rest rest' old now place text same going =
    let P : List ℕ → Type 0 = λ r. IsGoing script r old now place text in
    subst P same going

-- no line that ended law was refused
going-accepted : (script rest : List ℕ) (old now : Option (List ℕ)) (place : Place) (text : List ℕ) → HasNoEnd place.pending → (going : IsGoing script rest old now place text) → AreAccepted going.taken
going-accepted script rest old now place text waits going = record { accepted = going.asked; done = lines_of place.state; pending = place.pending; none = waits; script = going.ever }

-- a line of the piece is refused, whatever follows
stops-in_piece : (script rest : List ℕ) (old now : Option (List ℕ)) (place : Place) (piece text text' : List ℕ) (number : ℕ) (why : LineWhy) → HasNoEnd place.pending → length piece ≤ 65536 → IsGoing script (piece ++ rest) old now place text → Refuses place piece text text' number why → StopsIn script (Some rest)
stops-in_piece script rest old now place piece text text' number why waits short going refuses =
    let taken = going.taken in
    let refusal : (other : List ℕ) → (script_of ((taken ++ piece) ++ other)).refusal ≡ Some (record { line = number; why = why }) =
    λ other. ap (λ (b : List ℕ). (script_of b).refusal) (append_assoc taken piece other)
    ∙ ap (λ (s : Script). s.refusal) (going.ever (piece ++ other) ∙ ap (behind_lines going.asked) (refuses.refuses other).script_is) in
    let parts : script ≡ (taken ++ piece) ++ rest = sym going.parts ∙ sym (append_assoc taken piece rest) in
    in_a_piece taken piece rest parts refl short (going-accepted script (piece ++ rest) old now place text waits going)
    (λ other. refusal other ∙ sym (ap (λ (b : List ℕ). (script_of b).refusal) parts ∙ refusal rest))

-- a line of a piece is refused, or memory was wanting in it
pub runs-refused : ScriptsRun → (error : RunError) (first left left' old now now' : Option (List ℕ)) (before after : ℕ) (place place' : Place) (piece text text' : List ℕ) (status : Status) → HasNoEnd place.pending → length piece ≤ 65536 → GoesOn first left old now place text → left ≡ option_map (λ rest. piece ++ rest) left' → Takes (Err error) place place' piece text text' → EndsRefused error now now' before after text' status → Runs first left' old now' status
runs-refused law error None left left' old now now' before after place place' piece text text' status waits short going gives takes ends = tt
runs-refused law error (Some script) None left' old now now' before after place place' piece text text' status waits short going gives takes ends = absurd going
runs-refused law error (Some script) (Some rest) None old now now' before after place place' piece text text' status waits short going gives takes ends = cc
runs-refused law (errors.Refused number why) (Some script) (Some rest) (Some rest') old now now' before after place place' piece text text' status waits short going gives takes ends =
    let same : rest ≡ piece ++ rest' = cc in
    let on = going-over script rest (piece ++ rest') old now place text same going in
    let refuses = takes.refuses rest' in
    ended law number why script (Some rest') old now now' before after on.shown text' (state_behind place.state (all_points refuses.done)) status (stops-in_piece script rest' old now place piece text text' number why waits short on takes) (refused-reports script (piece ++ rest') old now place text text' number why on refuses) on.grows ends
runs-refused law errors.Memory (Some script) (Some rest) (Some rest') old now now' before after place place' piece text text' status waits short going gives takes ends = ended-memory law script rest (Some rest') old now now' before after place text text' status going ends

-- the last line is refused, or memory was wanting in it
pub runs-end_refused : ScriptsRun → (error : RunError) (first left left' old now now' : Option (List ℕ)) (before after : ℕ) (place place' : Place) (text text' : List ℕ) (status : Status) → HasNoEnd place.pending → GoesOn first left old now place text → left' ≡ left → left ≡ option_map (λ _. []) left → Finishes (Err error) place place' text text' → EndsRefused error now now' before after text' status → Runs first left' old now' status
runs-end_refused law error None left left' old now now' before after place place' text text' status waits going stays gives finishes ends = tt
runs-end_refused law error (Some script) None left' old now now' before after place place' text text' status waits going stays gives finishes ends = absurd going
runs-end_refused law (errors.Refused number why) (Some script) (Some rest) left' old now now' before after place place' text text' status waits going stays gives finishes ends =
    let same : rest ≡ [] = cc in
    let on = going-over script rest [] old now place text same going in
    let all : AreAccepted script = subst (λ (b : List ℕ). AreAccepted b) (sym (append-nil on.taken) ∙ on.parts) (going-accepted script [] old now place text waits on) in
    ended law number why script left' old now now' before after on.shown text' (state_behind place.state (all_points finishes.done)) status (at_its_end (stays ∙ ap Some same) all) (refused-reports script [] old now place text text' number why on finishes) on.grows ends
runs-end_refused law errors.Memory (Some script) (Some rest) left' old now now' before after place place' text text' status waits going stays gives finishes ends = ended-memory law script rest left' old now now' before after place text text' status going ends

-- THE RUN ENDS BEHIND ITS SCRIPT

whole-reports : (script rest : List ℕ) (old now : Option (List ℕ)) (place place' : Place) (text text' : List ℕ) → rest ≡ [] → (going : IsGoing script rest old now place text) → SumsUp place place' text text' → Reports script (going.shown ++ text') None place'.state
whole-reports script rest old now place place' text text' over going sums =
    let head : RunsOn no_lanes going.asked going.done place.state = record { run = going.run; after = going.after } in
    let on = runs-on no_lanes place.state place'.state going.asked sums.asked going.done sums.done head (record { run = sums.run; after = sums.after }) in
    let whole = going-all going ∙ ap (λ r. behind_lines going.asked (script_behind place r)) over ∙ ap (behind_lines going.asked) sums.script_is in
    let Q : List LaneLine → Type 0 = λ asked. IsLaneRun no_lanes asked (going.done ++ sums.done) in
    let more = lanes_text (lines_of place.state + 1) (all_points sums.done) in
    let last = summary_text (summary_on place'.state) in
    record {
      done = going.done ++ sums.done;
      run = subst Q (sym (ap (λ (s : Script). s.lines) whole)) on.run;
      proper = proper-done going.done sums.done going.proper sums.proper;
      ends = ap (λ (s : Script). s.refusal) whole;
      after = on.after;
      written =
          ap (λ t. going.shown ++ t) sums.text
          ∙ sym (append_assoc going.shown text (more ++ last))
          ∙ ap (λ t. t ++ (more ++ last)) going.told
          ∙ sym (append_assoc (lanes_text 1 (all_points going.done)) more last)
          ∙ ap (λ t. t ++ last) (sym (runs-told no_lanes place.state going.asked going.done sums.done head));
    }

whole-ended : ScriptsRun → (unvouched : Bool) (script : List ℕ) (left old now now' : Option (List ℕ)) (before after : ℕ) (shown text : List ℕ) (end : Lanes) (status : Status) → left ≡ Some [] → unvouched ≡ is_some (unvouched_of end) → Reports script (shown ++ text) None end → Grows old now shown → EndsWhole unvouched now now' before after text status → RunsScript script left old now' status
whole-ended law unvouched script left old now now' before after shown text end statuses.Done over told reports grows ends =
    (whole-report law script (shown ++ text) None end old now' statuses.Done reports (grows_more old now now' shown text grows ends.2) (ap (status_of None) (sym ends.0 ∙ told)), over)
whole-ended law unvouched script left old now now' before after shown text end statuses.Usage over told reports grows ends = absurd ends
whole-ended law unvouched script left old now now' before after shown text end (statuses.Refuted refuted because) over told reports grows ends = absurd ends
whole-ended law unvouched script left old now now' before after shown text end (statuses.ScriptRefused line reason) over told reports grows ends = absurd ends
whole-ended law unvouched script left old now now' before after shown text end statuses.ReadFault over told reports grows ends = absurd ends
whole-ended law unvouched script left old now now' before after shown text end statuses.WriteFault over told reports grows ends = front-report script text shown None end old now now' reports grows ends.2
whole-ended law unvouched script left old now now' before after shown text end statuses.Memory over told reports grows ends = absurd ends
whole-ended law unvouched script left old now now' before after shown text end statuses.Unvouched over told reports grows ends =
    (whole-report law script (shown ++ text) None end old now' statuses.Unvouched reports (grows_more old now now' shown text grows ends.2) (ap (status_of None) (sym ends.0 ∙ told)), over)

pub runs-whole : ScriptsRun → (unvouched : Bool) (first left left' old now now' : Option (List ℕ)) (before after : ℕ) (place place' : Place) (text text' : List ℕ) (status : Status) → GoesOn first left old now place text → left' ≡ left → left ≡ option_map (λ _. []) left → Finishes (Ok tt) place place' text text' → unvouched ≡ is_some (unvouched_of place'.state) → EndsWhole unvouched now now' before after text' status → Runs first left' old now' status
runs-whole law unvouched None left left' old now now' before after place place' text text' status going stays gives finishes told ends = tt
runs-whole law unvouched (Some script) None left' old now now' before after place place' text text' status going stays gives finishes told ends = absurd going
runs-whole law unvouched (Some script) (Some rest) left' old now now' before after place place' text text' status going stays gives finishes told ends =
    let same : rest ≡ [] = cc in
    whole-ended law unvouched script left' old now now' before after going.shown text' place'.state status (stays ∙ ap Some same) told (whole-reports script rest old now place place' text text' same going finishes) going.grows ends

-- THE CAUSES

pub causes-refused : (error : RunError) (now now' : Option (List ℕ)) (text : List ℕ) (status : Status) (reads reads' writes before after : ℕ) → reads ≤ reads' → writes ≤ before → EndsRefused error now now' before after text status → HasCauses status reads reads' writes after
causes-refused (errors.Refused number why) now now' text statuses.Done reads reads' writes before after r w ends = absurd ends
causes-refused (errors.Refused number why) now now' text statuses.Usage reads reads' writes before after r w ends = absurd ends
causes-refused (errors.Refused number why) now now' text (statuses.Refuted refuted because) reads reads' writes before after r w ends = absurd ends
causes-refused (errors.Refused number why) now now' text (statuses.ScriptRefused line reason) reads reads' writes before after r w ends = record { reads = r; writes = omega (arith, w, ends.2); read_fault = λ is. cc; write_fault = λ is. cc }
causes-refused (errors.Refused number why) now now' text statuses.ReadFault reads reads' writes before after r w ends = absurd ends
causes-refused (errors.Refused number why) now now' text statuses.WriteFault reads reads' writes before after r w ends = record { reads = r; writes = omega (arith, w, ends.0); read_fault = λ is. cc; write_fault = λ is. rose_after writes before after w ends.0 ends.1 }
causes-refused (errors.Refused number why) now now' text statuses.Memory reads reads' writes before after r w ends = absurd ends
causes-refused (errors.Refused number why) now now' text statuses.Unvouched reads reads' writes before after r w ends = absurd ends
causes-refused errors.Memory now now' text statuses.Unvouched reads reads' writes before after r w ends = absurd ends
causes-refused errors.Memory now now' text statuses.Done reads reads' writes before after r w ends = absurd ends
causes-refused errors.Memory now now' text statuses.Usage reads reads' writes before after r w ends = absurd ends
causes-refused errors.Memory now now' text (statuses.Refuted refuted because) reads reads' writes before after r w ends = absurd ends
causes-refused errors.Memory now now' text (statuses.ScriptRefused line reason) reads reads' writes before after r w ends = absurd ends
causes-refused errors.Memory now now' text statuses.ReadFault reads reads' writes before after r w ends = absurd ends
causes-refused errors.Memory now now' text statuses.WriteFault reads reads' writes before after r w ends = absurd ends
causes-refused errors.Memory now now' text statuses.Memory reads reads' writes before after r w ends = record { reads = r; writes = omega (arith, w, ends.0); read_fault = λ is. cc; write_fault = λ is. cc }

pub causes-whole : (unvouched : Bool) (now now' : Option (List ℕ)) (text : List ℕ) (status : Status) (reads reads' writes before after : ℕ) → reads ≤ reads' → writes ≤ before → EndsWhole unvouched now now' before after text status → HasCauses status reads reads' writes after
causes-whole unvouched now now' text statuses.Done reads reads' writes before after r w ends = record { reads = r; writes = omega (arith, w, ends.1); read_fault = λ is. cc; write_fault = λ is. cc }
causes-whole unvouched now now' text statuses.Unvouched reads reads' writes before after r w ends = record { reads = r; writes = omega (arith, w, ends.1); read_fault = λ is. cc; write_fault = λ is. cc }
causes-whole unvouched now now' text statuses.Usage reads reads' writes before after r w ends = absurd ends
causes-whole unvouched now now' text (statuses.Refuted refuted because) reads reads' writes before after r w ends = absurd ends
causes-whole unvouched now now' text (statuses.ScriptRefused line reason) reads reads' writes before after r w ends = absurd ends
causes-whole unvouched now now' text statuses.ReadFault reads reads' writes before after r w ends = absurd ends
causes-whole unvouched now now' text statuses.WriteFault reads reads' writes before after r w ends = record { reads = r; writes = omega (arith, w, ends.0); read_fault = λ is. cc; write_fault = λ is. rose_after writes before after w ends.0 ends.1 }
causes-whole unvouched now now' text statuses.Memory reads reads' writes before after r w ends = absurd ends
