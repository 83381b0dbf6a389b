-- The machine below the gap keeps the record of the board that settles there.
use Rattle.std.proofs.Common.{Bool, List, [], ap, eqb-true, false, refl, subst, sym, true, ℕ, ◌++◌, ◌+◌, ◌==◌, ◌||◌, ◌∙◌, ◌∷◌, ◌≡◌, ◌≤◌}
use Rattle.std.specs.List.{AllByRecursion}
use Rattle.std.proofs.lemmas.Bool.{and_parts, or_parts}
use Rattle.board_record.specs.declared.record.Record.{Record}
use Rattle.line_report.specs.declared.happening.Happening.{Happening}
use Rattle.line_report.specs.declared.happening.Happening.TheVariants as happenings
use Rattle.node_core.specs.declared.act.Act.{Act}
use Rattle.node_core.specs.declared.act.Act.TheVariants as acts
use Rattle.node_core.specs.declared.act.Deed.TheVariants as deeds
use Rattle.line_step.specs.Tracks.{TrackLine, TrackSteps, asked_on, other_line, own_line}
use Rattle.line_step.specs.Lies.{has_lie, tells_lie}
use Rattle.line_step.specs.Lines.{LineSteps}
use Rattle.line_step.specs.Numbered.{node_at}
use Rattle.line_step.specs.Runs.{IsRun, Point, state_behind, IsShort}
use Rattle.line_step.specs.State.{LineState}
use Rattle.line_step.specs.Requests.{Request}
use Rattle.line_step.specs.Requests as requests
use Rattle.node_core.specs.declared.input.Input.TheVariants as inputs
use Rattle.law_one_standing.specs.Standing.{IsFitTrack}
use Rattle.law_one_standing.proofs.Carrying.{SaysAlone}
use Rattle.law_one_standing.proofs.LineForms.{ConnectsBear}
use Rattle.law_one_standing.proofs.Comings.{track_news}
use Rattle.law_one_standing.proofs.LineRun.{StoodBy, track_stood}
use Rattle.line_step.specs.Homes.{AreNewcomers}
use Rattle.law_history.specs.Offered.{IsLast}
use Rattle.law_history.proofs.Courses.{IsByHand}
use Rattle.law_history.proofs.OfferedRun.{AreOffered, line_are_offered, line_keeps_last, still_among}
use Rattle.law_history.proofs.Offering.{settles_acts, settles_append}
use Rattle.law_history.proofs.OfferingWhole.{IsAmong, among_first}
use Rattle.law_history.proofs.View.{done_act, done_by}
use Rattle.law_twelve_steps.specs.Twelve.{HoldsIt, HoldsItToEnd, KeepsItToEnd, Unless, has_ended, is_settling, tells_settled}
use Rattle.law_twelve_steps.specs.Undisturbed.{AreUndisturbed, IsUndisturbed, NamesElsewhere, begins, blank, connects_above, elsewhere, enters, flows_above, flows_below, flows_down, flows_up, leaves, more, notices_above, notices_below, senses, shows, spoils_above, spoils_below, is_answered, is_asked, is_supervised}

-- ---- a stretch is of no hand at machine k + 1

elsewhere_hand : (k : ℕ) (request : Request) → NamesElsewhere k request → IsByHand (k + 1) request → ⊥
elsewhere_hand k (requests.gives machine (inputs.Insert barcode)) e here = e.not_below (sym here)
elsewhere_hand k (requests.gives machine (inputs.Remove id)) e here = e.not_below (sym here)
elsewhere_hand k (requests.gives machine (inputs.Replace id)) e here = e.not_below (sym here)
elsewhere_hand k (requests.gives machine (inputs.Mark id quality)) e here = e.not_below (sym here)
elsewhere_hand k (requests.gives machine (inputs.Sub id place barcode)) e here = e.not_below (sym here)
elsewhere_hand k (requests.gives machine (inputs.Level signal on)) e here = e.not_below (sym here)
elsewhere_hand k (requests.gives machine (inputs.Gives id to)) e here = e.not_below (sym here)
elsewhere_hand k (requests.gives machine (inputs.Gets board)) e here = e.not_below (sym here)
elsewhere_hand k _ e here = absurd here

no_hand : {k : ℕ} {request : Request} → IsUndisturbed k request → IsByHand (k + 1) request → ⊥
no_hand flows_up here = absurd here
no_hand flows_down here = absurd here
no_hand begins here = absurd here
no_hand leaves here = absurd here
no_hand enters here = absurd here
no_hand senses here = absurd here
no_hand shows here = absurd here
no_hand blank here = absurd here
no_hand {k = k} (elsewhere {request = request} e) here = elsewhere_hand k request e here
no_hand flows_above here = absurd here
no_hand flows_below here = absurd here
no_hand notices_above here = absurd here
no_hand notices_below here = absurd here
no_hand spoils_above here = absurd here
no_hand spoils_below here = absurd here
no_hand connects_above here = absurd here
no_hand is_supervised here = absurd here
no_hand is_asked here = absurd here
no_hand is_answered here = absurd here

-- ---- what is told to settle

-- the first happening, or a later one
one_settles : (k id : ℕ) (h : Happening) (ids : List ℕ) → is_settling k id h ≡ true → IsAmong id (settles_acts (done_act (k + 1) h) ids)
one_settles k id (happenings.Done machine (acts.Deed (deeds.Settles board))) ids is =
    let here : machine == k + 1 ≡ true = (and_parts (machine == k + 1) (board == id) is).0 in
    let same : board ≡ id = eqb-true board id (and_parts (machine == k + 1) (board == id) is).1 in
    subst (λ (xs : List Act). IsAmong id (settles_acts xs ids)) (sym (own here)) (subst (λ (n : ℕ). IsAmong id (n ∷ ids)) (sym same) among_first) where
      own : machine == k + 1 ≡ true → done_act (k + 1) (happenings.Done machine (acts.Deed (deeds.Settles board))) ≡ acts.Deed (deeds.Settles board) ∷ []
      own here = rw here refl
one_settles k id _ ids is = absurd (let no : false ≡ true = is in cc)

or_more : {X : Type 0} (a b : Bool) → (a || b) ≡ true → (a ≡ true → X) → (b ≡ true → X) → X
or_more true b is one two = one refl
or_more false b is one two = two is

told_among : (k id : ℕ) (told : List Happening) (ids : List ℕ) → tells_settled k id told ≡ true → IsAmong id (settles_acts (done_by (k + 1) told) ids)
told_among k id [] ids is = absurd (let no : false ≡ true = is in cc)
told_among k id (h ∷ told) ids is =
    subst (λ (xs : List ℕ). IsAmong id xs) (sym (settles_append (done_act (k + 1) h) (done_by (k + 1) told) ids))
    (or_more (is_settling k id h) (tells_settled k id told) is (λ one. still_among (done_by (k + 1) told) (settles_acts (done_act (k + 1) h) ids) (one_settles k id h ids one)) (λ later. told_among k id told (settles_acts (done_act (k + 1) h) ids) later))

-- ---- along the stretch

line_keeps : {k : ℕ} {board : Record} {s : LineState} (request : Request) (point : Point) → IsUndisturbed k request → AreOffered s → HoldsIt k board s → LineSteps (s.lines + 1) request s point.after point.told
    → tells_settled k board.id point.told ≡ true → IsLast board (node_at point.after (k + 1)).lane.body.kept
line_keeps {k = k} {board = board} {s = s} request point calm offered holds steps is =
    let found = line_keeps_last (s.lines + 1) k board.id request s point.after point.told offered steps (no_hand calm) (told_among k board.id point.told [] is) in
    subst (λ (r : Record). IsLast r (node_at point.after (k + 1)).lane.body.kept) (holds found.0 found.2) found.3

track_keeps : {k : ℕ} {board : Record} {s : LineState} (line : TrackLine) (point : Point) → IsUndisturbed k (asked_on line) → AreOffered s → HoldsIt k board s → TrackSteps (s.lines + 1) line s point.after point.told
    → tells_settled k board.id point.told ≡ true → IsLast board (node_at point.after (k + 1)).lane.body.kept
track_keeps (own_line request) point calm offered holds steps is = line_keeps request point calm offered holds steps.0 is
track_keeps {k = k} {board = board} other_line point calm offered holds steps is = absurd (let no : false ≡ true = sym (ap (λ (hs : List Happening). tells_settled k board.id hs) steps.1) ∙ is in cc)

unless_next : (over : Bool) (Held Kept : Type 0) → (Held → Kept) → Unless over Held → Unless over Kept
unless_next true Held Kept next held = tt
unless_next false Held Kept next held = next held

pub run_keeps : SaysAlone → ConnectsBear → (k : ℕ) (board : Record) (past : List Happening) (lines : List TrackLine) (points : List Point) (settled : Bool) (s : LineState) → StoodBy past s → AreOffered s → AllByRecursion IsFitTrack lines → IsShort s points → IsRun s lines points → AreUndisturbed k lines → has_lie points ≡ false → AreNewcomers past lines points
    → HoldsItToEnd k board settled s points → KeepsItToEnd k board settled points
run_keeps alone connects k board past lines [] settled s stood offered fit few run calm honest new holds = tt
run_keeps alone connects k board past [] (point ∷ points) settled s stood offered fit few run calm honest new holds = absurd run
run_keeps alone connects k board past (line ∷ lines) (point ∷ points) settled s stood offered fit few run (more calm others) honest new holds =
    let here : s.lines + 1 ≤ 1000000 = few.0 in
    let first : tells_lie point.told ≡ false = (or_parts (tells_lie point.told) (has_lie points) honest).0 in
    let after : StoodBy (past ++ point.told) point.after = track_stood alone connects (s.lines + 1) past line s point.after point.told refl here fit.0 new.0 first stood run.0 in
    let behind : IsShort point.after points = few.1 in
    let now : Bool = settled || tells_settled k board.id point.told in (
      track_keeps line point calm offered holds.0 run.0,
      unless_next (has_ended k now point.after) (HoldsItToEnd k board now point.after points) (KeepsItToEnd k board now points)
          (λ later. run_keeps alone connects k board (past ++ point.told) lines points now point.after after (line_are_offered (s.lines + 1) line s point.after point.told stood.stood after.stood (track_news (s.lines + 1) past line s point.after point.told stood new.0 run.0) run.0 offered) fit.1 behind run.1 others (or_parts (tells_lie point.told) (has_lie points) honest).1 new.1 later) holds.1,
    )

-- what is offered, along the script before
pub behind_offered : SaysAlone → ConnectsBear → (past : List Happening) (asked : List TrackLine) (points : List Point) (s : LineState) → StoodBy past s → AreOffered s → AllByRecursion IsFitTrack asked → IsShort s points → IsRun s asked points → has_lie points ≡ false → AreNewcomers past asked points → AreOffered (state_behind s points)
behind_offered alone connects past [] [] s stood offered fit few run honest new = offered
behind_offered alone connects past [] (point ∷ points) s stood offered fit few run honest new = absurd run
behind_offered alone connects past (line ∷ asked) [] s stood offered fit few run honest new = absurd run
behind_offered alone connects past (line ∷ asked) (point ∷ points) s stood offered fit few run honest new =
    let here : s.lines + 1 ≤ 1000000 = few.0 in
    let first : tells_lie point.told ≡ false = (or_parts (tells_lie point.told) (has_lie points) honest).0 in
    let after : StoodBy (past ++ point.told) point.after = track_stood alone connects (s.lines + 1) past line s point.after point.told refl here fit.0 new.0 first stood run.0 in
    let behind : IsShort point.after points = few.1 in
    behind_offered alone connects (past ++ point.told) asked points point.after after (line_are_offered (s.lines + 1) line s point.after point.told stood.stood after.stood (track_news (s.lines + 1) past line s point.after point.told stood new.0 run.0) run.0 offered) fit.1 behind run.1 (or_parts (tells_lie point.told) (has_lie points) honest).1 new.1
