-- A STATE THAT IS ANNOUNCED has twelve link steps left, and the law.
use Rattle.std.proofs.Common.{Bool, List, None, Option, Some, [], ap, append-nil, append_assoc, arith, false, length, refl, subst, sym, take, true, ℕ, ◌++◌, ◌+◌, ◌-◌, ◌∙◌, ◌∷◌, ◌≡◌, ◌≤◌}
use Rattle.std.proofs.lemmas.List.{take-append-drop}
use Rattle.std.specs.List.{AllByRecursion}
use Rattle.std.specs.Prelude.{is_some, slice_get}
use Rattle.std.proofs.lemmas.Bool.{or_parts}
use Rattle.board_record.specs.declared.record.Record.{Record}
use Rattle.hermes_horizontal.specs.Canonical.{canonical}
use Rattle.hermes_horizontal.specs.declared.message.Horizontal.{Horizontal}
use Rattle.hermes_horizontal.specs.declared.message.Horizontal.TheVariants as message
use Rattle.hermes_horizontal.specs.declared.message.Message.{Message}
use Rattle.hermes_stream.specs.Frames.{Frames, frames_of}
use Rattle.session_core.specs.declared.state.SessionState.{SessionState}
use Rattle.session_core.specs.declared.state.SessionState.TheVariants.{Standing}
use Rattle.handover_out.specs.State.{is_idle_phase}
use Rattle.handover_out.specs.declared.phase.Phase.{Phase as Out}
use Rattle.handover_out.specs.declared.phase.Phase.TheVariants as out
use Rattle.handover_in.specs.State.{name_of_phase, passes_offers_over}
use Rattle.handover_in.specs.declared.phase.Phase.{Phase as In}
use Rattle.handover_in.specs.declared.phase.Phase.TheVariants as inn
use Rattle.line_link.specs.Flow.{Stream, coming}
use Rattle.line_link.specs.Link.{LinkParts}
use Rattle.line_link.specs.Texts.{bytes_of}
use Rattle.line_step.specs.Tracks.{TrackLine}
use Rattle.line_world.specs.FloorPlan.{gap_at, free_gap}
use Rattle.line_world.specs.declared.gap.AtGap.{AtGap}
use Rattle.law_custody.specs.Bytes.{Flows, Spoiled, texts_of}
use Rattle.law_custody.specs.Contents.{Kept, Named, OpenAll, kept_first, named_front, named_gone, named_kept, open_new, open_passed}
use Rattle.law_custody.specs.Events.{gone_by}
use Rattle.law_custody.specs.Flight.{Offers, Readies, offers_new, readies_up}
use Rattle.law_custody.specs.Place.{Place}
use Rattle.law_custody.specs.Shape.{Shape, no_handover}
use Rattle.law_custody.specs.Talks.{Talks, live}
use Rattle.law_custody.specs.Words.{BoardAvailable, DownWord, MachineReady, UpWord, down_words, up_words}
use Rattle.node_core.specs.Announces.{is_free}
use Rattle.node_core.specs.Halves.{front_id}
use Rattle.node_core.specs.Words.{AreFirst, AreWords, first_more, first_none}
use Rattle.node_core.specs.declared.word.Word.TheVariants.{Says}
use Rattle.law_machine_custody.specs.Flight.{AreOldest, oldest_says}
use Rattle.law_machine_custody.proofs.Keeping.{kept_lies}
use Rattle.law_link_messages.specs.Fit.{AreFit, none_fit}
use Rattle.law_link_messages.specs.Heard.{bodies}
use Rattle.line_step.specs.Lies.{has_lie, tells_lie}
use Rattle.line_step.specs.Numbered.{node_at}
use Rattle.line_step.specs.Reasons.{has_link}
use Rattle.line_report.specs.declared.happening.Happening.{Happening}
use Rattle.line_step.specs.Homes.{AreNewcomers}
use Rattle.line_step.specs.Runs.{IsRun, Point, all_told, state_behind, IsShort}
use Rattle.line_step.specs.State.{LineState, no_line}
use Rattle.line_step.specs.World.{link_at}
use Rattle.law_one_standing.specs.Places.{at_machine, lies_at}
use Rattle.law_one_standing.specs.Relation.{Owns}
use Rattle.law_one_standing.specs.Carried.{Carries, between_of, stand_of, carries_over, carries_spoiled, carries_whole}
use Rattle.law_one_standing.specs.Standing.{IsFitTrack}
use Rattle.law_one_standing.proofs.Carrying.{SaysAlone}
use Rattle.law_one_standing.proofs.LineForms.{ConnectsBear}
use Rattle.law_one_standing.proofs.LineRun.{Stood, StoodBy, track_stood, none_stood}
use Rattle.law_one_standing.proofs.RestMore.{no_link_at}
use Rattle.law_history.proofs.OfferedRun.{none_are_offered}
use Rattle.law_twelve_steps.specs.Announced.{AreInFlight, AreTextsOf, IsAnnounced, IsTextOf, heard, in_flight, more_texts, no_texts}
use Rattle.law_twelve_steps.specs.Twelve.{CanGoOnToEnd, EndsWithinTwelveSteps, HoldsItToEnd, KeepsItToEnd, steps_to_end}
use Rattle.law_twelve_steps.proofs.Beside.{IsFirst}
use Rattle.law_twelve_steps.proofs.Flowing.{front_fits}
use Rattle.law_twelve_steps.proofs.Going.{IsGap as IsGapOf, Stage, counted, lies_fresh}
use Rattle.law_twelve_steps.proofs.Heeds.{HeedsAll, none_heeds, run_heeds}
use Rattle.law_twelve_steps.proofs.Keeping.{behind_offered, run_keeps}
use Rattle.law_twelve_steps.proofs.Lower.{IsLower, readies}
use Rattle.law_twelve_steps.proofs.Running.{Ends, run_ends}
use Rattle.law_twelve_steps.proofs.Stage.{Joint, fresh, left_of, offered, offered_ready}
use Rattle.law_twelve_steps.proofs.Texts.{Flying}
use Rattle.law_twelve_steps.proofs.Upper.{offers}

-- ---- what is in flight is what the line's relation has in flight

one_text : {message : Message} {texts : List (List ℕ)} → AreTextsOf (message ∷ []) texts → (text : List ℕ) × (texts ≡ text ∷ []) × IsTextOf message text
one_text (more_texts {text = text} is no_texts) = (text, refl, is)

no_text : {texts : List (List ℕ)} → AreTextsOf [] texts → texts ≡ texts_of []
no_text no_texts = refl

whole_bytes : (text : List ℕ) (waiting : List ℕ) (stream : Stream) → stream.texts ≡ text ∷ [] → waiting ≡ take stream.arrived (bytes_of stream.texts) → waiting ++ coming stream ≡ text
whole_bytes text waiting stream texts waits =
    ap (λ (bs : List ℕ). bs ++ coming stream) waits ∙ (take-append-drop stream.arrived (bytes_of stream.texts) ∙ (ap (λ (ts : List (List ℕ)). bytes_of ts) texts ∙ append-nil text))

head_is : {one : Message} {said : List Horizontal} → AreOldest (Says one ∷ []) said → (rest : List Horizontal) × (said ≡ one.body ∷ rest)
head_is (oldest_says {messages = rest} others) = (rest, refl)

none_oldest : {one : Message} → AreOldest (Says one ∷ []) [] → ⊥
none_oldest o = elim o [ ]

one_word : (message : Message) (text bytes new : List ℕ) → frames_of (bytes ++ new) ≡ record { messages = text ∷ []; rest = Some [] } → IsTextOf message text → AreWords bytes new [] false (Says message ∷ [])
one_word message text bytes new frames is = record { first = subst (λ (x : Frames). AreFirst x.messages x.rest (Says message ∷ [])) (sym frames) (first_more is.spells first_none); all = λ off. absurd (cc) }

-- of messages that have one text together there is one
one_said : (sent : List Message) (text : List ℕ) → texts_of sent ≡ text ∷ [] → (real : Message) × (sent ≡ real ∷ []) × (canonical real ≡ text)
one_said [] text is = absurd (cc)
one_said (message ∷ []) text is = (message, refl, (let same : canonical message ≡ text = cc in same))
one_said (message ∷ other ∷ others) text is = absurd (cc)

same_head : {a b : Horizontal} {rest : List Horizontal} → ◌≡◌ {A = List Horizontal} (a ∷ []) (b ∷ rest) → a ≡ b
same_head is = cc

-- a message in flight is one that was sent: fit, and it says the same
record IsReally (message : Message) (waiting : List ℕ) (stream : Stream) (said : List Horizontal) : Type 0 where
  real : Message
  says : real.body ≡ message.body
  texts : stream.texts ≡ texts_of (real ∷ [])
  fit : AreFit (real ∷ [])
  rest : List Horizontal
  said_is : said ≡ message.body ∷ rest

really : {stands : Bool} {said : List Horizontal} → SaysAlone → (message : Message) (text : List ℕ) (waiting : List ℕ) (stream : Stream) → stands ≡ true → stream.texts ≡ text ∷ [] → IsTextOf message text → waiting ++ coming stream ≡ text → Carries stands waiting stream said → IsReally message waiting stream said
really alone message text waiting stream on texts is whole (carries_whole sent good flows) =
    let frames : frames_of (waiting ++ coming stream) ≡ record { messages = text ∷ []; rest = Some [] } = ap frames_of whole ∙ is.one.frames in
    let one = one_said sent text (ap (λ (x : Frames). x.messages) (sym flows.frames ∙ frames)) in
    let first = head_is (alone.oldest waiting (coming stream) [] [] false (Says message ∷ []) sent (alone.sayable sent good) (subst (λ (bs : List ℕ). Flows waiting bs (texts_of sent)) (sym (append-nil (coming stream))) flows) (one_word message text waiting (coming stream) frames is)).oldest in
    record {
      real = one.0;
      says = same_head (ap (λ (ms : List Message). bodies ms) (sym one.1) ∙ first.1);
      texts = texts ∙ ap (λ (t : List ℕ). t ∷ []) (sym one.2);
      fit = subst (λ (ms : List Message). AreFit ms) one.1 good;
      rest = first.0;
      said_is = first.1;
    }
really alone message text waiting stream on texts is whole (carries_spoiled spoiled hides) =
    let frames : frames_of (waiting ++ coming stream) ≡ record { messages = text ∷ []; rest = Some [] } = ap frames_of whole ∙ is.one.frames in
    absurd (none_oldest (alone.wrong waiting (coming stream) [] [] false (Says message ∷ []) [] (subst (λ (bs : List ℕ). Spoiled waiting bs) (sym (append-nil (coming stream))) spoiled) (one_word message text waiting (coming stream) frames is)).oldest)
really alone message text waiting stream on texts is whole (carries_over off none) = absurd (let no : true ≡ false = sym on ∙ off in cc)

in_flight_really : {stands : Bool} {said : List Horizontal} → SaysAlone → (message : Message) (waiting : List ℕ) (stream : Stream) → stands ≡ true → AreInFlight (message ∷ []) waiting stream → Carries stands waiting stream said → IsReally message waiting stream said
in_flight_really alone message waiting stream on f carried =
    let one = one_text f.texts in
    really alone message one.0 waiting stream on one.1 one.2 (whole_bytes one.0 waiting stream one.1 f.waits) carried

-- ---- two halves that are idle while both sessions stand

shape_idle : {o : Out} {of : Option ℕ} {rd : Bool} {i : In} {f : Option Record} {ri : Bool} {p : Place} {up : List UpWord} {down : List DownWord} → Shape o of rd i f ri p up down → o ≡ out.Idle → i ≡ inn.Idle → Readies rd up ri × Offers f down of
shape_idle (no_handover ready offer) a b = (ready, offer)
shape_idle _ a b = absurd (cc)

talks_idle : {on : Bool} {x y : SessionState} {o : Out} {of : Option ℕ} {rd : Bool} {i : In} {f : Option Record} {ri : Bool} {p : Place} {up : List UpWord} {down : List DownWord} → Talks on x o of rd y i f ri p up down → on ≡ true → x ≡ Standing → y ≡ Standing → o ≡ out.Idle → i ≡ inn.Idle → Readies rd up ri × Offers f down of
talks_idle (live shape) on x y o i = shape_idle shape o i
talks_idle _ on x y o i = absurd (cc)

none_offered : {f : Option Record} {b : Record} {ws : List DownWord} {o : Option ℕ} → Offers f (BoardAvailable b ∷ ws) o → f ≡ None
none_offered (offers_new rest) = refl

none_ready : {a ri : Bool} {ws : List UpWord} → Readies a (MachineReady ∷ ws) ri → a ≡ false
none_ready (readies_up rest) = refl

pub first_of : (kept : List Record) (id : ℕ) → front_id kept ≡ Some id → (a : Record) × IsFirst a kept × (a.id ≡ id)
first_of [] id is = absurd (cc)
first_of (a ∷ kept) id is = (a, record { others = kept; is = refl }, (let same : a.id ≡ id = cc in same))

-- ---- the record that is offered is that of the front

is_idle_in : (phase : In) → phase ≡ inn.Idle → passes_offers_over phase ≡ false
is_idle_in phase is = ap (λ (p : In). passes_offers_over p) is

first_open : {Q : Record → Type 0} {passed : Bool} {b : Record} {ws : List DownWord} → passed ≡ false → OpenAll Q passed (BoardAvailable b ∷ ws) → Q b
first_open is (open_new q rest) = q
first_open is (open_passed rest) = absurd (cc)

named_by : {Gone : ℕ → Type 0} {on : Bool} {kept : List Record} {touched last : Option ℕ} {b : Record} (a : Record) (others : List Record) → kept ≡ a ∷ others → on ≡ true → (Gone b.id → ⊥) → Named Gone on kept touched last b → b ≡ a
named_by a others is on not_gone named_front = cc
named_by a others is on not_gone (named_gone gone) = absurd (not_gone gone)
named_by a others is on not_gone (named_kept kept) = absurd (cc)

kept_first_of : (a : Record) (kept others : List Record) (n : ℕ) → kept ≡ a ∷ others → n ≡ a.id → Kept n kept
kept_first_of a kept others n is same = subst (λ (ks : List Record). Kept n ks) (sym is) (subst (λ (m : ℕ). Kept m (a ∷ others)) (sym same) kept_first)

named_front_is : (k : ℕ) (s : LineState) (stood : Stood s) (a b : Record) → IsFirst a (node_at s k).lane.body.kept → b.id ≡ a.id → has_link k s ≡ true → (link_at k s.world).stands ≡ true
    → Named (gone_by (stood.trace.gone k)) (link_at k s.world).stands (node_at s k).lane.body.kept (node_at s k).lane.body.outlet.touched (node_at s k).lane.body.last_offer b → b ≡ a
named_front_is k s stood a b first same linked on named =
    let one = (counted k s linked).0 in
    let less : k - 1 + 1 ≡ k = omega (arith, one) in
    let own = subst (λ (m : ℕ). Owns (between_of stood.trace s (k - 1)) (stand_of s m) (between_of stood.trace s m)) less (stood.stands.keeps.machines.at (k - 1)) in
    let lies = kept_lies (kept_first_of a (node_at s k).lane.body.kept first.others b.id first.is same) own.boards in
    named_by a first.others first.is on (λ gone. stood.stands.keeps.apart.nowhere k b.id (at_machine k) gone (lies_at lies)) named

-- ---- THE ANNOUNCED STATE

fresh_gap : (rd : Bool) (gap : AtGap) → gap ≡ free_gap → IsGapOf fresh (offers rd) readies gap
fresh_gap rd gap is = subst (λ (g : AtGap). IsGapOf fresh (offers rd) readies g) (sym is) (record { lies = lies_fresh; exit = refl; entry = refl })

there_by : (k : ℕ) (s : LineState) (there : Bool) → has_link k s ≡ there → Stood s → (link_at k s.world).stands ≡ true → there ≡ true
there_by k s true is stood stands = refl
there_by k s false is stood stands =
    absurd (let no : false ≡ true = sym (ap (λ (l : LinkParts). l.stands) (no_link_at s k stood.stands.together is)) ∙ stands in cc)

pub announced_stage : {k id : ℕ} {s : LineState} → SaysAlone → Stood s → HeedsAll s → (is : IsAnnounced s k id) → Stage k (first_of (node_at s k).lane.body.kept id is.front).0 12 false s
announced_stage {k = k} {id = id} {s = s} alone stood heeds is =
    let linked : has_link k s ≡ true = there_by k s (has_link k s) refl stood is.stands in
    let front = first_of (node_at s k).lane.body.kept id is.front in
    let a : Record = front.0 in
    let kept = (stood.stands.fit k).body.kept in
    let b : Record = is.board.board in
    let same : b.id ≡ a.id = is.board.named ∙ sym front.2 in
    let carried = stood.stands.carried k linked in
    let pair = (stood.stands.keeps.neighbours.at k).pair in
    let idle = talks_idle pair.talk is.stands is.exit is.entry is.outlet is.intake in
    let down = in_flight_really alone is.board.message (node_at s (k + 1)).lane.entry_bytes (link_at k s.world).flows.to_downstream is.stands is.board.flies carried.down in
    let down_is : down_words (stood.trace.down k) ≡ BoardAvailable b ∷ down_words down.rest = ap (λ (ms : List Horizontal). down_words ms) (down.said_is ∙ ap (λ (m : Horizontal). m ∷ down.rest) is.board.says) in
    let offer : (node_at s (k + 1)).lane.body.intake.offer ≡ None = none_offered (subst (λ (ws : List DownWord). Offers (node_at s (k + 1)).lane.body.intake.offer ws (node_at s k).lane.body.outlet.offered) down_is idle.1) in
    let willing = (heeds.at k).exit (ap (λ (p : Out). is_idle_phase p) is.outlet) (ap (λ (o : Option ℕ). is_some o) is.offered) in
    let room = (heeds.at (k + 1)).entry (ap (λ (p : In). is_free (name_of_phase p)) is.intake) is.ready in
    let links = stood.stands.links k in
    let below : IsLower (node_at s (k + 1)).capacity b readies (node_at s (k + 1)).lane.body =
    record { stands = is.entry; role = (stood.stands.sound (k + 1)).entry; phase = is.intake; offer = offer; ready = is.ready; room = room } in
    let downward : Flying (node_at s (k + 1)).lane.entry_bytes (link_at k s.world).flows.to_downstream (down.real ∷ []) =
    record { flies = record { texts = down.texts; waits = is.board.flies.waits }; fit = down.fit; begun = links.begun.downstream } in
    let offers_as = is.offered ∙ ap (λ (n : ℕ). Some n) (sym front.2) in
    let says_down : ◌≡◌ {A = List Horizontal} (message.BoardAvailable b ∷ []) (down.real.body ∷ []) = ap (λ (m : Horizontal). m ∷ []) (sym (down.says ∙ is.board.says)) in
    let contents = (stood.stands.keeps.neighbours.at k).contents in
    let same_record : b ≡ a = named_front_is k s stood a b front.1 same linked is.stands (first_open (is_idle_in (node_at s (k + 1)).lane.body.intake.phase is.intake) (subst (λ (ws : List DownWord). OpenAll (Named (gone_by (stood.trace.gone k)) (link_at k s.world).stands (node_at s k).lane.body.kept (node_at s k).lane.body.outlet.touched (node_at s k).lane.body.last_offer) (passes_offers_over (node_at s (k + 1)).lane.body.intake.phase) ws) down_is contents.offers)) in
    let stage_of : (rd : Bool) (up : List Message) → (node_at s k).lane.body.outlet.ready ≡ rd → Flying (node_at s k).lane.exit_bytes (link_at k s.world).flows.to_upstream up → Joint a b fresh (offers rd) [] readies [] (bodies up) (message.BoardAvailable b ∷ []) → left_of fresh (offers rd) readies ≤ 12 → Stage k a 12 false s =
    λ rd up ready upward joint few. record {
      a = a;
      b = b;
      named = refl;
      taken = same_record;
      same = same;
      short = (front_fits a (node_at s k).lane.body.kept front.1 kept).values.0;
      w = fresh;
      u = offers rd;
      l = readies;
      up_seen = [];
      down_seen = [];
      up = up;
      down = down.real ∷ [];
      linked = linked;
      upper = record { stands = is.exit; role = (stood.stands.sound k).exit; phase = is.outlet; ready = ready; offer = record { offered = offers_as; front = front.1; willing = willing } };
      lower = below;
      up_unread = is.exit_read;
      down_unread = is.entry_read;
      link = record { stands = is.stands; upward = upward; downward = downward };
      gap = fresh_gap rd (gap_at s.world.floor k) is.gap;
      joint = subst (λ (ms : List Horizontal). Joint a b fresh (offers rd) [] readies [] (bodies up) ms) says_down joint;
      few = few;
      settles = λ settled. absurd (cc);
    } in
    elim is.place [
      | heard ready flies ↦ stage_of true [] ready (record { flies = record { texts = no_text flies.texts; waits = flies.waits }; fit = none_fit; begun = links.begun.upstream }) offered_ready (omega arith)
      | in_flight {message = one} {quality} says flies ↦
          let up = in_flight_really alone one (node_at s k).lane.exit_bytes (link_at k s.world).flows.to_upstream is.stands flies carried.up in
          let up_is : up_words (stood.trace.up k) ≡ MachineReady ∷ up_words up.rest = ap (λ (ms : List Horizontal). up_words ms) (up.said_is ∙ ap (λ (m : Horizontal). m ∷ up.rest) says) in
          let ready : (node_at s k).lane.body.outlet.ready ≡ false = none_ready (subst (λ (ws : List UpWord). Readies (node_at s k).lane.body.outlet.ready ws (node_at s (k + 1)).lane.body.intake.ready) up_is idle.0) in
          let joint : Joint a b fresh (offers false) [] readies [] (up.real.body ∷ []) (message.BoardAvailable b ∷ []) = subst (λ (m : Horizontal). Joint a b fresh (offers false) [] readies [] (m ∷ []) (message.BoardAvailable b ∷ [])) (sym (up.says ∙ says)) (offered {q = quality}) in
          stage_of false (up.real ∷ []) ready (record { flies = record { texts = up.texts; waits = flies.waits }; fit = up.fit; begun = links.begun.upstream }) joint (omega arith)
    ]

-- ---- along the script

behind_stood : SaysAlone → ConnectsBear → (past : List Happening) (asked : List TrackLine) (points : List Point) (s : LineState) → StoodBy past s → AllByRecursion IsFitTrack asked → IsShort s points → IsRun s asked points → has_lie points ≡ false → AreNewcomers past asked points
    → StoodBy (past ++ all_told points) (state_behind s points)
behind_stood alone connects past [] [] s stood fit few run honest new = subst (λ (hs : List Happening). StoodBy hs s) (sym (append-nil past)) stood
behind_stood alone connects past [] (point ∷ points) s stood fit few run honest new = absurd run
behind_stood alone connects past (line ∷ asked) [] s stood fit few run honest new = absurd run
behind_stood alone connects past (line ∷ asked) (point ∷ points) s stood fit few run honest new =
    let here : s.lines + 1 ≤ 1000000 = few.0 in
    let first : tells_lie point.told ≡ false = (or_parts (tells_lie point.told) (has_lie points) honest).0 in
    let after : StoodBy (past ++ point.told) point.after = track_stood alone connects (s.lines + 1) past line s point.after point.told refl here fit.0 new.0 first stood run.0 in
    let behind : IsShort point.after points = few.1 in
    subst (λ (hs : List Happening). StoodBy hs (state_behind point.after points)) (append_assoc past point.told (all_told points))
    (behind_stood alone connects (past ++ point.told) asked points point.after after fit.1 behind run.1 (or_parts (tells_lie point.told) (has_lie points) honest).1 new.1)

fit_front : (asked stretch : List TrackLine) → AllByRecursion IsFitTrack (asked ++ stretch) → AllByRecursion IsFitTrack asked × AllByRecursion IsFitTrack stretch
fit_front [] stretch fit = (tt, fit)
fit_front (line ∷ asked) stretch fit =
    let others = fit_front asked stretch fit.1 in
    ((fit.0, others.0), others.1)

front_same : (kept : List Record) (a board : Record) → IsFirst a kept → slice_get kept 0 ≡ Some board → a ≡ board
front_same kept a board first found =
    let same : ◌≡◌ {A = Option Record} (Some a) (Some board) = sym (ap (λ (ks : List Record). slice_get ks 0) first.is) ∙ found in
    cc

-- THE LAW
pub twelve_steps : SaysAlone → ConnectsBear → EndsWithinTwelveSteps
twelve_steps alone connects asked stretch earlier points k id fit few short run honest new then_run calm then_honest then_new is =
    let fits = fit_front asked stretch fit in
    let stood : StoodBy (all_told earlier) (state_behind no_line earlier) = behind_stood alone connects [] asked earlier no_line none_stood fits.0 few run honest new in
    let heeds : HeedsAll (state_behind no_line earlier) = run_heeds asked earlier no_line none_heeds run in
    let s : LineState = state_behind no_line earlier in
    let front = first_of (node_at s k).lane.body.kept id is.front in
    let ends : Ends 12 k front.0 false s stretch points = run_ends alone connects (all_told earlier) stretch points 12 false s (announced_stage alone stood.stood heeds is) stood fits.1 short then_run calm then_honest then_new in
    record {
      few = subst (λ (n : ℕ). steps_to_end k n false s stretch points ≤ 12) front.2 ends.few;
      possible = subst (λ (n : ℕ). CanGoOnToEnd k n false s points) front.2 ends.possible;
      held = λ board found. subst (λ (r : Record). HoldsItToEnd k r false s points) (front_same (node_at s k).lane.body.kept front.0 board front.1 found) ends.holds;
      kept = λ board found. subst (λ (r : Record). KeepsItToEnd k r false points) (front_same (node_at s k).lane.body.kept front.0 board front.1 found)
          (run_keeps alone connects k front.0 (all_told earlier) stretch points false s stood (behind_offered alone connects [] asked earlier no_line none_stood none_are_offered fits.0 few run honest new) fits.1 short then_run calm then_honest then_new ends.holds);
    }
