-- While the end of a transport is on its way, the outlet holds nothing.
use Rattle.std.proofs.Common.{Bool, List, None, [], ap, append-nil, false, refl, subst, sym, true, ℕ, ◌++◌, ◌+◌, ◌||◌, ◌∙◌, ◌∷◌, ◌≡◌}
use Rattle.std.specs.Prelude.{not}
use Rattle.std.proofs.lemmas.Bool.{false≢true}
use Rattle.line_base.specs.declared.states.Side.TheVariants.{Entry}
use Rattle.line_base.specs.declared.states.Transfer.{Transfer}
use Rattle.hermes_horizontal.specs.Canonical.{canonical}
use Rattle.hermes_horizontal.specs.Spelling.{Spells}
use Rattle.hermes_horizontal.specs.declared.message.Horizontal.{Horizontal}
use Rattle.hermes_horizontal.specs.declared.message.Horizontal.TheVariants as bodies_of
use Rattle.hermes_horizontal.specs.declared.message.Message.{Message}
use Rattle.hermes_stream.specs.Frames.{Frames, NeedMore, answer_of, frames_of}
use Rattle.hermes_stream.proofs.Streams.{frames_of-need_more}
use Rattle.line_link.specs.Flow.{Stream, coming}
use Rattle.handover_out.specs.State.{board_of_phase as held_out}
use Rattle.node_core.specs.Sides.{is_open}
use Rattle.node_core.specs.Words.{AreFirst, AreWords, first_more, first_none}
use Rattle.node_core.specs.declared.word.Word.TheVariants as words
use Rattle.law_custody.specs.Bytes.{Flows, texts_of}
use Rattle.law_custody.specs.Facts.{HasDown, down_first, down_later}
use Rattle.law_custody.specs.Words.{DownWord, TransportFinished, UpstreamService, before_down, down_words}
use Rattle.law_custody.proofs.Promised.{free_behind_a_description, free_behind_an_end}
use Rattle.law_machine_custody.specs.Flight.{AreOldest, oldest_says}
use Rattle.law_link_messages.specs.Heard.{AreSayable, IsSayable, bodies, more_sayable, none_sayable}
use Rattle.line_step.specs.Numbered.{node_at}
use Rattle.line_step.specs.Reasons.{has_link, is_empty}
use Rattle.line_step.specs.State.{LineState}
use Rattle.law_one_standing.specs.Carried.{Carried, Carries, Hides, Trace, between_of, carries_over, carries_spoiled, carries_whole, stand_of, without_nuls}
use Rattle.law_one_standing.specs.Facts.{IsOnItsWay, IsSpelledIn, LetsGo, lets_description, lets_end, spelled_first, spelled_later, way_spoiled, way_whole}
use Rattle.law_one_standing.specs.Relation.{link_between}
use Rattle.law_one_standing.specs.Stands.{Stands}
use Rattle.law_one_standing.specs.Waits.{AreWaiting}
use Rattle.law_one_standing.proofs.Carrying.{SaysAlone}
use Rattle.law_one_standing.proofs.Cleared.{cleared_in, hides_whole, none_spelled}

-- ---- the end of a transport is among the words to the intake

data Ends : List DownWord → Type 0 where
  ends_told : {state : Transfer} {id : ℕ} {ws : List DownWord} → HasDown (TransportFinished state id) ws → Ends ws
  ends_described : {ws : List DownWord} → HasDown UpstreamService ws → Ends ws

later_word : {w : DownWord} {ws : List DownWord} (body : Horizontal) → HasDown w ws → HasDown w (before_down body ws)
later_word (bodies_of.BoardAvailable board) has = down_later has
later_word bodies_of.RevokeBoardAvailable has = down_later has
later_word (bodies_of.TransportFinished state id) has = down_later has
later_word (bodies_of.ServiceDescription service) has = down_later has
later_word _ has = has

later_end : {ws : List DownWord} (body : Horizontal) → Ends ws → Ends (before_down body ws)
later_end body (ends_told has) = ends_told (later_word body has)
later_end body (ends_described has) = ends_described (later_word body has)

ends_here : {body : Horizontal} (rest : List Horizontal) → LetsGo body → Ends (down_words (body ∷ rest))
ends_here rest lets_end = ends_told down_first
ends_here rest lets_description = ends_described down_first

-- ---- the texts of what was sent

heard_is : {message : Message} {body : Horizontal} → AreOldest (words.Says message ∷ []) (body ∷ []) → body ≡ message.body
heard_is (oldest_says others) = refl

-- the text of a message spells what it says alone
same_body : SaysAlone → (m message : Message) → IsSayable m → Spells (canonical m) message → m.body ≡ message.body
same_body alone m message sayable spells =
    let text : List ℕ = canonical m in
    let flows : Flows [] (text ++ []) (texts_of (m ∷ [])) = record { frames = ap frames_of (append-nil text) ∙ sayable.one.frames } in
    let heard : AreWords [] text [] false (words.Says message ∷ []) = record {
      first = subst (λ (fs : Frames). AreFirst fs.messages fs.rest (words.Says message ∷ [])) (sym sayable.one.frames) (first_more spells first_none);
      all = λ is. absurd (false≢true is);
    } in
    heard_is (alone.oldest [] text [] [] false (words.Says message ∷ []) (m ∷ []) (more_sayable sayable none_sayable) flows heard).oldest

ends_said : {message : Message} → SaysAlone → (said : List Message) → AreSayable said → LetsGo message.body → IsSpelledIn message (texts_of said) → Ends (down_words (bodies said))
ends_said alone [] sayable lets there = elim there [ ]
ends_said {message} alone (m ∷ said) (more_sayable it others) lets (spelled_first spells) =
    subst (λ (body : Horizontal). Ends (down_words (body ∷ bodies said))) (sym (same_body alone m message it spells)) (ends_here (bodies said) lets)
ends_said alone (m ∷ said) (more_sayable it others) lets (spelled_later there) = later_end m.body (ends_said alone said others lets there)

ends_hidden : {bytes : List ℕ} {down : List Horizontal} {message : Message} → SaysAlone → Hides bytes down → LetsGo message.body → IsSpelledIn message (frames_of (without_nuls bytes)).messages → Ends (down_words down)
ends_hidden {message = message} alone h lets there =
    subst (λ (ms : List Horizontal). Ends (down_words ms)) (sym h.are)
    (ends_said alone h.said (alone.sayable h.said h.fit) lets (subst (λ (fs : Frames). IsSpelledIn message fs.messages) h.frames there))

-- a whole text, whatever was spoiled before it
ends_whole : {stands : Bool} {waiting : List ℕ} {stream : Stream} {down : List Horizontal} {message : Message} → SaysAlone → Carries stands waiting stream down → answer_of waiting ≡ NeedMore → LetsGo message.body
    → IsSpelledIn message (frames_of (waiting ++ coming stream)).messages → Ends (down_words down)
ends_whole {waiting = waiting} {stream = stream} alone (carries_whole said good flows) more lets there = ends_hidden alone (hides_whole alone said good flows) lets (cleared_in alone (waiting ++ coming stream) there)
ends_whole {waiting = waiting} {stream = stream} alone (carries_spoiled spoiled hides) more lets there = ends_hidden alone hides lets (cleared_in alone (waiting ++ coming stream) there)
ends_whole {waiting = waiting} {stream = stream} {message = message} alone (carries_over off none) more lets there =
    let all : waiting ++ coming stream ≡ waiting = ap (λ (z : List ℕ). waiting ++ z) none ∙ append-nil waiting in
    absurd (none_spelled (subst (λ (fs : Frames). IsSpelledIn message fs.messages) (ap frames_of all ∙ frames_of-need_more waiting more) there))

-- a text that was spoiled
ends_spoiled : {stands : Bool} {waiting : List ℕ} {stream : Stream} {down : List Horizontal} {message : Message} → SaysAlone → Carries stands waiting stream down → (stands || not (is_empty (coming stream))) ≡ true → LetsGo message.body
    → IsSpelledIn message (frames_of (without_nuls (waiting ++ coming stream))).messages → Ends (down_words down)
ends_spoiled alone (carries_whole said good flows) comes lets there = ends_hidden alone (hides_whole alone said good flows) lets there
ends_spoiled alone (carries_spoiled spoiled hides) comes lets there = ends_hidden alone hides lets there
ends_spoiled {stands = stands} {stream = stream} alone (carries_over off none) comes lets there =
    let over : (stands || not (is_empty (coming stream))) ≡ false = rw (off, none) refl in
    absurd (false≢true (sym over ∙ comes))

ends_coming : {t : Trace} {s : LineState} {message : Message} (gap : ℕ) → SaysAlone → Carried t s gap → answer_of (node_at s (gap + 1)).lane.entry_bytes ≡ NeedMore → LetsGo message.body → IsOnItsWay s gap message → Ends (down_words (t.down gap))
ends_coming gap alone carried more lets (way_whole there) = ends_whole alone carried.down more lets there
ends_coming gap alone carried more lets (way_spoiled comes there) = ends_spoiled alone carried.down comes lets there

-- ---- the outlet is free

free_by : {t : Trace} {s : LineState} (gap : ℕ) → Stands t s → Ends (down_words (t.down gap)) → held_out (node_at s gap).lane.body.outlet.phase ≡ None
free_by {t} {s} gap st (ends_told {state = state} {id = id} has) = free_behind_an_end (t.ghost gap) (link_between (stand_of s gap) (between_of t s gap) (stand_of s (gap + 1))) state id (st.keeps.neighbours.at gap).pair has
free_by {t} {s} gap st (ends_described has) = free_behind_a_description (t.ghost gap) (link_between (stand_of s gap) (between_of t s gap) (stand_of s (gap + 1))) (st.keeps.neighbours.at gap).pair has

free_if : {t : Trace} {s : LineState} (gap : ℕ) (message : Message) (there : Bool) → has_link gap s ≡ there → SaysAlone → Stands t s → AreWaiting s → is_open Entry (node_at s (gap + 1)).lane.body ≡ true → IsOnItsWay s gap message → LetsGo message.body
    → held_out (node_at s gap).lane.body.outlet.phase ≡ None
free_if gap message false there alone st waits opened comes lets = ap held_out (st.rest gap there).outlet
free_if gap message true there alone st waits opened comes lets = free_by gap st (ends_coming gap alone (st.carried gap there) (waits (gap + 1) Entry opened) lets comes)

pub free_behind : {t : Trace} {s : LineState} → SaysAlone → (gap : ℕ) (message : Message) → Stands t s → AreWaiting s → is_open Entry (node_at s (gap + 1)).lane.body ≡ true → IsOnItsWay s gap message → LetsGo message.body
    → held_out (node_at s gap).lane.body.outlet.phase ≡ None
free_behind {s = s} alone gap message st waits opened comes lets = free_if gap message (has_link gap s) refl alone st waits opened comes lets
