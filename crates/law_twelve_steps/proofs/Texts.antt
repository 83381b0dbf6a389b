-- Messages in flight on a link: one more is sent, and the oldest arrives whole.
use Rattle.std.proofs.Common.{Bool, List, None, Some, [], ap, append-nil, arith, drop, false, length, refl, subst, sym, take, true, ℕ, ◌*◌, ◌++◌, ◌+◌, ◌-◌, ◌<◌, ◌∙◌, ◌∷◌, ◌≡◌, ◌≤◌, lt-ltb, ltb-true}
use Rattle.std.proofs.lemmas.Bool.{le-ltb}
use Rattle.std.proofs.lemmas.List.{drop-append-le, length-append, length-drop, take-append-drop, take-append-le, take_at}
use Rattle.std.specs.Prelude.{nat_lt}
use Rattle.line_link.proofs.Coming.{bytes_of-append, begun_within}
use Rattle.line_base.specs.declared.states.Role.{Role}
use Rattle.line_base.specs.declared.states.Role.TheVariants.{Downstream, Upstream}
use Rattle.hermes_horizontal.specs.Canonical.{canonical}
use Rattle.hermes_horizontal.specs.declared.message.Horizontal.{Horizontal}
use Rattle.hermes_horizontal.specs.declared.message.Message.{Message}
use Rattle.hermes_stream.specs.Frames.{Frames, frames_of}
use Rattle.line_link.specs.Flow.{Stream, coming, flowing, is_begun, reached, rest_of, with_arrival, with_text}
use Rattle.line_link.specs.Link.{LinkParts, after_send, cut, flow_to, is_too_much, texted, within_limit}
use Rattle.line_link.specs.Texts.{bytes_of}
use Rattle.law_custody.specs.Bytes.{Flows, texts_of}
use Rattle.node_core.specs.Words.{AreAll, AreFirst, AreWords, all_more, all_none, first_more, first_none}
use Rattle.node_core.specs.declared.word.Word.{Word}
use Rattle.node_core.specs.declared.word.Word.TheVariants.{Says, Wrong}
use Rattle.law_machine_custody.specs.Flight.{AreOldest, oldest_says}
use Rattle.law_link_messages.specs.Fit.{AreFit, IsFit, more_fit, none_fit}
use Rattle.law_link_messages.specs.Heard.{AreSayable, IsSayable, bodies, more_sayable}
use Rattle.law_link_messages.proofs.Fitting.{both_fit}
use Rattle.law_one_standing.proofs.Carrying.{SaysAlone}
use Rattle.law_one_standing.proofs.CarryingSides.{begun_text}
use Rattle.line_step.proofs.Ascending.{choose_true, choose_false}

-- the texts of these messages are on their way, and this waits of the oldest
pub record AreOn (said : List Message) (waiting : List ℕ) (stream : Stream) : Type 0 where
  pub texts : stream.texts ≡ texts_of said
  pub waits : waiting ≡ take stream.arrived (bytes_of stream.texts)

-- these messages are in flight, each fit
pub record Flying (waiting : List ℕ) (stream : Stream) (said : List Message) : Type 0 where
  pub flies : AreOn said waiting stream
  pub fit : AreFit said
  pub begun : is_begun stream.texts stream.arrived ≡ true

-- ---- the text of a message

texts_append : (a b : List Message) → texts_of (a ++ b) ≡ texts_of a ++ texts_of b
texts_append [] b = refl
texts_append (message ∷ a) b = ap (λ (ts : List (List ℕ)). canonical message ∷ ts) (texts_append a b)

sayable_first : {message : Message} {others : List Message} → AreSayable (message ∷ others) → IsSayable message
sayable_first (more_sayable one others) = one

pub sayable_one : SaysAlone → (message : Message) → IsFit message → IsSayable message
sayable_one alone message fit = sayable_first (alone.sayable (message ∷ []) (more_fit fit none_fit))

-- so many messages have few bytes
few_bytes : SaysAlone → (said : List Message) → AreFit said → length (bytes_of (texts_of said)) ≤ 65536 * length said
few_bytes alone [] none_fit = omega arith
few_bytes alone (message ∷ said) (more_fit fit fits) =
    let one = (sayable_one alone message fit).one.short in
    let others = few_bytes alone said fits in
    omega (arith, length-append (canonical message) (bytes_of (texts_of said)), one, others)

-- ---- a message is sent

pub flying_sent : {waiting : List ℕ} {said : List Message} (stream : Stream) (message : Message) → IsFit message → Flying waiting stream said → Flying waiting (with_text (canonical message) stream) (said ++ message ∷ [])
flying_sent {waiting = waiting} {said = said} stream message fit f =
    let begun = f.begun in
    let same : take stream.arrived (bytes_of (stream.texts ++ canonical message ∷ [])) ≡ take stream.arrived (bytes_of stream.texts) =
    ap (λ (l : List ℕ). take stream.arrived l) (bytes_of-append stream.texts (canonical message ∷ [])) ∙ take-append-le stream.arrived (bytes_of stream.texts) (bytes_of (canonical message ∷ [])) (begun_within stream.texts stream.arrived begun) in
    record {
      flies = record {
        texts = ap (λ (ts : List (List ℕ)). ts ++ canonical message ∷ []) f.flies.texts ∙ sym (texts_append said (message ∷ []));
        waits = f.flies.waits ∙ sym same;
      };
      fit = both_fit f.fit (more_fit fit none_fit);
      begun = begun_text (canonical message) stream begun;
    }

-- ---- a link with messages in flight in both directions

pub record Carrying (up_waits down_waits : List ℕ) (link : LinkParts) (up down : List Message) : Type 0 where
  pub stands : link.stands ≡ true
  pub upward : Flying up_waits link.flows.to_upstream up
  pub downward : Flying down_waits link.flows.to_downstream down

coming_few : SaysAlone → (waiting : List ℕ) (stream : Stream) (said : List Message) → Flying waiting stream said → length said ≤ 15 → length (coming stream) ≤ 1048576
coming_few alone waiting stream said f few =
    let all : length (bytes_of stream.texts) ≡ length (bytes_of (texts_of said)) = ap (λ (ts : List (List ℕ)). length (bytes_of ts)) f.flies.texts in
    let bytes = few_bytes alone said f.fit in
    let part : length (coming stream) ≡ length (bytes_of stream.texts) - stream.arrived = length-drop stream.arrived (bytes_of stream.texts) in
    omega (arith, all, bytes, part, few)

not_much : (n : ℕ) → n ≤ 1048576 → nat_lt 1048576 n ≡ false
not_much n few = le-ltb 1048576 n few

stays_whole : SaysAlone → (to : Role) (waiting : List ℕ) (link : LinkParts) (said : List Message) → Flying waiting (flow_to to link) said → length said ≤ 15 → within_limit to link ≡ link
stays_whole alone to waiting link said f few = choose_false (is_too_much to link) (cut link) link (not_much (length (coming (flow_to to link))) (coming_few alone waiting (flow_to to link) said f few))

pub sends_down : {u d : List ℕ} {up down : List Message} → SaysAlone → (link : LinkParts) (message : Message) → IsFit message → length (down ++ message ∷ []) ≤ 15 → Carrying u d link up down → Carrying u d (after_send Upstream (canonical message) link) up (down ++ message ∷ [])
sends_down {u = u} {d = d} {up = up} {down = down} alone link message fit few c =
    let now : LinkParts = texted Downstream (canonical message) link in
    let goes : Flying d (flow_to Downstream now) (down ++ message ∷ []) = flying_sent link.flows.to_downstream message fit c.downward in
    let is : after_send Upstream (canonical message) link ≡ now = choose_true link.stands (within_limit Downstream now) link c.stands ∙ stays_whole alone Downstream d now (down ++ message ∷ []) goes few in
    subst (λ (l : LinkParts). Carrying u d l up (down ++ message ∷ [])) (sym is) (record { stands = c.stands; upward = c.upward; downward = goes })

pub sends_up : {u d : List ℕ} {up down : List Message} → SaysAlone → (link : LinkParts) (message : Message) → IsFit message → length (up ++ message ∷ []) ≤ 15 → Carrying u d link up down → Carrying u d (after_send Downstream (canonical message) link) (up ++ message ∷ []) down
sends_up {u = u} {d = d} {up = up} {down = down} alone link message fit few c =
    let now : LinkParts = texted Upstream (canonical message) link in
    let goes : Flying u (flow_to Upstream now) (up ++ message ∷ []) = flying_sent link.flows.to_upstream message fit c.upward in
    let is : after_send Downstream (canonical message) link ≡ now = choose_true link.stands (within_limit Upstream now) link c.stands ∙ stays_whole alone Upstream u now (up ++ message ∷ []) goes few in
    subst (λ (l : LinkParts). Carrying u d l (up ++ message ∷ []) down) (sym is) (record { stands = c.stands; upward = goes; downward = c.downward })

-- ---- the oldest arrives whole

is_positive : (byte : ℕ) (bytes : List ℕ) → nat_lt 0 (length (byte ∷ bytes)) ≡ true
is_positive byte bytes = lt-ltb 0 (length (byte ∷ bytes)) (omega arith)

is_written : (message : Message) → nat_lt 0 (length (canonical message)) ≡ true
is_written message = is_positive 60 (drop 1 (canonical message))

zero_reached : (said : List Message) → reached 0 (texts_of said) ≡ record { texts = texts_of said; arrived = 0 }
zero_reached [] = refl
zero_reached (message ∷ said) = choose_true (nat_lt 0 (length (canonical message))) (record { texts = texts_of (message ∷ said); arrived = 0 }) (reached (0 - length (canonical message)) (texts_of said)) (is_written message)

first_reached : (text : List ℕ) (texts : List (List ℕ)) (arrived : ℕ) → arrived < length text → reached (arrived + (length text - arrived)) (text ∷ texts) ≡ reached 0 texts
first_reached text texts arrived within =
    let whole : arrived + (length text - arrived) ≡ length text = omega (arith, within) in
    let none : length text - length text ≡ 0 = omega arith in
    ap (λ (n : ℕ). reached n (text ∷ texts)) whole
    ∙ choose_false (nat_lt (length text) (length text)) (record { texts = text ∷ texts; arrived = length text }) (reached (length text - length text) texts) (le-ltb (length text) (length text) (omega arith))
    ∙ ap (λ (n : ℕ). reached n texts) none

begun_zero : (said : List Message) → is_begun (texts_of said) 0 ≡ true
begun_zero [] = refl
begun_zero (message ∷ said) = is_written message

fit_first : {message : Message} {said : List Message} → AreFit (message ∷ said) → IsFit message × AreFit said
fit_first (more_fit one others) = (one, others)

-- not all of the oldest text has arrived
not_all : {waiting : List ℕ} {said : List Message} (stream : Stream) (message : Message) → Flying waiting stream (message ∷ said) → stream.arrived < length (canonical message)
not_all stream message f = ltb-true stream.arrived (length (canonical message)) (sym (ap (λ (ts : List (List ℕ)). is_begun ts stream.arrived) f.flies.texts) ∙ f.begun)

-- what is left in flight
pub flying_rest : {waiting : List ℕ} {said : List Message} (stream : Stream) (message : Message) → Flying waiting stream (message ∷ said) → Flying [] (with_arrival (flowing None stream) stream) said
flying_rest {said = said} stream message f =
    let is : with_arrival (flowing None stream) stream ≡ record { texts = texts_of said; arrived = 0 } =
    ap (λ (ts : List (List ℕ)). reached (stream.arrived + rest_of ts stream.arrived) ts) f.flies.texts ∙ first_reached (canonical message) (texts_of said) stream.arrived (not_all stream message f) ∙ zero_reached said in
    subst (λ (s : Stream). Flying [] s said) (sym is) (record { flies = record { texts = refl; waits = refl }; fit = (fit_first f.fit).1; begun = begun_zero said })

-- and what arrives makes the text whole
pub whole_text : {waiting : List ℕ} {said : List Message} (stream : Stream) (message : Message) → Flying waiting stream (message ∷ said) → waiting ++ take (flowing None stream) (coming stream) ≡ canonical message
whole_text {waiting = waiting} {said = said} stream message f =
    let text : List ℕ = canonical message in
    let rest : List ℕ = bytes_of (texts_of said) in
    let part = not_all stream message f in
    let within : stream.arrived ≤ length text = omega (arith, part) in
    let front : waiting ≡ take stream.arrived text = f.flies.waits ∙ (ap (λ (ts : List (List ℕ)). take stream.arrived (bytes_of ts)) f.flies.texts ∙ take-append-le stream.arrived text rest within) in
    let bytes : coming stream ≡ drop stream.arrived text ++ rest = ap (λ (ts : List (List ℕ)). drop stream.arrived (bytes_of ts)) f.flies.texts ∙ drop-append-le stream.arrived text rest within in
    let count : flowing None stream ≡ length text - stream.arrived = ap (λ (ts : List (List ℕ)). rest_of ts stream.arrived) f.flies.texts in
    let size : length (drop stream.arrived text) ≡ length text - stream.arrived = length-drop stream.arrived text in
    let back : take (flowing None stream) (coming stream) ≡ drop stream.arrived text = (λ i. take (count i) (bytes i)) ∙ take_at (drop stream.arrived text) rest (length text - stream.arrived) size in
    (λ i. front i ++ back i) ∙ take-append-drop stream.arrived text

-- ---- what is heard of a whole text: its message, where the side is open still

pub data HeardOne (message : Message) (still : Bool) (new : List ℕ) : List Word → Type 0 where
  heard_none : (still ≡ true → ⊥) → HeardOne message still new []
  heard_one : {one : Message} → one.body ≡ message.body → (still ≡ true → new ≡ []) → HeardOne message still new (Says one ∷ [])

oldest_body : {one : Message} {body : Horizontal} → AreOldest (Says one ∷ []) (body ∷ []) → one.body ≡ body
oldest_body (oldest_says others) = refl

none_left : {text new : List ℕ} → AreAll (text ∷ []) (Some []) [] new → ⊥
none_left all = elim all [ ]

all_left : {text new : List ℕ} {word : Word} → AreAll (text ∷ []) (Some []) (word ∷ []) new → new ≡ []
all_left (all_more means all_none) = refl

heard_by : (message : Message) (still : Bool) (new : List ℕ) (words : List Word) → IsSayable message → ((one : Message) → words ≡ Says one ∷ [] → one.body ≡ message.body) → AreFirst (canonical message ∷ []) (Some []) words → (still ≡ true → AreAll (canonical message ∷ []) (Some []) words new)
    → HeardOne message still new words
heard_by message still new _ sayable body first_none all = heard_none (λ on. none_left (all on))
heard_by message still new (Says one ∷ _) sayable body (first_more means first_none) all = heard_one (body one refl) (λ on. all_left (all on))
heard_by message still new (Wrong text ∷ _) sayable body (first_more means first_none) all = absurd (means.spells_none message sayable.spells)

pub hears_text : SaysAlone → (message : Message) → IsFit message → (old piece new : List ℕ) (still : Bool) (words : List Word) → old ++ piece ≡ canonical message → AreWords old piece new still words → HeardOne message still new words
hears_text alone message fit old piece new still words whole are =
    let sayable : IsSayable message = sayable_one alone message fit in
    let frames : frames_of (old ++ piece) ≡ record { messages = canonical message ∷ []; rest = Some [] } = ap frames_of whole ∙ sayable.one.frames in
    let flows : Flows old (piece ++ []) (texts_of (message ∷ [])) = record { frames = ap (λ (p : List ℕ). frames_of (old ++ p)) (append-nil piece) ∙ frames } in
    heard_by message still new words sayable
    (λ one is. oldest_body (subst (λ (ws : List Word). AreOldest ws (bodies (message ∷ []))) is (alone.oldest old piece [] new still words (message ∷ []) (alone.sayable (message ∷ []) (more_fit fit none_fit)) flows are).oldest))
    (subst (λ (x : Frames). AreFirst x.messages x.rest words) frames are.first)
    (λ on. subst (λ (x : Frames). AreAll x.messages x.rest words new) frames (are.all on))
