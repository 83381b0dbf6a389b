-- What flows to each side of a line: the texts of messages that the machine at the other end sends, or one that was spoiled.
use Rattle.std.proofs.Common.{Bool, List, None, Option, Some, [], false, refl, subst, sym, true, ℕ, ◌&&◌, ◌++◌, ◌∙◌, ◌∷◌, ◌≡◌, ◌≢◌, ◌⊎◌, inl, inr}
use Rattle.std.specs.Prelude.{cond}
use Rattle.std.proofs.lemmas.Bool.{false≢true, and_parts}
use Rattle.law_one_standing.proofs.Counting.{across as other}
use Rattle.line_base.specs.declared.states.Role.{Role}
use Rattle.line_base.specs.declared.states.Role.TheVariants.{Downstream, Upstream}
use Rattle.line_base.specs.declared.states.Side.{Side}
use Rattle.line_base.specs.declared.states.Side.TheVariants.{Entry, Exit}
use Rattle.hermes_stream.specs.Frames.{IsOneFrame, NeedMore, answer_of}
use Rattle.hermes_horizontal.specs.Canonical.{canonical}
use Rattle.hermes_horizontal.specs.declared.message.Horizontal.{Horizontal}
use Rattle.hermes_horizontal.specs.declared.message.Horizontal.TheVariants as message
use Rattle.hermes_horizontal.specs.declared.message.Message.{Message}
use Rattle.line_link.specs.Flow.{coming}
use Rattle.line_link.specs.Link.{LinkParts, across, after_answer, after_close, after_send, answer_of as answered_by, cut, is_too_much, no_link, nulled, texted, within_limit}
use Rattle.line_link.proofs.Coming.{coming_of_nul, coming_of_text}
use Rattle.node_core.specs.declared.act.Act.{Act}
use Rattle.node_core.specs.declared.act.Act.TheVariants as acts
use Rattle.node_core.specs.declared.act.Deed.{Deed}
use Rattle.node_core.specs.declared.act.Deed.TheVariants as deeds
use Rattle.law_custody.specs.Bytes.{Flows, Spoiled, texts_of}
use Rattle.law_custody.proofs.Messages.{sends_a_message}
use Rattle.law_custody.proofs.Spoils.{nul_arrives, nul_stays, puts_a_nul}
use Rattle.law_custody.proofs.Texts.{arrives, nothing_flows}
use Rattle.law_link_messages.specs.Fit.{AreFit, AreFitActs, IsFit, IsFitAct, more_fit, more_said, none_fit, none_said}
use Rattle.law_link_messages.specs.Heard.{AreSayable, bodies, more_sayable}
use Rattle.law_link_messages.proofs.Fitting.{both_fit}
use Rattle.line_step.specs.Acts.{act_did, acts_did, answers, counted, is_answer, is_exit, sent_by}
use Rattle.line_step.specs.World.{WorldParts, end_of, link_at, link_of, with_link}
use Rattle.line_step.proofs.Numbers.{same_or_not}
use Rattle.line_step.proofs.LinkRule.{link_keeps}
use Rattle.law_one_standing.specs.Links.{IsWholeLink}
use Rattle.law_one_standing.proofs.Carrying.{SaysAlone}
use Rattle.step_rules.proofs.BlameReady.{ready_after}
use Rattle.law_one_standing.proofs.FactsBlame.{AreBodiesFrom, AreFrom, Leave, are_mild, is_from, is_mild}
use Rattle.law_one_standing.proofs.WholeLinks.{whole_act, AreWhole}

-- ---- who is free to tell of boards

-- which side is ready behind these
abbrev pub ready_behind : Side → Bool → List Horizontal → Bool
ready_behind side ready [] = ready
ready_behind side ready (body ∷ others) = ready_behind side (ready_after side ready body) others

pub after_more : (side : Side) (ready : Bool) (what : Horizontal) → ready ≡ true → ready_after side ready what ≡ true
after_more Entry ready (message.ServiceDescription service) is = refl
after_more side ready what is = is

after_both : (side : Side) (ready now : Bool) (what : Horizontal) → (ready ≡ true → now ≡ true) → ready_after side ready what ≡ true → ready_after side now what ≡ true
after_both Entry ready now (message.ServiceDescription service) more is = refl
after_both side ready now what more is = more is

from_freely : (side : Side) (ready now : Bool) (what : Horizontal) → (ready ≡ true → now ≡ true) → is_from side ready what ≡ true → is_from side now what ≡ true
from_freely Entry ready now (message.BoardForecast info) more is = more is
from_freely Entry ready now (message.SendBoardInfo info) more is = more is
from_freely Exit ready now (message.QueryBoardInfo top bottom) more is = more is
from_freely side ready now what more is = is

from_ready : (side : Side) (ready now : Bool) (sent : List Horizontal) → (ready ≡ true → now ≡ true) → AreBodiesFrom side ready sent → AreBodiesFrom side now sent
from_ready side ready now [] more all = tt
from_ready side ready now (body ∷ sent) more all = (from_freely side ready now body more all.0, from_ready side (ready_after side ready body) (ready_after side now body) sent (after_both side ready now body more) all.1)

-- ---- what flows in one direction

-- to a side at which these bytes wait, and these come: the texts of fit messages that the other end sends, whole; or, where
-- one was spoiled, there is a NUL in the next of them; or nothing comes any more, since the link doesn't stand
pub data Clear (Taint : Type 0) (side : Side) (ready free stands : Bool) (waiting bytes : List ℕ) : Type 0 where
  clear_whole : (said : List Message) → AreFit said → AreFrom side ready said → (free ≡ true → stands ≡ true → ready_behind side ready (bodies said) ≡ true) → Flows waiting bytes (texts_of said) → Clear Taint side ready free stands waiting bytes
  clear_spoiled : Taint → Spoiled waiting bytes → Clear Taint side ready free stands waiting bytes
  clear_over : stands ≡ false → bytes ≡ [] → Clear Taint side ready free stands waiting bytes

pub first_frame : {message : Message} {messages : List Message} → AreSayable (message ∷ messages) → IsOneFrame (canonical message)
first_frame (more_sayable one others) = one.one

from_more : (side : Side) (ready : Bool) (said : List Message) (message : Message) → AreFrom side ready said → is_from side (ready_behind side ready (bodies said)) message.body ≡ true → AreFrom side ready (said ++ message ∷ [])
from_more side ready [] message all one = (one, tt)
from_more side ready (m ∷ said) message all one = (all.0, from_more side (ready_after side ready m.body) said message all.1 one)

behind_more : (side : Side) (ready : Bool) (said : List Message) (message : Message) → ready_behind side ready (bodies said) ≡ true → ready_behind side ready (bodies (said ++ message ∷ [])) ≡ true
behind_more side ready [] message is = after_more side ready message.body is
behind_more side ready (m ∷ said) message is = behind_more side (ready_after side ready m.body) said message is

-- a message is sent on a link that stands, or to an end at which nothing waits
whole_more : {Taint : Type 0} {side : Side} {ready free stands : Bool} {waiting bytes : List ℕ} → SaysAlone → (message : Message) → IsFit message → (said : List Message) → is_from side (ready_behind side ready (bodies said)) message.body ≡ true → AreFit said → AreFrom side ready said
    → (free ≡ true → stands ≡ true → ready_behind side ready (bodies said) ≡ true) → Flows waiting bytes (texts_of said) → Clear Taint side ready free stands waiting (bytes ++ canonical message)
whole_more {side = side} {ready = ready} {waiting = waiting} {bytes = bytes} alone message fit said from good all then flows =
    clear_whole (said ++ message ∷ []) (both_fit good (more_fit fit none_fit)) (from_more side ready said message all from) (λ free on. behind_more side ready said message (then free on))
    (sends_a_message waiting bytes said message (first_frame (alone.sayable (message ∷ []) (more_fit fit none_fit))) flows)

clear_more : {Taint : Type 0} {side : Side} {ready free stands : Bool} {waiting bytes : List ℕ} → SaysAlone → (message : Message) → IsFit message → is_from side free message.body ≡ true → stands ≡ true → Clear Taint side ready free stands waiting bytes → Clear Taint side ready free stands waiting (bytes ++ canonical message)
clear_more {side = side} {ready = ready} {free = free} alone message fit from on (clear_whole said good all then flows) =
    whole_more alone message fit said (from_freely side free (ready_behind side ready (bodies said)) message.body (λ is. then is on) from) good all then flows
clear_more {waiting = waiting} {bytes = bytes} alone message fit from on (clear_spoiled taint spoiled) = clear_spoiled taint (nul_stays waiting bytes (canonical message) spoiled)
clear_more alone message fit from on (clear_over off none) = absurd (false≢true (sym off ∙ on))

clear_answer : {Taint : Type 0} {side : Side} {ready free stands : Bool} {waiting bytes : List ℕ} → SaysAlone → (message : Message) → IsFit message → ((b : Bool) → is_from side b message.body ≡ true) → waiting ≡ [] → Clear Taint side ready free stands waiting bytes → Clear Taint side ready free stands waiting (bytes ++ canonical message)
clear_answer {side = side} {ready = ready} alone message fit from none (clear_whole said good all then flows) = whole_more alone message fit said (from (ready_behind side ready (bodies said))) good all then flows
clear_answer {waiting = waiting} {bytes = bytes} alone message fit from none (clear_spoiled taint spoiled) = clear_spoiled taint (nul_stays waiting bytes (canonical message) spoiled)
clear_answer {side = side} {ready = ready} {waiting = waiting} {bytes = bytes} alone message fit from none (clear_over off nothing) =
    whole_more alone message fit [] (from ready) none_fit tt (λ free on. absurd (false≢true (sym off ∙ on))) (subst (λ (w : List ℕ). Flows w bytes []) (sym none) (subst (λ (b : List ℕ). Flows [] b []) (sym nothing) nothing_flows))

pub clear_off : {Taint : Type 0} {side : Side} {ready free stands : Bool} {waiting bytes : List ℕ} → Clear Taint side ready free stands waiting bytes → Clear Taint side ready free false waiting bytes
clear_off (clear_whole said good all then flows) = clear_whole said good all (λ free on. absurd (false≢true on)) flows
clear_off (clear_spoiled taint spoiled) = clear_spoiled taint spoiled
clear_off (clear_over off none) = clear_over refl none

empty_behind : (front back : List ℕ) → front ++ back ≡ [] → back ≡ []
empty_behind [] back is = is
empty_behind (byte ∷ front) back is = absurd (cc)

-- bytes arrive
pub clear_arrives : {Taint : Type 0} {side : Side} {ready free stands : Bool} {waiting bytes : List ℕ} (piece later : List ℕ) → bytes ≡ piece ++ later → Clear Taint side ready free stands waiting bytes → Clear Taint side ready free stands (waiting ++ piece) later
clear_arrives {waiting = waiting} piece later is (clear_whole said good all then flows) = clear_whole said good all then (arrives waiting piece later (subst (λ (b : List ℕ). Flows waiting b (texts_of said)) is flows))
clear_arrives {waiting = waiting} piece later is (clear_spoiled taint spoiled) = clear_spoiled taint (nul_arrives waiting piece later (subst (λ (b : List ℕ). Spoiled waiting b) is spoiled))
clear_arrives piece later is (clear_over off none) = clear_over off (empty_behind piece later (sym is ∙ none))

-- nothing waits and nothing comes
pub clear_none : {Taint : Type 0} {side : Side} {ready free stands : Bool} {waiting bytes : List ℕ} → free ≡ false → waiting ≡ [] → bytes ≡ [] → Clear Taint side ready free stands waiting bytes
clear_none {waiting = waiting} {bytes = bytes} bound none nothing = clear_whole [] none_fit tt (λ free on. absurd (false≢true (sym bound ∙ free))) (subst (λ (w : List ℕ). Flows w bytes []) (sym none) (subst (λ (b : List ℕ). Flows [] b []) (sym nothing) nothing_flows))

clear_map : {Taint Other : Type 0} {side : Side} {ready free stands : Bool} {waiting bytes : List ℕ} → (Taint → Other) → Clear Taint side ready free stands waiting bytes → Clear Other side ready free stands waiting bytes
clear_map more (clear_whole said good all then flows) = clear_whole said good all then flows
clear_map more (clear_spoiled taint spoiled) = clear_spoiled (more taint) spoiled
clear_map more (clear_over off none) = clear_over off none

-- a side comes to be ready, and nobody is free to tell it of boards
pub clear_ready : {Taint : Type 0} {side : Side} {ready free stands : Bool} {waiting bytes : List ℕ} (now : Bool) → (ready ≡ true → now ≡ true) → Clear Taint side ready free stands waiting bytes → Clear Taint side now false stands waiting bytes
clear_ready {side = side} {ready = ready} now more (clear_whole said good all then flows) = clear_whole said good (from_ready side ready now (bodies said) more all) (λ free on. absurd (false≢true free)) flows
clear_ready now more (clear_spoiled taint spoiled) = clear_spoiled taint spoiled
clear_ready now more (clear_over off none) = clear_over off none

-- ---- a link

-- at whose two sides these bytes wait
pub record IsClear (Up Down : Type 0) (ready free : Side → Bool) (exit entry : List ℕ) (link : LinkParts) : Type 0 where
  pub up : Clear Up Exit (ready Exit) (free Exit) link.stands exit (coming link.flows.to_upstream)
  pub down : Clear Down Entry (ready Entry) (free Entry) link.stands entry (coming link.flows.to_downstream)

pub clear_no_link : {Up Down : Type 0} {ready free : Side → Bool} {exit entry : List ℕ} → IsClear Up Down ready free exit entry no_link
clear_no_link = record { up = clear_over refl refl; down = clear_over refl refl }

pub clear_cut : {Up Down : Type 0} {ready free : Side → Bool} {exit entry : List ℕ} (link : LinkParts) → IsClear Up Down ready free exit entry (cut link)
clear_cut link = record { up = clear_over refl refl; down = clear_over refl refl }

clear_if : {Up Down : Type 0} {ready free : Side → Bool} {exit entry : List ℕ} (test : Bool) (link : LinkParts) → IsClear Up Down ready free exit entry link → IsClear Up Down ready free exit entry (cond test (cut link) link)
clear_if true link k = clear_cut link
clear_if false link k = k

pub clear_limit : {Up Down : Type 0} {ready free : Side → Bool} {exit entry : List ℕ} (to : Role) (link : LinkParts) → IsClear Up Down ready free exit entry link → IsClear Up Down ready free exit entry (within_limit to link)
clear_limit to link k = clear_if (is_too_much to link) link k

-- a text goes to an end
to_exit : {Up Down : Type 0} {ready free : Side → Bool} {exit entry : List ℕ} (text : List ℕ) (link : LinkParts) → IsWholeLink link → (Clear Up Exit (ready Exit) (free Exit) link.stands exit (coming link.flows.to_upstream) → Clear Up Exit (ready Exit) (free Exit) link.stands exit (coming link.flows.to_upstream ++ text))
    → IsClear Up Down ready free exit entry link → IsClear Up Down ready free exit entry (texted Upstream text link)
to_exit {Up} {ready = ready} {free = free} {exit = exit} text link whole more k = record {
  up = subst (λ (b : List ℕ). Clear Up Exit (ready Exit) (free Exit) link.stands exit b) (sym (coming_of_text text link.flows.to_upstream whole.begun.upstream)) (more k.up);
  down = k.down;
}

to_entry : {Up Down : Type 0} {ready free : Side → Bool} {exit entry : List ℕ} (text : List ℕ) (link : LinkParts) → IsWholeLink link → (Clear Down Entry (ready Entry) (free Entry) link.stands entry (coming link.flows.to_downstream) → Clear Down Entry (ready Entry) (free Entry) link.stands entry (coming link.flows.to_downstream ++ text))
    → IsClear Up Down ready free exit entry link → IsClear Up Down ready free exit entry (texted Downstream text link)
to_entry {Down = Down} {ready = ready} {free = free} {entry = entry} text link whole more k = record {
  up = k.up;
  down = subst (λ (b : List ℕ). Clear Down Entry (ready Entry) (free Entry) link.stands entry b) (sym (coming_of_text text link.flows.to_downstream whole.begun.downstream)) (more k.down);
}

-- a machine sends a message at a side
clear_said : {Up Down : Type 0} {ready free : Side → Bool} {exit entry : List ℕ} → SaysAlone → (may : Leave) (side : Side) (message : Message) (link : LinkParts) → IsFit message → is_mild may (acts.Sends side message) ≡ true → (may.frees side ≡ true → free (other side) ≡ true) → IsWholeLink link
    → link.stands ≡ true → IsClear Up Down ready free exit entry link → IsClear Up Down ready free exit entry (texted (across (end_of side)) (canonical message) link)
clear_said {free = free} alone may Entry message link fit from then whole on k = to_exit (canonical message) link whole (clear_more alone message fit (from_freely Exit (may.frees Entry) (free Exit) message.body then from) on) k
clear_said {free = free} alone may Exit message link fit from then whole on k = to_entry (canonical message) link whole (clear_more alone message fit (from_freely Entry (may.frees Exit) (free Entry) message.body then from) on) k

clear_send : {Up Down : Type 0} {ready free : Side → Bool} {exit entry : List ℕ} → SaysAlone → (may : Leave) (side : Side) (message : Message) (link : LinkParts) → IsFit message → is_mild may (acts.Sends side message) ≡ true → (may.frees side ≡ true → free (other side) ≡ true) → IsWholeLink link
    → IsClear Up Down ready free exit entry link → IsClear Up Down ready free exit entry (after_send (end_of side) (canonical message) link)
clear_send {Up} {Down} {ready} {free} {exit} {entry} alone may side message link fit from then whole k = by link.stands refl
  where
    by : (test : Bool) → link.stands ≡ test → IsClear Up Down ready free exit entry (cond test (within_limit (across (end_of side)) (texted (across (end_of side)) (canonical message) link)) link)
    by true on = clear_limit (across (end_of side)) (texted (across (end_of side)) (canonical message) link) (clear_said alone may side message link fit from then whole on k)
    by false off = k

-- the upstream end answers a second connection
clear_answered : {Up Down : Type 0} {ready free : Side → Bool} {exit entry : List ℕ} → SaysAlone → (message : Message) (link : LinkParts) → IsFit message → ((b : Bool) → is_from Entry b message.body ≡ true) → entry ≡ [] → IsWholeLink link
    → IsClear Up Down ready free exit entry link → IsClear Up Down ready free exit entry (after_answer (canonical message) link)
clear_answered {Up} {Down} {ready} {free} {exit} {entry} alone message link fit from none whole k = by link.downstream
  where
    by : (number : Option ℕ) → IsClear Up Down ready free exit entry (answered_by number (canonical message) link)
    by None = k
    by (Some number) = clear_limit Downstream (texted Downstream (canonical message) link) (to_entry (canonical message) link whole (clear_answer alone message fit from none) k)

clear_closed : {Up Down : Type 0} {ready free : Side → Bool} {exit entry : List ℕ} (side : Side) (link : LinkParts) → IsClear Up Down ready free exit entry link → IsClear Up Down ready free exit entry (after_close (end_of side) link)
clear_closed Exit link k = record { up = clear_over refl refl; down = clear_off k.down }
clear_closed Entry link k = record { up = clear_off k.up; down = clear_over refl refl }

-- what flows to an end is spoiled
pub clear_nulled_up : {Up Down : Type 0} {ready free : Side → Bool} {exit entry : List ℕ} (link : LinkParts) → Up → answer_of exit ≡ NeedMore → IsWholeLink link → IsClear Up Down ready free exit entry link → IsClear Up Down ready free exit entry (nulled Upstream link)
clear_nulled_up {exit = exit} link taint needs whole k = record {
  up = clear_spoiled taint (subst (λ (b : List ℕ). Spoiled exit b) (sym (coming_of_nul link.flows.to_upstream whole.begun.upstream)) (puts_a_nul exit (coming link.flows.to_upstream) needs));
  down = k.down;
}

pub clear_nulled_down : {Up Down : Type 0} {ready free : Side → Bool} {exit entry : List ℕ} (link : LinkParts) → Down → answer_of entry ≡ NeedMore → IsWholeLink link → IsClear Up Down ready free exit entry link → IsClear Up Down ready free exit entry (nulled Downstream link)
clear_nulled_down {entry = entry} link taint needs whole k = record {
  up = k.up;
  down = clear_spoiled taint (subst (λ (b : List ℕ). Spoiled entry b) (sym (coming_of_nul link.flows.to_downstream whole.begun.downstream)) (puts_a_nul entry (coming link.flows.to_downstream) needs));
}

-- ---- the links of a world, by their number: what was spoiled on each, to its side, and the bytes that wait there

-- nobody is free to tell of boards
abbrev pub none_free : ℕ → Side → Bool
none_free link side = false

pub record AreClear (Taint : ℕ → Side → Type 0) (ready free : ℕ → Side → Bool) (exits entries : ℕ → List ℕ) (world : WorldParts) : Type 0 where
  pub at : (link : ℕ) → IsClear (Taint link Exit) (Taint link Entry) (ready link) (free link) (exits link) (entries link) (link_at link world)

pub are_clear_map : {Taint Other : ℕ → Side → Type 0} {ready free : ℕ → Side → Bool} {exits entries : ℕ → List ℕ} (world : WorldParts) → ((link : ℕ) (side : Side) → Taint link side → Other link side) → AreClear Taint ready free exits entries world → AreClear Other ready free exits entries world
are_clear_map world more all = record { at = λ link. record { up = clear_map (more link Exit) (all.at link).up; down = clear_map (more link Entry) (all.at link).down } }

pub are_clear_by : {Taint : ℕ → Side → Type 0} {ready free : ℕ → Side → Bool} {exits entries exits2 entries2 : ℕ → List ℕ} (world : WorldParts) → ((link : ℕ) → exits2 link ≡ exits link) → ((link : ℕ) → entries2 link ≡ entries link) → AreClear Taint ready free exits entries world → AreClear Taint ready free exits2 entries2 world
are_clear_by {Taint} {ready} {free} {exits} {entries} {exits2} {entries2} world out into all = record {
  at = λ link. subst (λ (w : List ℕ). IsClear (Taint link Exit) (Taint link Entry) (ready link) (free link) w (entries2 link) (link_at link world)) (sym (out link))
      (subst (λ (w : List ℕ). IsClear (Taint link Exit) (Taint link Entry) (ready link) (free link) (exits link) w (link_at link world)) (sym (into link)) (all.at link));
}

-- one of them changes, and the bytes at its sides
pub are_clear_set : {Taint : ℕ → Side → Type 0} {ready free : ℕ → Side → Bool} {exits entries exits2 entries2 : ℕ → List ℕ} (link : ℕ) (parts : LinkParts) (world : WorldParts) → ((k : ℕ) → k ≢ link → exits2 k ≡ exits k) → ((k : ℕ) → k ≢ link → entries2 k ≡ entries k)
    → AreClear Taint ready free exits entries world → IsClear (Taint link Exit) (Taint link Entry) (ready link) (free link) (exits2 link) (entries2 link) parts → AreClear Taint ready free exits2 entries2 (with_link link parts world)
are_clear_set {Taint} {ready} {free} {exits} {entries} {exits2} {entries2} link parts world out into all here = record {
  at = λ k. link_keeps (At k) clear_no_link k link parts world (λ is. subst (λ (n : ℕ). At n parts) (sym is) here)
      (λ apart. subst (λ (w : List ℕ). IsClear (Taint k Exit) (Taint k Entry) (ready k) (free k) w (entries2 k) (link_at k world)) (sym (out k apart))
      (subst (λ (w : List ℕ). IsClear (Taint k Exit) (Taint k Entry) (ready k) (free k) (exits k) w (link_at k world)) (sym (into k apart)) (all.at k)));
}
  where
    At : ℕ → LinkParts → Type 0
    At k parts = IsClear (Taint k Exit) (Taint k Entry) (ready k) (free k) (exits2 k) (entries2 k) parts

-- one is connected anew: nobody may tell there of boards, and sides may come to be ready
pub are_clear_begin : {Taint : ℕ → Side → Type 0} {ready free : ℕ → Side → Bool} {exits entries exits2 entries2 : ℕ → List ℕ} (now : ℕ → Side → Bool) (link : ℕ) (parts : LinkParts) (world : WorldParts) → ((k : ℕ) → k ≢ link → exits2 k ≡ exits k) → ((k : ℕ) → k ≢ link → entries2 k ≡ entries k)
    → ((k : ℕ) → k ≢ link → (side : Side) → ready k side ≡ true → now k side ≡ true) → AreClear Taint ready free exits entries world → IsClear (Taint link Exit) (Taint link Entry) (now link) (none_free link) (exits2 link) (entries2 link) parts
    → AreClear Taint now none_free exits2 entries2 (with_link link parts world)
are_clear_begin {Taint} {ready} {free} {exits} {entries} {exits2} {entries2} now link parts world out into more all here = record {
  at = λ k. link_keeps (At k) clear_no_link k link parts world (λ is. subst (λ (n : ℕ). At n parts) (sym is) here)
      (λ apart. subst (λ (w : List ℕ). IsClear (Taint k Exit) (Taint k Entry) (now k) (none_free k) w (entries2 k) (link_at k world)) (sym (out k apart))
      (subst (λ (w : List ℕ). IsClear (Taint k Exit) (Taint k Entry) (now k) (none_free k) (exits k) w (link_at k world)) (sym (into k apart)) (there k apart)));
}
  where
    At : ℕ → LinkParts → Type 0
    At k parts = IsClear (Taint k Exit) (Taint k Entry) (now k) (none_free k) (exits2 k) (entries2 k) parts

    there : (k : ℕ) → k ≢ link → IsClear (Taint k Exit) (Taint k Entry) (now k) (none_free k) (exits k) (entries k) (link_at k world)
    there k apart = record { up = clear_ready (now k Exit) (more k apart Exit) (all.at k).up; down = clear_ready (now k Entry) (more k apart Entry) (all.at k).down }

-- or the bytes at its sides alone
pub are_clear_fix : {Taint : ℕ → Side → Type 0} {ready free : ℕ → Side → Bool} {exits entries exits2 entries2 : ℕ → List ℕ} (link : ℕ) (world : WorldParts) → ((k : ℕ) → k ≢ link → exits2 k ≡ exits k) → ((k : ℕ) → k ≢ link → entries2 k ≡ entries k)
    → AreClear Taint ready free exits entries world → IsClear (Taint link Exit) (Taint link Entry) (ready link) (free link) (exits2 link) (entries2 link) (link_at link world) → AreClear Taint ready free exits2 entries2 world
are_clear_fix {Taint} {ready} {free} {exits} {entries} {exits2} {entries2} link world out into all here = record { at = λ k. by k (same_or_not k link) }
  where
    by : (k : ℕ) → (k ≡ link) ⊎ (k ≢ link) → IsClear (Taint k Exit) (Taint k Entry) (ready k) (free k) (exits2 k) (entries2 k) (link_at k world)
    by k (inl is) = subst (λ (n : ℕ). IsClear (Taint n Exit) (Taint n Entry) (ready n) (free n) (exits2 n) (entries2 n) (link_at n world)) (sym is) here
    by k (inr apart) =
        subst (λ (w : List ℕ). IsClear (Taint k Exit) (Taint k Entry) (ready k) (free k) w (entries2 k) (link_at k world)) (sym (out k apart))
        (subst (λ (w : List ℕ). IsClear (Taint k Exit) (Taint k Entry) (ready k) (free k) (exits k) w (link_at k world)) (sym (into k apart)) (all.at k))

pub are_clear_with : {Taint : ℕ → Side → Type 0} {ready free : ℕ → Side → Bool} {exits entries : ℕ → List ℕ} (link : ℕ) (parts : LinkParts) (world : WorldParts) → AreClear Taint ready free exits entries world → IsClear (Taint link Exit) (Taint link Entry) (ready link) (free link) (exits link) (entries link) parts
    → AreClear Taint ready free exits entries (with_link link parts world)
are_clear_with link parts world all here = are_clear_set link parts world (λ k apart. refl) (λ k apart. refl) all here

-- sides come to be ready
pub are_clear_ready : {Taint : ℕ → Side → Type 0} {ready free : ℕ → Side → Bool} {exits entries : ℕ → List ℕ} (now : ℕ → Side → Bool) (world : WorldParts) → ((link : ℕ) (side : Side) → ready link side ≡ true → now link side ≡ true) → AreClear Taint ready free exits entries world
    → AreClear Taint now none_free exits entries world
are_clear_ready now world more all = record { at = λ link. record { up = clear_ready (now link Exit) (more link Exit) (all.at link).up; down = clear_ready (now link Entry) (more link Entry) (all.at link).down } }

-- ---- acts

sent_clear : {Taint : ℕ → Side → Type 0} {ready free : ℕ → Side → Bool} {exits entries : ℕ → List ℕ} → SaysAlone → (may : Leave) (test : Bool) (machine : ℕ) (side : Side) (message : Message) (world : WorldParts) → IsFit message → is_mild may (acts.Sends side message) ≡ true
    → (may.frees side ≡ true → free (link_of machine side) (other side) ≡ true) → (test ≡ true → ((b : Bool) → is_from Entry b message.body ≡ true) × (entries machine ≡ [])) → AreWhole world → AreClear Taint ready free exits entries world → AreClear Taint ready free exits entries (sent_by test machine side message world).world
sent_clear alone may true machine side message world fit from frees then whole all =
    are_clear_with machine (after_answer (canonical message) (link_at machine world)) world all (clear_answered alone message (link_at machine world) fit (then refl).0 (then refl).1 (whole machine) (all.at machine))
sent_clear alone may false machine side message world fit from frees then whole all =
    are_clear_with (link_of machine side) (after_send (end_of side) (canonical message) (link_at (link_of machine side) world)) world all
    (clear_send alone may side message (link_at (link_of machine side) world) fit from frees (whole (link_of machine side)) (all.at (link_of machine side)))

closed_clear : {Taint : ℕ → Side → Type 0} {ready free : ℕ → Side → Bool} {exits entries : ℕ → List ℕ} (machine : ℕ) (side : Side) (world : WorldParts) → AreClear Taint ready free exits entries world
    → AreClear Taint ready free exits entries (with_link (link_of machine side) (after_close (end_of side) (link_at (link_of machine side) world)) world)
closed_clear machine side world all = are_clear_with (link_of machine side) (after_close (end_of side) (link_at (link_of machine side) world)) world all (clear_closed side (link_at (link_of machine side) world) (all.at (link_of machine side)))

counted_clear : {Taint : ℕ → Side → Type 0} {ready free : ℕ → Side → Bool} {exits entries : ℕ → List ℕ} (deed : Deed) (world : WorldParts) → AreClear Taint ready free exits entries world → AreClear Taint ready free exits entries (counted deed world)
counted_clear (deeds.Opens id) world all = record { at = all.at }
counted_clear _ world all = record { at = all.at }

-- the answer to a second connection may come at any time
answer_from : (what : Horizontal) → is_answer what ≡ true → (b : Bool) → is_from Entry b what ≡ true
answer_from (message.Notification code severity text) is b = refl
answer_from _ is b = absurd (false≢true is)

act_clear : {Taint : ℕ → Side → Type 0} {ready free : ℕ → Side → Bool} {exits entries : ℕ → List ℕ} → SaysAlone → (may : Leave) (second : Bool) (machine : ℕ) (act : Act) (world : WorldParts) → IsFitAct act → is_mild may act ≡ true → ((side : Side) → may.frees side ≡ true → free (link_of machine side) (other side) ≡ true) → (second ≡ true → entries machine ≡ [])
    → AreWhole world → AreClear Taint ready free exits entries world → AreClear Taint ready free exits entries (act_did second machine act world).world
act_clear alone may second machine (acts.Sends side message) world fit from frees empty whole all =
    sent_clear alone may (answers second side message) machine side message world fit from (frees side)
    (λ is. (answer_from message.body (and_parts (is_exit side) (is_answer message.body) (and_parts second (is_exit side && is_answer message.body) is).1).1, empty (and_parts second (is_exit side && is_answer message.body) is).0)) whole all
act_clear alone may second machine (acts.Closes side) world fit from frees empty whole all = closed_clear machine side world all
act_clear alone may second machine (acts.Notices side) world fit from frees empty whole all = closed_clear machine side world all
act_clear alone may second machine (acts.Deed deed) world fit from frees empty whole all = counted_clear deed world all
act_clear alone may second machine act world fit from frees empty whole all = record { at = all.at }

pub acts_clear : {Taint : ℕ → Side → Type 0} {ready free : ℕ → Side → Bool} {exits entries : ℕ → List ℕ} → SaysAlone → (may : Leave) (second : Bool) (machine : ℕ) (told : List Act) (world : WorldParts) → AreFitActs told → are_mild may told ≡ true → ((side : Side) → may.frees side ≡ true → free (link_of machine side) (other side) ≡ true) → (second ≡ true → entries machine ≡ [])
    → AreWhole world → AreClear Taint ready free exits entries world → AreClear Taint ready free exits entries (acts_did second machine told world).world
acts_clear alone may second machine [] world none_said from frees empty whole all = all
acts_clear alone may second machine (act ∷ others) world (more_said fit more) from frees empty whole all =
    acts_clear alone may second machine others (act_did second machine act world).world more (and_parts (is_mild may act) (are_mild may others) from).1 frees empty
    (whole_act second machine act world whole) (act_clear alone may second machine act world fit (and_parts (is_mild may act) (are_mild may others) from).0 frees empty whole all)
