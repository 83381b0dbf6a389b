-- ACTS AT ONE SIDE of a machine, and the connections of the link there: what they carry goes along with the messages of the
-- machine's scene.
use Rattle.std.proofs.Common.{Bool, List, [], ap, append_assoc, false, map, refl, subst, suc, sym, true, ℕ, ◌++◌, ◌∙◌, ◌∷◌, ◌≡◌}
use Rattle.std.specs.Prelude.{drop}
use Rattle.std.proofs.lemmas.Bool.{false≢true}
use Rattle.std.specs.List.{AllByRecursion, list_any}
use Rattle.line_base.specs.declared.states.Side.{Side}
use Rattle.line_base.specs.declared.states.Side.TheVariants.{Entry, Exit}
use Rattle.hermes_horizontal.specs.Canonical.{canonical}
use Rattle.hermes_horizontal.specs.declared.message.Horizontal.{Horizontal}
use Rattle.hermes_horizontal.specs.declared.message.Message.{Message}
use Rattle.node_core.specs.declared.act.Act.{Act}
use Rattle.node_core.specs.declared.act.Act.TheVariants as acts
use Rattle.law_custody.specs.Bytes.{Flows, texts_of}
use Rattle.law_custody.specs.Talks.{IsCall, call_awaited, call_described}
use Rattle.law_custody.specs.Words.{DownstreamService, UpWord, down_words, sent, up_words}
use Rattle.law_custody.proofs.Lists.{down_words-append, up_words-append}
use Rattle.law_custody.proofs.Messages.{sends_a_message}
use Rattle.law_link_messages.specs.Fit.{AreFitActs, IsFit, IsFitAct, more_fit, more_said, none_fit, none_said, sent_on}
use Rattle.law_link_messages.specs.Heard.{bodies}
use Rattle.law_link_messages.proofs.Fitting.{both_fit}
use Rattle.law_machine_custody.specs.Scene.{Scene, all_met, met}
use Rattle.step_rules.specs.Opened.{open_act, open_after}
use Rattle.law_one_standing.proofs.Carrying.{SaysAlone, bodies_append, first_frame}
use Rattle.law_one_standing.proofs.CarryingSides.{heard_by, heard_in, drop_one}
use Rattle.law_running_line.specs.Stands.{Carries}
use Rattle.law_running_line.specs.Waits.{AtMostOne, Says}
use Rattle.law_running_line.specs.Wire.{Awaits, Coming, Has, Hold, Left, Wire, bytes_of, coming_to, end_at, end_beyond, has, left, said, text_behind}
use Rattle.law_running_line.proofs.WiresParts.{Of, all_as, all_mapped, awaits_has, both_have, bytes_both, far_has, far_held, going_from, gone_of, has_awaits, held_far, held_own, joined_by, left_awaits, left_far, left_has, left_held, left_joins_none, left_own, most_mapped, own_has, own_held, said_of, said_test, text_bytes}
use Rattle.law_running_line.proofs.TurnJoined.{any_map, none_map}
use Rattle.law_running_line.proofs.TurnLinks.{any_weaker}

-- ---- a text goes on its way

pub flows_said : SaysAlone → (waiting : List ℕ) (from : List Coming) (n : ℕ) (said : List Message) (message : Message) → IsFit message → Flows waiting (bytes_of from) (texts_of said)
    → Flows waiting (bytes_of (from ++ text_behind n (canonical message))) (texts_of (said ++ message ∷ []))
flows_said alone waiting from n said message fit flows =
    let text : List Coming = text_behind n (canonical message) in
    let bytes : bytes_of (from ++ text) ≡ bytes_of from ++ canonical message = bytes_both from text ∙ ap (λ (b : List ℕ). bytes_of from ++ b) (text_bytes n (canonical message)) in
    subst (λ (b : List ℕ). Flows waiting b (texts_of (said ++ message ∷ []))) (sym bytes)
    (sends_a_message waiting (bytes_of from) said message (first_frame message [] (alone.sayable (message ∷ []) (more_fit fit none_fit))) flows)

pub carries_said : SaysAlone → {waiting : List ℕ} {from : List Coming} {messages : List Horizontal} (n : ℕ) (message : Message) → IsFit message → Carries waiting from messages
    → Carries waiting (from ++ text_behind n (canonical message)) (messages ++ message.body ∷ [])
carries_said alone {waiting} {from} {messages} n message fit k = record {
  said = k.said ++ message ∷ [];
  fit = both_fit k.fit (more_fit fit none_fit);
  flows = flows_said alone waiting from n k.said message fit k.flows;
  are = ap (λ (ms : List Horizontal). ms ++ message.body ∷ []) k.are ∙ sym (bodies_append k.said message);
}

pub says_more : SaysAlone → {from : List Coming} {said : List Message} (n : ℕ) (message : Message) → IsFit message → Says from said → Says (from ++ text_behind n (canonical message)) (said ++ message ∷ [])
says_more alone {from} {said} n message fit k = record { fit = both_fit k.fit (more_fit fit none_fit); flows = flows_said alone [] from n said message fit k.flows }

-- ---- what flows to a machine, before some acts of its: what it carries once they have been done, or the side closes in them

pub data Home (side : Side) (rest : List Act) (new : List ℕ) (to : List Coming) (messages : List Horizontal) : Type 0 where
  home_hears : Carries new to (drop (heard_in side rest) messages) → Home side rest new to messages
  home_closes : open_after side true rest ≡ false → Home side rest new to messages

pub home_on : {new : List ℕ} {to : List Coming} {messages : List Horizontal} (side : Side) (act : Act) (rest : List Act) → heard_by side act (heard_in side rest) ≡ heard_in side rest → open_act side true act ≡ true
    → Home side (act ∷ rest) new to messages → Home side rest new to messages
home_on {new = new} {to = to} {messages = messages} side act rest quiet still (home_hears k) = home_hears (subst (λ (n : ℕ). Carries new to (drop n messages)) quiet k)
home_on side act rest quiet still (home_closes closes) = home_closes (sym (ap (λ (o : Bool). open_after side o rest) still) ∙ closes)

home_heard : {new : List ℕ} {to : List Coming} {messages : List Horizontal} (side : Side) (act : Act) (rest : List Act) → heard_by side act (heard_in side rest) ≡ suc (heard_in side rest) → open_act side true act ≡ true
    → Home side (act ∷ rest) new to messages → Home side rest new to (drop 1 messages)
home_heard {new = new} {to = to} {messages = messages} side act rest one still (home_hears k) =
    home_hears (subst (λ (ms : List Horizontal). Carries new to ms) (ap (λ (n : ℕ). drop n messages) one ∙ drop_one (heard_in side rest) messages) k)
home_heard side act rest one still (home_closes closes) = home_closes (sym (ap (λ (o : Bool). open_after side o rest) still) ∙ closes)

-- ---- what a side says on a connection that its other end awaits

-- so much was said, and these acts are to come: an exit says nothing of boards, an entry comes to have described itself alone
abbrev pub MaySay : Side → Hold → List Horizontal → List Act → Type 0
MaySay Exit Has said rest = down_words (said ++ bodies (sent_on Exit rest)) ≡ []
MaySay Exit Awaits said rest = down_words said ≡ []
MaySay Exit Left said rest = down_words said ≡ []
MaySay Entry Has said rest = up_words (said ++ bodies (sent_on Entry rest)) ≡ DownstreamService ∷ []
MaySay Entry Awaits said rest = said ≡ []
MaySay Entry Left said rest = IsCall (up_words said)

pub record IsLone (side : Side) (rest : List Act) (own : Hold) (to from : List Coming) : Type 0 where
  pub said : List Message
  pub says : Says from said
  pub may : MaySay side own (bodies said) rest
  pub none : to ≡ []

may_on : (side : Side) (own : Hold) (said : List Horizontal) (before rest : List Act) → sent_on side before ≡ sent_on side rest → MaySay side own said before → MaySay side own said rest
may_on Exit Has said before rest same may = subst (λ (ms : List Message). down_words (said ++ bodies ms) ≡ []) same may
may_on Exit Awaits said before rest same may = may
may_on Exit Left said before rest same may = may
may_on Entry Has said before rest same may = subst (λ (ms : List Message). up_words (said ++ bodies ms) ≡ DownstreamService ∷ []) same may
may_on Entry Awaits said before rest same may = may
may_on Entry Left said before rest same may = may

lone_on : {own : Hold} {to from : List Coming} (side : Side) (before rest : List Act) → sent_on side before ≡ sent_on side rest → IsLone side before own to from → IsLone side rest own to from
lone_on {own = own} side before rest same k = record { said = k.said; says = k.says; may = may_on side own (bodies k.said) before rest same k.may; none = k.none }

-- an end that hasn't the connection says nothing on it
may_aside : (side : Side) (own : Hold) (said : List Horizontal) (before rest : List Act) → (own ≡ Has → ⊥) → MaySay side own said before → MaySay side own said rest
may_aside Exit Has said before rest not may = absurd (not refl)
may_aside Entry Has said before rest not may = absurd (not refl)
may_aside Exit Awaits said before rest not may = may
may_aside Exit Left said before rest not may = may
may_aside Entry Awaits said before rest not may = may
may_aside Entry Left said before rest not may = may

lone_aside : {own : Hold} {to from : List Coming} (side : Side) (before rest : List Act) → (own ≡ Has → ⊥) → IsLone side before own to from → IsLone side rest own to from
lone_aside {own = own} side before rest not k = record { said = k.said; says = k.says; may = may_aside side own (bodies k.said) before rest not k.may; none = k.none }

said_then : (said others : List Horizontal) (what : Horizontal) → (said ++ what ∷ []) ++ others ≡ said ++ what ∷ others
said_then said others what = append_assoc said (what ∷ []) others

may_say : (side : Side) (own : Hold) (said : List Horizontal) (message : Message) (rest : List Act) → own ≡ Has → MaySay side own said (acts.Sends side message ∷ rest) → MaySay side own (said ++ message.body ∷ []) rest
may_say Exit Has said message rest is may = ap down_words (said_then said (bodies (sent_on Exit rest)) message.body) ∙ may
may_say Entry Has said message rest is may = ap up_words (said_then said (bodies (sent_on Entry rest)) message.body) ∙ may
may_say Exit Awaits said message rest is may = absurd (awaits_has is)
may_say Exit Left said message rest is may = absurd (left_has is)
may_say Entry Awaits said message rest is may = absurd (awaits_has is)
may_say Entry Left said message rest is may = absurd (left_has is)

lone_says : SaysAlone → {own : Hold} {to from : List Coming} (side : Side) (n : ℕ) (message : Message) (rest : List Act) → IsFit message → own ≡ Has → IsLone side (acts.Sends side message ∷ rest) own to from
    → IsLone side rest own to (from ++ text_behind n (canonical message))
lone_says alone {own} side n message rest fit is k = record {
  said = k.said ++ message ∷ [];
  says = says_more alone n message fit k.says;
  may = subst (λ (bs : List Horizontal). MaySay side own bs rest) (sym (bodies_append k.said message)) (may_say side own (bodies k.said) message rest is k.may);
  none = k.none;
}

-- a front of one word is it or nothing
first_word : (w : UpWord) (vs : List UpWord) → w ∷ vs ≡ DownstreamService ∷ [] → w ≡ DownstreamService
first_word w vs is = cc

no_second : (w v : UpWord) (vs : List UpWord) → w ∷ (v ∷ vs) ≡ DownstreamService ∷ [] → ⊥
no_second w v vs is = cc

front_call : (ws vs : List UpWord) → ws ++ vs ≡ DownstreamService ∷ [] → IsCall ws
front_call [] vs is = call_awaited
front_call (w ∷ []) vs is = subst (λ (u : UpWord). IsCall (u ∷ [])) (sym (first_word w vs is)) call_described
front_call (w ∷ (v ∷ ws)) vs is = absurd (no_second w v (ws ++ vs) is)

front_none : {A : Type 0} (ws vs : List A) → ws ++ vs ≡ [] → ws ≡ []
front_none [] vs is = refl
front_none (w ∷ ws) vs is = absurd (cc)

may_leave : (side : Side) (own : Hold) (said : List Horizontal) (before rest : List Act) → own ≡ Has → MaySay side own said before → MaySay side Left said rest
may_leave Exit Has said before rest is may = front_none (down_words said) (down_words (bodies (sent_on Exit before))) (sym (down_words-append said (bodies (sent_on Exit before))) ∙ may)
may_leave Entry Has said before rest is may = front_call (up_words said) (up_words (bodies (sent_on Entry before))) (sym (up_words-append said (bodies (sent_on Entry before))) ∙ may)
may_leave Exit Awaits said before rest is may = absurd (awaits_has is)
may_leave Exit Left said before rest is may = absurd (left_has is)
may_leave Entry Awaits said before rest is may = absurd (awaits_has is)
may_leave Entry Left said before rest is may = absurd (left_has is)

lone_leaves : {own : Hold} {to from : List Coming} (side : Side) (before rest : List Act) → own ≡ Has → IsLone side before own to from → IsLone side rest Left [] from
lone_leaves {own = own} side before rest is k = record { said = k.said; says = k.says; may = may_leave side own (bodies k.said) before rest is k.may; none = refl }

-- ---- the link at a side, as a scene has it

pub record Seen : Type 0 where
  pub stands : Bool
  pub home : List Horizontal
  pub away : List Horizontal

abbrev pub seen : Side → Scene → Seen
seen Exit c = record { stands = c.below.stands; home = c.below.up; away = c.below.down }
seen Entry c = record { stands = c.above.stands; home = c.above.down; away = c.above.up }

-- ---- a connection, before some acts, beside it

pub record IsFine (side : Side) (rest : List Act) (new far : List ℕ) (l : Seen) (own beyond : Hold) (to from : List Coming) : Type 0 where
  pub comes : own ≡ Has → Home side rest new to l.home
  pub goes : beyond ≡ Has → Carries far from l.away
  pub quiet : own ≡ Has → beyond ≡ Awaits → l.home ≡ []
  pub called : own ≡ Awaits → beyond ≡ Has → l.away ≡ []
  pub lone : beyond ≡ Awaits → IsLone side rest own to from
  pub on : own ≡ Has → beyond ≡ Has → l.stands ≡ true
  pub off : beyond ≡ Has → (own ≡ Has → ⊥) → l.stands ≡ false

-- all of it but what comes
pub record IsBare (side : Side) (rest : List Act) (far : List ℕ) (l : Seen) (own beyond : Hold) (to from : List Coming) : Type 0 where
  pub goes : beyond ≡ Has → Carries far from l.away
  pub quiet : own ≡ Has → beyond ≡ Awaits → l.home ≡ []
  pub called : own ≡ Awaits → beyond ≡ Has → l.away ≡ []
  pub lone : beyond ≡ Awaits → IsLone side rest own to from
  pub on : own ≡ Has → beyond ≡ Has → l.stands ≡ true
  pub off : beyond ≡ Has → (own ≡ Has → ⊥) → l.stands ≡ false

pub with_comes : {new far : List ℕ} {l : Seen} {own beyond : Hold} {to from : List Coming} {side : Side} {rest : List Act} → (own ≡ Has → Home side rest new to l.home) → IsBare side rest far l own beyond to from → IsFine side rest new far l own beyond to from
with_comes comes k = record { comes = comes; goes = k.goes; quiet = k.quiet; called = k.called; lone = k.lone; on = k.on; off = k.off }

-- what an act makes of the connections at a side, where what is said has so many events before it
abbrev pub sided : Side → Side → (Wire → Wire) → List Wire → List Wire
sided Entry Entry change wires = map change wires
sided Exit Exit change wires = map change wires
sided Entry Exit change wires = wires
sided Exit Entry change wires = wires

abbrev pub act_wires : Side → ℕ → Act → List Wire → List Wire
act_wires side n (acts.Sends at message) wires = sided side at (said at (text_behind n (canonical message))) wires
act_wires side n (acts.Closes at) wires = sided side at (left at) wires
act_wires side n (acts.Notices at) wires = sided side at (left at) wires
act_wires side n act wires = wires

-- an act that leaves the side's connections as they are
pub record IsAside (side : Side) (act : Act) : Type 0 where
  pub hears : (n : ℕ) → heard_by side act n ≡ n
  pub opens : (opened : Bool) → open_act side opened act ≡ opened
  pub says : (rest : List Act) → sent_on side (act ∷ rest) ≡ sent_on side rest
  pub same : (c : Scene) → seen side (met act c) ≡ seen side c
  pub wires : (n : ℕ) (ws : List Wire) → act_wires side n act ws ≡ ws

fine_aside : {new far : List ℕ} {l : Seen} {own beyond : Hold} {to from : List Coming} (side : Side) (act : Act) (rest : List Act) → ((n : ℕ) → heard_by side act n ≡ n) → open_act side true act ≡ true → sent_on side (act ∷ rest) ≡ sent_on side rest
    → IsFine side (act ∷ rest) new far l own beyond to from → IsFine side rest new far l own beyond to from
fine_aside side act rest hears opens says k = record {
  comes = λ has_it. home_on side act rest (hears (heard_in side rest)) opens (k.comes has_it);
  goes = k.goes;
  quiet = k.quiet;
  called = k.called;
  lone = λ awaits. lone_on side (act ∷ rest) rest says (k.lone awaits);
  on = k.on;
  off = k.off;
}

-- a message is heard
abbrev pub heard_seen : Seen → Seen
heard_seen l = record l { home = drop 1 l.home }

fine_heard : {new far : List ℕ} {l : Seen} {own beyond : Hold} {to from : List Coming} (side : Side) (act : Act) (rest : List Act) → ((n : ℕ) → heard_by side act n ≡ suc n) → open_act side true act ≡ true → sent_on side (act ∷ rest) ≡ sent_on side rest
    → IsFine side (act ∷ rest) new far l own beyond to from → IsFine side rest new far (heard_seen l) own beyond to from
fine_heard side act rest hears opens says k = record {
  comes = λ has_it. home_heard side act rest (hears (heard_in side rest)) opens (k.comes has_it);
  goes = k.goes;
  quiet = λ has_it awaits. ap (drop 1) (k.quiet has_it awaits);
  called = k.called;
  lone = λ awaits. lone_on side (act ∷ rest) rest says (k.lone awaits);
  on = k.on;
  off = k.off;
}

-- a message is said
abbrev pub said_seen : Horizontal → Seen → Seen
said_seen what l = record l { away = sent (what ∷ []) l.stands l.away }

sent_on_it : (what : Horizontal) (stands : Bool) (away : List Horizontal) → stands ≡ true → sent (what ∷ []) stands away ≡ away ++ what ∷ []
sent_on_it what true away is = refl
sent_on_it what false away is = absurd (false≢true is)

sent_off_it : (what : Horizontal) (stands : Bool) (away : List Horizontal) → stands ≡ false → sent (what ∷ []) stands away ≡ away
sent_off_it what true away is = absurd (false≢true (sym is))
sent_off_it what false away is = refl

sends_hears : (side : Side) (message : Message) (n : ℕ) → heard_by side (acts.Sends side message) n ≡ n
sends_hears Entry message n = refl
sends_hears Exit message n = refl

fine_said_on : SaysAlone → {new far : List ℕ} {l : Seen} {own beyond : Hold} {to from : List Coming} (side : Side) (n : ℕ) (message : Message) (rest : List Act) → IsFit message → own ≡ Has
    → IsFine side (acts.Sends side message ∷ rest) new far l own beyond to from → IsFine side rest new far (said_seen message.body l) own beyond to (from ++ text_behind n (canonical message))
fine_said_on alone {new} {far} {l} {own} {beyond} {to} {from} side n message rest fit is k = record {
  comes = λ has_it. home_on side (acts.Sends side message) rest (sends_hears side message (heard_in side rest)) refl (k.comes has_it);
  goes = λ has_it. subst (λ (ms : List Horizontal). Carries far (from ++ text_behind n (canonical message)) ms) (sym (sent_on_it message.body l.stands l.away (k.on is has_it))) (carries_said alone n message fit (k.goes has_it));
  quiet = k.quiet;
  called = λ awaits has_it. absurd (has_awaits (sym is ∙ awaits));
  lone = λ awaits. lone_says alone side n message rest fit is (k.lone awaits);
  on = k.on;
  off = k.off;
}

fine_said_off : {new far : List ℕ} {l : Seen} {own beyond : Hold} {to from : List Coming} (side : Side) (message : Message) (rest : List Act) → (own ≡ Has → beyond ≡ Left)
    → IsFine side (acts.Sends side message ∷ rest) new far l own beyond to from → IsFine side rest new far (said_seen message.body l) own beyond to from
fine_said_off {far = far} {l = l} {own = own} {beyond = beyond} {from = from} side message rest off k =
    let apart : beyond ≡ Has → l.stands ≡ false = λ has_it. k.off has_it (λ own_has_it. left_has (sym (off own_has_it) ∙ has_it)) in
    record {
      comes = λ has_it. home_on side (acts.Sends side message) rest (sends_hears side message (heard_in side rest)) refl (k.comes has_it);
      goes = λ has_it. subst (λ (ms : List Horizontal). Carries far from ms) (sym (sent_off_it message.body l.stands l.away (apart has_it))) (k.goes has_it);
      quiet = k.quiet;
      called = λ awaits has_it. sent_off_it message.body l.stands l.away (apart has_it) ∙ k.called awaits has_it;
      lone = λ awaits. lone_aside side (acts.Sends side message ∷ rest) rest (λ own_has_it. left_awaits (sym (off own_has_it) ∙ awaits)) (k.lone awaits);
      on = k.on;
      off = k.off;
    }

pub fine_said : SaysAlone → {new far : List ℕ} {l : Seen} (side : Side) (n : ℕ) (message : Message) (rest : List Act) → IsFit message → (wire : Wire)
    → Of side (IsFine side (acts.Sends side message ∷ rest) new far l) wire → Of side (IsFine side rest new far (said_seen message.body l)) (said side (text_behind n (canonical message)) wire)
fine_said alone {new} {far} {l} side n message rest fit wire k =
    said_of side (IsFine side rest new far (said_seen message.body l)) (text_behind n (canonical message)) wire (λ has_it reached. fine_said_on alone side n message rest fit has_it k) (λ off. fine_said_off side message rest off k)

-- the side leaves its connection
abbrev pub gone_seen : Seen → Seen
gone_seen l = record { stands = false; home = []; away = l.away }

fine_gone_from : {new far : List ℕ} {l : Seen} {own beyond : Hold} {to from : List Coming} (side : Side) (act : Act) (rest : List Act) → own ≡ Has → IsFine side (act ∷ rest) new far l own beyond to from → IsFine side rest new far (gone_seen l) Left beyond [] from
fine_gone_from side act rest is k = record {
  comes = λ has_it. absurd (left_has has_it);
  goes = k.goes;
  quiet = λ has_it awaits. refl;
  called = λ awaits has_it. absurd (left_awaits awaits);
  lone = λ awaits. lone_leaves side (act ∷ rest) rest is (k.lone awaits);
  on = λ has_it far. absurd (left_has has_it);
  off = λ has_it not. refl;
}

fine_gone_not : {new far : List ℕ} {l : Seen} {own beyond : Hold} {to from : List Coming} (side : Side) (act : Act) (rest : List Act) → (own ≡ Has → ⊥) → IsFine side (act ∷ rest) new far l own beyond to from → IsFine side rest new far (gone_seen l) own beyond to from
fine_gone_not side act rest not k = record {
  comes = λ has_it. absurd (not has_it);
  goes = k.goes;
  quiet = λ has_it awaits. refl;
  called = k.called;
  lone = λ awaits. lone_aside side (act ∷ rest) rest not (k.lone awaits);
  on = λ has_it far. absurd (not has_it);
  off = λ has_it no. refl;
}

pub fine_gone : {new far : List ℕ} {l : Seen} (side : Side) (act : Act) (rest : List Act) (wire : Wire) → Of side (IsFine side (act ∷ rest) new far l) wire → Of side (IsFine side rest new far (gone_seen l)) (left side wire)
fine_gone {new} {far} {l} side act rest wire k = gone_of side (IsFine side rest new far (gone_seen l)) wire (λ has_it. fine_gone_from side act rest has_it k) (λ not. fine_gone_not side act rest not k)

-- ---- ALL CONNECTIONS OF A LINK, before some acts at one of its sides

pub record IsMid (side : Side) (rest : List Act) (new far : List ℕ) (own_open far_open : Bool) (l : Seen) (wires : List Wire) : Type 0 where
  pub fine : AllByRecursion (λ (wire : Wire). Of side (IsFine side rest new far l) wire) wires
  pub own : list_any (own_has side) wires ≡ own_open
  pub beyond : list_any (far_has side) wires ≡ far_open
  pub joined : list_any (both_have side) wires ≡ l.stands
  pub none_home : own_open ≡ false → l.home ≡ []
  pub none_away : far_open ≡ false → l.away ≡ []
  pub one_own : AtMostOne (own_held side) wires
  pub one_far : AtMostOne (far_held side) wires

-- of what an act is to a side
pub data Deals (side : Side) : Act → Type 0 where
  deals_hears : (message : Message) → Deals side (acts.Hears side message)
  deals_sends : (message : Message) → Deals side (acts.Sends side message)
  deals_closes : Deals side (acts.Closes side)
  deals_notices : Deals side (acts.Notices side)
  deals_aside : {act : Act} → IsAside side act → Deals side act

pub deals : (side : Side) (act : Act) → Deals side act
deals Entry (acts.Hears Entry message) = deals_hears message
deals Exit (acts.Hears Exit message) = deals_hears message
deals Entry (acts.Hears Exit message) = deals_aside (record { hears = λ n. refl; opens = λ o. refl; says = λ rest. refl; same = λ c. refl; wires = λ n ws. refl })
deals Entry (acts.Sends Entry message) = deals_sends message
deals Exit (acts.Sends Exit message) = deals_sends message
deals Entry (acts.Sends Exit message) = deals_aside (record { hears = λ n. refl; opens = λ o. refl; says = λ rest. refl; same = λ c. refl; wires = λ n ws. refl })
deals Entry (acts.Closes Entry) = deals_closes
deals Exit (acts.Closes Exit) = deals_closes
deals Entry (acts.Closes Exit) = deals_aside (record { hears = λ n. refl; opens = λ o. refl; says = λ rest. refl; same = λ c. refl; wires = λ n ws. refl })
deals Entry (acts.Notices Entry) = deals_notices
deals Exit (acts.Notices Exit) = deals_notices
deals Entry (acts.Notices Exit) = deals_aside (record { hears = λ n. refl; opens = λ o. refl; says = λ rest. refl; same = λ c. refl; wires = λ n ws. refl })
deals Entry (acts.Drive Entry on) = deals_aside (record { hears = λ n. refl; opens = λ o. refl; says = λ rest. refl; same = λ c. refl; wires = λ n ws. refl })
deals Entry (acts.Drive Exit on) = deals_aside (record { hears = λ n. refl; opens = λ o. refl; says = λ rest. refl; same = λ c. refl; wires = λ n ws. refl })
deals Exit (acts.Drive Entry on) = deals_aside (record { hears = λ n. refl; opens = λ o. refl; says = λ rest. refl; same = λ c. refl; wires = λ n ws. refl })
deals Entry _ = deals_aside (record { hears = λ n. refl; opens = λ o. refl; says = λ rest. refl; same = λ c. refl; wires = λ n ws. refl })
deals Exit _ = deals_aside (record { hears = λ n. refl; opens = λ o. refl; says = λ rest. refl; same = λ c. refl; wires = λ n ws. refl })

mid_aside : {new far : List ℕ} {own_open far_open : Bool} {l : Seen} {wires : List Wire} (side : Side) (act : Act) (rest : List Act) → IsAside side act → IsMid side (act ∷ rest) new far own_open far_open l wires → IsMid side rest new far own_open far_open l wires
mid_aside {new} {far} {l = l} {wires = wires} side act rest aside m = record {
  fine = all_as (Of side (IsFine side (act ∷ rest) new far l)) (Of side (IsFine side rest new far l)) (λ wire k. fine_aside side act rest aside.hears (aside.opens true) (aside.says rest) k) wires m.fine;
  own = m.own;
  beyond = m.beyond;
  joined = m.joined;
  none_home = m.none_home;
  none_away = m.none_away;
  one_own = m.one_own;
  one_far = m.one_far;
}

hears_more : (side : Side) (message : Message) (n : ℕ) → heard_by side (acts.Hears side message) n ≡ suc n
hears_more Entry message n = refl
hears_more Exit message n = refl

hears_says : (side : Side) (message : Message) (rest : List Act) → sent_on side (acts.Hears side message ∷ rest) ≡ sent_on side rest
hears_says Entry message rest = refl
hears_says Exit message rest = refl

mid_heard : {new far : List ℕ} {own_open far_open : Bool} {l : Seen} {wires : List Wire} (side : Side) (message : Message) (rest : List Act) → IsMid side (acts.Hears side message ∷ rest) new far own_open far_open l wires
    → IsMid side rest new far own_open far_open (heard_seen l) wires
mid_heard {new} {far} {l = l} {wires = wires} side message rest m = record {
  fine = all_as (Of side (IsFine side (acts.Hears side message ∷ rest) new far l)) (Of side (IsFine side rest new far (heard_seen l))) (λ wire k. fine_heard side (acts.Hears side message) rest (hears_more side message) refl (hears_says side message rest) k) wires m.fine;
  own = m.own;
  beyond = m.beyond;
  joined = m.joined;
  none_home = λ none. ap (drop 1) (m.none_home none);
  none_away = m.none_away;
  one_own = m.one_own;
  one_far = m.one_far;
}

-- where nobody beyond has a connection the link doesn't stand
far_of : (side : Side) (own beyond : Hold) → has beyond ≡ false → joined_by side own beyond ≡ false
far_of Exit Awaits beyond none = refl
far_of Exit Has beyond none = none
far_of Exit Left beyond none = refl
far_of Entry own Awaits none = refl
far_of Entry own Has none = absurd (false≢true (sym none))
far_of Entry own Left none = refl

mid_said : SaysAlone → {new far : List ℕ} {own_open far_open : Bool} {l : Seen} {wires : List Wire} (side : Side) (n : ℕ) (message : Message) (rest : List Act) → IsFit message
    → IsMid side (acts.Sends side message ∷ rest) new far own_open far_open l wires → IsMid side rest new far own_open far_open (said_seen message.body l) (map (said side (text_behind n (canonical message))) wires)
mid_said alone {new} {far} {own_open} {far_open} {l} {wires} side n message rest fit m =
    let change : Wire → Wire = said side (text_behind n (canonical message)) in
    let same : (test : Hold → Hold → Bool) (wire : Wire) → test (end_at side (change wire)) (end_beyond side (change wire)) ≡ test (end_at side wire) (end_beyond side wire) = λ test wire. said_test test side (text_behind n (canonical message)) wire in
    record {
      fine = all_mapped (Of side (IsFine side (acts.Sends side message ∷ rest) new far l)) (Of side (IsFine side rest new far (said_seen message.body l))) change (λ wire k. fine_said alone side n message rest fit wire k) wires m.fine;
      own = any_map (own_has side) change (same (λ own beyond. has own)) wires ∙ m.own;
      beyond = any_map (far_has side) change (same (λ own beyond. has beyond)) wires ∙ m.beyond;
      joined = any_map (both_have side) change (same (joined_by side)) wires ∙ m.joined;
      none_home = m.none_home;
      none_away = λ none. sent_off_it message.body l.stands l.away (sym m.joined ∙ any_weaker (far_has side) (both_have side) (λ wire not. far_of side (end_at side wire) (end_beyond side wire) not) wires (m.beyond ∙ none)) ∙ m.none_away none;
      one_own = most_mapped (own_held side) change (λ wire fails. same (λ own beyond. held_own side own) wire ∙ fails) m.one_own;
      one_far = most_mapped (far_held side) change (λ wire fails. same (λ own beyond. held_far side beyond) wire ∙ fails) m.one_far;
    }

mid_gone : {new far : List ℕ} {own_open far_open : Bool} {l : Seen} {wires : List Wire} (side : Side) (act : Act) (rest : List Act) → IsMid side (act ∷ rest) new far own_open far_open l wires
    → IsMid side rest new far false far_open (gone_seen l) (map (left side) wires)
mid_gone {new} {far} {l = l} {wires = wires} side act rest m = record {
  fine = all_mapped (Of side (IsFine side (act ∷ rest) new far l)) (Of side (IsFine side rest new far (gone_seen l))) (left side) (λ wire k. fine_gone side act rest wire k) wires m.fine;
  own = none_map (own_has side) (left side) (left_own side) wires;
  beyond = any_map (far_has side) (left side) (left_far has side) wires ∙ m.beyond;
  joined = none_map (both_have side) (left side) (left_joins_none side) wires;
  none_home = λ none. refl;
  none_away = m.none_away;
  one_own = most_mapped (own_held side) (left side) (left_held side) m.one_own;
  one_far = most_mapped (far_held side) (left side) (λ wire fails. left_far (held_far side) side wire ∙ fails) m.one_far;
}

-- ---- ALL ACTS, one behind the other: what they make of the connections at a side, whatever the events that their receivers
-- have unread

pub data Wired (side : Side) : List Act → List Wire → List Wire → Type 0 where
  wired_none : {wires : List Wire} → Wired side [] wires wires
  wired_more : {act : Act} {others : List Act} {wires later : List Wire} (n : ℕ) → Wired side others (act_wires side n act wires) later → Wired side (act ∷ others) wires later

-- one act
own_sided : (side : Side) (change : Wire → Wire) (wires : List Wire) → sided side side change wires ≡ map change wires
own_sided Entry change wires = refl
own_sided Exit change wires = refl

own_shut : (side : Side) (opened : Bool) → open_act side opened (acts.Closes side) ≡ false
own_shut Entry opened = refl
own_shut Exit opened = refl

own_noticed : (side : Side) (opened : Bool) → open_act side opened (acts.Notices side) ≡ false
own_noticed Entry opened = refl
own_noticed Exit opened = refl

seen_heard : (side : Side) (message : Message) (c : Scene) → seen side (met (acts.Hears side message) c) ≡ heard_seen (seen side c)
seen_heard Entry message c = refl
seen_heard Exit message c = refl

seen_said : (side : Side) (message : Message) (c : Scene) → seen side (met (acts.Sends side message) c) ≡ said_seen message.body (seen side c)
seen_said Entry message c = refl
seen_said Exit message c = refl

seen_shut : (side : Side) (c : Scene) → seen side (met (acts.Closes side) c) ≡ gone_seen (seen side c)
seen_shut Entry c = refl
seen_shut Exit c = refl

seen_noticed : (side : Side) (c : Scene) → seen side (met (acts.Notices side) c) ≡ gone_seen (seen side c)
seen_noticed Entry c = refl
seen_noticed Exit c = refl

-- with other names for what is the same
mid_as : {new far : List ℕ} {own_open other far_open : Bool} {l k : Seen} {wires ws : List Wire} (side : Side) (rest : List Act) → other ≡ own_open → k ≡ l → ws ≡ wires → IsMid side rest new far own_open far_open l wires → IsMid side rest new far other far_open k ws
mid_as {new} {far} {own_open} {other} {far_open} {l} {k} {wires} {ws} side rest x y z m =
    subst (λ (o : Bool). IsMid side rest new far o far_open k ws) (sym x)
    (subst (λ (s : Seen). IsMid side rest new far own_open far_open s ws) (sym y) (subst (λ (w : List Wire). IsMid side rest new far own_open far_open l w) (sym z) m))

pub act_mid : SaysAlone → {new far : List ℕ} {own_open far_open : Bool} {wires : List Wire} (side : Side) (n : ℕ) (act : Act) (rest : List Act) (c : Scene) → IsFitAct act → Deals side act
    → IsMid side (act ∷ rest) new far own_open far_open (seen side c) wires → IsMid side rest new far (open_act side own_open act) far_open (seen side (met act c)) (act_wires side n act wires)
act_mid alone side n _ rest c fit (deals_hears message) m = mid_as side rest refl (seen_heard side message c) refl (mid_heard side message rest m)
act_mid alone {wires = wires} side n _ rest c fit (deals_sends message) m =
    mid_as side rest refl (seen_said side message c) (own_sided side (said side (text_behind n (canonical message))) wires) (mid_said alone side n message rest fit m)
act_mid alone {own_open = own_open} {wires = wires} side n _ rest c fit deals_closes m = mid_as side rest (own_shut side own_open) (seen_shut side c) (own_sided side (left side) wires) (mid_gone side (acts.Closes side) rest m)
act_mid alone {own_open = own_open} {wires = wires} side n _ rest c fit deals_notices m = mid_as side rest (own_noticed side own_open) (seen_noticed side c) (own_sided side (left side) wires) (mid_gone side (acts.Notices side) rest m)
act_mid alone {own_open = own_open} {wires = wires} side n act rest c fit (deals_aside aside) m = mid_as side rest (aside.opens own_open) (aside.same c) (aside.wires n wires) (mid_aside side act rest aside m)

-- ALL ACTS
pub acts_mid : SaysAlone → {new far : List ℕ} {own_open far_open : Bool} {wires later : List Wire} (side : Side) (told : List Act) (c : Scene) → AreFitActs told → Wired side told wires later
    → IsMid side told new far own_open far_open (seen side c) wires → IsMid side [] new far (open_after side own_open told) far_open (seen side (all_met told c)) later
acts_mid alone side [] c none_said wired_none m = m
acts_mid alone {own_open = own_open} side (act ∷ others) c (more_said fit more) (wired_more n w) m =
    acts_mid alone {own_open = open_act side own_open act} side others (met act c) more w (act_mid alone side n act others c fit (deals side act) m)

-- what looks at neither the acts nor the messages goes on
says_it : (F : Hold → Hold → List Coming → List Coming → Type 0) → ((beyond : Hold) (to from c : List Coming) → F Has beyond to from → F Has beyond to (from ++ c)) → (own beyond : Hold) (to from c : List Coming) → own ≡ Has → F own beyond to from → F own beyond to (from ++ c)
says_it F more Awaits beyond to from c is k = absurd (awaits_has is)
says_it F more Has beyond to from c is k = more beyond to from c k
says_it F more Left beyond to from c is k = absurd (left_has is)

leaves_it : (F : Hold → Hold → List Coming → List Coming → Type 0) → ((beyond : Hold) (to from : List Coming) → F Has beyond to from → F Left beyond [] from) → (own beyond : Hold) (to from : List Coming) → own ≡ Has → F own beyond to from → F Left beyond [] from
leaves_it F leaves Awaits beyond to from is k = absurd (awaits_has is)
leaves_it F leaves Has beyond to from is k = leaves beyond to from k
leaves_it F leaves Left beyond to from is k = absurd (left_has is)

all_gone : (F : Hold → Hold → List Coming → List Coming → Type 0) → ((beyond : Hold) (to from : List Coming) → F Has beyond to from → F Left beyond [] from) → (side : Side) (wires : List Wire) → AllByRecursion (Of side F) wires → AllByRecursion (Of side F) (map (left side) wires)
all_gone F leaves side wires all =
    all_mapped (Of side F) (Of side F) (left side) (λ wire k. gone_of side F wire (λ has_it. leaves_it F leaves (end_at side wire) (end_beyond side wire) (coming_to side wire) (going_from side wire) has_it k) (λ not. k)) wires all

pub act_each : (F : Hold → Hold → List Coming → List Coming → Type 0) → ((beyond : Hold) (to from c : List Coming) → F Has beyond to from → F Has beyond to (from ++ c)) → ((beyond : Hold) (to from : List Coming) → F Has beyond to from → F Left beyond [] from)
    → (side : Side) (n : ℕ) (act : Act) → Deals side act → (wires : List Wire) → AllByRecursion (Of side F) wires → AllByRecursion (Of side F) (act_wires side n act wires)
act_each F more leaves side n _ (deals_hears message) wires all = all
act_each F more leaves side n _ (deals_sends message) wires all =
    let c : List Coming = text_behind n (canonical message) in
    subst (λ (ws : List Wire). AllByRecursion (Of side F) ws) (sym (own_sided side (said side c) wires))
    (all_mapped (Of side F) (Of side F) (said side c) (λ wire k. said_of side F c wire (λ has_it reached. says_it F more (end_at side wire) (end_beyond side wire) (coming_to side wire) (going_from side wire) c has_it k) (λ off. k)) wires all)
act_each F more leaves side n _ deals_closes wires all = subst (λ (ws : List Wire). AllByRecursion (Of side F) ws) (sym (own_sided side (left side) wires)) (all_gone F leaves side wires all)
act_each F more leaves side n _ deals_notices wires all = subst (λ (ws : List Wire). AllByRecursion (Of side F) ws) (sym (own_sided side (left side) wires)) (all_gone F leaves side wires all)
act_each F more leaves side n act (deals_aside aside) wires all = subst (λ (ws : List Wire). AllByRecursion (Of side F) ws) (sym (aside.wires n wires)) all

pub acts_each : (F : Hold → Hold → List Coming → List Coming → Type 0) → ((beyond : Hold) (to from c : List Coming) → F Has beyond to from → F Has beyond to (from ++ c)) → ((beyond : Hold) (to from : List Coming) → F Has beyond to from → F Left beyond [] from)
    → (side : Side) (told : List Act) {wires later : List Wire} → Wired side told wires later → AllByRecursion (Of side F) wires → AllByRecursion (Of side F) later
acts_each F more leaves side [] wired_none all = all
acts_each F more leaves side (act ∷ others) {wires} (wired_more n w) all = acts_each F more leaves side others w (act_each F more leaves side n act (deals side act) wires all)
