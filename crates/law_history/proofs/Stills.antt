-- A step in which nothing is heard of an end settles no board that was not said to have left before.
use Rattle.std.proofs.Common.{Bool, List, None, [], ap, false, refl, subst, sym, true, ℕ, ◌&&◌, ◌++◌, ◌∙◌, ◌∷◌, ◌≡◌}
use Rattle.std.specs.List.{list_any}
use Rattle.std.proofs.lemmas.Bool.{false≢true, and_from, or_from, or_parts, and_parts}
use Rattle.node_core.proofs.Opened.{breach_closes}
use Rattle.law_history.proofs.Started.{none_some}
use Rattle.line_base.specs.declared.states.Side.TheVariants.{Entry, Exit}
use Rattle.board_record.specs.declared.sensed.Sensed.{Sensed}
use Rattle.hermes_horizontal.specs.declared.message.Horizontal.{Horizontal}
use Rattle.hermes_horizontal.specs.declared.message.Horizontal.TheVariants as bodies
use Rattle.hermes_horizontal.specs.declared.message.Message.{Message}
use Rattle.node_core.specs.Announces.{announces}
use Rattle.node_core.specs.Connect.{if_open}
use Rattle.node_core.specs.Desk.{Desk}
use Rattle.node_core.specs.Done.{Done, and_then}
use Rattle.node_core.specs.Event.{Event, Words}
use Rattle.node_core.specs.Hears.{hears}
use Rattle.node_core.specs.Reads.{all_read}
use Rattle.node_core.specs.Session.{breaches}
use Rattle.node_core.specs.Sides.{is_open}
use Rattle.node_core.specs.Step.{plain_step}
use Rattle.node_core.specs.Supervising.{watch_of}
use Rattle.node_core.specs.Words.{all_heard}
use Rattle.node_core.specs.declared.act.Act.{Act}
use Rattle.node_core.specs.declared.act.Act.TheVariants as acts
use Rattle.node_core.specs.declared.act.Deed.TheVariants as deeds
use Rattle.node_core.specs.declared.lane.Body.{Body}
use Rattle.node_core.specs.declared.word.Word.{Word}
use Rattle.node_core.specs.declared.word.Word.TheVariants.{Says, Wrong}
use Rattle.law_custody.specs.Flight.{Stale, stale_offer, stale_revoke}
use Rattle.law_custody.specs.LookBack.{IsSaid, by_description, by_end}
use Rattle.law_custody.specs.Words.{DownWord, before_down, down_words}
use Rattle.law_machine_custody.specs.Flight.{AreOldest}
use Rattle.law_machine_custody.specs.Scene.{Scene}
use Rattle.law_machine_custody.proofs.HearingAll.{deaf}
use Rattle.law_machine_custody.proofs.Quiet.{AllActs, acts_more, acts_none}
use Rattle.law_one_standing.proofs.CarryingSides.{heard_in}
use Rattle.law_one_standing.proofs.Counting.{IsOne, hears_one, one_breach, one_heard, step_hears_none}
use Rattle.law_one_standing.proofs.CountingQuiet.{IsDeaf, announces_deaf, breaches_deaf, read_deaf, tells_unheard}
use Rattle.law_one_standing.proofs.FactsBlame.{Front, front_of}
use Rattle.law_history.specs.Settled.{is_start}
use Rattle.law_history.proofs.Folds.{Hearing, Orderly, ends, goes_on, heard_act, settles_not, settles_so, since_message}
use Rattle.law_history.proofs.Gaps.{is_settle}
use Rattle.law_history.proofs.Stepping.{AreTheirs}

-- ---- acts in which neither the end of a transport nor a description is heard at the entry

abbrev pub is_quiet : Horizontal → Bool
is_quiet (bodies.TransportFinished state id) = false
is_quiet (bodies.ServiceDescription service) = false
is_quiet _ = true

abbrev pub is_still : Act → Bool
is_still (acts.Hears Entry message) = is_quiet message.body
is_still _ = true

abbrev pub are_still : List Act → Bool
are_still [] = true
are_still (act ∷ told) = is_still act && are_still told

still_append : (a b : List Act) → are_still a ≡ true → are_still b ≡ true → are_still (a ++ b) ≡ true
still_append [] b one two = two
still_append (act ∷ a) b one two = and_from (is_still act) (are_still (a ++ b)) (and_parts (is_still act) (are_still a) one).0 (still_append a b (and_parts (is_still act) (are_still a) one).1 two)

deaf_one : (act : Act) → IsDeaf act → is_still act ≡ true
deaf_one (acts.Hears side message) is = absurd is
deaf_one _ is = refl

deaf_still : {told : List Act} → AllActs IsDeaf told → are_still told ≡ true
deaf_still acts_none = refl
deaf_still (acts_more {act = act} {others = others} one more) = and_from (is_still act) (are_still others) (deaf_one act one) (deaf_still more)

none_still : (told : List Act) → heard_in Entry told ≡ 0 → are_still told ≡ true
none_still [] none = refl
none_still (acts.Hears Entry message ∷ told) none = absurd (cc)
none_still (acts.Hears Exit message ∷ told) none = none_still told none
none_still (act ∷ told) none = none_still told none

-- ---- such words

abbrev pub AreStillWords : List Word → Type 0
AreStillWords [] = Unit {0}
AreStillWords (Says message ∷ words) = (is_quiet message.body ≡ true) × AreStillWords words
AreStillWords (Wrong text ∷ words) = Unit {0}

one_still : (desk : Desk) (message : Message) (d : Done) → IsOne Entry message d → is_quiet message.body ≡ true → are_still d.acts ≡ true
one_still desk message d (one_heard others are quiet) is = ap are_still are ∙ and_from (is_quiet message.body) (are_still others) is (deaf_still quiet)
one_still desk message d (one_breach quiet off) is = deaf_still quiet

closed_still : (desk : Desk) (words : List Word) (body : Body) → is_open Entry body ≡ false → are_still (all_heard desk Entry words body).acts ≡ true
closed_still desk words body off = ap (λ (d : Done). are_still d.acts) (deaf desk Entry words body off)

if_still : (test : Bool) (d : Done) (body : Body) → are_still d.acts ≡ true → are_still (if_open test d body).acts ≡ true
if_still true d body is = is
if_still false d body is = refl

words_still : (desk : Desk) (words : List Word) (body : Body) → AreStillWords words → are_still (all_heard desk Entry words body).acts ≡ true
words_still desk [] body all = refl
words_still desk (Says message ∷ words) body all =
    let d : Done = hears desk Entry message body in
    if_still (is_open Entry body) (and_then d (all_heard desk Entry words)) body
    (still_append d.acts (all_heard desk Entry words d.body).acts (one_still desk message d (hears_one desk Entry message body) all.0) (words_still desk words d.body all.1))
words_still desk (Wrong text ∷ words) body all =
    let d : Done = breaches desk Entry text body in
    if_still (is_open Entry body) (and_then d (all_heard desk Entry words)) body
    (still_append d.acts (all_heard desk Entry words d.body).acts (deaf_still (breaches_deaf desk Entry text body)) (closed_still desk words d.body (breach_closes desk Entry text body)))

abbrev pub StillEvent : Event → Type 0
StillEvent (Words Entry words) = AreStillWords words
StillEvent _ = Unit {0}

pub step_still : (desk : Desk) (unread : List Sensed) (event : Event) (body : Body) → StillEvent event → are_still (plain_step desk unread event body).acts ≡ true
step_still desk unread (Words Entry words) body all =
    let one = all_read desk unread body in
    let two = all_heard desk Entry words one.body in
    still_append one.acts (two.acts ++ (announces desk two.body).acts) (deaf_still (read_deaf desk unread body)) (still_append two.acts (announces desk two.body).acts (words_still desk words one.body all) (deaf_still (announces_deaf desk two.body)))
step_still desk unread event body all = none_still (plain_step desk unread event body).acts
    (sym (tells_unheard Entry desk (watch_of desk body) (plain_step desk unread event body).acts) ∙ step_hears_none Entry desk unread event body refl)

-- ---- old offers alone

stale_first : (m : Horizontal) (rest : List DownWord) → Stale (before_down m rest) → (is_quiet m ≡ true) × Stale rest
stale_first (bodies.BoardAvailable board) rest (stale_offer s) = (refl, s)
stale_first bodies.RevokeBoardAvailable rest (stale_revoke s) = (refl, s)
stale_first (bodies.TransportFinished state id) rest s = elim s [ ]
stale_first (bodies.ServiceDescription service) rest s = elim s [ ]
stale_first _ rest s = (refl, s)

oldest_still : (words : List Word) (sent : List Horizontal) → AreOldest words sent → Stale (down_words sent) → AreStillWords words
oldest_still [] sent oldest stale = tt
oldest_still (Says message ∷ words) sent oldest stale =
    let f : Front message.body words sent = front_of oldest in
    let both = stale_first message.body (down_words f.rest) (subst (λ (l : List Horizontal). Stale (down_words l)) f.is stale) in
    (both.0, oldest_still words f.rest f.oldest both.1)
oldest_still (Wrong text ∷ words) sent oldest stale = tt

pub still_event : (event : Event) (c : Scene) → AreTheirs event c → Stale (down_words c.above.down) → StillEvent event
still_event (Words Entry words) c theirs stale = oldest_still words c.above.down theirs stale
still_event (Words Exit words) c theirs stale = tt
still_event _ c theirs stale = tt

-- ---- so none settles

abbrev IsUnsaid : Hearing → Type 0
IsUnsaid h = (h.since.ended ≡ false) × (h.since.described ≡ false)

unsaid_message : (h : Hearing) (body : Horizontal) → is_quiet body ≡ true → IsUnsaid h → IsUnsaid (record h { since = since_message h.named body h.since })
unsaid_message h (bodies.TransportFinished state id) still u = absurd (false≢true still)
unsaid_message h (bodies.ServiceDescription service) still u = absurd (false≢true still)
unsaid_message h _ still u = u

unsaid_act : (h : Hearing) (act : Act) → is_still act ≡ true → IsUnsaid h → IsUnsaid (heard_act h act)
unsaid_act h (acts.Hears Entry message) still u = unsaid_message h message.body still u
unsaid_act h (acts.Closes Entry) still u = u
unsaid_act h (acts.Notices Entry) still u = u
unsaid_act h (acts.Deed (deeds.Starts id)) still u = (refl, refl)
unsaid_act h _ still u = u

not_settle : (act : Act) → settles_not act ≡ true → is_settle act ≡ false
not_settle (acts.Deed (deeds.Settles id)) is = absurd (false≢true is)
not_settle _ is = refl

never_said : {X : Type 0} (h : Hearing) → IsUnsaid h → IsSaid h.since → X
never_said h u (by_end ended) = absurd (false≢true (sym u.0 ∙ ended))
never_said h u (by_description described) = absurd (false≢true (sym u.1 ∙ described))

pub unsaid_settles : {P : ℕ → Type 0} {h : Hearing} {told : List Act} → Orderly P h told → are_still told ≡ true → IsUnsaid h → list_any is_settle told ≡ false
unsaid_settles ends still u = refl
unsaid_settles {h = h} (goes_on {act = act} {told = told} plain more) still u =
    or_from (is_settle act) (list_any is_settle told) (not_settle act plain) (unsaid_settles more (and_parts (is_still act) (are_still told) still).1 (unsaid_act h act (and_parts (is_still act) (are_still told) still).0 u))
unsaid_settles {h = h} (settles_so named said is more) still u = never_said h u said

-- ---- nor where nothing was started

unnamed_act : (h : Hearing) (act : Act) → is_start act ≡ false → h.named ≡ None → (heard_act h act).named ≡ None
unnamed_act h (acts.Deed (deeds.Starts id)) start none = absurd (false≢true (sym start))
unnamed_act h (acts.Hears Entry message) start none = none
unnamed_act h (acts.Closes Entry) start none = none
unnamed_act h (acts.Notices Entry) start none = none
unnamed_act h _ start none = none

pub unnamed_settles : {P : ℕ → Type 0} {h : Hearing} {told : List Act} → Orderly P h told → list_any is_start told ≡ false → h.named ≡ None → list_any is_settle told ≡ false
unnamed_settles ends start none = refl
unnamed_settles {h = h} (goes_on {act = act} {told = told} plain more) start none =
    or_from (is_settle act) (list_any is_settle told) (not_settle act plain)
    (unnamed_settles more (or_parts (is_start act) (list_any is_start told) start).1 (unnamed_act h act (or_parts (is_start act) (list_any is_start told) start).0 none))
unnamed_settles (settles_so {id = id} named said is more) start none = none_some id (sym none ∙ named)
