-- THE EXIT REFUSES A SECOND CONNECTION: it has left that one, the answer goes down on it to an entry that hasn't left it, and the
-- first goes on.
use Rattle.std.proofs.Common.{Bool, List, Some, [], ap, append-nil, false, map, refl, slice_get, slice_set, subst, suc, sym, true, zero, ℕ, ◌++◌, ◌∙◌, ◌∷◌, ◌≡◌, ◌&&◌}
use Rattle.std.specs.Prelude.{cond}
use Rattle.std.proofs.lemmas.Bool.{false≢true}
use Rattle.std.specs.List.{AllByRecursion, list_any}
use Rattle.law_one_standing.proofs.CarryingAnswer.{same_answer}
use Rattle.line_base.specs.declared.states.Side.TheVariants.{Entry, Exit}
use Rattle.hermes_horizontal.specs.Canonical.{canonical}
use Rattle.hermes_horizontal.specs.declared.message.Horizontal.{Horizontal}
use Rattle.hermes_horizontal.specs.declared.message.Horizontal.TheVariants as message
use Rattle.hermes_horizontal.specs.declared.message.Message.{Message}
use Rattle.node_core.specs.declared.act.Act.{Act}
use Rattle.node_core.specs.declared.act.Act.TheVariants as acts
use Rattle.law_custody.specs.Words.{DownWord, down_words}
use Rattle.law_custody.proofs.Lists.{down_words-append}
use Rattle.law_link_messages.specs.Fit.{AreFitActs, IsFit, IsFitAct, more_said, none_said, sent_on}
use Rattle.law_link_messages.specs.Heard.{bodies}
use Rattle.law_machine_custody.specs.Joined.{all_met_left, all_met_second, answered as second_said, is_answer, met_left, met_second, unanswered}
use Rattle.law_machine_custody.specs.Scene.{Scene, met}
use Rattle.line_step.specs.Acts.{is_answer as is_told_answer}
use Rattle.step_rules.specs.Opened.{open_act, open_after}
use Rattle.law_one_standing.proofs.Carrying.{SaysAlone, bodies_append}
use Rattle.law_running_line.specs.Running.{at_place}
use Rattle.law_running_line.specs.Stands.{is_joined}
use Rattle.law_running_line.specs.Turned.{answer_met}
use Rattle.law_running_line.specs.Turns.{answered}
use Rattle.law_running_line.specs.Waits.{AtMostOne, had_above, had_below, is_of_below, kept_below}
use Rattle.law_running_line.specs.Wire.{Awaits, Coming, Has, Hold, Left, Wire, has, left, said, text_behind}
use Rattle.law_running_line.proofs.Waiting.{all_set, any_set, most_set, wire_of}
use Rattle.law_running_line.proofs.WiresActs.{Deals, Home, IsFine, IsLone, IsMid, MaySay, Seen, act_each, act_mid, act_wires, carries_said, deals, deals_aside, deals_closes, deals_hears, deals_notices, deals_sends, home_on, says_more, seen}
use Rattle.law_running_line.proofs.WiresBytes.{alone_set, amid_get, has_not_false}
use Rattle.law_running_line.proofs.WiresLink.{at_amid, none_amid}
use Rattle.law_running_line.proofs.WiresConnect.{all_set_as, not_kept}
use Rattle.law_running_line.proofs.WiresParts.{Of, awaits_has, awaits_left, has_awaits, has_left, left_awaits, left_has}
use Rattle.law_running_line.proofs.TurnJoined.{got_map, placed}

-- ---- what an act of that step does

abbrev pub act_twice : ℕ → ℕ → Act → List Wire → List Wire
act_twice place n (acts.Sends Exit m) wires = cond (is_told_answer m.body) (at_place place (answered (text_behind n (canonical m))) wires) (map (said Exit (text_behind n (canonical m))) wires)
act_twice place n act wires = act_wires Exit n act wires

pub data WiredTwice (place : ℕ) : List Act → List Wire → List Wire → Type 0 where
  twice_none : {wires : List Wire} → WiredTwice place [] wires wires
  twice_more : {act : Act} {others : List Act} {wires later : List Wire} (n : ℕ) → WiredTwice place others (act_twice place n act wires) later → WiredTwice place (act ∷ others) wires later

-- the scene, by how the entry stands to the second connection
abbrev pub met_by : Hold → Act → Scene → Scene
met_by Has act c = met_second act c
met_by Awaits act c = met_left act c
met_by Left act c = met_left act c

abbrev pub all_met_by : Hold → List Act → Scene → Scene
all_met_by hold [] c = c
all_met_by hold (act ∷ others) c = all_met_by hold others (met_by hold act c)

by_second : (told : List Act) (c : Scene) → all_met_by Has told c ≡ all_met_second told c
by_second [] c = refl
by_second (act ∷ others) c = by_second others (met_second act c)

by_awaits : (told : List Act) (c : Scene) → all_met_by Awaits told c ≡ all_met_left told c
by_awaits [] c = refl
by_awaits (act ∷ others) c = by_awaits others (met_left act c)

by_left : (told : List Act) (c : Scene) → all_met_by Left told c ≡ all_met_left told c
by_left [] c = refl
by_left (act ∷ others) c = by_left others (met_left act c)

pub met_is : (hold : Hold) (told : List Act) (c : Scene) → all_met_by hold told c ≡ answer_met hold told c
met_is Has told c = by_second told c
met_is Awaits told c = by_awaits told c
met_is Left told c = by_left told c

-- ---- the answer is no word

no_word : (what : Horizontal) (ws : List Horizontal) → is_answer what ≡ true → down_words (what ∷ ws) ≡ down_words ws
no_word (message.Notification code severity text) ws is = refl
no_word (message.CheckAlive ping id) ws is = absurd (false≢true is)
no_word (message.ServiceDescription service) ws is = absurd (false≢true is)
no_word (message.BoardAvailable board) ws is = absurd (false≢true is)
no_word message.RevokeBoardAvailable ws is = absurd (false≢true is)
no_word (message.MachineReady quality) ws is = absurd (false≢true is)
no_word message.RevokeMachineReady ws is = absurd (false≢true is)
no_word (message.StartTransport id) ws is = absurd (false≢true is)
no_word (message.StopTransport state id) ws is = absurd (false≢true is)
no_word (message.TransportFinished state id) ws is = absurd (false≢true is)
no_word (message.BoardForecast info) ws is = absurd (false≢true is)
no_word (message.QueryBoardInfo top bottom) ws is = absurd (false≢true is)
no_word (message.SendBoardInfo info) ws is = absurd (false≢true is)
no_word (message.Other name) ws is = absurd (false≢true is)

may_pass : (own : Hold) (said : List Horizontal) (m : Message) (rest : List Act) → is_answer m.body ≡ true → MaySay Exit own said (acts.Sends Exit m ∷ rest) → MaySay Exit own said rest
may_pass Awaits said m rest is may = may
may_pass Left said m rest is may = may
may_pass Has said m rest is may =
    down_words-append said (bodies (sent_on Exit rest)) ∙ ap (λ (ws : List DownWord). down_words said ++ ws) (sym (no_word m.body (bodies (sent_on Exit rest)) is))
    ∙ sym (down_words-append said (m.body ∷ bodies (sent_on Exit rest))) ∙ may

lone_pass : {own : Hold} {to from : List Coming} (m : Message) (rest : List Act) → is_answer m.body ≡ true → IsLone Exit (acts.Sends Exit m ∷ rest) own to from → IsLone Exit rest own to from
lone_pass {own = own} m rest is k = record { said = k.said; says = k.says; may = may_pass own (bodies k.said) m rest is k.may; none = k.none }

lone_answers : SaysAlone → {to from : List Coming} (n : ℕ) (m : Message) (rest : List Act) → is_answer m.body ≡ true → IsFit m → IsLone Exit (acts.Sends Exit m ∷ rest) Left to from → IsLone Exit rest Left to (from ++ text_behind n (canonical m))
lone_answers alone n m rest is fit k = record {
  said = k.said ++ m ∷ [];
  says = says_more alone n m fit k.says;
  may = ap down_words (bodies_append k.said m) ∙ down_words-append (bodies k.said) (m.body ∷ []) ∙ ap (λ (ws : List DownWord). down_words (bodies k.said) ++ ws) (no_word m.body [] is) ∙ sym (down_words-append (bodies k.said) []) ∙ nothing_more (bodies k.said) ∙ k.may;
  none = k.none;
}
  where
    nothing_more : (ms : List Horizontal) → down_words (ms ++ []) ≡ down_words ms
    nothing_more ms = ap down_words (append-nil ms)

-- ---- the connection of the answer, and the others

abbrev pub answer_seen : Hold → Horizontal → Seen → Seen
answer_seen Has what l = record l { away = l.away ++ what ∷ [] }
answer_seen Awaits what l = l
answer_seen Left what l = l

-- what comes to the exit is none of it
fine_pass : {new far : List ℕ} {l : Seen} {own beyond : Hold} {to from : List Coming} (m : Message) (rest : List Act) → is_answer m.body ≡ true → IsFine Exit (acts.Sends Exit m ∷ rest) new far l own beyond to from → IsFine Exit rest new far l own beyond to from
fine_pass m rest is k = record {
  comes = λ has_it. home_on Exit (acts.Sends Exit m) rest refl refl (k.comes has_it);
  goes = k.goes;
  quiet = k.quiet;
  called = k.called;
  lone = λ awaits. lone_pass m rest is (k.lone awaits);
  on = k.on;
  off = k.off;
}

-- one that the entry neither has nor awaits
fine_other : {new far : List ℕ} {l k : Seen} {own beyond : Hold} {to from : List Coming} (m : Message) (rest : List Act) → beyond ≡ Left → k.home ≡ l.home → IsFine Exit (acts.Sends Exit m ∷ rest) new far l own beyond to from → IsFine Exit rest new far k own beyond to from
fine_other {new} {to = to} m rest gone home f = record {
  comes = λ has_it. subst (λ (ms : List Horizontal). Home Exit rest new to ms) (sym home) (home_on Exit (acts.Sends Exit m) rest refl refl (f.comes has_it));
  goes = λ far. absurd (left_has (sym gone ∙ far));
  quiet = λ has_it awaits. absurd (left_awaits (sym gone ∙ awaits));
  called = λ awaits far. absurd (left_has (sym gone ∙ far));
  lone = λ awaits. absurd (left_awaits (sym gone ∙ awaits));
  on = λ has_it far. absurd (left_has (sym gone ∙ far));
  off = λ far not. absurd (left_has (sym gone ∙ far));
}

fine_has : SaysAlone → {new far : List ℕ} {l : Seen} {to from : List Coming} (n : ℕ) (m : Message) (rest : List Act) → IsFit m → IsFine Exit (acts.Sends Exit m ∷ rest) new far l Left Has to from → IsFine Exit rest new far (answer_seen Has m.body l) Left Has to (from ++ text_behind n (canonical m))
fine_has alone n m rest fit f = record {
  comes = λ has_it. absurd (left_has has_it);
  goes = λ far. carries_said alone n m fit (f.goes far);
  quiet = λ has_it awaits. absurd (left_has has_it);
  called = λ awaits far. absurd (left_awaits awaits);
  lone = λ awaits. absurd (has_awaits awaits);
  on = λ has_it far. absurd (left_has has_it);
  off = f.off;
}

fine_awaits : SaysAlone → {new far : List ℕ} {l : Seen} {to from : List Coming} (n : ℕ) (m : Message) (rest : List Act) → is_answer m.body ≡ true → IsFit m → IsFine Exit (acts.Sends Exit m ∷ rest) new far l Left Awaits to from
    → IsFine Exit rest new far l Left Awaits to (from ++ text_behind n (canonical m))
fine_awaits alone n m rest is fit f = record {
  comes = λ has_it. absurd (left_has has_it);
  goes = λ far. absurd (awaits_has far);
  quiet = λ has_it awaits. absurd (left_has has_it);
  called = λ awaits far. absurd (left_awaits awaits);
  lone = λ awaits. lone_answers alone n m rest is fit (f.lone awaits);
  on = λ has_it far. absurd (left_has has_it);
  off = λ far not. absurd (awaits_has far);
}

-- ---- the answer, among all connections

-- the second connection: the exit has left it, and the entry stands so to it
pub record IsTwice (place : ℕ) (hold : Hold) (wires : List Wire) : Type 0 where
  pub wire : Wire
  pub there : slice_get wires place ≡ Some wire
  pub gone : wire.above ≡ Left
  pub stands : wire.below ≡ hold

pub get_set : (wires : List Wire) (place : ℕ) (old new : Wire) → slice_get wires place ≡ Some old → slice_get (slice_set wires place new) place ≡ Some new
get_set [] place old new is = absurd (cc)
get_set (wire ∷ wires) zero old new is = refl
get_set (wire ∷ wires) (suc place) old new is = get_set wires place old new is

at_place_of : (P : Wire → Type 0) (wires : List Wire) (place : ℕ) (wire : Wire) → slice_get wires place ≡ Some wire → AllByRecursion P wires → P wire
at_place_of P wires place wire there all = at_amid P (amid_get wires place wire there) all

answer_fine : SaysAlone → (new far : List ℕ) (l : Seen) {wires : List Wire} (place n : ℕ) (m : Message) (rest : List Act) (hold : Hold) → IsFit m → is_answer m.body ≡ true → AtMostOne kept_below wires → (above below : Hold) (up down : List Coming) → slice_get wires place ≡ Some (wire_of above below up down)
    → above ≡ Left → below ≡ hold → AllByRecursion (λ (v : Wire). Of Exit (IsFine Exit (acts.Sends Exit m ∷ rest) new far l) v) wires
    → AllByRecursion (λ (v : Wire). Of Exit (IsFine Exit rest new far (answer_seen hold m.body l)) v) (slice_set wires place (answered (text_behind n (canonical m)) (wire_of above below up down)))
answer_fine alone new far l {wires} place n m rest hold fit is one Awaits below up down there gone stands all = absurd (awaits_left gone)
answer_fine alone new far l {wires} place n m rest hold fit is one Has below up down there gone stands all = absurd (has_left gone)
answer_fine alone new far l {wires} place n m rest Awaits fit is one Left Has up down there gone stands all = absurd (has_awaits stands)
answer_fine alone new far l {wires} place n m rest Left fit is one Left Has up down there gone stands all = absurd (has_left stands)
answer_fine alone new far l {wires} place n m rest Has fit is one Left Awaits up down there gone stands all = absurd (awaits_has stands)
answer_fine alone new far l {wires} place n m rest Left fit is one Left Awaits up down there gone stands all = absurd (awaits_left stands)
answer_fine alone new far l {wires} place n m rest Has fit is one Left Left up down there gone stands all = absurd (left_has stands)
answer_fine alone new far l {wires} place n m rest Awaits fit is one Left Left up down there gone stands all = absurd (left_awaits stands)
answer_fine alone new far l {wires} place n m rest Has fit is one Left Has up down there gone stands all =
    let w : Wire = wire_of Left Has up down in
    let P : Wire → Type 0 = λ (v : Wire). Of Exit (IsFine Exit (acts.Sends Exit m ∷ rest) new far l) v in
    let Q : Wire → Type 0 = λ (v : Wire). Of Exit (IsFine Exit rest new far (answer_seen Has m.body l)) v in
    alone_set kept_below P Q (λ v not f. fine_other m rest (not_kept v.below not) refl f) (wire_of Left Has up (down ++ text_behind n (canonical m))) (fine_has alone n m rest fit (at_place_of P wires place w there all)) one place w there refl all
answer_fine alone new far l {wires} place n m rest Awaits fit is one Left Awaits up down there gone stands all =
    let w : Wire = wire_of Left Awaits up down in
    let P : Wire → Type 0 = λ (v : Wire). Of Exit (IsFine Exit (acts.Sends Exit m ∷ rest) new far l) v in
    let Q : Wire → Type 0 = λ (v : Wire). Of Exit (IsFine Exit rest new far l) v in
    alone_set kept_below P Q (λ v not f. fine_other m rest (not_kept v.below not) refl f) (wire_of Left Awaits up (down ++ text_behind n (canonical m))) (fine_awaits alone n m rest is fit (at_place_of P wires place w there all)) one place w there refl all
answer_fine alone new far l {wires} place n m rest Left fit is one Left Left up down there gone stands all =
    let w : Wire = wire_of Left Left up down in
    let P : Wire → Type 0 = λ (v : Wire). Of Exit (IsFine Exit (acts.Sends Exit m ∷ rest) new far l) v in
    let Q : Wire → Type 0 = λ (v : Wire). Of Exit (IsFine Exit rest new far l) v in
    all_set_as P Q (λ v f. fine_pass m rest is f) w (fine_pass m rest is (at_place_of P wires place w there all)) wires place all

-- the ends stay
answered_holds : (test : Hold → Hold → Bool) (c : List Coming) (above below : Hold) (up down : List Coming) → test (answered c (wire_of above below up down)).above (answered c (wire_of above below up down)).below ≡ test above below
answered_holds test c above Awaits up down = refl
answered_holds test c above Has up down = refl
answered_holds test c above Left up down = refl

answered_ends : (test : Hold → Hold → Bool) (c : List Coming) (wire : Wire) → test (answered c wire).above (answered c wire).below ≡ test wire.above wire.below
answered_ends test c wire = answered_holds test c wire.above wire.below wire.up wire.down

none_away_behind : (hold : Hold) (what : Horizontal) (l : Seen) (wires : List Wire) (place : ℕ) (wire : Wire) → slice_get wires place ≡ Some wire → wire.below ≡ hold → list_any had_below wires ≡ false → l.away ≡ [] → (answer_seen hold what l).away ≡ []
none_away_behind Has what l wires place wire there stands none away = absurd (has_not_false (none_amid had_below (amid_get wires place wire there) none) stands)
none_away_behind Awaits what l wires place wire there stands none away = away
none_away_behind Left what l wires place wire there stands none away = away

seen_home : (hold : Hold) (what : Horizontal) (l : Seen) → (answer_seen hold what l).home ≡ l.home
seen_home Has what l = refl
seen_home Awaits what l = refl
seen_home Left what l = refl

seen_stands : (hold : Hold) (what : Horizontal) (l : Seen) → (answer_seen hold what l).stands ≡ l.stands
seen_stands Has what l = refl
seen_stands Awaits what l = refl
seen_stands Left what l = refl

answer_mid : SaysAlone → {new far : List ℕ} {own_open far_open : Bool} {l : Seen} {wires : List Wire} (place n : ℕ) (m : Message) (rest : List Act) (hold : Hold) → IsFit m → is_answer m.body ≡ true → (twice : IsTwice place hold wires) → IsMid Exit (acts.Sends Exit m ∷ rest) new far own_open far_open l wires
    → IsMid Exit rest new far own_open far_open (answer_seen hold m.body l) (at_place place (answered (text_behind n (canonical m))) wires)
answer_mid alone {new} {far} {own_open} {far_open} {l} {wires} place n m rest hold fit is twice k =
    let c : List Coming = text_behind n (canonical m) in
    let w : Wire = twice.wire in
    let w2 : Wire = answered c w in
    let set : at_place place (answered c) wires ≡ slice_set wires place w2 = placed place (answered c) wires w twice.there in
    let set_is : IsMid Exit rest new far own_open far_open (answer_seen hold m.body l) (slice_set wires place w2) = record {
      fine = answer_fine alone new far l place n m rest hold fit is k.one_far w.above w.below w.up w.down twice.there twice.gone twice.stands k.fine;
      own = any_set had_above w w2 (answered_ends (λ above below. has above) c w) wires place twice.there ∙ k.own;
      beyond = any_set had_below w w2 (answered_ends (λ above below. has below) c w) wires place twice.there ∙ k.beyond;
      joined = any_set is_joined w w2 (answered_ends (λ above below. has above && has below) c w) wires place twice.there ∙ k.joined ∙ sym (seen_stands hold m.body l);
      none_home = λ none. seen_home hold m.body l ∙ k.none_home none;
      none_away = λ none. none_away_behind hold m.body l wires place w twice.there twice.stands (k.beyond ∙ none) (k.none_away none);
      one_own = most_set had_above w w2 (answered_ends (λ above below. has above) c w) place twice.there k.one_own;
      one_far = most_set kept_below w w2 (answered_ends (λ above below. is_of_below below) c w) place twice.there k.one_far;
    } in
    subst (λ (ws : List Wire). IsMid Exit rest new far own_open far_open (answer_seen hold m.body l) ws) (sym set) set_is

-- ---- the second connection stays where it is

said_stays : (c : List Coming) (above below : Hold) (up down : List Coming) → above ≡ Left → said Exit c (wire_of above below up down) ≡ wire_of above below up down
said_stays c Awaits below up down is = refl
said_stays c Has below up down is = absurd (has_left is)
said_stays c Left below up down is = refl

left_stays : (above below : Hold) (up down : List Coming) → above ≡ Left → left Exit (wire_of above below up down) ≡ wire_of above below up down
left_stays Awaits below up down is = refl
left_stays Has below up down is = absurd (has_left is)
left_stays Left below up down is = refl

twice_map : {place : ℕ} {hold : Hold} {wires : List Wire} (change : Wire → Wire) → (t : IsTwice place hold wires) → change t.wire ≡ t.wire → IsTwice place hold (map change wires)
twice_map {place} {hold} {wires} change t same = record {
  wire = t.wire;
  there = got_map change wires place t.wire t.there ∙ ap (λ (w : Wire). Some w) same;
  gone = t.gone;
  stands = t.stands;
}

pub twice_said : {place : ℕ} {hold : Hold} {wires : List Wire} (c : List Coming) → IsTwice place hold wires → IsTwice place hold (map (said Exit c) wires)
twice_said c t = twice_map (said Exit c) t (said_stays c t.wire.above t.wire.below t.wire.up t.wire.down t.gone)

twice_gone : {place : ℕ} {hold : Hold} {wires : List Wire} → IsTwice place hold wires → IsTwice place hold (map (left Exit) wires)
twice_gone t = twice_map (left Exit) t (left_stays t.wire.above t.wire.below t.wire.up t.wire.down t.gone)

pub twice_answered : {place : ℕ} {hold : Hold} {wires : List Wire} (c : List Coming) → IsTwice place hold wires → IsTwice place hold (at_place place (answered c) wires)
twice_answered {place} {hold} {wires} c t = subst (λ (ws : List Wire). IsTwice place hold ws) (sym (placed place (answered c) wires t.wire t.there)) (record {
  wire = answered c t.wire;
  there = get_set wires place t.wire (answered c t.wire) t.there;
  gone = above_stays c t.wire.above t.wire.below t.wire.up t.wire.down ∙ t.gone;
  stands = below_stays c t.wire.above t.wire.below t.wire.up t.wire.down ∙ t.stands;
})
  where
    above_stays : (c : List Coming) (above below : Hold) (up down : List Coming) → (answered c (wire_of above below up down)).above ≡ above
    above_stays c above Awaits up down = refl
    above_stays c above Has up down = refl
    above_stays c above Left up down = refl

    below_stays : (c : List Coming) (above below : Hold) (up down : List Coming) → (answered c (wire_of above below up down)).below ≡ below
    below_stays c above Awaits up down = refl
    below_stays c above Has up down = refl
    below_stays c above Left up down = refl

-- ---- one act

abbrev IsPlainAct : Act → Type 0
IsPlainAct (acts.Sends Exit m) = is_answer m.body ≡ false
IsPlainAct act = Unit {0}

said_plain : (hold : Hold) (m : Message) (c : Scene) → is_answer m.body ≡ false → met_by hold (acts.Sends Exit m) c ≡ met (acts.Sends Exit m) c
said_plain Has m c plain = ap (λ (test : Bool). second_said test m.body c) plain
said_plain Awaits m c plain = ap (λ (test : Bool). unanswered test m.body c) plain
said_plain Left m c plain = ap (λ (test : Bool). unanswered test m.body c) plain

met_plainly : (hold : Hold) (act : Act) (c : Scene) → IsPlainAct act → met_by hold act c ≡ met act c
met_plainly hold (acts.Sends Exit m) c plain = said_plain hold m c plain
met_plainly Has (acts.Sends Entry m) c plain = refl
met_plainly Awaits (acts.Sends Entry m) c plain = refl
met_plainly Has _ c plain = refl
met_plainly Awaits _ c plain = refl
met_plainly Left _ c plain = refl

acts_plainly : (place n : ℕ) (act : Act) (wires : List Wire) → IsPlainAct act → act_twice place n act wires ≡ act_wires Exit n act wires
acts_plainly place n (acts.Sends Exit m) wires plain = ap (λ (test : Bool). cond test (at_place place (answered (text_behind n (canonical m))) wires) (map (said Exit (text_behind n (canonical m))) wires)) (same_answer m.body ∙ plain)
acts_plainly place n (acts.Sends Entry m) wires plain = refl
acts_plainly place n _ wires plain = refl

pub twice_acts : {place : ℕ} {hold : Hold} {wires : List Wire} (n : ℕ) (act : Act) → Deals Exit act → IsTwice place hold wires → IsTwice place hold (act_wires Exit n act wires)
twice_acts n _ (deals_hears m) t = t
twice_acts n _ (deals_sends m) t = twice_said (text_behind n (canonical m)) t
twice_acts n _ deals_closes t = twice_gone t
twice_acts n _ deals_notices t = twice_gone t
twice_acts {place} {hold} {wires} n act (deals_aside aside) t = subst (λ (ws : List Wire). IsTwice place hold ws) (sym (aside.wires n wires)) t

record Twice (place : ℕ) (hold : Hold) (rest : List Act) (new far : List ℕ) (own_open far_open : Bool) (l : Seen) (wires : List Wire) : Type 0 where
  mid : IsMid Exit rest new far own_open far_open l wires
  twice : IsTwice place hold wires

twice_plain : SaysAlone → {new far : List ℕ} {own_open far_open : Bool} {wires : List Wire} (place n : ℕ) (hold : Hold) (act : Act) (rest : List Act) (c : Scene) → IsFitAct act → IsPlainAct act → Twice place hold (act ∷ rest) new far own_open far_open (seen Exit c) wires
    → Twice place hold rest new far (open_act Exit own_open act) far_open (seen Exit (met_by hold act c)) (act_twice place n act wires)
twice_plain alone {new} {far} {own_open} {far_open} {wires} place n hold act rest c fit plain t =
    let next : Twice place hold rest new far (open_act Exit own_open act) far_open (seen Exit (met act c)) (act_wires Exit n act wires) = record { mid = act_mid alone Exit n act rest c fit (deals Exit act) t.mid; twice = twice_acts n act (deals Exit act) t.twice } in
    subst (λ (ws : List Wire). Twice place hold rest new far (open_act Exit own_open act) far_open (seen Exit (met_by hold act c)) ws) (sym (acts_plainly place n act wires plain))
    (subst (λ (d : Scene). Twice place hold rest new far (open_act Exit own_open act) far_open (seen Exit d) (act_wires Exit n act wires)) (sym (met_plainly hold act c plain)) next)

seen_answer : (hold : Hold) (m : Message) (c : Scene) → is_answer m.body ≡ true → seen Exit (met_by hold (acts.Sends Exit m) c) ≡ answer_seen hold m.body (seen Exit c)
seen_answer Has m c is = ap (λ (test : Bool). seen Exit (second_said test m.body c)) is
seen_answer Awaits m c is = ap (λ (test : Bool). seen Exit (unanswered test m.body c)) is
seen_answer Left m c is = ap (λ (test : Bool). seen Exit (unanswered test m.body c)) is

twice_answer : SaysAlone → {new far : List ℕ} {own_open far_open : Bool} {wires : List Wire} (place n : ℕ) (hold : Hold) (m : Message) (rest : List Act) (c : Scene) → IsFit m → is_answer m.body ≡ true → Twice place hold (acts.Sends Exit m ∷ rest) new far own_open far_open (seen Exit c) wires
    → Twice place hold rest new far own_open far_open (seen Exit (met_by hold (acts.Sends Exit m) c)) (act_twice place n (acts.Sends Exit m) wires)
twice_answer alone {new} {far} {own_open} {far_open} {wires} place n hold m rest c fit is t =
    let text : List Coming = text_behind n (canonical m) in
    let W : Bool → List Wire = λ (test : Bool). cond test (at_place place (answered text) wires) (map (said Exit text) wires) in
    subst (λ (test : Bool). Twice place hold rest new far own_open far_open (seen Exit (met_by hold (acts.Sends Exit m) c)) (W test)) (sym (same_answer m.body ∙ is))
    (subst (λ (l : Seen). Twice place hold rest new far own_open far_open l (at_place place (answered text) wires)) (sym (seen_answer hold m c is))
    (record { mid = answer_mid alone place n m rest hold fit is t.twice t.mid; twice = twice_answered text t.twice }))

twice_said_by : SaysAlone → {new far : List ℕ} {own_open far_open : Bool} {wires : List Wire} (place n : ℕ) (hold : Hold) (m : Message) (rest : List Act) (c : Scene) (test : Bool) → is_answer m.body ≡ test → IsFit m → Twice place hold (acts.Sends Exit m ∷ rest) new far own_open far_open (seen Exit c) wires
    → Twice place hold rest new far own_open far_open (seen Exit (met_by hold (acts.Sends Exit m) c)) (act_twice place n (acts.Sends Exit m) wires)
twice_said_by alone place n hold m rest c true is fit t = twice_answer alone place n hold m rest c fit is t
twice_said_by alone place n hold m rest c false is fit t = twice_plain alone place n hold (acts.Sends Exit m) rest c fit is t

twice_act : SaysAlone → {new far : List ℕ} {own_open far_open : Bool} {wires : List Wire} (place n : ℕ) (hold : Hold) (act : Act) (rest : List Act) (c : Scene) → IsFitAct act → Twice place hold (act ∷ rest) new far own_open far_open (seen Exit c) wires
    → Twice place hold rest new far (open_act Exit own_open act) far_open (seen Exit (met_by hold act c)) (act_twice place n act wires)
twice_act alone place n hold (acts.Sends Exit m) rest c fit t = twice_said_by alone place n hold m rest c (is_answer m.body) refl fit t
twice_act alone place n hold (acts.Sends Entry m) rest c fit t = twice_plain alone place n hold (acts.Sends Entry m) rest c fit tt t
twice_act alone place n hold act rest c fit t = twice_plain alone place n hold act rest c fit tt t

-- ALL ACTS
acts_twice : SaysAlone → {new far : List ℕ} {own_open far_open : Bool} {wires later : List Wire} (place : ℕ) (hold : Hold) (told : List Act) (c : Scene) → AreFitActs told → WiredTwice place told wires later → Twice place hold told new far own_open far_open (seen Exit c) wires
    → Twice place hold [] new far (open_after Exit own_open told) far_open (seen Exit (all_met_by hold told c)) later
acts_twice alone place hold [] c none_said twice_none t = t
acts_twice alone {own_open = own_open} place hold (act ∷ others) c (more_said fit more) (twice_more n w) t =
    acts_twice alone {own_open = open_act Exit own_open act} place hold others (met_by hold act c) more w (twice_act alone place n hold act others c fit t)

pub second_mid : SaysAlone → {new far : List ℕ} {own_open far_open : Bool} {wires later : List Wire} (place : ℕ) (hold : Hold) (told : List Act) (c : Scene) → AreFitActs told → WiredTwice place told wires later → IsTwice place hold wires → IsMid Exit told new far own_open far_open (seen Exit c) wires
    → IsMid Exit [] new far (open_after Exit own_open told) far_open (seen Exit (all_met_by hold told c)) later
second_mid alone place hold told c fit w twice m = (acts_twice alone place hold told c fit w (record { mid = m; twice = twice })).mid

-- what looks at neither acts nor messages, and is the same whatever goes down on a connection that the exit has left
answer_each : (F : Hold → Hold → List Coming → List Coming → Type 0) → ((beyond : Hold) (to from c : List Coming) → F Left beyond to from → F Left beyond to (from ++ c)) → {hold : Hold} {wires : List Wire} (place : ℕ) (c : List Coming) → IsTwice place hold wires → AllByRecursion (Of Exit F) wires
    → AllByRecursion (Of Exit F) (at_place place (answered c) wires)
answer_each F goes {hold} {wires} place c t all =
    subst (λ (ws : List Wire). AllByRecursion (Of Exit F) ws) (sym (placed place (answered c) wires t.wire t.there))
    (all_set (Of Exit F) (answered c t.wire) (by t.wire.above t.wire.below t.wire.up t.wire.down t.gone (at_place_of (Of Exit F) wires place t.wire t.there all)) wires place all)
  where
    by : (above below : Hold) (up down : List Coming) → above ≡ Left → F above below up down → Of Exit F (answered c (wire_of above below up down))
    by Awaits below up down is f = absurd (awaits_left is)
    by Has below up down is f = absurd (has_left is)
    by Left Awaits up down is f = goes Awaits up down c f
    by Left Has up down is f = goes Has up down c f
    by Left Left up down is f = f

pub twice_each : (F : Hold → Hold → List Coming → List Coming → Type 0) → ((beyond : Hold) (to from c : List Coming) → F Has beyond to from → F Has beyond to (from ++ c)) → ((beyond : Hold) (to from c : List Coming) → F Left beyond to from → F Left beyond to (from ++ c))
    → ((beyond : Hold) (to from : List Coming) → F Has beyond to from → F Left beyond [] from) → {hold : Hold} {wires : List Wire} (place n : ℕ) (act : Act) → IsTwice place hold wires → AllByRecursion (Of Exit F) wires → AllByRecursion (Of Exit F) (act_twice place n act wires)
twice_each F more goes leaves {wires = wires} place n (acts.Sends Exit m) t all = by (is_told_answer m.body)
  where
    by : (test : Bool) → AllByRecursion (Of Exit F) (cond test (at_place place (answered (text_behind n (canonical m))) wires) (map (said Exit (text_behind n (canonical m))) wires))
    by true = answer_each F goes place (text_behind n (canonical m)) t all
    by false = act_each F more leaves Exit n (acts.Sends Exit m) (deals_sends m) wires all
twice_each F more goes leaves {wires = wires} place n (acts.Sends Entry m) t all = all
twice_each F more goes leaves {wires = wires} place n act t all = act_each F more leaves Exit n act (deals Exit act) wires all
