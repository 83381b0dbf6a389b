-- A LINK BEHIND THE ACTS at one of its sides: what waits on it and what it carries go on, where the input is none of its own.
use Rattle.std.proofs.Common.{Bool, List, [], ap, append-nil, false, map, refl, subst, sym, true, ℕ, ◌++◌, ◌∙◌, ◌∷◌, ◌≡◌, ◌&&◌, ◌||◌}
use Rattle.std.specs.Prelude.{drop}
use Rattle.std.proofs.lemmas.Bool.{false≢true, or_from, or_parts}
use Rattle.std.specs.List.{AllByRecursion, list_any}
use Rattle.line_base.specs.declared.states.Side.{Side}
use Rattle.line_base.specs.declared.states.Side.TheVariants.{Entry, Exit}
use Rattle.board_record.specs.declared.sensed.Sensed.{Sensed}
use Rattle.hermes_horizontal.specs.declared.message.Horizontal.{Horizontal}
use Rattle.hermes_horizontal.specs.declared.message.Message.{Message}
use Rattle.session_core.specs.declared.state.SessionState.TheVariants.{Handshake}
use Rattle.handover_in.specs.State.{may_connect}
use Rattle.node_core.specs.Node.{NodeState}
use Rattle.node_core.specs.Sides.{is_open}
use Rattle.node_core.specs.declared.act.Act.{Act}
use Rattle.node_core.specs.declared.act.Act.TheVariants as acts
use Rattle.law_custody.specs.Bytes.{Flows, texts_of}
use Rattle.law_custody.specs.Words.{DownWord, DownstreamService, UpWord, down_words, up_words}
use Rattle.law_custody.proofs.Lists.{down_words-append, up_words-append}
use Rattle.law_link_messages.specs.Fit.{AreFitActs, sent_on}
use Rattle.law_link_messages.specs.Heard.{bodies}
use Rattle.law_machine_custody.specs.Ahead.{IsFreeRead}
use Rattle.law_machine_custody.specs.Scene.{Scene, all_met}
use Rattle.step_rules.specs.Opened.{open_after}
use Rattle.law_one_standing.proofs.Carrying.{SaysAlone}
use Rattle.law_one_standing.proofs.CarryingSides.{heard_in}
use Rattle.law_running_line.specs.Off.{AreMute, more_mute, none_mute}
use Rattle.law_running_line.specs.Stands.{Carried, Carries, is_joined}
use Rattle.law_running_line.specs.Waits.{AtMostOne, IsUncome, IsUntaken, SaidUp, Says, Waits, had_above, had_below, has_come, is_of_below, kept_below, none_passes, not_come, passes_alone, passes_not, was_left}
use Rattle.law_running_line.specs.Wire.{Awaits, Coming, Has, Hold, Left, Wire, end_at, end_beyond, has, read_at, with_read}
use Rattle.law_running_line.proofs.Waiting.{wire_of}
use Rattle.law_running_line.proofs.WiresActs.{Home, IsBare, IsFine, IsMid, MaySay, Seen, Wired, acts_each, acts_mid, home_closes, home_hears, seen, with_comes}
use Rattle.law_running_line.proofs.WiresParts.{Of, all_mapped, both_have, far_has, far_held, has_awaits, held_far, held_own, joined_by, left_awaits, left_has, most_mapped, own_has, own_held, read_bytes, read_none}
use Rattle.law_running_line.proofs.TurnJoined.{any_map}
use Rattle.law_running_line.proofs.TurnLinks.{any_weaker, had_of}

-- ---- one among the connections of a link

pub data Amid (wire : Wire) : List Wire → Type 0 where
  amid_first : {wires : List Wire} → Amid wire (wire ∷ wires)
  amid_later : {first : Wire} {wires : List Wire} → Amid wire wires → Amid wire (first ∷ wires)

pub all_from : (P : Wire → Type 0) (wires : List Wire) → ((wire : Wire) → Amid wire wires → P wire) → AllByRecursion P wires
all_from P [] each = tt
all_from P (wire ∷ wires) each = (each wire amid_first, all_from P wires (λ other there. each other (amid_later there)))

pub at_amid : (P : Wire → Type 0) {wire : Wire} {wires : List Wire} → Amid wire wires → AllByRecursion P wires → P wire
at_amid P amid_first all = all.0
at_amid P (amid_later there) all = at_amid P there all.1

first_or : (a b : Bool) → a ≡ true → (a || b) ≡ true
first_or true b is = refl
first_or false b is = absurd (false≢true is)

later_or : (a b : Bool) → b ≡ true → (a || b) ≡ true
later_or true b is = refl
later_or false b is = is

pub any_amid : (test : Wire → Bool) {wire : Wire} {wires : List Wire} → Amid wire wires → test wire ≡ true → list_any test wires ≡ true
any_amid test {wires = []} there is = elim there [ ]
any_amid test {wires = first ∷ wires} amid_first is = first_or (test first) (list_any test wires) is
any_amid test {wires = first ∷ wires} (amid_later there) is = later_or (test first) (list_any test wires) (any_amid test there is)

pub none_amid : (test : Wire → Bool) {wire : Wire} {wires : List Wire} → Amid wire wires → list_any test wires ≡ false → test wire ≡ false
none_amid test amid_first none = (or_parts _ _ none).0
none_amid test (amid_later there) none = none_amid test there (or_parts _ _ none).1

-- of what one alone may pass, it fails: so none does
pub alone_amid : (test other : Wire → Bool) → ((wire : Wire) → test wire ≡ false → other wire ≡ false) → {wire : Wire} {wires : List Wire} → AtMostOne test wires → Amid wire wires → test wire ≡ true → other wire ≡ false → list_any other wires ≡ false
alone_amid test other less none_passes there is fails = elim there [ ]
alone_amid test other less (passes_not not others) amid_first is fails = absurd (false≢true (sym not ∙ is))
alone_amid test other less (passes_not {wire = first} not others) (amid_later there) is fails = or_from _ _ (less first not) (alone_amid test other less others there is fails)
alone_amid test other less (passes_alone {wires = wires} none) amid_first is fails = or_from _ _ fails (any_weaker test other less wires none)
alone_amid test other less (passes_alone none) (amid_later there) is fails = absurd (false≢true (sym (none_amid test there none) ∙ is))

-- ---- words that are mute

pub mute_down : (told : List Act) → AreMute Exit told → down_words (bodies (sent_on Exit told)) ≡ []
mute_down [] none_mute = refl
mute_down (acts.Sends Exit message ∷ others) (more_mute mute more) =
    down_words-append (message.body ∷ []) (bodies (sent_on Exit others)) ∙ ap (λ (ws : List DownWord). ws ++ down_words (bodies (sent_on Exit others))) mute ∙ mute_down others more
mute_down (act ∷ others) (more_mute mute more) = mute_down others more

pub mute_up : (told : List Act) → AreMute Entry told → up_words (bodies (sent_on Entry told)) ≡ []
mute_up [] none_mute = refl
mute_up (acts.Sends Entry message ∷ others) (more_mute mute more) =
    up_words-append (message.body ∷ []) (bodies (sent_on Entry others)) ∙ ap (λ (ws : List UpWord). ws ++ up_words (bodies (sent_on Entry others))) mute ∙ mute_up others more
mute_up (act ∷ others) (more_mute mute more) = mute_up others more

-- ---- BEFORE THE ACTS, at the exit of the machine above

pub has_is : {hold : Hold} → hold ≡ Has → has hold ≡ true
has_is is = ap has is

pub of_is : {hold : Hold} → hold ≡ Has → is_of_below hold ≡ true
of_is is = ap is_of_below is

pub joined_is : (wire : Wire) → wire.above ≡ Has → wire.below ≡ Has → is_joined wire ≡ true
joined_is wire a b = rw (a, b) refl

apart_is : (above below : Hold) → (above ≡ Has → ⊥) → (has above && has below) ≡ false
apart_is Awaits below not = refl
apart_is Has below not = absurd (not refl)
apart_is Left below not = refl

apart_up : (above below : Hold) → (below ≡ Has → ⊥) → (has above && has below) ≡ false
apart_up Awaits below not = refl
apart_up Left below not = refl
apart_up Has Awaits not = refl
apart_up Has Has not = absurd (not refl)
apart_up Has Left not = refl

pub no_joined : (above below : Hold) → has below ≡ false → (has above && has below) ≡ false
no_joined Awaits below not = refl
no_joined Has below not = not
no_joined Left below not = refl

pub no_joint : (above below : Hold) → has above ≡ false → (has above && has below) ≡ false
no_joint Awaits below not = refl
no_joint Has below not = absurd (false≢true (sym not))
no_joint Left below not = refl

pub says_quiet : (own : Hold) (said : List Horizontal) (told : List Act) → down_words said ≡ [] → (own ≡ Has → down_words (bodies (sent_on Exit told)) ≡ []) → MaySay Exit own said told
says_quiet Awaits said told quiet mute = quiet
says_quiet Left said told quiet mute = quiet
says_quiet Has said told quiet mute = down_words-append said (bodies (sent_on Exit told)) ∙ ap (λ (ws : List DownWord). ws ++ down_words (bodies (sent_on Exit told))) quiet ∙ mute refl

pub says_call : (own : Hold) (said : List Horizontal) (told : List Act) → SaidUp own said → (own ≡ Has → up_words (bodies (sent_on Entry told)) ≡ []) → MaySay Entry own said told
says_call _ _ told not_come mute = refl
says_call _ said told (has_come is) mute =
    up_words-append said (bodies (sent_on Entry told)) ∙ ap (λ (ws : List UpWord). ws ++ up_words (bodies (sent_on Entry told))) is ∙ ap (λ (ws : List UpWord). DownstreamService ∷ ws) (mute refl)
says_call _ said told (was_left call) mute = call

-- the link at a side, before the acts
abbrev pub link_seen : List Wire → List Horizontal → List Horizontal → Seen
link_seen wires home away = record { stands = list_any is_joined wires; home = home; away = away }

-- of the exit it may say nothing of boards on one that isn't come below, of the entry nothing more on one that isn't taken above
pub bare_exit : {a b : NodeState} {unread : List Sensed} {up down : List Horizontal} {wires : List Wire} (told : List Act) → Waits a.lane.body b.lane.body unread wires → Carried a b up down wires
    → ((wire : Wire) → Amid wire wires → wire.above ≡ Has → wire.below ≡ Awaits → AreMute Exit told) → (wire : Wire) → Amid wire wires → Of Exit (IsBare Exit told b.lane.entry_bytes (link_seen wires up down)) wire
bare_exit {a} {b} {unread} {up} {down} {wires} told w c mute wire there = record {
  goes = at_amid _ there c.down;
  quiet = at_amid _ there c.quiet;
  called = at_amid _ there c.called;
  lone = λ awaits. let u : IsUncome wire = at_amid _ there w.uncome awaits in record {
    said = u.said;
    says = u.says;
    may = says_quiet wire.above (bodies u.said) told u.quiet (λ has_it. mute_down told (mute wire there has_it awaits));
    none = u.up;
  };
  on = λ has_it far. any_amid is_joined there (joined_is wire has_it far);
  off = λ far not. alone_amid kept_below is_joined (λ other none. no_joined other.above other.below (had_of other.below none)) w.one_below there (of_is far) (apart_is wire.above wire.below not);
}

pub bare_entry : {a b : NodeState} {unread : List Sensed} {up down : List Horizontal} {wires : List Wire} (told : List Act) → Waits a.lane.body b.lane.body unread wires → Carried a b up down wires
    → ((wire : Wire) → Amid wire wires → wire.above ≡ Awaits → wire.below ≡ Has → AreMute Entry told) → (wire : Wire) → Amid wire wires → Of Entry (IsBare Entry told a.lane.exit_bytes (link_seen wires down up)) wire
bare_entry {a} {b} {unread} {up} {down} {wires} told w c mute wire there = record {
  goes = at_amid _ there c.up;
  quiet = λ has_it awaits. at_amid _ there c.called awaits has_it;
  called = λ awaits has_it. at_amid _ there c.quiet has_it awaits;
  lone = λ awaits. let u : IsUntaken wire = at_amid _ there w.untaken awaits in record {
    said = u.said;
    says = u.says;
    may = says_call wire.below (bodies u.said) told u.call (λ has_it. mute_up told (mute wire there awaits has_it));
    none = u.down;
  };
  on = λ has_it far. any_amid is_joined there (joined_is wire far has_it);
  off = λ far not. alone_amid had_above is_joined (λ other none. no_joint other.above other.below none) w.one_above there (has_is far) (apart_up wire.above wire.below not);
}

pub mid_exit : {a b : NodeState} {unread : List Sensed} {up down : List Horizontal} {wires : List Wire} (told : List Act) (new : List ℕ) → Waits a.lane.body b.lane.body unread wires → Carried a b up down wires → heard_in Exit told ≡ 0 → new ≡ a.lane.exit_bytes
    → (a.lane.body.exit.session.state ≡ Handshake → AreMute Exit told) → IsMid Exit told new b.lane.entry_bytes (is_open Exit a.lane.body) (is_open Entry b.lane.body) (link_seen wires up down) wires
mid_exit {a} {b} {unread} {up} {down} {wires} told new w c heard bytes mute = record {
  fine = all_from (Of Exit (IsFine Exit told new b.lane.entry_bytes (link_seen wires up down))) wires (λ wire there.
      with_comes (λ has_it. home_hears (subst (λ (n : ℕ). Carries new wire.up (drop n up)) (sym heard) (subst (λ (bs : List ℕ). Carries bs wire.up up) (sym bytes) (at_amid _ there c.up has_it))))
      (bare_exit told w c (λ other here has_it awaits. mute (at_amid _ here w.taken_first has_it awaits)) wire there));
  own = w.exit_open;
  beyond = w.entry_open;
  joined = refl;
  none_home = λ none. c.none_up (w.exit_open ∙ none);
  none_away = λ none. c.none_down (w.entry_open ∙ none);
  one_own = w.one_above;
  one_far = w.one_below;
}

pub mid_entry : {a b : NodeState} {unread : List Sensed} {up down : List Horizontal} {wires : List Wire} (told : List Act) (new : List ℕ) → Waits a.lane.body b.lane.body unread wires → Carried a b up down wires → heard_in Entry told ≡ 0 → new ≡ b.lane.entry_bytes
    → (b.lane.body.entry.session.state ≡ Handshake → AreMute Entry told) → IsMid Entry told new a.lane.exit_bytes (is_open Entry b.lane.body) (is_open Exit a.lane.body) (link_seen wires down up) wires
mid_entry {a} {b} {unread} {up} {down} {wires} told new w c heard bytes mute = record {
  fine = all_from (Of Entry (IsFine Entry told new a.lane.exit_bytes (link_seen wires down up))) wires (λ wire there.
      with_comes (λ has_it. home_hears (subst (λ (n : ℕ). Carries new wire.down (drop n down)) (sym heard) (subst (λ (bs : List ℕ). Carries bs wire.down down) (sym bytes) (at_amid _ there c.down has_it))))
      (bare_entry told w c (λ other here awaits has_it. mute (at_amid _ here w.called awaits has_it)) wire there));
  own = w.entry_open;
  beyond = w.exit_open;
  joined = refl;
  none_home = λ none. c.none_down (w.entry_open ∙ none);
  none_away = λ none. c.none_up (w.exit_open ∙ none);
  one_own = w.one_below;
  one_far = w.one_above;
}

-- ---- what is read changes nothing of it

abbrev as_read : (Hold → Hold → List Coming → List Coming → Type 0) → ℕ → Hold → Hold → List Coming → List Coming → Type 0
as_read G n own beyond to from = G own beyond (with_read n to) from

read_of : (side : Side) (G : Hold → Hold → List Coming → List Coming → Type 0) (n : ℕ) (wire : Wire) → Of side (as_read G n) wire → Of side G (read_at side n wire)
read_of Exit G n wire k = k
read_of Entry G n wire k = k

read_test : (test : Hold → Hold → Bool) (side : Side) (n : ℕ) (wire : Wire) → test (end_at side (read_at side n wire)) (end_beyond side (read_at side n wire)) ≡ test (end_at side wire) (end_beyond side wire)
read_test test Exit n wire = refl
read_test test Entry n wire = refl

carries_read : {waiting : List ℕ} {messages : List Horizontal} (n : ℕ) (to : List Coming) → Carries waiting to messages → Carries waiting (with_read n to) messages
carries_read {waiting} n to k = record { said = k.said; fit = k.fit; flows = subst (λ (bytes : List ℕ). Flows waiting bytes (texts_of k.said)) (sym (read_bytes n to)) k.flows; are = k.are }

home_read : {new : List ℕ} {messages : List Horizontal} (side : Side) (told : List Act) (n : ℕ) (to : List Coming) → Home side told new to messages → Home side told new (with_read n to) messages
home_read side told n to (home_hears k) = home_hears (carries_read n to k)
home_read side told n to (home_closes closes) = home_closes closes

fine_read : {new far : List ℕ} {l : Seen} {own beyond : Hold} {to from : List Coming} (side : Side) (told : List Act) (n : ℕ) → IsFine side told new far l own beyond to from → IsFine side told new far l own beyond (with_read n to) from
fine_read {to = to} side told n k = record {
  comes = λ has_it. home_read side told n to (k.comes has_it);
  goes = k.goes;
  quiet = k.quiet;
  called = k.called;
  lone = λ awaits. let u = k.lone awaits in record { said = u.said; says = u.says; may = u.may; none = read_none n to u.none };
  on = k.on;
  off = k.off;
}

pub mid_read : {new far : List ℕ} {own_open far_open : Bool} {l : Seen} {wires : List Wire} (side : Side) (told : List Act) (n : ℕ) → IsMid side told new far own_open far_open l wires → IsMid side told new far own_open far_open l (map (read_at side n) wires)
mid_read {new} {far} {l = l} {wires = wires} side told n m =
    let same : (test : Hold → Hold → Bool) (wire : Wire) → test (end_at side (read_at side n wire)) (end_beyond side (read_at side n wire)) ≡ test (end_at side wire) (end_beyond side wire) = λ test wire. read_test test side n wire in
    record {
      fine = all_mapped (Of side (IsFine side told new far l)) (Of side (IsFine side told new far l)) (read_at side n) (λ wire k. read_of side (IsFine side told new far l) n wire (fine_read side told n k)) wires m.fine;
      own = any_map (own_has side) (read_at side n) (same (λ own beyond. has own)) wires ∙ m.own;
      beyond = any_map (far_has side) (read_at side n) (same (λ own beyond. has beyond)) wires ∙ m.beyond;
      joined = any_map (both_have side) (read_at side n) (same (joined_by side)) wires ∙ m.joined;
      none_home = m.none_home;
      none_away = m.none_away;
      one_own = most_mapped (own_held side) (read_at side n) (λ wire fails. same (λ own beyond. held_own side own) wire ∙ fails) m.one_own;
      one_far = most_mapped (far_held side) (read_at side n) (λ wire fails. same (λ own beyond. held_far side beyond) wire ∙ fails) m.one_far;
    }

-- ---- BEHIND THE ACTS

-- a connection that the exit awaits, or that the entry awaits, as their ends stand to it: what neither acts nor messages change. S
-- is of a side's own session, H of that beyond, M of an intake
pub record AsideExit (S H M : Type 0) (own beyond : Hold) (to from : List Coming) : Type 0 where
  pub untaken : own ≡ Awaits → IsUntaken (wire_of own beyond to from)
  pub called : own ≡ Awaits → beyond ≡ Has → H
  pub first : own ≡ Has → beyond ≡ Awaits → S
  pub may : beyond ≡ Awaits → M

pub record AsideEntry (S H M : Type 0) (own beyond : Hold) (to from : List Coming) : Type 0 where
  pub uncome : own ≡ Awaits → IsUncome (wire_of beyond own from to)
  pub called : beyond ≡ Awaits → own ≡ Has → S
  pub first : beyond ≡ Has → own ≡ Awaits → H
  pub may : own ≡ Awaits → M

pub exit_more : {S H M : Type 0} (beyond : Hold) (to from c : List Coming) → AsideExit S H M Has beyond to from → AsideExit S H M Has beyond to (from ++ c)
exit_more beyond to from c k = record { untaken = λ is. absurd (has_awaits is); called = λ is. absurd (has_awaits is); first = k.first; may = k.may }

pub exit_leaves : {S H M : Type 0} (beyond : Hold) (to from : List Coming) → AsideExit S H M Has beyond to from → AsideExit S H M Left beyond [] from
exit_leaves beyond to from k = record { untaken = λ is. absurd (left_awaits is); called = λ is. absurd (left_awaits is); first = λ is. absurd (left_has is); may = k.may }

pub entry_more : {S H M : Type 0} (beyond : Hold) (to from c : List Coming) → AsideEntry S H M Has beyond to from → AsideEntry S H M Has beyond to (from ++ c)
entry_more beyond to from c k = record { uncome = λ is. absurd (has_awaits is); called = k.called; first = λ other is. absurd (has_awaits is); may = λ is. absurd (has_awaits is) }

pub entry_leaves : {S H M : Type 0} (beyond : Hold) (to from : List Coming) → AsideEntry S H M Has beyond to from → AsideEntry S H M Left beyond [] from
entry_leaves beyond to from k = record { uncome = λ is. absurd (left_awaits is); called = λ other is. absurd (left_has is); first = λ other is. absurd (left_awaits is); may = λ is. absurd (left_awaits is) }

says_read : {coming : List Coming} {said : List Message} (n : ℕ) → Says coming said → Says (with_read n coming) said
says_read {coming} {said} n k = record { fit = k.fit; flows = subst (λ (bytes : List ℕ). Flows [] bytes (texts_of said)) (sym (read_bytes n coming)) k.flows }

exit_read : {S H M : Type 0} {own beyond : Hold} {to from : List Coming} (n : ℕ) → AsideExit S H M own beyond to from → AsideExit S H M own beyond (with_read n to) from
exit_read n k = record { untaken = λ is. let u = k.untaken is in record { said = u.said; says = says_read n u.says; call = u.call; down = u.down }; called = k.called; first = k.first; may = k.may }

entry_read : {S H M : Type 0} {own beyond : Hold} {to from : List Coming} (n : ℕ) → AsideEntry S H M own beyond to from → AsideEntry S H M own beyond (with_read n to) from
entry_read n k = record { uncome = λ is. let u = k.uncome is in record { said = u.said; says = says_read n u.says; quiet = u.quiet; up = u.up }; called = k.called; first = k.first; may = k.may }

home_ends : {new : List ℕ} {to : List Coming} {messages : List Horizontal} (side : Side) → Home side [] new to messages → Carries new to messages
home_ends side (home_hears k) = k
home_ends side (home_closes closes) = absurd (false≢true (sym closes))

quiet_end : (own : Hold) (said : List Horizontal) → MaySay Exit own said [] → down_words said ≡ []
quiet_end Awaits said may = may
quiet_end Left said may = may
quiet_end Has said may = ap down_words (sym (append-nil said)) ∙ may

call_end : (own : Hold) (said : List Horizontal) → MaySay Entry own said [] → SaidUp own said
call_end Awaits said may = subst (λ (ms : List Horizontal). SaidUp Awaits ms) (sym may) not_come
call_end Has said may = has_come (ap up_words (sym (append-nil said)) ∙ may)
call_end Left said may = was_left may

-- what waits on a link, and what it carries
pub record IsLink (a b : NodeState) (unread : List Sensed) (up down : List Horizontal) (wires : List Wire) : Type 0 where
  pub waits : Waits a.lane.body b.lane.body unread wires
  pub carried : Carried a b up down wires

pub end_exit : {a b : NodeState} {opened far_open : Bool} {l : Seen} {unread : List Sensed} {wires : List Wire} → IsMid Exit [] a.lane.exit_bytes b.lane.entry_bytes opened far_open l wires → opened ≡ is_open Exit a.lane.body → far_open ≡ is_open Entry b.lane.body
    → AllByRecursion (Of Exit (AsideExit (is_open Exit a.lane.body ≡ true → a.lane.body.exit.session.state ≡ Handshake) (b.lane.body.entry.session.state ≡ Handshake) (may_connect b.lane.body.intake.phase ≡ true))) wires
    → IsFreeRead unread b.lane.body → IsLink a b unread l.home l.away wires
end_exit {a} {b} {opened} {far_open} {l} {unread} {wires} m mine far aside free = record {
  waits = record {
    one_above = m.one_own;
    one_below = m.one_far;
    exit_open = m.own ∙ mine;
    entry_open = m.beyond ∙ far;
    untaken = all_from _ wires (λ wire there. (at_amid _ there aside).untaken);
    uncome = all_from _ wires (λ wire there awaits. let u = (at_amid _ there m.fine).lone awaits in record { said = u.said; says = u.says; quiet = quiet_end wire.above (bodies u.said) u.may; up = u.none });
    called = all_from _ wires (λ wire there. (at_amid _ there aside).called);
    taken_first = all_from _ wires (λ wire there has_it awaits. (at_amid _ there aside).first has_it awaits (sym (m.own ∙ mine) ∙ any_amid had_above there (has_is has_it)));
    may_come = all_from _ wires (λ wire there. (at_amid _ there aside).may);
    free = free;
  };
  carried = record {
    up = all_from _ wires (λ wire there has_it. home_ends Exit ((at_amid _ there m.fine).comes has_it));
    down = all_from _ wires (λ wire there. (at_amid _ there m.fine).goes);
    quiet = all_from _ wires (λ wire there. (at_amid _ there m.fine).quiet);
    called = all_from _ wires (λ wire there. (at_amid _ there m.fine).called);
    none_up = λ none. m.none_home (sym m.own ∙ none);
    none_down = λ none. m.none_away (sym m.beyond ∙ none);
  };
}

pub end_entry : {a b : NodeState} {opened far_open : Bool} {l : Seen} {unread : List Sensed} {wires : List Wire} → IsMid Entry [] b.lane.entry_bytes a.lane.exit_bytes opened far_open l wires → opened ≡ is_open Entry b.lane.body → far_open ≡ is_open Exit a.lane.body
    → AllByRecursion (Of Entry (AsideEntry (is_open Entry b.lane.body ≡ true → b.lane.body.entry.session.state ≡ Handshake) (a.lane.body.exit.session.state ≡ Handshake) (may_connect b.lane.body.intake.phase ≡ true))) wires
    → IsFreeRead unread b.lane.body → IsLink a b unread l.away l.home wires
end_entry {a} {b} {opened} {far_open} {l} {unread} {wires} m mine far aside free = record {
  waits = record {
    one_above = m.one_far;
    one_below = m.one_own;
    exit_open = m.beyond ∙ far;
    entry_open = m.own ∙ mine;
    untaken = all_from _ wires (λ wire there awaits. let u = (at_amid _ there m.fine).lone awaits in record { said = u.said; says = u.says; call = call_end wire.below (bodies u.said) u.may; down = u.none });
    uncome = all_from _ wires (λ wire there. (at_amid _ there aside).uncome);
    called = all_from _ wires (λ wire there awaits has_it. (at_amid _ there aside).called awaits has_it (sym (m.own ∙ mine) ∙ any_amid had_below there (has_is has_it)));
    taken_first = all_from _ wires (λ wire there. (at_amid _ there aside).first);
    may_come = all_from _ wires (λ wire there. (at_amid _ there aside).may);
    free = free;
  };
  carried = record {
    up = all_from _ wires (λ wire there. (at_amid _ there m.fine).goes);
    down = all_from _ wires (λ wire there has_it. home_ends Entry ((at_amid _ there m.fine).comes has_it));
    quiet = all_from _ wires (λ wire there has_it awaits. (at_amid _ there m.fine).called awaits has_it);
    called = all_from _ wires (λ wire there awaits has_it. (at_amid _ there m.fine).quiet has_it awaits);
    none_up = λ none. m.none_away (sym m.beyond ∙ none);
    none_down = λ none. m.none_home (sym m.own ∙ none);
  };
}

-- ---- the facts aside, before and behind

pub aside_exit : (a b : NodeState) {unread : List Sensed} {wires : List Wire} (S : Type 0) → Waits a.lane.body b.lane.body unread wires → ((wire : Wire) → Amid wire wires → wire.above ≡ Has → wire.below ≡ Awaits → S)
    → AllByRecursion (Of Exit (AsideExit S (b.lane.body.entry.session.state ≡ Handshake) (may_connect b.lane.body.intake.phase ≡ true))) wires
aside_exit a b {wires = wires} S w shakes = all_from _ wires (λ wire there. record {
  untaken = at_amid _ there w.untaken;
  called = at_amid _ there w.called;
  first = shakes wire there;
  may = at_amid _ there w.may_come;
})

pub aside_entry : (a b : NodeState) {unread : List Sensed} {wires : List Wire} (S M : Type 0) → Waits a.lane.body b.lane.body unread wires → ((wire : Wire) → Amid wire wires → wire.above ≡ Awaits → wire.below ≡ Has → S) → (is_open Entry b.lane.body ≡ false → may_connect b.lane.body.intake.phase ≡ true → M)
    → AllByRecursion (Of Entry (AsideEntry S (a.lane.body.exit.session.state ≡ Handshake) M)) wires
aside_entry a b {wires = wires} S M w shakes may = all_from _ wires (λ wire there. record {
  uncome = at_amid _ there w.uncome;
  called = shakes wire there;
  first = at_amid _ there w.taken_first;
  may = λ awaits. may (sym w.entry_open ∙ alone_amid kept_below had_below (λ other none. had_of other.below none) w.one_below there (ap is_of_below awaits) (ap has awaits)) (at_amid _ there w.may_come awaits);
})

pub exits_read : (S H M : Type 0) (n : ℕ) (wires : List Wire) → AllByRecursion (Of Exit (AsideExit S H M)) wires → AllByRecursion (Of Exit (AsideExit S H M)) (map (read_at Exit n) wires)
exits_read S H M n wires all = all_mapped (Of Exit (AsideExit S H M)) (Of Exit (AsideExit S H M)) (read_at Exit n) (λ wire k. read_of Exit (AsideExit S H M) n wire (exit_read n k)) wires all

pub entries_read : (S H M : Type 0) (n : ℕ) (wires : List Wire) → AllByRecursion (Of Entry (AsideEntry S H M)) wires → AllByRecursion (Of Entry (AsideEntry S H M)) (map (read_at Entry n) wires)
entries_read S H M n wires all = all_mapped (Of Entry (AsideEntry S H M)) (Of Entry (AsideEntry S H M)) (read_at Entry n) (λ wire k. read_of Entry (AsideEntry S H M) n wire (entry_read n k)) wires all

-- ---- AN INPUT THAT IS NONE OF THE SIDE'S

-- the machine above steps to a2
pub plain_exit : SaysAlone → (a a2 b : NodeState) {unread : List Sensed} {up down : List Horizontal} {wires later : List Wire} (n : ℕ) (told : List Act) (c : Scene) → AreFitActs told → IsLink a b unread up down wires → seen Exit c ≡ link_seen wires up down
    → Wired Exit told (map (read_at Exit n) wires) later → heard_in Exit told ≡ 0 → a2.lane.exit_bytes ≡ a.lane.exit_bytes → (a.lane.body.exit.session.state ≡ Handshake → AreMute Exit told)
    → open_after Exit (is_open Exit a.lane.body) told ≡ is_open Exit a2.lane.body → (a.lane.body.exit.session.state ≡ Handshake → is_open Exit a2.lane.body ≡ true → a2.lane.body.exit.session.state ≡ Handshake)
    → IsLink a2 b unread (seen Exit (all_met told c)).home (seen Exit (all_met told c)).away later
plain_exit alone a a2 b {unread} {up} {down} {wires} {later} n told c fit k is wired heard bytes mute opened shakes =
    let m = mid_read Exit told n (mid_exit told a2.lane.exit_bytes k.waits k.carried heard bytes mute) in
    let start : IsMid Exit told a2.lane.exit_bytes b.lane.entry_bytes (is_open Exit a.lane.body) (is_open Entry b.lane.body) (seen Exit c) (map (read_at Exit n) wires) =
    subst (λ (s : Seen). IsMid Exit told a2.lane.exit_bytes b.lane.entry_bytes (is_open Exit a.lane.body) (is_open Entry b.lane.body) s (map (read_at Exit n) wires)) (sym is) m in
    let S : Type 0 = is_open Exit a2.lane.body ≡ true → a2.lane.body.exit.session.state ≡ Handshake in
    end_exit {a = a2} {b = b} (acts_mid alone Exit told c fit wired start) opened refl
    (acts_each (AsideExit S (b.lane.body.entry.session.state ≡ Handshake) (may_connect b.lane.body.intake.phase ≡ true)) exit_more exit_leaves Exit told wired (exits_read S (b.lane.body.entry.session.state ≡ Handshake) (may_connect b.lane.body.intake.phase ≡ true) n wires (aside_exit a b S k.waits (λ wire there has_it awaits. shakes (at_amid _ there k.waits.taken_first has_it awaits))))) k.waits.free

-- and the machine below to b2
pub plain_entry : SaysAlone → (a b b2 : NodeState) {unread rest : List Sensed} {up down : List Horizontal} {wires later : List Wire} (n : ℕ) (told : List Act) (c : Scene) → AreFitActs told → IsLink a b unread up down wires → seen Entry c ≡ link_seen wires down up
    → Wired Entry told (map (read_at Entry n) wires) later → heard_in Entry told ≡ 0 → b2.lane.entry_bytes ≡ b.lane.entry_bytes → (b.lane.body.entry.session.state ≡ Handshake → AreMute Entry told)
    → open_after Entry (is_open Entry b.lane.body) told ≡ is_open Entry b2.lane.body → (b.lane.body.entry.session.state ≡ Handshake → is_open Entry b2.lane.body ≡ true → b2.lane.body.entry.session.state ≡ Handshake)
    → (is_open Entry b.lane.body ≡ false → may_connect b.lane.body.intake.phase ≡ true → may_connect b2.lane.body.intake.phase ≡ true) → IsFreeRead rest b2.lane.body
    → IsLink a b2 rest (seen Entry (all_met told c)).away (seen Entry (all_met told c)).home later
plain_entry alone a b b2 {unread} {rest} {up} {down} {wires} {later} n told c fit k is wired heard bytes mute opened shakes may free =
    let m = mid_read Entry told n (mid_entry told b2.lane.entry_bytes k.waits k.carried heard bytes mute) in
    let start : IsMid Entry told b2.lane.entry_bytes a.lane.exit_bytes (is_open Entry b.lane.body) (is_open Exit a.lane.body) (seen Entry c) (map (read_at Entry n) wires) =
    subst (λ (s : Seen). IsMid Entry told b2.lane.entry_bytes a.lane.exit_bytes (is_open Entry b.lane.body) (is_open Exit a.lane.body) s (map (read_at Entry n) wires)) (sym is) m in
    let S : Type 0 = is_open Entry b2.lane.body ≡ true → b2.lane.body.entry.session.state ≡ Handshake in
    let M : Type 0 = may_connect b2.lane.body.intake.phase ≡ true in
    end_entry {a = a} {b = b2} (acts_mid alone Entry told c fit wired start) opened refl
    (acts_each (AsideEntry S (a.lane.body.exit.session.state ≡ Handshake) M) entry_more entry_leaves Entry told wired (entries_read S (a.lane.body.exit.session.state ≡ Handshake) M n wires (aside_entry a b S M k.waits (λ wire there awaits has_it. shakes (at_amid _ there k.waits.called awaits has_it)) may))) free
