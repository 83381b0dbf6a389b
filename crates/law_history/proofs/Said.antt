-- What was heard since the last start, read off the fold: the end of the transport while its connection stood, or a
-- description after that.
use Rattle.std.proofs.Common.{Bool, List, None, Option, Some, [], ap, false, inl, inr, refl, subst, sym, true, ℕ, ◌++◌, ◌==◌, ◌∙◌, ◌∷◌, ◌≡◌, ◌⊎◌}
use Rattle.std.specs.Prelude.{not}
use Rattle.std.specs.List.{list_any}
use Rattle.std.proofs.lemmas.Bool.{or_parts, or_left, or_right}
use Rattle.line_base.specs.declared.states.Side.TheVariants.{Entry}
use Rattle.line_base.specs.declared.states.Transfer.TheVariants as said
use Rattle.hermes_horizontal.specs.declared.message.Horizontal.{Horizontal}
use Rattle.hermes_horizontal.specs.declared.message.Horizontal.TheVariants as bodies
use Rattle.hermes_horizontal.specs.declared.message.Message.{Message}
use Rattle.hermes_horizontal.specs.declared.message.Service.{Service}
use Rattle.node_core.specs.declared.act.Act.{Act}
use Rattle.node_core.specs.declared.act.Act.TheVariants as acts
use Rattle.node_core.specs.declared.act.Deed.TheVariants as deeds
use Rattle.law_custody.specs.LookBack.{IsSaid as IsSaidSince, Since, by_description, by_end, just_started}
use Rattle.law_history.specs.Settled.{IsSaid, ends_connection, hears_description, hears_end, is_said, is_start, settles, starts}
use Rattle.law_history.proofs.Folds.{Hearing, Orderly, ended_since, ends, goes_on, heard_act, heard_all, is_named, none_heard, settles_not, settles_so, since_message}

-- ---- one act among them

pub record SaidThen (h : Hearing) (id : ℕ) : Type 0 where
  pub named : h.named ≡ Some id
  pub said : IsSaidSince h.since

pub said_then : {P : ℕ → Type 0} {h : Hearing} {told : List Act} → Orderly P h told → (earlier later : List Act) (id : ℕ) → told ≡ earlier ++ settles id ∷ later → SaidThen (heard_all h earlier) id × P id
said_then ends [] later id is = cc
said_then ends (e ∷ es) later id is = cc
said_then (goes_on {act = act} plain more) [] later id is =
    let same : act ≡ settles id = cc in
    absurd (let no_way : false ≡ true = ap settles_not (sym same) ∙ plain in cc)
said_then {P = P} {h = h} (goes_on {act = act} {told = told} plain more) (e ∷ es) later id is =
    let same : act ≡ e = cc in
    let rest : told ≡ es ++ settles id ∷ later = cc in
    subst (λ (a : Act). SaidThen (heard_all (heard_act h a) es) id × P id) same (said_then more es later id rest)
said_then {P = P} {h = h} (settles_so {id = mine} named since is_so more) [] later id is =
    let same : mine ≡ id = cc in
    (record { named = named ∙ ap (λ (x : ℕ). Some x) same; said = since }, subst P same is_so)
said_then {P = P} {h = h} (settles_so {id = mine} {told = told} named since is_so more) (e ∷ es) later id is =
    let same : settles mine ≡ e = cc in
    let rest : told ≡ es ++ settles id ∷ later = cc in
    subst (λ (a : Act). SaidThen (heard_all (heard_act h a) es) id × P id) same (said_then more es later id rest)

-- ---- the last start

record Split (h : Hearing) (told : List Act) : Type 0 where
  before : List Act
  id : ℕ
  since : List Act
  told_is : told ≡ before ++ starts id ∷ since
  last : list_any is_start since ≡ false
  heard : heard_all h told ≡ heard_all (record { named = Some id; since = just_started }) since

split_on : (h : Hearing) (act : Act) (told : List Act) → Split (heard_act h act) told → Split h (act ∷ told)
split_on h act told s = record { before = act ∷ s.before; id = s.id; since = s.since; told_is = ap (λ (x : List Act). act ∷ x) s.told_is; last = s.last; heard = s.heard }

split_here : (h : Hearing) (act : Act) (told : List Act) (test : Bool) → is_start act ≡ test → list_any is_start told ≡ false → Split h (act ∷ told) ⊎ (list_any is_start (act ∷ told) ≡ false)
split_here h (acts.Deed (deeds.Starts id)) told test is none = inl (record { before = []; id = id; since = told; told_is = refl; last = none; heard = refl })
split_here h act told true is none = inl (start_split h act told is none) where
  start_split : (h : Hearing) (act : Act) (told : List Act) → is_start act ≡ true → list_any is_start told ≡ false → Split h (act ∷ told)
  start_split h (acts.Deed (deeds.Starts id)) told is none = record { before = []; id = id; since = told; told_is = refl; last = none; heard = refl }
  start_split h (acts.Deed (deeds.Opens id)) told is none = absurd (let no_way : false ≡ true = is in cc)
  start_split h (acts.Deed (deeds.Refuses id)) told is none = absurd (let no_way : false ≡ true = is in cc)
  start_split h (acts.Deed (deeds.Leaves id)) told is none = absurd (let no_way : false ≡ true = is in cc)
  start_split h (acts.Deed (deeds.Returns id)) told is none = absurd (let no_way : false ≡ true = is in cc)
  start_split h (acts.Deed (deeds.Loses id)) told is none = absurd (let no_way : false ≡ true = is in cc)
  start_split h (acts.Deed (deeds.Settles id)) told is none = absurd (let no_way : false ≡ true = is in cc)
  start_split h (acts.Deed (deeds.Drops id)) told is none = absurd (let no_way : false ≡ true = is in cc)
  start_split h _ told is none = absurd (let no_way : false ≡ true = is in cc)
split_here h act told false is none = inr (rw is none)

split : (h : Hearing) (told : List Act) → Split h told ⊎ (list_any is_start told ≡ false)
split h [] = inr refl
split h (act ∷ told) = by (split (heard_act h act) told) where
  by : Split (heard_act h act) told ⊎ (list_any is_start told ≡ false) → Split h (act ∷ told) ⊎ (list_any is_start (act ∷ told) ≡ false)
  by (inl s) = inl (split_on h act told s)
  by (inr none) = split_here h act told (is_start act) refl none

same_named : (h : Hearing) (act : Act) → is_start act ≡ false → (heard_act h act).named ≡ h.named
same_named h (acts.Deed (deeds.Starts id)) is = absurd (let no_way : true ≡ false = is in cc)
same_named h (acts.Hears Entry message) is = refl
same_named h (acts.Closes Entry) is = refl
same_named h (acts.Notices Entry) is = refl
same_named h _ is = refl

named_still : (h : Hearing) (told : List Act) → list_any is_start told ≡ false → (heard_all h told).named ≡ h.named
named_still h [] none = refl
named_still h (act ∷ told) none = let both = or_parts (is_start act) (list_any is_start told) none in named_still (heard_act h act) told both.1 ∙ same_named h act both.0

-- ---- what was heard since

-- in acts that begin while the connection of the handover stands, or after it ended
abbrev said_from : Bool → ℕ → List Act → Bool
said_from true id told = list_any hears_description told
said_from false id told = is_said id told

later_said : (closed : Bool) (id : ℕ) (act : Act) (told : List Act) → ends_connection act ≡ false → said_from closed id told ≡ true → said_from closed id (act ∷ told) ≡ true
later_said true id act told on is = or_right (hears_description act) (list_any hears_description told) is
later_said false id act told on is = rw on (or_right (hears_end id act) (is_said id told) is)

ended_said : (closed : Bool) (id : ℕ) (act : Act) (told : List Act) → ends_connection act ≡ true → list_any hears_description told ≡ true → said_from closed id (act ∷ told) ≡ true
ended_said true id act told off is = or_right (hears_description act) (list_any hears_description told) is
ended_said false id act told off is = rw off is

-- one act: what it says is said of the acts, or was said before
abbrev Now : ℕ → Hearing → Act → Type 0
Now id h act = IsSaidSince (heard_act h act).since → IsSaidSince h.since ⊎ ((told : List Act) → said_from h.since.closed id (act ∷ told) ≡ true)

end_now : (id other : ℕ) (named : Option ℕ) (e c d : Bool) (message : Message) (test : Bool) → named ≡ Some id → message.body ≡ bodies.TransportFinished said.Complete other → (other == id) ≡ test
    → IsSaidSince (ended_since test (record { ended = e; closed = c; described = d })) → IsSaidSince (record { ended = e; closed = c; described = d }) ⊎ ((told : List Act) → said_from c id (acts.Hears Entry message ∷ told) ≡ true)
end_now id other named e true d message true is says same (by_end ended) = inl (by_end ended)
end_now id other named e true d message true is says same (by_description described) = inl (by_description described)
end_now id other named e false d message true is says same since = inr (λ told. rw says (or_left (other == id) (is_said id told) same))
end_now id other named e c d message false is says same since = inl since

described_now : (id : ℕ) (e c d : Bool) (message : Message) (service : Service) → message.body ≡ bodies.ServiceDescription service
    → IsSaidSince (record { ended = e; closed = c; described = c }) → IsSaidSince (record { ended = e; closed = c; described = d }) ⊎ ((told : List Act) → said_from c id (acts.Hears Entry message ∷ told) ≡ true)
described_now id e c d message service says (by_end ended) = inl (by_end ended)
described_now id e true d message service says (by_description described) = inr (λ told. rw says refl)
described_now id e false d message service says (by_description described) = absurd (let no_way : false ≡ true = described in cc)

message_now : (id : ℕ) (h : Hearing) (what : Horizontal) (message : Message) → h.named ≡ Some id → message.body ≡ what → IsSaidSince (since_message h.named what h.since) → IsSaidSince h.since ⊎ ((told : List Act) → said_from h.since.closed id (acts.Hears Entry message ∷ told) ≡ true)
message_now id h (bodies.TransportFinished said.Complete other) message named says since =
    let test : is_named h.named other ≡ (other == id) = ap (λ (n : Option ℕ). is_named n other) named in
    end_now id other h.named h.since.ended h.since.closed h.since.described message (other == id) named says refl (subst (λ (b : Bool). IsSaidSince (ended_since b h.since)) test since)
message_now id h (bodies.ServiceDescription service) message named says since = described_now id h.since.ended h.since.closed h.since.described message service says since
message_now id h _ message named says since = inl since

act_now : (id : ℕ) (h : Hearing) (act : Act) → h.named ≡ Some id → is_start act ≡ false → Now id h act
act_now id h (acts.Deed (deeds.Starts other)) named not = absurd (let no_way : true ≡ false = not in cc)
act_now id h (acts.Hears Entry message) named not = λ since. message_now id h message.body message named refl since
act_now id h (acts.Closes Entry) named not = λ since. inl (still since) where
  still : IsSaidSince (record h.since { closed = true }) → IsSaidSince h.since
  still (by_end is) = by_end is
  still (by_description is) = by_description is
act_now id h (acts.Notices Entry) named not = λ since. inl (still since) where
  still : IsSaidSince (record h.since { closed = true }) → IsSaidSince h.since
  still (by_end is) = by_end is
  still (by_description is) = by_description is
act_now id h _ named not = λ since. inl since

-- what was said of later acts is said of these
abbrev Later : ℕ → Hearing → Act → Type 0
Later id h act = (told : List Act) → said_from (heard_act h act).since.closed id told ≡ true → said_from h.since.closed id (act ∷ told) ≡ true

message_closed : (named : Option ℕ) (what : Horizontal) (s : Since) → (since_message named what s).closed ≡ s.closed
message_closed named (bodies.TransportFinished said.Complete other) s = by (is_named named other) where
  by : (test : Bool) → (ended_since test s).closed ≡ s.closed
  by true = refl
  by false = refl
message_closed named (bodies.ServiceDescription service) s = refl
message_closed named _ s = refl

act_later : (id : ℕ) (h : Hearing) (act : Act) → is_start act ≡ false → Later id h act
act_later id h (acts.Deed (deeds.Starts other)) not = absurd (let no_way : true ≡ false = not in cc)
act_later id h (acts.Hears Entry message) not = λ told is. later_said h.since.closed id (acts.Hears Entry message) told refl (ap (λ (c : Bool). said_from c id told) (sym (message_closed h.named message.body h.since)) ∙ is)
act_later id h (acts.Closes Entry) not = λ told is. ended_said h.since.closed id (acts.Closes Entry) told refl is
act_later id h (acts.Notices Entry) not = λ told is. ended_said h.since.closed id (acts.Notices Entry) told refl is
act_later id h act not = λ told is. later_said h.since.closed id act told refl is

since_said : (id : ℕ) (told : List Act) (h : Hearing) → h.named ≡ Some id → list_any is_start told ≡ false → IsSaidSince (heard_all h told).since → IsSaidSince h.since ⊎ (said_from h.since.closed id told ≡ true)
since_said id [] h named none since = inl since
since_said id (act ∷ told) h named none since =
    let both = or_parts (is_start act) (list_any is_start told) none in
    by both.0 (since_said id told (heard_act h act) (same_named h act both.0 ∙ named) both.1 since) where
      now_by : IsSaidSince h.since ⊎ ((told : List Act) → said_from h.since.closed id (act ∷ told) ≡ true) → IsSaidSince h.since ⊎ (said_from h.since.closed id (act ∷ told) ≡ true)
      now_by (inl was) = inl was
      now_by (inr is) = inr (is told)

      by : is_start act ≡ false → IsSaidSince (heard_act h act).since ⊎ (said_from (heard_act h act).since.closed id told ≡ true) → IsSaidSince h.since ⊎ (said_from h.since.closed id (act ∷ told) ≡ true)
      by not (inl was) = now_by (act_now id h act named not was)
      by not (inr is) = inr (act_later id h act not told is)

-- ---- from nothing on

just_said : {X : Type 0} → IsSaidSince just_started → X
just_said (by_end is) = absurd (let no_way : false ≡ true = is in cc)
just_said (by_description is) = absurd (let no_way : false ≡ true = is in cc)

said_or : {b : Bool} → IsSaidSince just_started ⊎ (b ≡ true) → b ≡ true
said_or (inl since) = just_said since
said_or (inr is) = is

pub some_id : (a b : ℕ) → ◌≡◌ {A = Option ℕ} (Some a) (Some b) → a ≡ b
some_id a b is = cc

pub is_said_of : (told : List Act) (id : ℕ) → SaidThen (heard_all none_heard told) id → IsSaid id told
is_said_of told id known = by (split none_heard told) where
  by : Split none_heard told ⊎ (list_any is_start told ≡ false) → IsSaid id told
  by (inr none) = absurd (let no_way : ◌≡◌ {A = Option ℕ} None (Some id) = sym (named_still none_heard told none) ∙ known.named in cc)
  by (inl s) =
      let first : Hearing = record { named = Some s.id; since = just_started } in
      let same : s.id ≡ id = some_id s.id id (sym (named_still first s.since s.last) ∙ ap (λ (h : Hearing). h.named) (sym s.heard) ∙ known.named) in
      let since : IsSaidSince (heard_all first s.since).since = subst (λ (h : Hearing). IsSaidSince h.since) s.heard known.said in
      record {
        before = s.before;
        since = s.since;
        told_is = s.told_is ∙ ap (λ (x : ℕ). s.before ++ starts x ∷ s.since) same;
        last = s.last;
        said = ap (λ (x : ℕ). is_said x s.since) (sym same) ∙ said_or (since_said s.id s.since first refl s.last since);
      }
