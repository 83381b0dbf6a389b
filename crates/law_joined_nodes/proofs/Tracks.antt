-- WHAT A MACHINE'S ACTS AT ONE SIDE MAKE OF EACH CONNECTION THERE, as long as it says a text only
-- while the side has one.
use Rattle.std.proofs.Common.{Bool, List, Some, [], ap, append_assoc, append-nil, false, map, refl, slice_get, subst, suc, sym, true, zero, ℕ, ◌++◌, ◌∙◌, ◌∷◌, ◌≡◌}
use Rattle.std.proofs.lemmas.Bool.{false≢true}
use Rattle.line_base.specs.declared.states.Side.{Side}
use Rattle.line_base.specs.declared.states.Side.TheVariants.{Entry, Exit}
use Rattle.hermes_horizontal.specs.Canonical.{canonical}
use Rattle.hermes_horizontal.specs.declared.message.Message.{Message}
use Rattle.node_core.specs.declared.act.Act.{Act}
use Rattle.node_core.specs.declared.act.Act.TheVariants as acts
use Rattle.step_rules.specs.Opened.{open_act}
use Rattle.node_run.specs.Steps.{message_for, messages_for}
use Rattle.law_running_line.specs.Wire.{Awaits, Coming, Has, Hold, Left, Wire, bytes_of, coming_to, end_at, end_beyond, has, left, read_at, said, text_behind}
use Rattle.law_running_line.proofs.Waiting.{wire_of}
use Rattle.law_running_line.proofs.WiresActs.{Wired, act_wires, wired_more, wired_none}
use Rattle.law_running_line.proofs.WiresParts.{bytes_both, going_from, left_awaits, left_has, left_own, read_bytes, text_bytes}
use Rattle.step_rules.specs.Spoken.{AreSaidOpen, SaysOpen}

abbrev pub NotLeft : Hold → Type 0
NotLeft hold = hold ≡ Left → ⊥

-- a text, where an end has the connection
abbrev pub told_if : Bool → List ℕ → List ℕ
told_if true text = text
told_if false text = []

pub told_none : (test : Bool) → told_if test [] ≡ []
told_none true = refl
told_none false = refl

-- one connection, with so much said at this side
pub record Turned (side : Side) (text : List ℕ) (w v : Wire) : Type 0 where
  pub far : end_beyond side v ≡ end_beyond side w
  pub stays : NotLeft (end_at side v) → NotLeft (end_at side w)
  pub comes : NotLeft (end_at side v) → bytes_of (coming_to side v) ≡ bytes_of (coming_to side w)
  pub had : end_at side v ≡ Has → end_at side w ≡ Has
  pub awaits : end_at side v ≡ Awaits → end_at side w ≡ Awaits
  pub goes : NotLeft (end_beyond side w)
      → bytes_of (going_from side v) ≡ bytes_of (going_from side w)
      ++ told_if (has (end_at side w)) text

same_then : (bytes : List ℕ) (test : Bool) → bytes ≡ bytes ++ told_if test []
same_then bytes test =
    sym (append-nil bytes) ∙ ap (λ (t : List ℕ). bytes ++ t) (sym (told_none test))

pub turned_self : {side : Side} {w : Wire} → Turned side [] w w
turned_self {side} {w} =
    record {
      far = refl;
      stays = λ n. n;
      comes = λ n. refl;
      had = λ h. h;
      awaits = λ a. a;
      goes = λ n. same_then (bytes_of (going_from side w)) (has (end_at side w));
    }

more_told : (test : Bool) (bytes x y : List ℕ)
    → (bytes ++ told_if test x) ++ told_if test y ≡ bytes ++ told_if test (x ++ y)
more_told true bytes x y = append_assoc bytes x y
more_told false bytes x y = append-nil (bytes ++ [])

pub turned_then : {side : Side} {x y : List ℕ} {u v w : Wire} → Turned side x u v
    → Turned side y v w → has (end_at side v) ≡ has (end_at side u) → Turned side (x ++ y) u w
turned_then {side} {x} {y} {u} {v} {w} one two same = record {
  far = two.far ∙ one.far;
  stays = λ n. one.stays (two.stays n);
  comes = λ n. two.comes n ∙ one.comes (two.stays n);
  had = λ h. one.had (two.had h);
  awaits = λ a. one.awaits (two.awaits a);
  goes = λ n.
      two.goes (λ is. n (sym one.far ∙ is)) ∙ ap (λ (t : Bool). bytes_of (going_from side v)
      ++ told_if t y) same ∙ ap (λ (b : List ℕ). b ++ told_if (has (end_at side u)) y) (one.goes n)
      ∙ more_told (has (end_at side u)) (bytes_of (going_from side u)) x y;
}

-- ---- one act

said_exit : (c : List Coming) (above below : Hold) (up down : List Coming)
    → Turned Exit (bytes_of c) (wire_of above below up down)
    (said Exit c (wire_of above below up down))
said_exit c Awaits below up down =
    record {
      far = refl;
      stays = λ n. n;
      comes = λ n. refl;
      had = λ h. h;
      awaits = λ a. a;
      goes = λ n. sym (append-nil (bytes_of down));
    }
said_exit c Has Awaits up down =
    record {
      far = refl;
      stays = λ n. n;
      comes = λ n. refl;
      had = λ h. h;
      awaits = λ a. a;
      goes = λ n. bytes_both down c;
    }
said_exit c Has Has up down =
    record {
      far = refl;
      stays = λ n. n;
      comes = λ n. refl;
      had = λ h. h;
      awaits = λ a. a;
      goes = λ n. bytes_both down c;
    }
said_exit c Has Left up down =
    record {
      far = refl;
      stays = λ n. n;
      comes = λ n. refl;
      had = λ h. h;
      awaits = λ a. a;
      goes = λ n. absurd (n refl);
    }
said_exit c Left below up down =
    record {
      far = refl;
      stays = λ n. n;
      comes = λ n. refl;
      had = λ h. h;
      awaits = λ a. a;
      goes = λ n. sym (append-nil (bytes_of down));
    }

said_entry : (c : List Coming) (above below : Hold) (up down : List Coming)
    → Turned Entry (bytes_of c) (wire_of above below up down)
    (said Entry c (wire_of above below up down))
said_entry c above Awaits up down =
    record {
      far = refl;
      stays = λ n. n;
      comes = λ n. refl;
      had = λ h. h;
      awaits = λ a. a;
      goes = λ n. sym (append-nil (bytes_of up));
    }
said_entry c Awaits Has up down =
    record {
      far = refl;
      stays = λ n. n;
      comes = λ n. refl;
      had = λ h. h;
      awaits = λ a. a;
      goes = λ n. bytes_both up c;
    }
said_entry c Has Has up down =
    record {
      far = refl;
      stays = λ n. n;
      comes = λ n. refl;
      had = λ h. h;
      awaits = λ a. a;
      goes = λ n. bytes_both up c;
    }
said_entry c Left Has up down =
    record {
      far = refl;
      stays = λ n. n;
      comes = λ n. refl;
      had = λ h. h;
      awaits = λ a. a;
      goes = λ n. absurd (n refl);
    }
said_entry c above Left up down =
    record {
      far = refl;
      stays = λ n. n;
      comes = λ n. refl;
      had = λ h. h;
      awaits = λ a. a;
      goes = λ n. sym (append-nil (bytes_of up));
    }

turned_said : (side : Side) (c : List Coming) (w : Wire)
    → Turned side (bytes_of c) w (said side c w)
turned_said Exit c w = said_exit c w.above w.below w.up w.down
turned_said Entry c w = said_entry c w.above w.below w.up w.down

said_has : (side : Side) (c : List Coming) (w : Wire)
    → has (end_at side (said side c w)) ≡ has (end_at side w)
said_has Exit c w = by c w.above w.below w.up w.down where
  by : (c : List Coming) (above below : Hold) (up down : List Coming)
      → has (end_at Exit (said Exit c (wire_of above below up down))) ≡ has above
  by c Awaits below up down = refl
  by c Has Awaits up down = refl
  by c Has Has up down = refl
  by c Has Left up down = refl
  by c Left below up down = refl
said_has Entry c w = by c w.above w.below w.up w.down where
  by : (c : List Coming) (above below : Hold) (up down : List Coming)
      → has (end_at Entry (said Entry c (wire_of above below up down))) ≡ has below
  by c above Awaits up down = refl
  by c Awaits Has up down = refl
  by c Has Has up down = refl
  by c Left Has up down = refl
  by c above Left up down = refl

left_exit : (above below : Hold) (up down : List Coming)
    → Turned Exit [] (wire_of above below up down) (left Exit (wire_of above below up down))
left_exit Awaits below up down = turned_self
left_exit Has below up down =
    record {
      far = refl;
      stays = λ n. absurd (n refl);
      comes = λ n. absurd (n refl);
      had = λ h.
          absurd (left_has h);
      awaits = λ a. absurd (left_awaits a);
      goes =
          λ n. same_then (bytes_of down) true;
    }
left_exit Left below up down = turned_self

left_entry : (above below : Hold) (up down : List Coming)
    → Turned Entry [] (wire_of above below up down) (left Entry (wire_of above below up down))
left_entry above Awaits up down = turned_self
left_entry above Has up down =
    record {
      far = refl;
      stays = λ n. absurd (n refl);
      comes = λ n. absurd (n refl);
      had = λ h.
          absurd (left_has h);
      awaits = λ a. absurd (left_awaits a);
      goes =
          λ n. same_then (bytes_of up) true;
    }
left_entry above Left up down = turned_self

turned_left : (side : Side) (w : Wire) → Turned side [] w (left side w)
turned_left Exit w = left_exit w.above w.below w.up w.down
turned_left Entry w = left_entry w.above w.below w.up w.down

pub turned_read : (side : Side) (n : ℕ) (w : Wire) → Turned side [] w (read_at side n w)
turned_read Exit n w =
    record {
      far = refl;
      stays = λ not. not;
      comes = λ not. read_bytes n w.up;
      had = λ h. h;
      awaits = λ a. a;
      goes = λ not. same_then (bytes_of w.down) (has w.above);
    }
turned_read Entry n w =
    record {
      far = refl;
      stays = λ not. not;
      comes = λ not. read_bytes n w.down;
      had = λ h. h;
      awaits = λ a. a;
      goes = λ not. same_then (bytes_of w.up) (has w.below);
    }

-- ---- what an act is to a side

data Deed (side : Side) : Act → Type 0 where
  deed_says : (message : Message) → Deed side (acts.Sends side message)
  deed_shuts : {act : Act}
      → ((k : ℕ) (ws : List Wire) → act_wires side k act ws ≡ map (left side) ws)
      → ((o : Bool) → open_act side o act ≡ false) → message_for side act ≡ [] → Deed side act
  deed_aside : {act : Act} → ((k : ℕ) (ws : List Wire) → act_wires side k act ws ≡ ws)
      → ((o : Bool) → open_act side o act ≡ o) → message_for side act ≡ [] → Deed side act

deed : (side : Side) (act : Act) → Deed side act
deed Entry (acts.Sends Entry message) = deed_says message
deed Exit (acts.Sends Exit message) = deed_says message
deed Entry (acts.Sends Exit message) = deed_aside (λ k ws. refl) (λ o. refl) refl
deed Exit (acts.Sends Entry message) = deed_aside (λ k ws. refl) (λ o. refl) refl
deed Entry (acts.Closes Entry) = deed_shuts (λ k ws. refl) (λ o. refl) refl
deed Exit (acts.Closes Exit) = deed_shuts (λ k ws. refl) (λ o. refl) refl
deed Entry (acts.Closes Exit) = deed_aside (λ k ws. refl) (λ o. refl) refl
deed Exit (acts.Closes Entry) = deed_aside (λ k ws. refl) (λ o. refl) refl
deed Entry (acts.Notices Entry) = deed_shuts (λ k ws. refl) (λ o. refl) refl
deed Exit (acts.Notices Exit) = deed_shuts (λ k ws. refl) (λ o. refl) refl
deed Entry (acts.Notices Exit) = deed_aside (λ k ws. refl) (λ o. refl) refl
deed Exit (acts.Notices Entry) = deed_aside (λ k ws. refl) (λ o. refl) refl
deed Entry _ = deed_aside (λ k ws. refl) (λ o. refl) refl
deed Exit _ = deed_aside (λ k ws. refl) (λ o. refl) refl

says_wires : (side : Side) (k : ℕ) (message : Message) (ws : List Wire)
    → act_wires side k (acts.Sends side message) ws
    ≡ map (said side (text_behind k (canonical message))) ws
says_wires Entry k message ws = refl
says_wires Exit k message ws = refl

says_text : (side : Side) (message : Message)
    → message_for side (acts.Sends side message) ≡ canonical message
says_text Entry message = refl
says_text Exit message = refl

never_says : (side : Side) (message : Message) → SaysOpen side false (acts.Sends side message) → ⊥
never_says Entry message is = false≢true is
never_says Exit message is = false≢true is

silent_by : (side : Side) (act : Act) (others : List Act) → Deed side act
    → (AreSaidOpen side false others → messages_for side others ≡ [])
    → AreSaidOpen side false (act ∷ others) → messages_for side (act ∷ others) ≡ []
silent_by side _ others (deed_says message) next told_so =
    absurd (never_says side message told_so.0)
silent_by side act others (deed_shuts wires opens text) next told_so =
    ap (λ (t : List ℕ). t ++ messages_for side others) text ∙ next
    (subst (λ (o : Bool). AreSaidOpen side o others) (opens false) told_so.1)
silent_by side act others (deed_aside wires opens text) next told_so =
    ap (λ (t : List ℕ). t ++ messages_for side others) text ∙ next
    (subst (λ (o : Bool). AreSaidOpen side o others) (opens false) told_so.1)

-- where a side has no connection any more, nothing is said there
pub silent_then : (side : Side) (told : List Act) → AreSaidOpen side false told
    → messages_for side told ≡ []
silent_then side [] told_so = refl
silent_then side (act ∷ others) told_so =
    silent_by side act others (deed side act) (silent_then side others) told_so

-- ---- the acts

none_got : (n : ℕ) (w : Wire) → slice_get [] n ≡ Some w → ⊥
none_got n w is = cc

some_same : {a b : Wire} → Some a ≡ Some b → a ≡ b
some_same is = cc

pub record GotMapped (change : Wire → Wire) (ws : List Wire) (n : ℕ) (v : Wire) : Type 0 where
  pub w : Wire
  pub there : slice_get ws n ≡ Some w
  pub is : change w ≡ v

pub got_mapped : (change : Wire → Wire) (ws : List Wire) (n : ℕ) (v : Wire)
    → slice_get (map change ws) n ≡ Some v → GotMapped change ws n v
got_mapped change [] n v there = absurd (none_got n v there)
got_mapped change (first ∷ ws) zero v there =
    record { w = first; there = refl; is = some_same there }
got_mapped change (first ∷ ws) (suc n) v there =
    (let g : GotMapped change ws n v = got_mapped change ws n v there in record {
      w = g.w;
      there = g.there;
      is = g.is;
    })

pub record GotTurned (side : Side) (opened : Bool) (told : List Act) (ws : List Wire) (n : ℕ)
    (v : Wire) : Type 0 where
  pub w : Wire
  pub there : slice_get ws n ≡ Some w
  pub turned : (has (end_at side w) ≡ true → opened ≡ true)
      → Turned side (messages_for side told) w v

says_then : {side : Side} {opened : Bool} {others : List Act} {ws : List Wire} {n : ℕ} {v : Wire}
    (k : ℕ) (message : Message)
    → GotTurned side opened others (map (said side (text_behind k (canonical message))) ws) n v
    → GotTurned side opened (acts.Sends side message ∷ others) ws n v
says_then {side} {opened} {others} {ws} {n} {v} k message g =
    let c : List Coming = text_behind k (canonical message) in
    let m : GotMapped (said side c) ws n g.w = got_mapped (said side c) ws n g.w g.there in
    let P : Wire → Type 0 =
    λ u. (has (end_at side u) ≡ true → opened ≡ true)
    → Turned side (messages_for side others) u v in
    let next : (has (end_at side (said side c m.w)) ≡ true → opened ≡ true)
    → Turned side (messages_for side others) (said side c m.w) v =
    subst P (sym m.is) g.turned in
    let text : bytes_of c
    ++ messages_for side others ≡ messages_for side (acts.Sends side message ∷ others) =
    ap (λ (t : List ℕ). t ++ messages_for side others)
    (text_bytes k (canonical message) ∙ sym (says_text side message)) in
    record {
      w = m.w;
      there = m.there;
      turned = λ if_has.
          subst (λ (t : List ℕ). Turned side t m.w v) text
          (turned_then (turned_said side c m.w)
          (next (λ is. if_has (sym (said_has side c m.w) ∙ is))) (said_has side c m.w));
    }

shuts_then : {side : Side} {opened : Bool} {act : Act} {others : List Act} {ws : List Wire} {n : ℕ}
    {v : Wire} → message_for side act ≡ [] → messages_for side others ≡ []
    → GotTurned side false others (map (left side) ws) n v
    → GotTurned side opened (act ∷ others) ws n v
shuts_then {side} {opened} {act} {others} {ws} {n} {v} text none g =
    let m : GotMapped (left side) ws n g.w = got_mapped (left side) ws n g.w g.there in
    let P : Wire → Type 0 =
    λ u. (has (end_at side u) ≡ true → false ≡ true)
    → Turned side (messages_for side others) u v in
    let next : (has (end_at side (left side m.w)) ≡ true → false ≡ true)
    → Turned side (messages_for side others) (left side m.w) v = subst P (sym m.is) g.turned in
    let last : Turned side [] (left side m.w) v =
    subst (λ (t : List ℕ). Turned side t (left side m.w) v) none
    (next (λ is. sym (left_own side m.w) ∙ is)) in
    let all : messages_for side (act ∷ others) ≡ [] =
    ap (λ (t : List ℕ). t ++ messages_for side others) text ∙ none in
    record {
      w = m.w;
      there = m.there;
      turned = λ if_has.
          subst (λ (t : List ℕ). Turned side t m.w v) (sym all)
          (nothing_then (turned_left side m.w) last);
    }
  where
    nothing_then : {a b c : Wire} → Turned side [] a b → Turned side [] b c → Turned side [] a c
    nothing_then {a} {b} {c} one two = record {
      far = two.far ∙ one.far;
      stays = λ n. one.stays (two.stays n);
      comes = λ n. two.comes n ∙ one.comes (two.stays n);
      had = λ h. one.had (two.had h);
      awaits = λ a. one.awaits (two.awaits a);
      goes = λ n.
          two.goes (λ is. n (sym one.far ∙ is)) ∙ sym
          (same_then (bytes_of (going_from side b)) (has (end_at side b))) ∙ one.goes n;
    }

aside_then : {side : Side} {opened : Bool} {act : Act} {others : List Act} {ws : List Wire} {n : ℕ}
    {v : Wire} → message_for side act ≡ [] → GotTurned side opened others ws n v
    → GotTurned side opened (act ∷ others) ws n v
aside_then {side} {others = others} {v = v} text g =
    record {
      w = g.w;
      there = g.there;
      turned = λ if_has.
          subst (λ (t : List ℕ). Turned side t g.w v)
          (sym (ap (λ (t : List ℕ). t ++ messages_for side others) text)) (g.turned if_has);
    }

wired_by : (side : Side) (act : Act) (others : List Act) (k : ℕ) (ws later : List Wire)
    (opened : Bool) (n : ℕ) (v : Wire) → Deed side act
    → Wired side others (act_wires side k act ws) later → AreSaidOpen side opened (act ∷ others)
    → ((us : List Wire) (now : Bool) → Wired side others us later → AreSaidOpen side now others
    → GotTurned side now others us n v) → GotTurned side opened (act ∷ others) ws n v
wired_by side _ others k ws later opened n v (deed_says message) wired told_so next =
    says_then k message (next (map (said side (text_behind k (canonical message))) ws) opened
    (subst (λ (us : List Wire). Wired side others us later)
    (says_wires side k message ws) wired) told_so.1)
wired_by side act others k ws later opened n v (deed_shuts wires opens text) wired told_so next =
    let now : AreSaidOpen side false others =
    subst (λ (o : Bool). AreSaidOpen side o others) (opens opened) told_so.1 in
    shuts_then text (silent_then side others now)
    (next (map (left side) ws) false
    (subst (λ (us : List Wire). Wired side others us later) (wires k ws) wired) now)
wired_by side act others k ws later opened n v (deed_aside wires opens text) wired told_so next =
    aside_then text
    (next ws opened (subst (λ (us : List Wire). Wired side others us later) (wires k ws) wired)
    (subst (λ (o : Bool). AreSaidOpen side o others) (opens opened) told_so.1))

pub got_wired : (side : Side) (told : List Act) {ws later : List Wire} → Wired side told ws later
    → (opened : Bool) → AreSaidOpen side opened told → (n : ℕ) (v : Wire)
    → slice_get later n ≡ Some v → GotTurned side opened told ws n v
got_wired side [] wired_none opened told_so n v there =
    record { w = v; there = there; turned = λ if_has. turned_self }
got_wired side (act ∷ others) {ws} {later} (wired_more k wired) opened told_so n v there =
    wired_by side act others k ws later opened n v (deed side act) wired told_so
    (λ us now more so_far. got_wired side others more now so_far n v there)
