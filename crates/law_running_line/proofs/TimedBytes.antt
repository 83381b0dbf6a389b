-- What comes to a side is timed still, when the side reads, when more is said, and when a piece is heard, which is heard in time.
use Rattle.std.proofs.Common.{Bool, List, [], ap, append-nil, append_assoc, arith, drop, false, length, refl, subst, suc, sym, take, true, zero, ℕ, ◌++◌, ◌-◌, ◌∙◌, ◌∷◌, ◌≡◌, ◌≢◌, ◌≤◌}
use Rattle.std.specs.Prelude.{max}
use Rattle.std.proofs.lemmas.Bool.{false≢true}
use Rattle.std.specs.List.{AllByRecursion}
use Rattle.line_base.specs.declared.states.SensorEvent.{SensorEvent}
use Rattle.line_base.specs.declared.states.Side.{Side}
use Rattle.line_base.specs.declared.states.Side.TheVariants.{Entry, Exit}
use Rattle.line_base.specs.declared.states.Transfer.{Transfer}
use Rattle.line_base.specs.declared.states.Transfer.TheVariants as transfer
use Rattle.board_record.specs.declared.sensed.Sensed.{Sensed}
use Rattle.hermes_horizontal.specs.declared.message.Horizontal.{Horizontal}
use Rattle.hermes_horizontal.specs.declared.message.Horizontal.TheVariants as message
use Rattle.hermes_horizontal.specs.declared.message.Message.{Message}
use Rattle.node_core.specs.Words.{AreWords}
use Rattle.node_core.specs.declared.word.Word.{Word}
use Rattle.node_core.specs.declared.word.Word.TheVariants.{Says, Wrong}
use Rattle.law_custody.specs.Bytes.{Flows, texts_of}
use Rattle.law_custody.specs.Unread.{IsEndRead, all_is_read, is_complete}
use Rattle.law_custody.specs.Words.{events_at}
use Rattle.law_link_messages.specs.Fit.{AreFit}
use Rattle.law_link_messages.specs.Heard.{Heard, bodies}
use Rattle.law_link_messages.proofs.Fitting.{fit_behind}
use Rattle.law_machine_custody.specs.Flight.{AreOldest, oldest_says}
use Rattle.law_machine_custody.specs.InTime.{AreInTime, IsInTime, none_in_time, says_in_time, wrong_in_time}
use Rattle.law_one_standing.proofs.Carrying.{SaysAlone}
use Rattle.law_running_line.specs.Timed.{IsFront, IsTimed, awaits_reading, front_none, front_said}
use Rattle.law_running_line.specs.Wire.{Coming, bytes_of, most_behind, text_behind, with_read}
use Rattle.law_running_line.proofs.WiresBytes.{parted}
use Rattle.law_running_line.proofs.WiresParts.{read_bytes}

-- ---- the side reads

read_both : (n : ℕ) (a b : List Coming) → with_read n (a ++ b) ≡ with_read n a ++ with_read n b
read_both n [] b = refl
read_both n (c ∷ a) b = ap (λ (rest : List Coming). record c { behind = c.behind - n } ∷ rest) (read_both n a b)

less_behind : (count n behind : ℕ) → count ≤ behind → count - n ≤ behind - n
less_behind count n behind is = omega (arith, is)

read_behind : (count n : ℕ) (late : List Coming) → AllByRecursion (λ (c : Coming). count ≤ c.behind) late → AllByRecursion (λ (c : Coming). count - n ≤ c.behind) (with_read n late)
read_behind count n [] all = tt
read_behind count n (c ∷ late) all = (less_behind count n c.behind all.0, read_behind count n late all.1)

front_read : {side : Side} {waiting : List ℕ} {early : List Coming} (n : ℕ) → IsFront side waiting early → IsFront side waiting (with_read n early)
front_read n front_none = front_none
front_read {waiting = waiting} n (front_said {early = early} said fit flows free) = front_said said fit (subst (λ (bytes : List ℕ). Flows waiting bytes (texts_of said)) (sym (read_bytes n early)) flows) free

pub timed_read : {side : Side} {count : ℕ} {waiting : List ℕ} {coming : List Coming} (n : ℕ) → IsTimed side count waiting coming → IsTimed side (count - n) waiting (with_read n coming)
timed_read {count = count} n k = record {
  early = with_read n k.early;
  late = with_read n k.late;
  is = ap (with_read n) k.is ∙ read_both n k.early k.late;
  behind = read_behind count n k.late k.behind;
  front = front_read n k.front;
}

-- ---- more is said

text_late : (count n : ℕ) (text : List ℕ) → count ≤ n → AllByRecursion (λ (c : Coming). count ≤ c.behind) (text_behind n text)
text_late count n [] is = tt
text_late count n (byte ∷ text) is = (is, text_late count n text is)

both_late : (count : ℕ) (a b : List Coming) → AllByRecursion (λ (c : Coming). count ≤ c.behind) a → AllByRecursion (λ (c : Coming). count ≤ c.behind) b → AllByRecursion (λ (c : Coming). count ≤ c.behind) (a ++ b)
both_late count [] b all more = more
both_late count (c ∷ a) b all more = (all.0, both_late count a b all.1 more)

pub timed_said : {side : Side} {count : ℕ} {waiting : List ℕ} {coming : List Coming} (n : ℕ) (text : List ℕ) → count ≤ n → IsTimed side count waiting coming → IsTimed side count waiting (coming ++ text_behind n text)
timed_said {count = count} n text is k = record {
  early = k.early;
  late = k.late ++ text_behind n text;
  is = ap (λ (cs : List Coming). cs ++ text_behind n text) k.is ∙ append_assoc k.early k.late (text_behind n text);
  behind = both_late count k.late (text_behind n text) k.behind (text_late count n text is);
  front = k.front;
}

-- ---- what waits for no reading is timed, and so is all where nothing is unread

pub timed_free : {side : Side} {waiting : List ℕ} {coming : List Coming} (count : ℕ) (said : List Message) → AreFit said → Flows waiting (bytes_of coming) (texts_of said) → AllByRecursion (λ (one : Message). awaits_reading side one.body ≡ false) said
    → IsTimed side count waiting coming
timed_free {coming = coming} count said fit flows free = record { early = coming; late = []; is = sym (append-nil coming); behind = tt; front = front_said said fit flows free }

none_behind : (coming : List Coming) → AllByRecursion (λ (c : Coming). 0 ≤ c.behind) coming
none_behind [] = tt
none_behind (c ∷ coming) = (omega arith, none_behind coming)

pub timed_none : {side : Side} (waiting : List ℕ) (coming : List Coming) → IsTimed side 0 waiting coming
timed_none waiting coming = record { early = []; late = coming; is = refl; behind = none_behind coming; front = front_none }

-- ---- words that are heard in time

free_in_time : (side : Side) (what : Horizontal) (us : List Sensed) → awaits_reading side what ≡ false → IsInTime side what us
free_in_time Entry (message.ServiceDescription service) us free = absurd (false≢true (sym free))
free_in_time Entry (message.TransportFinished transfer.NotStarted id) us free = absurd (false≢true (sym free))
free_in_time Entry (message.TransportFinished transfer.Incomplete id) us free = absurd (false≢true (sym free))
free_in_time Entry (message.TransportFinished transfer.Complete id) us free = is_complete
free_in_time Exit (message.StartTransport id) us free = absurd (false≢true (sym free))
free_in_time _ _ us free = tt

frees_in_time : (side : Side) (words : List Word) (said : List Message) (us : List Sensed) → AreOldest words (bodies said) → AllByRecursion (λ (one : Message). awaits_reading side one.body ≡ false) said → AreInTime side us words
frees_in_time side [] said us oldest all = none_in_time
frees_in_time side (Says m ∷ words) [] us oldest all = elim oldest [ ]
frees_in_time side (Says m ∷ words) (one ∷ said) us oldest all = says_in_time (free_in_time side m.body us (first_of oldest all.0)) (frees_in_time side words said us (others_of oldest) all.1)
  where
    first_of : {words : List Word} {m : Message} {what : Horizontal} {rest : List Horizontal} → AreOldest (Says m ∷ words) (what ∷ rest) → awaits_reading side what ≡ false → awaits_reading side m.body ≡ false
    first_of (oldest_says later) free = free

    others_of : {words : List Word} {m : Message} {what : Horizontal} {rest : List Horizontal} → AreOldest (Says m ∷ words) (what ∷ rest) → AreOldest words rest
    others_of (oldest_says later) = later
frees_in_time side (Wrong text ∷ words) said us oldest all = wrong_in_time

none_end : {end : Transfer} {es : List SensorEvent} → es ≡ [] → IsEndRead end es
none_end {end = end} is = subst (λ (es : List SensorEvent). IsEndRead end es) (sym is) all_is_read

read_in_time : (side : Side) (what : Horizontal) (us : List Sensed) → events_at side us ≡ [] → IsInTime side what us
read_in_time Entry (message.ServiceDescription service) us none = none
read_in_time Entry (message.TransportFinished state id) us none = none_end none
read_in_time Exit (message.StartTransport id) us none = none
read_in_time _ _ us none = tt

pub reads_in_time : (side : Side) (words : List Word) (us : List Sensed) → events_at side us ≡ [] → AreInTime side us words
reads_in_time side [] us none = none_in_time
reads_in_time side (Says m ∷ words) us none = says_in_time (read_in_time side m.body us none) (reads_in_time side words us none)
reads_in_time side (Wrong text ∷ words) us none = wrong_in_time

-- ---- a piece is heard

-- so many bytes are of the first part, or the first of the last part is among them
data Cut (k : ℕ) (early late : List Coming) : Type 0 where
  cut_within : take k (early ++ late) ≡ take k early → drop k (early ++ late) ≡ drop k early ++ late → Cut k early late
  cut_late : (c : Coming) (rest : List Coming) → late ≡ c ∷ rest → (most_behind (take k (early ++ late)) ≡ 0 → c.behind ≡ 0) → Cut k early late

max_first : (a b : ℕ) → max a b ≡ 0 → a ≡ 0
max_first a b is = omega (arith, is)

max_last : (a b : ℕ) → max a b ≡ 0 → b ≡ 0
max_last a b is = omega (arith, is)

cut : (k : ℕ) (early late : List Coming) → Cut k early late
cut zero early late = cut_within refl refl
cut (suc k) [] [] = cut_within refl refl
cut (suc k) [] (c ∷ late) = cut_late c late refl (λ is. max_first c.behind (most_behind (take k late)) is)
cut (suc k) (e ∷ early) late = later (cut k early late)
  where
    later : Cut k early late → Cut (suc k) (e ∷ early) late
    later (cut_within first last) = cut_within (ap (λ (cs : List Coming). e ∷ cs) first) last
    later (cut_late c rest is none) = cut_late c rest is (λ all. none (max_last e.behind (most_behind (take k (early ++ late))) all))

-- the words that it comes to are heard in time, and what comes behind it is timed
pub record ComesInTime (side : Side) (count : ℕ) (new : List ℕ) (still : Bool) (later : List Coming) (words : List Word) : Type 0 where
  pub in_time : (us : List Sensed) → count ≡ length (events_at side us) → AreInTime side us words
  pub timed : still ≡ true → IsTimed side count new later

none_of : (side : Side) (us : List Sensed) → length (events_at side us) ≡ 0 → events_at side us ≡ []
none_of side us is = empty (events_at side us) is
  where
    empty : (es : List SensorEvent) → length es ≡ 0 → es ≡ []
    empty [] is = refl
    empty (e ∷ es) is = absurd (omega (arith, is))

all_behind : (count behind : ℕ) → count ≤ behind → behind ≡ 0 → count ≡ 0
all_behind count behind less is = omega (arith, less, is)

first_late : {count : ℕ} {c : Coming} {rest : List Coming} (late : List Coming) → late ≡ c ∷ rest → AllByRecursion (λ (c : Coming). count ≤ c.behind) late → count ≤ c.behind
first_late {count} {c} {rest} late is all = (subst (λ (cs : List Coming). AllByRecursion (λ (c : Coming). count ≤ c.behind) cs) is all).0

all_later : (side : Side) (n : ℕ) (said : List Message) → AllByRecursion (λ (one : Message). awaits_reading side one.body ≡ false) said → AllByRecursion (λ (one : Message). awaits_reading side one.body ≡ false) (drop n said)
all_later side zero said all = all
all_later side (suc n) [] all = tt
all_later side (suc n) (one ∷ said) all = all_later side n said all.1

comes_read : {side : Side} {count : ℕ} {new : List ℕ} {still : Bool} {words : List Word} (later : List Coming) → count ≡ 0 → ComesInTime side count new still later words
comes_read {side} {count} {new} {still} {words} later none = record {
  in_time = λ us is. reads_in_time side words us (none_of side us (sym is ∙ none));
  timed = λ on. subst (λ (n : ℕ). IsTimed side n new later) (sym none) (timed_none new later);
}

comes_within : SaysAlone → {side : Side} {count : ℕ} {old piece new : List ℕ} {still : Bool} {words : List Word} (k : ℕ) (early late : List Coming) → IsFront side old early → AllByRecursion (λ (c : Coming). count ≤ c.behind) late → piece ≢ []
    → piece ≡ bytes_of (take k early) → AreWords old piece new still words → ComesInTime side count new still (drop k early ++ late) words
comes_within alone k _ late front_none behind some is are = absurd (some (is ∙ none_taken k))
  where
    none_taken : (n : ℕ) → bytes_of (take n []) ≡ []
    none_taken zero = refl
    none_taken (suc n) = refl
comes_within alone {side} {count} {old} {piece} {new} {still} {words} k _ late (front_said {early = early} said fit flows free) behind some is are =
    let later : List Coming = drop k early in
    let all : Flows old (piece ++ bytes_of later) (texts_of said) = subst (λ (bytes : List ℕ). Flows old bytes (texts_of said)) (parted k early piece is) flows in
    let heard : Heard said words new (bytes_of later) still = alone.oldest old piece (bytes_of later) new still words said (alone.sayable said fit) all are in
    record {
      in_time = λ us count. frees_in_time side words said us heard.oldest free;
      timed = λ on. record {
        early = later;
        late = late;
        is = refl;
        behind = behind;
        front = front_said (drop (length words) said) (fit_behind (length words) said fit) (heard.flows on) (all_later side (length words) said free);
      };
    }

-- THE PIECE, of which no byte was said behind an event that is unread
pub timed_heard : SaysAlone → {side : Side} {count : ℕ} {old piece new : List ℕ} {still : Bool} {words : List Word} {coming : List Coming} (k : ℕ) → IsTimed side count old coming → piece ≢ [] → piece ≡ bytes_of (take k coming) → most_behind (take k coming) ≡ 0
    → AreWords old piece new still words → ComesInTime side count new still (drop k coming) words
timed_heard alone {side} {count} {old} {piece} {new} {still} {words} {coming} k timed some is none are = by (cut k timed.early timed.late)
  where
    by : Cut k timed.early timed.late → ComesInTime side count new still (drop k coming) words
    by (cut_within first last) = subst (λ (cs : List Coming). ComesInTime side count new still cs words) (sym (ap (drop k) timed.is ∙ last))
        (comes_within alone k timed.early timed.late timed.front timed.behind some (is ∙ ap bytes_of (ap (take k) timed.is ∙ first)) are)
    by (cut_late c rest late zero_is) =
        comes_read (drop k coming) (all_behind count c.behind (first_late timed.late late timed.behind) (zero_is (sym (ap (λ (cs : List Coming). most_behind (take k cs)) timed.is) ∙ none)))
