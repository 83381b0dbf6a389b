-- A RUN IS ONE, as each of its moves is.
use Rattle.std.proofs.Common.{◌≡◌, ◌∙◌, ◌++◌, ℕ, ℤ, List, [], ◌∷◌, refl, sym, ap, subst, append_assoc, append-nil}
use Rattle.config_service.specs.declared.message.Settings.{Settings}
use Rattle.line_outside.specs.Given.{Closes, Given, Listens, Polls}
use Rattle.line_outside.specs.Listening.{at_all}
use Rattle.line_outside.specs.declared.ports.Opened.{Opened}
use Rattle.line_outside.specs.declared.answer.GotBytes.{GotBytes}
use Rattle.line_outside.specs.declared.way.Way.{Way}
use Rattle.line_outside.specs.declared.way.Way.TheVariants as ways
use Rattle.node_run.specs.Next.{next_of}
use Rattle.node_run.specs.Runs.{CallsNext, Moves, Runs, begins, closed, goes_on, no_call, polled, polled_again, room_bytes, tried}
use Rattle.node_run.specs.State.{RunState}
use Rattle.node_run.specs.declared.place.Next.{Next}
use Rattle.node_run.specs.declared.place.Next.TheVariants as nexts
use Rattle.node_run.specs.declared.rules.Rules.{Rules}
use Rattle.node_run.specs.declared.status.NodeStatus.{NodeStatus}
use Rattle.law_node_runs.specs.One.{Agree, EachPartIsAFront, EachRunIsOne, IsFront, answers_of}
use Rattle.law_node_runs.proofs.Moving.{Laws, MovesAt, move_once, moves_at, none_ends, same_found, same_opened}
use Rattle.law_node_runs.proofs.Nodes.{alike_self}
use Rattle.law_node_runs.proofs.States.{RunsAlike}

-- ---- a run from its front on

data Chain (rules : Rules) : RunState → List ℤ → List Given → RunState → List ℕ → Type 0 where
  stops : {s : RunState} → Chain rules s [] [] s []
  steps : {s u : RunState} {moments : List ℤ} {all : List Given} {text : List ℕ} (t : RunState) (moment : ℤ) (calls more : List Given) (log lines : List ℕ)
      → Moves rules moment s calls t log → Chain rules t moments more u lines → all ≡ calls ++ more → text ≡ log ++ lines → Chain rules s (moment ∷ moments) all u text

push : {rules : Rules} {s t u : RunState} {moments : List ℤ} {moment : ℤ} {calls more : List Given} {log lines : List ℕ} → Chain rules s moments calls t log → Moves rules moment t more u lines
    → Chain rules s (moments ++ moment ∷ []) (calls ++ more) u (log ++ lines)
push {u = u} {moment = moment} {more = more} {lines = lines} stops move = steps u moment more [] lines [] move stops (sym (append-nil more)) (sym (append-nil lines))
push {more = more} {lines = lines} (steps t moment calls others log texts first later calls_are text_is) move =
    steps t moment calls (others ++ more) log (texts ++ lines) first (push later move)
    (ap (λ (cs : List Given). cs ++ more) calls_are ∙ append_assoc calls others more) (ap (λ (text : List ℕ). text ++ lines) text_is ∙ append_assoc log texts lines)

chain_of : {rules : Rules} {s t : RunState} {moments : List ℤ} {calls : List Given} {log : List ℕ} → Runs rules s moments calls t log → Chain rules s moments calls t log
chain_of begins = stops
chain_of (goes_on run move) = push (chain_of run) move

-- ---- answers

agree_fronts : (a b c d : List Given) → Agree (answers_of (a ++ b)) (answers_of (c ++ d)) → Agree (answers_of a) (answers_of c)
agree_fronts [] b c d agree = tt
agree_fronts (x ∷ a) b [] d agree = tt
agree_fronts (x ∷ a) b (y ∷ c) d agree = (agree.0, agree_fronts a b c d agree.1)

agree_behind : (a b d : List Given) → Agree (answers_of (a ++ b)) (answers_of (a ++ d)) → Agree (answers_of b) (answers_of d)
agree_behind [] b d agree = agree
agree_behind (x ∷ a) b d agree = agree_behind a b d agree.1

agree_by : {a b c d : List Given} → b ≡ a → d ≡ c → Agree (answers_of a) (answers_of c) → Agree (answers_of b) (answers_of d)
agree_by {a = a} {b = b} {c = c} {d = d} first second agree =
    let P : List Given → Type 0 = λ x. Agree (answers_of x) (answers_of c) in
    let Q : List Given → Type 0 = λ x. Agree (answers_of b) (answers_of x) in
    subst Q (sym second) (subst P (sym first) agree)

-- ---- a run follows another

next_same : (rules : Rules) (s t : RunState) → RunsAlike s t → next_of rules t ≡ next_of rules s
next_same rules s t alike = ap (next_of rules) alike.same

record Follows (rules : Rules) (moments others : List ℤ) (calls more : List Given) (t t' : RunState) (log text : List ℕ) : Type 0 where
  reached : RunState
  later : List ℤ
  rest : List Given
  lines : List ℕ
  left : Chain rules reached later rest t lines
  alike : RunsAlike reached t'
  moments_are : moments ≡ others ++ later
  calls_are : calls ≡ more ++ rest
  log_is : log ≡ text ++ lines

stepped_on : (rules : Rules) (moment : ℤ) (moments others : List ℤ) (calls more all whole first : List Given) (first' : List Given) (t t' : RunState) (log text one lines other : List ℕ) (log' : List ℕ)
    → all ≡ first ++ calls → log ≡ one ++ lines → whole ≡ first' ++ more → text ≡ other ++ log' → first' ≡ first → other ≡ one
    → Follows rules moments others calls more t t' lines log' → Follows rules (moment ∷ moments) (moment ∷ others) all whole t t' log text
stepped_on rules moment moments others calls more all whole first first' t t' log text one lines other log' all_is log_is whole_is text_is same alike follows = record {
  reached = follows.reached;
  later = follows.later;
  rest = follows.rest;
  lines = follows.lines;
  left = follows.left;
  alike = follows.alike;
  moments_are = ap (λ (ms : List ℤ). moment ∷ ms) follows.moments_are;
  calls_are = all_is ∙ ap (λ (cs : List Given). first ++ cs) follows.calls_are ∙ sym (append_assoc first more follows.rest)
      ∙ ap (λ (cs : List Given). (cs ++ more) ++ follows.rest) (sym same) ∙ ap (λ (cs : List Given). cs ++ follows.rest) (sym whole_is);
  log_is = log_is ∙ ap (λ (x : List ℕ). one ++ x) follows.log_is ∙ sym (append_assoc one log' follows.lines)
      ∙ ap (λ (x : List ℕ). (x ++ log') ++ follows.lines) (sym alike) ∙ ap (λ (x : List ℕ). x ++ follows.lines) (sym text_is);
}

follow : Laws → (rules : Rules) (status : NodeStatus) (s s' t t' : RunState) (moments others : List ℤ) (calls more : List Given) (log text : List ℕ) → RunsAlike s s' → next_of rules t ≡ nexts.End status
    → Agree moments others → Agree (answers_of calls) (answers_of more) → Chain rules s moments calls t log → Chain rules s' others more t' text → Follows rules moments others calls more t t' log text
follow laws rules status s s' t t' moments others calls more log text alike ends same agree one stops = record {
  reached = s;
  later = moments;
  rest = calls;
  lines = log;
  left = one;
  alike = alike;
  moments_are = refl;
  calls_are = refl;
  log_is = refl;
}
follow laws rules status s s' t t' moments others calls more log text alike ends same agree stops (steps r moment first later line lines move behind calls_are text_is) =
    absurd (none_ends status rules moment s' first r line (next_same rules s s' alike ∙ ends) move)
follow laws rules status s s' t t' (moment ∷ moments) (other ∷ others) calls more log text alike ends same agree (steps r _ first later line lines move behind calls_are text_is)
    (steps r' _ first' later' line' lines' move' behind' calls_are' text_is') =
    let P : ℤ → Type 0 = λ m. Moves rules m s' first' r' line' in
    let agrees = agree_by (sym calls_are) (sym calls_are') agree in
    let once = move_once laws rules moment s s' first first' r r' line line' alike (agree_fronts first later first' later' agrees) move (subst P (sym same.0) move') in
    let behind_first = agree_behind first later later' (agree_by refl (ap (λ (cs : List Given). cs ++ later') (sym once.same_calls)) agrees) in
    let follows = follow laws rules status r r' t t' moments others later later' lines lines' once.once.alike ends same.1 behind_first behind behind' in
    let Q : ℤ → Type 0 = λ m. Follows rules (moment ∷ moments) (m ∷ others) calls more t t' log text in
    subst Q same.0 (stepped_on rules moment moments others later later' calls more first first' t t' log text line lines line' lines' calls_are text_is calls_are' text_is' once.same_calls once.once.same_log follows)

-- ---- the whole

record EndsOnce (later : List ℤ) (rest : List Given) (lines : List ℕ) (status end : NodeStatus) : Type 0 where
  moments : later ≡ []
  calls : rest ≡ []
  text : lines ≡ []
  same : end ≡ status

same_end : (a b : NodeStatus) → nexts.End a ≡ nexts.End b → a ≡ b
same_end a b is = cc

ended : (rules : Rules) (reached t : RunState) (later : List ℤ) (rest : List Given) (lines : List ℕ) (status end : NodeStatus) → next_of rules reached ≡ nexts.End end → next_of rules t ≡ nexts.End status
    → Chain rules reached later rest t lines → EndsOnce later rest lines status end
ended rules reached t later rest lines status end is ends stops = record { moments = refl; calls = refl; text = refl; same = same_end end status (sym is ∙ ends) }
ended rules reached t later rest lines status end is ends (steps r moment first others line texts move behind calls_are text_is) = absurd (none_ends end rules moment reached first r line is move)

start_alike : (s : RunState) → RunsAlike s s
start_alike s = record { node = alike_self s.node; same = refl }

pub one_run : Laws → EachRunIsOne
one_run laws rules s moments others calls more log text status end one two same agree =
    let follows = follow laws rules status s s one.reached two.reached moments others calls more log text (start_alike s) one.ends same agree (chain_of one.run) (chain_of two.run) in
    let last = ended rules follows.reached one.reached follows.later follows.rest follows.lines status end (sym (next_same rules follows.reached two.reached follows.alike) ∙ two.ends) one.ends follows.left in (
      sym (follows.moments_are ∙ ap (λ (x : List ℤ). others ++ x) last.moments ∙ append-nil others),
      sym (follows.calls_are ∙ ap (λ (x : List Given). more ++ x) last.calls ∙ append-nil more),
      sym (follows.log_is ∙ ap (λ (x : List ℕ). text ++ x) last.text ∙ append-nil text),
      last.same,
    )

-- ---- a part

polled_first : (rules : Rules) (moment : ℤ) (way : Way) (got : GotBytes) (s t : RunState) (calls later all : List Given) (log : List ℕ) → next_of rules s ≡ nexts.Poll way → Moves rules moment s calls t log → all ≡ calls ++ later
    → Agree (answers_of all) (answers_of (Polls way room_bytes got ∷ [])) → IsFront (Polls way room_bytes got ∷ []) all
polled_first rules moment way got s t calls later all log next move all_is agree =
    let P : Next → Type 0 = λ n. MovesAt n rules moment s calls t log in
    let polled = subst P next (moves_at rules moment s calls t log move) in
    let whole = all_is ∙ ap (λ (cs : List Given). cs ++ later) polled.called in
    let same = same_found polled.got got (agree_by {d = Polls way room_bytes got ∷ []} (sym whole) refl agree).0 in
    record { behind = later; parts = whole ∙ ap (λ (g : GotBytes). Polls way room_bytes g ∷ later) same }

looked_first : (rules : Rules) (moment : ℤ) (got : GotBytes) (s t : RunState) (calls later all : List Given) (log : List ℕ) → next_of rules s ≡ nexts.Look → Moves rules moment s calls t log → all ≡ calls ++ later
    → Agree (answers_of all) (answers_of (Polls ways.Panel room_bytes got ∷ [])) → IsFront (Polls ways.Panel room_bytes got ∷ []) all
looked_first rules moment got s t calls later all log next move all_is agree =
    let P : Next → Type 0 = λ n. MovesAt n rules moment s calls t log in
    let looks = subst P next (moves_at rules moment s calls t log move) in
    let whole = all_is ∙ ap (λ (cs : List Given). cs ++ later) looks.called in
    let same = same_found looks.got got (agree_by {d = Polls ways.Panel room_bytes got ∷ []} (sym whole) refl agree).0 in
    record { behind = later; parts = whole ∙ ap (λ (g : GotBytes). Polls ways.Panel room_bytes g ∷ later) same }

closed_first : (rules : Rules) (moment : ℤ) (way : Way) (s t : RunState) (calls later all : List Given) (log : List ℕ) → next_of rules s ≡ nexts.Close way → Moves rules moment s calls t log → all ≡ calls ++ later → IsFront (Closes way ∷ []) all
closed_first rules moment way s t calls later all log next move all_is =
    let P : Next → Type 0 = λ n. MovesAt n rules moment s calls t log in
    let closes = subst P next (moves_at rules moment s calls t log move) in
    record { behind = later; parts = all_is ∙ ap (λ (cs : List Given). cs ++ later) closes.called }

tried_first : (rules : Rules) (moment : ℤ) (settings : Settings) (opened : Opened) (s t : RunState) (calls later all : List Given) (log : List ℕ) → next_of rules s ≡ nexts.Try settings → Moves rules moment s calls t log → all ≡ calls ++ later
    → Agree (answers_of all) (answers_of (Listens ways.Downstream (at_all settings.port) opened ∷ [])) → IsFront (Listens ways.Downstream (at_all settings.port) opened ∷ []) all
tried_first rules moment settings opened s t calls later all log next move all_is agree =
    let P : Next → Type 0 = λ n. MovesAt n rules moment s calls t log in
    let tried = subst P next (moves_at rules moment s calls t log move) in
    let whole = all_is ∙ ap (λ (cs : List Given). cs ++ later) tried.called in
    let same = same_opened tried.done opened (agree_by {d = Listens ways.Downstream (at_all settings.port) opened ∷ []} (sym whole) refl agree).0 in
    record { behind = later; parts = whole ∙ ap (λ (o : Opened). Listens ways.Downstream (at_all settings.port) o ∷ later) same }

not_end : (next : Next) (status : NodeStatus) (A : Type 0) (n : Next) → n ≡ next → n ≡ nexts.End status → (next ≡ nexts.End status → ⊥) → A
not_end next status A n is ends never = absurd (never (sym is ∙ ends))

last_called : (rules : Rules) (status : NodeStatus) (reached t reached' : RunState) (later : List ℤ) (rest last : List Given) (lines : List ℕ) → next_of rules reached' ≡ next_of rules reached → next_of rules t ≡ nexts.End status
    → Agree (answers_of rest) (answers_of last) → Chain rules reached later rest t lines → CallsNext rules reached' last → IsFront last rest
last_called rules status reached t reached' later rest last lines same ends agree chain no_call = record { behind = rest; parts = refl }
last_called rules status reached t reached' later rest last lines same ends agree stops (polled {way = way} next) =
    not_end (nexts.Poll way) status (IsFront last rest) (next_of rules reached) (sym same ∙ next) ends (λ is. cc)
last_called rules status reached t reached' later rest last lines same ends agree (steps r moment calls others line texts move behind calls_are text_is) (polled {way = way} {got = got} next) =
    polled_first rules moment way got reached r calls others rest line (sym same ∙ next) move calls_are agree
last_called rules status reached t reached' later rest last lines same ends agree stops (polled_again next) =
    not_end nexts.Look status (IsFront last rest) (next_of rules reached) (sym same ∙ next) ends (λ is. cc)
last_called rules status reached t reached' later rest last lines same ends agree (steps r moment calls others line texts move behind calls_are text_is) (polled_again {got = got} next) =
    looked_first rules moment got reached r calls others rest line (sym same ∙ next) move calls_are agree
last_called rules status reached t reached' later rest last lines same ends agree stops (closed {way = way} next) =
    not_end (nexts.Close way) status (IsFront last rest) (next_of rules reached) (sym same ∙ next) ends (λ is. cc)
last_called rules status reached t reached' later rest last lines same ends agree (steps r moment calls others line texts move behind calls_are text_is) (closed {way = way} next) =
    closed_first rules moment way reached r calls others rest line (sym same ∙ next) move calls_are
last_called rules status reached t reached' later rest last lines same ends agree stops (tried {settings = settings} next) =
    not_end (nexts.Try settings) status (IsFront last rest) (next_of rules reached) (sym same ∙ next) ends (λ is. cc)
last_called rules status reached t reached' later rest last lines same ends agree (steps r moment calls others line texts move behind calls_are text_is) (tried {settings = settings} {opened = opened} next) =
    tried_first rules moment settings opened reached r calls others rest line (sym same ∙ next) move calls_are agree

front_of_front : {A : Type 0} (front part whole rest : List A) → IsFront front part → whole ≡ part ++ rest → IsFront front whole
front_of_front front part whole rest is parts =
    record { behind = is.behind ++ rest; parts = parts ∙ ap (λ x. x ++ rest) is.parts ∙ append_assoc front is.behind rest }

front_behind : {A : Type 0} (front last rest whole : List A) → IsFront last rest → whole ≡ front ++ rest → IsFront (front ++ last) whole
front_behind front last rest whole is parts =
    record { behind = is.behind; parts = parts ∙ ap (λ x. front ++ x) is.parts ∙ sym (append_assoc front last is.behind) }

pub one_part : Laws → EachPartIsAFront
one_part laws rules s moments others calls called log logged status one two same agree =
    let agrees = agree_by {a = calls} {b = calls} {c = called} {d = two.calls ++ two.last} refl (sym two.called_are) agree in
    let before = agree_fronts calls [] two.calls two.last (agree_by {a = calls} {b = calls ++ []} {c = two.calls ++ two.last} {d = two.calls ++ two.last} (append-nil calls) refl agrees) in
    let follows = follow laws rules status s s one.reached two.reached moments others calls two.calls log two.log (start_alike s) one.ends same before (chain_of one.run) (chain_of two.run) in
    let behind = agree_behind two.calls follows.rest two.last (agree_by {a = calls} {b = two.calls ++ follows.rest} {c = two.calls ++ two.last} {d = two.calls ++ two.last} (sym follows.calls_are) refl agrees) in
    let last = last_called rules status follows.reached one.reached two.reached follows.later follows.rest two.last follows.lines (next_same rules follows.reached two.reached follows.alike) one.ends behind follows.left two.next in
    let P : List Given → Type 0 = λ cs. IsFront cs calls in
    (subst P (sym two.called_are) (front_behind two.calls two.last follows.rest calls last follows.calls_are), front_of_front logged two.log log follows.lines two.logged_is follows.log_is)
