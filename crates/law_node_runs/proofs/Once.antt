-- A run over a book is one, as each of its moves is.
use Rattle.std.proofs.Common.{◌≡◌, ◌∙◌, ◌++◌, ◌+◌, ◌≤◌, ◌<◌, ℕ, ℤ, Bool, true, false, List, [], ◌∷◌, Option, Some, None, Result, Ok, Err, length, refl, sym, ap, subst, append-nil, arith}
use Rattle.book_entry.specs.declared.entry.Entry.{Entry}
use Rattle.book_entry.specs.Given.{entry_of}
use Rattle.book_entry.specs.Steps.{spelled}
use Rattle.line_base.specs.declared.states.Side.TheVariants.{Entry as AtEntry, Exit as AtExit}
use Rattle.line_outside.specs.Given.{Given}
use Rattle.step_rules.proofs.Once.{IsDry}
use Rattle.machine_log.specs.Texts.{lines_of}
use Rattle.node_core.specs.May.{may_of}
use Rattle.node_core.specs.Node.{NodeState}
use Rattle.node_core.specs.declared.act.Act.{Act}
use Rattle.node_core.specs.declared.input.Input.{Input}
use Rattle.node_core.specs.declared.input.Input.TheVariants as inputs
use Rattle.node_core.specs.declared.input.No.{No}
use Rattle.node_run.specs.Booked.{MovesAgain, entries_of, hears_gone, most_book, moves_as_ever}
use Rattle.node_run.specs.Gone.{HearsGone, HearsIf, StepsIf, begins_again, gone_at}
use Rattle.node_run.specs.Next.{moved_on, next_of}
use Rattle.node_run.specs.Runs.{Moves}
use Rattle.node_run.specs.State.{RunState}
use Rattle.node_run.specs.Steps.{with_node}
use Rattle.node_run.specs.declared.booked.BookedStatus.{BookedStatus}
use Rattle.node_run.specs.declared.booked.BookedStatus.TheVariants as booked
use Rattle.node_run.specs.declared.place.Next.TheVariants as nexts
use Rattle.node_run.specs.declared.place.Place.{Place}
use Rattle.node_run.specs.declared.place.Place.TheVariants as places
use Rattle.node_run.specs.declared.rules.Rules.{Rules}
use Rattle.node_run.specs.declared.status.NodeStatus.{NodeStatus}
use Rattle.law_node_runs.proofs.Moving.{Laws, MovesOnce, move_once, none_ends}
use Rattle.law_node_runs.proofs.Nodes.{Alike, may_same, node_once}
use Rattle.law_node_runs.proofs.States.{Once, RunsAlike, becomes, like}
use Rattle.law_node_runs.specs.One.{Agree, answers_of}
use Rattle.law_node_runs.proofs.Ending.{Ended, goes, grown, is_done, is_full, kept_ended}
use Rattle.law_node_runs.specs.Kept.{BeginAsOne, EachKeptRunIsOne}

-- ---- what is heard to be gone

gone_dry : (place : Place) (input : Input) → gone_at place ≡ Some input → IsDry input
gone_dry places.PollUpstream input is = subst IsDry (let same : inputs.Notice AtEntry ≡ input = cc in same) tt
gone_dry places.PollDownstream input is = subst IsDry (let same : inputs.Notice AtExit ≡ input = cc in same) tt
gone_dry places.PollSupervisory input is = subst IsDry (let same : inputs.Supervise false ≡ input = cc in same) tt
gone_dry _ input is = cc

steps_by : (may : Result (Unit {0}) No) (rules : Rules) (moment : ℤ) (input : Input) (s : RunState) (n : NodeState) (t t' : RunState) (log log' : List ℕ) → IsDry input → Alike s.node n
    → StepsIf may rules moment input s t log → StepsIf may rules moment input (like s n) t' log' → Once t t' log log'
steps_by (Ok done) rules moment input s n t t' log log' dry alike one two =
    let once = node_once s.node n one.node two.node [] input moment one.told two.told alike dry one.steps two.steps in
    becomes (with_node (entry_of [] input moment) one.node one.told s) two.node (lines_of rules.panel.drives s.turn rules.number one.told) t t' log log' once.alike (one.after, one.lines)
    (two.after ∙ ap (λ (acts : List Act). with_node (entry_of [] input moment) two.node acts (like s n)) once.same, two.lines ∙ ap (lines_of rules.panel.drives s.turn rules.number) once.same)
steps_by (Err why) rules moment input s n t t' log log' dry alike one two = becomes s n [] t t' log log' alike one two

steps_once : (rules : Rules) (moment : ℤ) (input : Input) (s : RunState) (n : NodeState) (t t' : RunState) (log log' : List ℕ) → IsDry input → Alike s.node n
    → StepsIf (may_of s.node input) rules moment input s t log → StepsIf (may_of n input) rules moment input (like s n) t' log' → Once t t' log log'
steps_once rules moment input s n t t' log log' dry alike one two =
    let P : Result (Unit {0}) No → Type 0 = λ may. StepsIf may rules moment input (like s n) t' log' in
    steps_by (may_of s.node input) rules moment input s n t t' log log' dry alike one (subst P (may_same input s.node n alike) two)

gone_by : (gone : Option Input) (rules : Rules) (moment : ℤ) (s : RunState) (n : NodeState) (t t' : RunState) (log log' : List ℕ) → ((input : Input) → gone ≡ Some input → IsDry input) → Alike s.node n
    → HearsIf gone rules moment s t log → HearsIf gone rules moment (like s n) t' log' → Once t t' log log'
gone_by None rules moment s n t t' log log' dry alike one two = becomes s n [] t t' log log' alike one two
gone_by (Some input) rules moment s n t t' log log' dry alike one two = steps_once rules moment input s n t t' log log' (dry input refl) alike one two

gone_once : (rules : Rules) (moment : ℤ) (s : RunState) (n : NodeState) (t t' : RunState) (log log' : List ℕ) → Alike s.node n → HearsGone rules moment s t log → HearsGone rules moment (like s n) t' log' → Once t t' log log'
gone_once rules moment s n t t' log log' alike one two = gone_by (gone_at s.place) rules moment (moved_on s) n t t' log log' (gone_dry s.place) alike one two

-- ---- a move

begins_same : (s t : RunState) → RunsAlike s t → begins_again t ≡ begins_again s
begins_same s t alike = ap begins_again alike.same

never_both : (s t : RunState) (A : Type 0) → RunsAlike s t → begins_again s ≡ true → begins_again t ≡ false → A
never_both s t A alike begun other =
    let same = begins_same s t alike in
    let wrong : true ≡ false = sym begun ∙ sym same ∙ other in cc

again_once : Laws → (rules : Rules) (moment : ℤ) (s s' : RunState) (calls more : List Given) (t t' : RunState) (log log' : List ℕ) → RunsAlike s s' → Agree (answers_of calls) (answers_of more)
    → MovesAgain rules moment s calls t log → MovesAgain rules moment s' more t' log' → MovesOnce t t' calls more log log'
again_once laws rules moment s s' calls more t t' log log' alike agree (moves_as_ever begun move) (moves_as_ever begun' move') = move_once laws rules moment s s' calls more t t' log log' alike agree move move'
again_once laws rules moment s s' calls more t t' log log' alike agree (moves_as_ever begun move) (hears_gone begun' hears') =
    let wrong : true ≡ false = sym begun' ∙ begins_same s s' alike ∙ begun in cc
again_once laws rules moment s s' calls more t t' log log' alike agree (hears_gone begun hears) (moves_as_ever begun' move') = never_both s s' (MovesOnce t t' calls more log log') alike begun begun'
again_once laws rules moment s s' calls more t t' log log' alike agree (hears_gone begun hears) (hears_gone begun' hears') =
    let P : RunState → Type 0 = λ b. HearsGone rules moment b t' log' in
    record { once = gone_once rules moment s s'.node t t' log log' alike.node hears (subst P alike.same hears'); same_calls = refl }

-- no move comes behind an end
no_move : (status : NodeStatus) (rules : Rules) (moment : ℤ) (s t r : RunState) (calls : List Given) (log : List ℕ) (A : Type 0) → RunsAlike s t → begins_again s ≡ false → next_of rules s ≡ nexts.End status → MovesAgain rules moment t calls r log → A
no_move status rules moment s t r calls log A alike begun ends (moves_as_ever begun' move) = absurd (none_ends status rules moment t calls r log (ap (next_of rules) alike.same ∙ ends) move)
no_move status rules moment s t r calls log A alike begun ends (hears_gone begun' hears) =
    let wrong : true ≡ false = sym begun' ∙ begins_same s t alike ∙ begun in cc

no_move_there : (status : NodeStatus) (rules : Rules) (moment : ℤ) (s t r : RunState) (calls : List Given) (log : List ℕ) (A : Type 0) → RunsAlike s t → begins_again t ≡ false → next_of rules t ≡ nexts.End status → MovesAgain rules moment s calls r log → A
no_move_there status rules moment s t r calls log A alike begun ends (moves_as_ever begun' move) = absurd (none_ends status rules moment s calls r log (sym (ap (next_of rules) alike.same) ∙ ends) move)
no_move_there status rules moment s t r calls log A alike begun ends (hears_gone begun' hears) =
    let wrong : true ≡ false = sym begun' ∙ sym (begins_same s t alike) ∙ begun in cc

entries_same : (s s' t t' : RunState) → RunsAlike s s' → RunsAlike t t' → entries_of s' t' ≡ entries_of s t
entries_same s s' t t' alike alike' = ap (λ (x : RunState). entries_of x t') alike.same ∙ ap (λ (y : RunState). entries_of (like s s'.node) y) alike'.same

-- ---- answers

agree_fronts : (a b c d : List Given) → Agree (answers_of (a ++ b)) (answers_of (c ++ d)) → Agree (answers_of a) (answers_of c)
agree_fronts [] b c d agree = tt
agree_fronts (x ∷ a) b [] d agree = tt
agree_fronts (x ∷ a) b (y ∷ c) d agree = (agree.0, agree_fronts a b c d agree.1)

agree_behind : (a b d : List Given) → Agree (answers_of (a ++ b)) (answers_of (a ++ d)) → Agree (answers_of b) (answers_of d)
agree_behind [] b d agree = agree
agree_behind (x ∷ a) b d agree = agree_behind a b d agree.1

agree_by : {a b c d : List Given} → b ≡ a → d ≡ c → Agree (answers_of a) (answers_of c) → Agree (answers_of b) (answers_of d)
agree_by {a = a} {b = b} {c = c} {d = d} first second agree =
    let P : List Given → Type 0 = λ x. Agree (answers_of x) (answers_of c) in
    let Q : List Given → Type 0 = λ x. Agree (answers_of b) (answers_of x) in
    subst Q (sym second) (subst P (sym first) agree)

agree_front_of : (a c d whole : List Given) → whole ≡ c ++ d → Agree (answers_of a) (answers_of whole) → Agree (answers_of a) (answers_of c)
agree_front_of [] c d whole is agree = tt
agree_front_of (x ∷ a) c d whole is agree = agree_fronts (x ∷ a) [] c d (agree_by {a = x ∷ a} {b = (x ∷ a) ++ []} {c = whole} {d = c ++ d} (append-nil (x ∷ a)) (sym is) agree)

agree_of_front : (a b c whole : List Given) → whole ≡ a ++ b → Agree (answers_of whole) (answers_of c) → Agree (answers_of a) (answers_of c)
agree_of_front a b c whole is agree = agree_fronts a b c [] (agree_by {a = whole} {b = a ++ b} {c = c} {d = c ++ []} (sym is) (append-nil c) agree)

-- ---- two ends

record EndsOnce (calls more : List Given) (log text : List ℕ) (entries kept : List Entry) (end other : BookedStatus) : Type 0 where
  calls_same : more ≡ calls
  log_same : text ≡ log
  kept_same : kept ≡ entries
  end_same : other ≡ end

same_end : (a b : NodeStatus) → nexts.End a ≡ nexts.End b → b ≡ a
same_end a b is = cc

-- a book has room for an entry, or it hasn't
no_room : (size : ℕ) (s s' t t' : RunState) (A : Type 0) → RunsAlike s s' → RunsAlike t t' → most_book < grown size s t → grown size s' t' ≤ most_book → A
no_room size s s' t t' A alike alike' full room =
    let wrong : most_book < most_book = omega (arith, full, room, ap (λ (es : List Entry). length (spelled es)) (entries_same s s' t t' alike alike')) in absurd (omega (arith, wrong))

room_no : (size : ℕ) (s s' t t' : RunState) (A : Type 0) → RunsAlike s s' → RunsAlike t t' → grown size s t ≤ most_book → most_book < grown size s' t' → A
room_no size s s' t t' A alike alike' room full =
    let wrong : most_book < most_book = omega (arith, full, room, ap (λ (es : List Entry). length (spelled es)) (entries_same s s' t t' alike alike')) in absurd (omega (arith, wrong))

ended_once : Laws → (rules : Rules) (size : ℕ) (s s' : RunState) (moments others : List ℤ) (calls more : List Given) (log text : List ℕ) (entries kept : List Entry) (end other : BookedStatus) → RunsAlike s s' → Agree moments others → Agree (answers_of calls) (answers_of more)
    → Ended rules size s moments calls log entries end → Ended rules size s' others more text kept other → EndsOnce calls more log text entries kept end other
ended_once laws rules size s s' moments others calls more log text entries kept end other alike same agree (is_done {status = one} begun ends) (is_done {status = two} begun' ends') =
    record { calls_same = refl; log_same = refl; kept_same = refl; end_same = ap booked.Node (same_end one two (sym ends ∙ sym (ap (next_of rules) alike.same) ∙ ends')) }
ended_once laws rules size s s' moments others calls more log text entries kept end other alike same agree (is_done {status = one} begun ends) (is_full {moment = moment} {calls = first} t' lines move' full') =
    no_move one rules moment s s' t' first lines (EndsOnce calls more log text entries kept end other) alike begun ends move'
ended_once laws rules size s s' moments others calls more log text entries kept end other alike same agree (is_done {status = one} begun ends) (goes t' moment first later line lines es move' room' behind' calls_are' text_is' entries_are') =
    no_move one rules moment s s' t' first line (EndsOnce calls more log text entries kept end other) alike begun ends move'
ended_once laws rules size s s' moments others calls more log text entries kept end other alike same agree (is_full {moment = moment} {calls = first} t lines move full) (is_done {status = two} begun' ends') =
    no_move_there two rules moment s s' t first lines (EndsOnce calls more log text entries kept end other) alike begun' ends' move
ended_once laws rules size s s' moments others calls more log text entries kept end other alike same agree (is_full {moment = moment} t lines move full) (is_full {moment = moment'} t' lines' move' full') =
    let P : ℤ → Type 0 = λ m. MovesAgain rules m s' more t' lines' in
    let once = again_once laws rules moment s s' calls more t t' lines lines' alike agree move (subst P (sym same.0) move') in
    record { calls_same = once.same_calls; log_same = refl; kept_same = refl; end_same = refl }
ended_once laws rules size s s' moments others calls more log text entries kept end other alike same agree (is_full {moment = moment} t lines move full) (goes t' moment' first' later' line' lines' es' move' room' behind' calls_are' text_is' entries_are') =
    let P : ℤ → Type 0 = λ m. MovesAgain rules m s' first' t' line' in
    let once = again_once laws rules moment s s' calls first' t t' lines line' alike (agree_front_of calls first' later' more calls_are' agree) move (subst P (sym same.0) move') in
    no_room size s s' t t' (EndsOnce calls more log text entries kept end other) alike once.once.alike full room'
ended_once laws rules size s s' moments others calls more log text entries kept end other alike same agree (goes t moment first later line lines es move room behind calls_are text_is entries_are) (is_done {status = two} begun' ends') =
    no_move_there two rules moment s s' t first line (EndsOnce calls more log text entries kept end other) alike begun' ends' move
ended_once laws rules size s s' moments others calls more log text entries kept end other alike same agree (goes t moment first later line lines es move room behind calls_are text_is entries_are) (is_full {moment = moment'} t' lines' move' full') =
    let P : ℤ → Type 0 = λ m. MovesAgain rules m s' more t' lines' in
    let once = again_once laws rules moment s s' first more t t' line lines' alike (agree_of_front first later more calls calls_are agree) move (subst P (sym same.0) move') in
    room_no size s s' t t' (EndsOnce calls more log text entries kept end other) alike once.once.alike room full'
ended_once laws rules size s s' (moment ∷ moments) (moment' ∷ others) calls more log text entries kept end other alike same agree (goes t _ first later line lines es move room behind calls_are text_is entries_are)
    (goes t' _ first' later' line' lines' es' move' room' behind' calls_are' text_is' entries_are') =
    let P : ℤ → Type 0 = λ m. MovesAgain rules m s' first' t' line' in
    let agrees = agree_by (sym calls_are) (sym calls_are') agree in
    let once = again_once laws rules moment s s' first first' t t' line line' alike (agree_fronts first later first' later' agrees) move (subst P (sym same.0) move') in
    let behind_first = agree_behind first later later' (agree_by refl (ap (λ (cs : List Given). cs ++ later') (sym once.same_calls)) agrees) in
    let made = entries_same s s' t t' alike once.once.alike in
    let Q : ℕ → Type 0 = λ n. Ended rules n t' others later' lines' es' other in
    let later_ended = subst Q (ap (λ (e : List Entry). size + length (spelled e)) made) behind' in
    let rest = ended_once laws rules (grown size s t) t t' moments others later later' lines lines' es es' end other once.once.alike same.1 behind_first behind later_ended in
    record {
      calls_same = calls_are' ∙ ap (λ (cs : List Given). cs ++ later') once.same_calls ∙ ap (λ (cs : List Given). first ++ cs) rest.calls_same ∙ sym calls_are;
      log_same = text_is' ∙ ap (λ (x : List ℕ). x ++ lines') once.once.same_log ∙ ap (λ (x : List ℕ). line ++ x) rest.log_same ∙ sym text_is;
      kept_same = entries_are' ∙ ap (λ (e : List Entry). e ++ es') made ∙ ap (λ (e : List Entry). entries_of s t ++ e) rest.kept_same ∙ sym entries_are;
      end_same = rest.end_same;
    }

begin_alike : (s t : RunState) → BeginAsOne s t → RunsAlike s t
begin_alike s t is =
    let one = is.node in
    let node : Alike s.node t.node = record { spent = refl; name = one.name; number = one.number; capacity = one.capacity; maker = one.maker; bridge = one.bridge; forecasts = one.forecasts; supervised = one.supervised; orders = one.orders; body = one.body; entry = one.entry; exit = one.exit } in
    record { node = node; same = is.others }

pub kept_once : Laws → EachKeptRunIsOne
kept_once laws rules size s t moments others calls more log text entries kept end other begin one two same agree =
    let once = ended_once laws rules size s t moments others calls more log text entries kept end other (begin_alike s t begin) same agree (kept_ended rules s size moments calls log entries end one) (kept_ended rules t size others more text kept other two) in
    (once.calls_same, once.log_same, once.kept_same, once.end_same)
