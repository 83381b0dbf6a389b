-- A RUN COMES TO ITS END: as long as it hasn't, there is a move, which brings it nearer.
use Rattle.std.proofs.Common.{◌≡◌, ◌∙◌, ◌++◌, ◌+◌, ◌<◌, ◌≤◌, ℕ, ℤ, zero, suc, Bool, true, false, List, [], ◌∷◌, length, refl, sym, ap, subst, arith, append_assoc, append-nil}
use Rattle.std.proofs.lemmas.Bool.{false≢true}
use Rattle.line_outside.specs.Given.{Given}
use Rattle.node_run.specs.Moving.{is_end}
use Rattle.node_run.specs.Next.{next_of}
use Rattle.node_run.specs.Runs.{Moves, Runs, begins, goes_on}
use Rattle.node_run.specs.State.{RunState}
use Rattle.node_run.specs.Work.{far_of}
use Rattle.node_run.specs.declared.place.Next.{Next}
use Rattle.node_run.specs.declared.place.Next.TheVariants as nexts
use Rattle.node_run.specs.declared.rules.Rules.{Rules}
use Rattle.node_run.specs.declared.status.NodeStatus.{NodeStatus}
use Rattle.node_run.proofs.Far.{moves_nearer}
use Rattle.law_node_runs.specs.Each.{AreAnswered, AreMoments, Fits, Outside}
use Rattle.law_node_runs.proofs.Happening.{IsKept}
use Rattle.law_node_runs.proofs.EachMoving.{AsReplied, HasMove, has_move, none_called, one_called}

-- ---- a run from its front on

pub data Chain (rules : Rules) : RunState → List ℤ → List Given → RunState → List ℕ → Type 0 where
  stops : {s : RunState} → Chain rules s [] [] s []
  steps : {s u : RunState} {moments : List ℤ} {all : List Given} {text : List ℕ} (t : RunState) (moment : ℤ) (calls more : List Given) (log lines : List ℕ)
      → Moves rules moment s calls t log → Chain rules t moments more u lines → all ≡ calls ++ more → text ≡ log ++ lines → Chain rules s (moment ∷ moments) all u text

-- a move before a run
before_run : {rules : Rules} {s t u : RunState} {moment : ℤ} {first calls : List Given} {line log : List ℕ} {moments : List ℤ} → Moves rules moment s first t line → Runs rules t moments calls u log
    → Runs rules s (moment ∷ moments) (first ++ calls) u (line ++ log)
before_run {rules = rules} {s = s} {u = u} {moment = moment} {first = first} {line = line} move begins =
    let P : List Given → Type 0 = λ cs. Runs rules s (moment ∷ []) cs u line in
    let Q : List ℕ → Type 0 = λ text. Runs rules s (moment ∷ []) (first ++ []) u text in
    subst Q (sym (append-nil line)) (subst P (sym (append-nil first)) (goes_on begins move))
before_run {rules = rules} {s = s} {u = u} {moment = moment} {first = first} {line = line} move (goes_on {moments = moments} {moment = later} {calls = calls} {more = more} {log = log} {lines = lines} run last) =
    let P : List Given → Type 0 = λ cs. Runs rules s (moment ∷ moments ++ later ∷ []) cs u ((line ++ log) ++ lines) in
    let Q : List ℕ → Type 0 = λ text. Runs rules s (moment ∷ moments ++ later ∷ []) (first ++ (calls ++ more)) u text in
    subst Q (append_assoc line log lines) (subst P (append_assoc first calls more) (goes_on (before_run move run) last))

pub run_of : {rules : Rules} {s u : RunState} {moments : List ℤ} {calls : List Given} {log : List ℕ} → Chain rules s moments calls u log → Runs rules s moments calls u log
run_of stops = begins
run_of {rules = rules} {s = s} {u = u} {moments = moments} {log = text} (steps {all = all} t moment calls more log lines move rest all_is text_is) =
    let P : List Given → Type 0 = λ cs. Runs rules s moments cs u (log ++ lines) in
    let Q : List ℕ → Type 0 = λ x. Runs rules s moments all u x in
    subst Q (sym text_is) (subst P (sym all_is) (before_run move (run_of rest)))

push : {rules : Rules} {s t u : RunState} {moments : List ℤ} {moment : ℤ} {calls more : List Given} {log lines : List ℕ} → Chain rules s moments calls t log → Moves rules moment t more u lines
    → Chain rules s (moments ++ moment ∷ []) (calls ++ more) u (log ++ lines)
push {u = u} {moment = moment} {more = more} {lines = lines} stops move = steps u moment more [] lines [] move stops (sym (append-nil more)) (sym (append-nil lines))
push {more = more} {lines = lines} (steps t moment calls others log texts first later calls_are text_is) move =
    steps t moment calls (others ++ more) log (texts ++ lines) first (push later move)
    (ap (λ (cs : List Given). cs ++ more) calls_are ∙ append_assoc calls others more) (ap (λ (text : List ℕ). text ++ lines) text_is ∙ append_assoc log texts lines)

pub chain_of : {rules : Rules} {s t : RunState} {moments : List ℤ} {calls : List Given} {log : List ℕ} → Runs rules s moments calls t log → Chain rules s moments calls t log
chain_of begins = stops
chain_of (goes_on run move) = push (chain_of run) move

-- ---- a run in what is outside

pub record Goes (outside : Outside) (rules : Rules) (s : RunState) (n : ℕ) (before : List Given) : Type 0 where
  pub moments : List ℤ
  pub calls : List Given
  pub log : List ℕ
  pub status : NodeStatus
  pub reached : RunState
  pub chain : Chain rules s moments calls reached log
  pub ends : next_of rules reached ≡ nexts.End status
  pub at : AreMoments outside n moments
  pub answered : AreAnswered outside before calls

answered_first : (outside : Outside) (before first later : List Given) → AsReplied (outside.replies before) first → AreAnswered outside (before ++ first) later → AreAnswered outside before (first ++ later)
answered_first outside before [] later none_called rest = subst (λ (cs : List Given). AreAnswered outside cs later) (append-nil before) rest
answered_first outside before (call ∷ []) later (one_called is) rest = (is, rest)
answered_first outside before (call ∷ (other ∷ others)) later replied rest = elim replied [ ]

goes_first : (outside : Outside) (rules : Rules) (s : RunState) (n : ℕ) (before : List Given) (move : HasMove rules (outside.moment n) (outside.replies before) s)
    → Goes outside rules move.after (n + 1) (before ++ move.calls) → Goes outside rules s n before
goes_first outside rules s n before move later = record {
  moments = outside.moment n ∷ later.moments;
  calls = move.calls ++ later.calls;
  log = move.log ++ later.log;
  status = later.status;
  reached = later.reached;
  chain = steps move.after (outside.moment n) move.calls later.calls move.log later.log move.moves later.chain refl refl;
  ends = later.ends;
  at = (refl, later.at);
  answered = answered_first outside before move.calls later.calls move.answered later.answered;
}

ended : (outside : Outside) (rules : Rules) (s : RunState) (n : ℕ) (before : List Given) (next : Next) → next_of rules s ≡ next → is_end next ≡ true → Goes outside rules s n before
ended outside rules s n before (nexts.End status) next is =
    record { moments = []; calls = []; log = []; status = status; reached = s; chain = stops; ends = next; at = tt; answered = tt }
ended outside rules s n before other next is = absurd (false≢true is)

-- a move, and what follows it; or the end
goes_by : (outside : Outside) (rules : Rules) (most : ℕ) (s : RunState) (n : ℕ) (before : List Given) → Fits outside → IsKept s → length s.rest ≤ 4096 → far_of rules s < suc most
    → ((move : HasMove rules (outside.moment n) (outside.replies before) s) → far_of rules move.after < most → Goes outside rules move.after (n + 1) (before ++ move.calls))
    → (test : Bool) → is_end (next_of rules s) ≡ test → Goes outside rules s n before
goes_by outside rules most s n before fits k few near later true is = ended outside rules s n before (next_of rules s) refl is
goes_by outside rules most s n before fits k few near later false is =
    let move = has_move rules (outside.moment n) (outside.replies before) s (fits.room before) k few is in
    let less = moves_nearer rules (outside.moment n) move.moves few move.rest move.kept.channel move.kept.config move.kept.held in
    goes_first outside rules s n before move (later move (omega (arith, near, less)))

-- as many moves are made as there are at most
goes : (outside : Outside) (rules : Rules) (most : ℕ) (s : RunState) (n : ℕ) (before : List Given) → Fits outside → IsKept s → length s.rest ≤ 4096 → far_of rules s < most → Goes outside rules s n before
goes outside rules zero s n before fits k few near = absurd (omega (arith, near))
goes outside rules (suc most) s n before fits k few near =
    goes_by outside rules most s n before fits k few near
    (λ move less. goes outside rules most move.after (n + 1) (before ++ move.calls) fits move.kept move.rest less) (is_end (next_of rules s)) refl

pub has_run : (outside : Outside) (rules : Rules) (s : RunState) → Fits outside → IsKept s → length s.rest ≤ 4096 → Goes outside rules s 0 []
has_run outside rules s fits k few = goes outside rules (suc (far_of rules s)) s 0 [] fits k few (omega arith)
