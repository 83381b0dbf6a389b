-- A run over a book, from its front on, with its end.
use Rattle.std.proofs.Common.{◌≡◌, ◌∙◌, ◌++◌, ◌+◌, ◌≤◌, ◌<◌, ℕ, ℤ, true, false, List, [], ◌∷◌, length, refl, sym, ap, subst, append_assoc, append-nil, length-append, arith}
use Rattle.book_entry.specs.Spelling.{spelling}
use Rattle.book_entry.specs.declared.entry.Entry.{Entry}
use Rattle.book_entry.specs.Steps.{spelled}
use Rattle.line_outside.specs.Given.{Given}
use Rattle.node_run.specs.Booked.{MovesAgain, RunsKept, begins_kept, entries_of, goes_on_kept, makes_step, most_book}
use Rattle.node_run.specs.Gone.{begins_again}
use Rattle.node_run.specs.Next.{next_of}
use Rattle.node_run.specs.State.{RunState}
use Rattle.node_run.specs.declared.booked.BookedStatus.{BookedStatus}
use Rattle.node_run.specs.declared.booked.BookedStatus.TheVariants as booked
use Rattle.node_run.specs.declared.place.Next.TheVariants as nexts
use Rattle.node_run.specs.declared.rules.Rules.{Rules}
use Rattle.node_run.specs.declared.status.NodeStatus.{NodeStatus}
use Rattle.law_node_runs.specs.Kept.{EndsKept, IsFullKept, IsWholeKept}

-- how many bytes the entry of a move has
abbrev pub grown : ℕ → RunState → RunState → ℕ
grown size s t = size + length (spelled (entries_of s t))

pub data Ended (rules : Rules) : ℕ → RunState → List ℤ → List Given → List ℕ → List Entry → BookedStatus → Type 0 where
  is_done : {size : ℕ} {s : RunState} {status : NodeStatus} → begins_again s ≡ false → next_of rules s ≡ nexts.End status → Ended rules size s [] [] [] [] (booked.Node status)
  is_full : {size : ℕ} {s : RunState} {moment : ℤ} {calls : List Given} (t : RunState) (lines : List ℕ) → MovesAgain rules moment s calls t lines → most_book < grown size s t
      → Ended rules size s (moment ∷ []) calls [] [] booked.BookFull
  goes : {size : ℕ} {s : RunState} {moments : List ℤ} {all : List Given} {text : List ℕ} {entries : List Entry} {end : BookedStatus} (t : RunState) (moment : ℤ) (calls more : List Given) (log lines : List ℕ) (later : List Entry)
      → MovesAgain rules moment s calls t log → grown size s t ≤ most_book → Ended rules (grown size s t) t moments more lines later end
      → all ≡ calls ++ more → text ≡ log ++ lines → entries ≡ entries_of s t ++ later → Ended rules size s (moment ∷ moments) all text entries end

spelled_both : (one more : List Entry) → spelled (one ++ more) ≡ spelled one ++ spelled more
spelled_both [] more = refl
spelled_both (entry ∷ one) more = ap (λ (x : List ℕ). spelling entry ++ x) (spelled_both one more) ∙ sym (append_assoc (spelling entry) (spelled one) (spelled more))

sizes : (size : ℕ) (one more : List Entry) → size + length (spelled (one ++ more)) ≡ size + length (spelled one) + length (spelled more)
sizes size one more = omega (arith, ap length (spelled_both one more), length-append (spelled one) (spelled more))

same_ended : (rules : Rules) (s : RunState) (end : BookedStatus) (m n : ℕ) (a b : List ℤ) (c d : List Given) (e f : List ℕ) (g h : List Entry) → m ≡ n → a ≡ b → c ≡ d → e ≡ f → g ≡ h → Ended rules m s a c e g end → Ended rules n s b d f h end
same_ended rules s end m n a b c d e f g h size moments calls log entries ended =
    let P : ℕ → Type 0 = λ x. Ended rules x s a c e g end in
    let Q : List ℤ → Type 0 = λ x. Ended rules n s x c e g end in
    let R : List Given → Type 0 = λ x. Ended rules n s b x e g end in
    let S : List ℕ → Type 0 = λ x. Ended rules n s b d x g end in
    let T : List Entry → Type 0 = λ x. Ended rules n s b d f x end in
    subst T entries (subst S log (subst R calls (subst Q moments (subst P size ended))))

-- what was done before an end
pub run_ended : (rules : Rules) (size : ℕ) (s t : RunState) (moments ms : List ℤ) (calls cs : List Given) (log ls : List ℕ) (entries es : List Entry) (end : BookedStatus) → RunsKept rules s moments calls t log entries → size + length (spelled entries) ≤ most_book
    → Ended rules (size + length (spelled entries)) t ms cs ls es end → Ended rules size s (moments ++ ms) (calls ++ cs) (log ++ ls) (entries ++ es) end
run_ended rules size s t moments ms calls cs log ls entries es end begins_kept fits ended =
    let zero : length (spelled []) ≡ 0 = refl in
    same_ended rules s end (size + length (spelled [])) size ms ms cs cs ls ls es es (omega (arith, zero)) refl refl refl refl ended
run_ended rules size s t moments ms calls cs log ls entries es end (goes_on_kept {t = r} {moments = ms0} {moment = moment} {calls = c0} {more = c1} {log = l0} {lines = l1} {entries = e0} run move) fits ended =
    let size_is = sizes size e0 (entries_of r t) in
    let P : ℕ → Type 0 = λ n. Ended rules n t ms cs ls es end in
    let small : size + length (spelled e0) ≤ most_book = omega (arith, size_is, fits) in
    let room : grown (size + length (spelled e0)) r t ≤ most_book = omega (arith, size_is, fits) in
    let first : Ended rules (size + length (spelled e0)) r (moment ∷ ms) (c1 ++ cs) (l1 ++ ls) (entries_of r t ++ es) end =
    goes t moment c1 cs l1 ls es move room (subst P size_is ended) refl refl refl in
    same_ended rules s end size size (ms0 ++ (moment ∷ ms)) ((ms0 ++ moment ∷ []) ++ ms) (c0 ++ (c1 ++ cs)) ((c0 ++ c1) ++ cs) (l0 ++ (l1 ++ ls)) ((l0 ++ l1) ++ ls) (e0 ++ (entries_of r t ++ es)) ((e0 ++ entries_of r t) ++ es)
    refl (sym (append_assoc ms0 (moment ∷ []) ms)) (sym (append_assoc c0 c1 cs)) (sym (append_assoc l0 l1 ls)) (sym (append_assoc e0 (entries_of r t) es))
    (run_ended rules size s r ms0 (moment ∷ ms) c0 (c1 ++ cs) l0 (l1 ++ ls) e0 (entries_of r t ++ es) end run small first)

whole_ended : (rules : Rules) (s : RunState) (size : ℕ) (moments : List ℤ) (calls : List Given) (log : List ℕ) (entries : List Entry) (status : NodeStatus) → IsWholeKept rules s size moments calls log entries status
    → Ended rules size s moments calls log entries (booked.Node status)
whole_ended rules s size moments calls log entries status is =
    same_ended rules s (booked.Node status) size size (moments ++ []) moments (calls ++ []) calls (log ++ []) log (entries ++ []) entries refl (append-nil moments) (append-nil calls) (append-nil log) (append-nil entries)
    (run_ended rules size s is.reached moments [] calls [] log [] entries [] (booked.Node status) is.run is.fits (is_done is.begun is.ends))

full_ended : (rules : Rules) (s : RunState) (size : ℕ) (moments : List ℤ) (calls : List Given) (log : List ℕ) (entries : List Entry) → IsFullKept rules s size moments calls log entries → Ended rules size s moments calls log entries booked.BookFull
full_ended rules s size moments calls log entries is =
    same_ended rules s booked.BookFull size size (is.before ++ is.moment ∷ []) moments (is.done ++ is.last) calls (log ++ []) log (entries ++ []) entries refl (sym is.moments_are) (sym is.calls_are) (append-nil log) (append-nil entries)
    (run_ended rules size s is.reached is.before (is.moment ∷ []) is.done is.last log [] entries [] booked.BookFull is.run is.fits (is_full is.after is.lines is.move is.full))

pub kept_ended : (rules : Rules) (s : RunState) (size : ℕ) (moments : List ℤ) (calls : List Given) (log : List ℕ) (entries : List Entry) (end : BookedStatus) → EndsKept rules s size moments calls log entries end → Ended rules size s moments calls log entries end
kept_ended rules s size moments calls log entries (booked.Node status) ends = whole_ended rules s size moments calls log entries status ends
kept_ended rules s size moments calls log entries booked.BookFault ends = absurd ends
kept_ended rules s size moments calls log entries booked.BookFull ends = full_ended rules s size moments calls log entries ends
