-- A book that a power cut left leads where the run was.
use Rattle.std.proofs.Common.{◌≡◌, ◌∙◌, refl, sym, ap, subst, arith, ℕ, ℤ, ◌+◌, Bool, true, false, List, [], ◌∷◌, ◌++◌, Option, None, Some, length, drop, take, append_assoc, append-nil, length-append}
use Rattle.std.proofs.lemmas.List.{drop_at, take_at}
use Rattle.book_entry.specs.Fronts.{IsFront}
use Rattle.book_entry.specs.Steps.{AreEntries, spelled}
use Rattle.book_entry.specs.declared.entry.Entry.{Entry}
use Rattle.line_outside.specs.Given.{Given}
use Rattle.machine_log.specs.Drives.{drives_after}
use Rattle.machine_log.specs.declared.drives.Drives.{Drives}
use Rattle.node_core.specs.Node.{NodeState}
use Rattle.node_core.specs.declared.act.Act.{Act}
use Rattle.node_run.specs.Booked.{MovesAgain, RunsKept, begins_kept, entries_if, entries_of, goes_on_kept, makes_step}
use Rattle.node_run.specs.State.{RunState}
use Rattle.node_run.specs.declared.rules.Rules.{Rules}
use Rattle.restart_book.proofs.Replaying.{drives_both}
use Rattle.restart_book.specs.Kept.{KeptBooksAreResumed}
use Rattle.restart_book.specs.Replay.{IsResumed, IsResumedAs, Leads}
use Rattle.law_node_runs.specs.PowerCut.{IsParted, PowerCutsAreSurvived}
use Rattle.law_node_runs.proofs.Driven.{driven}

-- ---- the entries of a move are none or one

data AreFew : List Entry → Type 0 where
  few_none : AreFew []
  few_one : (entry : Entry) → AreFew (entry ∷ [])

few_if : (made : Bool) (entry : Option Entry) → AreFew (entries_if made entry)
few_if true None = few_none
few_if true (Some entry) = few_one entry
few_if false entry = few_none

-- so where entries and these are parted, it is within the first, or behind them all
data Splits (kept lost front last : List Entry) : Type 0 where
  within : (more : List Entry) → front ≡ kept ++ more → lost ≡ more ++ last → Splits kept lost front last
  all_of : kept ≡ front ++ last → lost ≡ [] → Splits kept lost front last

none_first : (kept lost : List Entry) → kept ++ lost ≡ [] → kept ≡ []
none_first [] lost is = refl
none_first (entry ∷ kept) lost is = cc

none_last : (kept lost : List Entry) → kept ++ lost ≡ [] → lost ≡ []
none_last [] lost is = is
none_last (entry ∷ kept) lost is = cc

split_last : (entry : Entry) (kept lost : List Entry) {last : List Entry} → AreFew last → (entry ∷ kept) ++ lost ≡ last → Splits (entry ∷ kept) lost [] last
split_last entry kept lost few_none is = cc
split_last entry kept lost (few_one only) is =
    let head : entry ≡ only = cc in
    let none : kept ++ lost ≡ [] = cc in
    all_of (ap (λ (l : List Entry). entry ∷ l) (none_first kept lost none) ∙ ap (λ (e : Entry). e ∷ []) head) (none_last kept lost none)

split_more : (entry : Entry) {kept lost front last : List Entry} → Splits kept lost front last → Splits (entry ∷ kept) lost (entry ∷ front) last
split_more entry (within more is rest) = within more (ap (λ (l : List Entry). entry ∷ l) is) rest
split_more entry (all_of is none) = all_of (ap (λ (l : List Entry). entry ∷ l) is) none

split : (kept lost front last : List Entry) → AreFew last → kept ++ lost ≡ front ++ last → Splits kept lost front last
split [] lost front last few is = within front refl is
split (entry ∷ kept) lost [] last few is = split_last entry kept lost few is
split (entry ∷ kept) lost (first ∷ front) last few is =
    let head : entry ≡ first = cc in
    let tail : kept ++ lost ≡ front ++ last = cc in
    subst (λ (e : Entry). Splits (entry ∷ kept) lost (e ∷ front) last) head (split_more entry (split kept lost front last few tail))

-- ---- a run is parted at each of its entries

parted_within : {rules : Rules} {s t u : RunState} {moments : List ℤ} {moment : ℤ} {calls last : List Given} {log lines : List ℕ} {kept lost more : List Entry} → IsParted rules s t moments calls log kept more → MovesAgain rules moment t last u lines → lost ≡ more ++ entries_of t u
    → IsParted rules s u (moments ++ moment ∷ []) (calls ++ last) (log ++ lines) kept lost
parted_within {rules} {s} {t} {u} {moments} {moment} {calls} {last} {log} {lines} {kept} {lost} {more} p move is = record {
  there = p.there;
  before = p.before;
  later = p.later ++ moment ∷ [];
  moments_are = ap (λ (l : List ℤ). l ++ moment ∷ []) p.moments_are ∙ append_assoc p.before p.later (moment ∷ []);
  called = p.called;
  more = p.more ++ last;
  calls_are = ap (λ (l : List Given). l ++ last) p.calls_are ∙ append_assoc p.called p.more last;
  told = p.told;
  untold = p.untold ++ lines;
  log_is = ap (λ (l : List ℕ). l ++ lines) p.log_is ∙ append_assoc p.told p.untold lines;
  reaches = p.reaches;
  runs_on = subst (λ (l : List Entry). RunsKept rules p.there (p.later ++ moment ∷ []) (p.more ++ last) u (p.untold ++ lines) l) (sym is) (goes_on_kept p.runs_on move);
}

parted_all : {rules : Rules} {s u : RunState} {moments : List ℤ} {calls : List Given} {log : List ℕ} {entries : List Entry} (kept lost : List Entry) → RunsKept rules s moments calls u log entries → kept ≡ entries → lost ≡ []
    → IsParted rules s u moments calls log kept lost
parted_all {rules} {s} {u} {moments} {calls} {log} {entries} kept lost run is none = record {
  there = u;
  before = moments;
  later = [];
  moments_are = sym (append-nil moments);
  called = calls;
  more = [];
  calls_are = sym (append-nil calls);
  told = log;
  untold = [];
  log_is = sym (append-nil log);
  reaches = subst (λ (l : List Entry). RunsKept rules s moments calls u log l) (sym is) run;
  runs_on = subst (λ (l : List Entry). RunsKept rules u [] [] u [] l) (sym none) begins_kept;
}

parted_by : {rules : Rules} {s t u : RunState} {moments : List ℤ} {moment : ℤ} {calls last : List Given} {log lines : List ℕ} {entries : List Entry} (kept lost : List Entry) → ((more : List Entry) → kept ++ more ≡ entries → IsParted rules s t moments calls log kept more)
    → RunsKept rules s moments calls t log entries → MovesAgain rules moment t last u lines → Splits kept lost entries (entries_of t u) → IsParted rules s u (moments ++ moment ∷ []) (calls ++ last) (log ++ lines) kept lost
parted_by kept lost before run move (within more is rest) = parted_within (before more (sym is)) move rest
parted_by kept lost before run move (all_of is none) = parted_all kept lost (goes_on_kept run move) is none

parted : {rules : Rules} {s reached : RunState} {moments : List ℤ} {calls : List Given} {log : List ℕ} {entries : List Entry} (kept lost : List Entry) → RunsKept rules s moments calls reached log entries → kept ++ lost ≡ entries
    → IsParted rules s reached moments calls log kept lost
parted kept lost begins_kept is = parted_all kept lost begins_kept (none_first kept lost is) (none_last kept lost is)
parted kept lost (goes_on_kept {s} {t} {u} {moments} {moment} {calls} {more} {log} {lines} {entries} run move) is =
    parted_by kept lost (λ others same. parted kept others run same) run move (split kept lost entries (entries_of t u) (few_if (makes_step t u) u.step.entry) is)

-- ---- a book of whole entries, and the front of one behind them

whole_entries : (start : NodeState) (book : List ℕ) (size : ℕ) (node : NodeState) (acts : List Act) → (leads : Leads start book size node acts) → size ≡ length book → book ≡ spelled leads.entries
whole_entries start book size node acts leads all =
    let none : drop size book ≡ [] = ap (drop size) (sym (append-nil book)) ∙ drop_at book [] size (sym all) in
    leads.split ∙ ap (λ (l : List ℕ). spelled leads.entries ++ l) none ∙ append-nil (spelled leads.entries)

torn_too : (start : NodeState) (book torn : List ℕ) (size : ℕ) (node : NodeState) (acts : List Act) → IsResumed start book size node acts → size ≡ length book → IsFront torn → IsResumed start (book ++ torn) size node acts
torn_too start book torn size node acts is all front =
    let leads = is.leads in
    let rest : drop size (book ++ torn) ≡ torn = drop_at book torn size (sym all) in
    record {
      leads = record {
        entries = leads.entries;
        are = leads.are;
        split = ap (λ (l : List ℕ). l ++ torn) (whole_entries start book size node acts leads all) ∙ ap (λ (l : List ℕ). spelled leads.entries ++ l) (sym rest);
        at_is = leads.at_is;
        replays = leads.replays;
      };
      torn = subst IsFront (sym rest) front;
    }

-- the whole entries that a book begins with, and those that are kept behind them
pub kept_size : (start : NodeState) (book : List ℕ) (whole : ℕ) (node : NodeState) (acts : List Act) (kept : List Entry) → IsResumed start book whole node acts → whole + length (spelled kept) ≡ length (take whole book ++ spelled kept)
kept_size start book whole node acts kept is =
    let leads = is.leads in
    let first : take whole book ≡ spelled leads.entries = ap (take whole) leads.split ∙ take_at (spelled leads.entries) (drop whole book) whole (sym leads.at_is) in
    omega (arith, leads.at_is, ap length first, length-append (take whole book) (spelled kept))

-- ---- so a book that is kept on leads where the run came, whatever torn entry is behind it

pub leads_there : KeptBooksAreResumed → (start : NodeState) (before : Drives) (book : List ℕ) (whole : ℕ) (rules : Rules) (moments : List ℤ) (s t : RunState) (calls : List Given) (log : List ℕ) (entries : List Entry) (torn : List ℕ)
    → IsResumedAs start before book whole s.node s.drives → RunsKept rules s moments calls t log entries → AreEntries entries → IsFront torn
    → IsResumedAs start before ((take whole book ++ spelled entries) ++ torn) (whole + length (spelled entries)) t.node t.drives
leads_there keeps start before book whole rules moments s t calls log entries torn is run are front =
    let did = driven run in
    let again : IsResumed start (take whole book ++ spelled entries) (whole + length (spelled entries)) t.node (is.acts ++ did.told) = keeps start book whole s.node is.acts entries t.node did.told is.resumed are did.replays in
    record {
      acts = is.acts ++ did.told;
      resumed = torn_too start (take whole book ++ spelled entries) torn (whole + length (spelled entries)) t.node (is.acts ++ did.told) again (kept_size start book whole s.node is.acts entries is.resumed) front;
      drives_are = did.drives ∙ ap (λ (d : Drives). drives_after d did.told) is.drives_are ∙ sym (drives_both before is.acts did.told);
    }

-- ---- THE LAW

pub survived : KeptBooksAreResumed → PowerCutsAreSurvived
survived keeps start before book whole rules moments s reached calls log kept lost torn is run are front =
    let p = parted kept lost run refl in
    let did = driven p.reaches in
    record {
      parted = p;
      done = did.told;
      tells = did.tells;
      resumed = leads_there keeps start before book whole rules p.before s p.there p.called p.told kept torn is p.reaches are front;
    }
