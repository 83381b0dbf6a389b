-- From a move, and the entry of its step, to a run over a book.
use Rattle.std.proofs.Common.{◌≡◌, ◌∙◌, sym, subst, ap, refl, ℕ, ℤ, Bool, true, false, List, [], ◌∷◌, ◌++◌, Option, None, Some, ◌⊎◌, inl, inr, length, ◌<◌, ◌≤◌, ◌+◌, append_assoc, append-nil, arith}
use Rattle.std.proofs.lemmas.Bool.{false≢true}
use Rattle.std.proofs.lemmas.List.{length-append}
use Rattle.std.proofs.lemmas.List.Elements.{All-nil, All-push}
use Rattle.std.specs.Prelude.{IfSome}
use Rattle.line_outside.proofs.Growing.{grows_none, grows_more, grows_part, rose_after, rose_before}
use Rattle.line_outside.specs.Faults.{Rose}
use Rattle.line_outside.specs.Given.{Given}
use Rattle.line_outside.specs.Ports.{Gains}
use Rattle.line_outside.specs.Sink.{Grows, GrowsInPart}
use Rattle.line_outside.specs.declared.way.Address.{Address}
use Rattle.book_entry.specs.Spelling.{spelling}
use Rattle.book_entry.specs.declared.entry.Entry.{Entry}
use Rattle.book_entry.specs.Steps.{AreEntries, spelled}
use Rattle.node_run.specs.Booked.{BookedEnds, HasBookedCauses, HasForm, HasRunKept, HasRunKeptInPart, IsBookedStatus, IsKept, StopsUnkept, begins_kept, calls_as_ever, calls_none, differ, entries_of, goes_on_kept, hears_gone, last_entry, makes_step, most_book, moves_as_ever, spelled_of}
use Rattle.node_run.specs.Booking.{Appends, DoesOnceKept, EndsKept, FailsKeep, FailsLogKept, FailsMemoryKept, GoesOnKept, GoesOut, IsOnceBooked, KeepsStep, GoesAgain, MakesAgain, MissesAgain, StopsOnce, for_entry, in_move}
use Rattle.node_run.specs.Gone.{HearsGone, begins_again, gone_at}
use Rattle.node_run.specs.Moving.{IsAtEnd, IsEndCaused, IsRunEnd, MissesMove, MovesAs}
use Rattle.node_run.specs.Held.{HasFewLooks}
use Rattle.node_run.specs.Next.{moved_on, next_of}
use Rattle.node_run.specs.Runs.{IsMoment}
use Rattle.node_run.specs.State.{RunState, RunView}
use Rattle.node_run.specs.declared.booked.BookedStatus.{BookedStatus}
use Rattle.node_run.specs.declared.booked.BookedStatus.TheVariants as booked
use Rattle.node_run.specs.declared.booked.Keeping.{Keeping}
use Rattle.node_run.specs.declared.booked.Keeping.TheVariants as keepings
use Rattle.node_run.specs.declared.place.Next.TheVariants as nexts
use Rattle.node_run.specs.declared.rules.Rules.{Rules}
use Rattle.node_run.specs.declared.status.NodeStatus.{NodeStatus}
use Rattle.node_run.specs.declared.status.NodeStatus.TheVariants as statuses
use Rattle.node_run.specs.Work.{far_of}
use Rattle.supervised_end.specs.Channel.{IsShort}
use Rattle.node_run.proofs.Again.{again_ended, again_nearer}
use Rattle.node_run.proofs.Frames.{hears_same}
use Rattle.node_run.proofs.Moving.{begun, begun_next, gains_more, gains_none, not_by_log, not_by_memory, run_status, uncaused}
use Rattle.node_run.proofs.Nexts.{is_from}

-- ---- keeping the entry of a step

spelled_last : (entry : Option Entry) → spelled (last_entry entry) ≡ spelled_of entry
spelled_last None = refl
spelled_last (Some entry) = append-nil (spelling entry)

form_last : (entry : Option Entry) → HasForm entry → AreEntries (last_entry entry)
form_last None form = tt
form_last (Some entry) form = (form, tt)

pub keeps_memory : (made : Bool) (entry : Option Entry) (size : ℕ) (book : Option (List ℕ)) → made ≡ true → KeepsStep keepings.Memory made entry size size book book
keeps_memory made entry size book is = record { made_one = is; same = refl }

-- no step was made
pub keeps_none : (made : Bool) (entry : Option Entry) (size : ℕ) (book : Option (List ℕ)) → made ≡ false → size ≤ most_book → KeepsStep keepings.Done made entry size size book book
keeps_none false entry size book none fits = record { kept = record { proper = tt; grows = grows_none book; fits = omega (arith, fits) }; size = omega arith }
keeps_none true entry size book none fits = absurd (false≢true (sym none))

appended : (keeping : Keeping) (entry : Option Entry) (bytes : List ℕ) (size_old size_new : ℕ) (book_old book_new : Option (List ℕ)) → bytes ≡ spelled (last_entry entry) → HasForm entry
    → Appends keeping bytes size_old size_new book_old book_new → KeepsStep keeping true entry size_old size_new book_old book_new
appended keepings.Done entry bytes size_old size_new book_old book_new is form appends =
    let P : List ℕ → Type 0 = λ l. Grows book_old book_new l in
    record {
      kept = record { proper = form_last entry form; grows = subst P is appends.0; fits = omega (arith, ap length is, appends.1) };
      size = omega (arith, ap length is, appends.2);
    }
appended keepings.Full entry bytes size_old size_new book_old book_new is form appends = (record { made_one = refl; same = appends.0 }, omega (arith, ap length is, appends.1))
appended keepings.Fault entry bytes size_old size_new book_old book_new is form appends = record { made_one = refl; same = appends }
appended keepings.Memory entry bytes size_old size_new book_old book_new is form appends = absurd appends

pub keeps_appended : (keeping : Keeping) (made : Bool) (entry : Option Entry) (bytes : List ℕ) (size_old size_new : ℕ) (book_old book_new : Option (List ℕ)) → made ≡ true → bytes ≡ spelled_of entry → HasForm entry
    → Appends keeping bytes size_old size_new book_old book_new → KeepsStep keeping made entry size_old size_new book_old book_new
keeps_appended keeping true entry bytes size_old size_new book_old book_new made is form appends = appended keeping entry bytes size_old size_new book_old book_new (is ∙ sym (spelled_last entry)) form appends
keeps_appended keeping false entry bytes size_old size_new book_old book_new made is form appends = absurd (false≢true made)

-- ---- a move, as far as it goes out

pub out_done : (made : Bool) (entry : Option Entry) (text told : List ℕ) (size_old size_new : ℕ) (log_old log_new book_old book_new : Option (List ℕ)) → text ≡ told → KeepsStep keepings.Done made entry size_old size_new book_old book_new → Grows log_old log_new text
    → GoesOut None made entry told size_old size_new log_old log_new book_old book_new
out_done made entry text told size_old size_new log_old log_new book_old book_new same keeps grows = (let P : List ℕ → Type 0 = Grows log_old log_new in record { keeps = keeps; grows = subst P same grows })

pub out_log : (made : Bool) (entry : Option Entry) (text told : List ℕ) (size_old size_new : ℕ) (log_old log_new book_old book_new : Option (List ℕ)) → text ≡ told → KeepsStep keepings.Done made entry size_old size_new book_old book_new → GrowsInPart log_old log_new text
    → GoesOut (Some (booked.Node statuses.LogFault)) made entry told size_old size_new log_old log_new book_old book_new
out_log made entry text told size_old size_new log_old log_new book_old book_new same keeps part = (let P : List ℕ → Type 0 = GrowsInPart log_old log_new in record { kept = keeps.kept; part = subst P same part })

pub out_full : (made : Bool) (entry : Option Entry) (told : List ℕ) (size_old size_new : ℕ) (log book_old book_new : Option (List ℕ)) → KeepsStep keepings.Full made entry size_old size_new book_old book_new
    → GoesOut (Some booked.BookFull) made entry told size_old size_new log log book_old book_new
out_full made entry told size_old size_new log book_old book_new keeps = (record { keeps = keeps.0; logged = refl }, keeps.1)

pub out_fault : (made : Bool) (entry : Option Entry) (told : List ℕ) (size_old size_new : ℕ) (log book_old book_new : Option (List ℕ)) → KeepsStep keepings.Fault made entry size_old size_new book_old book_new
    → GoesOut (Some booked.BookFault) made entry told size_old size_new log log book_old book_new
out_fault made entry told size_old size_new log book_old book_new keeps = record { keeps = keeps; logged = refl }

pub out_memory : (made : Bool) (entry : Option Entry) (told : List ℕ) (size_old size_new : ℕ) (log book_old book_new : Option (List ℕ)) → KeepsStep keepings.Memory made entry size_old size_new book_old book_new
    → GoesOut (Some (booked.Node statuses.Memory)) made entry told size_old size_new log log book_old book_new
out_memory made entry told size_old size_new log book_old book_new keeps = record { keeps = keeps; logged = refl }

out_kept : (result : Option BookedStatus) (told : Option ℤ) (rules : Rules) (s t : RunState) (text : List ℕ) (size_old size_new : ℕ) (given_old given_new : Option (List Given)) (log_old log_new book_old book_new : Option (List ℕ))
    → MakesAgain told rules s t given_old given_new text → GoesOut result (makes_step s t) t.step.entry text size_old size_new log_old log_new book_old book_new
    → DoesOnceKept result told rules s t size_old size_new given_old given_new log_old log_new book_old book_new
out_kept None told rules s t text size_old size_new given_old given_new log_old log_new book_old book_new makes out = record { log = text; makes = makes; grows = out.grows; keeps = out.keeps }
out_kept (Some (booked.Node statuses.LogFault)) told rules s t text size_old size_new given_old given_new log_old log_new book_old book_new makes out = record { after = t; log = text; makes = makes; part = out.part; kept = out.kept }
out_kept (Some (booked.Node statuses.Memory)) told rules s t text size_old size_new given_old given_new log_old log_new book_old book_new makes out =
    for_entry (record { after = t; log = text; makes = makes; logged = out.logged; keeps = out.keeps })
out_kept (Some (booked.Node statuses.Done)) told rules s t text size_old size_new given_old given_new log_old log_new book_old book_new makes out = absurd out
out_kept (Some (booked.Node statuses.Usage)) told rules s t text size_old size_new given_old given_new log_old log_new book_old book_new makes out = absurd out
out_kept (Some (booked.Node (statuses.ConfigRefused key why))) told rules s t text size_old size_new given_old given_new log_old log_new book_old book_new makes out = absurd out
out_kept (Some (booked.Node statuses.ReadFault)) told rules s t text size_old size_new given_old given_new log_old log_new book_old book_new makes out = absurd out
out_kept (Some (booked.Node (statuses.ListenFault address))) told rules s t text size_old size_new given_old given_new log_old log_new book_old book_new makes out = absurd out
out_kept (Some (booked.Node statuses.TurnsUsed)) told rules s t text size_old size_new given_old given_new log_old log_new book_old book_new makes out = absurd out
out_kept (Some booked.BookFault) told rules s t text size_old size_new given_old given_new log_old log_new book_old book_new makes out = record { after = t; log = text; makes = makes; logged = out.logged; keeps = out.keeps }
out_kept (Some booked.BookFull) told rules s t text size_old size_new given_old given_new log_old log_new book_old book_new makes out =
    record { fails = record { after = t; log = text; makes = makes; logged = out.0.logged; keeps = out.0.keeps }; full = out.1 }

-- a move of each kind
pub as_ever : (told : Option ℤ) (r b m : RunView) (given_old given_new : Option (List Given)) (before now : ℕ) → b ≡ record r { told = [] } → begins_again r.state ≡ false → MovesAs told b m given_old given_new before now → GoesAgain told b m given_old given_new before now
as_ever told r b m given_old given_new before now begun plain moves =
    let made = moves.makes in
    let again : begins_again b.state ≡ false = ap (λ (v : RunView). begins_again v.state) begun ∙ plain in
    record { rules = moves.rules; makes = record { moment = made.moment; same = made.same; calls = made.calls; move = moves_as_ever again made.move; gains = made.gains }; rest = moves.rest; ended = moves.ended }

pub misses_as_ever : (r b : RunView) (given_old given_new : Option (List Given)) → b ≡ record r { told = [] } → begins_again r.state ≡ false → MissesMove b.rules b.state given_old given_new → MissesAgain b.rules b.state given_old given_new
misses_as_ever r b given_old given_new begun plain misses =
    let again : begins_again b.state ≡ false = ap (λ (v : RunView). begins_again v.state) begun ∙ plain in
    record { last = misses.last; next = calls_as_ever again misses.next; gains = misses.gains }

pub hears_on : (told : Option ℤ) (moment : ℤ) (r b m : RunView) (given : Option (List Given)) (before now : ℕ) → b ≡ record r { told = [] } → begins_again r.state ≡ true → length r.state.rest ≤ 4096 → IsMoment told moment
    → m.rules ≡ b.rules → HearsGone b.rules moment b.state m.state m.told → GoesAgain told b m given given before now
hears_on told moment r b m given before now begun is rest at rules hears =
    let again : begins_again b.state ≡ true = ap (λ (v : RunView). begins_again v.state) begun ∙ is in
    let there = hears_same 4096 (gone_at b.state.place) b.rules moment (moved_on b.state) m.state m.told hears in
    record {
      rules = rules;
      makes = record { moment = moment; same = at; calls = []; move = hears_gone again hears; gains = gains_none given };
      rest = there.rest (omega (arith, ap (λ (v : RunView). length v.state.rest) begun, rest));
      ended = uncaused m.state.ended before now (there.ended ∙ again_ended b.state again);
    }

pub again_begun : (r b : RunView) → b ≡ begun r → begins_again r.state ≡ true → begins_again b.state ≡ true
again_begun r b e is = ap (λ (v : RunView). begins_again v.state) e ∙ is

pub turns_begun : (r b : RunView) → b ≡ begun r → 1 ≤ r.rules.turns → 1 ≤ b.rules.turns
turns_begun r b e some = let P : RunView → Type 0 = λ v. 1 ≤ v.rules.turns in subst P (sym e) some

pub misses_none : (r b : RunView) (given : Option (List Given)) → MissesAgain b.rules b.state given given
misses_none r b given = record { last = []; next = calls_none; gains = gains_none given }

pub once_kept : (result : Option BookedStatus) (told : Option ℤ) (r b m : RunView) (odd : Bool) (size_old size_new : ℕ) (given_old given_new : Option (List Given)) (log_old log_new book_old book_new : Option (List ℕ)) (before now : ℕ)
    → b ≡ record r { told = [] } → odd ≡ b.state.step.odd → GoesAgain told b m given_old given_new before now
    → GoesOut result (differ odd m.state.step.odd) m.state.step.entry m.told size_old size_new log_old log_new book_old book_new
    → DoesOnceKept result told r.rules r.state m.state size_old size_new given_old given_new log_old log_new book_old book_new
once_kept result told r b m odd size_old size_new given_old given_new log_old log_new book_old book_new before now begun same moves out =
    let P : RunView → Type 0 = λ v. MakesAgain told v.rules v.state m.state given_old given_new m.told in
    let Q : Bool → Type 0 = λ o. GoesOut result (differ o m.state.step.odd) m.state.step.entry m.told size_old size_new log_old log_new book_old book_new in
    out_kept result told r.rules r.state m.state m.told size_old size_new given_old given_new log_old log_new book_old book_new (subst P begun moves.makes)
    (subst Q (same ∙ ap (λ (v : RunView). v.state.step.odd) begun) out)

pub rules_kept : (told : Option ℤ) (r b m : RunView) (given_old given_new : Option (List Given)) (before now : ℕ) → b ≡ record r { told = [] } → GoesAgain told b m given_old given_new before now → m.rules ≡ r.rules
rules_kept told r b m given_old given_new before now begun moves = moves.rules ∙ ap (λ (v : RunView). v.rules) begun

pub missed_kept : (told : Option ℤ) (r b : RunView) (t : RunState) (size_old size_new : ℕ) (given_old given_new : Option (List Given)) (log book : Option (List ℕ)) → b ≡ record r { told = [] } → MissesAgain b.rules b.state given_old given_new
    → DoesOnceKept (Some (booked.Node statuses.Memory)) told r.rules r.state t size_old size_new given_old given_new log log book book
missed_kept told r b t size_old size_new given_old given_new log book begun misses =
    let P : RunView → Type 0 = λ v. MissesAgain v.rules v.state given_old given_new in
    in_move (subst P begun misses) refl refl

ended_as : (told : Option ℤ) (rules : Rules) (s : RunState) (size : ℕ) (given : Option (List Given)) (log book : Option (List ℕ)) (status : NodeStatus) → IsRunEnd s.ended → (s.ended ≡ Some status) ⊎ (status ≡ statuses.TurnsUsed)
    → begins_again s ≡ false → IsAtEnd rules s given given log log status → StopsOnce told rules s size given given log log book book (booked.Node status)
ended_as told rules s size given log book statuses.LogFault is why plain at = absurd (not_by_log s.ended is why)
ended_as told rules s size given log book statuses.Memory is why plain at = absurd (not_by_memory s.ended is why)
ended_as told rules s size given log book statuses.Done is why plain at = record { again = plain; ends = at; same = refl }
ended_as told rules s size given log book statuses.Usage is why plain at = record { again = plain; ends = at; same = refl }
ended_as told rules s size given log book (statuses.ConfigRefused key reason) is why plain at = record { again = plain; ends = at; same = refl }
ended_as told rules s size given log book statuses.ReadFault is why plain at = record { again = plain; ends = at; same = refl }
ended_as told rules s size given log book (statuses.ListenFault address) is why plain at = record { again = plain; ends = at; same = refl }
ended_as told rules s size given log book statuses.TurnsUsed is why plain at = record { again = plain; ends = at; same = refl }

pub ended_kept : (told : Option ℤ) (r b : RunView) (size : ℕ) (given : Option (List Given)) (log book : Option (List ℕ)) (status : NodeStatus) → b ≡ begun r → begins_again r.state ≡ false → IsRunEnd r.state.ended → nexts.End status ≡ next_of b.rules b.state
    → StopsOnce told r.rules r.state size given given log log book book (booked.Node status)
ended_kept told r b size given log book status e plain is next =
    let next_is = begun_next r b (nexts.End status) e next in
    ended_as told r.rules r.state size given log book status is (is_from r.rules r.state (nexts.End status) next_is) plain (record { next = next_is; given = refl; logged = refl })

-- ---- the loop

some_none : (status : NodeStatus) → (let none : Option NodeStatus = None in none ≡ Some status) → ⊥
some_none status e = cc

pub once_weaker : (ended : Option NodeStatus) (status : BookedStatus) (log_before log_now book_before book_now : ℕ) → IsOnceBooked None status log_before log_now book_before book_now → IsOnceBooked ended status log_before log_now book_before book_now
once_weaker ended (booked.Node statuses.LogFault) log_before log_now book_before book_now once = once
once_weaker ended (booked.Node statuses.Memory) log_before log_now book_before book_now once = tt
once_weaker ended (booked.Node statuses.TurnsUsed) log_before log_now book_before book_now once = tt
once_weaker ended (booked.Node statuses.Done) log_before log_now book_before book_now once = absurd (some_none statuses.Done once)
once_weaker ended (booked.Node statuses.Usage) log_before log_now book_before book_now once = absurd (some_none statuses.Usage once)
once_weaker ended (booked.Node (statuses.ConfigRefused key why)) log_before log_now book_before book_now once = absurd (some_none (statuses.ConfigRefused key why) once)
once_weaker ended (booked.Node statuses.ReadFault) log_before log_now book_before book_now once = absurd (some_none statuses.ReadFault once)
once_weaker ended (booked.Node (statuses.ListenFault address)) log_before log_now book_before book_now once = absurd (some_none (statuses.ListenFault address) once)
once_weaker ended booked.BookFault log_before log_now book_before book_now once = once
once_weaker ended booked.BookFull log_before log_now book_before book_now once = tt

pub status_weaker : (result : Option BookedStatus) (ended : Option NodeStatus) (log_before log_now book_before book_now : ℕ) → IfSome result (λ status. IsOnceBooked None status log_before log_now book_before book_now)
    → IfSome result (λ status. IsOnceBooked ended status log_before log_now book_before book_now)
status_weaker None ended log_before log_now book_before book_now once = tt
status_weaker (Some status) ended log_before log_now book_before book_now once = once_weaker ended status log_before log_now book_before book_now once

-- the book so far
spelled_more : (front back : List Entry) → spelled (front ++ back) ≡ spelled front ++ spelled back
spelled_more [] back = refl
spelled_more (entry ∷ front) back = ap (λ l. spelling entry ++ l) (spelled_more front back) ∙ sym (append_assoc (spelling entry) (spelled front) (spelled back))

pub spelled_length : (front back : List Entry) → length (spelled (front ++ back)) ≡ length (spelled front) + length (spelled back)
spelled_length front back = ap length (spelled_more front back) ∙ length-append (spelled front) (spelled back)

forms_more : (front back : List Entry) → AreEntries front → AreEntries back → AreEntries (front ++ back)
forms_more [] back first second = second
forms_more (entry ∷ front) back first second = (first.0, forms_more front back first.1 second)

kept_none : (size : ℕ) (book : Option (List ℕ)) → size ≤ most_book → IsKept size book book []
kept_none size book fits = record { proper = tt; grows = grows_none book; fits = omega (arith, fits) }

kept_more : (size mid : ℕ) (book_old book_mid book_new : Option (List ℕ)) (front back : List Entry) → mid ≡ size + length (spelled front) → IsKept size book_old book_mid front → IsKept mid book_mid book_new back → IsKept size book_old book_new (front ++ back)
kept_more size mid book_old book_mid book_new front back at one two =
    let P : List ℕ → Type 0 = Grows book_old book_new in
    record {
      proper = forms_more front back one.proper two.proper;
      grows = subst P (sym (spelled_more front back)) (grows_more book_old book_mid book_new (spelled front) (spelled back) one.grows two.grows);
      fits = omega (arith, at, two.fits, spelled_length front back);
    }

kept_same : (size : ℕ) (book_old book_mid book_new : Option (List ℕ)) (entries : List Entry) → book_new ≡ book_mid → IsKept size book_old book_mid entries → IsKept size book_old book_new entries
kept_same size book_old book_mid book_new entries same kept = let P : Option (List ℕ) → Type 0 = λ b. IsKept size book_old b entries in subst P (sym same) kept

-- the loop knows its run so far, and how long the book is now
pub record IsBookedRun (told : Option ℤ) (rules : Rules) (s t : RunState) (size now : ℕ) (given_old given_new : Option (List Given)) (log_old log_new book_old book_new : Option (List ℕ)) : Type 0 where
  pub run : HasRunKept told rules s t size given_old given_new log_old log_new book_old book_new
  pub long : now ≡ size + length (spelled run.entries)

pub begins_booked : (told : Option ℤ) (rules : Rules) (s : RunState) (size : ℕ) (given : Option (List Given)) (log book : Option (List ℕ)) → size ≤ most_book → IsBookedRun told rules s s size size given given log log book book
begins_booked told rules s size given log book fits = record {
  run = record { moments = []; calls = []; log = []; entries = []; at = All-nil (IsMoment told); run = begins_kept; told = gains_none given; logged = grows_none log; kept = kept_none size book fits };
  long = omega arith;
}

booked_step : (told : Option ℤ) (rules : Rules) (s t u : RunState) (size mid now : ℕ) (given_old given_mid given_new : Option (List Given)) (log_old log_mid log_new book_old book_mid book_new : Option (List ℕ))
    → IsBookedRun told rules s t size mid given_old given_mid log_old log_mid book_old book_mid → GoesOnKept told rules t u mid now given_mid given_new log_mid log_new book_mid book_new
    → IsBookedRun told rules s u size now given_old given_new log_old log_new book_old book_new
booked_step told rules s t u size mid now given_old given_mid given_new log_old log_mid log_new book_old book_mid book_new booked goes =
    let run = booked.run in
    record {
      run = record {
        moments = run.moments ++ goes.makes.moment ∷ [];
        calls = run.calls ++ goes.makes.calls;
        log = run.log ++ goes.log;
        entries = run.entries ++ entries_of t u;
        at = All-push (IsMoment told) run.moments goes.makes.moment run.at goes.makes.same;
        run = goes_on_kept run.run goes.makes.move;
        told = gains_more given_old given_mid given_new run.calls goes.makes.calls run.told goes.makes.gains;
        logged = grows_more log_old log_mid log_new run.log goes.log run.logged goes.grows;
        kept = kept_more size mid book_old book_mid book_new run.entries (entries_of t u) booked.long run.kept goes.keeps.kept;
      };
      long = omega (arith, booked.long, goes.keeps.size, spelled_length run.entries (entries_of t u));
    }

pub booked_on : (told told_now : Option ℤ) (rules rules_now : Rules) (s t u : RunState) (size mid now : ℕ) (given_old given_mid given_new : Option (List Given)) (log_old log_mid log_new book_old book_mid book_new : Option (List ℕ))
    → told_now ≡ told → rules_now ≡ rules → IsBookedRun told rules s t size mid given_old given_mid log_old log_mid book_old book_mid → GoesOnKept told_now rules_now t u mid now given_mid given_new log_mid log_new book_mid book_new
    → IsBookedRun told rules s u size now given_old given_new log_old log_new book_old book_new
booked_on told told_now rules rules_now s t u size mid now given_old given_mid given_new log_old log_mid log_new book_old book_mid book_new same_moment same_rules booked goes =
    let P : Option ℤ → Type 0 = λ m. GoesOnKept m rules_now t u mid now given_mid given_new log_mid log_new book_mid book_new in
    let Q : Rules → Type 0 = λ r. GoesOnKept told r t u mid now given_mid given_new log_mid log_new book_mid book_new in
    booked_step told rules s t u size mid now given_old given_mid given_new log_old log_mid log_new book_old book_mid book_new booked (subst Q same_rules (subst P same_moment goes))

-- it fits, so far
pub booked_fits : (told : Option ℤ) (rules : Rules) (s t : RunState) (size now : ℕ) (given_old given_new : Option (List Given)) (log_old log_new book_old book_new : Option (List ℕ)) → IsBookedRun told rules s t size now given_old given_new log_old log_new book_old book_new → now ≤ most_book
booked_fits told rules s t size now given_old given_new log_old log_new book_old book_new booked = omega (arith, booked.long, booked.run.kept.fits)

-- ---- how the loop ends

unkept_part : (told : Option ℤ) (rules : Rules) (s t : RunState) (size : ℕ) (given_old given_mid given_new : Option (List Given)) (log_old log_mid log_new book_old book_mid book_new : Option (List ℕ))
    → HasRunKept told rules s t size given_old given_mid log_old log_mid book_old book_mid → FailsKeep told rules t given_mid given_new log_mid log_new book_mid book_new → StopsUnkept told rules s size given_old given_new log_old log_new book_old book_new
unkept_part told rules s t size given_old given_mid given_new log_old log_mid log_new book_old book_mid book_new run fails =
    let P : Option (List ℕ) → Type 0 = λ l. Grows log_old l run.log in
    record {
      moments = run.moments;
      calls = run.calls;
      last = fails.makes.calls;
      log = run.log;
      entries = run.entries;
      reached = t;
      moment = fails.makes.moment;
      after = fails.after;
      lines = fails.log;
      at = run.at;
      now = fails.makes.same;
      run = run.run;
      move = fails.makes.move;
      made = fails.keeps.made_one;
      told = gains_more given_old given_mid given_new run.calls fails.makes.calls run.told fails.makes.gains;
      logged = subst P (sym fails.logged) run.logged;
      kept = kept_same size book_old book_mid book_new run.entries fails.keeps.same run.kept;
    }

memory_kept : (told : Option ℤ) (rules : Rules) (s t : RunState) (size : ℕ) (given_old given_mid given_new : Option (List Given)) (log_old log_mid log_new book_old book_mid book_new : Option (List ℕ))
    → HasRunKept told rules s t size given_old given_mid log_old log_mid book_old book_mid → MissesAgain rules t given_mid given_new → log_new ≡ log_mid → book_new ≡ book_mid → HasRunKeptInPart told rules s size given_old given_new log_old log_new book_old book_new
memory_kept told rules s t size given_old given_mid given_new log_old log_mid log_new book_old book_mid book_new run misses logged same =
    let P : Option (List ℕ) → Type 0 = λ l. Grows log_old l run.log in
    record {
      moments = run.moments;
      calls = run.calls;
      last = misses.last;
      log = run.log;
      entries = run.entries;
      reached = t;
      at = run.at;
      run = run.run;
      next = misses.next;
      told = gains_more given_old given_mid given_new run.calls misses.last run.told misses.gains;
      logged = record { front = run.log; back = []; parts = append-nil run.log; grows = subst P (sym logged) run.logged };
      kept = kept_same size book_old book_mid book_new run.entries same run.kept;
    }

log_kept : (told : Option ℤ) (rules : Rules) (s t : RunState) (size mid : ℕ) (given_old given_mid given_new : Option (List Given)) (log_old log_mid log_new book_old book_mid book_new : Option (List ℕ))
    → IsBookedRun told rules s t size mid given_old given_mid log_old log_mid book_old book_mid → FailsLogKept told rules t mid given_mid given_new log_mid log_new book_mid book_new
    → HasRunKeptInPart told rules s size given_old given_new log_old log_new book_old book_new
log_kept told rules s t size mid given_old given_mid given_new log_old log_mid log_new book_old book_mid book_new booked fails =
    let run = booked.run in
    let calls = run.calls ++ fails.makes.calls in
    let P : List Given → Type 0 = Gains given_old given_new in
    record {
      moments = run.moments ++ fails.makes.moment ∷ [];
      calls = calls;
      last = [];
      log = run.log ++ fails.log;
      entries = run.entries ++ entries_of t fails.after;
      reached = fails.after;
      at = All-push (IsMoment told) run.moments fails.makes.moment run.at fails.makes.same;
      run = goes_on_kept run.run fails.makes.move;
      next = calls_none;
      told = subst P (sym (append-nil calls)) (gains_more given_old given_mid given_new run.calls fails.makes.calls run.told fails.makes.gains);
      logged = grows_part log_old log_mid log_new run.log fails.log run.logged fails.part;
      kept = kept_more size mid book_old book_mid book_new run.entries (entries_of t fails.after) booked.long run.kept fails.kept;
    }

end_kept : (told : Option ℤ) (rules : Rules) (s t : RunState) (size : ℕ) (given_old given_mid given_new : Option (List Given)) (log_old log_mid log_new book_old book_mid book_new : Option (List ℕ)) (status : NodeStatus)
    → HasRunKept told rules s t size given_old given_mid log_old log_mid book_old book_mid → EndsKept rules t given_mid given_new log_mid log_new book_mid book_new status
    → HasRunKept told rules s t size given_old given_new log_old log_new book_old book_new
end_kept told rules s t size given_old given_mid given_new log_old log_mid log_new book_old book_mid book_new status run ends =
    let P : Option (List Given) → Type 0 = λ g. Gains given_old g run.calls in
    let Q : Option (List ℕ) → Type 0 = λ l. Grows log_old l run.log in
    record {
      moments = run.moments;
      calls = run.calls;
      log = run.log;
      entries = run.entries;
      at = run.at;
      run = run.run;
      told = subst P (sym ends.ends.given) run.told;
      logged = subst Q (sym ends.ends.logged) run.logged;
      kept = kept_same size book_old book_mid book_new run.entries ends.same run.kept;
    }

memory_ends : (told : Option ℤ) (rules : Rules) (s t : RunState) (size : ℕ) (given_old given_mid given_new : Option (List Given)) (log_old log_mid log_new book_old book_mid book_new : Option (List ℕ))
    → HasRunKept told rules s t size given_old given_mid log_old log_mid book_old book_mid → FailsMemoryKept told rules t given_mid given_new log_mid log_new book_mid book_new
    → BookedEnds told rules s size given_old given_new log_old log_new book_old book_new (booked.Node statuses.Memory)
memory_ends told rules s t size given_old given_mid given_new log_old log_mid log_new book_old book_mid book_new run (in_move misses logged same) =
    inl (memory_kept told rules s t size given_old given_mid given_new log_old log_mid log_new book_old book_mid book_new run misses logged same)
memory_ends told rules s t size given_old given_mid given_new log_old log_mid log_new book_old book_mid book_new run (for_entry fails) =
    inr (unkept_part told rules s t size given_old given_mid given_new log_old log_mid log_new book_old book_mid book_new run fails)

too_long : (size mid : ℕ) (entries more : List Entry) → mid ≡ size + length (spelled entries) → most_book < mid + length (spelled more) → most_book < size + length (spelled entries) + length (spelled more)
too_long size mid entries more is full = omega (arith, is, full)

booked_ends : (status : BookedStatus) (told : Option ℤ) (rules : Rules) (s t : RunState) (size mid : ℕ) (given_old given_mid given_new : Option (List Given)) (log_old log_mid log_new book_old book_mid book_new : Option (List ℕ))
    → IsBookedRun told rules s t size mid given_old given_mid log_old log_mid book_old book_mid → StopsOnce told rules t mid given_mid given_new log_mid log_new book_mid book_new status
    → BookedEnds told rules s size given_old given_new log_old log_new book_old book_new status
unfolding unkept_part
booked_ends (booked.Node statuses.LogFault) told rules s t size mid g h k l m n a b c booked ends = log_kept told rules s t size mid g h k l m n a b c booked ends
booked_ends (booked.Node statuses.Memory) told rules s t size mid g h k l m n a b c booked ends = memory_ends told rules s t size g h k l m n a b c booked.run ends
booked_ends (booked.Node statuses.Done) told rules s t size mid g h k l m n a b c booked ends = (t, end_kept told rules s t size g h k l m n a b c statuses.Done booked.run ends, ends.again, ends.ends.next)
booked_ends (booked.Node statuses.Usage) told rules s t size mid g h k l m n a b c booked ends = (t, end_kept told rules s t size g h k l m n a b c statuses.Usage booked.run ends, ends.again, ends.ends.next)
booked_ends (booked.Node (statuses.ConfigRefused key why)) told rules s t size mid g h k l m n a b c booked ends = (t, end_kept told rules s t size g h k l m n a b c (statuses.ConfigRefused key why) booked.run ends, ends.again, ends.ends.next)
booked_ends (booked.Node statuses.ReadFault) told rules s t size mid g h k l m n a b c booked ends = (t, end_kept told rules s t size g h k l m n a b c statuses.ReadFault booked.run ends, ends.again, ends.ends.next)
booked_ends (booked.Node (statuses.ListenFault address)) told rules s t size mid g h k l m n a b c booked ends = (t, end_kept told rules s t size g h k l m n a b c (statuses.ListenFault address) booked.run ends, ends.again, ends.ends.next)
booked_ends (booked.Node statuses.TurnsUsed) told rules s t size mid g h k l m n a b c booked ends = (t, end_kept told rules s t size g h k l m n a b c statuses.TurnsUsed booked.run ends, ends.again, ends.ends.next)
booked_ends booked.BookFault told rules s t size mid g h k l m n a b c booked ends = unkept_part told rules s t size g h k l m n a b c booked.run ends
booked_ends booked.BookFull told rules s t size mid g h k l m n a b c booked ends = record {
  stops = unkept_part told rules s t size g h k l m n a b c booked.run ends.fails;
  full = too_long size mid booked.run.entries (entries_of t ends.fails.after) booked.long ends.full;
}

-- HOW THE LOOP ENDS: the moment and the rules stay what they were
pub ends_booked : (told told_now : Option ℤ) (rules rules_now : Rules) (s t : RunState) (size mid : ℕ) (given_old given_mid given_new : Option (List Given)) (log_old log_mid log_new book_old book_mid book_new : Option (List ℕ)) (status : BookedStatus)
    → told_now ≡ told → rules_now ≡ rules → IsBookedRun told rules s t size mid given_old given_mid log_old log_mid book_old book_mid → StopsOnce told_now rules_now t mid given_mid given_new log_mid log_new book_mid book_new status
    → BookedEnds told rules s size given_old given_new log_old log_new book_old book_new status
ends_booked told told_now rules rules_now s t size mid g h k l m n a b c status same_moment same_rules booked ends =
    let P : Option ℤ → Type 0 = λ moment. StopsOnce moment rules_now t mid h k m n b c status in
    let Q : Rules → Type 0 = λ r. StopsOnce told r t mid h k m n b c status in
    booked_ends status told rules s t size mid g h k l m n a b c booked (subst Q same_rules (subst P same_moment ends))

-- and where memory is wanting before it
pub ends_before_booked : (told : Option ℤ) (rules : Rules) (s : RunState) (size : ℕ) (given : Option (List Given)) (log book : Option (List ℕ)) → size ≤ most_book → BookedEnds told rules s size given given log log book book (booked.Node statuses.Memory)
ends_before_booked told rules s size given log book fits = inl (record {
  moments = [];
  calls = [];
  last = [];
  log = [];
  entries = [];
  reached = s;
  at = All-nil (IsMoment told);
  run = begins_kept;
  next = calls_none;
  told = gains_none given;
  logged = record { front = []; back = []; parts = refl; grows = grows_none log };
  kept = kept_none size book fits;
})

-- and how a whole run does
pub ends_booked_started : (told : Option ℤ) (rules : Rules) (s : RunState) (log : List ℕ) (r : RunView) (size : ℕ) (given_old given_new : Option (List Given)) (log_old log_new book_old book_new : Option (List ℕ)) (status : BookedStatus)
    → r ≡ record { rules = rules; state = s; told = log } → BookedEnds told r.rules r.state size given_old given_new log_old log_new book_old book_new status → BookedEnds told rules s size given_old given_new log_old log_new book_old book_new status
ends_booked_started told rules s log r size given_old given_new log_old log_new book_old book_new status e ends =
    let P : RunView → Type 0 = λ v. BookedEnds told v.rules v.state size given_old given_new log_old log_new book_old book_new status in subst P e ends

-- the rules stay what they were
pub turns_kept : (rules now : Rules) → now ≡ rules → 1 ≤ rules.turns → 1 ≤ now.turns
turns_kept rules now same some = let P : Rules → Type 0 = λ r. 1 ≤ r.turns in subst P (sym same) some

-- and a move brings it nearer
pub nearer_booked : (told : Option ℤ) (rules rules_now : Rules) (s t : RunState) (size now : ℕ) (given_old given_new : Option (List Given)) (log_old log_new book_old book_new : Option (List ℕ))
    → 1 ≤ rules.turns → rules_now ≡ rules → GoesOnKept told rules s t size now given_old given_new log_old log_new book_old book_new → length s.rest ≤ 4096 → length t.rest ≤ 4096 → IsShort t.channel → IsShort t.config → HasFewLooks t.held → far_of rules_now t < far_of rules s
nearer_booked told rules rules_now s t size now given_old given_new log_old log_new book_old book_new turns same goes before after short heard few =
    let P : Rules → Type 0 = λ r. far_of r t < far_of rules s in
    subst P (sym same) (again_nearer rules goes.makes.moment turns goes.makes.move before after short heard few)

-- ---- causes

pub booked_status : (ended : Option NodeStatus) (status : BookedStatus) (ports_before ports_now log_before log_now book_before book_now : ℕ) → IsEndCaused ended ports_before ports_now → IsOnceBooked ended status log_before log_now book_before book_now → IsBookedStatus status
booked_status ended (booked.Node status) ports_before ports_now log_before log_now book_before book_now caused once = run_status ended status ports_before ports_now log_before log_now caused once
booked_status ended booked.BookFault ports_before ports_now log_before log_now book_before book_now caused once = tt
booked_status ended booked.BookFull ports_before ports_now log_before log_now book_before book_now caused once = tt

listen_cause : (ended : Option NodeStatus) (status : BookedStatus) (ports_before ports_mid ports_now log_mid log_now book_mid book_now : ℕ) → ports_before ≤ ports_mid → ports_mid ≤ ports_now → IsEndCaused ended ports_before ports_mid
    → IsOnceBooked ended status log_mid log_now book_mid book_now → (address : Address) → status ≡ booked.Node (statuses.ListenFault address) → Rose ports_before ports_now
listen_cause ended status ports_before ports_mid ports_now log_mid log_now book_mid book_now first second caused once address e =
    let P : BookedStatus → Type 0 = λ s. IsOnceBooked ended s log_mid log_now book_mid book_now in
    let Q : Option NodeStatus → Type 0 = λ n. IsEndCaused n ports_before ports_mid in
    rose_before ports_before ports_mid ports_now first second (subst Q (subst P e once) caused)

log_cause : (ended : Option NodeStatus) (status : BookedStatus) (log_before log_mid log_now book_mid book_now : ℕ) → log_before ≤ log_mid → log_mid ≤ log_now → IsOnceBooked ended status log_mid log_now book_mid book_now → status ≡ booked.Node statuses.LogFault → Rose log_before log_now
log_cause ended status log_before log_mid log_now book_mid book_now first second once e =
    let P : BookedStatus → Type 0 = λ s. IsOnceBooked ended s log_mid log_now book_mid book_now in
    rose_after log_before log_mid log_now first second (subst P e once)

book_cause : (ended : Option NodeStatus) (status : BookedStatus) (log_mid log_now book_before book_mid book_now : ℕ) → book_before ≤ book_mid → book_mid ≤ book_now → IsOnceBooked ended status log_mid log_now book_mid book_now → status ≡ booked.BookFault → Rose book_before book_now
book_cause ended status log_mid log_now book_before book_mid book_now first second once e =
    let P : BookedStatus → Type 0 = λ s. IsOnceBooked ended s log_mid log_now book_mid book_now in
    rose_after book_before book_mid book_now first second (subst P e once)

pub booked_caused_by : (ended : Option NodeStatus) (status : BookedStatus) (ports_before ports_mid ports_now log_before log_mid log_now book_before book_mid book_now : ℕ)
    → ports_before ≤ ports_mid → ports_mid ≤ ports_now → log_before ≤ log_mid → log_mid ≤ log_now → book_before ≤ book_mid → book_mid ≤ book_now
    → IsEndCaused ended ports_before ports_mid → IsOnceBooked ended status log_mid log_now book_mid book_now → HasBookedCauses status ports_before ports_now log_before log_now book_before book_now
booked_caused_by ended status ports_before ports_mid ports_now log_before log_mid log_now book_before book_mid book_now p q l m a b caused once = record {
  ports = omega (arith, p, q);
  log = omega (arith, l, m);
  book = omega (arith, a, b);
  listen_fault = listen_cause ended status ports_before ports_mid ports_now log_mid log_now book_mid book_now p q caused once;
  log_fault = log_cause ended status log_before log_mid log_now book_mid book_now l m once;
  book_fault = book_cause ended status log_mid log_now book_before book_mid book_now a b once;
}

pub memory_booked : (ports log book : ℕ) → HasBookedCauses (booked.Node statuses.Memory) ports ports log log book book
memory_booked ports log book = record { ports = omega arith; log = omega arith; book = omega arith; listen_fault = λ address e. cc; log_fault = λ e. cc; book_fault = λ e. cc }
