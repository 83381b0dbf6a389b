-- The log of a book, entry by entry.
use Rattle.std.proofs.Common.{◌≡◌, ℕ, ◌+◌, ◌-◌, ◌<◌, ◌≤◌, Bool, List, [], ◌∷◌, ◌++◌, Option, None, Some, Result, Ok, Err, length, drop, refl, sym, ap, ◌∙◌, subst, arith, append_assoc, append-nil, length-append, length-drop}
use Rattle.std.proofs.lemmas.List.{drop-drop}
use Rattle.book_entry.specs.Fronts.{Begins, IsBad, IsFound, IsFront}
use Rattle.book_entry.specs.Spelling.{IsEntry, spelling}
use Rattle.book_entry.specs.declared.entry.Entry.{Entry}
use Rattle.book_entry.specs.Steps.{AreEntries, DoesEntry, IsRefused, Replays, spelled}
use Rattle.line_outside.proofs.Growing.{grows_more, grows_none, grows_part}
use Rattle.line_outside.specs.Sink.{Grows, GrowsInPart}
use Rattle.machine_log.specs.Texts.{lines_of}
use Rattle.node_core.specs.Node.{NodeState}
use Rattle.node_core.specs.declared.act.Act.{Act}
use Rattle.restart_book.specs.Replay.{IsBadAt, Leads, RefusesOne}
use Rattle.restart_book.specs.declared.resuming.BookWhy.{BookWhy}
use Rattle.restart_book.specs.declared.resuming.BookWhy.TheVariants as whys
use Rattle.book_log.specs.One.{IsAgainst, IsToldSo, PushesLines, StepsFound, StepsNext, StepsOne, TellsNext, TellsOne, TellsOneInPart}
use Rattle.book_log.specs.Told.{HasTold, HasToldInPart, IsToldTo, TellsBook, TellsEntries, tells_more, tells_none}
use Rattle.book_log.specs.declared.telling.Found.{Found}
use Rattle.book_log.specs.declared.telling.LogError.{LogError}
use Rattle.book_log.specs.declared.telling.LogError.TheVariants as errors

-- ---- one entry

refuses : (s : NodeState) (bytes : List ℕ) (entry : Entry) (size : ℕ) → IsFound bytes entry size → IsRefused s entry.input → RefusesOne s bytes
refuses s bytes entry size found refused = record { entry = entry; begins = record { entry_is = found.entry_is; rest = drop size bytes; spelled = found.spelled }; refused = refused }

pub found_next : (s : NodeState) (bytes : List ℕ) (entry : Entry) (size at : ℕ) (t : NodeState) (result : Result (Option Found) LogError) → IsFound bytes entry size → StepsFound s entry t result at size → StepsNext s bytes t result at
found_next s bytes entry size at t (Ok (Some found)) is does = record { entry = entry; found = subst (IsFound bytes entry) (sym does.0) is; does = does.1 }
found_next s bytes entry size at t (Ok None) is does = absurd does
found_next s bytes entry size at t (Err (errors.Bad place why)) is does =
    let P : BookWhy → Type 0 = λ w. IsAgainst s bytes w in
    (does.0, subst P (sym does.1) (refuses s bytes entry size is does.2))
found_next s bytes entry size at t (Err errors.Fault) is does = absurd does
found_next s bytes entry size at t (Err errors.Memory) is does = tt

-- ---- one more

spelled_push : (entries : List Entry) (entry : Entry) → spelled (entries ++ entry ∷ []) ≡ spelled entries ++ spelling entry
spelled_push [] entry = append-nil (spelling entry)
spelled_push (first ∷ entries) entry = ap (λ (x : List ℕ). spelling first ++ x) (spelled_push entries entry) ∙ sym (append_assoc (spelling first) (spelled entries) (spelling entry))

entries_push : (entries : List Entry) (entry : Entry) → AreEntries entries → IsEntry entry → AreEntries (entries ++ entry ∷ [])
entries_push [] entry are is = (is, tt)
entries_push (first ∷ entries) entry are is = (are.0, entries_push entries entry are.1 is)

replays_push : (s : NodeState) (entries : List Entry) (mid : NodeState) (acts : List Act) (entry : Entry) (t : NodeState) (more : List Act) → Replays s entries mid acts → DoesEntry mid entry t more → Replays s (entries ++ entry ∷ []) t (acts ++ more)
replays_push s [] mid acts entry t more replays does =
    let P : NodeState → Type 0 = λ n. DoesEntry n entry t more in
    (t, more, [], subst P (sym replays.0) does, (refl, refl), ap (λ (x : List Act). x ++ more) replays.1 ∙ sym (append-nil more))
replays_push s (first ∷ entries) mid acts entry t more replays does =
    (replays.0, replays.1, replays.2 ++ more, replays.3, replays_push replays.0 entries mid replays.2 entry t more replays.4 does, ap (λ (x : List Act). x ++ more) replays.5 ∙ append_assoc replays.1 replays.2 more)

record HasActs (start : NodeState) (entries : List Entry) (node : NodeState) : Type 0 where
  acts : List Act
  replays : Replays start entries node acts

acts_of : (drives : Bool) (machine : ℕ) (start node : NodeState) {entries : List Entry} {log : List ℕ} → TellsEntries drives machine start entries node log → HasActs start entries node
acts_of drives machine start node tells_none = record { acts = []; replays = (refl, refl) }
acts_of drives machine start node (tells_more {entries = entries} {s = s} {entry = entry} {acts = acts} before does) =
    let has = acts_of drives machine start s before in
    record { acts = has.acts ++ acts; replays = replays_push start entries s has.acts entry node acts has.replays does }

told_more : (drives : Bool) (machine : ℕ) (start : NodeState) (book : List ℕ) (at size : ℕ) (node next : NodeState) (log : List ℕ) (acts : List Act) → IsToldTo drives machine start book at node log → StepsOne node (drop at book) next acts size
    → IsToldTo drives machine start book (at + size) next (log ++ lines_of drives (at + size) machine acts)
told_more drives machine start book at size node next log acts is one =
    let entries = is.entries in
    let entry = one.entry in
    let behind = drop (at + size) book in
    let ends : at + size ≡ length (spelled (entries ++ entry ∷ [])) = omega (arith, is.at_is, one.found.size_is, length-append (spelled entries) (spelling entry), ap length (spelled_push entries entry)) in
    let P : ℕ → Type 0 = λ n. TellsEntries drives machine start (entries ++ entry ∷ []) next (log ++ lines_of drives n machine acts) in
    record {
      entries = entries ++ entry ∷ [];
      are = entries_push entries entry is.are one.found.entry_is;
      split =
          is.split
          ∙ ap (λ (x : List ℕ). spelled entries ++ x) (one.found.spelled ∙ ap (λ (x : List ℕ). spelling entry ++ x) (drop-drop size at book))
          ∙ sym (append_assoc (spelled entries) (spelling entry) behind)
          ∙ ap (λ (x : List ℕ). x ++ behind) (sym (spelled_push entries entry));
      at_is = ends;
      tells = subst P (sym ends) (tells_more is.tells one.does);
    }

one_at : (node next : NodeState) (book rest : List ℕ) (at size : ℕ) (acts : List Act) → rest ≡ drop at book → StepsOne node rest next acts size → StepsOne node (drop at book) next acts size
one_at node next book rest at size acts e one = let P : List ℕ → Type 0 = λ x. StepsOne node x next acts size in subst P e one

pub so_more : (drives : Bool) (machine : ℕ) (start : NodeState) (book rest : List ℕ) (at next : ℕ) (node t : NodeState) (old mid new : Option (List ℕ)) → rest ≡ drop at book → IsToldSo drives machine start book at node old mid → TellsOne drives machine at node rest t next mid new
    → IsToldSo drives machine start book next t old new
so_more drives machine start book rest at next node t old mid new e is one =
    let lines = lines_of drives next machine one.acts in
    let more = told_more drives machine start book at one.size node t is.log one.acts is.told (one_at node t book rest at one.size one.acts e one.one) in
    let P : ℕ → Type 0 = λ n. IsToldTo drives machine start book n t (is.log ++ lines_of drives n machine one.acts) in
    record { log = is.log ++ lines; told = subst P (sym one.next_is) more; grows = grows_more old mid new is.log lines is.grows one.grows }

pub so_begun : (drives : Bool) (machine : ℕ) (start : NodeState) (book : List ℕ) (log : Option (List ℕ)) → IsToldSo drives machine start book 0 start log log
so_begun drives machine start book log = record {
  log = [];
  told = record { entries = []; are = tt; split = refl; at_is = refl; tells = tells_none };
  grows = grows_none log;
}

-- ---- the ends

has_told : (drives : Bool) (machine : ℕ) (start : NodeState) (book : List ℕ) (at : ℕ) (node : NodeState) (old mid new : Option (List ℕ)) → new ≡ mid → IsToldSo drives machine start book at node old mid → HasTold drives machine start book at old new
has_told drives machine start book at node old mid new same is =
    let P : Option (List ℕ) → Type 0 = λ l. Grows old l is.log in
    record { node = node; log = is.log; told = is.told; grows = subst P (sym same) is.grows }

leads_of : (drives : Bool) (machine : ℕ) (start : NodeState) (book : List ℕ) (at : ℕ) (node : NodeState) (log : List ℕ) → (is : IsToldTo drives machine start book at node log) → Leads start book at node (acts_of drives machine start node is.tells).acts
leads_of drives machine start book at node log is = record { entries = is.entries; are = is.are; split = is.split; at_is = is.at_is; replays = (acts_of drives machine start node is.tells).replays }

bad_by : (why : BookWhy) (drives : Bool) (machine : ℕ) (start : NodeState) (book : List ℕ) (at : ℕ) (node : NodeState) (log : List ℕ) → IsToldTo drives machine start book at node log → IsAgainst node (drop at book) why → IsBadAt start book at why
bad_by whys.Spelling drives machine start book at node log is against = record { node = node; acts = (acts_of drives machine start node is.tells).acts; leads = leads_of drives machine start book at node log is; bad = against }
bad_by whys.NotPossible drives machine start book at node log is against =
    record { node = node; acts = (acts_of drives machine start node is.tells).acts; leads = leads_of drives machine start book at node log is; entry = against.entry; begins = against.begins; refused = against.refused }

pub told_whole : (drives : Bool) (machine : ℕ) (start : NodeState) (book rest : List ℕ) (at : ℕ) (node : NodeState) (old mid new : Option (List ℕ)) → rest ≡ drop at book → IsToldSo drives machine start book at node old mid → IsFront rest × (new ≡ mid)
    → TellsBook drives machine start book (Ok at) old new
told_whole drives machine start book rest at node old mid new e is torn = (has_told drives machine start book at node old mid new torn.1 is, subst IsFront e torn.0)

pub told_error : (error : LogError) (drives : Bool) (machine : ℕ) (start : NodeState) (book rest : List ℕ) (at : ℕ) (node t : NodeState) (old mid new : Option (List ℕ)) → rest ≡ drop at book → IsToldSo drives machine start book at node old mid
    → TellsNext drives machine at node rest t (Err error) mid new → TellsBook drives machine start book (Err error) old new
told_error (errors.Bad place why) drives machine start book rest at node t old mid new e is does =
    let P : ℕ → Type 0 = λ n. HasTold drives machine start book n old new × IsBadAt start book n why in
    let Q : List ℕ → Type 0 = λ x. IsAgainst node x why in
    subst P (sym does.0) (has_told drives machine start book at node old mid new does.2 is, bad_by why drives machine start book at node is.log is.told (subst Q e does.1))
told_error errors.Fault drives machine start book rest at node t old mid new e is does =
    let more = told_more drives machine start book at does.size node does.t is.log does.acts is.told (one_at node does.t book rest at does.size does.acts e does.one) in
    record { at = at + does.size; node = does.t; log = is.log ++ lines_of drives (at + does.size) machine does.acts; told = more; part = grows_part old mid new is.log (lines_of drives (at + does.size) machine does.acts) is.grows does.part }
told_error errors.Memory drives machine start book rest at node t old mid new e is does = (at, has_told drives machine start book at node old mid new does is)

-- ---- the bytes of an entry are some, and no more than there are

spelling_some : (entry : Entry) → 0 < length (spelling entry)
spelling_some entry = omega arith

so_within : (drives : Bool) (machine : ℕ) (start : NodeState) (book : List ℕ) (at : ℕ) (node : NodeState) (old new : Option (List ℕ)) → IsToldSo drives machine start book at node old new → at ≤ length book
so_within drives machine start book at node old new is = omega (arith, is.told.at_is, ap length is.told.split, length-append (spelled is.told.entries) (drop at book))

pub fits_in : (drives : Bool) (machine : ℕ) (start : NodeState) (book rest : List ℕ) (at most : ℕ) (node : NodeState) (old new : Option (List ℕ)) → rest ≡ drop at book → length book < most → IsToldSo drives machine start book at node old new → at + length rest < most
fits_in drives machine start book rest at most node old new e short is = omega (arith, so_within drives machine start book at node old new is, ap length e, length-drop at book, short)

pub one_within : (node next : NodeState) (bytes : List ℕ) (acts : List Act) (size : ℕ) → StepsOne node bytes next acts size → size ≤ length bytes
one_within node next bytes acts size one = omega (arith, one.found.size_is, ap length one.found.spelled, length-append (spelling one.entry) (drop size bytes))

pub nearer : (drives : Bool) (machine : ℕ) (start : NodeState) (book rest : List ℕ) (at next : ℕ) (node t : NodeState) (old mid new : Option (List ℕ)) → rest ≡ drop at book → IsToldSo drives machine start book at node old mid → TellsOne drives machine at node rest t next mid new
    → length book - next < length book - at
nearer drives machine start book rest at next node t old mid new e is one =
    omega (arith, so_within drives machine start book at node old mid is, one_within node t rest one.acts one.size one.one, one.one.found.size_is, spelling_some one.one.entry, one.next_is, ap length e, length-drop at book)

-- ---- of one entry

pub one_told : (drives : Bool) (machine at next : ℕ) (s : NodeState) (bytes : List ℕ) (t : NodeState) (acts : List Act) (size : ℕ) (old new : Option (List ℕ)) → StepsOne s bytes t acts size → next ≡ at + size → Grows old new (lines_of drives next machine acts)
    → TellsOne drives machine at s bytes t next old new
one_told drives machine at next s bytes t acts size old new one is grows = record { size = size; acts = acts; one = one; next_is = is; grows = grows }

pub one_in_part : (drives : Bool) (machine at next : ℕ) (s : NodeState) (bytes : List ℕ) (t : NodeState) (acts : List Act) (size : ℕ) (old new : Option (List ℕ)) → StepsOne s bytes t acts size → next ≡ at + size → GrowsInPart old new (lines_of drives next machine acts)
    → TellsOneInPart drives machine at s bytes old new
one_in_part drives machine at next s bytes t acts size old new one is part =
    let P : ℕ → Type 0 = λ n. GrowsInPart old new (lines_of drives n machine acts) in
    record { size = size; t = t; acts = acts; one = one; part = subst P is part }

pub next_error : (error : LogError) (drives : Bool) (machine at next : ℕ) (s : NodeState) (bytes : List ℕ) (t : NodeState) (acts : List Act) (size : ℕ) (old new : Option (List ℕ)) → StepsOne s bytes t acts size → next ≡ at + size
    → (let answer : Result (Unit {0}) LogError = Err error in PushesLines (lines_of drives next machine acts) answer old new) → TellsNext drives machine at s bytes t (Err error) old new
next_error (errors.Bad place why) drives machine at next s bytes t acts size old new one is pushes = absurd pushes
next_error errors.Fault drives machine at next s bytes t acts size old new one is pushes = one_in_part drives machine at next s bytes t acts size old new one is pushes
next_error errors.Memory drives machine at next s bytes t acts size old new one is pushes = pushes

-- an entry that wasn't done tells nothing
pub not_told : (error : LogError) (drives : Bool) (machine at : ℕ) (s : NodeState) (bytes : List ℕ) (t : NodeState) (log : Option (List ℕ)) → StepsNext s bytes t (Err error) at → TellsNext drives machine at s bytes t (Err error) log log
not_told (errors.Bad place why) drives machine at s bytes t log steps = (steps.0, steps.1, refl)
not_told errors.Fault drives machine at s bytes t log steps = absurd steps
not_told errors.Memory drives machine at s bytes t log steps = refl

-- ---- before the first

pub told_none : (drives : Bool) (machine : ℕ) (start : NodeState) (book : List ℕ) (log : Option (List ℕ)) → TellsBook drives machine start book (Err errors.Memory) log log
told_none drives machine start book log = (0, has_told drives machine start book 0 start log log log refl (so_begun drives machine start book log))

pub told_from : (drives : Bool) (machine : ℕ) (node start : NodeState) (book : List ℕ) (result : Result ℕ LogError) (old new : Option (List ℕ)) → node ≡ start → TellsBook drives machine node book result old new → TellsBook drives machine start book result old new
told_from drives machine node start book result old new is told = let P : NodeState → Type 0 = λ n. TellsBook drives machine n book result old new in subst P is told

pub so_more_at : (drives : Bool) (machine : ℕ) (start : NodeState) (book rest : List ℕ) (at next : ℕ) (node t : NodeState) (old mid new : Option (List ℕ)) (found : Option ℕ) → found ≡ Some next → rest ≡ drop at book → IsToldSo drives machine start book at node old mid
    → TellsNext drives machine at node rest t (Ok found) mid new → IsToldSo drives machine start book next t old new
so_more_at drives machine start book rest at next node t old mid new found some e is one =
    let P : Option ℕ → Type 0 = λ f. TellsNext drives machine at node rest t (Ok f) mid new in
    so_more drives machine start book rest at next node t old mid new e is (subst P some one)
