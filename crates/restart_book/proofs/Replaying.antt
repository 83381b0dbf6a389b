-- The entries of a book, done one after another.
use Rattle.std.proofs.Common.{◌≡◌, ℕ, ◌+◌, ◌-◌, ◌<◌, ◌≤◌, List, [], ◌∷◌, ◌++◌, Option, Some, Ok, Err, length, drop, refl, sym, ap, ◌∙◌, subst, arith, append_assoc, append-nil, length-append, length-drop}
use Rattle.std.proofs.lemmas.List.{drop-drop}
use Rattle.book_entry.specs.Fronts.{Begins, IsBad, IsFound, IsFront}
use Rattle.book_entry.specs.Spelling.{IsEntry, spelling}
use Rattle.book_entry.specs.declared.entry.Entry.{Entry}
use Rattle.book_entry.specs.Steps.{AreEntries, DoesEntry, Replays, spelled}
use Rattle.book_entry.specs.declared.stepping.StepError.{StepError}
use Rattle.book_entry.specs.declared.stepping.StepError.TheVariants as steps
use Rattle.machine_log.specs.Drives.{all_off, drives_act, drives_after}
use Rattle.machine_log.specs.declared.drives.Drives.{Drives}
use Rattle.node_core.specs.Node.{NodeState, new_node}
use Rattle.node_core.specs.declared.act.Act.{Act}
use Rattle.node_core.specs.declared.profile.NodeProfile.{NodeProfile}
use Rattle.restart_book.specs.Replay.{IsBadAt, IsImpossible, IsReached, IsResumedAs, IsUnspelled, Leads, Next, RefusesOne, ReplaysBook, Resumes, StepsFound, TakesOne}
use Rattle.restart_book.specs.declared.resuming.ResumeError.{ResumeError}
use Rattle.restart_book.specs.declared.resuming.ResumeError.TheVariants as errors

-- ---- one entry

pub begins_of : (bytes : List ℕ) (entry : Entry) (size : ℕ) → IsFound bytes entry size → Begins bytes entry
begins_of bytes entry size found = record { entry_is = found.entry_is; rest = drop size bytes; spelled = found.spelled }

pub refuses_found : (s : NodeState) (before : Drives) (bytes : List ℕ) (entry : Entry) (size : ℕ) (t : NodeState) (now : Drives) (error : StepError) → error ≡ steps.NotPossible → IsFound bytes entry size → StepsFound s before entry t now (Err error) → RefusesOne s bytes
refuses_found s before bytes entry size t now error is found does =
    let P : StepError → Type 0 = λ e. StepsFound s before entry t now (Err e) in
    record { entry = entry; begins = begins_of bytes entry size found; refused = subst P is does }

-- ---- one more

pub drives_both : (drives : Drives) (first others : List Act) → drives_after drives (first ++ others) ≡ drives_after (drives_after drives first) others
drives_both drives [] others = refl
drives_both drives (act ∷ first) others = drives_both (drives_act drives act) first others

spelled_push : (entries : List Entry) (entry : Entry) → spelled (entries ++ entry ∷ []) ≡ spelled entries ++ spelling entry
spelled_push [] entry = append-nil (spelling entry)
spelled_push (first ∷ entries) entry = ap (λ (x : List ℕ). spelling first ++ x) (spelled_push entries entry) ∙ sym (append_assoc (spelling first) (spelled entries) (spelling entry))

entries_push : (entries : List Entry) (entry : Entry) → AreEntries entries → IsEntry entry → AreEntries (entries ++ entry ∷ [])
entries_push [] entry are is = (is, tt)
entries_push (first ∷ entries) entry are is = (are.0, entries_push entries entry are.1 is)

replays_push : (s : NodeState) (entries : List Entry) (mid : NodeState) (acts : List Act) (entry : Entry) (t : NodeState) (more : List Act) → Replays s entries mid acts → DoesEntry mid entry t more → Replays s (entries ++ entry ∷ []) t (acts ++ more)
replays_push s [] mid acts entry t more replays does =
    let P : NodeState → Type 0 = λ n. DoesEntry n entry t more in
    (t, more, [], subst P (sym replays.0) does, (refl, refl), ap (λ (x : List Act). x ++ more) replays.1 ∙ sym (append-nil more))
replays_push s (first ∷ entries) mid acts entry t more replays does =
    (replays.0, replays.1, replays.2 ++ more, replays.3, replays_push replays.0 entries mid replays.2 entry t more replays.4 does, ap (λ (x : List Act). x ++ more) replays.5 ∙ append_assoc replays.1 replays.2 more)

pub reached_start : (s : NodeState) (before : Drives) (book : List ℕ) → IsReached s before book 0 s before
reached_start s before book = record { acts = []; leads = record { entries = []; are = tt; split = refl; at_is = refl; replays = (refl, refl) }; drives_are = refl }

leads_more : (start : NodeState) (before mid now : Drives) (book : List ℕ) (at size : ℕ) (node next : NodeState) (acts : List Act) → Leads start book at node acts → (one : TakesOne node mid (drop at book) next now size) → Leads start book (at + size) next (acts ++ one.acts)
leads_more start before mid now book at size node next acts leads one =
    let entries = leads.entries in
    let entry = one.entry in
    let behind = drop (at + size) book in
    record {
      entries = entries ++ entry ∷ [];
      are = entries_push entries entry leads.are one.found.entry_is;
      split =
          leads.split
          ∙ ap (λ (x : List ℕ). spelled entries ++ x) (one.found.spelled ∙ ap (λ (x : List ℕ). spelling entry ++ x) (drop-drop size at book))
          ∙ sym (append_assoc (spelled entries) (spelling entry) behind)
          ∙ ap (λ (x : List ℕ). x ++ behind) (sym (spelled_push entries entry));
      at_is = omega (arith, leads.at_is, one.found.size_is, length-append (spelled entries) (spelling entry), ap length (spelled_push entries entry));
      replays = replays_push start entries node acts entry next one.acts leads.replays one.does;
    }

reached_more : (start : NodeState) (before mid now : Drives) (book : List ℕ) (at size : ℕ) (node next : NodeState) → IsReached start before book at node mid → TakesOne node mid (drop at book) next now size → IsReached start before book (at + size) next now
reached_more start before mid now book at size node next is one = record {
  acts = is.acts ++ one.acts;
  leads = leads_more start before mid now book at size node next is.acts is.leads one;
  drives_are = one.drives_are ∙ ap (λ (d : Drives). drives_after d one.acts) is.drives_are ∙ sym (drives_both before is.acts one.acts);
}

-- the bytes of an entry are some, and no more than there are
spelling_some : (entry : Entry) → 0 < length (spelling entry)
spelling_some entry = omega arith

reached_within : (start : NodeState) (before now : Drives) (book : List ℕ) (at : ℕ) (node : NodeState) → IsReached start before book at node now → at ≤ length book
reached_within start before now book at node is = omega (arith, is.leads.at_is, ap length is.leads.split, length-append (spelled is.leads.entries) (drop at book))

one_within : (node next : NodeState) (before now : Drives) (bytes : List ℕ) (size : ℕ) → TakesOne node before bytes next now size → size ≤ length bytes
one_within node next before now bytes size one = omega (arith, one.found.size_is, ap length one.found.spelled, length-append (spelling one.entry) (drop size bytes))

one_some : (node next : NodeState) (before now : Drives) (bytes : List ℕ) (size : ℕ) → TakesOne node before bytes next now size → 0 < size
one_some node next before now bytes size one = omega (arith, one.found.size_is, spelling_some one.entry)

-- ---- the same of what is lent of the book

pub torn_at : (start : NodeState) (before mid now : Drives) (book rest : List ℕ) (at : ℕ) (node next : NodeState) → IsReached start before book at node mid → rest ≡ drop at book → IsFront rest × (next ≡ node) × (now ≡ mid) → IsResumedAs start before book at next now
torn_at start before mid now book rest at node next is e torn = record {
  acts = is.acts;
  resumed = record { leads = subst (λ (n : NodeState). Leads start book at n is.acts) (sym torn.1) is.leads; torn = subst IsFront e torn.0 };
  drives_are = torn.2 ∙ is.drives_are;
}

pub bad_at : (start : NodeState) (before mid : Drives) (book rest : List ℕ) (at : ℕ) (node : NodeState) → IsReached start before book at node mid → rest ≡ drop at book → IsBad rest → IsUnspelled start book at
bad_at start before mid book rest at node is e bad = record { node = node; acts = is.acts; leads = is.leads; bad = subst IsBad e bad }

pub impossible_at : (start : NodeState) (before mid : Drives) (book rest : List ℕ) (at : ℕ) (node : NodeState) → IsReached start before book at node mid → rest ≡ drop at book → RefusesOne node rest → IsImpossible start book at
impossible_at start before mid book rest at node is e one = record { node = node; acts = is.acts; leads = is.leads; entry = one.entry; begins = subst (λ (x : List ℕ). Begins x one.entry) e one.begins; refused = one.refused }

pub more_at : (start : NodeState) (before mid now : Drives) (book rest : List ℕ) (at size : ℕ) (node next : NodeState) (found : Option ℕ) → found ≡ Some size → IsReached start before book at node mid → rest ≡ drop at book → Next node mid rest next now (Ok found) → IsReached start before book (at + size) next now
more_at start before mid now book rest at size node next found some is e one =
    let P : Option ℕ → Type 0 = λ f. Next node mid rest next now (Ok f) in
    let Q : List ℕ → Type 0 = λ x. TakesOne node mid x next now size in
    reached_more start before mid now book at size node next is (subst Q e (subst P some one))

pub fits_at : (start : NodeState) (before mid now : Drives) (book rest : List ℕ) (at size : ℕ) (node next : NodeState) → IsReached start before book at node mid → rest ≡ drop at book → TakesOne node mid rest next now size → at + size ≤ length book
fits_at start before mid now book rest at size node next is e one = omega (arith, reached_within start before mid book at node is, one_within node next mid now rest size one, ap length e, length-drop at book)

pub nearer_at : (start : NodeState) (before mid now : Drives) (book rest : List ℕ) (at size : ℕ) (node next : NodeState) → IsReached start before book at node mid → rest ≡ drop at book → TakesOne node mid rest next now size → length book - (at + size) < length book - at
nearer_at start before mid now book rest at size node next is e one = omega (arith, fits_at start before mid now book rest at size node next is e one, one_some node next mid now rest size one)

-- ---- from a new machine

pub resumed_new : (profile : NodeProfile) (book : List ℕ) (node next : NodeState) (before now : Drives) (whole : ℕ) → node ≡ new_node profile → before ≡ all_off → IsResumedAs node before book whole next now → IsResumedAs (new_node profile) all_off book whole next now
resumed_new profile book node next before now whole e f is =
    let P : NodeState → Type 0 = λ n. IsResumedAs n all_off book whole next now in
    let Q : Drives → Type 0 = λ d. IsResumedAs node d book whole next now in
    subst P e (subst Q f is)

pub refused_new : (profile : NodeProfile) (book : List ℕ) (node next : NodeState) (before now : Drives) (error : ResumeError) → node ≡ new_node profile → ReplaysBook node before book next now (Err error) → Resumes profile book (Err error)
refused_new profile book node next before now (errors.Bad at why) e is = subst (λ (n : NodeState). IsBadAt n book at why) e is
refused_new profile book node next before now errors.Memory e is = tt
