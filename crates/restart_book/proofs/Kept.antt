-- A book that is kept on is resumed.
use Rattle.std.proofs.Common.{◌≡◌, ℕ, ◌+◌, List, [], ◌∷◌, ◌++◌, length, drop, take, refl, sym, ap, ◌∙◌, subst, arith, append_assoc, append-nil, length-append}
use Rattle.std.proofs.lemmas.List.{drop_at, take_at}
use Rattle.book_entry.specs.Fronts.{IsFront}
use Rattle.book_entry.specs.Spelling.{spelling}
use Rattle.book_entry.specs.declared.entry.Entry.{Entry}
use Rattle.book_entry.specs.Steps.{AreEntries, Replays, spelled}
use Rattle.node_core.specs.Node.{NodeState}
use Rattle.node_core.specs.declared.act.Act.{Act}
use Rattle.restart_book.specs.Kept.{KeptBooksAreResumed}
use Rattle.restart_book.specs.Replay.{Leads}

are_both : (one more : List Entry) → AreEntries one → AreEntries more → AreEntries (one ++ more)
are_both [] more are and = and
are_both (entry ∷ one) more are and = (are.0, are_both one more are.1 and)

spelled_both : (one more : List Entry) → spelled (one ++ more) ≡ spelled one ++ spelled more
spelled_both [] more = refl
spelled_both (entry ∷ one) more = ap (λ (x : List ℕ). spelling entry ++ x) (spelled_both one more) ∙ sym (append_assoc (spelling entry) (spelled one) (spelled more))

replays_both : (s : NodeState) (one more : List Entry) (mid t : NodeState) (acts others : List Act) → Replays s one mid acts → Replays mid more t others → Replays s (one ++ more) t (acts ++ others)
replays_both s [] more mid t acts others before then =
    let P : NodeState → Type 0 = λ n. Replays n more t others in
    let Q : List Act → Type 0 = λ x. Replays s more t (x ++ others) in
    subst Q (sym before.1) (subst P (sym before.0) then)
replays_both s (entry ∷ one) more mid t acts others before then =
    (before.0, before.1, before.2 ++ others, before.3, replays_both before.0 one more mid t before.2 others before.4 then, ap (λ (x : List Act). x ++ others) before.5 ∙ append_assoc before.1 before.2 others)

-- no bytes at all are the front of an entry
nothing_torn : (bytes : List ℕ) → IsFront bytes → IsFront []
nothing_torn bytes front = record {
  entry = front.entry;
  entry_is = front.entry_is;
  more = spelling front.entry;
  spelled = refl;
  proper = omega arith;
}

whole_front : (start : NodeState) (book : List ℕ) (whole : ℕ) (node : NodeState) (acts : List Act) → (leads : Leads start book whole node acts) → take whole book ≡ spelled leads.entries
whole_front start book whole node acts leads = ap (take whole) leads.split ∙ take_at (spelled leads.entries) (drop whole book) whole (sym leads.at_is)

pub kept_on : KeptBooksAreResumed
kept_on start book whole node acts entries reached more is are then =
    let leads = is.leads in
    let before = leads.entries in
    let both = before ++ entries in
    let text : take whole book ++ spelled entries ≡ spelled both = ap (λ (x : List ℕ). x ++ spelled entries) (whole_front start book whole node acts leads) ∙ sym (spelled_both before entries) in
    let size : whole + length (spelled entries) ≡ length (spelled both) = omega (arith, leads.at_is, ap length (spelled_both before entries), length-append (spelled before) (spelled entries)) in
    let none : drop (whole + length (spelled entries)) (take whole book ++ spelled entries) ≡ [] =
    ap (drop (whole + length (spelled entries))) (text ∙ sym (append-nil (spelled both))) ∙ drop_at (spelled both) [] (whole + length (spelled entries)) (sym size) in
    record {
      leads = record {
        entries = both;
        are = are_both before entries leads.are are;
        split = text ∙ sym (append-nil (spelled both)) ∙ ap (λ (x : List ℕ). spelled both ++ x) (sym none);
        at_is = size;
        replays = replays_both start before entries node reached acts more leads.replays then;
      };
      torn = subst IsFront (sym none) (nothing_torn (drop whole book) is.torn);
    }
