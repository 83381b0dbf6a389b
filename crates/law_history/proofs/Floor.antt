-- What a machine's step leaves of the floor: what lies in each gap, the boards in each list but those that go by hand, and no
-- sensor event that the machine has not read.
use Rattle.std.proofs.Common.{Bool, List, None, Option, Some, [], ap, arith, false, inl, inr, length, eq-eqb, refl, suc, subst, sym, true, zero, ℕ, ◌&&◌, ◌++◌, ◌-◌, ◌<◌, ◌==◌, ◌∙◌, ◌∷◌, ◌≡◌, ◌≢◌, ◌≤◌, ◌⊎◌}
use Rattle.std.specs.Prelude.{nat_lt, not, remove, slice_set}
use Rattle.std.proofs.lemmas.Bool.{not-true, and_parts}
use Rattle.line_world.proofs.Keeping.{drive_lies, none_behind}
use Rattle.line_step.proofs.OnFloor.{sent-floor}
use Rattle.line_step.proofs.Counting.{machine_places}
use Rattle.line_base.specs.declared.states.Side.{Side}
use Rattle.hermes_horizontal.specs.Canonical.{canonical}
use Rattle.hermes_horizontal.specs.declared.message.Message.{Message}
use Rattle.line_world.specs.FloorPlan.{AtMachine, FloorPlan, empty_machine, gap_at, machine_at, place_of, with_boards, with_drive, with_gap, with_machine, with_new_id, without_board}
use Rattle.line_world.specs.declared.board.Board.{Board}
use Rattle.line_world.specs.declared.gap.AtGap.{AtGap}
use Rattle.node_core.specs.declared.act.Act.{Act}
use Rattle.node_core.specs.declared.act.Act.TheVariants as acts
use Rattle.node_core.specs.declared.act.Deed.{Deed}
use Rattle.node_core.specs.declared.act.Deed.TheVariants as deeds
use Rattle.line_link.specs.Link.{LinkParts, after_answer, after_close, after_send}
use Rattle.law_machine_custody.specs.Good.{Lies, lies_first, lies_later}
use Rattle.line_step.specs.Acts.{act_did, counted, acts_did, answers, sent_by}
use Rattle.line_step.specs.Steps.{read_by}
use Rattle.line_step.specs.World.{WorldParts, end_of, link_at, link_of, with_link}
use Rattle.line_step.proofs.Floors.{gap_other, gap_own, gap_past, gaps_stay, place_other, place_own, places_stay}
use Rattle.line_step.proofs.Numbers.{floor_stays, same_or_not, beyond_or_not}

-- ---- what lies in the gaps

own_lies : (plan : FloorPlan) (gap : ℕ) (now : AtGap) → now.lies ≡ (gap_at plan gap).lies → (gap_at (with_gap plan gap now) gap).lies ≡ (gap_at plan gap).lies
own_lies plan zero now same = refl
own_lies plan (suc place) now same = by (beyond_or_not (suc place) (length plan.gaps)) where
  by : (suc place ≤ length plan.gaps) ⊎ (length plan.gaps < suc place) → (gap_at (with_gap plan (suc place) now) (suc place)).lies ≡ (gap_at plan (suc place)).lies
  by (inl within) = ap (λ (g : AtGap). g.lies) (gap_own plan (suc place) now (omega arith) within) ∙ same
  by (inr past) = ap (λ (g : AtGap). g.lies) (gap_past plan (suc place) now past)

gap_lies : (plan : FloorPlan) (gap other : ℕ) (now : AtGap) → now.lies ≡ (gap_at plan gap).lies → (gap_at (with_gap plan gap now) other).lies ≡ (gap_at plan other).lies
gap_lies plan gap other now same = by (same_or_not other gap) where
  by : (other ≡ gap) ⊎ (other ≢ gap) → (gap_at (with_gap plan gap now) other).lies ≡ (gap_at plan other).lies
  by (inl is) = subst (λ (k : ℕ). (gap_at (with_gap plan gap now) k).lies ≡ (gap_at plan k).lies) (sym is) (own_lies plan gap now same)
  by (inr apart) = ap (λ (g : AtGap). g.lies) (gap_other plan gap other now apart)

link_floor : (link : ℕ) (parts : LinkParts) (world : WorldParts) (gap : ℕ) → (gap_at (with_link link parts world).floor gap).lies ≡ (gap_at world.floor gap).lies
link_floor link parts world gap = ap (λ (f : FloorPlan). (gap_at f gap).lies) (floor_stays link parts world)

sent_lies : (answer : Bool) (machine : ℕ) (side : Side) (message : Message) (world : WorldParts) (gap : ℕ) → (gap_at (sent_by answer machine side message world).world.floor gap).lies ≡ (gap_at world.floor gap).lies
sent_lies true machine side message world gap = link_floor machine (after_answer (canonical message) (link_at machine world)) world gap
sent_lies false machine side message world gap = link_floor (link_of machine side) (after_send (end_of side) (canonical message) (link_at (link_of machine side) world)) world gap

boards_lies : (plan : FloorPlan) (machine : ℕ) (boards : List Board) (gap : ℕ) → (gap_at (with_boards plan machine boards) gap).lies ≡ (gap_at plan gap).lies
boards_lies plan machine boards gap = ap (λ (g : AtGap). g.lies) (gaps_stay plan machine gap (record (machine_at plan machine) { boards = boards }))

deed_floor : (deed : Deed) (world : WorldParts) → (counted deed world).floor ≡ world.floor
deed_floor (deeds.Opens id) world = refl
deed_floor _ world = refl

act_lies : (second : Bool) (machine : ℕ) (act : Act) (world : WorldParts) (gap : ℕ) → (gap_at (act_did second machine act world).world.floor gap).lies ≡ (gap_at world.floor gap).lies
act_lies second machine (acts.Sends side message) world gap = sent_lies (answers second side message) machine side message world gap
act_lies second machine (acts.Closes side) world gap = link_floor (link_of machine side) (after_close (end_of side) (link_at (link_of machine side) world)) world gap
act_lies second machine (acts.Notices side) world gap = link_floor (link_of machine side) (after_close (end_of side) (link_at (link_of machine side) world)) world gap
act_lies second machine (acts.Drive side on) world gap =
    let own = gap_at world.floor (link_of machine side) in
    gap_lies world.floor (link_of machine side) gap (with_drive own side on) (drive_lies own side on)
act_lies second machine (acts.Inserts id) world gap = boards_lies world.floor machine _ gap
act_lies second machine (acts.Removes id) world gap = boards_lies world.floor machine _ gap
act_lies second machine (acts.Replaces old new) world gap = boards_lies world.floor machine _ gap
act_lies second machine (acts.Gives id to) world gap = boards_lies world.floor machine _ gap
act_lies second machine (acts.Gets id) world gap = boards_lies world.floor machine _ gap
act_lies second machine (acts.Deed deed) world gap = ap (λ (f : FloorPlan). (gap_at f gap).lies) (deed_floor deed world)
act_lies second machine _ world gap = refl

pub acts_lies : (second : Bool) (machine : ℕ) (told : List Act) (world : WorldParts) (gap : ℕ) → (gap_at (acts_did second machine told world).world.floor gap).lies ≡ (gap_at world.floor gap).lies
acts_lies second machine [] world gap = refl
acts_lies second machine (act ∷ told) world gap = acts_lies second machine told (act_did second machine act world).world gap ∙ act_lies second machine act world gap

pub read_lies : (machine : ℕ) (world : WorldParts) (gap : ℕ) → (gap_at (read_by machine world).floor gap).lies ≡ (gap_at world.floor gap).lies
read_lies machine world gap = ap (λ (g : AtGap). g.lies) (gaps_stay world.floor machine gap (record (machine_at world.floor machine) { unread = [] }))

-- ---- what is at the machines

-- a machine that isn't there doesn't change
own_place : (P : AtMachine → Type 0) (plan : FloorPlan) (machine : ℕ) (now : AtMachine) → P now → (machine_at plan machine ≡ empty_machine → P empty_machine) → P (machine_at (with_machine plan machine now) machine)
own_place P plan zero now own past = past refl
own_place P plan (suc place) now own past = by (beyond_or_not (suc place) (length plan.machines)) where
  by : (suc place ≤ length plan.machines) ⊎ (length plan.machines < suc place) → P (machine_at (with_machine plan (suc place) now) (suc place))
  by (inl within) = subst P (sym (place_own plan (suc place) now (omega arith) within)) own
  by (inr behind) =
      let same : length (with_machine plan (suc place) now).machines ≡ length plan.machines = machine_places (nat_lt 0 (suc place)) plan (suc place - 1) now in
      subst P (sym (none_behind (with_machine plan (suc place) now) (suc place) (omega (arith, behind, same)))) (past (none_behind plan (suc place) behind))

boards_unread : (plan : FloorPlan) (machine : ℕ) (boards : List Board) (other : ℕ) → (machine_at (with_boards plan machine boards) other).unread ≡ (machine_at plan other).unread
boards_unread plan machine boards other = by (same_or_not other machine) where
  by : (other ≡ machine) ⊎ (other ≢ machine) → (machine_at (with_boards plan machine boards) other).unread ≡ (machine_at plan other).unread
  by (inl is) =
      subst (λ (k : ℕ). (machine_at (with_boards plan machine boards) k).unread ≡ (machine_at plan k).unread) (sym is)
      (own_place (λ (a : AtMachine). a.unread ≡ (machine_at plan machine).unread) plan machine (record (machine_at plan machine) { boards = boards }) refl (λ none. ap (λ (a : AtMachine). a.unread) (sym none)))
  by (inr apart) = ap (λ (a : AtMachine). a.unread) (place_other plan machine other (record (machine_at plan machine) { boards = boards }) apart)

act_unread : (second : Bool) (machine : ℕ) (act : Act) (world : WorldParts) (other : ℕ) → (machine_at (act_did second machine act world).world.floor other).unread ≡ (machine_at world.floor other).unread
act_unread second machine (acts.Sends side message) world other = ap (λ (f : FloorPlan). (machine_at f other).unread) (sent-floor (answers second side message) machine side message world)
act_unread second machine (acts.Closes side) world other = ap (λ (f : FloorPlan). (machine_at f other).unread) (floor_stays (link_of machine side) (after_close (end_of side) (link_at (link_of machine side) world)) world)
act_unread second machine (acts.Notices side) world other = ap (λ (f : FloorPlan). (machine_at f other).unread) (floor_stays (link_of machine side) (after_close (end_of side) (link_at (link_of machine side) world)) world)
act_unread second machine (acts.Drive side on) world other = ap (λ (a : AtMachine). a.unread) (places_stay world.floor (link_of machine side) other (with_drive (gap_at world.floor (link_of machine side)) side on))
act_unread second machine (acts.Inserts id) world other = boards_unread world.floor machine _ other
act_unread second machine (acts.Removes id) world other = boards_unread world.floor machine _ other
act_unread second machine (acts.Replaces old new) world other = boards_unread world.floor machine _ other
act_unread second machine (acts.Gives id to) world other = boards_unread world.floor machine _ other
act_unread second machine (acts.Gets id) world other = boards_unread world.floor machine _ other
act_unread second machine (acts.Deed deed) world other = ap (λ (f : FloorPlan). (machine_at f other).unread) (deed_floor deed world)
act_unread second machine _ world other = refl

acts_unread : (second : Bool) (machine : ℕ) (told : List Act) (world : WorldParts) (other : ℕ) → (machine_at (acts_did second machine told world).world.floor other).unread ≡ (machine_at world.floor other).unread
acts_unread second machine [] world other = refl
acts_unread second machine (act ∷ told) world other = acts_unread second machine told (act_did second machine act world).world other ∙ act_unread second machine act world other

-- a machine that has made its step has read all events
pub none_unread : (second : Bool) (machine : ℕ) (told : List Act) (world : WorldParts) → (machine_at (acts_did second machine told (read_by machine world)).world.floor machine).unread ≡ []
none_unread second machine told world =
    acts_unread second machine told (read_by machine world) machine
    ∙ own_place (λ (a : AtMachine). a.unread ≡ []) world.floor machine (record (machine_at world.floor machine) { unread = [] }) refl (λ none. refl)

-- ---- the boards of each list

-- no act puts this id on a board
abbrev pub makes_not : ℕ → Act → Bool
makes_not x (acts.Inserts id) = not (id == x)
makes_not x (acts.Replaces old new) = not (new == x)
makes_not x (acts.Gets id) = not (id == x)
makes_not x _ = true

abbrev pub make_not : ℕ → List Act → Bool
make_not x [] = true
make_not x (act ∷ told) = makes_not x act && make_not x told

lies_last : {x : ℕ} (y : ℕ) (boards : List Board) → (y == x) ≡ false → Lies x (boards ++ record { id = Some y } ∷ []) → Lies x boards
lies_last {x = x} y [] apart lies_first = absurd (let no_way : true ≡ false = sym (eq-eqb x x refl) ∙ apart in cc)
lies_last y [] apart (lies_later lies) = elim lies [ ]
lies_last y (b ∷ boards) apart lies_first = lies_first
lies_last y (b ∷ boards) apart (lies_later lies) = lies_later (lies_last y boards apart lies)

lies_removed : {x : ℕ} (boards : List Board) (place : ℕ) → Lies x (remove boards place) → Lies x boards
lies_removed [] zero lies = elim lies [ ]
lies_removed [] (suc place) lies = elim lies [ ]
lies_removed (b ∷ boards) zero lies = lies_later lies
lies_removed (b ∷ boards) (suc place) lies_first = lies_first
lies_removed (b ∷ boards) (suc place) (lies_later lies) = lies_later (lies_removed boards place lies)

lies_without : (x id : ℕ) (boards : List Board) → Lies x (without_board id boards) → Lies x boards
lies_without x id boards lies = by (place_of id boards) refl lies where
  by : (found : Option ℕ) → place_of id boards ≡ found → Lies x (elim found [ None ↦ boards | Some place ↦ remove boards place ]) → Lies x boards
  by None is l = l
  by (Some place) is l = lies_removed boards place l

lies_set : {x : ℕ} (new : ℕ) (boards : List Board) (place : ℕ) → (new == x) ≡ false → Lies x (slice_set boards place (record { id = Some new })) → Lies x boards
lies_set new [] place apart lies = lies
lies_set {x = x} new (b ∷ boards) zero apart lies_first = absurd (let no_way : true ≡ false = sym (eq-eqb x x refl) ∙ apart in cc)
lies_set new (b ∷ boards) zero apart (lies_later lies) = lies_later lies
lies_set new (b ∷ boards) (suc place) apart lies_first = lies_first
lies_set new (b ∷ boards) (suc place) apart (lies_later lies) = lies_later (lies_set new boards place apart lies)

lies_renamed : (x old new : ℕ) (boards : List Board) → (new == x) ≡ false → Lies x (with_new_id old new boards) → Lies x boards
lies_renamed x old new boards apart lies = by (place_of old boards) refl lies where
  by : (found : Option ℕ) → place_of old boards ≡ found → Lies x (elim found [ None ↦ boards | Some place ↦ slice_set boards place (record { id = Some new }) ]) → Lies x boards
  by None is l = l
  by (Some place) is l = lies_set new boards place apart l

none_lies : {x : ℕ} {X : Type 0} → Lies x [] → X
none_lies lies = elim lies [ ]

boards_lists : (x : ℕ) (plan : FloorPlan) (machine : ℕ) (boards : List Board) (other : ℕ) → (Lies x boards → Lies x (machine_at plan machine).boards) → Lies x (machine_at (with_boards plan machine boards) other).boards → Lies x (machine_at plan other).boards
boards_lists x plan machine boards other less = by (same_or_not other machine) where
  by : (other ≡ machine) ⊎ (other ≢ machine) → Lies x (machine_at (with_boards plan machine boards) other).boards → Lies x (machine_at plan other).boards
  by (inl is) =
      subst (λ (k : ℕ). Lies x (machine_at (with_boards plan machine boards) k).boards → Lies x (machine_at plan k).boards) (sym is)
      (own_place (λ (a : AtMachine). Lies x a.boards → Lies x (machine_at plan machine).boards) plan machine (record (machine_at plan machine) { boards = boards }) less (λ none l. none_lies l))
  by (inr apart) = λ l. subst (λ (a : AtMachine). Lies x a.boards) (place_other plan machine other (record (machine_at plan machine) { boards = boards }) apart) l

act_lists : (x : ℕ) (second : Bool) (machine : ℕ) (act : Act) (world : WorldParts) (other : ℕ) → makes_not x act ≡ true → Lies x (machine_at (act_did second machine act world).world.floor other).boards → Lies x (machine_at world.floor other).boards
act_lists x second machine (acts.Sends side message) world other new lies = subst (λ (f : FloorPlan). Lies x (machine_at f other).boards) (sent-floor (answers second side message) machine side message world) lies
act_lists x second machine (acts.Closes side) world other new lies = subst (λ (f : FloorPlan). Lies x (machine_at f other).boards) (floor_stays (link_of machine side) (after_close (end_of side) (link_at (link_of machine side) world)) world) lies
act_lists x second machine (acts.Notices side) world other new lies = subst (λ (f : FloorPlan). Lies x (machine_at f other).boards) (floor_stays (link_of machine side) (after_close (end_of side) (link_at (link_of machine side) world)) world) lies
act_lists x second machine (acts.Drive side on) world other new lies = subst (λ (a : AtMachine). Lies x a.boards) (places_stay world.floor (link_of machine side) other (with_drive (gap_at world.floor (link_of machine side)) side on)) lies
act_lists x second machine (acts.Inserts id) world other new lies = boards_lists x world.floor machine _ other (λ l. lies_last id (machine_at world.floor machine).boards (not-true (id == x) new) l) lies
act_lists x second machine (acts.Removes id) world other new lies = boards_lists x world.floor machine _ other (λ l. lies_without x id (machine_at world.floor machine).boards l) lies
act_lists x second machine (acts.Gives id to) world other new lies = boards_lists x world.floor machine _ other (λ l. lies_without x id (machine_at world.floor machine).boards l) lies
act_lists x second machine (acts.Gets id) world other new lies = boards_lists x world.floor machine _ other (λ l. lies_last id (machine_at world.floor machine).boards (not-true (id == x) new) l) lies
act_lists x second machine (acts.Replaces old now) world other new lies = boards_lists x world.floor machine _ other (λ l. lies_renamed x old now (machine_at world.floor machine).boards (not-true (now == x) new) l) lies
act_lists x second machine (acts.Deed deed) world other new lies = subst (λ (f : FloorPlan). Lies x (machine_at f other).boards) (deed_floor deed world) lies
act_lists x second machine _ world other new lies = lies

pub acts_lists : (x : ℕ) (second : Bool) (machine : ℕ) (told : List Act) (world : WorldParts) (other : ℕ) → make_not x told ≡ true → Lies x (machine_at (acts_did second machine told world).world.floor other).boards → Lies x (machine_at world.floor other).boards
acts_lists x second machine [] world other new lies = lies
acts_lists x second machine (act ∷ told) world other new lies =
    act_lists x second machine act world other (and_parts (makes_not x act) (make_not x told) new).0
    (acts_lists x second machine told (act_did second machine act world).world other (and_parts (makes_not x act) (make_not x told) new).1 lies)

pub read_lists : (x machine : ℕ) (world : WorldParts) (other : ℕ) → Lies x (machine_at (read_by machine world).floor other).boards → Lies x (machine_at world.floor other).boards
read_lists x machine world other = by (same_or_not other machine) where
  now : AtMachine
  now = record (machine_at world.floor machine) { unread = [] }

  by : (other ≡ machine) ⊎ (other ≢ machine) → Lies x (machine_at (with_machine world.floor machine now) other).boards → Lies x (machine_at world.floor other).boards
  by (inl is) =
      subst (λ (k : ℕ). Lies x (machine_at (with_machine world.floor machine now) k).boards → Lies x (machine_at world.floor k).boards) (sym is)
      (own_place (λ (a : AtMachine). Lies x a.boards → Lies x (machine_at world.floor machine).boards) world.floor machine now (λ l. l) (λ none l. none_lies l))
  by (inr apart) = λ l. subst (λ (a : AtMachine). Lies x a.boards) (place_other world.floor machine other now apart) l
