-- Boards of a list of which one goes, or gets another id.
use Rattle.std.proofs.Common.{Bool, List, None, Option, Some, [], ap, eq-eqb, eqb-true, false, inl, inr, refl, subst, sym, true, ℕ, ◌∙◌, ◌∷◌, ◌≡◌, ◌⊎◌}
use Rattle.std.proofs.lemmas.Bool.{false≢true}
use Rattle.board_record.specs.Record.{plain_record}
use Rattle.board_record.specs.declared.record.Record.{Record}
use Rattle.line_world.specs.FloorPlan.{has_id, with_new_id, without_board}
use Rattle.line_world.specs.declared.board.Board.{Board}
use Rattle.law_custody.specs.Hands.{BoardFor, BoardOut, board_here, board_later, for_here, for_later}
use Rattle.law_custody.proofs.HandsFloor.{with_new_id_is, without_board_is}
use Rattle.law_machine_custody.specs.Good.{Lies, lies_first, lies_later}
use Rattle.law_one_standing.specs.Standing.{AreOnce, once_more}

-- a board of an id
abbrev pub with_id : ℕ → Record
with_id id = plain_record id [] None

-- ---- the first board of an id is among those where it lies

pub record Out (id : ℕ) (boards : List Board) : Type 0 where
  pub left : List Board
  pub out : BoardOut (with_id id) boards left

has_own : (id : ℕ) (board : Board) → has_id id board ≡ true → board ≡ record { id = Some id }
has_own id board is = has_by board.id id is
  where
    has_by : (own : Option ℕ) (id : ℕ) → has_id id (record { id = own }) ≡ true → ◌≡◌ {A = Board} (record { id = own }) (record { id = Some id })
    has_by (Some own) id is = ap (λ (n : ℕ). record { id = Some n }) (eqb-true own id is)
    has_by None id is = absurd (false≢true is)

out_by : (id : ℕ) (board : Board) (boards : List Board) (has : Bool) → has_id id board ≡ has → (has ≡ false → Out id boards) → Out id (board ∷ boards)
out_by id board boards true is later = record { left = boards; out = subst (λ (b : Board). BoardOut (with_id id) (b ∷ boards) boards) (sym (has_own id board is)) board_here }
out_by id board boards false is later = let o = later refl in record { left = board ∷ o.left; out = board_later is o.out }

pub out_of : (id : ℕ) (boards : List Board) → Lies id boards → Out id boards
out_of id [] lies = elim lies [ ]
out_of id (board ∷ boards) (lies_later lies) = out_by id board boards (has_id id board) refl (λ other. out_of id boards lies)
out_of id (board ∷ boards) lies_first = out_by id board boards (has_id id board) refl (λ other. absurd (false≢true (sym other ∙ eq-eqb id id refl)))

pub record For (id new : ℕ) (boards : List Board) : Type 0 where
  pub now : List Board
  pub put : BoardFor (with_id id) (with_id new) boards now

for_by : (id new : ℕ) (board : Board) (boards : List Board) (has : Bool) → has_id id board ≡ has → (has ≡ false → For id new boards) → For id new (board ∷ boards)
for_by id new board boards true is later = record { now = record { id = Some new } ∷ boards; put = subst (λ (b : Board). BoardFor (with_id id) (with_id new) (b ∷ boards) (record { id = Some new } ∷ boards)) (sym (has_own id board is)) for_here }
for_by id new board boards false is later = let o = later refl in record { now = board ∷ o.now; put = for_later is o.put }

pub for_of : (id new : ℕ) (boards : List Board) → Lies id boards → For id new boards
for_of id new [] lies = elim lies [ ]
for_of id new (board ∷ boards) (lies_later lies) = for_by id new board boards (has_id id board) refl (λ other. for_of id new boards lies)
for_of id new (board ∷ boards) lies_first = for_by id new board boards (has_id id board) refl (λ other. absurd (false≢true (sym other ∙ eq-eqb id id refl)))

-- ---- what lies there then

lies_out : {q : Record} {x : ℕ} {bs cs : List Board} → BoardOut q bs cs → Lies x cs → Lies x bs
lies_out board_here lies = lies_later lies
lies_out (board_later other out) lies_first = lies_first
lies_out (board_later other out) (lies_later lies) = lies_later (lies_out out lies)

-- the board that went lies there no more
out_once : {q : Record} {bs cs : List Board} → BoardOut q bs cs → AreOnce bs → Lies q.id cs → ⊥
out_once {q = q} board_here (once_more front once) lies = front q.id refl lies
out_once {q = q} (board_later other out) (once_more front once) lies_first = false≢true (sym other ∙ eq-eqb q.id q.id refl)
out_once (board_later other out) (once_more front once) (lies_later lies) = out_once out once lies

lies_for : {q n : Record} {x : ℕ} {bs cs : List Board} → BoardFor q n bs cs → Lies x cs → Lies x bs ⊎ (x ≡ n.id)
lies_for for_here lies_first = inr refl
lies_for for_here (lies_later lies) = inl (lies_later lies)
lies_for (for_later other put) lies_first = inl lies_first
lies_for (for_later other put) (lies_later lies) = later (lies_for put lies)
  where
    later : {x y : ℕ} {b : Board} {bs : List Board} → Lies x bs ⊎ (x ≡ y) → Lies x (b ∷ bs) ⊎ (x ≡ y)
    later (inl lies) = inl (lies_later lies)
    later (inr is) = inr is

for_once : {q n : Record} {bs cs : List Board} → BoardFor q n bs cs → (q.id ≡ n.id → ⊥) → AreOnce bs → Lies q.id cs → ⊥
for_once for_here apart (once_more front once) lies_first = apart refl
for_once {q = q} for_here apart (once_more front once) (lies_later lies) = front q.id refl lies
for_once {q = q} (for_later other put) apart (once_more front once) lies_first = false≢true (sym other ∙ eq-eqb q.id q.id refl)
for_once (for_later other put) apart (once_more front once) (lies_later lies) = for_once put apart once lies

-- ---- by the functions of the floor

pub lies_without : (id x : ℕ) (boards : List Board) → Lies id boards → Lies x (without_board id boards) → Lies x boards
lies_without id x boards there lies = let o = out_of id boards there in lies_out o.out (subst (λ (bs : List Board). Lies x bs) (without_board_is o.out) lies)

pub gone_without : (id : ℕ) (boards : List Board) → Lies id boards → AreOnce boards → Lies id (without_board id boards) → ⊥
gone_without id boards there once lies = let o = out_of id boards there in out_once o.out once (subst (λ (bs : List Board). Lies id bs) (without_board_is o.out) lies)

pub lies_renamed : (id new x : ℕ) (boards : List Board) → Lies id boards → Lies x (with_new_id id new boards) → Lies x boards ⊎ (x ≡ new)
lies_renamed id new x boards there lies = let o = for_of id new boards there in lies_for o.put (subst (λ (bs : List Board). Lies x bs) (with_new_id_is o.put) lies)

pub gone_renamed : (id new : ℕ) (boards : List Board) → Lies id boards → (id ≡ new → ⊥) → AreOnce boards → Lies id (with_new_id id new boards) → ⊥
gone_renamed id new boards there apart once lies = let o = for_of id new boards there in for_once o.put apart once (subst (λ (bs : List Board). Lies id bs) (with_new_id_is o.put) lies)
