-- Rows that stand behind a test that passes, and what a board that settles does to a machine's list.
use Rattle.std.proofs.Common.{Bool, List, Option, Some, [], ap, eq-eqb, false, map, not, refl, true, ℕ, ◌++◌, ◌==◌, ◌∷◌, ◌≡◌}
use Rattle.board_record.specs.declared.record.Record.{Record}
use Rattle.handover_out.specs.Row.{row_if}
use Rattle.handover_out.specs.State.{OutState}
use Rattle.handover_out.specs.declared.act.OutAct.{OutAct}
use Rattle.handover_in.specs.Row.{InRow, only_if}
use Rattle.law_custody.specs.Pair.{board_of}

pub same : (x : ℕ) → (x == x) ≡ true
same x = eq-eqb x x refl

pub out_same : (z : ℕ) (s : OutState) (a : OutAct) → row_if (z == z) s a ≡ Some (record { after = s; act = a })
out_same z s a = rw (same z) refl

pub out_refused : {t : Bool} (s : OutState) (a : OutAct) → t ≡ false → row_if (not t) s a ≡ Some (record { after = s; act = a })
out_refused s a e = rw e refl

pub in_same : (z : ℕ) (row : Option InRow) → only_if (z == z) row ≡ row
in_same z row = rw (same z) refl

-- a board that settles
pub settled_last : (r : Record) (ks : List Record) → map board_of ks ++ (board_of r ∷ []) ≡ map board_of (ks ++ (r ∷ [])) ++ []
settled_last r [] = refl
settled_last r (k ∷ ks) = ap (λ xs. board_of k ∷ xs) (settled_last r ks)
