-- A WORKED ROW: the first lines of a report over two lanes, of a board that is put in on the first
-- lane, moved to the second one, and started and opened there, up to a sensor that told what was not
-- so; and what is read off them of each lane, whatever the board's id is.
use Rattle.std.specs.Prelude.{ℕ, ◌++◌, List, [], ◌∷◌, codes, ◌≡◌, ◌<◌, ◌^◌}
use Rattle.board_record.specs.BoardId.{id_text}
use Rattle.standings.specs.declared.deed.Deed.TheVariants.{Comes, Inserts, Opens, Removes, Starts}
use Rattle.law_report_ledger.specs.Deeds.{lane_deeds_in_report}

-- lines that end with the board's id
abbrev pub lines_of : List (List ℕ) → ℕ → List ℕ
lines_of [] id = []
lines_of (words ∷ others) id = (words ++ id_text id ++ codes "\n") ++ lines_of others id

abbrev pub row : ℕ → List ℕ
row id =
    lines_of
    (codes "6 insert 1 " ∷ codes "6 with 1 " ∷ codes "7 shift 1 1.2 " ∷ codes "7 with 1.2 "
    ∷ codes "12 starts 1.2 " ∷ codes "13 opens 1.2 " ∷ codes "13 between 1.2 " ∷ []) id
    ++ (codes "14 lie 1 out Left\n14 unvouched\n" ++ lines_of (codes "15 leaves 1.2 " ∷ []) id)

-- the first lane's ledger has the board no more, that of the second one has it in the handover
-- between its machines 1 and 2; a third one has nothing
pub record IsReadOffTheRow : Type 0 where
  pub first : (id : ℕ) → id < 2 ^ 128
      → lane_deeds_in_report 1 (row id) ≡ Inserts 1 id ∷ Removes 1 id ∷ []
  pub second : (id : ℕ) → id < 2 ^ 128
      → lane_deeds_in_report 2 (row id) ≡ Comes 1 id ∷ Starts 1 id ∷ Opens 1 id ∷ []
  pub third : (id : ℕ) → id < 2 ^ 128 → lane_deeds_in_report 3 (row id) ≡ []
