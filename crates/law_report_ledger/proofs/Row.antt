-- The worked row computes, but for its id.
use Rattle.std.proofs.Common.{◌≡◌, ◌∙◌, ap, ℕ, List, [], ◌∷◌, ◌++◌, append_assoc, codes, refl, Option, option_to_list}
use Rattle.board_record.specs.BoardId.{id_text}
use Rattle.machine_log.proofs.Inner.{inner}
use Rattle.machine_log.proofs.Solid.{inner_id, is_inner, join}
use Rattle.std.specs.Prelude.{option_map}
use Rattle.line_check.specs.LogLine.{entry_deed, exit_deed, id_of}
use Rattle.line_check.specs.declared.kind.EntryDeed.TheVariants as entries
use Rattle.line_check.specs.declared.kind.ExitDeed.TheVariants as exits
use Rattle.standings.specs.declared.deed.Deed.{Deed}
use Rattle.standings.specs.declared.deed.Deed.TheVariants.{Inserts}
use Rattle.law_report_ledger.specs.Deeds.{lane_deeds_in_report, lane_deeds_told, moved}
use Rattle.law_report_lines.specs.Lines.{ReportLine, line_of, lines_in}
use Rattle.law_report_ledger.specs.ReportLines.{vouched}
use Rattle.law_report_ledger.specs.Row.{lines_of, IsReadOffTheRow, row}
use Rattle.law_report_ledger.proofs.Deeds.{id_read}
use Rattle.law_report_lines.proofs.Lines.{line_read}

pub one_read : (words : List ℕ) (id : ℕ) (rest : List ℕ) → inner words → lines_in ((words ++ id_text id ++ codes "\n") ++ rest) ≡ line_of (words ++ id_text id) ∷ lines_in rest
one_read words id rest w =
    ap lines_in (append_assoc (words ++ id_text id) (codes "\n") rest)
    ∙ line_read [] (words ++ id_text id) rest (join is_inner words (id_text id) w (inner_id id))

abbrev pub at : ℕ → List ℕ → ReportLine
at id words = line_of (words ++ id_text id)

pub more_read : (words : List ℕ) (others : List (List ℕ)) (id : ℕ) (rest : List ℕ) → inner words → lines_in (lines_of (words ∷ others) id ++ rest) ≡ at id words ∷ lines_in (lines_of others id ++ rest)
more_read words others id rest w = ap lines_in (append_assoc (words ++ id_text id ++ codes "\n") (lines_of others id) rest) ∙ one_read words id (lines_of others id ++ rest) w

abbrev last : ℕ → List ℕ
last id = codes "14 lie 1 out Left\n14 unvouched\n" ++ lines_of (codes "15 leaves 1.2 " ∷ []) id

abbrev last_rows : ℕ → List ReportLine
last_rows id =
    line_of (codes "14 lie 1 out Left") ∷ line_of (codes "14 unvouched")
    ∷ at id (codes "15 leaves 1.2 ") ∷ []

last_read : (id : ℕ) → lines_in (last id) ≡ last_rows id
last_read id =
    ap (λ (l : List ReportLine). line_of (codes "14 lie 1 out Left")
    ∷ line_of (codes "14 unvouched") ∷ l) (one_read (codes "15 leaves 1.2 ") id [] refl)

-- each of some lines is read, where what stands behind them is
abbrev rows_of : ℕ → List (List ℕ) → List ReportLine → List ReportLine
rows_of id [] later = later
rows_of id (words ∷ others) later = at id words ∷ rows_of id others later

abbrev AreInner : List (List ℕ) → Type 0
AreInner [] = Unit {0}
AreInner (words ∷ others) = inner words × AreInner others

all_read : (id : ℕ) (lists : List (List ℕ)) (rest : List ℕ) → AreInner lists
    → lines_in (lines_of lists id ++ rest) ≡ rows_of id lists (lines_in rest)
all_read id [] rest solid = refl
all_read id (words ∷ others) rest solid =
    more_read words others id rest solid.0
    ∙ ap (λ (l : List ReportLine). at id words ∷ l) (all_read id others rest solid.1)

abbrev firsts : List (List ℕ)
firsts =
    codes "6 insert 1 " ∷ codes "6 with 1 " ∷ codes "7 shift 1 1.2 " ∷ codes "7 with 1.2 "
    ∷ codes "12 starts 1.2 " ∷ codes "13 opens 1.2 " ∷ codes "13 between 1.2 " ∷ []

rows_read : (id : ℕ) → lines_in (row id) ≡ rows_of id firsts (last_rows id)
rows_read id =
    all_read id firsts (last id) (refl, (refl, (refl, (refl, (refl, (refl, (refl, tt)))))))
    ∙ ap (rows_of id firsts) (last_read id)

-- the deeds of a lane, by what the word spells
abbrev first_by : Option ℕ → List Deed
first_by spelled =
    option_to_list (option_map (Inserts 1) spelled) ++ (moved 1 (codes "1") (codes "1.2") spelled ++ [])

abbrev second_by : Option ℕ → List Deed
second_by spelled =
    moved 2 (codes "1") (codes "1.2") spelled
    ++ (option_to_list (option_map (entry_deed entries.Starts 1) spelled)
    ++ (option_to_list (option_map (exit_deed exits.Opens 1) spelled) ++ []))

abbrev third_by : Option ℕ → List Deed
third_by spelled = moved 3 (codes "1") (codes "1.2") spelled ++ []

first_computed : (id : ℕ)
    → lane_deeds_told 1 (vouched (rows_of id firsts (last_rows id))) ≡ first_by (id_of (id_text id))
first_computed id = refl

second_computed : (id : ℕ)
    → lane_deeds_told 2 (vouched (rows_of id firsts (last_rows id))) ≡ second_by (id_of (id_text id))
second_computed id = refl

third_computed : (id : ℕ)
    → lane_deeds_told 3 (vouched (rows_of id firsts (last_rows id))) ≡ third_by (id_of (id_text id))
third_computed id = refl

rows_told : (lane id : ℕ)
    → lane_deeds_in_report lane (row id)
    ≡ lane_deeds_told lane (vouched (rows_of id firsts (last_rows id)))
rows_told lane id = ap (λ (l : List ReportLine). lane_deeds_told lane (vouched l)) (rows_read id)

pub is_read_off_the_row : IsReadOffTheRow
is_read_off_the_row = record {
  first = λ id fits. rows_told 1 id ∙ first_computed id ∙ ap first_by (id_read id fits);
  second = λ id fits. rows_told 2 id ∙ second_computed id ∙ ap second_by (id_read id fits);
  third = λ id fits. rows_told 3 id ∙ third_computed id ∙ ap third_by (id_read id fits);
}
