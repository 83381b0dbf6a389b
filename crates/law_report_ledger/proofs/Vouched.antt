-- Of a report's lines over several lanes those that are vouched for are those of the honest lines of
-- its script.
use Rattle.std.proofs.Common.{◌≡◌, ◌∙◌, ap, refl, ℕ, ◌==◌, ◌&&◌, ◌||◌, Bool, true, false, List, [], ◌∷◌, Option, Some, if◌then◌else◌, sym, ◌+◌, ◌<◌, ◌≤◌, ◌++◌, append_assoc, append-nil, arith}
use Rattle.std.proofs.lemmas.Bool.{eq-eqb, ne_eqb, or_parts}
use Rattle.line_report.specs.declared.happening.LaneHappening.{LaneHappening}
use Rattle.line_step.specs.Lies.{is_lie}
use Rattle.law_lanes.specs.Lanes.{Lanes, lines_of}
use Rattle.law_lanes.specs.Parts.{LanePoint}
use Rattle.law_lanes.specs.Views.{tells_lie_on}
use Rattle.law_report_lines.specs.Lines.{AreUnnumbered, ReportLine}
use Rattle.law_report_ledger.specs.Ledgers.{honest_on}
use Rattle.law_report_ledger.specs.ReportLines.{has_number, lies_at, tells_lie, vouched}
use Rattle.law_report_ledger.proofs.Deeds.{happening_lies}
use Rattle.law_report_ledger.proofs.Lines.{line_with, lines_told, run_lines, text_of}

-- ---- the lies of a number

pub same_number : (number : ℕ) → (number == number) ≡ true
same_number number = eq-eqb number number refl

pub unnumbered_silent : (number : ℕ) (tail : List ReportLine) → AreUnnumbered tail → lies_at (Some number) tail ≡ false
unnumbered_silent number [] none = refl
unnumbered_silent number (line ∷ tail) none =
    ap (λ (n : Option ℕ). (has_number number n && tells_lie line.text) || lies_at (Some number) tail) none.0
    ∙ unnumbered_silent number tail none.1

-- what is told without a lie
pub line_silent : (same lies rest : Bool) → lies ≡ false → rest ≡ false → ((same && lies) || rest) ≡ false
line_silent true lies rest none silent = rw none silent
line_silent false lies rest none silent = silent

-- of the lines of that number
lies_told : (number : ℕ) (told : List LaneHappening) (later : List ReportLine) → lies_at (Some number) later ≡ false → lies_at (Some number) (lines_told number told ++ later) ≡ tells_lie_on told
lies_told number [] later silent = silent
lies_told number (happening ∷ told) later silent =
    let rest = lies_at (Some number) (lines_told number told ++ later) in
    ap (λ (b : Bool). (b && tells_lie (text_of happening)) || rest) (same_number number)
    ∙ ap (λ (b : Bool). b || rest) (happening_lies happening)
    ∙ ap (λ (b : Bool). is_lie happening.what || b) (lies_told number told later silent)

-- and of those of others
others_silent : (number other : ℕ) (told : List LaneHappening) (later : List ReportLine) → (other == number) ≡ false → lies_at (Some number) later ≡ false → lies_at (Some number) (lines_told other told ++ later) ≡ false
others_silent number other [] later differ silent = silent
others_silent number other (happening ∷ told) later differ silent =
    ap (λ (b : Bool). (b && tells_lie (text_of happening)) || lies_at (Some number) (lines_told other told ++ later)) differ
    ∙ others_silent number other told later differ silent

honest_silent : (number other : ℕ) (told : List LaneHappening) (later : List ReportLine) → tells_lie_on told ≡ false → lies_at (Some number) later ≡ false → lies_at (Some number) (lines_told other told ++ later) ≡ false
honest_silent number other [] later none silent = silent
honest_silent number other (happening ∷ told) later none silent =
    let parts = or_parts (is_lie happening.what) (tells_lie_on told) none in
    line_silent (other == number) (tells_lie (text_of happening)) (lies_at (Some number) (lines_told other told ++ later)) (happening_lies happening ∙ parts.0) (honest_silent number other told later parts.1 silent)

-- ---- a point that tells what was not so has its number alone

-- no point before it has it (`last` is the number of the last one), and the count goes on behind it; and no count falls
pub record IsAlone (last : ℕ) (s : Lanes) (point : LanePoint) : Type 0 where
  pub lying : tells_lie_on point.told ≡ true → (last < lines_of s + 1) × (lines_of point.after ≡ lines_of s + 1)
  pub rises : lines_of s ≤ lines_of point.after

abbrev pub AreAlone : ℕ → Lanes → List LanePoint → Type 0
AreAlone last s [] = Unit {0}
AreAlone last s (point ∷ points) = IsAlone last s point × AreAlone (lines_of s + 1) point.after points

-- nothing lies under a number that went before
later_silent : (number last : ℕ) (s : Lanes) (points : List LanePoint) (tail : List ReportLine) → AreAlone last s points → number < lines_of s + 1 → AreUnnumbered tail → lies_at (Some number) (run_lines (lines_of s + 1) points ++ tail) ≡ false
later_silent number last s [] tail alone less none = unnumbered_silent number tail none
later_silent number last s (point ∷ points) tail alone less none =
    let rises = alone.0.rises in
    ap (lies_at (Some number)) (append_assoc (lines_told (lines_of s + 1) point.told) (run_lines (lines_of point.after + 1) points) tail)
    ∙ others_silent number (lines_of s + 1) point.told (run_lines (lines_of point.after + 1) points ++ tail) (ne_eqb (lines_of s + 1) number (λ same. absurd (omega (arith, same, less))))
    (later_silent number (lines_of s + 1) point.after points tail alone.1 (omega (arith, less, rises)) none)

-- nor under that of a point that goes on
going_silent : (number last : ℕ) (s : Lanes) (points : List LanePoint) (tail : List ReportLine) → AreAlone last s points → number ≤ last → number ≤ lines_of s + 1 → AreUnnumbered tail → lies_at (Some number) (run_lines (lines_of s + 1) points ++ tail) ≡ false
going_silent number last s [] tail alone old within none = unnumbered_silent number tail none
going_silent number last s (point ∷ points) tail alone old within none =
    let rises = alone.0.rises in
    let later = run_lines (lines_of point.after + 1) points ++ tail in
    let silent : lies_at (Some number) later ≡ false = going_silent number (lines_of s + 1) point.after points tail alone.1 within (omega (arith, within, rises)) none in
    ap (lies_at (Some number)) (append_assoc (lines_told (lines_of s + 1) point.told) (run_lines (lines_of point.after + 1) points) tail)
    ∙ by (tells_lie_on point.told) refl later silent where
      by : (lies : Bool) → tells_lie_on point.told ≡ lies → (later : List ReportLine) → lies_at (Some number) later ≡ false → lies_at (Some number) (lines_told (lines_of s + 1) point.told ++ later) ≡ false
      by true lying later silent =
          let first = (alone.0.lying lying).0 in
          others_silent number (lines_of s + 1) point.told later (ne_eqb (lines_of s + 1) number (λ same. absurd (omega (arith, same, first, old)))) silent
      by false honest later silent = honest_silent number (lines_of s + 1) point.told later honest silent

-- ---- what is vouched for

pub vouched_line : (number : Option ℕ) (text : List ℕ) (later : List ReportLine) → lies_at number (line_with number text ∷ later) ≡ false → vouched (line_with number text ∷ later) ≡ line_with number text ∷ vouched later
vouched_line number text later honest = ap (λ (b : Bool). if b then [] else line_with number text ∷ vouched later) honest

pub vouched_unnumbered : (tail : List ReportLine) → AreUnnumbered tail → vouched tail ≡ tail
vouched_unnumbered [] none = refl
vouched_unnumbered (line ∷ tail) none =
    ap (λ (n : Option ℕ). if lies_at n (line ∷ tail) then [] else line ∷ vouched tail) none.0
    ∙ ap (λ (l : List ReportLine). line ∷ l) (vouched_unnumbered tail none.1)

vouched_told : (number : ℕ) (told : List LaneHappening) (later : List ReportLine) → lies_at (Some number) later ≡ false → tells_lie_on told ≡ false → vouched (lines_told number told ++ later) ≡ lines_told number told ++ vouched later
vouched_told number [] later silent honest = refl
vouched_told number (happening ∷ told) later silent honest =
    let parts = or_parts (is_lie happening.what) (tells_lie_on told) honest in
    vouched_line (Some number) (text_of happening) (lines_told number told ++ later) (lies_told number (happening ∷ told) later silent ∙ honest)
    ∙ ap (λ (l : List ReportLine). line_with (Some number) (text_of happening) ∷ l) (vouched_told number told later silent parts.1)

vouched_lying : (number : ℕ) (told : List LaneHappening) (later : List ReportLine) → lies_at (Some number) later ≡ false → tells_lie_on told ≡ true → vouched (lines_told number told ++ later) ≡ []
vouched_lying number [] later silent lying = absurd (let h : false ≡ true = lying in cc)
vouched_lying number (happening ∷ told) later silent lying =
    ap (λ (b : Bool). if b then [] else line_with (Some number) (text_of happening) ∷ vouched (lines_told number told ++ later)) (lies_told number (happening ∷ told) later silent ∙ lying)

-- the lines of the honest_on points, and behind them the last line or nothing
pub record Vouches (number : ℕ) (points : List LanePoint) (tail : List ReportLine) : Type 0 where
  pub rest : List ReportLine
  pub none : AreUnnumbered rest
  pub is : vouched (run_lines number points ++ tail) ≡ run_lines number (honest_on points) ++ rest

-- one point more, by whether it lies
vouched_more : (last : ℕ) (s : Lanes) (point : LanePoint) (points : List LanePoint) (tail : List ReportLine) → AreAlone last s (point ∷ points) → AreUnnumbered tail → Vouches (lines_of point.after + 1) points tail → (lies : Bool) → tells_lie_on point.told ≡ lies → Vouches (lines_of s + 1) (point ∷ points) tail
vouched_more last s point points tail alone none behind true lying =
    let number = lines_of s + 1 in
    let later : List ReportLine = run_lines (lines_of point.after + 1) points ++ tail in
    let next = (alone.0.lying lying).1 in
    let silent : lies_at (Some number) later ≡ false = later_silent number (lines_of s + 1) point.after points tail alone.1 (omega (arith, next)) none in
    let whole : vouched (run_lines number (point ∷ points) ++ tail) ≡ vouched (lines_told number point.told ++ later) = ap vouched (append_assoc (lines_told number point.told) (run_lines (lines_of point.after + 1) points) tail) in
    let cut : honest_on (point ∷ points) ≡ [] = ap (λ (c : Bool). if c then [] else point ∷ honest_on points) lying in
    record {
      rest = [];
      none = tt;
      is = whole ∙ vouched_lying number point.told later silent lying ∙ sym (append-nil (run_lines number (honest_on (point ∷ points))) ∙ ap (run_lines number) cut);
    }
vouched_more last s point points tail alone none behind false honesty =
    let number = lines_of s + 1 in
    let later : List ReportLine = run_lines (lines_of point.after + 1) points ++ tail in
    let rises = alone.0.rises in
    let silent : lies_at (Some number) later ≡ false = going_silent number (lines_of s + 1) point.after points tail alone.1 (omega arith) (omega (arith, rises)) none in
    let whole : vouched (run_lines number (point ∷ points) ++ tail) ≡ vouched (lines_told number point.told ++ later) = ap vouched (append_assoc (lines_told number point.told) (run_lines (lines_of point.after + 1) points) tail) in
    let goes_on : honest_on (point ∷ points) ≡ point ∷ honest_on points = ap (λ (c : Bool). if c then [] else point ∷ honest_on points) honesty in
    record {
      rest = behind.rest;
      none = behind.none;
      is = whole ∙ vouched_told number point.told later silent honesty
          ∙ ap (λ (l : List ReportLine). lines_told number point.told ++ l) behind.is
          ∙ sym (append_assoc (lines_told number point.told) (run_lines (lines_of point.after + 1) (honest_on points)) behind.rest)
          ∙ sym (ap (λ (ps : List LanePoint). run_lines number ps ++ behind.rest) goes_on);
    }

pub run_vouched : (last : ℕ) (s : Lanes) (points : List LanePoint) (tail : List ReportLine) → AreAlone last s points → AreUnnumbered tail → Vouches (lines_of s + 1) points tail
run_vouched last s [] tail alone none = record { rest = tail; none = none; is = vouched_unnumbered tail none }
run_vouched last s (point ∷ points) tail alone none = vouched_more last s point points tail alone none (run_vouched (lines_of s + 1) point.after points tail alone.1 none) (tells_lie_on point.told) refl
