-- What a reader knows of the bytes that it was given.
use Rattle.std.proofs.Common.{◌≡◌, ◌<◌, ◌≤◌, ◌+◌, ◌*◌, ◌==◌, ℕ, false, List, [], ◌∷◌, ◌++◌, Option, Some, None, Result, Ok, Err, OnOk, drop, take, length, refl, sym, ap, subst, ◌∙◌, arith, append_assoc, append-nil, length-drop}
use Rattle.std.proofs.lemmas.List.{take-append-drop}
use Rattle.std.specs.Str.Lines.{lines, strip_carriage_return}
use Rattle.line_check.specs.declared.why.CheckError.{CheckError}
use Rattle.line_check.specs.declared.why.CheckError.TheVariants.{No, Memory}
use Rattle.line_check.specs.declared.checker.Checker.{Checker}
use Rattle.line_check.specs.Log.{against}
use Rattle.line_check.specs.Checking.{Ends, HasRead, HasReadTo, answer_by, failure_of}
use Rattle.line_check.proofs.Fronts.{long_front}
use Rattle.log_verdict.specs.LineEnds.{HasNoEnd}
use Rattle.log_verdict.specs.LogReader.{FollowsTo, TakesTo}
use Rattle.log_verdict.proofs.LinesLemmas.{StartsWith, lines-front, lines-last, lines-pending}

-- a checker that answers an error has failed with it
pub failed_with : (failed : Option CheckError) (error : CheckError) → Err error ≡ answer_by failed → failed ≡ Some error
failed_with None error is = cc
failed_with (Some other) error is = let same : error ≡ other = cc in ap Some (sym same)

pub read_failed : (given : List (List ℕ)) (checker : Checker) (error : CheckError) → Err error ≡ answer_by (failure_of checker) → HasRead given checker → HasReadTo given checker.known (Some error)
read_failed given checker error is read = subst (HasReadTo given checker.known) (failed_with checker.failed error is) read

-- what a checker answers of the lines that bytes end
taken_by : (bytes : List ℕ) (given : List (List ℕ)) (checker : Checker) (pending : List ℕ) (result : Result (Unit {0}) CheckError)
    → ((later : List ℕ) → lines (bytes ++ later) ≡ given ++ lines (pending ++ later)) → HasRead given checker → result ≡ answer_by (failure_of checker) → TakesTo bytes checker pending result
taken_by bytes given checker pending (Ok taken) cut read is = record { given = given; cut = cut; read = read }
taken_by bytes given checker pending (Err (No line why)) cut read is =
    let refused = read_failed given checker (No line why) is read in
    record { whatever = λ later. ap against (cut later) ∙ refused.whatever (lines (pending ++ later)) }
taken_by bytes given checker pending (Err Memory) cut read is = tt

-- A LINE ends
pub line_taken : (bytes pending part line now : List ℕ) (old new : Checker) (result : Result (Unit {0}) CheckError) → HasNoEnd (pending ++ part) → line ≡ strip_carriage_return (pending ++ part) → now ≡ []
    → ((given : List (List ℕ)) → HasRead given old → HasRead (given ++ line ∷ []) new) → result ≡ answer_by (failure_of new)
    → FollowsTo bytes old pending → TakesTo (bytes ++ (part ++ 10 ∷ [])) new now result
line_taken bytes pending part line now old new result none is empty step answer follows =
    taken_by (bytes ++ (part ++ 10 ∷ [])) (follows.given ++ line ∷ []) new now result
    (λ later.
    ap lines (append_assoc bytes (part ++ 10 ∷ []) later)
    ∙ follows.cut ((part ++ 10 ∷ []) ++ later)
    ∙ ap (λ (l : List (List ℕ)). follows.given ++ l) (lines-pending pending part later none ∙ ap (λ (l : List ℕ). l ∷ lines later) (sym is))
    ∙ sym (append_assoc follows.given (line ∷ []) (lines later))
    ∙ ap (λ (p : List ℕ). (follows.given ++ line ∷ []) ++ lines (p ++ later)) (sym empty))
    (step follows.given follows.read) answer

pub line_progress : (result : Result (Unit {0}) CheckError) (old new : ℕ) (pending part line : List ℕ) → OnOk result (new ≡ old + 1) → OnOk result (length line ≤ 4096) → length pending + length part ≤ length line + 1
    → OnOk result (old * 4099 + length pending + length part + 1 ≤ new * 4099 + 0)
line_progress (Ok taken) old new pending part line counted short dropped = omega (arith, counted, short, dropped)
line_progress (Err error) old new pending part line counted short dropped = tt

-- A LINE IS TOO LONG
pub long_taken : (bytes pending part tail front now : List ℕ) (count : ℕ) (old new : Checker) (result : Result (Unit {0}) CheckError) → HasNoEnd (pending ++ part) → front ≡ pending ++ take count part → count < length part
    → 4096 < length front → ((given : List (List ℕ)) → HasRead given old → HasRead (given ++ front ∷ []) new) → result ≡ answer_by (failure_of new) → OnOk result (length front ≤ 4096)
    → FollowsTo bytes old pending → TakesTo (bytes ++ (part ++ tail)) new now result
long_taken bytes pending part tail front now count old new (Ok taken) none is within long step answer short follows = absurd (omega (arith, long, short))
long_taken bytes pending part tail front now count old new (Err (No line why)) none is within long step answer short follows =
    let back = drop count part in
    let some : 0 < length back = omega (arith, within, length-drop count part) in
    let whole : front ++ back ≡ pending ++ part = ap (λ (l : List ℕ). l ++ back) is ∙ append_assoc pending (take count part) back ∙ ap (λ (l : List ℕ). pending ++ l) (take-append-drop count part) in
    let no_end : HasNoEnd (front ++ back) = subst HasNoEnd (sym whole) none in
    let refused = read_failed (follows.given ++ front ∷ []) new (No line why) answer (step follows.given follows.read) in
    let starts : (later : List ℕ) → StartsWith front (lines ((front ++ back) ++ (tail ++ later))) = λ later. lines-front front back (tail ++ later) no_end some in
    record {
      whatever = λ later.
          ap against
          (ap lines (append_assoc bytes (part ++ tail) later)
          ∙ follows.cut ((part ++ tail) ++ later)
          ∙ ap (λ (l : List ℕ). follows.given ++ lines l) (ap (λ (l : List ℕ). pending ++ l) (append_assoc part tail later) ∙ sym (append_assoc pending part (tail ++ later)) ∙ ap (λ (l : List ℕ). l ++ (tail ++ later)) (sym whole))
          ∙ ap (λ (l : List (List ℕ)). follows.given ++ l) (starts later).starts)
          ∙ sym (long_front follows.given front (starts later).more (starts later).others long)
          ∙ ap against (sym (append_assoc follows.given (front ∷ []) (starts later).others))
          ∙ refused.whatever (starts later).others;
    }
long_taken bytes pending part tail front now count old new (Err Memory) none is within long step answer short follows = tt

pub never_ok : (result : Result (Unit {0}) CheckError) (front : List ℕ) → 4096 < length front → OnOk result (length front ≤ 4096) → OnOk result ⊥
never_ok (Ok taken) front long short = omega (arith, long, short)
never_ok (Err error) front long short = tt

pub on_never : (P : Type 0) (result : Result (Unit {0}) CheckError) → OnOk result ⊥ → OnOk result P
on_never P (Ok taken) never = absurd never
on_never P (Err error) never = tt

-- A FRONT waits
pub kept : (bytes pending part : List ℕ) (checker : Checker) → FollowsTo bytes checker pending → FollowsTo (bytes ++ part) checker (pending ++ part)
kept bytes pending part checker follows = record {
  given = follows.given;
  cut = λ later. ap lines (append_assoc bytes part later) ∙ follows.cut (part ++ later) ∙ ap (λ (l : List ℕ). follows.given ++ lines l) (sym (append_assoc pending part later));
  read = follows.read;
}

-- MORE BYTES behind those that a reason is against
pub refused_more : (error : CheckError) (bytes more : List ℕ) (checker other : Checker) (pending now : List ℕ) → TakesTo bytes checker pending (Err error) → TakesTo (bytes ++ more) other now (Err error)
refused_more (No line why) bytes more checker other pending now refused = record { whatever = λ later. ap (λ (l : List ℕ). against (lines l)) (append_assoc bytes more later) ∙ refused.whatever (more ++ later) }
refused_more Memory bytes more checker other pending now refused = tt

-- THE END
pub lines_given : (bytes pending : List ℕ) (checker : Checker) → (follows : FollowsTo bytes checker pending) → pending ≡ [] → lines bytes ≡ follows.given
lines_given bytes pending checker follows empty =
    ap lines (sym (append-nil bytes)) ∙ follows.cut [] ∙ ap (λ (p : List ℕ). follows.given ++ lines (p ++ [])) empty ∙ append-nil follows.given

pub lines_and_last : (bytes pending : List ℕ) (checker : Checker) → (follows : FollowsTo bytes checker pending) → HasNoEnd pending → (length pending == 0) ≡ false → lines bytes ≡ follows.given ++ pending ∷ []
lines_and_last bytes pending checker follows none there =
    ap lines (sym (append-nil bytes)) ∙ follows.cut []
    ∙ ap (λ (l : List (List ℕ)). follows.given ++ l) (ap lines (append-nil pending) ∙ lines-last pending none ∙ rw there refl)

pub ends_failed : (log : List (List ℕ)) (error : CheckError) (checker : Checker) → HasReadTo log checker.known (Some error) → Ends log (Err error)
ends_failed log (No line why) checker refused = ap against (sym (append-nil log)) ∙ refused.whatever []
ends_failed log Memory checker refused = tt

pub on_weaker : {P Q : Type 0} (result : Result (Unit {0}) CheckError) → (P → Q) → OnOk result P → OnOk result Q
on_weaker (Ok taken) there on = there on
on_weaker (Err error) there on = tt
