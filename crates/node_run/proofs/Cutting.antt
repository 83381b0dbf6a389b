-- Where the panel's text is cut.
use Rattle.std.proofs.Common.{◌≡◌, ◌∙◌, sym, subst, ap, refl, ℕ, ℤ, Bool, true, false, cond, List, [], ◌∷◌, ◌++◌, Option, None, Some, take, drop, length, ◌+◌, ◌==◌, option_map, if◌then◌else◌}
use Rattle.std.proofs.Math.Seq.{drop-length, take-length}
use Rattle.std.proofs.lemmas.Bool.{false≢true}
use Rattle.std.proofs.lemmas.List.{drop-drop}
use native.Mathlib.Numerals.{unary_clauses}
use Rattle.std.specs.List.{position, position_from}
use Rattle.std.proofs.lemmas.Iterator.Adapters.{position_from-zero}
use Rattle.node_run.specs.Cuts.{HasCut, line_with, fronted}
use Rattle.node_run.specs.Lines.{cut_line, behind_first, is_too_long, KeepsFront, Fronts, Ends, DoesCut}
use Rattle.node_run.specs.State.{RunState, RunView}
use Rattle.node_run.specs.declared.rules.Rules.{Rules}

abbrev parts_at : List ℕ → ℕ → (List ℕ × List ℕ)
parts_at bytes place = (take place bytes, drop (place + 1) bytes)

abbrev one_further : Option ℕ → Option ℕ
one_further found = option_map (λ place. place + 1) found

further_if : (test : Bool) (i : ℕ) (far near : Option ℕ) → far ≡ one_further near → cond test (Some (i + 1)) far ≡ one_further (cond test (Some i) near)
further_if true i far near e = refl
further_if false i far near e = e

position_from-further : (test : ℕ → Bool) (i : ℕ) (bytes : List ℕ) → position_from test (i + 1) bytes ≡ one_further (position_from test i bytes)
position_from-further test i [] = refl
position_from-further test i (byte ∷ bytes) = further_if (test byte) i (position_from test (i + 1 + 1) bytes) (position_from test (i + 1) bytes) (position_from-further test (i + 1) bytes)

-- behind a byte that is no end
parts_behind : (byte : ℕ) (bytes : List ℕ) (found : Option ℕ) → option_map (parts_at (byte ∷ bytes)) (one_further found) ≡ behind_first byte (option_map (parts_at bytes) found)
parts_behind byte bytes None = refl
parts_behind byte bytes (Some place) = simp unary_clauses refl

cut_if : (test : Bool) (byte : ℕ) (bytes : List ℕ) (found : Option ℕ) → option_map (parts_at bytes) found ≡ cut_line bytes
    → option_map (parts_at (byte ∷ bytes)) (cond test (Some 0) (one_further found)) ≡ (if test then Some ([], bytes) else behind_first byte (cut_line bytes))
cut_if true byte bytes found e = refl
cut_if false byte bytes found e = parts_behind byte bytes found ∙ ap (behind_first byte) e

cut_from : (bytes : List ℕ) → option_map (parts_at bytes) (position_from (λ b. b == 10) 0 bytes) ≡ cut_line bytes
cut_from [] = refl
cut_from (byte ∷ bytes) =
    ap (λ found. option_map (parts_at (byte ∷ bytes)) (cond (byte == 10) (Some 0) found)) (position_from-further (λ b. b == 10) 0 bytes) ∙ cut_if (byte == 10) byte bytes (position_from (λ b. b == 10) 0 bytes) (cut_from bytes)

-- a text is cut at the first end of a line
pub cut_line-position : (bytes : List ℕ) (found : Option ℕ) → found ≡ position (λ b. b == 10) bytes → option_map (λ place. (take place bytes, drop (place + 1) bytes)) found ≡ cut_line bytes
cut_line-position bytes found e = ap (option_map (parts_at bytes)) (e ∙ position_from-zero (λ b. b == 10) bytes) ∙ cut_from bytes

-- the parts at a place that a text has behind what was done of it
pub cut_line-at : (bytes : List ℕ) (place : ℕ) → Some place ≡ position (λ b. b == 10) bytes → Some (take place bytes, drop (place + 1) bytes) ≡ cut_line bytes
cut_line-at bytes place e = cut_line-position bytes (Some place) e

cut_none : (bytes : List ℕ) → None ≡ position (λ b. b == 10) bytes → None ≡ cut_line bytes
cut_none bytes e = cut_line-position bytes None e

-- the text is cut behind the end of its first line
pub has_cut_line : (s u t : RunState) (place : ℕ) → Some place ≡ position (λ b. b == 10) s.rest → u ≡ fronted place s → t ≡ record u { rest = drop 1 u.rest } → HasCut (cut_line s.rest) true s t
has_cut_line s u t place e front after =
    let P : Option (List ℕ × List ℕ) → Type 0 = λ cut. HasCut cut true s t in
    let Q : RunState → Type 0 = λ v. t ≡ record v { rest = drop 1 v.rest } in
    let rest : drop 1 (drop place s.rest) ≡ drop (place + 1) s.rest = drop-drop 1 place s.rest in
    subst P (cut_line-at s.rest place e) (refl, subst Q front after ∙ ap (λ r. record (fronted place s) { rest = r }) rest)

-- a byte of the text is passed over
pub byte_passed : (v0 v : RunView) (done : ℕ) (items : List ℕ) → v0 ≡ v → v0.state.rest ≡ drop done items
    → record v0 { state = record v0.state { rest = drop (done + 1) items } } ≡ record v { state = record v.state { rest = drop 1 v.state.rest } }
byte_passed v0 v done items e rest =
    let P : RunView → Type 0 = λ w. record v0 { state = record v0.state { rest = drop (done + 1) items } } ≡ record w { state = record w.state { rest = drop 1 w.state.rest } } in
    subst P e (ap (λ (bytes : List ℕ). record v0 { state = record v0.state { rest = bytes } }) (sym (drop-drop 1 done items) ∙ ap (drop 1) (sym rest)))

-- or all of it is the front of one
pub has_no_cut : (s u : RunState) (count : ℕ) → None ≡ position (λ b. b == 10) s.rest → count ≡ length s.rest → u ≡ fronted count s → HasCut (cut_line s.rest) false s u
has_no_cut s u count e all front =
    let P : Option (List ℕ × List ℕ) → Type 0 = λ cut. HasCut cut false s u in
    let taken : take count s.rest ≡ s.rest = ap (λ n. take n s.rest) all ∙ take-length s.rest in
    let left : drop count s.rest ≡ [] = ap (λ n. drop n s.rest) all ∙ drop-length s.rest in
    subst P (cut_none s.rest e) (refl, front ∙ ap (λ r. record s { line = line_with s.drops s.line r; rest = drop count s.rest }) taken ∙ ap (λ r. record s { line = line_with s.drops s.line s.rest; rest = r }) left)

-- ---- what is done with a cut

keeps_at : (long : Bool) (front : List ℕ) (s t : RunState) (log : List ℕ) → (let v : RunState = record s { line = front; rest = [] } in KeepsFront long front v t log) → (let r : RunState = record s { rest = [] } in KeepsFront long front r t log)
keeps_at true front s t log keeps = keeps
keeps_at false front s t log keeps = keeps

front_done : (drops : Bool) (rules : Rules) (moment : ℤ) (s u t : RunState) (log : List ℕ) → s.drops ≡ drops → u ≡ record s { line = line_with drops s.line s.rest; rest = [] } → Fronts u.drops u.line u t log → DoesCut None rules moment s t log
front_done true rules moment s u t log drops e fronts =
    let P : RunState → Type 0 = λ v. Fronts v.drops v.line v t log in
    let Q : Bool → Type 0 = λ d. (let r : RunState = record s { rest = [] } in Fronts d s.line r t log → Fronts d (s.line ++ s.rest) r t log) in
    subst Q (sym drops) (λ h. h) (subst P e fronts)
front_done false rules moment s u t log drops e fronts =
    let P : RunState → Type 0 = λ v. Fronts v.drops v.line v t log in
    let Q : Bool → Type 0 = λ d. (let v : RunState = record s { line = s.line ++ s.rest; rest = [] } in let r : RunState = record s { rest = [] } in Fronts d (s.line ++ s.rest) v t log → Fronts d (s.line ++ s.rest) r t log) in
    subst Q (sym drops) (keeps_at (is_too_long (s.line ++ s.rest)) (s.line ++ s.rest) s t log) (subst P e fronts)

end_done : (drops : Bool) (parts : List ℕ × List ℕ) (rules : Rules) (moment : ℤ) (s u t : RunState) (log : List ℕ) → s.drops ≡ drops → u ≡ record s { line = line_with drops s.line parts.0; rest = parts.1 } → Ends u.drops u.line rules moment u t log → DoesCut (Some parts) rules moment s t log
end_done true parts rules moment s u t log drops e ends =
    let P : RunState → Type 0 = λ v. Ends v.drops v.line rules moment v t log in
    let Q : Bool → Type 0 = λ d. (let r : RunState = record s { rest = parts.1 } in Ends d s.line rules moment r t log → Ends d (s.line ++ parts.0) rules moment r t log) in
    subst Q (sym drops) (λ h. h) (subst P e ends)
end_done false parts rules moment s u t log drops e ends =
    let P : RunState → Type 0 = λ v. Ends v.drops v.line rules moment v t log in
    let Q : Bool → Type 0 = λ d. (let v : RunState = record s { line = s.line ++ parts.0; rest = parts.1 } in let r : RunState = record s { rest = parts.1 } in Ends d (s.line ++ parts.0) rules moment v t log → Ends d (s.line ++ parts.0) rules moment r t log) in
    subst Q (sym drops) (λ h. h) (subst P e ends)

-- a front without its end
pub cut_front : (cut : Option (List ℕ × List ℕ)) (rules : Rules) (moment : ℤ) (s u t : RunState) (log : List ℕ) → HasCut cut false s u → Fronts u.drops u.line u t log → DoesCut cut rules moment s t log
cut_front None rules moment s u t log has fronts = front_done s.drops rules moment s u t log refl has.1 fronts
cut_front (Some parts) rules moment s u t log has fronts = absurd (false≢true has.0)

-- a whole line
pub cut_whole : (cut : Option (List ℕ × List ℕ)) (rules : Rules) (moment : ℤ) (s u t : RunState) (log : List ℕ) → HasCut cut true s u → Ends u.drops u.line rules moment u t log → DoesCut cut rules moment s t log
cut_whole None rules moment s u t log has ends = absurd (false≢true (sym has.0))
cut_whole (Some parts) rules moment s u t log has ends = end_done s.drops parts rules moment s u t log refl has.1 ends
