-- A text without a line's end, and one behind it, is one line.
use Rattle.std.proofs.Common.{◌≡◌, ◌∙◌, sym, ap, ℕ, ◌==◌, Bool, List, [], ◌∷◌, ◌++◌, append_assoc, append-nil, if◌then◌else◌}
use Rattle.std.proofs.lemmas.Bool.{and_parts, not-true}
use Rattle.std.specs.List.{list_all}
use Rattle.machine_log.proofs.Inner.{inner}
use Rattle.machine_log.proofs.Solid.{is_inner}
use Rattle.law_report_lines.specs.Lines.{line_of, lines_behind}

pub line_read : (front text rest : List ℕ) → inner text → lines_behind front (text ++ (10 ∷ rest)) ≡ line_of (front ++ text) ∷ lines_behind [] rest
line_read front [] rest h = ap (λ (l : List ℕ). line_of l ∷ lines_behind [] rest) (sym (append-nil front))
line_read front (b ∷ text) rest h =
    let parts = and_parts (is_inner b) (list_all is_inner text) h in
    ap (λ (t : Bool). if t then line_of front ∷ lines_behind [] (text ++ (10 ∷ rest)) else lines_behind (front ++ (b ∷ [])) (text ++ (10 ∷ rest))) (not-true (b == 10) parts.0)
    ∙ line_read (front ++ (b ∷ [])) text rest parts.1
    ∙ ap (λ (l : List ℕ). line_of l ∷ lines_behind [] rest) (append_assoc front (b ∷ []) text)
