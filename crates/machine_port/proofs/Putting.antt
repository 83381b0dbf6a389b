-- An act more is put on a way.
use Rattle.std.proofs.Common.{◌≡◌, ◌∙◌, ◌++◌, ◌∷◌, [], ◌||◌, List, ℕ, Bool, true, false, refl, ap, append_assoc, flat_map}
use Rattle.std.specs.List.{list_any}
use Rattle.line_base.specs.declared.states.Side.{Side}
use Rattle.node_core.specs.declared.act.Act.{Act}
use Rattle.supervised_end.specs.Said.{all_told_for, told_for}
use Rattle.machine_port.specs.Ways.{WayState, closes_at, said_at, told_way, way_after}

closes_more : (before one rest : Bool) → ((before || (one || false)) || rest) ≡ (before || (one || rest))
closes_more true one rest = refl
closes_more false true rest = refl
closes_more false false rest = refl

text_more : (before one rest : List ℕ) → (before ++ (one ++ [])) ++ rest ≡ before ++ (one ++ rest)
text_more before one rest =
    append_assoc before (one ++ []) rest ∙ ap (λ l. before ++ l) (append_assoc one [] rest)

pub way_more : (side : Side) (act : Act) (rest : List Act) (way : WayState)
    → way_after side rest (way_after side (act ∷ []) way) ≡ way_after side (act ∷ rest) way
way_more side act rest way = λ i. record {
  text = text_more way.text (said_at side act) (flat_map (said_at side) rest) i;
  closes = closes_more way.closes (closes_at side act) (list_any (closes_at side) rest) i;
}

pub told_more : (stands : Bool) (act : Act) (rest : List Act) (way : WayState)
    → told_way stands rest (told_way stands (act ∷ []) way) ≡ told_way stands (act ∷ rest) way
told_more stands act rest way = λ i. record way { text = text_more way.text (told_for stands act) (all_told_for stands rest) i }
