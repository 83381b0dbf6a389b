-- What is appended of sub boards piece by piece is their canonical spelling.
use Rattle.std.proofs.Common.{◌≡◌, ℕ, ◌==◌, false, List, [], ◌∷◌, ◌++◌, codes, length, Option, Some, None, option_map, refl, sym, ◌∙◌, append_assoc}
use Rattle.std.specs.Borrow.{Bor}
use Rattle.std.specs.List.{flat_map}
use Rattle.std.specs.Option.{option_copied}
use Rattle.std.proofs.lemmas.Bool.{false≢true}
use Rattle.line_base.specs.declared.text.Text.{Text}
use Rattle.board_record.specs.declared.sub_board.SubBoard.{SubBoard}
use Rattle.hermes_element.specs.Canonical.{canonical_attribute, canonical_forest}
use Rattle.hermes_horizontal.specs.declared.attr.Attr.TheVariants as attrs
use Rattle.hermes_horizontal.specs.Values.{worded, numbered}
use Rattle.hermes_horizontal.specs.Rows.{sub_columns}
use Rattle.hermes_horizontal.specs.Parts.{of_quality, sub_parts, subbed}
use Rattle.hermes_horizontal.specs.Canonical.{attributes_of, assigned, assignment, assignment_if, sub_spelling, sub_children, rest_spelling}
use Rattle.hermes_horizontal.proofs.Writing.{assigned_is}

sub_grouped : (t a b c : List ℕ) → ((t ++ a) ++ b) ++ c ≡ t ++ ((a ++ b) ++ c)
sub_grouped t a b c = simp append_assoc

-- a text that is lent
pub lent_text : (lent : Option (Bor Text)) → option_map (λ (text : Bor Text). worded text.now) lent ≡ option_map worded (option_copied lent)
lent_text None = refl
lent_text (Some text) = refl

pub sub_written : (sub : SubBoard) (t0 t1 t2 t3 t4 t5 : List ℕ) → t1 ≡ t0 ++ codes "<SB" → t2 ≡ t1 ++ assignment attrs.Pos (numbered sub.pos)
    → t3 ≡ t2 ++ assignment_if attrs.Bc (option_map worded sub.barcode) → t4 ≡ t3 ++ assignment attrs.St (of_quality sub.state) → t5 ≡ t4 ++ codes "/>"
    → t5 ≡ t0 ++ sub_spelling sub
sub_written sub t0 t1 t2 t3 t4 t5 e1 e2 e3 e4 e5 =
    let attributes = flat_map canonical_attribute (attributes_of sub_columns (sub_parts sub)) in
    let e6 : t4 ≡ assigned t1 sub_columns (sub_parts sub) = rw (e4, e3, e2) refl in
    let e7 : t4 ≡ t1 ++ attributes = e6 ∙ assigned_is t1 sub_columns (sub_parts sub) in
    rw (e5, e7, e1) (sub_grouped t0 (codes "<SB") attributes (codes "/>"))

-- ---- the child that lists them

subs_grouped : (t each name : List ℕ) → ((((t ++ codes "><SubBoards>") ++ each) ++ codes "</SubBoards></") ++ name) ++ codes ">"
    ≡ t ++ ((62 ∷ []) ++ ((((60 ∷ codes "SubBoards") ++ []) ++ ((62 ∷ []) ++ each ++ (60 ∷ 47 ∷ []) ++ codes "SubBoards" ++ (62 ∷ []))) ++ []) ++ (60 ∷ 47 ∷ []) ++ name ++ (62 ∷ []))
subs_grouped t each name = simp append_assoc

pub subs_spelled : (name t : List ℕ) (subs : List SubBoard) → (length subs == 0) ≡ false
    → ((((t ++ codes "><SubBoards>") ++ canonical_forest (sub_children subs)) ++ codes "</SubBoards></") ++ name) ++ codes ">" ≡ t ++ rest_spelling name (subbed subs)
subs_spelled name t [] filled = absurd (false≢true (sym filled))
subs_spelled name t (sub ∷ subs) filled = subs_grouped t (canonical_forest (sub_children (sub ∷ subs))) name

pub subs_written : (name : List ℕ) (subs : List SubBoard) (t0 t1 t2 t3 t4 t5 : List ℕ) → (length subs == 0) ≡ false → t1 ≡ t0 ++ codes "><SubBoards>" → t2 ≡ t1 ++ canonical_forest (sub_children subs)
    → t3 ≡ t2 ++ codes "</SubBoards></" → t4 ≡ t3 ++ name → t5 ≡ t4 ++ codes ">" → t5 ≡ t0 ++ rest_spelling name (subbed subs)
subs_written name subs t0 t1 t2 t3 t4 t5 filled e1 e2 e3 e4 e5 = rw (e5, e4, e3, e2, e1) (subs_spelled name t0 subs filled)
