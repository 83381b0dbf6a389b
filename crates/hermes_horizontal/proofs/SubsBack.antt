-- The sub boards that were written are what is read of them, wherever they stand.
use Rattle.std.proofs.Common.{◌≡◌, ℕ, ◌≤◌, suc, Bool, true, cond, List, [], ◌∷◌, map, length, Option, Some, None, Result, Ok, Err, option_map, codes, refl, sym, ap, ◌∙◌}
use Rattle.std.specs.List.{AllByRecursion}
use Rattle.std.specs.Str.{bytes_eq}
use Rattle.std.proofs.lemmas.Bool.{le-ltb}
use Rattle.line_base.specs.declared.states.Quality.{Quality}
use Rattle.line_base.specs.declared.states.Quality.TheVariants as qualities
use Rattle.board_record.specs.SubBoards.{AreSubBoards, size_of}
use Rattle.board_record.specs.declared.sub_board.SubBoard.{SubBoard}
use Rattle.hermes_element.specs.Element.{Tree, Forest, none, more, trees_of}
use Rattle.hermes_element.specs.Canonical.{unplaced_attribute, unplaced_forest}
use Rattle.hermes_element.specs.declared.attribute.Attribute.{Attribute}
use Rattle.hermes_horizontal.specs.declared.fault.Refusal.{Refusal}
use Rattle.hermes_horizontal.specs.Values.{worded}
use Rattle.hermes_horizontal.specs.Rows.{sub_columns}
use Rattle.hermes_horizontal.specs.Parts.{of_quality, sub_parts, subbed}
use Rattle.hermes_horizontal.specs.Said.{then_ok, mapped_ok, values_of, words_told, quality_told, sub_of, sub_said, each_said, sbs_among, bad_subs, if_small, subs_listed, subs_in}
use Rattle.hermes_horizontal.specs.Canonical.{attributes_of, sub_children, children_of, IsProperSub, AreWritableSubs}
use Rattle.hermes_horizontal.proofs.Again.{row_read}
use Rattle.hermes_horizontal.proofs.Fitting.{suited, fit_sub, proper_sub}

-- ---- one sub board

pub words_back : (o : Option (List ℕ)) → words_told (option_map worded o) ≡ o
words_back None = refl
words_back (Some text) = refl

pub quality_again : (q : Quality) → quality_told (Some (of_quality q)) ≡ q
quality_again qualities.Unknown = refl
quality_again qualities.Good = refl
quality_again qualities.Failed = refl

pub sub_of-parts : (sub : SubBoard) → sub_of (sub_parts sub) ≡ sub
sub_of-parts sub =
    ap (λ (b : Option (List ℕ)). let s : SubBoard = record { pos = sub.pos; barcode = b; state = quality_told (Some (of_quality sub.state)) } in s) (words_back sub.barcode)
    ∙ ap (λ (q : Quality). let s : SubBoard = record { pos = sub.pos; barcode = sub.barcode; state = q } in s) (quality_again sub.state)

sub_again : (sub : SubBoard) (at : ℕ) (attributes : List Attribute) → sub.pos ≤ 999_999_999 → IsProperSub sub
    → map unplaced_attribute (attributes_of sub_columns (sub_parts sub)) ≡ map unplaced_attribute attributes → mapped_ok sub_of (values_of at attributes sub_columns) ≡ Ok sub
sub_again sub at attributes place proper e =
    ap (mapped_ok sub_of) (row_read at attributes sub_columns (sub_parts sub) refl (suited sub_columns (sub_parts sub) (fit_sub sub place) (proper_sub sub proper)) e)
    ∙ ap (λ (s : SubBoard). let r : Result SubBoard Refusal = Ok s in r) (sub_of-parts sub)

-- ---- each of a list

pub none_left : (forest : Forest) → unplaced_forest forest ≡ none → forest ≡ none
none_left none e = refl
none_left (more name at attributes children rest) e = absurd cc

then_subs : (first : Result SubBoard Refusal) (behind : Result (List SubBoard) Refusal) (sub : SubBoard) (subs : List SubBoard)
    → first ≡ Ok sub → behind ≡ Ok subs → then_ok first (λ x. mapped_ok (λ xs. x ∷ xs) behind) ≡ Ok (sub ∷ subs)
then_subs first behind sub subs e d = rw (e, d) refl

pub record AreAgain (sbs : List Tree) (subs : List SubBoard) : Type 0 where
  pub many : length sbs ≡ length subs
  pub said : each_said sbs ≡ Ok subs

sbs_again : (subs : List SubBoard) (forest : Forest) → unplaced_forest forest ≡ unplaced_forest (sub_children subs) → AllByRecursion (λ (sub : SubBoard). sub.pos ≤ 999_999_999) subs → AllByRecursion IsProperSub subs
    → AreAgain (sbs_among (trees_of forest)) subs
sbs_again [] none e places proper = record { many = refl; said = refl }
sbs_again [] (more name at attributes children rest) e places proper = absurd cc
sbs_again (sub ∷ subs) none e places proper = absurd cc
sbs_again (sub ∷ subs) (more name at attributes children rest) e places proper =
    let named : name ≡ codes "SB" = cc in
    let told : map unplaced_attribute attributes ≡ map unplaced_attribute (attributes_of sub_columns (sub_parts sub)) = cc in
    let behind : unplaced_forest rest ≡ unplaced_forest (sub_children subs) = cc in
    let tree : Tree = record { name = name; at = at; attributes = attributes; children = children } in
    let again = sbs_again subs rest behind places.1 proper.1 in
    let among = sbs_among (trees_of rest) in
    let is : bytes_eq name (codes "SB") ≡ true = ap (λ (n : List ℕ). bytes_eq n (codes "SB")) named in
    let list : sbs_among (trees_of (more name at attributes children rest)) ≡ tree ∷ among = ap (λ (b : Bool). cond b (tree ∷ among) among) is in
    record {
      many = ap (λ (l : List Tree). length l) list ∙ ap suc again.many;
      said = ap each_said list ∙ then_subs (sub_said tree) (each_said among) sub subs (sub_again sub at attributes places.0 proper.0 (sym told)) again.said;
    }

-- ---- the whole list

listed_again : (at : ℕ) (sbs : List Tree) (subs : List SubBoard) → AreAgain sbs subs → AreSubBoards subs → subs_listed at sbs ≡ Ok subs
listed_again at sbs subs again within =
    let few : length sbs ≤ 256 = rw again.many within.few in
    ap (λ (b : Bool). cond b (Err (bad_subs at)) (then_ok (each_said sbs) (if_small at))) (le-ltb 256 (length sbs) few)
    ∙ ap (λ (r : Result (List SubBoard) Refusal). then_ok r (if_small at)) again.said
    ∙ ap (λ (b : Bool). let r : Result (List SubBoard) Refusal = cond b (Err (bad_subs at)) (Ok subs) in r) (le-ltb 24576 (size_of subs) within.small)

pub subs_again : (subs : List SubBoard) → AreWritableSubs subs → AllByRecursion IsProperSub subs → (forest : Forest) → unplaced_forest forest ≡ unplaced_forest (children_of (subbed subs)) → subs_in (trees_of forest) ≡ Ok subs
subs_again [] writable proper none e = refl
subs_again [] writable proper (more name at attributes children rest) e = absurd cc
subs_again (sub ∷ subs) writable proper none e = absurd cc
subs_again (sub ∷ subs) writable proper (more name at attributes children rest) e =
    let named : name ≡ codes "SubBoards" = cc in
    let inside : unplaced_forest children ≡ unplaced_forest (sub_children (sub ∷ subs)) = cc in
    let is : bytes_eq name (codes "SubBoards") ≡ true = ap (λ (n : List ℕ). bytes_eq n (codes "SubBoards")) named in
    let sbs = sbs_among (trees_of children) in
    ap (λ (b : Bool). cond b (subs_listed at sbs) (subs_in (trees_of rest))) is
    ∙ listed_again at sbs (sub ∷ subs) (sbs_again (sub ∷ subs) children inside writable.places proper) writable.list
