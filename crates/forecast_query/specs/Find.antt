-- The board that is asked for by its barcodes.
use Rattle.std.specs.Prelude.{◌≡◌, ℕ, ◌+◌, ◌<◌, Bool, true, false, ◌&&◌, List, [], ◌∷◌, Option, Some, None, slice_get, if◌then◌else◌}
use Rattle.std.specs.Str.{bytes_eq}
use Rattle.board_record.specs.declared.record.Record.{Record}

-- a side has the barcode that is asked for, if one is
abbrev pub has_asked : Option (List ℕ) → Option (List ℕ) → Bool
has_asked None barcode = true
has_asked (Some asked) None = false
has_asked (Some asked) (Some barcode) = bytes_eq asked barcode

-- a board has each barcode that is asked for, on its side
abbrev pub has_barcodes : Option (List ℕ) → Option (List ℕ) → Record → Bool
has_barcodes top bottom board = has_asked top board.top && has_asked bottom board.bottom

-- the place of the first board that has them, counted from a number on
abbrev pub place_from : ℕ → List Record → Option (List ℕ) → Option (List ℕ) → Option ℕ
place_from place [] top bottom = None
place_from place (board ∷ kept) top bottom =
    if has_barcodes top bottom board then Some place else place_from (place + 1) kept top bottom

-- nothing is asked for
abbrev pub is_nothing : Option (List ℕ) → Option (List ℕ) → Bool
is_nothing None None = true
is_nothing None (Some _) = false
is_nothing (Some _) _ = false

-- the board that is asked for: the first from the front that has each barcode, and none where
-- nothing is asked
abbrev pub first_match : List Record → Option (List ℕ) → Option (List ℕ) → Option ℕ
first_match kept top bottom = if is_nothing top bottom then None else place_from 0 kept top bottom

-- a board with each barcode stands at this place, and none stands before it
pub record IsFirstMatch (kept : List Record) (top bottom : Option (List ℕ))
    (place : ℕ) : Type 0 where
  pub asked : is_nothing top bottom ≡ false
  pub there : (board : Record) × (slice_get kept place ≡ Some board)
      × (has_barcodes top bottom board ≡ true)
  pub first : (before : ℕ) (board : Record) → before < place → slice_get kept before ≡ Some board
      → has_barcodes top bottom board ≡ false

-- no board has what is asked for, or nothing is
abbrev pub MatchesNone : List Record → Option (List ℕ) → Option (List ℕ) → Type 0
MatchesNone kept top bottom =
    is_nothing top bottom ≡ false → (place : ℕ) (board : Record)
    → slice_get kept place ≡ Some board → has_barcodes top bottom board ≡ false
