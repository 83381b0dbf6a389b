-- The text of a message is one frame.
use Rattle.std.proofs.Common.{◌≡◌, ℕ, ℤ, ◌+◌, ◌≤◌, Bool, true, false, List, [], ◌∷◌, ◌++◌, Option, Some, None, option_map, codes, length, refl, subst, arith, length-append, lit≤}
use Rattle.std.specs.Prelude.{◌==◌}
use Rattle.std.specs.List.{flat_map, list_all}
use Rattle.std.proofs.lemmas.Bool.{and_parts}
use Rattle.std.proofs.lemmas.Bool.Decides.{nat_tests}
use Rattle.line_base.specs.Name.{is_name_start, is_name_byte, IsName}
use Rattle.line_base.proofs.Printable.{IsText-moment}
use Rattle.board_record.specs.declared.sub_board.SubBoard.{SubBoard}
use Rattle.hermes_element.specs.Canonical.{canonical_attribute, canonical_forest, canonical_rest, canonical_front}
use Rattle.hermes_stream.specs.Frames.{most_bytes, end_tag, IsOneFrame}
use Rattle.hermes_stream.proofs.Alone.{IsQuiet, quiet-none, quiet-append, quiet, is_quiet, quiet-no_open, quiet-start, one_frame}
use Rattle.hermes_horizontal.specs.declared.attr.Attr.TheVariants as attrs
use Rattle.hermes_horizontal.specs.declared.message.Features.{Features}
use Rattle.hermes_horizontal.specs.declared.message.Horizontal.{Horizontal}
use Rattle.hermes_horizontal.specs.declared.message.Horizontal.TheVariants as bodies
use Rattle.hermes_horizontal.specs.declared.message.Message.{Message}
use Rattle.hermes_horizontal.specs.Values.{timed}
use Rattle.hermes_horizontal.specs.declared.kind.Kind.TheVariants as kinds
use Rattle.hermes_horizontal.specs.Rows.{Column, columns_of, stamp_column}
use Rattle.hermes_horizontal.specs.Parts.{parts, featured, subbed, inner_of, kind_of, name_of}
use Rattle.hermes_horizontal.specs.Canonical.{attribute_of, attributes_of, assignment, assignment_if, children_of, rest_spelling, children_spelling, body_spelling, canonical, AreWritableSubs, HasWritableSubs, HasProperSubs, IsProperMessage, IsWritable}
use Rattle.hermes_horizontal.proofs.Fitting.{fit_parts}
use Rattle.hermes_horizontal.proofs.Writable.{tree_proper}
use Rattle.hermes_horizontal.proofs.Writing.{message_written}
use Rattle.law_link_messages.specs.Framed.{HasShortName}
use Rattle.law_link_messages.proofs.Opens.{free_name, free_attribute, free_attributes}
use Rattle.law_link_messages.proofs.Lengths.{room, attributes_room, stamp_length}
use Rattle.law_link_messages.proofs.SubsFramed.{subs_quiet, subs_length}

-- ---- what stands behind the start tag of a message

abbrev features_with : Bool → Bool → Bool → Bool → Features
features_with a b c d = record { check_alive = a; forecast = b; query = c; send = d }

abbrev features_spelling : Features → List ℕ
features_spelling features = canonical_rest (codes "ServiceDescription") (children_of (featured features)) (canonical_forest (children_of (featured features)))

is_quiet_features : (a b c d : Bool) → is_quiet (features_spelling (features_with a b c d)) ≡ true
is_quiet_features true true true true = refl
is_quiet_features true true true false = refl
is_quiet_features true true false true = refl
is_quiet_features true true false false = refl
is_quiet_features true false true true = refl
is_quiet_features true false true false = refl
is_quiet_features true false false true = refl
is_quiet_features true false false false = refl
is_quiet_features false true true true = refl
is_quiet_features false true true false = refl
is_quiet_features false true false true = refl
is_quiet_features false true false false = refl
is_quiet_features false false true true = refl
is_quiet_features false false true false = refl
is_quiet_features false false false true = refl
is_quiet_features false false false false = refl

short_features : (a b c d : Bool) → length (features_spelling (features_with a b c d)) ≤ 300
short_features true true true true = lit≤ tt
short_features true true true false = lit≤ tt
short_features true true false true = lit≤ tt
short_features true true false false = lit≤ tt
short_features true false true true = lit≤ tt
short_features true false true false = lit≤ tt
short_features true false false true = lit≤ tt
short_features true false false false = lit≤ tt
short_features false true true true = lit≤ tt
short_features false true true false = lit≤ tt
short_features false true false true = lit≤ tt
short_features false true false false = lit≤ tt
short_features false false true true = lit≤ tt
short_features false false true false = lit≤ tt
short_features false false false true = lit≤ tt
short_features false false false false = lit≤ tt

children_quiet : (body : Horizontal) → HasWritableSubs (inner_of body) → HasProperSubs (inner_of body) → IsQuiet (children_spelling body)
children_quiet (bodies.BoardAvailable board) writable proper = subs_quiet (codes "BoardAvailable") board.subs writable proper (quiet (codes "</SubBoards></BoardAvailable>") refl)
children_quiet (bodies.SendBoardInfo info) writable proper = subs_quiet (codes "SendBoardInfo") info.subs writable proper (quiet (codes "</SubBoards></SendBoardInfo>") refl)
children_quiet (bodies.ServiceDescription service) writable proper =
    let f = service.features in
    quiet (features_spelling f) (is_quiet_features f.check_alive f.forecast f.query f.send)
children_quiet _ writable proper = quiet (47 ∷ 62 ∷ []) refl

-- ---- the length of a message's element

-- the bytes beside the name, and the name's own, leave room for what stands round the element
abbrev FitsFrame : Horizontal → Type 0
FitsFrame body = length (name_of body) + room (columns_of (kind_of body)) + length (children_spelling body) ≤ 65_482

board_fits : (name : List ℕ) (columns : List Column) (subs : List SubBoard) → AreWritableSubs subs → length name + room columns ≤ 40_000 → length name ≤ 100
    → length name + room columns + length (rest_spelling name (subbed subs)) ≤ 65_482
board_fits name columns subs writable row short = let h = subs_length name subs writable.places in let small = writable.list.small in omega (arith, h, small, row, short)

body_fits : (body : Horizontal) → HasWritableSubs (inner_of body) → HasShortName body → FitsFrame body
body_fits (bodies.Other name) writable short = omega (arith, short)
body_fits (bodies.BoardAvailable board) writable short = board_fits (codes "BoardAvailable") (columns_of kinds.BoardAvailable) board.subs writable (lit≤ tt) (lit≤ tt)
body_fits (bodies.SendBoardInfo info) writable short = board_fits (codes "SendBoardInfo") (columns_of kinds.SendBoardInfo) info.subs writable (lit≤ tt) (lit≤ tt)
body_fits (bodies.ServiceDescription service) writable short =
    let f = service.features in
    let h = short_features f.check_alive f.forecast f.query f.send in
    let few : length (codes "ServiceDescription") + room (columns_of (kind_of (bodies.ServiceDescription service))) ≤ 60_000 = lit≤ tt in
    omega (arith, h, few)
body_fits _ writable short = lit≤ tt

-- ---- names that start a tag

start_is_no_slash : (b : ℕ) → is_name_start b ≡ true → (47 == b) ≡ false
start_is_no_slash b h = grind (arith, nat_tests)

start_quiet : (name : List ℕ) → IsName name → IsQuiet (60 ∷ name)
start_quiet [] named = quiet (60 ∷ []) (absurd (cc named))
start_quiet (b ∷ bytes) named =
    let p = and_parts (is_name_start b) (list_all is_name_byte bytes) named in
    let free = free_name (b ∷ bytes) named in
    quiet-start b bytes (start_is_no_slash b p.0) free.all

-- ---- the whole text

stamp_quiet : (stamp : Option ℤ) → IsQuiet (assignment_if stamp_column.attr (option_map timed stamp))
stamp_quiet None = quiet-none
stamp_quiet (Some millis) =
    let free = free_attribute (attribute_of attrs.Timestamp (timed millis)) (record { name = refl; value = IsText-moment millis }) in
    quiet-no_open (assignment attrs.Timestamp (timed millis)) free.all

stamp_short : (stamp : Option ℤ) → length (assignment_if stamp_column.attr (option_map timed stamp)) ≤ 36
stamp_short None = omega arith
stamp_short (Some millis) = let h = stamp_length millis in omega (arith, h)

record IsReady (body : Horizontal) : Type 0 where
  quiet : IsQuiet (body_spelling body)
  short : length (body_spelling body) ≤ 65_483

body_ready : (message : Message) → IsProperMessage message → IsWritable message → HasShortName message.body → IsReady message.body
body_ready message proper writable short =
    let body = message.body in
    let fit = fit_parts body writable.numbers in
    let attributes = attributes_of (columns_of (kind_of body)) (parts body) in
    let tags = (tree_proper message proper writable).below in
    let free = free_attributes attributes tags.0.each in
    let few = attributes_room (columns_of (kind_of body)) (parts body) fit proper.values in
    let all = body_fits body writable.subs short in
    let k = length-append (60 ∷ name_of body) (flat_map canonical_attribute attributes) in
    let l = length-append (canonical_front (name_of body) attributes) (children_spelling body) in
    record {
      quiet = quiet-append (canonical_front (name_of body) attributes) (children_spelling body)
          (quiet-append (60 ∷ name_of body) (flat_map canonical_attribute attributes) (start_quiet (name_of body) proper.name) (quiet-no_open (flat_map canonical_attribute attributes) free.all))
          (children_quiet body writable.subs proper.subs);
      short = omega (arith, k, l, few, all);
    }

-- the text up to its end
abbrev before_end : Message → List ℕ
before_end message = ((codes "<Hermes" ++ assignment_if stamp_column.attr (option_map timed message.stamp)) ++ codes ">") ++ body_spelling message.body

-- and behind its first byte
abbrev behind_open : Message → List ℕ
behind_open message = ((codes "Hermes" ++ assignment_if stamp_column.attr (option_map timed message.stamp)) ++ codes ">") ++ body_spelling message.body

spelled : (message : Message) → before_end message ++ end_tag ≡ canonical message
spelled message = message_written message [] (codes "<Hermes") (codes "<Hermes" ++ assignment_if stamp_column.attr (option_map timed message.stamp)) ((codes "<Hermes" ++ assignment_if stamp_column.attr (option_map timed message.stamp)) ++ codes ">") (before_end message) (before_end message ++ end_tag) refl refl refl refl refl

pub framed : (message : Message) → IsProperMessage message → IsWritable message → HasShortName message.body → IsOneFrame (canonical message)
framed message proper writable short =
    let ready = body_ready message proper writable short in
    let stamp = assignment_if stamp_column.attr (option_map timed message.stamp) in
    let stamped = stamp_short message.stamp in
    let small = ready.short in
    let still = quiet-append ((codes "<Hermes" ++ stamp) ++ codes ">") (body_spelling message.body)
    (quiet-append (codes "<Hermes" ++ stamp) (codes ">") (quiet-append (codes "<Hermes") stamp (quiet (codes "<Hermes") refl) (stamp_quiet message.stamp)) (quiet (codes ">") refl))
    ready.quiet in
    let k = length-append (codes "Hermes") stamp in
    let l = length-append (codes "Hermes" ++ stamp) (codes ">") in
    let m = length-append ((codes "Hermes" ++ stamp) ++ codes ">") (body_spelling message.body) in
    let six : length (codes "Hermes") ≡ 6 = refl in
    let one : length (codes ">") ≡ 1 = refl in
    let fits : length (behind_open message) + 10 ≤ most_bytes = omega (arith, k, l, m, six, one, stamped, small) in
    subst IsOneFrame (spelled message) (one_frame (behind_open message) still fits)
