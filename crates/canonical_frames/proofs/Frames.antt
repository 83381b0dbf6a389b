-- A frame whose pieces are written canonically is the canonical spelling of a message.
use Rattle.std.proofs.Common.{◌≡◌, ◌≢◌, ℕ, true, true≢false, List, [], ◌∷◌, ◌++◌, Option, option_map, codes, refl, sym, ap, subst, ◌∙◌, append_assoc}
use Rattle.std.specs.List.{flat_map}
use Rattle.line_base.specs.Name.{IsName}
use Rattle.hermes_element.specs.Element.{Tree, Forest}
use Rattle.hermes_element.specs.Spelling as form
use Rattle.hermes_element.specs.Canonical as form_text
use Rattle.hermes_element.specs.Canonical.{canonical_attribute, canonical_forest, canonical_rest, unplaced}
use Rattle.hermes_horizontal.specs.declared.kind.Kind.{Kind}
use Rattle.hermes_horizontal.specs.declared.kind.Kind.TheVariants as kinds
use Rattle.hermes_horizontal.specs.declared.message.Message.{Message}
use Rattle.hermes_horizontal.specs.Values.{Value, timed}
use Rattle.hermes_horizontal.specs.Rows.{stamp_column, columns_of, kind_text, kind_named}
use Rattle.hermes_horizontal.specs.Parts.{parts, kind_of, name_of, Inner, inner_of}
use Rattle.hermes_horizontal.specs.Spelling.{Spells}
use Rattle.hermes_horizontal.specs.Canonical.{canonical, assigned, assignment_if, attributes_of, body_spelling, rest_spelling, children_spelling, tree_of, IsProperIf, IsProperMessage, IsWritable}
use Rattle.hermes_horizontal.proofs.Bodies.{name_of-kind}
use Rattle.hermes_horizontal.proofs.PartsBack.{moment_in}
use Rattle.hermes_horizontal.proofs.Returning.{message_back}
use Rattle.hermes_horizontal.proofs.Writable.{tree_writable, tree_proper}
use Rattle.hermes_horizontal.proofs.Writing.{assigned_is, body_written, message_written}
use Rattle.canonical_frames.specs.Frame.{IsCanonical}
use Rattle.canonical_frames.specs.Pieces.{IsAssigned, AreAssigned, IsOpened, IsRow, is_recognised}
use Rattle.canonical_frames.proofs.Rows.{HasBody, IsBare, bare_writable, bare_proper, bare_children, row_body, moment_again}

-- ---- names

named_back : (kind : Kind) → is_recognised kind ≡ true → kind_named (kind_text kind) ≡ kind
named_back kinds.CheckAlive known = refl
named_back kinds.ServiceDescription known = refl
named_back kinds.Notification known = refl
named_back kinds.BoardAvailable known = refl
named_back kinds.RevokeBoardAvailable known = refl
named_back kinds.MachineReady known = refl
named_back kinds.RevokeMachineReady known = refl
named_back kinds.StartTransport known = refl
named_back kinds.StopTransport known = refl
named_back kinds.TransportFinished known = refl
named_back kinds.BoardForecast known = refl
named_back kinds.QueryBoardInfo known = refl
named_back kinds.SendBoardInfo known = refl
named_back kinds.Other known = absurd (true≢false (sym known))

kind_is_name : (kind : Kind) → IsName (kind_text kind)
kind_is_name kinds.CheckAlive = refl
kind_is_name kinds.ServiceDescription = refl
kind_is_name kinds.Notification = refl
kind_is_name kinds.BoardAvailable = refl
kind_is_name kinds.RevokeBoardAvailable = refl
kind_is_name kinds.MachineReady = refl
kind_is_name kinds.RevokeMachineReady = refl
kind_is_name kinds.StartTransport = refl
kind_is_name kinds.StopTransport = refl
kind_is_name kinds.TransportFinished = refl
kind_is_name kinds.BoardForecast = refl
kind_is_name kinds.QueryBoardInfo = refl
kind_is_name kinds.SendBoardInfo = refl
kind_is_name kinds.Other = refl

no_other : (kind : Kind) → is_recognised kind ≡ true → kind ≢ kinds.Other
no_other kind known e = true≢false (sym known ∙ ap is_recognised e)

-- ---- the text of the whole

childless_rest : (name : List ℕ) (inner : Inner) → IsBare inner → rest_spelling name inner ≡ codes "/>"
childless_rest name inner bare = ap (λ (f : Forest). canonical_rest name f (canonical_forest f)) (bare_children inner bare)

body_text : (kind : Kind) (bytes rest : List ℕ) (b : HasBody kind bytes rest) → body_spelling b.body ≡ ((codes "<" ++ name_of b.body) ++ flat_map canonical_attribute (attributes_of (columns_of kind) (parts b.body))) ++ codes "/>"
body_text kind bytes rest b =
    let front : List ℕ = codes "<" ++ name_of b.body in
    let row : List ℕ = assigned (codes "<" ++ name_of b.body) (columns_of (kind_of b.body)) (parts b.body) in
    let written = body_written b.body [] (codes "<") (codes "<" ++ name_of b.body) row (row ++ children_spelling b.body) refl refl refl refl in
    sym written
    ∙ ap (λ (t : List ℕ). t ++ children_spelling b.body) (assigned_is (codes "<" ++ name_of b.body) (columns_of (kind_of b.body)) (parts b.body))
    ∙ ap (λ (k : Kind). ((codes "<" ++ name_of b.body) ++ flat_map canonical_attribute (attributes_of (columns_of k) (parts b.body))) ++ children_spelling b.body) b.of_kind
    ∙ ap (λ (t : List ℕ). ((codes "<" ++ name_of b.body) ++ flat_map canonical_attribute (attributes_of (columns_of kind) (parts b.body))) ++ t) (childless_rest (name_of b.body) (inner_of b.body) b.childless)

message_text : (message : Message) → canonical message ≡ (((codes "<Hermes" ++ assignment_if stamp_column.attr (option_map timed message.stamp)) ++ codes ">") ++ body_spelling message.body) ++ codes "</Hermes>"
message_text message =
    sym (message_written message [] (codes "<Hermes") (codes "<Hermes" ++ assignment_if stamp_column.attr (option_map timed message.stamp))
    ((codes "<Hermes" ++ assignment_if stamp_column.attr (option_map timed message.stamp)) ++ codes ">")
    (((codes "<Hermes" ++ assignment_if stamp_column.attr (option_map timed message.stamp)) ++ codes ">") ++ body_spelling message.body)
    ((((codes "<Hermes" ++ assignment_if stamp_column.attr (option_map timed message.stamp)) ++ codes ">") ++ body_spelling message.body) ++ codes "</Hermes>") refl refl refl refl refl)

grouped : (a stamp name attributes end : List ℕ) → (((a ++ stamp) ++ (62 ∷ [])) ++ ((((60 ∷ []) ++ name) ++ attributes) ++ (47 ∷ 62 ∷ []))) ++ end ≡ a ++ (stamp ++ ((62 ∷ 60 ∷ []) ++ (name ++ (attributes ++ ((47 ∷ 62 ∷ []) ++ end)))))
grouped a stamp name attributes end = simp append_assoc

-- ---- the pieces of a frame

record HasPieces (frame : List ℕ) : Type 0 where
  kind : Kind
  recognised : is_recognised kind ≡ true
  stamp : List ℕ
  opened : List ℕ
  name : List ℕ
  row : List ℕ
  root_is : frame ≡ codes "<Hermes" ++ stamp
  stamp_is : IsAssigned stamp_column stamp opened
  opened_is : opened ≡ codes "><" ++ name
  name_is : name ≡ kind_text kind ++ row
  row_is : AreAssigned (columns_of kind) row (codes "/></Hermes>")

pieces : (frame child : List ℕ) → IsOpened frame child → IsRow child → HasPieces frame
pieces frame child root row = record {
  kind = row.kind;
  recognised = row.recognised;
  stamp = root.stamp;
  opened = root.end;
  name = child;
  row = row.row;
  root_is = root.root;
  stamp_is = root.told;
  opened_is = root.closed;
  name_is = row.named;
  row_is = row.assigned;
}

-- what the law of written elements says
abbrev pub ReadsBack : Type 0
ReadsBack = (tree : Tree) → form_text.IsProper tree → form_text.IsWritable tree → (found : Tree) × form.Spells (form_text.canonical tree) found × (unplaced found ≡ unplaced tree)

said_by : (frame : List ℕ) (p : HasPieces frame) → HasBody p.kind p.row (codes "/></Hermes>")
said_by frame p = row_body p.kind p.row (codes "/></Hermes>") p.recognised p.row_is

abbrev message_of : (frame : List ℕ) (p : HasPieces frame) → HasBody p.kind p.row (codes "/></Hermes>") → Message
message_of frame p b = record { stamp = moment_in p.stamp_is.value; body = b.body }

same_stamp : (frame : List ℕ) (p : HasPieces frame) → option_map timed (moment_in p.stamp_is.value) ≡ p.stamp_is.value
same_stamp frame p = moment_again p.stamp_is.value p.stamp_is.fit

same_name : (kind : Kind) (bytes rest : List ℕ) (b : HasBody kind bytes rest) → is_recognised kind ≡ true → name_of b.body ≡ kind_text kind
same_name kind bytes rest b known = name_of-kind b.body (λ e. no_other kind known (sym b.of_kind ∙ e)) ∙ ap kind_text b.of_kind

writable : (frame : List ℕ) (p : HasPieces frame) (b : HasBody p.kind p.row (codes "/></Hermes>")) → IsWritable (message_of frame p b)
writable frame p b = record {
  numbers = b.numbers;
  subs = bare_writable (inner_of b.body) b.childless;
  named = ap kind_named (same_name p.kind p.row (codes "/></Hermes>") b p.recognised) ∙ named_back p.kind p.recognised ∙ sym b.of_kind;
}

proper : (frame : List ℕ) (p : HasPieces frame) (b : HasBody p.kind p.row (codes "/></Hermes>")) → IsProperMessage (message_of frame p b)
proper frame p b = record {
  stamp = subst IsProperIf (sym (same_stamp frame p)) p.stamp_is.proper;
  name = subst IsName (sym (same_name p.kind p.row (codes "/></Hermes>") b p.recognised)) (kind_is_name p.kind);
  values = b.proper;
  subs = bare_proper (inner_of b.body) b.childless;
}

written : (frame : List ℕ) (p : HasPieces frame) (b : HasBody p.kind p.row (codes "/></Hermes>")) → canonical (message_of frame p b) ≡ frame
written frame p b =
    let end : List ℕ = codes "/></Hermes>" in
    let stamp : List ℕ = assignment_if stamp_column.attr p.stamp_is.value in
    let attributes : List ℕ = flat_map canonical_attribute (attributes_of (columns_of p.kind) (parts b.body)) in
    message_text (message_of frame p b)
    ∙ ap (λ (v : Option Value). (((codes "<Hermes" ++ assignment_if stamp_column.attr v) ++ codes ">") ++ body_spelling b.body) ++ codes "</Hermes>") (same_stamp frame p)
    ∙ ap (λ (t : List ℕ). (((codes "<Hermes" ++ assignment_if stamp_column.attr p.stamp_is.value) ++ codes ">") ++ t) ++ codes "</Hermes>") (body_text p.kind p.row (codes "/></Hermes>") b)
    ∙ grouped (codes "<Hermes") (assignment_if stamp_column.attr p.stamp_is.value) (name_of b.body) (flat_map canonical_attribute (attributes_of (columns_of p.kind) (parts b.body))) (codes "</Hermes>")
    ∙ ap (λ (t : List ℕ). codes "<Hermes" ++ (assignment_if stamp_column.attr p.stamp_is.value ++ (codes "><" ++ (name_of b.body ++ t)))) (sym b.spelled)
    ∙ ap (λ (t : List ℕ). codes "<Hermes" ++ (assignment_if stamp_column.attr p.stamp_is.value ++ (codes "><" ++ (t ++ p.row)))) (same_name p.kind p.row (codes "/></Hermes>") b p.recognised)
    ∙ ap (λ (t : List ℕ). codes "<Hermes" ++ (assignment_if stamp_column.attr p.stamp_is.value ++ (codes "><" ++ t))) (sym p.name_is)
    ∙ ap (λ (t : List ℕ). codes "<Hermes" ++ (assignment_if stamp_column.attr p.stamp_is.value ++ t)) (sym p.opened_is)
    ∙ ap (λ (t : List ℕ). codes "<Hermes" ++ t) (sym p.stamp_is.spelled)
    ∙ sym p.root_is

with_pieces : (frame : List ℕ) → ReadsBack → HasPieces frame → IsCanonical frame
with_pieces frame law p =
    let b = said_by frame p in
    let message : Message = message_of frame p b in
    let is_writable = writable frame p b in
    let is_proper = proper frame p b in
    let read = law (tree_of (message_of frame p b)) (tree_proper (message_of frame p b) is_proper is_writable) (tree_writable (message_of frame p b)) in
    let is = written frame p b in
    record {
      message = message_of frame p b;
      named = λ e. no_other p.kind p.recognised (sym b.of_kind ∙ e);
      writable = is_writable;
      proper = is_proper;
      written = is;
      spelled = subst (λ (bytes : List ℕ). Spells bytes (message_of frame p b)) is
          (record { tree = read.0; element = read.1; says = message_back (message_of frame p b) read.0 is_proper is_writable read.2 });
    }

pub frame_canonical : (frame child : List ℕ) → ReadsBack → IsOpened frame child → IsRow child → IsCanonical frame
frame_canonical frame child law root row = with_pieces frame law (pieces frame child root row)
