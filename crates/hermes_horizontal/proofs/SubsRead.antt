-- What is read of sub boards, step by step, is what their elements say.
use Rattle.std.proofs.Common.{◌≡◌, ◌≤◌, ℕ, Bool, true, false, cond, ◌||◌, nat_lt, suc, length, List, [], ◌∷◌, ◌++◌, Option, Some, None, Result, Ok, Err, option_map, codes, refl, sym, ap, ◌∙◌, append_assoc, append-nil}
use Rattle.std.specs.Str.{bytes_eq}
use Rattle.std.proofs.lemmas.Bool.{le-ltb}
use Rattle.board_record.specs.SubBoards.{are_too_many, size_of}
use Rattle.board_record.specs.declared.sub_board.SubBoard.{SubBoard}
use Rattle.hermes_element.specs.Element.{Tree}
use Rattle.hermes_element.specs.declared.attribute.Attribute.{Attribute}
use Rattle.hermes_horizontal.specs.declared.attr.Attr.TheVariants as attrs
use Rattle.hermes_horizontal.specs.declared.fault.Fault.TheVariants as faults
use Rattle.hermes_horizontal.specs.declared.fault.Refusal.{Refusal}
use Rattle.hermes_horizontal.specs.declared.fault.MessageError.{MessageError}
use Rattle.hermes_horizontal.specs.declared.fault.MessageError.TheVariants as errors
use Rattle.hermes_horizontal.specs.Values.{Value, worded, numbered, number, text}
use Rattle.hermes_horizontal.specs.Rows.{required, optional, quality}
use Rattle.hermes_horizontal.specs.Parts.{of_quality}
use Rattle.hermes_horizontal.specs.Said.{then_ok, mapped_ok, value_at, first_named, sub_of, sub_said, each_said, sbs_among, bad_subs, if_small, subs_listed}
use Rattle.hermes_horizontal.specs.Roots.{Refuses, refusal_of_result, first_of}
use Rattle.hermes_horizontal.specs.Reading.{ReadsPart}
use Rattle.hermes_horizontal.proofs.SubsBack.{sub_of-parts}

-- ---- the attributes, and the sub boards behind them

pub attributes_refused : (said : Result (List (Option Value)) Refusal) (later : Option Refusal) (error : MessageError) → Refuses (refusal_of_result said) error → Refuses (first_of (refusal_of_result said) later) error
attributes_refused (Ok values) later (errors.Refused at why) h = absurd cc
attributes_refused (Err refusal) later (errors.Refused at why) h = h
attributes_refused said later errors.Memory h = tt

pub subs_refused : (said : Result (List (Option Value)) Refusal) (values : List (Option Value)) (later : Option Refusal) (error : MessageError) → said ≡ Ok values → Refuses later error → Refuses (first_of (refusal_of_result said) later) error
subs_refused (Ok told) values later error e h = h
subs_refused (Err refusal) values later error e h = absurd cc

-- ---- the three attributes of an SB

abbrev pos_at : Tree → Result (Option Value) Refusal
pos_at tree = value_at tree.at (required attrs.Pos number) (first_named (codes "Pos") tree.attributes)

abbrev barcode_at : Tree → Result (Option Value) Refusal
barcode_at tree = value_at tree.at (optional attrs.Bc text) (first_named (codes "Bc") tree.attributes)

abbrev state_at : Tree → Result (Option Value) Refusal
state_at tree = value_at tree.at (required attrs.St quality) (first_named (codes "St") tree.attributes)

abbrev three : Result (Option Value) Refusal → Result (Option Value) Refusal → Result (Option Value) Refusal → Result SubBoard Refusal
three first second third =
    mapped_ok sub_of (then_ok first (λ a. mapped_ok (λ values. a ∷ values) (then_ok second (λ b. mapped_ok (λ values. b ∷ values) (then_ok third (λ d. mapped_ok (λ values. d ∷ values) (Ok [])))))))

barcode_is : (at : ℕ) (found : Option Attribute) → value_at at (optional attrs.Bc text) found ≡ Ok (option_map worded (option_map (λ (a : Attribute). a.value) found))
barcode_is at None = refl
barcode_is at (Some attribute) = refl

first_refused : (refusal : Refusal) (first second third : Result (Option Value) Refusal) → first ≡ Err refusal → three first second third ≡ Err refusal
first_refused refusal first second third e = rw e refl

third_refused : (refusal : Refusal) (a b : Option Value) (first second third : Result (Option Value) Refusal) → first ≡ Ok a → second ≡ Ok b → third ≡ Err refusal → three first second third ≡ Err refusal
third_refused refusal a b first second third e d f = rw (e, d, f) refl

all_told : (a b d : Option Value) (first second third : Result (Option Value) Refusal) → first ≡ Ok a → second ≡ Ok b → third ≡ Ok d → three first second third ≡ Ok (sub_of (a ∷ b ∷ d ∷ []))
all_told a b d first second third e f g = rw (e, f, g) refl

pub pos_refused : (tree : Tree) (refusal : Refusal) → pos_at tree ≡ Err refusal → sub_said tree ≡ Err refusal
pos_refused tree refusal e = first_refused refusal (pos_at tree) (barcode_at tree) (state_at tree) e

pub state_refused : (tree : Tree) (pos : ℕ) (refusal : Refusal) → pos_at tree ≡ Ok (Some (numbered pos)) → state_at tree ≡ Err refusal → sub_said tree ≡ Err refusal
state_refused tree pos refusal e d =
    third_refused refusal (Some (numbered pos)) (option_map worded (option_map (λ (a : Attribute). a.value) (first_named (codes "Bc") tree.attributes)))
    (pos_at tree) (barcode_at tree) (state_at tree) e (barcode_is tree.at (first_named (codes "Bc") tree.attributes)) d

pub said_refused : (said : Result SubBoard Refusal) (refusal : Refusal) (error : MessageError) (result : Result SubBoard MessageError) → result ≡ Err error → error ≡ errors.Refused refusal.at refusal.why → said ≡ Err refusal
    → ReadsPart (λ (sub : SubBoard). sub) result said
said_refused said refusal error result e d f = rw (e, d, f) refl

pub sub_told : (tree : Tree) (sub : SubBoard) → pos_at tree ≡ Ok (Some (numbered sub.pos)) → option_map (λ (a : Attribute). a.value) (first_named (codes "Bc") tree.attributes) ≡ sub.barcode
    → state_at tree ≡ Ok (Some (of_quality sub.state)) → sub_said tree ≡ Ok sub
sub_told tree sub e d f =
    let barcode : barcode_at tree ≡ Ok (option_map worded sub.barcode) =
    barcode_is tree.at (first_named (codes "Bc") tree.attributes) ∙ ap (λ (o : Option (List ℕ)). let r : Result (Option Value) Refusal = Ok (option_map worded o) in r) d in
    all_told (Some (numbered sub.pos)) (option_map worded sub.barcode) (Some (of_quality sub.state)) (pos_at tree) (barcode_at tree) (state_at tree) e barcode f
    ∙ ap (λ (s : SubBoard). let r : Result SubBoard Refusal = Ok s in r) (sub_of-parts sub)

-- ---- each of a list: what was told so far, and what the rest says

pub record IsTold (told : List SubBoard) (trees : List Tree) (all : Result (List SubBoard) Refusal) : Type 0 where
  pub same : mapped_ok (λ behind. told ++ behind) (each_said (sbs_among trees)) ≡ all

same_all : (all : Result (List SubBoard) Refusal) → mapped_ok (λ behind. [] ++ behind) all ≡ all
same_all (Ok subs) = refl
same_all (Err refusal) = refl

pub told_first : (trees : List Tree) → IsTold [] trees (each_said (sbs_among trees))
told_first trees = record { same = same_all (each_said (sbs_among trees)) }

among_more : (tree : Tree) (trees : List Tree) (b : Bool) → bytes_eq tree.name (codes "SB") ≡ b → sbs_among (tree ∷ trees) ≡ cond b (tree ∷ sbs_among trees) (sbs_among trees)
among_more tree trees b e = ap (λ (x : Bool). cond x (tree ∷ sbs_among trees) (sbs_among trees)) e

pub told_past : (told : List SubBoard) (tree : Tree) (trees : List Tree) (all : Result (List SubBoard) Refusal) → bytes_eq tree.name (codes "SB") ≡ false → IsTold told (tree ∷ trees) all → IsTold told trees all
told_past told tree trees all other h = record { same = ap (λ (l : List Tree). mapped_ok (λ behind. told ++ behind) (each_said l)) (sym (among_more tree trees false other)) ∙ h.same }

pushed : (told : List SubBoard) (sub : SubBoard) (rest : Result (List SubBoard) Refusal)
    → mapped_ok (λ behind. (told ++ sub ∷ []) ++ behind) rest ≡ mapped_ok (λ behind. told ++ behind) (then_ok (Ok sub) (λ x. mapped_ok (λ subs. x ∷ subs) rest))
pushed told sub (Ok subs) = ap (λ (l : List SubBoard). let r : Result (List SubBoard) Refusal = Ok l in r) (append_assoc told (sub ∷ []) subs)
pushed told sub (Err refusal) = refl

pub told_more : (told : List SubBoard) (tree : Tree) (trees : List Tree) (all : Result (List SubBoard) Refusal) (sub : SubBoard) → bytes_eq tree.name (codes "SB") ≡ true → sub_said tree ≡ Ok sub
    → IsTold told (tree ∷ trees) all → IsTold (told ++ sub ∷ []) trees all
told_more told tree trees all sub is said h =
    let rest = each_said (sbs_among trees) in
    record {
      same = pushed told sub rest
          ∙ ap (λ (r : Result SubBoard Refusal). mapped_ok (λ behind. told ++ behind) (then_ok r (λ x. mapped_ok (λ subs. x ∷ subs) rest))) (sym said)
          ∙ ap (λ (l : List Tree). mapped_ok (λ behind. told ++ behind) (each_said l)) (sym (among_more tree trees true is))
          ∙ h.same;
    }

pub told_refused : (told : List SubBoard) (tree : Tree) (trees : List Tree) (all : Result (List SubBoard) Refusal) (refusal : Refusal) → bytes_eq tree.name (codes "SB") ≡ true → sub_said tree ≡ Err refusal
    → IsTold told (tree ∷ trees) all → all ≡ Err refusal
told_refused told tree trees all refusal is said h =
    let rest = each_said (sbs_among trees) in
    sym h.same
    ∙ ap (λ (l : List Tree). mapped_ok (λ behind. told ++ behind) (each_said l)) (among_more tree trees true is)
    ∙ ap (λ (r : Result SubBoard Refusal). mapped_ok (λ behind. told ++ behind) (then_ok r (λ x. mapped_ok (λ subs. x ∷ subs) rest))) said

said_err : (said : Result SubBoard Refusal) (refusal : Refusal) → refusal_of_result said ≡ Some refusal → said ≡ Err refusal
said_err (Ok sub) refusal e = absurd cc
said_err (Err other) refusal e = let same : other ≡ refusal = cc in ap (λ (r : Refusal). let s : Result SubBoard Refusal = Err r in s) same

each_error : (told : List SubBoard) (tree : Tree) (trees : List Tree) (all : Result (List SubBoard) Refusal) (error : MessageError) → bytes_eq tree.name (codes "SB") ≡ true
    → Refuses (refusal_of_result (sub_said tree)) error → IsTold told (tree ∷ trees) all → Refuses (refusal_of_result all) error
each_error told tree trees all (errors.Refused at why) is refused h =
    let refusal : Refusal = record { at = at; why = why } in
    ap (λ (r : Result (List SubBoard) Refusal). refusal_of_result r) (told_refused told tree trees all refusal is (said_err (sub_said tree) refusal refused) h)
each_error told tree trees all errors.Memory is refused h = tt

pub each_refused : {Part : Type 0} (view : Part → List SubBoard) (result : Result Part MessageError) (told : List SubBoard) (tree : Tree) (trees : List Tree) (all : Result (List SubBoard) Refusal) (error given : MessageError)
    → result ≡ Err error → error ≡ given → bytes_eq tree.name (codes "SB") ≡ true → Refuses (refusal_of_result (sub_said tree)) given → IsTold told (tree ∷ trees) all → ReadsPart view result all
each_refused view result told tree trees all error given e same is refused h = rw (e, same) (each_error told tree trees all given is refused h)

pub told_all : (told : List SubBoard) (all : Result (List SubBoard) Refusal) → IsTold told [] all → all ≡ Ok told
told_all told all h = sym h.same ∙ ap (λ (l : List SubBoard). let r : Result (List SubBoard) Refusal = Ok l in r) (append-nil told)

-- ---- a list that is too large

many_then : (first : Result SubBoard Refusal) (behind : Result (List SubBoard) Refusal) (n : ℕ) (subs : List SubBoard) → ((rest : List SubBoard) → behind ≡ Ok rest → n ≡ length rest)
    → then_ok first (λ sub. mapped_ok (λ rest. sub ∷ rest) behind) ≡ Ok subs → suc n ≡ length subs
many_then (Err refusal) behind n subs many e = absurd cc
many_then (Ok sub) (Err refusal) n subs many e = absurd cc
many_then (Ok sub) (Ok rest) n [] many e = absurd cc
many_then (Ok sub) (Ok rest) n (one ∷ subs) many e = let same : rest ≡ subs = cc in ap suc (many subs (ap (λ (l : List SubBoard). let r : Result (List SubBoard) Refusal = Ok l in r) same))

each_many : (sbs : List Tree) (subs : List SubBoard) → each_said sbs ≡ Ok subs → length sbs ≡ length subs
each_many [] [] e = refl
each_many [] (sub ∷ subs) e = absurd cc
each_many (tree ∷ trees) subs e = many_then (sub_said tree) (each_said trees) (length trees) subs (each_many trees) e

second : (a b : Bool) → a ≡ false → (a || b) ≡ true → b ≡ true
second true b e h = absurd cc
second false b e h = h

too_large : (at : ℕ) (sbs : List Tree) (subs : List SubBoard) → nat_lt 256 (length sbs) ≡ false → each_said sbs ≡ Ok subs → are_too_many subs ≡ true → subs_listed at sbs ≡ Err (bad_subs at)
too_large at sbs subs few said many =
    let within : nat_lt 256 (length subs) ≡ false = ap (λ (n : ℕ). nat_lt 256 n) (sym (each_many sbs subs said)) ∙ few in
    let large : nat_lt 24576 (size_of subs) ≡ true = second (nat_lt 256 (length subs)) (nat_lt 24576 (size_of subs)) within many in
    ap (λ (b : Bool). cond b (Err (bad_subs at)) (then_ok (each_said sbs) (if_small at))) few
    ∙ ap (λ (r : Result (List SubBoard) Refusal). then_ok r (if_small at)) said
    ∙ ap (λ (b : Bool). let r : Result (List SubBoard) Refusal = cond b (Err (bad_subs at)) (Ok subs) in r) large

bad_error : (at : ℕ) (said : Result (List SubBoard) Refusal) → said ≡ Err (bad_subs at) → Refuses (refusal_of_result said) (errors.Refused at (faults.BadValue attrs.SubBoards))
bad_error at said e = rw e refl

pub large_refused : (at count : ℕ) (sbs : List Tree) (subs : List SubBoard) (error : MessageError) → count ≡ length sbs → count ≤ 256 → each_said sbs ≡ Ok subs → are_too_many subs ≡ true
    → error ≡ errors.Refused at (faults.BadValue attrs.SubBoards) → Refuses (refusal_of_result (subs_listed at sbs)) error
large_refused at count sbs subs error counted few said many e =
    rw e (bad_error at (subs_listed at sbs) (too_large at sbs subs (ap (λ (n : ℕ). nat_lt 256 n) (sym counted) ∙ le-ltb 256 count few) said many))
