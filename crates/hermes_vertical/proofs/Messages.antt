-- An element says at most one supervisory message, and none where it is refused.
use Rattle.std.proofs.Common.{◌≡◌, ℕ, ℤ, ◌==◌, cond, List, Option, Some, None, Ok, refl, sym, ap, subst, ◌∙◌}
use Rattle.hermes_horizontal.proofs.Messages.{ok_same}
use Rattle.hermes_element.specs.Element.{Tree}
use Rattle.hermes_horizontal.specs.declared.message.Features.{Features}
use Rattle.hermes_horizontal.specs.Values.{Value}
use Rattle.hermes_horizontal.specs.Roots.{refusal_of_result}
use Rattle.hermes_horizontal.proofs.PartsBack.{text_in, number_in, id_in, or_zero, or_empty, severity_from, ping_in, text_back, ping_back, severity_back, part, or_no_features}
use Rattle.hermes_horizontal.proofs.Rooted.{IsChannel, same_root, not_refused_root}
use Rattle.hermes_vertical.specs.declared.kind.VerticalKind.{VerticalKind}
use Rattle.hermes_vertical.specs.declared.kind.VerticalKind.TheVariants as kinds
use Rattle.hermes_vertical.specs.declared.message.Passage.{Passage}
use Rattle.hermes_vertical.specs.declared.message.Passing.{Passing}
use Rattle.hermes_vertical.specs.declared.message.Passing.TheVariants as passings
use Rattle.hermes_vertical.specs.declared.message.Question.{Question}
use Rattle.hermes_vertical.specs.declared.message.Question.TheVariants as questions
use Rattle.hermes_vertical.specs.declared.message.System.{System}
use Rattle.hermes_vertical.specs.declared.message.Vertical.{Vertical}
use Rattle.hermes_vertical.specs.declared.message.Vertical.TheVariants as bodies
use Rattle.hermes_vertical.specs.declared.message.VerticalMessage.{VerticalMessage}
use Rattle.hermes_vertical.specs.Parts.{parts, features_of, kind_of, name_of, of_passing}
use Rattle.hermes_vertical.specs.Spelling.{row_values, features_said, SaysBody, Says, body_refusal, refusal_of}

-- ---- a message from its name, its kind, its values and its features

abbrev passing_from : ℕ → Passing
passing_from n = cond (n == 1) passings.Transferred (cond (n == 2) passings.Loaded passings.ByHand)

passing_back : (how : Passing) → passing_from (or_zero (number_in (Some (of_passing how)))) ≡ how
passing_back passings.Transferred = refl
passing_back passings.Loaded = refl
passing_back passings.ByHand = refl

abbrev system_from : List (Option Value) → Option Features → System
system_from values features = record { system = or_empty (text_in (part values 0)); version = or_empty (text_in (part values 1)); features = or_no_features features }

abbrev passage_from : List (Option Value) → Passage
passage_from values = record {
  machine = or_empty (text_in (part values 0));
  lane = or_zero (number_in (part values 1));
  how = passing_from (or_zero (number_in (part values 2)));
  id = or_zero (id_in (part values 3));
}

abbrev question_from : Option (List ℕ) → Option (List ℕ) → Option (List ℕ) → Option ℕ → Question
question_from (Some barcode) order magazine slot = questions.Barcode barcode
question_from None (Some order) magazine slot = questions.Order order
question_from None None magazine slot = questions.Place (or_empty magazine) (or_zero slot)

abbrev made : List ℕ → VerticalKind → List (Option Value) → Option Features → Vertical
made name kinds.SupervisoryServiceDescription values features = bodies.SupervisoryServiceDescription (system_from values features)
made name kinds.BoardArrived values features = bodies.BoardArrived (passage_from values)
made name kinds.BoardDeparted values features = bodies.BoardDeparted (passage_from values)
made name kinds.QueryWorkOrderInfo values features =
    bodies.QueryWorkOrderInfo (or_zero (number_in (part values 0))) (question_from (text_in (part values 1)) (text_in (part values 2)) (text_in (part values 3)) (number_in (part values 4)))
made name kinds.SendWorkOrderInfo values features =
    bodies.SendWorkOrderInfo (or_zero (number_in (part values 0))) (or_empty (text_in (part values 1))) (text_in (part values 2)) (text_in (part values 3))
made name kinds.CheckAlive values features = bodies.CheckAlive (ping_in (part values 0)) (text_in (part values 1))
made name kinds.Notification values features = bodies.Notification (record { number = or_zero (number_in (part values 0)) }) (severity_from (or_zero (number_in (part values 1)))) (or_empty (text_in (part values 2)))
made name kinds.Other values features = bodies.Other name

passage_back : (passage : Passage) → record passage { how = passing_from (or_zero (number_in (Some (of_passing passage.how)))) } ≡ passage
passage_back passage = ap (λ (how : Passing). record passage { how = how }) (passing_back passage.how)

made_back : (body : Vertical) → made (name_of body) (kind_of body) (parts body) (features_of body) ≡ body
made_back (bodies.SupervisoryServiceDescription system) = refl
made_back (bodies.BoardArrived passage) = ap bodies.BoardArrived (passage_back passage)
made_back (bodies.BoardDeparted passage) = ap bodies.BoardDeparted (passage_back passage)
made_back (bodies.QueryWorkOrderInfo query (questions.Barcode barcode)) = refl
made_back (bodies.QueryWorkOrderInfo query (questions.Order order)) = refl
made_back (bodies.QueryWorkOrderInfo query (questions.Place magazine slot)) = refl
made_back (bodies.SendWorkOrderInfo query order batch product) = simp text_back
made_back (bodies.CheckAlive ping id) = simp (ping_back, text_back)
made_back (bodies.Notification code severity text) = rw (severity_back severity) refl
made_back (bodies.Other name) = refl

made_same : (name name' : List ℕ) (kind kind' : VerticalKind) (values values' : List (Option Value)) (features features' : Option Features)
    → name ≡ name' → kind ≡ kind' → values ≡ values' → features ≡ features' → made name kind values features ≡ made name' kind' values' features'
made_same name name' kind kind' values values' features features' e d f g =
    ap (λ n. made n kind values features) e ∙ ap (λ k. made name' k values features) d ∙ ap (λ v. made name' kind' v features) f ∙ ap (made name' kind' values') g

-- the element of a message says one body at most
same_body : (child : Tree) (a b : Vertical) → SaysBody child a → SaysBody child b → a ≡ b
same_body child a b says_a says_b =
    let kind : kind_of a ≡ kind_of b = sym says_a.kind ∙ says_b.kind in
    let values_a = subst (λ (k : VerticalKind). row_values child.at child.attributes k ≡ Ok (parts a)) kind says_a.values in
    let values = ok_same (parts a) (parts b) (row_values child.at child.attributes (kind_of b)) values_a says_b.values in
    let features = sym says_a.features ∙ ap (λ (k : VerticalKind). features_said k child.children) kind ∙ says_b.features in
    sym (made_back a) ∙ made_same (name_of a) (name_of b) (kind_of a) (kind_of b) (parts a) (parts b) (features_of a) (features_of b) (sym says_a.name ∙ says_b.name) kind values features ∙ made_back b

-- what says a body is not refused
unrefused : (child : Tree) (body : Vertical) → SaysBody child body → body_refusal child ≡ None
unrefused child body says = ap (λ (k : VerticalKind). refusal_of_result (row_values child.at child.attributes k)) says.kind ∙ ap refusal_of_result says.values

message_same : (a b : VerticalMessage) → a.stamp ≡ b.stamp → a.body ≡ b.body → a ≡ b
message_same a b stamp body =
    ap (λ (s : Option ℤ). let m : VerticalMessage = record { stamp = s; body = a.body } in m) stamp ∙ ap (λ (x : Vertical). let m : VerticalMessage = record { stamp = b.stamp; body = x } in m) body

-- a root says one message at most, and none where it is refused
pub vertical : IsChannel Says refusal_of
vertical = record {
  once = λ tree a b says_a says_b.
      let same = same_root SaysBody same_body tree a.stamp b.stamp a.body b.body says_a says_b in
      message_same a b same.0 same.1;
  unrefused = λ tree message says. not_refused_root SaysBody body_refusal unrefused tree message.stamp message.body says;
}
