-- An element says at most one message, and none where it is refused.
use Rattle.std.proofs.Common.{◌≡◌, ℕ, ℤ, List, Option, Some, None, Result, Ok, Err, refl, sym, ap, subst, ◌∙◌}
use Rattle.line_base.specs.declared.states.Quality.{Quality}
use Rattle.line_base.specs.declared.states.Quality.TheVariants as qualities
use Rattle.line_base.specs.declared.states.Flip.{Flip}
use Rattle.line_base.specs.declared.states.Flip.TheVariants as flips
use Rattle.line_base.specs.declared.states.Transfer.{Transfer}
use Rattle.board_record.specs.declared.record.Record.{Record}
use Rattle.board_record.specs.declared.sub_board.SubBoard.{SubBoard}
use Rattle.hermes_element.specs.Element.{Tree, trees_of}
use Rattle.hermes_horizontal.specs.declared.fault.Refusal.{Refusal}
use Rattle.hermes_horizontal.specs.declared.kind.Kind.{Kind}
use Rattle.hermes_horizontal.specs.declared.kind.Kind.TheVariants as kinds
use Rattle.hermes_horizontal.specs.declared.message.Info.{Info}
use Rattle.hermes_horizontal.specs.declared.message.Service.{Service}
use Rattle.hermes_horizontal.specs.declared.message.Horizontal.{Horizontal}
use Rattle.hermes_horizontal.specs.declared.message.Horizontal.TheVariants as bodies
use Rattle.hermes_horizontal.specs.declared.message.Message.{Message}
use Rattle.hermes_horizontal.specs.Values.{Value}
use Rattle.hermes_horizontal.specs.Rows.{columns_of}
use Rattle.hermes_horizontal.specs.Parts.{parts, info_of, info_parts, Inner, subbed, inner_of, kind_of, name_of}
use Rattle.hermes_horizontal.specs.Spelling.{values_of, mapped_ok, subs_in, first_of, inner_said, row_refusal, SaysBody, Says, body_refusal, refusal_of, refusal_of_result}
use Rattle.hermes_horizontal.proofs.PartsBack.{text_in, number_in, id_in, decimal_in, or_zero, or_empty, severity_from, transfer_from, ping_in, quality_in, flip_in, text_back, id_back, decimal_back, ping_back, quality_is, quality_back, flip_back, severity_back, transfer_back, part, features_inside, subs_inside}
use Rattle.hermes_horizontal.proofs.Rooted.{IsChannel, same_root, not_refused_root}

-- ---- a message from its name, its kind, its values and its features

abbrev info_from : List (Option Value) → List SubBoard → Info
info_from values subs = record {
  id = id_in (part values 0);
  created_by = text_in (part values 1);
  quality = quality_in (part values 2);
  flip = flip_in (part values 3);
  product = text_in (part values 4);
  top = text_in (part values 5);
  bottom = text_in (part values 6);
  length = decimal_in (part values 7);
  width = decimal_in (part values 8);
  thickness = decimal_in (part values 9);
  speed = decimal_in (part values 10);
  top_clearance = decimal_in (part values 11);
  bottom_clearance = decimal_in (part values 12);
  weight = decimal_in (part values 13);
  order = text_in (part values 14);
  batch = text_in (part values 15);
  subs = subs;
}

abbrev or_unknown : Option Quality → Quality
or_unknown None = qualities.Unknown
or_unknown (Some quality) = quality

abbrev or_either : Option Flip → Flip
or_either None = flips.Unknown
or_either (Some flip) = flip

abbrev record_from : Info → Record
record_from info = record {
  id = or_zero info.id;
  created_by = or_empty info.created_by;
  quality = or_unknown info.quality;
  flip = or_either info.flip;
  product = info.product;
  top = info.top;
  bottom = info.bottom;
  length = info.length;
  width = info.width;
  thickness = info.thickness;
  speed = info.speed;
  top_clearance = info.top_clearance;
  bottom_clearance = info.bottom_clearance;
  weight = info.weight;
  order = info.order;
  batch = info.batch;
  subs = info.subs;
}

abbrev service_from : List (Option Value) → Inner → Service
service_from values inner = record {
  machine = or_empty (text_in (part values 0));
  lane = or_zero (number_in (part values 1));
  version = or_empty (text_in (part values 3));
  interface = text_in (part values 2);
  features = features_inside inner;
}

abbrev transfer_at : List (Option Value) → Transfer
transfer_at values = transfer_from (or_zero (number_in (part values 0)))

abbrev made : List ℕ → Kind → List (Option Value) → Inner → Horizontal
made name kinds.CheckAlive values inner = bodies.CheckAlive (ping_in (part values 0)) (text_in (part values 1))
made name kinds.ServiceDescription values inner = bodies.ServiceDescription (service_from values inner)
made name kinds.Notification values inner = bodies.Notification (record { number = or_zero (number_in (part values 0)) }) (severity_from (or_zero (number_in (part values 1)))) (or_empty (text_in (part values 2)))
made name kinds.BoardAvailable values inner = bodies.BoardAvailable (record_from (info_from values (subs_inside inner)))
made name kinds.RevokeBoardAvailable values inner = bodies.RevokeBoardAvailable
made name kinds.MachineReady values inner = bodies.MachineReady (or_unknown (quality_in (part values 0)))
made name kinds.RevokeMachineReady values inner = bodies.RevokeMachineReady
made name kinds.StartTransport values inner = bodies.StartTransport (or_zero (id_in (part values 0)))
made name kinds.StopTransport values inner = bodies.StopTransport (transfer_at values) (or_zero (id_in (part values 1)))
made name kinds.TransportFinished values inner = bodies.TransportFinished (transfer_at values) (or_zero (id_in (part values 1)))
made name kinds.BoardForecast values inner = bodies.BoardForecast (info_from values (subs_inside inner))
made name kinds.QueryBoardInfo values inner = bodies.QueryBoardInfo (text_in (part values 0)) (text_in (part values 1))
made name kinds.SendBoardInfo values inner = bodies.SendBoardInfo (info_from values (subs_inside inner))
made name kinds.Other values inner = bodies.Other name

info_back : (info : Info) → info_from (info_parts info) info.subs ≡ info
info_back info = simp (text_back, id_back, decimal_back, quality_back, flip_back)

pub made_back : (body : Horizontal) → made (name_of body) (kind_of body) (parts body) (inner_of body) ≡ body
made_back (bodies.CheckAlive ping id) = simp (ping_back, text_back)
made_back (bodies.ServiceDescription service) = simp text_back
made_back (bodies.Notification code severity text) = rw (severity_back severity) refl
made_back (bodies.BoardAvailable board) = ap (λ (info : Info). bodies.BoardAvailable (record_from info)) (info_back (info_of board))
made_back bodies.RevokeBoardAvailable = refl
made_back (bodies.MachineReady quality) = ap (λ q. bodies.MachineReady (or_unknown q)) (quality_is quality)
made_back bodies.RevokeMachineReady = refl
made_back (bodies.StartTransport id) = refl
made_back (bodies.StopTransport state id) = ap (λ t. bodies.StopTransport t id) (transfer_back state)
made_back (bodies.TransportFinished state id) = ap (λ t. bodies.TransportFinished t id) (transfer_back state)
made_back (bodies.BoardForecast info) = ap bodies.BoardForecast (info_back info)
made_back (bodies.QueryBoardInfo top bottom) = simp text_back
made_back (bodies.SendBoardInfo info) = ap bodies.SendBoardInfo (info_back info)
made_back (bodies.Other name) = refl

made_same : (name name' : List ℕ) (kind kind' : Kind) (values values' : List (Option Value)) (inner inner' : Inner)
    → name ≡ name' → kind ≡ kind' → values ≡ values' → inner ≡ inner' → made name kind values inner ≡ made name' kind' values' inner'
made_same name name' kind kind' values values' inner inner' e d f g =
    ap (λ n. made n kind values inner) e ∙ ap (λ k. made name' k values inner) d ∙ ap (λ v. made name' kind' v inner) f ∙ ap (made name' kind' values') g

inner_same : (x y : Inner) (r : Result Inner Refusal) → r ≡ Ok x → r ≡ Ok y → x ≡ y
inner_same x y r e d = cc

pub ok_same : (x y : List (Option Value)) (r : Result (List (Option Value)) Refusal) → r ≡ Ok x → r ≡ Ok y → x ≡ y
ok_same x y r e d = cc

-- the element of a message says one body at most
pub same_body : (child : Tree) (a b : Horizontal) → SaysBody child a → SaysBody child b → a ≡ b
same_body child a b says_a says_b =
    let kind : kind_of a ≡ kind_of b = sym says_a.kind ∙ says_b.kind in
    let values_a = subst (λ (k : Kind). values_of child.at child.attributes (columns_of k) ≡ Ok (parts a)) kind says_a.values in
    let values = ok_same (parts a) (parts b) (values_of child.at child.attributes (columns_of (kind_of b))) values_a says_b.values in
    let inner_a = subst (λ (k : Kind). inner_said k child.children ≡ Ok (inner_of a)) kind says_a.inner in
    let inner = inner_same (inner_of a) (inner_of b) (inner_said (kind_of b) child.children) inner_a says_b.inner in
    sym (made_back a) ∙ made_same (name_of a) (name_of b) (kind_of a) (kind_of b) (parts a) (parts b) (inner_of a) (inner_of b) (sym says_a.name ∙ says_b.name) kind values inner ∙ made_back b

-- what says a body is not refused
no_refusal : (said : Result (List (Option Value)) Refusal) (subs : Result (List SubBoard) Refusal) (values : List (Option Value)) (inner : Inner)
    → said ≡ Ok values → mapped_ok subbed subs ≡ Ok inner → first_of (refusal_of_result said) (refusal_of_result subs) ≡ None
no_refusal said (Ok subs) values inner e d = ap (λ (r : Result (List (Option Value)) Refusal). first_of (refusal_of_result r) None) e
no_refusal said (Err refusal) values inner e d = absurd cc

row_unrefused : (kind : Kind) (child : Tree) (values : List (Option Value)) (inner : Inner)
    → values_of child.at child.attributes (columns_of kind) ≡ Ok values → inner_said kind child.children ≡ Ok inner → row_refusal kind child.at child.attributes child.children ≡ None
row_unrefused kinds.CheckAlive child values inner e d = ap refusal_of_result e
row_unrefused kinds.ServiceDescription child values inner e d = ap refusal_of_result e
row_unrefused kinds.Notification child values inner e d = ap refusal_of_result e
row_unrefused kinds.BoardAvailable child values inner e d = no_refusal (values_of child.at child.attributes (columns_of kinds.BoardAvailable)) (subs_in (trees_of child.children)) values inner e d
row_unrefused kinds.RevokeBoardAvailable child values inner e d = ap refusal_of_result e
row_unrefused kinds.MachineReady child values inner e d = ap refusal_of_result e
row_unrefused kinds.RevokeMachineReady child values inner e d = ap refusal_of_result e
row_unrefused kinds.StartTransport child values inner e d = ap refusal_of_result e
row_unrefused kinds.StopTransport child values inner e d = ap refusal_of_result e
row_unrefused kinds.TransportFinished child values inner e d = ap refusal_of_result e
row_unrefused kinds.BoardForecast child values inner e d = ap refusal_of_result e
row_unrefused kinds.QueryBoardInfo child values inner e d = ap refusal_of_result e
row_unrefused kinds.SendBoardInfo child values inner e d = no_refusal (values_of child.at child.attributes (columns_of kinds.SendBoardInfo)) (subs_in (trees_of child.children)) values inner e d
row_unrefused kinds.Other child values inner e d = ap refusal_of_result e

unrefused : (child : Tree) (body : Horizontal) → SaysBody child body → body_refusal child ≡ None
unrefused child body says =
    ap (λ (k : Kind). row_refusal k child.at child.attributes child.children) says.kind ∙ row_unrefused (kind_of body) child (parts body) (inner_of body) says.values says.inner

message_same : (a b : Message) → a.stamp ≡ b.stamp → a.body ≡ b.body → a ≡ b
message_same a b stamp body =
    ap (λ (s : Option ℤ). let m : Message = record { stamp = s; body = a.body } in m) stamp ∙ ap (λ (x : Horizontal). let m : Message = record { stamp = b.stamp; body = x } in m) body

-- a root says one message at most, and none where it is refused
pub horizontal : IsChannel Says refusal_of
horizontal = record {
  once = λ tree a b says_a says_b.
      let same = same_root SaysBody same_body tree a.stamp b.stamp a.body b.body says_a says_b in
      message_same a b same.0 same.1;
  unrefused = λ tree message says. not_refused_root SaysBody body_refusal unrefused tree message.stamp message.body says;
}

pub same_message : (tree : Tree) (a b : Message) → Says tree a → Says tree b → a ≡ b
same_message = horizontal.once
