-- What is said of a question whose number was read first, and then how it is asked.
use Rattle.std.proofs.Common.{◌≡◌, ℕ, List, ◌∷◌, Option, Result, Ok, Err, refl, sym, ap, subst, ◌∙◌}
use Rattle.hermes_element.specs.declared.attribute.Attribute.{Attribute}
use Rattle.hermes_horizontal.specs.declared.attr.Attr.TheVariants as attrs
use Rattle.hermes_horizontal.specs.declared.fault.MessageError.{MessageError}
use Rattle.hermes_horizontal.specs.declared.fault.Refusal.{Refusal}
use Rattle.hermes_horizontal.specs.Attrs.{attr_text}
use Rattle.hermes_horizontal.specs.Values.{Value}
use Rattle.hermes_horizontal.specs.Roots.{Refuses, refusal_of_result}
use Rattle.hermes_horizontal.specs.Said.{first_named, mapped_ok, then_ok, value_at, values_of}
use Rattle.hermes_vertical.specs.Rows.{query_column, question_columns}
use Rattle.hermes_vertical.specs.Questions.{asks, query_values, said_if}

-- how the question is asked, and what by
abbrev pub said_of : ℕ → List Attribute → Result (List (Option Value)) Refusal
said_of at attributes = said_if (asks attributes) at (first_named (attr_text attrs.QueryId) attributes) (values_of at attributes question_columns)

refusal_behind : (value : Option Value) (said : Result (List (Option Value)) Refusal) → refusal_of_result (mapped_ok (λ values. value ∷ values) said) ≡ refusal_of_result said
refusal_behind value (Ok values) = refl
refusal_behind value (Err refusal) = refl

pub query_refused : (at : ℕ) (attributes : List Attribute) (number : Option Value) (error : MessageError) → value_at at query_column (first_named (attr_text attrs.QueryId) attributes) ≡ Ok number
    → Refuses (refusal_of_result (said_of at attributes)) error → Refuses (refusal_of_result (query_values at attributes)) error
query_refused at attributes number error e r =
    let same : refusal_of_result (query_values at attributes) ≡ refusal_of_result (said_of at attributes) =
    ap (λ (v : Result (Option Value) Refusal). refusal_of_result (then_ok v (λ query. mapped_ok (λ values. query ∷ values) (said_of at attributes)))) e ∙ refusal_behind number (said_of at attributes) in
    subst (λ (refusal : Option Refusal). Refuses refusal error) (sym same) r

pub query_told : (at : ℕ) (attributes : List Attribute) (number : Option Value) (values : List (Option Value)) → value_at at query_column (first_named (attr_text attrs.QueryId) attributes) ≡ Ok number
    → said_of at attributes ≡ Ok values → query_values at attributes ≡ Ok (number ∷ values)
query_told at attributes number values e d =
    ap (λ (v : Result (Option Value) Refusal). then_ok v (λ query. mapped_ok (λ vs. query ∷ vs) (said_of at attributes))) e
    ∙ ap (mapped_ok (λ (vs : List (Option Value)). number ∷ vs)) d
