-- What a poll finds on a connection is a front of what comes.
use Rattle.std.proofs.Common.{List, [], ap, append_assoc, sym, ℕ, ◌++◌, ◌∙◌, ◌∷◌, ◌≡◌}
use Rattle.law_joined_nodes.specs.Bytes.{FoundWasSaid}

same_rest : (front a b : List ℕ) → front ++ a ≡ front ++ b → a ≡ b
same_rest [] a b is = is
same_rest (byte ∷ front) a b is = same_rest front a b (cc)

pub found_was_said : FoundWasSaid
found_was_said far near found coming j =
    let more : List ℕ = j.given.rest ++ j.order.sent.rest in
    let all : far.said ≡ near.heard ++ (found ++ more) =
    j.order.sent.parts
    ∙ ap (λ (taken : List ℕ). taken ++ j.order.sent.rest) (j.given.parts ∙ ap (λ (given : List ℕ). (given ++ found) ++ j.given.rest) j.heard)
    ∙ append_assoc (near.heard ++ found) j.given.rest j.order.sent.rest
    ∙ append_assoc near.heard found more in
    record { rest = more; parts = same_rest near.heard coming (found ++ more) (sym j.said ∙ all) }
