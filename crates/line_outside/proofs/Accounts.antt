-- Calls whose bytes lie in one block.
use Rattle.std.proofs.Common.{◌≡◌, ◌<◌, ◌≤◌, ◌+◌, ◌-◌, ℕ, Bool, true, false, List, [], ◌∷◌, ◌++◌, length, take, drop, refl, ap, sym, ◌∙◌, arith, add_assoc, length-drop, lt-ltb, le-leb}
use Rattle.std.proofs.lemmas.List.{take_all, take-append-le, drop-append-le}
use Rattle.line_outside.specs.Given.{Given}
use Rattle.line_outside.specs.Store.{Account, told, given_as, given_of, weight_of, weights_of, noted}
use Rattle.line_outside.specs.declared.port_call.PortCall.{PortCall}

pub weights_of-append : (calls : List PortCall) (call : PortCall) → weights_of (calls ++ call ∷ []) ≡ weights_of calls + weight_of call
weights_of-append [] call = omega arith
weights_of-append (first ∷ calls) call = ap (λ n. weight_of first + n) (weights_of-append calls call) ∙ sym (add_assoc (weight_of first) (weights_of calls) (weight_of call))

no_bytes : (bytes : List ℕ) → 0 ≡ length bytes → bytes ≡ []
no_bytes [] none = refl
no_bytes (byte ∷ bytes) none = absurd (omega (arith, none))

-- one call more behind the others, and its bytes behind theirs
pub given_of-append : (calls : List PortCall) (bytes : List ℕ) (call : PortCall) (piece : List ℕ) → weights_of calls ≡ length bytes → weight_of call ≡ length piece
    → given_of (calls ++ call ∷ []) (bytes ++ piece) ≡ given_of calls bytes ++ given_as call piece ∷ []
given_of-append [] bytes call piece whole all =
    let none : bytes ≡ [] = no_bytes bytes whole in
    let front : take (weight_of call) piece ≡ piece = take_all (weight_of call) piece (omega (arith, all)) in
    rw (none, front) refl
given_of-append (first ∷ calls) bytes call piece whole all =
    let fits : weight_of first ≤ length bytes = omega (arith, whole) in
    let rest : weights_of calls ≡ length (drop (weight_of first) bytes) = omega (arith, whole, length-drop (weight_of first) bytes) in
    rw (take-append-le (weight_of first) bytes piece fits, drop-append-le (weight_of first) bytes piece fits)
    (ap (λ others. given_as first (take (weight_of first) bytes) ∷ others) (given_of-append calls (drop (weight_of first) bytes) call piece rest all))

-- a call for which there is room
pub noted_more : (dropped : Bool) (calls : List PortCall) (bytes : List ℕ) (calls_room bytes_room : ℕ) (call : PortCall) (piece : List ℕ)
    → dropped ≡ false → 0 < calls_room → length piece ≤ bytes_room → weights_of calls ≡ length bytes → weight_of call ≡ length piece
    → (let account : Account = record { given = told dropped (given_of (calls ++ call ∷ []) (bytes ++ piece)); calls = calls_room - 1; bytes = bytes_room - length piece } in account)
    ≡ noted (record { given = told dropped (given_of calls bytes); calls = calls_room; bytes = bytes_room }) (given_as call piece) (length piece)
noted_more true calls bytes calls_room bytes_room call piece telling some fits whole all = cc
noted_more false calls bytes calls_room bytes_room call piece telling some fits whole all =
    rw (lt-ltb 0 calls_room some, le-leb (length piece) bytes_room fits, given_of-append calls bytes call piece whole all) refl
