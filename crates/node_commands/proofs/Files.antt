-- A file is read piece by piece.
use Rattle.std.proofs.Common.{◌≡◌, ◌∙◌, sym, subst, ap, refl, ℕ, List, [], ◌++◌, Option, None, Some, true, option_map, length, ◌<◌, nat_lt, append_assoc, append-nil, arith}
use Rattle.std.proofs.lemmas.Bool.Decides.{nat_tests}
use Rattle.std.proofs.lemmas.List.{length-append}
use Rattle.node_commands.specs.Command.{ReadsFile}
use Rattle.node_settings.specs.Settings.{read_of}

-- these bytes were the first of those that were left
abbrev pub ReadSoFar : Option (List ℕ) → Option (List ℕ) → List ℕ → Type 0
ReadSoFar old now bytes = old ≡ option_map (λ rest. bytes ++ rest) now

both : (first second : List ℕ) (now : Option (List ℕ)) → option_map (λ rest. first ++ rest) (option_map (λ rest. second ++ rest) now) ≡ option_map (λ rest. (first ++ second) ++ rest) now
both first second None = refl
both first second (Some rest) = ap Some (sym (append_assoc first second rest))

pub read_more : (old now new : Option (List ℕ)) (bytes piece : List ℕ) → ReadSoFar old now bytes → now ≡ option_map (λ rest. piece ++ rest) new → ReadSoFar old new (bytes ++ piece)
read_more old now new bytes piece so_far gives = so_far ∙ ap (option_map (λ rest. bytes ++ rest)) gives ∙ both bytes piece new

begun_at : (now : Option (List ℕ)) → now ≡ option_map (λ rest. [] ++ rest) now
begun_at None = refl
begun_at (Some rest) = refl

pub read_none : (now : Option (List ℕ)) → ReadSoFar now now []
read_none now = begun_at now

ended_at : (now : Option (List ℕ)) (bytes : List ℕ) → now ≡ option_map (λ rest. []) now → ReadsFile (option_map (λ rest. bytes ++ rest) now) bytes
ended_at None bytes end = tt
ended_at (Some rest) bytes end = let none : rest ≡ [] = cc in ap read_of (ap (λ r. bytes ++ r) none ∙ append-nil bytes)

-- all was read
pub read_all : (old now new : Option (List ℕ)) (bytes : List ℕ) → ReadSoFar old now bytes → now ≡ option_map (λ rest. []) now → ReadsFile old bytes
read_all old now new bytes so_far end = let P : Option (List ℕ) → Type 0 = λ o. ReadsFile o bytes in subst P (sym so_far) (ended_at now bytes end)

large : (bytes : List ℕ) → 65536 < length bytes → nat_lt 65536 (length bytes) ≡ true
large bytes much = grind (arith, nat_tests)

too_large : (a b : List ℕ) → 65536 < length a → 65536 < length b → read_of a ≡ read_of b
too_large a b first second = rw (large a first, large b second) refl

passed_at : (now : Option (List ℕ)) (bytes : List ℕ) → 65536 < length bytes → ReadsFile (option_map (λ rest. bytes ++ rest) now) bytes
passed_at None bytes much = tt
passed_at (Some rest) bytes much = too_large (bytes ++ rest) bytes (omega (arith, length-append bytes rest, much)) much

-- or more than a file may have
pub read_past : (old now : Option (List ℕ)) (bytes : List ℕ) → ReadSoFar old now bytes → 65536 < length bytes → ReadsFile old bytes
read_past old now bytes so_far much = let P : Option (List ℕ) → Type 0 = λ o. ReadsFile o bytes in subst P (sym so_far) (passed_at now bytes much)
