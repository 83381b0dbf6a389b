-- A list of three or of four items is the list of them.
use Rattle.std.proofs.Common.{◌≡◌, List, [], ◌∷◌, length, map, refl}
use lib.ListN.{get_or}

pub three_items : {A B : Type 0} (f : A → B) (xs : List A) (other : A) → length xs ≡ 3
    → f (get_or xs 0 other) ∷ f (get_or xs 1 other) ∷ f (get_or xs 2 other) ∷ [] ≡ map f xs
three_items f [] other is = cc
three_items f (a ∷ []) other is = cc
three_items f (a ∷ b ∷ []) other is = cc
three_items f (a ∷ b ∷ c ∷ []) other is = refl
three_items f (a ∷ b ∷ c ∷ d ∷ xs) other is = cc

pub four_items : {A B : Type 0} (f : A → B) (xs : List A) (other : A) → length xs ≡ 4
    → f (get_or xs 0 other) ∷ f (get_or xs 1 other) ∷ f (get_or xs 2 other) ∷ f (get_or xs 3 other) ∷ []
    ≡ map f xs
four_items f [] other is = cc
four_items f (a ∷ []) other is = cc
four_items f (a ∷ b ∷ []) other is = cc
four_items f (a ∷ b ∷ c ∷ []) other is = cc
four_items f (a ∷ b ∷ c ∷ d ∷ []) other is = refl
four_items f (a ∷ b ∷ c ∷ d ∷ e ∷ xs) other is = cc
