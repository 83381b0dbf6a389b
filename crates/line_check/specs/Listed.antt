-- What a map of lists of marks has.
use Rattle.std.specs.Prelude.{◌≡◌, ℕ, ◌<◌, List, [], Option, None, Some, length}
use Rattle.std.specs.Global.{Vec}
use Rattle.std.specs.Ordering.{nat_cmp}
use Rattle.std.specs.BTreeMap.{BTreeMap, get}
use Rattle.standings.specs.declared.mark.Mark.{Mark}

-- the marks that are listed for an id: none where it is not in the map
abbrev pub listed : Option (Vec Mark) → List Mark
listed None = []
listed (Some marks) = marks.items

abbrev pub listed_at : BTreeMap ℕ (Vec Mark) → ℕ → List Mark
listed_at map id = listed (get nat_cmp map id)

-- an id is in the map only where it has a mark
pub record HasNoEmpty (map : BTreeMap ℕ (Vec Mark)) : Type 0 where
  pub none_empty : (id : ℕ) (marks : Vec Mark) → get nat_cmp map id ≡ Some marks
      → 0 < length marks.items
