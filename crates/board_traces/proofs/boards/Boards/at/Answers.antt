use Rattle.std.proofs.Common.{◌≡◌, ◌∙◌, ◌<◌, ◌+◌, ◌∷◌, ℕ, List, Some, sym, ap, subst, drop, length}
use Rattle.std.specs.Prelude.{option_map, slice_get}
use Rattle.std.specs.Map.Iter.{deref_pair}
use Rattle.board_traces.specs.Course.{Course}
use Rattle.board_traces.proofs.Following.{drop_at}
use Rattle.board_traces.proofs.boards.Boards.at.Goals as goal

pub returns : goal.returns
returns c =
    let all = c.self.inside.map.entries in
    let same : all ≡ c.args.self.now = c.self.view_is in
    let pair : ℕ × Course = (c.unwrap.result.0.now, c.unwrap.result.1.now) in
    let found : Some pair ≡ slice_get all c.args.place = sym (ap (option_map deref_pair) c.unwrap.ensures) ∙ c.get_index.ensures.entry in
    let within : c.args.place < length all = rw same c.requires in
    let P : List (ℕ × Course) → Type 0 = λ (l : List (ℕ × Course)). drop c.args.place l ≡ pair ∷ drop (c.args.place + 1) l in
    subst P same (drop_at all c.args.place pair within found)
