-- What a step of a machine meets outside of it: the links, the floor, and the counts of the
-- report's last line.
use Rattle.std.specs.Prelude.{◌≡◌, ℕ, zero, suc, ◌-◌, ◌&&◌, ◌++◌, false, List, [], ◌∷◌, Option, nat_le, nat_lt, slice_index_or, slice_set, take, if◌then◌else◌}
use Rattle.line_base.specs.declared.states.Side.{Side}
use Rattle.line_base.specs.declared.states.Side.TheVariants.{Entry, Exit}
use Rattle.line_base.specs.declared.states.Role.{Role}
use Rattle.line_base.specs.declared.states.Role.TheVariants.{Upstream, Downstream}
use Rattle.line_world.specs.FloorPlan.{FloorPlan, no_floor}
use Rattle.line_link.specs.Flow.{coming, flowing}
use Rattle.line_link.specs.Link.{LinkParts, flow_to, no_link}

pub record WorldParts : Type 0 where
  pub links : List LinkParts
  pub floor : FloorPlan
  pub opened : ℕ
  pub settled : ℕ

-- nothing is there yet
abbrev pub no_world : WorldParts
no_world = record { links = []; floor = no_floor; opened = 0; settled = 0 }

abbrev pub with_floor : FloorPlan → WorldParts → WorldParts
with_floor floor world = record world { floor = floor }

-- ---- links by their number: link k, and gap k under it, lie between machines k and k + 1

-- what has no such number, 0 among them, is a link on which nothing is connected, and no change of
-- it changes anything
abbrev pub link_at : ℕ → WorldParts → LinkParts
link_at link world =
    if nat_lt 0 link then slice_index_or world.links (link - 1) no_link else no_link

abbrev pub with_link : ℕ → LinkParts → WorldParts → WorldParts
with_link link parts world =
    if nat_lt 0 link then record world { links = slice_set world.links (link - 1) parts } else
    world

-- there is no link of this number where there are so many
abbrev pub IsNoLink : ℕ → ℕ → Type 0
IsNoLink link count = (nat_lt 0 link && nat_le link count) ≡ false

-- a machine's exit is the upstream end of the link of its number, its entry the downstream end of
-- the one before
abbrev pub link_of : ℕ → Side → ℕ
link_of machine Exit = machine
link_of machine Entry = machine - 1

abbrev pub end_of : Side → Role
end_of Exit = Upstream
end_of Entry = Downstream

-- the bytes that arrive at a side: so many or what there is, or the rest of the oldest text
abbrev pub piece_for : ℕ → Side → Option ℕ → WorldParts → List ℕ
piece_for machine side count world =
    take (flowing count (flow_to (end_of side) (link_at (link_of machine side) world)))
    (coming (flow_to (end_of side) (link_at (link_of machine side) world)))

-- ---- one machine more

-- a link comes with each machine but the first
abbrev pub links_more : ℕ → List LinkParts → List LinkParts
links_more zero links = links
links_more (suc _) links = links ++ no_link ∷ []
