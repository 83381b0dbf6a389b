-- The forecasts of the machine upstream, folded over the acts of a machine.
use Rattle.std.specs.Prelude.{List, [], ◌∷◌, ◌++◌}
use Rattle.line_base.specs.declared.states.Side.TheVariants.{Entry}
use Rattle.hermes_horizontal.specs.declared.message.Info.{Info}
use Rattle.hermes_horizontal.specs.declared.message.Horizontal.{Horizontal}
use Rattle.hermes_horizontal.specs.declared.message.Horizontal.TheVariants as bodies
use Rattle.forecast_query.specs.Forecasts.{last, most_forecasts}
use Rattle.node_core.specs.declared.act.Act.{Act}
use Rattle.node_core.specs.declared.act.Act.TheVariants as acts

-- a forecast that is heard is kept behind the others; of too many the last are kept
abbrev pub forecasts_heard : List Info → Horizontal → List Info
forecasts_heard kept (bodies.BoardForecast info) = last most_forecasts (kept ++ info ∷ [])
forecasts_heard kept _ = kept

-- a connection to the upstream neighbour begins without any
abbrev pub forecasts_act : List Info → Act → List Info
forecasts_act kept acts.Connects = []
forecasts_act kept (acts.Hears Entry message) = forecasts_heard kept message.body
forecasts_act kept _ = kept

-- the forecasts after some acts
abbrev pub forecasts_after : List Info → List Act → List Info
forecasts_after kept [] = kept
forecasts_after kept (act ∷ others) = forecasts_after (forecasts_act kept act) others
