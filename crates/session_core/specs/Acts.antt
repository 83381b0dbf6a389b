use Rattle.std.specs.Prelude.{Bool, false, List, [], ◌∷◌, ◌++◌, ◌||◌, Some, None, option_to_list}
use Rattle.session_core.specs.declared.actions.Actions.{Actions}
use Rattle.session_core.specs.declared.actions.Action.{Action}

-- nothing is to be done
abbrev pub nothing : Actions
nothing = record { first = None; second = None; third = None }

-- only this is to be done
abbrev pub one : Action → Actions
one action = record nothing { first = Some action }

-- this is to be done, and then that
abbrev pub two : Action → Action → Actions
two first second = record { first = Some first; second = Some second; third = None }

-- what is to be done, in order
abbrev pub actions_list : Actions → List Action
actions_list actions =
    option_to_list actions.first ++ (option_to_list actions.second ++ option_to_list actions.third)

-- one of these passes the test
abbrev pub has_action : (Action → Bool) → List Action → Bool
has_action test [] = false
has_action test (action ∷ actions) = test action || has_action test actions
