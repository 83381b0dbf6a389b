use Rattle.std.proofs.Common.{◌≡◌, true, arith}
use Rattle.std.proofs.lemmas.Bool.Decides.{nat_tests}
use Rattle.node_commands.specs.Command.{is_one}
use Rattle.node_commands.proofs.Doing.{does_error, does_run_of}
use Rattle.node_commands.proofs.Bounds.{read_bounded}
use Rattle.node_commands.proofs.main_call.run_named.Goals as goal

pub run_node-requires-clause-least : goal.run_node-requires-clause-least
run_node-requires-clause-least g c = (read_bounded c.as_slice.result.now c.in-Ok-read_settings.settings c.in-Ok-read_settings.ensures).least

pub run_node-requires-clause-most : goal.run_node-requires-clause-most
run_node-requires-clause-most g c = (read_bounded c.as_slice.result.now c.in-Ok-read_settings.settings c.in-Ok-read_settings.ensures).most

pub run_node-requires-clause-used : goal.run_node-requires-clause-used
run_node-requires-clause-used g c = (read_bounded c.as_slice.result.now c.in-Ok-read_settings.settings c.in-Ok-read_settings.ensures).used

pub returns-clause-does : goal.returns-clause-does
returns-clause-does g c =
    let one : is_one c.args.words.now ≡ true = rw (← c.list.ensures) (grind (arith, nat_tests)) in
    rw c.status_of.ensures (does_error c.in-Err.error (is_one c.args.words.now) _ c.in-Ok.bytes.items _ _ _ _ one c.in-Ok.ensures.reads c.as_slice.ensures.value c.in-Err.ensures)

pub returns-in-Ok-read_settings-clause-does : goal.returns-in-Ok-read_settings-clause-does
returns-in-Ok-read_settings-clause-does g c =
    let one : is_one c.args.words.now ≡ true = rw (← c.list.ensures) (grind (arith, nat_tests)) in
    does_run_of (is_one c.args.words.now) _ c.in-Ok.bytes.items c.as_slice.result.now c.in-Ok-read_settings.settings _ _ _ _ _ c.run_node.result one c.in-Ok.ensures.reads c.as_slice.ensures.value c.in-Ok-read_settings.ensures c.run_node.ensures.fits c.run_node.ensures.runs
