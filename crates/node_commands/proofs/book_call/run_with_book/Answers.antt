use Rattle.std.proofs.Common.{◌≡◌, true, refl, arith}
use Rattle.std.proofs.lemmas.Bool.Decides.{nat_tests}
use Rattle.node_commands.proofs.Beginning.{book_error}
use Rattle.node_commands.proofs.Bounds.{read_bounded}
use Rattle.node_commands.specs.Command.{is_one}
use Rattle.node_commands.proofs.book_call.run_with_book.Goals as goal

pub take_book-requires-clause-least : goal.take_book-requires-clause-least
take_book-requires-clause-least g c = (read_bounded c.as_slice.result.now c.in-Ok-read_settings.settings c.in-Ok-read_settings.ensures).least

pub take_book-requires-clause-most : goal.take_book-requires-clause-most
take_book-requires-clause-most g c = (read_bounded c.as_slice.result.now c.in-Ok-read_settings.settings c.in-Ok-read_settings.ensures).most

pub take_book-requires-clause-used : goal.take_book-requires-clause-used
take_book-requires-clause-used g c = (read_bounded c.as_slice.result.now c.in-Ok-read_settings.settings c.in-Ok-read_settings.ensures).used

pub take_book-requires-clause-turns : goal.take_book-requires-clause-turns
take_book-requires-clause-turns g c = (read_bounded c.as_slice.result.now c.in-Ok-read_settings.settings c.in-Ok-read_settings.ensures).turns

pub returns-clause-does : goal.returns-clause-does
returns-clause-does g c =
    let one : is_one c.args.words.now ≡ true = rw (← c.list.ensures) (grind (arith, nat_tests)) in
    rw c.status_of.ensures (book_error c.in-Err.error (is_one c.args.words.now) _ _ _ c.in-Ok.bytes.items c.as_slice.result.now _ _ _ one c.in-Ok.ensures.reads c.as_slice.ensures.value c.in-Err.ensures (record { given = refl; log = refl; book = refl }))
