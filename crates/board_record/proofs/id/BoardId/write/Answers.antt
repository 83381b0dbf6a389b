use Rattle.std.proofs.Common.{◌≡◌, ◌∙◌, ap}
use Rattle.std.specs.Int.{w128, to_be_bytes}
use Rattle.uuid.specs.Text.{hyphenated_text, lower}
use Rattle.board_record.specs.BoardId.{id_text}
use Rattle.board_record.proofs.id.BoardId.write.Goals as goal

pub returns-in-Ok-clause-text : goal.returns-in-Ok-clause-text
unfolding id_text
returns-in-Ok-clause-text c =
    let number = c.hyphenated.ensures ∙ c.from_u128.ensures ∙ ap (to_be_bytes w128) c.number.ensures in
    let text : c.as_bytes.result.now ≡ id_text c.args.self =
    c.as_bytes.ensures.value ∙ c.encode_lower-text.ensures.text ∙ ap (hyphenated_text lower) number
    in
    rw text at c.in-Ok.ensures.items
