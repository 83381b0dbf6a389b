use Rattle.std.proofs.Common.{List, ℕ, ◌++◌, ◌∙◌, ap, sym}
use Rattle.std.proofs.lemmas.Result.{on_ok_weaker}
use Rattle.book_entry.specs.Spelling.{body_bytes}
use Rattle.book_entry.proofs.Writing.{entry_written}
use Rattle.book_entry.proofs.write.append_entry.Goals as goal

pub returns : goal.returns
returns c =
    let body = c.as_slice.ensures.value ∙ c.in_ok-append_body.ensures ∙ ap (λ (x : List ℕ). x ++ body_bytes c.args.entry.now) c.new-body.ensures.items in
    on_ok_weaker c.append-2.result
    (λ e. entry_written c.args.entry.now c.args.to.now.items c.append.new.to.items c.append-2.new.to.items c.as_slice.result.now c.to_be_bytes.result c.len.result
    body (c.len.ensures ∙ sym c.as_slice.ensures.len) c.to_be_bytes.ensures c.in_ok-append.ensures.written e)
    c.append-2.ensures.written
