use Rattle.stream_text.proofs.Copied.{copies}
use Rattle.stream_text.proofs.stream_reader.write_copied.Goals as goal

pub returns : goal.returns
returns c = copies c.args.number c.args.frame.now c.args.to.now.items c.write_entry.new.to.items c.write_entry.result c.requires c.write_entry.ensures
