use Rattle.stream_text.proofs.ReadSteps.{reads-none}
use Rattle.stream_text.proofs.reading.read_stream.Goals as goal

pub returns-in-Err-new-clause-reads : goal.returns-in-Err-new-clause-reads
returns-in-Err-new-clause-reads g c = reads-none (g.S.Source.left c.args.stream.now) (g.K.Sink.contents c.args.text_to.now)

pub returns-in-Err-clause-reads : goal.returns-in-Err-clause-reads
returns-in-Err-clause-reads g c = reads-none (g.S.Source.left c.args.stream.now) (g.K.Sink.contents c.args.text_to.now)
