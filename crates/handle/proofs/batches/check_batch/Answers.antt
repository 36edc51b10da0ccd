-- Where the batch surely decodes, the lists after it are left; else its lists one by one.
use Rattle.handle.proofs.Sure.{batch_rest}
use Rattle.handle.proofs.batches.check_batch.Goals as goal

pub returns-then-batch_decodes : goal.returns-then-batch_decodes
returns-then-batch_decodes c = λ s is. batch_rest _ _ is _ _ c.requires.1 (c.batch_decodes.ensures c.if-batch_decodes.true)
