use Rattle.message_server.proofs.Takings.{pending-skip}
use Rattle.message_server.proofs.buffer.InputBuffer.skip.Goals as goal

pub returns : goal.returns
returns c = pending-skip c.args.self.now.bytes c.args.self.now.start c.args.self.now.end c.args.count c.requires
