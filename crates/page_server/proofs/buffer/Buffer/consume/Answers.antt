use Rattle.page_server.proofs.Ranges.{range_dropped}
use Rattle.page_server.proofs.buffer.Buffer.consume.Goals as goal

pub returns-else-self : goal.returns-else-self
returns-else-self c = range_dropped c.args.self.now.room.items c.args.self.now.start c.args.used c.args.self.now.end c.requires
