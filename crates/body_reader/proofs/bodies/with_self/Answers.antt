use Rattle.std.proofs.Common.{sym}
use Rattle.phrase_reader.proofs.Lists.{binds_seen}
use Rattle.body_reader.proofs.bodies.with_self.Goals as goal

pub returns-in-None : goal.returns-in-None
returns-in-None c = rw c.in-None.is (sym (binds_seen c.args.own))
