use Rattle.type_arena.specs.Arena.{store_of}
use Rattle.type_arena.specs.Meaning.{term_of}
use Rattle.type_infer.proofs.types.Types.of.Goals as goal

pub returns-clause-live : goal.returns-clause-live
returns-clause-live c = c.live_type.ensures.live (term_of (store_of c.args.self.now.arena))

pub returns-clause-meant : goal.returns-clause-meant
returns-clause-meant c = c.live_type.ensures.meant (term_of (store_of c.args.self.now.arena))
