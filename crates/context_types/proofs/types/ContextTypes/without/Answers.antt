use Rattle.context_types.proofs.ContextFacts.{fewer_made}
use Rattle.context_types.specs.Types.{arena_of, outside_of}
use Rattle.context_types.proofs.types.ContextTypes.without.Goals as goal

pub returns-clause-context : goal.returns-clause-context
returns-clause-context c = λ i. λ n. c.restrict.ensures.sets (arena_of c.args.self.now) n i

pub returns-clause-stands : goal.returns-clause-stands
returns-clause-stands c = record {
  is = c.restrict.ensures.context (arena_of c.args.self.now) c.requires.is;
  made = fewer_made (arena_of c.args.self.now) (outside_of c.args.self.now) c.restrict.result.entries c.args.a.entries c.restrict.ensures.among c.requires.made;
}
