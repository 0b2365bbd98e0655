use Rattle.type_arena.specs.Meaning.{term_of}
use Rattle.type_decl.specs.Tables.{alone, meant}
use Rattle.type_decl.proofs.Lookup.{paths_meant}
use Rattle.type_decl.proofs.table.SigTable.paths.Goals as goal

pub returns-clause-all : goal.returns-clause-all
returns-clause-all c = paths_meant (meant (term_of (alone c.args.self.now.arena))) c.args.self.now.paths c.args.self.now.sigs c.args.self.now.as_many
