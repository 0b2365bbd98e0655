use Rattle.luau_tree.specs.declared.names.Access.TheVariants.{Both, Read, Write}
use Rattle.type_lower.proofs.PropFacts.{named_readable, indexer_readable}
use Rattle.type_lower.proofs.props.readable_name.Goals as goal

pub returns-in-Both : goal.returns-in-Both
returns-in-Both c = named_readable c.args.prop.now c.in-Name.name Both c.in-Name.is c.in-Both.is

pub returns-in-Read : goal.returns-in-Read
returns-in-Read c = named_readable c.args.prop.now c.in-Name.name Read c.in-Name.is c.in-Read.is

pub returns-in-Write : goal.returns-in-Write
returns-in-Write c = named_readable c.args.prop.now c.in-Name.name Write c.in-Name.is c.in-Write.is

pub returns-in-Indexer : goal.returns-in-Indexer
returns-in-Indexer c = indexer_readable c.args.prop.now c.in-Indexer.field-0 c.in-Indexer.is
