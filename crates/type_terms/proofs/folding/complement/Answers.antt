use Rattle.type_terms.proofs.ComplementFacts.{complement_clean}
use Rattle.type_terms.proofs.folding.complement.Goals as goal

pub returns-clause-made : goal.returns-clause-made
returns-clause-made c = record {
  there = c.in_ok-at.ensures.there;
  means = c.in_ok-at.ensures.term;
  clean = complement_clean c.args.arena.now c.not_free.new.arena c.args.a c.in_ok-at.at c.requires c.in_ok-at.ensures.there c.in_ok-at.ensures.term c.in_ok-at.ensures.adds;
}
