use Rattle.type_terms.proofs.Steps.{put_made}
use Rattle.type_terms.proofs.folding.put.Goals as goal

pub returns-clause-made : goal.returns-clause-made
returns-clause-made c =
    put_made c.args.arena.now c.intern.new.self c.args.node c.in_ok-at.at c.requires c.in_ok-at.ensures.node c.in_ok-at.ensures.meaning c.in_ok-at.ensures.home c.in_ok-at.ensures.own_home c.in_ok-at.ensures.keeps
