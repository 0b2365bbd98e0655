use Rattle.std.proofs.Common.{sym, subst, ◌∙◌, List}
use Rattle.type_arena.specs.Shelf.{shelf_store}
use Rattle.type_arena.specs.Store.{IsSound, Keeps, with_own}
use Rattle.type_arena.specs.declared.node.Node.{Node}
use Rattle.type_arena.proofs.ArenaLemmas.{IsSound-empty, node_at-empty}
use Rattle.type_arena.proofs.MeaningLemmas.{term_of-kept}
use Rattle.type_arena.proofs.opening.over.Goals.{After-new}
use Rattle.type_arena.proofs.opening.over.Goals as goal

-- the new arena is sound, and has what the shelf has
sound : (c : After-new) → IsSound (with_own (shelf_store c.args.shelf) c.args.home c.new.result.keys)
sound c = subst (λ (nodes : List Node). IsSound (with_own (shelf_store c.args.shelf) c.args.home nodes)) (sym c.new.ensures.empty) (IsSound-empty (shelf_store c.args.shelf) c.args.shelf.placed c.args.home c.requires c.args.shelf.sound)

keeps : (c : After-new) → Keeps (shelf_store c.args.shelf) (with_own (shelf_store c.args.shelf) c.args.home c.new.result.keys)
keeps c = subst (λ (nodes : List Node). Keeps (shelf_store c.args.shelf) (with_own (shelf_store c.args.shelf) c.args.home nodes)) (sym c.new.ensures.empty) (λ at node e. node_at-empty (shelf_store c.args.shelf) c.args.shelf.placed c.args.home c.requires at ∙ e)

pub invariant_of-result : goal.invariant_of-result
invariant_of-result c = record { above = c.requires; sound = sound c }

pub returns-clause-keeps : goal.returns-clause-keeps
returns-clause-keeps c = keeps (goal.at.returns-clause-keeps c).After-new

pub returns-clause-kept : goal.returns-clause-kept
returns-clause-kept c at there =
    let d = (goal.at.returns-clause-kept c).After-new in
    sym (term_of-kept (shelf_store d.args.shelf) (with_own (shelf_store d.args.shelf) d.args.home d.new.result.keys) d.args.shelf.sound (sound d) (keeps d) at there)
