use Rattle.std.proofs.Common.{sym, ap, ◌∙◌}
use Rattle.type_arena.specs.Arena.{store_of}
use Rattle.type_arena.specs.Meaning.{term_of}
use Rattle.type_arena.specs.declared.node.TypeRef.{TypeRef}
use Rattle.type_normal.specs.Cut.{cut_down}
use Rattle.type_normal.specs.Operations.{union}
use Rattle.error_context.proofs.TermFacts.{join_never, never_join, join_same}
use Rattle.error_context.proofs.steps.known_union.Goals as goal

pub returns-then-right_empty-clause-term : goal.returns-then-right_empty-clause-term
returns-then-right_empty-clause-term c = join_never (term_of (store_of c.args.arena.now) c.args.left) (term_of (store_of c.args.arena.now) c.args.right) c.requires.left_cut (sym c.is_empty-right_empty.ensures ∙ c.if-right_empty.true)

pub returns-then-left_empty-clause-term : goal.returns-then-left_empty-clause-term
returns-then-left_empty-clause-term c = never_join (term_of (store_of c.args.arena.now) c.args.left) (term_of (store_of c.args.arena.now) c.args.right) c.requires.right_cut (sym c.is_empty-left_empty.ensures ∙ c.if-left_empty.true)

pub returns-then-one-clause-term : goal.returns-then-one-clause-term
returns-then-one-clause-term c =
    join_same (term_of (store_of c.args.arena.now) c.args.left) c.requires.left_cut (c.are_one_plain-one.ensures c.if-one.true).1
    ∙ ap (λ (at : TypeRef). cut_down (union (term_of (store_of c.args.arena.now) c.args.left) (term_of (store_of c.args.arena.now) at))) (c.are_one_plain-one.ensures c.if-one.true).0
