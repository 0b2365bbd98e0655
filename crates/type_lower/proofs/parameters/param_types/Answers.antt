use Rattle.std.proofs.Common.{[], arith, rules}
use Rattle.luau_tree.specs.View.{view_maybe_type}
use Rattle.luau_tree.specs.declared.tree as code
use Rattle.type_arena.specs.Store.{field_types}
use Rattle.type_normal.specs.Growing.{given_refs}
use Rattle.type_lower.specs.Visible.{known_in}
use Rattle.type_lower.proofs.MadeFacts.{on_err, adds_again, given_there}
use Rattle.type_lower.proofs.ParamFacts.{types_begun, types_as, type_more, params_taken, params_all}
use Rattle.type_lower.proofs.parameters.param_types.Goals as goal

pub loop-param-init : goal.loop-param-init
loop-param-init c = types_begun c.args.arena.now (field_types c.args.aliases.now) c.new-types.result.items (search rules)

pub written_ref-requires : goal.written_ref-requires
written_ref-requires c = given_there c.args.arena.now c.loop-param.arena (field_types c.args.aliases.now) (given_refs (field_types c.args.aliases.now)) [] c.loop-param.invariant.adds c.requires

pub returns-in_err-at-clause-err : goal.returns-in_err-at-clause-err
returns-in_err-at-clause-err c =
    on_err c.from_residual.result _ (adds_again c.args.arena.now c.loop-param.arena c.written_ref.new.arena (field_types c.args.aliases.now) c.requires c.loop-param.invariant.adds c.in_err-at.ensures.err)

pub returns-in_err-push-clause-err : goal.returns-in_err-push-clause-err
returns-in_err-push-clause-err c =
    on_err c.from_residual-in_err-push.result _ (adds_again c.args.arena.now c.loop-param.arena c.written_ref.new.arena (field_types c.args.aliases.now) c.requires c.loop-param.invariant.adds c.in_ok-at.ensures.made.adds)

pub loop-param-preserved : goal.loop-param-preserved
loop-param-preserved c =
    types_as c.args.arena.now c.written_ref.new.arena (field_types c.args.aliases.now) _ _ _
    (type_more c.args.arena.now c.loop-param.arena c.written_ref.new.arena c.args.aliases.now c.loop-param.types.items c.push.new.self.items _ c.in_ok-at.at (view_maybe_type (code.Bind.out-Bind c.param-item.result).typ) c.requires c.loop-param.invariant c.in_ok-at.ensures.made c.in_ok-push.ensures.items)
    (params_taken (known_in c.args.arena.now c.args.aliases.now) c.args.params.now c.loop-param.param-index c.param-item.result c.loop-param-test.true c.param-item.is)

pub returns-clause-made : goal.returns-clause-made
returns-clause-made c =
    types_as c.args.arena.now c.loop-param.arena (field_types c.args.aliases.now) c.loop-param.types.items _ _ c.loop-param.invariant
    (params_all (known_in c.args.arena.now c.args.aliases.now) c.args.params.now c.loop-param.param-index (omega arith))
