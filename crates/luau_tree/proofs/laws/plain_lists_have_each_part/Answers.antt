use Rattle.luau_tree.proofs.ListLemmas.{each_arm, each_bind, each_choice, each_expr, each_gen, each_item, each_prop, each_stat, each_type}
use Rattle.luau_tree.proofs.laws.plain_lists_have_each_part.Goals as goal

pub returns-clause-stats : goal.returns-clause-stats
returns-clause-stats c = each_stat

pub returns-clause-exprs : goal.returns-clause-exprs
returns-clause-exprs c = each_expr

pub returns-clause-items : goal.returns-clause-items
returns-clause-items c = each_item

pub returns-clause-binds : goal.returns-clause-binds
returns-clause-binds c = each_bind

pub returns-clause-gens : goal.returns-clause-gens
returns-clause-gens c = each_gen

pub returns-clause-types : goal.returns-clause-types
returns-clause-types c = each_type

pub returns-clause-props : goal.returns-clause-props
returns-clause-props c = each_prop

pub returns-clause-arms : goal.returns-clause-arms
returns-clause-arms c = each_arm

pub returns-clause-choices : goal.returns-clause-choices
returns-clause-choices c = each_choice
