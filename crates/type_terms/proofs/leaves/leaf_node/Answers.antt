use Rattle.std.proofs.Common.{◌∙◌}
use Rattle.type_normal.proofs.AddsFacts.{ok_more}
use Rattle.type_terms.proofs.LeafFacts.{unknown_node, nil_node, true_node, false_node, number_node, other_node, table_node, string_node, function_node, text_node, named_node, bare_node}
use Rattle.type_terms.proofs.leaves.leaf_node.Goals as goal

pub returns-in-Unknown : goal.returns-in-Unknown
returns-in-Unknown c = ok_more c.every_kind.result _ _ c.every_kind.ensures (λ n is. unknown_node c.args.term.now n c.in-Unknown.is is)

pub returns-in-Nil : goal.returns-in-Nil
returns-in-Nil c = nil_node c.args.term.now c.no_kind-none.result c.in-Nil.is c.no_kind-none.ensures

pub returns-in-True : goal.returns-in-True
returns-in-True c = true_node c.args.term.now c.no_kind-none.result c.in-True.is c.no_kind-none.ensures

pub returns-in-False : goal.returns-in-False
returns-in-False c = false_node c.args.term.now c.no_kind-none.result c.in-False.is c.no_kind-none.ensures

pub returns-in-Number : goal.returns-in-Number
returns-in-Number c = number_node c.args.term.now c.no_kind-none.result c.in-Number.is c.no_kind-none.ensures

pub returns-in-Other : goal.returns-in-Other
returns-in-Other c = other_node c.args.term.now c.no_kind-none.result c.in-Other.is c.no_kind-none.ensures

pub returns-in_ok-all_tables-in-Table : goal.returns-in_ok-all_tables-in-Table
returns-in_ok-all_tables-in-Table c = table_node c.args.term.now c.no_kind-none.result c.in_ok-all_tables-in-Table.field-0 c.in-Table.is c.no_kind-none.ensures c.in_ok-all_tables-in-Table.ensures

pub returns-in-AnyString : goal.returns-in-AnyString
returns-in-AnyString c = string_node c.args.term.now c.no_kind-none.result c.of.result c.in-AnyString.is c.no_kind-none.ensures (c.of.ensures ∙ c.new.ensures.items)

pub returns-in-Function : goal.returns-in-Function
returns-in-Function c = function_node c.args.term.now c.no_kind-none.result c.of-in-Function.result c.in-Function.is c.no_kind-none.ensures (c.of-in-Function.ensures ∙ c.new-in-Function.ensures.items)

pub returns-in_ok-one_text-in-Str : goal.returns-in_ok-one_text-in-Str
returns-in_ok-one_text-in-Str c = text_node c.args.term.now c.no_kind-none.result c.in-Str.text c.in_ok-one_text-in-Str.field-0 c.in-Str.is c.no_kind-none.ensures c.in_ok-one_text-in-Str.ensures

pub returns-in_ok-one_name-in-Named : goal.returns-in_ok-one_name-in-Named
returns-in_ok-one_name-in-Named c = named_node c.args.term.now c.no_kind-none.result c.in-Named.name c.in_ok-one_name-in-Named.field-0 c.in-Named.is c.no_kind-none.ensures c.in_ok-one_name-in-Named.ensures

pub returns-in_default : goal.returns-in_default
returns-in_default c =
    bare_node c.args.term.now c.no_kind-none.result c.no_kind-none.ensures c.in_default.not-Unknown c.in_default.not-Nil c.in_default.not-True c.in_default.not-False c.in_default.not-Number c.in_default.not-Other c.in_default.not-Table
    c.in_default.not-AnyString c.in_default.not-Function c.in_default.not-Str c.in_default.not-Named
