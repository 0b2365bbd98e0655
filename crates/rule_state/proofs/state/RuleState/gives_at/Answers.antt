use Rattle.std.proofs.Common.{ap, sym, ◌∙◌}
use Rattle.std.specs.Prelude.{Option, option_map, unwrap_or}
use Rattle.type_arena.specs.Meaning.{term_of}
use Rattle.type_arena.specs.declared.node.TypeRef.{TypeRef}
use Rattle.type_normal.specs.Kinds.{exactly_one_function}
use Rattle.type_decl.specs.Tables.{alone}
use Rattle.local_types.specs.Entries.{type_of}
use Rattle.rule_work.specs.Calls.{result_of_one}
use Rattle.rule_state.specs.Work.{builtins_in, work_of}
use Rattle.rule_state.proofs.CallFacts.{meaning_kept, given_same}
use Rattle.rule_state.proofs.SoundFacts.{one_given}
use Rattle.rule_state.proofs.state.RuleState.gives_at.Goals as goal

pub returns-in-Some-clause-result : goal.returns-in-Some-clause-result
unfolding work_of
returns-in-Some-clause-result c = λ first.
    let state = c.args.self.now in
    ap (λ (found : Option TypeRef). unwrap_or (option_map (type_of state.types) found) (result_of_one (builtins_in state.table.now) (exactly_one_function (type_of state.types c.args.callee)) first)) c.in-Some.ensures.value

pub returns-in-Some-clause-stand : goal.returns-in-Some-clause-stand
returns-in-Some-clause-stand c =
    let state = c.args.self.now in
    one_given state.types state.outside.items c.in-Some.at.now (state.known.imported c.args.id.0 c.in-Some.at.now (sym c.in-Some.ensures.value))

pub returns-in-None-clause-result : goal.returns-in-None-clause-result
unfolding work_of
returns-in-None-clause-result c = λ first.
    let state = c.args.self.now in
    sym (given_same (term_of (alone state.table.now.arena)) (type_of state.types) c.gives_of.result first (meaning_kept state.types state.outside.items state.table.now _ state.known.declared c.gives_of.ensures.among))
    ∙ (c.gives_of.ensures.result first
    ∙ ap (λ (found : Option TypeRef). unwrap_or (option_map (type_of state.types) found) (result_of_one (builtins_in state.table.now) (exactly_one_function (type_of state.types c.args.callee)) first)) c.in-None.ensures.value)
