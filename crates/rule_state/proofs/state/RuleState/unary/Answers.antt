use Rattle.std.proofs.Common.{◌≡◌, ap, ◌∙◌, subst}
use Rattle.std.specs.Prelude.{OnOk}
use Rattle.type_arena.specs.Term.{Term}
use Rattle.local_types.specs.Entries.{type_of}
use Rattle.type_arena.specs.Arena.{store_of}
use Rattle.type_arena.specs.Meaning.{term_of}
use Rattle.type_arena.specs.declared.arena.Arena.{Arena}
use Rattle.subtype_check.specs.Below.{below}
use Rattle.report_rules.specs.Forward.{not_other, unary_type}
use Rattle.type_fields.specs.Plain.{plain_term}
use Rattle.rule_work.specs.Moves.{valued}
use Rattle.rule_work.specs.Results.{unary_result_term}
use Rattle.rule_state.specs.Work.{work_of}
use Rattle.rule_state.proofs.OtherFacts.{unary_is}
use Rattle.rule_state.proofs.state.RuleState.unary.Goals as goal

pub returns : goal.returns
unfolding work_of
returns c =
    let state = c.args.self.now in
    let known : c.is_known-known.result ≡ below (type_of state.types state.value) not_other
    = c.is_known-known.ensures ∙ ap (λ (arena : Arena). below (term_of (store_of arena) state.value) not_other) c.arena.ensures in
    let is : plain_term c.unary_result-kind.result ≡ unary_type c.args.op (type_of state.types state.value)
    = c.unary_result-kind.ensures ∙ (ap (unary_result_term c.args.op) known ∙ unary_is c.args.op (type_of state.types state.value)) in
    subst (λ (type : Term). OnOk c.plain.result (work_of c.plain.new.self ≡ valued type (work_of state))) is c.plain.ensures
