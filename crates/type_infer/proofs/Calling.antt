-- What calls give, as the state has it and as the rules do.
use Rattle.std.proofs.Common.{◌≡◌, ℕ, List, map, refl, sym, ap, ◌∙◌}
use Rattle.std.specs.Prelude.{Option, Some, None, option_map, unwrap_or}
use Rattle.luau_tree.specs.Tree.{Expr, the_expr, ExprKind}
use Rattle.luau_tree.specs.declared.position.Span.{Span}
use Rattle.type_arena.specs.Term.{Term, Function, builtin, literal}
use Rattle.type_normal.specs.Kinds.{exactly_one_function}
use Rattle.type_decl.specs.Signatures.{Signature}
use Rattle.module_reading.specs.ReadRules.{typed_builtin}
use Rattle.module_facts.proofs.Signatures.{typed_declaration}
use Rattle.module_facts.specs.declared.facts.Facts.{Facts}
use Rattle.report_rules.specs.Rules.{Rules, TypedBuiltin}
use Rattle.report_rules.specs.Forward.{call_type, call_result, declared_result}
use Rattle.rule_work.specs.Around.{Around}
use Rattle.rule_work.specs.Calls.{call_term, called, result_of_one}
use Rattle.rule_work.specs.Moves.{made}
use Rattle.rule_work.specs.Work.{Work}
use Rattle.std.specs.List.{find}
use Rattle.std.specs.Str.{bytes_eq}
use Rattle.infer_plan.specs.Steps.{called_at}
use Rattle.type_infer.specs.Under.{IsUnder}

result_is : (rules : Rules) (builtins : List (List ℕ × Signature)) → rules.table ≡ map typed_builtin builtins → (function : Option Function) (first : Term)
    → result_of_one builtins function first ≡ call_result rules function first
result_is rules builtins table (Some (builtin path)) first =
    ap (declared_result path first)
    (typed_declaration builtins path ∙ ap (λ (bs : List TypedBuiltin). find (λ b. bytes_eq b.path path) bs) (sym table))
result_is rules builtins table (Some (literal home number)) first = refl
result_is rules builtins table None first = refl

import_is : (rules : Rules) (id : ℕ) (required : Option ℕ) (callee first rest : Term) → rest ≡ call_result rules (exactly_one_function callee) first
    → unwrap_or (option_map (λ other. rules.import id) required) rest ≡ call_type rules id required callee first
import_is rules id (Some other) callee first rest is = refl
import_is rules id None callee first rest is = is

call_is : (facts : Facts) (rules : Rules) (around : Around) → IsUnder facts around rules → (id : ℕ) (callee first : Term)
    → call_term around id callee first ≡ call_type rules id (rules.reading.required id) callee first
call_is facts rules around under id callee first =
    ap (λ (given : Option Term). unwrap_or given (result_of_one around.builtins (exactly_one_function callee) first)) (under.imports id)
    ∙ import_is rules id (rules.reading.required id) callee first (result_of_one around.builtins (exactly_one_function callee) first)
    (result_is rules around.builtins under.builtins (exactly_one_function callee) first)

pub called_is : (facts : Facts) (rules : Rules) (work : Work) → IsUnder facts work.around rules → (e : Expr) (id : ℕ) (span : Span) (kind : ExprKind) → e ≡ the_expr id span kind
    → called id work ≡ called_at rules e work
called_is facts rules work under e id span kind is =
    ap (λ (both : Term → Term → Term). made both work) (λ i. λ callee first. call_is facts rules work.around under id callee first i)
    ∙ ap (λ (x : Expr). called_at rules x work) (sym is)
