-- What a call gives of which the callee's type and the first argument's are at hand.
use Rattle.std.specs.Prelude.{ℕ, List, Option, Some, option_map, unwrap_or}
use Rattle.type_arena.specs.Term.{Term, Function, builtin}
use Rattle.type_normal.specs.Kinds.{unknown, exactly_one_function}
use Rattle.module_reading.specs.ReadRules.{typed_builtin}
use Rattle.type_decl.specs.Signatures.{Signature, declaration}
use Rattle.report_rules.specs.Forward.{declared_result}
use Rattle.rule_work.specs.Around.{Around}
use Rattle.rule_work.specs.Moves.{made}
use Rattle.rule_work.specs.Work.{Work}

-- a call of one function: the result of a builtin that is among the declared ones
abbrev pub result_of_one : List (List ℕ × Signature) → Option Function → (first_argument : Term) → Term
result_of_one builtins (Some (builtin path)) first_argument = declared_result path first_argument (option_map (λ signature. typed_builtin (path, signature)) (declaration path builtins))
result_of_one builtins _ first_argument = unknown

-- the call with a number: a static require gives what its module does, another call what the callee does
abbrev pub call_term : Around → (id : ℕ) → (callee first_argument : Term) → Term
call_term around id callee first_argument = unwrap_or (around.imports id) (result_of_one around.builtins (exactly_one_function callee) first_argument)

-- the callee that was put aside last is called with the type at hand as its first argument
abbrev pub called : (id : ℕ) → Work → Work
called id work = made (call_term work.around id) work
