-- What a state stands for whose map is refined by the list of a guard.
use Rattle.std.proofs.Common.{◌≡◌, Bool, List, [], sym, ap, ◌∙◌}
use Rattle.std.specs.Prelude.{All, IsTrue, OnOk, Result, Ok, Err}
use Rattle.luau_tree.specs.Tree.{Expr}
use Rattle.luau_tree.specs.declared.names.LocalId.{LocalId}
use Rattle.type_arena.specs.Store.{has}
use Rattle.type_arena.specs.declared.node.TypeRef.{TypeRef}
use Rattle.local_types.specs.Entries.{arenas_of, type_of}
use Rattle.local_types.specs.Growing.{Grows, IsMadeOf}
use Rattle.local_types.specs.Locals.{said_meant}
use Rattle.local_types.specs.declared.types.LocalTypes.{LocalTypes}
use Rattle.report_rules.specs.Rules.{Rules}
use Rattle.report_rules.specs.TypeMap.{TypeMap, refine}
use Rattle.rule_state.specs.Conditions.{refined_by_said}
use Rattle.rule_work.specs.Moves.{mapped}
use Rattle.rule_state.specs.Sound.{Stands}
use Rattle.rule_work.specs.Work.{Work}
use Rattle.rule_state.proofs.SoundFacts.{none_given, stands_made}

pub on_ok : {T E P Q : Type 0} (r : Result T E) → (P → Q) → OnOk r P → OnOk r Q
on_ok (Ok x) f p = f p
on_ok (Err e) f p = p

pub all_made : (s t : LocalTypes) (outside refs : List TypeRef) → Grows s t [] → All (λ at. IsTrue (has (arenas_of t) at)) refs → All (IsMadeOf s []) refs → All (Stands t outside) refs
all_made s t outside refs grows there made = λ k d l. stands_made s t outside [] _ (none_given s outside) grows (there k d l) (made k d l)

pub refined_then : (types : LocalTypes) (old before new : Work) (said shown : List (LocalId × TypeRef)) (rules : Rules) (cond : Expr) (truth b : Bool) → shown ≡ said → before ≡ old
    → ((known : TypeMap) → refined_by_said (said_meant (type_of types) said) known ≡ refine rules cond b known) → truth ≡ b
    → new ≡ mapped (refined_by_said (said_meant (type_of types) shown)) before → new ≡ mapped (refine rules cond truth) old
refined_then types old before new said shown rules cond truth b show same is truth_is work =
    work
    ∙ (ap (λ (list : List (LocalId × TypeRef)). mapped (refined_by_said (said_meant (type_of types) list)) before) show
    ∙ (ap (mapped (refined_by_said (said_meant (type_of types) said))) same
    ∙ (ap (λ (map : TypeMap). record old { map = map }) (is old.map)
    ∙ ap (λ (known : Bool). mapped (refine rules cond known) old) (sym truth_is))))
