-- Unions of the types of a list, one by one from the last.
use Rattle.std.proofs.Common.{◌≡◌, List, [], ◌∷◌, ◌++◌, refl, sym, ap, ◌∙◌}
use Rattle.std.specs.Prelude.{All, map, Option, Some, option_to_list}
use Rattle.std.proofs.lemmas.List.{map-append}
use Rattle.std.proofs.lemmas.List.Elements.{All-weaker, All-pop}
use Rattle.type_arena.specs.Term.{Term}
use Rattle.type_arena.specs.declared.node.TypeRef.{TypeRef}
use Rattle.type_normal.specs.Operations.{union}
use Rattle.type_fields.specs.Unions.{unions_with}
use Rattle.local_types.specs.Entries.{type_of}
use Rattle.rule_work.specs.Moves.{valued}
use Rattle.rule_work.specs.Work.{Work}
use Rattle.rule_state.specs.Sound.{Stands}
use Rattle.rule_state.specs.Work.{work_of}
use Rattle.rule_state.specs.declared.state.RuleState.{RuleState}
use Rattle.rule_state.proofs.StackFacts.{popped_some}
use Rattle.rule_state.proofs.WorkFacts.{map_where}

-- what is still to be made of a list makes the same of a state as the whole list did of the first one
pub record UnionLeft (first now : RuleState) (whole left : List TypeRef) : Type 0 where
  pub stand : All (Stands now.types now.outside.items) left
  pub work : valued (unions_with (map (type_of now.types) left) (work_of now).value) (work_of now) ≡ valued (unions_with (map (type_of first.types) whole) (work_of first).value) (work_of first)

unions_last : (types : List Term) (type last : Term) → unions_with (types ++ type ∷ []) last ≡ unions_with types (union type last)
unions_last [] type last = refl
unions_last (t ∷ types) type last = ap (union t) (unions_last types type last)

-- the last one stands
pub last_stands : (first now : RuleState) (whole left rest : List TypeRef) (r : Option TypeRef) (x : TypeRef) → left ≡ rest ++ option_to_list r → r ≡ Some x → UnionLeft first now whole left → Stands now.types now.outside.items x
last_stands first now whole left rest r x items is before =
    (All-pop (Stands now.types now.outside.items) left rest (Some x) (popped_some left rest r x items is) before.stand).1

-- one more was made
pub one_made : (first now new : RuleState) (whole left rest : List TypeRef) (r : Option TypeRef) (x : TypeRef) → left ≡ rest ++ option_to_list r → r ≡ Some x → UnionLeft first now whole left
    → work_of new ≡ valued (union (type_of now.types x) (work_of now).value) (work_of now) → ((other : TypeRef) → Stands now.types now.outside.items other → Stands new.types new.outside.items other)
    → ((other : TypeRef) → Stands now.types now.outside.items other → type_of new.types other ≡ type_of now.types other) → UnionLeft first new whole rest
one_made first now new whole left rest r x items is before work stands means =
    let both = All-pop (Stands now.types now.outside.items) left rest (Some x) (popped_some left rest r x items is) before.stand in
    let same : map (type_of new.types) rest ≡ map (type_of now.types) rest
    = map_where (type_of new.types) (type_of now.types) rest (All-weaker (Stands now.types now.outside.items) (λ at. type_of new.types at ≡ type_of now.types at) means rest both.0) in
    let last : map (type_of now.types) left ≡ map (type_of now.types) rest ++ type_of now.types x ∷ []
    = ap (map (type_of now.types)) (popped_some left rest r x items is) ∙ map-append (type_of now.types) rest (x ∷ []) in
    record {
      stand = All-weaker (Stands now.types now.outside.items) (Stands new.types new.outside.items) stands rest both.0;
      work = ap (λ (w : Work). valued (unions_with (map (type_of new.types) rest) w.value) w) work
          ∙ (ap (λ (types : List Term). valued (unions_with types (union (type_of now.types x) (work_of now).value)) (work_of now)) same
          ∙ (ap (λ (type : Term). valued type (work_of now)) (sym (unions_last (map (type_of now.types) rest) (type_of now.types x) (work_of now).value))
          ∙ (ap (λ (types : List Term). valued (unions_with types (work_of now).value) (work_of now)) (sym last) ∙ before.work)));
    }
