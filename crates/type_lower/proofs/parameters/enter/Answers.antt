use Rattle.std.proofs.Common.{◌∙◌, [], List, ap}
use Rattle.luau_tree.specs.View.{view_binds, view_gens}
use Rattle.luau_tree.specs.declared.tree as code
use Rattle.type_arena.specs.Store.{field_types}
use Rattle.type_normal.specs.Growing.{given_refs}
use Rattle.type_ops.proofs.GrowFacts.{all_clean_on}
use Rattle.annotations.specs.Annotated.{param_types, with_generics}
use Rattle.type_lower.specs.Visible.{known_in}
use Rattle.type_lower.proofs.MadeFacts.{adds_after, given_there}
use Rattle.type_lower.proofs.ParamFacts.{types_as, entered_known, entered_types, entered_clean}
use Rattle.type_lower.proofs.parameters.enter.Goals as goal

pub returns-in_err-types-clause-adds : goal.returns-in_err-types-clause-adds
returns-in_err-types-clause-adds c = adds_after c.args.arena.now c.put_generics.new.arena c.param_types.new.arena (field_types c.args.aliases.now) (field_types c.put_generics.new.aliases) c.in_ok-put_generics.ensures.adds c.in_ok-put_generics.ensures.clean c.in_err-types.ensures.err

pub returns-clause-known : goal.returns-clause-known
returns-clause-known c =
    entered_known c.put_generics.new.arena c.param_types.new.arena c.put_generics.new.aliases (known_in c.args.arena.now c.args.aliases.now) c.args.body.now c.in_ok-put_generics.ensures.there c.in_ok-types.ensures.made.adds
    (c.in_ok-put_generics.ensures.known ∙ ap (λ (gs : List code.Gen.Gen). with_generics (view_gens gs) (known_in c.args.arena.now c.args.aliases.now)) c.as_slice-generics.ensures)

pub returns-clause-terms : goal.returns-clause-terms
returns-clause-terms c =
    entered_types c.put_generics.new.arena c.param_types.new.arena c.put_generics.new.aliases c.in_ok-types.types.items (known_in c.args.arena.now c.args.aliases.now) c.args.body.now
    (types_as c.put_generics.new.arena c.param_types.new.arena (field_types c.put_generics.new.aliases) c.in_ok-types.types.items _ _ c.in_ok-types.ensures.made (ap (λ (ps : List code.Bind.Bind). param_types (known_in c.put_generics.new.arena c.put_generics.new.aliases) (view_binds ps)) c.as_slice-params.ensures))
    (c.in_ok-put_generics.ensures.known ∙ ap (λ (gs : List code.Gen.Gen). with_generics (view_gens gs) (known_in c.args.arena.now c.args.aliases.now)) c.as_slice-generics.ensures)

pub returns-clause-there : goal.returns-clause-there
returns-clause-there c = given_there c.put_generics.new.arena c.param_types.new.arena (field_types c.put_generics.new.aliases) (given_refs (field_types c.put_generics.new.aliases)) [] c.in_ok-types.ensures.made.adds c.in_ok-put_generics.ensures.there

pub returns-clause-types_there : goal.returns-clause-types_there
returns-clause-types_there c = c.in_ok-types.ensures.made.there

pub returns-clause-adds : goal.returns-clause-adds
returns-clause-adds c = adds_after c.args.arena.now c.put_generics.new.arena c.param_types.new.arena (field_types c.args.aliases.now) (field_types c.put_generics.new.aliases) c.in_ok-put_generics.ensures.adds c.in_ok-put_generics.ensures.clean c.in_ok-types.ensures.made.adds

pub returns-clause-clean : goal.returns-clause-clean
returns-clause-clean c = all_clean_on c.args.arena.now c.put_generics.new.arena c.param_types.new.arena (given_refs (field_types c.args.aliases.now)) (field_types c.put_generics.new.aliases) c.in_ok-put_generics.ensures.clean c.in_ok-put_generics.ensures.there c.in_ok-types.ensures.made.adds.keeps

pub returns-clause-types_clean : goal.returns-clause-types_clean
returns-clause-types_clean c = entered_clean c.args.arena.now c.put_generics.new.arena c.param_types.new.arena (field_types c.args.aliases.now) (field_types c.put_generics.new.aliases) c.in_ok-types.types.items c.in_ok-put_generics.ensures.adds c.in_ok-put_generics.ensures.clean c.in_ok-types.ensures.made.clean
