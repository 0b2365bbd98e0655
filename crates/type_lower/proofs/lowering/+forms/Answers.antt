use Rattle.std.proofs.Common.{◌≡◌, ◌-◌, drop, [], ℕ, List, length, take, sym, ap, ◌∙◌, arith}
use Rattle.std.specs.BTreeMap.{insert_entry}
use Rattle.type_normal.specs.Free.{name_cmp}
use Rattle.luau_tree.specs.Tree as plain
use Rattle.luau_tree.specs.View.{view_type, view_types, view_props}
use Rattle.luau_tree.specs.declared.tree as code
use Rattle.type_arena.specs.Arena.{store_of}
use Rattle.type_arena.specs.Store.{field_types}
use Rattle.type_normal.specs.Growing.{given_refs}
use Rattle.annotations.specs.Lowered.{raw, raw_kind, raw_fields, table_of}
use Rattle.type_lower.specs.Joined.{all_joined, marked}
use Rattle.type_lower.specs.Visible.{known_in}
use Rattle.type_lower.specs.Weight.{weight, weight_of_types, weight_of_props}
use Rattle.type_lower.specs.declared.choosing.Choice.TheVariants.{Either, Both}
use Rattle.type_normal.proofs.AddsFacts.{there_kept}
use Rattle.type_lower.proofs.FormFacts.{nil_form, bool_form, str_form, name_form, typeof_form, array_form, table_form, func_form, union_form, meet_form, optional_form, pack_form, variadic_form, generic_form}
use Rattle.type_lower.proofs.MadeFacts.{as_type, on_err, plain_made, plain_err, typed_made, then_made, then_err, adds_again, given_there}
use Rattle.type_lower.proofs.PropFacts.{prop_lost, prop_put}
use Rattle.type_lower.proofs.WalkFacts.{typ_of, rest_all, nothing_in, all_rowed, list_step, list_first, list_more, list_done, list_adds, none_types, first_weight, rest_weight, fields_begun, field_more, fields_as, row_after, row_adds}
use Rattle.type_lower.proofs.WeightFacts.{optional_weight, table_weight, union_weight, meet_weight, prop_weight}
use Rattle.type_lower.proofs.lowering.+forms.Goals as goal

pub raw_form-returns-in-Nil-clause-made : goal.raw_form-returns-in-Nil-clause-made
raw_form-returns-in-Nil-clause-made t c =
    plain_made c.plain_ref.result c.args.arena.now c.plain_ref.new.arena (field_types c.args.aliases.now) _ _ c.plain_ref.ensures.made (sym (nil_form (known_in c.args.arena.now c.args.aliases.now) c.args.typ.now c.in-Nil.is))

pub raw_form-returns-in-Nil-clause-err : goal.raw_form-returns-in-Nil-clause-err
raw_form-returns-in-Nil-clause-err t c =
    plain_err c.plain_ref.result c.args.arena.now c.plain_ref.new.arena (field_types c.args.aliases.now) c.plain_ref.ensures.err

pub raw_form-returns-in-Bool-clause-made : goal.raw_form-returns-in-Bool-clause-made
raw_form-returns-in-Bool-clause-made t c =
    plain_made c.plain_ref-in-Bool.result c.args.arena.now c.plain_ref-in-Bool.new.arena (field_types c.args.aliases.now) _ _ c.plain_ref-in-Bool.ensures.made (c.of_truth.ensures ∙ sym (bool_form (known_in c.args.arena.now c.args.aliases.now) c.args.typ.now c.in-Bool.truth c.in-Bool.is))

pub raw_form-returns-in-Bool-clause-err : goal.raw_form-returns-in-Bool-clause-err
raw_form-returns-in-Bool-clause-err t c =
    plain_err c.plain_ref-in-Bool.result c.args.arena.now c.plain_ref-in-Bool.new.arena (field_types c.args.aliases.now) c.plain_ref-in-Bool.ensures.err

pub raw_form-returns-in-Str-clause-made : goal.raw_form-returns-in-Str-clause-made
raw_form-returns-in-Str-clause-made t c =
    plain_made c.text_ref.result c.args.arena.now c.text_ref.new.arena (field_types c.args.aliases.now) _ _ c.text_ref.ensures.made (sym (str_form (known_in c.args.arena.now c.args.aliases.now) c.args.typ.now c.in-Str.bytes c.in-Str.is))

pub raw_form-returns-in-Str-clause-err : goal.raw_form-returns-in-Str-clause-err
raw_form-returns-in-Str-clause-err t c =
    plain_err c.text_ref.result c.args.arena.now c.text_ref.new.arena (field_types c.args.aliases.now) c.text_ref.ensures.err

pub raw_form-returns-in-Named-clause-made : goal.raw_form-returns-in-Named-clause-made
raw_form-returns-in-Named-clause-made t c =
    typed_made c.form_ref.result c.args.arena.now c.form_ref.new.arena (field_types c.args.aliases.now) _ _ c.form_ref.ensures.made
    (ap (λ (args : List code.TypeSyntax.TypeSyntax). raw_kind (known_in c.args.arena.now c.args.aliases.now) (plain.Named c.in-Named.prefix c.in-Named.name (view_types args))) c.as_slice.ensures
    ∙ sym (name_form (known_in c.args.arena.now c.args.aliases.now) c.args.typ.now c.in-Named.prefix c.in-Named.name c.in-Named.args c.in-Named.is))

pub raw_form-returns-in-Typeof-clause-made : goal.raw_form-returns-in-Typeof-clause-made
raw_form-returns-in-Typeof-clause-made t c =
    plain_made c.plain_ref-in-Typeof.result c.args.arena.now c.plain_ref-in-Typeof.new.arena (field_types c.args.aliases.now) _ _ c.plain_ref-in-Typeof.ensures.made (sym (typeof_form (known_in c.args.arena.now c.args.aliases.now) c.args.typ.now c.in-Typeof.field-0 c.in-Typeof.is))

pub raw_form-returns-in-Typeof-clause-err : goal.raw_form-returns-in-Typeof-clause-err
raw_form-returns-in-Typeof-clause-err t c =
    plain_err c.plain_ref-in-Typeof.result c.args.arena.now c.plain_ref-in-Typeof.new.arena (field_types c.args.aliases.now) c.plain_ref-in-Typeof.ensures.err

pub raw_form-returns-in-Array-clause-made : goal.raw_form-returns-in-Array-clause-made
raw_form-returns-in-Array-clause-made t c =
    plain_made c.plain_ref-in-Array.result c.args.arena.now c.plain_ref-in-Array.new.arena (field_types c.args.aliases.now) _ _ c.plain_ref-in-Array.ensures.made (sym (array_form (known_in c.args.arena.now c.args.aliases.now) c.args.typ.now c.in-Array.field-0 c.in-Array.is))

pub raw_form-returns-in-Array-clause-err : goal.raw_form-returns-in-Array-clause-err
raw_form-returns-in-Array-clause-err t c =
    plain_err c.plain_ref-in-Array.result c.args.arena.now c.plain_ref-in-Array.new.arena (field_types c.args.aliases.now) c.plain_ref-in-Array.ensures.err

pub raw_form-raw_table-requires : goal.raw_form-raw_table-requires
raw_form-raw_table-requires t c =
    let same : weight_of_props (view_props c.as_slice-in-Table.result.now) ≡ weight_of_props (view_props c.in-Table.props) = ap (λ (ps : List code.Prop.Prop). weight_of_props (view_props ps)) c.as_slice-in-Table.ensures in
    let whole = table_weight c.args.typ.now c.in-Table.props c.in-Table.is in
    (omega (arith, same, whole, c.decreases), c.requires)

pub raw_form-returns-in-Table-clause-made : goal.raw_form-returns-in-Table-clause-made
raw_form-returns-in-Table-clause-made t c =
    typed_made c.raw_table.result c.args.arena.now c.raw_table.new.arena (field_types c.args.aliases.now) _ _ c.raw_table.ensures.made
    (ap (λ (props : List code.Prop.Prop). table_of (raw_fields (known_in c.args.arena.now c.args.aliases.now) (view_props props))) c.as_slice-in-Table.ensures ∙ sym (table_form (known_in c.args.arena.now c.args.aliases.now) c.args.typ.now c.in-Table.props c.in-Table.is))

pub raw_form-returns-in-Func-clause-made : goal.raw_form-returns-in-Func-clause-made
raw_form-returns-in-Func-clause-made t c =
    plain_made c.plain_ref-in-Func.result c.args.arena.now c.plain_ref-in-Func.new.arena (field_types c.args.aliases.now) _ _ c.plain_ref-in-Func.ensures.made (sym (func_form (known_in c.args.arena.now c.args.aliases.now) c.args.typ.now c.in-Func.generics c.in-Func.params c.in-Func.result c.in-Func.is))

pub raw_form-returns-in-Func-clause-err : goal.raw_form-returns-in-Func-clause-err
raw_form-returns-in-Func-clause-err t c =
    plain_err c.plain_ref-in-Func.result c.args.arena.now c.plain_ref-in-Func.new.arena (field_types c.args.aliases.now) c.plain_ref-in-Func.ensures.err

pub raw_form-raw_list-requires : goal.raw_form-raw_list-requires
raw_form-raw_list-requires t c =
    let same : weight_of_types (view_types c.as_slice-in-Union.result.now) ≡ weight_of_types (view_types c.in-Union.types) = ap (λ (ts : List code.TypeSyntax.TypeSyntax). weight_of_types (view_types ts)) c.as_slice-in-Union.ensures in
    let whole = union_weight c.args.typ.now c.in-Union.types c.in-Union.is in
    (omega (arith, same, whole, c.decreases), c.requires)

pub raw_form-returns-in-Union-clause-made : goal.raw_form-returns-in-Union-clause-made
raw_form-returns-in-Union-clause-made t c =
    typed_made c.raw_list.result c.args.arena.now c.raw_list.new.arena (field_types c.args.aliases.now) _ _ c.raw_list.ensures.made
    (ap (λ (ts : List code.TypeSyntax.TypeSyntax). all_joined Either (known_in c.args.arena.now c.args.aliases.now) (view_types ts)) c.as_slice-in-Union.ensures ∙ sym (union_form (known_in c.args.arena.now c.args.aliases.now) c.args.typ.now c.in-Union.types c.in-Union.is))

pub raw_form-raw_list-requires-in-Meet : goal.raw_form-raw_list-requires-in-Meet
raw_form-raw_list-requires-in-Meet t c =
    let same : weight_of_types (view_types c.as_slice-in-Meet.result.now) ≡ weight_of_types (view_types c.in-Meet.types) = ap (λ (ts : List code.TypeSyntax.TypeSyntax). weight_of_types (view_types ts)) c.as_slice-in-Meet.ensures in
    let whole = meet_weight c.args.typ.now c.in-Meet.types c.in-Meet.is in
    (omega (arith, same, whole, c.decreases), c.requires)

pub raw_form-returns-in-Meet-clause-made : goal.raw_form-returns-in-Meet-clause-made
raw_form-returns-in-Meet-clause-made t c =
    typed_made c.raw_list-in-Meet.result c.args.arena.now c.raw_list-in-Meet.new.arena (field_types c.args.aliases.now) _ _ c.raw_list-in-Meet.ensures.made
    (ap (λ (ts : List code.TypeSyntax.TypeSyntax). all_joined Both (known_in c.args.arena.now c.args.aliases.now) (view_types ts)) c.as_slice-in-Meet.ensures ∙ sym (meet_form (known_in c.args.arena.now c.args.aliases.now) c.args.typ.now c.in-Meet.types c.in-Meet.is))

pub raw_form-returns-in-Pack-clause-made : goal.raw_form-returns-in-Pack-clause-made
raw_form-returns-in-Pack-clause-made t c =
    plain_made c.plain_ref-in-Pack.result c.args.arena.now c.plain_ref-in-Pack.new.arena (field_types c.args.aliases.now) _ _ c.plain_ref-in-Pack.ensures.made (sym (pack_form (known_in c.args.arena.now c.args.aliases.now) c.args.typ.now c.in-Pack.field-0 c.in-Pack.is))

pub raw_form-returns-in-Pack-clause-err : goal.raw_form-returns-in-Pack-clause-err
raw_form-returns-in-Pack-clause-err t c =
    plain_err c.plain_ref-in-Pack.result c.args.arena.now c.plain_ref-in-Pack.new.arena (field_types c.args.aliases.now) c.plain_ref-in-Pack.ensures.err

pub raw_form-returns-in-Variadic-clause-made : goal.raw_form-returns-in-Variadic-clause-made
raw_form-returns-in-Variadic-clause-made t c =
    plain_made c.plain_ref-in-Variadic.result c.args.arena.now c.plain_ref-in-Variadic.new.arena (field_types c.args.aliases.now) _ _ c.plain_ref-in-Variadic.ensures.made (sym (variadic_form (known_in c.args.arena.now c.args.aliases.now) c.args.typ.now c.in-Variadic.field-0 c.in-Variadic.is))

pub raw_form-returns-in-Variadic-clause-err : goal.raw_form-returns-in-Variadic-clause-err
raw_form-returns-in-Variadic-clause-err t c =
    plain_err c.plain_ref-in-Variadic.result c.args.arena.now c.plain_ref-in-Variadic.new.arena (field_types c.args.aliases.now) c.plain_ref-in-Variadic.ensures.err

pub raw_form-returns-in-GenericPack-clause-made : goal.raw_form-returns-in-GenericPack-clause-made
raw_form-returns-in-GenericPack-clause-made t c =
    plain_made c.plain_ref-in-GenericPack.result c.args.arena.now c.plain_ref-in-GenericPack.new.arena (field_types c.args.aliases.now) _ _ c.plain_ref-in-GenericPack.ensures.made (sym (generic_form (known_in c.args.arena.now c.args.aliases.now) c.args.typ.now c.in-GenericPack.field-0 c.in-GenericPack.is))

pub raw_form-returns-in-GenericPack-clause-err : goal.raw_form-returns-in-GenericPack-clause-err
raw_form-returns-in-GenericPack-clause-err t c =
    plain_err c.plain_ref-in-GenericPack.result c.args.arena.now c.plain_ref-in-GenericPack.new.arena (field_types c.args.aliases.now) c.plain_ref-in-GenericPack.ensures.err

pub raw_form-raw_type-requires : goal.raw_form-raw_type-requires
raw_form-raw_type-requires t c =
    let same : weight (view_type c.get.result.now) ≡ weight (view_type c.in-Optional.inner) = ap (λ (y : code.TypeSyntax.TypeSyntax). weight (view_type y)) c.get.ensures in
    let whole = optional_weight c.args.typ.now c.in-Optional.inner c.in-Optional.is in
    (omega (arith, same, whole, c.decreases), c.requires)

pub raw_form-returns-in_err-at-in-Optional-clause-err : goal.raw_form-returns-in_err-at-in-Optional-clause-err
raw_form-returns-in_err-at-in-Optional-clause-err t c =
    on_err c.from_residual.result _ c.in_err-at-in-Optional.ensures.err

pub raw_form-with_marks-requires : goal.raw_form-with_marks-requires
raw_form-with_marks-requires t c =
    c.in_ok-at-in-Optional.ensures.made.there

pub raw_form-returns-in_ok-at-in-Optional-clause-made : goal.raw_form-returns-in_ok-at-in-Optional-clause-made
raw_form-returns-in_ok-at-in-Optional-clause-made t c =
    then_made c.with_marks.result c.args.arena.now c.raw_type.new.arena c.with_marks.new.arena (field_types c.args.aliases.now) c.in_ok-at-in-Optional.at _ _ (marked 1) c.in_ok-at-in-Optional.ensures.made c.with_marks.ensures.made
    (ap (λ (y : code.TypeSyntax.TypeSyntax). marked 1 (raw (known_in c.args.arena.now c.args.aliases.now) (view_type y))) c.get.ensures ∙ sym (optional_form (known_in c.args.arena.now c.args.aliases.now) c.args.typ.now c.in-Optional.inner c.in-Optional.is))

pub raw_form-returns-in_ok-at-in-Optional-clause-err : goal.raw_form-returns-in_ok-at-in-Optional-clause-err
raw_form-returns-in_ok-at-in-Optional-clause-err t c =
    then_err c.with_marks.result c.args.arena.now c.raw_type.new.arena c.with_marks.new.arena (field_types c.args.aliases.now) c.in_ok-at-in-Optional.at _ c.in_ok-at-in-Optional.ensures.made c.with_marks.ensures.err

pub raw_type-raw_form-requires : goal.raw_type-raw_form-requires
raw_type-raw_form-requires t c =
    (omega (arith, c.unmarked-marks.ensures.lighter, c.decreases), c.requires)

pub raw_type-returns-in_err-at-clause-err : goal.raw_type-returns-in_err-at-clause-err
raw_type-returns-in_err-at-clause-err t c =
    on_err c.from_residual.result _ c.in_err-at.ensures.err

pub raw_type-with_marks-requires : goal.raw_type-with_marks-requires
raw_type-with_marks-requires t c =
    c.in_ok-at.ensures.made.there

pub raw_type-returns-clause-made : goal.raw_type-returns-clause-made
raw_type-returns-clause-made t c =
    then_made c.with_marks.result c.args.arena.now c.raw_form.new.arena c.with_marks.new.arena (field_types c.args.aliases.now) c.in_ok-at.at _ _ (marked c.unmarked-marks.result.0) c.in_ok-at.ensures.made c.with_marks.ensures.made (c.unmarked-marks.ensures.same (known_in c.args.arena.now c.args.aliases.now))

pub raw_type-returns-clause-err : goal.raw_type-returns-clause-err
raw_type-returns-clause-err t c =
    then_err c.with_marks.result c.args.arena.now c.raw_form.new.arena c.with_marks.new.arena (field_types c.args.aliases.now) c.in_ok-at.at _ c.in_ok-at.ensures.made c.with_marks.ensures.err

pub raw_list-returns-in_default-clause-made : goal.raw_list-returns-in_default-clause-made
raw_list-returns-in_default-clause-made t c =
    plain_made c.plain_ref.result c.args.arena.now c.plain_ref.new.arena (field_types c.args.aliases.now) _ _ c.plain_ref.ensures.made (c.none_of.ensures ∙ none_types c.args.choice (known_in c.args.arena.now c.args.aliases.now) c.args.types.now c.in_default.len_below)

pub raw_list-returns-in_default-clause-err : goal.raw_list-returns-in_default-clause-err
raw_list-returns-in_default-clause-err t c =
    plain_err c.plain_ref.result c.args.arena.now c.plain_ref.new.arena (field_types c.args.aliases.now) c.plain_ref.ensures.err

pub raw_list-raw_type-requires : goal.raw_list-raw_type-requires
raw_list-raw_type-requires t c =
    let under = first_weight c.args.types.now c.first-item.result (omega arith) c.first-item.is in
    (omega (arith, under, c.decreases), c.requires)

pub raw_list-returns-in_err-at-clause-err : goal.raw_list-returns-in_err-at-clause-err
raw_list-returns-in_err-at-clause-err t c =
    on_err c.from_residual.result _ c.in_err-at.ensures.err

pub raw_list-loop-typ-init : goal.raw_list-loop-typ-init
raw_list-loop-typ-init t c =
    as_type c.args.arena.now c.raw_type.new.arena (field_types c.args.aliases.now) c.in_ok-at.at _ _ c.in_ok-at.ensures.made (list_first c.args.choice (known_in c.args.arena.now c.args.aliases.now) c.args.types.now c.first-item.result (omega arith) c.first-item.is)

pub raw_list-raw_type-requires-in-loop-typ : goal.raw_list-raw_type-requires-in-loop-typ
raw_list-raw_type-requires-in-loop-typ t c =
    let under = rest_weight c.args.types.now (take (length c.args.types.now - 1) (drop 1 c.args.types.now)) c.loop-typ.typ-index c.typ-item.result (rest_all c.args.types.now) c.loop-typ-test.true c.typ-item.is in
    (omega (arith, under, c.decreases), given_there c.args.arena.now c.loop-typ.arena (field_types c.args.aliases.now) (given_refs (field_types c.args.aliases.now)) [] c.loop-typ.invariant.adds c.requires)

pub raw_list-returns-in_err-next-clause-err : goal.raw_list-returns-in_err-next-clause-err
raw_list-returns-in_err-next-clause-err t c =
    on_err c.from_residual-in_err-next.result _ (adds_again c.args.arena.now c.loop-typ.arena c.raw_type-in-loop-typ.new.arena (field_types c.args.aliases.now) c.requires c.loop-typ.invariant.adds c.in_err-next.ensures.err)

pub raw_list-join-requires-clause-first : goal.raw_list-join-requires-clause-first
raw_list-join-requires-clause-first t c =
    there_kept (store_of c.loop-typ.arena) (store_of c.raw_type-in-loop-typ.new.arena) c.loop-typ.at c.in_ok-next.ensures.made.adds.keeps c.loop-typ.invariant.there

pub raw_list-join-requires-clause-second : goal.raw_list-join-requires-clause-second
raw_list-join-requires-clause-second t c =
    c.in_ok-next.ensures.made.there

pub raw_list-returns-in_err-both-clause-err : goal.raw_list-returns-in_err-both-clause-err
raw_list-returns-in_err-both-clause-err t c =
    on_err c.from_residual-in_err-both.result _ (list_adds c.args.arena.now c.loop-typ.arena c.raw_type-in-loop-typ.new.arena c.join.new.arena c.args.aliases.now c.loop-typ.at c.in_ok-next.next _ (view_type c.typ-item.result) c.requires c.loop-typ.invariant c.in_ok-next.ensures.made c.in_err-both.ensures.err)

pub raw_list-loop-typ-preserved : goal.raw_list-loop-typ-preserved
raw_list-loop-typ-preserved t c =
    as_type c.args.arena.now c.join.new.arena (field_types c.args.aliases.now) c.in_ok-both.both _ _
    (list_step c.args.arena.now c.loop-typ.arena c.raw_type-in-loop-typ.new.arena c.join.new.arena c.args.aliases.now c.args.choice c.loop-typ.at c.in_ok-next.next c.in_ok-both.both _ (view_type c.typ-item.result) c.requires c.loop-typ.invariant c.in_ok-next.ensures.made c.in_ok-both.ensures.made)
    (list_more c.args.choice (known_in c.args.arena.now c.args.aliases.now) c.args.types.now (take (length c.args.types.now - 1) (drop 1 c.args.types.now)) c.loop-typ.typ-index c.typ-item.result (rest_all c.args.types.now) c.loop-typ-test.true c.typ-item.is)

pub raw_list-returns-clause-made : goal.raw_list-returns-clause-made
raw_list-returns-clause-made t c =
    as_type c.args.arena.now c.loop-typ.arena (field_types c.args.aliases.now) c.loop-typ.at _ _ c.loop-typ.invariant (list_done c.args.choice (known_in c.args.arena.now c.args.aliases.now) c.args.types.now (take (length c.args.types.now - 1) (drop 1 c.args.types.now)) c.loop-typ.typ-index (rest_all c.args.types.now) (omega arith) (omega (arith, c.loop-typ-test.false, c.loop-typ.auto.typ-index-end)))

pub raw_table-loop-prop-init : goal.raw_table-loop-prop-init
raw_table-loop-prop-init t c =
    fields_begun c.args.arena.now (field_types c.args.aliases.now) c.new-fields.result.entries (nothing_in c.new-fields.result.entries c.new-fields.ensures.len)

pub raw_table-raw_type-requires : goal.raw_table-raw_type-requires
raw_table-raw_type-requires t c =
    let under = prop_weight c.args.props.now c.loop-prop.prop-index c.prop-item.result c.loop-prop-test.true c.prop-item.is in
    (omega (arith, under, c.decreases), given_there c.args.arena.now c.loop-prop.arena (field_types c.args.aliases.now) (given_refs (field_types c.args.aliases.now)) [] c.loop-prop.invariant.adds c.requires)

pub raw_table-loop-prop-preserved-in-None : goal.raw_table-loop-prop-preserved-in-None
raw_table-loop-prop-preserved-in-None t c =
    fields_as c.args.arena.now c.loop-prop.arena (field_types c.args.aliases.now) c.loop-prop.fields.entries _ _ c.loop-prop.invariant
    (sym (prop_lost (known_in c.args.arena.now c.args.aliases.now) c.args.props.now c.loop-prop.prop-index c.prop-item.result c.loop-prop-test.true c.prop-item.is (sym c.in-None.ensures)))

pub raw_table-returns-in_err-at-in-Some-clause-err : goal.raw_table-returns-in_err-at-in-Some-clause-err
raw_table-returns-in_err-at-in-Some-clause-err t c =
    on_err c.from_residual.result _ (adds_again c.args.arena.now c.loop-prop.arena c.raw_type.new.arena (field_types c.args.aliases.now) c.requires c.loop-prop.invariant.adds c.in_err-at-in-Some.ensures.err)

pub raw_table-returns-in_err-key-in-Some-clause-err : goal.raw_table-returns-in_err-key-in-Some-clause-err
raw_table-returns-in_err-key-in-Some-clause-err t c =
    on_err c.from_residual-in_err-key-in-Some.result _ (adds_again c.args.arena.now c.loop-prop.arena c.raw_type.new.arena (field_types c.args.aliases.now) c.requires c.loop-prop.invariant.adds c.in_ok-at-in-Some.ensures.made.adds)

pub raw_table-returns-in_err-insert-in-Some-clause-err : goal.raw_table-returns-in_err-insert-in-Some-clause-err
raw_table-returns-in_err-insert-in-Some-clause-err t c =
    on_err c.from_residual-in_err-insert-in-Some.result _ (adds_again c.args.arena.now c.loop-prop.arena c.raw_type.new.arena (field_types c.args.aliases.now) c.requires c.loop-prop.invariant.adds c.in_ok-at-in-Some.ensures.made.adds)

pub raw_table-loop-prop-preserved : goal.raw_table-loop-prop-preserved
raw_table-loop-prop-preserved t c =
    fields_as c.args.arena.now c.raw_type.new.arena (field_types c.args.aliases.now) c.insert.new.self.entries _ _
    (field_more c.args.arena.now c.loop-prop.arena c.raw_type.new.arena c.args.aliases.now c.loop-prop.fields.entries c.insert.new.self.entries _ c.in-Some.name.now c.in_ok-at-in-Some.at (typ_of c.prop-item.result) c.requires c.loop-prop.invariant c.in_ok-at-in-Some.ensures.made
    (c.in_ok-insert-in-Some.ensures.entries ∙ ap (λ (key : List ℕ). insert_entry name_cmp c.loop-prop.fields.entries key c.in_ok-at-in-Some.at) c.in_ok-key-in-Some.ensures))
    (sym (prop_put (known_in c.args.arena.now c.args.aliases.now) c.args.props.now c.loop-prop.prop-index c.prop-item.result c.in-Some.name.now c.loop-prop-test.true c.prop-item.is (sym c.in-Some.ensures)))

pub raw_table-returns-in_err-row-clause-err : goal.raw_table-returns-in_err-row-clause-err
raw_table-returns-in_err-row-clause-err t c =
    on_err c.from_residual-in_err-row.result _ (row_adds c.args.arena.now c.loop-prop.arena c.row_ref.new.arena (field_types c.args.aliases.now) c.loop-prop.fields.entries _ c.loop-prop.invariant c.in_err-row.ensures.err)

pub raw_table-returns-clause-made : goal.raw_table-returns-clause-made
raw_table-returns-clause-made t c =
    row_after c.args.arena.now c.loop-prop.arena c.row_ref.new.arena (field_types c.args.aliases.now) c.loop-prop.fields.entries _ c.in_ok-row.row _ c.loop-prop.invariant c.in_ok-row.ensures.made
    (all_rowed (known_in c.args.arena.now c.args.aliases.now) c.args.props.now c.loop-prop.prop-index (omega arith))
