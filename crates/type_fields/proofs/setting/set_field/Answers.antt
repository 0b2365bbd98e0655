use Rattle.std.proofs.Common.{◌≡◌, ◌≤◌, length, ap, ◌∙◌, arith}
use Rattle.std.specs.List.{insert}
use Rattle.type_fields.specs.Setting.{name_place, with_name}
use Rattle.type_fields.proofs.SettingFacts.{place_within, inserted}
use Rattle.type_fields.proofs.setting.set_field.Goals as goal

pub insert-requires : goal.insert-requires
insert-requires c =
    let w : name_place c.args.name.now c.as_slice.result.now ≤ length c.as_slice.result.now = place_within c.args.name.now c.as_slice.result.now in
    omega (arith, w, c.place_of-place.ensures, c.as_slice.ensures.len)

pub returns : goal.returns
returns c =
    let place : c.place_of-place.result ≡ name_place c.args.name.now c.in_ok-all.all.items = c.place_of-place.ensures ∙ ap (name_place c.args.name.now) c.as_slice.ensures.value in
    let same : c.in_ok-clone.field-0 ≡ c.args.name.now = c.in_ok-clone.ensures.cases in
    c.of.ensures
    ∙ c.in_ok-insert.ensures.items
    ∙ (λ i. insert c.in_ok-all.all.items (place i) (same i, c.args.value))
    ∙ inserted c.args.name.now c.args.value c.in_ok-all.all.items
    ∙ ap (with_name c.args.name.now c.args.value) c.in_ok-all.ensures
