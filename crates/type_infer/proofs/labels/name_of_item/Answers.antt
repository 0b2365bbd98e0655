use Rattle.std.proofs.Common.{sym, ap, ◌∙◌}
use Rattle.luau_tree.specs.View.{view_item}
use Rattle.luau_tree.proofs.Views.{field_item_seen, keyed_item_seen, plain_item_seen}
use Rattle.type_infer.specs.ItemNames.{item_name}
use Rattle.type_infer.proofs.labels.name_of_item.Goals as goal

pub returns-in-Field : goal.returns-in-Field
returns-in-Field c = sym (ap item_name (ap view_item c.in-Field.is ∙ field_item_seen c.in-Field.name c.in-Field.value))

pub returns-in-Keyed : goal.returns-in-Keyed
returns-in-Keyed c = c.name_of_key.ensures ∙ sym (ap item_name (ap view_item c.in-Keyed.is ∙ keyed_item_seen c.in-Keyed.key c.in-Keyed.value))

pub returns-in-Plain : goal.returns-in-Plain
returns-in-Plain c = sym (ap item_name (ap view_item c.in-Plain.is ∙ plain_item_seen c.in-Plain.field-0))
