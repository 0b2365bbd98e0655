use Rattle.std.proofs.lemmas.List.Elements.{same_from_all_zip}
use Rattle.type_arena.specs.contracts.node.RowClone.TheImpl as RowClone
use Rattle.type_arena.proofs.CloneLemmas.{same_strings, same_functions, same_row}
use Rattle.type_fields.proofs.setting.with_rows_of.Goals as goal

pub returns : goal.returns
returns c =
    let rows = same_from_all_zip RowClone.ghosts.is_clone c.args.tables.now.rows c.in_ok-rows.rows c.in_ok-rows.ensures.cases same_row in
    let strings = same_strings c.args.node.now.strings c.in_ok-clone.field-0 c.in_ok-clone.ensures.cases in
    let functions = same_functions c.args.node.now.functions c.in_ok-clone-2.field-0 c.in_ok-clone-2.ensures.cases in
    λ i. record {
      nil = c.args.node.now.nil;
      truth = c.args.node.now.truth;
      falsity = c.args.node.now.falsity;
      number = c.args.node.now.number;
      other = c.args.node.now.other;
      strings = strings i;
      functions = functions i;
      rows = rows i;
    }
