-- Fates as the program holds them.
use Rattle.std.proofs.Common.{◌≡◌, ℕ, List, Option, None, Some, refl, map, option_map}
use Rattle.luau_tree.specs.Position.{pos_at}
use Rattle.rules_certain.specs.Calls.{Written}
use Rattle.nonstrict_cli.specs.declared.fate.Fate.{Fate as Found}
use Rattle.nonstrict_cli.specs.declared.fate.Fate.TheVariants as found
use Rattle.nonstrict_cli.specs.declared.reason.Reason.TheVariants.{FormNotBuilt}
use Rattle.nonstrict_cli.specs.Fate.{Fate, Refused, Checked, fate_by_calls, first_place}
use Rattle.nonstrict_cli.specs.FateFound.{found_of, lines_found}
use Rattle.nonstrict_cli.specs.Form.{offsets_of}
use Rattle.nonstrict_cli.specs.Lines.{lines_for}

-- the lines by a fate are those by what the program holds of it
pub lines_by_found : (path : List ℕ) (fate : Fate) → lines_found path (found_of fate) ≡ lines_for path fate
lines_by_found path (Refused at why) = refl
lines_by_found path (Checked text calls) = refl

-- what the program holds of a fate by the offsets that fail, if the text is of the built form
abbrev pub found_by : List ℕ → Option (List ℕ) → Found
found_by text None = found.Refused first_place FormNotBuilt
found_by text (Some offsets) = found.Checked (map (pos_at text) offsets)

pub found_by_offsets : (text : List ℕ) (calls : Option (List Written)) → found_of (fate_by_calls text calls) ≡ found_by text (option_map offsets_of calls)
found_by_offsets text None = refl
found_by_offsets text (Some calls) = refl
