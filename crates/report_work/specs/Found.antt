-- What the reports of expressions make of what is at hand: reports alone change.
use Rattle.std.specs.Prelude.{Bool, List, [], ◌∷◌, ◌++◌, if◌then◌else◌}
use Rattle.luau_tree.specs.declared.names.Place.TheVariants.{Expr as ExprPlace}
use Rattle.luau_tree.specs.Tree.{Expr, the_expr, Item, Field, Keyed, Plain, Body, the_body}
use Rattle.report_rules.specs.Rules.{Rules, use_of}
use Rattle.report_rules.specs.Seen.{Seen, is_body_live}
use Rattle.report_rules.specs.Findings.{is_builtin, own_kinds, found, found_in, found_params, found_body}
use Rattle.report_work.specs.Work.{Work}
use Rattle.report_work.specs.Moves.{reported}
use Rattle.report_work.specs.Checks.{Check, Unchecked, Base, check_kinds}
use Rattle.report_work.specs.Expressions.{values_at_hand}

-- an expression that is checked
abbrev pub found_as : Rules → List Seen → Check → Expr → Work → Work
found_as rules seen check e work = reported (found rules seen (check_kinds rules seen (values_at_hand work) check e) e) work

-- its own place
abbrev pub found_own : Rules → List Seen → Check → Expr → Work → Work
found_own rules seen check (the_expr id span kind) work =
    reported (record {
      place = ExprPlace (record { 0 = id });
      at = span;
      kinds = check_kinds rules seen (values_at_hand work) check (the_expr id span kind) ++ own_kinds rules seen id kind;
    } ∷ []) work

-- the place of a target, which is no call
abbrev pub found_there : Rules → List Seen → Check → Expr → Work → Work
found_there rules seen check (the_expr id span kind) work =
    reported (record { place = ExprPlace (record { 0 = id }); at = span; kinds = check_kinds rules seen (values_at_hand work) check (the_expr id span kind) } ∷ []) work

-- its parts, where its base is checked in some way
abbrev pub found_parts_as : Rules → List Seen → (how : Check) → Expr → Work → Work
found_parts_as rules seen how (the_expr id span kind) work = reported (found_in rules seen (check_kinds rules seen (values_at_hand work) how) kind) work

-- how the base of what is read is checked: that of a builtin's path isn't evaluated
abbrev pub base_check : (is_path : Bool) → Check
base_check is_path = if is_path then Unchecked else Base

abbrev pub read_check : Rules → Expr → Check
read_check rules e = base_check (is_builtin (use_of rules e))

-- the condition and the value of a choice, and the expressions of an item
abbrev pub found_choice : Rules → List Seen → (cond value : Expr) → Work → Work
found_choice rules seen cond value work = found_as rules seen Unchecked cond (found_as rules seen Unchecked value work)

abbrev pub found_item : Rules → List Seen → Item → Work → Work
found_item rules seen (Field name e) work = found_as rules seen Unchecked e work
found_item rules seen (Keyed key e) work = found_as rules seen Unchecked key (found_as rules seen Unchecked e work)
found_item rules seen (Plain e) work = found_as rules seen Unchecked e work

-- a function's body, and its parameters, where the context before its block is behind
abbrev pub with_body : Rules → List Seen → Body → Work → Work
with_body rules seen body work = reported (found_body rules seen body) work

abbrev pub with_params : Rules → List Seen → Body → Work → Work
with_params rules seen (the_body id has_self generics params vararg result block span) work =
    reported (found_params rules (is_body_live seen id) id 0 work.behind params) work
