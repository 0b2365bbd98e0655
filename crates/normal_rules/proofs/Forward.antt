-- The types of expressions are in normal form.
use Rattle.std.proofs.Common.{◌≡◌, ℕ, Bool, true, false, List, [], ◌∷◌, refl}
use Rattle.std.specs.Prelude.{⊤, cond, Option, Some, None, codes, find, if◌then◌else◌}
use Rattle.std.specs.List.{AllByRecursion}
use Rattle.std.specs.Str.{bytes_eq}
use Rattle.luau_tree.specs.declared.names.BinOp.{BinOp}
use Rattle.luau_tree.specs.declared.names.BinOp.TheVariants.{Or, And, Less, Greater, LessEqual, GreaterEqual, NotEqual, Equal, Concat}
use Rattle.luau_tree.specs.declared.names.UnOp.{UnOp}
use Rattle.luau_tree.specs.declared.names.UnOp.TheVariants.{Not}
use Rattle.luau_tree.specs.Tree.{Expr, the_expr, Exprs, no_exprs, more_exprs, ExprKind, NilExpr, TrueExpr, FalseExpr, NumberExpr, StrExpr, Vararg, FunctionExpr, NameExpr, Index, At, Call, Method, Paren, Unary, Binary, IfElse, TableExpr, Interp, Assert, Choices, no_choices, more_choices, Item, Field, Keyed, Plain, Items, no_items, more_items}
use Rattle.luau_run.specs.ReadModule.{Use, UseLocal, UseBuiltin, UseLibrary}
use Rattle.type_arena.specs.Term.{Function, builtin, Term, Fields}
use Rattle.type_normal.specs.Field.{field_type, frozen_rows}
use Rattle.type_normal.specs.HeapFree.{widen, has_field}
use Rattle.type_normal.specs.Kinds.{unknown, nil_type, number_type, string_type, table_type, row_type, falsy, truthy, exactly_one_function}
use Rattle.type_normal.specs.Operations.{meet, put_field}
use Rattle.type_normal.specs.Rows.{names_in_order}
use Rattle.type_ops.proofs.FieldKeeps.{field_type_normal, frozen_rows_normal, row_type_normal}
use Rattle.type_ops.proofs.KeepFacts.{each_normal, field_names, field_each, union_normal, meet_normal, widen_normal}
use Rattle.subtype_check.specs.Below.{below}
use Rattle.report_rules.specs.Rules.{TypedBuiltin, Rules, declared}
use Rattle.report_rules.specs.Effects.{any_effects, effects, effects_of_item, effects_of_items}
use Rattle.report_rules.specs.TypeMap.{TypeMap, refine}
use Rattle.report_rules.specs.Forward.{name_type, builtin_or, has_strings_or_other, property, not_other, unary_type, both_known, binary_type, first_result, declared_result, call_result, call_type, held, after_part, after, after_list, has_other_key, with_earlier, with_keyed, first_or_never, typ, type_of_kind, types_of_list, type_of_choices, fields_of_items, field_of_item, target_use, type_of_target}
use Rattle.normal_rules.specs.Normal.{IsNormal, IsNormalIf, HasNormalSignature, HaveNormalTypes}
use Rattle.normal_rules.proofs.Maps.{IsNormalMap, pick, local_normal, widened_normal, refine_normal}

name_normal : (rules : Rules) (map : TypeMap) (used : Option Use) → IsNormalMap map → IsNormal (name_type rules map used)
name_normal rules map (Some (UseLocal local)) n = local_normal rules map local n
name_normal rules map (Some (UseBuiltin path)) n = refl
name_normal rules map (Some UseLibrary) n = refl
name_normal rules map _ n = refl

builtin_or_normal : (used : Option Use) (type : Term) → IsNormal type → IsNormal (builtin_or used type)
builtin_or_normal (Some (UseBuiltin path)) type n = refl
builtin_or_normal _ type n = n

property_normal : (name : List ℕ) (base : Term) → IsNormal base → IsNormal (property name base)
property_normal name base n = pick (has_strings_or_other base) unknown (field_type name base) refl (field_type_normal name base n)

unary_normal : (op : UnOp) (operand : Term) → IsNormal (unary_type op operand)
unary_normal Not operand = refl
unary_normal op operand = pick (below operand not_other) number_type unknown refl refl

pub binary_normal : (op : BinOp) (l r : Term) → IsNormal (binary_type op l r)
binary_normal Equal l r = refl
binary_normal NotEqual l r = refl
binary_normal Less l r = refl
binary_normal Greater l r = refl
binary_normal LessEqual l r = refl
binary_normal GreaterEqual l r = refl
binary_normal Concat l r = pick (both_known l r) string_type unknown refl refl
binary_normal op l r = pick (both_known l r) number_type unknown refl refl

-- ---- calls

first_result_normal : (types : List Term) (more : Option Term) → AllByRecursion IsNormal types → IsNormalIf more → IsNormal (first_result types more)
first_result_normal (type ∷ types) more all m = all.0
first_result_normal [] (Some more) all m = union_normal more nil_type m refl
first_result_normal [] None all m = refl

HasNormalIf : Option TypedBuiltin → Type 0
HasNormalIf None = ⊤
HasNormalIf (Some b) = HasNormalSignature b

found_by : (t : Bool) (b : TypedBuiltin) (rest : Option TypedBuiltin) → HasNormalSignature b → HasNormalIf rest → HasNormalIf (cond t (Some b) rest)
unfolding HasNormalIf
found_by true b rest n m = n
found_by false b rest n m = m

found_normal : (test : TypedBuiltin → Bool) (table : List TypedBuiltin) → AllByRecursion HasNormalSignature table → HasNormalIf (find test table)
unfolding HasNormalIf
found_normal test [] all = tt
found_normal test (b ∷ table) all = found_by (test b) b (find test table) all.0 (found_normal test table all.1)

declared_normal : (path : List ℕ) (first : Term) (found : Option TypedBuiltin) → IsNormal first → HasNormalIf found → IsNormal (declared_result path first found)
unfolding HasNormalIf
declared_normal path first None n h = refl
declared_normal path first (Some b) n h =
    pick (bytes_eq path (codes "table.freeze")) (frozen_rows first) (first_result b.results b.more) (frozen_rows_normal first n)
    (first_result_normal b.results b.more h.results h.more)

call_result_normal : (rules : Rules) (function : Option Function) (first : Term) → HaveNormalTypes rules → IsNormal first → IsNormal (call_result rules function first)
call_result_normal rules (Some (builtin path)) first h n =
    declared_normal path first (declared rules path) n (found_normal (λ b. bytes_eq b.path path) rules.table h.builtins)
call_result_normal rules _ first h n = refl

call_normal : (rules : Rules) (id : ℕ) (required : Option ℕ) (callee first : Term) → HaveNormalTypes rules → IsNormal first → IsNormal (call_type rules id required callee first)
call_normal rules id (Some other) callee first h n = h.imports id
call_normal rules id None callee first h n = call_result_normal rules (exactly_one_function callee) first h n

-- ---- what is held, and what comes after

held_normal : (later : Bool) (type : Term) → IsNormal type → IsNormal (held later type)
held_normal later type n = pick later (widen type) type (widen_normal type n) n

pub after_part_normal : (stirs : Bool) (map : TypeMap) → IsNormalMap map → IsNormalMap (after_part stirs map)
after_part_normal true map n = widened_normal map n
after_part_normal false map n = n

pub after_normal : (rules : Rules) (map : TypeMap) (e : Expr) → IsNormalMap map → IsNormalMap (after rules map e)
after_normal rules map e n = after_part_normal (effects rules e) map n

pub after_list_normal : (rules : Rules) (map : TypeMap) (es : Exprs) → IsNormalMap map → IsNormalMap (after_list rules map es)
after_list_normal rules map es n = after_part_normal (any_effects rules es) map n

first_normal : (types : List Term) → AllByRecursion IsNormal types → IsNormal (first_or_never types)
first_normal [] all = refl
first_normal (type ∷ types) all = all.0

-- ---- fields

-- the names are in order, and the types are in normal form
record AreNormal (fields : Fields) : Type 0 where
  names : names_in_order fields ≡ true
  each : each_normal fields ≡ true

earlier_by : (b : Bool) (name : List ℕ) (type : Term) (later : Fields) → IsNormal type → AreNormal later
    → AreNormal (if b then later else put_field name type (λ (t : Term). t) later)
earlier_by true name type later n all = all
earlier_by false name type later n all = record {
  names = field_names name type (λ (t : Term). t) later all.names;
  each = field_each name type (λ (t : Term). t) later n (λ t m. m) all.each;
}

earlier_normal : (name : List ℕ) (type : Term) (later : Fields) → IsNormal type → AreNormal later → AreNormal (with_earlier name type later)
earlier_normal name type later n all = earlier_by (has_field name later) name type later n all

keyed_normal : (key : Expr) (type : Term) (later : Fields) → IsNormal type → AreNormal later → AreNormal (with_keyed key type later)
keyed_normal (the_expr id span (StrExpr name)) type later n all = earlier_normal name type later n all
keyed_normal key type later n all = all

row_by : (b : Bool) (fs : Fields) → AreNormal fs → IsNormal (if b then table_type else row_type false fs)
row_by true fs all = refl
row_by false fs all = row_type_normal false fs all.names all.each

-- ---- expressions

mutual
  pub typ_normal : (rules : Rules) (map : TypeMap) (e : Expr) → HaveNormalTypes rules → IsNormalMap map → IsNormal (typ rules map e)
  typ_normal rules map (the_expr id span kind) h n = builtin_or_normal (rules.reading.use_of id) (type_of_kind rules map id kind) (kind_normal rules map id kind h n)

  pub kind_normal : (rules : Rules) (map : TypeMap) (id : ℕ) (kind : ExprKind) → HaveNormalTypes rules → IsNormalMap map → IsNormal (type_of_kind rules map id kind)
  kind_normal rules map id NilExpr h n = refl
  kind_normal rules map id TrueExpr h n = refl
  kind_normal rules map id FalseExpr h n = refl
  kind_normal rules map id (StrExpr bytes) h n = refl
  kind_normal rules map id (NumberExpr text) h n = refl
  kind_normal rules map id (FunctionExpr body) h n = refl
  kind_normal rules map id (NameExpr name) h n = name_normal rules map (rules.reading.use_of id) n
  kind_normal rules map id Vararg h n = refl
  kind_normal rules map id (Paren e) h n = typ_normal rules map e h n
  kind_normal rules map id (Assert e syntax) h n = typ_normal rules map e h n
  kind_normal rules map id (Index base name) h n = property_normal name (typ rules map base) (typ_normal rules map base h n)
  kind_normal rules map id (At base (the_expr key_id key_span (StrExpr name))) h n = property_normal name (typ rules map base) (typ_normal rules map base h n)
  kind_normal rules map id (At base key) h n = refl
  kind_normal rules map id (Call callee args) h n =
      call_normal rules id (rules.reading.required id) (typ rules map callee) (first_or_never (types_of_list rules (after rules map callee) args)) h
      (first_normal (types_of_list rules (after rules map callee) args) (list_normal rules (after rules map callee) args h (after_normal rules map callee n)))
  kind_normal rules map id (Method base name name_span args) h n = refl
  kind_normal rules map id (Unary op e) h n = unary_normal op (typ rules map e)
  kind_normal rules map id (Binary And left right) h n =
      union_normal (meet (typ rules map left) falsy) (typ rules (refine rules left true (after rules map left)) right)
      (meet_normal (typ rules map left) falsy (typ_normal rules map left h n) refl)
      (typ_normal rules (refine rules left true (after rules map left)) right h (refine_normal rules left true (after rules map left) (after_normal rules map left n)))
  kind_normal rules map id (Binary Or left right) h n =
      union_normal (meet (typ rules map left) truthy) (typ rules (refine rules left false (after rules map left)) right)
      (meet_normal (typ rules map left) truthy (typ_normal rules map left h n) refl)
      (typ_normal rules (refine rules left false (after rules map left)) right h (refine_normal rules left false (after rules map left) (after_normal rules map left n)))
  kind_normal rules map id (Binary op left right) h n = binary_normal op (typ rules map left) (typ rules (after rules map left) right)
  kind_normal rules map id (IfElse arms last) h n =
      choices_normal rules map arms (λ at_last. typ rules at_last last) h n (λ at_last m. typ_normal rules at_last last h m)
  kind_normal rules map id (Interp texts parts) h n = refl
  kind_normal rules map id (TableExpr items) h n = row_by (has_other_key items) (fields_of_items rules map items) (items_normal rules map items h n)

  pub list_normal : (rules : Rules) (map : TypeMap) (es : Exprs) → HaveNormalTypes rules → IsNormalMap map → AllByRecursion IsNormal (types_of_list rules map es)
  list_normal rules map no_exprs h n = tt
  list_normal rules map (more_exprs e rest) h n =
      (held_normal (any_effects rules rest) (typ rules map e) (typ_normal rules map e h n), list_normal rules (after rules map e) rest h (after_normal rules map e n))

  choices_normal : (rules : Rules) (map : TypeMap) (arms : Choices) (last : TypeMap → Term) → HaveNormalTypes rules → IsNormalMap map
      → ((at_last : TypeMap) → IsNormalMap at_last → IsNormal (last at_last)) → IsNormal (type_of_choices rules map arms last)
  choices_normal rules map no_choices last h n l = l map n
  choices_normal rules map (more_choices cond e rest) last h n l =
      union_normal (typ rules (refine rules cond true (after rules map cond)) e) (type_of_choices rules (refine rules cond false (after rules map cond)) rest last)
      (typ_normal rules (refine rules cond true (after rules map cond)) e h (refine_normal rules cond true (after rules map cond) (after_normal rules map cond n)))
      (choices_normal rules (refine rules cond false (after rules map cond)) rest last h (refine_normal rules cond false (after rules map cond) (after_normal rules map cond n)) l)

  items_normal : (rules : Rules) (map : TypeMap) (items : Items) → HaveNormalTypes rules → IsNormalMap map → AreNormal (fields_of_items rules map items)
  items_normal rules map no_items h n = record { names = refl; each = refl }
  items_normal rules map (more_items item rest) h n =
      item_normal rules map (effects_of_items rules rest) (fields_of_items rules (after_part (effects_of_item rules item) map) rest) item h n
      (items_normal rules (after_part (effects_of_item rules item) map) rest h (after_part_normal (effects_of_item rules item) map n))

  item_normal : (rules : Rules) (map : TypeMap) (effects_later : Bool) (later : Fields) (item : Item) → HaveNormalTypes rules → IsNormalMap map → AreNormal later
      → AreNormal (field_of_item rules map effects_later later item)
  item_normal rules map effects_later later (Field name e) h n all =
      earlier_normal name (held effects_later (typ rules map e)) later (held_normal effects_later (typ rules map e) (typ_normal rules map e h n)) all
  item_normal rules map effects_later later (Keyed key e) h n all =
      keyed_normal key (held effects_later (typ rules (after rules map key) e)) later
      (held_normal effects_later (typ rules (after rules map key) e) (typ_normal rules (after rules map key) e h (after_normal rules map key n))) all
  item_normal rules map effects_later later (Plain e) h n all = all

-- a target
pub target_normal : (rules : Rules) (map : TypeMap) (e : Expr) → HaveNormalTypes rules → IsNormalMap map → IsNormal (type_of_target rules map e)
target_normal rules map (the_expr id span (NameExpr name)) h n = name_normal rules map (target_use (rules.reading.use_of id)) n
target_normal rules map (the_expr id span kind) h n = kind_normal rules map id kind h n
