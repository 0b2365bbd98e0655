-- Written types mean types in normal form.
use Rattle.std.proofs.Common.{◌≡◌, ℕ, Bool, true, false, List, [], ◌∷◌, ◌++◌, refl}
use Rattle.std.specs.Prelude.{◌==◌, ⊤, cond, Option, Some, None, find, codes, if◌then◌else◌, zero, suc}
use Rattle.std.specs.List.{AllByRecursion}
use Rattle.std.specs.Option.{option_map_or}
use Rattle.std.specs.Str.{bytes_eq}
use Rattle.luau_tree.specs.Tree.{Block, no_stats, more_stats, the_stat, StatKind, Assign, Compound, CallStat, Do, While, Repeat, If, NumFor, GenFor, FunctionStat, LocalFunction, Local, TypeAlias, TypeFunction, Return, Break, Continue, Arms, no_arms, more_arms, MaybeBlock, no_block, a_block, Expr, the_expr, Exprs, no_exprs, more_exprs, MaybeExpr, no_expr, an_expr, ExprKind, NilExpr, TrueExpr, FalseExpr, NumberExpr, StrExpr, Vararg, FunctionExpr, NameExpr, Index, At, Call, Method, Paren, Unary, Binary, IfElse, TableExpr, Interp, Assert, Choices, no_choices, more_choices, Item, Field, Keyed, Plain, Items, no_items, more_items, Body, the_body, the_bind, Binds, no_binds, more_binds, the_gen, Gens, no_gens, more_gens, MaybeType, no_type, a_type}
use Rattle.luau_tree.specs.Tree as plain
use Rattle.type_arena.specs.Term.{Term, Fields, no_fields, more_fields}
use Rattle.type_normal.specs.Cut.{cut_up}
use Rattle.type_normal.specs.Kinds.{unknown, nil_type}
use Rattle.type_normal.specs.Operations.{union, meet}
use Rattle.type_normal.specs.Rows.{names_in_order}
use Rattle.type_ops.proofs.FieldKeeps.{row_type_normal}
use Rattle.type_ops.proofs.KeepFacts.{each_normal, field_names, field_each, union_normal, meet_normal, cut_up_normal}
use Rattle.annotations.specs.Lowered.{Known, own_names, known_as, own_type, named_type, is_readable, with_field, table_of, raw, raw_kind, raw_fields, raw_prop, raw_union, joined_from, raw_meet, met_from, lowered, alias_type, with_name}
use Rattle.annotations.specs.Annotated.{Annotated, written_type, param_types, with_generics, known_behind, in_block, in_stat, in_arms, in_maybe_block, in_expr, in_exprs, in_maybe_expr, in_expr_kind, in_choices, in_items, in_item, in_body, type_at, annotation}
use Rattle.normal_rules.specs.Normal.{IsNormal}
use Rattle.normal_rules.proofs.Maps.{pick}

-- names that mean types in normal form
abbrev AreKnown : List Known → Type 0
AreKnown = AllByRecursion (λ (k : Known). IsNormal k.type)

IsKnownIf : Option Known → Type 0
IsKnownIf None = ⊤
IsKnownIf (Some k) = IsNormal k.type

found_by : (b : Bool) (k : Known) (rest : Option Known) → IsNormal k.type → IsKnownIf rest → IsKnownIf (cond b (Some k) rest)
unfolding IsKnownIf
found_by true k rest n m = n
found_by false k rest n m = m

found : (test : Known → Bool) (known : List Known) → AreKnown known → IsKnownIf (find test known)
unfolding IsKnownIf
found test [] all = tt
found test (k ∷ known) all = found_by (test k) k (find test known) all.0 (found test known all.1)

meant : (o : Option Known) (type : Term) → IsKnownIf o → IsNormal type → IsNormal (option_map_or (λ k. k.type) o type)
unfolding IsKnownIf
meant None type k n = n
meant (Some known) type k n = k

own_normal : AreKnown own_names
own_normal = (refl, (refl, (refl, (refl, (refl, (refl, (refl, tt)))))))

named_normal : (known : List Known) (name : List ℕ) → AreKnown known → IsNormal (named_type known name)
named_normal known name all =
    pick (bytes_eq name (codes "unknown")) unknown (option_map_or (λ k. k.type) (known_as name known) (own_type name)) refl
    (meant (known_as name known) (own_type name) (found (λ k. bytes_eq k.name name) known all)
    (meant (known_as name own_names) unknown (found (λ k. bytes_eq k.name name) own_names own_normal) refl))

record AreNormal (fs : Fields) : Type 0 where
  names : names_in_order fs ≡ true
  each : each_normal fs ≡ true

put_normal : (name : List ℕ) (type : Term) (fs : Fields) → IsNormal type → AreNormal fs → AreNormal (with_field name type fs)
put_normal name type fs n all = record {
  names = field_names name type (λ (t : Term). t) fs all.names;
  each = field_each name type (λ (t : Term). t) fs n (λ t m. m) all.each;
}

table_normal : (fs : Fields) → AreNormal fs → IsNormal (table_of fs)
table_normal no_fields all = refl
table_normal (more_fields name type fs) all = row_type_normal false (more_fields name type fs) all.names all.each

read_by : (b : Bool) (name : List ℕ) (type : Term) (later : Fields) → IsNormal type → AreNormal later → AreNormal (if b then with_field name type later else later)
read_by true name type later n all = put_normal name type later n all
read_by false name type later n all = all

mutual
  raw_normal : (known : List Known) (type : plain.TypeSyntax) → AreKnown known → IsNormal (raw known type)
  raw_normal known (plain.the_type span kind) all = raw_kind_normal known kind all

  raw_kind_normal : (known : List Known) (kind : plain.TypeKind) → AreKnown known → IsNormal (raw_kind known kind)
  raw_kind_normal known plain.NilType all = refl
  raw_kind_normal known (plain.BoolType true) all = refl
  raw_kind_normal known (plain.BoolType false) all = refl
  raw_kind_normal known (plain.StrType bytes) all = refl
  raw_kind_normal known (plain.Named None name plain.no_types) all = named_normal known name all
  raw_kind_normal known (plain.Named prefix name args) all = refl
  raw_kind_normal known (plain.Typeof e) all = refl
  raw_kind_normal known (plain.Array item) all = refl
  raw_kind_normal known (plain.TableType props) all = table_normal (raw_fields known props) (raw_fields_normal known props all)
  raw_kind_normal known (plain.Func generics params result) all = refl
  raw_kind_normal known (plain.Union types) all = raw_union_normal known types all
  raw_kind_normal known (plain.Meet types) all = raw_meet_normal known types all
  raw_kind_normal known (plain.Optional type) all =
      cut_up_normal (union (raw known type) nil_type) (union_normal (raw known type) nil_type (raw_normal known type all) refl)
  raw_kind_normal known (plain.Pack types) all = refl
  raw_kind_normal known (plain.Variadic type) all = refl
  raw_kind_normal known (plain.GenericPack name) all = refl

  raw_fields_normal : (known : List Known) (props : plain.Props) → AreKnown known → AreNormal (raw_fields known props)
  raw_fields_normal known plain.no_props all = record { names = refl; each = refl }
  raw_fields_normal known (plain.more_props prop props) all = raw_prop_normal known prop (raw_fields known props) all (raw_fields_normal known props all)

  raw_prop_normal : (known : List Known) (prop : plain.Prop) (later : Fields) → AreKnown known → AreNormal later → AreNormal (raw_prop known prop later)
  raw_prop_normal known (plain.the_prop access (plain.NameKey name) type) later all fs = read_by (is_readable access) name (raw known type) later (raw_normal known type all) fs
  raw_prop_normal known (plain.the_prop access (plain.Indexer key) type) later all fs = fs

  raw_union_normal : (known : List Known) (types : plain.TypeSyntaxes) → AreKnown known → IsNormal (raw_union known types)
  raw_union_normal known plain.no_types all = refl
  raw_union_normal known (plain.more_types type types) all = joined_normal known (raw known type) types all (raw_normal known type all)

  joined_normal : (known : List Known) (first : Term) (types : plain.TypeSyntaxes) → AreKnown known → IsNormal first → IsNormal (joined_from known first types)
  joined_normal known first plain.no_types all n = n
  joined_normal known first (plain.more_types type types) all n =
      joined_normal known (cut_up (union first (raw known type))) types all
      (cut_up_normal (union first (raw known type)) (union_normal first (raw known type) n (raw_normal known type all)))

  raw_meet_normal : (known : List Known) (types : plain.TypeSyntaxes) → AreKnown known → IsNormal (raw_meet known types)
  raw_meet_normal known plain.no_types all = refl
  raw_meet_normal known (plain.more_types type types) all = met_normal known (raw known type) types all (raw_normal known type all)

  met_normal : (known : List Known) (first : Term) (types : plain.TypeSyntaxes) → AreKnown known → IsNormal first → IsNormal (met_from known first types)
  met_normal known first plain.no_types all n = n
  met_normal known first (plain.more_types type types) all n =
      met_normal known (cut_up (meet first (raw known type))) types all
      (cut_up_normal (meet first (raw known type)) (meet_normal first (raw known type) n (raw_normal known type all)))

pub lowered_normal : (known : List Known) (type : plain.TypeSyntax) → AreKnown known → IsNormal (lowered known type)
lowered_normal known type all = cut_up_normal (raw known type) (raw_normal known type all)

alias_normal : (known : List Known) (generics : Gens) (type : plain.TypeSyntax) → AreKnown known → IsNormal (alias_type known generics type)
alias_normal known no_gens type all = lowered_normal known type all
alias_normal known (more_gens gen gens) type all = refl

-- ---- parameters

written_normal : (known : List Known) (type : MaybeType) → AreKnown known → IsNormal (written_type known type)
written_normal known no_type all = refl
written_normal known (a_type type) all = lowered_normal known type all

params_normal : (known : List Known) (binds : Binds) → AreKnown known → AllByRecursion IsNormal (param_types known binds)
params_normal known no_binds all = tt
params_normal known (more_binds (the_bind name span type) rest) all = (written_normal known type all, params_normal known rest all)

generics_known : (generics : Gens) (known : List Known) → AreKnown known → AreKnown (with_generics generics known)
generics_known no_gens known all = all
generics_known (more_gens (the_gen name span pack default) rest) known all = generics_known rest (with_name name unknown known) (refl, all)

behind_known : (kind : StatKind) (known : List Known) → AreKnown known → AreKnown (known_behind kind known)
behind_known (TypeAlias exported name generics type) known all = (alias_normal known generics type all, all)
behind_known _ known all = all

abbrev HasNormalParams : Annotated → Type 0
HasNormalParams a = AllByRecursion IsNormal a.params

abbrev AllNormal : List Annotated → Type 0
AllNormal = AllByRecursion HasNormalParams

both : (xs ys : List Annotated) → AllNormal xs → AllNormal ys → AllNormal (xs ++ ys)
both [] ys p q = q
both (x ∷ xs) ys p q = (p.0, both xs ys p.1 q)

three : (xs ys zs : List Annotated) → AllNormal xs → AllNormal ys → AllNormal zs → AllNormal (xs ++ ys ++ zs)
three xs ys zs p q r = both (xs ++ ys) zs (both xs ys p q) r

mutual
  block_normal : (known : List Known) (block : Block) → AreKnown known → AllNormal (in_block known block)
  block_normal known no_stats all = tt
  block_normal known (more_stats (the_stat span kind) rest) all =
      both (in_stat known kind) (in_block (known_behind kind known) rest) (stat_normal known kind all) (block_normal (known_behind kind known) rest (behind_known kind known all))

  stat_normal : (known : List Known) (kind : StatKind) → AreKnown known → AllNormal (in_stat known kind)
  stat_normal known (Assign targets values) all = both (in_exprs known targets) (in_exprs known values) (exprs_normal known targets all) (exprs_normal known values all)
  stat_normal known (Compound target op e) all = both (in_expr known target) (in_expr known e) (expr_normal known target all) (expr_normal known e all)
  stat_normal known (CallStat e) all = expr_normal known e all
  stat_normal known (Do body) all = block_normal known body all
  stat_normal known (While cond body) all = both (in_expr known cond) (in_block known body) (expr_normal known cond all) (block_normal known body all)
  stat_normal known (Repeat body cond) all = both (in_block known body) (in_expr known cond) (block_normal known body all) (expr_normal known cond all)
  stat_normal known (If arms last) all = both (in_arms known arms) (in_maybe_block known last) (arms_normal known arms all) (last_normal known last all)
  stat_normal known (NumFor bind from to step body) all =
      both (in_expr known from ++ in_expr known to ++ in_maybe_expr known step) (in_block known body)
      (three (in_expr known from) (in_expr known to) (in_maybe_expr known step) (expr_normal known from all) (expr_normal known to all) (maybe_normal known step all))
      (block_normal known body all)
  stat_normal known (GenFor binds values body) all = both (in_exprs known values) (in_block known body) (exprs_normal known values all) (block_normal known body all)
  stat_normal known (FunctionStat path method body) all = both (in_expr known path) (in_body known body) (expr_normal known path all) (body_normal known body all)
  stat_normal known (LocalFunction name body) all = body_normal known body all
  stat_normal known (Local binds values) all = exprs_normal known values all
  stat_normal known (TypeAlias exported name generics type) all = tt
  stat_normal known (TypeFunction exported name body) all = tt
  stat_normal known (Return values) all = exprs_normal known values all
  stat_normal known Break all = tt
  stat_normal known Continue all = tt

  arms_normal : (known : List Known) (arms : Arms) → AreKnown known → AllNormal (in_arms known arms)
  arms_normal known no_arms all = tt
  arms_normal known (more_arms cond body rest) all =
      three (in_expr known cond) (in_block known body) (in_arms known rest) (expr_normal known cond all) (block_normal known body all) (arms_normal known rest all)

  last_normal : (known : List Known) (last : MaybeBlock) → AreKnown known → AllNormal (in_maybe_block known last)
  last_normal known no_block all = tt
  last_normal known (a_block body) all = block_normal known body all

  expr_normal : (known : List Known) (e : Expr) → AreKnown known → AllNormal (in_expr known e)
  expr_normal known (the_expr id span kind) all = kind_normal known kind all

  exprs_normal : (known : List Known) (es : Exprs) → AreKnown known → AllNormal (in_exprs known es)
  exprs_normal known no_exprs all = tt
  exprs_normal known (more_exprs e rest) all = both (in_expr known e) (in_exprs known rest) (expr_normal known e all) (exprs_normal known rest all)

  maybe_normal : (known : List Known) (e : MaybeExpr) → AreKnown known → AllNormal (in_maybe_expr known e)
  maybe_normal known no_expr all = tt
  maybe_normal known (an_expr e) all = expr_normal known e all

  kind_normal : (known : List Known) (kind : ExprKind) → AreKnown known → AllNormal (in_expr_kind known kind)
  kind_normal known NilExpr all = tt
  kind_normal known TrueExpr all = tt
  kind_normal known FalseExpr all = tt
  kind_normal known (NumberExpr text) all = tt
  kind_normal known (StrExpr bytes) all = tt
  kind_normal known Vararg all = tt
  kind_normal known (FunctionExpr body) all = body_normal known body all
  kind_normal known (NameExpr name) all = tt
  kind_normal known (Index base name) all = expr_normal known base all
  kind_normal known (At base key) all = both (in_expr known base) (in_expr known key) (expr_normal known base all) (expr_normal known key all)
  kind_normal known (Call callee args) all = both (in_expr known callee) (in_exprs known args) (expr_normal known callee all) (exprs_normal known args all)
  kind_normal known (Method base name span args) all = both (in_expr known base) (in_exprs known args) (expr_normal known base all) (exprs_normal known args all)
  kind_normal known (Paren e) all = expr_normal known e all
  kind_normal known (Unary op e) all = expr_normal known e all
  kind_normal known (Binary op left right) all = both (in_expr known left) (in_expr known right) (expr_normal known left all) (expr_normal known right all)
  kind_normal known (IfElse arms last) all = both (in_choices known arms) (in_expr known last) (choices_normal known arms all) (expr_normal known last all)
  kind_normal known (TableExpr items) all = items_normal known items all
  kind_normal known (Interp texts parts) all = exprs_normal known parts all
  kind_normal known (Assert e type) all = expr_normal known e all

  choices_normal : (known : List Known) (arms : Choices) → AreKnown known → AllNormal (in_choices known arms)
  choices_normal known no_choices all = tt
  choices_normal known (more_choices cond e rest) all =
      three (in_expr known cond) (in_expr known e) (in_choices known rest) (expr_normal known cond all) (expr_normal known e all) (choices_normal known rest all)

  items_normal : (known : List Known) (items : Items) → AreKnown known → AllNormal (in_items known items)
  items_normal known no_items all = tt
  items_normal known (more_items item rest) all = both (in_item known item) (in_items known rest) (item_normal known item all) (items_normal known rest all)

  item_normal : (known : List Known) (item : Item) → AreKnown known → AllNormal (in_item known item)
  item_normal known (Field name e) all = expr_normal known e all
  item_normal known (Keyed key e) all = both (in_expr known key) (in_expr known e) (expr_normal known key all) (expr_normal known e all)
  item_normal known (Plain e) all = expr_normal known e all

  body_normal : (known : List Known) (body : Body) → AreKnown known → AllNormal (in_body known body)
  body_normal known (the_body id has_self generics params vararg result body span) all =
      let inside : AreKnown (with_generics generics known) = generics_known generics known all in
      (params_normal (with_generics generics known) params inside, block_normal (with_generics generics known) body inside)

-- ---- annotations

at_normal : (index : ℕ) (types : List Term) → AllByRecursion IsNormal types → IsNormal (type_at index types)
at_normal index [] all = refl
at_normal zero (type ∷ types) all = all.0
at_normal (suc index) (type ∷ types) all = at_normal index types all.1

IsNormalIf : Option Annotated → Type 0
IsNormalIf None = ⊤
IsNormalIf (Some a) = HasNormalParams a

found_body_by : (b : Bool) (a : Annotated) (rest : Option Annotated) → HasNormalParams a → IsNormalIf rest → IsNormalIf (cond b (Some a) rest)
unfolding IsNormalIf
found_body_by true a rest n m = n
found_body_by false a rest n m = m

found_body : (test : Annotated → Bool) (list : List Annotated) → AllNormal list → IsNormalIf (find test list)
unfolding IsNormalIf
found_body test [] all = tt
found_body test (a ∷ list) all = found_body_by (test a) a (find test list) all.0 (found_body test list all.1)

said : (index : ℕ) (o : Option Annotated) → IsNormalIf o → IsNormal (option_map_or (λ a. type_at index a.params) o unknown)
unfolding IsNormalIf
said index None n = refl
said index (Some a) n = at_normal index a.params n

pub annotation_normal : (block : Block) (function index : ℕ) → IsNormal (annotation block function index)
annotation_normal block function index =
    said index (find (λ a. a.function == function) (in_block [] block)) (found_body (λ a. a.function == function) (in_block [] block) (block_normal [] block tt))
