-- The numbers of the bodies that annotations are told of, and of the bodies that run.
use Rattle.std.proofs.Common.{◌≡◌, ℕ, Bool, true, false, not, ◌&&◌, ◌||◌, List, [], ◌∷◌, ◌++◌, map, refl, sym, ap, ◌∙◌, subst}
use Rattle.std.specs.Prelude.{◌==◌}
use Rattle.std.specs.List.{filter_map, IsDistinct, AllByRecursion}
use Rattle.std.proofs.lemmas.List.{map-append}
use Rattle.std.proofs.lemmas.List.Elements.{filter_map-append}
use Rattle.luau_tree.specs.Tree.{Block, no_stats, more_stats, the_stat, StatKind, Assign, Compound, CallStat, Do, While, Repeat, If, NumFor, GenFor, FunctionStat, LocalFunction, Local, TypeAlias, TypeFunction, Return, Break, Continue, Arms, no_arms, more_arms, MaybeBlock, no_block, a_block, Expr, the_expr, Exprs, no_exprs, more_exprs, MaybeExpr, no_expr, an_expr, ExprKind, NilExpr, TrueExpr, FalseExpr, NumberExpr, StrExpr, Vararg, FunctionExpr, NameExpr, Index, At, Call, Method, Paren, Unary, Binary, IfElse, TableExpr, Interp, Assert, Choices, no_choices, more_choices, Item, Field, Keyed, Plain, Items, no_items, more_items, Body, the_body, Bind, Binds, no_binds, more_binds}
use Rattle.luau_run.specs.ReadFolder.{is_among, are_distinct}
use Rattle.luau_run.specs.SyntaxNode.{SyntaxNode, AnExpr, ABody, ABind, of_block, of_stat, of_stat_kind, of_arms, of_maybe_block, of_expr, of_exprs, of_maybe_expr, of_expr_kind, of_choices, of_items, of_item, of_body, of_binds}
use Rattle.module_reading.specs.Nodes.{body_number}
use Rattle.annotations.specs.Lowered.{Known}
use Rattle.annotations.specs.Annotated.{Annotated, in_block, in_stat, in_arms, in_maybe_block, in_expr, in_exprs, in_maybe_expr, in_expr_kind, in_choices, in_items, in_item, in_body, known_behind, with_generics}

-- bodies, and the same among nodes that run
record Same (told : List Annotated) (run : List SyntaxNode) : Type 0 where
  numbers : map (λ (a : Annotated). a.function) told ≡ filter_map body_number run

nothing : Same [] []
nothing = record { numbers = refl }

join : {ts us : List Annotated} {xs ys : List SyntaxNode} → Same ts xs → Same us ys → Same (ts ++ us) (xs ++ ys)
join {ts = ts} {us = us} {xs = xs} {ys = ys} e f = record {
  numbers = map-append (λ (a : Annotated). a.function) ts us ∙ (λ i. e.numbers i ++ f.numbers i) ∙ sym (filter_map-append body_number xs ys);
}

-- an expression and a declaration are no bodies
over : {ts : List Annotated} {xs : List SyntaxNode} (e : Expr) → Same ts xs → Same ts (AnExpr e ∷ xs)
over e same = record { numbers = same.numbers }

behind : {ts : List Annotated} {xs : List SyntaxNode} (b : Bind) → Same ts xs → Same ts (ABind b ∷ xs)
behind b same = record { numbers = same.numbers }

past : {ts : List Annotated} {xs : List SyntaxNode} (bs : Binds) → Same ts xs → Same ts (of_binds bs ++ xs)
past no_binds same = same
past (more_binds b rest) same = behind b (past rest same)

mutual
  block : (x : Block) (known : List Known) → Same (in_block known x) (of_block x)
  block no_stats known = nothing
  block (more_stats (the_stat span kind) rest) known = join (stat kind known) (block rest (known_behind kind known))

  stat : (x : StatKind) (known : List Known) → Same (in_stat known x) (of_stat_kind x)
  stat (Assign targets values) known = join (exprs targets known) (exprs values known)
  stat (Compound target op e) known = join (expr target known) (expr e known)
  stat (CallStat e) known = expr e known
  stat (Do body) known = block body known
  stat (While cond body) known = join (expr cond known) (block body known)
  stat (Repeat body cond) known = join (block body known) (expr cond known)
  stat (If list last) known = join (arms list known) (maybe_block last known)
  stat (NumFor b from to step body) known = join (join (join (behind b (expr from known)) (expr to known)) (maybe_expr step known)) (block body known)
  stat (GenFor bs values body) known = join (past bs (exprs values known)) (block body known)
  stat (FunctionStat path method b) known = join (expr path known) (a_body b known)
  stat (LocalFunction name b) known = behind name (a_body b known)
  stat (Local bs values) known = past bs (exprs values known)
  stat (TypeAlias exported name generics type) known = nothing
  stat (TypeFunction exported name b) known = nothing
  stat (Return values) known = exprs values known
  stat Break known = nothing
  stat Continue known = nothing

  arms : (x : Arms) (known : List Known) → Same (in_arms known x) (of_arms x)
  arms no_arms known = nothing
  arms (more_arms cond body rest) known = join (join (expr cond known) (block body known)) (arms rest known)

  maybe_block : (x : MaybeBlock) (known : List Known) → Same (in_maybe_block known x) (of_maybe_block x)
  maybe_block no_block known = nothing
  maybe_block (a_block body) known = block body known

  expr : (x : Expr) (known : List Known) → Same (in_expr known x) (of_expr x)
  expr (the_expr id span kind) known = over (the_expr id span kind) (expr_kind kind known)

  exprs : (x : Exprs) (known : List Known) → Same (in_exprs known x) (of_exprs x)
  exprs no_exprs known = nothing
  exprs (more_exprs e rest) known = join (expr e known) (exprs rest known)

  maybe_expr : (x : MaybeExpr) (known : List Known) → Same (in_maybe_expr known x) (of_maybe_expr x)
  maybe_expr no_expr known = nothing
  maybe_expr (an_expr e) known = expr e known

  expr_kind : (x : ExprKind) (known : List Known) → Same (in_expr_kind known x) (of_expr_kind x)
  expr_kind NilExpr known = nothing
  expr_kind TrueExpr known = nothing
  expr_kind FalseExpr known = nothing
  expr_kind (NumberExpr text) known = nothing
  expr_kind (StrExpr bytes) known = nothing
  expr_kind Vararg known = nothing
  expr_kind (FunctionExpr b) known = a_body b known
  expr_kind (NameExpr name) known = nothing
  expr_kind (Index base name) known = expr base known
  expr_kind (At base key) known = join (expr base known) (expr key known)
  expr_kind (Call callee args) known = join (expr callee known) (exprs args known)
  expr_kind (Method base name span args) known = join (expr base known) (exprs args known)
  expr_kind (Paren e) known = expr e known
  expr_kind (Unary op e) known = expr e known
  expr_kind (Binary op left right) known = join (expr left known) (expr right known)
  expr_kind (IfElse list last) known = join (choices list known) (expr last known)
  expr_kind (TableExpr list) known = items list known
  expr_kind (Interp texts parts) known = exprs parts known
  expr_kind (Assert e type) known = expr e known

  choices : (x : Choices) (known : List Known) → Same (in_choices known x) (of_choices x)
  choices no_choices known = nothing
  choices (more_choices cond e rest) known = join (join (expr cond known) (expr e known)) (choices rest known)

  items : (x : Items) (known : List Known) → Same (in_items known x) (of_items x)
  items no_items known = nothing
  items (more_items i rest) known = join (item i known) (items rest known)

  item : (x : Item) (known : List Known) → Same (in_item known x) (of_item x)
  item (Field name e) known = expr e known
  item (Keyed key e) known = join (expr key known) (expr e known)
  item (Plain e) known = expr e known

  a_body : (x : Body) (known : List Known) → Same (in_body known x) (of_body x)
  a_body (the_body id has_self generics params vararg result body span) known = record {
    numbers = ap (λ (ns : List ℕ). id ∷ ns) (past params (block body (with_generics generics known))).numbers;
  }

pub told_numbers : (x : Block) → map (λ (a : Annotated). a.function) (in_block [] x) ≡ filter_map body_number (of_block x)
told_numbers x = (block x []).numbers

-- ---- distinct numbers, as a test and as a fact

and_parts : (a b : Bool) → (a && b) ≡ true → (a ≡ true) × (b ≡ true)
and_parts true b e = (refl, e)
and_parts false b e = cc

or_parts : (a b : Bool) → (a || b) ≡ false → (a ≡ false) × (b ≡ false)
or_parts true b e = cc
or_parts false b e = (refl, e)

not_true : (b : Bool) → not b ≡ true → b ≡ false
not_true true e = cc
not_true false e = refl

none_among : (n : ℕ) (ns : List ℕ) → is_among n ns ≡ false → AllByRecursion (λ (m : ℕ). (n == m) ≡ false) ns
none_among n [] e = tt
none_among n (m ∷ ns) e = let p = or_parts (n == m) (is_among n ns) e in (p.0, none_among n ns p.1)

pub distinct : (ns : List ℕ) → are_distinct ns ≡ true → IsDistinct (λ (m n : ℕ). m == n) ns
unfolding IsDistinct
distinct [] e = tt
distinct (n ∷ ns) e =
    let p = and_parts (not (is_among n ns)) (are_distinct ns) e in
    (none_among n ns (not_true (is_among n ns) p.0), distinct ns p.1)
