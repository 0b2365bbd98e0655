-- A type is below all values but those of no other kind where it has none of these.
use Rattle.std.proofs.Common.{◌≡◌, List, [], ◌∷◌, refl, sym, ap, ◌∙◌}
use Rattle.std.specs.Prelude.{Bool, true, false, not, Some, if◌then◌else◌, ◌&&◌}
use Rattle.std.specs.List.{list_all}
use Rattle.std.specs.declared.cmp.Ordering.{Ordering}
use Rattle.luau_tree.specs.declared.names.BinOp.{BinOp}
use Rattle.luau_tree.specs.declared.names.BinOp.TheVariants.{Or, And, Add, Sub, Mul, Div, FloorDiv, Mod, Pow, Less, Greater, LessEqual, GreaterEqual, NotEqual, Equal, Concat}
use Rattle.luau_tree.specs.declared.names.UnOp.{UnOp}
use Rattle.luau_tree.specs.declared.names.UnOp.TheVariants.{Minus, Not, Length}
use Rattle.type_arena.specs.Term.{Members, only, all_but, Term, term, Rows, no_rows, more_rows, Fields}
use Rattle.type_arena.specs.Meaning.{term_of, term_by}
use Rattle.type_arena.specs.Store.{Store, IsSound, node_at}
use Rattle.type_arena.specs.declared.node.Node.{Node}
use Rattle.type_arena.specs.declared.node.TypeRef.{TypeRef}
use Rattle.type_arena.proofs.MeaningLemmas.{term_of-node}
use Rattle.type_normal.specs.Free.{name_cmp, function_cmp}
use Rattle.type_normal.specs.Members.{has_member}
use Rattle.type_normal.specs.Rows.{any_table}
use Rattle.subtype_check.specs.Below.{is_subset, implies, each_row, rows_above, below}
use Rattle.report_rules.specs.Forward.{not_other, both_known, unary_type, binary_type}
use Rattle.rule_work.specs.Results.{result_term, unary_result_term}

-- all members are among all
none_out : {X : Type 0} (cmp : X → X → Ordering) (xs : List X) → list_all (λ x. not (has_member cmp x [])) xs ≡ true
none_out cmp [] = refl
none_out cmp (x ∷ xs) = none_out cmp xs

subset_all : {X : Type 0} (cmp : X → X → Ordering) (members : Members X) → is_subset cmp members (all_but []) ≡ true
subset_all cmp (only xs) = none_out cmp xs
subset_all cmp (all_but xs) = refl

row_all : (frozen : Bool) (fields : Fields) → rows_above any_table frozen fields ≡ true
row_all true _ = refl
row_all false _ = refl

rows_all : (rows : Rows) → each_row (λ frozen fields. rows_above any_table frozen fields) rows ≡ true
rows_all no_rows = refl
rows_all (more_rows frozen fields rows) = let a = row_all frozen fields in let b = rows_all rows in cc

-- a free part is below all but what is of no other kind where it has none of that
implied : (a : Bool) → implies a true ≡ true
implied true = refl
implied false = refl

abbrev pub has_other : Term → Bool
has_other (term free rows) = free.other

only_other : (o : Bool) → (o && (true && true)) && true ≡ o
only_other true = refl
only_other false = refl

other_alone : (o : Bool) → implies o false ≡ not o
other_alone true = refl
other_alone false = refl

all_but_other : (a b c d o s f r : Bool) → a ≡ true → b ≡ true → c ≡ true → d ≡ true → s ≡ true → f ≡ true → r ≡ true → (a && (b && (c && (d && (o && (s && f)))))) && r ≡ o
all_but_other a b c d o s f r ia ib ic id is if_ ir =
    ap (λ x. (x && (b && (c && (d && (o && (s && f)))))) && r) ia
    ∙ (ap (λ x. (x && (c && (d && (o && (s && f))))) && r) ib
    ∙ (ap (λ x. (x && (d && (o && (s && f)))) && r) ic
    ∙ (ap (λ x. (x && (o && (s && f))) && r) id
    ∙ (ap (λ x. (o && (x && f)) && r) is
    ∙ (ap (λ x. (o && x) && r) if_
    ∙ (ap (λ x. (o && true) && x) ir ∙ only_other o))))))

pub known_is : (type : Term) → below type not_other ≡ not (has_other type)
known_is (term free rows) =
    all_but_other (implies free.nil true) (implies free.truth true) (implies free.falsity true) (implies free.number true) (implies free.other false)
    (is_subset name_cmp free.strings (all_but [])) (is_subset function_cmp free.functions (all_but [])) (each_row (λ frozen fields. rows_above any_table frozen fields) rows)
    (implied free.nil) (implied free.truth) (implied free.falsity) (implied free.number) (subset_all name_cmp free.strings) (subset_all function_cmp free.functions) (rows_all rows)
    ∙ other_alone free.other

-- as a node says
pub known_by_node : (store : Store) → IsSound store → (at : TypeRef) (node : Node) → node_at store at ≡ Some node → not node.other ≡ below (term_of store at) not_other
known_by_node store sound at node is = sym (ap (λ (type : Term). below type not_other) (term_of-node store sound at node is) ∙ known_is (term_by (term_of store) node))

-- so the types of operations are what they give
pub unary_is : (op : UnOp) (operand : Term) → unary_result_term op (below operand not_other) ≡ unary_type op operand
unary_is Minus operand = refl
unary_is Not operand = refl
unary_is Length operand = refl

both_is : (left right : Term) → below left not_other && below right not_other ≡ both_known left right
both_is left right = by_left (below left not_other)
  where
    by_left : (b : Bool) → b && below right not_other ≡ (if b then below right not_other else false)
    by_left true = refl
    by_left false = refl

pub binary_is : (op : BinOp) (left right : Term) → result_term op (below left not_other && below right not_other) ≡ binary_type op left right
binary_is op left right = ap (result_term op) (both_is left right) ∙ by_op op
  where
    by_op : (o : BinOp) → result_term o (both_known left right) ≡ binary_type o left right
    by_op Or = refl
    by_op And = refl
    by_op Less = refl
    by_op Greater = refl
    by_op LessEqual = refl
    by_op GreaterEqual = refl
    by_op NotEqual = refl
    by_op Equal = refl
    by_op Concat = refl
    by_op Add = refl
    by_op Sub = refl
    by_op Mul = refl
    by_op Div = refl
    by_op FloorDiv = refl
    by_op Mod = refl
    by_op Pow = refl
