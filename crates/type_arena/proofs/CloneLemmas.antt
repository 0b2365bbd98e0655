-- A clone of a node is equal to it.
use Rattle.std.proofs.Common.{◌≡◌, ap, List, ℕ}
use Rattle.std.specs.List.{AllZip}
use Rattle.std.proofs.lemmas.List.Elements.{same_from_all_zip}
use Rattle.type_arena.specs.declared.node.Among.{Among}
use Rattle.type_arena.specs.declared.node.Among.TheVariants.{Only, AllBut}
use Rattle.type_arena.specs.declared.node.FnName.{FnName}
use Rattle.type_arena.specs.declared.node.FnName.TheVariants.{Builtin, Literal}
use Rattle.type_arena.specs.declared.node.Node.{Node}
use Rattle.type_arena.specs.declared.node.Row.{Row}
use Rattle.type_arena.specs.contracts.containers.Label
use Rattle.type_arena.specs.contracts.containers.LabelClone.TheImpl as LabelClone
use Rattle.type_arena.specs.contracts.node.AmongClone.TheImpl as AmongClone
use Rattle.type_arena.specs.contracts.node.FnName as FnNameType
use Rattle.type_arena.specs.contracts.node.FnNameClone.TheImpl as FnNameClone
use Rattle.type_arena.specs.contracts.node.NodeClone.TheImpl as NodeClone
use Rattle.type_arena.specs.contracts.node.RowClone.TheImpl as RowClone

-- lists of equal items in order are equal
same_items : {X : Type 0} (xs ys : List X) → AllZip (λ x y. y ≡ x) xs ys → ys ≡ xs
same_items xs ys h = same_from_all_zip (λ x y. y ≡ x) xs ys h (λ x y e. e)

pair_same : {X Y : Type 0} (x y : X × Y) → y.0 ≡ x.0 → y.1 ≡ x.1 → y ≡ x
pair_same (a, b) (c, d) first second = cc

-- and lists of pairs with equal halves
same_pairs : {X Y : Type 0} (xs ys : List (X × Y)) → AllZip (λ x y. (y.0 ≡ x.0) × (y.1 ≡ x.1)) xs ys → ys ≡ xs
same_pairs xs ys h = same_from_all_zip (λ x y. (y.0 ≡ x.0) × (y.1 ≡ x.1)) xs ys h (λ x y e. pair_same x y e.0 e.1)

same_name : (x y : FnName) → FnNameClone.ghosts.is_clone x y → y ≡ x
same_name (Builtin p) (Builtin q) h = ap Builtin h
same_name (Builtin p) (Literal a b) h = absurd h
same_name (Literal a b) (Builtin q) h = absurd h
same_name (Literal a b) (Literal c d) h = λ i. Literal (h.0 i) (h.1 i)

pub same_strings : (x y : Among (List ℕ)) → (AmongClone.ghosts Label.the_row LabelClone.ghosts LabelClone.dict LabelClone.dict).is_clone x y → y ≡ x
same_strings (Only xs) (Only ys) h = ap Only (same_items xs ys h)
same_strings (Only xs) (AllBut ys) h = absurd h
same_strings (AllBut xs) (Only ys) h = absurd h
same_strings (AllBut xs) (AllBut ys) h = ap AllBut (same_items xs ys h)

pub same_functions : (x y : Among FnName) → (AmongClone.ghosts FnNameType.the_row FnNameClone.ghosts FnNameClone.dict FnNameClone.dict).is_clone x y → y ≡ x
same_functions (Only xs) (Only ys) h = ap Only (same_from_all_zip _ xs ys h same_name)
same_functions (Only xs) (AllBut ys) h = absurd h
same_functions (AllBut xs) (Only ys) h = absurd h
same_functions (AllBut xs) (AllBut ys) h = ap AllBut (same_from_all_zip _ xs ys h same_name)

pub same_row : (x y : Row) → RowClone.ghosts.is_clone x y → y ≡ x
same_row x y h = λ i. record { frozen = h.0 i; fields = same_pairs x.fields y.fields h.1 i }

same_node : (x y : Node) → NodeClone.ghosts.is_clone x y → y ≡ x
same_node x y h = λ i. record {
  nil = h.0 i;
  truth = h.1.0 i;
  falsity = h.1.1.0 i;
  number = h.1.1.1.0 i;
  other = h.1.1.1.1.0 i;
  strings = same_strings x.strings y.strings h.1.1.1.1.1.0 i;
  functions = same_functions x.functions y.functions h.1.1.1.1.1.1.0 i;
  rows = same_from_all_zip RowClone.ghosts.is_clone x.rows y.rows h.1.1.1.1.1.1.1 same_row i;
}

-- clones of nodes in order are the nodes
pub same_nodes : (xs ys : List Node) → AllZip NodeClone.ghosts.is_clone xs ys → ys ≡ xs
same_nodes xs ys h = same_from_all_zip NodeClone.ghosts.is_clone xs ys h same_node
