-- The names of the items of a table constructor, one after the other.
use Rattle.std.proofs.Common.{◌≡◌, ℕ, List, [], ◌∷◌, ◌++◌, refl, ap, append_assoc, append-nil}
use Rattle.std.specs.Prelude.{Option, Some, None}
use Rattle.luau_tree.specs.Tree.{Item, Field, Keyed, Plain, Items, more_items}
use Rattle.infer_plan.specs.Steps.{item_names, name_before}
use Rattle.type_infer.specs.ItemNames.{item_name}

pub names_of : (item : Item) (rest : Items) → item_names (more_items item rest) ≡ name_before (item_name item) (item_names rest)
names_of (Field name e) rest = refl
names_of (Keyed key e) rest = refl
names_of (Plain e) rest = refl

pub named_before : (name : Option (List ℕ)) (xs ys : List (List ℕ)) → (xs ++ name_before name []) ++ ys ≡ xs ++ name_before name ys
named_before (Some name) xs ys = append_assoc xs (name ∷ []) ys
named_before None xs ys = ap (λ (zs : List (List ℕ)). zs ++ ys) (append-nil xs)
