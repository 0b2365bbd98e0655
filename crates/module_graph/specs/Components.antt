-- Modules that reach each other, and an order in which each comes after what it requires.
use Rattle.std.specs.Prelude.{◌≡◌, ℕ, ◌<◌, ◌≤◌, List, Some, length, slice_get}
use Rattle.module_graph.specs.declared.node.Node.{Node}
use Rattle.module_graph.specs.Requires.{Requires}
use Rattle.module_graph.specs.Search.{Has, Leads}

-- modules with one number lead to each other, no module requires one with a higher number, and the order lists all modules by their numbers
pub record AreComponents (nodes : List Node) (numbers order : List ℕ) : Type 0 where
  pub numbered : length numbers ≡ length nodes
  pub downward : (x y m n : ℕ) → Requires nodes x y → slice_get numbers x ≡ Some m → slice_get numbers y ≡ Some n → n ≤ m
  pub together : (x y n : ℕ) → slice_get numbers x ≡ Some n → slice_get numbers y ≡ Some n → Leads nodes x y
  pub listed : (x : ℕ) → x < length nodes → Has order x
  pub low : (x n : ℕ) → slice_get numbers x ≡ Some n → n < length order
  pub few : length order ≤ length nodes
  pub there : (x : ℕ) → Has order x → x < length nodes
  pub ordered : (i j x y m n : ℕ) → i ≤ j → slice_get order i ≡ Some x → slice_get order j ≡ Some y → slice_get numbers x ≡ Some m → slice_get numbers y ≡ Some n → m ≤ n
