-- How much a written type holds, by which each walk ends. No clause of a public call cites this.
use Rattle.std.specs.Prelude.{ℕ, suc, ◌+◌}
use Rattle.luau_tree.specs.Tree as plain

abbrev mutual
  pub weight : plain.TypeSyntax → ℕ
  weight (plain.the_type span kind) = suc (weight_of_kind kind)

  pub weight_of_kind : plain.TypeKind → ℕ
  weight_of_kind (plain.TableType props) = weight_of_props props
  weight_of_kind (plain.Union types) = weight_of_types types
  weight_of_kind (plain.Meet types) = weight_of_types types
  weight_of_kind (plain.Optional type) = weight type
  weight_of_kind _ = 0

  pub weight_of_types : plain.TypeSyntaxes → ℕ
  weight_of_types plain.no_types = 0
  weight_of_types (plain.more_types type types) = weight type + weight_of_types types

  pub weight_of_props : plain.Props → ℕ
  weight_of_props plain.no_props = 0
  weight_of_props (plain.more_props prop props) = weight_of_prop prop + weight_of_props props

  pub weight_of_prop : plain.Prop → ℕ
  weight_of_prop (plain.the_prop access key type) = weight type
