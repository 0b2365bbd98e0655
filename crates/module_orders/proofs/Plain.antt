-- Bodies whose generics hold no nodes, as they have no defaults.
use Rattle.std.proofs.Common.{◌≡◌, List, [], ◌∷◌, ◌++◌}
use Rattle.luau_tree.specs.Tree.{Body, Expr, Bind, Gens}
use Rattle.luau_tree.specs.Tree as tree
use Rattle.luau_tree.specs.Nodes.{Node, AnExpr, ABody, ABind, nodes_of_gens}
use Rattle.luau_grammar.specs.Places.{Place, Rules}
use Rattle.luau_grammar.specs.Lists.{AreSeparated, AreInBraces}

-- no node stands in a body's generics
abbrev pub IsPlain : Body → Type 0
IsPlain (tree.the_body id has_self generics params vararg result block span) = nodes_of_gens generics ≡ []

abbrev pub ArePlain : List Node → Type 0
ArePlain [] = Unit {0}
ArePlain (AnExpr e ∷ ns) = ArePlain ns
ArePlain (ABody b ∷ ns) = IsPlain b × ArePlain ns
ArePlain (ABind b ∷ ns) = ArePlain ns

-- so it is with each body among these nodes
pub record Plain (ns : List Node) : Type 0 where
  pub all : ArePlain ns

pub nothing : Plain []
nothing = record { all = tt }

append : (xs ys : List Node) → ArePlain xs → ArePlain ys → ArePlain (xs ++ ys)
append [] ys h i = i
append (AnExpr e ∷ xs) ys h i = append xs ys h i
append (ABody b ∷ xs) ys h i = (h.0, append xs ys h.1 i)
append (ABind b ∷ xs) ys h i = append xs ys h i

pub both : {xs ys : List Node} → Plain xs → Plain ys → Plain (xs ++ ys)
both {xs = xs} {ys = ys} a b = record { all = append xs ys a.all b.all }

pub an_expr : {e : Expr} {ns : List Node} → Plain ns → Plain (AnExpr e ∷ ns)
an_expr a = record { all = a.all }

pub a_bind : {b : Bind} {ns : List Node} → Plain ns → Plain (ABind b ∷ ns)
a_bind a = record { all = a.all }

pub first_of : (xs ys : List Node) → ArePlain (xs ++ ys) → ArePlain xs
first_of [] ys h = tt
first_of (AnExpr e ∷ xs) ys h = first_of xs ys h
first_of (ABody b ∷ xs) ys h = (h.0, first_of xs ys h.1)
first_of (ABind b ∷ xs) ys h = first_of xs ys h

pub rest_of : (xs ys : List Node) → ArePlain (xs ++ ys) → ArePlain ys
rest_of [] ys h = h
rest_of (AnExpr e ∷ xs) ys h = rest_of xs ys h
rest_of (ABody b ∷ xs) ys h = rest_of xs ys h.1
rest_of (ABind b ∷ xs) ys h = rest_of xs ys h

pub front : (xs ys : List Node) → Plain (xs ++ ys) → Plain xs
front xs ys h = record { all = first_of xs ys h.all }

pub rest : (xs ys : List Node) → Plain (xs ++ ys) → Plain ys
rest xs ys h = record { all = rest_of xs ys h.all }

-- lists of phrases
module _ (rules : Rules) where
  pub separated : {A : Type 0} (all : List A → List Node) (one : A → List Node) → Plain (all [])
      → ((x : A) (xs : List A) → Plain (one x) → Plain (all xs) → Plain (all (x ∷ xs)))
      → (Is : Place → Place → A → Type 0) → ((p q : Place) (x : A) → Is p q x → Plain (one x))
      → (xs : List A) (p q : Place) (x : A) → AreSeparated rules Is p q x xs → Plain (all (x ∷ xs))
  separated all one nil cons Is held [] p q x h = cons x [] (held p q x h.0) nil
  separated all one nil cons Is held (y ∷ ys) p q x h =
      cons x (y ∷ ys) (held p h.0 x h.2) (separated all one nil cons Is held ys h.1 q y h.4)

  pub in_braces : {A : Type 0} (all : List A → List Node) (one : A → List Node) → Plain (all [])
      → ((x : A) (xs : List A) → Plain (one x) → Plain (all xs) → Plain (all (x ∷ xs)))
      → (Is : Place → Place → A → Type 0) → ((p q : Place) (x : A) → Is p q x → Plain (one x))
      → (xs : List A) (p q : Place) (x : A) → AreInBraces rules Is p q x xs → Plain (all (x ∷ xs))
  in_braces all one nil cons Is held [] p q x h = cons x [] (held p h.0 x h.1) nil
  in_braces all one nil cons Is held (y ∷ ys) p q x h =
      cons x (y ∷ ys) (held p h.0 x h.2) (in_braces all one nil cons Is held ys h.1 q y h.5)
