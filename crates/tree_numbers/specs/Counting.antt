-- Counting expressions and bodies, part by part of a tree.
use Rattle.std.specs.Prelude.{ℕ, ◌+◌}
use Rattle.tree_numbers.specs.declared.numbers.Numbers.{Numbers}

-- the first numbers
abbrev pub first : Numbers
first = record { exprs = 0; bodies = 0 }

-- a part of a tree with its numbers, and the numbers that come behind it, by the numbers that come next
abbrev pub Counting : Type 0 → Type 0
Counting A = Numbers → A × Numbers

-- what comes behind a part goes on with the numbers behind it
abbrev pub go_on : {A B : Type 0} → (A → Counting B) → A × Numbers → B × Numbers
go_on f done = f done.0 done.1

infixl 10 ◌>>=◌
abbrev pub ◌>>=◌ : {A B : Type 0} → Counting A → (A → Counting B) → Counting B
r >>= f = λ n. go_on f (r n)

infixl 10 ◌>>◌
abbrev pub ◌>>◌ : {A B : Type 0} → Counting A → Counting B → Counting B
r >> f = r >>= (λ _. f)

-- without a number
abbrev pub pure : {A : Type 0} → A → Counting A
pure x = λ n. (x, n)

-- the number of an expression, and of a body
abbrev pub next_expr : Counting ℕ
next_expr = λ n. (n.exprs, record { exprs = n.exprs + 1; bodies = n.bodies })

abbrev pub next_body : Counting ℕ
next_body = λ n. (n.bodies, record { exprs = n.exprs; bodies = n.bodies + 1 })
