-- Function values that number the parts that hold one another.
use Rattle.std.specs.Prelude.{ℕ, Result}
use Rattle.std.specs.declared.alloc.Global.{Global}
use denote.Ref.{MutBor}
use Rattle.luau_tree.specs.declared.tree.Block.{Block}
use Rattle.luau_tree.specs.declared.tree.Expr.{Expr}
use Rattle.luau_tree.specs.declared.tree.TypeSyntax.{TypeSyntax}
use Rattle.luau_tree.specs.View.{view_block, view_expr, view_type}
use Rattle.tree_numbers.specs.declared.error.NumberError.{NumberError}
use Rattle.tree_numbers.specs.declared.numbers.Numbers.{Numbers}
use Rattle.tree_numbers.specs.Numbered.{of_block, of_expr, of_type}
use Rattle.tree_numbers.specs.Outcomes.{Gives}

-- Each function value may be called at a depth, and gives the part with its numbers.
pub record Calls (depth : ℕ)
    (pre_exp : Global → MutBor Numbers → ℕ → Expr → Type 0)
    (post_exp : Global → MutBor Numbers → ℕ → Expr → Result Expr NumberError → MutBor Numbers → Type 0)
    (pre_typ : Global → MutBor Numbers → ℕ → TypeSyntax → Type 0)
    (post_typ : Global → MutBor Numbers → ℕ → TypeSyntax → Result TypeSyntax NumberError → MutBor Numbers → Type 0)
    (pre_block : Global → MutBor Numbers → ℕ → Block → Type 0)
    (post_block : Global → MutBor Numbers → ℕ → Block → Result Block NumberError → MutBor Numbers → Type 0) : Type 0 where
  pub exp_callable : (alloc : Global) (old : MutBor Numbers) (x : Expr) → pre_exp alloc old depth x
  pub exp_gives : (alloc : Global) (old new : MutBor Numbers) (x : Expr) (r : Result Expr NumberError)
      → post_exp alloc old depth x r new → Gives view_expr (of_expr (view_expr x)) old.now r new.now
  pub typ_callable : (alloc : Global) (old : MutBor Numbers) (x : TypeSyntax) → pre_typ alloc old depth x
  pub typ_gives : (alloc : Global) (old new : MutBor Numbers) (x : TypeSyntax) (r : Result TypeSyntax NumberError)
      → post_typ alloc old depth x r new → Gives view_type (of_type (view_type x)) old.now r new.now
  pub block_callable : (alloc : Global) (old : MutBor Numbers) (x : Block) → pre_block alloc old depth x
  pub block_gives : (alloc : Global) (old new : MutBor Numbers) (x : Block) (r : Result Block NumberError)
      → post_block alloc old depth x r new → Gives view_block (of_block (view_block x)) old.now r new.now
