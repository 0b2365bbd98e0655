-- Function values that read the phrases that hold one another.
use Rattle.std.specs.Prelude.{ℕ, List, ◌≤◌, length, Option, Result}
use Rattle.std.specs.declared.alloc.Global.{Global}
use denote.Ref.{Bor, MutBor}
use Rattle.luau_tree.specs.declared.position.TheConstants.{MAX_TEXT}
use Rattle.luau_tree.specs.declared.tree.Block.{Block}
use Rattle.luau_tree.specs.declared.tree.Expr.{Expr}
use Rattle.luau_tree.specs.declared.tree.TypeSyntax.{TypeSyntax}
use Rattle.luau_tree.specs.View.{view_block, view_expr, view_type}
use Rattle.luau_grammar.specs.declared.error.ParseError.{ParseError}
use Rattle.phrase_reader.specs.declared.tokens.Tokens.{Tokens}
use Rattle.phrase_reader.specs.declared.listed.Listed.{Listed}
use Rattle.phrase_reader.specs.Outcomes.{Reads, place_of, maybe_listed}
use Rattle.luau_grammar.specs.Reading.{strictly, Readers}
use Rattle.luau_grammar.specs.ReadModules.{readers}

-- Each function value may be called, and reads what its parser gives, with phrases that hold one another at most so
-- many deep.
pub record Nests (text : List ℕ) (depth : ℕ)
    (pre_exp : Global → Bor (List ℕ) → MutBor Tokens → ℕ → Type 0)
    (post_exp : Global → Bor (List ℕ) → MutBor Tokens → ℕ → Result Expr ParseError → MutBor Tokens → Type 0)
    (pre_typ : Global → Bor (List ℕ) → MutBor Tokens → ℕ → Option Listed → Type 0)
    (post_typ : Global → Bor (List ℕ) → MutBor Tokens → ℕ → Option Listed → Result TypeSyntax ParseError → MutBor Tokens → Type 0)
    (pre_block : Global → Bor (List ℕ) → MutBor Tokens → ℕ → Type 0)
    (post_block : Global → Bor (List ℕ) → MutBor Tokens → ℕ → Result Block ParseError → MutBor Tokens → Type 0) : Type 0 where
  pub short : length text ≤ MAX_TEXT
  pub exp_callable : (alloc : Global) (given : Bor (List ℕ)) (old : MutBor Tokens) → length given.now ≤ MAX_TEXT → pre_exp alloc given old depth
  pub exp_reads : (alloc : Global) (given : Bor (List ℕ)) (old new : MutBor Tokens) (r : Result Expr ParseError)
      → post_exp alloc given old depth r new → Reads view_expr ((readers (strictly given.now) depth).exp (place_of old.now)) r new.now
  pub typ_callable : (alloc : Global) (given : Bor (List ℕ)) (old : MutBor Tokens) (begun : Option Listed) → length given.now ≤ MAX_TEXT → pre_typ alloc given old depth begun
  pub typ_reads : (alloc : Global) (given : Bor (List ℕ)) (old new : MutBor Tokens) (begun : Option Listed) (r : Result TypeSyntax ParseError)
      → post_typ alloc given old depth begun r new → Reads view_type ((readers (strictly given.now) depth).typ (maybe_listed begun) (place_of old.now)) r new.now
  pub block_callable : (alloc : Global) (given : Bor (List ℕ)) (old : MutBor Tokens) → length given.now ≤ MAX_TEXT → pre_block alloc given old depth
  pub block_reads : (alloc : Global) (given : Bor (List ℕ)) (old new : MutBor Tokens) (r : Result Block ParseError)
      → post_block alloc given old depth r new → Reads view_block ((readers (strictly given.now) depth).block (place_of old.now)) r new.now
