-- A module, with what was found out of its names.
use Rattle.std.specs.Prelude.{ℕ, List, Option}
use Rattle.luau_tree.specs.Tree.{Block}
use Rattle.luau_run.specs.ValueSet.{ValueSet}

-- what a name, or a path of two names, stands for: a local by its number, a builtin by its path, a
-- library, or a global
pub data Use : Type 0 where
  UseLocal : (local : ℕ) → Use
  UseBuiltin : (path : List ℕ) → Use
  UseLibrary : Use
  UseGlobal : Use

-- a module, with what was found out of its names. Expressions, bodies and locals are meant by their
-- numbers
pub record ReadModule : Type 0 where
  pub home : ℕ
  pub block : Block
  -- for each expression that is a name or a builtin's path
  pub use_of : ℕ → Option Use
  -- the local whose name is declared at an offset
  pub local_at : ℕ → ℕ
  -- the locals from outside that a body uses, itself or in a function literal within
  pub captured : ℕ → List ℕ
  -- what the annotation of a body's parameter says of its argument
  pub annotated : (function index : ℕ) → ValueSet
  -- for each static require, the position of the module that it means
  pub required : ℕ → Option ℕ
