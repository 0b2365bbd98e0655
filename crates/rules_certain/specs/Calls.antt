-- Modules of the built form: a list of statements, each a call of `math.abs` with one literal. The expressions of such a
-- statement have four numbers in a row, in the order of the text: the call, the callee `math.abs`, its base `math`, and
-- the literal.
use Rattle.std.specs.Prelude.{◌≡◌, ⊤, ℕ, zero, suc, true, List, [], ◌∷◌, Option, Some, None, codes}
use Rattle.luau_tree.specs.declared.position.Span.{Span}
use Rattle.luau_tree.specs.Tree.{Block, no_stats, more_stats, Stat, the_stat, CallStat, the_expr, no_exprs, more_exprs, Call, Index, NameExpr}
use Rattle.luau_run.specs.Signature.{Declared}
use Rattle.luau_run.specs.ReadModule.{Use, UseBuiltin, UseLibrary, ReadModule}
use Rattle.luau_run.specs.Program.{Program}
use Rattle.rules_certain.specs.Literal.{Literal, kind_of}

-- a call of `math.abs` as it is written: its literal, and where its statement, it, `math.abs`, `math` and the literal
-- stand
pub record Written : Type 0 where
  pub literal : Literal
  pub statement : Span
  pub call : Span
  pub callee : Span
  pub library : Span
  pub argument : Span

-- the statement that such a call is, with numbers from `first` on
abbrev pub stat_of : (first : ℕ) → Written → Stat
stat_of first w = the_stat w.statement (CallStat (the_expr first w.call (Call
    (the_expr (suc first) w.callee (Index (the_expr (suc (suc first)) w.library (NameExpr (codes "math"))) (codes "abs")))
    (more_exprs (the_expr (suc (suc (suc first))) w.argument (kind_of w.literal)) no_exprs))))

-- the number after those of the call with numbers from `first` on
abbrev pub after_call : (first : ℕ) → ℕ
after_call first = suc (suc (suc (suc first)))

-- the statements of some calls, with numbers from `first` on
abbrev pub block_of : (first : ℕ) → List Written → Block
block_of first [] = no_stats
block_of first (w ∷ calls) = more_stats (stat_of first w) (block_of (after_call first) calls)

-- what the names of some calls stand for, by numbers that count from the first call: each callee for the builtin
-- `math.abs`, each base for a library
abbrev pub use_in : List Written → ℕ → Option Use
use_in [] id = None
use_in (w ∷ calls) zero = None
use_in (w ∷ calls) (suc zero) = Some (UseBuiltin (codes "math.abs"))
use_in (w ∷ calls) (suc (suc zero)) = Some UseLibrary
use_in (w ∷ calls) (suc (suc (suc zero))) = None
use_in (w ∷ calls) (suc (suc (suc (suc id)))) = use_in calls id

-- a module is read as some calls: its statements are theirs, its names stand for the same, and nothing is a static
-- require; its home is whatever it is, and so is what it says of locals and function literals, of which there are none
pub record ReadsAs (calls : List Written) (reading : ReadModule) : Type 0 where
  pub statements : reading.block ≡ block_of 0 calls
  pub names : (id : ℕ) → reading.use_of id ≡ use_in calls id
  pub no_require : (id : ℕ) → reading.required id ≡ None

-- each module of a list is read as the calls at the same position
abbrev pub AllReadAs : List (List Written) → List ReadModule → Type 0
AllReadAs [] [] = ⊤
AllReadAs (calls ∷ modules) (reading ∷ readings) = ReadsAs calls reading × AllReadAs modules readings
AllReadAs _ _ = ⊥

-- the module of some calls, with a home; it declares no local, has no function literal and requires nothing
abbrev pub module_of : (home : ℕ) → List Written → ReadModule
module_of home calls = record {
  home = home;
  block = block_of 0 calls;
  use_of = use_in calls;
  local_at = λ offset. 0;
  captured = λ function. [];
  annotated = λ function index heap value. true;
  required = λ id. None;
}

-- the modules of some lists of calls, with homes that count from the given one
abbrev pub modules_from : (home : ℕ) → List (List Written) → List ReadModule
modules_from home [] = []
modules_from home (calls ∷ modules) = module_of home calls ∷ modules_from (suc home) modules

-- the program of some modules, each a list of calls, over declared builtins
abbrev pub program_of : List Declared → List (List Written) → Program
program_of builtins modules = record { modules = modules_from 1 modules; builtins = builtins }
