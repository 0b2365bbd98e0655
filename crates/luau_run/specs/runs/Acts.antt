-- Worked runs of acts: what a builtin may do, and a value of another kind.
use Rattle.std.specs.Prelude.{List, [], ◌∷◌, codes}
use Rattle.luau_tree.specs.declared.names.BinOp.TheVariants.{Add, Concat, Less}
use Rattle.luau_tree.specs.Tree.{StatKind, Compound, GenFor, Expr, NilExpr, Index, At, Binary}
use Rattle.luau_run.specs.ReadModule.{UseLocal, UseBuiltin}
use Rattle.luau_run.specs.Program.{Program}
use Rattle.luau_run.specs.runs.Builders.{e, num, name, exprs_of, call_of, table, alone, block_of, locals, assign, calling, returning, one_module}

-- `local t = {}`, `pcall(t)` and a statement, which may use t as its expression 10
abbrev pub acted_on : StatKind → Program
acted_on kind = one_module
    (locals (alone 0) (e 0 (table []) ∷ []) ∷ calling 1 (name 2) (name 3 ∷ []) ∷ kind ∷ [])
    ((2, UseBuiltin (codes "pcall")) ∷ (3, UseLocal 0) ∷ (10, UseLocal 0) ∷ []) []

-- these with `return t.p`
abbrev pub reading_p : Program
reading_p = acted_on (returning (e 9 (Index (name 10) (codes "p")) ∷ []))

-- these with `t.p = 1`
abbrev pub writing_p : Program
writing_p = acted_on (assign (e 9 (Index (name 10) (codes "p"))) (e 11 num))

-- `return pcall()`
abbrev pub results_of_pcall : Program
results_of_pcall = one_module (returning (e 0 (call_of (name 1) []) ∷ []) ∷ []) ((1, UseBuiltin (codes "pcall")) ∷ []) []

-- `local t = {}`, `math.abs(ARGUMENTS)`
abbrev pub abs_of : List Expr → Program
abs_of args = one_module
    (locals (alone 0) (e 0 (table []) ∷ []) ∷ calling 1 (name 2) args ∷ []) ((2, UseBuiltin (codes "math.abs")) ∷ []) []

-- `local o = pcall()` and a statement, which may use o as its expression 10 and a local of its own
-- as 11
abbrev pub other_then : StatKind → Program
other_then kind = one_module
    (locals (alone 0) (e 0 (call_of (name 1) []) ∷ []) ∷ kind ∷ [])
    ((1, UseBuiltin (codes "pcall")) ∷ (10, UseLocal 0) ∷ (11, UseLocal 1) ∷ []) []

-- these with `return o.p`
abbrev pub field_of_other : Program
field_of_other = other_then (returning (e 9 (Index (name 10) (codes "p")) ∷ []))

-- these with `o[1] = 1`
abbrev pub element_of_other_written : Program
element_of_other_written = other_then (assign (e 9 (At (name 10) (e 12 num))) (e 13 num))

-- these with `return o()`
abbrev pub call_of_other : Program
call_of_other = other_then (returning (e 9 (call_of (name 10) []) ∷ []))

-- these with `for x in o do return x end`
abbrev pub turns_of_other : Program
turns_of_other = other_then (GenFor (alone 1) (exprs_of (name 10 ∷ [])) (block_of (returning (name 11 ∷ []) ∷ [])))

-- these with `return o + nil`
abbrev pub sum_with_other : Program
sum_with_other = other_then (returning (e 9 (Binary Add (name 10) (e 12 NilExpr)) ∷ []))

-- these with `return nil < o`
abbrev pub order_with_other : Program
order_with_other = other_then (returning (e 9 (Binary Less (e 12 NilExpr) (name 10)) ∷ []))

-- `local x = nil`, `x ..= pcall()`, `return x`
abbrev pub compound_of_other : Program
compound_of_other = one_module
    (locals (alone 0) (e 0 NilExpr ∷ []) ∷ Compound (name 1) Concat (e 2 (call_of (name 3) [])) ∷ returning (name 4 ∷ []) ∷ [])
    ((1, UseLocal 0) ∷ (3, UseBuiltin (codes "pcall")) ∷ (4, UseLocal 0) ∷ []) []
