-- The modules of some calls are those of a read folder.
use Rattle.std.proofs.Common.{◌≡◌, ℕ, zero, suc, ◌+◌, ◌<◌, Bool, true, false, not, ◌&&◌, ◌||◌, cond, List, [], ◌∷◌, ◌++◌, map, Option, Some, None, is_some, slice_get, option_map, refl, sym, ◌∙◌, ap, subst, arith, codes}
use Rattle.std.specs.Option.{IsSomeAnd, option_map_or}
use Rattle.std.specs.List.{AllByRecursion, list_any, filter_map, find}
use Rattle.std.specs.Str.{bytes_eq}
use Rattle.std.proofs.lemmas.Bool.{ne_eqb}
use Rattle.std.proofs.lemmas.Slice.Eq.{bytes_eq-Decides}
use Rattle.luau_values.specs.Start.{library_of}
use Rattle.luau_tree.specs.Tree.{the_expr, no_exprs, more_exprs, ExprKind, Call, Index, NameExpr}
use Rattle.luau_run.specs.Signature.{Signature, Declared, declaration}
use Rattle.luau_run.specs.ReadModule.{Use, UseBuiltin, ReadModule}
use Rattle.luau_run.specs.Program.{Program}
use Rattle.luau_run.specs.SyntaxNode.{SyntaxNode, of_block, of_expr_kind}
use Rattle.luau_run.specs.ReadFolder.{is_among, are_distinct, Requires, Leads, may_mean, declared_by, IsReadWell, IsRead, IsReadFolder}
use Rattle.rules_certain.specs.Literal.{Literal, NilLiteral, TruthLiteral, NumberLiteral, StrLiteral, kind_of}
use Rattle.rules_certain.specs.OneNumber.{TakesOneNumber, DeclaresAbs}
use Rattle.rules_certain.specs.Calls.{Written, after_call, block_of, use_in, module_of, modules_from, program_of}

-- homes that count from one on are distinct, and none of them is before the first
not_among : (h home : ℕ) (modules : List (List Written)) → h < home → is_among h (map (λ reading. reading.home) (modules_from home modules)) ≡ false
not_among h home [] l = refl
not_among h home (calls ∷ modules) l =
    ap (λ b. b || is_among h (map (λ reading. reading.home) (modules_from (suc home) modules))) (ne_eqb h home (λ e. omega (arith, l, e)))
    ∙ not_among h (suc home) modules (omega (arith, l))

distinct_homes : (home : ℕ) (modules : List (List Written)) → are_distinct (map (λ reading. reading.home) (modules_from home modules)) ≡ true
distinct_homes home [] = refl
distinct_homes home (calls ∷ modules) =
    ap (λ b. not b && are_distinct (map (λ reading. reading.home) (modules_from (suc home) modules))) (not_among home (suc home) modules (omega arith))
    ∙ distinct_homes (suc home) modules

all_distinct : (home : ℕ) (modules : List (List Written)) → 0 < home → are_distinct (0 ∷ map (λ reading. reading.home) (modules_from home modules)) ≡ true
all_distinct home modules l =
    ap (λ b. not b && are_distinct (map (λ reading. reading.home) (modules_from home modules))) (not_among 0 home modules l)
    ∙ distinct_homes home modules

-- no module requires another
no_require : (home : ℕ) (modules : List (List Written)) (at : ℕ) (reading : ReadModule) (id : ℕ) → slice_get (modules_from home modules) at ≡ Some reading → reading.required id ≡ None
no_require home [] at reading id e = cc
no_require home (calls ∷ modules) zero reading id e = ap (λ (o : Option ReadModule). of_some o) (sym e)
  where
    of_some : Option ReadModule → Option ℕ
    of_some None = None
    of_some (Some r) = r.required id
no_require home (calls ∷ modules) (suc at) reading id e = no_require (suc home) modules at reading id e

or_true : (b : Bool) → (b || true) ≡ true
or_true true = refl
or_true false = refl

-- whether some path is that of a builtin of the library
abbrev has_library : List Declared → Bool
has_library builtins = list_any (λ path. option_map_or (bytes_eq (codes "math")) (library_of path) false) (map (λ d. d.path) builtins)

-- the library of `math.abs` is there where this is declared
library_there : (builtins : List Declared) → DeclaresAbs builtins → has_library builtins ≡ true
library_there [] h = absurd h
library_there (d ∷ builtins) h = by_test (bytes_eq d.path (codes "math.abs")) refl h (λ k. library_there builtins k)
  where
    by_test : (b : Bool) → bytes_eq d.path (codes "math.abs") ≡ b
        → IsSomeAnd (option_map (λ d. d.signature) (cond b (Some d) (find (λ d. bytes_eq d.path (codes "math.abs")) builtins))) TakesOneNumber
        → (DeclaresAbs builtins → has_library builtins ≡ true) → has_library (d ∷ builtins) ≡ true
    by_test true e k again =
        ap (λ path. option_map_or (bytes_eq (codes "math")) (library_of path) false || has_library builtins) ((bytes_eq-Decides d.path (codes "math.abs")).0 e)
    by_test false e k again =
        ap (λ b. option_map_or (bytes_eq (codes "math")) (library_of d.path) false || b) (again k) ∙ or_true (option_map_or (bytes_eq (codes "math")) (library_of d.path) false)

is_there : (o : Option Signature) → IsSomeAnd o TakesOneNumber → is_some o ≡ true
is_there None h = absurd h
is_there (Some signature) h = refl

module _ (program : Program) (declared : DeclaresAbs program.builtins) (reading : ReadModule) where
  literal_well : (l : Literal) (o : Option Use) → o ≡ None → may_mean program (kind_of l) o ≡ true
  literal_well l o e = subst (λ (u : Option Use). may_mean program (kind_of l) u ≡ true) (sym e) (by_literal l)
    where
      by_literal : (m : Literal) → may_mean program (kind_of m) None ≡ true
      by_literal NilLiteral = refl
      by_literal (TruthLiteral true) = refl
      by_literal (TruthLiteral false) = refl
      by_literal (NumberLiteral text) = refl
      by_literal (StrLiteral bytes) = refl

  -- a literal has no nodes within
  no_more : (P : List SyntaxNode → Type 0) (l : Literal) (rest : List SyntaxNode) → P rest → P ((of_expr_kind (kind_of l) ++ []) ++ rest)
  no_more P NilLiteral rest h = h
  no_more P (TruthLiteral true) rest h = h
  no_more P (TruthLiteral false) rest h = h
  no_more P (NumberLiteral text) rest h = h
  no_more P (StrLiteral bytes) rest h = h

  -- each node of calls with numbers from `n` on is read well
  read_calls : (n : ℕ) (calls : List Written) → ((id : ℕ) → reading.use_of (n + id) ≡ use_in calls id)
      → AllByRecursion (IsReadWell program reading) (of_block (block_of n calls))
  read_calls n [] u = tt
  read_calls n (w ∷ calls) u =
      let use_at : (id next : ℕ) → n + id ≡ next → reading.use_of next ≡ use_in (w ∷ calls) id =
      λ id next e. subst (λ (i : ℕ). reading.use_of i ≡ use_in (w ∷ calls) id) e (u id) in
      let callee : ExprKind = Index (the_expr (suc (suc n)) w.library (NameExpr (codes "math"))) (codes "abs") in
      let call : ExprKind = Call (the_expr (suc n) w.callee callee) (more_exprs (the_expr (suc (suc (suc n))) w.argument (kind_of w.literal)) no_exprs) in
      let there : may_mean program callee (Some (UseBuiltin (codes "math.abs"))) ≡ true =
      ap (λ b. b && true) (is_there (declaration program.builtins (codes "math.abs")) declared) in (
        subst (λ (o : Option Use). may_mean program call o ≡ true) (sym (use_at zero n (omega arith))) refl,
        (
          subst (λ (o : Option Use). may_mean program callee o ≡ true) (sym (use_at (suc zero) (suc n) (omega arith))) there,
          (
            subst (λ (o : Option Use). may_mean program (NameExpr (codes "math")) o ≡ true) (sym (use_at (suc (suc zero)) (suc (suc n)) (omega arith))) (library_there program.builtins declared),
            (
              literal_well w.literal (reading.use_of (suc (suc (suc n)))) (use_at (suc (suc (suc zero))) (suc (suc (suc n))) (omega arith)),
              no_more (AllByRecursion (IsReadWell program reading)) w.literal (of_block (block_of (after_call n) calls))
                  (read_calls (after_call n) calls (λ id. subst (λ (i : ℕ). reading.use_of i ≡ use_in calls id) (omega arith) (u (suc (suc (suc (suc id))))))),
            ),
          ),
        ),
      )

  -- calls declare no local
  no_local : (n : ℕ) (calls : List Written) → filter_map (declared_by reading) (of_block (block_of n calls)) ≡ []
  no_local n [] = refl
  no_local n (w ∷ calls) =
      no_more (λ nodes. filter_map (declared_by reading) nodes ≡ []) w.literal (of_block (block_of (after_call n) calls)) (no_local (after_call n) calls)

module _ (program : Program) (declared : DeclaresAbs program.builtins) where
  all_well : (home : ℕ) (modules : List (List Written)) → AllByRecursion (IsRead program) (modules_from home modules)
  all_well home [] = tt
  all_well home (calls ∷ modules) = (
    record {
      nodes = read_calls program declared (module_of home calls) 0 calls (λ id. ap (use_in calls) (omega arith));
      locals = ap are_distinct (no_local program declared (module_of home calls) 0 calls);
    },
    all_well (suc home) modules,
  )

none_required : (builtins : List Declared) (modules : List (List Written)) (at other : ℕ) → Requires (program_of builtins modules) at other → ⊥
none_required builtins modules at other (reading, id, found, means) = is_none (sym means ∙ no_require 1 modules at reading id found)
  where
    is_none : Some other ≡ None → ⊥
    is_none e = cc

no_way_back : (builtins : List Declared) (modules : List (List Written)) (more at other : ℕ) → Leads (program_of builtins modules) more at other → ⊥
no_way_back builtins modules zero at other h = none_required builtins modules at other h
no_way_back builtins modules (suc more) at other h = none_required builtins modules at h.0 h.1

pub folder_of : (builtins : List Declared) (modules : List (List Written)) → DeclaresAbs builtins → IsReadFolder (program_of builtins modules)
folder_of builtins modules declared = record {
  homes = all_distinct 1 modules (omega arith);
  listed = λ at other h. absurd (none_required builtins modules at other h);
  no_cycle = λ more at h. no_way_back builtins modules more at at h;
  readings = all_well (program_of builtins modules) declared 1 modules;
}
