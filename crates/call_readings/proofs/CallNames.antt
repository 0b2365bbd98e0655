-- What is found in calls of the built form, and how they are read.
use Rattle.std.proofs.Common.{◌≡◌, ◌≤◌, ℕ, zero, suc, ◌+◌, ◌==◌, Bool, true, false, ◌&&◌, ◌||◌, List, [], ◌∷◌, ◌++◌, map, codes, refl, sym, ap, ap₂, ◌∙◌, eq-eqb, eqb-true, arith}
use Rattle.std.specs.Prelude.{Option, Some, None, option_map, is_some, nat_eq, if◌then◌else◌}
use Rattle.std.specs.Option.{IsSomeAnd}
use Rattle.std.specs.List.{filter_map, find, AllByRecursion}
use Rattle.std.specs.Str.{bytes_eq}
use Rattle.luau_tree.specs.declared.position.Span.{Span}
use Rattle.luau_tree.specs.declared.names.ExprId.{ExprId}
use Rattle.luau_scope.specs.declared.reading.Use.{Use}
use Rattle.luau_scope.specs.declared.reading.Use.TheVariants.{Builtin, Library, Global}
use Rattle.luau_scope.specs.declared.reading.RequireSite.{RequireSite}
use Rattle.luau_scope.specs.Names.{is_one_of, is_library, is_front, dotted}
use Rattle.luau_scope.specs.Found.{Found, Means, join, nothing, one}
use Rattle.luau_scope.specs.Finds as finds
use Rattle.luau_scope.specs.Finds.{around_module, found_in, global_use}
use Rattle.luau_scope.specs.Locals.{a_use, a_require, use_at}
use Rattle.luau_run.specs.Signature.{Signature, Declared, declaration}
use Rattle.luau_run.specs.ReadModule.{ReadModule}
use Rattle.luau_run.specs.Program.{Program, paths}
use Rattle.luau_run.specs.Certain.{Certain}
use Rattle.rules_certain.specs.Literal.{Literal, NilLiteral, TruthLiteral, NumberLiteral, StrLiteral, kind_of}
use Rattle.rules_certain.specs.OneNumber.{TakesOneNumber, DeclaresAbs}
use Rattle.rules_certain.specs.Calls.{Written, stat_of, after_call, block_of, use_in, ReadsAs, AllReadAs}
use Rattle.rules_certain.specs.Reports.{reports_of}
use Rattle.rules_certain.proofs.RunOf.{read_is_certain}
use Rattle.module_reading.specs.Names.{meaning_of}
use Rattle.module_reading.specs.Readings.{required_at}
use Rattle.module_reading.proofs.Lists.{and_parts, or_left, or_right}
use Rattle.tree_readings.specs.FromTrees.{IsReadOffTree, IsFolderOfTrees}
use Rattle.call_readings.specs.Calls.{AreTrees}

-- ---- what is declared

bytes_same : (a b : List ℕ) → bytes_eq a b ≡ true → a ≡ b
bytes_same [] [] e = refl
bytes_same [] (y ∷ b) e = cc
bytes_same (x ∷ a) [] e = cc
bytes_same (x ∷ a) (y ∷ b) e =
    let p = and_parts (nat_eq x y) (bytes_eq a b) e in ap₂ (λ (c : ℕ) (cs : List ℕ). c ∷ cs) (eqb-true x y p.0) (bytes_same a b p.1)

bytes_self : (a : List ℕ) → bytes_eq a a ≡ true
bytes_self [] = refl
bytes_self (x ∷ a) = ap (λ t. t && bytes_eq a a) (eq-eqb x x refl) ∙ bytes_self a

some_declared : (o : Option Signature) → IsSomeAnd o TakesOneNumber → is_some o ≡ true
some_declared None h = absurd h
some_declared (Some s) h = refl

declared_there : (builtins : List Declared) (path : List ℕ) → is_some (declaration builtins path) ≡ true → is_one_of (map (λ d. d.path) builtins) path ≡ true
declared_there [] path e = cc
declared_there (d ∷ builtins) path e = by_test (bytes_eq d.path path) refl e (λ k. declared_there builtins path k)
  where
    by_test : (b : Bool) → bytes_eq d.path path ≡ b → is_some (option_map (λ e. e.signature) (if b then Some d else find (λ e. bytes_eq e.path path) builtins)) ≡ true
        → (is_some (declaration builtins path) ≡ true → is_one_of (map (λ d. d.path) builtins) path ≡ true) → (bytes_eq path d.path || is_one_of (map (λ d. d.path) builtins) path) ≡ true
    by_test true q k next = or_left (bytes_eq path d.path) (is_one_of (map (λ d. d.path) builtins) path) (ap (bytes_eq path) (bytes_same d.path path q) ∙ bytes_self path)
    by_test false q k next = or_right (bytes_eq path d.path) (is_one_of (map (λ d. d.path) builtins) path) (next k)

library_there : (all : List (List ℕ)) → is_one_of all (codes "math.abs") ≡ true → is_library all (codes "math") ≡ true
library_there [] e = cc
library_there (p ∷ all) e = by_test (bytes_eq (codes "math.abs") p) refl e (λ k. library_there all k)
  where
    by_test : (b : Bool) → bytes_eq (codes "math.abs") p ≡ b → (b || is_one_of all (codes "math.abs")) ≡ true → (is_one_of all (codes "math.abs") ≡ true → is_library all (codes "math") ≡ true)
        → (is_front (dotted (codes "math") []) p || is_library all (codes "math")) ≡ true
    by_test true q k next = or_left (is_front (dotted (codes "math") []) p) (is_library all (codes "math")) (ap (is_front (dotted (codes "math") [])) (sym (bytes_same (codes "math.abs") p q)))
    by_test false q k next = or_right (is_front (dotted (codes "math") []) p) (is_library all (codes "math")) (next k)

library_use : (all : List (List ℕ)) → is_one_of all (codes "math") ≡ false → is_library all (codes "math") ≡ true → global_use all (codes "math") ≡ Library
library_use all e f =
    ap (λ (b : Bool). if b then Builtin (codes "math") else if is_library all (codes "math") then Library else Global) e
    ∙ ap (λ (b : Bool). if b then Library else Global) f

-- ---- what is found in a call

-- what is found in a call, by what is declared
abbrev found_by : Bool → Use → (first : ℕ) → List Found
found_by b meaning first = (if b then Means (record { 0 = suc first }) (Builtin (codes "math.abs")) ∷ [] else []) ++ (Means (record { 0 = suc (suc first) }) meaning ∷ [])

abbrev found_call : (first : ℕ) → List Found
found_call first = found_by true Library first

abbrev found_calls : (first : ℕ) → List Written → List Found
found_calls first [] = []
found_calls first (w ∷ calls) = found_call first ++ found_calls (after_call first) calls

if_part : (b : Bool) (x : Found) (n : ℕ) → (if b then one x else nothing) n ≡ (if b then x ∷ [] else [])
if_part true x n = refl
if_part false x n = refl

append_nothing : (xs : List Found) → xs ++ [] ≡ xs
append_nothing [] = refl
append_nothing (x ∷ xs) = ap (λ (ys : List Found). x ∷ ys) (append_nothing xs)

argument_silent : (all : List (List ℕ)) (at : ExprId) (span : Span) (literal : Literal) (n : ℕ) → finds.of_expr_kind (around_module all) at span (kind_of literal) n ≡ []
argument_silent all at span NilLiteral n = refl
argument_silent all at span (TruthLiteral true) n = refl
argument_silent all at span (TruthLiteral false) n = refl
argument_silent all at span (NumberLiteral text) n = refl
argument_silent all at span (StrLiteral bytes) n = refl

-- a call whose argument says nothing
call_shape : (all : List (List ℕ)) (first n : ℕ) (w : Written) → finds.of_stat (around_module all) (stat_of first w) n ≡ found_by (is_one_of all (codes "math.abs")) (global_use all (codes "math")) first
unfolding join
call_shape all first n w =
    let p : List Found = (if is_one_of all (codes "math.abs") then one (Means (record { 0 = suc first }) (Builtin (codes "math.abs"))) else nothing) (n + 0) in
    ap (λ (xs : List Found). (p ++ (Means (record { 0 = suc (suc first) }) (global_use all (codes "math")) ∷ [])) ++ (xs ++ [])) (argument_silent all (record { 0 = suc (suc (suc first)) }) w.argument w.literal _)
    ∙ append_nothing (p ++ (Means (record { 0 = suc (suc first) }) (global_use all (codes "math")) ∷ []))
    ∙ ap (λ (xs : List Found). xs ++ (Means (record { 0 = suc (suc first) }) (global_use all (codes "math")) ∷ [])) (if_part (is_one_of all (codes "math.abs")) (Means (record { 0 = suc first }) (Builtin (codes "math.abs"))) (n + 0))

call_found : (all : List (List ℕ)) (first n : ℕ) (w : Written) → is_one_of all (codes "math.abs") ≡ true → is_one_of all (codes "math") ≡ false → finds.of_stat (around_module all) (stat_of first w) n ≡ found_call first
call_found all first n w e f =
    call_shape all first n w ∙ ap (λ (b : Bool). found_by b (global_use all (codes "math")) first) e ∙ ap (λ (u : Use). found_by true u first) (library_use all f (library_there all e))

calls_found : (all : List (List ℕ)) (first n : ℕ) (calls : List Written) → is_one_of all (codes "math.abs") ≡ true → is_one_of all (codes "math") ≡ false
    → finds.of_block (around_module all) (block_of first calls) n ≡ found_calls first calls
unfolding join
calls_found all first n [] e f = refl
calls_found all first n (w ∷ calls) e f =
    ap₂ (λ (xs ys : List Found). xs ++ ys) (call_found all first n w e f) (calls_found all (after_call first) _ calls e f)

-- ---- what names stand for, by their numbers

differs : (n m : ℕ) → (n ≡ m → ⊥) → (n == m) ≡ false
differs n m h = by_test (n == m) refl
  where
    by_test : (b : Bool) → (n == m) ≡ b → (n == m) ≡ false
    by_test true e = absurd (h (eqb-true n m e))
    by_test false e = e

abbrev uses : (first : ℕ) → List Written → List (ExprId × Use)
uses first calls = filter_map a_use (found_calls first calls)

abbrev chosen : Bool → Bool → Option Use → Option Use
chosen b c rest = if b then Some (Builtin (codes "math.abs")) else if c then Some Library else rest

step : (first n : ℕ) (w : Written) (calls : List Written) (b c : Bool) → (suc first == n) ≡ b → (suc (suc first) == n) ≡ c
    → use_at (uses first (w ∷ calls)) (record { 0 = n }) ≡ chosen b c (use_at (uses (after_call first) calls) (record { 0 = n }))
step first n w calls b c e f =
    ap (λ (d : Bool). chosen d (suc (suc first) == n) (use_at (uses (after_call first) calls) (record { 0 = n }))) e
    ∙ ap (λ (d : Bool). chosen b d (use_at (uses (after_call first) calls) (record { 0 = n }))) f

none_below : (first n : ℕ) (calls : List Written) → n ≤ first → use_at (uses first calls) (record { 0 = n }) ≡ None
none_below first n [] l = refl
none_below first n (w ∷ calls) l =
    step first n w calls false false (differs (suc first) n (λ e. absurd (omega (arith, e, l)))) (differs (suc (suc first)) n (λ e. absurd (omega (arith, e, l))))
    ∙ none_below (after_call first) n calls (omega (arith, l))

use_is : (first k : ℕ) (calls : List Written) → option_map meaning_of (use_at (uses first calls) (record { 0 = first + k })) ≡ use_in calls k
use_is first k [] = refl
use_is first zero (w ∷ calls) =
    ap (option_map meaning_of) (step first (first + zero) w calls false false (differs (suc first) (first + zero) (λ e. absurd (omega (arith, e)))) (differs (suc (suc first)) (first + zero) (λ e. absurd (omega (arith, e))))
    ∙ none_below (after_call first) (first + zero) calls (omega arith))
use_is first (suc zero) (w ∷ calls) =
    ap (option_map meaning_of) (step first (first + suc zero) w calls true (suc (suc first) == (first + suc zero)) (eq-eqb (suc first) (first + suc zero) (omega arith)) refl)
use_is first (suc (suc zero)) (w ∷ calls) =
    ap (option_map meaning_of) (step first (first + suc (suc zero)) w calls false true (differs (suc first) (first + suc (suc zero)) (λ e. absurd (omega (arith, e)))) (eq-eqb (suc (suc first)) (first + suc (suc zero)) (omega arith)))
use_is first (suc (suc (suc zero))) (w ∷ calls) =
    ap (option_map meaning_of) (step first (first + suc (suc (suc zero))) w calls false false (differs (suc first) (first + suc (suc (suc zero))) (λ e. absurd (omega (arith, e)))) (differs (suc (suc first)) (first + suc (suc (suc zero))) (λ e. absurd (omega (arith, e))))
    ∙ none_below (after_call first) (first + suc (suc (suc zero))) calls (omega arith))
use_is first (suc (suc (suc (suc k)))) (w ∷ calls) =
    ap (option_map meaning_of) (step first (first + suc (suc (suc (suc k)))) w calls false false (differs (suc first) (first + suc (suc (suc (suc k)))) (λ e. absurd (omega (arith, e)))) (differs (suc (suc first)) (first + suc (suc (suc (suc k)))) (λ e. absurd (omega (arith, e)))))
    ∙ ap (λ (n : ℕ). option_map meaning_of (use_at (uses (after_call first) calls) (record { 0 = n }))) (omega arith)
    ∙ use_is (after_call first) k calls

no_sites : (first : ℕ) (calls : List Written) → filter_map a_require (found_calls first calls) ≡ []
no_sites first [] = refl
no_sites first (w ∷ calls) = no_sites (after_call first) calls

-- ---- a module, and a folder

reads : (program : Program) (calls : List Written) (reading : ReadModule) → is_one_of (paths program) (codes "math.abs") ≡ true → is_one_of (paths program) (codes "math") ≡ false
    → IsReadOffTree program reading → reading.block ≡ block_of 0 calls → ReadsAs calls reading
reads program calls reading e f r b =
    let found : found_in (paths program) reading.block ≡ found_calls 0 calls = ap (found_in (paths program)) b ∙ calls_found (paths program) 0 0 calls e f in
    record {
      statements = b;
      names = λ id. ap (λ (m : ReadModule). m.use_of id) r.same ∙ ap (λ (fs : List Found). option_map meaning_of (use_at (filter_map a_use fs) (record { 0 = id }))) found
          ∙ ap (λ (n : ℕ). option_map meaning_of (use_at (uses 0 calls) (record { 0 = n }))) (omega arith) ∙ use_is 0 id calls;
      no_require = λ id. ap (λ (m : ReadModule). m.required id) r.same ∙ ap (λ (fs : List Found). required_at (filter_map a_require fs) r.leads id) found
          ∙ ap (λ (sites : List RequireSite). required_at sites r.leads id) (no_sites 0 calls);
    }

each_read : (program : Program) (modules : List (List Written)) (readings : List ReadModule) → is_one_of (paths program) (codes "math.abs") ≡ true → is_one_of (paths program) (codes "math") ≡ false
    → AllByRecursion (IsReadOffTree program) readings → AreTrees modules readings → AllReadAs modules readings
each_read program [] [] e f all trees = tt
each_read program (calls ∷ modules) [] e f all trees = absurd trees
each_read program [] (reading ∷ readings) e f all trees = absurd trees
each_read program (calls ∷ modules) (reading ∷ readings) e f all trees =
    (reads program calls reading e f all.0 trees.0, each_read program modules readings e f all.1 trees.1)

pub all_read : (program : Program) (modules : List (List Written)) → IsFolderOfTrees program → DeclaresAbs program.builtins → is_one_of (paths program) (codes "math") ≡ false
    → AreTrees modules program.modules → AllReadAs modules program.modules
all_read program modules folder abs f trees =
    each_read program modules program.modules (declared_there program.builtins (codes "math.abs") (some_declared (declaration program.builtins (codes "math.abs")) abs)) f folder.readings trees

pub certain_so : (program : Program) (modules : List (List Written)) → IsFolderOfTrees program → DeclaresAbs program.builtins → is_one_of (paths program) (codes "math") ≡ false
    → AreTrees modules program.modules → Certain program (reports_of modules)
certain_so program modules folder abs f trees = read_is_certain program modules abs (all_read program modules folder abs f trees)
