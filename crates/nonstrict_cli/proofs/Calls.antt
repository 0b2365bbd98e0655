-- Reading calls one after the other.
use Rattle.std.proofs.Common.{◌≡◌, ◌≤◌, ◌++◌, ℕ, List, [], ◌∷◌, Option, None, Some, drop, length, refl, ap, sym, ◌∙◌, append_assoc, option_map}
use Rattle.std.proofs.lemmas.List.{append-nil, drop_all}
use Rattle.std.specs.Option.{option_and_then}
use Rattle.luau_tree.specs.Tree.{Block, Stat}
use Rattle.luau_tree.specs.Tree as tree
use Rattle.luau_tree.specs.View.{view_stats}
use Rattle.luau_tree.specs.declared.tree as code
use Rattle.rules_certain.specs.Calls.{Written}
use Rattle.nonstrict_cli.specs.Form.{call_in, calls_in, faults_in, offset_of, offsets_of}

-- two parts before are one
option_map-append : (xs ys : List ℕ) (later : Option (List ℕ)) → option_map (λ l. xs ++ l) (option_map (λ l. ys ++ l) later) ≡ option_map (λ l. (xs ++ ys) ++ l) later
option_map-append xs ys None = refl
option_map-append xs ys (Some l) = ap Some (sym (append_assoc xs ys l))

-- where the calls are reported, call by call
call_by_call : (call : Option Written) (calls : Option (List Written)) → option_map offsets_of (option_and_then (λ c. option_map (λ later. c ∷ later) calls) call) ≡ option_and_then (λ here. option_map (λ later. here ++ later) (option_map offsets_of calls)) (option_map offset_of call)
call_by_call None calls = refl
call_by_call (Some c) None = refl
call_by_call (Some c) (Some calls) = refl

-- reading goes on behind a call
pub faults_step : (whole : Option (List ℕ)) (s : Stat) (rest : Block) (found here more : List ℕ)
    → Some here ≡ option_map offset_of (call_in s) → more ≡ found ++ here
    → whole ≡ option_map (λ later. found ++ later) (faults_in (tree.more_stats s rest))
    → whole ≡ option_map (λ later. more ++ later) (faults_in rest)
faults_step whole s rest found here more told added inv =
    let left = faults_in rest in
    inv
    ∙ ap (option_map (λ later. found ++ later)) (call_by_call (call_in s) (calls_in rest))
    ∙ ap (λ o. option_map (λ later. found ++ later) (option_and_then (λ here. option_map (λ later. here ++ later) left) o)) (sym told)
    ∙ option_map-append found here left
    ∙ ap (λ f. option_map (λ later. f ++ later) left) (sym added)

-- nothing is reported where a statement is no such call
pub faults_none : (s : Stat) (rest : Block) → None ≡ option_map offset_of (call_in s) → faults_in (tree.more_stats s rest) ≡ None
faults_none s rest told = call_by_call (call_in s) (calls_in rest) ∙ ap (λ o. option_and_then (λ here. option_map (λ later. here ++ later) (faults_in rest)) o) (sym told)

-- nothing stands before what was found
nothing_before : (o : Option (List ℕ)) → o ≡ option_map (λ later. [] ++ later) o
nothing_before None = refl
nothing_before (Some l) = refl

pub from_nothing : (found : List ℕ) (o : Option (List ℕ)) → found ≡ [] → o ≡ option_map (λ later. found ++ later) o
from_nothing found o e = nothing_before o ∙ ap (λ f. option_map (λ later. f ++ later) o) (sym e)

-- nothing is left
pub with_nothing : (found : List ℕ) (xs : List code.Stat.Stat) (i : ℕ) → length xs ≤ i
    → option_map (λ later. found ++ later) (faults_in (view_stats (drop i xs))) ≡ Some found
with_nothing found xs i h =
    ap (λ l. option_map (λ later. found ++ later) (faults_in (view_stats l))) (drop_all i xs h) ∙ ap Some (append-nil found)
