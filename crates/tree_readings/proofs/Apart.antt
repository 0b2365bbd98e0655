-- Trees of texts stand apart.
use Rattle.std.proofs.Common.{◌≡◌, ◌≢◌, ◌<◌, ℕ, zero, suc, ◌+◌, ◌==◌, Bool, true, false, not, List, [], ◌∷◌, map, length, refl, ap, ◌∙◌, eqb-true, arith}
use Rattle.std.specs.Prelude.{None, AllPairs, slice_index_or}
use Rattle.std.specs.List.{range_with_len}
use Rattle.luau_tree.specs.Tree.{Block, Bind}
use Rattle.luau_tree.specs.Nodes.{exprs_in, bodies_in, binds_in}
use Rattle.luau_lex.specs.Tokens.{Tok}
use Rattle.luau_lex.specs.Lexed.{Lexed}
use Rattle.luau_grammar.specs.Places.{Rules}
use Rattle.luau_grammar.specs.Modules.{IsBare}
use Rattle.grammar_laws.proofs.DeclaredNames.{declared_apart}
use Rattle.grammar_laws.proofs.InOrder.{lexed_in_order}
use Rattle.tree_numbers.specs.Numbered.{numbered}
use Rattle.tree_numbers.specs.Counting.{first}
use Rattle.tree_numbers.proofs.Counted.{counted_block}
use Rattle.luau_scope.specs.Captured.{bind_start}
use Rattle.luau_run.specs.ReadFolder.{is_among, are_distinct}
use Rattle.tree_readings.specs.Apart.{StandsApart}
use Rattle.module_reading.proofs.Lists.{and_both, or_neither, is_not}
use Rattle.tree_readings.proofs.Starts.{numbered_starts}

differs : (n m : ℕ) → (n ≡ m → ⊥) → (n == m) ≡ false
differs n m h = by_test (n == m) refl
  where
    by_test : (b : Bool) → (n == m) ≡ b → (n == m) ≡ false
    by_test true e = absurd (h (eqb-true n m e))
    by_test false e = e

-- numbers in a row are distinct
below_row : (n from len : ℕ) → n < from → is_among n (range_with_len from len) ≡ false
below_row n from zero l = refl
below_row n from (suc len) l =
    or_neither (n == from) (is_among n (range_with_len (from + 1) len)) (differs n from (λ e. absurd (omega (arith, e, l)))) (below_row n (from + 1) len (omega (arith, l)))

row_distinct : (from len : ℕ) → are_distinct (range_with_len from len) ≡ true
row_distinct from zero = refl
row_distinct from (suc len) =
    and_both (not (is_among from (range_with_len (from + 1) len))) (are_distinct (range_with_len (from + 1) len))
    (is_not (is_among from (range_with_len (from + 1) len)) (below_row from (from + 1) len (omega arith))) (row_distinct (from + 1) len)

-- names that begin apart
others_apart : (x : Bind) (xs : List Bind) → ((j : ℕ) (d : Bind) → j < length xs → bind_start x ≢ bind_start (slice_index_or xs j d)) → is_among (bind_start x) (map bind_start xs) ≡ false
others_apart x [] h = refl
others_apart x (y ∷ xs) h =
    or_neither (bind_start x == bind_start y) (is_among (bind_start x) (map bind_start xs)) (differs (bind_start x) (bind_start y) (h 0 x (omega arith)))
    (others_apart x xs (λ j d l. h (suc j) d (omega (arith, l))))

starts_distinct : (xs : List Bind) → AllPairs (λ x y. bind_start x ≢ bind_start y) xs → are_distinct (map bind_start xs) ≡ true
starts_distinct [] h = refl
starts_distinct (x ∷ xs) h =
    and_both (not (is_among (bind_start x) (map bind_start xs))) (are_distinct (map bind_start xs))
    (is_not (is_among (bind_start x) (map bind_start xs)) (others_apart x xs (λ j d l. h 0 (suc j) d (omega arith) (omega (arith, l)))))
    (starts_distinct xs (λ i j d l k. h (suc i) (suc j) d (omega (arith, l)) (omega (arith, k))))

pub apart : (rules : Rules) (text : List ℕ) (tokens : List Tok) (bare : Block) → Lexed text tokens None → IsBare rules tokens bare → StandsApart (numbered bare)
apart rules text tokens bare lexed is = record {
  exprs = ap are_distinct (counted_block bare first).exprs ∙ row_distinct 0 (length (exprs_in bare));
  bodies = ap are_distinct (counted_block bare first).bodies ∙ row_distinct 0 (length (bodies_in bare));
  binds = ap are_distinct (numbered_starts bare) ∙ starts_distinct (binds_in bare) (declared_apart rules tokens bare (lexed_in_order text tokens None lexed) is);
}
