-- The tree of a text stands in the order of the text.
use Rattle.std.proofs.Common.{◌≡◌, ℕ, zero, suc, ◌+◌, ◌-◌, ◌^◌, ◌≤◌, ◌<◌, List, [], ◌∷◌, length, map, sym, subst, arith}
use Rattle.std.specs.Prelude.{None, drop}
use Rattle.std.specs.List.{range_with_len}
use Rattle.std.proofs.lemmas.List.{length-drop, length-map}
use Rattle.luau_tree.specs.Tree.{Block, Bind}
use Rattle.luau_tree.specs.Nodes.{binds_in, exprs_in}
use Rattle.luau_lex.specs.Tokens.{Tok}
use Rattle.luau_lex.specs.Places.{StandInOrder, first_line_len}
use Rattle.luau_lex.specs.Lexed.{Lexed}
use Rattle.luau_grammar.specs.Places.{Rules}
use Rattle.luau_grammar.specs.Modules.{IsBare}
use Rattle.grammar_laws.specs.Laws.{end_of}
use Rattle.grammar_laws.proofs.InOrder.{lexed_in_order}
use Rattle.grammar_laws.proofs.Everywhere.{bare_nested}
use Rattle.tree_numbers.specs.Numbered.{numbered}
use Rattle.tree_numbers.specs.Counting.{first}
use Rattle.tree_numbers.proofs.Counted.{counted_block}
use Rattle.luau_scope.specs.Captured.{bind_start}
use Rattle.luau_scope.specs.Laws.{AscendFrom}
use Rattle.tree_readings.proofs.Starts.{numbered_starts}
use Rattle.module_facts.specs.Ordered.{StandsInOrder}
use Rattle.module_orders.proofs.PlainStatements.{bare_plain}
use Rattle.module_orders.proofs.Orders.{Ascend, fit}
use Rattle.module_orders.proofs.Walk.{block}

-- tokens end within their text
ends_within : (ts : List Tok) (low at : ℕ) (text : List ℕ) → low ≤ at + length text → StandInOrder at text ts → end_of low ts ≤ at + length text
ends_within [] low at text l h = l
ends_within (t ∷ ts) low at text l h =
    let behind = drop (t.span.end - at) text in
    let a : at ≤ t.span.start = h.0 in
    let b : t.span.start < t.span.end = h.1 in
    let c : t.span.end ≤ at + length text = h.2 in
    let d : length behind ≡ length text - (t.span.end - at) = length-drop (t.span.end - at) text in
    let e : end_of t.span.end ts ≤ t.span.end + length behind = ends_within ts t.span.end t.span.end behind (omega arith) h.4 in
    omega arith

tokens_end_within : (text : List ℕ) (ts : List Tok) (at : ℕ) → StandInOrder at (drop at text) ts → end_of 0 ts ≤ length text
tokens_end_within text [] at h = omega arith
tokens_end_within text (t ∷ ts) at h =
    let a : at ≤ t.span.start = h.0 in
    let b : t.span.start < t.span.end = h.1 in
    let c : t.span.end ≤ at + length (drop at text) = h.2 in
    let d : length (drop at text) ≡ length text - at = length-drop at text in
    let e : end_of t.span.end ts ≤ at + length (drop at text) = ends_within (t ∷ ts) 0 at (drop at text) (omega arith) h in
    omega arith

ascend_from : (from to : ℕ) (ns : List ℕ) → Ascend from to ns → AscendFrom from ns
ascend_from from to [] a = tt
ascend_from from to (n ∷ ns) a = (a.0, ascend_from (suc n) to ns a.1)

-- numbers in a row ascend
row_ascends : (from len : ℕ) → AscendFrom from (range_with_len from len)
row_ascends from zero = tt
row_ascends from (suc len) =
    let next : from + 1 ≡ suc from = omega arith in
    (omega arith, subst (λ n. AscendFrom n (range_with_len (from + 1) len)) next (row_ascends (from + 1) len))

-- the names of a tree of tokens begin one behind the other, before the last token ends
names_ascend : (rules : Rules) (text : List ℕ) (tokens : List Tok) (bare : Block) → Lexed text tokens None → IsBare rules tokens bare
    → Ascend 0 (end_of 0 tokens) (map bind_start (binds_in (numbered bare)))
names_ascend rules text tokens bare lexed is =
    subst (Ascend 0 (end_of 0 tokens)) (sym (numbered_starts bare))
    ((block tokens bare).stands 0 (end_of 0 tokens) (bare_nested rules tokens bare (lexed_in_order text tokens None lexed) is) (bare_plain rules tokens bare is).all)

few_names : (text : List ℕ) (tokens : List Tok) (names : List Bind) → length text < 2 ^ 32 → Lexed text tokens None
    → Ascend 0 (end_of 0 tokens) (map bind_start names) → length names < 2 ^ 32
few_names text tokens names short lexed ascend =
    let a : end_of 0 tokens ≤ length text = tokens_end_within text tokens (first_line_len text) lexed.in_order in
    let b : 0 + length (map bind_start names) ≤ end_of 0 tokens = fit 0 (end_of 0 tokens) (map bind_start names) ascend in
    let c : length (map bind_start names) ≡ length names = length-map names bind_start in
    omega arith

pub stands_in_order : (rules : Rules) (text : List ℕ) (tokens : List Tok) (bare : Block) → length text < 2 ^ 32 → Lexed text tokens None
    → IsBare rules tokens bare → StandsInOrder (numbered bare)
stands_in_order rules text tokens bare short lexed is =
    let ascend = names_ascend rules text tokens bare lexed is in
    record {
      exprs = subst (AscendFrom 0) (sym (counted_block bare first).exprs) (row_ascends 0 (length (exprs_in bare)));
      binds = ascend_from 0 (end_of 0 tokens) (map bind_start (binds_in (numbered bare))) ascend;
      few = few_names text tokens (binds_in (numbered bare)) short lexed ascend;
    }
