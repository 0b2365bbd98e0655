-- The phrases that hold one another, at each depth, and what follows for modules.
use Rattle.std.proofs.Common.{◌≡◌, ℕ, zero, suc, ◌≤◌, ◌<◌, List, [], ◌∷◌, length, inl, inr, sym, ap, subst, slice_index_or, arith}
use Rattle.std.specs.Prelude.{Option, Some, None}
use Rattle.luau_tree.specs.Tree.{Block}
use Rattle.luau_lex.specs.Tokens.{Tok}
use Rattle.luau_grammar.specs.Places.{Place, Rules, first_start, raised}
use Rattle.luau_grammar.specs.Phrases.{Listed}
use Rattle.luau_grammar.specs.Modules.{IsBare, phrases, before}
use Rattle.grammar_laws.specs.Outlines.{Outline, no_spans, more_spans, of_expr, of_type, of_block}
use Rattle.grammar_laws.specs.Laws.{AreInOrder, AreNested, end_of}
use Rattle.grammar_laws.proofs.Pieces as piece
use Rattle.grammar_laws.proofs.Front.{Front, Held}
use Rattle.grammar_laws.proofs.WrittenTypes as written
use Rattle.grammar_laws.proofs.Values as values
use Rattle.grammar_laws.proofs.Statements as statements

raised_front : (ts : List Tok) (begun : Option Listed) (r p : Place) → Front ts begun r p → Front ts begun r (raised p)
raised_front ts None r p f = f
raised_front ts (Some l) r p f = f

held_at : (ts : List Tok) (rules : Rules) (deep : ℕ) → Held ts (phrases rules deep)
held_at ts rules zero = record {
  exp = λ p q e h. absurd h;
  typ = λ begun r p q t f h. absurd h;
  block = λ p q b h. absurd h;
}
held_at ts rules (suc deep) =
    let below = held_at ts rules deep in
    let inner = phrases rules deep in
    record {
      exp = λ p q e h. piece.leveled ts p h.0 q p.level (of_expr e) h.2 (values.whole ts rules inner below (raised p) h.0 e h.1);
      typ = λ begun r p q t f h.
          piece.leveled ts r h.0 q p.level (of_type t) h.2
          (written.whole ts rules inner below begun r (raised p) h.0 t (raised_front ts begun r p f) h.1);
      block = λ p q b h. piece.maybe_leveled ts p h.0 q p.level (of_block b) h.2 (statements.whole ts rules inner below (raised p) h.0 b h.1);
    }

-- each token ends where the last one ends, or before that
end_forward : (us : List Tok) (at : ℕ) → AreInOrder at us → at ≤ end_of at us
end_forward [] at h = omega arith
end_forward (t ∷ us) at h =
    let a : at ≤ t.span.start = h.0 in
    let b : t.span.start < t.span.end = h.1 in
    let c : t.span.end ≤ end_of t.span.end us = end_forward us t.span.end h.2 in
    omega arith

ends_within : (us : List Tok) (at k : ℕ) (x : Tok) → AreInOrder at us → k < length us → slice_index_or us k x ≡ x → x.span.end ≤ end_of at us
ends_within [] at k x h l e = absurd (omega arith)
ends_within (t ∷ us) at zero x h l e =
    let same : t.span.end ≡ x.span.end = ap (λ (z : Tok). z.span.end) e in
    let c : t.span.end ≤ end_of t.span.end us = end_forward us t.span.end h.2 in
    omega arith
ends_within (t ∷ us) at (suc k) x h l e = ends_within us t.span.end k x h.2 (omega arith) e

nested_raise : (ts : List Tok) (from to high : ℕ) (o : Outline) → to ≤ high → AreNested ts from to o → AreNested ts from high o
nested_raise ts from to high no_spans l n = let m : from ≤ to = n in omega arith
nested_raise ts from to high (more_spans span inside behind) l n = (n.0, n.1, n.2, nested_raise ts span.end to high behind l n.3)

nested_by : (ts us : List Tok) (to : ℕ) (o : Outline) → AreInOrder 0 ts → piece.Either ts ts 0 us to o → AreNested ts 0 (end_of 0 ts) o
nested_by ts us to o h (inl e) = subst (AreNested ts 0 (end_of 0 ts)) (sym e.2) (end_forward ts 0 h)
nested_by ts us to o h (inr x) =
    let last = x.ends in
    let within : last.1.span.end ≤ end_of 0 ts = ends_within ts 0 last.0 last.1 h last.2 last.3 in
    let same : last.1.span.end ≡ to = last.4 in
    nested_raise ts 0 to (end_of 0 ts) o (omega arith) (piece.nested_lower ts 0 (first_start ts) to o (omega arith) x.nested)

pub bare_nested : (rules : Rules) (ts : List Tok) (b : Block) → AreInOrder 0 ts → IsBare rules ts b → AreNested ts 0 (end_of 0 ts) (of_block b)
bare_nested rules ts b h is =
    let whole = (held_at ts rules is.0).block (before ts) is.1 b is.2 in
    nested_by ts is.1.ahead is.1.last (of_block b) h (whole (piece.stand ts ts 0 (λ P i. i) h))
