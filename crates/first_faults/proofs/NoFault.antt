-- A text with a tree has no fault.
use Rattle.std.proofs.Common.{◌≡◌, ℕ, ◌+◌, Bool, true, false, List, [], ◌∷◌, ◌++◌, length, refl, sym, ◌∙◌, subst, inl, inr, arith, if◌then◌else◌, append_assoc, append-nil}
use Rattle.std.specs.Prelude.{Ok, Err}
use Rattle.luau_tree.specs.Tree.{Block}
use Rattle.luau_lex.specs.Tokens.{Tok}
use Rattle.luau_grammar.specs.declared.error.ParseError.{ParseError}
use Rattle.luau_grammar.specs.declared.error.ParseError.TheVariants.{Lex, NoMemory, Unexpected, UnexpectedEnd, AmbiguousCall, Nesting}
use Rattle.luau_grammar.specs.declared.symbol.Symbol.TheVariants as s
use Rattle.luau_grammar.specs.Places.{Place, sees}
use Rattle.luau_grammar.specs.Modules.{IsBare, before, strict, max_level}
use Rattle.luau_grammar.specs.Reading as read
use Rattle.luau_grammar.specs.Reading.{Setting, Outcome, and_then}
use Rattle.luau_grammar.specs.ReadPhrases as phrases
use Rattle.luau_grammar.specs.ReadModules.{module_with, readers}
use Rattle.luau_grammar.proofs.Families.{bare_is_read}
use Rattle.luau_grammar.proofs.OneTree.{at_end}
use Rattle.fault_places.specs.Faults.{IsFront, IsAmbiguous, IsTooDeep, IsFault, IsFaultAt, IsFirstFault}
use Rattle.wider_rules.specs.Order.{Ordered}
use Rattle.wider_rules.proofs.Runs.{rules_by, setting_by, bounded_by, anywhere, wider_tree}
use Rattle.wider_rules.proofs.Settled.{begin_less}
use Rattle.first_faults.proofs.Splits.{late_behind}
use Rattle.first_faults.proofs.Told.{one_line, lined, lined_calls, told}
use Rattle.first_faults.proofs.Levels.{not_deep_read, not_deep_end}

-- ---- what is read ends where the tokens do

ok_of : (o : Outcome Block) (y x : Block × Place) → o ≡ Ok y → o ≡ Ok x → y ≡ x
ok_of o y x h k = cc

ends_case : (y : Block × Place) (e : ParseError) (b : Bool) → sees s.Stop y.1 ≡ b → (x : Block × Place) → (if b then Ok (y.0, y.1) else Err e) ≡ Ok x → x.1.ahead ≡ []
ends_case y e true d x h = subst (λ (z : Block × Place). z.1.ahead ≡ []) (ok_of (Ok y) y x refl h) (at_end y.1 d)
ends_case y e false d x h = absurd (cc)

ends_in : (set : Setting) (o : Outcome Block) (x : Block × Place) → and_then o (λ b p. if sees s.Stop p then Ok (b, p) else read.refuse set p) ≡ Ok x → x.1.ahead ≡ []
ends_in set (Ok y) x h = ends_case y (read.refusal set y.1) (sees s.Stop y.1) refl x h
ends_in set (Err e) x h = absurd (cc)

pub read_ends : (set : Setting) (deep : ℕ) (ts : List Tok) (x : Block × Place) → module_with set deep (before ts) ≡ Ok x → x.1.ahead ≡ []
unfolding module_with
read_ends set deep ts x h = ends_in set (phrases.block set (readers set deep) (before ts)) x h

-- ---- no token of a text with a tree has a fault

module _ (text : List ℕ) (ts : List Tok) (order : Ordered ts) (b : Block) (tree : IsBare (strict text) ts b) where
  abbrev len : ℕ
  len = length text

  reads : (q : Place) × (told text ts ≡ Ok (b, q))
  reads = bare_is_read (setting_by (one_line text) len max_level) (bounded_by (one_line text) len max_level) (max_level + 2) (omega arith) ts b tree

  whole : (front : List Tok) (t : Tok) (behind : List Tok) → ts ≡ front ++ t ∷ behind → IsFront front t
  whole front t behind q = (
    max_level + 2,
    (
      behind,
      b,
      late_behind front t behind (subst Ordered q order),
      subst (λ z. IsBare (rules_by anywhere (max_level + 2)) z b) q
          (wider_tree (one_line text) anywhere (λ _ _ _. refl) len max_level (max_level + 2) (omega arith) ts b tree),
    ),
  )

  on_one_line : (front : List Tok) (t : Tok) (behind : List Tok) → ts ≡ front ++ t ∷ behind → IsAmbiguous text front t → ⊥
  on_one_line front t behind q k =
      k.1 (max_level + 2) (
        behind,
        b,
        late_behind front t behind (subst Ordered q order),
        subst (λ z. IsBare (rules_by (lined text t.span.start) (max_level + 2)) z b) q
            (wider_tree (one_line text) (lined text t.span.start) (lined_calls text t.span.start) len max_level (max_level + 2) (omega arith) ts b tree),
      )

  not_too_deep : (front : List Tok) (t : Tok) (behind : List Tok) → ts ≡ front ++ t ∷ behind → IsTooDeep front t behind → ⊥
  not_too_deep front t [] q k =
      let g = subst (λ z. told text z ≡ Ok (b, reads.0)) q reads.1 in
      not_deep_end text front t (subst Ordered q order) (b, reads.0) g (read_ends (setting_by (one_line text) len max_level) (max_level + 2) ts (b, reads.0) reads.1) k
  not_too_deep front t (u ∷ us) q (inl k) =
      let o = subst Ordered q order in
      let p = subst Ordered (sym (append_assoc front (t ∷ []) (u ∷ us))) o in
      let g = subst (λ z. told text z ≡ Ok (b, reads.0)) q reads.1 in
      not_deep_read text front t u us o (b, reads.0) g (read_ends (setting_by (one_line text) len max_level) (max_level + 2) ts (b, reads.0) reads.1)
      (begin_less u.span.start (u.span.start + 1) us (omega arith) (late_behind (front ++ t ∷ []) u us p)) k
  not_too_deep front t (u ∷ us) q (inr k) = k.0 (whole (front ++ t ∷ []) u us (q ∙ sym (append_assoc front (t ∷ []) (u ∷ us))))

  none_at : (front : List Tok) (t : Tok) (behind : List Tok) → ts ≡ front ++ t ∷ behind → (e : ParseError) → IsFaultAt text front t behind e → ⊥
  none_at front t behind q (Unexpected n) h = h.1 (whole front t behind q)
  none_at front t behind q (UnexpectedEnd n) h = h
  none_at front t behind q (AmbiguousCall n) h = on_one_line front t behind q h.1
  none_at front t behind q (Nesting n) h = not_too_deep front t behind q h.3
  none_at front t behind q (Lex d) h = h
  none_at front t behind q NoMemory h = h

  none_behind : (front us : List Tok) (e : ParseError) → ts ≡ front ++ us → IsFirstFault text front us e → ⊥
  none_behind front [] e q h =
      h.1 (
        max_level + 2,
        b,
        subst (λ z. IsBare (rules_by anywhere (max_level + 2)) z b) (q ∙ append-nil front)
            (wider_tree (one_line text) anywhere (λ _ _ _. refl) len max_level (max_level + 2) (omega arith) ts b tree),
      )
  none_behind front (t ∷ us) e q (inl h) = none_at front t us q e h
  none_behind front (t ∷ us) e q (inr h) = none_behind (front ++ t ∷ []) us e (q ∙ sym (append_assoc front (t ∷ []) us)) h.1

  pub no_fault_at_all : (e : ParseError) → IsFault text ts e → ⊥
  no_fault_at_all e h = none_behind [] ts e refl h
