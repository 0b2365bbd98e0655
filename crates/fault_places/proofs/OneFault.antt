-- A text has at most one fault: at a token the kinds exclude one another, and behind it no fault stands at it.
use Rattle.std.proofs.Common.{◌≡◌, ℕ, List, [], ◌∷◌, ◌++◌, length, sym, ◌∙◌, ap, subst, inl, inr, append_assoc, append-nil}
use Rattle.luau_lex.specs.Tokens.{Tok}
use Rattle.luau_grammar.specs.declared.error.ParseError.{ParseError}
use Rattle.luau_grammar.specs.declared.error.ParseError.TheVariants.{Lex, NoMemory, Unexpected, UnexpectedEnd, AmbiguousCall, Nesting}
use Rattle.fault_places.specs.Faults.{IsFaultAt, HasNoFaultAt, IsFirstFault, HasTree}

module _ (text : List ℕ) (front : List Tok) (t : Tok) (behind : List Tok) where
  one_at : (e f : ParseError) → IsFaultAt text front t behind e → IsFaultAt text front t behind f → e ≡ f
  one_at (AmbiguousCall a) (AmbiguousCall b) h k = ap (λ z. AmbiguousCall z) (h.0 ∙ sym k.0)
  one_at (AmbiguousCall a) (Nesting b) h k = absurd (k.2 h.1)
  one_at (AmbiguousCall a) (Unexpected b) h k = absurd (k.1 h.1.0)
  one_at (Nesting a) (AmbiguousCall b) h k = absurd (h.2 k.1)
  one_at (Nesting a) (Nesting b) h k = ap (λ z. Nesting z) (h.0 ∙ sym k.0)
  one_at (Nesting a) (Unexpected b) h k = absurd (k.1 h.1)
  one_at (Unexpected a) (AmbiguousCall b) h k = absurd (h.1 k.1.0)
  one_at (Unexpected a) (Nesting b) h k = absurd (h.1 k.1)
  one_at (Unexpected a) (Unexpected b) h k = ap (λ z. Unexpected z) (h.0 ∙ sym k.0)
  one_at e (UnexpectedEnd b) h k = absurd k
  one_at e (Lex b) h k = absurd k
  one_at e NoMemory h k = absurd k
  one_at (UnexpectedEnd a) f h k = absurd h
  one_at (Lex a) f h k = absurd h
  one_at NoMemory f h k = absurd h

  none_at : (e : ParseError) → IsFaultAt text front t behind e → HasNoFaultAt text front t behind → ⊥
  none_at (AmbiguousCall a) h k = k.1 h.1
  none_at (Nesting a) h k = k.2 h.3
  none_at (Unexpected a) h k = h.1 k.0
  none_at (UnexpectedEnd a) h k = h
  none_at (Lex a) h k = h
  none_at NoMemory h k = h

pub one_fault : (text : List ℕ) (ts front : List Tok) (e f : ParseError) → IsFirstFault text front ts e → IsFirstFault text front ts f → e ≡ f
one_fault text [] front e f h k = h.0 ∙ sym k.0
one_fault text (t ∷ ts) front e f (inl h) (inl k) = one_at text front t ts e f h k
one_fault text (t ∷ ts) front e f (inl h) (inr k) = absurd (none_at text front t ts e h k.0)
one_fault text (t ∷ ts) front e f (inr h) (inl k) = absurd (none_at text front t ts f k h.0)
one_fault text (t ∷ ts) front e f (inr h) (inr k) = one_fault text ts (front ++ t ∷ []) e f h.1 k.1

end_of : (a b : ℕ) → UnexpectedEnd a ≡ UnexpectedEnd b → a ≡ b
end_of a b e = cc

pub at_the_end : (text : List ℕ) (ts front : List Tok) (at : ℕ) → IsFirstFault text front ts (UnexpectedEnd at) → at ≡ length text
at_the_end text [] front at h = end_of at (length text) h.0
at_the_end text (t ∷ ts) front at (inl h) = absurd h
at_the_end text (t ∷ ts) front at (inr h) = at_the_end text ts (front ++ t ∷ []) at h.1

pub no_tree : (text : List ℕ) (ts front : List Tok) (at : ℕ) → IsFirstFault text front ts (UnexpectedEnd at) → HasTree (front ++ ts) → ⊥
no_tree text [] front at h tree = h.1 (subst HasTree (append-nil front) tree)
no_tree text (t ∷ ts) front at (inl h) tree = absurd h
no_tree text (t ∷ ts) front at (inr h) tree = no_tree text ts (front ++ t ∷ []) at h.1 (subst HasTree (sym (append_assoc front (t ∷ []) ts)) tree)
