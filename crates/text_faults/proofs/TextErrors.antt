-- The error of a text, by its tokens.
use Rattle.std.proofs.Common.{◌≡◌, ℕ, List, [], refl, sym, ◌∙◌, ap, subst, inl, inr, Some, None, ◌+◌, length, arith}
use Rattle.std.specs.Prelude.{Result, Ok, Err}
use Rattle.luau_tree.specs.Tree.{Block}
use Rattle.luau_lex.specs.Tokens.{Tok, tokens_of}
use Rattle.luau_lex.specs.declared.token.LexError.{LexError}
use Rattle.luau_lex.specs.Lexed.{Lexed}
use Rattle.luau_lex.proofs.LawLemmas.{tokens_are_lexed, fault_is_lexed, one_way}
use Rattle.luau_grammar.specs.declared.error.ParseError.{ParseError}
use Rattle.luau_grammar.specs.declared.error.ParseError.TheVariants.{Lex, NoMemory, Unexpected, UnexpectedEnd, AmbiguousCall, Nesting}
use Rattle.luau_grammar.specs.Reading.{Outcome}
use Rattle.module_reader.specs.Texts.{read_module, tree_in, tree_by}
use Rattle.module_reader.specs.Parsed.{HasBareTree}
use Rattle.luau_parse.specs.Texts.{with_numbers, tree_of}
use Rattle.luau_parse.specs.Parsed.{HasTree}
use Rattle.luau_grammar.specs.Modules.{max_level}
use Rattle.luau_grammar.specs.ReadModules.{max_depth}
use Rattle.luau_grammar.proofs.Families.{read_is_bare}
use Rattle.fault_places.proofs.OneFault.{one_fault}
use Rattle.wider_rules.proofs.Runs.{stands_among, setting_by, bounded_by}
use Rattle.first_faults.proofs.Told.{one_line}
use Rattle.first_faults.proofs.TheFault.{unexpected_fault, end_fault, ambiguous_fault, deep_fault, lexed_order}
use Rattle.first_faults.proofs.NoFault.{no_fault_at_all}
use Rattle.fault_places.specs.Faults.{IsFault}
use Rattle.text_faults.specs.TextFaults.{IsFaultOf}

error_eq : (o : Result Block ParseError) (d e : ParseError) → o ≡ Err d → o ≡ Err e → d ≡ e
error_eq o d e h k = cc

same_fault : (f g : LexError) → Lex f ≡ Lex g → f ≡ g
same_fault f g e = cc

ok_same : (o : Result Block ParseError) (x b : Block) → o ≡ Ok x → o ≡ Ok b → x ≡ b
ok_same o x b h k = cc

-- a result that is an error was one before
unnumbered : (o : Result Block ParseError) (e : ParseError) → with_numbers o ≡ Err e → o ≡ Err e
unnumbered (Ok b) e h = absurd (cc)
unnumbered (Err d) e h = h

unread : (o : Outcome Block) (e : ParseError) → tree_in o ≡ Err e → o ≡ Err e
unread (Ok x) e h = absurd (cc)
unread (Err d) e h = ap (λ z. Err z) (error_eq (Err d) d e refl h)

module _ (text : List ℕ) where
  -- the tokens of the text, and what the parser of modules gives for them
  by_tokens : (r : Result (List Tok) LexError) (e : ParseError) → tokens_of text ≡ r → ((fault : LexError) → e ≡ Lex fault → ⊥) → tree_by text r ≡ Err e
      → (ts : List Tok) × Lexed text ts None × (read_module text ts ≡ Err e)
  by_tokens (Err fault) e h n k = absurd (n fault (sym (error_eq (Err (Lex fault)) (Lex fault) e refl k)))
  by_tokens (Ok ts) e h n k = (ts, tokens_are_lexed text ts h, unread (read_module text ts) e k)

  lex_of : (r : Result (List Tok) LexError) (fault : LexError) → tree_by text r ≡ Err (Lex fault) → r ≡ Err fault
  lex_of (Err f) fault k = ap (λ z. Err z) (same_fault f fault (error_eq (Err (Lex f)) (Lex f) (Lex fault) refl k))
  lex_of (Ok ts) fault k =
      absurd (stands_among (one_line text) (one_line text) (λ _ _ z. z) (length text) max_level (max_level + 2) (omega arith) ts (Lex fault) (unread (read_module text ts) (Lex fault) k))

  pub lex_fault_of : (fault : LexError) → tree_of text ≡ Err (Lex fault) → IsFaultOf text (Lex fault)
  lex_fault_of fault h =
      let k = fault_is_lexed text fault (lex_of (tokens_of text) fault (unnumbered (tree_by text (tokens_of text)) (Lex fault) h)) in
      inl (fault, k.0, k.1, refl)

  pub unexpected_of : (at : ℕ) → tree_of text ≡ Err (Unexpected at) → IsFaultOf text (Unexpected at)
  unexpected_of at h =
      let k = by_tokens (tokens_of text) (Unexpected at) refl (λ f e. absurd (cc)) (unnumbered (tree_by text (tokens_of text)) (Unexpected at) h) in
      inr (k.0, k.1, unexpected_fault text k.0 (lexed_order text k.0 None k.1) at k.2)

  pub end_of : (at : ℕ) → tree_of text ≡ Err (UnexpectedEnd at) → IsFaultOf text (UnexpectedEnd at)
  end_of at h =
      let k = by_tokens (tokens_of text) (UnexpectedEnd at) refl (λ f e. absurd (cc)) (unnumbered (tree_by text (tokens_of text)) (UnexpectedEnd at) h) in
      inr (k.0, k.1, end_fault text k.0 (lexed_order text k.0 None k.1) at k.2)

  pub ambiguous_of : (at : ℕ) → tree_of text ≡ Err (AmbiguousCall at) → IsFaultOf text (AmbiguousCall at)
  ambiguous_of at h =
      let k = by_tokens (tokens_of text) (AmbiguousCall at) refl (λ f e. absurd (cc)) (unnumbered (tree_by text (tokens_of text)) (AmbiguousCall at) h) in
      inr (k.0, k.1, ambiguous_fault text k.0 (lexed_order text k.0 None k.1) at k.2)

  pub nesting_of : (at : ℕ) → tree_of text ≡ Err (Nesting at) → IsFaultOf text (Nesting at)
  nesting_of at h =
      let k = by_tokens (tokens_of text) (Nesting at) refl (λ f e. absurd (cc)) (unnumbered (tree_by text (tokens_of text)) (Nesting at) h) in
      inr (k.0, k.1, deep_fault text k.0 (lexed_order text k.0 None k.1) at k.2)

  pub never_memory : tree_of text ≡ Err NoMemory → ⊥
  never_memory h =
      let k = by_tokens (tokens_of text) NoMemory refl (λ f e. absurd (cc)) (unnumbered (tree_by text (tokens_of text)) NoMemory h) in
      stands_among (one_line text) (one_line text) (λ _ _ z. z) (length text) max_level (max_level + 2) (omega arith) k.0 NoMemory k.2

  pub error_is_fault : (e : ParseError) → tree_of text ≡ Err e → IsFaultOf text e
  error_is_fault (Lex fault) h = lex_fault_of fault h
  error_is_fault (Unexpected at) h = unexpected_of at h
  error_is_fault (UnexpectedEnd at) h = end_of at h
  error_is_fault (AmbiguousCall at) h = ambiguous_of at h
  error_is_fault (Nesting at) h = nesting_of at h
  error_is_fault NoMemory h = absurd (never_memory h)

  -- ---- one fault, and none of a text with a tree

  same_some : (f g : LexError) → Some f ≡ Some g → f ≡ g
  same_some f g e = cc

  never_none : (f : LexError) → Some f ≡ None → ⊥
  never_none f e = absurd (cc)

  pub one_fault_of : (e f : ParseError) → IsFaultOf text e → IsFaultOf text f → e ≡ f
  one_fault_of e f (inl h) (inl k) = h.3 ∙ (ap Lex (same_some h.0 k.0 (one_way text h.1 k.1 (Some h.0) (Some k.0) h.2 k.2).1) ∙ sym k.3)
  one_fault_of e f (inl h) (inr k) = absurd (never_none h.0 (one_way text h.1 k.0 (Some h.0) None h.2 k.1).1)
  one_fault_of e f (inr h) (inl k) = absurd (never_none k.0 (one_way text k.1 h.0 (Some k.0) None k.2 h.1).1)
  one_fault_of e f (inr h) (inr k) =
      one_fault text h.0 [] e f h.2 (subst (λ z. IsFault text z f) (sym (one_way text h.0 k.0 None None h.1 k.1).0) k.2)

  no_fault_of_bare : (b : Block) (e : ParseError) → HasBareTree text b → IsFaultOf text e → ⊥
  no_fault_of_bare b e h (inl k) = never_none k.0 (one_way text k.1 h.0 (Some k.0) None k.2 h.1).1
  no_fault_of_bare b e h (inr k) =
      no_fault_at_all text h.0 (lexed_order text h.0 None h.1) b h.2 e (subst (λ z. IsFault text z e) (sym (one_way text h.0 k.0 None None h.1 k.1).0) k.2)

  pub no_fault_of : (b : Block) (e : ParseError) → HasTree text b → IsFaultOf text e → ⊥
  no_fault_of b e h k = no_fault_of_bare h.0 e h.1 k

  -- ---- the fault is the error

  bare_of : (ts : List Tok) → Lexed text ts None → (o : Outcome Block) → read_module text ts ≡ o → (b : Block) → tree_in o ≡ Ok b → HasBareTree text b
  bare_of ts h (Ok x) e b k =
      subst (λ z. HasBareTree text z) (ok_same (Ok x.0) x.0 b refl k)
      (ts, h, read_is_bare (setting_by (one_line text) (length text) max_level) (bounded_by (one_line text) (length text) max_level) max_depth ts x.0 x.1 e)
  bare_of ts h (Err d) e b k = absurd (cc)

  by_result : (r : Result (List Tok) LexError) (b : Block) → tokens_of text ≡ r → tree_by text r ≡ Ok b → HasBareTree text b
  by_result (Ok ts) b e h = bare_of ts (tokens_are_lexed text ts e) (read_module text ts) refl b h
  by_result (Err fault) b e h = absurd (cc)

  numbered_none : (o : Result Block ParseError) → tree_by text (tokens_of text) ≡ o → (e : ParseError) → IsFaultOf text e → with_numbers o ≡ Err e
  numbered_none (Ok b) q e h = absurd (no_fault_of_bare b e (by_result (tokens_of text) b refl q) h)
  numbered_none (Err d) q e h = ap (λ z. Err z) (one_fault_of d e (error_is_fault d (ap with_numbers q)) h)

  pub fault_is_error : (e : ParseError) → IsFaultOf text e → tree_of text ≡ Err e
  fault_is_error e h = numbered_none (tree_by text (tokens_of text)) refl e h
