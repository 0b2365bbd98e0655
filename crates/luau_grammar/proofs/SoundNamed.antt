-- What the parsers of functions, locals and aliases read is in the grammar.
use Rattle.std.proofs.Common.{◌≡◌, ℕ, zero, suc, ◌⊎◌, Bool, true, false, List, [], ◌∷◌, inl, inr, refl, ◌∙◌, ap, subst}
use Rattle.std.specs.Prelude.{None, codes}
use Rattle.luau_tree.specs.Tree.{Stat, Expr, Exprs, Bind}
use Rattle.luau_tree.specs.Tree as tree
use Rattle.luau_tree.specs.View.{binds}
use Rattle.luau_grammar.specs.declared.symbol.Symbol.TheVariants as s
use Rattle.luau_grammar.specs.Places.{Place, Rules, symbol, sees, sees_word, start_of, over, at_level, Takes, TakesName}
use Rattle.luau_grammar.specs.Phrases.{Phrases}
use Rattle.luau_grammar.specs.Expressions as expressions
use Rattle.luau_grammar.specs.Statements.{IsPath, IsMethodName, AreBinds, AreValues, IsTypeWord, IsStatement}
use Rattle.luau_grammar.specs.Reading.{Setting, Readers}
use Rattle.luau_grammar.specs.ReadExpressions as values
use Rattle.luau_grammar.specs.ReadStatements as code
use Rattle.luau_grammar.proofs.Agreement.{Sound, SoundPhrases}
use Rattle.luau_grammar.proofs.Primitives.{takes_taken, name_token, Reads, reads_ok, reads_if, reads_then, reads_weaker, expect_sound, next_word, name_sound, raise_sound}
use Rattle.luau_grammar.proofs.SoundLists.{Separated, repeat_sound, separated_sound}
use Rattle.luau_grammar.proofs.StatementParts.{SoundParts}

pub attributes_level : (rules : Rules) (inner : Phrases) (n : ℕ) (p q : Place) → expressions.AreAttributes rules inner n p q → q.level ≡ p.level
attributes_level rules inner zero p q h = ap (λ z. z.level) h.1
attributes_level rules inner (suc n) p q h =
    attributes_level rules inner n h.1 q h.5 ∙ (takes_taken rules h.0 h.1 s.Name (name_token rules h.0 h.1 h.2 h.4)).level
    ∙ (takes_taken rules p h.0 s.AtSign h.3).level

module _ (set : Setting) (inner : Phrases) (given : Readers) (held : SoundPhrases set inner given) (parts : SoundParts set inner given) where
  name_expression_sound : (p : Place) → Reads (IsPath set.rules inner p) (values.name_expression set given p)
  unfolding values.name_expression
  name_expression_sound p = reads_then (name_sound set p) (λ q n h. reads_ok _ (refl, refl, h))

  index_sound : (p : Place) (base : Expr)
      → Sound (λ a q e. IsPath set.rules inner p a base → IsPath set.rules inner p q e) (values.index set given (start_of p) base)
  unfolding values.index
  index_sound p base a =
      reads_then (expect_sound set s.Dot a) (λ b _ t.
      reads_then (raise_sound set b) (λ c _ r.
      reads_then (name_sound set c) (λ q n h.
      reads_ok _ (λ i. (refl, refl, (a, b, i, t, subst (λ z. TakesName set.rules z q n) r.1 h))))))

  -- what goes on as a path is one, and ends where no `.` comes next
  abbrev GoesOn : Place → Expr → Place → Place → Expr → Type 0
  GoesOn p base a q e = IsPath set.rules inner p a base → IsPath set.rules inner p q e × (sees s.Dot q ≡ false)

  path_sound : Sound (λ p q e. IsPath set.rules inner p q e × (sees s.Dot q ≡ false)) (code.path set given)
  unfolding code.path code.path_name
  path_sound p =
      reads_then (name_expression_sound p) (λ a first h.
      reads_weaker
      (repeat_sound set (λ _ z. sees s.Dot z) (values.index set given (start_of p))
      (λ base b q e. IsPath set.rules inner p b base → IsPath set.rules inner p q e) (GoesOn p)
      (λ base b e i. (i, e)) (λ x y z b c q go one more i. more (one i)) (index_sound p) first a)
      (λ q e k. k h))

  method_name_sound : (p : Place) → Reads (λ q m. IsMethodName set.rules inner p q m.name m.span) (code.method_name set given p)
  unfolding code.method_name start_of
  method_name_sound p =
      reads_if (sees s.Colon p)
      (λ _.
      reads_then (expect_sound set s.Colon p) (λ a _ t.
      reads_then (raise_sound set a) (λ b _ r.
      reads_then (name_sound set b) (λ q n h.
      reads_ok _ (a, t, subst (λ z. TakesName set.rules z q n) r.1 h, ap (λ z. over z q) r.1)))))
      (λ e. reads_ok _ (e, refl))

  pub function_sound : (n : ℕ) (p a : Place) → expressions.AreAttributes set.rules inner n p a
      → Reads (IsStatement set.rules inner p) (code.function_statement set given (start_of p) a)
  unfolding code.function_statement
  function_sound n p a i =
      reads_then (expect_sound set s.Function a) (λ b _ t.
      reads_then (path_sound b) (λ c way h.
      reads_then (method_name_sound c) (λ d m k.
      reads_then (parts.body m.span (at_level b.level d)) (λ q body l.
      reads_ok _ (
        refl,
        (
          n,
          a,
          b,
          c,
          d,
          m.span,
          i,
          t,
          h.0,
          h.1,
          k,
          subst (λ level. expressions.IsBody set.rules inner m.span (at_level level d) q body)
              ((takes_taken set.rules a b s.Function t).level ∙ attributes_level set.rules inner n p a i) l,
        ),
      )))))

  pub local_function_sound : (n : ℕ) (p a b : Place) → expressions.AreAttributes set.rules inner n p a → Takes set.rules s.Local a b
      → Reads (IsStatement set.rules inner p) (code.local_function set given (start_of p) b)
  unfolding code.local_function
  local_function_sound n p a b i t =
      reads_then (expect_sound set s.Function b) (λ c _ u.
      reads_then (name_sound set c) (λ d m h.
      reads_then (parts.body None d) (λ q body k.
      reads_ok _ (refl, (n, a, b, c, d, i, t, u, h, refl, k)))))

  values_sound : (p : Place) → Reads (AreValues set.rules inner p) (code.maybe_values set given p)
  unfolding code.maybe_values
  values_sound p =
      reads_if (sees s.Assign p)
      (λ _.
      reads_then (expect_sound set s.Assign p) (λ a _ t.
      reads_then (parts.several a) (λ q es h.
      reads_ok _ (inr (a, t, h)))))
      (λ e. reads_ok _ (inl (e, refl, refl)))

  binds_of : (p q : Place) (xs : List Bind) → Separated set.rules (expressions.IsBind set.rules inner) p q xs → AreBinds set.rules inner p q (binds xs)
  binds_of p q [] h = absurd h
  binds_of p q (x ∷ xs) h = (x, xs, h, refl)

  local_names_sound : (p a : Place) → Takes set.rules s.Local p a → sees s.Function a ≡ false
      → Reads (IsStatement set.rules inner p) (code.local_names set given (start_of p) a)
  unfolding code.local_names
  local_names_sound p a t e =
      reads_then (separated_sound set (expressions.IsBind set.rules inner) (values.bind set given) parts.bind a) (λ b names h.
      reads_then (values_sound b) (λ q es k.
      reads_ok _ (refl, (a, b, t, e, binds_of a b names h, k))))

  pub local_sound : (p : Place) → sees s.AtSign p ≡ false → Reads (IsStatement set.rules inner p) (code.local_statement set given (start_of p) p)
  unfolding code.local_statement
  local_sound p n =
      reads_then (expect_sound set s.Local p) (λ a _ t.
      reads_if (sees s.Function a) (λ _. local_function_sound 0 p p a (n, refl) t) (λ e. local_names_sound p a t e))

  pub attributed_sound : (p : Place) → Reads (IsStatement set.rules inner p) (code.attributed set given (start_of p) p)
  unfolding code.attributed
  attributed_sound p =
      reads_then (parts.attributes p) (λ a _ h.
      reads_if (sees s.Local a)
      (λ _. reads_then (expect_sound set s.Local a) (λ b _ t. local_function_sound h.0 p a b h.1 t))
      (λ _. function_sound h.0 p a h.1))

  alias_sound : (p a b : Place) (exported : Bool) → IsTypeWord set.rules inner p b exported
      → Reads (IsStatement set.rules inner p) (code.alias set given (start_of p) exported b)
  unfolding code.alias
  alias_sound p a b exported w =
      reads_then (name_sound set b) (λ c n h.
      reads_then (parts.generics true c) (λ d gs k.
      reads_then (expect_sound set s.Assign d) (λ e _ t.
      reads_then (held.typ None e) (λ q ty l.
      reads_ok _ (refl, (b, c, d, e, w, h, k, t, l))))))

  type_function_sound : (p b : Place) (exported : Bool) → IsTypeWord set.rules inner p b exported
      → Reads (IsStatement set.rules inner p) (code.type_function set given (start_of p) exported b)
  unfolding code.type_function
  type_function_sound p b exported w =
      reads_then (expect_sound set s.Function b) (λ c _ t.
      reads_then (name_sound set c) (λ d n h.
      reads_then (parts.body None d) (λ q body k.
      reads_ok _ (refl, (b, c, d, w, t, h, k)))))

  pub type_sound : (p a : Place) (exported : Bool) → sees_word (codes "type") a ≡ true
      → ((b : Place) → TakesName set.rules a b (codes "type") → IsTypeWord set.rules inner p b exported)
      → Reads (IsStatement set.rules inner p) (code.type_statement set given (start_of p) exported a)
  unfolding code.type_statement
  type_sound p a exported e w =
      reads_then (next_word set (codes "type") a e) (λ b t n.
      reads_if (sees s.Function b) (λ _. type_function_sound p b exported (w b n)) (λ _. alias_sound p a b exported (w b n)))

  -- `[exps]`, where an expression may begin
  abbrev AreReturned : Place → Place → Exprs → Type 0
  AreReturned a q es =
      ((expressions.begins (symbol a) ≡ false) × (q ≡ a) × (es ≡ tree.no_exprs))
      ⊎ ((expressions.begins (symbol a) ≡ true) × expressions.AreExpressions set.rules inner a q es)

  returned_sound : Sound AreReturned (code.maybe_expressions set given)
  unfolding code.maybe_expressions
  returned_sound a =
      reads_if (expressions.begins (symbol a))
      (λ e. reads_then (parts.several a) (λ q es h. reads_ok _ (inr (e, h))))
      (λ e. reads_ok _ (inl (e, refl, refl)))

  pub return_sound : (p : Place) → Reads (IsStatement set.rules inner p) (code.return_statement set given (start_of p) p)
  unfolding code.return_statement
  return_sound p =
      reads_then (expect_sound set s.Return p) (λ a _ t.
      reads_then (returned_sound a) (λ q es h. reads_ok _ (refl, (a, t, h))))
