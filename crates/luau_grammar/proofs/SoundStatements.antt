-- What the parsers of statements read is in the grammar: all but names that may be words, and blocks.
use Rattle.std.proofs.Common.{◌≡◌, true, false, List, [], ◌∷◌, ◌++◌, refl, sym, ◌∙◌, ap, subst, append_assoc, append-nil}
use Rattle.std.specs.Prelude.{Option, Some, None}
use Rattle.luau_tree.specs.declared.names.BinOp.{BinOp}
use Rattle.luau_tree.specs.Tree.{Block, Expr, Bind}
use Rattle.luau_tree.specs.View.{exprs, binds, arms}
use Rattle.luau_grammar.specs.declared.symbol.Symbol.{Symbol}
use Rattle.luau_grammar.specs.declared.symbol.Symbol.TheVariants as s
use Rattle.luau_grammar.specs.Places.{Place, symbol, sees, start_of, Takes}
use Rattle.luau_grammar.specs.Operators.{compound_of}
use Rattle.luau_grammar.specs.Phrases.{Phrases}
use Rattle.luau_grammar.specs.Expressions as expressions
use Rattle.luau_grammar.specs.Statements.{is_variable, is_call, sees_statement_word, IsOwnPrefix, IsVariable, AreArms, IsElse, IsDo, IsStep, IsStatement}
use Rattle.luau_grammar.specs.Reading.{Setting, Readers}
use Rattle.luau_grammar.specs.ReadExpressions as values
use Rattle.luau_grammar.specs.ReadStatements as code
use Rattle.luau_grammar.proofs.Agreement.{SoundPhrases}
use Rattle.luau_grammar.proofs.Primitives.{Reads, reads_ok, reads_err, reads_if, reads_then, next_symbol, next_sound, expect_sound}
use Rattle.luau_grammar.proofs.SoundLists.{Adds, repeat_sound, separated_from_sound, separated_join}
use Rattle.luau_grammar.proofs.StatementParts.{SoundParts}

module _ (set : Setting) (inner : Phrases) (given : Readers) (held : SoundPhrases set inner given) (parts : SoundParts set inner given) where
  pub own_prefix_sound : (p : Place) → Reads (IsOwnPrefix set.rules inner p) (code.own_prefix set given p)
  unfolding code.own_prefix
  own_prefix_sound p =
      reads_then (parts.prefix p) (λ a e h. reads_ok _ (a, h.0, h.1, refl))

  variable_sound : (p : Place) → Reads (IsVariable set.rules inner p) (code.variable set given p)
  unfolding code.variable
  variable_sound p =
      reads_then (own_prefix_sound p) (λ a e h. reads_if (is_variable e) (λ v. reads_ok _ (h, v)) (λ _. reads_err _))

  assign_sound : (p a : Place) (first : Expr) → sees_statement_word p ≡ false → IsVariable set.rules inner p a first
      → Reads (IsStatement set.rules inner p) (code.assign set given (start_of p) first a)
  unfolding code.assign
  assign_sound p a first w i =
      reads_then (separated_from_sound set (IsVariable set.rules inner) (code.variable set given) variable_sound (first ∷ []) a) (λ b targets h.
      reads_then (expect_sound set s.Assign b) (λ c _ t.
      reads_then (parts.several c) (λ d es k.
      reads_ok _ (refl, (w, (b, c, first, h.0, separated_join set.rules (IsVariable set.rules inner) h.0 p a b first i h.2, t, k, ap exprs h.1))))))

  compound_sound : (p a : Place) (target : Expr) (op : BinOp) → sees_statement_word p ≡ false → IsVariable set.rules inner p a target
      → compound_of (symbol a) ≡ Some op → Reads (IsStatement set.rules inner p) (code.compound set given (start_of p) target op a)
  unfolding code.compound Takes
  compound_sound p a target op w i e =
      reads_then (next_sound set a) (λ b t n.
      reads_then (held.exp b) (λ c v h.
      reads_ok _ (refl, (w, a, b, symbol a, i, e, (t, sym (next_symbol set.rules a b t n), n), h))))

  prefix_by_sound : (p a : Place) (e : Expr) (op : Option BinOp) → sees_statement_word p ≡ false → IsOwnPrefix set.rules inner p a e
      → compound_of (symbol a) ≡ op → Reads (IsStatement set.rules inner p) (code.prefix_by set given (start_of p) e op a)
  prefix_by_sound p a e (Some op) w i c = reads_if (is_variable e) (λ v. compound_sound p a e op w (i, v) c) (λ _. reads_err _)
  prefix_by_sound p a e None w i c =
      reads_if (is_variable e) (λ v. assign_sound p a e w (i, v)) (λ _.
      reads_if (is_call e) (λ k. reads_ok _ (refl, (w, i, k, c))) (λ _. reads_err _))

  pub prefix_statement_sound : (p : Place) → sees_statement_word p ≡ false
      → Reads (IsStatement set.rules inner p) (code.prefix_statement set given (start_of p) p)
  unfolding code.prefix_statement code.behind_prefix
  prefix_statement_sound p w =
      reads_then (own_prefix_sound p) (λ a e i. prefix_by_sound p a e (compound_of (symbol a)) w i refl)

  do_block_sound : (p : Place) → Reads (IsDo set.rules inner p) (code.do_block set given p)
  unfolding code.do_block
  do_block_sound p =
      reads_then (expect_sound set s.Do p) (λ a _ t.
      reads_then (held.block a) (λ c b h.
      reads_then (expect_sound set s.End c) (λ q _ e.
      reads_ok _ (a, c, t, h, e))))

  pub do_sound : (p : Place) → Reads (IsStatement set.rules inner p) (code.do_statement set given (start_of p) p)
  unfolding code.do_statement
  do_sound p = reads_then (do_block_sound p) (λ q b h. reads_ok _ (refl, h))

  pub while_sound : (p : Place) → Reads (IsStatement set.rules inner p) (code.while_statement set given (start_of p) p)
  unfolding code.while_statement
  while_sound p =
      reads_then (expect_sound set s.While p) (λ a _ t.
      reads_then (held.exp a) (λ b c h.
      reads_then (do_block_sound b) (λ q d k.
      reads_ok _ (refl, (a, b, t, h, k)))))

  pub repeat_statement_sound : (p : Place) → Reads (IsStatement set.rules inner p) (code.repeat_statement set given (start_of p) p)
  unfolding code.repeat_statement
  repeat_statement_sound p =
      reads_then (expect_sound set s.Repeat p) (λ a _ t.
      reads_then (held.block a) (λ b d h.
      reads_then (expect_sound set s.Until b) (λ c _ u.
      reads_then (held.exp c) (λ q e k.
      reads_ok _ (refl, (a, b, c, t, h, u, k))))))

  -- `word exp 'then' block`
  abbrev IsArm : Symbol → Place → Place → Expr × Block → Type 0
  IsArm word p q arm =
      (a b c : Place) × Takes set.rules word p a × inner.exp a b arm.0 × Takes set.rules s.Then b c × inner.block c q arm.1

  -- `{'elseif' exp 'then' block}`
  abbrev AreMoreArms : Place → Place → List (Expr × Block) → Type 0
  AreMoreArms a q [] = (sees s.ElseIf a ≡ false) × (q ≡ a)
  AreMoreArms a q (y ∷ ys) = AreArms set.rules inner s.ElseIf a q y ys

  -- one arm more
  abbrev OneArm : List (Expr × Block) → Place → Place → List (Expr × Block) → Type 0
  OneArm found a q all = (y : Expr × Block) × (all ≡ found ++ y ∷ []) × IsArm s.ElseIf a q y

  joined_arms : (word : Symbol) (p a q : Place) (x : Expr × Block) (ys : List (Expr × Block))
      → IsArm word p a x → AreMoreArms a q ys → AreArms set.rules inner word p q x ys
  joined_arms word p a q x [] i h = (
    i.0,
    i.1,
    i.2,
    i.3,
    i.4,
    i.5,
    subst (λ z. inner.block i.2 z x.1) (sym h.1) i.6,
    subst (λ z. sees s.ElseIf z ≡ false) (sym h.1) h.0,
  )
  joined_arms word p a q x (y ∷ ys) i h = (i.0, i.1, i.2, a, i.3, i.4, i.5, i.6, h)

  arm_sound : (word : Symbol) (p : Place) → Reads (IsArm word p) (code.arm set given word p)
  unfolding code.arm
  arm_sound word p =
      reads_then (expect_sound set word p) (λ a _ t.
      reads_then (held.exp a) (λ b e h.
      reads_then (expect_sound set s.Then b) (λ c _ u.
      reads_then (held.block c) (λ q d k. reads_ok _ (a, b, c, t, h, u, k)))))

  another_arm_sound : (found : List (Expr × Block)) (a : Place) → Reads (OneArm found a) (code.another_arm set given found a)
  unfolding code.another_arm
  another_arm_sound found a = reads_then (arm_sound s.ElseIf a) (λ q y h. reads_ok _ (y, refl, h))

  arms_stop : (found : List (Expr × Block)) (a : Place) → sees s.ElseIf a ≡ false → Adds AreMoreArms found a a found
  arms_stop found a e = ([], sym (append-nil found), (e, refl))

  arms_step : (found one all : List (Expr × Block)) (a b q : Place) → sees s.ElseIf a ≡ true → OneArm found a b one
      → Adds AreMoreArms one b q all → Adds AreMoreArms found a q all
  arms_step found one all a b q go n m = (
    n.0 ∷ m.0,
    m.1 ∙ ap (λ z. z ++ m.0) n.1 ∙ append_assoc found (n.0 ∷ []) m.0,
    joined_arms s.ElseIf a b q n.0 m.0 n.2 m.2,
  )

  all_arms_sound : (p : Place)
      → Reads (λ q all. (arm : Expr × Block) × (more : List (Expr × Block)) × AreArms set.rules inner s.If p q arm more × (all ≡ arms (arm ∷ more)))
      (code.all_arms set given p)
  unfolding code.all_arms
  all_arms_sound p =
      reads_then (arm_sound s.If p) (λ a x i.
      reads_then (repeat_sound set (λ _ z. sees s.ElseIf z) (code.another_arm set given) OneArm (Adds AreMoreArms) arms_stop arms_step another_arm_sound (x ∷ []) a)
      (λ q all h. reads_ok _ (x, h.0, joined_arms s.If p a q x h.0 i h.2, ap arms h.1)))

  else_sound : (p : Place) → Reads (IsElse set.rules inner p) (code.maybe_else set given p)
  unfolding code.maybe_else
  else_sound p =
      reads_if (sees s.Else p)
      (λ _. reads_then (expect_sound set s.Else p) (λ a _ t. reads_then (held.block a) (λ q b h. reads_ok _ (a, t, h))))
      (λ e. reads_ok _ (e, refl))

  pub if_sound : (p : Place) → Reads (IsStatement set.rules inner p) (code.if_statement set given (start_of p) p)
  unfolding code.if_statement
  if_sound p =
      reads_then (all_arms_sound p) (λ a found h.
      reads_then (else_sound a) (λ b last k.
      reads_then (expect_sound set s.End b) (λ q _ t.
      reads_ok _ (refl, (a, b, h.0, h.1, h.2, k, t, h.3)))))

  step_sound : (p : Place) → Reads (IsStep set.rules inner p) (code.maybe_step set given p)
  unfolding code.maybe_step
  step_sound p =
      reads_if (sees s.Comma p)
      (λ _. reads_then (expect_sound set s.Comma p) (λ a _ t. reads_then (held.exp a) (λ q e h. reads_ok _ (a, t, h))))
      (λ e. reads_ok _ (e, refl))

  range_sound : (p : Place)
      → Reads (λ q r. (a b c : Place) × inner.exp p a r.first × Takes set.rules s.Comma a b × inner.exp b c r.to × IsStep set.rules inner c q r.step)
      (code.range set given p)
  unfolding code.range
  range_sound p =
      reads_then (held.exp p) (λ a e h.
      reads_then (expect_sound set s.Comma a) (λ b _ t.
      reads_then (held.exp b) (λ c f k.
      reads_then (step_sound c) (λ q g l.
      reads_ok _ (a, b, c, h, t, k, l)))))

  numeric_sound : (p a b : Place) (x : Bind) → Takes set.rules s.For p a → expressions.IsBind set.rules inner a b x
      → Reads (IsStatement set.rules inner p) (code.numeric_for set given (start_of p) x b)
  unfolding code.numeric_for
  numeric_sound p a b x t i =
      reads_then (expect_sound set s.Assign b) (λ c _ u.
      reads_then (range_sound c) (λ g r h.
      reads_then (do_block_sound g) (λ q d k.
      reads_ok _ (refl, (a, b, c, h.0, h.1, h.2, g, t, i, u, h.3, h.4, h.5, h.6, k)))))

  generic_sound : (p a b : Place) (x : Bind) → Takes set.rules s.For p a → expressions.IsBind set.rules inner a b x
      → Reads (IsStatement set.rules inner p) (code.generic_for set given (start_of p) x b)
  unfolding code.generic_for
  generic_sound p a b x t i =
      reads_then (separated_from_sound set (expressions.IsBind set.rules inner) (values.bind set given) parts.bind (x ∷ []) b) (λ c names h.
      reads_then (expect_sound set s.In c) (λ d _ u.
      reads_then (parts.several d) (λ e es k.
      reads_then (do_block_sound e) (λ q w l.
      reads_ok _ (refl, (a, c, d, e, t, (x, h.0, separated_join set.rules (expressions.IsBind set.rules inner) h.0 a b c x i h.2, ap binds h.1), u, k, l))))))

  pub for_sound : (p : Place) → Reads (IsStatement set.rules inner p) (code.for_statement set given (start_of p) p)
  unfolding code.for_statement
  for_sound p =
      reads_then (expect_sound set s.For p) (λ a _ t.
      reads_then (parts.bind a) (λ b x i.
      reads_if (sees s.Assign b) (λ _. numeric_sound p a b x t i) (λ _. generic_sound p a b x t i)))
