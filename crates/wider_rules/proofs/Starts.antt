-- What the parsers of expressions and types do with their first token.
use Rattle.std.proofs.Common.{◌≡◌, ℕ, zero, suc, Bool, true, false, true≢false, ◌||◌, List, [], ◌∷◌, length, refl, sym, ◌∙◌, ap, subst, Option, Some, None, if◌then◌else◌}
use Rattle.std.specs.Prelude.{Ok, Err}
use Rattle.luau_lex.specs.Tokens.{Tok}
use Rattle.luau_lex.specs.Values.{string_value}
use Rattle.luau_tree.specs.declared.names.UnOp.{UnOp}
use Rattle.luau_tree.specs.Tree.{Expr, TypeSyntax}
use Rattle.luau_tree.specs.Tree as tree
use Rattle.luau_tree.specs.View as view
use Rattle.luau_tree.specs.View.{exprs, choices}
use Rattle.luau_grammar.specs.declared.error.ParseError.TheVariants.{Nesting}
use Rattle.luau_grammar.specs.declared.symbol.Symbol.{Symbol}
use Rattle.luau_grammar.specs.declared.symbol.Symbol.TheVariants as s
use Rattle.luau_grammar.specs.Symbols.{same, symbol_of}
use Rattle.luau_grammar.specs.Places.{Place, symbol, sees, start_of, behind}
use Rattle.luau_grammar.specs.Operators.{unary_of, unary_tightness}
use Rattle.luau_grammar.specs.Expressions.{begins, begins_suffix}
use Rattle.luau_grammar.specs.Types.{sees_typeof, begins_property, begin_of}
use Rattle.luau_grammar.specs.Phrases.{Listed}
use Rattle.luau_grammar.specs.Reading as read
use Rattle.luau_grammar.specs.Reading.{Setting, Parser, Outcome, Readers, ◌>>=◌, and_then, pure, start, refusal, next, expect}
use Rattle.luau_grammar.specs.ReadPhrases as phrases
use Rattle.luau_grammar.specs.ReadPhrases.{begins_type}
use Rattle.luau_grammar.specs.ReadTypes as types
use Rattle.luau_grammar.specs.ReadExpressions as code
use Rattle.grammar_faults.specs.Fronts.{BeginFrom}
use Rattle.grammar_faults.proofs.Local as near
use Rattle.grammar_faults.proofs.Local.{Tails, Far, Local, here, far_then, far_if}
use Rattle.grammar_faults.proofs.LocalTokens as tokens
use Rattle.grammar_faults.proofs.LocalSteps.{steps}
use Rattle.grammar_faults.proofs.LocalTypes as type_locals
use Rattle.grammar_faults.proofs.LocalTypes.{LocalReaders}
use Rattle.grammar_faults.proofs.LocalExpressions as locals
use Rattle.grammar_faults.proofs.LocalOperators as operators

-- ---- symbols

no_unary : (x : Symbol) → begins x ≡ false → unary_of x ≡ None
no_unary s.Minus h = absurd (true≢false h)
no_unary s.Not h = absurd (true≢false h)
no_unary s.Hash h = absurd (true≢false h)
no_unary _ h = refl

no_prefix : (x : Symbol) → begins x ≡ false → (same x s.Name || same x s.LeftParen) ≡ false
unfolding same
no_prefix s.Name h = absurd (true≢false h)
no_prefix s.LeftParen h = absurd (true≢false h)
no_prefix _ h = refl

no_bar : (x : Symbol) → begins_type x ≡ false → (same x s.Pipe || same x s.Ampersand) ≡ false
unfolding same
no_bar s.Pipe h = absurd (true≢false h)
no_bar s.Ampersand h = absurd (true≢false h)
no_bar _ h = refl

no_paren : (x : Symbol) → begins_type x ≡ false → same x s.LeftParen ≡ false
unfolding same
no_paren s.LeftParen h = absurd (true≢false h)
no_paren _ h = refl

other_of : (a b : Bool) → (a || b) ≡ true → b ≡ false → a ≡ true
other_of true b h k = refl
other_of false b h k = absurd (true≢false (sym h ∙ k))

neither : (a b : Bool) → (a || b) ≡ false → a ≡ false
neither true b h = absurd (true≢false h)
neither false b h = refl

nor : (a b : Bool) → (a || b) ≡ false → b ≡ false
nor true b h = absurd (true≢false h)
nor false b h = h

if_known : {A : Type 0} (bound : ℕ) (b : Bool) (o r : Outcome A) → (b ≡ true → Far bound o) → (b ≡ false → Far bound r) → Far bound (if b then o else r)
if_known bound true o r h k = h refl
if_known bound false o r h k = k refl

-- ---- the first token is taken

module _ (set : Setting) (wt : Tails) (t : Tok) (ts : List Tok) (l m : ℕ) (late : BeginFrom wt.bound ts) (stands : set.rules.may_stand t m ≡ true) where
  abbrev p : Place
  p = here t ts l m

  next_far : Far wt.bound (next set p)
  unfolding next
  next_far = subst (λ b. Far {A = Tok} wt.bound (if b then Ok (t, behind t ts m) else Err (Nesting t.span.start))) (sym stands) late

  expect_far : (x : Symbol) → same (symbol_of t) x ≡ true → Far wt.bound (expect set x p)
  unfolding expect sees symbol
  expect_far x e = subst (λ b. Far wt.bound (if b then next set p else read.refuse set p)) (sym e) next_far

  lead_next : {B : Type 0} {k : ℕ} {g : Tok → Parser B} → ((y : Tok) → Local wt k (g y)) → Far wt.bound ((next set >>= g) p)
  lead_next {g = g} h = far_then wt.bound g (next set p) next_far (λ y. (h y).one)

  lead : {B : Type 0} {k : ℕ} {g : Tok → Parser B} (x : Symbol) → same (symbol_of t) x ≡ true → ((y : Tok) → Local wt k (g y)) → Far wt.bound ((expect set x >>= g) p)
  lead {g = g} x e h = far_then wt.bound g (expect set x p) (expect_far x e) (λ y. (h y).one)

  lead_name : {B : Type 0} {k : ℕ} {g : List ℕ → Parser B} → same (symbol_of t) s.Name ≡ true → ((y : List ℕ) → Local wt k (g y)) → Far wt.bound ((read.name set >>= g) p)
  unfolding read.name
  lead_name {g = g} e h = far_then wt.bound g (read.name set p) (far_then wt.bound (λ y. pure y.bytes) (expect set s.Name p) (expect_far s.Name e) (λ _ _ b. b)) (λ y. (h y).one)

  lead_string : {B : Type 0} {k : ℕ} {g : List ℕ → Parser B} (x : Symbol) → same (symbol_of t) x ≡ true → ((y : List ℕ) → Local wt k (g y)) → Far wt.bound ((read.string set x >>= g) p)
  unfolding read.string
  lead_string {g = g} x e h =
      far_then wt.bound g (read.string set x p) (far_then wt.bound (λ y. pure (string_value y.kind y.bytes)) (expect set x p) (expect_far x e) (λ _ _ b. b)) (λ y. (h y).one)

  module _ (inner : Readers) (held : LocalReaders wt inner) where
    -- ---- expressions

    paren_far : same (symbol_of t) s.LeftParen ≡ true → Far wt.bound (code.paren set inner p)
    unfolding code.paren start_of
    paren_far e =
        lead s.LeftParen e (λ _. near.both (locals.exp_local set inner wt held) (λ x. near.both (tokens.token set s.RightParen) (λ _. near.both (near.at_span t.span.start) (λ span.
        near.done (tree.the_expr 0 span (tree.Paren x))))))

    name_far : same (symbol_of t) s.Name ≡ true → Far wt.bound (code.name_expression set inner p)
    unfolding code.name_expression start_of
    name_far e = lead_name e (λ name. near.both (near.at_span t.span.start) (λ span. near.done (tree.the_expr 0 span (tree.NameExpr name))))

    prefix_far : (same (symbol_of t) s.Name || same (symbol_of t) s.LeftParen) ≡ true → Far wt.bound (code.prefix set inner p)
    unfolding code.prefix code.primary sees symbol start_of
    prefix_far h =
        far_then wt.bound (read.repeat set (λ _ q. begins_suffix q) (code.suffix set inner t.span.start))
        (if same (symbol_of t) s.LeftParen then code.paren set inner p else code.name_expression set inner p)
        (if_known wt.bound (same (symbol_of t) s.LeftParen) (code.paren set inner p) (code.name_expression set inner p) paren_far
        (λ e. name_far (other_of (same (symbol_of t) s.Name) (same (symbol_of t) s.LeftParen) h e)))
        (λ x. (steps set (λ _ q. begins_suffix q) (code.suffix set inner t.span.start) (λ _. locals.peeks_suffix) (locals.suffix_local set inner wt held t.span.start) x).one)

    words_far : (kind : tree.ExprKind) → Far wt.bound (code.word set inner t.span.start kind p)
    unfolding code.word
    words_far kind = lead_next (λ _. near.both (near.at_span t.span.start) (λ span. near.done (tree.the_expr 0 span kind)))

    table_far : (inside : ℕ) → same (symbol_of t) s.LeftBrace ≡ true → Far wt.bound (code.table set inner inside p)
    unfolding code.table
    table_far inside e =
        lead s.LeftBrace e (λ _. near.both (near.to_level inside) (λ _. near.both (locals.fields_local set inner wt held) (λ found. near.both (tokens.token set s.RightBrace) (λ _. near.done found))))

    constructor_far : same (symbol_of t) s.LeftBrace ≡ true → Far wt.bound (code.constructor set inner t.span.start p)
    unfolding code.constructor
    constructor_far e =
        far_then wt.bound (λ fs. read.span_from t.span.start >>= (λ span. pure (tree.the_expr 0 span (tree.TableExpr fs)))) (code.table set inner m p) (table_far m e)
        (λ fs. (near.both {w = wt} (near.at_span t.span.start) (λ span. near.done (tree.the_expr 0 span (tree.TableExpr fs)))).one)

    number_far : same (symbol_of t) s.Number ≡ true → Far wt.bound (code.number set inner t.span.start p)
    unfolding code.number
    number_far e = lead s.Number e (λ y. near.both (near.at_span t.span.start) (λ span. near.done (tree.the_expr 0 span (tree.NumberExpr y.bytes))))

    literal_far : same (symbol_of t) s.Text ≡ true → Far wt.bound (code.literal set inner t.span.start p)
    unfolding code.literal
    literal_far e = lead_string s.Text e (λ value. near.both (near.at_span t.span.start) (λ span. near.done (tree.the_expr 0 span (tree.StrExpr value))))

    whole_far : same (symbol_of t) s.Whole ≡ true → Far wt.bound (code.whole set inner t.span.start p)
    unfolding code.whole
    whole_far e = lead_string s.Whole e (λ text. near.both (near.at_span t.span.start) (λ span. near.done (tree.the_expr 0 span (tree.Interp (text ∷ []) tree.no_exprs))))

    interpolation_far : same (symbol_of t) s.Begin ≡ true → Far wt.bound (code.interpolation set inner t.span.start p)
    unfolding code.interpolation
    interpolation_far e =
        lead_string s.Begin e (λ text. near.both (locals.parts_local set inner wt held text) (λ found. near.both (near.at_span t.span.start) (λ span.
        near.done (tree.the_expr 0 span (tree.Interp found.texts (exprs found.parts))))))

    if_far : same (symbol_of t) s.If ≡ true → Far wt.bound (code.if_else set inner t.span.start p)
    unfolding code.if_else code.all_choices code.choice
    if_far e =
        far_then wt.bound (λ arms. expect set s.Else >>= (λ _. phrases.expression set inner >>= (λ x. read.span_from t.span.start >>= (λ span. pure (tree.the_expr 0 span (tree.IfElse arms x))))))
        (code.all_choices set inner p)
        (far_then wt.bound (λ first. read.repeat set (λ _ q. sees s.ElseIf q) (code.another_choice set inner) (first ∷ []) >>= (λ found. pure (choices found)))
        (code.choice set inner s.If p)
        (lead s.If e (λ _. near.both (locals.exp_local set inner wt held) (λ cond. near.both (tokens.token set s.Then) (λ _. near.both (locals.exp_local set inner wt held) (λ value. near.done (cond, value))))))
        (λ first. (near.both (steps set (λ _ q. sees s.ElseIf q) (code.another_choice set inner) (λ _. near.peeks_sees s.ElseIf) (locals.another_choice_local set inner wt held) (first ∷ []))
        (λ found. near.done (choices found))).one))
        (λ arms. (near.both (tokens.token set s.Else) (λ _. near.both (locals.exp_local set inner wt held) (λ x. near.both (near.at_span t.span.start) (λ span. near.done (tree.the_expr 0 span (tree.IfElse arms x)))))).one)

    abbrev attributed : Parser Expr
    attributed = expect set s.Function >>= (λ _. code.body set inner None >>= (λ b. read.span_from t.span.start >>= (λ span. pure (tree.the_expr 0 span (tree.FunctionExpr b)))))

    attributed_local : Local wt 1 attributed
    attributed_local =
        near.least 1 refl (near.both (tokens.token set s.Function) (λ _. near.both (locals.body_local set inner wt held None) (λ b. near.both (near.at_span t.span.start) (λ span.
        near.done (tree.the_expr 0 span (tree.FunctionExpr b))))))

    attribute_far : same (symbol_of t) s.AtSign ≡ true → Far wt.bound (code.attribute set inner tt p)
    unfolding code.attribute
    attribute_far e =
        far_then wt.bound (λ _. pure (tt {0})) ((expect set s.AtSign >>= (λ _. read.name set)) p) (lead s.AtSign e (λ _. tokens.a_name set)) (λ _ _ b. b)

    many_far : (n : ℕ) (x : Unit {0}) (q : Place) → BeginFrom wt.bound q.ahead → Far wt.bound (read.repeats set (λ _ q. sees s.AtSign q) (code.attribute set inner) n x q)
    unfolding read.repeats
    many_far zero x q b = far_if wt.bound (sees s.AtSign q) (read.refuse set q) (Ok (x, q)) ((tokens.refuses set {w = wt} {A = Unit {0}} 0).one q b) b
    many_far (suc n) x q b =
        far_if wt.bound (sees s.AtSign q) (and_then (code.attribute set inner x q) (read.repeats set (λ _ q. sees s.AtSign q) (code.attribute set inner) n)) (Ok (x, q))
        (far_then wt.bound (read.repeats set (λ _ q. sees s.AtSign q) (code.attribute set inner) n) (code.attribute set inner x q) ((locals.attribute_local set inner wt held x).one q b) (λ y r c. many_far n y r c)) b

    at_sign_far : same (symbol_of t) s.AtSign ≡ true → Far wt.bound (code.attributes set inner p)
    unfolding code.attributes read.repeats sees symbol
    at_sign_far e =
        subst (λ b. Far wt.bound (if b then and_then (code.attribute set inner tt p) (read.repeats set (λ _ q. sees s.AtSign q) (code.attribute set inner) (length ts)) else Ok (tt {0}, p))) (sym e)
        (far_then wt.bound (read.repeats set (λ _ q. sees s.AtSign q) (code.attribute set inner) (length ts)) (code.attribute set inner tt p) (attribute_far e)
        (λ x q b. many_far (length ts) x q b))

    no_attributes : same (symbol_of t) s.AtSign ≡ false → code.attributes set inner p ≡ Ok (tt {0}, p)
    unfolding code.attributes read.repeats sees symbol
    no_attributes e = ap (λ b. if b then and_then (code.attribute set inner tt p) (read.repeats set (λ _ q. sees s.AtSign q) (code.attribute set inner) (length ts)) else Ok (tt {0}, p)) e

    function_far : same (symbol_of t) s.AtSign ≡ false → same (symbol_of t) s.Function ≡ true → Far wt.bound (code.function set inner t.span.start p)
    unfolding code.function
    function_far a e =
        subst (λ o. Far wt.bound (and_then o (λ _. attributed))) (sym (no_attributes a))
        (lead s.Function e (λ _. near.both (locals.body_local set inner wt held None) (λ b. near.both (near.at_span t.span.start) (λ span. near.done (tree.the_expr 0 span (tree.FunctionExpr b))))))

    attributed_far : same (symbol_of t) s.AtSign ≡ true → Far wt.bound (code.function set inner t.span.start p)
    unfolding code.function
    attributed_far e = far_then wt.bound (λ _. attributed) (code.attributes set inner p) (at_sign_far e) (λ _. attributed_local.one)

    form_by_far : (x : Symbol) → symbol_of t ≡ x → begins x ≡ true → unary_of x ≡ None → (same x s.Name || same x s.LeftParen) ≡ false → Far wt.bound (code.form_by set inner t.span.start x p)
    unfolding same
    form_by_far s.Nil e h u n = words_far tree.NilExpr
    form_by_far s.True e h u n = words_far tree.TrueExpr
    form_by_far s.False e h u n = words_far tree.FalseExpr
    form_by_far s.Dots e h u n = words_far tree.Vararg
    form_by_far s.Number e h u n = number_far (ap (λ z. same z s.Number) e)
    form_by_far s.Text e h u n = literal_far (ap (λ z. same z s.Text) e)
    form_by_far s.LeftBrace e h u n = constructor_far (ap (λ z. same z s.LeftBrace) e)
    form_by_far s.Function e h u n = function_far (ap (λ z. same z s.AtSign) e) (ap (λ z. same z s.Function) e)
    form_by_far s.AtSign e h u n = attributed_far (ap (λ z. same z s.AtSign) e)
    form_by_far s.If e h u n = if_far (ap (λ z. same z s.If) e)
    form_by_far s.Whole e h u n = whole_far (ap (λ z. same z s.Whole) e)
    form_by_far s.Begin e h u n = interpolation_far (ap (λ z. same z s.Begin) e)
    form_by_far s.Name e h u n = absurd (true≢false n)
    form_by_far s.LeftParen e h u n = absurd (true≢false n)
    form_by_far s.Minus e h u n = absurd (cc)
    form_by_far s.Not e h u n = absurd (cc)
    form_by_far s.Hash e h u n = absurd (cc)
    form_by_far _ e h u n = absurd (true≢false (sym h))

    simple_far : begins (symbol_of t) ≡ true → unary_of (symbol_of t) ≡ None → Far wt.bound (code.simple set inner p)
    unfolding code.simple code.form sees symbol start_of
    simple_far h u =
        if_known wt.bound (same (symbol_of t) s.Name || same (symbol_of t) s.LeftParen) (code.prefix set inner p) (code.form_by set inner t.span.start (symbol_of t) p) prefix_far
        (λ n. form_by_far (symbol_of t) refl h u n)

    assertion_far : begins (symbol_of t) ≡ true → unary_of (symbol_of t) ≡ None → Far wt.bound (code.assertion set inner p)
    unfolding code.assertion start_of
    assertion_far h u = far_then wt.bound (code.asserted set inner t.span.start) (code.simple set inner p) (simple_far h u) (λ x. (locals.asserted_local set inner wt held t.span.start x).one)

    unary_far : (turns : ℕ) (op : UnOp) → Far wt.bound (code.unary set inner (code.operation set inner turns unary_tightness) op p)
    unfolding code.unary start_of
    unary_far turns op =
        lead_next (λ _. near.both (tokens.raises set) (λ _. near.both (operators.operation_local set inner wt held turns unary_tightness) (λ x. near.both (near.at_span t.span.start) (λ span.
        near.done (tree.the_expr 0 span (tree.Unary op x))))))

    operand_far : (turns : ℕ) → begins (symbol_of t) ≡ true → (o : Option UnOp) → unary_of (symbol_of t) ≡ o → Far wt.bound (code.operand_by set inner (code.operation set inner turns) o p)
    operand_far turns h None e = assertion_far h e
    operand_far turns h (Some op) e = unary_far turns op

    pub expression_far : begins (symbol_of t) ≡ true → Far wt.bound (code.expression_inside set inner p)
    unfolding code.expression_inside code.operation code.climb code.operand symbol start_of
    expression_far h =
        far_then wt.bound (code.climb_from set inner (code.operation set inner (length ts)) 0 t.span.start) (code.operand_by set inner (code.operation set inner (length ts)) (unary_of (symbol_of t)) p)
        (operand_far (length ts) h (unary_of (symbol_of t)) refl)
        (λ x. (operators.from_local set inner wt held (code.operation set inner (length ts)) (operators.operation_local set inner wt held (length ts)) 0 t.span.start x).one)

    -- ---- types

    abbrev behind_listed : Listed → Parser TypeSyntax
    behind_listed = types.listed_type set inner

    listed_far : same (symbol_of t) s.LeftParen ≡ true → Far wt.bound (types.listed set inner p)
    unfolding types.listed start_of
    listed_far e =
        lead s.LeftParen e (λ _. near.both (type_locals.maybe_members_local set inner wt held) (λ found. near.both (tokens.token set s.RightParen) (λ _. near.both near.at_last (λ to.
        near.done (record { start = t.span.start; end = to; types = found.types; named = found.named; tailed = found.tailed })))))

    typeof_far : same (symbol_of t) s.Name ≡ true → Far wt.bound (types.typeof_form set inner p)
    unfolding types.typeof_form start_of
    typeof_far e =
        lead s.Name e (λ _. near.both (tokens.token set s.LeftParen) (λ _. near.both (type_locals.exp_local set inner wt held) (λ x. near.both (tokens.token set s.RightParen) (λ _. near.both (near.at_span t.span.start) (λ span.
        near.done (tree.the_type span (tree.Typeof x)))))))

    named_far : same (symbol_of t) s.Name ≡ true → Far wt.bound (types.named set inner p)
    unfolding types.named start_of
    named_far e = lead_name e (λ first. type_locals.named_behind_local set inner wt held t.span.start first)

    name_form_far : same (symbol_of t) s.Name ≡ true → Far wt.bound (types.name_form set inner p)
    unfolding types.name_form
    name_form_far e = far_if wt.bound (sees_typeof p) (types.typeof_form set inner p) (types.named set inner p) (typeof_far e) (named_far e)

    type_word_far : (kind : tree.TypeKind) → Far wt.bound (types.word set inner kind p)
    unfolding types.word start_of
    type_word_far kind = lead_next (λ _. near.both (near.at_span t.span.start) (λ span. near.done (tree.the_type span kind)))

    type_literal_far : same (symbol_of t) s.Text ≡ true → Far wt.bound (types.literal set inner p)
    unfolding types.literal start_of
    type_literal_far e = lead_string s.Text e (λ value. near.both (near.at_span t.span.start) (λ span. near.done (tree.the_type span (tree.StrType value))))

    brace_far : same (symbol_of t) s.LeftBrace ≡ true → Far wt.bound (types.table_or_array set inner p)
    unfolding types.table_or_array start_of
    brace_far e =
        far_then wt.bound (λ _ q. if sees s.RightBrace q || begins_property q then types.table set inner t.span.start q else types.array set inner t.span.start q) (expect set s.LeftBrace p) (expect_far s.LeftBrace e)
        (λ _ q b. far_if wt.bound (sees s.RightBrace q || begins_property q) (types.table set inner t.span.start q) (types.array set inner t.span.start q)
        ((type_locals.table_local set inner wt held t.span.start).one q b) ((type_locals.array_local set inner wt held t.span.start).one q b))

    generics_far : same (symbol_of t) s.Less ≡ true → Far wt.bound (types.generics set inner false p)
    unfolding types.generics sees symbol
    generics_far e =
        subst (λ b. Far wt.bound (if b then (expect set s.Less >>= (λ _. types.generics_behind set inner false)) p else Ok (tree.no_gens, p))) (sym e)
        (lead s.Less e (λ _. type_locals.generics_behind_local set inner wt held false))

    abbrev behind_generics : tree.Gens → Parser TypeSyntax
    behind_generics gs =
        types.listed set inner >>= (λ l. expect set s.Arrow >>= (λ _. types.result set inner >>= (λ r. read.span_from t.span.start >>= (λ span. pure (tree.the_type span (tree.Func gs (view.types l.types) r))))))

    generic_function_far : same (symbol_of t) s.Less ≡ true → Far wt.bound (types.generic_function set inner p)
    unfolding types.generic_function start_of
    generic_function_far e =
        far_then wt.bound behind_generics (types.generics set inner false p) (generics_far e)
        (λ gs. (near.both (type_locals.listed_local set inner wt held) (λ l. near.both (tokens.token set s.Arrow) (λ _. near.both (type_locals.result_local set inner wt held) (λ r. near.both (near.at_span t.span.start) (λ span.
        near.done (tree.the_type span (tree.Func gs (view.types l.types) r))))))).one)

    type_form_far : (x : Symbol) → symbol_of t ≡ x → begins_type x ≡ true → (same x s.Pipe || same x s.Ampersand) ≡ false → same x s.LeftParen ≡ false → Far wt.bound (types.form_by set inner x p)
    unfolding same
    type_form_far s.Nil e h n c = type_word_far tree.NilType
    type_form_far s.True e h n c = type_word_far (tree.BoolType true)
    type_form_far s.False e h n c = type_word_far (tree.BoolType false)
    type_form_far s.Text e h n c = type_literal_far (ap (λ z. same z s.Text) e)
    type_form_far s.Name e h n c = name_form_far (ap (λ z. same z s.Name) e)
    type_form_far s.LeftBrace e h n c = brace_far (ap (λ z. same z s.LeftBrace) e)
    type_form_far s.Less e h n c = generic_function_far (ap (λ z. same z s.Less) e)
    type_form_far s.LeftParen e h n c = absurd (true≢false c)
    type_form_far s.Pipe e h n c = absurd (true≢false n)
    type_form_far s.Ampersand e h n c = absurd (true≢false n)
    type_form_far _ e h n c = absurd (true≢false (sym h))

    basic_far : begins_type (symbol_of t) ≡ true → (same (symbol_of t) s.Pipe || same (symbol_of t) s.Ampersand) ≡ false → Far wt.bound (types.basic set inner None p)
    unfolding types.basic types.form sees symbol
    basic_far h n =
        if_known wt.bound (same (symbol_of t) s.LeftParen) ((types.listed set inner >>= behind_listed) p) (types.form_by set inner (symbol_of t) p)
        (λ c. far_then wt.bound behind_listed (types.listed set inner p) (listed_far c) (λ l. (type_locals.listed_type_local set inner wt held l).one))
        (λ c. type_form_far (symbol_of t) refl h n c)

    option_far : begins_type (symbol_of t) ≡ true → (same (symbol_of t) s.Pipe || same (symbol_of t) s.Ampersand) ≡ false → Far wt.bound (types.option set inner None p)
    unfolding types.option start_of
    option_far h n = far_then wt.bound (types.marks set inner t.span.start) (types.basic set inner None p) (basic_far h n) (λ x. (type_locals.marks_local set inner wt held t.span.start x).one)

    abbrev behind_bar : Unit {0} → Parser TypeSyntax
    behind_bar _ = (λ q. Ok (begin_of None q, q)) >>= (λ from. types.option set inner None >>= (λ first. types.joined set inner from first))

    behind_bar_local : Local wt 1 (behind_bar tt)
    behind_bar_local =
        near.least 1 refl (near.both (near.given near.peeks_start) (λ from. near.both (type_locals.option_local set inner wt held) (λ first. type_locals.joined_local set inner wt held from first)))

    bar_case : (b : Bool) → (same (symbol_of t) s.Pipe || same (symbol_of t) s.Ampersand) ≡ b → begins_type (symbol_of t) ≡ true
        → Far wt.bound (and_then (if b then (next set >>= (λ _. pure (tt {0}))) p else Ok (tt {0}, p)) behind_bar)
    unfolding start_of
    bar_case true e h = far_then wt.bound behind_bar ((next set >>= (λ _. pure (tt {0}))) p) (lead_next (λ _. near.done (tt {0}))) (λ _. behind_bar_local.one)
    bar_case false e h = far_then wt.bound (types.joined set inner t.span.start) (types.option set inner None p) (option_far h e) (λ x. (type_locals.joined_local set inner wt held t.span.start x).one)

    pub type_far : begins_type (symbol_of t) ≡ true → Far wt.bound (types.type_inside set inner None p)
    unfolding types.type_inside types.bar sees symbol start_of
    type_far h =
        bar_case (same (symbol_of t) s.Pipe || same (symbol_of t) s.Ampersand) refl h

-- ---- the first token is refused

module _ (set : Setting) (inner : Readers) where
  form_refused : (x : Symbol) → begins x ≡ false → (from : ℕ) (q : Place) → code.form_by set inner from x q ≡ Err (refusal set q)
  form_refused s.Nil h from q = absurd (true≢false h)
  form_refused s.True h from q = absurd (true≢false h)
  form_refused s.False h from q = absurd (true≢false h)
  form_refused s.Dots h from q = absurd (true≢false h)
  form_refused s.Number h from q = absurd (true≢false h)
  form_refused s.Text h from q = absurd (true≢false h)
  form_refused s.LeftBrace h from q = absurd (true≢false h)
  form_refused s.Function h from q = absurd (true≢false h)
  form_refused s.AtSign h from q = absurd (true≢false h)
  form_refused s.If h from q = absurd (true≢false h)
  form_refused s.Whole h from q = absurd (true≢false h)
  form_refused s.Begin h from q = absurd (true≢false h)
  form_refused _ h from q = refl

  simple_refused : (q : Place) → begins (symbol q) ≡ false → code.simple set inner q ≡ Err (refusal set q)
  unfolding code.simple code.form sees
  simple_refused q h =
      ap (λ b. if b then code.prefix set inner q else code.form_by set inner (start_of q) (symbol q) q) (no_prefix (symbol q) h) ∙ form_refused (symbol q) h (start_of q) q

  assertion_refused : (q : Place) → begins (symbol q) ≡ false → code.assertion set inner q ≡ Err (refusal set q)
  unfolding code.assertion
  assertion_refused q h = ap (λ o. and_then o (code.asserted set inner (start_of q))) (simple_refused q h)

  operand_refused : (operation : ℕ → Parser Expr) (q : Place) → begins (symbol q) ≡ false → code.operand set inner operation q ≡ Err (refusal set q)
  unfolding code.operand
  operand_refused operation q h = ap (λ o. code.operand_by set inner operation o q) (no_unary (symbol q) h) ∙ assertion_refused q h

  climb_refused : (turns : ℕ) (q : Place) → begins (symbol q) ≡ false → code.operation set inner turns 0 q ≡ Err (refusal set q)
  unfolding code.operation code.climb
  climb_refused zero q h = refl
  climb_refused (suc turns) q h =
      ap (λ o. and_then o (code.climb_from set inner (code.operation set inner turns) 0 (start_of q))) (operand_refused (code.operation set inner turns) q h)

  pub expression_refused : (q : Place) → begins (symbol q) ≡ false → code.expression_inside set inner q ≡ Err (refusal set q)
  unfolding code.expression_inside
  expression_refused q h = climb_refused (length q.ahead) q h

  type_form_refused : (x : Symbol) → begins_type x ≡ false → (q : Place) → types.form_by set inner x q ≡ Err (refusal set q)
  type_form_refused s.Nil h q = absurd (true≢false h)
  type_form_refused s.True h q = absurd (true≢false h)
  type_form_refused s.False h q = absurd (true≢false h)
  type_form_refused s.Text h q = absurd (true≢false h)
  type_form_refused s.Name h q = absurd (true≢false h)
  type_form_refused s.LeftBrace h q = absurd (true≢false h)
  type_form_refused s.Less h q = absurd (true≢false h)
  type_form_refused _ h q = refl

  basic_refused : (q : Place) → begins_type (symbol q) ≡ false → types.basic set inner None q ≡ Err (refusal set q)
  unfolding types.basic types.form sees
  basic_refused q h =
      ap (λ b. if b then (types.listed set inner >>= types.listed_type set inner) q else types.form_by set inner (symbol q) q) (no_paren (symbol q) h) ∙ type_form_refused (symbol q) h q

  option_refused : (q : Place) → begins_type (symbol q) ≡ false → types.option set inner None q ≡ Err (refusal set q)
  unfolding types.option
  option_refused q h = ap (λ o. and_then o (types.marks set inner (start_of q))) (basic_refused q h)

  abbrev after_bar : Unit {0} → Parser TypeSyntax
  after_bar _ = (λ q. Ok (begin_of None q, q)) >>= (λ from. types.option set inner None >>= (λ first. types.joined set inner from first))

  pub type_refused : (q : Place) → begins_type (symbol q) ≡ false → types.type_inside set inner None q ≡ Err (refusal set q)
  unfolding types.type_inside types.bar sees
  type_refused q h =
      ap (λ b. and_then (if b then (next set >>= (λ _. pure (tt {0}))) q else Ok (tt {0}, q)) after_bar) (no_bar (symbol q) h)
      ∙ ap (λ o. and_then o (types.joined set inner (start_of q))) (option_refused q h)
