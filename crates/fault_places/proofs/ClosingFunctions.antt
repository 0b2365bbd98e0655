-- The parsers of the statements that are left, and of blocks, up to a refused token.
use Rattle.std.proofs.Common.{◌≡◌, ℕ, Bool, true, false, List, [], ◌∷◌, ◌++◌, refl, sym, ◌∙◌, ap, subst, inl, inr, codes, if◌then◌else◌, Some, None}
use Rattle.std.specs.Prelude.{Ok, Err}
use Rattle.luau_lex.specs.Tokens.{Tok}
use Rattle.luau_tree.specs.Tree.{Expr, Stat}
use Rattle.luau_tree.specs.Tree as tree
use Rattle.luau_tree.specs.View.{exprs}
use Rattle.luau_grammar.specs.declared.symbol.Symbol.{Symbol}
use Rattle.luau_grammar.specs.declared.symbol.Symbol.TheVariants as s
use Rattle.luau_grammar.specs.Symbols.{same, symbol_of}
use Rattle.luau_grammar.specs.Places.{Place, symbol, sees, at_level}
use Rattle.luau_grammar.specs.Expressions as expressions
use Rattle.luau_grammar.specs.Reading as read
use Rattle.luau_grammar.specs.Reading.{Parser, Outcome, Readers, ◌>>=◌, and_then, pure, start, set_level}
use Rattle.luau_grammar.specs.ReadExpressions as values
use Rattle.luau_grammar.specs.ReadStatements as code
use Rattle.luau_grammar.specs.ReadStatements.{MethodName}
use Rattle.grammar_faults.proofs.LocalTypes.{LocalReaders}
use Rattle.grammar_faults.proofs.LocalExpressions as terms
use Rattle.fault_places.proofs.Closing.{Frame, place, roof, Ends, Claim, Idle, Goes}
use Rattle.fault_places.proofs.ClosingTokens.{anything, any, never, settle, choose_goes, other_opens, goes_by, opens_from, forget}
use Rattle.fault_places.proofs.ClosingSteps.{Reads, link, rest, idle, loop_reads}
use Rattle.fault_places.proofs.ClosingWords.{the_name, the_sign, the_word}
use Rattle.fault_places.proofs.ClosingSymbols.{symbol_of_it, given, at_start, spanned, a_name, either, if_seen, peek_sees, sees_first}
use Rattle.fault_places.proofs.ClosingLists.{Held, EndsBlock, some_tails}
use Rattle.fault_places.proofs.ClosingBodies.{deeper, index_goes}
use Rattle.fault_places.proofs.ClosingValues.{expressions_reads, attributes_reads}
use Rattle.fault_places.proofs.ClosingStatements.{local_function_reads}
use Rattle.fault_places.proofs.ClosingTypes.{generics_reads}
use Rattle.fault_places.proofs.ClosingForms.{result_reads}
use Rattle.fault_places.proofs.ClosingSuffixes.{name_sort}
use Rattle.fault_places.proofs.ClosingExpressions.{a_body_reads}
use Rattle.fault_places.proofs.ClosingChoices.{forget_reads, restored, restored_opens}

-- ---- what a parser gives, one thing of which is known

pub record Gives {A C : Type 0} (sh : A → C) (kind : C) (r : Parser A) : Type 0 where
  pub each : (p : Place) (x : A × Place) → r p ≡ Ok x → sh x.0 ≡ kind

gives_in : {A B C : Type 0} (sh : B → C) (kind : C) (g : A → Parser B) → ((y : A) → Gives sh kind (g y)) → (o : Outcome A) (x : B × Place) → and_then o g ≡ Ok x → sh x.0 ≡ kind
gives_in sh kind g h (Ok y) x e = (h y.0).each y.1 x e
gives_in sh kind g h (Err d) x e = absurd (cc)

pub gives : {A B C : Type 0} {sh : B → C} {kind : C} {g : A → Parser B} (r : Parser A) → ((y : A) → Gives sh kind (g y)) → Gives sh kind (r >>= g)
gives {sh = sh} {kind = kind} {g = g} r h = record { each = λ p x e. gives_in sh kind g h (r p) x e }

result_of : {A : Type 0} (o : Outcome A) (x y : A × Place) → o ≡ Ok x → o ≡ Ok y → x ≡ y
result_of o x y h k = cc

pub gives_it : {A C : Type 0} {sh : A → C} {kind : C} (y : A) → sh y ≡ kind → Gives sh kind (pure y)
gives_it {A = A} {sh = sh} y e = record { each = λ p x d. ap (λ (z : A × Place). sh z.0) (sym (result_of (pure y p) (y, p) x refl d)) ∙ e }

gives_either : {A C : Type 0} (sh : A → C) (kind : C) (b : Bool) (o r : Outcome A) (x : A × Place) → (o ≡ Ok x → sh x.0 ≡ kind) → (r ≡ Ok x → sh x.0 ≡ kind) → (if b then o else r) ≡ Ok x → sh x.0 ≡ kind
gives_either sh kind true o r x h k e = h e
gives_either sh kind false o r x h k e = k e

pub gives_if : {A C : Type 0} {sh : A → C} {kind : C} {r t : Parser A} (test : Place → Bool) → Gives sh kind r → Gives sh kind t → Gives sh kind (λ p. if test p then r p else t p)
gives_if {sh = sh} {kind = kind} {r = r} {t = t} test h k = record { each = λ p x e. gives_either sh kind (test p) (r p) (t p) x (h.each p x) (k.each p x) e }

module _ (f : Frame) where
  shaped_ends : {A C : Type 0} (a : ℕ) (sh : A → C) (kind : C) (v : Parser A) → Gives sh kind v → (p : Place) (zs : List Tok) → Ends f a any tt v p zs → Ends f a sh kind v p zs
  shaped_ends a sh kind v h p zs e = record { value = e.value; last = e.last; level = e.level; low = e.low; same = h.each p (e.value, place zs e.last e.level) e.reads; reads = e.reads }

  same_unit : {A : Type 0} (a : ℕ) (v : Parser A) (p : Place) (zs : List Tok) (kind : Unit {0}) → Ends f a any kind v p zs → Ends f a any tt v p zs
  same_unit a v p zs kind e = record { value = e.value; last = e.last; level = e.level; low = e.low; same = refl; reads = e.reads }

  shaped_claim : {A C : Type 0} (F : Symbol → Type 0) (sh : A → C) (kind : C) (v : Parser A) → Gives sh kind v → (us : List Tok) (l m : ℕ) (o : Outcome A) → ((x : A × Place) → o ≡ Ok x → sh x.0 ≡ kind)
      → Claim f F any v us l m o → Claim f F sh v us l m o
  shaped_claim F sh kind v h us l m (Err e) k c = λ d.
      let i = c d in
      record { close = i.close; kind = kind; late = i.late; ends = λ zs fol. shaped_ends (roof f) sh kind v h (place (us ++ i.close zs) l m) zs (same_unit (roof f) v (place (us ++ i.close zs) l m) zs i.kind (i.ends zs fol)) }
  shaped_claim F sh kind v h us l m (Ok x) k (inl c) = inl c
  shaped_claim {A = A} F sh kind v h us l m (Ok x) k (inr (inl c)) =
      inr (inl (record {
        token = c.token;
        rest = c.rest;
        ahead = c.ahead;
        before = c.before;
        level = c.level;
        value = c.value;
        same = h.each (place (us ++ []) l m) (c.value, place (c.token ∷ (c.rest ++ [])) x.1.last x.1.level) (c.reads []) ∙ sym (k x refl);
        reads = c.reads;
      }))
  shaped_claim F sh kind v h us l m (Ok x) k (inr (inr c)) =
      inr (inr (record {
        ahead = c.ahead;
        ends = λ new fol. subst (λ z. Ends f (roof f) sh z v (place (us ++ new) l m) new) (sym (k x refl)) (shaped_ends (roof f) sh kind v h (place (us ++ new) l m) new (c.ends new fol));
      }))

  shaped_idle : {A C : Type 0} (sh : A → C) (kind : C) (stay : Unit {0} → Type 0) (o : Outcome A) → ((x : A × Place) → o ≡ Ok x → sh x.0 ≡ kind) → Idle f any stay o → Idle f sh (λ z. (z ≡ kind) × stay tt) o
  shaped_idle sh kind stay (Err e) k i = tt
  shaped_idle sh kind stay (Ok x) k (inl i) = inl i
  shaped_idle sh kind stay (Ok x) k (inr i) = inr (i.0, (k x refl, i.1))

  -- the same parsers, of whose values one thing is said
  pub shaped : {A C : Type 0} {F : Symbol → Type 0} {stay : Unit {0} → Type 0} {r v : Parser A} (sh : A → C) (kind : C) → Gives sh kind r → Gives sh kind v → Goes f F any stay r v
      → Goes f F sh (λ z. (z ≡ kind) × stay tt) r v
  shaped {F = F} {stay = stay} {r = r} {v = v} sh kind low high h = record {
    idle = λ l m. shaped_idle sh kind stay (r (place f.cut l m)) (λ x e. low.each (place f.cut l m) x e) (h.idle l m);
    inside = λ u us l m b a. shaped_claim F sh kind v high (u ∷ us) l m (r (place (u ∷ (us ++ f.cut)) l m)) (λ x e. low.each (place (u ∷ (us ++ f.cut)) l m) x e) (h.inside u us l m b a);
    far = h.far;
  }

-- ---- a level that holds again in the midst of a parser

abbrev pair_up : {A B : Type 0} → A → B → Parser (A × B)
pair_up w m = pure (w, m)

restored_two : {A B D : Type 0} (k : ℕ) (o : Outcome B) (w : A) (more : A → B → Parser D)
    → and_then o (λ m a. more w m (at_level k a)) ≡ and_then (and_then (and_then o (pair_up w)) (λ (x : A × B) a. Ok (x, at_level k a))) (λ (x : A × B). more x.0 x.1)
restored_two k (Err e) w more = refl
restored_two k (Ok x) w more = refl

restored_in : {A B D : Type 0} (k : ℕ) (o : Outcome A) (g : A → Parser B) (more : A → B → Parser D)
    → and_then o (λ w q. and_then (g w q) (λ m a. more w m (at_level k a)))
    ≡ and_then (and_then (and_then o (λ w q. and_then (g w q) (pair_up w))) (λ (x : A × B) a. Ok (x, at_level k a))) (λ (x : A × B). more x.0 x.1)
restored_in k (Err e) g more = refl
restored_in k (Ok x) g more = restored_two k (g x.0 x.1) x.0 more

-- no path goes on with a symbol
record EndsPath (x : Symbol) : Type 0 where
  pub dot : same x s.Dot ≡ false
  pub colon : same x s.Colon ≡ false

module _ (f : Frame) (low high : Readers) (held : Held f low high) (local : LocalReaders some_tails low) (others : LocalReaders some_tails high) where
  abbrev naming : List Tok → List Tok
  naming = λ zs. the_name f.at ∷ zs

  path_reads : Reads f EndsPath any naming tt never (code.path f.low low) (code.path f.high high)
  unfolding code.path code.path_name
  path_reads =
      link f (at_start f anything) (λ a b.
      rest f (forget_reads f (name_sort f low high held local)) (λ x y.
      loop_reads f Expr (Unit {0}) EndsPath anything any (λ _ p. sees s.Dot p) (values.index f.low low a) (values.index f.high high b)
      (λ x y e u ts us l m. peek_sees s.Dot u us ts l m) (λ x y _. forget f (λ _ c. c) (index_goes f low high held local a b x y)) (λ y zs l m z. sees_first s.Dot zs l m ∙ z.dot) (λ x z. tt)
      (λ x. (terms.index_local f.low low some_tails local a x).takes) x y refl tt refl) (λ _ _. tt)) (λ _ _. tt)

  abbrev no_method : MethodName
  no_method = record { name = None; span = None }

  method_reads : Reads f EndsPath any (λ zs. zs) tt (λ z. z ≡ tt) (code.method_name f.low low) (code.method_name f.high high)
  unfolding code.method_name
  method_reads =
      let none = given f EndsPath no_method no_method in
      record {
        goes = choose_goes f (sees s.Colon) (peek_sees s.Colon)
            (settle f (λ _ c. absurd c) (deeper f s.Colon (λ _ _. link f (at_start f anything) (λ a b. rest f (a_name f) (λ n o.
            idle f (spanned f EndsPath a b) (λ i j. given f EndsPath (record { name = Some n; span = Some i }) (record { name = Some o; span = Some j })) (λ _ z. z)) (λ _ _. tt)) (λ _ _. tt)))) none.goes;
        opens = other_opens f {close = λ zs. zs} (sees s.Colon)
            (read.expect f.high s.Colon >>= (λ _. read.raise f.high >>= (λ _. start >>= (λ from. read.name f.high >>= (λ n. read.span_from from >>= (λ i. pure (record { name = Some n; span = Some i })))))))
            (λ zs l m z. sees_first s.Colon zs l m ∙ z.colon) none.opens;
        late = λ _ _ b. b;
      }

  abbrev way_low : Parser (Expr × MethodName)
  way_low = code.path f.low low >>= (λ w. code.method_name f.low low >>= (λ m. pure (w, m)))

  abbrev way_high : Parser (Expr × MethodName)
  way_high = code.path f.high high >>= (λ w. code.method_name f.high high >>= (λ m. pure (w, m)))

  way_reads : Reads f EndsPath any naming tt never (λ p. and_then (way_low p) (λ x q. Ok (x, at_level p.level q))) (λ p. and_then (way_high p) (λ x q. Ok (x, at_level p.level q)))
  way_reads =
      let h = rest f path_reads (λ x y. idle f method_reads (λ m n. given f {A = Expr × MethodName} EndsPath (x, m) (y, n)) (λ _ z. z)) (λ _ z. z) in
      record { goes = restored f h.goes; opens = restored_opens f h.opens; late = h.late }

  path_paren : EndsPath s.LeftParen
  unfolding same
  path_paren = record { dot = refl; colon = refl }

  abbrev function_behind : List Tok → List Tok
  function_behind = λ zs. the_name f.at ∷ the_sign f.at (codes "(") ∷ the_sign f.at (codes ")") ∷ the_word f.at (codes "end") ∷ zs

  abbrev body_low : ℕ → Expr → MethodName → Parser Stat
  body_low from w m = values.body f.low low m.span >>= (λ b. read.span_from from >>= (λ i. pure (tree.the_stat i (tree.FunctionStat w m.name b))))

  abbrev body_high : ℕ → Expr → MethodName → Parser Stat
  body_high from w m = values.body f.high high m.span >>= (λ b. read.span_from from >>= (λ i. pure (tree.the_stat i (tree.FunctionStat w m.name b))))

  named_body : (a b : ℕ) → Reads f anything any function_behind tt never
      (λ p. and_then (and_then (way_low p) (λ x q. Ok (x, at_level p.level q))) (λ x. body_low a x.0 x.1)) (λ p. and_then (and_then (way_high p) (λ x q. Ok (x, at_level p.level q))) (λ x. body_high b x.0 x.1))
  unfolding symbol_of
  named_body a b =
      link f way_reads (λ x y.
      rest f (a_body_reads f low high held local others x.1.span y.1.span) (λ v w.
      idle f (spanned f anything a b) (λ i j. given f anything (tree.the_stat i (tree.FunctionStat x.0 x.1.name v)) (tree.the_stat j (tree.FunctionStat y.0 y.1.name w))) (λ _ z. z)) (λ _ z. z)) (λ _ _. path_paren)

  abbrev behind_low : ℕ → Parser Stat
  behind_low a = read.level >>= (λ outer. code.path f.low low >>= (λ w. code.method_name f.low low >>= (λ m. set_level outer >>= (λ _. body_low a w m))))

  abbrev behind_high : ℕ → Parser Stat
  behind_high b = read.level >>= (λ outer. code.path f.high high >>= (λ w. code.method_name f.high high >>= (λ m. set_level outer >>= (λ _. body_high b w m))))

  behind_reads : (a b : ℕ) → Reads f anything any function_behind tt never (behind_low a) (behind_high b)
  behind_reads a b = record {
    goes = goes_by f (λ p. restored_in p.level (code.path f.low low p) (λ w. code.method_name f.low low) (body_low a)) (λ p. restored_in p.level (code.path f.high high p) (λ w. code.method_name f.high high) (body_high b))
        (named_body a b).goes;
    opens = opens_from f (λ p. restored_in p.level (code.path f.high high p) (λ w. code.method_name f.high high) (body_high b)) (named_body a b).opens;
    late = (named_body a b).late;
  }

  pub function_statement_reads : (a b : ℕ) → Reads f anything any (λ zs. the_word f.at (codes "function") ∷ function_behind zs) tt never (code.function_statement f.low low a) (code.function_statement f.high high b)
  unfolding code.function_statement same symbol_of
  function_statement_reads a b =
      link f (symbol_of_it f s.Function (the_word f.at (codes "function")) refl refl) (λ _ _. behind_reads a b) (λ _ _. tt)

  pub attributed_goes : (a b : ℕ) → Goes f anything any never (code.attributed f.low low a) (code.attributed f.high high b)
  unfolding code.attributed sees symbol same symbol_of
  attributed_goes a b =
      (link f (attributes_reads f low high held local) (λ _ _.
      either f {close = λ zs. the_word f.at (codes "function") ∷ function_behind zs} (sees s.Local) (peek_sees s.Local) (λ zs l m _. refl)
      (link f (symbol_of_it f s.Local (the_word f.at (codes "local")) refl refl) (λ _ _. local_function_reads f low high held local (a_body_reads f low high held local others)
      (generics_reads f low high held local (result_reads f low high held local) true) a b) (λ _ _. tt))
      (function_statement_reads a b)) (λ _ _. refl)).goes

  returned_reads : Reads f EndsBlock any (λ zs. zs) tt (λ z. z ≡ tt) (code.maybe_expressions f.low low) (code.maybe_expressions f.high high)
  unfolding code.maybe_expressions symbol
  returned_reads =
      if_seen f (λ p. expressions.begins (symbol p)) (λ u ts us l m. refl) (λ zs l m z. z.expression)
      (rest f (expressions_reads f low high held local) (λ x y. given f EndsBlock (exprs x) (exprs y)) (λ _ z. record { one = z.value; comma = z.comma }))
      (given f EndsBlock tree.no_exprs tree.no_exprs)

  pub return_goes : (a b : ℕ) → Goes f EndsBlock any never (code.return_statement f.low low a) (code.return_statement f.high high b)
  unfolding code.return_statement same symbol_of
  return_goes a b =
      (rest f (symbol_of_it f s.Return (the_word f.at (codes "return")) refl refl) (λ _ _.
      idle f returned_reads (λ x y.
      idle f (spanned f EndsBlock a b) (λ i j. given f EndsBlock (tree.the_stat i (tree.Return x)) (tree.the_stat j (tree.Return y))) (λ _ z. z)) (λ _ z. z)) (λ _ _. tt)).goes
