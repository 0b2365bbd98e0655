-- The parsers of arguments and of calls up to a refused token.
use Rattle.std.proofs.Common.{◌≡◌, ℕ, ◌+◌, ◌≤◌, Bool, true, false, true≢false, List, [], ◌∷◌, ◌++◌, refl, sym, ◌∙◌, ap, subst, inl, codes, arith, if◌then◌else◌, leb-true, le-leb}
use Rattle.std.specs.Prelude.{Ok, Err, nat_le}
use Rattle.luau_lex.specs.Tokens.{Tok}
use Rattle.luau_lex.specs.Values.{string_value}
use Rattle.luau_tree.specs.declared.position.Span.{Span}
use Rattle.luau_tree.specs.Tree.{Expr, Exprs, Items}
use Rattle.luau_tree.specs.Tree as tree
use Rattle.luau_tree.specs.View.{exprs}
use Rattle.luau_grammar.specs.declared.error.ParseError.TheVariants.{AmbiguousCall, Nesting}
use Rattle.luau_grammar.specs.declared.symbol.Symbol.{Symbol}
use Rattle.luau_grammar.specs.declared.symbol.Symbol.TheVariants as s
use Rattle.luau_grammar.specs.Symbols.{same, symbol_of}
use Rattle.luau_grammar.specs.Places.{Place, symbol, sees, start_of, behind}
use Rattle.luau_grammar.specs.Reading as read
use Rattle.luau_grammar.specs.Reading.{Setting, Parser, Outcome, Readers, ◌>>=◌, ◌>>◌, and_then, pure, start, set_level, refusal}
use Rattle.luau_grammar.specs.ReadExpressions as code
use Rattle.grammar_faults.proofs.LocalTypes.{LocalReaders}
use Rattle.fault_places.proofs.Closing.{Frame, CutLate, BeyondOf, ApartOf, place, Beyond, Before, top, roof, Far, Opens, Claim, Idle, Goes, far_then, claim_far, claim_from}
use Rattle.fault_places.proofs.ClosingTokens.{anything, any, never, settle, choose_goes, this_opens, other_opens, refused_before, refused_far, claim_if, far_if, fits, nesting_apart, ambiguous_apart, to_level_goes, to_level_opens, level_goes, level_opens, idle_if}
use Rattle.fault_places.proofs.ClosingSteps.{Reads, link, rest, idle}
use Rattle.fault_places.proofs.ClosingWords.{EndsValue, the_sign, the_text, value_paren}
use Rattle.fault_places.proofs.ClosingSymbols.{symbol_of_it, token, given, at_start, spanned, a_name, a_string, either, peek_sees, sees_first}
use Rattle.fault_places.proofs.ClosingLists.{Held, EndsList, some_tails}
use Rattle.fault_places.proofs.ClosingBodies.{sort, told, deeper}
use Rattle.fault_places.proofs.ClosingBraces.{fields_reads, table_reads}
use Rattle.fault_places.proofs.ClosingValues.{expressions_reads}
use Rattle.fault_places.proofs.ClosingChoices.{opens_link, never_then}

-- a list of arguments ends in `)`
record AtParen (x : Symbol) : Type 0 where
  pub sees : same x s.RightParen ≡ true
  pub list : EndsList EndsValue x

at_paren : AtParen s.RightParen
unfolding same
at_paren = record { sees = refl; list = record { one = value_paren; comma = refl } }

-- ---- the parenthesis that begins arguments

abbrev Takes : {A : Type 0} → ℕ → List Tok → Outcome A → Type 0
Takes bound cut (Ok x) = BeyondOf bound cut x.1.ahead
Takes bound cut (Err e) = Unit {0}

takes_if : {A : Type 0} (bound : ℕ) (cut : List Tok) (b : Bool) (o r : Outcome A) → Takes bound cut o → Takes bound cut r → Takes bound cut (if b then o else r)
takes_if bound cut true o r h k = h
takes_if bound cut false o r h k = k

taken : (bound : ℕ) (t : Tok) (ts : List Tok) (b : Bool) (m : ℕ) → CutLate bound (t ∷ ts)
    → Takes bound (t ∷ ts) (and_then (if b then Ok (t, behind t ts m) else Err (Nesting t.span.start)) (λ _. pure (tt {0})))
taken bound t ts true m h = h.1
taken bound t ts false m h = tt

open_takes : (low : Setting) (bound : ℕ) (cut : List Tok) (l m : ℕ) → CutLate bound cut → Takes bound cut (read.open_arguments low (place cut l m))
unfolding read.open_arguments read.next sees symbol same
open_takes low bound [] l m h = tt
open_takes low bound (t ∷ ts) l m h =
    let n = and_then (if low.rules.may_stand t m then Ok (t, behind t ts m) else Err (Nesting t.span.start)) (λ _. pure (tt {0})) in
    takes_if bound (t ∷ ts) (same (symbol_of t) s.LeftParen) (if low.rules.may_call l t then n else Err (AmbiguousCall t.span.start)) (Err (refusal low (place (t ∷ ts) l m)))
    (takes_if bound (t ∷ ts) (low.rules.may_call l t) n (Err (AmbiguousCall t.span.start)) (taken bound t ts (low.rules.may_stand t m) m h) tt) tt

module _ (f : Frame) where
  takes_idle : (o : Outcome (Unit {0})) → Takes f.bound f.cut o → Idle f any never o
  takes_idle (Ok x) h = inl h
  takes_idle (Err e) h = tt

  abbrev plain_low : Parser (Unit {0})
  plain_low = read.next f.low >> pure tt

  abbrev plain_high : Parser (Unit {0})
  plain_high = read.next f.high >> pure tt

  plain_reads : Reads f anything any (λ zs. the_sign f.at (codes "(") ∷ zs) tt never plain_low plain_high
  plain_reads = rest f (token f (the_sign f.at (codes "(")) refl) (λ _ _. given f anything (tt {0}) (tt {0})) (λ _ z. z)

  open_high : (u : Tok) (ts : List Tok) (l m : ℕ) → same (symbol_of u) s.LeftParen ≡ true → f.high.rules.may_call l u ≡ true → read.open_arguments f.high (place (u ∷ ts) l m) ≡ plain_high (place (u ∷ ts) l m)
  unfolding read.open_arguments sees symbol
  open_high u ts l m e d =
      let q = place (u ∷ ts) l m in
      ap (λ z. if z then (if f.high.rules.may_call l u then plain_high q else Err (AmbiguousCall u.span.start)) else Err (refusal f.high q)) e
      ∙ ap (λ z. if z then plain_high q else Err (AmbiguousCall u.span.start)) d

  open_inside : (u : Tok) (us : List Tok) (l m : ℕ) → m ≤ top f → Before f (u ∷ us) → Claim f anything any (read.open_arguments f.high) (u ∷ us) l m (read.open_arguments f.low (place (u ∷ (us ++ f.cut)) l m))
  unfolding read.open_arguments sees symbol
  open_inside u us l m b a =
      let q = place (u ∷ (us ++ f.cut)) l m in
      claim_if f anything any (read.open_arguments f.high) (u ∷ us) l m (same (symbol_of u) s.LeftParen) (if f.low.rules.may_call l u then plain_low q else Err (AmbiguousCall u.span.start)) (Err (refusal f.low q))
      (λ e. claim_if f anything any (read.open_arguments f.high) (u ∷ us) l m (f.low.rules.may_call l u) (plain_low q) (Err (AmbiguousCall u.span.start))
      (λ d. claim_from f anything any (read.open_arguments f.high) plain_high (u ∷ us) (u ∷ us) l m l m (λ new. open_high u (us ++ new) l m e (f.calls l u d)) (plain_low q) (plain_reads.goes.inside u us l m b a))
      (λ _ d. absurd (ambiguous_apart f.low.len u.span.start f.cut d)))
      (λ _ d. absurd (refused_before f u (us ++ f.cut) l m a.0 d))

  open_far : (ts : List Tok) (l m : ℕ) → Beyond f ts → Far f (read.open_arguments f.low (place ts l m))
  unfolding read.open_arguments sees symbol same
  open_far [] l m b = refused_far f [] l m b
  open_far (t ∷ ts) l m b =
      let q = place (t ∷ ts) l m in
      far_if f (same (symbol_of t) s.LeftParen) (if f.low.rules.may_call l t then plain_low q else Err (AmbiguousCall t.span.start)) (Err (refusal f.low q))
      (far_if f (f.low.rules.may_call l t) (plain_low q) (Err (AmbiguousCall t.span.start)) (plain_reads.goes.far q b) (ambiguous_apart f.low.len t.span.start f.cut))
      (refused_far f (t ∷ ts) l m b)

  open_reads : Reads f anything any (λ zs. the_sign f.at (codes "(") ∷ zs) tt never (read.open_arguments f.low) (read.open_arguments f.high)
  unfolding same symbol_of
  open_reads = record {
    goes = record {
      idle = λ l m. takes_idle (read.open_arguments f.low (place f.cut l m)) (open_takes f.low f.bound f.cut l m f.late);
      inside = open_inside;
      far = λ p b. open_far p.ahead p.last p.level b;
    };
    opens = record {
      opens = λ zs l m b fol.
          let t = the_sign f.at (codes "(") in
          let e = plain_reads.opens.opens zs l m b fol in
          record { value = e.value; last = e.last; level = e.level; low = e.low; same = e.same; reads = open_high t zs l m refl (f.calls_late l t refl) ∙ e.reads };
    };
    late = plain_reads.late;
  }

-- ---- arguments

module _ (f : Frame) (low high : Readers) (held : Held f low high) (local : LocalReaders some_tails low) where
  pub leveled : (n : ℕ) → n ≤ top f → Reads f anything any (λ zs. zs) tt (λ z. z ≡ tt) (set_level n) (set_level n)
  leveled n h = record { goes = to_level_goes f anything n h; opens = to_level_opens f (roof f) n (let x : n ≤ roof f = omega arith in x) anything; late = λ _ _ b. b }

  in_parens_reads : Reads f AtParen any (λ zs. zs) tt (λ z. z ≡ tt) (code.in_parens f.low low) (code.in_parens f.high high)
  unfolding code.in_parens
  in_parens_reads =
      let none = given f AtParen tree.no_exprs tree.no_exprs in
      record {
        goes = choose_goes f (sees s.RightParen) (peek_sees s.RightParen) none.goes
            (settle f (λ d b. absurd b) (rest f (expressions_reads f low high held local) (λ x y. given f AtParen (exprs x) (exprs y)) (λ _ z. z.list)).goes);
        opens = this_opens f {close = λ zs. zs} (sees s.RightParen) (code.expressions f.high high >>= (λ es. pure (exprs es))) (λ zs l m h. sees_first s.RightParen zs l m ∙ h.sees) none.opens;
        late = λ _ _ b. b;
      }

  close_reads : (x y : Exprs) → Reads f anything any (λ zs. the_sign f.at (codes ")") ∷ zs) tt never (read.expect f.low s.RightParen >>= (λ _. pure x)) (read.expect f.high s.RightParen >>= (λ _. pure y))
  unfolding same symbol_of
  close_reads x y = rest f (symbol_of_it f s.RightParen (the_sign f.at (codes ")")) refl refl) (λ _ _. given f anything x y) (λ _ z. z)

  list_reads : (n : ℕ) → n ≤ top f → Reads f anything any (λ zs. the_sign f.at (codes "(") ∷ the_sign f.at (codes ")") ∷ zs) tt never (code.list_arguments f.low low n) (code.list_arguments f.high high n)
  unfolding code.list_arguments same symbol_of
  list_reads n h = link f (open_reads f) (λ _ _. link f (leveled n h) (λ _ _. link f in_parens_reads close_reads (λ _ _. at_paren)) (λ _ _. tt)) (λ _ _. tt)

  table_argument_reads : (n : ℕ) → n ≤ top f → Reads f anything any (λ zs. the_sign f.at (codes "{") ∷ the_sign f.at (codes "}") ∷ zs) tt never (code.table_argument f.low low n) (code.table_argument f.high high n)
  unfolding code.table_argument
  table_argument_reads n h =
      link f (at_start f anything) (λ a b.
      rest f (table_reads f low high held local n h) (λ x y.
      idle f (spanned f anything a b) (λ i j.
      given f anything (tree.more_exprs (tree.the_expr 0 i (tree.TableExpr x)) tree.no_exprs) (tree.more_exprs (tree.the_expr 0 j (tree.TableExpr y)) tree.no_exprs)) (λ _ z. z)) (λ _ z. z)) (λ _ _. tt)

  string_argument_reads : (n : ℕ) → n ≤ top f → Reads f anything any (λ zs. the_text f.at ∷ zs) tt never (code.string_argument f.low low n) (code.string_argument f.high high n)
  unfolding code.string_argument same symbol_of
  string_argument_reads n h =
      link f (at_start f anything) (λ a b.
      rest f (a_string f s.Text (the_text f.at) refl refl) (λ v w.
      idle f (leveled n h) (λ _ _.
      idle f (spanned f anything a b) (λ i j.
      given f anything (tree.more_exprs (tree.the_expr 0 i (tree.StrExpr v)) tree.no_exprs) (tree.more_exprs (tree.the_expr 0 j (tree.StrExpr w)) tree.no_exprs)) (λ _ z. z)) (λ _ z. z)) (λ _ z. z)) (λ _ _. tt)

  abbrev empty_list : List Tok → List Tok
  empty_list = λ zs. the_sign f.at (codes "(") ∷ the_sign f.at (codes ")") ∷ zs

  arguments_reads : (n : ℕ) → n ≤ top f → Reads f anything any empty_list tt never (code.arguments f.low low n) (code.arguments f.high high n)
  unfolding code.arguments sees symbol same symbol_of
  arguments_reads n h =
      either f {close = empty_list} (sees s.LeftBrace) (peek_sees s.LeftBrace) (λ zs l m _. refl) (table_argument_reads n h)
      (either f {close = empty_list} (sees s.Text) (peek_sees s.Text) (λ zs l m _. refl) (string_argument_reads n h) (list_reads n h))

  -- ---- whatever the level inside

  abbrev inside_list : ℕ → Parser Exprs
  inside_list n = set_level n >>= (λ _. code.in_parens f.low low >>= (λ es. read.expect f.low s.RightParen >>= (λ _. pure es)))

  inside_list_far : (n : ℕ) (q : Place) → Beyond f q.ahead → Far f (inside_list n q)
  inside_list_far n q b =
      let p : Place = place q.ahead q.last n in
      far_then f (λ es. read.expect f.low s.RightParen >>= (λ _. pure es)) (code.in_parens f.low low p) (in_parens_reads.goes.far p b) (λ es o c. (close_reads es es).goes.far o c)

  abbrev inside_table : ℕ → Parser Items
  inside_table n = set_level n >>= (λ _. code.fields f.low low >>= (λ x. read.expect f.low s.RightBrace >>= (λ _. pure x)))

  inside_table_far : (n : ℕ) (q : Place) → Beyond f q.ahead → Far f (inside_table n q)
  unfolding same symbol_of
  inside_table_far n q b =
      let p : Place = place q.ahead q.last n in
      far_then f (λ x. read.expect f.low s.RightBrace >>= (λ _. pure x)) (code.fields f.low low p) ((fields_reads f low high held local).goes.far p b)
      (λ x o c. far_then f (λ _. pure x) (read.expect f.low s.RightBrace o) ((symbol_of_it f s.RightBrace (the_sign f.at (codes "}")) refl refl).goes.far o c) (λ _ _ d. d))

  pub table_far : (n : ℕ) (q : Place) → Far f (read.expect f.low s.LeftBrace q) → Far f (code.table f.low low n q)
  unfolding code.table
  table_far n q h = far_then f (λ _. inside_table n) (read.expect f.low s.LeftBrace q) h (λ _ p b. inside_table_far n p b)

  pub table_idle : {D : Type 0} (th : Items → D) (stay : D → Type 0) (n l m : ℕ) → Idle f th stay (code.table f.low low n (place f.cut l m))
  unfolding code.table same symbol_of
  table_idle th stay n l m =
      never_then f any th stay (λ _. inside_table n) (read.expect f.low s.LeftBrace (place f.cut l m)) ((symbol_of_it f s.LeftBrace (the_sign f.at (codes "{")) refl refl).goes.idle l m)
      (λ _ p b. inside_table_far n p b)

  list_arguments_far : (n : ℕ) (q : Place) → Far f (read.open_arguments f.low q) → Far f (code.list_arguments f.low low n q)
  unfolding code.list_arguments
  list_arguments_far n q h = far_then f (λ _. inside_list n) (read.open_arguments f.low q) h (λ _ p b. inside_list_far n p b)

  table_argument_far : (n : ℕ) (q : Place) → Far f (read.expect f.low s.LeftBrace q) → Far f (code.table_argument f.low low n q)
  unfolding code.table_argument
  table_argument_far n q h =
      far_then f (λ x. read.span_from (start_of q) >>= (λ i. pure (tree.more_exprs (tree.the_expr 0 i (tree.TableExpr x)) tree.no_exprs))) (code.table f.low low n q) (table_far n q h) (λ _ _ b. b)

  string_argument_far : (n : ℕ) (q : Place) → Far f (read.expect f.low s.Text q) → Far f (code.string_argument f.low low n q)
  unfolding code.string_argument read.string
  string_argument_far n q h =
      far_then f (λ v. set_level n >>= (λ _. read.span_from (start_of q) >>= (λ i. pure (tree.more_exprs (tree.the_expr 0 i (tree.StrExpr v)) tree.no_exprs))))
      ((read.expect f.low s.Text >>= (λ t. pure (string_value t.kind t.bytes))) q)
      (far_then f (λ t. pure (string_value t.kind t.bytes)) (read.expect f.low s.Text q) h (λ _ _ b. b)) (λ _ _ b. b)

  arguments_far : (n : ℕ) (q : Place) → Far f (read.expect f.low s.LeftBrace q) → Far f (read.expect f.low s.Text q) → Far f (read.open_arguments f.low q) → Far f (code.arguments f.low low n q)
  unfolding code.arguments
  arguments_far n q h k i =
      far_if f (sees s.LeftBrace q) (code.table_argument f.low low n q) (if sees s.Text q then code.string_argument f.low low n q else code.list_arguments f.low low n q) (table_argument_far n q h)
      (far_if f (sees s.Text q) (code.string_argument f.low low n q) (code.list_arguments f.low low n q) (string_argument_far n q k) (list_arguments_far n q i))

  arguments_beyond : (n : ℕ) (q : Place) → Beyond f q.ahead → Far f (code.arguments f.low low n q)
  unfolding same symbol_of
  arguments_beyond n q b =
      arguments_far n q ((symbol_of_it f s.LeftBrace (the_sign f.at (codes "{")) refl refl).goes.far q b) ((symbol_of_it f s.Text (the_text f.at) refl refl).goes.far q b) ((open_reads f).goes.far q b)

  list_idle : (n l m : ℕ) → Idle f {A = Exprs} any never (code.list_arguments f.low low n (place f.cut l m))
  unfolding code.list_arguments
  list_idle n l m =
      never_then f any any never (λ _. inside_list n) (read.open_arguments f.low (place f.cut l m)) ((open_reads f).goes.idle l m) (λ _ p b. inside_list_far n p b)

  table_argument_idle : (n l m : ℕ) → Idle f {A = Exprs} any never (code.table_argument f.low low n (place f.cut l m))
  unfolding code.table_argument
  table_argument_idle n l m =
      never_then f any any never (λ x. read.span_from (start_of (place f.cut l m)) >>= (λ i. pure (tree.more_exprs (tree.the_expr 0 i (tree.TableExpr x)) tree.no_exprs)))
      (code.table f.low low n (place f.cut l m)) (table_idle any never n l m) (λ _ _ b. b)

  string_argument_idle : (n l m : ℕ) → Idle f {A = Exprs} any never (code.string_argument f.low low n (place f.cut l m))
  unfolding code.string_argument same symbol_of
  string_argument_idle n l m =
      never_then f any any never (λ v. set_level n >>= (λ _. read.span_from (start_of (place f.cut l m)) >>= (λ i. pure (tree.more_exprs (tree.the_expr 0 i (tree.StrExpr v)) tree.no_exprs))))
      (read.string f.low s.Text (place f.cut l m)) ((a_string f s.Text (the_text f.at) refl refl).goes.idle l m) (λ _ _ b. b)

  arguments_idle : (n l m : ℕ) → Idle f {A = Exprs} any never (code.arguments f.low low n (place f.cut l m))
  unfolding code.arguments
  arguments_idle n l m =
      let q = place f.cut l m in
      idle_if f any never (sees s.LeftBrace q) (code.table_argument f.low low n q) (if sees s.Text q then code.string_argument f.low low n q else code.list_arguments f.low low n q) (table_argument_idle n l m)
      (idle_if f any never (sees s.Text q) (code.string_argument f.low low n q) (code.list_arguments f.low low n q) (string_argument_idle n l m) (list_idle n l m))

  -- ---- where no token may stand

  blocked : (u : Tok) (m : ℕ) (b : Bool) → f.low.rules.may_stand u m ≡ b → nat_le m f.low.limit ≡ false → b ≡ false
  blocked u m true e h = absurd (true≢false (sym (le-leb m f.low.limit (f.bounded u m e)) ∙ h))
  blocked u m false e h = refl

  expect_blocked : (x : Symbol) (u : Tok) (ts : List Tok) (l m : ℕ) → ApartOf f.cut u → f.low.rules.may_stand u m ≡ false → Far f (read.expect f.low x (place (u ∷ ts) l m))
  unfolding read.expect read.next
  expect_blocked x u ts l m a e =
      let q = place (u ∷ ts) l m in
      far_if f (sees x q) (if f.low.rules.may_stand u m then Ok (u, behind u ts m) else Err (Nesting u.span.start)) (Err (refusal f.low q))
      (subst (λ b. Far f (if b then Ok (u, behind u ts m) else Err (Nesting u.span.start))) (sym e) (nesting_apart f.low.len u.span.start f.cut)) (refused_before f u ts l m a)

  open_blocked : (u : Tok) (ts : List Tok) (l m : ℕ) → ApartOf f.cut u → f.low.rules.may_stand u m ≡ false → Far f (read.open_arguments f.low (place (u ∷ ts) l m))
  unfolding read.open_arguments read.next sees symbol
  open_blocked u ts l m a e =
      let q = place (u ∷ ts) l m in
      far_if f (same (symbol_of u) s.LeftParen) (if f.low.rules.may_call l u then plain_low f q else Err (AmbiguousCall u.span.start)) (Err (refusal f.low q))
      (far_if f (f.low.rules.may_call l u) (plain_low f q) (Err (AmbiguousCall u.span.start))
      (subst (λ b. Far f (and_then (if b then Ok (u, behind u ts m) else Err (Nesting u.span.start)) (λ _. pure (tt {0})))) (sym e) (nesting_apart f.low.len u.span.start f.cut))
      (ambiguous_apart f.low.len u.span.start f.cut))
      (refused_before f u ts l m a)

  arguments_blocked : (n : ℕ) (u : Tok) (ts : List Tok) (l m : ℕ) → ApartOf f.cut u → nat_le m f.low.limit ≡ false → Far f (code.arguments f.low low n (place (u ∷ ts) l m))
  arguments_blocked n u ts l m a h =
      let e = blocked u m (f.low.rules.may_stand u m) refl h in
      arguments_far n (place (u ∷ ts) l m) (expect_blocked s.LeftBrace u ts l m a e) (expect_blocked s.Text u ts l m a e) (open_blocked u ts l m a e)

  arguments_opens : (n : ℕ) → n ≤ roof f → Opens f (roof f) anything any empty_list tt (code.arguments f.high high n)
  unfolding code.arguments code.list_arguments sees symbol same symbol_of
  arguments_opens n h =
      other_opens f {close = empty_list} (sees s.LeftBrace) (code.table_argument f.high high n) (λ zs l m _. refl)
      (other_opens f {close = empty_list} (sees s.Text) (code.string_argument f.high high n) (λ zs l m _. refl)
      (opens_link f (roof f) (open_reads f).opens
      (λ _. opens_link f (roof f) (to_level_opens f (roof f) n h anything) (λ _. opens_link f (roof f) in_parens_reads.opens (λ es. (close_reads es es).opens) (λ _ _. at_paren)) (λ _ _. tt)) (λ _ _. tt)))

  -- ---- calls

  abbrev call_low : ℕ → (Exprs → tree.ExprKind) → ℕ → Parser Expr
  call_low from kind n = code.arguments f.low low n >>= (λ args. read.span_from from >>= (λ i. pure (tree.the_expr 0 i (kind args))))

  abbrev call_high : ℕ → (Exprs → tree.ExprKind) → ℕ → Parser Expr
  call_high from kind n = code.arguments f.high high n >>= (λ args. read.span_from from >>= (λ i. pure (tree.the_expr 0 i (kind args))))

  abbrev Calls : (Exprs → tree.ExprKind) → Type 0
  Calls kind = (args : Exprs) (i : Span) → sort (tree.the_expr 0 i (kind args)) ≡ (false, true)

  module _ (a b : ℕ) (x y : Exprs → tree.ExprKind) (one : Calls x) (other : Calls y) where
    call_reads : (n : ℕ) → n ≤ top f → Reads f anything sort empty_list (false, true) never (call_low a x n) (call_high b y n)
    call_reads n h =
        rest f (arguments_reads n h) (λ v w.
        idle f (spanned f anything a b) (λ i j. told f anything sort (tree.the_expr 0 i (x v)) (tree.the_expr 0 j (y w)) (false, true) (one v i) (other w j)) (λ _ z. z)) (λ _ z. z)

    call_far : (n : ℕ) (q : Place) → Far f (code.arguments f.low low n q) → Far f (call_low a x n q)
    call_far n q h = far_then f (λ args. read.span_from a >>= (λ i. pure (tree.the_expr 0 i (x args)))) (code.arguments f.low low n q) h (λ _ _ b. b)

    call_idle : (n l m : ℕ) → Idle f sort never (call_low a x n (place f.cut l m))
    call_idle n l m = never_then f any sort never (λ args. read.span_from a >>= (λ i. pure (tree.the_expr 0 i (x args)))) (code.arguments f.low low n (place f.cut l m)) (arguments_idle n l m) (λ _ _ b. b)

    call_opens : (n : ℕ) → n ≤ roof f → Opens f (roof f) anything sort empty_list (false, true) (call_high b y n)
    call_opens n h =
        opens_link f (roof f) (arguments_opens n h)
        (λ w. opens_link f (roof f) (spanned f anything b b).opens (λ j. (told f anything sort (tree.the_expr 0 j (y w)) (tree.the_expr 0 j (y w)) (false, true) (other w j) (other w j)).opens) (λ _ z. z)) (λ _ z. z)

    -- inside at the level of what stands before
    here_reads : Reads f anything sort empty_list (false, true) never (λ p. call_low a x p.level p) (λ p. call_high b y p.level p)
    here_reads = record {
      goes = level_goes f (λ n h. (call_reads n h).goes) (λ l m. call_idle m l m) (λ p c. call_far p.level p (arguments_beyond p.level p c));
      opens = level_opens f call_opens;
      late = λ zs fol c. let x : f.at ≤ f.at = omega arith in (x, (x, c));
    }

    abbrev deep_low : Parser Expr
    deep_low = λ p. call_low a x (read.deeper f.low.limit p.level) p

    abbrev deep_high : Parser Expr
    deep_high = λ p. call_high b y (read.deeper f.high.limit p.level) p

    deeper_is : (limit n : ℕ) → nat_le n limit ≡ true → read.deeper limit n ≡ n + 1
    unfolding read.deeper
    deeper_is limit n h = ap (λ z. if z then n + 1 else n) h

    deep_inside : (u : Tok) (us : List Tok) (l m : ℕ) → m ≤ top f → Before f (u ∷ us) → (c : Bool) → nat_le m f.low.limit ≡ c
        → Claim f anything sort deep_high (u ∷ us) l m (deep_low (place (u ∷ (us ++ f.cut)) l m))
    deep_inside u us l m h d true e =
        let fine : m ≤ f.low.limit = leb-true m f.low.limit e in
        let q = place (u ∷ (us ++ f.cut)) l m in
        subst (λ n. Claim f anything sort deep_high (u ∷ us) l m (call_low a x n q)) (sym (deeper_is f.low.limit m e))
        (claim_from f anything sort deep_high (call_high b y (m + 1)) (u ∷ us) (u ∷ us) l m l m
        (λ new. ap (λ n. call_high b y n (place (u ∷ (us ++ new)) l m)) (deeper_is f.high.limit m (le-leb m f.high.limit (fits f m h)))) (call_low a x (m + 1) q)
        ((call_reads (m + 1) (let z : m + 1 ≤ top f = omega arith in z)).goes.inside u us l m h d))
    deep_inside u us l m h d false e =
        let q = place (u ∷ (us ++ f.cut)) l m in
        claim_far f anything sort deep_high (u ∷ us) l m (deep_low q) (call_far (read.deeper f.low.limit m) q (arguments_blocked (read.deeper f.low.limit m) u (us ++ f.cut) l m d.0 e))

    -- inside one level deeper, where anything may be opened
    deep_goes : Goes f anything sort never deep_low deep_high
    deep_goes = record {
      idle = λ l m. call_idle (read.deeper f.low.limit m) l m;
      inside = λ u us l m h d. deep_inside u us l m h d (nat_le m f.low.limit) refl;
      far = λ p c. call_far (read.deeper f.low.limit p.level) p (arguments_beyond (read.deeper f.low.limit p.level) p c);
    }

  pub call_goes : (a b : ℕ) (x y : Expr) → Goes f anything sort never (code.call f.low low a x) (code.call f.high high b y)
  unfolding code.call
  call_goes a b x y = deep_goes a b (tree.Call x) (tree.Call y) (λ _ _. refl) (λ _ _. refl)

  pub method_goes : (a b : ℕ) (x y : Expr) → Goes f anything sort never (code.method f.low low a x) (code.method f.high high b y)
  unfolding code.method
  method_goes a b x y =
      deeper f s.Colon (λ _ _.
      link f (at_start f anything) (λ c d.
      link f (a_name f) (λ n o.
      link f (spanned f anything c d) (λ i j.
      here_reads a b (tree.Method x n i) (tree.Method y o j) (λ _ _. refl) (λ _ _. refl)) (λ _ _. tt)) (λ _ _. tt)) (λ _ _. tt))
