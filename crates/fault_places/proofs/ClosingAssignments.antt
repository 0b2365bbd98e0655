-- The parsers of targets, assignments and calls that are statements, up to a refused token.
use Rattle.std.proofs.Common.{◌≡◌, ℕ, zero, suc, ◌+◌, ◌≤◌, Bool, true, false, List, [], ◌∷◌, ◌++◌, length, refl, sym, ◌∙◌, ap, codes, arith, if◌then◌else◌, Option, Some, None}
use Rattle.std.specs.Prelude.{Ok, Err}
use Rattle.luau_lex.specs.Tokens.{Tok}
use Rattle.luau_tree.specs.declared.names.BinOp.{BinOp}
use Rattle.luau_tree.specs.Tree.{Expr, Stat}
use Rattle.luau_tree.specs.Tree as tree
use Rattle.luau_tree.specs.View.{exprs}
use Rattle.luau_grammar.specs.declared.error.ParseError.{ParseError}
use Rattle.luau_grammar.specs.declared.symbol.Symbol.{Symbol}
use Rattle.luau_grammar.specs.declared.symbol.Symbol.TheVariants as s
use Rattle.luau_grammar.specs.Symbols.{same, symbol_of}
use Rattle.luau_grammar.specs.Places.{Place, first_symbol, symbol, sees, start_of, from_to, at_level}
use Rattle.luau_grammar.specs.Operators.{compound_of}
use Rattle.luau_grammar.specs.Expressions.{begins_suffix}
use Rattle.luau_grammar.specs.Statements.{is_variable, is_call, is_last}
use Rattle.luau_grammar.specs.Reading as read
use Rattle.luau_grammar.specs.Reading.{Parser, Outcome, Readers, ◌>>=◌, and_then, pure, start}
use Rattle.luau_grammar.specs.ReadExpressions as values
use Rattle.luau_grammar.specs.ReadStatements as code
use Rattle.grammar_faults.proofs.LocalTypes.{LocalReaders}
use Rattle.grammar_faults.proofs.LocalStatements as locals
use Rattle.grammar_faults.specs.Fronts.{BeginFrom}
use Rattle.fault_places.proofs.Closing.{Frame, place, Beyond, Late, top, roof, peak, Far, Ends, Opens, Idle, Goes, far_then, claim_from, opens_by}
use Rattle.fault_places.proofs.ClosingTokens.{anything, any, never, settle, goes_by, refuses, value_goes, other_opens, level_goes, next_high, raise_high, under}
use Rattle.fault_places.proofs.ClosingSteps.{Reads, link, rest, idle}
use Rattle.fault_places.proofs.ClosingWords.{EndsValue, the_name, the_sign}
use Rattle.fault_places.proofs.ClosingSymbols.{symbol_of_it, token, given, at_start, spanned, peek_start}
use Rattle.fault_places.proofs.ClosingLists.{Held, EndsList, some_tails, expression_reads, separated_from_reads}
use Rattle.fault_places.proofs.ClosingBodies.{sort, told, then_then}
use Rattle.fault_places.proofs.ClosingValues.{expressions_reads}
use Rattle.fault_places.proofs.ClosingSuffixes.{NoSuffix, value_suffix, no_suffix, prefix_reads, suffix_goes, primary_sort}
use Rattle.fault_places.proofs.ClosingTables.{turns_far}
use Rattle.fault_places.proofs.ClosingTargets.{turn, stopped, went, behind_primary}
use Rattle.fault_places.proofs.ClosingChoices.{by_peek, opens_link, loop_opens, never_then, restored_opens}
use Rattle.fault_places.proofs.ClosingMembers.{name_unlike}
use Rattle.fault_places.proofs.ClosingForms.{only_name}

-- no statement goes on with a symbol
pub record EndsCall (x : Symbol) : Type 0 where
  pub list : EndsList EndsValue x
  pub compound : compound_of x ≡ None

module _ (f : Frame) (low high : Readers) (held : Held f low high) (local : LocalReaders some_tails low) (others : LocalReaders some_tails high) where
  abbrev field : List Tok → List Tok
  field = λ zs. the_sign f.at (codes ".") ∷ the_name f.at ∷ zs

  field_late : (zs : List Tok) → BeginFrom f.at zs → BeginFrom f.at (field zs)
  field_late zs h = let x : f.at ≤ f.at = omega arith in (x, (x, h))

  -- one more suffix, `.x`, which makes a variable of each prefix
  pub with_field : (b : ℕ) (y : Expr) (zs : List Tok) (l m : ℕ) → m ≤ roof f
      → values.index f.high high b y (place (field zs) l m) ≡ Ok (tree.the_expr 0 (record { start = b; end = f.at }) (tree.Index y (codes "x")), place zs f.at (m + 1))
  unfolding values.index read.expect read.name sees symbol same symbol_of
  with_field b y zs l m h =
      let t = the_sign f.at (codes ".") in
      let u = the_name f.at in
      let rest : List ℕ → Parser Expr = λ n. read.span_from b >>= (λ i. pure (tree.the_expr 0 i (tree.Index y n))) in
      ap (λ o. and_then o (λ _. read.raise f.high >>= (λ _. read.name f.high >>= rest))) (next_high f t (u ∷ zs) l m (let r = f.room in omega arith))
      ∙ (ap (λ o. and_then o (λ _. read.name f.high >>= rest)) (raise_high f (u ∷ zs) f.at m (let r = f.room in omega arith))
      ∙ ap (λ o. and_then (and_then o (λ v. pure v.bytes)) rest) (next_high f u zs f.at (m + 1) (let r = f.room in omega arith)))

  suffix_there : (b n : ℕ) (y : Expr) (zs : List Tok) (l m : ℕ) → m ≤ roof f
      → turn f low high held local others b (suc n) y (place (field zs) l m) ≡ turn f low high held local others b n (tree.the_expr 0 (record { start = b; end = f.at }) (tree.Index y (codes "x"))) (place zs f.at (m + 1))
  unfolding values.suffix sees symbol same symbol_of
  suffix_there b n y zs l m h =
      went f low high held local others b (suc n) n y (place (field zs) l m) refl refl ∙ ap (λ o. and_then o (turn f low high held local others b n)) (with_field b y zs l m h)

  -- ---- what is asked of a prefix, at the level of its beginning

  at_goes : {A C : Type 0} {F : Symbol → Type 0} {sh : A → C} {stay : C → Type 0} {r v : Parser A} (m : ℕ) → m ≤ top f → Goes f F sh stay r v
      → Goes f F sh stay (λ q. r (at_level m q)) (λ q. v (at_level m q))
  at_goes {F = F} {sh = sh} {r = r} {v = v} m h k = record {
    idle = λ l n. k.idle l m;
    inside = λ u us l n b a. claim_from f F sh (λ q. v (at_level m q)) v (u ∷ us) (u ∷ us) l n l m (λ new. refl) (r (place (u ∷ (us ++ f.cut)) l m)) (k.inside u us l m h a);
    far = λ p b. k.far (at_level m p) b;
  }

  module _ {B D : Type 0} (H : Symbol → Type 0) (th : B → D) (one other : Expr → Parser B) (close : Bool × Bool → List Tok → List Tok) (kind : Bool × Bool → D) (still : Bool × Bool → D → Type 0)
      (asks : (x y : Expr) → sort y ≡ sort x → Goes f H th (still (sort x)) (one x) (other y))
      (final : (b k : ℕ) → k ≤ roof f → (n : ℕ) (y : Expr) (zs : List Tok) (l m : ℕ) → m ≤ roof f → H (first_symbol zs) → length (close (sort y) zs) ≤ n
      → Ends f (roof f) th (kind (sort y)) (turn f low high held local others b n y >>= (λ e q. other e (at_level k q))) (place (close (sort y) zs) l m) zs)
      (quiet : (c : Bool × Bool) (d : D) → still c d → ((zs : List Tok) → close c zs ≡ zs) × (d ≡ kind c))
      (late : (c : Bool × Bool) → Late f H (close c)) where
    abbrev inner_low : ℕ → ℕ → Parser B
    inner_low m a = values.primary f.low low >>= (λ x. read.repeat f.low (λ _ p. begins_suffix p) (values.suffix f.low low a) x >>= (λ e q. one e (at_level m q)))

    abbrev inner_high : ℕ → ℕ → Parser B
    inner_high m a = values.primary f.high high >>= (λ x. read.repeat f.high (λ _ p. begins_suffix p) (values.suffix f.high high a) x >>= (λ e q. other e (at_level m q)))

    own_low : (p : Place) → and_then (code.own_prefix f.low low p) one ≡ inner_low p.level (start_of p) p
    unfolding code.own_prefix values.prefix
    own_low p =
        sym (then_then (values.prefix f.low low p) (λ e q. Ok (e, at_level p.level q)) one)
        ∙ sym (then_then (values.primary f.low low p) (λ x. read.repeat f.low (λ _ p. begins_suffix p) (values.suffix f.low low (start_of p)) x) (λ e q. one e (at_level p.level q)))

    own_high : (p : Place) → and_then (code.own_prefix f.high high p) other ≡ inner_high p.level (start_of p) p
    unfolding code.own_prefix values.prefix
    own_high p =
        sym (then_then (values.prefix f.high high p) (λ e q. Ok (e, at_level p.level q)) other)
        ∙ sym (then_then (values.primary f.high high p) (λ x. read.repeat f.high (λ _ p. begins_suffix p) (values.suffix f.high high (start_of p)) x) (λ e q. other e (at_level p.level q)))

    leveled_reads : (m : ℕ) → m ≤ top f → (a : ℕ) → Reads f H th (λ zs. the_name f.at ∷ close (true, false) zs) (kind (true, false)) never (inner_low m a) (inner_high m a)
    leveled_reads m h a =
        behind_primary f low high held local others H th (λ e q. one e (at_level m q)) (λ e q. other e (at_level m q)) close kind still a a
        (λ x y e. at_goes m h (asks x y e)) (final a m (let x : m ≤ roof f = omega arith in x)) quiet late

    all_far : (m a : ℕ) (x : Expr) (q : Place) → Beyond f q.ahead → Far f ((read.repeat f.low (λ _ p. begins_suffix p) (values.suffix f.low low a) x >>= (λ e q. one e (at_level m q))) q)
    all_far m a x q b =
        far_then f (λ e q. one e (at_level m q)) (read.repeat f.low (λ _ p. begins_suffix p) (values.suffix f.low low a) x q)
        (turns_far f (λ _ p. begins_suffix p) (values.suffix f.low low a) (λ y p d. (suffix_goes f low high held local a a y y).far p d) (length q.ahead) x q b)
        (λ e p c. (asks e e refl).far (at_level m p) c)

    inner_idle : (m l n : ℕ) → Idle f th never (inner_low m (start_of (place f.cut l n)) (place f.cut l n))
    inner_idle m l n =
        let a = start_of (place f.cut l n) in
        never_then f sort th never (λ x. read.repeat f.low (λ _ p. begins_suffix p) (values.suffix f.low low a) x >>= (λ e q. one e (at_level m q))) (values.primary f.low low (place f.cut l n))
        ((primary_sort f low high held local).goes.idle l n) (λ x q b. all_far m a x q b)

    inner_far : (m : ℕ) (p : Place) → Beyond f p.ahead → Far f (inner_low m (start_of p) p)
    inner_far m p b =
        far_then f (λ x. read.repeat f.low (λ _ p. begins_suffix p) (values.suffix f.low low (start_of p)) x >>= (λ e q. one e (at_level m q))) (values.primary f.low low p)
        ((primary_sort f low high held local).goes.far p b) (λ x q c. all_far m (start_of p) x q c)

    pub asked_goes : Goes f H th never (code.own_prefix f.low low >>= one) (code.own_prefix f.high high >>= other)
    asked_goes =
        goes_by f own_low own_high
        (level_goes f
        (λ m h. by_peek f start_of (inner_low m) (inner_high m) peek_start (λ a. (leveled_reads m h a).goes))
        (λ l m. inner_idle m l m) (λ p b. inner_far p.level p b))

  pub asked_opens : {B D : Type 0} (first : List Tok → List Tok) → Opens f (roof f) NoSuffix sort first (true, false) (values.prefix f.high high)
      → (H : Symbol → Type 0) (th : B → D) (other : Expr → Parser B) (close : List Tok → List Tok) (kind : D)
      → ((zs : List Tok) → H (first_symbol zs) → NoSuffix (first_symbol (close zs))) → ((y : Expr) → is_variable y ≡ true → Opens f (roof f) H th close kind (other y))
      → Opens f (roof f) H th (λ zs. first (close zs)) kind (code.own_prefix f.high high >>= other)
  unfolding code.own_prefix
  asked_opens first given_prefix H th other close kind joins asks =
      let own = restored_opens f given_prefix in
      record {
        opens = λ zs l m h fol.
            let e = own.opens (close zs) l m h (joins zs fol) in
            let o = (asks e.value (ap (λ (z : Bool × Bool). z.0) e.same)).opens zs e.last e.level e.low fol in
            record { value = o.value; last = o.last; level = o.level; low = o.low; same = o.same; reads = ap (λ z. and_then z other) e.reads ∙ o.reads };
      }

  -- ---- variables

  abbrev made : Bool → List Tok → List Tok
  made true = λ zs. zs
  made false = field

  abbrev Made : Bool → Type 0
  Made true = Unit {0}
  Made false = ⊥

  abbrev check_low : Expr → Parser Expr
  check_low e = λ p. if is_variable e then Ok (e, p) else read.refuse f.low p

  abbrev check_high : Expr → Parser Expr
  check_high e = λ p. if is_variable e then Ok (e, p) else read.refuse f.high p

  check_goes : (x y : Expr) (a b : Bool) → b ≡ a → Goes f NoSuffix any (λ _. Made a) (λ p. if a then pure x p else read.refuse f.low p) (λ p. if b then pure y p else read.refuse f.high p)
  check_goes x y true true e = settle f (λ _ _. tt) (given f NoSuffix x y).goes
  check_goes x y false false e = refuses f NoSuffix any (λ _. ⊥)
  check_goes x y true false e = absurd (cc)
  check_goes x y false true e = absurd (cc)

  -- the prefix that is closed, where the level of its beginning holds again
  abbrev Final : {B D : Type 0} → (B → D) → D → (Expr → Parser B) → ℕ → ℕ → ℕ → Expr → List Tok → List Tok → ℕ → ℕ → Type 0
  Final th kind other b k n y ts zs l m = Ends f (roof f) th kind (turn f low high held local others b n y >>= (λ e q. other e (at_level k q))) (place ts l m) zs

  settled : {B D : Type 0} (th : B → D) (kind : D) (other : Expr → Parser B) (b k n : ℕ) (y : Expr) (zs ws : List Tok) (l m : ℕ) → NoSuffix (first_symbol ws)
      → Ends f (roof f) th kind (other y) (place ws l k) zs → Final th kind other b k n y ws zs l m
  settled th kind other b k n y zs ws l m h e = record {
    value = e.value;
    last = e.last;
    level = e.level;
    low = e.low;
    same = e.same;
    reads = ap (λ o. and_then o (λ e q. other e (at_level k q))) (stopped f low high held local others b n y (place ws l m) (no_suffix ws l m h)) ∙ e.reads;
  }

  lengthened : {B D : Type 0} (th : B → D) (kind : D) (other : Expr → Parser B) (b k n : ℕ) (y : Expr) (zs ws : List Tok) (l m : ℕ) → m ≤ roof f → length (field ws) ≤ n → NoSuffix (first_symbol ws)
      → ((v : Expr) → is_variable v ≡ true → (i : ℕ) → Ends f (roof f) th kind (other v) (place ws i k) zs) → Final th kind other b k n y (field ws) zs l m
  lengthened th kind other b k zero y zs ws l m h i g e = absurd (omega arith)
  lengthened th kind other b k (suc n) y zs ws l m h i g e =
      let v = tree.the_expr 0 (record { start = b; end = f.at }) (tree.Index y (codes "x")) in
      let o = settled th kind other b k n v zs ws f.at (m + 1) g (e v refl f.at) in
      record {
        value = o.value;
        last = o.last;
        level = o.level;
        low = o.low;
        same = o.same;
        reads = ap (λ o. and_then o (λ e q. other e (at_level k q))) (suffix_there b n y ws l m h) ∙ o.reads;
      }

  checked : (v : Expr) (e : is_variable v ≡ true) (zs : List Tok) (l k : ℕ) → k ≤ roof f → Ends f (roof f) any tt (check_high v) (place zs l k) zs
  checked v e zs l k h =
      record { value = v; last = l; level = k; low = h; same = refl; reads = ap (λ z. if z then Ok (v, place zs l k) else read.refuse f.high (place zs l k)) e }

  variable_final : (b k : ℕ) → k ≤ roof f → (n : ℕ) (y : Expr) (zs : List Tok) (l m : ℕ) → m ≤ roof f → NoSuffix (first_symbol zs) → (c : Bool) → is_variable y ≡ c → length (made c zs) ≤ n
      → Final any tt check_high b k n y (made c zs) zs l m
  variable_final b k fine n y zs l m h fol true e i = settled any tt check_high b k n y zs zs l m fol (checked y e zs l k fine)
  variable_final b k fine n y zs l m h fol false e i = lengthened any tt check_high b k n y zs zs l m h i fol (λ v d j. checked v d zs j k fine)

  made_quiet : (c : Bool) (d : Unit {0}) → Made c → ((zs : List Tok) → made c zs ≡ zs) × (d ≡ tt)
  made_quiet true d h = ((λ zs. refl), refl)
  made_quiet false d h = absurd h

  made_late : (H : Symbol → Type 0) (c : Bool) → Late f H (made c)
  made_late H true zs fol b = b
  made_late H false zs fol b = field_late zs b

  variable_reads : Reads f NoSuffix any (λ zs. the_name f.at ∷ zs) tt never (code.variable f.low low) (code.variable f.high high)
  unfolding code.variable
  variable_reads = record {
    goes = asked_goes NoSuffix any check_low check_high (λ c. made c.0) (λ _. tt) (λ c _. Made c.0)
        (λ x y e. check_goes x y (is_variable x) (is_variable y) (ap (λ (z : Bool × Bool). z.0) e))
        (λ b k fine n y zs l m h fol i. variable_final b k fine n y zs l m h fol (is_variable y) refl i) (λ c d h. made_quiet c.0 d h) (λ c. made_late NoSuffix c.0);
    opens = asked_opens (λ zs. the_name f.at ∷ zs) (prefix_reads f low high held local).opens NoSuffix any check_high (λ zs. zs) tt (λ zs z. z) (λ y e. record { opens = λ zs l m h fol. checked y e zs l m h });
    late = λ zs fol b. (let x : f.at ≤ f.at = omega arith in x, b);
  }

  -- ---- statements that begin with a prefix

  targets_end : EndsList NoSuffix s.Assign
  unfolding same
  targets_end = record { one = record { dot = refl; bracket = refl; colon = refl; paren = refl; brace = refl; text = refl }; comma = refl }

  assign_reads : (a b : ℕ) (x y : Expr) → Reads f (EndsList EndsValue) is_last (λ zs. the_sign f.at (codes "=") ∷ the_name f.at ∷ zs) false never (code.assign f.low low a x) (code.assign f.high high b y)
  unfolding code.assign same symbol_of
  assign_reads a b x y =
      link f (separated_from_reads f NoSuffix (λ zs. the_name f.at ∷ zs) (code.variable f.low low) (code.variable f.high high) (locals.variable_local f.low low some_tails local) variable_reads (x ∷ []) (y ∷ [])) (λ v w.
      link f (symbol_of_it f s.Assign (the_sign f.at (codes "=")) refl refl) (λ _ _.
      rest f (expressions_reads f low high held local) (λ r t.
      idle f (spanned f (EndsList EndsValue) a b) (λ i j.
      told f (EndsList EndsValue) is_last (tree.the_stat i (tree.Assign (exprs v) (exprs r))) (tree.the_stat j (tree.Assign (exprs w) (exprs t))) false refl refl) (λ _ z. z)) (λ _ z. z)) (λ _ _. tt)) (λ _ _. targets_end)

  compound_goes : (a b : ℕ) (x y : Expr) (op : BinOp) → Goes f (EndsList EndsValue) is_last never (code.compound f.low low a x op) (code.compound f.high high b y op)
  unfolding code.compound
  compound_goes a b x y op =
      (link f (token f (the_sign f.at (codes "+=")) refl) (λ _ _.
      rest f (expression_reads f low high held) (λ v w.
      idle f (spanned f (EndsList EndsValue) a b) (λ i j.
      told f (EndsList EndsValue) is_last (tree.the_stat i (tree.Compound x op v)) (tree.the_stat j (tree.Compound y op w)) false refl refl) (λ _ z. z)) (λ _ z. z.one)) (λ _ _. tt)).goes

  module _ (a b : ℕ) where
    abbrev Called : Bool → Bool → Bool → Type 0
    Called true c = λ _. ⊥
    Called false true = λ z. z ≡ false
    Called false false = λ _. ⊥

    abbrev call_low : Expr → Parser Stat
    call_low x = λ p. Ok (tree.the_stat (from_to a p) (tree.CallStat x), p)

    abbrev call_high : Expr → Parser Stat
    call_high y = λ p. Ok (tree.the_stat (from_to b p) (tree.CallStat y), p)

    none_goes : (x y : Expr) (v w c d : Bool) → w ≡ v → d ≡ c
        → Goes f EndsCall is_last (Called v c) (λ p. if v then code.assign f.low low a x p else if c then call_low x p else read.refuse f.low p)
        (λ p. if w then code.assign f.high high b y p else if d then call_high y p else read.refuse f.high p)
    none_goes x y true true c d e h = settle f (λ _ k. absurd k) (under f (λ x z. z.list) (assign_reads a b x y).goes)
    none_goes x y true false c d e h = absurd (cc)
    none_goes x y false true c d e h = absurd (cc)
    none_goes x y false false true true e h =
        value_goes f EndsCall is_last (λ p. tree.the_stat (from_to a p) (tree.CallStat x)) (λ p. tree.the_stat (from_to b p) (tree.CallStat y)) (λ u ts us l m. refl) (λ p q. refl) false (λ p. refl)
    none_goes x y false false false false e h = refuses f EndsCall is_last (λ _. ⊥)
    none_goes x y false false true false e h = absurd (cc)
    none_goes x y false false false true e h = absurd (cc)

    some_goes : (x y : Expr) (op : BinOp) (v w c : Bool) → w ≡ v
        → Goes f EndsCall is_last (Called v c) (λ p. if v then code.compound f.low low a x op p else read.refuse f.low p) (λ p. if w then code.compound f.high high b y op p else read.refuse f.high p)
    some_goes x y op true true c e = settle f (λ _ k. absurd k) (under f (λ x z. z.list) (compound_goes a b x y op))
    some_goes x y op true false c e = absurd (cc)
    some_goes x y op false true c e = absurd (cc)
    some_goes x y op false false c e = refuses f EndsCall is_last (Called false c)

    by_goes : (x y : Expr) → sort y ≡ sort x → (o : Option BinOp) → Goes f EndsCall is_last (Called (is_variable x) (is_call x)) (code.prefix_by f.low low a x o) (code.prefix_by f.high high b y o)
    by_goes x y e None = none_goes x y (is_variable x) (is_variable y) (is_call x) (is_call y) (ap (λ (z : Bool × Bool). z.0) e) (ap (λ (z : Bool × Bool). z.1) e)
    by_goes x y e (Some op) = some_goes x y op (is_variable x) (is_variable y) (is_call x) (ap (λ (z : Bool × Bool). z.0) e)

    behind_goes : (x y : Expr) → sort y ≡ sort x → Goes f EndsCall is_last (Called (is_variable x) (is_call x)) (code.behind_prefix f.low low a x) (code.behind_prefix f.high high b y)
    unfolding code.behind_prefix symbol
    behind_goes x y e = by_peek f (λ p. compound_of (symbol p)) (code.prefix_by f.low low a x) (code.prefix_by f.high high b y) (λ u ts us l m. refl) (by_goes x y e)

    abbrev completed : Bool → Bool → List Tok → List Tok
    completed true c = λ zs. the_sign f.at (codes "=") ∷ the_name f.at ∷ zs
    completed false true = λ zs. zs
    completed false false = λ zs. field (the_sign f.at (codes "=") ∷ the_name f.at ∷ zs)

    assigned : (v : Expr) → is_variable v ≡ true → (zs : List Tok) (l k : ℕ) → k ≤ roof f → EndsCall (first_symbol zs)
        → Ends f (roof f) is_last false (code.behind_prefix f.high high b v) (place (the_sign f.at (codes "=") ∷ the_name f.at ∷ zs) l k) zs
    unfolding code.behind_prefix symbol symbol_of
    assigned v e zs l k h fol =
        let p = place (the_sign f.at (codes "=") ∷ the_name f.at ∷ zs) l k in
        let o = (assign_reads a b v v).opens.opens zs l k h fol.list in
        record {
          value = o.value;
          last = o.last;
          level = o.level;
          low = o.low;
          same = o.same;
          reads = ap (λ z. if z then code.assign f.high high b v p else if is_call v then call_high v p else read.refuse f.high p) e ∙ o.reads;
        }

    called : (v : Expr) → is_variable v ≡ false → is_call v ≡ true → (zs : List Tok) (l k : ℕ) → k ≤ roof f → EndsCall (first_symbol zs)
        → Ends f (roof f) is_last false (code.behind_prefix f.high high b v) (place zs l k) zs
    unfolding code.behind_prefix symbol
    called v e c zs l k h fol =
        let p = place zs l k in
        record {
          value = tree.the_stat (from_to b p) (tree.CallStat v);
          last = l;
          level = k;
          low = h;
          same = refl;
          reads = ap (λ o. code.prefix_by f.high high b v o p) fol.compound
              ∙ (ap (λ z. if z then code.assign f.high high b v p else if is_call v then call_high v p else read.refuse f.high p) e
              ∙ ap (λ z. if z then call_high v p else read.refuse f.high p) c);
        }

    statement_final : (from k : ℕ) → k ≤ roof f → (n : ℕ) (y : Expr) (zs : List Tok) (l m : ℕ) → m ≤ roof f → EndsCall (first_symbol zs) → (v c : Bool) → is_variable y ≡ v → is_call y ≡ c → length (completed v c zs) ≤ n
        → Final is_last false (code.behind_prefix f.high high b) from k n y (completed v c zs) zs l m
    unfolding symbol_of
    statement_final from k fine n y zs l m h fol true c e d i =
        settled is_last false (code.behind_prefix f.high high b) from k n y zs (the_sign f.at (codes "=") ∷ the_name f.at ∷ zs) l m targets_end.one (assigned y e zs l k fine fol)
    statement_final from k fine n y zs l m h fol false true e d i =
        settled is_last false (code.behind_prefix f.high high b) from k n y zs zs l m (value_suffix (first_symbol zs) fol.list.one) (called y e d zs l k fine fol)
    statement_final from k fine n y zs l m h fol false false e d i =
        lengthened is_last false (code.behind_prefix f.high high b) from k n y zs (the_sign f.at (codes "=") ∷ the_name f.at ∷ zs) l m h i targets_end.one (λ v g j. assigned v g zs j k fine fol)

    completed_quiet : (v c : Bool) (d : Bool) → Called v c d → ((zs : List Tok) → completed v c zs ≡ zs) × (d ≡ false)
    completed_quiet true c d h = absurd h
    completed_quiet false true d h = ((λ zs. refl), h)
    completed_quiet false false d h = absurd h

    completed_late : (v c : Bool) → Late f EndsCall (completed v c)
    completed_late true c zs fol h = let x : f.at ≤ f.at = omega arith in (x, (x, h))
    completed_late false true zs fol h = h
    completed_late false false zs fol h = let x : f.at ≤ f.at = omega arith in (x, (x, (x, (x, h))))

    pub prefix_statement_reads : Reads f EndsCall is_last (λ zs. the_name f.at ∷ the_sign f.at (codes "=") ∷ the_name f.at ∷ zs) false never (code.prefix_statement f.low low a) (code.prefix_statement f.high high b)
    unfolding code.prefix_statement symbol_of
    prefix_statement_reads = record {
      goes = asked_goes EndsCall is_last (code.behind_prefix f.low low a) (code.behind_prefix f.high high b) (λ c. completed c.0 c.1) (λ _. false) (λ c. Called c.0 c.1) behind_goes
          (λ from k fine n y zs l m h fol i. statement_final from k fine n y zs l m h fol (is_variable y) (is_call y) refl refl i)
          (λ c d h. completed_quiet c.0 c.1 d h) (λ c. completed_late c.0 c.1);
      opens = asked_opens (λ zs. the_name f.at ∷ zs) (prefix_reads f low high held local).opens EndsCall is_last (code.behind_prefix f.high high b) (λ zs. the_sign f.at (codes "=") ∷ the_name f.at ∷ zs) false (λ zs z. targets_end.one)
          (λ y e. record { opens = λ zs l m h fol. assigned y e zs l m h fol });
      late = λ zs fol c. let x : f.at ≤ f.at = omega arith in (x, (x, (x, c)));
    }

  -- ---- a name before an assignment, and alone

  no_suffix_stop : NoSuffix s.Stop
  unfolding same
  no_suffix_stop = record { dot = refl; bracket = refl; colon = refl; paren = refl; brace = refl; text = refl }

  alone_assign : (b : ℕ) (v : Expr) (i k : ℕ) → code.assign f.high high b v (place [] i k) ≡ Err (read.refusal f.high (place [] i k))
  unfolding code.assign read.separated_from read.repeats read.expect sees symbol same
  alone_assign b v i k = refl

  alone_behind : (b : ℕ) (v : Expr) (i k : ℕ) → is_variable v ≡ true → code.behind_prefix f.high high b v (place [] i k) ≡ Err (read.refusal f.high (place [] i k))
  unfolding code.behind_prefix symbol
  alone_behind b v i k e =
      let p = place [] i k in
      ap (λ z. if z then code.assign f.high high b v p else if is_call v then Ok (tree.the_stat (from_to b p) (tree.CallStat v), p) else read.refuse f.high p) e ∙ alone_assign b v i k

  not_both : {A : Type 0} (o : Outcome A) (x : A × Place) (d : ParseError) → o ≡ Err d → o ≡ Ok x → ⊥
  not_both o x d h k = absurd (let both : Ok x ≡ Err d = sym k ∙ h in cc)

  module _ (u : Tok) (e : same (symbol_of u) s.Name ≡ true) where
    named_primary : Opens f (roof f) anything sort (λ zs. u ∷ zs) (true, false) (values.primary f.high high)
    unfolding values.primary values.name_expression sees symbol same
    named_primary =
        other_opens f {close = λ zs. u ∷ zs} (sees s.LeftParen) (values.paren f.high high) (λ zs l m _. name_unlike (symbol_of u) s.LeftParen e refl)
        (opens_link f (roof f) (at_start f anything).opens (λ b.
        opens_link f (roof f) (only_name f high (roof f) (let x : roof f ≤ peak f = omega arith in x) u e) (λ n.
        opens_link f (roof f) (spanned f anything b b).opens (λ i.
        (told f anything sort (tree.the_expr 0 i (tree.NameExpr n)) (tree.the_expr 0 i (tree.NameExpr n)) (true, false) refl refl).opens) (λ _ _. tt)) (λ _ _. tt)) (λ _ _. tt))

    named_prefix : Opens f (roof f) NoSuffix sort (λ zs. u ∷ zs) (true, false) (values.prefix f.high high)
    unfolding values.prefix
    named_prefix =
        opens_link f (roof f) (at_start f anything).opens (λ b.
        opens_by f Expr Expr (Bool × Bool) (Bool × Bool) anything NoSuffix sort sort never (λ _ _. ⊥) never (values.primary f.high high) (values.primary f.high high)
        (λ x. read.repeat f.high (λ _ p. begins_suffix p) (values.suffix f.high high b) x) (λ x. read.repeat f.high (λ _ p. begins_suffix p) (values.suffix f.high high b) x) (λ _ zs. zs) (λ c. c) named_primary
        (λ y. loop_opens f (roof f) sort (λ _ p. begins_suffix p) (values.suffix f.high high b) y (λ zs l m z. no_suffix zs l m z)) (λ _ _ _. tt)) (λ _ _. tt)

    pub prefix_named : (b : ℕ) → Opens f (roof f) EndsCall is_last (λ zs. u ∷ the_sign f.at (codes "=") ∷ the_name f.at ∷ zs) false (code.prefix_statement f.high high b)
    unfolding code.prefix_statement symbol_of
    prefix_named b =
        asked_opens (λ zs. u ∷ zs) named_prefix EndsCall is_last (code.behind_prefix f.high high b) (λ zs. the_sign f.at (codes "=") ∷ the_name f.at ∷ zs) false (λ zs z. targets_end.one)
        (λ y d. record { opens = λ zs l m h fol. assigned b b y d zs l m h fol })

    pub prefix_alone : (b l m : ℕ) → m ≤ roof f → (x : Stat × Place) → code.prefix_statement f.high high b (place (u ∷ []) l m) ≡ Ok x → ⊥
    unfolding code.prefix_statement code.own_prefix
    prefix_alone b l m h x k =
        let own = (restored_opens f named_prefix).opens [] l m h no_suffix_stop in
        not_both (code.prefix_statement f.high high b (place (u ∷ []) l m)) x (read.refusal f.high (place [] own.last own.level))
        (ap (λ o. and_then o (code.behind_prefix f.high high b)) own.reads ∙ alone_behind b own.value own.last own.level (ap (λ (z : Bool × Bool). z.0) own.same)) k
