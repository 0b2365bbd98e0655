-- The parser of the parts of an interpolated string up to a refused token.
use Rattle.std.proofs.Common.{◌≡◌, ℕ, zero, suc, ◌+◌, ◌-◌, ◌≤◌, Bool, true, false, List, [], ◌∷◌, ◌++◌, length, refl, sym, ◌∙◌, ap, subst, inl, inr, arith, if◌then◌else◌, length-append}
use Rattle.std.specs.Prelude.{Ok, Err}
use Rattle.luau_lex.specs.Tokens.{Tok}
use Rattle.luau_tree.specs.Tree.{Expr}
use Rattle.luau_tree.specs.Tree as tree
use Rattle.luau_tree.specs.View.{exprs}
use Rattle.luau_grammar.specs.declared.symbol.Symbol.TheVariants as s
use Rattle.luau_grammar.specs.Symbols.{same, symbol_of}
use Rattle.luau_grammar.specs.Places.{Place, symbol, sees}
use Rattle.luau_grammar.specs.Reading as read
use Rattle.luau_grammar.specs.Reading.{Parser, Outcome, Readers, ◌>>=◌, and_then, pure}
use Rattle.luau_grammar.specs.ReadExpressions as code
use Rattle.luau_grammar.specs.ReadExpressions.{Interpolated}
use Rattle.grammar_faults.proofs.Local.{Shorter}
use Rattle.grammar_faults.proofs.LocalTypes.{LocalReaders}
use Rattle.grammar_faults.proofs.LocalExpressions as terms
use Rattle.grammar_faults.specs.Fronts.{BeginFrom}
use Rattle.fault_places.proofs.Closing.{Frame, place, Beyond, Before, top, roof, Far, Ends, AtCut, Claim, Idle, Goes, claim_far, claim_from}
use Rattle.fault_places.proofs.ClosingTokens.{anything, any, never, refused_before, idle_of_far}
use Rattle.fault_places.proofs.ClosingSteps.{Reads, link, rest, idle, fewer}
use Rattle.fault_places.proofs.ClosingWords.{EndsValue, the_name, the_last, the_mid, the_begin, the_whole}
use Rattle.fault_places.proofs.ClosingSymbols.{given, spanned, a_string, either, peek_sees}
use Rattle.fault_places.proofs.ClosingLists.{Held, some_tails, expression_reads}
use Rattle.fault_places.proofs.ClosingBodies.{told}
use Rattle.fault_places.proofs.ClosingTables.{turns_far}
use Rattle.fault_places.proofs.ClosingChoices.{forget_reads}

abbrev opened : Interpolated → Bool
opened given = given.open_ended

-- what ends an expression that stands in an interpolated string
value_last : EndsValue s.Last
unfolding same
value_last = record { typ = record { question = refl; pipe = refl; ampersand = refl; arrow = refl; less = refl; dot = refl; dots = refl; colon = refl; paren = refl; assign = refl; name = refl; bracket = refl }; bracket = refl; brace = refl; text = refl; cast = refl; binary = refl }

module _ (f : Frame) (low high : Readers) (held : Held f low high) (local : LocalReaders some_tails low) (others : LocalReaders some_tails high) where
  abbrev ending : List Tok → List Tok
  ending = λ zs. the_last f.at ∷ zs

  part_end_reads : (x y : Interpolated) (v w : Expr) → Reads f anything opened ending false never (code.part_end f.low low x v) (code.part_end f.high high y w)
  unfolding code.part_end sees symbol same symbol_of
  part_end_reads x y v w =
      either f {close = ending} (sees s.Mid) (peek_sees s.Mid) (λ zs l m _. refl)
      (rest f (a_string f s.Mid (the_mid f.at) refl refl) (λ a b.
      told f anything opened (record { texts = x.texts ++ a ∷ []; parts = x.parts ++ v ∷ []; open_ended = true }) (record { texts = y.texts ++ b ∷ []; parts = y.parts ++ w ∷ []; open_ended = true }) true refl refl) (λ _ z. z))
      (rest f (a_string f s.Last (the_last f.at) refl refl) (λ a b.
      told f anything opened (record { texts = x.texts ++ a ∷ []; parts = x.parts ++ v ∷ []; open_ended = false }) (record { texts = y.texts ++ b ∷ []; parts = y.parts ++ w ∷ []; open_ended = false }) false refl refl) (λ _ z. z))

  part_reads : (x y : Interpolated) → Reads f anything opened (λ zs. the_name f.at ∷ ending zs) false never (code.part f.low low x) (code.part f.high high y)
  unfolding code.part symbol_of
  part_reads x y = link f (expression_reads f low high held) (λ v w. part_end_reads x y v w) (λ _ _. value_last)

  abbrev going : Interpolated → Place → Bool
  going given p = given.open_ended

  abbrev turned : ℕ → Interpolated → Parser Interpolated
  turned n x = read.repeats f.low going (code.part f.low low) n x

  abbrev turn : ℕ → Interpolated → Parser Interpolated
  turn n y = read.repeats f.high going (code.part f.high high) n y

  abbrev onward : ℕ → Interpolated → Parser Interpolated
  onward k y = λ p. turn (length p.ahead + k) y p

  stopped : (n : ℕ) (y : Interpolated) (p : Place) → y.open_ended ≡ false → turn n y p ≡ Ok (y, p)
  unfolding read.repeats
  stopped zero y p h = ap (λ z. if z then read.refuse f.high p else Ok (y, p)) h
  stopped (suc n) y p h = ap (λ z. if z then and_then (code.part f.high high y p) (turn n) else Ok (y, p)) h

  went : (n k : ℕ) (y : Interpolated) (p : Place) → n ≡ suc k → y.open_ended ≡ true → turn n y p ≡ and_then (code.part f.high high y p) (turn k)
  unfolding read.repeats
  went n k y p e h = ap (λ z. turn z y p) e ∙ ap (λ z. if z then and_then (code.part f.high high y p) (turn k) else Ok (y, p)) h

  -- what closes parts that go on, or that have ended
  abbrev closing_of : Bool → List Tok → List Tok
  closing_of true = λ zs. the_name f.at ∷ ending zs
  closing_of false = λ zs. zs

  closing_late : (b : Bool) (zs : List Tok) → BeginFrom f.at zs → BeginFrom f.at (closing_of b zs)
  closing_late true zs h = let x : f.at ≤ f.at = omega arith in (x, (x, h))
  closing_late false zs h = h

  finished : (b : Bool) (n : ℕ) (y : Interpolated) (zs : List Tok) (l m : ℕ) → m ≤ roof f → y.open_ended ≡ b → length (closing_of b zs) ≤ n → Ends f (roof f) opened false (turn n y) (place (closing_of b zs) l m) zs
  finished false n y zs l m h e k = record { value = y; last = l; level = m; low = h; same = e; reads = stopped n y (place zs l m) e }
  finished true zero y zs l m h e k = absurd (omega arith)
  finished true (suc n) y zs l m h e k =
      let o = (part_reads y y).opens.opens zs l m h tt in
      record {
        value = o.value;
        last = o.last;
        level = o.level;
        low = o.low;
        same = o.same;
        reads = went (suc n) n y (place (closing_of true zs) l m) refl e ∙ (ap (λ z. and_then z (turn n)) o.reads ∙ stopped n o.value (place zs o.last o.level) o.same);
      }

  -- one part up to closing tokens, and then what closes the others
  one_and_rest : (k : ℕ) (y : Interpolated) (c : Bool) (u : Tok) (ts zs : List Tok) (l m : ℕ) → y.open_ended ≡ true
      → Ends f (roof f) opened c (code.part f.high high y) (place (u ∷ ts) l m) (closing_of c zs) → Ends f (roof f) opened false (onward k y) (place (u ∷ ts) l m) zs
  one_and_rest k y c u ts zs l m e h =
      let t : Shorter 1 (place (u ∷ ts) l m) (Ok (h.value, place (closing_of c zs) h.last h.level)) =
      subst (λ o. Shorter 1 (place (u ∷ ts) l m) o) h.reads ((terms.part_local f.high high some_tails others y).takes (place (u ∷ ts) l m)) in
      let g = finished c (length ts + k) h.value zs h.last h.level h.low h.same (omega arith) in
      record {
        value = g.value;
        last = g.last;
        level = g.level;
        low = g.low;
        same = g.same;
        reads = went (length (u ∷ ts) + k) (length ts + k) y (place (u ∷ ts) l m) (omega arith) e ∙ (ap (λ o. and_then o (turn (length ts + k))) h.reads ∙ g.reads);
      }

  turned_far : (n : ℕ) (x : Interpolated) (q : Place) → Beyond f q.ahead → Far f (turned n x q)
  turned_far n x q b = turns_far f going (code.part f.low low) (λ y p c. (part_reads y y).goes.far p c) n x q b

  step_idle : (n : ℕ) (o : Outcome Interpolated) → Idle f opened never o → Idle f opened never (and_then o (turned n))
  step_idle n (Err e) i = tt
  step_idle n (Ok y) (inl i) = idle_of_far f opened never (turned n y.0 y.1) (turned_far n y.0 y.1 i)
  step_idle n (Ok y) (inr i) = absurd i.1

  -- at the cut parts that go on are refused
  open_idle : (n : ℕ) (x : Interpolated) (l m : ℕ) → x.open_ended ≡ true → Idle f opened never (turned n x (place f.cut l m))
  unfolding read.repeats
  open_idle zero x l m e = subst (λ b. Idle f opened never (if b then read.refuse f.low (place f.cut l m) else Ok (x, place f.cut l m))) (sym e) tt
  open_idle (suc n) x l m e =
      let q = place f.cut l m in
      subst (λ b. Idle f opened never (if b then and_then (code.part f.low low x q) (turned n) else Ok (x, q))) (sym e) (step_idle n (code.part f.low low x q) ((part_reads x x).goes.idle l m))

  closed_is : (n : ℕ) (x : Interpolated) (q : Place) → x.open_ended ≡ false → turned n x q ≡ Ok (x, q)
  unfolding read.repeats
  closed_is zero x q e = ap (λ z. if z then read.refuse f.low q else Ok (x, q)) e
  closed_is (suc n) x q e = ap (λ z. if z then and_then (code.part f.low low x q) (turned n) else Ok (x, q)) e

  open_is : (n : ℕ) (x : Interpolated) (q : Place) → x.open_ended ≡ true → turned (suc n) x q ≡ and_then (code.part f.low low x q) (turned n)
  unfolding read.repeats
  open_is n x q e = ap (λ z. if z then and_then (code.part f.low low x q) (turned n) else Ok (x, q)) e

  no_turn : (x : Interpolated) (q : Place) → x.open_ended ≡ true → turned zero x q ≡ read.refuse f.low q
  unfolding read.repeats
  no_turn x q e = ap (λ z. if z then read.refuse f.low q else Ok (x, q)) e

  cut_open : (k : ℕ) (y : Interpolated) (u : Tok) (us : List Tok) (l m : ℕ) → y.open_ended ≡ true → (x : Interpolated × Place) → x.0.open_ended ≡ true → AtCut f anything opened (code.part f.high high y) (u ∷ us) l m x
      → (o : Outcome Interpolated) → Idle f opened never o → Claim f anything opened (onward k y) (u ∷ us) l m o
  cut_open k y u us l m g x e h (Ok z) (inl i) = inl i
  cut_open k y u us l m g x e h (Ok z) (inr i) = absurd i.1
  cut_open k y u us l m g x e h (Err d) i = λ q.
      record {
        close = closing_of true;
        kind = false;
        late = λ zs _ b. closing_late true zs b;
        ends = λ zs fol.
            one_and_rest k y true u (us ++ closing_of true zs) zs l m g
            (subst (λ c. Ends f (roof f) opened c (code.part f.high high y) (place (u ∷ (us ++ closing_of true zs)) l m) (closing_of true zs)) e (h.ends (closing_of true zs) tt));
      }

  cut_claim : (n k : ℕ) (y : Interpolated) (u : Tok) (us : List Tok) (l m : ℕ) → y.open_ended ≡ true → (x : Interpolated × Place) → AtCut f anything opened (code.part f.high high y) (u ∷ us) l m x
      → (b : Bool) → x.0.open_ended ≡ b → Claim f anything opened (onward k y) (u ∷ us) l m (turned n x.0 (place f.cut x.1.last x.1.level))
  cut_claim n k y u us l m g x h true e = cut_open k y u us l m g x e h (turned n x.0 (place f.cut x.1.last x.1.level)) (open_idle n x.0 x.1.last x.1.level e)
  cut_claim n k y u us l m g x h false e =
      subst (λ o. Claim f anything opened (onward k y) (u ∷ us) l m o) (sym (closed_is n x.0 (place f.cut x.1.last x.1.level) e))
      (inr (inr (record {
        ahead = refl;
        ends = λ new fol.
            subst (λ c. Ends f (roof f) opened c (onward k y) (place (u ∷ (us ++ new)) l m) new) (sym e)
            (one_and_rest k y false u (us ++ new) new l m g
            (subst (λ c. Ends f (roof f) opened c (code.part f.high high y) (place (u ∷ (us ++ new)) l m) new) e (h.ends new tt)));
      })))

  abbrev Turns : ℕ → Type 0
  Turns n = (k : ℕ) (x y : Interpolated) → opened y ≡ opened x → (u : Tok) (us : List Tok) (l m : ℕ) → m ≤ top f → Before f (u ∷ us)
      → Claim f anything opened (onward k y) (u ∷ us) l m (turned n x (place (u ∷ (us ++ f.cut)) l m))

  step_claim : (n : ℕ) → Turns n → (k : ℕ) (y : Interpolated) (u : Tok) (us : List Tok) (l m : ℕ) → m ≤ top f → Before f (u ∷ us) → y.open_ended ≡ true
      → (o : Outcome Interpolated) → Shorter 1 (place (u ∷ (us ++ f.cut)) l m) o → Claim f anything opened (code.part f.high high y) (u ∷ us) l m o → Claim f anything opened (onward k y) (u ∷ us) l m (and_then o (turned n))
  step_claim n again k y u us l m b a g (Err d) t h = λ q.
      let c = h q in
      record {
        close = λ zs. c.close (closing_of c.kind zs);
        kind = false;
        late = λ zs _ i. c.late (closing_of c.kind zs) tt (closing_late c.kind zs i);
        ends = λ zs fol. one_and_rest k y (c.kind) u (us ++ c.close (closing_of c.kind zs)) zs l m g (c.ends (closing_of c.kind zs) tt);
      }
  step_claim n again k y u us l m b a g (Ok z) t (inl h) = claim_far f anything opened (onward k y) (u ∷ us) l m (turned n z.0 z.1) (turned_far n z.0 z.1 h)
  step_claim n again k y u us l m b a g (Ok z) t (inr (inl h)) =
      let less = fewer f us (h.rest) f.cut u (h.token) z l m h.ahead t in
      let j = length us - (length h.rest + 1) + k in
      subst (λ q. Claim f anything opened (onward k y) (u ∷ us) l m (turned n z.0 q)) (sym (ap (λ ts. place ts z.1.last z.1.level) h.ahead))
      (claim_from f anything opened (onward k y) (onward j h.value) (u ∷ us) (h.token ∷ h.rest) l m (z.1.last) (z.1.level)
      (λ new.
      let c : length (us ++ new) ≡ length us + length new = length-append us new in
      let d : length (h.rest ++ new) ≡ length h.rest + length new = length-append (h.rest) new in
      went (length (u ∷ (us ++ new)) + k) (length (us ++ new) + k) y (place (u ∷ (us ++ new)) l m) (omega arith) g
      ∙ (ap (λ o. and_then o (turn (length (us ++ new) + k))) (h.reads new)
      ∙ (let i : length (us ++ new) + k ≡ length (h.token ∷ (h.rest ++ new)) + j = omega arith in
      ap (λ q. turn q h.value (place (h.token ∷ (h.rest ++ new)) z.1.last z.1.level)) i)))
      (turned n z.0 (place (h.token ∷ (h.rest ++ f.cut)) z.1.last z.1.level))
      (again j (z.0) (h.value) h.same (h.token) (h.rest) (z.1.last) (z.1.level) h.level h.before))
  step_claim n again k y u us l m b a g (Ok z) t (inr (inr h)) =
      subst (λ q. Claim f anything opened (onward k y) (u ∷ us) l m (turned n z.0 q)) (sym (ap (λ ts. place ts z.1.last z.1.level) h.ahead))
      (cut_claim n k y u us l m g z h (z.0.open_ended) refl)

  stop_claim : (k : ℕ) (x y : Interpolated) → opened y ≡ opened x → (u : Tok) (us : List Tok) (l m : ℕ) → m ≤ top f → Before f (u ∷ us) → x.open_ended ≡ false
      → Claim f anything opened (onward k y) (u ∷ us) l m (Ok (x, place (u ∷ (us ++ f.cut)) l m))
  stop_claim k x y e u us l m b a g =
      inr (inl (record {
        token = u;
        rest = us;
        ahead = refl;
        before = a;
        level = b;
        value = y;
        same = e;
        reads = λ new. stopped (length (u ∷ (us ++ new)) + k) y (place (u ∷ (us ++ new)) l m) (e ∙ g);
      }))

  part_turns : (n : ℕ) (b : Bool) → ((j : ℕ) → n ≡ suc j → Turns j) → (k : ℕ) (x y : Interpolated) → opened y ≡ opened x → x.open_ended ≡ b → (u : Tok) (us : List Tok) (l m : ℕ) → m ≤ top f → Before f (u ∷ us)
      → Claim f anything opened (onward k y) (u ∷ us) l m (turned n x (place (u ∷ (us ++ f.cut)) l m))
  part_turns n false again k x y e g u us l m b a =
      subst (λ o. Claim f anything opened (onward k y) (u ∷ us) l m o) (sym (closed_is n x (place (u ∷ (us ++ f.cut)) l m) g)) (stop_claim k x y e u us l m b a g)
  part_turns zero true again k x y e g u us l m b a =
      subst (λ o. Claim f anything opened (onward k y) (u ∷ us) l m o) (sym (no_turn x (place (u ∷ (us ++ f.cut)) l m) g)) (λ d. absurd (refused_before f u (us ++ f.cut) l m a.0 d))
  part_turns (suc n) true again k x y e g u us l m b a =
      let q = place (u ∷ (us ++ f.cut)) l m in
      subst (λ o. Claim f anything opened (onward k y) (u ∷ us) l m o) (sym (open_is n x q g))
      (step_claim n (again n refl) k y u us l m b a (e ∙ g) (code.part f.low low x q) ((terms.part_local f.low low some_tails local x).takes q) ((part_reads x y).goes.inside u us l m b a))

  all_turns : (n : ℕ) → Turns n
  all_turns zero k x y e u us l m b a = part_turns zero (x.open_ended) (λ j d. absurd (omega arith)) k x y e refl u us l m b a
  all_turns (suc n) k x y e u us l m b a = part_turns (suc n) (x.open_ended) (λ j d. let i : n ≡ j = omega arith in subst Turns i (all_turns n)) k x y e refl u us l m b a

  parts_reads : (v w : List ℕ) → Reads f anything opened (λ zs. the_name f.at ∷ ending zs) false never (code.parts f.low low v) (code.parts f.high high w)
  unfolding code.parts
  parts_reads v w =
      let x : Interpolated = record { texts = v ∷ []; parts = []; open_ended = true } in
      let y : Interpolated = record { texts = w ∷ []; parts = []; open_ended = true } in
      record {
        goes = record {
          idle = λ l m. open_idle (length f.cut) x l m refl;
          inside = λ u us l m b a.
              claim_from f anything opened (code.parts f.high high w) (onward 0 y) (u ∷ us) (u ∷ us) l m l m
              (λ new. let z : length (u ∷ (us ++ new)) ≡ length (u ∷ (us ++ new)) + 0 = omega arith in ap (λ q. turn q y (place (u ∷ (us ++ new)) l m)) z)
              (turned (length (u ∷ (us ++ f.cut))) x (place (u ∷ (us ++ f.cut)) l m))
              (all_turns (length (u ∷ (us ++ f.cut))) 0 x y refl u us l m b a);
          far = λ p b. turned_far (length p.ahead) x p b;
        };
        opens = record {
          opens = λ zs l m b fol.
              let e = finished true (length (closing_of true zs)) y zs l m b refl (omega arith) in
              record { value = e.value; last = e.last; level = e.level; low = e.low; same = e.same; reads = e.reads };
        };
        late = λ zs _ b. closing_late true zs b;
      }

  pub interpolation_goes : (a b : ℕ) → Goes f anything any never (code.interpolation f.low low a) (code.interpolation f.high high b)
  unfolding code.interpolation same symbol_of
  interpolation_goes a b =
      (link f (a_string f s.Begin (the_begin f.at) refl refl) (λ v w.
      rest f (forget_reads f (parts_reads v w)) (λ x y.
      idle f (spanned f anything a b) (λ i j. given f anything (tree.the_expr 0 i (tree.Interp x.texts (exprs x.parts))) (tree.the_expr 0 j (tree.Interp y.texts (exprs y.parts)))) (λ _ z. z)) (λ _ z. z)) (λ _ _. tt)).goes

  pub whole_goes : (a b : ℕ) → Goes f anything any never (code.whole f.low low a) (code.whole f.high high b)
  unfolding code.whole same symbol_of
  whole_goes a b =
      (rest f (a_string f s.Whole (the_whole f.at) refl refl) (λ v w.
      idle f (spanned f anything a b) (λ i j. given f anything (tree.the_expr 0 i (tree.Interp (v ∷ []) tree.no_exprs)) (tree.the_expr 0 j (tree.Interp (w ∷ []) tree.no_exprs))) (λ _ z. z)) (λ _ z. z)).goes
