-- Names that begin one behind the other: lists of them, and what the outline of a tree says of those among its nodes.
use Rattle.std.proofs.Common.{◌≡◌, ℕ, suc, ◌+◌, ◌≤◌, ◌<◌, List, [], ◌∷◌, ◌++◌, map, length, refl, sym, ap, ◌∙◌, subst, append_assoc, arith}
use Rattle.luau_tree.specs.declared.position.Span.{Span}
use Rattle.luau_tree.specs.Tree.{Body, Bind, Expr, MaybeType}
use Rattle.luau_tree.specs.Tree as tree
use Rattle.luau_tree.specs.Nodes.{Node, AnExpr, ABody, ABind, binds_among}
use Rattle.luau_lex.specs.Tokens.{Tok}
use Rattle.grammar_laws.specs.Outlines.{Outline, no_spans, more_spans, and_then, node}
use Rattle.grammar_laws.specs.Laws.{AreNested}
use Rattle.luau_scope.specs.Captured.{bind_start}
use Rattle.module_orders.proofs.Plain.{IsPlain, ArePlain, first_of, rest_of}
use Rattle.grammar_laws.proofs.Pieces.{regrouped}

-- numbers ascend from one on, and are below another
abbrev pub Ascend : ℕ → ℕ → List ℕ → Type 0
Ascend from to [] = from ≤ to
Ascend from to (n ∷ ns) = (from ≤ n) × Ascend (suc n) to ns

pub lower : (low from to : ℕ) (ns : List ℕ) → low ≤ from → Ascend from to ns → Ascend low to ns
lower low from to [] l a = let b : from ≤ to = a in omega arith
lower low from to (n ∷ ns) l a = let b : from ≤ n = a.0 in (omega arith, a.1)

higher : (from to high : ℕ) (ns : List ℕ) → to ≤ high → Ascend from to ns → Ascend from high ns
higher from to high [] l a = let b : from ≤ to = a in omega arith
higher from to high (n ∷ ns) l a = (a.0, higher (suc n) to high ns l a.1)

ascend_both : (from mid to : ℕ) (ns ms : List ℕ) → Ascend from mid ns → Ascend mid to ms → Ascend from to (ns ++ ms)
ascend_both from mid to [] ms a b = lower from mid to ms a b
ascend_both from mid to (n ∷ ns) ms a b = (a.0, ascend_both (suc n) mid to ns ms a.1 b)

-- there are no more of them than offsets
pub fit : (from to : ℕ) (ns : List ℕ) → Ascend from to ns → from + length ns ≤ to
fit from to [] a = let b : from ≤ to = a in omega arith
fit from to (n ∷ ns) a =
    let b : from ≤ n = a.0 in
    let c : suc n + length ns ≤ to = fit (suc n) to ns a.1 in
    omega arith

-- where the names among some nodes begin
abbrev pub starts : List Node → List ℕ
starts ns = map bind_start (binds_among ns)

starts_both : (ms ns : List Node) → starts (ms ++ ns) ≡ starts ms ++ starts ns
starts_both [] ns = refl
starts_both (AnExpr e ∷ ms) ns = starts_both ms ns
starts_both (ABody body ∷ ms) ns = starts_both ms ns
starts_both (ABind bind ∷ ms) ns = ap (λ (z : List ℕ). bind_start bind ∷ z) (starts_both ms ns)

four_nodes : (ls ps vs rs bs : List Node) → ls ++ (((ps ++ vs) ++ rs) ++ bs) ≡ (((ls ++ ps) ++ vs) ++ rs) ++ bs
four_nodes ls ps vs rs bs =
    sym (append_assoc ls ((ps ++ vs) ++ rs) bs)
    ∙ ap (λ (z : List Node). z ++ bs) (sym (append_assoc ls (ps ++ vs) rs) ∙ ap (λ (z : List Node). z ++ rs) (sym (append_assoc ls ps vs)))

module _ (ts : List Tok) where
  nested_forward : (from to : ℕ) (o : Outline) → AreNested ts from to o → from ≤ to
  nested_forward from to no_spans n = n
  nested_forward from to (more_spans span inside behind) n =
      let a : from ≤ span.start = n.0 in
      let b : span.start < span.end = n.1.forward in
      let c : span.end ≤ to = nested_forward span.end to behind n.3 in
      omega arith

  -- Two outlines stand one behind the other.
  record Parted (from to : ℕ) (o other : Outline) : Type 0 where
    mid : ℕ
    first : AreNested ts from mid o
    second : AreNested ts mid to other

  parted : (from to : ℕ) (o other : Outline) → AreNested ts from to (and_then o other) → Parted from to o other
  parted from to no_spans other n = record { mid = from; first = omega arith; second = n }
  parted from to (more_spans span inside behind) other n =
      let more = parted span.end to behind other n.3 in
      record { mid = more.mid; first = (n.0, n.1, n.2, more.first); second = more.second }

  -- Where this outline stands, the names that are declared among these nodes begin one behind the other, if the generics
  -- of bodies hold no nodes.
  pub record Ordered (o : Outline) (ns : List Node) : Type 0 where
    pub stands : (from to : ℕ) → AreNested ts from to o → ArePlain ns → Ascend from to (starts ns)

  pub nil : Ordered no_spans []
  nil = record { stands = λ from to n p. n }

  pub two : {o other : Outline} {ms ns : List Node} → Ordered o ms → Ordered other ns → Ordered (and_then o other) (ms ++ ns)
  two {o = o} {other = other} {ms = ms} {ns = ns} x y = record {
    stands = λ from to n p.
        let s = parted from to o other n in
        subst (Ascend from to) (sym (starts_both ms ns))
        (ascend_both from s.mid to (starts ms) (starts ns) (x.stands from s.mid s.first (first_of ms ns p)) (y.stands s.mid to s.second (rest_of ms ns p)));
  }

  pub three : {o other third : Outline} {ms ns ls : List Node} → Ordered o ms → Ordered other ns → Ordered third ls
      → Ordered (and_then o (and_then other third)) ((ms ++ ns) ++ ls)
  three {o = o} {other = other} {third = third} {ms = ms} {ns = ns} {ls = ls} x y z =
      subst (λ u. Ordered u ((ms ++ ns) ++ ls)) (regrouped o other third) (two (two x y) z)

  pub four : {o other third fourth : Outline} {ms ns ls ks : List Node} → Ordered o ms → Ordered other ns → Ordered third ls
      → Ordered fourth ks → Ordered (and_then o (and_then other (and_then third fourth))) (((ms ++ ns) ++ ls) ++ ks)
  four {o = o} {other = other} {third = third} {fourth = fourth} {ms = ms} {ns = ns} {ls = ls} {ks = ks} x y z w =
      subst (λ u. Ordered u (((ms ++ ns) ++ ls) ++ ks)) (regrouped o other (and_then third fourth)) (three (two x y) z w)

  pub five : {o other third fourth fifth : Outline} {ms ns ls ks js : List Node} → Ordered o ms → Ordered other ns → Ordered third ls
      → Ordered fourth ks → Ordered fifth js
      → Ordered (and_then o (and_then other (and_then third (and_then fourth fifth)))) ((((ms ++ ns) ++ ls) ++ ks) ++ js)
  five {o = o} {other = other} {third = third} {fourth = fourth} {fifth = fifth} {ms = ms} {ns = ns} {ls = ls} {ks = ks} {js = js} x y z w v =
      subst (λ u. Ordered u ((((ms ++ ns) ++ ls) ++ ks) ++ js)) (regrouped o other (and_then third (and_then fourth fifth))) (four (two x y) z w v)

  wider : (from to : ℕ) (span : Span) (ns : List ℕ) → from ≤ span.start → span.end ≤ to → Ascend span.start span.end ns → Ascend from to ns
  wider from to span ns l m a = lower from span.start to ns l (higher span.start span.end to ns m a)

  pub inside : {span : Span} {o : Outline} {ns : List Node} → Ordered o ns → Ordered (node span o) ns
  inside {span = span} {ns = ns} x = record {
    stands = λ from to n p. wider from to span (starts ns) n.0 n.3 (x.stands span.start span.end n.2 p);
  }

  pub an_expr : {e : Expr} {span : Span} {o : Outline} {ns : List Node} → Ordered o ns → Ordered (node span o) (AnExpr e ∷ ns)
  an_expr {span = span} {ns = ns} x = record {
    stands = λ from to n p. wider from to span (starts ns) n.0 n.3 (x.stands span.start span.end n.2 p);
  }

  pub a_body : {b : Body} {span : Span} {o : Outline} {ns : List Node} → Ordered o ns → Ordered (node span o) (ABody b ∷ ns)
  a_body {span = span} {ns = ns} x = record {
    stands = λ from to n p. wider from to span (starts ns) n.0 n.3 (x.stands span.start span.end n.2 p.1);
  }

  pub marked : {span : Span} {o : Outline} {ns : List Node} → Ordered o ns → Ordered (more_spans span no_spans o) ns
  marked {span = span} {ns = ns} x = record {
    stands = λ from to n p.
        let a : from ≤ span.start = n.0 in
        let b : span.start < span.end = n.1.forward in
        lower from span.end to (starts ns) (omega arith) (x.stands span.end to n.3 p);
  }

  pub declared : {name : List ℕ} {span : Span} {typ : MaybeType} {o : Outline} {ns : List Node} → Ordered o ns
      → Ordered (more_spans span no_spans o) (ABind (tree.the_bind name span typ) ∷ ns)
  declared {span = span} {ns = ns} x = record {
    stands = λ from to n p.
        let b : span.start < span.end = n.1.forward in
        (n.0, lower (suc span.start) span.end to (starts ns) b (x.stands span.end to n.3 p));
  }

  -- what stands before a node, and what stands in it behind its first part
  pub past : (span : Span) (first : Outline) {before rest : Outline} {ls ns : List Node} → Ordered before ls → Ordered rest ns
      → Ordered (and_then before (node span (and_then first rest))) (ls ++ ns)
  past span first {before = before} {rest = rest} {ls = ls} {ns = ns} x y = record {
    stands = λ from to n p.
        let s = parted from to before (node span (and_then first rest)) n in
        let i = s.second in
        let q = parted span.start span.end first rest i.2 in
        let a : s.mid ≤ span.start = i.0 in
        let b : span.start ≤ q.mid = nested_forward span.start q.mid first q.first in
        subst (Ascend from to) (sym (starts_both ls ns))
        (ascend_both from s.mid to (starts ls) (starts ns) (x.stands from s.mid s.first (first_of ls ns p))
        (lower s.mid q.mid to (starts ns) (omega arith) (higher q.mid span.end to (starts ns) i.3 (y.stands q.mid span.end q.second (rest_of ls ns p)))));
  }

  -- A method's body: its `self` stands before it, and its generics hold no nodes.
  pub method : (b : Body) (gs ls ps vs rs bs : List Node) (o : Outline) → (IsPlain b → gs ≡ []) → Ordered o (ls ++ (((ps ++ vs) ++ rs) ++ bs))
      → Ordered o (ABody b ∷ ((((gs ++ (ls ++ ps)) ++ vs) ++ rs) ++ bs))
  method b gs ls ps vs rs bs o bare x = record {
    stands = λ from to n p. (moved (bare p.0)).stands from to n p.1;
  }
    where
      moved : gs ≡ [] → Ordered o ((((gs ++ (ls ++ ps)) ++ vs) ++ rs) ++ bs)
      moved e = subst (λ (z : List Node). Ordered o ((((z ++ (ls ++ ps)) ++ vs) ++ rs) ++ bs)) (sym e) (subst (Ordered o) (four_nodes ls ps vs rs bs) x)
