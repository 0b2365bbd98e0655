-- Names at different offsets: lists of them, and what the outline of a tree says of those among its nodes.
use Rattle.std.proofs.Common.{◌≡◌, ◌≢◌, ℕ, zero, suc, ◌≤◌, ◌<◌, List, [], ◌∷◌, ◌++◌, refl, sym, ap, subst, arith}
use Rattle.std.specs.Prelude.{All, AllPairs}
use Rattle.std.proofs.lemmas.List.Kept.{AllPairs-cons}
use Rattle.luau_tree.specs.declared.position.Span.{Span}
use Rattle.luau_tree.specs.Tree.{Bind, MaybeType}
use Rattle.luau_tree.specs.Tree as tree
use Rattle.luau_tree.specs.Nodes.{Node, AnExpr, ABody, ABind, binds_among}
use Rattle.luau_lex.specs.Tokens.{Tok}
use Rattle.grammar_laws.specs.Outlines.{Outline, no_spans, more_spans, and_then, node}
use Rattle.grammar_laws.specs.Laws.{AreNested, bind_start}

-- names that begin in a range
abbrev InRange : ℕ → ℕ → List Bind → Type 0
InRange from to [] = Unit {0}
InRange from to (x ∷ xs) = (from ≤ bind_start x) × (bind_start x < to) × InRange from to xs

-- a name begins elsewhere than each of these
abbrev Differs : Bind → List Bind → Type 0
Differs x [] = Unit {0}
Differs x (y ∷ ys) = (bind_start x ≢ bind_start y) × Differs x ys

abbrev Away : List Bind → List Bind → Type 0
Away [] ys = Unit {0}
Away (x ∷ xs) ys = Differs x ys × Away xs ys

abbrev Differ : List Bind → Type 0
Differ [] = Unit {0}
Differ (x ∷ xs) = Differs x xs × Differ xs

pub record Distinct (from to : ℕ) (xs : List Bind) : Type 0 where
  within : InRange from to xs
  differ : Differ xs

range_wider : (low from to high : ℕ) (xs : List Bind) → low ≤ from → to ≤ high → InRange from to xs → InRange low high xs
range_wider low from to high [] l m h = tt
range_wider low from to high (x ∷ xs) l m h =
    let a : from ≤ bind_start x = h.0 in
    let b : bind_start x < to = h.1 in
    (omega arith, omega arith, range_wider low from to high xs l m h.2)

range_both : (from to : ℕ) (xs ys : List Bind) → InRange from to xs → InRange from to ys → InRange from to (xs ++ ys)
range_both from to [] ys h i = i
range_both from to (x ∷ xs) ys h i = (h.0, h.1, range_both from to xs ys h.2 i)

differs_both : (x : Bind) (ys zs : List Bind) → Differs x ys → Differs x zs → Differs x (ys ++ zs)
differs_both x [] zs h i = i
differs_both x (y ∷ ys) zs h i = (h.0, differs_both x ys zs h.1 i)

differs_before : (x : Bind) (mid to : ℕ) (ys : List Bind) → bind_start x < mid → InRange mid to ys → Differs x ys
differs_before x mid to [] l h = tt
differs_before x mid to (y ∷ ys) l h =
    let a : mid ≤ bind_start y = h.0 in
    ((λ e. let k : bind_start x ≡ bind_start y = e in absurd (omega arith)), differs_before x mid to ys l h.2)

differs_behind : (x : Bind) (from mid : ℕ) (ys : List Bind) → mid ≤ bind_start x → InRange from mid ys → Differs x ys
differs_behind x from mid [] l h = tt
differs_behind x from mid (y ∷ ys) l h =
    let a : bind_start y < mid = h.1 in
    ((λ e. let k : bind_start x ≡ bind_start y = e in absurd (omega arith)), differs_behind x from mid ys l h.2)

away_before : (from mid to : ℕ) (xs ys : List Bind) → InRange from mid xs → InRange mid to ys → Away xs ys
away_before from mid to [] ys h i = tt
away_before from mid to (x ∷ xs) ys h i = (differs_before x mid to ys h.1 i, away_before from mid to xs ys h.2 i)

away_behind : (from mid to : ℕ) (xs ys : List Bind) → InRange mid to xs → InRange from mid ys → Away xs ys
away_behind from mid to [] ys h i = tt
away_behind from mid to (x ∷ xs) ys h i = (differs_behind x from mid ys h.0 i, away_behind from mid to xs ys h.2 i)

away_both : (xs ys zs : List Bind) → Away xs ys → Away xs zs → Away xs (ys ++ zs)
away_both [] ys zs h i = tt
away_both (x ∷ xs) ys zs h i = (differs_both x ys zs h.0 i.0, away_both xs ys zs h.1 i.1)

differ_both : (xs ys : List Bind) → Differ xs → Differ ys → Away xs ys → Differ (xs ++ ys)
differ_both [] ys h i a = i
differ_both (x ∷ xs) ys h i a = (differs_both x xs ys h.0 a.0, differ_both xs ys h.1 i a.1)

binds_both : (ms ns : List Node) → binds_among (ms ++ ns) ≡ binds_among ms ++ binds_among ns
binds_both [] ns = refl
binds_both (AnExpr e ∷ ms) ns = binds_both ms ns
binds_both (ABody body ∷ ms) ns = binds_both ms ns
binds_both (ABind bind ∷ ms) ns = ap (λ z. bind ∷ z) (binds_both ms ns)

-- as std says it
differs_all : (x : Bind) (ys : List Bind) → Differs x ys → All (λ y. bind_start x ≢ bind_start y) ys
differs_all x [] h k d l = absurd (omega arith)
differs_all x (y ∷ ys) h zero d l = h.0
differs_all x (y ∷ ys) h (suc k) d l = differs_all x ys h.1 k d (omega arith)

differ_pairs : (xs : List Bind) → Differ xs → AllPairs (λ x y. bind_start x ≢ bind_start y) xs
differ_pairs [] h = λ i j d l m. absurd (omega arith)
differ_pairs (x ∷ xs) h =
    AllPairs-cons (λ (x y : Bind). bind_start x ≢ bind_start y) x xs (differs_all x xs h.0) (differ_pairs xs h.1)

module _ (ts : List Tok) where
  nested_forward : (from to : ℕ) (o : Outline) → AreNested ts from to o → from ≤ to
  nested_forward from to no_spans n = n
  nested_forward from to (more_spans span inside behind) n =
      let a : from ≤ span.start = n.0 in
      let b : span.start < span.end = n.1.forward in
      let c : span.end ≤ to = nested_forward span.end to behind n.3 in
      omega arith

  -- Two outlines stand one behind the other.
  record Parted (from to : ℕ) (o other : Outline) : Type 0 where
    mid : ℕ
    first : AreNested ts from mid o
    second : AreNested ts mid to other

  parted : (from to : ℕ) (o other : Outline) → AreNested ts from to (and_then o other) → Parted from to o other
  parted from to no_spans other n = record { mid = from; first = omega arith; second = n }
  parted from to (more_spans span inside behind) other n =
      let more = parted span.end to behind other n.3 in
      record { mid = more.mid; first = (n.0, n.1, n.2, more.first); second = more.second }

  -- Where this outline stands, the names that are declared among these nodes begin at different offsets.
  abbrev pub Apart : Outline → List Node → Type 0
  Apart o ns = (from to : ℕ) → AreNested ts from to o → Distinct from to (binds_among ns)

  pub nil : Apart no_spans []
  nil from to n = record { within = tt; differ = tt }

  distinct_both : (from mid to : ℕ) (ms ns : List Node) → from ≤ mid → mid ≤ to → Distinct from mid (binds_among ms)
      → Distinct mid to (binds_among ns) → Distinct from to (binds_among (ms ++ ns))
  distinct_both from mid to ms ns l m x y =
      let xs = binds_among ms in
      let ys = binds_among ns in
      subst (Distinct from to) (sym (binds_both ms ns)) (record {
        within = range_both from to xs ys (range_wider from from mid to xs (omega arith) m x.within)
            (range_wider from mid to to ys l (omega arith) y.within);
        differ = differ_both xs ys x.differ y.differ (away_before from mid to xs ys x.within y.within);
      })

  pub two : (o other : Outline) (ms ns : List Node) → Apart o ms → Apart other ns → Apart (and_then o other) (ms ++ ns)
  two o other ms ns f g from to n =
      let p = parted from to o other n in
      distinct_both from p.mid to ms ns (nested_forward from p.mid o p.first) (nested_forward p.mid to other p.second)
      (f from p.mid p.first) (g p.mid to p.second)

  wider : (low from to high : ℕ) (xs : List Bind) → low ≤ from → to ≤ high → Distinct from to xs → Distinct low high xs
  wider low from to high xs l m x = record { within = range_wider low from to high xs l m x.within; differ = x.differ }

  pub inside : (span : Span) (o : Outline) (ns : List Node) → Apart o ns → Apart (node span o) ns
  inside span o ns f from to n = wider from span.start span.end to (binds_among ns) n.0 n.3 (f span.start span.end n.2)

  pub marked : (span : Span) (o : Outline) (ns : List Node) → Apart o ns → Apart (more_spans span no_spans o) ns
  marked span o ns f from to n =
      let a : from ≤ span.start = n.0 in
      let b : span.start < span.end = n.1.forward in
      wider from span.end to to (binds_among ns) (omega arith) (omega arith) (f span.end to n.3)

  pub declared : (name : List ℕ) (span : Span) (typ : MaybeType) (o : Outline) (ns : List Node) → Apart o ns
      → Apart (more_spans span no_spans o) (ABind (tree.the_bind name span typ) ∷ ns)
  declared name span typ o ns f from to n =
      let a : from ≤ span.start = n.0 in
      let b : span.start < span.end = n.1.forward in
      let c : span.end ≤ to = nested_forward span.end to o n.3 in
      let rest = f span.end to n.3 in
      let x = tree.the_bind name span typ in
      record {
        within = (a, omega arith, range_wider from span.end to to (binds_among ns) (omega arith) (omega arith) rest.within);
        differ = (differs_before x span.end to (binds_among ns) b rest.within, rest.differ);
      }

  -- what stands before a node may come behind the first part of what is in it
  pub swapped : (span : Span) (before first rest : Outline) (ls ms ns : List Node) → Apart before ls → Apart first ms → Apart rest ns
      → Apart (and_then before (node span (and_then first rest))) (ms ++ (ls ++ ns))
  swapped span before first rest ls ms ns f g h from to n =
      let p = parted from to before (node span (and_then first rest)) n in
      let i = p.second in
      let q = parted span.start span.end first rest i.2 in
      let xs = binds_among ls in
      let ys = binds_among ms in
      let zs = binds_among ns in
      let x = f from p.mid p.first in
      let y = g span.start q.mid q.first in
      let z = h q.mid span.end q.second in
      let a : from ≤ p.mid = nested_forward from p.mid before p.first in
      let b : p.mid ≤ span.start = i.0 in
      let c : span.start ≤ q.mid = nested_forward span.start q.mid first q.first in
      let d : q.mid ≤ span.end = nested_forward q.mid span.end rest q.second in
      let e : span.end ≤ to = i.3 in
      let low : Distinct from q.mid xs = wider from from p.mid q.mid xs (omega arith) (omega arith) x in
      let both = distinct_both from q.mid span.end ls ns (omega arith) d low z in
      let away = away_both ys xs zs (away_behind from p.mid q.mid ys xs (range_wider p.mid span.start q.mid q.mid ys b (omega arith) y.within) x.within)
      (away_before span.start q.mid span.end ys zs y.within z.within) in
      subst (Distinct from to) (sym (binds_both ms (ls ++ ns))) (record {
        within = range_both from to ys (binds_among (ls ++ ns)) (range_wider from span.start q.mid to ys (omega arith) (omega arith) y.within)
            (range_wider from from span.end to (binds_among (ls ++ ns)) (omega arith) e both.within);
        differ = differ_both ys (binds_among (ls ++ ns)) y.differ both.differ (subst (Away ys) (sym (binds_both ls ns)) away);
      })

  pub pairs : (o : Outline) (ns : List Node) (from to : ℕ) → Apart o ns → AreNested ts from to o
      → AllPairs (λ x y. bind_start x ≢ bind_start y) (binds_among ns)
  pairs o ns from to f n = differ_pairs (binds_among ns) (f from to n).differ
