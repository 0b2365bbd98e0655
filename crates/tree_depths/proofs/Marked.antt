-- The tree of types with all marks for which there is room.
use Rattle.std.proofs.Common.{◌≡◌, ℕ, zero, suc, ◌+◌, ◌*◌, ◌≤◌, max, false, List, [], ◌∷◌, inl, inr, refl, sym, ap, ◌∙◌, arith, le-leb}
use Rattle.std.specs.Prelude.{Some, None, codes}
use Rattle.std.proofs.Math.Nat.{max-eq_left, max-eq_right, suc-mul, mul-suc}
use Rattle.luau_tree.specs.declared.position.Span.{Span}
use Rattle.luau_tree.specs.Tree.{Block, TypeSyntax}
use Rattle.luau_tree.specs.Tree as tree
use Rattle.luau_lex.specs.Tokens.{Tok}
use Rattle.luau_grammar.specs.declared.symbol.Symbol.{Symbol}
use Rattle.luau_grammar.specs.declared.symbol.Symbol.TheVariants as s
use Rattle.luau_grammar.specs.Places as place
use Rattle.luau_grammar.specs.Places.{Place, Rules, first_symbol}
use Rattle.luau_grammar.specs.Symbols.{same, symbol_of}
use Rattle.luau_grammar.specs.Phrases.{Phrases, Listed}
use Rattle.luau_grammar.specs.Types as grammar
use Rattle.luau_grammar.specs.Statements as statements
use Rattle.luau_grammar.specs.Modules.{IsBare, phrases, up_to}
use Rattle.luau_grammar.proofs.Computed.{open_tokens}
use Rattle.tree_depths.specs.Depths.{of_block, of_type}
use Rattle.tree_depths.specs.Samples.{name, sign, marks, behind_name, marked_alias}

-- a place before these tokens
abbrev at : ℕ → List Tok → Place
at level ts = record { ahead = ts; last = 0; level = level }

abbrev nowhere : Span
nowhere = record { start = 0; end = 0 }

-- a type with so many marks
abbrev wrapped : ℕ → TypeSyntax → TypeSyntax
wrapped zero t = t
wrapped (suc count) t = wrapped count (tree.the_type nowhere (tree.Optional t))

abbrev nested : ℕ → TypeSyntax
nested zero = wrapped 1 (tree.the_type nowhere (tree.Named None (codes "x") tree.no_types))
nested (suc within) =
    wrapped (suc (suc within)) (tree.the_type nowhere (tree.Named None (codes "x") (tree.more_types (wrapped (suc within) (nested within)) tree.no_types)))

wrapped_deep : (count : ℕ) (t : TypeSyntax) → of_type (wrapped count t) ≡ count + of_type t
wrapped_deep zero t = omega arith
wrapped_deep (suc count) t =
    let e : of_type (wrapped count (tree.the_type nowhere (tree.Optional t))) ≡ count + suc (of_type t) = wrapped_deep count (tree.the_type nowhere (tree.Optional t)) in
    let f : of_type (wrapped count (tree.the_type nowhere (tree.Optional t))) ≡ suc count + of_type t = omega (arith, e) in
    f

-- what stands behind such a type neither is a mark nor goes on with it
record Ends (ts : List Tok) : Type 0 where
  no_mark : same (first_symbol ts) s.Question ≡ false
  no_pipe : same (first_symbol ts) s.Pipe ≡ false
  no_ampersand : same (first_symbol ts) s.Ampersand ≡ false

module _ (limit : ℕ) where
  takes_sign : (x : Symbol) (bytes : List ℕ) (level : ℕ) (ts : List Tok) → symbol_of (sign bytes) ≡ x → level ≤ limit
      → place.Takes (up_to limit) x (at level (sign bytes ∷ ts)) (at level ts)
  unfolding place.Takes
  takes_sign x bytes level ts e l = (sign bytes, e, (ts, refl, le-leb level limit l, refl))

  takes_name : (bytes : List ℕ) (level : ℕ) (ts : List Tok) → symbol_of (name bytes) ≡ s.Name → level ≤ limit
      → place.TakesName (up_to limit) (at level (name bytes ∷ ts)) (at level ts) bytes
  unfolding place.TakesName
  takes_name bytes level ts e l = (name bytes, e, refl, (ts, refl, le-leb level limit l, refl))

  module _ (inner : Phrases) where
    are_marks : (count level behind : ℕ) (ts : List Tok) (t : TypeSyntax) → level + count ≤ suc limit → same (first_symbol ts) s.Question ≡ false
        → grammar.AreMarks (up_to limit) inner 0 behind count (at level (marks count ts)) (at behind ts) t (wrapped count t)
    unfolding open_tokens
    are_marks zero level behind ts t l e = (e, refl, refl)
    are_marks (suc count) level behind ts t l e = (
      at level (marks count ts),
      takes_sign s.Question (codes "?") level (marks count ts) refl (omega (arith, l)),
      are_marks count (level + 1) behind ts (tree.the_type nowhere (tree.Optional t)) (omega (arith, l)) e,
    )

  no_tail : (within level : ℕ) (ts : List Tok) → grammar.begins_tail (at level (name (codes "x") ∷ behind_name within ts)) ≡ false
  unfolding open_tokens
  no_tail zero level ts = refl
  no_tail (suc within) level ts = refl

  no_name : (within level : ℕ) (ts : List Tok) → grammar.begins_named (at level (name (codes "x") ∷ behind_name within ts)) ≡ false
  unfolding open_tokens
  no_name zero level ts = refl
  no_name (suc within) level ts = refl

  no_typeof : (level : ℕ) (ts : List Tok) → grammar.sees_typeof (at level (name (codes "x") ∷ ts)) ≡ false
  unfolding open_tokens
  no_typeof level ts = refl

  -- what stands in parentheses
  abbrev list_of : TypeSyntax → Listed
  list_of t = record { start = 0; end = 0; types = t ∷ []; named = false; tailed = false }

  closing : (within : ℕ) (ts : List Tok) → Ends (sign (codes ")") ∷ marks (suc within) (sign (codes ">") ∷ marks (suc (suc within)) ts))
  unfolding open_tokens
  closing within ts = record { no_mark = refl; no_pipe = refl; no_ampersand = refl }

  -- a type in parentheses with its marks, behind the parentheses
  marked_list : (within level : ℕ) (deep : ℕ) (ts : List Tok) → level + suc within ≤ limit
      → (phrases (up_to limit) (suc deep)).typ (Some (list_of (nested within))) (at level (marks (suc within) (sign (codes ">") ∷ ts)))
      (at level (sign (codes ">") ∷ ts)) (wrapped (suc within) (nested within))
  unfolding open_tokens
  marked_list within level deep ts l = (
    at (level + 1) (sign (codes ">") ∷ ts),
    (
      at (level + 1) (marks (suc within) (sign (codes ">") ∷ ts)),
      at (level + 1) (sign (codes ">") ∷ ts),
      wrapped (suc within) (nested within),
      refl,
      (
        at (level + 1) (marks (suc within) (sign (codes ">") ∷ ts)),
        suc within,
        nested within,
        inr (refl, refl, refl),
        are_marks (phrases (up_to limit) deep) (suc within) (level + 1) (level + 1) (sign (codes ">") ∷ ts) (nested within) (omega (arith, l)) refl,
      ),
      inr (inr (refl, refl, refl, refl)),
    ),
    refl,
  )

  typ_at : (within level : ℕ) (ts : List Tok) → Ends ts → level + within + 1 ≤ limit
      → (phrases (up_to limit) (suc within)).typ None (at level (name (codes "x") ∷ behind_name within ts)) (at level ts) (nested within)
  unfolding open_tokens
  typ_at zero level ts e l =
      let inner = phrases (up_to limit) 0 in (
        at (level + 1) ts,
        (
          at (level + 1) (name (codes "x") ∷ marks 1 ts),
          at (level + 1) ts,
          nested 0,
          inr (refl, refl, refl),
          (
            at (level + 1) (marks 1 ts),
            1,
            tree.the_type nowhere (tree.Named None (codes "x") tree.no_types),
            inr (refl, (refl, (at (level + 1) (marks 1 ts), refl, takes_name (codes "x") (level + 1) (marks 1 ts) refl (omega (arith, l)), refl, inl (refl, refl, refl)))),
            are_marks inner 1 (level + 1) (level + 1) ts (tree.the_type nowhere (tree.Named None (codes "x") tree.no_types)) (omega (arith, l)) e.no_mark,
          ),
          inr (inr (e.no_pipe, e.no_ampersand, refl, refl)),
        ),
        refl,
      )
  typ_at (suc within) level ts e l =
      let inner = phrases (up_to limit) (suc within) in
      let here = level + 1 in
      let last = marks (suc (suc within)) ts in
      let behind = marks (suc within) (sign (codes ">") ∷ last) in
      let inside = name (codes "x") ∷ behind_name within (sign (codes ")") ∷ behind) in
      let argument = wrapped (suc within) (nested within) in
      let basic = tree.the_type nowhere (tree.Named None (codes "x") (tree.more_types argument tree.no_types)) in
      let listed : grammar.IsListed (up_to limit) inner (at here (sign (codes "(") ∷ inside)) (at here behind) (list_of (nested within)) = record {
        first = at here inside;
        last = at here (sign (codes ")") ∷ behind);
        opens = takes_sign s.LeftParen (codes "(") here inside refl (omega (arith, l));
        members = (
          refl,
          (
            no_tail within here (sign (codes ")") ∷ behind),
            (
              no_name within here (sign (codes ")") ∷ behind),
              typ_at within here (sign (codes ")") ∷ behind) (closing within ts) (omega (arith, l)),
            ),
            refl,
          ),
        );
        closes = takes_sign s.RightParen (codes ")") here behind refl (omega (arith, l));
        starts = refl;
        ends = refl;
      } in
      let result : grammar.IsResult (up_to limit) inner (at here (sign (codes "(") ∷ inside)) (at here (sign (codes ">") ∷ last)) argument =
      inl (refl, list_of (nested within), at here behind, listed, inl (refl, marked_list within here within last (omega (arith, l)))) in
      let arguments : grammar.AreTypeArguments (up_to limit) inner (at here (sign (codes "<") ∷ sign (codes "(") ∷ inside)) (at here last) (tree.more_types argument tree.no_types) =
      inr (inr (
        at here (sign (codes "(") ∷ inside),
        at here (sign (codes ">") ∷ last),
        argument,
        [],
        takes_sign s.Less (codes "<") here (sign (codes "(") ∷ inside) refl (omega (arith, l)),
        refl,
        (result, refl),
        takes_sign s.Greater (codes ">") here last refl (omega (arith, l)),
        refl,
      )) in (
        at here ts,
        (
          at here (name (codes "x") ∷ sign (codes "<") ∷ sign (codes "(") ∷ inside),
          at here ts,
          nested (suc within),
          inr (refl, refl, refl),
          (
            at here last,
            suc (suc within),
            basic,
            inr (
              refl,
              (
                refl,
                (
                  at here (sign (codes "<") ∷ sign (codes "(") ∷ inside),
                  refl,
                  takes_name (codes "x") here (sign (codes "<") ∷ sign (codes "(") ∷ inside) refl (omega (arith, l)),
                  refl,
                  arguments,
                ),
              ),
            ),
            are_marks inner (suc (suc within)) here here ts basic (omega (arith, l)) e.no_mark,
          ),
          inr (inr (e.no_pipe, e.no_ampersand, refl, refl)),
        ),
        refl,
      )

-- each type is deeper than the one in it by its marks, by those behind its parentheses and by itself
nested_deep : (within : ℕ) → of_type (nested within) ≡ (within + 2) * (within + 1)
nested_deep zero = refl
nested_deep (suc within) =
    let argument = wrapped (suc within) (nested within) in
    let basic = tree.the_type nowhere (tree.Named None (codes "x") (tree.more_types argument tree.no_types)) in
    let a : of_type (wrapped (suc (suc within)) basic) ≡ suc (suc within) + of_type basic = wrapped_deep (suc (suc within)) basic in
    let b : of_type argument ≡ suc within + of_type (nested within) = wrapped_deep (suc within) (nested within) in
    let c : max (of_type argument) 0 ≡ of_type argument = max-eq_left (omega arith) in
    let d : of_type basic ≡ suc (of_type argument) = ap suc c in
    let e : of_type (nested within) ≡ (within + 2) * (within + 1) = nested_deep within in
    let f : of_type (wrapped (suc (suc within)) basic) ≡ (within + 2) * (within + 1) + (within + within + 4) = omega (arith, a, b, d, e) in
    let g : of_type (wrapped (suc (suc within)) basic) ≡ (suc within + 2) * (suc within + 1) = f ∙ sym (next_product within) in
    g
  where
    next_product : (n : ℕ) → (suc n + 2) * (suc n + 1) ≡ (n + 2) * (n + 1) + (n + n + 4)
    next_product n =
        let a : (suc n + 2) * (suc n + 1) ≡ suc (n + 2) * suc (n + 1) = ap (λ m. m * (suc n + 1)) (omega arith) ∙ ap (λ m. suc (n + 2) * m) (omega arith) in
        let b : suc (n + 2) * suc (n + 1) ≡ (n + 2) * suc (n + 1) + suc (n + 1) = suc-mul (n + 2) (suc (n + 1)) in
        let c : (n + 2) * suc (n + 1) ≡ (n + 2) * (n + 1) + (n + 2) = mul-suc (n + 2) (n + 1) in
        omega (arith, a, b, c)

abbrev declaration : ℕ → Block
declaration within = tree.more_stats (tree.the_stat nowhere (tree.TypeAlias false (codes "t") tree.no_gens (nested within))) tree.no_stats

declaration_deep : (within : ℕ) → of_block (declaration within) ≡ (within + 2) * (within + 1) + 1
declaration_deep within =
    let a : of_type (nested within) ≡ (within + 2) * (within + 1) = nested_deep within in
    let b : max 0 (of_type (nested within)) ≡ of_type (nested within) = max-eq_right (omega arith) in
    let c : max (suc (max 0 (of_type (nested within)))) 0 ≡ suc (max 0 (of_type (nested within))) = max-eq_left (omega arith) in
    let d : max (suc (max 0 (of_type (nested within)))) 0 ≡ (within + 2) * (within + 1) + 1 = omega (arith, a, b, c) in
    d

module _ (within : ℕ) where
  nothing_behind : Ends []
  unfolding open_tokens
  nothing_behind = record { no_mark = refl; no_pipe = refl; no_ampersand = refl }

  pub declared : IsBare (up_to (within + 2)) (marked_alias within) (declaration within)
  unfolding open_tokens
  declared =
      let inner = phrases (up_to (within + 2)) (suc within) in
      let typ = name (codes "x") ∷ behind_name within [] in
      let equals = sign (codes "=") ∷ typ in
      let alias : statements.IsAlias (up_to (within + 2)) inner (at 1 (marked_alias within)) (at 1 []) false (codes "t") tree.no_gens (nested within) = (
        at 1 (name (codes "t") ∷ equals),
        at 1 equals,
        at 1 equals,
        at 1 typ,
        (refl, takes_name (within + 2) (codes "type") 1 (name (codes "t") ∷ equals) refl (omega arith)),
        takes_name (within + 2) (codes "t") 1 equals refl (omega arith),
        inl (refl, refl, refl),
        takes_sign (within + 2) s.Assign (codes "=") 1 typ refl (omega arith),
        typ_at (within + 2) within 1 [] nothing_behind (omega arith),
      ) in
      (suc (suc within), at 0 [], (at 1 [], (at 1 [], at 1 [], (refl, alias), inr (refl, refl), (refl, refl)), refl), refl)

pub marked_deep : (within : ℕ) → (b : Block) × IsBare (up_to (within + 2)) (marked_alias within) b × (of_block b ≡ (within + 2) * (within + 1) + 1)
marked_deep within = (declaration within, declared within, declaration_deep within)
