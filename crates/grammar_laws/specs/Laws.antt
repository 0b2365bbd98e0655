-- Words of the laws: tokens in order, and spans from token to token within one another.
use Rattle.std.specs.Prelude.{◌≡◌, ◌≢◌, ℕ, ◌≤◌, ◌<◌, List, [], ◌∷◌, Any, AllPairs}
use Rattle.luau_tree.specs.declared.position.Span.{Span}
use Rattle.luau_tree.specs.Tree.{Block, Bind}
use Rattle.luau_tree.specs.Tree as tree
use Rattle.luau_tree.specs.Nodes.{binds_in}
use Rattle.luau_lex.specs.Tokens.{Tok}
use Rattle.grammar_laws.specs.Outlines.{Outline, no_spans, more_spans}

-- Each token has a byte at least, and begins at this offset or behind it, and where the one before it ends or behind
-- that.
abbrev pub AreInOrder : ℕ → List Tok → Type 0
AreInOrder at [] = Unit {0}
AreInOrder at (t ∷ ts) = (at ≤ t.span.start) × (t.span.start < t.span.end) × AreInOrder t.span.end ts

-- A span has a byte at least, begins where one of these tokens begins, and ends where one of them ends.
pub record IsOfTokens (ts : List Tok) (span : Span) : Type 0 where
  pub begins : Any (λ t. t.span.start ≡ span.start) ts
  pub ends : Any (λ t. t.span.end ≡ span.end) ts
  pub forward : span.start < span.end

-- Between two offsets stand spans of tokens, one behind the other, and in each those that are within it.
abbrev pub AreNested : List Tok → ℕ → ℕ → Outline → Type 0
AreNested ts from to no_spans = from ≤ to
AreNested ts from to (more_spans span inside behind) =
    (from ≤ span.start) × IsOfTokens ts span × AreNested ts span.start span.end inside × AreNested ts span.end to behind

-- where the last token ends
abbrev pub end_of : ℕ → List Tok → ℕ
end_of at [] = at
end_of at (t ∷ ts) = end_of t.span.end ts

-- where a declared name begins
abbrev pub bind_start : Bind → ℕ
bind_start (tree.the_bind name span typ) = span.start

-- the names that a tree declares begin at different offsets
abbrev pub HasApartBinds : Block → Type 0
HasApartBinds b = AllPairs (λ x y. bind_start x ≢ bind_start y) (binds_in b)
