-- The parameters of a method's body: `self`, and then its own.
use Rattle.std.proofs.Common.{◌≡◌, ℕ, List, [], ◌∷◌, ◌++◌, map, sym, ◌∙◌, ap, ap₂}
use Rattle.std.specs.Prelude.{codes, Some}
use Rattle.luau_tree.specs.declared.position.Span.{Span}
use Rattle.luau_tree.specs.declared.tree.Bind.{Bind}
use Rattle.luau_tree.specs.Tree as plain
use Rattle.luau_tree.specs.View.{binds, view_bind, view_binds}
use Rattle.luau_grammar.specs.ReadExpressions.{with_self}
use Rattle.phrase_reader.proofs.Lists.{binds_seen}

pub self_first : (span : Span) (own all : List Bind) (b : Bind) (name : List ℕ) → all ≡ (b ∷ []) ++ own
    → view_bind b ≡ plain.the_bind name span plain.no_type → name ≡ codes "self" → view_binds all ≡ binds (with_self (Some span) (map view_bind own))
self_first span own all b name e v s =
    ap view_binds e ∙ ap₂ plain.more_binds (v ∙ ap (λ n. plain.the_bind n span plain.no_type) s) (sym (binds_seen own))
