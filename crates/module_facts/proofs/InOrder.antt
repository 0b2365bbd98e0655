-- What is found of a module stands in the order of its text.
use Rattle.std.proofs.Common.{◌≡◌, ℕ, suc, ◌<◌, ◌^◌, List, [], ◌∷◌, length, map, refl, sym, ap, ◌∙◌, subst}
use Rattle.luau_tree.specs.declared.position.Span.{Span}
use Rattle.luau_tree.specs.declared.names.ExprId.{ExprId}
use Rattle.luau_tree.specs.Tree.{Block, Bind, the_bind}
use Rattle.luau_tree.specs.View.{view_block}
use Rattle.luau_tree.specs.Nodes.{binds_in}
use Rattle.luau_scope.specs.declared.reading.LocalInfo.{LocalInfo}
use Rattle.luau_scope.specs.declared.reading.Scoped.{Scoped}
use Rattle.luau_scope.specs.declared.reading.Use.{Use}
use Rattle.luau_scope.specs.Captured.{bind_start}
use Rattle.luau_scope.specs.Laws.{AscendFrom, bind_name_and_span, local_name_and_span}
use Rattle.luau_scope.specs.Locals.{uses_of, locals_of, requires_of}
use Rattle.luau_scope.proofs.InOrder.{locals_are_declared, uses_ascend}
use Rattle.module_facts.specs.Facts.{IsInOrder}
use Rattle.module_facts.specs.Ordered.{StandsInOrder}

starts_of_locals : (locals : List LocalInfo) → map (λ (p : List ℕ × Span). p.1.start) (map local_name_and_span locals) ≡ map (λ (l : LocalInfo). l.declared.start) locals
starts_of_locals [] = refl
starts_of_locals (l ∷ locals) = ap (λ (ns : List ℕ). l.declared.start ∷ ns) (starts_of_locals locals)

starts_of_binds : (binds : List Bind) → map (λ (p : List ℕ × Span). p.1.start) (map bind_name_and_span binds) ≡ map bind_start binds
starts_of_binds [] = refl
starts_of_binds (the_bind name span type ∷ binds) = ap (λ (ns : List ℕ). span.start ∷ ns) (starts_of_binds binds)

same_starts : (paths : List (List ℕ)) (x : Block) → map bind_start (binds_in x) ≡ map (λ (l : LocalInfo). l.declared.start) (locals_of paths x)
same_starts paths x = sym (starts_of_binds (binds_in x)) ∙ ap (map (λ (p : List ℕ × Span). p.1.start)) (sym (locals_are_declared paths x)) ∙ starts_of_locals (locals_of paths x)

length_mapped : {X Y : Type 0} (f : X → Y) (xs : List X) → length (map f xs) ≡ length xs
length_mapped f [] = refl
length_mapped f (x ∷ xs) = ap suc (length_mapped f xs)

as_many : (paths : List (List ℕ)) (x : Block) → length (binds_in x) ≡ length (locals_of paths x)
as_many paths x = sym (length_mapped bind_start (binds_in x)) ∙ ap length (same_starts paths x) ∙ length_mapped (λ (l : LocalInfo). l.declared.start) (locals_of paths x)

pub resolved_in_order : (paths : List (List ℕ)) (scoped : Scoped) → StandsInOrder (view_block scoped.«module».block)
    → scoped ≡ record {
      «module» = scoped.«module»;
      locals = locals_of paths (view_block scoped.«module».block);
      uses = uses_of paths (view_block scoped.«module».block);
      required = requires_of paths (view_block scoped.«module».block);
    } → IsInOrder scoped
resolved_in_order paths scoped stands e =
    let x : Block = view_block scoped.«module».block in
    let us : scoped.uses ≡ uses_of paths x = ap (λ (s : Scoped). s.uses) e in
    let ls : scoped.locals ≡ locals_of paths x = ap (λ (s : Scoped). s.locals) e in
    record {
      uses = subst (λ (uses : List (ExprId × Use)). AscendFrom 0 (map (λ u. u.0.0) uses)) (sym us) (uses_ascend paths x stands.exprs);
      locals = subst (λ (locals : List LocalInfo). AscendFrom 0 (map (λ l. l.declared.start) locals)) (sym ls) (subst (λ (ns : List ℕ). AscendFrom 0 ns) (same_starts paths x) stands.binds);
      few = subst (λ (locals : List LocalInfo). length locals < 2 ^ 32) (sym ls) (subst (λ (n : ℕ). n < 2 ^ 32) (as_many paths x) stands.few);
    }
