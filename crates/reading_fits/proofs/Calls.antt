-- A static require is a call of a global.
use Rattle.std.proofs.Common.{◌≡◌, ℕ, ◌==◌, Bool, true, false, List, [], ◌∷◌, refl, ap, subst, eqb-true, inl, inr}
use Rattle.std.specs.Prelude.{Option, Some, option_map, if◌then◌else◌}
use Rattle.std.specs.Option.{option_and_then}
use Rattle.std.specs.List.{find, filter_map}
use Rattle.luau_tree.specs.declared.position.Span.{Span}
use Rattle.luau_tree.specs.Tree.{Block, Expr, the_expr, Exprs, Call}
use Rattle.luau_tree.specs.Nodes.{Node, AnExpr, ABody, ABind, exprs_among, exprs_in, expr_number, nodes_of_block}
use Rattle.luau_scope.specs.declared.reading.RequireSite.{RequireSite}
use Rattle.luau_scope.specs.declared.reading.Use.TheVariants.{Global}
use Rattle.luau_scope.specs.Found.{Found, Declares, Means, Captures, Assigns, RequiresModule, Continues, Refuses}
use Rattle.luau_scope.specs.Finds.{around_module, found_in, id_of}
use Rattle.luau_scope.specs.Locals.{a_require, uses_of, requires_of}
use Rattle.luau_scope.proofs.InOrder.{uses_are_of_expressions}
use Rattle.luau_run.specs.ReadModule.{UseGlobal}
use Rattle.type_arena.specs.Term.{Term}
use Rattle.type_decl.specs.Signatures.{Signature}
use Rattle.report_rules.specs.Rules.{use_of}
use Rattle.module_reading.specs.Names.{meaning_of}
use Rattle.module_reading.specs.Readings.{required_at}
use Rattle.module_reading.specs.ReadRules.{rules_of}
use Rattle.tree_readings.specs.Apart.{StandsApart}
use Rattle.module_reading.proofs.Lists.{Has, fewer_distinct, same_item}
use Rattle.reading_fits.proofs.Whole.{use_first, found_use}
use Rattle.reading_fits.proofs.Requires.{Called}
use Rattle.reading_fits.proofs.Requires as requires

node_among : (nodes : List Node) (e : Expr) → Has nodes (AnExpr e) → Has (exprs_among nodes) e
node_among [] e h = h
node_among (AnExpr f ∷ nodes) e (inl q) = inl (let z : f ≡ e = cc in z)
node_among (AnExpr f ∷ nodes) e (inr h) = inr (node_among nodes e h)
node_among (ABody b ∷ nodes) e (inl q) = cc
node_among (ABody b ∷ nodes) e (inr h) = node_among nodes e h
node_among (ABind b ∷ nodes) e (inl q) = cc
node_among (ABind b ∷ nodes) e (inr h) = node_among nodes e h

site_found : (f : List Found) (site : RequireSite) → Has (filter_map a_require f) site → Has f (RequiresModule site)
site_found [] site h = h
site_found (RequiresModule other ∷ f) site (inl e) = inl (ap RequiresModule e)
site_found (RequiresModule other ∷ f) site (inr h) = inr (site_found f site h)
site_found (Means at meaning ∷ f) site h = inr (site_found f site h)
site_found (Declares name span function given ∷ f) site h = inr (site_found f site h)
site_found (Captures local ∷ f) site h = inr (site_found f site h)
site_found (Assigns local ∷ f) site h = inr (site_found f site h)
site_found (Continues place before ∷ f) site h = inr (site_found f site h)
site_found (Refuses why place ∷ f) site h = inr (site_found f site h)

-- the static require with a number
found_site : (sites : List RequireSite) (leads : List ℕ → Option ℕ) (id other : ℕ) → required_at sites leads id ≡ Some other → (site : RequireSite) × Has sites site × (site.at.0 ≡ id)
found_site [] leads id other e = cc
found_site (s ∷ sites) leads id other e = by_test (s.at.0 == id) refl e (found_site sites leads id other)
  where
    by_test : (b : Bool) → (s.at.0 == id) ≡ b → option_and_then (λ site. leads site.text) (if b then Some s else find (λ site. site.at.0 == id) sites) ≡ Some other
        → (required_at sites leads id ≡ Some other → (site : RequireSite) × Has sites site × (site.at.0 ≡ id)) → (site : RequireSite) × Has (s ∷ sites) site × (site.at.0 ≡ id)
    by_test true q k next = (s, inl refl, eqb-true s.at.0 id q)
    by_test false q k next = let r = next k in (r.0, inr r.1, r.2)

-- what the callee of a static require stands for
pub callee_is_global : (paths : List (List ℕ)) (home : ℕ) (x : Block) (leads : List ℕ → Option ℕ) (table : List (List ℕ × Signature)) (import : ℕ → Term) (id : ℕ) (span : Span) (callee : Expr) (args : Exprs) (other : ℕ) → StandsApart x
    → Has (exprs_in x) (the_expr id span (Call callee args)) → required_at (requires_of paths x) leads id ≡ Some other → use_of (rules_of paths home x leads table import) callee ≡ Some UseGlobal
callee_is_global paths home x leads table import id span callee args other apart h e =
    let r = found_site (requires_of paths x) leads id other e in
    let c : Called (nodes_of_block x) (found_in paths x) r.0.at = (requires.block (around_module paths) x 0).called r.0 (site_found (found_in paths x) r.0 r.1) in
    let same : the_expr r.0.at.0 c.span (Call c.callee c.args) ≡ the_expr id span (Call callee args) =
    same_item expr_number (exprs_in x) (the_expr r.0.at.0 c.span (Call c.callee c.args)) (the_expr id span (Call callee args)) apart.exprs (node_among (nodes_of_block x) _ c.node) h r.2 in
    let callees : c.callee ≡ callee = cc in
    subst (λ (f : Expr). use_of (rules_of paths home x leads table import) f ≡ Some UseGlobal) callees (said c.callee c.global)
  where
    said : (f : Expr) → Has (found_in paths x) (Means (id_of f) Global) → use_of (rules_of paths home x leads table import) f ≡ Some UseGlobal
    said (the_expr i s kind) k =
        ap (option_map meaning_of) (use_first (uses_of paths x) (record { 0 = i }) Global (fewer_distinct (uses_are_of_expressions paths x) apart.exprs) (found_use (found_in paths x) (record { 0 = i }) Global k))
