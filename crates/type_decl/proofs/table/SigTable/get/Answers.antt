use Rattle.std.proofs.Common.{rules}
use Rattle.std.proofs.lemmas.Fn.{always_returns_same}
use Rattle.std.proofs.lemmas.List.Sorted.{searchable_from_sorted}
use Rattle.std.specs.Cmp.Lexicographic.{nat_list_cmp_total}
use Rattle.luau_tree.specs.Sorted.{bytes_cmp, IsAscending}
use Rattle.luau_tree.proofs.PathLemmas.{sorted_from_ascending}
use Rattle.std.proofs.Common.{ℕ, List, sym, subst}
use Rattle.type_arena.specs.Meaning.{term_of}
use Rattle.type_decl.specs.Tables.{alone, meant}
use Rattle.type_decl.proofs.Lookup.{get_found, get_none}
use Rattle.type_decl.proofs.table.SigTable.get.Goals as goal

pub returns-in-Ok-clause-means : goal.returns-in-Ok-clause-means
returns-in-Ok-clause-means c =
    get_found (meant (term_of (alone c.args.self.now.arena))) c.args.self.now.paths c.as_slice.result.now c.args.self.now.sigs c.as_slice-in-Ok.result.now c.args.name.now c.in-Ok.at c.index-as_slice-at.result
    c.as_slice.ensures.paths c.as_slice-in-Ok.ensures c.in-Ok.ensures.bound c.args.self.now.as_many c.as_slice.ensures.ascending
    (c.in-Ok.ensures.position (λ other. bytes_cmp other c.args.name.now) (always_returns_same _ _ _ (λ a r f called. search rules)) c.args.name.now)
    c.index-as_slice-at.is

pub returns-in-Err-clause-means : goal.returns-in-Err-clause-means
returns-in-Err-clause-means c =
    let shown : IsAscending c.as_slice.result.now = subst (λ (ps : List (List ℕ)). IsAscending ps) (sym c.as_slice.ensures.paths) c.as_slice.ensures.ascending in
    let part =
    c.in-Err.ensures.position (λ other. bytes_cmp other c.args.name.now) (always_returns_same _ _ _ (λ a r f called. search rules))
    (searchable_from_sorted nat_list_cmp_total (λ (p : List ℕ). p) c.as_slice.result.now c.args.name.now (sorted_from_ascending c.as_slice.result.now shown)) in
    get_none (meant (term_of (alone c.args.self.now.arena))) c.args.self.now.paths c.as_slice.result.now c.args.self.now.sigs c.args.name.now c.in-Err.field-0 c.as_slice.ensures.paths part.0 part.1
